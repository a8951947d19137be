use Rattle.std.proofs.Common.{◌≡◌, sym, subst, ap, ◌∙◌}
use Rattle.row_defs.specs.Pieces.{words_of}
use Rattle.script_defs.specs.Reading.{is_printable, is_skipped_words, Sentence, sentence_of}
use Rattle.script_read.specs.Accepting.{AreTexts}
use Rattle.script_read.specs.Knowing.{known_in}
use Rattle.script_read.specs.Sentences.{sentence_in, words_in}
use Rattle.script_read.proofs.LineLemmas.{line_reading-parts}
use Rattle.script_read.proofs.Printables.{all_pass-words, sentence_texts}
use Rattle.script_read.proofs.line.read_line.Goals as goal

pub read_sentence-requires : goal.read_sentence-requires
read_sentence-requires c = λ printable.
    let parts : sentence_in c.parts_of.result ≡ sentence_of (words_of c.args.line.now) =
    c.parts_of.ensures ∙ ap sentence_of (ap words_in c.as_slice-2.ensures.value ∙ c.in_ok-words.ensures) in
    let P : Sentence → Type 0 = λ s. AreTexts s.defines s.args in
    subst P (sym parts) (sentence_texts (words_of c.args.line.now) (all_pass-words is_printable c.args.line.now printable))

pub returns : goal.returns
returns c =
    let parts : sentence_in c.parts_of.result ≡ sentence_of (words_of c.args.line.now) =
    c.parts_of.ensures ∙ ap sentence_of (ap words_in c.as_slice-2.ensures.value ∙ c.in_ok-words.ensures) in
    let stated = sym (ap (λ words. is_skipped_words (words_in words)) c.as_slice.ensures.value ∙ ap is_skipped_words c.in_ok-words.ensures)
    ∙ sym c.is_skipped.ensures ∙ c.if-is_skipped.false in
    rw (line_reading-parts (known_in c.args.known.now) c.args.line.now c.if-line-gt-LINE_LIMIT.false stated, ← parts) c.read_sentence.ensures
