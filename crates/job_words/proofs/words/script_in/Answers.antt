use Rattle.std.proofs.Common.{Bor, sym, refl}
use Rattle.dia_edge.specs.declared.name.Name.{Name}
use Rattle.job_words.specs.Words.{plain_words, items_of}
use Rattle.job_words.proofs.FewLemmas.{script_of_one, script_of_rest}
use Rattle.job_words.proofs.words.script_in.Goals as goal

pub returns-then-is_script_name : goal.returns-then-is_script_name
returns-then-is_script_name c =
    rw (script_of_one (λ word. word.now) c.in-One.word (plain_words (items_of c.args.words.now)) c.in-One.ensures, ← c.text.ensures, ← c.as_bytes.ensures.value, ← c.if-is_script_name.ensures) refl

pub returns-else-is_script_name : goal.returns-else-is_script_name
returns-else-is_script_name c =
    rw (script_of_one (λ word. word.now) c.in-One.word (plain_words (items_of c.args.words.now)) c.in-One.ensures, ← c.text.ensures, ← c.as_bytes.ensures.value, ← c.if-is_script_name.ensures) refl

pub returns-in-None : goal.returns-in-None
returns-in-None c = sym (script_of_rest (λ (word : Bor Name). word.now) c.plain_among.result (plain_words (items_of c.args.words.now)) c.in-None.is c.plain_among.ensures)
