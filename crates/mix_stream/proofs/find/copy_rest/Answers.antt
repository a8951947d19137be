use Rattle.std.proofs.Common.{◌≡◌, ◌<◌, ℕ, List, [], length, drop, sym, ap, ◌∙◌, append-nil, arith}
use Rattle.dia_item.specs.KindList.{kind_list}
use Rattle.dia_item.specs.Sizes.{longest_row}
use Rattle.mix_stream.specs.Streams.{shown_bytes}
use Rattle.dia_file.proofs.PlaceLemmas.{few_kinds}
use Rattle.mix_stream.proofs.Bytes.{starts_none}
use Rattle.mix_stream.proofs.Finding.{none_copied, too_long}
use Rattle.mix_stream.proofs.find.copy_rest.Goals as goal

pub returns-then-rest-gt-LONGEST_ROW-clause-refused : goal.returns-then-rest-gt-LONGEST_ROW-clause-refused
returns-then-rest-gt-LONGEST_ROW-clause-refused c =
    let s = c.args.stream.now in
    let rest : List ℕ = drop s.at (shown_bytes s.shown) in
    let is : c.split_at.result.1.now ≡ rest = c.split_at.ensures.back ∙ ap (drop s.at) c.bytes_shown-bytes.ensures in
    let long : longest_row < length rest = omega (arith, c.if-rest-gt-LONGEST_ROW.true, ap length is) in
    too_long s rest [] (none_copied s rest c.requires.free ∙ sym (append-nil rest)) (omega (arith, long))
    (λ more. starts_none (kind_list s.kinds) rest more (few_kinds s.kinds) (omega (arith, long)) (omega (arith, long)) c.requires.none)
