use Rattle.std.proofs.Common.{◌≡◌, ◌+◌, ◌-◌, ◌<◌, ◌++◌, ℕ, List, length, take, drop, refl, sym, ap, ◌∙◌, subst, append_assoc, length-append, length-take, length-drop, arith}
use Rattle.std.proofs.lemmas.List.{take-append-drop}
use Rattle.std.proofs.Math.Seq.{length-take-le}
use Rattle.row_defs.specs.Rows.{IsRow}
use Rattle.dia_item.specs.KindList.{kind_list}
use Rattle.dia_item.specs.Sizes.{longest_row}
use Rattle.mix_stream.specs.Reading.{StartsNoRow}
use Rattle.mix_stream.specs.Streams.{shown_bytes, left_of}
use Rattle.mix_stream.specs.declared.stream.Stream.{Stream}
use Rattle.dia_file.proofs.PlaceLemmas.{few_kinds}
use Rattle.mix_stream.proofs.Bytes.{starts_none}
use Rattle.mix_stream.proofs.Finding.{gives_buffer, too_long}
use Rattle.mix_stream.proofs.Turning.{some_if}
use Rattle.mix_stream.proofs.find.across.Goals as goal

pub returns-in-Some-clause-some : goal.returns-in-Some-clause-some
returns-in-Some-clause-some c =
    let s = c.args.stream.now in
    let n = c.in-Some.len in
    let f = c.in-Some.ensures.found in
    let piece = c.split_at-2.result.0.now in
    let more = c.split_at-2.result.1.now in
    let t : Stream = record s { buffer = c.copy_behind.new.buffer; at = s.at + (n - s.pending); pending = 0 } in
    let parts : piece ++ more ≡ drop s.at (shown_bytes s.shown) = (λ i. c.split_at-2.ensures.front i ++ c.split_at-2.ensures.back i) ∙ take-append-drop c.min.result c.split_at.result.1.now ∙ c.split_at.ensures.back ∙ ap (drop s.at) c.bytes_shown-bytes.ensures in
    gives_buffer s t n f.0 piece more c.requires.inside c.requires.some c.in-Ok.ensures.items parts c.in-Some.ensures.len.0 (omega (arith, c.in-Some.ensures.len.1, ap length c.as_slice.ensures.value))
    (subst (λ (l : List ℕ). IsRow (kind_list s.kinds) (take n l) f.0) c.as_slice.ensures.value f.1) refl refl refl refl refl refl

pub returns-in-None-2-clause-refused : goal.returns-in-None-2-clause-refused
returns-in-None-2-clause-refused c =
    let s = c.args.stream.now in
    let hs : List ℕ = take s.pending s.buffer.items in
    let piece = c.split_at-2.result.0.now in
    let more = c.split_at-2.result.1.now in
    let rest = c.split_at.result.1.now in
    let bytes : List ℕ = c.copy_behind.new.buffer.items in
    let is : bytes ≡ hs ++ piece = c.in-Ok.ensures.items in
    let parts : piece ++ more ≡ drop s.at (shown_bytes s.shown) = (λ i. c.split_at-2.ensures.front i ++ c.split_at-2.ensures.back i) ∙ take-append-drop c.min.result rest ∙ c.split_at.ensures.back ∙ ap (drop s.at) c.bytes_shown-bytes.ensures in
    let left : left_of s ≡ bytes ++ more = ap (λ (l : List ℕ). hs ++ l) (sym parts) ∙ sym (append_assoc hs piece more) ∙ ap (λ (l : List ℕ). l ++ more) (sym is) in
    let copied : length hs ≡ s.pending = length-take-le s.pending s.buffer.items c.requires.inside.pending in
    let some : 0 < length more = some_if (length more) (sym c.is_empty.ensures ∙ c.if-is_empty.false) in
    let full : length bytes ≡ longest_row = omega (arith, ap length is, length-append hs piece, copied, ap length c.split_at-2.ensures.front, length-take c.min.result rest, ap length c.split_at-2.ensures.back, length-drop c.min.result rest, c.min.ensures, some, c.requires.inside.short) in
    let empty : StartsNoRow (kind_list s.kinds) bytes = subst (StartsNoRow (kind_list s.kinds)) c.as_slice.ensures.value c.in-None.ensures.none in
    too_long s bytes more left (omega (arith, full))
    (λ tail. starts_none (kind_list s.kinds) bytes (more ++ tail) (few_kinds s.kinds) (omega (arith, full)) (omega (arith, full, some, length-append more tail)) empty)
