-- Rows in what is open.
use Rattle.std.proofs.Common.{◌≡◌, ℕ, ◌+◌, ◌-◌, ◌<◌, ◌≤◌, List, [], ◌++◌, length, take, drop, refl, sym, ap, ◌∙◌, subst, length-append, length-drop, lt_of_not-le, append-nil, append_assoc, eq-eqb, cond, Bool, arith}
use Rattle.std.proofs.lemmas.List.{drop-drop, take-append-drop, take-append-le}
use Rattle.std.proofs.Math.Seq.{drop-append-add, drop-length, length-take-le, take-length}
use native.Mathlib.Decide.{dec_le}
use mathlib.Core.Logic.{dite}
use Rattle.row_defs.specs.Rows.{Row, IsRow}
use Rattle.dia_item.specs.KindList.{kind_list}
use Rattle.dia_item.specs.Sizes.{longest_row}
use Rattle.dia_item.specs.declared.kinds.Kinds.{Kinds}
use Rattle.dia_file.specs.Encoding.{spelled}
use Rattle.dia_file.proofs.RowBytes.{spelled_is, is_spelled}
use Rattle.mix_stream.specs.Packets.{bytes_from}
use Rattle.mix_stream.specs.Reading.{bytes_of, IsDamaged, StartsNoRow}
use Rattle.mix_stream.specs.Streams.{shown_bytes, left_of, reading_of, IsInside, IsSameBut, Gives}
use Rattle.mix_stream.specs.declared.stream.Stream.{Stream}
use Rattle.mix_stream.specs.declared.stream.RowPlace.TheVariants.{InBlock, InBuffer}

-- nothing was copied
pub none_copied : (s : Stream) (l : List ℕ) → s.pending ≡ 0 → take s.pending s.buffer.items ++ l ≡ l
none_copied s l free = ap (λ (k : ℕ). take k s.buffer.items ++ l) free

-- a row in the rest of the block
pub gives_block :
    (s : Stream) (n : ℕ) (row : Row) (rest : List ℕ) → IsInside s → s.pending ≡ 0 → rest ≡ drop s.at (shown_bytes s.shown) → 0 < n → n ≤ length rest → IsRow (kind_list s.kinds) (take n rest) row
    → Gives s (InBlock s.at n) (record s { at = s.at + n })
gives_block s n row rest inside free is some le f =
    let bytes = shown_bytes s.shown in
    let d = drop s.at bytes in
    let here : IsRow (kind_list s.kinds) (take n d) row = subst (λ (l : List ℕ). IsRow (kind_list s.kinds) (take n l) row) is f in
    let spells : take n d ≡ spelled row = spelled_is (kind_list s.kinds) (take n d) row here in
    let fits : s.at + n ≤ length bytes = let i = inside.at in omega (arith, ap length is, length-drop s.at bytes) in
    let long : length (take n d) ≡ n = length-take-le n d (omega (arith, ap length is)) in
    record {
      kinds = refl;
      from = refl;
      shown = refl;
      packets = refl;
      inside = record { at = fits; pending = inside.pending; short = inside.short; begun = inside.begun };
      row = row;
      is_row = is_spelled (kind_list s.kinds) (take n d) row here;
      some = omega (arith, ap length spells, long);
      lies = (fits, sym spells);
      left = none_copied s d free ∙ sym (take-append-drop n d) ∙ ap (λ (l : List ℕ). l ++ drop n d) spells ∙ ap (λ (l : List ℕ). spelled row ++ l) (drop-drop n s.at bytes ∙ sym (none_copied s (drop (s.at + n) bytes) free));
    }

-- a row that is found in the bytes copied and those of the block ends in the block
ends_behind :
    (s : Stream) (n : ℕ) (row : Row) (both more : List ℕ) → IsInside s → 0 < s.pending → both ≡ take s.pending s.buffer.items ++ more → IsRow (kind_list s.kinds) (take n both) row → s.pending ≤ n
ends_behind s n row both more inside some is f = dite (dec_le s.pending n) (λ le. le) (λ no.
    let lt : n < s.pending = lt_of_not-le no in
    let hs = take s.pending s.buffer.items in
    let long : length hs ≡ s.pending = length-take-le s.pending s.buffer.items inside.pending in
    absurd (inside.begun some row n (subst (λ (l : List ℕ). IsRow (kind_list s.kinds) l row) (ap (take n) is ∙ take-append-le n hs more (omega arith)) f)))

-- a row in the buffer, into which a piece of the block was copied
pub gives_buffer :
    (s t : Stream) (n : ℕ) (row : Row) (piece more : List ℕ) → IsInside s → 0 < s.pending → t.buffer.items ≡ take s.pending s.buffer.items ++ piece → piece ++ more ≡ drop s.at (shown_bytes s.shown)
    → 0 < n → n ≤ length t.buffer.items → IsRow (kind_list s.kinds) (take n t.buffer.items) row
    → t.kinds ≡ s.kinds → t.shown ≡ s.shown → t.from ≡ s.from → t.packets ≡ s.packets → t.pending ≡ 0 → t.at ≡ s.at + (n - s.pending) → Gives s (InBuffer n) t
gives_buffer s t n row piece more inside some is parts positive le f kinds shown from packets free at =
    let hs = take s.pending s.buffer.items in
    let bytes = shown_bytes s.shown in
    let d = drop s.at bytes in
    let k = s.pending in
    let long : length hs ≡ k = length-take-le k s.buffer.items inside.pending in
    let behind : k ≤ n = ends_behind s n row t.buffer.items piece inside some is f in
    let room : s.at ≤ length bytes = inside.at in
    let fits : s.at + (n - k) ≤ length bytes = omega (arith, ap length is, length-append hs piece, length-append piece more, ap length parts, length-drop s.at bytes) in
    let m : n ≡ length hs + (n - k) = omega arith in
    let all : t.buffer.items ++ more ≡ hs ++ d = ap (λ (l : List ℕ). l ++ more) is ∙ append_assoc hs piece more ∙ ap (λ (l : List ℕ). hs ++ l) parts in
    let spells : take n t.buffer.items ≡ spelled row = spelled_is (kind_list s.kinds) (take n t.buffer.items) row f in
    let front : take n (hs ++ d) ≡ spelled row = ap (take n) (sym all) ∙ take-append-le n t.buffer.items more le ∙ spells in
    let tail : drop n (hs ++ d) ≡ drop (s.at + (n - k)) bytes = ap (λ (j : ℕ). drop j (hs ++ d)) m ∙ drop-append-add hs d (n - k) ∙ drop-drop (n - k) s.at bytes in
    let here : left_of t ≡ drop (s.at + (n - k)) bytes = none_copied t (drop t.at (shown_bytes t.shown)) free ∙ (λ i. drop (at i) (shown_bytes (shown i))) in
    record {
      kinds = kinds;
      from = from;
      shown = shown;
      packets = packets;
      inside = record {
        at = subst (λ (l : List ℕ). t.at ≤ length l) (ap shown_bytes (sym shown)) (omega (arith, at, fits));
        pending = omega arith;
        short = omega (arith, free);
        begun = λ lt. absurd (omega arith);
      };
      row = row;
      is_row = is_spelled (kind_list s.kinds) (take n t.buffer.items) row f;
      some = omega (arith, ap length spells, length-take-le n t.buffer.items le, positive);
      lies = (le, sym spells);
      left = sym (take-append-drop n (hs ++ d)) ∙ ap (λ (l : List ℕ). l ++ drop n (hs ++ d)) front ∙ ap (λ (l : List ℕ). spelled row ++ l) (tail ∙ sym here);
    }

-- all that is left of the packet was copied
pub copies_all :
    (s t : Stream) (rest : List ℕ) → t.kinds ≡ s.kinds → t.from ≡ s.from → t.shown ≡ s.shown → t.packets ≡ s.packets
    → t.buffer.items ≡ take s.pending s.buffer.items ++ rest → t.pending ≡ length t.buffer.items → t.at ≡ length (shown_bytes s.shown) → rest ≡ drop s.at (shown_bytes s.shown)
    → length t.buffer.items ≤ longest_row → StartsNoRow (kind_list s.kinds) t.buffer.items → IsSameBut s t
copies_all s t rest kinds from shown packets is pending at back short none =
    let whole : take t.pending t.buffer.items ≡ t.buffer.items = ap (λ (n : ℕ). take n t.buffer.items) pending ∙ take-length t.buffer.items in
    let end : drop t.at (shown_bytes t.shown) ≡ [] = (λ i. drop (at i) (shown_bytes (shown i))) ∙ drop-length (shown_bytes s.shown) in
    record {
      kinds = kinds;
      from = from;
      shown = shown;
      packets = packets;
      left = (λ i. whole i ++ end i) ∙ append-nil t.buffer.items ∙ is ∙ ap (λ (l : List ℕ). take s.pending s.buffer.items ++ l) back;
      inside = record {
        at = subst (λ (l : List ℕ). t.at ≤ length l) (ap shown_bytes (sym shown)) (omega (arith, at));
        pending = omega (arith, pending);
        short = omega (arith, pending, short);
        begun = λ lt. subst (λ (l : List ℕ). StartsNoRow (kind_list t.kinds) l) (sym whole) (subst (λ (x : Kinds). StartsNoRow (kind_list x) t.buffer.items) (sym kinds) none);
      };
    }

-- the bytes of the sender whose packet is read
pub of_open : (s : Stream) → bytes_of s.from (reading_of s) ≡ left_of s ++ bytes_from s.from s.packets.items
of_open s = ap (λ (c : Bool). cond c (left_of s) [] ++ bytes_from s.from s.packets.items) (eq-eqb s.from s.from refl)

-- too many bytes are left that begin with no row
pub too_long :
    (s : Stream) (bytes more : List ℕ) → left_of s ≡ bytes ++ more → 0 < length bytes → ((rest : List ℕ) → StartsNoRow (kind_list s.kinds) (bytes ++ (more ++ rest))) → IsDamaged (reading_of s)
too_long s bytes more is some none =
    let rest = bytes_from s.from s.packets.items in
    let all : bytes_of s.from (reading_of s) ≡ bytes ++ (more ++ rest) = of_open s ∙ ap (λ (l : List ℕ). l ++ rest) is ∙ append_assoc bytes more rest in
    (s.from, omega (arith, ap length all, length-append bytes (more ++ rest)), subst (StartsNoRow (kind_list s.kinds)) (sym all) (none rest))
