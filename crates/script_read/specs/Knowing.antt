-- What is known before a line, as the definitions see it.
use Rattle.std.specs.Prelude.{ℕ, Bool, List, map, Option, find}
use Rattle.std.specs.Borrow.{Bor}
use Rattle.std.specs.Str.{bytes_eq}
use Rattle.row_defs.specs.declared.kind.Kind.{Kind}
use Rattle.script_defs.specs.Reading.{Earlier, Known}
use Rattle.dia_item.specs.declared.kinds.Kinds as kinds
use Rattle.dia_item.specs.KindList.{kind_list}
use Rattle.script_read.specs.declared.known.Earlier as earliers
use Rattle.script_read.specs.declared.known.Known as knowns

abbrev pub earlier_in : earliers.Earlier → Earlier
earlier_in e = record { number = e.number; name = e.name; kinds = kind_list e.kinds }

abbrev pub earlier_at : Bor earliers.Earlier → Earlier
earlier_at e = earlier_in e.now

abbrev pub kinds_at : Bor kinds.Kinds → List Kind
kinds_at k = kind_list k.now

abbrev pub kind_at : Bor Kind → Kind
kind_at k = k.now

abbrev pub known_in : knowns.Known → Known
known_in k = record { lines = map earlier_in k.lines.items }

-- whether an earlier line has the name
abbrev pub named_in : List ℕ → earliers.Earlier → Bool
named_in word e = bytes_eq e.name word

-- the line with the name among these
abbrev pub named_among : List earliers.Earlier → List ℕ → Option Earlier
named_among lines word = find (λ (e : Earlier). bytes_eq e.name word) (map earlier_in lines)
