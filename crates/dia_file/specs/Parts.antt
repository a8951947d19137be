-- The bytes of a row that come in parts.
use Rattle.std.specs.Prelude.{ℕ, List, ◌++◌}
use Rattle.dia_file.specs.declared.sealed.Parts.{Parts}

abbrev pub bytes_of : Parts → List ℕ
bytes_of p = p.head.now ++ (p.prefix.now ++ p.rest.now)
