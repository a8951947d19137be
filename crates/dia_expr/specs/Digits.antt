-- Numbers read digit by digit.
use Rattle.std.specs.Prelude.{ℕ, ◌+◌, ◌*◌, ◌-◌, ◌^◌, nat_lt, ◌&&◌, List, Option, None, Some, if◌then◌else◌}
use Rattle.std.specs.List.{list_all}
use Rattle.row_defs.specs.Texts.{is_decimal, number_after}

-- one digit more, within 64 bits
abbrev pub with_digit : ℕ → ℕ → Option ℕ
with_digit n b = if is_decimal b && nat_lt (n * 10 + (b - 48)) (2 ^ 64) then Some (n * 10 + (b - 48)) else None

-- the number whose digits are those of n and then these, within 64 bits
abbrev pub with_digits : ℕ → List ℕ → Option ℕ
with_digits n bytes = if list_all is_decimal bytes && nat_lt (number_after n bytes) (2 ^ 64) then Some (number_after n bytes) else None
