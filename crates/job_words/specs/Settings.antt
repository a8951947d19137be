-- The options of `run`: one row a setting.
use Rattle.std.specs.Prelude.{ℕ, Bool, List, [], ◌∷◌, codes}
use Rattle.std.specs.List.{list_any}
use Rattle.std.specs.Str.{bytes_eq}
use Rattle.job_words.specs.declared.limits.TheConstants.{LEAST_WORKERS, MOST_WORKERS, DEFAULT_WORKERS, LEAST_POOL, MOST_POOL, DEFAULT_POOL, LEAST_BLOCK, MOST_BLOCK, DEFAULT_BLOCK, LEAST_SCHEDULE, MOST_SCHEDULE, DEFAULT_SCHEDULE}
use Rattle.job_words.specs.declared.setting.Setting.{Setting}
use Rattle.job_words.specs.declared.setting.Setting.TheVariants.{Workers, Pool, Block, Schedule}

-- an option's name, the least and the most that its value may be, and the value where none is given
pub record OptionRow : Type 0 where
  pub name : List ℕ
  pub least : ℕ
  pub most : ℕ
  pub default : ℕ

abbrev pub row_of : Setting → OptionRow
row_of Workers = record { name = codes "--workers"; least = LEAST_WORKERS; most = MOST_WORKERS; default = DEFAULT_WORKERS }
row_of Pool = record { name = codes "--pool"; least = LEAST_POOL; most = MOST_POOL; default = DEFAULT_POOL }
row_of Block = record { name = codes "--block"; least = LEAST_BLOCK; most = MOST_BLOCK; default = DEFAULT_BLOCK }
row_of Schedule = record { name = codes "--schedule"; least = LEAST_SCHEDULE; most = MOST_SCHEDULE; default = DEFAULT_SCHEDULE }

abbrev pub settings : List Setting
settings = Workers ∷ Pool ∷ Block ∷ Schedule ∷ []

-- whether a word is an option's name
abbrev pub is_option : List ℕ → Bool
is_option word = list_any (λ setting. bytes_eq (row_of setting).name word) settings
