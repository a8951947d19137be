-- What the words of a command line mean.
use Rattle.std.specs.Prelude.{ℕ, ◌+◌, ◌==◌, nat_le, Bool, false, not, ◌&&◌, List, [], ◌∷◌, take, drop, position, Option, None, Some, if◌then◌else◌, codes}
use Rattle.std.specs.List.{filter_map}
use Rattle.std.specs.Str.{bytes_eq}
use Rattle.row_defs.specs.Texts.{number_spelled}
use Rattle.job_words.specs.declared.command.Command.{Command}
use Rattle.job_words.specs.declared.command.Command.TheVariants.{Run}
use Rattle.job_words.specs.declared.setting.Setting.{Setting}
use Rattle.job_words.specs.declared.setting.Setting.TheVariants.{Workers, Pool, Block, Schedule}
use Rattle.job_words.specs.Settings.{OptionRow, row_of, is_option}

-- a script's name isn't empty and doesn't begin with `-`
abbrev pub is_script_name : List ℕ → Bool
is_script_name [] = false
is_script_name (b ∷ name) = not (b == 45)

-- items ---------------------------------------------------------------------------------------------------------

-- what the words behind `run` are cut into: a plain word, or an option's name and its value
pub data Item : Type 0 where
  plain : List ℕ → Item
  given : List ℕ → List ℕ → Item

-- a word that is cut at its first `=`, where it has one
abbrev pub item_cut : List ℕ → Option ℕ → Item
item_cut word None = plain word
item_cut word (Some at) = if is_option (take at word) then given (take at word) (drop (at + 1) word) else plain word

-- NAME=VALUE with an option's name, or else a plain word
abbrev pub item_of : List ℕ → Item
item_of word = item_cut word (position (λ b. b == 61) word)

-- an option's name and then its value, whatever it looks like, are one item; each other word is one
abbrev pub items_of : List (List ℕ) → List Item
items_of [] = []
items_of (word ∷ []) = item_of word ∷ []
items_of (word ∷ value ∷ words) =
    if is_option word then given word value ∷ items_of words else item_of word ∷ items_of (value ∷ words)

-- what items say -------------------------------------------------------------------------------------------------

abbrev pub plain_word : Item → Option (List ℕ)
plain_word (plain word) = Some word
plain_word (given name value) = None

abbrev pub plain_words : List Item → List (List ℕ)
plain_words items = filter_map plain_word items

abbrev pub value_for : List ℕ → Item → Option (List ℕ)
value_for option (plain word) = None
value_for option (given name value) = if bytes_eq name option then Some value else None

-- the values that are given for the option of this name
abbrev pub values_for : List ℕ → List Item → List (List ℕ)
values_for option items = filter_map (value_for option) items

-- exactly one plain word, which is a script's name
abbrev pub script_among : List (List ℕ) → Option (List ℕ)
script_among (word ∷ []) = if is_script_name word then Some word else None
script_among words = None

abbrev pub in_range : OptionRow → Option ℕ → Option ℕ
in_range row (Some n) = if nat_le row.least n && nat_le n row.most then Some n else None
in_range row None = None

-- no value, for which the default stands, or one, which is a number in range
abbrev pub number_among : OptionRow → List (List ℕ) → Option ℕ
number_among row [] = Some row.default
number_among row (value ∷ []) = in_range row (number_spelled value)
number_among row values = None

abbrev pub number_for : Setting → List Item → Option ℕ
number_for setting items = number_among (row_of setting) (values_for (row_of setting).name items)

-- what the words mean ----------------------------------------------------------------------------------------------

abbrev pub run_with : Option (List ℕ) → Option ℕ → Option ℕ → Option ℕ → Option ℕ → Option Command
run_with (Some script) (Some workers) (Some limit) (Some block) (Some schedule) =
    Some (Run (record { script = script; workers = workers; limit = limit; block = block; schedule = schedule }))
run_with script workers limit block schedule = None

-- a script, and a number for each setting
abbrev pub run_of : List Item → Option Command
run_of items =
    run_with (script_among (plain_words items)) (number_for Workers items) (number_for Pool items) (number_for Block items) (number_for Schedule items)

-- `run` and its items; every other list of words means nothing
abbrev pub words_mean : List (List ℕ) → Option Command
words_mean [] = None
words_mean (command ∷ words) = if bytes_eq command (codes "run") then run_of (items_of words) else None
