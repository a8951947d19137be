-- How the items of the code are items, and what a search among them finds.
use Rattle.std.specs.Prelude.{List, [], ◌∷◌}
use Rattle.job_words.specs.declared.items.Item as code
use Rattle.job_words.specs.declared.items.Item.TheVariants.{Plain, Given}
use Rattle.job_words.specs.declared.few.Few.{Few}
use Rattle.job_words.specs.declared.few.Few.TheVariants as few
use Rattle.job_words.specs.Words.{Item, plain, given}

abbrev pub item_view : code.Item → Item
item_view (Plain word) = plain word.now
item_view (Given name value) = given name.now value.now

-- none, one, or more of these
abbrev pub few_of : {A : Type 0} → List A → Few A
few_of [] = few.None
few_of (x ∷ []) = few.One x
few_of (x ∷ y ∷ more) = few.More

abbrev pub few_map : {A B : Type 0} → (A → B) → Few A → Few B
few_map f few.None = few.None
few_map f (few.One x) = few.One (f x)
few_map f few.More = few.More

-- one more than there are
abbrev pub with_one : {A : Type 0} → A → Few A → Few A
with_one x few.None = few.One x
with_one x behind = few.More
