-- One of a kind, or not.
use Rattle.std.proofs.Common.{◌≡◌, ℕ, List, [], ◌∷◌, None, Some, ◌⊎◌, inl, inr, refl, ap}
use Rattle.row_defs.specs.Texts.{number_spelled}
use Rattle.job_words.specs.declared.few.Few.{Few}
use Rattle.job_words.specs.declared.few.Few.TheVariants as few
use Rattle.job_words.specs.Settings.{OptionRow}
use Rattle.job_words.specs.Words.{Item, script_among, in_range, number_among, value_for, values_for}
use Rattle.job_words.specs.Cutting.{few_of, few_map, with_one}

module _ {A B : Type 0} (f : A → B) where
  pub one_more : (x : A) (behind : Few A) (values : List B) → few_map f behind ≡ few_of values → few_map f (with_one x behind) ≡ few_of (f x ∷ values)
  one_more x few.None [] is = refl
  one_more x few.None (v ∷ []) is = absurd cc
  one_more x few.None (v ∷ w ∷ values) is = absurd cc
  one_more x (few.One y) [] is = absurd cc
  one_more x (few.One y) (v ∷ values) is = refl
  one_more x few.More [] is = absurd cc
  one_more x few.More (v ∷ values) is = refl

  pub none_there : (values : List B) → few_map f few.None ≡ few_of values → values ≡ []
  none_there [] is = refl
  none_there (v ∷ []) is = absurd cc
  none_there (v ∷ w ∷ values) is = absurd cc

  pub one_there : (x : A) (values : List B) → few_map f (few.One x) ≡ few_of values → values ≡ f x ∷ []
  one_there x [] is = absurd cc
  one_there x (v ∷ []) is = cc
  one_there x (v ∷ w ∷ values) is = absurd cc

module _ {A : Type 0} (f : A → List ℕ) where
  script_of_none : (words : List (List ℕ)) → few_map f few.None ≡ few_of words → script_among words ≡ None
  script_of_none [] is = refl
  script_of_none (v ∷ []) is = absurd cc
  script_of_none (v ∷ w ∷ words) is = refl

  pub script_of_one : (x : A) (words : List (List ℕ)) → few_map f (few.One x) ≡ few_of words → script_among words ≡ script_among (f x ∷ [])
  script_of_one x words is = ap script_among (one_there f x words is)

  script_of_more : (words : List (List ℕ)) → few_map f few.More ≡ few_of words → script_among words ≡ None
  script_of_more [] is = refl
  script_of_more (v ∷ []) is = absurd cc
  script_of_more (v ∷ w ∷ words) is = refl

  pub script_of_rest : (found : Few A) (words : List (List ℕ)) → (found ≡ few.None) ⊎ (found ≡ few.More) → few_map f found ≡ few_of words → script_among words ≡ None
  script_of_rest few.None words is are = script_of_none words are
  script_of_rest (few.One x) words (inl is) are = absurd cc
  script_of_rest (few.One x) words (inr is) are = absurd cc
  script_of_rest few.More words is are = script_of_more words are

  pub number_of_none : (row : OptionRow) (values : List (List ℕ)) → few_map f few.None ≡ few_of values → number_among row values ≡ Some row.default
  number_of_none row values is = ap (number_among row) (none_there f values is)

  pub number_of_one : (row : OptionRow) (x : A) (values : List (List ℕ)) → few_map f (few.One x) ≡ few_of values → number_among row values ≡ in_range row (number_spelled (f x))
  number_of_one row x values is = ap (number_among row) (one_there f x values is)

  pub number_of_more : (row : OptionRow) (values : List (List ℕ)) → few_map f few.More ≡ few_of values → number_among row values ≡ None
  number_of_more row [] is = absurd cc
  number_of_more row (v ∷ []) is = absurd cc
  number_of_more row (v ∷ w ∷ values) is = refl

-- an item gives one value more, or none
pub given_more : (option value : List ℕ) (item : Item) (items : List Item) → value_for option item ≡ Some value → values_for option (item ∷ items) ≡ value ∷ values_for option items
given_more option value item items is = rw is refl

pub given_none : (option : List ℕ) (item : Item) (items : List Item) → value_for option item ≡ None → values_for option (item ∷ items) ≡ values_for option items
given_none option item items is = rw is refl
