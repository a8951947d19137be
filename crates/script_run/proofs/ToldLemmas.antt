-- What is told, where the shelf and the disk tell.
use Rattle.std.proofs.Common.{◌≡◌, ℕ, Bool, true, false, cond, List, [], ◌∷◌, Option, None, Some, IfSome, refl, sym, ap, ◌∙◌, subst}
use Rattle.std.specs.Prelude.{All}
use Rattle.std.specs.List.{AllZip}
use Rattle.std.proofs.lemmas.List.Elements.{All-nil, All-head, All-weaker}
use Rattle.row_defs.specs.Inputs.{Inputs}
use Rattle.dia_edge.specs.Shelves.{Holdings}
use Rattle.block_pool.specs.Handles.{PoolName, HandValue, Follows}
use Rattle.scatter.specs.Nets.{AreOfOnePool}
use Rattle.scatter.specs.Told.{Tells}
use Rattle.script_run.specs.Held.{told_in, tells_of, told_by}

-- a choice that told something was made for it
told_where : {A : Type 0} (b : Bool) (o : Option A) (x : A) → cond b o None ≡ Some x → (b ≡ true) × (o ≡ Some x)
told_where true o x told = (refl, told)
told_where false o x told = let wrong : ⊥ = cc in absurd wrong

pub told_parts : (told : Option Inputs) (hands : List HandValue) (inputs : Inputs) → told_by told hands ≡ Some inputs → (tells_of hands ≡ true) × (told ≡ Some inputs)
told_parts told hands inputs is = told_where (tells_of hands) told inputs is

pub shelf_parts : (holds : Option Holdings) (fixed : Bool) (inputs : Inputs) → told_in holds fixed ≡ Some inputs → (fixed ≡ true) × (holds ≡ Some inputs)
shelf_parts holds fixed inputs is = told_where fixed holds inputs is

-- hands of one pool all tell where the first does
pub all_tells : (hands : List HandValue) → AreOfOnePool hands → tells_of hands ≡ true → All Tells hands
all_tells [] one tells = All-nil Tells
all_tells (a ∷ hands) one tells =
    let InPool : HandValue → Type 0 = λ h. h.pool ≡ one.pool in
    let first : a.pool ≡ one.pool = All-head InPool a hands one.all in
    All-weaker InPool Tells (λ h same. ap (λ (p : PoolName). p.opening.tells) (same ∙ sym first) ∙ tells) (a ∷ hands) one.all

pub tells_still : (hands now : List HandValue) → AllZip Follows hands now → tells_of now ≡ tells_of hands
tells_still [] [] all = refl
tells_still [] (b ∷ now) all = absurd all
tells_still (a ∷ hands) [] all = absurd all
tells_still (a ∷ hands) (b ∷ now) all = ap (λ (p : PoolName). p.opening.tells) all.0.pool

-- what was told is told still
pub told_still : (holds holds_now : Option Holdings) (fixed fixed_now : Bool) (hands now : List HandValue)
    → (fixed ≡ true → (fixed_now ≡ true) × (holds_now ≡ holds)) → AllZip Follows hands now
    → (inputs : Inputs) → told_by (told_in holds fixed) hands ≡ Some inputs → told_by (told_in holds_now fixed_now) now ≡ Some inputs
told_still holds holds_now fixed fixed_now hands now still follows inputs told =
    let t = told_parts (told_in holds fixed) hands inputs told in
    let s = shelf_parts holds fixed inputs t.1 in
    let k = still s.0 in
    let tells : tells_of now ≡ true = tells_still hands now follows ∙ t.0 in
    let shelf : told_in holds_now fixed_now ≡ Some inputs = ap (λ (b : Bool). cond b holds_now None) k.0 ∙ k.1 ∙ s.1 in
    ap (λ (b : Bool). cond b (told_in holds_now fixed_now) None) tells ∙ shelf

-- what is said of the input where it is told
pub told_input : (holds : Option Holdings) (fixed : Bool) (inputs : Inputs) (P : Option (List ℕ) → Type 0) (input : List ℕ) → told_in holds fixed ≡ Some inputs
    → (fixed ≡ true → IfSome holds (λ held. P (held input))) → P (inputs input)
told_input holds fixed inputs P input told says =
    let t = shelf_parts holds fixed inputs told in
    let Holds : Option Holdings → Type 0 = λ o. IfSome o (λ held. P (held input)) in subst Holds t.1 (says t.0)
