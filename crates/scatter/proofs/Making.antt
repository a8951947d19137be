-- Feeds that are made one after the other.
use Rattle.std.proofs.Common.{◌≡◌, ℕ, suc, ◌+◌, ◌<◌, Bool, List, [], ◌∷◌, ◌++◌, map, length, drop, Option, None, Some, refl, sym, ap, ◌∙◌, subst, arith, length-append, append-nil}
use Rattle.std.specs.Prelude.{All}
use Rattle.std.proofs.lemmas.List.{map-append}
use Rattle.std.proofs.lemmas.List.Elements.{All-head, All-tail, All-drop}
use Rattle.row_defs.specs.LocalOps.{LocalOp}
use Rattle.dia_file.specs.Files.{FileValue}
use Rattle.collective.specs.Shares.{share_start, share_of, shares_of}
use Rattle.lop_chain.specs.Chains.{chain_ops}
use Rattle.lop_chain.specs.declared.chain.Chain.{Chain}
use Rattle.scatter.specs.Feeds.{FeedValue, number_rows, part_feed, number_feed}
use Rattle.scatter.specs.Lines.{AreChainsOf}
use Rattle.scatter.proofs.Counting.{share_is}
use Rattle.scatter.proofs.Rooted.{present}

pub yielded_all : {A : Type 0} (seen rest all : List A) → rest ≡ [] → seen ++ rest ≡ all → seen ≡ all
yielded_all seen rest all none parts = sym (append-nil seen) ∙ ap (λ r. seen ++ r) (sym none) ∙ parts

-- fewer were given than there are, where one more comes
pub not_all : {A : Type 0} (seen before after all : List A) (x : A) → before ≡ x ∷ after → seen ++ before ≡ all → length seen < length all
not_all seen before after all x is parts =
    let whole : length (seen ++ before) ≡ length all = ap length parts in
    let two = length-append seen before in
    let one : length before ≡ suc (length after) = ap length is in
    omega arith

All-back : {A : Type 0} (P : A → Type 0) (xs ys : List A) → All P (xs ++ ys) → All P ys
All-back P [] ys all = all
All-back P (x ∷ xs) ys all = All-back P xs ys (All-tail P x (xs ++ ys) all)

-- the lines of the next chain
pub next_ops : (ops : List LocalOp) (chains : List Chain) (n : ℕ) (chain : Chain) (rest : List Chain) → AreChainsOf ops chains → drop n chains ≡ chain ∷ rest → chain_ops chain ≡ ops
next_ops ops chains n chain rest are is =
    let P : Chain → Type 0 = λ c. chain_ops c ≡ ops in
    let Q : List Chain → Type 0 = λ cs. All P cs in
    All-head P chain rest (subst Q is (All-drop P n chains are))

pub chain_at : (ops : List LocalOp) (chains seen before after : List Chain) (chain : Chain) → AreChainsOf ops chains → before ≡ chain ∷ after → seen ++ before ≡ chains → chain_ops chain ≡ ops
chain_at ops chains seen before after chain are is parts =
    let P : Chain → Type 0 = λ c. chain_ops c ≡ ops in
    let Q : List Chain → Type 0 = λ cs. All P cs in
    All-head P chain after (subst Q is (All-back P seen before (subst Q (sym parts) are)))

present_push : {A : Type 0} (parts : List (Option A)) (x : A) → present (parts ++ Some x ∷ []) ≡ present parts ++ x ∷ []
present_push [] x = refl
present_push (None ∷ parts) x = present_push parts x
present_push (Some y ∷ parts) x = ap (λ ys. y ∷ ys) (present_push parts x)

pub more_parts : (last : Bool) (ops o : List LocalOp) (feeds : List FeedValue) (parts : List (Option FileValue)) (part : Option FileValue) (file : FileValue) (feed : FeedValue)
    → feeds ≡ map (part_feed last ops) (present parts) → part ≡ Some file → o ≡ ops → feed ≡ part_feed last o file
    → feeds ++ feed ∷ [] ≡ map (part_feed last ops) (present (parts ++ part ∷ []))
more_parts last ops o feeds parts part file feed before is same made =
    let here : feed ≡ part_feed last ops file = made ∙ ap (λ (l : List LocalOp). part_feed last l file) same in
    let files : present (parts ++ part ∷ []) ≡ present parts ++ file ∷ [] = ap (λ p. present (parts ++ p ∷ [])) is ∙ present_push parts file in
    ap (λ fs. fs ++ feed ∷ []) before ∙ ap (λ f. map (part_feed last ops) (present parts) ++ f ∷ []) here
    ∙ sym (map-append (part_feed last ops) (present parts) (file ∷ [])) ∙ ap (map (part_feed last ops)) (sym files)

pub more_numbers : (ops o : List LocalOp) (rows workers n start end : ℕ) (feeds : List FeedValue) (feed : FeedValue)
    → feeds ≡ map (number_feed ops) (shares_of (number_rows 0 rows) workers n) → o ≡ ops → feed ≡ number_feed o (number_rows start end)
    → start ≡ share_start rows workers n → end ≡ share_start rows workers (n + 1) → n < workers
    → feeds ++ feed ∷ [] ≡ map (number_feed ops) (shares_of (number_rows 0 rows) workers (suc n))
more_numbers ops o rows workers n start end feeds feed before same made low high less =
    let xs = number_rows 0 rows in
    let part : number_rows start end ≡ share_of xs workers n = ap (λ s. number_rows s end) low ∙ ap (λ e. number_rows (share_start rows workers n) e) high ∙ share_is rows workers n less in
    let here : feed ≡ number_feed ops (share_of xs workers n) = made ∙ ap (λ (l : List LocalOp). number_feed l (number_rows start end)) same ∙ ap (number_feed ops) part in
    ap (λ fs. fs ++ feed ∷ []) before ∙ ap (λ f. map (number_feed ops) (shares_of xs workers n) ++ f ∷ []) here
    ∙ sym (map-append (number_feed ops) (shares_of xs workers n) (share_of xs workers n ∷ []))
