-- The first words, of the first arguments.
use Rattle.std.proofs.Common.{◌≡◌, ℕ, ◌+◌, ◌<◌, List, [], ◌∷◌, ◌++◌, get_or, length, take, Vec, sym, ap, ◌∙◌, add-one}
use Rattle.std.proofs.Math.Seq.{take-suc}
use Rattle.std.proofs.lemmas.List.{get_or-map, length-map}
use Rattle.std.specs.declared.alloc.Global.{Global}
use Rattle.std.specs.Prelude.{Any}
use Rattle.main_words.specs.Arguments.{arguments, IsNotUtf8}

-- the argument at this place
pub argument_at : (args : List (Vec ℕ Global)) (i : ℕ) (arg : Vec ℕ Global) (d : List ℕ) → i < length args → arg ≡ get_or args i arg → get_or (arguments args) i d ≡ arg.items
argument_at args i arg d within is = get_or-map (λ (a : Vec ℕ Global). a.items) args i arg d within ∙ ap (λ (a : Vec ℕ Global). a.items) (sym is)

-- one word more
pub words_more : (args : List (Vec ℕ Global)) (i : ℕ) (arg : Vec ℕ Global) (words : List (List ℕ)) (word : List ℕ) → i < length args → arg ≡ get_or args i arg
    → words ≡ take i (arguments args) → word ≡ arg.items → words ++ word ∷ [] ≡ take (i + 1) (arguments args)
words_more args i arg words word within is so_far same =
    let inside : i < length (arguments args) = rw (length-map args (λ (a : Vec ℕ Global). a.items)) within in
    rw (add-one)
    (ap (λ (ws : List (List ℕ)). ws ++ word ∷ []) so_far
    ∙ ap (λ (w : List ℕ). take i (arguments args) ++ w ∷ []) (same ∙ sym (argument_at args i arg [] within is))
    ∙ sym (take-suc (arguments args) i [] inside))

-- an argument that isn't UTF-8 is among them
pub some_not_utf8 : (args : List (Vec ℕ Global)) (i : ℕ) (arg : Vec ℕ Global) → i < length args → arg ≡ get_or args i arg → IsNotUtf8 arg.items → Any IsNotUtf8 (arguments args)
some_not_utf8 args i arg within is not =
    (i, arg.items, rw (length-map args (λ (a : Vec ℕ Global). a.items)) within, argument_at args i arg arg.items within is, not)
