-- What a scatter took, with its kinds.
use Rattle.std.proofs.Common.{◌≡◌, ◌∙◌, List, [], ◌∷◌, ℕ, sym, subst}
use Rattle.std.specs.Prelude.{Result, Ok, Err, OnOk}
use Rattle.row_defs.specs.declared.kind.Kind.{Kind}
use Rattle.row_defs.specs.Rows.{Row, kinds_of, IsRow}
use Rattle.dia_file.specs.Encoding.{spelled}
use Rattle.dia_file.proofs.RowBytes.{spelled_is}
use Rattle.multiplexer.specs.declared.post.Post.{Ghosts}
use Rattle.exchange.specs.declared.scatter_err.ScatterErr.{ScatterErr}
use Rattle.exchange.specs.Serving.{Asked, Answered, Accepts, ScatterValue, Took}
use Rattle.link.specs.Dealers.{TookOfKinds}

module _ {F P : Type 0} (pre : Asked F) (post : Answered F) (p : Ghosts P) where
  pub accepts_by : (s t : ScatterValue F P) (kinds : List Kind) → s ≡ t → Accepts pre post p s kinds → Accepts pre post p t kinds
  accepts_by s t kinds is h = subst (λ (u : ScatterValue F P). Accepts pre post p u kinds) is h

  -- a row that was taken is of the scatter's kinds
  pub took_of_kinds : {T : Type 0} (s u t : ScatterValue F P) (row : Row) (bytes : List ℕ) (answer : Result T ScatterErr) → s ≡ u → Accepts pre post p u (kinds_of row) → IsRow (kinds_of row) bytes row
      → OnOk answer ((kinds : List Kind) → Accepts pre post p s kinds → Accepts pre post p t kinds) → OnOk answer (Took post p s (row ∷ []) t) → OnOk answer (TookOfKinds post p u (row ∷ []) t)
  took_of_kinds s u t row bytes (Err e) is can spelt still took = tt
  took_of_kinds s u t row bytes (Ok x) is can spelt still took =
      let now = still (kinds_of row) (accepts_by u s (kinds_of row) (sym is) can) in
      let Spelt : List Kind → List ℕ → Type 0 = λ kinds b. IsRow kinds b row in
      record {
        took = subst (λ (v : ScatterValue F P). Took post p v (row ∷ []) t) is took;
        are = (subst (λ (kinds : List Kind). Spelt kinds (spelled row)) (sym can.0) (subst (Spelt (kinds_of row)) (spelled_is _ _ _ spelt) spelt), tt);
        kinds = now.0 ∙ sym can.0;
      }

  pub still_accepts : {T : Type 0} (s u t : ScatterValue F P) (answer : Result T ScatterErr) → s ≡ u → OnOk answer ((kinds : List Kind) → Accepts pre post p s kinds → Accepts pre post p t kinds)
      → OnOk answer ((kinds : List Kind) → Accepts pre post p u kinds → Accepts pre post p t kinds)
  still_accepts s u t (Err e) is h = tt
  still_accepts s u t (Ok x) is h = λ kinds can. h kinds (accepts_by u s kinds (sym is) can)

  pub accepted_then : {T : Type 0} (s u t : ScatterValue F P) (answer : Result T ScatterErr) → s ≡ u → OnOk answer ((kinds : List Kind) → Accepts pre post p t kinds → Accepts pre post p s kinds)
      → OnOk answer ((kinds : List Kind) → Accepts pre post p t kinds → Accepts pre post p u kinds)
  accepted_then s u t (Err e) is h = tt
  accepted_then s u t (Ok x) is h = λ kinds can. accepts_by s u kinds is (h kinds can)
