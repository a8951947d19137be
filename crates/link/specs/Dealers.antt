-- Scatters whose rows are of their kinds.
use Rattle.std.specs.Prelude.{◌≡◌, List, [], ◌++◌, refl}
use Rattle.std.proofs.Common.{◌∙◌, subst}
use Rattle.row_defs.specs.declared.kind.Kind.{Kind}
use Rattle.row_defs.specs.Rows.{Row}
use Rattle.dia_file.specs.Encoding.{AreOf}
use Rattle.dia_file.proofs.RowBytes.{are-append}
use Rattle.multiplexer.specs.declared.post.Post.{Ghosts}
use Rattle.exchange.specs.Serving.{Answered, ScatterValue, Took, took_none, took_more}

-- these rows came on their way to the workers that the route answered, and no others; all are of the scatter's kinds
pub record TookOfKinds {F P : Type 0} (post : Answered F) (p : Ghosts P) (s : ScatterValue F P) (rows : List Row) (t : ScatterValue F P) : Type 0 where
  pub took : Took post p s rows t
  pub are : AreOf s.kinds rows
  pub kinds : t.kinds ≡ s.kinds

-- laws --------------------------------------------------------------------------------------------------------

pub of_kinds_none : {F P : Type 0} (post : Answered F) (p : Ghosts P) (s : ScatterValue F P) → TookOfKinds post p s [] s
of_kinds_none post p s = record { took = took_none post p s; are = tt; kinds = refl }

pub of_kinds_more : {F P : Type 0} (post : Answered F) (p : Ghosts P) (a b c : ScatterValue F P) (xs ys : List Row) → TookOfKinds post p a xs b → TookOfKinds post p b ys c → TookOfKinds post p a (xs ++ ys) c
of_kinds_more post p a b c xs ys h k =
    let P : List Kind → Type 0 = λ kinds. AreOf kinds ys in
    record {
      took = took_more post p a b c xs ys h.took k.took;
      are = are-append a.kinds xs ys h.are (subst P h.kinds k.are);
      kinds = k.kinds ∙ h.kinds;
    }
