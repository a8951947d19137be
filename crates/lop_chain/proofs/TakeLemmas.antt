-- What takes of a sink add up to.
use Rattle.std.proofs.Common.{◌≡◌, true, false, List, [], ◌∷◌, ◌++◌, refl, sym, subst, ◌∙◌, append_assoc, Result, Ok, Err, IfErr, OnErr}
use Rattle.row_defs.specs.Rows.{Row}
use Rattle.lop_chain.specs.Calls.{TookRows, TookSome, TookAllBut}
use Rattle.lop_chain.specs.declared.sink.RowSink.{Ghosts}

module _ {S D R : Type 0} (g : Ghosts S D R) where
  pub took_nothing : (s : S) (d : D) → g.took s [] s → g.serves s d → g.is_shut s ≡ false → TookRows g s d [] s d
  took_nothing s d none serves is_open = record {
    took = none;
    accepts = λ kinds h. h;
    accepted = λ kinds h. h;
    serves = serves;
    is_open = is_open;
    held = refl;
  }

  pub took_then :
      ((a b c : S) (xs ys : List Row) → g.took a xs b → g.took b ys c → g.took a (xs ++ ys) c)
      → (s m t : S) (d c b : D) (xs ys : List Row) → TookRows g s d xs m c → TookRows g m c ys t b → TookRows g s d (xs ++ ys) t b
  took_then more s m t d c b xs ys p q = record {
    took = more s m t xs ys p.took q.took;
    accepts = λ kinds h. q.accepts kinds (p.accepts kinds h);
    accepted = λ kinds h. p.accepted kinds (q.accepted kinds h);
    serves = q.serves;
    is_open = q.is_open;
    held = q.held ∙ p.held;
  }

  -- some rows were taken, and then a part of the next ones
  pub took_until :
      ((a b c : S) (xs ys : List Row) → g.took a xs b → g.took b ys c → g.took a (xs ++ ys) c)
      → ((s t : S) (a b c : D) (row : Row) (e : R) → g.follows a b → g.refused s b row e t c → g.refused s a row e t c)
      → (s m t : S) (d c b : D) (xs ys zs : List Row) (e : R)
      → g.follows d c → TookRows g s d xs m c → TookSome g m c ys e t b → TookSome g s d (xs ++ (ys ++ zs)) e t b
  took_until more from s m t d c b xs ys zs e f p q = record {
    prefix = xs ++ q.prefix;
    next = q.next;
    back = q.back ++ zs;
    at = q.at;
    parts = rw q.parts (simp append_assoc);
    took = more s m q.at xs q.prefix p.took q.took;
    refused = from q.at t d c b q.next e f q.refused;
    shut = q.shut;
  }

  -- a sink that refused the one row took none of it
  pub refused_one :
      (s t : S) (d b : D) (row : Row) (r : Result Unit R)
      → g.took s [] s → IfErr r (λ e. g.refused s d row e t b) → OnErr r (g.is_shut t ≡ true)
      → IfErr r (λ e. TookSome g s d (row ∷ []) e t b)
  refused_one s t d b row (Ok x) none refused shut = tt
  refused_one s t d b row (Err e) none refused shut = record {
    prefix = [];
    next = row;
    back = [];
    at = s;
    parts = refl;
    took = none;
    refused = refused;
    shut = shut;
  }

  pub took_but :
      ((a b c : S) (xs ys : List Row) → g.took a xs b → g.took b ys c → g.took a (xs ++ ys) c)
      → (s m t : S) (d c b : D) (rows ys rest : List Row) → TookAllBut g s d rows (ys ++ rest) m c → TookRows g m c ys t b → TookAllBut g s d rows rest t b
  took_but more s m t d c b rows ys rest p q = record {
    done = p.done ++ ys;
    parts = p.parts ∙ sym (append_assoc p.done ys rest);
    all = took_then more s m t d c b p.done ys p.all q;
  }

  pub took_but_some :
      ((a b c : S) (xs ys : List Row) → g.took a xs b → g.took b ys c → g.took a (xs ++ ys) c)
      → ((s t : S) (a b c : D) (row : Row) (e : R) → g.follows a b → g.refused s b row e t c → g.refused s a row e t c)
      → (s m t : S) (d c b : D) (rows ys rest : List Row) (e : R)
      → g.follows d c → TookAllBut g s d rows (ys ++ rest) m c → TookSome g m c ys e t b → TookSome g s d rows e t b
  took_but_some more from s m t d c b rows ys rest e f p q =
      let P : List Row → Type 0 = λ xs. TookSome g s d xs e t b in
      subst P (sym p.parts) (took_until more from s m t d c b p.done ys rest e f p.all q)
