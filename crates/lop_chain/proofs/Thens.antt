-- A sink behind two ops that refuses.
use Rattle.std.proofs.Common.{◌≡◌, List, [], ◌∷◌, ◌++◌, refl, Result, Ok, Err, IfErr, OnOk, sym, ◌∙◌, subst, append_assoc}
use Rattle.std.specs.List.{AllByRecursion}
use Rattle.row_defs.specs.Rows.{Row}
use Rattle.lop_chain.specs.Rows.{Kinds, IsRowOf}
use Rattle.lop_chain.specs.Made.{MadeOfEach, MadeOfEach-map, MadeOfEach-append}
use Rattle.lop_chain.specs.Calls.{TookSomeMade, TookAllMade}
use Rattle.lop_chain.specs.Through.{CarriedOn, RefusedBelow}
use Rattle.lop_chain.specs.Then.{MadeThen, each_total}
use Rattle.lop_chain.specs.declared.sink.RowSink.{Ghosts}
use Rattle.lop_chain.specs.declared.local_op.LocalOp.{Ghosts as OpGhosts}

pub all-back : (P : Row → Type 0) (xs : List Row) (y : Row) (ys : List Row) → AllByRecursion P (xs ++ y ∷ ys) → AllByRecursion P ys
all-back P [] y ys h = h.1
all-back P (x ∷ xs) y ys h = all-back P xs y ys h.1

pub regroup : (out rows more prefix : List Row) (next : Row) (back : List Row) → rows ≡ prefix ++ next ∷ back → out ++ (rows ++ more) ≡ (out ++ prefix) ++ next ∷ (back ++ more)
regroup out rows more prefix next back e = rw e (simp append_assoc)

-- h is an op and a sink below it, as one sink
pub record IsThrough {T O S D R : Type 0} (h : Ghosts T D R) (o : OpGhosts O) (g : Ghosts S D R) (op_of : T → O) (sink_of : T → S) : Type 0 where
  pub took : (t : T) (rows : List Row) (u : T) → h.took t rows u → CarriedOn o g (op_of t) (sink_of t) rows (op_of u) (sink_of u)
  pub refused : (t : T) (d : D) (row : Row) (e : R) (u : T) (b : D) → h.refused t d row e u b → RefusedBelow o g (op_of t) (sink_of t) d row e (op_of u) (sink_of u) b
  pub serves : (t : T) (d : D) → h.serves t d → g.serves (sink_of t) d
  pub shut : (t : T) → h.is_shut t ≡ g.is_shut (sink_of t)
  pub held : (t : T) (d : D) → h.held t d ≡ g.held (sink_of t) d

module _ {T O S D R : Type 0} (h : Ghosts T D R) (o : OpGhosts O) (g : Ghosts S D R) (op_of : T → O) (sink_of : T → S) (is : IsThrough h o g op_of sink_of) where
  -- what the sink took of the rows of the second op
  then_all :
      (first : Row → List Row → Type 0) (row : Row) (t u : T) (d b : D)
      → TookAllMade h (first row) t d u b → TookAllMade g (MadeThen first (o.makes (op_of t)) row) (sink_of t) d (sink_of u) b
  then_all first row t u d b w =
      let p = is.took t w.rows u w.all.took in
      record {
        rows = p.out;
        made = record { between = w.rows; by_first = w.made; by_second = p.made };
        all = record {
          took = p.took;
          accepts = p.accepts;
          accepted = p.accepted;
          serves = is.serves u b w.all.serves;
          is_open = sym (is.shut u) ∙ w.all.is_open;
          held = sym (is.held u b) ∙ w.all.held ∙ is.held t d;
        };
      }

  -- and up to the row that it refused
  then_some :
      ((a b c : S) (xs ys : List Row) → g.took a xs b → g.took b ys c → g.took a (xs ++ ys) c)
      → (between : Kinds) (first : Row → List Row → Type 0) (row : Row) (t u : T) (d b : D) (e : R)
      → ((row : Row) → IsRowOf between row → (out : List Row) × o.makes (op_of t) row out)
      → ((rows : List Row) → first row rows → AllByRecursion (IsRowOf between) rows)
      → TookSomeMade h (first row) t d e u b
      → TookSomeMade g (MadeThen first (o.makes (op_of t)) row) (sink_of t) d e (sink_of u) b
  then_some more between first row t u d b e total sound w =
      let v = w.some in
      let p = is.took t v.prefix v.at v.took in
      let q = is.refused v.at d v.next e u b v.refused in
      let by : o.makes (op_of t) v.next q.some.rows = p.same.made v.next q.some.rows q.some.made in
      let Q : List Row → Type 0 = λ rows. AllByRecursion (IsRowOf between) rows in
      let back = each_total (o.makes (op_of t)) between v.back total (all-back _ v.prefix v.next v.back (subst Q v.parts (sound w.rows w.made))) in
      let s = q.some.some in
      record {
        rows = p.out ++ (q.some.rows ++ back.0);
        made = record {
          between = w.rows;
          by_first = w.made;
          by_second =
              let M : List Row → Type 0 = λ rows. MadeOfEach (o.makes (op_of t)) rows (p.out ++ (q.some.rows ++ back.0)) in
              subst M (sym v.parts) (MadeOfEach-append _ v.prefix (v.next ∷ v.back) p.out (q.some.rows ++ back.0) p.made (q.some.rows, back.0, by, back.1, refl));
        };
        some = record {
          prefix = p.out ++ s.prefix;
          next = s.next;
          back = s.back ++ back.0;
          at = s.at;
          parts = regroup p.out q.some.rows back.0 s.prefix s.next s.back s.parts;
          took = more (sink_of t) (sink_of v.at) s.at p.out s.prefix p.took s.took;
          refused = s.refused;
          shut = s.shut;
        };
      }

  -- the same of a push's answer, where s is the sink in the end
  pub then_ok :
      (first : Row → List Row → Type 0) (row : Row) (t u : T) (d b : D) (r : Result Unit R) (s : S)
      → OnOk r (TookAllMade h (first row) t d u b) → s ≡ sink_of u
      → OnOk r (TookAllMade g (MadeThen first (o.makes (op_of t)) row) (sink_of t) d s b)
  then_ok first row t u d b (Ok x) s w same =
      let P : S → Type 0 = λ v. TookAllMade g (MadeThen first (o.makes (op_of t)) row) (sink_of t) d v b in
      subst P (sym same) (then_all first row t u d b w)
  then_ok first row t u d b (Err e) s w same = tt

  pub then_err :
      ((a b c : S) (xs ys : List Row) → g.took a xs b → g.took b ys c → g.took a (xs ++ ys) c)
      → (between : Kinds) (first : Row → List Row → Type 0) (row : Row) (t u : T) (d b : D) (r : Result Unit R) (s : S)
      → ((row : Row) → IsRowOf between row → (out : List Row) × o.makes (op_of t) row out)
      → ((rows : List Row) → first row rows → AllByRecursion (IsRowOf between) rows)
      → IfErr r (λ e. TookSomeMade h (first row) t d e u b)
      → s ≡ sink_of u
      → IfErr r (λ e. TookSomeMade g (MadeThen first (o.makes (op_of t)) row) (sink_of t) d e s b)
  then_err more between first row t u d b (Ok x) s total sound w same = tt
  then_err more between first row t u d b (Err e) s total sound w same =
      let P : S → Type 0 = λ v. TookSomeMade g (MadeThen first (o.makes (op_of t)) row) (sink_of t) d e v b in
      subst P (sym same) (then_some more between first row t u d b e total sound w)

-- two ops that make as before, one after the other
pub then_same :
    {A B : Type 0} (o : OpGhosts A) (p : OpGhosts B) (x x' : A) (y y' : B) (row : Row) (rows : List Row)
    → ((row : Row) (rows : List Row) → o.makes x row rows → o.makes x' row rows)
    → ((row : Row) (rows : List Row) → p.makes y row rows → p.makes y' row rows)
    → MadeThen (o.makes x) (p.makes y) row rows → MadeThen (o.makes x') (p.makes y') row rows
then_same o p x x' y y' row rows a b m = record {
  between = m.between;
  by_first = a row m.between m.by_first;
  by_second = MadeOfEach-map (p.makes y) (p.makes y') m.between rows b m.by_second;
}
