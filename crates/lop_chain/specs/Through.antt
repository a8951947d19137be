-- An op and the sink below it, seen as one sink.
use Rattle.std.specs.Prelude.{List, [], ◌++◌, refl}
use Rattle.row_defs.specs.Rows.{Row}
use Rattle.lop_chain.specs.Rows.{Kinds}
use Rattle.lop_chain.specs.Made.{MadeOfEach, MakesAsBefore, MakesAsBefore-refl, MakesAsBefore-trans, MadeOfEach-map, MadeOfEach-append}
use Rattle.lop_chain.specs.Calls.{TookSome, TookSomeMade}
use Rattle.lop_chain.specs.declared.sink.RowSink.{Ghosts}
use Rattle.lop_chain.specs.declared.local_op.LocalOp.{Ghosts as OpGhosts}

-- The sink took what the op made of these rows.
pub record CarriedOn {O S D R : Type 0} (o : OpGhosts O) (g : Ghosts S D R) (x : O) (s : S) (rows : List Row) (y : O) (t : S) : Type 0 where
  pub out : List Row
  pub made : MadeOfEach (o.makes x) rows out
  pub took : g.took s out t
  pub accepts : (kinds : Kinds) → g.accepts s kinds → g.accepts t kinds
  pub accepted : (kinds : Kinds) → g.accepts t kinds → g.accepts s kinds
  pub same : MakesAsBefore o.fits o.makes x y

-- The sink refused in the midst of what the op made of a row.
pub record RefusedBelow {O S D R : Type 0} (o : OpGhosts O) (g : Ghosts S D R) (x : O) (s : S) (d : D) (row : Row) (e : R) (y : O) (t : S) (b : D) : Type 0 where
  pub some : TookSomeMade g (o.makes x row) s d e t b
  pub same : MakesAsBefore o.fits o.makes x y

-- laws --------------------------------------------------------------------------------------------------------

pub CarriedOn-none : {O S D R : Type 0} (o : OpGhosts O) (g : Ghosts S D R) (x : O) (s : S) → g.took s [] s → CarriedOn o g x s [] x s
CarriedOn-none o g x s none = record {
  out = [];
  made = refl;
  took = none;
  accepts = λ kinds h. h;
  accepted = λ kinds h. h;
  same = MakesAsBefore-refl o.fits o.makes x;
}

pub CarriedOn-more :
    {O S D R : Type 0} (o : OpGhosts O) (g : Ghosts S D R)
    → ((a b c : S) (xs ys : List Row) → g.took a xs b → g.took b ys c → g.took a (xs ++ ys) c)
    → (x y z : O) (a b c : S) (xs ys : List Row)
    → CarriedOn o g x a xs y b → CarriedOn o g y b ys z c → CarriedOn o g x a (xs ++ ys) z c
CarriedOn-more o g more x y z a b c xs ys p q = record {
  out = p.out ++ q.out;
  made = MadeOfEach-append (o.makes x) xs ys p.out q.out p.made (MadeOfEach-map (o.makes y) (o.makes x) ys q.out p.same.made q.made);
  took = more a b c p.out q.out p.took q.took;
  accepts = λ kinds h. q.accepts kinds (p.accepts kinds h);
  accepted = λ kinds h. p.accepted kinds (q.accepted kinds h);
  same = MakesAsBefore-trans o.fits o.makes x y z p.same q.same;
}

pub TookSome-from :
    {S D R : Type 0} (g : Ghosts S D R)
    → ((s t : S) (a b c : D) (row : Row) (e : R) → g.follows a b → g.refused s b row e t c → g.refused s a row e t c)
    → (s t : S) (a b c : D) (rows : List Row) (e : R) → g.follows a b → TookSome g s b rows e t c → TookSome g s a rows e t c
TookSome-from g from s t a b c rows e f p = record {
  prefix = p.prefix;
  next = p.next;
  back = p.back;
  at = p.at;
  parts = p.parts;
  took = p.took;
  refused = from p.at t a b c p.next e f p.refused;
  shut = p.shut;
}

pub RefusedBelow-from :
    {O S D R : Type 0} (o : OpGhosts O) (g : Ghosts S D R)
    → ((s t : S) (a b c : D) (row : Row) (e : R) → g.follows a b → g.refused s b row e t c → g.refused s a row e t c)
    → (x y : O) (s t : S) (a b c : D) (row : Row) (e : R)
    → g.follows a b → RefusedBelow o g x s b row e y t c → RefusedBelow o g x s a row e y t c
RefusedBelow-from o g from x y s t a b c row e f p = record {
  some = record { rows = p.some.rows; made = p.some.made; some = TookSome-from g from s t a b c p.some.rows e f p.some.some };
  same = p.same;
}
