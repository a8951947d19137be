-- What a push does to the sink.
use Rattle.std.specs.Prelude.{◌≡◌, true, false, List, ◌∷◌, ◌++◌}
use Rattle.row_defs.specs.Rows.{Row}
use Rattle.lop_chain.specs.Rows.{Kinds}
use Rattle.lop_chain.specs.declared.sink.RowSink.{Ghosts}

-- The sink took these rows, in order, and takes more of the same kinds: a sink and a desk before, and the two after.
pub record TookRows {S D R : Type 0} (g : Ghosts S D R) (s : S) (d : D) (rows : List Row) (t : S) (b : D) : Type 0 where
  pub took : g.took s rows t
  pub accepts : (kinds : Kinds) → g.accepts s kinds → g.accepts t kinds
  pub accepted : (kinds : Kinds) → g.accepts t kinds → g.accepts s kinds
  pub serves : g.serves t b
  pub is_open : g.is_shut t ≡ false
  pub held : g.held t b ≡ g.held s d

-- The sink took a proper prefix of these rows, refused the next one and is shut: nothing was offered after that.
pub record TookSome {S D R : Type 0} (g : Ghosts S D R) (s : S) (d : D) (rows : List Row) (e : R) (t : S) (b : D) : Type 0 where
  pub prefix : List Row
  pub next : Row
  pub back : List Row
  pub at : S  -- the sink when `next` was refused
  pub parts : rows ≡ prefix ++ next ∷ back
  pub took : g.took s prefix at
  pub refused : g.refused at d next e t b
  pub shut : g.is_shut t ≡ true

-- the same of some list of rows that is made
pub record TookAllMade {S D R : Type 0} (g : Ghosts S D R) (IsMade : List Row → Type 0) (s : S) (d : D) (t : S) (b : D) : Type 0 where
  pub rows : List Row
  pub made : IsMade rows
  pub all : TookRows g s d rows t b

pub record TookSomeMade {S D R : Type 0} (g : Ghosts S D R) (IsMade : List Row → Type 0) (s : S) (d : D) (e : R) (t : S) (b : D) : Type 0 where
  pub rows : List Row
  pub made : IsMade rows
  pub some : TookSome g s d rows e t b

-- The sink took these rows but for the rest.
pub record TookAllBut {S D R : Type 0} (g : Ghosts S D R) (s : S) (d : D) (rows rest : List Row) (t : S) (b : D) : Type 0 where
  pub done : List Row
  pub parts : rows ≡ done ++ rest
  pub all : TookRows g s d done t b
