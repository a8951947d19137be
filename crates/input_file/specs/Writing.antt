-- Lines that are written to a file.
use Rattle.std.specs.Prelude.{◌≡◌, ℕ, ◌+◌, ◌<◌, false, List, [], ◌∷◌, ◌++◌, length, map, refl}
use Rattle.std.proofs.Common.{◌∙◌, sym, ap, append-nil, append_assoc}
use Rattle.std.proofs.lemmas.List.{map-append}
use Rattle.row_defs.specs.declared.kind.Kind.TheVariants.{Text}
use Rattle.row_defs.specs.Limits.{most_rows}
use Rattle.row_defs.specs.Pieces.{line_row}
use Rattle.row_defs.specs.Rows.{Row}
use Rattle.block_pool.specs.Handles.{HandValue, Notes}
use Rattle.dia_file.specs.Tallies.{Makes}
use Rattle.dia_file.proofs.Tallying.{makes_trans}
use Rattle.dia_file.specs.Writers.{WriterValue, IsWriterOf, frames_of}

-- these lines were written behind the rows that were there
pub record Wrote (before : WriterValue) (lines : List (List ℕ)) (after : WriterValue) : Type 0 where
  pub rows : after.rows ≡ before.rows ++ map line_row lines

-- the writer takes one more line
pub record IsServed (w : WriterValue) (hand : HandValue) : Type 0 where
  pub kinds : w.kinds ≡ Text ∷ []
  pub limit : w.limit ≡ most_rows
  pub unbroken : w.is_broken ≡ false
  pub own : IsWriterOf hand.pool w
  pub permit : 0 < hand.permits + frames_of w

-- the writer's blocks and frame stay of the hand's pool; a permit goes with its frame, and what it gains the hand made
pub record KeepsFile (before : WriterValue) (a : HandValue) (after : WriterValue) (b : HandValue) : Type 0 where
  pub own : IsWriterOf a.pool before → IsWriterOf b.pool after
  pub permits : b.permits + frames_of after ≡ a.permits + frames_of before
  pub made : Makes (length before.blocks) (length after.blocks) a.notes b.notes

-- as many blocks were freed as were made
abbrev pub FreesAll : Notes → Notes → Type 0
FreesAll before after = after.gone + before.made ≡ before.gone + after.made

-- what is written stays written, and what is kept is kept

pub wrote_none : (w : WriterValue) → Wrote w [] w
wrote_none w = record { rows = sym (append-nil w.rows) }

pub wrote_more : (a b c : WriterValue) (xs ys : List (List ℕ)) → Wrote a xs b → Wrote b ys c → Wrote a (xs ++ ys) c
wrote_more a b c xs ys p q = record {
  rows = q.rows ∙ ap (λ (rows : List Row). rows ++ map line_row ys) p.rows ∙ append_assoc a.rows (map line_row xs) (map line_row ys)
      ∙ ap (λ (rows : List Row). a.rows ++ rows) (sym (map-append line_row xs ys));
}

pub keeps_none : (w : WriterValue) (d : HandValue) → KeepsFile w d w d
keeps_none w d = record { own = λ own. own; permits = refl; made = (refl, refl) }

pub keeps_more : (s t u : WriterValue) (a b c : HandValue) → KeepsFile s a t b → KeepsFile t b u c → KeepsFile s a u c
keeps_more s t u a b c p q = record {
  own = λ own. q.own (p.own own);
  permits = q.permits ∙ p.permits;
  made = makes_trans (length s.blocks) (length t.blocks) (length u.blocks) a.notes b.notes c.notes p.made q.made;
}
