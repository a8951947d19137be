-- What sinks that took no row yet may be used for.
use Rattle.std.proofs.Common.{◌≡◌, List, [], ◌∷◌, ◌∙◌, false, length, sym, arith}
use Rattle.std.specs.Prelude.{All}
use Rattle.std.specs.List.{AllZip}
use Rattle.std.proofs.lemmas.List.Elements.{All-head, All-tail}
use Rattle.row_defs.specs.declared.kind.Kind.{Kind}
use Rattle.block_pool.specs.Handles.{HandValue, Follows}
use Rattle.dia_file.specs.declared.refusals.PushErr.{PushErr}
use Rattle.lop_chain.specs.declared.sink.RowSink.{Ghosts}
use Rattle.file_sink.specs.Sinks as sinks
use Rattle.file_sink.specs.Sinks.{SinkValue, KeepsFile}
use Rattle.scatter.specs.Phases.{CanTake}
use Rattle.scatter.proofs.Threes.{zip_long}
use Rattle.sink_files.specs.Ending.{IsFreshSink, HasTwoPermits, IsSinkOf}

pub fresh_long : (kinds : List Kind) (ss : List SinkValue) (hs : List HandValue) → AllZip (IsFreshSink kinds) ss hs → length ss ≡ length hs
fresh_long kinds ss hs h = zip_long (IsFreshSink kinds) ss hs h

-- the ghosts of a sink that writes a file
module _ (g : Ghosts SinkValue HandValue PushErr) (accepts : (s : SinkValue) (kinds : List Kind) → s.writer.kinds ≡ kinds → g.accepts s kinds) (is_open : (s : SinkValue) → s.is_shut ≡ false → g.is_shut s ≡ false)
    (serves : (s : SinkValue) (d : HandValue) → sinks.IsServed s d → g.serves s d) where
  can_one : (kinds : List Kind) (s : SinkValue) (a : HandValue) → IsFreshSink kinds s a → HasTwoPermits a → CanTake g kinds s a
  can_one kinds s a f two = record {
    accepts = accepts s kinds f.kinds_are;
    is_open = is_open s f.is_open;
    serves = λ b same more. serves s b (record { own = same ∙ sym f.own; permit = omega arith });
    permit = omega arith;
  }

  pub can_take : (kinds : List Kind) (ss : List SinkValue) (hs : List HandValue) → AllZip (IsFreshSink kinds) ss hs → All HasTwoPermits hs → AllZip (CanTake g kinds) ss hs
  can_take kinds [] [] fresh two = tt
  can_take kinds [] (a ∷ hs) fresh two = absurd fresh
  can_take kinds (s ∷ ss) [] fresh two = absurd fresh
  can_take kinds (s ∷ ss) (a ∷ hs) fresh two = (can_one kinds s a fresh.0 (All-head HasTwoPermits a hs two), can_take kinds ss hs fresh.1 (All-tail HasTwoPermits a hs two))

-- each sink may be cancelled with its hand, whatever the phase came to
pub can_cancel : (kinds : List Kind) (ss ts : List SinkValue) (hs now : List HandValue) → AllZip (IsFreshSink kinds) ss hs → AllZip KeepsFile ss ts → AllZip Follows hs now → AllZip IsSinkOf ts now
can_cancel kinds [] [] [] [] fresh stays later = tt
can_cancel kinds (s ∷ ss) (t ∷ ts) (a ∷ hs) (b ∷ now) fresh stays later =
    (later.0.pool ∙ sym fresh.0.own ∙ sym stays.0.pool, can_cancel kinds ss ts hs now fresh.1 stays.1 later.1)
can_cancel kinds [] [] [] (b ∷ now) fresh stays later = absurd later
can_cancel kinds [] [] (a ∷ hs) now fresh stays later = absurd fresh
can_cancel kinds [] (t ∷ ts) hs now fresh stays later = absurd stays
can_cancel kinds (s ∷ ss) [] hs now fresh stays later = absurd stays
can_cancel kinds (s ∷ ss) (t ∷ ts) [] now fresh stays later = absurd fresh
can_cancel kinds (s ∷ ss) (t ∷ ts) (a ∷ hs) [] fresh stays later = absurd later
