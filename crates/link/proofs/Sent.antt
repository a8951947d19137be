-- The rows that workers send, in one list and in many.
use Rattle.std.proofs.Common.{◌≡◌, ℕ, Bool, true, false, List, [], ◌∷◌, ◌++◌, map, refl, sym, ap, subst, ◌∙◌}
use Rattle.std.specs.Prelude.{All}
use Rattle.std.specs.List.{flat_map}
use Rattle.std.proofs.lemmas.List.Elements.{All-head, All-tail}
use Rattle.std.proofs.lemmas.List.Concat.{flat_map-append}
use Rattle.row_defs.specs.Rows.{Row}
use Rattle.row_defs.specs.LocalOps.{LocalOp, rows_through}
use Rattle.row_defs.specs.Operands.{Root, stored_root, count_root}
use Rattle.dia_file.specs.Files.{FileValue}
use Rattle.lop_chain.specs.Ops.{rows_from}
use Rattle.scatter.specs.Feeds.{FeedValue, part_feed}
use Rattle.scatter.specs.Lines.{Lines, root_rows, root_feeds, files_of}
use Rattle.scatter.specs.Phases.{Turn}
use Rattle.scatter.specs.Told.{arriving}
use Rattle.scatter.proofs.Arriving.{feed_in}
use Rattle.scatter.proofs.Rooted.{GoesThrough, root_ops}
use Rattle.link.specs.Linking.{rows_sent}

abbrev left : FeedValue → List Row
left f = f.left

-- what lines make of a feed's rows
abbrev pub sent_by : List LocalOp → FeedValue → List Row
sent_by ops f = rows_from ops f.left

-- what its own lines make of a worker's feed
abbrev pub made_in : {S : Type 0} → Turn S → List Row
made_in t = rows_from t.feed.ops t.feed.left

part_sent : (ops : List LocalOp) (last : Bool) (file : FileValue) → sent_by ops (part_feed last ops file) ≡ sent_by ops (part_feed false ops file)
part_sent ops true file = refl
part_sent ops false file = refl

parts_sent : (ops : List LocalOp) (last : Bool) (files : List FileValue) → map (sent_by ops) (map (part_feed last ops) files) ≡ map (sent_by ops) (map (part_feed false ops) files)
parts_sent ops last [] = refl
parts_sent ops last (f ∷ files) =
    ap (λ (rows : List Row). rows ∷ map (sent_by ops) (map (part_feed last ops) files)) (part_sent ops last f)
    ∙ ap (λ (rest : List (List Row)). sent_by ops (part_feed false ops f) ∷ rest) (parts_sent ops last files)

-- the last use of a root sends the same rows
pub sent_last : (lines : Lines) (workers : ℕ) (root : Root) (last : Bool) (ops : List LocalOp) → map (sent_by ops) (root_feeds lines workers root last ops) ≡ rows_sent lines workers root ops
sent_last lines workers (stored_root n) last ops = parts_sent ops last (files_of (lines n))
sent_last lines workers (count_root n rows) last ops = refl

joined_feeds : (ops : List LocalOp) (feeds : List FeedValue) → flat_map (λ (rows : List Row). rows) (map (sent_by ops) feeds) ≡ rows_from ops (flat_map left feeds)
joined_feeds ops [] = refl
joined_feeds ops (f ∷ feeds) =
    ap (λ (rows : List Row). sent_by ops f ++ rows) (joined_feeds ops feeds) ∙ sym (flat_map-append (rows_through ops) f.left (flat_map left feeds))

-- joined by rank they are the rows that arrive
pub joined_sent : (lines : Lines) (workers : ℕ) (root : Root) (last : Bool) (ops : List LocalOp) → flat_map left (root_feeds lines workers root last ops) ≡ root_rows lines root
    → flat_map (λ (rows : List Row). rows) (rows_sent lines workers root ops) ≡ arriving lines root ops
joined_sent lines workers root last ops is =
    ap (flat_map (λ (rows : List Row). rows)) (sym (sent_last lines workers root last ops)) ∙ joined_feeds ops (root_feeds lines workers root last ops) ∙ ap (rows_from ops) is

made_through : {S : Type 0} (ops : List LocalOp) (turns : List (Turn S)) → All (GoesThrough ops) (map feed_in turns) → map made_in turns ≡ map (sent_by ops) (map feed_in turns)
made_through ops [] all = refl
made_through ops (t ∷ turns) all =
    let own : t.feed.ops ≡ ops = All-head (GoesThrough ops) t.feed (map feed_in turns) all in
    ap (λ (o : List LocalOp). rows_from o t.feed.left ∷ map made_in turns) own
    ∙ ap (λ (rest : List (List Row)). sent_by ops t.feed ∷ rest) (made_through ops turns (All-tail (GoesThrough ops) t.feed (map feed_in turns) all))

-- what is made of the feeds of all workers is what they send
pub made_sent : {S : Type 0} (lines : Lines) (workers : ℕ) (root : Root) (last : Bool) (ops : List LocalOp) (turns : List (Turn S)) → map feed_in turns ≡ root_feeds lines workers root last ops
    → map made_in turns ≡ rows_sent lines workers root ops
made_sent lines workers root last ops turns feeds =
    let all : All (GoesThrough ops) (map feed_in turns) = subst (λ fs. All (GoesThrough ops) fs) (sym feeds) (root_ops lines workers root last ops) in
    made_through ops turns all ∙ ap (map (sent_by ops)) feeds ∙ sent_last lines workers root last ops
