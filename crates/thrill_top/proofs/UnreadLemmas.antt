-- What is promised where nothing was done, or no script was read.
use Rattle.std.proofs.Common.{◌≡◌, ◌≢◌, inl, inr, ℕ, List, [], ◌∷◌, Bool, Some, is_some, refl, ap}
use Rattle.row_defs.specs.Rows.{Row}
use Rattle.row_defs.specs.Inputs.{Inputs}
use Rattle.script_defs.specs.Scripts.{Script}
use Rattle.script_defs.specs.Needs.{inputs_needed}
use Rattle.dia_edge.specs.declared.shelf.Shelf as shelves
use Rattle.dia_edge.specs.declared.sink.Sink as sinks
use Rattle.dia_edge.specs.declared.disk.Disk as disks
use Rattle.dia_edge.proofs.SinkLemmas.{but_none, all_but}
use Rattle.dia_lines.specs.Inputs.{AskedSome}
use Rattle.script_run.specs.Weighing.{IsSpilled}
use Rattle.script_run.proofs.AskedLemmas.{asked_no_one}
use Rattle.job_words.specs.Faults.{fault_status}
use Rattle.job_words.specs.declared.command.Job.{Job}
use Rattle.job_words.specs.declared.fault.TopFault.{TopFault}
use Rattle.job_words.specs.declared.fault.TopFault.TheVariants as faults
use Rattle.thrill_top.specs.Asking.{IsScriptAt}
use Rattle.thrill_top.specs.Ends.{IsUnread, IsReadFault}
use Rattle.thrill_top.specs.Errors.{Counts, TellsRead, TellsFault}
use Rattle.thrill_top.specs.Promise.{TellsInputs, CallEnd, NoneRose, IsExcused, TellsScript, IsWhole, KeepsPromise}
use Rattle.thrill_top.proofs.AskLemmas.{script_unread}
use Rattle.thrill_top.proofs.EndLemmas.{whole_12}
use Rattle.thrill_top.proofs.ScriptLemmas.{never_there, same_refusal, never_refused}

unread_end : (W : List Row → Type 0) (inputs : Inputs) (name : List ℕ) (f : TopFault) → IsUnread inputs name f → CallEnd W inputs name (Some f) []
unread_end W inputs name (faults.Missing absent) h = inl (h.0, h.1, refl)
unread_end W inputs name (faults.Script n cause) h = record { bytes = h.0; there = h.1; refused = h.2; nothing = refl }
unread_end W inputs name (faults.ReadFault count) h = inl refl
unread_end W inputs name faults.NoMemory h = inl refl
unread_end W inputs name faults.Usage h = absurd h
unread_end W inputs name (faults.LineTooLong long n) h = absurd h
unread_end W inputs name (faults.InputTooLong long) h = absurd h
unread_end W inputs name (faults.PoolTooSmall frames need) h = absurd h
unread_end W inputs name (faults.TooManyRows n) h = absurd h
unread_end W inputs name (faults.WriteFault count) h = absurd h
unread_end W inputs name (faults.DiskFault count) h = absurd h
unread_end W inputs name faults.Damaged h = absurd h

unread_tells : (inputs : Inputs) (name : List ℕ) (f : TopFault) (P : Type 0) → P → IsUnread inputs name f → TellsScript inputs name (Some f) P
unread_tells inputs name (faults.Missing absent) P p h = record {
  refused = λ n cause r. never_there inputs name r.0 _ h.1 r.1;
  absent = λ none. (inl (ap (λ (x : List ℕ). Some (faults.Missing x)) h.0), p);
}
unread_tells inputs name (faults.Script m other) P p h = record {
  refused = λ n cause r. (inl (same_refusal inputs name n m cause other h r), p);
  absent = λ none. never_there inputs name h.0 _ none h.1;
}
unread_tells inputs name (faults.ReadFault count) P p h = record { refused = λ n cause r. (inr (inl refl), p); absent = λ none. (inr (inl refl), p) }
unread_tells inputs name faults.NoMemory P p h = record { refused = λ n cause r. (inr (inr refl), p); absent = λ none. (inr (inr refl), p) }
unread_tells inputs name faults.Usage P p h = absurd h
unread_tells inputs name (faults.LineTooLong long n) P p h = absurd h
unread_tells inputs name (faults.InputTooLong long) P p h = absurd h
unread_tells inputs name (faults.PoolTooSmall frames need) P p h = absurd h
unread_tells inputs name (faults.TooManyRows n) P p h = absurd h
unread_tells inputs name (faults.WriteFault count) P p h = absurd h
unread_tells inputs name (faults.DiskFault count) P p h = absurd h
unread_tells inputs name faults.Damaged P p h = absurd h

-- an accepted script that wasn't read: a fault of the shelf, or want of memory
unread_excused : (inputs : Inputs) (name : List ℕ) (script : Script) (f : TopFault) → IsUnread inputs name f → IsScriptAt inputs name script → IsExcused (fault_status f)
unread_excused inputs name script (faults.Missing absent) h at = never_there inputs name at.0 _ h.1 at.1
unread_excused inputs name script (faults.Script n cause) h at = never_refused inputs name script n cause _ at h
unread_excused inputs name script (faults.ReadFault count) h at = inl refl
unread_excused inputs name script faults.NoMemory h at = inr refl
unread_excused inputs name script faults.Usage h at = absurd h
unread_excused inputs name script (faults.LineTooLong long n) h at = absurd h
unread_excused inputs name script (faults.InputTooLong long) h at = absurd h
unread_excused inputs name script (faults.PoolTooSmall frames need) h at = absurd h
unread_excused inputs name script (faults.TooManyRows n) h at = absurd h
unread_excused inputs name script (faults.WriteFault count) h at = absurd h
unread_excused inputs name script (faults.DiskFault count) h at = absurd h
unread_excused inputs name script faults.Damaged h at = absurd h

-- where the shelf's count didn't rise it is want of memory
unread_whole : (inputs : Inputs) (name : List ℕ) (script : Script) (f : TopFault) (before now : Counts) → IsUnread inputs name f → IsScriptAt inputs name script → TellsRead f before.shelf now.shelf
    → NoneRose before now → IsWhole script inputs (fault_status f)
unread_whole inputs name script (faults.Missing absent) before now h at tells none = never_there inputs name at.0 _ h.1 at.1
unread_whole inputs name script (faults.Script n cause) before now h at tells none = never_refused inputs name script n cause _ at h
unread_whole inputs name script (faults.ReadFault count) before now h at tells none = absurd (none.shelf tells.0)
unread_whole inputs name script faults.NoMemory before now h at tells none = whole_12 script inputs 12 refl
unread_whole inputs name script faults.Usage before now h at tells none = absurd h
unread_whole inputs name script (faults.LineTooLong long n) before now h at tells none = absurd h
unread_whole inputs name script (faults.InputTooLong long) before now h at tells none = absurd h
unread_whole inputs name script (faults.PoolTooSmall frames need) before now h at tells none = absurd h
unread_whole inputs name script (faults.TooManyRows n) before now h at tells none = absurd h
unread_whole inputs name script (faults.WriteFault count) before now h at tells none = absurd h
unread_whole inputs name script (faults.DiskFault count) before now h at tells none = absurd h
unread_whole inputs name script faults.Damaged before now h at tells none = absurd h

-- whatever the shelf tells
record ReadSays (f : TopFault) (tells : Bool) (before now : Counts) : Type 0 where
  told : TellsFault f tells before now
  some : fault_status f ≢ 0
  meant : fault_status f ≢ 2
  small : (frames need : ℕ) → f ≡ faults.PoolTooSmall frames need → ⊥

read_says : (f : TopFault) (tells : Bool) (before now : Counts) → IsReadFault f → TellsRead f before.shelf now.shelf → ReadSays f tells before now
read_says (faults.Missing absent) tells before now is h = record { told = tt; some = λ e. cc; meant = λ e. cc; small = λ frames need e. cc }
read_says (faults.Script n cause) tells before now is h = record { told = tt; some = λ e. cc; meant = λ e. cc; small = λ frames need e. cc }
read_says (faults.ReadFault count) tells before now is h = record { told = h; some = λ e. cc; meant = λ e. cc; small = λ frames need e. cc }
read_says faults.NoMemory tells before now is h = record { told = tt; some = λ e. cc; meant = λ e. cc; small = λ frames need e. cc }
read_says faults.Usage tells before now is h = absurd is
read_says (faults.LineTooLong long n) tells before now is h = absurd is
read_says (faults.InputTooLong long) tells before now is h = absurd is
read_says (faults.PoolTooSmall frames need) tells before now is h = absurd is
read_says (faults.TooManyRows n) tells before now is h = absurd is
read_says (faults.WriteFault count) tells before now is h = absurd is
read_says (faults.DiskFault count) tells before now is h = absurd is
read_says faults.Damaged tells before now is h = absurd is

some_fault : (f k : TopFault) → Some f ≡ Some k → f ≡ k
some_fault f k e = cc

module _ {N S D : Type 0} (n : shelves.Ghosts N) (s : sinks.Ghosts S) (d : disks.Ghosts D) (job : Job) where
  -- no script was read
  pub unread_promise : (shelf shelf_now : N) (out : S) (disk : D) (f : TopFault) → ((inputs : Inputs) → TellsInputs (n.holds shelf) (n.is_fixed shelf) inputs → IsUnread inputs job.script f)
      → IsReadFault f → TellsRead f (n.faults shelf) (n.faults shelf_now) → AskedSome n shelf shelf_now (job.script ∷ [])
      → KeepsPromise n s d job shelf shelf_now out out disk disk (Some f)
  unread_promise shelf shelf_now out disk f unread is tells asked =
      let before : Counts = record { shelf = n.faults shelf; out = s.faults out; disk = d.faults disk } in
      let now : Counts = record { shelf = n.faults shelf_now; out = s.faults out; disk = d.faults disk } in
      let says = read_says f (is_some (d.slots disk)) before now is tells in
      record {
        ends = λ inputs all. record { took = []; since = all_but (s.taken out) (s.taken out) [] (but_none (s.taken out) []); end = unread_end (IsSpilled job.limit job.block (d.writes disk) (d.writes disk)) inputs job.script f (unread inputs (all.shelf, all.fixed_is)) };
        script = λ inputs told. unread_tells inputs job.script f _ refl (unread inputs told);
        small = λ inputs script told at low. (inr (unread_excused inputs job.script script f (unread inputs told) at), refl);
        enough = λ frames need e. absurd (says.small frames need (some_fault f (faults.PoolTooSmall frames need) e));
        complete = λ inputs script all r large none. unread_whole inputs job.script script f before now (unread inputs (all.shelf, all.fixed_is)) (r.bytes, r.there, r.reads) tells none;
        asked = λ inputs script told at. record { all = λ zero. absurd (says.some zero); some = script_unread n shelf shelf_now job.script (inputs_needed script) asked };
        counts = says.told;
        untouched = λ e. refl;
        meant = says.meant;
      }

  -- memory ran out before anything was done
  pub nothing_kept : (shelf : N) (out : S) (disk : D) → KeepsPromise n s d job shelf shelf out out disk disk (Some faults.NoMemory)
  nothing_kept shelf out disk = unread_promise shelf shelf out disk faults.NoMemory (λ inputs told. tt) tt tt (job.script ∷ [], asked_no_one n shelf shelf (job.script ∷ []) refl)
