use Rattle.std.proofs.Common.{◌≡◌, length, rules, refl}
use Rattle.scatter.specs.Phases.{pools_of}
use Rattle.script_run.specs.Held.{held_of}
use Rattle.scatter.proofs.Hands.{follow_refl}
use Rattle.script_run.proofs.StepLemmas.{put_ready}
use Rattle.script_run.proofs.team.Team.put.Goals as goal

pub returns-in_err-put-clause-stays : goal.returns-in_err-put-clause-stays
returns-in_err-put-clause-stays g c = record { script = refl; workers = c.in_err-put.ensures.workers; follows = follow_refl c.args.self.now.hands.items }

pub returns-clause-ok : goal.returns-clause-ok
returns-clause-ok g c =
    let files = c.args.files.items in
    let old = held_of c.args.self.now in
    let long : length files ≡ c.args.self.now.stock.workers = search rules in
    record {
      sets = c.in_ok-put.ensures.lines;
      ready = put_ready c.args.number files old _ c.in_ok-put.ensures.lines (c.in_ok-put.ensures.pools (pools_of c.args.self.now.hands.items) c.requires.ready.own c.requires.own)
          c.requires.kinds long refl c.in_ok-put.ensures.workers refl refl c.requires.ready;
      script = refl;
      hands = refl;
    }

pub returns-clause-stays : goal.returns-clause-stays
returns-clause-stays g c = record { script = refl; workers = c.in_ok-put.ensures.workers; follows = follow_refl c.args.self.now.hands.items }
