use Rattle.std.proofs.Common.{List, refl, sym, subst}
use Rattle.row_defs.specs.declared.kind.Kind.{Kind}
use Rattle.row_defs.specs.LocalOps.{AreSoundOps}
use Rattle.script_defs.specs.Work.{do_action}
use Rattle.dia_item.specs.KindList.{kind_list}
use Rattle.lop_chain.specs.Operands.{operand_in}
use Rattle.script_read.specs.Statements.{action_in}
use Rattle.script_run.specs.declared.run_err.RunErr.{RunErr}
use Rattle.script_run.specs.Held.{held_of}
use Rattle.script_run.specs.Steps.{StopsAt}
use Rattle.script_run.proofs.ActLemmas.{IsActed, act_goes_on, act_stops}
use Rattle.script_run.proofs.LineLemmas.{kinds_of_root, rows_at}
use Rattle.script_run.proofs.team.Team.act.Goals as goal

pub act-requires-clause-actable : goal.act-requires-clause-actable
act-requires-clause-actable g c = λ κs lives.
    let run = held_of c.args.self.now in
    let o = operand_in c.args.operand.now in
    let Kinds : List Kind → Type 0 = λ ks. AreSoundOps ks o.chain o.kinds in
    (kind_list c.args.operand.now.kinds, subst Kinds (sym (kinds_of_root run.script run.lines o.root c.requires.ready.kept c.requires.can.rows c.requires.can.numbers)) c.requires.can.sound, c.requires.acts)

pub returns-in-Ok-clause-ok : goal.returns-in-Ok-clause-ok
returns-in-Ok-clause-ok g c = λ told.
    let run = held_of c.args.self.now in
    let o = operand_in c.args.operand.now in
    let acted : IsActed c.args.number (action_in c.args.action.now) o run = record {
      is = c.requires.is;
      operand = c.requires.operand;
      ready = c.requires.ready;
      acting = record { is = c.requires.is; operand = c.requires.operand; at_root = rows_at run.lines o.root c.requires.can.rows };
    } in
    act_goes_on c.args.number (action_in c.args.action.now) o run told acted _ (g.S.Sink.taken c.args.out.now) (g.S.Sink.taken c.act.new.out)
    (record {
      lines = c.in-Ok.ensures.lines;
      script = refl;
      workers = c.in-Ok.ensures.workers;
      follows = c.in-Ok.ensures.follows;
      permits = c.in-Ok.ensures.permits;
      empty = c.in-Ok.ensures.empty;
    })
    c.in-Ok.ensures.text c.in-Ok.ensures.few

pub returns-in-Err-clause-refused : goal.returns-in-Err-clause-refused
returns-in-Err-clause-refused g c = λ told.
    let run = held_of c.args.self.now in
    let o = operand_in c.args.operand.now in
    let acted : IsActed c.args.number (action_in c.args.action.now) o run = record {
      is = c.requires.is;
      operand = c.requires.operand;
      ready = c.requires.ready;
      acting = record { is = c.requires.is; operand = c.requires.operand; at_root = rows_at run.lines o.root c.requires.can.rows };
    } in
    let Stop : RunErr → Type 0 = λ e. StopsAt (do_action c.args.number) told run (g.S.Sink.taken c.args.out.now) e (g.S.Sink.taken c.act.new.out) in
    subst Stop (sym c.act_err.ensures)
    (act_stops c.args.number (action_in c.args.action.now) o run told acted g.S.Sink c.act.new.hands.items c.args.out.now c.act.new.out c.in-Err.why c.in-Err.ensures.refused)
