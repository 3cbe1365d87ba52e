use Rattle.std.proofs.lemmas.Result.{IfErr-weaker, err_from_is_err_and, on_ok_weaker}
use Rattle.atspi_run_replay.proofs.Script.{one_more_at, seen_behind}
use Rattle.atspi_run_replay.proofs.Stopping.{edit_stops, made_edit_stops, same_stop, turns_stop}
use Rattle.atspi_run_replay.proofs.making.make_edit.Goals as goal

pub returns-clause-drawn : goal.returns-clause-drawn
returns-clause-drawn g c =
    on_ok_weaker c.make_turns.result
    (λ turns seed h. one_more_at seed c.args.number c.args.draws.now.state c.draw.new.draws.state c.in_ok-edit.edit _ _ _ c.requires.counted c.in_ok-edit.ensures.lawful h c.in_ok-edit.ensures.edit c.in_ok-edit.ensures.state c.in_ok-act.ensures.done turns)
    c.make_turns.ensures.done

pub returns-clause-seen : goal.returns-clause-seen
returns-clause-seen g c =
    on_ok_weaker c.make_turns.result
    (λ turns. seen_behind c.draw.new.nodes.nodes.items c.draw.new.nodes.next c.requires.drawn.0 _ c.args.number _ c.in_ok-edit.edit _ _ _ c.in_ok-edit.ensures.lawful c.requires.drawn.1 c.in_ok-act.ensures.done turns c.in_ok-edit.ensures.seen)
    c.make_turns.ensures.done

pub returns-in_err-edit-clause-stops : goal.returns-in_err-edit-clause-stops
returns-in_err-edit-clause-stops g c =
    let p = err_from_is_err_and c.from_residual.result c.from_residual.ensures.1 in
    rw p.1 (edit_stops c.args.number c.args.draws.now.state p.0 _ c.requires.counted (same_stop _ _ _ _ p.2 c.in_err-edit.ensures.stops))

pub returns-in_err-act-clause-stops : goal.returns-in_err-act-clause-stops
returns-in_err-act-clause-stops g c =
    let p = err_from_is_err_and c.from_residual-in_err-act.result c.from_residual-in_err-act.ensures.1 in
    rw p.1 (made_edit_stops c.args.number c.args.draws.now.state c.in_ok-edit.edit p.0 _ c.requires.counted (same_stop _ _ _ _ p.2 c.in_err-act.ensures.stops) c.in_ok-edit.ensures.edit)

pub returns-clause-stops : goal.returns-clause-stops
returns-clause-stops g c =
    IfErr-weaker c.make_turns.result _ _
    (λ stop h. turns_stop c.args.number c.args.draws.now.state c.in_ok-edit.edit stop _ _ c.requires.counted c.in_ok-edit.ensures.lawful c.in_ok-act.ensures.done c.in_ok-edit.ensures.edit h.0 h.1)
    c.make_turns.ensures.stops
