use Rattle.std.proofs.Common.{◌+◌, length}
use Rattle.atspi_live_conversation.proofs.StepLemmas.{if_err, on_ok}
use Rattle.atspi_live_reader.proofs.Turning.{breaks_of, if_match, may_wrote, mute_blames, mute_left, mute_made, round_of, turn_ended, turn_left, turn_muted, turned}
use Rattle.atspi_live_reader.proofs.following.turn.Goals as goal

pub returns-in-Err-clause-err : goal.returns-in-Err-clause-err
returns-in-Err-clause-err g c written n rounds w =
    turn_ended c.args.link n rounds c.in-Err.ending (g.H.Host.calls c.args.host.now) (g.H.Host.calls c.round.new.host) c.args.conversation.now c.args.end.now written (g.K.Sink.written c.args.sink.now)
    c.requires.quiet c.round.ensures.grows w (c.in-Err.ensures.err written n rounds w)

pub returns-clause-ok : goal.returns-clause-ok
returns-clause-ok g c =
    on_ok c.speak.result _ _
    (λ s. turned c.args.link (g.H.Host.calls c.args.host.now) (g.H.Host.calls c.round.new.host) c.args.conversation.now c.round.new.conversation c.args.end.now c.round.new.end c.speak.new.end
    (g.K.Sink.written c.args.sink.now) (g.K.Sink.written c.speak.new.sink) c.in_default.ensures.ok s)
    c.speak.ensures.ok

pub returns-clause-err : goal.returns-clause-err
returns-clause-err g c =
    if_err c.speak.result _ _
    (λ over m written n rounds w. turn_muted c.args.link n rounds over (g.H.Host.calls c.args.host.now) (g.H.Host.calls c.round.new.host) c.args.conversation.now c.round.new.conversation c.args.end.now c.round.new.end written
    (g.K.Sink.written c.args.sink.now) (g.K.Sink.written c.speak.new.sink) c.requires.quiet c.round.ensures.grows w (c.in_default.ensures.ok written n w) m)
    c.speak.ensures.err

pub returns-clause-may : goal.returns-clause-may
returns-clause-may g c =
    on_ok c.speak.result _ _ (λ s. may_wrote c.round.new.end c.speak.new.end (g.K.Sink.written c.args.sink.now) (g.K.Sink.written c.speak.new.sink) c.in_default.ensures.may s) c.speak.ensures.ok

pub returns-clause-quiet : goal.returns-clause-quiet
returns-clause-quiet g c = on_ok c.speak.result _ _ (λ s. s.quiet) c.speak.ensures.ok

pub returns-clause-cause : goal.returns-clause-cause
returns-clause-cause g c =
    if_match c.speak.result _ _ _ (λ x. c.in_default.ensures.cause)
    (λ over m. mute_blames over c.round.new.end (g.K.Sink.written c.args.sink.now) (g.K.Sink.written c.speak.new.sink) (g.H.Host.link_faults c.args.host.now) (g.H.Host.link_faults c.round.new.host) c.in_default.ensures.cause m)
    c.speak.ensures.err

pub returns-in-Err-clause-made : goal.returns-in-Err-clause-made
returns-in-Err-clause-made g c written n going =
    breaks_of written c.args.link (length c.args.piece.now) c.in-Err.ending going.t going.g (g.H.Host.calls c.args.host.now) (g.H.Host.calls c.round.new.host) (c.in-Err.ensures.made written n going)

pub returns-clause-made : goal.returns-clause-made
returns-clause-made g c =
    if_match c.speak.result _ _ _
    (λ x written n going. round_of written c.args.link (length c.args.piece.now) going.t going.g (g.H.Host.calls c.args.host.now) (g.H.Host.calls c.round.new.host) (c.in_default.ensures.made written n going))
    (λ over m written n going. mute_made c.args.link (length c.args.piece.now) over c.round.new.end (g.K.Sink.written c.args.sink.now) (g.K.Sink.written c.speak.new.sink) going.t going.g (g.H.Host.calls c.args.host.now) (g.H.Host.calls c.round.new.host)
    (round_of written c.args.link (length c.args.piece.now) going.t going.g (g.H.Host.calls c.args.host.now) (g.H.Host.calls c.round.new.host) (c.in_default.ensures.made written n going)) m)
    c.speak.ensures.err

pub returns-in-Err-clause-left : goal.returns-in-Err-clause-left
returns-in-Err-clause-left g c written n w =
    turn_left c.args.link c.in-Err.ending written (g.H.Host.calls c.round.new.host) (g.K.Sink.written c.args.sink.now) c.round.new.end (c.in-Err.ensures.left written n w)

pub returns-clause-left : goal.returns-clause-left
returns-clause-left g c =
    if_err c.speak.result _ _
    (λ over m written n w. mute_left c.args.link (n + 1) over written (g.H.Host.calls c.round.new.host) c.round.new.conversation (g.K.Sink.written c.args.sink.now) (g.K.Sink.written c.speak.new.sink) c.round.new.end c.speak.new.end
    (c.in_default.ensures.ok written n w) m)
    c.speak.ensures.err
