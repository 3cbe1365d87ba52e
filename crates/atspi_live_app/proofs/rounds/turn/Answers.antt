use Rattle.std.proofs.Common.{length, refl, rules}
use Rattle.atspi_live_conversation.specs.Speech.{envelopes}
use Rattle.atspi_live_app.specs.Lines.{lines_of}
use Rattle.atspi_live_app.specs.Live.{IsMarked}
use Rattle.atspi_live_app.specs.inner.Live.{aside_of}
use Rattle.atspi_live_app.specs.Pace.{BreaksOver}
use Rattle.atspi_live_app.specs.declared.over.Over.TheVariants.{Stopped}
use Rattle.atspi_live_conversation.proofs.RoundLemmas.{makes_none}
use Rattle.atspi_live_app.proofs.Turning.{StandsOf, breaks_of, going_turns, heard_of, may_turns, round_of, see_of, seen_of, turn_ended, turn_stopped}
use Rattle.atspi_live_app.proofs.rounds.turn.Goals as goal

pub returns-in-Err-clause-err : goal.returns-in-Err-clause-err
returns-in-Err-clause-err g c = λ text marks place n rounds w. (
  marks,
  turn_stopped (StandsOf g.A.Application.is_app g.A.Application.exporter g.A.Application.is_kit (aside_of place marks text)) (IsMarked marks) (lines_of text) (see_of g.A.Application.exporter) c.args.link n rounds c.in-Err.stop (g.H.Host.calls c.args.host.now) c.args.conversation.now
      c.args.end.now (seen_of g.A.Application.is_app g.A.Application.exporter g.A.Application.is_kit place marks text) (c.in-Err.ensures.err text marks place) w,
  (c.in-Err.ensures.due, refl),
  makes_none (g.H.Host.calls c.args.host.now) (BreaksOver (IsMarked marks) (lines_of text) c.args.link (length c.args.piece.now) (Stopped c.in-Err.stop) w.t w.g) refl,
)

pub round-requires-clause-may : goal.round-requires-clause-may
round-requires-clause-may g c =
    may_turns g.A.Application.is_app g.A.Application.exporter g.A.Application.is_kit c.args.end.now c.do_due.new.end
    (λ text marks place took said f. let h = c.in_default.ensures.ok text marks place took said f in (aside_of c.do_due.new.end.input.at h.0 text, h.2)) c.requires.may

pub returns-in-Ok-clause-ok : goal.returns-in-Ok-clause-ok
returns-in-Ok-clause-ok g c = λ text marks place n w.
    let v = w.at_ease.converses in
    let h = c.in_default.ensures.ok text marks place (envelopes v.messages) v.said v.end_stands in
    let on = going_turns (StandsOf g.A.Application.is_app g.A.Application.exporter g.A.Application.is_kit (aside_of place marks text)) (StandsOf g.A.Application.is_app g.A.Application.exporter g.A.Application.is_kit (aside_of c.do_due.new.end.input.at h.0 text)) c.args.link n
    (g.H.Host.calls c.args.host.now) c.args.conversation.now c.args.end.now c.do_due.new.end w h.2 in (
      c.do_due.new.takes,
      c.do_due.new.end.input.at,
      length (envelopes v.messages),
      h.0,
      h.1,
      heard_of (StandsOf g.A.Application.is_app g.A.Application.exporter g.A.Application.is_kit (aside_of place marks text)) c.args.link n (g.H.Host.calls c.args.host.now) c.args.conversation.now c.args.end.now w,
      search rules,
      c.in-Ok.ensures.ok (aside_of c.do_due.new.end.input.at h.0 text) n on,
      round_of (StandsOf g.A.Application.is_app g.A.Application.exporter g.A.Application.is_kit (aside_of c.do_due.new.end.input.at h.0 text)) (IsMarked h.0) (lines_of text) (see_of g.A.Application.exporter) c.args.link (length c.args.piece.now) w.t w.g
          (g.H.Host.calls c.args.host.now) (g.H.Host.calls c.round.new.host) (seen_of g.A.Application.is_app g.A.Application.exporter g.A.Application.is_kit c.do_due.new.end.input.at h.0 text)
          (c.in-Ok.ensures.made (aside_of c.do_due.new.end.input.at h.0 text) n on),
    )

pub returns-in-Err-round-clause-err : goal.returns-in-Err-round-clause-err
returns-in-Err-round-clause-err g c = λ text marks place n rounds w.
    let v = w.at_ease.converses in
    let h = c.in_default.ensures.ok text marks place (envelopes v.messages) v.said v.end_stands in
    let on = going_turns (StandsOf g.A.Application.is_app g.A.Application.exporter g.A.Application.is_kit (aside_of place marks text)) (StandsOf g.A.Application.is_app g.A.Application.exporter g.A.Application.is_kit (aside_of c.do_due.new.end.input.at h.0 text)) c.args.link n
    (g.H.Host.calls c.args.host.now) c.args.conversation.now c.args.end.now c.do_due.new.end w h.2 in (
      h.0,
      turn_ended (StandsOf g.A.Application.is_app g.A.Application.exporter g.A.Application.is_kit (aside_of c.do_due.new.end.input.at h.0 text)) (IsMarked h.0) (lines_of text) (see_of g.A.Application.exporter) c.args.link rounds c.in-Err-round.ending (g.H.Host.calls c.round.new.host)
          (seen_of g.A.Application.is_app g.A.Application.exporter g.A.Application.is_kit c.do_due.new.end.input.at h.0 text) (c.in-Err-round.ensures.err (aside_of c.do_due.new.end.input.at h.0 text) n rounds on),
      (
        c.do_due.new.takes,
        c.do_due.new.end.input.at,
        length (envelopes v.messages),
        h.1,
        heard_of (StandsOf g.A.Application.is_app g.A.Application.exporter g.A.Application.is_kit (aside_of place marks text)) c.args.link n (g.H.Host.calls c.args.host.now) c.args.conversation.now c.args.end.now w,
      ),
      breaks_of (StandsOf g.A.Application.is_app g.A.Application.exporter g.A.Application.is_kit (aside_of c.do_due.new.end.input.at h.0 text)) (IsMarked h.0) (lines_of text) (see_of g.A.Application.exporter) c.args.link (length c.args.piece.now) c.in-Err-round.ending w.t w.g
          (g.H.Host.calls c.args.host.now) (g.H.Host.calls c.round.new.host) (seen_of g.A.Application.is_app g.A.Application.exporter g.A.Application.is_kit c.do_due.new.end.input.at h.0 text)
          (c.in-Err-round.ensures.made (aside_of c.do_due.new.end.input.at h.0 text) n on),
    )
