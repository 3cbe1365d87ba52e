use Rattle.std.proofs.Common.{◌+◌, length, refl, inl}
use Rattle.atspi_live_conversation.proofs.LeftLemmas.{memory_left, write_left}
use Rattle.atspi_live_conversation.proofs.MovedLemmas.{gives_grows, grows_both}
use Rattle.atspi_live_conversation.specs.Rounds.{Breaks, IsRead}
use Rattle.atspi_live_conversation.specs.Talking.{HasNone}
use Rattle.atspi_live_conversation.specs.declared.ending.Ending.TheVariants.{NoMemory}
use Rattle.atspi_live_conversation.proofs.RoundLemmas.{makes_if, round_made, write_broke}
use Rattle.atspi_live_conversation.proofs.StepLemmas.{gave, no_memory, write_failed}
use Rattle.atspi_live_conversation.proofs.rounds.round.Goals as goal

pub returns-in_default-utter-clause-err : goal.returns-in_default-utter-clause-err
returns-in_default-utter-clause-err g c aside n rounds w =
    no_memory (g.E.BusEnd.Stands aside) g.E.BusEnd.IsSpent c.args.link (n + 1) rounds (g.H.Host.calls c.take_in.new.host) c.take_in.new.conversation c.take_in.new.end (c.in_default.ensures.ok aside n w)

pub returns-in-Ok-give-clause-ok : goal.returns-in-Ok-give-clause-ok
returns-in-Ok-give-clause-ok g c aside n w =
    gave (g.E.BusEnd.Stands aside) c.args.link (n + 1) (g.H.Host.calls c.take_in.new.host) (g.H.Host.calls c.give.new.host) c.take_in.new.conversation c.utter.new.self _ c.take_in.new.end c.utter.new.end
    (c.in-Ok.ensures.ok aside) c.give.ensures.gives refl refl refl (c.in_default.ensures.ok aside n w)

pub returns-in-Err-give-clause-err : goal.returns-in-Err-give-clause-err
returns-in-Err-give-clause-err g c aside n rounds w =
    write_failed (g.E.BusEnd.Stands aside) g.E.BusEnd.IsSpent c.args.link (n + 1) rounds (g.H.Host.calls c.give.new.host) (record c.utter.new.self { unsent = c.give.new.unsent }) c.utter.new.end
    (gave (g.E.BusEnd.Stands aside) c.args.link (n + 1) (g.H.Host.calls c.take_in.new.host) (g.H.Host.calls c.give.new.host) c.take_in.new.conversation c.utter.new.self (record c.utter.new.self { unsent = c.give.new.unsent }) c.take_in.new.end c.utter.new.end
    (c.in-Ok.ensures.ok aside) c.give.ensures.gives refl refl refl (c.in_default.ensures.ok aside n w))

pub returns-in-Ok-give-clause-grows : goal.returns-in-Ok-give-clause-grows
returns-in-Ok-give-clause-grows g c =
    grows_both c.args.link (g.H.Host.calls c.args.host.now) (g.H.Host.calls c.take_in.new.host) (g.H.Host.calls c.give.new.host) c.take_in.ensures.grows
    (gives_grows c.args.link (g.H.Host.calls c.take_in.new.host) (g.H.Host.calls c.give.new.host) c.give.ensures.gives.0 c.give.ensures.gives.1)

pub returns-in-Err-give-clause-grows : goal.returns-in-Err-give-clause-grows
returns-in-Err-give-clause-grows g c =
    grows_both c.args.link (g.H.Host.calls c.args.host.now) (g.H.Host.calls c.take_in.new.host) (g.H.Host.calls c.give.new.host) c.take_in.ensures.grows
    (gives_grows c.args.link (g.H.Host.calls c.take_in.new.host) (g.H.Host.calls c.give.new.host) c.give.ensures.gives.0 c.give.ensures.gives.1)

pub returns-in-Err-clause-made : goal.returns-in-Err-clause-made
returns-in-Err-clause-made g c aside n going = c.in-Err.ensures.made aside going.t going.g

pub returns-in_default-utter-clause-made : goal.returns-in_default-utter-clause-made
returns-in_default-utter-clause-made g c aside n going =
    makes_if (g.H.Host.calls c.args.host.now) (g.H.Host.calls c.take_in.new.host) (IsRead c.args.link (length c.args.piece.now)) (Breaks (g.E.BusEnd.Stands aside) (HasNone g.E.BusEnd.queued) c.args.link (length c.args.piece.now) NoMemory going.t going.g) (λ calls. inl) c.in_default.ensures.made

pub returns-in-Ok-give-clause-made : goal.returns-in-Ok-give-clause-made
returns-in-Ok-give-clause-made g c aside n going =
    let w = c.in_default.ensures.ok aside n going in
    round_made (g.E.BusEnd.Stands aside) g.E.BusEnd.queued c.args.link (length c.args.piece.now) (g.H.Host.calls c.args.host.now) (g.H.Host.calls c.take_in.new.host) (g.H.Host.calls c.give.new.host) going.t going.g w.t w.g going.dids w.dids
    c.utter.new.self c.utter.new.end going.tells w.tells (c.in-Ok.ensures.ok aside w.t w.g w.at_ease) c.in-Ok.ensures.uttered c.in_default.ensures.made c.in-Ok-give.ensures.made

pub returns-in-Err-give-clause-made : goal.returns-in-Err-give-clause-made
returns-in-Err-give-clause-made g c aside n going =
    let w = c.in_default.ensures.ok aside n going in
    write_broke (g.E.BusEnd.Stands aside) g.E.BusEnd.queued c.args.link (length c.args.piece.now) (g.H.Host.calls c.args.host.now) (g.H.Host.calls c.take_in.new.host) (g.H.Host.calls c.give.new.host) going.t going.g w.t w.g going.dids w.dids
    c.utter.new.self c.utter.new.end going.tells w.tells (c.in-Ok.ensures.ok aside w.t w.g w.at_ease) c.in-Ok.ensures.uttered c.in_default.ensures.made c.in-Err-give.ensures.made

pub returns-in_default-utter-clause-left : goal.returns-in_default-utter-clause-left
returns-in_default-utter-clause-left g c aside n w =
    memory_left (g.E.BusEnd.Stands aside) g.E.BusEnd.IsSpent c.args.link (n + 1) (g.H.Host.calls c.take_in.new.host) c.take_in.new.conversation c.take_in.new.end c.utter.new.end (c.in_default.ensures.ok aside n w)

pub returns-in-Err-give-clause-left : goal.returns-in-Err-give-clause-left
returns-in-Err-give-clause-left g c aside n w =
    write_left (g.E.BusEnd.Stands aside) g.E.BusEnd.IsSpent c.args.link (n + 1) (g.H.Host.calls c.give.new.host) (record c.utter.new.self { unsent = c.give.new.unsent }) c.utter.new.end
    (gave (g.E.BusEnd.Stands aside) c.args.link (n + 1) (g.H.Host.calls c.take_in.new.host) (g.H.Host.calls c.give.new.host) c.take_in.new.conversation c.utter.new.self (record c.utter.new.self { unsent = c.give.new.unsent }) c.take_in.new.end c.utter.new.end
    (c.in-Ok.ensures.ok aside) c.give.ensures.gives refl refl refl (c.in_default.ensures.ok aside n w))
