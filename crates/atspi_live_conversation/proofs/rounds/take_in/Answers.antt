use Rattle.std.proofs.Common.{◌∷◌, length, take, [], refl, inl, arith}
use Rattle.atspi_live_host.specs.declared.call.Did.TheVariants.{Done, NotYet, End, Failed}
use Rattle.atspi_live_conversation.proofs.StepLemmas.{cause_of, if_err, not_ended, on_ok, own_broken, peer_ended, read_failed, took, took_last, took_nothing}
use Rattle.atspi_live_conversation.proofs.LeftLemmas.{peer_left, read_left, took_left}
use Rattle.atspi_live_conversation.proofs.MovedLemmas.{read_grows}
use Rattle.atspi_live_conversation.proofs.RoundLemmas.{front_short, heed_made, makes_one, read_made}
use Rattle.atspi_live_host.specs.declared.call.Call.TheVariants.{Read}
use Rattle.atspi_live_conversation.specs.Rounds.{Breaks}
use Rattle.atspi_live_conversation.specs.Talking.{HasNone}
use Rattle.atspi_live_conversation.specs.declared.ending.Ending.TheVariants.{HostFailed, PeerEnded}
use Rattle.atspi_live_conversation.proofs.rounds.take_in.Goals as goal

pub returns-in-Done-clause-ok : goal.returns-in-Done-clause-ok
returns-in-Done-clause-ok g c =
    on_ok c.heed.result _ _
    (λ f aside n w. took (g.E.BusEnd.Stands aside) c.args.link n (g.H.Host.calls c.args.host.now) (g.H.Host.calls c.read.new.self) (take c.in-Done.n c.read.new.into) (Done c.in-Done.n)
    c.args.conversation.now c.heed.new.self c.args.end.now c.heed.new.end c.in-Done.ensures.calls tt (f aside) w)
    c.heed.ensures.ok

pub returns-in-Done-clause-err : goal.returns-in-Done-clause-err
returns-in-Done-clause-err g c =
    if_err c.heed.result _ _
    (λ ending f aside n rounds w. took_last (g.E.BusEnd.Stands aside) g.E.BusEnd.IsSpent c.args.link n rounds (g.H.Host.calls c.args.host.now) (g.H.Host.calls c.read.new.self) (take c.in-Done.n c.read.new.into) (Done c.in-Done.n)
    c.args.conversation.now c.args.end.now ending c.in-Done.ensures.calls tt (f aside) w)
    c.heed.ensures.err

pub returns-in-NotYet-clause-ok : goal.returns-in-NotYet-clause-ok
returns-in-NotYet-clause-ok g c aside n w =
    took_nothing (g.E.BusEnd.Stands aside) c.args.link n (g.H.Host.calls c.args.host.now) (g.H.Host.calls c.read.new.self) c.args.conversation.now c.args.end.now c.in-NotYet.ensures.calls w

pub returns-in-End-clause-err : goal.returns-in-End-clause-err
returns-in-End-clause-err g c aside n rounds w =
    peer_ended (g.E.BusEnd.Stands aside) g.E.BusEnd.IsSpent c.args.link n rounds (g.H.Host.calls c.args.host.now) (g.H.Host.calls c.read.new.self) c.args.conversation.now c.args.end.now c.in-End.ensures.calls w

pub returns-in-Failed-clause-err : goal.returns-in-Failed-clause-err
returns-in-Failed-clause-err g c aside n rounds w =
    read_failed (g.E.BusEnd.Stands aside) g.E.BusEnd.IsSpent c.args.link n rounds (g.H.Host.calls c.args.host.now) (g.H.Host.calls c.read.new.self) c.args.conversation.now c.args.end.now c.in-Failed.ensures.calls w

pub returns-in-Done-clause-cause : goal.returns-in-Done-clause-cause
returns-in-Done-clause-cause g c = cause_of c.heed.result (g.H.Host.link_faults c.args.host.now) (g.H.Host.link_faults c.read.new.self) c.heed.ensures.own c.in-Done.ensures.cause

pub returns-in-Done-clause-still : goal.returns-in-Done-clause-still
returns-in-Done-clause-still g c e = absurd (not_ended c.heed.result c.heed.ensures.own e)

pub returns-in-Done-clause-grows : goal.returns-in-Done-clause-grows
returns-in-Done-clause-grows g c = read_grows c.args.link (g.H.Host.calls c.args.host.now) (g.H.Host.calls c.read.new.self) (take c.in-Done.n c.read.new.into) (Done c.in-Done.n) c.in-Done.ensures.calls

pub returns-in-NotYet-clause-grows : goal.returns-in-NotYet-clause-grows
returns-in-NotYet-clause-grows g c = read_grows c.args.link (g.H.Host.calls c.args.host.now) (g.H.Host.calls c.read.new.self) [] NotYet c.in-NotYet.ensures.calls

pub returns-in-End-clause-grows : goal.returns-in-End-clause-grows
returns-in-End-clause-grows g c = read_grows c.args.link (g.H.Host.calls c.args.host.now) (g.H.Host.calls c.read.new.self) [] End c.in-End.ensures.calls

pub returns-in-Failed-clause-grows : goal.returns-in-Failed-clause-grows
returns-in-Failed-clause-grows g c = read_grows c.args.link (g.H.Host.calls c.args.host.now) (g.H.Host.calls c.read.new.self) [] Failed c.in-Failed.ensures.calls

pub returns-in-Done-clause-made : goal.returns-in-Done-clause-made
returns-in-Done-clause-made g c =
    heed_made g.E.BusEnd.Stands (HasNone g.E.BusEnd.queued) c.heed.result c.args.link (length c.args.piece.now) (g.H.Host.calls c.args.host.now) (g.H.Host.calls c.read.new.self) c.heed.ensures.own
    (read_made c.args.link (length c.args.piece.now) (g.H.Host.calls c.args.host.now) (g.H.Host.calls c.read.new.self) (take c.in-Done.n c.read.new.into) (Done c.in-Done.n) tt
    (front_short c.in-Done.n (length c.args.piece.now) c.read.new.into c.in-Done.ensures.within.1) c.in-Done.ensures.calls)

pub returns-in-NotYet-clause-made : goal.returns-in-NotYet-clause-made
returns-in-NotYet-clause-made g c =
    read_made c.args.link (length c.args.piece.now) (g.H.Host.calls c.args.host.now) (g.H.Host.calls c.read.new.self) [] NotYet tt (omega arith) c.in-NotYet.ensures.calls

pub returns-in-End-clause-made : goal.returns-in-End-clause-made
returns-in-End-clause-made g c aside t h =
    makes_one (g.H.Host.calls c.args.host.now) (g.H.Host.calls c.read.new.self) (Read c.args.link [] End) (Breaks (g.E.BusEnd.Stands aside) (HasNone g.E.BusEnd.queued) c.args.link (length c.args.piece.now) PeerEnded t h) refl c.in-End.ensures.calls

pub returns-in-Failed-clause-made : goal.returns-in-Failed-clause-made
returns-in-Failed-clause-made g c aside t h =
    makes_one (g.H.Host.calls c.args.host.now) (g.H.Host.calls c.read.new.self) (Read c.args.link [] Failed) (Breaks (g.E.BusEnd.Stands aside) (HasNone g.E.BusEnd.queued) c.args.link (length c.args.piece.now) HostFailed t h) (inl refl) c.in-Failed.ensures.calls

pub returns-in-Done-clause-broken : goal.returns-in-Done-clause-broken
returns-in-Done-clause-broken g c = if_err c.heed.result _ _ own_broken c.heed.ensures.own

pub returns-in-Done-clause-left : goal.returns-in-Done-clause-left
returns-in-Done-clause-left g c =
    if_err c.heed.result _ _
    (λ ending f aside n w. took_left (g.E.BusEnd.Stands aside) g.E.BusEnd.IsSpent c.args.link n (g.H.Host.calls c.args.host.now) (g.H.Host.calls c.read.new.self) (take c.in-Done.n c.read.new.into) (Done c.in-Done.n)
    c.args.conversation.now c.args.end.now c.heed.new.end ending c.in-Done.ensures.calls (f aside) w)
    c.heed.ensures.left

pub returns-in-End-clause-left : goal.returns-in-End-clause-left
returns-in-End-clause-left g c aside n w =
    peer_left (g.E.BusEnd.Stands aside) g.E.BusEnd.IsSpent c.args.link n (g.H.Host.calls c.args.host.now) (g.H.Host.calls c.read.new.self) c.args.conversation.now c.args.end.now c.in-End.ensures.calls w

pub returns-in-Failed-clause-left : goal.returns-in-Failed-clause-left
returns-in-Failed-clause-left g c aside n w =
    read_left (g.E.BusEnd.Stands aside) g.E.BusEnd.IsSpent c.args.link n (g.H.Host.calls c.args.host.now) (g.H.Host.calls c.read.new.self) c.args.conversation.now c.args.end.now c.in-Failed.ensures.calls w
