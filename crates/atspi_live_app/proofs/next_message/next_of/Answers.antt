use Rattle.std.proofs.Common.{[], ◌∷◌, List, Some, length, refl, ap, arith}
use Rattle.atspi_message.specs.Envelope.{envelope_of}
use Rattle.atspi_protocol.specs.exporting.Exporter.{Happening}
use Rattle.atspi_live_app.proofs.Handing.{handed_most}
use Rattle.atspi_live_app.proofs.Making.{handed_both, handed_none}
use Rattle.atspi_live_app.proofs.next_message.next_of.Goals as goal

pub events-init : goal.events-init
events-init g c = record { handed = handed_none (Some (g.A.Application.exporter c.args.app.now)); is = c.requires }

pub events-preserved : goal.events-preserved
events-preserved g c = record {
  handed = handed_both [] [] (Some (g.A.Application.exporter c.hand_over.new.app)) (Some (g.A.Application.exporter c.events.app)) (Some (g.A.Application.exporter c.args.app.now)) c.events.invariant.handed c.in-Aside.ensures.hands.0;
  is = c.hand_over.ensures.app;
}

pub events-smaller : goal.events-smaller
events-smaller g c = c.in-Aside.ensures.hands.1

pub returns-in-Message-clause-hands : goal.returns-in-Message-clause-hands
returns-in-Message-clause-hands g c =
    handed_both [] (envelope_of c.in-Message.message ∷ []) (Some (g.A.Application.exporter c.hand_over.new.app)) (Some (g.A.Application.exporter c.events.app)) (Some (g.A.Application.exporter c.args.app.now)) c.events.invariant.handed
    c.in-Message.ensures.hands.0

pub returns-in-Message-clause-fewer : goal.returns-in-Message-clause-fewer
returns-in-Message-clause-fewer g c =
    omega (arith, c.in-Message.ensures.hands.1, handed_most [] (g.A.Application.exporter c.args.app.now) (g.A.Application.exporter c.events.app) c.events.invariant.handed)

pub returns-in-Nothing-clause-hands : goal.returns-in-Nothing-clause-hands
returns-in-Nothing-clause-hands g c =
    handed_both [] [] (Some (g.A.Application.exporter c.hand_over.new.app)) (Some (g.A.Application.exporter c.events.app)) (Some (g.A.Application.exporter c.args.app.now)) c.events.invariant.handed c.in-Nothing.ensures.hands

pub returns-in-Nothing-clause-empty : goal.returns-in-Nothing-clause-empty
returns-in-Nothing-clause-empty g c = ap (λ (w : List Happening). length w) (c.in-Nothing.ensures.nothing refl)
