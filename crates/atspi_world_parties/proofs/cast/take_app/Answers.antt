use Rattle.std.proofs.Common.{get_or, arith}
use Rattle.atspi_message_in_place.specs.View.{envelope_at}
use Rattle.atspi_protocol.specs.exporting.Exporter.{Exporter}
use Rattle.atspi_protocol.specs.exporting.Taking.{app_takes}
use Rattle.atspi_world_parties.proofs.Elements.{took_at, took_none, took_there}
use Rattle.atspi_world_parties.proofs.ElementsSpent.{past}
use Rattle.atspi_world_parties.proofs.cast.take_app.Goals as goal

pub returns-then-place-apps-clause-took : goal.returns-then-place-apps-clause-took
returns-then-place-apps-clause-took g c = took_none g.A.Application.exporter (λ s. app_takes s (envelope_at c.args.message.now)) c.args.apps.now c.args.number (omega arith)

pub returns-clause-took : goal.returns-clause-took
returns-clause-took g c =
    took_at g.A.Application.exporter c.take.result (λ s. app_takes s (envelope_at c.args.message.now)) c.args.apps.now c.args.number _ c.take.new.self (cc (c.index-apps-place.is)) c.take.ensures.ok

pub returns-clause-spent : goal.returns-clause-spent
returns-clause-spent g c = λ is.
    let exporter = g.A.Application.exporter in
    let takes : Exporter → Exporter = λ s. app_takes s (envelope_at c.args.message.now) in
    let after = takes (exporter (get_or c.args.apps.now c.args.number c.index-apps-place.result)) in
    (after, took_there exporter takes c.args.apps.now c.args.number c.index-apps-place.result (omega arith), past after (c.take.ensures.spent is))
