use Rattle.atspi_world_parties.proofs.Elements.{edits_at}
use Rattle.atspi_world_parties.proofs.Reasons.{err_at}
use Rattle.atspi_world_parties.proofs.ElementsSpent.{edit_spends}
use Rattle.atspi_world_parties.proofs.doing.edit_at.Goals as goal

pub returns-clause-edited : goal.returns-clause-edited
returns-clause-edited g c = edits_at g.A.Application.exporter c.edit.result c.args.apps.now _ c.edit.new.self c.args.number c.args.edit.now (cc (c.index-apps-place.is)) c.edit.ensures.ok

pub returns-clause-err : goal.returns-clause-err
returns-clause-err g c = err_at g.A.Application.exporter c.edit.result c.args.apps.now c.args.number _ c.edit.new.self (cc (c.index-apps-place.is)) c.edit.ensures.err

pub returns-clause-spent : goal.returns-clause-spent
returns-clause-spent g c = λ is.
    edit_spends g.A.Application.exporter c.args.apps.now _ c.args.number c.args.edit.now (cc (c.index-apps-place.is)) (c.edit.ensures.spent is)
