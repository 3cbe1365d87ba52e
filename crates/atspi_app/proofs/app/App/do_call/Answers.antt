use Rattle.std.proofs.Common.{rules, w32, SFits}
use Rattle.std.proofs.lemmas.Int.{to_z-of_z}
use Rattle.atspi_app.proofs.OfCalls.{with_number}
use Rattle.atspi_app.proofs.app.App.do_call.Goals as goal

pub returns-in-Ok-clause-ok : goal.returns-in-Ok-clause-ok
returns-in-Ok-clause-ok g c =
    let fits : SFits w32 c.args.id = search rules in
    with_number _ _ _ c.args.id (to_z-of_z w32 c.args.id fits) c.in-Ok.ensures.ok
