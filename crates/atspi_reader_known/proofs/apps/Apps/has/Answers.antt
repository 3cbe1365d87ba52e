use Rattle.std.proofs.Common.{ap, ◌∙◌}
use Rattle.std.specs.Prelude.{is_some}
use Rattle.atspi_reader_known.proofs.Placed.{some_named}
use Rattle.atspi_reader_known.proofs.apps.Apps.has.Goals as goal

pub returns : goal.returns
returns c = c.is_some.ensures ∙ ap is_some c.place.ensures ∙ some_named c.args.name.now c.args.self.now
