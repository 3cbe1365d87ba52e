use Rattle.std.proofs.Common.{ap, ◌∙◌}
use Rattle.std.specs.List.{position}
use Rattle.atspi_protocol.specs.following.ReaderState.{is_named}
use Rattle.atspi_reader_known.proofs.apps.Apps.place.Goals as goal

pub returns : goal.returns
returns c = c.find.ensures ∙ c.self.invariant.1 c.args.name.now ∙ ap (position (is_named c.args.name.now)) c.self.view_is
