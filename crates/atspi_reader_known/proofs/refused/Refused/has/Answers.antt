use Rattle.std.proofs.Common.{ap, ◌∙◌}
use Rattle.atspi_protocol.specs.following.Wishes.{is_refused}
use Rattle.atspi_reader_known.proofs.refused.Refused.has.Goals as goal

pub returns : goal.returns
returns c = c.has.ensures ∙ c.self.invariant.0 c.args.path.now c.args.part ∙ ap (λ r. is_refused r c.args.path.now c.args.part) c.self.view_is
