use Rattle.std.proofs.Common.{map, ap, ◌∙◌}
use Rattle.atspi_world_links.specs.Changes.{changed_at}
use Rattle.atspi_world_moves.specs.inner.Told.{gone, party_in, whose}
use Rattle.atspi_world_moves.proofs.carrier.Carrier.leave.Goals as goal

pub returns-clause-given : goal.returns-clause-given
returns-clause-given c = c.clear.ensures.given ∙ c.empty.ensures.given

pub returns-clause-posts : goal.returns-clause-posts
returns-clause-posts c = c.clear.ensures.posts ∙ ap (changed_at c.args.conn gone) c.empty.ensures.posts

pub returns-clause-bus : goal.returns-clause-bus
returns-clause-bus c = c.clear.ensures.bus ∙ c.empty.ensures.bus

pub returns-clause-trace : goal.returns-clause-trace
returns-clause-trace c = c.clear.ensures.trace ∙ c.empty.ensures.trace

pub returns-clause-who : goal.returns-clause-who
returns-clause-who c = c.clear.ensures.who ∙ ap (λ l. party_in (map whose l) c.args.conn) c.empty.ensures.posts
