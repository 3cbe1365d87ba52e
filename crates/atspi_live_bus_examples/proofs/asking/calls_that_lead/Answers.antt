use Rattle.std.proofs.Common.{refl, sym, ap, ◌∙◌}
use Rattle.atspi_match.specs.routing.Queues.{Bus}
use Rattle.atspi_live_bus_examples.proofs.Facts.{other_byte}
use Rattle.atspi_live_bus_examples.proofs.asking.calls_that_lead.Goals as goal

pub returns-clause-joined : goal.returns-clause-joined
returns-clause-joined c b leads = ap (λ (w : Bus). w.state.joined) leads

pub returns-clause-taken : goal.returns-clause-taken
returns-clause-taken c b d e rule is took = (rule, is, took)

pub returns-clause-by_its_rule : goal.returns-clause-by_its_rule
returns-clause-by_its_rule c b d e none leads = none leads.0 leads.1 leads.2

pub returns-clause-left : goal.returns-clause-left
returns-clause-left c b leads = leads

pub returns-clause-popped : goal.returns-clause-popped
returns-clause-popped c b rest is = (rest, is, refl)

pub returns-clause-other_bytes : goal.returns-clause-other_bytes
returns-clause-other_bytes c b d is leads = other_byte leads.0 (sym is ∙ leads.1)

pub returns-clause-told : goal.returns-clause-told
returns-clause-told c b = refl

pub returns-clause-else_the_same : goal.returns-clause-else_the_same
returns-clause-else_the_same c b leads = sym (ap (λ (w : Bus). w.quota) leads)
