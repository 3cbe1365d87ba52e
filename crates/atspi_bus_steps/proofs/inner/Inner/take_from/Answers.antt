use Rattle.std.proofs.Common.{◌≡◌, ◌<◌, List, Option, subst}
use Rattle.std.specs.Prelude.{OnOk, IsErrOf}
use Rattle.atspi_message.specs.Envelope.{Envelope}
use Rattle.atspi_match.specs.declared.condition.Condition.{Condition}
use Rattle.atspi_match.specs.routing.Steps.{takes_from_named}
use Rattle.atspi_match.specs.routing.Queues.{stepped}
use Rattle.atspi_bus_steps.specs.InnerBus.{inner_of, state_of}
use Rattle.atspi_bus_steps.specs.Spoken.{IsRuleNamed}
use Rattle.atspi_bus_steps.specs.declared.fault.BusFault.TheVariants.{Spent}
use Rattle.atspi_bus_steps.proofs.inner.Inner.take_from.Goals as goal

pub returns-clause-ok : goal.returns-clause-ok
returns-clause-ok c =
    subst (λ (x : Envelope). OnOk c.take_named.result ((rule : Option (List Condition)) × IsRuleNamed x rule
    × (inner_of c.take_named.new.self ≡ stepped (inner_of c.args.self.now) (takes_from_named (state_of c.args.self.now) c.args.conn x rule))))
    c.with_sender.ensures c.take_named.ensures.ok

pub returns-clause-spent : goal.returns-clause-spent
returns-clause-spent c =
    subst (λ (x : Envelope). IsErrOf c.take_named.result Spent → (rule : Option (List Condition)) × IsRuleNamed x rule
    × (4294967296 < (takes_from_named (state_of c.args.self.now) c.args.conn x rule).state.next))
    c.with_sender.ensures c.take_named.ensures.spent
