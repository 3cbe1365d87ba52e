use Rattle.std.proofs.Common.{ap, ◌∙◌}
use Rattle.atspi_tree.specs.Namers.{has_namer}
use Rattle.atspi_tree.proofs.Leaf.{nothing_to_forget}
use Rattle.atspi_tree.proofs.table.forget_named.Goals as goal

pub forget_targets-requires : goal.forget_targets-requires
forget_targets-requires c m out = c.requires m (ap (λ o. has_namer o m) c.in-Some.is ∙ out)

pub returns-in_default-clause-put : goal.returns-in_default-clause-put
returns-in_default-clause-put c = nothing_to_forget _ c.args.target (λ m. c.requires m (ap (λ o. has_namer o m) c.in_default.is))
