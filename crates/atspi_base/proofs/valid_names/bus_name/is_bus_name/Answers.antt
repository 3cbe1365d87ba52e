use Rattle.std.proofs.Common.{sym, ◌∙◌}
use Rattle.atspi_base.proofs.OfValidNames.NameLemmas.{IsBusName-from_test, is_bus_name-from_IsBusName}
use Rattle.atspi_base.proofs.valid_names.bus_name.is_bus_name.Goals as goal

pub returns-clause-rule : goal.returns-clause-rule
returns-clause-rule c = (λ e. IsBusName-from_test c.args.bytes.now (sym c.is_rule.ensures ∙ e), λ h. c.is_rule.ensures ∙ is_bus_name-from_IsBusName c.args.bytes.now h)
