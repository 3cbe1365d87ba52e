use Rattle.std.proofs.Common.{sym, ◌∙◌}
use Rattle.atspi_base.proofs.OfValidNames.NameLemmas.{IsInterface-from_test, is_interface-from_IsInterface}
use Rattle.atspi_base.proofs.valid_names.interface.is_interface.Goals as goal

pub returns-clause-rule : goal.returns-clause-rule
returns-clause-rule c = (λ e. IsInterface-from_test c.args.bytes.now (sym c.is_rule.ensures ∙ e), λ h. c.is_rule.ensures ∙ is_interface-from_IsInterface c.args.bytes.now h)
