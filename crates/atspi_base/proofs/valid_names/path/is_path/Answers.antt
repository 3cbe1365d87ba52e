use Rattle.std.proofs.Common.{sym, ◌∙◌}
use Rattle.atspi_base.proofs.OfValidNames.NameLemmas.{IsPath-from_test, is_path-from_IsPath}
use Rattle.atspi_base.proofs.valid_names.path.is_path.Goals as goal

pub returns-clause-rule : goal.returns-clause-rule
returns-clause-rule c = (λ e. IsPath-from_test c.args.bytes.now (sym c.is_rule.ensures ∙ e), λ h. c.is_rule.ensures ∙ is_path-from_IsPath c.args.bytes.now h)
