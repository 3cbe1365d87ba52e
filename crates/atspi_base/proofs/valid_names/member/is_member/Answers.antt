use Rattle.std.proofs.Common.{sym, ◌∙◌}
use Rattle.atspi_base.proofs.OfValidNames.NameLemmas.{IsMember-from_test, is_member-from_IsMember}
use Rattle.atspi_base.proofs.valid_names.member.is_member.Goals as goal

pub returns-clause-rule : goal.returns-clause-rule
returns-clause-rule c = (λ e. IsMember-from_test c.args.bytes.now (sym c.is_rule.ensures ∙ e), λ h. c.is_rule.ensures ∙ is_member-from_IsMember c.args.bytes.now h)
