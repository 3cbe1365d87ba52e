use Rattle.std.proofs.Common.{ap, sym, ◌∙◌}
use Rattle.std.specs.Option.{option_copied}
use Rattle.atspi_audit_held.specs.Held.{or_nothing}
use Rattle.atspi_audit_held.proofs.lacking.known_of.Goals as goal

pub returns-in-Some : goal.returns-in-Some
returns-in-Some c = ap or_nothing (sym (ap option_copied c.in-Some.is) ∙ c.get.ensures.value)

pub returns-in-None : goal.returns-in-None
returns-in-None c = ap or_nothing (sym (ap option_copied c.in-None.is) ∙ c.get.ensures.value)
