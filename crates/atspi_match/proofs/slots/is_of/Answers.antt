use Rattle.std.proofs.Common.{refl, ap, ◌∙◌, sym}
use Rattle.std.specs.Option.{option_copied}
use Rattle.atspi_match.specs.Slots.{is_its}
use Rattle.atspi_match.proofs.slots.is_of.Goals as goal

pub returns-in-Some : goal.returns-in-Some
returns-in-Some c = ap (is_its c.args.conn) (ap option_copied (sym c.in-Some.is) ∙ c.rule_at.ensures)

pub returns-in-None : goal.returns-in-None
returns-in-None c = ap (is_its c.args.conn) (ap option_copied (sym c.in-None.is) ∙ c.rule_at.ensures)
