use Rattle.std.proofs.Common.{ap, sym, subst, ◌∙◌}
use Rattle.atspi_match.specs.RuleIndex.{IsWithinLimit}
use Rattle.atspi_match.specs.Slots.{held_in}
use Rattle.atspi_match.proofs.rule_index.RuleIndex.copy.Goals as goal

pub copy_slots-requires : goal.copy_slots-requires
copy_slots-requires c = subst (λ l. IsWithinLimit (held_in l)) (sym c.deref.ensures.value) c.self.invariant.within

pub returns : goal.returns
returns c = c.in_ok-copy.ensures ∙ ap held_in c.deref.ensures.value ∙ c.self.view_is
