use Rattle.std.proofs.Common.{◌≡◌, ℕ, refl, sym, arith}
use Rattle.atspi_trace_laws.proofs.OfOrder.Parties.{false_true}
use Rattle.atspi_trace_examples.proofs.missed.what_is_sent.Goals as goal

four_one : ◌≡◌ {A = ℕ} 4 1 → ⊥
four_one h = omega (arith, h)

pub returns-clause-a_call : goal.returns-clause-a_call
returns-clause-a_call c = record { is_call = refl; no_rule_back = refl; no_pattern_back = refl }

pub returns-clause-a_signal : goal.returns-clause-a_signal
returns-clause-a_signal c h = four_one h.is_call

pub returns-clause-a_rule_back : goal.returns-clause-a_rule_back
returns-clause-a_rule_back c h = false_true (sym h.no_rule_back)

pub returns-clause-a_pattern_back : goal.returns-clause-a_pattern_back
returns-clause-a_pattern_back c h = false_true (sym h.no_pattern_back)

pub returns-clause-of_another : goal.returns-clause-of_another
returns-clause-of_another c = tt
