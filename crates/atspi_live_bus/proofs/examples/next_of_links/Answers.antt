use Rattle.std.proofs.Common.{refl, sym, ap, subst, ◌∙◌, length}
use Rattle.std.specs.Prelude.{ℕ, List}
use Rattle.atspi_auth.specs.Talk.{fault_in}
use Rattle.atspi_stream.specs.Stream.{AwaitsMore, few}
use Rattle.atspi_match.specs.routing.Queues.{Bus}
use Rattle.atspi_live_bus.proofs.Stopping.{four_five, no_fault_is, one_is_few, three_three}
use Rattle.atspi_live_bus.proofs.examples.next_of_links.Goals as goal

pub returns-clause-taken : goal.returns-clause-taken
returns-clause-taken c l m b e rule fault is fewer = (e, (rule, is, refl), (λ took handed t g talks. absurd (no_fault_is (fault_in l.server.stage) fault talks.no_fault)), fewer)

pub returns-clause-still_held : goal.returns-clause-still_held
returns-clause-still_held c l m b d three also h = three_three (length m.feeder) (length l.feeder) three also h.3

pub returns-clause-not_whole : goal.returns-clause-not_whole
returns-clause-not_whole c l b is = (refl, (λ took handed t g talks. talks), subst (λ (w : List ℕ). AwaitsMore w) (sym is) (few one_is_few))

pub returns-clause-whole : goal.returns-clause-whole
returns-clause-whole c l b none h = none h.2

pub returns-clause-not_whole_changes : goal.returns-clause-not_whole_changes
returns-clause-not_whole_changes c l b d four five h = four_five d.quota (ap (λ (w : Bus). w.quota) h.0 ∙ four) five

pub returns-clause-malformed : goal.returns-clause-malformed
returns-clause-malformed c l m b place reason fault = (refl, (place, reason, fault))

pub returns-clause-good : goal.returns-clause-good
returns-clause-good c l m b none h = none h.1

pub returns-clause-malformed_changes : goal.returns-clause-malformed_changes
returns-clause-malformed_changes c l m b d four five h = four_five d.quota (ap (λ (w : Bus). w.quota) h.0 ∙ four) five
