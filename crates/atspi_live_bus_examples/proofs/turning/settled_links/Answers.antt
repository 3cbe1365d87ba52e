use Rattle.std.proofs.Common.{[], ◌∷◌, refl, sym, ap, ◌∙◌, append-nil}
use Rattle.std.specs.Prelude.{ℕ, Option}
use Rattle.atspi_live_host.specs.declared.call.Call.TheVariants.{Close}
use Rattle.atspi_match.specs.routing.Queues.{Bus}
use Rattle.atspi_live_bus_examples.proofs.Facts.{none_some}
use Rattle.atspi_live_bus_examples.proofs.Seated.{four_five, shut_none, shut_second, some_closing, told_joining, without_second}
use Rattle.atspi_live_bus_examples.proofs.turning.settled_links.Goals as goal

pub returns-clause-closed : goal.returns-clause-closed
returns-clause-closed c l m x past d s connected are is = ([], tt, sym (append-nil x.asked), refl, refl, shut_second l m x.conn x.bus.closings d s connected are is, without_second l m (Close 5 ∷ []) s refl)

pub returns-clause-not_closed : goal.returns-clause-not_closed
returns-clause-not_closed c l m x y past d s connected are is h = shut_none l m x.conn x.bus.closings d s connected are is h.5

pub returns-clause-more_asked : goal.returns-clause-more_asked
returns-clause-more_asked c y past is h = told_joining h.0 (sym is ∙ h.2) h.1

pub returns-clause-other_bus : goal.returns-clause-other_bus
returns-clause-other_bus c x y past four five h = four_five x.bus.quota four (sym (ap (λ (b : Bus). b.quota) h.3) ∙ five)

pub returns-clause-other_conn : goal.returns-clause-other_conn
returns-clause-other_conn c y past is h = none_some 0 (sym (ap (λ (w : ℕ → Option ℕ). w 3) h.4) ∙ is)

pub returns-clause-not_told : goal.returns-clause-not_told
returns-clause-not_told c x y past d is h = some_closing d (sym (ap (λ (b : Bus). b.closings) h.3) ∙ is)
