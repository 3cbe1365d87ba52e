use Rattle.std.proofs.Common.{[], refl, sym, ap, subst, ◌∙◌}
use Rattle.std.specs.Prelude.{List}
use Rattle.atspi_bus.specs.View.{bus_of, given_of}
use Rattle.atspi_match.specs.routing.Queues.{Bus, empty_bus}
use Rattle.atspi_live_bus.specs.Asked.{Asked, Runs, messages_of}
use Rattle.atspi_live_bus_examples.proofs.Facts.{none_some, some_byte}
use Rattle.atspi_live_bus_examples.proofs.Linked.{no_number, some_message}
use Rattle.atspi_live_bus_examples.proofs.Seated.{four_five}
use Rattle.atspi_live_bus_examples.proofs.Kept.{below_none, one_seven, quota_five, three_five}
use Rattle.atspi_live_bus_examples.proofs.keeping.buses_and_links.Goals as goal

pub returns-clause-nobody : goal.returns-clause-nobody
returns-clause-nobody c b is = record {
  run = is;
  bus_is = sym is;
  apart = λ j k d e f. absurd (none_some d e);
  below = λ k d e. absurd (none_some d e);
  unasked = λ d h. (refl, refl);
  each = tt;
  said = λ k. (refl, refl);
}

pub returns-clause-not_led : goal.returns-clause-not_led
returns-clause-not_led c b x none five g = quota_five (bus_of b).quota (ap (λ (w : Bus). w.quota) (subst (λ (w : List Asked). Runs (empty_bus 16777216) w (bus_of b)) none g.run)) five

pub returns-clause-other_bus : goal.returns-clause-other_bus
returns-clause-other_bus c b x four five g = four_five x.bus.quota four (ap (λ (w : Bus). w.quota) g.bus_is ∙ five)

pub returns-clause-one_conn_twice : goal.returns-clause-one_conn_twice
returns-clause-one_conn_twice c b x e f g = three_five (g.apart 3 5 0 e f)

pub returns-clause-not_given : goal.returns-clause-not_given
returns-clause-not_given c b none g = below_none (given_of b) none (g.below 0 0 refl)

pub returns-clause-asked_before : goal.returns-clause-asked_before
returns-clause-asked_before c b x e is one g = some_message e [] (sym (ap (λ (w : List Asked). messages_of 7 w) is) ∙ (g.unasked 7 (one_seven (given_of b) one)).0)

pub returns-clause-not_seated : goal.returns-clause-not_seated
returns-clause-not_seated c b l g = none_some l.conn g.each.0.0

pub returns-clause-gave : goal.returns-clause-gave
returns-clause-gave c b g = some_byte 7 [] (g.said 3).1

pub returns-clause-open : goal.returns-clause-open
returns-clause-open c b is = (returns-clause-nobody c b is, (refl, tt))

pub returns-clause-not_held : goal.returns-clause-not_held
returns-clause-not_held c b g = no_number 3 [] g.1.0
