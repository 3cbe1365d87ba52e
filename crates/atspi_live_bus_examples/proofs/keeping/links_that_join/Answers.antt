use Rattle.std.proofs.Common.{◌≡◌, [], ◌∷◌, refl, sym, ap, ◌∙◌}
use Rattle.std.specs.Prelude.{ℕ, List}
use Rattle.atspi_bus.specs.View.{bus_of, given_of}
use Rattle.atspi_match.specs.routing.Queues.{Bus}
use Rattle.atspi_live_bus.specs.inner.Seats.{seats}
use Rattle.atspi_live_bus_examples.proofs.Linked.{no_seat}
use Rattle.atspi_live_bus_examples.proofs.Seated.{four_five}
use Rattle.atspi_live_bus_examples.proofs.Kept.{first_conn, first_number, none_waits, same_count, second_conn, second_number, three_five, zero_one}
use Rattle.atspi_live_bus_examples.proofs.keeping.links_that_join.Goals as goal

pub returns-clause-joins : goal.returns-clause-joins
returns-clause-joins c l b d s none joined counted talks = record {
  link = l;
  behind_others = refl;
  number_is = ap (λ (ss : List (ℕ × ℕ)). first_number ss) s;
  conn_is = ap (λ (ss : List (ℕ × ℕ)). first_conn ss) s ∙ sym none;
  joined = joined;
  counted = counted;
  begins = talks;
}

pub returns-clause-none : goal.returns-clause-none
returns-clause-none c b d j = no_seat (j.link.number, j.link.conn) [] (sym (ap (λ (w : _). seats w) j.behind_others))

pub returns-clause-other_number : goal.returns-clause-other_number
returns-clause-other_number c l b d s j = three_five (sym (ap (λ (ss : List (ℕ × ℕ)). first_number ss) s) ∙ ap (λ (w : _). first_number (seats w)) j.behind_others ∙ j.number_is)

pub returns-clause-other_conn : goal.returns-clause-other_conn
returns-clause-other_conn c l b d s one j = zero_one (sym (ap (λ (ss : List (ℕ × ℕ)). first_conn ss) s) ∙ ap (λ (w : _). first_conn (seats w)) j.behind_others ∙ j.conn_is ∙ one)

pub returns-clause-not_counted : goal.returns-clause-not_counted
returns-clause-not_counted c l b d e f j = same_count (given_of b) (given_of d) e f j.counted

pub returns-clause-other_bus : goal.returns-clause-other_bus
returns-clause-other_bus c l b d four five j = four_five (bus_of d).quota (ap (λ (w : Bus). w.quota) j.joined ∙ four) five

pub returns-clause-not_new : goal.returns-clause-not_new
returns-clause-not_new c l b d j is = none_waits [] [] j.link j.begins (sym (same_out j.behind_others) ∙ is)
  where
    same_out : l ∷ [] ≡ j.link ∷ [] → l.out.items ≡ j.link.out.items
    same_out e = cc

pub returns-clause-joins_behind : goal.returns-clause-joins_behind
returns-clause-joins_behind c k l b d s one joined counted talks = record {
  link = l;
  behind_others = refl;
  number_is = ap (λ (ss : List (ℕ × ℕ)). second_number ss) s;
  conn_is = ap (λ (ss : List (ℕ × ℕ)). second_conn ss) s ∙ sym one;
  joined = joined;
  counted = counted;
  begins = talks;
}
