use Rattle.std.proofs.Common.{[], ◌∷◌, refl, sym, ap, subst, lit<}
use Rattle.std.specs.Prelude.{ℕ, List}
use Rattle.atspi_live_host.specs.declared.call.Call.TheVariants.{Close}
use Rattle.atspi_live_bus.specs.inner.Seats.{Rise, left, numbers_of}
use Rattle.atspi_live_bus_examples.proofs.Linked.{below_one, below_two, falls, no_number, no_seat, not_above}
use Rattle.atspi_live_bus_examples.proofs.seating.order_of_links.Goals as goal

pub returns-clause-all_due : goal.returns-clause-all_due
returns-clause-all_due c = refl

pub returns-clause-some_due : goal.returns-clause-some_due
returns-clause-some_due c = refl

pub returns-clause-none_due : goal.returns-clause-none_due
returns-clause-none_due c = refl

pub returns-clause-above : goal.returns-clause-above
returns-clause-above c = (lit< tt, (lit< tt, tt))

pub returns-clause-the_same : goal.returns-clause-the_same
returns-clause-the_same c a = not_above a.0

pub returns-clause-second_below : goal.returns-clause-second_below
returns-clause-second_below c a = below_one a.1.0

pub returns-clause-rise : goal.returns-clause-rise
returns-clause-rise c = ((lit< tt, tt), (tt, tt))

pub returns-clause-one_twice : goal.returns-clause-one_twice
returns-clause-one_twice c r = not_above r.0.0

pub returns-clause-fall_behind : goal.returns-clause-fall_behind
returns-clause-fall_behind c r = below_two r.1.0.0

pub returns-clause-stand : goal.returns-clause-stand
returns-clause-stand c l s = (sym (ap numbers_of s), (tt, tt))

pub returns-clause-none_stand : goal.returns-clause-none_stand
returns-clause-none_stand c s = no_number 3 [] s.0

pub returns-clause-in_other_order : goal.returns-clause-in_other_order
returns-clause-in_other_order c l m past is s = falls (subst Rise is s.1)

pub returns-clause-left_as_they_are : goal.returns-clause-left_as_they_are
returns-clause-left_as_they_are c l = refl

pub returns-clause-left_without : goal.returns-clause-left_without
returns-clause-left_without c l s = sym (ap (λ (ss : List (ℕ × ℕ)). left ss (Close 3 ∷ [])) s)

pub returns-clause-more_than_left : goal.returns-clause-more_than_left
returns-clause-more_than_left c l a = no_seat (l.number, l.conn) [] a

pub returns-clause-whatever : goal.returns-clause-whatever
returns-clause-whatever c l = tt
