use Rattle.std.proofs.Common.{[], refl, ap}
use Rattle.atspi_live_bus.specs.inner.Seats.{numbers_of}
use Rattle.atspi_live_bus_examples.proofs.Linked.{five_three_seats, no_number}
use Rattle.atspi_live_bus_examples.proofs.seating.links_in_order.Goals as goal

pub returns-clause-none : goal.returns-clause-none
returns-clause-none c = refl

pub returns-clause-two : goal.returns-clause-two
returns-clause-two c l m = refl

pub returns-clause-their_numbers : goal.returns-clause-their_numbers
returns-clause-their_numbers c = refl

pub returns-clause-numbers_alone : goal.returns-clause-numbers_alone
returns-clause-numbers_alone c l m = refl

pub returns-clause-first_number : goal.returns-clause-first_number
returns-clause-first_number c l m = refl

pub returns-clause-second_number : goal.returns-clause-second_number
returns-clause-second_number c l m = refl

pub returns-clause-no_number : goal.returns-clause-no_number
returns-clause-no_number c l m = refl

pub returns-clause-first_conn : goal.returns-clause-first_conn
returns-clause-first_conn c l m = refl

pub returns-clause-second_conn : goal.returns-clause-second_conn
returns-clause-second_conn c l m = refl

pub returns-clause-no_conn : goal.returns-clause-no_conn
returns-clause-no_conn c l m = refl

pub returns-clause-none_held : goal.returns-clause-none_held
returns-clause-none_held c = refl

pub returns-clause-held_by_both : goal.returns-clause-held_by_both
returns-clause-held_by_both c l m = refl

pub returns-clause-served : goal.returns-clause-served
returns-clause-served c l m s = record { are = ap numbers_of s; differ = ((five_three_seats, tt), (tt, tt)) }

pub returns-clause-served_twice : goal.returns-clause-served_twice
returns-clause-served_twice c l m s = s.differ.0.0 refl

pub returns-clause-not_served : goal.returns-clause-not_served
returns-clause-not_served c l s = no_number l.number [] s.are
