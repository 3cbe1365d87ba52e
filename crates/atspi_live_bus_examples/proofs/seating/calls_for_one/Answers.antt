use Rattle.std.proofs.Common.{[], ◌∷◌, refl, sym, ap, ◌∙◌}
use Rattle.std.specs.Prelude.{ℕ, List}
use Rattle.atspi_live_bus.specs.Asked.{telling}
use Rattle.atspi_live_bus_examples.proofs.Facts.{no_more_calls, some_byte}
use Rattle.atspi_live_bus_examples.proofs.Linked.{five_three, head_or, second_or, some_message}
use Rattle.atspi_live_bus.specs.inner.Seats.{numbers_of}
use Rattle.atspi_live_bus_examples.proofs.Facts.{two_one}
use Rattle.atspi_live_bus_examples.proofs.seating.calls_for_one.Goals as goal

pub returns-clause-each : goal.returns-clause-each
returns-clause-each c l m s = (ap (λ (ks : List ℕ). head_or ks) (ap numbers_of s), (ap (λ (ks : List ℕ). second_or ks) (ap numbers_of s), tt))

pub returns-clause-not_first : goal.returns-clause-not_first
returns-clause-not_first c l m s h = five_three (sym (ap (λ (ks : List ℕ). head_or ks) (ap numbers_of s)) ∙ h.0)

pub returns-clause-not_second : goal.returns-clause-not_second
returns-clause-not_second c l m s h = five_three (sym (ap (λ (ks : List ℕ). second_or ks) (ap numbers_of s)) ∙ h.1.0)

pub returns-clause-taken : goal.returns-clause-taken
returns-clause-taken c o = some_byte 97 [] (o 5 five_three).0

pub returns-clause-given : goal.returns-clause-given
returns-clause-given c o = some_byte 97 [] (o 5 five_three).1

pub returns-clause-no_call : goal.returns-clause-no_call
returns-clause-no_call c = λ j n. (refl, refl)

pub returns-clause-told_no_more : goal.returns-clause-told_no_more
returns-clause-told_no_more c = tt

pub returns-clause-told_again : goal.returns-clause-told_again
returns-clause-told_again c h = h

pub returns-clause-not_carried : goal.returns-clause-not_carried
returns-clause-not_carried c h = h.1 tt

pub returns-clause-carried : goal.returns-clause-carried
returns-clause-carried c = ((λ j n. (refl, refl)), (λ h. h))

pub returns-clause-of_another : goal.returns-clause-of_another
returns-clause-of_another c h = some_byte 97 [] (h.0 5 five_three).1

pub returns-clause-message_of_another : goal.returns-clause-message_of_another
returns-clause-message_of_another c e o = some_message e [] (o 2 two_one).0

pub returns-clause-bytes_of_another : goal.returns-clause-bytes_of_another
returns-clause-bytes_of_another c o = some_byte 7 [] (o 2 two_one).1

pub returns-clause-no_message : goal.returns-clause-no_message
returns-clause-no_message c = λ d n. (refl, refl)

pub returns-clause-told : goal.returns-clause-told
returns-clause-told c b d leads = record { asked = telling ∷ []; are = (tt, tt); run = (d, leads, refl) }

pub returns-clause-any_calls : goal.returns-clause-any_calls
returns-clause-any_calls c = tt

pub returns-clause-such_calls : goal.returns-clause-such_calls
returns-clause-such_calls c = refl

pub returns-clause-other_calls : goal.returns-clause-other_calls
returns-clause-other_calls c h = no_more_calls [] (sym h)
