use Rattle.std.proofs.Common.{[], ◌∷◌, refl, ap, inr, lit<, lit≤}
use Rattle.std.specs.Prelude.{ℕ, List}
use Rattle.atspi_live_host.specs.declared.call.Did.TheVariants.{Done, NotYet}
use Rattle.atspi_live_bus_examples.proofs.Seated.{all_waits, failed_empty, failed_none, failed_other, failed_others, failed_too_many, fits_in, full, goes_on_empty, goes_on_failed, goes_on_more, goes_on_other, goes_on_others, waits_not_failed}
use Rattle.atspi_live_bus_examples.proofs.turning.writes_of_links.Goals as goal

pub returns-clause-part : goal.returns-clause-part
returns-clause-part c b l past s is = inr (7 ∷ 8 ∷ [], Done 1, lit< tt, lit≤ tt, (9 ∷ [], ap (λ (w : List ℕ). 7 ∷ w) is), tt, refl)

pub returns-clause-most : goal.returns-clause-most
returns-clause-most c b l past bytes s n is = inr (bytes, NotYet, full bytes n, fits_in bytes n, ([], all_waits bytes l.out.items is), tt, refl)

pub returns-clause-more : goal.returns-clause-more
returns-clause-more c b l past bytes n h = goes_on_more b l past bytes n h

pub returns-clause-no_byte : goal.returns-clause-no_byte
returns-clause-no_byte c b l past h = goes_on_empty b l past h

pub returns-clause-to_another : goal.returns-clause-to_another
returns-clause-to_another c b l past h = goes_on_other b l past h

pub returns-clause-failed_goes_on : goal.returns-clause-failed_goes_on
returns-clause-failed_goes_on c b l past h = goes_on_failed b l past h

pub returns-clause-other_bytes : goal.returns-clause-other_bytes
returns-clause-other_bytes c b l past h is = goes_on_others b l past h is

pub returns-clause-failed : goal.returns-clause-failed
returns-clause-failed c b l past s is = (7 ∷ [], lit< tt, lit≤ tt, (8 ∷ [], is), refl)

pub returns-clause-failed_most : goal.returns-clause-failed_most
returns-clause-failed_most c b l past bytes s n is = (bytes, full bytes n, fits_in bytes n, ([], all_waits bytes l.out.items is), refl)

pub returns-clause-failed_more : goal.returns-clause-failed_more
returns-clause-failed_more c b l past bytes n h = failed_too_many b l past bytes n h

pub returns-clause-failed_no_byte : goal.returns-clause-failed_no_byte
returns-clause-failed_no_byte c b l past h = failed_empty b l past h

pub returns-clause-failed_to_another : goal.returns-clause-failed_to_another
returns-clause-failed_to_another c b l past h = failed_other b l past h

pub returns-clause-not_failed : goal.returns-clause-not_failed
returns-clause-not_failed c b l past h = waits_not_failed b l past h

pub returns-clause-none_failed : goal.returns-clause-none_failed
returns-clause-none_failed c b l past h = failed_none b l past h

pub returns-clause-other_failed : goal.returns-clause-other_failed
returns-clause-other_failed c b l past h is = failed_others b l past h is
