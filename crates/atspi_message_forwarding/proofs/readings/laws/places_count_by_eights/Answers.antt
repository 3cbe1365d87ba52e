use Rattle.atspi_message_forwarding.proofs.OfReadings.Places.{same_spellings, fields_alike}
use Rattle.atspi_message_forwarding.proofs.readings.laws.places_count_by_eights.Goals as goal

pub returns : goal.returns
returns c o a b ds s = record { same = same_spellings o ds a b s; fits = λ levels ks f. fields_alike o levels ds ks a b s f }
