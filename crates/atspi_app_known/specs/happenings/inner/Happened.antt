-- Words that only the private contracts and proofs beside `Happened` use.
use Rattle.std.specs.Prelude.{Bool, true, false}
use Rattle.atspi_app_known.specs.declared.happenings.event.AppEvent.{AppEvent}
use Rattle.atspi_app_known.specs.declared.happenings.event.AppEvent.TheVariants as events

-- whether it is one
abbrev pub is_sent : AppEvent → Bool
is_sent (events.Send message) = true
is_sent event = false
