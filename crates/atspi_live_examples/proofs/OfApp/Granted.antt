-- A link on which nothing came but the lines of a server that lets a client in: more bytes than the front of a message, and none of a message.
use Rattle.std.proofs.Common.{◌≡◌, [], None, refl, lit<}
use Rattle.atspi_auth.specs.Lines.{lines_of, joined}
use Rattle.atspi_auth.specs.Replies.{answer, reply_to}
use Rattle.atspi_auth.specs.Requests.{is_grant, is_number}
use Rattle.atspi_auth.specs.Talk.{after, behind, client_start, fault_in, heard, hears, hears_bytes}
use Rattle.atspi_stream.specs.Stream.{few}
use Rattle.atspi_script_lines.specs.declared.line.LineFault.TheVariants as faults
use Rattle.atspi_live_app.specs.Overs.{StopsBy}
use Rattle.atspi_live_app.specs.inner.Stops.{stop_of_line}
use Rattle.atspi_live_app.specs.Turns.{AreWhole}
use Rattle.atspi_live_examples.specs.app.Lines.{granted}

sound : fault_in (after client_start granted).stage ≡ None
unfolding heard hears hears_bytes lines_of joined answer reply_to is_grant is_number
sound = refl

none_behind : behind client_start granted ≡ []
unfolding heard hears hears_bytes lines_of joined answer reply_to is_grant is_number
none_behind = refl

pub whole : AreWhole [] granted
whole = record { messages = []; rest = []; parted = record { are = tt; parted = none_behind }; awaits = few (lit< tt); are = refl }

pub stops : StopsBy (λ history left. ⊥) [] (stop_of_line faults.NoMemory 1) granted
stops = record { authenticated = sound; messages = []; rest = []; parted = record { are = tt; parted = none_behind }; awaits = few (lit< tt); stopped = tt }
