-- What a call asks of an application, by its tree, whatever the contents of nodes.
use Rattle.std.specs.Prelude.{◌≡◌, ℕ, ℤ, List, [], Result, Ok, Err, unwrap_or}
use Rattle.atspi_message.specs.Envelope.{Envelope}
use Rattle.atspi_protocol.specs.ends.Messages.{error_word}
use Rattle.atspi_protocol.specs.declared.ends.error.CallError.{CallError}
use Rattle.atspi_tree.specs.TreeShape.{TreeShape}
use Rattle.atspi_protocol.specs.whole.Whole.{Faces}
use Rattle.atspi_protocol.specs.objects.Application.{Application}
use Rattle.atspi_protocol.specs.objects.Answers.{Answer, answer, place_answers, refuses}
use Rattle.atspi_app_calls.specs.declared.ask.Ask.{Ask}
use Rattle.atspi_app_calls.specs.Ask.{asked_of}
use Rattle.atspi_app_answers.specs.declared.place.AppPlace.{AppPlace}
use Rattle.atspi_app_answers.specs.Seen.{seen}
use Rattle.atspi_app_answers.specs.Place.{place_of}

-- the answer to a message that is a call
abbrev pub answer_to : Application → Envelope → Answer
answer_to a e = answer a (unwrap_or e.path []) e.interface e.member e.body

-- the call asks this of this object, or gets this error
abbrev pub Asks : TreeShape → Envelope → Result (AppPlace × Ask) CallError → Type 0
Asks t e (Ok (place, ask)) =
    (faces : Faces) (name : List ℕ) (id : ℤ)
    → answer_to (seen t faces name id) e
    ≡ place_answers (seen t faces name id) (place_of t faces place) (Ok (asked_of e.body ask))
Asks t e (Err error) = (faces : Faces) (name : List ℕ) (id : ℤ)
    → answer_to (seen t faces name id) e ≡ refuses (seen t faces name id) (error_word error)
