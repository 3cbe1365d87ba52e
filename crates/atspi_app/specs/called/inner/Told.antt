-- What a call of an object that is there comes to.
use Rattle.std.specs.Prelude.{◌≡◌, ℕ, ℤ, List, Some, Ok}
use Rattle.atspi_types.specs.Data.{Data}
use Rattle.atspi_tree_model.specs.Row.{ShapeRow}
use Rattle.atspi_tree.specs.TreeShape.{TreeShape, row_of}
use Rattle.atspi_protocol.specs.whole.Whole.{Faces, filled}
use Rattle.atspi_protocol.specs.declared.members.member.ObjectMember.{ObjectMember}
use Rattle.atspi_protocol.specs.objects.Answers.{called, place_answers}
use Rattle.atspi_app_calls.specs.declared.ask.Ask.{Ask}
use Rattle.atspi_app_calls.specs.Ask.{asked_of}
use Rattle.atspi_app_answers.specs.declared.place.AppPlace.{AppPlace}
use Rattle.atspi_app_answers.specs.Place.{place_of}
use Rattle.atspi_app_answers.specs.Seen.{seen}
use Rattle.atspi_app.specs.declared.called.outcome.Called.{Called}
use Rattle.atspi_app.specs.called.Called.{answer_of}

-- a member of a node that is there
abbrev pub ComesTo : TreeShape → Faces → List ℕ → ℤ → ℕ → ObjectMember → List Data → Called → Type 0
ComesTo t faces name id n member body c =
    (s : ShapeRow) → row_of n t ≡ Some s → called (seen t faces name id) (filled faces s) member body ≡ answer_of c

-- what is asked of an object
abbrev pub PlaceComesTo : TreeShape → Faces → List ℕ → ℤ → AppPlace → List Data → Ask → Called → Type 0
PlaceComesTo t faces name id place body ask c =
    place_answers (seen t faces name id) (place_of t faces place) (Ok (asked_of body ask)) ≡ answer_of c
