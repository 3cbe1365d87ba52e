-- The applications after a change that is planned, and what is wanted then.
use Rattle.std.specs.Prelude.{ℕ, List, [], ◌∷◌, Option, None, if◌then◌else◌}
use Rattle.atspi_tree_model.specs.Forest.{first_of}
use Rattle.atspi_protocol.specs.declared.following.question.Question.{Question}
use Rattle.atspi_protocol.specs.following.ReaderState.{Followed, is_named}
use Rattle.atspi_protocol.specs.following.Wishes.{wishes}
use Rattle.atspi_reader_known.specs.declared.plan.Plan.{Plan}
use Rattle.atspi_reader_known.specs.declared.plan.Plan.TheVariants.{Settle, Put, Forget}
use Rattle.atspi_reader_known.specs.Wanted.{first, refusing}

-- what stands in an application's place
abbrev pub planned : Plan → Followed → List Followed
planned (Settle more) app = refusing more.now app ∷ []
planned (Put other) app = other.now ∷ []
planned Forget app = []

abbrev pub one_planned : Plan → List ℕ → Followed → List Followed
one_planned plan name app = if is_named name app then planned plan app else app ∷ []

-- what is wanted first
abbrev pub first_planned : Plan → List ℕ → List Followed → Option Question
first_planned plan name [] = None
first_planned plan name (app ∷ apps) =
    first_of (first (wishes (one_planned plan name app))) (first_planned plan name apps)
