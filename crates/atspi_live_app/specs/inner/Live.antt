-- Words behind `Live` that only private contracts and proofs use.
use Rattle.std.specs.Prelude.{ℕ, ◌+◌, List, [], ◌∷◌, ◌++◌, length, Option, None, Some}
use Rattle.std.specs.Prelude.{⊤}
use Rattle.atspi_tree_model.specs.Edits.{IsEdit}
use Rattle.atspi_message.specs.Envelope.{Envelope}
use Rattle.atspi_protocol.specs.exporting.Exporter.{Exporter}
use Rattle.atspi_live_app.specs.Standing.{HandedOut}
use Rattle.atspi_live_app.specs.declared.asking.Ask.{Ask}
use Rattle.atspi_live_app.specs.declared.asking.Ask.TheVariants as ask

abbrev pub IsStarted : {A : Type 0} → (A → Type 0) → Option A → Type 0
IsStarted is_app None = ⊤
IsStarted is_app (Some app) = is_app app

-- a message was handed out, and what stands before it passed; or all was passed, and none was there
abbrev pub Hands : {M : Type 0} → (M → Envelope) → Option M → Option Exporter → Option Exporter → Type 0
Hands envelope None old new = HandedOut [] new old
Hands envelope (Some m) old new = HandedOut (envelope m ∷ []) new old

-- what it tells beside the link: where the next line begins, behind how many messages each line was done, and its text
abbrev pub aside_of : ℕ → List ℕ → List ℕ → List ℕ
aside_of place marks text = place ∷ length marks ∷ (marks ++ text)

-- an edit that is asked for can be
abbrev pub IsLawful : Ask → Type 0
IsLawful (ask.Edit edit) = IsEdit edit
IsLawful what = ⊤
