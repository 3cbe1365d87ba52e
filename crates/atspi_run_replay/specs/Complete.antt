-- What follows where nothing that `replay` is lent fails, and its lines apply.
use Rattle.std.specs.Prelude.{◌≡◌, ◌⊎◌, ℕ, ◌<◌, ◌≤◌, List, ◌∷◌, length, take, Option, IfSome}
use Rattle.atspi_run_replay.specs.declared.naming.Refused.{Refused}
use Rattle.atspi_run_replay.specs.Lines.{lines_of, whole_lines}
use Rattle.atspi_run_replay.specs.Told.{Told}
use Rattle.atspi_run_replay.specs.Done.{IsRefusedBehind, Upto}

-- no fault was counted, and there was room to count one
abbrev pub Unfailed : ℕ → ℕ → Type 0
Unfailed before after = (after ≡ before) × (before < 18446744073709551615)

-- each line is one of the grammar and applies: none is refused behind what those before it tell
abbrev pub AllApply : List (List ℕ) → Type 0
AllApply lines = (line : List ℕ) (rest : List (List ℕ)) (told : List Told) (why : Refused)
    → (upto : Upto lines (line ∷ rest) told) → IsRefusedBehind upto.lawful.lines told line why → ⊥

-- all was done; or memory is wanting, the registry was dropped at its quota, or serials were spent
abbrev pub EndsWell : ℕ → Type 0
EndsWell status = (status ≡ 0) ⊎ ((status ≡ 5) ⊎ ((status ≡ 9) ⊎ (status ≡ 13)))

-- AN INPUT WITHIN THE LIMIT WHOSE LINES APPLY ENDS WELL
abbrev pub EndsWellWithin : ℕ → ℕ → Option (List ℕ) → Type 0
EndsWellWithin limit status left =
    IfSome left (λ input. length input ≤ limit → AllApply (lines_of input) → EndsWell status)

-- the limit was passed; or memory is wanting, the registry was dropped at its quota, or serials were spent
abbrev pub EndsFull : ℕ → Type 0
EndsFull status = (status ≡ 8) ⊎ ((status ≡ 5) ⊎ ((status ≡ 9) ⊎ (status ≡ 13)))

-- ONE THAT PASSES THE LIMIT ENDS SO, where the whole lines inside it apply: what stands behind it is not looked at
abbrev pub EndsFullPast : ℕ → ℕ → Option (List ℕ) → Type 0
EndsFullPast limit status left =
    IfSome left
    (λ input. limit < length input → AllApply (whole_lines (take limit input)) → EndsFull status)
