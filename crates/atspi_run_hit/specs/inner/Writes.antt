-- What doing lines writes, and why it stops.
use Rattle.std.specs.Prelude.{◌≡◌, ◌⊎◌, ◌≤◌, ℕ, List, [], Option, Result, Err, MatchResult}
use Rattle.std.specs.Io.KnownBytes.{Appends}
use Rattle.atspi_base.specs.Outside.{Rose, AppendsPart}
use Rattle.atspi_run_hit.specs.declared.naming.Refused as whys
use Rattle.atspi_run_hit.specs.declared.naming.Stop.{Stop}
use Rattle.atspi_run_hit.specs.declared.naming.Stop.TheVariants.{Refused, Write, NoMemory}
use Rattle.atspi_run_hit.specs.Names.{refused_text}
use Rattle.atspi_run_hit.specs.Scene.{Scene}
use Rattle.atspi_run_hit.specs.Run.{LineDone, IsRefused}

-- the count rose where the sink failed, and else is the same
abbrev pub BlamesStop : ℕ → ℕ → Stop → Type 0
BlamesStop before after Write = (before ≤ after) × Rose before after
BlamesStop before after _ = after ≡ before

abbrev pub BlamesWrite : {T : Type 0} → Result T Stop → ℕ → ℕ → Type 0
BlamesWrite r before after = MatchResult r (λ _. after ≡ before) (BlamesStop before after)

-- a fact for a refusal
abbrev pub IfRefused : {T : Type 0} → Result T Stop → (whys.Refused → Type 0) → Type 0
IfRefused (Err (Refused why)) P = P why
IfRefused _ P = Unit {0}

-- a line was done, and what it tells was written
abbrev pub DidLine : Option Scene → List ℕ → Option Scene → Option (List ℕ) → Option (List ℕ) → Type 0
DidLine old bytes new w w' = (told : List ℕ) × LineDone old bytes new told × Appends w w' told

-- a line is refused, and that was written
abbrev pub SaysRefused : Option Scene → List ℕ → ℕ → whys.Refused → Option (List ℕ) → Option (List ℕ) → Type 0
SaysRefused old bytes number why w w' = IsRefused old bytes why × Appends w w' (refused_text number why)

-- what a line can write: nothing; what it tells; its refusal
abbrev pub IsLineText : Option Scene → List ℕ → ℕ → List ℕ → Type 0
IsLineText old bytes number text = (text ≡ [])
    ⊎ (((new : Option Scene) × LineDone old bytes new text)
    ⊎ ((why : whys.Refused) × IsRefused old bytes why × (text ≡ refused_text number why)))

-- a part of it was written
abbrev pub StoppedAt : Option Scene → List ℕ → ℕ → Option (List ℕ) → Option (List ℕ) → Type 0
StoppedAt old bytes number w w' = (text : List ℕ) × IsLineText old bytes number text × AppendsPart w w' text

-- the status of lines that were not all done
abbrev pub stop_status : Stop → ℕ
stop_status (Refused why) = 1
stop_status Write = 4
stop_status NoMemory = 5
