-- What a run of the live application does, and how it ends.
use Rattle.std.specs.Prelude.{◌≡◌, ◌⊎◌, ℕ, List, [], ◌∷◌, Option}
use Rattle.std.specs.Io.KnownBytes.{Appends}
use Rattle.atspi_live_host.specs.declared.call.Call.{Call}
use Rattle.atspi_base.specs.Outside.{AppendsPart, Rose}
use Rattle.atspi_live_conversation.specs.Reports.{IsOnLink, Quietly, Reports}
use Rattle.atspi_live_app.specs.Input.{BlamesEnd, HasRead}
use Rattle.atspi_live_app.specs.Lines.{lines_of}
use Rattle.atspi_live_app.specs.Names.{refused_text}
use Rattle.atspi_live_app.specs.Overs.{IsOver}
use Rattle.atspi_live_app.specs.Rounds.{RunsPaced}
use Rattle.atspi_live_app.specs.Turns.{InTurn}
use Rattle.atspi_live_app.specs.declared.input.End.{End}
use Rattle.atspi_live_app.specs.declared.input.End.TheVariants.{Whole, TooLong, Failed}
use Rattle.atspi_live_app.specs.declared.live_app.Stop.TheVariants as stops
use Rattle.atspi_live_app.specs.declared.over.Over.{Over}
use Rattle.atspi_live_app.specs.declared.over.Over.TheVariants as overs

-- a line was written: status 1; or a front of it, where the sink failed or memory was wanting
abbrev pub WritesRefusal : List ℕ → ℕ → Option (List ℕ) → Option (List ℕ) → Type 0
WritesRefusal line status w w' = ((status ≡ 1) × Appends w w' line)
    ⊎ (((status ≡ 4) ⊎ (status ≡ 5)) × AppendsPart w w' line)

-- the status that tells how a run was over, and what is written: the line of a fault, or of a refusal
abbrev pub OverReports : Over → ℕ → Option (List ℕ) → Option (List ℕ) → Type 0
OverReports (overs.Ended ending) status w w' = Reports ending status w w'
OverReports (overs.Stopped (stops.Refused number why)) status w w' = WritesRefusal (refused_text number why) status w w'
OverReports (overs.Stopped stops.Spent) status w w' = Quietly 13 status w w'
OverReports (overs.Stopped stops.NoMemory) status w w' = Quietly 5 status w w'

-- a run on this link was over so: its lines were done and its messages taken in turn, each line before the read of its
-- round
pub record EndsOn (lines : List (List ℕ)) (path : List ℕ) (k status rounds : ℕ) (calls : Option (List Call))
    (w w' : Option (List ℕ)) : Type 0 where
  pub over : Over
  pub is : IsOver (InTurn k calls) lines k over rounds calls
  pub run : IsOnLink path k calls (RunsPaced lines k over rounds)
  pub reports : OverReports over status w w'

-- a run with these lines ended so on the one link that is open; where there is none, it was not given
abbrev pub TextEnds : List (List ℕ) → List ℕ → List ℕ → ℕ → ℕ → Option (List Call) → Option (List ℕ) → Option (List ℕ)
    → Type 0
TextEnds lines path [] status rounds calls w w' = (status ≡ 7) × (w' ≡ w)
TextEnds lines path (k ∷ ks) status rounds calls w w' = EndsOn lines path k status rounds calls w w' × (ks ≡ [])

-- the input was not read to its end
abbrev pub CutsOff : End → ℕ → Type 0
CutsOff Whole status = ⊥
CutsOff TooLong status = status ≡ 8
CutsOff Failed status = status ≡ 3

-- no call of the host was made, since the input was cut off, or memory was wanting for it
pub record EndsEarly (left left' : Option (List ℕ)) (source source' : ℕ) (ks : List ℕ) (status : ℕ)
    (calls calls' : Option (List Call)) (w w' : Option (List ℕ)) : Type 0 where
  pub links : ks ≡ []
  pub host : calls' ≡ calls
  pub sink : w' ≡ w
  pub so : ((status ≡ 5) × (source' ≡ source))
      ⊎ ((end : End) × (text : List ℕ) × CutsOff end status × BlamesEnd source source' end
      × HasRead end left left' text)

-- the input was read to its end first
pub record EndsLate (path : List ℕ) (left left' : Option (List ℕ)) (source source' : ℕ) (ks : List ℕ)
    (status rounds : ℕ) (calls : Option (List Call)) (w w' : Option (List ℕ)) : Type 0 where
  pub text : List ℕ
  pub read : HasRead Whole left left' text
  pub source_same : source' ≡ source
  pub ends : TextEnds (lines_of text) path ks status rounds calls w w'

abbrev pub RunEnds : List ℕ → Option (List ℕ) → Option (List ℕ) → ℕ → ℕ → List ℕ → ℕ → ℕ → Option (List Call)
    → Option (List Call) → Option (List ℕ) → Option (List ℕ) → Type 0
RunEnds path left left' source source' ks status rounds calls calls' w w' =
    EndsEarly left left' source source' ks status calls calls' w w'
    ⊎ EndsLate path left left' source source' ks status rounds calls' w w'

-- the statuses of an end on its link
abbrev pub IsEndStatus : ℕ → Type 0
IsEndStatus status = (status ≡ 0)
    ⊎ ((status ≡ 4)
    ⊎ ((status ≡ 5) ⊎ ((status ≡ 6) ⊎ ((status ≡ 7) ⊎ ((status ≡ 8) ⊎ ((status ≡ 10) ⊎ (status ≡ 13)))))))

-- the statuses of a run: 3 exactly where the count of the source rose
pub record EndsKnown (status source source' : ℕ) : Type 0 where
  pub known : (status ≡ 1) ⊎ ((status ≡ 3) ⊎ IsEndStatus status)
  pub read : ((status ≡ 3) × Rose source source') ⊎ ((status ≡ 3 → ⊥) × (source' ≡ source))
