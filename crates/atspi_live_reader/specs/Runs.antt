-- What a run of the live reader does, and how it ends.
use Rattle.std.specs.Prelude.{◌≡◌, ◌≤◌, ◌⊎◌, ℕ, List, [], ◌∷◌, ◌++◌, Option, None, Some, ⊤}
use Rattle.std.specs.Io.KnownBytes.{Appends}
use Rattle.atspi_auth.specs.Talk.{behind, client_start}
use Rattle.atspi_base.specs.Outside.{Rose}
use Rattle.atspi_script.specs.FaultText.{fault_line}
use Rattle.atspi_message.specs.Envelope.{Envelope}
use Rattle.atspi_stream.specs.Stream.{AwaitsMore, IsParted}
use Rattle.atspi_live_host.specs.Calls.{taken}
use Rattle.atspi_live_host.specs.declared.call.Call.{Call}
use Rattle.atspi_live_conversation.specs.Rounds.{AreRounds, IsRun}
use Rattle.atspi_live_conversation.specs.Speech.{Speaks, Ends, envelopes}
use Rattle.atspi_live_conversation.specs.declared.ending.Ending.{Ending}
use Rattle.atspi_live_conversation.specs.declared.ending.Ending.TheVariants as endings
use Rattle.atspi_live_conversation.specs.Reports.{IsOnLink, Reports}
use Rattle.atspi_live_reader.specs.Spoken.{IsAfter, IsAllSpoken, IsEmpty, IsSpent, IsSpokenToFault, IsSpokenToSpent}
use Rattle.atspi_live_reader.specs.Spoken.{following, spoken_in}
use Rattle.atspi_live_reader.specs.Shows.{shown_in}
use Rattle.atspi_live_reader.specs.Following.{IsUntold, SpeaksUp, WritesPart}

-- what was given on each link that is open is a front of what the reader says for what was taken there
abbrev pub AllSpeak : List ℕ → Option (List Call) → Type 0
AllSpeak [] calls = ⊤
AllSpeak (k ∷ ks) calls = Speaks IsAfter k calls × AllSpeak ks calls

-- All lines that a reader speaks for the bytes that were taken, and then the rows of each application that it holds:
-- behind whole messages more is awaited.
pub record IsAll (t w : List ℕ) : Type 0 where
  pub messages : List (Envelope × List ℕ)
  pub rest : List ℕ
  pub parted : IsParted (behind client_start t) messages rest
  pub awaits : AwaitsMore rest
  pub all : w ≡ spoken_in (following (envelopes messages)).out ++ shown_in (following (envelopes messages))

-- where the host tells what was taken of a link, this holds of it
abbrev pub OfTaken : ℕ → Option (List Call) → (List ℕ → Type 0) → Type 0
OfTaken k None P = ⊤
OfTaken k (Some cs) P = P (taken k cs)

-- the last words were written, with this status; or a front of them, where the sink failed or memory was wanting
abbrev pub WritesLast : ℕ → List ℕ → ℕ → Option (List ℕ) → Option (List ℕ) → Type 0
WritesLast meant words status w w' = ((status ≡ meant) × Appends w w' words) ⊎ WritesPart status words w w'

-- The status that tells how a run ended, and what is written then: the last words, and where a message was malformed
-- behind them the line of that. A run that was not authenticated, or for which memory was wanting, has no last words.
abbrev pub ReportsLast : List ℕ → Ending → ℕ → Option (List ℕ) → Option (List ℕ) → Type 0
ReportsLast words endings.PeerEnded status w w' = WritesLast 0 words status w w'
ReportsLast words endings.RoundsDone status w w' = WritesLast 8 words status w w'
ReportsLast words endings.HostFailed status w w' = WritesLast 7 words status w w'
ReportsLast words endings.NotAuthenticated status w w' = Reports endings.NotAuthenticated status w w'
ReportsLast words (endings.Malformed start fault) status w w' =
    WritesLast 6 (words ++ fault_line start fault.place fault.reason) status w w'
ReportsLast words endings.Spent status w w' = WritesLast 13 words status w w'
ReportsLast words endings.NoMemory status w w' = Reports endings.NoMemory status w w'

-- With the last words behind the lines that were written before, all is written, of what was taken where the host tells
-- it: what is spoken up to what ended the run, and where the peer ended then what is held. Where it did not
-- authenticate, nothing was written.
abbrev pub AreLast : ℕ → Option (List Call) → List ℕ → List ℕ → Ending → Type 0
AreLast k calls spoken words endings.PeerEnded = OfTaken k calls (λ t. IsAll t (spoken ++ words))
AreLast k calls spoken words (endings.Malformed start fault) =
    OfTaken k calls (λ t. IsSpokenToFault start fault.place fault.reason t (spoken ++ words))
AreLast k calls spoken words endings.Spent = OfTaken k calls (λ t. IsSpokenToSpent t (spoken ++ words))
AreLast k calls spoken words endings.NotAuthenticated = spoken ≡ []
AreLast k calls spoken words endings.NoMemory = ⊤
AreLast k calls spoken words ending = OfTaken k calls (λ t. IsAllSpoken t (spoken ++ words))

-- Which counts changed, by the status: 7 where one of the host's did, unless a read or a write failed and then the last
-- words could not be written; 4 where the sink's did.
pub record Causes (status faults faults' link_faults link_faults' sink sink' : ℕ) : Type 0 where
  pub by_host : status ≡ 7 → Rose faults faults' ⊎ Rose link_faults link_faults'
  pub no_host : (status ≡ 7) ⊎ (faults' ≡ faults)
  pub no_link : (status ≡ 7) ⊎ ((IsUntold status × Rose link_faults link_faults') ⊎ (link_faults' ≡ link_faults))
  pub by_sink : status ≡ 4 → Rose sink sink'
  pub no_sink : (status ≡ 4) ⊎ (sink' ≡ sink)

-- a run ended so: its calls are rounds, and its status and what is written behind the spoken lines tell it
pub record EndsSo (path : List ℕ) (k status rounds : ℕ) (spoken : List ℕ) (calls : Option (List Call))
    (w w' : Option (List ℕ)) : Type 0 where
  pub ending : Ending
  pub ends : Ends IsAfter IsSpent k ending rounds calls
  pub run : IsOnLink path k calls (IsRun (λ _. IsAfter) IsEmpty k 4096 ending rounds)
  pub words : List ℕ
  pub last : AreLast k calls spoken words ending
  pub reports : ReportsLast words ending status w w'

-- the sink failed behind whole rounds
pub record IsCutOff (path : List ℕ) (k status rounds : ℕ) (calls : Option (List Call)) (w w' : Option (List ℕ))
    : Type 0 where
  pub status_is : status ≡ 4
  pub none : w' ≡ w
  pub run
      : IsOnLink path k calls
      (λ calls. (whole : ℕ) × (whole ≤ rounds) × AreRounds (λ _. IsAfter) IsEmpty k 4096 whole calls)

-- spoken lines were written, and then the run ended so; or the sink failed
pub record EndsOn (path : List ℕ) (k status rounds : ℕ) (calls : Option (List Call)) (w w' : Option (List ℕ))
    : Type 0 where
  pub spoken : List ℕ
  pub speaks_up : SpeaksUp k calls spoken
  pub mid : Option (List ℕ)
  pub wrote : Appends w mid spoken
  pub so : EndsSo path k status rounds spoken calls mid w' ⊎ IsCutOff path k status rounds calls mid w'

-- a run ended so on the one link that is open; where there is none, it was not given: status 7, or memory was wanting
-- before
abbrev pub RunEnds : List ℕ → List ℕ → ℕ → ℕ → Option (List Call) → Option (List ℕ) → Option (List ℕ) → Type 0
RunEnds path [] status rounds calls w w' = ((status ≡ 7) ⊎ (status ≡ 5)) × (w' ≡ w)
RunEnds path (k ∷ ks) status rounds calls w w' = EndsOn path k status rounds calls w w' × (ks ≡ [])
