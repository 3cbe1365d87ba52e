-- What holds of lawful traces.
use Rattle.std.specs.Prelude.{◌≡◌, ◌↔◌, ◌<◌, ◌+◌, ℕ, true, List, [], ◌∷◌, ◌++◌, Option, None, Some, is_some}
use Rattle.std.specs.Prelude.{if◌then◌else◌}
use Rattle.atspi_script_lines.specs.declared.line.Party.TheVariants.{Reader}
use Rattle.atspi_trace.specs.Entry.{Entry, sent, quiet}
use Rattle.atspi_trace.specs.Hearing.{question_in}
use Rattle.atspi_trace.specs.World.{here, Said, End, World}
use Rattle.atspi_trace.specs.Ends.{end_at}
use Rattle.atspi_trace.specs.Causes.{does, missing}
use Rattle.atspi_trace.specs.Work.{moving_up, Next, cause, rests, moved_up, next_of}
use Rattle.atspi_trace.specs.Due.{IsSettled, at_work, is_lost, Stands, Scene, happens, after_all, Goes}

-- The own call of a reader that an entry is, if it is one: nothing is owed, and the message has the form of one
abbrev pub call_in : Entry → Option Entry
call_in (sent (Reader r) e) = if is_some (question_in e) then Some (sent (Reader r) e) else None
call_in entry = None

abbrev pub choice_at : List Entry → Entry → Option Entry
choice_at [] entry = call_in entry
choice_at (d ∷ ds) entry = None

abbrev pub choices : Scene → List Entry → List (Option Entry)
choices s [] = []
choices s (entry ∷ entries) = choice_at s.owing entry ∷ choices (happens s entry) entries

-- for the same own calls of readers there is one trace
abbrev pub TracesAreOne : Type 0
TracesAreOne = (s : Scene) (es fs : List Entry) → Goes s es → Goes s fs → choices s es ≡ choices s fs → es ≡ fs

-- a trace may go on where its front may stand, and the rest behind it
abbrev pub FrontsGo : Type 0
FrontsGo = (s : Scene) (front rest : List Entry) → Goes s (front ++ rest)
    ↔ (Goes s front × Goes (after_all s front) rest)

-- what is next is one thing, whatever world it is done in
abbrev pub SameNext : Next → Next → Type 0
SameNext (cause c v work) (cause d u other) = (does v c ≡ does u d) × (work ≡ other)
SameNext (rests v) (rests u) = v ≡ u
SameNext (cause c v work) (rests u) = ⊥
SameNext (rests v) (cause d u other) = ⊥

-- Links do not see cuts: so many bytes of an up link that do not complete its first message, and then so many more, are
-- all of them at once
abbrev pub UpLinksSeeNoCuts : Type 0
UpLinksSeeNoCuts =
    (w : World) (conn n k : ℕ) (e : End) (said : Said) (rest : List Said)
    → end_at w.ends conn ≡ Some e → e.standing ≡ here → e.up ≡ said ∷ rest → n < missing said.message e.up_moved
    → SameNext (next_of (moved_up w conn n) (moving_up conn k)) (next_of w (moving_up conn (n + k)))

-- where a lawful trace tells that nothing waits, each reader that is here holds each application that is here as it is
-- now
abbrev pub QuietIsSettled : Type 0
QuietIsSettled = (s : Scene) (front rest : List Entry) → Goes s (front ++ quiet ∷ rest)
    → IsSettled (at_work (after_all s front)).world

-- where the registry was dropped and all is written, nothing follows
abbrev pub LostIsOver : Type 0
LostIsOver = (s : Scene) → is_lost s.world ≡ true → s.owing ≡ [] → s.free ≡ None → (entry : Entry) → Stands s entry → ⊥
