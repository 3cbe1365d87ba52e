-- Lawful traces, computed on a prefix: what must stand next.
use Rattle.std.specs.Prelude.{◌≡◌, ◌⊎◌, ℕ, zero, suc, Bool, true, false, List, [], ◌∷◌, ◌++◌, length, Option, None}
use Rattle.std.specs.Prelude.{Some, if◌then◌else◌}
use Rattle.std.specs.List.{list_all, AllByRecursion}
use Rattle.atspi_tree_model.specs.Forest.{Forest, labels}
use Rattle.atspi_tree_model.specs.Row.{TreeRow}
use Rattle.atspi_tree_model.specs.View.{view}
use Rattle.atspi_script_lines.specs.declared.limits.TheConstants.{QUOTA_MOST}
use Rattle.atspi_script_lines.specs.declared.line.Line.{Line}
use Rattle.atspi_script_lines.specs.declared.line.Party.TheVariants.{Reader}
use Rattle.atspi_message.specs.Envelope.{Envelope}
use Rattle.atspi_protocol.specs.declared.following.question.Question.{Question}
use Rattle.atspi_protocol.specs.following.Calls.{asking}
use Rattle.atspi_protocol.specs.following.Wishes.{unknown_parts}
use Rattle.atspi_trace.specs.Entry.{Entry, sent, quiet}
use Rattle.atspi_trace.specs.World.{Standing, here, Holding, Hearer, Role, an_application, a_reader, End, World}
use Rattle.atspi_trace.specs.World.{first_world}
use Rattle.atspi_trace.specs.Ends.{is_here, end_at, number_of}
use Rattle.atspi_trace.specs.Hearing.{holding_of, is_answered, may_ask, question_in}
use Rattle.atspi_trace.specs.Causes.{Cause, gets, Done, does, at_end, asks, reader_sends, told_in}
use Rattle.atspi_trace.specs.Work.{Refusal, refused, Work, resting, work_of, Next, cause, rests, next_of, next_turn}

-- a work goes on up to something that is to be written
pub record Progress : Type 0 where
  pub world : World
  pub owing : List Entry
  pub free : Option ℕ
  pub work : Work

-- the end that took a message may then send a call of its own
abbrev pub freed : Cause → Option ℕ
freed (gets conn) = Some conn
freed c = None

abbrev pub rested : World → Progress
rested w = record { world = w; owing = []; free = None; work = resting }

abbrev pub wrote : (World → Work → Progress) → World → Option ℕ → Work → List Entry → Progress
wrote go w free work [] = go w work
wrote go w free work (e ∷ es) = record { world = w; owing = e ∷ es; free = free; work = work }

abbrev pub done : (World → Work → Progress) → Done → Option ℕ → Work → Progress
done go d free work = wrote go d.world free work d.entries

abbrev pub went : (World → Work → Progress) → Next → Progress
went go (rests w) = rested w
went go (cause c w work) = done go (does w c) (freed c) work

-- of the causes that write nothing each but one takes an end that said no Hello, so no more of them follow one another
-- than there are ends
abbrev pub progress : ℕ → World → Work → Progress
progress zero w work = rested w
progress (suc n) w work = went (λ v rest. progress n v rest) (next_of w work)

abbrev pub bound : World → ℕ
bound w = suc (suc (length w.ends))

-- The world; what the last cause did and is yet to be written; the connection that may send a call of its own; what is
-- left of the line at work, and of the script; and the worlds at the ends of the lines that were passed since the last
-- entry
pub record Scene : Type 0 where
  pub world : World
  pub owing : List Entry
  pub free : Option ℕ
  pub work : Work
  pub left : List Line
  pub passed : List World

abbrev pub begins : List Line → Scene
begins lines =
    record { world = first_world QUOTA_MOST; owing = []; free = None; work = resting; left = lines; passed = [] }

-- the scene with what a line wrote; the next line, where it wrote nothing
abbrev pub scene_of : Progress → List World → List Line → Scene
scene_of p passed lines =
    record { world = p.world; owing = p.owing; free = p.free; work = p.work; left = lines; passed = passed }

abbrev pub line_done : (World → List World → Scene) → List World → List Line → Progress → List Entry → Scene
line_done next passed lines p [] = next p.world (passed ++ p.world ∷ [])
line_done next passed lines p (e ∷ es) = scene_of p passed lines

abbrev pub line_worked : (World → List World → Scene) → List World → List Line → Progress → Scene
line_worked next passed lines p = line_done next passed lines p p.owing

-- a refused line ends the script
abbrev pub unless_refused : Option Refusal → Scene → Scene → Scene
unless_refused None s stuck = s
unless_refused (Some why) s stuck = stuck

abbrev pub from_lines : List Line → World → List World → Scene
from_lines [] w passed = scene_of (rested w) passed []
from_lines (line ∷ lines) w passed =
    unless_refused (refused w line)
    (line_worked (λ v ws. from_lines lines v ws) passed lines (progress (bound w) w (work_of w line)))
    (scene_of (rested w) passed (line ∷ lines))

-- the registry was dropped: nothing follows
abbrev pub is_lost : World → Bool
is_lost w = by (end_at w.ends 0)
  where
    by : Option End → Bool
    by None = false
    by (Some e) = if is_here e.standing then false else true

-- where nothing is owed, the work goes on, and then the script
abbrev pub onward : Scene → Scene
onward s =
    if is_lost s.world then s
    else line_worked (λ v ws. from_lines s.left v ws) s.passed s.left (progress (bound s.world) s.world s.work)

abbrev pub at_work_owing : Scene → List Entry → Scene
at_work_owing s [] = onward s
at_work_owing s (e ∷ es) = s

abbrev pub at_work : Scene → Scene
at_work s = at_work_owing s s.owing

abbrev pub first_entry : List Entry → Option Entry
first_entry [] = None
first_entry (e ∷ es) = Some e

-- THE ENTRY THAT MUST STAND NEXT, IF ONE MUST
abbrev pub due : Scene → Option Entry
due s = first_entry (at_work s).owing

-- it is written
abbrev pub rest_entries : List Entry → List Entry
rest_entries [] = []
rest_entries (e ∷ es) = es

abbrev pub without_first : Scene → Scene
without_first s = record s { owing = rest_entries s.owing; passed = [] }

abbrev pub writes : Scene → Scene
writes s = without_first (at_work s)

-- a reader sends a call of its own
abbrev pub asks_as : Role → Envelope → Question → End → End
asks_as (a_reader h) m question e = reader_sends (asks question h) m e
asks_as role m question e = e

abbrev pub asks_at : Envelope → Question → End → End
asks_at m question e = asks_as e.role m question e

abbrev pub asks_freely : Scene → Option ℕ → Envelope → Question → Scene
asks_freely s None m question = s
asks_freely s (Some conn) m question = record s { world = at_end s.world conn (asks_at m question); free = None }

-- where nothing is owed, a message that has the form of a reader's own call is one
abbrev pub own_or_due : Scene → Envelope → Option Question → Scene
own_or_due s m None = writes s
own_or_due s m (Some question) = asks_freely s s.free m question

abbrev pub chosen : Scene → Entry → Scene
chosen s (sent (Reader r) e) = own_or_due s e (question_in e)
chosen s entry = writes s

abbrev pub happens_owing : Scene → Entry → List Entry → Scene
happens_owing s entry [] = chosen s entry
happens_owing s entry (e ∷ es) = writes s

abbrev pub happens : Scene → Entry → Scene
happens s entry = happens_owing s entry s.owing

abbrev pub after_all : Scene → List Entry → Scene
after_all s [] = s
after_all s (entry ∷ entries) = after_all (happens s entry) entries

-- A reader's own call: nothing is owed, the reader just took a message, each earlier own call of it was answered; the
-- message is that of a question which it may ask, with its next serial
pub record IsOwnCall (s : Scene) (r : ℕ) (e : Envelope) : Type 0 where
  pub conn : ℕ
  pub asker : End
  pub hearer : Hearer
  pub question : Question
  pub nothing_owed : s.owing ≡ []
  pub free : s.free ≡ Some conn
  pub there : end_at s.world.ends conn ≡ Some asker
  pub whose : asker.who ≡ Reader r
  pub standing : asker.standing ≡ here
  pub reader : asker.role ≡ a_reader hearer
  pub answered : list_all is_answered hearer.asked ≡ true
  pub allowed : may_ask hearer question ≡ true
  pub spelled : e ≡ asking hearer.next question
  pub read : question_in e ≡ Some question

-- Each reader that is here holds each application that is here as it is now, with every part known
pub record IsFollowed (live : Forest TreeRow) (k : Holding) : Type 0 where
  pub same : view (told_in k.told) k.tree ≡ view (told_in k.told) live
  pub known : AllByRecursion (λ row. unknown_parts row ≡ []) (labels (view (told_in k.told) k.tree))

abbrev pub HoldsWell : Forest TreeRow → Option Holding → Type 0
HoldsWell live None = ⊥
HoldsWell live (Some k) = IsFollowed live k

abbrev pub Follows : Hearer → ℕ → Standing → Role → Type 0
Follows h app here (an_application s) = HoldsWell s.tree (holding_of app h.holds)
Follows h app standing role = Unit {0}

abbrev pub FollowsAll : List End → Standing → Role → Type 0
FollowsAll ends here (a_reader h) = AllByRecursion (λ (e : End). Follows h (number_of e.who) e.standing e.role) ends
FollowsAll ends standing role = Unit {0}

abbrev pub IsSettled : World → Type 0
IsSettled w = AllByRecursion (λ (e : End). FollowsAll w.ends e.standing e.role) w.ends

-- so it is where nothing waits
abbrev pub SettledUnless : World → Option Cause → Type 0
SettledUnless w None = IsSettled w
SettledUnless w (Some c) = Unit {0}

abbrev pub RestsWell : World → Type 0
RestsWell w = SettledUnless w (next_turn w)

-- and where it is told that nothing waits
abbrev pub TellsTruly : Entry → World → Type 0
TellsTruly quiet w = IsSettled w
TellsTruly entry w = Unit {0}

-- the entry is due, and at the end of each line that was passed all rests well
pub record IsDue (s : Scene) (entry : Entry) : Type 0 where
  pub next : due s ≡ Some entry
  pub all_rest : AllByRecursion RestsWell (at_work s).passed
  pub truly : TellsTruly entry (at_work s).world

abbrev pub IsOwn : Scene → Entry → Type 0
IsOwn s (sent (Reader r) e) = IsOwnCall s r e
IsOwn s entry = ⊥

abbrev pub Stands : Scene → Entry → Type 0
Stands s entry = IsDue s entry ⊎ IsOwn s entry

-- each entry may stand where it stands
abbrev pub Goes : Scene → List Entry → Type 0
Goes s [] = Unit {0}
Goes s (entry ∷ entries) = Stands s entry × Goes (happens s entry) entries

-- all lines are done, and nothing is owed
pub record IsThrough (s : Scene) : Type 0 where
  pub nothing_owed : (at_work s).owing ≡ []
  pub no_line_left : (at_work s).left ≡ []
  pub all_rest : AllByRecursion RestsWell (at_work s).passed

-- A LAWFUL TRACE OF LINES, none of which is refused
pub record Lawful (lines : List Line) (trace : List Entry) : Type 0 where
  pub goes : Goes (begins lines) trace
  pub through : IsThrough (after_all (begins lines) trace)

-- one that is broken off: where the registry is dropped, and where serials are spent
abbrev pub Begun : List Line → List Entry → Type 0
Begun lines trace = Goes (begins lines) trace

-- the line that is refused behind a trace, and why
abbrev pub refusal_in : World → List Line → Option Refusal
refusal_in w [] = None
refusal_in w (line ∷ lines) = refused w line

abbrev pub refusal_at : List Line → List Entry → Option Refusal
refusal_at lines trace = let s = at_work (after_all (begins lines) trace) in refusal_in s.world s.left
