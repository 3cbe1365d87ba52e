-- WHAT EACH PIECE GIVES to the whole, exactly as the whole uses it. Where a letter is at the front of a reader's down link: w and es before, `world_behind w conn` and `es ++ entries_behind w conn`
-- behind it; h the reader's end before, `hears_letter h w.ends letter` behind; s its own state before, `reader_takes s letter.said.message` behind.
use Rattle.std.proofs.Common.{◌≡◌, ◌⊎◌, ℕ, suc, Bool, true, false, List, [], ◌∷◌, ◌++◌, Option, None, Some}
use Rattle.std.specs.Prelude.{filter, flat_map, not}
use Rattle.std.specs.List.{AllByRecursion}
use Rattle.atspi_script_lines.specs.declared.deed.Deed.{Deed}
use Rattle.atspi_script_lines.specs.declared.line.Line.{Line}
use Rattle.atspi_script_lines.specs.declared.line.Party.TheVariants.{App, Reader}
use Rattle.atspi_message.specs.Envelope.{Envelope}
use Rattle.atspi_protocol.specs.declared.following.question.Question.{Question}
use Rattle.atspi_protocol.specs.declared.following.question.Question.TheVariants.{Hello}
use Rattle.atspi_protocol.specs.following.Calls.{asking}
use Rattle.atspi_protocol.specs.following.ReaderState.{Done, sends, speaks, tells_end, ReaderState, begins as begins_reader}
use Rattle.atspi_protocol.specs.following.Takes.{starts, reader_takes, reader_calls}
use Rattle.atspi_protocol.specs.following.Wishes.{wishes}
use Rattle.atspi_trace.specs.Entry.{Entry, sent, got, gone}
use Rattle.atspi_trace.specs.World.{Hearer, a_reader, Letter, End, World}
use Rattle.atspi_trace.specs.Ends.{party_at, end_at, end_of, reader_count}
use Rattle.atspi_trace.specs.Hearing.{holding_of, hears_letter, heard_entries}
use Rattle.atspi_trace.specs.Causes.{Cause, renews, starts_reader, calls, gets, does, at_end, asks, first_hearer, rows_held}
use Rattle.atspi_trace.specs.Work.{if_held}
use Rattle.atspi_trace.specs.Due.{freed, asks_at, IsSettled}
use Rattle.atspi_trace_laws.specs.laws.NineLaws.{Everywhere}
use Rattle.atspi_trace_caches.specs.settled.Laws.{AsksOfNode, NothingWaits}
use Rattle.atspi_trace_laws.proofs.OfOrder.Allowed.{IsHere, Allowed, Moves, Asks}
use Rattle.atspi_trace.specs.play.Playing.{Playing, silent, held_by, unique_in, view_rows}
use Rattle.atspi_trace.specs.play.Plays.{told}
use Rattle.atspi_trace.specs.play.Played.{if_viewed}
use Rattle.atspi_trace_played.proofs.Facts.{Ground, RepliesWell, SerialsDiffer, InOrder, AsksWell, SeesWell, WantsWell, Tied, AllTied}

-- a letter is at the front of the down link of a reader that is here
pub record IsTaking (w : World) (conn r : ℕ) (e : End) (h : Hearer) (letter : Letter) (rest : List Letter) : Type 0 where
  pub is_here : IsHere w.ends conn e
  pub whose : e.who ≡ Reader r
  pub role : e.role ≡ a_reader h
  pub link : e.down ≡ letter ∷ rest

abbrev pub world_behind : World → ℕ → World
world_behind w conn = (does w (gets conn)).world

abbrev pub entries_behind : World → ℕ → List Entry
entries_behind w conn = (does w (gets conn)).entries

-- what a reader did, without the call of its own
abbrev pub is_call : Done → Bool
is_call (sends m) = true
is_call (speaks name line) = false
is_call (tells_end name) = false

abbrev pub IsNoCall : Done → Type 0
IsNoCall d = is_call d ≡ false

abbrev pub spoken : List Done → List Done
spoken out = filter (λ d. not (is_call d)) out

-- it sends no call, or one, last (h and w as they are behind the letter; t is the state behind it, s the one before)
pub record AsksNone (h : Hearer) (t : ReaderState) : Type 0 where
  pub no_call : AllByRecursion IsNoCall t.out
  pub after : AsksWell h (silent t)

pub record AsksOne (w : World) (conn r : ℕ) (h : Hearer) (s t : ReaderState) : Type 0 where
  pub question : Question
  pub front : List Done
  pub out : t.out ≡ front ++ sends (asking s.next question) ∷ []
  pub no_call : AllByRecursion IsNoCall front
  pub may : Asks w conn r (asking s.next question) question
  pub after : AsksWell (asks question h) (silent t)

-- where no call is in flight, nothing is left to be asked
abbrev pub IsIdle : ReaderState → Type 0
IsIdle s = s.pending ≡ None → (s.to_come ≡ []) × (wishes s.apps ≡ [])

-- entries that are no message taken and no end told by a reader
abbrev pub Skips : ℕ → Entry → Type 0
Skips r (got taker sender serial) = taker ≡ Reader r → ⊥
Skips r (gone k app) = k ≡ r → ⊥
Skips r entry = Unit {0}

-- causes that are not of a reader itself, and begin no world anew
abbrev pub IsOther : ℕ → World → Cause → Type 0
IsOther r w (renews quota) = ⊥
IsOther r w (gets conn) = party_at w.ends conn ≡ Reader r → ⊥
IsOther r w (calls conn name node deed) = party_at w.ends conn ≡ Reader r → ⊥
IsOther r w c = Unit {0}

-- R
abbrev pub RepliesStep : Type 1
RepliesStep = (script : List Line) (es : List Entry) (w : World) (conn r : ℕ) (e : End) (h : Hearer) (letter : Letter) (rest : List Letter) (to_come : List Question)
    → Ground script es w None → Everywhere AsksOfNode es → IsTaking w conn r e h letter rest → InOrder h.asked to_come → RepliesWell w letter.said.message h.asked × SerialsDiffer h.asked

-- F (what it stands on of R, that registry's children are roots, is put in where the pieces are brought together)
abbrev pub SeesStep : Type 1
SeesStep = (script : List Line) (es : List Entry) (w : World) (conn r : ℕ) (e : End) (h : Hearer) (letter : Letter) (rest : List Letter) (s : ReaderState)
    → Ground script es w None → Ground script (es ++ entries_behind w conn) (world_behind w conn) (Some conn) → IsTaking w conn r e h letter rest → Tied es w r h s
    → RepliesWell w letter.said.message h.asked → SerialsDiffer h.asked
    → (flat_map (told r w.ends) (spoken (reader_takes s letter.said.message).out) ≡ heard_entries r h w.ends letter)
    × SeesWell (es ++ entries_behind w conn) r (silent (reader_takes s letter.said.message))

-- over entries that are not its own, whatever wrote them
abbrev pub SeesMore : Type 1
SeesMore = (script : List Line) (es ys : List Entry) (w v : World) (free then_free : Option ℕ) (r : ℕ) (s : ReaderState)
    → Ground script es w free → Ground script (es ++ ys) v then_free → AllByRecursion (Skips r) ys → SeesWell es r s → SeesWell (es ++ ys) r s

-- of a reader that starts, which is the next one
abbrev pub SeesFirst : Type 1
SeesFirst = (script : List Line) (es : List Entry) (w : World) → Ground script es w None → Ground script (es ++ (does w starts_reader).entries) (does w starts_reader).world None
    → SeesWell (es ++ (does w starts_reader).entries) (reader_count w.ends) (silent (starts begins_reader))

-- what it holds, also of a reader that left
abbrev pub ShowsDue : Type 1
ShowsDue = (script : List Line) (es : List Entry) (w : World) (conn r app : ℕ) (e : End) (h : Hearer) (s : ReaderState)
    → Ground script es w None → end_at w.ends conn ≡ Some e → e.who ≡ Reader r → e.role ≡ a_reader h → Tied es w r h s
    → (view_rows (held_by (Some s) (unique_in (end_of w.ends (App app)))) ≡ rows_held (holding_of app h.holds))
    × (if_viewed (held_by (Some s) (unique_in (end_of w.ends (App app)))) ≡ if_held (holding_of app h.holds))

-- E
abbrev pub AsksStep : Type 1
AsksStep = (script : List Line) (es : List Entry) (w : World) (conn r : ℕ) (e : End) (h : Hearer) (letter : Letter) (rest : List Letter) (s : ReaderState)
    → Ground script (es ++ entries_behind w conn) (world_behind w conn) (Some conn) → IsTaking w conn r e h letter rest → AsksWell h s
    → SeesWell (es ++ entries_behind w conn) r (silent (reader_takes s letter.said.message)) → RepliesWell w letter.said.message h.asked
    → AsksNone (hears_letter h w.ends letter) (reader_takes s letter.said.message)
    ⊎ AsksOne (world_behind w conn) conn r (hears_letter h w.ends letter) s (reader_takes s letter.said.message)

abbrev pub AsksFirst : Type 0
AsksFirst = AsksWell (asks Hello first_hearer) (silent (starts begins_reader))

abbrev pub AsksCalled : Type 0
AsksCalled = (h : Hearer) (s : ReaderState) (name : List ℕ) (node : ℕ) (deed : Deed) → AsksWell h s → AsksWell (record h { next = suc h.next }) (silent (reader_calls s name node deed))

abbrev pub IdleAfter : Type 0
IdleAfter = (s : ReaderState) (m : Envelope) → IsIdle (silent (reader_takes s m))

-- Q
abbrev pub WantsNone : Type 1
WantsNone = (script : List Line) (es : List Entry) (w : World) (conn r : ℕ) (e : End) (h : Hearer) (letter : Letter) (rest : List Letter) (s : ReaderState)
    → Ground script es w None → Ground script (es ++ entries_behind w conn) (world_behind w conn) (Some conn) → IsTaking w conn r e h letter rest → Tied es w r h s
    → RepliesWell w letter.said.message h.asked → SerialsDiffer h.asked → SeesWell (es ++ entries_behind w conn) r (silent (reader_takes s letter.said.message))
    → AsksNone (hears_letter h w.ends letter) (reader_takes s letter.said.message) → IsIdle (silent (reader_takes s letter.said.message))
    → WantsWell (es ++ entries_behind w conn) (world_behind w conn) r (hears_letter h w.ends letter) (silent (reader_takes s letter.said.message))

abbrev pub WantsOne : Type 1
WantsOne = (script : List Line) (es : List Entry) (w : World) (conn r : ℕ) (e : End) (h : Hearer) (letter : Letter) (rest : List Letter) (s : ReaderState)
    → Ground script es w None → Ground script (es ++ entries_behind w conn) (world_behind w conn) (Some conn) → IsTaking w conn r e h letter rest → Tied es w r h s
    → RepliesWell w letter.said.message h.asked → SerialsDiffer h.asked → SeesWell (es ++ entries_behind w conn) r (silent (reader_takes s letter.said.message))
    → (a : AsksOne (world_behind w conn) conn r (hears_letter h w.ends letter) s (reader_takes s letter.said.message)) → IsIdle (silent (reader_takes s letter.said.message))
    → Ground script ((es ++ entries_behind w conn) ++ sent (Reader r) (asking s.next a.question) ∷ []) (at_end (world_behind w conn) conn (asks_at (asking s.next a.question) a.question)) None
    → WantsWell ((es ++ entries_behind w conn) ++ sent (Reader r) (asking s.next a.question) ∷ []) (at_end (world_behind w conn) conn (asks_at (asking s.next a.question) a.question)) r
    (asks a.question (hears_letter h w.ends letter)) (silent (reader_takes s letter.said.message))
    × AsksOfNode (es ++ entries_behind w conn) (sent (Reader r) (asking s.next a.question)) []

-- over a cause of others, over another reader's own call, and over bytes that complete no message
abbrev pub WantsMore : Type 1
WantsMore = (script : List Line) (es : List Entry) (w : World) (c : Cause) (conn r : ℕ) (e : End) (h : Hearer) (s : ReaderState)
    → Ground script es w None → Ground script (es ++ (does w c).entries) (does w c).world (freed c) → Allowed w c → IsOther r w c → AllByRecursion (Skips r) (does w c).entries
    → end_at w.ends conn ≡ Some e → e.who ≡ Reader r
    → e.role ≡ a_reader h → SeesWell es r s → WantsWell es w r h s → WantsWell (es ++ (does w c).entries) (does w c).world r h s

abbrev pub WantsAsked : Type 1
WantsAsked = (script : List Line) (es : List Entry) (w : World) (conn k r : ℕ) (m : Envelope) (question : Question) (h : Hearer) (s : ReaderState)
    → Ground script es w (Some conn) → Asks w conn k m question → (k ≡ r → ⊥) → WantsWell es w r h s → WantsWell (es ++ sent (Reader k) m ∷ []) (at_end w conn (asks_at m question)) r h s

abbrev pub WantsMoved : Type 1
WantsMoved = (script : List Line) (es : List Entry) (w v : World) (r : ℕ) (h : Hearer) (s : ReaderState) → Ground script es w None → Moves w v → WantsWell es w r h s → WantsWell es v r h s

abbrev pub WantsFirst : Type 1
WantsFirst = (script : List Line) (es : List Entry) (w : World) → Ground script es w None → Ground script (es ++ (does w starts_reader).entries) (does w starts_reader).world None
    → WantsWell (es ++ (does w starts_reader).entries) (does w starts_reader).world (reader_count w.ends) (asks Hello first_hearer) (silent (starts begins_reader))

-- a call of its user's
abbrev pub WantsCalled : Type 1
WantsCalled = (script : List Line) (es : List Entry) (w : World) (conn r : ℕ) (name : List ℕ) (node : ℕ) (deed : Deed) (e : End) (h : Hearer) (s : ReaderState)
    → Ground script es w None → Ground script (es ++ (does w (calls conn name node deed)).entries) (does w (calls conn name node deed)).world None → IsHere w.ends conn e → e.who ≡ Reader r
    → e.role ≡ a_reader h → WantsWell es w r h s
    → WantsWell (es ++ (does w (calls conn name node deed)).entries) (does w (calls conn name node deed)).world r (record h { next = suc h.next }) (silent (reader_calls s name node deed))

abbrev pub RestsSettled : Type 1
RestsSettled = (script : List Line) (es : List Entry) (p : Playing) → Ground script es p.world None → AllTied es p → NothingWaits p.world → IsSettled p.world

-- ALL OF THEM
pub record Pieces : Type 1 where
  pub replies_step : RepliesStep
  pub sees_step : SeesStep
  pub sees_more : SeesMore
  pub sees_first : SeesFirst
  pub shows_due : ShowsDue
  pub asks_step : AsksStep
  pub asks_first : AsksFirst
  pub asks_called : AsksCalled
  pub idle_after : IdleAfter
  pub wants_none : WantsNone
  pub wants_one : WantsOne
  pub wants_more : WantsMore
  pub wants_asked : WantsAsked
  pub wants_moved : WantsMoved
  pub wants_first : WantsFirst
  pub wants_called : WantsCalled
  pub rests_settled : RestsSettled
