-- The cursors that are kept are those of the definitions, behind one more event, and behind a reading.
use Rattle.std.proofs.Common.{◌≡◌, ◌==◌, ◌&&◌, ◌<◌, ◌≤◌, ◌^◌, ℕ, Bool, true, false, List, length, Option, None, Some, MatchOption, Result, Ok, Err, OnOk, if◌then◌else◌, refl, sym, ap, subst, ◌∙◌, arith}
use Rattle.std.proofs.lemmas.Bool.{eqb-true, and_parts}
use Rattle.atspi_tree_model.specs.Forest.{first_of}
use Rattle.atspi_tree_model.specs.Path.{path_of}
use Rattle.atspi_message.specs.Envelope.{Envelope, envelope_of}
use Rattle.atspi_message.specs.declared.message.Message.{Message}
use Rattle.atspi_script_lines.specs.declared.line.Party.{Party}
use Rattle.atspi_script_lines.specs.declared.line.Party.TheVariants.{App, Reader}
use Rattle.atspi_trace.specs.Ends.{same_party}
use Rattle.atspi_trace_events.specs.declared.event.Event.{Event}
use Rattle.atspi_trace_events.specs.declared.event.Event.TheVariants.{Sent, Got, Gone}
use Rattle.atspi_units.specs.Units.{units}
use Rattle.atspi_units.specs.declared.grain.Grain.{Grain}
use Rattle.atspi_units.proofs.CutLemmas.{unit_ends}
use Rattle.atspi_cursors.specs.Reading.{IsRead, IsUnitRead, place_read}
use Rattle.atspi_cursors.specs.declared.reading.Way.{Way}
use Rattle.atspi_cursors.specs.declared.reading.Reading.{Reading}
use Rattle.atspi_browse.specs.Cursor.{Happening, Moment, event, unit, other, ended, put, moved, moment, cursor, sent_with, message_sent, of_message}
use Rattle.atspi_browse.specs.Places.{Heeds, Reads, cursor_of, note_of}
use Rattle.atspi_browse.specs.declared.line.UnitLine.{UnitLine}
use Rattle.atspi_browse.specs.declared.places.Places.{Places}
use Rattle.atspi_browse.specs.inner.Changes.{moment_at}
use Rattle.atspi_browse.specs.inner.Moves.{Forgets, Moves, Notes, Puts}
use Rattle.atspi_browse.proofs.FollowLemmas.{cursor_more, sent_more}

-- nothing that moves a cursor
abbrev pub IsStill : Event → Type 0
IsStill e = ((r a n : ℕ) (hs : List Happening) → moment r a n hs (event e) ≡ other) × ((a serial : ℕ) → sent_with (App a) serial (event e) ≡ None)

pub stays : (p : Places) (e : Event) → IsStill e → Heeds p p e
stays p e still hs b = record {
  cursors = λ r a n lr la ln. b.cursors r a n lr la ln ∙ sym (cursor_more r a n hs (event e) ∙ ap (moved (cursor r a n hs)) (still.0 r a n hs));
  notes = λ a serial n la ls ln.
      ap (of_message (path_of n)) (sent_more (App a) serial hs (event e) ∙ ap (λ o. first_of o (message_sent (App a) serial hs)) (still.1 a serial)) ∙ b.notes a serial n la ls ln;
}

-- an application sent a message
noted : (b : Bool) (n : ℕ) (e : Envelope) (o : Option Envelope) (m : Moment) → of_message (path_of n) o ≡ m
    → of_message (path_of n) (first_of (if b then Some e else None) o) ≡ (if b then of_message (path_of n) (Some e) else m)
noted true n e o m h = refl
noted false n e o m h = h

pub notes : (old new : Places) (app : ℕ) (message : Message) → new.cursors ≡ old.cursors → Notes old new app message → Heeds old new (Sent (App app) message)
notes old new app message same told hs b = record {
  cursors = λ r a n lr la ln.
      ap (λ c. cursor_of (record new { cursors = c }) r a n) same ∙ b.cursors r a n lr la ln ∙ sym (cursor_more r a n hs (event (Sent (App app) message)));
  notes = λ a serial n la ls ln.
      ap (of_message (path_of n)) (sent_more (App a) serial hs (event (Sent (App app) message)))
      ∙ noted ((app == a) && (message.serial == serial)) n (envelope_of message) (message_sent (App a) serial hs) (moment_at n (note_of old a serial)) (b.notes a serial n la ls ln)
      ∙ sym (told a serial n la ls ln);
}

-- a reader took one
moved_so : (b : Bool) (c d : ℕ) (m k : Moment) → c ≡ d → (b ≡ true → m ≡ k) → (if b then moved c m else c) ≡ moved d (if b then k else other)
moved_so true c d m k e f = ap (λ x. moved x m) e ∙ ap (moved d) (f refl)
moved_so false c d m k e f = e

pub moves : (old new : Places) (reader app serial : ℕ) → serial < 2 ^ 32 → new.told ≡ old.told → Moves old new reader app serial → Heeds old new (Got (Reader reader) (App app) serial)
moves old new reader app serial small same moves_ hs b = record {
  cursors = λ r a n lr la ln.
      moves_ r a n lr la ln
      ∙ moved_so ((reader == r) && (app == a)) (cursor_of old r a n) (cursor r a n hs) (moment_at n (note_of old app serial)) (of_message (path_of n) (message_sent (App a) serial hs)) (b.cursors r a n lr la ln)
      (λ yes. ap (λ x. moment_at n (note_of old x serial)) (eqb-true app a (and_parts (reader == r) (app == a) yes).1) ∙ sym (b.notes a serial n la small ln))
      ∙ sym (cursor_more r a n hs (event (Got (Reader reader) (App app) serial)));
  notes = λ a number n la ls ln.
      ap (of_message (path_of n)) (sent_more (App a) number hs (event (Got (Reader reader) (App app) serial))) ∙ b.notes a number n la ls ln
      ∙ ap (λ t. moment_at n (note_of (record old { told = t }) a number)) (sym same);
}

-- an application is gone
gone_so : (b : Bool) (c d : ℕ) → c ≡ d → (if b then 0 else c) ≡ moved d (if b then ended else other)
gone_so true c d e = refl
gone_so false c d e = e

pub forgets : (old new : Places) (reader app : ℕ) → new.told ≡ old.told → Forgets old new reader app → Heeds old new (Gone reader app)
forgets old new reader app same forgets_ hs b = record {
  cursors = λ r a n lr la ln.
      forgets_ r a n lr la ln ∙ gone_so ((reader == r) && (app == a)) (cursor_of old r a n) (cursor r a n hs) (b.cursors r a n lr la ln) ∙ sym (cursor_more r a n hs (event (Gone reader app)));
  notes = λ a number n la ls ln.
      ap (of_message (path_of n)) (sent_more (App a) number hs (event (Gone reader app))) ∙ b.notes a number n la ls ln ∙ ap (λ t. moment_at n (note_of (record old { told = t }) a number)) (sym same);
}

-- a unit was read
put_so : (b : Bool) (c d place : ℕ) → c ≡ d → (if b then place else c) ≡ moved d (if b then put place else other)
put_so true c d place e = refl
put_so false c d place e = e

pub read_some : (old new : Places) (l : UnitLine) (text : List ℕ) (reading : Reading) → l.reader < 2 ^ 32 → l.app < 2 ^ 32 → l.node < 2 ^ 32 → new.told ≡ old.told → Puts old new l.reader l.app l.node reading.cursor
    → IsRead l.way (units l.grain text) (cursor_of old l.reader l.app l.node) (Some reading) → Reads old new l text (Some reading)
read_some old new l text reading lr la ln same puts is hs b = (
  subst (λ c. IsRead l.way (units l.grain text) c (Some reading)) (b.cursors l.reader l.app l.node lr la ln) is,
  record {
    cursors = λ r a n kr ka kn.
        puts r a n kr ka kn ∙ put_so ((l.reader == r) && ((l.app == a) && (l.node == n))) (cursor_of old r a n) (cursor r a n hs) reading.cursor (b.cursors r a n kr ka kn)
        ∙ sym (cursor_more r a n hs (unit l text (Some reading)));
    notes = λ a number n ka ks kn.
        ap (of_message (path_of n)) (sent_more (App a) number hs (unit l text (Some reading))) ∙ b.notes a number n ka ks kn ∙ ap (λ t. moment_at n (note_of (record old { told = t }) a number)) (sym same);
  },
)

none_so : (b : Bool) (d : ℕ) → d ≡ moved d (if b then other else other)
none_so true d = refl
none_so false d = refl

pub read_none : (p : Places) (l : UnitLine) (text : List ℕ) → l.reader < 2 ^ 32 → l.app < 2 ^ 32 → l.node < 2 ^ 32 → IsRead l.way (units l.grain text) (cursor_of p l.reader l.app l.node) None → Reads p p l text None
read_none p l text lr la ln is hs b = (
  subst (λ c. IsRead l.way (units l.grain text) c None) (b.cursors l.reader l.app l.node lr la ln) is,
  record {
    cursors = λ r a n kr ka kn.
        b.cursors r a n kr ka kn ∙ none_so ((l.reader == r) && ((l.app == a) && (l.node == n))) (cursor r a n hs) ∙ sym (cursor_more r a n hs (unit l text None));
    notes = λ a number n ka ks kn. ap (of_message (path_of n)) (sent_more (App a) number hs (unit l text None)) ∙ b.notes a number n ka ks kn;
  },
)

-- WHERE IT WENT WELL
pub noted_so : {T E : Type 0} (r : Result T E) (old new : Places) (app : ℕ) (message : Message) → new.cursors ≡ old.cursors → OnOk r (Notes old new app message) → OnOk r (Heeds old new (Sent (App app) message))
noted_so (Ok x) old new app message same h = notes old new app message same h
noted_so (Err x) old new app message same h = tt

pub moved_on : {T E : Type 0} (r : Result T E) (old new : Places) (reader app serial : ℕ) → serial < 2 ^ 32 → new.told ≡ old.told → OnOk r (Moves old new reader app serial) → OnOk r (Heeds old new (Got (Reader reader) (App app) serial))
moved_on (Ok x) old new reader app serial small same h = moves old new reader app serial small same h
moved_on (Err x) old new reader app serial small same h = tt

pub as_event : {T E : Type 0} (r : Result T E) (old new : Places) (e f : Event) → e ≡ f → OnOk r (Heeds old new f) → OnOk r (Heeds old new e)
as_event r old new e f same h = subst (λ x. OnOk r (Heeds old new x)) (sym same) h

pub fits_in : (way : Way) (grain : Grain) (text : List ℕ) (cursor : ℕ) (reading : Reading) → IsRead way (units grain text) cursor (Some reading) → (reading.start ≤ reading.end) × (reading.end ≤ length text)
fits_in way grain text cursor reading is = by (place_read way cursor) is
  where
    by : (o : Option ℕ) → MatchOption o ⊥ (λ at. IsUnitRead way (units grain text) cursor reading at) → (reading.start ≤ reading.end) × (reading.end ≤ length text)
    by None h = absurd h
    by (Some at) h = (omega (arith, h.0.ends), unit_ends grain text at reading.start reading.end h.0)

-- a message of an end that is no application tells nothing
else_of : (x y : Bool) (m : Moment) → y ≡ false → (if x && y then m else other) ≡ other
else_of true true m e = absurd cc
else_of true false m e = refl
else_of false y m e = refl

pub taken_still : (p : Places) (reader serial : ℕ) (sender : Party) → ((a : ℕ) → same_party sender (App a) ≡ false) → Heeds p p (Got (Reader reader) sender serial)
taken_still p reader serial sender others = stays p (Got (Reader reader) sender serial) (
  λ r a n hs. else_of (reader == r) (same_party sender (App a)) (of_message (path_of n) (message_sent (App a) serial hs)) (others a),
  λ a s. refl,
)
