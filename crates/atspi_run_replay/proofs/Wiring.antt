-- The bytes of what a line added are those that its entries and the names of the ends tell.
use Rattle.std.proofs.Common.{◌≡◌, ℕ, zero, suc, ◌==◌, ◌&&◌, ◌||◌, Bool, true, false, cond, List, [], ◌∷◌, ◌++◌, drop, length, map, take, Option, None, Some, option_map, refl, sym, ap, subst, ◌∙◌}
use Rattle.std.specs.Prelude.{find, slice_get, if◌then◌else◌}
use Rattle.atspi_trace_events.specs.declared.event.Event.{Event}
use Rattle.atspi_trace_events.specs.declared.event.Event.TheVariants.{Start, Step, Sent, Got, Hears, Deaf, Say, Show, Exit, Gone, Dropped, Busy, Quiet}
use Rattle.atspi_tree_model.specs.Forest.{first_of}
use Rattle.atspi_script_lines.specs.declared.line.Line.{Line}
use Rattle.atspi_script_lines.specs.declared.line.Party.{Party}
use Rattle.atspi_script_lines.specs.declared.line.Party.TheVariants.{Bus as The_bus}
use Rattle.atspi_message.specs.Envelope.{Envelope, envelope_of}
use Rattle.atspi_message.specs.Bytes.{written}
use Rattle.atspi_message.specs.declared.message.Message.{Message}
use Rattle.atspi_world_links.specs.declared.post.Post.{Post}
use Rattle.atspi_world_moves.specs.Carried as carried
use Rattle.atspi_world_moves.specs.Halted.{Naming, naming_of, HaveNames}
use Rattle.atspi_trace.specs.Entry.{Entry, entry_of, entries_of}
use Rattle.atspi_trace.specs.World.{End, World}
use Rattle.atspi_trace.specs.Ends.{same_party}
use Rattle.atspi_trace.specs.play.Playing.{Playing, unique_in}
use Rattle.atspi_trace.specs.play.Played as played
use Rattle.atspi_trace.specs.play.Played.{IsPlayed}
use Rattle.atspi_world_parties.specs.Places.{post_of}
use Rattle.atspi_world_parties.specs.Wires as wires
use Rattle.atspi_world_parties.specs.Wires.{name_if, event_bytes}
use Rattle.atspi_world.specs.Worlds.{Staged, IsPlaying}
use Rattle.atspi_run_replay.specs.Told.{Told, entries_told}
use Rattle.atspi_run_replay.specs.inner.Told.{told_on, told_from}
use Rattle.atspi_run_replay.specs.Wired.{sent_as, sent_in, name_of, taken_bytes, bytes_behind, AreWired, IsTold, begun, did}
use Rattle.atspi_run_replay.proofs.DoneLemmas.{entries_both}

-- the names of ends are those of their connections
name_same : (ends : List End) (who : Party) → name_if (post_of who (map carried.post_of ends)) ≡ unique_in (find (λ (e : End). same_party e.who who) ends)
name_same [] who = refl
name_same (e ∷ ends) who = by (same_party e.who who) (name_same ends who)
  where
    by : (b : Bool) → name_if (post_of who (map carried.post_of ends)) ≡ unique_in (find (λ (e : End). same_party e.who who) ends)
        → name_if (cond b (Some (carried.post_of e)) (post_of who (map carried.post_of ends))) ≡ unique_in (cond b (Some e) (find (λ (e : End). same_party e.who who) ends))
    by true h = refl
    by false h = h

-- and connections that are named alike give each party the same name
abbrev first_who : List Naming → Party
first_who [] = The_bus
first_who (n ∷ ns) = n.who

abbrev first_name : List Naming → Option (List ℕ)
first_name [] = None
first_name (n ∷ ns) = n.name

abbrev behind_first : List Naming → List Naming
behind_first [] = []
behind_first (n ∷ ns) = ns

name_alike : (xs ys : List Post) (who : Party) → map naming_of xs ≡ map naming_of ys → name_if (post_of who xs) ≡ name_if (post_of who ys)
name_alike [] [] who h = refl
name_alike [] (y ∷ ys) who h = absurd cc
name_alike (x ∷ xs) [] who h = absurd cc
name_alike (x ∷ xs) (y ∷ ys) who h =
    by (same_party x.who who) (name_alike xs ys who (ap behind_first h)) ∙ ap (λ (party : Party). name_if (cond (same_party party who) (Some y) (post_of who ys))) (ap first_who h)
  where
    by : (b : Bool) → name_if (post_of who xs) ≡ name_if (post_of who ys) → name_if (cond b (Some x) (post_of who xs)) ≡ name_if (cond b (Some y) (post_of who ys))
    by true rest = ap first_name h
    by false rest = rest

-- MESSAGES BEFORE A PLACE
either : (x y : Option Message) → option_map envelope_of (first_of x y) ≡ first_of (option_map envelope_of x) (option_map envelope_of y)
either None y = refl
either (Some m) y = refl

of_three : (x y z : Option Envelope) → first_of (first_of x y) z ≡ first_of x (first_of y z)
of_three None y z = refl
of_three (Some e) y z = refl

last_sent : (who : Party) (serial : ℕ) (entries : List Entry) (entry : Entry) → sent_in who serial (entries ++ entry ∷ []) ≡ first_of (sent_as who serial entry) (sent_in who serial entries)
last_sent who serial [] entry = by (sent_as who serial entry)
  where
    by : (o : Option Envelope) → first_of None o ≡ first_of o None
    by None = refl
    by (Some e) = refl
last_sent who serial (x ∷ entries) entry =
    ap (λ o. first_of o (sent_as who serial x)) (last_sent who serial entries entry) ∙ of_three (sent_as who serial entry) (sent_in who serial entries) (sent_as who serial x)

here_same : (who : Party) (serial : ℕ) (event : Event) → option_map envelope_of (wires.sent_here who serial event) ≡ sent_as who serial (entry_of event)
here_same who serial (Sent sender message) = by (same_party sender who && (message.serial == serial))
  where
    by : (b : Bool) → option_map envelope_of (if b then Some message else None) ≡ (if b then Some (envelope_of message) else None)
    by true = refl
    by false = refl
here_same who serial (Start party name) = refl
here_same who serial (Step app step) = refl
here_same who serial (Got taker sender number) = refl
here_same who serial (Hears app listener pattern) = refl
here_same who serial (Deaf app listener pattern) = refl
here_same who serial (Say reader app text) = refl
here_same who serial (Show reader app rows) = refl
here_same who serial (Exit party) = refl
here_same who serial (Gone reader app) = refl
here_same who serial (Dropped party queued len) = refl
here_same who serial (Busy turns) = refl
here_same who serial Quiet = refl

pub all_entries : (xs ys : List Event) → entries_of (xs ++ ys) ≡ entries_of xs ++ entries_of ys
all_entries [] ys = refl
all_entries (x ∷ xs) ys = ap (λ es. entry_of x ∷ es) (all_entries xs ys)

one_more : (xs : List Event) (k : ℕ) (x : Event) → slice_get xs k ≡ Some x → take (suc k) xs ≡ take k xs ++ x ∷ []
one_more [] zero x h = absurd cc
one_more [] (suc k) x h = absurd cc
one_more (y ∷ ys) zero x h = ap (λ o. option_list o) h
  where
    option_list : Option Event → List Event
    option_list None = []
    option_list (Some z) = z ∷ []
one_more (y ∷ ys) (suc k) x h = ap (λ zs. y ∷ zs) (one_more ys k x h)

no_more : (xs : List Event) (k : ℕ) → slice_get xs k ≡ None → take (suc k) xs ≡ take k xs
no_more [] zero h = refl
no_more [] (suc k) h = refl
no_more (y ∷ ys) zero h = absurd cc
no_more (y ∷ ys) (suc k) h = ap (λ zs. y ∷ zs) (no_more ys k h)

sent_same : (who : Party) (serial : ℕ) (trace : List Event) (k : ℕ) → option_map envelope_of (wires.sent_before who serial trace k) ≡ sent_in who serial (entries_of (take k trace))
sent_same who serial [] zero = refl
sent_same who serial (x ∷ trace) zero = refl
sent_same who serial trace (suc k) = by (slice_get trace k) refl (sent_same who serial trace k)
  where
    by : (o : Option Event) → slice_get trace k ≡ o → option_map envelope_of (wires.sent_before who serial trace k) ≡ sent_in who serial (entries_of (take k trace))
        → option_map envelope_of (first_of (wires.sent_if who serial (slice_get trace k)) (wires.sent_before who serial trace k)) ≡ sent_in who serial (entries_of (take (suc k) trace))
    by None h before =
        ap (λ o. option_map envelope_of (first_of (wires.sent_if who serial o) (wires.sent_before who serial trace k))) h
        ∙ before ∙ ap (λ es. sent_in who serial (entries_of es)) (sym (no_more trace k h))
    by (Some x) h before =
        ap (λ o. option_map envelope_of (first_of (wires.sent_if who serial o) (wires.sent_before who serial trace k))) h
        ∙ either (wires.sent_here who serial x) (wires.sent_before who serial trace k)
        ∙ ap (λ o. first_of o (option_map envelope_of (wires.sent_before who serial trace k))) (here_same who serial x)
        ∙ ap (first_of (sent_as who serial (entry_of x))) before
        ∙ sym (last_sent who serial (entries_of (take k trace)) (entry_of x))
        ∙ ap (sent_in who serial) (sym (ap entries_of (one_more trace k x h) ∙ all_entries (take k trace) (x ∷ [])))

-- THE BYTES OF EVENTS
behind : (xs : List Event) (k : ℕ) (x : Event) (rest : List Event) → drop k xs ≡ x ∷ rest → (slice_get xs k ≡ Some x) × (drop (suc k) xs ≡ rest)
behind [] zero x rest h = absurd cc
behind [] (suc k) x rest h = absurd cc
behind (y ∷ ys) zero x rest h = (ap first h, ap tail h)
  where
    first : List Event → Option Event
    first [] = None
    first (z ∷ zs) = Some z

    tail : List Event → List Event
    tail [] = []
    tail (z ∷ zs) = zs
behind (y ∷ ys) (suc k) x rest h = behind ys k x rest h

module _ (posts : List Post) (w : World) (names : (who : Party) → name_if (post_of who posts) ≡ name_of w who) (trace : List Event) where
  taken_same : (taker sender : Party) (o : Option Message) → wires.taken_bytes posts taker sender o ≡ taken_bytes w taker sender (option_map envelope_of o)
  taken_same taker sender None = refl
  taken_same taker sender (Some message) =
      ap (λ n. written (if same_party taker The_bus || same_party sender The_bus then envelope_of message else record (envelope_of message) { sender = n })) (names sender)

  bytes_same : (k : ℕ) (event : Event) → event_bytes posts trace k event ≡ bytes_behind w (entries_of (take k trace)) (entry_of event)
  bytes_same k (Got taker sender serial) =
      taken_same taker sender (wires.sent_before sender serial trace k) ∙ ap (taken_bytes w taker sender) (sent_same sender serial trace k)
  bytes_same k (Sent who message) = refl
  bytes_same k (Start party name) = refl
  bytes_same k (Step app step) = refl
  bytes_same k (Hears app listener pattern) = refl
  bytes_same k (Deaf app listener pattern) = refl
  bytes_same k (Say reader app text) = refl
  bytes_same k (Show reader app rows) = refl
  bytes_same k (Exit party) = refl
  bytes_same k (Gone reader app) = refl
  bytes_same k (Dropped party queued len) = refl
  bytes_same k (Busy turns) = refl
  bytes_same k Quiet = refl

  wired_on : (k : ℕ) (events : List Event) → drop k trace ≡ events → AreWired w (entries_of (take k trace)) (told_on posts trace k events)
  wired_on k [] h = tt
  wired_on k (event ∷ events) h =
      let b = behind trace k event events h in (
        bytes_same k event,
        subst (λ es. AreWired w es (told_on posts trace (suc k) events)) (ap entries_of (one_more trace k event b.0) ∙ all_entries (take k trace) (event ∷ []))
            (wired_on (suc k) events b.1),
      )

-- the front of a trace
front_of : (old new : List Event) (entries : List Entry) → entries_of new ≡ entries_of old ++ entries → entries_of (take (length old) new) ≡ entries_of old
front_of [] new entries h = refl
front_of (x ∷ old) [] entries h = absurd cc
front_of (x ∷ old) (y ∷ new) entries h = ap (λ o. head_with o (entries_of (take (length old) new))) (ap first h) ∙ ap (λ es. entry_of x ∷ es) (front_of old new entries (ap tail h))
  where
    first : List Entry → Option Entry
    first [] = None
    first (e ∷ es) = Some e

    tail : List Entry → List Entry
    tail [] = []
    tail (e ∷ es) = es

    head_with : Option Entry → List Entry → List Entry
    head_with None es = es
    head_with (Some e) es = e ∷ es

-- WHAT A LINE ADDED IS WIRED by the world whose names the connections have
pub wired_by : (w : World) (old new : Staged) (entries : List Entry) → HaveNames w new.posts → entries_of new.trace ≡ entries_of old.trace ++ entries
    → AreWired w (entries_of old.trace) (told_from new.posts new.trace (length old.trace))
wired_by w old new entries names wrote =
    subst (λ es. AreWired w es (told_from new.posts new.trace (length old.trace))) (front_of old.trace new.trace entries wrote)
    (wired_on new.posts w (λ who. name_alike new.posts (map carried.post_of w.ends) who names ∙ name_same w.ends who) new.trace (length old.trace) (drop (length old.trace) new.trace) refl)

-- of a line that was done that is the world behind it
pub added_wired : (p : Playing) (old new : Staged) (entries : List Entry) → IsPlaying p new → entries_of new.trace ≡ entries_of old.trace ++ entries
    → AreWired p.world (entries_of old.trace) (told_from new.posts new.trace (length old.trace))
added_wired p old new entries is wrote = wired_by p.world old new entries (ap (map naming_of) is.is.carried.posts_are) wrote

-- what is told was played
pub told_played : (lines : List Line) (told : List Told) (p : Playing) → IsTold lines told p → IsPlayed lines (entries_told told) p
told_played _ _ _ begun = played.begun
told_played _ _ _ (did lines line told more p q t ok out lives wired) =
    subst (λ es. IsPlayed (lines ++ line ∷ []) es q) (sym (entries_both told more)) (played.did lines line (entries_told told) (entries_told more) p q (told_played lines told p t) ok out lives)
