-- WHAT AN APPLICATION KNOWS is what the run tells: the number that was set at it, whether its Hello was returned, and how far its start has come.
use Rattle.std.proofs.Common.{◌≡◌, ◌⊎◌, inl, inr, ℕ, zero, suc, ◌≤◌, ◌<◌, ℤ, negsuc, Bool, true, false, List, [], ◌∷◌, ◌++◌, length, map, Option, None, Some, refl, sym, ap, ap₂, ◌∙◌, subst, arith, cond, is_some}
use Rattle.std.specs.Prelude.{◌==◌, ◌&&◌, ◌||◌, codes, filter, filter_map, fold, option_map, if◌then◌else◌}
use Rattle.std.specs.List.{AllByRecursion, cons_option, list_any}
use Rattle.std.proofs.lemmas.Bool.{eqb-true, ne_eqb}
use Rattle.std.proofs.lemmas.List.{append-nil, append_assoc}
use Rattle.atspi_script_lines.specs.declared.line.Party.{Party}
use Rattle.atspi_script_lines.specs.declared.line.Party.TheVariants.{Bus as The_bus, Registry, App, Reader}
use Rattle.atspi_message.specs.Envelope.{Envelope}
use Rattle.atspi_match.specs.routing.Members.{is_text}
use Rattle.atspi_protocol.specs.following.Replied as following
use Rattle.atspi_protocol.specs.exporting.Exporter.{StartCall, hello, add_match, get_registered_events, embed, Phase, new, awaits, over, Happening, steps, sends, hears, deaf, Exporter}
use Rattle.atspi_protocol.specs.exporting.Starting.{start_call}
use Rattle.atspi_trace.specs.Entry.{Entry, started, changed, sent, got, heard, unheard, spoke, showed, exited, gone, dropped, busy, quiet}
use Rattle.atspi_trace.specs.World.{World}
use Rattle.atspi_trace.specs.Ends.{same_party}
use Rattle.atspi_trace.specs.Causes.{did}
use Rattle.atspi_headline.specs.Words as here
use Rattle.atspi_headline.specs.Words.{Act, begins_line, moves_bytes, takes_end, writes, entries_in, gathered, last_of, handed, calls_of, sent_by, is_returned}
use Rattle.atspi_headline.specs.Headline.{id_by, id_after}
use Rattle.atspi_trace_laws.specs.laws.Words as told
use Rattle.atspi_trace_laws.proofs.OfOrder.Parties.{no_none, same_some, party-same, false_true}
use Rattle.atspi_trace_laws.proofs.OfHeard.Heeding.{IsOfListeners}
use Rattle.atspi_trace_laws.proofs.OfTaken.Found.{found_more}
use Rattle.atspi_trace_caches.proofs.OfServed.Facts.{Embeds}
use Rattle.atspi_trace_caches.proofs.OfServed.HearingCourse.{NoCall, Asks, Course, stays, stops, meets, tunes, lists}
use Rattle.atspi_headline_laws.proofs.Making.{entries_more}
use Rattle.atspi_headline_laws.proofs.Reading.{messages_told}
use Rattle.atspi_headline_laws.proofs.Growing.{Front}
use Rattle.atspi_headline_laws.proofs.Registering.{gathered_more, Stays, gathered_stays}
use Rattle.atspi_headline_laws.proofs.Replied.{answers_so, returned_of}
use Rattle.atspi_headline_laws.proofs.Words.{chosen_more}

-- ENTRIES in which an application neither speaks nor takes a message
abbrev pub NotBy : ℕ → Entry → Type 0
NotBy a (sent other e) = same_party other (App a) ≡ false
NotBy a (got taker sender serial) = same_party taker (App a) ≡ false
NotBy a entry = Unit {0}

none_sent : (a : ℕ) (es : List Entry) → AllByRecursion (NotBy a) es → told.messages es (App a) ≡ []
none_sent a [] h = refl
none_sent a (sent other e ∷ es) h = ap (λ b. cons_option (if b then Some e else None) (told.messages es (App a))) h.0 ∙ none_sent a es h.1
none_sent a (entry ∷ es) h = none_sent a es h.1

-- THE NUMBER that was set at it
abbrev pub id_of : List Act → ℕ → ℤ
id_of run a = gathered (id_after a) (negsuc 0) [] run

entry_stays : (a : ℕ) (e : Entry) → NotBy a e → Stays (id_after a) (writes e)
entry_stays a (got (App b) sender serial) h = λ before id. ap (λ t. if t then fold (id_by before a) id (handed before sender serial) else id) h
entry_stays a (got The_bus sender serial) h = λ before id. refl
entry_stays a (got Registry sender serial) h = λ before id. refl
entry_stays a (got (Reader r) sender serial) h = λ before id. refl
entry_stays a (sent other e) h = λ before id. refl
entry_stays a (started who name) h = λ before id. refl
entry_stays a (changed b step) h = λ before id. refl
entry_stays a (heard b listener pattern) h = λ before id. refl
entry_stays a (unheard b listener pattern) h = λ before id. refl
entry_stays a (spoke reader b text) h = λ before id. refl
entry_stays a (showed reader b rows) h = λ before id. refl
entry_stays a (exited who) h = λ before id. refl
entry_stays a (gone reader b) h = λ before id. refl
entry_stays a (dropped who queued len) h = λ before id. refl
entry_stays a (busy turns) h = λ before id. refl
entry_stays a quiet h = λ before id. refl

pub acts_stay : (a : ℕ) (acts : List Act) → AllByRecursion (NotBy a) (entries_in acts) → AllByRecursion (Stays (id_after a)) acts
acts_stay a [] h = tt
acts_stay a (begins_line line ∷ acts) h = ((λ before id. refl), acts_stay a acts h)
acts_stay a (moves_bytes who up count ∷ acts) h = ((λ before id. refl), acts_stay a acts h)
acts_stay a (takes_end who ∷ acts) h = ((λ before id. refl), acts_stay a acts h)
acts_stay a (writes e ∷ acts) h = (entry_stays a e h.0, acts_stay a acts h.1)

pub same_id : (run acts : List Act) (a : ℕ) → AllByRecursion (NotBy a) (entries_in acts) → id_of (run ++ acts) a ≡ id_of run a
same_id run acts a h = gathered_more (id_after a) (negsuc 0) [] run acts ∙ gathered_stays (id_after a) (id_of run a) run acts (acts_stay a acts h)

-- ITS HELLO was returned
pub record IsGreeted (es : List Entry) (a : ℕ) : Type 0 where
  pub sender : Party
  pub serial : ℕ
  pub message : Envelope
  pub was : told.message es sender serial ≡ Some message
  pub two : message.kind ≡ 2
  pub reply : message.reply ≡ Some 1
  pub early : List Entry
  pub late : List Entry
  pub is : es ≡ early ++ got (App a) sender serial ∷ late

pub greeted_more : (es ys : List Entry) (a : ℕ) → IsGreeted es a → IsGreeted (es ++ ys) a
greeted_more es ys a g = record {
  sender = g.sender;
  serial = g.serial;
  message = g.message;
  was = found_more es ys g.sender g.serial g.message g.was;
  two = g.two;
  reply = g.reply;
  early = g.early;
  late = g.late ++ ys;
  is = ap (λ l. l ++ ys) g.is ∙ append_assoc g.early (got (App a) g.sender g.serial ∷ g.late) ys;
}

any_behind : (p : Envelope → Bool) (o : Option Envelope) (es : List Envelope) → list_any p es ≡ true → list_any p (cons_option o es) ≡ true
any_behind p None es h = h
any_behind p (Some e) es h = by (p e)
  where
    by : (b : Bool) → (b || list_any p es) ≡ true
    by true = refl
    by false = h

any_taken : (p : Envelope → Bool) (es : List Entry) (a : ℕ) (sender : Party) (serial : ℕ) (m : Envelope) (early late : List Entry) → told.message es sender serial ≡ Some m → p m ≡ true
    → list_any p (filter_map (told.taken_as es (App a)) (early ++ got (App a) sender serial ∷ late)) ≡ true
any_taken p es a sender serial m [] late was h =
    let rest : List Envelope = filter_map (told.taken_as es (App a)) late in
    ap (λ b. list_any p (cons_option (if b then told.message es sender serial else None) rest)) (party-same (App a))
    ∙ ap (λ o. list_any p (cons_option o rest)) was ∙ ap (λ b. b || list_any p rest) h
any_taken p es a sender serial m (x ∷ early) late was h =
    any_behind p (told.taken_as es (App a) x) (filter_map (told.taken_as es (App a)) (early ++ got (App a) sender serial ∷ late)) (any_taken p es a sender serial m early late was h)

pub returned_one : (run : List Act) (w : World) (free : Option ℕ) (f : Front run w free) (a : ℕ) → IsGreeted (entries_in run) a → is_returned run (App a) 1 ≡ true
returned_one run w free f a g =
    let p : Envelope → Bool = answers_so (λ k. k == 2) 1 in
    let yes : p g.message ≡ true = ap₂ (λ (k : ℕ) o. (k == 2) && following.is_reply_to 1 o) g.two g.reply in
    returned_of run w free f (App a) 1
    ∙ ap (λ l. list_any p (filter_map (told.taken_as (entries_in run) (App a)) l)) g.is
    ∙ any_taken p (entries_in run) a g.sender g.serial g.message g.early g.late g.was yes

-- HOW FAR ITS START HAS COME: its calls are those of its start up to the one that it waits for, and all of them behind that
abbrev pub members : List Envelope → List (Option (List ℕ))
members cs = map (λ (c : Envelope). c.member) cs

abbrev pub last_serial : List Envelope → Option ℕ
last_serial cs = option_map (λ (c : Envelope). c.serial) (last_of cs)

abbrev pub start_words : StartCall → List (Option (List ℕ))
start_words hello = Some (codes "Hello") ∷ []
start_words add_match = Some (codes "Hello") ∷ (Some (codes "AddMatch") ∷ [])
start_words get_registered_events = Some (codes "Hello") ∷ (Some (codes "AddMatch") ∷ (Some (codes "GetRegisteredEvents") ∷ []))
start_words embed = Some (codes "Hello") ∷ (Some (codes "AddMatch") ∷ (Some (codes "GetRegisteredEvents") ∷ (Some (codes "Embed") ∷ [])))

abbrev pub AreCalls : Phase → List Envelope → Type 0
AreCalls new cs = ⊥
AreCalls (awaits call n) cs = (members cs ≡ start_words call) × (last_serial cs ≡ Some n)
AreCalls over cs = members cs ≡ start_words embed

abbrev pub is_call : Envelope → Bool
is_call e = e.kind == 1

-- what is sent of what happens
abbrev pub sends_in : List Happening → List Envelope
sends_in [] = []
sends_in (sends e ∷ hs) = e ∷ sends_in hs
sends_in (steps step ∷ hs) = sends_in hs
sends_in (hears listener pattern ∷ hs) = sends_in hs
sends_in (deaf listener pattern ∷ hs) = sends_in hs

pub sent_here : (a : ℕ) (hs : List Happening) → here.messages (map writes (map (did a) hs)) (App a) ≡ sends_in hs
sent_here a [] = refl
sent_here a (sends e ∷ hs) = ap (λ b. cons_option (if b then Some e else None) (here.messages (map writes (map (did a) hs)) (App a))) (party-same (App a)) ∙ ap (λ l. e ∷ l) (sent_here a hs)
sent_here a (steps step ∷ hs) = sent_here a hs
sent_here a (hears listener pattern ∷ hs) = sent_here a hs
sent_here a (deaf listener pattern ∷ hs) = sent_here a hs

filter_more : (p : Envelope → Bool) (xs ys : List Envelope) → filter p (xs ++ ys) ≡ filter p xs ++ filter p ys
filter_more p [] ys = refl
filter_more p (x ∷ xs) ys = by (p x) (filter_more p xs ys)
  where
    by : (b : Bool) → filter p (xs ++ ys) ≡ filter p xs ++ filter p ys → cond b (x ∷ filter p (xs ++ ys)) (filter p (xs ++ ys)) ≡ cond b (x ∷ filter p xs) (filter p xs) ++ filter p ys
    by true h = ap (λ l. x ∷ l) h
    by false h = h

pub calls_more : (run acts : List Act) (a : ℕ) → calls_of (run ++ acts) a ≡ calls_of run a ++ filter is_call (here.messages acts (App a))
calls_more run acts a = ap (filter is_call) (chosen_more (sent_by (App a)) run acts) ∙ filter_more is_call (here.messages run (App a)) (here.messages acts (App a))

pub no_calls : (hs : List Happening) → NoCall hs → filter is_call (sends_in hs) ≡ []
no_calls [] c = refl
no_calls (sends e ∷ hs) c = by (e.kind == 1) refl (no_calls hs c.1)
  where
    by : (b : Bool) → (e.kind == 1) ≡ b → filter is_call (sends_in hs) ≡ [] → cond b (e ∷ filter is_call (sends_in hs)) (filter is_call (sends_in hs)) ≡ []
    by true g h = absurd (c.0 (eqb-true e.kind 1 g))
    by false g h = h
no_calls (steps step ∷ hs) c = no_calls hs c
no_calls (hears listener pattern ∷ hs) c = no_calls hs c
no_calls (deaf listener pattern ∷ hs) c = no_calls hs c

pub one_call : (front : List Happening) (c : Envelope) → IsOfListeners front → is_call c ≡ true → filter is_call (sends_in (front ++ sends c ∷ [])) ≡ c ∷ []
one_call [] c l h = ap (λ b. cond b (c ∷ []) []) h
one_call (hears listener pattern ∷ front) c l h = one_call front c l h
one_call (deaf listener pattern ∷ front) c l h = one_call front c l h
one_call (steps step ∷ front) c l h = absurd l
one_call (sends e ∷ front) c l h = absurd l

-- one call more
members_more : (cs : List Envelope) (c : Envelope) → members (cs ++ c ∷ []) ≡ members cs ++ c.member ∷ []
members_more [] c = refl
members_more (x ∷ cs) c = ap (λ l. x.member ∷ l) (members_more cs c)

last_more : (cs : List Envelope) (c : Envelope) → last_of (cs ++ c ∷ []) ≡ Some c
last_more [] c = refl
last_more (x ∷ []) c = refl
last_more (x ∷ (y ∷ cs)) c = last_more (y ∷ cs) c

pub next_calls : (cs : List Envelope) (call later : StartCall) (n : ℕ) (name : List ℕ) → members cs ≡ start_words call → start_words call ++ (start_call name later).member ∷ [] ≡ start_words later
    → AreCalls (awaits later n) (cs ++ record (start_call name later) { serial = n } ∷ [])
next_calls cs call later n name words more =
    let c : Envelope = record (start_call name later) { serial = n } in
    (members_more cs c ∙ ap (λ l. l ++ c.member ∷ []) words ∙ more, ap (option_map (λ (e : Envelope). e.serial)) (last_more cs c))

-- where the call to be embedded was sent, all were
abbrev is_embed : Option (List ℕ) → Bool
is_embed o = is_text o (codes "Embed")

found_embed : (serial : ℕ) (ms : List Envelope) (c : Envelope) → told.with_serial serial ms ≡ Some c → c.kind ≡ 1 → c.member ≡ Some (codes "Embed") → list_any is_embed (members (filter is_call ms)) ≡ true
found_embed serial [] c h one word = absurd (no_none c h)
found_embed serial (m ∷ ms) c h one word = by (m.serial == serial) h (λ g. found_embed serial ms c g one word)
  where
    first : m ≡ c → list_any is_embed (members (filter is_call (m ∷ ms))) ≡ true
    first same =
        ap (λ b. list_any is_embed (members (cond b (m ∷ filter is_call ms) (filter is_call ms)))) (ap (λ (e : Envelope). e.kind == 1) same ∙ ap (λ n. n == 1) one)
        ∙ ap (λ o. is_embed o || list_any is_embed (members (filter is_call ms))) (ap (λ (e : Envelope). e.member) same ∙ word)

    or_true : (b c : Bool) → c ≡ true → (b || c) ≡ true
    or_true true c k = refl
    or_true false c k = k

    later : (b : Bool) → list_any is_embed (members (filter is_call ms)) ≡ true → list_any is_embed (members (cond b (m ∷ filter is_call ms) (filter is_call ms))) ≡ true
    later true k = or_true (is_embed m.member) (list_any is_embed (members (filter is_call ms))) k
    later false k = k

    by : (b : Bool) → (if b then Some m else told.with_serial serial ms) ≡ Some c → (told.with_serial serial ms ≡ Some c → list_any is_embed (members (filter is_call ms)) ≡ true)
        → list_any is_embed (members (filter is_call (m ∷ ms))) ≡ true
    by true k rest = first (same_some m c k)
    by false k rest = later (m.kind == 1) (rest k)

all_calls : (p : Phase) (cs : List Envelope) → AreCalls p cs → list_any is_embed (members cs) ≡ true → members cs ≡ start_words embed
all_calls new cs i h = absurd i
all_calls (awaits hello n) cs i h = absurd (false_true (ap (list_any is_embed) (sym i.0) ∙ h))
all_calls (awaits add_match n) cs i h = absurd (false_true (ap (list_any is_embed) (sym i.0) ∙ h))
all_calls (awaits get_registered_events n) cs i h = absurd (false_true (ap (list_any is_embed) (sym i.0) ∙ h))
all_calls (awaits embed n) cs i h = i.0
all_calls over cs i h = i

pub embedded_calls : (run : List Act) (a : ℕ) (p : Phase) (cs : List Envelope) → cs ≡ calls_of run a → AreCalls p cs → Embeds (entries_in run) a → members cs ≡ start_words embed
embedded_calls run a p cs same i e =
    all_calls p cs i
    (ap (λ l. list_any is_embed (members l)) (same ∙ ap (filter is_call) (messages_told run (App a))) ∙ found_embed e.serial (told.messages (entries_in run) (App a)) e.call e.was e.is_call e.member)

-- WHAT A MESSAGE MAKES OF ITS CALLS
module _ (front acts : List Act) (a : ℕ) (s t : Exporter) (m : Envelope) (wrote : here.messages acts (App a) ≡ sends_in t.out) (old : AreCalls s.phase (calls_of front a)) where
  abbrev cs : List Envelope
  cs = calls_of front a

  its_calls : calls_of (front ++ acts) a ≡ cs ++ filter is_call (sends_in t.out)
  its_calls = calls_more front acts a ∙ ap (λ l. cs ++ filter is_call l) wrote

  none_more : NoCall t.out → calls_of (front ++ acts) a ≡ cs
  none_more quiet_ = its_calls ∙ ap (λ l. cs ++ l) (no_calls t.out quiet_) ∙ append-nil cs

  one_more : (call : StartCall) (x : Asks s t call) → calls_of (front ++ acts) a ≡ cs ++ record (start_call x.name call) { serial = x.serial } ∷ []
  one_more call x =
      its_calls ∙ ap (λ l. cs ++ filter is_call (sends_in l)) x.out
      ∙ ap (λ l. cs ++ l) (one_call x.front (record (start_call x.name call) { serial = x.serial }) x.quiet (all_call call))
    where
      all_call : (call : StartCall) → is_call (record (start_call x.name call) { serial = x.serial }) ≡ true
      all_call hello = refl
      all_call add_match = refl
      all_call get_registered_events = refl
      all_call embed = refl

  sent_call : (before call : StartCall) (n : ℕ) (x : Asks s t call) → s.phase ≡ awaits before n → start_words before ++ (start_call x.name call).member ∷ [] ≡ start_words call → AreCalls t.phase (calls_of (front ++ acts) a)
  sent_call before call n x at words =
      let had : AreCalls (awaits before n) cs = subst (λ p. AreCalls p cs) at old in
      subst (λ p. AreCalls p (calls_of (front ++ acts) a)) (sym x.phase) (subst (AreCalls (awaits call x.serial)) (sym (one_more call x)) (next_calls cs before call x.serial x.name had.0 words))

  pub taken_calls : (t.phase ≡ over → Embeds (entries_in (front ++ acts)) a) → Course s m t → AreCalls t.phase (calls_of (front ++ acts) a)
  taken_calls embeds (stays phase name next quiet_) = subst (λ p. AreCalls p (calls_of (front ++ acts) a)) (sym phase) (subst (AreCalls s.phase) (sym (none_more quiet_)) old)
  taken_calls embeds (stops phase name next quiet_) =
      subst (λ p. AreCalls p (calls_of (front ++ acts) a)) (sym phase)
      (ap members (none_more quiet_) ∙ embedded_calls (front ++ acts) a s.phase cs (sym (none_more quiet_)) old (embeds phase))
  taken_calls embeds (meets serial at x) = sent_call hello add_match serial x at refl
  taken_calls embeds (tunes serial at two reply name x) = sent_call add_match get_registered_events serial x at refl
  taken_calls embeds (lists serial at two reply pairs body name x) = sent_call get_registered_events embed serial x at refl

-- WHAT IT KNOWS
pub record IsKnown (run : List Act) (a : ℕ) (s : Exporter) : Type 0 where
  pub id : s.id ≡ id_of run a
  pub greeted : is_some s.name ≡ true → IsGreeted (entries_in run) a
  pub calls : AreCalls s.phase (calls_of run a)

pub known_more : (run acts : List Act) (a : ℕ) (s : Exporter) → AllByRecursion (NotBy a) (entries_in acts) → IsKnown run a s → IsKnown (run ++ acts) a s
known_more run acts a s n i = record {
  id = i.id ∙ sym (same_id run acts a n);
  greeted = λ h. subst (λ l. IsGreeted l a) (sym (entries_more run acts)) (greeted_more (entries_in run) (entries_in acts) a (i.greeted h));
  calls =
      subst (AreCalls s.phase)
      (sym (calls_more run acts a ∙ ap (λ l. calls_of run a ++ filter is_call l) (messages_told acts (App a) ∙ none_sent a (entries_in acts) n) ∙ append-nil (calls_of run a))) i.calls;
}
