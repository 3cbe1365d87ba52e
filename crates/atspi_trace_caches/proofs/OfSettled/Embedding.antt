-- EACH APPLICATION WHOSE START IS OVER embedded, as long as the registry lives: no call of its start is answered by an error, Hello returns its name, and the registry the list of pairs.
use Rattle.std.proofs.Common.{◌≡◌, ◌⊎◌, inl, inr, ℕ, ◌+◌, ◌≤◌, Bool, true, false, List, [], ◌∷◌, ◌++◌, length, map, Option, None, Some, refl, sym, ap, ap₂, ◌∙◌, subst, arith, is_some}
use Rattle.std.specs.Prelude.{◌==◌, ◌||◌, ◌&&◌, nat_lt, codes, if◌then◌else◌, Ok}
use Rattle.std.specs.List.{AllByRecursion, cons_option}
use Rattle.std.proofs.lemmas.Bool.{eqb-true}
use lib.Utf8.{encode}
use Rattle.std.proofs.lemmas.List.{append-nil}
use Rattle.atspi_types.specs.Data.{Data, text_data}
use Rattle.atspi_base.specs.valid_names.Names.{is_bus_name, is_unique_name}
use Rattle.atspi_script_lines.specs.declared.line.Party.{Party}
use Rattle.atspi_script_lines.specs.declared.line.Party.TheVariants.{Bus as The_bus, Registry, App}
use Rattle.atspi_message.specs.Envelope.{Envelope}
use Rattle.atspi_names.specs.Owners.{own_name}
use Rattle.atspi_protocol.specs.ends.Places.{registry}
use Rattle.atspi_protocol.specs.ends.Messages.{Reply, returns, fails, reply_to}
use Rattle.atspi_protocol.specs.members.Asked.{asked}
use Rattle.atspi_protocol.specs.registering.RegistryState.{RegistryState}
use Rattle.atspi_protocol.specs.registering.Answers.{Answer, only, object_at, pairs_data, reference_in}
use Rattle.atspi_protocol.specs.registering.Steps.{answer_to}
use Rattle.atspi_protocol.specs.exporting.Exporter.{StartCall, hello, add_match, get_registered_events, embed, Phase, new, awaits, over, Happening, steps, sends, hears as hears_of, deaf, Exporter}
use Rattle.atspi_protocol.specs.exporting.Hearing.{pairs_in}
use Rattle.atspi_protocol.specs.exporting.Starting.{name_or_empty, awaited, is_number, goes_on, greeted as greeted_app, listened, ends_start, start_call, unique_name_in}
use Rattle.atspi_protocol.specs.exporting.Taking.{app_takes, takes_other, takes_call, takes_signal, called}
use Rattle.atspi_match.specs.declared.routing.member.BusMember.TheVariants.{AddMatch}
use Rattle.atspi_match.specs.routing.Members.{is_text, member_of}
use Rattle.atspi_match.specs.routing.Routing.{is_for_bus, is_reply}
use Rattle.atspi_trace.specs.Entry.{Entry}
use Rattle.atspi_trace.specs.Rules.{registry_rule}
use Rattle.atspi_trace.specs.World.{Said, Letter, End}
use Rattle.atspi_trace.specs.Ends.{same_party}
use Rattle.atspi_trace.specs.Causes.{did}
use Rattle.atspi_trace_laws.specs.laws.Words.{messages, message, with_serial}
use Rattle.atspi_trace_laws.specs.missed.Laws.{AreNamed}
use Rattle.atspi_trace_laws.proofs.OfOrder.Parties.{no_none, same_some, party-same, false_true, all_append}
use Rattle.atspi_trace_laws.proofs.OfSerials.Serial.{messages_more}
use Rattle.atspi_trace_laws.proofs.OfHeard.Heeding.{IsOfListeners}
use Rattle.atspi_trace_laws.proofs.OfTaken.Found.{found_more}
use Rattle.atspi_trace_laws.proofs.OfNames.Places.{greeted, name_told}
use Rattle.atspi_trace_laws.proofs.OfSigned.Mail.{NameIs, name_more, told_more, IsCallOf, IsAnswer, IsPost, IsMail}
use Rattle.atspi_trace_laws.proofs.OfSigned.Self.{InStart, IsSelf, unique_told, one_named, for_bus_true}
use Rattle.atspi_trace_laws.proofs.OfMissed.Registering.{name_is_bus_name}
use Rattle.atspi_trace_laws.proofs.OfMissed.Telling.{pairs_told}
use Rattle.atspi_trace_caches.proofs.OfServed.Facts.{Embeds}
use Rattle.atspi_trace_caches.proofs.OfServed.Returned.{Fits, OfEnd, RepliesTo, CallOf, returned_by}
use Rattle.atspi_trace_caches.proofs.OfServed.HearingNews.{registry_spelled}
use Rattle.atspi_trace_laws.proofs.OfMissed.Returning.{not_the_bus}
use Rattle.atspi_trace_caches.proofs.OfServed.HearingCourse.{NoCall, Asks, Course, stays, stops, meets, tunes, lists, course, Edited}
use Rattle.atspi_trace_caches.proofs.OfServed.HearingTuned.{IsAsked, NotSaid, none_said}
use Rattle.atspi_trace_caches.proofs.OfSettled.TellingWords.{HasOne, one_front, one_map}
use Rattle.atspi_trace_laws.proofs.OfOrder.Each.{all_map}
use Rattle.atspi_trace_caches.proofs.OfSettled.RefusingLeft.{IsAway}
use Rattle.atspi_trace_caches.proofs.OfSettled.RefusingRules.{is_add, counted, adds_among}
use Rattle.atspi_trace_caches.proofs.OfSettled.Refusing.{Reason, ErrorTo, Excused}
use Rattle.atspi_trace_caches.proofs.OfSettled.Answering.{IsAnswered, Answers}

-- HOW A START ENDS
abbrev Stopped : StartCall → List Data → Type 0
Stopped hello body = unique_name_in body ≡ None
Stopped add_match body = ⊥
Stopped get_registered_events body = pairs_in body ≡ None
Stopped embed body = Unit {0}

record Ended (s : Exporter) (e : Envelope) : Type 0 where
  call : StartCall
  serial : ℕ
  phase : s.phase ≡ awaits call serial
  reply : e.reply ≡ Some serial
  why : ((e.kind ≡ 2) × Stopped call e.body) ⊎ (e.kind ≡ 3)

abbrev is_over : Phase → Bool
is_over over = true
is_over phase = false

not_over : (call : StartCall) (n : ℕ) → awaits call n ≡ over → ⊥
not_over call n h = false_true (ap is_over h)

nobody_calls : (s : Exporter) (name : List ℕ) (e : Envelope) → e.sender ≡ None → takes_call s name e ≡ s
nobody_calls s name e h = rw h refl

caller_calls : (s : Exporter) (name caller : List ℕ) (e : Envelope) → e.sender ≡ Some caller → takes_call s name e ≡ called s name caller e
caller_calls s name caller e h = rw h refl

call_phase : (s : Exporter) (name : List ℕ) (e : Envelope) (sender : Option (List ℕ)) → e.sender ≡ sender → (takes_call s name e).phase ≡ s.phase
call_phase s name e None h = ap (λ (t : Exporter). t.phase) (nobody_calls s name e h)
call_phase s name e (Some caller) h = ap (λ (t : Exporter). t.phase) (caller_calls s name caller e h)

pub other_phase : (s : Exporter) (e : Envelope) (o : Option (List ℕ)) → (takes_other s o e).phase ≡ s.phase
other_phase s e None = refl
other_phase s e (Some name) = by (e.kind == 1)
  where
    signal : (b : Bool) → (if b then takes_signal s e else s).phase ≡ s.phase
    signal true = refl
    signal false = refl

    by : (a : Bool) → (if a then takes_call s name e else if e.kind == 4 then takes_signal s e else s).phase ≡ s.phase
    by true = call_phase s name e e.sender refl
    by false = signal (e.kind == 4)

goes_stop : (s : Exporter) (call : StartCall) (body : List Data) → (goes_on s call body).phase ≡ over → Stopped call body
goes_stop s hello body h = by (unique_name_in body) refl h
  where
    by : (o : Option (List ℕ)) → unique_name_in body ≡ o → (greeted_app s o).phase ≡ over → unique_name_in body ≡ None
    by None g k = g
    by (Some name) g k = absurd (not_over add_match s.next k)
goes_stop s add_match body h = not_over get_registered_events s.next h
goes_stop s get_registered_events body h = by (pairs_in body) refl h
  where
    by : (o : Option (List (List ℕ × List ℕ))) → pairs_in body ≡ o → (listened s o).phase ≡ over → pairs_in body ≡ None
    by None g k = g
    by (Some listed) g k = absurd (not_over embed _ k)
goes_stop s embed body h = tt

numbered_reply : (o : Option ℕ) (serial : ℕ) → is_number o serial ≡ true → o ≡ Some serial
numbered_reply None serial h = absurd (false_true h)
numbered_reply (Some m) serial h = ap Some (eqb-true m serial h)

and_right : (a b : Bool) → (a && b) ≡ true → b ≡ true
and_right true b h = h
and_right false b h = absurd (false_true h)

and_left : (a b : Bool) → (a && b) ≡ true → a ≡ true
and_left true b h = refl
and_left false b h = absurd (false_true h)

-- behind a message its start is over only where it was, or where the return that it waited for ends it
over_by : (s : Exporter) (e : Envelope) → (app_takes s e).phase ≡ over → (s.phase ≡ over) ⊎ Ended s e
over_by s e = by (awaited s.phase e) refl
  where
    kind_by : (n : ℕ) → (n == 2 || n == 3) ≡ true → (n == 2) ≡ false → n ≡ 3
    kind_by n h g = at (n == 2) (n == 3) refl g h
      where
        at : (a b : Bool) → (n == 3) ≡ b → a ≡ false → (a || b) ≡ true → n ≡ 3
        at true b q r t = absurd (false_true (sym r))
        at false true q r t = eqb-true n 3 q
        at false false q r t = absurd (false_true t)

    waiting : (p : Phase) (call : StartCall) → s.phase ≡ p → awaited p e ≡ Some call → (serial : ℕ) × (s.phase ≡ awaits call serial) × (e.reply ≡ Some serial) × ((e.kind == 2 || e.kind == 3) ≡ true)
    waiting new call h g = absurd (no_none call g)
    waiting over call h g = absurd (no_none call g)
    waiting (awaits other serial) call h g = at ((e.kind == 2 || e.kind == 3) && is_number e.reply serial) refl g
      where
        at : (b : Bool) → ((e.kind == 2 || e.kind == 3) && is_number e.reply serial) ≡ b → (if b then Some other else None) ≡ Some call → (n : ℕ) × (s.phase ≡ awaits call n) × (e.reply ≡ Some n) × ((e.kind == 2 || e.kind == 3) ≡ true)
        at true q r = (serial, h ∙ ap (λ c. awaits c serial) (same_some other call r), numbered_reply e.reply serial (and_right (e.kind == 2 || e.kind == 3) (is_number e.reply serial) q), and_left (e.kind == 2 || e.kind == 3) (is_number e.reply serial) q)
        at false q r = absurd (no_none call r)

    two_by : (call : StartCall) (x : (serial : ℕ) × (s.phase ≡ awaits call serial) × (e.reply ≡ Some serial) × ((e.kind == 2 || e.kind == 3) ≡ true)) (b : Bool) → (e.kind == 2) ≡ b → (if b then goes_on s call e.body else ends_start s).phase ≡ over → Ended s e
    two_by call x true g h = record { call = call; serial = x.0; phase = x.1; reply = x.2; why = inl (eqb-true e.kind 2 g, goes_stop s call e.body h) }
    two_by call x false g h = record { call = call; serial = x.0; phase = x.1; reply = x.2; why = inr (kind_by e.kind x.3 g) }

    by : (o : Option StartCall) → awaited s.phase e ≡ o → (app_takes s e).phase ≡ over → (s.phase ≡ over) ⊎ Ended s e
    by None g = rw g (λ h. inl (sym (other_phase s e s.name) ∙ h))
    by (Some call) g = rw g (λ h. inr (two_by call (waiting s.phase call refl g) (e.kind == 2) refl h))

-- HOW MANY AddMatch CALLS it sent: one, once its Hello was returned
abbrev pub phase_adds : Phase → ℕ
phase_adds new = 0
phase_adds (awaits hello n) = 0
phase_adds (awaits call n) = 1
phase_adds over = 1

adds_append : (n : ℕ) (ms more : List Envelope) → adds_among n (ms ++ more) ≡ adds_among n ms + adds_among n more
adds_append n [] more = omega arith
adds_append n (m ∷ ms) more = by (nat_lt m.serial n && is_add m) (adds_append n ms more)
  where
    by : (b : Bool) → adds_among n (ms ++ more) ≡ adds_among n ms + adds_among n more → counted b (adds_among n (ms ++ more)) ≡ counted b (adds_among n ms) + adds_among n more
    by true h = omega (arith, h)
    by false h = h

said_one : (a : ℕ) (e : Envelope) (hs : List Happening) → messages (map (did a) (sends e ∷ hs)) (App a) ≡ e ∷ messages (map (did a) hs) (App a)
said_one a e hs = ap (λ b. cons_option (if b then Some e else None) (messages (map (did a) hs) (App a))) (party-same (App a))

no_add : (n : ℕ) (e : Envelope) → (e.kind ≡ 1 → ⊥) → (nat_lt e.serial n && is_add e) ≡ false
no_add n e other = by (nat_lt e.serial n) (e.kind == 1) refl
  where
    by : (a b : Bool) → (e.kind == 1) ≡ b → (a && (b && is_text e.member (codes "AddMatch"))) ≡ false
    by true true g = absurd (other (eqb-true e.kind 1 g))
    by true false g = refl
    by false b g = refl

no_call_adds : (n a : ℕ) (hs : List Happening) → NoCall hs → adds_among n (messages (map (did a) hs) (App a)) ≡ 0
no_call_adds n a [] c = refl
no_call_adds n a (steps step ∷ hs) c = no_call_adds n a hs c
no_call_adds n a (sends e ∷ hs) c = ap (adds_among n) (said_one a e hs) ∙ ap (λ b. counted b (adds_among n (messages (map (did a) hs) (App a)))) (no_add n e c.0) ∙ no_call_adds n a hs c.1
no_call_adds n a (hears_of listener pattern ∷ hs) c = no_call_adds n a hs c
no_call_adds n a (deaf listener pattern ∷ hs) c = no_call_adds n a hs c

asks_adds : (n a : ℕ) (hs : List Happening) (e : Envelope) → IsOfListeners hs → adds_among n (messages (map (did a) (hs ++ sends e ∷ [])) (App a)) ≡ counted (nat_lt e.serial n && is_add e) 0
asks_adds n a [] e c = ap (adds_among n) (said_one a e [])
asks_adds n a (hears_of listener pattern ∷ hs) e c = asks_adds n a hs e c
asks_adds n a (deaf listener pattern ∷ hs) e c = asks_adds n a hs e c
asks_adds n a (steps step ∷ hs) e c = absurd c
asks_adds n a (sends m ∷ hs) e c = absurd c

at_most_one : (b : Bool) → counted b 0 ≤ 1
at_most_one true = omega arith
at_most_one false = omega arith

and_false : (b : Bool) → (b && false) ≡ false
and_false true = refl
and_false false = refl

-- THE REPLY to its call of Embed, as the registry sent it
pub record IsBack (es : List Entry) (a n : ℕ) (m : Envelope) : Type 0 where
  pub replies : is_reply m ≡ true
  pub number : m.reply ≡ Some n
  pub caller : List ℕ
  pub to : m.destination ≡ Some caller
  pub name : NameIs es (App a) caller

pub record HasEmbedded (es : List Entry) (a : ℕ) : Type 0 where
  pub call : Embeds es a
  pub back : HasOne (IsBack es a call.serial) (messages es Registry)

-- A CALL OF EMBED names who sends it
abbrev pub NamesItself : List Entry → ℕ → Envelope → Type 0
NamesItself es a m = (name : List ℕ) → m ≡ record (start_call name embed) { serial = m.serial } → name_told es (App a) ≡ Some name

pub no_embed_names : (es : List Entry) (a : ℕ) (name : List ℕ) (call : StartCall) (n : ℕ) → is_text (start_call name call).member (codes "Embed") ≡ false → NamesItself es a (record (start_call name call) { serial = n })
no_embed_names es a name call n other = λ its is. absurd (false_true (sym other ∙ ap (λ (m : Envelope). is_text m.member (codes "Embed")) is))

no_call_names : (es : List Entry) (a : ℕ) (hs : List Happening) → NoCall hs → AllByRecursion (NamesItself es a) (messages (map (did a) hs) (App a))
no_call_names es a [] c = tt
no_call_names es a (steps step ∷ hs) c = no_call_names es a hs c
no_call_names es a (sends e ∷ hs) c = subst (AllByRecursion (NamesItself es a)) (sym (said_one a e hs)) ((λ name is. absurd (c.0 (ap (λ (m : Envelope). m.kind) is))), no_call_names es a hs c.1)
no_call_names es a (hears_of listener pattern ∷ hs) c = no_call_names es a hs c
no_call_names es a (deaf listener pattern ∷ hs) c = no_call_names es a hs c

asks_names : (es : List Entry) (a : ℕ) (hs : List Happening) (e : Envelope) → IsOfListeners hs → NamesItself es a e → AllByRecursion (NamesItself es a) (messages (map (did a) (hs ++ sends e ∷ [])) (App a))
asks_names es a [] e c own = subst (AllByRecursion (NamesItself es a)) (sym (said_one a e [])) (own, tt)
asks_names es a (hears_of listener pattern ∷ hs) e c own = asks_names es a hs e c own
asks_names es a (deaf listener pattern ∷ hs) e c own = asks_names es a hs e c own
asks_names es a (steps step ∷ hs) e c own = absurd c
asks_names es a (sends m ∷ hs) e c own = absurd c

more_names : (es ys : List Entry) (a : ℕ) → AllByRecursion (NamesItself es a) (messages es (App a)) → AllByRecursion (NamesItself (es ++ ys) a) (messages ys (App a)) → AllByRecursion (NamesItself (es ++ ys) a) (messages (es ++ ys) (App a))
more_names es ys a old fresh =
    subst (AllByRecursion (NamesItself (es ++ ys) a)) (sym (messages_more es ys (App a)))
    (all_append (NamesItself (es ++ ys) a) (messages es (App a)) (messages ys (App a)) (all_map (NamesItself es a) (NamesItself (es ++ ys) a) (messages es (App a)) (λ m f name is. told_more es ys (App a) name (f name is)) old) fresh)

abbrev named_in : Envelope → List ℕ
named_in m = (reference_in m.body).0

names_taken : (es ys : List Entry) (a : ℕ) (s : Exporter) (e : Envelope) (t : Exporter) → messages ys (App a) ≡ messages (map (did a) t.out) (App a) → IsSelf es a s → Course s e t → AllByRecursion (NamesItself (es ++ ys) a) (messages ys (App a))
names_taken es ys a s e t wrote self c = subst (AllByRecursion (NamesItself (es ++ ys) a)) (sym wrote) (by c)
  where
    later : List Entry
    later = es ++ ys

    one : (call : StartCall) (x : Asks s t call) → NamesItself later a (record (start_call x.name call) { serial = x.serial }) → AllByRecursion (NamesItself later a) (messages (map (did a) t.out) (App a))
    one call x own = subst (λ l. AllByRecursion (NamesItself later a) (messages (map (did a) l) (App a))) (sym x.out) (asks_names later a x.front (record (start_call x.name call) { serial = x.serial }) x.quiet own)

    told : (o : Option (List ℕ)) → s.name ≡ o → is_some s.name ≡ true → name_told later (App a) ≡ Some (name_or_empty s.name)
    told None is h = absurd (false_true (sym (ap is_some is) ∙ h))
    told (Some name) is h = told_more es ys (App a) name (self.told name is) ∙ ap (λ o. Some (name_or_empty o)) (sym is)

    by : Course s e t → AllByRecursion (NamesItself later a) (messages (map (did a) t.out) (App a))
    by (stays phase name next quiet) = no_call_names later a t.out quiet
    by (stops phase name next quiet) = no_call_names later a t.out quiet
    by (meets serial at x) = one add_match x (no_embed_names later a x.name add_match x.serial refl)
    by (tunes serial at two reply name x) = one get_registered_events x (no_embed_names later a x.name get_registered_events x.serial refl)
    by (lists serial at two reply pairs body name x) =
        one embed x
        (λ its is.
        told s.name refl (subst (λ p. InStart p s.name) at self.start) ∙ ap (λ o. Some (name_or_empty o)) (sym name) ∙ ap Some (sym x.named) ∙ ap (λ (m : Envelope). Some (named_in m)) is)

-- WHAT IS KEPT of an application
pub record Begins (es : List Entry) (a : ℕ) (s : Exporter) : Type 0 where
  pub adds : (n : ℕ) → adds_among n (messages es (App a)) ≤ phase_adds s.phase
  pub names : AllByRecursion (NamesItself es a) (messages es (App a))
  pub embeds : s.phase ≡ over → HasEmbedded es a

embeds_more : (es ys : List Entry) (a : ℕ) → HasEmbedded es a → HasEmbedded (es ++ ys) a
embeds_more es ys a x =
    let i = x.call in
    record {
      call = record { call = i.call; serial = i.serial; was = found_more es ys (App a) i.serial i.call i.was; is_call = i.is_call; member = i.member };
      back =
          subst (HasOne (IsBack (es ++ ys) a i.serial)) (sym (messages_more es ys Registry))
          (one_front (IsBack (es ++ ys) a i.serial) (messages es Registry) (messages ys Registry)
          (one_map (IsBack es a i.serial) (IsBack (es ++ ys) a i.serial) (messages es Registry) (λ m b. record { replies = b.replies; number = b.number; caller = b.caller; to = b.to; name = name_more es ys (App a) b.caller b.name }) x.back));
    }

pub begins_more : (es ys : List Entry) (a : ℕ) (s : Exporter) → AllByRecursion (NotSaid (App a)) ys → Begins es a s → Begins (es ++ ys) a s
begins_more es ys a s n i = record {
  adds = λ k. subst (λ ms. adds_among k ms ≤ phase_adds s.phase) (sym (messages_more es ys (App a) ∙ ap (λ l. messages es (App a) ++ l) (none_said (App a) ys n) ∙ append-nil (messages es (App a)))) (i.adds k);
  names = more_names es ys a i.names (subst (AllByRecursion (NamesItself (es ++ ys) a)) (sym (none_said (App a) ys n)) tt);
  embeds = λ h. embeds_more es ys a (i.embeds h);
}

-- so many before, and so many now
more_adds : (es ys : List Entry) (a k p q c : ℕ) → adds_among k (messages es (App a)) ≤ p → adds_among k (messages ys (App a)) ≡ c → p + c ≤ q → adds_among k (messages (es ++ ys) (App a)) ≤ q
more_adds es ys a k p q c old now sum =
    subst (λ ms. adds_among k ms ≤ q) (sym (messages_more es ys (App a)))
    (let both = adds_append k (messages es (App a)) (messages ys (App a)) in omega (arith, both, old, now, sum))

phase_least : (p : Phase) → phase_adds p ≤ 1
phase_least new = omega arith
phase_least (awaits hello n) = omega arith
phase_least (awaits add_match n) = omega arith
phase_least (awaits get_registered_events n) = omega arith
phase_least (awaits embed n) = omega arith
phase_least over = omega arith

plus_zero : (n m : ℕ) → n ≤ m → n + 0 ≤ m
plus_zero n m h = omega (arith, h)

pub adds_taken : (es ys : List Entry) (a k : ℕ) (s : Exporter) (e : Envelope) (t : Exporter) → messages ys (App a) ≡ messages (map (did a) t.out) (App a) → Course s e t → adds_among k (messages es (App a)) ≤ phase_adds s.phase
    → adds_among k (messages (es ++ ys) (App a)) ≤ phase_adds t.phase
adds_taken es ys a k s e t wrote c old = by c
  where
    none : NoCall t.out → adds_among k (messages ys (App a)) ≡ 0
    none quiet = ap (adds_among k) wrote ∙ no_call_adds k a t.out quiet

    sent_ : (call : StartCall) (x : Asks s t call) → adds_among k (messages ys (App a)) ≡ counted (nat_lt x.serial k && is_add (start_call x.name call)) 0
    sent_ call x = ap (adds_among k) (wrote ∙ ap (λ l. messages (map (did a) l) (App a)) x.out) ∙ asks_adds k a x.front (record (start_call x.name call) { serial = x.serial }) x.quiet

    later : (call : StartCall) (x : Asks s t call) → (nat_lt x.serial k && is_add (start_call x.name call)) ≡ false → phase_adds t.phase ≡ 1 → adds_among k (messages (es ++ ys) (App a)) ≤ phase_adds t.phase
    later call x none_ one =
        more_adds es ys a k (phase_adds s.phase) (phase_adds t.phase) 0 old (sent_ call x ∙ ap (λ b. counted b 0) none_) (let p = phase_least s.phase in omega (arith, one, p))

    by : Course s e t → adds_among k (messages (es ++ ys) (App a)) ≤ phase_adds t.phase
    by (stays phase name next quiet) = more_adds es ys a k (phase_adds s.phase) (phase_adds t.phase) 0 old (none quiet) (let same = ap phase_adds phase in omega (arith, same))
    by (stops phase name next quiet) = more_adds es ys a k (phase_adds s.phase) (phase_adds t.phase) 0 old (none quiet) (let same = ap phase_adds phase in let p = phase_least s.phase in omega (arith, same, p))
    by (meets serial at x) =
        let least = at_most_one (nat_lt x.serial k && is_add (start_call x.name add_match)) in
        let zero_ = ap phase_adds at in
        let one = ap phase_adds x.phase in
        more_adds es ys a k (phase_adds s.phase) (phase_adds t.phase) (counted (nat_lt x.serial k && is_add (start_call x.name add_match)) 0) old (sent_ add_match x) (omega (arith, least, zero_, one))
    by (tunes serial at two reply name x) = later get_registered_events x (and_false (nat_lt x.serial k)) (ap phase_adds x.phase)
    by (lists serial at two reply pairs body name x) = later embed x (and_false (nat_lt x.serial k)) (ap phase_adds x.phase)

-- A REPLY OF AN END to a call of its own: not one to the bus
record OwnCall (es : List Entry) (a n : ℕ) : Type 0 where
  first : Envelope
  was : message es (App a) n ≡ Some first
  not_bus : first.destination ≡ Some own_name → ⊥

own_call : (es : List Entry) (a n : ℕ) (letter : Letter) → length (greeted es) ≤ 1000 → IsPost es (App a) letter → is_reply letter.said.message ≡ true → letter.said.message.reply ≡ Some n → OwnCall es a n
own_call es a n letter few p replies reply = by answer.called.known
  where
    is_it : letter.said.message ≡ record p.first.message { sender = Some p.caller }
    is_it = ap (λ (z : Said). z.message) p.alike

    answer : IsAnswer es letter.from p.first
    answer = p.speech.answers (ap is_reply (sym is_it) ∙ replies)

    goes : letter.said.message.destination ≡ Some answer.called.caller
    goes = ap (λ (m : Envelope). m.destination) is_it ∙ answer.to

    serial : answer.call.serial ≡ n
    serial = same_some answer.call.serial n (sym answer.with_ ∙ ap (λ (m : Envelope). m.reply) (sym is_it) ∙ reply)

    by : (answer.called.caller ≡ own_name) ⊎ IsCallOf es answer.called.from answer.called.caller answer.call → OwnCall es a n
    by (inl own) = absurd (false_true (sym p.not_bus ∙ for_bus_true letter.said.message (goes ∙ ap Some own)))
    by (inr c) =
        let mine : NameIs es (App a) answer.called.caller = p.routed answer.called.caller goes (unique_told es answer.called.from answer.called.caller c.name) in
        let who : answer.called.from ≡ App a = one_named es answer.called.from (App a) answer.called.caller few c.name mine in
        record {
          first = c.first;
          was = ap₂ (message es) (sym who) (sym serial) ∙ c.was;
          not_bus = λ h. false_true (sym c.not_bus ∙ for_bus_true answer.call (ap (λ (m : Envelope). m.destination) c.alike ∙ h));
        }

-- who replies to a call that went to the registry's name: the registry
replied_by : (es : List Entry) (who : Party) (letter : Letter) → length (greeted es) ≤ 1000 → IsPost es who letter → OfEnd es who letter → is_reply letter.said.message ≡ true → (n : ℕ) → letter.said.message.reply ≡ Some n
    → (first : Envelope) → message es who n ≡ Some first → first.destination ≡ Some registry → letter.from ≡ Registry
replied_by es who letter few p o replies n reply first found to = by r.known
  where
    r : RepliesTo es letter.from letter.said.message
    r = o.answers replies

    is_n : r.serial ≡ n
    is_n = same_some r.serial n (sym r.with_ ∙ reply)

    by : (r.caller ≡ own_name) ⊎ CallOf es letter.from r.caller r.serial → letter.from ≡ Registry
    by (inl own) = absurd (false_true (sym p.not_bus ∙ for_bus_true letter.said.message (r.to ∙ ap Some own)))
    by (inr c) =
        let name : NameIs es who r.caller = p.routed r.caller r.to (unique_told es c.from r.caller c.name) in
        let same : c.from ≡ who = one_named es c.from who r.caller few c.name name in
        let call : c.first ≡ first = same_some c.first first (sym c.was ∙ ap₂ (message es) same is_n ∙ found) in
        c.its (ap (λ (m : Envelope). m.destination) call ∙ to)

one_found : (P : Envelope → Type 0) (serial : ℕ) (ms : List Envelope) (m : Envelope) → with_serial serial ms ≡ Some m → P m → HasOne P ms
one_found P serial [] m h p = absurd (no_none m h)
one_found P serial (x ∷ xs) m h p = by (x.serial == serial) h (λ g. one_found P serial xs m g p)
  where
    by : (b : Bool) → (if b then Some x else with_serial serial xs) ≡ Some m → (with_serial serial xs ≡ Some m → HasOne P xs) → HasOne P (x ∷ xs)
    by true k f = inl (subst P (sym (same_some x m k)) p)
    by false k f = inr (f k)

pub with_found : (P : Envelope → Type 0) (serial : ℕ) (ms : List Envelope) (m : Envelope) → AllByRecursion P ms → with_serial serial ms ≡ Some m → P m
with_found P serial [] m a h = absurd (no_none m h)
with_found P serial (x ∷ xs) m a h = by (x.serial == serial) h (λ g. with_found P serial xs m a.1 g)
  where
    by : (b : Bool) → (if b then Some x else with_serial serial xs) ≡ Some m → (with_serial serial xs ≡ Some m → P m) → P m
    by true k f = subst P (same_some x m k) a.0
    by false k f = f k

-- WHAT THE REGISTRY'S REPLY to one's call is: its answer to just that call
pub record IsReplyTo (es : List Entry) (first m : Envelope) : Type 0 where
  pub caller : List ℕ
  pub state : RegistryState
  pub names : AreNamed state.pairs
  pub own : List ℕ
  pub kind : m.kind ≡ (reply_to caller first.serial (answer_to state own caller (asked (object_at first.path) first.interface first.member first.body)).reply).kind
  pub body : m.body ≡ (reply_to caller first.serial (answer_to state own caller (asked (object_at first.path) first.interface first.member first.body)).reply).body

pub registry_reply : (es : List Entry) (who : Party) (letter : Letter) → length (greeted es) ≤ 1000 → AllByRecursion (Answers es) (messages es Registry) → IsPost es who letter → letter.from ≡ Registry → is_reply letter.said.message ≡ true → (n : ℕ) → letter.said.message.reply ≡ Some n
    → (first : Envelope) → message es who n ≡ Some first → IsReplyTo es first letter.said.message
registry_reply es who letter few answers p from replies n reply first found = by i.called.known
  where
    is_it : letter.said.message ≡ record p.first.message { sender = Some p.caller }
    is_it = ap (λ (z : Said). z.message) p.alike

    i : IsAnswered es p.first.message
    i =
        with_found (Answers es) p.first.message.serial (messages es Registry) p.first.message answers (subst (λ q. message es q p.first.message.serial ≡ Some p.first.message) from p.sent_.was)
        (ap is_reply (sym is_it) ∙ replies)

    for : (caller : List ℕ) (serial : ℕ) (r : Reply) → ((reply_to caller serial r).destination ≡ Some caller) × ((reply_to caller serial r).reply ≡ Some serial)
    for caller serial (returns values) = (refl, refl)
    for caller serial (fails word) = (refl, refl)

    goes : letter.said.message.destination ≡ Some i.called.caller
    goes = ap (λ (m : Envelope). m.destination) is_it ∙ ap (λ (m : Envelope). m.destination) i.message ∙ (for i.called.caller i.call.serial (answer_to i.state i.own i.called.caller (asked (object_at i.call.path) i.call.interface i.call.member i.call.body)).reply).0

    serial : i.call.serial ≡ n
    serial =
        same_some i.call.serial n
        (sym (for i.called.caller i.call.serial (answer_to i.state i.own i.called.caller (asked (object_at i.call.path) i.call.interface i.call.member i.call.body)).reply).1 ∙ sym (ap (λ (m : Envelope). m.reply) i.message) ∙ ap (λ (m : Envelope). m.reply) (sym is_it) ∙ reply)

    by : (i.called.caller ≡ own_name) ⊎ IsCallOf es i.called.from i.called.caller i.call → IsReplyTo es first letter.said.message
    by (inl own) = absurd (false_true (sym p.not_bus ∙ for_bus_true letter.said.message (goes ∙ ap Some own)))
    by (inr c) =
        let mine : NameIs es who i.called.caller = p.routed i.called.caller goes (unique_told es i.called.from i.called.caller c.name) in
        let party : i.called.from ≡ who = one_named es i.called.from who i.called.caller few c.name mine in
        let same : c.first ≡ first = same_some c.first first (sym c.was ∙ ap₂ (message es) party serial ∙ found) in
        let call : i.call ≡ record first { sender = Some i.called.caller } = c.alike ∙ ap (λ (m : Envelope). record m { sender = Some i.called.caller }) same in
        record {
          caller = i.called.caller;
          state = i.state;
          names = i.names;
          own = i.own;
          kind = ap (λ (m : Envelope). m.kind) is_it ∙ ap (λ (m : Envelope). m.kind) i.message
              ∙ ap (λ (m : Envelope). (reply_to i.called.caller m.serial (answer_to i.state i.own i.called.caller (asked (object_at m.path) m.interface m.member m.body)).reply).kind) call;
          body = ap (λ (m : Envelope). m.body) is_it ∙ ap (λ (m : Envelope). m.body) i.message
              ∙ ap (λ (m : Envelope). (reply_to i.called.caller m.serial (answer_to i.state i.own i.called.caller (asked (object_at m.path) m.interface m.member m.body)).reply).body) call;
        }

-- the call for the list of pairs is returned, with the list
list_kind : (name : List ℕ) (n : ℕ) (caller own : List ℕ) (state : RegistryState)
    → let m : Envelope = record (start_call name get_registered_events) { serial = n } in
    answer_to state own caller (asked (object_at m.path) m.interface m.member m.body) ≡ only state (returns (pairs_data state.pairs ∷ []))
unfolding encode
list_kind name n caller own state = refl

-- WHERE A START ENDS, its last call was sent
match_member : (name : List ℕ) (n : ℕ) → member_of (record (start_call name add_match) { serial = n }) ≡ Ok AddMatch
unfolding encode
match_member name n = refl

list_not_bus : (name : List ℕ) (n : ℕ) → is_for_bus (record (start_call name get_registered_events) { serial = n }) ≡ false
list_not_bus name n = refl

embed_not_bus : (name : List ℕ) (n : ℕ) → is_for_bus (record (start_call name embed) { serial = n }) ≡ false
embed_not_bus name n = refl

no_registry : (a : ℕ) → App a ≡ Registry → ⊥
no_registry a h = false_true (ap (λ p. same_party p Registry) h)

named_is_read : (name : List ℕ) → is_unique_name name ≡ true → is_bus_name name ≡ true → unique_name_in (text_data name ∷ []) ≡ None → ⊥
named_is_read name u b none = by (is_unique_name name) (is_bus_name name) u b none
  where
    by : (x y : Bool) → x ≡ true → y ≡ true → (if x && y then Some name else None) ≡ None → ⊥
    by true true g h k = no_none name (sym k)
    by true false g h k = false_true h
    by false y g h k = false_true g

module _ (es : List Entry) (ends : List End) (a : ℕ) (s : Exporter) (l : Letter) (few : length (greeted es) ≤ 1000) (self : IsSelf es a s) (asked_ : IsAsked es a s.next s.phase) (mail : IsMail es (App a) l) (fits : Fits es (App a) l) (excused : Excused es ends (App a) l)
    (answers : AllByRecursion (Answers es) (messages es Registry)) (registry_here : IsAway ends 0 → ⊥) (i : Begins es a s) where
  abbrev m : Envelope
  m = l.said.message

  its_call : (call : StartCall) (n : ℕ) → s.phase ≡ awaits call n → (name : List ℕ) × (message es (App a) n ≡ Some (record (start_call name call) { serial = n }))
  its_call call n at = let x = subst (IsAsked es a s.next) at asked_ in (x.0, x.1)

  is_reply_by : (k : ℕ) → (k ≡ 2) ⊎ (k ≡ 3) → (k == 2 || k == 3) ≡ true
  is_reply_by k (inl h) = ap (λ z. z == 2 || z == 3) h
  is_reply_by k (inr h) = ap (λ z. z == 2 || z == 3) h

  -- no end replies to its calls to the bus
  no_post : (call : StartCall) (n : ℕ) → s.phase ≡ awaits call n → (start_call [] call).destination ≡ Some own_name → IsPost es (App a) l → is_reply m ≡ true → m.reply ≡ Some n → ⊥
  no_post call n at to p replies reply =
      let x = its_call call n at in
      let o : OwnCall es a n = own_call es a n l few p replies reply in
      let same : o.first ≡ record (start_call x.0 call) { serial = n } = same_some o.first (record (start_call x.0 call) { serial = n }) (sym o.was ∙ x.1) in
      o.not_bus (ap (λ (z : Envelope). z.destination) same ∙ for_all call x.0 to)
    where
      for_all : (call : StartCall) (name : List ℕ) → (start_call [] call).destination ≡ Some own_name → (start_call name call).destination ≡ Some own_name
      for_all hello name h = h
      for_all add_match name h = h
      for_all get_registered_events name h = h
      for_all embed name h = h

  error_of : (call : StartCall) (n : ℕ) → s.phase ≡ awaits call n → l.from ≡ The_bus → m.kind ≡ 3 → m.reply ≡ Some n → (name : List ℕ) × Reason es ends (App a) n (record (start_call name call) { serial = n })
  error_of call n at from three reply =
      let x = its_call call n at in
      let e : ErrorTo es ends (App a) n = excused (no_registry a) from three n reply in
      (x.0, subst (Reason es ends (App a) n) (same_some e.first (record (start_call x.0 call) { serial = n }) (sym e.was ∙ x.1)) e.why)

  no_hello : (n : ℕ) → s.phase ≡ awaits hello n → m.reply ≡ Some n → ((m.kind ≡ 2) × (unique_name_in m.body ≡ None)) ⊎ (m.kind ≡ 3) → ⊥
  no_hello n at reply why = by mail why
    where
      one : n ≡ 1
      one = subst (λ p. InStart p s.name) at self.start

      high : 2 ≤ n → ⊥
      high more = absurd (omega (arith, one, more))

      refused : (name : List ℕ) × Reason es ends (App a) n (record (start_call name hello) { serial = n }) → ⊥
      refused (name, inl x) = high x.1
      refused (name, inr x) = false_true (sym x.0 ∙ for_bus_true (record (start_call name hello) { serial = n }) refl)

      by : IsMail es (App a) l → ((m.kind ≡ 2) × (unique_name_in m.body ≡ None)) ⊎ (m.kind ≡ 3) → ⊥
      by (inl b) (inl x) =
          let g = b.greets x.0 (reply ∙ ap Some one) in
          named_is_read g.0 (unique_told es (App a) g.0 g.2) (name_is_bus_name es (App a) g.0 few g.2) (ap unique_name_in (sym g.1) ∙ x.1)
      by (inl b) (inr three) = refused (error_of hello n at b.from three reply)
      by (inr p) (inl x) = no_post hello n at refl p (is_reply_by m.kind (inl x.0)) reply
      by (inr p) (inr three) = no_post hello n at refl p (is_reply_by m.kind (inr three)) reply

  no_match : (n : ℕ) → s.phase ≡ awaits add_match n → m.reply ≡ Some n → m.kind ≡ 3 → ⊥
  no_match n at reply three = by mail
    where
      few_adds : adds_among n (messages es (App a)) ≤ 1
      few_adds = subst (λ p. adds_among n (messages es (App a)) ≤ phase_adds p) at (i.adds n)

      many : 512 ≤ adds_among n (messages es (App a)) → ⊥
      many more = absurd (omega (arith, few_adds, more))

      refused : (name : List ℕ) × Reason es ends (App a) n (record (start_call name add_match) { serial = n }) → ⊥
      refused (name, inl x) = many (x.2 registry_rule (match_member name n) registry_spelled)
      refused (name, inr x) = false_true (sym x.0 ∙ for_bus_true (record (start_call name add_match) { serial = n }) refl)

      by : IsMail es (App a) l → ⊥
      by (inl b) = refused (error_of add_match n at b.from three reply)
      by (inr p) = no_post add_match n at refl p (is_reply_by m.kind (inr three)) reply

  bus_apart : l.from ≡ The_bus → l.from ≡ Registry → ⊥
  bus_apart bus it = false_true (ap (λ p. same_party p Registry) (sym bus ∙ it))

  answer_is : (n : ℕ) → s.phase ≡ awaits get_registered_events n → IsPost es (App a) l → l.from ≡ Registry → is_reply m ≡ true → m.reply ≡ Some n → (m.kind ≡ 2) × ((pairs : List (List ℕ × List ℕ)) × (AreNamed pairs × (m.body ≡ pairs_data pairs ∷ [])))
  answer_is n at p from replies reply =
      let x = its_call get_registered_events n at in
      let r = registry_reply es (App a) l few answers p from replies n reply (record (start_call x.0 get_registered_events) { serial = n }) x.1 in
      let is = ap (λ (z : Answer). z.reply) (list_kind x.0 n r.caller r.own r.state) in (
        r.kind ∙ ap (λ z. (reply_to r.caller n z).kind) is,
        (r.state.pairs, (r.names, r.body ∙ ap (λ z. (reply_to r.caller n z).body) is)),
      )

  no_list : (n : ℕ) → s.phase ≡ awaits get_registered_events n → m.reply ≡ Some n → ((m.kind ≡ 2) × (pairs_in m.body ≡ None)) ⊎ (m.kind ≡ 3) → ⊥
  no_list n at reply why = by mail why
    where
      three_two : m.kind ≡ 3 → m.kind ≡ 2 → ⊥
      three_two h g = absurd (omega (arith, h, g))

      high : 2 ≤ n
      high = (subst (IsAsked es a s.next) at asked_).3 refl

      refused : (name : List ℕ) × Reason es ends (App a) n (record (start_call name get_registered_events) { serial = n }) → ⊥
      refused (name, inl x) = false_true (sym (list_not_bus name n) ∙ x.0)
      refused (name, inr x) = registry_here (x.1 refl)

      its_end : IsPost es (App a) l → Fits es (App a) l → OfEnd es (App a) l
      its_end p (inr o) = o
      its_end p (inl own) =
          absurd (false_true (sym (subst (λ z. is_text z own_name ≡ false) (sym p.sender) (not_the_bus p.caller (unique_told es l.from p.caller p.name))) ∙ own.0))

      by : IsMail es (App a) l → ((m.kind ≡ 2) × (pairs_in m.body ≡ None)) ⊎ (m.kind ≡ 3) → ⊥
      by (inl b) (inl x) =
          let y = its_call get_registered_events n at in
          bus_apart b.from (returned_by es (App a) l few mail fits x.0 n reply high (record (start_call y.0 get_registered_events) { serial = n }) y.1 refl)
      by (inl b) (inr three) = refused (error_of get_registered_events n at b.from three reply)
      by (inr p) (inl x) =
          let y = its_call get_registered_events n at in
          let from : l.from ≡ Registry = returned_by es (App a) l few mail fits x.0 n reply high (record (start_call y.0 get_registered_events) { serial = n }) y.1 refl in
          let z = answer_is n at p from (is_reply_by m.kind (inl x.0)) reply in
          no_none z.1.0 (sym x.1 ∙ ap pairs_in z.1.1.1 ∙ pairs_told.list z.1.0 z.1.1.0)
      by (inr p) (inr three) =
          let y = its_call get_registered_events n at in
          let from : l.from ≡ Registry =
          replied_by es (App a) l few p (its_end p fits) (is_reply_by m.kind (inr three)) n reply (record (start_call y.0 get_registered_events) { serial = n }) y.1 refl in
          three_two three (answer_is n at p from (is_reply_by m.kind (inr three)) reply).0

  -- its call of Embed is replied to by the registry
  embed_back : (n : ℕ) → s.phase ≡ awaits embed n → m.reply ≡ Some n → (m.kind ≡ 2) ⊎ (m.kind ≡ 3) → HasOne (IsBack es a n) (messages es Registry)
  embed_back n at reply why = by mail why
    where
      y : (name : List ℕ) × (message es (App a) n ≡ Some (record (start_call name embed) { serial = n }))
      y = its_call embed n at

      high : 2 ≤ n
      high = (subst (IsAsked es a s.next) at asked_).3 refl

      refused : (name : List ℕ) × Reason es ends (App a) n (record (start_call name embed) { serial = n }) → ⊥
      refused (name, inl x) = false_true (sym (embed_not_bus name n) ∙ x.0)
      refused (name, inr x) = registry_here (x.1 refl)

      its_end : IsPost es (App a) l → Fits es (App a) l → OfEnd es (App a) l
      its_end p (inr o) = o
      its_end p (inl own) =
          absurd (false_true (sym (subst (λ z. is_text z own_name ≡ false) (sym p.sender) (not_the_bus p.caller (unique_told es l.from p.caller p.name))) ∙ own.0))

      post : IsPost es (App a) l → is_reply m ≡ true → HasOne (IsBack es a n) (messages es Registry)
      post p replies = by_called answer.called.known
        where
          from : l.from ≡ Registry
          from = replied_by es (App a) l few p (its_end p fits) replies n reply (record (start_call y.0 embed) { serial = n }) y.1 refl

          is_it : m ≡ record p.first.message { sender = Some p.caller }
          is_it = ap (λ (z : Said). z.message) p.alike

          answer : IsAnswer es l.from p.first
          answer = p.speech.answers (ap is_reply (sym is_it) ∙ replies)

          goes : m.destination ≡ Some answer.called.caller
          goes = ap (λ (x : Envelope). x.destination) is_it ∙ answer.to

          by_called : (answer.called.caller ≡ own_name) ⊎ IsCallOf es answer.called.from answer.called.caller answer.call → HasOne (IsBack es a n) (messages es Registry)
          by_called (inl own) = absurd (false_true (sym p.not_bus ∙ for_bus_true m (goes ∙ ap Some own)))
          by_called (inr c) =
              one_found (IsBack es a n) p.first.message.serial (messages es Registry) p.first.message (ap (λ q. message es q p.first.message.serial) (sym from) ∙ p.sent_.was)
              (record {
                replies = ap is_reply (sym is_it) ∙ replies;
                number = ap (λ (x : Envelope). x.reply) (sym is_it) ∙ reply;
                caller = answer.called.caller;
                to = answer.to;
                name = p.routed answer.called.caller goes (unique_told es answer.called.from answer.called.caller c.name);
              })

      by : IsMail es (App a) l → (m.kind ≡ 2) ⊎ (m.kind ≡ 3) → HasOne (IsBack es a n) (messages es Registry)
      by (inl b) (inl two) = absurd (bus_apart b.from (returned_by es (App a) l few mail fits two n reply high (record (start_call y.0 embed) { serial = n }) y.1 refl))
      by (inl b) (inr three) = absurd (refused (error_of embed n at b.from three reply))
      by (inr p) k = post p (is_reply_by m.kind k)

  ended_embeds : Ended s m → HasEmbedded es a
  ended_embeds x = by x.call refl
    where
      kind_of : ((m.kind ≡ 2) × Stopped x.call m.body) ⊎ (m.kind ≡ 3) → (m.kind ≡ 2) ⊎ (m.kind ≡ 3)
      kind_of (inl two) = inl two.0
      kind_of (inr three) = inr three

      by : (call : StartCall) → x.call ≡ call → HasEmbedded es a
      by hello is = absurd (no_hello x.serial (x.phase ∙ ap (λ c. awaits c x.serial) is) x.reply (subst (λ c. ((m.kind ≡ 2) × Stopped c m.body) ⊎ (m.kind ≡ 3)) is x.why))
      by add_match is = absurd (three (subst (λ c. ((m.kind ≡ 2) × Stopped c m.body) ⊎ (m.kind ≡ 3)) is x.why))
        where
          three : ((m.kind ≡ 2) × ⊥) ⊎ (m.kind ≡ 3) → ⊥
          three (inl y) = y.1
          three (inr y) = no_match x.serial (x.phase ∙ ap (λ c. awaits c x.serial) is) x.reply y
      by get_registered_events is = absurd (no_list x.serial (x.phase ∙ ap (λ c. awaits c x.serial) is) x.reply (subst (λ c. ((m.kind ≡ 2) × Stopped c m.body) ⊎ (m.kind ≡ 3)) is x.why))
      by embed is =
          let y = its_call embed x.serial (x.phase ∙ ap (λ c. awaits c x.serial) is) in
          record {
            call = record { call = record (start_call y.0 embed) { serial = x.serial }; serial = x.serial; was = y.1; is_call = refl; member = refl };
            back = embed_back x.serial (x.phase ∙ ap (λ c. awaits c x.serial) is) x.reply (kind_of x.why);
          }

  -- it takes the message
  pub begins_taken : (ys : List Entry) → messages ys (App a) ≡ messages (map (did a) (app_takes s m).out) (App a) → s.out ≡ [] → Begins (es ++ ys) a (record (app_takes s m) { out = [] })
  begins_taken ys wrote empty = record {
    adds = λ k. adds_taken es ys a k s m (app_takes s m) wrote (course s m empty) (i.adds k);
    names = more_names es ys a i.names (names_taken es ys a s m (app_takes s m) wrote self (course s m empty));
    embeds = λ h. embeds_more es ys a (by (over_by s m h));
  }
    where
      by : (s.phase ≡ over) ⊎ Ended s m → HasEmbedded es a
      by (inl h) = i.embeds h
      by (inr x) = ended_embeds x

pub begins_edited : (es ys : List Entry) (a : ℕ) (s t : Exporter) → messages ys (App a) ≡ messages (map (did a) t.out) (App a) → Edited s t → Begins es a s → Begins (es ++ ys) a (record t { out = [] })
begins_edited es ys a s t wrote d i = record {
  adds = λ k. more_adds es ys a k (phase_adds s.phase) (phase_adds t.phase) 0 (i.adds k) (ap (adds_among k) wrote ∙ no_call_adds k a t.out d.quiet) (let same = ap phase_adds d.phase in omega (arith, same));
  names = more_names es ys a i.names (subst (AllByRecursion (NamesItself (es ++ ys) a)) (sym wrote) (no_call_names (es ++ ys) a t.out d.quiet));
  embeds = λ h. embeds_more es ys a (i.embeds (sym d.phase ∙ h));
}
