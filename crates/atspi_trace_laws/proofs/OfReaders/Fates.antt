-- What became of a reader's own calls is what the trace tells, as long as the registry lives.
use Rattle.std.proofs.Common.{◌≡◌, ◌⊎◌, inl, inr, ℕ, zero, suc, ◌+◌, ◌≤◌, Bool, true, false, List, [], ◌∷◌, ◌++◌, length, map, Option, None, Some, refl, sym, ap, ap₂, ◌∙◌, subst, arith}
use Rattle.std.specs.Prelude.{◌==◌, ◌||◌, ◌&&◌, not, filter_map, if◌then◌else◌}
use Rattle.std.specs.List.{AllByRecursion, cons_option, list_any}
use Rattle.std.proofs.lemmas.List.{append-nil}
use lib.Utf8.{encode}
use Rattle.atspi_script_lines.specs.declared.limits.TheConstants.{QUOTA_MOST}
use Rattle.atspi_script_lines.specs.declared.line.Party.{Party}
use Rattle.atspi_script_lines.specs.declared.line.Party.TheVariants.{Bus as The_bus, Reader}
use Rattle.atspi_message.specs.Envelope.{Envelope}
use Rattle.atspi_match.specs.routing.Routing.{is_reply}
use Rattle.atspi_protocol.specs.registering.Steps.{RegistryStep, registry_takes}
use Rattle.atspi_protocol.specs.exporting.Exporter.{Exporter}
use Rattle.atspi_protocol.specs.exporting.Taking.{app_takes}
use Rattle.atspi_protocol.specs.following.Calls.{asking, user_call}
use Rattle.atspi_protocol.specs.following.Replied.{is_reply_to}
use Rattle.atspi_protocol.specs.declared.following.question.Question.{Question}
use Rattle.atspi_protocol.specs.declared.following.question.Question.TheVariants.{Hello}
use Rattle.atspi_trace.specs.Entry.{Entry, started, sent, got}
use Rattle.atspi_trace.specs.World.{Fate, waits, returned, failed, Asked, Role, the_registry, an_application, a_reader, Hearer, Letter, first_registry, first_world, End, World}
use Rattle.atspi_trace.specs.Ends.{same_party, is_reader, number_of, end_at, with_end, put_down, taken_up, taken_down, stops, leaves, reader_count}
use Rattle.atspi_trace.specs.Carrying.{own_letter, letter_of, named}
use Rattle.atspi_trace.specs.Hearing.{fate_of, answered_by, question_in, hears_letter, heard_entries}
use Rattle.atspi_trace.specs.Causes.{Done, at_end, has_done, asks, reader_sends, first_hearer, registry_did, reader_starts}
use Rattle.atspi_trace.specs.Due.{asks_as, asks_at}
use Rattle.atspi_trace_laws.specs.laws.Words.{messages, message, with_serial, taken_as, taken, is_returned}
use Rattle.atspi_trace_laws.proofs.OfOrder.Parties.{no_none, same_some, false_true, party-same, all_append}
use Rattle.atspi_trace_laws.proofs.OfOrder.Allowed.{MovedUp, MovedDown, Asks}
use Rattle.atspi_trace_laws.proofs.OfOrder.Frame.{Over, over_same, over_both, over_with, takes_over, ends_over, joined_cases, with_cases}
use Rattle.atspi_trace_laws.proofs.OfOrder.Shape.{Shape}
use Rattle.atspi_trace_laws.proofs.OfOrder.Effects.{received, ReaderCalls, ReaderTakes, Effect, resets, app_joins, reader_joins, app_edited, app_took, reader_called, swapped, exited_, showed_, told_busy, told_quiet, bus_took, bus_ended, registry_took, reader_took}
use Rattle.atspi_trace_laws.proofs.OfOrder.Shaped.{received_at, new_app, new_reader, app_joined}
use Rattle.atspi_trace_laws.proofs.OfOrder.Along.{Keeps}
use Rattle.atspi_trace_laws.proofs.OfOrder.Growing.{Grows, Shaped, And, grown}
use Rattle.atspi_trace_laws.proofs.OfOrder.Each.{all_map}
use Rattle.atspi_trace_laws.proofs.OfSerials.Serial.{messages_more}
use Rattle.atspi_trace_laws.proofs.OfSerials.Speaking.{next_of}
use Rattle.atspi_trace_laws.proofs.OfSerials.Numbers.{Numbered}
use Rattle.atspi_trace_laws.proofs.OfTaken.Found.{found_more, found_here}
use Rattle.atspi_trace_laws.proofs.OfTaken.Said as told
use Rattle.atspi_trace_laws.proofs.OfTaken.LawTaken.{Known, not_sent_at}
use Rattle.atspi_trace_laws.proofs.OfHeld.LawHeld.{SameReader, same_reader, Below_held, Holds, holds_keep}
use Rattle.atspi_trace_laws.proofs.OfOwn.Writing.{Lives, lived}
use Rattle.atspi_trace_laws.proofs.OfReaders.BusSaid.{OwnIs}
use Rattle.atspi_trace_laws.proofs.OfReaders.TellsBus.{Speaks_true, Below_told, told_keeps}

-- WHAT A PARTY TOOK
or_true : (a b : Bool) → b ≡ true → (a || b) ≡ true
or_true true b h = refl
or_true false b h = h

cons_any : (p : Envelope → Bool) (o u : Option Envelope) (xs ys : List Envelope) → ((m : Envelope) → o ≡ Some m → u ≡ Some m) → (list_any p xs ≡ true → list_any p ys ≡ true)
    → list_any p (cons_option o xs) ≡ true → list_any p (cons_option u ys) ≡ true
cons_any p (Some m) u xs ys f g h = subst (λ o. list_any p (cons_option o ys) ≡ true) (sym (f m refl)) (by (p m) h)
  where
    by : (b : Bool) → (b || list_any p xs) ≡ true → (b || list_any p ys) ≡ true
    by true k = refl
    by false k = g k
cons_any p None None xs ys f g h = g h
cons_any p None (Some m) xs ys f g h = or_true (p m) (list_any p ys) (g h)

taken_front : (p : Envelope → Bool) (T ys : List Entry) (who : Party) (zs xs : List Entry) → list_any p (filter_map (taken_as T who) zs) ≡ true → list_any p (filter_map (taken_as (T ++ ys) who) (zs ++ xs)) ≡ true
taken_front p T ys who [] xs h = absurd (false_true h)
taken_front p T ys who (z ∷ zs) xs h = cons_any p (taken_as T who z) (taken_as (T ++ ys) who z) (filter_map (taken_as T who) zs) (filter_map (taken_as (T ++ ys) who) (zs ++ xs)) (same z) (taken_front p T ys who zs xs) h
  where
    same : (z : Entry) (m : Envelope) → taken_as T who z ≡ Some m → taken_as (T ++ ys) who z ≡ Some m
    same (got taker from serial) m g = by (same_party taker who) g
      where
        by : (b : Bool) → (if b then message T from serial else None) ≡ Some m → (if b then message (T ++ ys) from serial else None) ≡ Some m
        by true k = found_more T ys from serial m k
        by false k = absurd (no_none m k)
    same z m g = absurd (no_none m g)

any_taken_more : (p : Envelope → Bool) (es ys : List Entry) (who : Party) → list_any p (taken es who) ≡ true → list_any p (taken (es ++ ys) who) ≡ true
any_taken_more p es ys who h = taken_front p es ys who es ys h

any_here : (p : Envelope → Bool) (f : Entry → Option Envelope) (xs : List Entry) (x : Entry) (ys : List Entry) (m : Envelope) → f x ≡ Some m → p m ≡ true → list_any p (filter_map f (xs ++ x ∷ ys)) ≡ true
any_here p f [] x ys m is h = subst (λ o. list_any p (cons_option o (filter_map f ys)) ≡ true) (sym is) (ap (λ b. b || list_any p (filter_map f ys)) h)
any_here p f (z ∷ zs) x ys m is h = by (f z) (any_here p f zs x ys m is h)
  where
    by : (o : Option Envelope) → list_any p (filter_map f (zs ++ x ∷ ys)) ≡ true → list_any p (cons_option o (filter_map f (zs ++ x ∷ ys))) ≡ true
    by None k = k
    by (Some n) k = or_true (p n) (list_any p (filter_map f (zs ++ x ∷ ys))) k

-- a message that is taken now
any_now : (p : Envelope → Bool) (es : List Entry) (r : ℕ) (from : Party) (serial : ℕ) (rest : List Entry) (m : Envelope) → message es from serial ≡ Some m → p m ≡ true
    → list_any p (taken (es ++ got (Reader r) from serial ∷ rest) (Reader r)) ≡ true
any_now p es r from serial rest m was h =
    any_here p (taken_as (es ++ got (Reader r) from serial ∷ rest) (Reader r)) es (got (Reader r) from serial) rest m
    (ap (λ b. if b then message (es ++ got (Reader r) from serial ∷ rest) from serial else None) (party-same (Reader r)) ∙ found_more es (got (Reader r) from serial ∷ rest) from serial m was) h

-- FATES
abbrev pub fails_to : ℕ → Envelope → Bool
fails_to serial e = (is_reply e && is_reply_to serial e.reply) && not (e.kind == 2)

abbrev pub FateOf : List Entry → ℕ → ℕ → Fate → Type 0
FateOf es r serial waits = Unit {0}
FateOf es r serial returned = is_returned es r serial ≡ true
FateOf es r serial failed = list_any (fails_to serial) (taken es (Reader r)) ≡ true

pub record FateIs (es : List Entry) (r : ℕ) (a : Asked) : Type 0 where
  pub first : Envelope
  pub was : message es (Reader r) a.serial ≡ Some first
  pub read : question_in first ≡ Some a.question
  pub fate : FateOf es r a.serial a.fate

fate_more : (es ys : List Entry) (r serial : ℕ) (f : Fate) → FateOf es r serial f → FateOf (es ++ ys) r serial f
fate_more es ys r serial waits h = tt
fate_more es ys r serial returned h = any_taken_more (λ (e : Envelope). e.kind == 2 && is_reply_to serial e.reply) es ys (Reader r) h
fate_more es ys r serial failed h = any_taken_more (fails_to serial) es ys (Reader r) h

is_more : (es ys : List Entry) (r : ℕ) (a : Asked) → FateIs es r a → FateIs (es ++ ys) r a
is_more es ys r a i = record { first = i.first; was = found_more es ys (Reader r) a.serial i.first i.was; read = i.read; fate = fate_more es ys r a.serial a.fate i.fate }

abbrev pub FatesAre : List Entry → ℕ → Hearer → Type 0
FatesAre es r h = AllByRecursion (FateIs es r) h.asked

fates_more : (es ys : List Entry) (r : ℕ) (h : Hearer) → FatesAre es r h → FatesAre (es ++ ys) r h
fates_more es ys r h a = all_map (FateIs es r) (FateIs (es ++ ys) r) h.asked (is_more es ys r) a

-- THE STATE
abbrev pub Fated : List Entry → World → Type 0
Fated es w = Lives es → (k r : ℕ) (e : End) (h : Hearer) → end_at w.ends k ≡ Some e → e.who ≡ Reader r → e.role ≡ a_reader h → FatesAre es r h

-- no reader acts
same_fated : (es ys : List Entry) (w v : World) → Fated es w → Over SameReader w.ends v.ends → Fated (es ++ ys) v
same_fated es ys w v i o live k r e h there who role =
    let x = o.back k e there in
    fates_more es ys r h (i (lived es ys live) k r x.0 h x.1 (sym x.2.whose ∙ who) (x.2.role h role))

abbrev hearer_in : Role → Hearer → Hearer
hearer_in (a_reader h) g = h
hearer_in role g = g

same_hearer : (h g : Hearer) → a_reader h ≡ a_reader g → h ≡ g
same_hearer h g e = ap (λ r. hearer_in r h) e

-- one acts
one_fated : (es ys : List Entry) (w v : World) (conn r : ℕ) (e : End) (g : Hearer) (base : List End) (f : End → End) → Fated es w → Over SameReader w.ends base → end_at base conn ≡ Some e → e.who ≡ Reader r
    → v.ends ≡ with_end conn f base → (f e).who ≡ e.who → (f e).role ≡ a_reader g → (Lives es → FatesAre (es ++ ys) r g) → Fated (es ++ ys) v
one_fated es ys w v conn r e g base f i o there is ends whose_ role_ now live k q x h at who role = by (with_cases f base conn k x (ap (λ l. end_at l k) (sym ends) ∙ at))
  where
    by : ((y : End) × (end_at base k ≡ Some y) × (((k ≡ conn) × (x ≡ f y)) ⊎ ((k ≡ conn → ⊥) × (x ≡ y)))) → FatesAre (es ++ ys) q h
    by y = one y.2
      where
        one : (((k ≡ conn) × (x ≡ f y.0)) ⊎ ((k ≡ conn → ⊥) × (x ≡ y.0))) → FatesAre (es ++ ys) q h
        one (inl c) =
            let same : y.0 ≡ e = same_some y.0 e (sym y.1 ∙ ap (end_at base) c.0 ∙ there) in
            let is_f : x ≡ f e = c.1 ∙ ap f same in
            let number : r ≡ q = ap number_of (sym is ∙ sym whose_ ∙ ap (λ (t : End). t.who) (sym is_f) ∙ who) in
            let state : g ≡ h = same_hearer g h (sym role_ ∙ ap (λ (t : End). t.role) (sym is_f) ∙ role) in
            subst (λ n. FatesAre (es ++ ys) n h) number (subst (FatesAre (es ++ ys) r) state (now (lived es ys live)))
        one (inr c) =
            let u = o.back k y.0 y.1 in
            fates_more es ys q h
            (i (lived es ys live) k q u.0 h u.1 (sym u.2.whose ∙ ap (λ (t : End). t.who) (sym c.1) ∙ who) (u.2.role h (ap (λ (t : End). t.role) (sym c.1) ∙ role)))

alike : (e d : End) → d.who ≡ e.who → d.role ≡ e.role → SameReader e d
alike e d who role = record { whose = who; role = λ h g. sym role ∙ g }

abbrev is_reader_role : Role → Bool
is_reader_role (a_reader h) = true
is_reader_role role = false

no_reader : (role : Role) (h : Hearer) → is_reader_role role ≡ false → role ≡ a_reader h → ⊥
no_reader role h none is = false_true (sym none ∙ ap is_reader_role is)

app_same : (s t : Exporter) (x : End) → SameReader x (has_done s t x)
app_same s t x = record { whose = refl; role = λ h g. absurd (no_reader (an_application (record t { out = [] })) h refl g) }

registry_same : (step : RegistryStep) (x : End) → SameReader x (registry_did step x)
registry_same step x = record { whose = refl; role = λ h g. absurd (no_reader (the_registry step.state) h refl g) }

module _ (es : List Entry) (w : World) (d : Done) (i : Fated es w) where
  by_over : Over SameReader w.ends d.world.ends → Fated (es ++ d.entries) d.world
  by_over o = same_fated es d.entries w d.world i o

  by_end : (f : End → End) (conn : ℕ) → ((e : End) → SameReader e (f e)) → d.world.ends ≡ with_end conn f w.ends → Fated (es ++ d.entries) d.world
  by_end f conn same is = by_over (subst (Over SameReader w.ends) (sym is) (over_with SameReader same_reader f same conn w.ends))

  by_both : (f : End → End) (conn : ℕ) → ((e : End) → SameReader e (f e)) → d.world.ends ≡ with_end conn f (with_end conn taken_down w.ends) → Fated (es ++ d.entries) d.world
  by_both f conn same is =
      by_over
      (subst (Over SameReader w.ends) (sym is)
      (over_both SameReader same_reader w.ends (with_end conn taken_down w.ends) (with_end conn f (with_end conn taken_down w.ends)) (over_with SameReader same_reader taken_down (λ x. alike x (taken_down x) refl refl) conn w.ends)
      (over_with SameReader same_reader f same conn (with_end conn taken_down w.ends))))

  by_same : d.world.ends ≡ w.ends → Fated (es ++ d.entries) d.world
  by_same is = by_over (subst (Over SameReader w.ends) (sym is) (over_same SameReader same_reader w.ends))

  by_join : (n : End) → d.world.ends ≡ w.ends ++ n ∷ [] → ((r : ℕ) (h : Hearer) → n.who ≡ Reader r → n.role ≡ a_reader h → FatesAre (es ++ d.entries) r h) → Fated (es ++ d.entries) d.world
  by_join n is new live k r e h there who role = by (joined_cases w.ends n k e (ap (λ l. end_at l k) (sym is) ∙ there))
    where
      by : ((end_at w.ends k ≡ Some e) ⊎ ((k ≡ length w.ends) × (e ≡ n))) → FatesAre (es ++ d.entries) r h
      by (inl g) = fates_more es d.entries r h (i (lived es d.entries live) k r e h g who role)
      by (inr g) = new r h (ap (λ (x : End). x.who) (sym g.1) ∙ who) (ap (λ (x : End). x.role) (sym g.1) ∙ role)

-- A READER STARTS
pub hello_read : question_in (asking 1 Hello) ≡ Some Hello
unfolding encode
hello_read = refl

joins_fated : (es : List Entry) (w : World) (d : Done) → Numbered es w → Fated es w → d ≡ reader_starts w → Fated (es ++ d.entries) d.world
joins_fated es w d m i is = by_join es w d i (new_reader w) (ap (λ x. x.world.ends) is) new
  where
    n : ℕ
    n = reader_count w.ends

    ys : List Entry
    ys = started (Reader n) None ∷ (sent (Reader n) (asking 1 Hello) ∷ [])

    least : (k : ℕ) → k ≤ k
    least k = omega arith

    all : messages (es ++ ys) (Reader n) ≡ asking 1 Hello ∷ []
    all =
        messages_more es ys (Reader n) ∙ ap (λ l. l ++ messages ys (Reader n)) (m.2 (Reader n) (least n))
        ∙ ap (λ b. cons_option (if b then Some (asking 1 Hello) else None) []) (party-same (Reader n))

    mine : FatesAre (es ++ ys) n (asks Hello first_hearer)
    mine = (record { first = asking 1 Hello; was = ap (with_serial 1) all; read = hello_read; fate = tt }, tt)

    new : (r : ℕ) (h : Hearer) → (new_reader w).who ≡ Reader r → (new_reader w).role ≡ a_reader h → FatesAre (es ++ d.entries) r h
    new r h who role =
        subst (λ l. FatesAre (es ++ l) r h) (sym (ap (λ x. x.entries) is))
        (subst (λ k. FatesAre (es ++ ys) k h) (ap number_of who) (subst (FatesAre (es ++ ys) n) (same_hearer (asks Hello first_hearer) h role) mine))

-- A READER CALLS
calls_fated : (es : List Entry) (w : World) (d : Done) → Fated es w → ReaderCalls w d → Fated (es ++ d.entries) d.world
calls_fated es w d i b =
    let m : Envelope = user_call b.hearer.next b.name b.node b.deed in
    let g : Hearer = record b.hearer { next = suc b.hearer.next } in
    one_fated es d.entries w d.world b.conn b.reader b.e g w.ends (reader_sends g m) i (over_same SameReader same_reader w.ends) b.is_here.there b.whose (ap (λ x. x.world.ends) b.is) refl refl
    (λ live. fates_more es d.entries b.reader b.hearer (i live b.conn b.reader b.e b.hearer b.is_here.there b.whose b.role))

asked_fated : (es : List Entry) (w : World) (conn r : ℕ) (m : Envelope) (question : Question) → Shape w → Numbered es w → Fated es w → Asks w conn r m question
    → Fated (es ++ sent (Reader r) m ∷ []) (at_end w conn (asks_at m question))
asked_fated es w conn r m question s n i a =
    let v : World = at_end w conn (asks_at m question) in
    let g : Hearer = asks question a.hearer in
    let is_f : asks_at m question a.asker ≡ reader_sends g m a.asker = ap (λ x. asks_as x m question a.asker) a.reader in
    let serial : m.serial ≡ a.hearer.next = ap (λ (e : Envelope). e.serial) a.spelled in
    one_fated es (sent (Reader r) m ∷ []) w v conn r a.asker g w.ends (asks_at m question) i (over_same SameReader same_reader w.ends) a.is_here.there a.whose refl
    (ap (λ (x : End). x.who) is_f) (ap (λ (x : End). x.role) is_f)
    (λ live.
    all_append (FateIs (es ++ sent (Reader r) m ∷ []) r) a.hearer.asked (record { serial = a.hearer.next; question = question; fate = waits } ∷ [])
    (fates_more es (sent (Reader r) m ∷ []) r a.hearer (i live conn r a.asker a.hearer a.is_here.there a.whose a.reader)) (
      record {
        first = m;
        was = ap (message (es ++ sent (Reader r) m ∷ []) (Reader r)) (sym serial)
            ∙ found_here es [] (Reader r) m (not_sent_at es w conn a.asker (Reader r) a.hearer.next s n a.is_here.there a.whose (ap next_of a.reader) m.serial (at_least m.serial a.hearer.next serial));
        read = a.read;
        fate = tt;
      },
      tt,
    ))
  where
    at_least : (x y : ℕ) → x ≡ y → y ≤ x
    at_least x y h = omega (arith, h)

-- A READER TAKES A MESSAGE
-- the message that it is
pub record Stood (es : List Entry) (letter : Letter) : Type 0 where
  pub first : Envelope
  pub was : message es letter.from letter.said.message.serial ≡ Some first
  pub kind : first.kind ≡ letter.said.message.kind
  pub reply : first.reply ≡ letter.said.message.reply

stood_of : (es : List Entry) (letter : Letter) → told.Comes es letter → OwnIs (messages es The_bus) letter → Stood es letter
stood_of es letter (inl bus) own = record {
  first = letter.said.message;
  was = ap (λ p. message es p letter.said.message.serial) bus ∙ own bus;
  kind = refl;
  reply = refl;
}
stood_of es letter (inr is) own = record {
  first = is.first;
  was = is.was;
  kind = ap (λ (e : Envelope). e.kind) (sym is.alike);
  reply = ap (λ (e : Envelope). e.reply) (sym is.alike);
}

answered_fate : (es rest : List Entry) (r : ℕ) (letter : Letter) (a : Asked) → Stood es letter → FateIs es r a
    → FateIs (es ++ got (Reader r) letter.from letter.said.message.serial ∷ rest) r (answered_by letter.said.message a)
answered_fate es rest r letter a t i = by (is_reply m && is_reply_to a.serial m.reply) refl
  where
    m : Envelope
    m = letter.said.message

    ys : List Entry
    ys = got (Reader r) letter.from m.serial ∷ rest

    and_right : (b c : Bool) → (b && c) ≡ true → c ≡ true
    and_right true c h = h
    and_right false c h = absurd (false_true h)

    replies : is_reply_to a.serial m.reply ≡ true → is_reply_to a.serial t.first.reply ≡ true
    replies h = ap (is_reply_to a.serial) t.reply ∙ h

    returned_now : (m.kind == 2) ≡ true → is_reply_to a.serial m.reply ≡ true → is_returned (es ++ ys) r a.serial ≡ true
    returned_now two to =
        any_now (λ (e : Envelope). e.kind == 2 && is_reply_to a.serial e.reply) es r letter.from m.serial rest t.first t.was
        (ap₂ (λ b c. b && c) (ap (λ k. k == 2) t.kind ∙ two) (replies to))

    failed_now : (m.kind == 2) ≡ false → is_reply m ≡ true → is_reply_to a.serial m.reply ≡ true → FateOf (es ++ ys) r a.serial failed
    failed_now other reply to =
        any_now (fails_to a.serial) es r letter.from m.serial rest t.first t.was
        (ap₂ (λ b c. b && c) (ap₂ (λ b c. b && c) (ap (λ k. k == 2 || k == 3) t.kind ∙ reply) (replies to)) (ap (λ k. not (k == 2)) t.kind ∙ ap not other))

    fate_now : (b : Bool) → (m.kind == 2) ≡ b → is_reply m ≡ true → is_reply_to a.serial m.reply ≡ true → FateOf (es ++ ys) r a.serial (if b then returned else failed)
    fate_now true g reply to = returned_now g to
    fate_now false g reply to = failed_now g reply to

    and_left : (b c : Bool) → (b && c) ≡ true → b ≡ true
    and_left true c h = refl
    and_left false c h = absurd (false_true h)

    by : (b : Bool) → (is_reply m && is_reply_to a.serial m.reply) ≡ b → FateIs (es ++ ys) r (if b then record a { fate = fate_of m } else a)
    by true g = record {
      first = i.first;
      was = found_more es ys (Reader r) a.serial i.first i.was;
      read = i.read;
      fate = fate_now (m.kind == 2) refl (and_left (is_reply m) (is_reply_to a.serial m.reply) g) (and_right (is_reply m) (is_reply_to a.serial m.reply) g);
    }
    by false g = is_more es ys r a i

all_answered : (es rest : List Entry) (r : ℕ) (letter : Letter) (xs : List Asked) → Stood es letter → AllByRecursion (FateIs es r) xs
    → AllByRecursion (FateIs (es ++ got (Reader r) letter.from letter.said.message.serial ∷ rest) r) (map (answered_by letter.said.message) xs)
all_answered es rest r letter [] t a = tt
all_answered es rest r letter (x ∷ xs) t a = (answered_fate es rest r letter x t a.0, all_answered es rest r letter xs t a.1)

takes_fated : (es : List Entry) (w : World) (d : Done) → Known es w → Speaks_true es w → Fated es w → ReaderTakes w d → Fated (es ++ d.entries) d.world
takes_fated es w d kn told_ i b =
    let v : World = received w b.conn b.e b.letter in
    let g : Hearer = hears_letter b.hearer v.ends b.letter in
    let number : number_of b.e.who ≡ b.reader = ap number_of b.whose in
    let rest : List Entry = heard_entries b.reader b.hearer v.ends b.letter in
    let wrote : d.entries ≡ got (Reader b.reader) b.letter.from b.letter.said.message.serial ∷ rest =
    ap (λ x. x.entries) b.is ∙ ap₂ (λ p n. got p b.letter.from b.letter.said.message.serial ∷ heard_entries n b.hearer v.ends b.letter) b.whose number in
    let comes : told.Comes es b.letter = (subst (AllByRecursion (told.Comes es)) b.link (kn b.conn b.e b.is_here.there).1).0 in
    subst (λ l. Fated (es ++ l) d.world) (sym wrote)
    (one_fated es (got (Reader b.reader) b.letter.from b.letter.said.message.serial ∷ rest) w d.world b.conn b.reader (taken_down b.e) g v.ends (λ x. record x { role = a_reader g }) i
    (over_with SameReader same_reader taken_down (λ x. alike x (taken_down x) refl refl) b.conn w.ends) (received_at w b.conn b.e b.letter b.is_here.there) b.whose (ap (λ x. x.world.ends) b.is) refl refl
    (λ live.
    let own : OwnIs (messages es The_bus) b.letter = (subst (AllByRecursion (OwnIs (messages es The_bus))) b.link ((told_ live).links b.conn b.e b.is_here.there)).0 in
    all_answered es rest b.reader b.letter b.hearer.asked (stood_of es b.letter comes own) (i live b.conn b.reader b.e b.hearer b.is_here.there b.whose b.role)))

-- AT THE BEGINNING
no_reader_first : (quota k r : ℕ) (x : End) → end_at (first_world quota).ends k ≡ Some x → x.who ≡ Reader r → ⊥
no_reader_first quota zero r x h who = false_true (ap is_reader (ap (λ (y : End). y.who) (same_some first_registry x h) ∙ who))
no_reader_first quota (suc k) r x h who = no_none x h

-- EACH CAUSE
caused : (es : List Entry) (w : World) (d : Done) → Numbered es w → Known es w → Speaks_true es w → Fated es w → Effect w d → Fated (es ++ d.entries) d.world
caused es w d m kn t i (resets quota few is) = subst (λ x. Fated (es ++ x.entries) x.world) (sym is) (λ live k r e h there who role. absurd (no_reader_first quota k r e there who))
caused es w d m kn t i (app_joins name short is) =
    by_join es w d i (new_app w name) (ap (λ x. x.world.ends) is ∙ app_joined w name) (λ r h who role. absurd (false_true (ap is_reader who)))
caused es w d m kn t i (reader_joins few is) = joins_fated es w d m i is
caused es w d m kn t i (app_edited b) = by_end es w d i (has_done b.before b.after) b.conn (app_same b.before b.after) (ap (λ x. x.world.ends) b.is)
caused es w d m kn t i (app_took b) =
    by_both es w d i (has_done b.before (app_takes b.before b.letter.said.message)) b.conn (app_same b.before (app_takes b.before b.letter.said.message)) (ap (λ x. x.world.ends) b.is)
caused es w d m kn t i (reader_called b) = calls_fated es w d i b
caused es w d m kn t i (swapped b) = by_same es w d i (ap (λ x. x.world.ends) b.is)
caused es w d m kn t i (exited_ b) = by_end es w d i stops b.conn (λ x. alike x (stops x) refl refl) (ap (λ x. x.world.ends) b.is)
caused es w d m kn t i (showed_ b) = by_same es w d i (ap (λ x. x.world.ends) b.is)
caused es w d m kn t i (told_busy turns is) = by_same es w d i (ap (λ x. x.world.ends) is)
caused es w d m kn t i (told_quiet none is) = by_same es w d i (ap (λ x. x.world.ends) is)
caused es w d m kn t i (bus_took b) =
    by_over es w d i
    (subst (λ x. Over SameReader w.ends x.world.ends) (sym b.is)
    (takes_over SameReader same_reader (λ m e. alike e (put_down (own_letter m) e) refl refl) (λ e. alike e (leaves e) refl refl) (λ q conn e. alike e (named q conn e) refl refl) (λ e. alike e (taken_up e) refl refl)
    (record { bus = w.bus; ends = w.ends }) b.conn b.e.who b.said (λ m e. alike e (put_down (letter_of b.e.who b.said m) e) refl refl)))
caused es w d m kn t i (bus_ended b) =
    by_over es w d i
    (subst (λ x. Over SameReader w.ends x.world.ends) (sym b.is)
    (ends_over SameReader same_reader (λ m e. alike e (put_down (own_letter m) e) refl refl) (λ e. alike e (leaves e) refl refl) (record { bus = w.bus; ends = w.ends }) b.conn))
caused es w d m kn t i (registry_took b) =
    by_both es w d i (registry_did (registry_takes b.before b.letter.said.message)) b.conn (registry_same (registry_takes b.before b.letter.said.message)) (ap (λ x. x.world.ends) b.is)
caused es w d m kn t i (reader_took b) = takes_fated es w d kn t i b

-- TWO CHAINS AT ONCE
pub both_keep : (A B : List Entry → World → Type 0) → Keeps (Shaped A) → Keeps (Shaped B) → Keeps (Shaped (And A B))
both_keep A B k l = record {
  begins = (k.begins.0, (k.begins.1, l.begins.1));
  caused = λ es w c i a. let x = k.caused es w c (i.0, i.1.0) a in (x.0, (x.1, (l.caused es w c (i.0, i.1.1) a).1));
  moved = λ es w v i m. let x = k.moved es w v (i.0, i.1.0) m in (x.0, (x.1, (l.moved es w v (i.0, i.1.1) m).1));
  passed = λ es w free i. i;
  asked = λ es w conn r m question i a. let x = k.asked es w conn r m question (i.0, i.1.0) a in (x.0, (x.1, (l.asked es w conn r m question (i.0, i.1.1) a).1));
}

abbrev pub Holding_told : List Entry → World → Type 0
Holding_told es w = And (And Below_held Holds) (And Below_told Speaks_true) es w

fated_grows : Grows Holding_told Fated
fated_grows = record {
  begins = λ live k r e h there who role. absurd (no_reader_first QUOTA_MOST k r e there who);
  caused = λ es w d s a i e after b. caused es w d a.0.0.0.0.0.1 a.0.0.1.1 a.1.1 i e;
  moved = λ es w v s a i m. by es w v i m;
  asked = λ es w conn r m question s a i asks. asked_fated es w conn r m question s a.0.0.0.0.0.1 i asks;
}
  where
    by : (es : List Entry) (w v : World) → Fated es w → (MovedUp w v ⊎ MovedDown w v) → Fated es v
    by es w v i (inl m) =
        subst (λ l. Fated l v) (append-nil es) (same_fated es [] w v i
        (subst (λ (x : World). Over SameReader w.ends x.ends) (sym m.after) (over_with SameReader same_reader (λ e. record e { up_moved = e.up_moved + m.count }) (λ e. alike e (record e { up_moved = e.up_moved + m.count }) refl refl) m.conn w.ends)))
    by es w v i (inr m) =
        subst (λ l. Fated l v) (append-nil es) (same_fated es [] w v i
        (subst (λ (x : World). Over SameReader w.ends x.ends) (sym m.after) (over_with SameReader same_reader (λ e. record e { down_moved = e.down_moved + m.count }) (λ e. alike e (record e { down_moved = e.down_moved + m.count }) refl refl) m.conn w.ends)))

pub fated_keeps : Keeps (Shaped (And Holding_told Fated))
fated_keeps = grown Holding_told Fated (both_keep (And Below_held Holds) (And Below_told Speaks_true) holds_keep told_keeps) fated_grows
