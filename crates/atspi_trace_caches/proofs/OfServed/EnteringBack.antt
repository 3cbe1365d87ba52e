-- Where a reader's call for a pattern was returned, the registry returned it, in a message that the bus took, along a lawful trace.
use Rattle.std.proofs.Common.{◌≡◌, ◌⊎◌, inl, inr, ℕ, zero, suc, ◌+◌, ◌≤◌, ◌<◌, Bool, true, false, List, [], ◌∷◌, ◌++◌, length, map, Option, None, Some, refl, sym, ap, ◌∙◌, subst, arith}
use Rattle.std.specs.Prelude.{◌==◌, ◌||◌, ◌&&◌, if◌then◌else◌}
use Rattle.std.specs.List.{AllByRecursion}
use Rattle.std.proofs.lemmas.Bool.{eqb-true}
use Rattle.std.proofs.lemmas.List.{append-nil}
use Rattle.atspi_script_lines.specs.declared.limits.TheConstants.{QUOTA_MOST}
use Rattle.atspi_script_lines.specs.declared.line.Party.TheVariants.{Bus as The_bus, Registry, Reader}
use Rattle.atspi_message.specs.Envelope.{Envelope}
use Rattle.atspi_names.specs.Owners.{own_name}
use Rattle.atspi_match.specs.routing.Routing.{is_reply}
use Rattle.atspi_protocol.specs.registering.Steps.{RegistryStep, registry_takes}
use Rattle.atspi_protocol.specs.exporting.Exporter.{Exporter}
use Rattle.atspi_protocol.specs.exporting.Taking.{app_takes}
use Rattle.atspi_protocol.specs.following.Calls.{asking, user_call}
use Rattle.atspi_protocol.specs.following.Replied.{is_reply_to}
use Rattle.atspi_protocol.specs.declared.following.question.Question.{Question}
use Rattle.atspi_protocol.specs.declared.following.question.Question.TheVariants.{Hello, RegisterEvent}
use Rattle.atspi_trace.specs.Entry.{Entry, sent}
use Rattle.atspi_trace.specs.World.{Fate, waits, returned, failed, Asked, Role, the_registry, an_application, a_reader, Hearer, Said, End, World, first_registry, first_world}
use Rattle.atspi_trace.specs.Ends.{same_party, is_reader, number_of, end_at, with_end, put_down, taken_up, taken_down, stops, leaves}
use Rattle.atspi_trace.specs.Carrying.{own_letter, letter_of, named}
use Rattle.atspi_trace.specs.Hearing.{fate_of, answered_by, question_in, hears_letter}
use Rattle.atspi_trace.specs.Causes.{Done, at_end, has_done, asks, reader_sends, first_hearer, registry_did, reader_starts}
use Rattle.atspi_trace.specs.Due.{asks_as, asks_at}
use Rattle.atspi_trace_laws.specs.laws.Words.{message}
use Rattle.atspi_trace_laws.proofs.OfOrder.Parties.{no_none, same_some, false_true, all_append}
use Rattle.atspi_trace_laws.proofs.OfOrder.Allowed.{MovedUp, MovedDown, Asks}
use Rattle.atspi_trace_laws.proofs.OfOrder.Frame.{Over, over_same, over_both, over_with, takes_over, ends_over, joined_cases, with_cases}
use Rattle.atspi_trace_laws.proofs.OfOrder.Effects.{received, ReaderCalls, ReaderTakes, Effect, resets, app_joins, reader_joins, app_edited, app_took, reader_called, swapped, exited_, showed_, told_busy, told_quiet, bus_took, bus_ended, registry_took, reader_took}
use Rattle.atspi_trace_laws.proofs.OfOrder.Shaped.{received_at, new_app, new_reader, app_joined}
use Rattle.atspi_trace_laws.proofs.OfOrder.Along.{Keeps}
use Rattle.atspi_trace_laws.proofs.OfOrder.Growing.{Grows, Shaped, And, grown}
use Rattle.atspi_trace_laws.proofs.OfOrder.Each.{all_map}
use Rattle.atspi_trace_laws.proofs.OfLinks.LawLinks.{first_unread}
use Rattle.atspi_trace_laws.proofs.OfTaken.Found.{found_more}
use Rattle.atspi_trace_laws.proofs.OfTurns.Turning.{Turns, unread_more}
use Rattle.atspi_trace_laws.proofs.OfTurns.LawTurns.{Turned}
use Rattle.atspi_trace_laws.proofs.OfHeld.LawHeld.{SameReader, same_reader}
use Rattle.atspi_trace_laws.proofs.OfOwn.Writing.{Lives, lived}
use Rattle.atspi_trace_laws.proofs.OfReaders.Fates.{FateIs, Fated, both_keep, hello_read}
use Rattle.atspi_trace_laws.proofs.OfNames.Places.{greeted}
use Rattle.atspi_trace_laws.proofs.OfNames.LawEnds.{few_greeted}
use Rattle.atspi_trace_laws.proofs.OfSigned.Mail.{NameIs, name_more, IsCallOf, IsAnswer, IsMail}
use Rattle.atspi_trace_laws.proofs.OfSigned.Self.{unique_told, for_bus_true}
use Rattle.atspi_trace_laws.proofs.OfSigned.LawMail.{Mail}
use Rattle.atspi_trace_laws.proofs.OfMissed.Ruled.{Ruled, RulesOf}
use Rattle.atspi_trace_laws.proofs.OfMissed.Delivering.{Delivers}
use Rattle.atspi_trace_laws.proofs.OfMissed.LawMissed.{Under_delivered, delivers_keep}
use Rattle.atspi_trace_caches.proofs.OfServed.Returned.{Fits, Rightly, Under_rightly, rightly_keeps, returned_by}
use Rattle.atspi_trace_caches.proofs.OfServed.Spelling.{Spelled, call_of}
use Rattle.atspi_trace_caches.proofs.OfServed.EnteringTold.{Under_returned, ReturnsTold, returned_keep}

-- THE RETURN to a reader's call with this number
pub record Back (es : List Entry) (r n : ℕ) : Type 0 where
  pub m : Envelope
  pub was : message es Registry m.serial ≡ Some m
  pub two : m.kind ≡ 2
  pub reply : m.reply ≡ Some n
  pub caller : List ℕ
  pub to : m.destination ≡ Some caller
  pub name : NameIs es (Reader r) caller
  pub taken : m.serial < first_unread es Registry

abbrev pub IsBack : List Entry → ℕ → Asked → Type 0
IsBack es r a = (pattern : List ℕ) → a.question ≡ RegisterEvent pattern → a.fate ≡ returned → Back es r a.serial

abbrev pub Backs : List Entry → World → Type 0
Backs es w = Lives es → (k r : ℕ) (e : End) (h : Hearer) → end_at w.ends k ≡ Some e → e.who ≡ Reader r → e.role ≡ a_reader h → AllByRecursion (IsBack es r) h.asked

back_more : (es ys : List Entry) (r n : ℕ) → Back es r n → Back (es ++ ys) r n
back_more es ys r n b =
    let more = unread_more es ys Registry in
    let below : b.m.serial < first_unread es Registry = b.taken in
    record { m = b.m; was = found_more es ys Registry b.m.serial b.m b.was; two = b.two; reply = b.reply; caller = b.caller; to = b.to; name = name_more es ys (Reader r) b.caller b.name; taken = omega (arith, more, below) }

is_more : (es ys : List Entry) (r : ℕ) (a : Asked) → IsBack es r a → IsBack (es ++ ys) r a
is_more es ys r a f pattern q fate = back_more es ys r a.serial (f pattern q fate)

all_more : (es ys : List Entry) (r : ℕ) (xs : List Asked) → AllByRecursion (IsBack es r) xs → AllByRecursion (IsBack (es ++ ys) r) xs
all_more es ys r xs a = all_map (IsBack es r) (IsBack (es ++ ys) r) xs (is_more es ys r) a

-- NO READER ACTS
same_backs : (es ys : List Entry) (w v : World) → Backs es w → Over SameReader w.ends v.ends → Backs (es ++ ys) v
same_backs es ys w v i o live k r e h there who role =
    let x = o.back k e there in
    all_more es ys r h.asked (i (lived es ys live) k r x.0 h x.1 (sym x.2.whose ∙ who) (x.2.role h role))

abbrev hearer_in : Role → Hearer → Hearer
hearer_in (a_reader h) g = h
hearer_in role g = g

same_hearer : (h g : Hearer) → a_reader h ≡ a_reader g → h ≡ g
same_hearer h g e = ap (λ r. hearer_in r h) e

-- one acts
one_backs : (es ys : List Entry) (w v : World) (conn r : ℕ) (e : End) (g : Hearer) (base : List End) (f : End → End) → Backs es w → Over SameReader w.ends base → end_at base conn ≡ Some e → e.who ≡ Reader r
    → v.ends ≡ with_end conn f base → (f e).who ≡ e.who → (f e).role ≡ a_reader g → (Lives es → AllByRecursion (IsBack (es ++ ys) r) g.asked) → Backs (es ++ ys) v
one_backs es ys w v conn r e g base f i o there is ends whose_ role_ now live k q x h at who role = by (with_cases f base conn k x (ap (λ l. end_at l k) (sym ends) ∙ at))
  where
    by : ((y : End) × (end_at base k ≡ Some y) × (((k ≡ conn) × (x ≡ f y)) ⊎ ((k ≡ conn → ⊥) × (x ≡ y)))) → AllByRecursion (IsBack (es ++ ys) q) h.asked
    by y = one y.2
      where
        one : (((k ≡ conn) × (x ≡ f y.0)) ⊎ ((k ≡ conn → ⊥) × (x ≡ y.0))) → AllByRecursion (IsBack (es ++ ys) q) h.asked
        one (inl c) =
            let same : y.0 ≡ e = same_some y.0 e (sym y.1 ∙ ap (end_at base) c.0 ∙ there) in
            let is_f : x ≡ f e = c.1 ∙ ap f same in
            let number : r ≡ q = ap number_of (sym is ∙ sym whose_ ∙ ap (λ (t : End). t.who) (sym is_f) ∙ who) in
            let state : g ≡ h = same_hearer g h (sym role_ ∙ ap (λ (t : End). t.role) (sym is_f) ∙ role) in
            subst (λ n. AllByRecursion (IsBack (es ++ ys) n) h.asked) number (subst (λ (z : Hearer). AllByRecursion (IsBack (es ++ ys) r) z.asked) state (now (lived es ys live)))
        one (inr c) =
            let u = o.back k y.0 y.1 in
            all_more es ys q h.asked
            (i (lived es ys live) k q u.0 h u.1 (sym u.2.whose ∙ ap (λ (t : End). t.who) (sym c.1) ∙ who) (u.2.role h (ap (λ (t : End). t.role) (sym c.1) ∙ role)))

alike : (e d : End) → d.who ≡ e.who → d.role ≡ e.role → SameReader e d
alike e d who role = record { whose = who; role = λ h g. sym role ∙ g }

abbrev is_reader_role : Role → Bool
is_reader_role (a_reader h) = true
is_reader_role role = false

no_reader : (role : Role) (h : Hearer) → is_reader_role role ≡ false → role ≡ a_reader h → ⊥
no_reader role h none is = false_true (sym none ∙ ap is_reader_role is)

app_same : (s t : Exporter) (x : End) → SameReader x (has_done s t x)
app_same s t x = record { whose = refl; role = λ h g. absurd (no_reader (an_application (record t { out = [] })) h refl g) }

registry_same : (step : RegistryStep) (x : End) → SameReader x (registry_did step x)
registry_same step x = record { whose = refl; role = λ h g. absurd (no_reader (the_registry step.state) h refl g) }

module _ (es : List Entry) (w : World) (d : Done) (i : Backs es w) where
  by_over : Over SameReader w.ends d.world.ends → Backs (es ++ d.entries) d.world
  by_over o = same_backs es d.entries w d.world i o

  by_end : (f : End → End) (conn : ℕ) → ((e : End) → SameReader e (f e)) → d.world.ends ≡ with_end conn f w.ends → Backs (es ++ d.entries) d.world
  by_end f conn same is = by_over (subst (Over SameReader w.ends) (sym is) (over_with SameReader same_reader f same conn w.ends))

  by_both : (f : End → End) (conn : ℕ) → ((e : End) → SameReader e (f e)) → d.world.ends ≡ with_end conn f (with_end conn taken_down w.ends) → Backs (es ++ d.entries) d.world
  by_both f conn same is =
      by_over
      (subst (Over SameReader w.ends) (sym is)
      (over_both SameReader same_reader w.ends (with_end conn taken_down w.ends) (with_end conn f (with_end conn taken_down w.ends)) (over_with SameReader same_reader taken_down (λ x. alike x (taken_down x) refl refl) conn w.ends)
      (over_with SameReader same_reader f same conn (with_end conn taken_down w.ends))))

  by_same : d.world.ends ≡ w.ends → Backs (es ++ d.entries) d.world
  by_same is = by_over (subst (Over SameReader w.ends) (sym is) (over_same SameReader same_reader w.ends))

  by_join : (n : End) → d.world.ends ≡ w.ends ++ n ∷ [] → ((r : ℕ) (h : Hearer) → n.who ≡ Reader r → n.role ≡ a_reader h → AllByRecursion (IsBack (es ++ d.entries) r) h.asked) → Backs (es ++ d.entries) d.world
  by_join n is new live k r e h there who role = by (joined_cases w.ends n k e (ap (λ l. end_at l k) (sym is) ∙ there))
    where
      by : ((end_at w.ends k ≡ Some e) ⊎ ((k ≡ length w.ends) × (e ≡ n))) → AllByRecursion (IsBack (es ++ d.entries) r) h.asked
      by (inl g) = all_more es d.entries r h.asked (i (lived es d.entries live) k r e h g who role)
      by (inr g) = new r h (ap (λ (x : End). x.who) (sym g.1) ∙ who) (ap (λ (x : End). x.role) (sym g.1) ∙ role)

-- what it asks now is not returned yet
abbrev is_waiting : Fate → Bool
is_waiting waits = true
is_waiting fate = false

not_yet : waits ≡ returned → ⊥
not_yet h = false_true (sym (ap is_waiting h))

waits_back : (es : List Entry) (r serial : ℕ) (question : Question) → IsBack es r (record { serial = serial; question = question; fate = waits })
waits_back es r serial question pattern q fate = absurd (not_yet fate)

joins_backs : (es : List Entry) (w : World) (d : Done) → Backs es w → d ≡ reader_starts w → Backs (es ++ d.entries) d.world
joins_backs es w d i is = by_join es w d i (new_reader w) (ap (λ x. x.world.ends) is) new
  where
    new : (r : ℕ) (h : Hearer) → (new_reader w).who ≡ Reader r → (new_reader w).role ≡ a_reader h → AllByRecursion (IsBack (es ++ d.entries) r) h.asked
    new r h who role = subst (λ (z : Hearer). AllByRecursion (IsBack (es ++ d.entries) r) z.asked) (same_hearer (asks Hello first_hearer) h role) (waits_back (es ++ d.entries) r 1 Hello, tt)

calls_backs : (es : List Entry) (w : World) (d : Done) → Backs es w → ReaderCalls w d → Backs (es ++ d.entries) d.world
calls_backs es w d i b =
    let m : Envelope = user_call b.hearer.next b.name b.node b.deed in
    let g : Hearer = record b.hearer { next = suc b.hearer.next } in
    one_backs es d.entries w d.world b.conn b.reader b.e g w.ends (reader_sends g m) i (over_same SameReader same_reader w.ends) b.is_here.there b.whose (ap (λ x. x.world.ends) b.is) refl refl
    (λ live. all_more es d.entries b.reader b.hearer.asked (i live b.conn b.reader b.e b.hearer b.is_here.there b.whose b.role))

asked_backs : (es : List Entry) (w : World) (conn r : ℕ) (m : Envelope) (question : Question) → Backs es w → Asks w conn r m question → Backs (es ++ sent (Reader r) m ∷ []) (at_end w conn (asks_at m question))
asked_backs es w conn r m question i a =
    let v : World = at_end w conn (asks_at m question) in
    let g : Hearer = asks question a.hearer in
    let is_f : asks_at m question a.asker ≡ reader_sends g m a.asker = ap (λ x. asks_as x m question a.asker) a.reader in
    one_backs es (sent (Reader r) m ∷ []) w v conn r a.asker g w.ends (asks_at m question) i (over_same SameReader same_reader w.ends) a.is_here.there a.whose refl
    (ap (λ (x : End). x.who) is_f) (ap (λ (x : End). x.role) is_f)
    (λ live.
    all_append (IsBack (es ++ sent (Reader r) m ∷ []) r) a.hearer.asked (record { serial = a.hearer.next; question = question; fate = waits } ∷ [])
    (all_more es (sent (Reader r) m ∷ []) r a.hearer.asked (i live conn r a.asker a.hearer a.is_here.there a.whose a.reader)) (waits_back (es ++ sent (Reader r) m ∷ []) r a.hearer.next question, tt))

-- A READER TAKES A MESSAGE
and_left : (a b : Bool) → (a && b) ≡ true → a ≡ true
and_left true b h = refl
and_left false b h = absurd (false_true h)

and_right : (a b : Bool) → (a && b) ≡ true → b ≡ true
and_right true b h = h
and_right false b h = absurd (false_true h)

reply_is : (serial : ℕ) (o : Option ℕ) → is_reply_to serial o ≡ true → o ≡ Some serial
reply_is serial None h = absurd (false_true h)
reply_is serial (Some n) h = ap Some (eqb-true n serial h)

abbrev is_returned_fate : Fate → Bool
is_returned_fate returned = true
is_returned_fate fate = false

returned_two : (b : Bool) → (if b then returned else failed) ≡ returned → b ≡ true
returned_two true h = refl
returned_two false h = absurd (false_true (ap is_returned_fate h))

abbrev is_hello_ : Option Question → Bool
is_hello_ (Some Hello) = true
is_hello_ o = false

no_registry_bus : Registry ≡ The_bus → ⊥
no_registry_bus h = false_true (ap (λ p. same_party p The_bus) h)

module _ (es : List Entry) (w : World) (d : Done) (few : length (greeted es) ≤ 1000) (mail : Mail es w) (turned : Turned es w) (fated : Fated es w) (ruled : Ruled es w) (rightly : Rightly es w) (spelled : Spelled es w) (b : ReaderTakes w d) (live : Lives es) where
  abbrev m0 : Envelope
  m0 = b.letter.said.message

  its_mail : IsMail es (Reader b.reader) b.letter
  its_mail = subst (λ p. IsMail es p b.letter) b.whose (subst (AllByRecursion (IsMail es b.e.who)) b.link (mail.downs b.conn b.e b.is_here.there b.is_here.standing)).0

  fits : Fits es (Reader b.reader) b.letter
  fits = subst (λ p. Fits es p b.letter) b.whose (subst (AllByRecursion (Fits es b.e.who)) b.link (rightly.downs b.conn b.e b.is_here.there b.is_here.standing)).0

  rules : RulesOf es w.bus.state.rules b.conn b.reader b.e b.hearer
  rules = ruled live b.conn b.reader b.e b.hearer b.is_here.there b.whose b.role b.is_here.standing

  in_turn : Turns es b.e.who (b.letter ∷ b.rest)
  in_turn = subst (Turns es b.e.who) b.link (turned.2 b.conn b.e b.is_here.there)

  module _ (a : Asked) (fate : FateIs es b.reader a) (least : 1 ≤ a.serial) (pattern : List ℕ) (question : a.question ≡ RegisterEvent pattern) (two : m0.kind ≡ 2) (reply : m0.reply ≡ Some a.serial) where
    spelled_ : fate.first ≡ asking fate.first.serial (RegisterEvent pattern)
    spelled_ = (call_of es w b.reader a.serial fate.first spelled fate.was).spelled (RegisterEvent pattern) (fate.read ∙ ap Some question)

    no_hello : a.serial ≡ 1 → ⊥
    no_hello one =
        let same : fate.first ≡ asking 1 Hello = same_some fate.first (asking 1 Hello) (sym fate.was ∙ ap (message es (Reader b.reader)) one ∙ rules.hello) in
        false_true (ap is_hello_ (sym (ap Some question) ∙ sym fate.read ∙ ap question_in same ∙ hello_read))

    later : 2 ≤ a.serial
    later = by (a.serial == 1) refl
      where
        above : (n : ℕ) → 1 ≤ n → (n ≡ 1 → ⊥) → 2 ≤ n
        above zero h f = absurd (omega (arith, h))
        above (suc zero) h f = absurd (f refl)
        above (suc (suc n)) h f = omega arith

        by : (t : Bool) → (a.serial == 1) ≡ t → 2 ≤ a.serial
        by t g = above a.serial least no_hello

    of_registry : b.letter.from ≡ Registry
    of_registry = returned_by es (Reader b.reader) b.letter few its_mail fits two a.serial reply later fate.first fate.was (ap (λ (e : Envelope). e.destination) spelled_)

    back_now : Back es b.reader a.serial
    back_now = by its_mail
      where
        by : IsMail es (Reader b.reader) b.letter → Back es b.reader a.serial
        by (inl p) = absurd (no_registry_bus (sym of_registry ∙ p.from))
        by (inr p) = at answer.called.known
          where
            is_it : m0 ≡ record p.first.message { sender = Some p.caller }
            is_it = ap (λ (z : Said). z.message) p.alike

            two_ : p.first.message.kind ≡ 2
            two_ = ap (λ (e : Envelope). e.kind) (sym is_it) ∙ two

            answer : IsAnswer es b.letter.from p.first
            answer = p.speech.answers (ap (λ n. n == 2 || n == 3) two_)

            goes : m0.destination ≡ Some answer.called.caller
            goes = ap (λ (e : Envelope). e.destination) is_it ∙ answer.to

            below : m0.serial < first_unread es Registry
            below = subst (λ q. m0.serial < first_unread es q) of_registry (in_turn.0 (λ bus. no_registry_bus (sym of_registry ∙ bus))).below

            at : (answer.called.caller ≡ own_name) ⊎ IsCallOf es answer.called.from answer.called.caller answer.call → Back es b.reader a.serial
            at (inl own) = absurd (false_true (sym p.not_bus ∙ for_bus_true m0 (goes ∙ ap Some own)))
            at (inr c) = record {
              m = p.first.message;
              was = ap (λ q. message es q p.first.message.serial) (sym of_registry) ∙ p.sent_.was;
              two = two_;
              reply = ap (λ (e : Envelope). e.reply) (sym is_it) ∙ reply;
              caller = answer.called.caller;
              to = answer.to;
              name = p.routed answer.called.caller goes (unique_told es answer.called.from answer.called.caller c.name);
              taken = subst (λ n. n < first_unread es Registry) (ap (λ (e : Envelope). e.serial) is_it) below;
            }

  one_back : (ys : List Entry) (a : Asked) → IsBack es b.reader a → FateIs es b.reader a → 1 ≤ a.serial → IsBack (es ++ ys) b.reader (answered_by m0 a)
  one_back ys a old fate least = by (is_reply m0 && is_reply_to a.serial m0.reply) refl
    where
      by : (t : Bool) → (is_reply m0 && is_reply_to a.serial m0.reply) ≡ t → IsBack (es ++ ys) b.reader (if t then record a { fate = fate_of m0 } else a)
      by false g = is_more es ys b.reader a old
      by true g = λ pattern question returned_.
          back_more es ys b.reader a.serial
          (back_now a fate least pattern question (eqb-true m0.kind 2 (returned_two (m0.kind == 2) returned_)) (reply_is a.serial m0.reply (and_right (is_reply m0) (is_reply_to a.serial m0.reply) g)))

  all_back : (ys : List Entry) (xs : List Asked) → AllByRecursion (IsBack es b.reader) xs → AllByRecursion (FateIs es b.reader) xs → AllByRecursion (λ (a : Asked). 1 ≤ a.serial) xs → AllByRecursion (IsBack (es ++ ys) b.reader) (map (answered_by m0) xs)
  all_back ys [] f g h = tt
  all_back ys (x ∷ xs) f g h = (one_back ys x f.0 g.0 h.0, all_back ys xs f.1 g.1 h.1)

  now_backs : (ys : List Entry) → Backs es w → AllByRecursion (IsBack (es ++ ys) b.reader) (map (answered_by m0) b.hearer.asked)
  now_backs ys i =
      all_back ys b.hearer.asked (i live b.conn b.reader b.e b.hearer b.is_here.there b.whose b.role) (fated live b.conn b.reader b.e b.hearer b.is_here.there b.whose b.role) rules.serials

takes_backs : (es : List Entry) (w : World) (d : Done) → length (greeted es) ≤ 1000 → Mail es w → Turned es w → Fated es w → Ruled es w → Rightly es w → Spelled es w → Backs es w → ReaderTakes w d → Backs (es ++ d.entries) d.world
takes_backs es w d few mail turned fated ruled rightly spelled i b =
    let v : World = received w b.conn b.e b.letter in
    let g : Hearer = hears_letter b.hearer v.ends b.letter in
    one_backs es d.entries w d.world b.conn b.reader (taken_down b.e) g v.ends (λ x. record x { role = a_reader g }) i
    (over_with SameReader same_reader taken_down (λ x. alike x (taken_down x) refl refl) b.conn w.ends) (received_at w b.conn b.e b.letter b.is_here.there) b.whose (ap (λ x. x.world.ends) b.is) refl refl
    (λ live. now_backs es w d few mail turned fated ruled rightly spelled b live d.entries i)

-- AT THE BEGINNING
pub no_reader_first : (quota k r : ℕ) (x : End) → end_at (first_world quota).ends k ≡ Some x → x.who ≡ Reader r → ⊥
no_reader_first quota zero r x h who = false_true (ap is_reader (ap (λ (y : End). y.who) (same_some first_registry x h) ∙ who))
no_reader_first quota (suc k) r x h who = no_none x h

-- EACH CAUSE
caused : (es : List Entry) (w : World) (d : Done) → length (greeted es) ≤ 1000 → Mail es w → Turned es w → Fated es w → Ruled es w → Rightly es w → Spelled es w → Backs es w → Effect w d → Backs (es ++ d.entries) d.world
caused es w d few mail t f u y p i (resets quota old is) = subst (λ x. Backs (es ++ x.entries) x.world) (sym is) (λ live k r e h there who role. absurd (no_reader_first quota k r e there who))
caused es w d few mail t f u y p i (app_joins name short is) =
    by_join es w d i (new_app w name) (ap (λ x. x.world.ends) is ∙ app_joined w name) (λ r h who role. absurd (false_true (ap is_reader who)))
caused es w d few mail t f u y p i (reader_joins old is) = joins_backs es w d i is
caused es w d few mail t f u y p i (app_edited b) = by_end es w d i (has_done b.before b.after) b.conn (app_same b.before b.after) (ap (λ x. x.world.ends) b.is)
caused es w d few mail t f u y p i (app_took b) =
    by_both es w d i (has_done b.before (app_takes b.before b.letter.said.message)) b.conn (app_same b.before (app_takes b.before b.letter.said.message)) (ap (λ x. x.world.ends) b.is)
caused es w d few mail t f u y p i (reader_called b) = calls_backs es w d i b
caused es w d few mail t f u y p i (swapped b) = by_same es w d i (ap (λ x. x.world.ends) b.is)
caused es w d few mail t f u y p i (exited_ b) = by_end es w d i stops b.conn (λ x. alike x (stops x) refl refl) (ap (λ x. x.world.ends) b.is)
caused es w d few mail t f u y p i (showed_ b) = by_same es w d i (ap (λ x. x.world.ends) b.is)
caused es w d few mail t f u y p i (told_busy turns is) = by_same es w d i (ap (λ x. x.world.ends) is)
caused es w d few mail t f u y p i (told_quiet none is) = by_same es w d i (ap (λ x. x.world.ends) is)
caused es w d few mail t f u y p i (bus_took b) =
    by_over es w d i
    (subst (λ x. Over SameReader w.ends x.world.ends) (sym b.is)
    (takes_over SameReader same_reader (λ m e. alike e (put_down (own_letter m) e) refl refl) (λ e. alike e (leaves e) refl refl) (λ q conn e. alike e (named q conn e) refl refl) (λ e. alike e (taken_up e) refl refl)
    (record { bus = w.bus; ends = w.ends }) b.conn b.e.who b.said (λ m e. alike e (put_down (letter_of b.e.who b.said m) e) refl refl)))
caused es w d few mail t f u y p i (bus_ended b) =
    by_over es w d i
    (subst (λ x. Over SameReader w.ends x.world.ends) (sym b.is)
    (ends_over SameReader same_reader (λ m e. alike e (put_down (own_letter m) e) refl refl) (λ e. alike e (leaves e) refl refl) (record { bus = w.bus; ends = w.ends }) b.conn))
caused es w d few mail t f u y p i (registry_took b) =
    by_both es w d i (registry_did (registry_takes b.before b.letter.said.message)) b.conn (registry_same (registry_takes b.before b.letter.said.message)) (ap (λ x. x.world.ends) b.is)
caused es w d few mail t f u y p i (reader_took b) = takes_backs es w d few mail t f u y p i b

-- THE LAYERS
abbrev pub Under_backs : List Entry → World → Type 0
Under_backs es w = And (And Under_delivered Delivers) (And (And Under_rightly Rightly) (And Under_returned ReturnsTold)) es w

under_keep : Keeps (Shaped Under_backs)
under_keep =
    both_keep (And Under_delivered Delivers) (And (And Under_rightly Rightly) (And Under_returned ReturnsTold)) delivers_keep
    (both_keep (And Under_rightly Rightly) (And Under_returned ReturnsTold) rightly_keeps returned_keep)

backs_grow : Grows Under_backs Backs
backs_grow = record {
  begins = λ live k r e h there who role. absurd (no_reader_first QUOTA_MOST k r e there who);
  caused = λ es w d s a i e after b.
      let u = a.0.0.0 in
      let n = u.1.0 in
      caused es w d (few_greeted es w n.0.1.1.1 n.0.0.1) n.1.0 u.1.1.1.1 u.0.1 a.0.0.1 a.1.0.1 a.1.1.0.1.1.1 i e;
  moved = λ es w v s a i m. subst (λ l. Backs l v) (append-nil es) (by es w v i m);
  asked = λ es w conn r m question s a i asks. asked_backs es w conn r m question i asks;
}
  where
    by : (es : List Entry) (w v : World) → Backs es w → (MovedUp w v ⊎ MovedDown w v) → Backs (es ++ []) v
    by es w v i (inl m) =
        same_backs es [] w v i
        (subst (λ (x : World). Over SameReader w.ends x.ends) (sym m.after) (over_with SameReader same_reader (λ e. record e { up_moved = e.up_moved + m.count }) (λ e. alike e (record e { up_moved = e.up_moved + m.count }) refl refl) m.conn w.ends))
    by es w v i (inr m) =
        same_backs es [] w v i
        (subst (λ (x : World). Over SameReader w.ends x.ends) (sym m.after) (over_with SameReader same_reader (λ e. record e { down_moved = e.down_moved + m.count }) (λ e. alike e (record e { down_moved = e.down_moved + m.count }) refl refl) m.conn w.ends))

pub backs_keep : Keeps (Shaped (And Under_backs Backs))
backs_keep = grown Under_backs Backs under_keep backs_grow
