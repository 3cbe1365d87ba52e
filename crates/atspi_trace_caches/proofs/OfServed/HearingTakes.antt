-- How applications listen to the registry, where one takes a message, and where its user edits.
use Rattle.std.proofs.Common.{◌≡◌, ◌⊎◌, inl, inr, ℕ, suc, ◌<◌, ◌≤◌, Bool, true, false, List, [], ◌∷◌, ◌++◌, length, map, Option, None, Some, refl, sym, ap, ap₂, ◌∙◌, subst, arith}
use Rattle.std.specs.Prelude.{◌==◌, ◌||◌, is_some, codes, if◌then◌else◌}
use Rattle.std.specs.List.{AllByRecursion, cons_option}
use Rattle.std.proofs.lemmas.Bool.{eqb-true}
use Rattle.std.proofs.lemmas.List.{append_assoc, append-nil}
use Rattle.atspi_script_lines.specs.declared.line.Party.{Party}
use Rattle.atspi_script_lines.specs.declared.line.Party.TheVariants.{Bus as The_bus, Registry, App, Reader}
use Rattle.atspi_message.specs.Envelope.{Envelope}
use Rattle.atspi_match.specs.declared.condition.Condition.{Condition}
use Rattle.atspi_names.specs.Owners.{own_name}
use Rattle.atspi_protocol.specs.ends.Places.{registry}
use Rattle.atspi_protocol.specs.members.Asked.{is_text}
use Rattle.atspi_protocol.specs.members.Interfaces.{cache}
use Rattle.atspi_protocol.specs.news.NewsOf.{event_interface}
use Rattle.atspi_protocol.specs.exporting.Exporter.{StartCall, hello, add_match, get_registered_events, embed, Phase, awaits, over, Happening, steps, sends, hears as hears_of, deaf, Exporter}
use Rattle.atspi_protocol.specs.exporting.Hearing.{is_heard, heard_after, pairs_in}
use Rattle.atspi_protocol.specs.exporting.Starting.{start_call}
use Rattle.atspi_protocol.specs.exporting.Taking.{app_takes}
use Rattle.atspi_trace.specs.Entry.{Entry, sent, got}
use Rattle.atspi_trace.specs.Rules.{registry_rule}
use Rattle.atspi_trace.specs.World.{Said, Letter}
use Rattle.atspi_trace.specs.Ends.{same_party}
use Rattle.atspi_trace.specs.Causes.{did}
use Rattle.atspi_trace_laws.specs.laws.Words.{messages, message, with_serial, before_sent}
use Rattle.atspi_trace_laws.specs.serials.Laws.{HasNextNumber}
use Rattle.atspi_trace_laws.specs.missed.Laws.{IsPastList, heard_on, ListIsAsTold, hearing}
use Rattle.atspi_trace_laws.proofs.OfOrder.Parties.{no_none, same_some, party-same, false_true}
use Rattle.atspi_trace_laws.proofs.OfOrder.Each.{Each, everywhere}
use Rattle.atspi_trace_laws.proofs.OfSerials.Serial.{messages_more}
use Rattle.atspi_trace_laws.proofs.OfLinks.LawLinks.{first_unread}
use Rattle.atspi_trace_laws.proofs.OfHeard.Heeding.{IsOfListeners}
use Rattle.atspi_trace_laws.proofs.OfHeard.Telling as telling
use Rattle.atspi_trace_laws.proofs.OfTaken.Found.{NotSent, none_more, found_here, sent_split}
use Rattle.atspi_trace_laws.proofs.OfTaken.Said as told
use Rattle.atspi_trace_laws.proofs.OfTurns.Turning.{IsBehind, Turns}
use Rattle.atspi_trace_laws.proofs.OfNames.Places.{greeted}
use Rattle.atspi_trace_laws.proofs.OfSigned.Mail.{NameIs, IsCallOf, IsAnswer, IsPost, IsMail}
use Rattle.atspi_trace_laws.proofs.OfSigned.Self.{InStart, IsSelf, unique_told, one_named, for_bus_true}
use Rattle.atspi_trace_laws.proofs.OfMissed.Arriving.{On}
use Rattle.atspi_trace_laws.proofs.OfMissed.Ruling.{Has}
use Rattle.atspi_trace_laws.proofs.OfMissed.Delivering.{all_on}
use Rattle.atspi_trace_laws.proofs.OfMissed.Signals.{ForReaders, signal_for}
use Rattle.atspi_trace_laws.proofs.OfMissed.Listening.{listen}
use Rattle.atspi_trace_caches.proofs.OfServed.Facts.{IsNews, OnLink, told_by}
use Rattle.atspi_trace_caches.proofs.OfServed.HearingCourse.{NoCall, Asks, Course, stays, stops, meets, tunes, lists, course, Edited}
use Rattle.atspi_trace_caches.proofs.OfServed.HearingWords.{SaysWell, said_well}
use Rattle.atspi_trace_caches.proofs.OfServed.HearingFold.{still_alike, no_news, other_news, told_with, told_next}
use Rattle.atspi_trace_caches.proofs.OfServed.HearingTuned.{IsAsked, FromBus, NewsAt, AllNews, Early, Hears, Late, Tuned, NotEmbed, NotSaid, none_said, news_more, asked_more, hears_more, no_embeds, tuned_more}

-- PHASES
abbrev phase_serial : Phase → ℕ
phase_serial (awaits call n) = n
phase_serial phase = 0

abbrev of_phase : (StartCall → Bool) → Phase → Bool
of_phase f (awaits call n) = f call
of_phase f phase = false

abbrev is_match : StartCall → Bool
is_match add_match = true
is_match call = false

abbrev is_get : StartCall → Bool
is_get get_registered_events = true
is_get call = false

abbrev is_embed : StartCall → Bool
is_embed embed = true
is_embed call = false

apart : (f : StartCall → Bool) (p q : Phase) → p ≡ q → of_phase f p ≡ false → of_phase f q ≡ true → ⊥
apart f p q same false_ true_ = false_true (sym false_ ∙ ap (of_phase f) same ∙ true_)

-- A CALL OF ITS OWN that a reply of an end answers: not to the bus
pub record OwnCall (es : List Entry) (a n : ℕ) : Type 0 where
  pub first : Envelope
  pub was : message es (App a) n ≡ Some first
  pub not_bus : first.destination ≡ Some own_name → ⊥

pub own_call : (es : List Entry) (a n : ℕ) (letter : Letter) → length (greeted es) ≤ 1000 → IsPost es (App a) letter → letter.said.message.kind ≡ 2 → letter.said.message.reply ≡ Some n → OwnCall es a n
own_call es a n letter few p two reply = by answer.called.known
  where
    is_it : letter.said.message ≡ record p.first.message { sender = Some p.caller }
    is_it = ap (λ (z : Said). z.message) p.alike

    two_ : p.first.message.kind ≡ 2
    two_ = ap (λ (m : Envelope). m.kind) (sym is_it) ∙ two

    answer : IsAnswer es letter.from p.first
    answer = p.speech.answers (ap (λ n. n == 2 || n == 3) two_)

    goes : letter.said.message.destination ≡ Some answer.called.caller
    goes = ap (λ (m : Envelope). m.destination) is_it ∙ answer.to

    serial : answer.call.serial ≡ n
    serial = same_some answer.call.serial n (sym answer.with_ ∙ ap (λ (m : Envelope). m.reply) (sym is_it) ∙ reply)

    by : (answer.called.caller ≡ own_name) ⊎ IsCallOf es answer.called.from answer.called.caller answer.call → OwnCall es a n
    by (inl own) = absurd (false_true (sym p.not_bus ∙ for_bus_true letter.said.message (goes ∙ ap Some own)))
    by (inr c) =
        let mine : NameIs es (App a) answer.called.caller = p.routed answer.called.caller goes (unique_told es answer.called.from answer.called.caller c.name) in
        let who : answer.called.from ≡ App a = one_named es answer.called.from (App a) answer.called.caller few c.name mine in
        record {
          first = c.first;
          was = ap₂ (message es) (sym who) (sym serial) ∙ c.was;
          not_bus = λ h. false_true (sym c.not_bus ∙ for_bus_true answer.call (ap (λ (m : Envelope). m.destination) c.alike ∙ h));
        }

-- WHAT IT SENDS
no_call_embeds : (a : ℕ) (hs : List Happening) → NoCall hs → AllByRecursion NotEmbed (messages (map (did a) hs) (App a))
no_call_embeds a [] n = tt
no_call_embeds a (steps step ∷ hs) n = no_call_embeds a hs n
no_call_embeds a (sends e ∷ hs) n =
    subst (AllByRecursion NotEmbed) (ap (λ b. cons_option (if b then Some e else None) (messages (map (did a) hs) (App a))) (sym (party-same (App a)))) ((λ one. absurd (n.0 one)), no_call_embeds a hs n.1)
no_call_embeds a (hears_of listener pattern ∷ hs) n = no_call_embeds a hs n
no_call_embeds a (deaf listener pattern ∷ hs) n = no_call_embeds a hs n

listeners_say : (who : Party) (a : ℕ) (hs : List Happening) → IsOfListeners hs → AllByRecursion (NotSaid who) (map (did a) hs)
listeners_say who a [] n = tt
listeners_say who a (hears_of listener pattern ∷ hs) n = (tt, listeners_say who a hs n)
listeners_say who a (deaf listener pattern ∷ hs) n = (tt, listeners_say who a hs n)
listeners_say who a (steps step ∷ hs) n = absurd n
listeners_say who a (sends e ∷ hs) n = absurd n

did_last : (a : ℕ) (hs : List Happening) (e : Envelope) → map (did a) (hs ++ sends e ∷ []) ≡ map (did a) hs ++ sent (App a) e ∷ []
did_last a [] e = refl
did_last a (h ∷ hs) e = ap (λ l. did a h ∷ l) (did_last a hs e)

call_embeds : (name : List ℕ) (call : StartCall) (serial : ℕ) → is_embed call ≡ false → NotEmbed (record (start_call name call) { serial = serial })
call_embeds name hello serial other one is = false_true (ap (λ o. is_text o (codes "Embed")) is)
call_embeds name add_match serial other one is = false_true (ap (λ o. is_text o (codes "Embed")) is)
call_embeds name get_registered_events serial other one is = false_true (ap (λ o. is_text o (codes "Embed")) is)
call_embeds name embed serial other one is = false_true (sym other)

-- AN EDIT, and whatever keeps its phase, its name and its pairs
pub retuned : (es : List Entry) (rules : List (ℕ × List Condition)) (k a : ℕ) (s t : Exporter) (ls : List Letter) → t.phase ≡ s.phase → t.name ≡ s.name → t.heard ≡ s.heard → s.next ≤ t.next → Tuned es rules k a s ls → Tuned es rules k a t ls
retuned es rules k a s t ls phase name heard next i = record {
  next = more i.next;
  asked = subst (IsAsked es a t.next) (sym phase) (subst (λ l. IsAsked l a t.next s.phase) (append-nil es) (asked_more es [] a s.next t.next s.phase next i.asked));
  bus = λ l o from.
      let x = i.bus l o from in
      record { other = x.other; reply = λ two n reply. let y = x.reply two n reply in (under y.0, λ at. y.1 (sym phase ∙ at)) };
  stage = by i.stage;
}
  where
    more : 2 ≤ s.next → 2 ≤ t.next
    more h = omega (arith, h, next)

    under : {n : ℕ} → n < s.next → n < t.next
    under {n} h = omega (arith, h, next)

    by : Early es rules k a s ls ⊎ Late es rules k s ls → Early es rules k a t ls ⊎ Late es rules k t ls
    by (inl x) =
        inl (record {
          no_embed = x.no_embed;
          phase = λ n at. x.phase n (sym phase ∙ at);
          has = λ n at. x.has n (sym phase ∙ at);
          list = λ l o n is at. x.list l o n is (sym phase ∙ at);
        })
    by (inr x) =
        let h : Hears es s ls = x.hears in
        inr (record {
          past = subst IsPastList (sym phase) x.past;
          name = x.name;
          named = name ∙ x.named;
          has = x.has;
          hears = record { base = h.base; last = h.last; was = h.was; heard = λ pair. ap (λ pairs. is_heard pairs pair) heard ∙ h.heard pair; taken = h.taken; behind = h.behind; before = h.before };
        })

pub edited_tuned : (es ys : List Entry) (rules : List (ℕ × List Condition)) (k a : ℕ) (s t : Exporter) (ls : List Letter) → Each HasNextNumber [] (es ++ ys) → ys ≡ map (did a) t.out → first_unread (es ++ ys) Registry ≡ first_unread es Registry → Edited s t
    → Tuned es rules k a s ls → Tuned (es ++ ys) rules k a t ls
edited_tuned es ys rules k a s t ls law wrote unread d i =
    tuned_more es ys rules rules k a t ls (λ h. h) law (subst (λ l. AllByRecursion NotEmbed (messages l (App a))) (sym wrote) (no_call_embeds a t.out d.quiet)) unread
    (retuned es rules k a s t ls d.phase d.name d.heard d.next i)

-- IT TAKES A MESSAGE
not_registry_app : (b : ℕ) (l : Letter) → l.from ≡ App b → l.from ≡ Registry → ⊥
not_registry_app b l h g = false_true (ap (λ p. same_party p Registry) (sym h ∙ g))

not_registry_reader : (b : ℕ) (l : Letter) → l.from ≡ Reader b → l.from ≡ Registry → ⊥
not_registry_reader b l h g = false_true (ap (λ p. same_party p Registry) (sym h ∙ g))

not_registry_bus : (l : Letter) → l.from ≡ The_bus → l.from ≡ Registry → ⊥
not_registry_bus l h g = false_true (ap (λ p. same_party p Registry) (sym h ∙ g))

for_readers_other : (m : Envelope) → ForReaders m → is_text m.interface registry ≡ false
for_readers_other m f = by f.interface
  where
    by : (m.interface ≡ Some cache) ⊎ (m.interface ≡ Some event_interface) → is_text m.interface registry ≡ false
    by (inl h) = ap (λ o. is_text o registry) h
    by (inr h) = ap (λ o. is_text o registry) h

module _ (es ys : List Entry) (rules : List (ℕ × List Condition)) (k a : ℕ) (s : Exporter) (l : Letter) (rest : List Letter) (few : length (greeted es) ≤ 1000) (law : Each HasNextNumber [] es) (later : Each HasNextNumber [] (es ++ ys))
    (told_law : Each ListIsAsTold [] es) (well : AllByRecursion SaysWell es) (signal_law : Each telling.Both [] es) (unread : first_unread (es ++ ys) Registry ≡ first_unread es Registry)
    (wrote : ys ≡ got (App a) l.from l.said.message.serial ∷ map (did a) (app_takes s l.said.message).out) (fresh : NotSent es (App a) s.next) (empty : s.out ≡ []) (self : IsSelf es a s) (turns : Turns es (App a) (l ∷ rest))
    (comes : told.Comes es l) (mail : AllByRecursion (IsMail es (App a)) (l ∷ rest)) (from_registry : (n : ℕ) → s.phase ≡ awaits get_registered_events n → l.said.message.kind ≡ 2 → l.said.message.reply ≡ Some n → l.from ≡ Registry)
    (old : Tuned es rules k a s (l ∷ rest)) where
  abbrev m : Envelope
  m = l.said.message

  abbrev t : Exporter
  t = app_takes s m

  -- letters of the registry stand in order
  below : l.from ≡ Registry → m.serial < first_unread es Registry
  below from = subst (λ p. m.serial < first_unread es p) from (turns.0 (λ bus. not_registry_bus l bus from)).below

  in_order : (j : Letter) → On j rest → l.from ≡ Registry → j.from ≡ Registry → m.serial < j.said.message.serial
  in_order j o from other = all_on (IsBehind l) rest turns.1 j o (λ bus. not_registry_bus j bus other) (from ∙ sym other)

  none_lower : (n : ℕ) → l.from ≡ Registry → n < m.serial → OnLink n (l ∷ rest) → ⊥
  none_lower n from less x = at x.1
    where
      never : m.serial ≡ n → ⊥
      never h = absurd (omega (arith, h, less))

      after_ : m.serial < x.0.said.message.serial → x.0.said.message.serial ≡ n → ⊥
      after_ h g = absurd (omega (arith, h, g, less))

      at : On x.0 (l ∷ rest) → ⊥
      at (inl same) = never (ap (λ (z : Letter). z.said.message.serial) same ∙ x.3)
      at (inr o) = after_ (in_order x.0 o from x.2) x.3

  -- the first goes, and is none of those behind
  without : (base : ℕ) → (l.from ≡ Registry → m.serial ≤ base) → AllNews es base (l ∷ rest) → AllNews es base rest
  without base low b n more less = (x.0, x.1, λ news. by (x.2 news))
    where
      x : NewsAt es (l ∷ rest) n
      x = b n more less

      by : OnLink n (l ∷ rest) → OnLink n rest
      by y = at y.1
        where
          never : m.serial ≤ base → m.serial ≡ n → ⊥
          never le is = absurd (omega (arith, le, is, more))

          at : On y.0 (l ∷ rest) → OnLink n rest
          at (inl same) = absurd (never (low (ap (λ (z : Letter). z.from) same ∙ y.2)) (ap (λ (z : Letter). z.said.message.serial) same ∙ y.3))
          at (inr o) = (y.0, o, y.2, y.3)

  lower : {x y : ℕ} → x < y → x ≤ y
  lower g = omega (arith, g)

  own_serial : (n : ℕ) → n ≤ n
  own_serial n = omega arith

  -- as it was sent
  as_sent : (who : Party) → l.from ≡ who → (who ≡ The_bus → ⊥) → (first : Envelope) × (message es who m.serial ≡ Some first) × (m ≡ record first { sender = m.sender })
  as_sent who from differ = by comes
    where
      by : told.Comes es l → (first : Envelope) × (message es who m.serial ≡ Some first) × (m ≡ record first { sender = m.sender })
      by (inl bus) = absurd (differ (sym from ∙ bus))
      by (inr x) = (x.first, subst (λ p. message es p m.serial ≡ Some x.first) from x.was, x.alike)

  registry_not_bus : Registry ≡ The_bus → ⊥
  registry_not_bus h = false_true (ap (λ p. same_party p Registry) (sym h))

  -- BEHIND THE LIST
  four_of : (n : ℕ) → n ≡ 4 → n ≡ 1 → ⊥
  four_of n h g = absurd (omega (arith, h, g))

  other_interface : (p : Party) → l.from ≡ p → (p ≡ Registry → ⊥) → m.kind ≡ 4 → is_text m.interface registry ≡ false
  other_interface The_bus from differ four = (old.bus l (inl refl) from).other
  other_interface Registry from differ four = absurd (differ refl)
  other_interface (App b) from differ four =
      let f = as_sent (App b) from (λ h. false_true (ap (λ p. same_party p The_bus) h)) in
      ap (λ (z : Envelope). is_text z.interface registry) f.2 ∙ for_readers_other f.0 (signal_for es signal_law b m.serial f.0 f.1 (ap (λ (z : Envelope). z.kind) (sym f.2) ∙ four))
  other_interface (Reader r) from differ four =
      let f = as_sent (Reader r) from (λ h. false_true (ap (λ p. same_party p The_bus) h)) in
      let one : f.0.kind ≡ 1 = said_well es (Reader r) m.serial f.0 well f.1 in
      absurd (four_of m.kind four (ap (λ (z : Envelope). z.kind) f.2 ∙ one))

  heard_other : (p : Party) → l.from ≡ p → (p ≡ Registry → ⊥) → heard_on s.heard m ≡ s.heard
  heard_other p from differ = by (m.kind == 4) refl
    where
      by : (b : Bool) → (m.kind == 4) ≡ b → (if b then (heard_after s.heard m).heard else s.heard) ≡ s.heard
      by true h = no_news s.heard m (other_interface p from differ (eqb-true m.kind 4 h))
      by false h = refl

  module _ (late : Late es rules k s (l ∷ rest)) where
    abbrev h : Hears es s (l ∷ rest)
    h = late.hears

    on : IsPastList t.phase × (t.heard ≡ heard_on s.heard m)
    on = listen.signals s m late.name late.named late.past

    -- of another it hears nothing
    hears_still : (p : Party) → l.from ≡ p → (p ≡ Registry → ⊥) → Hears es t rest
    hears_still p from differ = record {
      base = h.base;
      last = h.last;
      was = h.was;
      heard = λ pair. ap (λ pairs. is_heard pairs pair) (on.1 ∙ heard_other p from differ) ∙ h.heard pair;
      taken = h.taken;
      behind = without h.base (λ registry_. absurd (differ (sym from ∙ registry_))) h.behind;
      before = λ j o other. h.before j (inr o) other;
    }

    -- of the registry it hears what was told with it
    hears_now : l.from ≡ Registry → Hears es t rest
    hears_now from = record {
      base = m.serial;
      last = f.0;
      was = f.1;
      heard = λ pair. ap (λ pairs. is_heard pairs pair) on.1 ∙ by (m.kind == 4) refl pair ∙ ap (λ pairs. is_heard pairs pair) (sym told_now);
      taken = below from;
      behind = without m.serial (λ registry_. own_serial m.serial) (λ n more less. h.behind n (higher more) less);
      before = λ j o other. in_order j o from other;
    }
      where
        f : (first : Envelope) × (message es Registry m.serial ≡ Some first) × (m ≡ record first { sender = m.sender })
        f = as_sent Registry from registry_not_bus

        up : h.base < m.serial
        up = h.before l (inl refl) from

        higher : {n : ℕ} → m.serial < n → h.base < n
        higher {n} g = let low : h.base < m.serial = up in omega (arith, g, low)

        under : {n : ℕ} → n < m.serial → n < first_unread es Registry
        under {n} g = let low : m.serial < first_unread es Registry = below from in omega (arith, g, low)

        told_now : told_by es m.serial ≡ (heard_after (told_by es h.base) f.0).heard
        told_now =
            told_next es m.serial f.0 law f.1 h.base up
            (λ n x more less found news.
            let y = h.behind n more (under less) in
            let same : y.0 ≡ x = same_some y.0 x (sym y.1 ∙ found) in
            none_lower n from less (y.2 (subst IsNews (sym same) news)))

        by : (b : Bool) → (m.kind == 4) ≡ b → (pair : List ℕ × List ℕ) → is_heard (if b then (heard_after s.heard m).heard else s.heard) pair ≡ is_heard (heard_after (told_by es h.base) f.0).heard pair
        by true four pair = still_alike s.heard (told_by es h.base) m h.heard pair ∙ ap (λ z. is_heard (heard_after (told_by es h.base) z).heard pair) f.2
        by false four pair = h.heard pair ∙ ap (λ pairs. is_heard pairs pair) (sym (other_news (told_by es h.base) f.0 none))
          where
            none : IsNews f.0 → ⊥
            none news =
                let said = said_well es Registry m.serial f.0 well f.1 news in
                false_true (sym four ∙ ap (λ (z : Envelope). z.kind == 4) f.2 ∙ ap (λ n. n == 4) said.0)

    hears_after : (p : Party) → l.from ≡ p → Hears es t rest
    hears_after Registry from = hears_now from
    hears_after The_bus from = hears_still The_bus from registry_apart
      where
        registry_apart : The_bus ≡ Registry → ⊥
        registry_apart h = registry_not_bus (sym h)
    hears_after (App b) from = hears_still (App b) from (λ q. false_true (ap (λ p. same_party p Registry) q))
    hears_after (Reader r) from = hears_still (Reader r) from (λ q. false_true (ap (λ p. same_party p Registry) q))

    late_still : t.name ≡ s.name → Late (es ++ ys) rules k t rest
    late_still name = record { past = on.0; name = late.name; named = name ∙ late.named; has = late.has; hears = hears_more es ys t rest later unread (hears_after l.from refl) }

  -- THE LIST
  hears_list : (serial : ℕ) → s.phase ≡ awaits get_registered_events serial → m.kind ≡ 2 → m.reply ≡ Some serial → (pairs : List (List ℕ × List ℕ)) → pairs_in m.body ≡ Some pairs → Early es rules k a s (l ∷ rest) → Hears es t rest
  hears_list serial at two reply pairs body early = record {
    base = m.serial;
    last = f.0;
    was = f.1;
    heard = λ pair. (listen.lists s m serial pairs at two reply body).1 pair ∙ ap (λ ps. is_heard ps pair) (sym told_is);
    taken = below from;
    behind = without m.serial (λ registry_. own_serial m.serial) (early.list l (inl refl) serial (from, two, reply) at);
    before = λ j o other. in_order j o from other;
  }
    where
      from : l.from ≡ Registry
      from = from_registry serial at two reply

      f : (first : Envelope) × (message es Registry m.serial ≡ Some first) × (m ≡ record first { sender = m.sender })
      f = as_sent Registry from registry_not_bus

      first_two : f.0.kind ≡ 2
      first_two = ap (λ (z : Envelope). z.kind) (sym f.2) ∙ two

      none : IsNews f.0 → ⊥
      none news =
          let said = said_well es Registry m.serial f.0 well f.1 news in
          four_two said.0 first_two
        where
          four_two : f.0.kind ≡ 4 → f.0.kind ≡ 2 → ⊥
          four_two h g = absurd (omega (arith, h, g))

      place : (rest : List Entry) × (es ≡ before_sent Registry m.serial es ++ sent Registry f.0 ∷ rest)
      place = sent_split es Registry m.serial f.0 f.1

      listed : hearing (messages (before_sent Registry m.serial es) Registry) [] ≡ pairs
      listed = everywhere ListIsAsTold es told_law (before_sent Registry m.serial es) (sent Registry f.0) place.0 place.1 pairs first_two (ap (λ (z : Envelope). pairs_in z.body) (sym f.2) ∙ body)

      told_is : told_by es m.serial ≡ pairs
      told_is = told_with es m.serial f.0 law f.1 ∙ other_news (hearing (messages (before_sent Registry m.serial es) Registry) []) f.0 none ∙ listed

  -- BEFORE IT
  abbrev own_front : List Happening → List Entry
  own_front front = got (App a) l.from m.serial ∷ map (did a) front

  asked_now : (call : StartCall) (x : Asks s t call) → ys ≡ own_front x.front ++ sent (App a) (record (start_call x.name call) { serial = x.serial }) ∷ []
  asked_now call x = wrote ∙ ap (λ hs. got (App a) l.from m.serial ∷ map (did a) hs) x.out ∙ ap (λ es. got (App a) l.from m.serial ∷ es) (did_last a x.front (record (start_call x.name call) { serial = x.serial }))

  front_silent : (call : StartCall) (x : Asks s t call) → AllByRecursion (NotSaid (App a)) (own_front x.front)
  front_silent call x = (tt, listeners_say (App a) a x.front x.quiet)

  is_asked : (call : StartCall) (x : Asks s t call) → IsAsked (es ++ ys) a t.next t.phase
  is_asked call x = subst (IsAsked (es ++ ys) a t.next) (sym x.phase) (x.name, found_, under, λ other. high)
    where
      asking : Envelope
      asking = record (start_call x.name call) { serial = x.serial }

      none : message (es ++ own_front x.front) (App a) x.serial ≡ None
      none = none_more es (own_front x.front) (App a) x.serial (fresh x.serial x.fresh) ∙ ap (with_serial x.serial) (none_said (App a) (own_front x.front) (front_silent call x))

      found_ : message (es ++ ys) (App a) x.serial ≡ Some asking
      found_ =
          ap (λ zs. message zs (App a) x.serial) (ap (λ zs. es ++ zs) (asked_now call x) ∙ sym (append_assoc es (own_front x.front) (sent (App a) asking ∷ []))) ∙ found_here (es ++ own_front x.front) [] (App a) asking none

      under : x.serial < t.next
      under = let is : t.next ≡ suc x.serial = x.next in omega (arith, is)

      high : 2 ≤ x.serial
      high =
          let two : 2 ≤ s.next = old.next in
          let fresh_ : s.next ≤ x.serial = x.fresh in
          omega (arith, two, fresh_)

  asks_no_embed : (call : StartCall) (x : Asks s t call) → is_embed call ≡ false → AllByRecursion NotEmbed (messages ys (App a))
  asks_no_embed call x other =
      subst (AllByRecursion NotEmbed) (sym all) (call_embeds x.name call x.serial other, tt)
    where
      asking : Envelope
      asking = record (start_call x.name call) { serial = x.serial }

      all : messages ys (App a) ≡ asking ∷ []
      all =
          ap (λ zs. messages zs (App a)) (asked_now call x) ∙ messages_more (own_front x.front) (sent (App a) asking ∷ []) (App a)
          ∙ ap (λ zs. zs ++ messages (sent (App a) asking ∷ []) (App a)) (none_said (App a) (own_front x.front) (front_silent call x)) ∙ ap (λ b. cons_option (if b then Some asking else None) []) (party-same (App a))

  quiet_no_embed : NoCall t.out → AllByRecursion NotEmbed (messages ys (App a))
  quiet_no_embed quiet = subst (λ zs. AllByRecursion NotEmbed (messages zs (App a))) (sym wrote) (no_call_embeds a t.out quiet)

  -- what the bus said before
  bus_now : s.next ≤ t.next → ((n : ℕ) → n < s.next → t.phase ≡ awaits add_match n → s.phase ≡ awaits add_match n) → (j : Letter) → On j rest → j.from ≡ The_bus → FromBus k rules t j.said.message
  bus_now more f j o from = record { other = x.other; reply = λ two n reply. let y = x.reply two n reply in (under n y.0, λ at. y.1 (f n y.0 at)) }
    where
      x : FromBus k rules s j.said.message
      x = old.bus j (inr o) from

      under : (n : ℕ) → n < s.next → n < t.next
      under n g = omega (arith, g, more)

  news_now : (j : Letter) → On j rest → j.from ≡ Registry → AllNews es j.said.message.serial (l ∷ rest) → AllNews (es ++ ys) j.said.message.serial rest
  news_now j o other b = news_more es ys j.said.message.serial rest unread (without j.said.message.serial (λ from. lower (in_order j o from other)) b)

  early_stays : Early es rules k a s (l ∷ rest) → t.phase ≡ s.phase → NoCall t.out → Early (es ++ ys) rules k a t rest
  early_stays x phase quiet = record {
    no_embed = no_embeds es ys a (quiet_no_embed quiet) x.no_embed;
    phase = λ n at. x.phase n (sym phase ∙ at);
    has = λ n at. x.has n (sym phase ∙ at);
    list = λ j o n is at. news_now j o is.0 (x.list j (inr o) n is (sym phase ∙ at));
  }

  over_apart : (call : StartCall) (n : ℕ) (f : StartCall → Bool) → f call ≡ true → t.phase ≡ over → t.phase ≡ awaits call n → ⊥
  over_apart call n f true_ is at = false_true (ap (of_phase f) (sym is ∙ at) ∙ true_)

  early_stops : Early es rules k a s (l ∷ rest) → t.phase ≡ over → NoCall t.out → Early (es ++ ys) rules k a t rest
  early_stops x is quiet = record {
    no_embed = no_embeds es ys a (quiet_no_embed quiet) x.no_embed;
    phase = λ n at. over_apart embed n is_embed refl is at;
    has = λ n at. absurd (over_apart get_registered_events n is_get refl is at);
    list = λ j o n z at. absurd (over_apart get_registered_events n is_get refl is at);
  }

  early_meets : Early es rules k a s (l ∷ rest) → Asks s t add_match → Early (es ++ ys) rules k a t rest
  early_meets x asks = record {
    no_embed = no_embeds es ys a (asks_no_embed add_match asks refl) x.no_embed;
    phase = λ n at. apart is_embed (awaits add_match asks.serial) (awaits embed n) (sym asks.phase ∙ at) refl refl;
    has = λ n at. absurd (apart is_get (awaits add_match asks.serial) (awaits get_registered_events n) (sym asks.phase ∙ at) refl refl);
    list = λ j o n z at. absurd (apart is_get (awaits add_match asks.serial) (awaits get_registered_events n) (sym asks.phase ∙ at) refl refl);
  }

  -- the return to its call for the rule is the bus's
  rule_there : (serial : ℕ) → s.phase ≡ awaits add_match serial → m.kind ≡ 2 → m.reply ≡ Some serial → Has k registry_rule rules
  rule_there serial at two reply = by mail.0
    where
      by : IsMail es (App a) l → Has k registry_rule rules
      by (inl b) = ((old.bus l (inl refl) b.from).reply two serial reply).1 at
      by (inr p) =
          let call : OwnCall es a serial = own_call es a serial l few p two reply in
          let was : IsAsked es a s.next (awaits add_match serial) = subst (IsAsked es a s.next) at old.asked in
          let same : record (start_call was.0 add_match) { serial = serial } ≡ call.first = same_some _ call.first (sym was.1 ∙ call.was) in
          absurd (call.not_bus (ap (λ (z : Envelope). z.destination) (sym same)))

  -- nobody answers what it is yet to ask
  not_new : (j : Letter) → On j rest → j.from ≡ Registry → j.said.message.kind ≡ 2 → (n : ℕ) → j.said.message.reply ≡ Some n → s.next ≤ n → ⊥
  not_new j o from two n reply more = by (all_on (IsMail es (App a)) rest mail.1 j o)
    where
      by : IsMail es (App a) j → ⊥
      by (inl b) = not_registry_bus j b.from from
      by (inr p) = let call : OwnCall es a n = own_call es a n j few p two reply in no_none call.first (sym (fresh n more) ∙ call.was)

  early_tunes : (serial : ℕ) → s.phase ≡ awaits add_match serial → m.kind ≡ 2 → m.reply ≡ Some serial → Early es rules k a s (l ∷ rest) → Asks s t get_registered_events → Early (es ++ ys) rules k a t rest
  early_tunes serial at two reply x asks = record {
    no_embed = no_embeds es ys a (asks_no_embed get_registered_events asks refl) x.no_embed;
    phase = λ n is. apart is_embed (awaits get_registered_events asks.serial) (awaits embed n) (sym asks.phase ∙ is) refl refl;
    has = λ n is. rule_there serial at two reply;
    list = λ j o n z is.
        let number : asks.serial ≡ n = ap phase_serial (sym asks.phase ∙ is) in
        absurd (not_new j o z.0 z.1 n z.2 (subst (λ i. s.next ≤ i) number asks.fresh));
  }

  has_name : (o : Option (List ℕ)) → is_some o ≡ true → (name : List ℕ) × (o ≡ Some name)
  has_name None h = absurd (false_true h)
  has_name (Some name) h = (name, refl)

  late_lists : (serial : ℕ) → s.phase ≡ awaits get_registered_events serial → m.kind ≡ 2 → m.reply ≡ Some serial → (pairs : List (List ℕ × List ℕ)) → pairs_in m.body ≡ Some pairs → t.name ≡ s.name → Early es rules k a s (l ∷ rest)
      → Late (es ++ ys) rules k t rest
  late_lists serial at two reply pairs body name x =
      let named_ = has_name s.name (subst (λ p. InStart p s.name) at self.start) in
      record {
        past = (listen.lists s m serial pairs at two reply body).0;
        name = named_.0;
        named = name ∙ named_.1;
        has = x.has serial at;
        hears = hears_more es ys t rest later unread (hears_list serial at two reply pairs body x);
      }

  -- THE WHOLE
  later_two : s.next ≤ t.next → 2 ≤ t.next
  later_two more = let two : 2 ≤ s.next = old.next in omega (arith, two, more)

  next_of : (call : StartCall) → Asks s t call → s.next ≤ t.next
  next_of call x =
      let fresh_ : s.next ≤ x.serial = x.fresh in
      let is : t.next ≡ suc x.serial = x.next in
      omega (arith, fresh_, is)

  -- a new call was answered by nobody
  new_serial : (call : StartCall) (x : Asks s t call) (n : ℕ) → n < s.next → t.phase ≡ awaits add_match n → s.phase ≡ awaits add_match n
  new_serial call x n less at =
      let number : x.serial ≡ n = ap phase_serial (sym x.phase ∙ at) in
      let fresh_ : s.next ≤ x.serial = x.fresh in
      absurd (omega (arith, number, fresh_, less))

  past_apart : (call : StartCall) (serial : ℕ) → s.phase ≡ awaits call serial → is_embed call ≡ false → IsPastList s.phase → ⊥
  past_apart call serial at other past = by call other (subst IsPastList at past)
    where
      by : (call : StartCall) → is_embed call ≡ false → IsPastList (awaits call serial) → ⊥
      by hello other p = p
      by add_match other p = p
      by get_registered_events other p = p
      by embed other p = false_true (sym other)

  by_asks : (call : StartCall) (x : Asks s t call) → Early (es ++ ys) rules k a t rest ⊎ Late (es ++ ys) rules k t rest → Tuned (es ++ ys) rules k a t rest
  by_asks call x stage = record { next = later_two (next_of call x); asked = is_asked call x; bus = bus_now (next_of call x) (new_serial call x); stage = stage }

  by_course : Course s m t → Early es rules k a s (l ∷ rest) ⊎ Late es rules k s (l ∷ rest) → Tuned (es ++ ys) rules k a t rest
  by_course (stays phase name next quiet) stage = record {
    next = later_two next;
    asked = subst (IsAsked (es ++ ys) a t.next) (sym phase) (asked_more es ys a s.next t.next s.phase next old.asked);
    bus = bus_now next (λ n less at. sym phase ∙ at);
    stage = by stage;
  }
    where
      by : Early es rules k a s (l ∷ rest) ⊎ Late es rules k s (l ∷ rest) → Early (es ++ ys) rules k a t rest ⊎ Late (es ++ ys) rules k t rest
      by (inl x) = inl (early_stays x phase quiet)
      by (inr x) = inr (late_still x name)
  by_course (stops is name next quiet) stage = record {
    next = later_two next;
    asked = subst (IsAsked (es ++ ys) a t.next) (sym is) tt;
    bus = bus_now next (λ n less at. absurd (over_apart add_match n is_match refl is at));
    stage = by stage;
  }
    where
      by : Early es rules k a s (l ∷ rest) ⊎ Late es rules k s (l ∷ rest) → Early (es ++ ys) rules k a t rest ⊎ Late (es ++ ys) rules k t rest
      by (inl x) = inl (early_stops x is quiet)
      by (inr x) = inr (late_still x name)
  by_course (meets serial at x) (inl early) = by_asks add_match x (inl (early_meets early x))
  by_course (meets serial at x) (inr late) = absurd (past_apart hello serial at refl late.past)
  by_course (tunes serial at two reply name x) (inl early) = by_asks get_registered_events x (inl (early_tunes serial at two reply early x))
  by_course (tunes serial at two reply name x) (inr late) = absurd (past_apart add_match serial at refl late.past)
  by_course (lists serial at two reply pairs body name x) (inl early) = by_asks embed x (inr (late_lists serial at two reply pairs body name early))
  by_course (lists serial at two reply pairs body name x) (inr late) = absurd (past_apart get_registered_events serial at refl late.past)

  pub taken_tuned : Tuned (es ++ ys) rules k a t rest
  taken_tuned = by_course (course s m empty) old.stage
