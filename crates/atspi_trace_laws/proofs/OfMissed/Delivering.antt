-- What a reader that holds an application, or is about to, has of it on its down link: each signal that the bus took since, along a lawful trace.
use Rattle.std.proofs.Common.{◌≡◌, ◌⊎◌, inl, inr, ℕ, zero, suc, ◌+◌, ◌<◌, ◌≤◌, Bool, true, false, List, [], ◌∷◌, ◌++◌, length, map, Option, None, Some, refl, sym, ap, ◌∙◌, subst, arith}
use Rattle.std.specs.Prelude.{◌==◌, ◌&&◌, option_map, if◌then◌else◌}
use Rattle.std.specs.List.{AllByRecursion}
use Rattle.std.proofs.lemmas.Bool.{eqb-true, eq-eqb, ne_eqb}
use Rattle.std.proofs.lemmas.List.{append-nil}
use Rattle.atspi_tree_model.specs.Forest.{first_of}
use Rattle.atspi_script_lines.specs.declared.line.Party.{Party}
use Rattle.atspi_script_lines.specs.declared.line.Party.TheVariants.{Bus as The_bus, Registry, App, Reader}
use Rattle.atspi_base.specs.valid_names.Names.{is_unique_name}
use Rattle.atspi_message.specs.Envelope.{Envelope}
use Rattle.atspi_names.specs.Owners.{own_name}
use Rattle.atspi_match.specs.routing.BusState.{unique_of}
use Rattle.atspi_match.specs.routing.Members.{is_text}
use Rattle.atspi_match.specs.routing.Routing.{is_reply}
use Rattle.atspi_match.specs.routing.Steps.{Move, says, delivers, closes, BusStep, is_hello, bus_takes}
use Rattle.atspi_protocol.specs.registering.Steps.{RegistryStep, registry_takes}
use Rattle.atspi_protocol.specs.exporting.Exporter.{Exporter}
use Rattle.atspi_protocol.specs.exporting.Taking.{app_takes}
use Rattle.atspi_protocol.specs.declared.news.part.PartName.{PartName}
use Rattle.atspi_protocol.specs.declared.following.question.Question.{Question}
use Rattle.atspi_protocol.specs.declared.following.question.Question.TheVariants.{Hello, AddMatch, RegisterEvent, GetChildren, GetItems, GetPart}
use Rattle.atspi_protocol.specs.following.Calls.{user_call}
use Rattle.atspi_protocol.specs.following.Replied.{is_reply_to}
use Rattle.atspi_trace.specs.Entry.{Entry, sent, got}
use Rattle.atspi_trace.specs.Rules.{rule_in}
use Rattle.atspi_trace.specs.World.{Asked, here, Role, a_reader, Holding, Hearer, Said, Letter, first_registry, first_world, End, World}
use Rattle.atspi_trace.specs.Ends.{is_here, is_reader, same_party, number_of, end_at, with_end, rest_of, taken_up, taken_down, stops}
use Rattle.atspi_trace.specs.Carrying as carrying
use Rattle.atspi_trace.specs.Carrying.{Carried, own_letter, letter_of, stepped, settled, named, with_name, takes, takes_end, bus_entries}
use Rattle.atspi_trace.specs.Hearing.{fate_of, answered_by, question_returned, app_ended, without_ended, holding_of, loaded, noted, noted_of, without, holds_after, holds_of, hears_letter, heard_entries}
use Rattle.atspi_trace.specs.Causes.{Done, at_end, has_done, asks, reader_sends, registry_did, app_starts, reader_starts}
use Rattle.atspi_trace.specs.Due.{asks_as, asks_at}
use Rattle.atspi_trace_laws.specs.laws.Words.{message}
use Rattle.atspi_trace_laws.specs.laws.NineLaws.{count_got_by_bus}
use Rattle.atspi_trace_laws.specs.missed.Laws.{IsLoad}
use Rattle.atspi_trace_laws.proofs.OfOrder.Parties.{no_none, same_some, same-party, party-same, false_true}
use Rattle.atspi_trace_laws.proofs.OfOrder.Allowed.{MovedUp, MovedDown, Asks}
use Rattle.atspi_trace_laws.proofs.OfOrder.Acts.{Act, heard_act}
use Rattle.atspi_trace_laws.proofs.OfOrder.Frame.{Over, over_same, over_both, over_with, over_at, joined_cases}
use Rattle.atspi_trace_laws.proofs.OfOrder.Shape.{Shape}
use Rattle.atspi_trace_laws.proofs.OfOrder.Effects.{received, ReaderCalls, ReaderTakes, BusTakes, BusEnds, Effect, resets, app_joins, reader_joins, app_edited, app_took, reader_called, swapped, exited_, showed_, told_busy, told_quiet, bus_took, bus_ended, registry_took, reader_took}
use Rattle.atspi_trace_laws.proofs.OfOrder.Shaped.{new_app, new_reader, app_joined}
use Rattle.atspi_trace_laws.proofs.OfOrder.Each.{Each, all_map}
use Rattle.atspi_trace_laws.proofs.OfSerials.Numbers.{Numbered}
use Rattle.atspi_trace_laws.proofs.OfSerials.Speaking.{next_of}
use Rattle.atspi_trace_laws.proofs.OfLinks.LawLinks.{NotTaken, none_taken, did_free, sent_free, got_free, word_free, bus_free, no_bus, first_unread, Linked}
use Rattle.atspi_trace_laws.proofs.OfLinks.Ups.{Ups}
use Rattle.atspi_trace_laws.proofs.OfOwn.Writing.{Lives, lived}
use Rattle.atspi_trace_laws.proofs.OfHeld.Holdings.{loaded_it, loaded_other, noted_it, noted_other, without_it, without_other, call_at, call_last, call_answered, question_by, returned_is}
use Rattle.atspi_trace_laws.proofs.OfHeard.Telling as telling
use Rattle.atspi_trace_laws.proofs.OfTaken.Found.{found_more}
use Rattle.atspi_trace_laws.proofs.OfTaken.Handing.{HandsOn, takes_on}
use Rattle.atspi_trace_laws.proofs.OfTaken.Handing as handing
use Rattle.atspi_trace_laws.proofs.OfTaken.Said.{IsSaid}
use Rattle.atspi_trace_laws.proofs.OfTaken.LawTaken.{Known, not_sent_at}
use Rattle.atspi_trace_laws.proofs.OfTurns.Turning.{IsBehind, Turns, count_more, unread_more}
use Rattle.atspi_trace_laws.proofs.OfTurns.LawTurns.{Turned}
use Rattle.atspi_trace_laws.proofs.OfQuiet.Here.{Greeted}
use Rattle.atspi_trace_laws.proofs.OfNames.LawNames.{Named}
use Rattle.atspi_trace_laws.proofs.OfNames.Places.{greeted}
use Rattle.atspi_trace_laws.proofs.OfSigned.Mail.{IsMail}
use Rattle.atspi_trace_laws.proofs.OfSigned.Self.{unique_told}
use Rattle.atspi_trace_laws.proofs.OfSigned.LawMail.{Mail, named_is}
use Rattle.atspi_trace_laws.proofs.OfSigned.Unique.{IsIn}
use Rattle.atspi_trace_laws.proofs.OfSigned.Handing.{Fine, Gives, Downs, downs_with, PutsAt, stepped_downs, left_downs, settled_downs}
use Rattle.atspi_trace_laws.proofs.OfMissed.Arriving.{On, Goes_on, took_goes, ended_goes, passed_on}
use Rattle.atspi_trace_laws.proofs.OfMissed.Resting.{Rested, due_joined}
use Rattle.atspi_trace_laws.proofs.OfMissed.Returning.{not_the_bus}
use Rattle.atspi_trace_laws.proofs.OfMissed.Ruled.{Both, RulesOf, Ruled, SameIn, same_in, not_reader, gone_in, alike, is_reader_role, Changed, changed_once, changed_twice}
use Rattle.atspi_trace_laws.proofs.OfMissed.LawRuled.{HisCall, his_call}
use Rattle.atspi_trace_laws.proofs.OfMissed.Signals.{ForReaders, signal_for, received as received_by, handed_on}

-- A MESSAGE OF AN APPLICATION ON A LINK
abbrev pub StandsOn : ℕ → ℕ → List Letter → Type 0
StandsOn a s ls = (l : Letter) × On l ls × (l.from ≡ App a) × (l.said.message.serial ≡ s)

-- what the bus took of it behind this serial: where it is a signal it stands on the link
abbrev pub BehindAt : List Entry → ℕ → List Letter → ℕ → Type 0
BehindAt es a ls s = (m : Envelope) × (message es (App a) s ≡ Some m) × (m.kind ≡ 4 → StandsOn a s ls)

abbrev pub AllBehind : List Entry → ℕ → ℕ → List Letter → Type 0
AllBehind es a base ls = (s : ℕ) → base < s → s < first_unread es (App a) → BehindAt es a ls s

-- it asked for items
abbrev is_items : Question → Bool
is_items (GetItems name) = true
is_items q = false

abbrev pub AskedItems : List Asked → Type 0
AskedItems [] = ⊥
AskedItems (a ∷ asked) = (is_items a.question ≡ true) ⊎ AskedItems asked

-- what it holds, the last message of which stands before those on the link
pub record HeldAll (es : List Entry) (h : Hearer) (down : List Letter) (a : ℕ) (k : Holding) : Type 0 where
  pub asked : AskedItems h.asked
  pub behind : AllBehind es a k.last down
  pub taken : k.last < first_unread es (App a)
  pub before : (l : Letter) → On l down → l.from ≡ App a → k.last < l.said.message.serial

pub record HasAll (es : List Entry) (h : Hearer) (down : List Letter) : Type 0 where
  pub held : (a : ℕ) (k : Holding) → holding_of a h.holds ≡ Some k → HeldAll es h down a k
  pub loads : (l : Letter) → On l down → (a : ℕ) → l.from ≡ App a → IsLoad (question_returned l.said.message h.asked) → AllBehind es a l.said.message.serial down

abbrev pub Delivers : List Entry → World → Type 0
Delivers es w = Lives es → (k r : ℕ) (e : End) (h : Hearer) → end_at w.ends k ≡ Some e → e.who ≡ Reader r → e.role ≡ a_reader h → e.standing ≡ here → HasAll es h e.down

-- MORE ENTRIES, in which the bus takes nothing
same_unread : (es ys : List Entry) (who : Party) → AllByRecursion NotTaken ys → first_unread (es ++ ys) who ≡ first_unread es who
same_unread es ys who free =
    let sum : count_got_by_bus (es ++ ys) who ≡ count_got_by_bus es who + count_got_by_bus ys who = count_more es ys who in
    let none : count_got_by_bus ys who ≡ 0 = none_taken who ys free in
    omega (arith, sum, none)

behind_more : (es ys : List Entry) (a base : ℕ) (ls : List Letter) → AllByRecursion NotTaken ys → AllBehind es a base ls → AllBehind (es ++ ys) a base ls
behind_more es ys a base ls free b s more less =
    let x = b s more (subst (λ n. s < n) (same_unread es ys (App a) free) less) in
    (x.0, found_more es ys (App a) s x.0 x.1, x.2)

held_more : (es ys : List Entry) (h : Hearer) (ls : List Letter) (a : ℕ) (k : Holding) → AllByRecursion NotTaken ys → HeldAll es h ls a k → HeldAll (es ++ ys) h ls a k
held_more es ys h ls a k free i = record {
  asked = i.asked;
  behind = behind_more es ys a k.last ls free i.behind;
  taken = subst (λ n. k.last < n) (sym (same_unread es ys (App a) free)) i.taken;
  before = i.before;
}

all_more : (es ys : List Entry) (h : Hearer) (ls : List Letter) → AllByRecursion NotTaken ys → HasAll es h ls → HasAll (es ++ ys) h ls
all_more es ys h ls free i = record {
  held = λ a k g. held_more es ys h ls a k free (i.held a k g);
  loads = λ l o a from load. behind_more es ys a l.said.message.serial ls free (i.loads l o a from load);
}

-- NO READER ACTS
quiet_delivers : (es ys : List Entry) (w v : World) → Delivers es w → Over SameIn w.ends v.ends → AllByRecursion NotTaken ys → Delivers (es ++ ys) v
quiet_delivers es ys w v i o free live k r d h there who role on =
    let x = o.back k d there in
    let y = x.2.same on h role in
    subst (HasAll (es ++ ys) h) (sym y.2) (all_more es ys h x.0.down free (i (lived es ys live) k r x.0 h x.1 (sym x.2.whose ∙ who) y.0 y.3))

-- ONE READER ACTS
abbrev hearer_in : Role → Hearer → Hearer
hearer_in (a_reader h) g = h
hearer_in role g = g

same_hearer : (h g : Hearer) → a_reader h ≡ a_reader g → h ≡ g
same_hearer h g e = ap (λ r. hearer_in r h) e

one_delivers : (es ys : List Entry) (w v : World) (conn r : ℕ) (d : End) (g : Hearer) → Delivers es w → Changed w v conn d → AllByRecursion NotTaken ys → d.who ≡ Reader r → d.role ≡ a_reader g → (Lives es → d.standing ≡ here → HasAll (es ++ ys) g d.down) → Delivers (es ++ ys) v
one_delivers es ys w v conn r d g i c free who role now live k q x h there whose_ role_ on = by (c k x there)
  where
    by : ((k ≡ conn) × (x ≡ d)) ⊎ (end_at w.ends k ≡ Some x) → HasAll (es ++ ys) h x.down
    by (inl y) =
        let state : g ≡ h = same_hearer g h (sym role ∙ ap (λ (t : End). t.role) (sym y.1) ∙ role_) in
        let on_d : d.standing ≡ here = ap (λ (t : End). t.standing) (sym y.1) ∙ on in
        subst (λ (t : End). HasAll (es ++ ys) h t.down) (sym y.1) (subst (λ z. HasAll (es ++ ys) z d.down) state (now (lived es ys live) on_d))
    by (inr y) = all_more es ys h x.down free (i (lived es ys live) k q x h y whose_ role_ on)

-- one that only counts on
calls_deliver : (es : List Entry) (w : World) (d : Done) → Delivers es w → ReaderCalls w d → AllByRecursion NotTaken d.entries → Delivers (es ++ d.entries) d.world
calls_deliver es w d i b free =
    let m : Envelope = user_call b.hearer.next b.name b.node b.deed in
    let g : Hearer = record b.hearer { next = suc b.hearer.next } in
    let f : End → End = reader_sends g m in
    one_delivers es d.entries w d.world b.conn b.reader (f b.e) g i (changed_once w d.world b.conn b.e f b.is_here.there (ap (λ x. x.world.ends) b.is)) free b.whose refl
    (λ live on.
    let old : HasAll es b.hearer b.e.down = i live b.conn b.reader b.e b.hearer b.is_here.there b.whose b.role b.is_here.standing in
    all_more es d.entries g b.e.down free (record {
      held = λ a k h. let x = old.held a k h in record { asked = x.asked; behind = x.behind; taken = x.taken; before = x.before };
      loads = old.loads;
    }))

-- AN OWN CALL: nothing on the link answers it yet
items_front : (xs ys : List Asked) → AskedItems xs → AskedItems (xs ++ ys)
items_front [] ys h = absurd h
items_front (x ∷ xs) ys (inl h) = inl h
items_front (x ∷ xs) ys (inr h) = inr (items_front xs ys h)

-- which return a letter is
kind_of : (m : Envelope) (asked : List Asked) → IsLoad (question_returned m asked) → (n : ℕ) × (m.kind ≡ 2) × (m.reply ≡ Some n)
kind_of m asked load = by m.reply refl (m.kind == 2) refl (subst IsLoad (returned_is m asked) load)
  where
    by : (o : Option ℕ) → m.reply ≡ o → (b : Bool) → (m.kind == 2) ≡ b → IsLoad (question_by (m.kind == 2) m.reply asked) → (n : ℕ) × (m.kind ≡ 2) × (m.reply ≡ Some n)
    by None g b k l = absurd (subst (λ z. IsLoad (question_by (m.kind == 2) z asked)) g l)
    by (Some n) g true k l = (n, eqb-true m.kind 2 k, g)
    by (Some n) g false k l = absurd (subst (λ z. IsLoad (question_by z (Some n) asked)) k (subst (λ z. IsLoad (question_by (m.kind == 2) z asked)) g l))

-- a call more, which nothing answers
load_before : (m : Envelope) (asked : List Asked) (new : Asked) (n : ℕ) → m.reply ≡ Some n → (n ≡ new.serial → ⊥) → IsLoad (question_returned m (asked ++ new ∷ [])) → IsLoad (question_returned m asked)
load_before m asked new n reply differ load = subst IsLoad (ap (λ (o : Option Question). o) (same (m.kind == 2))) load
  where
    same : (b : Bool) → question_returned m (asked ++ new ∷ []) ≡ question_returned m asked
    same b =
        returned_is m (asked ++ new ∷ []) ∙ ap (λ o. question_by (m.kind == 2) o (asked ++ new ∷ [])) reply ∙ ap (λ q. if m.kind == 2 then q else None) last ∙ sym (ap (λ o. question_by (m.kind == 2) o asked) reply)
        ∙ sym (returned_is m asked)
      where
        or_none : (o : Option Question) → first_of o None ≡ o
        or_none None = refl
        or_none (Some x) = refl

        last : call_at n (asked ++ new ∷ []) ≡ call_at n asked
        last = call_last n asked new ∙ ap (λ t. first_of (call_at n asked) (if t then Some new.question else None)) (ne_eqb n new.serial differ) ∙ or_none (call_at n asked)

from_apart : (l : Letter) (a : ℕ) → l.from ≡ App a → l.from ≡ The_bus → ⊥
from_apart l a h g = false_true (ap (λ p. same_party p (App a)) (sym g ∙ h) ∙ party-same (App a))

pub all_on : (P : Letter → Type 0) (ls : List Letter) → AllByRecursion P ls → (l : Letter) → On l ls → P l
all_on P [] a l o = absurd o
all_on P (x ∷ xs) a l (inl h) = subst P h a.0
all_on P (x ∷ xs) a l (inr o) = all_on P xs a.1 l o

on_all : (P : Letter → Type 0) (ls : List Letter) → ((l : Letter) → On l ls → P l) → AllByRecursion P ls
on_all P [] f = tt
on_all P (x ∷ xs) f = (f x (inl refl), on_all P xs (λ l o. f l (inr o)))

pub asks_deliver : (es : List Entry) (w : World) (conn r : ℕ) (m : Envelope) (question : Question) → Shape w → Numbered es w → length (greeted es) ≤ 1000 → Mail es w → Delivers es w → Asks w conn r m question
    → Delivers (es ++ sent (Reader r) m ∷ []) (at_end w conn (asks_at m question))
asks_deliver es w conn r m question s numbers few mail i b =
    one_delivers es (sent (Reader r) m ∷ []) w (at_end w conn (asks_at m question)) conn r d g i
    (λ k x h. subst (λ z. ((k ≡ conn) × (x ≡ z)) ⊎ (end_at w.ends k ≡ Some x)) is_f (changed_once w (at_end w conn (asks_at m question)) conn b.asker (asks_at m question) b.is_here.there refl k x h)) (tt, tt) b.whose refl
    (λ live on. all_more es (sent (Reader r) m ∷ []) g b.asker.down (tt, tt) (now (i live conn r b.asker b.hearer b.is_here.there b.whose b.reader b.is_here.standing)))
  where
    g : Hearer
    g = asks question b.hearer

    d : End
    d = reader_sends g m b.asker

    is_f : asks_at m question b.asker ≡ d
    is_f = ap (λ x. asks_as x m question b.asker) b.reader

    least : (n : ℕ) → n ≤ n
    least n = omega arith

    not_new : (l : Letter) → On l b.asker.down → (a : ℕ) → l.from ≡ App a → l.said.message.kind ≡ 2 → (n : ℕ) → l.said.message.reply ≡ Some n → n ≡ b.hearer.next → ⊥
    not_new l o a from two n reply same = by (subst (λ p. IsMail es p l) b.whose (all_on (IsMail es b.asker.who) b.asker.down (mail.downs conn b.asker b.is_here.there b.is_here.standing) l o))
      where
        by : IsMail es (Reader r) l → ⊥
        by (inl x) = from_apart l a from x.from
        by (inr p) =
            let his : HisCall es r n = his_call es r n l few p two reply in
            let none : message es (Reader r) n ≡ None =
            not_sent_at es w conn b.asker (Reader r) b.hearer.next s numbers b.is_here.there b.whose (ap next_of b.reader) n (subst (λ k. b.hearer.next ≤ k) (sym same) (least b.hearer.next)) in
            no_none his.first (sym none ∙ his.was)

    now : HasAll es b.hearer b.asker.down → HasAll es g b.asker.down
    now old = record {
      held = λ a k h. let x = old.held a k h in record { asked = items_front b.hearer.asked _ x.asked; behind = x.behind; taken = x.taken; before = x.before };
      loads = λ l o a from load.
          let y = kind_of l.said.message g.asked load in
          old.loads l o a from (load_before l.said.message b.hearer.asked _ y.0 y.2 (λ same. not_new l o a from y.1 y.0 y.2 same) load);
    }

-- A READER TAKES A MESSAGE
load_items : (m : Envelope) (asked : List Asked) → IsLoad (question_returned m asked) → AskedItems asked
load_items m [] h = absurd h
load_items m (a ∷ asked) h = by (m.kind == 2 && is_reply_to a.serial m.reply) (λ g. load_items m asked g) h
  where
    its : (q : Question) → IsLoad (Some q) → is_items q ≡ true
    its (GetItems name) l = refl
    its Hello l = absurd l
    its (AddMatch text) l = absurd l
    its (RegisterEvent pattern) l = absurd l
    its GetChildren l = absurd l
    its (GetPart name path part) l = absurd l

    by : (b : Bool) → (IsLoad (question_returned m asked) → AskedItems asked) → IsLoad (if b then Some a.question else question_returned m asked) → AskedItems (a ∷ asked)
    by true f l = inl (its a.question l)
    by false f l = inr (f l)

items_answered : (m : Envelope) (asked : List Asked) → AskedItems asked → AskedItems (map (answered_by m) asked)
items_answered m [] h = h
items_answered m (a ∷ asked) (inl h) = inl (by (is_reply m && is_reply_to a.serial m.reply))
  where
    by : (b : Bool) → is_items (if b then record a { fate = fate_of m } else a).question ≡ true
    by true = h
    by false = h
items_answered m (a ∷ asked) (inr h) = inr (items_answered m asked h)

same_returned : (m l : Envelope) (asked : List Asked) → question_returned l (map (answered_by m) asked) ≡ question_returned l asked
same_returned m l asked = returned_is l (map (answered_by m) asked) ∙ by (l.kind == 2) l.reply ∙ sym (returned_is l asked)
  where
    by : (b : Bool) (o : Option ℕ) → question_by b o (map (answered_by m) asked) ≡ question_by b o asked
    by b None = refl
    by b (Some n) = ap (λ q. if b then q else None) (call_answered n m asked)

-- the first goes, and is none of those behind
without_first : (es : List Entry) (a base : ℕ) (l : Letter) (ls : List Letter) → (l.from ≡ App a → l.said.message.serial ≤ base) → AllBehind es a base (l ∷ ls) → AllBehind es a base ls
without_first es a base l ls low b s more less = (x.0, x.1, λ four. by (x.2 four))
  where
    x : BehindAt es a (l ∷ ls) s
    x = b s more less

    by : StandsOn a s (l ∷ ls) → StandsOn a s ls
    by y = at y.1
      where
        at : On y.0 (l ∷ ls) → StandsOn a s ls
        at (inl same) =
            let from : l.from ≡ App a = ap (λ (z : Letter). z.from) same ∙ y.2 in
            let serial : l.said.message.serial ≡ s = ap (λ (z : Letter). z.said.message.serial) same ∙ y.3 in
            absurd (never (low from) serial)
          where
            never : l.said.message.serial ≤ base → l.said.message.serial ≡ s → ⊥
            never le is = omega (arith, le, is, more)
        at (inr o) = (y.0, o, y.2, y.3)

-- from a later serial on
from_later : (es : List Entry) (a base later : ℕ) (ls : List Letter) → base ≤ later → AllBehind es a base ls → AllBehind es a later ls
from_later es a base later ls le b s more less = b s (omega (arith, le, more)) less

other_app : (a c : ℕ) (l : Letter) → l.from ≡ App c → (c ≡ a → ⊥) → l.from ≡ App a → ⊥
other_app a c l h differ g = differ (ap number_of (sym h ∙ g))

behind_first : (es : List Entry) (who : Party) (l : Letter) (ls : List Letter) → Turns es who (l ∷ ls) → (k : Letter) → On k ls → (a : ℕ) → l.from ≡ App a → k.from ≡ App a → l.said.message.serial < k.said.message.serial
behind_first es who l ls t k o a from other = all_on (IsBehind l) ls t.1 k o (from_apart k a other) (from ∙ sym other)

module _ (es : List Entry) (w : World) (r : ℕ) (h : Hearer) (l : Letter) (ls : List Letter) (who : Party) (t : Turns es who (l ∷ ls)) (old : HasAll es h (l ∷ ls)) where
  abbrev m0 : Envelope
  m0 = l.said.message

  abbrev heard_now : Hearer
  heard_now = hears_letter h w.ends l

  in_turn : (a : ℕ) → l.from ≡ App a → m0.serial < first_unread es (App a)
  in_turn a from = subst (λ p. m0.serial < first_unread es p) from (t.0 (from_apart l a from)).below

  -- of another application nothing changed
  other_held : (a : ℕ) (k : Holding) → (l.from ≡ App a → ⊥) → HeldAll es h (l ∷ ls) a k → HeldAll es heard_now ls a k
  other_held a k differ x = record {
    asked = items_answered m0 h.asked x.asked;
    behind = without_first es a k.last l ls (λ from. absurd (differ from)) x.behind;
    taken = x.taken;
    before = λ j o from. x.before j (inr o) from;
  }

  -- it was loaded
  loaded_held : (a : ℕ) (k : Holding) → l.from ≡ App a → k.last ≡ m0.serial → IsLoad (question_returned m0 h.asked) → HeldAll es heard_now ls a k
  loaded_held a k from last load = record {
    asked = items_answered m0 h.asked (load_items m0 h.asked load);
    behind = subst (λ n. AllBehind es a n ls) (sym last) (without_first es a m0.serial l ls (λ f. least m0.serial) (old.loads l (inl refl) a from load));
    taken = subst (λ n. n < first_unread es (App a)) (sym last) (in_turn a from);
    before = λ j o other. subst (λ n. n < j.said.message.serial) (sym last) (behind_first es who l ls t j o a from other);
  }
    where
      least : (n : ℕ) → n ≤ n
      least n = omega arith

  -- or held before
  noted_held : (a : ℕ) (k j : Holding) → l.from ≡ App a → k.last ≡ m0.serial → holding_of a h.holds ≡ Some j → HeldAll es heard_now ls a k
  noted_held a k j from last was = record {
    asked = items_answered m0 h.asked x.asked;
    behind = subst (λ n. AllBehind es a n ls) (sym last) (without_first es a m0.serial l ls (λ f. least m0.serial) (from_later es a j.last m0.serial (l ∷ ls) (lower (x.before l (inl refl) from)) x.behind));
    taken = subst (λ n. n < first_unread es (App a)) (sym last) (in_turn a from);
    before = λ i o other. subst (λ n. n < i.said.message.serial) (sym last) (behind_first es who l ls t i o a from other);
  }
    where
      x : HeldAll es h (l ∷ ls) a j
      x = old.held a j was

      least : (n : ℕ) → n ≤ n
      least n = omega arith

      lower : j.last < m0.serial → j.last ≤ m0.serial
      lower g = omega (arith, g)

  noted_is : (o : Option Holding) (parts : List (List ℕ × PartName)) (k : Holding) → option_map (noted l.said parts) o ≡ Some k → (j : Holding) × (o ≡ Some j) × (k.last ≡ m0.serial)
  noted_is None parts k g = absurd (no_none k g)
  noted_is (Some j) parts k g = (j, refl, ap (λ (x : Holding). x.last) (sym (same_some (noted l.said parts j) k g)))

  by_noted : (a c : ℕ) (k : Holding) (parts : List (List ℕ × PartName)) → l.from ≡ App c → holding_of a (noted_of c l.said parts h.holds) ≡ Some k → HeldAll es heard_now ls a k
  by_noted a c k parts from g = at (c == a) refl
    where
      at : (b : Bool) → (c == a) ≡ b → HeldAll es heard_now ls a k
      at true e =
          let same : c ≡ a = eqb-true c a e in
          let x = noted_is (holding_of c h.holds) parts k (sym (noted_it c l.said parts h.holds) ∙ subst (λ n. holding_of n (noted_of c l.said parts h.holds) ≡ Some k) (sym same) g) in
          noted_held a k x.0 (from ∙ ap App same) x.2 (subst (λ n. holding_of n h.holds ≡ Some x.0) same x.1)
      at false e =
          let differ : c ≡ a → ⊥ = λ same. false_true (sym e ∙ eq-eqb c a same) in
          other_held a k (other_app a c l from differ) (old.held a k (sym (noted_other c a l.said parts h.holds differ) ∙ g))

  by_loaded : (a c : ℕ) (k : Holding) → l.from ≡ App c → IsLoad (question_returned m0 h.asked) → holding_of a (loaded c l.said h.holds) ≡ Some k → HeldAll es heard_now ls a k
  by_loaded a c k from load g = at (c == a) refl
    where
      at : (b : Bool) → (c == a) ≡ b → HeldAll es heard_now ls a k
      at true e =
          let same : c ≡ a = eqb-true c a e in
          loaded_held a k (from ∙ ap App same) (ap (λ (x : Holding). x.last) (sym (same_some _ k (sym (loaded_it c l.said h.holds) ∙ subst (λ n. holding_of n (loaded c l.said h.holds) ≡ Some k) (sym same) g)))) load
      at false e =
          let differ : c ≡ a → ⊥ = λ same. false_true (sym e ∙ eq-eqb c a same) in
          other_held a k (other_app a c l from differ) (old.held a k (sym (loaded_other c a l.said h.holds differ) ∙ g))

  by_question : (a c : ℕ) (k : Holding) → l.from ≡ App c → (q : Option Question) → question_returned m0 h.asked ≡ q → holding_of a (holds_after c l.said q h.holds) ≡ Some k → HeldAll es heard_now ls a k
  by_question a c k from (Some (GetItems name)) is g = by_loaded a c k from (subst IsLoad (sym is) tt) g
  by_question a c k from (Some (GetPart name path part)) is g = by_noted a c k ((path, part) ∷ []) from g
  by_question a c k from None is g = by_noted a c k [] from g
  by_question a c k from (Some Hello) is g = by_noted a c k [] from g
  by_question a c k from (Some (AddMatch text)) is g = by_noted a c k [] from g
  by_question a c k from (Some (RegisterEvent pattern)) is g = by_noted a c k [] from g
  by_question a c k from (Some GetChildren) is g = by_noted a c k [] from g

  -- an application that ended is no longer held
  by_ended : (a : ℕ) (k : Holding) → (l.from ≡ App a → ⊥) → (o : Option ℕ) → holding_of a (without_ended o h.holds) ≡ Some k → HeldAll es heard_now ls a k
  by_ended a k differ None g = other_held a k differ (old.held a k g)
  by_ended a k differ (Some c) g = at (c == a) refl
    where
      at : (b : Bool) → (c == a) ≡ b → HeldAll es heard_now ls a k
      at true e = absurd (no_none k (sym (without_it a h.holds) ∙ subst (λ n. holding_of a (without n h.holds) ≡ Some k) (eqb-true c a e) g))
      at false e = other_held a k differ (old.held a k (sym (without_other c a h.holds (λ same. false_true (sym e ∙ eq-eqb c a same))) ∙ g))

  by_party : (a : ℕ) (k : Holding) (p : Party) → l.from ≡ p → holding_of a (holds_of h w.ends l) ≡ Some k → HeldAll es heard_now ls a k
  by_party a k (App c) from g = by_question a c k from (question_returned m0 h.asked) refl (rw_from g)
    where
      rw_from : holding_of a (holds_of h w.ends l) ≡ Some k → holding_of a (holds_after c l.said (question_returned m0 h.asked) h.holds) ≡ Some k
      rw_from x = subst (λ p. holding_of a (holds_of h w.ends (record l { from = p })) ≡ Some k) from x
  by_party a k The_bus from g = by_ended a k (λ f. from_apart l a f from) (app_ended w.ends (record l { from = The_bus })) (subst (λ p. holding_of a (holds_of h w.ends (record l { from = p })) ≡ Some k) from g)
  by_party a k Registry from g = by_ended a k (λ f. false_true (ap (λ p. same_party p (App a)) (sym from ∙ f) ∙ party-same (App a))) None (subst (λ p. holding_of a (holds_of h w.ends (record l { from = p })) ≡ Some k) from g)
  by_party a k (Reader q) from g = by_ended a k (λ f. false_true (ap (λ p. same_party p (App a)) (sym from ∙ f) ∙ party-same (App a))) None (subst (λ p. holding_of a (holds_of h w.ends (record l { from = p })) ≡ Some k) from g)

  pub taken_all : HasAll es heard_now ls
  taken_all = record {
    held = λ a k g. by_party a k l.from refl g;
    loads = λ j o a from load.
        without_first es a j.said.message.serial l ls (λ f. lower (behind_first es who l ls t j o a f from)) (old.loads j (inr o) a from (subst IsLoad (same_returned m0 j.said.message h.asked) load));
  }
    where
      lower : {x y : ℕ} → x < y → x ≤ y
      lower g = omega (arith, g)

takes_deliver : (es : List Entry) (w : World) (d : Done) → Turned es w → Delivers es w → ReaderTakes w d → AllByRecursion NotTaken d.entries → Delivers (es ++ d.entries) d.world
takes_deliver es w d turned i b free =
    one_delivers es d.entries w d.world b.conn b.reader (f (taken_down b.e)) g i (changed_twice w d.world b.conn b.e f b.is_here.there (ap (λ x. x.world.ends) b.is)) free b.whose refl
    (λ live on.
    subst (HasAll (es ++ d.entries) g) (sym (ap rest_of b.link))
    (all_more es d.entries g b.rest free
    (taken_all es v b.reader b.hearer b.letter b.rest b.e.who (subst (Turns es b.e.who) b.link (turned.2 b.conn b.e b.is_here.there))
    (subst (HasAll es b.hearer) b.link (i live b.conn b.reader b.e b.hearer b.is_here.there b.whose b.role b.is_here.standing)))))
  where
    v : World
    v = received w b.conn b.e b.letter

    g : Hearer
    g = hears_letter b.hearer v.ends b.letter

    f : End → End
    f x = record x { role = a_reader g }

-- THE BUS TAKES A MESSAGE
hands_gives : (H : ℕ → Envelope → Type 0) (moves : List Move) → AllByRecursion (HandsOn (λ m. (c : ℕ) → H c m)) moves → AllByRecursion (Gives H) moves
hands_gives H [] a = tt
hands_gives H (delivers c m ∷ moves) a = (a.0 c, hands_gives H moves a.1)
hands_gives H (says m ∷ moves) a = (tt, hands_gives H moves a.1)
hands_gives H (closes c ∷ moves) a = (tt, hands_gives H moves a.1)

items_both : (k : ℕ) (es : List Entry) (w : World) (r : ℕ) (e : End) (h : Hearer) → RulesOf es w.bus.state.rules k r e h → AskedItems h.asked → Both k w.bus.state.rules
items_both k es w r e h i asked = by h.asked i.items asked
  where
    its : (q : Question) → is_items q ≡ true → ((name : List ℕ) → q ≡ GetItems name → Both k w.bus.state.rules) → Both k w.bus.state.rules
    its (GetItems name) g f = f name refl
    its Hello g f = absurd (false_true g)
    its (AddMatch text) g f = absurd (false_true g)
    its (RegisterEvent pattern) g f = absurd (false_true g)
    its GetChildren g f = absurd (false_true g)
    its (GetPart name path part) g f = absurd (false_true g)

    by : (xs : List Asked) → AllByRecursion (λ (a : Asked). (name : List ℕ) → a.question ≡ GetItems name → Both k w.bus.state.rules) xs → AskedItems xs → Both k w.bus.state.rules
    by [] a g = absurd g
    by (x ∷ xs) a (inl g) = its x.question g a.0
    by (x ∷ xs) a (inr g) = by xs a.1 g

module _ (es : List Entry) (w : World) (d : Done) (s : Shape w) (l : Linked es w) (n : Named es w) (g : Greeted w) (known : Known es w) (mail : Mail es w) (law : Each telling.Both [] es) (rests : Rested w) (ruled : Ruled es w) (i : Delivers es w) (b : BusTakes w d)
    (live : Lives es) where
  abbrev c0 : Carried
  c0 = record { bus = w.bus; ends = w.ends }

  abbrev e0 : Envelope
  e0 = b.said.message

  abbrev step : BusStep
  step = bus_takes w.bus.state b.conn e0 (rule_in e0)

  abbrev base : Carried
  base = record c0 { ends = with_end b.conn taken_up w.ends }

  abbrev done_ : Carried
  done_ = with_name b.conn (stepped (letter_of b.e.who b.said) base step)

  abbrev ys : List Entry
  ys = got The_bus b.e.who e0.serial ∷ bus_entries (takes c0 b.conn b.e.who b.said).ends (takes c0 b.conn b.e.who b.said).bus.own (takes c0 b.conn b.e.who b.said).bus.closings

  abbrev later : List Entry
  later = es ++ ys

  before : (j : ℕ) (z : End) → end_at d.world.ends j ≡ Some z → (x : End) × (end_at w.ends j ≡ Some x) × Goes_on x z
  before j z there = (subst (λ x. Over Goes_on w.ends x.world.ends) (sym b.is) (took_goes c0 b.conn b.e.who b.said)).back j z there

  there_now : (j : ℕ) (z : End) → end_at d.world.ends j ≡ Some z → end_at (takes c0 b.conn b.e.who b.said).ends j ≡ Some z
  there_now j z there = sym (ap (λ x. end_at x.world.ends j) b.is) ∙ there

  old : (j r : ℕ) (z : End) (h : Hearer) → (there : end_at d.world.ends j ≡ Some z) → z.who ≡ Reader r → z.role ≡ a_reader h → z.standing ≡ here → HasAll es h (before j z there).0.down
  old j r z h there who role on = let x = before j z there in i live j r x.0 h x.1 (sym x.2.whose ∙ who) (sym x.2.role ∙ role) (x.2.on on)

  -- its serial is the next
  serial_is : e0.serial ≡ first_unread es b.e.who
  serial_is = (subst (Ups (first_unread es b.e.who)) b.link (l.1 b.conn b.e b.is_here.there (ap is_here b.is_here.standing)).ups).0

  words_free : AllByRecursion NotTaken (bus_entries (takes c0 b.conn b.e.who b.said).ends (takes c0 b.conn b.e.who b.said).bus.own (takes c0 b.conn b.e.who b.said).bus.closings)
  words_free = bus_free (takes c0 b.conn b.e.who b.said).ends (takes c0 b.conn b.e.who b.said).bus.own (takes c0 b.conn b.e.who b.said).bus.closings

  -- what the bus took now, or had taken
  was_taken : (a k : ℕ) → k < first_unread later (App a) → (k < first_unread es (App a)) ⊎ ((b.e.who ≡ App a) × (k ≡ e0.serial))
  was_taken a k less = by (same_party b.e.who (App a)) refl
    where
      count : Bool → ℕ → ℕ
      count true x = suc x
      count false x = x

      words : List Entry
      words = bus_entries (takes c0 b.conn b.e.who b.said).ends (takes c0 b.conn b.e.who b.said).bus.own (takes c0 b.conn b.e.who b.said).bus.closings

      sum : count_got_by_bus later (App a) ≡ count_got_by_bus es (App a) + count_got_by_bus ys (App a)
      sum = count_more es ys (App a)

      none : count_got_by_bus words (App a) ≡ 0
      none = none_taken (App a) words words_free

      -- a number below the next, or the next
      below_or : (x y : ℕ) → x < suc y → (x < y) ⊎ (x ≡ y)
      below_or x zero h = inr (omega (arith, h))
      below_or zero (suc y) h = inl (omega arith)
      below_or (suc x) (suc y) h = up (below_or x y (omega (arith, h)))
        where
          up : (x < y) ⊎ (x ≡ y) → (suc x < suc y) ⊎ (suc x ≡ suc y)
          up (inl h) = inl (omega (arith, h))
          up (inr h) = inr (ap suc h)

      by : (t : Bool) → same_party b.e.who (App a) ≡ t → (k < first_unread es (App a)) ⊎ ((b.e.who ≡ App a) × (k ≡ e0.serial))
      by true h =
          let mine : b.e.who ≡ App a = same-party b.e.who (App a) h in
          let one : count_got_by_bus ys (App a) ≡ suc (count_got_by_bus words (App a)) = ap (λ t. count t (count_got_by_bus words (App a))) h in
          let total : first_unread later (App a) ≡ suc (first_unread es (App a)) = omega (arith, sum, one, none) in
          let next : e0.serial ≡ first_unread es (App a) = serial_is ∙ ap (first_unread es) mine in
          pick mine next (below_or k (first_unread es (App a)) (subst (λ z. k < z) total less))
        where
          pick : b.e.who ≡ App a → e0.serial ≡ first_unread es (App a) → (k < first_unread es (App a)) ⊎ (k ≡ first_unread es (App a)) → (k < first_unread es (App a)) ⊎ ((b.e.who ≡ App a) × (k ≡ e0.serial))
          pick mine next (inl x) = inl x
          pick mine next (inr x) = inr (mine, x ∙ sym next)
      by false h =
          let nothing : count_got_by_bus ys (App a) ≡ count_got_by_bus words (App a) = ap (λ t. count t (count_got_by_bus words (App a))) h in
          let total : first_unread later (App a) ≡ first_unread es (App a) = omega (arith, sum, nothing, none) in
          inl (subst (λ z. k < z) total less)

  said_ : IsSaid es b.e.who b.said
  said_ = (subst (AllByRecursion (IsSaid es b.e.who)) b.link (known b.conn b.e b.is_here.there).0).0

  -- a signal comes of one that has its name, and goes to each reader with both rules
  arrives : (a : ℕ) → b.e.who ≡ App a → e0.kind ≡ 4 → (j : ℕ) (z : End) → end_at d.world.ends j ≡ Some z → z.standing ≡ here → Both j w.bus.state.rules → StandsOn a e0.serial z.down
  arrives a who four j z there on both = by (unique_of w.bus.state.owners b.conn) refl
    where
      its : ForReaders e0
      its = signal_for es law a e0.serial e0 (subst (λ p. message es p e0.serial ≡ Some e0) who said_.was) four

      by : (o : Option (List ℕ)) → unique_of w.bus.state.owners b.conn ≡ o → StandsOn a e0.serial z.down
      by None none = absurd (no_call (g.hello b.conn b.e b.is_here.there b.is_here.standing none))
        where
          first_said : Said → List Said → Said
          first_said y [] = y
          first_said y (x ∷ xs) = x

          no_call : ((said : Said) × (rest : List Said) × (b.e.up ≡ said ∷ rest) × (is_hello said.message ≡ true)) → ⊥
          no_call y =
              let same : y.0 ≡ b.said = ap (first_said b.said) (sym y.2 ∙ b.link) in
              let hello : is_hello e0 ≡ true = subst (λ (x : Said). is_hello x.message ≡ true) same y.3 in
              one_four (first hello)
            where
              first : is_hello e0 ≡ true → e0.kind ≡ 1
              first h = eqb-true e0.kind 1 (and_left (e0.kind == 1) _ h)
                where
                  and_left : (x y : Bool) → (x && y) ≡ true → x ≡ true
                  and_left true y h = refl
                  and_left false y h = absurd (false_true h)

              one_four : e0.kind ≡ 1 → ⊥
              one_four h = absurd (omega (arith, h, four))
      by (Some own) named_ = (record { from = b.e.who; said = record b.said { message = signed } }, subst (λ x. On x z.down) letter_is on_it, who, refl)
        where
          signed : Envelope
          signed = record e0 { sender = Some own }

          unique : is_unique_name own ≡ true
          unique = unique_told es b.e.who own (named_is es w n mail.registry b.conn b.e b.is_here.there b.is_here.standing own named_)

          letter_is : letter_of b.e.who b.said signed ≡ record { from = b.e.who; said = record b.said { message = signed } }
          letter_is = ap (λ t. if t then own_letter signed else record { from = b.e.who; said = record b.said { message = signed } }) (not_the_bus own unique)

          signed_for : ForReaders signed
          signed_for = record { kind = its.kind; to_all = its.to_all; interface = its.interface }

          joined_j : IsIn j w.bus.state.joined
          joined_j = let x = before j z there in rests.joined j x.0 x.1 (x.2.on on)

          on_it : On (letter_of b.e.who b.said signed) z.down
          on_it =
              passed_on c0 b.conn b.e.who b.said signed j (handed_on w.bus.state b.conn e0 (rule_in e0) own its named_) (received_by w.bus.state j signed signed_for both.0 both.1 joined_j)
              (rests.joined b.conn b.e b.is_here.there b.is_here.standing) (due_joined w rests) z (there_now j z there) on

  -- so what stands behind stands there still
  behind_now : (j r : ℕ) (z : End) (h : Hearer) (there : end_at d.world.ends j ≡ Some z) → z.who ≡ Reader r → z.role ≡ a_reader h → z.standing ≡ here → AskedItems h.asked → (a k : ℕ) → AllBehind es a k (before j z there).0.down → AllBehind later a k z.down
  behind_now j r z h there who role on asked a k old_ at more less = by (was_taken a at less)
    where
      x : (e : End) × (end_at w.ends j ≡ Some e) × Goes_on e z
      x = before j z there

      rules_ : RulesOf es w.bus.state.rules j r x.0 h
      rules_ = ruled live j r x.0 h x.1 (sym x.2.whose ∙ who) (sym x.2.role ∙ role) (x.2.on on)

      by : (at < first_unread es (App a)) ⊎ ((b.e.who ≡ App a) × (at ≡ e0.serial)) → BehindAt later a z.down at
      by (inl low) =
          let y = old_ at more low in
          (y.0, found_more es ys (App a) at y.0 y.1, λ four. let q = y.2 four in (q.0, x.2.down on q.0 q.1, q.2, q.3))
      by (inr new) =
          subst (BehindAt later a z.down) (sym new.1)
          (e0, found_more es ys (App a) e0.serial e0 (subst (λ p. message es p e0.serial ≡ Some e0) new.0 said_.was), λ four. arrives a new.0 four j z there on (items_both j es w r x.0 h rules_ asked))

  -- LETTERS
  abbrev At : ℕ → Letter → Type 0
  At j letter =
      (z : End) → end_at d.world.ends j ≡ Some z → z.standing ≡ here → (r : ℕ) (h : Hearer) → z.who ≡ Reader r → z.role ≡ a_reader h
      → ((a : ℕ) → letter.from ≡ App a → IsLoad (question_returned letter.said.message h.asked) → AllBehind later a letter.said.message.serial z.down)
      × ((a : ℕ) (k : Holding) → letter.from ≡ App a → holding_of a h.holds ≡ Some k → k.last < letter.said.message.serial)

  own_at : (c : ℕ) (m : Envelope) → At c (own_letter m)
  own_at c m z there on r h who role = ((λ a from load. absurd (bus_apart a from)), (λ a k from held_. absurd (bus_apart a from)))
    where
      bus_apart : (a : ℕ) → The_bus ≡ App a → ⊥
      bus_apart a h = false_true (ap (λ p. same_party p (App a)) h ∙ party-same (App a))

  -- the message itself: nothing of its sender's was taken behind it
  its_at : (name : List ℕ) (c : ℕ) → At c (record { from = b.e.who; said = record b.said { message = record e0 { sender = Some name } } })
  its_at name c z there on r h who role = ((λ a from load at more less. absurd (never a at from more (was_taken a at less))), (λ a k from held_. below a from ((old c r z h there who role on).held a k held_).taken))
    where
      never : (a at : ℕ) → b.e.who ≡ App a → e0.serial < at → (at < first_unread es (App a)) ⊎ ((b.e.who ≡ App a) × (at ≡ e0.serial)) → ⊥
      never a at from more (inl low) = let next : e0.serial ≡ first_unread es (App a) = serial_is ∙ ap (first_unread es) from in absurd (omega (arith, next, more, low))
      never a at from more (inr same) = let is : at ≡ e0.serial = same.1 in absurd (omega (arith, more, is))

      below : {k : ℕ} → (a : ℕ) → b.e.who ≡ App a → k < first_unread es (App a) → k < e0.serial
      below {k} a from low = subst (λ x. k < x) (sym (serial_is ∙ ap (first_unread es) from)) low

  before_at : Downs At base.ends
  before_at = downs_with At taken_up b.conn w.ends (λ e a. a) (λ j e there. on_all (At j) e.down (λ letter o z at on r h who role. by j e there letter o z at on r h who role))
    where
      by : (j : ℕ) (e : End) → end_at w.ends j ≡ Some e → (letter : Letter) → On letter e.down → (z : End) → end_at d.world.ends j ≡ Some z → z.standing ≡ here → (r : ℕ) (h : Hearer) → z.who ≡ Reader r → z.role ≡ a_reader h
          → ((a : ℕ) → letter.from ≡ App a → IsLoad (question_returned letter.said.message h.asked) → AllBehind later a letter.said.message.serial z.down)
          × ((a : ℕ) (k : Holding) → letter.from ≡ App a → holding_of a h.holds ≡ Some k → k.last < letter.said.message.serial)
      by j e there letter o z at on r h who role =
          let x = before j z at in
          let same : e ≡ x.0 = same_some e x.0 (sym there ∙ x.1) in
          let was : On letter x.0.down = subst (λ (y : End). On letter y.down) same o in
          let all : HasAll es h x.0.down = old j r z h at who role on in (
            (λ a from load. behind_now j r z h at who role on (load_items letter.said.message h.asked load) a letter.said.message.serial (all.loads letter was a from load)),
            (λ a k from held_. (all.held a k held_).before letter was from),
          )

  as_own : (c : ℕ) (m : Envelope) → handing.IsOwn m → At c (letter_of b.e.who b.said m)
  as_own c m own = subst (At c) (sym (ap (λ t. if t then own_letter m else record { from = b.e.who; said = record b.said { message = m } }) own)) (own_at c m)

  as_its : (name : List ℕ) (c : ℕ) → At c (letter_of b.e.who b.said (record e0 { sender = Some name }))
  as_its name c = by (is_text (Some name) own_name) refl
    where
      by : (t : Bool) → is_text (Some name) own_name ≡ t → At c (letter_of b.e.who b.said (record e0 { sender = Some name }))
      by true h = as_own c (record e0 { sender = Some name }) h
      by false h =
          subst (At c) (sym (ap (λ t. if t then own_letter (record e0 { sender = Some name }) else record { from = b.e.who; said = record b.said { message = record e0 { sender = Some name } } }) h)) (its_at name c)

  whole : Downs At (takes c0 b.conn b.e.who b.said).ends
  whole =
      settled_downs At (λ c m f. own_at c m) (length w.bus.state.joined) done_
      (downs_with At (named (stepped (letter_of b.e.who b.said) base step).bus b.conn) b.conn (stepped (letter_of b.e.who b.said) base step).ends (λ e a. a)
      (stepped_downs At (letter_of b.e.who b.said) base step
      (hands_gives (PutsAt At (letter_of b.e.who b.said)) step.moves (takes_on (λ m. (c : ℕ) → At c (letter_of b.e.who b.said m)) w.bus.state b.conn e0 (rule_in e0) (λ m own c. as_own c m own) (λ name c. as_its name c))) before_at))

  pub took_all : (k r : ℕ) (z : End) (h : Hearer) → end_at d.world.ends k ≡ Some z → z.who ≡ Reader r → z.role ≡ a_reader h → z.standing ≡ here → HasAll later h z.down
  took_all k r z h there who role on = record {
    held = λ a j g.
        let y = all.held a j g in
        record {
          asked = y.asked;
          behind = behind_now k r z h there who role on y.asked a j.last y.behind;
          taken = more_taken a j.last y.taken;
          before = λ letter o from. (all_on (At k) z.down (whole k z (there_now k z there)) letter o z there on r h who role).1 a j from g;
        };
    loads = λ letter o a from load. (all_on (At k) z.down (whole k z (there_now k z there)) letter o z there on r h who role).0 a from load;
  }
    where
      all : HasAll es h (before k z there).0.down
      all = old k r z h there who role on

      more_taken : (a x : ℕ) → x < first_unread es (App a) → x < first_unread later (App a)
      more_taken a x low = let more = unread_more es ys (App a) in omega (arith, more, low)

-- THE BUS TAKES AN END
module _ (es : List Entry) (w : World) (d : Done) (i : Delivers es w) (b : BusEnds w d) (live : Lives es) (free : AllByRecursion NotTaken d.entries) where
  abbrev c1 : Carried
  c1 = record { bus = w.bus; ends = w.ends }

  before_end : (j : ℕ) (z : End) → end_at d.world.ends j ≡ Some z → (x : End) × (end_at w.ends j ≡ Some x) × Goes_on x z
  before_end j z there = (subst (λ x. Over Goes_on w.ends x.world.ends) (sym b.is) (ended_goes c1 b.conn)).back j z there

  there_end : (j : ℕ) (z : End) → end_at d.world.ends j ≡ Some z → end_at (takes_end c1 b.conn).ends j ≡ Some z
  there_end j z there = sym (ap (λ x. end_at x.world.ends j) b.is) ∙ there

  -- what stands on a link stood there, or is the bus's own
  abbrev Stood : ℕ → Letter → Type 0
  Stood j letter = (a : ℕ) → letter.from ≡ App a → (z : End) (there : end_at d.world.ends j ≡ Some z) → On letter (before_end j z there).0.down

  first_end : Downs Stood w.ends
  first_end j e there = on_all (Stood j) e.down (λ letter o a from z at. subst (λ (y : End). On letter y.down) (same_some e (before_end j z at).0 (sym there ∙ (before_end j z at).1)) o)

  own_end : (c : ℕ) (m : Envelope) → Fine 0 m → Stood c (own_letter m)
  own_end c m f a from z there = absurd (false_true (ap (λ p. same_party p (App a)) from ∙ party-same (App a)))

  whole_end : Downs Stood (takes_end c1 b.conn).ends
  whole_end = settled_downs Stood own_end (length w.bus.state.joined) (carrying.left c1 b.conn) (left_downs Stood own_end c1 b.conn first_end)

  pub ended_all : (k r : ℕ) (z : End) (h : Hearer) → end_at d.world.ends k ≡ Some z → z.who ≡ Reader r → z.role ≡ a_reader h → z.standing ≡ here → HasAll (es ++ d.entries) h z.down
  ended_all k r z h there who role on = all_more es d.entries h z.down free (record {
    held = λ a j g. let y = all.held a j g in record { asked = y.asked; behind = grown a j.last y.behind; taken = y.taken; before = λ letter o from. y.before letter (stood letter o a from) from };
    loads = λ letter o a from load. grown a letter.said.message.serial (all.loads letter (stood letter o a from) a from load);
  })
    where
      x : (e : End) × (end_at w.ends k ≡ Some e) × Goes_on e z
      x = before_end k z there

      all : HasAll es h x.0.down
      all = i live k r x.0 h x.1 (sym x.2.whose ∙ who) (sym x.2.role ∙ role) (x.2.on on)

      stood : (letter : Letter) → On letter z.down → (a : ℕ) → letter.from ≡ App a → On letter x.0.down
      stood letter o a from = all_on (Stood k) z.down (whole_end k z (there_end k z there)) letter o a from z there

      grown : (a low : ℕ) → AllBehind es a low x.0.down → AllBehind es a low z.down
      grown a low b s more less = let y = b s more less in (y.0, y.1, λ four. let q = y.2 four in (q.0, x.2.down on q.0 q.1, q.2, q.3))

-- AT THE BEGINNING
no_reader_first : (quota k r : ℕ) (x : End) → end_at (first_world quota).ends k ≡ Some x → x.who ≡ Reader r → ⊥
no_reader_first quota zero r x h who = false_true (ap is_reader (ap (λ (y : End). y.who) (same_some first_registry x h) ∙ who))
no_reader_first quota (suc k) r x h who = no_none x h

pub first_delivers : (quota : ℕ) → Delivers [] (first_world quota)
first_delivers quota live k r e h there who role on = absurd (no_reader_first quota k r e there who)

-- EACH CAUSE
free_as : (d x : Done) → d ≡ x → AllByRecursion NotTaken x.entries → AllByRecursion NotTaken d.entries
free_as d x is a = subst (λ y. AllByRecursion NotTaken y.entries) (sym is) a

module _ (es : List Entry) (w : World) (d : Done) (i : Delivers es w) (free : AllByRecursion NotTaken d.entries) where
  by_over : Over SameIn w.ends d.world.ends → Delivers (es ++ d.entries) d.world
  by_over o = quiet_delivers es d.entries w d.world i o free

  by_end : (f : End → End) (conn : ℕ) → ((e : End) → SameIn e (f e)) → d.world.ends ≡ with_end conn f w.ends → Delivers (es ++ d.entries) d.world
  by_end f conn same is = by_over (subst (Over SameIn w.ends) (sym is) (over_with SameIn same_in f same conn w.ends))

  by_both : (f : End → End) (conn : ℕ) (e : End) → end_at w.ends conn ≡ Some e → SameIn e (taken_down e) → ((x : End) → SameIn x (f x)) → d.world.ends ≡ with_end conn f (with_end conn taken_down w.ends) → Delivers (es ++ d.entries) d.world
  by_both f conn e there down same is =
      by_over
      (subst (Over SameIn w.ends) (sym is)
      (over_both SameIn same_in w.ends (with_end conn taken_down w.ends) (with_end conn f (with_end conn taken_down w.ends)) (over_at SameIn same_in taken_down conn w.ends e there down) (over_with SameIn same_in f same conn (with_end conn taken_down w.ends))))

  by_same : d.world.ends ≡ w.ends → Delivers (es ++ d.entries) d.world
  by_same is = by_over (subst (Over SameIn w.ends) (sym is) (over_same SameIn same_in w.ends))

  -- one joins, with nothing on its link, and a reader holds nothing
  by_join : (nu : End) → d.world.ends ≡ w.ends ++ nu ∷ [] → nu.down ≡ [] → ((h : Hearer) → nu.role ≡ a_reader h → h.holds ≡ []) → Delivers (es ++ d.entries) d.world
  by_join nu is down holds live k r e h there who role on = by (joined_cases w.ends nu k e (ap (λ l. end_at l k) (sym is) ∙ there))
    where
      by : (end_at w.ends k ≡ Some e) ⊎ ((k ≡ length w.ends) × (e ≡ nu)) → HasAll (es ++ d.entries) h e.down
      by (inl g) = all_more es d.entries h e.down free (i (lived es d.entries live) k r e h g who role on)
      by (inr g) =
          let none : h.holds ≡ [] = holds h (ap (λ (x : End). x.role) (sym g.1) ∙ role) in
          let empty : e.down ≡ [] = ap (λ (x : End). x.down) g.1 ∙ down in
          record {
            held = λ a j x. absurd (no_none j (sym (ap (holding_of a) none) ∙ x));
            loads = λ l o. absurd (subst (On l) empty o);
          }

app_same : (s t : Exporter) (x : End) → SameIn x (has_done s t x)
app_same s t x = not_reader x (has_done s t x) refl refl

registry_same : (step : RegistryStep) (x : End) → SameIn x (registry_did step x)
registry_same step x = not_reader x (registry_did step x) refl refl

no_role : (h : Hearer) (role : Role) → is_reader_role role ≡ false → role ≡ a_reader h → h.holds ≡ []
no_role h role none is = absurd (false_true (sym none ∙ ap is_reader_role is))

pub caused_delivers : (es : List Entry) (w : World) (d : Done) → Shape w → Linked es w → Named es w → Greeted w → Known es w → Mail es w → Each telling.Both [] es → Rested w → Ruled es w → Turned es w → Delivers es w → Effect w d → Delivers (es ++ d.entries) d.world
caused_delivers es w d s l n g known mail law rests ruled turned i (resets quota old is) =
    subst (λ x. Delivers (es ++ x.entries) x.world) (sym is) (λ live k r e h there who role on. absurd (no_reader_first quota k r e there who))
caused_delivers es w d s l n g known mail law rests ruled turned i (app_joins name short is) =
    by_join es w d i (free_as d (app_starts w name) is (tt, (tt, tt))) (new_app w name) (ap (λ x. x.world.ends) is ∙ app_joined w name) refl (λ h role. no_role h (new_app w name).role refl role)
caused_delivers es w d s l n g known mail law rests ruled turned i (reader_joins old is) =
    by_join es w d i (free_as d (reader_starts w) is (tt, (tt, tt))) (new_reader w) (ap (λ x. x.world.ends) is) refl (λ h role. ap (λ (x : Hearer). x.holds) (sym (same_hearer _ h role)))
caused_delivers es w d s l n g known mail law rests ruled turned i (app_edited b) =
    by_end es w d i (free_as d _ b.is (did_free _ b.after.out)) (has_done b.before b.after) b.conn (app_same b.before b.after) (ap (λ x. x.world.ends) b.is)
caused_delivers es w d s l n g known mail law rests ruled turned i (app_took b) =
    by_both es w d i (free_as d _ b.is (got_free b.e.who b.letter.from b.letter.said.message.serial (no_bus w b.conn b.e s b.is_here.there), did_free _ (app_takes b.before b.letter.said.message).out))
    (has_done b.before (app_takes b.before b.letter.said.message)) b.conn b.e b.is_here.there (not_reader b.e (taken_down b.e) refl (ap is_reader_role b.role)) (app_same b.before (app_takes b.before b.letter.said.message)) (ap (λ x. x.world.ends) b.is)
caused_delivers es w d s l n g known mail law rests ruled turned i (reader_called b) = calls_deliver es w d i b (free_as d _ b.is (tt, tt))
caused_delivers es w d s l n g known mail law rests ruled turned i (swapped b) = by_same es w d i (free_as d _ b.is tt) (ap (λ x. x.world.ends) b.is)
caused_delivers es w d s l n g known mail law rests ruled turned i (exited_ b) = by_end es w d i (free_as d _ b.is (tt, tt)) stops b.conn (λ x. gone_in x (stops x) refl refl) (ap (λ x. x.world.ends) b.is)
caused_delivers es w d s l n g known mail law rests ruled turned i (showed_ b) = by_same es w d i (free_as d _ b.is (tt, tt)) (ap (λ x. x.world.ends) b.is)
caused_delivers es w d s l n g known mail law rests ruled turned i (told_busy turns is) = by_same es w d i (free_as d _ is (tt, tt)) (ap (λ x. x.world.ends) is)
caused_delivers es w d s l n g known mail law rests ruled turned i (told_quiet none is) = by_same es w d i (free_as d _ is (tt, tt)) (ap (λ x. x.world.ends) is)
caused_delivers es w d s l n g known mail law rests ruled turned i (bus_took b) =
    λ live k r z h there who role on.
    subst (λ x. HasAll (es ++ x.entries) h z.down) (sym b.is) (took_all es w d s l n g known mail law rests ruled i b (lived es d.entries live) k r z h there who role on)
caused_delivers es w d s l n g known mail law rests ruled turned i (bus_ended b) =
    let c = carrying.takes_end (record { bus = w.bus; ends = w.ends }) b.conn in
    λ live k r z h there who role on. ended_all es w d i b (lived es d.entries live) (free_as d _ b.is (bus_free c.ends c.bus.own c.bus.closings)) k r z h there who role on
caused_delivers es w d s l n g known mail law rests ruled turned i (registry_took b) =
    by_both es w d i (free_as d _ b.is (got_free b.e.who b.letter.from b.letter.said.message.serial (no_bus w b.conn b.e s b.is_here.there), sent_free b.e.who (registry_takes b.before b.letter.said.message).sent))
    (registry_did (registry_takes b.before b.letter.said.message)) b.conn b.e b.is_here.there (not_reader b.e (taken_down b.e) refl (ap is_reader_role b.role)) (registry_same (registry_takes b.before b.letter.said.message)) (ap (λ x. x.world.ends) b.is)
caused_delivers es w d s l n g known mail law rests ruled turned i (reader_took b) =
    let v : World = received w b.conn b.e b.letter in
    takes_deliver es w d turned i b
    (free_as d _ b.is (
      got_free b.e.who b.letter.from b.letter.said.message.serial (no_bus w b.conn b.e s b.is_here.there),
      all_map (Act (λ p. ⊥)) NotTaken (heard_entries (number_of b.e.who) b.hearer v.ends b.letter) word_free (heard_act (λ p. ⊥) (number_of b.e.who) b.hearer v.ends b.letter b.letter.from refl),
    ))

pub moved_delivers : (es : List Entry) (w v : World) → Delivers es w → (MovedUp w v ⊎ MovedDown w v) → Delivers es v
moved_delivers es w v i (inl m) =
    subst (λ l. Delivers l v) (append-nil es) (quiet_delivers es [] w v i
    (subst (λ (x : World). Over SameIn w.ends x.ends) (sym m.after) (over_with SameIn same_in (λ e. record e { up_moved = e.up_moved + m.count }) (λ e. alike e (record e { up_moved = e.up_moved + m.count }) refl refl refl refl refl) m.conn w.ends)) tt)
moved_delivers es w v i (inr m) =
    subst (λ l. Delivers l v) (append-nil es) (quiet_delivers es [] w v i
    (subst (λ (x : World). Over SameIn w.ends x.ends) (sym m.after) (over_with SameIn same_in (λ e. record e { down_moved = e.down_moved + m.count }) (λ e. alike e (record e { down_moved = e.down_moved + m.count }) refl refl refl refl refl) m.conn w.ends)) tt)
