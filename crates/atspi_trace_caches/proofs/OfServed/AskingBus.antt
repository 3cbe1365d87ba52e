-- How calls for items are kept where the bus takes a message, or an end: links grow, a message of the registry's is the next of its, and a call goes to whoever has the name that it is sent
-- to, which the reader was told as that of an application that embedded.
use Rattle.std.proofs.Common.{◌≡◌, ◌⊎◌, inl, inr, ℕ, ◌<◌, ◌≤◌, Bool, true, false, List, [], ◌∷◌, ◌++◌, Some, refl, sym, ap, ◌∙◌, subst, arith}
use Rattle.std.specs.Prelude.{◌||◌, bytes_eq}
use Rattle.std.specs.List.{AllByRecursion, list_any}
use Rattle.std.proofs.lemmas.List.{append-nil, append_assoc}
use Rattle.std.proofs.lemmas.Slice.Eq.{bytes_eq-Decides}
use Rattle.atspi_tree_model.specs.Forest.{first_of}
use Rattle.atspi_script_lines.specs.declared.line.Party.{Party}
use Rattle.atspi_script_lines.specs.declared.line.Party.TheVariants.{Bus as The_bus, Registry, App, Reader}
use Rattle.atspi_message.specs.Envelope.{Envelope}
use Rattle.atspi_match.specs.routing.BusState.{unique_of}
use Rattle.atspi_match.specs.routing.Queues.{Bus}
use Rattle.atspi_protocol.specs.declared.following.question.Question.TheVariants.{GetItems}
use Rattle.atspi_protocol.specs.following.Calls.{asking}
use Rattle.atspi_trace.specs.Entry.{Entry}
use Rattle.atspi_trace.specs.World.{here, Hearer, Said, Letter, End, World}
use Rattle.atspi_trace.specs.Ends.{is_here, same_party, end_at, put_down, taken_up, leaves}
use Rattle.atspi_trace.specs.Hearing.{question_in}
use Rattle.atspi_trace.specs.Carrying.{Carried, own_letter, letter_of, named, takes, takes_end}
use Rattle.atspi_trace_laws.specs.laws.Words.{message, question_if}
use Rattle.atspi_trace_laws.proofs.OfOrder.Parties.{party-same, false_true}
use Rattle.atspi_trace_laws.proofs.OfOrder.Frame.{Over, IsOrder, takes_over, ends_over}
use Rattle.atspi_trace_laws.proofs.OfOrder.Each.{each_of}
use Rattle.atspi_trace_laws.proofs.OfLinks.LawLinks.{first_unread}
use Rattle.atspi_trace_laws.proofs.OfOwn.Writing.{Lives}
use Rattle.atspi_trace_laws.proofs.OfHeld.LawHeld.{Readers}
use Rattle.atspi_trace_laws.proofs.OfTaken.LawTaken.{Known}
use Rattle.atspi_trace_laws.proofs.OfTurns.Turning.{IsBehind, Turns}
use Rattle.atspi_trace_laws.proofs.OfTurns.LawTurns.{AllTurn}
use Rattle.atspi_trace_laws.proofs.OfNames.LawNames.{Named}
use Rattle.atspi_trace_laws.proofs.OfNames.Places.{name_told}
use Rattle.atspi_trace_laws.proofs.OfSigned.Mail.{IsMail}
use Rattle.atspi_trace_laws.proofs.OfSigned.Self.{app_name}
use Rattle.atspi_trace_laws.proofs.OfSigned.LawMail.{Mail}
use Rattle.atspi_trace_laws.proofs.OfMissed.Arriving.{On}
use Rattle.atspi_trace_caches.proofs.OfServed.Facts.{Embeds, Carries, IsListed, AllListed}
use Rattle.atspi_trace_caches.proofs.OfServed.Asking.{HeardAt}
use Rattle.atspi_trace_caches.proofs.OfServed.AskingFrame.{IsItsCall, IsReadyFor, IsReady, questions, IsReader, IsApp, Asking, asked_at, on_back, IsPut, WasApp, asking_now}
use Rattle.atspi_trace_caches.proofs.OfServed.AskingKept.{Stays, stays_as, staying, IsCalm, no_service, calm_heard, all_items, was_reader, ready_over}

-- ENDS WHOSE LINKS GROW
pub record Grown (e d : End) : Type 0 where
  pub stays : Stays e d
  pub down : d.standing ≡ here → (more : List Letter) × (d.down ≡ e.down ++ more)

growing : IsOrder Grown
growing = record {
  same = λ e. record { stays = staying.same e; down = λ h. ([], sym (append-nil e.down)) };
  both = λ e d c f g. record {
    stays = staying.both e d c f.stays g.stays;
    down = λ h.
        let y = g.down h in
        let x = f.down (g.stays.on h) in
        (x.0 ++ y.0, y.1 ∙ ap (λ l. l ++ y.0) x.1 ∙ append_assoc e.down x.0 y.0);
  };
}

put_grown : (l : Letter) (e : End) → Grown e (put_down l e)
put_grown l e = record { stays = stays_as e (put_down l e) refl refl refl refl; down = λ h. (l ∷ [], refl) }

leaves_grown : (e : End) → Grown e (leaves e)
leaves_grown e = record {
  stays = record { whose = refl; on = λ h. absurd (false_true (ap is_here h)); reader = λ g is. (staying.same e).reader g is; name = λ n h. h };
  down = λ h. absurd (false_true (ap is_here h));
}

name_grown : (b : Bus) (conn : ℕ) (e : End) → Grown e (named b conn e)
name_grown b conn e = record {
  stays = record { whose = refl; on = λ h. h; reader = λ g is. (staying.same e).reader g is; name = λ n h. ap (λ o. first_of o (unique_of b.state.owners conn)) h };
  down = λ h. ([], sym (append-nil e.down));
}

up_grown : (e : End) → Grown e (taken_up e)
up_grown e = record { stays = stays_as e (taken_up e) refl refl refl refl; down = λ h. ([], sym (append-nil e.down)) }

pub took_grown : (c : Carried) (conn : ℕ) (who : Party) (said : Said) → Over Grown c.ends (takes c conn who said).ends
took_grown c conn who said = takes_over Grown growing (λ m e. put_grown (own_letter m) e) leaves_grown name_grown up_grown c conn who said (λ m e. put_grown (letter_of who said m) e)

pub ended_grown : (c : Carried) (conn : ℕ) → Over Grown c.ends (takes_end c conn).ends
ended_grown c conn = ends_over Grown growing (λ m e. put_grown (own_letter m) e) leaves_grown c conn

-- LETTERS
pub on_all : (P : Letter → Type 0) (ls : List Letter) → ((l : Letter) → On l ls → P l) → AllByRecursion P ls
on_all P [] f = tt
on_all P (x ∷ xs) f = (f x (inl refl), on_all P xs (λ l o. f l (inr o)))

all_on : (P : Letter → Type 0) (ls : List Letter) → AllByRecursion P ls → (l : Letter) → On l ls → P l
all_on P [] a l o = absurd o
all_on P (x ∷ xs) a l (inl h) = subst P h a.0
all_on P (x ∷ xs) a l (inr o) = all_on P xs a.1 l o

-- what stands further back comes behind
pub turns_apart : (es : List Entry) (who : Party) (xs ys : List Letter) (l k : Letter) → Turns es who (xs ++ ys) → On l xs → On k ys → IsBehind l k
turns_apart es who [] ys l k t o p = absurd o
turns_apart es who (x ∷ xs) ys l k t (inl same) p = subst (λ z. IsBehind z k) same (all_on (IsBehind x) (xs ++ ys) t.1 k (on_back k xs ys p))
turns_apart es who (x ∷ xs) ys l k t (inr o) p = turns_apart es who xs ys l k t.2 o p

-- WHAT GREW
module _ (es ys : List Entry) (w v : World) (o : Over Grown w.ends v.ends) (N : Letter → Type 0) (turn : AllTurn (es ++ ys) v.ends)
    (came : (j : ℕ) (y : End) (there : end_at v.ends j ≡ Some y) → y.standing ≡ here → AllByRecursion (λ l. On l (o.back j y there).0.down ⊎ N l) y.down)
    (nexts : (l : Letter) → N l → l.from ≡ Registry → first_unread es Registry ≤ l.said.message.serial)
    (goes : (j a : ℕ) (y : End) → IsApp v j a y → (l : Letter) → On l y.down → (k r : ℕ) (z : End) (h : Hearer) → IsReader v k r z h → IsItsCall (es ++ ys) r l → Embeds (es ++ ys) a) where
  pub over_stays : Over Stays w.ends v.ends
  over_stays = record { size = o.size; back = λ k d h. let x = o.back k d h in (x.0, x.1, x.2.stays) }

  module _ (j a : ℕ) (y : End) (is : IsApp v j a y) where
    abbrev d0 : End
    d0 = (o.back j y is.there).0

    grown : Grown d0 y
    grown = (o.back j y is.there).2

    abbrev more : List Letter
    more = (grown.down is.standing).0

    after : y.down ≡ d0.down ++ more
    after = (grown.down is.standing).1

    on_it : (l : Letter) → On l more → On l y.down
    on_it l p = subst (On l) (sym after) (on_back l d0.down more p)

    next : (l : Letter) → On l more → l.from ≡ Registry → first_unread es Registry ≤ l.said.message.serial
    next l p from = by (all_on (λ l. On l d0.down ⊎ N l) y.down (came j y is.there is.standing) l (on_it l p))
      where
        not_bus : l.from ≡ The_bus → ⊥
        not_bus h = false_true (ap (λ q. same_party q The_bus) (sym from ∙ h))

        never : l.said.message.serial < l.said.message.serial → ⊥
        never h = omega (arith, h)

        by : On l d0.down ⊎ N l → first_unread es Registry ≤ l.said.message.serial
        by (inl q) = absurd (never (turns_apart (es ++ ys) y.who d0.down more l l (subst (Turns (es ++ ys) y.who) after (turn j y is.there)) q p not_bus refl))
        by (inr n) = nexts l n from

    grown_app : WasApp es ys w v j a y
    grown_app = record {
      d = d0;
      was = record { there = (o.back j y is.there).1; whose = sym grown.stays.whose ∙ is.whose; standing = grown.stays.on is.standing };
      gone = [];
      kept = d0.down;
      more = more;
      before = refl;
      after = after;
      puts = on_all (IsPut es ys v a) more (λ l p. record { next = next l p; goes = λ k r z h reader c. goes j a y is l (on_it l p) k r z h reader c });
    }

  pub grown_asking : Asking es w → Lives (es ++ ys) → Readers es w → Known es w → Carries es (es ++ ys) w v → AllByRecursion IsCalm ys → Asking (es ++ ys) v
  grown_asking i live readers known carries c =
      asking_now es ys w v i live readers known carries (λ k r z h is. inr (was_reader es ys w v i live readers carries (all_items ys c) over_stays k r z h is)) (λ j a y is. inr (grown_app j a y is))
      (λ k r z h is. ready_over es ys w v i live readers carries (all_items ys c) over_stays k r z h is) (λ k r z h is a s. absurd (no_service es ys r a c s)) (λ k r z h name is named j a y app s. absurd (no_service es ys r a c s))
      (λ k r z h is a. each_of IsCalm (HeardAt r a) es ys (calm_heard r a) c)

-- WHERE A CALL FOR ITEMS GOES
pub in_list : (P : List ℕ → Type 0) (name : List ℕ) (xs : List (List ℕ)) → list_any (bytes_eq name) xs ≡ true → AllByRecursion P xs → P name
in_list P name [] h a = absurd (false_true h)
in_list P name (x ∷ xs) h a = by (bytes_eq name x) refl (λ k. in_list P name xs k a.1) h
  where
    by : (b : Bool) → bytes_eq name x ≡ b → (list_any (bytes_eq name) xs ≡ true → P name) → (b || list_any (bytes_eq name) xs) ≡ true → P name
    by true g ih k = subst P (sym ((bytes_eq-Decides name x).0 g)) a.0
    by false g ih k = ih k

-- to one that embedded, where its reader was told that name
pub goes_listed : (es : List Entry) (v : World) → Named es v → Mail es v → (j a : ℕ) (y : End) → IsApp v j a y → (l : Letter) → On l y.down → (r : ℕ) → (c : IsItsCall es r l) → IsListed es v.ends c.name → Embeds es a
goes_listed es v names mail j a y app l o r c told = by (subst (λ p. IsMail es p l) app.whose (all_on (IsMail es y.who) y.down (mail.downs j y app.there app.standing) l o))
  where
    not_bus : l.from ≡ The_bus → ⊥
    not_bus bus = false_true (ap (λ p. same_party p (Reader r)) (sym bus ∙ c.from) ∙ party-same (Reader r))

    not_registry : y.who ≡ Registry → ⊥
    not_registry who = false_true (ap (λ p. same_party p Registry) (sym app.whose ∙ who))

    by : IsMail es (App a) l → Embeds es a
    by (inl b) = absurd (not_bus b.from)
    by (inr p) = told.1 j a y app.there app.whose unique
      where
        is_it : l.said.message ≡ record p.first.message { sender = Some p.caller }
        is_it = ap (λ (x : Said). x.message) p.alike

        was : message es (Reader r) l.said.message.serial ≡ Some p.first.message
        was = ap (message es (Reader r)) (ap (λ (x : Envelope). x.serial) is_it) ∙ subst (λ q. message es q p.first.message.serial ≡ Some p.first.message) c.from p.sent_.was

        read : question_in p.first.message ≡ Some (GetItems c.name)
        read = sym (ap question_if was) ∙ c.call

        spelled : p.first.message ≡ asking p.first.message.serial (GetItems c.name)
        spelled = p.speech.asks r c.from (GetItems c.name) read

        to : l.said.message.destination ≡ Some c.name
        to = ap (λ (x : Envelope). x.destination) is_it ∙ ap (λ (x : Envelope). x.destination) spelled

        unique : y.unique ≡ Some c.name
        unique = (names.ends j y app.there).known not_registry ∙ ap (name_told es) app.whose ∙ app_name es a c.name (p.routed c.name to told.0)

module _ (es : List Entry) (v : World) (live : Lives es) (names : Named es v) (mail : Mail es v) (listed : AllListed es v) (readers : Readers es v)
    (ready : (k r : ℕ) (z : End) (h : Hearer) → IsReader v k r z h → AllByRecursion (IsReady es z h) (questions h)) where
  pub goes_to : (j a : ℕ) (y : End) → IsApp v j a y → (l : Letter) → On l y.down → (k r : ℕ) (z : End) (h : Hearer) → IsReader v k r z h → IsItsCall es r l → Embeds es a
  goes_to j a y app l o k r z h is c = goes_listed es v names mail j a y app l o r c told
    where
      it : IsReadyFor es z h c.name
      it = asked_at (IsReady es z h) l.said.message.serial h.asked (GetItems c.name) (sym ((readers k r z h is.there is.whose is.role).calls l.said.message.serial) ∙ c.call) (ready k r z h is) c.name refl

      told : IsListed es v.ends c.name
      told = in_list (IsListed es v.ends) c.name h.named it.listed (listed live k z h is.there is.role)
