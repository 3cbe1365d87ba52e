-- A reader asks what it wants to know next, or nothing.
use Rattle.std.proofs.Common.{◌≡◌, ◌⊎◌, inl, inr, ℕ, suc, ◌+◌, Bool, true, false, List, [], ◌∷◌, ◌++◌, length, map, Option, None, Some, refl, sym, ap, ◌∙◌, subst, arith}
use Rattle.std.specs.List.{AllByRecursion, list_all, list_any}
use Rattle.std.proofs.lemmas.List.{append-nil, append_assoc}
use Rattle.atspi_protocol.specs.declared.following.question.Question.{Question}
use Rattle.atspi_protocol.specs.declared.following.question.Question.TheVariants.{Hello, AddMatch, RegisterEvent, GetChildren, GetItems, GetPart}
use Rattle.atspi_protocol.specs.following.Calls.{asking}
use Rattle.atspi_protocol.specs.following.ReaderState.{Followed, Pending, Done, sends, ReaderState, start_calls}
use Rattle.atspi_protocol.specs.following.Takes as takes
use Rattle.atspi_protocol.specs.following.Takes.{asks_first, goes_on}
use Rattle.atspi_protocol.specs.following.Wishes.{wishes}
use Rattle.atspi_trace.specs.World.{Fate, waits, failed, Asked, Hearer}
use Rattle.atspi_trace.specs.Hearing.{is_answered, patterns_in, registers, rules_in, listens, may_ask}
use Rattle.atspi_trace.specs.Causes.{asks}
use Rattle.atspi_trace_caches.specs.settled.Laws.{question_of}
use Rattle.atspi_trace_laws.proofs.OfOrder.Parties.{false_true, all_append}
use Rattle.atspi_trace.specs.play.Playing.{silent}
use Rattle.atspi_trace_played.proofs.Facts.{Waits, IsLate, InOrder, NeverFailed, IsStarting, KnowsNothing, IsStarted, IsNamed, AsksWell}
use Rattle.atspi_trace_played.proofs.AskingWords.{all_weaker, all_of_test, test_of_all, any_front}
use Rattle.atspi_trace_played.proofs.AskingStarts.{starts_may, in_start}

-- ONE CALL MORE
abbrev pub with_call : List Asked → ℕ → Question → List Asked
with_call asked serial q = asked ++ record { serial = serial; question = q; fate = waits } ∷ []

pub spread_call : (asked : List Asked) (serial : ℕ) (q : Question) (to_come : List Question) → map question_of (with_call asked serial q) ++ to_come ≡ map question_of asked ++ q ∷ to_come
spread_call [] serial q to_come = refl
spread_call (a ∷ asked) serial q to_come = ap (λ l. a.question ∷ l) (spread_call asked serial q to_come)

never_waits : (q : Question) → NeverFailed q waits
never_waits q = by q
  where
    is_failed : Fate → Bool
    is_failed failed = true
    is_failed fate = false

    no : waits ≡ failed → ⊥
    no e = false_true (ap is_failed e)

    by : (p : Question) → NeverFailed p waits
    by Hello = no
    by (AddMatch rule) = no
    by (RegisterEvent pattern) = no
    by GetChildren = no
    by (GetItems name) = tt
    by (GetPart name path part) = tt

all_still : (counts : List ℕ → Question → Fate → Bool) (words : List (List ℕ)) (asked more : List Asked)
    → list_all (λ word. list_any (λ (a : Asked). counts word a.question a.fate) asked) words ≡ true → list_all (λ word. list_any (λ (a : Asked). counts word a.question a.fate) (asked ++ more)) words ≡ true
all_still counts words asked more h =
    all_of_test (λ word. list_any (λ (a : Asked). counts word a.question a.fate) (asked ++ more)) words
    (all_weaker (λ word. list_any (λ (a : Asked). counts word a.question a.fate) asked ≡ true) (λ word. list_any (λ (a : Asked). counts word a.question a.fate) (asked ++ more) ≡ true)
    (λ word e. any_front (λ (a : Asked). counts word a.question a.fate) asked more e) words
    (test_of_all (λ word. list_any (λ (a : Asked). counts word a.question a.fate) asked) words h))

pub sent_well : (h : Hearer) (t : ReaderState) (to_come : List Question) (q : Question) → AsksWell h (silent t) → t.pending ≡ None → InOrder (with_call h.asked h.next q) to_come → IsStarting (with_call h.asked h.next q) to_come
    → (t.to_come ≡ [] → to_come ≡ []) → AsksWell (asks q h) (silent (takes.asks (record t { to_come = to_come }) q))
sent_well h t to_come q a none order starting come = record {
  next = ap (λ n. n + 1) a.next ∙ one h.next;
  silent = refl;
  waiting = (h.asked, ap (λ n. with_call h.asked n q) (sym a.next), subst (λ p. Waits p h.asked) none a.waiting);
  order = order;
  starting = starting;
  returned = all_append (λ (z : Asked). NeverFailed z.question z.fate) h.asked (record { serial = h.next; question = q; fate = waits } ∷ []) a.returned (never_waits q, tt);
  started = by a.started;
  registry = a.registry;
  names = all_weaker (IsNamed h) (IsNamed (asks q h)) (λ f n. record { bus_name = n.bus_name; told = n.told }) t.apps a.names;
  distinct = a.distinct;
}
  where
    one : (n : ℕ) → n + 1 ≡ suc n
    one n = omega arith

    by : KnowsNothing (silent t) ⊎ IsStarted (silent t) h → KnowsNothing (silent (takes.asks (record t { to_come = to_come }) q)) ⊎ IsStarted (silent (takes.asks (record t { to_come = to_come }) q)) (asks q h)
    by (inl k) = inl (record { registry = k.registry; apps = k.apps })
    by (inr i) =
        inr (record {
          come = come i.come;
          listening = all_still listens (rules_in start_calls) h.asked _ i.listening;
          registered = all_still registers (patterns_in start_calls) h.asked _ i.registered;
        })

-- WHAT IT DOES: nothing more, or it sends one call of its own
pub record SendsNone (h : Hearer) (t u : ReaderState) : Type 0 where
  pub out : u.out ≡ t.out
  pub well : AsksWell h (silent u)

pub record SendsOne (h : Hearer) (t u : ReaderState) : Type 0 where
  pub question : Question
  pub out : u.out ≡ t.out ++ sends (asking t.next question) ∷ []
  pub answered : list_all is_answered h.asked ≡ true
  pub may : may_ask h question ≡ true
  pub well : AsksWell (asks question h) (silent u)

abbrev pub IsWish : Hearer → Question → Type 0
IsWish h q = (may_ask h q ≡ true) × IsLate q

no_calls : (q : Question) (qs : List Question) → q ∷ qs ≡ [] → ⊥
no_calls q qs e = let none : length (q ∷ qs) ≡ 0 = ap length e in omega (arith, none)

-- a state by its parts
abbrev state : List Question → Option Pending → Option (List ℕ) → List Followed → ℕ → List Done → ReaderState
state to_come pending registry apps next out = record { to_come = to_come; pending = pending; registry = registry; apps = apps; next = next; out = out }

abbrev Sends : Hearer → ReaderState → ReaderState → Type 0
Sends h t u = SendsNone h t u ⊎ SendsOne h t u

pub goes : (h : Hearer) (t : ReaderState) → AsksWell h (silent t) → AllByRecursion (IsWish h) (wishes t.apps) → SendsNone h t (goes_on t) ⊎ SendsOne h t (goes_on t)
goes h t a w = by t.to_come t.pending t.registry t.apps t.next t.out a w
  where
    by : (to_come : List Question) (pending : Option Pending) (registry : Option (List ℕ)) (apps : List Followed) (next : ℕ) (out : List Done)
        → AsksWell h (state to_come pending registry apps next []) → AllByRecursion (IsWish h) (wishes apps)
        → Sends h (state to_come pending registry apps next out) (goes_on (state to_come pending registry apps next out))
    by to_come (Some p) registry apps next out a w = inl (record { out = refl; well = a })
    by (q ∷ qs) None registry apps next out a w =
        let t : ReaderState = state (q ∷ qs) None registry apps next out in
        inr (record {
          question = q;
          out = refl;
          answered = a.waiting;
          may = may a.starting;
          well = sent_well h t qs q a refl (a.order.0, spread_call h.asked h.next q qs ∙ a.order.1, a.order.2) (starting a.starting) (λ e. absurd (no_calls q qs e));
        })
      where
        may : (q ∷ qs ≡ []) ⊎ (map question_of h.asked ++ q ∷ qs ≡ start_calls) → may_ask h q ≡ true
        may (inl e) = absurd (no_calls q qs e)
        may (inr e) = in_start (λ p. may_ask h p ≡ true) (map question_of h.asked) q qs e (starts_may h)

        starting : (q ∷ qs ≡ []) ⊎ (map question_of h.asked ++ q ∷ qs ≡ start_calls) → (qs ≡ []) ⊎ (map question_of (with_call h.asked h.next q) ++ qs ≡ start_calls)
        starting (inl e) = absurd (no_calls q qs e)
        starting (inr e) = inr (spread_call h.asked h.next q qs ∙ e)
    by [] None registry apps next out a w = first (wishes apps) w
      where
        first : (qs : List Question) → AllByRecursion (IsWish h) qs
            → Sends h (state [] None registry apps next out) (asks_first (state [] None registry apps next out) qs)
        first [] v = inl (record { out = refl; well = a })
        first (q ∷ qs) v =
            let t : ReaderState = state [] None registry apps next out in
            let more_late = all_append IsLate a.order.0 (q ∷ []) a.order.2 (v.0.1, tt) in
            let same : map question_of h.asked ≡ start_calls ++ a.order.0 = sym (append-nil (map question_of h.asked)) ∙ a.order.1 in
            inr (record {
              question = q;
              out = refl;
              answered = a.waiting;
              may = v.0.0;
              well = sent_well h t [] q a refl
                  (a.order.0 ++ q ∷ [], spread_call h.asked h.next q [] ∙ ap (λ l. l ++ q ∷ []) same ∙ append_assoc start_calls a.order.0 (q ∷ []), more_late) (inl refl) (λ e. refl);
            })

-- what it knows stays, and where no call is in flight nothing is left to be asked
pub apps_same : (t : ReaderState) → (goes_on t).apps ≡ t.apps
apps_same t = by t.to_come t.pending
  where
    first : (qs : List Question) → (asks_first t qs).apps ≡ t.apps
    first [] = refl
    first (q ∷ qs) = refl

    by : (to_come : List Question) (pending : Option Pending) → (goes_on (record t { to_come = to_come; pending = pending })).apps ≡ t.apps
    by to_come (Some p) = refl
    by (q ∷ qs) None = refl
    by [] None = at (wishes t.apps)
      where
        at : (qs : List Question) → (asks_first (record t { to_come = []; pending = None }) qs).apps ≡ t.apps
        at [] = refl
        at (q ∷ qs) = refl

pub idle_after : (t : ReaderState) → (goes_on t).pending ≡ None → ((goes_on t).to_come ≡ []) × (wishes (goes_on t).apps ≡ [])
idle_after t = by t.to_come t.pending
  where
    no_call : (p : Pending) → Some p ≡ None → ⊥
    no_call p e = false_true (ap is_none e)
      where
        is_none : Option Pending → Bool
        is_none None = true
        is_none (Some x) = false

    by : (to_come : List Question) (pending : Option Pending) → (goes_on (record t { to_come = to_come; pending = pending })).pending ≡ None
        → ((goes_on (record t { to_come = to_come; pending = pending })).to_come ≡ []) × (wishes (goes_on (record t { to_come = to_come; pending = pending })).apps ≡ [])
    by to_come (Some p) e = absurd (no_call p e)
    by (q ∷ qs) None e = absurd (no_call _ e)
    by [] None e = at (wishes t.apps) refl e
      where
        at : (qs : List Question) → wishes t.apps ≡ qs → (asks_first (record t { to_come = []; pending = None }) qs).pending ≡ None
            → ((asks_first (record t { to_come = []; pending = None }) qs).to_come ≡ []) × (wishes (asks_first (record t { to_come = []; pending = None }) qs).apps ≡ [])
        at [] is e = (refl, is)
        at (q ∷ qs) is e = absurd (no_call _ e)
