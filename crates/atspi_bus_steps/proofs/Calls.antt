-- Open calls.
use Rattle.std.proofs.Common.{◌≡◌, ◌≢◌, ℕ, ◌+◌, ◌<◌, suc, Bool, true, false, cond, not, ◌&&◌, ◌||◌, List, [], ◌∷◌, ◌++◌, length, map, take, drop, get_or, refl, sym, ap, ◌∙◌, append-nil, append_assoc, drop-cons}
use Rattle.std.specs.Prelude.{◌==◌, codes}
use Rattle.std.specs.List.{filter, remove}
use Rattle.std.proofs.lemmas.Bool.Decides.{Decides-eqb}
use Rattle.std.proofs.lemmas.List.{take_more, map-append}
use Rattle.std.proofs.lemmas.List.Elements.{filter-append}
use Rattle.atspi_message.specs.Envelope.{Envelope}
use Rattle.atspi_names.specs.Owners.{Owners}
use Rattle.atspi_match.specs.routing.BusState as state
use Rattle.atspi_match.specs.routing.BusState.{unique_of, calls_without, waiting_for}
use Rattle.atspi_match.specs.routing.OwnMessages.{error_to}
use Rattle.atspi_match.specs.routing.Routing.{without_answered}
use Rattle.atspi_bus_steps.specs.InnerBus.{call_of}
use Rattle.atspi_bus_steps.specs.declared.open_call.OpenCall.{OpenCall}
use Rattle.atspi_bus_steps.specs.Farewell.{no_replies}

all_three : (a b c : Bool) → a ≡ true → b ≡ true → c ≡ true → (a && (b && c)) ≡ true
all_three a b c p q r = rw (p, q, r) refl

module _ (caller serial callee : ℕ) where
  abbrev is_answered : OpenCall → Bool
  is_answered c = c.caller == caller && (c.serial == serial && c.callee == callee)

  abbrev pub without : List OpenCall → List state.OpenCall
  without calls = without_answered (map call_of calls) caller serial callee

  -- none of the first calls is answered
  abbrev pub IsPast : List OpenCall → ℕ → Type 0
  IsPast calls i = without calls ≡ map call_of (take i calls) ++ without (drop i calls)

  at_front : (c : OpenCall) (calls : List OpenCall) (b : Bool) → is_answered c ≡ b → without (c ∷ calls) ≡ cond b (map call_of calls) (call_of c ∷ without calls)
  at_front c calls b e = ap (λ t. cond t (map call_of calls) (call_of c ∷ without calls)) e

  pub past_hit : (calls : List OpenCall) (i : ℕ) (d : OpenCall) → i < length calls → (get_or calls i d).caller ≡ caller → (get_or calls i d).serial ≡ serial → (get_or calls i d).callee ≡ callee
      → IsPast calls i → without calls ≡ map call_of (remove calls i)
  past_hit calls i d lt p q r was =
      let c = get_or calls i d in
      let hits : is_answered c ≡ true = all_three (c.caller == caller) (c.serial == serial) (c.callee == callee) ((Decides-eqb c.caller caller).1 p) ((Decides-eqb c.serial serial).1 q) ((Decides-eqb c.callee callee).1 r) in
      was
      ∙ ap (λ l. map call_of (take i calls) ++ without l) (drop-cons calls i d lt)
      ∙ ap (λ w. map call_of (take i calls) ++ w) (at_front c (drop (suc i) calls) true hits)
      ∙ sym (map-append call_of (take i calls) (drop (suc i) calls))

  pub past_all : (calls : List OpenCall) (i : ℕ) → take i calls ≡ calls → drop i calls ≡ [] → IsPast calls i → without calls ≡ map call_of calls
  past_all calls i all none was =
      was ∙ ap (λ r. map call_of (take i calls) ++ without r) none ∙ append-nil (map call_of (take i calls)) ∙ ap (map call_of) all

-- the calls that stay where a connection leaves
pub calls_stay : (conn : ℕ) (calls : List OpenCall) → map call_of (filter (λ (c : OpenCall). not (c.caller == conn || c.callee == conn)) calls) ≡ calls_without conn (map call_of calls)
calls_stay conn [] = refl
calls_stay conn (c ∷ calls) = by (not (c.caller == conn || c.callee == conn)) (calls_stay conn calls)
  where
    stay : List OpenCall
    stay = filter (λ (d : OpenCall). not (d.caller == conn || d.callee == conn)) calls

    by : (b : Bool) → map call_of stay ≡ calls_without conn (map call_of calls) → map call_of (cond b (c ∷ stay) stay) ≡ cond b (call_of c ∷ calls_without conn (map call_of calls)) (calls_without conn (map call_of calls))
    by true h = ap (λ (l : List state.OpenCall). call_of c ∷ l) h
    by false h = h

-- a call more
abbrev waits : ℕ → OpenCall → Bool
waits conn c = c.callee == conn && not (c.caller == conn)

abbrev pub told_of : Owners → OpenCall → Envelope
told_of owners c = error_to (unique_of owners c.caller) c.serial (codes "NoReply")

no_replies-more : (owners : Owners) (calls : List OpenCall) (conn i : ℕ) (d : OpenCall) → i < length calls
    → no_replies owners (map call_of (take (i + 1) calls)) conn ≡ no_replies owners (map call_of (take i calls)) conn ++ cond (waits conn (get_or calls i d)) (told_of owners (get_or calls i d) ∷ []) []
no_replies-more owners calls conn i d lt =
    let c = get_or calls i d in
    let f : state.OpenCall → Envelope = λ x. error_to (unique_of owners x.caller) x.serial (codes "NoReply") in
    let before : List state.OpenCall = map call_of (take i calls) in
    ap (λ l. no_replies owners (map call_of l) conn) (take_more calls i d lt)
    ∙ ap (λ l. no_replies owners l conn) (map-append call_of (take i calls) (c ∷ []))
    ∙ ap (map f) (filter-append (λ (x : state.OpenCall). x.callee == conn && not (x.caller == conn)) before (call_of c ∷ []))
    ∙ map-append f (waiting_for conn before) (cond (waits conn c) (call_of c ∷ []) [])
    ∙ ap (λ l. no_replies owners before conn ++ l) (by c (waits conn c))
  where
    by : (c : OpenCall) (b : Bool) → map (λ (x : state.OpenCall). error_to (unique_of owners x.caller) x.serial (codes "NoReply")) (cond b (call_of c ∷ []) []) ≡ cond b (told_of owners c ∷ []) []
    by c true = refl
    by c false = refl

differ : (a b : ℕ) → a ≢ b → (a == b) ≡ false
differ a b ne = by (a == b) refl
  where
    by : (t : Bool) → (a == b) ≡ t → t ≡ false
    by true e = absurd (ne ((Decides-eqb a b).0 e))
    by false e = refl

waits_yes : (conn : ℕ) (c : OpenCall) → c.callee ≡ conn → c.caller ≢ conn → waits conn c ≡ true
waits_yes conn c p q = rw ((Decides-eqb c.callee conn).1 p, differ c.caller conn q) refl

waits_no : (conn : ℕ) (c : OpenCall) → c.callee ≢ conn → waits conn c ≡ false
waits_no conn c p = rw (differ c.callee conn p) refl

waits_own : (conn : ℕ) (c : OpenCall) → c.callee ≡ conn → c.caller ≡ conn → waits conn c ≡ false
waits_own conn c p q = rw ((Decides-eqb c.callee conn).1 p, (Decides-eqb c.caller conn).1 q) refl

module _ (owners : Owners) (calls : List OpenCall) (conn i : ℕ) (d : OpenCall) (lt : i < length calls) (first before : List Envelope)
    (so_far : before ≡ first ++ no_replies owners (map call_of (take i calls)) conn) where
  pub told_more : (after : List Envelope) (e : Envelope) → (get_or calls i d).callee ≡ conn → (get_or calls i d).caller ≢ conn → after ≡ before ++ e ∷ []
      → e ≡ told_of owners (get_or calls i d) → after ≡ first ++ no_replies owners (map call_of (take (i + 1) calls)) conn
  told_more after e p q new is =
      new ∙ ap (λ l. l ++ e ∷ []) so_far ∙ ap (λ x. (first ++ no_replies owners (map call_of (take i calls)) conn) ++ x ∷ []) is
      ∙ append_assoc first (no_replies owners (map call_of (take i calls)) conn) (told_of owners (get_or calls i d) ∷ [])
      ∙ ap (λ l. first ++ l) (sym (no_replies-more owners calls conn i d lt ∙ ap (λ b. no_replies owners (map call_of (take i calls)) conn ++ cond b (told_of owners (get_or calls i d) ∷ []) []) (waits_yes conn (get_or calls i d) p q)))

  not_told : waits conn (get_or calls i d) ≡ false → before ≡ first ++ no_replies owners (map call_of (take (i + 1) calls)) conn
  not_told other =
      so_far
      ∙ ap (λ l. first ++ l) (sym (no_replies-more owners calls conn i d lt ∙ ap (λ b. no_replies owners (map call_of (take i calls)) conn ++ cond b (told_of owners (get_or calls i d) ∷ []) []) other
      ∙ append-nil (no_replies owners (map call_of (take i calls)) conn)))

  pub told_not : (get_or calls i d).callee ≢ conn → before ≡ first ++ no_replies owners (map call_of (take (i + 1) calls)) conn
  told_not p = not_told (waits_no conn (get_or calls i d) p)

  pub told_own : (get_or calls i d).callee ≡ conn → (get_or calls i d).caller ≡ conn → before ≡ first ++ no_replies owners (map call_of (take (i + 1) calls)) conn
  told_own p q = not_told (waits_own conn (get_or calls i d) p q)
