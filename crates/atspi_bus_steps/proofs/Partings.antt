-- A connection that leaves, as the definition has it.
use Rattle.std.proofs.Common.{◌≡◌, ◌≢◌, ℕ, ◌+◌, ◌≤◌, not, ◌||◌, List, [], ◌∷◌, ◌++◌, None, Some, sym, ap, ◌∙◌, append_assoc, arith}
use Rattle.std.specs.Prelude.{◌==◌}
use Rattle.std.specs.List.{filter, All}
use Rattle.std.proofs.lemmas.List.Kept.{IsStrictlyIncreasing-filter}
use Rattle.std.proofs.lemmas.List.Elements.{All-filter, All-append}
use Rattle.atspi_message.specs.Envelope.{Envelope}
use Rattle.atspi_names.specs.Owners.{Owners, after_gone, owned_by}
use Rattle.atspi_names.specs.Queue.{without}
use Rattle.atspi_names.proofs.BookLemmas.{list_of-lists_without}
use Rattle.atspi_match.specs.declared.condition.Condition.{Condition}
use Rattle.atspi_match.specs.RuleIndex.{without_rules}
use Rattle.atspi_bus_queues.specs.Held.{Held}
use Rattle.atspi_match.specs.routing.BusState.{OpenCall, BusState, unique_of, text_or_empty, calls_without}
use Rattle.atspi_match.specs.routing.OwnMessages.{owner_changed}
use Rattle.atspi_match.specs.routing.Steps.{speaks, farewell}
use Rattle.atspi_match.specs.routing.Queues.{Bus, without_queue, stepped, left}
use Rattle.atspi_bus_steps.specs.Farewell.{no_replies, names_pass_on, forgotten}
use Rattle.atspi_bus_steps.specs.Sound.{IsSound}
use Rattle.atspi_bus_steps.specs.Sayable.{MaySay}
use Rattle.atspi_bus_steps.proofs.Sayables.{say-no_replies, say-pass_on, say-changed, one_sayable}
use Rattle.atspi_bus_steps.proofs.Said.{none_said}

abbrev pub parting : Bus → ℕ → List ℕ → List Envelope
parting b conn unique =
    no_replies b.state.owners b.state.calls conn
    ++ (names_pass_on (after_gone b.state.owners conn) unique (owned_by b.state.owners.lists conn) ++ owner_changed unique unique [] ∷ [])

pub left-named : (b : Bus) (conn : ℕ) (unique : List ℕ) → unique_of b.state.owners conn ≡ Some unique
    → stepped (forgotten b conn) (speaks (forgotten b conn).state (parting b conn unique)) ≡ left b conn
left-named b conn unique is =
    let speak : List Envelope → Bus = λ es. stepped (forgotten b conn) (speaks (forgotten b conn).state es) in
    let after = after_gone b.state.owners conn in
    ap (λ u. speak (no_replies b.state.owners b.state.calls conn ++ (names_pass_on after (text_or_empty u) (owned_by b.state.owners.lists conn) ++ owner_changed unique unique [] ∷ []))) (sym is)
    ∙ ap (λ u. speak (farewell b.state after conn u)) (sym is)

pub left-unnamed : (b : Bus) (conn : ℕ) → unique_of b.state.owners conn ≡ None → forgotten b conn ≡ left b conn
left-unnamed b conn none =
    sym (none_said (forgotten b conn))
    ∙ ap (λ u. stepped (forgotten b conn) (speaks (forgotten b conn).state (farewell b.state (after_gone b.state.owners conn) conn u))) (sym none)

pub sound-forgotten : (b : Bus) (conn : ℕ) → IsSound b.state → IsSound (forgotten b conn).state
sound-forgotten b conn was = record {
  ready = record {
    rising = IsStrictlyIncreasing-filter (λ c. not (c == conn)) b.state.joined was.ready.rising;
    first = was.ready.first;
    last = was.ready.last;
  };
  given = was.given;
  named = λ name other. list_of-lists_without conn b.state.owners.lists name ∙ ap (without conn) (was.named name other);
  numbered = All-filter (λ (c : OpenCall). not (c.caller == conn || c.callee == conn)) (λ (c : OpenCall). c.serial ≢ 0) b.state.calls was.numbered;
}

-- a state that only its next number differs from a sound one
pub sound-next : (s : BusState) (n : ℕ) → IsSound s → s.next ≤ n → n ≤ 4294967296 → IsSound (record s { next = n })
sound-next s n was le last = record {
  ready = record { rising = was.ready.rising; first = let f = was.ready.first in omega arith; last = last };
  given = let g = was.given in omega arith;
  named = was.named;
  numbered = was.numbered;
}

-- a bus whose parts are those without the connection
pub forgotten-is : (b : Bus) (conn : ℕ) (joined : List ℕ) (owners : Owners) (rules : List (ℕ × List Condition)) (calls : List OpenCall) (held : Held)
    → joined ≡ filter (λ c. not (c == conn)) b.state.joined → owners ≡ after_gone b.state.owners conn → rules ≡ without_rules conn b.state.rules
    → calls ≡ calls_without conn b.state.calls → held ≡ record { quota = b.quota; waiting = without_queue b.waiting conn }
    → record b { quota = held.quota; state = record b.state { joined = joined; owners = owners; rules = rules; calls = calls }; waiting = held.waiting } ≡ forgotten b conn
forgotten-is b conn joined owners rules calls held j o r k h =
    λ i. record b { quota = (h i).quota; state = record b.state { joined = j i; owners = o i; rules = r i; calls = k i }; waiting = (h i).waiting }

-- what is told at a parting, put together
pub told-parting : (b : Bus) (conn : ℕ) (unique : List ℕ) (t0 t1 t2 t3 : List Envelope) (e : Envelope) (calls : List OpenCall) (after : Owners) (owned : List (List ℕ))
    → t0 ≡ [] → t1 ≡ t0 ++ no_replies b.state.owners calls conn → t2 ≡ t1 ++ names_pass_on after unique owned → t3 ≡ t2 ++ e ∷ []
    → e ≡ owner_changed unique unique [] → calls ≡ b.state.calls → after ≡ after_gone b.state.owners conn → owned ≡ owned_by b.state.owners.lists conn → t3 ≡ parting b conn unique
told-parting b conn unique t0 t1 t2 t3 e calls after owned none first second third is same gone mine =
    third ∙ ap (λ l. l ++ e ∷ []) (second ∙ ap (λ l. l ++ names_pass_on after unique owned) (first ∙ ap (λ l. l ++ no_replies b.state.owners calls conn) none))
    ∙ append_assoc (no_replies b.state.owners calls conn) (names_pass_on after unique owned) (e ∷ [])
    ∙ ap (λ k. no_replies b.state.owners k conn ++ (names_pass_on after unique owned ++ e ∷ [])) same
    ∙ ap (λ a. no_replies b.state.owners b.state.calls conn ++ (names_pass_on a unique owned ++ e ∷ [])) gone
    ∙ ap (λ o. no_replies b.state.owners b.state.calls conn ++ (names_pass_on (after_gone b.state.owners conn) unique o ++ e ∷ [])) mine
    ∙ ap (λ x. no_replies b.state.owners b.state.calls conn ++ (names_pass_on (after_gone b.state.owners conn) unique (owned_by b.state.owners.lists conn) ++ x ∷ [])) is

pub say-parting : (b : Bus) (conn : ℕ) (unique : List ℕ) → IsSound b.state → All MaySay (parting b conn unique)
say-parting b conn unique was =
    let after = after_gone b.state.owners conn in
    let owned = owned_by b.state.owners.lists conn in
    let changed = owner_changed unique unique [] in
    All-append MaySay (no_replies b.state.owners b.state.calls conn) (names_pass_on after unique owned ++ changed ∷ []) (say-no_replies b.state.owners b.state.calls conn was.numbered)
    (All-append MaySay (names_pass_on after unique owned) (changed ∷ []) (say-pass_on after unique owned) (one_sayable changed (say-changed unique unique [])))

pub le_more : (n k : ℕ) → n ≤ n + k
le_more n k = omega arith
