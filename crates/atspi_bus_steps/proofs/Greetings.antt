-- Hello, as the definition has it.
use Rattle.std.proofs.Common.{◌≡◌, ◌≢◌, ℕ, ◌≤◌, Bool, true, false, cond, List, [], ◌∷◌, ◌++◌, length, Option, Some, ap, ◌∙◌, arith}
use Rattle.std.specs.Prelude.{if◌then◌else◌, codes}
use Rattle.std.specs.List.{All}
use Rattle.std.specs.Cmp.{nat_cmp_total, eq_by_cmp_equiv}
use Rattle.std.specs.FinMap as finmap
use Rattle.std.specs.FinMap.{get-insert}
use Rattle.std.proofs.lemmas.List.Elements.{All-nil, All-cons, All-append}
use Rattle.atspi_types.specs.Data.{text_data}
use Rattle.atspi_message.specs.Envelope.{Envelope}
use Rattle.atspi_names.specs.Owners.{Owners, after_hello, unique_name}
use Rattle.atspi_match.specs.routing.BusState.{BusState, unique_of, text_or_empty}
use Rattle.atspi_match.specs.routing.OwnMessages.{signal, return_to, owner_changed}
use Rattle.atspi_match.specs.routing.Routing.{expects_reply}
use Rattle.atspi_match.specs.routing.Steps.{BusStep, speaks, greets}
use Rattle.atspi_bus_steps.specs.Greeting.{greeting}
use Rattle.atspi_bus_steps.specs.Sayable.{MaySay}
use Rattle.atspi_bus_steps.proofs.Sayables.{say-signal, say-return, say-changed, one_sayable}

greeted_name : (owners : Owners) (conn : ℕ) → unique_of (after_hello owners conn) conn ≡ Some (unique_name owners.given)
greeted_name owners conn =
    get-insert nat_cmp_total owners.unique conn (unique_name owners.given) conn
    ∙ ap (λ b. cond b (Some (unique_name owners.given)) (finmap.get owners.unique conn)) ((eq_by_cmp_equiv nat_cmp_total).refl conn)

abbrev told_by : BusState → ℕ → Envelope → Option (List ℕ) → BusStep
told_by s conn e o =
    speaks (record s { owners = after_hello s.owners conn })
    ((if expects_reply e then return_to o e.serial (text_data (text_or_empty o) ∷ []) ∷ [] else [])
    ++ (signal (codes "NameAcquired") o (text_data (text_or_empty o) ∷ []) ∷ (owner_changed (text_or_empty o) [] (text_or_empty o) ∷ [])))

pub greets-is : (s : BusState) (conn : ℕ) (e : Envelope)
    → greets s conn e ≡ speaks (record s { owners = after_hello s.owners conn }) (greeting (unique_name s.owners.given) e)
greets-is s conn e = ap (told_by s conn e) (greeted_name s.owners conn)

pub say-greeting : (name : List ℕ) (e : Envelope) → e.serial ≢ 0 → All MaySay (greeting name e)
say-greeting name e some =
    let acquired = signal (codes "NameAcquired") (Some name) (text_data name ∷ []) in
    let changed = owner_changed name [] name in
    All-append MaySay (if expects_reply e then return_to (Some name) e.serial (text_data name ∷ []) ∷ [] else []) (acquired ∷ (changed ∷ [])) (by (expects_reply e))
    (All-cons MaySay acquired (changed ∷ []) (say-signal (codes "NameAcquired") (Some name) (text_data name ∷ []) (tt, tt)) (one_sayable changed (say-changed name [] name)))
  where
    by : (b : Bool) → All MaySay (cond b (return_to (Some name) e.serial (text_data name ∷ []) ∷ []) [])
    by true = one_sayable (return_to (Some name) e.serial (text_data name ∷ [])) (say-return (Some name) e.serial (text_data name ∷ []) some (tt, tt))
    by false = All-nil MaySay

pub greeting-two : (name : List ℕ) (e : Envelope) → 2 ≤ length (greeting name e)
greeting-two name e = by (expects_reply e)
  where
    by : (b : Bool) → 2 ≤ length (cond b (return_to (Some name) e.serial (text_data name ∷ []) ∷ []) [] ++ (signal (codes "NameAcquired") (Some name) (text_data name ∷ []) ∷ (owner_changed name [] name ∷ [])))
    by true = omega arith
    by false = omega arith
