use Rattle.std.proofs.Common.{◌≡◌, ℕ, List, [], ◌∷◌, length, nat_cmp, refl, ap, ◌∙◌, arith}
use Rattle.std.specs.Prelude.{None}
use Rattle.std.specs.List.{fold}
use Rattle.std.specs.FinMap as finmap
use Rattle.std.specs.FinMap.{get-empty}
use Rattle.atspi_message.specs.Bytes.{written}
use Rattle.atspi_match.specs.routing.Queues.{Waiting, moved, or_nothing, queue_of}
use Rattle.atspi_match.specs.routing.Room.{one_}
use Rattle.atspi_match.specs.routing.Steps.{Move, delivers, bus_takes}
use Rattle.atspi_match.proofs.OfRouting.Known.{known}
use Rattle.atspi_match.proofs.OfRouting.Long.{full, fits}
use Rattle.atspi_live_bus_examples.specs.limits.Sized.{with_path, to, sent_to, in_room}
use Rattle.atspi_live_bus_examples.proofs.limits.cases.too_long.Goals as goal

-- nothing waits yet
nothing : length (queue_of finmap.empty 1) ≡ 0
nothing = ap (λ o. length (or_nothing o)) (get-empty nat_cmp 1)

-- the message goes to connection 1 alone
goes : (path : List ℕ) → (bus_takes in_room.state 0 (with_path path (to one_)) None).moves ≡ delivers 1 (with_path path (sent_to one_)) ∷ []
goes path = simp known refl

pub returns-clause-receiver : goal.returns-clause-receiver
returns-clause-receiver c = λ path over.
    ap (λ (ms : List Move). (fold (moved 16777216) in_room.waiting ms).due) (goes path)
    ∙ ap (λ (w : Waiting). w.due) (full 16777216 0 finmap.empty 1 (written (with_path path (sent_to one_))) nothing (omega (arith, over)))

pub returns-clause-nobody : goal.returns-clause-nobody
returns-clause-nobody c = λ path room.
    ap (λ (ms : List Move). (fold (moved 16777216) in_room.waiting ms).due) (goes path)
    ∙ ap (λ (w : Waiting). w.due) (fits 16777216 0 finmap.empty 1 (written (with_path path (sent_to one_))) nothing (omega (arith, room)))

pub returns-clause-joined : goal.returns-clause-joined
returns-clause-joined c = λ path. simp known refl
