-- The list of one name: the connections that asked for it, each with the flags of its last request, the owner first
-- (D-Bus Specification, "RequestName" and "ReleaseName").
use Rattle.std.specs.Prelude.{◌≡◌, ℕ, Bool, false, not, ◌&&◌, ◌==◌, List, [], ◌∷◌, ◌++◌, map, filter, Option, None}
use Rattle.std.specs.Prelude.{Some, if◌then◌else◌, bit_and}
use Rattle.std.specs.List.{list_any}
use Rattle.atspi_names.specs.declared.change.OwnerChange.{OwnerChange}

-- flag 1: another connection may take the name over
abbrev pub allows_replacement : ℕ → Bool
allows_replacement flags = not (bit_and flags 1 == 0)

-- flag 2: the connection takes the name over, where its owner lets it
abbrev pub replaces_existing : ℕ → Bool
replaces_existing flags = not (bit_and flags 2 == 0)

-- flag 4: the connection does not wait for the name
abbrev pub forbids_queueing : ℕ → Bool
forbids_queueing flags = not (bit_and flags 4 == 0)

-- the connection owns the name or waits for it
abbrev pub stands : ℕ → List (ℕ × ℕ) → Bool
stands conn list = list_any (λ (e : ℕ × ℕ). e.0 == conn) list

-- the list without the connection
abbrev pub without : ℕ → List (ℕ × ℕ) → List (ℕ × ℕ)
without conn list = filter (λ (e : ℕ × ℕ). not (e.0 == conn)) list

-- the list with these flags at the connection
abbrev pub with_flags : ℕ → ℕ → List (ℕ × ℕ) → List (ℕ × ℕ)
with_flags conn flags list = map (λ (e : ℕ × ℕ). if e.0 == conn then (conn, flags) else e) list

-- the list with a new owner: the one that it replaced goes second unless it does not wait, and the others follow
abbrev pub taken_over : ℕ → ℕ → List (ℕ × ℕ) → List (ℕ × ℕ)
taken_over conn flags [] = (conn, flags) ∷ []
taken_over conn flags (replaced ∷ others) =
    (conn, flags) ∷ (if forbids_queueing replaced.1 then without conn others else replaced ∷ without conn others)

-- the list after a request with these flags, and the answer: 1 the connection is the new owner, 2 it waits, 3 the name
-- has an owner and the connection does not wait, 4 it was the owner already
abbrev pub requested : List (ℕ × ℕ) → ℕ → ℕ → List (ℕ × ℕ) × ℕ
requested [] conn flags = ((conn, flags) ∷ [], 1)
requested (first ∷ rest) conn flags =
    if first.0 == conn then ((conn, flags) ∷ rest, 4)
    else if allows_replacement first.1 && replaces_existing flags then (taken_over conn flags (first ∷ rest), 1)
    else if forbids_queueing flags then (without conn (first ∷ rest), 3)
    else if stands conn rest then (with_flags conn flags (first ∷ rest), 2)
    else ((first ∷ rest) ++ (conn, flags) ∷ [], 2)

-- the list after a release, and the answer: 1 the connection stood in it, 2 nobody has the name, 3 it is others'
abbrev pub released : List (ℕ × ℕ) → ℕ → List (ℕ × ℕ) × ℕ
released [] conn = ([], 2)
released (first ∷ rest) conn = (without conn (first ∷ rest), if stands conn (first ∷ rest) then 1 else 3)

-- the connection that owns the name
abbrev pub owner_in : List (ℕ × ℕ) → Option ℕ
owner_in [] = None
owner_in (first ∷ rest) = Some first.0

-- the connection is the owner
abbrev pub owns : ℕ → List (ℕ × ℕ) → Bool
owns conn [] = false
owns conn (first ∷ rest) = first.0 == conn

-- what an answer to a request tells of the connection: 1 it is the owner and was not, 4 it is the owner and was, 2 it
-- waits, 3 it does not stand in the list
pub record IsRequestAnswer (answer conn : ℕ) (old new : List (ℕ × ℕ)) : Type 0 where
  pub new_owner : (answer == 1) ≡ (owns conn new && not (owns conn old))
  pub already_owner : (answer == 4) ≡ owns conn old
  pub waits : (answer == 2) ≡ (stands conn new && not (owns conn new))
  pub stays_out : (answer == 3) ≡ not (stands conn new)

-- an answer, with the owners before and after
abbrev pub change : List (ℕ × ℕ) → List (ℕ × ℕ) × ℕ → OwnerChange
change before after = record { answer = after.1; before = owner_in before; after = owner_in after.0 }

abbrev pub request_change : List (ℕ × ℕ) → ℕ → ℕ → OwnerChange
request_change list conn flags = change list (requested list conn flags)

abbrev pub release_change : List (ℕ × ℕ) → ℕ → OwnerChange
release_change list conn = change list (released list conn)
