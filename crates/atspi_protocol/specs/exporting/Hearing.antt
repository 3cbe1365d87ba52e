-- Which listeners' patterns an application has heard of (AT-SPI2's interface file Registry). A pattern is a pair of a
-- bus name and a text.
use Rattle.std.specs.Prelude.{ℕ, ◌&&◌, not, Bool, List, [], ◌∷◌, ◌++◌, map, filter, Option, None, Some, codes, bytes_eq}
use Rattle.std.specs.Prelude.{encode_utf8_all, if◌then◌else◌}
use Rattle.std.specs.List.{list_any}
use Rattle.atspi_types.specs.Signatures.{type_bytes}
use Rattle.atspi_types.specs.Data.{Data, Items, text_data, array_data, structure_data, no_items, item}
use Rattle.atspi_base.specs.valid_names.Names.{is_bus_name}
use Rattle.atspi_message.specs.Envelope.{Envelope}
use Rattle.atspi_protocol.specs.ends.Places.{registry}
use Rattle.atspi_protocol.specs.ends.Covering.{covers}
use Rattle.atspi_protocol.specs.members.Asked.{is_text}
use Rattle.atspi_protocol.specs.exporting.Exporter.{Happening, hears, deaf}

abbrev pub is_pair : List ℕ × List ℕ → List ℕ × List ℕ → Bool
is_pair p q = bytes_eq p.0 q.0 && bytes_eq p.1 q.1

abbrev pub is_heard : List (List ℕ × List ℕ) → List ℕ × List ℕ → Bool
is_heard heard p = list_any (is_pair p) heard

-- some pattern covers an event with this name and minor word
abbrev pub is_covered : List (List ℕ × List ℕ) → List ℕ → List ℕ → Bool
is_covered heard event minor = list_any (λ (p : List ℕ × List ℕ). covers (encode_utf8_all p.1) event minor) heard

-- the pairs after a change, and what is told of it
pub record Change : Type 0 where
  pub heard : List (List ℕ × List ℕ)
  pub told : List Happening

abbrev pub unchanged : List (List ℕ × List ℕ) → Change
unchanged heard = record { heard = heard; told = [] }

-- a pair more, unless it is heard already; one less, if it is heard
abbrev pub one_more : List (List ℕ × List ℕ) → List ℕ × List ℕ → Change
one_more heard p =
    if is_heard heard p then unchanged heard else record { heard = heard ++ p ∷ []; told = hears p.0 p.1 ∷ [] }

abbrev pub one_less : List (List ℕ × List ℕ) → List ℕ × List ℕ → Change
one_less heard p =
    if is_heard heard p then record { heard = filter (λ q. not (is_pair p q)) heard; told = deaf p.0 p.1 ∷ [] }
    else unchanged heard

-- each pair once, where it stands first
abbrev pub firsts : List (List ℕ × List ℕ) → List (List ℕ × List ℕ)
firsts [] = []
firsts (p ∷ ps) = p ∷ filter (λ q. not (is_pair p q)) (firsts ps)

-- other pairs in place of those that were heard: first those fall away that are not among them, and then the new ones
-- are told
abbrev pub exchanged : List (List ℕ × List ℕ) → List (List ℕ × List ℕ) → Change
exchanged heard listed =
    let fallen = filter (λ p. not (is_heard listed p)) heard in
    let added = filter (λ p. not (is_heard heard p)) (firsts listed) in
    record {
      heard = filter (is_heard listed) heard ++ added;
      told = map (λ (p : List ℕ × List ℕ). deaf p.0 p.1) fallen ++ map (λ (p : List ℕ × List ℕ). hears p.0 p.1) added;
    }

-- the pair that the arguments of one of the registry's signals begin with: two texts, the first of which is a bus name
abbrev pub pair_in : List Data → Option (List ℕ × List ℕ)
pair_in (text_data bus ∷ text_data pattern ∷ rest) = if is_bus_name bus then Some (bus, pattern) else None
pair_in body = None

abbrev pub with_pair : (List (List ℕ × List ℕ) → List ℕ × List ℕ → Change) → List (List ℕ × List ℕ)
    → Option (List ℕ × List ℕ) → Change
with_pair change heard None = unchanged heard
with_pair change heard (Some p) = change heard p

-- what a signal changes, whoever sends it
abbrev pub heard_after : List (List ℕ × List ℕ) → Envelope → Change
heard_after heard e =
    if is_text e.interface registry then
    (if is_text e.member (codes "EventListenerRegistered") then with_pair one_more heard (pair_in e.body)
    else if is_text e.member (codes "EventListenerDeregistered") then with_pair one_less heard (pair_in e.body)
    else unchanged heard)
    else unchanged heard

-- the pairs of a list of structs of two texts, if the first of each is a bus name
abbrev pub pair_of : Data → Option (List ℕ × List ℕ)
pair_of (structure_data (item (text_data bus) (item (text_data pattern) no_items))) =
    if is_bus_name bus then Some (bus, pattern) else None
pair_of d = None

abbrev pub and_pair : Option (List ℕ × List ℕ) → Option (List (List ℕ × List ℕ)) → Option (List (List ℕ × List ℕ))
and_pair (Some p) (Some ps) = Some (p ∷ ps)
and_pair _ _ = None

abbrev pub all_pairs : Items → Option (List (List ℕ × List ℕ))
all_pairs no_items = Some []
all_pairs (item d ds) = and_pair (pair_of d) (all_pairs ds)

-- an empty list has the type of its elements too
abbrev pub pairs_in : List Data → Option (List (List ℕ × List ℕ))
pairs_in (array_data k ds ∷ []) = if bytes_eq (type_bytes k) (codes "(ss)") then all_pairs ds else None
pairs_in body = None
