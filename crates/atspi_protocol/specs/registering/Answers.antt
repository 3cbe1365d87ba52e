-- What the registry does when it is called, a line for each member (AT-SPI2's registry, socket and accessible
-- interfaces).
use Rattle.std.specs.Prelude.{ℕ, ℤ, pos, negsuc, min, ◌+◌, List, [], ◌∷◌, ◌++◌, length, map, remove, slice_get, Option}
use Rattle.std.specs.Prelude.{None, Some, codes, bytes_eq, encode_utf8_all, if◌then◌else◌}
use Rattle.std.specs.List.{list_any}
use Rattle.atspi_types.specs.Kinds.{u32, kind, no_kinds, structure, text, variant}
use Rattle.atspi_types.specs.Data.{Data, number_data, text_data, path_data, structure_data, array_data, dictionary_data}
use Rattle.atspi_types.specs.Data.{variant_data, item, no_items, items_of, entries_of, type_of}
use Rattle.atspi_message.specs.Envelope.{Envelope}
use Rattle.atspi_protocol.specs.ends.Places.{registry_path, root_path, null_path, reference, references, registry_root}
use Rattle.atspi_protocol.specs.ends.Messages.{Reply, returns, fails}
use Rattle.atspi_protocol.specs.declared.members.member.ObjectMember.{ObjectMember}
use Rattle.atspi_protocol.specs.declared.members.member.ObjectMember.TheVariants as members
use Rattle.atspi_protocol.specs.declared.members.property.ObjectProperty.{ObjectProperty}
use Rattle.atspi_protocol.specs.declared.members.property.ObjectProperty.TheVariants as property_names
use Rattle.atspi_protocol.specs.members.Table.{PropertyLine}
use Rattle.atspi_protocol.specs.members.Objects as objects
use Rattle.atspi_protocol.specs.members.Objects.{Object}
use Rattle.atspi_protocol.specs.members.Arguments.{text_at, signed_at}
use Rattle.atspi_protocol.specs.members.Asked.{Asked, calls, gets, gets_all, sets}
use Rattle.atspi_protocol.specs.registering.RegistryState.{RegistryState, is_of, has_pair, without_pair, child_place}
use Rattle.atspi_protocol.specs.registering.Told.{count, registered, deregistered, id_call, child_added, child_removed}

-- what a call does: the pairs, the children and the count of embedded roots after it; what is told before the reply;
-- the reply; and what is told behind it
pub record Answer : Type 0 where
  pub pairs : List (List ℕ × List ℕ)
  pub children : List (List ℕ × List ℕ)
  pub embeds : ℕ
  pub before : List Envelope
  pub reply : Reply
  pub behind : List Envelope

-- a reply that changes nothing
abbrev pub only : RegistryState → Reply → Answer
only s reply =
    record { pairs = s.pairs; children = s.children; embeds = s.embeds; before = []; reply = reply; behind = [] }

-- a pattern of the caller's is kept, and told where it is new; and it is no longer kept, and that is told where it was
abbrev pub registers : RegistryState → List ℕ → List ℕ → Answer
registers s caller pattern =
    if has_pair s.pairs caller pattern then only s (returns [])
    else record (only s (returns []))
    { pairs = s.pairs ++ (caller, pattern) ∷ []; before = registered (caller, pattern) ∷ [] }

abbrev pub deregisters : RegistryState → List ℕ → List ℕ → Answer
deregisters s caller pattern =
    if has_pair s.pairs caller pattern
    then record (only s (returns []))
    { pairs = without_pair s.pairs caller pattern; before = deregistered (caller, pattern) ∷ [] }
    else only s (returns [])

-- the first argument, where it is a reference: its bus name and its path
abbrev pub reference_in : List Data → List ℕ × List ℕ
reference_in (structure_data (item (text_data name) (item (path_data place) no_items)) ∷ ds) = (name, place)
reference_in ds = ([], [])

-- the root of the caller becomes a child: it is returned to, gets its number, and that is told
abbrev pub new_child : RegistryState → List ℕ × List ℕ → Answer
new_child s child = record (only s (returns (registry_root ∷ []))) {
  children = s.children ++ child ∷ [];
  embeds = min (s.embeds + 1) 2147483647;
  behind = id_call child s.embeds ∷ child_added s.pairs (length s.children) child;
}

-- at most once
abbrev pub adopts : RegistryState → List ℕ × List ℕ → Answer
adopts s child = if list_any (is_of child.0) s.children then only s (returns (registry_root ∷ []))
    else new_child s child

-- the child at a place goes, if there is one, and that is told
abbrev pub children_without : List (List ℕ × List ℕ) → Option ℕ → List (List ℕ × List ℕ)
children_without children None = children
children_without children (Some i) = remove children i

abbrev pub news_of_removal_at : List (List ℕ × List ℕ) → ℕ → Option (List ℕ × List ℕ) → List Envelope
news_of_removal_at pairs i None = []
news_of_removal_at pairs i (Some child) = child_removed pairs i child

abbrev pub news_of_removal : List (List ℕ × List ℕ) → List (List ℕ × List ℕ) → Option ℕ → List Envelope
news_of_removal pairs children None = []
news_of_removal pairs children (Some i) = news_of_removal_at pairs i (slice_get children i)

-- the child of the caller goes, if it has one
abbrev pub releases : RegistryState → List ℕ → Answer
releases s caller = record (only s (returns [])) {
  children = children_without s.children (child_place s.children caller);
  before = news_of_removal s.pairs s.children (child_place s.children caller);
}

-- a caller embeds or takes back only its own root: one whose bus name is the caller's
abbrev pub if_own : RegistryState → List ℕ → List ℕ × List ℕ → Answer → Answer
if_own s caller r a = if bytes_eq (encode_utf8_all r.0) caller then a else only s (fails (codes "InvalidArgs"))

-- the pairs as values
abbrev pub pairs_data : List (List ℕ × List ℕ) → Data
pairs_data pairs =
    array_data (structure (kind text (kind text no_kinds)))
    (items_of (map (λ (p : List ℕ × List ℕ). structure_data (items_of (text_data p.0 ∷ text_data p.1 ∷ []))) pairs))

-- a child, or nobody, which is told by the registry's own name
abbrev pub child_or_nobody : List ℕ → Option (List ℕ × List ℕ) → Data
child_or_nobody own None = reference own null_path
child_or_nobody own (Some child) = reference child.0 child.1

-- the child at an index, of which none is below 0
abbrev pub child_at : List (List ℕ × List ℕ) → List ℕ → ℤ → Data
child_at children own (negsuc n) = child_or_nobody own None
child_at children own (pos n) = child_or_nobody own (slice_get children n)

-- the properties of the registry's root, and their values
abbrev pub property_data : RegistryState → ObjectProperty → Data
property_data s property_names.ChildCount = count (length s.children)
property_data s _ = text_data (codes "main")

abbrev pub as_variant : Data → Data
as_variant d = variant_data (type_of d) d

abbrev pub all_properties : RegistryState → List PropertyLine → Data
all_properties s ls =
    dictionary_data text variant
    (entries_of (map (λ (l : PropertyLine). (text_data l.name, as_variant (property_data s l.property))) ls))

-- the line of each member
abbrev pub answers_member : ObjectMember → RegistryState → List ℕ → List ℕ → List Data → Answer
answers_member members.RegisterEvent s own caller args = registers s caller (text_at 0 args)
answers_member members.DeregisterEvent s own caller args = deregisters s caller (text_at 0 args)
answers_member members.GetRegisteredEvents s own caller args = only s (returns (pairs_data s.pairs ∷ []))
answers_member members.Embed s own caller args =
    if_own s caller (reference_in args) (adopts s (caller, (reference_in args).1))
answers_member members.Unembed s own caller args = if_own s caller (reference_in args) (releases s caller)
answers_member members.GetChildren s own caller args = only s (returns (references s.children ∷ []))
answers_member members.GetChildAtIndex s own caller args =
    only s (returns (child_at s.children own (signed_at 0 args) ∷ []))
answers_member members.GetRole s own caller args = only s (returns (number_data u32 14 ∷ []))
answers_member members.GetRoleName s own caller args = only s (returns (text_data (codes "desktop frame") ∷ []))
answers_member members.Ping s own caller args = only s (returns [])
answers_member _ s own caller args = only s (fails (codes "UnknownMethod"))

-- what is asked of one of the registry's objects; none of its properties can be set
abbrev pub answers : Asked → RegistryState → List ℕ → List ℕ → Answer
answers (calls member args) s own caller = answers_member member s own caller args
answers (gets property) s own caller = only s (returns (as_variant (property_data s property) ∷ []))
answers (gets_all ls) s own caller = only s (returns (all_properties s ls ∷ []))
answers (sets property d) s own caller = only s (fails (codes "PropertyReadOnly"))

-- the registry's objects: the one for listeners, and its root
abbrev pub object_at : Option (List ℕ) → Option Object
object_at None = None
object_at (Some path) =
    if bytes_eq path registry_path then Some objects.registry_object
    else if bytes_eq path root_path then Some objects.registry_root
    else None
