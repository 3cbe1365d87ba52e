-- How contracts see arguments that lie in a body, and what comes next of them.
use Rattle.std.specs.Prelude.{◌≡◌, ℕ, ℤ, pos, negsuc, List, [], Option, Some, None, chars, map, codes, bytes_eq}
use Rattle.std.specs.Prelude.{position, if◌then◌else◌}
use Rattle.std.specs.Option.{option_map}
use Rattle.std.specs.Borrow.{Bor}
use Rattle.atspi_types.specs.Kinds.{i32, u32}
use Rattle.atspi_types.specs.Data.{Data, values_in, number_data, text_data, array_data, variant_data}
use Rattle.atspi_tables.specs.States.{state_names}
use Rattle.atspi_marshal_in_place.specs.Items.{item_data, elements_data}
use Rattle.atspi_marshal_in_place.specs.declared.cursor.Elements.{Elements}
use Rattle.atspi_marshal_in_place.specs.declared.cursor.Item.{Item}
use Rattle.atspi_tree_model.specs.declared.news.Reference.{Reference}
use Rattle.atspi_protocol.specs.news.Arguments.{Event, signed, text_in, number_in, then_text, then_path, then_signed}
use Rattle.atspi_protocol.specs.news.Arguments.{then_unsigned, then_variant, then_texts, then_numbers, then_reference}
use Rattle.atspi_reader_news.specs.declared.borrowed.ReferenceRef.{ReferenceRef}
use Rattle.atspi_reader_news.specs.declared.event.EventRef.{EventRef}

-- what came, and what stands behind it
abbrev pub together : {X : Type 0} → X → List Data → Option (X × List Data)
together x values = Some (x, values)

-- The next value is a text, and the others stand behind it; or it is none. The others are alike.
abbrev pub TextComes : Option (Bor (List ℕ)) → List Data → List Data → Type 0
TextComes result old new = then_text together old ≡ option_map (λ t. (chars t.now, new)) result

abbrev pub PathComes : Option (Bor (List ℕ)) → List Data → List Data → Type 0
PathComes result old new = then_path together old ≡ option_map (λ p. (p.now, new)) result

abbrev pub SignedComes : Option ℤ → List Data → List Data → Type 0
SignedComes result old new = then_signed together old ≡ option_map (λ n. (n, new)) result

abbrev pub UnsignedComes : Option ℕ → List Data → List Data → Type 0
UnsignedComes result old new = then_unsigned together old ≡ option_map (λ n. (n, new)) result

abbrev pub VariantComes : Option Item → List Data → List Data → Type 0
VariantComes result old new = then_variant together old ≡ option_map (λ x. (item_data x, new)) result

abbrev pub TextsCome : Option Elements → List Data → List Data → Type 0
TextsCome result old new = then_texts together old ≡ option_map (λ es. (map text_in (elements_data es), new)) result

abbrev pub NumbersCome : Option Elements → List Data → List Data → Type 0
NumbersCome result old new = then_numbers together old
    ≡ option_map (λ es. (map number_in (elements_data es), new)) result

-- a reference, and an event
abbrev pub reference_seen : ReferenceRef → Reference
reference_seen r = record { bus = chars r.bus.now; path = r.path.now }

abbrev pub ReferenceComes : Option ReferenceRef → List Data → List Data → Type 0
ReferenceComes result old new = then_reference together old ≡ option_map (λ r. (reference_seen r, new)) result

abbrev pub event_seen : EventRef → Event
event_seen e = record { minor = chars e.minor.now; detail1 = e.detail1; detail2 = e.detail2; value = item_data e.value }

-- the characters of a text, and a role
abbrev pub text_seen : Data → Option (List ℕ)
text_seen (text_data characters) = Some characters
text_seen value = None

abbrev pub if_not_negative : ℤ → Option ℕ
if_not_negative (pos n) = Some n
if_not_negative (negsuc n) = None

abbrev pub role_seen : Data → Option ℕ
role_seen (number_data u32 role) = Some role
role_seen (number_data i32 role) = if_not_negative (signed role)
role_seen value = None

-- a reference to one of the application's own objects
abbrev pub own_reference : List ℕ → Option Reference → Option Reference
own_reference bus None = None
own_reference bus (Some r) = if bytes_eq r.bus bus then Some r else None

-- the bit of a state
abbrev pub state_number : List ℕ → Option ℕ
state_number name = if bytes_eq (codes "default") name then Some 39 else position (λ n. bytes_eq n name) state_names

-- the elements of an array, and a number in a variant that is not negative
abbrev pub elements_seen : Data → List Data
elements_seen (array_data kind elements) = values_in elements
elements_seen value = []

abbrev if_count : ℤ → Option ℤ
if_count (pos n) = Some (pos n)
if_count (negsuc n) = None

abbrev in_variant : Data → Option ℤ
in_variant (number_data i32 x) = if_count (signed x)
in_variant value = None

abbrev pub count_seen : Data → Option ℤ
count_seen (variant_data kind value) = in_variant value
count_seen value = None
