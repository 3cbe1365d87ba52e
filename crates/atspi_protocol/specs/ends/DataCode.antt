-- Types, values and messages as lists, from which they are read back: how a proof tells two of them apart.
use Rattle.std.specs.Prelude.{◌≡◌, refl, ◌==◌, ℕ, Bool, true, false, List, [], ◌∷◌, Option, Some, None, if◌then◌else◌}
use Rattle.std.specs.Coded.{Coded, code_by, coded_ℕ, coded_bool, coded_list, coded_option, coded×}
use mathlib.Core.Path.{ap, ◌∙◌}
use Rattle.atspi_types.specs.Kinds.{Num, byte, i16, u16, i32, u32, i64, u64, double, Kind, Kinds, number, boolean, text}
use Rattle.atspi_types.specs.Kinds.{path, signature, array, structure, variant, dictionary, no_kinds, kind}
use Rattle.atspi_types.specs.Data.{Data, Items, Entries, number_data, boolean_data, text_data, path_data}
use Rattle.atspi_types.specs.Data.{signature_data, array_data, structure_data, dictionary_data, variant_data, no_items}
use Rattle.atspi_types.specs.Data.{item, no_entries, entry}
use Rattle.atspi_types.specs.declared.fault.Order.{Order}
use Rattle.atspi_types.specs.declared.fault.Order.TheVariants.{Little, Big}
use Rattle.atspi_tree_model.specs.Forest.{Forest, nil, tree}
use Rattle.atspi_tree_model.specs.ForestCode.{forest_code}
use Rattle.atspi_message.specs.Envelope.{Envelope}

-- a kind of number by its place, and back
abbrev num_tag : Num → ℕ
num_tag byte = 0
num_tag i16 = 1
num_tag u16 = 2
num_tag i32 = 3
num_tag u32 = 4
num_tag i64 = 5
num_tag u64 = 6
num_tag double = 7

abbrev num_of : ℕ → Num
num_of t =
    if t == 0 then byte
    else if t == 1 then i16
    else if t == 2 then u16
    else if t == 3 then i32
    else if t == 4 then u32
    else if t == 5 then i64
    else if t == 6 then u64
    else double

num_of-num_tag : (n : Num) → num_of (num_tag n) ≡ n
num_of-num_tag byte = refl
num_of-num_tag i16 = refl
num_of-num_tag u16 = refl
num_of-num_tag i32 = refl
num_of-num_tag u32 = refl
num_of-num_tag i64 = refl
num_of-num_tag u64 = refl
num_of-num_tag double = refl

-- types as trees of a tag and a place, the types within a type below it
abbrev mutual
  kind_forest : Kind → Forest (ℕ × ℕ) → Forest (ℕ × ℕ)
  kind_forest (number n) rest = tree (0, num_tag n) nil rest
  kind_forest boolean rest = tree (1, 0) nil rest
  kind_forest text rest = tree (2, 0) nil rest
  kind_forest path rest = tree (3, 0) nil rest
  kind_forest signature rest = tree (4, 0) nil rest
  kind_forest (array k) rest = tree (5, 0) (kind_forest k nil) rest
  kind_forest (structure ks) rest = tree (6, 0) (kinds_forest ks) rest
  kind_forest variant rest = tree (7, 0) nil rest
  kind_forest (dictionary k v) rest = tree (8, 0) (kind_forest k (kind_forest v nil)) rest

  kinds_forest : Kinds → Forest (ℕ × ℕ)
  kinds_forest no_kinds = nil
  kinds_forest (kind k ks) = kind_forest k (kinds_forest ks)

-- the first of some types, and the second
abbrev first_kind : Kinds → Kind
first_kind no_kinds = boolean
first_kind (kind k ks) = k

abbrev second_kind : Kinds → Kind
second_kind no_kinds = boolean
second_kind (kind k ks) = first_kind ks

abbrev kind_by : ℕ × ℕ → Kinds → Kind
kind_by t ks =
    if t.0 == 0 then number (num_of t.1)
    else if t.0 == 1 then boolean
    else if t.0 == 2 then text
    else if t.0 == 3 then path
    else if t.0 == 4 then signature
    else if t.0 == 5 then array (first_kind ks)
    else if t.0 == 6 then structure ks
    else if t.0 == 7 then variant
    else dictionary (first_kind ks) (second_kind ks)

abbrev kinds_in : Forest (ℕ × ℕ) → Kinds
kinds_in nil = no_kinds
kinds_in (tree t below rest) = kind (kind_by t (kinds_in below)) (kinds_in rest)

mutual
  pub kinds_in-kind_forest : (k : Kind) (rest : Forest (ℕ × ℕ)) → kinds_in (kind_forest k rest) ≡ kind k (kinds_in rest)
  kinds_in-kind_forest (number n) rest = ap (λ m. kind (number m) (kinds_in rest)) (num_of-num_tag n)
  kinds_in-kind_forest boolean rest = refl
  kinds_in-kind_forest text rest = refl
  kinds_in-kind_forest path rest = refl
  kinds_in-kind_forest signature rest = refl
  kinds_in-kind_forest (array k) rest =
      ap (λ ks. kind (array (first_kind ks)) (kinds_in rest)) (kinds_in-kind_forest k nil)
  kinds_in-kind_forest (structure ks) rest = ap (λ l. kind (structure l) (kinds_in rest)) (kinds_in-kinds_forest ks)
  kinds_in-kind_forest variant rest = refl
  kinds_in-kind_forest (dictionary k v) rest =
      ap (λ ks. kind (dictionary (first_kind ks) (second_kind ks)) (kinds_in rest))
      (kinds_in-kind_forest k (kind_forest v nil) ∙ ap (kind k) (kinds_in-kind_forest v nil))

  pub kinds_in-kinds_forest : (ks : Kinds) → kinds_in (kinds_forest ks) ≡ ks
  kinds_in-kinds_forest no_kinds = refl
  kinds_in-kinds_forest (kind k ks) = kinds_in-kind_forest k (kinds_forest ks) ∙ ap (kind k) (kinds_in-kinds_forest ks)

abbrev kinds_code : Coded Kinds
kinds_code = code_by (Forest (ℕ × ℕ)) (forest_code (coded× coded_ℕ coded_ℕ)) kinds_forest kinds_in kinds_in-kinds_forest

-- a value by a tag, the place of its number's kind, its numbers or characters, and its types; the values within it
-- stand below it
abbrev Token : Type 0
Token = ℕ × (ℕ × (List ℕ × Kinds))

abbrev bit_of : Bool → ℕ
bit_of true = 1
bit_of false = 0

abbrev mutual
  data_forest : Data → Forest Token → Forest Token
  data_forest (number_data n x) rest = tree (0, (num_tag n, (x ∷ [], no_kinds))) nil rest
  data_forest (boolean_data b) rest = tree (1, (bit_of b, ([], no_kinds))) nil rest
  data_forest (text_data cs) rest = tree (2, (0, (cs, no_kinds))) nil rest
  data_forest (path_data bs) rest = tree (3, (0, (bs, no_kinds))) nil rest
  data_forest (signature_data ks) rest = tree (4, (0, ([], ks))) nil rest
  data_forest (array_data k ds) rest = tree (5, (0, ([], kind k no_kinds))) (items_forest ds) rest
  data_forest (structure_data ds) rest = tree (6, (0, ([], no_kinds))) (items_forest ds) rest
  data_forest (dictionary_data k v es) rest = tree (7, (0, ([], kind k (kind v no_kinds)))) (entries_forest es) rest
  data_forest (variant_data k d) rest = tree (8, (0, ([], kind k no_kinds))) (data_forest d nil) rest

  items_forest : Items → Forest Token
  items_forest no_items = nil
  items_forest (item d ds) = data_forest d (items_forest ds)

  entries_forest : Entries → Forest Token
  entries_forest no_entries = nil
  entries_forest (entry k v es) = data_forest k (data_forest v (entries_forest es))

abbrev first_number : List ℕ → ℕ
first_number [] = 0
first_number (x ∷ xs) = x

abbrev first_data : Items → Data
first_data no_items = boolean_data false
first_data (item d ds) = d

-- values two by two
abbrev entries_in : Items → Entries
entries_in no_items = no_entries
entries_in (item k no_items) = no_entries
entries_in (item k (item v ds)) = entry k v (entries_in ds)

abbrev data_by : Token → Items → Data
data_by t ds =
    if t.0 == 0 then number_data (num_of t.1.0) (first_number t.1.1.0)
    else if t.0 == 1 then boolean_data (t.1.0 == 1)
    else if t.0 == 2 then text_data t.1.1.0
    else if t.0 == 3 then path_data t.1.1.0
    else if t.0 == 4 then signature_data t.1.1.1
    else if t.0 == 5 then array_data (first_kind t.1.1.1) ds
    else if t.0 == 6 then structure_data ds
    else if t.0 == 7 then dictionary_data (first_kind t.1.1.1) (second_kind t.1.1.1) (entries_in ds)
    else variant_data (first_kind t.1.1.1) (first_data ds)

abbrev items_in : Forest Token → Items
items_in nil = no_items
items_in (tree t below rest) = item (data_by t (items_in below)) (items_in rest)

bit_of_bit : (b : Bool) → (bit_of b == 1) ≡ b
bit_of_bit true = refl
bit_of_bit false = refl

mutual
  pub items_in-data_forest : (d : Data) (rest : Forest Token) → items_in (data_forest d rest) ≡ item d (items_in rest)
  items_in-data_forest (number_data n x) rest = ap (λ m. item (number_data m x) (items_in rest)) (num_of-num_tag n)
  items_in-data_forest (boolean_data b) rest = ap (λ c. item (boolean_data c) (items_in rest)) (bit_of_bit b)
  items_in-data_forest (text_data cs) rest = refl
  items_in-data_forest (path_data bs) rest = refl
  items_in-data_forest (signature_data ks) rest = refl
  items_in-data_forest (array_data k ds) rest =
      ap (λ es. item (array_data k es) (items_in rest)) (items_in-items_forest ds)
  items_in-data_forest (structure_data ds) rest =
      ap (λ es. item (structure_data es) (items_in rest)) (items_in-items_forest ds)
  items_in-data_forest (dictionary_data k v es) rest =
      ap (λ fs. item (dictionary_data k v fs) (items_in rest)) (entries_in-entries_forest es)
  items_in-data_forest (variant_data k d) rest =
      ap (λ es. item (variant_data k (first_data es)) (items_in rest)) (items_in-data_forest d nil)

  pub items_in-items_forest : (ds : Items) → items_in (items_forest ds) ≡ ds
  items_in-items_forest no_items = refl
  items_in-items_forest (item d ds) = items_in-data_forest d (items_forest ds) ∙ ap (item d) (items_in-items_forest ds)

  pub entries_in-entries_forest : (es : Entries) → entries_in (items_in (entries_forest es)) ≡ es
  entries_in-entries_forest no_entries = refl
  entries_in-entries_forest (entry k v es) =
      ap entries_in
      (items_in-data_forest k (data_forest v (entries_forest es))
      ∙ ap (item k) (items_in-data_forest v (entries_forest es)))
      ∙ ap (entry k v) (entries_in-entries_forest es)

abbrev pub data_code : Coded Data
data_code =
    code_by (Forest Token) (forest_code (coded× coded_ℕ (coded× coded_ℕ (coded× (coded_list coded_ℕ) kinds_code))))
    (λ d. data_forest d nil) (λ f. first_data (items_in f)) (λ d. ap first_data (items_in-data_forest d nil))

abbrev is_little : Order → Bool
is_little Little = true
is_little Big = false

abbrev order_of : Bool → Order
order_of true = Little
order_of false = Big

pub order_of-is_little : (o : Order) → order_of (is_little o) ≡ o
order_of-is_little Little = refl
order_of-is_little Big = refl

abbrev order_code : Coded Order
order_code = code_by Bool coded_bool is_little order_of order_of-is_little

abbrev Name : Type 0
Name = Option (List ℕ)

abbrev name_code : Coded Name
name_code = coded_option (coded_list coded_ℕ)

-- a message as the tuple of its fields
abbrev pub envelope_code : Coded Envelope
envelope_code =
    code_by (Order × (ℕ × (ℕ × (ℕ × (Name × (Name × (Name × (Name × (Option ℕ × (Name × (Name × List Data)))))))))))
    (coded× order_code
    (coded× coded_ℕ
    (coded× coded_ℕ (coded× coded_ℕ (coded× name_code (coded× name_code (coded× name_code (coded× name_code
    (coded× (coded_option coded_ℕ) (coded× name_code (coded× name_code (coded_list data_code))))))))))))
    (λ e. (
      e.order,
      (
        e.kind,
        (
          e.flags,
          (
            e.serial,
            (
              e.path,
              (e.interface, (e.member, (e.error, (e.reply, (e.destination, (e.sender, e.body)))))),
            ),
          ),
        ),
      ),
    ))
    (λ p. record {
      order = p.0;
      kind = p.1.0;
      flags = p.1.1.0;
      serial = p.1.1.1.0;
      path = p.1.1.1.1.0;
      interface = p.1.1.1.1.1.0;
      member = p.1.1.1.1.1.1.0;
      error = p.1.1.1.1.1.1.1.0;
      reply = p.1.1.1.1.1.1.1.1.0;
      destination = p.1.1.1.1.1.1.1.1.1.0;
      sender = p.1.1.1.1.1.1.1.1.1.1.0;
      body = p.1.1.1.1.1.1.1.1.1.1.1;
    }) (λ _. refl)
