-- The properties of the registry's objects.
use Rattle.std.proofs.Common.{◌≡◌, ℕ, Bool, true, false, cond, List, [], ◌∷◌, refl, sym, ap, ◌∙◌, subst, chars, IsUtf8}
use Rattle.std.specs.Prelude.{codes, bytes_eq, filter, IsOkAnd, Result, Ok, Err}
use Rattle.atspi_protocol.specs.declared.members.property.ObjectProperty.TheVariants as properties
use Rattle.atspi_protocol.specs.members.Interfaces as names
use Rattle.atspi_protocol.specs.members.Table.{PropertyLine}
use Rattle.atspi_protocol.specs.members.Objects.{is_among, registry_root}
use Rattle.atspi_protocol.specs.members.Asked.{and_then, first_or, properties_of, property_named, property_of}
use Rattle.atspi_registry.specs.declared.calls.object.RegistryObject.{RegistryObject}
use Rattle.atspi_registry.specs.declared.calls.object.RegistryObject.TheVariants.{Listeners, Root}
use Rattle.atspi_registry.specs.calls.inner.Object.{object_of, interfaces_of}
use Rattle.atspi_registry.proofs.OfCalls.Plain.{same_word, plain_registry, plain_accessible, plain_socket, plain_properties, plain_peer, plain_name, plain_count}

-- some lines that were found
abbrev found : List PropertyLine → Result (List PropertyLine) (List ℕ)
found ls = Ok ls

-- the root's two lines, and what is chosen of them
abbrev name_line : PropertyLine
name_line = record { interface = names.accessible; name = codes "Name"; type = codes "s"; is_settable = false; property = properties.Name }

abbrev count_line : PropertyLine
count_line = record { interface = names.accessible; name = codes "ChildCount"; type = codes "i"; is_settable = false; property = properties.ChildCount }

two_lines : registry_root.properties ≡ name_line ∷ count_line ∷ []
two_lines = refl

abbrev chosen : Bool → Bool → Result PropertyLine (List ℕ)
chosen a b = first_or (codes "UnknownProperty") (cond a (name_line ∷ cond b (count_line ∷ []) []) (cond b (count_line ∷ []) []))

choosing : (n : List ℕ) → property_named n (name_line ∷ count_line ∷ []) ≡ chosen (bytes_eq n (codes "Name")) (bytes_eq n (codes "ChildCount"))
choosing n = refl

-- an object's interfaces by characters and by bytes
among_same : (o : RegistryObject) (text : List ℕ) → IsUtf8 text → is_among (object_of o).interfaces (chars text) ≡ is_among (interfaces_of o) text
among_same Listeners text u = rw (same_word text names.registry u plain_registry, same_word text names.properties u plain_properties, same_word text names.peer u plain_peer) refl
among_same Root text u =
    rw (same_word text names.accessible u plain_accessible, same_word text names.socket u plain_socket, same_word text names.properties u plain_properties, same_word text names.peer u plain_peer) refl

all_of : (o : RegistryObject) (i : List ℕ) (b : Bool) → is_among (object_of o).interfaces i ≡ b
    → properties_of (object_of o) i ≡ cond b (Ok (filter (λ (l : PropertyLine). bytes_eq i l.interface) (object_of o).properties)) (Err (codes "UnknownInterface"))
all_of o i b e = ap (λ t. cond t (Ok (filter (λ (l : PropertyLine). bytes_eq i l.interface) (object_of o).properties)) (Err (codes "UnknownInterface"))) e

-- those of the other interfaces are none
others_none : (o : RegistryObject) (i : List ℕ) → bytes_eq i names.accessible ≡ false → filter (λ (l : PropertyLine). bytes_eq i l.interface) (object_of o).properties ≡ []
others_none Listeners i e = refl
others_none Root i e = rw e refl

-- those of Accessible are the root's
roots_own : (o : RegistryObject) (i : List ℕ) → is_among (interfaces_of o) i ≡ true → i ≡ names.accessible → filter (λ (l : PropertyLine). bytes_eq (chars i) l.interface) (object_of o).properties ≡ registry_root.properties
roots_own Listeners i h e = absurd (clash (sym (ap (is_among (interfaces_of Listeners)) e) ∙ h))
  where
    clash : false ≡ true → ⊥
    clash x = cc
roots_own Root i h e = rw e (rw (plain_accessible.read_) refl)

module _ (o : RegistryObject) (i n : List ℕ) (ui : IsUtf8 i) (un : IsUtf8 n) where
  pub unknown : is_among (interfaces_of o) i ≡ false → properties_of (object_of o) (chars i) ≡ Err (codes "UnknownInterface")
  unknown h = all_of o (chars i) false (among_same o i ui ∙ h)

  pub none_of : is_among (interfaces_of o) i ≡ true → bytes_eq i names.accessible ≡ false → properties_of (object_of o) (chars i) ≡ Ok []
  none_of h e = all_of o (chars i) true (among_same o i ui ∙ h) ∙ ap found (others_none o (chars i) (same_word i names.accessible ui plain_accessible ∙ e))

  pub roots : is_among (interfaces_of o) i ≡ true → i ≡ names.accessible → properties_of (object_of o) (chars i) ≡ Ok registry_root.properties
  roots h e = all_of o (chars i) true (among_same o i ui ∙ h) ∙ ap found (roots_own o i h e)

  pub unknown_one : is_among (interfaces_of o) i ≡ false → property_of (object_of o) (chars i) (chars n) ≡ Err (codes "UnknownInterface")
  unknown_one h = ap (and_then (property_named (chars n))) (unknown h)

  pub none_one : is_among (interfaces_of o) i ≡ true → bytes_eq i names.accessible ≡ false → property_of (object_of o) (chars i) (chars n) ≡ Err (codes "UnknownProperty")
  none_one h e = ap (and_then (property_named (chars n))) (none_of h e)

  one : is_among (interfaces_of o) i ≡ true → i ≡ names.accessible → (a b : Bool) → bytes_eq n (codes "Name") ≡ a → bytes_eq n (codes "ChildCount") ≡ b
      → property_of (object_of o) (chars i) (chars n) ≡ chosen a b
  one h e a b f g =
      ap (and_then (property_named (chars n))) (roots h e) ∙ ap (property_named (chars n)) two_lines ∙ choosing (chars n)
      ∙ ap (λ t. chosen t (bytes_eq (chars n) (codes "ChildCount"))) (same_word n (codes "Name") un plain_name ∙ f)
      ∙ ap (chosen a) (same_word n (codes "ChildCount") un plain_count ∙ g)

  pub the_name : is_among (interfaces_of o) i ≡ true → i ≡ names.accessible → bytes_eq n (codes "Name") ≡ true
      → IsOkAnd (property_of (object_of o) (chars i) (chars n)) (λ l. (l.property ≡ properties.Name) × (l.is_settable ≡ false))
  the_name h e f = subst (λ r. IsOkAnd r (λ l. (l.property ≡ properties.Name) × (l.is_settable ≡ false))) (sym (one h e true (bytes_eq n (codes "ChildCount")) f refl)) (refl, refl)

  pub the_count : is_among (interfaces_of o) i ≡ true → i ≡ names.accessible → bytes_eq n (codes "Name") ≡ false → bytes_eq n (codes "ChildCount") ≡ true
      → IsOkAnd (property_of (object_of o) (chars i) (chars n)) (λ l. (l.property ≡ properties.ChildCount) × (l.is_settable ≡ false))
  the_count h e f g = subst (λ r. IsOkAnd r (λ l. (l.property ≡ properties.ChildCount) × (l.is_settable ≡ false))) (sym (one h e false true f g)) (refl, refl)

  pub another : is_among (interfaces_of o) i ≡ true → i ≡ names.accessible → bytes_eq n (codes "Name") ≡ false → bytes_eq n (codes "ChildCount") ≡ false
      → property_of (object_of o) (chars i) (chars n) ≡ Err (codes "UnknownProperty")
  another h e f g = one h e false false f g
