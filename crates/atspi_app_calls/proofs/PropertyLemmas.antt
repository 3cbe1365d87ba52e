-- The properties of an application's objects, by their names as characters.
use Rattle.std.proofs.Common.{◌≡◌, ℕ, Bool, true, false, cond, List, [], ◌∷◌, Option, None, Some, refl, sym, ap, subst, ◌∙◌, chars, IsUtf8}
use Rattle.std.specs.Prelude.{ℤ, filter, codes, bytes_eq, IsOkAnd, Result, Ok, Err}
use Rattle.std.specs.Str.{chars as characters}
use Rattle.std.specs.List.{AllByRecursion}
use Rattle.std.proofs.lemmas.Slice.Eq.{bytes_eq-Decides}
use Rattle.atspi_types.specs.Kinds.{Kind, Num, byte, i16, u16, i32, u32, i64, u64, double, number, boolean, text, path, signature, array, structure, variant, dictionary}
use Rattle.atspi_types.specs.Signatures.{type_bytes}
use Rattle.atspi_types.specs.Data.{Data, type_of}
use Rattle.atspi_protocol.specs.declared.ends.error.CallError.{CallError}
use Rattle.atspi_protocol.specs.ends.Messages.{error_word}
use Rattle.atspi_protocol.specs.declared.members.property.ObjectProperty.{ObjectProperty}
use Rattle.atspi_protocol.specs.declared.members.property.ObjectProperty.TheVariants as properties
use Rattle.atspi_protocol.specs.members.Table.{PropertyLine, property_lines}
use Rattle.atspi_protocol.specs.members.Objects.{is_among}
use Rattle.atspi_protocol.specs.members.Arguments.{int}
use Rattle.atspi_protocol.specs.members.Asked.{Asked, gets, sets, and_then, first_or, properties_of, property_named, property_of, set_to}
use Rattle.atspi_app_calls.specs.reading.Arguments.{IsNoSigned}
use Rattle.atspi_app_calls.proofs.OfReading.Words.{IsPlain, same_word, written_word}
use Rattle.atspi_app_calls.specs.declared.interface.AppInterface.{AppInterface}
use Rattle.atspi_app_calls.specs.declared.interface.AppInterface.TheVariants as interfaces
use Rattle.atspi_app_calls.specs.declared.object.AppObject.{AppObject}
use Rattle.atspi_app_calls.specs.declared.ask.Ask.TheVariants.{Get, SetId}
use Rattle.atspi_app_calls.specs.Interface.{interface_name, properties_in}
use Rattle.atspi_app_calls.specs.inner.Interface.{NamesInterface}
use Rattle.atspi_app_calls.specs.Object.{object_of}
use Rattle.atspi_app_calls.specs.inner.Lines.{property_first}
use Rattle.atspi_app_calls.specs.Ask.{as_asked}
use Rattle.atspi_app_calls.specs.inner.Ask.{IsSettable, IsLine}
use Rattle.atspi_app_calls.proofs.Names.{no_interface}

plain_name : (i : AppInterface) → IsPlain (interface_name i)
unfolding characters lib.Utf8.encode
plain_name interfaces.Accessible = record { read_ = refl; written = refl }
plain_name interfaces.Application = record { read_ = refl; written = refl }
plain_name interfaces.Cache = record { read_ = refl; written = refl }
plain_name interfaces.Text = record { read_ = refl; written = refl }
plain_name interfaces.EditableText = record { read_ = refl; written = refl }
plain_name interfaces.Selection = record { read_ = refl; written = refl }
plain_name interfaces.Table = record { read_ = refl; written = refl }
plain_name interfaces.Action = record { read_ = refl; written = refl }
plain_name interfaces.Properties = record { read_ = refl; written = refl }
plain_name interfaces.Peer = record { read_ = refl; written = refl }

abbrev IsPlainLine : PropertyLine → Type 0
IsPlainLine l = IsPlain l.name

plain_lines : AllByRecursion IsPlainLine property_lines
unfolding characters lib.Utf8.encode
plain_lines =
    (record { read_ = refl; written = refl }, (record { read_ = refl; written = refl }, (record { read_ = refl; written = refl }, (record { read_ = refl; written = refl }, (record { read_ = refl; written = refl }, (record { read_ = refl; written = refl }, (record { read_ = refl; written = refl }, (record { read_ = refl; written = refl }, (record { read_ = refl; written = refl }, (record { read_ = refl; written = refl }, (record { read_ = refl; written = refl }, (record { read_ = refl; written = refl }, (record { read_ = refl; written = refl }, (record { read_ = refl; written = refl }, (record { read_ = refl; written = refl }, (record { read_ = refl; written = refl }, tt))))))))))))))))

abbrev IsLineOfOwn : PropertyLine → Type 0
IsLineOfOwn l = IsSettable l.property l

own_lines : AllByRecursion IsLineOfOwn property_lines
own_lines = (refl, (refl, (refl, (refl, (refl, (refl, (refl, (refl, (refl, ((refl, refl), (refl, (refl, (refl, (refl, (refl, (refl, tt))))))))))))))))

-- what holds of lines holds of some of them
all_filter : (P : PropertyLine → Type 0) (test : PropertyLine → Bool) (ls : List PropertyLine) → AllByRecursion P ls → AllByRecursion P (filter test ls)
all_filter P test [] h = tt
all_filter P test (l ∷ ls) h = by (test l) (all_filter P test ls h.1)
  where
    by : (b : Bool) → AllByRecursion P (filter test ls) → AllByRecursion P (cond b (l ∷ filter test ls) (filter test ls))
    by true rest = (h.0, rest)
    by false rest = rest

abbrev of_name : List ℕ → List PropertyLine → List PropertyLine
of_name i ls = filter (λ (l : PropertyLine). bytes_eq i l.interface) ls

abbrev passes : List (List ℕ) → PropertyLine → Bool
passes all l = is_among all l.interface

module _ (all : List (List ℕ)) (i : List ℕ) (has : is_among all i ≡ true) where
  kept_named : (ls : List PropertyLine) → of_name i (filter (passes all) ls) ≡ of_name i ls
  kept_named [] = refl
  kept_named (l ∷ ls) = by (kept_named ls) (is_among all l.interface) refl (bytes_eq i l.interface) refl
    where
      by : of_name i (filter (passes all) ls) ≡ of_name i ls → (x : Bool) → is_among all l.interface ≡ x → (b : Bool) → bytes_eq i l.interface ≡ b
          → of_name i (cond x (l ∷ filter (passes all) ls) (filter (passes all) ls)) ≡ cond b (l ∷ of_name i ls) (of_name i ls)
      by rest true e true f = rw (f, rest) refl
      by rest true e false f = rw (f, rest) refl
      by rest false e true f = let clash : true ≡ false = sym has ∙ ap (is_among all) ((bytes_eq-Decides i l.interface).0 f) ∙ e in absurd cc
      by rest false e false f = rest

-- all properties of an interface by its name
abbrev found_if : Bool → List PropertyLine → Result (List PropertyLine) (List ℕ)
found_if b ls = cond b (Ok ls) (Err (codes "UnknownInterface"))

pub not_named : (o : AppObject) (i : List ℕ) → IsUtf8 i → NamesInterface i None → properties_of (object_of o) (chars i) ≡ Err (codes "UnknownInterface")
not_named o i u none =
    ap (λ b. found_if b (of_name (chars i) (object_of o).properties)) (no_interface (chars i) (λ k e. none k (written_word i (interface_name k) u (plain_name k) e)) o)

read_name : (i : List ℕ) (k : AppInterface) → i ≡ interface_name k → chars i ≡ interface_name k
read_name i k is = ap chars is ∙ (plain_name k).read_

pub not_had : (o : AppObject) (i : List ℕ) (k : AppInterface) → i ≡ interface_name k → is_among (object_of o).interfaces (interface_name k) ≡ false → properties_of (object_of o) (chars i) ≡ Err (codes "UnknownInterface")
not_had o i k is out = ap (λ b. found_if b (of_name (chars i) (object_of o).properties)) (ap (is_among (object_of o).interfaces) (read_name i k is) ∙ out)

pub had : (o : AppObject) (i : List ℕ) (k : AppInterface) → i ≡ interface_name k → is_among (object_of o).interfaces (interface_name k) ≡ true → properties_of (object_of o) (chars i) ≡ Ok (properties_in k)
had o i k is has =
    ap (λ b. found_if b (of_name (chars i) (object_of o).properties)) (ap (is_among (object_of o).interfaces) (read_name i k is) ∙ has)
    ∙ ap (λ n. found_if true (of_name n (object_of o).properties)) (read_name i k is)
    ∙ ap (found_if true) (kept_named (object_of o).interfaces (interface_name k) has property_lines)

-- a property by its name
same_names : (n : List ℕ) (ls : List PropertyLine) → IsUtf8 n → AllByRecursion IsPlainLine ls → filter (λ (l : PropertyLine). bytes_eq (chars n) l.name) ls ≡ filter (λ (l : PropertyLine). bytes_eq n l.name) ls
same_names n [] u h = refl
same_names n (l ∷ ls) u h = rw (same_word n l.name u h.0, same_names n ls u h.1) refl

abbrev IsFirst : Option ObjectProperty → Result PropertyLine (List ℕ) → Type 0
IsFirst None found = found ≡ Err (codes "UnknownProperty")
IsFirst (Some property) found = IsOkAnd found (IsLine property)

first_is : (n : List ℕ) (ls : List PropertyLine) → AllByRecursion IsLineOfOwn ls → IsFirst (property_first n ls) (property_named n ls)
first_is n [] h = refl
first_is n (l ∷ ls) h = by (bytes_eq n l.name) (first_is n ls h.1)
  where
    by : (b : Bool) → IsFirst (property_first n ls) (property_named n ls)
        → IsFirst (cond b (Some l.property) (property_first n ls)) (first_or (codes "UnknownProperty") (cond b (l ∷ filter (λ (l : PropertyLine). bytes_eq n l.name) ls) (filter (λ (l : PropertyLine). bytes_eq n l.name) ls)))
    by true rest = record { is = refl; set = h.0 }
    by false rest = rest

pub first_in : (n : List ℕ) (k : AppInterface) (r : Option ObjectProperty) → IsUtf8 n → r ≡ property_first n (properties_in k) → IsFirst r (property_named (chars n) (properties_in k))
first_in n k r u e =
    subst (IsFirst r) (sym (ap (first_or (codes "UnknownProperty")) (same_names n (properties_in k) u (all_filter IsPlainLine (λ (l : PropertyLine). bytes_eq (interface_name k) l.interface) property_lines plain_lines))))
    (subst (λ q. IsFirst q (property_named n (properties_in k))) (sym e) (first_is n (properties_in k) (all_filter IsLineOfOwn (λ (l : PropertyLine). bytes_eq (interface_name k) l.interface) property_lines own_lines)))

-- of an object, as the code finds it
module _ (o : AppObject) (i n : List ℕ) (k : AppInterface) (un : IsUtf8 n) (has : properties_of (object_of o) (chars i) ≡ Ok (properties_in k)) where
  of_object : property_of (object_of o) (chars i) (chars n) ≡ property_named (chars n) (properties_in k)
  of_object = ap (and_then (property_named (chars n))) has

  pub some_property : (p : ObjectProperty) → Some p ≡ property_first n (properties_in k) → IsOkAnd (property_of (object_of o) (chars i) (chars n)) (IsLine p)
  some_property p e = subst (λ r. IsOkAnd r (IsLine p)) (sym of_object) (first_in n k (Some p) un e)

  pub no_property : None ≡ property_first n (properties_in k) → property_of (object_of o) (chars i) (chars n) ≡ Err (codes "UnknownProperty")
  no_property e = of_object ∙ first_in n k None un e

pub lacks : (o : AppObject) (i n : List ℕ) (error : CallError) → properties_of (object_of o) (chars i) ≡ Err (error_word error) → property_of (object_of o) (chars i) (chars n) ≡ Err (error_word error)
lacks o i n error e = ap (and_then (property_named (chars n))) e

-- Get, GetAll and Set
pub got : (p : ObjectProperty) (found : Result PropertyLine (List ℕ)) (body : List Data) → IsOkAnd found (IsLine p) → and_then (λ (l : PropertyLine). Ok (gets l.property)) found ≡ as_asked body (Ok (Get p))
got p (Ok l) body h = ap (λ q. Ok (gets q)) h.is
got p (Err e) body h = absurd h

number_byte : (n : Num) → (number n ≡ number i32 → ⊥) → bytes_eq (type_bytes (number n)) (codes "i") ≡ false
number_byte byte other = refl
number_byte i16 other = refl
number_byte u16 other = refl
number_byte i32 other = absurd (other refl)
number_byte u32 other = refl
number_byte i64 other = refl
number_byte u64 other = refl
number_byte double other = refl

other_type : (k : Kind) → (k ≡ number i32 → ⊥) → bytes_eq (type_bytes k) (codes "i") ≡ false
other_type (number n) other = number_byte n other
other_type boolean other = refl
other_type text other = refl
other_type path other = refl
other_type signature other = refl
other_type (array k) other = refl
other_type (structure ks) other = refl
other_type variant other = refl
other_type (dictionary k v) other = refl

abbrev typed_ : Option Data → PropertyLine → Result Asked (List ℕ)
typed_ None l = Err (codes "InvalidArgs")
typed_ (Some d) l = cond (bytes_eq (type_bytes (type_of d)) l.type) (Ok (sets l.property d)) (Err (codes "InvalidArgs"))

set_is : (v : Option Data) (l : PropertyLine) → set_to v l ≡ cond l.is_settable (typed_ v l) (Err (codes "PropertyReadOnly"))
set_is None l = refl
set_is (Some d) l = refl

settable : (v : Option Data) (l : PropertyLine) → IsLine properties.Id l → set_to v l ≡ typed_ v l
settable v l h = set_is v l ∙ ap (λ b. cond b (typed_ v l) (Err (codes "PropertyReadOnly"))) h.set.0

pub set_one : (n : ℤ) (found : Result PropertyLine (List ℕ)) (v : Option Data) (body : List Data) → IsOkAnd found (IsLine properties.Id) → v ≡ Some (int n) → and_then (set_to v) found ≡ as_asked body (Ok (SetId n))
set_one n (Ok l) v body h e = settable v l h ∙ ap (λ w. typed_ w l) e ∙ ap (λ t. cond (bytes_eq (type_bytes (number i32)) t) (Ok (sets l.property (int n))) (Err (codes "InvalidArgs"))) h.set.1 ∙ ap (λ p. Ok (sets p (int n))) h.is
set_one n (Err e) v body h f = absurd h

no_number : (v : Option Data) (l : PropertyLine) → l.type ≡ codes "i" → IsNoSigned v → typed_ v l ≡ Err (codes "InvalidArgs")
no_number None l t h = refl
no_number (Some d) l t h = ap (λ (ts : List ℕ). cond (bytes_eq (type_bytes (type_of d)) ts) (Ok (sets l.property d)) (Err (codes "InvalidArgs"))) t ∙ ap (λ b. cond b (Ok (sets l.property d)) (Err (codes "InvalidArgs"))) (other_type (type_of d) h)

pub set_other : (found : Result PropertyLine (List ℕ)) (v : Option Data) → IsOkAnd found (IsLine properties.Id) → IsNoSigned v → and_then (set_to v) found ≡ Err (codes "InvalidArgs")
set_other (Ok l) v h none = settable v l h ∙ no_number v l h.set.1 none
set_other (Err e) v h none = absurd h

read_only : (p : ObjectProperty) (l : PropertyLine) → (p ≡ properties.Id → ⊥) → IsSettable p l → l.is_settable ≡ false
read_only properties.Id l other h = absurd (other refl)
read_only _ l other h = h

pub set_none : (p : ObjectProperty) (found : Result PropertyLine (List ℕ)) (v : Option Data) → (p ≡ properties.Id → ⊥) → IsOkAnd found (IsLine p) → and_then (set_to v) found ≡ Err (codes "PropertyReadOnly")
set_none p (Ok l) v other h = set_is v l ∙ ap (λ b. cond b (typed_ v l) (Err (codes "PropertyReadOnly"))) (read_only p l other h.set)
set_none p (Err e) v other h = absurd h
