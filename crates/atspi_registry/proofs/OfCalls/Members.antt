-- Which member a call asks for: the object's lines, looked up one by one, are those of the table.
use Rattle.std.proofs.Common.{◌≡◌, ℕ, Bool, true, false, cond, ◌&&◌, List, [], ◌∷◌, Option, None, Some, refl, sym, ap, ◌∙◌}
use Rattle.std.specs.Prelude.{codes as word_codes}
use Rattle.std.specs.Prelude.{filter, codes, bytes_eq, length, take, Result, Ok, Err}
use Rattle.std.specs.List.{AllByRecursion}
use Rattle.atspi_types.specs.Kinds.{Kind, kinds_of}
use Rattle.atspi_types.specs.Signatures.{signature_bytes}
use Rattle.atspi_types.specs.Data.{Data}
use Rattle.atspi_marshal_in_place.specs.codes.TyRefs.{refs_kinds}
use Rattle.atspi_marshal_in_place.specs.declared.codes.types.TysRef.{TysRef}
use Rattle.atspi_marshal.specs.Reading.{input_of}
use Rattle.atspi_marshal_in_place.specs.Items.{fields_data, fields_kinds}
use Rattle.atspi_marshal_in_place.specs.declared.cursor.Fields.{Fields}
use Rattle.atspi_message_in_place.proofs.ReadTypes.{fields_types}
use Rattle.atspi_protocol.specs.declared.members.member.ObjectMember.{ObjectMember}
use Rattle.atspi_protocol.specs.members.Table.{MemberLine}
use Rattle.atspi_protocol.specs.members.Asked as asked
use Rattle.atspi_protocol.specs.members.Asked.{and_then, first_or, is_text, is_text_if_there, has_interface, signature_of}
use Rattle.atspi_registry.specs.declared.calls.object.RegistryObject.{RegistryObject}
use Rattle.atspi_registry.specs.declared.calls.object.RegistryObject.TheVariants.{Listeners, Root}
use Rattle.atspi_registry.specs.calls.inner.Object.{object_of, interfaces_of, Line, lines_of, is_named, member_in, takes_of, takes_more, are_taken}

-- the objects of the table are these
pub interfaces_are : (o : RegistryObject) → (object_of o).interfaces ≡ interfaces_of o
interfaces_are Listeners = refl
interfaces_are Root = refl

-- a line of the table without its signatures, and what its signature is
abbrev short : MemberLine → Line
short l = record { interface = l.interface; name = l.name; member = l.member }

abbrev shorts : List MemberLine → List Line
shorts [] = []
shorts (l ∷ ls) = short l ∷ shorts ls

lines_are : (o : RegistryObject) → shorts (object_of o).members ≡ lines_of o
lines_are Listeners = refl
lines_are Root = refl

abbrev Takes : MemberLine → Type 0
Takes l = (l.takes ≡ takes_of l.member) × (l.takes_more ≡ takes_more l.member)

lines_take : (o : RegistryObject) → AllByRecursion Takes (object_of o).members
lines_take Listeners = ((refl, refl), ((refl, refl), ((refl, refl), ((refl, refl), ((refl, refl), ((refl, refl), ((refl, refl), tt)))))))
lines_take Root = ((refl, refl), ((refl, refl), ((refl, refl), ((refl, refl), ((refl, refl), ((refl, refl), ((refl, refl), ((refl, refl), ((refl, refl), ((refl, refl), tt))))))))))

abbrev is_meant : Option (List ℕ) → Option (List ℕ) → MemberLine → Bool
is_meant interface member l = is_text_if_there interface l.interface && is_text member l.name

same_test : (interface member : Option (List ℕ)) (l : MemberLine) → is_named interface member l.interface l.name ≡ is_meant interface member l
same_test None member l = refl
same_test (Some i) member l = refl

-- with its arguments
abbrev with_arguments : List Data → MemberLine → Result ObjectMember (List ℕ)
with_arguments body l = cond (asked.are_taken l body) (Ok l.member) (Err (codes "InvalidArgs"))

abbrev with_taken : List ℕ → Option ObjectMember → Result ObjectMember (List ℕ)
with_taken types None = Err (codes "UnknownMethod")
with_taken types (Some member) = cond (are_taken member types) (Ok member) (Err (codes "InvalidArgs"))

takes_same : (body : List Data) (l : MemberLine) → Takes l → with_arguments body l ≡ with_taken (signature_of body) (Some l.member)
takes_same body l t =
    ap (λ (more : Bool). cond (cond more (bytes_eq (take (length l.takes) (signature_of body)) l.takes) (bytes_eq (signature_of body) l.takes)) (Ok l.member) (Err (codes "InvalidArgs"))) t.1
    ∙ ap (λ (ts : List ℕ). cond (cond (takes_more l.member) (bytes_eq (take (length ts) (signature_of body)) ts) (bytes_eq (signature_of body) ts)) (Ok l.member) (Err (codes "InvalidArgs"))) t.0

found : (interface member : Option (List ℕ)) (body : List Data) (ls : List MemberLine) → AllByRecursion Takes ls
    → and_then (with_arguments body) (first_or (codes "UnknownMethod") (filter (is_meant interface member) ls)) ≡ with_taken (signature_of body) (member_in interface member (shorts ls))
found interface member body [] t = refl
found interface member body (l ∷ ls) t =
    by (is_meant interface member l) (found interface member body ls t.1)
    ∙ sym (ap (λ b. with_taken (signature_of body) (cond b (Some l.member) (member_in interface member (shorts ls)))) (same_test interface member l))
  where
    by : (b : Bool) → and_then (with_arguments body) (first_or (codes "UnknownMethod") (filter (is_meant interface member) ls)) ≡ with_taken (signature_of body) (member_in interface member (shorts ls))
        → and_then (with_arguments body) (first_or (codes "UnknownMethod") (cond b (l ∷ filter (is_meant interface member) ls) (filter (is_meant interface member) ls)))
        ≡ with_taken (signature_of body) (cond b (Some l.member) (member_in interface member (shorts ls)))
    by true rest = takes_same body l t.0
    by false rest = rest

module _ (o : RegistryObject) (interface member : Option (List ℕ)) (body : List Data) where
  all : and_then (with_arguments body) (first_or (codes "UnknownMethod") (filter (is_meant interface member) (object_of o).members)) ≡ with_taken (signature_of body) (member_in interface member (lines_of o))
  all = found interface member body (object_of o).members (lines_take o) ∙ ap (λ ls. with_taken (signature_of body) (member_in interface member ls)) (lines_are o)

  pub not_there : has_interface (object_of o) interface ≡ false → asked.member_of (object_of o) interface member body ≡ Err (codes "UnknownInterface")
  not_there is = rw is refl

  pub there : has_interface (object_of o) interface ≡ true → asked.member_of (object_of o) interface member body ≡ with_taken (signature_of body) (member_in interface member (lines_of o))
  there is = rw is all

-- the codes of the types of a body
pub codes_are : (f : Fields) (ts : TysRef) (codes : List ℕ) → codes ≡ signature_bytes (kinds_of (refs_kinds ts)) → refs_kinds ts ≡ fields_kinds f → codes ≡ signature_of (fields_data f)
codes_are f ts codes spelled types =
    spelled ∙ ap (λ (ks : List Kind). signature_bytes (kinds_of ks)) types
    ∙ sym (ap signature_bytes (fields_types (input_of f.input) f.levels (fields_kinds f) f.bound f.at f.known))

module _ (o : RegistryObject) (interface member : Option (List ℕ)) (body : List Data) (m : ObjectMember) (codes : List ℕ) where
  pub taken_by : has_interface (object_of o) interface ≡ true → member_in interface member (lines_of o) ≡ Some m → codes ≡ signature_of body → (b : Bool) → are_taken m codes ≡ b
      → asked.member_of (object_of o) interface member body ≡ cond b (Ok m) (Err (word_codes "InvalidArgs"))
  taken_by is some same b test = there o interface member body is ∙ ap (with_taken (signature_of body)) some ∙ ap (λ c. cond c (Ok m) (Err (word_codes "InvalidArgs"))) (ap (are_taken m) (sym same) ∙ test)
