-- What came of the next value of a body, by its type.
use Rattle.std.proofs.Common.{◌≡◌, ◌↔◌, ℕ, ℤ, List, ◌∷◌, map, Option, Some, None, IsSome, IfSome, IsTrue, sym, ap, ◌∙◌, chars, arith}
use Rattle.std.specs.Option.{option_map}
use Rattle.std.specs.Borrow.{Bor}
use Rattle.std.specs.Prelude.{option_and_then}
use Rattle.atspi_types.specs.Kinds.{Kind, number, text, path, variant, i32, u32}
use Rattle.atspi_types.specs.Data.{Data, number_data, text_data, path_data, array_data, structure_data, variant_data, items_of, type_of}
use Rattle.atspi_types.proofs.DataLemmas.{values_in-items_of}
use Rattle.atspi_base.specs.valid_names.Names.{IsPath, is_path}
use Rattle.atspi_base.proofs.OfValidNames.NameLemmas.{is_path-from_IsPath}
use Rattle.atspi_marshal_in_place.specs.codes.Codes.{is_array, is_structure, leaf_of}
use Rattle.atspi_marshal_in_place.specs.Items.{item_data, item_kind, elements_data}
use Rattle.atspi_marshal_in_place.specs.declared.cursor.Item.{Item}
use Rattle.atspi_marshal_in_place.specs.declared.cursor.Elements.{Elements}
use Rattle.atspi_tree_model.specs.declared.news.Reference.{Reference}
use Rattle.atspi_protocol.specs.news.Arguments.{then_text, then_path, then_signed, then_unsigned, then_variant, then_texts, then_numbers, then_reference, reference_of, reference_in, text_in, number_in}
use Rattle.atspi_reader_news.specs.declared.borrowed.ReferenceRef.{ReferenceRef}
use Rattle.atspi_reader_news.specs.Seen.{together, reference_seen, TextComes, PathComes, SignedComes, UnsignedComes, VariantComes, TextsCome, NumbersCome, ReferenceComes}
use Rattle.atspi_reader_news.proofs.Given.{no_text, no_path, no_signed, no_unsigned, no_variant, no_texts, no_numbers, no_reference}
use Rattle.atspi_reader_news.proofs.Steps.{of_pair, text_via, path_via, signed_via, unsigned_via, texts_via, numbers_via, reference_via}

pub text_came : (o : Option (Bor (List ℕ))) (d : Data) (k : Kind) (old new : List Data) → old ≡ d ∷ new → type_of d ≡ k → (IsSome o ↔ (k ≡ text)) → IfSome o (λ s. d ≡ text_data (chars s.now)) → TextComes o old new
text_came (Some s) d k old new e typed is same = ap (then_text together) (e ∙ ap (λ (x : Data). x ∷ new) same)
text_came None d k old new e typed is same = ap (then_text together) e ∙ no_text d new (λ t. let clash = is.1 (sym typed ∙ t) in absurd cc)

pub path_came : (o : Option (Bor (List ℕ))) (d : Data) (k : Kind) (old new : List Data) → old ≡ d ∷ new → type_of d ≡ k → (IsSome o ↔ (k ≡ path)) → IfSome o (λ s. d ≡ path_data s.now) → PathComes o old new
path_came (Some s) d k old new e typed is same = ap (then_path together) (e ∙ ap (λ (x : Data). x ∷ new) same)
path_came None d k old new e typed is same = ap (then_path together) e ∙ no_path d new (λ t. let clash = is.1 (sym typed ∙ t) in absurd cc)

pub unsigned_came : (o : Option ℕ) (d : Data) (k : Kind) (old new : List Data) → old ≡ d ∷ new → type_of d ≡ k → (IsSome o ↔ (k ≡ number u32)) → IfSome o (λ n. d ≡ number_data u32 n) → UnsignedComes o old new
unsigned_came (Some n) d k old new e typed is same = ap (then_unsigned together) (e ∙ ap (λ (x : Data). x ∷ new) same)
unsigned_came None d k old new e typed is same = ap (then_unsigned together) e ∙ no_unsigned d new (λ t. let clash = is.1 (sym typed ∙ t) in absurd cc)

pub variant_came : (o : Option Item) (d : Data) (k : Kind) (old new : List Data) → old ≡ d ∷ new → type_of d ≡ k → (IsSome o ↔ (k ≡ variant)) → IfSome o (λ x. d ≡ variant_data (item_kind x) (item_data x)) → VariantComes o old new
variant_came (Some x) d k old new e typed is same = ap (then_variant together) (e ∙ ap (λ (y : Data). y ∷ new) same)
variant_came None d k old new e typed is same = ap (then_variant together) e ∙ no_variant d new (λ t. let clash = is.1 (sym typed ∙ t) in absurd cc)

pub no_number : (r : Option ℤ) (d : Data) (k : Kind) (old new : List Data) → r ≡ None → old ≡ d ∷ new → type_of d ≡ k → (k ≡ number i32 → ⊥) → SignedComes r old new
no_number r d k old new nothing e typed other =
    ap (then_signed together) e ∙ no_signed d new (λ t. other (sym typed ∙ t)) ∙ sym (ap (option_map (λ (n : ℤ). (n, new))) nothing)

-- a list of texts, or of numbers
pub no_list_of_texts : (r : Option Elements) (d : Data) (k : Kind) (old new : List Data) → r ≡ None → old ≡ d ∷ new → type_of d ≡ k → (IsTrue (is_array k) → ⊥) → TextsCome r old new
no_list_of_texts r d k old new nothing e typed other =
    ap (then_texts together) e ∙ no_texts d new (λ a. other (sym (ap is_array typed) ∙ a)) ∙ sym (ap (option_map (λ (es : Elements). (map text_in (elements_data es), new))) nothing)

pub no_list_of_numbers : (r : Option Elements) (d : Data) (k : Kind) (old new : List Data) → r ≡ None → old ≡ d ∷ new → type_of d ≡ k → (IsTrue (is_array k) → ⊥) → NumbersCome r old new
no_list_of_numbers r d k old new nothing e typed other =
    ap (then_numbers together) e ∙ no_numbers d new (λ a. other (sym (ap is_array typed) ∙ a)) ∙ sym (ap (option_map (λ (es : Elements). (map number_in (elements_data es), new))) nothing)

pub texts_came : (es : List Data) (d : Data) (k : Kind) (old new : List Data) → old ≡ d ∷ new → d ≡ array_data k (items_of es) → k ≡ text → then_texts together old ≡ Some (map text_in es, new)
texts_came es d k old new e is t =
    ap (then_texts together) (e ∙ ap (λ (x : Data). x ∷ new) (is ∙ ap (λ (j : Kind). array_data j (items_of es)) t)) ∙ ap (λ (xs : List Data). Some (map text_in xs, new)) (values_in-items_of es)

pub numbers_came : (es : List Data) (d : Data) (k : Kind) (old new : List Data) → old ≡ d ∷ new → d ≡ array_data k (items_of es) → k ≡ number u32 → then_numbers together old ≡ Some (map number_in es, new)
numbers_came es d k old new e is t =
    ap (then_numbers together) (e ∙ ap (λ (x : Data). x ∷ new) (is ∙ ap (λ (j : Kind). array_data j (items_of es)) t)) ∙ ap (λ (xs : List Data). Some (map number_in xs, new)) (values_in-items_of es)

-- the codes of these types
pub text_code : (n : ℕ) (j k : Kind) → j ≡ k → ((n ≡ 97 → ⊥) → (n ≡ 40 → ⊥) → j ≡ leaf_of n) → n ≡ 115 → k ≡ text
text_code n j k same leaf e = sym same ∙ leaf (λ h. let clash = sym e ∙ h in absurd (omega (arith, clash))) (λ h. let clash = sym e ∙ h in absurd (omega (arith, clash))) ∙ ap leaf_of e

pub number_code : (n : ℕ) (j k : Kind) → j ≡ k → ((n ≡ 97 → ⊥) → (n ≡ 40 → ⊥) → j ≡ leaf_of n) → n ≡ 117 → k ≡ number u32
number_code n j k same leaf e = sym same ∙ leaf (λ h. let clash = sym e ∙ h in absurd (omega (arith, clash))) (λ h. let clash = sym e ∙ h in absurd (omega (arith, clash))) ∙ ap leaf_of e

-- a path is of the rule
pub path_rule : (o : Option (Bor (List ℕ))) → IfSome o (λ s. IsPath s.now) → IfSome o (λ s. IsTrue (is_path s.now))
path_rule None h = h
path_rule (Some s) h = is_path-from_IsPath s.now h

-- a reference that stands in a struct
pub no_structure : {A : Type 0} (r : Option A) (f : A → Reference) (d : Data) (k : Kind) → r ≡ None → type_of d ≡ k → (IsTrue (is_structure k) → ⊥) → option_map f r ≡ reference_in d
no_structure r f d k nothing typed other = ap (option_map f) nothing ∙ sym (no_reference d (λ a. other (sym (ap is_structure typed) ∙ a)))

pub in_fields : (d : Data) (fs : List Data) → d ≡ structure_data (items_of fs) → reference_in d ≡ reference_of fs
in_fields d fs is = ap reference_in is ∙ ap reference_of (values_in-items_of fs)

-- one field after the other
pub read_text : {A : Type 0} (made : List ℕ → List Data → Option A) (o : Option (Bor (List ℕ))) (old new : List Data) → TextComes o old new → then_text made old ≡ option_and_then (λ (t : Bor (List ℕ)). made (chars t.now) new) o
read_text made None old new comes = text_via made old ∙ ap (option_and_then (of_pair made)) comes
read_text made (Some t) old new comes = text_via made old ∙ ap (option_and_then (of_pair made)) comes

pub read_path : {A : Type 0} (made : List ℕ → List Data → Option A) (o : Option (Bor (List ℕ))) (old new : List Data) → PathComes o old new → then_path made old ≡ option_and_then (λ (t : Bor (List ℕ)). made t.now new) o
read_path made None old new comes = path_via made old ∙ ap (option_and_then (of_pair made)) comes
read_path made (Some t) old new comes = path_via made old ∙ ap (option_and_then (of_pair made)) comes

pub read_signed : {A : Type 0} (made : ℤ → List Data → Option A) (o : Option ℤ) (old new : List Data) → SignedComes o old new → then_signed made old ≡ option_and_then (λ (n : ℤ). made n new) o
read_signed made None old new comes = signed_via made old ∙ ap (option_and_then (of_pair made)) comes
read_signed made (Some t) old new comes = signed_via made old ∙ ap (option_and_then (of_pair made)) comes

pub read_unsigned : {A : Type 0} (made : ℕ → List Data → Option A) (o : Option ℕ) (old new : List Data) → UnsignedComes o old new → then_unsigned made old ≡ option_and_then (λ (n : ℕ). made n new) o
read_unsigned made None old new comes = unsigned_via made old ∙ ap (option_and_then (of_pair made)) comes
read_unsigned made (Some t) old new comes = unsigned_via made old ∙ ap (option_and_then (of_pair made)) comes

pub read_texts : {A : Type 0} (made : List (List ℕ) → List Data → Option A) (o : Option Elements) (old new : List Data) → TextsCome o old new → then_texts made old ≡ option_and_then (λ (es : Elements). made (map text_in (elements_data es)) new) o
read_texts made None old new comes = texts_via made old ∙ ap (option_and_then (of_pair made)) comes
read_texts made (Some t) old new comes = texts_via made old ∙ ap (option_and_then (of_pair made)) comes

pub read_numbers : {A : Type 0} (made : List ℕ → List Data → Option A) (o : Option Elements) (old new : List Data) → NumbersCome o old new → then_numbers made old ≡ option_and_then (λ (es : Elements). made (map number_in (elements_data es)) new) o
read_numbers made None old new comes = numbers_via made old ∙ ap (option_and_then (of_pair made)) comes
read_numbers made (Some t) old new comes = numbers_via made old ∙ ap (option_and_then (of_pair made)) comes

pub read_reference : {A : Type 0} (made : Reference → List Data → Option A) (o : Option ReferenceRef) (old new : List Data) → ReferenceComes o old new → then_reference made old ≡ option_and_then (λ (r : ReferenceRef). made (reference_seen r) new) o
read_reference made None old new comes = reference_via made old ∙ ap (option_and_then (of_pair made)) comes
read_reference made (Some t) old new comes = reference_via made old ∙ ap (option_and_then (of_pair made)) comes
