-- The argument at an index: what stands first behind those before it.
use Rattle.std.proofs.Common.{◌≡◌, ℕ, zero, suc, ◌+◌, ◌≤◌, List, [], ◌∷◌, drop, Option, Some, None, refl, sym, ap, ◌∙◌, arith}
use Rattle.std.proofs.Common.{chars, IsUtf8}
use Rattle.std.proofs.lemmas.List.{drop-drop}
use Rattle.std.proofs.lemmas.Str.{encodes-chars}
use Rattle.std.specs.List.{slice_get}
use Rattle.std.specs.Option.{option_map}
use Rattle.std.specs.Prelude.{option_and_then}
use Rattle.atspi_types.specs.Kinds.{Kind, text, path}
use Rattle.atspi_types.specs.Data.{Data, number_data, boolean_data, text_data, path_data, signature_data, array_data, structure_data, dictionary_data, variant_data, type_of}
use Rattle.atspi_marshal_in_place.specs.Items.{item_data, Comes}
use Rattle.atspi_marshal_in_place.specs.declared.cursor.Item.{Item}
use Rattle.atspi_match.specs.Matching.{text_bytes, text_or_path_bytes}

-- one argument more was passed
pub one_passed : (xs : List Data) (n : ℕ) (x : Data) (old new : List Data) → drop n xs ≡ old → old ≡ x ∷ new → drop (n + 1) xs ≡ new
one_passed xs n x old new d e = sym (drop-drop 1 n xs) ∙ ap (λ (ys : List Data). drop 1 ys) (d ∙ e)

here : (xs : List Data) (i : ℕ) (x : Data) (rest : List Data) → drop i xs ≡ x ∷ rest → slice_get xs i ≡ Some x
here [] zero x rest e = absurd cc
here [] (suc i) x rest e = absurd cc
here (y ∷ xs) zero x rest e = cc
here (y ∷ xs) (suc i) x rest e = here xs i x rest e

pub none_there : (xs : List Data) (n i : ℕ) → drop n xs ≡ [] → n ≤ i → slice_get xs i ≡ None
none_there [] n i e le = refl
none_there (x ∷ xs) zero i e le = absurd cc
none_there (x ∷ xs) (suc n) zero e le = absurd (omega (arith, le))
none_there (x ∷ xs) (suc n) (suc i) e le = none_there xs n i e (omega (arith, le))

-- what comes next is the argument
pub argument_is : (xs : List Data) (i : ℕ) (o : Option Item) (old new : List Data) → drop i xs ≡ old → Comes o old new → option_map item_data o ≡ slice_get xs i
argument_is xs i (Some x) old new d comes = sym (here xs i (item_data x) new (d ∙ comes))
argument_is xs i None old new d comes = sym (none_there xs i i (d ∙ comes.0) (omega arith))

-- the bytes of an argument, where it is a text, or a text or a path

abbrev some_bytes : List ℕ → Option (List ℕ)
some_bytes bytes = Some bytes

pub text_found : (o : Option Data) (d : Data) (bytes chars_of : List ℕ) → Some d ≡ o → d ≡ text_data (chars chars_of) → bytes ≡ chars_of → IsUtf8 bytes → Some bytes ≡ option_and_then text_bytes o
text_found o d bytes chars_of there is same utf8 =
    let all : d ≡ text_data (chars bytes) = is ∙ ap (λ (s : List ℕ). text_data (chars s)) (sym same) in
    sym (ap (λ (p : Option Data). option_and_then text_bytes p) (sym there) ∙ ap text_bytes all ∙ ap some_bytes (encodes-chars bytes utf8))

pub text_or_path_found : (o : Option Data) (d : Data) (bytes chars_of : List ℕ) → Some d ≡ o → d ≡ text_data (chars chars_of) → bytes ≡ chars_of → IsUtf8 bytes → Some bytes ≡ option_and_then text_or_path_bytes o
text_or_path_found o d bytes chars_of there is same utf8 =
    let all : d ≡ text_data (chars bytes) = is ∙ ap (λ (s : List ℕ). text_data (chars s)) (sym same) in
    sym (ap (λ (p : Option Data). option_and_then text_or_path_bytes p) (sym there) ∙ ap text_or_path_bytes all ∙ ap some_bytes (encodes-chars bytes utf8))

no_text : (d : Data) → (type_of d ≡ text → ⊥) → text_bytes d ≡ None
no_text (number_data m n) other = refl
no_text (boolean_data b) other = refl
no_text (text_data cs) other = absurd (other refl)
no_text (path_data bs) other = refl
no_text (signature_data ks) other = refl
no_text (array_data k ds) other = refl
no_text (structure_data ds) other = refl
no_text (dictionary_data k v es) other = refl
no_text (variant_data k d) other = refl

no_text_or_path : (d : Data) → (type_of d ≡ text → ⊥) → (type_of d ≡ path → ⊥) → text_or_path_bytes d ≡ None
no_text_or_path (number_data m n) other neither = refl
no_text_or_path (boolean_data b) other neither = refl
no_text_or_path (text_data cs) other neither = absurd (other refl)
no_text_or_path (path_data bs) other neither = absurd (neither refl)
no_text_or_path (signature_data ks) other neither = refl
no_text_or_path (array_data k ds) other neither = refl
no_text_or_path (structure_data ds) other neither = refl
no_text_or_path (dictionary_data k v es) other neither = refl
no_text_or_path (variant_data k d) other neither = refl

pub none_found : (o : Option Data) (d : Data) (k : Kind) → Some d ≡ o → type_of d ≡ k → (k ≡ text → ⊥) → None ≡ option_and_then text_bytes o
none_found o d k there typed other = sym (ap (λ (p : Option Data). option_and_then text_bytes p) (sym there) ∙ no_text d (λ e. other (sym typed ∙ e)))

pub neither_found : (o : Option Data) (d : Data) (k : Kind) → Some d ≡ o → type_of d ≡ k → (k ≡ text → ⊥) → (k ≡ path → ⊥) → None ≡ option_and_then text_or_path_bytes o
neither_found o d k there typed other neither =
    sym (ap (λ (p : Option Data). option_and_then text_or_path_bytes p) (sym there) ∙ no_text_or_path d (λ e. other (sym typed ∙ e)) (λ e. neither (sym typed ∙ e)))
