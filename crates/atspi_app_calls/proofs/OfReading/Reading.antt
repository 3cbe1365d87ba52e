-- Arguments that are there, are not there, or are of another type than the one that is read.
use Rattle.std.proofs.Common.{◌≡◌, ℕ, List, [], ◌∷◌, Some, None, refl, sym, ap, ◌∙◌, chars}
use Rattle.std.specs.Prelude.{ℤ, pos, slice_get, IsSome, IfSome, ◌↔◌, Option}
use Rattle.std.specs.Int.{w32, cast_unsigned}
use Rattle.std.proofs.lemmas.Str.{chars-nil}
use Rattle.atspi_types.specs.Kinds.{Kind, i32, u32, number, text, variant}
use Rattle.atspi_types.specs.Data.{Data, number_data, text_data, variant_data, type_of}
use Rattle.atspi_protocol.specs.members.Arguments.{characters_in, signed_in, unsigned_in, value_in}
use Rattle.atspi_app_calls.specs.reading.Arguments.{IsNoSigned, IsSigned}

pub not_text : (d : Data) → (type_of d ≡ text → ⊥) → chars [] ≡ characters_in (Some d)
not_text (text_data cs) other = absurd (other refl)
not_text _ other = chars-nil

pub not_signed : (d : Data) → (type_of d ≡ number i32 → ⊥) → pos 0 ≡ signed_in (Some d)
not_signed (number_data i32 n) other = absurd (other refl)
not_signed _ other = refl

pub not_unsigned : (d : Data) → (type_of d ≡ number u32 → ⊥) → 0 ≡ unsigned_in (Some d)
not_unsigned (number_data u32 n) other = absurd (other refl)
not_unsigned _ other = refl

pub not_variant : (d : Data) → (type_of d ≡ variant → ⊥) → IsNoSigned (value_in (Some d))
not_variant (variant_data k x) other = absurd (other refl)
not_variant _ other = tt

-- the first argument, and those behind it
pub first_is : (all new : List Data) (d : Data) → all ≡ d ∷ new → slice_get all 0 ≡ Some d
first_is all new d e = ap (λ (ds : List Data). slice_get ds 0) e

pub second_is : (all new : List Data) (d : Data) → all ≡ d ∷ new → slice_get all 1 ≡ slice_get new 0
second_is all new d e = ap (λ (ds : List Data). slice_get ds 1) e

pub third_is : (all new : List Data) (d : Data) → all ≡ d ∷ new → slice_get all 2 ≡ slice_get new 1
third_is all new d e = ap (λ (ds : List Data). slice_get ds 2) e

pub no_first : (all : List Data) (n : ℕ) → all ≡ [] → slice_get all n ≡ None
no_first all n e = ap (λ (ds : List Data). slice_get ds n) e

-- a value that is read as a signed number, where it is one
pub signed_is : (r : Option ℤ) (d : Data) (k : Kind) → type_of d ≡ k → IsSome r ↔ (k ≡ number i32) → IfSome r (λ n. d ≡ number_data i32 (cast_unsigned w32 n)) → IsSigned r (Some d)
signed_is None d k kind is value = λ h. (let clash = is.1 (sym kind ∙ h) in absurd cc)
signed_is (Some n) d k kind is value = ap Some value
