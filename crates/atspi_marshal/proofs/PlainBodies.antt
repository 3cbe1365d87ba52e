-- Plain values of tests are well typed: bytes, arrays of bytes, and variants in variants.
use Rattle.std.proofs.Common.{◌≡◌, ℕ, List, [], ◌∷◌, map, refl, subst, sym, Box, Global}
use Rattle.atspi_types.specs.Kinds.{number, byte, variant, IsLawful}
use Rattle.atspi_types.specs.KindView.{kind_of}
use Rattle.atspi_types.specs.Data.{Data, number_data, items_of, type_of, IsWellTyped, AreWellTyped, AllHaveType}
use Rattle.atspi_types.specs.DataView.{data_of, all_data}
use Rattle.atspi_types.specs.declared.ty.Ty.{Ty}
use Rattle.atspi_types.specs.declared.ty.Ty.TheVariants as types
use Rattle.atspi_types.specs.declared.value.Value.{Value}
use Rattle.atspi_types.specs.declared.value.Value.TheVariants as values
use Rattle.atspi_types.specs.declared.value.Values.{Values}
use Rattle.atspi_types.proofs.DataLemmas.{data_of-Array, data_of-Variant}
use Rattle.atspi_types.proofs.KindLemmas.{kind_of-Byte}

bytes_typed : (ns : List ℕ) → AreWellTyped (items_of (map (number_data byte) ns))
bytes_typed [] = tt
bytes_typed (n ∷ ns) = (tt, bytes_typed ns)

bytes_have : (ns : List ℕ) → AllHaveType (number byte) (items_of (map (number_data byte) ns))
bytes_have [] = tt
bytes_have (n ∷ ns) = (refl, tt, bytes_have ns)

pub plain_typed : (ns : List ℕ) (ds : List Data) → ds ≡ map (number_data byte) ns → AreWellTyped (items_of ds)
plain_typed ns ds e = subst (λ (xs : List Data). AreWellTyped (items_of xs)) (sym e) (bytes_typed ns)

plain_have : (ns : List ℕ) (ds : List Data) → ds ≡ map (number_data byte) ns → AllHaveType (number byte) (items_of ds)
plain_have ns ds e = subst (λ (xs : List Data). AllHaveType (number byte) (items_of xs)) (sym e) (bytes_have ns)

pub array_typed : (ns : List ℕ) (vs : Values) → all_data vs ≡ map (number_data byte) ns → IsWellTyped (data_of (values.Array types.Byte vs))
array_typed ns vs e = rw (data_of-Array types.Byte vs, kind_of-Byte) (tt, plain_have ns (all_data vs) e)

pub variant_typed : (ty : Ty) (b : Box Value Global) → IsLawful (kind_of ty) → type_of (data_of b.value) ≡ kind_of ty → IsWellTyped (data_of b.value) → IsWellTyped (data_of (values.Variant ty b)) × (type_of (data_of (values.Variant ty b)) ≡ variant)
variant_typed ty b lawful same typed = rw (data_of-Variant ty b) ((lawful, same, typed), refl)
