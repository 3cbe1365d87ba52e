-- What each variant of a type is.
use Rattle.std.proofs.Common.{◌≡◌, Box, Global, map, rules}
use Rattle.atspi_types.specs.Kinds.{number, boolean, text, path, signature, array, structure, variant, dictionary, kinds_of, byte, i16, u16, i32, u32, i64, u64, double}
use Rattle.atspi_types.specs.KindView.{kind_of, kinds_in}
use Rattle.atspi_types.specs.declared.ty.Ty.{Ty, the_lemmas}
use Rattle.atspi_types.specs.declared.ty.Ty.TheVariants.{Byte, Bool, I16, U16, I32, U32, I64, U64, Double, Text, Path, Sig, Array, Struct, Variant, Dict}
use Rattle.atspi_types.specs.declared.ty.EntryType.{EntryType}
use Rattle.atspi_types.specs.declared.ty.Tys.{Tys, the_lemmas as list_lemmas}

pub kind_of-Byte : kind_of Byte ≡ number byte
kind_of-Byte = search (rules, the_lemmas)

pub kind_of-I16 : kind_of I16 ≡ number i16
kind_of-I16 = search (rules, the_lemmas)

pub kind_of-U16 : kind_of U16 ≡ number u16
kind_of-U16 = search (rules, the_lemmas)

pub kind_of-I32 : kind_of I32 ≡ number i32
kind_of-I32 = search (rules, the_lemmas)

pub kind_of-U32 : kind_of U32 ≡ number u32
kind_of-U32 = search (rules, the_lemmas)

pub kind_of-I64 : kind_of I64 ≡ number i64
kind_of-I64 = search (rules, the_lemmas)

pub kind_of-U64 : kind_of U64 ≡ number u64
kind_of-U64 = search (rules, the_lemmas)

pub kind_of-Double : kind_of Double ≡ number double
kind_of-Double = search (rules, the_lemmas)

pub kind_of-Bool : kind_of Bool ≡ boolean
kind_of-Bool = search (rules, the_lemmas)

pub kind_of-Text : kind_of Text ≡ text
kind_of-Text = search (rules, the_lemmas)

pub kind_of-Path : kind_of Path ≡ path
kind_of-Path = search (rules, the_lemmas)

pub kind_of-Sig : kind_of Sig ≡ signature
kind_of-Sig = search (rules, the_lemmas)

pub kind_of-Variant : kind_of Variant ≡ variant
kind_of-Variant = search (rules, the_lemmas)

pub kind_of-Array : (element : Box Ty Global) → kind_of (Array element) ≡ array (kind_of element.value)
kind_of-Array element = search (rules, the_lemmas)

pub kind_of-Struct : (types : Box Tys Global) → kind_of (Struct types) ≡ structure (kinds_of (kinds_in types.value))
kind_of-Struct types = search (rules, the_lemmas)

pub kind_of-Dict : (entry : Box EntryType Global) → kind_of (Dict entry) ≡ dictionary (kind_of entry.value.key) (kind_of entry.value.value)
kind_of-Dict entry = search (rules, the_lemmas)

-- a list of types
pub kinds_in-map : (types : Tys) → kinds_in types ≡ map kind_of types.items.items
kinds_in-map types = search (rules, list_lemmas)
