use Rattle.std.proofs.Common.{◌≡◌, ◌∷◌, [], Ok, IsTrue, refl}
use Rattle.atspi_types.specs.Kinds.{Kind, number, boolean, text, path, signature, variant, byte, i16, u16, i32, u32, i64, u64, double}
use Rattle.atspi_types.specs.Signatures.{signature_bytes, is_signature, fits_signature}
use Rattle.atspi_types.specs.SignatureReading.{signature_in}
use Rattle.atspi_types.proofs.KindLemmas.{kind_of-Byte, kind_of-Bool, kind_of-I16, kind_of-U16, kind_of-I32, kind_of-U32, kind_of-I64, kind_of-U64, kind_of-Double, kind_of-Text, kind_of-Path, kind_of-Sig, kind_of-Variant}
use Rattle.atspi_types.proofs.SignatureLaws.{signature_in-again, IsSignature-from_test}
use Rattle.atspi_marshal.specs.Spelling.{single}
use Rattle.atspi_marshal.proofs.codes.type_of_code.Goals as goal

-- the spelling of a type of one byte is read as it
lettered : (k : Kind) → IsTrue (is_signature (single k)) → signature_in (signature_bytes (single k)) ≡ Ok (k ∷ [])
lettered k is = signature_in-again (single k) (IsSignature-from_test (single k) is)

pub returns-in-121 : goal.returns-in-121
unfolding is_signature fits_signature
returns-in-121 c = rw (c.in-121.is, kind_of-Byte) (lettered (number byte) refl)

pub returns-in-98 : goal.returns-in-98
unfolding is_signature fits_signature
returns-in-98 c = rw (c.in-98.is, kind_of-Bool) (lettered boolean refl)

pub returns-in-110 : goal.returns-in-110
unfolding is_signature fits_signature
returns-in-110 c = rw (c.in-110.is, kind_of-I16) (lettered (number i16) refl)

pub returns-in-113 : goal.returns-in-113
unfolding is_signature fits_signature
returns-in-113 c = rw (c.in-113.is, kind_of-U16) (lettered (number u16) refl)

pub returns-in-105 : goal.returns-in-105
unfolding is_signature fits_signature
returns-in-105 c = rw (c.in-105.is, kind_of-I32) (lettered (number i32) refl)

pub returns-in-117 : goal.returns-in-117
unfolding is_signature fits_signature
returns-in-117 c = rw (c.in-117.is, kind_of-U32) (lettered (number u32) refl)

pub returns-in-120 : goal.returns-in-120
unfolding is_signature fits_signature
returns-in-120 c = rw (c.in-120.is, kind_of-I64) (lettered (number i64) refl)

pub returns-in-116 : goal.returns-in-116
unfolding is_signature fits_signature
returns-in-116 c = rw (c.in-116.is, kind_of-U64) (lettered (number u64) refl)

pub returns-in-100 : goal.returns-in-100
unfolding is_signature fits_signature
returns-in-100 c = rw (c.in-100.is, kind_of-Double) (lettered (number double) refl)

pub returns-in-115 : goal.returns-in-115
unfolding is_signature fits_signature
returns-in-115 c = rw (c.in-115.is, kind_of-Text) (lettered text refl)

pub returns-in-111 : goal.returns-in-111
unfolding is_signature fits_signature
returns-in-111 c = rw (c.in-111.is, kind_of-Path) (lettered path refl)

pub returns-in-103 : goal.returns-in-103
unfolding is_signature fits_signature
returns-in-103 c = rw (c.in-103.is, kind_of-Sig) (lettered signature refl)

pub returns-in-118 : goal.returns-in-118
unfolding is_signature fits_signature
returns-in-118 c = rw (c.in-118.is, kind_of-Variant) (lettered variant refl)
