-- Which bytes are the text of an argument.
use Rattle.std.proofs.Common.{◌≡◌, ℕ, ◌<◌, ◌≤◌, List, length, refl, sym, ap, ◌∙◌, arith, encode_utf8_all, chars, IsUtf8, Result, Ok, Err}
use Rattle.std.proofs.lemmas.Str.{chars-encodes}
use Rattle.atspi_base.specs.Text.{bytes_before_zero}
use Rattle.atspi_base.specs.ReadsText.{text_in}
use Rattle.atspi_base.specs.declared.text.TextFault.{TextFault}
use Rattle.atspi_base.proofs.TextLemmas.{text_is, whole}
use Rattle.atspi_match.specs.Conditions.{IsText}

pub text_read : (bytes cs : List ℕ) → length bytes < 4294967296 → text_in bytes ≡ Ok cs → IsText cs × (encode_utf8_all cs ≡ bytes)
text_read bytes cs small e =
    let is = text_is bytes cs e in
    (record { scalars = is.1; bytes = record { no_zero = rw is.0 is.2; counted = rw is.0 small }; spelled = chars-encodes cs is.1 }, is.0)

-- bytes that are no text are those of none
pub no_text : (bytes : List ℕ) (fault : TextFault) → text_in bytes ≡ Err fault → (cs : List ℕ) → IsText cs → encode_utf8_all cs ≡ bytes → ⊥
no_text bytes fault e cs h is =
    let utf8 : IsUtf8 (encode_utf8_all cs) = (cs, (h.scalars, refl)) in
    let read = whole (encode_utf8_all cs) (bytes_before_zero (encode_utf8_all cs)) utf8 refl (omega (arith, h.bytes.no_zero)) in
    let both : text_in (encode_utf8_all cs) ≡ text_in bytes = ap text_in is in
    cc
