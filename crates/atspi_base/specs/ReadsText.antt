-- What reading bytes as a text gives.
use Rattle.std.specs.Prelude.{◌≡◌, ◌<◌, ℕ, List, chars, Result, Ok, Err, nat_lt, if◌then◌else◌}
use Rattle.std.specs.Str.{is_utf8}
use Rattle.std.specs.Str.Lossy.{utf8_valid_len}
use Rattle.atspi_base.specs.Text.{bytes_before_zero}
use Rattle.atspi_base.specs.declared.text.Text.{Text}
use Rattle.atspi_base.specs.declared.text.TextFault.{TextFault}
use Rattle.atspi_base.specs.declared.text.TextFault.TheVariants.{Zero, Utf8, NoMemory}

-- the characters that the bytes spell; or the first bad byte, be it a zero byte or the first of a sequence that is not
-- UTF-8
unfoldable pub text_in : List ℕ → Result (List ℕ) TextFault
text_in bytes =
    if nat_lt (bytes_before_zero bytes) (utf8_valid_len bytes) then Err (Zero (bytes_before_zero bytes))
    else if is_utf8 bytes then Ok (chars bytes) else Err (Utf8 (utf8_valid_len bytes))

-- the answer is what the bytes are, or want of memory
abbrev pub ReadsText : Result Text TextFault → List ℕ → Type 0
ReadsText (Ok t) bytes = text_in bytes ≡ Ok t
ReadsText (Err NoMemory) bytes = Unit {0}
ReadsText (Err e) bytes = text_in bytes ≡ Err e

-- the same of a text where it lies: memory is never wanted
abbrev pub ReadsStr : {S : Type 0} → Result S TextFault → List ℕ → Type 0
ReadsStr (Ok t) bytes = text_in bytes ≡ Ok (chars bytes)
ReadsStr (Err NoMemory) bytes = ⊥
ReadsStr (Err e) bytes = text_in bytes ≡ Err e

-- the place of a fault is one of the bytes
abbrev pub PlaceBelow : Result Text TextFault → ℕ → Type 0
PlaceBelow (Ok t) n = Unit {0}
PlaceBelow (Err (Zero i)) n = i < n
PlaceBelow (Err (Utf8 i)) n = i < n
PlaceBelow (Err NoMemory) n = Unit {0}

abbrev pub StrPlaceBelow : {S : Type 0} → Result S TextFault → ℕ → Type 0
StrPlaceBelow (Ok t) n = Unit {0}
StrPlaceBelow (Err (Zero i)) n = i < n
StrPlaceBelow (Err (Utf8 i)) n = i < n
StrPlaceBelow (Err NoMemory) n = ⊥
