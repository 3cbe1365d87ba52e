-- What a line says.
use Rattle.std.specs.Prelude.{ℕ, ◌==◌, ◌&&◌, ◌||◌, Bool, false, if◌then◌else◌, List, length, drop, slice_index, codes}
use Rattle.std.specs.Prelude.{nat_eq, bytes_eq, Result, Ok, Err}
use Rattle.std.specs.Char.{is_ascii_digit}
use Rattle.std.specs.List.{starts_with, list_all}
use Rattle.hex.specs.Hex.{decode_of, is_hex_digit}
use Rattle.hex.specs.declared.error.FromHexError.{FromHexError}
use Rattle.atspi_auth.specs.declared.request.Request.{Request}
use Rattle.atspi_auth.specs.declared.request.Request.TheVariants.{Login, Ask, OtherAuth, Uid, OtherData, Cancel, Begin}
use Rattle.atspi_auth.specs.declared.request.Request.TheVariants.{Error, Other}

-- a number is at least one decimal digit
abbrev pub is_decimal : List ℕ → Bool
is_decimal digits = if length digits == 0 then false else list_all is_ascii_digit digits

-- what hex stands for is a number
abbrev pub is_decoded_decimal : Result (List ℕ) FromHexError → Bool
is_decoded_decimal (Ok digits) = is_decimal digits
is_decoded_decimal (Err e) = false

-- the text is the hex of a decimal uid
abbrev pub is_uid : List ℕ → Bool
is_uid text = is_decoded_decimal (decode_of text)

-- the line begins with the word, which ends at the line's end or at a blank
unfoldable pub has_word : List ℕ → List ℕ → Bool
has_word word line = starts_with nat_eq line word
    && (length line == length word || slice_index line (length word) == 32)

-- the line begins with these bytes, and the hex of a decimal uid follows
unfoldable pub has_uid : List ℕ → List ℕ → Bool
has_uid front line = starts_with nat_eq line front && is_uid (drop (length front) line)

-- what a line with the word AUTH says
unfoldable pub auth_request : List ℕ → Request
auth_request line =
    if bytes_eq line (codes "AUTH EXTERNAL") then Ask
    else if has_uid (codes "AUTH EXTERNAL ") line then Login
    else OtherAuth

-- what a line with the word DATA says
unfoldable pub data_request : List ℕ → Request
data_request line =
    if bytes_eq line (codes "DATA") || has_uid (codes "DATA ") line then Uid else OtherData

-- what a line says to a server
unfoldable pub request_of : List ℕ → Request
request_of line =
    if bytes_eq line (codes "BEGIN") then Begin
    else if bytes_eq line (codes "CANCEL") then Cancel
    else if has_word (codes "ERROR") line then Error
    else if has_word (codes "AUTH") line then auth_request line
    else if has_word (codes "DATA") line then data_request line
    else Other

-- the text is 32 hex digits
unfoldable pub is_number : List ℕ → Bool
is_number text = length text == 32 && list_all is_hex_digit text

-- the line is OK and a number of 32 hex digits
unfoldable pub is_grant : List ℕ → Bool
is_grant line = starts_with nat_eq line (codes "OK ") && is_number (drop 3 line)
