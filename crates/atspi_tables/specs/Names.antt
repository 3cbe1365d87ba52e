-- What holds of the tables of names.
use Rattle.std.specs.Prelude.{◌≡◌, ℕ, false, List, Some, slice_get, slice_index}
use Rattle.std.specs.Char.{is_ascii_digit}

-- no name stands at two places
abbrev pub TellsPlaces : List (List ℕ) → Type 0
TellsPlaces names =
    (i j : ℕ) (name : List ℕ) → slice_get names i ≡ Some name → slice_get names j ≡ Some name → i ≡ j

-- no name begins with a digit, and so none is a number
abbrev pub BeginsWithNoDigit : List (List ℕ) → Type 0
BeginsWithNoDigit names =
    (i : ℕ) (name : List ℕ) → slice_get names i ≡ Some name → is_ascii_digit (slice_index name 0) ≡ false
