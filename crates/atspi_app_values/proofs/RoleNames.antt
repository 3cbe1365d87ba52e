-- The names of roles are words: by trying each.
use Rattle.std.proofs.Common.{◌≡◌, ℕ, zero, suc, ◌<◌, ◌^◌, Bool, true, ◌&&◌, List, [], ◌∷◌, length, refl, arith}
use Rattle.std.specs.Prelude.{nat_lt, slice_get, unwrap_or, codes}
use Rattle.std.specs.List.{list_all}
use Rattle.std.proofs.lemmas.Bool.{and_parts, ltb-true}
use Rattle.atspi_tables.specs.Roles.{role_names}
use Rattle.atspi_protocol_messages.specs.Plain.{are_plain}
use Rattle.atspi_protocol.specs.objects.Values.{role_name}

abbrev is_word : List ℕ → Bool
is_word name = are_plain name && nat_lt (length name) 100

tried : list_all is_word role_names ≡ true
unfolding role_names
tried = refl

word_at : (names : List (List ℕ)) (i : ℕ) → list_all is_word names ≡ true → is_word (unwrap_or (slice_get names i) (codes "unknown")) ≡ true
word_at [] i h = refl
word_at (name ∷ names) zero h = (and_parts (is_word name) (list_all is_word names) h).0
word_at (name ∷ names) (suc i) h = word_at names i (and_parts (is_word name) (list_all is_word names) h).1

pub role_is_word : (role : ℕ) → (are_plain (role_name role) ≡ true) × (length (role_name role) < 2 ^ 32)
role_is_word role =
    let h = and_parts (are_plain (role_name role)) (nat_lt (length (role_name role)) 100) (word_at role_names role tried) in
    (h.0, (let z = ltb-true (length (role_name role)) 100 h.1 in omega arith))
