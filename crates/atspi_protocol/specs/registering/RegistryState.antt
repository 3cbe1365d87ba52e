-- What the registry knows (AT-SPI2's registry and socket interfaces).
use Rattle.std.specs.Prelude.{◌&&◌, not, ℕ, Bool, List, [], filter, position, Option, None, bytes_eq}
use Rattle.std.specs.List.{list_any}

-- The pairs of a listener's bus name and a pattern, and the children, each the bus name and the path of a root, both in
-- order of arrival; how many roots were embedded so far; the number of its call of Hello, once that is made, and its
-- unique name, once that is told; and the number of its next message.
pub record RegistryState : Type 0 where
  pub pairs : List (List ℕ × List ℕ)
  pub children : List (List ℕ × List ℕ)
  pub embeds : ℕ
  pub hello : Option ℕ
  pub own : Option (List ℕ)
  pub next : ℕ

-- at the beginning it knows nobody
abbrev pub begins : RegistryState
begins = record { pairs = []; children = []; embeds = 0; hello = None; own = None; next = 1 }

-- a pair or a child is of the connection with this name
abbrev pub is_of : List ℕ → List ℕ × List ℕ → Bool
is_of name x = bytes_eq x.0 name

abbrev pub is_pair : List ℕ → List ℕ → List ℕ × List ℕ → Bool
is_pair name pattern p = is_of name p && bytes_eq p.1 pattern

abbrev pub has_pair : List (List ℕ × List ℕ) → List ℕ → List ℕ → Bool
has_pair pairs name pattern = list_any (is_pair name pattern) pairs

abbrev pub without_pair : List (List ℕ × List ℕ) → List ℕ → List ℕ → List (List ℕ × List ℕ)
without_pair pairs name pattern = filter (λ p. not (is_pair name pattern p)) pairs

-- the pairs of one connection, and those of the others
abbrev pub pairs_of : List (List ℕ × List ℕ) → List ℕ → List (List ℕ × List ℕ)
pairs_of pairs name = filter (is_of name) pairs

abbrev pub pairs_without : List (List ℕ × List ℕ) → List ℕ → List (List ℕ × List ℕ)
pairs_without pairs name = filter (λ p. not (is_of name p)) pairs

-- where the child of a connection stands
abbrev pub child_place : List (List ℕ × List ℕ) → List ℕ → Option ℕ
child_place children name = position (is_of name) children
