-- What reading the spelling of a value gives.
use Rattle.std.specs.Prelude.{◌≡◌, ◌<◌, ◌≤◌, ℕ, List, [], ◌∷◌, ◌++◌, length, take, drop, map}
use Rattle.atspi_match.specs.Grammar.{is_quotable, Are, EndsItem, Part, plain, spelling, value_of, AreParts}
use Rattle.atspi_match.specs.declared.value.Next.{Next}
use Rattle.atspi_match.specs.declared.value.Next.TheVariants.{End, Escaped, Quote, Plain}
use Rattle.atspi_match.specs.declared.value.ValueFault.{ValueFault}
use Rattle.atspi_match.specs.declared.value.ValueFault.TheVariants.{NotClosed, NoMemory}

-- what comes next outside quoted parts
abbrev pub IsNext : Next → List ℕ → Type 0
IsNext End bytes = EndsItem bytes
IsNext Escaped bytes = (2 ≤ length bytes) × (bytes ≡ 92 ∷ 39 ∷ drop 2 bytes)
IsNext Quote bytes = (1 ≤ length bytes) × (bytes ≡ 39 ∷ drop 1 bytes)
IsNext (Plain n) bytes = (1 ≤ n) × (n ≤ length bytes) × AreParts (map plain (take n bytes)) (drop n bytes)

-- the first bytes spell a value, and the item ends there
pub record IsSpelled (bytes value : List ℕ) (len : ℕ) : Type 0 where
  pub parts : List Part
  pub lawful : AreParts parts []
  pub text : bytes ≡ spelling parts ++ drop len bytes
  pub len_is : len ≡ length (spelling parts)
  pub ends : EndsItem (drop len bytes)
  pub value_is : value ≡ value_of parts

-- parts of a spelling, and an apostrophe at the place that no other follows
pub record IsOpen (bytes : List ℕ) (at : ℕ) : Type 0 where
  pub parts : List Part
  pub behind : List ℕ
  pub lawful : AreParts parts (39 ∷ [])
  pub no_other : Are is_quotable behind
  pub text : bytes ≡ spelling parts ++ 39 ∷ behind
  pub at_is : at ≡ length (spelling parts)

-- a quoted part that is not closed
abbrev pub IsStillOpen : ValueFault → List ℕ → Type 0
IsStillOpen (NotClosed at) bytes = IsOpen bytes at
IsStillOpen NoMemory bytes = Unit {0}

-- parts up to a place, which spell a value so far
pub record SpelledSoFar (bytes value : List ℕ) (at : ℕ) : Type 0 where
  pub parts : List Part
  pub lawful : AreParts parts (drop at bytes)
  pub text : bytes ≡ spelling parts ++ drop at bytes
  pub at_is : at ≡ length (spelling parts)
  pub value_is : value ≡ value_of parts
