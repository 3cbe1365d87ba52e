-- Words that only the private contracts and proofs beside `Actions` use.
use Rattle.std.specs.Prelude.{ℕ, List, Option, None, Some, []}

-- the name of an action that may be none
abbrev pub name_or_empty : Option (List ℕ) → List ℕ
name_or_empty None = []
name_or_empty (Some name) = name
