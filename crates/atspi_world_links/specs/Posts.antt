-- Connections by their names.
use Rattle.std.specs.Prelude.{ℕ, Bool, false, List, Option, Some, None, bytes_eq}
use Rattle.atspi_world_links.specs.declared.post.Post.{Post}

-- whether a name is one that a connection has or had
abbrev pub is_own : List ℕ → Option (List ℕ) → Bool
is_own name None = false
is_own name (Some own) = bytes_eq own name

abbrev pub is_named : List ℕ → Post → Bool
is_named name p = is_own name p.name
