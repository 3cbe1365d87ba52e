-- Parties by the unique names of their connections.
use Rattle.std.specs.Prelude.{ℕ, List, [], ◌∷◌, Option, None, Some, if◌then◌else◌}
use Rattle.atspi_tree_model.specs.Forest.{first_of}
use Rattle.atspi_script_lines.specs.declared.line.Party.{Party}
use Rattle.atspi_script_lines.specs.declared.line.Party.TheVariants.{Bus as The_bus, App}
use Rattle.atspi_world_links.specs.declared.post.Post.{Post}
use Rattle.atspi_world_links.specs.Posts.{is_named}

-- the first that has or had a name, and else the bus
abbrev pub first_named : List ℕ → List Post → Party
first_named name [] = The_bus
first_named name (p ∷ ps) = if is_named name p then p.who else first_named name ps

abbrev pub party_named : Option (List ℕ) → List Post → Party
party_named None posts = The_bus
party_named (Some name) posts = first_named name posts

-- the first application that has or had a name
abbrev pub app_by : List ℕ → Party → Post → Option ℕ
app_by name (App app) p = if is_named name p then Some app else None
app_by name who p = None

abbrev pub app_of : List ℕ → Post → Option ℕ
app_of name p = app_by name p.who p

abbrev pub app_named : List ℕ → List Post → Option ℕ
app_named name [] = None
app_named name (p ∷ ps) = first_of (app_of name p) (app_named name ps)
