-- Two ends, the registry and an application, of which one may have left; their connections; and that one is dropped.
use Rattle.std.specs.Prelude.{List, [], ◌∷◌, Option, None, Some, codes, ℕ}
use Rattle.atspi_script_lines.specs.declared.line.Party.{Party}
use Rattle.atspi_script_lines.specs.declared.line.Party.TheVariants.{Registry, App}
use Rattle.atspi_world_links.specs.declared.post.Post.{Post}
use Rattle.atspi_world_links.specs.declared.post.Standing.TheVariants.{Here}
use Rattle.atspi_match.specs.routing.Queues.{Bus}
use Rattle.atspi_trace.specs.Entry.{dropped}
use Rattle.atspi_trace.specs.World.{World, first_registry}
use Rattle.atspi_trace.specs.Ends.{leaves}
use Rattle.atspi_trace.specs.Causes.{Done}
use Rattle.atspi_examples.specs.Players.{named_app}

abbrev pub two_ends : Bus → World
two_ends b = record { bus = b; ends = first_registry ∷ named_app ∷ []; swaps = 0 }

abbrev pub registry_left : Bus → World
registry_left b = record (two_ends b) { ends = leaves first_registry ∷ named_app ∷ [] }

abbrev pub application_left : Bus → World
application_left b = record (two_ends b) { ends = first_registry ∷ leaves named_app ∷ [] }

-- a party is dropped, for which 500 bytes wait, at a message of 24
abbrev pub drops : World → Party → Done
drops w who = record { world = w; entries = dropped who 500 24 ∷ [] }

-- the connections of both: the bus gave the registry the name :1.0, and the application this one, or none yet
abbrev pub post : Party → Option (List ℕ) → Post
post who name = record { who = who; standing = Here; name = name; up = []; begun = 0 }

abbrev pub posts_with : Option (List ℕ) → List Post
posts_with name = post Registry (Some (codes ":1.0")) ∷ post (App 1) name ∷ []

abbrev pub two_posts : List Post
two_posts = posts_with (Some (codes ":1.1"))

abbrev pub one_named : List Post
one_named = posts_with None

-- before the application had its name
abbrev pub nameless : Bus → World
nameless b = record (two_ends b) { ends = first_registry ∷ record named_app { unique = None } ∷ [] }
