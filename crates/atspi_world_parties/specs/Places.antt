-- Connections by their parties.
use Rattle.std.specs.Prelude.{List, find, Option}
use Rattle.atspi_script_lines.specs.declared.line.Party.{Party}
use Rattle.atspi_world_links.specs.declared.post.Post.{Post}
use Rattle.atspi_trace.specs.Ends.{same_party}

-- the connection of a party
abbrev pub post_of : Party → List Post → Option Post
post_of who posts = find (λ (p : Post). same_party p.who who) posts
