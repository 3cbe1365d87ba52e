use Rattle.std.proofs.Common.{◌≡◌, drop}
use Rattle.atspi_world_links.specs.Named.{first_named}
use Rattle.atspi_world_links.proofs.naming.first_named.Given as goal

-- none was found up to here
abbrev pub invariant-loop-post : goal.invariant-loop-post
invariant-loop-post l = record {
  none : first_named l.name l.posts ≡ first_named l.name (drop l.post-index l.posts);
}
