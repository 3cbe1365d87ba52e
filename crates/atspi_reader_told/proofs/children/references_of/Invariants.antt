use Rattle.std.proofs.Common.{◌≡◌, ◌++◌}
use Rattle.atspi_marshal_in_place.specs.Items.{elements_data}
use Rattle.atspi_protocol.specs.following.Known.{references_among}
use Rattle.atspi_reader_told.proofs.children.references_of.Given as goal

-- what was found, and what is still to come, is all
abbrev pub invariant-loop-element : goal.invariant-loop-element
invariant-loop-element l = l.found.items ++ references_among (elements_data l.rest) ≡ references_among (elements_data l.fn.elements)

abbrev pub decreases-loop-element : goal.decreases-loop-element
decreases-loop-element l = l.rest.left
