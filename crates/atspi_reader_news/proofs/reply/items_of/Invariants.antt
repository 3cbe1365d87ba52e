use Rattle.std.proofs.Common.{◌≡◌, ◌++◌}
use Rattle.atspi_marshal_in_place.specs.Items.{elements_data}
use Rattle.atspi_protocol.specs.news.Replies.{items_among}
use Rattle.atspi_reader_news.proofs.reply.items_of.Given as goal

-- what was made, and what is still to come, is all
abbrev pub invariant-loop-element : goal.invariant-loop-element
invariant-loop-element l = l.items ++ items_among (elements_data l.rest) ≡ items_among (elements_data l.fn.elements)

abbrev pub decreases-loop-element : goal.decreases-loop-element
decreases-loop-element l = l.rest.left
