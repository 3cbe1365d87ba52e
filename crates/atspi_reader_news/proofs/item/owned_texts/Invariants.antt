use Rattle.std.proofs.Common.{◌≡◌, ◌++◌, map}
use Rattle.atspi_marshal_in_place.specs.Items.{elements_data}
use Rattle.atspi_protocol.specs.news.Arguments.{text_in}
use Rattle.atspi_reader_news.proofs.item.owned_texts.Given as goal

-- what was made, and what is still to come, is all
abbrev pub invariant-loop-element : goal.invariant-loop-element
invariant-loop-element l = l.texts ++ map text_in (elements_data l.rest) ≡ map text_in (elements_data l.fn.elements)

abbrev pub decreases-loop-element : goal.decreases-loop-element
decreases-loop-element l = l.rest.left
