use Rattle.atspi_names.proofs.BookLemmas.{kept-empty}
use Rattle.atspi_names.proofs.book.Book.new.Goals as goal

pub invariant_of-result : goal.invariant_of-result
invariant_of-result c = kept-empty c.new-2.result.sets c.new.result c.new.ensures c.new-2.ensures
