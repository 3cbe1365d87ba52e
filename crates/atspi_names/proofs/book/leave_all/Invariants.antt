use Rattle.atspi_names.proofs.BookLemmas.{IsLeaving}
use Rattle.atspi_names.proofs.book.leave_all.Given as goal

abbrev pub invariant-loop-name : goal.invariant-loop-name
invariant-loop-name l = IsLeaving l.conn l.initial.lists l.lists l.name-iterator
