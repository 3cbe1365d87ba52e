use Rattle.atspi_names.proofs.BookLemmas.{kept-released}
use Rattle.atspi_names.proofs.book.Book.release.Goals as goal

pub invariant_of-self : goal.invariant_of-self
invariant_of-self c =
    kept-released c.self.inside.standings.sets c.forget.new.self.sets c.self.inside.lists c.release.new.self c.args.conn c.args.name.now
    c.self.invariant c.forget.ensures c.release.ensures.lists
