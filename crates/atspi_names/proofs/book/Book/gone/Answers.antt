use Rattle.std.proofs.Common.{sym, ap, ◌∙◌}
use Rattle.atspi_names.specs.Owners.{lists_without}
use Rattle.atspi_names.specs.Standings.{has_name}
use Rattle.atspi_names.proofs.BookLemmas.{absent_everywhere, kept-gone}
use Rattle.atspi_names.proofs.book.Book.gone.Goals as goal

pub invariant_of-self : goal.invariant_of-self
invariant_of-self c =
    kept-gone c.self.inside.standings.sets c.take.new.self.sets c.self.inside.lists c.leave_all.new.lists c.args.conn c.self.invariant c.take.ensures.rest c.leave_all.ensures

pub returns-in_default : goal.returns-in_default
returns-in_default c =
    absent_everywhere c.args.conn c.self.inside.lists c.self.invariant.no_empty
    (λ q. sym (c.self.invariant.mirrored c.args.conn q) ∙ sym (c.take.ensures.names q) ∙ ap (λ o. has_name o q) c.in_default.is)
    ∙ ap (lists_without c.args.conn) c.self.view_is
