use Rattle.std.proofs.Common.{sym, ◌∙◌, true}
use Rattle.atspi_names.proofs.BookLemmas.{same_note}
use Rattle.atspi_names.proofs.standings.Standings.ensure.Goals as goal

pub returns-then-has-clause-ok : goal.returns-then-has-clause-ok
returns-then-has-clause-ok c = same_note c.args.self.now.sets c.args.conn c.args.name.now true (sym c.has.ensures ∙ c.if-has.true)
