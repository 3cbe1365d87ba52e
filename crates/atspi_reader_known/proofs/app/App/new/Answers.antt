use Rattle.atspi_reader_known.proofs.Cached.{new_app, nothing_kept}
use Rattle.atspi_reader_known.proofs.Following.{once_nothing}
use Rattle.atspi_reader_known.proofs.app.App.new.Goals as goal

pub invariant_of-result : goal.invariant_of-result
invariant_of-result c = (nothing_kept c.args.name c.args.root c.new.result c.new.ensures, once_nothing c.new.result c.new.ensures, λ e. absurd cc)

pub returns : goal.returns
returns c = new_app c.args.name c.args.root c.new.result c.new-2.result c.new.ensures c.new-2.ensures
