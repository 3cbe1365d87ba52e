use Rattle.std.proofs.Common.{ap, subst, sym, ◌∙◌, List}
use Rattle.atspi_reader_known.specs.Places.{place_in}
use Rattle.atspi_reader_known.specs.Refusals.{AreBelow, counting}
use Rattle.atspi_reader_known.specs.declared.refused.Entry.{Entry}
use Rattle.atspi_reader_known.proofs.Refusals.{below_kept, counting_kept}
use Rattle.atspi_reader_known.proofs.refused.let_go.Goals as goal

pub returns-clause-counting : goal.returns-clause-counting
returns-clause-counting c =
    ap (counting (place_in c.args.since.now)) c.keep_counted.ensures ∙ counting_kept (place_in c.args.since.now) c.args.items.now.items

pub returns-clause-below : goal.returns-clause-below
returns-clause-below c next below =
    subst (λ (es : List Entry). AreBelow es next) (sym c.keep_counted.ensures) (below_kept (place_in c.args.since.now) c.args.items.now.items next below)
