use Rattle.atspi_reader.specs.ReaderOf.{reader_of}
use Rattle.atspi_live_reader.proofs.Shown.{shown_more}
use Rattle.atspi_live_reader.proofs.showing.put_views.Goals as goal

pub apps-preserved : goal.apps-preserved
apps-preserved c =
    shown_more (reader_of c.args.reader.now) c.args.out.now c.apps.out c.put_view.new.out c.in-Some.name.now c.apps.k c.in-Some.ensures c.apps.invariant c.in_ok-put_view.ensures
