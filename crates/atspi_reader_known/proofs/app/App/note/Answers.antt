use Rattle.atspi_reader_known.specs.Kept.{kept}
use Rattle.atspi_reader_known.proofs.Cached.{app_of}
use Rattle.atspi_reader_known.proofs.Following.{noted_listed}
use Rattle.atspi_reader_known.proofs.app.App.note.Goals as goal

pub invariant_of-self : goal.invariant_of-self
invariant_of-self c =
    let i = c.self.inside in
    (c.self.invariant.0, c.self.invariant.1, λ e. noted_listed c.args.serial i.wants (app_of i.name i.root (kept i.cache) i.reload i.last i.refused) (c.self.invariant.2 e))
