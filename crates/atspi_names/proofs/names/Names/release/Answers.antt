use Rattle.atspi_names.specs.Queue.{released}
use Rattle.atspi_names.specs.Owners.{list_of}
use Rattle.atspi_names.proofs.OwnersLemmas.{early-well_known}
use Rattle.atspi_names.proofs.names.Names.release.Goals as goal

pub invariant_of-self : goal.invariant_of-self
invariant_of-self c =
    early-well_known c.self.inside.given c.self.inside.book c.release.new.self c.args.name.now (released (list_of c.self.inside.book c.args.name.now) c.args.conn).0
    c.self.invariant c.requires.well_known c.release.ensures.lists
