use Rattle.std.proofs.Common.{rules, ◌≡◌, ◌<◌, ◌==◌, length, true}
use Rattle.atspi_live_bus.proofs.Shutting.{near_first}
use Rattle.atspi_live_bus.proofs.hall.Hall.place_near.Goals as goal

pub returns-then-index-number-clause-first : goal.returns-then-index-number-clause-first
returns-then-index-number-clause-first c =
    let there : c.args.near < length c.args.self.now.links.items = search rules in
    let same : (c.index.result.now.number == c.args.number) ≡ true = search rules in
    near_first c.args.number c.args.self.now.links.items c.args.near c.index.result.now there c.index.ensures same c.requires.differ
