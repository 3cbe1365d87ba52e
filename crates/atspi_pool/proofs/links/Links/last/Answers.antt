use Rattle.std.proofs.Common.{◌≡◌, ◌<◌, ◌-◌, length, sym, ap, ◌∙◌, arith}
use Rattle.atspi_pool.specs.Links.{entry_at}
use Rattle.atspi_pool.proofs.WalkLemmas.{jump}
use Rattle.atspi_pool.proofs.LinkSpecs as specs
use Rattle.atspi_pool.proofs.links.Links.last.Goals as goal

pub returns-clause-block : goal.returns-clause-block
returns-clause-block c =
    let count = specs.count_is c.self.inside.next.items c.self.inside.first_free c.self.inside.free c.self.inside.runs.items c.self.invariant c.args.self.now c.self.view_is c.args.chain c.requires.chain c.index.result.now c.index.ensures in
    let some : 0 < c.index.result.now.count = omega (arith, c.requires.nonempty) in
    let place : c.index.result.now.count - 1 ≡ length (entry_at c.args.self.now c.args.chain).blocks - 1 = omega arith in
    let lt : length (entry_at c.args.self.now c.args.chain).blocks - 1 < length (entry_at c.args.self.now c.args.chain).blocks = omega (arith, c.requires.nonempty) in
    sym (specs.last_is c.self.inside.next.items c.self.inside.first_free c.self.inside.free c.self.inside.runs.items c.self.invariant c.args.self.now c.self.view_is c.args.chain c.requires.chain c.index.result.now c.index.ensures some) ∙ ap (jump c.self.inside.next.items c.index.result.now.first) place
    ∙ sym (specs.place_is c.self.inside.next.items c.self.inside.first_free c.self.inside.free c.self.inside.runs.items c.self.invariant c.args.self.now c.self.view_is c.args.chain c.requires.chain c.index.result.now c.index.ensures (length (entry_at c.args.self.now c.args.chain).blocks - 1) lt)
