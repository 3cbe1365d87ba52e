use Rattle.std.proofs.Common.{◌+◌, ◌-◌, ◌%◌, ap, ◌∙◌}
use Rattle.atspi_pool.specs.declared.run.Marks.{Marks}
use Rattle.atspi_pool.specs.Links.{entry_at}
use Rattle.atspi_pool.specs.Store.{held, chain_at}
use Rattle.atspi_pool.proofs.StoreLemmas as lemmas
use Rattle.atspi_pool.proofs.store.Store.room.Goals as goal

pub returns-clause-in_block : goal.returns-clause-in_block
returns-clause-in_block c =
    let len = lemmas.len_is c.self.inside.bytes.items c.self.inside.links c.self.invariant c.marks-marks.ensures.apart c.args.self.now c.self.view_is c.args.chain c.requires in
    let popped = lemmas.popped_is c.self.inside.bytes.items c.self.inside.links c.self.invariant c.marks-marks.ensures.apart c.args.self.now c.self.view_is c.args.chain c.requires in
    ap (λ (m : Marks). 256 - (m.popped + m.len) % 256) c.marks-marks.ensures.marks
    ∙ ap (λ p. 256 - (p + (entry_at c.self.inside.links c.args.chain).marks.len) % 256) popped
    ∙ ap (λ n. 256 - ((held (chain_at c.args.self.now c.args.chain)).popped + n) % 256) len
