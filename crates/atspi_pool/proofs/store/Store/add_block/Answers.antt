use Rattle.atspi_pool.proofs.PushLemmas as pushes
use Rattle.atspi_pool.proofs.store.Store.add_block.Goals as goal

pub returns-clause-ok : goal.returns-clause-ok
returns-clause-ok c =
    pushes.block_added c.self.inside.bytes.items c.self.inside.links c.self.invariant c.add_block.ensures.apart c.args.self.now c.self.view_is _ c.extend_from_slice.new.self.items c.in_ok-extend_from_slice.ensures.items
    c.add_block.new.self c.in_default.ensures.ok
