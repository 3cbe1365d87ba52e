use Rattle.std.proofs.Common.{◌+◌, ◌%◌, eqb, sym, ap, ◌∙◌, arith}
use Rattle.atspi_pool.specs.declared.run.Marks.{Marks}
use Rattle.atspi_pool.proofs.PushLemmas as pushes
use Rattle.atspi_pool.proofs.store.Store.append.Goals as goal

pub tail-block-requires-clause-free : goal.tail-block-requires-clause-free
tail-block-requires-clause-free c full =
    pushes.free_wanted c.self.inside.bytes.items c.self.inside.links c.self.invariant c.marks-marks.ensures.apart c.args.self.now c.self.view_is c.args.chain c.requires.chain c.args.piece.now c.requires.some c.requires.made
    (ap (λ (m : Marks). eqb ((m.popped + m.len) % 256) 0) (sym c.marks-marks.ensures.marks) ∙ full)

pub overflow_mul-start : goal.overflow_mul-start
overflow_mul-start c = omega (arith, pushes.written_fits c.self.inside.bytes.items c.self.inside.links c.self.invariant c.marks-marks.ensures.apart c.args.self.now c.self.view_is c.args.chain c.requires.chain c.marks-marks.result c.marks-marks.ensures.marks c.tail-block.new.self c.tail-block.ensures.apart c.tail-block.result c.tail-block.ensures.links c.tail-block.ensures.block c.args.piece.now c.requires.some c.requires.in_block)

pub overflow_add-start : goal.overflow_add-start
overflow_add-start c = omega (arith, pushes.written_fits c.self.inside.bytes.items c.self.inside.links c.self.invariant c.marks-marks.ensures.apart c.args.self.now c.self.view_is c.args.chain c.requires.chain c.marks-marks.result c.marks-marks.ensures.marks c.tail-block.new.self c.tail-block.ensures.apart c.tail-block.result c.tail-block.ensures.links c.tail-block.ensures.block c.args.piece.now c.requires.some c.requires.in_block)

pub write-requires : goal.write-requires
write-requires c = pushes.written_fits c.self.inside.bytes.items c.self.inside.links c.self.invariant c.marks-marks.ensures.apart c.args.self.now c.self.view_is c.args.chain c.requires.chain c.marks-marks.result c.marks-marks.ensures.marks c.tail-block.new.self c.tail-block.ensures.apart c.tail-block.result c.tail-block.ensures.links c.tail-block.ensures.block c.args.piece.now c.requires.some c.requires.in_block

pub invariant_of-self : goal.invariant_of-self
invariant_of-self c = pushes.written_stored c.self.inside.bytes.items c.self.inside.links c.self.invariant c.marks-marks.ensures.apart c.args.self.now c.self.view_is c.args.chain c.requires.chain c.marks-marks.result c.marks-marks.ensures.marks c.tail-block.new.self c.tail-block.ensures.apart c.tail-block.result c.tail-block.ensures.links c.tail-block.ensures.block c.args.piece.now c.requires.some c.requires.in_block c.write.new.bytes.items c.write.ensures c.set_marks.new.self c.set_marks.ensures c.requires.small

pub returns : goal.returns
returns c = pushes.written_seen c.self.inside.bytes.items c.self.inside.links c.self.invariant c.marks-marks.ensures.apart c.args.self.now c.self.view_is c.args.chain c.requires.chain c.marks-marks.result c.marks-marks.ensures.marks c.tail-block.new.self c.tail-block.ensures.apart c.tail-block.result c.tail-block.ensures.links c.tail-block.ensures.block c.args.piece.now c.requires.some c.requires.in_block c.write.new.bytes.items c.write.ensures c.set_marks.new.self c.set_marks.ensures c.requires.used
