use Rattle.std.proofs.Common.{◌+◌, get_or, take}
use Rattle.std.proofs.lemmas.List.{take_more}
use Rattle.atspi_tree.proofs.Notes.{noted_more}
use Rattle.atspi_tree.proofs.namers.Namers.note_each.Goals as goal

pub loop-target-preserved : goal.loop-target-preserved
loop-target-preserved c =
    noted_more c.args.self.now.sets c.loop-target.self.sets c.note.new.self.sets c.args.node (get_or c.args.targets.now c.loop-target.target-index 0)
    (take c.loop-target.target-index c.args.targets.now) (take (c.loop-target.target-index + 1) c.args.targets.now) c.loop-target.invariant c.in_ok-note.ensures.ok
    (take_more c.args.targets.now c.loop-target.target-index 0 c.loop-target-test.true)
