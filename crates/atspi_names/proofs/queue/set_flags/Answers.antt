use Rattle.std.proofs.Common.{◌==◌, ℕ, arith, if◌then◌else◌}
use Rattle.std.proofs.lemmas.Grind.{common_steps}
use Rattle.atspi_names.proofs.QueueLemmas.{map_step, map_step_element}
use Rattle.atspi_names.proofs.queue.set_flags.Goals as goal
use Rattle.atspi_names.proofs.queue.set_flags.Goals.{then-entry-conn, else-entry-conn}

pub loop-entry-preserved : goal.loop-entry-preserved
loop-entry-preserved c =
    let f : ℕ × ℕ → ℕ × ℕ = λ e. if e.0 == c.args.conn then (c.args.conn, c.args.flags) else e in
    elim c.if-entry-conn.branch [
      | then-entry-conn w ↦ grind (arith, common_steps, map_step f c.args.entries.now c.loop-entry.entry-index (0, 0), map_step_element f c.args.entries.now c.loop-entry.entry-index (0, 0))
      | else-entry-conn w ↦ grind (arith, common_steps, map_step f c.args.entries.now c.loop-entry.entry-index (0, 0), map_step_element f c.args.entries.now c.loop-entry.entry-index (0, 0))
    ]
