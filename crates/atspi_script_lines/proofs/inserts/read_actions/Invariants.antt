use Rattle.std.proofs.Common.{◌≤◌, length}
use Rattle.atspi_tree_model.specs.declared.limits.TheConstants.{ACTION_LIMIT}
use Rattle.atspi_script_lines.specs.Forms.{action_clauses}
use Rattle.atspi_script_lines.specs.inner.Reading.{LeadAll}
use Rattle.atspi_script_lines.proofs.inserts.read_actions.Given as goal

abbrev pub invariant-loop-rest : goal.invariant-loop-rest
invariant-loop-rest l =
    record {
      done : LeadAll (action_clauses l.names) l.rest l.bytes;
      few : length l.names ≤ ACTION_LIMIT;
    }

abbrev pub decreases-loop-rest : goal.decreases-loop-rest
decreases-loop-rest l = length l.rest
