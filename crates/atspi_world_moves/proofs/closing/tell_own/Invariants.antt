use Rattle.std.proofs.Common.{◌≡◌, ◌+◌, ◌++◌, [], None, length}
use Rattle.std.specs.Prelude.{option_to_list}
use Rattle.atspi_trace.specs.Entry.{entries_of}
use Rattle.atspi_trace.specs.Carrying.{sent_by_bus}
use Rattle.atspi_bus_steps.specs.InnerBus.{inner_of}
use Rattle.atspi_world_moves.specs.inner.Told.{ahead, behind_upto, front_upto}
use Rattle.atspi_world_moves.proofs.closing.tell_own.Given as goal

abbrev pub invariant-loop-own : goal.invariant-loop-own
invariant-loop-own l = record {
  bus : inner_of l.bus ≡ record (inner_of l.initial.bus) { own = (inner_of l.bus).own };
  told : entries_of l.trace.items ++ sent_by_bus (front_upto l.last (ahead l.own (inner_of l.bus))) ≡ entries_of l.initial.trace.items ++ sent_by_bus (front_upto l.last (ahead l.initial.own (inner_of l.initial.bus)));
  next : behind_upto l.last (ahead l.own (inner_of l.bus)) ≡ behind_upto l.last (ahead l.initial.own (inner_of l.initial.bus));
  none : l.own ≡ None → (inner_of l.bus).own ≡ [];
}

abbrev pub decreases-loop-own : goal.decreases-loop-own
decreases-loop-own l = length (option_to_list l.own) + length (inner_of l.bus).own
