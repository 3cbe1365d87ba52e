use Rattle.std.proofs.Common.{◌≡◌, ◌++◌, [], None, length, map}
use Rattle.atspi_trace.specs.Entry.{entries_of}
use Rattle.atspi_bus_steps.specs.InnerBus.{inner_of, state_of}
use Rattle.atspi_bus_steps.specs.Sound.{IsSound}
use Rattle.atspi_world_moves.specs.Halted.{AreNamedAs}
use Rattle.atspi_world_moves.specs.inner.Told.{ahead, AreOthers, all_emptied, all_gone, bus_told, whose}
use Rattle.atspi_world_moves.proofs.carrier.Carrier.tell_bus.Given as goal

abbrev pub invariant-loop-closing : goal.invariant-loop-closing
invariant-loop-closing l = record {
  sound : IsSound (state_of l.self.bus);
  bus : inner_of l.self.bus ≡ record (inner_of l.initial.self.bus) { own = (inner_of l.self.bus).own; closings = (inner_of l.self.bus).closings };
  none : l.own ≡ None → (inner_of l.self.bus).own ≡ [];
  parties : map whose l.self.posts.items ≡ map whose l.initial.self.posts.items;
  names : AreNamedAs l.initial.self.posts.items l.self.posts.items;
  posts : all_gone (inner_of l.self.bus).closings l.self.posts.items ≡ all_gone (inner_of l.initial.self.bus).closings l.initial.self.posts.items;
  given : all_emptied (inner_of l.self.bus).closings l.self.at_end.items ≡ all_emptied (inner_of l.initial.self.bus).closings l.initial.self.at_end.items;
  told : entries_of l.self.trace.items ++ bus_told (map whose l.initial.self.posts.items) (ahead l.own (inner_of l.self.bus)) (inner_of l.self.bus).closings
      ≡ entries_of l.initial.self.trace.items ++ bus_told (map whose l.initial.self.posts.items) (ahead l.initial.own (inner_of l.initial.self.bus)) (inner_of l.initial.self.bus).closings;
  others : AreOthers (map whose l.initial.self.posts.items) (inner_of l.self.bus).closings → AreOthers (map whose l.initial.self.posts.items) (inner_of l.initial.self.bus).closings;
  past : AreOthers (map whose l.initial.self.posts.items) (inner_of l.initial.self.bus).closings → AreOthers (map whose l.initial.self.posts.items) (inner_of l.self.bus).closings;
}

abbrev pub decreases-loop-closing : goal.decreases-loop-closing
decreases-loop-closing l = length (inner_of l.self.bus).closings
