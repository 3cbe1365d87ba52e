use Rattle.std.proofs.Common.{◌≡◌}
use Rattle.std.specs.List.{fold}
use Rattle.atspi_protocol.specs.following.Known.{made_known}
use Rattle.atspi_reader.specs.inner.Turns.{StandsInFront}
use Rattle.atspi_reader.proofs.known.make_each.Given as goal

-- those of the references that came are known
abbrev pub invariant-loop-reference : goal.invariant-loop-reference
invariant-loop-reference l = record {
  made : l.apps ≡ fold made_known l.initial.apps l.yielded;
  front : StandsInFront l.initial.apps l.apps;
}
