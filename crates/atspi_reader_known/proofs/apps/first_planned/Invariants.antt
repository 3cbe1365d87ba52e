use Rattle.std.proofs.Common.{◌≡◌, drop}
use Rattle.atspi_reader_known.specs.Planned.{first_planned}
use Rattle.atspi_reader_known.proofs.apps.first_planned.Given as goal

-- what is wanted first of those that are left is wanted first of all
abbrev pub invariant-loop-app : goal.invariant-loop-app
invariant-loop-app l = first_planned l.plan l.name (drop l.app-index l.apps) ≡ first_planned l.plan l.name l.apps
