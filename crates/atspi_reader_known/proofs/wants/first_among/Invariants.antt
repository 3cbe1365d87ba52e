use Rattle.std.proofs.Common.{◌≡◌, drop}
use Rattle.atspi_reader_known.specs.Listed.{left}
use Rattle.atspi_reader_known.specs.Wanted.{first}
use Rattle.atspi_reader_known.proofs.wants.first_among.Given as goal

-- the first that is left of those behind is the first of all
abbrev pub invariant-loop-want : goal.invariant-loop-want
invariant-loop-want l = first (left l.more (drop l.want-index l.wants)) ≡ first (left l.more l.wants)
