use Rattle.std.proofs.Common.{◌≡◌, ◌++◌, ℕ, List, map, take}
use Rattle.atspi_protocol.specs.following.ReaderState.{speaks}
use Rattle.atspi_reader.specs.Doing.{all_done}
use Rattle.atspi_reader.proofs.said.say_all.Given as goal

-- the lines that came were said
abbrev pub invariant-loop-line : goal.invariant-loop-line
invariant-loop-line l = all_done l.events.items ≡ all_done l.initial.events.items ++ map (λ (line : List ℕ). speaks l.name line) (take l.line-index l.lines)
