use Rattle.std.proofs.Common.{◌≡◌, ◌≤◌, length, sym, arith}
use Rattle.std.proofs.lemmas.List.{length-take-le, take_all}
use Rattle.atspi_match.proofs.group.front.Goals as goal

pub slice_bounds-result-end : goal.slice_bounds-result-end
slice_bounds-result-end c = sym (length-take-le 255 c.args.value.now (omega arith))

pub returns-else-value-gt255 : goal.returns-else-value-gt255
returns-else-value-gt255 c = sym (take_all 255 c.args.value.now (omega arith))
