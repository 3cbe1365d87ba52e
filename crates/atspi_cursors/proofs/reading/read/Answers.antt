use Rattle.std.proofs.Common.{◌≤◌, [], length, chars, Some, sym, ap, subst, ◌∙◌, arith}
use Rattle.std.specs.List.{concat}
use Rattle.atspi_units.specs.Units.{ends_unit, units}
use Rattle.atspi_units.proofs.CutLemmas.{concat-cut}
use Rattle.atspi_cursors.specs.Reading.{IsRead}
use Rattle.atspi_cursors.proofs.CursorLemmas.{read_none}
use Rattle.atspi_cursors.proofs.reading.read.Goals as goal

pub returns-in_err-start : goal.returns-in_err-start
returns-in_err-start c =
    let pieces = units c.args.unit (chars c.args.text.now) in
    let whole = concat-cut (ends_unit c.args.unit) [] (chars c.args.text.now) [] in
    let behind : length (concat pieces) ≤ c.in_ok-at.at = omega (arith, ap length whole, c.in_err-start.ensures) in
    subst (IsRead c.args.way pieces c.args.cursor) (sym c.from_residual-in_err-start.ensures)
    (read_none c.args.way pieces c.args.cursor (Some c.in_ok-at.at) (sym c.place_read.ensures ∙ c.in_ok-at.was) behind)
