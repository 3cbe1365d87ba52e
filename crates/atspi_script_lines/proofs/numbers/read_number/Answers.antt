use Rattle.std.proofs.Common.{rules, sym, subst}
use Rattle.atspi_script_lines.proofs.NumberLemmas.{untidy, parsed, decimal_utf8, ReadsNumber}
use Rattle.atspi_script_lines.specs.inner.Reading.{IsTidy}
use Rattle.atspi_script_lines.proofs.numbers.read_number.Goals as goal

pub returns-then-not-is_tidy : goal.returns-then-not-is_tidy
returns-then-not-is_tidy c = untidy c.args.word.now (search rules)

pub returns-in_default : goal.returns-in_default
returns-in_default c = λ n small e. c.in_default.ensures.cases.0 (decimal_utf8 n c.args.word.now small e)

pub returns : goal.returns
returns c =
    let tidy : IsTidy c.args.word.now = search rules in
    subst (λ r. ReadsNumber r c.args.word.now) (sym c.ok.ensures.value)
    (parsed c.args.word.now c.parse.result tidy (rw c.in-Ok.ensures.cases.0 at c.parse.ensures.value.0))
