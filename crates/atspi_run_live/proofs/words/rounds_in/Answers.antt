use Rattle.std.proofs.Common.{◌≡◌, ◌∙◌, sym, arith}
use Rattle.atspi_run_live.proofs.OfWords.{same_rounds}
use Rattle.atspi_run_live.proofs.words.rounds_in.Goals as goal

pub returns-in_default : goal.returns-in_default
returns-in_default c rounds are =
    let same = same_rounds c.args.word.now c.in-Some.rounds rounds c.in-Some.ensures.0 (sym c.as_bytes.ensures.value ∙ c.in-Some.ensures.1) are in
    absurd (omega (arith, same, are.few))

pub returns-in_default-2 : goal.returns-in_default-2
returns-in_default-2 c rounds are =
    let same = same_rounds c.args.word.now c.in-Some.rounds rounds c.in-Some.ensures.0 (sym c.as_bytes.ensures.value ∙ c.in-Some.ensures.1) are in
    absurd (omega (arith, same, are.some))
