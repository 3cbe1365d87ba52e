use Rattle.std.proofs.lemmas.Grind.{common_steps}
use Rattle.std.proofs.Common.{List, ℕ, ◌++◌, ap, ◌∙◌, arith}
use Rattle.atspi_marshal.proofs.WritingSteps.{zeros_padding}
use Rattle.atspi_marshal.proofs.writing.plain.put_padding.Goals as goal

pub returns-clause-pads : goal.returns-clause-pads
returns-clause-pads c =
    record {
      appended = c.in_ok-extend.ensures.ok ∙ ap (λ (bs : List ℕ). c.args.out.now ++ bs) (zeros_padding c.args.align c.args.at c.requires.align.0 c.requires.align.1);
      place = omega arith;
      within = omega arith;
    }

pub returns-then-place-gt-MESSAGE-clause-front : goal.returns-then-place-gt-MESSAGE-clause-front
returns-then-place-gt-MESSAGE-clause-front c = grind (arith, common_steps)

pub returns-in_err-extend-clause-front : goal.returns-in_err-extend-clause-front
returns-in_err-extend-clause-front c = grind (arith, common_steps)

pub returns-clause-front : goal.returns-clause-front
returns-clause-front c = grind (arith, common_steps)
