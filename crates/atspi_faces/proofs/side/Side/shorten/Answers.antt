use Rattle.std.proofs.Common.{take, sym, arith}
use Rattle.std.proofs.lemmas.List.{take-take, length-take-le}
use Rattle.atspi_faces.proofs.SideLemmas.{noted_along}
use Rattle.atspi_faces.proofs.side.Side.shorten.Goals as goal

pub returns-clause-side : goal.returns-clause-side
returns-clause-side c = λ cs side left.
    let n = c.args.left.chars in
    record {
      counted = omega (arith, left.within, length-take-le n cs left.within);
      sized = left.told;
      noted = noted_along cs (take n cs) n _ (sym (take-take n n cs (omega arith))) (c.shed.ensures cs _ side.noted);
    }
