use Rattle.std.proofs.Common.{◌≡◌, [], ◌++◌, arith}
use Rattle.std.specs.Prelude.{codes}
use Rattle.std.specs.Fmt.{decimal}
use Rattle.atspi_live_app.specs.declared.asking.Ask.TheVariants as asks
use Rattle.atspi_live_examples.proofs.OfApp.Asked.{empty}
use Rattle.atspi_live_examples.proofs.app.asking.lines_read.Goals as goal

pub returns-clause-blank : goal.returns-clause-blank
returns-clause-blank c = empty

pub returns-clause-not_wait : goal.returns-clause-not_wait
returns-clause-not_wait c h = by h.1
  where
    by : [] ≡ codes "wait " ++ decimal 2 → ⊥
    by h = cc

pub returns-clause-long : goal.returns-clause-long
returns-clause-long c bytes long = λ short. omega (arith, long, short)

pub returns-clause-short : goal.returns-clause-short
returns-clause-short c never = never (omega arith)

pub returns-clause-not_utf8 : goal.returns-clause-not_utf8
returns-clause-not_utf8 c bytes short never = (short, never)

pub returns-clause-utf8 : goal.returns-clause-utf8
returns-clause-utf8 c never = never.1 empty.utf8

pub returns-clause-long_first : goal.returns-clause-long_first
returns-clause-long_first c bytes long never = omega (arith, long, never.0)

pub returns-clause-none : goal.returns-clause-none
returns-clause-none c bytes never = never

pub returns-clause-not_none : goal.returns-clause-not_none
returns-clause-not_none c never = never asks.Nothing empty

pub returns-clause-wanting : goal.returns-clause-wanting
returns-clause-wanting c = tt
