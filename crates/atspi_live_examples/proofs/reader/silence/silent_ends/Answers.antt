use Rattle.std.proofs.Common.{◌≡◌, [], Some, refl}
use Rattle.std.specs.Prelude.{codes}
use Rattle.atspi_live_examples.proofs.reader.silence.silent_ends.Goals as goal

pub returns-clause-before : goal.returns-clause-before
returns-clause-before c k calls words = refl

pub returns-clause-no_line : goal.returns-clause-no_line
returns-clause-no_line c k calls words h = by h
  where
    by : codes "say" ≡ [] → ⊥
    by h = cc

pub returns-clause-status : goal.returns-clause-status
returns-clause-status c words = (refl, refl)

pub returns-clause-no_word : goal.returns-clause-no_word
returns-clause-no_word c words r = by r.1
  where
    by : Some (codes "say") ≡ Some [] → ⊥
    by h = cc
