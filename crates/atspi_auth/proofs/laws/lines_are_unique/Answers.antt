use Rattle.atspi_auth.proofs.LawLemmas.{lines_of-joined, no_end_plain, whole-no_end}
use Rattle.atspi_auth.proofs.LinesLemmas.{joined-lines_of, rest-no_end}
use Rattle.atspi_auth.proofs.laws.lines_are_unique.Goals as goal

pub returns-clause-joined : goal.returns-clause-joined
returns-clause-joined c = joined-lines_of

pub returns-clause-whole : goal.returns-clause-whole
returns-clause-whole c = whole-no_end

pub returns-clause-rest : goal.returns-clause-rest
returns-clause-rest c = rest-no_end

pub returns-clause-only : goal.returns-clause-only
returns-clause-only c = lines_of-joined

pub returns-clause-no_end : goal.returns-clause-no_end
returns-clause-no_end c = no_end_plain
