use Rattle.std.proofs.Common.{◌≡◌, [], ◌∷◌, Some, None, ap, ◌∙◌}
use Rattle.std.proofs.lemmas.Option.{same_Some}
use Rattle.atspi_trace.specs.Entry.{quiet}
use Rattle.atspi_trace.specs.Ends.{end_at}
use Rattle.atspi_trace_examples.specs.trace.Small.{idle, reader}
use Rattle.atspi_trace_examples.proofs.trace.own.no_turn.Goals as goal

pub returns-clause-owed : goal.returns-clause-owed
returns-clause-owed c = λ b own. let owed : quiet ∷ [] ≡ [] = own.nothing_owed in absurd cc

pub returns-clause-nobody : goal.returns-clause-nobody
returns-clause-nobody c = λ b own. let free : None ≡ Some own.conn = own.free in absurd cc

pub returns-clause-no_end : goal.returns-clause-no_end
returns-clause-no_end c = λ b own.
    let there : None ≡ Some own.asker = ap (end_at (reader 0 idle ∷ [])) (same_Some 1 own.conn own.free) ∙ own.there in
    absurd cc
