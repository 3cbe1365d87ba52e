use Rattle.std.proofs.Common.{◌≡◌, ℕ, Option, Some, refl, ap, arith}
use Rattle.atspi_trace.specs.Entry.{Entry, busy}
use Rattle.atspi_trace_examples.proofs.trace.settling.due_entries.Goals as goal

-- the turns that an entry tells
abbrev turns : Option Entry → ℕ
turns (Some (busy count)) = count
turns entry = 0

pub returns-clause-next : goal.returns-clause-next
returns-clause-next c = λ b. record { next = refl; all_rest = tt; truly = tt }

pub returns-clause-another : goal.returns-clause-another
returns-clause-another c = λ b d. let count : 5 ≡ 6 = ap turns d.next in omega (arith, count)

-- the reader, the third of the ends, would hold the application, the second
pub returns-clause-untrue : goal.returns-clause-untrue
returns-clause-untrue c = λ b d. d.truly.1.1.0.1.0

pub returns-clause-passed : goal.returns-clause-passed
returns-clause-passed c = λ b d. d.all_rest.0.1.1.0.1.0
