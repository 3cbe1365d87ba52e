use lib.Utf8.{encode}
use Rattle.std.proofs.Common.{[], ◌∷◌, refl, ap, length, arith}
use Rattle.atspi_trace.specs.Entry.{quiet}
use Rattle.atspi_trace_examples.proofs.heard.behind_a_step.Goals as goal

pub returns-clause-told : goal.returns-clause-told
unfolding encode
returns-clause-told c = ([], (quiet ∷ [], refl))

pub returns-clause-untold : goal.returns-clause-untold
returns-clause-untold c = ([], ([], refl))

pub returns-clause-no_signal : goal.returns-clause-no_signal
returns-clause-no_signal c = ([], ([], refl))

pub returns-clause-missing : goal.returns-clause-missing
unfolding encode
returns-clause-missing c h = absurd (omega (arith, ap length h.1.1))

pub returns-clause-other_entry : goal.returns-clause-other_entry
returns-clause-other_entry c = tt
