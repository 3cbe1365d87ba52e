use Rattle.std.proofs.Common.{◌⊎◌, inl, inr, [], ◌∷◌, refl, arith}
use Rattle.atspi_script_lines.specs.declared.line.Party.TheVariants.{App}
use Rattle.atspi_match.specs.routing.Queues.{Bus}
use Rattle.atspi_trace.specs.Entry.{dropped}
use Rattle.atspi_world_moves.specs.Halted.{HaveNames}
use Rattle.atspi_examples.specs.Halting.{one_named, two_ends}
use Rattle.atspi_examples.proofs.Namings.{lacks}
use Rattle.atspi_examples.proofs.halts.spent.Goals as goal

pub returns-clause-none : goal.returns-clause-none
returns-clause-none c = λ b high. (omega (arith, high), record { part = []; missing = dropped (App 1) 500 24 ∷ []; front = refl; wrote = refl }, inl refl)

pub returns-clause-all : goal.returns-clause-all
returns-clause-all c = λ b high. (omega (arith, high), record { part = dropped (App 1) 500 24 ∷ []; missing = []; front = refl; wrote = refl }, inr refl)

neither : (b : Bus) → HaveNames (two_ends b) one_named ⊎ HaveNames (two_ends b) one_named → ⊥
neither b (inl before) = lacks b before
neither b (inr behind) = lacks b behind

pub returns-clause-misnamed : goal.returns-clause-misnamed
returns-clause-misnamed c = λ b h. neither b h.2
