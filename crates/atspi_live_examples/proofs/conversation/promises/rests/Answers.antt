use Rattle.std.proofs.Common.{◌≡◌, ℕ, [], refl, sym, arith}
use Rattle.atspi_live_examples.specs.conversation.Logs.{call}
use Rattle.atspi_live_examples.proofs.OfConversation.Logged.{none_some}
use Rattle.atspi_live_examples.proofs.conversation.promises.rests.Goals as goal

pub returns-clause-same : goal.returns-clause-same
returns-clause-same c l took said s = s

pub returns-clause-took : goal.returns-clause-took
returns-clause-took c r = none_some (call 1) [] (sym (r [] [] (refl, refl)).0)

pub returns-clause-handed_out : goal.returns-clause-handed_out
returns-clause-handed_out c r = none_some (call 1) [] (sym (r [] [] (refl, refl)).1)

pub returns-clause-stood_nowhere : goal.returns-clause-stood_nowhere
returns-clause-stood_nowhere c n m took said s = absurd s

pub returns-clause-none : goal.returns-clause-none
returns-clause-none c = refl

pub returns-clause-one : goal.returns-clause-one
returns-clause-one c h = by h
  where
    by : ◌≡◌ {A = ℕ} 1 0 → ⊥
    by e = omega (arith, e)
