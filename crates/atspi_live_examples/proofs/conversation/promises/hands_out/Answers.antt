use Rattle.std.proofs.Common.{◌≡◌, ℕ, List, [], ◌∷◌, refl, sym}
use Rattle.atspi_live_examples.specs.conversation.Logs.{call}
use Rattle.atspi_live_examples.proofs.OfConversation.Logged.{hands_one, none_some, same_serials}
use Rattle.atspi_live_examples.proofs.conversation.promises.hands_out.Goals as goal

pub returns-clause-first : goal.returns-clause-first
returns-clause-first c = hands_one [] [] (call 1)

pub returns-clause-behind : goal.returns-clause-behind
returns-clause-behind c = hands_one (call 7 ∷ []) (call 1 ∷ []) (call 2)

pub returns-clause-before : goal.returns-clause-before
returns-clause-before c t = by (same_serials (call 2 ∷ call 1 ∷ []) (call 1 ∷ call 2 ∷ []) (t [] (call 1 ∷ []) (refl, refl)).1)
  where
    by : ◌≡◌ {A = List ℕ} (2 ∷ 1 ∷ []) (1 ∷ 2 ∷ []) → ⊥
    by h = cc

pub returns-clause-other : goal.returns-clause-other
returns-clause-other c t = by (same_serials (call 1 ∷ []) (call 2 ∷ []) (t [] [] (refl, refl)).1)
  where
    by : ◌≡◌ {A = List ℕ} (1 ∷ []) (2 ∷ []) → ⊥
    by h = cc

pub returns-clause-none : goal.returns-clause-none
returns-clause-none c t = none_some (call 1) [] (t [] [] (refl, refl)).1

pub returns-clause-took : goal.returns-clause-took
returns-clause-took c t = none_some (call 7) [] (sym (t [] [] (refl, refl)).0)

pub returns-clause-stood_nowhere : goal.returns-clause-stood_nowhere
returns-clause-stood_nowhere c n took said s = absurd s
