use Rattle.std.proofs.Common.{◌≡◌, List, ℕ, [], ◌∷◌, ◌++◌, refl, sym, subst, append-nil}
use Rattle.atspi_live_conversation.specs.Speech.{IsSpentBy}
use Rattle.atspi_live_examples.specs.conversation.Silent.{IsSpentWith, Says, granted}
use Rattle.atspi_live_examples.proofs.OfConversation.Ended.{none_begun, spends}
use Rattle.atspi_live_examples.proofs.conversation.spent.spent_runs.Goals as goal

pub returns-clause-ended : goal.returns-clause-ended
returns-clause-ended c e m n is = (subst (λ (t : List ℕ). IsSpentBy Says (IsSpentWith e) t) (sym (append-nil (granted ++ m))) (spends e m is), (tt, tt))

pub returns-clause-not_ended : goal.returns-clause-not_ended
returns-clause-not_ended c cs s = s.0.spent

pub returns-clause-stops : goal.returns-clause-stops
returns-clause-stops c e m rest is = record { message = e; bytes = m; more = rest; is = is; front = refl; end = 0; stands = (refl, refl); spent = refl }

pub returns-clause-nothing_there : goal.returns-clause-nothing_there
returns-clause-nothing_there c e s = none_begun s.message s.bytes s.more s.is s.front

pub returns-clause-none_would : goal.returns-clause-none_would
returns-clause-none_would c rest s = s.spent

pub returns-clause-took_other : goal.returns-clause-took_other
returns-clause-took_other c e f rest s = by s.stands.0
  where
    by : [] ≡ e ∷ [] → ⊥
    by h = cc
