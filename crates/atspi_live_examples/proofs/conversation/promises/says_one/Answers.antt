use Rattle.std.proofs.Common.{◌≡◌, [], ◌∷◌, ◌++◌, refl, sym, subst, inl, inr}
use Rattle.std.specs.Prelude.{codes}
use Rattle.atspi_message.specs.Envelope.{Envelope}
use Rattle.atspi_live_conversation.specs.Sent.{Fits, IsSent}
use Rattle.atspi_live_examples.proofs.OfConversation.Logged.{hands_one, none_some}
use Rattle.atspi_live_examples.proofs.conversation.promises.says_one.Goals as goal

pub returns-clause-one : goal.returns-clause-one
returns-clause-one c e fits = (e, hands_one [] [] e, inl (fits, refl))

pub returns-clause-left_out : goal.returns-clause-left_out
returns-clause-left_out c e not = (e, hands_one [] [] e, inr (not, refl))

pub returns-clause-not_sent : goal.returns-clause-not_sent
returns-clause-not_sent c e not s = by s.0 (only s.0 e (s.1 [] [] (refl, refl)).1) s.2
  where
    only : (f g : Envelope) → g ∷ [] ≡ [] ++ f ∷ [] → g ≡ f
    only f g h = cc

    some : codes "a" ≡ [] → ⊥
    some h = cc

    by : (f : Envelope) → e ≡ f → IsSent f [] (codes "a") → ⊥
    by f h (inl fits) = not (subst (λ (m : Envelope). Fits m) (sym h) fits.0)
    by f h (inr out) = some out.1

pub returns-clause-not_handed_out : goal.returns-clause-not_handed_out
returns-clause-not_handed_out c unsent more s = none_some s.0 [] (s.1 [] [] (refl, refl)).1

pub returns-clause-none : goal.returns-clause-none
returns-clause-none c l unsent = (λ took said s. s, refl)

pub returns-clause-none_but_handed_out : goal.returns-clause-none_but_handed_out
returns-clause-none_but_handed_out c e unsent s = none_some e [] (sym (s.0 [] [] (refl, refl)).1)

pub returns-clause-none_but_put : goal.returns-clause-none_but_put
returns-clause-none_but_put c l s = by s.1
  where
    by : codes "a" ≡ [] → ⊥
    by h = cc
