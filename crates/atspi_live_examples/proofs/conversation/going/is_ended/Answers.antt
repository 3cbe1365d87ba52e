use Rattle.std.proofs.Common.{◌≡◌, ℕ, List, [], ◌++◌, refl, sym, ap, ◌∙◌, append-nil, arith}
use Rattle.std.specs.Prelude.{codes}
use Rattle.atspi_live_examples.specs.conversation.Silent.{hail}
use Rattle.atspi_live_examples.proofs.OfConversation.Ended as ended
use Rattle.atspi_live_examples.proofs.OfConversation.Given as given
use Rattle.atspi_live_examples.proofs.conversation.going.is_ended.Goals as goal

not_hail : (more sent : List ℕ) → codes "x" ++ more ≡ hail ++ sent → ⊥
not_hail more sent h = cc

pub returns-clause-both : goal.returns-clause-both
returns-clause-both c = (given.said [] hail [] given.none_first (append-nil hail ∙ sym given.lines_first), (ended.nothing, ([], refl, tt)))

pub returns-clause-other_said : goal.returns-clause-other_said
returns-clause-other_said c s = not_hail s.0.more s.0.sent (s.0.front ∙ ap (λ (bytes : List ℕ). bytes ++ s.0.sent) given.lines_first)

pub returns-clause-not_ended : goal.returns-clause-not_ended
returns-clause-not_ended c s = by s.1.2
  where
    by : ◌≡◌ {A = ℕ} 1 5 → ⊥
    by h = omega (arith, h)
