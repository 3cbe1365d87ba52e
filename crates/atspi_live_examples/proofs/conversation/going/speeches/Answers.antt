use Rattle.std.proofs.Common.{◌≡◌, ℕ, List, [], ◌∷◌, ◌++◌, refl, sym, ap, ◌∙◌, append-nil, arith}
use Rattle.std.specs.Prelude.{codes}
use Rattle.atspi_auth.specs.Lines.{end_of_line}
use Rattle.atspi_live_host.specs.declared.call.Did.TheVariants.{Done}
use Rattle.atspi_live_examples.specs.conversation.Silent.{hail}
use Rattle.atspi_live_examples.proofs.OfConversation.Ended as ended
use Rattle.atspi_live_examples.proofs.OfConversation.Given as given
use Rattle.atspi_live_examples.proofs.conversation.going.speeches.Goals as goal

not_hail : (more sent : List ℕ) → codes "x" ++ more ≡ hail ++ sent → ⊥
not_hail more sent h = cc

pub returns-clause-line : goal.returns-clause-line
returns-clause-line c = given.said [] hail [] given.none_first (append-nil hail ∙ sym given.lines_first)

pub returns-clause-part : goal.returns-clause-part
returns-clause-part c = given.said [] (0 ∷ codes "AUTH") (codes " EXTERNAL" ++ end_of_line) given.none_first (sym given.lines_first)

pub returns-clause-other : goal.returns-clause-other
returns-clause-other c s = not_hail s.more s.sent (s.front ∙ ap (λ (bytes : List ℕ). bytes ++ s.sent) given.lines_first)

pub returns-clause-other_link : goal.returns-clause-other_link
returns-clause-other_link c = given.said [] [] hail given.none_first (sym given.lines_first)

pub returns-clause-untold : goal.returns-clause-untold
returns-clause-untold c = tt

pub returns-clause-ended : goal.returns-clause-ended
returns-clause-ended c = (ended.over, (Done 43 ∷ [], refl, (tt, tt)))

pub returns-clause-not_ended : goal.returns-clause-not_ended
returns-clause-not_ended c s = by s.2
  where
    by : ◌≡◌ {A = ℕ} 1 5 → ⊥
    by h = omega (arith, h)

pub returns-clause-ends_untold : goal.returns-clause-ends_untold
returns-clause-ends_untold c = tt
