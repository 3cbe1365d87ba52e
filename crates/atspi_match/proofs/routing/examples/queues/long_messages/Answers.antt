use Rattle.std.proofs.Common.{◌≡◌, ℕ, [], ◌∷◌, length, refl, ap, ◌∙◌, arith}
use Rattle.atspi_match.specs.declared.routing.closing.Why.TheVariants.{Quota}
use Rattle.atspi_match.specs.routing.Queues.{Waiting, queue_of}
use Rattle.atspi_match.specs.routing.Room.{one_waits}
use Rattle.atspi_match.proofs.OfRouting.Known.{known}
use Rattle.atspi_match.proofs.OfRouting.Long.{full, fits, told_is, told_most}
use Rattle.atspi_match.proofs.routing.examples.queues.long_messages.Goals as goal

waits : length (queue_of one_waits.queues 1) ≡ 1
waits = simp known refl

pub returns-clause-fits : goal.returns-clause-fits
returns-clause-fits c = λ bytes is. ap (λ (w : Waiting). queue_of w.queues 1) (fits 134217729 1 one_waits.queues 1 bytes waits (omega (arith, is))) ∙ simp known refl

pub returns-clause-fits_still : goal.returns-clause-fits_still
returns-clause-fits_still c = λ bytes is. ap (λ (w : Waiting). w.due) (fits 134217729 1 one_waits.queues 1 bytes waits (omega (arith, is)))

pub returns-clause-one_more : goal.returns-clause-one_more
returns-clause-one_more c = λ bytes is.
    ap (λ (w : Waiting). w.due) (full 134217729 1 one_waits.queues 1 bytes waits (omega (arith, is))) ∙ ap (λ (n : ℕ). (1, Quota 1 n) ∷ []) (told_is bytes 134217729 is (omega arith))

pub returns-clause-small_quota : goal.returns-clause-small_quota
returns-clause-small_quota c = λ bytes is.
    ap (λ (w : Waiting). w.due) (full 16777216 1 one_waits.queues 1 bytes waits (omega (arith, is))) ∙ ap (λ (n : ℕ). (1, Quota 1 n) ∷ []) (told_is bytes 134217729 is (omega arith))

pub returns-clause-nothing_goes : goal.returns-clause-nothing_goes
returns-clause-nothing_goes c = λ bytes is. ap (λ (w : Waiting). queue_of w.queues 1) (full 16777216 1 one_waits.queues 1 bytes waits (omega (arith, is))) ∙ simp known refl

pub returns-clause-last_told : goal.returns-clause-last_told
returns-clause-last_told c = λ bytes is.
    ap (λ (w : Waiting). w.due) (full 16777216 1 one_waits.queues 1 bytes waits (omega (arith, is))) ∙ ap (λ (n : ℕ). (1, Quota 1 n) ∷ []) (told_is bytes 4294967295 is (omega arith))

pub returns-clause-no_more_told : goal.returns-clause-no_more_told
returns-clause-no_more_told c = λ bytes is.
    ap (λ (w : Waiting). w.due) (full 16777216 1 one_waits.queues 1 bytes waits (omega (arith, is))) ∙ ap (λ (n : ℕ). (1, Quota 1 n) ∷ []) (told_most bytes (omega (arith, is)))
