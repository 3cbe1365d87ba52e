use Rattle.std.proofs.Common.{◌≡◌, ℕ, true, false, None, IsSome, refl, subst, sym, arith}
use Rattle.std.specs.FinMap.{get}
use Rattle.atspi_faces.specs.face.Examples.{two}
use Rattle.atspi_faces.proofs.OfFace.Known.{get_two, elsewhere}
use Rattle.atspi_faces.proofs.face.examples.next_nodes.Goals as goal

at_three : IsSome (get two 3)
at_three = subst (λ o. IsSome o) (sym (get_two 3)) refl

at_seven : IsSome (get two 7)
at_seven = subst (λ o. IsSome o) (sym (get_two 7)) refl

not_none : (node : ℕ) → IsSome (get two node) → get two node ≡ None → ⊥
not_none node some e = let both : false ≡ true = subst (λ o. IsSome o) e some in cc

pub returns-clause-itself : goal.returns-clause-itself
returns-clause-itself c = (omega arith, at_three, λ less a b. absurd (omega (arith, a, b)))

pub returns-clause-least : goal.returns-clause-least
returns-clause-least c = (omega arith, at_seven, λ less a b. elsewhere less (λ e. omega (arith, a, b, e)) (λ e. omega (arith, a, b, e)))

pub returns-clause-none : goal.returns-clause-none
returns-clause-none c = λ node a. elsewhere node (λ e. omega (arith, a, e)) (λ e. omega (arith, a, e))

pub returns-clause-not_least : goal.returns-clause-not_least
returns-clause-not_least c = λ is. not_none 3 at_three (is.2 3 (omega arith) (omega arith))

pub returns-clause-not_here : goal.returns-clause-not_here
returns-clause-not_here c = λ is. not_none 5 is.1 (get_two 5)

pub returns-clause-some : goal.returns-clause-some
returns-clause-some c = λ is. not_none 7 at_seven (is 7 (omega arith))
