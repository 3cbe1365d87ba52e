use Rattle.std.proofs.Common.{◌≡◌, ℕ, List, [], ◌∷◌, ◌++◌, arith, inr, refl}
use Rattle.atspi_hit.specs.Places.{no_rect}
use Rattle.atspi_run_hit.specs.declared.line.HitLine.TheVariants.{Follow, Place}
use Rattle.atspi_run_hit_examples.proofs.runs.none.Goals as goal

nothing_front : (done : List (List ℕ)) (line : List ℕ) (rest : List (List ℕ)) → [] ≡ done ++ line ∷ rest → ⊥
nothing_front [] line rest e = absurd cc
nothing_front (l ∷ ls) line rest e = absurd cc

pub returns-clause-no_refusal : goal.returns-clause-no_refusal
returns-clause-no_refusal c = λ text h. nothing_front h.done h.line h.rest h.front

pub returns-clause-utf8 : goal.returns-clause-utf8
returns-clause-utf8 c = λ bytes is h. h.1 is

pub returns-clause-long : goal.returns-clause-long
returns-clause-long c = λ bytes e h. omega (arith, e, h)

pub returns-clause-not_long : goal.returns-clause-not_long
returns-clause-not_long c = λ bytes e h. h (omega (arith, e))

pub returns-clause-form : goal.returns-clause-form
returns-clause-form c = λ bytes s. inr (Follow 0 1, s, refl)

pub returns-clause-asked : goal.returns-clause-asked
returns-clause-asked c = λ bytes s. (Place 7 no_rect, s, refl)
