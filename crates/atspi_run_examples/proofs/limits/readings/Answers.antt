use Rattle.std.proofs.Common.{◌≡◌, ◌≤◌, ℕ, Bool, true, false, List, [], ◌∷◌, ◌++◌, length, get_or, append-nil, refl, sym, ap, subst, ◌∙◌, arith, lit≤}
use Rattle.std.specs.Prelude.{codes}
use Rattle.atspi_run_replay.specs.Lines.{lines_read, whole_lines}
use Rattle.atspi_run_examples.proofs.limits.readings.Goals as goal

pub returns-clause-front : goal.returns-clause-front
returns-clause-front c = record { rest = codes "n"; front = refl; whole = λ e. absurd cc; within = lit≤ tt }

pub returns-clause-past : goal.returns-clause-past
returns-clause-past c = λ h. absurd (omega (arith, h.within))

pub returns-clause-whole : goal.returns-clause-whole
returns-clause-whole c = record { rest = []; front = refl; whole = λ e. refl; within = lit≤ tt }

pub returns-clause-not_whole : goal.returns-clause-not_whole
returns-clause-not_whole c = λ h. let e = ap length (h.whole refl) in absurd (omega (arith, e))

pub returns-clause-other : goal.returns-clause-other
returns-clause-other c = λ h. let e : 100 ≡ 116 = ap (λ (l : List ℕ). get_or l 0 0) h.front in absurd (omega (arith, e))

pub returns-clause-lines : goal.returns-clause-lines
returns-clause-lines c = (false, 35 ∷ 10 ∷ [], record { rest = codes "frob"; front = refl; whole = λ e. absurd cc; within = lit≤ tt }, refl)

-- whole lines of no more than two bytes of it are no two lines
lines_few : (ended : Bool) (text rest : List ℕ) → 35 ∷ 10 ∷ codes "frob" ≡ text ++ rest → length text ≤ 2 → (ended ≡ true → 35 ∷ 10 ∷ codes "frob" ≡ text) → lines_read ended text ≡ codes "#" ∷ codes "frob" ∷ [] → ⊥
lines_few true text rest so within whole lines = let e = ap length (whole refl) in absurd (omega (arith, within, e))
lines_few false [] rest so within whole lines = absurd cc
lines_few false (a ∷ []) rest so within whole lines = let e : 35 ≡ a = cc in let none : [] ≡ codes "#" ∷ codes "frob" ∷ [] = subst (λ x. whole_lines (x ∷ []) ≡ codes "#" ∷ codes "frob" ∷ []) (sym e) lines in absurd cc
lines_few false (a ∷ b ∷ []) rest so within whole lines =
    let e : 35 ≡ a = cc in
    let f : 10 ≡ b = cc in
    let one : codes "#" ∷ [] ≡ codes "#" ∷ codes "frob" ∷ [] = subst (λ x. whole_lines (x ∷ 10 ∷ []) ≡ codes "#" ∷ codes "frob" ∷ []) (sym e) (subst (λ x. whole_lines (a ∷ x ∷ []) ≡ codes "#" ∷ codes "frob" ∷ []) (sym f) lines) in
    absurd cc
lines_few false (a ∷ b ∷ d ∷ text) rest so within whole lines = absurd (omega (arith, within))

pub returns-clause-behind : goal.returns-clause-behind
returns-clause-behind c = λ h. lines_few h.0 h.1 h.2.rest h.2.front h.2.within h.2.whole h.3

pub returns-clause-failed : goal.returns-clause-failed
returns-clause-failed c = (codes "ab", lit≤ tt, refl, refl)

pub returns-clause-failed_past : goal.returns-clause-failed_past
returns-clause-failed_past c = λ h. let e = ap length (h.2 ∙ append-nil h.0) in absurd (omega (arith, h.1, e))
