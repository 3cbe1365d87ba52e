use Rattle.std.proofs.Common.{◌≡◌, ◌+◌, [], ◌∷◌, ◌++◌, length, refl, subst, sym, arith, length-append}
use Rattle.unicode_segmentation.specs.Segments.{cut}
use Rattle.atspi_units.specs.Units.{units, IsUnitAt}
use Rattle.atspi_units.specs.declared.grain.Grain.TheVariants.{Char, Line}
use Rattle.atspi_units.proofs.CharLemmas.{char_is}
use Rattle.atspi_units.proofs.CutLemmas.{one_unit}
use Rattle.atspi_units.proofs.LineLemmas.{first_line_is}
use Rattle.atspi_units.proofs.examples.windows.Goals as goal

pub returns-clause-character : goal.returns-clause-character
returns-clause-character c = λ front back first last.
    let text = front ++ (110 ∷ (111 ∷ back)) in
    let e : length front + 1 + 1 ≡ length front + 2 = omega arith in
    subst (λ n. IsUnitAt (units Char text) (length front + 1) (length front + 1) n) e
    (char_is text (length front + 1) (omega (arith, length-append front (110 ∷ (111 ∷ back)))))

pub returns-clause-not_the_first : goal.returns-clause-not_the_first
returns-clause-not_the_first c = λ h. absurd (omega (arith, (h [] [] (λ _. refl) (λ _. refl)).upto))

pub returns-clause-from_the_start : goal.returns-clause-from_the_start
returns-clause-from_the_start c = λ front back first last.
    subst (λ f. IsUnitAt (units Line (f ++ (97 ∷ (10 ∷ back)))) (length f + 0) (length f + 0) (length f + 2)) (sym (first refl))
    (first_line_is 97 back (omega arith))

pub returns-clause-not_from_inside : goal.returns-clause-not_from_inside
unfolding cut
returns-clause-not_from_inside c = λ h.
    let told = h (98 ∷ []) [] (λ e. absurd cc) (λ _. refl) in
    let is : IsUnitAt (units Line (98 ∷ (97 ∷ (10 ∷ [])))) 1 0 3 =
    record { before = []; piece = 98 ∷ (97 ∷ (10 ∷ [])); behind = []; cut = refl; starts = refl; ends = refl; from = omega arith; upto = omega arith } in
    absurd (omega (arith, (one_unit _ 1 0 3 1 3 is told).0))

pub returns-clause-up_to_the_end : goal.returns-clause-up_to_the_end
unfolding cut
returns-clause-up_to_the_end c = λ front back first last.
    let is : IsUnitAt (units Line (97 ∷ [])) 0 0 1 =
    record { before = []; piece = 97 ∷ []; behind = []; cut = refl; starts = refl; ends = refl; from = omega arith; upto = omega arith } in
    subst (λ f. IsUnitAt (units Line (f ++ (97 ∷ back))) (length f + 0) (length f + 0) (length f + 1)) (sym (first refl))
    (subst (λ b. IsUnitAt (units Line (97 ∷ b)) 0 0 1) (sym (last refl)) is)

pub returns-clause-not_up_to_more : goal.returns-clause-not_up_to_more
unfolding cut
returns-clause-not_up_to_more c = λ h.
    let told = h [] (98 ∷ []) (λ _. refl) (λ e. absurd cc) in
    let is : IsUnitAt (units Line (97 ∷ (98 ∷ []))) 0 0 2 =
    record { before = []; piece = 97 ∷ (98 ∷ []); behind = []; cut = refl; starts = refl; ends = refl; from = omega arith; upto = omega arith } in
    absurd (omega (arith, (one_unit _ 0 0 2 0 1 is told).1))
