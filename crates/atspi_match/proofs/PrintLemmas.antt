-- Printing the inside of a value, run by run.
use Rattle.std.proofs.Common.{◌≡◌, ℕ, ◌+◌, ◌<◌, ◌≤◌, List, [], ◌∷◌, ◌++◌, length, take, drop, get_or, Bool, true, false, refl, sym, ap, subst, ◌∙◌, arith, append_assoc, ◌==◌, not}
use Rattle.std.specs.Prelude.{flat_map}
use Rattle.std.specs.List.{prefix_len}
use Rattle.std.proofs.lemmas.Bool.{not-true, not-false, eqb-true, false_from_ne_true}
use Rattle.std.proofs.lemmas.List.{take_more, get_or-drop, length-drop, take-append-drop, drop_more}
use Rattle.std.proofs.lemmas.List.Sums.{prefix_len_stops}
use Rattle.std.proofs.lemmas.Grind.{flat_map-append}
use Rattle.std.proofs.Common.{take-add}
use Rattle.atspi_match.specs.Grammar.{is_quotable, Are}
use Rattle.atspi_match.specs.Printed.{quoted_byte}
use Rattle.atspi_match.proofs.RunLemmas.{passes}

quoted_run : (xs : List ℕ) → Are is_quotable xs → flat_map quoted_byte xs ≡ xs
quoted_run [] h = refl
quoted_run (x ∷ xs) h = rw (not-true (x == 39) h.0, quoted_run xs h.1) refl

-- a run behind what was printed
pub print_run : (value : List ℕ) (at n : ℕ) → n ≡ prefix_len is_quotable (drop at value) → flat_map quoted_byte (take (at + n) value) ≡ flat_map quoted_byte (take at value) ++ take n (drop at value)
print_run value at n e =
    let each : Are is_quotable (take n (drop at value)) = subst (λ m. Are is_quotable (take m (drop at value))) (sym e) (passes is_quotable (drop at value)) in
    ap (flat_map quoted_byte) (take-add at n value) ∙ flat_map-append quoted_byte (take at value) (take n (drop at value)) ∙ ap (λ l. flat_map quoted_byte (take at value) ++ l) (quoted_run (take n (drop at value)) each)

-- and the apostrophe behind it
pub print_quote : (value : List ℕ) (at n : ℕ) → n ≡ prefix_len is_quotable (drop at value) → at + n < length value
    → flat_map quoted_byte (take (at + n + 1) value) ≡ flat_map quoted_byte (take at value) ++ take n (drop at value) ++ 39 ∷ 92 ∷ 39 ∷ 39 ∷ []
print_quote value at n e lt =
    let stop : is_quotable (get_or (drop at value) n 0) ≡ false = subst (λ m. is_quotable (get_or (drop at value) m 0) ≡ false) (sym e) (prefix_len_stops is_quotable (drop at value) 0 (omega (arith, e, length-drop at value))) in
    let here : get_or value (at + n) 0 ≡ 39 = sym (get_or-drop at value n 0) ∙ eqb-true _ 39 (not-false (get_or (drop at value) n 0 == 39) stop) in
    ap (flat_map quoted_byte) (take_more value (at + n) 0 lt) ∙ flat_map-append quoted_byte (take (at + n) value) (get_or value (at + n) 0 ∷ [])
    ∙ ap (λ l. l ++ flat_map quoted_byte (get_or value (at + n) 0 ∷ [])) (print_run value at n e) ∙ ap (λ b. flat_map quoted_byte (take at value) ++ take n (drop at value) ++ flat_map quoted_byte (b ∷ [])) here
