-- One part more of a value's spelling.
use Rattle.std.proofs.Common.{◌≡◌, ◌≢◌, ℕ, suc, ◌+◌, ◌<◌, ◌≤◌, List, [], ◌∷◌, ◌++◌, length, map, take, drop, Bool, true, false, refl, sym, ap, subst, ◌∙◌, arith, append_assoc, append-nil, length-append, ◌==◌}
use Rattle.std.specs.List.{prefix_len}
use Rattle.std.proofs.lemmas.List.{take-append-drop, length-take-le, length-drop, drop-drop, take_all, drop_all}
use Rattle.std.proofs.lemmas.List.Sums.{prefix_len-le-length}
use Rattle.std.proofs.lemmas.Bool.{cases_Bool, eqb-true, not-false, false_from_ne_true}
use Rattle.atspi_match.specs.Grammar.{is_quotable, Are, Begins, EndsItem, Part, quoted, escaped, plain, spelling, value_of, AreParts}
use Rattle.atspi_match.specs.inner.Values.{IsNext, IsSpelled, IsOpen, SpelledSoFar}
use Rattle.atspi_match.specs.declared.value.Next.TheVariants.{End, Escaped, Quote, Plain}
use Rattle.atspi_match.proofs.PartLemmas.{spelling-append, value_of-append, spelling-plain, value_of-plain, parts-append, parts-behind}
use Rattle.atspi_match.proofs.RunLemmas.{passes, stops}

pub nothing_yet : (bytes : List ℕ) → SpelledSoFar bytes [] 0
nothing_yet bytes = record { parts = []; lawful = tt; text = refl; at_is = refl; value_is = refl }

step : (bytes value more : List ℕ) (at n : ℕ) (qs : List Part) → SpelledSoFar bytes value at → drop at bytes ≡ spelling qs ++ drop (at + n) bytes → n ≡ length (spelling qs)
    → AreParts qs (drop (at + n) bytes) → more ≡ value_of qs → SpelledSoFar bytes (value ++ more) (at + n)
step bytes value more at n qs s e len k v =
    record {
      parts = s.parts ++ qs;
      lawful = parts-append s.parts qs (drop (at + n) bytes) (subst (λ l. AreParts s.parts l) e s.lawful) k;
      text = s.text ∙ ap (λ l. spelling s.parts ++ l) e ∙ sym (append_assoc (spelling s.parts) (spelling qs) (drop (at + n) bytes)) ∙ ap (λ l. l ++ drop (at + n) bytes) (sym (spelling-append s.parts qs));
      at_is = omega (arith, s.at_is, len, ap length (spelling-append s.parts qs), length-append (spelling s.parts) (spelling qs));
      value_is = ap (λ l. l ++ more) s.value_is ∙ ap (λ l. value_of s.parts ++ l) v ∙ sym (value_of-append s.parts qs);
    }

pub step_plain : (bytes value : List ℕ) (at n : ℕ) → SpelledSoFar bytes value at → IsNext (Plain n) (drop at bytes) → SpelledSoFar bytes (value ++ take n (drop at bytes)) (at + n)
step_plain bytes value at n s h =
    let rest : List ℕ = drop at bytes in
    let behind : drop n rest ≡ drop (at + n) bytes = drop-drop n at bytes in
    step bytes value (take n rest) at n (map plain (take n rest)) s
    (sym (take-append-drop n rest) ∙ ap (λ l. take n rest ++ l) behind ∙ ap (λ l. l ++ drop (at + n) bytes) (sym (spelling-plain (take n rest))))
    (sym (length-take-le n rest h.1) ∙ ap length (sym (spelling-plain (take n rest))))
    (subst (λ l. AreParts (map plain (take n rest)) l) behind h.2)
    (sym (value_of-plain (take n rest)))

pub step_escaped : (bytes value : List ℕ) (at : ℕ) → SpelledSoFar bytes value at → IsNext Escaped (drop at bytes) → SpelledSoFar bytes (value ++ 39 ∷ []) (at + 2)
step_escaped bytes value at s h =
    step bytes value (39 ∷ []) at 2 (escaped ∷ []) s (h.1 ∙ ap (λ l. 92 ∷ 39 ∷ l) (drop-drop 2 at bytes)) refl (tt, tt) refl

-- behind the run stands the apostrophe that closes it
at_close : (xs : List ℕ) (n : ℕ) → n ≡ prefix_len is_quotable xs → n < length xs → drop n xs ≡ 39 ∷ drop (n + 1) xs
at_close xs n e lt = by (drop n xs) refl
  where
    first : (b : ℕ) → (is_quotable b ≡ true → ⊥) → b ≡ 39
    first b not = eqb-true b 39 (not-false (b == 39) (false_from_ne_true (is_quotable b) not))

    by : (rest : List ℕ) → drop n xs ≡ rest → drop n xs ≡ 39 ∷ drop (n + 1) xs
    by [] is = absurd (omega (arith, ap length is, length-drop n xs))
    by (b ∷ rest) is =
        let at_b : b ≡ 39 = first b (λ t. stops is_quotable xs (subst (λ m. Begins is_quotable (drop m xs)) e (subst (λ l. Begins is_quotable l) (sym is) t))) in
        let behind : drop (n + 1) xs ≡ rest = sym (drop-drop 1 n xs) ∙ ap (λ l. drop 1 l) is in
        is ∙ ap (λ c. c ∷ rest) at_b ∙ ap (λ l. 39 ∷ l) (sym behind)

pub step_quote : (bytes value : List ℕ) (at n : ℕ) → SpelledSoFar bytes value at → IsNext Quote (drop at bytes) → n ≡ prefix_len is_quotable (drop 1 (drop at bytes)) → (n ≡ length (drop 1 (drop at bytes)) → ⊥)
    → SpelledSoFar bytes (value ++ take n (drop 1 (drop at bytes))) (at + (n + 2))
step_quote bytes value at n s h e more =
    let inside : List ℕ = drop 1 (drop at bytes) in
    let within : n < length inside = omega (arith, e, prefix_len-le-length is_quotable inside, more) in
    let close = at_close inside n e within in
    let behind : drop (n + 1) inside ≡ drop (at + (n + 2)) bytes = ap (λ l. drop (n + 1) l) (drop-drop 1 at bytes) ∙ drop-drop (n + 1) (at + 1) bytes ∙ ap (λ m. drop m bytes) (omega arith) in
    let each : Are is_quotable (take n inside) = subst (λ m. Are is_quotable (take m inside)) (sym e) (passes is_quotable inside) in
    step bytes value (take n inside) at (n + 2) (quoted (take n inside) ∷ []) s
    (h.1 ∙ ap (λ l. 39 ∷ l) (sym (take-append-drop n inside) ∙ ap (λ l. take n inside ++ l) (close ∙ ap (λ l. 39 ∷ l) behind) ∙ sym (append_assoc (take n inside) (39 ∷ []) (drop (at + (n + 2)) bytes)))
    ∙ ap (λ l. l ++ drop (at + (n + 2)) bytes) (sym (append-nil (39 ∷ (take n inside ++ 39 ∷ [])))))
    (omega (arith, length-take-le n inside (omega (arith, within)), length-append (take n inside) (39 ∷ []), ap length (append-nil (39 ∷ (take n inside ++ 39 ∷ [])))))
    (each, tt)
    (sym (append-nil (take n inside)))

pub finish : (bytes value : List ℕ) (at : ℕ) → SpelledSoFar bytes value at → EndsItem (drop at bytes) → IsSpelled bytes value at
finish bytes value at s ends =
    record { parts = s.parts; lawful = parts-behind s.parts (drop at bytes) [] (λ h. absurd h) s.lawful; text = s.text; len_is = s.at_is; ends = ends; value_is = s.value_is }

pub stays_open : (bytes value : List ℕ) (at n : ℕ) → SpelledSoFar bytes value at → IsNext Quote (drop at bytes) → n ≡ prefix_len is_quotable (drop 1 (drop at bytes)) → n ≡ length (drop 1 (drop at bytes)) → IsOpen bytes at
stays_open bytes value at n s h e all =
    let inside : List ℕ = drop 1 (drop at bytes) in
    let whole : take n inside ≡ inside = take_all n inside (omega (arith, all)) in
    let begins : Begins (λ c. c == 39) (drop at bytes) = subst (λ l. Begins (λ c. c == 39) l) (sym h.1) refl in
    record {
      parts = s.parts;
      behind = inside;
      lawful = parts-behind s.parts (drop at bytes) (39 ∷ []) (λ _. begins) s.lawful;
      no_other = subst (λ l. Are is_quotable l) whole (subst (λ m. Are is_quotable (take m inside)) (sym e) (passes is_quotable inside));
      text = s.text ∙ ap (λ l. spelling s.parts ++ l) h.1;
      at_is = s.at_is;
    }
