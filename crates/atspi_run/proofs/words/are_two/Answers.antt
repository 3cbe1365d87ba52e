use Rattle.std.proofs.Common.{◌≡◌, ◌≤◌, ◌<◌, ℕ, Bool, true, List, [], ◌∷◌, length, get_or, map, refl, sym, ap, ◌∙◌, arith, string_bytes, String, Global, MatchBool, IsTrue, false, ◌≢◌}
use Rattle.std.proofs.lemmas.Bool.{false≢true}
use Rattle.std.specs.Cmp.Lexicographic.{told_text}
use Rattle.atspi_run.proofs.words.are_two.Goals as goal

only_two : (ws : List (String Global)) (w v : String Global) → 2 ≤ length ws → length ws < 3 → w ≡ get_or ws 0 w → v ≡ get_or ws 1 v → map string_bytes ws ≡ string_bytes w ∷ string_bytes v ∷ []
only_two [] w v a b e f = absurd (omega arith)
only_two (x ∷ []) w v a b e f = absurd (omega arith)
only_two (x ∷ y ∷ []) w v a b e f = ap (λ s. string_bytes s ∷ string_bytes y ∷ []) (sym e) ∙ ap (λ s. string_bytes w ∷ string_bytes s ∷ []) (sym f)
only_two (x ∷ y ∷ z ∷ ws) w v a b e f = absurd (omega arith)

tells : (b : Bool) (xs ys first second : List ℕ) (all : List (List ℕ)) → xs ≡ first → MatchBool b (ys ≡ second) (ys ≢ second) → all ≡ xs ∷ ys ∷ [] → (IsTrue b → all ≡ first ∷ second ∷ []) × (all ≡ first ∷ second ∷ [] → IsTrue b)
tells true xs ys first second all h m e = (λ _. e ∙ ap (λ v. v ∷ ys ∷ []) h ∙ ap (λ v. first ∷ v ∷ []) m, λ _. refl)
tells false xs ys first second all h m e = (λ t. absurd (false≢true t), λ a. let same : ys ≡ second = cc in absurd (m same))

same_text : (b : Bool) (xs word : List ℕ) → b ≡ true → MatchBool b (xs ≡ word) (xs ≢ word) → xs ≡ word
same_text true xs word e m = m
same_text false xs word e m = absurd (false≢true e)

pub returns-then-eq : goal.returns-then-eq
returns-then-eq c =
    let words = only_two c.args.words.now c.first-item.result c.second-item.result (omega arith) (omega arith) c.first-item.is c.second-item.is in
    let first = same_text c.eq.result c.as_str.result.now _ c.if-eq.true (told_text _ _ _ c.eq.ensures) in
    tells c.eq-then-eq.result c.as_str.result.now c.as_str-then-eq.result.now _ _ (map string_bytes c.args.words.now) first (told_text _ _ _ c.eq-then-eq.ensures)
    (words ∙ ap (λ v. v ∷ string_bytes c.second-item.result ∷ []) (sym c.as_str.ensures.value) ∙ ap (λ v. c.as_str.result.now ∷ v ∷ []) (sym c.as_str-then-eq.ensures.value))

other_first : (b : Bool) (xs ys first second : List ℕ) (all : List (List ℕ)) → b ≡ false → MatchBool b (xs ≡ first) (xs ≢ first) → all ≡ xs ∷ ys ∷ [] → (IsTrue b → all ≡ first ∷ second ∷ []) × (all ≡ first ∷ second ∷ [] → IsTrue b)
other_first true xs ys first second all e m h = absurd (false≢true (sym e))
other_first false xs ys first second all e m h = (λ t. absurd (false≢true t), λ a. let same : xs ≡ first = cc in absurd (m same))

pub returns-else-eq : goal.returns-else-eq
returns-else-eq c =
    let words = only_two c.args.words.now c.first-item.result c.second-item.result (omega arith) (omega arith) c.first-item.is c.second-item.is in
    other_first c.eq.result c.as_str.result.now (string_bytes c.second-item.result) c.args.one.now c.args.two.now (map string_bytes c.args.words.now) c.if-eq.false (told_text _ _ _ c.eq.ensures)
    (words ∙ ap (λ v. v ∷ string_bytes c.second-item.result ∷ []) (sym c.as_str.ensures.value))
