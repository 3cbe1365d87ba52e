use Rattle.std.proofs.Common.{◌≡◌, ◌≤◌, ◌<◌, ℕ, Bool, true, List, [], ◌∷◌, length, get_or, map, refl, sym, ap, ◌∙◌, arith, string_bytes, String, Global, MatchBool, IsTrue, false, ◌≢◌}
use Rattle.std.proofs.lemmas.Bool.{false≢true}
use Rattle.std.specs.Cmp.Lexicographic.{told_text}
use Rattle.atspi_run.proofs.words.is_alone.Goals as goal

only_one : (ws : List (String Global)) (w : String Global) → 1 ≤ length ws → length ws < 2 → w ≡ get_or ws 0 w → map string_bytes ws ≡ string_bytes w ∷ []
only_one [] w a b e = absurd (omega arith)
only_one (x ∷ []) w a b e = ap (λ s. string_bytes s ∷ []) (sym e)
only_one (x ∷ y ∷ ws) w a b e = absurd (omega arith)

tells : (b : Bool) (xs word : List ℕ) (all : List (List ℕ)) → MatchBool b (xs ≡ word) (xs ≢ word) → all ≡ xs ∷ [] → (IsTrue b → all ≡ word ∷ []) × (all ≡ word ∷ [] → IsTrue b)
tells true xs word all m e = (λ _. e ∙ ap (λ v. v ∷ []) m, λ _. refl)
tells false xs word all m e = (λ t. absurd (false≢true t), λ a. let same : xs ≡ word = cc in absurd (m same))

pub returns-in-len1 : goal.returns-in-len1
returns-in-len1 c =
    let words = only_one c.args.words.now c.only-item.result (omega arith) (omega arith) c.only-item.is in
    tells c.eq.result c.as_str.result.now c.args.word.now (map string_bytes c.args.words.now) (told_text _ _ _ c.eq.ensures) (words ∙ ap (λ v. v ∷ []) (sym c.as_str.ensures.value))
