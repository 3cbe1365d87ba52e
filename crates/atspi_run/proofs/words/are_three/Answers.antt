use Rattle.std.proofs.Common.{◌≡◌, ◌&&◌, ◌↔◌, ℕ, Bool, true, false, List, [], ◌∷◌, map, refl, sym, ap, ◌∙◌, arith, string_bytes, IsTrue}
use Rattle.std.proofs.lemmas.Bool.{false≢true}
use Rattle.atspi_run_live.proofs.OfWords.{only_three}
use Rattle.atspi_run.proofs.words.are_three.Goals as goal

tells : (x y z all : Bool) (a b c one two three : List ℕ) (words : List (List ℕ)) → all ≡ x && (y && z) → IsTrue x ↔ (a ≡ one) → IsTrue y ↔ (b ≡ two) → IsTrue z ↔ (c ≡ three) → words ≡ a ∷ b ∷ c ∷ []
    → IsTrue all ↔ (words ≡ one ∷ two ∷ three ∷ [])
tells true true true all a b c one two three words e p q r w = (
  λ _. w ∙ ap (λ v. v ∷ b ∷ c ∷ []) (p.0 refl) ∙ ap (λ v. one ∷ v ∷ c ∷ []) (q.0 refl) ∙ ap (λ v. one ∷ two ∷ v ∷ []) (r.0 refl),
  λ _. e,
)
tells false y z all a b c one two three words e p q r w = (λ t. absurd (false≢true (sym e ∙ t)), λ is. let same : a ≡ one = cc in absurd (false≢true (p.1 same)))
tells true false z all a b c one two three words e p q r w = (λ t. absurd (false≢true (sym e ∙ t)), λ is. let same : b ≡ two = cc in absurd (false≢true (q.1 same)))
tells true true false all a b c one two three words e p q r w = (λ t. absurd (false≢true (sym e ∙ t)), λ is. let same : c ≡ three = cc in absurd (false≢true (r.1 same)))

pub returns-in-len3 : goal.returns-in-len3
returns-in-len3 c =
    tells c.is_text.result c.is_text-in-len3.result c.is_text-in-len3-2.result c.all_three.result _ _ _ c.args.one.now c.args.two.now c.args.three.now (map string_bytes c.args.words.now) c.all_three.ensures c.is_text.ensures c.is_text-in-len3.ensures
    c.is_text-in-len3-2.ensures (only_three c.args.words.now c.first-item.result c.second-item.result c.third-item.result (omega arith) (omega arith) c.first-item.is c.second-item.is c.third-item.is)
