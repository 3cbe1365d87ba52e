use Rattle.std.proofs.Common.{◌≡◌, ℕ, ◌==◌, Bool, true, false, List, [], ◌∷◌, length, chars, IsUtf8, sym, ◌∙◌, arith}
use Rattle.std.specs.Prelude.{◌↔◌}
use Rattle.std.proofs.lemmas.Bool.{eqb-true}
use Rattle.std.proofs.lemmas.Str.{chars-nil}
use Rattle.atspi_registry.proofs.Heard.{some_characters}
use Rattle.atspi_registry.proofs.news.is_nobody.Goals as goal

not_none : (x : ℕ) (bs : List ℕ) → (length (x ∷ bs) == 0) ≡ true → ⊥
not_none x bs h = let z : length (x ∷ bs) ≡ 0 = eqb-true (length (x ∷ bs)) 0 h in omega arith

nobody : (bs : List ℕ) (b : Bool) → IsUtf8 bs → b ≡ (length bs == 0) → (b ≡ true) ↔ (chars bs ≡ [])
nobody [] b u e = (λ h. chars-nil, λ h. e)
nobody (x ∷ bs) b u e = (λ h. absurd (not_none x bs (sym e ∙ h)), λ h. absurd (some_characters (x ∷ bs) u (λ k. cc) h))

pub returns : goal.returns
returns c = nobody c.args.text.now c.is_empty.result c.utf8.text c.is_empty.ensures
