use Rattle.std.proofs.Common.{◌≡◌, ◌≢◌, ℕ, Bool, true, false, List, refl, sym, ◌∙◌, string_bytes, MatchBool, IsTrue}
use Rattle.std.proofs.lemmas.Bool.{false≢true}
use Rattle.std.specs.Cmp.Lexicographic.{told_text}
use Rattle.atspi_run.proofs.words.is_text.Goals as goal

tells : (b : Bool) (xs bytes word : List ℕ) → MatchBool b (xs ≡ word) (xs ≢ word) → xs ≡ bytes → (IsTrue b → bytes ≡ word) × (bytes ≡ word → IsTrue b)
tells true xs bytes word m e = (λ _. sym e ∙ m, λ _. refl)
tells false xs bytes word m e = (λ t. absurd (false≢true t), λ a. absurd (m (e ∙ a)))

pub returns : goal.returns
returns c = tells c.eq.result c.as_str.result.now (string_bytes c.args.word.now) c.args.text.now (told_text _ _ _ c.eq.ensures) c.as_str.ensures.value
