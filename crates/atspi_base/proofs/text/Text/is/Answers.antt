use Rattle.std.proofs.Common.{◌≡◌, ◌≢◌, Bool, true, false, List, ℕ, IsTrue, MatchBool, chars, encode_utf8_all, IsUtf8, refl, sym, ap, ◌∙◌}
use Rattle.std.proofs.lemmas.Bool.{false≢true}
use Rattle.std.proofs.lemmas.Str.{IsUtf8-string_bytes}
use Rattle.std.specs.Cmp.Lexicographic.{told_text}
use Rattle.atspi_base.proofs.TextLemmas.{encodes_again}
use Rattle.atspi_base.proofs.text.Text.is.Goals as goal

-- what was told of the bytes holds of the characters
tells : (b : Bool) (xs ys : List ℕ) → IsUtf8 xs → IsUtf8 ys → MatchBool b (xs ≡ ys) (xs ≢ ys) → (IsTrue b → chars xs ≡ chars ys) × (chars xs ≡ chars ys → IsTrue b)
tells true xs ys u v same = (λ _. ap chars same, λ _. refl)
tells false xs ys u v apart =
    (λ t. absurd (false≢true t), λ e. absurd (apart (sym (encodes_again xs u) ∙ ap encode_utf8_all e ∙ encodes_again ys v)))

pub returns : goal.returns
returns c =
    let t = tells c.eq.result _ _ (IsUtf8-string_bytes c.self.inside.string) (IsUtf8-string_bytes c.other.inside.string) (told_text _ _ _ c.eq.ensures) in
    (λ b. sym c.self.view_is ∙ t.0 b ∙ c.other.view_is, λ e. t.1 (c.self.view_is ∙ e ∙ sym c.other.view_is))
