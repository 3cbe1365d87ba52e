-- The lines of authentication of a client, and their bytes.
use Rattle.std.proofs.Common.{◌≡◌, ℕ, List, [], ◌∷◌, ◌++◌, refl, sym, ap, ◌∙◌, append_assoc}
use Rattle.atspi_auth.specs.Lines.{lines_of}
use Rattle.atspi_auth.specs.Said.{bytes_of}
use Rattle.atspi_auth.specs.Talk.{Heard, Standing, after, behind, client_start, ends, heard, hears, hears_bytes, told}
use Rattle.atspi_auth.specs.declared.said.AuthLine.{AuthLine}
use Rattle.atspi_auth.specs.declared.stage.Stage.TheVariants.{Over}
use Rattle.atspi_live_conversation.specs.Speech.{line_bytes}

pub line_bytes_both : (ls ms : List AuthLine) → line_bytes (ls ++ ms) ≡ line_bytes ls ++ line_bytes ms
line_bytes_both [] ms = refl
line_bytes_both (l ∷ ls) ms = ap (λ (w : List ℕ). bytes_of l ++ w) (line_bytes_both ls ms) ∙ sym (append_assoc (bytes_of l) (line_bytes ls) (line_bytes ms))

-- where the lines are over, they stay over, and no more are said
pub over_goes_on : (now : Standing) (bytes : List ℕ) → now.stage ≡ Over → ((after now bytes).stage ≡ Over) × ((told now bytes).said ≡ [])
unfolding heard
over_goes_on now bytes e =
    let h : told now bytes ≡ ends [] (now.line ++ bytes) = ap (λ t. heard t now.line bytes) e in
    (ap (λ (h : Heard). h.stage) h, ap (λ (h : Heard). h.said) h)

-- before the first byte nothing stands behind the lines
pub none_behind : behind client_start [] ≡ []
unfolding heard hears hears_bytes lines_of
none_behind = refl

pub starts_itself : after client_start [] ≡ client_start
unfolding heard hears hears_bytes lines_of
starts_itself = refl
