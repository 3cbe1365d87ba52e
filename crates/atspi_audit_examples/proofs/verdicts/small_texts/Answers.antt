use Rattle.std.proofs.Common.{◌≡◌, ℕ, List, [], ◌∷◌, None, Some, refl}
use Rattle.std.specs.Prelude.{codes}
use lib.Utf8.{encode}
use Rattle.atspi_script_lines.specs.declared.line.LineFault.TheVariants.{Long, NotUtf8}
use Rattle.atspi_audit_due.specs.Verdicts.{IsWhole, lawful, refused, unlawful}
use Rattle.atspi_audit_examples.proofs.Small.{ends, small}
use Rattle.atspi_audit_examples.proofs.verdicts.small_texts.Goals as goal

not_whole : (b : ℕ) (rest : List ℕ) → IsWhole [] [] (b ∷ rest) → ⊥
not_whole b rest k = let e : (b ∷ rest) ≡ [] = k.0 in cc

pub returns-clause-nothing : goal.returns-clause-nothing
returns-clause-nothing c = small [] None [] (lawful 0) tt (refl, (refl, refl, ends), refl)

pub returns-clause-more : goal.returns-clause-more
unfolding encode
returns-clause-more c = small [] None (codes "x") (unlawful 1 None) tt (refl, not_whole 120 [], refl, refl)

pub returns-clause-long : goal.returns-clause-long
returns-clause-long c = λ line text long. small (line ∷ []) (Some Long) text (refused 1 1) long refl

pub returns-clause-no_utf8 : goal.returns-clause-no_utf8
returns-clause-no_utf8 c = λ line text short no. small (line ∷ []) (Some NotUtf8) text (refused 1 2) (short, no) refl
