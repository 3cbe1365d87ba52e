-- Texts are one script.
use Rattle.std.proofs.Common.{◌≡◌, ℕ, List, [], ◌∷◌, Option, None, Some, refl, ap, ap₂}
use Rattle.atspi_script_lines.specs.declared.line.Line.{Line}
use Rattle.atspi_script_lines.specs.declared.line.LineFault.{LineFault}
use Rattle.atspi_script_lines.specs.declared.line.LineFault.TheVariants.{Long, NotUtf8, Form, NoMemory}
use Rattle.atspi_script_lines.specs.Line.{Spells}
use Rattle.atspi_script_lines.proofs.OnceLemmas.{one_reading}
use Rattle.atspi_audit_due.specs.Verdicts.{AreLines, IsNoLine}

-- what spells a line spells none for no fault
no_line : (line : Line) (fault : LineFault) (bytes : List ℕ) → Spells line bytes → IsNoLine fault bytes → ⊥
no_line line Long bytes s n = n s.short
no_line line NotUtf8 bytes s n = n.1 s.utf8
no_line line Form bytes s n = n.2 line s.form
no_line line NoMemory bytes s n = n

one_fault : (f g : LineFault) (bytes : List ℕ) → IsNoLine f bytes → IsNoLine g bytes → f ≡ g
one_fault Long Long bytes p q = refl
one_fault Long NotUtf8 bytes p q = absurd (p q.0)
one_fault Long Form bytes p q = absurd (p q.0)
one_fault NotUtf8 Long bytes p q = absurd (q p.0)
one_fault NotUtf8 NotUtf8 bytes p q = refl
one_fault NotUtf8 Form bytes p q = absurd (p.1 q.1)
one_fault Form Long bytes p q = absurd (q p.0)
one_fault Form NotUtf8 bytes p q = absurd (q.1 p.1)
one_fault Form Form bytes p q = refl
one_fault NoMemory g bytes p q = absurd p
one_fault Long NoMemory bytes p q = absurd q
one_fault NotUtf8 NoMemory bytes p q = absurd q
one_fault Form NoMemory bytes p q = absurd q

pub one_script : (texts : List (List ℕ)) (ls ms : List Line) (f g : Option LineFault) → AreLines texts ls f → AreLines texts ms g → (ls ≡ ms) × (f ≡ g)
one_script [] [] [] None None p q = (refl, refl)
one_script [] [] [] None (Some g) p q = absurd q
one_script [] [] [] (Some f) g p q = absurd p
one_script [] [] (m ∷ ms) f g p q = absurd q
one_script [] (l ∷ ls) ms f g p q = absurd p
one_script (b ∷ texts) (l ∷ ls) (m ∷ ms) f g p q =
    let rest = one_script texts ls ms f g p.1 q.1 in
    (ap₂ (λ (x : Line) (xs : List Line). x ∷ xs) (one_reading b l m p.0 q.0) rest.0, rest.1)
one_script (b ∷ texts) (l ∷ ls) [] f (Some g) p q = absurd (no_line l g b p.0 q)
one_script (b ∷ texts) (l ∷ ls) [] f None p q = absurd q
one_script (b ∷ texts) [] (m ∷ ms) (Some f) g p q = absurd (no_line m f b q.0 p)
one_script (b ∷ texts) [] (m ∷ ms) None g p q = absurd p
one_script (b ∷ texts) [] [] (Some f) (Some g) p q = (refl, ap (λ (x : LineFault). Some x) (one_fault f g b p q))
one_script (b ∷ texts) [] [] (Some f) None p q = absurd q
one_script (b ∷ texts) [] [] None g p q = absurd p
