-- What words ask for, read one way alone.
use Rattle.std.proofs.Common.{◌≡◌, ◌≤◌, ◌<◌, ℕ, length, get_or, map, string_bytes, String, Global, List, [], ◌∷◌, IsUtf8, ap, sym, ◌∙◌, Result, Ok, Err, arith, refl}
use Rattle.atspi_base.specs.Text.{HasNoZero, bytes_before_zero}
use Rattle.atspi_base.specs.ReadsText.{ReadsStr, text_in}
use Rattle.atspi_base.specs.declared.text.TextFault.{TextFault}
use Rattle.atspi_base.specs.declared.text.TextFault.TheVariants.{Zero, Utf8, NoMemory}
use Rattle.atspi_base.proofs.TextLemmas.{whole}

no_fault : (fault : TextFault) (bytes : List ℕ) → IsUtf8 bytes → text_in bytes ≡ Err fault → HasNoZero bytes → ⊥
no_fault fault bytes u r none = let w = whole bytes (bytes_before_zero bytes) u refl (omega (arith, none)) in absurd cc

-- what is no text, though it is UTF-8, has a zero byte
pub zero_there : {S : Type 0} (r : Result S TextFault) (fault : TextFault) (bytes : List ℕ) → r ≡ Err fault → IsUtf8 bytes → ReadsStr r bytes → HasNoZero bytes → ⊥
zero_there (Ok t) fault bytes is u reads none = absurd cc
zero_there (Err (Zero i)) fault bytes is u reads none = no_fault (Zero i) bytes u reads none
zero_there (Err (Utf8 i)) fault bytes is u reads none = no_fault (Utf8 i) bytes u reads none
zero_there (Err NoMemory) fault bytes is u reads none = reads

-- a list of three words
pub only_three : (ws : List (String Global)) (a b c : String Global) → 3 ≤ length ws → length ws < 4 → a ≡ get_or ws 0 a → b ≡ get_or ws 1 b → c ≡ get_or ws 2 c → map string_bytes ws ≡ string_bytes a ∷ string_bytes b ∷ string_bytes c ∷ []
only_three [] a b c least most e f h = absurd (omega arith)
only_three (x ∷ []) a b c least most e f h = absurd (omega arith)
only_three (x ∷ y ∷ []) a b c least most e f h = absurd (omega arith)
only_three (x ∷ y ∷ z ∷ []) a b c least most e f h =
    ap (λ s. string_bytes s ∷ string_bytes y ∷ string_bytes z ∷ []) (sym e) ∙ ap (λ s. string_bytes a ∷ string_bytes s ∷ string_bytes z ∷ []) (sym f)
    ∙ ap (λ s. string_bytes a ∷ string_bytes b ∷ string_bytes s ∷ []) (sym h)
only_three (x ∷ y ∷ z ∷ w ∷ ws) a b c least most e f h = absurd (omega arith)
