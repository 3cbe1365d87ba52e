-- What words ask for, read one way alone.
use Rattle.std.proofs.Common.{◌≡◌, ◌≤◌, ◌<◌, ℕ, length, get_or, map, string_bytes, String, Global, List, [], ◌∷◌, IsUtf8, ap, sym, ◌∙◌, Result, Ok, Err, arith, refl}
use Rattle.std.proofs.lemmas.Fmt.{decimal_injective}
use Rattle.std.specs.Fmt.{decimal}
use Rattle.atspi_base.specs.Text.{HasNoZero, bytes_before_zero}
use Rattle.atspi_base.specs.ReadsText.{ReadsStr, text_in}
use Rattle.atspi_base.specs.declared.text.TextFault.{TextFault}
use Rattle.atspi_base.specs.declared.text.TextFault.TheVariants.{Zero, Utf8, NoMemory}
use Rattle.atspi_base.proofs.TextLemmas.{whole}
use Rattle.atspi_run_live.specs.Words.{AreRounds, IsLive, name_of}
use Rattle.atspi_run_live.specs.declared.words.Service.{Service}
use Rattle.atspi_run_live.specs.declared.words.Service.TheVariants.{Bus, Registry, App, Read}

no_fault : (fault : TextFault) (bytes : List ℕ) → IsUtf8 bytes → text_in bytes ≡ Err fault → HasNoZero bytes → ⊥
no_fault fault bytes u r none = let w = whole bytes (bytes_before_zero bytes) u refl (omega (arith, none)) in absurd cc

-- what is no text, though it is UTF-8, has a zero byte
pub zero_there : {S : Type 0} (r : Result S TextFault) (fault : TextFault) (bytes : List ℕ) → r ≡ Err fault → IsUtf8 bytes → ReadsStr r bytes → HasNoZero bytes → ⊥
zero_there (Ok t) fault bytes is u reads none = absurd cc
zero_there (Err (Zero i)) fault bytes is u reads none = no_fault (Zero i) bytes u reads none
zero_there (Err (Utf8 i)) fault bytes is u reads none = no_fault (Utf8 i) bytes u reads none
zero_there (Err NoMemory) fault bytes is u reads none = reads

-- a word spells one count alone
pub same_rounds : (word : List ℕ) (spelled rounds : ℕ) → spelled < 4294967296 → word ≡ decimal spelled → AreRounds word rounds → rounds ≡ spelled
same_rounds word spelled rounds below is are = decimal_injective rounds spelled (omega (arith, are.few)) (omega (arith, below)) (sym are.word_is ∙ is)

abbrev first_letter : List ℕ → ℕ
first_letter [] = 0
first_letter (c ∷ cs) = c

-- names differ in their first letters or in their lengths
same_service : (s t : Service) → name_of s ≡ name_of t → s ≡ t
same_service Bus Bus e = refl
same_service Bus Registry e = let long : 3 ≡ 8 = ap length e in absurd (omega (arith, long))
same_service Bus App e = let letters : 98 ≡ 97 = ap first_letter e in absurd (omega (arith, letters))
same_service Bus Read e = let long : 3 ≡ 4 = ap length e in absurd (omega (arith, long))
same_service Registry Bus e = let long : 8 ≡ 3 = ap length e in absurd (omega (arith, long))
same_service Registry Registry e = refl
same_service Registry App e = let long : 8 ≡ 3 = ap length e in absurd (omega (arith, long))
same_service Registry Read e = let long : 8 ≡ 4 = ap length e in absurd (omega (arith, long))
same_service App Bus e = let letters : 97 ≡ 98 = ap first_letter e in absurd (omega (arith, letters))
same_service App Registry e = let long : 3 ≡ 8 = ap length e in absurd (omega (arith, long))
same_service App App e = refl
same_service App Read e = let long : 3 ≡ 4 = ap length e in absurd (omega (arith, long))
same_service Read Bus e = let long : 4 ≡ 3 = ap length e in absurd (omega (arith, long))
same_service Read Registry e = let long : 4 ≡ 8 = ap length e in absurd (omega (arith, long))
same_service Read App e = let long : 4 ≡ 3 = ap length e in absurd (omega (arith, long))
same_service Read Read e = refl

-- words are those of one live command alone
pub same_live : (words : List (List ℕ)) (s t : Service) (p q : List ℕ) (n k : ℕ) → IsLive words s p n → IsLive words t q k → (s ≡ t) × (p ≡ q) × (n ≡ k)
same_live [] s t p q n k a b = absurd a
same_live (x ∷ []) s t p q n k a b = absurd a
same_live (x ∷ y ∷ []) s t p q n k a b = absurd a
same_live (x ∷ y ∷ z ∷ []) s t p q n k a b = (
  same_service s t (sym a.0 ∙ b.0),
  sym a.1 ∙ b.1,
  decimal_injective n k (omega (arith, a.3.few)) (omega (arith, b.3.few)) (sym a.3.word_is ∙ b.3.word_is),
)
same_live (x ∷ y ∷ z ∷ w ∷ ws) s t p q n k a b = absurd a

-- the words of a live command are three, and begin with its name
pub live_is : (words : List (List ℕ)) (service : Service) (path : List ℕ) (rounds : ℕ) → IsLive words service path rounds → (first : List ℕ) × (second : List ℕ) × (words ≡ name_of service ∷ first ∷ second ∷ [])
live_is [] s p n is = absurd is
live_is (x ∷ []) s p n is = absurd is
live_is (x ∷ y ∷ []) s p n is = absurd is
live_is (x ∷ y ∷ z ∷ []) s p n is = (y, z, ap (λ w. w ∷ y ∷ z ∷ []) is.0)
live_is (x ∷ y ∷ z ∷ w ∷ ws) s p n is = absurd is

-- a list of three words
pub only_three : (ws : List (String Global)) (a b c : String Global) → 3 ≤ length ws → length ws < 4 → a ≡ get_or ws 0 a → b ≡ get_or ws 1 b → c ≡ get_or ws 2 c → map string_bytes ws ≡ string_bytes a ∷ string_bytes b ∷ string_bytes c ∷ []
only_three [] a b c least most e f h = absurd (omega arith)
only_three (x ∷ []) a b c least most e f h = absurd (omega arith)
only_three (x ∷ y ∷ []) a b c least most e f h = absurd (omega arith)
only_three (x ∷ y ∷ z ∷ []) a b c least most e f h =
    ap (λ s. string_bytes s ∷ string_bytes y ∷ string_bytes z ∷ []) (sym e) ∙ ap (λ s. string_bytes a ∷ string_bytes s ∷ string_bytes z ∷ []) (sym f)
    ∙ ap (λ s. string_bytes a ∷ string_bytes b ∷ string_bytes s ∷ []) (sym h)
only_three (x ∷ y ∷ z ∷ w ∷ ws) a b c least most e f h = absurd (omega arith)
