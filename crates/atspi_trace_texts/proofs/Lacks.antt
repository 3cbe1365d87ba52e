-- Bytes among which one byte is not.
use Rattle.std.proofs.Common.{◌≡◌, ◌≢◌, ℕ, zero, suc, ◌+◌, ◌/◌, ◌%◌, ◌<◌, ◌≤◌, Bool, true, false, not, ◌==◌, List, [], ◌∷◌, ◌++◌, refl, sym, subst, arith}
use Rattle.std.specs.Prelude.{nat_lt, pos, negsuc, ℤ, if◌then◌else◌}
use Rattle.std.proofs.lemmas.Bool.{false≢true}
use Rattle.std.specs.Fmt.{decimal, digits, digits_onto, digit_glyph, signed_decimal}
use Rattle.std.specs.List.{flat_map, list_all, AllByRecursion}
use Rattle.atspi_base.specs.Digits.{hex_digits}
use Rattle.atspi_base.specs.Quoted.{hex_digit, is_marked, is_control, escaped, in_quotes}
use Rattle.atspi_script_lines.specs.inner.Reading.{HasNoSpace}
use Rattle.atspi_script_lines.proofs.SpaceLemmas.{and_left, and_right}

-- no byte is x
abbrev pub Lacks : ℕ → List ℕ → Type 0
Lacks x [] = Unit {0}
Lacks x (b ∷ bytes) = (b ≢ x) × Lacks x bytes

pub lacks_append : (x : ℕ) (a b : List ℕ) → Lacks x a → Lacks x b → Lacks x (a ++ b)
lacks_append x [] b p q = q
lacks_append x (c ∷ a) b p q = (p.0, lacks_append x a b p.1 q)

pub lacks_flat : {A : Type 0} (x : ℕ) (f : A → List ℕ) (items : List A) → ((a : A) → Lacks x (f a)) → Lacks x (flat_map f items)
lacks_flat x f [] h = tt
lacks_flat x f (a ∷ items) h = lacks_append x (f a) (flat_map f items) (h a) (lacks_flat x f items h)

pub lacks_each : {A : Type 0} (x : ℕ) (f : A → List ℕ) (items : List A) → AllByRecursion (λ a. Lacks x (f a)) items → Lacks x (flat_map f items)
lacks_each x f [] h = tt
lacks_each x f (a ∷ items) h = lacks_append x (f a) (flat_map f items) h.0 (lacks_each x f items h.1)

-- no byte is a space
pub no_space : (bytes : List ℕ) → Lacks 32 bytes → HasNoSpace bytes
no_space [] h = tt
no_space (b ∷ bytes) h = (h.0, no_space bytes h.1)

-- a test for the line feed
abbrev pub lacks_feed : List ℕ → Bool
lacks_feed bytes = list_all (λ b. not (b == 10)) bytes

not_feed : (b : ℕ) → not (b == 10) ≡ true → b ≡ 10 → ⊥
not_feed b h e = let f : not (10 == 10) ≡ true = subst (λ n. not (n == 10) ≡ true) e h in false≢true f

pub tested_no_feed : (bytes : List ℕ) → lacks_feed bytes ≡ true → Lacks 10 bytes
tested_no_feed [] h = tt
tested_no_feed (b ∷ bs) h = (not_feed b (and_left (not (b == 10)) (lacks_feed bs) h), tested_no_feed bs (and_right (not (b == 10)) (lacks_feed bs) h))

-- numbers in decimal and in hex
pub glyph_large : (upper : Bool) (d : ℕ) → 48 ≤ digit_glyph upper d
glyph_large upper d = by (nat_lt d 10) upper
  where
    by : (t u : Bool) → 48 ≤ (if t then 48 + d else (if u then 55 + d else 87 + d))
    by true u = omega arith
    by false true = omega arith
    by false false = omega arith

digits_lack : (x k base n : ℕ) (acc : List ℕ) → x < 45 → Lacks x acc → Lacks x (digits_onto k base false n acc)
digits_lack x zero base n acc small h = h
digits_lack x (suc k) base n acc small h = by (n / base == 0) (digits_lack x k base (n / base) (digit_glyph false (n % base) ∷ acc) small (glyph, h))
  where
    glyph : digit_glyph false (n % base) ≢ x
    glyph e = omega (arith, glyph_large false (n % base), e)

    by : (t : Bool) → Lacks x (digits_onto k base false (n / base) (digit_glyph false (n % base) ∷ acc))
        → Lacks x (if t then digit_glyph false (n % base) ∷ acc else digits_onto k base false (n / base) (digit_glyph false (n % base) ∷ acc))
    by true more = (glyph, h)
    by false more = more

pub decimal_lacks : (x n : ℕ) → x < 45 → Lacks x (decimal n)
unfolding digits
decimal_lacks x n small = digits_lack x 64 10 n [] small tt

pub signed_lacks : (x : ℕ) (z : ℤ) → x < 45 → Lacks x (signed_decimal z)
signed_lacks x (pos n) small = decimal_lacks x n small
signed_lacks x (negsuc n) small = (λ e. omega (arith, e), decimal_lacks x (suc n) small)

hex_large : (n : ℕ) → 48 ≤ hex_digit n
hex_large n = by (nat_lt n 10)
  where
    by : (t : Bool) → 48 ≤ (if t then 48 + n else 87 + n)
    by true = omega arith
    by false = omega arith

pub hex_lacks : (x k n : ℕ) → x < 45 → Lacks x (hex_digits k n)
unfolding hex_digits
hex_lacks x zero n small = tt
hex_lacks x (suc k) n small =
    lacks_append x (hex_digits k (n / 16)) (hex_digit (n % 16) ∷ []) (hex_lacks x k (n / 16) small) (λ e. omega (arith, hex_large (n % 16), e), tt)

-- bytes in quotes have no line feed: it is written as an escape
escape_lacks : (b : ℕ) → Lacks 10 (escaped b)
escape_lacks b = by (is_marked b) (is_control b) refl refl
  where
    by : (m c : Bool) → is_marked b ≡ m → is_control b ≡ c
        → Lacks 10 (if m then 92 ∷ b ∷ [] else (if c then 92 ∷ 120 ∷ hex_digit (b / 16) ∷ hex_digit (b % 16) ∷ [] else b ∷ []))
    by true c e f = (λ h. omega (arith, h), ((λ h. let g : is_marked 10 ≡ true = subst (λ n. is_marked n ≡ true) h e in false≢true g), tt))
    by false true e f = (λ h. omega (arith, h), (λ h. omega (arith, h), (λ h. omega (arith, hex_large (b / 16), h), (λ h. omega (arith, hex_large (b % 16), h), tt))))
    by false false e f = ((λ h. let g : is_control 10 ≡ false = subst (λ n. is_control n ≡ false) h f in false≢true (sym g)), tt)

pub quotes_lack : (bytes : List ℕ) → Lacks 10 (in_quotes bytes)
quotes_lack bytes =
    (λ h. omega (arith, h), lacks_append 10 (flat_map escaped bytes) (34 ∷ []) (lacks_flat 10 escaped bytes escape_lacks) (λ h. omega (arith, h), tt))
