-- Numbers and roles, read and spelled.
use Rattle.std.proofs.Common.{◌≡◌, ℕ, zero, suc, ◌+◌, ◌*◌, ◌-◌, ◌^◌, ◌<◌, ◌≤◌, Bool, true, false, cond, not, IsUtf8, List, [], ◌∷◌, length, get_or, rules, Option, None, Some, Result, Ok, Err, MatchOption, refl, sym, ap, subst, ◌∙◌, arith, inl, inr}
use Rattle.std.proofs.lemmas.Fmt.{decimal_digit, digits_decimal, decimal-digits_value, parse-decimal, decimal_nonempty, first_decimal, decimal_injective, IsAscii-decimal}
use Rattle.std.proofs.lemmas.Str.{IsUtf8-from_ascii}
use Rattle.std.proofs.lemmas.Str.Parse.{IsNumeralModel, numerals_by_fold, parse_plain}
use Rattle.std.proofs.lemmas.Bool.{false≢true}
use Rattle.std.proofs.lemmas.Bool.Decides.{nat_tests}
use Rattle.std.proofs.lemmas.Slice.Eq.{bytes_eq-Decides}
use Rattle.std.specs.Fmt.{decimal}
use Rattle.std.specs.Prelude.{position, slice_get, nat_lt, IfSome}
use Rattle.std.specs.List.{position_or_len, list_all}
use Rattle.std.specs.Result.{result_ok}
use Rattle.std.specs.Char.{is_ascii_digit}
use Rattle.std.specs.Str.{all_ascii_digits, bytes_eq}
use Rattle.std.specs.Str.Parse.{ParsesUnsigned}
use Rattle.atspi_tables.specs.Roles.{role_names, role_words}
use Rattle.atspi_tables.specs.States.{state_names}
use Rattle.atspi_tables.proofs.NameLemmas.{words_tell_roles, words_are_no_numbers, names_tell_states}
use Rattle.atspi_script_lines.specs.Words.{SpellsRole}
use Rattle.atspi_script_lines.specs.inner.Reading.{HasNoSpace, IsTidy}
use Rattle.atspi_script_lines.proofs.SpaceLemmas.{and_left, all_true, digits_no_space, has_no_space, tested_no_space}

abbrev value_from : ℕ → List ℕ → ℕ
value_from n [] = n
value_from n (c ∷ cs) = value_from (10 * n + (c - 48)) cs

own : IsNumeralModel (λ ds. all_ascii_digits ds ≡ true) (value_from 0)
own = numerals_by_fold _ (search rules) value_from (search rules)

pub decimal_is_tidy : (n : ℕ) → n < 2 ^ 32 → IsTidy (decimal n)
decimal_is_tidy zero small = rw (decimal_digit 0 (omega arith)) record { some = omega arith; unsigned = λ e. omega arith; no_zeros = λ e. refl }
decimal_is_tidy (suc n) small =
    let first = first_decimal (suc n) (omega arith) (omega arith) in
    record { some = decimal_nonempty (suc n) (omega arith); unsigned = λ e. omega (arith, first, e); no_zeros = λ e. absurd (omega (arith, first, e)) }

-- a word that is no number
pub untidy : (word : List ℕ) → (IsTidy word → ⊥) → (n : ℕ) → n < 2 ^ 32 → word ≡ decimal n → ⊥
untidy word bad n small e = bad (subst IsTidy (sym e) (decimal_is_tidy n small))

abbrev pub ReadsNumber : Option ℕ → List ℕ → Type 0
ReadsNumber r word = MatchOption r ((n : ℕ) → n < 2 ^ 32 → word ≡ decimal n → ⊥) (λ n. (n < 2 ^ 32) × (word ≡ decimal n))

-- what parsing a word that can be a number gives
pub parsed : {E : Type 0} (word : List ℕ) (r : Result ℕ E) → IsTidy word → ParsesUnsigned 32 10 word r → ReadsNumber (result_ok r) word
parsed {E} word (Ok x) tidy h =
    let plain = parse_plain own {E = E} 32 word (Ok x) h tidy.unsigned in
    let same = decimal-digits_value own word plain.0.0 tidy.some tidy.no_zeros (omega (arith, plain.0.2)) in
    (omega (arith, plain.0.2, plain.1), sym (ap decimal plain.1 ∙ same))
parsed {E} word (Err e) tidy h = λ n small is.
    let r : Err e ≡ Ok n = parse-decimal 32 n word (Err e) small (omega arith) is h in
    cc

-- what a number spells is UTF-8
pub decimal_utf8 : (n : ℕ) (word : List ℕ) → n < 2 ^ 32 → word ≡ decimal n → IsUtf8 word
decimal_utf8 n word small e = subst IsUtf8 (sym e) (IsUtf8-from_ascii (decimal n) (IsAscii-decimal n (omega arith)))

pub decimal_no_space : (n : ℕ) → n < 2 ^ 32 → HasNoSpace (decimal n)
decimal_no_space n small = digits_no_space (decimal n) (digits_decimal own n (omega arith))

-- a number in decimal is one number's
pub number_once : (m n : ℕ) → m < 2 ^ 32 → n < 2 ^ 32 → decimal m ≡ decimal n → m ≡ n
number_once m n p q e = decimal_injective m n (omega arith) (omega arith) e

-- a number begins with a digit
first_digit : (ds : List ℕ) → all_ascii_digits ds ≡ true → 0 < length ds → is_ascii_digit (get_or ds 0 0) ≡ true
first_digit [] h some = absurd (omega arith)
first_digit (b ∷ bs) h some = and_left (is_ascii_digit b) (all_ascii_digits bs) h

pub digits_begin : (n : ℕ) → n < 2 ^ 32 → is_ascii_digit (get_or (decimal n) 0 0) ≡ true
digits_begin n small = first_digit (decimal n) (digits_decimal own n (omega arith)) (decimal_nonempty n (omega arith))

-- a role's word is no number
no_number : (role n : ℕ) (word : List ℕ) → n < 2 ^ 32 → slice_get role_words role ≡ Some word → word ≡ decimal n → ⊥
no_number role n word small e f =
    false≢true (sym (words_are_no_numbers role word e) ∙ subst (λ w. is_ascii_digit (get_or w 0 0) ≡ true) (sym f) (digits_begin n small))

-- a word for a role is one role's
pub role_once : (r s : ℕ) (word : List ℕ) → SpellsRole r word → SpellsRole s word → r ≡ s
role_once r s word (inl a) (inl b) = words_tell_roles r s word a b
role_once r s word (inl a) (inr b) = absurd (no_number r s word b.0 a b.1)
role_once r s word (inr a) (inl b) = absurd (no_number s r word a.0 b a.1)
role_once r s word (inr a) (inr b) = number_once r s a.0 b.0 (sym a.1 ∙ b.1)

-- a state's name is one state's
pub state_once : (r s : ℕ) (word : List ℕ) → slice_get state_names r ≡ Some word → slice_get state_names s ≡ Some word → r ≡ s
state_once r s word a b = names_tell_states r s word a b

-- a test that fails on the first of some, and finds none of the rest
none_later : (b : Bool) (n k : ℕ) → suc n ≤ cond (not b) (1 + k) 0 → (b ≡ false) × (n ≤ k)
none_later true n k l = absurd (omega arith)
none_later false n k l = (refl, omega arith)

-- a word that stands at no place
none_passes : (word : List ℕ) (ws : List (List ℕ)) (r : ℕ) → length ws ≤ position_or_len (λ w. bytes_eq w word) ws → slice_get ws r ≡ Some word → ⊥
none_passes word [] r l e = cc
none_passes word (w ∷ ws) zero l e =
    let later = none_later (bytes_eq w word) (length ws) (position_or_len (λ w'. bytes_eq w' word) ws) l in
    let is : w ≡ word = cc in
    false≢true (sym later.0 ∙ (bytes_eq-Decides w word).1 is)
none_passes word (w ∷ ws) (suc r) l e =
    none_passes word ws r (none_later (bytes_eq w word) (length ws) (position_or_len (λ w'. bytes_eq w' word) ws) l).1 e

past_all : (n k : ℕ) → cond (nat_lt n k) (Some n) None ≡ None → k ≤ n
past_all n k e = grind (arith, nat_tests)

pub not_there : (word : List ℕ) (ws : List (List ℕ)) (r : ℕ) → position (λ w. bytes_eq w word) ws ≡ None → slice_get ws r ≡ Some word → ⊥
not_there word ws r e h = none_passes word ws r (past_all (position_or_len (λ w. bytes_eq w word) ws) (length ws) e) h

-- a word that is none of a role, and no number
pub no_role_spelled : (word : List ℕ) (r : Option ℕ) → position (λ w. bytes_eq w word) role_words ≡ None → ReadsNumber r word → MatchOption r ((role : ℕ) → SpellsRole role word → ⊥) (λ role. SpellsRole role word)
no_role_spelled word None e h = λ role s. elim s [ inl named ↦ not_there word role_words role e named | inr number ↦ h role number.0 number.1 ]
no_role_spelled word (Some n) e h = inr h

words_no_space : list_all has_no_space role_words ≡ true
unfolding role_words role_names
words_no_space = refl

names_no_space : list_all has_no_space state_names ≡ true
unfolding state_names
names_no_space = refl

pub role_no_space : (role : ℕ) (word : List ℕ) → SpellsRole role word → HasNoSpace word
role_no_space role word (inl named) = tested_no_space word (all_true has_no_space role_words role word words_no_space named)
role_no_space role word (inr number) = subst HasNoSpace (sym number.1) (decimal_no_space role number.0)

pub state_no_space : (state : ℕ) (word : List ℕ) → slice_get state_names state ≡ Some word → HasNoSpace word
state_no_space state word named = tested_no_space word (all_true has_no_space state_names state word names_no_space named)

-- a state that has a name is one of those that there are
below : {X : Type 0} (xs : List X) (i : ℕ) (x : X) → slice_get xs i ≡ Some x → i < length xs
below [] i x e = cc
below (y ∷ ys) zero x e = omega arith
below (y ∷ ys) (suc i) x e = omega (arith, below ys i x e)

count_states : length state_names ≡ 44
unfolding state_names
count_states = refl

pub state_below : (state : ℕ) (word : List ℕ) → slice_get state_names state ≡ Some word → state < 44
state_below state word e = omega (arith, below state_names state word e, count_states)

-- the state that a name is looked up as
pub state_found : (word : List ℕ) (r : Option ℕ) → r ≡ position (λ w. bytes_eq w word) state_names → IfSome r (λ i. slice_get state_names i ≡ Some word)
    → MatchOption r ((state : ℕ) → slice_get state_names state ≡ Some word → ⊥) (λ state. slice_get state_names state ≡ Some word)
state_found word None e h = λ state s. not_there word state_names state (sym e) s
state_found word (Some i) e h = h

-- the name of an end with a letter and a number
pub too_many : (word digits : List ℕ) (letter n most : ℕ) → word ≡ letter ∷ digits → n < 2 ^ 32 → digits ≡ decimal n → most ≤ n → most < 2 ^ 32
    → (a : ℕ) → a < most → word ≡ letter ∷ decimal a → ⊥
too_many word digits letter n most e small d l m a k f =
    let g : decimal a ≡ decimal n = cc in
    let s = number_once a n (omega arith) small g in
    omega (arith, s)
