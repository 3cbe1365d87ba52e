-- A key is known by its bytes and by its place among the keys, and a condition by its key and its value.
use Rattle.std.proofs.Common.{◌≡◌, ◌≢◌, ℕ, zero, suc, ◌+◌, ◌-◌, ◌*◌, ◌/◌, ◌%◌, ◌<◌, ◌≤◌, ◌^◌, List, [], ◌∷◌, ◌++◌, length, map, take, drop, get_or, Bool, true, false, refl, sym, ap, subst, ◌∙◌, arith, ◌⊎◌, inl, inr, ◌==◌, Option, Some, None, if◌then◌else◌, append-nil}
use Rattle.std.specs.Prelude.{codes, bytes_eq, decimal, nat_lt, nat_le, ◌&&◌, ◌||◌, not, encode_utf8_all, chars, Contains, slice_index_or}
use Rattle.std.specs.Char.{is_ascii_digit}
use Rattle.std.specs.Str.{all_scalars}
use Rattle.std.proofs.lemmas.Bool.{and_parts, and_from, and_right, eqb-true, eqb-false, eq-eqb, ne_eqb, ltb-true, ltb-false, lt-ltb, le-ltb, leb-true, le-leb, or_parts, and_cases, cases_lt}
use Rattle.std.proofs.lemmas.Fmt.{decimal_digit, decimal_step}
use Rattle.std.proofs.lemmas.Slice.Eq.{bytes_eq-Decides}
use Rattle.std.proofs.lemmas.List.{take-append-drop}
use Rattle.atspi_match.specs.Conditions.{rank, key_text, value_text, type_text, bool_text, IsCondition, has_rank}
use Rattle.atspi_match.specs.inner.Keys.{key_of, key_rank, IsKey, named_key, digit_at, two_digits, index_from, index_in, arg_from, arg_key, or_arg, key_in}
use Rattle.atspi_match.specs.declared.condition.MessageType.{MessageType}
use Rattle.atspi_match.specs.declared.condition.MessageType.TheVariants as types
use Rattle.atspi_match.specs.declared.condition.Condition.{Condition}
use Rattle.atspi_match.specs.declared.condition.Condition.TheVariants as conditions
use Rattle.atspi_match.specs.declared.key.Key.{Key}
use Rattle.atspi_match.specs.declared.key.Key.TheVariants as keys

-- the bytes of a key
abbrev pub key_bytes : Key → List ℕ
key_bytes keys.Kind = codes "type"
key_bytes keys.Sender = codes "sender"
key_bytes keys.Interface = codes "interface"
key_bytes keys.Member = codes "member"
key_bytes keys.Path = codes "path"
key_bytes keys.PathNamespace = codes "path_namespace"
key_bytes keys.Destination = codes "destination"
key_bytes (keys.Arg n) = codes "arg" ++ decimal n
key_bytes (keys.ArgPath n) = codes "arg" ++ decimal n ++ codes "path"
key_bytes keys.Arg0Namespace = codes "arg0namespace"
key_bytes keys.Eavesdrop = codes "eavesdrop"

pub key_text-of : (c : Condition) → key_text c ≡ key_bytes (key_of c)
key_text-of (conditions.Kind t) = refl
key_text-of (conditions.Sender name) = refl
key_text-of (conditions.Interface name) = refl
key_text-of (conditions.Member name) = refl
key_text-of (conditions.Path path) = refl
key_text-of (conditions.PathNamespace path) = refl
key_text-of (conditions.Destination name) = refl
key_text-of (conditions.Arg n text) = refl
key_text-of (conditions.ArgPath n text) = refl
key_text-of (conditions.Arg0Namespace text) = refl
key_text-of (conditions.Eavesdrop b) = refl

pub rank-of : (c : Condition) → rank c ≡ key_rank (key_of c)
rank-of (conditions.Kind t) = refl
rank-of (conditions.Sender name) = refl
rank-of (conditions.Interface name) = refl
rank-of (conditions.Member name) = refl
rank-of (conditions.Path path) = refl
rank-of (conditions.PathNamespace path) = refl
rank-of (conditions.Destination name) = refl
rank-of (conditions.Arg n text) = refl
rank-of (conditions.ArgPath n text) = refl
rank-of (conditions.Arg0Namespace text) = refl
rank-of (conditions.Eavesdrop b) = refl

pub is_key-of : (c : Condition) → IsCondition c → IsKey (key_of c)
is_key-of (conditions.Kind t) h = tt
is_key-of (conditions.Sender name) h = tt
is_key-of (conditions.Interface name) h = tt
is_key-of (conditions.Member name) h = tt
is_key-of (conditions.Path path) h = tt
is_key-of (conditions.PathNamespace path) h = tt
is_key-of (conditions.Destination name) h = tt
is_key-of (conditions.Arg n text) h = h.0
is_key-of (conditions.ArgPath n text) h = h.0
is_key-of (conditions.Arg0Namespace text) h = tt
is_key-of (conditions.Eavesdrop b) h = tt

same_bytes : (xs ys : List ℕ) → bytes_eq xs ys ≡ true → xs ≡ ys
same_bytes xs ys e = (bytes_eq-Decides xs ys).0 e

-- one test of a chain
link : (t : Bool) (a k : Key) (rest : Option Key) (P : Key → Type 0) → (t ≡ true → P a) → (rest ≡ Some k → P k) → (if t then Some a else rest) ≡ Some k → P k
link true a k rest P h g e = let is : a ≡ k = cc in subst P is (h refl)
link false a k rest P h g e = g e

-- the bytes are those of the key
pub record Spell (bytes : List ℕ) (k : Key) : Type 0 where
  pub is : bytes ≡ key_bytes k
  pub is_key : IsKey k

named_sound : (bytes : List ℕ) (k : Key) → named_key bytes ≡ Some k → Spell bytes k
unfolding named_key
named_sound bytes k e =
    link _ keys.Kind k _ (λ a. Spell bytes a) (λ t. record { is = same_bytes _ _ t; is_key = tt })
    (link _ keys.Sender k _ (λ a. Spell bytes a) (λ t. record { is = same_bytes _ _ t; is_key = tt })
    (link _ keys.Interface k _ (λ a. Spell bytes a) (λ t. record { is = same_bytes _ _ t; is_key = tt })
    (link _ keys.Member k _ (λ a. Spell bytes a) (λ t. record { is = same_bytes _ _ t; is_key = tt })
    (link _ keys.Path k _ (λ a. Spell bytes a) (λ t. record { is = same_bytes _ _ t; is_key = tt })
    (link _ keys.PathNamespace k _ (λ a. Spell bytes a) (λ t. record { is = same_bytes _ _ t; is_key = tt })
    (link _ keys.Destination k _ (λ a. Spell bytes a) (λ t. record { is = same_bytes _ _ t; is_key = tt })
    (link _ keys.Arg0Namespace k _ (λ a. Spell bytes a) (λ t. record { is = same_bytes _ _ t; is_key = tt })
    (link _ keys.Eavesdrop k None (λ a. Spell bytes a) (λ t. record { is = same_bytes _ _ t; is_key = tt }) (λ none. absurd cc))))))))) e

-- a digit
record DigitAt (bytes : List ℕ) (at a : ℕ) : Type 0 where
  small : a < 10
  within : at < length bytes
  is : get_or bytes at 0 ≡ 48 + a

digit_sound : (bytes : List ℕ) (at a : ℕ) → digit_at bytes at ≡ Some a → DigitAt bytes at a
unfolding digit_at
digit_sound bytes at a e = by (nat_lt at (length bytes) && is_ascii_digit (get_or bytes at 0)) refl e
  where
    by : (t : Bool) → (nat_lt at (length bytes) && is_ascii_digit (get_or bytes at 0)) ≡ t → (if t then Some (get_or bytes at 0 - 48) else None) ≡ Some a → DigitAt bytes at a
    by false t e = absurd cc
    by true t e =
        let both = and_parts (nat_lt at (length bytes)) (is_ascii_digit (get_or bytes at 0)) t in
        let range = and_parts (nat_le 48 (get_or bytes at 0)) (nat_le (get_or bytes at 0) 57) both.1 in
        let low = leb-true 48 (get_or bytes at 0) range.0 in
        let high = leb-true (get_or bytes at 0) 57 range.1 in
        let is : get_or bytes at 0 - 48 ≡ a = cc in
        record { small = omega (arith, low, high, is); within = ltb-true at (length bytes) both.0; is = omega (arith, low, high, is) }

take_one : (bytes : List ℕ) → 0 < length bytes → take 1 bytes ≡ get_or bytes 0 0 ∷ []
take_one [] h = absurd (omega arith)
take_one (b ∷ bytes) h = refl

take_two : (bytes : List ℕ) → 1 < length bytes → take 2 bytes ≡ get_or bytes 0 0 ∷ get_or bytes 1 0 ∷ []
take_two [] h = absurd (omega arith)
take_two (b ∷ []) h = absurd (omega arith)
take_two (b ∷ c ∷ bytes) h = refl

-- two digits, the first of which is not 0
pub decimal_two : (a b : ℕ) → 0 < a → a < 10 → b < 10 → decimal (10 * a + b) ≡ (48 + a) ∷ (48 + b) ∷ []
decimal_two a b some small low =
    let tens : (10 * a + b) / 10 ≡ a = omega arith in
    let ones : (10 * a + b) % 10 ≡ b = omega arith in
    decimal_step (10 * a + b) (omega arith) (omega arith) ∙ ap (λ n. decimal n ++ (48 + (10 * a + b) % 10) ∷ []) tens ∙ ap (λ n. decimal a ++ (48 + n) ∷ []) ones
    ∙ ap (λ l. l ++ (48 + b) ∷ []) (decimal_digit a small)

record IndexAt (bytes : List ℕ) (n : ℕ × ℕ) : Type 0 where
  small : n.0 < 64
  is : take n.1 bytes ≡ decimal n.0

two_sound : (bytes : List ℕ) (a b : ℕ) (n : ℕ × ℕ) → DigitAt bytes 0 a → DigitAt bytes 1 b → two_digits a b ≡ Some n → IndexAt bytes n
two_sound bytes a b n x y e = by (a == 0 || (nat_lt 6 a || (a == 6 && nat_lt 3 b))) refl e
  where
    small : (a == 6 && nat_lt 3 b) ≡ false → a ≤ 6 → b < 10 → 10 * a + b < 64
    small f le lt = at (and_cases (a == 6) (nat_lt 3 b) f)
      where
        at : ((a == 6) ≡ false) ⊎ (nat_lt 3 b ≡ false) → 10 * a + b < 64
        at (inl ne) = let n = eqb-false a 6 ne in omega (arith, n)
        at (inr le3) = omega (arith, ltb-false 3 b le3)

    by : (t : Bool) → (a == 0 || (nat_lt 6 a || (a == 6 && nat_lt 3 b))) ≡ t → (if t then None else Some (10 * a + b, 2)) ≡ Some n → IndexAt bytes n
    by true t e = absurd cc
    by false t e =
        let one = or_parts (a == 0) (nat_lt 6 a || (a == 6 && nat_lt 3 b)) t in
        let two = or_parts (nat_lt 6 a) (a == 6 && nat_lt 3 b) one.1 in
        let some = eqb-false a 0 one.0 in
        let le = ltb-false 6 a two.0 in
        let is : (10 * a + b, 2) ≡ n = cc in
        let P : (ℕ × ℕ) → Type 0 = λ m. IndexAt bytes m in
        subst P is (record {
          small = small two.1 le y.small;
          is = take_two bytes y.within ∙ ap (λ l. l ∷ get_or bytes 1 0 ∷ []) x.is ∙ ap (λ l. (48 + a) ∷ l ∷ []) y.is ∙ sym (decimal_two a b (omega (arith, some)) x.small y.small);
        })

one_sound : (bytes : List ℕ) (a : ℕ) (n : ℕ × ℕ) → DigitAt bytes 0 a → Some (a, 1) ≡ Some n → IndexAt bytes n
one_sound bytes a n x e =
    let is : (a, 1) ≡ n = cc in
    let P : (ℕ × ℕ) → Type 0 = λ m. IndexAt bytes m in
    subst P is (record { small = omega (arith, x.small); is = take_one bytes x.within ∙ ap (λ l. l ∷ []) x.is ∙ sym (decimal_digit a x.small) })

index_sound : (bytes : List ℕ) (n : ℕ × ℕ) → index_in bytes ≡ Some n → IndexAt bytes n
unfolding index_in
index_sound bytes n e = first (digit_at bytes 0) refl e
  where
    second : (a : ℕ) (o : Option ℕ) → DigitAt bytes 0 a → digit_at bytes 1 ≡ o → index_from (Some a) o ≡ Some n → IndexAt bytes n
    second a None x is e = one_sound bytes a n x e
    second a (Some b) x is e = two_sound bytes a b n x (digit_sound bytes 1 b is) e

    first : (o : Option ℕ) → digit_at bytes 0 ≡ o → index_from o (digit_at bytes 1) ≡ Some n → IndexAt bytes n
    first None is e = absurd cc
    first (Some a) is e = second a (digit_at bytes 1) (digit_sound bytes 0 a is) refl e

arg_sound : (bytes : List ℕ) (k : Key) → arg_key bytes ≡ Some k → Spell (codes "arg" ++ bytes) k
unfolding arg_key
arg_sound bytes k e = by (index_in bytes) refl e
  where
    at_end : (n : ℕ × ℕ) → IndexAt bytes n → length bytes ≡ n.1 → bytes ≡ decimal n.0
    at_end n h e = sym (ap (λ l. bytes ++ l) refl ∙ append-nil bytes) ∙ append-nil bytes ∙ sym (take_whole bytes n.1 e) ∙ h.is
      where
        take_whole : (xs : List ℕ) (m : ℕ) → length xs ≡ m → take m xs ≡ xs
        take_whole [] zero e = refl
        take_whole [] (suc m) e = refl
        take_whole (x ∷ xs) zero e = absurd (omega arith)
        take_whole (x ∷ xs) (suc m) e = ap (λ l. x ∷ l) (take_whole xs m (omega arith))

    by : (o : Option (ℕ × ℕ)) → index_in bytes ≡ o → arg_from bytes o ≡ Some k → Spell (codes "arg" ++ bytes) k
    by None is e = absurd cc
    by (Some n) is e =
        let h = index_sound bytes n is in
        link (length bytes == n.1) (keys.Arg n.0) k (if bytes_eq (drop n.1 bytes) (codes "path") then Some (keys.ArgPath n.0) else None) (λ a. Spell (codes "arg" ++ bytes) a)
        (λ t. record { is = ap (λ l. codes "arg" ++ l) (at_end n h (eqb-true (length bytes) n.1 t)); is_key = h.small })
        (link (bytes_eq (drop n.1 bytes) (codes "path")) (keys.ArgPath n.0) k None (λ a. Spell (codes "arg" ++ bytes) a)
        (λ t. record { is = ap (λ l. codes "arg" ++ l) (sym (take-append-drop n.1 bytes) ∙ ap (λ l. l ++ drop n.1 bytes) h.is ∙ ap (λ l. decimal n.0 ++ l) (same_bytes _ _ t)); is_key = h.small })
        (λ none. absurd cc))
        e

-- what is read as a key is spelled so
pub key_sound : (bytes : List ℕ) (k : Key) → key_in bytes ≡ Some k → Spell bytes k
unfolding key_in
key_sound bytes k e = by (named_key bytes) refl e
  where
    behind : (t : Bool) → bytes_eq (take 3 bytes) (codes "arg") ≡ t → (if t then arg_key (drop 3 bytes) else None) ≡ Some k → Spell bytes k
    behind false t e = absurd cc
    behind true t e =
        let h = arg_sound (drop 3 bytes) k e in
        let is : bytes ≡ codes "arg" ++ drop 3 bytes = sym (take-append-drop 3 bytes) ∙ ap (λ l. l ++ drop 3 bytes) (same_bytes _ _ t) in
        record { is = is ∙ h.is; is_key = h.is_key }

    short : (t : Bool) → (if t then None else if bytes_eq (take 3 bytes) (codes "arg") then arg_key (drop 3 bytes) else None) ≡ Some k → Spell bytes k
    short true e = absurd cc
    short false e = behind (bytes_eq (take 3 bytes) (codes "arg")) refl e

    by : (o : Option Key) → named_key bytes ≡ o → or_arg bytes o ≡ Some k → Spell bytes k
    by (Some a) is e = named_sound bytes k (is ∙ e)
    by None is e = short (nat_lt (length bytes) 3) e

-- a digit is read as one
digit_range : (a : ℕ) → a < 10 → is_ascii_digit (48 + a) ≡ true
digit_range a h = and_from (nat_le 48 (48 + a)) (nat_le (48 + a) 57) (le-leb 48 (48 + a) (omega arith)) (le-leb (48 + a) 57 (omega arith))

back : (a : ℕ) → 48 + a - 48 ≡ a
back a = omega arith

no_name : (x : ℕ) (tail : List ℕ) → bytes_eq tail (codes "namespace") ≡ false → named_key (97 ∷ 114 ∷ 103 ∷ x ∷ tail) ≡ None
unfolding named_key
no_name x tail e = rw (and_right (x == 48) (bytes_eq tail (codes "namespace")) e) refl

arg_one : (a : ℕ) → a < 10 → key_in (97 ∷ 114 ∷ 103 ∷ (48 + a) ∷ []) ≡ Some (keys.Arg a)
unfolding key_in arg_key index_in digit_at
arg_one a h = rw (no_name (48 + a) [] refl, digit_range a h, back a) refl

arg_path_one : (a : ℕ) → a < 10 → key_in (97 ∷ 114 ∷ 103 ∷ (48 + a) ∷ codes "path") ≡ Some (keys.ArgPath a)
unfolding key_in arg_key index_in digit_at
arg_path_one a h = rw (no_name (48 + a) (codes "path") refl, digit_range a h, back a) refl

no_n : (b : ℕ) (tail : List ℕ) → b < 10 → bytes_eq ((48 + b) ∷ tail) (codes "namespace") ≡ false
no_n b tail h = rw (ne_eqb (48 + b) 110 (λ e. omega arith)) refl

fits_two : (a b : ℕ) → 0 < a → 10 * a + b < 64 → (a == 0 || (nat_lt 6 a || (a == 6 && nat_lt 3 b))) ≡ false
fits_two a b some h = rw (ne_eqb a 0 (λ e. omega arith), le-ltb 6 a (omega arith)) (at (cases_lt 3 b))
  where
    at : (3 < b) ⊎ (b ≤ 3) → (a == 6 && nat_lt 3 b) ≡ false
    at (inl lt) = rw (ne_eqb a 6 (λ e. omega arith)) refl
    at (inr le) = and_right (a == 6) (nat_lt 3 b) (le-ltb 3 b le)

arg_two : (a b : ℕ) → 0 < a → a < 10 → b < 10 → 10 * a + b < 64 → key_in (97 ∷ 114 ∷ 103 ∷ (48 + a) ∷ (48 + b) ∷ []) ≡ Some (keys.Arg (10 * a + b))
unfolding key_in arg_key index_in digit_at
arg_two a b some x y h = rw (no_name (48 + a) ((48 + b) ∷ []) (no_n b [] y), digit_range a x, digit_range b y, back a, back b, fits_two a b some h) refl

arg_path_two : (a b : ℕ) → 0 < a → a < 10 → b < 10 → 10 * a + b < 64 → key_in (97 ∷ 114 ∷ 103 ∷ (48 + a) ∷ (48 + b) ∷ codes "path") ≡ Some (keys.ArgPath (10 * a + b))
unfolding key_in arg_key index_in digit_at
arg_path_two a b some x y h = rw (no_name (48 + a) ((48 + b) ∷ codes "path") (no_n b (codes "path") y), digit_range a x, digit_range b y, back a, back b, fits_two a b some h) refl

-- a number below 64 by its digits
pub by_digits : (P : ℕ → Type 0) → ((a : ℕ) → a < 10 → P a) → ((a b : ℕ) → 0 < a → a < 10 → b < 10 → 10 * a + b < 64 → P (10 * a + b)) → (n : ℕ) → n < 64 → P n
by_digits P one two n h = at (cases_lt n 10)
  where
    at : (n < 10) ⊎ (10 ≤ n) → P n
    at (inl lt) = one n lt
    at (inr le) = let is : 10 * (n / 10) + n % 10 ≡ n = omega arith in subst P is (two (n / 10) (n % 10) (omega arith) (omega arith) (omega arith) (omega (arith, is)))

arg_complete : (n : ℕ) → n < 64 → key_in (codes "arg" ++ decimal n) ≡ Some (keys.Arg n)
arg_complete n h = by_digits (λ m. key_in (codes "arg" ++ decimal m) ≡ Some (keys.Arg m)) (λ a x. rw (decimal_digit a x) (arg_one a x)) (λ a b some x y lt. rw (decimal_two a b some x y) (arg_two a b some x y lt)) n h

arg_path_complete : (n : ℕ) → n < 64 → key_in (codes "arg" ++ decimal n ++ codes "path") ≡ Some (keys.ArgPath n)
arg_path_complete n h =
    by_digits (λ m. key_in (codes "arg" ++ decimal m ++ codes "path") ≡ Some (keys.ArgPath m)) (λ a x. rw (decimal_digit a x) (arg_path_one a x)) (λ a b some x y lt. rw (decimal_two a b some x y) (arg_path_two a b some x y lt)) n h

-- what is spelled as a key is read as it
pub key_complete : (k : Key) → IsKey k → key_in (key_bytes k) ≡ Some k
unfolding key_in named_key
key_complete keys.Kind h = refl
key_complete keys.Sender h = refl
key_complete keys.Interface h = refl
key_complete keys.Member h = refl
key_complete keys.Path h = refl
key_complete keys.PathNamespace h = refl
key_complete keys.Destination h = refl
key_complete (keys.Arg n) h = arg_complete n h
key_complete (keys.ArgPath n) h = arg_path_complete n h
key_complete keys.Arg0Namespace h = refl
key_complete keys.Eavesdrop h = refl

-- a condition by its key and its value
type_from : List ℕ → MessageType
type_from v = if bytes_eq v (codes "signal") then types.Signal else if bytes_eq v (codes "method_call") then types.MethodCall else if bytes_eq v (codes "method_return") then types.MethodReturn else types.Error

condition_from : Key → List ℕ → Condition
condition_from keys.Kind v = conditions.Kind (type_from v)
condition_from keys.Sender v = conditions.Sender v
condition_from keys.Interface v = conditions.Interface v
condition_from keys.Member v = conditions.Member v
condition_from keys.Path v = conditions.Path v
condition_from keys.PathNamespace v = conditions.PathNamespace v
condition_from keys.Destination v = conditions.Destination v
condition_from (keys.Arg n) v = conditions.Arg n (chars v)
condition_from (keys.ArgPath n) v = conditions.ArgPath n (chars v)
condition_from keys.Arg0Namespace v = conditions.Arg0Namespace (chars v)
condition_from keys.Eavesdrop v = conditions.Eavesdrop (bytes_eq v (codes "true"))

condition_from-of : (c : Condition) → IsCondition c → condition_from (key_of c) (value_text c) ≡ c
unfolding condition_from type_from
condition_from-of (conditions.Kind types.Signal) h = refl
condition_from-of (conditions.Kind types.MethodCall) h = refl
condition_from-of (conditions.Kind types.MethodReturn) h = refl
condition_from-of (conditions.Kind types.Error) h = refl
condition_from-of (conditions.Sender name) h = refl
condition_from-of (conditions.Interface name) h = refl
condition_from-of (conditions.Member name) h = refl
condition_from-of (conditions.Path path) h = refl
condition_from-of (conditions.PathNamespace path) h = refl
condition_from-of (conditions.Destination name) h = refl
condition_from-of (conditions.Arg n text) h = ap (λ t. conditions.Arg n t) h.1.spelled
condition_from-of (conditions.ArgPath n text) h = ap (λ t. conditions.ArgPath n t) h.1.spelled
condition_from-of (conditions.Arg0Namespace text) h = ap (λ t. conditions.Arg0Namespace t) h.0.spelled
condition_from-of (conditions.Eavesdrop true) h = refl
condition_from-of (conditions.Eavesdrop false) h = refl

pub same_key : (c d : Condition) → IsCondition c → IsCondition d → key_text c ≡ key_text d → key_of c ≡ key_of d
same_key c d h k e =
    let both : key_in (key_text c) ≡ key_in (key_text d) = ap key_in e in
    let one : key_in (key_text c) ≡ Some (key_of c) = ap key_in (key_text-of c) ∙ key_complete (key_of c) (is_key-of c h) in
    let two : key_in (key_text d) ≡ Some (key_of d) = ap key_in (key_text-of d) ∙ key_complete (key_of d) (is_key-of d k) in
    cc

pub same_condition : (c d : Condition) → IsCondition c → IsCondition d → key_text c ≡ key_text d → value_text c ≡ value_text d → c ≡ d
same_condition c d h k e v =
    sym (condition_from-of c h) ∙ ap (λ a. condition_from a (value_text c)) (same_key c d h k e) ∙ ap (λ w. condition_from (key_of d) w) v ∙ condition_from-of d k
