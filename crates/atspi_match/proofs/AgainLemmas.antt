-- The printed rule is a text of the rule.
use Rattle.std.proofs.Common.{◌≡◌, ◌≢◌, ℕ, zero, suc, ◌+◌, ◌<◌, ◌≤◌, List, [], ◌∷◌, ◌++◌, length, map, take, drop, get_or, Bool, true, false, refl, sym, ap, subst, ◌∙◌, arith, append_assoc, append-nil, ◌⊎◌, inl, inr, ◌==◌, not, if◌then◌else◌, codes}
use Rattle.std.specs.Prelude.{flat_map, decimal}
use Rattle.std.specs.List.{AllByRecursion, join_with_byte, list_all}
use Rattle.std.proofs.lemmas.Bool.{eqb-true, eqb-false, ne_eqb, and_parts}
use Rattle.std.proofs.lemmas.List.Sorted.{IsPermutation-refl}
use Rattle.std.proofs.lemmas.Fmt.{decimal_digit}
use Rattle.std.proofs.lemmas.Grind.{flat_map-append}
use Rattle.std.proofs.lemmas.List.{take_more, length-take-le}
use Rattle.atspi_match.specs.Conditions.{key_text, value_text, IsCondition, IsRule}
use Rattle.atspi_match.specs.Grammar.{is_blank, is_word_byte, is_quotable, Are, Begins, IsWord, Part, quoted, escaped, plain, spelling, value_of, AreParts, Item, item_text, item_value, IsItem, with_commas, Say, SayRule, Spells, IsRuleText}
use Rattle.atspi_match.specs.Printed.{quoted_byte, in_quotes, printed_condition, printed}
use Rattle.atspi_match.specs.declared.condition.Condition.{Condition}
use Rattle.atspi_match.specs.declared.condition.Condition.TheVariants as conditions
use Rattle.atspi_match.proofs.KeyLemmas.{by_digits, decimal_two}

-- bytes up to the first apostrophe, and what follows, as parts: a quoted part, and for each apostrophe \' and a quoted part more
parts_from : List ℕ → List ℕ → List Part
parts_from run [] = quoted run ∷ []
parts_from run (b ∷ bytes) = if b == 39 then quoted run ∷ escaped ∷ parts_from [] bytes else parts_from (run ++ b ∷ []) bytes

parts_spelling : (run bytes : List ℕ) → spelling (parts_from run bytes) ≡ 39 ∷ (run ++ (flat_map quoted_byte bytes ++ 39 ∷ []))
unfolding parts_from
parts_spelling run [] = append-nil (39 ∷ (run ++ 39 ∷ []))
parts_spelling run (b ∷ bytes) = by (b == 39) refl (parts_spelling [] bytes) (parts_spelling (run ++ b ∷ []) bytes)
  where
    by : (t : Bool) → (b == 39) ≡ t → spelling (parts_from [] bytes) ≡ 39 ∷ (flat_map quoted_byte bytes ++ 39 ∷ []) → spelling (parts_from (run ++ b ∷ []) bytes) ≡ 39 ∷ ((run ++ b ∷ []) ++ (flat_map quoted_byte bytes ++ 39 ∷ []))
        → spelling (parts_from run (b ∷ bytes)) ≡ 39 ∷ (run ++ (flat_map quoted_byte (b ∷ bytes) ++ 39 ∷ []))
    by true e h k = rw e (ap (λ l. (39 ∷ (run ++ 39 ∷ [])) ++ (92 ∷ 39 ∷ l)) h ∙ ap (λ l. 39 ∷ l) (append_assoc run (39 ∷ []) (92 ∷ 39 ∷ 39 ∷ (flat_map quoted_byte bytes ++ 39 ∷ []))))
    by false e h k = rw e (k ∙ ap (λ l. 39 ∷ l) (append_assoc run (b ∷ []) (flat_map quoted_byte bytes ++ 39 ∷ [])))

parts_value : (run bytes : List ℕ) → value_of (parts_from run bytes) ≡ run ++ bytes
unfolding parts_from
parts_value run [] = refl
parts_value run (b ∷ bytes) = by (b == 39) refl (parts_value [] bytes) (parts_value (run ++ b ∷ []) bytes)
  where
    by : (t : Bool) → (b == 39) ≡ t → value_of (parts_from [] bytes) ≡ bytes → value_of (parts_from (run ++ b ∷ []) bytes) ≡ (run ++ b ∷ []) ++ bytes → value_of (parts_from run (b ∷ bytes)) ≡ run ++ b ∷ bytes
    by true e h k = rw e (ap (λ l. run ++ 39 ∷ l) h ∙ ap (λ c. run ++ c ∷ bytes) (sym (eqb-true b 39 e)))
    by false e h k = rw e (k ∙ append_assoc run (b ∷ []) bytes)

are_more : (run : List ℕ) (b : ℕ) → Are is_quotable run → (b == 39) ≡ false → Are is_quotable (run ++ b ∷ [])
are_more [] b h e = (rw e refl, tt)
are_more (x ∷ run) b h e = (h.0, are_more run b h.1 e)

parts_lawful : (run bytes : List ℕ) → Are is_quotable run → AreParts (parts_from run bytes) []
unfolding parts_from
parts_lawful run [] h = (h, tt)
parts_lawful run (b ∷ bytes) h = by (b == 39) refl (parts_lawful [] bytes tt) (λ e. parts_lawful (run ++ b ∷ []) bytes (are_more run b h e))
  where
    by : (t : Bool) → (b == 39) ≡ t → AreParts (parts_from [] bytes) [] → ((b == 39) ≡ false → AreParts (parts_from (run ++ b ∷ []) bytes) []) → AreParts (parts_from run (b ∷ bytes)) []
    by true e k m = rw e (h, (tt, k))
    by false e k m = rw e (m e)

-- a key is a word
digit_word : (a : ℕ) → a < 10 → is_word_byte (48 + a) ≡ true
digit_word a h = rw (ne_eqb (48 + a) 61 (λ e. omega arith), ne_eqb (48 + a) 44 (λ e. omega arith)) refl

arg_word : (n : ℕ) → n < 64 → IsWord (codes "arg" ++ decimal n)
arg_word n h =
    by_digits (λ m. IsWord (codes "arg" ++ decimal m))
    (λ a x. rw (decimal_digit a x) (record { each = (refl, (refl, (refl, (digit_word a x, tt)))); start = λ (s : false ≡ true). cc }))
    (λ a b some x y lt. rw (decimal_two a b some x y) (record { each = (refl, (refl, (refl, (digit_word a x, (digit_word b y, tt))))); start = λ (s : false ≡ true). cc })) n h

path_word : (n : ℕ) → n < 64 → IsWord (codes "arg" ++ decimal n ++ codes "path")
path_word n h =
    by_digits (λ m. IsWord (codes "arg" ++ decimal m ++ codes "path"))
    (λ a x. rw (decimal_digit a x) (record { each = (refl, (refl, (refl, (digit_word a x, (refl, (refl, (refl, (refl, tt)))))))); start = λ (s : false ≡ true). cc }))
    (λ a b some x y lt. rw (decimal_two a b some x y) (record { each = (refl, (refl, (refl, (digit_word a x, (digit_word b y, (refl, (refl, (refl, (refl, tt))))))))); start = λ (s : false ≡ true). cc })) n h

all_word : (bytes : List ℕ) → list_all is_word_byte bytes ≡ true → Are is_word_byte bytes
all_word [] e = tt
all_word (b ∷ bytes) e = let both = and_parts (is_word_byte b) (list_all is_word_byte bytes) e in (both.0, all_word bytes both.1)

key_word : (c : Condition) → IsCondition c → IsWord (key_text c)
key_word (conditions.Kind t) h = record { each = all_word (codes "type") refl; start = λ (s : false ≡ true). cc }
key_word (conditions.Sender name) h = record { each = all_word (codes "sender") refl; start = λ (s : false ≡ true). cc }
key_word (conditions.Interface name) h = record { each = all_word (codes "interface") refl; start = λ (s : false ≡ true). cc }
key_word (conditions.Member name) h = record { each = all_word (codes "member") refl; start = λ (s : false ≡ true). cc }
key_word (conditions.Path path) h = record { each = all_word (codes "path") refl; start = λ (s : false ≡ true). cc }
key_word (conditions.PathNamespace path) h = record { each = all_word (codes "path_namespace") refl; start = λ (s : false ≡ true). cc }
key_word (conditions.Destination name) h = record { each = all_word (codes "destination") refl; start = λ (s : false ≡ true). cc }
key_word (conditions.Arg n text) h = arg_word n h.0
key_word (conditions.ArgPath n text) h = path_word n h.0
key_word (conditions.Arg0Namespace text) h = record { each = all_word (codes "arg0namespace") refl; start = λ (s : false ≡ true). cc }
key_word (conditions.Eavesdrop b) h = record { each = all_word (codes "eavesdrop") refl; start = λ (s : false ≡ true). cc }

-- the item that a condition is printed as
item_of : Condition → Item
item_of c = record { blanks = []; key = key_text c; parts = parts_from [] (value_text c) }

item_text-of : (c : Condition) → item_text (item_of c) ≡ printed_condition c
unfolding item_of
item_text-of c = ap (λ l. key_text c ++ 61 ∷ l) (parts_spelling [] (value_text c))

is_item_of : (c : Condition) → IsCondition c → IsItem (item_of c)
unfolding item_of
is_item_of c h = record { blanks = tt; key = key_word c h; parts = parts_lawful [] (value_text c) tt }

all_items : (cs : List Condition) → AllByRecursion IsCondition cs → AllByRecursion IsItem (map item_of cs)
all_items [] h = tt
all_items (c ∷ cs) h = (is_item_of c h.0, all_items cs h.1)

say_items : (cs : List Condition) → Say (map item_of cs) cs
unfolding item_of
say_items [] = tt
say_items (c ∷ cs) = ((refl, parts_value [] (value_text c)), say_items cs)

-- joined by commas, with one more behind the last
joined : (c : Condition) (cs : List Condition) → with_commas (map item_of (c ∷ cs)) ≡ printed (c ∷ cs) ++ 44 ∷ []
joined c [] = append-nil (item_text (item_of c) ++ 44 ∷ []) ∙ ap (λ l. l ++ 44 ∷ []) (item_text-of c)
joined c (d ∷ cs) =
    ap (λ l. (item_text (item_of c) ++ 44 ∷ []) ++ l) (joined d cs) ∙ ap (λ l. (l ++ 44 ∷ []) ++ (printed (d ∷ cs) ++ 44 ∷ [])) (item_text-of c)
    ∙ append_assoc (printed_condition c) (44 ∷ []) (printed (d ∷ cs) ++ 44 ∷ []) ∙ sym (append_assoc (printed_condition c) (44 ∷ printed (d ∷ cs)) (44 ∷ []))

say_rule : (rule : List Condition) → IsRule rule → SayRule (map item_of rule) rule
say_rule rule h = record { conditions = rule; each = all_items rule h.each; say = say_items rule; order = IsPermutation-refl rule; is_rule = h }

pub printed_again : (rule : List Condition) → IsRule rule → length (printed rule) ≤ 1024 → IsRuleText (printed rule) rule
printed_again [] h short = record { spells = record { items = []; joined = inl refl; say_rule = say_rule [] h }; short = short }
printed_again (c ∷ cs) h short = record { spells = record { items = map item_of (c ∷ cs); joined = inr (joined c cs); say_rule = say_rule (c ∷ cs) h }; short = short }

-- one condition more
pub printed_first : (c : Condition) → printed (c ∷ []) ≡ printed_condition c
printed_first c = refl

pub printed_push : (cs : List Condition) (c : Condition) → 0 < length cs → printed (cs ++ c ∷ []) ≡ printed cs ++ 44 ∷ printed_condition c
printed_push [] c some = absurd (omega arith)
printed_push (d ∷ []) c some = refl
printed_push (d ∷ e ∷ cs) c some =
    ap (λ l. printed_condition d ++ 44 ∷ l) (printed_push (e ∷ cs) c (omega arith)) ∙ sym (append_assoc (printed_condition d) (44 ∷ printed (e ∷ cs)) (44 ∷ printed_condition c))

pub condition_at : (cs : List Condition) (i : ℕ) (c : Condition) → AllByRecursion IsCondition cs → i < length cs → c ≡ get_or cs i c → IsCondition c
condition_at [] i c h lt e = absurd (omega (arith, lt))
condition_at (d ∷ cs) zero c h lt e = subst (λ x. IsCondition x) (sym e) h.0
condition_at (d ∷ cs) (suc i) c h lt e = condition_at cs i c h.1 (omega (arith, lt)) e

pub take_first : (cs : List Condition) (i : ℕ) (c : Condition) → i ≤ 0 → i < length cs → c ≡ get_or cs i c → printed (take (i + 1) cs) ≡ printed_condition c
take_first [] i c le lt e = absurd (omega (arith, lt))
take_first (d ∷ cs) zero c le lt e = ap printed_condition (sym e)
take_first (d ∷ cs) (suc i) c le lt e = absurd (omega (arith, le))

pub take_next : (cs : List Condition) (i : ℕ) (c : Condition) → 0 < i → i < length cs → c ≡ get_or cs i c → printed (take (i + 1) cs) ≡ printed (take i cs) ++ 44 ∷ printed_condition c
take_next cs i c some lt e =
    ap printed (take_more cs i c lt ∙ ap (λ x. take i cs ++ x ∷ []) (sym e)) ∙ printed_push (take i cs) c (omega (arith, some, length-take-le i cs (omega (arith, lt))))

pub take_none : (cs : List Condition) (i : ℕ) → i ≤ 0 → printed (take i cs) ≡ []
take_none cs zero le = refl
take_none cs (suc i) le = absurd (omega (arith, le))
