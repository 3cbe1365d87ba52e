-- What is wrong with one item, by the key that stands there.
use Rattle.std.proofs.Common.{◌≡◌, ◌≢◌, ℕ, zero, suc, ◌+◌, ◌<◌, ◌≤◌, List, [], ◌∷◌, ◌++◌, length, map, take, drop, Bool, true, false, refl, sym, ap, subst, ◌∙◌, arith, append_assoc, length-append, ◌⊎◌, inl, inr}
use Rattle.std.specs.Prelude.{codes, Contains}
use Rattle.std.proofs.lemmas.Bool.{eqb-false}
use Rattle.atspi_types.specs.SignatureFaults.{Before}
use Rattle.atspi_match.specs.Conditions.{IsCondition, key_text, value_text}
use Rattle.atspi_match.specs.Grammar.{is_blank, is_word_byte, is_quotable, Are, EndsItem, IsWord, Part, spelling, value_of, AreParts, Item, item_text, item_value, IsItem}
use Rattle.atspi_match.specs.RuleFaults.{KeyAt, ItemAt, value_place, IsUnknown, IsNoValue, IsRival, WrongItem, no_equals, unknown_key, twice, not_closed, bad_type, bad_value, both_paths}
use Rattle.atspi_match.specs.inner.Items.{FirstItemFault}
use Rattle.atspi_match.specs.declared.condition.Condition.{Condition}
use Rattle.atspi_match.proofs.PartLemmas.{StopsSpelling, parts_unique}
use Rattle.atspi_match.proofs.WordLemmas.{StopsWord, stops_equals, stops_end, SameWord, word_unique, same_key_at, same_behind, item_text-append, item_key, SameItem, item_unique, at_end, at_quote}

-- what can be wrong behind this key
pub data AtKey (keys : List (List ℕ)) (bl key behind : List ℕ) (q s : ℕ) : Type 0 where
  at_unknown : q ≡ length bl → s ≡ 2 → IsUnknown key → AtKey keys bl key behind q s
  at_twice : q ≡ length bl → s ≡ 3 → Contains keys key → AtKey keys bl key behind q s
  at_rival : q ≡ length bl → s ≡ 7 → IsRival keys key → AtKey keys bl key behind q s
  at_open : (parts : List Part) (rest : List ℕ) → q ≡ length bl + length key + 1 + length (spelling parts) → s ≡ 4 → behind ≡ spelling parts ++ 39 ∷ rest
      → AreParts parts (39 ∷ []) → Are is_quotable rest → AtKey keys bl key behind q s
  at_value : (parts : List Part) (rest : List ℕ) → q ≡ length bl + length key + 1 → ((s ≡ 5) × (key ≡ codes "type")) ⊎ ((s ≡ 6) × (key ≢ codes "type"))
      → behind ≡ spelling parts ++ rest → AreParts parts [] → EndsItem rest → IsNoValue key (value_of parts) → AtKey keys bl key behind q s

ends_no_key : (a : ℕ) (t u : List ℕ) → EndsItem t → t ≡ 61 ∷ u → ⊥
ends_no_key a t u h e = eqb-false 61 44 refl (subst (λ l. EndsItem l) e h)

behind_is : (b c : List ℕ) → 61 ∷ b ≡ 61 ∷ c → b ≡ c
behind_is b c e = same_behind 61 61 b c e

pub wrong_at_key : (keys : List (List ℕ)) (bytes bl key behind : List ℕ) → KeyAt bytes bl key behind → (q s : ℕ) → WrongItem keys bytes q s → AtKey keys bl key behind q s
wrong_at_key keys bytes bl key behind h q s (no_equals bl2 word b2 some blank is_word ends is) =
    let w = word_unique bl bl2 key word (61 ∷ behind) b2 h.blank blank h.word is_word (stops_equals behind) (stops_end b2 ends) (sym h.is ∙ is) in
    absurd (ends_no_key 0 b2 behind ends (sym w.behind))
wrong_at_key keys bytes bl key behind h q s (unknown_key bl2 key2 b2 k unknown) =
    let w = same_key_at bytes bl2 key2 b2 bl key behind k h in
    at_unknown (ap length w.blanks) refl (subst (λ l. IsUnknown l) w.word unknown)
wrong_at_key keys bytes bl key behind h q s (twice bl2 key2 b2 k again) =
    let w = same_key_at bytes bl2 key2 b2 bl key behind k h in
    at_twice (ap length w.blanks) refl (subst (λ l. Contains keys l) w.word again)
wrong_at_key keys bytes bl key behind h q s (not_closed bl2 key2 b2 parts k lawful quotable) =
    let w = same_key_at bytes bl2 key2 (spelling parts ++ 39 ∷ b2) bl key behind k h in
    at_open parts b2 (omega (arith, ap length w.blanks, ap length w.word)) refl (sym (behind_is (spelling parts ++ 39 ∷ b2) behind w.behind)) lawful quotable
wrong_at_key keys bytes bl key behind h q s (bad_type item rest k is none) =
    let w = same_key_at bytes item.blanks item.key (spelling item.parts ++ rest) bl key behind (item_key bytes item rest k) h in
    at_value item.parts rest (omega (arith, ap length w.blanks, ap length w.word)) (inl (refl, sym w.word ∙ is)) (sym (behind_is (spelling item.parts ++ rest) behind w.behind)) k.item_is.parts k.ends
    (subst (λ l. IsNoValue l (value_of item.parts)) w.word none)
wrong_at_key keys bytes bl key behind h q s (bad_value item rest k not none) =
    let w = same_key_at bytes item.blanks item.key (spelling item.parts ++ rest) bl key behind (item_key bytes item rest k) h in
    at_value item.parts rest (omega (arith, ap length w.blanks, ap length w.word)) (inr (refl, λ e. not (w.word ∙ e))) (sym (behind_is (spelling item.parts ++ rest) behind w.behind)) k.item_is.parts k.ends
    (subst (λ l. IsNoValue l (value_of item.parts)) w.word none)
wrong_at_key keys bytes bl key behind h q s (both_paths bl2 key2 b2 k rival) =
    let w = same_key_at bytes bl2 key2 b2 bl key behind k h in
    at_rival (ap length w.blanks) refl (subst (λ l. IsRival keys l) w.word rival)

-- without `=` nothing else is wrong
pub bare_first : (keys : List (List ℕ)) (bytes bl word behind : List ℕ) → bytes ≢ [] → Are is_blank bl → IsWord word → EndsItem behind → bytes ≡ bl ++ (word ++ behind)
    → FirstItemFault keys bytes (length bl) 1
bare_first keys bytes bl word behind some blank is_word ends is = record { there = no_equals bl word behind some blank is_word ends is; first = first }
  where
    no_key : {A : Type 0} (bl2 key2 b2 : List ℕ) → KeyAt bytes bl2 key2 b2 → A
    no_key bl2 key2 b2 k =
        let w = word_unique bl bl2 word key2 behind (61 ∷ b2) blank k.blank is_word k.word (stops_end behind ends) (stops_equals b2) (sym is ∙ k.is) in
        absurd (ends_no_key 0 behind b2 ends w.behind)

    first : (q s : ℕ) → WrongItem keys bytes q s → Before (length bl) 1 q s
    first q s (no_equals bl2 word2 b2 some2 blank2 is_word2 ends2 is2) =
        let w = word_unique bl bl2 word word2 behind b2 blank blank2 is_word is_word2 (stops_end behind ends) (stops_end b2 ends2) (sym is ∙ is2) in
        inr (ap length w.blanks, omega arith)
    first q s (unknown_key bl2 key2 b2 k unknown) = no_key bl2 key2 b2 k
    first q s (twice bl2 key2 b2 k again) = no_key bl2 key2 b2 k
    first q s (not_closed bl2 key2 b2 parts k lawful quotable) = no_key bl2 key2 (spelling parts ++ 39 ∷ b2) k
    first q s (bad_type item rest k is none) = no_key item.blanks item.key (spelling item.parts ++ rest) (item_key bytes item rest k)
    first q s (bad_value item rest k not none) = no_key item.blanks item.key (spelling item.parts ++ rest) (item_key bytes item rest k)
    first q s (both_paths bl2 key2 b2 k rival) = no_key bl2 key2 b2 k

-- a key that is none
pub unknown_first : (keys : List (List ℕ)) (bytes bl key behind : List ℕ) → KeyAt bytes bl key behind → IsUnknown key → FirstItemFault keys bytes (length bl) 2
unknown_first keys bytes bl key behind h unknown = record { there = unknown_key bl key behind h unknown; first = λ q s w. first q s (wrong_at_key keys bytes bl key behind h q s w) }
  where
    first : (q s : ℕ) → AtKey keys bl key behind q s → Before (length bl) 2 q s
    first q s (at_unknown e f u) = inr (sym e, omega (arith, f))
    first q s (at_twice e f u) = inr (sym e, omega (arith, f))
    first q s (at_rival e f u) = inr (sym e, omega (arith, f))
    first q s (at_open parts rest e f b l r) = inl (omega (arith, e))
    first q s (at_value parts rest e f b l r n) = inl (omega (arith, e))

-- a key that stands before
pub twice_first : (keys : List (List ℕ)) (bytes bl key behind : List ℕ) → KeyAt bytes bl key behind → (IsUnknown key → ⊥) → Contains keys key → FirstItemFault keys bytes (length bl) 3
twice_first keys bytes bl key behind h known again = record { there = twice bl key behind h again; first = λ q s w. first q s (wrong_at_key keys bytes bl key behind h q s w) }
  where
    first : (q s : ℕ) → AtKey keys bl key behind q s → Before (length bl) 3 q s
    first q s (at_unknown e f u) = absurd (known u)
    first q s (at_twice e f u) = inr (sym e, omega (arith, f))
    first q s (at_rival e f u) = inr (sym e, omega (arith, f))
    first q s (at_open parts rest e f b l r) = inl (omega (arith, e))
    first q s (at_value parts rest e f b l r n) = inl (omega (arith, e))

-- a key whose rival stands before
pub rival_first : (keys : List (List ℕ)) (bytes bl key behind : List ℕ) → KeyAt bytes bl key behind → (IsUnknown key → ⊥) → (Contains keys key → ⊥) → IsRival keys key
    → FirstItemFault keys bytes (length bl) 7
rival_first keys bytes bl key behind h known once rival = record { there = both_paths bl key behind h rival; first = λ q s w. first q s (wrong_at_key keys bytes bl key behind h q s w) }
  where
    first : (q s : ℕ) → AtKey keys bl key behind q s → Before (length bl) 7 q s
    first q s (at_unknown e f u) = absurd (known u)
    first q s (at_twice e f u) = absurd (once u)
    first q s (at_rival e f u) = inr (sym e, omega (arith, f))
    first q s (at_open parts rest e f b l r) = inl (omega (arith, e))
    first q s (at_value parts rest e f b l r n) = inl (omega (arith, e))

-- a key that may come
pub record MayStand (keys : List (List ℕ)) (key : List ℕ) : Type 0 where
  pub known : IsUnknown key → ⊥
  pub once : Contains keys key → ⊥
  pub no_rival : IsRival keys key → ⊥

-- a value that is not closed
pub open_first : (keys : List (List ℕ)) (bytes bl key : List ℕ) (parts : List Part) (rest : List ℕ) → KeyAt bytes bl key (spelling parts ++ 39 ∷ rest) → MayStand keys key → AreParts parts (39 ∷ [])
    → Are is_quotable rest → FirstItemFault keys bytes (length bl + length key + 1 + length (spelling parts)) 4
open_first keys bytes bl key parts rest h may lawful quotable =
    record { there = not_closed bl key rest parts h lawful quotable; first = λ q s w. first q s (wrong_at_key keys bytes bl key (spelling parts ++ 39 ∷ rest) h q s w) }
  where
    first : (q s : ℕ) → AtKey keys bl key (spelling parts ++ 39 ∷ rest) q s → Before (length bl + length key + 1 + length (spelling parts)) 4 q s
    first q s (at_unknown e f u) = absurd (may.known u)
    first q s (at_twice e f u) = absurd (may.once u)
    first q s (at_rival e f u) = absurd (may.no_rival u)
    first q s (at_open ps r e f b l n) =
        let same = parts_unique parts ps (39 ∷ rest) (39 ∷ r) (inr (rest, refl, quotable)) (inr (r, refl, n)) (at_quote parts rest lawful) (at_quote ps r l) b in
        inr (omega (arith, e, ap (λ p. length (spelling p)) same.0), omega (arith, f))
    first q s (at_value ps r e f b l ends n) =
        let same = parts_unique parts ps (39 ∷ rest) r (inr (rest, refl, quotable)) (inl ends) (at_quote parts rest lawful) (at_end ps r ends l) b in
        let is = subst (λ t. EndsItem t) (sym same.1) ends in
        absurd (eqb-false 39 44 refl is)

-- a value that the key may not have
pub value_first : (keys : List (List ℕ)) (bytes : List ℕ) (item : Item) (rest : List ℕ) (reason : ℕ) → ItemAt bytes item rest → MayStand keys item.key
    → ((reason ≡ 5) × (item.key ≡ codes "type")) ⊎ ((reason ≡ 6) × (item.key ≢ codes "type")) → IsNoValue item.key (item_value item) → FirstItemFault keys bytes (value_place item) reason
value_first keys bytes item rest reason h may why none = record { there = there why; first = λ q s w. first q s (wrong_at_key keys bytes item.blanks item.key (spelling item.parts ++ rest) (item_key bytes item rest h) q s w) }
  where
    there : ((reason ≡ 5) × (item.key ≡ codes "type")) ⊎ ((reason ≡ 6) × (item.key ≢ codes "type")) → WrongItem keys bytes (value_place item) reason
    there (inl e) = subst (λ r. WrongItem keys bytes (value_place item) r) (sym e.0) (bad_type item rest h e.1 none)
    there (inr e) = subst (λ r. WrongItem keys bytes (value_place item) r) (sym e.0) (bad_value item rest h e.1 none)

    reasons : (s : ℕ) → ((reason ≡ 5) × (item.key ≡ codes "type")) ⊎ ((reason ≡ 6) × (item.key ≢ codes "type")) → ((s ≡ 5) × (item.key ≡ codes "type")) ⊎ ((s ≡ 6) × (item.key ≢ codes "type")) → reason ≤ s
    reasons s (inl e) (inl f) = omega (arith, e.0, f.0)
    reasons s (inl e) (inr f) = omega (arith, e.0, f.0)
    reasons s (inr e) (inl f) = absurd (e.1 f.1)
    reasons s (inr e) (inr f) = omega (arith, e.0, f.0)

    first : (q s : ℕ) → AtKey keys item.blanks item.key (spelling item.parts ++ rest) q s → Before (value_place item) reason q s
    first q s (at_unknown e f u) = absurd (may.known u)
    first q s (at_twice e f u) = absurd (may.once u)
    first q s (at_rival e f u) = absurd (may.no_rival u)
    first q s (at_open ps r e f b l n) =
        let same = parts_unique item.parts ps rest (39 ∷ r) (inl h.ends) (inr (r, refl, n)) (at_end item.parts rest h.ends h.item_is.parts) (at_quote ps r l) b in
        let is = subst (λ t. EndsItem t) same.1 h.ends in
        absurd (eqb-false 39 44 refl is)
    first q s (at_value ps r e f b l ends n) = inr (sym e, reasons s why f)

-- an item that says a condition has nothing wrong
pub good_item : (keys : List (List ℕ)) (bytes : List ℕ) (item : Item) (rest : List ℕ) (c : Condition) → ItemAt bytes item rest → MayStand keys item.key → IsCondition c → item.key ≡ key_text c → item_value item ≡ value_text c
    → (q s : ℕ) → WrongItem keys bytes q s → ⊥
good_item keys bytes item rest c h may is_condition key value q s w = by (wrong_at_key keys bytes item.blanks item.key (spelling item.parts ++ rest) (item_key bytes item rest h) q s w)
  where
    by : AtKey keys item.blanks item.key (spelling item.parts ++ rest) q s → ⊥
    by (at_unknown e f u) = may.known u
    by (at_twice e f u) = may.once u
    by (at_rival e f u) = may.no_rival u
    by (at_open ps r e f b l n) =
        let same = parts_unique item.parts ps rest (39 ∷ r) (inl h.ends) (inr (r, refl, n)) (at_end item.parts rest h.ends h.item_is.parts) (at_quote ps r l) b in
        let is = subst (λ t. EndsItem t) same.1 h.ends in
        eqb-false 39 44 refl is
    by (at_value ps r e f b l ends n) =
        let same = parts_unique item.parts ps rest r (inl h.ends) (inl ends) (at_end item.parts rest h.ends h.item_is.parts) (at_end ps r ends l) b in
        n c is_condition (sym key) (sym value ∙ ap value_of same.0)
