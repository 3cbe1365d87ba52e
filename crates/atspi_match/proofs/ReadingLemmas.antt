-- What reading a rule tells: one item more, the first fault, and that no two answers fit.
use Rattle.std.proofs.Common.{◌≡◌, ◌≢◌, ℕ, zero, suc, ◌+◌, ◌<◌, ◌≤◌, List, [], ◌∷◌, ◌++◌, length, map, take, drop, Bool, true, false, refl, sym, ap, subst, ◌∙◌, arith, append_assoc, append-nil, length-append, ◌⊎◌, inl, inr, Option, Some, None, Result, Ok, Err, insert}
use Rattle.std.specs.Prelude.{codes, Contains, count_by, nat_lt, slice_index_or}
use Rattle.std.specs.List.{All, AllByRecursion}
use Rattle.std.specs.List.Sorted.{IsPermutation}
use Rattle.std.proofs.lemmas.List.{drop-drop, drop_at, drop_all, length-drop}
use Rattle.std.proofs.lemmas.Bool.{cases_order}
use Rattle.std.proofs.lemmas.List.Sorted.{IsPermutation-refl, IsPermutation-sym, IsPermutation-insert, IsPermutation-push_more, Contains-permutation, IsPermutation-map}
use Rattle.atspi_types.specs.SignatureFaults.{Before}
use Rattle.atspi_match.specs.Conditions.{rank, key_text, value_text, IsCondition, AreRising, has_rank, IsRule}
use Rattle.atspi_match.specs.inner.Keys.{key_of, key_refusal}
use Rattle.atspi_match.specs.Grammar.{EndsItem, Item, item_text, item_value, IsItem, Part, spelling, with_commas, AreJoined, Say, SayRule, Spells, IsRuleText}
use Rattle.atspi_match.specs.RuleFaults.{KeyAt, ItemAt, value_place, IsRival, WrongItem, no_equals, unknown_key, twice, not_closed, bad_type, bad_value, both_paths, WrongRule, in_item, too_long, FirstRuleFault}
use Rattle.atspi_match.specs.inner.Items.{ReadsItem, FirstItemFault, FirstFaultOfItems, ReadSoFar}
use Rattle.atspi_match.specs.declared.condition.Condition.{Condition}
use Rattle.atspi_match.specs.declared.item.ItemRead.{ItemRead}
use Rattle.atspi_match.proofs.WordLemmas.{item_key, item_text-append, at_end, at_quote}
use Rattle.atspi_match.proofs.PartLemmas.{StopsSpelling, parts_unique}
use Rattle.atspi_match.proofs.FaultLemmas.{wrong_at_key, AtKey, at_unknown, at_twice, at_rival, at_open, at_value}
use Rattle.atspi_match.proofs.KeyLemmas.{same_condition}
use Rattle.atspi_match.proofs.RankLemmas.{insert_rule}
use Rattle.atspi_match.proofs.RuleLemmas.{Order, ahead, behind, order_of, cons_text, two_at_least, with_commas-append, say_keys, said_each, GoesOn, goes_on, no_item_wrong}

-- other keys with the same members
rival_along : (ks ls : List (List ℕ)) (key : List ℕ) → ((x : List ℕ) → Contains ks x → Contains ls x) → IsRival ks key → IsRival ls key
rival_along ks ls key f (inl h) = inl (h.0, f (codes "path_namespace") h.1)
rival_along ks ls key f (inr h) = inr (h.0, f (codes "path") h.1)

pub other_keys : (ks ls : List (List ℕ)) (bytes : List ℕ) → ((x : List ℕ) → Contains ks x → Contains ls x) → (q s : ℕ) → WrongItem ks bytes q s → WrongItem ls bytes q s
other_keys ks ls bytes f q s (no_equals bl word b some blank is_word ends is) = no_equals bl word b some blank is_word ends is
other_keys ks ls bytes f q s (unknown_key bl key b k unknown) = unknown_key bl key b k unknown
other_keys ks ls bytes f q s (twice bl key b k again) = twice bl key b k (f key again)
other_keys ks ls bytes f q s (not_closed bl key b parts k lawful quotable) = not_closed bl key b parts k lawful quotable
other_keys ks ls bytes f q s (bad_type item rest k is none) = bad_type item rest k is none
other_keys ks ls bytes f q s (bad_value item rest k not none) = bad_value item rest k not none
other_keys ks ls bytes f q s (both_paths bl key b k rival) = both_paths bl key b k (rival_along ks ls key f rival)

-- a place is one of the bytes, or their end
pub record InBytes (bytes : List ℕ) (q s : ℕ) : Type 0 where
  pub within : q ≤ length bytes
  pub small : s < 8

key_within : (bytes bl key b : List ℕ) → KeyAt bytes bl key b → length bl + length key + 1 + length b ≡ length bytes
key_within bytes bl key b h = omega (arith, ap length h.is, length-append bl (key ++ 61 ∷ b), length-append key (61 ∷ b))

pub wrong_within : (ks : List (List ℕ)) (bytes : List ℕ) (q s : ℕ) → WrongItem ks bytes q s → InBytes bytes q s
wrong_within ks bytes q s (no_equals bl word b some blank is_word ends is) = record { within = omega (arith, ap length is, length-append bl (word ++ b), length-append word b); small = omega arith }
wrong_within ks bytes q s (unknown_key bl key b k unknown) = record { within = omega (arith, key_within bytes bl key b k); small = omega arith }
wrong_within ks bytes q s (twice bl key b k again) = record { within = omega (arith, key_within bytes bl key b k); small = omega arith }
wrong_within ks bytes q s (not_closed bl key b parts k lawful quotable) =
    record { within = omega (arith, key_within bytes bl key (spelling parts ++ 39 ∷ b) k, length-append (spelling parts) (39 ∷ b)); small = omega arith }
wrong_within ks bytes q s (bad_type item rest k is none) = record { within = omega (arith, key_within bytes item.blanks item.key (spelling item.parts ++ rest) (item_key bytes item rest k)); small = omega arith }
wrong_within ks bytes q s (bad_value item rest k not none) = record { within = omega (arith, key_within bytes item.blanks item.key (spelling item.parts ++ rest) (item_key bytes item rest k)); small = omega arith }
wrong_within ks bytes q s (both_paths bl key b k rival) = record { within = omega (arith, key_within bytes bl key b k); small = omega arith }

-- what is wrong with an item that is one stands within it
pub inside_item : (ks : List (List ℕ)) (bytes : List ℕ) (j : Item) (rest : List ℕ) → ItemAt bytes j rest → (q s : ℕ) → WrongItem ks bytes q s → q ≤ length (item_text j)
inside_item ks bytes j rest h q s w = by (wrong_at_key ks bytes j.blanks j.key (spelling j.parts ++ rest) (item_key bytes j rest h) q s w)
  where
    long : length (item_text j) ≡ length j.blanks + (length j.key + (1 + length (spelling j.parts)))
    long = omega (arith, length-append j.blanks (j.key ++ 61 ∷ spelling j.parts), length-append j.key (61 ∷ spelling j.parts))

    by : AtKey ks j.blanks j.key (spelling j.parts ++ rest) q s → q ≤ length (item_text j)
    by (at_unknown e f u) = omega (arith, e, long)
    by (at_twice e f u) = omega (arith, e, long)
    by (at_rival e f u) = omega (arith, e, long)
    by (at_open ps r e f b l n) =
        let same = parts_unique j.parts ps rest (39 ∷ r) (inl h.ends) (inr (r, refl, n)) (at_end j.parts rest h.ends h.item_is.parts) (at_quote ps r l) b in
        omega (arith, e, long, ap (λ p. length (spelling p)) same.0)
    by (at_value ps r e f b l ends n) = omega (arith, e, long)

all_more : (is js : List Item) → AllByRecursion IsItem (is ++ js) → AllByRecursion IsItem js
all_more [] js h = h
all_more (i ∷ is) js h = all_more is js h.1

-- the members of the keys of the items are those of the rule's keys
keys_to : (is : List Item) (rule : List Condition) → SayRule is rule → (x : List ℕ) → Contains (map (λ item. item.key) is) x → Contains (map key_text rule) x
keys_to is rule h x c = Contains-permutation (map key_text h.conditions) (map key_text rule) x (IsPermutation-map key_text h.conditions rule h.order) (subst (λ l. Contains l x) (say_keys is h.conditions h.say) c)

keys_from : (is : List Item) (rule : List Condition) → SayRule is rule → (x : List ℕ) → Contains (map key_text rule) x → Contains (map (λ item. item.key) is) x
keys_from is rule h x c =
    subst (λ l. Contains l x) (sym (say_keys is h.conditions h.say))
    (Contains-permutation (map key_text rule) (map key_text h.conditions) x (IsPermutation-map key_text rule h.conditions (IsPermutation-sym h.conditions rule h.order)) c)

-- the first fault behind the items read so far is the first of all
pub fault_behind : (bytes : List ℕ) (at : ℕ) (rule : List Condition) (place reason : ℕ) → ReadSoFar bytes at rule → at ≤ length bytes → FirstItemFault (map key_text rule) (drop at bytes) place reason → FirstFaultOfItems bytes (at + place) reason
fault_behind bytes at rule place reason h le f =
    record {
      there = subst (λ m. WrongRule bytes (m + place) reason) (sym h.at_is) (in_item h.items (drop at bytes) place reason h.say_rule.each h.text (other_keys (map key_text rule) (map (λ item. item.key) h.items) (drop at bytes) (keys_from h.items rule h.say_rule) place reason f.there));
      first = first;
      within = omega (arith, le, (wrong_within (map key_text rule) (drop at bytes) place reason f.there).within, length-drop at bytes);
      small = (wrong_within (map key_text rule) (drop at bytes) place reason f.there).small;
    }
  where
    by : (js : List Item) (u : List ℕ) (q s : ℕ) (more : List Item) → AllByRecursion IsItem js → js ≡ h.items ++ more → drop at bytes ≡ with_commas more ++ u → WrongItem (map (λ item. item.key) js) u q s
        → Before (at + place) reason (length (with_commas js) + q) s
    by js u q s [] each e r w =
        let same : js ≡ h.items = e ∙ append-nil h.items in
        let here : WrongItem (map key_text rule) (drop at bytes) q s =
        other_keys (map (λ item. item.key) h.items) (map key_text rule) (drop at bytes) (keys_to h.items rule h.say_rule) q s (subst (λ l. WrongItem (map (λ item. item.key) h.items) l q s) (sym r) (subst (λ l. WrongItem (map (λ item. item.key) l) u q s) same w)) in
        shifted (f.first q s here)
      where
        shifted : Before place reason q s → Before (at + place) reason (length (with_commas js) + q) s
        shifted (inl lt) = inl (omega (arith, lt, h.at_is, ap (λ l. length (with_commas l)) (e ∙ append-nil h.items)))
        shifted (inr (same, le)) = inr (omega (arith, same, h.at_is, ap (λ l. length (with_commas l)) (e ∙ append-nil h.items)), le)
    by js u q s (m ∷ ms) each e r w =
        let item : IsItem m = (all_more h.items (m ∷ ms) (subst (λ l. AllByRecursion IsItem l) e each)).0 in
        let inside = inside_item (map key_text rule) (drop at bytes) m (44 ∷ (with_commas ms ++ u)) (record { item_is = item; ends = refl; is = r ∙ cons_text m ms u }) place reason f.there in
        inl (omega (arith, inside, h.at_is, ap (λ l. length (with_commas l)) e, ap length (with_commas-append h.items (m ∷ ms)), length-append (with_commas h.items) (with_commas (m ∷ ms)), ap length (sym (append-nil (with_commas (m ∷ ms))) ∙ cons_text m ms []), length-append (item_text m) (44 ∷ (with_commas ms ++ []))))

    first : (js : List Item) (u : List ℕ) (q s : ℕ) → AllByRecursion IsItem js → bytes ≡ with_commas js ++ u → WrongItem (map (λ item. item.key) js) u q s → Before (at + place) reason (length (with_commas js) + q) s
    first js u q s each e w =
        let g = goes_on h.items rule (drop at bytes) js u q s h.say_rule each (sym h.text ∙ e) w in
        by js u q s g.more each g.is_more g.rest w

-- nothing is read at first
pub nothing_read : (bytes : List ℕ) → ReadSoFar bytes 0 []
nothing_read bytes =
    record { items = []; say_rule = record { conditions = []; each = tt; say = tt; order = IsPermutation-refl []; is_rule = record { rising = tt; each = tt; one_path = refl } }; text = refl; at_is = refl }

say_more : (is : List Item) (cs : List Condition) (i : Item) (c : Condition) → Say is cs → i.key ≡ key_text c → item_value i ≡ value_text c → Say (is ++ i ∷ []) (cs ++ c ∷ [])
say_more [] [] i c h k v = ((k, v), tt)
say_more [] (d ∷ cs) i c h k v = absurd h
say_more (j ∷ is) [] i c h k v = absurd h
say_more (j ∷ is) (d ∷ cs) i c h k v = (h.0, say_more is cs i c h.1 k v)

each_more : (is : List Item) (i : Item) → AllByRecursion IsItem is → IsItem i → AllByRecursion IsItem (is ++ i ∷ [])
each_more [] i h k = (k, tt)
each_more (j ∷ is) i h k = (h.0, each_more is i h.1 k)

-- one item more
pub say_rule_more : (is : List Item) (rule : List Condition) (bytes : List ℕ) (read : ItemRead) → SayRule is rule → (r : ReadsItem bytes rule read)
    → SayRule (is ++ r.item ∷ []) (insert rule (count_by (λ d. nat_lt (rank d) (rank read.condition)) rule) read.condition)
say_rule_more is rule bytes read h r =
    let slot : ℕ = count_by (λ d. nat_lt (rank d) (rank read.condition)) rule in
    record {
      conditions = h.conditions ++ read.condition ∷ [];
      each = each_more is r.item h.each r.here.item_is;
      say = say_more is h.conditions r.item read.condition h.say r.key r.value;
      order = IsPermutation-push_more h.conditions rule (insert rule slot read.condition) read.condition h.order (IsPermutation-insert rule slot read.condition);
      is_rule = insert_rule rule read.condition h.is_rule r.is_condition r.may_come;
    }

joined_more : (is : List Item) (i : Item) → with_commas (is ++ i ∷ []) ≡ with_commas is ++ (item_text i ++ 44 ∷ [])
joined_more is i = with_commas-append is (i ∷ []) ∙ ap (λ l. with_commas is ++ l) (append-nil (item_text i ++ 44 ∷ []))

-- the last item, without a comma
pub all_read : (bytes : List ℕ) (at : ℕ) (rule : List Condition) (read : ItemRead) → ReadSoFar bytes at rule → ReadsItem (drop at bytes) rule read → at + read.len ≡ length bytes
    → Spells bytes (insert rule (count_by (λ d. nat_lt (rank d) (rank read.condition)) rule) read.condition)
all_read bytes at rule read h r e =
    let nothing : drop read.len (drop at bytes) ≡ [] = drop-drop read.len at bytes ∙ drop_all (at + read.len) bytes (omega (arith, e)) in
    let whole : drop at bytes ≡ item_text r.item = r.here.is ∙ ap (λ l. item_text r.item ++ l) nothing ∙ append-nil (item_text r.item) in
    record {
      items = h.items ++ r.item ∷ [];
      joined = inr (joined_more h.items r.item ∙ sym (append_assoc (with_commas h.items) (item_text r.item) (44 ∷ [])) ∙ ap (λ l. l ++ 44 ∷ []) (ap (λ l. with_commas h.items ++ l) (sym whole) ∙ sym h.text));
      say_rule = say_rule_more h.items rule (drop at bytes) read h.say_rule r;
    }

-- an item and its comma
pub read_more : (bytes : List ℕ) (at : ℕ) (rule : List Condition) (read : ItemRead) → ReadSoFar bytes at rule → ReadsItem (drop at bytes) rule read → at + read.len < length bytes
    → ReadSoFar bytes (at + read.len + 1) (insert rule (count_by (λ d. nat_lt (rank d) (rank read.condition)) rule) read.condition)
read_more bytes at rule read h r lt = by (drop (at + read.len) bytes) refl
  where
    by : (rest : List ℕ) → drop (at + read.len) bytes ≡ rest → ReadSoFar bytes (at + read.len + 1) (insert rule (count_by (λ d. nat_lt (rank d) (rank read.condition)) rule) read.condition)
    by [] e = absurd (omega (arith, ap length e, length-drop (at + read.len) bytes))
    by (b ∷ rest) e =
        let here : drop read.len (drop at bytes) ≡ b ∷ rest = drop-drop read.len at bytes ∙ e in
        let comma : b ≡ 44 = subst (λ l. EndsItem l) here r.here.ends in
        let tail : drop (at + read.len + 1) bytes ≡ rest = sym (drop-drop 1 (at + read.len) bytes) ∙ ap (λ l. drop 1 l) e in
        record {
          items = h.items ++ r.item ∷ [];
          say_rule = say_rule_more h.items rule (drop at bytes) read h.say_rule r;
          text = h.text ∙ ap (λ l. with_commas h.items ++ l) (r.here.is ∙ ap (λ l. item_text r.item ++ l) (here ∙ ap (λ c. c ∷ rest) comma) ∙ sym (append_assoc (item_text r.item) (44 ∷ []) rest))
              ∙ sym (append_assoc (with_commas h.items) (item_text r.item ++ 44 ∷ []) rest) ∙ ap (λ l. l ++ rest) (sym (joined_more h.items r.item)) ∙ ap (λ l. with_commas (h.items ++ r.item ∷ []) ++ l) (sym tail);
          at_is = omega (arith, h.at_is, r.len_is, ap length (joined_more h.items r.item), length-append (with_commas h.items) (item_text r.item ++ 44 ∷ []), length-append (item_text r.item) (44 ∷ []));
        }

pub read_to_end : (bytes : List ℕ) (at : ℕ) (rule : List Condition) → ReadSoFar bytes at rule → length bytes ≤ at → Spells bytes rule
read_to_end bytes at rule h le =
    record { items = h.items; joined = inl (sym (append-nil (with_commas h.items)) ∙ ap (λ l. with_commas h.items ++ l) (sym (drop_all at bytes le)) ∙ sym h.text); say_rule = h.say_rule }

-- what is told where there may be too many bytes
pub told_first : (bytes : List ℕ) (place reason : ℕ) → FirstFaultOfItems bytes place reason → (1024 < length bytes → place ≤ 1024) → FirstRuleFault bytes place reason
told_first bytes place reason h low = record { there = h.there; first = first }
  where
    at_limit : place ≤ 1024 → Before place reason 1024 8
    at_limit le = by (cases_order place 1024)
      where
        by : (place ≡ 1024) ⊎ ((place < 1024) ⊎ (1024 < place)) → Before place reason 1024 8
        by (inl e) = inr (e, omega (arith, h.small))
        by (inr (inl lt)) = inl lt
        by (inr (inr gt)) = absurd (omega (arith, le, gt))

    first : (q s : ℕ) → WrongRule bytes q s → Before place reason q s
    first q s (in_item js u q2 s2 each e w) = h.first js u q2 s2 each e w
    first q s (too_long long) = at_limit (low long)

pub long_first : (bytes : List ℕ) (place reason : ℕ) → FirstFaultOfItems bytes place reason → 1024 < length bytes → 1024 < place → FirstRuleFault bytes 1024 8
long_first bytes place reason h long far = record { there = too_long long; first = first }
  where
    later : (q s : ℕ) → Before place reason q s → Before 1024 8 q s
    later q s (inl lt) = inl (omega (arith, lt, far))
    later q s (inr (e, le)) = inl (omega (arith, e, far))

    first : (q s : ℕ) → WrongRule bytes q s → Before 1024 8 q s
    first q s (in_item js u q2 s2 each e w) = later _ _ (h.first js u q2 s2 each e w)
    first q s (too_long more) = inr (refl, omega arith)

pub spelled_long : (bytes : List ℕ) (rule : List Condition) → Spells bytes rule → 1024 < length bytes → FirstRuleFault bytes 1024 8
spelled_long bytes rule h long = record { there = too_long long; first = first }
  where
    first : (q s : ℕ) → WrongRule bytes q s → Before 1024 8 q s
    first q s (in_item js u q2 s2 each e w) = absurd (no_item_wrong bytes rule h js u q2 s2 each e w)
    first q s (too_long more) = inr (refl, omega arith)
