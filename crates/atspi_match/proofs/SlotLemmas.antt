-- Rules in their places.
use Rattle.std.proofs.Common.{◌≡◌, ◌≢◌, ◌⊎◌, ℕ, zero, suc, ◌+◌, ◌-◌, ◌<◌, ◌≤◌, Bool, true, false, cond, eqb, not, List, [], ◌∷◌, ◌++◌, length, get_or, take, drop, Option, None, Some, refl, sym, ap, ◌∙◌, subst, inl, inr, ⊎_elim, arith, append_assoc, append-nil, drop-cons, add-one}
use Rattle.std.specs.Prelude.{◌==◌, ◌↔◌, set, option_to_list, remove, map, if◌then◌else◌}
use Rattle.std.specs.List.{Contains, count_by, filter, AllByRecursion}
use Rattle.std.specs.List.Sorted.{IsStrictlyIncreasing, IsStrictlySortedBy}
use Rattle.std.specs.Ordering.{nat_cmp}
use Rattle.std.specs.declared.cmp.Ordering.TheVariants.{Less}
use Rattle.std.proofs.lemmas.Bool.Decides.{Decides-eqb, nat_tests}
use Rattle.std.proofs.lemmas.Bool.{cases_eq}
use Rattle.std.proofs.lemmas.List.{drop-drop, length-set, take_more, take_more_set, take_all, take-append-drop, drop-set-lt, length-append, map-append, get_or-set_same, get_or-set_other, set-get_or}
use Rattle.std.proofs.lemmas.List.Sums.{sum_by-append}
use Rattle.std.proofs.lemmas.List.Elements.{Contains-append_left, Contains-append_right, Contains-append_cases, Contains-push, Contains-push_cases, at_from_Contains}
use Rattle.std.proofs.lemmas.Map.Keys.{sorted_from_strictly_increasing}
use Rattle.atspi_message.specs.Envelope.{Envelope}
use Rattle.atspi_names.specs.Owners.{Owners}
use Rattle.atspi_match.specs.declared.condition.Condition.{Condition}
use Rattle.atspi_match.specs.Matching.{Matches}
use Rattle.atspi_match.specs.RuleIndex.{without_rules, without_first, is_pair, IsFirstAt, IsNowhere, Receives}
use Rattle.atspi_match.specs.declared.rule_groups.RuleGroups.{RuleGroups}
use Rattle.atspi_match.specs.RuleGroups.{IsNoted}
use Rattle.atspi_match.specs.Slots.{Slots, Pair, held_in, slot_at, chosen, cleared, is_its, is_this, AreNoted, IsFirstSlot, Hears}
use Rattle.atspi_match.proofs.IndexLemmas.{Finds}

pub held-append : (a b : Slots) → held_in (a ++ b) ≡ held_in a ++ held_in b
held-append [] b = refl
held-append (s ∷ a) b = ap (λ l. option_to_list s ++ l) (held-append a b) ∙ sym (append_assoc (option_to_list s) (held_in a) (held_in b))

pub held-push : (a : Slots) (p : Pair) → held_in (a ++ Some p ∷ []) ≡ held_in a ++ p ∷ []
held-push a p = held-append a (Some p ∷ [])

-- what stands at a place is held
pub held-at : (slots : Slots) (place : ℕ) (p : Pair) → slot_at slots place ≡ Some p → Contains (held_in slots) p
held-at [] place p is = absurd cc
held-at (s ∷ slots) zero p is = subst (λ o. Contains (option_to_list o ++ held_in slots) p) (sym is) (Contains-append_left (p ∷ []) (held_in slots) p (Contains-push [] p))
held-at (s ∷ slots) (suc place) p is = Contains-append_right (option_to_list s) (held_in slots) p (held-at slots place p is)

-- and what is held stands at a place
pub held-place : (slots : Slots) (p : Pair) → Contains (held_in slots) p → (place : ℕ) × (slot_at slots place ≡ Some p)
held-place [] p h = absurd (none h)
  where
    none : Contains [] p → ⊥
    none h = let a = at_from_Contains [] p h in omega (arith, a.1)
held-place (s ∷ slots) p h = ⊎_elim (here s) (λ later. let r = held-place slots p later in (suc r.0, r.1)) (Contains-append_cases (option_to_list s) (held_in slots) p h)
  where
    here : (o : Option Pair) → Contains (option_to_list o) p → (place : ℕ) × (slot_at (o ∷ slots) place ≡ Some p)
    here None h = absurd (let a = at_from_Contains [] p h in omega (arith, a.1))
    here (Some q) h =
        let a = at_from_Contains (q ∷ []) p h in
        let at : a.0 ≡ 0 = omega (arith, a.1) in
        (0, ap (λ (r : Pair). Some r) (subst (λ k. get_or (q ∷ []) k q ≡ p) at (a.2 q)))

-- what was chosen
pub chosen-append : (slots : Slots) (a b : List ℕ) → chosen slots (a ++ b) ≡ chosen slots a ++ chosen slots b
chosen-append slots [] b = refl
chosen-append slots (k ∷ a) b = ap (λ l. option_to_list (slot_at slots k) ++ l) (chosen-append slots a b) ∙ sym (append_assoc (option_to_list (slot_at slots k)) (chosen slots a) (chosen slots b))

pub chosen-held : (slots : Slots) (places : List ℕ) (p : Pair) → Contains (chosen slots places) p → Contains (held_in slots) p
chosen-held slots [] p h = absurd (let a = at_from_Contains [] p h in omega (arith, a.1))
chosen-held slots (k ∷ places) p h = ⊎_elim (here (slot_at slots k) refl) (chosen-held slots places p) (Contains-append_cases (option_to_list (slot_at slots k)) (chosen slots places) p h)
  where
    here : (o : Option Pair) → slot_at slots k ≡ o → Contains (option_to_list o) p → Contains (held_in slots) p
    here None is h = absurd (let a = at_from_Contains [] p h in omega (arith, a.1))
    here (Some q) is h =
        let a = at_from_Contains (q ∷ []) p h in
        let at : a.0 ≡ 0 = omega (arith, a.1) in
        held-at slots k p (is ∙ ap (λ (r : Pair). Some r) (subst (λ k. get_or (q ∷ []) k q ≡ p) at (a.2 q)))

pub held-chosen : (slots : Slots) (places : List ℕ) (place : ℕ) (p : Pair) → Contains places place → slot_at slots place ≡ Some p → Contains (chosen slots places) p
held-chosen slots [] place p h is = absurd (let a = at_from_Contains [] place h in omega (arith, a.1))
held-chosen slots (k ∷ places) place p h is =
    ⊎_elim
    (λ first.
    let a = at_from_Contains (k ∷ []) place first in
    let at : a.0 ≡ 0 = omega (arith, a.1) in
    let same : k ≡ place = subst (λ i. get_or (k ∷ []) i 0 ≡ place) at (a.2 0) in
    Contains-append_left (option_to_list (slot_at slots k)) (chosen slots places) p
    (subst (λ o. Contains (option_to_list o) p) (sym (ap (slot_at slots) same ∙ is)) (Contains-push [] p)))
    (λ later. Contains-append_right (option_to_list (slot_at slots k)) (chosen slots places) p (held-chosen slots places place p later is))
    (Contains-append_cases (k ∷ []) places place h)

-- of the rules at places that rise no more pass a test than of all
abbrev size : (Pair → Bool) → Option Pair → ℕ
size w o = count_by w (option_to_list o)

abbrev count : (Pair → Bool) → Slots → ℕ
count w slots = count_by w (held_in slots)

pub count-append : (w : Pair → Bool) (a b : List Pair) → count_by w (a ++ b) ≡ count_by w a + count_by w b
count-append w a b = sum_by-append (λ (p : Pair). cond {A = ℕ} (w p) 1 0) a b

count-cons : (w : Pair → Bool) (s : Option Pair) (slots : Slots) → count w (s ∷ slots) ≡ size w s + count w slots
count-cons w s slots = count-append w (option_to_list s) (held_in slots)

count_drop : (w : Pair → Bool) (slots : Slots) (k : ℕ) → count w (drop k slots) ≤ count w slots
count_drop w slots zero = omega arith
count_drop w [] (suc k) = omega arith
count_drop w (s ∷ slots) (suc k) =
    let e = count-cons w s slots in
    let le = count_drop w slots k in
    more _ _ _ _ e le
  where
    more : (a b c d : ℕ) → a ≡ b + c → d ≤ c → d ≤ a
    more a b c d e le = omega arith

-- what stands at a place and what stands behind it
count_at : (w : Pair → Bool) (slots : Slots) (k : ℕ) → size w (slot_at slots k) + count w (drop (suc k) slots) ≤ count w (drop k slots)
count_at w [] zero = omega arith
count_at w [] (suc k) = omega arith
count_at w (s ∷ slots) zero = let e = count-cons w s slots in at_most _ _ e
  where
    at_most : (a b : ℕ) → a ≡ b → b ≤ a
    at_most a b e = omega arith
count_at w (s ∷ slots) (suc k) = count_at w slots k

count_later : (w : Pair → Bool) (slots : Slots) (k j : ℕ) → k ≤ j → count w (drop j slots) ≤ count w (drop k slots)
count_later w slots k j le =
    let is : drop (j - k) (drop k slots) ≡ drop j slots = drop-drop (j - k) k slots ∙ ap (λ n. drop n slots) (adds k j le) in
    subst (λ l. count w l ≤ count w (drop k slots)) is (count_drop w (drop k slots) (j - k))
  where
    adds : (k j : ℕ) → k ≤ j → k + (j - k) ≡ j
    adds k j le = omega arith

less : (a b : ℕ) → nat_cmp a b ≡ Less → a < b
less a b e = by a b e
  where
    by : (a b : ℕ) → nat_cmp a b ≡ Less → a < b
    by a b e = grind (arith, nat_tests)

few : (w : Pair → Bool) (slots : Slots) (places : List ℕ) (k : ℕ) → AllByRecursion (λ p. k ≤ p) places → IsStrictlySortedBy nat_cmp places
    → count_by w (chosen slots places) ≤ count w (drop k slots)
unfolding IsStrictlySortedBy
few w slots [] k from rises = omega arith
few w slots (p ∷ places) k from rises =
    let later = few w slots places (suc p) (behind places rises.0) rises.1 in
    let here = count_at w slots p in
    let before = count_later w slots k p from.0 in
    sum _ _ _ _ _ _ (count-append w (option_to_list (slot_at slots p)) (chosen slots places)) later here before
  where
    behind : (ps : List ℕ) → AllByRecursion (λ q. nat_cmp p q ≡ Less) ps → AllByRecursion (λ q. suc p ≤ q) ps
    behind [] h = tt
    behind (q ∷ ps) h = (let l = less p q h.0 in omega arith, behind ps h.1)

    sum : (a s c d e f : ℕ) → a ≡ s + c → c ≤ d → s + d ≤ e → e ≤ f → a ≤ f
    sum a s c d e f is later here before = omega arith

pub chosen_few : (w : Pair → Bool) (slots : Slots) (places : List ℕ) → IsStrictlyIncreasing places → count_by w (chosen slots places) ≤ count_by w (held_in slots)
chosen_few w slots places rises = few w slots places 0 (all places) (sorted_from_strictly_increasing places rises)
  where
    all : (ps : List ℕ) → AllByRecursion (λ p. 0 ≤ p) ps
    all [] = tt
    all (p ∷ ps) = (omega arith, all ps)

-- one place more of those that are looked at
pub chosen-more : (slots : Slots) (places : List ℕ) (i d : ℕ) → i < length places
    → chosen slots (take (i + 1) places) ≡ chosen slots (take i places) ++ option_to_list (slot_at slots (get_or places i d))
chosen-more slots places i d lt =
    ap (chosen slots) (take_more places i d lt) ∙ chosen-append slots (take i places) (get_or places i d ∷ [])
    ∙ ap (λ l. chosen slots (take i places) ++ l) (append-nil (option_to_list (slot_at slots (get_or places i d))))

-- all rules that match stand at the places
pub finds_all : (found : List ℕ) (slots : Slots) (places : List ℕ) (e : Envelope) (owners : Owners)
    → ((conn : ℕ) → Contains found conn ↔ Receives (chosen slots places) e owners conn)
    → ((place : ℕ) (p : Pair) → slot_at slots place ≡ Some p → Matches p.1 e owners → Contains places place)
    → (conn : ℕ) → Contains found conn ↔ Receives (held_in slots) e owners conn
finds_all found slots places e owners finds within conn = (
  λ h. (let r = (finds conn).0 h in (r.0, chosen-held slots places (conn, r.0) r.1, r.2)),
  λ r. (let at = held-place slots (conn, r.0) r.1 in (finds conn).1 (r.0, held-chosen slots places at.0 (conn, r.0) (within at.0 (conn, r.0) at.1 r.2) at.1, r.2)),
)

-- the rules before a place, the one there, and those behind
pub held-split : (slots : Slots) (i : ℕ) (p : Pair) → slot_at slots i ≡ Some p → held_in slots ≡ held_in (take i slots) ++ p ∷ held_in (drop (suc i) slots)
held-split [] i p is = absurd cc
held-split (s ∷ slots) zero p is = ap (λ o. option_to_list o ++ held_in slots) is
held-split (s ∷ slots) (suc i) p is =
    ap (λ l. option_to_list s ++ l) (held-split slots i p is)
    ∙ sym (append_assoc (option_to_list s) (held_in (take i slots)) (p ∷ held_in (drop (suc i) slots)))

-- one that is taken out
pub held-emptied : (slots : Slots) (i : ℕ) (p : Pair) → slot_at slots i ≡ Some p → held_in (set slots i None) ≡ held_in (take i slots) ++ held_in (drop (suc i) slots)
held-emptied [] i p is = absurd cc
held-emptied (s ∷ slots) zero p is = refl
held-emptied (s ∷ slots) (suc i) p is =
    ap (λ l. option_to_list s ++ l) (held-emptied slots i p is)
    ∙ sym (append_assoc (option_to_list s) (held_in (take i slots)) (held_in (drop (suc i) slots)))

pub remove-middle : {X : Type 0} (a : List X) (p : X) (b : List X) → remove (a ++ p ∷ b) (length a) ≡ a ++ b
remove-middle [] p b = refl
remove-middle (x ∷ a) p b = ap (λ l. x ∷ l) (remove-middle a p b)

get-middle : {X : Type 0} (a : List X) (p : X) (b : List X) (d : X) → get_or (a ++ p ∷ b) (length a) d ≡ p
get-middle [] p b d = refl
get-middle (x ∷ a) p b d = get-middle a p b d

take-middle : {X : Type 0} (a : List X) (p : X) (b : List X) → take (length a) (a ++ p ∷ b) ≡ a
take-middle [] p b = refl
take-middle (x ∷ a) p b = ap (λ l. x ∷ l) (take-middle a p b)

-- what stands before a place is not the rule of the connection
pub record IsPastSlot (slots : Slots) (conn : ℕ) (rule : List Condition) (i : ℕ) : Type 0 where
  pub first : ¬ Contains (held_in (take i slots)) (conn, rule)
  pub rest : without_first (held_in slots) conn rule ≡ held_in (take i slots) ++ without_first (held_in (drop i slots)) conn rule

nothing_in : (p : Pair) → ¬ Contains [] p
nothing_in p h = let a = at_from_Contains [] p h in omega (arith, a.1)

pub past-start : (slots : Slots) (conn : ℕ) (rule : List Condition) → IsPastSlot slots conn rule 0
past-start slots conn rule = record { first = nothing_in (conn, rule); rest = refl }

front-more : (slots : Slots) (i : ℕ) → i < length slots → held_in (take (i + 1) slots) ≡ held_in (take i slots) ++ option_to_list (slot_at slots i)
front-more slots i lt =
    ap held_in (take_more slots i None lt) ∙ held-append (take i slots) (slot_at slots i ∷ [])
    ∙ ap (λ l. held_in (take i slots) ++ l) (append-nil (option_to_list (slot_at slots i)))

back-less : (slots : Slots) (i : ℕ) → i < length slots → held_in (drop i slots) ≡ option_to_list (slot_at slots i) ++ held_in (drop (i + 1) slots)
back-less slots i lt = ap held_in (drop-cons slots i None lt) ∙ ap (λ n. option_to_list (slot_at slots i) ++ held_in (drop n slots)) (sym (add-one i))

pub past-empty : (slots : Slots) (conn : ℕ) (rule : List Condition) (i : ℕ) → i < length slots → slot_at slots i ≡ None → IsPastSlot slots conn rule i → IsPastSlot slots conn rule (i + 1)
past-empty slots conn rule i lt none was =
    let front : held_in (take (i + 1) slots) ≡ held_in (take i slots) =
    front-more slots i lt ∙ ap (λ o. held_in (take i slots) ++ option_to_list o) none ∙ append-nil (held_in (take i slots)) in
    let back : held_in (drop i slots) ≡ held_in (drop (i + 1) slots) = back-less slots i lt ∙ ap (λ o. option_to_list o ++ held_in (drop (i + 1) slots)) none in
    record {
      first = subst (λ l. ¬ Contains l (conn, rule)) (sym front) was.first;
      rest = was.rest ∙ ap (λ l. l ++ without_first (held_in (drop i slots)) conn rule) (sym front)
          ∙ ap (λ l. held_in (take (i + 1) slots) ++ without_first l conn rule) back;
    }

pub past-other : (slots : Slots) (conn : ℕ) (rule : List Condition) (i : ℕ) (p : Pair) → i < length slots → slot_at slots i ≡ Some p → is_pair conn rule p ≡ false → p ≢ (conn, rule)
    → IsPastSlot slots conn rule i → IsPastSlot slots conn rule (i + 1)
past-other slots conn rule i p lt is other apart was =
    let front : held_in (take (i + 1) slots) ≡ held_in (take i slots) ++ p ∷ [] = front-more slots i lt ∙ ap (λ o. held_in (take i slots) ++ option_to_list o) is in
    let back : held_in (drop i slots) ≡ p ∷ held_in (drop (i + 1) slots) = back-less slots i lt ∙ ap (λ o. option_to_list o ++ held_in (drop (i + 1) slots)) is in
    let rest = held_in (drop (i + 1) slots) in
    record {
      first = subst (λ l. ¬ Contains l (conn, rule)) (sym front) (λ h. ⊎_elim was.first apart (Contains-push_cases (held_in (take i slots)) p (conn, rule) h));
      rest = was.rest ∙ ap (λ l. held_in (take i slots) ++ without_first l conn rule) back
          ∙ ap (λ b. held_in (take i slots) ++ cond b rest (p ∷ without_first rest conn rule)) other
          ∙ sym (append_assoc (held_in (take i slots)) (p ∷ []) (without_first rest conn rule))
          ∙ ap (λ l. l ++ without_first rest conn rule) (sym front);
    }

pub past-hit : (slots : Slots) (conn : ℕ) (rule : List Condition) (i : ℕ) (p : Pair) → i < length slots → slot_at slots i ≡ Some p → is_pair conn rule p ≡ true → p ≡ (conn, rule)
    → IsPastSlot slots conn rule i → IsFirstSlot slots conn rule i
past-hit slots conn rule i p lt is hit same was =
    let a = held_in (take i slots) in
    let b = held_in (drop (suc i) slots) in
    let split : held_in slots ≡ a ++ p ∷ b = held-split slots i p is in
    let back : held_in (drop i slots) ≡ p ∷ b = back-less slots i lt ∙ ap (λ o. option_to_list o ++ held_in (drop (i + 1) slots)) is ∙ ap (λ n. p ∷ held_in (drop n slots)) (add-one i) in
    record {
      index = length a;
      is = is ∙ ap (λ (q : Pair). Some q) same;
      first = record {
        below = let l = length-append a (p ∷ b) in let e = ap length split in grows (length (held_in slots)) (length a) (length (p ∷ b)) (length b) (e ∙ l) refl;
        is = λ d. ap (λ l. get_or l (length a) d) split ∙ get-middle a p b d ∙ same;
        first = subst (λ l. ¬ Contains l (conn, rule)) (sym (ap (take (length a)) split ∙ take-middle a p b)) was.first;
        rest = was.rest ∙ ap (λ l. a ++ without_first l conn rule) back
            ∙ ap (λ t. a ++ cond t b (p ∷ without_first b conn rule)) hit
            ∙ sym (remove-middle a p b) ∙ ap (λ l. remove l (length a)) (sym split);
      };
      emptied = held-emptied slots i p is ∙ sym (remove-middle a p b) ∙ ap (λ l. remove l (length a)) (sym split);
    }
  where
    grows : (n a c b : ℕ) → n ≡ a + c → c ≡ suc b → a < n
    grows n a c b e f = omega arith

pub past-end : (slots : Slots) (conn : ℕ) (rule : List Condition) (i : ℕ) → take i slots ≡ slots → drop i slots ≡ [] → IsPastSlot slots conn rule i → IsNowhere (held_in slots) conn rule
past-end slots conn rule i all none was = record {
  none = subst (λ l. ¬ Contains (held_in l) (conn, rule)) all was.first;
  rest = was.rest ∙ ap (λ l. held_in (take i slots) ++ without_first (held_in l) conn rule) none ∙ append-nil (held_in (take i slots)) ∙ ap held_in all;
}

-- all rules of a connection are taken out, place by place
pub record IsClearing (old new : Slots) (conn i : ℕ) : Type 0 where
  pub done : take i new ≡ map (cleared conn) (take i old)
  pub left_ : drop i new ≡ drop i old
  pub len : length new ≡ length old

pub clearing-start : (old : Slots) (conn : ℕ) → IsClearing old old conn 0
clearing-start old conn = record { done = refl; left_ = refl; len = refl }

first_of_drop : (slots : Slots) (i : ℕ) → slot_at slots i ≡ slot_at (drop i slots) 0
first_of_drop slots zero = refl
first_of_drop [] (suc i) = refl
first_of_drop (s ∷ slots) (suc i) = first_of_drop slots i

next_drop : (slots : Slots) (i : ℕ) → drop (i + 1) slots ≡ drop 1 (drop i slots)
next_drop slots i = sym (drop-drop 1 i slots)

pub clearing-slot : (old new : Slots) (conn i : ℕ) → IsClearing old new conn i → slot_at new i ≡ slot_at old i
clearing-slot old new conn i was = first_of_drop new i ∙ ap (λ l. slot_at l 0) was.left_ ∙ sym (first_of_drop old i)

done-more : (old : Slots) (conn i : ℕ) → i < length old → map (cleared conn) (take (i + 1) old) ≡ map (cleared conn) (take i old) ++ cleared conn (slot_at old i) ∷ []
done-more old conn i lt = ap (map (cleared conn)) (take_more old i None lt) ∙ map-append (cleared conn) (take i old) (slot_at old i ∷ [])

pub clearing-more : (old new next : Slots) (conn i : ℕ) → i < length old → next ≡ set new i (cleared conn (slot_at new i)) → IsClearing old new conn i → IsClearing old next conn (i + 1)
clearing-more old new next conn i lt is was =
    let v : Option Pair = cleared conn (slot_at new i) in
    let lt' : i < length new = (let l = was.len in omega arith) in
    subst (λ l. IsClearing old l conn (i + 1)) (sym is) (record {
      done = take_more_set new i v lt' ∙ ap (λ l. l ++ v ∷ []) was.done
          ∙ ap (λ s. map (cleared conn) (take i old) ++ cleared conn s ∷ []) (clearing-slot old new conn i was) ∙ sym (done-more old conn i lt);
      left_ = drop-set-lt (i + 1) new i v (omega arith) ∙ next_drop new i ∙ ap (drop 1) was.left_ ∙ sym (next_drop old i);
      len = length-set new i v ∙ was.len;
    })

held-cleared : (slots : Slots) (conn : ℕ) → held_in (map (cleared conn) slots) ≡ without_rules conn (held_in slots)
held-cleared [] conn = refl
held-cleared (None ∷ slots) conn = held-cleared slots conn
held-cleared (Some p ∷ slots) conn = by (held-cleared slots conn) (p.0 == conn)
  where
    by : held_in (map (cleared conn) slots) ≡ without_rules conn (held_in slots) → (b : Bool) → option_to_list (cond b None (Some p)) ++ held_in (map (cleared conn) slots) ≡ cond (not b) (p ∷ without_rules conn (held_in slots)) (without_rules conn (held_in slots))
    by rest true = rest
    by rest false = ap (λ l. p ∷ l) rest

pub clearing-end : (old new : Slots) (conn i : ℕ) → length old ≤ i → IsClearing old new conn i → held_in new ≡ without_rules conn (held_in old)
clearing-end old new conn i past was =
    ap held_in (sym (take_all i new (let l = was.len in omega arith)) ∙ was.done ∙ ap (map (cleared conn)) (take_all i old past)) ∙ held-cleared old conn

-- a place that is not the connection's stays as it is, and one that is its is emptied
pub kept-its : (slots : Slots) (place conn : ℕ) → is_its conn (slot_at slots place) ≡ false → slots ≡ set slots place (cleared conn (slot_at slots place))
kept-its slots place conn e = sym (ap (λ b. set slots place (cond b None (slot_at slots place))) e ∙ set-get_or slots place None)

pub gone-its : (slots : Slots) (place conn : ℕ) → is_its conn (slot_at slots place) ≡ true → set slots place None ≡ set slots place (cleared conn (slot_at slots place))
gone-its slots place conn e = sym (ap (λ b. set slots place (cond b None (slot_at slots place))) e)

-- the groups after a place was emptied, and after one was filled
pub noted-emptied : (old new : RuleGroups) (slots : Slots) (place : ℕ) → place < length slots → AreNoted old slots
    → ((other : List Condition) (q : ℕ) → q ≢ place → IsNoted old other q → IsNoted new other q) → AreNoted new (set slots place None)
noted-emptied old new slots place lt was kept q pair is = elim (cases_eq q place) [
  | inl same ↦ absurd (none (sym (ap (slot_at (set slots place None)) same ∙ get_or-set_same slots place None None lt) ∙ is))
  | inr ne ↦ kept pair.1 q ne (was q pair (sym (get_or-set_other slots place q None None ne) ∙ is))
]
  where
    none : None ≡ Some pair → ⊥
    none e = cc

filled_cases : (slots : Slots) (p pair : Pair) (q : ℕ) → slot_at (slots ++ Some p ∷ []) q ≡ Some pair → (slot_at slots q ≡ Some pair) ⊎ ((q ≡ length slots) × (p ≡ pair))
filled_cases [] p pair zero is = inr (refl, cc)
filled_cases [] p pair (suc q) is = absurd cc
filled_cases (s ∷ slots) p pair zero is = inl is
filled_cases (s ∷ slots) p pair (suc q) is = ⊎_elim inl (λ h. inr (ap suc h.0, h.1)) (filled_cases slots p pair q is)

pub noted-filled : (old new : RuleGroups) (slots : Slots) (p : Pair) → AreNoted old slots → ((rule : List Condition) (q : ℕ) → IsNoted old rule q → IsNoted new rule q)
    → IsNoted new p.1 (length slots) → AreNoted new (slots ++ Some p ∷ [])
noted-filled old new slots p was kept noted q pair is =
    ⊎_elim (λ h. kept pair.1 q (was q pair h))
    (λ h. subst (λ k. IsNoted new pair.1 k) (sym h.0) (subst (λ (r : Pair). IsNoted new r.1 (length slots)) h.1 noted))
    (filled_cases slots p pair q is)

-- the place is one of them
pub slot_below : (slots : Slots) (place : ℕ) (p : Pair) → slot_at slots place ≡ Some p → place < length slots
slot_below [] place p is = absurd (nowhere is)
  where
    nowhere : None ≡ Some p → ⊥
    nowhere e = cc
slot_below (s ∷ slots) zero p is = omega arith
slot_below (s ∷ slots) (suc place) p is = let l = slot_below slots place p is in omega arith

-- one place more that is not the rule, and the first that is
pub past-next : (slots : Slots) (conn : ℕ) (rule : List Condition) (i : ℕ) → i < length slots → is_this conn rule (slot_at slots i) ≡ false
    → (slot_at slots i ≡ Some (conn, rule) → ⊥) → IsPastSlot slots conn rule i → IsPastSlot slots conn rule (i + 1)
past-next slots conn rule i lt other ne was = by (slot_at slots i) refl other
  where
    by : (o : Option Pair) → slot_at slots i ≡ o → is_this conn rule o ≡ false → IsPastSlot slots conn rule (i + 1)
    by None is e = past-empty slots conn rule i lt is was
    by (Some p) is e = past-other slots conn rule i p lt is e (λ same. ne (is ∙ ap (λ (q : Pair). Some q) same)) was

pub past-found : (slots : Slots) (conn : ℕ) (rule : List Condition) (i : ℕ) → i < length slots → is_this conn rule (slot_at slots i) ≡ true
    → slot_at slots i ≡ Some (conn, rule) → IsPastSlot slots conn rule i → IsFirstSlot slots conn rule i
past-found slots conn rule i lt hit is was =
    past-hit slots conn rule i (conn, rule) lt is (subst (λ o. is_this conn rule o ≡ true) is hit) refl was

-- who hears of one rule, and of none
one_pair : (p q : Pair) → Contains (p ∷ []) q → p ≡ q
one_pair p q h =
    let a = at_from_Contains (p ∷ []) q h in
    let at : a.0 ≡ 0 = omega (arith, a.1) in
    subst (λ k. get_or (p ∷ []) k p ≡ q) at (a.2 p)

pub hears_nobody : (e : Envelope) (owners : Owners) → Hears None [] e owners
hears_nobody e owners = record { each = λ conn. (λ is. absurd (nobody conn is), λ r. absurd (nothing_in (conn, r.0) r.1)) }
  where
    nobody : (conn : ℕ) → None ≡ Some conn → ⊥
    nobody conn is = cc

pub hears_it : (p : Pair) (e : Envelope) (owners : Owners) → Matches p.1 e owners → Hears (Some p.0) (p ∷ []) e owners
hears_it p e owners m = record {
  each = λ conn. (
    λ is. (p.1, subst (λ c. Contains (p ∷ []) (c, p.1)) (same conn is) (Contains-push [] p), m),
    λ r. ap (λ (q : Pair). Some q.0) (one_pair p (conn, r.0) r.1),
  );
}
  where
    same : (conn : ℕ) → Some p.0 ≡ Some conn → p.0 ≡ conn
    same conn is = cc

pub hears_not : (p : Pair) (e : Envelope) (owners : Owners) → (Matches p.1 e owners → ⊥) → Hears None (p ∷ []) e owners
hears_not p e owners other = record {
  each = λ conn. (
    λ is. absurd (nobody conn is),
    λ r. absurd (other (subst (λ (q : Pair). Matches q.1 e owners) (sym (one_pair p (conn, r.0) r.1)) r.2)),
  );
}
  where
    nobody : (conn : ℕ) → None ≡ Some conn → ⊥
    nobody conn is = cc

pub finds_nobody : (e : Envelope) (owners : Owners) → Finds [] [] e owners
finds_nobody e owners conn = (λ h. absurd (let a = at_from_Contains [] conn h in omega (arith, a.1)), λ r. absurd (nothing_in (conn, r.0) r.1))

-- the connections found so far, and those that some rules more have receive
pub finds_heard : (found new : List ℕ) (heard : Option ℕ) (pairs more : List Pair) (e : Envelope) (owners : Owners) → Finds found pairs e owners
    → Hears heard more e owners → new ≡ found ++ option_to_list heard → Finds new (pairs ++ more) e owners
finds_heard found new heard pairs more e owners so_far hears is = subst (λ l. Finds l (pairs ++ more) e owners) (sym is) all
  where
    old : (conn : ℕ) → Receives pairs e owners conn → Receives (pairs ++ more) e owners conn
    old conn r = (r.0, Contains-append_left pairs more (conn, r.0) r.1, r.2)

    anew : (conn : ℕ) → Receives more e owners conn → Receives (pairs ++ more) e owners conn
    anew conn r = (r.0, Contains-append_right pairs more (conn, r.0) r.1, r.2)

    at : (o : Option ℕ) (conn : ℕ) → Contains (option_to_list o) conn → o ≡ Some conn
    at None conn h = absurd (let a = at_from_Contains [] conn h in omega (arith, a.1))
    at (Some k) conn h =
        let a = at_from_Contains (k ∷ []) conn h in
        let zero_ : a.0 ≡ 0 = omega (arith, a.1) in
        ap (λ (n : ℕ). Some n) (subst (λ i. get_or (k ∷ []) i k ≡ conn) zero_ (a.2 k))

    there : (o : Option ℕ) (conn : ℕ) → o ≡ Some conn → Contains (option_to_list o) conn
    there o conn h = subst (λ p. Contains (option_to_list p) conn) (sym h) (Contains-push [] conn)

    all : Finds (found ++ option_to_list heard) (pairs ++ more) e owners
    all conn = (
      λ h. ⊎_elim (λ was. old conn ((so_far conn).0 was)) (λ new_. anew conn ((hears.each conn).0 (at heard conn new_)))
          (Contains-append_cases found (option_to_list heard) conn h),
      λ r. ⊎_elim (λ was. Contains-append_left found (option_to_list heard) conn ((so_far conn).1 (r.0, was, r.2)))
          (λ new_. Contains-append_right found (option_to_list heard) conn (there heard conn ((hears.each conn).1 (r.0, new_, r.2))))
          (Contains-append_cases pairs more (conn, r.0) r.1),
    )

-- of the rules at the first places no more pass a test than of all
pub chosen_front : (w : Pair → Bool) (slots : Slots) (places : List ℕ) (j : ℕ) → count_by w (chosen slots (take j places)) ≤ count_by w (chosen slots places)
chosen_front w slots places j =
    let e = ap (chosen slots) (sym (take-append-drop j places)) ∙ chosen-append slots (take j places) (drop j places) in
    let l = ap (count_by w) e ∙ count-append w (chosen slots (take j places)) (chosen slots (drop j places)) in
    at_most _ _ _ l
  where
    at_most : (a b c : ℕ) → a ≡ b + c → b ≤ a
    at_most a b c e = omega arith

-- the rules up to a place, with the one there
pub held-more : (slots : Slots) (i : ℕ) (slot : Option Pair) → i < length slots → slot ≡ get_or slots i slot → held_in (take (i + 1) slots) ≡ held_in (take i slots) ++ option_to_list slot
held-more slots i slot lt is =
    ap held_in (take_more slots i slot lt) ∙ ap (λ s. held_in (take i slots ++ s ∷ [])) (sym is) ∙ held-append (take i slots) (slot ∷ [])
    ∙ ap (λ l. held_in (take i slots) ++ l) (append-nil (option_to_list slot))

pub held-front : (slots : Slots) (i : ℕ) → held_in slots ≡ held_in (take i slots) ++ held_in (drop i slots)
held-front slots i = ap held_in (sym (take-append-drop i slots)) ∙ held-append (take i slots) (drop i slots)
