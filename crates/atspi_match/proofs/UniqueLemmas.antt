-- A text is that of one rule, and has one first fault.
use Rattle.std.proofs.Common.{◌≡◌, ℕ, zero, suc, ◌+◌, ◌<◌, ◌≤◌, List, [], ◌∷◌, ◌++◌, length, refl, sym, ap, subst, ◌∙◌, arith, append-nil, ◌⊎◌, inl, inr, Result, Ok, Err}
use Rattle.std.specs.Prelude.{Contains, slice_index_or, IfOk}
use Rattle.std.specs.List.{AllByRecursion}
use Rattle.std.specs.List.Sorted.{IsPermutation}
use Rattle.std.proofs.lemmas.List.Sorted.{IsPermutation-sym, IsPermutation-trans, Contains-permutation}
use Rattle.atspi_types.specs.SignatureFaults.{Before}
use Rattle.atspi_match.specs.Conditions.{rank, IsCondition, AreRising, IsRule}
use Rattle.atspi_match.specs.Grammar.{Item, item_text, IsItem, with_commas, AreJoined, Say, SayRule, Spells, IsRuleText}
use Rattle.atspi_match.specs.RuleFaults.{FirstRuleFault, WrongRule}
use Rattle.atspi_match.specs.Parsing.{TellsFirst, IsThisRule, IsThisFault}
use Rattle.atspi_match.specs.declared.condition.Condition.{Condition}
use Rattle.atspi_match.specs.declared.fault.RuleRead.{RuleRead}
use Rattle.atspi_match.specs.declared.fault.RuleRead.TheVariants.{Bad, NoMemory}
use Rattle.atspi_match.proofs.KeyLemmas.{same_condition}
use Rattle.atspi_match.proofs.RuleLemmas.{Order, ahead, behind, order_of, cons_text, two_at_least, said_each, no_wrong}

same_whole : (is js : List Item) → AllByRecursion IsItem is → AllByRecursion IsItem js → with_commas is ≡ with_commas js → is ≡ js
same_whole is js h k e = by (order_of is js [] [] h k (append-nil (with_commas is) ∙ e ∙ sym (append-nil (with_commas js))))
  where
    more_is : (more : List Item) → [] ≡ with_commas more ++ [] → js ≡ is ++ more → is ≡ js
    more_is [] e a = sym (a ∙ append-nil is)
    more_is (m ∷ ms) e a = absurd (omega (arith, ap length (e ∙ cons_text m ms []), two_at_least m (with_commas ms ++ [])))

    by : Order is js [] [] → is ≡ js
    by (ahead more a b) = more_is more b a
    by (behind j more a b) = absurd (omega (arith, ap length b, two_at_least j (with_commas more ++ [])))

no_comma_more : (is js : List Item) → AllByRecursion IsItem is → AllByRecursion IsItem js → with_commas js ≡ with_commas is ++ 44 ∷ [] → ⊥
no_comma_more is js h k e = by (order_of is js (44 ∷ []) [] h k (sym e ∙ sym (append-nil (with_commas js))))
  where
    more_is : (more : List Item) → 44 ∷ [] ≡ with_commas more ++ [] → ⊥
    more_is [] e = omega (arith, ap length e)
    more_is (m ∷ ms) e = omega (arith, ap length (e ∙ cons_text m ms []), two_at_least m (with_commas ms ++ []))

    by : Order is js (44 ∷ []) [] → ⊥
    by (ahead more a b) = more_is more b
    by (behind j more a b) = omega (arith, ap length b, two_at_least j (with_commas more ++ 44 ∷ []))

same_items : (bytes : List ℕ) (is js : List Item) → AllByRecursion IsItem is → AllByRecursion IsItem js → AreJoined is bytes → AreJoined js bytes → is ≡ js
same_items bytes is js h k (inl a) (inl b) = same_whole is js h k (a ∙ sym b)
same_items bytes is js h k (inl a) (inr b) = absurd (no_comma_more is js h k (b ∙ ap (λ l. l ++ 44 ∷ []) (sym a)))
same_items bytes is js h k (inr a) (inl b) = absurd (no_comma_more js is k h (a ∙ ap (λ l. l ++ 44 ∷ []) (sym b)))
same_items bytes is js h k (inr a) (inr b) = same_whole is js h k (a ∙ sym b)

same_said : (is : List Item) (cs ds : List Condition) → Say is cs → Say is ds → AllByRecursion IsCondition cs → AllByRecursion IsCondition ds → cs ≡ ds
same_said [] [] [] h k m n = refl
same_said [] [] (d ∷ ds) h k m n = absurd k
same_said [] (c ∷ cs) ds h k m n = absurd h
same_said (i ∷ is) [] ds h k m n = absurd h
same_said (i ∷ is) (c ∷ cs) [] h k m n = absurd k
same_said (i ∷ is) (c ∷ cs) (d ∷ ds) h k m n =
    let first : c ≡ d = same_condition c d m.0 n.0 (sym h.0.0 ∙ k.0.0) (sym h.0.1 ∙ k.0.1) in
    let rest : cs ≡ ds = same_said is cs ds h.1 k.1 m.1 n.1 in
    cc

-- rising lists with the same members
contains_cons : (x y : Condition) (ys : List Condition) → Contains (y ∷ ys) x → (y ≡ x) ⊎ Contains ys x
contains_cons x y ys (zero, lt, e) = inl e
contains_cons x y ys (suc k, lt, e) = inr (k, omega (arith, lt), e)

contains_tail : (x y : Condition) (ys : List Condition) → Contains ys x → Contains (y ∷ ys) x
contains_tail x y ys (k, lt, e) = (suc k, omega (arith, lt), e)

contains_head : (x : Condition) (xs : List Condition) → Contains (x ∷ xs) x
contains_head x xs = (0, omega arith, refl)

no_member : (x : Condition) → Contains [] x → ⊥
no_member x (k, lt, e) = omega (arith, lt)

all_contains : (P : Condition → Type 0) (xs : List Condition) (x : Condition) → AllByRecursion P xs → Contains xs x → P x
all_contains P [] x h c = absurd (no_member x c)
all_contains P (y ∷ ys) x h c = by (all_contains P ys x h.1) (contains_cons x y ys c)
  where
    by : (Contains ys x → P x) → (y ≡ x) ⊎ Contains ys x → P x
    by rest (inl e) = subst P e h.0
    by rest (inr later) = rest later

rising_unique : (xs ys : List Condition) → AreRising xs → AreRising ys → ((x : Condition) → Contains xs x → Contains ys x) → ((x : Condition) → Contains ys x → Contains xs x) → xs ≡ ys
rising_unique [] [] h k f g = refl
rising_unique [] (y ∷ ys) h k f g = absurd (no_member y (g y (contains_head y ys)))
rising_unique (x ∷ xs) [] h k f g = absurd (no_member x (f x (contains_head x xs)))
rising_unique (x ∷ xs) (y ∷ ys) h k f g =
    let rest : xs ≡ ys = rising_unique xs ys h.1 k.1 to from in
    cc (same)
  where
    heads : (y ≡ x) ⊎ Contains ys x → (x ≡ y) ⊎ Contains xs y → x ≡ y
    heads (inl e) other = sym e
    heads (inr later) (inl e) = e
    heads (inr later) (inr more) =
        let one : rank y < rank x = all_contains (λ d. rank y < rank d) ys x k.0 later in
        let two : rank x < rank y = all_contains (λ d. rank x < rank d) xs y h.0 more in
        absurd (omega (arith, one, two))

    same : x ≡ y
    same = heads (contains_cons x y ys (f x (contains_head x xs))) (contains_cons y x xs (g y (contains_head y ys)))

    to_by : (z : Condition) → Contains xs z → (y ≡ z) ⊎ Contains ys z → Contains ys z
    to_by z c (inl e) = let lt : rank x < rank z = all_contains (λ d. rank x < rank d) xs z h.0 c in absurd (omega (arith, lt, ap rank (same ∙ e)))
    to_by z c (inr later) = later

    to : (z : Condition) → Contains xs z → Contains ys z
    to z c = to_by z c (contains_cons z y ys (f z (contains_tail z x xs c)))

    from_by : (z : Condition) → Contains ys z → (x ≡ z) ⊎ Contains xs z → Contains xs z
    from_by z c (inl e) = let lt : rank y < rank z = all_contains (λ d. rank y < rank d) ys z k.0 c in absurd (omega (arith, lt, ap rank (sym same ∙ e)))
    from_by z c (inr later) = later

    from : (z : Condition) → Contains ys z → Contains xs z
    from z c = from_by z c (contains_cons z x xs (g z (contains_tail z y ys c)))

pub same_rule : (bytes : List ℕ) (a b : List Condition) → IsRuleText bytes a → IsRuleText bytes b → a ≡ b
same_rule bytes a b h k =
    let s : SayRule h.spells.items a = h.spells.say_rule in
    let t : SayRule k.spells.items b = k.spells.say_rule in
    let items : h.spells.items ≡ k.spells.items = same_items bytes h.spells.items k.spells.items s.each t.each h.spells.joined k.spells.joined in
    let said : s.conditions ≡ t.conditions =
    same_said k.spells.items s.conditions t.conditions (subst (λ l. Say l s.conditions) items s.say) t.say (said_each s.conditions a s.order s.is_rule) (said_each t.conditions b t.order t.is_rule) in
    let order : IsPermutation s.conditions b = subst (λ l. IsPermutation l b) (sym said) t.order in
    let between : IsPermutation a b = IsPermutation-trans a s.conditions b (IsPermutation-sym s.conditions a s.order) order in
    rising_unique a b s.is_rule.rising t.is_rule.rising (λ x c. Contains-permutation a b x between c) (λ x c. Contains-permutation b a x (IsPermutation-sym a b between) c)

-- what is spelled is read
pub only : (bytes : List ℕ) (r : Result (List Condition) RuleRead) → IfOk r (λ rule. IsRuleText bytes rule) → TellsFirst r bytes → (rule : List Condition) → IsRuleText bytes rule → IsThisRule r rule
only bytes (Ok read) h f rule k = same_rule bytes read rule h k
only bytes (Err (Bad fault)) h f rule k = no_wrong bytes rule k fault.place fault.reason f.there
only bytes (Err NoMemory) h f rule k = tt

least : (p r q s : ℕ) → Before p r q s → Before q s p r → (p ≡ q) × (r ≡ s)
least p r q s (inl a) (inl b) = absurd (omega (arith, a, b))
least p r q s (inl a) (inr b) = absurd (omega (arith, a, b.0))
least p r q s (inr a) (inl b) = absurd (omega (arith, a.0, b))
least p r q s (inr a) (inr b) = (a.0, omega (arith, a.1, b.1))

-- what is wrong first is told
pub told : (bytes : List ℕ) (r : Result (List Condition) RuleRead) → IfOk r (λ rule. IsRuleText bytes rule) → TellsFirst r bytes → (place reason : ℕ) → FirstRuleFault bytes place reason → IsThisFault r place reason
told bytes (Ok read) h f place reason k = no_wrong bytes read h place reason k.there
told bytes (Err (Bad fault)) h f place reason k = least fault.place fault.reason place reason (f.first place reason k.there) (k.first fault.place fault.reason f.there)
told bytes (Err NoMemory) h f place reason k = tt
