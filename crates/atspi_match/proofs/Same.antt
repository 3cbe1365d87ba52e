-- Rules of the same conditions are equal: a condition can be told from the place of its key and the bytes of its value.
use Rattle.std.proofs.Common.{◌≡◌, ◌-◌, ◌+◌, ℕ, Bool, true, false, ◌&&◌, eqb, ltb, List, [], ◌∷◌, refl, sym, ap, ◌∙◌, arith, if◌then◌else◌}
use Rattle.std.specs.Prelude.{codes, chars, bytes_eq}
use Rattle.std.specs.List.{AllByRecursion}
use Rattle.std.proofs.lemmas.Bool.{false≢true}
use Rattle.std.proofs.lemmas.Bool.Decides.{Decides-eqb, nat_tests}
use Rattle.std.proofs.lemmas.Slice.Eq.{bytes_eq-Decides}
use Rattle.std.proofs.lemmas.Cmp.{nat_eq_equiv, nat_list_eq_equiv, on_equiv, and_equiv, lists_equiv}
use Rattle.atspi_match.specs.declared.condition.MessageType.{MessageType}
use Rattle.atspi_match.specs.declared.condition.MessageType.TheVariants.{Signal, MethodCall, MethodReturn, Error}
use Rattle.atspi_match.specs.declared.condition.Condition.{Condition}
use Rattle.atspi_match.specs.declared.condition.Condition.TheVariants.{Kind, Sender, Interface, Member, Path, PathNamespace, Destination, Arg, ArgPath, Arg0Namespace, Eavesdrop}
use Rattle.atspi_match.specs.Conditions.{rank, value_text, IsCondition, IsRule}
use Rattle.atspi_match.specs.Conditions.{same_condition, same_rule}

-- the type of a name
abbrev type_of : List ℕ → MessageType
type_of v =
    if bytes_eq v (codes "signal") then Signal
    else if bytes_eq v (codes "method_call") then MethodCall
    else if bytes_eq v (codes "method_return") then MethodReturn else Error

-- the condition of one of the first keys
abbrev first_of : ℕ → List ℕ → Condition
first_of r v =
    if eqb r 0 then Kind (type_of v)
    else if eqb r 1 then Sender v
    else if eqb r 2 then Interface v
    else if eqb r 3 then Member v
    else if eqb r 4 then Path v
    else if eqb r 5 then PathNamespace v else Destination v

-- the condition of a key and a value
abbrev condition_of : ℕ → List ℕ → Condition
condition_of r v =
    if ltb r 7 then first_of r v
    else if ltb r 71 then Arg (r - 7) (chars v)
    else if ltb r 135 then ArgPath (r - 71) (chars v)
    else if eqb r 135 then Arg0Namespace (chars v) else Eavesdrop (bytes_eq v (codes "true"))

condition_is : (c : Condition) → IsCondition c → condition_of (rank c) (value_text c) ≡ c
condition_is (Kind Signal) is = refl
condition_is (Kind MethodCall) is = refl
condition_is (Kind MethodReturn) is = refl
condition_is (Kind Error) is = refl
condition_is (Sender name) is = refl
condition_is (Interface name) is = refl
condition_is (Member name) is = refl
condition_is (Path path) is = refl
condition_is (PathNamespace path) is = refl
condition_is (Destination name) is = refl
condition_is (Arg n text) is =
    let a : ltb (7 + n) 7 ≡ false = grind (arith, nat_tests) in
    let b : ltb (7 + n) 71 ≡ true = grind (arith, nat_tests, is.0) in
    let d : 7 + n - 7 ≡ n = omega arith in
    rw (a, b, d) (ap (Arg n) is.1.spelled)
condition_is (ArgPath n text) is =
    let a : ltb (71 + n) 7 ≡ false = grind (arith, nat_tests) in
    let b : ltb (71 + n) 71 ≡ false = grind (arith, nat_tests) in
    let e : ltb (71 + n) 135 ≡ true = grind (arith, nat_tests, is.0) in
    let d : 71 + n - 71 ≡ n = omega arith in
    rw (a, b, e, d) (ap (ArgPath n) is.1.spelled)
condition_is (Arg0Namespace text) is = ap Arg0Namespace is.0.spelled
condition_is (Eavesdrop true) is = refl
condition_is (Eavesdrop false) is = refl

both_true : (a b : Bool) → (a && b) ≡ true → (a ≡ true) × (b ≡ true)
both_true true b e = (refl, e)
both_true false b e = absurd (false≢true e)

-- conditions of the same key and value are equal
same_condition-is : (c d : Condition) → IsCondition c → IsCondition d → same_condition c d ≡ true → c ≡ d
same_condition-is c d is_c is_d e =
    let both = both_true (eqb (rank c) (rank d)) (bytes_eq (value_text c) (value_text d)) e in
    let ranks = (Decides-eqb (rank c) (rank d)).0 both.0 in
    let values = (bytes_eq-Decides (value_text c) (value_text d)).0 both.1 in
    sym (condition_is c is_c) ∙ ap (λ r. condition_of r (value_text c)) ranks ∙ ap (condition_of (rank d)) values ∙ condition_is d is_d

same_rule-is : (a b : List Condition) → AllByRecursion IsCondition a → AllByRecursion IsCondition b → same_rule a b ≡ true → a ≡ b
same_rule-is [] [] is_a is_b e = refl
same_rule-is [] (d ∷ b) is_a is_b e = absurd (false≢true e)
same_rule-is (c ∷ a) [] is_a is_b e = absurd (false≢true e)
same_rule-is (c ∷ a) (d ∷ b) is_a is_b e =
    let both = both_true (same_condition c d) (same_rule a b) e in
    ap (λ x. x ∷ a) (same_condition-is c d is_a.0 is_b.0 both.0) ∙ ap (λ xs. d ∷ xs) (same_rule-is a b is_a.1 is_b.1 both.1)

-- a rule is the same as itself
same_rule-refl : (a : List Condition) → same_rule a a ≡ true
same_rule-refl = (lists_equiv (and_equiv (on_equiv rank nat_eq_equiv) (on_equiv value_text nat_list_eq_equiv))).refl

-- the test tells equal rules
pub same_rule-decides : (a b : List Condition) (r : Bool) → IsRule a → IsRule b → r ≡ same_rule a b → (r ≡ true → a ≡ b) × (a ≡ b → r ≡ true)
same_rule-decides a b r is_a is_b e =
    (λ t. same_rule-is a b is_a.each is_b.each (sym e ∙ t), λ same. e ∙ ap (same_rule a) (sym same) ∙ same_rule-refl a)
