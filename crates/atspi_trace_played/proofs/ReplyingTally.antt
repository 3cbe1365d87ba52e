-- HOW MANY: replies and calls on links, open calls of the bus, and what the bus hands to a connection.
use Rattle.std.proofs.Common.{◌≡◌, ◌⊎◌, inl, inr, ℕ, ◌+◌, ◌≤◌, Bool, true, false, List, [], ◌∷◌, ◌++◌, map, Option, Some, refl, sym, ap, ap₂, ◌∙◌, subst, arith}
use Rattle.std.specs.Prelude.{◌==◌, ◌&&◌, bytes_eq, flat_map, if◌then◌else◌}
use Rattle.std.specs.List.{AllByRecursion, fold}
use Rattle.std.proofs.lemmas.Bool.{eqb-true, eq-eqb}
use Rattle.atspi_message.specs.Envelope.{Envelope}
use Rattle.atspi_match.specs.routing.BusState.{OpenCall, BusState}
use Rattle.atspi_match.specs.routing.OwnMessages.{numbered}
use Rattle.atspi_match.specs.routing.Queues as queues
use Rattle.atspi_match.specs.routing.Queues.{Waiting}
use Rattle.atspi_match.specs.routing.Routing.{is_reply, expects_reply, without_answered}
use Rattle.atspi_match.specs.routing.Steps.{Move, says, delivers, closes, BusStep, handed}
use Rattle.atspi_protocol.specs.following.Replied.{is_reply_to}
use Rattle.atspi_trace.specs.World.{Asked, Said, Letter, End}
use Rattle.atspi_trace.specs.Ends.{end_at, with_end, put_down}
use Rattle.atspi_trace.specs.Carrying.{Carried, Filled, grew, with_letter, moved, stepped}
use Rattle.atspi_trace.specs.Hearing.{is_answered}
use Rattle.atspi_trace_laws.proofs.OfOrder.Parties.{false_true}
use Rattle.atspi_trace_laws.proofs.OfOrder.Frame.{with_cases}

abbrev pub one_if : Bool → ℕ
one_if true = 1
one_if false = 0

abbrev pub tally : {X : Type 0} → (X → Bool) → List X → ℕ
tally p [] = 0
tally p (x ∷ xs) = one_if (p x) + tally p xs

pub tally_append : {X : Type 0} (p : X → Bool) (xs ys : List X) → tally p (xs ++ ys) ≡ tally p xs + tally p ys
tally_append p [] ys = omega arith
tally_append p (x ∷ xs) ys = let h = tally_append p xs ys in omega (arith, h)

pub one_most : (b : Bool) → one_if b ≤ 1
one_most true = omega arith
one_most false = omega arith

pub none_in : {X : Type 0} (p : X → Bool) (xs : List X) → AllByRecursion (λ x. p x ≡ false) xs → tally p xs ≡ 0
none_in p [] a = refl
none_in p (x ∷ xs) a = let h = none_in p xs a.1 in let g : one_if (p x) ≡ 0 = ap one_if a.0 in omega (arith, h, g)

pub and_false : (a b : Bool) → b ≡ false → (a && b) ≡ false
and_false true b h = h
and_false false b h = refl

-- MESSAGES: a reply to a call with this serial, a call with it
abbrev pub replies_to : ℕ → Envelope → Bool
replies_to n m = is_reply m && is_reply_to n m.reply

abbrev pub calls_as : ℕ → Envelope → Bool
calls_as n m = expects_reply m && (m.serial == n)

abbrev pub is_name : Option (List ℕ) → Option (List ℕ) → Bool
is_name (Some a) (Some b) = bytes_eq a b
is_name a b = false

abbrev pub calls_from : Option (List ℕ) → ℕ → Envelope → Bool
calls_from u n m = calls_as n m && is_name m.sender u

abbrev pub replies_for : Option (List ℕ) → ℕ → Envelope → Bool
replies_for u n m = replies_to n m && is_name m.destination u

-- on links
abbrev pub in_letter : (Envelope → Bool) → Letter → Bool
in_letter p l = p l.said.message

abbrev pub in_said : (Envelope → Bool) → Said → Bool
in_said p s = p s.message

-- OPEN CALLS of a connection with a serial, and those that one is to answer
abbrev pub opens : ℕ → ℕ → OpenCall → Bool
opens k n c = (c.caller == k) && (c.serial == n)

abbrev pub opens_at : ℕ → ℕ → ℕ → OpenCall → Bool
opens_at k n x c = opens k n c && (c.callee == x)

-- own calls that were answered
abbrev pub answered : ℕ → Asked → Bool
answered n a = (a.serial == n) && is_answered a

-- WHAT IS HANDED to a connection
abbrev pub given : (Envelope → Bool) → ℕ → List Move → ℕ
given p k [] = 0
given p k (delivers c m ∷ moves) = one_if ((c == k) && p m) + given p k moves
given p k (says m ∷ moves) = given p k moves
given p k (closes c ∷ moves) = given p k moves

pub given_append : (p : Envelope → Bool) (k : ℕ) (a b : List Move) → given p k (a ++ b) ≡ given p k a + given p k b
given_append p k [] b = omega arith
given_append p k (delivers c m ∷ a) b = let h = given_append p k a b in omega (arith, h)
given_append p k (says m ∷ a) b = given_append p k a b
given_append p k (closes c ∷ a) b = given_append p k a b

pub given_none : (p : Envelope → Bool) (k : ℕ) (m : Envelope) (conns : List ℕ) → p m ≡ false → given p k (map (λ c. delivers c m) conns) ≡ 0
given_none p k m [] h = refl
given_none p k m (c ∷ cs) h = let g = given_none p k m cs h in let z : one_if ((c == k) && p m) ≡ 0 = ap one_if (and_false (c == k) (p m) h) in omega (arith, g, z)

-- messages of the bus's own, whatever their numbers
pub said_none : (p : Envelope → Bool) (k : ℕ) (t : BusState) (at : ℕ) (es : List Envelope) → AllByRecursion (λ (m : Envelope). (n : ℕ) → p (record m { serial = n }) ≡ false) es
    → given p k (flat_map (λ e. says e ∷ handed t e) (numbered at es)) ≡ 0
said_none p k t at [] a = refl
said_none p k t at (e ∷ es) a =
    let m : Envelope = record e { serial = at } in
    sums (given p k (handed t m ++ flat_map (λ x. says x ∷ handed t x) (numbered (at + 1) es))) (given p k (handed t m)) (given p k (flat_map (λ x. says x ∷ handed t x) (numbered (at + 1) es)))
    (given_append p k (handed t m) (flat_map (λ x. says x ∷ handed t x) (numbered (at + 1) es))) (given_none p k m _ (a.0 at)) (said_none p k t (at + 1) es a.1)
  where
    sums : (x a b : ℕ) → x ≡ a + b → a ≡ 0 → b ≡ 0 → x ≡ 0
    sums x a b h f g = omega (arith, h, f, g)

-- ONE END, while things are handed on
pub record Grew (k : ℕ) (moves : List Move) (e d : End) : Type 0 where
  pub whose : d.who ≡ e.who
  pub standing : d.standing ≡ e.standing
  pub role : d.role ≡ e.role
  pub up : d.up ≡ e.up
  pub unique : d.unique ≡ e.unique
  pub down : (p : Envelope → Bool) → tally (in_letter p) d.down ≤ tally (in_letter p) e.down + given p k moves

same_grew : (k : ℕ) (moves : List Move) (e : End) → Grew k moves e e
same_grew k moves e = record { whose = refl; standing = refl; role = refl; up = refl; unique = refl; down = λ p. more (tally (in_letter p) e.down) (given p k moves) }
  where
    more : (a b : ℕ) → a ≤ a + b
    more a b = omega arith

module _ (letter : Envelope → Letter) (plain : (m : Envelope) → (letter m).said.message ≡ m) where
  one_grew : (move : Move) (b a : Waiting) (ends : List End) (k : ℕ) (d : End) → end_at (with_letter letter b a move ends) k ≡ Some d → (e : End) × (end_at ends k ≡ Some e) × Grew k (move ∷ []) e d
  one_grew (says m) b a ends k d there = (d, there, same_grew k (says m ∷ []) d)
  one_grew (closes c) b a ends k d there = (d, there, same_grew k (closes c ∷ []) d)
  one_grew (delivers conn m) b a ends k d there = by (grew conn b a) there
    where
      put : (e x : End) → conn ≡ k → x ≡ put_down (letter m) e → Grew k (delivers conn m ∷ []) e x
      put e x at is = record {
        whose = ap (λ (y : End). y.who) is;
        standing = ap (λ (y : End). y.standing) is;
        role = ap (λ (y : End). y.role) is;
        up = ap (λ (y : End). y.up) is;
        unique = ap (λ (y : End). y.unique) is;
        down = λ p.
            let all : tally (in_letter p) x.down ≡ tally (in_letter p) e.down + (one_if (p (letter m).said.message) + 0) = ap (λ (y : End). tally (in_letter p) y.down) is ∙ tally_append (in_letter p) e.down (letter m ∷ []) in
            let its : one_if (p (letter m).said.message) ≡ one_if ((conn == k) && p m) = ap (λ z. one_if (p z)) (plain m) ∙ ap (λ c. one_if (c && p m)) (sym (eq-eqb conn k at)) in
            sums (tally (in_letter p) x.down) (tally (in_letter p) e.down) (one_if (p (letter m).said.message)) (one_if ((conn == k) && p m)) all its;
      }
        where
          sums : (x a b c : ℕ) → x ≡ a + (b + 0) → b ≡ c → x ≤ a + (c + 0)
          sums x a b c h g = omega (arith, h, g)

      by : (t : Bool) → end_at (if t then with_end conn (put_down (letter m)) ends else ends) k ≡ Some d → (e : End) × (end_at ends k ≡ Some e) × Grew k (delivers conn m ∷ []) e d
      by false there = (d, there, same_grew k (delivers conn m ∷ []) d)
      by true there = let y = with_cases (put_down (letter m)) ends conn k d there in (y.0, y.1, at y.0 y.2)
        where
          at : (e : End) → (((k ≡ conn) × (d ≡ put_down (letter m) e)) ⊎ ((k ≡ conn → ⊥) × (d ≡ e))) → Grew k (delivers conn m ∷ []) e d
          at e (inl h) = put e d (sym h.0) h.1
          at e (inr h) = subst (Grew k (delivers conn m ∷ []) e) (sym h.1) (same_grew k (delivers conn m ∷ []) e)

  folded_grew : (quota : ℕ) (f : Filled) (moves : List Move) (k : ℕ) (d : End) → end_at (fold (moved letter quota) f moves).ends k ≡ Some d → (e : End) × (end_at f.ends k ≡ Some e) × Grew k moves e d
  folded_grew quota f [] k d there = (d, there, same_grew k [] d)
  folded_grew quota f (move ∷ moves) k d there =
      let x = folded_grew quota (moved letter quota f move) moves k d there in
      let y = one_grew move f.waiting (queues.moved quota f.waiting move) f.ends k x.0 x.1 in
      (y.0, y.1, both y.0 x.0 y.2 x.2)
    where
      both : (e z : End) → Grew k (move ∷ []) e z → Grew k moves z d → Grew k (move ∷ moves) e d
      both e z a b = record {
        whose = b.whose ∙ a.whose;
        standing = b.standing ∙ a.standing;
        role = b.role ∙ a.role;
        up = b.up ∙ a.up;
        unique = b.unique ∙ a.unique;
        down = λ p. sums (tally (in_letter p) d.down) (tally (in_letter p) z.down) (tally (in_letter p) e.down) (given p k (move ∷ [])) (given p k moves) (given p k (move ∷ moves)) (b.down p) (a.down p) (given_append p k (move ∷ []) moves);
      }
        where
          sums : (x y z a b c : ℕ) → x ≤ y + b → y ≤ z + a → c ≡ a + b → x ≤ z + c
          sums x y z a b c h g f = omega (arith, h, g, f)

  pub stepped_grew : (c : Carried) (step : BusStep) (k : ℕ) (d : End) → end_at (stepped letter c step).ends k ≡ Some d → (e : End) × (end_at c.ends k ≡ Some e) × Grew k step.moves e d
  stepped_grew c step k d there = folded_grew c.bus.quota (record { waiting = c.bus.waiting; ends = c.ends }) step.moves k d there

-- THE OPEN CALLS where one is answered
module _ (k n r s j : ℕ) where
  abbrev matches : OpenCall → Bool
  matches c = c.caller == r && (c.serial == s && c.callee == j)

  all_three : (c : OpenCall) → matches c ≡ true → (c.caller ≡ r) × ((c.serial ≡ s) × (c.callee ≡ j))
  all_three c h = by (c.caller == r) refl (c.serial == s) refl (c.callee == j) refl h
    where
      by : (a : Bool) → (c.caller == r) ≡ a → (b : Bool) → (c.serial == s) ≡ b → (d : Bool) → (c.callee == j) ≡ d → (a && (b && d)) ≡ true → (c.caller ≡ r) × ((c.serial ≡ s) × (c.callee ≡ j))
      by true f true g true i z = (eqb-true c.caller r f, (eqb-true c.serial s g, eqb-true c.callee j i))
      by true f true g false i z = absurd (false_true z)
      by true f false g d i z = absurd (false_true z)
      by false f b g d i z = absurd (false_true z)

  pub fewer_open : (calls : List OpenCall) → tally (opens k n) (without_answered calls r s j) ≤ tally (opens k n) calls
  fewer_open [] = omega arith
  fewer_open (c ∷ cs) = by (matches c) (one_if (opens k n c)) (tally (opens k n) cs) (fewer_open cs)
    where
      by : (b : Bool) (x y : ℕ) → tally (opens k n) (without_answered cs r s j) ≤ tally (opens k n) cs → tally (opens k n) (if b then cs else c ∷ without_answered cs r s j) ≤ one_if (opens k n c) + tally (opens k n) cs
      by true x y h = least (tally (opens k n) cs) (one_if (opens k n c))
        where
          least : (a b : ℕ) → a ≤ b + a
          least a b = omega arith
      by false x y h = more (one_if (opens k n c)) (tally (opens k n) (without_answered cs r s j)) (tally (opens k n) cs) h
        where
          more : (a b c : ℕ) → b ≤ c → a + b ≤ a + c
          more a b c h = omega (arith, h)

  -- no more than that one is gone
  pub gone_open : (x : ℕ) (calls : List OpenCall) → tally (opens_at k n x) calls ≤ tally (opens_at k n x) (without_answered calls r s j) + one_if (((r == k) && (s == n)) && (j == x))
  gone_open x [] = omega arith
  gone_open x (c ∷ cs) = by (matches c) refl (gone_open x cs)
    where
      its : Bool
      its = ((r == k) && (s == n)) && (j == x)

      by : (b : Bool) → matches c ≡ b → tally (opens_at k n x) cs ≤ tally (opens_at k n x) (without_answered cs r s j) + one_if (((r == k) && (s == n)) && (j == x))
          → one_if (opens_at k n x c) + tally (opens_at k n x) cs ≤ tally (opens_at k n x) (if b then cs else c ∷ without_answered cs r s j) + one_if (((r == k) && (s == n)) && (j == x))
      by true g h =
          let t = all_three c g in
          let same : one_if (opens_at k n x c) ≡ one_if (((r == k) && (s == n)) && (j == x)) = ap₂ (λ a b. one_if (a && b)) (ap₂ (λ a b. (a == k) && (b == n)) t.0 t.1.0) (ap (λ a. a == x) t.1.1) in
          sums (one_if (opens_at k n x c)) (tally (opens_at k n x) cs) (one_if (((r == k) && (s == n)) && (j == x))) same
        where
          sums : (a b c : ℕ) → a ≡ c → a + b ≤ b + c
          sums a b c h = omega (arith, h)
      by false g h = more (one_if (opens_at k n x c)) (tally (opens_at k n x) cs) (tally (opens_at k n x) (without_answered cs r s j)) (one_if (((r == k) && (s == n)) && (j == x))) h
        where
          more : (a b c d : ℕ) → b ≤ c + d → a + b ≤ (a + c) + d
          more a b c d h = omega (arith, h)

-- where there is one, it is gone
pub one_gone : (k n j : ℕ) (calls : List OpenCall) → 1 ≤ tally (opens_at k n j) calls → 1 + tally (opens k n) (without_answered calls k n j) ≤ tally (opens k n) calls
one_gone k n j [] h = absurd (omega (arith, h))
one_gone k n j (c ∷ cs) h = by (c.caller == k) refl (c.serial == n) refl (c.callee == j) refl h (λ g. one_gone k n j cs g)
  where
    plainly : (q : ℕ) → 1 ≤ 0 + q → 1 ≤ q
    plainly q h = omega (arith, h)

    by : (a : Bool) → (c.caller == k) ≡ a → (b : Bool) → (c.serial == n) ≡ b → (d : Bool) → (c.callee == j) ≡ d → 1 ≤ one_if ((a && b) && d) + tally (opens_at k n j) cs
        → (1 ≤ tally (opens_at k n j) cs → 1 + tally (opens k n) (without_answered cs k n j) ≤ tally (opens k n) cs)
        → 1 + tally (opens k n) (if a && (b && d) then cs else c ∷ without_answered cs k n j) ≤ one_if (a && b) + tally (opens k n) cs
    by true f true g true i z ih = omega arith
    by true f true g false i z ih = let y = ih (plainly (tally (opens_at k n j) cs) z) in step f g (tally (opens k n) (without_answered cs k n j)) (tally (opens k n) cs) y
      where
        step : (c.caller == k) ≡ true → (c.serial == n) ≡ true → (p q : ℕ) → 1 + p ≤ q → 1 + (one_if ((c.caller == k) && (c.serial == n)) + p) ≤ 1 + q
        step f g p q h = let one = one_most ((c.caller == k) && (c.serial == n)) in omega (arith, h, one)
    by true f false g d i z ih = let y = ih (plainly (tally (opens_at k n j) cs) z) in none (ap₂ (λ a b. one_if (a && b)) f g) (tally (opens k n) (without_answered cs k n j)) (tally (opens k n) cs) y
      where
        none : one_if ((c.caller == k) && (c.serial == n)) ≡ 0 → (p q : ℕ) → 1 + p ≤ q → 1 + (one_if ((c.caller == k) && (c.serial == n)) + p) ≤ 0 + q
        none z p q h = omega (arith, h, z)
    by false f b g d i z ih = let y = ih (plainly (tally (opens_at k n j) cs) z) in none (ap (λ a. one_if (a && (c.serial == n))) f) (tally (opens k n) (without_answered cs k n j)) (tally (opens k n) cs) y
      where
        none : one_if ((c.caller == k) && (c.serial == n)) ≡ 0 → (p q : ℕ) → 1 + p ≤ q → 1 + (one_if ((c.caller == k) && (c.serial == n)) + p) ≤ 0 + q
        none z p q h = omega (arith, h, z)
