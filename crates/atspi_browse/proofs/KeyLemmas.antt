-- Keys of two numbers, and what a map has at one once another has another value.
use Rattle.std.proofs.Common.{◌≡◌, ◌==◌, ◌&&◌, ◌<◌, ◌^◌, ℕ, Bool, true, false, cond, eqb, Option, None, Some, if◌then◌else◌, refl, sym, ap, ◌∙◌, arith}
use Rattle.std.specs.BTreeMap.{BTreeMap, get, is_at}
use Rattle.std.specs.Cmp.{ranked}
use Rattle.std.specs.Ordering.{nat_cmp, is_eq, MatchOrdering}
use Rattle.std.specs.declared.cmp.Ordering.{Ordering}
use Rattle.std.specs.declared.cmp.Ordering.TheVariants.{Less, Equal, Greater}
use Rattle.std.proofs.lemmas.Bool.{eq-eqb, ne_eqb, eqb-true, and_parts}
use Rattle.atspi_message.specs.Envelope.{envelope_of}
use Rattle.atspi_message.specs.declared.message.Message.{Message}
use Rattle.atspi_tree_model.specs.Path.{path_of}
use Rattle.atspi_cursors.specs.Cursors.{cursor_at}
use Rattle.atspi_cursors.specs.declared.cursors.Cursors.{Cursors}
use Rattle.atspi_browse.specs.Cursor.{Moment, moved, of_message}
use Rattle.atspi_browse.specs.Places.{at_node, key, told_by}
use Rattle.atspi_browse.specs.inner.Changes.{moment_at}
use Rattle.atspi_browse.specs.declared.changes.NodeChange.{NodeChange}

same : (r : Ordering) (a b : ℕ) → MatchOrdering r (a < b) (a ≡ b) (b < a) → is_eq r ≡ eqb a b
same Less a b m = sym (ne_eqb a b (λ e. omega (arith, e, m)))
same Equal a b m = sym (eq-eqb a b m)
same Greater a b m = sym (ne_eqb a b (λ e. omega (arith, e, m)))

at_is : (k q : ℕ) → is_at (nat_cmp k) q ≡ eqb k q
at_is k q = same (nat_cmp k q) k q (ranked k q (nat_cmp k q) refl)

-- two keys are one where both numbers are
first_of_key : (r a s b : ℕ) → a < 2 ^ 32 → b < 2 ^ 32 → key r a ≡ key s b → r ≡ s
first_of_key r a s b la lb e = omega (arith, e, la, lb)

second_of_key : (r a s b : ℕ) → a < 2 ^ 32 → b < 2 ^ 32 → key r a ≡ key s b → a ≡ b
second_of_key r a s b la lb e = omega (arith, e, la, lb)

pub key_is : (r a s b : ℕ) → a < 2 ^ 32 → b < 2 ^ 32 → is_at (nat_cmp (key r a)) (key s b) ≡ (r == s) && (a == b)
key_is r a s b la lb = at_is (key r a) (key s b) ∙ by ((r == s) && (a == b)) refl
  where
    by : (both : Bool) → (r == s) && (a == b) ≡ both → eqb (key r a) (key s b) ≡ both
    by true e =
        let p = and_parts (r == s) (a == b) e in
        let x = eqb-true r s p.0 in
        let y = eqb-true a b p.1 in
        eq-eqb (key r a) (key s b) (ap (λ z. key z a) x ∙ ap (key s) y)
    by false e = ne_eqb (key r a) (key s b) (λ same_. clash (first_of_key r a s b la lb same_) (second_of_key r a s b la lb same_))
      where
        clash : r ≡ s → a ≡ b → ⊥
        clash x y =
            let t : (r == s) && (a == b) ≡ true = ap (λ z. z && (a == b)) (eq-eqb r s x) ∙ eq-eqb a b y in
            let f : true ≡ false = sym t ∙ e in
            cc

-- A VALUE AT A KEY OF TWO NUMBERS, and what is made of it
pub valued : {X Y : Type 0} (made : Option X → Y) (old new : BTreeMap ℕ X) (value : Option X) (r a s b : ℕ) → a < 2 ^ 32 → b < 2 ^ 32
    → ((q : ℕ) → get nat_cmp new q ≡ cond (is_at (nat_cmp (key r a)) q) value (get nat_cmp old q))
    → made (get nat_cmp new (key s b)) ≡ (if (r == s) && (a == b) then made value else made (get nat_cmp old (key s b)))
valued made old new value r a s b la lb put =
    ap made (put (key s b) ∙ ap (λ t. cond t value (get nat_cmp old (key s b))) (key_is r a s b la lb)) ∙ by ((r == s) && (a == b))
  where
    by : (t : Bool) → made (cond t value (get nat_cmp old (key s b))) ≡ (if t then made value else made (get nat_cmp old (key s b)))
    by true = refl
    by false = refl

-- what a message told is noted
pub told_more : (old new : BTreeMap ℕ (Option NodeChange)) (told : Option NodeChange) (app : ℕ) (message : Message) → message.serial < 2 ^ 32
    → ((q : ℕ) → get nat_cmp new q ≡ cond (is_at (nat_cmp (key app message.serial)) q) (Some told) (get nat_cmp old q))
    → ((n : ℕ) → n < 2 ^ 32 → of_message (path_of n) (Some (envelope_of message)) ≡ moment_at n told)
    → (a serial n : ℕ) → a < 2 ^ 32 → serial < 2 ^ 32 → n < 2 ^ 32
    → moment_at n (told_by (get nat_cmp new (key a serial)))
    ≡ (if (app == a) && (message.serial == serial) then of_message (path_of n) (Some (envelope_of message)) else moment_at n (told_by (get nat_cmp old (key a serial))))
told_more old new told app message small put tells a serial n la ls ln =
    valued (λ o. moment_at n (told_by o)) old new (Some told) app message.serial a serial small ls put
    ∙ ap (λ m. if (app == a) && (message.serial == serial) then m else moment_at n (told_by (get nat_cmp old (key a serial)))) (sym (tells n ln))

-- the cursors of one reader in the texts of one application move
pub moved_more : (old new : BTreeMap ℕ Cursors) (before after : Cursors) (reader app : ℕ) (m : ℕ → Moment) → app < 2 ^ 32 → get nat_cmp old (key reader app) ≡ Some before
    → ((q : ℕ) → get nat_cmp new q ≡ cond (is_at (nat_cmp (key reader app)) q) (Some after) (get nat_cmp old q)) → ((n : ℕ) → cursor_at after n ≡ moved (cursor_at before n) (m n))
    → (r a n : ℕ) → r < 2 ^ 32 → a < 2 ^ 32 → n < 2 ^ 32
    → at_node (get nat_cmp new (key r a)) n ≡ (if (reader == r) && (app == a) then moved (at_node (get nat_cmp old (key r a)) n) (m n) else at_node (get nat_cmp old (key r a)) n)
moved_more old new before after reader app m lapp there put moves r a n lr la ln =
    valued (λ o. at_node o n) old new (Some after) reader app r a lapp la put ∙ by ((reader == r) && (app == a)) refl
  where
    by : (b : Bool) → (reader == r) && (app == a) ≡ b
        → (if b then cursor_at after n else at_node (get nat_cmp old (key r a)) n) ≡ (if b then moved (at_node (get nat_cmp old (key r a)) n) (m n) else at_node (get nat_cmp old (key r a)) n)
    by true e =
        let p = and_parts (reader == r) (app == a) e in
        let k : key reader app ≡ key r a = ap (λ z. key z app) (eqb-true reader r p.0) ∙ ap (key r) (eqb-true app a p.1) in
        moves n ∙ ap (λ o. moved (at_node o n) (m n)) (sym there ∙ ap (get nat_cmp old) k)
    by false e = refl

-- where there are none nothing moves
pub none_moves : (old : BTreeMap ℕ Cursors) (reader app : ℕ) (m : ℕ → Moment) → get nat_cmp old (key reader app) ≡ None → ((n : ℕ) → moved 0 (m n) ≡ 0) → (r a n : ℕ)
    → at_node (get nat_cmp old (key r a)) n ≡ (if (reader == r) && (app == a) then moved (at_node (get nat_cmp old (key r a)) n) (m n) else at_node (get nat_cmp old (key r a)) n)
none_moves old reader app m none still r a n = by ((reader == r) && (app == a)) refl
  where
    by : (b : Bool) → (reader == r) && (app == a) ≡ b
        → at_node (get nat_cmp old (key r a)) n ≡ (if b then moved (at_node (get nat_cmp old (key r a)) n) (m n) else at_node (get nat_cmp old (key r a)) n)
    by true e =
        let p = and_parts (reader == r) (app == a) e in
        let k : key reader app ≡ key r a = ap (λ z. key z app) (eqb-true reader r p.0) ∙ ap (key r) (eqb-true app a p.1) in
        let there : get nat_cmp old (key r a) ≡ None = ap (get nat_cmp old) (sym k) ∙ none in
        ap (λ o. at_node o n) there ∙ sym (ap (λ o. moved (at_node o n) (m n)) there ∙ still n)
    by false e = refl
