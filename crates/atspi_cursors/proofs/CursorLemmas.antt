-- Entries of a map as cursors, and what is read at one.
use Rattle.std.proofs.Common.{◌≡◌, ◌≢◌, ℕ, ◌<◌, ◌≤◌, true, false, cond, List, length, Option, None, Some, unwrap_or, MatchOption, refl, sym, ap, ap₂, subst, ◌∙◌, arith}
use Rattle.std.specs.BTreeMap.{is_at}
use Rattle.std.specs.Cmp.{ranked}
use Rattle.std.specs.List.{concat}
use Rattle.std.specs.Map.{lookup}
use Rattle.std.specs.Ordering.{nat_cmp, is_eq, MatchOrdering}
use Rattle.std.specs.declared.cmp.Ordering.{Ordering}
use Rattle.std.specs.declared.cmp.Ordering.TheVariants.{Less, Equal, Greater}
use Rattle.atspi_units.specs.Units.{IsUnitAt}
use Rattle.atspi_units.proofs.CutLemmas.{one_unit, unit_within}
use Rattle.atspi_cursors.specs.Reading.{place_read, cursor_after, IsUnitRead, IsRead}
use Rattle.atspi_cursors.specs.declared.reading.Way.{Way}
use Rattle.atspi_cursors.specs.declared.reading.Reading.{Reading}

same : (r : Ordering) (a b : ℕ) → MatchOrdering r (a < b) (a ≡ b) (b < a) → a ≡ b → is_eq r ≡ true
same Less a b m e = absurd (omega arith)
same Equal a b m e = refl
same Greater a b m e = absurd (omega arith)

other : (r : Ordering) (a b : ℕ) → MatchOrdering r (a < b) (a ≡ b) (b < a) → a ≢ b → is_eq r ≡ false
other Less a b m ne = refl
other Equal a b m ne = absurd (ne m)
other Greater a b m ne = refl

at_itself : (k : ℕ) → is_at (nat_cmp k) k ≡ true
at_itself k = same (nat_cmp k k) k k (ranked k k (nat_cmp k k) refl) refl

at_another : (k q : ℕ) → q ≢ k → is_at (nat_cmp k) q ≡ false
at_another k q ne = other (nat_cmp k q) k q (ranked k q (nat_cmp k q) refl) (λ e. ne (sym e))

-- entries that change at one key
module _ (es fs : List (ℕ × ℕ)) (k v : ℕ) (h : (q : ℕ) → lookup (is_at (nat_cmp q)) fs ≡ cond (is_at (nat_cmp k) q) (Some v) (lookup (is_at (nat_cmp q)) es)) where
  pub put_here : unwrap_or (lookup (is_at (nat_cmp k)) fs) 0 ≡ v
  put_here = ap (λ o. unwrap_or o 0) (h k ∙ ap (λ b. cond b (Some v) (lookup (is_at (nat_cmp k)) es)) (at_itself k))

  pub put_others : (q : ℕ) → q ≢ k → unwrap_or (lookup (is_at (nat_cmp q)) fs) 0 ≡ unwrap_or (lookup (is_at (nat_cmp q)) es) 0
  put_others q ne = ap (λ o. unwrap_or o 0) (h q ∙ ap (λ b. cond b (Some v) (lookup (is_at (nat_cmp q)) es)) (at_another k q ne))

-- one reading at most
same_reading : (a b : Reading) → a.start ≡ b.start → a.end ≡ b.end → a.cursor ≡ b.cursor → a ≡ b
same_reading a b p q r = ap₂ (λ x y. record { start = x; end = y; cursor = a.cursor }) p q ∙ ap (λ z. record { start = b.start; end = b.end; cursor = z }) r

module _ (way : Way) (pieces : List (List ℕ)) (cursor : ℕ) where
  read_twice : (at : ℕ) (a b : Reading) → IsUnitRead way pieces cursor a at → IsUnitRead way pieces cursor b at → a ≡ b
  read_twice at a b u v =
      let e = one_unit pieces at a.start a.end b.start b.end u.0 v.0 in
      same_reading a b e.0 e.1 (u.1 ∙ ap₂ (cursor_after way cursor) e.0 e.1 ∙ sym v.1)

  not_both : {A : Type 0} (at : ℕ) (a : Reading) → IsUnitRead way pieces cursor a at → length (concat pieces) ≤ at → A
  not_both at a u le = absurd (omega (arith, u.0.upto, unit_within pieces at a.start a.end u.0, le))

  none_some : {A : Type 0} (p : Option ℕ) (a : Reading) → MatchOption p (Unit {0}) (λ at. length (concat pieces) ≤ at)
      → MatchOption p ⊥ (λ at. IsUnitRead way pieces cursor a at) → A
  none_some None a h k = absurd k
  none_some (Some at) a h k = not_both at a k h

  some_some : (p : Option ℕ) (a b : Reading) → MatchOption p ⊥ (λ at. IsUnitRead way pieces cursor a at)
      → MatchOption p ⊥ (λ at. IsUnitRead way pieces cursor b at) → a ≡ b
  some_some None a b h k = absurd k
  some_some (Some at) a b h k = read_twice at a b h k

pub one_reading : (way : Way) (pieces : List (List ℕ)) (cursor : ℕ) (one two : Option Reading) → IsRead way pieces cursor one
    → IsRead way pieces cursor two → one ≡ two
one_reading way pieces cursor None None h k = refl
one_reading way pieces cursor None (Some b) h k = none_some way pieces cursor (place_read way cursor) b h k
one_reading way pieces cursor (Some a) None h k = none_some way pieces cursor (place_read way cursor) a k h
one_reading way pieces cursor (Some a) (Some b) h k = ap Some (some_some way pieces cursor (place_read way cursor) a b h k)

-- what is read where the place is told
pub read_none : (way : Way) (pieces : List (List ℕ)) (cursor : ℕ) (p : Option ℕ) → place_read way cursor ≡ p
    → MatchOption p (Unit {0}) (λ at. length (concat pieces) ≤ at) → IsRead way pieces cursor None
read_none way pieces cursor p e h = subst (λ o. MatchOption o (Unit {0}) (λ at. length (concat pieces) ≤ at)) (sym e) h

pub read_some : (way : Way) (pieces : List (List ℕ)) (cursor at start end after : ℕ) → place_read way cursor ≡ Some at → IsUnitAt pieces at start end
    → after ≡ cursor_after way cursor start end → IsRead way pieces cursor (Some (record { start = start; end = end; cursor = after }))
read_some way pieces cursor at start end after e u a =
    subst (λ o. MatchOption o ⊥ (λ x. IsUnitRead way pieces cursor (record { start = start; end = end; cursor = after }) x)) (sym e) (u, a)
