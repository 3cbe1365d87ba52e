-- The entries of a `BTreeMap` as rectangles of nodes.
use Rattle.std.proofs.Common.{◌≡◌, ℕ, cond, List, [], ◌∷◌, Option, None, Some, refl, sym, ap, ◌∙◌}
use Rattle.std.specs.Prelude.{unwrap_or}
use Rattle.std.specs.Ordering.{nat_cmp}
use Rattle.std.specs.Cmp.{nat_cmp_total, eq_by_cmp_equiv}
use Rattle.std.specs.Map.{lookup}
use Rattle.std.specs.BTreeMap.{is_at}
use Rattle.std.specs.FinMap.{from_entries, get, insert, remove, find, get-from_entries, get-insert, get-remove, same_map, nat_cmp-IsAntisymmetric}
use Rattle.atspi_hit.specs.declared.rect.Rect.{Rect}
use Rattle.atspi_hit.specs.Places.{Places, no_rect, rect_at}

find_lookup : (es : List (ℕ × Rect)) (q : ℕ) → find nat_cmp q es ≡ lookup (is_at (nat_cmp q)) es
find_lookup [] q = refl
find_lookup (e ∷ es) q = ap (cond (is_at (nat_cmp q) e.0) (Some e.1)) (find_lookup es q)

-- what is kept of a node
pub get_placed : (es : List (ℕ × Rect)) (q : ℕ) → get {R = nat_cmp} (from_entries es) q ≡ lookup (is_at (nat_cmp q)) es
get_placed es q = get-from_entries nat_cmp_total es q ∙ find_lookup es q

-- entries that change at one node
pub placed : (es fs : List (ℕ × Rect)) (k : ℕ) (v : Rect)
    → ((q : ℕ) → lookup (is_at (nat_cmp q)) fs ≡ cond (is_at (nat_cmp k) q) (Some v) (lookup (is_at (nat_cmp q)) es))
    → from_entries {R = nat_cmp} fs ≡ insert (from_entries es) k v
placed es fs k v h = same_map nat_cmp_total nat_cmp-IsAntisymmetric _ _ (λ q.
    get_placed fs q ∙ h q
    ∙ ap (λ b. cond b (Some v) (lookup (is_at (nat_cmp q)) es)) ((eq_by_cmp_equiv nat_cmp_total).symm k q)
    ∙ sym (get-insert nat_cmp_total (from_entries es) k v q ∙ ap (cond (is_at (nat_cmp q) k) (Some v)) (get_placed es q)))

-- entries that lose one node
pub dropped : (es fs : List (ℕ × Rect)) (k : ℕ)
    → ((q : ℕ) → lookup (is_at (nat_cmp q)) fs ≡ cond (is_at (nat_cmp k) q) None (lookup (is_at (nat_cmp q)) es))
    → from_entries {R = nat_cmp} fs ≡ remove (from_entries es) k
dropped es fs k h = same_map nat_cmp_total nat_cmp-IsAntisymmetric _ _ (λ q.
    get_placed fs q ∙ h q
    ∙ ap (λ b. cond b None (lookup (is_at (nat_cmp q)) es)) ((eq_by_cmp_equiv nat_cmp_total).symm k q)
    ∙ sym (get-remove nat_cmp_total (from_entries es) k q ∙ ap (cond (is_at (nat_cmp q) k) None) (get_placed es q)))

-- the rectangle that is read of a node
pub read : (es : List (ℕ × Rect)) (places : Places) (q : ℕ) (o : Option Rect) → from_entries es ≡ places
    → o ≡ lookup (is_at (nat_cmp q)) es → rect_at places q ≡ unwrap_or o no_rect
read es places q o v e = ap (λ p. rect_at p q) (sym v) ∙ ap (λ o. unwrap_or o no_rect) (get_placed es q ∙ sym e)
