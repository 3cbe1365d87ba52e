-- Values that are written and read back.
use Rattle.std.proofs.Common.{◌≡◌, ℕ, zero, suc, ◌<◌, ◌≤◌, Bool, true, false, Some, refl, ap, arith}
use Rattle.std.specs.Prelude.{◌==◌, ◌+◌, ◌*◌, ◌/◌, ◌%◌, ◌^◌, pos, List, [], ◌∷◌, map, bytes_eq, codes}
use Rattle.std.specs.Int.{w32, cast_unsigned}
use Rattle.std.proofs.lemmas.Int.{to_z_pos}
use Rattle.std.proofs.lemmas.Bool.{eqb-true, eq-eqb}
use Rattle.std.proofs.lemmas.Slice.Eq.{bytes_eq-Decides}
use Rattle.atspi_types.specs.Data.{text_data, items_of, values_in}
use Rattle.atspi_tables.specs.States.{state_names}
use Rattle.atspi_tree_model.specs.declared.news.News.{News}
use Rattle.atspi_tree_model.specs.declared.news.News.TheVariants.{State}
use Rattle.atspi_tree_model.specs.Row.{TreeRow}
use Rattle.atspi_tree_model.specs.Announce.{own, item_of}
use Rattle.atspi_protocol.specs.news.Arguments.{signed, text_in}
use Rattle.atspi_protocol.specs.news.CacheSignals.{item_in}
use Rattle.atspi_protocol.specs.news.Events.{named_in, state_lines}
use Rattle.atspi_protocol.specs.objects.Values.{item_data}
use Rattle.atspi_protocol.specs.announcing.Signals.{state_name}

pub same_bus : (bus : List ℕ) → bytes_eq bus bus ≡ true
same_bus bus = (bytes_eq-Decides bus bus).1 refl

-- a number that fits
pub signed_back : (n : ℕ) → n ≤ 2147483647 → signed (cast_unsigned w32 (pos n)) ≡ pos n
signed_back n l = to_z_pos w32 n (omega arith)

pub texts_back : (xs : List (List ℕ)) → map text_in (values_in (items_of (map text_data xs))) ≡ xs
texts_back [] = refl
texts_back (x ∷ xs) = ap (λ ys. x ∷ ys) (texts_back xs)

pub states_back : (states : ℕ) → states % 2 ^ 32 + (states / 2 ^ 32) * 2 ^ 32 ≡ states
states_back states = omega arith

-- an item of a node below another
pub item_back : (bus : List ℕ) (p i children : ℕ) (row : TreeRow) → i ≤ 2147483647 → children ≤ 2147483647
    → item_in (item_data (item_of bus (own bus p) (pos i) children row)) ≡ Some (item_of bus (own bus p) (pos i) children row)
item_back bus p i children row li lc =
    let item = item_of bus (own bus p) (pos i) children row in
    rw (signed_back i li, signed_back children lc, texts_back item.interfaces, states_back item.states) refl

-- the name of each state tells it: by trying each
abbrev lines : List ℕ → Bool → List (List ℕ × News)
lines path on = (codes "default", State path 39 on) ∷ state_lines 0 state_names path on

abbrev Told : List ℕ → Bool → ℕ → Type 0
Told path on k = named_in (lines path on) (state_name k) ≡ State path k on

abbrev AllTold : List ℕ → Bool → ℕ → Type 0
AllTold path on zero = Unit {0}
AllTold path on (suc k) = Told path on k × AllTold path on k

tried : (path : List ℕ) (on : Bool) → AllTold path on 44
unfolding state_names
tried path on = (refl, (refl, (refl, (refl, (refl, (refl, (refl, (refl, (refl, (refl, (refl, (refl, (refl, (refl, (refl, (refl, (refl, (refl, (refl, (refl, (refl, (refl, (refl, (refl, (refl, (refl, (refl, (refl, (refl, (refl, (refl, (refl, (refl, (refl, (refl, (refl, (refl, (refl, (refl, (refl, (refl, (refl, (refl, (refl, tt))))))))))))))))))))))))))))))))))))))))))))

differ : (m n : ℕ) → (m == n) ≡ false → m ≡ n → ⊥
differ m n e same = let t = eq-eqb m n same in cc

told_next : (path : List ℕ) (on : Bool) (k s : ℕ) (b : Bool) → (s == k) ≡ b → Told path on k → s < suc k → (s < k → Told path on s) → Told path on s
told_next path on k s true same x l before = rw (eqb-true s k same) x
told_next path on k s false other x l before = before (smaller (differ s k other) l)
  where
    smaller : (s ≡ k → ⊥) → s < suc k → s < k
    smaller ne l = omega arith

told_each : (path : List ℕ) (on : Bool) (k s : ℕ) → AllTold path on k → s < k → Told path on s
told_each path on zero s h l = absurd (omega arith)
told_each path on (suc k) s h l = told_next path on k s (s == k) refl h.0 l (told_each path on k s h.1)

pub state_back : (path : List ℕ) (on : Bool) (s : ℕ) → s < 44 → named_in (lines path on) (state_name s) ≡ State path s on
state_back path on s l = told_each path on 44 s (tried path on) l
