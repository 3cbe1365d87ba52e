-- Entries of a `BTreeMap` as nodes.
use Rattle.std.proofs.Common.{subst, ◌≡◌, ℕ, Bool, cond, true, false, List, [], ◌∷◌, map, Option, None, Some, IsSome, refl, sym, ap, ◌∙◌, ◌<◌, ◌≤◌, arith}
use Rattle.std.specs.Option.{option_map}
use Rattle.std.specs.Ordering.{nat_cmp, eq_by_cmp, is_eq, is_gt, MatchOrdering}
use Rattle.std.specs.declared.cmp.Ordering.{Ordering}
use Rattle.std.specs.declared.cmp.Ordering.TheVariants.{Less, Equal, Greater}
use Rattle.std.proofs.lemmas.Bool.{false≢true}
use Rattle.std.specs.Cmp.{nat_cmp_total, eq_by_cmp_equiv, ranked}
use Rattle.std.specs.Map.{lookup}
use Rattle.std.specs.BTreeMap.{is_at}
use Rattle.std.specs.FinMap.{get, insert, remove, find, get-from_entries, get-insert, get-remove, same_map, nat_cmp-IsAntisymmetric}
use Rattle.std.proofs.lemmas.Map.Made.{lookup-map_values}
use Rattle.atspi_faces.specs.face.Nodes.{Nodes, AreContents}
use Rattle.atspi_faces.specs.Kept.{nodes_of}
use Rattle.atspi_tree_model.specs.declared.contents.FaceData.{FaceData}
use Rattle.atspi_tree_model.specs.declared.contents.FaceKind.{FaceKind}
use Rattle.atspi_faces.specs.face.Contents.{IsContents}

find_lookup : {X : Type 0} (es : List (ℕ × X)) (q : ℕ) → find nat_cmp q es ≡ lookup (is_at (nat_cmp q)) es
find_lookup [] q = refl
find_lookup (e ∷ es) q = ap (cond (is_at (nat_cmp q) e.0) (Some e.1)) (find_lookup es q)

cond_map : {X Y : Type 0} (g : X → Y) (b : Bool) (x y : Option X) → option_map g (cond b x y) ≡ cond b (option_map g x) (option_map g y)
cond_map g true x y = refl
cond_map g false x y = refl

module _ {X : Type 0} (g : X → FaceData) where
  -- what the nodes have at q
  pub get_nodes : (es : List (ℕ × X)) (q : ℕ) → get (nodes_of g es) q ≡ option_map g (lookup (is_at (nat_cmp q)) es)
  get_nodes es q =
      get-from_entries nat_cmp_total (map (λ e. (e.0, g e.1)) es) q
      ∙ find_lookup (map (λ e. (e.0, g e.1)) es) q
      ∙ lookup-map_values g (is_at (nat_cmp q)) es

  -- entries that change at one node
  pub put_nodes : (es fs : List (ℕ × X)) (k : ℕ) (v : X) → ((q : ℕ) → lookup (is_at (nat_cmp q)) fs ≡ cond (is_at (nat_cmp k) q) (Some v) (lookup (is_at (nat_cmp q)) es)) → nodes_of g fs ≡ insert (nodes_of g es) k (g v)
  put_nodes es fs k v h = same_map nat_cmp_total nat_cmp-IsAntisymmetric _ _ (λ q.
      get_nodes fs q ∙ ap (option_map g) (h q) ∙ cond_map g (is_at (nat_cmp k) q) (Some v) (lookup (is_at (nat_cmp q)) es)
      ∙ ap (λ b. cond b (Some (g v)) (option_map g (lookup (is_at (nat_cmp q)) es))) ((eq_by_cmp_equiv nat_cmp_total).symm k q)
      ∙ sym (get-insert nat_cmp_total (nodes_of g es) k (g v) q ∙ ap (cond (is_at (nat_cmp q) k) (Some (g v))) (get_nodes es q)))

  -- entries that lose one node
  pub drop_nodes : (es fs : List (ℕ × X)) (k : ℕ) → ((q : ℕ) → lookup (is_at (nat_cmp q)) fs ≡ cond (is_at (nat_cmp k) q) None (lookup (is_at (nat_cmp q)) es)) → nodes_of g fs ≡ remove (nodes_of g es) k
  drop_nodes es fs k h = same_map nat_cmp_total nat_cmp-IsAntisymmetric _ _ (λ q.
      get_nodes fs q ∙ ap (option_map g) (h q) ∙ cond_map g (is_at (nat_cmp k) q) None (lookup (is_at (nat_cmp q)) es)
      ∙ ap (λ b. cond b None (option_map g (lookup (is_at (nat_cmp q)) es))) ((eq_by_cmp_equiv nat_cmp_total).symm k q)
      ∙ sym (get-remove nat_cmp_total (nodes_of g es) k q ∙ ap (cond (is_at (nat_cmp q) k) None) (get_nodes es q)))

equal : (r : Ordering) → is_eq r ≡ true → r ≡ Equal
equal Less p = absurd (false≢true p)
equal Equal p = refl
equal Greater p = absurd (false≢true p)

-- to set what is there already changes nothing
same_at : (b : Bool) (o : Option FaceData) (d : FaceData) → (b ≡ true → o ≡ Some d) → cond b (Some d) o ≡ o
same_at true o d h = sym (h refl)
same_at false o d h = refl

pub insert_same : (m : Nodes) (k : ℕ) (d : FaceData) → get m k ≡ Some d → insert m k d ≡ m
insert_same m k d e = same_map nat_cmp_total nat_cmp-IsAntisymmetric _ _ (λ q.
    get-insert nat_cmp_total m k d q
    ∙ same_at (eq_by_cmp nat_cmp q k) (get m q) d (λ t. ap (get m) (nat_cmp-IsAntisymmetric q k (equal (nat_cmp q k) t)) ∙ e))

pub some_at : {X : Type 0} {o : Option X} {x : X} → o ≡ Some x → IsSome o
some_at e = rw e refl

not_gt : (r : Ordering) (a b : ℕ) → MatchOrdering r (a < b) (a ≡ b) (b < a) → a ≤ b → is_gt r ≡ false
not_gt Less a b m h = refl
not_gt Equal a b m h = refl
not_gt Greater a b m h = absurd (omega arith)

pub not_above : (a b : ℕ) → a ≤ b → is_gt (nat_cmp a b) ≡ false
not_above a b h = not_gt (nat_cmp a b) a b (ranked a b (nat_cmp a b) refl) h

pub none_by : {X : Type 0} (o : Option X) → (IsSome o → ⊥) → o ≡ None
none_by None h = refl
none_by (Some x) h = absurd (h refl)

-- where each value is contents of a kind, so are the nodes'
sound_at : {X : Type 0} (g : X → FaceData) (kind : FaceKind) → ((x : X) → IsContents kind (g x)) → (o : Option X) (what : FaceData) → option_map g o ≡ Some what → IsContents kind what
sound_at g kind each None what e = absurd cc
sound_at g kind each (Some x) what e = let same : g x ≡ what = cc in subst (IsContents kind) same (each x)

pub contents_of : {X : Type 0} (g : X → FaceData) (kind : FaceKind) → ((x : X) → IsContents kind (g x)) → (es : List (ℕ × X)) → AreContents kind (nodes_of g es)
contents_of g kind each es node what e = sound_at g kind each (lookup (is_at (nat_cmp node)) es) what (sym (get_nodes g es node) ∙ e)
