-- Maps that are copied from the last entry to the first.
use Rattle.std.proofs.Common.{◌≡◌, ℕ, List, [], ◌∷◌, ◌++◌, cond, Bool, true, false, ◌||◌, Option, Some, refl, sym, ap, ◌∙◌, append-nil, append_assoc}
use Rattle.std.specs.Ordering.{nat_cmp}
use Rattle.std.specs.declared.cmp.Ordering.{Ordering}
use Rattle.std.specs.Cmp.{nat_cmp_total, eq_by_cmp_equiv}
use Rattle.std.specs.Cmp.Lexicographic.{slice_cmp, nat_list_cmp_total}
use Rattle.std.specs.Map.{lookup}
use Rattle.std.specs.BTreeMap as tree
use Rattle.std.specs.BTreeMap.{is_at}
use Rattle.std.specs.List.{list_any}
use Rattle.std.specs.BTreeSet as set
use Rattle.std.specs.BTreeSet.{BTreeSet}
use Rattle.std.specs.FinMap as finmap
use Rattle.std.specs.FinMap.{FinMap, from_entries}
use Rattle.atspi_names.specs.Standings.{Standings, has_name, notes, SameNames, SameNotes}

-- of all entries the last ones were copied, and the rest is left
pub record IsCopied {K X : Type 0} (R : K → K → Ordering) (all rest : List (K × X)) (copy : FinMap R X) : Type 0 where
  pub done : List (K × X)
  pub whole : rest ++ done ≡ all
  pub is : copy ≡ from_entries done

module _ {K X : Type 0} (R : K → K → Ordering) where
  pub copied_none : (all : List (K × X)) → IsCopied R all all finmap.empty
  copied_none all = record { done = []; whole = append-nil all; is = refl }

  pub copied_next : (all rest left : List (K × X)) (k : K) (v : X) (copy new : FinMap R X) → IsCopied R all rest copy → rest ≡ left ++ (k, v) ∷ []
      → new ≡ finmap.insert copy k v → IsCopied R all left new
  copied_next all rest left k v copy new was last put = record {
    done = (k, v) ∷ was.done;
    whole = sym (append_assoc left ((k, v) ∷ []) was.done) ∙ ap (λ l. l ++ was.done) (sym last) ∙ was.whole;
    is = put ∙ ap (λ m. finmap.insert m k v) was.is;
  }

  pub copied_all : (all rest : List (K × X)) (copy : FinMap R X) → IsCopied R all rest copy → rest ≡ [] → copy ≡ from_entries all
  copied_all all rest copy was none = was.is ∙ ap from_entries (sym (ap (λ l. l ++ was.done) none) ∙ was.whole)

-- the same of the names of each connection
pub record AreNoted (all rest : List (ℕ × BTreeSet (List ℕ))) (copy : Standings) : Type 0 where
  pub done : List (ℕ × BTreeSet (List ℕ))
  pub whole : rest ++ done ≡ all
  pub is : (c : ℕ) (q : List ℕ) → notes copy c q ≡ has_name (lookup (is_at (nat_cmp c)) done) q

pub noted_none : (all : List (ℕ × BTreeSet (List ℕ))) (copy : Standings) → copy.entries ≡ [] → AreNoted all all copy
noted_none all copy none = record {
  done = [];
  whole = append-nil all;
  is = λ c q. ap (λ es. has_name (lookup (is_at (nat_cmp c)) es) q) none;
}

noted_at : (b : Bool) (names copy : BTreeSet (List ℕ)) (x y : Option (BTreeSet (List ℕ))) (q : List ℕ) → SameNames names copy → has_name x q ≡ has_name y q
    → has_name (cond b (Some copy) x) q ≡ has_name (cond b (Some names) y) q
noted_at true names copy x y q same e = same q
noted_at false names copy x y q same e = e

pub noted_next : (all rest left : List (ℕ × BTreeSet (List ℕ))) (k : ℕ) (names set : BTreeSet (List ℕ)) (copy new : Standings) → AreNoted all rest copy → rest ≡ left ++ (k, names) ∷ []
    → SameNames names set → ((c : ℕ) → tree.get nat_cmp new c ≡ cond (is_at (nat_cmp k) c) (Some set) (tree.get nat_cmp copy c)) → AreNoted all left new
noted_next all rest left k names set copy new was last same put = record {
  done = (k, names) ∷ was.done;
  whole = sym (append_assoc left ((k, names) ∷ []) was.done) ∙ ap (λ l. l ++ was.done) (sym last) ∙ was.whole;
  is = λ c q. ap (λ o. has_name o q) (put c ∙ ap (λ b. cond b (Some set) (tree.get nat_cmp copy c)) ((eq_by_cmp_equiv nat_cmp_total).symm k c))
      ∙ noted_at (is_at (nat_cmp c) k) names set (tree.get nat_cmp copy c) (lookup (is_at (nat_cmp c)) was.done) q same (was.is c q);
}

pub noted_all : (old copy : Standings) (rest : List (ℕ × BTreeSet (List ℕ))) → AreNoted old.entries rest copy → rest ≡ [] → SameNotes old copy
noted_all old copy rest was none c q =
    was.is c q ∙ ap (λ es. has_name (lookup (is_at (nat_cmp c)) es) q) (sym (ap (λ l. l ++ was.done) none) ∙ was.whole)

-- a name that is put among the copied ones, and is left no more
name_moved : (b copied left : Bool) → (cond b true copied || left) ≡ (copied || (b || left))
name_moved true true left = refl
name_moved true false left = refl
name_moved false copied left = refl

pub set_next : (names rest left : List (List ℕ)) (name key : List ℕ) (copy new : BTreeSet (List ℕ)) (q : List ℕ)
    → (set.contains (slice_cmp nat_cmp) copy q || list_any (is_at (slice_cmp nat_cmp q)) rest) ≡ list_any (is_at (slice_cmp nat_cmp q)) names
    → rest ≡ name ∷ left → key ≡ name → set.contains (slice_cmp nat_cmp) new q ≡ cond (is_at (slice_cmp nat_cmp key) q) true (set.contains (slice_cmp nat_cmp) copy q)
    → (set.contains (slice_cmp nat_cmp) new q || list_any (is_at (slice_cmp nat_cmp q)) left) ≡ list_any (is_at (slice_cmp nat_cmp q)) names
set_next names rest left name key copy new q was first same put =
    let R = slice_cmp nat_cmp in
    ap (λ b. b || list_any (is_at (R q)) left) (put ∙ ap (λ k. cond (is_at (R k) q) true (set.contains R copy q)) same ∙ ap (λ b. cond b true (set.contains R copy q)) ((eq_by_cmp_equiv nat_list_cmp_total).symm name q))
    ∙ name_moved (is_at (R q) name) (set.contains R copy q) (list_any (is_at (R q)) left)
    ∙ ap (λ l. set.contains R copy q || list_any (is_at (R q)) l) (sym first)
    ∙ was
