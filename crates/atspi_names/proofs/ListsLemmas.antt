-- The lists of all names, kept in a `BTreeMap`.
use Rattle.std.proofs.Common.{cond, ◌≡◌, ◌≢◌, ℕ, List, [], ◌∷◌, true, false, refl, sym, ap, ◌∙◌, arith, length, ◌==◌}
use borrow.Author.Tests.{eqb-true}
use Rattle.std.proofs.lemmas.Grind.{common_steps}
use Rattle.std.specs.Prelude.{Option, Some, None, unwrap_or, IsSome, is_some, Result, Ok, Err, OnOk, OnErr}
use Rattle.std.specs.Ordering.{nat_cmp, eq_by_cmp}
use Rattle.std.specs.Cmp.Lexicographic.{slice_cmp, nat_list_cmp_total}
use Rattle.std.specs.BTreeMap as tree
use Rattle.std.specs.BTreeMap.{BTreeMap, is_at}
use Rattle.std.specs.FinMap as finmap
use Rattle.std.specs.FinMap.{from_entries, get-insert, get-remove, same_map, slice_cmp-IsAntisymmetric, nat_cmp-IsAntisymmetric, IsAntisymmetric}
use Rattle.atspi_names.specs.Queue.{requested}
use Rattle.atspi_names.specs.Owners.{Lists, list_of, with_list}
use Rattle.atspi_names.proofs.Maps.{SetsAt, later, same_write, equal_of_tie, get-map, map-insert}

-- the bytes of names are in a total order, in which only equal ones tie
abbrev pub Tree : Type 0
Tree = BTreeMap (List ℕ) (List (ℕ × ℕ))

pub names_apart : IsAntisymmetric (slice_cmp nat_cmp)
names_apart = slice_cmp-IsAntisymmetric nat_cmp-IsAntisymmetric

-- what is kept in the tree is the list of the name
pub list_of-tree : (m : Tree) (name : List ℕ) → list_of (from_entries m.entries) name ≡ unwrap_or (tree.get (slice_cmp nat_cmp) m name) []
list_of-tree m name = ap (λ o. unwrap_or o []) (get-map nat_list_cmp_total m name)

-- a tree that finds a queue has it as the list
pub list_of-found : (m : Tree) (lists : Lists) (name : List ℕ) (queue : List (ℕ × ℕ)) → from_entries m.entries ≡ lists
    → tree.get (slice_cmp nat_cmp) m name ≡ Some queue → list_of lists name ≡ queue
list_of-found m lists name queue is found = ap (λ l. list_of l name) (sym is) ∙ list_of-tree m name ∙ ap (λ o. unwrap_or o []) found

-- a tree that finds none has none
pub list_of-missed : (m : Tree) (lists : Lists) (name : List ℕ) → from_entries m.entries ≡ lists
    → tree.get (slice_cmp nat_cmp) m name ≡ None → list_of lists name ≡ []
list_of-missed m lists name is missed = ap (λ l. list_of l name) (sym is) ∙ list_of-tree m name ∙ ap (λ o. unwrap_or o []) missed

-- a queue with an owner is put into its place
pub with_list-put : (m n : Tree) (lists : Lists) (name : List ℕ) (queue : List (ℕ × ℕ)) → from_entries m.entries ≡ lists → queue ≢ []
    → SetsAt (slice_cmp nat_cmp) m n name (Some queue) → from_entries n.entries ≡ with_list lists name queue
with_list-put m n lists name [] is some u = absurd (some refl)
with_list-put m n lists name (first ∷ rest) is some u =
    map-insert nat_list_cmp_total names_apart m n name (first ∷ rest) u ∙ ap (λ l. finmap.insert l name (first ∷ rest)) is

-- to put a queue into its place and to take it out again is to take out the old one
pub remove-insert : (lists : Lists) (name : List ℕ) (queue : List (ℕ × ℕ)) → finmap.remove (finmap.insert lists name queue) name ≡ finmap.remove lists name
remove-insert lists name queue =
    same_map nat_list_cmp_total names_apart _ _ (λ q. get-remove nat_list_cmp_total _ name q
    ∙ ap (cond (eq_by_cmp (slice_cmp nat_cmp) q name) None) (get-insert nat_list_cmp_total _ name queue q)
    ∙ later (eq_by_cmp (slice_cmp nat_cmp) q name) None (Some queue) (finmap.get lists q)
    ∙ sym (get-remove nat_list_cmp_total _ name q))

-- a queue that is taken out is none
pub with_list-taken : (m n p : Tree) (lists : Lists) (name : List ℕ) (queue : List (ℕ × ℕ)) → from_entries m.entries ≡ lists → queue ≡ []
    → SetsAt (slice_cmp nat_cmp) m n name (Some queue) → from_entries {R = slice_cmp nat_cmp} p.entries ≡ finmap.remove (from_entries n.entries) name
    → from_entries p.entries ≡ with_list lists name queue
with_list-taken m n p lists name queue is none u r =
    r ∙ ap (λ l. finmap.remove l name) (map-insert nat_list_cmp_total names_apart m n name queue u) ∙ remove-insert _ name queue
    ∙ ap (λ l. finmap.remove l name) is ∙ sym (ap (with_list lists name) none)

-- nothing is taken out where the name is not kept
pub with_list-missed : (lists : Lists) (name : List ℕ) → finmap.get lists name ≡ None → lists ≡ with_list lists name []
with_list-missed lists name missed =
    same_map nat_list_cmp_total names_apart _ _ (λ q. sym (get-remove nat_list_cmp_total _ name q
    ∙ same_write (eq_by_cmp (slice_cmp nat_cmp) q name) None (finmap.get lists q)
    (λ tied. ap (finmap.get lists) (names_apart q name (equal_of_tie _ tied)) ∙ missed)))

-- a queue that stays as it was
pub lists-kept : (m n : Tree) (lists : Lists) (name : List ℕ) (queue : List (ℕ × ℕ)) → from_entries m.entries ≡ lists
    → tree.get (slice_cmp nat_cmp) m name ≡ Some queue → SetsAt (slice_cmp nat_cmp) m n name (Some queue) → from_entries n.entries ≡ lists
lists-kept m n lists name queue is found u =
    same_map nat_list_cmp_total names_apart _ _ (λ q. get-map nat_list_cmp_total n q ∙ u q
    ∙ same_write (is_at (slice_cmp nat_cmp name) q) (Some queue) (tree.get (slice_cmp nat_cmp) m q)
    (λ tied. ap (tree.get (slice_cmp nat_cmp) m) (sym (names_apart name q (equal_of_tie _ tied))) ∙ found)
    ∙ sym (get-map nat_list_cmp_total m q)) ∙ is

-- the length of a queue tells whether it is empty
pub not_empty : (queue : List (ℕ × ℕ)) → (length queue == 0) ≡ false → queue ≢ []
not_empty [] h e = cc
not_empty (first ∷ rest) h e = cc

pub empty : (queue : List (ℕ × ℕ)) → (length queue == 0) ≡ true → queue ≡ []
empty [] h = refl
empty (first ∷ rest) h = absurd (omega (arith, eqb-true (length (first ∷ rest)) 0 h))

-- a tree that finds none keeps none
pub get-missed : (m : Tree) (lists : Lists) (name : List ℕ) → from_entries m.entries ≡ lists
    → tree.get (slice_cmp nat_cmp) m name ≡ None → finmap.get lists name ≡ None
get-missed m lists name is missed = ap (λ l. finmap.get l name) (sym is) ∙ get-map nat_list_cmp_total m name ∙ missed

pub some_is : {X : Type 0} {o : Option X} {x : X} → o ≡ Some x → IsSome o
some_is e = ap is_some e

pub on_ok : {T E : Type 0} (r : Result T E) {P Q : Type 0} → (P → Q) → OnOk r P → OnOk r Q
on_ok (Ok x) f p = f p
on_ok (Err e) f p = p

pub on_err : {T E : Type 0} (r : Result T E) {P Q : Type 0} → (P → Q) → OnErr r P → OnErr r Q
on_err (Ok x) f p = p
on_err (Err e) f p = f p

-- a request leaves no list empty
pub requested-not_empty : (list : List (ℕ × ℕ)) (conn flags : ℕ) → (requested list conn flags).0 ≢ []
requested-not_empty [] conn flags e = cc
requested-not_empty (first ∷ rest) conn flags e = grind (arith, common_steps)

-- a queue that is new in its place
pub with_list-new : (lists : Lists) (name : List ℕ) (queue : List (ℕ × ℕ)) → queue ≢ [] → finmap.insert lists name queue ≡ with_list lists name queue
with_list-new lists name [] some = absurd (some refl)
with_list-new lists name (first ∷ rest) some = refl
