-- A Hello that is taken back.
use Rattle.std.proofs.Common.{◌≡◌, ◌≢◌, ℕ, ◌+◌, ◌<◌, ◌^◌, cond, List, [], ◌∷◌, sym, ap, ◌∙◌, arith}
use Rattle.std.proofs.lemmas.Grind.{common_steps}
use Rattle.std.specs.Prelude.{unwrap_or, Some, None}
use Rattle.std.specs.Ordering.{nat_cmp, eq_by_cmp}
use Rattle.std.specs.declared.cmp.Ordering.{Ordering}
use Rattle.std.specs.Cmp.{IsTotalOrder, eq_by_cmp_equiv, nat_cmp_total}
use Rattle.std.specs.Cmp.Lexicographic.{nat_list_cmp_total}
use Rattle.std.specs.BTreeMap.{is_at}
use Rattle.std.specs.FinMap as finmap
use Rattle.std.specs.FinMap.{FinMap, IsAntisymmetric, get-insert, get-remove, same_map, nat_cmp-IsAntisymmetric}
use Rattle.atspi_names.specs.Queue.{released, without}
use Rattle.atspi_names.specs.Owners.{Lists, Owners, list_of, with_list, unique_name, NoneTooEarly}
use Rattle.atspi_names.specs.Hello.{IsAfterHello}
use Rattle.atspi_names.proofs.Maps.{later, same_write, equal_of_tie}
use Rattle.atspi_names.proofs.ListsLemmas.{names_apart}
use Rattle.atspi_names.proofs.BookLemmas.{by_test, same_conn, other_conn, list_here}
use Rattle.atspi_names.proofs.OwnersLemmas.{list_elsewhere}
use Rattle.atspi_names.proofs.UniqueLemmas.{unique_name-injective}

-- a value that is put where there was none, and taken out again
put_and_taken : {K X : Type 0} {R : K → K → Ordering} → IsTotalOrder R → IsAntisymmetric R → (m : FinMap R X) (k : K) (v : X) → finmap.get m k ≡ None
    → finmap.remove (finmap.insert m k v) k ≡ m
put_and_taken {R} o same m k v none = same_map o same _ _ (λ q. get-remove o (finmap.insert m k v) k q ∙ ap (cond (eq_by_cmp R q k) None) (get-insert o m k v q)
    ∙ later (eq_by_cmp R q k) None (Some v) (finmap.get m q)
    ∙ same_write (eq_by_cmp R q k) None (finmap.get m q) (λ tied. ap (finmap.get m) (same q k (equal_of_tie _ tied)) ∙ none))

-- one that stands alone in a list leaves nobody there
without-alone : (conn flags : ℕ) → without conn ((conn, flags) ∷ []) ≡ []
without-alone conn flags = grind (arith, common_steps)

-- the connection has the name that it got
pub hello-named : (before now : Owners) (conn : ℕ) → IsAfterHello before now conn → finmap.get now.unique conn ≡ Some (unique_name before.given)
hello-named before now conn h =
    ap (λ (o : Owners). finmap.get o.unique conn) h.is ∙ get-insert nat_cmp_total before.unique conn (unique_name before.given) conn
    ∙ ap (λ b. cond b (Some (unique_name before.given)) (finmap.get before.unique conn)) ((eq_by_cmp_equiv nat_cmp_total).refl conn)

-- the lists without that of the name that it got
pub lists-taken_back : (before now : Owners) (conn : ℕ) (lists : Lists) (name : List ℕ) → IsAfterHello before now conn → name ≡ unique_name before.given
    → lists ≡ with_list now.lists name (released (list_of now.lists name) conn).0 → lists ≡ before.lists
lists-taken_back before now conn lists name h named is =
    let got = unique_name before.given in
    let alone : List (ℕ × ℕ) = (conn, 0) ∷ [] in
    is ∙ ap (λ n. with_list now.lists n (released (list_of now.lists n) conn).0) named
    ∙ ap (λ (o : Owners). with_list o.lists got (released (list_of o.lists got) conn).0) h.is
    ∙ ap (λ l. with_list (finmap.insert before.lists got alone) got (released l conn).0) (list_here before.lists got alone)
    ∙ ap (with_list (finmap.insert before.lists got alone) got) (without-alone conn 0)
    ∙ put_and_taken nat_list_cmp_total names_apart before.lists got alone h.free

pub unique-taken_back : (before now : Owners) (conn : ℕ) → IsAfterHello before now conn → finmap.remove now.unique conn ≡ before.unique
unique-taken_back before now conn h =
    ap (λ (o : Owners). finmap.remove o.unique conn) h.is ∙ put_and_taken nat_cmp_total nat_cmp-IsAntisymmetric before.unique conn (unique_name before.given) h.unnamed

-- the name that was taken back is nobody's, as those behind it
pub early-taken_back : (before now : Owners) (conn given : ℕ) (lists : Lists) → IsAfterHello before now conn → now.given < 2 ^ 32 → NoneTooEarly now.given now.lists
    → given + 1 ≡ now.given → lists ≡ before.lists → NoneTooEarly given lists
early-taken_back before now conn given lists h small early less is n from below =
    let one = ap (λ (o : Owners). o.given) h.is in
    ap (λ l. list_of l (unique_name n)) is
    ∙ by_test (is_at (nat_cmp before.given) n) (list_of before.lists (unique_name n) ≡ [])
    (λ here. ap (λ k. list_of before.lists (unique_name k)) (same_conn before.given n here) ∙ ap (λ o. unwrap_or o []) h.free)
    (λ there.
    let other : n ≢ before.given = other_conn before.given n there in
    sym (list_elsewhere before.lists (unique_name before.given) ((conn, 0) ∷ []) (unique_name n)
    (λ e. other (unique_name-injective n before.given below (omega arith) e)))
    ∙ sym (ap (λ (o : Owners). list_of o.lists (unique_name n)) h.is)
    ∙ early n (omega arith) below)
