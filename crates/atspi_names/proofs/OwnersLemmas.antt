-- Owners after a call.
use Rattle.std.proofs.Common.{◌≡◌, ◌≢◌, ℕ, ◌+◌, ◌<◌, ◌^◌, true, false, cond, List, [], ◌∷◌, sym, ap, ◌∙◌, arith}
use Rattle.std.specs.Prelude.{unwrap_or, Some, None}
use Rattle.std.specs.Ordering.{nat_cmp, eq_by_cmp}
use Rattle.std.specs.Cmp.{nat_cmp_total}
use Rattle.std.specs.Cmp.Lexicographic.{slice_cmp}
use Rattle.std.specs.BTreeMap.{is_at}
use Rattle.std.specs.FinMap as finmap
use Rattle.std.specs.FinMap.{FinMap, get-empty, get-insert, get-remove}
use Rattle.atspi_base.specs.valid_names.Names.{is_unique_name}
use Rattle.atspi_names.specs.Queue.{requested, without}
use Rattle.atspi_names.specs.Owners.{Lists, Owners, list_of, with_list, lists_without, unique_name, NoneTooEarly}
use Rattle.atspi_names.proofs.BookLemmas.{list_of-with_list, list_of-lists_without, by_test, same_name, same_conn}
use Rattle.atspi_names.proofs.UniqueLemmas.{unique_name-injective}

pub same_owners : {g h : ℕ} {u v : FinMap nat_cmp (List ℕ)} {l m : Lists} → g ≡ h → u ≡ v → l ≡ m
    → ◌≡◌ {A = Owners} (record { given = g; unique = u; lists = l }) (record { given = h; unique = v; lists = m })
same_owners e f k = λ i. record { given = e i; unique = f i; lists = k i }

pub early-empty : (given : ℕ) (lists : Lists) → lists ≡ finmap.empty → NoneTooEarly given lists
early-empty given lists none n from below =
    ap (λ l. unwrap_or (finmap.get l (unique_name n)) []) none ∙ ap (λ o. unwrap_or o []) (get-empty (slice_cmp nat_cmp) (unique_name n))

-- a list that changes, of another name
pub list_elsewhere : (lists : Lists) (name : List ℕ) (list : List (ℕ × ℕ)) (q : List ℕ) → q ≢ name → list_of (with_list lists name list) q ≡ list_of lists q
list_elsewhere lists name list q other =
    by_test (is_at (slice_cmp nat_cmp name) q) _ (λ here. absurd (other (same_name name q here)))
    (λ there. list_of-with_list lists name list q ∙ ap (λ b. cond b list (list_of lists q)) there)

pub early-well_known : (given : ℕ) (lists new : Lists) (name : List ℕ) (list : List (ℕ × ℕ)) → NoneTooEarly given lists → is_unique_name name ≡ false
    → new ≡ with_list lists name list → NoneTooEarly given new
early-well_known given lists new name list early known is n from below =
    ap (λ l. list_of l (unique_name n)) is
    ∙ list_elsewhere lists name list (unique_name n) (λ e. let unique : is_unique_name name ≡ true = sym (ap is_unique_name e) in cc)
    ∙ early n from below

pub early-hello : (given : ℕ) (lists new : Lists) (name : List ℕ) (list : List (ℕ × ℕ)) → given < 2 ^ 32 → NoneTooEarly given lists → name ≡ unique_name given
    → new ≡ with_list lists name list → NoneTooEarly (given + 1) new
early-hello given lists new name list small early named is n from below =
    ap (λ l. list_of l (unique_name n)) is
    ∙ list_elsewhere lists name list (unique_name n) (λ e. let same : n ≡ given = unique_name-injective n given below small (e ∙ named) in absurd (omega arith))
    ∙ early n (omega arith) below

pub early-gone : (given conn : ℕ) (lists new : Lists) → NoneTooEarly given lists → new ≡ lists_without conn lists → NoneTooEarly given new
early-gone given conn lists new early is n from below =
    ap (λ l. list_of l (unique_name n)) is ∙ list_of-lists_without conn lists (unique_name n) ∙ ap (without conn) (early n from below)

-- a name that nobody has goes to the one that asks
pub lists-hello : (given conn : ℕ) (lists new : Lists) (name : List ℕ) → given < 2 ^ 32 → NoneTooEarly given lists → name ≡ unique_name given
    → new ≡ with_list lists name (requested (list_of lists name) conn 0).0 → new ≡ finmap.insert lists (unique_name given) ((conn, 0) ∷ [])
lists-hello given conn lists new name small early named is =
    is ∙ ap (λ n. with_list lists n (requested (list_of lists n) conn 0).0) named
    ∙ ap (λ l. with_list lists (unique_name given) (requested l conn 0).0) (early given (omega arith) small)

-- a connection has no unique name where another says hello, and where one leaves
pub none_after_insert : (unique : FinMap nat_cmp (List ℕ)) (conn c : ℕ) (name : List ℕ) → c ≢ conn → finmap.get unique c ≡ None
    → finmap.get (finmap.insert unique conn name) c ≡ None
none_after_insert unique conn c name other none =
    get-insert nat_cmp_total unique conn name c
    ∙ by_test (eq_by_cmp nat_cmp c conn) (cond (eq_by_cmp nat_cmp c conn) (Some name) (finmap.get unique c) ≡ None)
    (λ here. absurd (other (sym (same_conn c conn here)))) (λ there. rw there none)

pub none_after_remove : (unique : FinMap nat_cmp (List ℕ)) (conn c : ℕ) → finmap.get unique c ≡ None → finmap.get (finmap.remove unique conn) c ≡ None
none_after_remove unique conn c none =
    get-remove nat_cmp_total unique conn c
    ∙ by_test (eq_by_cmp nat_cmp c conn) (cond (eq_by_cmp nat_cmp c conn) None (finmap.get unique c) ≡ None) (λ here. rw here) (λ there. rw there none)
