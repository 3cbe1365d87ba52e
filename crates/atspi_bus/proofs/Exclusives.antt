-- Unique names stay their connections' alone.
use Rattle.std.proofs.Common.{◌≡◌, ◌≢◌, ℕ, ◌<◌, Bool, true, false, cond, not, List, [], ◌∷◌, None, Some, inl, inr, ◌⊎◌, refl, sym, ap, ◌∙◌, arith}
use Rattle.std.proofs.lemmas.Bool.Decides.{Decides-eqb}
use Rattle.std.specs.Prelude.{◌==◌}
use Rattle.std.specs.Ordering.{nat_cmp, eq_by_cmp}
use Rattle.std.specs.Cmp.{nat_cmp_total, eq_by_cmp_equiv}
use Rattle.std.specs.FinMap as finmap
use Rattle.std.specs.FinMap.{FinMap, get-empty, get-insert, get-remove}
use Rattle.atspi_base.specs.valid_names.Names.{is_unique_name}
use Rattle.atspi_names.specs.Queue.{requested, released, without}
use Rattle.atspi_names.specs.Owners.{Owners, nobody, list_of, with_list, lists_without, unique_name, after_hello, after_request, after_release, after_gone}
use Rattle.atspi_names.proofs.BookLemmas.{by_test, same_conn, list_here, list_of-lists_without}
use Rattle.atspi_names.proofs.OwnersLemmas.{early-empty, early-well_known, early-hello, early-gone, list_elsewhere}
use Rattle.atspi_bus.specs.Exclusive.{IsExclusive}

pub exclusive-nobody : IsExclusive nobody
exclusive-nobody = record {
  named = λ conn name is. let h = sym (get-empty nat_cmp conn) ∙ is in cc;
  alone = λ conn name is. let h = sym (get-empty nat_cmp conn) ∙ is in cc;
  early = early-empty 0 finmap.empty refl;
}

-- a unique name is no other name
elsewhere : (q name : List ℕ) → is_unique_name q ≡ true → is_unique_name name ≡ false → q ≢ name
elsewhere q name unique known same = let h = sym unique ∙ ap is_unique_name same ∙ known in cc

exclusive-changed : (owners : Owners) (name : List ℕ) (list : List (ℕ × ℕ)) → IsExclusive owners → is_unique_name name ≡ false → IsExclusive (record owners { lists = with_list owners.lists name list })
exclusive-changed owners name list was known = record {
  named = was.named;
  alone = λ c q is. list_elsewhere owners.lists name list q (elsewhere q name (was.named c q is) known) ∙ was.alone c q is;
  early = early-well_known owners.given owners.lists (with_list owners.lists name list) name list was.early known refl;
}

pub exclusive-request : (owners : Owners) (conn : ℕ) (name : List ℕ) (flags : ℕ) → IsExclusive owners → is_unique_name name ≡ false → IsExclusive (after_request owners conn name flags)
exclusive-request owners conn name flags was known = exclusive-changed owners name (requested (list_of owners.lists name) conn flags).0 was known

pub exclusive-release : (owners : Owners) (conn : ℕ) (name : List ℕ) → IsExclusive owners → is_unique_name name ≡ false → IsExclusive (after_release owners conn name)
exclusive-release owners conn name was known = exclusive-changed owners name (released (list_of owners.lists name) conn).0 was known

-- what the unique names are after a Hello
found : (unique : FinMap nat_cmp (List ℕ)) (conn c : ℕ) (name q : List ℕ) → finmap.get (finmap.insert unique conn name) c ≡ Some q
    → ((c ≡ conn) × (q ≡ name)) ⊎ (finmap.get unique c ≡ Some q)
found unique conn c name q e =
    let is : cond (eq_by_cmp nat_cmp c conn) (Some name) (finmap.get unique c) ≡ Some q = sym (get-insert nat_cmp_total unique conn name c) ∙ e in
    by_test (eq_by_cmp nat_cmp c conn) _
    (λ here. let same : Some name ≡ Some q = rw here at is in inl (sym (same_conn c conn here), cc))
    (λ there. let old : finmap.get unique c ≡ Some q = rw there at is in inr old)

pub exclusive-hello : (owners : Owners) (conn : ℕ) → IsExclusive owners → owners.given < 4294967296 → IsExclusive (after_hello owners conn)
exclusive-hello owners conn was room = record {
  named = λ c q e. unique c q (found owners.unique conn c (unique_name owners.given) q e);
  alone = λ c q e. listed c q (found owners.unique conn c (unique_name owners.given) q e);
  early =
      early-hello owners.given owners.lists (with_list owners.lists (unique_name owners.given) ((conn, 0) ∷ [])) (unique_name owners.given) ((conn, 0) ∷ []) (omega arith) was.early
      refl refl;
}
  where
    unique : (c : ℕ) (q : List ℕ) → ((c ≡ conn) × (q ≡ unique_name owners.given)) ⊎ (finmap.get owners.unique c ≡ Some q) → is_unique_name q ≡ true
    unique c q (inl same) = ap is_unique_name same.1
    unique c q (inr old) = was.named c q old

    listed : (c : ℕ) (q : List ℕ) → ((c ≡ conn) × (q ≡ unique_name owners.given)) ⊎ (finmap.get owners.unique c ≡ Some q)
        → list_of (with_list owners.lists (unique_name owners.given) ((conn, 0) ∷ [])) q ≡ (c, 0) ∷ []
    listed c q (inl same) =
        ap (list_of (with_list owners.lists (unique_name owners.given) ((conn, 0) ∷ []))) same.1 ∙ list_here owners.lists (unique_name owners.given) ((conn, 0) ∷ [])
        ∙ ap (λ x. (x, 0) ∷ []) (sym same.0)
    listed c q (inr old) =
        let other : q ≢ unique_name owners.given = λ same. let h = sym (was.alone c q old) ∙ ap (list_of owners.lists) same ∙ was.early owners.given (omega arith) (omega arith) in cc in
        list_elsewhere owners.lists (unique_name owners.given) ((conn, 0) ∷ []) q other ∙ was.alone c q old

-- another connection keeps its unique name
kept : (owners : Owners) (conn c : ℕ) (name : List ℕ) → finmap.get (finmap.remove owners.unique conn) c ≡ Some name → (c ≢ conn) × (finmap.get owners.unique c ≡ Some name)
kept owners conn c name is = by (eq_by_cmp nat_cmp c conn) refl
  where
    by : (b : Bool) → eq_by_cmp nat_cmp c conn ≡ b → (c ≢ conn) × (finmap.get owners.unique c ≡ Some name)
    by true tied = let h = sym (get-remove nat_cmp_total owners.unique conn c ∙ ap (λ b. cond b None (finmap.get owners.unique c)) tied) ∙ is in cc
    by false tied = (
      (λ same. let t = sym (ap (λ x. eq_by_cmp nat_cmp x conn) same ∙ (eq_by_cmp_equiv nat_cmp_total).refl conn) ∙ tied in cc),
      sym (get-remove nat_cmp_total owners.unique conn c ∙ ap (λ b. cond b None (finmap.get owners.unique c)) tied) ∙ is,
    )

stays : (conn c : ℕ) → c ≢ conn → without conn ((c, 0) ∷ []) ≡ (c, 0) ∷ []
stays conn c other = ap (λ b. cond (not b) ((c, 0) ∷ []) []) (apart (c == conn) refl)
  where
    apart : (b : Bool) → (c == conn) ≡ b → (c == conn) ≡ false
    apart true is = absurd (other ((Decides-eqb c conn).0 is))
    apart false is = is

pub exclusive-gone : (owners : Owners) (conn : ℕ) → IsExclusive owners → IsExclusive (after_gone owners conn)
exclusive-gone owners conn was = record {
  named = λ c q e. was.named c q (kept owners conn c q e).1;
  alone = λ c q e.
      let other = kept owners conn c q e in
      list_of-lists_without conn owners.lists q ∙ ap (without conn) (was.alone c q other.1) ∙ stays conn c other.0;
  early = early-gone owners.given conn owners.lists (lists_without conn owners.lists) was.early refl;
}
