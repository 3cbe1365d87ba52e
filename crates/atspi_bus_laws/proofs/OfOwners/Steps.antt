-- Each call keeps the owners orderly.
use Rattle.std.proofs.Common.{◌≡◌, ◌≢◌, ℕ, ◌+◌, ◌<◌, ◌≤◌, ◌^◌, true, false, cond, List, [], ◌∷◌, refl, sym, ap, subst, ◌∙◌, inl, inr, arith}
use Rattle.std.specs.Prelude.{Some, None, unwrap_or, ◌⊎◌, ◌==◌}
use Rattle.std.proofs.lemmas.Bool.{eqb-true, eq-eqb}
use Rattle.std.specs.Ordering.{nat_cmp, eq_by_cmp}
use Rattle.std.specs.Cmp.{nat_cmp_total}
use Rattle.std.specs.Cmp.Lexicographic.{slice_cmp}
use Rattle.std.specs.BTreeMap.{is_at}
use Rattle.std.specs.FinMap as finmap
use Rattle.std.specs.FinMap.{FinMap, get-empty, get-insert, get-remove}
use Rattle.atspi_base.specs.valid_names.Names.{is_unique_name}
use Rattle.atspi_names.specs.Queue.{requested, released, without, owner_in}
use Rattle.atspi_names.specs.Owners.{Owners, list_of, with_list, lists_without, unique_name, nobody, after_hello, after_request, after_release, after_gone}
use Rattle.atspi_names.proofs.BookLemmas.{list_here, list_of-with_list, list_of-lists_without, by_test, same_conn, other_conn, same_name}
use Rattle.atspi_names.proofs.OwnersLemmas.{list_elsewhere, early-empty, early-well_known, early-gone, early-hello}
use Rattle.atspi_names.proofs.UniqueLemmas.{unique_name-injective}
use Rattle.atspi_bus_laws.specs.owners.Orderly.{times, IsOrderly}
use Rattle.atspi_bus_laws.proofs.OfOwners.Times.{times-without, times-requested, times-released}

-- at the beginning
no_list : (name : List ℕ) → list_of finmap.empty name ≡ []
no_list name = ap (λ o. unwrap_or o []) (get-empty (slice_cmp nat_cmp) name)

nobody_has : (conn : ℕ) (name : List ℕ) → finmap.get {R = nat_cmp} finmap.empty conn ≡ Some name → ⊥
nobody_has conn name e = let no : None ≡ Some name = sym (get-empty nat_cmp conn) ∙ e in absurd cc

pub orderly-nobody : IsOrderly nobody
orderly-nobody = record {
  once = λ name conn. rw (no_list name) (omega arith);
  given_before = λ conn name e. absurd (nobody_has conn name e);
  alone = λ conn name e. absurd (nobody_has conn name e);
  has_it = λ conn n below e. let no : None ≡ Some conn = sym (ap owner_in (no_list (unique_name n))) ∙ e in absurd cc;
  none_early = early-empty 0 finmap.empty refl;
  few = omega arith;
}

-- the unique names are no well-known ones
apart : (name : List ℕ) (n : ℕ) → is_unique_name name ≡ false → unique_name n ≢ name
apart name n known e = let unique : is_unique_name name ≡ true = sym (ap is_unique_name e) in absurd cc

-- a list of a well-known name changes
pub orderly-changed : (owners : Owners) (name : List ℕ) (list : List (ℕ × ℕ)) → IsOrderly owners → is_unique_name name ≡ false
    → ((conn : ℕ) → times conn list ≤ 1) → IsOrderly (record owners { lists = with_list owners.lists name list })
orderly-changed owners name list orderly known once = record {
  once = λ q conn. rw (list_of-with_list owners.lists name list q) (by_test (is_at (slice_cmp nat_cmp name) q) _ (λ here. rw here (once conn)) (λ there. rw there (orderly.once q conn)));
  given_before = orderly.given_before;
  alone = λ conn q e. unchanged conn q e ∙ orderly.alone conn q e;
  has_it = λ conn n below e. orderly.has_it conn n below (sym (ap owner_in (list_elsewhere owners.lists name list (unique_name n) (apart name n known))) ∙ e);
  none_early = early-well_known owners.given owners.lists (with_list owners.lists name list) name list orderly.none_early known refl;
  few = orderly.few;
}
  where
    unchanged : (conn : ℕ) (q : List ℕ) → finmap.get owners.unique conn ≡ Some q → list_of (with_list owners.lists name list) q ≡ list_of owners.lists q
    unchanged conn q e =
        let was = orderly.given_before conn q e in
        list_elsewhere owners.lists name list q (λ same. apart name was.0 known (sym was.2 ∙ same))

pub orderly-request : (owners : Owners) (conn : ℕ) (name : List ℕ) (flags : ℕ) → IsOrderly owners → is_unique_name name ≡ false → IsOrderly (after_request owners conn name flags)
orderly-request owners conn name flags orderly known =
    orderly-changed owners name (requested (list_of owners.lists name) conn flags).0 orderly known
    (λ c. times-requested (list_of owners.lists name) conn flags c (orderly.once name c))

pub orderly-release : (owners : Owners) (conn : ℕ) (name : List ℕ) → IsOrderly owners → is_unique_name name ≡ false → IsOrderly (after_release owners conn name)
orderly-release owners conn name orderly known =
    orderly-changed owners name (released (list_of owners.lists name) conn).0 orderly known
    (λ c. times-released (list_of owners.lists name) conn c (orderly.once name c))

-- what the unique names are after a Hello
found : (unique : FinMap nat_cmp (List ℕ)) (conn c : ℕ) (name q : List ℕ) → finmap.get (finmap.insert unique conn name) c ≡ Some q
    → ((c ≡ conn) × (q ≡ name)) ⊎ (finmap.get unique c ≡ Some q)
found unique conn c name q e =
    let is : cond (eq_by_cmp nat_cmp c conn) (Some name) (finmap.get unique c) ≡ Some q = sym (get-insert nat_cmp_total unique conn name c) ∙ e in
    by_test (eq_by_cmp nat_cmp c conn) _
    (λ here. let same : Some name ≡ Some q = rw here at is in inl (sym (same_conn c conn here), cc))
    (λ there. let old : finmap.get unique c ≡ Some q = rw there at is in inr old)

pub orderly-hello : (owners : Owners) (conn : ℕ) → IsOrderly owners → finmap.get owners.unique conn ≡ None → owners.given < 4294967295 → IsOrderly (after_hello owners conn)
orderly-hello owners conn orderly new room = record {
  once = λ q c. rw (list_of-with_list owners.lists name list q) (by_test (is_at (slice_cmp nat_cmp name) q) _ (λ here. rw here (alone_once c)) (λ there. rw there (orderly.once q c)));
  given_before = λ c q e. given c q (found owners.unique conn c name q e);
  alone = λ c q e. listed c q (found owners.unique conn c name q e);
  has_it = has;
  none_early = early-hello owners.given owners.lists (with_list owners.lists name list) name list (omega arith) orderly.none_early refl refl;
  few = omega arith;
}
  where
    name : List ℕ
    name = unique_name owners.given

    list : List (ℕ × ℕ)
    list = (conn, 0) ∷ []

    alone_once : (c : ℕ) → times c ((conn, 0) ∷ []) ≤ 1
    alone_once c = by_test (conn == c) _ (λ here. rw here (omega arith)) (λ there. rw there (omega arith))

    given : (c : ℕ) (q : List ℕ) → ((c ≡ conn) × (q ≡ unique_name owners.given)) ⊎ (finmap.get owners.unique c ≡ Some q) → (n : ℕ) × (n < owners.given + 1) × (q ≡ unique_name n)
    given c q (inl same) = (owners.given, omega arith, same.1)
    given c q (inr old) = let was = orderly.given_before c q old in (was.0, omega (arith, was.1), was.2)

    later : (c : ℕ) (q : List ℕ) → finmap.get owners.unique c ≡ Some q → q ≢ unique_name owners.given
    later c q old same =
        let was = orderly.given_before c q old in
        let n : was.0 ≡ owners.given = unique_name-injective was.0 owners.given (omega (arith, was.1, orderly.few)) (omega (arith, orderly.few)) (sym was.2 ∙ same) in
        absurd (omega (arith, was.1, n))

    listed : (c : ℕ) (q : List ℕ) → ((c ≡ conn) × (q ≡ unique_name owners.given)) ⊎ (finmap.get owners.unique c ≡ Some q)
        → list_of (with_list owners.lists (unique_name owners.given) ((conn, 0) ∷ [])) q ≡ (c, 0) ∷ []
    listed c q (inl same) =
        ap (list_of (with_list owners.lists (unique_name owners.given) ((conn, 0) ∷ []))) same.1
        ∙ list_here owners.lists (unique_name owners.given) ((conn, 0) ∷ []) ∙ ap (λ m. (m, 0) ∷ []) (sym same.0)
    listed c q (inr old) = list_elsewhere owners.lists (unique_name owners.given) ((conn, 0) ∷ []) q (later c q old) ∙ orderly.alone c q old

    has : (c n : ℕ) → n < 2 ^ 32 → owner_in (list_of (with_list owners.lists (unique_name owners.given) ((conn, 0) ∷ [])) (unique_name n)) ≡ Some c
        → finmap.get (finmap.insert owners.unique conn (unique_name owners.given)) c ≡ Some (unique_name n)
    has c n below e =
        let is : owner_in (cond (is_at (slice_cmp nat_cmp (unique_name owners.given)) (unique_name n)) ((conn, 0) ∷ []) (list_of owners.lists (unique_name n))) ≡ Some c
        = sym (ap owner_in (list_of-with_list owners.lists (unique_name owners.given) ((conn, 0) ∷ []) (unique_name n))) ∙ e in
        by_test (is_at (slice_cmp nat_cmp (unique_name owners.given)) (unique_name n)) _
        (λ here.
        let owner : Some conn ≡ Some c = rw here at is in
        let same : conn ≡ c = cc in
        let named : unique_name n ≡ unique_name owners.given = same_name (unique_name owners.given) (unique_name n) here in
        subst (λ m. finmap.get (finmap.insert owners.unique conn (unique_name owners.given)) m ≡ Some (unique_name n)) same (own conn ∙ ap Some (sym named)))
        (λ there.
        let owner : owner_in (list_of owners.lists (unique_name n)) ≡ Some c = rw there at is in
        other c n (orderly.has_it c n below owner))
      where
        own : (m : ℕ) → finmap.get (finmap.insert owners.unique m (unique_name owners.given)) m ≡ Some (unique_name owners.given)
        own m =
            get-insert nat_cmp_total owners.unique m (unique_name owners.given) m
            ∙ by_test (eq_by_cmp nat_cmp m m) (cond (eq_by_cmp nat_cmp m m) (Some (unique_name owners.given)) (finmap.get owners.unique m) ≡ Some (unique_name owners.given))
            (λ here. rw here refl) (λ there. absurd (other_conn m m there refl))

        other : (d n : ℕ) → finmap.get owners.unique d ≡ Some (unique_name n) → finmap.get (finmap.insert owners.unique conn (unique_name owners.given)) d ≡ Some (unique_name n)
        other d n old =
            get-insert nat_cmp_total owners.unique conn (unique_name owners.given) d
            ∙ by_test (eq_by_cmp nat_cmp d conn) (cond (eq_by_cmp nat_cmp d conn) (Some (unique_name owners.given)) (finmap.get owners.unique d) ≡ Some (unique_name n))
            (λ here. let no : None ≡ Some (unique_name n) = sym new ∙ subst (λ m. finmap.get owners.unique m ≡ Some (unique_name n)) (sym (same_conn d conn here)) old in absurd cc)
            (λ there. rw there old)

-- what is left where a connection goes
left : (unique : FinMap nat_cmp (List ℕ)) (conn c : ℕ) (q : List ℕ) → finmap.get (finmap.remove unique conn) c ≡ Some q → (conn ≢ c) × (finmap.get unique c ≡ Some q)
left unique conn c q e =
    let is : cond (eq_by_cmp nat_cmp c conn) None (finmap.get unique c) ≡ Some q = sym (get-remove nat_cmp_total unique conn c) ∙ e in
    by_test (eq_by_cmp nat_cmp c conn) _
    (λ here. let no : None ≡ Some q = rw here at is in absurd cc)
    (λ there. let old : finmap.get unique c ≡ Some q = rw there at is in (other_conn c conn there, old))

stays : (unique : FinMap nat_cmp (List ℕ)) (conn c : ℕ) (q : List ℕ) → conn ≢ c → finmap.get unique c ≡ Some q → finmap.get (finmap.remove unique conn) c ≡ Some q
stays unique conn c q other old =
    get-remove nat_cmp_total unique conn c
    ∙ by_test (eq_by_cmp nat_cmp c conn) (cond (eq_by_cmp nat_cmp c conn) None (finmap.get unique c) ≡ Some q)
    (λ here. absurd (other (same_conn c conn here))) (λ there. rw there old)

-- a list of another connection alone stays
one_stays : (conn c : ℕ) → conn ≢ c → without conn ((c, 0) ∷ []) ≡ (c, 0) ∷ []
one_stays conn c other = by_test (c == conn) _ (λ here. absurd (other (sym (eqb-true c conn here)))) (λ there. rw there refl)

pub orderly-gone : (owners : Owners) (conn : ℕ) → IsOrderly owners → IsOrderly (after_gone owners conn)
orderly-gone owners conn orderly = record {
  once = λ q c. rw (list_of-lists_without conn owners.lists q) (omega (arith, times-without conn c (list_of owners.lists q), orderly.once q c));
  given_before = λ c q e. orderly.given_before c q (left owners.unique conn c q e).1;
  alone = λ c q e.
      let old = left owners.unique conn c q e in
      list_of-lists_without conn owners.lists q ∙ ap (without conn) (orderly.alone c q old.1) ∙ one_stays conn c old.0;
  has_it = λ c n below e. has c n below (list_of owners.lists (unique_name n)) refl (sym (ap owner_in (list_of-lists_without conn owners.lists (unique_name n))) ∙ e);
  none_early = early-gone owners.given conn owners.lists (lists_without conn owners.lists) orderly.none_early refl;
  few = orderly.few;
}
  where
    has : (c n : ℕ) → n < 2 ^ 32 → (list : List (ℕ × ℕ)) → list_of owners.lists (unique_name n) ≡ list → owner_in (without conn list) ≡ Some c
        → finmap.get (finmap.remove owners.unique conn) c ≡ Some (unique_name n)
    has c n below [] is e = absurd cc
    has c n below (first ∷ rest) is e =
        let had : finmap.get owners.unique first.0 ≡ Some (unique_name n) = orderly.has_it first.0 n below (ap owner_in is) in
        let one : first ∷ rest ≡ (first.0, 0) ∷ [] = sym is ∙ orderly.alone first.0 (unique_name n) had in
        let left : owner_in (without conn ((first.0, 0) ∷ [])) ≡ Some c = subst (λ l. owner_in (without conn l) ≡ Some c) one e in
        by_test (first.0 == conn) _
        (λ here. let no : None ≡ Some c = rw here at left in absurd cc)
        (λ there.
        let some : Some first.0 ≡ Some c = rw there at left in
        let same : first.0 ≡ c = cc in
        subst (λ m. finmap.get (finmap.remove owners.unique conn) m ≡ Some (unique_name n)) same
        (stays owners.unique conn first.0 (unique_name n) (λ e. let yes : (first.0 == conn) ≡ true = eq-eqb first.0 conn (sym e) in cc) had))

-- the owner of a unique name is the connection that has it
pub owner_is : (owners : Owners) (conn n : ℕ) → IsOrderly owners → finmap.get owners.unique conn ≡ Some (unique_name n) → owner_in (list_of owners.lists (unique_name n)) ≡ Some conn
owner_is owners conn n orderly has = ap owner_in (orderly.alone conn (unique_name n) has)
