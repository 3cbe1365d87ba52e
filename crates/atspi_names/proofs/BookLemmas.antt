-- Lists of names that change, and where connections then stand.
use Rattle.std.proofs.Common.{◌≡◌, ◌≢◌, ℕ, Bool, true, false, cond, not, ◌&&◌, ◌||◌, ◌==◌, List, [], ◌∷◌, ◌++◌, map, length, T, refl, sym, ap, ◌∙◌, subst, arith}
use Rattle.std.proofs.lemmas.Grind.{common_steps}
use Rattle.std.specs.Prelude.{Option, Some, None, unwrap_or, is_some, filter}
use Rattle.std.specs.Option.{option_map}
use Rattle.std.specs.Ordering.{nat_cmp, eq_by_cmp, is_lt}
use Rattle.std.specs.declared.cmp.Ordering.{Ordering}
use Rattle.std.specs.declared.cmp.Ordering.TheVariants.{Less, Equal, Greater}
use Rattle.std.specs.Cmp.{eq_by_cmp_equiv, nat_cmp_total}
use Rattle.std.specs.Cmp.Lexicographic.{slice_cmp, nat_list_cmp_total}
use Rattle.std.specs.BTreeMap.{is_at}
use Rattle.std.specs.Map.{keys_of}
use Rattle.std.specs.List.{AllByRecursion, list_any}
use Rattle.std.specs.List.Sorted.{IsStrictlySortedBy}
use Rattle.std.proofs.lemmas.Map.Keys.{IsDistinct-from_sorted}
use Rattle.std.proofs.lemmas.Map.Entries.{option_filter, lookup-filter-values}
use Rattle.std.proofs.lemmas.Map.Made.{lookup-map_values}
use Rattle.std.specs.FinMap as finmap
use Rattle.std.proofs.lemmas.Bool.{and_parts}
use Rattle.atspi_base.specs.valid_names.Names.{is_unique_name}
use Rattle.std.specs.FinMap.{contains_key-keys, is_sorted, entries_sorted, get-entries, get-from_entries, get-insert, get-remove, get-empty, same_map, nat_cmp-IsAntisymmetric}
use Rattle.std.specs.FinMap.Entries.{below_all, find, where_key, find-where_key, is_sorted-where_key, same_entries}
use Rattle.atspi_names.specs.Queue.{stands, without, with_flags, requested, released, owner_in, owns, IsRequestAnswer, request_change}
use Rattle.atspi_names.specs.declared.change.OwnerChange.{OwnerChange}
use Rattle.atspi_names.specs.Owners.{Lists, list_of, with_list, lists_without, owned_by, HasNoEmptyList}
use Rattle.atspi_names.specs.Standings.{Standings, notes, is_pair, SetsNote, ForgetsConnection}
use Rattle.atspi_names.specs.Book.{Mirrors, IsKept}
use Rattle.atspi_names.proofs.Maps.{equal_of_tie, find-lookup, is_sorted-from}
use Rattle.atspi_names.proofs.ListsLemmas.{names_apart}

both-0 : (a b : Bool) → T (a && b) → T a
both-0 true b h = tt
both-0 false b h = h

both-1 : (a b : Bool) → T (a && b) → T b
both-1 true b h = h
both-1 false b h = absurd h

less_of : (r : Ordering) → T (is_lt r) → r ≡ Less
less_of Less h = refl
less_of Equal h = absurd h
less_of Greater h = absurd h

-- ---- one list

-- the list of a name, or nothing where it is empty
abbrev pub kept : List (ℕ × ℕ) → Option (List (ℕ × ℕ))
kept [] = None
kept (first ∷ rest) = Some (first ∷ rest)

list_of-cond : (b : Bool) (x : Option (List (ℕ × ℕ))) (y : Option (List (ℕ × ℕ))) → unwrap_or (cond b x y) [] ≡ cond b (unwrap_or x []) (unwrap_or y [])
list_of-cond true x y = refl
list_of-cond false x y = refl

turned : (name q : List ℕ) → eq_by_cmp (slice_cmp nat_cmp) q name ≡ is_at (slice_cmp nat_cmp name) q
turned name q = (eq_by_cmp_equiv nat_list_cmp_total).symm q name

pub list_of-with_list : (lists : Lists) (name : List ℕ) (list : List (ℕ × ℕ)) (q : List ℕ)
    → list_of (with_list lists name list) q ≡ cond (is_at (slice_cmp nat_cmp name) q) list (list_of lists q)
list_of-with_list lists name [] q =
    ap (λ o. unwrap_or o []) (get-remove nat_list_cmp_total lists name q ∙ ap (λ b. cond b None (finmap.get lists q)) (turned name q))
    ∙ list_of-cond (is_at (slice_cmp nat_cmp name) q) None (finmap.get lists q)
list_of-with_list lists name (first ∷ rest) q =
    ap (λ o. unwrap_or o []) (get-insert nat_list_cmp_total lists name (first ∷ rest) q ∙ ap (λ b. cond b (Some (first ∷ rest)) (finmap.get lists q)) (turned name q))
    ∙ list_of-cond (is_at (slice_cmp nat_cmp name) q) (Some (first ∷ rest)) (finmap.get lists q)

-- no list becomes empty
not_some : (b : Bool) (x y : Option (List (ℕ × ℕ))) → x ≢ Some [] → y ≢ Some [] → cond b x y ≢ Some []
not_some true x y h g = h
not_some false x y h g = g

pub no_empty-with_list : (lists : Lists) (name : List ℕ) (list : List (ℕ × ℕ)) → HasNoEmptyList lists → HasNoEmptyList (with_list lists name list)
no_empty-with_list lists name [] h q e = not_some (eq_by_cmp (slice_cmp nat_cmp) q name) None (finmap.get lists q) (λ none. cc) (h q) (sym (get-remove nat_list_cmp_total lists name q) ∙ e)
no_empty-with_list lists name (first ∷ rest) h q e =
    not_some (eq_by_cmp (slice_cmp nat_cmp) q name) (Some (first ∷ rest)) (finmap.get lists q) (λ none. cc) (h q) (sym (get-insert nat_list_cmp_total lists name (first ∷ rest) q) ∙ e)

pub get-kept : (lists : Lists) → HasNoEmptyList lists → (q : List ℕ) → finmap.get lists q ≡ kept (list_of lists q)
get-kept lists h q = go (finmap.get lists q) (h q)
  where
    go : (o : Option (List (ℕ × ℕ))) → o ≢ Some [] → o ≡ kept (unwrap_or o [])
    go None n = refl
    go (Some []) n = absurd (n refl)
    go (Some (first ∷ rest)) n = refl

-- ---- the order of the names

all_below : {X : Type 0} (x : List ℕ) (es : List (List ℕ × X)) → T (below_all (slice_cmp nat_cmp) x es) → AllByRecursion (λ y. slice_cmp nat_cmp x y ≡ Less) (keys_of es)
all_below x [] h = tt
all_below x (e ∷ es) h = (less_of (slice_cmp nat_cmp x e.0) (both-0 (is_lt (slice_cmp nat_cmp x e.0)) _ h), all_below x es (both-1 (is_lt (slice_cmp nat_cmp x e.0)) _ h))

pub strictly_sorted : {X : Type 0} (es : List (List ℕ × X)) → T (is_sorted (slice_cmp nat_cmp) es) → IsStrictlySortedBy (slice_cmp nat_cmp) (keys_of es)
unfolding IsStrictlySortedBy
strictly_sorted [] h = tt
strictly_sorted (e ∷ es) h = (all_below e.0 es (both-0 (below_all (slice_cmp nat_cmp) e.0 es) _ h), strictly_sorted es (both-1 (below_all (slice_cmp nat_cmp) e.0 es) _ h))

keys_mapped : {X Y : Type 0} (f : X → Y) (es : List (List ℕ × X)) → keys_of (map (λ (e : List ℕ × X). (e.0, f e.1)) es) ≡ keys_of es
keys_mapped f [] = refl
keys_mapped f (e ∷ es) = ap (λ ks. e.0 ∷ ks) (keys_mapped f es)

sorted_mapped : {X Y : Type 0} (f : X → Y) (es : List (List ℕ × X)) → IsStrictlySortedBy (slice_cmp nat_cmp) (keys_of es)
    → IsStrictlySortedBy (slice_cmp nat_cmp) (keys_of (map (λ (e : List ℕ × X). (e.0, f e.1)) es))
sorted_mapped f es h = subst (IsStrictlySortedBy (slice_cmp nat_cmp)) (sym (keys_mapped f es)) h

-- ---- a connection leaves all lists

kept-without : (conn : ℕ) (o : Option (List (ℕ × ℕ))) → option_filter (λ l. not (length l == 0)) (option_map (without conn) o) ≡ kept (without conn (unwrap_or o []))
kept-without conn None = refl
kept-without conn (Some list) = go (without conn list)
  where
    go : (list : List (ℕ × ℕ)) → option_filter (λ l. not (length l == 0)) (Some list) ≡ kept list
    go [] = refl
    go (first ∷ rest) = grind (arith, common_steps)

-- each name has what is left of its list
pub get-lists_without : (conn : ℕ) (lists : Lists) (q : List ℕ) → finmap.get (lists_without conn lists) q ≡ kept (without conn (list_of lists q))
get-lists_without conn lists q =
    let R = slice_cmp nat_cmp in
    let es = finmap.entries lists in
    let mapped : List (List ℕ × List (ℕ × ℕ)) = map (λ (e : List ℕ × List (ℕ × ℕ)). (e.0, without conn e.1)) es in
    get-from_entries nat_list_cmp_total (filter (λ (e : List ℕ × List (ℕ × ℕ)). not (length e.1 == 0)) mapped) q
    ∙ find-lookup R q (filter (λ (e : List ℕ × List (ℕ × ℕ)). not (length e.1 == 0)) mapped)
    ∙ lookup-filter-values (eq_by_cmp_equiv nat_list_cmp_total) (λ l. not (length l == 0)) q mapped (IsDistinct-from_sorted R (keys_of mapped) (sorted_mapped (without conn) es (strictly_sorted es (entries_sorted lists))))
    ∙ ap (option_filter (λ l. not (length l == 0))) (lookup-map_values (without conn) (is_at (R q)) es)
    ∙ ap (λ o. option_filter (λ l. not (length l == 0)) (option_map (without conn) o)) (sym (find-lookup R q es) ∙ sym (get-entries lists q))
    ∙ kept-without conn (finmap.get lists q)

pub no_empty-lists_without : (conn : ℕ) (lists : Lists) → HasNoEmptyList (lists_without conn lists)
no_empty-lists_without conn lists q e = go (without conn (list_of lists q)) (sym (get-lists_without conn lists q) ∙ e)
  where
    go : (list : List (ℕ × ℕ)) → kept list ≢ Some []
    go [] e = cc
    go (first ∷ rest) e = cc

pub list_of-lists_without : (conn : ℕ) (lists : Lists) (q : List ℕ) → list_of (lists_without conn lists) q ≡ without conn (list_of lists q)
list_of-lists_without conn lists q = ap (λ o. unwrap_or o []) (get-lists_without conn lists q) ∙ go (without conn (list_of lists q))
  where
    go : (list : List (ℕ × ℕ)) → unwrap_or (kept list) [] ≡ list
    go [] = refl
    go (first ∷ rest) = refl

-- lists that agree name by name
pub lists_without-is : (conn : ℕ) (old new : Lists) → HasNoEmptyList new → ((q : List ℕ) → list_of new q ≡ without conn (list_of old q)) → new ≡ lists_without conn old
lists_without-is conn old new h is =
    same_map nat_list_cmp_total names_apart _ _ (λ q. get-kept new h q ∙ ap kept (is q) ∙ sym (get-lists_without conn old q))

-- ---- where connections stand

-- what holds of a test that passes or fails
pub by_test : (b : Bool) (P : Type 0) → (b ≡ true → P) → (b ≡ false → P) → P
by_test true P passes fails = passes refl
by_test false P passes fails = fails refl

pub same_conn : (conn c : ℕ) → is_at (nat_cmp conn) c ≡ true → c ≡ conn
same_conn conn c h = sym (nat_cmp-IsAntisymmetric conn c (equal_of_tie _ h))

pub same_name : (name q : List ℕ) → is_at (slice_cmp nat_cmp name) q ≡ true → q ≡ name
same_name name q h = sym (names_apart name q (equal_of_tie _ h))

pub other_conn : (conn c : ℕ) → is_at (nat_cmp conn) c ≡ false → c ≢ conn
other_conn conn c h e = let same : is_at (nat_cmp conn) c ≡ true = ap (is_at (nat_cmp conn)) e ∙ (eq_by_cmp_equiv nat_cmp_total).refl conn in cc

pub list_here : (lists : Lists) (name : List ℕ) (list : List (ℕ × ℕ)) → list_of (with_list lists name list) name ≡ list
list_here lists name list = list_of-with_list lists name list name ∙ ap (λ b. cond b list (list_of lists name)) ((eq_by_cmp_equiv nat_list_cmp_total).refl name)

-- to note what is noted changes nothing
pub same_note : (s : Standings) (conn : ℕ) (name : List ℕ) (b : Bool) → notes s conn name ≡ b → SetsNote s s conn name b
same_note s conn name b is c q =
    by_test (is_at (nat_cmp conn) c) _
    (λ here. by_test (is_at (slice_cmp nat_cmp name) q) _
    (λ there. rw (here, there) (ap (λ x. notes s x q) (same_conn conn c here) ∙ ap (notes s conn) (same_name name q there) ∙ is))
    (λ there. rw (here, there)))
    (λ here. rw here)

-- a note is set at its name alone
pub set_elsewhere : (s t : Standings) (conn : ℕ) (name : List ℕ) (b : Bool) → SetsNote s t conn name b
    → (c : ℕ) (q : List ℕ) → is_at (slice_cmp nat_cmp name) q ≡ false → notes t c q ≡ notes s c q
set_elsewhere s t conn name b sets c q other =
    sets c q ∙ by_test (is_at (nat_cmp conn) c) (cond (is_pair conn name c q) b (notes s c q) ≡ notes s c q) (λ here. rw (here, other)) (λ here. rw here)

pub set_here : (s t : Standings) (conn : ℕ) (name : List ℕ) (b : Bool) → SetsNote s t conn name b
    → (c : ℕ) → notes t c name ≡ cond (is_at (nat_cmp conn) c) b (notes s c name)
set_here s t conn name b sets c =
    let itself = (eq_by_cmp_equiv nat_list_cmp_total).refl name in
    sets c name ∙ by_test (is_at (nat_cmp conn) c) (cond (is_pair conn name c name) b (notes s c name) ≡ cond (is_at (nat_cmp conn) c) b (notes s c name))
    (λ here. rw (here, itself)) (λ here. rw here)

-- one list changes, and the notes at its name with it
pub mirrors-with_list : (s t : Standings) (lists : Lists) (name : List ℕ) (list : List (ℕ × ℕ)) → Mirrors s lists
    → ((c : ℕ) → notes t c name ≡ stands c list) → ((c : ℕ) (q : List ℕ) → is_at (slice_cmp nat_cmp name) q ≡ false → notes t c q ≡ notes s c q)
    → Mirrors t (with_list lists name list)
mirrors-with_list s t lists name list was here elsewhere c q =
    by_test (is_at (slice_cmp nat_cmp name) q) _
    (λ there. ap (notes t c) (same_name name q there) ∙ here c
    ∙ ap (stands c) (sym (list_of-with_list lists name list q ∙ ap (λ b. cond b list (list_of lists q)) there)))
    (λ there. elsewhere c q there ∙ was c q
    ∙ ap (stands c) (sym (list_of-with_list lists name list q ∙ ap (λ b. cond b list (list_of lists q)) there)))

-- ---- where a connection stands in a list that changes

pub stands-without : (conn c : ℕ) (list : List (ℕ × ℕ)) → stands c (without conn list) ≡ (not (conn == c) && stands c list)
stands-without conn c [] = grind (arith, common_steps)
stands-without conn c (first ∷ rest) = let e = stands-without conn c rest in grind (arith, common_steps)

pub stands-with_flags : (conn flags c : ℕ) (list : List (ℕ × ℕ)) → stands c (with_flags conn flags list) ≡ stands c list
stands-with_flags conn flags c [] = refl
stands-with_flags conn flags c (first ∷ rest) = let e = stands-with_flags conn flags c rest in grind (arith, common_steps)

pub stands-append : (c : ℕ) (front back : List (ℕ × ℕ)) → stands c (front ++ back) ≡ (stands c front || stands c back)
stands-append c [] back = refl
stands-append c (first ∷ rest) back = let e = stands-append c rest back in grind (arith, common_steps)

-- a request moves nobody out of the list but the connection itself and the owner
pub stands-requested : (list : List (ℕ × ℕ)) (conn flags c : ℕ) → c ≢ conn → owner_in list ≢ Some c → stands c (requested list conn flags).0 ≡ stands c list
stands-requested [] conn flags c other free = grind (arith, common_steps)
stands-requested (first ∷ rest) conn flags c other free =
    grind (arith, common_steps, stands-without conn c rest, stands-with_flags conn flags c rest, stands-append c rest ((conn, flags) ∷ []))

pub released-list : (list : List (ℕ × ℕ)) (conn : ℕ) → (released list conn).0 ≡ without conn list
released-list [] conn = refl
released-list (first ∷ rest) conn = refl

-- ---- the calls

pub kept-empty : (s : Standings) (lists : Lists) → lists ≡ finmap.empty → ((c : ℕ) (q : List ℕ) → notes s c q ≡ false) → IsKept lists s
kept-empty s lists none nowhere = record {
  no_empty = λ q e. let o : finmap.get lists q ≡ None = ap (λ l. finmap.get l q) none ∙ get-empty (slice_cmp nat_cmp) q in cc;
  mirrored = λ c q. nowhere c q ∙ sym (ap (stands c) (ap (λ l. unwrap_or (finmap.get l q) []) none ∙ ap (λ o. unwrap_or o []) (get-empty (slice_cmp nat_cmp) q)));
}

pub kept-released : (s t : Standings) (lists new : Lists) (conn : ℕ) (name : List ℕ) → IsKept lists s → SetsNote s t conn name false
    → new ≡ with_list lists name (released (list_of lists name) conn).0 → IsKept new t
kept-released s t lists new conn name was sets is = rw is (record {
  no_empty = no_empty-with_list lists name (released (list_of lists name) conn).0 was.no_empty;
  mirrored = mirrors-with_list s t lists name (released (list_of lists name) conn).0 was.mirrored
      (λ c. set_here s t conn name false sets c ∙ left c) (set_elsewhere s t conn name false sets);
})
  where
    left : (c : ℕ) → cond (is_at (nat_cmp conn) c) false (notes s c name) ≡ stands c (released (list_of lists name) conn).0
    left c = let w = was.mirrored c name in grind (arith, common_steps, released-list (list_of lists name) conn, stands-without conn c (list_of lists name))

-- want of memory: what was noted for the request is forgotten again, or nothing was new
pub kept-refused_new : (s t u : Standings) (lists new : Lists) (conn : ℕ) (name : List ℕ) → IsKept lists s → notes s conn name ≡ false
    → SetsNote s t conn name true → SetsNote t u conn name false → new ≡ lists → IsKept new u
kept-refused_new s t u lists new conn name was nowhere first second is = rw is (record {
  no_empty = was.no_empty;
  mirrored = λ c q. second c q ∙ ap (cond (is_pair conn name c q) false) (first c q) ∙ back c q ∙ was.mirrored c q;
})
  where
    back : (c : ℕ) (q : List ℕ) → cond (is_pair conn name c q) false (cond (is_pair conn name c q) true (notes s c q)) ≡ notes s c q
    back c q = by_test (is_pair conn name c q) _ (λ pair. rw pair (sym (same_note s conn name false nowhere c q ∙ ap (λ b. cond b false (notes s c q)) pair))) (λ other. rw other)

pub kept-refused : (s t : Standings) (lists new : Lists) (conn : ℕ) (name : List ℕ) → IsKept lists s → notes s conn name ≡ true
    → SetsNote s t conn name true → new ≡ lists → IsKept new t
kept-refused s t lists new conn name was there sets is = rw is (record {
  no_empty = was.no_empty;
  mirrored = λ c q. sets c q ∙ sym (same_note s conn name true there c q) ∙ was.mirrored c q;
})

pub was_not : (b r : Bool) → r ≡ not b → r ≡ true → b ≡ false
was_not true r e t = cc
was_not false r e t = refl

pub was : (b r : Bool) → r ≡ not b → r ≡ false → b ≡ true
was true r e t = refl
was false r e t = cc

-- ---- a request that is done

sets_at : (s t : Standings) (conn : ℕ) (name : List ℕ) (b : Bool) → SetsNote s t conn name b → (c : ℕ) → is_at (nat_cmp conn) c ≡ true → notes t c name ≡ b
sets_at s t conn name b sets c here = set_here s t conn name b sets c ∙ ap (λ x. cond x b (notes s c name)) here

leaves : (s t : Standings) (conn : ℕ) (name : List ℕ) (b : Bool) → SetsNote s t conn name b → (c : ℕ) → is_at (nat_cmp conn) c ≡ false → notes t c name ≡ notes s c name
leaves s t conn name b sets c there = set_here s t conn name b sets c ∙ ap (λ x. cond x b (notes s c name)) there

and_true : (a : Bool) → (a && true) ≡ a
and_true true = refl
and_true false = refl

and_same : (a : Bool) → (a && a) ≡ a
and_same true = refl
and_same false = refl

owner_stands : (list : List (ℕ × ℕ)) (owner : ℕ) → owner_in list ≡ Some owner → stands owner list ≡ true
owner_stands [] owner e = cc
owner_stands (first ∷ rest) owner e = let same : first.0 ≡ owner = ap (λ o. unwrap_or o owner) e in grind (arith, common_steps)

-- the connection was noted for its request, and forgotten where it does not stand in the list after it
module _ (s t u : Standings) (list : List (ℕ × ℕ)) (conn : ℕ) (name : List ℕ) (first : SetsNote s t conn name true)
    (second : SetsNote t u conn name (stands conn list && notes t conn name)) where
  itself_noted : (c : ℕ) → is_at (nat_cmp conn) c ≡ true → notes u c name ≡ stands c list
  itself_noted c here =
      sets_at t u conn name (stands conn list && notes t conn name) second c here
      ∙ ap (λ b. stands conn list && b) (sets_at s t conn name true first conn ((eq_by_cmp_equiv nat_cmp_total).refl conn))
      ∙ and_true (stands conn list) ∙ ap (λ x. stands x list) (sym (same_conn conn c here))

  others_noted : (c : ℕ) → is_at (nat_cmp conn) c ≡ false → notes u c name ≡ notes s c name
  others_noted c there =
      leaves t u conn name (stands conn list && notes t conn name) second c there ∙ leaves s t conn name true first c there

  elsewhere_noted : (c : ℕ) (q : List ℕ) → is_at (slice_cmp nat_cmp name) q ≡ false → notes u c q ≡ notes s c q
  elsewhere_noted c q other =
      set_elsewhere t u conn name (stands conn list && notes t conn name) second c q other ∙ set_elsewhere s t conn name true first c q other

-- of a name that nobody had
pub kept-requested_free : (s t u : Standings) (lists new : Lists) (conn flags : ℕ) (name : List ℕ) → IsKept lists s → owner_in (list_of lists name) ≡ None
    → SetsNote s t conn name true → new ≡ with_list lists name (requested (list_of lists name) conn flags).0
    → SetsNote t u conn name (stands conn (list_of new name) && notes t conn name) → IsKept new u
kept-requested_free s t u lists new conn flags name was free first is second =
    let old = list_of lists name in
    let list = (requested old conn flags).0 in
    let found : list_of new name ≡ list = ap (λ l. list_of l name) is ∙ list_here lists name list in
    let settled = subst (λ l. SetsNote t u conn name (stands conn l && notes t conn name)) found second in
    rw is (record {
      no_empty = no_empty-with_list lists name list was.no_empty;
      mirrored = mirrors-with_list s u lists name list was.mirrored
          (λ c. by_test (is_at (nat_cmp conn) c) _ (itself_noted s t u list conn name first settled c)
          (λ there. others_noted s t u list conn name first settled c there ∙ was.mirrored c name
          ∙ sym (stands-requested old conn flags c (other_conn conn c there) (λ e. let none = free in cc))))
          (elsewhere_noted s t u list conn name first settled);
    })

-- of a name that another connection had, which is forgotten too where it no longer stands in the list
pub kept-requested_owned : (s t u v : Standings) (lists new : Lists) (conn flags owner : ℕ) (name : List ℕ) → IsKept lists s → owner_in (list_of lists name) ≡ Some owner
    → SetsNote s t conn name true → new ≡ with_list lists name (requested (list_of lists name) conn flags).0
    → SetsNote t u conn name (stands conn (list_of new name) && notes t conn name)
    → SetsNote u v owner name (stands owner (list_of new name) && notes u owner name) → IsKept new v
kept-requested_owned s t u v lists new conn flags owner name was owned first is second third =
    let old = list_of lists name in
    let list = (requested old conn flags).0 in
    let found : list_of new name ≡ list = ap (λ l. list_of l name) is ∙ list_here lists name list in
    let settled = subst (λ l. SetsNote t u conn name (stands conn l && notes t conn name)) found second in
    let last = subst (λ l. SetsNote u v owner name (stands owner l && notes u owner name)) found third in
    rw is (record {
      no_empty = no_empty-with_list lists name list was.no_empty;
      mirrored = mirrors-with_list s v lists name list was.mirrored
          (λ c. by_test (is_at (nat_cmp owner) c) _
          (λ here. sets_at u v owner name (stands owner list && notes u owner name) last c here
          ∙ by_test (is_at (nat_cmp conn) owner) ((stands owner list && notes u owner name) ≡ stands owner list)
          (λ both. ap (λ b. stands owner list && b) (itself_noted s t u list conn name first settled owner both) ∙ and_same (stands owner list))
          (λ apart. ap (λ b. stands owner list && b) (others_noted s t u list conn name first settled owner apart ∙ was.mirrored owner name ∙ owner_stands old owner owned) ∙ and_true (stands owner list))
          ∙ ap (λ x. stands x list) (sym (same_conn owner c here)))
          (λ there. leaves u v owner name (stands owner list && notes u owner name) last c there
          ∙ by_test (is_at (nat_cmp conn) c) _ (itself_noted s t u list conn name first settled c)
          (λ apart. others_noted s t u list conn name first settled c apart ∙ was.mirrored c name
          ∙ sym (stands-requested old conn flags c (other_conn conn c apart) (λ e. other_conn owner c there (sym (ap (λ o. unwrap_or o owner) (sym owned ∙ e))))))))
          (λ c q other. set_elsewhere u v owner name (stands owner list && notes u owner name) last c q other ∙ elsewhere_noted s t u list conn name first settled c q other);
    })

-- ---- a connection that leaves the lists of some names, one after another

without-absent : (conn : ℕ) (list : List (ℕ × ℕ)) → stands conn list ≡ false → without conn list ≡ list
without-absent conn [] h = refl
without-absent conn (first ∷ rest) h = let e = without-absent conn rest in grind (arith, common_steps)

stands-gone : (conn : ℕ) (list : List (ℕ × ℕ)) → stands conn (without conn list) ≡ false
stands-gone conn list = grind (arith, common_steps, stands-without conn conn list)

without-without : (conn : ℕ) (list : List (ℕ × ℕ)) → without conn (without conn list) ≡ without conn list
without-without conn list = without-absent conn (without conn list) (stands-gone conn list)

-- the connection is out of the lists of all names but these, and nobody else is
pub record IsLeaving (conn : ℕ) (first lists : Lists) (rest : List (List ℕ)) : Type 0 where
  pub no_empty : HasNoEmptyList lists
  pub others : (q : List ℕ) → without conn (list_of lists q) ≡ without conn (list_of first q)
  pub left : (q : List ℕ) → list_any (is_at (slice_cmp nat_cmp q)) rest ≡ false → stands conn (list_of lists q) ≡ false

pub leaves_next : (conn : ℕ) (first lists new : Lists) (name : List ℕ) (rest : List (List ℕ)) → IsLeaving conn first lists (name ∷ rest)
    → new ≡ with_list lists name (released (list_of lists name) conn).0 → IsLeaving conn first new rest
leaves_next conn first lists new name rest now is =
    let list = (released (list_of lists name) conn).0 in
    let changed : (q : List ℕ) → list_of (with_list lists name list) q ≡ cond (is_at (slice_cmp nat_cmp name) q) list (list_of lists q) = list_of-with_list lists name list in
    rw is (record {
      no_empty = no_empty-with_list lists name list now.no_empty;
      others = λ q. by_test (is_at (slice_cmp nat_cmp name) q) _
          (λ here. ap (without conn) (changed q ∙ ap (λ b. cond b list (list_of lists q)) here ∙ released-list (list_of lists name) conn) ∙ without-without conn (list_of lists name)
          ∙ now.others name ∙ ap (λ x. without conn (list_of first x)) (sym (same_name name q here)))
          (λ there. ap (without conn) (changed q ∙ ap (λ b. cond b list (list_of lists q)) there) ∙ now.others q);
      left = λ q out. by_test (is_at (slice_cmp nat_cmp name) q) _
          (λ here. ap (stands conn) (changed q ∙ ap (λ b. cond b list (list_of lists q)) here ∙ released-list (list_of lists name) conn) ∙ stands-gone conn (list_of lists name))
          (λ there. ap (stands conn) (changed q ∙ ap (λ b. cond b list (list_of lists q)) there) ∙ now.left q (out_of_both q there out));
    })
  where
    out_of_both : (q : List ℕ) → is_at (slice_cmp nat_cmp name) q ≡ false → list_any (is_at (slice_cmp nat_cmp q)) rest ≡ false → list_any (is_at (slice_cmp nat_cmp q)) (name ∷ rest) ≡ false
    out_of_both q there out = rw ((eq_by_cmp_equiv nat_list_cmp_total).symm q name, there) out

pub leaves_all : (conn : ℕ) (first lists : Lists) → IsLeaving conn first lists [] → lists ≡ lists_without conn first
leaves_all conn first lists now =
    lists_without-is conn first lists now.no_empty (λ q. sym (without-absent conn (list_of lists q) (now.left q refl)) ∙ now.others q)

-- a connection that stands in no list leaves none
pub absent_everywhere : (conn : ℕ) (lists : Lists) → HasNoEmptyList lists → ((q : List ℕ) → stands conn (list_of lists q) ≡ false) → lists ≡ lists_without conn lists
absent_everywhere conn lists h nowhere = lists_without-is conn lists lists h (λ q. sym (without-absent conn (list_of lists q) (nowhere q)))

pub kept-gone : (s t : Standings) (lists new : Lists) (conn : ℕ) → IsKept lists s → ForgetsConnection s t conn → new ≡ lists_without conn lists → IsKept new t
kept-gone s t lists new conn was forgets is = rw is (record {
  no_empty = no_empty-lists_without conn lists;
  mirrored = λ c q. forgets c q ∙ gone c q ∙ sym (ap (stands c) (list_of-lists_without conn lists q));
})
  where
    gone : (c : ℕ) (q : List ℕ) → cond (is_at (nat_cmp conn) c) false (notes s c q) ≡ stands c (without conn (list_of lists q))
    gone c q = let w = was.mirrored c q in grind (arith, common_steps, stands-without conn c (list_of lists q))

-- ---- the names of one connection

-- keys, each with a value that says nothing
marked : List (List ℕ) → List (List ℕ × ℕ)
marked ks = map (λ k. (k, 0)) ks

keys_marked : (ks : List (List ℕ)) → keys_of (marked ks) ≡ ks
unfolding marked
keys_marked [] = refl
keys_marked (k ∷ ks) = ap (λ rest. k ∷ rest) (keys_marked ks)

find-marked : (q : List ℕ) (ks : List (List ℕ)) → find (slice_cmp nat_cmp) q (marked ks) ≡ cond (list_any (is_at (slice_cmp nat_cmp q)) ks) (Some 0) None
unfolding marked
find-marked q [] = refl
find-marked q (k ∷ ks) = by_test (is_at (slice_cmp nat_cmp q) k) _ (λ here. rw here) (λ there. rw there (find-marked q ks))

filter-marked : (p : List ℕ → Bool) (ks : List (List ℕ)) → keys_of (where_key (slice_cmp nat_cmp) p (marked ks)) ≡ filter p ks
unfolding marked
filter-marked p [] = refl
filter-marked p (k ∷ ks) = by_test (p k) _ (λ inside. rw inside (ap (λ rest. k ∷ rest) (filter-marked p ks))) (λ outside. rw outside (filter-marked p ks))

sorted_marked : (ks : List (List ℕ)) → IsStrictlySortedBy (slice_cmp nat_cmp) ks → T (is_sorted (slice_cmp nat_cmp) (marked ks))
sorted_marked ks rises = is_sorted-from (slice_cmp nat_cmp) (marked ks) (subst (IsStrictlySortedBy (slice_cmp nat_cmp)) (sym (keys_marked ks)) rises)

-- two lists of names in order, of which the test takes the same names
pub same_filtered : (p : List ℕ → Bool) (ks ms : List (List ℕ)) → IsStrictlySortedBy (slice_cmp nat_cmp) ks → IsStrictlySortedBy (slice_cmp nat_cmp) ms
    → ((q : List ℕ) → p q ≡ true → list_any (is_at (slice_cmp nat_cmp q)) ks ≡ list_any (is_at (slice_cmp nat_cmp q)) ms) → filter p ks ≡ filter p ms
same_filtered p ks ms rise climb same =
    let R = slice_cmp nat_cmp in
    let alike : (q x : List ℕ) → R q x ≡ Equal → p x ≡ p q = λ q x tied. ap p (sym (names_apart q x tied)) in
    sym (filter-marked p ks)
    ∙ ap keys_of (same_entries R nat_list_cmp_total names_apart (where_key R p (marked ks)) (where_key R p (marked ms))
    (is_sorted-where_key R p (marked ks) (sorted_marked ks rise)) (is_sorted-where_key R p (marked ms) (sorted_marked ms climb))
    (λ q. find-where_key R p q (alike q) (marked ks)
    ∙ by_test (p q) (cond (p q) (find R q (marked ks)) None ≡ cond (p q) (find R q (marked ms)) None)
    (λ inside. ap (λ o. cond (p q) o None) (find-marked q ks ∙ ap (λ b. cond b (Some 0) None) (same q inside) ∙ sym (find-marked q ms)))
    (λ outside. rw outside)
    ∙ sym (find-where_key R p q (alike q) (marked ms))))
    ∙ filter-marked p ms

filter-filter : (a b : List ℕ → Bool) (ks : List (List ℕ)) → filter a (filter b ks) ≡ filter (λ k. b k && a k) ks
filter-filter a b [] = refl
filter-filter a b (k ∷ ks) = by_test (b k) _
    (λ inside. rw inside (by_test (a k) _ (λ also. rw also (ap (λ rest. k ∷ rest) (filter-filter a b ks))) (λ not_also. rw not_also (filter-filter a b ks))))
    (λ outside. rw outside (filter-filter a b ks))

owner_listed : (conn : ℕ) (o : Option (List (ℕ × ℕ))) → owns conn (unwrap_or o []) ≡ true → is_some o ≡ true
owner_listed conn None h = absurd cc
owner_listed conn (Some list) h = refl

owner_in_list : (conn : ℕ) (list : List (ℕ × ℕ)) → owns conn list ≡ true → stands conn list ≡ true
owner_in_list conn [] h = absurd cc
owner_in_list conn (first ∷ rest) h = rw h

-- of the names in whose lists the connection stands, those that it owns
pub owned_of_held : (s : Standings) (lists : Lists) (conn : ℕ) (held : List (List ℕ)) → IsKept lists s → IsStrictlySortedBy (slice_cmp nat_cmp) held
    → ((q : List ℕ) → list_any (is_at (slice_cmp nat_cmp q)) held ≡ notes s conn q)
    → filter (λ name. not (is_unique_name name) && owns conn (list_of lists name)) held ≡ owned_by lists conn
owned_of_held s lists conn held was rises noted =
    same_filtered (λ name. not (is_unique_name name) && owns conn (list_of lists name)) held (finmap.keys lists) rises
    (strictly_sorted (finmap.entries lists) (entries_sorted lists))
    (λ q both. let own = (and_parts (not (is_unique_name q)) (owns conn (list_of lists q)) both).1 in
    noted q ∙ was.mirrored conn q ∙ owner_in_list conn (list_of lists q) own
    ∙ sym (owner_listed conn (finmap.get lists q) own) ∙ contains_key-keys lists q)
    ∙ sym (filter-filter (λ name. owns conn (list_of lists name)) (λ name. not (is_unique_name name)) (finmap.keys lists))

pub none_rise : IsStrictlySortedBy (slice_cmp nat_cmp) []
unfolding IsStrictlySortedBy
none_rise = tt

-- ---- what the answers to a request say

answer_to_first : (conn flags : ℕ) → IsRequestAnswer 1 conn [] ((conn, flags) ∷ [])
answer_to_first conn flags = record {
  new_owner = grind (arith, common_steps);
  already_owner = grind (arith, common_steps);
  waits = grind (arith, common_steps);
  stays_out = grind (arith, common_steps);
}

answer_to_next : (first : ℕ × ℕ) (rest : List (ℕ × ℕ)) (conn flags : ℕ)
    → IsRequestAnswer (requested (first ∷ rest) conn flags).1 conn (first ∷ rest) (requested (first ∷ rest) conn flags).0
answer_to_next first rest conn flags =
    let gone = stands-without conn conn rest in
    let flagged = stands-with_flags conn flags conn rest in
    let pushed = stands-append conn rest ((conn, flags) ∷ []) in
    record {
      new_owner = grind (arith, common_steps);
      already_owner = grind (arith, common_steps);
      waits = grind (arith, common_steps);
      stays_out = grind (arith, common_steps);
    }

pub requested-answer : (list : List (ℕ × ℕ)) (conn flags : ℕ) → IsRequestAnswer (requested list conn flags).1 conn list (requested list conn flags).0
requested-answer [] conn flags = answer_to_first conn flags
requested-answer (first ∷ rest) conn flags = answer_to_next first rest conn flags

pub request-answer : (lists new : Lists) (name : List ℕ) (conn flags : ℕ) (change : OwnerChange) → change ≡ request_change (list_of lists name) conn flags
    → new ≡ with_list lists name (requested (list_of lists name) conn flags).0 → IsRequestAnswer change.answer conn (list_of lists name) (list_of new name)
request-answer lists new name conn flags change answered is =
    let list = list_of lists name in
    let after : list_of new name ≡ (requested list conn flags).0 = ap (λ l. list_of l name) is ∙ list_here lists name (requested list conn flags).0 in
    let answer : change.answer ≡ (requested list conn flags).1 = ap (λ (c : OwnerChange). c.answer) answered in
    rw (after, answer) (requested-answer list conn flags)
