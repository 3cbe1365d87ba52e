-- Finite maps with their entries written out: what looking up, putting in and taking out make of them. By these a bus's state is computed.
use Rattle.std.proofs.Common.{◌≡◌, ℕ, Bool, true, false, cond, not, T, List, [], ◌∷◌, None, length, refl, sym, ap, ◌∙◌, subst}
use Rattle.std.specs.Ordering.{nat_cmp, is_eq, eq_by_cmp}
use Rattle.std.specs.declared.cmp.Ordering.{Ordering}
use Rattle.std.specs.Cmp.{IsTotalOrder, nat_cmp_total, alike_right, eq_by_cmp_equiv}
use Rattle.std.specs.Cmp.Lexicographic.{slice_cmp, nat_list_cmp_total}
use Rattle.std.specs.FinMap as finmap
use Rattle.std.specs.FinMap.{IsAntisymmetric, nat_cmp-IsAntisymmetric, slice_cmp-IsAntisymmetric, same_map, empty_of_len, len-entries, get-remove, find, put, is_sorted, get-from_sorted, entries-from_sorted, entries-insert, same_entries_map}
use Rattle.std.specs.FinMap.Entries.{where_key, find-where_key, is_sorted-put, is_sorted-where_key}

holds : (b : Bool) → b ≡ true → T b
holds b e = subst T (sym e) tt

turned : {A : Type 0} (b : Bool) (x y : A) → cond b x y ≡ cond (not b) y x
turned true x y = refl
turned false x y = refl

module _ {K X : Type 0} {R : K → K → Ordering} (o : IsTotalOrder R) where
  pub get_kept : (es : List (K × X)) (q : K) → is_sorted R es ≡ true → finmap.get (finmap.from_sorted {R = R} es) q ≡ find R q es
  get_kept es q e = get-from_sorted R es q (holds _ e)

  pub entries_kept : (es : List (K × X)) → is_sorted R es ≡ true → finmap.entries (finmap.from_sorted {R = R} es) ≡ es
  entries_kept es e = entries-from_sorted R es (holds _ e)

  put_entries : (es : List (K × X)) (k : K) (v : X) → T (is_sorted R es) → finmap.entries (finmap.insert (finmap.from_sorted {R = R} es) k v) ≡ finmap.entries (finmap.from_sorted {R = R} (put R k v es))
  put_entries es k v h =
      entries-insert o (finmap.from_sorted es) k v ∙ ap (put R k v) (entries-from_sorted R es h)
      ∙ sym (entries-from_sorted R (put R k v es) (is_sorted-put R o k v es h))

  pub insert_kept : (es : List (K × X)) (k : K) (v : X) → is_sorted R es ≡ true → finmap.insert (finmap.from_sorted {R = R} es) k v ≡ finmap.from_sorted (put R k v es)
  insert_kept es k v e = same_entries_map _ _ (put_entries es k v (holds _ e))

  -- the entries but that of this key
  abbrev pub others : K → List (K × X) → List (K × X)
  others k es = where_key R (λ x. not (eq_by_cmp R k x)) es

  found : (es : List (K × X)) (k q : K) → T (is_sorted R es) → finmap.get (finmap.remove (finmap.from_sorted {R = R} es) k) q ≡ finmap.get (finmap.from_sorted {R = R} (others k es)) q
  found es k q h =
      get-remove o (finmap.from_sorted es) k q ∙ ap (cond (eq_by_cmp R q k) None) (get-from_sorted R es q h)
      ∙ ap (λ b. cond b None (find R q es)) ((eq_by_cmp_equiv o).symm q k) ∙ turned (eq_by_cmp R k q) None (find R q es)
      ∙ sym (find-where_key R (λ x. not (eq_by_cmp R k x)) q (λ x t. ap (λ r. not (is_eq r)) (sym (alike_right o q x k t))) es)
      ∙ sym (get-from_sorted R (others k es) q (is_sorted-where_key R (λ x. not (eq_by_cmp R k x)) es h))

  pub remove_kept : IsAntisymmetric R → (es : List (K × X)) (k : K) → is_sorted R es ≡ true → finmap.remove (finmap.from_sorted {R = R} es) k ≡ finmap.from_sorted (others k es)
  remove_kept same es k e = same_map o same _ _ (λ q. found es k q (holds _ e))

  empty_kept : finmap.empty {X = X} {R = R} ≡ finmap.from_sorted []
  empty_kept = sym (empty_of_len (finmap.from_sorted []) (len-entries (finmap.from_sorted []) ∙ ap length (entries-from_sorted R [] tt)))

  pub first_kept : (k : K) (v : X) → finmap.insert (finmap.empty {X = X} {R = R}) k v ≡ finmap.from_sorted ((k, v) ∷ [])
  first_kept k v = ap (λ m. finmap.insert m k v) empty_kept ∙ insert_kept [] k v refl

pub numbers_get : {X : Type 0} (es : List (ℕ × X)) (q : ℕ) → is_sorted nat_cmp es ≡ true → finmap.get (finmap.from_sorted {R = nat_cmp} es) q ≡ find nat_cmp q es
numbers_get es q e = get_kept nat_cmp_total es q e

pub numbers_insert : {X : Type 0} (es : List (ℕ × X)) (k : ℕ) (v : X) → is_sorted nat_cmp es ≡ true → finmap.insert (finmap.from_sorted {R = nat_cmp} es) k v ≡ finmap.from_sorted (put nat_cmp k v es)
numbers_insert es k v e = insert_kept nat_cmp_total es k v e

pub numbers_entries : {X : Type 0} (es : List (ℕ × X)) → is_sorted nat_cmp es ≡ true → finmap.entries (finmap.from_sorted {R = nat_cmp} es) ≡ es
numbers_entries es e = entries_kept nat_cmp_total es e

pub texts_get : {X : Type 0} (es : List (List ℕ × X)) (q : List ℕ) → is_sorted (slice_cmp nat_cmp) es ≡ true → finmap.get (finmap.from_sorted {R = slice_cmp nat_cmp} es) q ≡ find (slice_cmp nat_cmp) q es
texts_get es q e = get_kept nat_list_cmp_total es q e

pub texts_insert : {X : Type 0} (es : List (List ℕ × X)) (k : List ℕ) (v : X) → is_sorted (slice_cmp nat_cmp) es ≡ true → finmap.insert (finmap.from_sorted {R = slice_cmp nat_cmp} es) k v ≡ finmap.from_sorted (put (slice_cmp nat_cmp) k v es)
texts_insert es k v e = insert_kept nat_list_cmp_total es k v e

pub texts_entries : {X : Type 0} (es : List (List ℕ × X)) → is_sorted (slice_cmp nat_cmp) es ≡ true → finmap.entries (finmap.from_sorted {R = slice_cmp nat_cmp} es) ≡ es
texts_entries es e = entries_kept nat_list_cmp_total es e

pub numbers_remove : {X : Type 0} (es : List (ℕ × X)) (k : ℕ) → is_sorted nat_cmp es ≡ true → finmap.remove (finmap.from_sorted {R = nat_cmp} es) k ≡ finmap.from_sorted (others nat_cmp_total k es)
numbers_remove es k e = remove_kept nat_cmp_total nat_cmp-IsAntisymmetric es k e

pub texts_remove : {X : Type 0} (es : List (List ℕ × X)) (k : List ℕ) → is_sorted (slice_cmp nat_cmp) es ≡ true → finmap.remove (finmap.from_sorted {R = slice_cmp nat_cmp} es) k ≡ finmap.from_sorted (others nat_list_cmp_total k es)
texts_remove es k e = remove_kept nat_list_cmp_total (slice_cmp-IsAntisymmetric nat_cmp-IsAntisymmetric) es k e

pub numbers_first : {X : Type 0} (k : ℕ) (v : X) → finmap.insert (finmap.empty {X = X} {R = nat_cmp}) k v ≡ finmap.from_sorted ((k, v) ∷ [])
numbers_first k v = first_kept nat_cmp_total k v

pub texts_first : {X : Type 0} (k : List ℕ) (v : X) → finmap.insert (finmap.empty {X = X} {R = slice_cmp nat_cmp}) k v ≡ finmap.from_sorted ((k, v) ∷ [])
texts_first k v = first_kept nat_list_cmp_total k v

pub ruleset maps =
    (numbers_get, numbers_insert, numbers_first, numbers_entries, numbers_remove, texts_get, texts_insert, texts_first, texts_entries, texts_remove)
