-- What the sets of refused parts keep.
use Rattle.std.proofs.Common.{◌≡◌, ℕ, ◌≤◌, ◌<◌, Bool, true, false, cond, not, List, [], ◌∷◌, ◌++◌, filter, Option, Some, None, refl, sym, ap, subst, ◌∙◌, arith}
use Rattle.std.specs.Prelude.{◌&&◌, ◌||◌, bytes_eq, nat_le, is_some, IfSome, Result, Ok, Err, OnErr}
use Rattle.std.specs.BTreeSet.{contains_text}
use Rattle.std.proofs.lemmas.Bool.Decides.{nat_tests}
use Rattle.std.proofs.lemmas.List.Folds.{list_any-append}
use Rattle.std.proofs.lemmas.Slice.Eq.{bytes_eq-Decides}
use Rattle.atspi_protocol.specs.declared.news.part.PartName.{PartName}
use Rattle.atspi_protocol.specs.declared.news.part.PartName.TheVariants.{Text, Caret, Columns}
use Rattle.atspi_protocol.specs.following.Wishes.{is_refused, of_others, same_part}
use Rattle.atspi_reader_known.specs.declared.refused.Parts.{Parts}
use Rattle.atspi_reader_known.specs.Refusals.{AreBelow, AreSame, AreWithin, Clears, Puts, counting, counts, has_part, or_place}
use Rattle.atspi_reader_known.specs.declared.refused.Entry.{Entry}
use Rattle.atspi_reader_known.proofs.Anew.{none_of, others_same}

at_same : (b t s : Bool) → s ≡ cond b true t → s ≡ (t || (b && true))
at_same true true s e = e
at_same true false s e = e
at_same false true s e = e
at_same false false s e = e

at_other : (b t : Bool) → t ≡ (t || (b && false))
at_other true true = refl
at_other true false = refl
at_other false true = refl
at_other false false = refl

or_end : (t : Bool) → (t || false) ≡ t
or_end true = refl
or_end false = refl

-- two paths are the same, or not, either way around
bytes_turned : (one other : List ℕ) → bytes_eq one other ≡ bytes_eq other one
bytes_turned one other = by (bytes_eq one other) (bytes_eq other one) refl refl
  where
    by : (x y : Bool) → bytes_eq one other ≡ x → bytes_eq other one ≡ y → x ≡ y
    by true true e f = refl
    by false false e f = refl
    by true false e f = sym ((bytes_eq-Decides other one).1 (sym ((bytes_eq-Decides one other).0 e))) ∙ f
    by false true e f = sym e ∙ (bytes_eq-Decides one other).1 (sym ((bytes_eq-Decides other one).0 f))

-- what was refused of the rows with other paths
refused_others : (path : List ℕ) (refused : List (List ℕ × PartName)) (q : List ℕ) (part : PartName)
    → is_refused (of_others path refused) q part ≡ cond (bytes_eq path q) false (is_refused refused q part)
refused_others path refused q part = by (bytes_eq path q) refl
  where
    by : (b : Bool) → bytes_eq path q ≡ b → is_refused (of_others path refused) q part ≡ cond b false (is_refused refused q part)
    by true e = ap (λ (p : List ℕ). is_refused (of_others path refused) p part) (sym ((bytes_eq-Decides path q).0 e)) ∙ none_of path refused part
    by false e = others_same path refused q part (bytes_turned q path ∙ e)

-- no part
pub none_same : (parts : Parts) → ((q : List ℕ) → contains_text parts.texts q ≡ false) → ((q : List ℕ) → contains_text parts.carets q ≡ false)
    → ((q : List ℕ) → contains_text parts.columns q ≡ false) → AreSame parts []
none_same parts t c k path Text = t path
none_same parts t c k path Caret = c path
none_same parts t c k path Columns = k path

-- one more path in one of the sets
module _ (old new : Parts) (path : List ℕ) where
  pub puts_text : new.carets ≡ old.carets → new.columns ≡ old.columns
      → ((q : List ℕ) → contains_text new.texts q ≡ cond (bytes_eq path q) true (contains_text old.texts q)) → Puts old new path Text
  puts_text c k h q Text = at_same (bytes_eq path q) (contains_text old.texts q) (contains_text new.texts q) (h q)
  puts_text c k h q Caret = ap (λ s. contains_text s q) c ∙ at_other (bytes_eq path q) (contains_text old.carets q)
  puts_text c k h q Columns = ap (λ s. contains_text s q) k ∙ at_other (bytes_eq path q) (contains_text old.columns q)

  pub puts_caret : new.texts ≡ old.texts → new.columns ≡ old.columns
      → ((q : List ℕ) → contains_text new.carets q ≡ cond (bytes_eq path q) true (contains_text old.carets q)) → Puts old new path Caret
  puts_caret t k h q Text = ap (λ s. contains_text s q) t ∙ at_other (bytes_eq path q) (contains_text old.texts q)
  puts_caret t k h q Caret = at_same (bytes_eq path q) (contains_text old.carets q) (contains_text new.carets q) (h q)
  puts_caret t k h q Columns = ap (λ s. contains_text s q) k ∙ at_other (bytes_eq path q) (contains_text old.columns q)

  pub puts_columns : new.texts ≡ old.texts → new.carets ≡ old.carets
      → ((q : List ℕ) → contains_text new.columns q ≡ cond (bytes_eq path q) true (contains_text old.columns q)) → Puts old new path Columns
  puts_columns t c h q Text = ap (λ s. contains_text s q) t ∙ at_other (bytes_eq path q) (contains_text old.texts q)
  puts_columns t c h q Caret = ap (λ s. contains_text s q) c ∙ at_other (bytes_eq path q) (contains_text old.carets q)
  puts_columns t c h q Columns = at_same (bytes_eq path q) (contains_text old.columns q) (contains_text new.columns q) (h q)

  -- the sets as they were
  pub keeps_parts : ((q : List ℕ) → contains_text new.texts q ≡ contains_text old.texts q) → ((q : List ℕ) → contains_text new.carets q ≡ contains_text old.carets q)
      → ((q : List ℕ) → contains_text new.columns q ≡ contains_text old.columns q) → (q : List ℕ) (p : PartName) → has_part new q p ≡ has_part old q p
  keeps_parts t c k q Text = t q
  keeps_parts t c k q Caret = c q
  keeps_parts t c k q Columns = k q

  pub same_kept : (items : List (List ℕ × PartName)) → AreSame old items → ((q : List ℕ) (p : PartName) → has_part new q p ≡ has_part old q p) → AreSame new items
  same_kept items h k q p = k q p ∙ h q p

  -- one more part at the end of the list
  pub same_push : (part : PartName) (items : List (List ℕ × PartName)) → AreSame old items → Puts old new path part → AreSame new (items ++ (path, part) ∷ [])
  same_push part items h k q p =
      k q p ∙ ap (λ t. t || (bytes_eq path q && same_part part p)) (h q p)
      ∙ ap (λ t. is_refused items q p || t) (sym (or_end (bytes_eq path q && same_part part p)))
      ∙ sym (list_any-append (λ (r : List ℕ × PartName). bytes_eq r.0 q && same_part r.1 p) items ((path, part) ∷ []))

  -- a path that is taken out of each set
  pub clears_parts : ((q : List ℕ) → contains_text new.texts q ≡ cond (bytes_eq path q) false (contains_text old.texts q))
      → ((q : List ℕ) → contains_text new.carets q ≡ cond (bytes_eq path q) false (contains_text old.carets q))
      → ((q : List ℕ) → contains_text new.columns q ≡ cond (bytes_eq path q) false (contains_text old.columns q)) → Clears old new path
  clears_parts t c k q Text = t q
  clears_parts t c k q Caret = c q
  clears_parts t c k q Columns = k q

  pub same_cleared : (items : List (List ℕ × PartName)) → AreSame old items → Clears old new path → AreSame new (of_others path items)
  same_cleared items h k q p = k q p ∙ ap (cond (bytes_eq path q) false) (h q p) ∙ sym (refused_others path items q p)

-- places of a path
module _ (path : List ℕ) (place : ℕ) where
  or_same : (o : Option ℕ) → is_some o ≡ true → o ≡ or_place o place
  or_same None e = absurd cc
  or_same (Some at) e = refl

  or_new : (o : Option ℕ) → is_some o ≡ false → Some place ≡ or_place o place
  or_new None e = refl
  or_new (Some at) e = absurd cc

  -- one that has a place keeps it
  pub place_kept : (f : List ℕ → Option ℕ) → is_some (f path) ≡ true → (q : List ℕ) → f q ≡ cond (bytes_eq path q) (or_place (f q) place) (f q)
  place_kept f e q = by (bytes_eq path q) refl
    where
      by : (b : Bool) → bytes_eq path q ≡ b → f q ≡ cond b (or_place (f q) place) (f q)
      by true same = or_same (f q) (ap (λ (p : List ℕ). is_some (f p)) (sym ((bytes_eq-Decides path q).0 same)) ∙ e)
      by false same = refl

  -- and one without gets it
  pub place_put : (f : List ℕ → Option ℕ) → is_some (f path) ≡ false → (q : List ℕ)
      → cond (bytes_eq path q) (Some place) (f q) ≡ cond (bytes_eq path q) (or_place (f q) place) (f q)
  place_put f e q = by (bytes_eq path q) refl
    where
      by : (b : Bool) → bytes_eq path q ≡ b → cond b (Some place) (f q) ≡ cond b (or_place (f q) place) (f q)
      by true same = or_new (f q) (ap (λ (p : List ℕ). is_some (f p)) (sym ((bytes_eq-Decides path q).0 same)) ∙ e)
      by false same = refl

-- those that count, as the places change
pub within_none : (f : List ℕ → Option ℕ) (end : ℕ) → ((q : List ℕ) → f q ≡ None) → AreWithin f end
within_none f end none = λ q. subst (λ (o : Option ℕ). IfSome o (λ at. at ≤ end)) (sym (none q)) tt

later : (at place : ℕ) → at < place → nat_le place at ≡ false
later at place l = grind (arith, nat_tests)

here : (at place : ℕ) → at ≤ place → nat_le at place ≡ true
here at place l = grind (arith, nat_tests)

abbrev Part : Type 0
Part = List ℕ × PartName

abbrev part_of : Entry → Part
part_of e = (e.path, e.part)

-- one more number may be given, and one more entry stands behind
pub below_more : (es : List Entry) (n m : ℕ) → n ≤ m → AreBelow es n → AreBelow es m
below_more [] n m l b = tt
below_more (e ∷ es) n m l b = (omega (arith, l, b.0), below_more es n m l b.1)

pub below_pushed : (es : List Entry) (e : Entry) (n m : ℕ) → n ≤ m → e.number < m → AreBelow es n → AreBelow (es ++ e ∷ []) m
below_pushed [] e n m l h b = (h, tt)
below_pushed (x ∷ es) e n m l h b = (omega (arith, l, b.0), below_pushed es e n m l h b.1)

-- those that count are kept
abbrev keeps : (List ℕ → Option ℕ) → Entry → Bool
keeps f e = counts (f e.path) e.number

pub counting_kept : (f : List ℕ → Option ℕ) (es : List Entry) → counting f (filter (keeps f) es) ≡ counting f es
counting_kept f [] = refl
counting_kept f (e ∷ es) = by (keeps f e) refl (counting_kept f es)
  where
    by : (b : Bool) → keeps f e ≡ b → counting f (filter (keeps f) es) ≡ counting f es
        → counting f (cond b (e ∷ filter (keeps f) es) (filter (keeps f) es)) ≡ cond b (part_of e ∷ counting f es) (counting f es)
    by true k rest =
        ap (λ (c : Bool). cond c (part_of e ∷ counting f (filter (keeps f) es)) (counting f (filter (keeps f) es))) k
        ∙ ap (λ (l : List Part). part_of e ∷ l) rest
    by false k rest = rest

pub below_kept : (f : List ℕ → Option ℕ) (es : List Entry) (n : ℕ) → AreBelow es n → AreBelow (filter (keeps f) es) n
below_kept f [] n b = tt
below_kept f (e ∷ es) n b = by (keeps f e) (below_kept f es n b.1)
  where
    by : (k : Bool) → AreBelow (filter (keeps f) es) n → AreBelow (cond k (e ∷ filter (keeps f) es) (filter (keeps f) es)) n
    by true rest = (b.0, rest)
    by false rest = rest

module _ (f g : List ℕ → Option ℕ) where
  pub counting_same : ((q : List ℕ) → g q ≡ f q) → (es : List Entry) → counting g es ≡ counting f es
  counting_same h [] = refl
  counting_same h (e ∷ es) =
      ap (λ (o : Option ℕ). cond (counts o e.number) (part_of e ∷ counting g es) (counting g es)) (h e.path)
      ∙ ap (λ (l : List Part). cond (counts (f e.path) e.number) (part_of e ∷ l) l) (counting_same h es)

  pub within_same : (end : ℕ) → ((q : List ℕ) → g q ≡ f q) → AreWithin f end → AreWithin g end
  within_same end h w = λ q. subst (λ (o : Option ℕ). IfSome o (λ at. at ≤ end)) (sym (h q)) (w q)

  -- a path without a number gets one
  module _ (path : List ℕ) (place : ℕ) (h : (q : List ℕ) → g q ≡ cond (bytes_eq path q) (or_place (f q) place) (f q)) where
    pub counting_noted : (es : List Entry) → AreBelow es place → counting g es ≡ counting f es
    counting_noted [] l = refl
    counting_noted (e ∷ es) l =
        ap (λ (o : Option ℕ). cond (counts o e.number) (part_of e ∷ counting g es) (counting g es)) (h e.path)
        ∙ ap (λ (b : Bool). cond b (part_of e ∷ counting g es) (counting g es)) (by (bytes_eq path e.path) (f e.path) l.0)
        ∙ ap (λ (m : List Part). cond (counts (f e.path) e.number) (part_of e ∷ m) m) (counting_noted es l.1)
      where
        by : (b : Bool) (o : Option ℕ) → e.number < place → counts (cond b (or_place o place) o) e.number ≡ counts o e.number
        by true None l = later e.number place l
        by true (Some since) l = refl
        by false o l = refl

    pub within_noted : (end : ℕ) → place ≤ end → AreWithin f place → AreWithin g end
    within_noted end l w = λ q. subst (λ (o : Option ℕ). IfSome o (λ at. at ≤ end)) (sym (h q)) (by (bytes_eq path q) (f q) (w q))
      where
        by : (b : Bool) (o : Option ℕ) → IfSome o (λ at. at ≤ place) → IfSome (cond b (or_place o place) o) (λ at. at ≤ end)
        by true None k = l
        by true (Some at) k = omega (arith, k, l)
        by false None k = k
        by false (Some at) k = omega (arith, k, l)

    counts_noted : AreWithin f place → counts (g path) place ≡ true
    counts_noted w =
        ap (λ (o : Option ℕ). counts o place) (h path ∙ ap (λ (b : Bool). cond b (or_place (f path) place) (f path)) ((bytes_eq-Decides path path).1 refl))
        ∙ by (f path) (w path)
      where
        by : (o : Option ℕ) → IfSome o (λ at. at ≤ place) → counts (or_place o place) place ≡ true
        by None k = here place place (omega arith)
        by (Some at) k = here at place k

    counting_last : (e : Entry) (es : List Entry) → keeps g e ≡ true → counting g (es ++ e ∷ []) ≡ counting g es ++ part_of e ∷ []
    counting_last e [] c = ap (λ (b : Bool). cond b (part_of e ∷ []) []) c
    counting_last e (r ∷ rs) c = by (keeps g r) (counting_last e rs c)
      where
        by : (b : Bool) → counting g (rs ++ e ∷ []) ≡ counting g rs ++ part_of e ∷ []
            → cond b (part_of r ∷ counting g (rs ++ e ∷ [])) (counting g (rs ++ e ∷ []))
            ≡ cond b (part_of r ∷ counting g rs) (counting g rs) ++ part_of e ∷ []
        by true same = ap (λ (l : List Part). part_of r ∷ l) same
        by false same = same

    pub counting_pushed : (e : Entry) (es : List Entry) → e.path ≡ path → e.number ≡ place → AreBelow es place → AreWithin f place
        → counting g (es ++ e ∷ []) ≡ counting f es ++ part_of e ∷ []
    counting_pushed e es p n b w =
        counting_last e es (ap (λ (q : List ℕ). counts (g q) e.number) p ∙ ap (counts (g path)) n ∙ counts_noted w)
        ∙ ap (λ (l : List Part). l ++ part_of e ∷ []) (counting_noted es b)

  -- a path loses its number
  module _ (path : List ℕ) (h : (q : List ℕ) → g q ≡ cond (bytes_eq path q) None (f q)) where
    none_counts : (b : Bool) (o : Option ℕ) (at : ℕ) → counts (cond b None o) at ≡ cond b false (counts o at)
    none_counts true o at = refl
    none_counts false o at = refl

    pub counting_gone : (es : List Entry) → counting g es ≡ of_others path (counting f es)
    counting_gone [] = refl
    counting_gone (e ∷ es) =
        ap (λ (o : Option ℕ). cond (counts o e.number) (part_of e ∷ counting g es) (counting g es)) (h e.path ∙ ap (λ (b : Bool). cond b None (f e.path)) (bytes_turned path e.path))
        ∙ ap (λ (b : Bool). cond b (part_of e ∷ counting g es) (counting g es)) (none_counts (bytes_eq e.path path) (f e.path) e.number)
        ∙ by (bytes_eq e.path path) (counts (f e.path) e.number) refl (counting_gone es)
      where
        by : (same counted : Bool) → bytes_eq e.path path ≡ same → counting g es ≡ of_others path (counting f es)
            → cond (cond same false counted) (part_of e ∷ counting g es) (counting g es)
            ≡ of_others path (cond counted (part_of e ∷ counting f es) (counting f es))
        by true true k rest = rest ∙ sym (ap (λ (b : Bool). cond (not b) (part_of e ∷ of_others path (counting f es)) (of_others path (counting f es))) k)
        by true false k rest = rest
        by false true k rest =
            ap (λ (l : List Part). part_of e ∷ l) rest
            ∙ sym (ap (λ (b : Bool). cond (not b) (part_of e ∷ of_others path (counting f es)) (of_others path (counting f es))) k)
        by false false k rest = rest

    pub within_gone : (end : ℕ) → AreWithin f end → AreWithin g end
    within_gone end w = λ q. subst (λ (o : Option ℕ). IfSome o (λ at. at ≤ end)) (sym (h q)) (by (bytes_eq path q) (f q) (w q))
      where
        by : (b : Bool) (o : Option ℕ) → IfSome o (λ at. at ≤ end) → IfSome (cond b None o) (λ at. at ≤ end)
        by true o k = tt
        by false o k = k

-- of a path without a number no part counts
pub counting_none : (f : List ℕ → Option ℕ) (path : List ℕ) → f path ≡ None → (es : List Entry) → of_others path (counting f es) ≡ counting f es
counting_none f path n [] = refl
counting_none f path n (e ∷ es) = by (bytes_eq e.path path) (counts (f e.path) e.number) refl refl (counting_none f path n es)
  where
    by : (same counted : Bool) → bytes_eq e.path path ≡ same → counts (f e.path) e.number ≡ counted → of_others path (counting f es) ≡ counting f es
        → of_others path (cond counted (part_of e ∷ counting f es) (counting f es)) ≡ cond counted (part_of e ∷ counting f es) (counting f es)
    by same false k c rest = rest
    by false true k c rest =
        ap (λ (b : Bool). cond (not b) (part_of e ∷ of_others path (counting f es)) (of_others path (counting f es))) k
        ∙ ap (λ (l : List Part). part_of e ∷ l) rest
    by true true k c rest =
        let z : false ≡ true = sym (ap (λ (o : Option ℕ). counts o e.number) (ap f ((bytes_eq-Decides e.path path).0 k) ∙ n)) ∙ c in
        absurd cc

-- what holds in any case holds where an error is handed on
pub behind_error : {A E P : Type 0} (r : Result A E) → P → OnErr r P
behind_error (Ok x) p = tt
behind_error (Err e) p = p
