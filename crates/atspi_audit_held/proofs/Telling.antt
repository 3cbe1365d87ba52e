-- A part that was told, by a path and by a node's number.
use Rattle.std.proofs.Common.{◌≡◌, ℕ, ◌<◌, ◌^◌, Bool, true, false, cond, ◌&&◌, ◌||◌, not, Some, List, [], ◌∷◌, ◌++◌, refl, sym, ap, ◌∙◌, arith, true≢false}
use Rattle.std.specs.Prelude.{bytes_eq}
use Rattle.std.specs.List.{list_any}
use Rattle.std.specs.Ordering.{nat_cmp}
use Rattle.std.specs.BTreeMap.{is_at}
use Rattle.std.specs.Map.{lookup}
use Rattle.std.proofs.lemmas.Bool.Decides.{nat_tests}
use Rattle.std.proofs.lemmas.Slice.Eq.{bytes_eq-Decides}
use Rattle.atspi_tree_model.specs.declared.contents.Kinds.{Kinds}
use Rattle.atspi_tree_model.specs.Forest.{Forest, has}
use Rattle.atspi_tree_model.specs.Row.{ShapeRow}
use Rattle.atspi_tree_model.specs.Tree.{is_shape}
use Rattle.atspi_tree_model.specs.Path.{path_of}
use Rattle.atspi_tree_model.specs.View.{Told}
use Rattle.atspi_tree_model.proofs.Found.{count-has, has-count}
use Rattle.atspi_tree_model.proofs.Once.{count-le}
use Rattle.atspi_tree_model.proofs.Path.{path_of_apart}
use Rattle.atspi_protocol.specs.declared.news.part.PartName.{PartName}
use Rattle.atspi_protocol.specs.declared.news.part.PartName.TheVariants.{Text, Caret, Columns}
use Rattle.atspi_protocol.specs.following.Wishes.{is_refused, same_part}
use Rattle.atspi_trace.specs.Causes.{told_in}
use Rattle.atspi_audit_held.specs.Held.{Agrees, or_nothing, told_by, told_of}
use Rattle.atspi_audit_held.specs.inner.Lacking.{lacks, lacks_at, told_with}
use Rattle.atspi_audit_held.specs.declared.known.Known.{Known}
use Rattle.atspi_audit_held.proofs.Lacked.{told_alike}
use Rattle.atspi_audit_held.proofs.Collecting.{same_number}

any_more : {A : Type 0} (test : A → Bool) (xs : List A) (x : A) → list_any test (xs ++ x ∷ []) ≡ cond (list_any test xs) true (test x)
any_more test [] x = at (test x)
  where
    at : (b : Bool) → b || false ≡ b
    at true = refl
    at false = refl
any_more test (y ∷ ys) x = at (test y) (any_more test ys x)
  where
    at : (b : Bool) → list_any test (ys ++ x ∷ []) ≡ cond (list_any test ys) true (test x) → b || list_any test (ys ++ x ∷ []) ≡ cond (b || list_any test ys) true (test x)
    at true e = refl
    at false e = e

refused_more : (parts : List (List ℕ × PartName)) (p path : List ℕ) (q part : PartName)
    → is_refused (parts ++ (p, q) ∷ []) path part ≡ cond (is_refused parts path part) true (bytes_eq p path && same_part q part)
refused_more parts p path q part = any_more (λ (r : List ℕ × PartName). bytes_eq r.0 path && same_part r.1 part) parts (p, q)

or_false : (b : Bool) → cond b true false ≡ b
or_false true = refl
or_false false = refl

or_true : (b : Bool) → cond b true true ≡ true
or_true true = refl
or_true false = refl

other_path : (parts : List (List ℕ × PartName)) (p path : List ℕ) (q part : PartName) → bytes_eq p path ≡ false
    → is_refused (parts ++ (p, q) ∷ []) path part ≡ is_refused parts path part
other_path parts p path q part e =
    refused_more parts p path q part ∙ ap (λ b. cond (is_refused parts path part) true (b && same_part q part)) e ∙ or_false (is_refused parts path part)

this_path : (parts : List (List ℕ × PartName)) (p path : List ℕ) (q part : PartName) → bytes_eq p path ≡ true
    → is_refused (parts ++ (p, q) ∷ []) path part ≡ cond (is_refused parts path part) true (same_part q part)
this_path parts p path q part e =
    refused_more parts p path q part ∙ ap (λ b. cond (is_refused parts path part) true (b && same_part q part)) e

pub told_elsewhere : (parts : List (List ℕ × PartName)) (p path : List ℕ) (q : PartName) → bytes_eq p path ≡ false
    → told_in (parts ++ (p, q) ∷ []) path ≡ told_in parts path
told_elsewhere parts p path q e = λ i. record {
  text = other_path parts p path q Text e i;
  caret = other_path parts p path q Caret e i;
  columns = other_path parts p path q Columns e i;
}

pub told_here : (parts : List (List ℕ × PartName)) (p path : List ℕ) (q : PartName) → bytes_eq p path ≡ true
    → told_in (parts ++ (p, q) ∷ []) path ≡ told_with (told_in parts path) q
told_here parts p path Text e = λ i. record {
  text = (this_path parts p path Text Text e ∙ or_true (is_refused parts path Text)) i;
  caret = (this_path parts p path Text Caret e ∙ or_false (is_refused parts path Caret)) i;
  columns = (this_path parts p path Text Columns e ∙ or_false (is_refused parts path Columns)) i;
}
told_here parts p path Caret e = λ i. record {
  text = (this_path parts p path Caret Text e ∙ or_false (is_refused parts path Text)) i;
  caret = (this_path parts p path Caret Caret e ∙ or_true (is_refused parts path Caret)) i;
  columns = (this_path parts p path Caret Columns e ∙ or_false (is_refused parts path Columns)) i;
}
told_here parts p path Columns e = λ i. record {
  text = (this_path parts p path Columns Text e ∙ or_false (is_refused parts path Text)) i;
  caret = (this_path parts p path Columns Caret e ∙ or_false (is_refused parts path Caret)) i;
  columns = (this_path parts p path Columns Columns e ∙ or_true (is_refused parts path Columns)) i;
}

not_same : (xs ys : List ℕ) → (xs ≡ ys → ⊥) → bytes_eq xs ys ≡ false
not_same xs ys h = at (bytes_eq xs ys) refl
  where
    at : (b : Bool) → bytes_eq xs ys ≡ b → bytes_eq xs ys ≡ false
    at true e = absurd (h ((bytes_eq-Decides xs ys).0 e))
    at false e = e

-- a part of no node
pub agrees_besides : (parts : List (List ℕ × PartName)) (path : List ℕ) (q : PartName) (told : ℕ → Told) → ((n : ℕ) → n < 2 ^ 32 → path_of n ≡ path → ⊥)
    → Agrees (told_in parts) told → Agrees (told_in (parts ++ (path, q) ∷ [])) told
agrees_besides parts path q told none a = λ n l. told_elsewhere parts path (path_of n) q (not_same path (path_of n) (λ e. none n l (sym e))) ∙ a n l

-- a part of this node
pub agrees_more : (parts : List (List ℕ × PartName)) (path : List ℕ) (node : ℕ) (q : PartName) (told next : ℕ → Told) (new : Told) → path_of node ≡ path
    → new ≡ told_with (told node) q → ((n : ℕ) → next n ≡ cond (is_at (nat_cmp node) n) new (told n))
    → Agrees (told_in parts) told → Agrees (told_in (parts ++ (path, q) ∷ [])) next
agrees_more parts path node q told next new e is step a = λ n l. at n l (is_at (nat_cmp node) n) refl
  where
    at : (n : ℕ) → n < 2 ^ 32 → (b : Bool) → is_at (nat_cmp node) n ≡ b → told_in (parts ++ (path, q) ∷ []) (path_of n) ≡ next n
    at n l true k =
        let same : node ≡ n = same_number node n k in
        let here : bytes_eq path (path_of n) ≡ true = (bytes_eq-Decides path (path_of n)).1 (sym e ∙ ap path_of same) in
        told_here parts path (path_of n) q here ∙ ap (λ t. told_with t q) (a n l ∙ ap told (sym same)) ∙ sym is
        ∙ sym (step n ∙ ap (λ b. cond b new (told n)) k)
    at n l false k =
        told_elsewhere parts path (path_of n) q (not_same path (path_of n) (λ w. apart n k (path_of_apart node n (e ∙ w))))
        ∙ a n l ∙ sym (step n ∙ ap (λ b. cond b new (told n)) k)
      where
        itself : (n : ℕ) → is_at (nat_cmp n) n ≡ true
        itself n = grind (arith, nat_tests)

        apart : (n : ℕ) → is_at (nat_cmp node) n ≡ false → node ≡ n → ⊥
        apart n k e = true≢false (sym (itself node) ∙ ap (is_at (nat_cmp node)) e ∙ k)

-- who lacks a part with more told, lacked one before
pub lacked_before : (told : Told) (q : PartName) (kinds : Kinds) → lacks (told_with told q) kinds ≡ true → lacks told kinds ≡ true
lacked_before told Text kinds h = at kinds.text told.text told.caret (kinds.table && not told.columns) h
  where
    at : (k t c r : Bool) → cond (k && not (true && c)) true r ≡ true → cond (k && not (t && c)) true r ≡ true
    at true true c r h = h
    at true false c r h = refl
    at false t c r h = h
lacked_before told Caret kinds h = at kinds.text told.text told.caret (kinds.table && not told.columns) h
  where
    at : (k t c r : Bool) → cond (k && not (t && true)) true r ≡ true → cond (k && not (t && c)) true r ≡ true
    at true true true r h = h
    at true true false r h = refl
    at true false c r h = refl
    at false t c r h = h
lacked_before told Columns kinds h = at (kinds.text && not (told.text && told.caret)) kinds.table told.columns h
  where
    at : (b k c : Bool) → cond b true (k && not true) ≡ true → cond b true (k && not c) ≡ true
    at true k c h = refl
    at false true c h = absurd (true≢false (sym h))
    at false false c h = h

weaker_has : (p q : ShapeRow → Bool) (f : Forest ShapeRow) → ((row : ShapeRow) → p row ≡ true → q row ≡ true) → has p f ≡ true → has q f ≡ true
weaker_has p q f w h = let a = count-has p f h in let b = count-le p q w f in has-count q f (omega arith)

lacked_row : (told : Told) (part : PartName) (n : ℕ) (row : ShapeRow) → is_shape n row && lacks (told_with told part) row.kinds ≡ true → is_shape n row && lacks told row.kinds ≡ true
lacked_row told part n row h = at (is_shape n row) h
  where
    at : (b : Bool) → b && lacks (told_with told part) row.kinds ≡ true → b && lacks told row.kinds ≡ true
    at true h = lacked_before told part row.kinds h
    at false h = h

-- what is noted stays right where a part more was told
pub marks_told : (f : Forest ShapeRow) (node : ℕ) (part : PartName) (told next : ℕ → Told) (noted now : ℕ → Bool) (test : Bool) (new : Told)
    → new ≡ told_with (told node) part → test ≡ lacks_at (λ n. new) f node
    → ((n : ℕ) → next n ≡ cond (is_at (nat_cmp node) n) new (told n))
    → ((n : ℕ) → now n ≡ cond (not test && is_at (nat_cmp node) n) false (noted n))
    → ((n : ℕ) → noted n ≡ lacks_at told f n) → (n : ℕ) → now n ≡ lacks_at next f n
marks_told f node part told next noted now test new is t step s m n = at (is_at (nat_cmp node) n) refl
  where
    at : (b : Bool) → is_at (nat_cmp node) n ≡ b → now n ≡ lacks_at next f n
    at false k =
        s n ∙ ap (λ b. cond (not test && b) false (noted n)) k ∙ no (not test) ∙ m n
        ∙ told_alike told next f n (sym (step n ∙ ap (λ b. cond b new (told n)) k))
      where
        no : (b : Bool) → cond (b && false) false (noted n) ≡ noted n
        no true = refl
        no false = refl
    at true k =
        let same : node ≡ n = same_number node n k in
        let wanted : lacks_at next f n ≡ test =
        told_alike next (λ n. new) f n (step n ∙ ap (λ b. cond b new (told n)) k) ∙ ap (lacks_at (λ n. new) f) (sym same) ∙ sym t in
        s n ∙ ap (λ b. cond (not test && b) false (noted n)) k ∙ here same test refl ∙ sym wanted
      where
        here : node ≡ n → (b : Bool) → test ≡ b → cond (not b && true) false (noted n) ≡ b
        here same false e = refl
        here same true e =
            let now_lacks : lacks_at (λ n. told_with (told n) part) f n ≡ true =
            told_alike (λ n. told_with (told n) part) (λ n. new) f n (ap (λ m. told_with (told m) part) (sym same) ∙ sym is)
            ∙ ap (lacks_at (λ n. new) f) (sym same) ∙ sym t ∙ e in
            m n ∙ weaker_has (λ row. is_shape n row && lacks (told_with (told n) part) row.kinds) (λ row. is_shape n row && lacks (told n) row.kinds) f
            (λ row h. lacked_row (told n) part n row h) now_lacks

-- what a table says was told, where it has one entry more
pub known_in : (old new : List (ℕ × Known)) (node : ℕ) (known : Known)
    → ((n : ℕ) → lookup (is_at (nat_cmp n)) new ≡ cond (is_at (nat_cmp node) n) (Some known) (lookup (is_at (nat_cmp n)) old))
    → (n : ℕ) → told_by new n ≡ cond (is_at (nat_cmp node) n) (told_of known) (told_by old n)
known_in old new node known u n = ap or_nothing (u n) ∙ at (is_at (nat_cmp node) n)
  where
    at : (b : Bool) → or_nothing (cond b (Some known) (lookup (is_at (nat_cmp n)) old)) ≡ cond b (told_of known) (told_by old n)
    at true = refl
    at false = refl
