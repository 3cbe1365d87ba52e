-- All characters of a text are cut, and others are put in.
use Rattle.std.proofs.Common.{◌≡◌, ℕ, suc, ℤ, ◌+◌, ◌-◌, ◌==◌, Bool, true, false, cond, List, [], ◌∷◌, ◌++◌, length, take, drop, Option, Some, None, refl, sym, ap, subst, ◌∙◌, arith}
use Rattle.std.specs.Prelude.{pos, nat_lt, nat_le}
use Rattle.std.proofs.lemmas.Bool.{eqb-true, ltb-false, le-leb}
use Rattle.atspi_tree_model.specs.declared.contents.FaceData.{FaceData}
use Rattle.atspi_tree_model.specs.declared.contents.FaceData.TheVariants.{Chars, Deeds}
use Rattle.atspi_tree_model.specs.declared.edit.Edit.{Edit}
use Rattle.atspi_tree_model.specs.declared.edit.Edit.TheVariants.{Put, Cut}
use Rattle.atspi_tree_model.specs.declared.edit.EditFault.{EditFault}
use Rattle.atspi_tree_model.specs.declared.step.Step.{Step}
use Rattle.atspi_tree_model.specs.declared.step.Step.TheVariants.{Delete, Caret}
use Rattle.atspi_tree_model.specs.Forest.{Forest, find, change}
use Rattle.atspi_tree_model.specs.Row.{ShapeRow, TreeRow, TextContents, IsText, delete_there, on_some}
use Rattle.atspi_tree_model.specs.RowRules.{rows, after_delete}
use Rattle.atspi_tree_model.specs.Tree.{is_node, shape_of, after, after_all}
use Rattle.atspi_tree_model.specs.Edits.{known_text, first_fault, refusals, made_steps, steps_unless, steps_of, steps_of_tree, cutting, text_contents}
use Rattle.atspi_tree_model.proofs.Lookup.{find-change}
use Rattle.atspi_tree_model.proofs.Relabel.{unseen-change}
use Rattle.atspi_tree.specs.TreeShape.{TreeShape, row_of}
use Rattle.atspi_tree_edits.specs.Answers.{IsKnown, edit_steps}
use Rattle.atspi_protocol.specs.whole.Whole.{Faces, whole, filled}
use Rattle.atspi_protocol.proofs.OfWhole.Followed.{shape_is_kept}
use Rattle.atspi_protocol.specs.objects.Application.{Application}
use Rattle.atspi_protocol.specs.objects.Changes.{edited, edited_twice, text_exchanged}
use Rattle.atspi_protocol.specs.objects.Texts.{text_of}
use Rattle.atspi_app_contents.specs.values.Seen.{seen}
use Rattle.atspi_app_contents.specs.changes.inner.Steps.{granted, and_more, exchanged}
use Rattle.atspi_app_contents.proofs.OfChanges.EditLemmas.{steps_granted, found, edited_is}

-- a put reads of what is known only the characters and the caret
put_reads : (t : TreeShape) (n : ℕ) (text x : List ℕ) (caret : ℕ) (marks : List (ℕ × ℕ)) → x ≡ [] → caret ≡ 0
    → edit_steps t (Chars x caret marks) (Put n 0 text) ≡ edit_steps t (Chars [] 0 []) (Put n 0 text)
put_reads t n text x caret marks e f =
    ap (λ (l : List ℕ). edit_steps t (Chars l caret marks) (Put n 0 text)) e ∙ ap (λ (c : ℕ). edit_steps t (Chars [] c marks) (Put n 0 text)) f

none_left : (xs : List ℕ) → length xs ≡ 0 → xs ≡ []
none_left [] e = refl
none_left (x ∷ xs) e = absurd (omega (arith, e))

all_dropped : (xs : List ℕ) → drop (length xs) xs ≡ []
all_dropped [] = refl
all_dropped (x ∷ xs) = all_dropped xs

taken_length : (xs : List ℕ) → length (take (length xs) xs) ≡ length xs
taken_length [] = refl
taken_length (x ∷ xs) = ap suc (taken_length xs)

-- what is left where all characters are deleted
nothing_left : (xs : List ℕ) (k : ℕ) → k ≡ length xs → delete_there (pos 0) (pos k) xs ≡ []
nothing_left xs k e = ap (λ (m : ℕ). delete_there (pos 0) (pos m) xs) e ∙ at (nat_le (0 + length xs) (length xs)) (le-leb (0 + length xs) (length xs) (omega arith))
  where
    at : (b : Bool) → b ≡ true → cond b (drop (0 + length xs) xs) xs ≡ []
    at true e = let z : 0 + length xs ≡ length xs = omega arith in ap (λ (m : ℕ). drop m xs) z ∙ all_dropped xs
    at false e = cc

cut_length : (xs : List ℕ) → length (take (length xs - 0) (drop 0 xs)) ≡ length xs
cut_length xs = let z : length xs - 0 ≡ length xs = omega arith in ap (λ (m : ℕ). length (take m xs)) z ∙ taken_length xs

-- a change of a row that does not change its shape
same_shape : (m : ℕ) (step : TreeRow → TreeRow) → ((r : TreeRow) → (step r).shape ≡ r.shape) → (f : Forest TreeRow) (shapes : Forest ShapeRow) → shape_of f ≡ shapes
    → shape_of (change (is_node m) step f) ≡ shapes
same_shape m step e f shapes h = unseen-change (λ (r : TreeRow). r.shape) (is_node m) step e f ∙ h

-- a tree after the cut: it has the same shape, and of the row that is there a put reads no character, and the caret at 0
record AfterCut (t : TreeShape) (n : ℕ) (text : List ℕ) (f : Forest TreeRow) : Type 0 where
  shape : shape_of f ≡ t.rows
  row : TreeRow
  there : find (is_node n) f ≡ Some row
  reads : edit_steps t (text_contents (Some row)) (Put n 0 text) ≡ edit_steps t (Chars [] 0 []) (Put n 0 text)

-- where the caret goes, and what is deleted
abbrev back : TextContents → ℕ
back x = cond (nat_le x.caret (length x.characters)) 0 (x.caret - (length x.characters - 0))

abbrev gone : TextContents → List ℕ
gone x = take (length x.characters - 0) (drop 0 x.characters)

-- what a put reads of a row whose text is known
reads_text : (t : TreeShape) (n : ℕ) (text : List ℕ) (r : TreeRow) (x : TextContents) → r.contents.text ≡ Some x → x.characters ≡ [] → x.caret ≡ 0
    → edit_steps t (text_contents (Some r)) (Put n 0 text) ≡ edit_steps t (Chars [] 0 []) (Put n 0 text)
reads_text t n text r x e none first = rw e (put_reads t n text x.characters x.caret x.selections none first)

made : (o : Option EditFault) (xs steps : List Step) → granted (steps_unless o xs) ≡ Some steps → steps ≡ xs
made None xs steps e = cc
made (Some fault) xs steps e = cc

pub text_known : (r : TreeRow) → text_of r ≡ known_text (text_contents (Some r))
text_known r = by r.contents.text refl
  where
    by : (o : Option TextContents) → r.contents.text ≡ o → text_of r ≡ known_text (text_contents (Some r))
    by None e = rw e refl
    by (Some x) e = rw e refl

module _ (t : TreeShape) (faces : Faces) (name : List ℕ) (id : ℤ) (s : ShapeRow) (is : row_of s.node t ≡ Some s) (text : List ℕ) where
  abbrev a : Application
  a = seen t faces name id

  abbrev row : TreeRow
  row = filled faces s

  abbrev known : FaceData
  known = text_contents (Some row)

  -- the tree after a cut of all characters
  abbrev cut_tree : TextContents → Forest TreeRow
  cut_tree x = after_all rows (whole t.rows faces) (cutting s.node 0 (length x.characters) x)

  deleted : (f : Forest TreeRow) (r : TreeRow) (x : TextContents) → shape_of f ≡ t.rows → find (is_node s.node) f ≡ Some r → r.contents.text ≡ Some x → x.caret ≡ 0
      → AfterCut t s.node text (after rows f (Delete s.node 0 (gone x)))
  deleted f r x shape e there first =
      record {
        shape = same_shape s.node (rows.changed (Delete s.node 0 (gone x))) (λ r. refl) f t.rows shape;
        row = rows.changed (Delete s.node 0 (gone x)) r;
        there = find-change (is_node s.node) (rows.changed (Delete s.node 0 (gone x))) (λ r. refl) f r e;
        reads =
            reads_text t s.node text (rows.changed (Delete s.node 0 (gone x)) r) (after_delete 0 (gone x) x) (ap (on_some (after_delete 0 (gone x))) there)
            (nothing_left x.characters (length (gone x)) (cut_length x.characters)) first;
      }

  after_cut : (x : TextContents) → row.contents.text ≡ Some x → IsText x → AfterCut t s.node text (cut_tree x)
  after_cut x there lawful = at (0 == length x.characters) refl (nat_lt 0 x.caret) refl
    where
      to_first : back x ≡ 0
      to_first = ap (λ b. cond b 0 (x.caret - (length x.characters - 0))) (le-leb x.caret (length x.characters) lawful.caret)

      at : (b : Bool) → (0 == length x.characters) ≡ b → (d : Bool) → nat_lt 0 x.caret ≡ d
          → AfterCut t s.node text (after_all rows (whole t.rows faces) (cond b [] (cond d (Caret s.node (back x) ∷ []) [] ++ Delete s.node 0 (gone x) ∷ [])))
      at true e d g =
          let empty : length x.characters ≡ 0 = sym (eqb-true 0 (length x.characters) e) in
          let l = lawful.caret in
          record {
            shape = shape_is_kept t.rows faces;
            row = row;
            there = found t faces name id s.node s is;
            reads = reads_text t s.node text row x there (none_left x.characters empty) (omega (arith, l, empty));
          }
      at false e true g =
          deleted (change (is_node s.node) (rows.changed (Caret s.node (back x))) (whole t.rows faces)) (rows.changed (Caret s.node (back x)) row) (record x { caret = (back x) })
          (same_shape s.node (rows.changed (Caret s.node (back x))) (λ r. refl) (whole t.rows faces) t.rows (shape_is_kept t.rows faces))
          (find-change (is_node s.node) (rows.changed (Caret s.node (back x))) (λ r. refl) (whole t.rows faces) row (found t faces name id s.node s is))
          (ap (on_some (λ (y : TextContents). record y { caret = (back x) })) there) to_first
      at false e false g =
          let l = ltb-false 0 x.caret g in
          deleted (whole t.rows faces) row x (shape_is_kept t.rows faces) (found t faces name id s.node s is) there (omega (arith, l))

  after_known : IsKnown known → AfterCut t s.node text (cut_tree (known_text known))
  after_known lawful = by row.contents.text refl
    where
      by : (o : Option TextContents) → row.contents.text ≡ o → AfterCut t s.node text (cut_tree (known_text known))
      by None e =
          let none : known ≡ Deeds [] = rw e refl in
          subst (λ (k : FaceData). AfterCut t s.node text (cut_tree (known_text k))) (sym none)
          (record { shape = shape_is_kept t.rows faces; row = row; there = found t faces name id s.node s is; reads = ap (λ (k : FaceData). edit_steps t k (Put s.node 0 text)) none })
      by (Some x) e =
          let some : known ≡ Chars x.characters x.caret x.selections = rw e refl in
          subst (λ (k : FaceData). AfterCut t s.node text (cut_tree (known_text k))) (sym some) (after_cut x e (subst IsKnown some lawful))

  -- the put after the cut
  put_in : (f : Forest TreeRow) → AfterCut t s.node text f → edited (record a { tree = f }) (Put s.node 0 text) ≡ granted (edit_steps t (Chars [] 0 []) (Put s.node 0 text))
  put_in f h =
      steps_granted (record a { tree = f }) (Put s.node 0 text) (steps_of_tree f t.added (Put s.node 0 text)) refl
      ∙ ap (λ g. granted (steps_of g t.added (text_contents (find (is_node s.node) f)) (Put s.node 0 text))) h.shape
      ∙ ap (λ (o : Option TreeRow). granted (edit_steps t (text_contents o) (Put s.node 0 text))) h.there
      ∙ ap granted h.reads

  cut_known : edited a (Cut s.node 0 (length (known_text known).characters)) ≡ granted (edit_steps t known (Cut s.node 0 (length (known_text known).characters)))
  cut_known = edited_is t faces name id (Cut s.node 0 (length (known_text known).characters)) known (ap text_contents (found t faces name id s.node s is))

  twice : (cut : Edit) (steps : List Step) (more : Option (List Step)) → edited a cut ≡ Some steps → edited (record a { tree = after_all rows a.tree steps }) (Put s.node 0 text) ≡ more
      → edited_twice a cut (Put s.node 0 text) ≡ and_more (Some steps) more
  twice cut steps None e f = rw (e, f) refl
  twice cut steps (Some more) e f = rw (e, f) refl

  not_twice : (cut : Edit) → edited a cut ≡ None → edited_twice a cut (Put s.node 0 text) ≡ None
  not_twice cut e = rw e refl

  by_cut : IsKnown known → (o : Option (List Step)) → granted (edit_steps t known (Cut s.node 0 (length (known_text known).characters))) ≡ o
      → edited_twice a (Cut s.node 0 (length (known_text known).characters)) (Put s.node 0 text) ≡ and_more o (granted (edit_steps t (Chars [] 0 []) (Put s.node 0 text)))
  by_cut lawful None e = not_twice (Cut s.node 0 (length (known_text known).characters)) (cut_known ∙ e)
  by_cut lawful (Some steps) e =
      let cut = Cut s.node 0 (length (known_text known).characters) in
      let are : steps ≡ made_steps t.rows t.added known cut = made (first_fault (refusals t.rows t.added known cut)) (made_steps t.rows t.added known cut) steps e in
      twice cut steps (granted (edit_steps t (Chars [] 0 []) (Put s.node 0 text))) (cut_known ∙ e)
      (put_in (after_all rows a.tree steps) (subst (λ (l : List Step). AfterCut t s.node text (after_all rows a.tree l)) (sym are) (after_known lawful)))

  pub exchange_seen : IsKnown known → text_exchanged a row text ≡ exchanged t known s.node text
  exchange_seen lawful =
      ap (λ (x : TextContents). edited_twice a (Cut s.node 0 (length x.characters)) (Put s.node 0 text)) (text_known row)
      ∙ by_cut lawful (granted (edit_steps t known (Cut s.node 0 (length (known_text known).characters)))) refl
