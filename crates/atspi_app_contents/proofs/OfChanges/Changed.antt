-- What a call of a member changes, by the numbers of nodes and by the contents that are known.
use Rattle.std.proofs.Common.{◌≡◌, ℕ, zero, suc, ℤ, ◌+◌, ◌<◌, Bool, true, false, cond, List, [], ◌∷◌, ◌++◌, Option, Some, None, map, length, drop, get_or, append_assoc, refl, sym, ap, subst, ◌∙◌}
use Rattle.std.proofs.lemmas.List.{append-nil, drop_more}
use Rattle.std.specs.Prelude.{pos, negsuc, filter, not, slice_get}
use Rattle.std.specs.Option.{option_map}
use Rattle.atspi_types.specs.Data.{Data}
use Rattle.atspi_tree_model.specs.declared.contents.FaceData.{FaceData}
use Rattle.atspi_tree_model.specs.declared.contents.FaceData.TheVariants.{Deeds}
use Rattle.atspi_tree_model.specs.declared.edit.Edit.{Edit}
use Rattle.atspi_tree_model.specs.declared.edit.Edit.TheVariants.{Put, Cut, Caret, Mark, Select, Deselect, Press}
use Rattle.atspi_tree_model.specs.declared.step.Step.{Step}
use Rattle.atspi_tree_model.specs.declared.step.Step.TheVariants.{SetState}
use Rattle.atspi_tree_model.specs.Forest.{Forest, find}
use Rattle.atspi_tree_model.specs.Row.{ShapeRow, TreeRow, TextContents, Each}
use Rattle.atspi_tree_model.specs.States.{has_state}
use Rattle.atspi_tree_model.specs.Tree.{is_node}
use Rattle.atspi_tree_model.specs.Edits.{known_text, text_contents, action_contents, contents_read}
use Rattle.atspi_protocol.specs.declared.members.member.ObjectMember.TheVariants.{SetCaretOffset, AddSelection, RemoveSelection, SetSelection, SetTextContents, InsertText, DeleteText, SelectChild, DeselectChild, DeselectSelectedChild, SelectAll, ClearSelection, DoAction}
use Rattle.atspi_protocol.specs.members.Arguments.{signed_at, text_at as text_argument}
use Rattle.atspi_tree.specs.TreeShape.{TreeShape, IsLawful, row_of, children_of}
use Rattle.atspi_tree_edits.specs.Answers.{IsKnown, edit_steps}
use Rattle.atspi_protocol.specs.whole.Whole.{Faces, whole, filled}
use Rattle.atspi_protocol.specs.objects.Children as children
use Rattle.atspi_protocol.specs.objects.Texts.{text_of}
use Rattle.atspi_protocol.specs.objects.Changes.{edited, edited_at, edited_between, selection_removed, selection_set}
use Rattle.atspi_protocol.specs.objects.Answers.{changes}
use Rattle.atspi_app_contents.specs.values.Places.{place_of}
use Rattle.atspi_app_contents.specs.values.Numbers.{is_selected, node_at, selected_among}
use Rattle.atspi_app_contents.specs.values.Seen.{seen}
use Rattle.atspi_app_contents.proofs.OfValues.Seen.{Same, numbers_of, found_number, kids_seen, kids_same, chosen_seen}
use Rattle.atspi_app_contents.specs.changes.inner.Steps.{granted, at_place, at_places, exchanged, removed, replaced_at, differs, choosing, unchosen}
use Rattle.atspi_app_contents.specs.changes.inner.Changing.{ChangesText, ChangesActions, ChangesChildren}
use Rattle.atspi_app_contents.proofs.OfChanges.EditLemmas.{place_same, places_same, at_by, between_by, found, edited_is}
use Rattle.atspi_app_contents.proofs.OfChanges.Exchanged.{text_known, exchange_seen}

-- nothing is done where a place is missing
pub no_first : (f : ℕ → ℕ → Option (List Step)) (p : Option ℕ) → None ≡ at_places f None p
no_first f None = refl
no_first f (Some k) = refl

pub no_index : (n : ℕ) (x : TextContents) (p q : Option ℕ) → None ≡ replaced_at n x None p q
no_index n x None None = refl
no_index n x None (Some k) = refl
no_index n x (Some j) None = refl
no_index n x (Some j) (Some k) = refl

pub no_from : (n : ℕ) (x : TextContents) (i : ℕ) (q : Option ℕ) → None ≡ replaced_at n x (Some i) None q
no_from n x i None = refl
no_from n x i (Some k) = refl

-- edits of a text
module _ (t : TreeShape) (known : FaceData) (n : ℕ) (body : List Data) (steps : Option (List Step)) where
  -- one with a place from outside
  at_known : (edit : ℕ → ℕ → Edit) → ((f : Faces) (k : ℕ) → contents_read (whole t.rows f) (edit n k) ≡ text_contents (find (is_node n) (whole t.rows f))) → (z : ℤ) (o : Option ℕ) → o ≡ place_of z
      → steps ≡ at_place (λ k. granted (edit_steps t known (edit n k))) o
      → (faces : Faces) (name : List ℕ) (id : ℤ) (s : ShapeRow) → row_of n t ≡ Some s → text_contents (Some (filled faces s)) ≡ known
      → changes (seen t faces name id) (edited_at (seen t faces name id) (edit s.node) z) ≡ changes (seen t faces name id) steps
  at_known edit reads z o e h faces name id s is has =
      ap (changes (seen t faces name id))
      (ap (λ (m : ℕ). edited_at (seen t faces name id) (edit m) z) (found_number t n s is)
      ∙ at_by (seen t faces name id) (edit n) z
      ∙ place_same (λ k. edited (seen t faces name id) (edit n k)) (λ k. granted (edit_steps t known (edit n k)))
      (λ k. edited_is t faces name id (edit n k) known (reads faces k ∙ ap text_contents (found t faces name id n s is) ∙ has)) (place_of z)
      ∙ ap (at_place (λ k. granted (edit_steps t known (edit n k)))) (sym e)
      ∙ sym h)

  between_known : (edit : ℕ → ℕ → ℕ → Edit) → ((f : Faces) (k l : ℕ) → contents_read (whole t.rows f) (edit n k l) ≡ text_contents (find (is_node n) (whole t.rows f))) → (y z : ℤ) (o p : Option ℕ) → o ≡ place_of y → p ≡ place_of z
      → steps ≡ at_places (λ k l. granted (edit_steps t known (edit n k l))) o p
      → (faces : Faces) (name : List ℕ) (id : ℤ) (s : ShapeRow) → row_of n t ≡ Some s → text_contents (Some (filled faces s)) ≡ known
      → changes (seen t faces name id) (edited_between (seen t faces name id) (edit s.node) y z) ≡ changes (seen t faces name id) steps
  between_known edit reads y z o p d e h faces name id s is has =
      ap (changes (seen t faces name id))
      (ap (λ (m : ℕ). edited_between (seen t faces name id) (edit m) y z) (found_number t n s is)
      ∙ between_by (seen t faces name id) (edit n) y z
      ∙ places_same (λ k l. edited (seen t faces name id) (edit n k l)) (λ k l. granted (edit_steps t known (edit n k l)))
      (λ k l. edited_is t faces name id (edit n k l) known (reads faces k l ∙ ap text_contents (found t faces name id n s is) ∙ has)) (place_of y) (place_of z)
      ∙ ap (λ (q : Option ℕ). at_places (λ k l. granted (edit_steps t known (edit n k l))) q (place_of z)) (sym d)
      ∙ ap (at_places (λ k l. granted (edit_steps t known (edit n k l))) o) (sym e)
      ∙ sym h)

  pub sets_caret : (o : Option ℕ) → o ≡ place_of (signed_at 0 body) → steps ≡ at_place (λ k. granted (edit_steps t known (Caret n k))) o → ChangesText t known n SetCaretOffset body steps
  sets_caret o e h = at_known (λ m k. Caret m k) (λ f k. refl) (signed_at 0 body) o e h

  pub inserts_text : (o : Option ℕ) → o ≡ place_of (signed_at 0 body) → steps ≡ at_place (λ k. granted (edit_steps t known (Put n k (text_argument 1 body)))) o → ChangesText t known n InsertText body steps
  inserts_text o e h = at_known (λ m k. Put m k (text_argument 1 body)) (λ f k. refl) (signed_at 0 body) o e h

  pub adds_selection : (o p : Option ℕ) → o ≡ place_of (signed_at 0 body) → p ≡ place_of (signed_at 1 body) → steps ≡ at_places (λ k l. granted (edit_steps t known (Mark n k l))) o p → ChangesText t known n AddSelection body steps
  adds_selection o p d e h = between_known (λ m k l. Mark m k l) (λ f k l. refl) (signed_at 0 body) (signed_at 1 body) o p d e h

  pub deletes_text : (o p : Option ℕ) → o ≡ place_of (signed_at 0 body) → p ≡ place_of (signed_at 1 body) → steps ≡ at_places (λ k l. granted (edit_steps t known (Cut n k l))) o p → ChangesText t known n DeleteText body steps
  deletes_text o p d e h = between_known (λ m k l. Cut m k l) (λ f k l. refl) (signed_at 0 body) (signed_at 1 body) o p d e h

  -- the selections of the row are those that are known
  text_is : (faces : Faces) (s : ShapeRow) → text_contents (Some (filled faces s)) ≡ known → text_of (filled faces s) ≡ known_text known
  text_is faces s has = text_known (filled faces s) ∙ ap known_text has

  removed_by : (row : TreeRow) (z : ℤ) → selection_removed row z ≡ at_place (removed row.shape.node (text_of row).selections) (place_of z)
  removed_by row (pos i) = refl
  removed_by row (negsuc i) = refl

  pub removes_selection : (o : Option ℕ) → o ≡ place_of (signed_at 0 body) → steps ≡ at_place (removed n (known_text known).selections) o → ChangesText t known n RemoveSelection body steps
  removes_selection o e h faces name id s is has =
      ap (changes (seen t faces name id))
      (removed_by (filled faces s) (signed_at 0 body)
      ∙ ap (λ (x : TextContents). at_place (removed s.node x.selections) (place_of (signed_at 0 body))) (text_is faces s has)
      ∙ ap (λ (m : ℕ). at_place (removed m (known_text known).selections) (place_of (signed_at 0 body))) (found_number t n s is)
      ∙ ap (at_place (removed n (known_text known).selections)) (sym e)
      ∙ sym h)

  replaced_by : (row : TreeRow) (x y z : ℤ) → selection_set row x y z ≡ replaced_at row.shape.node (text_of row) (place_of x) (place_of y) (place_of z)
  replaced_by row (pos i) (pos j) (pos k) = refl
  replaced_by row (pos i) (pos j) (negsuc k) = refl
  replaced_by row (pos i) (negsuc j) (pos k) = refl
  replaced_by row (pos i) (negsuc j) (negsuc k) = refl
  replaced_by row (negsuc i) (pos j) (pos k) = refl
  replaced_by row (negsuc i) (pos j) (negsuc k) = refl
  replaced_by row (negsuc i) (negsuc j) (pos k) = refl
  replaced_by row (negsuc i) (negsuc j) (negsuc k) = refl

  pub sets_selection : (o p q : Option ℕ) → o ≡ place_of (signed_at 0 body) → p ≡ place_of (signed_at 1 body) → q ≡ place_of (signed_at 2 body) → steps ≡ replaced_at n (known_text known) o p q → ChangesText t known n SetSelection body steps
  sets_selection o p q c d e h faces name id s is has =
      ap (changes (seen t faces name id))
      (replaced_by (filled faces s) (signed_at 0 body) (signed_at 1 body) (signed_at 2 body)
      ∙ ap (λ (x : TextContents). replaced_at s.node x (place_of (signed_at 0 body)) (place_of (signed_at 1 body)) (place_of (signed_at 2 body))) (text_is faces s has)
      ∙ ap (λ (m : ℕ). replaced_at m (known_text known) (place_of (signed_at 0 body)) (place_of (signed_at 1 body)) (place_of (signed_at 2 body))) (found_number t n s is)
      ∙ ap (λ (w : Option ℕ). replaced_at n (known_text known) w (place_of (signed_at 1 body)) (place_of (signed_at 2 body))) (sym c)
      ∙ ap (λ (w : Option ℕ). replaced_at n (known_text known) o w (place_of (signed_at 2 body))) (sym d)
      ∙ ap (λ (w : Option ℕ). replaced_at n (known_text known) o p w) (sym e)
      ∙ sym h)

  pub exchanges_text : IsKnown known → steps ≡ exchanged t known n (text_argument 0 body) → ChangesText t known n SetTextContents body steps
  exchanges_text lawful h faces name id s is has =
      let there : row_of s.node t ≡ Some s = ap (λ (m : ℕ). row_of m t) (found_number t n s is) ∙ is in
      ap (changes (seen t faces name id))
      (exchange_seen t faces name id s there (text_argument 0 body) (subst IsKnown (sym has) lawful)
      ∙ ap (λ (k : FaceData). exchanged t k s.node (text_argument 0 body)) has
      ∙ ap (λ (m : ℕ). exchanged t known m (text_argument 0 body)) (found_number t n s is)
      ∙ sym h)

  -- an action
  pub acts_on : (o : Option ℕ) → o ≡ place_of (signed_at 0 body) → steps ≡ at_place (λ k. granted (edit_steps t known (Press n k))) o → ChangesActions t known n DoAction body steps
  acts_on o e h faces name id s is has =
      ap (changes (seen t faces name id))
      (ap (λ (m : ℕ). edited_at (seen t faces name id) (Press m) (signed_at 0 body)) (found_number t n s is)
      ∙ at_by (seen t faces name id) (Press n) (signed_at 0 body)
      ∙ place_same (λ k. edited (seen t faces name id) (Press n k)) (λ k. granted (edit_steps t known (Press n k)))
      (λ k. edited_is t faces name id (Press n k) known (ap action_contents (found t faces name id n s is) ∙ has)) (place_of (signed_at 0 body))
      ∙ ap (at_place (λ k. granted (edit_steps t known (Press n k)))) (sym e)
      ∙ sym h)

-- children
chosen_same : (f : Forest ShapeRow) (on : Bool) (rs : List TreeRow) → Each (Same f) rs
    → map (λ (r : TreeRow). SetState r.shape.node 23 on) (filter (λ (r : TreeRow). differs on (children.is_selected r)) rs) ≡ choosing f on (numbers_of rs)
chosen_same f on [] h = refl
chosen_same f on (r ∷ rs) h = by (differs on (children.is_selected r)) (differs on (is_selected f r.shape.node)) (ap (differs on) h.0) (chosen_same f on rs h.1)
  where
    by : (b d : Bool) → b ≡ d → map (λ (r : TreeRow). SetState r.shape.node 23 on) (filter (λ (r : TreeRow). differs on (children.is_selected r)) rs) ≡ choosing f on (numbers_of rs)
        → map (λ (r : TreeRow). SetState r.shape.node 23 on) (cond b (r ∷ filter (λ (r : TreeRow). differs on (children.is_selected r)) rs) (filter (λ (r : TreeRow). differs on (children.is_selected r)) rs))
        ≡ map (λ m. SetState m 23 on) (cond d (r.shape.node ∷ filter (λ m. differs on (is_selected f m)) (numbers_of rs)) (filter (λ m. differs on (is_selected f m)) (numbers_of rs)))
    by true true e i = ap (λ (l : List Step). SetState r.shape.node 23 on ∷ l) i
    by false false e i = i
    by true false e i = cc
    by false true e i = cc

abbrev off_there : Option TreeRow → Option (List Step)
off_there None = None
off_there (Some child) = Some (SetState child.shape.node 23 false ∷ [])

off_same : (rs : List TreeRow) (z : ℤ) → off_there (children.at z rs) ≡ unchosen (children.at z (numbers_of rs))
off_same rs (negsuc i) = refl
off_same rs (pos i) = by rs i
  where
    by : (rs : List TreeRow) (i : ℕ) → off_there (slice_get rs i) ≡ unchosen (slice_get (numbers_of rs) i)
    by [] i = refl
    by (r ∷ rs) zero = refl
    by (r ∷ rs) (suc i) = by rs i

node_place : (z : ℤ) (ns : List ℕ) → children.at z ns ≡ node_at ns (place_of z)
node_place (pos i) ns = refl
node_place (negsuc i) ns = refl

module _ (t : TreeShape) (lawful : IsLawful t) (n : ℕ) (body : List Data) (steps : Option (List Step)) where
  pub chooses : (edit : ℕ → ℕ → Edit) → ((f : Faces) (k : ℕ) → contents_read (whole t.rows f) (edit n k) ≡ Deeds []) → (o : Option ℕ) → o ≡ place_of (signed_at 0 body)
      → steps ≡ at_place (λ k. granted (edit_steps t (Deeds []) (edit n k))) o
      → (faces : Faces) (name : List ℕ) (id : ℤ) (s : ShapeRow) → row_of n t ≡ Some s
      → changes (seen t faces name id) (edited_at (seen t faces name id) (edit s.node) (signed_at 0 body)) ≡ changes (seen t faces name id) steps
  chooses edit reads o e h faces name id s is =
      ap (changes (seen t faces name id))
      (ap (λ (m : ℕ). edited_at (seen t faces name id) (edit m) (signed_at 0 body)) (found_number t n s is)
      ∙ at_by (seen t faces name id) (edit n) (signed_at 0 body)
      ∙ place_same (λ k. edited (seen t faces name id) (edit n k)) (λ k. granted (edit_steps t (Deeds []) (edit n k)))
      (λ k. edited_is t faces name id (edit n k) (Deeds []) (reads faces k)) (place_of (signed_at 0 body))
      ∙ ap (at_place (λ k. granted (edit_steps t (Deeds []) (edit n k)))) (sym e)
      ∙ sym h)

  pub selects_child : (o : Option ℕ) → o ≡ place_of (signed_at 0 body) → steps ≡ at_place (λ k. granted (edit_steps t (Deeds []) (Select n k))) o → ChangesChildren t n SelectChild body steps
  selects_child o e h = chooses (λ m k. Select m k) (λ f k. refl) o e h

  pub deselects_child : (o : Option ℕ) → o ≡ place_of (signed_at 0 body) → steps ≡ at_place (λ k. granted (edit_steps t (Deeds []) (Deselect n k))) o → ChangesChildren t n DeselectChild body steps
  deselects_child o e h = chooses (λ m k. Deselect m k) (λ f k. refl) o e h

  pub deselects_selected : (o : Option ℕ) → o ≡ place_of (signed_at 0 body) → steps ≡ unchosen (node_at (selected_among t.rows (children_of n t)) o) → ChangesChildren t n DeselectSelectedChild body steps
  deselects_selected o e h faces name id s is =
      ap (changes (seen t faces name id))
      (off_same (children.selected_children (seen t faces name id) (filled faces s)) (signed_at 0 body)
      ∙ ap (λ (l : List ℕ). unchosen (children.at (signed_at 0 body) l)) (chosen_seen t faces name id lawful (filled faces s))
      ∙ ap (λ m. unchosen (children.at (signed_at 0 body) (selected_among t.rows (children_of m t)))) (found_number t n s is)
      ∙ ap unchosen (node_place (signed_at 0 body) (selected_among t.rows (children_of n t)))
      ∙ ap (λ q. unchosen (node_at (selected_among t.rows (children_of n t)) q)) (sym e)
      ∙ sym h)

  kids_chosen : (on : Bool) (faces : Faces) (name : List ℕ) (id : ℤ) (s : ShapeRow) → row_of n t ≡ Some s
      → map (λ (r : TreeRow). SetState r.shape.node 23 on) (filter (λ (r : TreeRow). differs on (children.is_selected r)) (children.children_of (seen t faces name id) (filled faces s))) ≡ choosing t.rows on (children_of n t)
  kids_chosen on faces name id s is =
      chosen_same t.rows on (children.children_of (seen t faces name id) (filled faces s)) (kids_same t faces name id lawful (filled faces s))
      ∙ ap (choosing t.rows on) (kids_seen t faces name id (filled faces s))
      ∙ ap (λ m. choosing t.rows on (children_of m t)) (found_number t n s is)

  pub selects_all : (b : Bool) (states : ℕ) → option_map (λ (r : ShapeRow). r.states) (row_of n t) ≡ Some states → b ≡ has_state 18 states → steps ≡ cond b (Some (choosing t.rows true (children_of n t))) None → ChangesChildren t n SelectAll body steps
  selects_all b states r e h faces name id s is =
      let same : s.states ≡ states = (let k : Some s.states ≡ Some states = sym (ap (option_map (λ (r : ShapeRow). r.states)) is) ∙ r in cc) in
      ap (changes (seen t faces name id))
      (ap (λ (l : List Step). cond (has_state 18 s.states) (Some l) None) (kids_chosen true faces name id s is)
      ∙ ap (λ k. cond (has_state 18 k) (Some (choosing t.rows true (children_of n t))) None) same
      ∙ ap (λ d. cond d (Some (choosing t.rows true (children_of n t))) None) (sym e)
      ∙ sym h)

  pub clears : steps ≡ Some (choosing t.rows false (children_of n t)) → ChangesChildren t n ClearSelection body steps
  clears h faces name id s is = ap (changes (seen t faces name id)) (ap (λ (l : List Step). Some l) (kids_chosen false faces name id s is) ∙ sym h)

-- nodes chosen one after the other
chosen_cons : (f : Forest ShapeRow) (on : Bool) (m : ℕ) (ms : List ℕ) → choosing f on (m ∷ ms) ≡ choosing f on (m ∷ []) ++ choosing f on ms
chosen_cons f on m ms = at (differs on (is_selected f m))
  where
    at : (b : Bool) → map (λ m. SetState m 23 on) (cond b (m ∷ filter (λ m. differs on (is_selected f m)) ms) (filter (λ m. differs on (is_selected f m)) ms))
        ≡ map (λ m. SetState m 23 on) (cond b (m ∷ []) []) ++ choosing f on ms
    at true = refl
    at false = refl

pub chosen_more : (f : Forest ShapeRow) (on : Bool) (ms : List ℕ) (i : ℕ) (steps more whole : List Step) → i < length ms
    → steps ++ choosing f on (drop i ms) ≡ whole → more ≡ steps ++ choosing f on (get_or ms i 0 ∷ []) → more ++ choosing f on (drop (i + 1) ms) ≡ whole
chosen_more f on ms i steps more whole l e g =
    ap (λ (s : List Step). s ++ choosing f on (drop (i + 1) ms)) g
    ∙ append_assoc steps (choosing f on (get_or ms i 0 ∷ [])) (choosing f on (drop (i + 1) ms))
    ∙ ap (λ (s : List Step). steps ++ s) (sym (chosen_cons f on (get_or ms i 0) (drop (i + 1) ms)))
    ∙ ap (λ (ns : List ℕ). steps ++ choosing f on ns) (sym (drop_more ms i 0 l))
    ∙ e

-- one node
pub not_chosen : (f : Forest ShapeRow) (on : Bool) (m : ℕ) (steps : List Step) → is_selected f m ≡ on → steps ≡ steps ++ choosing f on (m ∷ [])
not_chosen f true m steps e = sym (ap (λ b. steps ++ map (λ m. SetState m 23 true) (cond (not b) (m ∷ []) [])) e ∙ append-nil steps)
not_chosen f false m steps e = sym (ap (λ b. steps ++ map (λ m. SetState m 23 false) (cond b (m ∷ []) [])) e ∙ append-nil steps)

pub one_chosen : (f : Forest ShapeRow) (on : Bool) (m : ℕ) → (is_selected f m ≡ on → ⊥) → SetState m 23 on ∷ [] ≡ choosing f on (m ∷ [])
one_chosen f on m ne = by on (is_selected f m) refl ne
  where
    by : (o b : Bool) → is_selected f m ≡ b → (is_selected f m ≡ o → ⊥) → SetState m 23 o ∷ [] ≡ choosing f o (m ∷ [])
    by true true e ne = absurd (ne e)
    by false false e ne = absurd (ne e)
    by true false e ne = sym (ap (λ b. map (λ m. SetState m 23 true) (cond (not b) (m ∷ []) [])) e)
    by false true e ne = sym (ap (λ b. map (λ m. SetState m 23 false) (cond b (m ∷ []) [])) e)
