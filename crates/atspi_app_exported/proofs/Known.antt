-- What an edit reads is what the faces keep.
use Rattle.std.proofs.Common.{◌≡◌, ℕ, suc, arith, Bool, true, false, not, Option, Some, None, List, [], ◌∷◌, refl, sym, ap, ◌∙◌, subst, true≢false}
use Rattle.std.specs.Prelude.{◌==◌, length, MatchOption, is_some, Result, Ok, Err, IfOk}
use Rattle.atspi_tree_model.specs.declared.contents.Kinds.{Kinds}
use Rattle.std.specs.Option.{option_map}
use Rattle.std.specs.FinMap.{get}
use Rattle.std.proofs.lemmas.Bool.{eqb-true}
use Rattle.atspi_tree_model.specs.declared.contents.FaceKind.TheVariants.{Chars as chars_kind, Deeds as deeds_kind}
use Rattle.atspi_tree_model.specs.declared.contents.FaceData.{FaceData}
use Rattle.atspi_tree_model.specs.declared.contents.FaceData.TheVariants.{Chars, Grid, Deeds}
use Rattle.atspi_tree_model.specs.Edits.{text_contents, action_contents}
use Rattle.atspi_tree_model.specs.Forest.{Forest, has, find}
use Rattle.atspi_tree_model.specs.Row.{ShapeRow, TextContents, Contents, TreeRow, HoldsIfThere, IsText, IsContents}
use Rattle.atspi_tree_model.specs.RowRules.{rows}
use Rattle.atspi_tree_model.specs.Tree.{is_node, is_shape, IsTree}
use Rattle.atspi_tree_model.proofs.Found.{find-passes, has-count}
use Rattle.atspi_tree_model.proofs.Lookup.{find-relabel}
use Rattle.atspi_tree_model.proofs.EditLemmas.{lawful_row}
use Rattle.atspi_tree_model.proofs.Relabel.{Same}
use Rattle.atspi_faces.specs.face.Contents.{kind_of}
use Rattle.atspi_faces.specs.face.Nodes.{HasText}
use Rattle.atspi_protocol.specs.whole.Whole.{Faces, as_text, as_actions, contents_of, filled, whole}
use Rattle.atspi_tree_edits.specs.Answers.{IsKnown}
use Rattle.atspi_app_exported.specs.Asking.{HasNames}

same_node : (faces : Faces) (n : ℕ) → Same (filled faces) (is_node n) (is_shape n)
same_node faces n row = refl

-- a row of the whole tree, found by its number, from the row of its shape
pub row_found : (f : Forest ShapeRow) (faces : Faces) (n : ℕ) → find (is_node n) (whole f faces) ≡ option_map (filled faces) (find (is_shape n) f)
row_found f faces n = find-relabel (filled faces) (is_node n) (is_shape n) (same_node faces n) f

row_by : (f : Forest ShapeRow) (faces : Faces) (n : ℕ) (row : TreeRow) (o : Option ShapeRow) → find (is_shape n) f ≡ o → option_map (filled faces) o ≡ Some row
    → row.contents ≡ contents_of faces n
row_by f faces n row None h x = absurd cc
row_by f faces n row (Some r) h x =
    let same : filled faces r ≡ row = cc in
    let node : r.node ≡ n = eqb-true r.node n (find-passes (is_shape n) f r h).0 in
    sym (ap (λ (t : TreeRow). t.contents) same) ∙ ap (contents_of faces) node

-- its contents are what the faces keep
pub row_contents : (f : Forest ShapeRow) (faces : Faces) (n : ℕ) (row : TreeRow) → find (is_node n) (whole f faces) ≡ Some row → row.contents ≡ contents_of faces n
row_contents f faces n row e = row_by f faces n row (find (is_shape n) f) refl (sym (row_found f faces n) ∙ e)

pub row_text : (f : Forest ShapeRow) (faces : Faces) (n : ℕ) (row : TreeRow) → find (is_node n) (whole f faces) ≡ Some row → row.contents.text ≡ as_text (get faces.chars n)
row_text f faces n row e = ap (λ (c : Contents). c.text) (row_contents f faces n row e)

-- a node that is not there has no contents to read
none_by : (f : Forest ShapeRow) (n : ℕ) (o : Option ShapeRow) → find (is_shape n) f ≡ o → has (is_shape n) f ≡ false → o ≡ None
none_by f n None e h = refl
none_by f n (Some r) e h = absurd (true≢false (sym (has-count (is_shape n) f (find-passes (is_shape n) f r e).1) ∙ h))

not_found : (f : Forest ShapeRow) (faces : Faces) (n : ℕ) → has (is_shape n) f ≡ false → find (is_node n) (whole f faces) ≡ None
not_found f faces n h = row_found f faces n ∙ ap (option_map (filled faces)) (none_by f n (find (is_shape n) f) refl h)

pub no_text_there : (f : Forest ShapeRow) (faces : Faces) (n : ℕ) → has (is_shape n) f ≡ false → Deeds [] ≡ text_contents (find (is_node n) (whole f faces))
no_text_there f faces n h = sym (ap text_contents (not_found f faces n h))

pub no_actions_there : (f : Forest ShapeRow) (faces : Faces) (n : ℕ) → has (is_shape n) f ≡ false → Deeds [] ≡ action_contents (find (is_node n) (whole f faces))
no_actions_there f faces n h = sym (ap action_contents (not_found f faces n h))

-- the rows of the shape and of the whole
pub record IsFound (f : Forest ShapeRow) (faces : Faces) (k n : ℕ) (row : ShapeRow) : Type 0 where
  pub there : find (is_node n) (whole f faces) ≡ Some (filled faces row)
  pub contents : contents_of faces row.node ≡ contents_of faces n
  pub lawful : IsContents row.kinds (contents_of faces row.node)

pub found_row : (f : Forest ShapeRow) (faces : Faces) (k n : ℕ) (row : ShapeRow) → IsTree rows (whole f faces) k → find (is_shape n) f ≡ Some row → IsFound f faces k n row
found_row f faces k n row t e =
    let there : find (is_node n) (whole f faces) ≡ Some (filled faces row) = row_found f faces n ∙ ap (option_map (filled faces)) e in
    record {
      there = there;
      contents = ap (contents_of faces) (eqb-true row.node n (find-passes (is_shape n) f row e).0);
      lawful = (lawful_row (whole f faces) k n (filled faces row) t there).1;
    }

-- a text
has_text_by : (o : Option FaceData) → true ≡ is_some (as_text o) → MatchOption o ⊥ (λ what. kind_of what ≡ chars_kind)
has_text_by None e = absurd (true≢false e)
has_text_by (Some (Chars text caret marks)) e = refl
has_text_by (Some (Grid columns)) e = absurd (true≢false e)
has_text_by (Some (Deeds names)) e = absurd (true≢false e)

text_read_by : (c : Option TextContents) (o : Option FaceData) → c ≡ as_text o → MatchOption o ⊥ (λ what. kind_of what ≡ chars_kind) → (what : FaceData) → o ≡ Some what
    → HoldsIfThere IsText c → (row : TreeRow) → row.contents.text ≡ c → (what ≡ text_contents (Some row)) × IsKnown what
text_read_by c None e h what s l row r = absurd h
text_read_by c (Some (Chars text caret marks)) e h what s l row r =
    let same : Chars text caret marks ≡ what = cc in
    let given : row.contents.text ≡ Some (record { characters = text; caret = caret; selections = marks }) = r ∙ e in
    (sym same ∙ sym (rw given refl), subst IsKnown same (subst (HoldsIfThere IsText) e l))
text_read_by c (Some (Grid columns)) e h what s l row r = absurd cc
text_read_by c (Some (Deeds names)) e h what s l row r = absurd cc

-- of a node with a text the face has one, and it is what an edit reads
pub text_is_there : (f : Forest ShapeRow) (faces : Faces) (k n : ℕ) (row : ShapeRow) → IsTree rows (whole f faces) k → find (is_shape n) f ≡ Some row
    → row.kinds.text ≡ true → HasText faces.chars n
text_is_there f faces k n row t e kind =
    let x = found_row f faces k n row t e in
    has_text_by (get faces.chars n) (sym kind ∙ x.lawful.text ∙ ap (λ (c : Contents). is_some c.text) x.contents)

pub text_is_read : (f : Forest ShapeRow) (faces : Faces) (k n : ℕ) (row : ShapeRow) (what : FaceData) → IsTree rows (whole f faces) k → find (is_shape n) f ≡ Some row
    → row.kinds.text ≡ true → get faces.chars n ≡ Some what → (what ≡ text_contents (find (is_node n) (whole f faces))) × IsKnown what
text_is_read f faces k n row what t e kind s =
    let x = found_row f faces k n row t e in
    let r = text_read_by (as_text (get faces.chars row.node)) (get faces.chars n) (ap (λ (c : Contents). c.text) x.contents)
    (text_is_there f faces k n row t e kind) what s x.lawful.lawful_text (filled faces row) refl in
    (r.0 ∙ ap text_contents (sym x.there), r.1)

no_text_by : (c : Option TextContents) → false ≡ is_some c → (row : TreeRow) → row.contents.text ≡ c → Deeds [] ≡ text_contents (Some row)
no_text_by None e row r = sym (rw r refl)
no_text_by (Some text) e row r = absurd (true≢false (sym e))

pub text_not_read : (f : Forest ShapeRow) (faces : Faces) (k n : ℕ) (row : ShapeRow) → IsTree rows (whole f faces) k → find (is_shape n) f ≡ Some row
    → row.kinds.text ≡ false → Deeds [] ≡ text_contents (find (is_node n) (whole f faces))
text_not_read f faces k n row t e kind =
    let x = found_row f faces k n row t e in
    no_text_by (as_text (get faces.chars row.node)) (sym kind ∙ x.lawful.text) (filled faces row) refl ∙ ap text_contents (sym x.there)

-- actions
has_names_by : (o : Option FaceData) → true ≡ not (length (as_actions o) == 0) → MatchOption o ⊥ (λ what. kind_of what ≡ deeds_kind)
has_names_by None e = absurd (true≢false e)
has_names_by (Some (Chars text caret marks)) e = absurd (true≢false e)
has_names_by (Some (Grid columns)) e = absurd (true≢false e)
has_names_by (Some (Deeds names)) e = refl

pub names_are_there : (f : Forest ShapeRow) (faces : Faces) (k n : ℕ) (row : ShapeRow) → IsTree rows (whole f faces) k → find (is_shape n) f ≡ Some row
    → row.kinds.action ≡ true → HasNames faces.deeds n
names_are_there f faces k n row t e kind =
    let x = found_row f faces k n row t e in
    has_names_by (get faces.deeds n) (sym kind ∙ x.lawful.action ∙ ap (λ (c : Contents). not (length c.actions == 0)) x.contents)

names_read_by : (o : Option FaceData) → MatchOption o ⊥ (λ what. kind_of what ≡ deeds_kind) → (what : FaceData) → o ≡ Some what
    → (row : TreeRow) → row.contents.actions ≡ as_actions o → (what ≡ action_contents (Some row)) × IsKnown what
names_read_by None h what s row r = absurd h
names_read_by (Some (Chars text caret marks)) h what s row r = absurd cc
names_read_by (Some (Grid columns)) h what s row r = absurd cc
names_read_by (Some (Deeds names)) h what s row r =
    let same : Deeds names ≡ what = cc in
    (sym same ∙ ap Deeds (sym r), subst IsKnown same tt)

pub names_are_read : (f : Forest ShapeRow) (faces : Faces) (k n : ℕ) (row : ShapeRow) (what : FaceData) → IsTree rows (whole f faces) k → find (is_shape n) f ≡ Some row
    → row.kinds.action ≡ true → get faces.deeds n ≡ Some what → (what ≡ action_contents (find (is_node n) (whole f faces))) × IsKnown what
names_are_read f faces k n row what t e kind s =
    let x = found_row f faces k n row t e in
    let r = names_read_by (get faces.deeds n) (names_are_there f faces k n row t e kind) what s (filled faces row) (ap (λ (c : Contents). c.actions) x.contents) in
    (r.0 ∙ ap action_contents (sym x.there), r.1)

nonzero : (n : ℕ) (b : Bool) → (suc n == 0) ≡ b → false ≡ not b → ⊥
nonzero n true h e = let z : suc n ≡ 0 = eqb-true (suc n) 0 h in omega arith
nonzero n false h e = true≢false (sym e)

no_names_by : (names : List (List ℕ)) → false ≡ not (length names == 0) → (row : TreeRow) → row.contents.actions ≡ names → Deeds [] ≡ action_contents (Some row)
no_names_by [] e row r = ap Deeds (sym r)
no_names_by (name ∷ names) e row r = absurd (nonzero (length names) (length (name ∷ names) == 0) refl e)

pub names_not_read : (f : Forest ShapeRow) (faces : Faces) (k n : ℕ) (row : ShapeRow) → IsTree rows (whole f faces) k → find (is_shape n) f ≡ Some row
    → row.kinds.action ≡ false → Deeds [] ≡ action_contents (find (is_node n) (whole f faces))
names_not_read f faces k n row t e kind =
    let x = found_row f faces k n row t e in
    no_names_by (as_actions (get faces.deeds row.node)) (sym kind ∙ x.lawful.action) (filled faces row) refl ∙ ap action_contents (sym x.there)

-- the row of a node whose interfaces are known
pub record KindsFound (f : Forest ShapeRow) (n : ℕ) (kinds : Kinds) : Type 0 where
  pub row : ShapeRow
  pub there : find (is_shape n) f ≡ Some row
  pub kinds_are : row.kinds ≡ kinds

kinds_by : (f : Forest ShapeRow) (n : ℕ) (kinds : Kinds) (o : Option ShapeRow) → find (is_shape n) f ≡ o → option_map (λ (row : ShapeRow). row.kinds) o ≡ Some kinds → KindsFound f n kinds
kinds_by f n kinds None e h = absurd cc
kinds_by f n kinds (Some row) e h = let same : row.kinds ≡ kinds = cc in record { row = row; there = e; kinds_are = same }

pub kinds_found : (f : Forest ShapeRow) (n : ℕ) (kinds : Kinds) → option_map (λ (row : ShapeRow). row.kinds) (find (is_shape n) f) ≡ Some kinds → KindsFound f n kinds
kinds_found f n kinds h = kinds_by f n kinds (find (is_shape n) f) refl h

-- another fact of what was read
pub if_ok : {T E : Type 0} (P Q : T → Type 0) (r : Result T E) → ((x : T) → P x → Q x) → IfOk r P → IfOk r Q
if_ok P Q (Ok x) w h = w x h
if_ok P Q (Err e) w h = tt
