-- What members tell of a node, by what is read in the tree.
use Rattle.std.proofs.Common.{◌≡◌, ℕ, ℤ, Bool, List, [], Some, length, sym, ap, ◌∙◌}
use Rattle.std.specs.Prelude.{codes, decimal, filter, ◌==◌, ◌/◌}
use Rattle.std.specs.Option.{option_map}
use Rattle.std.proofs.lemmas.Bool.{eqb-true}
use Rattle.atspi_types.specs.Kinds.{text, u32}
use Rattle.atspi_types.specs.Data.{Data, number_data, text_data, dictionary_data, entries_of}
use Rattle.atspi_tree_model.specs.declared.contents.Kinds.{Kinds}
use Rattle.atspi_tree_model.specs.Row.{ShapeRow}
use Rattle.atspi_tree_model.specs.RowRules.{shapes}
use Rattle.atspi_tree_model.specs.Tree.{is_shape, seat_of}
use Rattle.atspi_tree_model.specs.Announce.{interfaces_of}
use Rattle.atspi_tree_model.proofs.Found.{find-passes}
use Rattle.atspi_protocol.specs.declared.members.member.ObjectMember.TheVariants.{GetChildAtIndex, GetChildren, GetIndexInParent, GetRole, GetRoleName, GetLocalizedRoleName, GetState, GetAttributes, GetApplication, GetInterfaces}
use Rattle.atspi_protocol.specs.declared.members.property.ObjectProperty.TheVariants.{Name, Description, Parent, ChildCount, Locale, AccessibleId, ToolkitName, Version, AtspiVersion, Id, CharacterCount, CaretOffset, NSelectedChildren, NRows, NColumns, NActions}
use Rattle.atspi_protocol.specs.members.Arguments.{int, signed_at}
use Rattle.atspi_tree.specs.TreeShape.{TreeShape, IsLawful, row_of, children_of}
use Rattle.atspi_protocol.specs.whole.Whole.{filled}
use Rattle.atspi_protocol.specs.objects.Values.{count_data, role_name, words_data, texts_data}
use Rattle.atspi_protocol.specs.objects.Children as children
use Rattle.atspi_protocol.specs.objects.Answers.{tells}
use Rattle.atspi_app_answers.specs.declared.counts.Counts.{Counts}
use Rattle.atspi_app_answers.specs.Seen.{seen}
use Rattle.atspi_app_answers.specs.inner.Selected.{is_selected_in}
use Rattle.atspi_app_values.specs.Numbers.{numbered_or_null, numbered_references, index_of, parent_of}
use Rattle.atspi_app_answers.specs.Told.{Tells, IsProperty}
use Rattle.atspi_app_answers.proofs.Seen.{references_seen, child_seen, index_seen, parent_seen, count_seen}
use Rattle.atspi_app_answers.proofs.SelectedLemmas.{selected_seen}

pub found_number : (t : TreeShape) (n : ℕ) (s : ShapeRow) → row_of n t ≡ Some s → s.node ≡ n
found_number t n s e = eqb-true s.node n (find-passes (is_shape n) t.rows s e).0

-- a part of the row that is there
pub part_found : {A : Type 0} (f : ShapeRow → A) (t : TreeShape) (n : ℕ) (s : ShapeRow) (x : A) → row_of n t ≡ Some s → option_map f (row_of n t) ≡ Some x → f s ≡ x
part_found f t n s x e h = let k : Some (f s) ≡ Some x = sym (ap (option_map f) e) ∙ h in cc

module _ (t : TreeShape) (name : List ℕ) (n : ℕ) (body : List Data) (v : Data) where
  pub tells_child : (z : ℤ) → z ≡ signed_at 0 body → v ≡ numbered_or_null name (children.at z (children_of n t)) → Tells t name n GetChildAtIndex body v
  tells_child z e h faces id s is =
      ap (tells (seen t faces name id))
      (child_seen t faces name id (signed_at 0 body) (filled faces s)
      ∙ ap (λ m. numbered_or_null name (children.at (signed_at 0 body) (children_of m t))) (found_number t n s is)
      ∙ ap (λ w. numbered_or_null name (children.at w (children_of n t))) (sym e)
      ∙ sym h)

  pub tells_children : v ≡ numbered_references name (children_of n t) → Tells t name n GetChildren body v
  tells_children h faces id s is =
      ap (tells (seen t faces name id))
      (references_seen t faces name id (filled faces s) ∙ ap (λ m. numbered_references name (children_of m t)) (found_number t n s is) ∙ sym h)

  pub tells_index : (z : ℤ) → z ≡ index_of (seat_of shapes n t.rows) → v ≡ int z → Tells t name n GetIndexInParent body v
  tells_index z e h faces id s is =
      ap (tells (seen t faces name id))
      (index_seen t faces name id (filled faces s) ∙ ap (λ m. int (index_of (seat_of shapes m t.rows))) (found_number t n s is) ∙ ap int (sym e) ∙ sym h)

  pub tells_role : (r : ℕ) → option_map (λ (s : ShapeRow). s.role) (row_of n t) ≡ Some r → v ≡ number_data u32 r → Tells t name n GetRole body v
  tells_role r e h faces id s is = ap (tells (seen t faces name id)) (ap (number_data u32) (part_found (λ (s : ShapeRow). s.role) t n s r is e) ∙ sym h)

  pub tells_role_name : (r : ℕ) → option_map (λ (s : ShapeRow). s.role) (row_of n t) ≡ Some r → v ≡ text_data (role_name r) → Tells t name n GetRoleName body v
  tells_role_name r e h faces id s is = ap (tells (seen t faces name id)) (ap (λ q. text_data (role_name q)) (part_found (λ (s : ShapeRow). s.role) t n s r is e) ∙ sym h)

  pub tells_localized_name : (r : ℕ) → option_map (λ (s : ShapeRow). s.role) (row_of n t) ≡ Some r → v ≡ text_data (role_name r) → Tells t name n GetLocalizedRoleName body v
  tells_localized_name r e h faces id s is = ap (tells (seen t faces name id)) (ap (λ q. text_data (role_name q)) (part_found (λ (s : ShapeRow). s.role) t n s r is e) ∙ sym h)

  pub tells_state : (r : ℕ) → option_map (λ (s : ShapeRow). s.states) (row_of n t) ≡ Some r → v ≡ words_data r → Tells t name n GetState body v
  tells_state r e h faces id s is = ap (tells (seen t faces name id)) (ap words_data (part_found (λ (s : ShapeRow). s.states) t n s r is e) ∙ sym h)

  pub tells_attributes : v ≡ dictionary_data text text (entries_of []) → Tells t name n GetAttributes body v
  tells_attributes h faces id s is = ap (tells (seen t faces name id)) (sym h)

  pub tells_application : v ≡ numbered_or_null name (Some 0) → Tells t name n GetApplication body v
  tells_application h faces id s is = ap (tells (seen t faces name id)) (sym h)

  pub tells_interfaces : (b : Bool) (k : Kinds) → b ≡ (n == 0) → option_map (λ (s : ShapeRow). s.kinds) (row_of n t) ≡ Some k → v ≡ texts_data (interfaces_of b k) → Tells t name n GetInterfaces body v
  tells_interfaces b k root e h faces id s is =
      ap (tells (seen t faces name id))
      (ap (λ m. texts_data (interfaces_of (m == 0) s.kinds)) (found_number t n s is)
      ∙ ap (λ (q : Kinds). texts_data (interfaces_of (n == 0) q)) (part_found (λ (s : ShapeRow). s.kinds) t n s k is e)
      ∙ ap (λ c. texts_data (interfaces_of c k)) (sym root) ∙ sym h)

module _ (t : TreeShape) (name : List ℕ) (id : ℤ) (counts : Counts) (n : ℕ) (v : Data) where
  pub is_name : (x : List ℕ) → option_map (λ (s : ShapeRow). s.name) (row_of n t) ≡ Some x → v ≡ text_data x → IsProperty t name id counts n Name v
  is_name x e h faces s is _ = ap text_data (part_found (λ (s : ShapeRow). s.name) t n s x is e) ∙ sym h

  pub is_description : (x : List ℕ) → option_map (λ (s : ShapeRow). s.description) (row_of n t) ≡ Some x → v ≡ text_data x → IsProperty t name id counts n Description v
  is_description x e h faces s is _ = ap text_data (part_found (λ (s : ShapeRow). s.description) t n s x is e) ∙ sym h

  pub is_parent : v ≡ parent_of name (seat_of shapes n t.rows) → IsProperty t name id counts n Parent v
  is_parent h faces s is _ = parent_seen t faces name id (filled faces s) ∙ ap (λ m. parent_of name (seat_of shapes m t.rows)) (found_number t n s is) ∙ sym h

  pub is_child_count : (k : ℕ) → k ≡ length (children_of n t) → v ≡ count_data k → IsProperty t name id counts n ChildCount v
  is_child_count k e h faces s is _ =
      ap count_data (count_seen t faces name id (filled faces s) ∙ ap (λ m. length (children_of m t)) (found_number t n s is) ∙ sym e) ∙ sym h

  pub is_id_text : v ≡ text_data (decimal n) → IsProperty t name id counts n AccessibleId v
  is_id_text h faces s is _ = ap (λ m. text_data (decimal m)) (found_number t n s is) ∙ sym h

  pub is_locale : v ≡ text_data (codes "C") → IsProperty t name id counts n Locale v
  is_locale h faces s is _ = sym h

  pub is_toolkit : v ≡ text_data (codes "atspi-replay") → IsProperty t name id counts n ToolkitName v
  is_toolkit h faces s is _ = sym h

  pub is_version : v ≡ text_data (codes "1") → IsProperty t name id counts n Version v
  is_version h faces s is _ = sym h

  pub is_atspi_version : v ≡ text_data (codes "2.1") → IsProperty t name id counts n AtspiVersion v
  is_atspi_version h faces s is _ = sym h

  pub is_number : v ≡ int id → IsProperty t name id counts n Id v
  is_number h faces s is _ = sym h

  pub is_character_count : v ≡ count_data counts.characters → IsProperty t name id counts n CharacterCount v
  is_character_count h faces s is k = ap count_data (sym k) ∙ sym h

  pub is_caret : v ≡ count_data counts.caret → IsProperty t name id counts n CaretOffset v
  is_caret h faces s is k = ap count_data (sym k) ∙ sym h

  pub is_selected_count : (k : ℕ) → k ≡ length (filter (is_selected_in t) (children_of n t)) → IsLawful t → v ≡ count_data k → IsProperty t name id counts n NSelectedChildren v
  is_selected_count k e lawful h faces s is _ =
      ap count_data (selected_seen t faces name id lawful (filled faces s) ∙ ap (λ m. length (filter (is_selected_in t) (children_of m t))) (found_number t n s is) ∙ sym e) ∙ sym h

  pub is_row_count : (k : ℕ) → k ≡ length (children_of n t) / counts.columns → v ≡ count_data k → IsProperty t name id counts n NRows v
  is_row_count k e h faces s is c =
      ap count_data
      (ap (λ m. length (children.children_of (seen t faces name id) (filled faces s)) / m) (sym c)
      ∙ ap (λ m. m / counts.columns) (count_seen t faces name id (filled faces s) ∙ ap (λ m. length (children_of m t)) (found_number t n s is))
      ∙ sym e)
      ∙ sym h

  pub is_column_count : v ≡ count_data counts.columns → IsProperty t name id counts n NColumns v
  is_column_count h faces s is k = ap count_data (sym k) ∙ sym h

  pub is_action_count : v ≡ count_data counts.actions → IsProperty t name id counts n NActions v
  is_action_count h faces s is k = ap count_data (sym k) ∙ sym h
