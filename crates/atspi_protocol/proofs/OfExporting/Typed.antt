-- What an application says is well typed.
use Rattle.std.proofs.Common.{◌≡◌, ℕ, Bool, true, false, Option, Some, None, List, [], ◌∷◌, ◌++◌, refl}
use Rattle.std.specs.Prelude.{ℤ, pos, negsuc, ◌*◌, ◌/◌, ◌%◌, map, codes, bytes_eq, nat_lt, if◌then◌else◌, Result, Ok, Err}
use Rattle.atspi_types.specs.Kinds.{Kind, IsLawful, text, variant, number, u32, i32, structure, array, kinds_of}
use Rattle.atspi_types.specs.Data.{Data, type_of, items_of, entries_of, text_data, number_data, array_data, structure_data, IsWellTyped, AreWellTyped, AllHaveType, AllHaveTypes}
use Rattle.atspi_tree_model.specs.declared.edit.Edit.TheVariants as edits
use Rattle.atspi_tree_model.specs.declared.news.Item.{Item}
use Rattle.atspi_tree_model.specs.declared.step.Step.{Step}
use Rattle.atspi_tree_model.specs.declared.step.Step.TheVariants.{Add, Remove, Move, SetName, SetDescription, SetRole, SetState, Insert, Delete, Caret, TextSelect, Relate}
use Rattle.atspi_tree_model.specs.Forest.{Forest, labels, width, pick, find, children_at}
use Rattle.atspi_tree_model.specs.Row.{TreeRow, Each, targets_of}
use Rattle.atspi_tree_model.specs.RowRules.{rows}
use Rattle.atspi_tree_model.specs.Tree.{is_node, after, seat_of}
use Rattle.atspi_tree_model.specs.Announce.{own, item_of, items}
use Rattle.atspi_tree_model.proofs.Lookup.{each_append}
use Rattle.atspi_protocol.specs.ends.Places.{reference_kind, cache_path, registry, root_path}
use Rattle.atspi_protocol.specs.declared.members.member.ObjectMember.{ObjectMember}
use Rattle.atspi_protocol.specs.declared.members.member.ObjectMember.TheVariants as members
use Rattle.atspi_protocol.specs.declared.members.property.ObjectProperty.{ObjectProperty}
use Rattle.atspi_protocol.specs.declared.members.property.ObjectProperty.TheVariants as properties
use Rattle.atspi_protocol.specs.members.Arguments.{signed_at, text_at, unsigned_at}
use Rattle.atspi_protocol.specs.members.Granularity.{grain_of}
use Rattle.atspi_units.specs.Pieces.{Piece}
use Rattle.atspi_protocol.specs.members.Asked.{Asked, calls, gets, gets_all, sets, asked}
use Rattle.atspi_protocol.specs.members.Table.{PropertyLine}
use Rattle.atspi_protocol.specs.objects.Application.{Application}
use Rattle.atspi_protocol.specs.objects.Places.{Place, node, whole_tree, node_at, offered_if_there, node_interfaces}
use Rattle.atspi_protocol.specs.objects.Values.{count_data, in_variant, texts_data, node_reference, row_reference, reference_or_null, references_data, item_kind, item_data}
use Rattle.atspi_protocol.specs.objects.Children.{at, children_of, selected_children, parent_data, index_data}
use Rattle.atspi_protocol.specs.objects.Texts.{text_of, character_data, piece_there, piece_data, selection_data}
use Rattle.atspi_protocol.specs.objects.Tables.{cell_at, cell_index, index_or_none, in_cells, columns_of, rows_of}
use Rattle.atspi_protocol.specs.objects.Properties.{property_data}
use Rattle.atspi_protocol.specs.objects.Changes as changing
use Rattle.atspi_protocol.specs.objects.Answers.{changes, name_data, called, node_answers, tree_answers, place_answers, answer}
use Rattle.atspi_protocol.specs.announcing.Signals.{child_changed, removed}
use Rattle.atspi_protocol.specs.announcing.Announced.{told_node, left, announced}
use Rattle.atspi_protocol.specs.exporting.Laws.{IsTypedReply, IsTypedSignal, WordsAreTyped}

-- elements made one by one
made : {A : Type 0} (k : Kind) (g : A → Data) → ((x : A) → (type_of (g x) ≡ k) × IsWellTyped (g x)) → (xs : List A) → AllHaveType k (items_of (map g xs))
made k g h [] = tt
made k g h (x ∷ xs) = ((h x).0, (h x).1, made k g h xs)

texts_typed : (xs : List (List ℕ)) → IsWellTyped (texts_data xs)
texts_typed xs = (tt, made text text_data (λ x. (refl, tt)) xs)

references_typed : (a : Application) (rs : List TreeRow) → IsWellTyped (references_data a rs)
references_typed a rs = ((tt, (tt, tt)), made reference_kind (row_reference a) (λ r. (refl, (tt, (tt, tt)))) rs)

-- a value of a lawful type in a variant
varied : (d : Data) → IsLawful (type_of d) → IsWellTyped d → IsWellTyped (in_variant d)
varied d l w = (l, refl, w)

abbrev IsSaid : Data → Type 0
IsSaid d = IsLawful (type_of d) × IsWellTyped d

parent_said : (a : Application) (row : TreeRow) → IsSaid (parent_data a row)
parent_said a row = by_seat (seat_of rows row.shape.node a.tree) refl
  where
    by_seat : (o : Option (Option ℕ × ℕ)) → seat_of rows row.shape.node a.tree ≡ o → IsSaid (parent_data a row)
    by_seat None h = rw h ((tt, (tt, tt)), (tt, (tt, tt)))
    by_seat (Some (None, i)) h = rw h ((tt, (tt, tt)), (tt, (tt, tt)))
    by_seat (Some (Some p, i)) h = rw h ((tt, (tt, tt)), (tt, (tt, tt)))

index_typed : (a : Application) (row : TreeRow) → IsWellTyped (index_data a row)
index_typed a row = by_seat (seat_of rows row.shape.node a.tree) refl
  where
    by_seat : (o : Option (Option ℕ × ℕ)) → seat_of rows row.shape.node a.tree ≡ o → IsWellTyped (index_data a row)
    by_seat None h = rw h tt
    by_seat (Some (None, i)) h = rw h tt
    by_seat (Some (Some p, i)) h = rw h tt

property_said : (a : Application) (row : TreeRow) (property : ObjectProperty) → IsSaid (property_data a row property)
property_said a row properties.Name = (tt, tt)
property_said a row properties.Description = (tt, tt)
property_said a row properties.Parent = parent_said a row
property_said a row properties.ChildCount = (tt, tt)
property_said a row properties.Locale = (tt, tt)
property_said a row properties.AccessibleId = (tt, tt)
property_said a row properties.ToolkitName = (tt, tt)
property_said a row properties.Version = (tt, tt)
property_said a row properties.AtspiVersion = (tt, tt)
property_said a row properties.Id = (tt, tt)
property_said a row properties.CharacterCount = (tt, tt)
property_said a row properties.CaretOffset = (tt, tt)
property_said a row properties.NSelectedChildren = (tt, tt)
property_said a row properties.NRows = (tt, tt)
property_said a row properties.NColumns = (tt, tt)
property_said a row properties.NActions = (tt, tt)

entries_typed : (a : Application) (row : TreeRow) (lines : List PropertyLine)
    → AllHaveTypes text variant (entries_of (map (λ (l : PropertyLine). (text_data l.name, in_variant (property_data a row l.property))) lines))
entries_typed a row [] = tt
entries_typed a row (l ∷ lines) =
    let s = property_said a row l.property in
    (refl, refl, tt, varied (property_data a row l.property) s.0 s.1, entries_typed a row lines)

to_typed : (a : Application) (o : Option TreeRow) → IsWellTyped (reference_or_null a o)
to_typed a None = (tt, (tt, tt))
to_typed a (Some row) = (tt, (tt, tt))

change_typed : (a : Application) (o : Option (List Step)) → IsTypedReply (changes a o).reply
change_typed a None = (tt, tt)
change_typed a (Some steps) = (tt, tt)

named_typed : (o : Option (List ℕ)) → IsWellTyped (name_data o)
named_typed None = tt
named_typed (Some name) = tt

character_typed : (o : Option ℕ) → IsWellTyped (character_data o)
character_typed None = tt
character_typed (Some c) = tt

range_typed : (o : Option (ℕ × ℕ)) → AreWellTyped (items_of (selection_data o))
range_typed None = (tt, (tt, tt))
range_typed (Some s) = (tt, (tt, tt))

piece_typed : (o : Option Piece) → AreWellTyped (items_of (piece_data o))
piece_typed None = (tt, (tt, (tt, tt)))
piece_typed (Some piece) = (tt, (tt, (tt, tt)))

cell_typed : (o : Option ℕ) → IsWellTyped (index_or_none o)
cell_typed None = tt
cell_typed (Some i) = tt

choice_typed : (b : Bool) (x y : Data) → IsWellTyped x → IsWellTyped y → IsWellTyped (if b then x else y)
choice_typed true x y hx hy = hx
choice_typed false x y hx hy = hy

in_cell_typed : (a : Application) (row : TreeRow) (f : ℕ → ℕ → ℕ) (z : ℤ) → IsWellTyped (in_cells a row f z)
in_cell_typed a row f (negsuc i) = tt
in_cell_typed a row f (pos i) = choice_typed (nat_lt i (rows_of a row * columns_of row)) (count_data (f i (columns_of row))) _ tt tt

item_typed : (x : Item) → IsWellTyped (item_data x)
item_typed x = ((tt, (tt, tt)), ((tt, (tt, tt)), ((tt, (tt, tt)), (tt, (tt, (texts_typed x.interfaces, (tt, (tt, (tt, ((tt, (refl, tt, (refl, tt, tt))), tt))))))))))

abbrev relation_of : Application → TreeRow → ℕ → Data
relation_of a row kind = structure_data (items_of (number_data u32 kind ∷ array_data reference_kind (items_of (map (node_reference a) (targets_of kind row.shape.relations))) ∷ []))

relation_typed : (a : Application) (row : TreeRow) (kinds : List ℕ)
    → AllHaveType (structure (kinds_of (number u32 ∷ array reference_kind ∷ []))) (items_of (map (relation_of a row) kinds))
relation_typed a row [] = tt
relation_typed a row (kind ∷ kinds) =
    (refl, (tt, (((tt, (tt, tt)), made reference_kind (node_reference a) (λ n. (refl, (tt, (tt, tt)))) (targets_of kind row.shape.relations)), tt)), relation_typed a row kinds)

called_typed : (a : Application) (row : TreeRow) (member : ObjectMember) (body : List Data) → IsTypedReply (called a row member body).reply
called_typed a row members.GetChildAtIndex body = (to_typed a (at (signed_at 0 body) (children_of a row)), tt)
called_typed a row members.GetChildren body = (references_typed a (children_of a row), tt)
called_typed a row members.GetIndexInParent body = (index_typed a row, tt)
called_typed a row members.GetRelationSet body = (((tt, ((tt, (tt, tt)), tt)), relation_typed a row _), tt)
called_typed a row members.GetRole body = (tt, tt)
called_typed a row members.GetRoleName body = (tt, tt)
called_typed a row members.GetLocalizedRoleName body = (tt, tt)
called_typed a row members.GetState body = ((tt, (refl, tt, (refl, tt, tt))), tt)
called_typed a row members.GetAttributes body = ((tt, tt, tt), tt)
called_typed a row members.GetApplication body = ((tt, (tt, tt)), tt)
called_typed a row members.GetInterfaces body = (texts_typed (node_interfaces row), tt)
called_typed a row members.GetLocale body = (tt, tt)
called_typed a row members.GetItems body = tt
called_typed a row members.GetText body = (tt, tt)
called_typed a row members.SetCaretOffset body = change_typed a (changing.edited_at a (edits.Caret row.shape.node) (signed_at 0 body))
called_typed a row members.GetCharacterAtOffset body = (character_typed (at (signed_at 0 body) (text_of row).characters), tt)
called_typed a row members.GetStringAtOffset body = piece_typed (piece_there (grain_of (unsigned_at 1 body)) (text_of row).characters (signed_at 0 body))
called_typed a row members.GetNSelections body = (tt, tt)
called_typed a row members.GetSelection body = range_typed (at (signed_at 0 body) (text_of row).selections)
called_typed a row members.AddSelection body = change_typed a (changing.edited_between a (edits.Mark row.shape.node) (signed_at 0 body) (signed_at 1 body))
called_typed a row members.RemoveSelection body = change_typed a (changing.selection_removed row (signed_at 0 body))
called_typed a row members.SetSelection body = change_typed a (changing.selection_set row (signed_at 0 body) (signed_at 1 body) (signed_at 2 body))
called_typed a row members.SetTextContents body = change_typed a (changing.text_exchanged a row (text_at 0 body))
called_typed a row members.InsertText body = change_typed a (changing.edited_at a (λ place. edits.Put row.shape.node place (text_at 1 body)) (signed_at 0 body))
called_typed a row members.DeleteText body = change_typed a (changing.edited_between a (edits.Cut row.shape.node) (signed_at 0 body) (signed_at 1 body))
called_typed a row members.GetSelectedChild body = (to_typed a (at (signed_at 0 body) (selected_children a row)), tt)
called_typed a row members.SelectChild body = change_typed a (changing.edited_at a (edits.Select row.shape.node) (signed_at 0 body))
called_typed a row members.DeselectChild body = change_typed a (changing.edited_at a (edits.Deselect row.shape.node) (signed_at 0 body))
called_typed a row members.DeselectSelectedChild body = change_typed a (changing.selected_child_off a row (signed_at 0 body))
called_typed a row members.IsChildSelected body = (tt, tt)
called_typed a row members.SelectAll body = change_typed a (changing.all_selected a row)
called_typed a row members.ClearSelection body = (tt, tt)
called_typed a row members.GetAccessibleAt body = (to_typed a (cell_at a row (signed_at 0 body) (signed_at 1 body)), tt)
called_typed a row members.GetIndexAt body = (cell_typed (cell_index a row (signed_at 0 body) (signed_at 1 body)), tt)
called_typed a row members.GetRowAtIndex body = (in_cell_typed a row (λ i columns. i / columns) (signed_at 0 body), tt)
called_typed a row members.GetColumnAtIndex body = (in_cell_typed a row (λ i columns. i % columns) (signed_at 0 body), tt)
called_typed a row members.GetSelectedRows body = ((tt, made (number i32) count_data (λ n. (refl, tt)) _), tt)
called_typed a row members.IsRowSelected body = (tt, tt)
called_typed a row members.IsSelected body = (tt, tt)
called_typed a row members.GetName body = (named_typed (at (signed_at 0 body) row.contents.actions), tt)
called_typed a row members.GetDescription body = (tt, tt)
called_typed a row members.GetKeyBinding body = (tt, tt)
called_typed a row members.GetActions body = (((tt, (tt, (tt, tt))), made _ _ (λ name. (refl, (tt, (tt, (tt, tt))))) row.contents.actions), tt)
called_typed a row members.DoAction body = change_typed a (changing.edited_at a (edits.Press row.shape.node) (signed_at 0 body))
called_typed a row members.RegisterEvent body = tt
called_typed a row members.DeregisterEvent body = tt
called_typed a row members.GetRegisteredEvents body = tt
called_typed a row members.Embed body = tt
called_typed a row members.Unembed body = tt
called_typed a row members.Get body = tt
called_typed a row members.GetAll body = tt
called_typed a row members.Set body = tt
called_typed a row members.Ping body = tt

node_typed : (a : Application) (row : TreeRow) (what : Asked) → IsTypedReply (node_answers a row what).reply
node_typed a row (calls member body) = called_typed a row member body
node_typed a row (gets property) = let s = property_said a row property in (varied (property_data a row property) s.0 s.1, tt)
node_typed a row (gets_all lines) = ((tt, tt, entries_typed a row lines), tt)
node_typed a row (sets property value) = tt

reference_lawful : IsLawful reference_kind
reference_lawful = (tt, (tt, tt))

item_lawful : IsLawful item_kind
item_lawful = (reference_lawful, (reference_lawful, (reference_lawful, (tt, (tt, (tt, (tt, (tt, (tt, (tt, tt))))))))))

whole_typed : (a : Application) (what : Asked) → IsTypedReply (tree_answers a what).reply
whole_typed a (calls members.GetChildAtIndex body) = tt
whole_typed a (calls members.GetChildren body) = tt
whole_typed a (calls members.GetIndexInParent body) = tt
whole_typed a (calls members.GetRelationSet body) = tt
whole_typed a (calls members.GetRole body) = tt
whole_typed a (calls members.GetRoleName body) = tt
whole_typed a (calls members.GetLocalizedRoleName body) = tt
whole_typed a (calls members.GetState body) = tt
whole_typed a (calls members.GetAttributes body) = tt
whole_typed a (calls members.GetApplication body) = tt
whole_typed a (calls members.GetInterfaces body) = tt
whole_typed a (calls members.GetLocale body) = tt
whole_typed a (calls members.GetItems body) = ((item_lawful, made item_kind item_data (λ x. (refl, item_typed x)) (items a.name (record { bus = registry; path = root_path }) a.tree)), tt)
whole_typed a (calls members.GetText body) = tt
whole_typed a (calls members.SetCaretOffset body) = tt
whole_typed a (calls members.GetCharacterAtOffset body) = tt
whole_typed a (calls members.GetStringAtOffset body) = tt
whole_typed a (calls members.GetNSelections body) = tt
whole_typed a (calls members.GetSelection body) = tt
whole_typed a (calls members.AddSelection body) = tt
whole_typed a (calls members.RemoveSelection body) = tt
whole_typed a (calls members.SetSelection body) = tt
whole_typed a (calls members.SetTextContents body) = tt
whole_typed a (calls members.InsertText body) = tt
whole_typed a (calls members.DeleteText body) = tt
whole_typed a (calls members.GetSelectedChild body) = tt
whole_typed a (calls members.SelectChild body) = tt
whole_typed a (calls members.DeselectChild body) = tt
whole_typed a (calls members.DeselectSelectedChild body) = tt
whole_typed a (calls members.IsChildSelected body) = tt
whole_typed a (calls members.SelectAll body) = tt
whole_typed a (calls members.ClearSelection body) = tt
whole_typed a (calls members.GetAccessibleAt body) = tt
whole_typed a (calls members.GetIndexAt body) = tt
whole_typed a (calls members.GetRowAtIndex body) = tt
whole_typed a (calls members.GetColumnAtIndex body) = tt
whole_typed a (calls members.GetSelectedRows body) = tt
whole_typed a (calls members.IsRowSelected body) = tt
whole_typed a (calls members.IsSelected body) = tt
whole_typed a (calls members.GetName body) = tt
whole_typed a (calls members.GetDescription body) = tt
whole_typed a (calls members.GetKeyBinding body) = tt
whole_typed a (calls members.GetActions body) = tt
whole_typed a (calls members.DoAction body) = tt
whole_typed a (calls members.RegisterEvent body) = tt
whole_typed a (calls members.DeregisterEvent body) = tt
whole_typed a (calls members.GetRegisteredEvents body) = tt
whole_typed a (calls members.Embed body) = tt
whole_typed a (calls members.Unembed body) = tt
whole_typed a (calls members.Get body) = tt
whole_typed a (calls members.GetAll body) = tt
whole_typed a (calls members.Set body) = tt
whole_typed a (calls members.Ping body) = tt
whole_typed a (gets property) = tt
whole_typed a (gets_all lines) = ((tt, tt, tt), tt)
whole_typed a (sets property value) = tt

answers_typed : (a : Application) (path : List ℕ) (interface member : Option (List ℕ)) (body : List Data) → IsTypedReply (answer a path interface member body).reply
answers_typed a path interface member body = by_cache (bytes_eq path cache_path) refl (node_at a.tree path) refl
  where
    at_place : (place : Option Place) (r : Result Asked (List ℕ)) → IsTypedReply (place_answers a place r).reply
    at_place place (Err word) = tt
    at_place None (Ok what) = tt
    at_place (Some (node row)) (Ok what) = node_typed a row what
    at_place (Some whole_tree) (Ok what) = whole_typed a what

    by_cache : (b : Bool) → bytes_eq path cache_path ≡ b → (o : Option TreeRow) → node_at a.tree path ≡ o
        → IsTypedReply (answer a path interface member body).reply
    by_cache true h o e = rw h (at_place (Some whole_tree) (asked (offered_if_there (Some whole_tree)) interface member body))
    by_cache false h None e = rw h (rw e tt)
    by_cache false h (Some row) e = rw h (rw e (at_place (Some (node row)) (asked (offered_if_there (Some (node row))) interface member body)))

-- signals
child_signal : (bus : List ℕ) (p : ℕ) (minor : List ℕ) (i n : ℕ) → IsTypedSignal (child_changed bus p minor i n)
child_signal bus p minor i n = (tt, (tt, (tt, ((reference_lawful, refl, (tt, (tt, tt))), ((tt, tt, tt), tt)))))

node_signal : (bus : List ℕ) (p i children : ℕ) (row : Option TreeRow) → Each IsTypedSignal (told_node bus p i children row)
node_signal bus p i children None = tt
node_signal bus p i children (Some row) = ((item_typed (item_of bus (own bus p) (pos i) children row), tt), tt)

left_signal : (bus : List ℕ) (n : ℕ) (seat : Option (Option ℕ × ℕ)) → Each IsTypedSignal (left bus n seat)
left_signal bus n None = tt
left_signal bus n (Some (None, i)) = tt
left_signal bus n (Some (Some p, i)) = (child_signal bus p (codes "remove") i n, tt)

removed_signal : (bus : List ℕ) (ns : List TreeRow) → Each IsTypedSignal (map (λ (row : TreeRow). removed bus row.shape.node) ns)
removed_signal bus [] = tt
removed_signal bus (n ∷ ns) = (((tt, (tt, tt)), tt), removed_signal bus ns)

signals_typed : (bus : List ℕ) (f : Forest TreeRow) (step : Step) → Each IsTypedSignal (announced bus f step)
signals_typed bus f (Add n p i seed) = (((item_typed (item_of bus (own bus p) (pos i) 0 (rows.first n seed))), tt), (child_signal bus p (codes "add") i n, tt))
signals_typed bus f (Remove n) = each_append IsTypedSignal (left bus n (seat_of rows n f)) _ (left_signal bus n (seat_of rows n f)) (removed_signal bus (labels (pick (is_node n) f)))
signals_typed bus f (Move n p i) =
    let g = after rows f (Move n p i) in
    let told = told_node bus p i (width (children_at (is_node n) g)) (find (is_node n) g) in
    let gone = left bus n (seat_of rows n f) in
    each_append IsTypedSignal (told ++ gone) _
    (each_append IsTypedSignal told gone (node_signal bus p i (width (children_at (is_node n) g)) (find (is_node n) g)) (left_signal bus n (seat_of rows n f)))
    ((tt, (tt, (tt, ((reference_lawful, refl, (tt, (tt, tt))), ((tt, tt, tt), tt))))), (child_signal bus p (codes "add") i n, tt))
signals_typed bus f (SetName n x) = ((tt, (tt, (tt, ((tt, refl, tt), ((tt, tt, tt), tt))))), tt)
signals_typed bus f (SetDescription n x) = ((tt, (tt, (tt, ((tt, refl, tt), ((tt, tt, tt), tt))))), tt)
signals_typed bus f (SetRole n x) = ((tt, (tt, (tt, ((tt, refl, tt), ((tt, tt, tt), tt))))), tt)
signals_typed bus f (SetState n s on) = ((tt, (tt, (tt, ((tt, refl, tt), ((tt, tt, tt), tt))))), tt)
signals_typed bus f (Insert n at x) = ((tt, (tt, (tt, ((tt, refl, tt), ((tt, tt, tt), tt))))), tt)
signals_typed bus f (Delete n at x) = ((tt, (tt, (tt, ((tt, refl, tt), ((tt, tt, tt), tt))))), tt)
signals_typed bus f (Caret n at) = ((tt, (tt, (tt, ((tt, refl, tt), ((tt, tt, tt), tt))))), tt)
signals_typed bus f (TextSelect n marks) = tt
signals_typed bus f (Relate n kind targets) = tt

pub words_are_typed : WordsAreTyped
words_are_typed = record { answers = answers_typed; signals = signals_typed }
