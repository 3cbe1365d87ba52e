-- What an application answers to a call for a part is that part of its tree, or an error.
use Rattle.std.proofs.Common.{◌≡◌, ℕ, ◌≤◌, Bool, true, false, cond, List, [], ◌∷◌, ◌++◌, length, Option, None, Some, is_some, refl, sym, ap, ap₂, ◌∙◌, subst, arith}
use Rattle.std.specs.Prelude.{◌==◌, ◌-◌, ◌&&◌, ◌||◌, pos, filter, bytes_eq, codes, if◌then◌else◌, Result, Ok, Err}
use Rattle.std.specs.List.{list_any}
use Rattle.std.proofs.lemmas.List.{take_all}
use Rattle.std.proofs.lemmas.Slice.Eq.{bytes_eq-Decides}
use lib.Utf8.{encode}
use Rattle.atspi_types.specs.Data.{Data, text_data}
use Rattle.atspi_message.specs.Envelope.{Envelope}
use Rattle.atspi_tree_model.specs.declared.contents.Kinds.{Kinds}
use Rattle.atspi_tree_model.specs.declared.limits.TheConstants.{TEXT_LIMIT, COLUMN_LIMIT}
use Rattle.atspi_tree_model.specs.declared.news.News.{News}
use Rattle.atspi_tree_model.specs.declared.news.News.TheVariants.{TextIs, CaretIs, ColumnsIs}
use Rattle.atspi_tree_model.specs.Announce.{named, interfaces_of}
use Rattle.atspi_tree_model.specs.Forest.{Forest, nil, tree, count, find}
use Rattle.atspi_tree_model.specs.News.{effect, told_after}
use Rattle.atspi_tree_model.specs.Path.{path_of}
use Rattle.atspi_tree_model.specs.Row.{TextContents, TreeRow, HoldsIfThere, IsText, IsColumns, IsContents}
use Rattle.atspi_tree_model.specs.RowRules.{rows}
use Rattle.atspi_tree_model.specs.Tree.{is_node, IsTree}
use Rattle.atspi_tree_model.specs.View.{Told, nothing_told, text_part, number_part, characters_of, caret_of, shown, view}
use Rattle.atspi_tree_model.proofs.Found.{find-passes}
use Rattle.atspi_tree_model.proofs.Lookup.{each-find}
use Rattle.atspi_tree_model.proofs.Parts.{part_seen}
use Rattle.atspi_tree_model.proofs.Relabel.{relabel-same}
use Rattle.atspi_tree_model.proofs.Seen.{same_node}
use Rattle.atspi_protocol.specs.ends.Places.{cache_path}
use Rattle.atspi_protocol.specs.ends.Messages.{Reply, returns, fails, reply_to}
use Rattle.atspi_protocol.specs.members.Interfaces as interfaces
use Rattle.atspi_protocol.specs.declared.members.member.ObjectMember.{ObjectMember}
use Rattle.atspi_protocol.specs.declared.members.member.ObjectMember.TheVariants as members
use Rattle.atspi_protocol.specs.declared.members.property.ObjectProperty.TheVariants as property_names
use Rattle.atspi_protocol.specs.declared.news.part.PartName.{PartName}
use Rattle.atspi_protocol.specs.declared.news.part.PartName.TheVariants.{Text, Caret, Columns}
use Rattle.atspi_protocol.specs.members.Arguments.{signed_at}
use Rattle.atspi_protocol.specs.members.Table.{MemberLine, PropertyLine, member_lines, property_lines}
use Rattle.atspi_protocol.specs.members.Objects.{Object, is_among, object_with, cache_object}
use Rattle.atspi_protocol.specs.members.Asked.{Asked, calls, gets, and_then, first_or, is_text, is_text_if_there, are_taken, member_of, property_named, property_of, asked_by, asked}
use Rattle.atspi_protocol.specs.objects.Application.{Application}
use Rattle.atspi_protocol.specs.objects.Answers.{Answer, tells, place_answers, answer}
use Rattle.atspi_protocol.specs.objects.Places.{Place, node, whole_tree, node_at, place_at, node_interfaces, offered_if_there}
use Rattle.atspi_protocol.specs.objects.Tables.{columns_of}
use Rattle.atspi_protocol.specs.objects.Texts.{text_of, part_of}
use Rattle.atspi_protocol.specs.objects.Values.{count_data, in_variant}
use Rattle.atspi_protocol.specs.following.Calls.{int, minus_one, property}
use Rattle.atspi_protocol.specs.following.Wishes.{same_part, is_refused}
use Rattle.atspi_protocol.specs.news.Replies.{if_not_negative, part_told}
use Rattle.atspi_protocol.proofs.OfAnnouncing.Back.{signed_back}
use Rattle.atspi_trace.specs.Causes.{told_in}
use Rattle.atspi_trace_laws.specs.answered.Laws.{TellsPart}
use Rattle.atspi_trace_laws.proofs.OfOrder.Parties.{false_true}

-- LISTS
filter_swap : {X : Type 0} (p q : X → Bool) (xs : List X) → filter p (filter q xs) ≡ filter q (filter p xs)
filter_swap p q [] = refl
filter_swap {X} p q (x ∷ xs) = by (p x) refl (q x) refl (filter_swap p q xs)
  where
    by : (a : Bool) → p x ≡ a → (b : Bool) → q x ≡ b → filter p (filter q xs) ≡ filter q (filter p xs)
        → filter p (if b then x ∷ filter q xs else filter q xs) ≡ filter q (if a then x ∷ filter p xs else filter p xs)
    by true g true h ih =
        ap (λ c. if c then x ∷ filter p (filter q xs) else filter p (filter q xs)) g ∙ ap (λ l. x ∷ l) ih ∙ sym (ap (λ c. if c then x ∷ filter q (filter p xs) else filter q (filter p xs)) h)
    by true g false h ih = ih ∙ sym (ap (λ c. if c then x ∷ filter q (filter p xs) else filter q (filter p xs)) h)
    by false g true h ih = ap (λ c. if c then x ∷ filter p (filter q xs) else filter p (filter q xs)) g ∙ ih
    by false g false h ih = ih

any_append : {X : Type 0} (p : X → Bool) (xs ys : List X) → list_any p (xs ++ ys) ≡ (list_any p xs || list_any p ys)
any_append p [] ys = refl
any_append p (x ∷ xs) ys = by (p x) (any_append p xs ys)
  where
    by : (b : Bool) → list_any p (xs ++ ys) ≡ (list_any p xs || list_any p ys) → (b || list_any p (xs ++ ys)) ≡ ((b || list_any p xs) || list_any p ys)
    by true h = refl
    by false h = h

or_true : (a : Bool) → (a || true) ≡ true
or_true true = refl
or_true false = refl

or_false : (a : Bool) → (a || false) ≡ a
or_false true = refl
or_false false = refl

-- WHAT A NODE OFFERS
none_named : (p : List ℕ → Bool) (b : Bool) (x : List ℕ) (xs : List (List ℕ)) → p x ≡ false → list_any p (named b x xs) ≡ list_any p xs
none_named p true x xs h = ap (λ c. c || list_any p xs) h
none_named p false x xs h = refl

some_named : (p : List ℕ → Bool) (b : Bool) (x : List ℕ) (xs : List (List ℕ)) → p x ≡ true → list_any p (named b x xs) ≡ (b || list_any p xs)
some_named p true x xs h = ap (λ c. c || list_any p xs) h
some_named p false x xs h = refl

module _ (r : Bool) (k : Kinds) where
  with_action : List (List ℕ)
  with_action = named k.action (codes "org.a11y.atspi.Action") []

  with_table : List (List ℕ)
  with_table = named k.table (codes "org.a11y.atspi.Table") with_action

  with_selection : List (List ℕ)
  with_selection = named k.selection (codes "org.a11y.atspi.Selection") with_table

  with_editable : List (List ℕ)
  with_editable = named k.editable (codes "org.a11y.atspi.EditableText") with_selection

  with_text : List (List ℕ)
  with_text = named k.text (codes "org.a11y.atspi.Text") with_editable

  text_offered : list_any (bytes_eq interfaces.text) (interfaces_of r k) ≡ k.text
  unfolding with_action with_table with_selection with_editable with_text encode
  text_offered =
      none_named (bytes_eq interfaces.text) r (codes "org.a11y.atspi.Application") with_text refl ∙ some_named (bytes_eq interfaces.text) k.text (codes "org.a11y.atspi.Text") with_editable refl
      ∙ ap (λ b. k.text || b)
      (none_named (bytes_eq interfaces.text) k.editable (codes "org.a11y.atspi.EditableText") with_selection refl ∙ none_named (bytes_eq interfaces.text) k.selection (codes "org.a11y.atspi.Selection") with_table refl
      ∙ none_named (bytes_eq interfaces.text) k.table (codes "org.a11y.atspi.Table") with_action refl ∙ none_named (bytes_eq interfaces.text) k.action (codes "org.a11y.atspi.Action") [] refl)
      ∙ or_false k.text

  table_offered : list_any (bytes_eq interfaces.table) (interfaces_of r k) ≡ k.table
  unfolding with_action with_table with_selection with_editable with_text encode
  table_offered =
      none_named (bytes_eq interfaces.table) r (codes "org.a11y.atspi.Application") with_text refl ∙ none_named (bytes_eq interfaces.table) k.text (codes "org.a11y.atspi.Text") with_editable refl
      ∙ none_named (bytes_eq interfaces.table) k.editable (codes "org.a11y.atspi.EditableText") with_selection refl ∙ none_named (bytes_eq interfaces.table) k.selection (codes "org.a11y.atspi.Selection") with_table refl
      ∙ some_named (bytes_eq interfaces.table) k.table (codes "org.a11y.atspi.Table") with_action refl ∙ ap (λ b. k.table || b) (none_named (bytes_eq interfaces.table) k.action (codes "org.a11y.atspi.Action") [] refl) ∙ or_false k.table

-- with the two interfaces of every object
abbrev all_of : List (List ℕ) → List (List ℕ)
all_of names = names ++ interfaces.properties ∷ interfaces.peer ∷ []

offers : (names : List (List ℕ)) (interface : List ℕ) (b : Bool) → bytes_eq interface interfaces.properties ≡ false → bytes_eq interface interfaces.peer ≡ false → list_any (bytes_eq interface) names ≡ b → is_among (all_of names) interface ≡ b
offers names interface b g h is =
    any_append (bytes_eq interface) names (interfaces.properties ∷ interfaces.peer ∷ []) ∙ ap₂ (λ x y. x || y) is (ap₂ (λ x y. x || (y || false)) g h) ∙ or_false b

offers_properties : (names : List (List ℕ)) → is_among (all_of names) interfaces.properties ≡ true
unfolding encode
offers_properties names = any_append (bytes_eq interfaces.properties) names (interfaces.properties ∷ interfaces.peer ∷ []) ∙ or_true (list_any (bytes_eq interfaces.properties) names)

-- WHAT IS ASKED
abbrev meant : List ℕ → List ℕ → MemberLine → Bool
meant interface name l = is_text_if_there (Some interface) l.interface && is_text (Some name) l.name

abbrev with_arguments : List Data → MemberLine → Result ObjectMember (List ℕ)
with_arguments body l = if are_taken l body then Ok l.member else Err (codes "InvalidArgs")

abbrev offered_line : List (List ℕ) → MemberLine → Bool
offered_line all l = is_among all l.interface

abbrev offered_property : List (List ℕ) → PropertyLine → Bool
offered_property all l = is_among all l.interface

-- a member whose interface is offered
member_there : (names : List (List ℕ)) (interface name : List ℕ) (body : List Data) (l : MemberLine) → filter (meant interface name) member_lines ≡ l ∷ [] → l.interface ≡ interface → are_taken l body ≡ true → is_among (all_of names) interface ≡ true
    → member_of (object_with names) (Some interface) (Some name) body ≡ Ok l.member
member_there names interface name body l only same taken among =
    ap (λ b. if b then and_then (with_arguments body) (first_or (codes "UnknownMethod") (filter (meant interface name) (filter (offered_line (all_of names)) member_lines))) else Err (codes "UnknownInterface")) among
    ∙ ap (λ ls. and_then (with_arguments body) (first_or (codes "UnknownMethod") ls))
    (filter_swap (meant interface name) (offered_line (all_of names)) member_lines ∙ ap (filter (offered_line (all_of names))) only ∙ ap (λ b. if b then l ∷ [] else []) (ap (is_among (all_of names)) same ∙ among))
    ∙ ap (λ b. if b then Ok l.member else Err (codes "InvalidArgs")) taken

member_lacks : (names : List (List ℕ)) (interface name : List ℕ) (body : List Data) → is_among (all_of names) interface ≡ false → member_of (object_with names) (Some interface) (Some name) body ≡ Err (codes "UnknownInterface")
member_lacks names interface name body among =
    ap (λ b. if b then and_then (with_arguments body) (first_or (codes "UnknownMethod") (filter (meant interface name) (filter (offered_line (all_of names)) member_lines))) else Err (codes "UnknownInterface")) among

-- a property
property_there : (names : List (List ℕ)) (interface name : List ℕ) (l : PropertyLine) → filter (λ (x : PropertyLine). bytes_eq name x.name) (filter (λ (x : PropertyLine). bytes_eq interface x.interface) property_lines) ≡ l ∷ [] → l.interface ≡ interface
    → is_among (all_of names) interface ≡ true → property_of (object_with names) interface name ≡ Ok l
property_there names interface name l only same among =
    ap (λ b. and_then (property_named name) (if b then Ok (filter (λ (x : PropertyLine). bytes_eq interface x.interface) (filter (offered_property (all_of names)) property_lines)) else Err (codes "UnknownInterface"))) among
    ∙ ap (λ ls. first_or (codes "UnknownProperty") ls)
    (ap (filter (λ (x : PropertyLine). bytes_eq name x.name)) (filter_swap (λ (x : PropertyLine). bytes_eq interface x.interface) (offered_property (all_of names)) property_lines)
    ∙ filter_swap (λ (x : PropertyLine). bytes_eq name x.name) (offered_property (all_of names)) (filter (λ (x : PropertyLine). bytes_eq interface x.interface) property_lines)
    ∙ ap (filter (offered_property (all_of names))) only ∙ ap (λ b. if b then l ∷ [] else []) (ap (is_among (all_of names)) same ∙ among))

property_lacks : (names : List (List ℕ)) (interface name : List ℕ) → is_among (all_of names) interface ≡ false → property_of (object_with names) interface name ≡ Err (codes "UnknownInterface")
property_lacks names interface name among =
    ap (λ b. and_then (property_named name) (if b then Ok (filter (λ (x : PropertyLine). bytes_eq interface x.interface) (filter (offered_property (all_of names)) property_lines)) else Err (codes "UnknownInterface"))) among

-- LINES OF THE TABLES
get_text : MemberLine
get_text = record { interface = interfaces.text; name = codes "GetText"; takes = codes "ii"; gives = codes "s"; takes_more = false; member = members.GetText }

get_property : MemberLine
get_property = record { interface = interfaces.properties; name = codes "Get"; takes = codes "ss"; gives = codes "v"; takes_more = false; member = members.Get }

caret_line : PropertyLine
caret_line = record { interface = interfaces.text; name = codes "CaretOffset"; type = codes "i"; is_settable = false; property = property_names.CaretOffset }

columns_line : PropertyLine
columns_line = record { interface = interfaces.table; name = codes "NColumns"; type = codes "i"; is_settable = false; property = property_names.NColumns }

abbrev whole_text : List Data
whole_text = int 0 ∷ (int minus_one ∷ [])

text_asked : (names : List (List ℕ)) → is_among (all_of names) interfaces.text ≡ true
    → asked (Some (object_with names)) (Some interfaces.text) (Some (codes "GetText")) whole_text ≡ Ok (calls members.GetText whole_text)
unfolding encode get_text
text_asked names among = ap (and_then (asked_by (object_with names) whole_text)) (member_there names interfaces.text (codes "GetText") whole_text get_text refl refl refl among)

text_lacks : (names : List (List ℕ)) → is_among (all_of names) interfaces.text ≡ false
    → asked (Some (object_with names)) (Some interfaces.text) (Some (codes "GetText")) whole_text ≡ Err (codes "UnknownInterface")
text_lacks names among = ap (and_then (asked_by (object_with names) whole_text)) (member_lacks names interfaces.text (codes "GetText") whole_text among)

property_asked : (names : List (List ℕ)) (interface name : List ℕ) → are_taken get_property (property interface name) ≡ true
    → asked (Some (object_with names)) (Some interfaces.properties) (Some (codes "Get")) (property interface name) ≡ and_then (λ (l : PropertyLine). Ok (gets l.property)) (property_of (object_with names) interface name)
unfolding encode get_property
property_asked names interface name taken =
    ap (and_then (asked_by (object_with names) (property interface name))) (member_there names interfaces.properties (codes "Get") (property interface name) get_property refl refl taken (offers_properties names))

caret_asked : (names : List (List ℕ)) → is_among (all_of names) interfaces.text ≡ true
    → asked (Some (object_with names)) (Some interfaces.properties) (Some (codes "Get")) (property interfaces.text (codes "CaretOffset")) ≡ Ok (gets property_names.CaretOffset)
unfolding encode get_property caret_line
caret_asked names among =
    property_asked names interfaces.text (codes "CaretOffset") refl
    ∙ ap (and_then (λ (l : PropertyLine). Ok (gets l.property))) (property_there names interfaces.text (codes "CaretOffset") caret_line refl refl among)

caret_lacks : (names : List (List ℕ)) → is_among (all_of names) interfaces.text ≡ false
    → asked (Some (object_with names)) (Some interfaces.properties) (Some (codes "Get")) (property interfaces.text (codes "CaretOffset")) ≡ Err (codes "UnknownInterface")
unfolding encode get_property
caret_lacks names among =
    property_asked names interfaces.text (codes "CaretOffset") refl
    ∙ ap (and_then (λ (l : PropertyLine). Ok (gets l.property))) (property_lacks names interfaces.text (codes "CaretOffset") among)

columns_asked : (names : List (List ℕ)) → is_among (all_of names) interfaces.table ≡ true
    → asked (Some (object_with names)) (Some interfaces.properties) (Some (codes "Get")) (property interfaces.table (codes "NColumns")) ≡ Ok (gets property_names.NColumns)
unfolding encode get_property columns_line
columns_asked names among =
    property_asked names interfaces.table (codes "NColumns") refl
    ∙ ap (and_then (λ (l : PropertyLine). Ok (gets l.property))) (property_there names interfaces.table (codes "NColumns") columns_line refl refl among)

columns_lacks : (names : List (List ℕ)) → is_among (all_of names) interfaces.table ≡ false
    → asked (Some (object_with names)) (Some interfaces.properties) (Some (codes "Get")) (property interfaces.table (codes "NColumns")) ≡ Err (codes "UnknownInterface")
unfolding encode get_property
columns_lacks names among =
    property_asked names interfaces.table (codes "NColumns") refl
    ∙ ap (and_then (λ (l : PropertyLine). Ok (gets l.property))) (property_lacks names interfaces.table (codes "NColumns") among)

-- THE ANSWER TO A CALL FOR A PART
abbrev its_interface : PartName → List ℕ
its_interface Text = interfaces.text
its_interface Caret = interfaces.properties
its_interface Columns = interfaces.properties

abbrev its_member : PartName → List ℕ
its_member Text = codes "GetText"
its_member Caret = codes "Get"
its_member Columns = codes "Get"

abbrev its_body : PartName → List Data
its_body Text = whole_text
its_body Caret = property interfaces.text (codes "CaretOffset")
its_body Columns = property interfaces.table (codes "NColumns")

abbrev asked_of : PartName → Option Object → Result Asked (List ℕ)
asked_of part o = asked o (Some (its_interface part)) (Some (its_member part)) (its_body part)

abbrev pub part_answer : Application → List ℕ → PartName → Answer
part_answer a path part = answer a path (Some (its_interface part)) (Some (its_member part)) (its_body part)

abbrev pub IsValue : Reply → Type 0
IsValue (returns values) = Unit {0}
IsValue (fails word) = ⊥

-- what is told of a row
abbrev pub IsTold : Application → PartName → TreeRow → Answer → Type 0
IsTold a Text row answer = (t : TextContents) × (row.contents.text ≡ Some t) × (answer ≡ tells a (text_data t.characters))
IsTold a Caret row answer = (t : TextContents) × (row.contents.text ≡ Some t) × (answer ≡ tells a (in_variant (count_data t.caret)))
IsTold a Columns row answer = (n : ℕ) × (row.contents.columns ≡ Some n) × (answer ≡ tells a (in_variant (count_data n)))

abbrev replied : Application → Option Place → Result Asked (List ℕ) → Reply
replied a o what = (place_answers a o what).reply

-- the object for the whole tree has no parts
no_tree : (a : Application) (part : PartName) → IsValue (replied a (Some whole_tree) (asked_of part (Some cache_object))) → ⊥
unfolding encode
no_tree a Text h = h
no_tree a Caret h = h
no_tree a Columns h = h

no_node : (a : Application) (part : PartName) → IsValue (replied a None (asked_of part None)) → ⊥
no_node a part h = h

whole : (characters : List ℕ) → part_of characters (signed_at 0 whole_text) (signed_at 1 whole_text) ≡ characters
whole characters = take_all (length characters - 0) characters (wide (length characters))
  where
    wide : (n : ℕ) → n ≤ n - 0
    wide n = omega arith

text_there : (row : TreeRow) (t : TextContents) → row.contents.text ≡ Some t → text_of row ≡ t
text_there row t h = rw h refl

columns_there : (row : TreeRow) (n : ℕ) → row.contents.columns ≡ Some n → columns_of row ≡ n
columns_there row n h = rw h refl

among_text : (row : TreeRow) (b : Bool) → row.shape.kinds.text ≡ b → is_among (all_of (node_interfaces row)) interfaces.text ≡ b
unfolding encode
among_text row b h = offers (node_interfaces row) interfaces.text b refl refl (text_offered (row.shape.node == 0) row.shape.kinds ∙ h)

among_table : (row : TreeRow) (b : Bool) → row.shape.kinds.table ≡ b → is_among (all_of (node_interfaces row)) interfaces.table ≡ b
unfolding encode
among_table row b h = offers (node_interfaces row) interfaces.table b refl refl (table_offered (row.shape.node == 0) row.shape.kinds ∙ h)

-- a node's
row_told : (a : Application) (part : PartName) (row : TreeRow) → IsContents row.shape.kinds row.contents
    → IsValue (replied a (Some (node row)) (asked_of part (Some (object_with (node_interfaces row)))))
    → IsTold a part row (place_answers a (Some (node row)) (asked_of part (Some (object_with (node_interfaces row)))))
row_told a Text row c h = by row.contents.text refl
  where
    by : (o : Option TextContents) → row.contents.text ≡ o → IsTold a Text row (place_answers a (Some (node row)) (asked_of Text (Some (object_with (node_interfaces row)))))
    by None g = absurd (subst (λ x. IsValue (replied a (Some (node row)) x)) (text_lacks (node_interfaces row) (among_text row false (c.text ∙ ap is_some g))) h)
    by (Some t) g = (
      t,
      g,
      ap (place_answers a (Some (node row))) (text_asked (node_interfaces row) (among_text row true (c.text ∙ ap is_some g)))
          ∙ ap (λ (x : TextContents). tells a (text_data (part_of x.characters (signed_at 0 whole_text) (signed_at 1 whole_text)))) (text_there row t g)
          ∙ ap (λ x. tells a (text_data x)) (whole t.characters),
    )
row_told a Caret row c h = by row.contents.text refl
  where
    by : (o : Option TextContents) → row.contents.text ≡ o → IsTold a Caret row (place_answers a (Some (node row)) (asked_of Caret (Some (object_with (node_interfaces row)))))
    by None g = absurd (subst (λ x. IsValue (replied a (Some (node row)) x)) (caret_lacks (node_interfaces row) (among_text row false (c.text ∙ ap is_some g))) h)
    by (Some t) g = (
      t,
      g,
      ap (place_answers a (Some (node row))) (caret_asked (node_interfaces row) (among_text row true (c.text ∙ ap is_some g)))
          ∙ ap (λ (x : TextContents). tells a (in_variant (count_data x.caret))) (text_there row t g),
    )
row_told a Columns row c h = by row.contents.columns refl
  where
    by : (o : Option ℕ) → row.contents.columns ≡ o → IsTold a Columns row (place_answers a (Some (node row)) (asked_of Columns (Some (object_with (node_interfaces row)))))
    by None g = absurd (subst (λ x. IsValue (replied a (Some (node row)) x)) (columns_lacks (node_interfaces row) (among_table row false (c.table ∙ ap is_some g))) h)
    by (Some n) g = (
      n,
      g,
      ap (place_answers a (Some (node row))) (columns_asked (node_interfaces row) (among_table row true (c.table ∙ ap is_some g)))
          ∙ ap (λ x. tells a (in_variant (count_data x))) (columns_there row n g),
    )

-- the object of a path
place_whole : (f : Forest TreeRow) (path : List ℕ) → bytes_eq path cache_path ≡ true → place_at f path ≡ Some whole_tree
place_whole f path c = rw c refl

place_none : (f : Forest TreeRow) (path : List ℕ) → bytes_eq path cache_path ≡ false → node_at f path ≡ None → place_at f path ≡ None
place_none f path c h = rw (c, h) refl

place_row : (f : Forest TreeRow) (path : List ℕ) (row : TreeRow) → bytes_eq path cache_path ≡ false → node_at f path ≡ Some row → place_at f path ≡ Some (node row)
place_row f path row c h = rw (c, h) refl

-- the answer's
pub part_is : (a : Application) (path : List ℕ) (part : PartName) (added : ℕ) → IsTree rows a.tree added → IsValue (part_answer a path part).reply
    → (row : TreeRow) × (node_at a.tree path ≡ Some row) × IsTold a part row (part_answer a path part)
part_is a path part added t h = by (bytes_eq path cache_path) refl
  where
    lawful_of : (row : TreeRow) → node_at a.tree path ≡ Some row → IsContents row.shape.kinds row.contents
    lawful_of row g = (each-find rows.IsLawful (λ (x : TreeRow). bytes_eq (path_of x.shape.node) path) a.tree row t.lawful g).1

    by : (b : Bool) → bytes_eq path cache_path ≡ b → (row : TreeRow) × (node_at a.tree path ≡ Some row) × IsTold a part row (part_answer a path part)
    by true c = absurd (no_tree a part (subst (λ o. IsValue (replied a o (asked_of part (offered_if_there o)))) (place_whole a.tree path c) h))
    by false c = there (node_at a.tree path) refl
      where
        there : (o : Option TreeRow) → node_at a.tree path ≡ o → (row : TreeRow) × (node_at a.tree path ≡ Some row) × IsTold a part row (part_answer a path part)
        there None g = absurd (no_node a part (subst (λ o. IsValue (replied a o (asked_of part (offered_if_there o)))) (place_none a.tree path c g) h))
        there (Some row) g =
            let is = place_row a.tree path row c g in (
              row,
              g,
              subst (λ o. IsTold a part row (place_answers a o (asked_of part (offered_if_there o)))) (sym is)
                  (row_told a part row (lawful_of row g) (subst (λ o. IsValue (replied a o (asked_of part (offered_if_there o)))) is h)),
            )

-- and a node that has the part tells it
abbrev pub HasPart : PartName → TreeRow → Type 0
HasPart Text row = (t : TextContents) × (row.contents.text ≡ Some t)
HasPart Caret row = (t : TextContents) × (row.contents.text ≡ Some t)
HasPart Columns row = (n : ℕ) × (row.contents.columns ≡ Some n)

row_value : (a : Application) (part : PartName) (row : TreeRow) → IsContents row.shape.kinds row.contents → HasPart part row → IsValue (replied a (Some (node row)) (asked_of part (Some (object_with (node_interfaces row)))))
row_value a Text row c h = subst (λ x. IsValue (replied a (Some (node row)) x)) (sym (text_asked (node_interfaces row) (among_text row true (c.text ∙ ap is_some h.1)))) tt
row_value a Caret row c h = subst (λ x. IsValue (replied a (Some (node row)) x)) (sym (caret_asked (node_interfaces row) (among_text row true (c.text ∙ ap is_some h.1)))) tt
row_value a Columns row c h = subst (λ x. IsValue (replied a (Some (node row)) x)) (sym (columns_asked (node_interfaces row) (among_table row true (c.table ∙ ap is_some h.1)))) tt

pub part_value : (a : Application) (path : List ℕ) (part : PartName) (row : TreeRow) → bytes_eq path cache_path ≡ false → node_at a.tree path ≡ Some row → IsContents row.shape.kinds row.contents → HasPart part row → IsValue (part_answer a path part).reply
part_value a path part row c there kept h = subst (λ o. IsValue (replied a o (asked_of part (offered_if_there o)))) (sym (place_row a.tree path row c there)) (row_value a part row kept h)

-- where it is refused nothing is changed
abbrev pub HasNoPart : PartName → TreeRow → Type 0
HasNoPart Text row = row.contents.text ≡ None
HasNoPart Caret row = row.contents.text ≡ None
HasNoPart Columns row = row.contents.columns ≡ None

row_steps : (a : Application) (part : PartName) (row : TreeRow) → IsContents row.shape.kinds row.contents → HasNoPart part row → (place_answers a (Some (node row)) (asked_of part (Some (object_with (node_interfaces row))))).steps ≡ []
row_steps a Text row c h = ap (λ x. (place_answers a (Some (node row)) x).steps) (text_lacks (node_interfaces row) (among_text row false (c.text ∙ ap is_some h)))
row_steps a Caret row c h = ap (λ x. (place_answers a (Some (node row)) x).steps) (caret_lacks (node_interfaces row) (among_text row false (c.text ∙ ap is_some h)))
row_steps a Columns row c h = ap (λ x. (place_answers a (Some (node row)) x).steps) (columns_lacks (node_interfaces row) (among_table row false (c.table ∙ ap is_some h)))

none_steps : (a : Application) (what : Result Asked (List ℕ)) → (place_answers a None what).steps ≡ []
none_steps a (Ok what) = refl
none_steps a (Err word) = refl

pub absent_steps : (a : Application) (path : List ℕ) (part : PartName) → bytes_eq path cache_path ≡ false → node_at a.tree path ≡ None → (part_answer a path part).steps ≡ []
absent_steps a path part c there = subst (λ o. (place_answers a o (asked_of part (offered_if_there o))).steps ≡ []) (sym (place_none a.tree path c there)) (none_steps a (asked_of part None))

pub lacking_steps : (a : Application) (path : List ℕ) (part : PartName) (row : TreeRow) → bytes_eq path cache_path ≡ false → node_at a.tree path ≡ Some row → IsContents row.shape.kinds row.contents → HasNoPart part row → (part_answer a path part).steps ≡ []
lacking_steps a path part row c there kept h = subst (λ o. (place_answers a o (asked_of part (offered_if_there o))).steps ≡ []) (sym (place_row a.tree path row c there)) (row_steps a part row kept h)

-- THE ROW OF A PATH
find_same : {A : Type 0} (p q : A → Bool) → ((x : A) → p x ≡ q x) → (f : Forest A) → find p f ≡ find q f
find_same p q e nil = refl
find_same p q e (tree a c r) = rw (e a, find_same p q e c, find_same p q e r) refl

pub record IsRowOf (f : Forest TreeRow) (path : List ℕ) (row : TreeRow) : Type 0 where
  pub of_node : path ≡ path_of row.shape.node
  pub found : find (is_node row.shape.node) f ≡ Some row
  pub is_there : 1 ≤ count (is_node row.shape.node) f

row_of : (f : Forest TreeRow) (path : List ℕ) (row : TreeRow) → node_at f path ≡ Some row → IsRowOf f path row
row_of f path row h = record { of_node = same; found = found; is_there = (find-passes (is_node row.shape.node) f row found).1 }
  where
    same : path ≡ path_of row.shape.node
    same = sym ((bytes_eq-Decides (path_of row.shape.node) path).0 (find-passes (λ (x : TreeRow). bytes_eq (path_of x.shape.node) path) f row h).0)

    found : find (is_node row.shape.node) f ≡ Some row
    found =
        sym (find_same (λ (x : TreeRow). bytes_eq (path_of x.shape.node) (path_of row.shape.node)) (is_node row.shape.node) (λ x. same_node [] nothing_told row.shape.node x) f)
        ∙ ap (λ p. find (λ (x : TreeRow). bytes_eq (path_of x.shape.node) p) f) (sym same)
        ∙ h

-- WITH ONE PART MORE TOLD
abbrev mk : Bool → Bool → Bool → Told
mk text caret columns = record { text = text; caret = caret; columns = columns }

mk_same : {a b c d e f : Bool} → a ≡ d → b ≡ e → c ≡ f → mk a b c ≡ mk d e f
mk_same {a} {b} {c} {d} {e} {f} x y z = ap (λ v. mk v b c) x ∙ ap (λ v. mk d v c) y ∙ ap (λ v. mk d e v) z

abbrev with_part : PartName → Told → Told
with_part Text told = record told { text = true }
with_part Caret told = record told { caret = true }
with_part Columns told = record told { columns = true }

bytes_same : (xs ys : List ℕ) (b : Bool) → bytes_eq xs ys ≡ b → bytes_eq ys xs ≡ b
bytes_same xs ys true h = (bytes_eq-Decides ys xs).1 (sym ((bytes_eq-Decides xs ys).0 h))
bytes_same xs ys false h = by (bytes_eq ys xs) refl
  where
    by : (b : Bool) → bytes_eq ys xs ≡ b → bytes_eq ys xs ≡ false
    by true g = absurd (false_true (sym h ∙ (bytes_eq-Decides xs ys).1 (sym ((bytes_eq-Decides ys xs).0 g))))
    by false g = g

module _ (parts : List (List ℕ × PartName)) (path p : List ℕ) where
  refused_next : (one two : PartName) (b : Bool) → bytes_eq path p ≡ b → is_refused (parts ++ (path, one) ∷ []) p two ≡ (is_refused parts p two || ((b && same_part one two) || false))
  refused_next one two b h = any_append (λ (r : List ℕ × PartName). bytes_eq r.0 p && same_part r.1 two) parts ((path, one) ∷ []) ∙ ap (λ c. is_refused parts p two || ((c && same_part one two) || false)) h

  told_next : (part : PartName) → cond (bytes_eq p path) (with_part part (told_in parts p)) (told_in parts p) ≡ told_in (parts ++ (path, part) ∷ []) p
  told_next part = by (bytes_eq path p) refl part
    where
      there : (part : PartName) → bytes_eq path p ≡ true → with_part part (told_in parts p) ≡ told_in (parts ++ (path, part) ∷ []) p
      there Text h =
          sym (mk_same (refused_next Text Text true h ∙ or_true (is_refused parts p Text)) (refused_next Text Caret true h ∙ or_false (is_refused parts p Caret)) (refused_next Text Columns true h ∙ or_false (is_refused parts p Columns)))
      there Caret h =
          sym (mk_same (refused_next Caret Text true h ∙ or_false (is_refused parts p Text)) (refused_next Caret Caret true h ∙ or_true (is_refused parts p Caret)) (refused_next Caret Columns true h ∙ or_false (is_refused parts p Columns)))
      there Columns h =
          sym (mk_same (refused_next Columns Text true h ∙ or_false (is_refused parts p Text)) (refused_next Columns Caret true h ∙ or_false (is_refused parts p Caret)) (refused_next Columns Columns true h ∙ or_true (is_refused parts p Columns)))

      by : (b : Bool) → bytes_eq path p ≡ b → (part : PartName) → cond (bytes_eq p path) (with_part part (told_in parts p)) (told_in parts p) ≡ told_in (parts ++ (path, part) ∷ []) p
      by true h part = ap (λ b. cond b (with_part part (told_in parts p)) (told_in parts p)) (bytes_same path p true h) ∙ there part h
      by false h part =
          ap (λ b. cond b (with_part part (told_in parts p)) (told_in parts p)) (bytes_same path p false h)
          ∙ sym (mk_same (refused_next part Text false h ∙ or_false (is_refused parts p Text)) (refused_next part Caret false h ∙ or_false (is_refused parts p Caret)) (refused_next part Columns false h ∙ or_false (is_refused parts p Columns)))

shown_same : (told other : List ℕ → Told) → ((p : List ℕ) → told p ≡ other p) → (row : TreeRow) → shown told row ≡ shown other row
shown_same told other e row =
    ap (λ (w : Told). record (shown told row) { text = text_part w.text (characters_of row.contents.text); caret = number_part w.caret (caret_of row.contents.text); columns = number_part w.columns row.contents.columns }) (e (path_of row.shape.node))

view_same : (told other : List ℕ → Told) → ((p : List ℕ) → told p ≡ other p) → (f : Forest TreeRow) → view told f ≡ view other f
view_same told other e f = relabel-same (shown told) (shown other) (λ row. shown_same told other e row) f

-- WHAT THE RETURN TELLS THE READER
abbrev returned : List ℕ → ℕ → ℕ → Reply → Envelope
returned caller n serial reply = record (reply_to caller n reply) { serial = serial }

within : (t : TextContents) → IsText t → t.caret ≤ 2147483647
within t l = let short : length t.characters ≤ TEXT_LIMIT = l.short in let caret : t.caret ≤ length t.characters = l.caret in omega (arith, short, caret)

few_columns : (n : ℕ) → IsColumns n → n ≤ 2147483647
few_columns n l = let few : n ≤ COLUMN_LIMIT = l.1 in omega (arith, few)

module _ (name caller : List ℕ) (n serial : ℕ) (f : Forest TreeRow) (added most : ℕ) (t : IsTree rows f added) (path : List ℕ) (row : TreeRow) (r : IsRowOf f path row) (low : row.shape.node ≤ most) (c : IsContents row.shape.kinds row.contents) where
  tells_news : (part : PartName) (e : Envelope) (news : News) → part_told part path e ≡ Some news
      → ((parts : List (List ℕ × PartName)) → effect (path_of 0) name (view (told_in parts) f) news ≡ view (told_in (parts ++ (path, part) ∷ [])) f) → TellsPart name f most path part e
  tells_news part e news told shows = record { news = news; told = told; shows = shows; node = row.shape.node; is_of = r.of_node; was_added = low }

  tells_part : (a : Application) (part : PartName) (e : Envelope) (answer : Answer) → e ≡ returned caller n serial answer.reply → IsTold a part row answer → TellsPart name f most path part e
  tells_part a Text e answer is (text, has_text, told) =
      tells_news Text e (TextIs path text.characters) (ap (part_told Text path) (is ∙ ap (λ (x : Answer). returned caller n serial x.reply) told))
      (λ parts. part_seen name (told_in parts) f added (TextIs path text.characters) t (row.shape.node, row, text, r.of_node, r.found, has_text, refl)
      ∙ view_same (told_after (told_in parts) (TextIs path text.characters)) (told_in (parts ++ (path, Text) ∷ [])) (λ p. told_next parts path p Text) f)
  tells_part a Caret e answer is (text, has_text, told) =
      tells_news Caret e (CaretIs path (pos text.caret))
      (ap (part_told Caret path) (is ∙ ap (λ (x : Answer). returned caller n serial x.reply) told) ∙ ap (λ z. if_not_negative z (CaretIs path z)) (signed_back text.caret (within text (subst (HoldsIfThere IsText) has_text c.lawful_text))))
      (λ parts. part_seen name (told_in parts) f added (CaretIs path (pos text.caret)) t (row.shape.node, row, text, r.of_node, r.found, has_text, refl)
      ∙ view_same (told_after (told_in parts) (CaretIs path (pos text.caret))) (told_in (parts ++ (path, Caret) ∷ [])) (λ p. told_next parts path p Caret) f)
  tells_part a Columns e answer is (columns, has_columns, told) =
      tells_news Columns e (ColumnsIs path (pos columns))
      (ap (part_told Columns path) (is ∙ ap (λ (x : Answer). returned caller n serial x.reply) told) ∙ ap (λ z. if_not_negative z (ColumnsIs path z)) (signed_back columns (few_columns columns (subst (HoldsIfThere IsColumns) has_columns c.lawful_columns))))
      (λ parts. part_seen name (told_in parts) f added (ColumnsIs path (pos columns)) t (row.shape.node, row, columns, r.of_node, r.found, has_columns, refl)
      ∙ view_same (told_after (told_in parts) (ColumnsIs path (pos columns))) (told_in (parts ++ (path, Columns) ∷ [])) (λ p. told_next parts path p Columns) f)

value_of : (caller : List ℕ) (n serial : ℕ) (reply : Reply) → (returned caller n serial reply).kind ≡ 2 → IsValue reply
value_of caller n serial (returns values) h = tt
value_of caller n serial (fails word) h = absurd (false_true (ap (λ k. k == 2) h))

-- a return of an application with this tree, of which so many nodes were added
pub part_return : (name caller : List ℕ) (n serial : ℕ) (a : Application) (added most : ℕ) (path : List ℕ) (part : PartName) (e : Envelope) → IsTree rows a.tree added → ((m : ℕ) → 1 ≤ count (is_node m) a.tree → m ≤ most)
    → e ≡ record (reply_to caller n (part_answer a path part).reply) { serial = serial } → e.kind ≡ 2 → TellsPart name a.tree most path part e
part_return name caller n serial a added most path part e t low is two =
    let found = part_is a path part added t (value_of caller n serial (part_answer a path part).reply (sym (ap (λ (m : Envelope). m.kind) is) ∙ two)) in
    let r = row_of a.tree path found.0 found.1 in
    tells_part name caller n serial a.tree added most t path found.0 r (low found.0.shape.node r.is_there) (each-find rows.IsLawful (λ (x : TreeRow). bytes_eq (path_of x.shape.node) path) a.tree found.0 t.lawful found.1).1 a part e (part_answer a path part) is found.2

-- it changes nothing
pub part_steps : (n serial : ℕ) (caller : List ℕ) (a : Application) (added : ℕ) (path : List ℕ) (part : PartName) (e : Envelope) → IsTree rows a.tree added
    → e ≡ record (reply_to caller n (part_answer a path part).reply) { serial = serial } → e.kind ≡ 2 → (part_answer a path part).steps ≡ []
part_steps n serial caller a added path part e t is two =
    let found = part_is a path part added t (value_of caller n serial (part_answer a path part).reply (sym (ap (λ (m : Envelope). m.kind) is) ∙ two)) in by found.0 (part_answer a path part) part found.2
  where
    by : (row : TreeRow) (its : Answer) (p : PartName) → IsTold a p row its → its.steps ≡ []
    by row its Text (t, g, h) = ap (λ (x : Answer). x.steps) h
    by row its Caret (t, g, h) = ap (λ (x : Answer). x.steps) h
    by row its Columns (n, g, h) = ap (λ (x : Answer). x.steps) h
