-- Which interfaces an object has, by their names.
use Rattle.std.proofs.Common.{◌≡◌, ℕ, Bool, true, false, List, [], ◌∷◌, ◌++◌, None, refl, ◌∙◌}
use Rattle.std.specs.Prelude.{bytes_eq, ◌&&◌, ◌||◌}
use Rattle.std.specs.List.{list_any}
use Rattle.std.proofs.lemmas.Slice.Eq.{bytes_eq-Decides}
use Rattle.atspi_tree_model.specs.declared.contents.Kinds.{Kinds}
use Rattle.atspi_tree_model.specs.Announce.{named}
use Rattle.atspi_protocol.specs.members.Interfaces as names
use Rattle.atspi_protocol.specs.members.Objects.{is_among}
use Rattle.atspi_app_calls.specs.declared.interface.AppInterface.{AppInterface}
use Rattle.atspi_app_calls.specs.declared.interface.AppInterface.TheVariants as interfaces
use Rattle.atspi_app_calls.specs.declared.object.AppObject.{AppObject}
use Rattle.atspi_app_calls.specs.declared.object.AppObject.TheVariants.{Node, Cache}
use Rattle.atspi_app_calls.specs.Interface.{interface_name}
use Rattle.atspi_app_calls.specs.inner.Interface.{NamesInterface}
use Rattle.atspi_app_calls.specs.Object.{object_of}

pub not_same : (a b : List ℕ) → (a ≡ b → ⊥) → bytes_eq a b ≡ false
not_same a b other = by (bytes_eq a b) refl
  where
    by : (t : Bool) → bytes_eq a b ≡ t → t ≡ false
    by true e = absurd (other ((bytes_eq-Decides a b).0 e))
    by false e = refl

-- the interfaces that every object has
abbrev common : List (List ℕ)
common = names.properties ∷ names.peer ∷ []

and_true : (b : Bool) → b && true ≡ b
and_true true = refl
and_true false = refl

and_false : (b : Bool) → b && false ≡ false
and_false true = refl
and_false false = refl

or_false : (b : Bool) → b || false ≡ b
or_false true = refl
or_false false = refl

any_named : (b : Bool) (x n : List ℕ) (xs : List (List ℕ)) (a d : Bool) → bytes_eq n x ≡ a → list_any (bytes_eq n) (xs ++ common) ≡ d → list_any (bytes_eq n) (named b x xs ++ common) ≡ (b && a) || d
any_named true x n xs a d e f = rw (e, f) refl
any_named false x n xs a d e f = f

-- whether a node has the interface of a name
module _ (n : List ℕ) (r : Bool) (k : Kinds) (a0 a1 a2 a3 a4 a5 a6 d : Bool) where
  pub node_names : bytes_eq n names.accessible ≡ a0 → bytes_eq n names.application ≡ a1 → bytes_eq n names.text ≡ a2 → bytes_eq n names.editable_text ≡ a3 → bytes_eq n names.selection ≡ a4
      → bytes_eq n names.table ≡ a5 → bytes_eq n names.action ≡ a6 → list_any (bytes_eq n) common ≡ d
      → is_among (object_of (Node r k)).interfaces n ≡ a0 || ((r && a1) || ((k.text && a2) || ((k.editable && a3) || ((k.selection && a4) || ((k.table && a5) || ((k.action && a6) || d))))))
  node_names e0 e1 e2 e3 e4 e5 e6 e =
      let f6 = any_named k.action names.action n [] a6 d e6 e in
      let f5 = any_named k.table names.table n (named k.action names.action []) a5 ((k.action && a6) || d) e5 f6 in
      let f4 = any_named k.selection names.selection n (named k.table names.table (named k.action names.action [])) a4 ((k.table && a5) || ((k.action && a6) || d)) e4 f5 in
      let f3 = any_named k.editable names.editable_text n (named k.selection names.selection (named k.table names.table (named k.action names.action []))) a3 ((k.selection && a4) || ((k.table && a5) || ((k.action && a6) || d))) e3 f4 in
      let f2 = any_named k.text names.text n (named k.editable names.editable_text (named k.selection names.selection (named k.table names.table (named k.action names.action [])))) a2 ((k.editable && a3) || ((k.selection && a4) || ((k.table && a5) || ((k.action && a6) || d)))) e2 f3 in
      let f1 = any_named r names.application n (named k.text names.text (named k.editable names.editable_text (named k.selection names.selection (named k.table names.table (named k.action names.action []))))) a1 ((k.text && a2) || ((k.editable && a3) || ((k.selection && a4) || ((k.table && a5) || ((k.action && a6) || d))))) e1 f2 in
      any_named true names.accessible n (named r names.application (named k.text names.text (named k.editable names.editable_text (named k.selection names.selection (named k.table names.table (named k.action names.action [])))))) a0 ((r && a1) || ((k.text && a2) || ((k.editable && a3) || ((k.selection && a4) || ((k.table && a5) || ((k.action && a6) || d)))))) e0 f1

-- whether a node has an interface
abbrev has_kind : Bool → Kinds → AppInterface → Bool
has_kind r k interfaces.Accessible = true
has_kind r k interfaces.Application = r
has_kind r k interfaces.Cache = false
has_kind r k interfaces.Text = k.text
has_kind r k interfaces.EditableText = k.editable
has_kind r k interfaces.Selection = k.selection
has_kind r k interfaces.Table = k.table
has_kind r k interfaces.Action = k.action
has_kind r k interfaces.Properties = true
has_kind r k interfaces.Peer = true

-- each interface of a node
pub node_has : (r : Bool) (k : Kinds) (i : AppInterface) → is_among (object_of (Node r k)).interfaces (interface_name i) ≡ has_kind r k i
node_has r k interfaces.Accessible = node_names names.accessible r k true false false false false false false false refl refl refl refl refl refl refl refl
node_has r k interfaces.Application =
    node_names names.application r k false true false false false false false false refl refl refl refl refl refl refl refl
    ∙ rw (and_true r, and_false k.text, and_false k.editable, and_false k.selection, and_false k.table, and_false k.action) (or_false r)
node_has r k interfaces.Cache =
    node_names names.cache r k false false false false false false false false refl refl refl refl refl refl refl refl
    ∙ rw (and_false r, and_false k.text, and_false k.editable, and_false k.selection, and_false k.table, and_false k.action) refl
node_has r k interfaces.Text =
    node_names names.text r k false false true false false false false false refl refl refl refl refl refl refl refl
    ∙ rw (and_false r, and_true k.text, and_false k.editable, and_false k.selection, and_false k.table, and_false k.action) (or_false k.text)
node_has r k interfaces.EditableText =
    node_names names.editable_text r k false false false true false false false false refl refl refl refl refl refl refl refl
    ∙ rw (and_false r, and_false k.text, and_true k.editable, and_false k.selection, and_false k.table, and_false k.action) (or_false k.editable)
node_has r k interfaces.Selection =
    node_names names.selection r k false false false false true false false false refl refl refl refl refl refl refl refl
    ∙ rw (and_false r, and_false k.text, and_false k.editable, and_true k.selection, and_false k.table, and_false k.action) (or_false k.selection)
node_has r k interfaces.Table =
    node_names names.table r k false false false false false true false false refl refl refl refl refl refl refl refl
    ∙ rw (and_false r, and_false k.text, and_false k.editable, and_false k.selection, and_true k.table, and_false k.action) (or_false k.table)
node_has r k interfaces.Action =
    node_names names.action r k false false false false false false true false refl refl refl refl refl refl refl refl
    ∙ rw (and_false r, and_false k.text, and_false k.editable, and_false k.selection, and_false k.table, and_true k.action) (or_false k.action)
node_has r k interfaces.Properties =
    node_names names.properties r k false false false false false false false true refl refl refl refl refl refl refl refl
    ∙ rw (and_false r, and_false k.text, and_false k.editable, and_false k.selection, and_false k.table, and_false k.action) refl
node_has r k interfaces.Peer =
    node_names names.peer r k false false false false false false false true refl refl refl refl refl refl refl refl
    ∙ rw (and_false r, and_false k.text, and_false k.editable, and_false k.selection, and_false k.table, and_false k.action) refl

-- a name of no interface of a node
node_lacks : (n : List ℕ) (r : Bool) (k : Kinds) → bytes_eq n names.accessible ≡ false → bytes_eq n names.application ≡ false → bytes_eq n names.text ≡ false → bytes_eq n names.editable_text ≡ false
    → bytes_eq n names.selection ≡ false → bytes_eq n names.table ≡ false → bytes_eq n names.action ≡ false → list_any (bytes_eq n) common ≡ false → is_among (object_of (Node r k)).interfaces n ≡ false
node_lacks n r k e0 e1 e2 e3 e4 e5 e6 e =
    node_names n r k false false false false false false false false e0 e1 e2 e3 e4 e5 e6 e
    ∙ rw (and_false r, and_false k.text, and_false k.editable, and_false k.selection, and_false k.table, and_false k.action) refl

-- an object of an application has no interface of the registry, and none that has another name
pub no_registry : (o : AppObject) → is_among (object_of o).interfaces names.registry ≡ false
no_registry (Node r k) = node_lacks names.registry r k refl refl refl refl refl refl refl refl
no_registry Cache = refl

pub no_socket : (o : AppObject) → is_among (object_of o).interfaces names.socket ≡ false
no_socket (Node r k) = node_lacks names.socket r k refl refl refl refl refl refl refl refl
no_socket Cache = refl

module _ (n : List ℕ) (none : NamesInterface n None) where
  not_name : (i : AppInterface) → bytes_eq n (interface_name i) ≡ false
  not_name i = not_same n (interface_name i) (none i)

  no_common : list_any (bytes_eq n) common ≡ false
  no_common = rw (not_name interfaces.Properties, not_name interfaces.Peer) refl

  pub no_interface : (o : AppObject) → is_among (object_of o).interfaces n ≡ false
  no_interface (Node r k) =
      node_lacks n r k (not_name interfaces.Accessible) (not_name interfaces.Application) (not_name interfaces.Text) (not_name interfaces.EditableText) (not_name interfaces.Selection) (not_name interfaces.Table)
      (not_name interfaces.Action) no_common
  no_interface Cache = rw (not_name interfaces.Cache, not_name interfaces.Properties, not_name interfaces.Peer) refl
