-- Which member a call asks for: the interfaces of an object, looked up one by one, have the lines of the table.
use Rattle.std.proofs.Common.{◌≡◌, ℕ, Bool, true, false, cond, List, [], ◌∷◌, ◌++◌, Option, None, Some, refl, sym, ap, ◌∙◌}
use Rattle.std.specs.Prelude.{◌&&◌, ◌||◌, not, filter, codes, bytes_eq, length, take, Result, Ok, Err}
use Rattle.std.specs.Prelude.{codes as word_codes}
use Rattle.std.specs.List.{AllByRecursion, list_all}
use Rattle.std.proofs.lemmas.Bool.{and_parts}
use Rattle.std.proofs.lemmas.Slice.Eq.{bytes_eq-Decides}
use Rattle.std.proofs.lemmas.List.Elements.{filter-append}
use Rattle.atspi_types.specs.Kinds.{Kind, kinds_of}
use Rattle.atspi_types.specs.Signatures.{signature_bytes}
use Rattle.atspi_types.specs.Data.{Data}
use Rattle.atspi_marshal_in_place.specs.codes.TyRefs.{refs_kinds}
use Rattle.atspi_marshal_in_place.specs.declared.codes.types.TysRef.{TysRef}
use Rattle.atspi_marshal.specs.Reading.{input_of}
use Rattle.atspi_marshal_in_place.specs.Items.{fields_data, fields_kinds}
use Rattle.atspi_marshal_in_place.specs.declared.cursor.Fields.{Fields}
use Rattle.atspi_message_in_place.proofs.ReadTypes.{fields_types}
use Rattle.atspi_tree_model.specs.Forest.{first_of}
use Rattle.atspi_protocol.specs.declared.members.member.ObjectMember.{ObjectMember}
use Rattle.atspi_protocol.specs.members.Interfaces as names
use Rattle.atspi_protocol.specs.members.Table as table
use Rattle.atspi_protocol.specs.members.Table.{MemberLine, member_lines, common_lines}
use Rattle.atspi_protocol.specs.members.Objects.{is_among}
use Rattle.atspi_protocol.specs.members.Asked as asked
use Rattle.atspi_protocol.specs.members.Asked.{and_then, first_or, is_text, is_text_if_there, has_interface, signature_of}
use Rattle.atspi_app_calls.specs.declared.interface.AppInterface.{AppInterface}
use Rattle.atspi_app_calls.specs.declared.interface.AppInterface.TheVariants as interfaces
use Rattle.atspi_app_calls.specs.declared.object.AppObject.{AppObject}
use Rattle.atspi_app_calls.specs.Interface.{interface_name}
use Rattle.atspi_app_calls.specs.inner.Interface.{of_interface, lines_in}
use Rattle.atspi_app_calls.specs.Object.{object_of}
use Rattle.atspi_app_calls.specs.inner.Lines.{line_named, offered_lines, meant_line, at}
use Rattle.atspi_app_calls.proofs.Names.{no_registry, no_socket}

-- the lines of each interface
abbrev pub block : AppInterface → List MemberLine
block interfaces.Accessible = table.accessible_lines
block interfaces.Application = table.application_lines
block interfaces.Cache = table.cache_lines
block interfaces.Text = table.text_lines
block interfaces.EditableText = table.editable_text_lines
block interfaces.Selection = table.selection_lines
block interfaces.Table = table.table_lines
block interfaces.Action = table.action_lines
block interfaces.Properties = of_interface names.properties common_lines
block interfaces.Peer = of_interface names.peer common_lines

pub block_is : (i : AppInterface) → lines_in i ≡ block i
block_is interfaces.Accessible = refl
block_is interfaces.Application = refl
block_is interfaces.Cache = refl
block_is interfaces.Text = refl
block_is interfaces.EditableText = refl
block_is interfaces.Selection = refl
block_is interfaces.Table = refl
block_is interfaces.Action = refl
block_is interfaces.Properties = refl
block_is interfaces.Peer = refl

abbrev Has : List ℕ → MemberLine → Type 0
Has name l = l.interface ≡ name

abbrev passes : List (List ℕ) → MemberLine → Bool
passes all l = is_among all l.interface

none_kept : (b : Bool) → cond {A = List MemberLine} b [] [] ≡ []
none_kept true = refl
none_kept false = refl

some_kept : (l : MemberLine) (ls : List MemberLine) (b : Bool) → cond b (l ∷ cond b ls []) (cond b ls []) ≡ cond b (l ∷ ls) []
some_kept l ls true = refl
some_kept l ls false = refl

-- lines of one interface are kept together
kept : (all : List (List ℕ)) (name : List ℕ) (ls : List MemberLine) → AllByRecursion (Has name) ls → filter (passes all) ls ≡ cond (is_among all name) ls []
kept all name [] h = sym (none_kept (is_among all name))
kept all name (l ∷ ls) h =
    ap (λ (i : List ℕ). cond (is_among all i) (l ∷ filter (passes all) ls) (filter (passes all) ls)) h.0
    ∙ (ap (λ (ms : List MemberLine). cond (is_among all name) (l ∷ ms) ms) (kept all name ls h.1) ∙ some_kept l ls (is_among all name))

named_append : (name : List ℕ) (xs ys : List MemberLine) → line_named name (xs ++ ys) ≡ first_of (line_named name xs) (line_named name ys)
named_append name [] ys = refl
named_append name (x ∷ xs) ys = by (bytes_eq name x.name) (named_append name xs ys)
  where
    by : (b : Bool) → line_named name (xs ++ ys) ≡ first_of (line_named name xs) (line_named name ys)
        → cond b (Some (x.member, x.takes)) (line_named name (xs ++ ys)) ≡ first_of (cond b (Some (x.member, x.takes)) (line_named name xs)) (line_named name ys)
    by true rest = refl
    by false rest = rest

module _ (all : List (List ℕ)) (name : List ℕ) where
  step : (i : List ℕ) (ls rest : List MemberLine) → AllByRecursion (Has i) ls
      → line_named name (filter (passes all) (ls ++ rest)) ≡ first_of (line_named name (cond (is_among all i) ls [])) (line_named name (filter (passes all) rest))
  step i ls rest h =
      ap (line_named name) (filter-append (passes all) ls rest ∙ ap (λ (xs : List MemberLine). xs ++ filter (passes all) rest) (kept all i ls h))
      ∙ named_append name (cond (is_among all i) ls []) (filter (passes all) rest)

  skip : (i : List ℕ) (ls rest : List MemberLine) → AllByRecursion (Has i) ls → is_among all i ≡ false
      → line_named name (filter (passes all) (ls ++ rest)) ≡ line_named name (filter (passes all) rest)
  skip i ls rest h out = step i ls rest h ∙ ap (λ b. first_of (line_named name (cond b ls [])) (line_named name (filter (passes all) rest))) out

  abbrev part : AppInterface → Option (ObjectMember × List ℕ)
  part i = line_named name (cond (is_among all (interface_name i)) (block i) [])

  last : line_named name (filter (passes all) common_lines) ≡ first_of (part interfaces.Properties) (part interfaces.Peer)
  last =
      step names.properties (block interfaces.Properties) (block interfaces.Peer) (refl, (refl, (refl, tt)))
      ∙ ap (λ ls. first_of (part interfaces.Properties) (line_named name ls)) (kept all names.peer (block interfaces.Peer) (refl, tt))

  module _ (no_reg : is_among all names.registry ≡ false) (no_soc : is_among all names.socket ≡ false) where
    behind_action : line_named name (filter (passes all) (table.registry_lines ++ (table.socket_lines ++ common_lines))) ≡ first_of (part interfaces.Properties) (part interfaces.Peer)
    behind_action = skip names.registry table.registry_lines (table.socket_lines ++ common_lines) (refl, (refl, (refl, tt))) no_reg ∙ skip names.socket table.socket_lines common_lines (refl, (refl, tt)) no_soc ∙ last

    from_action : line_named name (filter (passes all) (table.action_lines ++ (table.registry_lines ++ (table.socket_lines ++ common_lines)))) ≡ first_of (part interfaces.Action) (first_of (part interfaces.Properties) (part interfaces.Peer))
    from_action = step names.action table.action_lines (table.registry_lines ++ (table.socket_lines ++ common_lines)) (refl, (refl, (refl, (refl, (refl, tt))))) ∙ ap (first_of (part interfaces.Action)) behind_action

    from_table : line_named name (filter (passes all) (table.table_lines ++ (table.action_lines ++ (table.registry_lines ++ (table.socket_lines ++ common_lines))))) ≡ first_of (part interfaces.Table) (first_of (part interfaces.Action) (first_of (part interfaces.Properties) (part interfaces.Peer)))
    from_table = step names.table table.table_lines (table.action_lines ++ (table.registry_lines ++ (table.socket_lines ++ common_lines))) (refl, (refl, (refl, (refl, (refl, (refl, (refl, tt))))))) ∙ ap (first_of (part interfaces.Table)) from_action

    from_selection : line_named name (filter (passes all) (table.selection_lines ++ (table.table_lines ++ (table.action_lines ++ (table.registry_lines ++ (table.socket_lines ++ common_lines)))))) ≡ first_of (part interfaces.Selection) (first_of (part interfaces.Table) (first_of (part interfaces.Action) (first_of (part interfaces.Properties) (part interfaces.Peer))))
    from_selection = step names.selection table.selection_lines (table.table_lines ++ (table.action_lines ++ (table.registry_lines ++ (table.socket_lines ++ common_lines)))) (refl, (refl, (refl, (refl, (refl, (refl, (refl, tt))))))) ∙ ap (first_of (part interfaces.Selection)) from_table

    from_editable_text : line_named name (filter (passes all) (table.editable_text_lines ++ (table.selection_lines ++ (table.table_lines ++ (table.action_lines ++ (table.registry_lines ++ (table.socket_lines ++ common_lines))))))) ≡ first_of (part interfaces.EditableText) (first_of (part interfaces.Selection) (first_of (part interfaces.Table) (first_of (part interfaces.Action) (first_of (part interfaces.Properties) (part interfaces.Peer)))))
    from_editable_text = step names.editable_text table.editable_text_lines (table.selection_lines ++ (table.table_lines ++ (table.action_lines ++ (table.registry_lines ++ (table.socket_lines ++ common_lines))))) (refl, (refl, (refl, tt))) ∙ ap (first_of (part interfaces.EditableText)) from_selection

    from_text : line_named name (filter (passes all) (table.text_lines ++ (table.editable_text_lines ++ (table.selection_lines ++ (table.table_lines ++ (table.action_lines ++ (table.registry_lines ++ (table.socket_lines ++ common_lines)))))))) ≡ first_of (part interfaces.Text) (first_of (part interfaces.EditableText) (first_of (part interfaces.Selection) (first_of (part interfaces.Table) (first_of (part interfaces.Action) (first_of (part interfaces.Properties) (part interfaces.Peer))))))
    from_text = step names.text table.text_lines (table.editable_text_lines ++ (table.selection_lines ++ (table.table_lines ++ (table.action_lines ++ (table.registry_lines ++ (table.socket_lines ++ common_lines)))))) (refl, (refl, (refl, (refl, (refl, (refl, (refl, (refl, (refl, tt))))))))) ∙ ap (first_of (part interfaces.Text)) from_editable_text

    from_cache : line_named name (filter (passes all) (table.cache_lines ++ (table.text_lines ++ (table.editable_text_lines ++ (table.selection_lines ++ (table.table_lines ++ (table.action_lines ++ (table.registry_lines ++ (table.socket_lines ++ common_lines))))))))) ≡ first_of (part interfaces.Cache) (first_of (part interfaces.Text) (first_of (part interfaces.EditableText) (first_of (part interfaces.Selection) (first_of (part interfaces.Table) (first_of (part interfaces.Action) (first_of (part interfaces.Properties) (part interfaces.Peer)))))))
    from_cache = step names.cache table.cache_lines (table.text_lines ++ (table.editable_text_lines ++ (table.selection_lines ++ (table.table_lines ++ (table.action_lines ++ (table.registry_lines ++ (table.socket_lines ++ common_lines))))))) (refl, tt) ∙ ap (first_of (part interfaces.Cache)) from_text

    from_application : line_named name (filter (passes all) (table.application_lines ++ (table.cache_lines ++ (table.text_lines ++ (table.editable_text_lines ++ (table.selection_lines ++ (table.table_lines ++ (table.action_lines ++ (table.registry_lines ++ (table.socket_lines ++ common_lines)))))))))) ≡ first_of (part interfaces.Application) (first_of (part interfaces.Cache) (first_of (part interfaces.Text) (first_of (part interfaces.EditableText) (first_of (part interfaces.Selection) (first_of (part interfaces.Table) (first_of (part interfaces.Action) (first_of (part interfaces.Properties) (part interfaces.Peer))))))))
    from_application = step names.application table.application_lines (table.cache_lines ++ (table.text_lines ++ (table.editable_text_lines ++ (table.selection_lines ++ (table.table_lines ++ (table.action_lines ++ (table.registry_lines ++ (table.socket_lines ++ common_lines)))))))) (refl, tt) ∙ ap (first_of (part interfaces.Application)) from_cache

    from_accessible : line_named name (filter (passes all) (table.accessible_lines ++ (table.application_lines ++ (table.cache_lines ++ (table.text_lines ++ (table.editable_text_lines ++ (table.selection_lines ++ (table.table_lines ++ (table.action_lines ++ (table.registry_lines ++ (table.socket_lines ++ common_lines))))))))))) ≡ first_of (part interfaces.Accessible) (first_of (part interfaces.Application) (first_of (part interfaces.Cache) (first_of (part interfaces.Text) (first_of (part interfaces.EditableText) (first_of (part interfaces.Selection) (first_of (part interfaces.Table) (first_of (part interfaces.Action) (first_of (part interfaces.Properties) (part interfaces.Peer)))))))))
    from_accessible = step names.accessible table.accessible_lines (table.application_lines ++ (table.cache_lines ++ (table.text_lines ++ (table.editable_text_lines ++ (table.selection_lines ++ (table.table_lines ++ (table.action_lines ++ (table.registry_lines ++ (table.socket_lines ++ common_lines))))))))) (refl, (refl, (refl, (refl, (refl, (refl, (refl, (refl, (refl, (refl, (refl, tt))))))))))) ∙ ap (first_of (part interfaces.Accessible)) from_application

-- what an object offers of an interface
pub offered_is : (o : AppObject) (name : List ℕ) (i : AppInterface) → line_named name (offered_lines (object_of o) i) ≡ part (object_of o).interfaces name i
offered_is o name i = ap (λ ls. line_named name (cond (is_among (object_of o).interfaces (interface_name i)) ls [])) (block_is i)

pub any_is : (o : AppObject) (name : List ℕ) → meant_line (object_of o) None name ≡ first_of (at o name interfaces.Accessible) (first_of (at o name interfaces.Application) (first_of (at o name interfaces.Cache) (first_of (at o name interfaces.Text) (first_of (at o name interfaces.EditableText) (first_of (at o name interfaces.Selection) (first_of (at o name interfaces.Table) (first_of (at o name interfaces.Action) (first_of (at o name interfaces.Properties) (at o name interfaces.Peer)))))))))
any_is o name =
    from_accessible (object_of o).interfaces name (no_registry o) (no_socket o)
    ∙ sym (rw (offered_is o name interfaces.Accessible, offered_is o name interfaces.Application, offered_is o name interfaces.Cache, offered_is o name interfaces.Text, offered_is o name interfaces.EditableText, offered_is o name interfaces.Selection, offered_is o name interfaces.Table, offered_is o name interfaces.Action, offered_is o name interfaces.Properties, offered_is o name interfaces.Peer) refl)

-- the lines of an interface that an object has
module _ (all : List (List ℕ)) (i : List ℕ) (has : is_among all i ≡ true) where
  pub kept_named : (ls : List MemberLine) → of_interface i (filter (passes all) ls) ≡ of_interface i ls
  kept_named [] = refl
  kept_named (l ∷ ls) = by (kept_named ls) (is_among all l.interface) refl (bytes_eq i l.interface) refl
    where
      by : of_interface i (filter (passes all) ls) ≡ of_interface i ls → (x : Bool) → is_among all l.interface ≡ x → (b : Bool) → bytes_eq i l.interface ≡ b
          → of_interface i (cond x (l ∷ filter (passes all) ls) (filter (passes all) ls)) ≡ cond b (l ∷ of_interface i ls) (of_interface i ls)
      by rest true e true f = rw (f, rest) refl
      by rest true e false f = rw (f, rest) refl
      by rest false e true f = let clash : true ≡ false = sym has ∙ ap (is_among all) ((bytes_eq-Decides i l.interface).0 f) ∙ e in absurd cc
      by rest false e false f = rest

pub one_is : (o : AppObject) (i : AppInterface) (interface name : List ℕ) → interface ≡ interface_name i → is_among (object_of o).interfaces interface ≡ true
    → meant_line (object_of o) (Some interface) name ≡ line_named name (lines_in i)
one_is o i interface name is has = ap (line_named name) (kept_named (object_of o).interfaces interface has member_lines ∙ ap (λ n. of_interface n member_lines) is)

-- a member with its arguments
abbrev is_meant : Option (List ℕ) → Option (List ℕ) → MemberLine → Bool
is_meant interface member l = is_text_if_there interface l.interface && is_text member l.name

abbrev with_arguments : List Data → MemberLine → Result ObjectMember (List ℕ)
with_arguments body l = cond (asked.are_taken l body) (Ok l.member) (Err (codes "InvalidArgs"))

abbrev with_taken : List ℕ → Option (ObjectMember × List ℕ) → Result ObjectMember (List ℕ)
with_taken types None = Err (codes "UnknownMethod")
with_taken types (Some l) = cond (bytes_eq types l.1) (Ok l.0) (Err (codes "InvalidArgs"))

abbrev line_for : Option (List ℕ) → List ℕ → List MemberLine → Option (ObjectMember × List ℕ)
line_for None name ls = line_named name ls
line_for (Some i) name ls = line_named name (of_interface i ls)

-- only a line of the registry takes more than its arguments
abbrev takes_all : MemberLine → Bool
takes_all l = not l.takes_more || bytes_eq l.interface names.registry

plain_lines : list_all takes_all member_lines ≡ true
plain_lines = refl

not_more : (more registered : Bool) → not more || registered ≡ true → registered ≡ false → more ≡ false
not_more false registered e f = refl
not_more true registered e f = let clash : true ≡ false = sym e ∙ f in absurd cc

module _ (all : List (List ℕ)) (out : is_among all names.registry ≡ false) (name : List ℕ) (body : List Data) where
  takes_same : (l : MemberLine) → is_among all l.interface ≡ true → takes_all l ≡ true → with_arguments body l ≡ with_taken (signature_of body) (Some (l.member, l.takes))
  takes_same l has e =
      ap (λ (more : Bool). cond (cond more (bytes_eq (take (length l.takes) (signature_of body)) l.takes) (bytes_eq (signature_of body) l.takes)) (Ok l.member) (Err (codes "InvalidArgs")))
      (not_more l.takes_more (bytes_eq l.interface names.registry) e (other (bytes_eq l.interface names.registry) refl))
    where
      other : (b : Bool) → bytes_eq l.interface names.registry ≡ b → b ≡ false
      other false f = refl
      other true f = let clash : true ≡ false = sym has ∙ ap (is_among all) ((bytes_eq-Decides l.interface names.registry).0 f) ∙ out in absurd cc

  found : (interface : Option (List ℕ)) (ls : List MemberLine) → list_all takes_all ls ≡ true
      → and_then (with_arguments body) (first_or (codes "UnknownMethod") (filter (is_meant interface (Some name)) (filter (passes all) ls))) ≡ with_taken (signature_of body) (line_for interface name (filter (passes all) ls))
  found None [] e = refl
  found (Some i) [] e = refl
  found interface (l ∷ ls) e = by (found interface ls (and_parts (takes_all l) (list_all takes_all ls) e).1) (is_among all l.interface) refl
    where
      both : (takes_all l ≡ true) × (list_all takes_all ls ≡ true)
      both = and_parts (takes_all l) (list_all takes_all ls) e

      inner : (interface : Option (List ℕ)) → and_then (with_arguments body) (first_or (codes "UnknownMethod") (filter (is_meant interface (Some name)) (filter (passes all) ls))) ≡ with_taken (signature_of body) (line_for interface name (filter (passes all) ls))
          → is_among all l.interface ≡ true
          → and_then (with_arguments body) (first_or (codes "UnknownMethod") (filter (is_meant interface (Some name)) (l ∷ filter (passes all) ls))) ≡ with_taken (signature_of body) (line_for interface name (l ∷ filter (passes all) ls))
      inner None rest has = test (bytes_eq name l.name)
        where
          test : (b : Bool) → and_then (with_arguments body) (first_or (codes "UnknownMethod") (cond b (l ∷ filter (is_meant None (Some name)) (filter (passes all) ls)) (filter (is_meant None (Some name)) (filter (passes all) ls))))
              ≡ with_taken (signature_of body) (cond b (Some (l.member, l.takes)) (line_named name (filter (passes all) ls)))
          test true = takes_same l has both.0
          test false = rest
      inner (Some i) rest has = test (bytes_eq i l.interface) (bytes_eq name l.name) refl
        where
          test : (d b : Bool) → bytes_eq name l.name ≡ b → and_then (with_arguments body) (first_or (codes "UnknownMethod") (cond (d && b) (l ∷ filter (is_meant (Some i) (Some name)) (filter (passes all) ls)) (filter (is_meant (Some i) (Some name)) (filter (passes all) ls))))
              ≡ with_taken (signature_of body) (line_named name (cond d (l ∷ of_interface i (filter (passes all) ls)) (of_interface i (filter (passes all) ls))))
          test false b f = rest
          test true true f = takes_same l has both.0 ∙ sym (ap (λ (t : Bool). with_taken (signature_of body) (cond t (Some (l.member, l.takes)) (line_named name (of_interface i (filter (passes all) ls))))) f)
          test true false f = rest ∙ sym (ap (λ (t : Bool). with_taken (signature_of body) (cond t (Some (l.member, l.takes)) (line_named name (of_interface i (filter (passes all) ls))))) f)

      by : and_then (with_arguments body) (first_or (codes "UnknownMethod") (filter (is_meant interface (Some name)) (filter (passes all) ls))) ≡ with_taken (signature_of body) (line_for interface name (filter (passes all) ls))
          → (x : Bool) → is_among all l.interface ≡ x
          → and_then (with_arguments body) (first_or (codes "UnknownMethod") (filter (is_meant interface (Some name)) (cond x (l ∷ filter (passes all) ls) (filter (passes all) ls)))) ≡ with_taken (signature_of body) (line_for interface name (cond x (l ∷ filter (passes all) ls) (filter (passes all) ls)))
      by rest true has = inner interface rest has
      by rest false out_ = rest

no_member : (interface : Option (List ℕ)) (ls : List MemberLine) → filter (is_meant interface None) ls ≡ []
no_member interface [] = refl
no_member interface (l ∷ ls) = rw (no_member interface ls) (by (is_text_if_there interface l.interface))
  where
    by : (b : Bool) → cond (b && false) (l ∷ []) [] ≡ []
    by true = refl
    by false = refl

for_is : (o : AppObject) (interface : Option (List ℕ)) (name : List ℕ) → line_for interface name (object_of o).members ≡ meant_line (object_of o) interface name
for_is o None name = refl
for_is o (Some i) name = refl

module _ (o : AppObject) (interface : Option (List ℕ)) (body : List Data) where
  pub not_there : (member : Option (List ℕ)) → has_interface (object_of o) interface ≡ false → asked.member_of (object_of o) interface member body ≡ Err (codes "UnknownInterface")
  not_there member is = rw is refl

  pub unnamed : has_interface (object_of o) interface ≡ true → asked.member_of (object_of o) interface None body ≡ Err (codes "UnknownMethod")
  unnamed is = rw (is, no_member interface (object_of o).members) refl

  there : (name : List ℕ) → has_interface (object_of o) interface ≡ true → asked.member_of (object_of o) interface (Some name) body ≡ with_taken (signature_of body) (meant_line (object_of o) interface name)
  there name is =
      ap (λ (b : Bool). cond b (and_then (with_arguments body) (first_or (codes "UnknownMethod") (filter (is_meant interface (Some name)) (object_of o).members))) (Err (codes "UnknownInterface"))) is
      ∙ found (object_of o).interfaces (no_registry o) name body interface member_lines plain_lines ∙ ap (with_taken (signature_of body)) (for_is o interface name)

  pub none_of : (name : List ℕ) → has_interface (object_of o) interface ≡ true → meant_line (object_of o) interface name ≡ None → asked.member_of (object_of o) interface (Some name) body ≡ Err (codes "UnknownMethod")
  none_of name is e = there name is ∙ ap (with_taken (signature_of body)) e

  pub taken_by : (name : List ℕ) (m : ObjectMember) (takes types : List ℕ) → has_interface (object_of o) interface ≡ true → meant_line (object_of o) interface name ≡ Some (m, takes) → types ≡ signature_of body
      → (b : Bool) → bytes_eq types takes ≡ b → asked.member_of (object_of o) interface (Some name) body ≡ cond b (Ok m) (Err (word_codes "InvalidArgs"))
  taken_by name m takes types is e same b test =
      there name is ∙ ap (with_taken (signature_of body)) e ∙ ap (λ c. cond c (Ok m) (Err (word_codes "InvalidArgs"))) (ap (λ ts. bytes_eq ts takes) (sym same) ∙ test)

-- the codes of the types of a body
pub codes_are : (f : Fields) (ts : TysRef) (codes : List ℕ) → codes ≡ signature_bytes (kinds_of (refs_kinds ts)) → refs_kinds ts ≡ fields_kinds f → codes ≡ signature_of (fields_data f)
codes_are f ts codes spelled types =
    spelled ∙ ap (λ (ks : List Kind). signature_bytes (kinds_of ks)) types
    ∙ sym (ap signature_bytes (fields_types (input_of f.input) f.levels (fields_kinds f) f.bound f.at f.known))
