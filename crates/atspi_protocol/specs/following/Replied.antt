-- What a reply to a call of the reader's own changes.
use Rattle.std.specs.Prelude.{ℕ, ◌==◌, ◌&&◌, ◌||◌, Bool, true, false, not, List, [], ◌∷◌, ◌++◌, filter, map, Option}
use Rattle.std.specs.Prelude.{Some, None, codes, bytes_eq, if◌then◌else◌}
use Rattle.std.specs.List.{fold}
use Rattle.atspi_types.specs.Data.{Data, text_data}
use Rattle.atspi_base.specs.valid_names.Names.{is_bus_name, is_unique_name}
use Rattle.atspi_message.specs.Envelope.{Envelope}
use Rattle.atspi_protocol.specs.ends.Places.{bus}
use Rattle.atspi_tree_model.specs.declared.view.Row.{Row}
use Rattle.atspi_tree_model.specs.declared.news.Item.{Item}
use Rattle.atspi_tree_model.specs.declared.news.News.{News}
use Rattle.atspi_tree_model.specs.Forest.{Forest}
use Rattle.atspi_tree_model.specs.News.{load, effect}
use Rattle.atspi_protocol.specs.declared.news.part.PartName.{PartName}
use Rattle.atspi_protocol.specs.news.Arguments.{signature_of}
use Rattle.atspi_protocol.specs.news.NewsOf.{or_empty}
use Rattle.atspi_protocol.specs.news.Replies.{elements_of, items_told, part_told}
use Rattle.atspi_protocol.specs.declared.following.question.Question.{Question}
use Rattle.atspi_protocol.specs.declared.following.question.Question.TheVariants.{Hello, AddMatch, RegisterEvent}
use Rattle.atspi_protocol.specs.declared.following.question.Question.TheVariants.{GetChildren, GetItems, GetPart}
use Rattle.atspi_protocol.specs.following.ReaderState.{Followed, Pending, ReaderState, is_named}
use Rattle.atspi_protocol.specs.following.Known.{made_known, references_among}

-- whether a message has this reply serial
abbrev pub is_reply_to : ℕ → Option ℕ → Bool
is_reply_to serial None = false
is_reply_to serial (Some reply) = reply == serial

-- a reply to a call of an application comes from it, or from the bus; one to a call of the bus or the registry from
-- anybody
abbrev pub may_answer : Question → Envelope → Bool
may_answer (GetItems name) e = bytes_eq (or_empty e.sender) name || bytes_eq (or_empty e.sender) bus
may_answer (GetPart name path part) e = bytes_eq (or_empty e.sender) name || bytes_eq (or_empty e.sender) bus
may_answer question e = true

-- whether a message ends the call that waits: a return or an error with its serial
abbrev pub ends_call : Pending → Envelope → Bool
ends_call p e = (e.kind == 2 || e.kind == 3) && (is_reply_to p.serial e.reply && may_answer p.question e)

-- one application changes
abbrev pub changed : (Followed → Followed) → List ℕ → List Followed → List Followed
changed change name apps = map (λ app. if is_named name app then change app else app) apps

-- all of an application was told: its view is the load of the items, and nothing of it is refused yet
abbrev pub loaded : List Item → Followed → Followed
loaded items app = record app { view = Some (load app.root app.name items); reload = false; refused = [] }

abbrev pub with_items : ReaderState → List ℕ → Option (List Item) → ReaderState
with_items s name (Some items) = record s { apps = changed (loaded items) name s.apps }
with_items s name None = record s { apps = filter (λ app. not (is_named name app)) s.apps }

-- a part of a row was told, or refused
abbrev pub told_part : News → Followed → Followed
told_part news app = by app.view
  where
    by : Option (Forest Row) → Followed
    by None = app
    by (Some view) = record app { view = Some (effect app.root app.name view news) }

abbrev pub refused_part : List ℕ → PartName → Followed → Followed
refused_part path part app = record app { refused = app.refused ++ (path, part) ∷ [] }

abbrev pub with_part : ReaderState → List ℕ → List ℕ → PartName → Option News → ReaderState
with_part s name path part (Some news) = record s { apps = changed (told_part news) name s.apps }
with_part s name path part None = record s { apps = changed (refused_part path part) name s.apps }

-- the start ends early where a call of it fails: no further call of it is sent
abbrev pub goes_on_if : Bool → ReaderState → ReaderState
goes_on_if true s = s
goes_on_if false s = record s { to_come = [] }

-- Hello returns a unique name
abbrev pub is_unique_name_alone : List Data → Bool
is_unique_name_alone (text_data name ∷ []) = is_bus_name name && is_unique_name name
is_unique_name_alone body = false

-- GetChildren returns references; its sender is the registry, and each reference makes its application known
abbrev pub children_signature : List ℕ
children_signature = codes "a(so)"

abbrev pub with_children : ReaderState → Envelope → ReaderState
with_children s e =
    if e.kind == 2 && bytes_eq (signature_of e.body) children_signature
    then record s { registry = e.sender; apps = fold made_known s.apps (references_among (elements_of e.body)) }
    else goes_on_if false s

-- what a reply to a question changes
abbrev pub replied : Question → ReaderState → Envelope → ReaderState
replied Hello s e = goes_on_if (e.kind == 2 && is_unique_name_alone e.body) s
replied (AddMatch rule) s e = goes_on_if (e.kind == 2) s
replied (RegisterEvent pattern) s e = goes_on_if (e.kind == 2) s
replied GetChildren s e = with_children s e
replied (GetItems name) s e = with_items s name (items_told e)
replied (GetPart name path part) s e = with_part s name path part (part_told part path e)

-- a message that ends the call that waits is its reply; any other is none
abbrev pub takes_reply : ReaderState → Envelope → ReaderState
takes_reply s e = by s.pending
  where
    by : Option Pending → ReaderState
    by None = s
    by (Some p) = if ends_call p e then replied p.question (record s { pending = None }) e else s
