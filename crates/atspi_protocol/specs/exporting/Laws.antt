-- What holds of an application at any time.
use Rattle.std.specs.Prelude.{◌≡◌, ◌==◌, ◌||◌, ℕ, zero, suc, ◌+◌, List, [], ◌∷◌, ◌++◌, Option, None, Some, Result, Ok}
use Rattle.std.specs.Prelude.{Err, codes, if◌then◌else◌}
use Rattle.atspi_types.specs.Data.{Data, type_of, items_of, AreWellTyped}
use Rattle.atspi_types.specs.Signatures.{type_bytes}
use Rattle.atspi_tree_model.specs.declared.edit.Edit.{Edit}
use Rattle.atspi_tree_model.specs.declared.edit.EditFault.{EditFault}
use Rattle.atspi_tree_model.specs.declared.step.Step.{Step}
use Rattle.atspi_tree_model.specs.Forest.{Forest}
use Rattle.atspi_tree_model.specs.Row.{TreeRow, Each, IsName}
use Rattle.atspi_tree_model.specs.RowRules.{rows}
use Rattle.atspi_tree_model.specs.Tree.{IsTree, AllApply}
use Rattle.atspi_tree_model.specs.Edits.{IsEdit}
use Rattle.atspi_message.specs.Envelope.{Envelope}
use Rattle.atspi_protocol.specs.ends.Messages.{Reply, returns, fails, expects_reply}
use Rattle.atspi_protocol.specs.declared.members.member.ObjectMember.TheVariants.{GetItems}
use Rattle.atspi_protocol.specs.declared.members.property.ObjectProperty.{ObjectProperty}
use Rattle.atspi_protocol.specs.members.Table.{MemberLine, PropertyLine, property_lines, accessible_lines}
use Rattle.atspi_protocol.specs.members.Table.{application_lines, text_lines, editable_text_lines, selection_lines}
use Rattle.atspi_protocol.specs.members.Table.{table_lines, action_lines}
use Rattle.atspi_protocol.specs.members.Asked.{calls, gets, gets_all, signature_of}
use Rattle.atspi_protocol.specs.objects.Application.{Application}
use Rattle.atspi_protocol.specs.objects.Properties.{property_data}
use Rattle.atspi_protocol.specs.objects.Answers.{called, node_answers, tree_answers, answer}
use Rattle.atspi_protocol.specs.announcing.Signals.{Signal}
use Rattle.atspi_protocol.specs.announcing.Announced.{announced}
use Rattle.atspi_protocol.specs.exporting.Exporter.{Happening, steps, sends, hears, deaf, Exporter, begins}
use Rattle.atspi_protocol.specs.exporting.Taking.{app_takes, app_edits}

-- the returns and errors among what happens, and the numbers of all messages
abbrev pub replies_among : List Happening → List Envelope
replies_among [] = []
replies_among (sends e ∷ hs) = if e.kind == 2 || e.kind == 3 then e ∷ replies_among hs else replies_among hs
replies_among (steps step ∷ hs) = replies_among hs
replies_among (hears bus pattern ∷ hs) = replies_among hs
replies_among (deaf bus pattern ∷ hs) = replies_among hs

abbrev pub numbers_among : List Happening → List ℕ
numbers_among [] = []
numbers_among (sends e ∷ hs) = e.serial ∷ numbers_among hs
numbers_among (steps step ∷ hs) = numbers_among hs
numbers_among (hears bus pattern ∷ hs) = numbers_among hs
numbers_among (deaf bus pattern ∷ hs) = numbers_among hs

-- who waits for the reply to a message: the sender of a call that expects one, once the application has its name
abbrev pub waiting_for : Option (List ℕ) → Envelope → Option (List ℕ)
waiting_for None e = None
waiting_for (Some name) e = if expects_reply e then e.sender else None

-- one reply is added, to the one who waits and with the call's serial; none where nobody waits
abbrev pub AddsReply : Option (List ℕ) → ℕ → List Envelope → List Envelope → Type 0
AddsReply None serial before after = after ≡ before
AddsReply (Some caller) serial before after =
    (reply : Envelope) × (after ≡ before ++ reply ∷ []) × (reply.destination ≡ Some caller)
    × (reply.reply ≡ Some serial)

-- Every call that expects a reply gets one return or error, and nothing else is a return or an error.
abbrev pub EachCallIsAnswered : Type 0
EachCallIsAnswered =
    (s : Exporter) (e : Envelope)
    → AddsReply (waiting_for s.name e) e.serial (replies_among s.out) (replies_among (app_takes s e).out)

-- so many numbers, rising by one from this one
abbrev pub rising : ℕ → ℕ → List ℕ
rising zero n = []
rising (suc k) n = n ∷ rising k (n + 1)

-- the messages that are queued take the next numbers
pub record Counts (s t : Exporter) : Type 0 where
  pub count : ℕ
  pub numbers : numbers_among t.out ≡ numbers_among s.out ++ rising count s.next
  pub next : t.next ≡ s.next + count

abbrev pub CountsIfDone : Exporter → Result Exporter EditFault → Type 0
CountsIfDone s (Ok t) = Counts s t
CountsIfDone s (Err fault) = Unit {0}

pub record NumbersRise : Type 0 where
  pub taken : (s : Exporter) (e : Envelope) → Counts s (app_takes s e)
  pub edited : (s : Exporter) (edit : Edit) → CountsIfDone s (app_edits s edit)

-- The steps of an answer apply, each to the tree after those before it.
abbrev pub AnswersApply : Type 0
AnswersApply =
    (a : Application) (path : List ℕ) (interface member : Option (List ℕ)) (body : List Data)
    → IsTree rows a.tree a.added
    → AllApply rows a.tree a.added (answer a path interface member body).steps

-- it has a tree
abbrev pub HasTree : Exporter → Type 0
HasTree s = IsTree rows s.tree s.added

abbrev pub HasTreeIfDone : Result Exporter EditFault → Type 0
HasTreeIfDone (Ok s) = HasTree s
HasTreeIfDone (Err fault) = Unit {0}

-- A tree stays a tree, whatever message comes, and at every edit that can be asked for.
pub record TreesStay : Type 0 where
  pub begins : (name : List ℕ) → IsName name → HasTree (begins name)
  pub taken : (s : Exporter) (e : Envelope) → HasTree s → HasTree (app_takes s e)
  pub edited : (s : Exporter) (edit : Edit) → HasTree s → IsEdit edit → HasTreeIfDone (app_edits s edit)

-- a reply has these values' signature, if it has values
abbrev pub HasSignature : List ℕ → Reply → Type 0
HasSignature signature (returns values) = signature_of values ≡ signature
HasSignature signature (fails word) = ⊥

-- the members that a node has
abbrev pub node_lines : List MemberLine
node_lines =
    accessible_lines ++ application_lines ++ text_lines ++ editable_text_lines ++ selection_lines ++ table_lines
    ++ action_lines

-- Each member of a node is answered with values of the signature that the table names, and each property has its type
-- there.
pub record SignaturesAreKept : Type 0 where
  pub members
      : Each
      (λ (l : MemberLine). (a : Application) (row : TreeRow) (body : List Data)
      → HasSignature l.gives (called a row l.member body).reply) node_lines
  pub properties
      : Each
      (λ (l : PropertyLine). (a : Application) (row : TreeRow)
      → type_bytes (type_of (property_data a row l.property)) ≡ l.type) property_lines
  pub got : (a : Application) (row : TreeRow) (property : ObjectProperty)
      → HasSignature (codes "v") (node_answers a row (gets property)).reply
  pub got_all : (a : Application) (row : TreeRow) (lines : List PropertyLine)
      → HasSignature (codes "a{sv}") (node_answers a row (gets_all lines)).reply
  pub items : (a : Application) (body : List Data)
      → HasSignature (codes "a((so)(so)(so)iiassusau)") (tree_answers a (calls GetItems body)).reply

-- the values of a reply, and of a signal, are well typed
abbrev pub IsTypedReply : Reply → Type 0
IsTypedReply (returns values) = AreWellTyped (items_of values)
IsTypedReply (fails word) = Unit {0}

abbrev pub IsTypedSignal : Signal → Type 0
IsTypedSignal s = AreWellTyped (items_of s.message.body)

-- Whatever is asked, and whatever the step, what an application says is well typed.
pub record WordsAreTyped : Type 0 where
  pub answers : (a : Application) (path : List ℕ) (interface member : Option (List ℕ)) (body : List Data)
      → IsTypedReply (answer a path interface member body).reply
  pub signals : (bus : List ℕ) (f : Forest TreeRow) (step : Step) → Each IsTypedSignal (announced bus f step)
