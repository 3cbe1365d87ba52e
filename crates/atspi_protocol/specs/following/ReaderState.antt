-- What a reader knows: the applications that it follows, and the call of its own that waits for a reply.
use Rattle.std.specs.Prelude.{ℕ, Bool, List, [], ◌∷◌, Option, None, codes, bytes_eq}
use Rattle.atspi_message.specs.Envelope.{Envelope}
use Rattle.atspi_tree_model.specs.declared.view.Row.{Row}
use Rattle.atspi_tree_model.specs.Forest.{Forest}
use Rattle.atspi_protocol.specs.declared.news.part.PartName.{PartName}
use Rattle.atspi_protocol.specs.declared.following.question.Question.{Question}
use Rattle.atspi_protocol.specs.declared.following.question.Question.TheVariants.{Hello, AddMatch, RegisterEvent}
use Rattle.atspi_protocol.specs.declared.following.question.Question.TheVariants.{GetChildren}

-- An application: its bus name and its root's path; its view, where it is held; whether all is to be asked for again;
-- the serial of the last message taken from it; and the parts that it would not tell, by their row's path, since its
-- view was loaded.
pub record Followed : Type 0 where
  pub name : List ℕ
  pub root : List ℕ
  pub view : Option (Forest Row)
  pub reload : Bool
  pub last : ℕ
  pub refused : List (List ℕ × PartName)

-- a call of the reader's own that waits for its reply
pub record Pending : Type 0 where
  pub serial : ℕ
  pub question : Question

-- what a reader does, one thing after another
pub data Done : Type 0 where
  sends : Envelope → Done
  speaks : List ℕ → List ℕ → Done
  tells_end : List ℕ → Done

-- A reader: the calls of its start that are to come; its call that waits; the registry's unique name, once it is known;
-- the applications, in the order in which they became known; the serial of its next message; and what it did that
-- nobody took yet.
pub record ReaderState : Type 0 where
  pub to_come : List Question
  pub pending : Option Pending
  pub registry : Option (List ℕ)
  pub apps : List Followed
  pub next : ℕ
  pub out : List Done

-- the rules and patterns of the start
abbrev pub start_calls : List Question
start_calls =
    Hello
    ∷ (AddMatch (codes "type='signal',interface='org.freedesktop.DBus',member='NameOwnerChanged'")
    ∷ (AddMatch (codes "type='signal',interface='org.a11y.atspi.Cache'")
    ∷ (AddMatch (codes "type='signal',interface='org.a11y.atspi.Event.Object'")
    ∷ (RegisterEvent (codes "object:children-changed")
    ∷ (RegisterEvent (codes "object:property-change")
    ∷ (RegisterEvent (codes "object:state-changed")
    ∷ (RegisterEvent (codes "object:text-changed")
    ∷ (RegisterEvent (codes "object:text-caret-moved")
    ∷ (GetChildren
    ∷ [])))))))))

-- at the beginning nothing is known, and messages are numbered from 1
abbrev pub begins : ReaderState
begins = record { to_come = start_calls; pending = None; registry = None; apps = []; next = 1; out = [] }

-- the application with this name, and those without it
abbrev pub is_named : List ℕ → Followed → Bool
is_named name app = bytes_eq app.name name
