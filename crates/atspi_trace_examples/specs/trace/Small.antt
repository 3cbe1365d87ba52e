-- Small worlds: behind the registry three applications, the second without a name yet and the third stopped, a reader,
-- and one that left.
use Rattle.std.specs.Prelude.{◌≡◌, ℕ, zero, suc, true, false, List, [], ◌∷◌, ◌++◌, length, Option, None, Some, codes}
use Rattle.std.specs.FinMap.{empty, insert}
use Rattle.atspi_tree_model.specs.declared.step.Seed.{Seed}
use Rattle.atspi_tree_model.specs.declared.step.Step.TheVariants.{Remove}
use Rattle.atspi_tree_model.specs.Forest.{nil, tree}
use Rattle.atspi_tree_model.specs.Path.{path_of}
use Rattle.atspi_tree_model.specs.Row.{TreeRow}
use Rattle.atspi_script_lines.specs.declared.line.Party.{Party}
use Rattle.atspi_script_lines.specs.declared.line.Party.TheVariants.{Bus as The_bus, App, Reader}
use Rattle.atspi_message.specs.Envelope.{Envelope}
use Rattle.atspi_message.specs.Bytes.{written}
use Rattle.atspi_protocol.specs.declared.following.question.Question.{Question}
use Rattle.atspi_protocol.specs.declared.following.question.Question.TheVariants.{AddMatch, RegisterEvent}
use Rattle.atspi_protocol.specs.declared.news.part.PartName.TheVariants.{Text, Caret}
use Rattle.atspi_protocol.specs.exporting.Exporter.{Exporter, begins}
use Rattle.atspi_protocol.specs.following.Calls.{asking}
use Rattle.atspi_match.specs.declared.routing.closing.Closing.{Closing}
use Rattle.atspi_match.specs.declared.routing.closing.Why.{Why}
use Rattle.atspi_match.specs.routing.Queues.{Bus, Waiting}
use Rattle.atspi_trace.specs.World.{Standing, stopped, away, Fate, Asked, Holding, Hearer, an_application, a_reader}
use Rattle.atspi_trace.specs.World.{Said, Letter, End, World, first_registry, newcomer}
use Rattle.atspi_trace.specs.Ends.{plain}
use Rattle.atspi_trace.specs.Work.{Work, resting}
use Rattle.atspi_trace.specs.Entry.{Entry}
use Rattle.atspi_trace.specs.Due.{Scene}

-- an application that was started; and the third application of the world, which has its name
abbrev pub exporter : Exporter
exporter = begins (codes "T")

abbrev pub app : ℕ → End
app n = newcomer (App n) (an_application exporter)

abbrev pub named_app : End
named_app = record (app 0) { unique = Some (codes ":1.1") }

-- what a reader knows that asked nothing yet, and one with these calls, and one that holds these applications
abbrev pub idle : Hearer
idle = record { asked = []; next = 5; registry = None; named = []; holds = [] }

abbrev pub asked : List Asked → Hearer
asked calls = record idle { asked = calls }

abbrev pub holding : ℕ → Holding
holding n = record { app = n; tree = nil; last = 8; told = [] }

abbrev pub holder : List Holding → Hearer
holder holds = record idle { holds = holds }

-- a call of a reader's own, by its serial and by what became of it
abbrev pub call : ℕ → Question → Fate → Asked
call serial question fate = record { serial = serial; question = question; fate = fate }

abbrev pub reader : ℕ → Hearer → End
reader n h = newcomer (Reader n) (a_reader h)

-- the ends: the connections 1 to 3 are applications, 4 and 5 are readers
abbrev pub ends : Hearer → List End
ends h = first_registry ∷ named_app ∷ app 1 ∷ record (app 2) { standing = stopped } ∷ reader 0 h
    ∷ record (reader 1 idle) { standing = away } ∷ []

abbrev pub world : Bus → Hearer → World
world b h = record { bus = b; ends = ends h; swaps = 3 }

abbrev pub with_ends : Bus → List End → World
with_ends b es = record { bus = b; ends = es; swaps = 0 }

-- so many applications, and so many readers, behind the registry
abbrev pub apps : ℕ → List End
apps zero = first_registry ∷ []
apps (suc n) = apps n ++ app n ∷ []

abbrev pub readers : ℕ → List End
readers zero = first_registry ∷ []
readers (suc n) = readers n ++ reader n idle ∷ []

-- a message on a link
abbrev pub said : Said
said = plain (asking 5 (AddMatch (codes "x")))

abbrev pub other_said : Said
other_said = plain (asking 6 (RegisterEvent (codes "y")))

abbrev pub letter_from : Party → Envelope → Letter
letter_from who e = record { from = who; said = plain e }

abbrev pub letter : Letter
letter = record { from = App 0; said = said }

-- a message that is so many bytes long
abbrev pub IsLong : ℕ → Said → Type 0
IsLong n s = length (written s.message) ≡ n

-- a scene in this world, of which nothing is owed or left
abbrev pub scene : World → Option ℕ → Scene
scene w free = record { world = w; owing = []; free = free; work = resting; left = []; passed = [] }

-- an entry is owed
abbrev pub owing : World → Entry → Scene
owing w entry = record (scene w None) { owing = entry ∷ [] }

-- one end alone, and who took the last message; it is that end
abbrev pub alone : Bus → End → Option ℕ → Scene
alone b e free = scene (with_ends b (e ∷ [])) free

abbrev pub freely : Bus → End → Scene
freely b e = alone b e (Some 0)

-- a message that announces a step, and one of the bus's own with this serial
abbrev pub announcing : Said
announcing = record other_said { announces = Some (Remove 1) }

abbrev pub from_bus : ℕ → Envelope
from_bus serial = record (asking serial (AddMatch (codes "x"))) { sender = Some (codes "org.freedesktop.DBus") }

-- one queue with these bytes, and a closing behind the bus's own message with this serial
abbrev pub waiting : ℕ → List ℕ → Waiting
waiting conn bytes = record { queues = insert empty conn bytes; due = [] }

abbrev pub closing : ℕ → Why → ℕ → Closing
closing conn why last = record { conn = conn; why = why; after = last }

-- the registry alone; and beside it an application that a reader does not hold
abbrev pub alone_world : Bus → World
alone_world b = with_ends b (first_registry ∷ [])

abbrev pub unheld_world : Bus → World
unheld_world b = with_ends b (first_registry ∷ named_app ∷ reader 0 idle ∷ [])

-- a text as the root; a reader that holds it, and one that was told its parts
abbrev pub text_row : TreeRow
text_row = record {
  shape =
      record {
        node = 0;
        name = [];
        description = [];
        role = 0;
        states = 0;
        kinds = record { text = true; editable = false; selection = false; table = false; action = false };
        relations = [];
      };
  contents =
      record {
        text = Some (record { characters = codes "a"; caret = 0; selections = [] });
        columns = None;
        actions = [];
      };
}

abbrev pub text_held : Holding
text_held = record (holding 0) { tree = tree text_row nil nil }

abbrev pub text_told : Holding
text_told = record text_held { told = (path_of 0, Text) ∷ (path_of 0, Caret) ∷ [] }
