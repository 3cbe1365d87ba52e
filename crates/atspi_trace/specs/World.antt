-- The world as the laws of a trace see it: the bus, and each end with its two links.
use Rattle.std.specs.Prelude.{ℕ, List, [], ◌∷◌, Option, None, Some, codes}
use Rattle.std.specs.FinMap as finmap
use Rattle.atspi_tree_model.specs.declared.step.Step.{Step}
use Rattle.atspi_tree_model.specs.Forest.{Forest}
use Rattle.atspi_tree_model.specs.Row.{TreeRow}
use Rattle.atspi_script_lines.specs.declared.line.Party.{Party}
use Rattle.atspi_script_lines.specs.declared.line.Party.TheVariants.{Registry}
use Rattle.atspi_message.specs.Envelope.{Envelope}
use Rattle.atspi_names.specs.Owners.{Owners}
use Rattle.atspi_protocol.specs.ends.Places.{registry}
use Rattle.atspi_match.specs.routing.Queues.{Bus}
use Rattle.atspi_protocol.specs.registering.RegistryState.{RegistryState, begins}
use Rattle.atspi_protocol.specs.exporting.Exporter.{Exporter}
use Rattle.atspi_protocol.specs.declared.news.part.PartName.{PartName}
use Rattle.atspi_protocol.specs.declared.following.question.Question.{Question}
use Rattle.atspi_trace.specs.Rules.{owner_rule}

-- it is there; it stopped, and the bus was not told yet; it left the bus
pub data Standing : Type 0 where
  here : Standing
  stopped : Standing
  away : Standing

-- what became of a reader's own call: it waits, a return came, or an error
pub data Fate : Type 0 where
  waits : Fate
  returned : Fate
  failed : Fate

pub record Asked : Type 0 where
  pub serial : ℕ
  pub question : Question
  pub fate : Fate

-- What a reader has of an application that it holds: the application's tree as of the last message taken from it, the
-- serial of that message, and the parts, by their row's path, that it was told since the last load
pub record Holding : Type 0 where
  pub app : ℕ
  pub tree : Forest TreeRow
  pub last : ℕ
  pub told : List (List ℕ × PartName)

-- A reader as the laws of a trace see it, whatever it does with a message: its own calls so far, the oldest first; the
-- serial of its next message; who answered its call for the registry's children, and the bus names that it was told as
-- those of applications; and what it holds
pub record Hearer : Type 0 where
  pub asked : List Asked
  pub next : ℕ
  pub registry : Option (List ℕ)
  pub named : List (List ℕ)
  pub holds : List Holding

pub data Role : Type 0 where
  the_registry : RegistryState → Role
  an_application : Exporter → Role
  a_reader : Hearer → Role

-- A message, with what its bytes do not tell: its sender's tree when it was sent, and the step that it announces
pub record Said : Type 0 where
  pub message : Envelope
  pub tree : Forest TreeRow
  pub announces : Option Step

-- the same as the bus hands it on
pub record Letter : Type 0 where
  pub from : Party
  pub said : Said

-- An end: its unique name, once the bus gave it; its up link to the bus and its down link from it, the oldest message
-- first, each with the number of bytes of that message that were moved
pub record End : Type 0 where
  pub who : Party
  pub standing : Standing
  pub unique : Option (List ℕ)
  pub role : Role
  pub up : List Said
  pub up_moved : ℕ
  pub down : List Letter
  pub down_moved : ℕ

-- The bus with its queues of bytes; the ends in order of joining, each at the place that is its connection's number;
-- the swaps done
pub record World : Type 0 where
  pub bus : Bus
  pub ends : List End
  pub swaps : ℕ

-- At the beginning of a script the registry has started: it is `:1.0`, owns its name, and asked for the news of owners
abbrev pub first_unique : List (ℕ × List ℕ)
first_unique = (0, codes ":1.0") ∷ []

abbrev pub first_lists : List (List ℕ × List (ℕ × ℕ))
first_lists = (codes ":1.0", (0, 0) ∷ []) ∷ (registry, (0, 4) ∷ []) ∷ []

abbrev pub first_queues : List (ℕ × List ℕ)
first_queues = (0, []) ∷ []

abbrev pub first_owners : Owners
first_owners = record { given = 1; unique = finmap.from_sorted first_unique; lists = finmap.from_sorted first_lists }

abbrev pub first_bus : ℕ → Bus
first_bus quota = record {
  quota = quota;
  state = record { joined = 0 ∷ []; owners = first_owners; rules = (0, owner_rule) ∷ []; calls = []; next = 8 };
  waiting = record { queues = finmap.from_sorted first_queues; due = [] };
  own = [];
  closings = [];
}

-- an end that just joined, and the registry behind its start
abbrev pub newcomer : Party → Role → End
newcomer who role =
    record { who = who; standing = here; unique = None; role = role; up = []; up_moved = 0; down = []; down_moved = 0 }

abbrev pub first_registry : End
first_registry =
    record (newcomer Registry (the_registry (record begins { hello = Some 1; own = Some (codes ":1.0"); next = 4 })))
    { unique = Some (codes ":1.0") }

abbrev pub first_world : ℕ → World
first_world quota = record { bus = first_bus quota; ends = first_registry ∷ []; swaps = 0 }
