-- A world in which the reader with the number 1, which is the connection 2, waits for the return to its Hello.
use Rattle.std.specs.Prelude.{ℕ, List, [], ◌∷◌, Option, Some, None, drop, codes}
use Rattle.atspi_tree_model.specs.Forest.{nil}
use Rattle.atspi_script_lines.specs.declared.line.Party.TheVariants.{Bus as The_bus, App, Reader}
use Rattle.atspi_protocol.specs.declared.following.question.Question.TheVariants.{Hello}
use Rattle.atspi_protocol.specs.exporting.Exporter.{begins as begins_app}
use Rattle.atspi_protocol.specs.following.Cases.{returned}
use Rattle.atspi_protocol.specs.following.ReaderState.{ReaderState, begins, start_calls}
use Rattle.atspi_match.specs.routing.Queues.{Bus}
use Rattle.atspi_trace.specs.World.{Hearer, Letter, End, World, waits, a_reader, an_application, first_registry}
use Rattle.atspi_trace.specs.World.{newcomer}
use Rattle.atspi_trace.specs.play.Playing.{Playing}

abbrev pub hello_waits : ReaderState
hello_waits =
    record begins { to_come = drop 9 start_calls; pending = Some (record { serial = 1; question = Hello }); next = 2 }

abbrev pub hearer : Hearer
hearer =
    record {
      asked = record { serial = 1; question = Hello; fate = waits } ∷ [];
      next = 2;
      registry = None;
      named = [];
      holds = [];
    }

abbrev pub hello_refused : Letter
hello_refused =
    record {
      from = The_bus;
      said =
          record {
            message = record (returned 1 (codes "org.freedesktop.DBus") []) { serial = 33 };
            tree = nil;
            announces = None;
          };
    }

abbrev pub reader : List Letter → End
reader letters = record (newcomer (Reader 1) (a_reader hearer)) { down = letters }

-- the letters that wait for an end
abbrev pub at_link : Option End → List Letter
at_link None = []
at_link (Some e) = e.down

-- the registry, an application with the number 2, and that reader
abbrev pub world : Bus → List Letter → World
world b letters =
    record {
      bus = b;
      ends = first_registry ∷ newcomer (App 2) (an_application (begins_app (codes "T"))) ∷ reader letters ∷ [];
      swaps = 0;
    }

abbrev pub playing : Bus → List Letter → Playing
playing b letters = record { world = world b letters; readers = begins ∷ hello_waits ∷ [] }
