-- A script of one application, the fronts of its trace, and readers by what was answered to them.
use Rattle.std.specs.Prelude.{ℕ, true, false, List, [], ◌∷◌, ◌++◌, map, codes, take, None, Some}
use Rattle.atspi_message.specs.Envelope.{Envelope}
use Rattle.atspi_match.specs.routing.Queues.{Bus}
use Rattle.atspi_tree_model.specs.declared.edit.Edit.TheVariants.{Insert, Remove, State}
use Rattle.atspi_tree_model.specs.declared.step.Seed.{Seed}
use Rattle.atspi_tree_model.specs.declared.step.Step.TheVariants.{Add, SetState}
use Rattle.atspi_script_lines.specs.declared.line.Line.{Line}
use Rattle.atspi_script_lines.specs.declared.line.Line.TheVariants.{App as App_line, Edit as Edit_line, Exit}
use Rattle.atspi_script_lines.specs.declared.line.Party.TheVariants.{App, Reader}
use Rattle.atspi_protocol.specs.declared.following.question.Question.{Question}
use Rattle.atspi_protocol.specs.declared.following.question.Question.TheVariants.{RegisterEvent}
use Rattle.atspi_protocol.specs.ends.Messages.{call_to}
use Rattle.atspi_protocol.specs.ends.Places.{bus, bus_path}
use Rattle.atspi_protocol.specs.exporting.Exporter.{begins}
use Rattle.atspi_trace.specs.Entry.{Entry, started, changed, sent, quiet}
use Rattle.atspi_trace.specs.World.{away, Fate, Asked, Hearer, an_application, a_reader, End, World, first_registry}
use Rattle.atspi_trace.specs.World.{newcomer}
use Rattle.atspi_trace.specs.Work.{resting}
use Rattle.atspi_trace.specs.Due.{Scene}

-- an application alone: it starts, a button is put into it, and the button gets the focus
abbrev pub button : Seed
button =
    record { role = 43; name = codes "OK"; text = None; editable = false; columns = None; select = false; actions = [] }

abbrev pub alone : List Line
alone = App_line (codes "Demo") ∷ Edit_line 0 (Insert 0 0 button) ∷ Edit_line 0 (State 1 12 true) ∷ []

abbrev pub hello : Envelope
hello = record (call_to bus bus_path bus (codes "Hello") []) { serial = 1 }

abbrev pub alone_trace : List Entry
alone_trace =
    started (App 0) (Some (codes "Demo")) ∷ sent (App 0) hello ∷ changed 0 (Add 1 0 0 button)
    ∷ changed 0 (SetState 1 12 true) ∷ []

-- the entries of the trace of an application alone, one by one
abbrev pub start_of : Entry
start_of = started (App 0) (Some (codes "Demo"))

abbrev pub hello_of : Entry
hello_of = sent (App 0) hello

abbrev pub added : Entry
added = changed 0 (Add 1 0 0 button)

abbrev pub focused : Entry
focused = changed 0 (SetState 1 12 true)

-- its first entries
abbrev pub front : ℕ → List Entry
front n = take n alone_trace

-- its script, and behind that an edit that is refused
abbrev pub with_root_removed : List Line
with_root_removed = alone ++ Edit_line 0 (Remove 0) ∷ []

-- what a reader knows that asked nothing yet, and one with these calls; a call by its serial and by what became of it
abbrev pub idle : Hearer
idle = record { asked = []; next = 5; registry = None; named = []; holds = [] }

abbrev pub asked : List Asked → Hearer
asked calls = record idle { asked = calls }

abbrev pub call : ℕ → Question → Fate → Asked
call serial question fate = record { serial = serial; question = question; fate = fate }

abbrev pub reader : ℕ → Hearer → End
reader n h = newcomer (Reader n) (a_reader h)

-- a reader of whose calls for the five patterns this became, the first of them last; and that asked for no match rule
abbrev pub patterns : List Question
patterns =
    RegisterEvent (codes "object:text-caret-moved") ∷ RegisterEvent (codes "object:text-changed")
    ∷ RegisterEvent (codes "object:state-changed") ∷ RegisterEvent (codes "object:property-change")
    ∷ RegisterEvent (codes "object:children-changed") ∷ []

abbrev pub registered_as : Fate → List Asked
registered_as fate = map (λ q. call 4 q fate) patterns

abbrev pub registering : Fate → Hearer
registering fate = asked (registered_as fate)

-- a scene in a world with these ends, of which nothing is owed or left; and one of one end, which just took a message
abbrev pub with_ends : Bus → List End → World
with_ends b ends = record { bus = b; ends = ends; swaps = 0 }

abbrev pub scene : World → Scene
scene w = record { world = w; owing = []; free = None; work = resting; left = []; passed = [] }

abbrev pub freely : Bus → End → Scene
freely b e = record (scene (with_ends b (e ∷ []))) { free = Some 0 }

-- the registry alone; and beside it an application that a reader does not hold
abbrev pub alone_world : Bus → World
alone_world b = with_ends b (first_registry ∷ [])

abbrev pub unheld_world : Bus → World
unheld_world b =
    with_ends b (first_registry ∷ newcomer (App 0) (an_application (begins (codes "T"))) ∷ reader 0 idle ∷ [])

-- the end of an application that was not started; where the registry is there, where it was dropped, and where
-- something is owed
abbrev pub one_exit : List Line
one_exit = Exit 7 ∷ []

abbrev pub stuck : Bus → Scene
stuck b = record (scene (alone_world b)) { left = one_exit }

abbrev pub lost : Bus → Scene
lost b = record (scene (with_ends b (record first_registry { standing = away } ∷ []))) { left = one_exit }

abbrev pub owing_still : Bus → Scene
owing_still b = record (scene (alone_world b)) { owing = quiet ∷ []; left = one_exit }

-- a line ended with nothing waiting where a reader does not hold an application; these lines are left
abbrev pub unheld : Bus → List Line → Scene
unheld b lines = record (scene (unheld_world b)) { left = lines; passed = unheld_world b ∷ [] }

-- and that reader just took a message
abbrev pub unheld_freely : Bus → Scene
unheld_freely b = record (unheld b []) { free = Some 2 }
