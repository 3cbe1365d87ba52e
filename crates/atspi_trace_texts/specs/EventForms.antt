-- The forms of steps and of events: the words of each.
use Rattle.std.specs.Prelude.{ℕ, List, [], ◌∷◌, length, map, Option, None, Some, codes}
use Rattle.std.specs.Fmt.{decimal}
use Rattle.std.specs.List.{flat_map}
use Rattle.atspi_tree_model.specs.declared.step.Step.{Step}
use Rattle.atspi_tree_model.specs.declared.step.Step.TheVariants.{Add, Remove, Move, SetName, SetDescription, SetRole}
use Rattle.atspi_tree_model.specs.declared.step.Step.TheVariants.{SetState, Insert, Delete, Caret, TextSelect, Relate}
use Rattle.atspi_script_lines.specs.declared.line.Party.{Party}
use Rattle.atspi_script_lines.specs.Words.{Word, literal, number, app_name, reader_name, role_name, state_name, quote}
use Rattle.atspi_script_lines.specs.Forms.{clauses, switch_word}
use Rattle.atspi_trace_events.specs.declared.event.Event.{Event}
use Rattle.atspi_trace_events.specs.declared.event.Event.TheVariants.{Start, Step as Stepped, Sent, Got, Hears, Deaf}
use Rattle.atspi_trace_events.specs.declared.event.Event.TheVariants.{Say, Show, Exit, Gone, Dropped, Busy, Quiet}
use Rattle.atspi_trace_events.specs.declared.shown.ShownRow.{ShownRow}
use Rattle.atspi_trace_texts.specs.Written.{party_text}

-- where a selection begins and ends
abbrev pub mark_pair : ℕ × ℕ → List Word
mark_pair mark = number mark.0 ∷ number mark.1 ∷ []

abbrev pub mark_words : List (ℕ × ℕ) → List Word
mark_words marks = flat_map mark_pair marks

-- the targets of a relation
abbrev pub target_words : List ℕ → List Word
target_words targets = map number targets

-- a step's words; those of a new node's contents are those that an insertion has
abbrev pub step_form : Step → List Word
step_form (Add n p i seed) =
    literal (codes "add") ∷ number n ∷ number p ∷ number i ∷ role_name seed.role ∷ quote seed.name ∷ clauses seed
step_form (Remove n) = literal (codes "remove") ∷ number n ∷ []
step_form (Move n p i) = literal (codes "move") ∷ number n ∷ number p ∷ number i ∷ []
step_form (SetName n text) = literal (codes "name") ∷ number n ∷ quote text ∷ []
step_form (SetDescription n text) = literal (codes "description") ∷ number n ∷ quote text ∷ []
step_form (SetRole n role) = literal (codes "role") ∷ number n ∷ role_name role ∷ []
step_form (SetState n state on) = literal (codes "state") ∷ number n ∷ state_name state ∷ literal (switch_word on) ∷ []
step_form (Insert n at text) = literal (codes "insert") ∷ number n ∷ number at ∷ quote text ∷ []
step_form (Delete n at text) = literal (codes "delete") ∷ number n ∷ number at ∷ quote text ∷ []
step_form (Caret n at) = literal (codes "caret") ∷ number n ∷ number at ∷ []
step_form (TextSelect n marks) = literal (codes "marks") ∷ number n ∷ mark_words marks
step_form (Relate n kind targets) = literal (codes "relate") ∷ number n ∷ number kind ∷ target_words targets

-- a party
abbrev pub end_word : Party → Word
end_word who = literal (party_text who)

-- the name of an application's root; a reader has none
abbrev pub name_words : Option (List ℕ) → List Word
name_words None = []
name_words (Some name) = quote name ∷ []

-- how many rows are shown, or `none` where nothing is held
abbrev pub count_text : Option (List ShownRow) → List ℕ
count_text None = codes "none"
count_text (Some rows) = decimal (length rows)

-- an event's words; behind those of a message sent its text follows
abbrev pub event_form : Event → List Word
event_form (Start who name) = literal (codes "start") ∷ end_word who ∷ name_words name
event_form (Stepped app step) = literal (codes "step") ∷ app_name app ∷ step_form step
event_form (Sent who message) = literal (codes "sent") ∷ end_word who ∷ []
event_form (Got taker sender serial) = literal (codes "got") ∷ end_word taker ∷ end_word sender ∷ number serial ∷ []
event_form (Hears app listener pattern) = literal (codes "hears") ∷ app_name app ∷ literal listener ∷ quote pattern ∷ []
event_form (Deaf app listener pattern) = literal (codes "deaf") ∷ app_name app ∷ literal listener ∷ quote pattern ∷ []
event_form (Say reader app text) = literal (codes "say") ∷ reader_name reader ∷ app_name app ∷ quote text ∷ []
event_form (Show reader app rows) = literal (codes "show") ∷ reader_name reader ∷ app_name app
    ∷ literal (count_text rows) ∷ []
event_form (Exit who) = literal (codes "exit") ∷ end_word who ∷ []
event_form (Gone reader app) = literal (codes "gone") ∷ reader_name reader ∷ app_name app ∷ []
event_form (Dropped who queued len) = literal (codes "dropped") ∷ end_word who ∷ number queued ∷ number len ∷ []
event_form (Busy turns) = literal (codes "busy") ∷ number turns ∷ []
event_form Quiet = literal (codes "quiet") ∷ []
