-- A reader as the laws of a trace see it: which of its own calls were answered, what it holds, and what it must speak.
use Rattle.std.specs.Prelude.{ℕ, ◌==◌, ◌&&◌, not, Bool, true, false, List, [], ◌∷◌, ◌++◌, map, filter, Option, None}
use Rattle.std.specs.Prelude.{Some, bytes_eq, codes, if◌then◌else◌}
use Rattle.std.specs.List.{list_any, list_all}
use Rattle.atspi_types.specs.Data.{Data, text_data}
use Rattle.atspi_base.specs.valid_names.Names.{is_bus_name, is_path}
use Rattle.atspi_tree_model.specs.declared.step.Step.{Step}
use Rattle.atspi_script_lines.specs.declared.line.Party.{Party}
use Rattle.atspi_script_lines.specs.declared.line.Party.TheVariants.{Bus as The_bus, App}
use Rattle.atspi_message.specs.Envelope.{Envelope}
use Rattle.atspi_match.specs.routing.Routing.{is_reply}
use Rattle.atspi_match.specs.routing.Answers.{first_text}
use Rattle.atspi_speech.specs.Speech.{says_after, closing_says}
use Rattle.atspi_protocol.specs.declared.news.part.PartName.{PartName}
use Rattle.atspi_protocol.specs.declared.news.part.PartName.TheVariants.{Text, Caret, Columns}
use Rattle.atspi_tree_model.specs.declared.news.Reference.{Reference}
use Rattle.atspi_protocol.specs.news.NewsOf.{or_empty}
use Rattle.atspi_protocol.specs.news.Replies.{elements_of}
use Rattle.atspi_protocol.specs.declared.following.question.Question.{Question}
use Rattle.atspi_protocol.specs.declared.following.question.Question.TheVariants.{Hello, AddMatch, RegisterEvent}
use Rattle.atspi_protocol.specs.declared.following.question.Question.TheVariants.{GetChildren, GetItems, GetPart}
use Rattle.atspi_protocol.specs.following.ReaderState.{start_calls, begins}
use Rattle.atspi_protocol.specs.following.Known.{told_end, references_among, new_child}
use Rattle.atspi_protocol.specs.following.Replied.{is_reply_to}
use Rattle.atspi_trace.specs.Entry.{Entry, spoke, gone}
use Rattle.atspi_trace.specs.World.{Fate, waits, returned, failed, Asked, Holding, Hearer, Said, Letter, End}
use Rattle.atspi_trace.specs.Ends.{app_named}

-- An own call after a message: a return or an error with its serial answers it
abbrev pub fate_of : Envelope → Fate
fate_of e = if e.kind == 2 then returned else failed

abbrev pub answered_by : Envelope → Asked → Asked
answered_by e a = if is_reply e && is_reply_to a.serial e.reply then record a { fate = fate_of e } else a

-- the question that a return answers
abbrev pub question_returned : Envelope → List Asked → Option Question
question_returned e [] = None
question_returned e (a ∷ asked) = if e.kind == 2 && is_reply_to a.serial e.reply then Some a.question
    else question_returned e asked

-- what is held of an application
abbrev pub is_of : ℕ → Holding → Bool
is_of app k = k.app == app

abbrev pub holding_of : ℕ → List Holding → Option Holding
holding_of app [] = None
holding_of app (k ∷ ks) = if is_of app k then Some k else holding_of app ks

abbrev pub without : ℕ → List Holding → List Holding
without app ks = filter (λ k. not (is_of app k)) ks

-- all was told: the tree as of this message, no part of it
abbrev pub loaded : ℕ → Said → List Holding → List Holding
loaded app said ks = without app ks ++ record { app = app; tree = said.tree; last = said.message.serial; told = [] }
    ∷ []

-- the last message taken is this one, and it told these parts
abbrev pub noted : Said → List (List ℕ × PartName) → Holding → Holding
noted said parts k = record k { tree = said.tree; last = said.message.serial; told = k.told ++ parts }

abbrev pub noted_of : ℕ → Said → List (List ℕ × PartName) → List Holding → List Holding
noted_of app said parts ks = map (λ k. if is_of app k then noted said parts k else k) ks

-- what a message of an application brings, by the question that it answers
abbrev pub holds_after : ℕ → Said → Option Question → List Holding → List Holding
holds_after app said (Some (GetItems name)) ks = loaded app said ks
holds_after app said (Some (GetPart name path part)) ks = noted_of app said ((path, part) ∷ []) ks
holds_after app said question ks = noted_of app said [] ks

-- the application that has or had this unique name
abbrev pub app_with : List End → Option (List ℕ) → Option ℕ
app_with ends None = None
app_with ends (Some name) = app_named name ends

-- the application whose end a message tells: the bus's news that its unique name is nobody's
abbrev pub app_ended : List End → Letter → Option ℕ
app_ended ends letter = by letter.from
  where
    by : Party → Option ℕ
    by The_bus = app_with ends (told_end letter.said.message)
    by who = None

abbrev pub without_ended : Option ℕ → List Holding → List Holding
without_ended None ks = ks
without_ended (Some app) ks = without app ks

-- a reader after a message
abbrev pub holds_of : Hearer → List End → Letter → List Holding
holds_of h ends letter = by letter.from
  where
    by : Party → List Holding
    by (App app) = holds_after app letter.said (question_returned letter.said.message h.asked) h.holds
    by who = without_ended (app_ended ends letter) h.holds

-- The bus names that a message tells as those of applications: those of the registry's children in a return, and behind
-- it that of each child of which whoever sent the return tells that it was added
abbrev pub child_name : Option Reference → List (List ℕ)
child_name None = []
child_name (Some root) = root.bus ∷ []

abbrev pub names_told : Hearer → Envelope → Option Question → List (List ℕ)
names_told h e (Some GetChildren) = map (λ (root : Reference). root.bus) (references_among (elements_of e.body))
names_told h e question = child_name (new_child (record begins { registry = h.registry }) e)

abbrev pub registry_after : Hearer → Envelope → Option Question → Option (List ℕ)
registry_after h e (Some GetChildren) = e.sender
registry_after h e question = h.registry

abbrev pub hears_letter : Hearer → List End → Letter → Hearer
hears_letter h ends letter =
    let e = letter.said.message in
    let answered = question_returned e h.asked in
    record h {
      asked = map (answered_by e) h.asked;
      registry = registry_after h e answered;
      named = h.named ++ names_told h e answered;
      holds = holds_of h ends letter;
    }

-- What it speaks at an application's message: where it holds the application and the message announces a step, the
-- lines of that step, read from the tree as of the message
abbrev pub step_lines : Said → Option Step → List (List ℕ)
step_lines said None = []
step_lines said (Some step) = says_after said.tree step

abbrev pub lines_if_held : Option Holding → Said → List (List ℕ)
lines_if_held None said = []
lines_if_held (Some k) said = step_lines said said.announces

-- and at the end of one that it holds: one line, with the root's name as of the last message taken
abbrev pub last_lines : Option Holding → List (List ℕ)
last_lines None = []
last_lines (Some k) = closing_says k.tree

abbrev pub ended_entries : ℕ → Hearer → Option ℕ → List Entry
ended_entries r h None = []
ended_entries r h (Some app) = gone r app ∷ map (spoke r app) (last_lines (holding_of app h.holds))

-- what is written behind its Got
abbrev pub heard_entries : ℕ → Hearer → List End → Letter → List Entry
heard_entries r h ends letter = by letter.from
  where
    by : Party → List Entry
    by (App app) = map (spoke r app) (lines_if_held (holding_of app h.holds) letter.said)
    by who = ended_entries r h (app_ended ends letter)

-- The own calls that it may send: one of its start at any time; one for a part; and one for all items of an application
-- that it was told of, once the rules and patterns of its start were returned, so that it misses nothing behind the
-- items
abbrev pub is_answered : Asked → Bool
is_answered a = by a.fate
  where
    by : Fate → Bool
    by waits = false
    by fate = true

abbrev pub patterns_in : List Question → List (List ℕ)
patterns_in [] = []
patterns_in (RegisterEvent pattern ∷ questions) = pattern ∷ patterns_in questions
patterns_in (question ∷ questions) = patterns_in questions

abbrev pub registers : List ℕ → Question → Fate → Bool
registers pattern (RegisterEvent other) returned = bytes_eq other pattern
registers pattern question fate = false

abbrev pub is_registered : List Asked → Bool
is_registered asked =
    list_all (λ pattern. list_any (λ (a : Asked). registers pattern a.question a.fate) asked) (patterns_in start_calls)

abbrev pub rules_in : List Question → List (List ℕ)
rules_in [] = []
rules_in (AddMatch rule ∷ questions) = rule ∷ rules_in questions
rules_in (question ∷ questions) = rules_in questions

abbrev pub listens : List ℕ → Question → Fate → Bool
listens rule (AddMatch other) returned = bytes_eq other rule
listens rule question fate = false

abbrev pub is_listening : List Asked → Bool
is_listening asked =
    list_all (λ rule. list_any (λ (a : Asked). listens rule a.question a.fate) asked) (rules_in start_calls)

abbrev pub may_ask : Hearer → Question → Bool
may_ask h Hello = true
may_ask h (AddMatch rule) = list_any (bytes_eq rule) (rules_in start_calls)
may_ask h (RegisterEvent pattern) = list_any (bytes_eq pattern) (patterns_in start_calls)
may_ask h GetChildren = true
may_ask h (GetItems name) = is_bus_name name
    && (is_listening h.asked && (is_registered h.asked && list_any (bytes_eq name) h.named))
may_ask h (GetPart name path part) = is_bus_name name && is_path path

-- The question of a message that has the form of an own call
abbrev pub second_text : List Data → List ℕ
second_text (d ∷ (text_data cs ∷ ds)) = cs
second_text ds = []

abbrev pub part_named : List ℕ → Option PartName
part_named name =
    if bytes_eq name (codes "CaretOffset") then Some Caret
    else if bytes_eq name (codes "NColumns") then Some Columns
    else None

abbrev pub asks_part : Envelope → Option PartName → Option Question
asks_part e None = None
asks_part e (Some part) = Some (GetPart (or_empty e.destination) (or_empty e.path) part)

abbrev pub question_of : List ℕ → Envelope → Option Question
question_of member e =
    if bytes_eq member (codes "Hello") then Some Hello
    else if bytes_eq member (codes "AddMatch") then Some (AddMatch (first_text e.body))
    else if bytes_eq member (codes "RegisterEvent") then Some (RegisterEvent (first_text e.body))
    else if bytes_eq member (codes "GetChildren") then Some GetChildren
    else if bytes_eq member (codes "GetItems") then Some (GetItems (or_empty e.destination))
    else if bytes_eq member (codes "GetText") then asks_part e (Some Text)
    else if bytes_eq member (codes "Get") then asks_part e (part_named (second_text e.body))
    else None

abbrev pub question_in : Envelope → Option Question
question_in e = if e.kind == 1 then question_of (or_empty e.member) e else None
