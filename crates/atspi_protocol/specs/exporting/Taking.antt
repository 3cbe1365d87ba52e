-- What an application does with a message, and with an edit of its user: one list of happenings, which is queued.
use Rattle.std.specs.Prelude.{ℕ, ◌==◌, Bool, nat_lt, List, [], ◌∷◌, ◌++◌, map, Option, None, Some, if◌then◌else◌}
use Rattle.std.specs.Prelude.{Result, Ok, Err}
use Rattle.atspi_tree_model.specs.declared.edit.Edit.{Edit}
use Rattle.atspi_tree_model.specs.declared.edit.EditFault.{EditFault}
use Rattle.atspi_tree_model.specs.declared.step.Step.{Step}
use Rattle.atspi_tree_model.specs.RowRules.{rows}
use Rattle.atspi_tree_model.specs.Tree.{added_after, after_all}
use Rattle.atspi_tree_model.specs.Edits.{steps_of_tree}
use Rattle.atspi_message.specs.Envelope.{Envelope}
use Rattle.atspi_protocol.specs.ends.Messages.{replies}
use Rattle.atspi_protocol.specs.objects.Answers.{Answer, answer}
use Rattle.atspi_protocol.specs.exporting.Exporter.{StartCall, Happening, sends, Exporter, named, queues}
use Rattle.atspi_protocol.specs.exporting.Hearing.{heard_after}
use Rattle.atspi_protocol.specs.exporting.Telling.{steps_told}
use Rattle.atspi_protocol.specs.exporting.Starting.{awaited, goes_on, ends_start, name_or_empty}

abbrev pub added_by : ℕ → List Step → ℕ
added_by added [] = added
added_by added (step ∷ more) = added_by (added_after added step) more

-- the tree after some steps
abbrev pub stepped : Exporter → List Step → Exporter
stepped s steps = record s { tree = after_all rows s.tree steps; added = added_by s.added steps }

-- what a message's path is, if it has one
abbrev pub answer_to : Exporter → List ℕ → Envelope → Answer
answer_to s name e = answer (named s name) (name_or_empty e.path) e.interface e.member e.body

-- a call: its steps are done and told, and then it is answered, if its caller waits for that
abbrev pub call_happens : Exporter → List ℕ → List ℕ → Envelope → List Happening
call_happens s name caller e =
    let a = answer_to s name e in
    steps_told s.heard name s.tree a.steps ++ map sends (replies caller e a.reply)

abbrev pub called : Exporter → List ℕ → List ℕ → Envelope → Exporter
called s name caller e =
    let a = answer_to s name e in
    queues (record (stepped s a.steps) { id = a.id }) (call_happens s name caller e)

-- one without a sender is ignored
abbrev pub takes_call : Exporter → List ℕ → Envelope → Exporter
takes_call s name e = by e.sender
  where
    by : Option (List ℕ) → Exporter
    by None = s
    by (Some caller) = called s name caller e

abbrev pub takes_signal : Exporter → Envelope → Exporter
takes_signal s e = let change = heard_after s.heard e in queues (record s { heard = change.heard }) change.told

-- a message that no call of its own waits for; before it has its name it ignores all of them
abbrev pub takes_other : Exporter → Option (List ℕ) → Envelope → Exporter
takes_other s None e = s
takes_other s (Some name) e = if e.kind == 1 then takes_call s name e else if e.kind == 4 then takes_signal s e else s

-- what an application is after a message. A call of its start that is answered by an error ends the start.
abbrev pub app_takes : Exporter → Envelope → Exporter
app_takes s e = by (awaited s.phase e)
  where
    by : Option StartCall → Exporter
    by None = takes_other s s.name e
    by (Some call) = if e.kind == 2 then goes_on s call e.body else ends_start s

-- what it is after an edit, or why the edit is refused
abbrev pub app_edits : Exporter → Edit → Result Exporter EditFault
app_edits s edit = by (steps_of_tree s.tree s.added edit)
  where
    by : Result (List Step) EditFault → Result Exporter EditFault
    by (Ok steps) = Ok (queues (stepped s steps) (steps_told s.heard (name_or_empty s.name) s.tree steps))
    by (Err fault) = Err fault

-- a message would have a number behind the last one
abbrev pub is_spent : Exporter → Bool
is_spent s = nat_lt 4294967296 s.next
