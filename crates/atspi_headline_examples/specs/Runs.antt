-- Runs that keep all laws, and for each law a run that it alone refuses.
use Rattle.std.specs.Prelude.{true, List, [], ◌∷◌, ◌++◌, None, Some, codes}
use Rattle.atspi_match.specs.routing.OwnMessages.{owner_changed}
use Rattle.atspi_tree_model.specs.declared.edit.Edit.TheVariants.{Name}
use Rattle.atspi_tree_model.specs.declared.step.Step.TheVariants.{SetName}
use Rattle.atspi_script_lines.specs.declared.line.Line.TheVariants.{Blank, App as App_line, Reader as Reader_line}
use Rattle.atspi_script_lines.specs.declared.line.Line.TheVariants.{Edit as Edit_line, Exit, Bytes, Turns, Drain, Show}
use Rattle.atspi_script_lines.specs.declared.line.Party.TheVariants.{Bus as The_bus, Registry, App, Reader}
use Rattle.atspi_protocol.specs.announcing.Signals.{caret_moved}
use Rattle.atspi_protocol.specs.declared.following.question.Question.TheVariants.{Hello, GetChildren}
use Rattle.atspi_protocol.specs.following.Calls.{asking}
use Rattle.atspi_trace.specs.Entry.{Entry, started, changed, sent, got, heard, spoke, showed, exited, gone, dropped}
use Rattle.atspi_trace.specs.Entry.{busy, quiet}
use Rattle.atspi_headline.specs.Words.{Act, begins_line, moves_bytes, writes}

-- an application starts, and a reader; each says Hello
abbrev pub app_starts : List Act
app_starts =
    begins_line (App_line (codes "T"))
    ∷ writes (started (App 0) (Some (codes "T")))
    ∷ writes (sent (App 0) (asking 1 Hello)) ∷ []

abbrev pub reader_starts : List Act
reader_starts =
    begins_line Reader_line ∷ writes (started (Reader 0) None) ∷ writes (sent (Reader 0) (asking 1 Hello)) ∷ []

-- the root gets another name, by a line
abbrev pub renaming : List Act
renaming = begins_line (Edit_line 0 (Name 0 (codes "X"))) ∷ writes (changed 0 (SetName 0 (codes "X"))) ∷ []

-- LAWFUL: it is edited; both start, and the reader shows nothing of what it does not hold; it exits; no turn is made
-- while its Hello waits; nothing was started, and nothing waits
abbrev pub renamed : List Act
renamed = app_starts ++ renaming

abbrev pub shown : List Act
shown = app_starts ++ (reader_starts ++ begins_line (Show 0 0) ∷ writes (showed 0 0 None) ∷ [])

abbrev pub stopped : List Act
stopped = app_starts ++ begins_line (Exit 0) ∷ writes (exited (App 0)) ∷ []

abbrev pub is_busy : List Act
is_busy = app_starts ++ begins_line (Turns 0) ∷ writes (busy 0) ∷ []

abbrev pub is_quiet : List Act
is_quiet = begins_line Drain ∷ writes quiet ∷ []

-- all but the last byte of its Hello are moved
abbrev pub cut : List Act
cut = app_starts ++ begins_line (Bytes (App 0) true 127) ∷ moves_bytes (App 0) true 127 ∷ []

-- BROKEN OFF: it is yet to say Hello
abbrev pub begun : List Act
begun = begins_line (App_line (codes "T")) ∷ writes (started (App 0) (Some (codes "T"))) ∷ []

-- WRONG: this stands behind an empty line
abbrev pub stray : List Act → Entry → List Act
stray run entry = run ++ begins_line Blank ∷ writes entry ∷ []

-- a step without an edit
abbrev pub unedited : List Act
unedited = stray app_starts (changed 0 (SetName 0 (codes "X")))

-- an edit that is done twice
abbrev pub edited_twice : List Act
edited_twice = app_starts ++ (renaming ++ writes (changed 0 (SetName 0 (codes "X"))) ∷ [])

-- a signal that nobody registered for
abbrev pub unasked : List Act
unasked = app_starts ++ (renaming ++ writes (sent (App 0) (record (caret_moved 0 0).message { serial = 2 })) ∷ [])

-- a message that is taken where no bytes were moved
abbrev pub unmoved : List Act
unmoved = stray app_starts (got (App 0) Registry 1)

-- a message that is skipped: all its bytes are moved, and nobody took it
abbrev pub skipped : List Act
skipped = app_starts ++ begins_line (Bytes (App 0) true 128) ∷ moves_bytes (App 0) true 128 ∷ []

-- one of the bus's own that nothing causes
abbrev pub uncaused : List Act
uncaused = stray app_starts (sent The_bus (record (owner_changed (codes ":1.1") (codes ":1.1") []) { serial = 8 }))

-- a pattern that an application counts without having heard of it; a call of a reader that took nothing
abbrev pub unheard_of : List Act
unheard_of = stray app_starts (heard 0 (codes ":1.9") (codes "object"))

abbrev pub unanswered : List Act
unanswered = stray reader_starts (sent (Reader 0) (asking 2 GetChildren))

-- rows of an application that is not held
abbrev pub unheld : List Act
unheld = app_starts ++ (reader_starts ++ begins_line (Show 0 0) ∷ writes (showed 0 0 (Some [])) ∷ [])

-- a line that no message brings
abbrev pub unspoken : List Act
unspoken = stray reader_starts (spoke 0 0 (codes "X"))

-- an application that exited is edited; one is gone of whose end no news came
abbrev pub edited_late : List Act
edited_late = stopped ++ renaming

abbrev pub gone_early : List Act
gone_early = stray reader_starts (gone 0 0)

-- nothing tells that the Hello waits; quiet is told while it does
abbrev pub untold : List Act
untold = app_starts ++ begins_line (Turns 0) ∷ []

abbrev pub quiet_early : List Act
quiet_early = app_starts ++ begins_line Drain ∷ writes quiet ∷ []

-- the registry is dropped with made-up numbers
abbrev pub made_up : List Act
made_up = stray app_starts (dropped Registry 0 200)
