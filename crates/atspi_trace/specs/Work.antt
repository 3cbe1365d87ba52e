-- The lines of a script: why one is refused, and what is left of one at work.
use Rattle.std.specs.Prelude.{ℕ, zero, suc, ◌+◌, ◌-◌, nat_le, nat_lt, Bool, true, false, List, [], ◌∷◌, length, Option}
use Rattle.std.specs.Prelude.{None, Some, Result, Ok, Err, if◌then◌else◌}
use Rattle.atspi_tree_model.specs.declared.edit.Edit.{Edit}
use Rattle.atspi_tree_model.specs.declared.edit.EditFault.{EditFault}
use Rattle.atspi_tree_model.specs.declared.edit.EditFault.TheVariants.{TextFull}
use Rattle.atspi_tree_model.specs.Edits.{is_long_name}
use Rattle.atspi_tree_model.specs.Forest.{first_of}
use Rattle.atspi_script_lines.specs.declared.limits.TheConstants.{APP_COUNT, READER_COUNT}
use Rattle.atspi_script_lines.specs.declared.line.Line.{Line}
use Rattle.atspi_script_lines.specs.declared.line.Line.TheVariants.{Blank, Quota, App as App_line}
use Rattle.atspi_script_lines.specs.declared.line.Line.TheVariants.{Reader as Reader_line, Edit as Edit_line, Call}
use Rattle.atspi_script_lines.specs.declared.line.Line.TheVariants.{Swap, Exit, Leave, Bytes, Turns, Drain, Show}
use Rattle.atspi_script_lines.specs.declared.line.Party.TheVariants.{App, Reader}
use Rattle.atspi_protocol.specs.exporting.Exporter.{Exporter}
use Rattle.atspi_protocol.specs.exporting.Starting.{name_or_empty}
use Rattle.atspi_protocol.specs.exporting.Taking.{app_edits}
use Rattle.atspi_trace.specs.World.{Standing, here, stopped, Holding, Role, an_application, a_reader, Said, Letter, End}
use Rattle.atspi_trace.specs.World.{World}
use Rattle.atspi_trace.specs.Ends.{is_here, conn_of, end_of, end_at, with_end, app_count, reader_count}
use Rattle.atspi_trace.specs.Hearing.{holding_of}
use Rattle.atspi_trace.specs.Causes.{Cause, renews, starts_app, starts_reader, edits, calls, swaps_face, exits, shows}
use Rattle.atspi_trace.specs.Causes.{tells_busy, tells_quiet, routes, unjoins, gets, missing, without_bytes}

-- Why a line is refused, in the order in which it is looked for: a party that was not started; one that stopped; all
-- applications, all readers, all spare faces that a script has are used; a quota behind a start; an application that
-- the reader does not hold; an edit that is refused
pub data Refusal : Type 0 where
  no_party : Refusal
  dead : Refusal
  no_kit : Refusal
  no_reader : Refusal
  no_spare : Refusal
  late : Refusal
  not_held : Refusal
  of_edit : EditFault → Refusal

-- how many spare faces there are
abbrev pub spare_count : ℕ
spare_count = 16

-- a refusal where a test passes
abbrev pub refusal_if : Bool → Refusal → Option Refusal
refusal_if true why = Some why
refusal_if false why = None

-- a party that was started
abbrev pub if_started : Option End → (End → Option Refusal) → Option Refusal
if_started None then_ = Some no_party
if_started (Some e) then_ = then_ e

-- and did not stop
abbrev pub if_here : End → (End → Option Refusal) → Option Refusal
if_here e then_ = if is_here e.standing then then_ e else Some dead

abbrev pub no_more : End → Option Refusal
no_more e = None

abbrev pub if_refused : Result Exporter EditFault → Option Refusal
if_refused (Ok s) = None
if_refused (Err fault) = Some (of_edit fault)

abbrev pub edit_refusal : Edit → Role → Option Refusal
edit_refusal edit (an_application s) = if_refused (app_edits s edit)
edit_refusal edit role = None

abbrev pub if_held : Option Holding → Option Refusal
if_held None = Some not_held
if_held (Some k) = None

abbrev pub call_refusal : ℕ → Role → Option Refusal
call_refusal app (a_reader h) = if_held (holding_of app h.holds)
call_refusal app role = None

abbrev pub refused : World → Line → Option Refusal
refused w Blank = None
refused w (Quota quota) = refusal_if (nat_lt 1 (length w.ends)) late
refused w (App_line name) =
    first_of (refusal_if (nat_le APP_COUNT (app_count w.ends)) no_kit)
    (refusal_if (is_long_name name) (of_edit TextFull))
refused w Reader_line = refusal_if (nat_le READER_COUNT (reader_count w.ends)) no_reader
refused w (Edit_line app edit) = if_started (end_of w.ends (App app)) (λ e. if_here e (λ a. edit_refusal edit a.role))
refused w (Call reader app node deed) =
    if_started (end_of w.ends (Reader reader))
    (λ r. if_started (end_of w.ends (App app)) (λ a. if_here r (λ caller. call_refusal app caller.role)))
refused w (Swap app) =
    if_started (end_of w.ends (App app)) (λ e. if_here e (λ a. refusal_if (nat_le spare_count w.swaps) no_spare))
refused w (Exit app) = if_started (end_of w.ends (App app)) (λ e. if_here e no_more)
refused w (Leave reader) = if_started (end_of w.ends (Reader reader)) (λ e. if_here e no_more)
refused w (Bytes who up count) = if_started (end_of w.ends who) no_more
refused w (Turns count) = None
refused w Drain = None
refused w (Show reader app) =
    if_started (end_of w.ends (Reader reader)) (λ r. if_started (end_of w.ends (App app)) no_more)

-- What is left of a line: nothing; one cause; so many bytes of an end's up link, or of its down link; so many turns of
-- so many; turns until nothing waits
pub data Work : Type 0 where
  resting : Work
  doing : Cause → Work
  moving_up : ℕ → ℕ → Work
  moving_down : ℕ → ℕ → Work
  turning : ℕ → ℕ → Work
  draining : Work

abbrev pub with_conn : Option ℕ → (ℕ → Work) → Work
with_conn None work = resting
with_conn (Some conn) work = work conn

abbrev pub moving : Bool → ℕ → ℕ → Work
moving true count conn = moving_up conn count
moving false count conn = moving_down conn count

abbrev pub name_of : Option End → List ℕ
name_of None = []
name_of (Some e) = name_or_empty e.unique

abbrev pub work_of : World → Line → Work
work_of w Blank = resting
work_of w (Quota quota) = doing (renews quota)
work_of w (App_line name) = doing (starts_app name)
work_of w Reader_line = doing starts_reader
work_of w (Edit_line app edit) = with_conn (conn_of w.ends (App app)) (λ conn. doing (edits conn edit))
work_of w (Call reader app node deed) =
    with_conn (conn_of w.ends (Reader reader))
    (λ conn. doing (calls conn (name_of (end_of w.ends (App app))) node deed))
work_of w (Swap app) = doing swaps_face
work_of w (Exit app) = with_conn (conn_of w.ends (App app)) (λ conn. doing (exits conn))
work_of w (Leave reader) = with_conn (conn_of w.ends (Reader reader)) (λ conn. doing (exits conn))
work_of w (Bytes who up count) = with_conn (conn_of w.ends who) (moving up count)
work_of w (Turns count) = turning count count
work_of w Drain = draining
work_of w (Show reader app) = with_conn (conn_of w.ends (Reader reader)) (λ conn. doing (shows conn app))

-- A turn: the first up link that waits, in order of joining, and else the first down link of an end that is here
abbrev pub up_turn : ℕ → Standing → List Said → Option Cause
up_turn conn here (said ∷ rest) = Some (routes conn)
up_turn conn stopped link = Some (unjoins conn)
up_turn conn standing link = None

abbrev pub down_turn : ℕ → Standing → List Letter → Option Cause
down_turn conn here (letter ∷ rest) = Some (gets conn)
down_turn conn standing link = None

abbrev pub first_up : ℕ → List End → Option Cause
first_up conn [] = None
first_up conn (e ∷ es) = first_of (up_turn conn e.standing e.up) (first_up (suc conn) es)

abbrev pub first_down : ℕ → List End → Option Cause
first_down conn [] = None
first_down conn (e ∷ es) = first_of (down_turn conn e.standing e.down) (first_down (suc conn) es)

abbrev pub next_turn : World → Option Cause
next_turn w = first_of (first_up 0 w.ends) (first_down 0 w.ends)

-- What is next of a line: a cause, in the world with the bytes moved so far, and what is left behind it; or the line is
-- done
pub data Next : Type 0 where
  cause : Cause → World → Work → Next
  rests : World → Next

-- bytes of a message that do not complete it
abbrev pub moved_up : World → ℕ → ℕ → World
moved_up w conn count = record w { ends = with_end conn (λ e. record e { up_moved = e.up_moved + count }) w.ends }

abbrev pub moved_down : World → ℕ → ℕ → World
moved_down w conn count = record w {
  bus = without_bytes conn count w.bus;
  ends = with_end conn (λ e. record e { down_moved = e.down_moved + count }) w.ends;
}

-- so many bytes of an up link: they complete its first message, or they do not; any also move an end that waits
abbrev pub next_up : World → ℕ → ℕ → Standing → ℕ → List Said → Next
next_up w conn count here moved (said ∷ rest) =
    if nat_le (missing said.message moved) count
    then cause (routes conn) w (moving_up conn (count - missing said.message moved))
    else rests (moved_up w conn count)
next_up w conn (suc count) stopped moved link = cause (unjoins conn) w resting
next_up w conn count standing moved link = rests w

abbrev pub next_down : World → ℕ → ℕ → Standing → ℕ → List Letter → Next
next_down w conn count here moved (letter ∷ rest) =
    if nat_le (missing letter.said.message moved) count
    then cause (gets conn) w (moving_down conn (count - missing letter.said.message moved))
    else rests (moved_down w conn count)
next_down w conn count standing moved link = rests w

abbrev pub of_end : World → Option End → (End → Next) → Next
of_end w None next = rests w
of_end w (Some e) next = next e

-- turns while something waits, at most so many; behind the last, where something waits still, that is told
abbrev pub next_of_turns : World → ℕ → ℕ → Option Cause → Next
next_of_turns w count left None = rests w
next_of_turns w count zero (Some c) = cause (tells_busy count) w resting
next_of_turns w count (suc left) (Some c) = cause c w (turning count left)

abbrev pub next_of_drain : World → Option Cause → Next
next_of_drain w None = cause tells_quiet w resting
next_of_drain w (Some c) = cause c w draining

abbrev pub next_of : World → Work → Next
next_of w resting = rests w
next_of w (doing c) = cause c w resting
next_of w (moving_up conn count) = of_end w (end_at w.ends conn) (λ e. next_up w conn count e.standing e.up_moved e.up)
next_of w (moving_down conn count) =
    of_end w (end_at w.ends conn) (λ e. next_down w conn count e.standing e.down_moved e.down)
next_of w (turning count left) = next_of_turns w count left (next_turn w)
next_of w draining = next_of_drain w (next_turn w)
