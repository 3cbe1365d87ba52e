-- HOW A RUN CAME ABOUT: the acts of a run, one behind the other, with the world of `atspi_trace` that each leads to. It is in this form that laws
-- are proved of runs; nothing here has to be believed.
use Rattle.std.specs.Prelude.{◌≡◌, ℕ, zero, suc, true, false, ◌+◌, ◌-◌, min, List, [], ◌∷◌, ◌++◌, map, Option, None, Some}
use Rattle.atspi_message.specs.Envelope.{Envelope}
use Rattle.atspi_script_lines.specs.declared.limits.TheConstants.{QUOTA_MOST}
use Rattle.atspi_script_lines.specs.declared.line.Line.{Line}
use Rattle.atspi_script_lines.specs.declared.line.Party.TheVariants.{Reader}
use Rattle.atspi_protocol.specs.declared.following.question.Question.{Question}
use Rattle.atspi_trace.specs.Entry.{sent}
use Rattle.atspi_trace.specs.World.{Standing, here, stopped, away, Said, Letter, End, World, first_world}
use Rattle.atspi_trace.specs.Ends.{party_at, end_at}
use Rattle.atspi_trace.specs.Causes.{Cause, routes, unjoins, gets, missing, does, at_end}
use Rattle.atspi_trace.specs.Work.{refused, Work, resting, doing, moving_up, moving_down, turning, draining, work_of, cause, rests, next_of}
use Rattle.atspi_trace.specs.Due.{freed, asks_at, RestsWell}
use Rattle.atspi_headline.specs.Words.{Act, begins_line, moves_bytes, takes_end, writes}
use Rattle.atspi_trace_laws.specs.order.Scripts.{CanStand}
use Rattle.atspi_trace_laws.proofs.OfOrder.Allowed.{Allowed, Moves, Asks, IsBare}

-- the bytes of the messages on a link
abbrev pub said_bytes : List Said → ℕ
said_bytes [] = 0
said_bytes (said ∷ rest) = missing said.message 0 + said_bytes rest

abbrev pub letter_bytes : List Letter → ℕ
letter_bytes [] = 0
letter_bytes (letter ∷ rest) = missing letter.said.message 0 + letter_bytes rest

-- A TURN moves what is missing of the first message of a link, or an end that stopped
abbrev pub first_missing : List Said → ℕ → ℕ
first_missing [] moved = 0
first_missing (said ∷ rest) moved = missing said.message moved

abbrev pub up_missing : Option End → ℕ
up_missing None = 0
up_missing (Some e) = first_missing e.up e.up_moved

abbrev pub next_missing : List Letter → ℕ → ℕ
next_missing [] moved = 0
next_missing (letter ∷ rest) moved = missing letter.said.message moved

abbrev pub down_missing : Option End → ℕ
down_missing None = 0
down_missing (Some e) = next_missing e.down e.down_moved

abbrev pub turn_move : World → Cause → List Act
turn_move w (routes conn) = moves_bytes (party_at w.ends conn) true (up_missing (end_at w.ends conn)) ∷ []
turn_move w (gets conn) = moves_bytes (party_at w.ends conn) false (down_missing (end_at w.ends conn)) ∷ []
turn_move w (unjoins conn) = takes_end (party_at w.ends conn) ∷ []
turn_move w c = []

-- what is moved for a cause of the line at work: of the bytes of a line `bytes` all are moved as it begins
abbrev pub stopped_move : World → Cause → List Act
stopped_move w (unjoins conn) = takes_end (party_at w.ends conn) ∷ []
stopped_move w c = []

abbrev pub moves_for : World → Work → Cause → List Act
moves_for w (turning count left) c = turn_move w c
moves_for w draining c = turn_move w c
moves_for w (moving_up conn count) c = stopped_move w c
moves_for w work c = []

-- A LINE `bytes` moves at most so many of the bytes that wait, all at once, or an end that stopped
abbrev pub up_move : ℕ → End → Standing → List Act
up_move count e here = moves_bytes e.who true (min count (said_bytes e.up - e.up_moved)) ∷ []
up_move zero e standing = moves_bytes e.who true 0 ∷ []
up_move (suc count) e stopped = []
up_move count e away = moves_bytes e.who true 0 ∷ []

abbrev pub down_move : ℕ → End → Standing → List Act
down_move count e here = moves_bytes e.who false (min count (letter_bytes e.down - e.down_moved)) ∷ []
down_move count e standing = moves_bytes e.who false 0 ∷ []

abbrev pub at_known : Option End → (End → List Act) → List Act
at_known None acts = []
at_known (Some e) acts = acts e

abbrev pub line_moves : World → Work → List Act
line_moves w (moving_up conn count) = at_known (end_at w.ends conn) (λ e. up_move count e e.standing)
line_moves w (moving_down conn count) = at_known (end_at w.ends conn) (λ e. down_move count e e.standing)
line_moves w work = []

-- THE RUN: between lines nothing is at work. A line begins and does its one cause, or begins to move bytes or to make turns; a cause of what is
-- left of it is done; it comes to rest, and all rests well; a reader that took a message sends a call of its own.
pub data Ran : List Act → World → Option ℕ → Option Work → Type 0 where
  nothing_yet : Ran [] (first_world QUOTA_MOST) None (Some resting)
  did : (run : List Act) (w : World) (line : Line) (c : Cause) → Ran run w None None → refused w line ≡ None → CanStand line
      → work_of w line ≡ doing c → Allowed w c
      → Ran (run ++ begins_line line ∷ map writes (does w c).entries) (does w c).world (freed c) (Some resting)
  began : (run : List Act) (w : World) (line : Line) → Ran run w None None → refused w line ≡ None → CanStand line → IsBare (work_of w line)
      → Ran (run ++ begins_line line ∷ line_moves w (work_of w line)) w None (Some (work_of w line))
  caused : (run : List Act) (w : World) (free : Option ℕ) (work left : Work) (c : Cause) → Ran run w free (Some work) → next_of w work ≡ cause c w left
      → IsBare work → Allowed w c
      → Ran (run ++ (moves_for w work c ++ map writes (does w c).entries)) (does w c).world (freed c) (Some left)
  rested : (run : List Act) (w v : World) (free : Option ℕ) (work : Work) → Ran run w free (Some work) → next_of w work ≡ rests v → Moves w v
      → RestsWell v → Ran run v None None
  asked : (run : List Act) (w : World) (conn r : ℕ) (m : Envelope) (question : Question) (work : Option Work) → Ran run w (Some conn) work
      → Asks w conn r m question → Ran (run ++ writes (sent (Reader r) m) ∷ []) (at_end w conn (asks_at m question)) None work
