-- THE LAWS OF BUSY AND QUIET AND OF SEGMENTS, which every lawful trace of a script keeps in a run that keeps the laws of
-- `atspi_headline_laws` and of `atspi_headline_links`.
use Rattle.std.specs.Prelude.{◌≡◌, ◌≤◌, ℕ, Bool, true, false, not, List, [], ◌∷◌, ◌++◌, length, filter}
use Rattle.atspi_script_lines.specs.declared.line.Line.{Line}
use Rattle.atspi_script_lines.specs.declared.line.Line.TheVariants.{Bytes, Turns, Drain}
use Rattle.atspi_script_lines.specs.declared.line.Party.{Party}
use Rattle.atspi_headline.specs.Words.{Act, begins_line, moves_bytes, takes_end, is_move, wording, writes_a}
use Rattle.atspi_headline.specs.Words.{Everywhere, Unless, segment}
use Rattle.atspi_headline.specs.Headline.{word_due, TurnsAreMade, AllFollow, LawOfSegments, LawOfQuiet}
use Rattle.atspi_headline_links.specs.Laws as links

-- Where a line ends its acts end with the word that is due, and it made its turns; where nothing waits each live
-- reader holds each live application as it is now. So it is for one answer whether something waits; the law of busy and
-- quiet says beside this that it is the answer that the links give (`next_turn`).
pub record EndsTold (before : List Act) (line : Line) (acts : List Act) : Type 0 where
  pub waits : Bool
  pub told : acts ≡ filter (λ act. not (writes_a wording act)) acts ++ word_due line waits
  pub made : TurnsAreMade line (length (filter is_move acts)) waits
  pub settled : Unless waits (AllFollow (before ++ acts))

abbrev pub LineEndsTold : List Act → Act → List Act → Type 0
LineEndsTold before (begins_line line) behind = EndsTold (before ++ begins_line line ∷ []) line (segment behind)
LineEndsTold before act behind = Unit {0}

abbrev pub LinesEndTold : List Act → Type 0
LinesEndTold run = Everywhere LineEndsTold run

-- Of the law of segments: a line `bytes` makes one move, of the link that it names, of so many bytes at most, or of the
-- end of one that stopped; `turns` and `drain` make turns, and behind no other line anything is moved.
abbrev pub IsOfLink : Party → Bool → ℕ → Act → Type 0
IsOfLink who up count (moves_bytes other way n) = (other ≡ who) × (way ≡ up) × (n ≤ count)
IsOfLink who up count (takes_end other) = (other ≡ who) × (up ≡ true)
IsOfLink who up count act = ⊥

abbrev pub MovedAs : (Party → Bool → ℕ → Act → Type 0) → Line → List Act → Type 0
MovedAs Move (Bytes who up count) acts = (act : Act) × (filter is_move acts ≡ act ∷ []) × Move who up count act
MovedAs Move (Turns count) acts = Unit {0}
MovedAs Move Drain acts = Unit {0}
MovedAs Move line acts = filter is_move acts ≡ []

abbrev pub LineMovesTold : List Act → Act → List Act → Type 0
LineMovesTold before (begins_line line) behind = MovedAs IsOfLink line (segment behind)
LineMovesTold before act behind = Unit {0}

abbrev pub LinesMoveTold : List Act → Type 0
LinesMoveTold run = Everywhere LineMovesTold run

-- ALL THAT IS PROVED, of one run: beside the laws of `atspi_headline_laws` and that of bus and links the law of
-- segments and that of busy and quiet, whole
pub record LawsKept (run : List Act) : Type 0 where
  pub before : links.LawsKept run
  pub segments : LawOfSegments false run
  pub at_quiet : LawOfQuiet false run
