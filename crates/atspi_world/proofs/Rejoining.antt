-- What a line told apart, behind what was told before it.
use Rattle.std.proofs.Common.{◌≡◌, ◌⊎◌, inl, inr, List, [], ◌++◌, Err, refl, sym, ap, ◌∙◌, subst, append-nil}
use Rattle.std.specs.Prelude.{Result, Ok}
use Rattle.atspi_script_lines.specs.declared.line.Line.{Line}
use Rattle.atspi_trace_events.specs.declared.event.Event.{Event}
use Rattle.atspi_trace.specs.World.{World}
use Rattle.atspi_trace.specs.Work as work
use Rattle.atspi_trace.specs.Work.{Work, work_of}
use Rattle.atspi_trace.specs.play.Playing.{Playing}
use Rattle.atspi_world_moves.specs.inner.GivenUp.{UnlessGivenUp}
use Rattle.atspi_world_moves.proofs.Rejoining.{entries_on}
use Rattle.atspi_world.specs.Halts.{IsLineLost, IsLineSpent, LineLost, LineSpent, ManyTurns, WorkLost, WorkSpent}
use Rattle.atspi_world.specs.Lines.{IsSegment, LineDone}
use Rattle.atspi_world.specs.Refusals.{Refuses}
use Rattle.atspi_world.specs.Stage.{gives_line_up, UnlessHalted}
use Rattle.atspi_world.specs.Worlds.{Staged, IsPlaying, IsWorld}
use Rattle.atspi_world.specs.declared.fault.ActFault.{ActFault}
use Rattle.atspi_world.specs.declared.fault.ActFault.TheVariants.{Refused, Spent, RegistryLost, Unsendable, NoMemory}

-- a line that was told is the line that was done
module _ {A : Type 0} where
  pub told_halted : (H P : Type 0) (r d : Result A ActFault) → UnlessGivenUp gives_line_up r ((r ≡ d) × H) → UnlessHalted d P → UnlessHalted r P
  told_halted H P (Ok x) d told holds = subst (λ (y : Result A ActFault). UnlessHalted y P) (sym told.0) holds
  told_halted H P (Err (Refused why)) d told holds = subst (λ (y : Result A ActFault). UnlessHalted y P) (sym (told refl).0) holds
  told_halted H P (Err Spent) d told holds = tt
  told_halted H P (Err RegistryLost) d told holds = tt
  told_halted H P (Err Unsendable) d told holds = tt
  told_halted H P (Err NoMemory) d told holds = tt

  pub told_refuses : (H : Type 0) (r d : Result A ActFault) (due : work.Refusal) → UnlessGivenUp gives_line_up r ((r ≡ d) × H) → Refuses d due → Refuses r due
  told_refuses H (Ok x) d due told refuses = subst (λ (y : Result A ActFault). Refuses y due) (sym told.0) refuses
  told_refuses H (Err (Refused why)) d due told refuses = subst (λ (y : Result A ActFault). Refuses y due) (sym (told refl).0) refuses
  told_refuses H (Err Spent) d due told refuses = tt
  told_refuses H (Err RegistryLost) d due told refuses = tt
  told_refuses H (Err Unsendable) d due told refuses = tt
  told_refuses H (Err NoMemory) d due told refuses = tt

-- a world does not see what was told
world_on : (w : World) (s : Staged) (t : List Event) → IsWorld w s → IsWorld w (record s { trace = t })
world_on w s t is = record {
  carried = is.carried;
  linked = is.linked;
  apart = is.apart;
  registry_plays = is.registry_plays;
  apps_play = is.apps_play;
  readers_play = is.readers_play;
  apps_are = is.apps_are;
  readers_are = is.readers_are;
  first = is.first;
  lives = is.lives;
  kits_are = is.kits_are;
  spares_are = is.spares_are;
  unused = is.unused;
}

pub playing_on : (p : Playing) (s : Staged) (t : List Event) → IsPlaying p s → IsPlaying p (record s { trace = t })
playing_on p s t is = record { is = world_on p.world s t is.is; readers = is.readers }

-- a line that was done behind an empty trace, told behind the trace of the world that it was done in
module _ (line : Line) (s d : Staged) (apart new : List Event) (none : apart ≡ []) (behind : new ≡ s.trace ++ d.trace) where
  segment_on : (p : Playing) (left : Work) → IsSegment p left (record s { trace = apart }) d → IsSegment p left s (record d { trace = new })
  segment_on p left seg = record {
    after = seg.after;
    entries = seg.entries;
    plays = seg.plays;
    is = playing_on seg.after d new seg.is;
    wrote = entries_on s.trace apart d.trace new seg.entries none behind seg.wrote;
  }

  pub line_done_on : LineDone line (record s { trace = apart }) d → LineDone line s (record d { trace = new })
  line_done_on done = λ p is. let did = done p (playing_on p s apart is) in record { not_refused = did.not_refused; done = segment_on p (work_of p.world line) did.done }

  work_lost_on : (p : Playing) (left : Work) → WorkLost p left (record s { trace = apart }) d → WorkLost p left s (record d { trace = new })
  work_lost_on p left (entries, broke, wrote, names) = (entries, broke, entries_on s.trace apart d.trace new entries none behind wrote, names)

  work_spent_on : (p : Playing) (left : Work) → WorkSpent p left (record s { trace = apart }) d → WorkSpent p left s (record d { trace = new })
  work_spent_on p left (entries, broke, wrote, names) = (entries, broke, entries_on s.trace apart d.trace new entries none behind wrote, names)

  turns_on : (p : Playing) → ManyTurns p (record s { trace = apart }) d → ManyTurns p s (record d { trace = new })
  turns_on p (entries, q, turns, lives, wrote) = (entries, q, turns, lives, entries_on s.trace apart d.trace new entries none behind wrote)

  line_lost_by : (p : Playing) → IsLineLost p line (record s { trace = apart }) d → IsLineLost p line s (record d { trace = new })
  line_lost_by p (free, lost) = (free, work_lost_on p (work_of p.world line) lost)

  pub line_lost_on : LineLost line (record s { trace = apart }) d → LineLost line s (record d { trace = new })
  line_lost_on lost = λ p is. line_lost_by p (lost p (playing_on p s apart is))

  spent_or_turned : (p : Playing) (left : Work) → WorkSpent p left (record s { trace = apart }) d ⊎ ManyTurns p (record s { trace = apart }) d → WorkSpent p left s (record d { trace = new }) ⊎ ManyTurns p s (record d { trace = new })
  spent_or_turned p left (inl spent) = inl (work_spent_on p left spent)
  spent_or_turned p left (inr turns) = inr (turns_on p turns)

  line_spent_by : (p : Playing) → IsLineSpent p line (record s { trace = apart }) d → IsLineSpent p line s (record d { trace = new })
  line_spent_by p (free, spent) = (free, spent_or_turned p (work_of p.world line) spent)

  pub line_spent_on : LineSpent line (record s { trace = apart }) d → LineSpent line s (record d { trace = new })
  line_spent_on spent = λ p is. line_spent_by p (spent p (playing_on p s apart is))

  -- of a line that was refused nothing is told
  pub nothing_on : d ≡ record s { trace = apart } → record d { trace = new } ≡ s
  nothing_on same =
      ap (λ (x : Staged). record x { trace = new }) same
      ∙ ap (λ (t : List Event). record s { trace = t }) (behind ∙ ap (λ l. s.trace ++ l) (ap (λ (x : Staged). x.trace) same ∙ none) ∙ append-nil s.trace)
