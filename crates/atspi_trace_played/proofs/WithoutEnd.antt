-- Before a serial is spent no 2^42 turns are made.
use Rattle.std.proofs.Common.{◌≡◌, ℕ, ◌+◌, ◌<◌, ◌≤◌, List, ◌++◌, arith}
use Rattle.std.specs.List.{AllByRecursion}
use Rattle.atspi_script_lines.specs.declared.line.Line.{Line}
use Rattle.atspi_trace.specs.Entry.{Entry}
use Rattle.atspi_trace.specs.Due.{begins, Goes, after_all}
use Rattle.atspi_trace_laws.specs.order.Scripts.{CanAllStand}
use Rattle.atspi_trace_played.specs.Turns.{count_taken, IsUnspent, Makes}
use Rattle.atspi_trace_played.proofs.LawFew.{turns_are_few}
use Rattle.atspi_trace_played.proofs.TurnsTaken.{count_more, turns_take}

pub no_turns_without_end : (lines : List Line) (trace : List Entry) → CanAllStand lines → Goes (begins lines) trace → (n : ℕ) (es : List Entry) → Makes n (after_all (begins lines) trace).world es
    → Goes (begins lines) (trace ++ es) → AllByRecursion IsUnspent (trace ++ es) → n < 4398046511104
no_turns_without_end lines trace a g n es m whole u =
    below n (count_taken es) (count_taken trace) (count_taken (trace ++ es)) (turns_take lines trace a g n es m) (count_more trace es) (turns_are_few lines (trace ++ es) a whole u)
  where
    below : (n c b s : ℕ) → n ≤ c + 21 → s ≡ b + c → s ≤ 2078764171264 → n < 4398046511104
    below n c b s h i j = omega (arith, h, i, j)
