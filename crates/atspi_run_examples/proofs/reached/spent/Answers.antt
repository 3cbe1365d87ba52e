use Rattle.std.proofs.Common.{◌≡◌, ◌⊎◌, inl, inr, List, true, false, [], ◌∷◌, refl, ap, ◌∙◌, arith}
use Rattle.std.specs.Prelude.{Bool, Option, None, Some, codes}
use Rattle.atspi_script_lines.specs.declared.deed.Deed.TheVariants.{SetCaret}
use Rattle.atspi_script_lines.specs.declared.line.Party.TheVariants.{Reader}
use Rattle.atspi_protocol.specs.following.ReaderState.{begins}
use Rattle.atspi_protocol.specs.following.Takes.{reader_calls}
use Rattle.atspi_match.specs.routing.Queues.{Bus}
use Rattle.atspi_trace.specs.Ends.{end_at, is_here}
use Rattle.atspi_trace.specs.Entry.{Entry, sent}
use Rattle.atspi_trace.specs.Work.{doing}
use Rattle.atspi_trace.specs.World.{End, World}
use Rattle.atspi_trace.specs.play.Breaking.{IsSpent, does_next}
use Rattle.atspi_trace.specs.play.Playing.{Happened, silent}
use Rattle.atspi_trace.specs.play.Plays.{plays}
use Rattle.atspi_run_replay.specs.declared.naming.Halt.TheVariants.{Spent}
use Rattle.atspi_run_examples.specs.Small.{Reaches, call_message, call_waits, last_call, playing, reader_stopped, two_ends}
use Rattle.atspi_run_examples.proofs.CauseByCause.{first, next_is}
use Rattle.atspi_run_examples.proofs.reached.spent.Goals as goal

-- the reader's next serial is past the last behind that call
past : (b : Bus) → IsSpent (plays (playing b) last_call).now
past b = inr (inr (0, silent (reader_calls (record begins { to_come = []; next = 4294967296 }) (codes ":1.2") 1 (SetCaret 2)), refl, omega arith))

pub returns-clause-before : goal.returns-clause-before
returns-clause-before c = λ b. (record { at = first last_call b; spent = past b; part = []; missing = sent (Reader 0) call_message ∷ []; front = refl; wrote = refl }, inl refl)

pub returns-clause-behind : goal.returns-clause-behind
returns-clause-behind c = λ b. (record { at = first last_call b; spent = past b; part = []; missing = sent (Reader 0) call_message ∷ []; front = refl; wrote = refl }, inr refl)

pub returns-clause-told : goal.returns-clause-told
returns-clause-told c = λ b. (record { at = first last_call b; spent = past b; part = sent (Reader 0) call_message ∷ []; missing = []; front = refl; wrote = refl }, inr refl)

one_of_two : (b : Bus) (entries : List Entry) (w : World) → Reaches Spent (playing b) (doing last_call) entries w → (w ≡ two_ends b) ⊎ (w ≡ call_waits b)
one_of_two b entries w r = by r.1
  where
    by : (w ≡ r.0.at.moved) ⊎ (w ≡ (does_next r.0.at).now.world) → (w ≡ two_ends b) ⊎ (w ≡ call_waits b)
    by (inl e) = inl (e ∙ (next_is last_call b r.0.at).0)
    by (inr e) = inr (e ∙ ap (λ (h : Happened). h.now.world) (next_is last_call b r.0.at).1)

pub returns-clause-no_other : goal.returns-clause-no_other
returns-clause-no_other c = one_of_two

-- whether the reader is there
abbrev there : Option End → Bool
there None = false
there (Some e) = is_here e.standing

abbrev reader_there : World → Bool
reader_there w = there (end_at w.ends 1)

neither : (b : Bus) → (reader_stopped b ≡ two_ends b) ⊎ (reader_stopped b ≡ call_waits b) → ⊥
neither b (inl e) = let clash : false ≡ true = ap reader_there e in absurd cc
neither b (inr e) = let clash : false ≡ true = ap reader_there e in absurd cc

pub returns-clause-not_stopped : goal.returns-clause-not_stopped
returns-clause-not_stopped c = λ b entries r. neither b (one_of_two b entries (reader_stopped b) r)
