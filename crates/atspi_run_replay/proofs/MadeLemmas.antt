-- What `make` does, by its status.
use Rattle.std.proofs.Common.{ℕ, Option, List, refl, arith, inl, inr}
use Rattle.std.specs.Io.KnownBytes.{Appends}
use Rattle.atspi_base.specs.Outside.{AppendsPart}
use Rattle.atspi_run_replay.specs.declared.naming.Halt.TheVariants.{RegistryLost, Spent}
use Rattle.atspi_run_replay.specs.declared.naming.Stop.{Stop}
use Rattle.atspi_run_replay.specs.declared.naming.Stop.TheVariants.{Refused, Halted, Write, NoMemory}
use Rattle.atspi_run_replay.specs.Made.{AreOfScript, Made, made_text}
use Rattle.atspi_run_replay.specs.inner.Made.{ScriptStops}
use Rattle.atspi_run_replay.specs.inner.Play.{BlamesStop}
use Rattle.atspi_run_replay.specs.inner.Run.{stop_status}
use Rattle.atspi_run_replay.proofs.DoneLemmas.{appends_nothing}

pub made_done : (count seed steps nodes says : ℕ) (w w' : Option (List ℕ)) → AreOfScript count seed steps nodes says → Appends w w' (made_text count seed steps nodes says) → Made count seed 0 w w'
made_done count seed steps nodes says w w' t a = record {
  known = inl refl;
  done = λ e. (steps, nodes, says, t, a);
  write = λ e. absurd (omega (arith, e));
  refused = λ e. absurd (omega (arith, e));
  lost = λ e. absurd (omega (arith, e));
  spent = λ e. absurd (omega (arith, e));
  nothing = λ no cut. absurd (no refl);
}

pub made_write : (count seed steps nodes says : ℕ) (w w' : Option (List ℕ)) → AreOfScript count seed steps nodes says → AppendsPart w w' (made_text count seed steps nodes says) → Made count seed 4 w w'
made_write count seed steps nodes says w w' t a = record {
  known = inr (inl refl);
  done = λ e. absurd (omega (arith, e));
  write = λ e. (steps, nodes, says, t, a);
  refused = λ e. absurd (omega (arith, e));
  lost = λ e. absurd (omega (arith, e));
  spent = λ e. absurd (omega (arith, e));
  nothing = λ no cut. absurd (cut refl);
}

-- A SCRIPT THAT STOPS: nothing was written, and the status is that of its cause
pub made_stop : (count seed : ℕ) (stop : Stop) (w : Option (List ℕ)) → ScriptStops count seed stop → Made count seed (stop_status stop) w w
made_stop count seed (Refused why) w because = record {
  known = inr (inr (inl refl));
  done = λ e. absurd (omega (arith, e));
  write = λ e. absurd (omega (arith, e));
  refused = λ e. because;
  lost = λ e. absurd (omega (arith, e));
  spent = λ e. absurd (omega (arith, e));
  nothing = λ no cut. appends_nothing w;
}
made_stop count seed NoMemory w because = record {
  known = inr (inr (inr (inl refl)));
  done = λ e. absurd (omega (arith, e));
  write = λ e. absurd (omega (arith, e));
  refused = λ e. absurd (omega (arith, e));
  lost = λ e. absurd (omega (arith, e));
  spent = λ e. absurd (omega (arith, e));
  nothing = λ no cut. appends_nothing w;
}
made_stop count seed (Halted RegistryLost) w because = record {
  known = inr (inr (inr (inr (inl refl))));
  done = λ e. absurd (omega (arith, e));
  write = λ e. absurd (omega (arith, e));
  refused = λ e. absurd (omega (arith, e));
  lost = λ e. because;
  spent = λ e. absurd (omega (arith, e));
  nothing = λ no cut. appends_nothing w;
}
made_stop count seed (Halted Spent) w because = record {
  known = inr (inr (inr (inr (inr refl))));
  done = λ e. absurd (omega (arith, e));
  write = λ e. absurd (omega (arith, e));
  refused = λ e. absurd (omega (arith, e));
  lost = λ e. absurd (omega (arith, e));
  spent = λ e. because;
  nothing = λ no cut. appends_nothing w;
}
made_stop count seed Write w because = absurd because

-- the sink has no part in it
pub stop_blames : (count seed sink : ℕ) (stop : Stop) → ScriptStops count seed stop → BlamesStop sink sink stop
stop_blames count seed sink (Refused why) because = refl
stop_blames count seed sink (Halted why) because = refl
stop_blames count seed sink NoMemory because = refl
stop_blames count seed sink Write because = absurd because
