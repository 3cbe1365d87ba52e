-- From what was read to what a status says.
use Rattle.std.proofs.Common.{◌≤◌, Err, length, ℕ, false, List, [], Option, None, Some, arith, refl, inl, inr}
use Rattle.atspi_run_input.specs.Lines.{lines_read, lines_of, whole_lines}
use Rattle.atspi_run_input.specs.Causes.{Causes}
use Rattle.atspi_run_input.specs.Reading.{HasRead, OfReading, end_status, is_whole}
use Rattle.atspi_run_input.specs.declared.input.End.{End}
use Rattle.atspi_run_input.specs.declared.input.End.TheVariants.{Whole, TooLong, Failed}
use Rattle.atspi_run_input.proofs.ReadLemmas.{caused_sooner, of_all, of_front, of_limit, of_reading}
use Rattle.atspi_run_hit.specs.declared.naming.Stop.{Stop}
use Rattle.atspi_run_hit.specs.declared.naming.Stop.TheVariants.{Refused, Write, NoMemory}
use Rattle.atspi_run_hit.specs.Run.{HitDone, Wrote, WrotePart, WroteRefused}
use Rattle.atspi_run_hit.specs.inner.Writes.{BlamesStop, IfRefused, stop_status}
use Rattle.atspi_run_hit.proofs.Course.{wrote_nothing}

-- nothing was written yet
of_nothing : (left w : Option (List ℕ)) → OfReading 16777216 left (λ lines. WrotePart lines w w)
of_nothing None w = tt
of_nothing (Some input) w = (false, [], record { rest = input; front = refl; whole = λ e. cc; within = omega arith }, wrote_nothing (lines_read false []) w)

-- what each status says
done_whole : (left left' w w' : Option (List ℕ)) (text : List ℕ) → HasRead Whole left left' text → length text ≤ 16777216 → Wrote (lines_of text) w w' → HitDone 16777216 0 left left' w w'
done_whole left left' w w' text h l p = record {
  known = inl refl;
  ended = λ e. h.1;
  done = λ e. of_all 16777216 left left' text (λ lines. Wrote lines w w') h l p;
  refused = λ e. absurd (omega (arith, e));
  read = λ e. absurd (omega (arith, e));
  past = λ e. absurd (omega (arith, e));
  write = λ e. absurd (omega (arith, e));
  memory = λ e. absurd (omega (arith, e));
}

done_refused : (end : End) (left left' w w' : Option (List ℕ)) (text : List ℕ) → HasRead end left left' text → length text ≤ 16777216 → WroteRefused (lines_read (is_whole end) text) w w' → HitDone 16777216 1 left left' w w'
done_refused end left left' w w' text h l p = record {
  known = inr (inl refl);
  ended = λ e. absurd (omega (arith, e));
  done = λ e. absurd (omega (arith, e));
  refused = λ e. of_reading 16777216 end left left' text (λ lines. WroteRefused lines w w') h l p;
  read = λ e. absurd (omega (arith, e));
  past = λ e. absurd (omega (arith, e));
  write = λ e. absurd (omega (arith, e));
  memory = λ e. absurd (omega (arith, e));
}

done_failed : (left left' w w' : Option (List ℕ)) (text : List ℕ) → HasRead Failed left left' text → length text ≤ 16777216 → Wrote (whole_lines text) w w' → HitDone 16777216 3 left left' w w'
done_failed left left' w w' text h l p = record {
  known = inr (inr (inl refl));
  ended = λ e. absurd (omega (arith, e));
  done = λ e. absurd (omega (arith, e));
  refused = λ e. absurd (omega (arith, e));
  read = λ e. of_front 16777216 left left' text (λ lines. Wrote lines w w') h l p;
  past = λ e. absurd (omega (arith, e));
  write = λ e. absurd (omega (arith, e));
  memory = λ e. absurd (omega (arith, e));
}

done_write : (end : End) (left left' w w' : Option (List ℕ)) (text : List ℕ) → HasRead end left left' text → length text ≤ 16777216 → WrotePart (lines_read (is_whole end) text) w w' → HitDone 16777216 4 left left' w w'
done_write end left left' w w' text h l p = record {
  known = inr (inr (inr (inl refl)));
  ended = λ e. absurd (omega (arith, e));
  done = λ e. absurd (omega (arith, e));
  refused = λ e. absurd (omega (arith, e));
  read = λ e. absurd (omega (arith, e));
  past = λ e. absurd (omega (arith, e));
  write = λ e. of_reading 16777216 end left left' text (λ lines. WrotePart lines w w') h l p;
  memory = λ e. absurd (omega (arith, e));
}

-- want of memory, with this much written
no_memory : (left left' w w' : Option (List ℕ)) → OfReading 16777216 left (λ lines. WrotePart lines w w') → HitDone 16777216 5 left left' w w'
no_memory left left' w w' part = record {
  known = inr (inr (inr (inr (inl refl))));
  ended = λ e. absurd (omega (arith, e));
  done = λ e. absurd (omega (arith, e));
  refused = λ e. absurd (omega (arith, e));
  read = λ e. absurd (omega (arith, e));
  past = λ e. absurd (omega (arith, e));
  write = λ e. absurd (omega (arith, e));
  memory = λ e. part;
}

pub done_nothing : (left left' w : Option (List ℕ)) → HitDone 16777216 5 left left' w w
done_nothing left left' w = no_memory left left' w w (of_nothing left w)

done_memory : (end : End) (left left' w w' : Option (List ℕ)) (text : List ℕ) → HasRead end left left' text → length text ≤ 16777216 → WrotePart (lines_read (is_whole end) text) w w' → HitDone 16777216 5 left left' w w'
done_memory end left left' w w' text h l p = no_memory left left' w w' (of_reading 16777216 end left left' text (λ lines. WrotePart lines w w') h l p)

done_long : (left left' w w' : Option (List ℕ)) (text : List ℕ) → HasRead TooLong left left' text → Wrote (whole_lines text) w w' → HitDone 16777216 8 left left' w w'
done_long left left' w w' text h p = record {
  known = inr (inr (inr (inr (inr refl))));
  ended = λ e. absurd (omega (arith, e));
  done = λ e. absurd (omega (arith, e));
  refused = λ e. absurd (omega (arith, e));
  read = λ e. absurd (omega (arith, e));
  past = λ e. of_limit left left' text (λ lines. Wrote lines w w') h p;
  write = λ e. absurd (omega (arith, e));
  memory = λ e. absurd (omega (arith, e));
}

-- by how the reading ended
pub done_end : (end : End) (left left' w w' : Option (List ℕ)) (text : List ℕ) → HasRead end left left' text → length text ≤ 16777216 → Wrote (lines_read (is_whole end) text) w w' → HitDone 16777216 (end_status end) left left' w w'
done_end Whole left left' w w' text h l p = done_whole left left' w w' text h l p
done_end TooLong left left' w w' text h l p = done_long left left' w w' text h p
done_end Failed left left' w w' text h l p = done_failed left left' w w' text h l p

-- by why the run stopped
pub done_stop : (T : Type 0) (end : End) (stop : Stop) (left left' w w' : Option (List ℕ)) (text : List ℕ) → HasRead end left left' text → length text ≤ 16777216 → IfRefused {T = T} (Err stop) (λ why. WroteRefused (lines_read (is_whole end) text) w w')
    → WrotePart (lines_read (is_whole end) text) w w' → HitDone 16777216 (stop_status stop) left left' w w'
done_stop T end (Refused why) left left' w w' text h l refused part = done_refused end left left' w w' text h l refused
done_stop T end Write left left' w w' text h l refused part = done_write end left left' w w' text h l part
done_stop T end NoMemory left left' w w' text h l refused part = done_memory end left left' w w' text h l part

-- which counts changed
pub caused_stop : (stop : Stop) (source source' sink sink' : ℕ) → source ≤ source' → BlamesStop sink sink' stop → Causes (stop_status stop) source source' sink sink'
caused_stop (Refused why) source source' sink sink' later same = caused_sooner 1 source source' sink sink' later same (λ e. absurd (omega (arith, e))) (λ e. absurd (omega (arith, e))) (inl refl)
caused_stop NoMemory source source' sink sink' later same = caused_sooner 5 source source' sink sink' later same (λ e. absurd (omega (arith, e))) (λ e. absurd (omega (arith, e))) (inr (inl refl))
caused_stop Write source source' sink sink' later rose = record {
  source_later = later;
  sink_later = rose.0;
  read = λ e. absurd (omega (arith, e));
  write = λ e. rose.1;
  sink_first = inl refl;
  source_next = inr (inl refl);
}
