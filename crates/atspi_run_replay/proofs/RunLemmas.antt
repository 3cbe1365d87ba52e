-- From what was read to what a status says.
use Rattle.std.proofs.Common.{◌≡◌, ◌≤◌, Err, length, subst, sym, ℕ, true, false, List, ◌++◌, Option, None, Some, ap, ◌∙◌, arith, refl, inl, inr, [], length-append, append-nil, append_assoc}
use Rattle.std.proofs.lemmas.List.{take_at}
use Rattle.std.specs.Io.KnownBytes.{Consumes}
use Rattle.atspi_run_replay.specs.Lines.{lines_read, lines_of, whole_lines}
use Rattle.atspi_run_replay.specs.Causes.{Causes, IsSooner}
use Rattle.atspi_run_replay.specs.inner.Input.{BlamesEnd, HasRead, is_whole}
use Rattle.atspi_run_replay.specs.declared.input.End.{End}
use Rattle.atspi_run_replay.specs.declared.input.End.TheVariants.{Whole, TooLong, Failed}
use Rattle.atspi_run_replay.specs.declared.naming.Halt.{Halt}
use Rattle.atspi_run_replay.specs.declared.naming.Halt.TheVariants.{RegistryLost, Spent}
use Rattle.atspi_run_replay.specs.declared.naming.Stop.{Stop}
use Rattle.atspi_run_replay.specs.declared.naming.Stop.TheVariants.{Refused, Halted, Write, NoMemory}
use Rattle.atspi_run_replay.specs.inner.Play.{BlamesStop, IfHalted, IfRefused}
use Rattle.atspi_run_replay.specs.Run.{OfAll, OfReading, OfFront, OfLimit, RunOver}
use Rattle.atspi_run_replay.specs.inner.Run.{end_status, stop_status}

of_limit : (left left' : Option (List ℕ)) (text : List ℕ) (P : List (List ℕ) → Type 0) → HasRead TooLong left left' text → P (whole_lines text) → OfLimit 16777216 left P
of_limit None left' text P h p = tt
of_limit (Some input) None text P h p = absurd h.1.2
of_limit (Some input) (Some rest) text P h p =
    let more = h.1.0 in
    let e : input ≡ text ++ (more ++ rest) = h.1.2 ∙ append_assoc text more rest in (
      rw e (omega (arith, h.0, h.1.1, length-append text (more ++ rest), length-append more rest)),
      rw (e, take_at text (more ++ rest) 16777216 h.0) p,
    )

of_all : (limit : ℕ) (left left' : Option (List ℕ)) (text : List ℕ) (P : List (List ℕ) → Type 0) → HasRead Whole left left' text → length text ≤ limit → P (lines_of text) → OfAll limit left P
of_all limit None left' text P h l p = tt
of_all limit (Some input) None text P h l p = absurd h.0
of_all limit (Some input) (Some rest) text P h l p =
    let e : input ≡ text = h.0 ∙ ap (λ r. text ++ r) h.1 ∙ append-nil text in
    (omega (arith, l, ap length e), subst (λ t. P (lines_of t)) (sym e) p)

of_front : (limit : ℕ) (left left' : Option (List ℕ)) (text : List ℕ) (P : List (List ℕ) → Type 0) → Consumes left left' text → length text ≤ limit → P (whole_lines text) → OfFront limit left left' P
of_front limit None left' text P h l p = tt
of_front limit (Some input) None text P h l p = absurd h
of_front limit (Some input) (Some rest) text P h l p = (text, l, h, p)

of_reading : (limit : ℕ) (end : End) (left left' : Option (List ℕ)) (text : List ℕ) (P : List (List ℕ) → Type 0) → HasRead end left left' text → length text ≤ limit → P (lines_read (is_whole end) text) → OfReading limit left P
of_reading limit end None left' text P h l p = tt
of_reading limit Whole (Some input) None text P h l p = absurd h.0
of_reading limit Whole (Some input) (Some rest) text P h l p =
    let e : input ≡ text = h.0 ∙ ap (λ r. text ++ r) h.1 ∙ append-nil text in
    (true, text, record { rest = rest; front = h.0; whole = λ _. e; within = l }, p)
of_reading limit TooLong (Some input) None text P h l p = absurd h.1.2
of_reading limit TooLong (Some input) (Some rest) text P h l p =
    (false, text, record { rest = h.1.0 ++ rest; front = h.1.2 ∙ append_assoc text h.1.0 rest; whole = λ e. cc; within = l }, p)
of_reading limit Failed (Some input) None text P h l p = absurd h
of_reading limit Failed (Some input) (Some rest) text P h l p = (false, text, record { rest = rest; front = h; whole = λ e. cc; within = l }, p)

-- WHAT IS SAID OF RUNS OVER LINES, whatever is said of the lines
module _ (Does Refuses Writes : List (List ℕ) → Type 0) (Halts : Halt → List (List ℕ) → Type 0) where
  -- nothing was read yet
  of_nothing : (limit : ℕ) (left : Option (List ℕ)) → ((lines : List (List ℕ)) → Writes lines) → OfReading limit left Writes
  of_nothing limit None nothing = tt
  of_nothing limit (Some input) nothing = (false, [], record { rest = input; front = refl; whole = λ e. cc; within = omega arith }, nothing (lines_read false []))

  -- what each status says

  pub replayed_whole : (left left' : Option (List ℕ)) (text : List ℕ) → HasRead Whole left left' text → length text ≤ 16777216 → Does (lines_of text) → RunOver Does Refuses Writes Halts 16777216 0 left left'
  replayed_whole left left' text h l p = record {
    known = inl refl;
    ended = λ e. h.1;
    done = λ e. of_all 16777216 left left' text Does h l p;
    refused = λ e. absurd (omega (arith, e));
    read = λ e. absurd (omega (arith, e));
    past = λ e. absurd (omega (arith, e));
    lost = λ e. absurd (omega (arith, e));
    spent = λ e. absurd (omega (arith, e));
    write = λ e. absurd (omega (arith, e));
    memory = λ e. absurd (omega (arith, e));
  }

  pub replayed_refused : (end : End) (left left' : Option (List ℕ)) (text : List ℕ) → HasRead end left left' text → length text ≤ 16777216 → Refuses (lines_read (is_whole end) text) → RunOver Does Refuses Writes Halts 16777216 1 left left'
  replayed_refused end left left' text h l p = record {
    known = inr (inl refl);
    ended = λ e. absurd (omega (arith, e));
    done = λ e. absurd (omega (arith, e));
    refused = λ e. of_reading 16777216 end left left' text Refuses h l p;
    read = λ e. absurd (omega (arith, e));
    past = λ e. absurd (omega (arith, e));
    lost = λ e. absurd (omega (arith, e));
    spent = λ e. absurd (omega (arith, e));
    write = λ e. absurd (omega (arith, e));
    memory = λ e. absurd (omega (arith, e));
  }

  pub replayed_failed : (left left' : Option (List ℕ)) (text : List ℕ) → HasRead Failed left left' text → length text ≤ 16777216 → Does (whole_lines text) → RunOver Does Refuses Writes Halts 16777216 3 left left'
  replayed_failed left left' text h l p = record {
    known = inr (inr (inl refl));
    ended = λ e. absurd (omega (arith, e));
    done = λ e. absurd (omega (arith, e));
    refused = λ e. absurd (omega (arith, e));
    read = λ e. of_front 16777216 left left' text Does h l p;
    past = λ e. absurd (omega (arith, e));
    lost = λ e. absurd (omega (arith, e));
    spent = λ e. absurd (omega (arith, e));
    write = λ e. absurd (omega (arith, e));
    memory = λ e. absurd (omega (arith, e));
  }

  pub replayed_write : (end : End) (left left' : Option (List ℕ)) (text : List ℕ) → HasRead end left left' text → length text ≤ 16777216 → Writes (lines_read (is_whole end) text) → RunOver Does Refuses Writes Halts 16777216 4 left left'
  replayed_write end left left' text h l p = record {
    known = inr (inr (inr (inl refl)));
    ended = λ e. absurd (omega (arith, e));
    done = λ e. absurd (omega (arith, e));
    refused = λ e. absurd (omega (arith, e));
    read = λ e. absurd (omega (arith, e));
    past = λ e. absurd (omega (arith, e));
    lost = λ e. absurd (omega (arith, e));
    spent = λ e. absurd (omega (arith, e));
    write = λ e. of_reading 16777216 end left left' text Writes h l p;
    memory = λ e. absurd (omega (arith, e));
  }

  -- want of memory, with this much written
  no_memory : (left left' : Option (List ℕ)) → OfReading 16777216 left Writes → RunOver Does Refuses Writes Halts 16777216 5 left left'
  no_memory left left' part = record {
    known = inr (inr (inr (inr (inl refl))));
    ended = λ e. absurd (omega (arith, e));
    done = λ e. absurd (omega (arith, e));
    refused = λ e. absurd (omega (arith, e));
    read = λ e. absurd (omega (arith, e));
    past = λ e. absurd (omega (arith, e));
    lost = λ e. absurd (omega (arith, e));
    spent = λ e. absurd (omega (arith, e));
    write = λ e. absurd (omega (arith, e));
    memory = λ e. part;
  }

  pub replayed_nothing : (left left' : Option (List ℕ)) → ((lines : List (List ℕ)) → Writes lines) → RunOver Does Refuses Writes Halts 16777216 5 left left'
  replayed_nothing left left' nothing = no_memory left left' (of_nothing 16777216 left nothing)

  pub replayed_memory : (end : End) (left left' : Option (List ℕ)) (text : List ℕ) → HasRead end left left' text → length text ≤ 16777216 → Writes (lines_read (is_whole end) text) → RunOver Does Refuses Writes Halts 16777216 5 left left'
  replayed_memory end left left' text h l p = no_memory left left' (of_reading 16777216 end left left' text Writes h l p)

  pub replayed_long : (left left' : Option (List ℕ)) (text : List ℕ) → HasRead TooLong left left' text → Does (whole_lines text) → RunOver Does Refuses Writes Halts 16777216 8 left left'
  replayed_long left left' text h p = record {
    known = inr (inr (inr (inr (inr (inl refl)))));
    ended = λ e. absurd (omega (arith, e));
    done = λ e. absurd (omega (arith, e));
    refused = λ e. absurd (omega (arith, e));
    read = λ e. absurd (omega (arith, e));
    past = λ e. of_limit left left' text Does h p;
    lost = λ e. absurd (omega (arith, e));
    spent = λ e. absurd (omega (arith, e));
    write = λ e. absurd (omega (arith, e));
    memory = λ e. absurd (omega (arith, e));
  }

  pub replayed_lost : (end : End) (left left' : Option (List ℕ)) (text : List ℕ) → HasRead end left left' text → length text ≤ 16777216 → Halts RegistryLost (lines_read (is_whole end) text) → RunOver Does Refuses Writes Halts 16777216 9 left left'
  replayed_lost end left left' text h l p = record {
    known = inr (inr (inr (inr (inr (inr (inl refl))))));
    ended = λ e. absurd (omega (arith, e));
    done = λ e. absurd (omega (arith, e));
    refused = λ e. absurd (omega (arith, e));
    read = λ e. absurd (omega (arith, e));
    past = λ e. absurd (omega (arith, e));
    lost = λ e. of_reading 16777216 end left left' text (Halts RegistryLost) h l p;
    spent = λ e. absurd (omega (arith, e));
    write = λ e. absurd (omega (arith, e));
    memory = λ e. absurd (omega (arith, e));
  }

  pub replayed_spent : (end : End) (left left' : Option (List ℕ)) (text : List ℕ) → HasRead end left left' text → length text ≤ 16777216 → Halts Spent (lines_read (is_whole end) text) → RunOver Does Refuses Writes Halts 16777216 13 left left'
  replayed_spent end left left' text h l p = record {
    known = inr (inr (inr (inr (inr (inr (inr refl))))));
    ended = λ e. absurd (omega (arith, e));
    done = λ e. absurd (omega (arith, e));
    refused = λ e. absurd (omega (arith, e));
    read = λ e. absurd (omega (arith, e));
    past = λ e. absurd (omega (arith, e));
    lost = λ e. absurd (omega (arith, e));
    spent = λ e. of_reading 16777216 end left left' text (Halts Spent) h l p;
    write = λ e. absurd (omega (arith, e));
    memory = λ e. absurd (omega (arith, e));
  }

  -- by how the reading ended
  pub replayed_end : (end : End) (left left' : Option (List ℕ)) (text : List ℕ) → HasRead end left left' text → length text ≤ 16777216 → Does (lines_read (is_whole end) text)
      → RunOver Does Refuses Writes Halts 16777216 (end_status end) left left'
  replayed_end Whole left left' text h l p = replayed_whole left left' text h l p
  replayed_end TooLong left left' text h l p = replayed_long left left' text h p
  replayed_end Failed left left' text h l p = replayed_failed left left' text h l p

  -- by why the run stopped
  pub replayed_stop : (T : Type 0) (end : End) (stop : Stop) (left left' : Option (List ℕ)) (text : List ℕ) → HasRead end left left' text → length text ≤ 16777216
      → IfHalted {T = T} (Err stop) (λ why. Halts why (lines_read (is_whole end) text)) → IfRefused {T = T} (Err stop) (λ why. Refuses (lines_read (is_whole end) text))
      → Writes (lines_read (is_whole end) text) → RunOver Does Refuses Writes Halts 16777216 (stop_status stop) left left'
  replayed_stop T end (Refused why) left left' text h l halted refused part = replayed_refused end left left' text h l refused
  replayed_stop T end (Halted RegistryLost) left left' text h l halted refused part = replayed_lost end left left' text h l halted
  replayed_stop T end (Halted Spent) left left' text h l halted refused part = replayed_spent end left left' text h l halted
  replayed_stop T end Write left left' text h l halted refused part = replayed_write end left left' text h l part
  replayed_stop T end NoMemory left left' text h l halted refused part = replayed_memory end left left' text h l part

-- which counts changed
pub caused_end : (end : End) (source source' sink sink' : ℕ) → source ≤ source' → BlamesEnd source source' end → sink' ≡ sink → Causes (end_status end) source source' sink sink'
caused_end Whole source source' sink sink' later blamed same = record {
  source_later = later;
  sink_later = omega (arith, same);
  read = λ e. absurd (omega (arith, e));
  write = λ e. absurd (omega (arith, e));
  sink_first = inr same;
  source_next = inr (inr (inr blamed));
}
caused_end TooLong source source' sink sink' later blamed same = record {
  source_later = later;
  sink_later = omega (arith, same);
  read = λ e. absurd (omega (arith, e));
  write = λ e. absurd (omega (arith, e));
  sink_first = inr same;
  source_next = inr (inr (inr blamed));
}
caused_end Failed source source' sink sink' later blamed same = record {
  source_later = later;
  sink_later = omega (arith, same);
  read = λ e. blamed;
  write = λ e. absurd (omega (arith, e));
  sink_first = inr same;
  source_next = inl refl;
}

-- a line ended the run before the source's fault was told
caused_sooner : (status source source' sink sink' : ℕ) → source ≤ source' → sink' ≡ sink → (status ≡ 3 → ⊥) → (status ≡ 4 → ⊥) → IsSooner status → Causes status source source' sink sink'
caused_sooner status source source' sink sink' later same not3 not4 sooner = record {
  source_later = later;
  sink_later = omega (arith, same);
  read = λ e. absurd (not3 e);
  write = λ e. absurd (not4 e);
  sink_first = inr same;
  source_next = inr (inr (inl sooner));
}

pub caused_stop : (stop : Stop) (source source' sink sink' : ℕ) → source ≤ source' → BlamesStop sink sink' stop → Causes (stop_status stop) source source' sink sink'
caused_stop (Refused why) source source' sink sink' later same = caused_sooner 1 source source' sink sink' later same (λ e. absurd (omega (arith, e))) (λ e. absurd (omega (arith, e))) (inl refl)
caused_stop (Halted RegistryLost) source source' sink sink' later same =
    caused_sooner 9 source source' sink sink' later same (λ e. absurd (omega (arith, e))) (λ e. absurd (omega (arith, e))) (inr (inr (inl refl)))
caused_stop (Halted Spent) source source' sink sink' later same =
    caused_sooner 13 source source' sink sink' later same (λ e. absurd (omega (arith, e))) (λ e. absurd (omega (arith, e))) (inr (inr (inr refl)))
caused_stop NoMemory source source' sink sink' later same = caused_sooner 5 source source' sink sink' later same (λ e. absurd (omega (arith, e))) (λ e. absurd (omega (arith, e))) (inr (inl refl))
caused_stop Write source source' sink sink' later rose = record {
  source_later = later;
  sink_later = rose.0;
  read = λ e. absurd (omega (arith, e));
  write = λ e. rose.1;
  sink_first = inl refl;
  source_next = inr (inl refl);
}

pub caused_memory : (source source' sink : ℕ) → source ≤ source' → Causes 5 source source' sink sink
caused_memory source source' sink later = caused_sooner 5 source source' sink sink later refl (λ e. absurd (omega (arith, e))) (λ e. absurd (omega (arith, e))) (inr (inl refl))
