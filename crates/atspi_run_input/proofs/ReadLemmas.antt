-- From what was read to what a status says.
use Rattle.std.proofs.Common.{◌≡◌, ◌≤◌, length, subst, sym, ℕ, true, false, List, ◌++◌, Option, None, Some, ap, ◌∙◌, arith, refl, inl, inr, length-append, append-nil, append_assoc}
use Rattle.std.proofs.lemmas.List.{take_at}
use Rattle.std.specs.Io.KnownBytes.{Consumes}
use Rattle.atspi_run_input.specs.Lines.{lines_read, lines_of, whole_lines}
use Rattle.atspi_run_input.specs.Causes.{Causes, IsSooner}
use Rattle.atspi_run_input.specs.Reading.{BlamesEnd, HasRead, OfAll, OfReading, OfFront, OfLimit, end_status, is_whole}
use Rattle.atspi_run_input.specs.declared.input.End.{End}
use Rattle.atspi_run_input.specs.declared.input.End.TheVariants.{Whole, TooLong, Failed}

pub of_limit : (left left' : Option (List ℕ)) (text : List ℕ) (P : List (List ℕ) → Type 0) → HasRead TooLong left left' text → P (whole_lines text) → OfLimit 16777216 left P
of_limit None left' text P h p = tt
of_limit (Some input) None text P h p = absurd h.1.2
of_limit (Some input) (Some rest) text P h p =
    let more = h.1.0 in
    let e : input ≡ text ++ (more ++ rest) = h.1.2 ∙ append_assoc text more rest in (
      rw e (omega (arith, h.0, h.1.1, length-append text (more ++ rest), length-append more rest)),
      rw (e, take_at text (more ++ rest) 16777216 h.0) p,
    )

pub of_all : (limit : ℕ) (left left' : Option (List ℕ)) (text : List ℕ) (P : List (List ℕ) → Type 0) → HasRead Whole left left' text → length text ≤ limit → P (lines_of text) → OfAll limit left P
of_all limit None left' text P h l p = tt
of_all limit (Some input) None text P h l p = absurd h.0
of_all limit (Some input) (Some rest) text P h l p =
    let e : input ≡ text = h.0 ∙ ap (λ r. text ++ r) h.1 ∙ append-nil text in
    (omega (arith, l, ap length e), subst (λ t. P (lines_of t)) (sym e) p)

pub of_front : (limit : ℕ) (left left' : Option (List ℕ)) (text : List ℕ) (P : List (List ℕ) → Type 0) → Consumes left left' text → length text ≤ limit → P (whole_lines text) → OfFront limit left left' P
of_front limit None left' text P h l p = tt
of_front limit (Some input) None text P h l p = absurd h
of_front limit (Some input) (Some rest) text P h l p = (text, l, h, p)

pub of_reading : (limit : ℕ) (end : End) (left left' : Option (List ℕ)) (text : List ℕ) (P : List (List ℕ) → Type 0) → HasRead end left left' text → length text ≤ limit → P (lines_read (is_whole end) text) → OfReading limit left P
of_reading limit end None left' text P h l p = tt
of_reading limit Whole (Some input) None text P h l p = absurd h.0
of_reading limit Whole (Some input) (Some rest) text P h l p =
    let e : input ≡ text = h.0 ∙ ap (λ r. text ++ r) h.1 ∙ append-nil text in
    (true, text, record { rest = rest; front = h.0; whole = λ _. e; within = l }, p)
of_reading limit TooLong (Some input) None text P h l p = absurd h.1.2
of_reading limit TooLong (Some input) (Some rest) text P h l p =
    (false, text, record { rest = h.1.0 ++ rest; front = h.1.2 ∙ append_assoc text h.1.0 rest; whole = λ e. cc; within = l }, p)
of_reading limit Failed (Some input) None text P h l p = absurd h
of_reading limit Failed (Some input) (Some rest) text P h l p = (false, text, record { rest = rest; front = h; whole = λ e. cc; within = l }, p)

-- which counts changed
pub caused_end : (end : End) (source source' sink sink' : ℕ) → source ≤ source' → BlamesEnd source source' end → sink' ≡ sink → Causes (end_status end) source source' sink sink'
caused_end Whole source source' sink sink' later blamed same = record {
  source_later = later;
  sink_later = omega (arith, same);
  read = λ e. absurd (omega (arith, e));
  write = λ e. absurd (omega (arith, e));
  sink_first = inr same;
  source_next = inr (inr (inr blamed));
}
caused_end TooLong source source' sink sink' later blamed same = record {
  source_later = later;
  sink_later = omega (arith, same);
  read = λ e. absurd (omega (arith, e));
  write = λ e. absurd (omega (arith, e));
  sink_first = inr same;
  source_next = inr (inr (inr blamed));
}
caused_end Failed source source' sink sink' later blamed same = record {
  source_later = later;
  sink_later = omega (arith, same);
  read = λ e. blamed;
  write = λ e. absurd (omega (arith, e));
  sink_first = inr same;
  source_next = inl refl;
}

-- a line ended the run before the source's fault was told
pub caused_sooner : (status source source' sink sink' : ℕ) → source ≤ source' → sink' ≡ sink → (status ≡ 3 → ⊥) → (status ≡ 4 → ⊥) → IsSooner status → Causes status source source' sink sink'
caused_sooner status source source' sink sink' later same not3 not4 sooner = record {
  source_later = later;
  sink_later = omega (arith, same);
  read = λ e. absurd (not3 e);
  write = λ e. absurd (not4 e);
  sink_first = inr same;
  source_next = inr (inr (inl sooner));
}

pub caused_memory : (source source' sink : ℕ) → source ≤ source' → Causes 5 source source' sink sink
caused_memory source source' sink later = caused_sooner 5 source source' sink sink later refl (λ e. absurd (omega (arith, e))) (λ e. absurd (omega (arith, e))) (inr (inl refl))
