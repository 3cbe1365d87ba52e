-- Where nothing fails and the lines apply, only the statuses of a run that ends well are left.
use Rattle.std.proofs.Common.{◌≡◌, ◌≤◌, ◌<◌, ℕ, ◌+◌, ◌-◌, Bool, true, false, eqb, List, [], ◌∷◌, ◌++◌, length, take, Option, None, Some, refl, ap, inl, inr, arith, sym, append-nil, append_assoc, ◌∙◌}
use Rattle.std.proofs.Math.Seq.{take-append-add}
use Rattle.atspi_base.specs.Outside.{Rose}
use Rattle.atspi_run_replay.specs.Lines.{lines_of, lines_read, whole_lines, onto, onto_whole}
use Rattle.atspi_run_replay.specs.Causes.{Causes}
use Rattle.atspi_run_replay.specs.Complete.{AllApply, EndsFull, EndsFullPast, EndsWell, EndsWellWithin, Unfailed}
use Rattle.atspi_run_replay.specs.Play.{PlayedRefused, RefusedText}
use Rattle.atspi_run_replay.specs.Run.{Replayed, WasRead, IsReplayStatus}
use Rattle.atspi_trace_texts.specs.declared.options.TraceOptions.{TraceOptions}

onto_front : (b : ℕ) (all whole more : List (List ℕ)) → all ≡ whole ++ more
    → (further : List (List ℕ)) × (onto b all ≡ onto_whole b whole ++ further)
onto_front b all [] more so = (onto b all, refl)
onto_front b all (l ∷ ls) more so = (more, ap (onto b) so)

at_byte : (b : ℕ) (bs rest : List ℕ) (feed : Bool) → eqb b 10 ≡ feed
    → (more : List (List ℕ)) × (lines_of (bs ++ rest) ≡ whole_lines bs ++ more)
    → (more : List (List ℕ)) × (lines_of (b ∷ (bs ++ rest)) ≡ whole_lines (b ∷ bs) ++ more)
at_byte b bs rest true e so = (so.0, rw e (ap (λ ls. [] ∷ ls) so.1))
at_byte b bs rest false e so =
    let it = onto_front b (lines_of (bs ++ rest)) (whole_lines bs) so.0 so.1 in
    (it.0, rw e it.1)

-- the whole lines of a front are the first lines
whole_first : (bs rest : List ℕ) → (more : List (List ℕ)) × (lines_of (bs ++ rest) ≡ whole_lines bs ++ more)
whole_first [] rest = (lines_of rest, refl)
whole_first (b ∷ bs) rest = at_byte b bs rest (eqb b 10) refl (whole_first bs rest)

-- a refusal behind some of the first lines is one behind some of all lines
not_refused : (options : TraceOptions) (first more all : List (List ℕ)) (text : List ℕ) → all ≡ first ++ more
    → AllApply all → RefusedText options first text → ⊥
not_refused options first more all text so apply r =
    let front : all ≡ r.upto.done ++ (r.line ∷ (r.rest ++ more)) =
    so ∙ ap (λ ls. ls ++ more) r.upto.front ∙ append_assoc r.upto.done (r.line ∷ r.rest) more in
    apply r.line (r.rest ++ more) r.told r.why
    (record { done = r.upto.done; front = front; lawful = r.upto.lawful })
    r.refused

-- none of what was read is refused
none_refused : (options : TraceOptions) (limit : ℕ) (ended : Bool) (input text : List ℕ) (w w' : Option (List ℕ))
    → WasRead limit ended input text → AllApply (lines_of input) → PlayedRefused options (lines_read ended text) w w' → ⊥
none_refused options limit true input text w w' read apply p =
    not_refused options (lines_of text) [] (lines_of input) p.0
    (ap lines_of (read.whole refl) ∙ sym (append-nil (lines_of text))) apply p.1
none_refused options limit false input text w w' read apply p =
    let first = whole_first text read.rest in
    not_refused options (whole_lines text) first.0 (lines_of input) p.0 (ap lines_of read.front ∙ first.1) apply p.1

rose_not : (before after : ℕ) → Unfailed before after → Rose before after → ⊥
rose_not before after u (inl h) = absurd (omega (arith, h, u.0, u.1))
rose_not before after u (inr h) = absurd (omega (arith, h, u.0, u.1))

-- the statuses of `replay` that are left
left_over : (status : ℕ) → IsReplayStatus status → (status ≡ 1 → ⊥) → (status ≡ 3 → ⊥) → (status ≡ 4 → ⊥)
    → (status ≡ 8 → ⊥) → EndsWell status
left_over status (inl e) one three four eight = inl e
left_over status (inr (inl e)) one three four eight = absurd (one e)
left_over status (inr (inr (inl e))) one three four eight = absurd (three e)
left_over status (inr (inr (inr (inl e)))) one three four eight = absurd (four e)
left_over status (inr (inr (inr (inr (inl e))))) one three four eight = inr (inl e)
left_over status (inr (inr (inr (inr (inr (inl e)))))) one three four eight = absurd (eight e)
left_over status (inr (inr (inr (inr (inr (inr (inl e))))))) one three four eight = inr (inr (inl e))
left_over status (inr (inr (inr (inr (inr (inr (inr e))))))) one three four eight = inr (inr (inr e))

pub ends_well : (options : TraceOptions) (limit status source source' sink sink' : ℕ) (left left' w w' : Option (List ℕ))
    → Replayed options limit status left left' w w' → Causes status source source' sink sink'
    → Unfailed source source' → Unfailed sink sink' → EndsWellWithin limit status left
ends_well options limit status source source' sink sink' None left' w w' r c unread unwritten = tt
ends_well options limit status source source' sink sink' (Some input) left' w w' r c unread unwritten = λ within apply.
    left_over status r.known
    (λ e. let it = r.refused e in none_refused options limit it.0 input it.1 w w' it.2 apply it.3)
    (λ e. rose_not source source' unread (c.read e))
    (λ e. rose_not sink sink' unwritten (c.write e))
    (λ e. let it = r.past e in absurd (omega (arith, within, it.0)))

-- those of a front are the first of those of the whole
at_whole : (b : ℕ) (bs rest : List ℕ) (feed : Bool) → eqb b 10 ≡ feed
    → (more : List (List ℕ)) × (whole_lines (bs ++ rest) ≡ whole_lines bs ++ more)
    → (more : List (List ℕ)) × (whole_lines (b ∷ (bs ++ rest)) ≡ whole_lines (b ∷ bs) ++ more)
at_whole b bs rest true e so = (so.0, rw e (ap (λ ls. [] ∷ ls) so.1))
at_whole b bs rest false e so =
    let it = whole_onto b (whole_lines (bs ++ rest)) (whole_lines bs) so.0 so.1 in
    (it.0, rw e it.1)
  where
    whole_onto : (b : ℕ) (all whole more : List (List ℕ)) → all ≡ whole ++ more
        → (further : List (List ℕ)) × (onto_whole b all ≡ onto_whole b whole ++ further)
    whole_onto b all [] more so = (onto_whole b all, refl)
    whole_onto b all (l ∷ ls) more so = (more, ap (onto_whole b) so)

whole_front : (bs rest : List ℕ) → (more : List (List ℕ)) × (whole_lines (bs ++ rest) ≡ whole_lines bs ++ more)
whole_front [] rest = (whole_lines rest, refl)
whole_front (b ∷ bs) rest = at_whole b bs rest (eqb b 10) refl (whole_front bs rest)

-- what was read inside the limit is a front of all inside it
inside : (limit : ℕ) (input text rest : List ℕ) → input ≡ text ++ rest → length text ≤ limit
    → take limit input ≡ text ++ take (limit - length text) rest
inside limit input text rest so within =
    let n : length text + (limit - length text) ≡ limit = omega (arith, within) in
    ap (take limit) so ∙ ap (λ k. take k (text ++ rest)) (sym n) ∙ take-append-add text rest (limit - length text)

-- the whole of it passes the limit, so that it was not read to its end
none_refused_inside : (options : TraceOptions) (limit : ℕ) (ended : Bool) (input text : List ℕ) (w w' : Option (List ℕ))
    → WasRead limit ended input text → limit < length input → AllApply (whole_lines (take limit input))
    → PlayedRefused options (lines_read ended text) w w' → ⊥
none_refused_inside options limit true input text w w' read past apply p =
    absurd (omega (arith, past, read.within, ap length (read.whole refl)))
none_refused_inside options limit false input text w w' read past apply p =
    let first = whole_front text (take (limit - length text) read.rest) in
    not_refused options (whole_lines text) first.0 (whole_lines (take limit input)) p.0
    (ap whole_lines (inside limit input text read.rest read.front read.within) ∙ first.1) apply p.1

-- the statuses that are left behind it
left_full : (status : ℕ) → IsReplayStatus status → (status ≡ 0 → ⊥) → (status ≡ 1 → ⊥) → (status ≡ 3 → ⊥)
    → (status ≡ 4 → ⊥) → EndsFull status
left_full status (inl e) zero one three four = absurd (zero e)
left_full status (inr (inl e)) zero one three four = absurd (one e)
left_full status (inr (inr (inl e))) zero one three four = absurd (three e)
left_full status (inr (inr (inr (inl e)))) zero one three four = absurd (four e)
left_full status (inr (inr (inr (inr (inl e))))) zero one three four = inr (inl e)
left_full status (inr (inr (inr (inr (inr (inl e)))))) zero one three four = inl e
left_full status (inr (inr (inr (inr (inr (inr (inl e))))))) zero one three four = inr (inr (inl e))
left_full status (inr (inr (inr (inr (inr (inr (inr e))))))) zero one three four = inr (inr (inr e))

pub ends_full : (options : TraceOptions) (limit status source source' sink sink' : ℕ) (left left' w w' : Option (List ℕ))
    → Replayed options limit status left left' w w' → Causes status source source' sink sink'
    → Unfailed source source' → Unfailed sink sink' → EndsFullPast limit status left
ends_full options limit status source source' sink sink' None left' w w' r c unread unwritten = tt
ends_full options limit status source source' sink sink' (Some input) left' w w' r c unread unwritten = λ past apply.
    left_full status r.known
    (λ e. let it = r.done e in absurd (omega (arith, past, it.0)))
    (λ e. let it = r.refused e in none_refused_inside options limit it.0 input it.1 w w' it.2 past apply it.3)
    (λ e. rose_not source source' unread (c.read e))
    (λ e. rose_not sink sink' unwritten (c.write e))
