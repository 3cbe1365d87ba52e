-- Checking bytes by marks says what reading them says.
use Rattle.std.proofs.Common.{◌≡◌, ℕ, ◌+◌, ◌<◌, ◌≤◌, inl, inr, List, [], length, take, drop, get_or, true, Option, Some, None, Result, Ok, Err, refl, sym, ap, ◌∙◌}
use Rattle.std.specs.Prelude.{is_ok, min}
use Rattle.std.proofs.lemmas.Bool.{lt-ltb, le-ltb}
use Rattle.atspi_types.specs.Kinds.{Kind}
use Rattle.atspi_types.specs.SignatureFaults.{Context, at_top, token_of, end}
use Rattle.atspi_types.specs.SignatureReading.{refusal, with_token, walk, step_at, end_at, behind_front, signature_in}
use Rattle.atspi_types.specs.declared.fault.Fault.{Fault}
use Rattle.atspi_types.proofs.ReadingLemmas.{walk-err, walk-ok, walk-end, front-err, front-ok, take-min}
use Rattle.atspi_marshal_in_place.specs.declared.codes.marks.Mark.{Mark}
use Rattle.atspi_marshal_in_place.specs.codes.inner.Marks.{code_of, marks_of, innermost, end_marked, refusal_marked, marks_after, LeadsTo, Ends, Checks}
use Rattle.atspi_marshal_in_place.proofs.OfCodes.MarkLaws.{of_byte, refusal-marked, marks-after, end-marked}

-- behind some of the bytes marks stand for a context, from which the others lead to where all of the bytes do
pub record StandsAt (open_marks : List Mark) (i : ℕ) (bytes : List ℕ) : Type 0 where
  pub context : Context
  pub marked : open_marks ≡ marks_of context
  pub rest : walk context i (drop i bytes) ≡ walk (at_top []) 0 bytes

pub nothing_stands : (bytes : List ℕ) → StandsAt [] 0 bytes
nothing_stands bytes = record { context = at_top []; marked = refl; rest = refl }

refused : (c : Context) (place b : ℕ) (f : Fault) → f.place ≡ place → refusal c (token_of b) ≡ Some f.reason → step_at c place b ≡ Err f
unfolding step_at
refused c place b f p e = rw (e, ← p) refl

taken : (c : Context) (place b : ℕ) → refusal c (token_of b) ≡ None → step_at c place b ≡ Ok (with_token c (token_of b))
unfolding step_at
taken c place b e = rw e refl

pub refused_at : (open_marks : List Mark) (bytes : List ℕ) (i : ℕ) (f : Fault) → i < length bytes → StandsAt open_marks i bytes
    → f.place ≡ i → refusal_marked open_marks (code_of (token_of (get_or bytes i 0))) ≡ Some f.reason → walk (at_top []) 0 bytes ≡ Err f
refused_at open_marks bytes i f lt s p e =
    let b : ℕ = get_or bytes i 0 in
    let here : refusal s.context (token_of b) ≡ Some f.reason = refusal-marked s.context (token_of b) (of_byte b) ∙ (ap (λ ms. refusal_marked ms (code_of (token_of b))) (sym s.marked) ∙ e) in
    sym s.rest ∙ walk-err s.context bytes i f lt (refused s.context i b f p here)

pub taken_at : (open_marks after : List Mark) (bytes : List ℕ) (i : ℕ) → i < length bytes → StandsAt open_marks i bytes
    → refusal_marked open_marks (code_of (token_of (get_or bytes i 0))) ≡ None → after ≡ marks_after open_marks (code_of (token_of (get_or bytes i 0))) → StandsAt after (i + 1) bytes
taken_at open_marks after bytes i lt s e a =
    let b : ℕ = get_or bytes i 0 in
    let here : refusal s.context (token_of b) ≡ None = refusal-marked s.context (token_of b) (of_byte b) ∙ (ap (λ ms. refusal_marked ms (code_of (token_of b))) (sym s.marked) ∙ e) in
    record {
      context = with_token s.context (token_of b);
      marked = a ∙ (ap (λ ms. marks_after ms (code_of (token_of b))) s.marked ∙ sym (marks-after s.context (token_of b) here));
      rest = sym (walk-ok s.context (with_token s.context (token_of b)) bytes i lt (taken s.context i b here)) ∙ s.rest;
    }

pub stands_last : (open_marks : List Mark) (bytes : List ℕ) (i : ℕ) (mark : Option Mark) → length bytes ≤ i → StandsAt open_marks i bytes → mark ≡ innermost open_marks → LeadsTo (Ok mark) bytes
stands_last open_marks bytes i mark le s e = (s.context, sym s.rest ∙ walk-end s.context bytes i le, e ∙ ap innermost s.marked)

-- the end
end_ok : (c : Context) (len : ℕ) → len ≤ 255 → refusal c end ≡ None → is_ok (behind_front c len) ≡ true
unfolding end_at
end_ok c len short e = rw (le-ltb 255 len short, e) refl

end_refused : (c : Context) (len : ℕ) (f : Fault) → len ≤ 255 → f.place ≡ len → refusal c end ≡ Some f.reason → behind_front c len ≡ Err f
unfolding end_at
end_refused c len f short p e = rw (le-ltb 255 len short, e, ← p) refl

abbrev failed : Fault → Result (List Kind) Fault
failed f = Err f

too_long : (c : Context) (len : ℕ) (f : Fault) → 255 < len → f ≡ record { place = 255; reason = 1 } → behind_front c len ≡ Err f
too_long c len f long e = rw (lt-ltb 255 len long) (ap failed (sym e))

by_end : (c : Context) (len : ℕ) (mark : Option Mark) (r : Result Unit Fault) → mark ≡ innermost (marks_of c) → Ends r mark len → Checks r (behind_front c len)
by_end c len mark (Ok u) m h = end_ok c len h.0 (end-marked c ∙ (ap end_marked (sym m) ∙ h.1))
by_end c len mark (Err f) m (inl h) = too_long c len f h.0 h.1
by_end c len mark (Err f) m (inr h) = end_refused c len f h.0 h.1 (end-marked c ∙ (ap end_marked (sym m) ∙ h.2))

pub checked_ok : (bytes : List ℕ) (mark : Option Mark) (r : Result Unit Fault) → LeadsTo (Ok mark) (take (min (length bytes) 255) bytes) → Ends r mark (length bytes) → Checks r (signature_in bytes)
checked_ok bytes mark r h e =
    let led : walk (at_top []) 0 (take 255 bytes) ≡ Ok h.0 = rw (take-min bytes 255) at h.1 in
    rw (front-ok bytes h.0 led) (by_end h.0 (length bytes) mark r h.2 e)

pub checked_err : (bytes : List ℕ) (f : Fault) → walk (at_top []) 0 (take (min (length bytes) 255) bytes) ≡ Err f → signature_in bytes ≡ Err f
checked_err bytes f e = front-err bytes f (rw (take-min bytes 255) at e)
