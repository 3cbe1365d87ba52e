-- The run so far: which lines were done, what they have made, and what they have written.
use Rattle.std.proofs.Common.{◌≡◌, ◌≤◌, ℕ, suc, ◌+◌, List, [], ◌∷◌, ◌++◌, length, refl, sym, ap, subst, ◌∙◌, arith, append_assoc, append-nil, length-append, Option, None, Some, Result, Ok, Err, IsErr, OnOk, OnErr, inl, inr, ◌⊎◌}
use Rattle.std.proofs.lemmas.Bool.{false≢true}
use Rattle.std.specs.Io.KnownBytes.{Appends}
use Rattle.atspi_base.specs.Outside.{AppendsPart, appends_both, appends_part}
use Rattle.atspi_run_hit.specs.declared.line.HitLine.{HitLine}
use Rattle.atspi_run_hit.specs.declared.line.HitLine.TheVariants as line
use Rattle.atspi_run_hit.specs.declared.naming.Refused as whys
use Rattle.atspi_run_hit.specs.declared.naming.Stop.{Stop}
use Rattle.atspi_run_hit.specs.declared.naming.Stop.TheVariants.{Refused, Write, NoMemory}
use Rattle.atspi_run_hit.specs.Names.{refused_text}
use Rattle.atspi_run_hit.specs.Scene.{Scene, after}
use Rattle.atspi_run_hit.specs.Run.{FrontText, IsRefused, IsText, LineDone, LinesDone, RefusedText, WrotePart, WroteRefused}
use Rattle.atspi_run_hit.specs.inner.Seen.{HasCalled}
use Rattle.atspi_run_hit.specs.inner.Writes.{DidLine, IfRefused, IsLineText, SaysRefused, StoppedAt}

pub appends_nothing : (o : Option (List ℕ)) → Appends o o []
appends_nothing None = tt
appends_nothing (Some written) = sym (append-nil written)

-- one more line
lines_more : (old : Option Scene) (done : List (List ℕ)) (bytes : List ℕ) (mid new : Option Scene) (text told : List ℕ) → LinesDone old done mid text → LineDone mid bytes new told → LinesDone old (done ++ bytes ∷ []) new (text ++ told)
lines_more old [] bytes mid new text told h d = (new, told, [], subst (λ s. LineDone s bytes new told) h.0 d, (refl, refl), ap (λ l. l ++ told) h.1 ∙ sym (append-nil told))
lines_more old (b ∷ done) bytes mid new text told h d =
    (h.0, h.1, h.2 ++ told, h.3, lines_more h.0 done bytes mid new h.2 told h.4 d, ap (λ l. l ++ told) h.5 ∙ append_assoc h.1 h.2 told)

-- THE RUN SO FAR
pub record SoFar (lines rest : List (List ℕ)) (text : List ℕ) (number : ℕ) (now : Option Scene) : Type 0 where
  pub done : List (List ℕ)
  pub front : lines ≡ done ++ rest
  pub counted : number ≡ length done
  pub does : LinesDone None done now text

pub so_far_start : (lines : List (List ℕ)) → SoFar lines lines [] 0 None
so_far_start lines = record { done = []; front = refl; counted = refl; does = (refl, refl) }

so_far_more : {lines rest : List (List ℕ)} {text bytes : List ℕ} {number : ℕ} {now : Option Scene} (new : Option Scene) (told : List ℕ) → SoFar lines (bytes ∷ rest) text number now → LineDone now bytes new told
    → SoFar lines rest (text ++ told) (number + 1) new
so_far_more {rest = rest} {text = text} {bytes = bytes} {now = now} new told c d = record {
  done = c.done ++ bytes ∷ [];
  front = c.front ∙ sym (append_assoc c.done (bytes ∷ []) rest);
  counted = omega (arith, c.counted, length-append c.done (bytes ∷ []));
  does = lines_more None c.done bytes now new text told c.does d;
}

pub one_more : {lines rest : List (List ℕ)} {text bytes : List ℕ} {number : ℕ} {now : Option Scene} (new : Option Scene) (w w' w'' : Option (List ℕ)) → SoFar lines (bytes ∷ rest) text number now
    → Appends w w' text → DidLine now bytes new w' w'' → (more : List ℕ) × SoFar lines rest more (number + 1) new × Appends w w'' more
one_more {text = text} new w w' w'' c a d = (text ++ d.0, so_far_more new d.0 c d.1, appends_both w w' w'' text d.0 a d.2)

-- so many calls were answered, and one line more
pub called_more : (s : Option Scene) (l : HitLine) (n : ℕ) → HasCalled s n → HasCalled (after s l) (n + 1)
called_more None (line.Nothing) n h = tt
called_more None (line.App name) n h = omega arith
called_more None (line.Edit edit) n h = tt
called_more None (line.Place node rect) n h = tt
called_more None (line.Call node ask) n h = tt
called_more None (line.Cell node index way) n h = tt
called_more None (line.Follow node kind) n h = tt
called_more (Some s) (line.Nothing) n h = omega (arith, h)
called_more (Some s) (line.App name) n h = omega (arith, h)
called_more (Some s) (line.Edit edit) n h = omega (arith, h)
called_more (Some s) (line.Place node rect) n h = omega (arith, h)
called_more (Some s) (line.Call node ask) n h = omega (arith, h)
called_more (Some s) (line.Cell node index way) n h = omega (arith, h)
called_more (Some s) (line.Follow node kind) n h = omega (arith, h)

pub called_by : (s new : Option Scene) (bytes : List ℕ) (n : ℕ) (w w' : Option (List ℕ)) → HasCalled s n → DidLine s bytes new w w' → HasCalled new (n + 1)
called_by s new bytes n w w' h d = subst (λ x. HasCalled x (n + 1)) (sym d.1.made) (called_more s d.1.line n h)

pub called_few : (s : Option Scene) (m n : ℕ) → m ≤ n → HasCalled s m → HasCalled s n
called_few None m n few h = tt
called_few (Some s) m n few h = omega (arith, few, h)

-- WHAT THE LINES WRITE
front_text : {lines rest : List (List ℕ)} {text : List ℕ} {number : ℕ} {now : Option Scene} → SoFar lines rest text number now → FrontText lines text
front_text {rest = rest} {now = now} c = record { done = c.done; rest = rest; front = c.front; is = (now, c.does) }

pub so_far_end : {lines : List (List ℕ)} {text : List ℕ} {number : ℕ} {now : Option Scene} → SoFar lines [] text number now → IsText lines text
so_far_end {text = text} {now = now} c = (now, subst (λ ls. LinesDone None ls now text) (sym (c.front ∙ append-nil c.done)) c.does)

refused_so : {lines rest : List (List ℕ)} {text bytes : List ℕ} {number : ℕ} {now : Option Scene} (why : whys.Refused) → SoFar lines (bytes ∷ rest) text number now → IsRefused now bytes why
    → RefusedText lines (text ++ refused_text (number + 1) why)
refused_so {rest = rest} {text = text} {bytes = bytes} {number = number} {now = now} why c r =
    let one : number + 1 ≡ suc (length c.done) = omega (arith, c.counted) in
    record {
      done = c.done;
      line = bytes;
      rest = rest;
      front = c.front;
      now = now;
      told = text;
      does = c.does;
      why = why;
      refused = r;
      are = ap (λ n. text ++ refused_text n why) one;
    }

-- the next line is refused
pub then_refused : {T : Type 0} (r : Result T Stop) (lines rest : List (List ℕ)) (text bytes : List ℕ) (number : ℕ) (now : Option Scene) (old mid new : Option (List ℕ))
    → SoFar lines (bytes ∷ rest) text number now → Appends old mid text → IfRefused r (λ why. SaysRefused now bytes (number + 1) why mid new) → IfRefused r (λ why. WroteRefused lines old new)
then_refused (Ok x) lines rest text bytes number now old mid new c a h = tt
then_refused (Err (Refused why)) lines rest text bytes number now old mid new c a h =
    (text ++ refused_text (number + 1) why, refused_so why c h.0, appends_both old mid new text (refused_text (number + 1) why) a h.1)
then_refused (Err Write) lines rest text bytes number now old mid new c a h = tt
then_refused (Err NoMemory) lines rest text bytes number now old mid new c a h = tt

-- a part of what the next line writes is a part of such a text
pub stopped_part : {lines rest : List (List ℕ)} {text bytes : List ℕ} {number : ℕ} {now : Option Scene} (w w' w'' : Option (List ℕ)) → SoFar lines (bytes ∷ rest) text number now → Appends w w' text
    → StoppedAt now bytes (number + 1) w' w'' → WrotePart lines w w''
stopped_part {lines = lines} {rest = rest} {text = text} {bytes = bytes} {number = number} {now = now} w w' w'' c a p = (text ++ p.0, some p.0 p.1, appends_part w w' w'' text p.0 a p.2)
  where
    some : (t : List ℕ) → IsLineText now bytes (number + 1) t → FrontText lines (text ++ t) ⊎ RefusedText lines (text ++ t)
    some t (inl none) = inl (subst (FrontText lines) (sym (ap (λ x. text ++ x) none ∙ append-nil text)) (front_text c))
    some t (inr (inl d)) = inl (front_text (so_far_more d.0 t c d.1))
    some t (inr (inr r)) = inr (subst (λ x. RefusedText lines (text ++ x)) (sym r.2) (refused_so r.0 c r.1))

-- nothing was written of no lines
pub wrote_nothing : (lines : List (List ℕ)) (w : Option (List ℕ)) → WrotePart lines w w
wrote_nothing lines w = ([], inl record { done = []; rest = lines; front = refl; is = (None, (refl, refl)) }, ([], [], refl, appends_nothing w))

-- WHAT A LINE WRITES, by what came of it
pub did_if : {T E : Type 0} (r : Result T E) (bytes : List ℕ) (old new : Option Scene) (told : List ℕ) (w w' : Option (List ℕ)) → LineDone old bytes new told → OnOk r (Appends w w' told) → OnOk r (DidLine old bytes new w w')
did_if (Ok x) bytes old new told w w' d a = (told, d, a)
did_if (Err x) bytes old new told w w' d a = tt

pub did_part_if : {T E : Type 0} (r : Result T E) (bytes : List ℕ) (number : ℕ) (old new : Option Scene) (told : List ℕ) (w w' : Option (List ℕ)) → LineDone old bytes new told → OnErr r (AppendsPart w w' told)
    → OnErr r (StoppedAt old bytes number w w')
did_part_if (Ok x) bytes number old new told w w' d a = tt
did_part_if (Err x) bytes number old new told w w' d a = (told, inr (inl (new, d)), a)

pub refused_part_if : {T E : Type 0} (r : Result T E) (bytes : List ℕ) (number : ℕ) (old : Option Scene) (why : whys.Refused) (w w' : Option (List ℕ)) → IsRefused old bytes why
    → OnErr r (AppendsPart w w' (refused_text number why)) → OnErr r (StoppedAt old bytes number w w')
refused_part_if (Ok x) bytes number old why w w' because a = tt
refused_part_if (Err x) bytes number old why w w' because a = (refused_text number why, inr (inr (why, because, refl)), a)

pub nothing : (bytes : List ℕ) (number : ℕ) (old : Option Scene) (w : Option (List ℕ)) → StoppedAt old bytes number w w
nothing bytes number old w = ([], inl refl, ([], [], refl, appends_nothing w))

pub all_part : (text : List ℕ) (old new : Option (List ℕ)) → Appends old new text → AppendsPart old new text
all_part text old new a = (text, [], append-nil text, a)

-- what does not end well has no fact of a good end; a fact holds where it holds at any rate
pub never_ok : {T E : Type 0} (r : Result T E) (P : Type 0) → IsErr r → OnOk r P
never_ok (Ok x) P e = absurd (false≢true e)
never_ok (Err x) P e = tt

pub ok_holds : {T E : Type 0} (r : Result T E) (P : Type 0) → P → OnOk r P
ok_holds (Ok x) P p = p
ok_holds (Err x) P p = tt

pub refused_never : {T : Type 0} (r : Result T Stop) (P : whys.Refused → Type 0) → IfRefused r (λ why. ⊥) → IfRefused r P
refused_never (Ok x) P h = tt
refused_never (Err (Refused why)) P h = absurd h
refused_never (Err Write) P h = tt
refused_never (Err NoMemory) P h = tt

pub was_refused : {T : Type 0} (r : Result T Stop) (s : Option Scene) (bytes : List ℕ) (number : ℕ) (why : whys.Refused) (w w' : Option (List ℕ)) → IsRefused s bytes why
    → IfRefused r (λ said. (said ≡ why) × Appends w w' (refused_text number why)) → IfRefused r (λ said. SaysRefused s bytes number said w w')
was_refused (Ok x) s bytes number why w w' because h = tt
was_refused (Err (Refused said)) s bytes number why w w' because h = (
  subst (λ (x : whys.Refused). IsRefused s bytes x) (sym h.0) because,
  subst (λ (x : whys.Refused). Appends w w' (refused_text number x)) (sym h.0) h.1,
)
was_refused (Err Write) s bytes number why w w' because h = tt
was_refused (Err NoMemory) s bytes number why w w' because h = tt
