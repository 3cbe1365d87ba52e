-- The lines that were done and the messages that were taken are in turn.
use Rattle.std.proofs.Common.{◌≡◌, ◌<◌, ◌≤◌, ℕ, ◌+◌, List, [], ◌∷◌, ◌++◌, length, map, take, drop, Some, refl, sym, ap, subst, ◌∙◌, inl, inr, append_assoc, take-append-drop, arith}
use Rattle.std.specs.Prelude.{◌⊎◌}
use Rattle.std.specs.List.{concat}
use Rattle.std.proofs.lemmas.List.{length-map}
use Rattle.std.proofs.lemmas.List.Folds.{concat-append}
use Rattle.atspi_auth.specs.Talk.{after, behind, client_start}
use Rattle.atspi_auth.proofs.WholeLemmas.{behind-append}
use Rattle.atspi_message.specs.Envelope.{Envelope}
use Rattle.atspi_stream.specs.Stream.{AreMessages, IsParted, bytes_of}
use Rattle.atspi_stream.proofs.StreamLaws.{begun}
use Rattle.atspi_live_host.specs.declared.call.Call.{Call}
use Rattle.atspi_live_host.specs.Calls.{taken}
use Rattle.atspi_live_conversation.specs.Speech.{envelopes}
use Rattle.atspi_live_app.specs.Lines.{lines_of}
use Rattle.atspi_live_app.specs.Input.{left_in}
use Rattle.atspi_live_app.specs.Live.{IsMarked, marks_in}
use Rattle.atspi_live_app.specs.Pace.{AllTake, HasWhole, total}
use Rattle.atspi_live_app.specs.Standing.{Event, does, lines_in, taken_in, takes}
use Rattle.atspi_live_app.specs.Turns.{AreWhole, IsBefore, IsInTurn, pieces}
use Rattle.atspi_live_app.proofs.Hears.{AllHeard, same_count}
use Rattle.atspi_live_app.proofs.Making.{taken_both}
use Rattle.atspi_live_app.proofs.Pacing.{Paced}
use Rattle.atspi_live_app.proofs.Pieces.{all_taken}

-- lists with the same first element and the same rest
both_same : {A : Type 0} (x y : A) (xs ys : List A) → x ∷ xs ≡ y ∷ ys → (x ≡ y) × (xs ≡ ys)
both_same x y xs ys e = (cc, cc)

same_lists : {A : Type 0} (xs ys us vs : List A) → xs ++ us ≡ ys ++ vs → length xs ≡ length ys → (xs ≡ ys) × (us ≡ vs)
same_lists [] [] us vs e n = (refl, e)
same_lists [] (y ∷ ys) us vs e n = absurd (omega (arith, n))
same_lists (x ∷ xs) [] us vs e n = absurd (omega (arith, n))
same_lists (x ∷ xs) (y ∷ ys) us vs e n =
    let b = both_same x y (xs ++ us) (ys ++ vs) e in
    let r = same_lists xs ys us vs b.1 (omega (arith, n)) in
    (ap (λ (w : List _). x ∷ w) r.0 ∙ ap (λ (z : _). z ∷ ys) b.0, r.1)

-- some of the first messages of a stream, with their bytes
record Fronted (ms : List (Envelope × List ℕ)) (es : List Envelope) : Type 0 where
  first : List (Envelope × List ℕ)
  are : AreMessages first
  same : bytes_of first ≡ bytes_of ms
  envelopes_are : envelopes first ≡ es

-- where messages begin some bytes, as many of other messages there have the same bytes
fronted : (ms ns : List (Envelope × List ℕ)) (es more : List Envelope) (x y : List ℕ) → AreMessages ms → AreMessages ns → bytes_of ms ++ x ≡ bytes_of ns ++ y → length ms ≡ length es → es ++ more ≡ envelopes ns → Fronted ms es
fronted [] ns [] more x y a b p n e = record { first = []; are = tt; same = refl; envelopes_are = refl }
fronted [] ns (c ∷ cs) more x y a b p n e = absurd (omega (arith, n))
fronted (m ∷ ms) ns [] more x y a b p n e = absurd (omega (arith, n))
fronted (m ∷ ms) [] (c ∷ cs) more x y a b p n e = absurd (omega (arith, ap (λ (w : List Envelope). length w) e))
fronted (m ∷ ms) (k ∷ ks) (c ∷ cs) more x y a b p n e =
    let held : List ℕ = bytes_of (m ∷ ms) ++ x in
    let u = begun m.0 held m.1 (bytes_of ms ++ x) a.0 (append_assoc m.1 (bytes_of ms) x) in
    let v = begun k.0 held k.1 (bytes_of ks ++ y) b.0 (p ∙ append_assoc k.1 (bytes_of ks) y) in
    let rests : bytes_of ms ++ x ≡ bytes_of ks ++ y = u.rest_is ∙ sym v.rest_is in
    let h = both_same c k.0 (cs ++ more) (envelopes ks) e in
    let f = fronted ms ks cs more x y a.1 b.1 rests (omega (arith, n)) h.1 in
    record {
      first = k ∷ f.first;
      are = (b.0, f.are);
      same = ap (λ (w : List ℕ). w ++ bytes_of f.first) (sym v.bytes_are ∙ u.bytes_are) ∙ ap (λ (w : List ℕ). m.1 ++ w) f.same;
      envelopes_are = ap (λ (w : List Envelope). k.0 ∷ w) f.envelopes_are ∙ ap (λ (w : Envelope). w ∷ cs) (sym h.0);
    }

-- so many messages are whole in the first bytes: they are the first of all that were taken
whole_first : (t more rest : List ℕ) (messages : List (Envelope × List ℕ)) (es others : List Envelope) → HasWhole t (length es) → IsParted (behind client_start (t ++ more)) messages rest → es ++ others ≡ envelopes messages → AreWhole es t
whole_first t more rest messages es others w p e =
    let split : (bytes_of w.0 ++ w.1) ++ behind (after client_start t) more ≡ bytes_of messages ++ rest = ap (λ (x : List ℕ). x ++ behind (after client_start t) more) (sym w.2.parted) ∙ sym (behind-append client_start t more) ∙ p.parted in
    let f = fronted w.0 messages es others (w.1 ++ behind (after client_start t) more) rest w.2.are p.are (sym (append_assoc (bytes_of w.0) w.1 (behind (after client_start t) more)) ∙ split) w.4 e in
    record {
      messages = f.first;
      rest = w.1;
      parted = record { are = f.are; parted = w.2.parted ∙ ap (λ (x : List ℕ). x ++ w.1) (sym f.same) };
      awaits = w.3;
      are = f.envelopes_are;
    }

-- as many marks as lines
marks_count : (n : ℕ) (h : List Event) → length (marks_in n h) ≡ length (lines_in h)
marks_count n [] = refl
marks_count n (does line ∷ h) = omega (arith, marks_count n h)
marks_count n (takes e ∷ h) = marks_count (n + 1) h

-- what stands before a line
record Found (reads : List (List ℕ)) (n c : ℕ) (before : List Event) : Type 0 where
  done : List (List ℕ × ℕ)
  lines : map (λ (t : List ℕ × ℕ). t.0) done ≡ lines_in before
  timed : AllTake done
  few : n + total done < length reads
  whole : HasWhole (concat (take (n + total done) reads)) (c + length (taken_in before))

found : (reads : List (List ℕ)) (n c : ℕ) (before after' : List Event) (line : List ℕ) (ts : List (List ℕ × ℕ)) → AllTake ts → map (λ (t : List ℕ × ℕ). t.0) ts ≡ lines_in (before ++ does line ∷ after')
    → AllHeard reads n ts (marks_in c (before ++ does line ∷ after')) → Found reads n c before
found reads n c [] after' line [] a e h = absurd h
found reads n c [] after' line (t ∷ ts) a e h =
    let here : n + 0 ≡ n = omega arith in
    let same : c + 0 ≡ c = omega arith in
    record {
      done = [];
      lines = refl;
      timed = tt;
      few = omega (arith, h.0);
      whole = subst (λ (x : ℕ). HasWhole (concat (take x reads)) (c + 0)) (sym here) (subst (λ (x : ℕ). HasWhole (concat (take n reads)) x) (sym same) h.1);
    }
found reads n c (does l ∷ b) after' line [] a e h = absurd h
found reads n c (does l ∷ b) after' line (t ∷ ts) a e h =
    let s = both_same t.0 l (map (λ (x : List ℕ × ℕ). x.0) ts) (lines_in (b ++ does line ∷ after')) e in
    let f = found reads (n + t.1) c b after' line ts a.1 s.1 h.2 in
    let further : (n + t.1) + total f.done ≡ n + (t.1 + total f.done) = omega arith in
    record {
      done = t ∷ f.done;
      lines = ap (λ (w : List (List ℕ)). t.0 ∷ w) f.lines ∙ ap (λ (w : List ℕ). w ∷ lines_in b) s.0;
      timed = (a.0, f.timed);
      few = omega (arith, f.few);
      whole = subst (λ (x : ℕ). HasWhole (concat (take x reads)) (c + length (taken_in b))) further f.whole;
    }
found reads n c (takes e' ∷ b) after' line ts a e h =
    let f = found reads n (c + 1) b after' line ts a e h in
    let more : (c + 1) + length (taken_in b) ≡ c + length (e' ∷ taken_in b) = omega arith in
    record {
      done = f.done;
      lines = f.lines;
      timed = f.timed;
      few = f.few;
      whole = subst (λ (x : ℕ). HasWhole (concat (take (n + total f.done) reads)) x) more f.whole;
    }

-- what was read first, and what behind it
reads_split : (k n : ℕ) (cs : List Call) → taken k cs ≡ concat (take n (pieces k cs)) ++ concat (drop n (pieces k cs))
reads_split k n cs = sym (all_taken k cs) ∙ ap concat (sym (take-append-drop n (pieces k cs))) ∙ concat-append (take n (pieces k cs)) (drop n (pieces k cs))

-- each line that was done is in turn
pub each_before : (k : ℕ) (cs : List Call) (ts : List (List ℕ × ℕ)) (messages : List (Envelope × List ℕ)) (rest : List ℕ) (history : List Event) → AllTake ts → map (λ (t : List ℕ × ℕ). t.0) ts ≡ lines_in history
    → AllHeard (pieces k cs) 0 ts (marks_in 0 history) → IsParted (behind client_start (taken k cs)) messages rest → taken_in history ≡ envelopes messages
    → (before after' : List Event) (line : List ℕ) → before ++ does line ∷ after' ≡ history → IsBefore (pieces k cs) before
each_before k cs ts messages rest history a e h p took before after' line split =
    let f = found (pieces k cs) 0 0 before after' line ts a (subst (λ (w : List Event). map (λ (t : List ℕ × ℕ). t.0) ts ≡ lines_in w) (sym split) e)
    (subst (λ (w : List Event). AllHeard (pieces k cs) 0 ts (marks_in 0 w)) (sym split) h) in
    let n : ℕ = total f.done in
    let none : 0 + n ≡ n = omega arith in
    let all : 0 + length (taken_in before) ≡ length (taken_in before) = omega arith in
    record {
      done = f.done;
      lines = f.lines;
      timed = f.timed;
      begun = omega (arith, f.few);
      whole = whole_first (concat (take n (pieces k cs))) (concat (drop n (pieces k cs))) rest messages (taken_in before) (taken_in (does line ∷ after'))
          (subst (λ (x : ℕ). HasWhole (concat (take n (pieces k cs))) x) all (subst (λ (x : ℕ). HasWhole (concat (take x (pieces k cs))) (0 + length (taken_in before))) none f.whole))
          (subst (λ (w : List ℕ). IsParted (behind client_start w) messages rest) (reads_split k n cs) p)
          (sym (taken_both before (does line ∷ after')) ∙ ap taken_in split ∙ took);
    }

-- and of those that are left none is due
pub in_turn : (text : List ℕ) (place n takes' k : ℕ) (cs : List Call) (marks : List ℕ) → Paced text place n takes' k (Some cs) marks → (messages : List (Envelope × List ℕ)) (rest : List ℕ) (history : List Event) (left : List (List ℕ))
    → IsParted (behind client_start (taken k cs)) messages rest → lines_in history ++ left ≡ lines_of text → taken_in history ≡ envelopes messages → IsMarked marks history left → IsInTurn (pieces k cs) history left
in_turn text place n takes' k cs marks w messages rest history left p all took marked =
    let count : length (map (λ (t : List ℕ × ℕ). t.0) w.done) ≡ length (lines_in history) =
    omega (arith, length-map w.done (λ (t : List ℕ × ℕ). t.0), same_count (pieces k cs) 0 w.done marks w.heard.1, ap (λ (x : List ℕ). length x) marked, marks_count 0 history) in
    let same = same_lists (map (λ (t : List ℕ × ℕ). t.0) w.done) (lines_in history) (left_in text place) left (w.all ∙ sym all) count in
    record {
      each = each_before k cs w.done messages rest history w.take same.0 (subst (λ (x : List ℕ). AllHeard (pieces k cs) 0 w.done x) (sym marked) w.heard.1) p took;
      done = w.done;
      lines = same.0;
      timed = w.take;
      due = by w.rest;
    }
  where
    by : (total w.done ≡ n + takes') ⊎ ((left_in text place ≡ []) × (total w.done ≤ n) × (takes' ≡ 0)) → (left ≡ []) ⊎ (length (pieces k cs) ≤ total w.done)
    by (inl e) = inr (omega (arith, e, w.heard.0))
    by (inr e) =
        let count : length (map (λ (t : List ℕ × ℕ). t.0) w.done) ≡ length (lines_in history) =
        omega (arith, length-map w.done (λ (t : List ℕ × ℕ). t.0), same_count (pieces k cs) 0 w.done marks w.heard.1, ap (λ (x : List ℕ). length x) marked, marks_count 0 history) in
        inl (sym (same_lists (map (λ (t : List ℕ × ℕ). t.0) w.done) (lines_in history) (left_in text place) left (w.all ∙ sym all) count).1 ∙ e.0)
