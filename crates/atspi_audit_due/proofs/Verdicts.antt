-- A text has one verdict.
use Rattle.std.proofs.Common.{◌≡◌, ℕ, suc, List, [], ◌∷◌, ◌++◌, Option, None, Some, refl, sym, ap, ap₂, subst, ◌∙◌, append_assoc}
use Rattle.std.proofs.lemmas.List.{append-nil, map-append}
use Rattle.std.specs.List.{AllByRecursion}
use Rattle.atspi_script_lines.specs.declared.line.Line.{Line}
use Rattle.atspi_script_lines.specs.declared.line.LineFault.{LineFault}
use Rattle.atspi_trace_events.specs.declared.event.Event.{Event}
use Rattle.atspi_trace_events.specs.declared.event.Event.TheVariants.{Sent}
use Rattle.atspi_trace_texts.specs.InTrace.{IsEvent}
use Rattle.atspi_trace_texts.specs.Laws.{AreSame, IsSame}
use Rattle.atspi_trace_texts.specs.TraceText.{wire_bytes}
use Rattle.atspi_trace.specs.Entry.{entries_of, entry_of}
use Rattle.atspi_audit_text.proofs.Once.{TellsItself, one_event}
use Rattle.atspi_audit_due.specs.Fits.{EachFits, Fits, due_behind}
use Rattle.atspi_audit_due.specs.Laws.{VerdictsAreOne}
use Rattle.atspi_audit_due.specs.Verdicts.{BeginsWith, Finding, lawful, unlawful, refused, IsFound, IsWhole, Stops, refused_there, told_behind, told_from}
use Rattle.atspi_audit_due.proofs.Same.{same_entries, same_lengths, same_more, same_told}
use Rattle.atspi_audit_due.proofs.Scripts.{one_script}

-- a message is told with its own bytes
itself : (trace : List Event) (e : Event) → TellsItself e (wire_bytes trace e)
unfolding wire_bytes
itself trace (Sent who m) = refl
itself trace e = tt

-- events behind others that stand in front of a text, each of which fits, and behind which none that fits stands
record Front (lines : List Line) (text : List ℕ) (whole before events : List Event) (rest : List ℕ) : Type 0 where
  joined : whole ≡ before ++ events
  can_be : AllByRecursion IsEvent events
  fits : EachFits lines (entries_of whole)
  front : text ≡ told_from before events ++ rest
  stops : Stops lines whole rest

next_fits : (lines : List Line) (whole before : List Event) (e : Event) (events : List Event) → whole ≡ before ++ e ∷ events → EachFits lines (entries_of whole)
    → Fits lines (entries_of before) (entry_of e)
next_fits lines whole before e events joined fits =
    fits (entries_of before) (entry_of e) (entries_of events) (ap entries_of joined ∙ map-append entry_of before (e ∷ events))

first_of : (lines : List Line) (text : List ℕ) (whole before : List Event) (e : Event) (events : List Event) (rest : List ℕ) → Front lines text whole before (e ∷ events) rest
    → text ≡ told_behind before e ++ (told_from (before ++ e ∷ []) events ++ rest)
first_of lines text whole before e events rest k = k.front ∙ append_assoc (told_behind before e) (told_from (before ++ e ∷ []) events) rest

behind_first : (lines : List Line) (text : List ℕ) (whole before : List Event) (e : Event) (events : List Event) (rest : List ℕ) → Front lines text whole before (e ∷ events) rest
    → Front lines (told_from (before ++ e ∷ []) events ++ rest) whole (before ++ e ∷ []) events rest
behind_first lines text whole before e events rest k = record {
  joined = k.joined ∙ sym (append_assoc before (e ∷ []) events);
  can_be = k.can_be.1;
  fits = k.fits;
  front = refl;
  stops = k.stops;
}

same_self : (e : Event) → IsSame e e
same_self (Sent who m) = (refl, refl)
same_self e = refl

-- none stands next where the other list ends
no_more : (lines : List Line) (text : List ℕ) (u v s t : List Event) (e : Event) (events : List Event) (x y : List ℕ) → AreSame s t → Front lines text u s [] x
    → Front lines text v t (e ∷ events) y → ⊥
no_more lines text u v s t e events x y same p q =
    let at : u ≡ s = p.joined ∙ append-nil s in
    let here = same_entries s t same in
    let fits : Fits lines (entries_of u) (entry_of e) =
    subst (λ es. Fits lines es (entry_of e)) (sym here ∙ sym (ap entries_of at)) (next_fits lines v t e events q.joined q.fits) in
    let told : told_behind u e ≡ told_behind t e = ap (λ w. told_behind w e) at ∙ same_told s t e e same (same_self e) in
    let front : x ≡ told_behind u e ++ (told_from (t ++ e ∷ []) events ++ y) =
    sym p.front ∙ first_of lines text v t e events y q ∙ ap (λ l. l ++ (told_from (t ++ e ∷ []) events ++ y)) (sym told) in
    p.stops e (told_from (t ++ e ∷ []) events ++ y) q.can_be.0 fits front

-- a front of the same length is cut off
cut : (a x y : List ℕ) → a ++ x ≡ a ++ y → x ≡ y
cut [] x y e = e
cut (b ∷ a) x y e = let t : a ++ x ≡ a ++ y = cc in cut a x y t

turned_one : (a b : Event) → IsSame a b → IsSame b a
turned_one (Sent w m) (Sent o n) h = (sym h.0, sym h.1)
turned_one (Sent w m) b h = let e : Sent w m ≡ b = h in absurd cc
turned_one a b h = subst (λ c. IsSame c a) h (same_self a)

turned : (s t : List Event) → AreSame s t → AreSame t s
turned [] [] h = tt
turned [] (b ∷ t) h = absurd h
turned (a ∷ s) [] h = absurd h
turned (a ∷ s) (b ∷ t) h = (turned_one a b h.0, turned s t h.1)

record SameFront (s t : List Event) (x y : List ℕ) : Type 0 where
  events : AreSame s t
  rests : x ≡ y

one_front : (lines : List Line) (text : List ℕ) (u v s t es fs : List Event) (x y : List ℕ) → AreSame s t → Front lines text u s es x → Front lines text v t fs y → SameFront es fs x y
one_front lines text u v s t [] [] x y same p q = record { events = tt; rests = sym p.front ∙ q.front }
one_front lines text u v s t [] (f ∷ fs) x y same p q = absurd (no_more lines text u v s t f fs x y same p q)
one_front lines text u v s t (e ∷ es) [] x y same p q = absurd (no_more lines text v u t s e es y x (turned s t same) q p)
one_front lines text u v s t (e ∷ es) (f ∷ fs) x y same p q =
    let a = first_of lines text u s e es x p in
    let b = first_of lines text v t f fs y q in
    let one : IsSame e f = one_event e f (wire_bytes (s ++ e ∷ []) e) (wire_bytes (t ++ f ∷ []) f) (told_from (s ++ e ∷ []) es ++ x) (told_from (t ++ f ∷ []) fs ++ y) text p.can_be.0 q.can_be.0 (itself (s ++ e ∷ []) e) (itself (t ++ f ∷ []) f) a b in
    let rests : told_from (s ++ e ∷ []) es ++ x ≡ told_from (t ++ f ∷ []) fs ++ y =
    cut (told_behind s e) (told_from (s ++ e ∷ []) es ++ x) (told_from (t ++ f ∷ []) fs ++ y)
    (sym a ∙ b ∙ ap (λ l. l ++ (told_from (t ++ f ∷ []) fs ++ y)) (sym (same_told s t e f same one))) in
    let more = one_front lines (told_from (s ++ e ∷ []) es ++ x) u v (s ++ e ∷ []) (t ++ f ∷ []) es fs x y (same_more s t e f same one) (behind_first lines text u s e es x p)
    (subst (λ r. Front lines r v (t ++ f ∷ []) fs y) (sym rests) (behind_first lines text v t f fs y q)) in
    record { events = (one, more.events); rests = more.rests }

whole_front : (lines : List Line) (text : List ℕ) (events : List Event) (rest : List ℕ) → BeginsWith lines text events rest → Stops lines events rest → Front lines text events [] events rest
whole_front lines text events rest k stops = record { joined = refl; can_be = k.can_be; fits = k.fits; front = k.front; stops = stops }

-- one finding
same_some : {A : Type 0} (x y : A) → Some x ≡ Some y → x ≡ y
same_some x y e = cc

some_none : {A : Type 0} (x : A) (o : Option A) → o ≡ Some x → o ≡ None → ⊥
some_none x o e f = let h : Some x ≡ None = sym e ∙ f in cc

same_refused : (n r m q : ℕ) → ◌≡◌ {A = ℕ × ℕ} (n, r) (m, q) → refused n r ≡ refused m q
same_refused n r m q e = ap₂ refused (ap (λ (p : ℕ × ℕ). p.0) e) (ap (λ (p : ℕ × ℕ). p.1) e)

one_finding : (lines : List Line) (fault : Option LineFault) (events : List Event) (rest : List ℕ) (f g : Finding) → IsFound lines fault events rest f → IsFound lines fault events rest g → f ≡ g
one_finding lines fault events rest (refused n r) (refused m q) p k = same_refused n r m q (same_some {A = ℕ × ℕ} (n, r) (m, q) (sym p ∙ k))
one_finding lines fault events rest (refused n r) (lawful c) p k = absurd (some_none {A = ℕ × ℕ} (n, r) (refused_there lines fault (entries_of events)) p k.0)
one_finding lines fault events rest (refused n r) (unlawful m d) p k = absurd (some_none {A = ℕ × ℕ} (n, r) (refused_there lines fault (entries_of events)) p k.0)
one_finding lines fault events rest (lawful c) (refused n r) p k = absurd (some_none {A = ℕ × ℕ} (n, r) (refused_there lines fault (entries_of events)) k p.0)
one_finding lines fault events rest (unlawful m d) (refused n r) p k = absurd (some_none {A = ℕ × ℕ} (n, r) (refused_there lines fault (entries_of events)) k p.0)
one_finding lines fault events rest (lawful c) (lawful d) p k = ap lawful (p.2 ∙ sym k.2)
one_finding lines fault events rest (lawful c) (unlawful m d) p k = absurd (k.1 p.1)
one_finding lines fault events rest (unlawful m d) (lawful c) p k = absurd (p.1 k.1)
one_finding lines fault events rest (unlawful m d) (unlawful n e) p k = ap₂ unlawful (p.2 ∙ sym k.2) (p.3 ∙ sym k.3)

moved : (lines : List Line) (fault : Option LineFault) (s t : List Event) (rest : List ℕ) (f : Finding) → AreSame s t → IsFound lines fault s rest f → IsFound lines fault t rest f
moved lines fault s t rest (refused n r) same k = ap (refused_there lines fault) (sym (same_entries s t same)) ∙ k
moved lines fault s t rest (lawful c) same k =
    let e = same_entries s t same in
    (ap (refused_there lines fault) (sym e) ∙ k.0, subst (λ es. IsWhole lines es rest) e k.1, k.2 ∙ same_lengths s t same)
moved lines fault s t rest (unlawful n d) same k =
    let e = same_entries s t same in (
      ap (refused_there lines fault) (sym e) ∙ k.0,
      λ whole. k.1 (subst (λ es. IsWhole lines es rest) (sym e) whole),
      k.2 ∙ ap suc (same_lengths s t same),
      k.3 ∙ ap (due_behind lines) e,
    )

turned_found : (lines ms : List Line) (fault f : Option LineFault) (events : List Event) (rest r : List ℕ) (found : Finding) → lines ≡ ms → fault ≡ f → rest ≡ r
    → IsFound lines fault events rest found → IsFound ms f events r found
turned_found lines ms fault f events rest r found a b c k =
    subst (λ x. IsFound ms f events x found) c (subst (λ (x : Option LineFault). IsFound ms x events rest found) b (subst (λ (x : List Line). IsFound x fault events rest found) a k))

pub one_verdict : VerdictsAreOne
one_verdict texts text f g p q =
    let script = one_script texts p.lines q.lines p.fault q.fault p.script q.script in
    let left : Front q.lines text p.events [] p.events p.rest =
    subst (λ (ls : List Line). Front ls text p.events [] p.events p.rest) script.0 (whole_front p.lines text p.events p.rest p.begins p.stops) in
    let same = one_front q.lines text p.events q.events [] [] p.events q.events p.rest q.rest tt left (whole_front q.lines text q.events q.rest q.begins q.stops) in
    one_finding q.lines q.fault q.events q.rest f g
    (turned_found p.lines q.lines p.fault q.fault q.events p.rest q.rest f script.0 script.1 same.rests (moved p.lines p.fault p.events q.events p.rest f same.events p.is_found))
    q.is_found
