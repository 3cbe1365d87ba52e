-- What was taken of a stream and written of it, as the statuses say it.
use Rattle.std.proofs.Common.{◌≡◌, ℕ, ◌+◌, ◌-◌, ◌<◌, ◌≤◌, List, [], ◌∷◌, ◌++◌, length, take, drop, Option, None, Some, Result, Ok, Err, refl, sym, ap, subst, ◌∙◌, arith, inl, inr, append_assoc, append-nil}
use Rattle.std.specs.Prelude.{◌≢◌, min, OnOk, OnErr, MatchResult}
use Rattle.std.specs.Io.KnownBytes.{Appends, Consumes, IsAtEnd, Keeps}
use Rattle.std.proofs.lemmas.List.{length-append, length-drop, length-take-le, drop_all, take_at, take-take, take-append-drop}
use Rattle.std.proofs.Math.Seq.{take-append-add}
use Rattle.atspi_base.specs.Outside.{AppendsPart, appends_both, appends_part, consumes_both}
use Rattle.atspi_message.specs.Envelope.{Envelope}
use Rattle.atspi_message.specs.Bytes.{IsMessage}
use Rattle.atspi_types.specs.declared.fault.Fault.{Fault}
use Rattle.atspi_stream.specs.Stream.{AwaitsMore, few, HasFault, AreMessages, bytes_of, IsParted}
use Rattle.atspi_stream.proofs.StreamLaws.{message_states, fault_stays}
use Rattle.atspi_stream.proofs.NextLaws.{history_more, takes_piece}
use Rattle.atspi_run_check.specs.Check.{message_line, check_lines, faulty_lines, IsFrontText, IsCheckStatus, Checked, CheckedAll, CheckedFault, CheckedFront, CheckedTaken, CheckedLimit, CheckedSome, Writes, WritesPart}
use Rattle.atspi_script.specs.FaultText.{fault_line}
use Rattle.atspi_run_check.specs.inner.Taking.{Puts, Shown, Took, TookPart, TakesIn, Told, ToldPart, EndsIn, Ends, whole_end, read_end, write_end, memory_end, fault_end, limit_end, halt_status}
use Rattle.atspi_run_check.specs.declared.lines.Halt.{Halt}
use Rattle.atspi_run_check.specs.declared.lines.Halt.TheVariants as halts
use Rattle.atspi_run_check.specs.declared.checking.End.TheVariants.{Whole, TooLong, Failed}

-- lines of one more message
pub lines_more : (start : ℕ) (ms : List (Envelope × List ℕ)) (e : Envelope) (bytes : List ℕ) → check_lines start (ms ++ (e, bytes) ∷ []) ≡ check_lines start ms ++ message_line (start + length (bytes_of ms)) e
lines_more start [] e bytes = append-nil (message_line start e) ∙ ap (λ (n : ℕ). message_line n e) (omega arith)
lines_more start (m ∷ ms) e bytes =
    let first = message_line start m.0 in
    ap (λ (bs : List ℕ). first ++ bs) (lines_more (start + length m.1) ms e bytes)
    ∙ ap (λ (n : ℕ). first ++ (check_lines (start + length m.1) ms ++ message_line n e)) (omega (arith, length-append m.1 (bytes_of ms)))
    ∙ sym (append_assoc first (check_lines (start + length m.1) ms) (message_line (start + (length (m.1 ++ bytes_of ms))) e))

are_both : (ms ns : List (Envelope × List ℕ)) → AreMessages ms → AreMessages ns → AreMessages (ms ++ ns)
are_both [] ns a b = b
are_both (m ∷ ms) ns a b = (a.0, are_both ms ns a.1 b)

bytes_both : (ms ns : List (Envelope × List ℕ)) → bytes_of (ms ++ ns) ≡ bytes_of ms ++ bytes_of ns
bytes_both [] ns = refl
bytes_both (m ∷ ms) ns = ap (λ (bs : List ℕ). m.1 ++ bs) (bytes_both ms ns) ∙ sym (append_assoc m.1 (bytes_of ms) (bytes_of ns))

lines_both : (start : ℕ) (ms ns : List (Envelope × List ℕ)) → check_lines start (ms ++ ns) ≡ check_lines start ms ++ check_lines (start + length (bytes_of ms)) ns
lines_both start [] ns = ap (λ (n : ℕ). check_lines n ns) (omega arith)
lines_both start (m ∷ ms) ns =
    let first = message_line start m.0 in
    ap (λ (bs : List ℕ). first ++ bs) (lines_both (start + length m.1) ms ns)
    ∙ ap (λ (n : ℕ). first ++ (check_lines (start + length m.1) ms ++ check_lines n ns)) (omega (arith, length-append m.1 (bytes_of ms)))
    ∙ sym (append_assoc first (check_lines (start + length m.1) ms) (check_lines (start + length (m.1 ++ bytes_of ms)) ns))

-- what is held was messages, and what came behind it
pub parted_both : (read held new : List ℕ) (ms ns : List (Envelope × List ℕ)) → IsParted read ms held → IsParted held ns new → IsParted read (ms ++ ns) new
parted_both read held new ms ns a b = record {
  are = are_both ms ns a.are b.are;
  parted = a.parted ∙ ap (λ (bs : List ℕ). bytes_of ms ++ bs) b.parted ∙ sym (append_assoc (bytes_of ms) (bytes_of ns) new) ∙ ap (λ (bs : List ℕ). bs ++ new) (sym (bytes_both ms ns));
}

-- putting text behind text
pub puts_both : (x y z : List ℕ) (u v w : Option (List ℕ)) (s t : List ℕ) → Puts x y u v s → Puts y z v w t → Puts x z u w (s ++ t)
puts_both x y z u v w s t p q = (
  p.0 ++ q.0,
  append_assoc p.0 q.0 z ∙ ap (λ (bs : List ℕ). p.0 ++ bs) q.1 ∙ sym (append_assoc p.0 y t) ∙ ap (λ (bs : List ℕ). bs ++ t) p.1 ∙ append_assoc x s t,
  appends_both u v w p.0 q.0 p.2 q.2,
)

-- and a part of what follows
pub puts_part : (x waits : List ℕ) (u v w : Option (List ℕ)) (text line : List ℕ) → Puts x waits u v text → AppendsPart v w (waits ++ line) → AppendsPart u w (x ++ (text ++ line))
puts_part x waits u v w text line p a =
    let is : p.0 ++ (waits ++ line) ≡ x ++ (text ++ line) = sym (append_assoc p.0 waits line) ∙ ap (λ (bs : List ℕ). bs ++ line) p.1 ∙ append_assoc x text line in
    subst (λ (bs : List ℕ). AppendsPart u w bs) is (appends_part u v w p.0 (waits ++ line) p.2 a)

-- what was put so far is a part
pub puts_some : (x waits : List ℕ) (u v : Option (List ℕ)) (text : List ℕ) → Puts x waits u v text → AppendsPart u v (x ++ text)
puts_some x waits u v text p = (p.0, waits, p.1, p.2)

-- what the texts of the statuses are, of an input of which these messages were read

pub text_all : (limit : ℕ) (input read held : List ℕ) (ms : List (Envelope × List ℕ)) → input ≡ read → length read ≤ limit → IsParted read ms held → length held ≡ 0 → CheckedAll limit input (check_lines 0 ms)
text_all limit input read [] ms e l p none = (omega (arith, ap length e, l), record { messages = ms; parted = record { are = p.are; parted = e ∙ p.parted }; are = refl })
text_all limit input read (x ∷ held) ms e l p none = absurd (omega (arith, none))

not_none : (held : List ℕ) → (length held ≡ 0 → ⊥) → held ≢ []
not_none held some none = some (ap length none)

pub text_cut : (limit : ℕ) (input read held : List ℕ) (ms : List (Envelope × List ℕ)) → input ≡ read → length read ≤ limit → IsParted read ms held → (length held ≡ 0 → ⊥) → AwaitsMore held → CheckedFault limit input (faulty_lines ms (length held) 36)
text_cut limit input read held ms e l p some w =
    inl (omega (arith, ap length e, l), record { messages = ms; rest = held; parted = record { are = p.are; parted = e ∙ p.parted }; some = not_none held some; awaits = w; are = refl })

inside : (limit : ℕ) (input read more : List ℕ) → input ≡ read ++ more → length read ≤ limit → take limit input ≡ read ++ take (limit - length read) more
inside limit input read more e l =
    let split : limit ≡ length read + (limit - length read) = omega (arith, l) in
    ap (λ (bs : List ℕ). take limit bs) e ∙ ap (λ (n : ℕ). take n (read ++ more)) split ∙ take-append-add read more (limit - length read)

pub text_fault : (limit : ℕ) (input read more rest held : List ℕ) (ms : List (Envelope × List ℕ)) (place reason : ℕ) → input ≡ (read ++ more) ++ rest → length read ≤ limit → IsParted read ms held → HasFault held place reason
    → CheckedFault limit input (faulty_lines ms place reason)
text_fault limit input read more rest held ms place reason e l p f =
    let extra = take (limit - length read) (more ++ rest) in
    let front = inside limit input read (more ++ rest) (e ∙ append_assoc read more rest) l in
    inr (record {
      messages = ms;
      rest = held ++ extra;
      place = place;
      reason = reason;
      parted = record { are = p.are; parted = front ∙ ap (λ (bs : List ℕ). bs ++ extra) p.parted ∙ append_assoc (bytes_of ms) held extra };
      fault = fault_stays held extra place reason f;
      are = refl;
    })

pub text_limit : (limit : ℕ) (input read more rest held : List ℕ) (ms : List (Envelope × List ℕ)) → input ≡ (read ++ more) ++ rest → 0 < length more → length read ≡ limit → IsParted read ms held → AwaitsMore held → CheckedLimit limit input (check_lines 0 ms)
text_limit limit input read more rest held ms e some full p w =
    let e' : input ≡ read ++ (more ++ rest) = e ∙ append_assoc read more rest in
    let front : take limit input ≡ read = ap (λ (bs : List ℕ). take limit bs) e' ∙ take_at read (more ++ rest) limit full in (
      omega (arith, ap length e', length-append read (more ++ rest), length-append more rest, some, full),
      record { messages = ms; rest = held; parted = record { are = p.are; parted = front ∙ p.parted }; awaits = w; are = refl },
    )

pub text_front : (input read rest held : List ℕ) (ms : List (Envelope × List ℕ)) → input ≡ read ++ rest → IsParted read ms held → CheckedFront input (check_lines 0 ms)
text_front input read rest held ms e p = (
  bytes_of ms,
  held ++ rest,
  e ∙ ap (λ (bs : List ℕ). bs ++ rest) p.parted ∙ append_assoc (bytes_of ms) held rest,
  record { messages = ms; rest = []; parted = record { are = p.are; parted = sym (append-nil (bytes_of ms)) }; awaits = few (omega arith); are = refl },
)

-- of what the source told

at_end : (left left' : Option (List ℕ)) (bytes : List ℕ) → Consumes left left' bytes → IsAtEnd left' → Consumes left (Some []) bytes
at_end None left' bytes p end = tt
at_end (Some xs) None bytes p end = absurd p
at_end (Some xs) (Some ys) bytes p end = p ∙ ap (λ (r : List ℕ). bytes ++ r) end

no_more : (left left' : Option (List ℕ)) (read more : List ℕ) → Consumes left left' (read ++ more) → more ≡ [] → Consumes left left' read
no_more left left' read more p none = subst (λ (bs : List ℕ). Consumes left left' bs) (ap (λ (bs : List ℕ). read ++ bs) none ∙ append-nil read) p

writes_by : (left left' u w : Option (List ℕ)) (bytes text : List ℕ) (P : List ℕ → List ℕ → Type 0) → Consumes left left' bytes → ((input rest : List ℕ) → input ≡ bytes ++ rest → P input text) → Appends u w text → Writes left u w P
writes_by None left' u w bytes text P p c a = tt
writes_by (Some input) None u w bytes text P p c a = absurd p
writes_by (Some input) (Some rest) u w bytes text P p c a = (text, c input rest p, a)

writes_taken : (left left' u w : Option (List ℕ)) (bytes text : List ℕ) → Consumes left left' bytes → IsFrontText bytes text → Appends u w text → Writes left u w (CheckedTaken left')
writes_taken None left' u w bytes text p f a = tt
writes_taken (Some input) None u w bytes text p f a = absurd p
writes_taken (Some input) (Some rest) u w bytes text p f a = (text, (bytes, p, f), a)

part_by : (left left' u w : Option (List ℕ)) (bytes text : List ℕ) (P : List ℕ → List ℕ → Type 0) → Consumes left left' bytes → ((input rest : List ℕ) → input ≡ bytes ++ rest → P input text) → AppendsPart u w text → WritesPart left u w P
part_by None left' u w bytes text P p c a = tt
part_by (Some input) None u w bytes text P p c a = absurd p
part_by (Some input) (Some rest) u w bytes text P p c a = (text, c input rest p, a)

writes_all : (left left' u w : Option (List ℕ)) (bytes text : List ℕ) (P : List ℕ → List ℕ → Type 0) → Consumes left left' bytes → IsAtEnd left' → ((input : List ℕ) → input ≡ bytes → P input text) → Appends u w text → Writes left u w P
writes_all None left' u w bytes text P p end c a = tt
writes_all (Some input) None u w bytes text P p end c a = absurd p
writes_all (Some input) (Some rest) u w bytes text P p end c a = (text, c input (p ∙ ap (λ (r : List ℕ). bytes ++ r) end ∙ append-nil bytes), a)

part_all : (left left' u w : Option (List ℕ)) (bytes text : List ℕ) (P : List ℕ → List ℕ → Type 0) → Consumes left left' bytes → IsAtEnd left' → ((input : List ℕ) → input ≡ bytes → P input text) → AppendsPart u w text → WritesPart left u w P
part_all None left' u w bytes text P p end c a = tt
part_all (Some input) None u w bytes text P p end c a = absurd p
part_all (Some input) (Some rest) u w bytes text P p end c a = (text, c input (p ∙ ap (λ (r : List ℕ). bytes ++ r) end ∙ append-nil bytes), a)

all_put : (waits : List ℕ) (u v w : Option (List ℕ)) (text : List ℕ) → Puts [] waits u v text → Appends v w waits → Appends u w text
all_put waits u v w text p a = subst (λ (bs : List ℕ). Appends u w bs) p.1 (appends_both u v w p.0 waits p.2 a)

part_put : (waits : List ℕ) (u v w : Option (List ℕ)) (text : List ℕ) → Puts [] waits u v text → AppendsPart v w waits → AppendsPart u w text
part_put waits u v w text p a = subst (λ (bs : List ℕ). AppendsPart u w bs) p.1 (appends_part u v w p.0 waits p.2 a)

-- all of it is a part
all_part : (u v : Option (List ℕ)) (text : List ℕ) → Appends u v text → AppendsPart u v text
all_part u v text a = (text, [], append-nil text, a)

-- lines that were put, and written then
pub told_shown : (fault : Option Fault) (start : ℕ) (old new waited waits : List ℕ) (u v w : Option (List ℕ)) → waited ≡ [] → Told fault start old new waited waits u v → Appends v w waits → Shown fault start old new u w
told_shown fault start old new waited waits u v w none t a = record {
  messages = t.messages;
  parted = t.parted;
  end = t.end;
  written = all_put waits u v w (check_lines start t.messages) (subst (λ (bs : List ℕ). Puts bs waits u v (check_lines start t.messages)) none t.puts) a;
}

-- lines that were put, of which a part was written then
pub told_part : (fault : Option Fault) (start : ℕ) (old new waited waits : List ℕ) (u v w : Option (List ℕ)) → waited ≡ [] → Told fault start old new waited waits u v → AppendsPart v w waits → ToldPart start old [] u w
told_part fault start old new waited waits u v w none t a = record {
  messages = t.messages;
  rest = new;
  parted = t.parted;
  part = part_put waits u v w (check_lines start t.messages) (subst (λ (bs : List ℕ). Puts bs waits u v (check_lines start t.messages)) none t.puts) a;
}

-- each way to end

pub ends_whole : (left left' : Option (List ℕ)) (held : List ℕ) (fed : ℕ) (u w : Option (List ℕ)) → TakesIn Whole left left' held fed u w → length held ≡ 0 → Ends 0 left left' u w
ends_whole left left' held fed u w x none =
    let t = x.0 in
    whole_end refl x.3 (writes_all left left' u w t.read (check_lines 0 t.messages) (CheckedAll 1073741824) (no_more left left' t.read t.more t.consumed x.1) x.3
    (λ input e. text_all 1073741824 input t.read held t.messages e (omega (arith, t.counted, t.within)) t.parted none) t.written)

pub ends_failed : (left left' : Option (List ℕ)) (held : List ℕ) (fed : ℕ) (u w : Option (List ℕ)) → TakesIn Failed left left' held fed u w → Ends 3 left left' u w
ends_failed left left' held fed u w x =
    let t = x.0 in
    read_end refl (writes_taken left left' u w t.read (check_lines 0 t.messages) (no_more left left' t.read t.more t.consumed x.1)
    (record { messages = t.messages; rest = held; parted = t.parted; awaits = x.2; are = refl }) t.written)

pub ends_limit : (left left' : Option (List ℕ)) (held : List ℕ) (fed : ℕ) (u w : Option (List ℕ)) → TakesIn TooLong left left' held fed u w → Ends 8 left left' u w
ends_limit left left' held fed u w x =
    let t = x.0 in
    limit_end refl (writes_by left left' u w (t.read ++ t.more) (check_lines 0 t.messages) (CheckedLimit 1073741824) t.consumed
    (λ input rest e. text_limit 1073741824 input t.read t.more rest held t.messages e x.1 (t.counted ∙ x.2) t.parted x.3) t.written)

-- where the messages end
pub starts_at : (left left' : Option (List ℕ)) (held : List ℕ) (fed : ℕ) (u v : Option (List ℕ)) (t : Took left left' held fed u v) → fed - length held ≡ length (bytes_of t.messages)
starts_at left left' held fed u v t = omega (arith, t.counted, ap length t.parted.parted, length-append (bytes_of t.messages) held)

-- the answer of the fault's line decides
decided : {T : Type 0} (status : ℕ) (r : Result T Halt) (left left' u w : Option (List ℕ)) (A B : Type 0) → MatchResult r (λ _. status ≡ 6) (λ halt. status ≡ halt_status halt) → OnOk r A → OnErr r B
    → (A → Writes left u w (CheckedFault 1073741824)) → (B → WritesPart left u w (CheckedSome 1073741824)) → Ends status left left' u w
decided status (Ok x) left left' u w A B is ok err f g = fault_end is (f ok)
decided status (Err halts.Write) left left' u w A B is ok err f g = write_end is (g err)
decided status (Err halts.NoMemory) left left' u w A B is ok err f g = memory_end is (g err)

pub ends_cut : {T : Type 0} (status start count : ℕ) (r : Result T Halt) (left left' : Option (List ℕ)) (held : List ℕ) (fed : ℕ) (u v w : Option (List ℕ)) → TakesIn Whole left left' held fed u v → (length held ≡ 0 → ⊥) → start ≡ fed - length held → count ≡ length held
    → MatchResult r (λ _. status ≡ 6) (λ halt. status ≡ halt_status halt) → OnOk r (Appends v w (fault_line start count 36)) → OnErr r (AppendsPart v w (fault_line start count 36)) → Ends status left left' u w
ends_cut status start count r left left' held fed u v w x some at many is ok err =
    let t = x.0 in
    let line = fault_line start count 36 in
    let lines = check_lines 0 t.messages in
    let begin : start ≡ length (bytes_of t.messages) = at ∙ starts_at left left' held fed u v t in
    let text : lines ++ line ≡ faulty_lines t.messages (length held) 36 = ap (λ (n : ℕ). lines ++ fault_line n count 36) begin ∙ ap (λ (n : ℕ). faulty_lines t.messages n 36) many in
    let c : (input : List ℕ) → input ≡ t.read → CheckedFault 1073741824 input (lines ++ line) = λ input e. subst (λ (bs : List ℕ). CheckedFault 1073741824 input bs) (sym text)
    (text_cut 1073741824 input t.read held t.messages e (omega (arith, t.counted, t.within)) t.parted some x.2) in
    decided status r left left' u w (Appends v w line) (AppendsPart v w line) is ok err
    (λ a. writes_all left left' u w t.read (lines ++ line) (CheckedFault 1073741824) (no_more left left' t.read t.more t.consumed x.1) x.3 c (appends_both u v w lines line t.written a))
    (λ b. part_all left left' u w t.read (lines ++ line) (CheckedSome 1073741824) (no_more left left' t.read t.more t.consumed x.1) x.3 (λ input e. inr (c input e)) (appends_part u v w lines line t.written b))

pub ends_fault : {T : Type 0} (status start place reason : ℕ) (r : Result T Halt) (left left' : Option (List ℕ)) (held : List ℕ) (fed : ℕ) (u v w : Option (List ℕ)) → Took left left' held fed u v → HasFault held place reason → start ≡ fed - length held
    → MatchResult r (λ _. status ≡ 6) (λ halt. status ≡ halt_status halt) → OnOk r (Appends v w (fault_line start place reason)) → OnErr r (AppendsPart v w (fault_line start place reason)) → Ends status left left' u w
ends_fault status start place reason r left left' held fed u v w t f at is ok err =
    let line = fault_line start place reason in
    let lines = check_lines 0 t.messages in
    let begin : start ≡ length (bytes_of t.messages) = at ∙ starts_at left left' held fed u v t in
    let text : lines ++ line ≡ faulty_lines t.messages place reason = ap (λ (n : ℕ). lines ++ fault_line n place reason) begin in
    let c : (input rest : List ℕ) → input ≡ (t.read ++ t.more) ++ rest → CheckedFault 1073741824 input (lines ++ line) = λ input rest e. subst (λ (bs : List ℕ). CheckedFault 1073741824 input bs) (sym text)
    (text_fault 1073741824 input t.read t.more rest held t.messages place reason e (omega (arith, t.counted, t.within)) t.parted f) in
    decided status r left left' u w (Appends v w line) (AppendsPart v w line) is ok err
    (λ a. writes_by left left' u w (t.read ++ t.more) (lines ++ line) (CheckedFault 1073741824) t.consumed c (appends_both u v w lines line t.written a))
    (λ b. part_by left left' u w (t.read ++ t.more) (lines ++ line) (CheckedSome 1073741824) t.consumed (λ input rest e. inr (c input rest e)) (appends_part u v w lines line t.written b))

-- lines that could not all be put
halted : (left left' u w : Option (List ℕ)) → TookPart left left' u w → WritesPart left u w (CheckedSome 1073741824)
halted left left' u w t =
    part_by left left' u w (t.read ++ t.more) (check_lines 0 t.messages) (CheckedSome 1073741824) t.consumed
    (λ input rest e. inl (text_front input t.read (t.more ++ rest) t.rest t.messages (e ∙ append_assoc t.read t.more rest) t.parted)) t.part

pub ends_halted : (halt : Halt) (status : ℕ) (left left' u w : Option (List ℕ)) → status ≡ halt_status halt → TookPart left left' u w → Ends status left left' u w
ends_halted halts.Write status left left' u w is t = write_end is (halted left left' u w t)
ends_halted halts.NoMemory status left left' u w is t = memory_end is (halted left left' u w t)

-- what a status says

ends_status : (status : ℕ) (left left' u w : Option (List ℕ)) → Ends status left left' u w → IsCheckStatus status
ends_status status left left' u w (whole_end is end x) = inl is
ends_status status left left' u w (read_end is x) = inr (inl is)
ends_status status left left' u w (write_end is x) = inr (inr (inl is))
ends_status status left left' u w (memory_end is x) = inr (inr (inr (inl is)))
ends_status status left left' u w (fault_end is x) = inr (inr (inr (inr (inl is))))
ends_status status left left' u w (limit_end is x) = inr (inr (inr (inr (inr is))))

on_0 : (status : ℕ) (left left' u w : Option (List ℕ)) → Ends status left left' u w → status ≡ 0 → Writes left u w (CheckedAll 1073741824)
on_0 status left left' u w (whole_end is end x) e = x
on_0 status left left' u w (read_end is x) e = absurd (omega (arith, is, e))
on_0 status left left' u w (write_end is x) e = absurd (omega (arith, is, e))
on_0 status left left' u w (memory_end is x) e = absurd (omega (arith, is, e))
on_0 status left left' u w (fault_end is x) e = absurd (omega (arith, is, e))
on_0 status left left' u w (limit_end is x) e = absurd (omega (arith, is, e))

on_3 : (status : ℕ) (left left' u w : Option (List ℕ)) → Ends status left left' u w → status ≡ 3 → Writes left u w (CheckedTaken left')
on_3 status left left' u w (whole_end is end x) e = absurd (omega (arith, is, e))
on_3 status left left' u w (read_end is x) e = x
on_3 status left left' u w (write_end is x) e = absurd (omega (arith, is, e))
on_3 status left left' u w (memory_end is x) e = absurd (omega (arith, is, e))
on_3 status left left' u w (fault_end is x) e = absurd (omega (arith, is, e))
on_3 status left left' u w (limit_end is x) e = absurd (omega (arith, is, e))

on_4 : (status : ℕ) (left left' u w : Option (List ℕ)) → Ends status left left' u w → status ≡ 4 → WritesPart left u w (CheckedSome 1073741824)
on_4 status left left' u w (whole_end is end x) e = absurd (omega (arith, is, e))
on_4 status left left' u w (read_end is x) e = absurd (omega (arith, is, e))
on_4 status left left' u w (write_end is x) e = x
on_4 status left left' u w (memory_end is x) e = absurd (omega (arith, is, e))
on_4 status left left' u w (fault_end is x) e = absurd (omega (arith, is, e))
on_4 status left left' u w (limit_end is x) e = absurd (omega (arith, is, e))

on_5 : (status : ℕ) (left left' u w : Option (List ℕ)) → Ends status left left' u w → status ≡ 5 → WritesPart left u w (CheckedSome 1073741824)
on_5 status left left' u w (whole_end is end x) e = absurd (omega (arith, is, e))
on_5 status left left' u w (read_end is x) e = absurd (omega (arith, is, e))
on_5 status left left' u w (write_end is x) e = absurd (omega (arith, is, e))
on_5 status left left' u w (memory_end is x) e = x
on_5 status left left' u w (fault_end is x) e = absurd (omega (arith, is, e))
on_5 status left left' u w (limit_end is x) e = absurd (omega (arith, is, e))

on_6 : (status : ℕ) (left left' u w : Option (List ℕ)) → Ends status left left' u w → status ≡ 6 → Writes left u w (CheckedFault 1073741824)
on_6 status left left' u w (whole_end is end x) e = absurd (omega (arith, is, e))
on_6 status left left' u w (read_end is x) e = absurd (omega (arith, is, e))
on_6 status left left' u w (write_end is x) e = absurd (omega (arith, is, e))
on_6 status left left' u w (memory_end is x) e = absurd (omega (arith, is, e))
on_6 status left left' u w (fault_end is x) e = x
on_6 status left left' u w (limit_end is x) e = absurd (omega (arith, is, e))

on_8 : (status : ℕ) (left left' u w : Option (List ℕ)) → Ends status left left' u w → status ≡ 8 → Writes left u w (CheckedLimit 1073741824)
on_8 status left left' u w (whole_end is end x) e = absurd (omega (arith, is, e))
on_8 status left left' u w (read_end is x) e = absurd (omega (arith, is, e))
on_8 status left left' u w (write_end is x) e = absurd (omega (arith, is, e))
on_8 status left left' u w (memory_end is x) e = absurd (omega (arith, is, e))
on_8 status left left' u w (fault_end is x) e = absurd (omega (arith, is, e))
on_8 status left left' u w (limit_end is x) e = x

at_end_on_0 : (status : ℕ) (left left' u w : Option (List ℕ)) → Ends status left left' u w → status ≡ 0 → IsAtEnd left'
at_end_on_0 status left left' u w (whole_end is end x) e = end
at_end_on_0 status left left' u w (read_end is x) e = absurd (omega (arith, is, e))
at_end_on_0 status left left' u w (write_end is x) e = absurd (omega (arith, is, e))
at_end_on_0 status left left' u w (memory_end is x) e = absurd (omega (arith, is, e))
at_end_on_0 status left left' u w (fault_end is x) e = absurd (omega (arith, is, e))
at_end_on_0 status left left' u w (limit_end is x) e = absurd (omega (arith, is, e))

pub ends_checked : (status : ℕ) (left left' u w : Option (List ℕ)) → Ends status left left' u w → Checked 1073741824 status left left' u w
ends_checked status left left' u w e = record {
  known = ends_status status left left' u w e;
  ended = at_end_on_0 status left left' u w e;
  checked = on_0 status left left' u w e;
  fault = on_6 status left left' u w e;
  read = on_3 status left left' u w e;
  past = on_8 status left left' u w e;
  write = on_4 status left left' u w e;
  memory = on_5 status left left' u w e;
}

-- telling the whole messages that are held

pub record Telling (start : ℕ) (old held waited waits : List ℕ) (w w' : Option (List ℕ)) : Type 0 where
  pub messages : List (Envelope × List ℕ)
  pub parted : IsParted old messages held
  pub puts : Puts waited waits w w' (check_lines start messages)

nothing : (o : Option (List ℕ)) → Appends o o []
nothing None = tt
nothing (Some bytes) = sym (append-nil bytes)

pub telling_none : (start : ℕ) (old waited : List ℕ) (w : Option (List ℕ)) → Telling start old old waited waited w w
telling_none start old waited w = record { messages = []; parted = record { are = tt; parted = refl }; puts = ([], sym (append-nil waited), nothing w) }

starts : (fed : ℕ) (old held waited waits : List ℕ) (w w' : Option (List ℕ)) (t : Telling (fed - length old) old held waited waits w w') → length old ≤ fed → fed - length held ≡ (fed - length old) + length (bytes_of t.messages)
starts fed old held waited waits w w' t l = omega (arith, l, ap length t.parted.parted, length-append (bytes_of t.messages) held)

pub telling_more : (fed : ℕ) (old held new waited waits waits' : List ℕ) (w w' w'' : Option (List ℕ)) (e : Envelope) (bytes : List ℕ) → Telling (fed - length old) old held waited waits w w' → length old ≤ fed → IsMessage e bytes → held ≡ bytes ++ new
    → Puts waits waits' w' w'' (message_line (fed - length held) e) → Telling (fed - length old) old new waited waits' w w''
telling_more fed old held new waited waits waits' w w' w'' e bytes t l is front p =
    let lines : check_lines (fed - length old) t.messages ++ message_line (fed - length held) e ≡ check_lines (fed - length old) (t.messages ++ (e, bytes) ∷ []) =
    ap (λ (n : ℕ). check_lines (fed - length old) t.messages ++ message_line n e) (starts fed old held waited waits w w' t l) ∙ sym (lines_more (fed - length old) t.messages e bytes)
    in
    record {
      messages = t.messages ++ (e, bytes) ∷ [];
      parted = history_more old t.messages e bytes held new t.parted is front;
      puts = subst (λ (bs : List ℕ). Puts waited waits' w w'' bs) lines (puts_both waited waits waits' w w' w'' (check_lines (fed - length old) t.messages) (message_line (fed - length held) e) t.puts p);
    }

pub telling_part : (fed : ℕ) (old held new waited waits : List ℕ) (w w' w'' : Option (List ℕ)) (e : Envelope) (bytes : List ℕ) → Telling (fed - length old) old held waited waits w w' → length old ≤ fed → IsMessage e bytes → held ≡ bytes ++ new
    → AppendsPart w' w'' (waits ++ message_line (fed - length held) e) → ToldPart (fed - length old) old waited w w''
telling_part fed old held new waited waits w w' w'' e bytes t l is front p =
    let lines : check_lines (fed - length old) t.messages ++ message_line (fed - length held) e ≡ check_lines (fed - length old) (t.messages ++ (e, bytes) ∷ []) =
    ap (λ (n : ℕ). check_lines (fed - length old) t.messages ++ message_line n e) (starts fed old held waited waits w w' t l) ∙ sym (lines_more (fed - length old) t.messages e bytes)
    in
    record {
      messages = t.messages ++ (e, bytes) ∷ [];
      rest = new;
      parted = history_more old t.messages e bytes held new t.parted is front;
      part = subst (λ (bs : List ℕ). AppendsPart w w'' (waited ++ bs)) lines (puts_part waited waits w w' w'' (check_lines (fed - length old) t.messages) (message_line (fed - length held) e) t.puts p);
    }

pub telling_halted : (start : ℕ) (old held waited waits : List ℕ) (w w' : Option (List ℕ)) → Telling start old held waited waits w w' → ToldPart start old waited w w'
telling_halted start old held waited waits w w' t = record { messages = t.messages; rest = held; parted = t.parted; part = puts_some waited waits w w' (check_lines start t.messages) t.puts }

pub telling_ends : (fault : Option Fault) (start : ℕ) (old held new waited waits : List ℕ) (w w' : Option (List ℕ)) → Telling start old held waited waits w w' → new ≡ held → EndsIn fault held → Told fault start old new waited waits w w'
telling_ends fault start old held new waited waits w w' t same end = record {
  messages = t.messages;
  parted = subst (λ (bs : List ℕ). IsParted old t.messages bs) (sym same) t.parted;
  end = subst (λ (bs : List ℕ). EndsIn fault bs) (sym same) end;
  puts = t.puts;
}

pub shorter : (e : Envelope) (bytes old new : List ℕ) → IsMessage e bytes → old ≡ bytes ++ new → length new < length old
shorter e bytes old new is front = let s = message_states e bytes is in omega (arith, s.long, ap length front, length-append bytes new)

-- taking in pieces

pub record Taking (left left' : Option (List ℕ)) (held : List ℕ) (fed : ℕ) (w w' : Option (List ℕ)) : Type 0 where
  pub took : Took left left' held fed w w'
  pub none : took.more ≡ []
  pub awaits : AwaitsMore held

consumes_none : (o : Option (List ℕ)) → Consumes o o []
consumes_none None = tt
consumes_none (Some bytes) = refl

pub taking_none : (left : Option (List ℕ)) (held : List ℕ) (w : Option (List ℕ)) → held ≡ [] → Taking left left held 0 w w
taking_none left held w h = record {
  took = record {
    read = [];
    more = [];
    messages = [];
    consumed = consumes_none left;
    parted = record { are = tt; parted = sym h };
    counted = refl;
    within = omega arith;
    written = nothing w;
  };
  none = refl;
  awaits = few (omega (arith, ap length h));
}

keeps_consumed : (a b c : Option (List ℕ)) (bytes : List ℕ) → Consumes a b bytes → Keeps b c → Consumes a c bytes
keeps_consumed None b c bytes p k = tt
keeps_consumed (Some a) None c bytes p k = absurd p
keeps_consumed (Some a) (Some b) None bytes p k = absurd k
keeps_consumed (Some a) (Some b) (Some c) bytes p k = p ∙ ap (λ (bs : List ℕ). bytes ++ bs) (sym k)

pub took_failed : (left left' left'' : Option (List ℕ)) (held : List ℕ) (fed : ℕ) (w w' : Option (List ℕ)) → Taking left left' held fed w w' → Keeps left' left'' → TakesIn Failed left left'' held fed w w'
took_failed left left' left'' held fed w w' t k =
    (record { read = t.took.read; more = t.took.more; messages = t.took.messages; consumed = keeps_consumed left left' left'' (t.took.read ++ t.took.more) t.took.consumed k; parted = t.took.parted; counted = t.took.counted; within = t.took.within; written = t.took.written }, t.none, t.awaits)

more_consumed : (left left' left'' : Option (List ℕ)) (read more bytes : List ℕ) → Consumes left left' (read ++ more) → more ≡ [] → Consumes left' left'' bytes → Consumes left left'' (read ++ bytes)
more_consumed left left' left'' read more bytes p none q =
    subst (λ (bs : List ℕ). Consumes left left'' (bs ++ bytes)) (ap (λ (bs : List ℕ). read ++ bs) none ∙ append-nil read) (consumes_both left left' left'' (read ++ more) bytes p q)

pub took_whole : (left left' left'' : Option (List ℕ)) (held : List ℕ) (fed : ℕ) (piece : List ℕ) (n : ℕ) (w w' : Option (List ℕ)) → Taking left left' held fed w w' → n ≡ 0 → Consumes left' left'' (take n piece) → IsAtEnd left'' → TakesIn Whole left left'' held fed w w'
took_whole left left' left'' held fed piece n w w' t none c end = (
  record {
    read = t.took.read;
    more = [];
    messages = t.took.messages;
    consumed = subst (λ (m : ℕ). Consumes left left'' (t.took.read ++ take m piece)) none (more_consumed left left' left'' t.took.read t.took.more (take n piece) t.took.consumed t.none c);
    parted = t.took.parted;
    counted = t.took.counted;
    within = t.took.within;
    written = t.took.written;
  },
  refl,
  t.awaits,
  end,
)

-- a piece that is cut in two
cut : (read piece : List ℕ) (n taken : ℕ) → taken ≤ n → (read ++ take taken piece) ++ drop taken (take n piece) ≡ read ++ take n piece
cut read piece n taken l =
    append_assoc read (take taken piece) (drop taken (take n piece))
    ∙ ap (λ (bs : List ℕ). read ++ bs) (ap (λ (bs : List ℕ). bs ++ drop taken (take n piece)) (sym (take-take taken n piece l)) ∙ take-append-drop taken (take n piece))

-- what a piece was taken of
pub record Piece (left left' left'' : Option (List ℕ)) (held now : List ℕ) (fed taken n : ℕ) (piece : List ℕ) (w w' : Option (List ℕ)) : Type 0 where
  pub taking : Taking left left' held fed w w'
  pub consumed : Consumes left' left'' (take n piece)
  pub short : taken ≤ n
  pub long : n ≤ length piece
  pub room : taken ≤ 1073741824 - fed
  pub fed_ : now ≡ held ++ take taken piece

abbrev read_of : {left left' left'' : Option (List ℕ)} {held now : List ℕ} {fed taken n : ℕ} {piece : List ℕ} {w w' : Option (List ℕ)} → Piece left left' left'' held now fed taken n piece w w' → List ℕ
read_of {taken = taken} {piece = piece} x = x.taking.took.read ++ take taken piece

piece_begins : (fed taken : ℕ) (read held now part : List ℕ) (ms : List (Envelope × List ℕ)) → length read ≡ fed → read ≡ bytes_of ms ++ held → now ≡ held ++ part → length part ≡ taken → fed + taken - length now ≡ 0 + length (bytes_of ms)
piece_begins fed taken read held now part ms counted parted fed_ long =
    omega (arith, counted, ap length parted, length-append (bytes_of ms) held, ap length fed_, length-append held part, long)

pub took_more : (fault : Option Fault) (left left' left'' : Option (List ℕ)) (held now new : List ℕ) (fed taken n : ℕ) (piece : List ℕ) (w w' w'' : Option (List ℕ)) → Piece left left' left'' held now fed taken n piece w w'
    → Shown fault (fed + taken - length now) now new w' w'' → (t : Took left left'' new (fed + taken) w w'') × (t.more ≡ drop taken (take n piece))
took_more fault left left' left'' held now new fed taken n piece w w' w'' x told =
    let k = x.taking.took in
    let part = take taken piece in
    let long : length part ≡ taken = length-take-le taken piece (omega (arith, x.short, x.long)) in
    let begins = piece_begins fed taken k.read held now part k.messages k.counted k.parted.parted x.fed_ long in
    let behind : IsParted (k.read ++ part) k.messages now = takes_piece held part now x.fed_ k.read k.messages k.parted in
    let lines : check_lines 0 k.messages ++ check_lines (fed + taken - length now) told.messages ≡ check_lines 0 (k.messages ++ told.messages) =
    ap (λ (m : ℕ). check_lines 0 k.messages ++ check_lines m told.messages) begins ∙ sym (lines_both 0 k.messages told.messages)
    in (
      record {
        read = k.read ++ part;
        more = drop taken (take n piece);
        messages = k.messages ++ told.messages;
        consumed = subst (λ (bs : List ℕ). Consumes left left'' bs) (sym (cut k.read piece n taken x.short)) (more_consumed left left' left'' k.read k.more (take n piece) k.consumed x.taking.none x.consumed);
        parted = parted_both (k.read ++ part) now new k.messages told.messages behind told.parted;
        counted = omega (arith, length-append k.read part, long, k.counted);
        within = omega (arith, x.room, k.within);
        written = subst (λ (bs : List ℕ). Appends w w'' bs) lines (appends_both w w' w'' (check_lines 0 k.messages) (check_lines (fed + taken - length now) told.messages) k.written told.written);
      },
      refl,
    )

pub took_part : (left left' left'' : Option (List ℕ)) (held now : List ℕ) (fed taken n : ℕ) (piece : List ℕ) (w w' w'' : Option (List ℕ)) → Piece left left' left'' held now fed taken n piece w w'
    → ToldPart (fed + taken - length now) now [] w' w'' → TookPart left left'' w w''
took_part left left' left'' held now fed taken n piece w w' w'' x told =
    let k = x.taking.took in
    let part = take taken piece in
    let long : length part ≡ taken = length-take-le taken piece (omega (arith, x.short, x.long)) in
    let begins = piece_begins fed taken k.read held now part k.messages k.counted k.parted.parted x.fed_ long in
    let behind : IsParted (k.read ++ part) k.messages now = takes_piece held part now x.fed_ k.read k.messages k.parted in
    let lines : check_lines 0 k.messages ++ check_lines (fed + taken - length now) told.messages ≡ check_lines 0 (k.messages ++ told.messages) =
    ap (λ (m : ℕ). check_lines 0 k.messages ++ check_lines m told.messages) begins ∙ sym (lines_both 0 k.messages told.messages)
    in
    record {
      read = k.read ++ part;
      more = drop taken (take n piece);
      messages = k.messages ++ told.messages;
      rest = told.rest;
      consumed = subst (λ (bs : List ℕ). Consumes left left'' bs) (sym (cut k.read piece n taken x.short)) (more_consumed left left' left'' k.read k.more (take n piece) k.consumed x.taking.none x.consumed);
      parted = parted_both (k.read ++ part) now told.rest k.messages told.messages behind told.parted;
      part = subst (λ (bs : List ℕ). AppendsPart w w'' bs) lines (appends_part w w' w'' (check_lines 0 k.messages) (check_lines (fed + taken - length now) told.messages) k.written told.part);
    }

-- a piece that found no memory
pub took_nothing : (left left' left'' : Option (List ℕ)) (held : List ℕ) (fed : ℕ) (bytes : List ℕ) (w w' : Option (List ℕ)) → Taking left left' held fed w w' → Consumes left' left'' bytes → TookPart left left'' w w'
took_nothing left left' left'' held fed bytes w w' t c = record {
  read = t.took.read;
  more = bytes;
  messages = t.took.messages;
  rest = held;
  consumed = more_consumed left left' left'' t.took.read t.took.more bytes t.took.consumed t.none c;
  parted = t.took.parted;
  part = all_part w w' (check_lines 0 t.took.messages) t.took.written;
}

pub no_rest : (piece : List ℕ) (n taken : ℕ) → taken ≡ n → n ≤ length piece → drop taken (take n piece) ≡ []
no_rest piece n taken e l = drop_all taken (take n piece) (omega (arith, length-take-le n piece l, e))

pub some_rest : (piece : List ℕ) (n taken : ℕ) → taken < n → n ≤ length piece → 0 < length (drop taken (take n piece))
some_rest piece n taken e l = omega (arith, length-drop taken (take n piece), length-take-le n piece l, e)

pub a_piece : (left left' left'' : Option (List ℕ)) (held now : List ℕ) (fed taken n : ℕ) (piece : List ℕ) (w w' : Option (List ℕ)) → Taking left left' held fed w w' → Consumes left' left'' (take n piece) → taken ≡ min n (1073741824 - fed) → n ≤ length piece → now ≡ held ++ take taken piece
    → Piece left left' left'' held now fed taken n piece w w'
a_piece left left' left'' held now fed taken n piece w w' t c m l f = record { taking = t; consumed = c; short = omega (arith, m); long = l; room = omega (arith, m); fed_ = f }
