-- An input ends in one way.
use Rattle.std.proofs.Common.{◌≡◌, ℕ, zero, suc, ◌+◌, ◌<◌, ◌≤◌, List, [], ◌∷◌, ◌++◌, length, take, drop, refl, sym, ap, subst, ◌∙◌, arith, inl, inr, ◌⊎◌, append_assoc}
use Rattle.std.proofs.lemmas.Bool.{cases_lt}
use Rattle.std.proofs.lemmas.List.{length-append, take_all, drop_at, get_or-drop}
use Rattle.atspi_marshal.proofs.Places.{IsBytes, IsBytes-slice}
use Rattle.atspi_message.specs.Envelope.{Envelope}
use Rattle.atspi_stream.specs.Stream.{AwaitsMore, few, HasFault, BeginsWithMessage, bytes_of, IsParted}
use Rattle.atspi_stream.specs.Laws.{IsAtFault, HasOneAnswer}
use Rattle.atspi_stream.proofs.StreamLaws.{one_answer, one_parting, message_states}
use Rattle.atspi_run_check.specs.Check.{check_lines, faulty_lines, IsWholeText, IsFrontText, IsCutText, IsFaultText, CheckedAll, CheckedFault, CheckedLimit}
use Rattle.atspi_run_check.specs.Laws.{HasOneEnd}

-- what is left behind messages is bytes, too
rest_bytes : (bytes front rest : List ℕ) → IsBytes bytes → bytes ≡ front ++ rest → IsBytes rest
rest_bytes bytes front rest h e i =
    let d : drop (length front) bytes ≡ rest = ap (λ (bs : List ℕ). drop (length front) bs) e ∙ drop_at front rest (length front) refl in
    let P : List ℕ → Type 0 = λ bs. IsBytes bs in
    subst P d (λ k. rw get_or-drop (h (length front + k))) i

answer : (bytes rest : List ℕ) (ms : List (Envelope × List ℕ)) → IsBytes bytes → IsParted bytes ms rest → HasOneAnswer rest
answer bytes rest ms h p = one_answer rest (rest_bytes bytes (bytes_of ms) rest h p.parted)

at_fault : (rest : List ℕ) (place reason : ℕ) → HasFault rest place reason → IsAtFault rest
at_fault rest place reason f = record { place = place; reason = reason; is = f }

-- the messages of some bytes and what is left behind them are one, where that begins with none
same_parts : (bytes rest more : List ℕ) (ms ns : List (Envelope × List ℕ)) → IsBytes bytes → IsParted bytes ms rest → (BeginsWithMessage rest → ⊥) → IsParted bytes ns more → (BeginsWithMessage more → ⊥) → (ms ≡ ns) × (rest ≡ more)
same_parts bytes rest more ms ns h p a q b = one_parting bytes ms ns rest more h p.are p.parted a q.are q.parted b

no_more : (bytes rest : List ℕ) (ms : List (Envelope × List ℕ)) → IsBytes bytes → IsParted bytes ms rest → AwaitsMore rest → BeginsWithMessage rest → ⊥
no_more bytes rest ms h p w m = (answer bytes rest ms h p).waits_without_message w m

no_message : (bytes rest : List ℕ) (ms : List (Envelope × List ℕ)) (place reason : ℕ) → IsBytes bytes → IsParted bytes ms rest → HasFault rest place reason → BeginsWithMessage rest → ⊥
no_message bytes rest ms place reason h p f m = (answer bytes rest ms h p).message_without_fault m (at_fault rest place reason f)

none_awaits : AwaitsMore []
none_awaits = few (omega arith)

-- bytes that await more behind messages have no fault there
awaits_faultless : (bytes rest more : List ℕ) (ms ns : List (Envelope × List ℕ)) (place reason : ℕ) → IsBytes bytes → IsParted bytes ms rest → AwaitsMore rest → IsParted bytes ns more → HasFault more place reason → ⊥
awaits_faultless bytes rest more ms ns place reason h p w q f =
    let same = same_parts bytes rest more ms ns h p (no_more bytes rest ms h p w) q (no_message bytes more ns place reason h q f) in
    (answer bytes rest ms h p).waits_without_fault w (at_fault rest place reason (subst (λ (bs : List ℕ). HasFault bs place reason) (sym same.1) f))

whole_cut : (bytes s t : List ℕ) → IsBytes bytes → IsWholeText bytes s → IsCutText bytes t → ⊥
whole_cut bytes s t h a c =
    c.some (sym (same_parts bytes [] c.rest a.messages c.messages h a.parted (no_more bytes [] a.messages h a.parted none_awaits) c.parted (no_more bytes c.rest c.messages h c.parted c.awaits)).1)

whole_fault : (bytes s t : List ℕ) → IsBytes bytes → IsWholeText bytes s → IsFaultText bytes t → ⊥
whole_fault bytes s t h a f = awaits_faultless bytes [] f.rest a.messages f.messages f.place f.reason h a.parted none_awaits f.parted f.fault

cut_fault : (bytes s t : List ℕ) → IsBytes bytes → IsCutText bytes s → IsFaultText bytes t → ⊥
cut_fault bytes s t h c f = awaits_faultless bytes c.rest f.rest c.messages f.messages f.place f.reason h c.parted c.awaits f.parted f.fault

front_fault : (bytes s t : List ℕ) → IsBytes bytes → IsFrontText bytes s → IsFaultText bytes t → ⊥
front_fault bytes s t h a f = awaits_faultless bytes a.rest f.rest a.messages f.messages f.place f.reason h a.parted a.awaits f.parted f.fault

same_whole : (bytes s t : List ℕ) → IsBytes bytes → IsWholeText bytes s → IsWholeText bytes t → s ≡ t
same_whole bytes s t h a b =
    let same = same_parts bytes [] [] a.messages b.messages h a.parted (no_more bytes [] a.messages h a.parted none_awaits) b.parted (no_more bytes [] b.messages h b.parted none_awaits) in
    a.are ∙ ap (λ (ms : List (Envelope × List ℕ)). check_lines 0 ms) same.0 ∙ sym b.are

same_front : (bytes s t : List ℕ) → IsBytes bytes → IsFrontText bytes s → IsFrontText bytes t → s ≡ t
same_front bytes s t h a b =
    let same = same_parts bytes a.rest b.rest a.messages b.messages h a.parted (no_more bytes a.rest a.messages h a.parted a.awaits) b.parted (no_more bytes b.rest b.messages h b.parted b.awaits) in
    a.are ∙ ap (λ (ms : List (Envelope × List ℕ)). check_lines 0 ms) same.0 ∙ sym b.are

same_cut : (bytes s t : List ℕ) → IsBytes bytes → IsCutText bytes s → IsCutText bytes t → s ≡ t
same_cut bytes s t h a b =
    let same = same_parts bytes a.rest b.rest a.messages b.messages h a.parted (no_more bytes a.rest a.messages h a.parted a.awaits) b.parted (no_more bytes b.rest b.messages h b.parted b.awaits) in
    a.are ∙ ap (λ (ms : List (Envelope × List ℕ)). faulty_lines ms (length a.rest) 36) same.0 ∙ ap (λ (bs : List ℕ). faulty_lines b.messages (length bs) 36) same.1 ∙ sym b.are

same_fault : (bytes s t : List ℕ) → IsBytes bytes → IsFaultText bytes s → IsFaultText bytes t → s ≡ t
same_fault bytes s t h a b =
    let same = same_parts bytes a.rest b.rest a.messages b.messages h a.parted (no_message bytes a.rest a.messages a.place a.reason h a.parted a.fault) b.parted (no_message bytes b.rest b.messages b.place b.reason h b.parted b.fault) in
    let one = (answer bytes b.rest b.messages h b.parted).one_fault a.place a.reason b.place b.reason (subst (λ (bs : List ℕ). HasFault bs a.place a.reason) same.1 a.fault) b.fault in
    a.are ∙ ap (λ (ms : List (Envelope × List ℕ)). faulty_lines ms a.place a.reason) same.0 ∙ ap (λ (n : ℕ). faulty_lines b.messages n a.reason) one.0
    ∙ ap (λ (n : ℕ). faulty_lines b.messages b.place n) one.1 ∙ sym b.are

-- bytes are messages and a rest that awaits more or has a fault
record Ended (bytes : List ℕ) : Type 0 where
  messages : List (Envelope × List ℕ)
  rest : List ℕ
  parted : IsParted bytes messages rest
  end : AwaitsMore rest ⊎ IsAtFault rest

-- one message more, where they begin with one
ended_by : (fuel : ℕ) (bytes : List ℕ) → length bytes ≤ suc fuel → IsBytes bytes → AwaitsMore bytes ⊎ (BeginsWithMessage bytes ⊎ IsAtFault bytes) → ((bs : List ℕ) → length bs ≤ fuel → IsBytes bs → Ended bs) → Ended bytes
ended_by fuel bytes short h (inl w) more = record { messages = []; rest = bytes; parted = record { are = tt; parted = refl }; end = inl w }
ended_by fuel bytes short h (inr (inr f)) more = record { messages = []; rest = bytes; parted = record { are = tt; parted = refl }; end = inr f }
ended_by fuel bytes short h (inr (inl m)) more =
    let states = message_states m.envelope m.bytes m.is in
    let later = more m.rest (omega (arith, short, ap length m.front, length-append m.bytes m.rest, states.long)) (rest_bytes bytes m.bytes m.rest h m.front) in
    record {
      messages = (m.envelope, m.bytes) ∷ later.messages;
      rest = later.rest;
      parted = record { are = (m.is, later.parted.are); parted = m.front ∙ ap (λ (bs : List ℕ). m.bytes ++ bs) later.parted.parted ∙ sym (append_assoc m.bytes (bytes_of later.messages) later.rest) };
      end = later.end;
    }

ended : (fuel : ℕ) (bytes : List ℕ) → length bytes ≤ fuel → IsBytes bytes → Ended bytes
ended zero bytes short h = record { messages = []; rest = bytes; parted = record { are = tt; parted = refl }; end = inl (few (omega (arith, short))) }
ended (suc fuel) bytes short h = ended_by fuel bytes short h (one_answer bytes h).some (λ bs s b. ended fuel bs s b)

front_bytes : (n : ℕ) (bytes : List ℕ) → IsBytes bytes → IsBytes (take n bytes)
front_bytes n bytes h = IsBytes-slice 0 n bytes h

-- the text that is due of an ended input
due_within : (limit : ℕ) (input : List ℕ) → length input ≤ limit → Ended input → (text : List ℕ) × (CheckedAll limit input text ⊎ (CheckedFault limit input text ⊎ CheckedLimit limit input text))
due_within limit input short e = by e.end e.rest refl
  where
    by : AwaitsMore e.rest ⊎ IsAtFault e.rest → (rest : List ℕ) → rest ≡ e.rest → (text : List ℕ) × (CheckedAll limit input text ⊎ (CheckedFault limit input text ⊎ CheckedLimit limit input text))
    by (inr f) rest is = (
      faulty_lines e.messages f.place f.reason,
      inr (inl (inr (record {
        messages = e.messages;
        rest = e.rest;
        place = f.place;
        reason = f.reason;
        parted = record { are = e.parted.are; parted = take_all limit input short ∙ e.parted.parted };
        fault = f.is;
        are = refl;
      }))),
    )
    by (inl w) [] is =
        (check_lines 0 e.messages, inl (short, record { messages = e.messages; parted = subst (λ (bs : List ℕ). IsParted input e.messages bs) (sym is) e.parted; are = refl }))
    by (inl w) (b ∷ bs) is =
        (faulty_lines e.messages (length e.rest) 36, inr (inl (inl (short, record { messages = e.messages; rest = e.rest; parted = e.parted; some = λ none. absurd (no_cons b bs (is ∙ none)); awaits = w; are = refl }))))
      where
        no_cons : (b : ℕ) (bs : List ℕ) → b ∷ bs ≡ [] → ⊥
        no_cons b bs x = cc

due_past : (limit : ℕ) (input : List ℕ) → limit < length input → Ended (take limit input) → (text : List ℕ) × (CheckedAll limit input text ⊎ (CheckedFault limit input text ⊎ CheckedLimit limit input text))
due_past limit input long e = by e.end
  where
    by : AwaitsMore e.rest ⊎ IsAtFault e.rest → (text : List ℕ) × (CheckedAll limit input text ⊎ (CheckedFault limit input text ⊎ CheckedLimit limit input text))
    by (inl w) = (check_lines 0 e.messages, inr (inr (long, record { messages = e.messages; rest = e.rest; parted = e.parted; awaits = w; are = refl })))
    by (inr f) =
        (faulty_lines e.messages f.place f.reason, inr (inl (inr (record { messages = e.messages; rest = e.rest; place = f.place; reason = f.reason; parted = e.parted; fault = f.is; are = refl }))))

due : (limit : ℕ) (input : List ℕ) → IsBytes input → (text : List ℕ) × (CheckedAll limit input text ⊎ (CheckedFault limit input text ⊎ CheckedLimit limit input text))
due limit input h = by (cases_lt limit (length input))
  where
    by : (limit < length input) ⊎ (length input ≤ limit) → (text : List ℕ) × (CheckedAll limit input text ⊎ (CheckedFault limit input text ⊎ CheckedLimit limit input text))
    by (inl long) = due_past limit input long (ended (length (take limit input)) (take limit input) (omega arith) (front_bytes limit input h))
    by (inr short) = due_within limit input short (ended (length input) input (omega arith) h)

-- the faults of an input inside the limit are those of its front, which is all of it
fault_in : (limit : ℕ) (input t : List ℕ) → length input ≤ limit → IsFaultText (take limit input) t → IsFaultText input t
fault_in limit input t short f = subst (λ (bs : List ℕ). IsFaultText bs t) (take_all limit input short) f

whole_apart : (limit : ℕ) (input s t : List ℕ) → IsBytes input → CheckedAll limit input s → CheckedFault limit input t → ⊥
whole_apart limit input s t h a (inl c) = whole_cut input s t h a.1 c.1
whole_apart limit input s t h a (inr f) = whole_fault input s t h a.1 (fault_in limit input t a.0 f)

limit_apart : (limit : ℕ) (input s t : List ℕ) → IsBytes input → CheckedFault limit input s → CheckedLimit limit input t → ⊥
limit_apart limit input s t h (inl c) l = absurd (omega (arith, c.0, l.0))
limit_apart limit input s t h (inr f) l = front_fault (take limit input) t s (front_bytes limit input h) l.1 f

faults_one : (limit : ℕ) (input s t : List ℕ) → IsBytes input → CheckedFault limit input s → CheckedFault limit input t → s ≡ t
faults_one limit input s t h (inl c) (inl d) = same_cut input s t h c.1 d.1
faults_one limit input s t h (inl c) (inr f) = absurd (cut_fault input s t h c.1 (fault_in limit input t c.0 f))
faults_one limit input s t h (inr f) (inl c) = absurd (cut_fault input t s h c.1 (fault_in limit input s c.0 f))
faults_one limit input s t h (inr f) (inr g) = same_fault (take limit input) s t (front_bytes limit input h) f g

pub one_end : (limit : ℕ) (input : List ℕ) → IsBytes input → HasOneEnd limit input
one_end limit input h = record {
  some = due limit input h;
  whole_without_fault = λ s t a f. whole_apart limit input s t h a f;
  whole_within_limit = λ s t a l. absurd (omega (arith, a.0, l.0));
  fault_within_limit = λ s t f l. limit_apart limit input s t h f l;
  one_whole = λ s t a b. same_whole input s t h a.1 b.1;
  one_fault = λ s t f g. faults_one limit input s t h f g;
  one_limit = λ s t a b. same_front (take limit input) s t (front_bytes limit input h) a.1 b.1;
}
