-- Which of a reader's own calls were answered, by the words of the headline and by those of the laws of traces; and so when it may ask.
use Rattle.std.proofs.Common.{◌≡◌, ℕ, suc, ◌+◌, Bool, true, false, List, [], ◌∷◌, ◌++◌, map, Option, None, Some, refl, sym, ap, ap₂, ◌∙◌, subst, is_some, arith}
use Rattle.std.specs.Prelude.{◌==◌, ◌&&◌, ◌||◌, filter, filter_map, flat_map, bytes_eq, if◌then◌else◌}
use Rattle.std.specs.List.{AllByRecursion, cons_option, list_any, list_all}
use Rattle.std.proofs.lemmas.Bool.{eqb-true, eq-eqb, ne_eqb}
use Rattle.std.proofs.lemmas.Slice.Eq.{bytes_eq-Decides}
use Rattle.atspi_script_lines.specs.declared.line.Party.{Party}
use Rattle.atspi_script_lines.specs.declared.line.Party.TheVariants.{Bus as The_bus, Registry, App, Reader}
use Rattle.atspi_message.specs.Envelope.{Envelope}
use Rattle.atspi_protocol.specs.declared.following.question.Question.{Question}
use Rattle.atspi_protocol.specs.declared.following.question.Question.TheVariants.{Hello, AddMatch, RegisterEvent, GetChildren, GetItems, GetPart}
use Rattle.atspi_protocol.specs.registering.Steps as registering
use Rattle.atspi_protocol.specs.following.Replied as following
use Rattle.atspi_protocol.specs.following.ReaderState.{start_calls}
use Rattle.atspi_protocol.specs.following.Calls.{asking}
use Rattle.atspi_trace.specs.Entry.{Entry, started, changed, sent, got, heard, unheard, spoke, showed, exited, gone, dropped, busy, quiet}
use Rattle.atspi_trace.specs.World.{World}
use Rattle.atspi_trace.specs.Ends.{same_party}
use Rattle.atspi_trace.specs.Hearing.{patterns_in, question_in}
use Rattle.atspi_headline.specs.Words as here
use Rattle.atspi_headline.specs.Words.{Act, begins_line, moves_bytes, takes_end, writes, entries_in, is_same, signed, handed, name_of, questions_in, next_serial, pattern_of, rule_of}
use Rattle.atspi_headline.specs.Headline.{is_asked_ever, asks_for, is_registered, wants_registered, is_empty, IsFree}
use Rattle.atspi_trace_laws.specs.laws.Words as told
use Rattle.atspi_trace_laws.specs.laws.NineLaws.{sent_before, IsRegistered, WantsRegistrations, IsFreeCall}
use Rattle.atspi_trace_laws.proofs.OfOrder.Parties.{no_none, same_some, false_true}
use Rattle.atspi_trace_laws.proofs.OfLinks.Ups as ups
use Rattle.atspi_trace_laws.proofs.OfReaders.BusSaid.{from_among}
use Rattle.atspi_headline_laws.proofs.Reading.{messages_told, same_who}
use Rattle.atspi_headline_laws.proofs.Numbering.{From, as_list, one_with, IsPlain, numbered}
use Rattle.atspi_headline_laws.proofs.Holding.{questions_same}
use Rattle.atspi_headline_laws.proofs.Growing.{Front}
use Rattle.atspi_headline_laws.proofs.Handing.{numbers, with_bus}

-- EQUAL NUMBERS, both ways round
pub turned : (a b : ℕ) → (a == b) ≡ (b == a)
turned a b = by (a == b) refl
  where
    by : (t : Bool) → (a == b) ≡ t → t ≡ (b == a)
    by true g = sym (eq-eqb b a (sym (eqb-true a b g)))
    by false g = sym (ne_eqb b a (λ h. false_true (sym g ∙ eq-eqb a b (sym h))))

reply_same : (s : ℕ) (o : Option ℕ) → registering.is_reply_to (Some s) o ≡ following.is_reply_to s o
reply_same s None = refl
reply_same s (Some n) = turned s n

-- what tells an answer does not look at the sender
abbrev pub answers_so : (ℕ → Bool) → ℕ → Envelope → Bool
answers_so kind s e = kind e.kind && following.is_reply_to s e.reply

signed_so : (kind : ℕ → Bool) (s : ℕ) (p : Party) (n : Option (List ℕ)) (e : Envelope) → answers_so kind s (signed p n e) ≡ answers_so kind s e
signed_so kind s The_bus n e = refl
signed_so kind s Registry n e = refl
signed_so kind s (App a) n e = refl
signed_so kind s (Reader r) n e = refl

any_both : {A : Type 0} (p : A → Bool) (xs ys : List A) → list_any p (xs ++ ys) ≡ (list_any p xs || list_any p ys)
any_both p [] ys = refl
any_both p (x ∷ xs) ys = by (p x) (any_both p xs ys)
  where
    by : (b : Bool) → list_any p (xs ++ ys) ≡ (list_any p xs || list_any p ys) → (b || list_any p (xs ++ ys)) ≡ ((b || list_any p xs) || list_any p ys)
    by true h = refl
    by false h = h

any_same : {A : Type 0} (p q : A → Bool) (xs : List A) → ((x : A) → p x ≡ q x) → list_any p xs ≡ list_any q xs
any_same p q [] f = refl
any_same p q (x ∷ xs) f = ap₂ (λ a b. a || b) (f x) (any_same p q xs f)

any_as_list : (kind : ℕ → Bool) (s : ℕ) (p : Party) (n : Option (List ℕ)) (o : Option Envelope) (rest : List Envelope) (b : Bool) → list_any (answers_so kind s) rest ≡ b
    → list_any (answers_so kind s) (cons_option o rest) ≡ (list_any (answers_so kind s) (map (signed p n) (as_list o)) || b)
any_as_list kind s p n None rest b h = h
any_as_list kind s p n (Some e) rest b h =
    ap₂ (λ x y. x || y) (sym (signed_so kind s p n e)) h ∙ by (answers_so kind s (signed p n e)) b
  where
    by : (x y : Bool) → (x || y) ≡ ((x || false) || y)
    by true y = refl
    by false y = refl

from_one : (n : ℕ) (ms : List Envelope) → From n ms → ups.From n ms
from_one n [] g = tt
from_one n (m ∷ ms) g = (g.0, subst (λ k. ups.From k ms) (next n) (from_one (suc n) ms g.1))
  where
    next : (k : ℕ) → suc k ≡ k + 1
    next k = omega arith

module _ (run : List Act) (w : World) (free : Option ℕ) (f : Front run w free) where
  abbrev es : List Entry
  es = entries_in run

  of_end : (p : Party) (serial : ℕ) → IsPlain p → here.with_serial run p serial ≡ as_list (told.message es p serial)
  of_end p serial plain =
      ap (filter (λ (e : Envelope). e.serial == serial)) (messages_told run p) ∙ one_with (suc (sent_before p)) serial (told.messages es p) (numbered p plain es (numbers run w free f))

  -- the message with a serial, whoever sent it
  pub with_list : (p : Party) (serial : ℕ) → here.with_serial run p serial ≡ as_list (told.message es p serial)
  with_list The_bus serial = with_bus run w free f serial
  with_list Registry serial = of_end Registry serial tt
  with_list (App a) serial = of_end (App a) serial tt
  with_list (Reader r) serial = of_end (Reader r) serial tt

  taken_so : (kind : ℕ → Bool) (s : ℕ) (who : Party) (acts : List Act)
      → list_any (answers_so kind s) (flat_map (here.taken_by run who) acts) ≡ list_any (answers_so kind s) (filter_map (told.taken_as es who) (entries_in acts))
  taken_so kind s who [] = refl
  taken_so kind s who (begins_line line ∷ acts) = taken_so kind s who acts
  taken_so kind s who (moves_bytes p up count ∷ acts) = taken_so kind s who acts
  taken_so kind s who (takes_end p ∷ acts) = taken_so kind s who acts
  taken_so kind s who (writes (got taker sender serial) ∷ acts) =
      ap (λ b. list_any (answers_so kind s) ((if b then handed run sender serial else []) ++ flat_map (here.taken_by run who) acts)) (same_who taker who) ∙ by (same_party taker who) (taken_so kind s who acts)
    where
      by : (b : Bool) → list_any (answers_so kind s) (flat_map (here.taken_by run who) acts) ≡ list_any (answers_so kind s) (filter_map (told.taken_as es who) (entries_in acts))
          → list_any (answers_so kind s) ((if b then handed run sender serial else []) ++ flat_map (here.taken_by run who) acts)
          ≡ list_any (answers_so kind s) (cons_option (if b then told.message es sender serial else None) (filter_map (told.taken_as es who) (entries_in acts)))
      by false h = h
      by true h =
          any_both (answers_so kind s) (handed run sender serial) (flat_map (here.taken_by run who) acts)
          ∙ ap₂ (λ x y. x || y) (ap (λ l. list_any (answers_so kind s) (map (signed sender (name_of run sender)) l)) (with_list sender serial)) h
          ∙ sym (any_as_list kind s sender (name_of run sender) (told.message es sender serial) (filter_map (told.taken_as es who) (entries_in acts))
          (list_any (answers_so kind s) (filter_map (told.taken_as es who) (entries_in acts))) refl)
  taken_so kind s who (writes (started p name) ∷ acts) = taken_so kind s who acts
  taken_so kind s who (writes (changed a step) ∷ acts) = taken_so kind s who acts
  taken_so kind s who (writes (sent p e) ∷ acts) = taken_so kind s who acts
  taken_so kind s who (writes (heard a listener pattern) ∷ acts) = taken_so kind s who acts
  taken_so kind s who (writes (unheard a listener pattern) ∷ acts) = taken_so kind s who acts
  taken_so kind s who (writes (spoke r a text) ∷ acts) = taken_so kind s who acts
  taken_so kind s who (writes (showed r a rows) ∷ acts) = taken_so kind s who acts
  taken_so kind s who (writes (exited p) ∷ acts) = taken_so kind s who acts
  taken_so kind s who (writes (gone r a) ∷ acts) = taken_so kind s who acts
  taken_so kind s who (writes (dropped p queued len) ∷ acts) = taken_so kind s who acts
  taken_so kind s who (writes (busy turns) ∷ acts) = taken_so kind s who acts
  taken_so kind s who (writes quiet ∷ acts) = taken_so kind s who acts

  -- ANSWERED, and with a return
  pub answered_so : (r s : ℕ) → here.is_answered run (Reader r) s ≡ told.is_answered es r s
  answered_so r s =
      any_same (λ (e : Envelope). (e.kind == 2 || e.kind == 3) && registering.is_reply_to (Some s) e.reply) (answers_so (λ k. k == 2 || k == 3) s) (here.taken run (Reader r))
      (λ e. ap (λ b. (e.kind == 2 || e.kind == 3) && b) (reply_same s e.reply))
      ∙ taken_so (λ k. k == 2 || k == 3) s (Reader r) run

  pub returned_of : (who : Party) (s : ℕ) → here.is_returned run who s ≡ list_any (answers_so (λ k. k == 2) s) (filter_map (told.taken_as es who) es)
  returned_of who s =
      any_same (λ (e : Envelope). e.kind == 2 && registering.is_reply_to (Some s) e.reply) (answers_so (λ k. k == 2) s) (here.taken run who)
      (λ e. ap (λ b. e.kind == 2 && b) (reply_same s e.reply))
      ∙ taken_so (λ k. k == 2) s who run

  pub returned_so : (r s : ℕ) → here.is_returned run (Reader r) s ≡ told.is_returned es r s
  returned_so r s = returned_of (Reader r) s

  -- EACH EARLIER OWN CALL was answered
  among : (n : ℕ) (ms : List Envelope) → From n ms → AllByRecursion (λ (m : Envelope). told.with_serial m.serial ms ≡ Some m) ms
  among n ms g = from_among n ms (from_one n ms g)

  all_answered_so : (r : ℕ) → ((serial : ℕ) → is_some (told.own_call es r serial) ≡ true → told.is_answered es r serial ≡ true)
      → list_all (λ (c : Envelope). is_empty (questions_in c) || here.is_answered run (Reader r) c.serial) (here.messages run (Reader r)) ≡ true
  all_answered_so r answered =
      ap (list_all (λ (c : Envelope). is_empty (questions_in c) || here.is_answered run (Reader r) c.serial)) (messages_told run (Reader r))
      ∙ each (told.messages es (Reader r)) (among 1 (told.messages es (Reader r)) (numbered (Reader r) tt es (numbers run w free f)))
    where
      one : (c : Envelope) (o : Option Question) → question_in c ≡ o → told.message es (Reader r) c.serial ≡ Some c → (is_empty (questions_in c) || here.is_answered run (Reader r) c.serial) ≡ true
      one c None q was = ap (λ l. is_empty l || here.is_answered run (Reader r) c.serial) (questions_same c ∙ ap as_list q)
      one c (Some x) q was =
          let own : is_some (told.own_call es r c.serial) ≡ true = ap (λ o. is_some (told.question_if o)) was ∙ ap is_some q in
          ap₂ (λ l b. is_empty l || b) (questions_same c ∙ ap as_list q) (answered_so r c.serial ∙ answered c.serial own)

      each : (ms : List Envelope) → AllByRecursion (λ (m : Envelope). told.with_serial m.serial (told.messages es (Reader r)) ≡ Some m) ms
          → list_all (λ (c : Envelope). is_empty (questions_in c) || here.is_answered run (Reader r) c.serial) ms ≡ true
      each [] a = refl
      each (m ∷ ms) a = ap₂ (λ x y. x && y) (one m (question_in m) refl a.0) (each ms a.1)

  -- EACH PATTERN was registered
  found_any : (p : Envelope → Bool) (s : ℕ) (e : Envelope) (ms : List Envelope) → told.with_serial s ms ≡ Some e → p e ≡ true → (list_any p ms ≡ true) × (e.serial ≡ s)
  found_any p s e [] h g = absurd (no_none e h)
  found_any p s e (m ∷ ms) h g = by (m.serial == s) refl h (λ k. found_any p s e ms k g)
    where
      or_true : (b c : Bool) → c ≡ true → (b || c) ≡ true
      or_true true c k = refl
      or_true false c k = k

      by : (b : Bool) → (m.serial == s) ≡ b → (if b then Some m else told.with_serial s ms) ≡ Some e → (told.with_serial s ms ≡ Some e → (list_any p ms ≡ true) × (e.serial ≡ s))
          → ((p m || list_any p ms) ≡ true) × (e.serial ≡ s)
      by true k is rest =
          let same : m ≡ e = same_some m e is in
          (ap (λ b. b || list_any p ms) (ap p same ∙ g), ap (λ (x : Envelope). x.serial) (sym same) ∙ eqb-true m.serial s k)
      by false k is rest = let x = rest is in (or_true (p m) (list_any p ms) x.0, x.1)

  call_found : (r serial : ℕ) (q : Question) (o : Option Envelope) → told.message es (Reader r) serial ≡ o → told.question_if o ≡ Some q → (e : Envelope) × (told.message es (Reader r) serial ≡ Some e) × (question_in e ≡ Some q)
  call_found r serial q None h g = absurd (no_none q g)
  call_found r serial q (Some e) h g = (e, h, g)

  registered_so : (r : ℕ) (pattern : List ℕ) → IsRegistered es r pattern → is_registered run r pattern ≡ true
  registered_so r pattern x =
      let c = call_found r x.0 (RegisterEvent pattern) (told.message es (Reader r) x.0) refl x.1 in
      let test : Envelope → Bool = λ (e : Envelope). asks_for pattern e && here.is_returned run (Reader r) e.serial in
      let serial : c.0.serial ≡ x.0 = (found_any (λ e. true) x.0 c.0 (told.messages es (Reader r)) c.1 refl).1 in
      let asks : asks_for pattern c.0 ≡ true =
      ap (λ l. list_any (bytes_eq pattern) (flat_map pattern_of l)) (questions_same c.0 ∙ ap as_list c.2) ∙ ap (λ b. b || false) ((bytes_eq-Decides pattern pattern).1 refl) in
      let returned : here.is_returned run (Reader r) c.0.serial ≡ true = ap (here.is_returned run (Reader r)) serial ∙ returned_so r x.0 ∙ x.2 in
      ap (list_any test) (messages_told run (Reader r)) ∙ (found_any test x.0 c.0 (told.messages es (Reader r)) c.1 (ap₂ (λ a b. a && b) asks returned)).0

  all_registered_so : (r : ℕ) (patterns : List (List ℕ)) → AllByRecursion (IsRegistered es r) patterns → list_all (is_registered run r) patterns ≡ true
  all_registered_so r [] a = refl
  all_registered_so r (p ∷ ps) a = ap₂ (λ x y. x && y) (registered_so r p a.0) (all_registered_so r ps a.1)

  wants_so : (r : ℕ) (q : Question) → WantsRegistrations es r q → wants_registered run r q ≡ true
  wants_so r (GetItems name) a = all_registered_so r (patterns_in start_calls) a
  wants_so r Hello a = refl
  wants_so r (AddMatch rule) a = refl
  wants_so r (RegisterEvent pattern) a = refl
  wants_so r GetChildren a = refl
  wants_so r (GetPart name path part) a = refl

  -- IT MAY ASK
  pub free_so : (r : ℕ) (m : Envelope) (q : Question) → m ≡ asking (next_serial run (Reader r)) q → is_asked_ever q ≡ true → IsFreeCall es r m q → IsFree run r m q
  free_so r m q spelled ever c = record {
    spelled = spelled;
    asked_ever = ever;
    all_answered = all_answered_so r c.answered;
    all_registered = wants_so r q c.registered;
  }
