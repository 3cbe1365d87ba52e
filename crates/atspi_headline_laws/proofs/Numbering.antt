-- The messages of an end are numbered one behind the other: with a serial there is one, or none.
use Rattle.std.proofs.Common.{◌≡◌, ℕ, suc, ◌+◌, ◌<◌, Bool, true, false, List, [], ◌∷◌, ◌++◌, length, Option, None, Some, refl, sym, ap, ◌∙◌, subst, arith, length-append}
use Rattle.std.specs.Prelude.{◌==◌, filter, if◌then◌else◌}
use Rattle.std.specs.List.{cons_option}
use Rattle.std.proofs.lemmas.Bool.{eqb-true, ne_eqb}
use Rattle.std.proofs.lemmas.List.{append-nil}
use Rattle.atspi_script_lines.specs.declared.line.Party.{Party}
use Rattle.atspi_script_lines.specs.declared.line.Party.TheVariants.{Bus as The_bus, Registry, App, Reader}
use Rattle.atspi_message.specs.Envelope.{Envelope}
use Rattle.atspi_trace.specs.Entry.{Entry, started, changed, sent, got, heard, unheard, spoke, showed, exited, gone, dropped, busy, quiet}
use Rattle.atspi_trace.specs.Ends.{same_party}
use Rattle.atspi_trace_laws.specs.laws.Words.{messages, with_serial}
use Rattle.atspi_trace_laws.specs.laws.NineLaws.{sent_before}
use Rattle.atspi_trace_laws.specs.serials.Laws.{HasNextNumber}
use Rattle.atspi_trace_laws.proofs.OfOrder.Parties.{same-party}
use Rattle.atspi_trace_laws.proofs.OfOrder.Each.{Each}
use Rattle.atspi_trace_laws.proofs.OfSerials.Serial.{messages_more}

-- from a number on
abbrev pub From : ℕ → List Envelope → Type 0
From n [] = Unit {0}
From n (m ∷ ms) = (m.serial ≡ n) × From (suc n) ms

pub from_front : (n : ℕ) (xs ys : List Envelope) → From n (xs ++ ys) → From n xs
from_front n [] ys f = tt
from_front n (x ∷ xs) ys f = (f.0, from_front (suc n) xs ys f.1)

abbrev pub as_list : {A : Type 0} → Option A → List A
as_list None = []
as_list (Some x) = x ∷ []

none_with : (n s : ℕ) (ms : List Envelope) → From n ms → s < n → filter (λ (e : Envelope). e.serial == s) ms ≡ []
none_with n s [] f h = refl
none_with n s (m ∷ ms) f h =
    let other : (m.serial == s) ≡ false = ne_eqb m.serial s (λ same. differ m.serial same f.0) in
    ap (λ b. if b then m ∷ filter (λ (e : Envelope). e.serial == s) ms else filter (λ (e : Envelope). e.serial == s) ms) other ∙ none_with (suc n) s ms f.1 (omega (arith, h))
  where
    differ : (k : ℕ) → k ≡ s → k ≡ n → ⊥
    differ k same first = absurd (omega (arith, same, first, h))

pub one_with : (n s : ℕ) (ms : List Envelope) → From n ms → filter (λ (e : Envelope). e.serial == s) ms ≡ as_list (with_serial s ms)
one_with n s [] f = refl
one_with n s (m ∷ ms) f = by (m.serial == s) refl (one_with (suc n) s ms f.1)
  where
    below : (k : ℕ) → k ≡ s → k ≡ n → s < suc n
    below k same first = omega (arith, same, first)

    by : (b : Bool) → (m.serial == s) ≡ b → filter (λ (e : Envelope). e.serial == s) ms ≡ as_list (with_serial s ms)
        → (if b then m ∷ filter (λ (e : Envelope). e.serial == s) ms else filter (λ (e : Envelope). e.serial == s) ms) ≡ as_list (if b then Some m else with_serial s ms)
    by true h ih = ap (λ l. m ∷ l) (none_with (suc n) s ms f.1 (below m.serial (eqb-true m.serial s h) f.0))
    by false h ih = ih

-- the numbers of an end
abbrev pub IsPlain : Party → Type 0
IsPlain The_bus = ⊥
IsPlain who = Unit {0}

more_sent : (early : List Entry) (who : Party) (n : ℕ) (m : Envelope) → n ≡ suc (sent_before who + length (messages early who)) → same_party who who ≡ true
    → suc n ≡ suc (sent_before who + length (messages (early ++ sent who m ∷ []) who))
more_sent early who n m h same =
    let one : messages (sent who m ∷ []) who ≡ m ∷ [] = ap (λ b. cons_option (if b then Some m else None) []) same in
    let all : messages (early ++ sent who m ∷ []) who ≡ messages early who ++ m ∷ [] = messages_more early (sent who m ∷ []) who ∙ ap (λ l. messages early who ++ l) one in
    let size : length (messages (early ++ sent who m ∷ []) who) ≡ length (messages early who ++ m ∷ []) = ap length all in
    omega (arith, h, size, length-append (messages early who) (m ∷ []))

same_sent : (early : List Entry) (who : Party) (n : ℕ) (entry : Entry) → n ≡ suc (sent_before who + length (messages early who)) → messages (entry ∷ []) who ≡ [] → n ≡ suc (sent_before who + length (messages (early ++ entry ∷ []) who))
same_sent early who n entry h none = h ∙ ap (λ l. suc (sent_before who + length l)) (sym (messages_more early (entry ∷ []) who ∙ ap (λ l. messages early who ++ l) none ∙ append-nil (messages early who)))

module _ (who : Party) (plain : IsPlain who) where
  number : (n : ℕ) (early : List Entry) (m : Envelope) (behind : List Entry) → n ≡ suc (sent_before who + length (messages early who)) → HasNextNumber early (sent who m) behind → m.serial ≡ n
  number n early m behind h law = by who plain law h
    where
      by : (p : Party) → IsPlain p → HasNextNumber early (sent p m) behind → n ≡ suc (sent_before p + length (messages early p)) → m.serial ≡ n
      by (App a) i x g = x ∙ sym g
      by (Reader r) i x g = x ∙ sym g
      by Registry i x g = x ∙ sym g
      by The_bus i x g = absurd i

  numbered_on : (n : ℕ) (early es : List Entry) → n ≡ suc (sent_before who + length (messages early who)) → Each HasNextNumber early es → From n (messages es who)
  numbered_on n early [] h e = tt
  numbered_on n early (sent other m ∷ es) h e = by (same_party other who) refl (λ k g. numbered_on k (early ++ sent other m ∷ []) es g e.1)
    where
      by : (b : Bool) → same_party other who ≡ b → ((k : ℕ) → k ≡ suc (sent_before who + length (messages (early ++ sent other m ∷ []) who)) → From k (messages es who)) → From n (cons_option (if b then Some m else None) (messages es who))
      by true same rest =
          let is : other ≡ who = same-party other who same in
          let own : HasNextNumber early (sent who m) es = subst (λ p. HasNextNumber early (sent p m) es) is e.0 in (
            number n early m es h own,
            rest (suc n) (subst (λ p. suc n ≡ suc (sent_before who + length (messages (early ++ sent p m ∷ []) who))) (sym is) (more_sent early who n m h (subst (λ p. same_party p who ≡ true) is same))),
          )
      by false same rest = rest n (same_sent early who n (sent other m) h (ap (λ b. cons_option (if b then Some m else None) []) same))
  numbered_on n early (started p name ∷ es) h e = numbered_on n (early ++ started p name ∷ []) es (same_sent early who n (started p name) h refl) e.1
  numbered_on n early (changed a step ∷ es) h e = numbered_on n (early ++ changed a step ∷ []) es (same_sent early who n (changed a step) h refl) e.1
  numbered_on n early (got taker sender serial ∷ es) h e = numbered_on n (early ++ got taker sender serial ∷ []) es (same_sent early who n (got taker sender serial) h refl) e.1
  numbered_on n early (heard a listener pattern ∷ es) h e = numbered_on n (early ++ heard a listener pattern ∷ []) es (same_sent early who n (heard a listener pattern) h refl) e.1
  numbered_on n early (unheard a listener pattern ∷ es) h e = numbered_on n (early ++ unheard a listener pattern ∷ []) es (same_sent early who n (unheard a listener pattern) h refl) e.1
  numbered_on n early (spoke r a text ∷ es) h e = numbered_on n (early ++ spoke r a text ∷ []) es (same_sent early who n (spoke r a text) h refl) e.1
  numbered_on n early (showed r a rows ∷ es) h e = numbered_on n (early ++ showed r a rows ∷ []) es (same_sent early who n (showed r a rows) h refl) e.1
  numbered_on n early (exited p ∷ es) h e = numbered_on n (early ++ exited p ∷ []) es (same_sent early who n (exited p) h refl) e.1
  numbered_on n early (gone r a ∷ es) h e = numbered_on n (early ++ gone r a ∷ []) es (same_sent early who n (gone r a) h refl) e.1
  numbered_on n early (dropped p queued len ∷ es) h e = numbered_on n (early ++ dropped p queued len ∷ []) es (same_sent early who n (dropped p queued len) h refl) e.1
  numbered_on n early (busy turns ∷ es) h e = numbered_on n (early ++ busy turns ∷ []) es (same_sent early who n (busy turns) h refl) e.1
  numbered_on n early (quiet ∷ es) h e = numbered_on n (early ++ quiet ∷ []) es (same_sent early who n quiet h refl) e.1

  pub numbered : (es : List Entry) → Each HasNextNumber [] es → From (suc (sent_before who)) (messages es who)
  numbered es e = numbered_on (suc (sent_before who)) [] es (ap suc (nothing_before (sent_before who))) e
    where
      nothing_before : (k : ℕ) → k ≡ k + 0
      nothing_before k = omega arith
