-- Messages found by their serials: more entries find the same, and what stands before a message stays before it.
use Rattle.std.proofs.Common.{◌≡◌, ℕ, suc, ◌+◌, ◌≤◌, Bool, true, false, List, [], ◌∷◌, ◌++◌, length, None, Some, refl, sym, ap, ap₂, ◌∙◌, arith}
use Rattle.std.specs.Prelude.{Option, ◌==◌, ◌&&◌, if◌then◌else◌}
use Rattle.std.specs.List.{cons_option}
use Rattle.std.proofs.lemmas.Bool.{eq-eqb, eqb-true}
use Rattle.std.proofs.lemmas.List.{append-nil}
use Rattle.atspi_script_lines.specs.declared.line.Party.{Party}
use Rattle.atspi_script_lines.specs.declared.line.Party.TheVariants.{Bus as The_bus}
use Rattle.atspi_message.specs.Envelope.{Envelope}
use Rattle.atspi_trace.specs.Entry.{Entry, sent}
use Rattle.atspi_trace.specs.Ends.{same_party}
use Rattle.atspi_trace_laws.specs.laws.Words.{messages, message, with_serial, before_sent}
use Rattle.atspi_trace_laws.specs.laws.NineLaws.{sent_before}
use Rattle.atspi_trace_laws.proofs.OfOrder.Parties.{no_none, same_some, same-party, party-same}
use Rattle.atspi_trace_laws.proofs.OfOrder.Each.{Each}
use Rattle.atspi_trace_laws.specs.serials.Laws.{HasNextNumber}
use Rattle.atspi_trace_laws.proofs.OfSerials.Serial.{messages_more}
use Rattle.atspi_trace_laws.proofs.OfLinks.Ups.{From, serials_from}

serial_front : (xs ys : List Envelope) (s : ℕ) (m : Envelope) → with_serial s xs ≡ Some m → with_serial s (xs ++ ys) ≡ Some m
serial_front [] ys s m h = absurd (no_none m h)
serial_front (x ∷ xs) ys s m h = by (x.serial == s) (λ g. serial_front xs ys s m g) h
  where
    by : (b : Bool) → (with_serial s xs ≡ Some m → with_serial s (xs ++ ys) ≡ Some m) → (if b then Some x else with_serial s xs) ≡ Some m → (if b then Some x else with_serial s (xs ++ ys)) ≡ Some m
    by true ih g = g
    by false ih g = ih g

none_front : (xs ys : List Envelope) (s : ℕ) → with_serial s xs ≡ None → with_serial s (xs ++ ys) ≡ with_serial s ys
none_front [] ys s h = refl
none_front (x ∷ xs) ys s h = by (x.serial == s) (λ g. none_front xs ys s g) h
  where
    by : (b : Bool) → (with_serial s xs ≡ None → with_serial s (xs ++ ys) ≡ with_serial s ys) → (if b then Some x else with_serial s xs) ≡ None
        → (if b then Some x else with_serial s (xs ++ ys)) ≡ with_serial s ys
    by true ih g = absurd (no_none x (sym g))
    by false ih g = ih g

-- what is found is found behind more entries
pub found_more : (es ys : List Entry) (who : Party) (s : ℕ) (m : Envelope) → message es who s ≡ Some m → message (es ++ ys) who s ≡ Some m
found_more es ys who s m h = ap (with_serial s) (messages_more es ys who) ∙ serial_front (messages es who) (messages ys who) s m h

pub none_more : (es ys : List Entry) (who : Party) (s : ℕ) → message es who s ≡ None → message (es ++ ys) who s ≡ message ys who s
none_more es ys who s h = ap (with_serial s) (messages_more es ys who) ∙ none_front (messages es who) (messages ys who) s h

-- a message that was not sent yet
none_from : (n s : ℕ) (es : List Envelope) → From n es → n + length es ≤ s → with_serial s es ≡ None
none_from n s [] f h = refl
none_from n s (e ∷ es) f h = by (e.serial == s) refl (none_from (n + 1) s es f.1 (omega (arith, h)))
  where
    by : (b : Bool) → (e.serial == s) ≡ b → with_serial s es ≡ None → (if b then Some e else with_serial s es) ≡ None
    by true g r =
        let is : e.serial ≡ s = eqb-true e.serial s g in
        let first : e.serial ≡ n = f.0 in
        absurd (omega (arith, is, first, h))
    by false g r = r

abbrev pub NotSent : List Entry → Party → ℕ → Type 0
NotSent es who n = (s : ℕ) → n ≤ s → message es who s ≡ None

pub unsent : (es : List Entry) (who : Party) → (who ≡ The_bus → ⊥) → Each HasNextNumber [] es → (n : ℕ) → n ≡ suc (sent_before who + length (messages es who)) → NotSent es who n
unsent es who differ e n is s h =
    let from : From (suc (sent_before who + 0)) (messages es who) = serials_from who differ [] es e in
    none_from (suc (sent_before who + 0)) s (messages es who) from (omega (arith, h, is))

-- a message that stands first
abbrev pub looked : Bool → Bool → Envelope → Option Envelope → Option Envelope
looked a b e rest = if a then (if b then Some e else rest) else rest

pub look_is : (other who : Party) (e : Envelope) (es : List Entry) (s : ℕ) → message (sent other e ∷ es) who s ≡ looked (same_party other who) (e.serial == s) e (message es who s)
look_is other who e es s = by (same_party other who)
  where
    by : (a : Bool) → with_serial s (cons_option (if a then Some e else None) (messages es who)) ≡ looked a (e.serial == s) e (with_serial s (messages es who))
    by true = refl
    by false = refl

pub found_first : (who : Party) (e : Envelope) (es : List Entry) → message (sent who e ∷ es) who e.serial ≡ Some e
found_first who e es =
    look_is who who e es e.serial
    ∙ ap (λ a. looked a (e.serial == e.serial) e (message es who e.serial)) (party-same who)
    ∙ ap (λ b. looked true b e (message es who e.serial)) (eq-eqb e.serial e.serial refl)

pub found_here : (early rest : List Entry) (who : Party) (e : Envelope) → message early who e.serial ≡ None → message (early ++ sent who e ∷ rest) who e.serial ≡ Some e
found_here early rest who e none = none_more early (sent who e ∷ rest) who e.serial none ∙ found_first who e rest

-- WHAT STANDS BEFORE A MESSAGE
pub front_more : (es ys : List Entry) (who : Party) (s : ℕ) (m : Envelope) → message es who s ≡ Some m → before_sent who s (es ++ ys) ≡ before_sent who s es
front_more [] ys who s m h = absurd (no_none m h)
front_more (sent other e ∷ es) ys who s m h =
    by (same_party other who) (e.serial == s) (λ g. front_more es ys who s m g) (sym (look_is other who e es s) ∙ h)
  where
    by : (a b : Bool) → (message es who s ≡ Some m → before_sent who s (es ++ ys) ≡ before_sent who s es) → looked a b e (message es who s) ≡ Some m
        → (if a && b then [] else sent other e ∷ before_sent who s (es ++ ys)) ≡ (if a && b then [] else sent other e ∷ before_sent who s es)
    by true true ih g = refl
    by true false ih g = ap (λ l. sent other e ∷ l) (ih g)
    by false b ih g = ap (λ l. sent other e ∷ l) (ih g)
front_more (entry ∷ es) ys who s m h = ap (λ l. entry ∷ l) (front_more es ys who s m h)

pub front_none : (es ys : List Entry) (who : Party) (s : ℕ) → message es who s ≡ None → before_sent who s (es ++ ys) ≡ es ++ before_sent who s ys
front_none [] ys who s h = refl
front_none (sent other e ∷ es) ys who s h =
    by (same_party other who) (e.serial == s) (λ g. front_none es ys who s g) (sym (look_is other who e es s) ∙ h)
  where
    by : (a b : Bool) → (message es who s ≡ None → before_sent who s (es ++ ys) ≡ es ++ before_sent who s ys) → looked a b e (message es who s) ≡ None
        → (if a && b then [] else sent other e ∷ before_sent who s (es ++ ys)) ≡ sent other e ∷ (es ++ before_sent who s ys)
    by true true ih g = absurd (no_none e (sym g))
    by true false ih g = ap (λ l. sent other e ∷ l) (ih g)
    by false b ih g = ap (λ l. sent other e ∷ l) (ih g)
front_none (entry ∷ es) ys who s h = ap (λ l. entry ∷ l) (front_none es ys who s h)

front_first : (who : Party) (e : Envelope) (rest : List Entry) → before_sent who e.serial (sent who e ∷ rest) ≡ []
front_first who e rest =
    ap (λ a. if a && (e.serial == e.serial) then [] else sent who e ∷ before_sent who e.serial rest) (party-same who)
    ∙ ap (λ b. if b then [] else sent who e ∷ before_sent who e.serial rest) (eq-eqb e.serial e.serial refl)

pub front_here : (early rest : List Entry) (who : Party) (e : Envelope) → message early who e.serial ≡ None → before_sent who e.serial (early ++ sent who e ∷ rest) ≡ early
front_here early rest who e none =
    front_none early (sent who e ∷ rest) who e.serial none ∙ ap (λ l. early ++ l) (front_first who e rest) ∙ append-nil early

-- the message with a serial stands behind what stands before it
pub sent_split : (es : List Entry) (who : Party) (s : ℕ) (m : Envelope) → message es who s ≡ Some m → (rest : List Entry) × (es ≡ before_sent who s es ++ sent who m ∷ rest)
sent_split [] who s m h = absurd (no_none m h)
sent_split (sent other e ∷ es) who s m h = by (same_party other who) refl (e.serial == s) (sym (look_is other who e es s) ∙ h) (λ g. sent_split es who s m g)
  where
    by : (a : Bool) → same_party other who ≡ a → (b : Bool) → looked a b e (message es who s) ≡ Some m → (message es who s ≡ Some m → (rest : List Entry) × (es ≡ before_sent who s es ++ sent who m ∷ rest))
        → (rest : List Entry) × (sent other e ∷ es ≡ (if a && b then [] else sent other e ∷ before_sent who s es) ++ sent who m ∷ rest)
    by true p true g ih = (es, ap₂ (λ q x. sent q x ∷ es) (same-party other who p) (same_some e m g))
    by true p false g ih = let r = ih g in (r.0, ap (λ l. sent other e ∷ l) r.1)
    by false p b g ih = let r = ih g in (r.0, ap (λ l. sent other e ∷ l) r.1)
sent_split (entry ∷ es) who s m h = let r = sent_split es who s m h in (r.0, ap (λ l. entry ∷ l) r.1)
