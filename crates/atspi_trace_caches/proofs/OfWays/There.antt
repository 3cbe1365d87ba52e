-- Messages whose serials rise, and among which is each signal since: none is missed between two of them, and none behind the last.
use Rattle.std.proofs.Common.{◌≡◌, ◌⊎◌, inl, inr, ℕ, suc, ◌+◌, ◌<◌, ◌≤◌, Bool, true, false, List, [], ◌∷◌, ◌++◌, length, Option, None, Some, refl, sym, ap, ◌∙◌, arith}
use Rattle.std.specs.Prelude.{◌==◌, nat_lt, is_some}
use Rattle.std.specs.List.{AllByRecursion}
use Rattle.std.proofs.lemmas.Bool.{eqb-true, ltb-true, ltb-false}
use Rattle.std.proofs.lemmas.List.{append_assoc}
use Rattle.atspi_script_lines.specs.declared.line.Party.TheVariants.{Bus as The_bus, App}
use Rattle.atspi_message.specs.Envelope.{Envelope}
use Rattle.atspi_protocol.specs.declared.following.question.Question.TheVariants.{Hello}
use Rattle.atspi_protocol.specs.following.Calls.{asking}
use Rattle.atspi_trace.specs.Entry.{Entry, changed, sent}
use Rattle.atspi_trace.specs.World.{Said}
use Rattle.atspi_trace.specs.Ends.{same_party}
use Rattle.atspi_trace_laws.specs.laws.Words.{messages, message, before_sent}
use Rattle.atspi_trace_laws.specs.laws.NineLaws.{sent_before}
use Rattle.atspi_trace_laws.specs.serials.Laws.{HasNextNumber}
use Rattle.atspi_trace_laws.specs.missed.Laws.{NoSignalBetween}
use Rattle.atspi_trace_caches.specs.ways.Laws.{MissesNothing, MissesNothingSince, AllAreThere, AreAskedSince}
use Rattle.atspi_trace_laws.proofs.OfOrder.Parties.{no_none, party-same, false_true}
use Rattle.atspi_trace_laws.proofs.OfOrder.Each.{Each}
use Rattle.atspi_trace_laws.proofs.OfSerials.Numbers.{number_law}
use Rattle.atspi_trace_laws.proofs.OfTaken.Found.{found_more, none_more, found_here, front_more, front_here, look_is, looked, sent_split, unsent}
use Rattle.atspi_trace_laws.proofs.OfMissed.Consecutive.{none_between}
use Rattle.atspi_trace_caches.proofs.OfCaches.Served.{found_last}
use Rattle.atspi_trace_caches.proofs.OfWays.LawWays.{WasSentSo}

-- SERIALS THAT RISE, behind this one
abbrev pub Rising : ℕ → List Said → Type 0
Rising last [] = Unit {0}
Rising last (said ∷ saids) = (last < said.message.serial) × Rising said.message.serial saids

-- a message with this serial is among them
abbrev pub HasSerial : ℕ → List Said → Type 0
HasSerial s [] = ⊥
HasSerial s (said ∷ saids) = (said.message.serial ≡ s) ⊎ HasSerial s saids

none_below : (saids : List Said) (last s : ℕ) → Rising last saids → s ≤ last → HasSerial s saids → ⊥
none_below [] last s r low h = h
none_below (said ∷ saids) last s r low (inl same) = let first : last < said.message.serial = r.0 in absurd (omega (arith, first, low, same))
none_below (said ∷ saids) last s r low (inr h) = let first : last < said.message.serial = r.0 in none_below saids said.message.serial s r.1 (omega (arith, first, low)) h

-- THE MESSAGES OF ONE APPLICATION
module _ (es : List Entry) (law : Each HasNextNumber [] es) (name : List ℕ) (a : ℕ) where
  not_bus : App a ≡ The_bus → ⊥
  not_bus h = false_true (ap (same_party (App a)) (sym h) ∙ party-same (App a))

  -- the serial of its next message, and a message that has it
  abbrev pub next : ℕ
  next = suc (sent_before (App a) + length (messages es (App a)))

  abbrev later : Envelope
  later = asking next Hello

  abbrev more : List Entry
  more = es ++ sent (App a) later ∷ []

  none_later : (s : ℕ) → next ≤ s → message es (App a) s ≡ None
  none_later s h = unsent es (App a) not_bus law next refl s h

  pub sent_low : (s : ℕ) (m : Envelope) → message es (App a) s ≡ Some m → s < next
  sent_low s m found = by (nat_lt s next) refl
    where
      by : (b : Bool) → nat_lt s next ≡ b → s < next
      by true h = ltb-true s next h
      by false h = absurd (no_none m (sym (none_later s (ltb-false s next h)) ∙ found))

  none_next : message es (App a) next ≡ None
  none_next = none_later next (omega arith)

  law_more : Each HasNextNumber [] more
  law_more = number_law es (sent (App a) later ∷ []) law (refl, tt)

  -- below its serial that message changes nothing
  found_before : (s : ℕ) (m : Envelope) → s < next → message more (App a) s ≡ Some m → message es (App a) s ≡ Some m
  found_before s m less found = by (message es (App a) s) refl
    where
      at : (b : Bool) → (next == s) ≡ b → looked true b later None ≡ Some m → ⊥
      at true h g = let same : next ≡ s = eqb-true next s h in absurd (omega (arith, same, less))
      at false h g = no_none m g

      by : (o : Option Envelope) → message es (App a) s ≡ o → message es (App a) s ≡ Some m
      by (Some k) h = h ∙ sym (found_more es (sent (App a) later ∷ []) (App a) s k h) ∙ found
      by None h =
          absurd (at (next == s) refl
          (ap (λ b. looked b (next == s) later None) (sym (party-same (App a))) ∙ sym (look_is (App a) (App a) later [] s) ∙ sym (none_more es (sent (App a) later ∷ []) (App a) s h) ∙ found))

  module _ (base : ℕ) (asked : AreAskedSince name es a base) where
    -- the message since which each step was asked for stands in front, or is this one
    abbrev pub Since : ℕ → Type 0
    Since last = (is_some (message (before_sent (App a) last es) (App a) base) ≡ true) ⊎ (last ≡ base)

    is_found_more : (xs ys : List Entry) → is_some (message xs (App a) base) ≡ true → is_some (message (xs ++ ys) (App a) base) ≡ true
    is_found_more xs ys h = by (message xs (App a) base) refl h
      where
        by : (o : Option Envelope) → message xs (App a) base ≡ o → is_some o ≡ true → is_some (message (xs ++ ys) (App a) base) ≡ true
        by (Some m) g k = ap is_some (found_more xs ys (App a) base m g)
        by None g k = absurd (false_true k)

    since_found : (last : ℕ) (first : Envelope) (xs : List Entry) → first.serial ≡ last → Since last → is_some (message ((before_sent (App a) last es ++ sent (App a) first ∷ []) ++ xs) (App a) base) ≡ true
    since_found last first xs is (inl h) = is_found_more (before_sent (App a) last es ++ sent (App a) first ∷ []) xs (is_found_more (before_sent (App a) last es) (sent (App a) first ∷ []) h)
    since_found last first xs is (inr same) =
        ap (λ n. is_some (message ((before_sent (App a) last es ++ sent (App a) first ∷ []) ++ xs) (App a) n)) (sym (is ∙ same)) ∙ found_last a (before_sent (App a) last es) xs first

    -- between two messages
    since_next : (last serial : ℕ) → Since last → NoSignalBetween es a last serial → Since serial
    since_next last serial since none = inl (ap (λ l. is_some (message l (App a) base)) none.stands ∙ since_found last none.first none.between none.has_serial since)

    none_missed : (last serial : ℕ) (two : Envelope) → message es (App a) serial ≡ Some two → Since last → NoSignalBetween es a last serial → MissesNothing name es a last serial
    none_missed last serial two was since none = record {
      first = none.first;
      between = none.between;
      stands = none.stands;
      no_signal = none.no_signal;
      asked = λ xs ys step here.
          asked (early ++ xs) (ys ++ sent (App a) two ∷ split.0) step
          (split.1 ∙ ap (λ l. l ++ sent (App a) two ∷ split.0) (none.stands ∙ ap (λ l. early ++ l) here ∙ sym (append_assoc early xs (changed a step ∷ ys)))
          ∙ append_assoc (early ++ xs) (changed a step ∷ ys) (sent (App a) two ∷ split.0))
          (since_found last none.first xs none.has_serial since);
    }
      where
        early : List Entry
        early = before_sent (App a) last es ++ sent (App a) none.first ∷ []

        split : (rest : List Entry) × (es ≡ before_sent (App a) serial es ++ sent (App a) two ∷ rest)
        split = sent_split es (App a) serial two was

    -- behind the last: as before one more message, which would come next
    none_since : (last : ℕ) (one : Envelope) → message es (App a) last ≡ Some one → Since last → ((s : ℕ) (m : Envelope) → last < s → message es (App a) s ≡ Some m → m.kind ≡ 4 → ⊥) → MissesNothingSince name es a last
    none_since last one was since never = record {
      first = none.first;
      between = none.between;
      stands = stands;
      no_signal = none.no_signal;
      asked = λ xs ys step here.
          asked (early ++ xs) ys step (stands ∙ ap (λ l. early ++ l) here ∙ sym (append_assoc early xs (changed a step ∷ ys))) (since_found last none.first xs none.has_serial since);
    }
      where
        none : NoSignalBetween more a last next
        none =
            none_between more law_more a last next one later (found_more es (sent (App a) later ∷ []) (App a) last one was) (found_here es [] (App a) later none_next) (sent_low last one was)
            (λ s m above below found four. never s m above (found_before s m below found) four)

        early : List Entry
        early = before_sent (App a) last es ++ sent (App a) none.first ∷ []

        stands : es ≡ early ++ none.between
        stands = sym (front_here es [] (App a) later none_next) ∙ none.stands ∙ ap (λ l. (l ++ sent (App a) none.first ∷ []) ++ none.between) (front_more es (sent (App a) later ∷ []) (App a) last one was)

    -- ALL ARE THERE
    pub all_there : (saids : List Said) (last : ℕ) (one : Envelope) → message es (App a) last ≡ Some one → Since last → Rising last saids → AllByRecursion (WasSentSo name es a) saids
        → ((s : ℕ) (m : Envelope) → last < s → message es (App a) s ≡ Some m → m.kind ≡ 4 → HasSerial s saids) → AllAreThere name es a last saids
    all_there [] last one was since rises found_ on = none_since last one was since on
    all_there (said ∷ saids) last one was since rises found_ on = (
      none_missed last said.message.serial found_.0.first found_.0.was since none,
      all_there saids said.message.serial found_.0.first found_.0.was (since_next last said.message.serial since none) rises.1 found_.1 later_on,
    )
      where
        above : last < said.message.serial
        above = rises.0

        none : NoSignalBetween es a last said.message.serial
        none = none_between es law a last said.message.serial one found_.0.first was found_.0.was above (λ s m low high found four. never s high (on s m low found four))
          where
            never : (s : ℕ) → s < said.message.serial → HasSerial s (said ∷ saids) → ⊥
            never s high (inl same) = absurd (omega (arith, high, same))
            never s high (inr h) = none_below saids said.message.serial s rises.1 (omega (arith, high)) h

        later_on : (s : ℕ) (m : Envelope) → said.message.serial < s → message es (App a) s ≡ Some m → m.kind ≡ 4 → HasSerial s saids
        later_on s m low found four = at (on s m (omega (arith, above, low)) found four)
          where
            at : HasSerial s (said ∷ saids) → HasSerial s saids
            at (inl same) = absurd (omega (arith, low, same))
            at (inr h) = h
