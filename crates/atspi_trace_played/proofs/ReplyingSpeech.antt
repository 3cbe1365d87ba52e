-- How many replies ends say to a message, and how many own calls of a reader it answers: one at most.
use Rattle.std.proofs.Common.{◌≡◌, ℕ, ◌+◌, ◌≤◌, Bool, true, false, List, [], ◌∷◌, ◌++◌, map, Option, None, Some, refl, sym, ap, ap₂, ◌∙◌, subst, arith}
use Rattle.std.specs.Prelude.{◌==◌, ◌&&◌, bit_and, if◌then◌else◌}
use Rattle.std.proofs.lemmas.Bool.{eqb-true}
use Rattle.std.proofs.lemmas.Slice.Eq.{bytes_eq-Decides}
use Rattle.atspi_tree_model.specs.Forest.{Forest}
use Rattle.atspi_tree_model.specs.Row.{TreeRow}
use Rattle.atspi_tree_model.specs.RowRules.{rows}
use Rattle.atspi_tree_model.specs.Tree.{after}
use Rattle.atspi_tree_model.specs.declared.step.Step.{Step}
use Rattle.atspi_message.specs.Envelope.{Envelope}
use Rattle.atspi_match.specs.routing.Routing.{is_reply, expects_reply}
use Rattle.atspi_protocol.specs.following.Replied.{is_reply_to}
use Rattle.atspi_protocol.specs.exporting.Exporter.{Happening, steps, sends, hears as hears_of, deaf, Exporter}
use Rattle.atspi_protocol.specs.exporting.Laws.{AddsReply, waiting_for, replies_among}
use Rattle.atspi_protocol.specs.exporting.Taking.{app_takes}
use Rattle.atspi_protocol.specs.registering.RegistryState.{RegistryState}
use Rattle.atspi_protocol.specs.registering.Laws.{replies_in}
use Rattle.atspi_protocol.specs.registering.Steps.{RegistryStep, registry_takes, named, called_by, hears, name_told, name_gone}
use Rattle.atspi_protocol.proofs.OfExporting.Answered.{each_call_is_answered}
use Rattle.atspi_protocol.proofs.OfRegistering.Replies.{once}
use Rattle.atspi_trace.specs.World.{Asked}
use Rattle.atspi_trace.specs.Ends.{plain}
use Rattle.atspi_trace.specs.Hearing.{answered_by, fate_of, is_answered}
use Rattle.atspi_trace.specs.Causes.{saids}
use Rattle.atspi_trace_laws.proofs.OfOrder.Parties.{no_none, false_true}
use Rattle.atspi_trace_laws.proofs.OfSigned.Speech.{NoReply}
use Rattle.atspi_trace_played.proofs.Facts.{AllBelow, SerialsDiffer}
use Rattle.atspi_trace_played.proofs.ReplyingTally.{one_if, tally, one_most, replies_to, calls_from, replies_for, is_name, answered, in_said}

-- WHAT ENDS SAY
module _ (u : Option (List ℕ)) (n : ℕ) where
  pub none_said : (s : Exporter) (f : Forest TreeRow) (a : Option Step) (hs : List Happening) → NoReply hs → tally (in_said (replies_for u n)) (saids s f a hs) ≡ 0
  none_said s f a [] h = refl
  none_said s f a (sends e ∷ hs) h = plus (one_if (replies_for u n e)) (tally (in_said (replies_for u n)) (saids s f None hs)) (ap (λ b. one_if ((b && is_reply_to n e.reply) && is_name e.destination u)) h.0) (none_said s f None hs h.1)
    where
      plus : (a b : ℕ) → a ≡ 0 → b ≡ 0 → a + b ≡ 0
      plus a b h g = omega (arith, h, g)
  none_said s f a (steps step ∷ hs) h = none_said s (after rows f step) _ hs h
  none_said s f a (hears_of listener pattern ∷ hs) h = none_said s f a hs h
  none_said s f a (deaf listener pattern ∷ hs) h = none_said s f a hs h

  -- an application's replies
  all_said : (s : Exporter) (f : Forest TreeRow) (a : Option Step) (hs : List Happening) → tally (in_said (replies_for u n)) (saids s f a hs) ≡ tally (replies_for u n) (replies_among hs)
  all_said s f a [] = refl
  all_said s f a (sends e ∷ hs) = by (is_reply e) refl (all_said s f None hs)
    where
      by : (b : Bool) → is_reply e ≡ b → tally (in_said (replies_for u n)) (saids s f None hs) ≡ tally (replies_for u n) (replies_among hs)
          → one_if (replies_for u n e) + tally (in_said (replies_for u n)) (saids s f None hs) ≡ tally (replies_for u n) (if b then e ∷ replies_among hs else replies_among hs)
      by true g ih = ap (λ z. one_if (replies_for u n e) + z) ih
      by false g ih = plus (one_if (replies_for u n e)) (tally (in_said (replies_for u n)) (saids s f None hs)) (tally (replies_for u n) (replies_among hs)) (ap (λ b. one_if ((b && is_reply_to n e.reply) && is_name e.destination u)) g) ih
        where
          plus : (a b c : ℕ) → a ≡ 0 → b ≡ c → a + b ≡ c
          plus a b c h g = omega (arith, h, g)
  all_said s f a (steps step ∷ hs) = all_said s (after rows f step) _ hs
  all_said s f a (hears_of listener pattern ∷ hs) = all_said s f a hs
  all_said s f a (deaf listener pattern ∷ hs) = all_said s f a hs

  -- a reply to who called, with the call's serial
  one_reply : (reply e : Envelope) (caller : List ℕ) → expects_reply e ≡ true → e.sender ≡ Some caller → reply.destination ≡ Some caller → reply.reply ≡ Some e.serial → one_if (replies_for u n reply) ≤ one_if (calls_from u n e)
  one_reply reply e caller expects sender to with_ = by (is_reply reply) (e.serial == n) (is_name (Some caller) u) (ap₂ (λ o d. one_if ((is_reply reply && is_reply_to n o) && is_name d u)) with_ to)
      (ap₂ (λ b s. one_if ((b && (e.serial == n)) && is_name s u)) expects sender)
    where
      le : (a b x y : ℕ) → a ≡ x → b ≡ y → x ≤ y → a ≤ b
      le a b x y h g f = omega (arith, h, g, f)

      least : (x : ℕ) → x ≤ x
      least x = omega arith

      zero_le : (x : ℕ) → 0 ≤ x
      zero_le x = omega arith

      by : (a b c : Bool) → one_if (replies_for u n reply) ≡ one_if ((is_reply reply && (e.serial == n)) && is_name (Some caller) u) → one_if (calls_from u n e) ≡ one_if ((true && (e.serial == n)) && is_name (Some caller) u)
          → one_if (replies_for u n reply) ≤ one_if (calls_from u n e)
      by a b c h g = le (one_if (replies_for u n reply)) (one_if (calls_from u n e)) (one_if ((is_reply reply && (e.serial == n)) && is_name (Some caller) u)) (one_if ((true && (e.serial == n)) && is_name (Some caller) u)) h g
          (at (is_reply reply))
        where
          at : (a : Bool) → one_if ((a && (e.serial == n)) && is_name (Some caller) u) ≤ one_if ((true && (e.serial == n)) && is_name (Some caller) u)
          at true = least (one_if ((true && (e.serial == n)) && is_name (Some caller) u))
          at false = zero_le (one_if ((true && (e.serial == n)) && is_name (Some caller) u))

  pub app_said : (s : Exporter) (e : Envelope) → s.out ≡ [] → tally (in_said (replies_for u n)) (saids s s.tree None (app_takes s e).out) ≤ one_if (calls_from u n e)
  app_said s e empty = le (tally (in_said (replies_for u n)) (saids s s.tree None (app_takes s e).out)) (tally (replies_for u n) (replies_among (app_takes s e).out)) (one_if (calls_from u n e))
      (all_said s s.tree None (app_takes s e).out) (by (waiting_for s.name e) refl (each_call_is_answered s e))
    where
      le : (a b c : ℕ) → a ≡ b → b ≤ c → a ≤ c
      le a b c h g = omega (arith, h, g)

      sums : (a b c : ℕ) → a ≡ b + 0 → b ≤ c → a ≤ c
      sums a b c h g = omega (arith, h, g)

      waited : (o : Option (List ℕ)) (caller : List ℕ) → waiting_for o e ≡ Some caller → (expects_reply e ≡ true) × (e.sender ≡ Some caller)
      waited None caller h = absurd (no_none caller h)
      waited (Some name) caller h = at (expects_reply e) refl h
        where
          at : (b : Bool) → expects_reply e ≡ b → (if b then e.sender else None) ≡ Some caller → (expects_reply e ≡ true) × (e.sender ≡ Some caller)
          at true g f = (g, f)
          at false g f = absurd (no_none caller f)

      by : (o : Option (List ℕ)) → waiting_for s.name e ≡ o → AddsReply o e.serial (replies_among s.out) (replies_among (app_takes s e).out) → tally (replies_for u n) (replies_among (app_takes s e).out) ≤ one_if (calls_from u n e)
      by None h same = le (tally (replies_for u n) (replies_among (app_takes s e).out)) 0 (one_if (calls_from u n e)) (ap (tally (replies_for u n)) (same ∙ ap replies_among empty)) (least (one_if (calls_from u n e)))
        where
          least : (a : ℕ) → 0 ≤ a
          least a = omega arith
      by (Some caller) h x =
          let y = waited s.name caller h in
          sums (tally (replies_for u n) (replies_among (app_takes s e).out)) (one_if (replies_for u n x.0)) (one_if (calls_from u n e)) (ap (tally (replies_for u n)) (x.1 ∙ ap (λ l. replies_among l ++ x.0 ∷ []) empty))
          (one_reply x.0 e caller y.0 y.1 x.2 x.3)

  -- and the registry's
  plain_said : (ms : List Envelope) → tally (in_said (replies_for u n)) (map plain ms) ≡ tally (replies_for u n) (replies_in ms)
  plain_said [] = refl
  plain_said (m ∷ ms) = by (is_reply m) refl (plain_said ms)
    where
      by : (b : Bool) → is_reply m ≡ b → tally (in_said (replies_for u n)) (map plain ms) ≡ tally (replies_for u n) (replies_in ms)
          → one_if (replies_for u n m) + tally (in_said (replies_for u n)) (map plain ms) ≡ tally (replies_for u n) (if b then m ∷ replies_in ms else replies_in ms)
      by true g ih = ap (λ z. one_if (replies_for u n m) + z) ih
      by false g ih = plus (one_if (replies_for u n m)) (tally (in_said (replies_for u n)) (map plain ms)) (tally (replies_for u n) (replies_in ms)) (ap (λ b. one_if ((b && is_reply_to n m.reply) && is_name m.destination u)) g) ih
        where
          plus : (a b c : ℕ) → a ≡ 0 → b ≡ c → a + b ≡ c
          plus a b c h g = omega (arith, h, g)

  unnamed_is : (s : RegistryState) (e : Envelope) → s.own ≡ None → registry_takes s e ≡ named s (name_told s.hello e)
  unnamed_is s e k = rw k refl

  owned_is : (s : RegistryState) (e : Envelope) (own : List ℕ) → s.own ≡ Some own → registry_takes s e ≡ (if e.kind == 1 then called_by s own e e.sender else hears s (name_gone e))
  owned_is s e own k = rw k refl

  pub registry_said : (s : RegistryState) (e : Envelope) → tally (in_said (replies_for u n)) (map plain (registry_takes s e).sent) ≤ one_if (calls_from u n e)
  registry_said s e = le (tally (in_said (replies_for u n)) (map plain (registry_takes s e).sent)) (tally (replies_for u n) (replies_in (registry_takes s e).sent)) (one_if (calls_from u n e)) (plain_said (registry_takes s e).sent)
      (by (expects_reply e) refl s.own refl e.sender refl)
    where
      le : (a b c : ℕ) → a ≡ b → b ≤ c → a ≤ c
      le a b c h g = omega (arith, h, g)

      zero_le : (a c : ℕ) → a ≡ 0 → a ≤ c
      zero_le a c h = omega (arith, h)

      sums : (a b c : ℕ) → a ≡ b + 0 → b ≤ c → a ≤ c
      sums a b c h g = omega (arith, h, g)

      none : replies_in (registry_takes s e).sent ≡ [] → tally (replies_for u n) (replies_in (registry_takes s e).sent) ≤ one_if (calls_from u n e)
      none h = zero_le (tally (replies_for u n) (replies_in (registry_takes s e).sent)) (one_if (calls_from u n e)) (ap (tally (replies_for u n)) h)

      unnamed : (o : Option (List ℕ)) → replies_in (named s o).sent ≡ []
      unnamed None = refl
      unnamed (Some name) = refl

      kind_one : (b : Bool) → (e.kind == 1) ≡ b → expects_reply e ≡ true → (e.kind == 1) ≡ true
      kind_one true h x = h
      kind_one false h x = absurd (false_true (sym (ap (λ b. b && (bit_and e.flags 1 == 0)) h) ∙ x))

      by : (b : Bool) → expects_reply e ≡ b → (o : Option (List ℕ)) → s.own ≡ o → (c : Option (List ℕ)) → e.sender ≡ c → tally (replies_for u n) (replies_in (registry_takes s e).sent) ≤ one_if (calls_from u n e)
      by false h o k c g = none (once.unexpected s e h)
      by true h None k c g = none (ap (λ (x : RegistryStep). replies_in x.sent) (unnamed_is s e k) ∙ unnamed (name_told s.hello e))
      by true h (Some own) k None g = none (ap (λ (x : RegistryStep). replies_in x.sent) (owned_is s e own k ∙ ap₂ (λ b o. if b then called_by s own e o else hears s (name_gone e)) (kind_one (e.kind == 1) refl h) g))
      by true h (Some own) k (Some caller) g =
          let one = once.expected s e own caller k g h in
          sums (tally (replies_for u n) (replies_in (registry_takes s e).sent)) (one_if (replies_for u n one.reply)) (one_if (calls_from u n e)) (ap (tally (replies_for u n)) one.alone) (one_reply one.reply e caller h g one.to one.with_)

-- A READER'S OWN CALLS, answered
module _ (n : ℕ) (m : Envelope) where
  none_of : (xs : List Asked) → AllBelow n xs → tally (answered n) (map (answered_by m) xs) ≡ 0
  none_of [] b = refl
  none_of (a ∷ xs) b = plus (one_if (answered n (answered_by m a))) (tally (answered n) (map (answered_by m) xs)) (by (is_reply m && is_reply_to a.serial m.reply)) (none_of xs b.1)
    where
      plus : (a b : ℕ) → a ≡ 0 → b ≡ 0 → a + b ≡ 0
      plus a b h g = omega (arith, h, g)

      differ : (a.serial == n) ≡ false
      differ = at (a.serial == n) refl
        where
          at : (c : Bool) → (a.serial == n) ≡ c → (a.serial == n) ≡ false
          at true g = absurd (false_true (sym b.0 ∙ (bytes_eq-Decides (n ∷ []) (a.serial ∷ [])).1 (ap (λ z. z ∷ []) (sym (eqb-true a.serial n g)))))
          at false g = g

      by : (c : Bool) → one_if (answered n (if c then record a { fate = fate_of m } else a)) ≡ 0
      by true = ap (λ z. one_if (z && is_answered (record a { fate = fate_of m }))) differ
      by false = ap (λ z. one_if (z && is_answered a)) differ

  pub answered_more : (xs : List Asked) → SerialsDiffer xs → tally (answered n) (map (answered_by m) xs) ≤ tally (answered n) xs + one_if (replies_to n m)
  answered_more [] d = least 0 (one_if (replies_to n m))
    where
      least : (a b : ℕ) → a ≤ a + b
      least a b = omega arith
  answered_more (a ∷ xs) d = by (a.serial == n) refl (answered_more xs d.1)
    where
      c : Bool
      c = is_reply m && is_reply_to a.serial m.reply

      first : (x y z p q : ℕ) → x ≤ y + p → z ≡ 0 → x + z ≤ (y + q) + p
      first x y z p q h g = omega (arith, h, g)

      second : (x y z q p : ℕ) → x ≡ 0 → y ≤ q + p → x + y ≤ (z + q) + p
      second x y z q p h g = omega (arith, h, g)

      one : (e : Bool) → (is_reply m && is_reply_to a.serial m.reply) ≡ e → a.serial ≡ n → one_if (answered n (if e then record a { fate = fate_of m } else a)) ≤ one_if (answered n a) + one_if (replies_to n m)
      one false g same = low (one_if (answered n a)) (one_if (replies_to n m))
        where
          low : (a b : ℕ) → a ≤ a + b
          low a b = omega arith
      one true g same = low (one_if (answered n (record a { fate = fate_of m }))) (one_if (answered n a)) (one_if (replies_to n m)) (one_most (answered n (record a { fate = fate_of m })))
          (ap one_if (ap (λ s. is_reply m && is_reply_to s m.reply) (sym same) ∙ g))
        where
          low : (x a b : ℕ) → x ≤ 1 → b ≡ 1 → x ≤ a + b
          low x a b h g = omega (arith, h, g)

      not_it : (e : Bool) → (a.serial == n) ≡ false → one_if (answered n (if e then record a { fate = fate_of m } else a)) ≡ 0
      not_it true h = ap (λ z. one_if (z && is_answered (record a { fate = fate_of m }))) h
      not_it false h = ap (λ z. one_if (z && is_answered a)) h

      by : (b : Bool) → (a.serial == n) ≡ b → tally (answered n) (map (answered_by m) xs) ≤ tally (answered n) xs + one_if (replies_to n m)
          → one_if (answered n (answered_by m a)) + tally (answered n) (map (answered_by m) xs) ≤ (one_if (answered n a) + tally (answered n) xs) + one_if (replies_to n m)
      by true h ih =
          let same : a.serial ≡ n = eqb-true a.serial n h in
          first (one_if (answered n (answered_by m a))) (one_if (answered n a)) (tally (answered n) (map (answered_by m) xs)) (one_if (replies_to n m)) (tally (answered n) xs) (one (is_reply m && is_reply_to a.serial m.reply) refl same)
          (none_of xs (subst (λ s. AllBelow s xs) same d.0))
      by false h ih = second (one_if (answered n (answered_by m a))) (tally (answered n) (map (answered_by m) xs)) (one_if (answered n a)) (tally (answered n) xs) (one_if (replies_to n m))
          (not_it (is_reply m && is_reply_to a.serial m.reply) h) ih
