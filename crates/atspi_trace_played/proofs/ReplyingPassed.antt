-- HOW MANY REPLIES the bus hands to a reader where it hands a message on: a reply to one of its open calls, which is open no longer; and a call of its that is handed to another is open there.
use Rattle.std.proofs.Common.{◌≡◌, ◌⊎◌, inl, inr, ℕ, ◌+◌, ◌≤◌, Bool, true, false, List, [], ◌∷◌, ◌++◌, map, Option, None, Some, refl, sym, ap, ap₂, ◌∙◌, subst, arith}
use Rattle.std.specs.Prelude.{◌==◌, ◌&&◌, ◌||◌, bytes_eq, filter, bit_and, if◌then◌else◌}
use Rattle.std.proofs.lemmas.Bool.{eqb-true, eq-eqb}
use Rattle.std.proofs.lemmas.Slice.Eq.{bytes_eq-Decides}
use Rattle.atspi_message.specs.Envelope.{Envelope}
use Rattle.atspi_names.specs.Owners.{list_of}
use Rattle.atspi_names.specs.Queue.{owner_in}
use Rattle.atspi_match.specs.routing.BusState.{OpenCall, BusState, unique_of}
use Rattle.atspi_match.specs.routing.Routing.{receivers, owners_of, one_or_none, is_for_bus, is_reply, expects_reply, asks_for, with_call, without_answered, calls_after}
use Rattle.atspi_match.specs.routing.Steps.{delivers, BusStep, handed, replies, is_unowned, calls_after_all}
use Rattle.atspi_protocol.specs.following.Replied.{is_reply_to}
use Rattle.atspi_trace_laws.proofs.OfOrder.Parties.{false_true}
use Rattle.atspi_trace_played.proofs.ReplyingTally.{one_if, tally, tally_append, one_most, and_false, replies_to, calls_as, calls_from, replies_for, is_name, opens, opens_at, given, given_none, fewer_open, gone_open, one_gone}
use Rattle.atspi_trace_played.proofs.ReplyingSteps.{Knows, StepFine, leaves_open, silent}

-- ANY OTHER MESSAGE, as it is handed on
abbrev passed : BusState → ℕ → Envelope → BusStep
passed s j m = record { state = record s { calls = calls_after_all s.calls j m (receivers s m) }; moves = handed s m }

pub not_one : (m : Envelope) → (m.kind == 1) ≡ false → expects_reply m ≡ false
not_one m h = ap (λ b. b && (bit_and m.flags 1 == 0)) h

pub expects_kind : (m : Envelope) → expects_reply m ≡ true → is_reply m ≡ false
expects_kind m h = by (m.kind == 1) refl h
  where
    by : (b : Bool) → (m.kind == 1) ≡ b → (b && (bit_and m.flags 1 == 0)) ≡ true → is_reply m ≡ false
    by true g f = ap (λ k. k == 2 || k == 3) (eqb-true m.kind 1 g)
    by false g f = absurd (false_true f)

if_true : (P : List OpenCall → Type 0) (a : Bool) (x y : List OpenCall) → a ≡ true → P x → P (if a then x else y)
if_true P true x y h p = p
if_true P false x y h p = absurd (false_true h)

if_false : (P : List OpenCall → Type 0) (a : Bool) (x y : List OpenCall) → a ≡ false → P y → P (if a then x else y)
if_false P true x y h p = absurd (false_true (sym h))
if_false P false x y h p = p

-- one that is neither a call that waits nor a reply
plain_calls : (calls : List OpenCall) (j : ℕ) (m : Envelope) (conns : List ℕ) → expects_reply m ≡ false → is_reply m ≡ false → calls_after_all calls j m conns ≡ calls
plain_calls calls j m [] h g = refl
plain_calls calls j m (c ∷ cs) h g = ap (λ l. calls_after_all l j m cs) (one m.reply) ∙ plain_calls calls j m cs h g
  where
    one : (o : Option ℕ) → calls_after calls j (record m { reply = o }) c ≡ calls
    one None = ap₂ (λ a b. if a then with_call calls j m.serial c else if b then calls else calls) h g
    one (Some serial) = ap₂ (λ a b. if a then with_call calls j m.serial c else if b then without_answered calls c serial j else calls) h g

module _ (s : BusState) (j k n : ℕ) (u : Option (List ℕ)) (m0 : Envelope) (own : List ℕ) (named : unique_of s.owners j ≡ Some own) (knows : Knows s j k n u m0) where
  abbrev m : Envelope
  m = record m0 { sender = Some own }

  plain_passed : expects_reply m0 ≡ false → is_reply m0 ≡ false → StepFine s j k n u m0 (passed s j m)
  plain_passed h g =
      leaves_open s j k n u m0 (passed s j m) (plain_calls s.calls j m (receivers s m) h g)
      (low (given (replies_to n) k (handed s m)) (one_if ((j == k) && calls_as n m0)) (given_none (replies_to n) k m (receivers s m) (ap (λ b. b && is_reply_to n m0.reply) g)))
      (λ x. given_none (calls_from u n) x m (receivers s m) (ap (λ b. (b && (m0.serial == n)) && is_name (Some own) u) h))
    where
      low : (a b : ℕ) → a ≡ 0 → a ≤ b
      low a b h = omega (arith, h)

  -- to nobody
  to_none : receivers s m ≡ [] → StepFine s j k n u m0 (passed s j m)
  to_none none = silent s j k n u m0 (passed s j m) (ap (calls_after_all s.calls j m) none) (λ p x. ap (λ l. given p x (map (λ c. delivers c m) l)) none)

  -- a call, to one
  call_passed : (c : ℕ) → receivers s m ≡ c ∷ [] → expects_reply m0 ≡ true → StepFine s j k n u m0 (passed s j m)
  call_passed c one h = record {
    mine = first (given (replies_to n) k (handed s m)) (tally (opens k n) (calls_after_all s.calls j m (receivers s m))) (tally (opens k n) s.calls) (one_if ((j == k) && calls_as n m0))
        (given_none (replies_to n) k m (receivers s m) (ap (λ b. b && is_reply_to n m0.reply) (expects_kind m0 h)))
        (ap (tally (opens k n)) calls_are ∙ tally_append (opens k n) s.calls (record { caller = j; serial = m0.serial; callee = c } ∷ [])) its;
    theirs = λ x.
        second (given (calls_from u n) x (handed s m)) (one_if ((c == x) && calls_from u n m)) (tally (opens_at k n x) s.calls) (tally (opens_at k n x) (calls_after_all s.calls j m (receivers s m)))
        (one_if (opens_at k n x (record { caller = j; serial = m0.serial; callee = c }))) (one_if ((j == x) && replies_for u n m0))
        (ap (λ l. given (calls_from u n) x (map (λ d. delivers d m) l)) one) (ap (tally (opens_at k n x)) calls_are ∙ tally_append (opens_at k n x) s.calls (record { caller = j; serial = m0.serial; callee = c } ∷ [])) (opened x);
  }
    where
      opened_one : calls_after_all s.calls j m (c ∷ []) ≡ s.calls ++ record { caller = j; serial = m0.serial; callee = c } ∷ []
      opened_one = if_true (λ l. l ≡ s.calls ++ record { caller = j; serial = m0.serial; callee = c } ∷ []) (expects_reply m0) (with_call s.calls j m0.serial c) _ h refl

      calls_are : calls_after_all s.calls j m (receivers s m) ≡ s.calls ++ record { caller = j; serial = m0.serial; callee = c } ∷ []
      calls_are = ap (calls_after_all s.calls j m) one ∙ opened_one

      its : one_if ((j == k) && (m0.serial == n)) ≡ one_if ((j == k) && calls_as n m0)
      its = ap (λ b. one_if ((j == k) && (b && (m0.serial == n)))) (sym h)

      first : (a b c d : ℕ) {z : ℕ} → a ≡ 0 → b ≡ c + (z + 0) → z ≡ d → a + b ≤ c + d
      first a b c d h g f = omega (arith, h, g, f)

      second : (a a2 b c z d : ℕ) → a ≡ a2 + 0 → c ≡ b + (z + 0) → a2 ≤ z → a + b ≤ c + d
      second a a2 b c z d h g f = omega (arith, h, g, f)

      opened : (x : ℕ) → one_if ((c == x) && calls_from u n m) ≤ one_if (opens_at k n x (record { caller = j; serial = m0.serial; callee = c }))
      opened x = by (c == x) (m0.serial == n) u refl
        where
          none : (a : ℕ) → 0 ≤ a
          none a = omega arith

          by : (a b : Bool) (o : Option (List ℕ)) → u ≡ o → one_if (a && ((expects_reply m0 && b) && is_name (Some own) o)) ≤ one_if (((j == k) && b) && a)
          by false b o is = none (one_if (((j == k) && b) && false))
          by true false o is = subst (λ z. one_if ((z && false) && is_name (Some own) o) ≤ one_if (((j == k) && false) && true)) (sym h) (none (one_if (((j == k) && false) && true)))
          by true true None is = subst (λ z. one_if z ≤ one_if (((j == k) && true) && true)) (sym (and_false (expects_reply m0 && true) false refl)) (none (one_if (((j == k) && true) && true)))
          by true true (Some name) is = at (bytes_eq own name) refl
            where
              same : bytes_eq own name ≡ true → (j == k) ≡ true
              same g = eq-eqb j k (knows.one own (is ∙ ap Some (sym ((bytes_eq-Decides own name).0 g))) named)

              at : (q : Bool) → bytes_eq own name ≡ q → one_if ((expects_reply m0 && true) && q) ≤ one_if (((j == k) && true) && true)
              at true g = subst (λ z. one_if ((expects_reply m0 && true) && true) ≤ one_if ((z && true) && true)) (sym (same g)) (one_most ((expects_reply m0 && true) && true))
              at false g = subst (λ z. one_if z ≤ one_if (((j == k) && true) && true)) (sym (and_false (expects_reply m0 && true) false refl)) (none (one_if (((j == k) && true) && true)))

  -- a reply, to one
  reply_passed : (c : ℕ) (name : List ℕ) → receivers s m ≡ c ∷ [] → m0.destination ≡ Some name → unique_of s.owners c ≡ Some name → expects_reply m0 ≡ false → is_reply m0 ≡ true → StepFine s j k n u m0 (passed s j m)
  reply_passed c name one to its no_call replies = by m0.reply refl
    where
      calls_now : (o : Option ℕ) → List OpenCall
      calls_now None = s.calls
      calls_now (Some serial) = without_answered s.calls c serial j

      calls_one : (o : Option ℕ) → calls_after_all s.calls j (record m { reply = o }) (c ∷ []) ≡ calls_now o
      calls_one None = if_false (λ l. l ≡ s.calls) (expects_reply m0) (with_call s.calls j m0.serial c) _ no_call (if_true (λ l. l ≡ s.calls) (is_reply m0) s.calls s.calls replies refl)
      calls_one (Some serial) =
          if_false (λ l. l ≡ without_answered s.calls c serial j) (expects_reply m0) (with_call s.calls j m0.serial c) _ no_call
          (if_true (λ l. l ≡ without_answered s.calls c serial j) (is_reply m0) (without_answered s.calls c serial j) s.calls replies refl)

      calls_are : calls_after_all s.calls j m (receivers s m) ≡ calls_now m0.reply
      calls_are = ap (calls_after_all s.calls j m) one ∙ calls_one m0.reply

      not_called : (x : ℕ) → given (calls_from u n) x (handed s m) ≡ 0
      not_called x = given_none (calls_from u n) x m (receivers s m) (ap (λ b. (b && (m0.serial == n)) && is_name (Some own) u) no_call)

      its_given : given (replies_to n) k (handed s m) ≡ one_if ((c == k) && replies_to n m0) + 0
      its_given = ap (λ l. given (replies_to n) k (map (λ d. delivers d m) l)) one

      -- where it is for the one with the name
      for_it : c ≡ k → replies_to n m0 ≡ true → replies_for u n m0 ≡ true
      for_it at r = ap₂ (λ a b. a && b) r (ap₂ is_name to (knows.its name (ap (unique_of s.owners) (sym at) ∙ its)) ∙ (bytes_eq-Decides name name).1 refl)

      made : (o : Option ℕ) → m0.reply ≡ o
          → one_if ((c == k) && replies_to n m0) + tally (opens k n) (calls_now o) ≤ tally (opens k n) s.calls
          → ((x : ℕ) → tally (opens_at k n x) s.calls ≤ tally (opens_at k n x) (calls_now o) + one_if ((j == x) && replies_for u n m0)) → StepFine s j k n u m0 (passed s j m)
      made o is few kept = record {
        mine = first (given (replies_to n) k (handed s m)) (one_if ((c == k) && replies_to n m0)) (tally (opens k n) (calls_after_all s.calls j m (receivers s m))) (tally (opens k n) (calls_now o)) (tally (opens k n) s.calls)
            (one_if ((j == k) && calls_as n m0)) its_given
            (ap (tally (opens k n)) (calls_are ∙ ap calls_now is)) few;
        theirs = λ x. second (given (calls_from u n) x (handed s m)) (tally (opens_at k n x) s.calls) (tally (opens_at k n x) (calls_after_all s.calls j m (receivers s m))) (tally (opens_at k n x) (calls_now o))
            (one_if ((j == x) && replies_for u n m0)) (not_called x)
            (ap (tally (opens_at k n x)) (calls_are ∙ ap calls_now is)) (kept x);
      }
        where
          first : (g a b b2 c d : ℕ) → g ≡ a + 0 → b ≡ b2 → a + b2 ≤ c → g + b ≤ c + d
          first g a b b2 c d h f i = omega (arith, h, f, i)

          second : (g a b b2 d : ℕ) → g ≡ 0 → b ≡ b2 → a ≤ b2 + d → g + a ≤ b + d
          second g a b b2 d h f i = omega (arith, h, f, i)

      by : (o : Option ℕ) → m0.reply ≡ o → StepFine s j k n u m0 (passed s j m)
      by None is = made None is (low (one_if ((c == k) && replies_to n m0)) (tally (opens k n) s.calls) never) (λ x. more (tally (opens_at k n x) s.calls) (one_if ((j == x) && replies_for u n m0)))
        where
          never : one_if ((c == k) && replies_to n m0) ≡ 0
          never = ap one_if (and_false (c == k) (replies_to n m0) (ap (λ o. is_reply m0 && is_reply_to n o) is ∙ and_false (is_reply m0) false refl))

          low : (a b : ℕ) → a ≡ 0 → a + b ≤ b
          low a b h = omega (arith, h)

          more : (a b : ℕ) → a ≤ a + b
          more a b = omega arith
      by (Some serial) is = made (Some serial) is (at (c == k) refl (serial == n) refl) theirs
        where
          replied_is : replies_to n m0 ≡ (serial == n)
          replied_is = ap₂ (λ a o. a && is_reply_to n o) replies is

          at : (a : Bool) → (c == k) ≡ a → (b : Bool) → (serial == n) ≡ b → one_if ((c == k) && replies_to n m0) + tally (opens k n) (without_answered s.calls c serial j) ≤ tally (opens k n) s.calls
          at true f true g =
              let there = knows.is_open (for_it (eqb-true c k f) (replied_is ∙ g)) in
              let gone = one_gone k n j s.calls there in
              first (one_if ((c == k) && replies_to n m0)) (tally (opens k n) (without_answered s.calls c serial j)) (tally (opens k n) (without_answered s.calls k n j)) (tally (opens k n) s.calls) (one_most ((c == k) && replies_to n m0))
              (ap₂ (λ a b. tally (opens k n) (without_answered s.calls a b j)) (eqb-true c k f) (eqb-true serial n g)) gone
            where
              first : (o a a2 b : ℕ) → o ≤ 1 → a ≡ a2 → 1 + a2 ≤ b → o + a ≤ b
              first o a a2 b h f g = omega (arith, h, f, g)
          at true f false g = none (ap₂ (λ a b. one_if (a && b)) f (replied_is ∙ g)) (fewer_open k n c serial j s.calls)
            where
              none : one_if ((c == k) && replies_to n m0) ≡ 0 → tally (opens k n) (without_answered s.calls c serial j) ≤ tally (opens k n) s.calls
                  → one_if ((c == k) && replies_to n m0) + tally (opens k n) (without_answered s.calls c serial j) ≤ tally (opens k n) s.calls
              none z h = omega (arith, z, h)
          at false f b g = none (ap (λ a. one_if (a && replies_to n m0)) f) (fewer_open k n c serial j s.calls)
            where
              none : one_if ((c == k) && replies_to n m0) ≡ 0 → tally (opens k n) (without_answered s.calls c serial j) ≤ tally (opens k n) s.calls
                  → one_if ((c == k) && replies_to n m0) + tally (opens k n) (without_answered s.calls c serial j) ≤ tally (opens k n) s.calls
              none z h = omega (arith, z, h)

          theirs : (x : ℕ) → tally (opens_at k n x) s.calls ≤ tally (opens_at k n x) (without_answered s.calls c serial j) + one_if ((j == x) && replies_for u n m0)
          theirs x = sums (tally (opens_at k n x) s.calls) (tally (opens_at k n x) (without_answered s.calls c serial j)) (one_if (((c == k) && (serial == n)) && (j == x))) (one_if ((j == x) && replies_for u n m0))
              (gone_open k n c serial j x s.calls) (less (c == k) refl (serial == n) refl (j == x))
            where
              sums : (a b p q : ℕ) → a ≤ b + p → p ≤ q → a ≤ b + q
              sums a b p q h g = omega (arith, h, g)

              none : (a : ℕ) → 0 ≤ a
              none a = omega arith

              least : (a : ℕ) → a ≤ a
              least a = omega arith

              less : (a : Bool) → (c == k) ≡ a → (b : Bool) → (serial == n) ≡ b → (d : Bool) → one_if ((a && b) && d) ≤ one_if (d && replies_for u n m0)
              less true f true g true = subst (λ z. 1 ≤ one_if z) (sym (for_it (eqb-true c k f) (replied_is ∙ g))) (least 1)
              less true f true g false = none 0
              less true f false g d = none (one_if (d && replies_for u n m0))
              less false f b g d = none (one_if (d && replies_for u n m0))

  -- ANY
  pub passed_fine : is_for_bus m0 ≡ false → is_unowned m0.destination (receivers s m) ≡ false → StepFine s j k n u m0 (passed s j m)
  passed_fine other owned_ = by m0.destination refl
    where
      no_name : m0.destination ≡ None → (m0.kind == 1) ≡ false
      no_name h = for m0.destination h other
        where
          for : (o : Option (List ℕ)) → o ≡ None → is_for_bus (record m0 { destination = o }) ≡ false → (m0.kind == 1) ≡ false
          for o h = subst (λ z. is_for_bus (record m0 { destination = z }) ≡ false → (m0.kind == 1) ≡ false) (sym h) (λ f. f)

      receivers_are : (o : Option (List ℕ)) → m0.destination ≡ o → receivers s m ≡ receivers s (record m { destination = o })
      receivers_are o h = ap (λ z. receivers s (record m { destination = z })) h

      one_or : (name : List ℕ) (o : Option ℕ) → owner_in (list_of s.owners.lists name) ≡ o → (owners_of s name ≡ []) ⊎ ((c : ℕ) × (owners_of s name ≡ c ∷ []))
      one_or name None h = inl (ap one_or_none h)
      one_or name (Some c) h = inr (c, ap one_or_none h)

      kinds : (e r : Bool) → expects_reply m0 ≡ e → is_reply m0 ≡ r → (name : List ℕ) → m0.destination ≡ Some name → (owners_of s name ≡ []) ⊎ ((c : ℕ) × (owners_of s name ≡ c ∷ [])) → StepFine s j k n u m0 (passed s j m)
      kinds e r h g name to (inl none) = to_none (receivers_are (Some name) to ∙ none)
      kinds true r h g name to (inr (c, one)) = call_passed c (receivers_are (Some name) to ∙ one) h
      kinds false false h g name to (inr (c, one)) = plain_passed h g
      kinds false true h g name to (inr (c, one)) = of_reply (knows.to g name to other)
        where
          of_reply : (owners_of s name ≡ []) ⊎ ((d : ℕ) × (owners_of s name ≡ d ∷ []) × (unique_of s.owners d ≡ Some name)) → StepFine s j k n u m0 (passed s j m)
          of_reply (inl none) = to_none (receivers_are (Some name) to ∙ none)
          of_reply (inr x) = reply_passed x.0 name (receivers_are (Some name) to ∙ x.1) to x.2 h g

      unnamed : m0.destination ≡ None → (b : Bool) → (m0.kind == 4) ≡ b → StepFine s j k n u m0 (passed s j m)
      unnamed h true g = plain_passed (not_one m0 (no_name h)) (ap (λ k. k == 2 || k == 3) (eqb-true m0.kind 4 g))
      unnamed h false g = to_none (receivers_are None h ∙ ap (λ b. if b then filter (asks_for s (record m { destination = None })) s.joined else []) g)

      by : (o : Option (List ℕ)) → m0.destination ≡ o → StepFine s j k n u m0 (passed s j m)
      by None h = unnamed h (m0.kind == 4) refl
      by (Some name) h = kinds (expects_reply m0) (is_reply m0) refl refl name h (one_or name (owner_in (list_of s.owners.lists name)) refl)
