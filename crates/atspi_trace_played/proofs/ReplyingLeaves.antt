-- HOW MANY REPLIES the bus hands to a reader where it takes a message, and where another leaves: then one for each open call that this one was to answer, which is open no longer.
use Rattle.std.proofs.Common.{◌≡◌, ℕ, ◌+◌, ◌<◌, ◌≤◌, ◌^◌, Bool, true, false, List, [], ◌∷◌, ◌++◌, map, Option, None, Some, refl, sym, ap, ◌∙◌, subst, arith}
use Rattle.std.specs.Prelude.{◌==◌, ◌&&◌, ◌||◌, not, filter, codes, flat_map, if◌then◌else◌}
use Rattle.std.specs.List.{AllByRecursion}
use Rattle.std.proofs.lemmas.Bool.{eqb-true, eq-eqb}
use Rattle.atspi_message.specs.Envelope.{Envelope}
use Rattle.atspi_match.specs.declared.condition.Condition.{Condition}
use Rattle.atspi_match.specs.RuleIndex.{without_rules}
use Rattle.atspi_names.specs.Owners.{list_of, after_gone, owned_by}
use Rattle.atspi_names.specs.Queue.{owner_in}
use Rattle.atspi_match.specs.routing.BusState.{OpenCall, BusState, unique_of, name_or_empty, calls_without, waiting_for}
use Rattle.atspi_match.specs.routing.OwnMessages.{error_to, name_acquired, owner_changed, numbered}
use Rattle.atspi_match.specs.routing.Routing.{receivers, is_for_bus}
use Rattle.atspi_match.specs.routing.Steps.{says, delivers, closes, BusStep, handed, speaks, called, undeliverable, is_unowned, calls_after_all, is_hello, greets, bus_takes, no_replies, name_passes_on, names_pass_on, farewell, bus_leaves}
use Rattle.atspi_trace_laws.proofs.OfOrder.Parties.{false_true, all_append}
use Rattle.atspi_trace_laws.proofs.OfOrder.Each.{all_map}
use Rattle.atspi_trace_laws.proofs.OfNames.Naming.{gone_other}
use Rattle.atspi_trace_caches.proofs.OfSettled.RefusingOpen.{same_for}
use Rattle.atspi_trace_caches.proofs.OfSettled.ReplyingOwners.{Owned, gone_owned}
use Rattle.atspi_trace_played.proofs.ReplyingTally.{one_if, tally, and_false, replies_to, calls_from, opens, opens_at, given, given_append}
use Rattle.atspi_trace_played.proofs.ReplyingSays.{IsNews, IsOwnWord, acquired_news, own_called, news_replied, said_parts, one_receiver}
use Rattle.atspi_trace_played.proofs.ReplyingSteps.{Knows, StepFine, silent, greets_fine, called_fine, undelivered_fine}
use Rattle.atspi_trace_played.proofs.ReplyingPassed.{passed_fine}

-- THE BUS TAKES A MESSAGE
same_step : (s : BusState) (j k n : ℕ) (u : Option (List ℕ)) (m : Envelope) (own : List ℕ) (step : BusStep) → StepFine s j k n u (record m { sender = Some own }) step → StepFine s j k n u m step
same_step s j k n u m own step f = record { mine = f.mine; theirs = f.theirs }

pub takes_fine : (s : BusState) (j k n : ℕ) (u : Option (List ℕ)) (m : Envelope) (rule : Option (List Condition)) → s.owners.given < 2 ^ 32 → Knows s j k n u m → StepFine s j k n u m (bus_takes s j m rule)
takes_fine s j k n u m rule small knows = by (unique_of s.owners j) refl
  where
    hello_by : unique_of s.owners j ≡ None → (b : Bool) → StepFine s j k n u m (if b then greets s j m else record { state = s; moves = closes j ∷ [] })
    hello_by none true = greets_fine s j k n u m small none knows.owned
    hello_by none false = silent s j k n u m (record { state = s; moves = closes j ∷ [] }) refl (λ p x. refl)

    named_by : (own : List ℕ) → unique_of s.owners j ≡ Some own → let e : Envelope = record m { sender = Some own } in (a b c : Bool) → is_for_bus e ≡ a → is_unowned e.destination (receivers s e) ≡ c
        → StepFine s j k n u m (if a then (if b then called s j e rule else speaks s []) else (if c then undeliverable s j e else record { state = record s { calls = calls_after_all s.calls j e (receivers s e) }; moves = handed s e }))
    named_by own named true true c f g = let e : Envelope = record m { sender = Some own } in same_step s j k n u m own (called s j e rule) (called_fine s j k n u e own rule named knows.owned)
    named_by own named true false c f g = silent s j k n u m (speaks s []) refl (λ p x. refl)
    named_by own named false b true f g = let e : Envelope = record m { sender = Some own } in same_step s j k n u m own (undeliverable s j e) (undelivered_fine s j k n u e own named knows.owned)
    named_by own named false b false f g = passed_fine s j k n u m own named knows (sym (same_for m own) ∙ f) g

    by : (o : Option (List ℕ)) → unique_of s.owners j ≡ o → StepFine s j k n u m (bus_takes s j m rule)
    by (Some own) h = let e : Envelope = record m { sender = Some own } in rw h (named_by own h (is_for_bus e) (e.kind == 1) (is_unowned e.destination (receivers s e)) refl refl)
    by None h = rw h (hello_by h (is_hello m))

-- ANOTHER LEAVES
module _ (s : BusState) (conn k n : ℕ) (u : Option (List ℕ)) (owned : Owned s.owners) (differ : k ≡ conn → ⊥) where
  abbrev t : BusState
  t = record s {
    joined = filter (λ c. not (c == conn)) s.joined;
    owners = after_gone s.owners conn;
    rules = without_rules conn s.rules;
    calls = calls_without conn s.calls;
  }

  not_conn : (k == conn) ≡ false
  not_conn = by (k == conn) refl
    where
      by : (b : Bool) → (k == conn) ≡ b → (k == conn) ≡ false
      by true h = absurd (differ (eqb-true k conn h))
      by false h = h

  -- its open calls
  fewer : (calls : List OpenCall) → tally (opens k n) (calls_without conn calls) + tally (opens_at k n conn) calls ≤ tally (opens k n) calls
  fewer [] = omega arith
  fewer (c ∷ cs) =
      sums (c.caller == conn) (c.callee == conn) (opens k n c) (tally (opens k n) (calls_without conn cs)) (tally (opens_at k n conn) cs) (tally (opens k n) cs)
      (tally (opens k n) (if not (c.caller == conn || c.callee == conn) then c ∷ calls_without conn cs else calls_without conn cs)) (fewer cs) (kept (c.caller == conn) (c.callee == conn))
    where
      plus : (x : ℕ) → x ≡ 0 + x
      plus x = omega arith

      kept : (a b : Bool) → tally (opens k n) (if not (a || b) then c ∷ calls_without conn cs else calls_without conn cs) ≡ (if not (a || b) then one_if (opens k n c) else 0) + tally (opens k n) (calls_without conn cs)
      kept true b = plus (tally (opens k n) (calls_without conn cs))
      kept false true = plus (tally (opens k n) (calls_without conn cs))
      kept false false = refl

      sums : (a b o : Bool) (p q r z : ℕ) → p + q ≤ r → z ≡ (if not (a || b) then one_if o else 0) + p → z + (one_if (o && b) + q) ≤ one_if o + r
      sums true true true p q r z h g = omega (arith, h, g)
      sums true true false p q r z h g = omega (arith, h, g)
      sums true false true p q r z h g = omega (arith, h, g)
      sums true false false p q r z h g = omega (arith, h, g)
      sums false true true p q r z h g = omega (arith, h, g)
      sums false true false p q r z h g = omega (arith, h, g)
      sums false false true p q r z h g = omega (arith, h, g)
      sums false false false p q r z h g = omega (arith, h, g)

  same_at : (x : ℕ) → (x ≡ conn → ⊥) → (calls : List OpenCall) → tally (opens_at k n x) calls ≤ tally (opens_at k n x) (calls_without conn calls)
  same_at x other [] = omega arith
  same_at x other (c ∷ cs) = by (c.caller == conn) refl (c.callee == conn) refl (same_at x other cs)
    where
      more : (a b : ℕ) (z : ℕ) → a ≡ 0 → b ≤ z → a + b ≤ z
      more a b z h g = omega (arith, h, g)

      both : (a b z : ℕ) → b ≤ z → a + b ≤ a + z
      both a b z h = omega (arith, h)

      other_caller : (c.caller == conn) ≡ true → opens_at k n x c ≡ false
      other_caller h = ap (λ b. (b && (c.serial == n)) && (c.callee == x)) (ap (λ z. z == k) (eqb-true c.caller conn h) ∙ flipped)
        where
          flipped : (conn == k) ≡ false
          flipped = at (conn == k) refl
            where
              at : (b : Bool) → (conn == k) ≡ b → (conn == k) ≡ false
              at true g = absurd (differ (sym (eqb-true conn k g)))
              at false g = g

      other_callee : (c.callee == conn) ≡ true → opens_at k n x c ≡ false
      other_callee h = and_false (opens k n c) (c.callee == x) (ap (λ z. z == x) (eqb-true c.callee conn h) ∙ flipped)
        where
          flipped : (conn == x) ≡ false
          flipped = at (conn == x) refl
            where
              at : (b : Bool) → (conn == x) ≡ b → (conn == x) ≡ false
              at true g = absurd (other (sym (eqb-true conn x g)))
              at false g = g

      by : (a : Bool) → (c.caller == conn) ≡ a → (b : Bool) → (c.callee == conn) ≡ b → tally (opens_at k n x) cs ≤ tally (opens_at k n x) (calls_without conn cs)
          → one_if (opens_at k n x c) + tally (opens_at k n x) cs ≤ tally (opens_at k n x) (if not (a || b) then c ∷ calls_without conn cs else calls_without conn cs)
      by true f b g h = more (one_if (opens_at k n x c)) (tally (opens_at k n x) cs) (tally (opens_at k n x) (calls_without conn cs)) (ap one_if (other_caller f)) h
      by false f true g h = more (one_if (opens_at k n x c)) (tally (opens_at k n x) cs) (tally (opens_at k n x) (calls_without conn cs)) (ap one_if (other_callee g)) h
      by false f false g h = both (one_if (opens_at k n x c)) (tally (opens_at k n x) cs) (tally (opens_at k n x) (calls_without conn cs)) h

  -- the errors to who called it
  abbrev errors : List OpenCall → List Envelope
  errors cs = map (λ (c : OpenCall). error_to (unique_of s.owners c.caller) c.serial (codes "NoReply")) cs

  one_error : (at : ℕ) (c : OpenCall) → (conn ≡ c.caller → ⊥) → given (replies_to n) k (handed t (record (error_to (unique_of s.owners c.caller) c.serial (codes "NoReply")) { serial = at })) ≤ one_if (opens k n c)
  one_error at c other = by (unique_of s.owners c.caller) refl
    where
      none : (a : ℕ) → 0 ≤ a
      none a = omega arith

      sums : (x b : ℕ) → x ≡ b + 0 → x ≤ b
      sums x b h = omega (arith, h)

      by : (o : Option (List ℕ)) → unique_of s.owners c.caller ≡ o → given (replies_to n) k (handed t (record (error_to o c.serial (codes "NoReply")) { serial = at })) ≤ one_if (opens k n c)
      by None h = none (one_if (opens k n c))
      by (Some name) h =
          sums (given (replies_to n) k (handed t (record (error_to (Some name) c.serial (codes "NoReply")) { serial = at }))) (one_if (opens k n c))
          (ap (λ l. given (replies_to n) k (map (λ d. delivers d (record (error_to (Some name) c.serial (codes "NoReply")) { serial = at })) l))
          (one_receiver t (record (error_to (Some name) c.serial (codes "NoReply")) { serial = at }) name c.caller (gone_owned s.owners conn owned) (gone_other s.owners conn c.caller other ∙ h) refl))

  abbrev Few : ℕ → List OpenCall → Type 0
  Few i cs = given (replies_to n) k (flat_map (λ e. says e ∷ handed t e) (numbered i (errors (waiting_for conn cs)))) ≤ tally (opens_at k n conn) cs

  errors_given : (at : ℕ) (calls : List OpenCall) → given (replies_to n) k (flat_map (λ e. says e ∷ handed t e) (numbered at (errors (waiting_for conn calls)))) ≤ tally (opens_at k n conn) calls
  errors_given at [] = omega arith
  errors_given at (c ∷ cs) = by (c.callee == conn) refl (c.caller == conn) refl (errors_given at cs) (errors_given (at + 1) cs)
    where
      more : (a b z : ℕ) → a ≤ b → a ≤ z + b
      more a b z h = omega (arith, h)

      sums : (x a b p q : ℕ) → x ≡ a + b → a ≤ p → b ≤ q → x ≤ p + q
      sums x a b p q h g f = omega (arith, h, g, f)

      by : (a : Bool) → (c.callee == conn) ≡ a → (b : Bool) → (c.caller == conn) ≡ b → Few at cs → Few (at + 1) cs
          → given (replies_to n) k (flat_map (λ e. says e ∷ handed t e) (numbered at (errors (if a && not b then c ∷ waiting_for conn cs else waiting_for conn cs)))) ≤ one_if (opens k n c && a) + tally (opens_at k n conn) cs
      by true f false g now next =
          let m : Envelope = record (error_to (unique_of s.owners c.caller) c.serial (codes "NoReply")) { serial = at } in
          sums (given (replies_to n) k (handed t m ++ flat_map (λ e. says e ∷ handed t e) (numbered (at + 1) (errors (waiting_for conn cs))))) (given (replies_to n) k (handed t m))
          (given (replies_to n) k (flat_map (λ e. says e ∷ handed t e) (numbered (at + 1) (errors (waiting_for conn cs)))))
          (one_if (opens k n c && true)) (tally (opens_at k n conn) cs) (given_append (replies_to n) k (handed t m) (flat_map (λ e. says e ∷ handed t e) (numbered (at + 1) (errors (waiting_for conn cs)))))
          (subst (λ b. given (replies_to n) k (handed t m) ≤ one_if b) (and_it (opens k n c)) (one_error at c (λ same. false_true (sym g ∙ eq-eqb c.caller conn (sym same))))) next
        where
          and_it : (b : Bool) → b ≡ (b && true)
          and_it true = refl
          and_it false = refl
      by true f true g now next = more (given (replies_to n) k (flat_map (λ e. says e ∷ handed t e) (numbered at (errors (waiting_for conn cs))))) (tally (opens_at k n conn) cs) (one_if (opens k n c && true)) now
      by false f b g now next = more (given (replies_to n) k (flat_map (λ e. says e ∷ handed t e) (numbered at (errors (waiting_for conn cs))))) (tally (opens_at k n conn) cs) (one_if (opens k n c && false)) now

  errors_own : (calls : List OpenCall) → AllByRecursion IsOwnWord (errors calls)
  errors_own [] = tt
  errors_own (c ∷ cs) = (refl, errors_own cs)

  -- and news
  passed_news : (names : List (List ℕ)) → AllByRecursion IsNews (flat_map (name_passes_on s.owners t.owners conn) names)
  passed_news [] = tt
  passed_news (name ∷ names) =
      let next = owner_in (list_of t.owners.lists name) in
      all_append IsNews (name_passes_on s.owners t.owners conn name) (flat_map (name_passes_on s.owners t.owners conn) names)
      (all_append IsNews (name_acquired t.owners name next) (owner_changed name (name_or_empty s.owners (Some conn)) (name_or_empty t.owners next) ∷ []) (acquired_news t.owners name next) (refl, tt)) (passed_news names)

  abbrev news_of : List ℕ → List Envelope
  news_of own = names_pass_on s.owners t.owners conn ++ owner_changed own own [] ∷ []

  news_all : (own : List ℕ) → AllByRecursion IsNews (news_of own)
  news_all own = all_append IsNews (names_pass_on s.owners t.owners conn) (owner_changed own own [] ∷ []) (passed_news (owned_by s.owners.lists conn)) (refl, tt)

  farewell_given : (o : Option (List ℕ)) → given (replies_to n) k (flat_map (λ e. says e ∷ handed t e) (numbered s.next (farewell s t.owners conn o))) ≤ tally (opens_at k n conn) s.calls
  farewell_given None = none (tally (opens_at k n conn) s.calls)
    where
      none : (a : ℕ) → 0 ≤ a
      none a = omega arith
  farewell_given (Some own) =
      let x = said_parts (replies_to n) k s.next t (no_replies s conn) (news_of own) in
      sums (given (replies_to n) k (flat_map (λ e. says e ∷ handed t e) (numbered s.next (no_replies s conn ++ news_of own)))) (given (replies_to n) k (flat_map (λ e. says e ∷ handed t e) (numbered s.next (no_replies s conn))))
      (given (replies_to n) k (flat_map (λ e. says e ∷ handed t e) (numbered x.0 (news_of own)))) (tally (opens_at k n conn) s.calls) x.1 (errors_given s.next s.calls) (news_replied n k x.0 t (news_of own) (news_all own))
    where
      sums : (x a b c : ℕ) → x ≡ a + b → a ≤ c → b ≡ 0 → x ≤ c
      sums x a b c h g f = omega (arith, h, g, f)

  farewell_own : (o : Option (List ℕ)) → AllByRecursion IsOwnWord (farewell s t.owners conn o)
  farewell_own None = tt
  farewell_own (Some own) = all_append IsOwnWord (no_replies s conn) (news_of own) (errors_own (waiting_for conn s.calls)) (all_map IsNews IsOwnWord (news_of own) (λ m h. ap (λ z. z == 1) h) (news_all own))

  pub leaves_mine : given (replies_to n) k (bus_leaves s conn).moves + tally (opens k n) (bus_leaves s conn).state.calls ≤ tally (opens k n) s.calls
  leaves_mine = sums (given (replies_to n) k (bus_leaves s conn).moves) (tally (opens k n) (calls_without conn s.calls)) (tally (opens_at k n conn) s.calls) (tally (opens k n) s.calls) (farewell_given (unique_of s.owners conn))
      (fewer s.calls)
    where
      sums : (a b c d : ℕ) → a ≤ c → b + c ≤ d → a + b ≤ d
      sums a b c d h g = omega (arith, h, g)

  pub leaves_theirs : (x : ℕ) → (x ≡ conn → ⊥) → given (calls_from u n) x (bus_leaves s conn).moves + tally (opens_at k n x) s.calls ≤ tally (opens_at k n x) (bus_leaves s conn).state.calls
  leaves_theirs x other = sums (given (calls_from u n) x (bus_leaves s conn).moves) (tally (opens_at k n x) s.calls) (tally (opens_at k n x) (calls_without conn s.calls))
      (own_called u n x s.next t (farewell s t.owners conn (unique_of s.owners conn)) (farewell_own (unique_of s.owners conn))) (same_at x other s.calls)
    where
      sums : (a b c : ℕ) → a ≡ 0 → b ≤ c → a + b ≤ c
      sums a b c h g = omega (arith, h, g)
