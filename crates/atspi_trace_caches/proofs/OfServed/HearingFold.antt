-- What the registry told up to one of its messages: pairs that are heard alike stay alike, only its news change them, and each message adds what it tells.
use Rattle.std.proofs.Common.{◌≡◌, ℕ, zero, suc, ◌+◌, ◌<◌, ◌≤◌, Bool, true, false, List, [], ◌∷◌, ◌++◌, length, Option, None, Some, refl, sym, ap, ◌∙◌, subst, arith}
use Rattle.std.specs.Prelude.{◌==◌, ◌&&◌, ◌||◌, not, nat_le, codes, if◌then◌else◌}
use Rattle.std.specs.List.{AllByRecursion}
use Rattle.std.proofs.lemmas.Bool.{eq-eqb, eqb-true, ne_eqb, leb-true, leb-false}
use Rattle.std.proofs.lemmas.List.{append-nil}
use Rattle.atspi_script_lines.specs.declared.line.Party.TheVariants.{Bus as The_bus, Registry}
use Rattle.atspi_message.specs.Envelope.{Envelope}
use Rattle.atspi_protocol.specs.ends.Places.{registry}
use Rattle.atspi_protocol.specs.members.Asked.{is_text}
use Rattle.atspi_protocol.specs.exporting.Hearing.{is_pair, is_heard, one_more, one_less, pair_in, with_pair, unchanged, heard_after}
use Rattle.atspi_trace.specs.Entry.{Entry, sent}
use Rattle.atspi_trace.specs.Ends.{same_party}
use Rattle.atspi_trace_laws.specs.laws.Words.{messages, message, with_serial, before_sent}
use Rattle.atspi_trace_laws.specs.serials.Laws.{HasNextNumber}
use Rattle.atspi_trace_laws.specs.missed.Laws.{hearing}
use Rattle.atspi_trace_laws.proofs.OfOrder.Parties.{no_none, same_some, false_true}
use Rattle.atspi_trace_laws.proofs.OfOrder.Each.{Each, all_map}
use Rattle.atspi_trace_laws.proofs.OfSerials.Serial.{messages_more}
use Rattle.atspi_trace_laws.proofs.OfLinks.Ups.{From, serials_from}
use Rattle.atspi_trace_laws.proofs.OfTaken.Found.{sent_split}
use Rattle.atspi_trace_laws.proofs.OfMissed.Telling.{Pair, pair_is, heard_filter, heard_append, hearing_append}
use Rattle.atspi_trace_caches.proofs.OfServed.Facts.{IsNews, up_to, told_by}

-- PAIRS HEARD ALIKE
abbrev pub Alike : List Pair → List Pair → Type 0
Alike heard held = (p : Pair) → is_heard heard p ≡ is_heard held p

or_false : (a : Bool) → (a || false) ≡ a
or_false true = refl
or_false false = refl

more_heard : (heard : List Pair) (q p : Pair) → is_heard (one_more heard q).heard p ≡ (is_heard heard p || is_pair p q)
more_heard heard q p = by (is_heard heard q) refl
  where
    there : (b : Bool) → is_pair p q ≡ b → is_heard heard q ≡ true → is_heard heard p ≡ (is_heard heard p || b)
    there true h k = let is : is_heard heard p ≡ true = ap (is_heard heard) (pair_is p q h) ∙ k in is ∙ sym (ap (λ c. c || true) is)
    there false h k = sym (or_false (is_heard heard p))

    by : (b : Bool) → is_heard heard q ≡ b → is_heard (one_more heard q).heard p ≡ (is_heard heard p || is_pair p q)
    by true h = rw h (there (is_pair p q) refl h)
    by false h = rw h (heard_append p heard (q ∷ []) ∙ ap (λ c. is_heard heard p || c) (or_false (is_pair p q)))

less_heard : (heard : List Pair) (q p : Pair) → is_heard (one_less heard q).heard p ≡ (not (is_pair q p) && is_heard heard p)
less_heard heard q p = by (is_heard heard q) refl
  where
    there : (b : Bool) → is_pair q p ≡ b → is_heard heard q ≡ false → is_heard heard p ≡ (not b && is_heard heard p)
    there true h k = ap (is_heard heard) (sym (pair_is q p h)) ∙ k
    there false h k = refl

    by : (b : Bool) → is_heard heard q ≡ b → is_heard (one_less heard q).heard p ≡ (not (is_pair q p) && is_heard heard p)
    by true h = rw h (heard_filter p (λ r. not (is_pair q r)) heard)
    by false h = rw h (there (is_pair q p) refl h)

-- what a message makes of pairs, by what it is and the pair that it names
abbrev after_by : Bool → Bool → Bool → Option Pair → List Pair → List Pair
after_by news more less pair heard =
    (if news then (if more then with_pair one_more heard pair else if less then with_pair one_less heard pair else unchanged heard) else unchanged heard).heard

by_alike : (a b c : Bool) (o : Option Pair) (heard held : List Pair) → Alike heard held → Alike (after_by a b c o heard) (after_by a b c o held)
by_alike false b c o heard held h p = h p
by_alike true false false o heard held h p = h p
by_alike true true c None heard held h p = h p
by_alike true true c (Some q) heard held h p = more_heard heard q p ∙ ap (λ x. x || is_pair p q) (h p) ∙ sym (more_heard held q p)
by_alike true false true None heard held h p = h p
by_alike true false true (Some q) heard held h p = less_heard heard q p ∙ ap (λ x. not (is_pair q p) && x) (h p) ∙ sym (less_heard held q p)

pub still_alike : (heard held : List Pair) (e : Envelope) → Alike heard held → Alike (heard_after heard e).heard (heard_after held e).heard
still_alike heard held e h =
    by_alike (is_text e.interface registry) (is_text e.member (codes "EventListenerRegistered")) (is_text e.member (codes "EventListenerDeregistered")) (pair_in e.body) heard held h

-- only the registry's news change them
pub no_news : (heard : List Pair) (e : Envelope) → is_text e.interface registry ≡ false → (heard_after heard e).heard ≡ heard
no_news heard e h = rw h refl

pub other_news : (heard : List Pair) (e : Envelope) → (IsNews e → ⊥) → (heard_after heard e).heard ≡ heard
other_news heard e h = by (is_text e.interface registry) refl
  where
    by : (b : Bool) → is_text e.interface registry ≡ b → (heard_after heard e).heard ≡ heard
    by true g = absurd (h g)
    by false g = no_news heard e g

-- MESSAGES UP TO A SERIAL
abbrev is_up_to : ℕ → Envelope → Bool
is_up_to n m = nat_le m.serial n

none_up : (n j : ℕ) (xs : List Envelope) → From j xs → n < j → up_to n xs ≡ []
none_up n j [] f less = refl
none_up n j (x ∷ xs) f less = by (nat_le x.serial n) refl (none_up n (j + 1) xs f.1 (omega (arith, less)))
  where
    by : (b : Bool) → nat_le x.serial n ≡ b → up_to n xs ≡ [] → (if b then x ∷ up_to n xs else up_to n xs) ≡ []
    by true h r = let low = leb-true x.serial n h in let at : x.serial ≡ j = f.0 in absurd (omega (arith, low, at, less))
    by false h r = r

front_up : (n j : ℕ) (xs ys : List Envelope) → From j (xs ++ ys) → j + length xs ≤ suc n → up_to n (xs ++ ys) ≡ xs ++ up_to n ys
front_up n j [] ys f more = refl
front_up n j (x ∷ xs) ys f more = by (nat_le x.serial n) refl (front_up n (j + 1) xs ys f.1 (omega (arith, more)))
  where
    by : (b : Bool) → nat_le x.serial n ≡ b → up_to n (xs ++ ys) ≡ xs ++ up_to n ys → (if b then x ∷ up_to n (xs ++ ys) else up_to n (xs ++ ys)) ≡ x ∷ (xs ++ up_to n ys)
    by true h r = ap (λ l. x ∷ l) r
    by false h r = let high = leb-false x.serial n h in let at : x.serial ≡ j = f.0 in absurd (omega (arith, high, at, more))

more_up : (n j : ℕ) (xs ys : List Envelope) → From j (xs ++ ys) → n < j + length xs → up_to n (xs ++ ys) ≡ up_to n xs
more_up n j [] ys f less = none_up n j ys f (omega (arith, less))
more_up n j (x ∷ xs) ys f less = ap (λ l. if nat_le x.serial n then x ∷ l else l) (more_up n (j + 1) xs ys f.1 (omega (arith, less)))

from_back : (j : ℕ) (xs ys : List Envelope) → From j (xs ++ ys) → From (j + length xs) ys
from_back j [] ys f = subst (λ k. From k ys) same f
  where
    same : j ≡ j + 0
    same = omega arith
from_back j (x ∷ xs) ys f = subst (λ k. From k ys) same (from_back (j + 1) xs ys f.1)
  where
    same : j + 1 + length xs ≡ j + suc (length xs)
    same = omega arith

-- one that is found stands among them
found_below : (j n : ℕ) (xs : List Envelope) (m : Envelope) → From j xs → with_serial n xs ≡ Some m → n < j + length xs
found_below j n [] m f h = absurd (no_none m h)
found_below j n (x ∷ xs) m f h = by (x.serial == n) refl h (λ g. found_below (j + 1) n xs m f.1 g)
  where
    by : (b : Bool) → (x.serial == n) ≡ b → (if b then Some x else with_serial n xs) ≡ Some m → (with_serial n xs ≡ Some m → n < j + 1 + length xs) → n < j + suc (length xs)
    by true g k ih = let is : x.serial ≡ n = eqb-true x.serial n g in let at : x.serial ≡ j = f.0 in omega (arith, is, at)
    by false g k ih = let low = ih k in omega (arith, low)

serial_found : (n : ℕ) (xs : List Envelope) (m : Envelope) → with_serial n xs ≡ Some m → m.serial ≡ n
serial_found n [] m h = absurd (no_none m h)
serial_found n (x ∷ xs) m h = by (x.serial == n) refl h (λ g. serial_found n xs m g)
  where
    by : (b : Bool) → (x.serial == n) ≡ b → (if b then Some x else with_serial n xs) ≡ Some m → (with_serial n xs ≡ Some m → m.serial ≡ n) → m.serial ≡ n
    by true g k ih = ap (λ (y : Envelope). y.serial) (sym (same_some x m k)) ∙ eqb-true x.serial n g
    by false g k ih = ih k

pub serial_is : (es : List Entry) (n : ℕ) (m : Envelope) → message es Registry n ≡ Some m → m.serial ≡ n
serial_is es n m h = serial_found n (messages es Registry) m h

-- each is found by its serial
abbrev Findable : List Envelope → ℕ → Envelope → Type 0
Findable xs j x = (j ≤ x.serial) × (with_serial x.serial xs ≡ Some x)

all_findable : (j : ℕ) (xs : List Envelope) → From j xs → AllByRecursion (Findable xs j) xs
all_findable j [] f = tt
all_findable j (x ∷ xs) f = ((least f.0, ap (λ b. if b then Some x else with_serial x.serial xs) (eq-eqb x.serial x.serial refl)), all_map (Findable xs (j + 1)) (Findable (x ∷ xs) j) xs later (all_findable (j + 1) xs f.1))
  where
    least : x.serial ≡ j → j ≤ x.serial
    least h = omega (arith, h)

    later : (y : Envelope) → Findable xs (j + 1) y → Findable (x ∷ xs) j y
    later y h = (lower h.0, ap (λ b. if b then Some x else with_serial y.serial xs) (ne_eqb x.serial y.serial (λ same. differ f.0 h.0 same)) ∙ h.1)
      where
        lower : j + 1 ≤ y.serial → j ≤ y.serial
        lower g = omega (arith, g)

        differ : x.serial ≡ j → j + 1 ≤ y.serial → x.serial ≡ y.serial → ⊥
        differ a b same = absurd (omega (arith, a, b, same))

-- THE FOLD
not_bus : Registry ≡ The_bus → ⊥
not_bus h = false_true (ap (λ p. same_party p Registry) (sym h))

pub from_four : (es : List Entry) → Each HasNextNumber [] es → From 4 (messages es Registry)
from_four es law = serials_from Registry not_bus [] es law

-- more entries tell no more of what was sent up to a message
pub told_more : (es ys : List Entry) (n : ℕ) (m : Envelope) → Each HasNextNumber [] (es ++ ys) → message es Registry n ≡ Some m → told_by (es ++ ys) n ≡ told_by es n
told_more es ys n m law found =
    let from : From 4 (messages es Registry ++ messages ys Registry) = subst (From 4) (messages_more es ys Registry) (from_four (es ++ ys) law) in
    ap (λ l. hearing (up_to n l) []) (messages_more es ys Registry)
    ∙ ap (λ l. hearing l []) (more_up n 4 (messages es Registry) (messages ys Registry) from (found_below 4 n (messages es Registry) m (from_front 4 (messages es Registry) (messages ys Registry) from) found))
  where
    from_front : (j : ℕ) (xs zs : List Envelope) → From j (xs ++ zs) → From j xs
    from_front j [] zs f = tt
    from_front j (x ∷ xs) zs f = (f.0, from_front (j + 1) xs zs f.1)

-- where nothing between is news, nothing changes
quiet_fold : (n : ℕ) (xs : List Envelope) (pairs : List Pair) → AllByRecursion (λ (x : Envelope). n < x.serial → IsNews x → ⊥) xs → hearing xs pairs ≡ hearing (up_to n xs) pairs
quiet_fold n [] pairs a = refl
quiet_fold n (x ∷ xs) pairs a = by (nat_le x.serial n) refl (λ before. quiet_fold n xs before a.1)
  where
    by : (b : Bool) → nat_le x.serial n ≡ b → ((before : List Pair) → hearing xs before ≡ hearing (up_to n xs) before) → hearing xs (heard_after pairs x).heard ≡ hearing (if b then x ∷ up_to n xs else up_to n xs) pairs
    by true h ih = ih (heard_after pairs x).heard
    by false h ih = ap (hearing xs) (other_news pairs x (a.0 (leb-false x.serial n h))) ∙ ih pairs

twice_up : (n k : ℕ) (xs : List Envelope) → n ≤ k → up_to n (up_to k xs) ≡ up_to n xs
twice_up n k [] less = refl
twice_up n k (x ∷ xs) less = by (nat_le x.serial k) refl (nat_le x.serial n) refl (twice_up n k xs less)
  where
    by : (b : Bool) → nat_le x.serial k ≡ b → (c : Bool) → nat_le x.serial n ≡ c → up_to n (up_to k xs) ≡ up_to n xs → up_to n (if b then x ∷ up_to k xs else up_to k xs) ≡ (if c then x ∷ up_to n xs else up_to n xs)
    by true h c g r = ap (λ d. if d then x ∷ up_to n (up_to k xs) else up_to n (up_to k xs)) g ∙ ap (λ l. if c then x ∷ l else l) r
    by false h true g r = let low = leb-true x.serial n g in let high = leb-false x.serial k h in absurd (omega (arith, low, high, less))
    by false h false g r = r

all_up : (P : Envelope → Type 0) (k : ℕ) (xs : List Envelope) → AllByRecursion (λ (x : Envelope). x.serial ≤ k → P x) xs → AllByRecursion P (up_to k xs)
all_up P k [] a = tt
all_up P k (x ∷ xs) a = by (nat_le x.serial k) refl (all_up P k xs a.1)
  where
    by : (b : Bool) → nat_le x.serial k ≡ b → AllByRecursion P (up_to k xs) → AllByRecursion P (if b then x ∷ up_to k xs else up_to k xs)
    by true h r = (a.0 (leb-true x.serial k h), r)
    by false h r = r

pub told_same : (es : List Entry) (n k : ℕ) → Each HasNextNumber [] es → n ≤ k → ((s : ℕ) (m : Envelope) → n < s → s ≤ k → message es Registry s ≡ Some m → IsNews m → ⊥) → told_by es k ≡ told_by es n
told_same es n k law less none =
    quiet_fold n (up_to k (messages es Registry)) []
    (all_up (λ (x : Envelope). n < x.serial → IsNews x → ⊥) k (messages es Registry)
    (all_map (Findable (messages es Registry) 4) (λ (x : Envelope). x.serial ≤ k → n < x.serial → IsNews x → ⊥) (messages es Registry) (λ x h low high news. none x.serial x high low h.1 news)
    (all_findable 4 (messages es Registry) (from_four es law))))
    ∙ ap (λ l. hearing l []) (twice_up n k (messages es Registry) less)

-- WHERE A MESSAGE STANDS
sent_one : (e : Envelope) (ys : List Entry) → messages (sent Registry e ∷ ys) Registry ≡ e ∷ messages ys Registry
sent_one e ys = refl

module _ (es : List Entry) (n : ℕ) (m : Envelope) (law : Each HasNextNumber [] es) (found : message es Registry n ≡ Some m) where
  abbrev early : List Envelope
  early = messages (before_sent Registry n es) Registry

  abbrev late : List Envelope
  late = messages (sent_split es Registry n m found).0 Registry

  all_is : messages es Registry ≡ early ++ m ∷ late
  all_is = ap (λ l. messages l Registry) (sent_split es Registry n m found).1 ∙ messages_more (before_sent Registry n es) (sent Registry m ∷ (sent_split es Registry n m found).0) Registry

  from : From 4 (early ++ m ∷ late)
  from = subst (From 4) all_is (from_four es law)

  place : m.serial ≡ 4 + length early
  place = (from_back 4 early (m ∷ late) from).0

  is_n : m.serial ≡ n
  is_n = serial_is es n m found

  none_late : up_to n late ≡ []
  none_late = none_up n (4 + length early + 1) late (from_back 4 early (m ∷ late) from).1 (under place is_n)
    where
      under : m.serial ≡ 4 + length early → m.serial ≡ n → n < 4 + length early + 1
      under h g = omega (arith, h, g)

  with_it : up_to n (early ++ m ∷ late) ≡ early ++ m ∷ []
  with_it = front_up n 4 early (m ∷ late) from (under place is_n) ∙ ap (λ l. early ++ l) (by (nat_le m.serial n) refl)
    where
      under : m.serial ≡ 4 + length early → m.serial ≡ n → 4 + length early ≤ suc n
      under h g = omega (arith, h, g)

      by : (b : Bool) → nat_le m.serial n ≡ b → (if b then m ∷ up_to n late else up_to n late) ≡ m ∷ []
      by true h = ap (λ l. m ∷ l) none_late
      by false h = let high = leb-false m.serial n h in absurd (never high is_n)
        where
          never : n < m.serial → m.serial ≡ n → ⊥
          never a b = omega (arith, a, b)

  -- what was told with it is what it makes of what was told before it
  pub told_with : told_by es n ≡ (heard_after (hearing early []) m).heard
  told_with = ap (λ l. hearing (up_to n l) []) all_is ∙ ap (λ l. hearing l []) with_it ∙ hearing_append early (m ∷ []) []

  -- and that is what was told up to the one before
  pub told_before : (k : ℕ) → n ≡ suc k → hearing early [] ≡ told_by es k
  told_before k next = sym (ap (λ l. hearing (up_to k l) []) all_is ∙ ap (λ l. hearing l []) without)
    where
      under : m.serial ≡ 4 + length early → m.serial ≡ n → n ≡ suc k → 4 + length early ≤ suc k
      under h g is = omega (arith, h, g, is)

      below : m.serial ≡ 4 + length early → m.serial ≡ n → n ≡ suc k → k < 4 + length early
      below h g is = omega (arith, h, g, is)

      without : up_to k (early ++ m ∷ late) ≡ early
      without = front_up k 4 early (m ∷ late) from (under place is_n next) ∙ ap (λ l. early ++ l) (none_up k (4 + length early) (m ∷ late) (from_back 4 early (m ∷ late) from) (below place is_n next)) ∙ append-nil early

  -- so behind a message, where nothing between is news
  pub told_next : (k : ℕ) → k < n → ((s : ℕ) (x : Envelope) → k < s → s < n → message es Registry s ≡ Some x → IsNews x → ⊥) → told_by es n ≡ (heard_after (told_by es k) m).heard
  told_next k less none = by n refl
    where
      by : (j : ℕ) → n ≡ j → told_by es n ≡ (heard_after (told_by es k) m).heard
      by zero is = absurd (omega (arith, is, less))
      by (suc j) is =
          let up : k ≤ j = omega (arith, is, less) in
          told_with ∙ ap (λ pairs. (heard_after pairs m).heard) (told_before j is ∙ told_same es k j law up (λ s x more most. none s x more (omega (arith, most, is))))
