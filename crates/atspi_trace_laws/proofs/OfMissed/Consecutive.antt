-- The messages of a party have serials that rise by one, so those between two of them are told by their serials.
use Rattle.std.proofs.Common.{◌≡◌, ℕ, suc, ◌+◌, ◌<◌, Bool, true, false, List, [], ◌∷◌, ◌++◌, length, None, Some, refl, sym, ap, ◌∙◌, subst, arith}
use Rattle.std.specs.Prelude.{Option, ◌==◌, if◌then◌else◌}
use Rattle.std.specs.List.{AllByRecursion, cons_option}
use Rattle.std.proofs.lemmas.Bool.{eq-eqb, eqb-true, ne_eqb}
use Rattle.std.proofs.lemmas.List.{append_assoc}
use Rattle.atspi_script_lines.specs.declared.line.Party.{Party}
use Rattle.atspi_script_lines.specs.declared.line.Party.TheVariants.{Bus as The_bus, Registry, App, Reader}
use Rattle.atspi_message.specs.Envelope.{Envelope}
use Rattle.atspi_trace.specs.Entry.{Entry, sent}
use Rattle.atspi_trace.specs.Ends.{same_party}
use Rattle.atspi_trace_laws.specs.laws.Words.{messages, message, with_serial, before_sent}
use Rattle.atspi_trace_laws.specs.laws.NineLaws.{sent_before}
use Rattle.atspi_trace_laws.specs.serials.Laws.{HasNextNumber}
use Rattle.atspi_trace_laws.specs.missed.Laws.{IsNoSignal, NoSignalBetween}
use Rattle.atspi_trace_laws.proofs.OfOrder.Parties.{no_none, same_some, party-same, false_true}
use Rattle.atspi_trace_laws.proofs.OfOrder.Each.{Each}
use Rattle.atspi_trace_laws.proofs.OfSerials.Serial.{messages_more}
use Rattle.atspi_trace_laws.proofs.OfLinks.Ups.{From, serials_from}
use Rattle.atspi_trace_laws.proofs.OfTaken.Found.{sent_split, front_more, found_more, none_more}

-- A MESSAGE IN ITS PLACE
from_at : (n : ℕ) (xs : List Envelope) (x : Envelope) (ys : List Envelope) → From n (xs ++ x ∷ ys) → (x.serial ≡ n + length xs) × From (n + length xs + 1) ys
from_at n [] x ys f = (first f.0, subst (λ k. From k ys) zero_ f.1)
  where
    zero_ : n + 1 ≡ n + 0 + 1
    zero_ = omega arith

    first : x.serial ≡ n → x.serial ≡ n + 0
    first h = omega (arith, h)
from_at n (z ∷ zs) x ys f =
    let r = from_at (n + 1) zs x ys f.1 in
    (up r.0, subst (λ k. From k ys) same r.1)
  where
    up : x.serial ≡ n + 1 + length zs → x.serial ≡ n + suc (length zs)
    up h = omega (arith, h)

    same : n + 1 + length zs + 1 ≡ n + suc (length zs) + 1
    same = omega arith

found_at : (n : ℕ) (xs : List Envelope) (x : Envelope) (ys : List Envelope) → From n (xs ++ x ∷ ys) → with_serial x.serial (xs ++ x ∷ ys) ≡ Some x
found_at n [] x ys f = ap (λ b. if b then Some x else with_serial x.serial ys) (eq-eqb x.serial x.serial refl)
found_at n (z ∷ zs) x ys f = ap (λ b. if b then Some z else with_serial x.serial (zs ++ x ∷ ys)) (ne_eqb z.serial x.serial (λ same. differ f.0 (from_at (n + 1) zs x ys f.1).0 same)) ∙ found_at (n + 1) zs x ys f.1
  where
    differ : z.serial ≡ n → x.serial ≡ n + 1 + length zs → z.serial ≡ x.serial → ⊥
    differ h g same = absurd (omega (arith, h, g, same))

-- none is below the first
none_low : (n s : ℕ) (xs : List Envelope) → From n xs → s < n → with_serial s xs ≡ None
none_low n s [] f less = refl
none_low n s (x ∷ xs) f less = ap (λ b. if b then Some x else with_serial s xs) (ne_eqb x.serial s (λ same. differ f.0 same)) ∙ none_low (n + 1) s xs f.1 (omega (arith, less))
  where
    differ : x.serial ≡ n → x.serial ≡ s → ⊥
    differ h same = absurd (omega (arith, h, same, less))

from_back : (n : ℕ) (xs ys : List Envelope) → From n (xs ++ ys) → From (n + length xs) ys
from_back n [] ys f = subst (λ k. From k ys) same f
  where
    same : n ≡ n + 0
    same = omega arith
from_back n (x ∷ xs) ys f = subst (λ k. From k ys) same (from_back (n + 1) xs ys f.1)
  where
    same : n + 1 + length xs ≡ n + suc (length xs)
    same = omega arith

sent_one : (who : Party) (e : Envelope) (ys : List Entry) → messages (sent who e ∷ ys) who ≡ e ∷ messages ys who
sent_one who e ys = ap (λ b. cons_option (if b then Some e else None) (messages ys who)) (party-same who)

-- each entry of a list by its place in it
all_placed : (P : Entry → Type 0) (l : List Entry) → ((xs : List Entry) (y : Entry) (ys : List Entry) → l ≡ xs ++ y ∷ ys → P y) → AllByRecursion P l
all_placed P [] f = tt
all_placed P (y ∷ ys) f = (f [] y ys refl, all_placed P ys (λ xs z zs is. f (y ∷ xs) z zs (ap (λ l. y ∷ l) is)))

-- BETWEEN TWO MESSAGES
module _ (es : List Entry) (law : Each HasNextNumber [] es) (a last serial : ℕ) (one two : Envelope) (was_one : message es (App a) last ≡ Some one) (was_two : message es (App a) serial ≡ Some two) (less : last < serial) where
  not_bus : App a ≡ The_bus → ⊥
  not_bus h = false_true (ap (same_party (App a)) (sym h) ∙ party-same (App a))

  abbrev start : ℕ
  start = suc (sent_before (App a) + length (messages [] (App a)))

  from : From start (messages es (App a))
  from = serials_from (App a) not_bus [] es law

  abbrev front : List Entry
  front = before_sent (App a) serial es

  abbrev post : List Entry
  post = (sent_split es (App a) serial two was_two).0

  place : es ≡ front ++ sent (App a) two ∷ post
  place = (sent_split es (App a) serial two was_two).1

  -- a message found by its serial has it
  serial_in : (s : ℕ) (xs : List Envelope) (m : Envelope) → with_serial s xs ≡ Some m → m.serial ≡ s
  serial_in s [] m h = absurd (no_none m h)
  serial_in s (x ∷ xs) m h = by (x.serial == s) refl h (λ g. serial_in s xs m g)
    where
      by : (b : Bool) → (x.serial == s) ≡ b → (if b then Some x else with_serial s xs) ≡ Some m → (with_serial s xs ≡ Some m → m.serial ≡ s) → m.serial ≡ s
      by true g k f = ap (λ (y : Envelope). y.serial) (sym (same_some x m k)) ∙ eqb-true x.serial s g
      by false g k f = f k

  two_is : two.serial ≡ serial
  two_is = serial_in serial (messages es (App a)) two was_two

  one_is : one.serial ≡ last
  one_is = serial_in last (messages es (App a)) one was_one

  all_is : messages es (App a) ≡ messages front (App a) ++ two ∷ messages post (App a)
  all_is = ap (λ l. messages l (App a)) place ∙ messages_more front (sent (App a) two ∷ post) (App a) ∙ ap (λ l. messages front (App a) ++ l) (sent_one (App a) two post)

  -- the first stands before the second
  was_front : message front (App a) last ≡ Some one
  was_front = by (message front (App a) last) refl
    where
      at_two : two.serial ≡ start + length (messages front (App a))
      at_two = (from_at start (messages front (App a)) two (messages post (App a)) (subst (From start) all_is from)).0

      none_behind : with_serial last (two ∷ messages post (App a)) ≡ None
      none_behind = none_low (start + length (messages front (App a))) last (two ∷ messages post (App a)) (from_back start (messages front (App a)) (two ∷ messages post (App a)) (subst (From start) all_is from)) (lower at_two two_is)
        where
          lower : two.serial ≡ start + length (messages front (App a)) → two.serial ≡ serial → last < start + length (messages front (App a))
          lower h g = omega (arith, h, g, less)

      by : (o : Option Envelope) → message front (App a) last ≡ o → message front (App a) last ≡ Some one
      by (Some m) h =
          h ∙ sym (front_same m h) ∙ was_one
        where
          front_same : (m : Envelope) → message front (App a) last ≡ Some m → message es (App a) last ≡ Some m
          front_same m g = ap (λ l. message l (App a) last) place ∙ found_more front (sent (App a) two ∷ post) (App a) last m g
      by None h =
          let behind : message es (App a) last ≡ with_serial last (messages (sent (App a) two ∷ post) (App a)) = ap (λ l. message l (App a) last) place ∙ none_more front (sent (App a) two ∷ post) (App a) last h in
          absurd (no_none one (sym (behind ∙ ap (with_serial last) (sent_one (App a) two post) ∙ none_behind) ∙ was_one))

  abbrev early : List Entry
  early = before_sent (App a) last es

  abbrev between : List Entry
  between = (sent_split front (App a) last one was_front).0

  same_early : before_sent (App a) last front ≡ early
  same_early = sym (front_more front (sent (App a) two ∷ post) (App a) last one was_front) ∙ ap (before_sent (App a) last) (sym place)

  front_is : front ≡ (early ++ sent (App a) one ∷ []) ++ between
  front_is = (sent_split front (App a) last one was_front).1 ∙ ap (λ l. l ++ sent (App a) one ∷ between) same_early ∙ sym (append_assoc early (sent (App a) one ∷ []) between)

  -- where each signal between would be against something, there is none
  pub none_between : ((s : ℕ) (m : Envelope) → last < s → s < serial → message es (App a) s ≡ Some m → m.kind ≡ 4 → ⊥) → NoSignalBetween es a last serial
  none_between never = record { first = one; has_serial = one_is; between = between; stands = front_is; no_signal = all_placed (IsNoSignal a) between placed }
    where
      at_signal : (xs ys : List Entry) (e : Envelope) → between ≡ xs ++ sent (App a) e ∷ ys → e.kind ≡ 4 → ⊥
      at_signal xs ys e is four = never e.serial e (above at_one.0 at_e.0 one_is) (under at_e.0 at_two.0 two_is) found four
        where
          A : List Envelope
          A = messages early (App a)

          B : List Envelope
          B = messages xs (App a)

          C : List Envelope
          C = messages ys (App a)

          D : List Envelope
          D = messages post (App a)

          -- all messages, in their places
          whole : messages es (App a) ≡ A ++ one ∷ (B ++ e ∷ (C ++ two ∷ D))
          whole =
              all_is ∙ ap (λ l. messages l (App a) ++ two ∷ D) (front_is ∙ append_assoc early (sent (App a) one ∷ []) between)
              ∙ ap (λ l. l ++ two ∷ D) (messages_more early (sent (App a) one ∷ between) (App a) ∙ ap (λ l. A ++ l) (sent_one (App a) one between ∙ ap (λ l. one ∷ l) inner))
              ∙ append_assoc A (one ∷ (B ++ e ∷ C)) (two ∷ D) ∙ ap (λ l. A ++ one ∷ l) (append_assoc B (e ∷ C) (two ∷ D))
            where
              inner : messages between (App a) ≡ B ++ e ∷ C
              inner = ap (λ l. messages l (App a)) is ∙ messages_more xs (sent (App a) e ∷ ys) (App a) ∙ ap (λ l. B ++ l) (sent_one (App a) e ys)

          all_from : From start (A ++ one ∷ (B ++ e ∷ (C ++ two ∷ D)))
          all_from = subst (From start) whole from

          at_one : (one.serial ≡ start + length A) × From (start + length A + 1) (B ++ e ∷ (C ++ two ∷ D))
          at_one = from_at start A one (B ++ e ∷ (C ++ two ∷ D)) all_from

          at_e : (e.serial ≡ start + length A + 1 + length B) × From (start + length A + 1 + length B + 1) (C ++ two ∷ D)
          at_e = from_at (start + length A + 1) B e (C ++ two ∷ D) at_one.1

          at_two : (two.serial ≡ start + length A + 1 + length B + 1 + length C) × From (start + length A + 1 + length B + 1 + length C + 1) D
          at_two = from_at (start + length A + 1 + length B + 1) C two D at_e.1

          above : one.serial ≡ start + length A → e.serial ≡ start + length A + 1 + length B → one.serial ≡ last → last < e.serial
          above h g k = omega (arith, h, g, k)

          under : e.serial ≡ start + length A + 1 + length B → two.serial ≡ start + length A + 1 + length B + 1 + length C → two.serial ≡ serial → e.serial < serial
          under h g k = omega (arith, h, g, k)

          found : message es (App a) e.serial ≡ Some e
          found =
              ap (with_serial e.serial) (whole ∙ sym (append_assoc A (one ∷ B) (e ∷ (C ++ two ∷ D))))
              ∙ found_at start (A ++ one ∷ B) e (C ++ two ∷ D) (subst (From start) (sym (append_assoc A (one ∷ B) (e ∷ (C ++ two ∷ D)))) all_from)

      placed : (xs : List Entry) (y : Entry) (ys : List Entry) → between ≡ xs ++ y ∷ ys → IsNoSignal a y
      placed xs (sent (App b) e) ys is = λ same four. at_signal xs ys e (is ∙ ap (λ n. xs ++ sent (App n) e ∷ ys) same) four
      placed xs (sent The_bus e) ys is = tt
      placed xs (sent Registry e) ys is = tt
      placed xs (sent (Reader r) e) ys is = tt
      placed xs y ys is = tt
