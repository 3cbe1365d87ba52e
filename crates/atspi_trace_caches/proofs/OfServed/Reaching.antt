-- A reader's registrations reach an application before its call for items does: whoever takes what stands on a down link in front of such a call has heard of the reader's patterns.
use Rattle.std.proofs.Common.{◌≡◌, ◌⊎◌, inl, inr, ℕ, ◌<◌, ◌≤◌, Bool, true, false, List, [], ◌∷◌, ◌++◌, Some, refl, sym, ap, ◌∙◌, subst, arith}
use Rattle.std.specs.Prelude.{◌==◌, nat_le, if◌then◌else◌}
use Rattle.std.specs.List.{AllByRecursion}
use Rattle.std.proofs.lemmas.Bool.{eqb-true, leb-true, leb-false}
use Rattle.atspi_script_lines.specs.declared.line.Party.{Party}
use Rattle.atspi_script_lines.specs.declared.line.Party.TheVariants.{Bus as The_bus, Registry, App, Reader}
use Rattle.atspi_message.specs.Envelope.{Envelope}
use Rattle.atspi_match.specs.declared.condition.Condition.{Condition}
use Rattle.atspi_protocol.specs.ends.Places.{registry}
use Rattle.atspi_protocol.specs.members.Asked.{is_text}
use Rattle.atspi_protocol.specs.members.Interfaces.{cache}
use Rattle.atspi_protocol.specs.news.NewsOf.{event_interface}
use Rattle.atspi_protocol.specs.exporting.Exporter.{Exporter}
use Rattle.atspi_protocol.specs.exporting.Hearing.{is_heard, heard_after}
use Rattle.atspi_protocol.specs.exporting.Taking.{app_takes}
use Rattle.atspi_trace.specs.Entry.{Entry}
use Rattle.atspi_trace.specs.World.{Letter}
use Rattle.atspi_trace.specs.Ends.{same_party}
use Rattle.atspi_trace_laws.specs.laws.Words.{message}
use Rattle.atspi_trace_laws.specs.serials.Laws.{HasNextNumber}
use Rattle.atspi_trace_laws.specs.missed.Laws.{heard_on}
use Rattle.atspi_trace_laws.proofs.OfOrder.Parties.{same_some, party-same, false_true}
use Rattle.atspi_trace_laws.proofs.OfOrder.Each.{Each}
use Rattle.atspi_trace_laws.proofs.OfLinks.LawLinks.{first_unread}
use Rattle.atspi_trace_laws.proofs.OfHeard.Telling as telling
use Rattle.atspi_trace_laws.proofs.OfTaken.Said.{Comes}
use Rattle.atspi_trace_laws.proofs.OfTurns.Turning.{IsBehind, Turns}
use Rattle.atspi_trace_laws.proofs.OfNames.Places.{name_told}
use Rattle.atspi_trace_laws.proofs.OfSigned.Mail.{told_more}
use Rattle.atspi_trace_laws.proofs.OfMissed.Arriving.{On}
use Rattle.atspi_trace_laws.proofs.OfMissed.Delivering.{all_on}
use Rattle.atspi_trace_laws.proofs.OfMissed.Listening.{listen}
use Rattle.atspi_trace_laws.proofs.OfMissed.Signals.{ForReaders, signal_for}
use Rattle.atspi_trace_caches.proofs.OfServed.Facts.{IsNews, OnLink, Entered, Embeds, told_by}
use Rattle.atspi_trace_caches.proofs.OfServed.AskingFrame.{patterns, IsItsCall, embeds_more, call_before}
use Rattle.atspi_trace_caches.proofs.OfServed.HearingFold.{still_alike, no_news, other_news, told_next, told_same}
use Rattle.atspi_trace_caches.proofs.OfServed.HearingTuned.{Early, Hears, Late}
use Rattle.atspi_trace_caches.proofs.OfServed.HearingWords.{SaysWell, said_well}

-- WHAT IS KEPT
abbrev pub Pairs : Type 0
Pairs = List (List ℕ × List ℕ)

-- what one has heard that takes these letters
abbrev pub along : Pairs → List Letter → Pairs
along pairs [] = pairs
along pairs (l ∷ ls) = along (heard_on pairs l.said.message) ls

-- the patterns of a reader's start are among the pairs, under its name
pub record HasPairs (es : List Entry) (r : ℕ) (pairs : Pairs) : Type 0 where
  pub name : List ℕ
  pub known : name_told es (Reader r) ≡ Some name
  pub heard : AllByRecursion (λ pattern. is_heard pairs (name, pattern) ≡ true) patterns

-- so it is where a call for items is taken, whose reader may have left by then
abbrev pub Reaches : List Entry → ℕ → Pairs → List Letter → Type 0
Reaches es a pairs [] = Unit {0}
Reaches es a pairs (l ∷ ls) = ((r : ℕ) → IsItsCall es r l → Embeds es a × HasPairs es r pairs) × Reaches es a (heard_on pairs l.said.message) ls

-- MORE ENTRIES
pairs_more : (es ys : List Entry) (r : ℕ) (pairs : Pairs) → HasPairs es r pairs → HasPairs (es ++ ys) r pairs
pairs_more es ys r pairs h = record { name = h.name; known = told_more es ys (Reader r) h.name h.known; heard = h.heard }

-- a call that came was sent before
pub call_back : (es ys : List Entry) (r : ℕ) (l : Letter) → Comes es l → IsItsCall (es ++ ys) r l → IsItsCall es r l
call_back es ys r l (inl bus) x = absurd (false_true (ap (λ p. same_party p (Reader r)) (sym bus ∙ x.from) ∙ party-same (Reader r)))
call_back es ys r l (inr i) x = record {
  from = x.from;
  name = x.name;
  call = sym (call_before es ys r l.said.message.serial i.first (subst (λ q. message es q l.said.message.serial ≡ Some i.first) x.from i.was)) ∙ x.call;
}

pub reaches_more : (es ys : List Entry) (a : ℕ) (pairs : Pairs) (ls : List Letter) → AllByRecursion (Comes es) ls → Reaches es a pairs ls → Reaches (es ++ ys) a pairs ls
reaches_more es ys a pairs [] c i = tt
reaches_more es ys a pairs (l ∷ ls) c i = (
  (λ r x. let y = i.0 r (call_back es ys r l c.0 x) in (embeds_more es ys a y.0, pairs_more es ys r pairs y.1)),
  reaches_more es ys a (heard_on pairs l.said.message) ls c.1 i.1,
)

-- MORE LETTERS
pub reaches_append : (es : List Entry) (a : ℕ) (pairs : Pairs) (xs ys : List Letter) → Reaches es a pairs xs → Reaches es a (along pairs xs) ys → Reaches es a pairs (xs ++ ys)
reaches_append es a pairs [] ys i j = j
reaches_append es a pairs (x ∷ xs) ys i j = (i.0, reaches_append es a (heard_on pairs x.said.message) xs ys i.1 j)

-- none of which is such a call
pub reaches_uncalled : (es : List Entry) (a : ℕ) (pairs : Pairs) (ls : List Letter) → AllByRecursion (λ l. (r : ℕ) → IsItsCall es r l → ⊥) ls → Reaches es a pairs ls
reaches_uncalled es a pairs [] n = tt
reaches_uncalled es a pairs (l ∷ ls) n = ((λ r x. absurd (n.0 r x)), reaches_uncalled es a (heard_on pairs l.said.message) ls n.1)

-- or none of which tells of pairs
pub reaches_quiet : (es : List Entry) (a : ℕ) (pairs : Pairs) (ls : List Letter) → AllByRecursion (λ (l : Letter). heard_on pairs l.said.message ≡ pairs) ls
    → AllByRecursion (λ l. (r : ℕ) → IsItsCall es r l → Embeds es a × HasPairs es r pairs) ls → Reaches es a pairs ls
reaches_quiet es a pairs [] q c = tt
reaches_quiet es a pairs (l ∷ ls) q c = (c.0, subst (λ ps. Reaches es a ps ls) (sym q.0) (reaches_quiet es a pairs ls q.1 c.1))

-- THE FIRST IS TAKEN
reaches_none : (es : List Entry) (a : ℕ) (pairs others : Pairs) (ls : List Letter) → (Embeds es a → ⊥) → Reaches es a pairs ls → Reaches es a others ls
reaches_none es a pairs others [] none i = tt
reaches_none es a pairs others (l ∷ ls) none i = ((λ r x. absurd (none (i.0 r x).0)), reaches_none es a (heard_on pairs l.said.message) (heard_on others l.said.message) ls none i.1)

pub reaches_rest : (es : List Entry) (rules : List (ℕ × List Condition)) (k a : ℕ) (s : Exporter) (l : Letter) (rest : List Letter) → Early es rules k a s (l ∷ rest) ⊎ Late es rules k s (l ∷ rest) → Reaches es a s.heard (l ∷ rest)
    → Reaches es a (app_takes s l.said.message).heard rest
reaches_rest es rules k a s l rest (inl x) i = reaches_none es a (heard_on s.heard l.said.message) (app_takes s l.said.message).heard rest x.no_embed i.1
reaches_rest es rules k a s l rest (inr x) i = subst (λ pairs. Reaches es a pairs rest) (sym (listen.signals s l.said.message x.name x.named x.past).1) i.1

-- WHO TAKES A WHOLE LINK
-- what is heard, and what of the registry's news stands on the link, as it is said of an application
pub record Heeds (es : List Entry) (pairs : Pairs) (ls : List Letter) : Type 0 where
  pub base : ℕ
  pub heard : (pair : List ℕ × List ℕ) → is_heard pairs pair ≡ is_heard (told_by es base) pair
  pub taken : base < first_unread es Registry
  pub behind : (n : ℕ) → base < n → n < first_unread es Registry → (m : Envelope) → message es Registry n ≡ Some m → IsNews m → OnLink n ls
  pub before : (l : Letter) → On l ls → l.from ≡ Registry → base < l.said.message.serial

pub heeds_of : (es : List Entry) (s : Exporter) (ls : List Letter) → Hears es s ls → Heeds es s.heard ls
heeds_of es s ls h = record {
  base = h.base;
  heard = h.heard;
  taken = h.taken;
  behind = λ n more less m found news. let y = h.behind n more less in y.2 (subst IsNews (sym (same_some y.0 m (sym y.1 ∙ found))) news);
  before = h.before;
}

-- the bus's own messages are none of the registry's news
abbrev pub NoNewsOfBus : Letter → Type 0
NoNewsOfBus l = l.from ≡ The_bus → is_text l.said.message.interface registry ≡ false

module _ (es : List Entry) (law : Each HasNextNumber [] es) where
  -- with nothing left on the link it has what was entered
  pub has_pair : (pairs : Pairs) → Heeds es pairs [] → (pair : List ℕ × List ℕ) → Entered es pair → is_heard pairs pair ≡ true
  has_pair pairs h pair e = h.heard pair ∙ by (nat_le e.at h.base) refl
    where
      least : (n : ℕ) → n ≤ n
      least n = omega arith

      lower : {x y : ℕ} → x < y → x ≤ y
      lower g = omega (arith, g)

      under : {n : ℕ} → n ≤ e.at → n < first_unread es Registry
      under {n} g = let t : e.at < first_unread es Registry = e.taken in omega (arith, g, t)

      by : (b : Bool) → nat_le e.at h.base ≡ b → is_heard (told_by es h.base) pair ≡ true
      by true g = e.stays h.base (leb-true e.at h.base g)
      by false g =
          ap (λ ps. is_heard ps pair) (sym (told_same es h.base e.at law (lower (leb-false e.at h.base g)) (λ n m more low found news. (h.behind n more (under low) m found news).1)))
          ∙ e.stays e.at (least e.at)

  module _ (a : ℕ) (well : AllByRecursion SaysWell es) (signal_law : Each telling.Both [] es) where
    as_sent : (l : Letter) → Comes es l → (who : Party) → l.from ≡ who → (who ≡ The_bus → ⊥)
        → (first : Envelope) × (message es who l.said.message.serial ≡ Some first) × (l.said.message ≡ record first { sender = l.said.message.sender })
    as_sent l (inl bus) who from differ = absurd (differ (sym from ∙ bus))
    as_sent l (inr x) who from differ = (x.first, subst (λ p. message es p l.said.message.serial ≡ Some x.first) from x.was, x.alike)

    four_one : (n : ℕ) → n ≡ 4 → n ≡ 1 → ⊥
    four_one n h g = absurd (omega (arith, h, g))

    of_readers : (m : Envelope) → ForReaders m → is_text m.interface registry ≡ false
    of_readers m f = by f.interface
      where
        by : (m.interface ≡ Some cache) ⊎ (m.interface ≡ Some event_interface) → is_text m.interface registry ≡ false
        by (inl h) = ap (λ o. is_text o registry) h
        by (inr h) = ap (λ o. is_text o registry) h

    other_interface : (l : Letter) → Comes es l → NoNewsOfBus l → (p : Party) → l.from ≡ p → (p ≡ Registry → ⊥) → l.said.message.kind ≡ 4 → is_text l.said.message.interface registry ≡ false
    other_interface l c bus The_bus from differ four = bus from
    other_interface l c bus Registry from differ four = absurd (differ refl)
    other_interface l c bus (App b) from differ four =
        let f = as_sent l c (App b) from (λ h. false_true (ap (λ p. same_party p The_bus) h)) in
        ap (λ (z : Envelope). is_text z.interface registry) f.2 ∙ of_readers f.0 (signal_for es signal_law b l.said.message.serial f.0 f.1 (ap (λ (z : Envelope). z.kind) (sym f.2) ∙ four))
    other_interface l c bus (Reader r) from differ four =
        let f = as_sent l c (Reader r) from (λ h. false_true (ap (λ p. same_party p The_bus) h)) in
        let one : f.0.kind ≡ 1 = said_well es (Reader r) l.said.message.serial f.0 well f.1 in
        absurd (four_one l.said.message.kind four (ap (λ (z : Envelope). z.kind) f.2 ∙ one))

    -- others tell of no pairs
    pub others_quiet : (pairs : Pairs) (l : Letter) → Comes es l → NoNewsOfBus l → (p : Party) → l.from ≡ p → (p ≡ Registry → ⊥) → heard_on pairs l.said.message ≡ pairs
    others_quiet pairs l c bus p from differ = by (l.said.message.kind == 4) refl
      where
        by : (b : Bool) → (l.said.message.kind == 4) ≡ b → (if b then (heard_after pairs l.said.message).heard else pairs) ≡ pairs
        by true h = no_news pairs l.said.message (other_interface l c bus p from differ (eqb-true l.said.message.kind 4 h))
        by false h = refl

    module _ (pairs : Pairs) (l : Letter) (rest : List Letter) (turns : Turns es (App a) (l ∷ rest)) (comes : Comes es l) (bus : NoNewsOfBus l) (h : Heeds es pairs (l ∷ rest)) where
      abbrev m : Envelope
      m = l.said.message

      not_bus : (j : Letter) → j.from ≡ Registry → j.from ≡ The_bus → ⊥
      not_bus j from is = false_true (ap (λ p. same_party p The_bus) (sym from ∙ is))

      below : l.from ≡ Registry → m.serial < first_unread es Registry
      below from = subst (λ p. m.serial < first_unread es p) from (turns.0 (not_bus l from)).below

      in_order : (j : Letter) → On j rest → l.from ≡ Registry → j.from ≡ Registry → m.serial < j.said.message.serial
      in_order j o from other = all_on (IsBehind l) rest turns.1 j o (not_bus j other) (from ∙ sym other)

      none_lower : (n : ℕ) → l.from ≡ Registry → n < m.serial → OnLink n (l ∷ rest) → ⊥
      none_lower n from less x = at x.1
        where
          never : m.serial ≡ n → ⊥
          never is = absurd (omega (arith, is, less))

          further : m.serial < x.0.said.message.serial → x.0.said.message.serial ≡ n → ⊥
          further low is = absurd (omega (arith, low, is, less))

          at : On x.0 (l ∷ rest) → ⊥
          at (inl same) = never (ap (λ (z : Letter). z.said.message.serial) same ∙ x.3)
          at (inr o) = further (in_order x.0 o from x.2) x.3

      -- the first is none of those behind it
      without : (n : ℕ) → (l.from ≡ Registry → m.serial < n) → OnLink n (l ∷ rest) → OnLink n rest
      without n low y = at y.1
        where
          never : m.serial < n → m.serial ≡ n → ⊥
          never le is = absurd (omega (arith, le, is))

          at : On y.0 (l ∷ rest) → OnLink n rest
          at (inl same) = absurd (never (low (ap (λ (z : Letter). z.from) same ∙ y.2)) (ap (λ (z : Letter). z.said.message.serial) same ∙ y.3))
          at (inr o) = (y.0, o, y.2, y.3)

      heeds_still : (p : Party) → l.from ≡ p → (p ≡ Registry → ⊥) → Heeds es (heard_on pairs m) rest
      heeds_still p from differ = record {
        base = h.base;
        heard = λ pair. ap (λ ps. is_heard ps pair) (others_quiet pairs l comes bus p from differ) ∙ h.heard pair;
        taken = h.taken;
        behind = λ n more less x found news. without n (λ registry_. absurd (differ (sym from ∙ registry_))) (h.behind n more less x found news);
        before = λ j o other. h.before j (inr o) other;
      }

      heeds_now : l.from ≡ Registry → Heeds es (heard_on pairs m) rest
      heeds_now from = record {
        base = m.serial;
        heard = λ pair. by (m.kind == 4) refl pair ∙ ap (λ ps. is_heard ps pair) (sym told_now);
        taken = below from;
        behind = λ n more less x found news. without n (λ registry_. more) (h.behind n (higher more) less x found news);
        before = λ j o other. in_order j o from other;
      }
        where
          f : (first : Envelope) × (message es Registry m.serial ≡ Some first) × (m ≡ record first { sender = m.sender })
          f = as_sent l comes Registry from (λ q. false_true (ap (λ p. same_party p The_bus) q))

          up : h.base < m.serial
          up = h.before l (inl refl) from

          higher : {n : ℕ} → m.serial < n → h.base < n
          higher {n} g = let low : h.base < m.serial = up in omega (arith, g, low)

          under : {n : ℕ} → n < m.serial → n < first_unread es Registry
          under {n} g = let low : m.serial < first_unread es Registry = below from in omega (arith, g, low)

          told_now : told_by es m.serial ≡ (heard_after (told_by es h.base) f.0).heard
          told_now = told_next es m.serial f.0 law f.1 h.base up (λ n x more less found news. none_lower n from less (h.behind n more (under less) x found news))

          by : (b : Bool) → (m.kind == 4) ≡ b → (pair : List ℕ × List ℕ) → is_heard (if b then (heard_after pairs m).heard else pairs) pair ≡ is_heard (heard_after (told_by es h.base) f.0).heard pair
          by true four pair = still_alike pairs (told_by es h.base) m h.heard pair ∙ ap (λ z. is_heard (heard_after (told_by es h.base) z).heard pair) f.2
          by false four pair = h.heard pair ∙ ap (λ ps. is_heard ps pair) (sym (other_news (told_by es h.base) f.0 none))
            where
              none : IsNews f.0 → ⊥
              none news =
                  let said = said_well es Registry m.serial f.0 well f.1 news in
                  false_true (sym four ∙ ap (λ (z : Envelope). z.kind == 4) f.2 ∙ ap (λ n. n == 4) said.0)

      heeds_after : (p : Party) → l.from ≡ p → Heeds es (heard_on pairs m) rest
      heeds_after Registry from = heeds_now from
      heeds_after The_bus from = heeds_still The_bus from (λ q. false_true (ap (λ p. same_party p Registry) q))
      heeds_after (App b) from = heeds_still (App b) from (λ q. false_true (ap (λ p. same_party p Registry) q))
      heeds_after (Reader r) from = heeds_still (Reader r) from (λ q. false_true (ap (λ p. same_party p Registry) q))

    pub heeds_along : (pairs : Pairs) (ls : List Letter) → Turns es (App a) ls → AllByRecursion (Comes es) ls → AllByRecursion NoNewsOfBus ls → Heeds es pairs ls → Heeds es (along pairs ls) []
    heeds_along pairs [] t c bus h = h
    heeds_along pairs (l ∷ ls) t c bus h = heeds_along (heard_on pairs l.said.message) ls t.2 c.1 bus.1 (heeds_after pairs l ls t c.0 bus.0 h l.from refl)
