-- The three facts of the world under "each step was asked for whole", and the one that they make: a reader's patterns are entered at the registry, an application that embedded
-- has heard of them, and the reader asks for items of such applications alone.
use Rattle.std.proofs.Common.{◌≡◌, ℕ, ◌<◌, ◌≤◌, true, List, [], Some, is_some}
use Rattle.std.specs.Prelude.{codes, filter, nat_le}
use Rattle.std.specs.List.{AllByRecursion}
use Rattle.atspi_base.specs.valid_names.Names.{is_unique_name}
use Rattle.atspi_script_lines.specs.declared.line.Party.TheVariants.{Registry, App, Reader}
use Rattle.atspi_message.specs.Envelope.{Envelope}
use Rattle.atspi_protocol.specs.declared.following.question.Question.TheVariants.{RegisterEvent}
use Rattle.atspi_protocol.specs.ends.Places.{registry}
use Rattle.atspi_protocol.specs.members.Asked.{is_text}
use Rattle.atspi_protocol.specs.exporting.Exporter.{Exporter}
use Rattle.atspi_protocol.specs.exporting.Hearing.{is_heard}
use Rattle.atspi_trace.specs.Entry.{Entry}
use Rattle.atspi_trace.specs.World.{here, Asked, returned, an_application, a_reader, Hearer, Letter, End, World}
use Rattle.atspi_trace.specs.Ends.{end_at}
use Rattle.atspi_trace_laws.specs.laws.Words.{messages, message}
use Rattle.atspi_trace_laws.specs.missed.Laws.{hearing}
use Rattle.atspi_trace_laws.proofs.OfLinks.LawLinks.{first_unread}
use Rattle.atspi_trace_laws.proofs.OfOwn.Writing.{Lives}
use Rattle.atspi_trace_laws.proofs.OfMissed.Arriving.{On}

-- WHAT THE REGISTRY TOLD up to one of its serials, that with it too, and the pairs that one has who heard just that
abbrev pub up_to : ℕ → List Envelope → List Envelope
up_to n ms = filter (λ (m : Envelope). nat_le m.serial n) ms

abbrev pub told_by : List Entry → ℕ → List (List ℕ × List ℕ)
told_by es n = hearing (up_to n (messages es Registry)) []

-- ENTERED. A pair is entered: from some message of the registry's on, which the bus took, whoever heard all up to there or to any later message of its has it.
pub record Entered (es : List Entry) (pair : List ℕ × List ℕ) : Type 0 where
  pub at : ℕ
  pub taken : at < first_unread es Registry
  pub stays : (n : ℕ) → at ≤ n → is_heard (told_by es n) pair ≡ true

-- of a reader with this name: each pattern whose call was returned
abbrev pub IsEntered : List Entry → List ℕ → Asked → Type 0
IsEntered es name a = (pattern : List ℕ) → a.question ≡ RegisterEvent pattern → a.fate ≡ returned → Entered es (name, pattern)

abbrev pub AllEntered : List Entry → World → Type 0
AllEntered es w =
    Lives es → (k r : ℕ) (e : End) (h : Hearer) (name : List ℕ) → end_at w.ends k ≡ Some e → e.who ≡ Reader r → e.role ≡ a_reader h → e.standing ≡ here → e.unique ≡ Some name
    → AllByRecursion (IsEntered es name) h.asked

-- such a reader has its name
abbrev pub IsKnown : End → Asked → Type 0
IsKnown e a = (pattern : List ℕ) → a.question ≡ RegisterEvent pattern → a.fate ≡ returned → is_some e.unique ≡ true

abbrev pub AllKnown : List Entry → World → Type 0
AllKnown es w =
    Lives es → (k r : ℕ) (e : End) (h : Hearer) → end_at w.ends k ≡ Some e → e.who ≡ Reader r → e.role ≡ a_reader h → e.standing ≡ here → AllByRecursion (IsKnown e) h.asked

-- CARRIED ON. Where a reader that had its name before is here still, what was entered for it is so later, from the same message on.
abbrev pub Carries : List Entry → List Entry → World → World → Type 0
Carries es later w v =
    Lives later → (k r : ℕ) (e d : End) (name pattern : List ℕ) → end_at w.ends k ≡ Some e → end_at v.ends k ≡ Some d → e.who ≡ Reader r → e.unique ≡ Some name → d.standing ≡ here
    → (i : Entered es (name, pattern)) → (j : Entered later (name, pattern)) × (j.at ≡ i.at)

-- LISTED. An application took the registry's list: it sent the call that it sends behind that.
pub record Embeds (es : List Entry) (a : ℕ) : Type 0 where
  pub call : Envelope
  pub serial : ℕ
  pub was : message es (App a) serial ≡ Some call
  pub is_call : call.kind ≡ 1
  pub member : call.member ≡ Some (codes "Embed")

-- HEARS. What it has heard is what one has who heard all that the registry sent up to some message of its; each message of the registry's own interface behind that which the bus took (no other
-- tells of pairs) stands on its down link, and what stands there of the registry is behind that.
abbrev pub IsNews : Envelope → Type 0
IsNews m = is_text m.interface registry ≡ true

abbrev pub OnLink : ℕ → List Letter → Type 0
OnLink n ls = (l : Letter) × On l ls × (l.from ≡ Registry) × (l.said.message.serial ≡ n)

pub record HearsAll (es : List Entry) (s : Exporter) (down : List Letter) : Type 0 where
  pub base : ℕ
  pub heard : (pair : List ℕ × List ℕ) → is_heard s.heard pair ≡ is_heard (told_by es base) pair
  pub taken : base < first_unread es Registry
  pub behind : (n : ℕ) → base < n → n < first_unread es Registry → (m : Envelope) → message es Registry n ≡ Some m → IsNews m → OnLink n down
  pub before : (l : Letter) → On l down → l.from ≡ Registry → base < l.said.message.serial

abbrev pub AllHear : List Entry → World → Type 0
AllHear es w =
    Lives es → (k a : ℕ) (e : End) (s : Exporter) → end_at w.ends k ≡ Some e → e.who ≡ App a → e.role ≡ an_application s → e.standing ≡ here → Embeds es a → HearsAll es s e.down

-- NAMED. The bus names that a reader was told as those of applications are unique names, of such as embedded.
abbrev pub IsListed : List Entry → List End → List ℕ → Type 0
IsListed es ends name = (is_unique_name name ≡ true) × ((k a : ℕ) (e : End) → end_at ends k ≡ Some e → e.who ≡ App a → e.unique ≡ Some name → Embeds es a)

abbrev pub AllListed : List Entry → World → Type 0
AllListed es w = Lives es → (k : ℕ) (e : End) (h : Hearer) → end_at w.ends k ≡ Some e → e.role ≡ a_reader h → AllByRecursion (IsListed es w.ends) h.named
