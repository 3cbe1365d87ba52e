-- What the trace says that a reader has of an application behind a letter that it takes, by who sent that.
use Rattle.std.proofs.Common.{◌≡◌, ℕ, List, [], ◌∷◌, ◌++◌, map, Option, None, Some, refl, sym, ap, ap₂, ◌∙◌}
use Rattle.std.specs.Prelude.{◌==◌, ◌&&◌, if◌then◌else◌}
use Rattle.std.proofs.lemmas.Bool.{eq-eqb, ne_eqb}
use Rattle.atspi_script_lines.specs.declared.line.Party.TheVariants.{Bus as The_bus, Registry, App, Reader}
use Rattle.atspi_message.specs.Envelope.{Envelope}
use Rattle.atspi_protocol.specs.following.ReaderState.{Followed}
use Rattle.atspi_protocol.specs.following.Known.{told_end}
use Rattle.atspi_trace.specs.Entry.{Entry, got, spoke, gone}
use Rattle.atspi_trace.specs.World.{Hearer, Letter, End}
use Rattle.atspi_trace.specs.Hearing.{question_returned, holding_of, app_with, lines_if_held, last_lines, ended_entries, heard_entries}
use Rattle.atspi_trace_laws.specs.laws.Words.{message, answer_to, answers_question}
use Rattle.atspi_trace_caches.specs.caches.Caches.{unasked, reads, reads_if, follows_after, follows_on, followed}
use Rattle.atspi_trace_laws.proofs.OfHeld.Holdings.{question_by, returned_is}
use Rattle.atspi_trace_laws.proofs.OfHeld.Keeping.{ReaderIs}
use Rattle.atspi_trace_laws.proofs.OfTaken.Said.{IsLetter}
use Rattle.atspi_trace_played.proofs.SeeingSame.{followed_more, spoken_follow}
use Rattle.atspi_trace_played.proofs.SeeingChildren.{took}

-- the question that a message answers is the same both ways
pub same_question : (es : List Entry) (r a : ℕ) (h : Hearer) (m first : Envelope) → ReaderIs es r h → message es (App a) m.serial ≡ Some first → m ≡ record first { sender = m.sender }
    → answers_question es r (message es (App a) m.serial) ≡ question_returned m h.asked
same_question es r a h m first i was alike =
    ap (answers_question es r) was ∙ by first.reply
    ∙ ap₂ (λ b o. question_by b o h.asked) (ap (λ (e : Envelope). e.kind == 2) (sym alike)) (ap (λ (e : Envelope). e.reply) (sym alike)) ∙ sym (returned_is m h.asked)
  where
    by : (o : Option ℕ) → answer_to es r first o ≡ question_by (first.kind == 2) o h.asked
    by None = refl
    by (Some n) = ap (λ q. if first.kind == 2 then q else None) (i.calls n)

-- WHAT IS WRITTEN behind the Got
pub written_app : (r a : ℕ) (h : Hearer) (ends : List End) (letter : Letter) → letter.from ≡ App a → heard_entries r h ends letter ≡ map (spoke r a) (lines_if_held (holding_of a h.holds) letter.said)
written_app r a h ends letter is = rw is refl

pub written_bus : (r : ℕ) (h : Hearer) (ends : List End) (letter : Letter) → letter.from ≡ The_bus → heard_entries r h ends letter ≡ ended_entries r h (app_with ends (told_end letter.said.message))
written_bus r h ends letter is = rw is refl

pub written_registry : (r : ℕ) (h : Hearer) (ends : List End) (letter : Letter) → letter.from ≡ Registry → heard_entries r h ends letter ≡ []
written_registry r h ends letter is = rw is refl

pub written_reader : (r p : ℕ) (h : Hearer) (ends : List End) (letter : Letter) → letter.from ≡ Reader p → heard_entries r h ends letter ≡ []
written_reader r p h ends letter is = rw is refl

module _ (es : List Entry) (r b : ℕ) (h : Hearer) (ends : List End) (letter : Letter) (x : List ℕ) where
  abbrev pub before : Followed
  before = followed x es r b

  abbrev pub behind : Followed
  behind = followed x (es ++ took r h ends letter) r b

  abbrev pub serial : ℕ
  serial = letter.said.message.serial

  opened : behind ≡ follows_on es r b before (took r h ends letter)
  opened = followed_more x es (took r h ends letter) r b

  -- a message of an application
  after_app : (a : ℕ) → letter.from ≡ App a → behind ≡ (if a == b then reads_if (answers_question es r (message es (App b) serial)) (message es (App b) serial) before else before)
  after_app a is =
      opened ∙ ap₂ (λ p l. follows_on es r b before (got (Reader r) p serial ∷ l)) is (written_app r a h ends letter is)
      ∙ spoken_follow (es ++ got (Reader r) (App a) serial ∷ []) r b r a (follows_after es r b before (got (Reader r) (App a) serial)) (lines_if_held (holding_of a h.holds) letter.said)
      ∙ ap (λ t. if t && a == b then reads_if (answers_question es r (message es (App b) serial)) (message es (App b) serial) before else before) (eq-eqb r r refl)

  pub behind_own : ReaderIs es r h → letter.from ≡ App b → (c : IsLetter es letter) → behind ≡ reads (question_returned letter.said.message h.asked) c.first before
  behind_own i is c =
      let was : message es (App b) serial ≡ Some c.first = ap (λ p. message es p serial) (sym is) ∙ c.was in
      after_app b is ∙ ap (λ t. if t then reads_if (answers_question es r (message es (App b) serial)) (message es (App b) serial) before else before) (eq-eqb b b refl)
      ∙ ap₂ (λ p o. reads_if p o before) (same_question es r b h letter.said.message c.first i was c.alike) was

  pub behind_other : (a : ℕ) → letter.from ≡ App a → (a ≡ b → ⊥) → behind ≡ before
  behind_other a is differ =
      after_app a is ∙ ap (λ t. if t then reads_if (answers_question es r (message es (App b) serial)) (message es (App b) serial) before else before) (ne_eqb a b differ)

  -- one of the registry, or of a reader
  pub behind_registry : letter.from ≡ Registry → behind ≡ before
  behind_registry is = opened ∙ ap₂ (λ p l. follows_on es r b before (got (Reader r) p serial ∷ l)) is (written_registry r h ends letter is)

  pub behind_reader : (p : ℕ) → letter.from ≡ Reader p → behind ≡ before
  behind_reader p is = opened ∙ ap₂ (λ p l. follows_on es r b before (got (Reader r) p serial ∷ l)) is (written_reader r p h ends letter is)

  -- one of the bus, which may tell the end of one
  after_bus : letter.from ≡ The_bus → (o : Option ℕ) → app_with ends (told_end letter.said.message) ≡ o
      → behind ≡ follows_on (es ++ got (Reader r) The_bus serial ∷ []) r b before (ended_entries r h o)
  after_bus is o tells =
      opened ∙ ap₂ (λ p l. follows_on es r b before (got (Reader r) p serial ∷ l)) is (written_bus r h ends letter is)
      ∙ ap (λ k. follows_on (es ++ got (Reader r) The_bus serial ∷ []) r b before (ended_entries r h k)) tells

  pub behind_bus : letter.from ≡ The_bus → app_with ends (told_end letter.said.message) ≡ None → behind ≡ before
  behind_bus is tells = after_bus is None tells

  one_end : (a : ℕ) → letter.from ≡ The_bus → app_with ends (told_end letter.said.message) ≡ Some a → behind ≡ (if a == b then unasked before.name else before)
  one_end a is tells =
      after_bus is (Some a) tells
      ∙ spoken_follow ((es ++ got (Reader r) The_bus serial ∷ []) ++ gone r a ∷ []) r b r a (follows_after (es ++ got (Reader r) The_bus serial ∷ []) r b before (gone r a)) (last_lines (holding_of a h.holds))
      ∙ ap (λ t. if t && a == b then unasked before.name else before) (eq-eqb r r refl)

  pub behind_its_end : letter.from ≡ The_bus → app_with ends (told_end letter.said.message) ≡ Some b → behind ≡ unasked before.name
  behind_its_end is tells = one_end b is tells ∙ ap (λ t. if t then unasked before.name else before) (eq-eqb b b refl)

  pub behind_other_end : (a : ℕ) → letter.from ≡ The_bus → app_with ends (told_end letter.said.message) ≡ Some a → (a ≡ b → ⊥) → behind ≡ before
  behind_other_end a is tells differ = one_end a is tells ∙ ap (λ t. if t then unasked before.name else before) (ne_eqb a b differ)
