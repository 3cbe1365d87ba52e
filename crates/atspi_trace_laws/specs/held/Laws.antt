-- What readers show and speak.
use Rattle.std.specs.Prelude.{◌≡◌, ◌⊎◌, ℕ, true, List, ◌∷◌, ◌++◌, [], map, Some, is_some}
use Rattle.atspi_tree_model.specs.declared.step.Step.{Step}
use Rattle.atspi_script_lines.specs.declared.line.Party.TheVariants.{Bus as The_bus, App, Reader}
use Rattle.atspi_speech.specs.Speech.{says_after, closing_says}
use Rattle.atspi_trace.specs.Entry.{Entry, got, spoke, gone}
use Rattle.atspi_trace_laws.specs.laws.Words.{as_of, Kept, held}
use Rattle.atspi_trace_laws.specs.laws.NineLaws.{Everywhere, Announces, LawOfShownRows, LawOfSpokenLines}
use Rattle.atspi_trace_laws.specs.order.Laws.{OfEachTrace}
use Rattle.atspi_trace_laws.specs.heard.Laws.{OfEachDone}

-- the law of shown rows
abbrev pub ShowsAreDue : Type 0
ShowsAreDue = OfEachTrace LawOfShownRows

-- the law of spoken lines
abbrev pub LinesAreSpoken : Type 0
LinesAreSpoken = OfEachDone LawOfSpokenLines

-- And no other line is spoken. A line stands behind a message that it took of an application that it held, which
-- announces a step: it is one of the lines of that step, read from the tree as of the message, with those before it in
-- front.
pub record IsOfStep (before : List Entry) (reader app : ℕ) (text : List ℕ) : Type 0 where
  pub early : List Entry
  pub serial : ℕ
  pub step : Step
  pub front : List (List ℕ)
  pub back : List (List ℕ)
  pub stands : before ≡ early ++ got (Reader reader) (App app) serial ∷ map (spoke reader app) front
  pub holds : is_some (held early reader app) ≡ true
  pub announces : Announces early app serial step
  pub listed : says_after (as_of early app serial) step ≡ front ++ text ∷ back

-- or it is the closing line of an application that it held, behind the news that this ended, with the root's name as of
-- the last message taken of it
pub record IsAtEnd (before : List Entry) (reader app : ℕ) (text : List ℕ) : Type 0 where
  pub early : List Entry
  pub kept : Kept
  pub front : List (List ℕ)
  pub back : List (List ℕ)
  pub stands : before ≡ early ++ gone reader app ∷ map (spoke reader app) front
  pub holds : held early reader app ≡ Some kept
  pub listed : closing_says (as_of early app kept.last) ≡ front ++ text ∷ back

-- the news that an application ended stands directly behind a message of the bus that the reader took
pub record IsNews (before : List Entry) (reader : ℕ) : Type 0 where
  pub early : List Entry
  pub serial : ℕ
  pub stands : before ≡ early ++ got (Reader reader) The_bus serial ∷ []

abbrev pub IsDueWord : List Entry → Entry → List Entry → Type 0
IsDueWord before (spoke reader app text) behind = IsOfStep before reader app text ⊎ IsAtEnd before reader app text
IsDueWord before (gone reader app) behind = IsNews before reader
IsDueWord before entry behind = Unit {0}

abbrev pub NoOtherWords : Type 0
NoOtherWords = OfEachTrace (Everywhere IsDueWord)
