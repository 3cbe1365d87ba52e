-- THE LAW ABOUT CACHES: what a reader has of an application is the view of its tree as of the last message taken.
use Rattle.std.specs.Prelude.{◌≡◌, ℕ, true, List, [], ◌∷◌, ◌++◌, Option, None, Some, is_some}
use Rattle.atspi_tree_model.specs.declared.view.Row.{Row}
use Rattle.atspi_tree_model.specs.declared.step.Step.{Step}
use Rattle.atspi_tree_model.specs.Forest.{Forest}
use Rattle.atspi_tree_model.specs.Path.{path_of}
use Rattle.atspi_tree_model.specs.View.{view}
use Rattle.atspi_speech.specs.Speech.{lines as read_lines, says_after, closing_lines, closing_says}
use Rattle.atspi_script_lines.specs.declared.line.Line.{Line}
use Rattle.atspi_script_lines.specs.declared.line.Party.TheVariants.{App, Reader}
use Rattle.atspi_message.specs.Envelope.{Envelope}
use Rattle.atspi_protocol.specs.announcing.Announced.{announced}
use Rattle.atspi_protocol.specs.news.NewsOf.{news_of}
use Rattle.atspi_protocol.specs.following.ReaderState.{Followed}
use Rattle.atspi_trace.specs.Entry.{Entry, changed, got, gone}
use Rattle.atspi_trace.specs.Causes.{told_in}
use Rattle.atspi_trace.specs.Due.{begins, after_all, Begun}
use Rattle.atspi_trace_laws.specs.laws.Words.{live_tree, message, before_sent, as_of, heard_pairs, answers_question}
use Rattle.atspi_trace_laws.specs.laws.Words.{Kept, held}
use Rattle.atspi_trace_laws.specs.laws.NineLaws.{Everywhere}
use Rattle.atspi_trace_laws.specs.order.Scripts.{CanAllStand}
use Rattle.atspi_trace_laws.specs.folds.Laws.{AreAllCovered}
use Rattle.atspi_trace_laws.specs.signed.Laws.{IsItsName}
use Rattle.atspi_trace_laws.specs.missed.Laws.{IsLoad}
use Rattle.atspi_trace_caches.specs.caches.Caches.{followed}

-- EACH STEP IS ASKED FOR. Each step of the application that stands behind the last message that the reader took of it
-- and before the one that it takes now was asked for whole: some pattern that the application had heard of covers each
-- of its signals. A return that loads it begins anew.
abbrev pub AreAsked : List ℕ → List Entry → ℕ → ℕ → ℕ → Type 0
AreAsked name before app last serial =
    (early ys : List Entry) (step : Step) → before_sent (App app) serial before ≡ early ++ changed app step ∷ ys
    → is_some (message early (App app) last) ≡ true
    → AreAllCovered (heard_pairs early app) (announced name (live_tree early app) step)

abbrev pub AsksAll : List ℕ → ℕ → ℕ → List Entry → Entry → List Entry → Type 0
AsksAll name reader app before (got (Reader r) (App a) serial) behind =
    r ≡ reader → a ≡ app → (IsLoad (answers_question before reader (message before (App app) serial)) → ⊥) → (k : Kept)
    → held before reader app ≡ Some k → AreAsked name before app k.last serial
AsksAll name reader app before entry behind = Unit {0}

-- such a reader and application
pub record IsServed (trace : List Entry) (name : List ℕ) (reader app : ℕ) : Type 0 where
  pub all_asked : Everywhere (AsksAll name reader app) trace

-- WHAT THE READER HAS: nothing of one that it does not hold; of one that it holds the view of its tree as of the last
-- message taken, with the parts that it was told, and that message's serial.
pub record IsViewed (es : List Entry) (app : ℕ) (k : Kept) (f : Followed) : Type 0 where
  pub shows : f.view ≡ Some (view (told_in k.told) (as_of es app k.last))
  pub last : f.last ≡ k.last

abbrev pub CacheIs : List Entry → ℕ → Option Kept → Followed → Type 0
CacheIs es app None f = f.view ≡ None
CacheIs es app (Some k) f = IsViewed es app k f

-- so it is behind each front of a lawful trace, under the application's own name
abbrev pub CachesFollow : Type 0
CachesFollow =
    (lines : List Line) (trace : List Entry) → CanAllStand lines → Begun lines trace
    → (after_all (begins lines) trace).owing ≡ []
    → (name : List ℕ) (reader app : ℕ) → IsItsName trace app name
    → (front rest : List Entry) → trace ≡ front ++ rest
    → CacheIs front app (held front reader app) (followed name front reader app)

-- THE LINES THAT IT READS, by the reader's own definition, from what it has. At a message directly behind a step they
-- are those that are due at the step, read from the tree as of the message; at any other message there are none. And at
-- the application's end it is the closing line that is due.
pub record IsRead (name : List ℕ) (before : List Entry) (app serial : ℕ) (v : Forest Row) (e : Envelope) : Type 0 where
  pub behind_step : (early : List Entry) (step : Step)
      → before_sent (App app) serial before ≡ early ++ changed app step ∷ []
      → read_lines (path_of 0) name v (news_of name e) ≡ says_after (as_of before app serial) step
  pub elsewhere
      : ((early : List Entry) (step : Step) → before_sent (App app) serial before ≡ early ++ changed app step ∷ []
      → ⊥) → read_lines (path_of 0) name v (news_of name e) ≡ []

abbrev pub ReadsAt : List ℕ → ℕ → ℕ → List Entry → ℕ → Type 0
ReadsAt name reader app before serial =
    (IsLoad (answers_question before reader (message before (App app) serial)) → ⊥) → (e : Envelope)
    → message before (App app) serial ≡ Some e
    → (v : Forest Row) → (followed name before reader app).view ≡ Some v → IsRead name before app serial v e

abbrev pub ReadsDue : List ℕ → ℕ → ℕ → List Entry → Entry → List Entry → Type 0
ReadsDue name reader app before (got (Reader r) (App a) serial) behind = r ≡ reader → a ≡ app
    → ReadsAt name r a before serial
ReadsDue name reader app before (gone r a) behind =
    r ≡ reader → a ≡ app → (k : Kept) → held before reader app ≡ Some k → (v : Forest Row)
    → (followed name before reader app).view ≡ Some v → closing_lines v ≡ closing_says (as_of before app k.last)
ReadsDue name reader app before entry behind = Unit {0}

abbrev pub LinesAreRead : Type 0
LinesAreRead =
    (script : List Line) (trace : List Entry) → CanAllStand script → Begun script trace
    → (after_all (begins script) trace).owing ≡ []
    → (name : List ℕ) (reader app : ℕ) → IsItsName trace app name → Everywhere (ReadsDue name reader app) trace
