-- What a reader holds of an application, folded from what it took of it.
use Rattle.std.specs.Prelude.{◌≡◌, ◌↔◌, ℕ, ◌==◌, ◌&&◌, List, [], ◌∷◌, ◌++◌, Option, None, Some, option_map, slice_get}
use Rattle.std.specs.Prelude.{if◌then◌else◌}
use Rattle.atspi_tree_model.specs.declared.news.News.{News}
use Rattle.atspi_tree_model.specs.declared.view.Row.{Row}
use Rattle.atspi_tree_model.specs.Forest.{Forest}
use Rattle.atspi_tree_model.specs.News.{load, effect}
use Rattle.atspi_tree_model.specs.Path.{path_of}
use Rattle.atspi_message.specs.Envelope.{Envelope}
use Rattle.atspi_script_lines.specs.declared.line.Line.{Line}
use Rattle.atspi_script_lines.specs.declared.line.Party.TheVariants.{App, Reader}
use Rattle.atspi_protocol.specs.declared.following.question.Question.{Question}
use Rattle.atspi_protocol.specs.declared.following.question.Question.TheVariants.{GetItems, GetPart}
use Rattle.atspi_protocol.specs.news.NewsOf.{news_of}
use Rattle.atspi_protocol.specs.news.Replies.{items_told, part_told}
use Rattle.atspi_protocol.specs.following.ReaderState.{ReaderState}
use Rattle.atspi_protocol.specs.following.Takes.{held_view, last_taken}
use Rattle.atspi_trace.specs.Entry.{Entry, got, gone}
use Rattle.atspi_trace.specs.play.Playing.{Playing}
use Rattle.atspi_trace.specs.play.Played.{IsPlayed}
use Rattle.atspi_trace_laws.specs.laws.Words.{message, answers_question, name_in, Kept, held}
use Rattle.atspi_trace_laws.specs.order.Scripts.{CanAllStand}

-- news change a view, where there is one and there are some
abbrev pub with_news : List ℕ → Option News → Option (Forest Row) → Option (Forest Row)
with_news name None view = view
with_news name (Some news) view = option_map (λ v. effect (path_of 0) name v news) view

-- A return is read by the own call that it answers: to a call for items it loads them, and to a call for a part it
-- tells that part.
abbrev pub with_reply : List ℕ → Option Question → Envelope → Option (Forest Row) → Option (Forest Row)
with_reply name (Some (GetItems asked)) e view = option_map (λ items. load (path_of 0) name items) (items_told e)
with_reply name (Some (GetPart asked path part)) e view = with_news name (part_told part path e) view
with_reply name question e view = view

-- each message is then read as news
abbrev pub with_message : List ℕ → Option Question → Option Envelope → Option (Forest Row) → Option (Forest Row)
with_message name question None view = view
with_message name question (Some e) view = with_news name (Some (news_of name e)) (with_reply name question e view)

-- entry by entry: a message of the application that the reader took, and that it told of the application's end
abbrev pub view_after : List ℕ → List Entry → ℕ → ℕ → Option (Forest Row) → Entry → Option (Forest Row)
view_after name before reader app view (got (Reader r) (App a) serial) =
    if r == reader && a == app
    then with_message name (answers_question before reader (message before (App app) serial))
    (message before (App app) serial) view else view
view_after name before reader app view (gone r a) = if r == reader && a == app then None else view
view_after name before reader app view entry = view

abbrev pub view_on : List ℕ → List Entry → ℕ → ℕ → Option (Forest Row) → List Entry → Option (Forest Row)
view_on name before reader app view [] = view
view_on name before reader app view (entry ∷ entries) =
    view_on name (before ++ entry ∷ []) reader app (view_after name before reader app view entry) entries

-- THE FOLD over a whole trace, of an application with this unique name. Before the first load there is nothing, so that
-- it is the last load and what was taken since.
abbrev pub view_folded : List ℕ → List Entry → ℕ → ℕ → Option (Forest Row)
view_folded name trace reader app = view_on name [] reader app None trace

-- WHAT A READER HOLDS of an application: the fold; and nothing exactly where the trace says that nothing is held
pub record IsFold (trace : List Entry) (reader app : ℕ) (name : List ℕ) (s : ReaderState) : Type 0 where
  pub view : held_view s name ≡ view_folded name trace reader app
  pub nothing : (held_view s name ≡ None) ↔ (held trace reader app ≡ None)

-- so of each application that has a name; and of a name that no application has it holds nothing
pub record HoldsFolds (trace : List Entry) (reader : ℕ) (s : ReaderState) : Type 0 where
  pub each : (app : ℕ) (name : List ℕ) → name_in trace (App app) ≡ Some name → IsFold trace reader app name s
  pub others : (name : List ℕ) → ((app : ℕ) → name_in trace (App app) ≡ Some name → ⊥) → held_view s name ≡ None

-- THE SERIAL THAT IT LENDS is that of the last message taken of an application that it holds, and none of another
abbrev pub LendsLast : List Entry → ℕ → ReaderState → Type 0
LendsLast trace reader s =
    (app : ℕ) (name : List ℕ) → name_in trace (App app) ≡ Some name
    → last_taken s name ≡ option_map (λ (k : Kept). k.last) (held trace reader app)

-- SO DOES EACH READER that was started, by its number, behind lines that were played
abbrev pub ReadersAreFolds : Type 0
ReadersAreFolds =
    (lines : List Line) (trace : List Entry) (p : Playing) → CanAllStand lines → IsPlayed lines trace p
    → (reader : ℕ) (s : ReaderState) → slice_get p.readers reader ≡ Some s → HoldsFolds trace reader s

abbrev pub ReadersLendTheLast : Type 0
ReadersLendTheLast =
    (lines : List Line) (trace : List Entry) (p : Playing) → CanAllStand lines → IsPlayed lines trace p
    → (reader : ℕ) (s : ReaderState) → slice_get p.readers reader ≡ Some s → LendsLast trace reader s
