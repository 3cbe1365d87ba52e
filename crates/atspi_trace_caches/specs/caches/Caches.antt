-- What a reader makes of the messages that it took of an application, read off a trace with the reader's own
-- definitions.
use Rattle.std.specs.Prelude.{ℕ, ◌==◌, ◌&&◌, List, [], ◌∷◌, ◌++◌, Option, None, Some, if◌then◌else◌}
use Rattle.atspi_tree_model.specs.declared.news.Item.{Item}
use Rattle.atspi_tree_model.specs.declared.news.News.{News}
use Rattle.atspi_tree_model.specs.Path.{path_of}
use Rattle.atspi_script_lines.specs.declared.line.Party.TheVariants.{App, Reader}
use Rattle.atspi_message.specs.Envelope.{Envelope}
use Rattle.atspi_protocol.specs.declared.news.part.PartName.{PartName}
use Rattle.atspi_protocol.specs.declared.following.question.Question.{Question}
use Rattle.atspi_protocol.specs.declared.following.question.Question.TheVariants.{GetItems, GetPart}
use Rattle.atspi_protocol.specs.news.NewsOf.{news_of}
use Rattle.atspi_protocol.specs.news.Replies.{items_told, part_told}
use Rattle.atspi_protocol.specs.following.ReaderState.{Followed}
use Rattle.atspi_protocol.specs.following.Known as known
use Rattle.atspi_protocol.specs.following.Replied.{loaded, told_part, refused_part}
use Rattle.atspi_protocol.specs.following.Takes.{noted, folded}
use Rattle.atspi_trace.specs.Entry.{Entry, got, gone}
use Rattle.atspi_trace_laws.specs.laws.Words.{message, answers_question}

-- an application of this name, before all of it was told
abbrev pub unasked : List ℕ → Followed
unasked name = known.unasked (record { bus = name; path = path_of 0 })

-- a return to a call for all items loads what it tells; one that tells none leaves nothing
abbrev pub with_items : Option (List Item) → Followed → Followed
with_items None app = record app { view = None }
with_items (Some items) app = loaded items app

-- a return to a call for a part
abbrev pub with_part : List ℕ → PartName → Option News → Followed → Followed
with_part path part None app = refused_part path part app
with_part path part (Some news) app = told_part news app

-- a return is read by the own call that it answers
abbrev pub replied : Option Question → Envelope → Followed → Followed
replied (Some (GetItems name)) e app = with_items (items_told e) app
replied (Some (GetPart name path part)) e app = with_part path part (part_told part path e) app
replied question e app = app

-- What a reader does with a message of the application: its serial is noted, it is taken as a return, and as news.
abbrev pub reads : Option Question → Envelope → Followed → Followed
reads question e app = folded (news_of app.name e) (replied question e (noted e.serial app))

abbrev pub reads_if : Option Question → Option Envelope → Followed → Followed
reads_if question None app = app
reads_if question (Some e) app = reads question e app

-- entry by entry: a message that it took of the application, and the news that the application ended
abbrev pub follows_after : List Entry → ℕ → ℕ → Followed → Entry → Followed
follows_after before reader app f (got (Reader r) (App a) serial) =
    if r == reader && a == app
    then reads_if (answers_question before reader (message before (App app) serial))
    (message before (App app) serial) f else f
follows_after before reader app f (gone r a) = if r == reader && a == app then unasked f.name else f
follows_after before reader app f entry = f

abbrev pub follows_on : List Entry → ℕ → ℕ → Followed → List Entry → Followed
follows_on before reader app f [] = f
follows_on before reader app f (entry ∷ entries) =
    follows_on (before ++ entry ∷ []) reader app (follows_after before reader app f entry) entries

-- WHAT A READER HAS OF AN APPLICATION behind a trace, where it knows the application by this name
abbrev pub followed : List ℕ → List Entry → ℕ → ℕ → Followed
followed name trace reader app = follows_on [] reader app (unasked name) trace
