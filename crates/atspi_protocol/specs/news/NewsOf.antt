-- What a reader reads in a message of an application that it holds.
use Rattle.std.specs.Prelude.{ℕ, ◌==◌, List, [], Option, Some, None, codes, bytes_eq, if◌then◌else◌}
use Rattle.atspi_message.specs.Envelope.{Envelope}
use Rattle.atspi_tree_model.specs.declared.news.News.{News}
use Rattle.atspi_tree_model.specs.declared.news.News.TheVariants.{Nothing}
use Rattle.atspi_protocol.specs.news.Arguments.{Event, event_in}
use Rattle.atspi_protocol.specs.news.Events.{event_news}
use Rattle.atspi_protocol.specs.news.CacheSignals.{cache_news}

-- the interfaces of an application's signals
abbrev pub event_interface : List ℕ
event_interface = codes "org.a11y.atspi.Event.Object"

abbrev pub cache_interface : List ℕ
cache_interface = codes "org.a11y.atspi.Cache"

-- a field of a message, or an empty text where there is none
abbrev pub or_empty : Option (List ℕ) → List ℕ
or_empty None = []
or_empty (Some text) = text

-- the news of an event of a node, whose arguments are there
abbrev pub if_event : List ℕ → Option (List ℕ) → List ℕ → Option Event → News
if_event bus (Some path) member (Some e) = event_news bus path member e
if_event bus path member e = Nothing

-- A signal is read by its interface and member, and an event by its path too; bus is the application's name. Any other
-- message is no news.
abbrev pub news_of : List ℕ → Envelope → News
news_of bus e =
    if e.kind == 4 then
    (if bytes_eq (or_empty e.interface) event_interface then if_event bus e.path (or_empty e.member) (event_in e.body)
    else if bytes_eq (or_empty e.interface) cache_interface then cache_news bus (or_empty e.member) e.body
    else Nothing)
    else Nothing
