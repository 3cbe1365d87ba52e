-- What news of listeners change.
use Rattle.std.specs.Prelude.{ℕ, List}
use Rattle.atspi_protocol.specs.exporting.Hearing.{Change, unchanged, one_more, one_less}
use Rattle.atspi_app_known.specs.hearing.Lent.{lent_pair}
use Rattle.atspi_app_known.specs.declared.hearing.news.News.{News}
use Rattle.atspi_app_known.specs.declared.hearing.news.News.TheVariants.{Registered, Deregistered, Nothing}

abbrev pub changed_by : News → List (List ℕ × List ℕ) → Change
changed_by (Registered pair) heard = one_more heard (lent_pair pair)
changed_by (Deregistered pair) heard = one_less heard (lent_pair pair)
changed_by Nothing heard = unchanged heard
