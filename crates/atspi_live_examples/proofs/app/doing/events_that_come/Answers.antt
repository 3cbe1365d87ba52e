use Rattle.std.proofs.Common.{◌≡◌, Option, None, Some, refl, sym}
use Rattle.std.specs.Prelude.{codes}
use Rattle.atspi_protocol.specs.exporting.Exporter.{Exporter, begins}
use Rattle.atspi_protocol.specs.exporting.Starting.{starts}
use Rattle.atspi_protocol.specs.exporting.Taking.{app_takes}
use Rattle.atspi_live_app.specs.Asking.{IsAsk}
use Rattle.atspi_live_app.specs.Standing.{Does}
use Rattle.atspi_live_app.specs.declared.asking.Ask.{Ask}
use Rattle.atspi_live_app.specs.declared.asking.Ask.TheVariants as asks
use Rattle.atspi_live_examples.proofs.OfApp.Asked.{comment, empty, not_blank, some_is, started}
use Rattle.atspi_live_examples.proofs.app.doing.events_that_come.Goals as goal

pub returns-clause-blank : goal.returns-clause-blank
returns-clause-blank c = (asks.Nothing, empty, refl)

pub returns-clause-comment : goal.returns-clause-comment
returns-clause-comment c s = (asks.Nothing, comment, refl)

pub returns-clause-start : goal.returns-clause-start
returns-clause-start c = started

none_apart : {s : Exporter} → ◌≡◌ {A = Option Exporter} None (Some s) → ⊥
none_apart h = cc

pub returns-clause-wait_first : goal.returns-clause-wait_first
returns-clause-wait_first c h = by h.0 h.1 h.2
  where
    by : (what : Ask) → IsAsk what (codes "wait 2") → Does None what None → ⊥
    by asks.Nothing asked done = not_blank asked
    by (asks.Start name) asked done = none_apart done.1
    by (asks.Edit edit) asked done = done
    by (asks.Wait n) asked done = done

pub returns-clause-other : goal.returns-clause-other
returns-clause-other c s t e differ h = differ (some_is h)

pub returns-clause-none : goal.returns-clause-none
returns-clause-none c s = refl

pub returns-clause-none_made : goal.returns-clause-none_made
returns-clause-none_made c s h = none_apart (sym h)

pub returns-clause-two : goal.returns-clause-two
returns-clause-two c s e f = (Some (app_takes s e), refl, (Some (app_takes (app_takes s e) f), refl, refl))

pub returns-clause-start_then : goal.returns-clause-start_then
returns-clause-start_then c e = (Some (starts (begins (codes "T"))), started, (Some (app_takes (starts (begins (codes "T"))) e), refl, refl))

pub returns-clause-start_later : goal.returns-clause-start_later
returns-clause-start_later c e = (None, refl, (Some (starts (begins (codes "T"))), started, refl))
