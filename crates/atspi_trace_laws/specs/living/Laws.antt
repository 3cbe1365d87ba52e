-- Who acts is live.
use Rattle.std.specs.Prelude.{◌≡◌, true, List}
use Rattle.atspi_script_lines.specs.declared.line.Party.TheVariants.{Bus as The_bus}
use Rattle.atspi_trace.specs.Entry.{Entry, sent, got}
use Rattle.atspi_trace_laws.specs.laws.Words.{is_live}
use Rattle.atspi_trace_laws.specs.laws.NineLaws.{Everywhere}
use Rattle.atspi_trace_laws.specs.order.Laws.{OfEachTrace}

-- an end that sends or takes a message was started, and neither stopped nor was dropped
abbrev pub ActsAlive : List Entry → Entry → List Entry → Type 0
ActsAlive before (sent The_bus e) behind = Unit {0}
ActsAlive before (sent who e) behind = is_live before who ≡ true
ActsAlive before (got The_bus sender serial) behind = Unit {0}
ActsAlive before (got taker sender serial) behind = is_live before taker ≡ true
ActsAlive before entry behind = Unit {0}

abbrev pub WhoActsIsLive : Type 0
WhoActsIsLive = OfEachTrace (Everywhere ActsAlive)
