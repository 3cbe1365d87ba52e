use Rattle.std.proofs.Common.{[], ◌∷◌, sym, ◌∙◌, inl, inr}
use Rattle.atspi_auth.specs.Talk.{fault_in}
use Rattle.atspi_live_bus.proofs.Conversing.{begins}
use Rattle.atspi_live_bus_examples.proofs.Facts.{some_byte}
use Rattle.atspi_live_bus_examples.proofs.Kept.{faulty, is_over, none_given, none_held, none_told, none_waits, nothing_handed, some_line}
use Rattle.atspi_live_bus_examples.proofs.keeping.talks_of_links.Goals as goal

pub returns-clause-new : goal.returns-clause-new
returns-clause-new c l s server feeder out = begins l server feeder out

pub returns-clause-over : goal.returns-clause-over
returns-clause-over c l talks o = is_over [] [] [] l talks o

pub returns-clause-held : goal.returns-clause-held
returns-clause-held c l talks e = none_held l talks e

pub returns-clause-message : goal.returns-clause-message
returns-clause-message c l e talks = none_told e [] [] l talks

pub returns-clause-waits : goal.returns-clause-waits
returns-clause-waits c l talks e = none_waits [] [] l talks e

pub returns-clause-given : goal.returns-clause-given
returns-clause-given c l talks = none_given [] [] l talks

pub returns-clause-handed_early : goal.returns-clause-handed_early
returns-clause-handed_early c l talks = some_byte 7 [] (nothing_handed [] (7 ∷ []) (7 ∷ []) l talks)

pub returns-clause-line_left : goal.returns-clause-line_left
returns-clause-line_left c l t g line talks e = elim talks.order [ inl n ↦ some_byte 7 [] n | inr o ↦ some_line line (sym e ∙ o.1) ]

pub returns-clause-at_fault : goal.returns-clause-at_fault
returns-clause-at_fault c l t g talks e = faulty (fault_in l.server.stage) e talks.no_fault
