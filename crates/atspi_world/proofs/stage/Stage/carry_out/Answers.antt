use Rattle.std.proofs.Common.{Err, sym, ap, ◌∙◌}
use Rattle.atspi_trace.specs.play.Played.{refused}
use Rattle.atspi_world_parties.specs.Refusals.{first_refusal}
use Rattle.atspi_world.proofs.Lined.{line_else}
use Rattle.atspi_world_parties.proofs.Faults.{err_is}
use Rattle.atspi_world.proofs.Faults.{was_lost, was_spent}
use Rattle.atspi_world.proofs.Halted.{with_told}
use Rattle.atspi_world.proofs.LinesHalted.{spent_as}
use Rattle.atspi_world.proofs.stage.Stage.carry_out.Goals as goal

pub returns-in-Ok-clause-does : goal.returns-in-Ok-clause-does
returns-in-Ok-clause-does g c = line_else c.args.line.now _ _ c.in_default.not-Edit c.in_default.not-Call c.in-Ok.ensures.does

pub returns-in-Edit-clause-refused : goal.returns-in-Edit-clause-refused
returns-in-Edit-clause-refused g c = λ why is p playing free. ap (refused p) c.in-Edit.is ∙ c.ask_edit.ensures.refused why is p playing (ap (first_refusal p.world) (sym c.in-Edit.is) ∙ free)

pub returns-in-Call-clause-refused : goal.returns-in-Call-clause-refused
returns-in-Call-clause-refused g c = λ why is p playing free. ap (refused p) c.in-Call.is ∙ c.ask_call.ensures.refused why is p playing (ap (first_refusal p.world) (sym c.in-Call.is) ∙ free)

pub returns-in-Err-clause-lost : goal.returns-in-Err-clause-lost
returns-in-Err-clause-lost g c = λ is. c.in-Err.ensures.lost (ap Err (was_lost c.in-Err.halt (sym c.from.ensures ∙ err_is c.from.result _ is)))

pub returns-in-Err-clause-spent : goal.returns-in-Err-clause-spent
returns-in-Err-clause-spent g c = λ is. c.in-Err.ensures.spent (ap Err (was_spent c.in-Err.halt (sym c.from.ensures ∙ err_is c.from.result _ is)))

pub returns-in-Call-clause-spent : goal.returns-in-Call-clause-spent
returns-in-Call-clause-spent g c = λ is p playing free. spent_as c.args.line.now _ _ (with_told playing c.ask_call.new.self.carrier.posts.items c.ask_call.new.self.carrier.trace.items) c.in-Call.is (c.ask_call.ensures.spent is) p playing free

pub returns-in-Edit-clause-spent : goal.returns-in-Edit-clause-spent
returns-in-Edit-clause-spent g c = λ is p playing free. spent_as c.args.line.now _ _ (with_told playing c.ask_edit.new.self.carrier.posts.items c.ask_edit.new.self.carrier.trace.items) c.in-Edit.is (c.ask_edit.ensures.spent is) p playing free
