use Rattle.std.proofs.Common.{subst}
use Rattle.atspi_names.specs.Queue.{requested, IsRequestAnswer}
use Rattle.atspi_names.specs.Owners.{Owners, list_of}
use Rattle.atspi_names.proofs.BookLemmas.{request-answer}
use Rattle.atspi_names.proofs.OwnersLemmas.{early-well_known}
use Rattle.atspi_names.proofs.names.Names.request.Goals as goal

pub invariant_of-self-2 : goal.invariant_of-self-2
invariant_of-self-2 c =
    early-well_known c.self.inside.given c.self.inside.book c.request.new.self c.args.name.now
    (requested (list_of c.self.inside.book c.args.name.now) c.args.conn c.args.flags).0
    c.self.invariant c.requires.well_known c.in_ok-request.ensures.lists

pub returns-clause-answer : goal.returns-clause-answer
returns-clause-answer c =
    let answered = request-answer c.self.inside.book c.request.new.self c.args.name.now c.args.conn c.args.flags c.in_ok-request.field-0
    c.in_ok-request.ensures.ok c.in_ok-request.ensures.lists in
    subst (λ (o : Owners). IsRequestAnswer c.in_ok-request.field-0.answer c.args.conn (list_of o.lists c.args.name.now) (list_of c.request.new.self c.args.name.now))
    c.self.view_is answered
