use Rattle.std.proofs.Common.{Some, subst}
use Rattle.std.proofs.lemmas.Result.{on_ok_weaker}
use Rattle.atspi_world.proofs.Halted.{with_told}
use Rattle.atspi_world.proofs.Lining.{Finds, find_none}
use Rattle.atspi_world.proofs.Moved.{bytes_none, bytes_up_some, bytes_down_some}
use Rattle.atspi_world.proofs.LinesHalted.{up_line_lost, up_line_spent, down_line_spent}
use Rattle.atspi_world.proofs.stage.Stage.move_bytes.Goals as goal

pub returns-in_default-clause-does : goal.returns-in_default-clause-does
returns-in_default-clause-does g c =
    bytes_none c.args.who c.args.up c.args.count _ _ (find_none c.conn_of.result c.args.who _ c.in_default.not-Some (subst (Finds c.conn_of.result c.args.who) c.deref.ensures.value c.conn_of.ensures))

pub returns-then-up-clause-does : goal.returns-then-up-clause-does
returns-then-up-clause-does g c =
    on_ok_weaker c.move_up.result (bytes_up_some c.args.who c.args.up c.args.count c.in-Some.conn _ _ c.if-up.true (subst (Finds (Some c.in-Some.conn) c.args.who) c.deref.ensures.value c.in-Some.ensures)) c.move_up.ensures.does

pub returns-clause-does : goal.returns-clause-does
returns-clause-does g c =
    on_ok_weaker c.move_down.result (bytes_down_some c.args.who c.args.up c.args.count c.in-Some.conn _ _ c.if-up.false (subst (Finds (Some c.in-Some.conn) c.args.who) c.deref.ensures.value c.in-Some.ensures)) c.move_down.ensures.does

pub returns-then-up-clause-lost : goal.returns-then-up-clause-lost
returns-then-up-clause-lost g c = λ is p playing free. up_line_lost c.args.who c.args.up c.args.count c.in-Some.conn _ (with_told playing c.move_up.new.self.carrier.posts.items c.move_up.new.self.carrier.trace.items) (subst (Finds (Some c.in-Some.conn) c.args.who) c.deref.ensures.value c.in-Some.ensures) c.if-up.true (c.move_up.ensures.lost is) p playing free

pub returns-then-up-clause-spent : goal.returns-then-up-clause-spent
returns-then-up-clause-spent g c = λ is p playing free. up_line_spent c.args.who c.args.up c.args.count c.in-Some.conn _ (with_told playing c.move_up.new.self.carrier.posts.items c.move_up.new.self.carrier.trace.items) (subst (Finds (Some c.in-Some.conn) c.args.who) c.deref.ensures.value c.in-Some.ensures) c.if-up.true (c.move_up.ensures.spent is) p playing free

pub returns-clause-spent : goal.returns-clause-spent
returns-clause-spent g c = λ is p playing free. down_line_spent c.args.who c.args.up c.args.count c.in-Some.conn _ (with_told playing c.move_down.new.self.carrier.posts.items c.move_down.new.self.carrier.trace.items) (subst (Finds (Some c.in-Some.conn) c.args.who) c.deref.ensures.value c.in-Some.ensures) c.if-up.false (c.move_down.ensures.spent is) p playing free
