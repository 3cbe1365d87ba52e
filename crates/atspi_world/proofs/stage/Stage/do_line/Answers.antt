use Rattle.std.proofs.lemmas.Result.{on_ok_weaker}
use Rattle.atspi_world.proofs.Halted.{with_told}
use Rattle.atspi_world.proofs.Lined.{line_app, line_rest, line_reader, line_swap, line_exit, line_leave, line_quota, line_show, line_turns, line_drain, line_bytes}
use Rattle.atspi_world.proofs.LinesHalted.{bytes_lost, bytes_spent, turns_lost, turns_spent, drain_lost, drain_spent}
use Rattle.atspi_world.proofs.stage.Stage.do_line.Goals as goal

pub returns-in-Quota-clause-does : goal.returns-in-Quota-clause-does
returns-in-Quota-clause-does g c = on_ok_weaker c.renew.result (line_quota c.args.line.now _ _ c.in-Quota.quota c.in-Quota.is c.requires.may) c.renew.ensures.does

pub returns-in-App-clause-does : goal.returns-in-App-clause-does
returns-in-App-clause-does g c = on_ok_weaker c.start_app.result (line_app c.args.line.now _ _ c.in-App.name c.in-App.is) c.start_app.ensures.does

pub returns-in-Reader-clause-does : goal.returns-in-Reader-clause-does
returns-in-Reader-clause-does g c = on_ok_weaker c.start_reader.result (line_reader c.args.line.now _ _ c.in-Reader.is) c.start_reader.ensures.does

pub returns-in_ok-swap-in-Swap-clause-does : goal.returns-in_ok-swap-in-Swap-clause-does
returns-in_ok-swap-in-Swap-clause-does g c = line_swap c.args.line.now _ _ c.in-Swap.app c.in-Swap.is c.in_ok-swap-in-Swap.ensures.does

pub returns-in_ok-exit_of-in-Exit-clause-does : goal.returns-in_ok-exit_of-in-Exit-clause-does
returns-in_ok-exit_of-in-Exit-clause-does g c = line_exit c.args.line.now _ _ c.in-Exit.app c.in-Exit.is c.in_ok-exit_of-in-Exit.ensures.does

pub returns-in_ok-exit_of-in-Leave-clause-does : goal.returns-in_ok-exit_of-in-Leave-clause-does
returns-in_ok-exit_of-in-Leave-clause-does g c = line_leave c.args.line.now _ _ c.in-Leave.reader c.in-Leave.is c.in_ok-exit_of-in-Leave.ensures.does

pub returns-in-Bytes-clause-does : goal.returns-in-Bytes-clause-does
returns-in-Bytes-clause-does g c = on_ok_weaker c.move_bytes.result (line_bytes c.args.line.now _ _ c.in-Bytes.party c.in-Bytes.up c.in-Bytes.count c.in-Bytes.is) c.move_bytes.ensures.does

pub returns-in-Turns-clause-does : goal.returns-in-Turns-clause-does
returns-in-Turns-clause-does g c = on_ok_weaker c.make_turns.result (line_turns c.args.line.now _ _ c.in-Turns.count c.in-Turns.is) c.make_turns.ensures.does

pub returns-in-Drain-clause-does : goal.returns-in-Drain-clause-does
returns-in-Drain-clause-does g c = on_ok_weaker c.drain.result (line_drain c.args.line.now _ _ c.in-Drain.is) c.drain.ensures.does

pub returns-in_ok-show_of-in-Show-clause-does : goal.returns-in_ok-show_of-in-Show-clause-does
returns-in_ok-show_of-in-Show-clause-does g c = line_show c.args.line.now _ _ c.in-Show.reader c.in-Show.app c.in-Show.is c.in_ok-show_of-in-Show.ensures.does

pub returns-in-Blank-clause-does : goal.returns-in-Blank-clause-does
returns-in-Blank-clause-does g c = line_rest c.args.line.now _ c.in-Blank.is

pub returns-in-Bytes-clause-lost : goal.returns-in-Bytes-clause-lost
returns-in-Bytes-clause-lost g c = λ is p playing free. bytes_lost c.args.line.now _ (with_told playing c.move_bytes.new.self.carrier.posts.items c.move_bytes.new.self.carrier.trace.items) c.in-Bytes.party c.in-Bytes.up c.in-Bytes.count c.in-Bytes.is (c.move_bytes.ensures.lost is) p playing free

pub returns-in-Bytes-clause-spent : goal.returns-in-Bytes-clause-spent
returns-in-Bytes-clause-spent g c = λ is p playing free. bytes_spent c.args.line.now _ (with_told playing c.move_bytes.new.self.carrier.posts.items c.move_bytes.new.self.carrier.trace.items) c.in-Bytes.party c.in-Bytes.up c.in-Bytes.count c.in-Bytes.is (c.move_bytes.ensures.spent is) p playing free

pub returns-in-Turns-clause-lost : goal.returns-in-Turns-clause-lost
returns-in-Turns-clause-lost g c = λ is p playing free. turns_lost c.args.line.now _ (with_told playing c.make_turns.new.self.carrier.posts.items c.make_turns.new.self.carrier.trace.items) c.in-Turns.count c.in-Turns.is (c.make_turns.ensures.lost is) p playing free

pub returns-in-Turns-clause-spent : goal.returns-in-Turns-clause-spent
returns-in-Turns-clause-spent g c = λ is p playing free. turns_spent c.args.line.now _ (with_told playing c.make_turns.new.self.carrier.posts.items c.make_turns.new.self.carrier.trace.items) c.in-Turns.count c.in-Turns.is (c.make_turns.ensures.spent is) p playing free

pub returns-in-Drain-clause-lost : goal.returns-in-Drain-clause-lost
returns-in-Drain-clause-lost g c = λ is p playing free. drain_lost c.args.line.now _ (with_told playing c.drain.new.self.carrier.posts.items c.drain.new.self.carrier.trace.items) c.in-Drain.is (c.drain.ensures.lost is) p playing free

pub returns-in-Drain-clause-spent : goal.returns-in-Drain-clause-spent
returns-in-Drain-clause-spent g c = λ is p playing free. drain_spent c.args.line.now _ (with_told playing c.drain.new.self.carrier.posts.items c.drain.new.self.carrier.trace.items) c.in-Drain.is (c.drain.ensures.spent is) p playing free
