use Rattle.std.proofs.Common.{◌≡◌, ◌+◌, ◌-◌, ◌∙◌, subst, arith}
use Rattle.atspi_bus_steps.specs.InnerBus.{inner_of}
use Rattle.atspi_world_moves.specs.Filled.{IsGiven}
use Rattle.atspi_world_moves.proofs.Coming.{none_given, on_err_so}
use Rattle.atspi_world_moves.proofs.Filling.{given_more, given_whole, piece_within, stopped}
use Rattle.atspi_world_moves.proofs.down.fill.Goals as goal

pub pieces-preserved : goal.pieces-preserved
pieces-preserved c =
    let inv = c.pieces.invariant in
    let e = c.in_ok-count.ensures in
    let n = c.in_ok-count.count in
    let a = inner_of c.pieces.bus in
    let b = inner_of c.carry_down.new.bus in
    record {
      state = e.state ∙ inv.state;
      left = (let within = inv.left in omega (arith, within));
      within = λ m rest is all less. piece_within a b c.args.conn n c.pieces.at_end c.carry_down.new.at_end m rest e.gives e.awaited is (inv.whole ∙ all) (inv.within m rest is all less);
      whole = given_whole a b c.args.conn n c.pieces.at_end c.carry_down.new.at_end e.gives ∙ inv.whole;
      rest = λ k bus given more.
          let few = e.most in
          let within = inv.left in
          let sum : c.args.most - c.pieces.left + (n + k) ≡ c.args.most - (c.pieces.left - n) + k = omega (arith, few, within) in
          subst (λ x. IsGiven (inner_of c.args.bus.now) bus c.args.at_end.now given c.args.conn x) sum
          (inv.rest (n + k) bus given (given_more a b bus c.args.conn n k c.pieces.at_end c.carry_down.new.at_end given e.gives more));
    }

pub returns-then-count-eq0-clause-filled : goal.returns-then-count-eq0-clause-filled
returns-then-count-eq0-clause-filled c =
    let inv = c.pieces.invariant in
    let e = c.in_ok-count.ensures in
    let n = c.in_ok-count.count in
    let a = inner_of c.pieces.bus in
    let b = inner_of c.carry_down.new.bus in
    let none : n ≡ 0 = c.if-count-eq0.true in
    let sum : c.args.most - c.pieces.left + n ≡ c.args.most - c.pieces.left = omega (arith, none) in
    record {
      gives = subst (λ x. IsGiven (inner_of c.args.bus.now) b c.args.at_end.now c.carry_down.new.at_end c.args.conn x) sum (inv.rest n b c.carry_down.new.at_end e.gives);
      within = λ m rest is all less. piece_within a b c.args.conn n c.pieces.at_end c.carry_down.new.at_end m rest e.gives e.awaited is (inv.whole ∙ all) (inv.within m rest is all less);
      stops = λ fewer waits awaits. stopped a b c.args.conn n c.pieces.left c.pieces.at_end c.carry_down.new.at_end e.gives none e.some (omega (arith, fewer)) waits awaits;
    }

pub returns-in_err-count-clause-part : goal.returns-in_err-count-clause-part
returns-in_err-count-clause-part c =
    let inv = c.pieces.invariant in
    let same = c.in_err-count.ensures.err in
    let b = inner_of c.carry_down.new.bus in
    on_err_so c.from_residual.result
    (c.args.most - c.pieces.left + 0, inv.rest 0 b c.carry_down.new.at_end (none_given (inner_of c.pieces.bus) b c.args.conn c.pieces.at_end c.carry_down.new.at_end same.0 same.1))
