use Rattle.std.proofs.Common.{Err, sym, ap, ◌∙◌, arith}
use Rattle.atspi_world.proofs.DownwardSteps.{moved_none, goes_down, goes_on, goes_no_more, moved_all, is_there, moved_away}
use Rattle.atspi_world_parties.proofs.Faults.{given_is}
use Rattle.atspi_world.proofs.GotMessages.{gets_as}
use Rattle.atspi_world.proofs.Halted.{with_told}
use Rattle.atspi_world.proofs.DownwardHalted.{goes_spent, spends_as}
use Rattle.atspi_world.proofs.stage.Stage.move_down.Goals as goal

pub returns-then-not-is_here-clause-does : goal.returns-then-not-is_here-clause-does
returns-then-not-is_here-clause-does g c = λ p e playing at. moved_away p c.args.conn c.args.most e _ playing at (sym c.is_here.ensures ∙ c.if-not-is_here.true)

pub loop-message-init : goal.loop-message-init
loop-message-init g c = record { stage = c.requires.stage; moved = λ p e playing at stands. (omega arith, moved_none p c.args.conn c.args.most e _ playing at stands) }

pub returns-then-not-branch-clause-does : goal.returns-then-not-branch-clause-does
returns-then-not-branch-clause-does g c = λ p e playing at.
    let so_far = c.loop-message.invariant.moved p e playing at (is_there p c.args.conn e _ playing at (sym c.is_here.ensures ∙ c.if-not-is_here.false)) in
    goes_no_more _ p c.args.conn c.args.most c.loop-message.left _ _ _ c.if-not-branch.true
    (goes_down p c.args.conn c.args.most c.loop-message.left _ _ _ _ _ _ so_far.1 c.in_ok-moved.ensures.brings _
    (gets_as c.args.conn _ _ _ _ _ (ap (λ v. v.items) c.fill.ensures.posts) (ap (λ v. v.items) c.fill.ensures.trace) c.in_ok-get.ensures.got))

pub loop-message-preserved : goal.loop-message-preserved
loop-message-preserved g c = record {
  stage = c.get.ensures.stage;
  moved = λ p e playing at stands.
      let so_far = c.loop-message.invariant.moved p e playing at stands in
      let more = goes_on _ p c.args.conn c.args.most c.loop-message.left _ _ _ c.if-not-branch.false
      (goes_down p c.args.conn c.args.most c.loop-message.left _ _ _ _ _ _ so_far.1 c.in_ok-moved.ensures.brings _
      (gets_as c.args.conn _ _ _ _ _ (ap (λ v. v.items) c.fill.ensures.posts) (ap (λ v. v.items) c.fill.ensures.trace) c.in_ok-get.ensures.got)) in
      (omega (arith, so_far.0, more.1), more.0);
}

pub returns-clause-does : goal.returns-clause-does
returns-clause-does g c = λ p e playing at.
    let so_far = c.loop-message.invariant.moved p e playing at (is_there p c.args.conn e _ playing at (sym c.is_here.ensures ∙ c.if-not-is_here.false)) in
    moved_all p c.args.conn c.args.most c.loop-message.left _ _ (omega (arith, so_far.0)) so_far.1

pub returns-in_err-get-clause-spent : goal.returns-in_err-get-clause-spent
returns-in_err-get-clause-spent g c = λ is p e playing at.
    let so_far = c.loop-message.invariant.moved p e playing at (is_there p c.args.conn e _ playing at (sym c.is_here.ensures ∙ c.if-not-is_here.false)) in
    let fault = ap Err (given_is c.from_residual-in_err-get.result _ _ c.from_residual-in_err-get.ensures.1 is) in
    goes_spent p c.args.conn c.args.most c.loop-message.left _ _ _ _ _ (with_told playing c.get.new.self.carrier.posts.items c.get.new.self.carrier.trace.items) so_far.1 c.in_ok-moved.ensures.brings
    (spends_as c.args.conn _ _ _ _ _ _ _ (ap (λ v. v.items) c.fill.ensures.posts) (ap (λ v. v.items) c.fill.ensures.trace) (c.in_err-get.ensures.spent fault))
    (c.in_err-get.ensures.stays fault ∙ ap (λ v. v.items) c.fill.ensures.posts)
