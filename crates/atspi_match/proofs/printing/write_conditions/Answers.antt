use Rattle.std.proofs.Common.{◌≡◌, ◌≤◌, ◌<◌, ◌++◌, ◌∷◌, [], take, length, sym, ap, ◌∙◌, arith, append_assoc, append-nil}
use Rattle.atspi_match.specs.Printed.{printed, printed_condition}
use Rattle.atspi_match.proofs.AgainLemmas.{take_first, take_next, take_none}
use Rattle.atspi_match.proofs.printing.write_conditions.Goals as goal
use Rattle.atspi_match.proofs.printing.write_conditions.Goals.{then-i-gt0+in_ok-push, else-i-gt0}

pub loop-i-preserved : goal.loop-i-preserved
loop-i-preserved c =
    let item = c.index-conditions-i.result in
    let front = printed (take c.loop-i.i c.args.conditions.now) in
    c.in_ok-write_condition.ensures.ok ∙ elim c.if-i-gt0.branch [
      | then-i-gt0+in_ok-push w ↦ ap (λ o. o ++ printed_condition item) (w.out-is ∙ w.in_ok-push.ensures.ok ∙ ap (λ o. o ++ 44 ∷ []) c.loop-i.invariant ∙ append_assoc c.args.out.now front (44 ∷ []))
          ∙ append_assoc c.args.out.now (front ++ 44 ∷ []) (printed_condition item) ∙ ap (λ l. c.args.out.now ++ l) (append_assoc front (44 ∷ []) (printed_condition item) ∙ sym (take_next c.args.conditions.now c.loop-i.i item w.if-i-gt0.true c.loop-i-test.true c.index-conditions-i.is))
      | else-i-gt0 w ↦ ap (λ o. o ++ printed_condition item) (w.out-is ∙ c.loop-i.invariant ∙ ap (λ l. c.args.out.now ++ l) (take_none c.args.conditions.now c.loop-i.i w.if-i-gt0.false) ∙ append-nil c.args.out.now)
          ∙ ap (λ l. c.args.out.now ++ l) (sym (take_first c.args.conditions.now c.loop-i.i item w.if-i-gt0.false c.loop-i-test.true c.index-conditions-i.is))
    ]
