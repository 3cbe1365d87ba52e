use Rattle.std.proofs.Common.{rules, ◌≡◌, ℕ, cond, sym, ap, ◌∙◌, arith}
use Rattle.atspi_app_known.specs.happenings.inner.Happened.{is_sent}
use Rattle.atspi_app_known.proofs.OfHappenings.Waiting.{sent_by-take}
use Rattle.atspi_app_known.proofs.happenings.queue.count_messages.Goals as goal
use Rattle.atspi_app_known.proofs.happenings.queue.count_messages.Goals.{then-is_message, else-is_message}

pub loop-i-preserved : goal.loop-i-preserved
loop-i-preserved c =
    let step = sent_by-take c.args.events.now.items c.loop-i.i c.index.result.now (search rules) c.index.ensures in
    let so_far = c.loop-i.invariant.so_far in
    let few = c.loop-i.invariant.few in
    elim c.if-is_message.branch [
      | then-is_message w ↦ let one : cond {A = ℕ} (is_sent c.index.result.now) 1 0 ≡ 1 = ap (λ b. cond {A = ℕ} b 1 0) (sym c.is_message.ensures ∙ w.if-is_message.true) in
          let is = w.count-is in
          record { so_far = omega (arith, step, one, so_far, is); few = omega (arith, few, is) }
      | else-is_message w ↦ let none : cond {A = ℕ} (is_sent c.index.result.now) 1 0 ≡ 0 = ap (λ b. cond {A = ℕ} b 1 0) (sym c.is_message.ensures ∙ w.if-is_message.false) in
          let is = w.count-is in
          record { so_far = omega (arith, step, none, so_far, is); few = omega (arith, few, is) }
    ]
