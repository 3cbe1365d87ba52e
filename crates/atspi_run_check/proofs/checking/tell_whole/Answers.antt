use Rattle.std.proofs.Common.{ℕ, ◌-◌, ◌++◌, subst, ◌∙◌, arith}
use Rattle.atspi_base.specs.Outside.{AppendsPart}
use Rattle.atspi_message_in_place.specs.View.{envelope_at}
use Rattle.atspi_run_check.specs.Check.{message_line}
use Rattle.atspi_run_check.specs.inner.Taking.{Puts}
use Rattle.atspi_run_check.proofs.CheckLemmas.{telling_more, telling_part, shorter}
use Rattle.atspi_run_check.proofs.checking.tell_whole.Goals as goal

pub messages-preserved : goal.messages-preserved
messages-preserved g c =
    let new = c.next.follows.lender-at-none in
    let left = rw c.in-Message.is at c.next.follows.holds-at-none in
    let m = left.message in
    let e = envelope_at c.in-Message.message in
    let less = shorter e m.0 c.messages.feeder new m.1 m.2 in
    record {
      telling = telling_more c.args.fed c.args.feeder.now c.messages.feeder new c.args.out.now c.messages.out c.tell.new.out (g.K.Sink.written c.args.sink.now) (g.K.Sink.written c.messages.sink) (g.K.Sink.written c.tell.new.sink) e m.0
          c.messages.invariant.telling c.requires m.1 m.2
          (subst (λ (n : ℕ). Puts c.messages.out c.tell.new.out (g.K.Sink.written c.messages.sink) (g.K.Sink.written c.tell.new.sink) (message_line (c.args.fed - n) e)) c.len.ensures c.in_default.ensures.ok);
      within = omega (arith, less, c.messages.invariant.within);
      steady = c.in_default.ensures.cause ∙ c.messages.invariant.steady;
    }

pub messages-smaller : goal.messages-smaller
messages-smaller g c =
    let new = c.next.follows.lender-at-none in
    let left = rw c.in-Message.is at c.next.follows.holds-at-none in
    let m = left.message in
    shorter (envelope_at c.in-Message.message) m.0 c.messages.feeder new m.1 m.2

pub returns-in-Err-clause-err : goal.returns-in-Err-clause-err
returns-in-Err-clause-err g c =
    let new = c.next.follows.lender-at-none in
    let left = rw c.in-Message.is at c.next.follows.holds-at-none in
    let m = left.message in
    let e = envelope_at c.in-Message.message in
    telling_part c.args.fed c.args.feeder.now c.messages.feeder new c.args.out.now c.messages.out (g.K.Sink.written c.args.sink.now) (g.K.Sink.written c.messages.sink) (g.K.Sink.written c.tell.new.sink) e m.0
    c.messages.invariant.telling c.requires m.1 m.2
    (subst (λ (n : ℕ). AppendsPart (g.K.Sink.written c.messages.sink) (g.K.Sink.written c.tell.new.sink) (c.messages.out ++ message_line (c.args.fed - n) e)) c.len.ensures c.in-Err.ensures.err)
