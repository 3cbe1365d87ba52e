use Rattle.std.proofs.lemmas.Grind.{common_steps}
use Rattle.std.proofs.Common.{Err, None, Some, map, refl, sym, ap, ◌∙◌, subst, arith}
use Rattle.atspi_bus_steps.specs.InnerBus.{inner_of}
use Rattle.atspi_world_moves.proofs.Ties.{post_is}
use Rattle.std.proofs.lemmas.Option.{get_or_from_slice_get, slice_get_within}
use Rattle.atspi_trace.specs.Work.{name_of, not_held}
use Rattle.atspi_world_parties.specs.Doing.{CallsAt}
use Rattle.atspi_world_parties.specs.Asked.{CallSpends, CallIsRefused}
use Rattle.atspi_world.proofs.Calling.{call_world}
use Rattle.atspi_world.proofs.Reasons.{call_why}
use Rattle.atspi_world_parties.proofs.Queued.{written_back, tells_reader_as}
use Rattle.atspi_world_parties.proofs.ElementsSpent.{call_accepted}
use Rattle.atspi_world_parties.proofs.Faults.{given_is}
use Rattle.atspi_world.proofs.Faults.{call_was_spent}
use Rattle.atspi_world.proofs.Spending.{call_spent}
use Rattle.atspi_world.proofs.stage.Stage.call.Goals as goal

pub returns-clause-does : goal.returns-clause-does
returns-clause-does g c = λ p e is there at.
    let s = c.args.self.now in
    let follower = g.R.Follower.follower in
    call_world p c.args.conn c.args.reader e c.index.result.now c.args.node c.args.deed.now _ _ (map follower c.call_at.new.readers) is there
    (post_is p.world (inner_of s.carrier.bus) s.carrier.posts.items c.args.callee e c.index.result.now is.is.carried at c.index.ensures)
    (subst (λ l. CallsAt (map follower l) (map follower c.call_at.new.readers) c.args.reader c.index.result.now.name c.args.node c.args.deed.now) c.deref_mut.ensures.value c.in_ok-call_at.ensures.called)
    (tells_reader_as _ _ _ _ _ _ _ _ c.args.reader c.args.conn _ _ (ap (map follower) (c.deref_mut-2.ensures.value ∙ written_back _ c.call_at.new.readers _ (omega arith)))
    (ap (map follower) (sym (written_back _ c.tell_reader_at.new.readers _ (omega arith))))
    c.deref_mut-3.ensures.value (sym (written_back _ c.tell_reader_at.new.posts _ (omega arith))) c.in_ok-tell_reader_at.ensures.told) refl refl refl (record { registry = refl; kits = refl; spares = refl })

pub returns-clause-accepts : goal.returns-clause-accepts
returns-clause-accepts g c = λ post at.
    let s = c.args.self.now in
    let follower = g.R.Follower.follower in
    subst (λ q. CallIsRefused None (map follower s.cast.readers.items) c.args.reader q.name) (c.index.ensures ∙ get_or_from_slice_get s.carrier.posts.items c.args.callee post c.index.result.now at)
    (subst (λ l. CallIsRefused None (map follower l) c.args.reader c.index.result.now.name) c.deref_mut.ensures.value c.in_ok-call_at.ensures.accepts)

pub returns-then-place-len-clause-accepts : goal.returns-then-place-len-clause-accepts
returns-then-place-len-clause-accepts g c = λ post at.
    let within = slice_get_within c.args.self.now.carrier.posts.items c.args.callee post at in
    absurd (omega (arith, within, c.if-place-len.true, c.len.ensures))

pub returns-in_err-call_at-clause-refused : goal.returns-in_err-call_at-clause-refused
returns-in_err-call_at-clause-refused g c = λ why is post at.
    let s = c.args.self.now in
    let follower = g.R.Follower.follower in
    call_why c.in_err-call_at.field-0.0 c.from_residual.result why (λ o. CallIsRefused o (map follower s.cast.readers.items) c.args.reader post.name) c.from_residual.ensures.1 is
    (λ e. subst (λ q. CallIsRefused (Some not_held) (map follower s.cast.readers.items) c.args.reader q.name) (c.index.ensures ∙ get_or_from_slice_get s.carrier.posts.items c.args.callee post c.index.result.now at)
    (subst (λ l. CallIsRefused (Some not_held) (map follower l) c.args.reader c.index.result.now.name) c.deref_mut.ensures.value (c.in_err-call_at.ensures.not_held (ap Err e))))

pub returns-in_err-call_at-clause-allowed : goal.returns-in_err-call_at-clause-allowed
returns-in_err-call_at-clause-allowed g c = λ is post at.
    let s = c.args.self.now in
    let follower = g.R.Follower.follower in
    let fault = call_was_spent c.in_err-call_at.field-0.0 (given_is c.from_residual.result _ _ c.from_residual.ensures.1 is) in
    subst (λ q. CallIsRefused None (map follower s.cast.readers.items) c.args.reader q.name) (c.index.ensures ∙ get_or_from_slice_get s.carrier.posts.items c.args.callee post c.index.result.now at)
    (call_accepted (map follower s.cast.readers.items) c.args.reader c.args.node c.index.result.now.name c.args.deed.now
    (subst (λ l. CallSpends (map follower l) c.args.reader c.index.result.now.name c.args.node c.args.deed.now) c.deref_mut.ensures.value (c.in_err-call_at.ensures.spent (ap Err fault))))

pub returns-in_err-call_at-clause-spent : goal.returns-in_err-call_at-clause-spent
returns-in_err-call_at-clause-spent g c = λ is p e playing there at.
    let follower = g.R.Follower.follower in
    let fault = call_was_spent c.in_err-call_at.field-0.0 (given_is c.from_residual.result _ _ c.from_residual.ensures.1 is) in
    call_spent p c.args.conn c.args.reader (name_of (Some e)) c.index.result.now.name c.args.node c.args.deed.now _ _ playing there
    (subst (λ l. CallSpends (map follower l) c.args.reader c.index.result.now.name c.args.node c.args.deed.now) c.deref_mut.ensures.value (c.in_err-call_at.ensures.spent (ap Err fault))) refl refl

pub returns-in_err-call_at-clause-stage : goal.returns-in_err-call_at-clause-stage
returns-in_err-call_at-clause-stage g c = grind (arith, common_steps)

pub returns-in_err-call_at-clause-nothing : goal.returns-in_err-call_at-clause-nothing
returns-in_err-call_at-clause-nothing g c = grind (arith, common_steps)

pub tell_reader_at-requires : goal.tell_reader_at-requires
tell_reader_at-requires g c = grind (arith, common_steps)

pub returns-in_err-tell_reader_at-clause-stage : goal.returns-in_err-tell_reader_at-clause-stage
returns-in_err-tell_reader_at-clause-stage g c = grind (arith, common_steps)

pub returns-clause-stage : goal.returns-clause-stage
returns-clause-stage g c = grind (arith, common_steps)
