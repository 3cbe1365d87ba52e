use Rattle.std.proofs.Common.{sym, ap, ◌∙◌}
use Rattle.atspi_names.specs.declared.change.OwnerChange.{OwnerChange}
use Rattle.atspi_names.proofs.BookLemmas.{kept-requested_free, kept-requested_owned, kept-refused_new, kept-refused, was, was_not}
use Rattle.atspi_names.proofs.book.Book.request.Goals as goal

pub invariant_of-self-then-is_new : goal.invariant_of-self-then-is_new
invariant_of-self-then-is_new c =
    kept-refused_new c.self.inside.standings.sets c.ensure.new.self.sets c.forget.new.self.sets c.self.inside.lists c.request.new.self c.args.conn c.args.name.now
    c.self.invariant (was_not _ _ c.in_ok-is_new.ensures.is_new c.if-is_new.true) c.in_ok-is_new.ensures.ok c.forget.ensures c.in-Err.ensures.err

pub invariant_of-self-else-is_new : goal.invariant_of-self-else-is_new
invariant_of-self-else-is_new c =
    kept-refused c.self.inside.standings.sets c.ensure.new.self.sets c.self.inside.lists c.request.new.self c.args.conn c.args.name.now
    c.self.invariant (was _ _ c.in_ok-is_new.ensures.is_new c.if-is_new.false) c.in_ok-is_new.ensures.ok c.in-Err.ensures.err

pub invariant_of-self-in_default : goal.invariant_of-self-in_default
invariant_of-self-in_default c =
    kept-requested_free c.self.inside.standings.sets c.ensure.new.self.sets c.settle.new.standings.sets c.self.inside.lists c.request.new.self c.args.conn c.args.flags c.args.name.now
    c.self.invariant (sym (ap (λ (r : OwnerChange). r.before) c.in-Ok.ensures.ok) ∙ c.in_default.is) c.in_ok-is_new.ensures.ok c.in-Ok.ensures.lists c.settle.ensures

pub invariant_of-self-in-Some : goal.invariant_of-self-in-Some
invariant_of-self-in-Some c =
    kept-requested_owned c.self.inside.standings.sets c.ensure.new.self.sets c.settle.new.standings.sets c.settle-in-Some.new.standings.sets c.self.inside.lists c.request.new.self c.args.conn c.args.flags c.in-Some.owner c.args.name.now
    c.self.invariant (sym (ap (λ (r : OwnerChange). r.before) c.in-Ok.ensures.ok) ∙ c.in-Some.is) c.in_ok-is_new.ensures.ok c.in-Ok.ensures.lists c.settle.ensures c.settle-in-Some.ensures
