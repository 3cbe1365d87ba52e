use Rattle.std.proofs.Common.{Bool, List, ℕ, cond, Some, None, ap, sym, ◌∙◌}
use Rattle.std.specs.Prelude.{is_some}
use Rattle.atspi_cache.proofs.Effects.{copied_some}
use Rattle.atspi_protocol.specs.declared.following.question.Question.TheVariants.{GetItems}
use Rattle.atspi_protocol.specs.following.ReaderState.{Followed}
use Rattle.atspi_reader_known.specs.Kept.{kept}
use Rattle.atspi_reader_known.proofs.Found.{row_there}
use Rattle.atspi_reader_known.proofs.app.App.child_wish.Goals as goal

pub returns-then-is_some : goal.returns-then-is_some
returns-then-is_some c = λ view e.
    let there = ap is_some (sym c.find.ensures) ∙ sym (copied_some c.find.result) ∙ sym c.is_some.ensures ∙ c.if-is_some.true in
    sym (ap (λ (b : Bool). cond b None (Some (GetItems c.args.self.now.name)))
    (row_there (kept c.self.inside.cache) view c.args.child.now _ (ap (λ (a : Followed). a.view) c.self.view_is ∙ e) there))

pub returns : goal.returns
returns c = λ view e.
    let none = ap is_some (sym c.find.ensures) ∙ sym (copied_some c.find.result) ∙ sym c.is_some.ensures ∙ c.if-is_some.false in
    ap (λ (n : List ℕ). Some (GetItems n)) (c.in_ok-copy.ensures ∙ ap (λ (a : Followed). a.name) c.self.view_is)
    ∙ sym (ap (λ (b : Bool). cond b None (Some (GetItems c.args.self.now.name)))
    (row_there (kept c.self.inside.cache) view c.args.child.now _ (ap (λ (a : Followed). a.view) c.self.view_is ∙ e) none))
