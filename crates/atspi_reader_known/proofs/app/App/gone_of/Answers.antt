use Rattle.std.proofs.Common.{Bool, List, ℕ, cond, ap, sym, subst, ◌≡◌, ◌∙◌}
use Rattle.std.specs.Prelude.{is_some, Some}
use Rattle.atspi_cache.proofs.Effects.{copied_some}
use Rattle.atspi_protocol.specs.declared.news.part.PartName.{PartName}
use Rattle.atspi_protocol.specs.following.ReaderState.{Followed}
use Rattle.atspi_protocol.specs.following.Wishes.{of_others}
use Rattle.atspi_reader_known.specs.Kept.{kept}
use Rattle.atspi_reader_known.specs.Refusals.{without}
use Rattle.atspi_reader_known.proofs.Found.{row_there}
use Rattle.atspi_reader_known.proofs.app.App.gone_of.Goals as goal

pub returns-then-is_some : goal.returns-then-is_some
returns-then-is_some c = λ view e.
    let now = c.args.self.now in
    let there = ap is_some (sym c.find.ensures) ∙ sym (copied_some c.find.result) ∙ sym c.is_some.ensures ∙ c.if-is_some.true in
    sym (ap (λ (b : Bool). cond b now.refused (of_others c.args.path.now now.refused))
    (row_there (kept c.self.inside.cache) view c.args.path.now _ (ap (λ (a : Followed). a.view) c.self.view_is ∙ e) there))

pub returns-then-not-may_have : goal.returns-then-not-may_have
returns-then-not-may_have c = λ view e.
    let now = c.args.self.now in
    let none = ap is_some (sym c.find.ensures) ∙ sym (copied_some c.find.result) ∙ sym c.is_some.ensures ∙ c.if-is_some.false in
    sym (ap (λ (b : Bool). cond b now.refused (of_others c.args.path.now now.refused))
    (row_there (kept c.self.inside.cache) view c.args.path.now _ (ap (λ (a : Followed). a.view) c.self.view_is ∙ e) none)
    ∙ subst (λ (r : List (List ℕ × PartName)). of_others c.args.path.now r ≡ r) (ap (λ (a : Followed). a.refused) c.self.view_is) (c.may_have.ensures c.if-not-may_have.true))

pub returns : goal.returns
returns c = λ view e.
    let now = c.args.self.now in
    let none = ap is_some (sym c.find.ensures) ∙ sym (copied_some c.find.result) ∙ sym c.is_some.ensures ∙ c.if-is_some.false in
    ap (λ (p : List ℕ). without (Some p) now.refused) c.in_ok-copy.ensures
    ∙ sym (ap (λ (b : Bool). cond b now.refused (of_others c.args.path.now now.refused))
    (row_there (kept c.self.inside.cache) view c.args.path.now _ (ap (λ (a : Followed). a.view) c.self.view_is ∙ e) none))
