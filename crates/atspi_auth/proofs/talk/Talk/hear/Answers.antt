use Rattle.std.proofs.Common.{List, ℕ, ◌∙◌, ap, sym, subst}
use Rattle.atspi_auth.specs.Lines.{HasNoEnd}
use Rattle.atspi_auth.specs.Talk.{Standing}
use Rattle.atspi_auth.proofs.TellsLemmas.{hears_begun, no_end_of_tidy, tells_as, tidy_rest}
use Rattle.atspi_auth.proofs.talk.Talk.hear.Goals as goal

pub line_end-requires : goal.line_end-requires
line_end-requires c =
    let P : List ℕ → Type 0 = λ w. HasNoEnd w in
    subst P (sym c.deref.ensures.value) (no_end_of_tidy c.self.inside.stage c.self.inside.line.items c.self.invariant)

pub keep-requires-clause-tidy : goal.keep-requires-clause-tidy
keep-requires-clause-tidy c =
    tidy_rest c.args.waiting _ _ _ c.in_ok-reply.reply _ c.in_ok-hearing.hearing.stage c.in_ok-reply.ensures c.in_ok-hearing.ensures.heard

pub returns : goal.returns
returns c =
    let line = ap (λ (s : Standing). s.line) c.self.view_is in
    let begun = hears_begun c.args.waiting c.args.self.now.line c.deref.result.now c.deref-2.result.now c.args.bytes.now c.in-Some.end c.in_ok-reply.reply
    (c.deref.ensures.value ∙ line) (c.deref-2.ensures.value ∙ line) c.in-Some.ensures.within c.in-Some.ensures.line c.in_ok-reply.ensures in
    tells_as _ _ _ _ _ _ (sym (begun ∙ c.in_ok-hearing.ensures.heard)) c.keep.ensures
