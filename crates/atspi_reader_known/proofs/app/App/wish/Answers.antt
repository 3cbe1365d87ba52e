use Rattle.std.proofs.Common.{List, ℕ, Some, ◌++◌, map, ap, sym, ◌∙◌}
use Rattle.std.specs.Option.{option_map}
use Rattle.std.proofs.lemmas.Result.{IfOk-weaker}
use Rattle.atspi_cache_arena.specs.Sights.{Sight}
use Rattle.atspi_tree_model.specs.Forest.{labels}
use Rattle.atspi_protocol.specs.declared.following.question.Question.TheVariants.{GetItems}
use Rattle.atspi_protocol.specs.following.ReaderState.{Followed}
use Rattle.atspi_protocol.specs.following.Wishes.{wishes_of}
use Rattle.atspi_reader_known.specs.Kept.{kept}
use Rattle.atspi_reader_known.specs.Listed.{left}
use Rattle.atspi_reader_known.specs.Wanted.{first, first_wanted, part_question, refusing}
use Rattle.atspi_reader_known.proofs.Found.{loading, shown}
use Rattle.atspi_reader_known.proofs.Rows.{first_held, row_of_sight, rows_shown}
use Rattle.atspi_reader_known.proofs.app.App.wish.Goals as goal

pub returns-then-self : goal.returns-then-self
returns-then-self c =
    let more = c.args.more.now in
    IfOk-weaker c.part_wish.result _ _
    (λ w same. same
    ∙ ap (option_map (part_question c.args.self.now.name)) c.first_left.ensures
    ∙ ap (λ (n : List ℕ). option_map (part_question n) (first (left more c.self.inside.wants))) (sym (ap (λ (a : Followed). a.name) c.self.view_is))
    ∙ sym ((c.self.invariant.2 c.if-self.true).wanted more)
    ∙ ap (λ (a : Followed). first (wishes_of (refusing more a))) c.self.view_is)
    c.part_wish.ensures

pub returns-then-self-2 : goal.returns-then-self-2
returns-then-self-2 c =
    ap (λ (n : List ℕ). Some (GetItems n)) (c.in_ok-copy.ensures ∙ ap (λ (a : Followed). a.name) c.self.view_is)
    ∙ loading (refusing c.args.more.now c.args.self.now) (sym (ap (λ (a : Followed). a.reload) c.self.view_is) ∙ c.if-self-2.true)

pub returns-in-Some : goal.returns-in-Some
returns-in-Some c =
    let i = c.self.inside in
    let now = c.args.self.now in
    let more = c.args.more.now in
    let t = shown (kept i.cache) c.in-Some.rows (sym c.rows.ensures ∙ c.in-Some.is) in
    let e = sym (ap (λ (a : Followed). a.view) c.self.view_is) ∙ t.1 in
    let f = sym (ap (λ (a : Followed). a.reload) c.self.view_is) ∙ c.if-self-2.false in
    let wanted =
    c.first_wanted.ensures
    ∙ ap (λ (rs : List Sight). first_wanted (i.refused ++ more) (map row_of_sight rs)) t.2
    ∙ ap (first_wanted (i.refused ++ more)) (rows_shown t.0)
    ∙ ap (λ (a : Followed). first_wanted (a.refused ++ more) (labels t.0)) c.self.view_is in
    IfOk-weaker c.part_wish-in-Some.result _ _ (λ w same. same ∙ ap (option_map (part_question now.name)) wanted ∙ sym (first_held (refusing more now) t.0 e f)) c.part_wish-in-Some.ensures
