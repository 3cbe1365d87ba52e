use Rattle.std.proofs.Common.{◌∙◌, ap, ℕ, List, rules, FitsSigned, chars}
use Rattle.std.specs.Int.{w32}
use Rattle.std.proofs.lemmas.Int.{to_z-of_z}
use Rattle.atspi_tree_model.specs.declared.news.News.TheVariants.{State}
use Rattle.atspi_protocol.specs.news.Events.{is_on}
use Rattle.atspi_reader_news.proofs.Told.{no_state, state_told}
use Rattle.atspi_reader_news.proofs.event.state_news.Goals as goal

pub returns-in_ok-owned_path-in-Some : goal.returns-in_ok-owned_path-in-Some
returns-in_ok-owned_path-in-Some c =
    let e = c.args.e.now in
    let f : FitsSigned w32 e.detail1 = search rules in
    ap (λ (p : List ℕ). State p c.in-Some.state c.is_on.result) c.in_ok-owned_path-in-Some.ensures
    ∙ ap (State c.args.path.now c.in-Some.state) (c.is_on.ensures ∙ ap is_on (to_z-of_z w32 e.detail1 f))
    ∙ state_told c.args.path.now (is_on e.detail1) (chars e.minor.now) c.in-Some.state c.in-Some.ensures

pub returns-in-None : goal.returns-in-None
returns-in-None c = no_state c.args.path.now (is_on c.args.e.now.detail1) (chars c.args.e.now.minor.now) c.in-None.ensures
