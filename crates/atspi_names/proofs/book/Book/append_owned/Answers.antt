use Rattle.std.proofs.Common.{List, ℕ, Bool, ◌++◌, ◌&&◌, [], not, sym, ap, ◌∙◌, append-nil}
use Rattle.std.specs.Prelude.{filter}
use Rattle.std.specs.Option.{option_copied}
use Rattle.atspi_base.specs.valid_names.Names.{is_unique_name}
use Rattle.atspi_names.specs.Queue.{owns}
use Rattle.atspi_names.specs.Owners.{list_of, owned_by}
use Rattle.atspi_names.specs.Standings.{has_name}
use Rattle.atspi_names.proofs.BookLemmas.{owned_of_held, none_rise}
use Rattle.atspi_names.proofs.book.Book.append_owned.Goals as goal

pub returns-in_default : goal.returns-in_default
returns-in_default c =
    sym (append-nil c.args.names.now)
    ∙ ap (λ l. c.args.names.now ++ l)
    (owned_of_held c.self.inside.standings.sets c.self.inside.lists c.args.conn [] c.self.invariant none_rise
    (λ q. ap (λ o. has_name (option_copied o) q) (sym c.in_default.is) ∙ c.get.ensures q)
    ∙ ap (λ lists. owned_by lists c.args.conn) c.self.view_is)

pub returns : goal.returns
returns c =
    let p : List ℕ → Bool = λ name. not (is_unique_name name) && owns c.args.conn (list_of c.self.inside.lists name) in
    let gives = c.into_iter-name-iterator.ensures.into_iter_gives in
    sym (append-nil c.loop-name.names) ∙ ap (λ rest. c.loop-name.names ++ filter p rest) (sym c.in-None.ensures.steps.0) ∙ c.loop-name.invariant
    ∙ ap (λ all. c.args.names.now ++ filter p all) gives.0
    ∙ ap (λ l. c.args.names.now ++ l)
    (owned_of_held c.self.inside.standings.sets c.self.inside.lists c.args.conn c.in-Some.held.now.keys c.self.invariant gives.4
    (λ q. ap (λ o. has_name (option_copied o) q) (sym c.in-Some.is) ∙ c.get.ensures q)
    ∙ ap (λ lists. owned_by lists c.args.conn) c.self.view_is)
