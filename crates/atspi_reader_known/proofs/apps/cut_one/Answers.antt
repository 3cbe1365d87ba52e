use Rattle.std.proofs.Common.{List, ℕ, Option, ◌++◌, None, cond, ap, subst, ◌∙◌}
use Rattle.std.specs.Prelude.{bytes_eq}
use Rattle.std.specs.Option.{option_to_list}
use Rattle.atspi_protocol.specs.following.ReaderState.{Followed}
use Rattle.atspi_reader_known.specs.Places.{AreFound, place_in}
use Rattle.atspi_reader_known.proofs.Placed.{found_pop}
use Rattle.atspi_reader_known.proofs.apps.cut_one.Goals as goal

pub returns-in-Some-clause-found : goal.returns-in-Some-clause-found
returns-in-Some-clause-found c = λ u.
    let index = c.args.places.now in
    found_pop index c.remove.new.self c.in-Some.app c.pop.new.self.items
    (subst (AreFound index) (c.pop.ensures.items ∙ ap (λ (o : Option Followed). c.pop.new.self.items ++ option_to_list o) c.in-Some.is) u)
    (λ q. c.remove.ensures q ∙ ap (λ (n : List ℕ). cond (bytes_eq n q) None (place_in index q)) (c.as_str.ensures.bytes ∙ c.name.ensures))
