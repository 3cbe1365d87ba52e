use Rattle.std.proofs.Common.{ap, sym, subst, ◌∙◌, List, ℕ, None, Option, cond, bytes_eq, ◌≡◌}
use Rattle.atspi_protocol.specs.following.Wishes.{of_others}
use Rattle.atspi_reader_known.specs.Places.{place_in}
use Rattle.atspi_reader_known.specs.Refusals.{AreSame, counting, without}
use Rattle.atspi_reader_known.proofs.Refusals.{counting_gone, same_cleared, within_gone}
use Rattle.atspi_reader_known.proofs.refused.Refused.forget.Goals as goal

pub invariant_of-self : goal.invariant_of-self
invariant_of-self c =
    let i = c.self.inside in
    let path = c.in-Some.path in
    let f = place_in i.since in
    let g = place_in c.remove.new.self in
    let gone : (q : List ℕ) → g q ≡ cond (bytes_eq path q) None (f q) =
    λ q. c.remove.ensures q ∙ ap (λ (n : List ℕ). cond (bytes_eq n q) None (f q)) c.as_str.ensures.bytes in (
      subst (AreSame c.clear.new.self) (sym (counting_gone f g path gone i.items.items))
          (same_cleared i.parts c.clear.new.self path (counting f i.items.items) c.self.invariant.0 c.clear.ensures),
      within_gone f g path gone i.next c.self.invariant.1,
      c.self.invariant.2,
    )

pub returns-in-Some : goal.returns-in-Some
returns-in-Some c =
    let i = c.self.inside in
    let path = c.in-Some.path in
    let f = place_in i.since in
    let g = place_in c.remove.new.self in
    counting_gone f g path (λ q. c.remove.ensures q ∙ ap (λ (n : List ℕ). cond (bytes_eq n q) None (f q)) c.as_str.ensures.bytes) i.items.items
    ∙ ap (of_others path) c.self.view_is
    ∙ ap (λ (o : Option (List ℕ)). without o c.args.self.now) (sym c.in-Some.is)
