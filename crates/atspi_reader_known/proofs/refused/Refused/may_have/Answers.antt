use Rattle.std.proofs.Common.{ap, sym, subst, ◌∙◌, ◌≡◌, List, ℕ, false, Option, Some, None, refl}
use Rattle.std.specs.Prelude.{is_some}
use Rattle.atspi_protocol.specs.declared.news.part.PartName.{PartName}
use Rattle.atspi_protocol.specs.following.Wishes.{of_others}
use Rattle.atspi_reader_known.specs.Places.{place_in}
use Rattle.atspi_reader_known.proofs.Refusals.{counting_none}
use Rattle.atspi_reader_known.proofs.refused.Refused.may_have.Goals as goal

is_none : (o : Option ℕ) → is_some o ≡ false → o ≡ None
is_none None e = refl
is_none (Some place) e = absurd cc

pub returns : goal.returns
returns c = λ none.
    let i = c.self.inside in
    let path = c.args.path.now in
    let at : place_in i.since path ≡ None =
    is_none (place_in i.since path)
    (ap (λ (p : List ℕ). is_some (place_in i.since p)) (sym c.as_str.ensures.bytes) ∙ ap is_some (sym c.find.ensures) ∙ sym c.is_some.ensures ∙ none) in
    subst (λ (r : List (List ℕ × PartName)). of_others path r ≡ r) c.self.view_is (counting_none (place_in i.since) path at i.items.items)
