use Rattle.std.proofs.Common.{◌≡◌, rules, length, List, ℕ, ◌∷◌, ◌++◌, [], Some, cond, ap, sym, subst, ◌∙◌}
use Rattle.std.specs.Prelude.{bytes_eq}
use Rattle.std.specs.List.{list_any}
use Rattle.atspi_protocol.specs.following.ReaderState.{Followed, is_named}
use Rattle.atspi_reader_known.specs.Places.{AreFound, place_in}
use Rattle.atspi_reader_known.proofs.Placed.{found_push}
use Rattle.atspi_reader_known.proofs.apps.Apps.push.Goals as goal

pub invariant_of-self-2 : goal.invariant_of-self-2
invariant_of-self-2 c =
    let name = c.args.app.name in
    let index = c.self.inside.places in
    let place : c.len.result ≡ length c.self.inside.items.items = search rules in
    subst (AreFound c.put.new.self) (sym (c.in-Ok.ensures.items ∙ ap (λ (l : List Followed). l ++ c.args.app ∷ []) c.in_ok-reserve.ensures.items))
    (found_push index c.put.new.self c.args.app c.self.inside.items.items c.self.invariant (ap (list_any (is_named name)) c.self.view_is ∙ c.requires.is_new)
    (λ q. c.in_ok-put.ensures.ok q
    ∙ ap (λ (n : List ℕ). cond (bytes_eq n q) (Some c.len.result) (place_in index q)) (c.as_str.ensures.bytes ∙ c.name.ensures)
    ∙ ap (λ (n : ℕ). cond (bytes_eq name q) (Some n) (place_in index q)) place))
