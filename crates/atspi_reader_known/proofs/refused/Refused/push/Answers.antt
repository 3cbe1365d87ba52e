use Rattle.std.proofs.Common.{◌≡◌, ℕ, ◌+◌, List, [], ◌∷◌, ◌++◌, refl, ap, sym, subst, ◌∙◌, arith}
use Rattle.atspi_protocol.specs.declared.news.part.PartName.{PartName}
use Rattle.atspi_protocol.specs.following.Wishes.{is_refused}
use Rattle.atspi_reader_known.specs.Places.{place_in}
use Rattle.atspi_reader_known.specs.Refusals.{AreBelow, AreSame, AreWithin, counting}
use Rattle.atspi_reader_known.specs.declared.refused.Entry.{Entry}
use Rattle.atspi_reader_known.proofs.Refusals.{behind_error, below_pushed, counting_noted, counting_pushed, same_push, within_noted}
use Rattle.atspi_reader_known.proofs.refused.Refused.push.Goals as goal

pub invariant_of-self-in_err-put : goal.invariant_of-self-in_err-put
invariant_of-self-in_err-put c =
    let i = c.self.inside in
    let left = c.let_go.new.items.items in
    let f = place_in i.since in
    let g = place_in c.note.new.since in
    let below = c.let_go.ensures.below i.next c.self.invariant.2 in
    let noted : counting g left ≡ counting f i.items.items = counting_noted f g c.args.path i.next c.in_ok-note.ensures.ok left below ∙ c.let_go.ensures.counting in
    subst (λ (es : List Entry). AreSame c.put.new.self (counting g es) × AreWithin g i.next × AreBelow es i.next) (sym c.in_ok-reserve.ensures.items) (
      (λ q part. c.in_err-put.ensures.err q part ∙ c.self.invariant.0 q part ∙ ap (λ (l : List (List ℕ × PartName)). is_refused l q part) (sym noted)),
      within_noted f g c.args.path i.next c.in_ok-note.ensures.ok i.next (omega arith) c.self.invariant.1,
      below,
    )

pub returns-in_err-put-clause-err : goal.returns-in_err-put-clause-err
returns-in_err-put-clause-err c =
    let i = c.self.inside in
    let left = c.let_go.new.items.items in
    let f = place_in i.since in
    let g = place_in c.note.new.since in
    let below = c.let_go.ensures.below i.next c.self.invariant.2 in
    behind_error c.from_residual-in_err-put.result
    (ap (counting g) c.in_ok-reserve.ensures.items
    ∙ counting_noted f g c.args.path i.next c.in_ok-note.ensures.ok left below
    ∙ c.let_go.ensures.counting
    ∙ c.self.view_is)

pub invariant_of-self-2 : goal.invariant_of-self-2
invariant_of-self-2 c =
    let i = c.self.inside in
    let left = c.let_go.new.items.items in
    let f = place_in i.since in
    let g = place_in c.note.new.since in
    let entry : Entry = record { number = i.next; path = c.args.path; part = c.args.part } in
    let below = c.let_go.ensures.below i.next c.self.invariant.2 in
    let pushed = c.in-Ok.ensures.items ∙ ap (λ (es : List Entry). es ++ entry ∷ []) c.in_ok-reserve.ensures.items in
    let same : counting g (left ++ entry ∷ []) ≡ counting f i.items.items ++ (c.args.path, c.args.part) ∷ [] =
    counting_pushed f g c.args.path i.next c.in_ok-note.ensures.ok entry left refl refl below c.self.invariant.1
    ∙ ap (λ (l : List (List ℕ × PartName)). l ++ (c.args.path, c.args.part) ∷ []) c.let_go.ensures.counting in
    subst (λ (es : List Entry). AreSame c.put.new.self (counting g es) × AreWithin g (i.next + 1) × AreBelow es (i.next + 1)) (sym pushed) (
      subst (AreSame c.put.new.self) (sym same)
          (same_push i.parts c.put.new.self c.args.path c.args.part (counting f i.items.items) c.self.invariant.0 c.in_ok-put.ensures.ok),
      within_noted f g c.args.path i.next c.in_ok-note.ensures.ok (i.next + 1) (omega arith) c.self.invariant.1,
      below_pushed left entry i.next (i.next + 1) (omega arith) (omega arith) below,
    )

pub returns-clause-ok : goal.returns-clause-ok
returns-clause-ok c =
    let i = c.self.inside in
    let left = c.let_go.new.items.items in
    let f = place_in i.since in
    let g = place_in c.note.new.since in
    let entry : Entry = record { number = i.next; path = c.args.path; part = c.args.part } in
    let below = c.let_go.ensures.below i.next c.self.invariant.2 in
    ap (counting g) (c.in-Ok.ensures.items ∙ ap (λ (es : List Entry). es ++ entry ∷ []) c.in_ok-reserve.ensures.items)
    ∙ counting_pushed f g c.args.path i.next c.in_ok-note.ensures.ok entry left refl refl below c.self.invariant.1
    ∙ ap (λ (l : List (List ℕ × PartName)). l ++ (c.args.path, c.args.part) ∷ []) (c.let_go.ensures.counting ∙ c.self.view_is)
