use Rattle.std.proofs.Common.{◌≡◌, ℕ, List, ◌-◌, IfOk, length, take, drop, encode_utf8_all, sym, ap, subst, ◌∙◌, arith}
use Rattle.std.proofs.lemmas.Str.{chars_from_encodes}
use Rattle.atspi_base.specs.Text.{HasNoZero}
use Rattle.atspi_tree_edits.proofs.TextParts.{part_no_zero, part_counted}
use Rattle.atspi_tree_edits.proofs.cuts.part.Goals as goal

-- what the bytes spell
spelled : (text : List ℕ) (from count : ℕ) (cs bytes part : List ℕ) → cs ≡ text → part ≡ encode_utf8_all (take count (drop from cs)) → bytes ≡ part → bytes ≡ encode_utf8_all (take count (drop from text))
spelled text from count cs bytes part e f g = g ∙ f ∙ ap (λ (l : List ℕ). encode_utf8_all (take count (drop from l))) e

pub of-requires-clause-no_zero : goal.of-requires-clause-no_zero
of-requires-clause-no_zero c =
    subst HasNoZero (sym (spelled c.args.text.now c.args.from (c.args.to - c.args.from) _ _ _ c.as_str.ensures.chars c.in_ok-part.ensures c.deref.ensures))
    (part_no_zero c.args.text.now c.args.from (c.args.to - c.args.from) (subst HasNoZero c.as_str.ensures.spelled c.as_str.ensures.no_zero))

pub of-requires-clause-counted : goal.of-requires-clause-counted
of-requires-clause-counted c =
    let e = ap length (spelled c.args.text.now c.args.from (c.args.to - c.args.from) _ _ _ c.as_str.ensures.chars c.in_ok-part.ensures c.deref.ensures) in
    let whole = ap length c.as_str.ensures.spelled in
    let l = c.as_str.ensures.counted in
    let k = part_counted c.args.text.now c.args.from (c.args.to - c.args.from) (omega arith) in
    omega arith

pub returns : goal.returns
returns c =
    subst (λ (l : List ℕ). IfOk c.of.result (λ t. t ≡ l))
    (sym (chars_from_encodes (take (c.args.to - c.args.from) (drop c.args.from c.args.text.now)) c.deref.result.now c.deref.utf8
    (sym (spelled c.args.text.now c.args.from (c.args.to - c.args.from) _ _ _ c.as_str.ensures.chars c.in_ok-part.ensures c.deref.ensures)))) c.of.ensures
