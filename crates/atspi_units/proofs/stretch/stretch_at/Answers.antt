use Rattle.std.proofs.Common.{refl, sym, ap, subst, ◌∙◌, arith, rules}
use Rattle.std.proofs.lemmas.Str.{encodes-chars}
use Rattle.std.specs.Str.Iter.{chars_rest}
use Rattle.atspi_units.proofs.StretchLemmas.{IsOpened, scanned-start, scanned-more, scanned-apart, scanned-all, ends_not, open-start, open-here, opened-some, opened-none, opened-is, stretch-apart, stretch-end}
use Rattle.atspi_units.proofs.stretch.stretch_at.Goals as goal
use Rattle.atspi_units.proofs.stretch.stretch_at.Goals.{then-reaches, else-reaches, then-ends_behind+else-at-here, else-ends_behind, then-not-reaches-via-then-not-reaches, then-not-reaches-via-else-not-reaches+then-here-at}

pub loop-c-init : goal.loop-c-init
loop-c-init c =
    let begun = ap chars_rest c.into_iter-c-iterator.ensures.into_iter_gives ∙ c.chars-c-items.ensures.rest in (
      scanned-start _ _ _ refl refl (encodes-chars _ c.utf8.window ∙ sym begun),
      elim c.if-reaches.branch [
        | then-reaches w ↦ opened-some _ _ _ _ _ _ w.from-is (open-start _ _ _ _ refl refl w.if-reaches.true) (omega arith)
        | else-reaches w ↦ opened-none _ _ _ _ _ w.from-is w.if-reaches.false
      ],
    )

pub returns-then-at-here-clause-stretch : goal.returns-then-at-here-clause-stretch
returns-then-at-here-clause-stretch c =
    let scanned = c.loop-c.invariant.0 in
    let opened = opened-is _ _ _ _ _ _ c.loop-c.invariant.1 c.in_ok-from.was in
    let sure = sym c.ends_behind.ensures ∙ c.if-ends_behind.true in
    stretch-apart _ _ _ _ _ _ _ _ opened.0 scanned opened.1 c.if-at-here.true
    (scanned-apart _ _ _ _ _ _ scanned c.in-Some.ensures.steps.0 _ sure)

pub behind-here-requires-clause-bytes : goal.behind-here-requires-clause-bytes
behind-here-requires-clause-bytes c = c.loop-c.invariant.0.narrow

pub loop-c-preserved : goal.loop-c-preserved
loop-c-preserved c =
    let scanned = c.loop-c.invariant.0 in
    let step = c.in-Some.ensures.steps.0 in (
      scanned-more _ _ _ _ _ _ scanned step _ c.behind-here.ensures.chars c.behind-here.ensures.bytes c.behind-here.ensures.within,
      elim c.if-ends_behind.branch [
        | then-ends_behind+else-at-here w ↦
            let sure = sym c.ends_behind.ensures ∙ w.if-ends_behind.true in
            opened-some _ _ _ _ _ _ w.from-is
            (open-here _ _ _ _ _ _ scanned (scanned-apart _ _ _ _ _ _ scanned step _ sure)) w.if-at-here.false
        | else-ends_behind w ↦ subst (IsOpened _ _ _ _) (sym w.from-is) c.loop-c.invariant.1
      ],
    )

pub returns-then-not-reaches-clause-told : goal.returns-then-not-reaches-clause-told
returns-then-not-reaches-clause-told c = λ start end h.
    let all = scanned-all _ _ _ _ c.loop-c.invariant.0 c.in-None.ensures.steps.0.0 in
    elim c.then-not-reaches.branch [
      | then-not-reaches-via-then-not-reaches w ↦ ends_not _ end w.if-not-reaches.true
      | then-not-reaches-via-else-not-reaches+then-here-at w ↦ absurd (omega (arith, all, h, w.if-here-at.true))
    ]

pub returns-clause-stretch : goal.returns-clause-stretch
returns-clause-stretch c =
    let opened = opened-is _ _ _ _ _ _ c.loop-c.invariant.1 c.in_ok-from-2.was in
    stretch-end _ _ _ _ _ _ _ _ opened.0 c.loop-c.invariant.0 opened.1 c.if-here-at.false c.in-None.ensures.steps.0.0 (search rules)
