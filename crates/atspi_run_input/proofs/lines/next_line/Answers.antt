use Rattle.std.proofs.Common.{◌≡◌, ◌∙◌, ℕ, Bool, List, [], ◌∷◌, ◌<◌, arith, length, add-one, rules, true, false, refl}
use Rattle.std.proofs.lemmas.List.{take_rest, drop_all}
use Rattle.atspi_run_input.proofs.LineLemmas.{NoFeed, first_line, last_line, no_whole}
use Rattle.atspi_run_input.specs.Lines.{FirstLine, lines_read}
use Rattle.atspi_run_input.proofs.lines.next_line.Goals.{else-ended-via-then-ended+else-not-is_empty, else-ended-via-else-ended}
use Rattle.atspi_run_input.proofs.lines.next_line.Goals as goal

pub returns-then-b-eq10 : goal.returns-then-b-eq10
returns-then-b-eq10 c =
    rw (take_rest, add-one) (first_line c.args.ended c.args.text.now c.loop-i.i (omega arith) c.loop-i.invariant c.if-b-eq10.true)

last : (ended : Bool) (xs rest : List ℕ) → ended ≡ true → 0 < length xs → NoFeed xs (length xs) → rest ≡ [] → FirstLine ended xs xs rest
last ended xs rest t h none e =
    let l = last_line xs none h in
    rw (t, e) (record { shorter = h; lines = l })

pub returns-then-not-is_empty : goal.returns-then-not-is_empty
returns-then-not-is_empty c =
    let xs = c.args.text.now in
    last c.args.ended xs _ c.if-ended.true (search rules) (λ k l. c.loop-i.invariant k (omega arith))
    (take_rest xs (length xs) ∙ drop_all (length xs) xs (omega arith))

none_left : (xs : List ℕ) → NoFeed xs (length xs) → (ended : Bool) → (ended ≡ true → length xs ≡ 0) → lines_read ended xs ≡ []
none_left [] none true h = refl
none_left (x ∷ xs) none true h = absurd (omega (arith, h refl))
none_left xs none false h = no_whole xs none

pub returns : goal.returns
returns c =
    none_left c.args.text.now (λ k l. c.loop-i.invariant k (omega arith)) c.args.ended
    (elim c.else-ended.branch [
      | else-ended-via-then-ended+else-not-is_empty w ↦ λ _. search rules
      | else-ended-via-else-ended w ↦ λ t. absurd (search rules)
    ])
