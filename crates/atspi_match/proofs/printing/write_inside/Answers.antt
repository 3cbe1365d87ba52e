use Rattle.std.proofs.Common.{◌≡◌, ◌≤◌, ◌++◌, ◌∷◌, [], ℕ, take, drop, length, arith, sym, ap, ◌∙◌, append_assoc}
use Rattle.std.specs.Prelude.{flat_map}
use Rattle.std.specs.List.{prefix_len}
use Rattle.std.proofs.lemmas.List.{take_rest, length-drop}
use Rattle.atspi_match.specs.Grammar.{is_quotable}
use Rattle.atspi_match.specs.Printed.{quoted_byte}
use Rattle.atspi_match.proofs.PrintLemmas.{print_run, print_quote}
use Rattle.atspi_match.proofs.printing.write_inside.Goals as goal

pub runs-preserved-then-at-value : goal.runs-preserved-then-at-value
runs-preserved-then-at-value c =
    let n : ℕ = c.count_quotable-count.result in
    let run : c.count_quotable-count.result ≡ prefix_len is_quotable (drop c.runs.at c.args.value.now) = simp take_rest at c.count_quotable-count.ensures.count in
    let first : c.extend.new.self ≡ c.runs.out ++ take c.count_quotable-count.result (drop c.runs.at c.args.value.now) = simp take_rest at c.in_ok-extend.ensures.ok in
    let front = flat_map quoted_byte (take c.runs.at c.args.value.now) in
    let mid = take c.count_quotable-count.result (drop c.runs.at c.args.value.now) in (
      omega arith,
      c.in_ok-extend-2.ensures.ok ∙ ap (λ o. o ++ 39 ∷ 92 ∷ 39 ∷ 39 ∷ []) (first ∙ ap (λ o. o ++ mid) c.runs.invariant.1)
          ∙ ap (λ l. l ++ 39 ∷ 92 ∷ 39 ∷ 39 ∷ []) (append_assoc c.args.out.now front mid) ∙ append_assoc c.args.out.now (front ++ mid) (39 ∷ 92 ∷ 39 ∷ 39 ∷ [])
          ∙ ap (λ l. c.args.out.now ++ l) (sym (print_quote c.args.value.now c.runs.at c.count_quotable-count.result run c.if-at-value.true)),
    )

pub runs-preserved : goal.runs-preserved
runs-preserved c =
    let run : c.count_quotable-count.result ≡ prefix_len is_quotable (drop c.runs.at c.args.value.now) = simp take_rest at c.count_quotable-count.ensures.count in
    let le : c.count_quotable-count.result ≤ length (drop c.runs.at c.args.value.now) = simp take_rest at c.count_quotable-count.ensures.within in
    let first : c.extend.new.self ≡ c.runs.out ++ take c.count_quotable-count.result (drop c.runs.at c.args.value.now) = simp take_rest at c.in_ok-extend.ensures.ok in
    let front = flat_map quoted_byte (take c.runs.at c.args.value.now) in
    let mid = take c.count_quotable-count.result (drop c.runs.at c.args.value.now) in (
      omega (arith, le, length-drop c.runs.at c.args.value.now, c.runs.invariant.0),
      first ∙ ap (λ o. o ++ mid) c.runs.invariant.1 ∙ append_assoc c.args.out.now front mid ∙ ap (λ l. c.args.out.now ++ l) (sym (print_run c.args.value.now c.runs.at c.count_quotable-count.result run)),
    )
