use Rattle.std.proofs.Common.{◌≡◌, ℕ, ◌+◌, ◌<◌, ◌≤◌, ◌/◌, ◌%◌, List, [], ◌∷◌, ◌++◌, sym, ap, ◌∙◌, arith, append_assoc}
use Rattle.std.specs.Prelude.{decimal}
use Rattle.std.proofs.lemmas.Fmt.{decimal_digit, decimal_step}
use Rattle.std.proofs.lemmas.Result.{on_ok_weaker}
use Rattle.atspi_match.proofs.printing.write_index.Goals as goal
use Rattle.atspi_match.proofs.printing.write_index.Goals.{then-index-ge10+in_ok-push, else-index-ge10}

two : (n : ℕ) → 10 ≤ n → n < 64 → decimal n ≡ (48 + n / 10) ∷ [] ++ (48 + n % 10) ∷ []
two n le lt = decimal_step n le (omega arith) ∙ ap (λ l. l ++ (48 + n % 10) ∷ []) (decimal_digit (n / 10) (omega arith))

one : (n : ℕ) → n < 10 → decimal n ≡ (48 + n % 10) ∷ []
one n lt = let same : n % 10 ≡ n = omega arith in decimal_digit n lt ∙ ap (λ m. (48 + m) ∷ []) (sym same)

pub returns-clause-ok : goal.returns-clause-ok
returns-clause-ok c =
    on_ok_weaker c.push-2.result
    (λ e. elim c.if-index-ge10.branch [
      | then-index-ge10+in_ok-push w ↦ e ∙ ap (λ o. o ++ (48 + c.args.index % 10) ∷ []) (w.out-is ∙ w.in_ok-push.ensures.ok)
          ∙ append_assoc c.args.out.now ((48 + c.args.index / 10) ∷ []) ((48 + c.args.index % 10) ∷ []) ∙ ap (λ l. c.args.out.now ++ l) (sym (two c.args.index w.if-index-ge10.true c.requires))
      | else-index-ge10 w ↦ e ∙ ap (λ o. o ++ (48 + c.args.index % 10) ∷ []) w.out-is ∙ ap (λ l. c.args.out.now ++ l) (sym (one c.args.index w.if-index-ge10.false))
    ])
    c.push-2.ensures.ok
