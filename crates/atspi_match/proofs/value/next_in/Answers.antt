use Rattle.std.proofs.Common.{◌≡◌, ◌≢◌, ◌≤◌, ◌<◌, ◌∙◌, ℕ, List, length, get_or, drop, arith, sym, ap, ◌==◌}
use Rattle.std.specs.List.{prefix_len}
use Rattle.std.proofs.lemmas.List.{take_rest, length-drop}
use Rattle.std.proofs.lemmas.List.Sums.{prefix_len-le-length}
use Rattle.std.proofs.lemmas.Bool.{eqb-false}
use Rattle.atspi_match.specs.Grammar.{is_plain, Begins}
use Rattle.atspi_match.proofs.PartLemmas.{plain_run, no_quote, no_second}
use Rattle.atspi_match.proofs.value.next_in.Goals as goal
use Rattle.atspi_match.proofs.value.next_in.Goals.{else-bytes-eq92-via-then-bytes-eq92+then-bytes-gt1+else-bytes-eq39-2, else-bytes-eq92-via-then-bytes-eq92+else-bytes-gt1, else-bytes-eq92-via-else-bytes-eq92}

pub returns-else-bytes-eq92 : goal.returns-else-bytes-eq92
returns-else-bytes-eq92 c =
    let run : c.count_plain.result ≡ prefix_len is_plain (drop 1 c.args.bytes.now) = rw take_rest at c.count_plain.ensures.count in
    let some : 0 < length c.args.bytes.now = omega (arith, eqb-false (length c.args.bytes.now) 0 (sym c.is_empty.ensures ∙ c.if-is_empty.false)) in
    plain_run c.args.bytes.now c.count_plain.result some c.if-bytes-eq44.false c.if-bytes-eq39.false
    (λ is. elim c.else-bytes-eq92.branch [
      | else-bytes-eq92-via-then-bytes-eq92+then-bytes-gt1+else-bytes-eq39-2 w ↦ no_quote c.args.bytes.now w.if-bytes-eq39-2.false
      | else-bytes-eq92-via-then-bytes-eq92+else-bytes-gt1 w ↦ no_second c.args.bytes.now (omega arith)
      | else-bytes-eq92-via-else-bytes-eq92 w ↦ absurd (w.if-bytes-eq92.false is)
    ])
    run
