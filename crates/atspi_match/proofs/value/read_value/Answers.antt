use Rattle.std.proofs.Common.{◌≡◌, ◌≤◌, ◌++◌, ◌∷◌, [], ℕ, List, take, drop, length, arith, sym}
use Rattle.std.specs.List.{prefix_len}
use Rattle.std.proofs.lemmas.List.{take_rest, length-drop}
use Rattle.atspi_match.specs.Grammar.{is_quotable, EndsItem}
use Rattle.atspi_match.specs.inner.Values.{IsNext}
use Rattle.atspi_match.specs.declared.value.Next.TheVariants.{End, Escaped, Quote, Plain}
use Rattle.atspi_match.proofs.ValueLemmas.{nothing_yet, step_plain, step_escaped, step_quote, finish, stays_open}
use Rattle.atspi_match.proofs.value.read_value.Goals as goal

pub parts-init : goal.parts-init
parts-init c = (rw c.new-value.ensures.items (nothing_yet c.args.bytes.now), omega arith)

pub returns-in-End-clause-ok : goal.returns-in-End-clause-ok
returns-in-End-clause-ok c = finish c.args.bytes.now c.parts.value.items c.parts.at c.parts.invariant.0 (rw take_rest at c.in-End.ensures)

pub parts-preserved-in-Plain : goal.parts-preserved-in-Plain
parts-preserved-in-Plain c =
    let here : IsNext (Plain c.in-Plain.count) (drop c.parts.at c.args.bytes.now) = rw take_rest at c.in-Plain.ensures in
    let items : c.extend_from_slice.new.self.items ≡ c.parts.value.items ++ take c.in-Plain.count (drop c.parts.at c.args.bytes.now) = simp take_rest at c.in_ok-extend_from_slice-in-Plain.ensures.items in
    (rw items (step_plain c.args.bytes.now c.parts.value.items c.parts.at c.in-Plain.count c.parts.invariant.0 here), omega (arith, here.1, length-drop c.parts.at c.args.bytes.now))

pub parts-preserved-in-Escaped : goal.parts-preserved-in-Escaped
parts-preserved-in-Escaped c =
    let here : IsNext Escaped (drop c.parts.at c.args.bytes.now) = rw take_rest at c.in-Escaped.ensures in
    let items : c.push.new.self.items ≡ c.parts.value.items ++ 39 ∷ [] = c.in_ok-push-in-Escaped.ensures.items in
    (rw items (step_escaped c.args.bytes.now c.parts.value.items c.parts.at c.parts.invariant.0 here), omega (arith, here.0, length-drop c.parts.at c.args.bytes.now))

pub returns-then-count-inside-clause-open : goal.returns-then-count-inside-clause-open
returns-then-count-inside-clause-open c =
    let here : IsNext Quote (drop c.parts.at c.args.bytes.now) = rw take_rest at c.in-Quote.ensures in
    stays_open c.args.bytes.now c.parts.value.items c.parts.at c.count_quotable-count.result c.parts.invariant.0 here
    (simp take_rest at c.count_quotable-count.ensures.count) (simp take_rest at c.if-count-inside.true)

pub parts-preserved : goal.parts-preserved
parts-preserved c =
    let here : IsNext Quote (drop c.parts.at c.args.bytes.now) = rw take_rest at c.in-Quote.ensures in
    let run : c.count_quotable-count.result ≡ prefix_len is_quotable (drop 1 (drop c.parts.at c.args.bytes.now)) = simp take_rest at c.count_quotable-count.ensures.count in
    let le : c.count_quotable-count.result ≤ length (drop 1 (drop c.parts.at c.args.bytes.now)) = simp take_rest at c.count_quotable-count.ensures.within in
    let more : c.count_quotable-count.result ≡ length (drop 1 (drop c.parts.at c.args.bytes.now)) → ⊥ = simp take_rest at c.if-count-inside.false in
    let items : c.extend_from_slice-in-Quote.new.self.items ≡ c.parts.value.items ++ take c.count_quotable-count.result (drop 1 (drop c.parts.at c.args.bytes.now)) = simp take_rest at c.in_ok-extend_from_slice-in-Quote.ensures.items in (
      rw items (step_quote c.args.bytes.now c.parts.value.items c.parts.at c.count_quotable-count.result c.parts.invariant.0 here run more),
      omega (arith, le, more, length-drop 1 (drop c.parts.at c.args.bytes.now), length-drop c.parts.at c.args.bytes.now),
    )
