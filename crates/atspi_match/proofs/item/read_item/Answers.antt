use Rattle.std.proofs.Common.{◌≡◌, ◌≢◌, ◌+◌, ◌<◌, ◌≤◌, ℕ, List, take, drop, length, get_or, arith, sym, ap, ◌∙◌, Some, None}
use Rattle.std.specs.List.{prefix_len}
use Rattle.std.proofs.lemmas.List.{take_rest, length-drop}
use Rattle.atspi_match.specs.Grammar.{is_blank, is_word_byte}
use Rattle.atspi_match.specs.Conditions.{key_text}
use Rattle.atspi_match.specs.inner.Keys.{key_in, key_refusal}
use Rattle.atspi_match.proofs.KeyLemmas.{key_sound}
use Rattle.atspi_match.proofs.ItemLemmas.{ends_all, ends_comma, bare_here, here, unknown_here, refused_here, refuses_value, reads_here, ok_then, err_then}
use Rattle.atspi_match.specs.inner.Items.{ReadsValue, ReadsItem, RefusesValue, RefusesItem}
use Rattle.atspi_match.proofs.item.read_item.Goals as goal
use Rattle.atspi_match.proofs.item.read_item.Goals.{then-word-rest-via-then-word-rest, then-word-rest-via-else-word-rest+then-rest-word-ne61}

pub returns-then-word-rest-clause-bad : goal.returns-then-word-rest-clause-bad
returns-then-word-rest-clause-bad c =
    let run : c.count_word-word.result ≡ prefix_len is_word_byte (drop c.count_blanks-place.result c.args.bytes.now) = simp take_rest at c.count_word-word.ensures.count in
    let le : c.count_word-word.result ≤ length (drop c.count_blanks-place.result c.args.bytes.now) = simp take_rest at c.count_word-word.ensures.within in
    bare_here _ c.args.bytes.now c.count_blanks-place.result c.count_word-word.result c.requires.some c.count_blanks-place.ensures.count run
    (elim c.then-word-rest.branch [
      | then-word-rest-via-then-word-rest w ↦ ends_all (drop c.count_blanks-place.result c.args.bytes.now) c.count_word-word.result (simp take_rest at w.if-word-rest.true)
      | then-word-rest-via-else-word-rest+then-rest-word-ne61 w ↦
          let not : c.count_word-word.result ≡ length (drop c.count_blanks-place.result c.args.bytes.now) → ⊥ = simp take_rest at w.if-word-rest.false in
          let other : get_or (drop c.count_blanks-place.result c.args.bytes.now) c.count_word-word.result 0 ≡ 61 → ⊥ = simp take_rest at w.if-rest-word-ne61.true in
          ends_comma (drop c.count_blanks-place.result c.args.bytes.now) c.count_word-word.result run (omega (arith, le, not)) other
    ])

pub returns-in_default-clause-bad : goal.returns-in_default-clause-bad
returns-in_default-clause-bad c =
    let run : c.count_word-word.result ≡ prefix_len is_word_byte (drop c.count_blanks-place.result c.args.bytes.now) = simp take_rest at c.count_word-word.ensures.count in
    let le : c.count_word-word.result ≤ length (drop c.count_blanks-place.result c.args.bytes.now) = simp take_rest at c.count_word-word.ensures.within in
    let not : c.count_word-word.result ≡ length (drop c.count_blanks-place.result c.args.bytes.now) → ⊥ = simp take_rest at c.if-word-rest.false in
    let is : get_or (drop c.count_blanks-place.result c.args.bytes.now) c.count_word-word.result 0 ≡ 61 = simp take_rest at c.if-rest-word-ne61.false in
    let at = here c.args.bytes.now c.count_blanks-place.result c.count_word-word.result c.count_blanks-place.ensures.count run (omega (arith, le, not)) is in
    let key : c.read_key.result ≡ key_in (take c.count_word-word.result (drop c.count_blanks-place.result c.args.bytes.now)) = simp take_rest at c.read_key.ensures in
    unknown_here _ c.args.bytes.now c.count_blanks-place.result c.count_word-word.result at (sym key ∙ c.in_default.is)

pub returns-in-Some-refuses-clause-bad : goal.returns-in-Some-refuses-clause-bad
returns-in-Some-refuses-clause-bad c =
    let run : c.count_word-word.result ≡ prefix_len is_word_byte (drop c.count_blanks-place.result c.args.bytes.now) = simp take_rest at c.count_word-word.ensures.count in
    let le : c.count_word-word.result ≤ length (drop c.count_blanks-place.result c.args.bytes.now) = simp take_rest at c.count_word-word.ensures.within in
    let not : c.count_word-word.result ≡ length (drop c.count_blanks-place.result c.args.bytes.now) → ⊥ = simp take_rest at c.if-word-rest.false in
    let is : get_or (drop c.count_blanks-place.result c.args.bytes.now) c.count_word-word.result 0 ≡ 61 = simp take_rest at c.if-rest-word-ne61.false in
    let at = here c.args.bytes.now c.count_blanks-place.result c.count_word-word.result c.count_blanks-place.ensures.count run (omega (arith, le, not)) is in
    let key : c.read_key.result ≡ key_in (take c.count_word-word.result (drop c.count_blanks-place.result c.args.bytes.now)) = simp take_rest at c.read_key.ensures in
    refused_here c.args.conditions.now c.args.bytes.now c.count_blanks-place.result c.count_word-word.result c.in-Some.key c.in-Some-refuses.reason c.requires.rule at (sym key ∙ c.in-Some.is)
    (sym c.refuses.ensures ∙ c.in-Some-refuses.is)

pub read_value_of-requires-clause-key : goal.read_value_of-requires-clause-key
read_value_of-requires-clause-key c =
    let key : c.read_key.result ≡ key_in (take c.count_word-word.result (drop c.count_blanks-place.result c.args.bytes.now)) = simp take_rest at c.read_key.ensures in
    (key_sound _ c.in-Some.key (sym key ∙ c.in-Some.is)).is_key

pub returns-clause-ok : goal.returns-clause-ok
returns-clause-ok c =
    let run : c.count_word-word.result ≡ prefix_len is_word_byte (drop c.count_blanks-place.result c.args.bytes.now) = simp take_rest at c.count_word-word.ensures.count in
    let le : c.count_word-word.result ≤ length (drop c.count_blanks-place.result c.args.bytes.now) = simp take_rest at c.count_word-word.ensures.within in
    let not : c.count_word-word.result ≡ length (drop c.count_blanks-place.result c.args.bytes.now) → ⊥ = simp take_rest at c.if-word-rest.false in
    let is : get_or (drop c.count_blanks-place.result c.args.bytes.now) c.count_word-word.result 0 ≡ 61 = simp take_rest at c.if-rest-word-ne61.false in
    let at = here c.args.bytes.now c.count_blanks-place.result c.count_word-word.result c.count_blanks-place.ensures.count run (omega (arith, le, not)) is in
    let key : c.read_key.result ≡ key_in (take c.count_word-word.result (drop c.count_blanks-place.result c.args.bytes.now)) = simp take_rest at c.read_key.ensures in
    ok_then c.read_value_of.result
    (λ read. ReadsValue c.in-Some.key (drop (c.count_word-word.result + 1) (drop c.count_blanks-place.result c.args.bytes.now)) (c.count_blanks-place.result + c.count_word-word.result + 1) read)
    (λ read. ReadsItem c.args.bytes.now c.args.conditions.now read)
    (λ read v. reads_here c.args.conditions.now c.args.bytes.now c.count_blanks-place.result c.count_word-word.result c.in-Some.key read at (sym key ∙ c.in-Some.is) (sym c.refuses.ensures ∙ c.in_default-refuses.is) v)
    (simp take_rest at c.read_value_of.ensures.ok)

pub returns-clause-bad : goal.returns-clause-bad
returns-clause-bad c =
    let run : c.count_word-word.result ≡ prefix_len is_word_byte (drop c.count_blanks-place.result c.args.bytes.now) = simp take_rest at c.count_word-word.ensures.count in
    let le : c.count_word-word.result ≤ length (drop c.count_blanks-place.result c.args.bytes.now) = simp take_rest at c.count_word-word.ensures.within in
    let not : c.count_word-word.result ≡ length (drop c.count_blanks-place.result c.args.bytes.now) → ⊥ = simp take_rest at c.if-word-rest.false in
    let is : get_or (drop c.count_blanks-place.result c.args.bytes.now) c.count_word-word.result 0 ≡ 61 = simp take_rest at c.if-rest-word-ne61.false in
    let at = here c.args.bytes.now c.count_blanks-place.result c.count_word-word.result c.count_blanks-place.ensures.count run (omega (arith, le, not)) is in
    let key : c.read_key.result ≡ key_in (take c.count_word-word.result (drop c.count_blanks-place.result c.args.bytes.now)) = simp take_rest at c.read_key.ensures in
    err_then c.read_value_of.result
    (λ e. RefusesValue e c.in-Some.key (drop (c.count_word-word.result + 1) (drop c.count_blanks-place.result c.args.bytes.now)) (c.count_blanks-place.result + c.count_word-word.result + 1))
    (λ e. RefusesItem e c.args.bytes.now c.args.conditions.now)
    (λ e v. refuses_value c.args.conditions.now c.args.bytes.now c.count_blanks-place.result c.count_word-word.result c.in-Some.key e c.requires.rule at (sym key ∙ c.in-Some.is) (sym c.refuses.ensures ∙ c.in_default-refuses.is) v)
    (simp take_rest at c.read_value_of.ensures.bad)
