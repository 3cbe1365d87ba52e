use Rattle.std.proofs.Common.{◌∙◌, [], ◌∷◌, sym, ap, arith, map, string_bytes, codes}
use Rattle.atspi_run_live.proofs.OfWords.{only_three}
use Rattle.atspi_run.proofs.WordLemmas.{asked, not_asked, not_if}
use Rattle.atspi_run.proofs.words.asked_script.Goals as goal

pub returns-then-is_text : goal.returns-then-is_text
returns-then-is_text c =
    let words = only_three c.args.words.now c.make-item.result c.count-item.result c.seed-item.result (omega arith) (omega arith) c.make-item.is c.count-item.is c.seed-item.is in
    asked c.script_numbers.result (map string_bytes c.args.words.now) c.as_str.result.now c.as_str-then-is_text.result.now
    (words ∙ ap (λ w. w ∷ string_bytes c.count-item.result ∷ string_bytes c.seed-item.result ∷ []) (c.is_text.ensures.0 c.if-is_text.true) ∙ ap (λ w. codes "make" ∷ w ∷ string_bytes c.seed-item.result ∷ []) (sym c.as_str.ensures.value)
    ∙ ap (λ w. codes "make" ∷ c.as_str.result.now ∷ w ∷ []) (sym c.as_str-then-is_text.ensures.value))
    c.script_numbers.ensures

pub returns-else-is_text : goal.returns-else-is_text
returns-else-is_text c = λ n k is.
    let words = only_three c.args.words.now c.make-item.result c.count-item.result c.seed-item.result (omega arith) (omega arith) c.make-item.is c.count-item.is c.seed-item.is in
    not_asked _ _ _ _ n k words (not_if c.is_text.result c.if-is_text.false c.is_text.ensures.1) is
