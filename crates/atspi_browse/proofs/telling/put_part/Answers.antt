use Rattle.std.proofs.Common.{◌≡◌, ◌-◌, ◌++◌, ◌∷◌, [], ap, sym, ◌∙◌, take, drop, append_assoc, encode_utf8_all}
use Rattle.std.proofs.lemmas.Result.{on_ok_weaker}
use Rattle.atspi_base.specs.Quoted.{in_quotes}
use Rattle.atspi_base.proofs.TextLemmas.{encodes_again}
use Rattle.atspi_browse.proofs.telling.put_part.Goals as goal

pub returns : goal.returns
returns c =
    let old = c.args.out.now in
    let due = take (c.args.unit.end - c.args.unit.start) (drop c.args.unit.start c.args.text.now) in
    let e : c.as_bytes.result.now ≡ encode_utf8_all due =
    c.as_bytes.ensures.value ∙ sym (encodes_again c.part.result.now c.part.utf8)
    ∙ ap encode_utf8_all (c.part.ensures ∙ ap (λ cs. take (c.args.unit.end - c.args.unit.start) (drop c.args.unit.start cs)) c.as_str.ensures.chars) in
    on_ok_weaker c.put_in_quotes.result (λ h. h ∙ ap (λ m. m ++ in_quotes c.as_bytes.result.now) c.in_ok-push.ensures.ok ∙ append_assoc old (32 ∷ []) (in_quotes c.as_bytes.result.now) ∙ ap (λ b. old ++ 32 ∷ in_quotes b) e)
    c.put_in_quotes.ensures.ok
