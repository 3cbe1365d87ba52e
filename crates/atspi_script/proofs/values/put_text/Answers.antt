use Rattle.std.proofs.Common.{List, ℕ, ◌++◌, sym, ap, ◌∙◌}
use Rattle.std.proofs.lemmas.Result.{on_ok_weaker}
use Rattle.std.proofs.lemmas.Str.{encodes-chars}
use Rattle.atspi_base.specs.Quoted.{in_quotes}
use Rattle.atspi_script.proofs.values.put_text.Goals as goal

pub returns-clause-ok : goal.returns-clause-ok
returns-clause-ok c =
    on_ok_weaker c.put_in_quotes.result
    (λ e. e ∙ ap (λ (bs : List ℕ). c.args.out.now ++ in_quotes bs) (c.as_bytes.ensures.value ∙ sym (encodes-chars c.args.text.now c.utf8.text)))
    c.put_in_quotes.ensures.ok
