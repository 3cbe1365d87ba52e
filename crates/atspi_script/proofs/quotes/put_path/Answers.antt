use Rattle.std.proofs.Common.{List, ℕ, [], ◌∷◌, ◌++◌, sym, ap, ◌∙◌, append_assoc}
use Rattle.std.proofs.lemmas.Result.{on_ok_weaker}
use Rattle.atspi_script.proofs.PathLemmas.{path_stands}
use Rattle.atspi_script.proofs.quotes.put_path.Goals as goal

pub returns-clause-ok : goal.returns-clause-ok
returns-clause-ok c =
    let out = c.args.out.now in
    let path = c.args.path in
    on_ok_weaker c.put_plain.result
    (λ e. e ∙ append_assoc out (34 ∷ c.as_bytes.result.now) (34 ∷ []) ∙ ap (λ (bs : List ℕ). out ++ 34 ∷ (bs ++ 34 ∷ [])) (c.as_bytes.ensures.value ∙ sym (path_stands path.text.now path.rule)))
    c.put_plain.ensures.ok
