use Rattle.std.proofs.Common.{ap, ◌∙◌, List, ℕ, cond, true, bytes_eq}
use Rattle.std.specs.BTreeSet.{contains_text}
use Rattle.std.specs.String.{string_bytes}
use Rattle.std.proofs.lemmas.Map.Text.{btree_set_updates_text}
use Rattle.atspi_reader_known.proofs.refused.put.Goals as goal

pub returns-clause-ok : goal.returns-clause-ok
returns-clause-ok c = λ q.
    btree_set_updates_text (string_bytes c.in_ok-path.path) c.args.set.now c.insert.new.self true c.in_ok-insert.ensures.updates q
    ∙ ap (λ (n : List ℕ). cond (bytes_eq n q) true (contains_text c.args.set.now q)) (c.in_ok-path.ensures.ok ∙ c.as_str.ensures.bytes)
