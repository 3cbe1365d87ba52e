use Rattle.std.proofs.Common.{ap, ◌∙◌, List, ℕ, cond, false, bytes_eq}
use Rattle.std.specs.BTreeSet.{contains_text}
use Rattle.std.proofs.lemmas.Map.Text.{btree_set_updates_text}
use Rattle.atspi_reader_known.proofs.refused.take_out.Goals as goal

pub returns : goal.returns
returns c = λ q.
    btree_set_updates_text c.as_str.result.now c.args.set.now c.remove.new.self false c.remove.ensures.updates q
    ∙ ap (λ (n : List ℕ). cond (bytes_eq n q) false (contains_text c.args.set.now q)) c.as_str.ensures.bytes
