use Rattle.std.proofs.Common.{ap, bytes_eq, cond, Some, List, ℕ, ◌∙◌}
use Rattle.std.proofs.lemmas.Map.Text.{btree_map_updates_text}
use Rattle.std.specs.BTreeMap.{get_by_text}
use Rattle.std.specs.String.{string_bytes}
use Rattle.atspi_reader_known.proofs.places.Places.put.Goals as goal

pub returns-clause-ok : goal.returns-clause-ok
returns-clause-ok c = λ q.
    btree_map_updates_text (string_bytes c.in_ok-name.name) c.args.self.now.places c.insert.new.self (Some c.args.place) c.in_ok-insert.ensures.updates q
    ∙ ap (λ (n : List ℕ). cond (bytes_eq n q) (Some c.args.place) (get_by_text c.args.self.now.places q)) c.in_ok-name.ensures.ok
