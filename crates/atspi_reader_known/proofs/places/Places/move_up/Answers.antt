use Rattle.std.proofs.Common.{rules}
use Rattle.std.proofs.lemmas.Map.Made.{map_same_pairs, lookup-map_values}
use Rattle.std.proofs.lemmas.Map.Text.{text_cmp}
use Rattle.std.specs.BTreeMap.{is_at}
use Rattle.atspi_reader_known.specs.Places.{moved_up}
use Rattle.atspi_reader_known.proofs.places.Places.move_up.Goals as goal

pub returns : goal.returns
returns c =
    let e = map_same_pairs _ (moved_up c.args.gone) _ (λ k v b w f' t. search rules) _ _ c.retain.ensures.filtered in
    λ q. rw e (lookup-map_values (moved_up c.args.gone) (is_at (text_cmp q)) c.args.self.now.places.entries)
