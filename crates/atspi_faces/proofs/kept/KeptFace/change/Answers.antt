use Rattle.std.proofs.Common.{ap, sym, ◌∙◌}
use Rattle.std.proofs.lemmas.Option.{MatchOption-at_some, MatchOption-at_none}
use Rattle.std.proofs.lemmas.Result.{on_ok_weaker, on_err_weaker}
use Rattle.std.specs.Option.{option_map, option_map_or}
use Rattle.std.specs.FinMap.{insert}
use Rattle.atspi_faces.specs.face.Contents.{IsChange, changed}
use Rattle.atspi_faces.specs.Kept.{nodes_of}
use Rattle.atspi_faces.proofs.AskedLemmas.{may_change}
use Rattle.atspi_faces.proofs.NodeLemmas.{get_nodes, put_nodes, insert_same, some_at}
use Rattle.atspi_faces.proofs.kept.KeptFace.change.Goals as goal

pub change-requires : goal.change-requires
change-requires g c =
    let view = g.C.Contents.as_data in
    let here = get_nodes view c.args.self.now.nodes.entries c.args.node ∙ ap (option_map view) (sym c.in-Some.ensures.value) in
    may_change _ c.args.what.now (MatchOption-at_some ⊥ (λ old. IsChange old c.args.what.now) _ here c.requires)

pub unreachable-requires : goal.unreachable-requires
unreachable-requires g c =
    let view = g.C.Contents.as_data in
    let here = get_nodes view c.args.self.now.nodes.entries c.args.node ∙ ap (option_map view) (sym c.in-None.ensures.value) in
    MatchOption-at_none ⊥ (λ old. IsChange old c.args.what.now) here c.requires

pub returns-clause-ok : goal.returns-clause-ok
returns-clause-ok g c =
    let view = g.C.Contents.as_data in
    let es = c.args.self.now.nodes.entries in
    let k = c.args.node in
    let new = c.change.new.self in
    let here = get_nodes view es k ∙ ap (option_map view) (sym c.in-Some.ensures.value) in
    let h = c.get_mut.follows.holds new in
    let put = put_nodes view es _ k new (h.3 (some_at (sym c.in-Some.ensures.value))).0 in
    on_ok_weaker c.change.result
    (λ same. put ∙ ap (insert (nodes_of view es) k) same ∙ ap (λ o. option_map_or (λ what. insert (nodes_of view es) k (changed what c.args.what.now)) o (nodes_of view es)) (sym here))
    c.change.ensures.ok

pub returns-clause-err : goal.returns-clause-err
returns-clause-err g c =
    let view = g.C.Contents.as_data in
    let es = c.args.self.now.nodes.entries in
    let k = c.args.node in
    let new = c.change.new.self in
    let here = get_nodes view es k ∙ ap (option_map view) (sym c.in-Some.ensures.value) in
    let h = c.get_mut.follows.holds new in
    let put = put_nodes view es _ k new (h.3 (some_at (sym c.in-Some.ensures.value))).0 in
    on_err_weaker c.change.result
    (λ same. put ∙ ap (insert (nodes_of view es) k) same ∙ insert_same (nodes_of view es) k _ here)
    c.change.ensures.err
