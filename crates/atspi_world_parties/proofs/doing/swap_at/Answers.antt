use Rattle.std.proofs.Common.{ap, map, set, ◌∙◌}
use Rattle.std.proofs.lemmas.Result.{on_err_weaker, on_ok_weaker}
use Rattle.atspi_world_parties.proofs.Elements.{map_set, same_there}
use Rattle.atspi_world_parties.proofs.doing.swap_at.Goals as goal

pub returns-clause-same : goal.returns-clause-same
returns-clause-same g c = same_there g.A.Application.exporter c.args.apps.now c.args.number _ c.swap_face.new.self (cc (c.index-apps-place.is)) c.swap_face.ensures.same

pub returns-clause-moved : goal.returns-clause-moved
returns-clause-moved g c =
    let texts = g.A.Application.texts in
    on_ok_weaker c.swap_face.result (λ moved. λ less. map_set texts c.args.apps.now c.args.number c.swap_face.new.self
    ∙ ap (set (map texts c.args.apps.now) c.args.number) moved) c.swap_face.ensures.moved

pub returns-clause-stay : goal.returns-clause-stay
returns-clause-stay g c =
    on_err_weaker c.swap_face.result
    (λ stay. same_there g.A.Application.texts c.args.apps.now c.args.number _ c.swap_face.new.self (cc (c.index-apps-place.is)) stay) c.swap_face.ensures.stay
