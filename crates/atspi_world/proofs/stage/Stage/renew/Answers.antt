use Rattle.std.proofs.Common.{◌≡◌, min, map, ap, ◌∙◌, arith}
use Rattle.std.specs.Prelude.{length, vec_items}
use Rattle.std.proofs.lemmas.Result.{on_ok_weaker}
use Rattle.atspi_match.specs.routing.Queues.{empty_bus}
use Rattle.atspi_world.proofs.Beginning.{begun_over, renewed}
use Rattle.atspi_world.proofs.stage.Stage.renew.Goals as goal

pub returns-clause-does : goal.returns-clause-does
returns-clause-does g c =
    on_ok_weaker c.begin.result (λ begins p room most is few.
    let whole : min c.args.quota 67108864 ≡ c.args.quota = omega (arith, most) in
    renewed p c.args.quota _ _ is few
    (begun_over _ _ _ _ _ _ _ _ (ap vec_items c.renew.ensures.trace) (begins c.args.quota room most (c.renew.ensures.bus ∙ ap empty_bus whole) c.renew.ensures.posts c.renew.ensures.given c.in_ok-self.ensures))
    (ap (λ v. map g.A.Application.exporter (vec_items v)) c.begin.ensures.ends.0) (ap (λ v. map g.R.Follower.follower (vec_items v)) c.begin.ensures.ends.1)
    (ap (λ v. length (vec_items v)) c.begin.ensures.left.0) (ap (λ v. length (vec_items v)) c.begin.ensures.left.1)) c.begin.ensures.begins
