use Rattle.std.proofs.Common.{◌≡◌, min, map, length, ap, ◌∙◌, arith}
use Rattle.std.specs.Prelude.{vec_items}
use Rattle.atspi_script_lines.specs.declared.limits.TheConstants.{QUOTA_MOST}
use Rattle.atspi_match.specs.routing.Queues.{empty_bus}
use Rattle.atspi_trace.specs.Entry.{entries_of}
use Rattle.atspi_world.proofs.Beginning.{first_plays, untold}
use Rattle.atspi_world.proofs.stage.Stage.new.Goals as goal

-- the quota that it takes is within the bus's own limit
whole : min QUOTA_MOST 67108864 ≡ QUOTA_MOST
whole = omega arith

pub returns-clause-begins : goal.returns-clause-begins
returns-clause-begins g c = λ kits spares.
    let begun = c.in_ok-begin.ensures.begins QUOTA_MOST (omega arith) (omega arith) (c.new-2.ensures.bus ∙ ap empty_bus whole) c.new-2.ensures.posts c.new-2.ensures.given c.in_ok-cast.ensures.registry in
    first_plays QUOTA_MOST _ _ begun (ap (λ v. length (map g.A.Application.exporter (vec_items v))) c.begin.ensures.ends.0 ∙ ap (λ l. length (map g.A.Application.exporter l)) c.in_ok-cast.ensures.apps)
    (ap (λ v. length (map g.R.Follower.follower (vec_items v))) c.begin.ensures.ends.1 ∙ ap (λ l. length (map g.R.Follower.follower l)) c.in_ok-cast.ensures.readers)
    (ap (λ v. length (vec_items v)) c.begin.ensures.left.0 ∙ kits) (ap (λ v. length (vec_items v)) c.begin.ensures.left.1 ∙ spares)

pub returns-clause-silent : goal.returns-clause-silent
returns-clause-silent g c =
    let begun = c.in_ok-begin.ensures.begins QUOTA_MOST (omega arith) (omega arith) (c.new-2.ensures.bus ∙ ap empty_bus whole) c.new-2.ensures.posts c.new-2.ensures.given c.in_ok-cast.ensures.registry in
    untold _ (begun.silent ∙ ap entries_of c.new-2.ensures.trace)
