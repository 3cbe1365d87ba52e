use Rattle.std.proofs.Common.{◌++◌, refl, ap, ◌∙◌}
use Rattle.atspi_world_moves.proofs.Rejoining.{told_ok, told_err}
use Rattle.atspi_world.specs.Stage.{gives_line_up}
use Rattle.atspi_world.specs.Worlds.{staged}
use Rattle.atspi_world.specs.declared.fault.ActFault.TheVariants.{Refused, Spent, RegistryLost}
use Rattle.atspi_world.proofs.Rejoining.{told_halted, told_refuses, playing_on, line_done_on, line_lost_on, line_spent_on, nothing_on}
use Rattle.atspi_world.proofs.stage.Stage.act.Goals as goal

pub returns-clause-stage : goal.returns-clause-stage
returns-clause-stage g c = told_halted _ _ c.rejoin.result c.act_apart-done.result c.rejoin.ensures.told c.act_apart-done.ensures.stage

pub returns-clause-does : goal.returns-clause-does
returns-clause-does g c =
    let s = c.args.self.now in
    let did = c.act_apart-done.new.self in
    let old = staged g.A.Application.exporter g.R.Follower.follower s in
    let after = staged g.A.Application.exporter g.R.Follower.follower did in
    told_ok gives_line_up c.rejoin.result c.act_apart-done.result c.rejoin.ensures.told c.act_apart-done.ensures.does
    (λ done more. line_done_on c.args.line.now old after c.apart-before.new.trace.items c.rejoin.new.trace.items c.apart-before.ensures.none (more ∙ ap (λ l. l ++ did.carrier.trace.items) c.apart-before.ensures.before) done)

pub returns-clause-refused : goal.returns-clause-refused
returns-clause-refused g c = λ why is p playing.
    let so = told_err gives_line_up c.rejoin.result c.act_apart-done.result (Refused why) refl c.rejoin.ensures.told is in
    c.act_apart-done.ensures.refused why so.0 p (playing_on p _ c.apart-before.new.trace.items playing)

pub returns-clause-refuses : goal.returns-clause-refuses
returns-clause-refuses g c = λ p due playing is.
    told_refuses _ c.rejoin.result c.act_apart-done.result due c.rejoin.ensures.told (c.act_apart-done.ensures.refuses p due (playing_on p _ c.apart-before.new.trace.items playing) is)

pub returns-clause-nothing : goal.returns-clause-nothing
returns-clause-nothing g c = λ why is.
    let s = c.args.self.now in
    let did = c.act_apart-done.new.self in
    let old = staged g.A.Application.exporter g.R.Follower.follower s in
    let after = staged g.A.Application.exporter g.R.Follower.follower did in
    let so = told_err gives_line_up c.rejoin.result c.act_apart-done.result (Refused why) refl c.rejoin.ensures.told is in
    let more = so.1 in
    nothing_on c.args.line.now old after c.apart-before.new.trace.items c.rejoin.new.trace.items c.apart-before.ensures.none (more ∙ ap (λ l. l ++ did.carrier.trace.items) c.apart-before.ensures.before) (c.act_apart-done.ensures.nothing why so.0)

pub returns-clause-lost : goal.returns-clause-lost
returns-clause-lost g c = λ is.
    let s = c.args.self.now in
    let did = c.act_apart-done.new.self in
    let old = staged g.A.Application.exporter g.R.Follower.follower s in
    let after = staged g.A.Application.exporter g.R.Follower.follower did in
    let so = told_err gives_line_up c.rejoin.result c.act_apart-done.result RegistryLost refl c.rejoin.ensures.told is in
    let more = so.1 in
    line_lost_on c.args.line.now old after c.apart-before.new.trace.items c.rejoin.new.trace.items c.apart-before.ensures.none (more ∙ ap (λ l. l ++ did.carrier.trace.items) c.apart-before.ensures.before) (c.act_apart-done.ensures.lost so.0)

pub returns-clause-spent : goal.returns-clause-spent
returns-clause-spent g c = λ is.
    let s = c.args.self.now in
    let did = c.act_apart-done.new.self in
    let old = staged g.A.Application.exporter g.R.Follower.follower s in
    let after = staged g.A.Application.exporter g.R.Follower.follower did in
    let so = told_err gives_line_up c.rejoin.result c.act_apart-done.result Spent refl c.rejoin.ensures.told is in
    let more = so.1 in
    line_spent_on c.args.line.now old after c.apart-before.new.trace.items c.rejoin.new.trace.items c.apart-before.ensures.none (more ∙ ap (λ l. l ++ did.carrier.trace.items) c.apart-before.ensures.before) (c.act_apart-done.ensures.spent so.0)
