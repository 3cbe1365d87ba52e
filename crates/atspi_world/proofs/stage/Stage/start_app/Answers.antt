use Rattle.std.proofs.Common.{◌≡◌, suc, length, subst, arith}
use Rattle.std.proofs.lemmas.Result.{on_ok_weaker}
use Rattle.atspi_world.specs.Worlds.{staged, IsPlaying}
use Rattle.atspi_world.proofs.stage.Stage.start_app.Goals as goal

pub returns-in-Some-clause-does : goal.returns-in-Some-clause-does
returns-in-Some-clause-does g c =
    let s = c.args.self.now in
    let more : length s.kits.items ≡ suc (length c.pop.new.self.items) = omega (arith, c.in-Some.ensures) in
    on_ok_weaker c.add_app.result (λ done p is few.
    (let a = done p
    (subst (λ n. IsPlaying p (record (staged g.A.Application.exporter g.R.Follower.follower s) { kits = n })) more is) in
    record { is = a.is; wrote = a.wrote })) c.add_app.ensures.does

pub returns-in-None-clause-does : goal.returns-in-None-clause-does
returns-in-None-clause-does g c = λ p is few. absurd (omega (arith, few, is.is.kits_are, is.is.apps_are, c.in-None.ensures))
