use Rattle.std.proofs.Common.{map, arith, refl, ap, ◌∙◌}
use Rattle.std.specs.Prelude.{slice_get}
use Rattle.std.proofs.lemmas.Result.{on_ok_weaker}
use Rattle.atspi_bus_steps.specs.InnerBus.{inner_of}
use Rattle.atspi_world_moves.proofs.Ties.{post_is, post_below}
use Rattle.atspi_script_lines.specs.declared.line.Party.TheVariants.{App}
use Rattle.atspi_world_parties.specs.Shown.{shown_by}
use Rattle.atspi_world.proofs.Conns.{conn_end}
use Rattle.atspi_world.proofs.Shows.{shown_as}
use Rattle.atspi_world.proofs.stage.Stage.show.Goals as goal

pub returns-clause-shows : goal.returns-clause-shows
returns-clause-shows g c =
    let s = c.args.self.now in
    on_ok_weaker c.note.result (λ told p at is there place. (let e = conn_end p.world.ends (App c.args.app) c.args.conn there in
    shown_as p c.args.conn at c.args.reader c.args.app e.0 c.index.result.now c.in_ok-rows.rows _ _ is there place e.1
    (post_is p.world (inner_of s.carrier.bus) s.carrier.posts.items c.args.conn e.0 c.index.result.now is.is.carried e.1 c.index.ensures)
    (c.in_ok-rows.ensures ∙ ap (λ l. shown_by (slice_get (map g.R.Follower.follower l) c.args.reader) c.index.result.now.name) c.deref.ensures.value)
    told refl refl refl refl refl (record { registry = refl; kits = refl; spares = refl }))) c.note.ensures.told

pub returns-then-conn-len-clause-shows : goal.returns-then-conn-len-clause-shows
returns-then-conn-len-clause-shows g c = λ p at is there place.
    let e = conn_end p.world.ends (App c.args.app) c.args.conn there in
    let within = post_below p.world (inner_of c.args.self.now.carrier.bus) c.args.self.now.carrier.posts.items c.args.conn e.0 is.is.carried e.1 in
    absurd (omega (arith, within, c.if-conn-len.true, c.len.ensures))
