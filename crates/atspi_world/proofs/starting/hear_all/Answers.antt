use Rattle.std.proofs.Common.{◌+◌, ◌<◌, length, refl, sym, ap, ◌∙◌, arith}
use Rattle.std.specs.Prelude.{vec_items}
use Rattle.atspi_bus_steps.specs.InnerBus.{inner_of}
use Rattle.atspi_world_moves.specs.Filled.{waits_for}
use Rattle.atspi_world_moves.proofs.Beginning.{gave_none, gave_more}
use Rattle.atspi_world.proofs.Beginning.{none_left}
use Rattle.atspi_world.proofs.Hearing.{nothing_heard, at_as, more_heard, all_heard, heard_as}
use Rattle.atspi_world_parties.proofs.Queued.{written_back}
use Rattle.atspi_world.proofs.starting.hear_all.Goals as goal

pub loop-message-init : goal.loop-message-init
loop-message-init c =
    let s = c.args.carrier.now in
    record {
      sound = c.requires.sound;
      posts = refl;
      trace = refl;
      hears = nothing_heard (inner_of s.bus) s.posts.items s.at_end.items c.args.conn c.args.registry.now;
      gone = (0, sym (gave_none (inner_of s.bus) c.args.conn));
    }

pub loop-message-preserved : goal.loop-message-preserved
loop-message-preserved c =
    let s = c.args.carrier.now in
    let was = c.loop-message in
    let inv = was.invariant in
    let some : 0 < length (waits_for (inner_of was.carrier.bus) c.args.conn) = omega (arith, c.waiting.ensures.len, c.if-waiting-eq0.false) in
    record {
      sound = c.fill.ensures.sound;
      posts = c.fill.ensures.posts ∙ inv.posts;
      trace = c.fill.ensures.trace ∙ inv.trace;
      hears = heard_as (inner_of s.bus) (inner_of c.fill.new.self.bus) s.posts.items was.carrier.posts.items c.fill.new.self.posts.items s.at_end.items _ c.args.conn c.args.registry.now _ (ap vec_items (sym c.fill.ensures.posts))
          (more_heard (inner_of s.bus) (inner_of was.carrier.bus) (inner_of c.fill.new.self.bus) s.posts.items was.carrier.posts.items s.at_end.items was.carrier.at_end.items c.fill.new.self.at_end.items _ c.args.conn
          c.in_ok-fill.field-0 c.args.registry.now was.registry c.hear_at.new.registry inv.hears some c.in_ok-fill.ensures.brings
          (at_as c.deref_mut.result.now c.fill.new.self.at_end.items c.hear_at.new.at_end _ c.args.conn was.registry c.hear_at.new.registry c.deref_mut.ensures.value (sym (written_back _ c.hear_at.new.at_end _ (omega arith))) c.in_ok-hear_at.ensures.hears));
      gone = (inv.gone.0 + c.in_ok-fill.field-0, gave_more (inner_of s.bus) (inner_of was.carrier.bus) (inner_of c.fill.new.self.bus) c.args.conn inv.gone.0 c.in_ok-fill.field-0 inv.gone.1 c.in_ok-fill.ensures.bus);
    }

pub returns-then-waiting-eq0-clause-heard : goal.returns-then-waiting-eq0-clause-heard
returns-then-waiting-eq0-clause-heard c =
    let inv = c.loop-message.invariant in
    record { count = inv.gone.0; gone = inv.gone.1; none = none_left _ (sym c.waiting.ensures.len ∙ c.if-waiting-eq0.true) }

pub returns-then-waiting-eq0-clause-hears : goal.returns-then-waiting-eq0-clause-hears
returns-then-waiting-eq0-clause-hears c =
    let s = c.args.carrier.now in
    let was = c.loop-message in
    let inv = was.invariant in
    all_heard (inner_of s.bus) (inner_of was.carrier.bus) s.posts.items s.at_end.items was.carrier.at_end.items c.args.conn c.args.registry.now was.registry
    (heard_as (inner_of s.bus) (inner_of was.carrier.bus) s.posts.items was.carrier.posts.items s.posts.items s.at_end.items was.carrier.at_end.items c.args.conn c.args.registry.now was.registry (ap vec_items inv.posts) inv.hears)
    (none_left _ (sym c.waiting.ensures.len ∙ c.if-waiting-eq0.true))
