use Rattle.std.proofs.Common.{◌≡◌, ◌∙◌, length, arith}
use Rattle.std.specs.Prelude.{vec_len}
use Rattle.atspi_world.proofs.Outcomes.{same_of}
use Rattle.atspi_world.proofs.stage.Stage.refusal.Goals as goal

pub returns-clause-exact : goal.returns-clause-exact
returns-clause-exact g c =
    let s = c.args.self.now in
    let apps : vec_len s.cast.apps ≡ length s.cast.apps.items = omega (arith, s.cast.apps.ok.0) in
    let readers : vec_len s.cast.readers ≡ length s.cast.readers.items = omega (arith, s.cast.readers.ok.0) in
    let spares : vec_len s.spares ≡ length s.spares.items = omega (arith, s.spares.ok.0) in
    λ w is. c.why_refused.ensures.exact w (same_of w _ _ _ _ _ _ _ _ c.as_slice.ensures.value (c.len.ensures ∙ apps) (c.len-2.ensures ∙ readers) (c.len-3.ensures ∙ spares) is)
