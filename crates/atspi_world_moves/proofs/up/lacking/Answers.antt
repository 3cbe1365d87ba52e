use Rattle.std.proofs.Common.{◌-◌, Some, refl, ap, ◌∙◌}
use Rattle.atspi_message.specs.Bytes.{written}
use Rattle.atspi_world_moves.proofs.Views.{empty_message}
use Rattle.atspi_world_moves.proofs.up.lacking.Goals as goal

pub returns-in-None-clause-exact : goal.returns-in-None-clause-exact
returns-in-None-clause-exact c = record {
  none = λ e. refl;
  some = λ m rest is front. absurd (c.in-None.ensures.given m (written m) rest is (c.as_slice.ensures ∙ front));
}

pub returns-in-Some-clause-exact : goal.returns-in-Some-clause-exact
returns-in-Some-clause-exact c = record {
  none = λ e. absurd (empty_message _ _ _ (c.as_slice.ensures ∙ e) c.in-Some.ensures.message);
  some = λ m rest is front. ap Some (c.saturating_sub.ensures ∙ ap (λ n. n - c.args.post.now.begun) (c.in-Some.ensures.given m (written m) rest is (c.as_slice.ensures ∙ front)).1);
}
