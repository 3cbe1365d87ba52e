use Rattle.std.proofs.Common.{refl, arith}
use Rattle.atspi_live_examples.proofs.app.handing.applications_kept.Goals as goal

pub returns-clause-kit : goal.returns-clause-kit
returns-clause-kit c = refl

pub returns-clause-other_kit : goal.returns-clause-other_kit
returns-clause-other_kit c h = omega (arith, h)

pub returns-clause-no_kit : goal.returns-clause-no_kit
returns-clause-no_kit c h = h

pub returns-clause-app : goal.returns-clause-app
returns-clause-app c = refl

pub returns-clause-other_app : goal.returns-clause-other_app
returns-clause-other_app c h = omega (arith, h)

pub returns-clause-not_started : goal.returns-clause-not_started
returns-clause-not_started c = tt

pub returns-clause-started : goal.returns-clause-started
returns-clause-started c = refl

pub returns-clause-other_started : goal.returns-clause-other_started
returns-clause-other_started c h = omega (arith, h)

pub returns-clause-seen_not : goal.returns-clause-seen_not
returns-clause-seen_not c = refl

pub returns-clause-seen_so : goal.returns-clause-seen_so
returns-clause-seen_so c s = refl
