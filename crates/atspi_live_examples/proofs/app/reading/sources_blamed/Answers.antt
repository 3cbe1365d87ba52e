use Rattle.std.proofs.Common.{refl, inl, inr, arith, lit<}
use Rattle.atspi_live_examples.proofs.app.reading.sources_blamed.Goals as goal

pub returns-clause-failed : goal.returns-clause-failed
returns-clause-failed c = inl (lit< tt)

pub returns-clause-failed_same : goal.returns-clause-failed_same
returns-clause-failed_same c (inl h) = omega (arith, h)
returns-clause-failed_same c (inr h) = omega (arith, h)

pub returns-clause-whole : goal.returns-clause-whole
returns-clause-whole c = refl

pub returns-clause-whole_rose : goal.returns-clause-whole_rose
returns-clause-whole_rose c h = omega (arith, h)

pub returns-clause-too_long_rose : goal.returns-clause-too_long_rose
returns-clause-too_long_rose c h = omega (arith, h)

pub returns-clause-read : goal.returns-clause-read
returns-clause-read c = inl (lit< tt)

pub returns-clause-wanting : goal.returns-clause-wanting
returns-clause-wanting c e = refl

pub returns-clause-wanting_rose : goal.returns-clause-wanting_rose
returns-clause-wanting_rose c e h = omega (arith, h)
