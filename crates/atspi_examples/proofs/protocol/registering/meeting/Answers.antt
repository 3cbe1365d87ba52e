use Rattle.std.proofs.Common.{◌≡◌, ◌≢◌, ℕ, true, false, refl, arith}
use Rattle.atspi_message.specs.Rules.{MeetsRules}
use Rattle.atspi_examples.specs.protocol.Lists.{ping}
use Rattle.atspi_examples.proofs.protocol.registering.meeting.Goals as goal

-- a call with a path, a member and a number meets them
meets : (n : ℕ) → n ≢ 0 → MeetsRules (record ping { serial = n })
meets n numbered = record {
  typed = λ e. omega (arith, e);
  required = record { call = λ _. (refl, refl); return_ = λ e. absurd (omega (arith, e)); error = λ e. absurd (omega (arith, e)); signal = λ e. absurd (omega (arith, e)) };
  numbered = numbered;
  replies = tt;
  body = tt;
}

pub returns-clause-one : goal.returns-clause-one
returns-clause-one c = (meets 7 (λ e. omega (arith, e)), tt)

pub returns-clause-two : goal.returns-clause-two
returns-clause-two c = (meets 7 (λ e. omega (arith, e)), (meets 8 (λ e. omega (arith, e)), tt))

pub returns-clause-unnumbered : goal.returns-clause-unnumbered
returns-clause-unnumbered c = λ all. all.0.numbered refl

pub returns-clause-untyped : goal.returns-clause-untyped
returns-clause-untyped c = λ all. all.0.typed refl

pub returns-clause-pathless : goal.returns-clause-pathless
returns-clause-pathless c = λ all. let path : false ≡ true = (all.0.required.call refl).0 in absurd cc

pub returns-clause-second : goal.returns-clause-second
returns-clause-second c = λ all. all.1.0.numbered refl
