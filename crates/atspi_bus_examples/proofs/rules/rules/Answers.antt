use Rattle.std.proofs.Common.{◌≡◌, ℕ, true, false, List, length, refl, inl, inr, arith}
use Rattle.std.specs.Prelude.{codes}
use Rattle.atspi_base.specs.valid_names.Names.{IsBusName}
use Rattle.atspi_base.specs.valid_names.Elements.{parts_of}
use Rattle.atspi_match.specs.Conditions.{IsNamespace}
use Rattle.atspi_bus_examples.proofs.rules.rules.Goals as goal

a_name : IsBusName (codes "a.b")
unfolding parts_of
a_name = record { elements = inr (record { each = ((refl, tt), ((refl, tt), tt)); many = omega arith }); short = omega arith }

pub returns-clause-path : goal.returns-clause-path
returns-clause-path c =
    record { rising = ((omega arith, tt), (tt, tt)); each = ((refl, inl refl), (a_name, tt)); one_path = refl }

pub returns-clause-namespace : goal.returns-clause-namespace
returns-clause-namespace c =
    record { rising = ((omega arith, tt), (tt, tt)); each = ((refl, inl refl), (a_name, tt)); one_path = refl }

pub returns-clause-both : goal.returns-clause-both
returns-clause-both c = λ is. let e : true ≡ false = is.one_path in absurd cc

pub returns-clause-falling : goal.returns-clause-falling
returns-clause-falling c = λ is. omega (arith, is.rising.0.0)

pub returns-clause-twice : goal.returns-clause-twice
returns-clause-twice c = λ is. omega (arith, is.rising.0.0)

pub returns-clause-longest_namespace : goal.returns-clause-longest_namespace
returns-clause-longest_namespace c = λ bytes element long. inr (element, omega (arith, long))

too_long : (bytes : List ℕ) → length bytes ≡ 256 → IsNamespace bytes → ⊥
too_long bytes long (inl name) = omega (arith, long, name.short)
too_long bytes long (inr element) = omega (arith, long, element.1)

pub returns-clause-too_long_a_namespace : goal.returns-clause-too_long_a_namespace
returns-clause-too_long_a_namespace c = too_long
