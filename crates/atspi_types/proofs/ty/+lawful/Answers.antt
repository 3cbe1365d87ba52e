use Rattle.std.proofs.Common.{arith, sym, refl}
use Rattle.atspi_types.specs.Kinds.{kinds_of, IsLawful, AreLawful}
use Rattle.atspi_types.specs.KindView.{kind_of, kinds_in}
use Rattle.atspi_types.proofs.LawfulLemmas.{kind_size_in, lawful_more, lawful_at, lawful_struct}
use Rattle.atspi_types.proofs.Verdicts.{no_if, not_if}
use Rattle.atspi_types.proofs.ty.+lawful.Goals as goal

pub Ty::is_lawful-returns-then-not-is_empty : goal.Ty::is_lawful-returns-then-not-is_empty
Ty::is_lawful-returns-then-not-is_empty t c =
    lawful_struct (kind_of c.args.self.now) (kinds_in c.in-Struct.fields.now) c.are_lawful.result c.in-Struct.ensures (sym c.if-not-is_empty.ensures) c.are_lawful.ensures

pub Tys::are_lawful-is_lawful-requires : goal.Tys::are_lawful-is_lawful-requires
Tys::are_lawful-is_lawful-requires t c =
    let below = kind_size_in c.as_slice-ty-items.result.now (kinds_in c.args.self.now) c.loop-ty.ty-index c.ty-item.result c.as_slice-ty-items.ensures (omega arith) c.ty-item.is in
    (omega (arith, below, c.decreases), tt)

pub Tys::are_lawful-returns-then-not-is_lawful : goal.Tys::are_lawful-returns-then-not-is_lawful
Tys::are_lawful-returns-then-not-is_lawful t c =
    no_if (AreLawful (kinds_of (kinds_in c.args.self.now)))
    (λ all. not_if (IsLawful (kind_of c.ty-item.result)) c.if-not-is_lawful.ensures
    (lawful_at c.as_slice-ty-items.result.now (kinds_in c.args.self.now) c.loop-ty.ty-index c.ty-item.result c.as_slice-ty-items.ensures (omega arith) c.ty-item.is all))

pub Tys::are_lawful-loop-ty-preserved : goal.Tys::are_lawful-loop-ty-preserved
Tys::are_lawful-loop-ty-preserved t c =
    lawful_more c.as_slice-ty-items.result.now c.loop-ty.ty-index c.ty-item.result (omega arith) c.ty-item.is c.loop-ty.invariant (c.if-not-is_lawful.ensures.0 refl)
