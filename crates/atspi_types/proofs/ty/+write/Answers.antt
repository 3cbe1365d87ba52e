use Rattle.std.proofs.Common.{◌++◌, arith, ◌∙◌, ap, sym, map, take}
use Rattle.atspi_types.specs.Kinds.{kinds_of}
use Rattle.atspi_types.specs.KindView.{kind_of, kinds_in}
use Rattle.atspi_types.specs.Signatures.{signature_bytes}
use Rattle.atspi_types.proofs.KindLemmas.{kinds_in-map}
use Rattle.atspi_types.proofs.LawfulLemmas.{kind_size_in}
use Rattle.atspi_types.proofs.SpellingLemmas.{bytes_more, kinds_all}
use Rattle.atspi_types.proofs.TypeLemmas.{front_of_more}
use Rattle.atspi_types.proofs.ty.+write.Goals as goal

pub Tys::spell-spell-requires : goal.Tys::spell-spell-requires
Tys::spell-spell-requires t c =
    let below = kind_size_in c.deref-ty-items.result.now (kinds_in c.args.self.now) c.loop-ty.ty-index c.ty-item.result
    (ap (map kind_of) c.deref-ty-items.ensures.value ∙ sym (kinds_in-map c.args.self.now)) (omega arith) c.ty-item.is in
    (omega (arith, below, c.decreases), tt)

pub Tys::spell-returns-in_err-spell-clause-front : goal.Tys::spell-returns-in_err-spell-clause-front
Tys::spell-returns-in_err-spell-clause-front t c =
    front_of_more c.args.out.now c.loop-ty.out c.spell.new.out (signature_bytes (kinds_of (map kind_of (take c.loop-ty.ty-index c.deref-ty-items.result.now)))) c.loop-ty.invariant c.in_err-spell.ensures.front

pub Tys::spell-loop-ty-preserved : goal.Tys::spell-loop-ty-preserved
Tys::spell-loop-ty-preserved t c =
    bytes_more c.deref-ty-items.result.now c.loop-ty.ty-index c.ty-item.result c.args.out.now c.loop-ty.out c.spell.new.out (omega arith) c.ty-item.is c.loop-ty.invariant c.in_ok-spell.ensures.ok

pub Tys::spell-returns-clause-ok : goal.Tys::spell-returns-clause-ok
Tys::spell-returns-clause-ok t c =
    c.loop-ty.invariant ∙ ap (λ ks. c.args.out.now ++ signature_bytes (kinds_of ks)) (kinds_all c.args.self.now c.deref-ty-items.result.now c.loop-ty.ty-index c.deref-ty-items.ensures.value (omega arith))
