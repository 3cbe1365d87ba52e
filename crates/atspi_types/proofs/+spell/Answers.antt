use Rattle.std.proofs.Common.{[], ◌∷◌, ◌++◌, ap, ◌∙◌, arith, take, map}
use Rattle.atspi_types.specs.Borrowed.{ref_data}
use Rattle.atspi_types.specs.Data.{type_of}
use Rattle.atspi_types.specs.DataView.{all_data}
use Rattle.atspi_types.specs.Kinds.{Kinds, kinds_of}
use Rattle.atspi_types.specs.Signatures.{signature_bytes}
use Rattle.atspi_types.proofs.TypeLemmas.{size_at, types_whole, type_bytes_more, front_of_more, front_pushed}
use Rattle.atspi_types.proofs.+spell.Goals as goal

pub value::Values::spell_types-spell_type-requires : goal.value::Values::spell_types-spell_type-requires
value::Values::spell_types-spell_type-requires t c =
    let below = size_at (all_data c.args.self.now) c.loop-i.i (ref_data c.at.result) c.at.ensures in
    (omega (arith, below, c.decreases), tt)

pub value::Values::spell_types-returns-in_err-spell_type-clause-front : goal.value::Values::spell_types-returns-in_err-spell_type-clause-front
value::Values::spell_types-returns-in_err-spell_type-clause-front t c =
    front_of_more c.args.out.now c.loop-i.out c.spell_type.new.out (signature_bytes (kinds_of (map type_of (take c.loop-i.i (all_data c.args.self.now))))) c.loop-i.invariant c.in_err-spell_type.ensures.front

pub value::Values::spell_types-loop-i-preserved : goal.value::Values::spell_types-loop-i-preserved
value::Values::spell_types-loop-i-preserved t c =
    type_bytes_more (all_data c.args.self.now) c.loop-i.i (ref_data c.at.result) c.args.out.now c.loop-i.out c.spell_type.new.out c.at.ensures c.loop-i.invariant c.in_ok-spell_type.ensures.ok

pub value::Values::spell_types-returns-clause-ok : goal.value::Values::spell_types-returns-clause-ok
value::Values::spell_types-returns-clause-ok t c =
    c.loop-i.invariant ∙ ap (λ (ks : Kinds). c.args.out.now ++ signature_bytes ks) (types_whole (all_data c.args.self.now) c.loop-i.i (omega (arith, c.len-i-end.ensures)))

pub borrowed::ValueRef::spell_type-returns-in-Byte-clause-ok : goal.borrowed::ValueRef::spell_type-returns-in-Byte-clause-ok
borrowed::ValueRef::spell_type-returns-in-Byte-clause-ok t c = rw c.in-Byte.is c.push.ensures.ok

pub borrowed::ValueRef::spell_type-returns-in-Byte-clause-front : goal.borrowed::ValueRef::spell_type-returns-in-Byte-clause-front
borrowed::ValueRef::spell_type-returns-in-Byte-clause-front t c = front_pushed c.push.result c.args.out.now c.push.new.self (121 ∷ []) c.push.ensures.ok c.push.ensures.err

pub borrowed::ValueRef::spell_type-returns-in-Bool-clause-ok : goal.borrowed::ValueRef::spell_type-returns-in-Bool-clause-ok
borrowed::ValueRef::spell_type-returns-in-Bool-clause-ok t c = rw c.in-Bool.is c.push-in-Bool.ensures.ok

pub borrowed::ValueRef::spell_type-returns-in-Bool-clause-front : goal.borrowed::ValueRef::spell_type-returns-in-Bool-clause-front
borrowed::ValueRef::spell_type-returns-in-Bool-clause-front t c = front_pushed c.push-in-Bool.result c.args.out.now c.push-in-Bool.new.self (98 ∷ []) c.push-in-Bool.ensures.ok c.push-in-Bool.ensures.err

pub borrowed::ValueRef::spell_type-returns-in-I16-clause-ok : goal.borrowed::ValueRef::spell_type-returns-in-I16-clause-ok
borrowed::ValueRef::spell_type-returns-in-I16-clause-ok t c = rw c.in-I16.is c.push-in-I16.ensures.ok

pub borrowed::ValueRef::spell_type-returns-in-I16-clause-front : goal.borrowed::ValueRef::spell_type-returns-in-I16-clause-front
borrowed::ValueRef::spell_type-returns-in-I16-clause-front t c = front_pushed c.push-in-I16.result c.args.out.now c.push-in-I16.new.self (110 ∷ []) c.push-in-I16.ensures.ok c.push-in-I16.ensures.err

pub borrowed::ValueRef::spell_type-returns-in-U16-clause-ok : goal.borrowed::ValueRef::spell_type-returns-in-U16-clause-ok
borrowed::ValueRef::spell_type-returns-in-U16-clause-ok t c = rw c.in-U16.is c.push-in-U16.ensures.ok

pub borrowed::ValueRef::spell_type-returns-in-U16-clause-front : goal.borrowed::ValueRef::spell_type-returns-in-U16-clause-front
borrowed::ValueRef::spell_type-returns-in-U16-clause-front t c = front_pushed c.push-in-U16.result c.args.out.now c.push-in-U16.new.self (113 ∷ []) c.push-in-U16.ensures.ok c.push-in-U16.ensures.err

pub borrowed::ValueRef::spell_type-returns-in-I32-clause-ok : goal.borrowed::ValueRef::spell_type-returns-in-I32-clause-ok
borrowed::ValueRef::spell_type-returns-in-I32-clause-ok t c = rw c.in-I32.is c.push-in-I32.ensures.ok

pub borrowed::ValueRef::spell_type-returns-in-I32-clause-front : goal.borrowed::ValueRef::spell_type-returns-in-I32-clause-front
borrowed::ValueRef::spell_type-returns-in-I32-clause-front t c = front_pushed c.push-in-I32.result c.args.out.now c.push-in-I32.new.self (105 ∷ []) c.push-in-I32.ensures.ok c.push-in-I32.ensures.err

pub borrowed::ValueRef::spell_type-returns-in-U32-clause-ok : goal.borrowed::ValueRef::spell_type-returns-in-U32-clause-ok
borrowed::ValueRef::spell_type-returns-in-U32-clause-ok t c = rw c.in-U32.is c.push-in-U32.ensures.ok

pub borrowed::ValueRef::spell_type-returns-in-U32-clause-front : goal.borrowed::ValueRef::spell_type-returns-in-U32-clause-front
borrowed::ValueRef::spell_type-returns-in-U32-clause-front t c = front_pushed c.push-in-U32.result c.args.out.now c.push-in-U32.new.self (117 ∷ []) c.push-in-U32.ensures.ok c.push-in-U32.ensures.err

pub borrowed::ValueRef::spell_type-returns-in-I64-clause-ok : goal.borrowed::ValueRef::spell_type-returns-in-I64-clause-ok
borrowed::ValueRef::spell_type-returns-in-I64-clause-ok t c = rw c.in-I64.is c.push-in-I64.ensures.ok

pub borrowed::ValueRef::spell_type-returns-in-I64-clause-front : goal.borrowed::ValueRef::spell_type-returns-in-I64-clause-front
borrowed::ValueRef::spell_type-returns-in-I64-clause-front t c = front_pushed c.push-in-I64.result c.args.out.now c.push-in-I64.new.self (120 ∷ []) c.push-in-I64.ensures.ok c.push-in-I64.ensures.err

pub borrowed::ValueRef::spell_type-returns-in-U64-clause-ok : goal.borrowed::ValueRef::spell_type-returns-in-U64-clause-ok
borrowed::ValueRef::spell_type-returns-in-U64-clause-ok t c = rw c.in-U64.is c.push-in-U64.ensures.ok

pub borrowed::ValueRef::spell_type-returns-in-U64-clause-front : goal.borrowed::ValueRef::spell_type-returns-in-U64-clause-front
borrowed::ValueRef::spell_type-returns-in-U64-clause-front t c = front_pushed c.push-in-U64.result c.args.out.now c.push-in-U64.new.self (116 ∷ []) c.push-in-U64.ensures.ok c.push-in-U64.ensures.err

pub borrowed::ValueRef::spell_type-returns-in-Double-clause-ok : goal.borrowed::ValueRef::spell_type-returns-in-Double-clause-ok
borrowed::ValueRef::spell_type-returns-in-Double-clause-ok t c = rw c.in-Double.is c.push-in-Double.ensures.ok

pub borrowed::ValueRef::spell_type-returns-in-Double-clause-front : goal.borrowed::ValueRef::spell_type-returns-in-Double-clause-front
borrowed::ValueRef::spell_type-returns-in-Double-clause-front t c = front_pushed c.push-in-Double.result c.args.out.now c.push-in-Double.new.self (100 ∷ []) c.push-in-Double.ensures.ok c.push-in-Double.ensures.err

pub borrowed::ValueRef::spell_type-returns-in-Text-clause-ok : goal.borrowed::ValueRef::spell_type-returns-in-Text-clause-ok
borrowed::ValueRef::spell_type-returns-in-Text-clause-ok t c = rw c.in-Text.is c.push-in-Text.ensures.ok

pub borrowed::ValueRef::spell_type-returns-in-Text-clause-front : goal.borrowed::ValueRef::spell_type-returns-in-Text-clause-front
borrowed::ValueRef::spell_type-returns-in-Text-clause-front t c = front_pushed c.push-in-Text.result c.args.out.now c.push-in-Text.new.self (115 ∷ []) c.push-in-Text.ensures.ok c.push-in-Text.ensures.err

pub borrowed::ValueRef::spell_type-returns-in-Path-clause-ok : goal.borrowed::ValueRef::spell_type-returns-in-Path-clause-ok
borrowed::ValueRef::spell_type-returns-in-Path-clause-ok t c = rw c.in-Path.is c.push-in-Path.ensures.ok

pub borrowed::ValueRef::spell_type-returns-in-Path-clause-front : goal.borrowed::ValueRef::spell_type-returns-in-Path-clause-front
borrowed::ValueRef::spell_type-returns-in-Path-clause-front t c = front_pushed c.push-in-Path.result c.args.out.now c.push-in-Path.new.self (111 ∷ []) c.push-in-Path.ensures.ok c.push-in-Path.ensures.err

pub borrowed::ValueRef::spell_type-returns-in-Sig-clause-ok : goal.borrowed::ValueRef::spell_type-returns-in-Sig-clause-ok
borrowed::ValueRef::spell_type-returns-in-Sig-clause-ok t c = rw c.in-Sig.is c.push-in-Sig.ensures.ok

pub borrowed::ValueRef::spell_type-returns-in-Sig-clause-front : goal.borrowed::ValueRef::spell_type-returns-in-Sig-clause-front
borrowed::ValueRef::spell_type-returns-in-Sig-clause-front t c = front_pushed c.push-in-Sig.result c.args.out.now c.push-in-Sig.new.self (103 ∷ []) c.push-in-Sig.ensures.ok c.push-in-Sig.ensures.err

pub borrowed::ValueRef::spell_type-returns-in-Variant-clause-ok : goal.borrowed::ValueRef::spell_type-returns-in-Variant-clause-ok
borrowed::ValueRef::spell_type-returns-in-Variant-clause-ok t c = rw c.in-Variant.is c.push-in-Variant.ensures.ok

pub borrowed::ValueRef::spell_type-returns-in-Variant-clause-front : goal.borrowed::ValueRef::spell_type-returns-in-Variant-clause-front
borrowed::ValueRef::spell_type-returns-in-Variant-clause-front t c = front_pushed c.push-in-Variant.result c.args.out.now c.push-in-Variant.new.self (118 ∷ []) c.push-in-Variant.ensures.ok c.push-in-Variant.ensures.err
