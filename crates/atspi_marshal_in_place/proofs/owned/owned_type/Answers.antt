use Rattle.std.proofs.Common.{length, sym, ap, ◌∙◌}
use Rattle.std.proofs.lemmas.Bool.{false≢true}
use Rattle.atspi_types.specs.Kinds.{no_kinds, kind}
use Rattle.atspi_types.specs.KindView.{kind_of}
use Rattle.atspi_types.specs.SignatureView.{signature_types}
use Rattle.atspi_marshal_in_place.specs.codes.TyRefs.{ref_kind}
use Rattle.atspi_marshal_in_place.proofs.Owns.{spelled_alone, one_kind, first_kind, never_refused}
use Rattle.atspi_marshal_in_place.proofs.owned.owned_type.Goals as goal

pub unreachable-requires : goal.unreachable-requires
unreachable-requires c =
    let k = ref_kind c.args.ty in
    let alone = one_kind (signature_types c.in-Ok.signature) k (c.in-Ok.ensures.only (kind k no_kinds) c.codes.ensures.within (spelled_alone k c.codes.result.now c.codes.ensures.spelled)) in
    absurd (false≢true (c.in-None.ensures.is.1 (ap length alone)))

pub unreachable-requires-in-Err-Bad : goal.unreachable-requires-in-Err-Bad
unreachable-requires-in-Err-Bad c =
    let k = ref_kind c.args.ty in
    let only = rw c.in-Err-Bad.field-0-is at c.in-Err-Bad.ensures.only in
    absurd (never_refused (kind k no_kinds) c.in-Err-Bad.field-0-0 (only (kind k no_kinds) c.codes.ensures.within (spelled_alone k c.codes.result.now c.codes.ensures.spelled)))

pub returns-in-Some : goal.returns-in-Some
returns-in-Some c =
    let k = ref_kind c.args.ty in
    let alone = one_kind (signature_types c.in-Ok.signature) k (c.in-Ok.ensures.only (kind k no_kinds) c.codes.ensures.within (spelled_alone k c.codes.result.now c.codes.ensures.spelled)) in
    first_kind (kind_of c.in-Some.owned) k (sym c.in-Some.ensures.ty ∙ alone)
