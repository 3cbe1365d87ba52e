use Rattle.std.proofs.Common.{◌≡◌, arith}
use Rattle.atspi_types.specs.KindView.{kind_of, kinds_in}
use Rattle.atspi_types.proofs.LawfulLemmas.{kind_size_in}
use Rattle.atspi_types.proofs.SameLemmas.{same_structs, other_at, code_is_no_container}
use Rattle.atspi_types.proofs.Verdicts.{no_if, not_if}
use Rattle.atspi_types.proofs.ty.+same.Goals as goal

pub Ty::is-returns-in-Struct-Struct : goal.Ty::is-returns-in-Struct-Struct
Ty::is-returns-in-Struct-Struct t c =
    same_structs (kind_of c.args.self.now) (kind_of c.args.other.now) (kinds_in c.in-Struct-Struct.ours.now) (kinds_in c.in-Struct-Struct.theirs.now) c.is-in-Struct-Struct.result
    c.in-Struct-Struct.ensures c.in-Struct-Struct.ensures' c.is-in-Struct-Struct.ensures

pub Ty::is-returns-in_default : goal.Ty::is-returns-in_default
Ty::is-returns-in_default t c =
    no_if (kind_of c.args.self.now ≡ kind_of c.args.other.now)
    (λ same. code_is_no_container c.shape-2.result (kind_of c.args.self.now) (kind_of c.args.other.now) c.in_default.field-0-0 c.in_default.ensures c.in_default.not-Code-1 c.shape-2.ensures same)

pub Tys::is-is-requires : goal.Tys::is-is-requires
Tys::is-is-requires t c =
    let below = kind_size_in c.as_slice-ours.result.now (kinds_in c.args.self.now) c.loop-i.i c.index-ours-i.result c.as_slice-ours.ensures (omega arith) c.index-ours-i.is in
    (omega (arith, below, c.decreases), tt)

pub Tys::is-returns-then-not-is : goal.Tys::is-returns-then-not-is
Tys::is-returns-then-not-is t c =
    no_if (kinds_in c.args.self.now ≡ kinds_in c.args.other.now)
    (λ same. other_at c.as_slice-ours.result.now c.as_slice-theirs.result.now (kinds_in c.args.self.now) (kinds_in c.args.other.now) c.loop-i.i c.index-ours-i.result c.index-theirs-i.result
    c.as_slice-ours.ensures c.as_slice-theirs.ensures (omega arith) (omega arith) c.index-ours-i.is c.index-theirs-i.is (not_if (kind_of c.index-ours-i.result ≡ kind_of c.index-theirs-i.result) c.if-not-is.ensures) same)
