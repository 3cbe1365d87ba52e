use Rattle.std.proofs.Common.{◌≡◌, ◌<◌, ◌+◌, ◌-◌, ◌*◌, length, take, drop, sym, subst, arith}
use Rattle.atspi_pool.specs.Chains.{front_of}
use Rattle.atspi_pool.specs.Store.{held, chain_at}
use Rattle.atspi_pool.proofs.StoreLemmas as lemmas
use Rattle.atspi_pool.proofs.store.Store.front.Goals as goal

pub overflow_mul-start : goal.overflow_mul-start
overflow_mul-start c = omega (arith, (lemmas.front_fits c.self.inside.bytes.items c.self.inside.links c.self.invariant c.marks-marks.ensures.apart c.args.self.now c.self.view_is c.args.chain c.requires c.marks-marks.result c.marks-marks.ensures.marks c.first-start.result c.if-marks-eq0.false c.first-start.ensures.first).0)

pub overflow_add-end : goal.overflow_add-end
overflow_add-end c = omega (arith, c.min.ensures, (lemmas.front_fits c.self.inside.bytes.items c.self.inside.links c.self.invariant c.marks-marks.ensures.apart c.args.self.now c.self.view_is c.args.chain c.requires c.marks-marks.result c.marks-marks.ensures.marks c.first-start.result c.if-marks-eq0.false c.first-start.ensures.first).0)

pub overflow_add-result : goal.overflow_add-result
overflow_add-result c = omega (arith, lemmas.front_fits c.self.inside.bytes.items c.self.inside.links c.self.invariant c.marks-marks.ensures.apart c.args.self.now c.self.view_is c.args.chain c.requires c.marks-marks.result c.marks-marks.ensures.marks c.first-start.result c.if-marks-eq0.false c.first-start.ensures.first)

pub slice_bounds-result-end-2 : goal.slice_bounds-result-end-2
slice_bounds-result-end-2 c = omega (arith, c.min.ensures, c.deref.ensures.len, lemmas.front_fits c.self.inside.bytes.items c.self.inside.links c.self.invariant c.marks-marks.ensures.apart c.args.self.now c.self.view_is c.args.chain c.requires c.marks-marks.result c.marks-marks.ensures.marks c.first-start.result c.if-marks-eq0.false c.first-start.ensures.first)

pub returns : goal.returns
returns c =
    let same : take (256 * c.first-start.result + c.min.result - (256 * c.first-start.result + c.marks-marks.result.popped))
    (drop (256 * c.first-start.result + c.marks-marks.result.popped) c.deref.result.now) ≡ front_of (held (chain_at c.args.self.now c.args.chain)) =
    lemmas.front_seen c.self.inside.bytes.items c.self.inside.links c.self.invariant c.marks-marks.ensures.apart c.args.self.now c.self.view_is c.args.chain c.requires c.marks-marks.result c.marks-marks.ensures.marks c.first-start.result c.min.result c.if-marks-eq0.false c.first-start.ensures.first c.min.ensures
    c.deref.result.now c.deref.ensures.value in
    record {
      bytes = same;
      some = λ pos. subst (λ w. 0 < length w) (sym same) (lemmas.front_some c.self.inside.bytes.items c.self.inside.links c.self.invariant c.marks-marks.ensures.apart c.args.self.now c.self.view_is c.args.chain c.requires pos);
    }
