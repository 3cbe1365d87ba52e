use Rattle.std.proofs.Common.{◌≡◌, ◌+◌, ℕ, List, max, refl, ap, ◌∙◌, arith}
use Rattle.atspi_pool.specs.Store.{with_pushed, all_blocks, Store}
use Rattle.atspi_pool.proofs.StoreLemmas as lemmas
use Rattle.atspi_pool.proofs.PushLemmas as pushes
use Rattle.atspi_pool.proofs.store.Store.make.Goals as goal

pub loop-init : goal.loop-init
loop-init c = record {
  chains = refl;
  made_so_far = omega arith;
  missing_is = pushes.missing_is c.self.inside.bytes.items c.self.inside.links c.self.invariant c.marks-marks.ensures.apart c.args.self.now c.self.view_is c.args.chain c.requires.chain c.marks-marks.result c.marks-marks.ensures.marks c.args.bytes.now c.div_ceil.result c.div_ceil-2.result c.free.result c.saturating_sub-missing.result
      (omega (arith, c.div_ceil.ensures)) (omega (arith, c.div_ceil-2.ensures)) c.free.ensures.free c.saturating_sub-missing.ensures;
}

pub loop-preserved : goal.loop-preserved
loop-preserved c = record {
  chains = ap (λ (s : Store). s.chains) c.in_ok-add_block.ensures.ok ∙ c.loop.invariant.chains;
  made_so_far = omega (arith, ap (λ (s : Store). s.made) c.in_ok-add_block.ensures.ok, c.loop.invariant.made_so_far);
  missing_is = c.loop.invariant.missing_is;
}

same_store : {m n : ℕ} {a b : List _} → m ≡ n → a ≡ b → ◌≡◌ {A = Store} (record { made = m; chains = a }) (record { made = n; chains = b })
same_store p q = λ i. record { made = p i; chains = q i }

pub returns : goal.returns
returns c =
    let all : c.loop.counter ≡ c.saturating_sub-missing.result = omega (arith, c.loop.auto.counter-end, c.loop-test.false) in
    let made : c.loop.self.made ≡ max c.args.self.now.made (all_blocks (with_pushed c.args.self.now c.args.chain c.args.bytes.now).chains) =
    c.loop.invariant.made_so_far ∙ ap (λ n. c.args.self.now.made + n) all ∙ c.loop.invariant.missing_is in
    record {
      ok = same_store made c.loop.invariant.chains;
      chains = c.loop.invariant.chains;
      rises = omega (arith, c.loop.invariant.made_so_far);
      bound = omega (arith, made);
      fronts = lemmas.fronts c.self.inside.bytes.items c.self.inside.links c.self.invariant c.marks-marks.ensures.apart c.args.self.now c.self.view_is;
    }

pub returns-in_err-add_block-clause-fronts : goal.returns-in_err-add_block-clause-fronts
returns-in_err-add_block-clause-fronts c = lemmas.fronts c.self.inside.bytes.items c.self.inside.links c.self.invariant c.marks-marks.ensures.apart c.args.self.now c.self.view_is
