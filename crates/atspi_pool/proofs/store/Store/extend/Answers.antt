use Rattle.std.proofs.Common.{◌≡◌, ◌<◌, ◌++◌, length, take, sym, ap, ◌∙◌, subst, arith}
use Rattle.std.specs.Prelude.{IsSome}
use Rattle.std.proofs.lemmas.Bool.Decides.{nat_tests}
use Rattle.std.proofs.lemmas.List.{take-append-drop, nil_from_length, length-set}
use Rattle.atspi_pool.specs.Store.{with_pushed, chain_at, all_blocks, Store}
use Rattle.atspi_pool.proofs.PushLemmas as pushes
use Rattle.atspi_pool.proofs.store.Store.extend.Goals as goal

pub append-requires-clause-small : goal.append-requires-clause-small
append-requires-clause-small c =
    omega (arith, c.requires.small, pushes.lengths_left c.args.self.now c.loop-rest.self c.args.chain c.requires.chain c.loop-rest.invariant.within c.args.bytes.now c.loop-rest.rest.now c.loop-rest.invariant.same, c.split_at.ensures.front_len, c.split_at.ensures.back_len)

pub append-requires-clause-made : goal.append-requires-clause-made
append-requires-clause-made c =
    let whole : c.split_at.result.0.now ++ c.split_at.result.1.now ≡ c.loop-rest.rest.now =
    ap (λ a. a ++ c.split_at.result.1.now) c.split_at.ensures.front ∙ ap (λ b. take c.min.result c.loop-rest.rest.now ++ b) c.split_at.ensures.back
    ∙ take-append-drop c.min.result c.loop-rest.rest.now in
    omega (
      arith,
      c.requires.made,
      pushes.front_fits c.loop-rest.self c.args.chain c.loop-rest.invariant.within c.split_at.result.0.now c.split_at.result.1.now,
      ap (λ a. all_blocks (with_pushed c.loop-rest.self c.args.chain a).chains) whole,
      pushes.blocks_left c.args.self.now c.loop-rest.self c.args.chain c.requires.chain c.loop-rest.invariant.within c.args.bytes.now c.loop-rest.rest.now c.loop-rest.invariant.same,
      pushes.made_left c.args.self.now c.loop-rest.self c.args.chain c.requires.chain c.loop-rest.invariant.within c.args.bytes.now c.loop-rest.rest.now c.loop-rest.invariant.same,
    )

pub loop-rest-preserved : goal.loop-rest-preserved
loop-rest-preserved c =
    let whole : c.split_at.result.0.now ++ c.split_at.result.1.now ≡ c.loop-rest.rest.now =
    ap (λ a. a ++ c.split_at.result.1.now) c.split_at.ensures.front ∙ ap (λ b. take c.min.result c.loop-rest.rest.now ++ b) c.split_at.ensures.back
    ∙ take-append-drop c.min.result c.loop-rest.rest.now in
    record {
      within = subst (λ n. c.args.chain < n) (sym (ap (λ (s : Store). length s.chains) c.append.ensures ∙ length-set c.loop-rest.self.chains c.args.chain _)) c.loop-rest.invariant.within;
      used = subst (λ s. IsSome (chain_at s c.args.chain)) (sym c.append.ensures) (pushes.still_used c.loop-rest.self c.args.chain c.loop-rest.invariant.within c.split_at.result.0.now);
      same =
          ap (λ s. with_pushed s c.args.chain c.split_at.result.1.now) c.append.ensures
          ∙ pushes.pushed_twice c.loop-rest.self c.args.chain c.loop-rest.invariant.within c.split_at.result.0.now c.split_at.result.1.now
          ∙ ap (with_pushed c.loop-rest.self c.args.chain) whole ∙ c.loop-rest.invariant.same;
    }

pub returns : goal.returns
returns c =
    let none : length c.loop-rest.rest.now ≡ 0 = grind (arith, nat_tests, c.loop-rest-test.ensures) in
    sym (pushes.nothing_pushed c.loop-rest.self c.args.chain c.loop-rest.invariant.within c.loop-rest.invariant.used)
    ∙ ap (with_pushed c.loop-rest.self c.args.chain) (sym (nil_from_length c.loop-rest.rest.now none)) ∙ c.loop-rest.invariant.same
