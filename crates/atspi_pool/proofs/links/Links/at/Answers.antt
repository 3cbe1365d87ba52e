use Rattle.std.proofs.Common.{◌≡◌, ◌<◌, ◌+◌, ◌-◌, length, get_or, sym, ap, ◌∙◌, subst, arith}
use Rattle.atspi_pool.specs.Walk.{walk}
use Rattle.atspi_pool.proofs.WalkLemmas.{jump, get_or-walk}
use Rattle.atspi_pool.proofs.LinkSpecs as specs
use Rattle.atspi_pool.proofs.links.Links.at.Goals as goal

pub walk_on-requires : goal.walk_on-requires
walk_on-requires c = λ k lt.
    let count = specs.count_is c.self.inside.next.items c.self.inside.first_free c.self.inside.free c.self.inside.runs.items c.self.invariant c.args.self.now c.self.view_is c.args.chain c.requires.chain c.index-run.result.now c.index-run.ensures in
    let in_run : k < c.index-run.result.now.count = omega (arith, c.requires.place) in
    subst (λ ls. get_or (walk ls c.index-run.result.now.first c.args.place) k 0 < length ls) (sym c.deref.ensures.value)
    (subst (λ b. b < length c.self.inside.next.items) (sym (get_or-walk c.self.inside.next.items c.index-run.result.now.first k c.args.place lt))
    (specs.block_in c.self.inside.next.items c.self.inside.first_free c.self.inside.free c.self.inside.runs.items c.self.invariant c.args.self.now c.self.view_is c.args.chain c.requires.chain c.index-run.result.now c.index-run.ensures k in_run))

pub returns-then-place-run : goal.returns-then-place-run
returns-then-place-run c =
    let count = specs.count_is c.self.inside.next.items c.self.inside.first_free c.self.inside.free c.self.inside.runs.items c.self.invariant c.args.self.now c.self.view_is c.args.chain c.requires.chain c.index-run.result.now c.index-run.ensures in
    let some : 0 < c.index-run.result.now.count = omega (arith, c.requires.place) in
    let place : c.index-run.result.now.count - 1 ≡ c.args.place = omega arith in
    record {
      block =
          sym (specs.last_is c.self.inside.next.items c.self.inside.first_free c.self.inside.free c.self.inside.runs.items c.self.invariant c.args.self.now c.self.view_is c.args.chain c.requires.chain c.index-run.result.now c.index-run.ensures some) ∙ ap (jump c.self.inside.next.items c.index-run.result.now.first) place
          ∙ sym (specs.place_is c.self.inside.next.items c.self.inside.first_free c.self.inside.free c.self.inside.runs.items c.self.invariant c.args.self.now c.self.view_is c.args.chain c.requires.chain c.index-run.result.now c.index-run.ensures c.args.place c.requires.place);
      apart = specs.apart_is c.self.inside.next.items c.self.inside.first_free c.self.inside.free c.self.inside.runs.items c.self.invariant c.args.self.now c.self.view_is;
    }

pub returns : goal.returns
returns c =
    let lt : c.args.place < c.args.place + 1 = omega arith in
    record {
      block =
          c.walk_on.ensures
          ∙ ap (λ ls. get_or (walk ls c.index-run.result.now.first (c.args.place + 1)) c.args.place 0) c.deref.ensures.value
          ∙ get_or-walk c.self.inside.next.items c.index-run.result.now.first c.args.place (c.args.place + 1) lt
          ∙ sym (specs.place_is c.self.inside.next.items c.self.inside.first_free c.self.inside.free c.self.inside.runs.items c.self.invariant c.args.self.now c.self.view_is c.args.chain c.requires.chain c.index-run.result.now c.index-run.ensures c.args.place c.requires.place);
      apart = specs.apart_is c.self.inside.next.items c.self.inside.first_free c.self.inside.free c.self.inside.runs.items c.self.invariant c.args.self.now c.self.view_is;
    }
