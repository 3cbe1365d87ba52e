use Rattle.std.proofs.Common.{◌≡◌, ◌+◌, ◌%◌, Some, drop, sym, ap, ◌∙◌}
use Rattle.atspi_pool.specs.declared.run.Marks.{Marks}
use Rattle.atspi_pool.specs.Links.{entry_at}
use Rattle.atspi_pool.specs.Chains.{Chain}
use Rattle.atspi_pool.specs.Store.{with_chain}
use Rattle.atspi_pool.proofs.StoreLemmas as lemmas
use Rattle.atspi_pool.proofs.store.Store.pop.Goals as goal

pub returns-then-marks-n : goal.returns-then-marks-n
returns-then-marks-n c =
    let all : (entry_at c.self.inside.links c.args.chain).marks.len ≡ c.args.n = sym (ap (λ (m : Marks). m.len) c.marks-marks.ensures.marks) ∙ c.if-marks-n.true in
    c.clear.ensures
    ∙ ap (λ ch. with_chain c.args.self.now c.args.chain (Some ch))
    (lemmas.none_left c.self.inside.bytes.items c.self.inside.links c.self.invariant c.marks-marks.ensures.apart c.args.self.now c.self.view_is c.args.chain c.requires.chain c.args.n all (λ (ch : Chain). record { popped = (ch.popped + c.args.n) % 256; bytes = drop c.args.n ch.bytes }))

pub returns : goal.returns
returns c = lemmas.pop_seen c.self.inside.bytes.items c.self.inside.links c.self.invariant c.marks-marks.ensures.apart c.args.self.now c.self.view_is c.args.chain c.requires.chain c.marks-marks.result c.marks-marks.ensures.marks c.args.n c.requires.used c.requires.bytes c.if-marks-n.false
    c.give_front.new.self c.set_marks.new.self c.give_front.ensures.links c.set_marks.ensures
