use Rattle.std.proofs.Common.{rules, ◌≡◌, ℕ, ◌+◌, ◌-◌, ◌∙◌, drop, take, min, length, ap, arith}
use Rattle.atspi_types.proofs.ReadingLemmas.{take-min}
use Rattle.atspi_live_conversation.proofs.unsent.Unsent.front.Goals as goal

pub returns : goal.returns
returns c =
    let n : ℕ = c.min-n.result in
    let m : c.self.inside.start + n - c.self.inside.start ≡ n = omega arith in
    let v : drop c.self.inside.start c.deref.result.now ≡ c.args.self.now = search rules in
    let k : n ≡ min (length c.args.self.now) 4096 = first_of (omega arith, search rules) in
    rw m (rw v (ap (λ (i : ℕ). take i c.args.self.now) k ∙ take-min c.args.self.now 4096))
