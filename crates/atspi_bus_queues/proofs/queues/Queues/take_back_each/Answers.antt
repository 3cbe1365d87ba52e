use Rattle.std.proofs.Common.{◌≡◌, ◌+◌, ◌-◌, ◌<◌, ℕ, length, get_or, subst, arith}
use Rattle.std.proofs.lemmas.List.{take_more}
use Rattle.atspi_bus_queues.proofs.Pushing.{HasGone, back-room, back-next}
use Rattle.atspi_bus_queues.proofs.queues.Queues.take_back_each.Goals as goal

from_end : (n i : ℕ) → i < n → n - i ≡ n - 1 - i + 1
from_end n i lt = omega arith

one_less : (n i : ℕ) → n - 1 - i ≡ n - (i + 1)
one_less n i = omega arith

within : (n i : ℕ) → i < n → n - 1 - i < n
within n i lt = omega arith

pub take_back-requires : goal.take_back-requires
take_back-requires c =
    let conns = c.args.conns.now in
    let quota = c.args.self.now.quota in
    let n = length conns in
    let i = c.loop-i.i in
    let lt : c.loop-i.i < length c.args.conns.now = omega arith in
    let h = c.requires.went in
    back-room quota h.0 c.args.bytes.now conns c.loop-i.self (n - 1 - i) (get_or conns (n - 1 - i) 0) (take_more conns (n - 1 - i) 0 (within n i lt))
    (subst (λ (k : ℕ). HasGone quota h.0 c.args.bytes.now conns c.loop-i.self k) (from_end n i lt) (c.loop-i.invariant h.0 h.1))

pub loop-i-preserved : goal.loop-i-preserved
loop-i-preserved c before went =
    let conns = c.args.conns.now in
    let quota = c.args.self.now.quota in
    let n = length conns in
    let i = c.loop-i.i in
    let lt : c.loop-i.i < length c.args.conns.now = omega arith in
    subst (λ (k : ℕ). HasGone quota before c.args.bytes.now conns c.take_back.new.self k) (one_less n i)
    (back-next quota before c.args.bytes.now conns c.loop-i.self c.take_back.new.self (n - 1 - i) (get_or conns (n - 1 - i) 0) (take_more conns (n - 1 - i) 0 (within n i lt))
    (subst (λ (k : ℕ). HasGone quota before c.args.bytes.now conns c.loop-i.self k) (from_end n i lt) (c.loop-i.invariant before went))
    c.take_back.ensures)
