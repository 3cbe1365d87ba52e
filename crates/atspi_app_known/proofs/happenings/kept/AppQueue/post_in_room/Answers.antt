use Rattle.std.proofs.Common.{◌≡◌, ℕ, ◌+◌, arith}
use Rattle.atspi_app_known.proofs.OfHappenings.Waiting.{sent_by-append, waiting-append}
use Rattle.atspi_app_known.proofs.happenings.kept.AppQueue.post_in_room.Goals as goal

pub invariant_of-self : goal.invariant_of-self
invariant_of-self c =
    let both = sent_by-append c.args.self.now.waiting.items c.args.happenings.now.events.items c.append.new.self.items c.in-Ok.ensures.items in
    let more = c.count_messages-more.ensures in
    let counted = c.args.self.now.counted in
    let numbers = c.requires.numbers in
    record { counted = omega (arith, both, more, counted); few = omega (arith, more, numbers) }

pub returns-clause-out : goal.returns-clause-out
returns-clause-out c =
    let counted = c.args.self.now.counted in
    waiting-append c.args.self.now.handed_out (c.args.self.now.taken + 1) c.args.self.now.waiting.items c.args.happenings.now.events.items c.append.new.self.items c.in-Ok.ensures.items (omega (arith, counted))
