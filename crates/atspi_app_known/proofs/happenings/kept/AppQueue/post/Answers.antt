use Rattle.std.proofs.Common.{rules, ◌≡◌, ℕ, ◌+◌, arith}
use Rattle.atspi_app_known.specs.happenings.Happened.{sent_by}
use Rattle.atspi_app_known.proofs.OfHappenings.Waiting.{sent_by-append, waiting-append}
use Rattle.atspi_app_known.proofs.happenings.kept.AppQueue.post.Goals as goal

pub invariant_of-self-2 : goal.invariant_of-self-2
invariant_of-self-2 c =
    let both = sent_by-append c.args.self.now.waiting.items c.args.happenings.now.events.items c.append.new.self.items c.in_ok-append.ensures.items in
    let more = c.count_messages-more.ensures in
    let counted = c.args.self.now.counted in
    let room = c.if-from-self.false in
    let most = c.from.ensures in
    let few = c.args.self.now.few in
    record { counted = omega (arith, both, more, counted); few = omega (arith, room, most, few) }

pub returns-clause-out : goal.returns-clause-out
returns-clause-out c =
    let counted = c.args.self.now.counted in
    waiting-append c.args.self.now.handed_out (c.args.self.now.taken + 1) c.args.self.now.waiting.items c.args.happenings.now.events.items c.append.new.self.items c.in_ok-append.ensures.items (omega (arith, counted))
