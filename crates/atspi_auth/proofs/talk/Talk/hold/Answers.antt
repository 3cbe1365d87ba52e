use Rattle.std.proofs.Common.{◌++◌, ◌∙◌, ap, arith, length, length-append}
use Rattle.atspi_auth.specs.declared.fault.AuthFault.TheVariants.{TooLong}
use Rattle.atspi_auth.specs.declared.stage.Stage.TheVariants.{Failed, Waits}
use Rattle.atspi_auth.specs.Talk.{Standing}
use Rattle.atspi_auth.proofs.TellsLemmas.{fails, holds, same_standing, unfinished_long, unfinished_short}
use Rattle.atspi_auth.proofs.talk.Talk.hold.Goals as goal

pub returns-then-len-bytes-ge-LINE_LIMIT : goal.returns-then-len-bytes-ge-LINE_LIMIT
returns-then-len-bytes-ge-LINE_LIMIT c =
    let line = ap (λ (s : Standing). s.line) c.self.view_is in
    fails c.args.self.now _ _ TooLong
    (unfinished_long c.args.waiting (c.args.self.now.line ++ c.args.bytes.now) c.requires
    (omega (arith, ap length line, length-append c.args.self.now.line c.args.bytes.now)))
    (same_standing (Failed TooLong) _ _ _ _ c.clear.ensures.items (ap (λ (s : Standing). s.unsent) c.self.view_is))

pub returns : goal.returns
returns c =
    let line = ap (λ (s : Standing). s.line) c.self.view_is in
    holds c.args.self.now _ _ c.args.waiting (c.args.self.now.line ++ c.args.bytes.now) c.args.bytes.now
    (unfinished_short c.args.waiting (c.args.self.now.line ++ c.args.bytes.now) c.requires
    (omega (arith, ap length line, length-append c.args.self.now.line c.args.bytes.now)))
    (same_standing (Waits c.args.waiting) _ _ _ _ (c.in_ok-extend_from_slice.ensures.items ∙ ap (λ w. w ++ c.args.bytes.now) line) (ap (λ (s : Standing). s.unsent) c.self.view_is))
