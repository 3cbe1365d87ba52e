use Rattle.std.proofs.Common.{List, ◌∷◌, [], map, ap, ◌∙◌}
use Rattle.std.proofs.lemmas.List.{map-append}
use Rattle.atspi_message.specs.Envelope.{Envelope, envelope_of}
use Rattle.atspi_match.specs.routing.OwnMessages.{error_to}
use Rattle.std.specs.Prelude.{codes}
use Rattle.atspi_bus_steps.specs.declared.open_call.OpenCall.{OpenCall}
use Rattle.std.proofs.Common.{get_or}
use Rattle.atspi_bus_steps.proofs.Calls.{told_more, told_not, told_own}
use Rattle.atspi_bus_steps.proofs.leaving.no_replies.Goals as goal
use Rattle.atspi_bus_steps.proofs.leaving.no_replies.Goals.{then-call-conn+then-call-conn-2+in_ok-error_to+in_ok-push, else-call-conn, else-call-conn-via-then-call-conn+else-call-conn-2, else-call-conn-via-else-call-conn}

pub loop-call-preserved : goal.loop-call-preserved
loop-call-preserved c =
    let d : OpenCall = record { caller = 0; serial = 0; callee = 0 } in
    let first : List Envelope = [] in
    let before = map envelope_of c.loop-call.replies.items in
    let call = get_or c.args.calls.now c.loop-call.call-index d in
    elim c.if-call-conn.branch [
      | then-call-conn+then-call-conn-2+in_ok-error_to+in_ok-push w ↦
          ap (λ v. map envelope_of v.items) w.replies-is
          ∙ told_more c.args.names.now c.args.calls.now c.args.conn c.loop-call.call-index d c.loop-call-test.true first before c.loop-call.invariant
          (map envelope_of w.push.new.self.items) (envelope_of w.in_ok-error_to.field-0) w.if-call-conn.true w.if-call-conn-2.true
          (ap (map envelope_of) w.in_ok-push.ensures.items ∙ map-append envelope_of c.loop-call.replies.items (w.in_ok-error_to.field-0 ∷ []))
          (w.in_ok-error_to.ensures ∙ ap (λ u. error_to u call.serial (codes "NoReply")) w.unique_name-caller.ensures)
      | else-call-conn w ↦
          ap (λ v. map envelope_of v.items) w.replies-is
          ∙ elim w.else-call-conn.branch [
            | else-call-conn-via-then-call-conn+else-call-conn-2 w' ↦
                told_own c.args.names.now c.args.calls.now c.args.conn c.loop-call.call-index d c.loop-call-test.true first before c.loop-call.invariant w'.if-call-conn.true w'.if-call-conn-2.false
            | else-call-conn-via-else-call-conn w' ↦
                told_not c.args.names.now c.args.calls.now c.args.conn c.loop-call.call-index d c.loop-call-test.true first before c.loop-call.invariant w'.if-call-conn.false
          ]
    ]
