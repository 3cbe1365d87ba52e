use Rattle.std.proofs.Common.{◌≡◌, [], List, ℕ, Option, sym, ap, ◌∙◌}
use Rattle.std.specs.Prelude.{unwrap_or}
use Rattle.atspi_message.specs.Envelope.{envelope_of}
use Rattle.atspi_hit.specs.Places.{rect_at}
use Rattle.atspi_hit_answers.proofs.Answered.{brings, nobody, answers_it, refuses_it}
use Rattle.atspi_hit_answers.proofs.answers.answer.Goals as goal

pub returns-in_default-node_of : goal.returns-in_default-node_of
returns-in_default-node_of c =
    let call = envelope_of c.args.call.now in
    let same : c.in_ok-caller.caller ≡ unwrap_or call.sender [] =
    c.in_ok-caller.ensures ∙ sym (ap (λ (o : Option (List ℕ)). unwrap_or o []) c.in-Some.is) in
    brings c.args.tree.now (rect_at c.args.layout.now) c.args.name.now c.args.serial call c.refused.result _ _
    (nobody c.args.tree.now (rect_at c.args.layout.now) c.args.name.now c.args.serial call c.node_of.result c.node_of.ensures c.in_default-node_of.is)
    same c.refused.ensures

pub returns-in-Ok : goal.returns-in-Ok
returns-in-Ok c =
    let call = envelope_of c.args.call.now in
    let same : c.in_ok-caller.caller ≡ unwrap_or call.sender [] =
    c.in_ok-caller.ensures ∙ sym (ap (λ (o : Option (List ℕ)). unwrap_or o []) c.in-Some.is) in
    brings c.args.tree.now (rect_at c.args.layout.now) c.args.name.now c.args.serial call c.reply.result _ _
    (answers_it c.args.tree.now (rect_at c.args.layout.now) c.args.name.now c.args.serial call c.node_of.result c.in-Some-node_of.node c.node_of.ensures
    c.in-Some-node_of.is c.asked_in.result c.asked_in.ensures c.in-Ok.ask c.in-Ok.is)
    same c.reply.ensures

pub returns-in-Err : goal.returns-in-Err
returns-in-Err c =
    let call = envelope_of c.args.call.now in
    let same : c.in_ok-caller.caller ≡ unwrap_or call.sender [] =
    c.in_ok-caller.ensures ∙ sym (ap (λ (o : Option (List ℕ)). unwrap_or o []) c.in-Some.is) in
    brings c.args.tree.now (rect_at c.args.layout.now) c.args.name.now c.args.serial call c.refused-in-Err.result _ _
    (refuses_it c.args.tree.now (rect_at c.args.layout.now) c.args.name.now c.args.serial call c.node_of.result c.in-Some-node_of.node c.node_of.ensures
    c.in-Some-node_of.is c.asked_in.result c.asked_in.ensures c.in-Err.error c.in-Err.is)
    same c.refused-in-Err.ensures
