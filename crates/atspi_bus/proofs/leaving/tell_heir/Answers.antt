use Rattle.std.proofs.Common.{◌++◌, ◌∷◌, [], map, ap, ◌∙◌, append_assoc}
use Rattle.std.proofs.lemmas.List.{map-append}
use Rattle.atspi_message.specs.Envelope.{envelope_of}
use Rattle.atspi_names.specs.Queue.{owner_in, without}
use Rattle.atspi_match.specs.routing.OwnMessages.{name_acquired, owner_changed}
use Rattle.atspi_bus.proofs.Heirs.{heir-told}
use Rattle.atspi_bus.proofs.leaving.tell_heir.Goals as goal

pub returns : goal.returns
returns c =
    let owners = c.args.names.now in
    let name = c.args.name.now in
    let unique = c.args.unique.now in
    let next = c.next_owner-next.result in
    let m = c.in_ok-owner_changed.field-0 in
    ap (map envelope_of) c.in_ok-push.ensures.items ∙ map-append envelope_of c.tell_acquired.new.told.items (m ∷ [])
    ∙ ap (λ l. l ++ envelope_of m ∷ []) c.in_ok-tell_acquired.ensures.ok
    ∙ append_assoc (map envelope_of c.args.told.now.items) (name_acquired owners name next) (envelope_of m ∷ [])
    ∙ ap (λ e. map envelope_of c.args.told.now.items ++ (name_acquired owners name next ++ e ∷ []))
    (c.in_ok-owner_changed.ensures ∙ ap (λ n. owner_changed name unique n) c.unique_of-owner.ensures)
    ∙ ap (λ l. map envelope_of c.args.told.now.items ++ l)
    (heir-told owners c.args.conn unique name next (c.next_owner-next.ensures ∙ ap (λ l. owner_in (without c.args.conn l)) c.queue.ensures))
