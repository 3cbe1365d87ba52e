-- The sender of a message that was read is a bus name; and what is sent back to it.
use Rattle.std.proofs.Common.{◌≡◌, ℕ, true, List, Option, Some, refl}
use Rattle.std.specs.Prelude.{IsTrue}
use Rattle.std.specs.Borrow.{Bor}
use Rattle.std.proofs.lemmas.Bool.{and_parts}
use Rattle.atspi_base.specs.valid_names.Names.{is_path, is_interface, is_member, is_bus_name}
use Rattle.atspi_message_in_place.specs.Names.{fits, are_named}
use Rattle.atspi_message.specs.Envelope.{Envelope}
use Rattle.atspi_protocol.specs.ends.Messages.{Reply, replies}
use Rattle.atspi_app_answers.specs.Replies.{sent_back}

pub sender_named : (path interface member error destination sender : Option (Bor (List ℕ))) → IsTrue (are_named path interface member error destination sender) → fits is_bus_name sender ≡ true
sender_named path interface member error destination sender h =
    let a = and_parts (fits is_path path) _ h in
    let b = and_parts (fits is_interface interface) _ a.1 in
    let c = and_parts (fits is_member member) _ b.1 in
    let d = and_parts (fits is_interface error) _ c.1 in
    let f = and_parts (fits is_bus_name destination) (fits is_bus_name sender) d.1 in
    f.1

pub sent_to : (e : Envelope) (caller : List ℕ) (reply : Reply) → e.sender ≡ Some caller → sent_back e reply ≡ replies caller e reply
sent_to e caller reply is = rw is refl
