use Rattle.std.proofs.Common.{◌≡◌, ℕ, ◌+◌, List, [], ◌∷◌, map, refl, ap, sym, subst, ◌∙◌, arith}
use Rattle.atspi_types.specs.Kinds.{text}
use Rattle.atspi_types.specs.Data.{Data, text_data, array_data, items_of}
use Rattle.atspi_types.specs.DataView.{all_data}
use Rattle.atspi_marshal.specs.Input.{aligned}
use Rattle.atspi_message.specs.Envelope.{envelope_of}
use Rattle.atspi_message.specs.Length.{told}
use Rattle.atspi_message.specs.inner.Ends.{name_end, number_end}
use Rattle.atspi_message.specs.Rules.{HasNames}
use Rattle.atspi_message.proofs.Lengths.{header_end, list_written, list_types}
use Rattle.atspi_message.proofs.Short.{if_map}
use Rattle.atspi_message_forwarding.proofs.text_lists.list_length.Goals as goal

items_same : (xs ys : List Data) → items_of xs ≡ items_of ys → xs ≡ ys
items_same [] [] e = refl
items_same [] (y ∷ ys) e = absurd cc
items_same (x ∷ xs) [] e = absurd cc
items_same (x ∷ xs) (y ∷ ys) e =
    let head : x ≡ y = cc in
    let tail : items_of xs ≡ items_of ys = cc in
    ap (λ (z : Data). z ∷ xs) head ∙ ap (λ (zs : List Data). y ∷ zs) (items_same xs ys tail)

one_list : (xs ys : List Data) (body : List Data) → body ≡ array_data text (items_of xs) ∷ [] → body ≡ array_data text (items_of ys) ∷ [] → xs ≡ ys
one_list xs ys body a b = let same : items_of xs ≡ items_of ys = cc in items_same xs ys same

pub returns-clause-length : goal.returns-clause-length
returns-clause-length c =
    let e = envelope_of c.args.message.now in
    let ds = all_data c.in_ok-texts.texts.now in
    let named : HasNames e = record {
      path = c.path_text.ensures.named;
      interface = c.interface_text.ensures.named;
      member = c.member_text.ensures.named;
      error = c.interface_text-2.ensures.named;
      destination = c.name_text.ensures.named;
      sender = c.name_text-2.ensures.named;
    } in
    let body = c.in_ok-texts.ensures.elements in
    let p = name_end 16 e.path in
    let i = name_end p e.interface in
    let m = name_end i e.member in
    let r = name_end m e.error in
    let n = number_end r e.reply in
    let d = name_end n e.destination in
    let s = name_end d e.sender in
    let path = subst (λ o. c.name_end-path.result ≡ told (name_end 16 o)) c.path_text.ensures.text (c.name_end-path.ensures 16 (omega arith)) in
    let interface = subst (λ o. c.name_end-interface.result ≡ told (name_end p o)) c.interface_text.ensures.text (c.name_end-interface.ensures p path) in
    let member = subst (λ o. c.name_end-member.result ≡ told (name_end i o)) c.member_text.ensures.text (c.name_end-member.ensures i interface) in
    let error = subst (λ o. c.name_end-error.result ≡ told (name_end m o)) c.interface_text-2.ensures.text (c.name_end-error.ensures m member) in
    let reply = c.number_end-reply.ensures r error in
    let destination = subst (λ o. c.name_end-destination.result ≡ told (name_end n o)) c.name_text.ensures.text (c.name_end-destination.ensures n reply) in
    let sender = subst (λ o. c.name_end-sender.result ≡ told (name_end d o)) c.name_text-2.ensures.text (c.name_end-sender.ensures d destination) in
    let types = c.behind-types.ensures _ (c.at_eight.ensures s sender) in
    let first = c.behind.ensures _ (c.at_eight-2.ensures _ types) ∙ ap (λ (k : ℕ). told (aligned 8 k + 4)) (sym (list_types e ds s body)) in
    if_map _ _ c.texts_end.result (λ len h. h e.order (aligned 8 (header_end e) + 4) first ∙ ap told (sym (list_written e ds named body))) c.texts_end.ensures.end

pub returns-clause-known : goal.returns-clause-known
returns-clause-known c list =
    c.texts_end.ensures.known list.0 (one_list (all_data c.in_ok-texts.texts.now) (map text_data list.0) (envelope_of c.args.message.now).body c.in_ok-texts.ensures.elements list.1)
