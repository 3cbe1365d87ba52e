use Rattle.std.proofs.Common.{sym, ap, ◌∙◌}
use Rattle.atspi_base.specs.valid_names.Names.{is_bus_name}
use Rattle.atspi_message_in_place.specs.Names.{fits}
use Rattle.atspi_app_answers.proofs.Senders.{sender_named}
use Rattle.atspi_app_answers.proofs.replies.reply.Goals as goal

pub return_values-requires : goal.return_values-requires
return_values-requires c =
    ap (fits is_bus_name) (sym c.in-Some.is)
    ∙ sender_named c.args.call.now.path c.args.call.now.interface c.args.call.now.member c.args.call.now.error c.args.call.now.destination c.args.call.now.sender c.args.call.now.named
