use Rattle.std.proofs.Common.{sym, subst}
use Rattle.atspi_message_in_place.specs.View.{envelope_at}
use Rattle.atspi_app.specs.called.Called.{reply_of}
use Rattle.atspi_app.specs.inner.Seen.{AreUnnumbered}
use Rattle.atspi_app.proofs.OfCalls.{back_unnumbered, reply_behind}
use Rattle.atspi_app.proofs.telling.told_of_call.Goals as goal

pub push_all-requires : goal.push_all-requires
push_all-requires c = subst AreUnnumbered (sym c.in_ok-mail.ensures) (back_unnumbered (envelope_at c.args.call.now) (reply_of c.args.reply))

pub returns : goal.returns
returns c = λ f e. reply_behind _ _ _ _ _ c.in_ok-push_all.ensures (c.in_ok-told.ensures f e) c.in_ok-mail.ensures
