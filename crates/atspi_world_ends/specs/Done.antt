-- What a reader did, as the definitions see it.
use Rattle.atspi_message.specs.Envelope.{envelope_of}
use Rattle.atspi_protocol.specs.declared.following.event.ReaderEvent.{ReaderEvent}
use Rattle.atspi_protocol.specs.declared.following.event.ReaderEvent.TheVariants.{Send, Say, Gone}
use Rattle.atspi_protocol.specs.following.ReaderState.{Done, sends, speaks, tells_end}

abbrev pub done_of : ReaderEvent → Done
done_of (Send message) = sends (envelope_of message)
done_of (Say name line) = speaks name line
done_of (Gone name) = tells_end name
