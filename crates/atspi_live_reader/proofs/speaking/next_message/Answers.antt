use Rattle.std.proofs.Common.{[], ◌∷◌, refl}
use Rattle.atspi_message.specs.Envelope.{envelope_of}
use Rattle.atspi_protocol.specs.following.ReaderState.{sends}
use Rattle.atspi_reader.specs.ReaderOf.{reader_of}
use Rattle.atspi_live_reader.proofs.Handing.{gives_both, gives_none, gives_one, gone_less, gone_some}
use Rattle.atspi_live_reader.proofs.speaking.next_message.Goals as goal

pub events-init : goal.events-init
events-init c = record { gives = gives_none (reader_of c.args.reader.now) c.args.starved.now c.args.lines.now; is = c.requires }

pub events-preserved : goal.events-preserved
events-preserved c =
    let h = c.in-Aside.ensures.hands in
    record {
      gives = gives_both [] [] (reader_of c.args.reader.now) (reader_of c.events.reader) (reader_of c.hand_over.new.reader) c.args.starved.now c.events.starved c.hand_over.new.starved
          c.args.lines.now c.events.lines c.hand_over.new.lines c.events.invariant.gives
          (gives_one [] (h.0 ∷ []) (reader_of c.events.reader) (reader_of c.hand_over.new.reader) c.events.starved c.hand_over.new.starved c.events.lines c.hand_over.new.lines h.1 h.2);
      is = c.hand_over.ensures.stays;
    }

pub events-smaller : goal.events-smaller
events-smaller c =
    let h = c.in-Aside.ensures.hands in
    gone_less (reader_of c.events.reader) (reader_of c.hand_over.new.reader) h.0 [] h.2.whole

pub returns-in-Message-clause-hands : goal.returns-in-Message-clause-hands
returns-in-Message-clause-hands c =
    gives_both [] (envelope_of c.in-Message.message ∷ []) (reader_of c.args.reader.now) (reader_of c.events.reader) (reader_of c.hand_over.new.reader) c.args.starved.now c.events.starved c.hand_over.new.starved
    c.args.lines.now c.events.lines c.hand_over.new.lines c.events.invariant.gives
    (gives_one (envelope_of c.in-Message.message ∷ []) (sends (envelope_of c.in-Message.message) ∷ []) (reader_of c.events.reader) (reader_of c.hand_over.new.reader)
    c.events.starved c.hand_over.new.starved c.events.lines c.hand_over.new.lines refl c.in-Message.ensures.hands)

pub returns-in-Message-clause-fewer : goal.returns-in-Message-clause-fewer
returns-in-Message-clause-fewer c =
    gone_some (envelope_of c.in-Message.message) (reader_of c.args.reader.now) (reader_of c.hand_over.new.reader) c.args.starved.now c.hand_over.new.starved c.args.lines.now c.hand_over.new.lines
    (gives_both [] (envelope_of c.in-Message.message ∷ []) (reader_of c.args.reader.now) (reader_of c.events.reader) (reader_of c.hand_over.new.reader) c.args.starved.now c.events.starved c.hand_over.new.starved
    c.args.lines.now c.events.lines c.hand_over.new.lines c.events.invariant.gives
    (gives_one (envelope_of c.in-Message.message ∷ []) (sends (envelope_of c.in-Message.message) ∷ []) (reader_of c.events.reader) (reader_of c.hand_over.new.reader)
    c.events.starved c.hand_over.new.starved c.events.lines c.hand_over.new.lines refl c.in-Message.ensures.hands))

pub returns-in-Nothing-clause-hands : goal.returns-in-Nothing-clause-hands
returns-in-Nothing-clause-hands c =
    gives_both [] [] (reader_of c.args.reader.now) (reader_of c.events.reader) (reader_of c.hand_over.new.reader) c.args.starved.now c.events.starved c.hand_over.new.starved
    c.args.lines.now c.events.lines c.hand_over.new.lines c.events.invariant.gives
    (gives_one [] [] (reader_of c.events.reader) (reader_of c.hand_over.new.reader) c.events.starved c.hand_over.new.starved c.events.lines c.hand_over.new.lines refl c.in-Nothing.ensures.hands)
