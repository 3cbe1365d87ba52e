use Rattle.std.proofs.Common.{◌++◌, [], rules}
use Rattle.atspi_reader.specs.ReaderOf.{reader_of}
use Rattle.atspi_live_reader.proofs.Handing.{gives_both, gives_none, gives_rest}
use Rattle.atspi_live_reader.proofs.speaking.take_rest.Goals as goal

pub messages-init : goal.messages-init
messages-init c = record { gives = ([], gives_none (reader_of c.args.reader.now) c.args.starved.now c.args.lines.now); is = c.requires }

pub messages-preserved : goal.messages-preserved
messages-preserved c =
    let o = c.messages.invariant.gives in
    let n = c.let_go.ensures.gives in
    record {
      gives = (
        o.0 ++ n.0,
        gives_both o.0 n.0 (reader_of c.args.reader.now) (reader_of c.messages.reader) (reader_of c.let_go.new.reader) c.args.starved.now c.messages.starved c.let_go.new.starved
            c.args.lines.now c.messages.lines c.let_go.new.lines o.1 n.1,
      );
      is = c.let_go.ensures.stays;
    }

pub returns : goal.returns
returns c =
    let o = c.messages.invariant.gives in
    let n = c.let_go.ensures.gives in
    gives_rest (o.0 ++ n.0) (reader_of c.args.reader.now) (reader_of c.let_go.new.reader) c.args.starved.now c.let_go.new.starved c.args.lines.now c.let_go.new.lines
    (gives_both o.0 n.0 (reader_of c.args.reader.now) (reader_of c.messages.reader) (reader_of c.let_go.new.reader) c.args.starved.now c.messages.starved c.let_go.new.starved
    c.args.lines.now c.messages.lines c.let_go.new.lines o.1 n.1) (c.let_go.ensures.all (search rules))
