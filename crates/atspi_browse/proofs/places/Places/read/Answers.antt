use Rattle.std.proofs.Common.{ap, arith, rules, length}
use Rattle.std.proofs.lemmas.Str.{length-le-encodes}
use Rattle.atspi_browse.proofs.PlaceLemmas.{fits_in, read_none, read_some}
use Rattle.atspi_browse.proofs.places.Places.read.Goals as goal

pub read-reading-requires : goal.read-reading-requires
read-reading-requires c = omega (arith, ap length c.as_str-characters.ensures.chars, length-le-encodes c.args.text.now, ap length c.as_str-characters.ensures.spelled)

pub returns-in_ok-put-clause-read : goal.returns-in_ok-put-clause-read
returns-in_ok-put-clause-read c =
    read_some c.args.self.now c.put.new.self c.args.line c.args.text.now c.in-Some.unit (search rules) (search rules) (search rules) c.put.ensures.told c.in_ok-put.ensures.put
    (rw (c.as_str-characters.ensures.chars, c.at-cursor.ensures) at c.in-Some.ensures)

pub returns-in_ok-put-clause-fits : goal.returns-in_ok-put-clause-fits
returns-in_ok-put-clause-fits c = fits_in c.args.line.way c.args.line.grain c.args.text.now c.at-cursor.result c.in-Some.unit (rw c.as_str-characters.ensures.chars at c.in-Some.ensures)

pub returns-in_default-clause-read : goal.returns-in_default-clause-read
returns-in_default-clause-read c =
    rw c.in_default.is
    (read_none c.args.self.now c.args.line c.args.text.now (search rules) (search rules) (search rules) (rw (c.as_str-characters.ensures.chars, c.at-cursor.ensures) at c.in_default.ensures))
