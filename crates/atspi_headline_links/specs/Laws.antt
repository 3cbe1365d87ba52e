-- THE LAW OF BUS AND LINKS, which every lawful trace of a script keeps in the run that keeps the other laws.
use Rattle.std.specs.Prelude.{false, List}
use Rattle.atspi_headline.specs.Words.{Act, of_bus, Everywhere, AreDue}
use Rattle.atspi_headline.specs.Headline.{GotsBehind, bus_words_due, LawOfLinks}
use Rattle.atspi_headline_laws.specs.Laws.{ProvedLaws}

-- Behind a move stand the messages whose last byte it moves, of a link to the bus as of one from it; behind a line, and
-- where the bus takes an end, nobody takes anything.
abbrev pub WhatIsMovedIsTaken : List Act → Type 0
WhatIsMovedIsTaken run = Everywhere (GotsBehind false) run

-- What the bus says of its own stands directly behind what it takes: a message, an end, one whom it drops; and nowhere
-- else. It is what the bus's own step says, from the state that the run tells
abbrev pub BusSaysItsStep : List Act → Type 0
BusSaysItsStep run = AreDue false of_bus bus_words_due run

-- ALL THAT IS PROVED, of one run
pub record LawsKept (run : List Act) : Type 0 where
  pub laws : ProvedLaws run
  pub links : LawOfLinks false run
