use Rattle.std.proofs.Common.{◌≡◌, ◌++◌, take}
use Rattle.std.specs.List.{flat_map}
use Rattle.atspi_protocol.specs.following.Takes.{held_names}
use Rattle.atspi_reader.specs.ReaderOf.{reader_of}
use Rattle.atspi_live_reader.specs.Shows.{shown_of}
use Rattle.atspi_live_reader.proofs.showing.put_views.Given as goal

abbrev pub invariant-apps : goal.invariant-apps
invariant-apps l = l.out ≡ l.initial.out ++ flat_map (shown_of (reader_of l.reader)) (take l.k (held_names (reader_of l.reader)))
