-- The links that are open behind calls.
use Rattle.std.specs.Prelude.{ℕ, List, [], ◌∷◌, ◌++◌}
use Rattle.atspi_live_host.specs.declared.call.Did.{Did}
use Rattle.atspi_live_host.specs.declared.call.Did.TheVariants.{Done, NotYet, End, Failed}
use Rattle.atspi_live_host.specs.declared.call.Call.{Call}
use Rattle.atspi_live_host.specs.declared.call.Call.TheVariants.{Listen, Accept, Connect, Read, Write, Close}
use Rattle.atspi_live_host.specs.Calls.{without}

-- a link that is given comes behind the others
abbrev pub with_given : List ℕ → Did → List ℕ
with_given links (Done k) = links ++ k ∷ []
with_given links NotYet = links
with_given links End = links
with_given links Failed = links

-- the links that are open behind a call, in the order in which they were given, where these were open before it
abbrev pub open_then : List ℕ → Call → List ℕ
open_then links (Listen path did) = links
open_then links (Accept did) = with_given links did
open_then links (Connect path did) = with_given links did
open_then links (Read k bytes did) = links
open_then links (Write k bytes did) = links
open_then links (Close k) = without k links

-- the same of calls
abbrev pub open_from : List ℕ → List Call → List ℕ
open_from links [] = links
open_from links (c ∷ cs) = open_from (open_then links c) cs

-- the links that are open behind all calls of a run
abbrev pub open_behind : List Call → List ℕ
open_behind past = open_from [] past
