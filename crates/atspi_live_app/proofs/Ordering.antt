-- The order of lines and messages, carried from what is known of an end to what is told of a run.
use Rattle.std.proofs.Common.{◌≡◌, ℕ, List, [], ◌∷◌, ◌++◌, Option, None, Some, refl}
use Rattle.atspi_auth.specs.Talk.{behind, client_start}
use Rattle.atspi_message.specs.Envelope.{Envelope}
use Rattle.atspi_stream.specs.Stream.{IsParted}
use Rattle.atspi_live_host.specs.declared.call.Call.{Call}
use Rattle.atspi_live_host.specs.Calls.{taken, given}
use Rattle.atspi_protocol.specs.exporting.Exporter.{Exporter}
use Rattle.atspi_live_conversation.specs.Speech.{EndsBy, IsInOrder, IsMalformed, IsRefused, IsSpeech, IsSpentBy, envelopes}
use Rattle.atspi_live_conversation.specs.declared.ending.Ending.{Ending}
use Rattle.atspi_live_conversation.specs.declared.ending.Ending.TheVariants as endings
use Rattle.atspi_live_app.specs.Lines.{lines_of}
use Rattle.atspi_live_app.specs.Live.{IsMarked, IsStopped}
use Rattle.atspi_live_app.specs.Overs.{EndsSo, IsOver, StopsBy}
use Rattle.atspi_live_app.specs.Standing.{Event, IsAfter, IsSpent, lines_in, taken_in}
use Rattle.atspi_live_app.specs.Turns.{InTurn, IsInTurn, pieces}
use Rattle.atspi_live_app.specs.declared.live_app.Stop.{Stop}
use Rattle.atspi_live_app.specs.declared.live_app.Stop.TheVariants as stops
use Rattle.atspi_live_app.specs.declared.over.Over.{Over}
use Rattle.atspi_live_app.specs.declared.over.Over.TheVariants as overs
use Rattle.atspi_live_app.proofs.Pacing.{Paced}
use Rattle.atspi_live_app.proofs.Turns.{in_turn}

-- where the messages of these bytes were taken and lines at the front of these were done, the one order is the other
abbrev pub Leads : (List Event → List (List ℕ) → Type 0) → (List Event → List (List ℕ) → Type 0) → List (List ℕ) → List ℕ → Type 0
Leads P Q lines t =
    (messages : List (Envelope × List ℕ)) (rest : List ℕ) (history : List Event) (left : List (List ℕ)) → IsParted (behind client_start t) messages rest → lines_in history ++ left ≡ lines → taken_in history ≡ envelopes messages
    → P history left → Q history left

pub after_in : (P Q : List Event → List (List ℕ) → Type 0) (lines : List (List ℕ)) (t : List ℕ) (messages : List (Envelope × List ℕ)) (rest : List ℕ) (s : Option Exporter) (said : List Envelope) → Leads P Q lines t
    → IsParted (behind client_start t) messages rest → IsAfter P lines s (envelopes messages) said → IsAfter Q lines s (envelopes messages) said
after_in P Q lines t messages rest s said f p a = record {
  history = a.history;
  left = a.left;
  order = f messages rest a.history a.left p a.all a.taken a.order;
  all = a.all;
  taken = a.taken;
  whole = a.whole;
  makes = a.makes;
  handed = a.handed;
  numbered = a.numbered;
}

order_in : (P Q : List Event → List (List ℕ) → Type 0) (lines : List (List ℕ)) (t : List ℕ) → Leads P Q lines t → IsInOrder (IsAfter P lines) t → IsInOrder (IsAfter Q lines) t
order_in P Q lines t f s = record {
  authenticated = s.authenticated;
  messages = s.messages;
  rest = s.rest;
  parted = s.parted;
  awaits = s.awaits;
  end = s.end;
  said = s.said;
  stands = after_in P Q lines t s.messages s.rest s.end s.said f s.parted s.stands;
}

malformed_in : (P Q : List Event → List (List ℕ) → Type 0) (lines : List (List ℕ)) (t : List ℕ) (start place reason : ℕ) → Leads P Q lines t → IsMalformed (IsAfter P lines) t start place reason → IsMalformed (IsAfter Q lines) t start place reason
malformed_in P Q lines t start place reason f s = record {
  messages = s.messages;
  rest = s.rest;
  parted = s.parted;
  fault = s.fault;
  before = s.before;
  end = s.end;
  said = s.said;
  stands = after_in P Q lines t s.messages s.rest s.end s.said f s.parted s.stands;
}

refused_in : (P Q : List Event → List (List ℕ) → Type 0) (lines : List (List ℕ)) (t : List ℕ) → Leads P Q lines t → IsRefused (IsAfter P lines) t → IsRefused (IsAfter Q lines) t
refused_in P Q lines t f s = record {
  at_fault = s.at_fault;
  end = s.end;
  said = s.said;
  stands = after_in P Q lines t [] (behind client_start t) s.end s.said f (record { are = tt; parted = refl }) s.stands;
}

abbrev pub speech_in : (P Q : List Event → List (List ℕ) → Type 0) (lines : List (List ℕ)) (t g : List ℕ) → Leads P Q lines t → IsSpeech (IsAfter P lines) t g → IsSpeech (IsAfter Q lines) t g
speech_in P Q lines t g f s = record {
  messages = s.messages;
  rest = s.rest;
  parted = s.parted;
  end = s.end;
  said = s.said;
  stands = after_in P Q lines t s.messages s.rest s.end s.said f s.parted s.stands;
  sent = s.sent;
  spelled = s.spelled;
  over = s.over;
  more = s.more;
  front = s.front;
}

spent_in : (P Q : List Event → List (List ℕ) → Type 0) (lines : List (List ℕ)) (t : List ℕ) → Leads P Q lines t → IsSpentBy (IsAfter P lines) IsSpent t → IsSpentBy (IsAfter Q lines) IsSpent t
spent_in P Q lines t f s = record {
  messages = s.messages;
  message = s.message;
  bytes = s.bytes;
  rest = s.rest;
  parted = s.parted;
  is = s.is;
  end = s.end;
  said = s.said;
  stands = after_in P Q lines t s.messages (s.bytes ++ s.rest) s.end s.said f s.parted s.stands;
  spent = s.spent;
}

ends_in : (P Q : List Event → List (List ℕ) → Type 0) (lines : List (List ℕ)) (k rounds : ℕ) (ending : Ending) (cs : List Call) → Leads P Q lines (taken k cs) → EndsBy (IsAfter P lines) IsSpent k ending rounds cs
    → EndsBy (IsAfter Q lines) IsSpent k ending rounds cs
ends_in P Q lines k rounds endings.RoundsDone cs f e = (order_in P Q lines (taken k cs) f e.0, e.1, e.2)
ends_in P Q lines k rounds endings.PeerEnded cs f e = (order_in P Q lines (taken k cs) f e.0, e.1)
ends_in P Q lines k rounds endings.HostFailed cs f e = order_in P Q lines (taken k cs) f e
ends_in P Q lines k rounds endings.NotAuthenticated cs f e = (refused_in P Q lines (taken k cs) f e.0, e.1)
ends_in P Q lines k rounds (endings.Malformed start fault) cs f e = (malformed_in P Q lines (taken k cs) start fault.place fault.reason f e.0, e.1)
ends_in P Q lines k rounds endings.Spent cs f e = (spent_in P Q lines (taken k cs) f e.0, e.1)
ends_in P Q lines k rounds endings.NoMemory cs f e = tt

stopped_in : (P Q : List Event → List (List ℕ) → Type 0) (lines : List (List ℕ)) (t : List ℕ) (messages : List (Envelope × List ℕ)) (rest : List ℕ) (stop : Stop) → Leads P Q lines t → IsParted (behind client_start t) messages rest
    → IsStopped P stop lines (envelopes messages) → IsStopped Q stop lines (envelopes messages)
stopped_in P Q lines t messages rest (stops.Refused number why) f p s = record {
  history = s.history;
  left = s.left;
  order = f messages rest s.history s.left p s.all s.taken s.order;
  all = s.all;
  taken = s.taken;
  whole = s.whole;
  makes = s.makes;
  numbered = s.numbered;
  next = s.next;
  counted = s.counted;
}
stopped_in P Q lines t messages rest stops.Spent f p s = record {
  history = s.history;
  line = s.line;
  left = s.left;
  order = f messages rest s.history (s.line ∷ s.left) p s.all s.taken s.order;
  all = s.all;
  taken = s.taken;
  whole = s.whole;
  makes = s.makes;
  numbered = s.numbered;
  edit = s.edit;
  asks = s.asks;
  spent = s.spent;
}
stopped_in P Q lines t messages rest stops.NoMemory f p s = tt

stops_in : (P Q : List Event → List (List ℕ) → Type 0) (lines : List (List ℕ)) (t : List ℕ) (stop : Stop) → Leads P Q lines t → StopsBy P lines stop t → StopsBy Q lines stop t
stops_in P Q lines t stop f s = record {
  authenticated = s.authenticated;
  messages = s.messages;
  rest = s.rest;
  parted = s.parted;
  awaits = s.awaits;
  stopped = stopped_in P Q lines t s.messages s.rest stop f s.parted s.stopped;
}

so_in : (P Q : List Event → List (List ℕ) → Type 0) (lines : List (List ℕ)) (k rounds : ℕ) (over : Over) (cs : List Call) → Leads P Q lines (taken k cs) → EndsSo P lines k over rounds (Some cs) → EndsSo Q lines k over rounds (Some cs)
so_in P Q lines k rounds (overs.Ended ending) cs f e = ends_in P Q lines k rounds ending cs f e
so_in P Q lines k rounds (overs.Stopped stop) cs f e = (stops_in P Q lines (taken k cs) stop f e.0, e.1)

none_so : (P : List Event → List (List ℕ) → Type 0) (lines : List (List ℕ)) (k rounds : ℕ) (over : Over) → EndsSo P lines k over rounds None
none_so P lines k rounds (overs.Ended ending) = tt
none_so P lines k rounds (overs.Stopped stop) = tt

pub over_in : (text : List ℕ) (place n takes' k rounds : ℕ) (over : Over) (calls : Option (List Call)) (marks : List ℕ) → Paced text place n takes' k calls marks → IsOver (IsMarked marks) (lines_of text) k over rounds calls
    → IsOver (InTurn k calls) (lines_of text) k over rounds calls
over_in text place n takes' k rounds over None marks p o = record { speaks = tt; so = none_so (InTurn k None) (lines_of text) k rounds over }
over_in text place n takes' k rounds over (Some cs) marks p o =
    let f : Leads (IsMarked marks) (IsInTurn (pieces k cs)) (lines_of text) (taken k cs) = in_turn text place n takes' k cs marks p in
    record {
      speaks = speech_in (IsMarked marks) (IsInTurn (pieces k cs)) (lines_of text) (taken k cs) (given k cs) f o.speaks;
      so = so_in (IsMarked marks) (IsInTurn (pieces k cs)) (lines_of text) k rounds over cs f o.so;
    }
