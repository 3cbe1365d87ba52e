-- What is said of an end holds of what is seen of it, where what it did is told by that alone.
use Rattle.std.proofs.Common.{ℕ, zero, suc, List, ◌++◌, Option, None, Some, inl, inr}
use Rattle.atspi_message.specs.Envelope.{Envelope}
use Rattle.atspi_live_host.specs.declared.call.Did.{Did}
use Rattle.atspi_live_host.specs.declared.call.Call.{Call}
use Rattle.atspi_live_host.specs.Calls.{taken, given}
use Rattle.atspi_live_conversation.specs.Rounds.{AreRounds, Breaks, EndsBehind, IsRound, IsRun, IsWrite, WritesIfDue}
use Rattle.atspi_live_conversation.specs.Speech.{Ends, EndsBy, IsAllGiven, IsInOrder, IsMalformed, IsRefused, IsSpeech, IsSpentBy, Speaks}
use Rattle.atspi_live_conversation.specs.declared.ending.Ending.{Ending}
use Rattle.atspi_live_conversation.specs.declared.ending.Ending.TheVariants as endings

abbrev pub Sees : {E F : Type 0} → (E → List Envelope → List Envelope → Type 0) → (F → List Envelope → List Envelope → Type 0) → (E → F) → Type 0
Sees Stands Stands' see = (end : _) (took said : List Envelope) → Stands end took said → Stands' (see end) took said

abbrev pub SeesEmpty : {E F : Type 0} → (E → Type 0) → (F → Type 0) → (E → F) → Type 0
SeesEmpty IsEmpty IsEmpty' see = (end : _) → IsEmpty end → IsEmpty' (see end)

abbrev pub speech_seen : {E F : Type 0} (Stands : E → List Envelope → List Envelope → Type 0) (Stands' : F → List Envelope → List Envelope → Type 0) (see : E → F) (t g : List ℕ) → Sees Stands Stands' see → IsSpeech Stands t g → IsSpeech Stands' t g
speech_seen Stands Stands' see t g f s = record {
  messages = s.messages;
  rest = s.rest;
  parted = s.parted;
  end = see s.end;
  said = s.said;
  stands = f s.end _ s.said s.stands;
  sent = s.sent;
  spelled = s.spelled;
  over = s.over;
  more = s.more;
  front = s.front;
}

pub speaks_seen : {E F : Type 0} (Stands : E → List Envelope → List Envelope → Type 0) (Stands' : F → List Envelope → List Envelope → Type 0) (see : E → F) (k : ℕ) (calls : Option (List Call)) → Sees Stands Stands' see → Speaks Stands k calls → Speaks Stands' k calls
speaks_seen Stands Stands' see k None f s = tt
speaks_seen Stands Stands' see k (Some cs) f s = speech_seen Stands Stands' see (taken k cs) (given k cs) f s

all_given_seen : {E F : Type 0} (Stands : E → List Envelope → List Envelope → Type 0) (Stands' : F → List Envelope → List Envelope → Type 0) (IsEmpty : E → Type 0) (IsEmpty' : F → Type 0) (see : E → F) (t g : List ℕ)
    → Sees Stands Stands' see → SeesEmpty IsEmpty IsEmpty' see → IsAllGiven Stands IsEmpty t g → IsAllGiven Stands' IsEmpty' t g
all_given_seen Stands Stands' IsEmpty IsEmpty' see t g f h a = record {
  speech = speech_seen Stands Stands' see t g f a.speech;
  awaits = a.awaits;
  none_left = λ over. h a.speech.end (a.none_left over);
  no_more = a.no_more;
}

write_seen : {E F : Type 0} (Stands : E → List Envelope → List Envelope → Type 0) (Stands' : F → List Envelope → List Envelope → Type 0) (see : E → F) (k : ℕ) (t g : List ℕ) (did : Did) (calls : List Call) → Sees Stands Stands' see
    → IsWrite Stands k t g did calls → IsWrite Stands' k t g did calls
write_seen Stands Stands' see k t g did calls f w = (w.0, w.1, w.2, speech_seen Stands Stands' see t (g ++ w.0) f w.3, w.4)

if_due_seen : {E F : Type 0} (Stands : E → List Envelope → List Envelope → Type 0) (Stands' : F → List Envelope → List Envelope → Type 0) (IsEmpty : E → Type 0) (IsEmpty' : F → Type 0) (see : E → F) (k : ℕ) (t g : List ℕ) (calls : List Call)
    → Sees Stands Stands' see → SeesEmpty IsEmpty IsEmpty' see → WritesIfDue Stands IsEmpty k t g calls → WritesIfDue Stands' IsEmpty' k t g calls
if_due_seen Stands Stands' IsEmpty IsEmpty' see k t g calls f h (inl w) = inl (w.0, all_given_seen Stands Stands' IsEmpty IsEmpty' see t g f h w.1)
if_due_seen Stands Stands' IsEmpty IsEmpty' see k t g calls f h (inr w) = inr (w.0, w.1, write_seen Stands Stands' see k t g w.0 calls f w.2)

pub round_seen : {E F : Type 0} (Stands : E → List Envelope → List Envelope → Type 0) (Stands' : F → List Envelope → List Envelope → Type 0) (IsEmpty : E → Type 0) (IsEmpty' : F → Type 0) (see : E → F) (k most : ℕ) (t g : List ℕ) (calls : List Call)
    → Sees Stands Stands' see → SeesEmpty IsEmpty IsEmpty' see → IsRound Stands IsEmpty k most t g calls → IsRound Stands' IsEmpty' k most t g calls
round_seen Stands Stands' IsEmpty IsEmpty' see k most t g calls f h r = (r.0, r.1, r.2, if_due_seen Stands Stands' IsEmpty IsEmpty' see k (t ++ taken k r.0) g r.1 f h r.3, r.4)

pub breaks_seen : {E F : Type 0} (Stands : E → List Envelope → List Envelope → Type 0) (Stands' : F → List Envelope → List Envelope → Type 0) (IsEmpty : E → Type 0) (IsEmpty' : F → Type 0) (see : E → F) (k most : ℕ) (ending : Ending) (t g : List ℕ) (calls : List Call)
    → Sees Stands Stands' see → SeesEmpty IsEmpty IsEmpty' see → Breaks Stands IsEmpty k most ending t g calls → Breaks Stands' IsEmpty' k most ending t g calls
breaks_seen Stands Stands' IsEmpty IsEmpty' see k most endings.RoundsDone t g calls f h b = b
breaks_seen Stands Stands' IsEmpty IsEmpty' see k most endings.PeerEnded t g calls f h b = b
breaks_seen Stands Stands' IsEmpty IsEmpty' see k most endings.HostFailed t g calls f h (inl b) = inl b
breaks_seen Stands Stands' IsEmpty IsEmpty' see k most endings.HostFailed t g calls f h (inr b) = inr (b.0, b.1, b.2, write_seen Stands Stands' see k (t ++ taken k b.0) g _ b.1 f b.3, b.4)
breaks_seen Stands Stands' IsEmpty IsEmpty' see k most endings.NotAuthenticated t g calls f h b = b
breaks_seen Stands Stands' IsEmpty IsEmpty' see k most (endings.Malformed start fault) t g calls f h b = b
breaks_seen Stands Stands' IsEmpty IsEmpty' see k most endings.Spent t g calls f h b = b
breaks_seen Stands Stands' IsEmpty IsEmpty' see k most endings.NoMemory t g calls f h (inl b) = inl b
breaks_seen Stands Stands' IsEmpty IsEmpty' see k most endings.NoMemory t g calls f h (inr b) = inr (round_seen Stands Stands' IsEmpty IsEmpty' see k most t g calls f h b)

ends_behind_seen : {E F : Type 0} (Stands : E → List Envelope → List Envelope → Type 0) (Stands' : F → List Envelope → List Envelope → Type 0) (IsEmpty : E → Type 0) (IsEmpty' : F → Type 0) (see : E → F) (k most : ℕ) (ending : Ending) (whole rounds : ℕ) (t g : List ℕ) (calls : List Call)
    → Sees Stands Stands' see → SeesEmpty IsEmpty IsEmpty' see → EndsBehind Stands IsEmpty k most ending whole rounds t g calls → EndsBehind Stands' IsEmpty' k most ending whole rounds t g calls
ends_behind_seen Stands Stands' IsEmpty IsEmpty' see k most endings.RoundsDone whole rounds t g calls f h e = e
ends_behind_seen Stands Stands' IsEmpty IsEmpty' see k most endings.PeerEnded whole rounds t g calls f h e = e
ends_behind_seen Stands Stands' IsEmpty IsEmpty' see k most endings.HostFailed whole rounds t g calls f h e = (e.0, breaks_seen Stands Stands' IsEmpty IsEmpty' see k most endings.HostFailed t g calls f h e.1)
ends_behind_seen Stands Stands' IsEmpty IsEmpty' see k most endings.NotAuthenticated whole rounds t g calls f h e = e
ends_behind_seen Stands Stands' IsEmpty IsEmpty' see k most (endings.Malformed start fault) whole rounds t g calls f h e = e
ends_behind_seen Stands Stands' IsEmpty IsEmpty' see k most endings.Spent whole rounds t g calls f h e = e
ends_behind_seen Stands Stands' IsEmpty IsEmpty' see k most endings.NoMemory whole rounds t g calls f h e = (e.0, breaks_seen Stands Stands' IsEmpty IsEmpty' see k most endings.NoMemory t g calls f h e.1)

pub rounds_seen : {E F : Type 0} (Stands : ℕ → E → List Envelope → List Envelope → Type 0) (Stands' : ℕ → F → List Envelope → List Envelope → Type 0) (IsEmpty : E → Type 0) (IsEmpty' : F → Type 0) (see : E → F) (k most n : ℕ) (calls : List Call)
    → ((begun : ℕ) → Sees (Stands begun) (Stands' begun) see) → SeesEmpty IsEmpty IsEmpty' see → AreRounds Stands IsEmpty k most n calls → AreRounds Stands' IsEmpty' k most n calls
rounds_seen Stands Stands' IsEmpty IsEmpty' see k most zero calls f h r = r
rounds_seen Stands Stands' IsEmpty IsEmpty' see k most (suc n) calls f h r = (
  r.0,
  r.1,
  rounds_seen Stands Stands' IsEmpty IsEmpty' see k most n r.0 f h r.2,
  round_seen (Stands (suc n)) (Stands' (suc n)) IsEmpty IsEmpty' see k most (taken k r.0) (given k r.0) r.1 (f (suc n)) h r.3,
  r.4,
)

pub run_seen : {E F : Type 0} (Stands : ℕ → E → List Envelope → List Envelope → Type 0) (Stands' : ℕ → F → List Envelope → List Envelope → Type 0) (IsEmpty : E → Type 0) (IsEmpty' : F → Type 0) (see : E → F) (k most : ℕ) (ending : Ending) (rounds : ℕ) (calls : List Call)
    → ((begun : ℕ) → Sees (Stands begun) (Stands' begun) see) → SeesEmpty IsEmpty IsEmpty' see → IsRun Stands IsEmpty k most ending rounds calls → IsRun Stands' IsEmpty' k most ending rounds calls
run_seen Stands Stands' IsEmpty IsEmpty' see k most ending rounds calls f h r = record {
  whole = r.whole;
  done = r.done;
  last = r.last;
  are = rounds_seen Stands Stands' IsEmpty IsEmpty' see k most r.whole r.done f h r.are;
  ends = ends_behind_seen (Stands (suc r.whole)) (Stands' (suc r.whole)) IsEmpty IsEmpty' see k most ending r.whole rounds (taken k r.done) (given k r.done) r.last (f (suc r.whole)) h r.ends;
  all = r.all;
}

-- how a run ended
spent_seen : {E F : Type 0} (Stands : E → List Envelope → List Envelope → Type 0) (Stands' : F → List Envelope → List Envelope → Type 0) (IsSpent : E → Envelope → Type 0) (IsSpent' : F → Envelope → Type 0) (see : E → F) (t : List ℕ)
    → Sees Stands Stands' see → ((end : E) (e : Envelope) → IsSpent end e → IsSpent' (see end) e) → IsSpentBy Stands IsSpent t → IsSpentBy Stands' IsSpent' t
spent_seen Stands Stands' IsSpent IsSpent' see t f h s = record {
  messages = s.messages;
  message = s.message;
  bytes = s.bytes;
  rest = s.rest;
  parted = s.parted;
  is = s.is;
  end = see s.end;
  said = s.said;
  stands = f s.end _ s.said s.stands;
  spent = h s.end s.message s.spent;
}

order_seen : {E F : Type 0} (Stands : E → List Envelope → List Envelope → Type 0) (Stands' : F → List Envelope → List Envelope → Type 0) (see : E → F) (t : List ℕ) → Sees Stands Stands' see → IsInOrder Stands t → IsInOrder Stands' t
order_seen Stands Stands' see t f s = record {
  authenticated = s.authenticated;
  messages = s.messages;
  rest = s.rest;
  parted = s.parted;
  awaits = s.awaits;
  end = see s.end;
  said = s.said;
  stands = f s.end _ s.said s.stands;
}

malformed_seen : {E F : Type 0} (Stands : E → List Envelope → List Envelope → Type 0) (Stands' : F → List Envelope → List Envelope → Type 0) (see : E → F) (t : List ℕ) (start place reason : ℕ) → Sees Stands Stands' see
    → IsMalformed Stands t start place reason → IsMalformed Stands' t start place reason
malformed_seen Stands Stands' see t start place reason f s = record {
  messages = s.messages;
  rest = s.rest;
  parted = s.parted;
  fault = s.fault;
  before = s.before;
  end = see s.end;
  said = s.said;
  stands = f s.end _ s.said s.stands;
}

refused_seen : {E F : Type 0} (Stands : E → List Envelope → List Envelope → Type 0) (Stands' : F → List Envelope → List Envelope → Type 0) (see : E → F) (t : List ℕ) → Sees Stands Stands' see → IsRefused Stands t → IsRefused Stands' t
refused_seen Stands Stands' see t f s = record { at_fault = s.at_fault; end = see s.end; said = s.said; stands = f s.end _ s.said s.stands }

ends_by_seen : {E F : Type 0} (Stands : E → List Envelope → List Envelope → Type 0) (Stands' : F → List Envelope → List Envelope → Type 0) (IsSpent : E → Envelope → Type 0) (IsSpent' : F → Envelope → Type 0) (see : E → F) (k rounds : ℕ) (ending : Ending) (cs : List Call)
    → Sees Stands Stands' see → ((end : E) (e : Envelope) → IsSpent end e → IsSpent' (see end) e) → EndsBy Stands IsSpent k ending rounds cs → EndsBy Stands' IsSpent' k ending rounds cs
ends_by_seen Stands Stands' IsSpent IsSpent' see k rounds endings.RoundsDone cs f h e = (order_seen Stands Stands' see (taken k cs) f e.0, e.1, e.2)
ends_by_seen Stands Stands' IsSpent IsSpent' see k rounds endings.PeerEnded cs f h e = (order_seen Stands Stands' see (taken k cs) f e.0, e.1)
ends_by_seen Stands Stands' IsSpent IsSpent' see k rounds endings.HostFailed cs f h e = order_seen Stands Stands' see (taken k cs) f e
ends_by_seen Stands Stands' IsSpent IsSpent' see k rounds endings.NotAuthenticated cs f h e = (refused_seen Stands Stands' see (taken k cs) f e.0, e.1)
ends_by_seen Stands Stands' IsSpent IsSpent' see k rounds (endings.Malformed start fault) cs f h e = (malformed_seen Stands Stands' see (taken k cs) start fault.place fault.reason f e.0, e.1)
ends_by_seen Stands Stands' IsSpent IsSpent' see k rounds endings.Spent cs f h e = (spent_seen Stands Stands' IsSpent IsSpent' see (taken k cs) f h e.0, e.1)
ends_by_seen Stands Stands' IsSpent IsSpent' see k rounds endings.NoMemory cs f h e = tt

pub ends_seen : {E F : Type 0} (Stands : E → List Envelope → List Envelope → Type 0) (Stands' : F → List Envelope → List Envelope → Type 0) (IsSpent : E → Envelope → Type 0) (IsSpent' : F → Envelope → Type 0) (see : E → F) (k rounds : ℕ) (ending : Ending) (calls : Option (List Call))
    → Sees Stands Stands' see → ((end : E) (e : Envelope) → IsSpent end e → IsSpent' (see end) e) → Ends Stands IsSpent k ending rounds calls → Ends Stands' IsSpent' k ending rounds calls
ends_seen Stands Stands' IsSpent IsSpent' see k rounds ending None f h e = tt
ends_seen Stands Stands' IsSpent IsSpent' see k rounds ending (Some cs) f h e = ends_by_seen Stands Stands' IsSpent IsSpent' see k rounds ending cs f h e
