use Rattle.std.proofs.Common.{ℕ, List, [], ◌++◌, length, refl, sym, ap, inl}
use Rattle.atspi_auth.specs.Talk.{after, client_start}
use Rattle.atspi_message.specs.Bytes.{IsMessage}
use Rattle.atspi_message.specs.Envelope.{Envelope}
use Rattle.atspi_live_conversation.specs.Talking.{Converses}
use Rattle.atspi_live_examples.specs.conversation.Logs.{begun}
use Rattle.atspi_live_examples.specs.conversation.Silent.{Says, granted, hail}
use Rattle.atspi_live_examples.proofs.OfConversation.Conversing as conversing
use Rattle.atspi_live_examples.proofs.OfConversation.Ended as ended
use Rattle.atspi_live_examples.proofs.conversation.going.at_ease.Goals as goal

unheard : (e : Envelope) (m : List ℕ) → IsMessage e m → Converses Says (granted ++ m) [] (record begun { client = after client_start granted; feeder = m; heard = length m }) 0
unheard e m is = record {
  lines = [];
  messages = [];
  said = [];
  sent = [];
  client_stands = conversing.none_of_three m;
  parted = record { are = tt; parted = ended.behind_granted m };
  heard = ap (λ (bytes : List ℕ). length bytes) (sym (ended.behind_granted m));
  end_stands = (refl, refl);
  spelled = refl;
  all = refl;
  order = inl refl;
}

pub returns-clause-begun : goal.returns-clause-begun
returns-clause-begun c = conversing.at_ease

pub returns-clause-line_waits : goal.returns-clause-line_waits
returns-clause-line_waits c = conversing.at_ease_on [] hail refl

pub returns-clause-refused : goal.returns-clause-refused
returns-clause-refused c = record {
  lines = [];
  messages = [];
  said = [];
  sent = [];
  client_stands = conversing.none_refused;
  parted = record { are = tt; parted = ended.bare };
  heard = ap (λ (bytes : List ℕ). length bytes) (sym ended.bare);
  end_stands = (refl, refl);
  spelled = refl;
  all = refl;
  order = inl refl;
}

pub returns-clause-not_at_ease : goal.returns-clause-not_at_ease
returns-clause-not_at_ease c s = ended.at_fault s.authenticated

pub returns-clause-not_taken : goal.returns-clause-not_taken
returns-clause-not_taken c = unheard

pub returns-clause-not_at_ease_then : goal.returns-clause-not_at_ease_then
returns-clause-not_at_ease_then c e m is s = ended.not_awaited e m is s.awaits

pub returns-clause-stands_nowhere : goal.returns-clause-stands_nowhere
returns-clause-stands_nowhere c s = s.converses.end_stands
