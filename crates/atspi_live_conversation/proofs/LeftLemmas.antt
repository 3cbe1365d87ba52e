-- How an end stands where a run of it is over, put together from what its steps do.
use Rattle.std.proofs.Common.{◌≡◌, ℕ, List, [], ◌∷◌, ◌++◌, length, Option, None, Some, refl, sym, ap, subst, ◌∙◌, append-nil, arith}
use Rattle.std.proofs.lemmas.List.{length-append}
use Rattle.atspi_auth.specs.Talk.{behind, client_start}
use Rattle.atspi_auth.proofs.LawLemmas.{behind_fault}
use Rattle.atspi_message.specs.Envelope.{Envelope}
use Rattle.atspi_stream.specs.Stream.{IsParted}
use Rattle.atspi_stream.specs.Stream as stream
use Rattle.atspi_live_host.specs.declared.call.Did.{Did}
use Rattle.atspi_live_host.specs.declared.call.Did.TheVariants.{End, Failed}
use Rattle.atspi_live_host.specs.declared.call.Call.{Call}
use Rattle.atspi_live_host.specs.declared.call.Call.TheVariants.{Read}
use Rattle.atspi_live_host.specs.Calls.{Adds}
use Rattle.atspi_live_conversation.specs.Left.{IsLeft, IsTaken, LeavesOff, LeftOff, StopsAt}
use Rattle.atspi_live_conversation.specs.Moved.{Tells}
use Rattle.atspi_live_conversation.specs.Speech.{envelopes}
use Rattle.atspi_live_conversation.specs.Talking.{Converses, Going, IsAtEase}
use Rattle.atspi_live_conversation.specs.inner.Talking.{HearsNot, TellsNot}
use Rattle.atspi_live_conversation.specs.declared.conversation.Conversation.{Conversation}
use Rattle.atspi_live_conversation.specs.declared.ending.Ending.{Ending}
use Rattle.atspi_live_conversation.specs.declared.ending.Ending.TheVariants as endings
use Rattle.atspi_live_conversation.proofs.MovedLemmas.{read_tells}
use Rattle.atspi_live_conversation.proofs.SentLemmas.{envelopes_both, parted_both}
use Rattle.atspi_live_conversation.proofs.TalkLemmas.{at_fault, took_none}

pub told_taken : (k : ℕ) (calls : Option (List Call)) (t g : List ℕ) (dids : List Did) → Tells k calls t g dids → IsTaken k calls t
told_taken k None t g dids tells = tt
told_taken k (Some cs) t g dids tells = tells.0

-- a piece that could not be heard
pub hear_left : {E : Type 0} (Stands : E → List Envelope → List Envelope → Type 0) (IsSpent : E → Envelope → Type 0) (t g piece : List ℕ) (c : Conversation) (end : E) (ending : Ending) → Converses Stands t g c end → HearsNot ending c.client piece
    → LeavesOff Stands IsSpent ending (t ++ piece) end
hear_left Stands IsSpent t g piece c end endings.NotAuthenticated v h = record {
  messages = [];
  rest = [];
  parted = record { are = tt; parted = behind_fault client_start (t ++ piece) (at_fault t piece v.lines c.client v.client_stands h) };
  said = v.said;
  stands = took_none Stands t g piece c end v h;
  stops = (refl, refl);
}
hear_left Stands IsSpent t g piece c end endings.NoMemory v h = tt
hear_left Stands IsSpent t g piece c end endings.RoundsDone v h = absurd h
hear_left Stands IsSpent t g piece c end endings.PeerEnded v h = absurd h
hear_left Stands IsSpent t g piece c end endings.HostFailed v h = absurd h
hear_left Stands IsSpent t g piece c end (endings.Malformed start fault) v h = absurd h
hear_left Stands IsSpent t g piece c end endings.Spent v h = absurd h

-- messages that could not all be told
pub tell_left : {E : Type 0} (Stands : E → List Envelope → List Envelope → Type 0) (IsSpent : E → Envelope → Type 0) (t g : List ℕ) (c : Conversation) (old new : E) (ending : Ending) → Converses Stands t g c old → TellsNot Stands IsSpent ending c old new
    → LeavesOff Stands IsSpent ending t new
tell_left Stands IsSpent t g c old new (endings.Malformed start fault) v h =
    let a = h.1.attends in
    let ms : List (Envelope × List ℕ) = v.messages ++ a.messages in
    let p : IsParted (behind client_start t) ms h.0 = parted_both (behind client_start t) c.feeder h.0 v.messages a.messages v.parted a.parted in
    record {
      messages = ms;
      rest = h.0;
      parted = p;
      said = v.said;
      stands = subst (λ (w : List Envelope). Stands new w v.said) (sym (envelopes_both v.messages a.messages)) (a.took (envelopes v.messages) v.said v.end_stands);
      stops = (h.1.ends, omega (arith, h.2, v.heard, ap (λ (w : List ℕ). length w) p.parted, length-append (stream.bytes_of ms) h.0));
    }
tell_left Stands IsSpent t g c old new endings.Spent v h =
    let a = h.attends in
    let all : envelopes (v.messages ++ a.messages) ≡ envelopes v.messages ++ envelopes a.messages = envelopes_both v.messages a.messages in
    let took : Stands h.end (envelopes v.messages ++ envelopes a.messages) v.said = a.took (envelopes v.messages) v.said v.end_stands in
    record {
      messages = v.messages ++ a.messages;
      rest = h.bytes ++ h.rest;
      parted = parted_both (behind client_start t) c.feeder (h.bytes ++ h.rest) v.messages a.messages v.parted a.parted;
      said = v.said;
      stands = subst (λ (w : List Envelope). Stands new w v.said) (sym all) (h.rests (envelopes v.messages ++ envelopes a.messages) v.said took);
      stops = record {
        message = h.message;
        bytes = h.bytes;
        more = h.rest;
        is = h.is;
        front = refl;
        end = h.end;
        stands = subst (λ (w : List Envelope). Stands h.end w v.said) (sym all) took;
        spent = h.spent;
      };
    }
tell_left Stands IsSpent t g c old new endings.NoMemory v h = tt
tell_left Stands IsSpent t g c old new endings.NotAuthenticated v h = absurd h
tell_left Stands IsSpent t g c old new endings.RoundsDone v h = absurd h
tell_left Stands IsSpent t g c old new endings.PeerEnded v h = absurd h
tell_left Stands IsSpent t g c old new endings.HostFailed v h = absurd h

-- a read that took bytes by which the run ends
pub took_left : {E : Type 0} (Stands : E → List Envelope → List Envelope → Type 0) (IsSpent : E → Envelope → Type 0) (k n : ℕ) (calls calls' : Option (List Call)) (bytes : List ℕ) (did : Did) (c : Conversation) (old new : E) (ending : Ending)
    → Adds calls calls' (Read k bytes did) → ((t g : List ℕ) → IsAtEase Stands t g c old → LeavesOff Stands IsSpent ending (t ++ bytes) new) → Going Stands k calls n c old → IsLeft Stands IsSpent k ending calls' new
took_left Stands IsSpent k n calls calls' bytes did c old new ending a f w =
    (w.t ++ bytes, told_taken k calls' (w.t ++ bytes) w.g (w.dids ++ did ∷ []) (read_tells k calls calls' bytes did w.t w.g w.dids a w.tells), f w.t w.g w.at_ease)

-- an end between two rounds
at_ease : {E : Type 0} (Stands : E → List Envelope → List Envelope → Type 0) (IsSpent : E → Envelope → Type 0) (t g : List ℕ) (c : Conversation) (end : E) (ending : Ending) (a : IsAtEase Stands t g c end)
    → StopsAt Stands IsSpent ending a.converses.messages a.converses.said c.feeder → LeftOff Stands IsSpent ending t end
at_ease Stands IsSpent t g c end ending a s =
    let v = a.converses in
    record { messages = v.messages; rest = c.feeder; parted = v.parted; said = v.said; stands = v.end_stands; stops = s }

-- a read that took nothing
none_taken : {E : Type 0} (Stands : E → List Envelope → List Envelope → Type 0) (k n : ℕ) (calls calls' : Option (List Call)) (did : Did) (c : Conversation) (end : E) → Adds calls calls' (Read k [] did) → (w : Going Stands k calls n c end) → IsTaken k calls' w.t
none_taken Stands k n calls calls' did c end a w =
    subst (λ (x : List ℕ). IsTaken k calls' x) (append-nil w.t) (told_taken k calls' (w.t ++ []) w.g (w.dids ++ did ∷ []) (read_tells k calls calls' [] did w.t w.g w.dids a w.tells))

-- one that found the peer's end, or failed
pub peer_left : {E : Type 0} (Stands : E → List Envelope → List Envelope → Type 0) (IsSpent : E → Envelope → Type 0) (k n : ℕ) (calls calls' : Option (List Call)) (c : Conversation) (end : E)
    → Adds calls calls' (Read k [] End) → Going Stands k calls n c end → IsLeft Stands IsSpent k endings.PeerEnded calls' end
peer_left Stands IsSpent k n calls calls' c end a w =
    (w.t, none_taken Stands k n calls calls' End c end a w, at_ease Stands IsSpent w.t w.g c end endings.PeerEnded w.at_ease w.at_ease.awaits)

pub read_left : {E : Type 0} (Stands : E → List Envelope → List Envelope → Type 0) (IsSpent : E → Envelope → Type 0) (k n : ℕ) (calls calls' : Option (List Call)) (c : Conversation) (end : E)
    → Adds calls calls' (Read k [] Failed) → Going Stands k calls n c end → IsLeft Stands IsSpent k endings.HostFailed calls' end
read_left Stands IsSpent k n calls calls' c end a w =
    (w.t, none_taken Stands k n calls calls' Failed c end a w, at_ease Stands IsSpent w.t w.g c end endings.HostFailed w.at_ease w.at_ease.awaits)

-- a write that failed
pub write_left : {E : Type 0} (Stands : E → List Envelope → List Envelope → Type 0) (IsSpent : E → Envelope → Type 0) (k n : ℕ) (calls : Option (List Call)) (c : Conversation) (end : E) → Going Stands k calls n c end
    → IsLeft Stands IsSpent k endings.HostFailed calls end
write_left Stands IsSpent k n calls c end w = (w.t, told_taken k calls w.t w.g w.dids w.tells, at_ease Stands IsSpent w.t w.g c end endings.HostFailed w.at_ease w.at_ease.awaits)

-- behind all rounds
pub done_left : {E : Type 0} (Stands : E → List Envelope → List Envelope → Type 0) (IsSpent : E → Envelope → Type 0) (k n : ℕ) (calls : Option (List Call)) (c : Conversation) (end : E) → Going Stands k calls n c end
    → IsLeft Stands IsSpent k endings.RoundsDone calls end
done_left Stands IsSpent k n calls c end w = (w.t, told_taken k calls w.t w.g w.dids w.tells, at_ease Stands IsSpent w.t w.g c end endings.RoundsDone w.at_ease w.at_ease.awaits)

-- want of memory
pub memory_left : {E : Type 0} (Stands : E → List Envelope → List Envelope → Type 0) (IsSpent : E → Envelope → Type 0) (k n : ℕ) (calls : Option (List Call)) (c : Conversation) (end new : E) → Going Stands k calls n c end
    → IsLeft Stands IsSpent k endings.NoMemory calls new
memory_left Stands IsSpent k n calls c end new w = (w.t, told_taken k calls w.t w.g w.dids w.tells, tt)
