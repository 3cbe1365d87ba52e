use Rattle.std.proofs.Common.{◌≡◌, ℕ, ◌+◌, List, [], ◌∷◌, ◌++◌, length, None, refl, sym, ap, ◌∙◌, append-nil, lit<}
use Rattle.atspi_auth.specs.Lines.{lines_of, joined}
use Rattle.atspi_auth.specs.Replies.{answer, reply_to}
use Rattle.atspi_auth.specs.Requests.{is_grant, is_number}
use Rattle.atspi_auth.specs.Talk.{after, behind, client_start, fault_in, heard, hears, hears_bytes}
use Rattle.atspi_auth.proofs.LinesLemmas.{joined-lines_of}
use Rattle.atspi_message.specs.Envelope.{Envelope}
use Rattle.atspi_stream.specs.Stream.{few}
use Rattle.atspi_live_conversation.specs.Speech.{IsInOrder}
use Rattle.atspi_live_conversation.proofs.LineLemmas.{none_behind}
use Rattle.atspi_live_app.specs.Live.{IsMarked, marks_in}
use Rattle.atspi_live_app.specs.Standing.{Event, IsAfter, does, lines_in, takes}
use Rattle.atspi_live_examples.specs.app.Lines.{granted, rejected}
use Rattle.atspi_live_examples.proofs.app.ends.unstarted_ends.Goals as goal

-- behind the lines of a server that lets a client in stand the bytes of messages
behind_granted : (bytes : List ℕ) → behind client_start (granted ++ bytes) ≡ bytes
unfolding heard hears hears_bytes lines_of joined answer reply_to is_grant is_number
behind_granted bytes = joined-lines_of bytes

at_fault : fault_in (after client_start rejected).stage ≡ None → ⊥
unfolding heard hears hears_bytes lines_of joined answer reply_to is_grant is_number
at_fault h = cc

sound : fault_in (after client_start []).stage ≡ None
unfolding heard hears hears_bytes lines_of joined answer reply_to is_grant is_number
sound = refl

-- an application that has not started, behind such messages
unstarted : (lines : List (List ℕ)) → IsAfter (IsMarked []) lines None [] []
unstarted lines = record { history = []; left = lines; order = refl; all = refl; taken = refl; whole = None; makes = refl; handed = refl; numbered = tt }

one_taken : (lines : List (List ℕ)) (e : Envelope) → IsAfter (IsMarked []) lines None (e ∷ []) []
one_taken lines e = record { history = takes e ∷ []; left = lines; order = refl; all = refl; taken = refl; whole = None; makes = (None, refl, refl); handed = refl; numbered = tt }

-- of no lines none was done
none_marked : (taken : ℕ) (history : List Event) (left : List (List ℕ)) → lines_in history ++ left ≡ [] → marks_in taken history ≡ []
none_marked taken [] left e = refl
none_marked taken (does line ∷ events) left e = absurd cc
none_marked taken (takes m ∷ events) left e = none_marked (taken + 1) events left e

-- nothing was taken, and nothing of it is at fault
in_order : (lines : List (List ℕ)) → IsInOrder (IsAfter (IsMarked []) lines) []
in_order lines = record {
  authenticated = sound;
  messages = [];
  rest = [];
  parted = record { are = tt; parted = none_behind };
  awaits = few (lit< tt);
  end = None;
  said = [];
  stands = unstarted lines;
}

pub returns-clause-refused : goal.returns-clause-refused
returns-clause-refused c lines = (record { at_fault = at_fault; end = None; said = []; stands = unstarted lines }, (tt, tt))

pub returns-clause-ended : goal.returns-clause-ended
returns-clause-ended c lines = (in_order lines, ([], refl, tt))

pub returns-clause-failed : goal.returns-clause-failed
returns-clause-failed c lines = in_order lines

pub returns-clause-done : goal.returns-clause-done
returns-clause-done c lines = (in_order lines, (tt, tt), refl)

pub returns-clause-malformed : goal.returns-clause-malformed
returns-clause-malformed c lines e m bytes fault n is f = (
  record {
    messages = (e, m) ∷ [];
    rest = bytes;
    parted = record { are = (is, tt); parted = ap (λ (x : List ℕ). behind client_start x) (append-nil (granted ++ (m ++ bytes))) ∙ behind_granted (m ++ bytes) ∙ ap (λ (x : List ℕ). x ++ bytes) (sym (append-nil m)) };
    fault = f;
    before = ap (λ (x : List ℕ). length x) (sym (append-nil m));
    end = None;
    said = [];
    stands = one_taken lines e;
  },
  (tt, tt),
)

pub returns-clause-no_line : goal.returns-clause-no_line
returns-clause-no_line c s = none (none_marked 0 s.stands.history s.stands.left s.stands.all) s.stands.order
  where
    none : {marks : List ℕ} → marks ≡ [] → marks ≡ 0 ∷ [] → ⊥
    none h k = cc
