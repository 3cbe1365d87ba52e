-- Runs of an end that sends no messages, by the bytes that were taken.
use Rattle.std.proofs.Common.{◌≡◌, ℕ, List, [], ◌∷◌, ◌++◌, length, None, refl, sym, ap, subst, ◌∙◌, append-nil, arith, lit<}
use Rattle.std.specs.Prelude.{codes}
use Rattle.atspi_auth.specs.Lines.{end_of_line, lines_of, joined}
use Rattle.atspi_auth.specs.Replies.{answer, reply_to}
use Rattle.atspi_auth.specs.Requests.{is_grant, is_number}
use Rattle.atspi_auth.specs.Talk.{after, behind, client_start, fault_in, heard, hears, hears_bytes}
use Rattle.atspi_auth.proofs.LinesLemmas.{joined-lines_of}
use Rattle.atspi_message.specs.Bytes.{IsMessage}
use Rattle.atspi_message.specs.Envelope.{Envelope}
use Rattle.atspi_stream.specs.Stream.{AwaitsMore, HasFault, IsParted, bytes_of, few, unfinished}
use Rattle.atspi_stream.proofs.StreamLaws.{begun}
use Rattle.atspi_live_conversation.specs.Speech.{IsInOrder, IsMalformed, IsRefused, IsSpentBy, envelopes}
use Rattle.atspi_live_examples.specs.conversation.Silent.{IsSpentWith, Says, Took, granted, rejected}

-- behind the lines that let a client in stand the bytes of messages
pub behind_granted : (bytes : List ℕ) → behind client_start (granted ++ bytes) ≡ bytes
unfolding heard hears hears_bytes lines_of joined answer reply_to is_grant is_number
behind_granted bytes = joined-lines_of bytes

sound : (bytes : List ℕ) → fault_in (after client_start (granted ++ bytes)).stage ≡ None
unfolding heard hears hears_bytes lines_of joined answer reply_to is_grant is_number
sound bytes = refl

-- where a line is not awaited no byte stands behind it
pub bare : behind client_start rejected ≡ []
unfolding heard hears hears_bytes lines_of joined answer reply_to is_grant is_number
bare = refl

pub bare_more : behind client_start (rejected ++ granted) ≡ []
unfolding heard hears hears_bytes lines_of joined answer reply_to is_grant is_number
bare_more = refl

pub at_fault : fault_in (after client_start rejected).stage ≡ None → ⊥
unfolding heard hears hears_bytes lines_of joined answer reply_to is_grant is_number
at_fault h = cc

at_fault_more : fault_in (after client_start (rejected ++ granted)).stage ≡ None → ⊥
unfolding heard hears hears_bytes lines_of joined answer reply_to is_grant is_number
at_fault_more h = cc

-- bytes that hold no message
in_order : (t : List ℕ) → fault_in (after client_start t).stage ≡ None → behind client_start t ≡ [] → IsInOrder Says t
in_order t s none = record { authenticated = s; messages = []; rest = []; parted = record { are = tt; parted = none }; awaits = few (lit< tt); end = 0; said = []; stands = (refl, refl) }

pub nothing : IsInOrder Says []
unfolding heard hears hears_bytes lines_of joined answer reply_to is_grant is_number
nothing = in_order [] refl refl

pub challenge : IsInOrder Says (codes "DATA" ++ end_of_line)
unfolding heard hears hears_bytes lines_of joined answer reply_to is_grant is_number
challenge = in_order (codes "DATA" ++ end_of_line) refl refl

pub bare_granted : behind client_start granted ≡ []
bare_granted = ap (λ (t : List ℕ). behind client_start t) (sym (append-nil granted)) ∙ behind_granted []

pub over : IsInOrder Says granted
over = subst (λ (t : List ℕ). IsInOrder Says t) (append-nil granted) (in_order (granted ++ []) (sound []) (behind_granted []))

pub not_over : IsInOrder Says rejected → ⊥
not_over s = at_fault s.authenticated

-- a message behind the lines
pub taken : (e : Envelope) (bytes : List ℕ) → IsMessage e bytes → IsInOrder (Took e) (granted ++ bytes)
taken e bytes m = record {
  authenticated = sound bytes;
  messages = (e, bytes) ∷ [];
  rest = [];
  parted = record { are = (m, tt); parted = behind_granted bytes ∙ sym (append-nil bytes) ∙ sym (append-nil (bytes ++ [])) };
  awaits = few (lit< tt);
  end = 0;
  said = [];
  stands = (refl, refl);
}

pub not_awaited : (e : Envelope) (bytes : List ℕ) → IsMessage e bytes → AwaitsMore bytes → ⊥
not_awaited e bytes m (few short) = let b = begun e bytes bytes [] m (sym (append-nil bytes)) in omega (arith, b.long, short)
not_awaited e bytes m (unfinished long sound short) = let b = begun e bytes bytes [] m (sym (append-nil bytes)) in omega (arith, b.enough, short)

pub none_taken : (messages : List (Envelope × List ℕ)) (bytes rest : List ℕ) → envelopes messages ≡ [] → IsParted bytes messages rest → (rest ≡ bytes) × (length (bytes_of messages) ≡ 0)
none_taken [] bytes rest e p = (sym p.parted, refl)
none_taken (m ∷ messages) bytes rest e p = absurd cc

pub not_taken : (e : Envelope) (bytes : List ℕ) → IsMessage e bytes → IsInOrder Says (granted ++ bytes) → ⊥
not_taken e bytes m s =
    let n = none_taken s.messages (behind client_start (granted ++ bytes)) s.rest s.stands.0 s.parted in
    not_awaited e bytes m (subst (λ (x : List ℕ). AwaitsMore x) (n.0 ∙ behind_granted bytes) s.awaits)

-- a fault behind the lines, or behind a message
pub first : (bytes : List ℕ) (place reason : ℕ) → HasFault bytes place reason → IsMalformed Says (granted ++ bytes) 0 place reason
first bytes place reason f = record { messages = []; rest = bytes; parted = record { are = tt; parted = behind_granted bytes }; fault = f; before = refl; end = 0; said = []; stands = (refl, refl) }

pub second : (e : Envelope) (m bytes : List ℕ) (place reason : ℕ) → IsMessage e m → HasFault bytes place reason → IsMalformed (Took e) (granted ++ (m ++ bytes)) (length m) place reason
second e m bytes place reason is f = record {
  messages = (e, m) ∷ [];
  rest = bytes;
  parted = record { are = (is, tt); parted = behind_granted (m ++ bytes) ∙ ap (λ (x : List ℕ). x ++ bytes) (sym (append-nil m)) };
  fault = f;
  before = ap (λ (x : List ℕ). length x) (sym (append-nil m));
  end = 0;
  said = [];
  stands = (refl, refl);
}

pub elsewhere : (bytes : List ℕ) (place reason : ℕ) → IsMalformed Says (granted ++ bytes) 1 place reason → ⊥
elsewhere bytes place reason s =
    let n = none_taken s.messages (behind client_start (granted ++ bytes)) s.rest s.stands.0 s.parted in
    omega (arith, s.before, n.1)

-- lines that are refused
pub refused : IsRefused Says rejected
refused = record { at_fault = at_fault; end = 0; said = []; stands = (refl, refl) }

pub refused_more : IsRefused Says (rejected ++ granted)
refused_more = record { at_fault = at_fault_more; end = 0; said = []; stands = (refl, refl) }

pub not_refused : IsRefused Says granted → ⊥
not_refused s = s.at_fault over.authenticated

pub took_none : (e : Envelope) → IsRefused (Took e) rejected → ⊥
took_none e s = by s.stands.0
  where
    by : [] ≡ e ∷ [] → ⊥
    by h = cc

-- messages that spend the numbers of an end
pub spends : (e : Envelope) (m : List ℕ) → IsMessage e m → IsSpentBy Says (IsSpentWith e) (granted ++ m)
spends e m is = record {
  messages = [];
  message = e;
  bytes = m;
  rest = [];
  parted = record { are = tt; parted = behind_granted m ∙ sym (append-nil m) };
  is = is;
  end = 0;
  said = [];
  stands = (refl, refl);
  spent = refl;
}

pub spends_second : (e f : Envelope) (m n rest : List ℕ) → IsMessage e m → IsMessage f n → IsSpentBy (Took e) (IsSpentWith f) (granted ++ (m ++ (n ++ rest)))
spends_second e f m n rest is is' = record {
  messages = (e, m) ∷ [];
  message = f;
  bytes = n;
  rest = rest;
  parted = record { are = (is, tt); parted = behind_granted (m ++ (n ++ rest)) ∙ ap (λ (x : List ℕ). x ++ (n ++ rest)) (sym (append-nil m)) };
  is = is';
  end = 0;
  said = [];
  stands = (refl, refl);
  spent = refl;
}

-- no message stands in no bytes
pub none_begun : (e : Envelope) (bytes more : List ℕ) → IsMessage e bytes → [] ≡ bytes ++ more → ⊥
none_begun e bytes more m front = let b = begun e [] bytes more m front in omega (arith, b.long)

pub no_spending : (e : Envelope) → IsSpentBy Says (IsSpentWith e) granted → ⊥
no_spending e s =
    let n = none_taken s.messages (behind client_start granted) (s.bytes ++ s.rest) s.stands.0 s.parted in
    none_begun s.message s.bytes s.rest s.is (sym (n.0 ∙ bare_granted))
