-- What `check` writes of an input: a line for each of its messages, and behind them a line for a fault.
use Rattle.std.specs.Prelude.{◌≡◌, ◌≢◌, ◌⊎◌, ◌<◌, ◌≤◌, ◌+◌, ℕ, List, [], ◌∷◌, ◌++◌, length, take, Option, Some, IfSome}
use Rattle.std.specs.Prelude.{codes}
use Rattle.std.specs.Fmt.{decimal}
use Rattle.std.specs.Io.KnownBytes.{Appends, Consumes, IsAtEnd}
use Rattle.atspi_base.specs.Outside.{AppendsPart}
use Rattle.atspi_message.specs.Envelope.{Envelope}
use Rattle.atspi_stream.specs.Stream.{AwaitsMore, HasFault, IsParted, bytes_of}
use Rattle.atspi_script.specs.FaultText.{fault_line}
use Rattle.atspi_script.specs.MessageText.{message_text}

-- `START TEXT`: so many bytes of input stand before the message
abbrev pub message_line : ℕ → Envelope → List ℕ
message_line start e = decimal start ++ (codes " " ++ (message_text e ++ 10 ∷ []))

-- the lines of messages one behind the other
abbrev pub check_lines : ℕ → List (Envelope × List ℕ) → List ℕ
check_lines start [] = []
check_lines start (m ∷ ms) = message_line start m.0 ++ check_lines (start + length m.1) ms

-- the lines of these messages, and behind them of a fault in what follows them
abbrev pub faulty_lines : List (Envelope × List ℕ) → ℕ → ℕ → List ℕ
faulty_lines messages place reason = check_lines 0 messages ++ fault_line (length (bytes_of messages)) place reason

-- bytes that are whole messages, and their lines
pub record IsWholeText (bytes text : List ℕ) : Type 0 where
  pub messages : List (Envelope × List ℕ)
  pub parted : IsParted bytes messages []
  pub are : text ≡ check_lines 0 messages

-- bytes that are whole messages and a rest that awaits more, and the lines of the messages
pub record IsFrontText (bytes text : List ℕ) : Type 0 where
  pub messages : List (Envelope × List ℕ)
  pub rest : List ℕ
  pub parted : IsParted bytes messages rest
  pub awaits : AwaitsMore rest
  pub are : text ≡ check_lines 0 messages

-- bytes that end inside a message: that has reason 36 at the number of its bytes that are there
pub record IsCutText (bytes text : List ℕ) : Type 0 where
  pub messages : List (Envelope × List ℕ)
  pub rest : List ℕ
  pub parted : IsParted bytes messages rest
  pub some : rest ≢ []
  pub awaits : AwaitsMore rest
  pub are : text ≡ faulty_lines messages (length rest) 36

-- bytes with a fault behind whole messages: it is told with its place in the message that it is in
pub record IsFaultText (bytes text : List ℕ) : Type 0 where
  pub messages : List (Envelope × List ℕ)
  pub rest : List ℕ
  pub place : ℕ
  pub reason : ℕ
  pub parted : IsParted bytes messages rest
  pub fault : HasFault rest place reason
  pub are : text ≡ faulty_lines messages place reason

-- of an input inside the limit: the lines of all its messages
abbrev pub CheckedAll : ℕ → List ℕ → List ℕ → Type 0
CheckedAll limit input text = (length input ≤ limit) × IsWholeText input text

-- those of the messages before the first fault, and the fault: inside the limit, or that the input ends inside a
-- message
abbrev pub CheckedFault : ℕ → List ℕ → List ℕ → Type 0
CheckedFault limit input text = ((length input ≤ limit) × IsCutText input text) ⊎ IsFaultText (take limit input) text

-- those of the messages in a front of the input
abbrev pub CheckedFront : List ℕ → List ℕ → Type 0
CheckedFront input text = (front : List ℕ) × (rest : List ℕ) × (input ≡ front ++ rest) × IsFrontText front text

-- those of the messages in what was taken of the input, of which the rest is left
abbrev pub CheckedTaken : Option (List ℕ) → List ℕ → List ℕ → Type 0
CheckedTaken left' input text = (front : List ℕ) × Consumes (Some input) left' front × IsFrontText front text

-- of an input that passes the limit: those of the messages inside it
abbrev pub CheckedLimit : ℕ → List ℕ → List ℕ → Type 0
CheckedLimit limit input text = (limit < length input) × IsFrontText (take limit input) text

-- any text that may have been begun
abbrev pub CheckedSome : ℕ → List ℕ → List ℕ → Type 0
CheckedSome limit input text = CheckedFront input text ⊎ CheckedFault limit input text

-- such a text of the input was written
abbrev pub Writes : Option (List ℕ) → Option (List ℕ) → Option (List ℕ) → (List ℕ → List ℕ → Type 0) → Type 0
Writes left old new IsText = IfSome left (λ input. (text : List ℕ) × IsText input text × Appends old new text)

-- a front of such a text was written
abbrev pub WritesPart : Option (List ℕ) → Option (List ℕ) → Option (List ℕ) → (List ℕ → List ℕ → Type 0) → Type 0
WritesPart left old new IsText = IfSome left (λ input. (text : List ℕ) × IsText input text × AppendsPart old new text)

-- the statuses of `check`
abbrev pub IsCheckStatus : ℕ → Type 0
IsCheckStatus status = (status ≡ 0) ⊎ ((status ≡ 3) ⊎ ((status ≡ 4) ⊎ ((status ≡ 5) ⊎ ((status ≡ 6) ⊎ (status ≡ 8)))))

-- What `check` does, by its status. The source had `left` and has `left'` now, and `w` was written before and `w'` is
-- now. 0: the source was read to its end, and the lines of all its messages were written. 6: those before the first
-- fault, and the fault. 3: those in what was taken of the source. 8: those inside the limit. 4 and 5: a front of such a
-- text.
pub record Checked (limit status : ℕ) (left left' w w' : Option (List ℕ)) : Type 0 where
  pub known : IsCheckStatus status
  pub ended : status ≡ 0 → IsAtEnd left'
  pub checked : status ≡ 0 → Writes left w w' (CheckedAll limit)
  pub fault : status ≡ 6 → Writes left w w' (CheckedFault limit)
  pub read : status ≡ 3 → Writes left w w' (CheckedTaken left')
  pub past : status ≡ 8 → Writes left w w' (CheckedLimit limit)
  pub write : status ≡ 4 → WritesPart left w w' (CheckedSome limit)
  pub memory : status ≡ 5 → WritesPart left w w' (CheckedSome limit)
