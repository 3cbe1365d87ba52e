-- Lines of a trace's text, and the bytes that one of them tells.
use Rattle.std.specs.Prelude.{◌≡◌, ◌≢◌, ℕ, ◌<◌, List, [], ◌∷◌, ◌++◌, Option, Result, Ok, Err, MatchOption, codes}
use Rattle.std.specs.Fmt.{decimal}
use Rattle.hex.specs.Hex.{IsBytes}
use Rattle.atspi_message.specs.Envelope.{Envelope}
use Rattle.atspi_script.specs.MessageText.{message_text}
use Rattle.atspi_base.specs.declared.outside.NoMemory.{NoMemory}
use Rattle.atspi_script_lines.specs.declared.limits.TheConstants.{READER_COUNT}
use Rattle.atspi_trace_texts.specs.TraceText.{wire_line}

-- no byte is a line feed
abbrev pub HasNoFeed : List ℕ → Type 0
HasNoFeed [] = Unit {0}
HasNoFeed (b ∷ bytes) = (b ≢ 10) × HasNoFeed bytes

-- what was looked for is found, or it is not there, or memory is wanting
abbrev pub Finds : {T : Type 0} → Type 0 → (T → Type 0) → Result (Option T) NoMemory → Type 0
Finds {T} Missing Is (Ok found) = MatchOption found Missing Is
Finds {T} Missing Is (Err e) = Unit {0}

-- the line of a message that this reader sent begins so
abbrev pub NamesReader : ℕ → List ℕ → List ℕ → Type 0
NamesReader reader tail text = (reader < READER_COUNT) × (text ≡ codes "sent r" ++ (decimal reader ++ tail))

-- a line, and behind it one that tells these bytes
pub record IsLineWith (line bytes rest text : List ℕ) : Type 0 where
  pub whole : HasNoFeed line
  pub are : IsBytes bytes
  pub front : text ≡ line ++ 10 ∷ (wire_line bytes ++ 10 ∷ rest)

-- the line of a message that a reader sent
abbrev pub sent_line : ℕ → Envelope → List ℕ
sent_line reader e = codes "sent r" ++ (decimal reader ++ 32 ∷ message_text e)
