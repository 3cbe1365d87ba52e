-- The calls of its own that the law of readers lets a reader send: those of its start at any time, one for a part, and
-- one for all items once the calls for all five patterns of the start were returned. That is less than a reader of this
-- project waits for (`may_ask`), which asks for items only where its match rules were returned too, and only of
-- applications that the registry told it of: what a reader loses that asks earlier, it loses by itself, and whoever
-- checks its trace demands no more than the law.
use Rattle.std.specs.Prelude.{◌≡◌, ℕ, Bool, true, ◌&&◌, [], Some}
use Rattle.std.specs.Prelude.{bytes_eq}
use Rattle.std.specs.List.{list_any, list_all}
use Rattle.atspi_base.specs.valid_names.Names.{is_bus_name, is_path}
use Rattle.atspi_message.specs.Envelope.{Envelope}
use Rattle.atspi_script_lines.specs.declared.line.Party.TheVariants.{Reader}
use Rattle.atspi_protocol.specs.declared.following.question.Question.{Question}
use Rattle.atspi_protocol.specs.declared.following.question.Question.TheVariants.{Hello, AddMatch, RegisterEvent}
use Rattle.atspi_protocol.specs.declared.following.question.Question.TheVariants.{GetChildren, GetItems, GetPart}
use Rattle.atspi_protocol.specs.following.Calls.{asking}
use Rattle.atspi_protocol.specs.following.ReaderState.{start_calls}
use Rattle.atspi_trace.specs.World.{here, Hearer, a_reader, End}
use Rattle.atspi_trace.specs.Ends.{end_at}
use Rattle.atspi_trace.specs.Hearing.{is_answered, is_registered, patterns_in, question_in, rules_in}
use Rattle.atspi_trace.specs.Due.{Scene}

abbrev pub may_call : Hearer → Question → Bool
may_call h Hello = true
may_call h (AddMatch rule) = list_any (bytes_eq rule) (rules_in start_calls)
may_call h (RegisterEvent pattern) = list_any (bytes_eq pattern) (patterns_in start_calls)
may_call h GetChildren = true
may_call h (GetItems name) = is_bus_name name && is_registered h.asked
may_call h (GetPart name path part) = is_bus_name name && is_path path

-- A call of a reader's own may stand: nothing is owed, the reader just took a message, each earlier own call of it was
-- answered; the message is that of a call that it may send, with its next serial
pub record IsFreeCall (s : Scene) (reader : ℕ) (e : Envelope) : Type 0 where
  pub conn : ℕ
  pub asker : End
  pub hearer : Hearer
  pub question : Question
  pub nothing_owed : s.owing ≡ []
  pub free : s.free ≡ Some conn
  pub there : end_at s.world.ends conn ≡ Some asker
  pub whose : asker.who ≡ Reader reader
  pub standing : asker.standing ≡ here
  pub role : asker.role ≡ a_reader hearer
  pub answered : list_all is_answered hearer.asked ≡ true
  pub allowed : may_call hearer question ≡ true
  pub spelled : e ≡ asking hearer.next question
  pub read : question_in e ≡ Some question
