-- What a call comes to, as the definitions' answer.
use Rattle.std.specs.Prelude.{Result, Ok, Err}
use Rattle.atspi_types.specs.DataView.{all_data}
use Rattle.atspi_types.specs.declared.value.Values.{Values}
use Rattle.atspi_protocol.specs.ends.Messages.{Reply, returns, fails, error_word}
use Rattle.atspi_protocol.specs.declared.ends.error.CallError.{CallError}
use Rattle.atspi_protocol.specs.objects.Answers.{Answer}
use Rattle.atspi_app.specs.declared.called.outcome.Called.{Called}

abbrev pub reply_of : Result Values CallError → Reply
reply_of (Ok values) = returns (all_data values)
reply_of (Err error) = fails (error_word error)

abbrev pub answer_of : Called → Answer
answer_of c = record { reply = reply_of c.reply; steps = c.steps; id = c.id }
