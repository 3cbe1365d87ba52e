-- Messages that meet the rules of messages, whatever number they get.
use Rattle.std.proofs.Common.{◌≢◌, ℕ, List, refl, arith}
use Rattle.atspi_types.specs.Data.{Data, items_of, AreWellTyped}
use Rattle.atspi_message.specs.Envelope.{Envelope}
use Rattle.atspi_message.specs.Rules.{MeetsRules}
use Rattle.atspi_protocol.specs.ends.Messages.{Reply, returns, fails, call_to, signal_of, return_to, error_to, reply_to}
use Rattle.atspi_protocol.specs.exporting.Laws.{IsTypedReply}

-- with any serial but 0 the message meets the rules
abbrev pub MaySend : Envelope → Type 0
MaySend e = (n : ℕ) → n ≢ 0 → MeetsRules (record e { serial = n })

pub call_may : (destination path interface member : List ℕ) (body : List Data) → AreWellTyped (items_of body) → MaySend (call_to destination path interface member body)
call_may destination path interface member body typed n some = record {
  typed = λ e. absurd (omega (arith, e));
  required = record {
    call = λ e. (refl, refl);
    return_ = λ e. absurd (omega (arith, e));
    error = λ e. absurd (omega (arith, e));
    signal = λ e. absurd (omega (arith, e));
  };
  numbered = some;
  replies = tt;
  body = typed;
}

pub signal_may : (path interface member : List ℕ) (body : List Data) → AreWellTyped (items_of body) → MaySend (signal_of path interface member body)
signal_may path interface member body typed n some = record {
  typed = λ e. absurd (omega (arith, e));
  required = record {
    call = λ e. absurd (omega (arith, e));
    return_ = λ e. absurd (omega (arith, e));
    error = λ e. absurd (omega (arith, e));
    signal = λ e. (refl, refl, refl);
  };
  numbered = some;
  replies = tt;
  body = typed;
}

return_may : (caller : List ℕ) (serial : ℕ) (values : List Data) → serial ≢ 0 → AreWellTyped (items_of values) → MaySend (return_to caller serial values)
return_may caller serial values replied typed n some = record {
  typed = λ e. absurd (omega (arith, e));
  required = record {
    call = λ e. absurd (omega (arith, e));
    return_ = λ e. refl;
    error = λ e. absurd (omega (arith, e));
    signal = λ e. absurd (omega (arith, e));
  };
  numbered = some;
  replies = replied;
  body = typed;
}

error_may : (caller : List ℕ) (serial : ℕ) (word : List ℕ) → serial ≢ 0 → MaySend (error_to caller serial word)
error_may caller serial word replied n some = record {
  typed = λ e. absurd (omega (arith, e));
  required = record {
    call = λ e. absurd (omega (arith, e));
    return_ = λ e. absurd (omega (arith, e));
    error = λ e. (refl, refl);
    signal = λ e. absurd (omega (arith, e));
  };
  numbered = some;
  replies = replied;
  body = (tt, tt);
}

pub reply_may : (caller : List ℕ) (serial : ℕ) (reply : Reply) → serial ≢ 0 → IsTypedReply reply → MaySend (reply_to caller serial reply)
reply_may caller serial (returns values) some typed = return_may caller serial values some typed
reply_may caller serial (fails word) some typed = error_may caller serial word some
