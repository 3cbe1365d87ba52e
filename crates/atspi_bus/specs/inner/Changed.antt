-- What a call of AddMatch or RemoveMatch does.
use Rattle.std.specs.Prelude.{◌≡◌, Bool, true, false, [], Option, None, Some, MatchOption}
use Rattle.atspi_match.specs.declared.routing.member.BusMember.{BusMember}
use Rattle.atspi_match.specs.declared.routing.member.BusMember.TheVariants.{AddMatch, RemoveMatch, RequestName}
use Rattle.atspi_match.specs.declared.routing.member.BusMember.TheVariants.{ReleaseName}
use Rattle.atspi_match.specs.routing.Answers as answers
use Rattle.atspi_match.specs.routing.Answers.{Answer, returns, fails}
use Rattle.atspi_match.specs.routing.Queues.{Bus}
use Rattle.atspi_bus_answers.specs.Errors.{error_text}
use Rattle.atspi_bus_answers.specs.declared.error.BusError.{BusError}

-- a call of this member changes rules alone
abbrev pub changes_rules : BusMember → Bool
changes_rules AddMatch = true
changes_rules RemoveMatch = true
changes_rules member = false

-- a call of this member changes names alone
abbrev pub changes_names : BusMember → Bool
changes_names RequestName = true
changes_names ReleaseName = true
changes_names member = false

-- the reply where a call was refused with an error, or done
abbrev pub refusal : Option BusError → answers.Reply
refusal None = returns []
refusal (Some error) = fails (error_text error)

-- the rules of a bus are those of an answer, and where it is a refusal nothing changed
pub record IsChanged (b next : Bus) (a : Answer) (error : Option BusError) : Type 0 where
  pub is : next ≡ record b { state = record b.state { rules = a.rules } }
  pub reply : a.reply ≡ refusal error
  pub refused : MatchOption error (Unit {0}) (λ _. next ≡ b)
