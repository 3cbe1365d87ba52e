-- The rules that a message meets (D-Bus Specification, "Message Types" and "Header Fields").
use Rattle.std.specs.Prelude.{◌≡◌, ◌≢◌, ◌<◌, ◌^◌, ℕ, Option, Some, None, IsSome, IfSome}
use Rattle.atspi_types.specs.Data.{items_of, AreWellTyped}
use Rattle.atspi_base.specs.valid_names.Names.{IsPath, IsInterface, IsMember, IsBusName}
use Rattle.atspi_message.specs.Envelope.{Envelope}

-- A call has a path and a member; a return the serial that it replies to; an error its name and that serial; a signal a
-- path, an interface and a member.
pub record HasRequired (e : Envelope) : Type 0 where
  pub call : e.kind ≡ 1 → IsSome e.path × IsSome e.member
  pub return_ : e.kind ≡ 2 → IsSome e.reply
  pub error : e.kind ≡ 3 → IsSome e.error × IsSome e.reply
  pub signal : e.kind ≡ 4 → IsSome e.path × IsSome e.interface × IsSome e.member

-- The type is not 0, the fields of the type are there, no serial is 0, and the values of the body are well typed.
pub record MeetsRules (e : Envelope) : Type 0 where
  pub typed : e.kind ≢ 0
  pub required : HasRequired e
  pub numbered : e.serial ≢ 0
  pub replies : IfSome e.reply (λ n. n ≢ 0)
  pub body : AreWellTyped (items_of e.body)

-- Each name is of its rule.
pub record HasNames (e : Envelope) : Type 0 where
  pub path : IfSome e.path IsPath
  pub interface : IfSome e.interface IsInterface
  pub member : IfSome e.member IsMember
  pub error : IfSome e.error IsInterface
  pub destination : IfSome e.destination IsBusName
  pub sender : IfSome e.sender IsBusName
