-- What the registry does with each message that it takes (AT-SPI2's registry interface; D-Bus Specification, "Message
-- Bus Messages").
use Rattle.std.specs.Prelude.{◌==◌, ◌&&◌, ℕ, ◌+◌, Bool, false, List, [], ◌∷◌, ◌++◌, map, length, Option, None, Some}
use Rattle.std.specs.Prelude.{codes, encode_utf8_all, if◌then◌else◌, Result, Ok, Err}
use Rattle.atspi_types.specs.Data.{Data, text_data}
use Rattle.atspi_message.specs.Envelope.{Envelope}
use Rattle.atspi_protocol.specs.ends.Places.{bus}
use Rattle.atspi_protocol.specs.ends.Messages.{fails, replies, numbered}
use Rattle.atspi_protocol.specs.members.Asked.{Asked, asked, is_text}
use Rattle.atspi_protocol.specs.registering.RegistryState.{RegistryState, pairs_of, pairs_without, child_place}
use Rattle.atspi_protocol.specs.registering.Told.{hello_call, request_call, match_call, deregistered}
use Rattle.atspi_protocol.specs.registering.Answers.{Answer, only, answers, object_at, children_without}
use Rattle.atspi_protocol.specs.registering.Answers.{news_of_removal}

-- the state afterwards, and what was sent
pub record RegistryStep : Type 0 where
  pub state : RegistryState
  pub sent : List Envelope

-- messages take the next numbers
abbrev pub speaks : RegistryState → List Envelope → RegistryStep
speaks s es = record { state = record s { next = s.next + length es }; sent = numbered s.next es }

-- at the start it calls the bus three times, and knows the number of the first call
abbrev pub registry_starts : RegistryState → RegistryStep
registry_starts s = speaks (record s { hello = Some s.next }) (hello_call ∷ request_call ∷ match_call ∷ [])

-- the message is from the bus
abbrev pub is_from_bus : Envelope → Bool
is_from_bus e = is_text e.sender bus

-- the message replies to the call with this number, if there is one
abbrev pub is_reply_to : Option ℕ → Option ℕ → Bool
is_reply_to (Some call) (Some reply) = call == reply
is_reply_to call reply = false

-- the unique name, where the message is a return to the call of Hello, whoever sent it
abbrev pub name_told : Option ℕ → Envelope → Option (List ℕ)
name_told hello e = if e.kind == 2 && is_reply_to hello e.reply then first e.body else None
  where
    first : List Data → Option (List ℕ)
    first (text_data name ∷ ds) = Some name
    first ds = None

-- the name that nobody owns any more, where the message is the bus's news of that
abbrev pub name_gone : Envelope → Option (List ℕ)
name_gone e =
    if e.kind == 4 && (is_from_bus e && (is_text e.interface bus && is_text e.member (codes "NameOwnerChanged")))
    then gone e.body
    else None
  where
    gone : List Data → Option (List ℕ)
    gone (text_data name ∷ (text_data before ∷ (text_data [] ∷ []))) = Some name
    gone ds = None

-- a connection left: its pairs go, then its child
abbrev pub forgets : RegistryState → List ℕ → RegistryStep
forgets s name =
    let others = pairs_without s.pairs name in
    let place = child_place s.children name in
    speaks (record s { pairs = others; children = children_without s.children place })
    (map deregistered (pairs_of s.pairs name) ++ news_of_removal others s.children place)

-- an answer, with the reply where one is expected
abbrev pub answered : RegistryState → List ℕ → Envelope → Answer → RegistryStep
answered s caller e a =
    speaks (record s { pairs = a.pairs; children = a.children; embeds = a.embeds })
    (a.before ++ (replies caller e a.reply ++ a.behind))

-- what a call does, or the error that it gets
abbrev pub answer_to : RegistryState → List ℕ → List ℕ → Result Asked (List ℕ) → Answer
answer_to s own caller (Ok a) = answers a s own caller
answer_to s own caller (Err word) = only s (fails word)

abbrev pub called : RegistryState → List ℕ → List ℕ → Envelope → RegistryStep
called s own caller e =
    answered s caller e (answer_to s own caller (asked (object_at e.path) e.interface e.member e.body))

-- before it has its name it reads nothing but that
abbrev pub named : RegistryState → Option (List ℕ) → RegistryStep
named s None = speaks s []
named s (Some name) = speaks (record s { own = Some name }) []

-- a call without a sender is nobody's
abbrev pub called_by : RegistryState → List ℕ → Envelope → Option (List ℕ) → RegistryStep
called_by s own e None = speaks s []
called_by s own e (Some caller) = called s own caller e

-- what is no call may be the news that somebody left
abbrev pub hears : RegistryState → Option (List ℕ) → RegistryStep
hears s None = speaks s []
hears s (Some name) = forgets s (encode_utf8_all name)

-- what it does with a message, by the name that it has
abbrev pub takes_as : RegistryState → Envelope → Option (List ℕ) → RegistryStep
takes_as s e None = named s (name_told s.hello e)
takes_as s e (Some own) = if e.kind == 1 then called_by s own e e.sender else hears s (name_gone e)

abbrev pub registry_takes : RegistryState → Envelope → RegistryStep
registry_takes s e = takes_as s e s.own

-- the registry as an end: what it knows, and the messages that it has queued
pub record Registry : Type 0 where
  pub state : RegistryState
  pub out : List Envelope

abbrev pub queued : Registry → RegistryStep → Registry
queued r step = record { state = step.state; out = r.out ++ step.sent }

abbrev pub starts : Registry → Registry
starts r = queued r (registry_starts r.state)

abbrev pub takes : Registry → Envelope → Registry
takes r e = queued r (registry_takes r.state e)
