-- What a bus knows (D-Bus Specification, "Message Bus Overview").
use Rattle.std.specs.Prelude.{◌==◌, ◌&&◌, ◌||◌, not, ℕ, List, [], filter, Option, None, Some}
use Rattle.std.specs.FinMap as finmap
use Rattle.atspi_names.specs.Owners.{Owners, nobody}
use Rattle.atspi_match.specs.declared.condition.Condition.{Condition}

-- a call that waits for its reply: who called, with which serial, and who is to answer
pub record OpenCall : Type 0 where
  pub caller : ℕ
  pub serial : ℕ
  pub callee : ℕ

-- The connections in order of joining; who owns which name; the match rules, each with its connection; the open calls,
-- the oldest first; and the serial of the next message of the bus's own.
pub record BusState : Type 0 where
  pub joined : List ℕ
  pub owners : Owners
  pub rules : List (ℕ × List Condition)
  pub calls : List OpenCall
  pub next : ℕ

-- at the beginning nobody has joined, and the bus's messages are numbered from 1
abbrev pub begins : BusState
begins = record { joined = []; owners = nobody; rules = []; calls = []; next = 1 }

-- the unique name of a connection, none before its Hello
abbrev pub unique_of : Owners → ℕ → Option (List ℕ)
unique_of owners conn = finmap.get owners.unique conn

-- the name of a connection, and an empty text for nobody
abbrev pub text_or_empty : Option (List ℕ) → List ℕ
text_or_empty None = []
text_or_empty (Some name) = name

abbrev pub name_or_empty : Owners → Option ℕ → List ℕ
name_or_empty owners None = []
name_or_empty owners (Some conn) = text_or_empty (unique_of owners conn)

-- the calls that neither went out from the connection nor wait for its answer
abbrev pub calls_without : ℕ → List OpenCall → List OpenCall
calls_without conn calls = filter (λ (c : OpenCall). not (c.caller == conn || c.callee == conn)) calls

-- the calls of others that wait for the connection's answer
abbrev pub waiting_for : ℕ → List OpenCall → List OpenCall
waiting_for conn calls = filter (λ (c : OpenCall). c.callee == conn && not (c.caller == conn)) calls
