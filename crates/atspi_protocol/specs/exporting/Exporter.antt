-- What an application is that exports its tree, and what it has queued.
use Rattle.std.specs.Prelude.{ℕ, suc, ◌+◌, ℤ, negsuc, List, [], ◌∷◌, ◌++◌, Option, None}
use Rattle.atspi_tree_model.specs.declared.step.Step.{Step}
use Rattle.atspi_tree_model.specs.Forest.{Forest}
use Rattle.atspi_tree_model.specs.Row.{TreeRow}
use Rattle.atspi_tree_model.specs.RowRules.{rows}
use Rattle.atspi_tree_model.specs.Tree.{first_tree}
use Rattle.atspi_message.specs.Envelope.{Envelope}
use Rattle.atspi_protocol.specs.objects.Application.{Application}

-- the calls by which it starts, one behind the return to the one before
pub data StartCall : Type 0 where
  hello : StartCall
  add_match : StartCall
  get_registered_events : StartCall
  embed : StartCall

-- it has not started; it waits for the return to its call with this serial; or nothing more of its start is to come
pub data Phase : Type 0 where
  new : Phase
  awaits : StartCall → ℕ → Phase
  over : Phase

-- what happens, in its order: a step of the tree, a message that is sent, a listener's pattern that counts from now on,
-- or no longer
pub data Happening : Type 0 where
  steps : Step → Happening
  sends : Envelope → Happening
  hears : List ℕ → List ℕ → Happening
  deaf : List ℕ → List ℕ → Happening

-- The tree, and how many nodes were ever added; the number that the registry gave it; its unique name, once Hello
-- returned it; the listeners' patterns; how far its start has come; the number of its next message; and what is queued,
-- the oldest first.
pub record Exporter : Type 0 where
  pub tree : Forest TreeRow
  pub added : ℕ
  pub id : ℤ
  pub name : Option (List ℕ)
  pub heard : List (List ℕ × List ℕ)
  pub phase : Phase
  pub next : ℕ
  pub out : List Happening

-- at first there is the root alone
abbrev pub begins : List ℕ → Exporter
begins name = record {
  tree = first_tree rows name;
  added = 0;
  id = negsuc 0;
  name = None;
  heard = [];
  phase = new;
  next = 1;
  out = [];
}

-- what it answers from under a name
abbrev pub named : Exporter → List ℕ → Application
named s name = record { tree = s.tree; added = s.added; name = name; id = s.id }

-- the messages get the numbers that follow this one, which rise by one
abbrev pub numbered : ℕ → List Happening → List Happening
numbered n [] = []
numbered n (sends e ∷ hs) = sends (record e { serial = n }) ∷ numbered (n + 1) hs
numbered n (steps step ∷ hs) = steps step ∷ numbered n hs
numbered n (hears bus pattern ∷ hs) = hears bus pattern ∷ numbered n hs
numbered n (deaf bus pattern ∷ hs) = deaf bus pattern ∷ numbered n hs

-- how many messages there are
abbrev pub sent_in : List Happening → ℕ
sent_in [] = 0
sent_in (sends e ∷ hs) = suc (sent_in hs)
sent_in (steps step ∷ hs) = sent_in hs
sent_in (hears bus pattern ∷ hs) = sent_in hs
sent_in (deaf bus pattern ∷ hs) = sent_in hs

-- what happens is queued
abbrev pub queues : Exporter → List Happening → Exporter
queues s hs = record s { next = s.next + sent_in hs; out = s.out ++ numbered s.next hs }
