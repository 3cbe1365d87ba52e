-- THE BUS BEHIND THE REGISTRY'S START, by its own definitions, is the bus with which worlds begin.
use Rattle.std.proofs.Common.{◌≡◌, ℕ, List, [], ◌∷◌, None, Some, refl, ap, ◌∙◌}
use Rattle.std.specs.Prelude.{codes}
use Rattle.std.specs.Fmt.{digits}
use Rattle.std.specs.FinMap as finmap
use Rattle.std.specs.Ordering.{nat_cmp}
use Rattle.atspi_base.specs.valid_names.Names.{is_bus_name}
use Rattle.atspi_base.specs.valid_names.Elements.{are_two_or_more, are_elements, parts_of}
use Rattle.atspi_types.specs.Data.{text_data, number_data}
use Rattle.atspi_types.specs.Kinds.{u32}
use Rattle.atspi_message.specs.Envelope.{Envelope}
use Rattle.atspi_match.specs.routing.BusState.{BusState, begins}
use Rattle.atspi_match.specs.routing.OwnMessages.{signal, return_to, owner_changed}
use Rattle.atspi_match.specs.routing.Steps.{Move, says, delivers, BusStep, bus_takes, bus_joins}
use Rattle.atspi_protocol.specs.ends.Places.{registry}
use Rattle.atspi_protocol.specs.registering.Told.{hello_call, request_call, match_call}
use Rattle.atspi_trace.specs.Rules.{owner_rule, rule_in}
use Rattle.atspi_trace.specs.World.{first_unique, first_owners, first_bus}
use Rattle.atspi_trace.proofs.Maps.{maps}
use Rattle.atspi_headline.specs.Links.{registry_said, first_state}

abbrev name : List ℕ
name = codes ":1.0"

abbrev hello : Envelope
hello = record hello_call { serial = 1 }

abbrev request : Envelope
request = record request_call { serial = 2 }

abbrev ask : Envelope
ask = record match_call { serial = 3 }

-- what the bus knows behind each of the three calls
abbrev joined : BusState
joined = bus_joins begins 0

abbrev greeted : BusState
greeted = record {
  joined = 0 ∷ [];
  owners = record { given = 1; unique = finmap.from_sorted first_unique; lists = finmap.from_sorted ((name, (0, 0) ∷ []) ∷ []) };
  rules = [];
  calls = [];
  next = 4;
}

abbrev owning : BusState
owning = record greeted { owners = first_owners; next = 7 }

abbrev listening : BusState
listening = record owning { rules = (0, owner_rule) ∷ []; next = 8 }

abbrev name_returned : Envelope
name_returned = record (return_to (Some name) 1 (text_data name ∷ [])) { serial = 1 }

abbrev name_told : Envelope
name_told = record (signal (codes "NameAcquired") (Some name) (text_data name ∷ [])) { serial = 2 }

abbrev greeting : List Move
greeting = says name_returned ∷ delivers 0 name_returned ∷ says name_told ∷ delivers 0 name_told ∷ says (record (owner_changed name [] name) { serial = 3 }) ∷ []

abbrev place_told : Envelope
place_told = record (signal (codes "NameAcquired") (Some name) (text_data registry ∷ [])) { serial = 4 }

abbrev place_returned : Envelope
place_returned = record (return_to (Some name) 2 (number_data u32 1 ∷ [])) { serial = 6 }

abbrev granting : List Move
granting = says place_told ∷ delivers 0 place_told ∷ says (record (owner_changed registry [] name) { serial = 5 }) ∷ says place_returned ∷ delivers 0 place_returned ∷ []

abbrev rule_returned : Envelope
rule_returned = record (return_to (Some name) 3 []) { serial = 7 }

abbrev agreeing : List Move
agreeing = says rule_returned ∷ delivers 0 rule_returned ∷ []

numbers_none : {X : Type 0} (q : ℕ) → finmap.get (finmap.empty {X = X} {R = nat_cmp}) q ≡ None
numbers_none q = finmap.get-empty nat_cmp q

takes_hello : bus_takes joined 0 hello (rule_in hello) ≡ record { state = greeted; moves = greeting }
unfolding lib.Utf8.encode digits
takes_hello = simp (numbers_none, maps) refl

takes_request : bus_takes greeted 0 request (rule_in request) ≡ record { state = owning; moves = granting }
unfolding lib.Utf8.encode digits is_bus_name are_two_or_more are_elements parts_of
takes_request = simp maps refl

takes_ask : bus_takes owning 0 ask (rule_in ask) ≡ record { state = listening; moves = agreeing }
unfolding lib.Utf8.encode digits
takes_ask = simp maps refl

pub first_is : (quota : ℕ) → first_state ≡ (first_bus quota).state
first_is quota =
    ap (λ (x : BusStep). registry_said (registry_said x.state request) ask) takes_hello ∙ ap (λ (x : BusStep). registry_said x.state ask) takes_request
    ∙ ap (λ (x : BusStep). x.state) takes_ask
