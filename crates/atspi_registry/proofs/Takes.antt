-- What the registry does with a message, by its name, the message's type and its sender.
use Rattle.std.proofs.Common.{◌≡◌, ◌≢◌, ℕ, ◌==◌, ◌&&◌, Bool, true, false, cond, List, [], ◌∷◌, Option, Some, None, refl, sym, ap, ◌∙◌, subst}
use Rattle.std.specs.Prelude.{IsTrue, is_some, unwrap_or, if◌then◌else◌, Result, Ok, Err, encode_utf8_all, bytes_eq, chars, codes, IsUtf8}
use Rattle.std.specs.Borrow.{Bor}
use Rattle.std.proofs.lemmas.Bool.{and_parts}
use Rattle.std.proofs.lemmas.Str.{encodes-chars}
use Rattle.atspi_base.specs.valid_names.Names.{is_path, is_interface, is_member, is_bus_name, IsBusName, HasBusElements}
use Rattle.atspi_base.proofs.OfValidNames.NameLemmas.{IsBusName-from_test}
use Rattle.atspi_message.specs.Envelope.{Envelope}
use Rattle.atspi_message_in_place.specs.Names.{fits, are_named}
use Rattle.atspi_protocol.specs.declared.ends.error.CallError.{CallError}
use Rattle.atspi_protocol.specs.ends.Messages.{fails}
use Rattle.atspi_protocol.specs.members.Asked.{asked}
use Rattle.atspi_protocol.specs.registering.RegistryState.{RegistryState, has_pair, is_of}
use Rattle.atspi_protocol.specs.registering.Answers.{Answer, only, object_at, if_own}
use Rattle.atspi_protocol.specs.registering.Steps.{RegistryStep, registry_takes, takes_as, named, name_told, name_gone, called_by, hears, answer_to, answered}
use Rattle.atspi_registry.specs.declared.calls.ask.Ask.{Ask}
use Rattle.atspi_registry.specs.calls.Ask.{ask_answer}
use Rattle.atspi_registry.specs.inner.Steps.{own_name}

pub takes_unnamed : (s : RegistryState) (e : Envelope) → is_some s.own ≡ false → registry_takes s e ≡ named s (name_told s.hello e)
takes_unnamed s e h = by s.own h
  where
    by : (o : Option (List ℕ)) → is_some o ≡ false → takes_as s e o ≡ named s (name_told s.hello e)
    by None h = refl
    by (Some own) h = absurd cc

pub takes_called : (s : RegistryState) (e : Envelope) → is_some s.own ≡ true → (e.kind == 1) ≡ true → registry_takes s e ≡ called_by s (own_name s) e e.sender
takes_called s e h k = by s.own h
  where
    by : (o : Option (List ℕ)) → is_some o ≡ true → takes_as s e o ≡ called_by s (unwrap_or o []) e e.sender
    by None h = absurd cc
    by (Some own) h = ap (λ (b : Bool). if b then called_by s own e e.sender else hears s (name_gone e)) k

pub takes_heard : (s : RegistryState) (e : Envelope) → is_some s.own ≡ true → (e.kind == 1) ≡ false → registry_takes s e ≡ hears s (name_gone e)
takes_heard s e h k = by s.own h
  where
    by : (o : Option (List ℕ)) → is_some o ≡ true → takes_as s e o ≡ hears s (name_gone e)
    by None h = absurd cc
    by (Some own) h = ap (λ (b : Bool). if b then called_by s own e e.sender else hears s (name_gone e)) k

pub calls_nobody : (s : RegistryState) (e : Envelope) → is_some s.own ≡ true → (e.kind == 1) ≡ true → e.sender ≡ None → registry_takes s e ≡ called_by s (own_name s) e None
calls_nobody s e h k w = takes_called s e h k ∙ ap (called_by s (own_name s) e) w

pub calls : (s : RegistryState) (e : Envelope) (caller : List ℕ) (r : Result Ask CallError) → is_some s.own ≡ true → (e.kind == 1) ≡ true → e.sender ≡ Some caller
    → answer_to s (own_name s) caller (asked (object_at e.path) e.interface e.member e.body) ≡ ask_answer r s (own_name s) caller
    → registry_takes s e ≡ answered s caller e (ask_answer r s (own_name s) caller)
calls s e caller r h k w a = takes_called s e h k ∙ ap (called_by s (own_name s) e) w ∙ ap (answered s caller e) a

-- the sender of a message that was read is a bus name, which is not empty
pub sender_named : (path interface member error destination sender : Option (Bor (List ℕ))) → IsTrue (are_named path interface member error destination sender) → fits is_bus_name sender ≡ true
sender_named path interface member error destination sender h =
    let a = and_parts (fits is_path path) _ h in
    let b = and_parts (fits is_interface interface) _ a.1 in
    let c = and_parts (fits is_member member) _ b.1 in
    let d = and_parts (fits is_interface error) _ c.1 in
    let f = and_parts (fits is_bus_name destination) (fits is_bus_name sender) d.1 in
    f.1

pub not_empty : (bs : List ℕ) → is_bus_name bs ≡ true → bs ≢ []
not_empty bs h e = subst HasBusElements e (IsBusName-from_test bs h).elements

-- a root is the caller's own, or another's
module _ (s : RegistryState) (caller name place : List ℕ) (a : Answer) (u : IsUtf8 name) where
  encoded : if_own s caller (chars name, place) a ≡ (if bytes_eq name caller then a else only s (fails (codes "InvalidArgs")))
  encoded = ap (λ (bs : List ℕ). if bytes_eq bs caller then a else only s (fails (codes "InvalidArgs"))) (encodes-chars name u)

  pub own_root : bytes_eq name caller ≡ true → if_own s caller (chars name, place) a ≡ a
  own_root h = encoded ∙ ap (λ (b : Bool). if b then a else only s (fails (codes "InvalidArgs"))) h

  pub another_root : bytes_eq name caller ≡ false → if_own s caller (chars name, place) a ≡ only s (fails (codes "InvalidArgs"))
  another_root h = encoded ∙ ap (λ (b : Bool). if b then a else only s (fails (codes "InvalidArgs"))) h
