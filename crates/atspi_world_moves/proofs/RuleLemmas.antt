-- What the bus does with a message is the same by any rule that its text spells: a text spells one rule, or none.
use Rattle.std.proofs.Common.{◌≡◌, ℕ, Bool, true, false, List, [], ◌∷◌, Option, None, Some, refl, ap}
use Rattle.std.specs.Prelude.{Result, Ok, Err, ◌==◌, encode_utf8_all, if◌then◌else◌}
use Rattle.std.proofs.lemmas.Bool.{eqb-true}
use Rattle.atspi_types.specs.Data.{Data}
use Rattle.atspi_message.specs.Envelope.{Envelope}
use Rattle.atspi_match.specs.declared.condition.Condition.{Condition}
use Rattle.atspi_match.proofs.UniqueLemmas.{same_rule}
use Rattle.atspi_match.specs.declared.routing.member.BusMember.{BusMember}
use Rattle.atspi_match.specs.declared.routing.member.BusMember.TheVariants.{Hello, RequestName, ReleaseName, NameHasOwner, GetNameOwner, ListNames, ListQueuedOwners, AddMatch, RemoveMatch, GetId, Ping}
use Rattle.atspi_match.specs.routing.BusState.{BusState, unique_of}
use Rattle.atspi_match.specs.routing.Members.{member_of}
use Rattle.atspi_match.specs.routing.Answers.{answers, only, fails, adds_rule, removes_rule, first_text}
use Rattle.atspi_match.specs.routing.Routing.{is_for_bus}
use Rattle.atspi_match.specs.routing.Steps.{closes, BusStep, speaks, answered, called, passes_on, takes_from_named, greets, is_hello, bus_takes}
use Rattle.atspi_bus_answers.specs.Answered.{Spells, IsSpokenOf}
use Rattle.atspi_bus_steps.specs.Spoken.{IsRuleOf, IsRuleNamed, IsRuleTaken}

one_spelled : (bytes : List ℕ) (r t : Option (List Condition)) → Spells bytes r → Spells bytes t → r ≡ t
one_spelled bytes None None p q = refl
one_spelled bytes None (Some t) p q = absurd (p t q)
one_spelled bytes (Some r) None p q = absurd (q r p)
one_spelled bytes (Some r) (Some t) p q = ap Some (same_rule bytes r t p q)

same_answer : (member : BusMember) (s : BusState) (conn : ℕ) (args : List Data) (r t : Option (List Condition)) → IsSpokenOf member args r → IsSpokenOf member args t
    → answers member s conn args r ≡ answers member s conn args t
same_answer AddMatch s conn args r t p q = ap (adds_rule s conn) (one_spelled (encode_utf8_all (first_text args)) r t p q)
same_answer RemoveMatch s conn args r t p q = ap (removes_rule s conn) (one_spelled (encode_utf8_all (first_text args)) r t p q)
same_answer Hello s conn args r t p q = refl
same_answer RequestName s conn args r t p q = refl
same_answer ReleaseName s conn args r t p q = refl
same_answer NameHasOwner s conn args r t p q = refl
same_answer GetNameOwner s conn args r t p q = refl
same_answer ListNames s conn args r t p q = refl
same_answer ListQueuedOwners s conn args r t p q = refl
same_answer GetId s conn args r t p q = refl
same_answer Ping s conn args r t p q = refl

module _ (s : BusState) (conn : ℕ) where
  abbrev called_by : Envelope → Option (List Condition) → Result BusMember (List ℕ) → BusStep
  called_by e rule (Ok member) = answered s conn e (answers member s conn e.body rule)
  called_by e rule (Err name) = answered s conn e (only s (fails name))

  same_called : (e : Envelope) (r t : Option (List Condition)) → IsRuleOf e r → IsRuleOf e t → called s conn e r ≡ called s conn e t
  same_called e r t p q = by (member_of e) refl
    where
      by : (o : Result BusMember (List ℕ)) → member_of e ≡ o → called_by e r o ≡ called_by e t o
      by (Ok member) h = ap (answered s conn e) (same_answer member s conn e.body r t (p member h) (q member h))
      by (Err name) h = refl

  same_named : (e : Envelope) (r t : Option (List Condition)) → IsRuleNamed e r → IsRuleNamed e t → takes_from_named s conn e r ≡ takes_from_named s conn e t
  same_named e r t p q = by (is_for_bus e) (e.kind == 1) refl refl
    where
      by : (b k : Bool) → is_for_bus e ≡ b → (e.kind == 1) ≡ k
          → (if b then (if k then called s conn e r else speaks s []) else passes_on s conn e) ≡ (if b then (if k then called s conn e t else speaks s []) else passes_on s conn e)
      by true true h i = same_called e r t (p h (eqb-true e.kind 1 i)) (q h (eqb-true e.kind 1 i))
      by true false h i = refl
      by false k h i = refl

  abbrev taken_by : Envelope → Option (List Condition) → Option (List ℕ) → BusStep
  taken_by e rule (Some name) = takes_from_named s conn (record e { sender = Some name }) rule
  taken_by e rule None = if is_hello e then greets s conn e else record { state = s; moves = closes conn ∷ [] }

  pub same_taken : (e : Envelope) (r t : Option (List Condition)) → IsRuleTaken s conn e r → IsRuleTaken s conn e t → bus_takes s conn e r ≡ bus_takes s conn e t
  same_taken e r t p q = by (unique_of s.owners conn) refl
    where
      by : (o : Option (List ℕ)) → unique_of s.owners conn ≡ o → taken_by e r o ≡ taken_by e t o
      by (Some name) h = same_named (record e { sender = Some name }) r t (p name h) (q name h)
      by None h = refl
