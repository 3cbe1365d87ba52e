use Rattle.std.proofs.Common.{◌≡◌, inl, inr, ℕ, [], Some, refl, sym, ap, ◌∙◌, arith}
use Rattle.std.specs.Prelude.{bytes_eq, codes, encode_utf8_all}
use lib.Utf8.{encode}
use Rattle.atspi_protocol.specs.members.Asked.{is_text}
use Rattle.atspi_protocol.specs.declared.following.question.Question.TheVariants.{Hello}
use Rattle.atspi_protocol.specs.following.Calls.{asking}
use Rattle.atspi_protocol.specs.registering.Room.{owner_changed}
use Rattle.atspi_trace_laws.specs.missed.Laws.{TakesAway}
use Rattle.atspi_trace_laws.proofs.OfOrder.Parties.{no_none, same_some, false_true}
use Rattle.atspi_trace_examples.proofs.missed.what_takes_away.Goals as goal

four_one : ◌≡◌ {A = ℕ} 4 1 → ⊥
four_one h = omega (arith, h)

of_nobody_else : TakesAway (record (asking 1 Hello) { member = Some (codes "DeregisterEvent"); sender = Some (codes ":1.8") }) (codes ":1.9", codes "object") → ⊥
of_nobody_else (inl h) = false_true (ap (λ o. is_text o (codes ":1.9")) h.2)
of_nobody_else (inr h) = no_none h.0 h.1

not_that_call : TakesAway (record (asking 1 Hello) { sender = Some (codes ":1.9") }) (codes ":1.9", codes "object") → ⊥
not_that_call (inl h) = false_true (ap (λ o. is_text o (codes "DeregisterEvent")) h.1)
not_that_call (inr h) = no_none h.0 h.1

not_its_end : TakesAway (owner_changed (codes ":1.8") (codes ":1.8") []) (codes ":1.9", codes "object") → ⊥
unfolding encode
not_its_end (inl h) = four_one h.0
not_its_end (inr h) =
    false_true (ap (λ n. bytes_eq (codes ":1.9") (encode_utf8_all n)) (same_some (codes ":1.8") h.0 h.1) ∙ sym (ap (bytes_eq (codes ":1.9")) h.2))

no_end : TakesAway (owner_changed (codes ":1.9") [] (codes ":1.9")) (codes ":1.9", codes "object") → ⊥
no_end (inl h) = four_one h.0
no_end (inr h) = no_none h.0 h.1

pub returns-clause-own : goal.returns-clause-own
returns-clause-own c = inl (refl, refl, refl)

pub returns-clause-of_another : goal.returns-clause-of_another
returns-clause-of_another c = of_nobody_else

pub returns-clause-another_call : goal.returns-clause-another_call
returns-clause-another_call c = not_that_call

pub returns-clause-its_end : goal.returns-clause-its_end
unfolding encode
returns-clause-its_end c = inr (codes ":1.9", refl, refl)

pub returns-clause-end_of_another : goal.returns-clause-end_of_another
returns-clause-end_of_another c = not_its_end

pub returns-clause-a_beginning : goal.returns-clause-a_beginning
returns-clause-a_beginning c = no_end
