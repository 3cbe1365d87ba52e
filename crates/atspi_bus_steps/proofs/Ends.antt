-- What several answers need.
use Rattle.std.proofs.Common.{◌≡◌, ◌≢◌, ℕ, ◌+◌, ◌≤◌, Bool, true, false, List, [], ◌∷◌, ◌++◌, refl, sym, ap, ◌∙◌, subst, arith}
use Rattle.std.specs.Prelude.{Result, Ok, Err, OnOk}
use Rattle.std.specs.List.{All}
use Rattle.std.proofs.lemmas.List.Elements.{All-nil}
use Rattle.atspi_message.specs.Envelope.{Envelope}
use Rattle.atspi_message.specs.Bytes.{written}
use Rattle.atspi_match.specs.declared.condition.Condition.{Condition}
use Rattle.atspi_names.specs.Owners.{Owners, after_hello, unique_name}
use Rattle.atspi_bus_queues.specs.Held.{Held}
use Rattle.atspi_match.specs.routing.BusState.{OpenCall, BusState}
use Rattle.atspi_match.specs.routing.Answers.{Reply}
use Rattle.atspi_match.specs.routing.Routing.{receivers, expects_reply}
use Rattle.atspi_match.specs.routing.Steps.{calls_after_all, replies, speaks}
use Rattle.atspi_match.specs.routing.Queues.{Bus, stepped}
use Rattle.atspi_bus_answers.specs.Answered.{AreNamed}
use Rattle.atspi_bus_steps.specs.inner.Handing.{queued_each, forwards}
use Rattle.atspi_bus_steps.specs.Greeting.{greeting}
use Rattle.atspi_bus_steps.specs.Sayable.{MaySay, IsTyped, reply_message}
use Rattle.atspi_bus_steps.specs.Sound.{IsSound}
use Rattle.atspi_bus_steps.proofs.Said.{handed-is, own_of-handed}
use Rattle.atspi_bus_steps.proofs.Sayables.{say-reply, one_sayable}
use Rattle.atspi_bus_steps.proofs.Replies.{replied, unreplied}

pub on_ok_both : {T E P Q S : Type 0} (r : Result T E) → (P → Q → S) → OnOk r P → OnOk r Q → OnOk r S
on_ok_both (Ok x) f p q = f p q
on_ok_both (Err e) f p q = p

-- a message that was forwarded
pub forwarded-is : (b : Bus) (conn : ℕ) (h : Held) (e : Envelope) (bytes conns : List ℕ) (calls : List OpenCall)
    → h ≡ record { quota = b.quota; waiting = queued_each b.quota b.waiting bytes conns } → bytes ≡ written e → conns ≡ receivers b.state e
    → calls ≡ calls_after_all b.state.calls conn e conns
    → record b { quota = h.quota; state = record b.state { calls = calls }; waiting = h.waiting } ≡ stepped b (forwards b.state conn e)
forwarded-is b conn h e bytes conns calls is same are noted =
    let state : BusState → Bus → Bus = λ s x. record x { state = s } in
    ap (λ (k : List OpenCall). record b { quota = h.quota; state = record b.state { calls = k }; waiting = h.waiting })
    (noted ∙ ap (calls_after_all b.state.calls conn e) are)
    ∙ ap (state (record b.state { calls = calls_after_all b.state.calls conn e (receivers b.state e) })) (handed-is b h e bytes conns is same are)
    ∙ ap (λ (l : List Envelope). record (stepped b (forwards b.state conn e)) { own = l }) (sym (append_none b.own) ∙ ap (λ (l : List Envelope). b.own ++ l) (sym (own_of-handed b.state e)))
  where
    append_none : {A : Type 0} (l : List A) → l ++ [] ≡ l
    append_none [] = refl
    append_none (x ∷ l) = ap (λ r. x ∷ r) (append_none l)

-- sound again, where owners and rules are others
pub sound-parts : (s : BusState) (owners : Owners) (rules : List (ℕ × List Condition)) (n k : ℕ) → IsSound s → owners.given ≡ s.owners.given → AreNamed owners.lists
    → n ≡ s.next + k → n ≤ 4294967296 → IsSound (record s { owners = owners; rules = rules; next = n })
sound-parts s owners rules n k was given named is last = record {
  ready = record { rising = was.ready.rising; first = let f = was.ready.first in omega arith; last = last };
  given = let g = was.given in omega arith;
  named = named;
  numbered = was.numbered;
}

-- a reply that is told
pub say-replies : (s : BusState) (conn : ℕ) (e : Envelope) (reply : Reply) → e.serial ≢ 0 → IsTyped reply → All MaySay (replies s conn e reply)
say-replies s conn e reply some typed = by (expects_reply e) refl
  where
    by : (b : Bool) → expects_reply e ≡ b → All MaySay (replies s conn e reply)
    by true is = subst (All MaySay) (sym (replied s conn e reply is)) (one_sayable (reply_message s conn e.serial reply) (say-reply s conn e.serial reply some typed))
    by false is = subst (All MaySay) (sym (unreplied s conn e reply is)) (All-nil MaySay)

-- what is said after a Hello
pub greeted-step : (b : Bus) (conn : ℕ) (e : Envelope) (owners : Owners) (told : List Envelope) (name : List ℕ) → owners ≡ after_hello b.state.owners conn → told ≡ greeting name e
    → name ≡ unique_name b.state.owners.given
    → stepped (record b { state = record b.state { owners = owners } }) (speaks (record b.state { owners = owners }) told)
    ≡ stepped b (speaks (record b.state { owners = after_hello b.state.owners conn }) (greeting (unique_name b.state.owners.given) e))
greeted-step b conn e owners told name is said named =
    ap (λ (o : Owners). stepped b (speaks (record b.state { owners = o }) told)) is
    ∙ ap (λ t. stepped b (speaks (record b.state { owners = after_hello b.state.owners conn }) t)) (said ∙ ap (λ n. greeting n e) named)
