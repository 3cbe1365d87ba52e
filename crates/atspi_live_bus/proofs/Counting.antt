-- What the bus tells once is fewer afterwards.
use Rattle.std.proofs.Common.{◌≡◌, ◌<◌, Bool, true, false, [], ◌∷◌, ◌++◌, map, length, suc, Option, None, Some, sym, ap, ◌∙◌, arith}
use Rattle.std.specs.Prelude.{IfNone, is_some, option_to_list}
use Rattle.atspi_message.specs.Envelope.{Envelope, envelope_of}
use Rattle.atspi_message.specs.declared.message.Message.{Message}
use Rattle.atspi_match.specs.declared.routing.closing.Closing.{Closing}
use Rattle.atspi_match.specs.routing.Queues as queues

pub fewer_own : (old new : queues.Bus) (e : Envelope) → old ≡ record new { own = e ∷ new.own } → length new.own < length old.own
fewer_own old new e h =
    let counted : length old.own ≡ suc (length new.own) = ap (λ (b : queues.Bus). length b.own) h in
    omega (arith, counted)

pub fewer_told : (old new : queues.Bus) (o : Option Message) (some : Bool) → some ≡ is_some o → some ≡ true → old ≡ record new { own = map envelope_of (option_to_list o) ++ new.own } → length new.own < length old.own
fewer_told old new None some s t e = absurd (no (sym s ∙ t))
  where
    no : false ≡ true → ⊥
    no e = cc
fewer_told old new (Some x) some s t e = fewer_own old new (envelope_of x) e

pub fewer_closings : (old new : queues.Bus) (c : Closing) → old ≡ record new { closings = c ∷ new.closings } → length new.closings < length old.closings
fewer_closings old new c h =
    let counted : length old.closings ≡ suc (length new.closings) = ap (λ (b : queues.Bus). length b.closings) h in
    omega (arith, counted)

pub none_own : (old new : queues.Bus) (o : Option Message) (some : Bool) → some ≡ is_some o → some ≡ false → IfNone o (old.own ≡ []) → old ≡ record new { own = map envelope_of (option_to_list o) ++ new.own } → new.own ≡ []
none_own old new None some s t n e = sym (ap (λ (b : queues.Bus). b.own) e) ∙ n
none_own old new (Some x) some s t n e = absurd (no (sym s ∙ t))
  where
    no : true ≡ false → ⊥
    no e = cc
