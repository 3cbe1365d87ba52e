-- What the bus writes: its own messages, and who is dropped.
use Rattle.std.proofs.Common.{ℕ, Bool, true, false, List, [], ◌∷◌, ◌++◌}
use Rattle.std.specs.Prelude.{filter, not, if◌then◌else◌}
use Rattle.std.specs.List.{AllByRecursion}
use Rattle.atspi_script_lines.specs.declared.line.Party.{Party}
use Rattle.atspi_script_lines.specs.declared.line.Party.TheVariants.{Bus as The_bus, Registry}
use Rattle.atspi_message.specs.Envelope.{Envelope}
use Rattle.atspi_match.specs.declared.routing.closing.Why.{Why}
use Rattle.atspi_match.specs.declared.routing.closing.Why.TheVariants.{NotHello, Quota}
use Rattle.atspi_match.specs.declared.routing.closing.Closing.{Closing}
use Rattle.atspi_trace.specs.Entry.{Entry, sent, dropped}
use Rattle.atspi_trace.specs.World.{End}
use Rattle.atspi_trace.specs.Ends.{same_party, party_at}
use Rattle.atspi_trace.specs.Carrying.{sent_by_bus, is_upto, dropped_if, bus_entries}
use Rattle.atspi_trace_laws.proofs.OfOrder.Parties.{all_append}

pub all_any : {X : Type 0} (Q : X → Type 0) → ((x : X) → Q x) → (xs : List X) → AllByRecursion Q xs
all_any Q f [] = tt
all_any Q f (x ∷ xs) = (f x, all_any Q f xs)

abbrev later : List End → List Envelope → Closing → List Closing → List Entry
later ends own c cs = if same_party (party_at ends c.conn) Registry then [] else bus_entries ends (filter (λ e. not (is_upto c.after e)) own) cs

module _ (P : Entry → Type 0) (own_fine : (e : Envelope) → P (sent The_bus e)) where
  sent_all : (own : List Envelope) → AllByRecursion P (sent_by_bus own)
  sent_all [] = tt
  sent_all (e ∷ es) = (own_fine e, sent_all es)

  drop_all : (who : Party) (why : Why) → ((queued len : ℕ) → P (dropped who queued len)) → AllByRecursion P (dropped_if who why)
  drop_all who NotHello g = tt
  drop_all who (Quota queued len) g = (g queued len, tt)

  unless_all : (b : Bool) (xs : List Entry) → AllByRecursion P xs → AllByRecursion P (if b then [] else xs)
  unless_all true xs a = tt
  unless_all false xs a = a

  pub bus_all : (ends : List End) (own : List Envelope) (closings : List Closing)
      → AllByRecursion (λ (c : Closing). (queued len : ℕ) → P (dropped (party_at ends c.conn) queued len)) closings → AllByRecursion P (bus_entries ends own closings)
  bus_all ends own [] g = sent_all own
  bus_all ends own (c ∷ cs) g =
      all_append P (sent_by_bus (filter (is_upto c.after) own)) (dropped_if (party_at ends c.conn) c.why ++ later ends own c cs) (sent_all (filter (is_upto c.after) own))
      (all_append P (dropped_if (party_at ends c.conn) c.why) (later ends own c cs) (drop_all (party_at ends c.conn) c.why g.0)
      (unless_all (same_party (party_at ends c.conn) Registry) (bus_entries ends (filter (λ e. not (is_upto c.after e)) own) cs)
      (bus_all ends (filter (λ e. not (is_upto c.after e)) own) cs g.1)))
