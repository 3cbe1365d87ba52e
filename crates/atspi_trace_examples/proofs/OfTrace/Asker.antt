-- Who asks where one end is alone: that end, and what it knows.
use Rattle.std.proofs.Common.{◌≡◌, ℕ, [], ◌∷◌, ap, ◌∙◌}
use Rattle.std.proofs.lemmas.Option.{same_Some}
use Rattle.atspi_message.specs.Envelope.{Envelope}
use Rattle.atspi_match.specs.routing.Queues.{Bus}
use Rattle.atspi_trace.specs.World.{Hearer, Role, the_registry, an_application, a_reader, End}
use Rattle.atspi_trace.specs.Ends.{end_at}
use Rattle.atspi_trace.specs.Due.{IsOwnCall}
use Rattle.atspi_trace_examples.specs.trace.Small.{freely, reader}

pub asker_is : (b : Bus) (e : End) (r : ℕ) (m : Envelope) (own : IsOwnCall (freely b e) r m) → e ≡ own.asker
asker_is b e r m own =
    let conn : 0 ≡ own.conn = same_Some 0 own.conn own.free in
    same_Some e own.asker (ap (end_at (e ∷ [])) conn ∙ own.there)

abbrev known : Hearer → Role → Hearer
known h (a_reader x) = x
known h (the_registry x) = h
known h (an_application x) = h

pub hearer_is : (b : Bus) (n : ℕ) (h : Hearer) (r : ℕ) (m : Envelope) (own : IsOwnCall (freely b (reader n h)) r m) → h ≡ own.hearer
hearer_is b n h r m own = ap (known h) (ap (λ (x : End). x.role) (asker_is b (reader n h) r m own) ∙ own.reader)
