-- Entries that are refused where another is due, or none is; and a trace whose entries are due one behind the other.
use Rattle.std.proofs.Common.{◌≡◌, ◌⊎◌, ℕ, Bool, true, false, Option, None, Some, inl, inr, ◌∷◌, [], List, ap, sym, ◌∙◌, true≢false}
use Rattle.std.specs.Prelude.{unwrap_or}
use Rattle.atspi_message.specs.Envelope.{Envelope}
use Rattle.atspi_match.specs.routing.Queues.{Bus}
use Rattle.atspi_trace.specs.Entry.{Entry}
use Rattle.atspi_trace.specs.World.{Hearer, Role, the_registry, an_application, a_reader, End}
use Rattle.atspi_trace.specs.Ends.{end_at}
use Rattle.atspi_trace.specs.Due.{Scene, due}
use Rattle.atspi_audit_due.specs.Fits.{FitsIn, IsFree}
use Rattle.atspi_audit_examples.specs.Cases.{freely, reader}
use Rattle.atspi_audit_due.specs.Readers.{IsFreeCall}

same_some : {A : Type 0} (x y : A) → Some x ≡ Some y → x ≡ y
same_some x y e = ap (λ o. unwrap_or o x) e

-- a test tells the two apart, and the entry is no call of a reader's
pub not_due : (test : Entry → Bool) (s : Scene) (right wrong : Entry) → due s ≡ Some right → test right ≡ true → test wrong ≡ false
    → (IsFree s wrong → ⊥) → FitsIn s wrong → ⊥
not_due test s right wrong h r w free (inl d) = true≢false (sym r ∙ ap test (same_some right wrong (sym h ∙ d.next)) ∙ w)
not_due test s right wrong h r w free (inr k) = free k

nobody : (wrong : Entry) (o : Option Entry) → o ≡ None → o ≡ Some wrong → ⊥
nobody wrong o e f = let h : None ≡ Some wrong = sym e ∙ f in cc

pub none_due : (s : Scene) (wrong : Entry) → due s ≡ None → (IsFree s wrong → ⊥) → FitsIn s wrong → ⊥
none_due s wrong h free (inl d) = nobody wrong (due s) h d.next
none_due s wrong h free (inr k) = free k

-- who took the last message asks
pub hearer_is : (b : Bus) (r : ℕ) (h : Hearer) (asks : ℕ) (e : Envelope) → (own : IsFreeCall (freely b (reader r h)) asks e) → h ≡ own.hearer
hearer_is b r h asks e own =
    let conns : 0 ≡ own.conn = same_some 0 own.conn own.free in
    let askers : reader r h ≡ own.asker = same_some (reader r h) own.asker (ap (end_at (reader r h ∷ [])) conns ∙ own.there) in
    ap (hearer_or h) (ap (λ (x : End). x.role) askers ∙ own.role)
  where
    hearer_or : Hearer → Role → Hearer
    hearer_or d (a_reader x) = x
    hearer_or d (the_registry x) = d
    hearer_or d (an_application x) = d
