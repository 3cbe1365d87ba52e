-- How a run of a live end begins on its link and ends, put together.
use Rattle.std.proofs.Common.{◌≡◌, ℕ, List, [], ◌∷◌, ◌++◌, Option, None, Some, refl, sym, ap, subst, ◌∙◌, inl, inr, append-nil, arith}
use Rattle.std.specs.Prelude.{◌≢◌, ◌⊎◌}
use Rattle.atspi_base.specs.Outside.{AppendsPart, Rose}
use Rattle.atspi_live_host.specs.declared.call.Did.{Did}
use Rattle.atspi_live_host.specs.declared.call.Did.TheVariants.{Done, NotYet, End, Failed}
use Rattle.atspi_live_host.specs.declared.call.Call.{Call}
use Rattle.atspi_live_host.specs.declared.call.Call.TheVariants.{Connect}
use Rattle.atspi_live_host.specs.Calls.{Adds, Counts, IsOpen, Opens, taken, given}
use Rattle.atspi_live_conversation.specs.Moved.{Tells, reads}
use Rattle.atspi_live_conversation.specs.Rounds.{Makes}
use Rattle.atspi_live_conversation.specs.Reports.{Begins, Causes, IsOnLink, Reports, SinkBlamed}
use Rattle.atspi_live_conversation.specs.Talking.{Blames}
use Rattle.atspi_live_conversation.specs.declared.ending.Ending.{Ending}
use Rattle.atspi_live_conversation.specs.declared.ending.Ending.TheVariants as endings

-- the calls behind a connect
pub on_link : (path : List ℕ) (k : ℕ) (old mid new : Option (List Call)) (P : List Call → Type 0) → Begins old → Adds old mid (Connect path (Done k)) → Makes mid new P → IsOnLink path k new P
on_link path k old mid None P b a m = tt
on_link path k old None (Some ds) P b a m = absurd m
on_link path k None (Some cs) (Some ds) P b a m = absurd a
on_link path k (Some bs) (Some cs) (Some ds) P b a m = (m.0, m.1, m.2 ∙ ap (λ (w : List Call). w ++ m.0) (a ∙ ap (λ (w : List Call). w ++ Connect path (Done k) ∷ []) b))

-- the link that a connect gives is the one that is open, and nothing passed on it
pub connected : (old new : List ℕ) (k : ℕ) → old ≡ [] → Opens old new (Done k) → new ≡ k ∷ []
connected old new k e o = o.0 ∙ ap (λ (w : List ℕ). w ++ k ∷ []) e

pub is_open : (ks : List ℕ) (k : ℕ) → ks ≡ k ∷ [] → IsOpen k ks
is_open ks k e = subst (λ (w : List ℕ). IsOpen k w) (sym e) (inl refl)

pub fresh : (old new : Option (List Call)) (k : ℕ) (path : List ℕ) → Begins old → Adds old new (Connect path (Done k)) → Tells k new [] [] []
fresh old None k path b a = tt
fresh None (Some ds) k path b a = absurd a
fresh (Some cs) (Some ds) k path b a =
    subst (λ (w : List Call). (taken k w ≡ []) × (given k w ≡ []) × (reads k w ≡ [])) (sym (a ∙ ap (λ (w : List Call). w ++ Connect path (Done k) ∷ []) b)) (refl, refl, refl)

-- a connect that gives no link has failed
pub connect_failed : (did : Did) (old new : List ℕ) (before after : ℕ) → ((k : ℕ) → did ≡ Done k → ⊥) → did ≢ NotYet → Opens old new did → Counts before after did → Rose before after × (new ≡ old)
connect_failed (Done k) old new before after d n o c = absurd (d k refl)
connect_failed NotYet old new before after d n o c = absurd (n refl)
connect_failed End old new before after d n o c = absurd o
connect_failed Failed old new before after d n o c = (c.1, o)

pub connect_done : (k before after : ℕ) → Counts before after (Done k) → after ≡ before
connect_done k before after c = c

-- the counts, by the ending
pub causes : (ending : Ending) (status faults faults' links links' sink sink' : ℕ) (w w' : Option (List ℕ)) → faults' ≡ faults → Blames ending links links' → Reports ending status w w' → SinkBlamed status sink sink'
    → Causes status faults faults' links links' sink sink'
causes ending status faults faults' links links' sink sink' w w' f b r s = record {
  by_host = λ e. inr (rose ending b r e);
  no_host = same ending b r;
  by_sink = s.0;
  no_sink = s.1;
}
  where
    rose : (ending : Ending) → Blames ending links links' → Reports ending status w w' → status ≡ 7 → Rose links links'
    rose endings.PeerEnded b r e = absurd (omega (arith, r.0, e))
    rose endings.NoMemory b r e = absurd (omega (arith, r.0, e))
    rose (endings.Malformed start fault) b r e = elim r [
      | inl x ↦ absurd (omega (arith, x.0, e))
      | inr x ↦ elim x.0 [ inl y ↦ absurd (omega (arith, y, e)) | inr y ↦ absurd (omega (arith, y, e)) ]
    ]
    rose endings.HostFailed b r e = b.1
    rose endings.RoundsDone b r e = absurd (omega (arith, r.0, e))
    rose endings.NotAuthenticated b r e = absurd (omega (arith, r.0, e))
    rose endings.Spent b r e = absurd (omega (arith, r.0, e))

    same : (ending : Ending) → Blames ending links links' → Reports ending status w w' → (status ≡ 7) ⊎ ((faults' ≡ faults) × (links' ≡ links))
    same endings.PeerEnded b r = inr (f, b)
    same endings.NoMemory b r = inr (f, b)
    same (endings.Malformed start fault) b r = inr (f, b)
    same endings.HostFailed b r = inl r.0
    same endings.RoundsDone b r = inr (f, b)
    same endings.NotAuthenticated b r = inr (f, b)
    same endings.Spent b r = inr (f, b)

-- nothing was written of a line
pub none_written : (w : Option (List ℕ)) (line : List ℕ) → AppendsPart w w line
none_written None line = ([], line, refl, tt)
none_written (Some w) line = ([], line, refl, sym (append-nil w))
