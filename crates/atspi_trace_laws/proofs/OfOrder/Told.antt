-- Behind each cause the bus has nothing that is yet to be asked for.
use Rattle.std.proofs.Common.{◌≡◌, ◌⊎◌, inl, inr, List, refl, sym, ◌∙◌, subst}
use Rattle.atspi_trace.specs.Entry.{Entry}
use Rattle.atspi_trace.specs.World.{World}
use Rattle.atspi_trace.specs.Causes.{Done}
use Rattle.atspi_trace_laws.proofs.OfOrder.Allowed.{MovedUp, MovedDown}
use Rattle.atspi_trace_laws.proofs.OfOrder.Effects.{Effect, resets, app_joins, reader_joins, app_edited, app_took, reader_called, swapped, exited_, showed_, told_busy, told_quiet, bus_took, bus_ended, registry_took, reader_took}
use Rattle.atspi_trace_laws.proofs.OfOrder.Along.{Keeps}
use Rattle.atspi_trace_laws.proofs.OfOrder.Growing.{Grows, Shaped, Nothing, And, shaped_keeps, grown}
use Rattle.atspi_trace_laws.proofs.OfOrder.Closed.{IsTold}

abbrev pub Tells : List Entry → World → Type 0
Tells es w = IsTold w

same_told : (w v : World) → v.bus.own ≡ w.bus.own → v.bus.closings ≡ w.bus.closings → IsTold w → IsTold v
same_told w v o c t = record { own = o ∙ t.own; closings = c ∙ t.closings }

told_kept : (w : World) (d : Done) → IsTold w → Effect w d → IsTold d.world
told_kept w d t (resets quota few is) = subst (λ x. IsTold x.world) (sym is) (record { own = refl; closings = refl })
told_kept w d t (app_joins name short is) = subst (λ x. IsTold x.world) (sym is) (record { own = t.own; closings = t.closings })
told_kept w d t (reader_joins few is) = subst (λ x. IsTold x.world) (sym is) (record { own = t.own; closings = t.closings })
told_kept w d t (app_edited b) = subst (λ x. IsTold x.world) (sym b.is) (record { own = t.own; closings = t.closings })
told_kept w d t (app_took b) = subst (λ x. IsTold x.world) (sym b.is) (record { own = t.own; closings = t.closings })
told_kept w d t (reader_called b) = subst (λ x. IsTold x.world) (sym b.is) (record { own = t.own; closings = t.closings })
told_kept w d t (swapped b) = subst (λ x. IsTold x.world) (sym b.is) (record { own = t.own; closings = t.closings })
told_kept w d t (exited_ b) = subst (λ x. IsTold x.world) (sym b.is) (record { own = t.own; closings = t.closings })
told_kept w d t (showed_ b) = subst (λ x. IsTold x.world) (sym b.is) t
told_kept w d t (told_busy turns is) = subst (λ x. IsTold x.world) (sym is) t
told_kept w d t (told_quiet none is) = subst (λ x. IsTold x.world) (sym is) t
told_kept w d t (bus_took b) = subst (λ x. IsTold x.world) (sym b.is) (record { own = refl; closings = refl })
told_kept w d t (bus_ended b) = subst (λ x. IsTold x.world) (sym b.is) (record { own = refl; closings = refl })
told_kept w d t (registry_took b) = subst (λ x. IsTold x.world) (sym b.is) (record { own = t.own; closings = t.closings })
told_kept w d t (reader_took b) = subst (λ x. IsTold x.world) (sym b.is) (record { own = t.own; closings = t.closings })

told_grows : Grows Nothing Tells
told_grows = record {
  begins = record { own = refl; closings = refl };
  caused = λ es w d s a t e after b. told_kept w d t e;
  moved = λ es w v s a t m. by w v t m;
  asked = λ es w conn r m question s a t asks. record { own = t.own; closings = t.closings };
}
  where
    by : (w v : World) → IsTold w → (MovedUp w v ⊎ MovedDown w v) → IsTold v
    by w v t (inl m) = subst IsTold (sym m.after) (record { own = t.own; closings = t.closings })
    by w v t (inr m) = subst IsTold (sym m.after) (record { own = t.own; closings = t.closings })

pub told_keeps : Keeps (Shaped (And Nothing Tells))
told_keeps = grown Nothing Tells shaped_keeps told_grows
