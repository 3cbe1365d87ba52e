-- Ends that are gone stay gone.
use Rattle.std.proofs.Common.{◌≡◌, ℕ, zero, suc, ◌<◌, ◌≤◌, false, List, [], ◌∷◌, ◌++◌, length, Some, refl, sym, ap, ◌∙◌, subst, arith}
use Rattle.std.specs.Prelude.{get_or, nat_lt}
use Rattle.std.proofs.lemmas.Bool.{ltb-false}
use Rattle.std.proofs.lemmas.Option.{slice_get-get_or}
use Rattle.atspi_script_lines.specs.declared.line.Party.{Party}
use Rattle.atspi_trace.specs.World.{End, World}
use Rattle.atspi_trace.specs.Ends.{is_here, end_at}
use Rattle.atspi_trace.specs.Causes.{Done, app_starts, reader_starts}
use Rattle.atspi_trace_laws.proofs.OfOrder.Parties.{no_none, same_some, false_true}
use Rattle.atspi_trace_laws.proofs.OfOrder.Frame.{Over, at_below}
use Rattle.atspi_trace_laws.proofs.OfOrder.Shape.{Lasts, Shape}
use Rattle.atspi_trace_laws.proofs.OfOrder.Effects.{Effect, resets, app_joins, reader_joins, app_edited, app_took, reader_called, swapped, exited_, showed_, told_busy, told_quiet, bus_took, bus_ended, registry_took, reader_took}
use Rattle.atspi_trace_laws.proofs.OfOrder.Shaped.{two_ends, new_app, new_reader, app_joined, bus_takes_over, bus_ends_over, edits_over, app_takes_over, calls_over, stopping_over, registry_over, reader_over}

-- an end of the party is there, and not here
pub record IsGone (w : World) (who : Party) : Type 0 where
  pub conn : ℕ
  pub e : End
  pub there : end_at w.ends conn ≡ Some e
  pub whose : e.who ≡ who
  pub gone : is_here e.standing ≡ false

-- an end that is gone is gone afterwards
pub there_after : (a b : List End) (k : ℕ) (e : End) → Over Lasts a b → end_at a k ≡ Some e → (d : End) × (end_at b k ≡ Some d) × Lasts e d
there_after a b k e o h =
    let below : k < length b = subst (λ n. k < n) (sym o.size) (at_below a k e h) in
    let at : end_at b k ≡ Some (get_or b k e) = slice_get-get_or b k e below in
    let x = o.back k (get_or b k e) at in
    let same : x.0 ≡ e = same_some x.0 e (sym x.1 ∙ h) in
    (get_or b k e, at, subst (λ y. Lasts y (get_or b k e)) same x.2)

pub gone_over : (w v : World) (who : Party) → Over Lasts w.ends v.ends → IsGone w who → IsGone v who
gone_over w v who o g =
    let d = there_after w.ends v.ends g.conn g.e o g.there in
    record { conn = g.conn; e = d.0; there = d.1; whose = d.2.whose ∙ g.whose; gone = d.2.gone g.gone }

pub at_front : (ends : List End) (n : End) (k : ℕ) (e : End) → end_at ends k ≡ Some e → end_at (ends ++ n ∷ []) k ≡ Some e
at_front [] n k e h = absurd (no_none e h)
at_front (x ∷ xs) n zero e h = h
at_front (x ∷ xs) n (suc k) e h = at_front xs n k e h

pub gone_joined : (w v : World) (n : End) (who : Party) → v.ends ≡ w.ends ++ n ∷ [] → IsGone w who → IsGone v who
gone_joined w v n who h g = record { conn = g.conn; e = g.e; there = ap (λ es. end_at es g.conn) h ∙ at_front w.ends n g.conn g.e g.there; whose = g.whose; gone = g.gone }

pub gone_same : (w v : World) (who : Party) → v.ends ≡ w.ends → IsGone w who → IsGone v who
gone_same w v who h g = record { conn = g.conn; e = g.e; there = ap (λ es. end_at es g.conn) h ∙ g.there; whose = g.whose; gone = g.gone }

no_reset : (w : World) (who : Party) → Shape w → nat_lt 1 (length w.ends) ≡ false → IsGone w who → ⊥
no_reset w who s few g =
    let two : 2 ≤ length w.ends = two_ends w g.conn g.e s g.there (λ h. false_true (sym g.gone ∙ ap (λ (x : End). is_here x.standing) h)) in
    let less : length w.ends ≤ 1 = ltb-false 1 (length w.ends) few in
    omega (arith, two, less)

pub gone_kept : (w : World) (d : Done) (who : Party) → Shape w → Effect w d → IsGone w who → IsGone d.world who
gone_kept w d who s (resets quota few is) g = absurd (no_reset w who s few g)
gone_kept w d who s (app_joins name short is) g = subst (λ x. IsGone x.world who) (sym is) (gone_joined w (app_starts w name).world (new_app w name) who (app_joined w name) g)
gone_kept w d who s (reader_joins few is) g = subst (λ x. IsGone x.world who) (sym is) (gone_joined w (reader_starts w).world (new_reader w) who refl g)
gone_kept w d who s (app_edited b) g = gone_over w d.world who (edits_over w d b) g
gone_kept w d who s (app_took b) g = gone_over w d.world who (app_takes_over w d b) g
gone_kept w d who s (reader_called b) g = gone_over w d.world who (calls_over w d b) g
gone_kept w d who s (swapped b) g = gone_same w d.world who (ap (λ x. x.world.ends) b.is) g
gone_kept w d who s (exited_ b) g = gone_over w d.world who (stopping_over w d b) g
gone_kept w d who s (showed_ b) g = gone_same w d.world who (ap (λ x. x.world.ends) b.is) g
gone_kept w d who s (told_busy turns is) g = gone_same w d.world who (ap (λ x. x.world.ends) is) g
gone_kept w d who s (told_quiet none is) g = gone_same w d.world who (ap (λ x. x.world.ends) is) g
gone_kept w d who s (bus_took b) g = gone_over w d.world who (bus_takes_over w d b) g
gone_kept w d who s (bus_ended b) g = gone_over w d.world who (bus_ends_over w d b) g
gone_kept w d who s (registry_took b) g = gone_over w d.world who (registry_over w d b) g
gone_kept w d who s (reader_took b) g = gone_over w d.world who (reader_over w d b) g
