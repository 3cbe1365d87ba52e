-- Who is here is live in the trace.
use Rattle.std.proofs.Common.{◌≡◌, ◌⊎◌, inl, inr, ℕ, zero, suc, Bool, true, false, List, [], ◌∷◌, ◌++◌, None, Some, refl, sym, ap, ◌∙◌, subst}
use Rattle.std.specs.Prelude.{Option, ◌||◌, ◌&&◌, not, length}
use Rattle.std.specs.List.{AllByRecursion, list_any}
use Rattle.atspi_script_lines.specs.declared.line.Party.{Party}
use Rattle.atspi_script_lines.specs.declared.line.Party.TheVariants.{Bus as The_bus, Registry, Reader}
use Rattle.atspi_trace.specs.Entry.{Entry, started, sent, exited, dropped}
use Rattle.atspi_trace.specs.World.{Role, first_registry, first_world, End, World}
use Rattle.atspi_trace.specs.Ends.{same_party, end_at}
use Rattle.atspi_trace.specs.Causes.{Done, at_end}
use Rattle.atspi_trace.specs.Due.{asks_at}
use Rattle.atspi_trace_laws.specs.laws.Words.{starts_it, stops_it, is_live}
use Rattle.atspi_trace_laws.proofs.OfOrder.Parties.{no_none, same_some, same-party, party-same}
use Rattle.atspi_trace_laws.proofs.OfOrder.Allowed.{MovedUp, MovedDown}
use Rattle.atspi_trace_laws.proofs.OfOrder.Frame.{Over, over_same, joined_cases}
use Rattle.atspi_trace_laws.proofs.OfOrder.Shape.{RoleFits, Lasts, lasting, Shape}
use Rattle.atspi_trace_laws.proofs.OfOrder.Effects.{Effect, resets, app_joins, reader_joins, app_edited, app_took, reader_called, swapped, exited_, showed_, told_busy, told_quiet, bus_took, bus_ended, registry_took, reader_took}
use Rattle.atspi_trace_laws.proofs.OfOrder.Shaped.{new_app, new_reader, app_joined, bus_takes_over, bus_ends_over, edits_over, app_takes_over, calls_over, stopping_over, registry_over, reader_over, up_moved_over, down_moved_over, asked_over}
use Rattle.atspi_trace_laws.proofs.OfOrder.Along.{Keeps}
use Rattle.atspi_trace_laws.proofs.OfOrder.Growing.{Grows, Shaped, Nothing, And, grown}
use Rattle.atspi_trace_laws.proofs.OfOrder.Gone.{IsGone}
use Rattle.atspi_trace_laws.proofs.OfOrder.Closed.{IsDropped}
use Rattle.atspi_trace_laws.proofs.OfOrder.Told.{Tells}
use Rattle.atspi_trace_laws.proofs.OfOrder.Acts.{IsActive}
use Rattle.atspi_trace_laws.proofs.OfOrder.Exits.{Out, Exited, not_active, exits_keep}

-- the ends after a cause: those before, and at most one that joined
pub data Ends_after (w : World) (d : Done) : Type 0 where
  lasting_ : Over Lasts w.ends d.world.ends → Ends_after w d
  joined_ : (n : End) (name : Option (List ℕ)) (rest : List Entry) → d.world.ends ≡ w.ends ++ n ∷ [] → d.entries ≡ started n.who name ∷ rest → Ends_after w d
  anew : (quota : ℕ) → d.world ≡ first_world quota → Ends_after w d

same_ends : (w : World) (d : Done) → d.world.ends ≡ w.ends → Ends_after w d
same_ends w d h = lasting_ (subst (Over Lasts w.ends) (sym h) (over_same Lasts lasting w.ends))

pub ends_after : (w : World) (d : Done) → Effect w d → Ends_after w d
ends_after w d (resets quota few is) = anew quota (ap (λ x. x.world) is)
ends_after w d (app_joins name short is) = joined_ (new_app w name) (Some name) _ (ap (λ x. x.world.ends) is ∙ app_joined w name) (ap (λ x. x.entries) is)
ends_after w d (reader_joins few is) = joined_ (new_reader w) None _ (ap (λ x. x.world.ends) is) (ap (λ x. x.entries) is)
ends_after w d (app_edited b) = lasting_ (edits_over w d b)
ends_after w d (app_took b) = lasting_ (app_takes_over w d b)
ends_after w d (reader_called b) = lasting_ (calls_over w d b)
ends_after w d (swapped b) = same_ends w d (ap (λ x. x.world.ends) b.is)
ends_after w d (exited_ b) = lasting_ (stopping_over w d b)
ends_after w d (showed_ b) = same_ends w d (ap (λ x. x.world.ends) b.is)
ends_after w d (told_busy turns is) = same_ends w d (ap (λ x. x.world.ends) is)
ends_after w d (told_quiet none is) = same_ends w d (ap (λ x. x.world.ends) is)
ends_after w d (bus_took b) = lasting_ (bus_takes_over w d b)
ends_after w d (bus_ended b) = lasting_ (bus_ends_over w d b)
ends_after w d (registry_took b) = lasting_ (registry_over w d b)
ends_after w d (reader_took b) = lasting_ (reader_over w d b)

-- a test of lists
or_true : (a b : Bool) → b ≡ true → (a || b) ≡ true
or_true true b h = refl
or_true false b h = h

pub any_more : (p : Entry → Bool) (xs ys : List Entry) → list_any p xs ≡ true → list_any p (xs ++ ys) ≡ true
any_more p [] ys h = absurd (no h)
  where
    no : false ≡ true → ⊥
    no z = cc
any_more p (x ∷ xs) ys h = by (p x) (λ g. any_more p xs ys g) h
  where
    by : (b : Bool) → (list_any p xs ≡ true → list_any p (xs ++ ys) ≡ true) → (b || list_any p xs) ≡ true → (b || list_any p (xs ++ ys)) ≡ true
    by true f g = refl
    by false f g = f g

pub any_here : (p : Entry → Bool) (xs : List Entry) (y : Entry) (ys : List Entry) → p y ≡ true → list_any p (xs ++ y ∷ ys) ≡ true
any_here p [] y ys h = ap (λ b. b || list_any p ys) h
any_here p (x ∷ xs) y ys h = or_true (p x) (list_any p (xs ++ y ∷ ys)) (any_here p xs y ys h)

-- each end started, but the registry, which was there
abbrev pub HasStarted : List Entry → Party → Type 0
HasStarted es who = (same_party who Registry || list_any (starts_it who) es) ≡ true

started_more : (es ys : List Entry) (who : Party) → HasStarted es who → HasStarted (es ++ ys) who
started_more es ys who h = by (same_party who Registry) h
  where
    by : (b : Bool) → (b || list_any (starts_it who) es) ≡ true → (b || list_any (starts_it who) (es ++ ys)) ≡ true
    by true g = refl
    by false g = any_more (starts_it who) es ys g

started_now : (es rest : List Entry) (who : Party) (name : Option (List ℕ)) → HasStarted (es ++ started who name ∷ rest) who
started_now es rest who name = or_true (same_party who Registry) (list_any (starts_it who) (es ++ started who name ∷ rest)) (any_here (starts_it who) es (started who name) rest (party-same who))

abbrev pub Started : List Entry → World → Type 0
Started es w = (k : ℕ) (e : End) → end_at w.ends k ≡ Some e → HasStarted es e.who

started_over : (es ys : List Entry) (a b : List End) → Over Lasts a b → ((k : ℕ) (e : End) → end_at a k ≡ Some e → HasStarted es e.who) → (k : ℕ) (e : End) → end_at b k ≡ Some e → HasStarted (es ++ ys) e.who
started_over es ys a b o f k e h =
    let x = o.back k e h in
    subst (HasStarted (es ++ ys)) (sym x.2.whose) (started_more es ys x.0.who (f k x.0 x.1))

only_registry : (k : ℕ) (e : End) → end_at (first_registry ∷ []) k ≡ Some e → (es : List Entry) → HasStarted es e.who
only_registry zero e h es = subst (λ (x : End). HasStarted es x.who) (same_some first_registry e h) refl
only_registry (suc k) e h es = absurd (no_none e h)

started_kept : (es : List Entry) (w : World) (d : Done) → Started es w → Ends_after w d → Started (es ++ d.entries) d.world
started_kept es w d f (lasting_ o) = started_over es d.entries w.ends d.world.ends o f
started_kept es w d f (anew quota is) = λ k e h. only_registry k e (sym (ap (λ (x : World). end_at x.ends k) is) ∙ h) (es ++ d.entries)
started_kept es w d f (joined_ n name rest is wrote) =
    λ k e h. by k e (joined_cases w.ends n k e (sym (ap (λ es. end_at es k) is) ∙ h))
  where
    by : (k : ℕ) (e : End) → ((end_at w.ends k ≡ Some e) ⊎ ((k ≡ length w.ends) × (e ≡ n))) → HasStarted (es ++ d.entries) e.who
    by k e (inl h) = started_more es d.entries e.who (f k e h)
    by k e (inr h) =
        subst (λ (x : End). HasStarted (es ++ d.entries) x.who) (sym h.1)
        (subst (λ l. HasStarted (es ++ l) n.who) (sym wrote) (started_now es rest n.who name))

starts_grow : Grows (And (And Nothing Tells) Exited) Started
starts_grow = record {
  begins = λ k e h. only_registry k e h [];
  caused = λ es w d s a f e after b. started_kept es w d f (ends_after w d e);
  moved = λ es w v s a f m. by es w v f m;
  asked = λ es w conn r m question s a f asks.
      started_over es (sent (Reader r) m ∷ []) w.ends (at_end w conn (asks_at m question)).ends (asked_over w conn r m question asks) f;
}
  where
    same : (es : List Entry) (w v : World) → Over Lasts w.ends v.ends → Started es w → Started es v
    same es w v o f k e h = let x = o.back k e h in subst (HasStarted es) (sym x.2.whose) (f k x.0 x.1)

    by : (es : List Entry) (w v : World) → Started es w → (MovedUp w v ⊎ MovedDown w v) → Started es v
    by es w v f (inl m) = same es w v (up_moved_over w v m) f
    by es w v f (inr m) = same es w v (down_moved_over w v m) f

pub starts_keep : Keeps (Shaped (And (And (And Nothing Tells) Exited) Started))
starts_keep = grown (And (And Nothing Tells) Exited) Started exits_keep starts_grow

-- nobody that is here has stopped
not_party : (w : World) (who : Party) → Shape w → IsActive w who → The_bus ≡ who → ⊥
not_party w who s a h = by a.e.role (subst (λ p. RoleFits p a.e.role) (a.whose ∙ sym h) (s.roles a.conn a.e a.there))
  where
    by : (role : Role) → RoleFits The_bus role → ⊥
    by role f = f

not_stopped : (w : World) (who : Party) → Shape w → IsActive w who → (es : List Entry) → AllByRecursion (Out w) es → list_any (stops_it who) es ≡ false
not_stopped w who s a [] o = refl
not_stopped w who s a (x ∷ es) o = by x o.0 (not_stopped w who s a es o.1)
  where
    no : (other : Party) → (other ≡ who → ⊥) → (rest : Bool) → rest ≡ false → (same_party other who || rest) ≡ false
    no other f rest h = at (same_party other who) refl
      where
        at : (b : Bool) → same_party other who ≡ b → (b || rest) ≡ false
        at true g = absurd (f (same-party other who g))
        at false g = h

    gone : (other : Party) → IsDropped w other → other ≡ who → ⊥
    gone other (inl bus) h = not_party w who s a (sym bus ∙ h)
    gone other (inr g) h = not_active w who s a (subst (IsGone w) h g)

    by : (entry : Entry) → Out w entry → list_any (stops_it who) es ≡ false → (stops_it who entry || list_any (stops_it who) es) ≡ false
    by (exited other) g h = no other (λ e. not_active w who s a (subst (IsGone w) e g)) (list_any (stops_it who) es) h
    by (dropped other queued len) g h = no other (gone other g) (list_any (stops_it who) es) h
    by entry g h = h

pub here_lives : (es : List Entry) (w : World) (who : Party) → Shape w → AllByRecursion (Out w) es → Started es w → IsActive w who → is_live es who ≡ true
here_lives es w who s o f a =
    let begun : HasStarted es who = subst (HasStarted es) a.whose (f a.conn a.e a.there) in
    let going : not (list_any (stops_it who) es) ≡ true = ap not (not_stopped w who s a es o) in
    ap (λ b. b && not (list_any (stops_it who) es)) begun ∙ going
