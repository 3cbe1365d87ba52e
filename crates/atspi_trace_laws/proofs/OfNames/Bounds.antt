-- How many ends there are, along a lawful trace.
use Rattle.std.proofs.Common.{◌≡◌, ◌⊎◌, inl, inr, ℕ, suc, ◌+◌, ◌≤◌, ◌<◌, Bool, true, false, List, [], ◌∷◌, ◌++◌, length, refl, sym, ap, ◌∙◌, subst, arith}
use Rattle.std.specs.Prelude.{filter, if◌then◌else◌}
use Rattle.std.proofs.lemmas.Bool.{leb-false}
use Rattle.atspi_script_lines.specs.declared.limits.TheConstants.{APP_COUNT, READER_COUNT, QUOTA_MOST}
use Rattle.atspi_script_lines.specs.declared.line.Party.{Party}
use Rattle.atspi_trace.specs.Entry.{Entry}
use Rattle.atspi_trace.specs.World.{first_world, End, World}
use Rattle.atspi_trace.specs.Ends.{is_app, is_reader, app_count, reader_count}
use Rattle.atspi_trace.specs.Causes.{Done, at_end}
use Rattle.atspi_trace.specs.Due.{asks_at}
use Rattle.atspi_trace_laws.proofs.OfOrder.Allowed.{MovedUp, MovedDown}
use Rattle.atspi_trace_laws.proofs.OfOrder.Frame.{Over, over_same}
use Rattle.atspi_trace_laws.proofs.OfOrder.Shape.{Lasts, lasting, counts}
use Rattle.atspi_trace_laws.proofs.OfOrder.Effects.{Effect, resets, app_joins, reader_joins, app_edited, app_took, reader_called, swapped, exited_, showed_, told_busy, told_quiet, bus_took, bus_ended, registry_took, reader_took}
use Rattle.atspi_trace_laws.proofs.OfOrder.Shaped.{new_app, new_reader, app_joined, bus_takes_over, bus_ends_over, edits_over, app_takes_over, calls_over, stopping_over, registry_over, reader_over, up_moved_over, down_moved_over, asked_over}
use Rattle.atspi_trace_laws.proofs.OfOrder.Along.{Keeps}
use Rattle.atspi_trace_laws.proofs.OfOrder.Growing.{Grows, Shaped, shaped_keeps, Nothing, And, grown}

abbrev pub Fits : World → Type 0
Fits w = (app_count w.ends ≤ 16) × (reader_count w.ends ≤ 4) × (length w.ends ≤ suc (app_count w.ends + reader_count w.ends))

abbrev pub Bounded : List Entry → World → Type 0
Bounded es w = Fits w

fits_over : (w v : World) → Over Lasts w.ends v.ends → Fits w → Fits v
fits_over w v o f =
    let apps : app_count v.ends ≡ app_count w.ends = counts is_app w.ends v.ends o.size (λ k d h. let e = o.back k d h in (e.0, e.1, e.2.whose)) in
    let readers : reader_count v.ends ≡ reader_count w.ends = counts is_reader w.ends v.ends o.size (λ k d h. let e = o.back k d h in (e.0, e.1, e.2.whose)) in
    let size : length v.ends ≡ length w.ends = o.size in
    let few : app_count w.ends ≤ 16 = f.0 in
    let less : reader_count w.ends ≤ 4 = f.1 in
    let all : length w.ends ≤ suc (app_count w.ends + reader_count w.ends) = f.2 in
    (omega (arith, apps, few), omega (arith, readers, less), omega (arith, apps, readers, size, all))

same_ends : (w : World) (d : Done) → d.world.ends ≡ w.ends → Over Lasts w.ends d.world.ends
same_ends w d h = subst (Over Lasts w.ends) (sym h) (over_same Lasts lasting w.ends)

abbrev one : Bool → ℕ
one true = 1
one false = 0

counted_last : (p : Party → Bool) (xs : List End) (n : End) → length (filter (λ (e : End). p e.who) (xs ++ n ∷ [])) ≡ length (filter (λ (e : End). p e.who) xs) + one (p n.who)
counted_last p [] n = by (p n.who)
  where
    by : (t : Bool) → length (if t then n ∷ [] else []) ≡ 0 + one t
    by true = omega arith
    by false = omega arith
counted_last p (x ∷ xs) n = by (p x.who) (counted_last p xs n)
  where
    more : (a b c : ℕ) → a ≡ b + c → suc a ≡ suc b + c
    more a b c h = omega (arith, h)

    by : (t : Bool) → length (filter (λ (e : End). p e.who) (xs ++ n ∷ [])) ≡ length (filter (λ (e : End). p e.who) xs) + one (p n.who)
        → length (if t then x ∷ filter (λ (e : End). p e.who) (xs ++ n ∷ []) else filter (λ (e : End). p e.who) (xs ++ n ∷ []))
        ≡ length (if t then x ∷ filter (λ (e : End). p e.who) xs else filter (λ (e : End). p e.who) xs) + one (p n.who)
    by true h = more _ _ _ h
    by false h = h

length_last : (xs : List End) (n : End) → length (xs ++ n ∷ []) ≡ suc (length xs)
length_last [] n = refl
length_last (x ∷ xs) n = ap suc (length_last xs n)

joined_app : (w v : World) (n : End) → v.ends ≡ w.ends ++ n ∷ [] → is_app n.who ≡ true → is_reader n.who ≡ false → app_count w.ends < 16 → Fits w → Fits v
joined_app w v n is a r room f =
    let apps : app_count v.ends ≡ app_count w.ends + 1 = ap app_count is ∙ counted_last is_app w.ends n ∙ ap (λ t. app_count w.ends + one t) a in
    let readers : reader_count v.ends ≡ reader_count w.ends + 0 = ap reader_count is ∙ counted_last is_reader w.ends n ∙ ap (λ t. reader_count w.ends + one t) r in
    let size : length v.ends ≡ suc (length w.ends) = ap length is ∙ length_last w.ends n in
    let less : reader_count w.ends ≤ 4 = f.1 in
    let all : length w.ends ≤ suc (app_count w.ends + reader_count w.ends) = f.2 in
    (omega (arith, apps, room), omega (arith, readers, less), omega (arith, apps, readers, size, all))

joined_reader : (w v : World) (n : End) → v.ends ≡ w.ends ++ n ∷ [] → is_app n.who ≡ false → is_reader n.who ≡ true → reader_count w.ends < 4 → Fits w → Fits v
joined_reader w v n is a r room f =
    let apps : app_count v.ends ≡ app_count w.ends + 0 = ap app_count is ∙ counted_last is_app w.ends n ∙ ap (λ t. app_count w.ends + one t) a in
    let readers : reader_count v.ends ≡ reader_count w.ends + 1 = ap reader_count is ∙ counted_last is_reader w.ends n ∙ ap (λ t. reader_count w.ends + one t) r in
    let size : length v.ends ≡ suc (length w.ends) = ap length is ∙ length_last w.ends n in
    let few : app_count w.ends ≤ 16 = f.0 in
    let all : length w.ends ≤ suc (app_count w.ends + reader_count w.ends) = f.2 in
    (omega (arith, apps, few), omega (arith, readers, room), omega (arith, apps, readers, size, all))

first_fits : (quota : ℕ) → Fits (first_world quota)
first_fits quota = (omega arith, omega arith, omega arith)

caused : (es : List Entry) (w : World) (d : Done) → Fits w → Effect w d → Fits d.world
caused es w d f (resets quota few is) = subst (λ x. Fits x.world) (sym is) (first_fits quota)
caused es w d f (app_joins name short is) = joined_app w d.world (new_app w name) (ap (λ x. x.world.ends) is ∙ app_joined w name) refl refl (leb-false APP_COUNT (app_count w.ends) short.1) f
caused es w d f (reader_joins few is) = joined_reader w d.world (new_reader w) (ap (λ x. x.world.ends) is) refl refl (leb-false READER_COUNT (reader_count w.ends) few) f
caused es w d f (app_edited b) = fits_over w d.world (edits_over w d b) f
caused es w d f (app_took b) = fits_over w d.world (app_takes_over w d b) f
caused es w d f (reader_called b) = fits_over w d.world (calls_over w d b) f
caused es w d f (swapped b) = fits_over w d.world (same_ends w d (ap (λ x. x.world.ends) b.is)) f
caused es w d f (exited_ b) = fits_over w d.world (stopping_over w d b) f
caused es w d f (showed_ b) = fits_over w d.world (same_ends w d (ap (λ x. x.world.ends) b.is)) f
caused es w d f (told_busy turns is) = fits_over w d.world (same_ends w d (ap (λ x. x.world.ends) is)) f
caused es w d f (told_quiet none is) = fits_over w d.world (same_ends w d (ap (λ x. x.world.ends) is)) f
caused es w d f (bus_took b) = fits_over w d.world (bus_takes_over w d b) f
caused es w d f (bus_ended b) = fits_over w d.world (bus_ends_over w d b) f
caused es w d f (registry_took b) = fits_over w d.world (registry_over w d b) f
caused es w d f (reader_took b) = fits_over w d.world (reader_over w d b) f

bounds_grow : Grows Nothing Bounded
bounds_grow = record {
  begins = first_fits QUOTA_MOST;
  caused = λ es w d s a f e after x. caused es w d f e;
  moved = λ es w v s a f m. by w v f m;
  asked = λ es w conn r m question s a f asks. fits_over w (at_end w conn (asks_at m question)) (asked_over w conn r m question asks) f;
}
  where
    by : (w v : World) → Fits w → (MovedUp w v ⊎ MovedDown w v) → Fits v
    by w v f (inl m) = fits_over w v (up_moved_over w v m) f
    by w v f (inr m) = fits_over w v (down_moved_over w v m) f

pub bounds_keep : Keeps (Shaped (And Nothing Bounded))
bounds_keep = grown Nothing Bounded shaped_keeps bounds_grow
