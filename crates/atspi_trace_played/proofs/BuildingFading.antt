-- Who is not here is not here again, and nobody stops by what the bus does or what an end takes: so of the turns that write nothing each takes one end from those that stopped.
use Rattle.std.proofs.Common.{◌≡◌, ℕ, zero, suc, ◌<◌, ◌≤◌, Bool, true, false, List, [], ◌∷◌, length, Option, None, Some, refl, sym, ap, ◌∙◌, subst, arith, cond}
use Rattle.std.specs.Prelude.{filter, if◌then◌else◌}
use Rattle.atspi_script_lines.specs.declared.line.Party.{Party}
use Rattle.atspi_match.specs.routing.Queues.{without_queue}
use Rattle.atspi_match.specs.routing.Steps.{bus_leaves}
use Rattle.atspi_trace.specs.World.{Standing, here, stopped, away, Said, End, World}
use Rattle.atspi_trace.specs.Ends.{is_here, end_at, with_end, leaves}
use Rattle.atspi_trace.specs.Carrying.{own_letter, Carried, left, takes_end}
use Rattle.atspi_trace.specs.Causes.{Cause, routes, unjoins, gets, tells_busy, tells_quiet, routed, on_end, does}
use Rattle.atspi_trace.specs.Due.{is_lost}
use Rattle.atspi_trace_laws.proofs.OfOrder.Parties.{no_none, same_some, false_true}
use Rattle.atspi_trace_laws.proofs.OfOrder.Frame.{Over, IsOrder, over_same, over_both, over_with, takes_over, ends_over, settled_over, stepped_over}
use Rattle.atspi_trace_played.proofs.BuildingStanding.{gets_over}

pub record Fades (e d : End) : Type 0 where
  pub gone : is_here e.standing ≡ false → is_here d.standing ≡ false
  pub stop : d.standing ≡ stopped → e.standing ≡ stopped

pub fading : IsOrder Fades
fading = record {
  same = λ e. record { gone = λ h. h; stop = λ h. h };
  both = λ e d c f g. record { gone = λ h. g.gone (f.gone h); stop = λ h. f.stop (g.stop h) };
}

away_no : away ≡ stopped → ⊥
away_no h = cc

-- a change that leaves the standing, and leaving
pub as_it_stands : (e d : End) → d.standing ≡ e.standing → Fades e d
as_it_stands e d h = record { gone = λ g. ap is_here h ∙ g; stop = λ g. sym h ∙ g }

leaves_fades : (e : End) → Fades e (leaves e)
leaves_fades e = record { gone = λ h. refl; stop = λ h. absurd (away_no h) }

-- WHAT A TURN DOES
abbrev pub IsTurn : Cause → Type 0
IsTurn (routes conn) = Unit {0}
IsTurn (unjoins conn) = Unit {0}
IsTurn (gets conn) = Unit {0}
IsTurn c = ⊥

abbrev pub IsQuietTurn : Cause → Type 0
IsQuietTurn (tells_busy turns) = Unit {0}
IsQuietTurn tells_quiet = Unit {0}
IsQuietTurn c = IsTurn c

routed_over : (w : World) (conn : ℕ) (who : Party) (link : List Said) → Over Fades w.ends (routed w conn who link).world.ends
routed_over w conn who [] = over_same Fades fading w.ends
routed_over w conn who (said ∷ rest) =
    takes_over Fades fading (λ m e. as_it_stands e _ refl) leaves_fades (λ b k e. as_it_stands e _ refl) (λ e. as_it_stands e _ refl) (record { bus = w.bus; ends = w.ends }) conn who said
    (λ m e. as_it_stands e _ refl)

routes_over : (w : World) (conn : ℕ) (o : Option End) → Over Fades w.ends (on_end w o (λ e. routed w conn e.who e.up)).world.ends
routes_over w conn None = over_same Fades fading w.ends
routes_over w conn (Some e) = routed_over w conn e.who e.up

pub turn_over : (w : World) (c : Cause) → IsQuietTurn c → Over Fades w.ends (does w c).world.ends
turn_over w (routes conn) t = routes_over w conn (end_at w.ends conn)
turn_over w (gets conn) t = gets_over Fades fading as_it_stands w conn (end_at w.ends conn)
turn_over w (unjoins conn) t = ends_over Fades fading (λ m e. as_it_stands e _ refl) leaves_fades (record { bus = w.bus; ends = w.ends }) conn
turn_over w (tells_busy turns) t = over_same Fades fading w.ends
turn_over w tells_quiet t = over_same Fades fading w.ends
turn_over w c t = absurd t

-- THE REGISTRY: where it is here afterwards, it was here
pub here_before : (w v : World) → Over Fades w.ends v.ends → is_lost v ≡ false → is_lost w ≡ false
here_before w v o h = by w.ends v.ends o h
  where
    at : (s t : Standing) → (is_here s ≡ false → is_here t ≡ false) → (if is_here t then false else true) ≡ false → (if is_here s then false else true) ≡ false
    at here t f g = refl
    at stopped t f g = absurd (false_true (sym g ∙ ap (λ b. if b then false else true) (f refl)))
    at away t f g = absurd (false_true (sym g ∙ ap (λ b. if b then false else true) (f refl)))

    by : (xs ys : List End) → Over Fades xs ys → is_lost (record v { ends = ys }) ≡ false → is_lost (record w { ends = xs }) ≡ false
    by [] ys r g = refl
    by (x ∷ xs) [] r g = let size : 0 ≡ suc (length xs) = r.size in absurd (omega (arith, size))
    by (x ∷ xs) (y ∷ ys) r g =
        let b = r.back 0 y refl in
        at x.standing y.standing (subst (λ (e : End). is_here e.standing ≡ false → is_here y.standing ≡ false) (sym (same_some x b.0 b.1)) b.2.gone) g

-- HOW MANY STOPPED
abbrev pub is_stopped : Standing → Bool
is_stopped stopped = true
is_stopped standing = false

abbrev pub stopped_count : List End → ℕ
stopped_count ends = length (filter (λ (e : End). is_stopped e.standing) ends)

abbrev count_of : Bool → ℕ → ℕ
count_of true n = suc n
count_of false n = n

counted : (e : End) (es : List End) → stopped_count (e ∷ es) ≡ count_of (is_stopped e.standing) (stopped_count es)
counted e es = by (is_stopped e.standing)
  where
    by : (b : Bool) → length (cond b (e ∷ filter (λ (e : End). is_stopped e.standing) es) (filter (λ (e : End). is_stopped e.standing) es)) ≡ count_of b (stopped_count es)
    by true = refl
    by false = refl

pub count_most : (es : List End) → stopped_count es ≤ length es
count_most [] = omega arith
count_most (e ∷ es) = subst (λ n. n ≤ suc (length es)) (sym (counted e es)) (by (is_stopped e.standing) (count_most es))
  where
    by : (b : Bool) → stopped_count es ≤ length es → count_of b (stopped_count es) ≤ suc (length es)
    by true h = omega (arith, h)
    by false h = omega (arith, h)

was_stopped : (s : Standing) → is_stopped s ≡ true → s ≡ stopped
was_stopped stopped h = refl
was_stopped here h = absurd (false_true h)
was_stopped away h = absurd (false_true h)

pub count_over : (xs ys : List End) → Over Fades xs ys → stopped_count ys ≤ stopped_count xs
count_over xs [] o = omega arith
count_over [] (y ∷ ys) o = let size : suc (length ys) ≡ 0 = o.size in absurd (omega (arith, size))
count_over (x ∷ xs) (y ∷ ys) o =
    let b = o.back 0 y refl in
    let size : suc (length ys) ≡ suc (length xs) = o.size in
    let same : length ys ≡ length xs = omega (arith, size) in
    let rest = count_over xs ys (record { size = same; back = λ k d h. o.back (suc k) d h }) in
    let stops : y.standing ≡ stopped → x.standing ≡ stopped = subst (λ (e : End). y.standing ≡ stopped → e.standing ≡ stopped) (sym (same_some x b.0 b.1)) b.2.stop in
    subst (λ n. n ≤ stopped_count (x ∷ xs)) (sym (counted y ys)) (subst (λ n. count_of (is_stopped y.standing) (stopped_count ys) ≤ n) (sym (counted x xs))
    (by (is_stopped y.standing) (is_stopped x.standing) (λ h. ap is_stopped (stops (was_stopped y.standing h))) rest))
  where
    by : (b c : Bool) → (b ≡ true → c ≡ true) → stopped_count ys ≤ stopped_count xs → count_of b (stopped_count ys) ≤ count_of c (stopped_count xs)
    by true true f h = omega (arith, h)
    by true false f h = absurd (false_true (f refl))
    by false true f h = omega (arith, h)
    by false false f h = h

count_left : (ends : List End) (conn : ℕ) (e : End) → end_at ends conn ≡ Some e → e.standing ≡ stopped → stopped_count (with_end conn leaves ends) < stopped_count ends
count_left [] conn e h s = absurd (no_none e h)
count_left (x ∷ xs) zero e h s =
    let more : stopped_count (x ∷ xs) ≡ suc (stopped_count xs) = counted x xs ∙ ap (λ t. count_of (is_stopped t) (stopped_count xs)) (ap (λ (y : End). y.standing) (same_some x e h) ∙ s) in
    let less : stopped_count (leaves x ∷ xs) ≡ stopped_count xs = counted (leaves x) xs in
    omega (arith, more, less)
count_left (x ∷ xs) (suc conn) e h s =
    subst (λ n. n < stopped_count (x ∷ xs)) (sym (counted x (with_end conn leaves xs))) (subst (λ n. count_of (is_stopped x.standing) (stopped_count (with_end conn leaves xs)) < n) (sym (counted x xs))
    (by (is_stopped x.standing) (count_left xs conn e h s)))
  where
    by : (b : Bool) → stopped_count (with_end conn leaves xs) < stopped_count xs → count_of b (stopped_count (with_end conn leaves xs)) < count_of b (stopped_count xs)
    by true g = omega (arith, g)
    by false g = g

-- an end that stopped is taken
pub count_ended : (w : World) (conn : ℕ) (e : End) → end_at w.ends conn ≡ Some e → e.standing ≡ stopped → stopped_count (does w (unjoins conn)).world.ends < stopped_count w.ends
count_ended w conn e h s =
    let c : Carried = record { bus = w.bus; ends = w.ends } in
    let first = count_left w.ends conn e h s in
    let second = count_over (with_end conn leaves w.ends) (left c conn).ends (stepped_over Fades fading own_letter (λ m e. as_it_stands e _ refl)
    (record { bus = record c.bus { waiting = without_queue c.bus.waiting conn }; ends = with_end conn leaves w.ends }) (bus_leaves c.bus.state conn)) in
    let third = count_over (left c conn).ends (takes_end c conn).ends (settled_over Fades fading (λ m e. as_it_stands e _ refl) leaves_fades (length c.bus.state.joined) (left c conn)) in
    omega (arith, first, second, third)
