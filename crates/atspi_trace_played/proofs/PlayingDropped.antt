-- Where the registry is lost, that it was dropped is the last that is written.
use Rattle.std.proofs.Common.{◌≡◌, ℕ, zero, suc, Bool, true, false, List, [], ◌∷◌, ◌++◌, Option, None, Some, refl, sym, ap, ◌∙◌, subst}
use Rattle.std.specs.Prelude.{not, ◌||◌, if◌then◌else◌}
use Rattle.std.specs.List.{AllByRecursion, list_any}
use Rattle.std.proofs.lemmas.List.{append_assoc}
use Rattle.atspi_script_lines.specs.declared.line.Line.{Line}
use Rattle.atspi_script_lines.specs.declared.line.Party.TheVariants.{Bus as The_bus, Registry}
use Rattle.atspi_trace.specs.Entry.{Entry, dropped}
use Rattle.atspi_trace.specs.World.{here, End, World}
use Rattle.atspi_trace.specs.Ends.{is_here, end_at}
use Rattle.atspi_trace.specs.Causes.{Cause, renews, starts_app, starts_reader, edits, calls, swaps_face, exits, shows, tells_busy, tells_quiet, routes, unjoins, gets, does}
use Rattle.atspi_trace.specs.Work.{Work, work_of, cause, next_of}
use Rattle.atspi_trace.specs.Due.{is_lost}
use Rattle.atspi_trace_laws.specs.laws.Words.{stops_it, is_live}
use Rattle.atspi_trace_laws.specs.order.Scripts.{CanAllStand}
use Rattle.atspi_trace_laws.proofs.OfOrder.Acts.{IsActive, acts}
use Rattle.atspi_trace_laws.proofs.OfOrder.Allowed.{NextFine}
use Rattle.atspi_trace_laws.proofs.OfOrder.Effects.{effect}
use Rattle.atspi_trace_laws.proofs.OfOrder.Growing.{Shaped, Nothing, And}
use Rattle.atspi_trace_laws.proofs.OfOrder.Next.{next_fine}
use Rattle.atspi_trace_laws.proofs.OfOrder.Parties.{no_none, same_some, false_true}
use Rattle.atspi_trace_laws.proofs.OfOrder.Shape.{Shape}
use Rattle.atspi_trace_laws.proofs.OfOrder.Told.{Tells, told_keeps}
use Rattle.atspi_trace_laws.proofs.OfLost.Alive.{OnlyDrops, written_only}
use Rattle.atspi_trace_laws.proofs.OfLost.Drops.{is_drop, DropsLast, cause_owes}
use Rattle.atspi_trace_laws.proofs.OfQuiet.Here.{Present, present_keeps}
use Rattle.atspi_trace_caches.proofs.OfSettled.Settling_law.{registry_is_live}
use Rattle.atspi_trace.specs.play.Playing.{Playing}
use Rattle.atspi_trace.specs.play.Plays.{plays}
use Rattle.atspi_trace.specs.play.Played.{refused, IsPlayed}
use Rattle.atspi_trace.specs.play.Breaking.{IsAtWork, does_next, IsLostAt}
use Rattle.atspi_trace_played.proofs.Pieces.{Pieces}
use Rattle.atspi_trace_played.proofs.BuildingCourse.{kept_so}
use Rattle.atspi_trace_played.proofs.Playing.{line_stage}
use Rattle.atspi_trace_played.proofs.PlayingBroken.{starts_lives, calls_lives, gets_lives, so_far_stage}
use Rattle.atspi_trace_played.proofs.PlayingStage.{Stage, ground, shape, allowed, course_behind}
use Rattle.atspi_trace_played.proofs.PlayingSteps.{renews_step, show_step}

-- entries end with the registry's drop
abbrev EndsWithDrop : List Entry → Type 0
EndsWithDrop entries = (front : List Entry) × (queued : ℕ) × (len : ℕ) × (entries ≡ front ++ dropped Registry queued len ∷ [])

-- who is active as the registry is at the first connection, and here
active_here : (v : World) → Shape v → IsActive v Registry → is_lost v ≡ false
active_here v s a = by v.ends (ap (end_at v.ends) first ∙ a.there)
  where
    first_end : (ends : List End) (k : ℕ) → end_at ends k ≡ Some a.e → (x : End) × (end_at ends 0 ≡ Some x)
    first_end [] zero h = absurd (no_none a.e h)
    first_end [] (suc k) h = absurd (no_none a.e h)
    first_end (x ∷ xs) k h = (x, refl)

    one : (x : End) × (end_at v.ends 0 ≡ Some x)
    one = first_end v.ends a.conn a.there

    first : 0 ≡ a.conn
    first = s.one 0 a.conn one.0 a.e one.1 a.there (s.registry one.0 one.1 ∙ sym a.whose)

    by : (ends : List End) → end_at ends 0 ≡ Some a.e → is_lost (record v { ends = ends }) ≡ false
    by [] h = absurd (no_none a.e h)
    by (x ∷ xs) h = ap (λ t. if is_here t then false else true) (ap (λ (y : End). y.standing) (same_some x a.e h) ∙ a.standing)

no_bus : Registry ≡ The_bus → ⊥
no_bus h = cc

not_false : (b : Bool) → not b ≡ false → b ≡ true
not_false true h = refl
not_false false h = absurd (false_true (sym h))

not_true : (b : Bool) → not b ≡ true → b ≡ false
not_true true h = absurd (false_true h)
not_true false h = refl

any_behind : (p : Entry → Bool) (xs ys : List Entry) → list_any p xs ≡ false → list_any p (xs ++ ys) ≡ true → list_any p ys ≡ true
any_behind p [] ys none h = h
any_behind p (x ∷ xs) ys none h = by (p x) (λ n g. any_behind p xs ys n g) none h
  where
    by : (b : Bool) → (list_any p xs ≡ false → list_any p (xs ++ ys) ≡ true → list_any p ys ≡ true) → (b || list_any p xs) ≡ false → (b || list_any p (xs ++ ys)) ≡ true → list_any p ys ≡ true
    by true f n g = absurd (false_true (sym n))
    by false f n g = f n g

-- the one that stops the registry is its drop, and behind that stands nothing
is_dropped : (y : Entry) (ys : List Entry) → is_drop y ≡ true → ys ≡ [] → EndsWithDrop (y ∷ ys)
is_dropped (dropped Registry queued len) ys d none = ([], queued, len, ap (λ l. dropped Registry queued len ∷ l) none)
is_dropped y ys d none = absurd (false_true d)

find_drop : (ys : List Entry) → DropsLast ys → AllByRecursion OnlyDrops ys → list_any (stops_it Registry) ys ≡ true → EndsWithDrop ys
find_drop [] d o h = absurd (false_true h)
find_drop (y ∷ ys) d o h = by (stops_it Registry y) refl h (λ g. find_drop ys d.1 o.1 g)
  where
    by : (b : Bool) → stops_it Registry y ≡ b → (b || list_any (stops_it Registry) ys) ≡ true → (list_any (stops_it Registry) ys ≡ true → EndsWithDrop ys) → EndsWithDrop (y ∷ ys)
    by true is g f = let drop : is_drop y ≡ true = sym o.0 ∙ is in is_dropped y ys drop (d.0 drop)
    by false is g f = let rest = f g in (y ∷ rest.0, rest.1, rest.2, ap (λ l. y ∷ l) rest.3)

module _ (pieces : Pieces) (script : List Line) (more : List Line) where
  module _ (es : List Entry) (p : Playing) (work rest : Work) where
    -- A CAUSE OF NO READER'S
    does_drop : (c : Cause) → Stage script es p work more → next_of p.world work ≡ cause c p.world rest → is_lost (does p.world c).world ≡ true → EndsWithDrop (does p.world c).entries
    does_drop c st is lost =
        let v : World = (does p.world c).world in
        let ys : List Entry = (does p.world c).entries in
        let g = ground script es p work more st in
        let told = g.kept (Shaped (And Nothing Tells)) told_keeps in
        let e = effect p.world c (shape pieces script es p work rest more c st is) (allowed pieces script es p work rest more c st is) in
        let after = kept_so (Shaped (And (And Nothing Tells) Present)) present_keeps (es ++ ys) v _ (course_behind pieces script es p work rest more c st is) in
        let live : is_live es Registry ≡ true = registry_is_live script es g.can g.goes g.nothing_owed p.world None g.kept st.here in
        let over : list_any (stops_it Registry) (es ++ ys) ≡ true = not_false (list_any (stops_it Registry) (es ++ ys)) (not_live v (es ++ ys) after.0 (λ h. after.1.1.1 Registry no_bus h h) lost) in
        find_drop ys (cause_owes p.world c told.0 told.1.1 e after.0).1 (written_only p.world (does p.world c) (acts p.world (does p.world c) told.0 told.1.1 e))
        (any_behind (stops_it Registry) es ys (not_true (list_any (stops_it Registry) es) live) over)
      where
        not_live : (v : World) (trace : List Entry) → Shape v → (is_live trace Registry ≡ true → IsActive v Registry) → is_lost v ≡ true → is_live trace Registry ≡ false
        not_live v trace s f lost = by (is_live trace Registry) refl
          where
            by : (b : Bool) → is_live trace Registry ≡ b → is_live trace Registry ≡ false
            by true h = absurd (false_true (sym (active_here v s (f h)) ∙ lost))
            by false h = h

    -- EACH CAUSE
    cause_drops : (c : Cause) → Stage script es p work more → next_of p.world work ≡ cause c p.world rest → is_lost (plays p c).now.world ≡ true → EndsWithDrop (plays p c).entries
    cause_drops (renews quota) st is lost = absurd (false_true (sym (renews_step pieces script es p work rest more quota st is).here ∙ lost))
    cause_drops (shows conn app) st is lost = absurd (false_true (sym (show_step pieces script es p work rest more conn app st is).here ∙ lost))
    cause_drops starts_reader st is lost = absurd (false_true (sym (starts_lives p st.here) ∙ lost))
    cause_drops (calls conn name node deed) st is lost = absurd (false_true (sym (calls_lives p conn name node deed st.here) ∙ lost))
    cause_drops (gets conn) st is lost = absurd (false_true (sym (gets_lives p conn st.here) ∙ lost))
    cause_drops (starts_app name) st is lost = does_drop (starts_app name) st is lost
    cause_drops (edits conn edit) st is lost = does_drop (edits conn edit) st is lost
    cause_drops swaps_face st is lost = does_drop swaps_face st is lost
    cause_drops (exits conn) st is lost = does_drop (exits conn) st is lost
    cause_drops (tells_busy turns) st is lost = does_drop (tells_busy turns) st is lost
    cause_drops tells_quiet st is lost = does_drop tells_quiet st is lost
    cause_drops (routes conn) st is lost = does_drop (routes conn) st is lost
    cause_drops (unjoins conn) st is lost = does_drop (unjoins conn) st is lost

  drops_at : (es : List Entry) (p : Playing) (v : World) (work rest : Work) (c : Cause) → v ≡ p.world → Stage script es p work more → next_of p.world work ≡ cause c v rest
      → is_lost (plays (record p { world = v }) c).now.world ≡ true → EndsWithDrop (plays (record p { world = v }) c).entries
  drops_at es p v work rest c same st is =
      subst (λ x. is_lost (plays (record p { world = x }) c).now.world ≡ true → EndsWithDrop (plays (record p { world = x }) c).entries) (sym same)
      (cause_drops es p work rest c st (is ∙ ap (λ x. cause c x rest) same))

module _ (pieces : Pieces) where
  pub lost_drops : (lines : List Line) (es : List Entry) (p : Playing) (line : Line) (more : List Entry) → CanAllStand (lines ++ line ∷ []) → IsPlayed lines es p → refused p line ≡ None
      → IsLostAt p (work_of p.world line) more → EndsWithDrop more
  lost_drops lines es p line more can h ok x =
      let script : List Line = lines ++ line ∷ [] in
      let stage = so_far_stage pieces script [] es p (work_of p.world line) x.at.entries x.at.now x.at.last x.at.done (line_stage pieces lines es p h line [] ok can) x.at.lives in
      let fine : NextFine x.at.now.world (cause x.at.next x.at.moved x.at.rest) = subst (NextFine x.at.now.world) x.at.is_next (next_fine x.at.now.world x.at.last stage.midway.fine) in
      let d = drops_at pieces script [] (es ++ x.at.entries) x.at.now x.at.moved x.at.last x.at.rest x.at.next fine.0 stage x.at.is_next x.lost in
      (x.at.entries ++ d.0, d.1, d.2, x.wrote ∙ ap (λ l. x.at.entries ++ l) d.3 ∙ sym (append_assoc x.at.entries d.0 (dropped Registry d.1 d.2 ∷ [])))
