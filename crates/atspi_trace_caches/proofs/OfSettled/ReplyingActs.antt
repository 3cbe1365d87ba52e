-- A call that waits stays in one of its places where an end acts: a new call stands on its caller's up link, who takes a call answers it, and who takes the reply waits no longer.
use Rattle.std.proofs.Common.{◌≡◌, ◌⊎◌, inl, inr, ℕ, zero, suc, Bool, true, false, List, [], ◌∷◌, ◌++◌, length, Some, refl, sym, ap, ◌∙◌, subst, is_some}
use Rattle.std.specs.Prelude.{◌==◌}
use Rattle.std.proofs.lemmas.Bool.{eqb-true, eq-eqb}
use Rattle.atspi_match.specs.routing.BusState.{BusState, unique_of}
use Rattle.atspi_match.specs.routing.Queues.{is_due}
use Rattle.atspi_trace.specs.World.{Said, Letter, End, World}
use Rattle.atspi_trace.specs.Ends.{is_here, is_reader, end_at, with_end}
use Rattle.atspi_trace_laws.proofs.OfOrder.Parties.{no_none, same_some, false_true}
use Rattle.atspi_trace_laws.proofs.OfOrder.Frame.{with_cases, at_changed, joined_cases}
use Rattle.atspi_trace_caches.proofs.OfSettled.Replying.{Has, has_front, WaitsIn, IsCall, IsCalled, IsAnswer, IsReplied, IsOpen, Course, Stage, OpenAt, Placed, carried, AllPlaced}
use Rattle.atspi_trace_caches.proofs.OfSettled.ReplyingBus.{with_other}

-- ONE END ACTS: it took these letters, and its up link grew
pub record Act (e d : End) : Type 0 where
  pub whose : d.who ≡ e.who
  pub standing : d.standing ≡ e.standing
  pub unique : (name : List ℕ) → e.unique ≡ Some name → d.unique ≡ Some name
  pub up : (more : List Said) × (d.up ≡ e.up ++ more)
  pub took : List Letter
  pub down : e.down ≡ took ++ d.down
  pub answers : (n : ℕ) (name : List ℕ) → is_reader e.who ≡ false → Has (IsCalled n name) took → Has (IsAnswer n name) d.up
  pub waits : (n : ℕ) (to : List ℕ) → WaitsIn d.role n to → (WaitsIn e.role n to × (Has (IsReplied n) took → ⊥)) ⊎ Has (IsCall n to) d.up

-- the world with that end in place of the other
pub record ActsIn (w v : World) (conn : ℕ) (e d : End) : Type 0 where
  pub there : end_at w.ends conn ≡ Some e
  pub now : end_at v.ends conn ≡ Some d
  pub other : (k : ℕ) (x : End) → (k ≡ conn → ⊥) → end_at w.ends k ≡ Some x → end_at v.ends k ≡ Some x
  pub back : (k : ℕ) (x : End) → (k ≡ conn → ⊥) → end_at v.ends k ≡ Some x → end_at w.ends k ≡ Some x
  pub state : v.bus.state ≡ w.bus.state
  pub due : v.bus.waiting.due ≡ w.bus.waiting.due

has_split : {X : Type 0} (P : X → Type 0) (xs ys : List X) → Has P (xs ++ ys) → Has P xs ⊎ Has P ys
has_split P [] ys h = inr h
has_split P (x ∷ xs) ys (inl h) = inl (inl h)
has_split P (x ∷ xs) ys (inr h) = by (has_split P xs ys h)
  where
    by : Has P xs ⊎ Has P ys → (P x ⊎ Has P xs) ⊎ Has P ys
    by (inl g) = inl (inr g)
    by (inr g) = inr g

down_split : (P : Letter → Type 0) (e d : End) (a : Act e d) → Has P e.down → Has P a.took ⊎ Has P d.down
down_split P e d a h = has_split P a.took d.down (subst (Has P) a.down h)

up_grown : (P : Said → Type 0) (e d : End) (a : Act e d) → Has P e.up → Has P d.up
up_grown P e d a h = subst (Has P) (sym a.up.1) (has_front P e.up a.up.0 h)

pub dec : (a b : ℕ) → (a ≡ b) ⊎ (a ≡ b → ⊥)
dec a b = by (a == b) refl
  where
    by : (t : Bool) → (a == b) ≡ t → (a ≡ b) ⊎ (a ≡ b → ⊥)
    by true h = inl (eqb-true a b h)
    by false h = inr (λ same. false_true (sym h ∙ eq-eqb a b same))

module _ (w v : World) (conn : ℕ) (e d : End) (in_ : ActsIn w v conn e d) (a : Act e d) where
  course_acts : (n : ℕ) (name to : List ℕ) → Course e n name to → Course d n name to
  course_acts n name to (inl m) = inl (ap is_reader a.whose ∙ m.0, λ u. a.unique to (m.1 u), m.2, m.3)
  course_acts n name to (inr (inl h)) = by (down_split (IsCalled n name) e d a h.1)
    where
      by : Has (IsCalled n name) a.took ⊎ Has (IsCalled n name) d.down → Course d n name to
      by (inl t) = inr (inr (a.answers n name h.0 t))
      by (inr t) = inr (inl (ap is_reader a.whose ∙ h.0, t))
  course_acts n name to (inr (inr h)) = inr (inr (up_grown (IsAnswer n name) e d a h))

  stage_acts : (callee n : ℕ) (name to : List ℕ) → Stage (carried w) callee e n name to → Stage (carried v) callee d n name to
  stage_acts callee n name to (inl h) = inl (ap is_here a.standing ∙ h)
  stage_acts callee n name to (inr (inl h)) = inr (inl (ap (is_due callee) in_.due ∙ h))
  stage_acts callee n name to (inr (inr h)) = inr (inr (a.standing ∙ h.0, course_acts n name to h.1))

  stage_same : (callee n : ℕ) (name to : List ℕ) (x : End) → Stage (carried w) callee x n name to → Stage (carried v) callee x n name to
  stage_same callee n name to x (inl h) = inl h
  stage_same callee n name to x (inr (inl h)) = inr (inl (ap (is_due callee) in_.due ∙ h))
  stage_same callee n name to x (inr (inr h)) = inr (inr h)

  open_acts : (k n : ℕ) (to : List ℕ) → OpenAt (carried w) k n to → OpenAt (carried v) k n to
  open_acts k n to o = by (dec o.callee conn)
    where
      made : (x : End) → end_at v.ends o.callee ≡ Some x → Stage (carried v) o.callee x n o.name to → OpenAt (carried v) k n to
      made x at stage = record {
        callee = o.callee;
        is_open = subst (λ (s : BusState). Has (IsOpen k n o.callee) s.calls) (sym in_.state) o.is_open;
        name = o.name;
        is_named = subst (λ (s : BusState). unique_of s.owners k ≡ Some o.name) (sym in_.state) o.is_named;
        known = subst (λ (s : BusState). is_some (unique_of s.owners o.callee) ≡ true) (sym in_.state) o.known;
        d = x;
        there = at;
        stage = stage;
      }

      by : (o.callee ≡ conn) ⊎ (o.callee ≡ conn → ⊥) → OpenAt (carried v) k n to
      by (inl same) =
          let it : o.d ≡ e = same_some o.d e (sym o.there ∙ ap (end_at w.ends) same ∙ in_.there) in
          made d (ap (end_at v.ends) same ∙ in_.now) (stage_acts o.callee n o.name to (subst (λ x. Stage (carried w) o.callee x n o.name to) it o.stage))
      by (inr differ) = made o.d (in_.other o.callee o.d differ o.there) (stage_same o.callee n o.name to o.d o.stage)

  placed_other : (k n : ℕ) (to : List ℕ) (x : End) → Placed (carried w) k x n to → Placed (carried v) k x n to
  placed_other k n to x (inl h) = inl h
  placed_other k n to x (inr (inl h)) = inr (inl h)
  placed_other k n to x (inr (inr o)) = inr (inr (open_acts k n to o))

  placed_acts : (n : ℕ) (to : List ℕ) → (Has (IsReplied n) a.took → ⊥) → Placed (carried w) conn e n to → Placed (carried v) conn d n to
  placed_acts n to none (inl h) = inl (up_grown (IsCall n to) e d a h)
  placed_acts n to none (inr (inl h)) = by (down_split (IsReplied n) e d a h)
    where
      by : Has (IsReplied n) a.took ⊎ Has (IsReplied n) d.down → Placed (carried v) conn d n to
      by (inl t) = absurd (none t)
      by (inr t) = inr (inl t)
  placed_acts n to none (inr (inr o)) = inr (inr (open_acts conn n to o))

  pub acts_placed : AllPlaced w → AllPlaced v
  acts_placed i k n to x there on waits = by (dec k conn)
    where
      at_it : x ≡ d → k ≡ conn → (WaitsIn e.role n to × (Has (IsReplied n) a.took → ⊥)) ⊎ Has (IsCall n to) d.up → Placed (carried v) k x n to
      at_it same at (inl h) =
          subst (λ c. Placed (carried v) c x n to) (sym at)
          (subst (λ z. Placed (carried v) conn z n to) (sym same) (placed_acts n to h.1 (i conn n to e in_.there (sym a.standing ∙ ap (λ (z : End). z.standing) (sym same) ∙ on) h.0)))
      at_it same at (inr h) = subst (λ z. Placed (carried v) k z n to) (sym same) (inl h)

      by : (k ≡ conn) ⊎ (k ≡ conn → ⊥) → Placed (carried v) k x n to
      by (inl at) =
          let same : x ≡ d = same_some x d (sym there ∙ ap (end_at v.ends) at ∙ in_.now) in
          at_it same at (a.waits n to (subst (λ (z : End). WaitsIn z.role n to) same waits))
      by (inr differ) = placed_other k n to x (i k n to x (in_.back k x differ there) on waits)

-- one that stops: whoever called it is told when it leaves
module _ (w v : World) (conn : ℕ) (e d : End) (in_ : ActsIn w v conn e d) (gone : is_here d.standing ≡ false) where
  pub stops_placed : AllPlaced w → AllPlaced v
  stops_placed i k n to x there on waits = by (dec k conn)
    where
      opened : OpenAt (carried w) k n to → OpenAt (carried v) k n to
      opened o = by_callee (dec o.callee conn)
        where
          made : (y : End) → end_at v.ends o.callee ≡ Some y → Stage (carried v) o.callee y n o.name to → OpenAt (carried v) k n to
          made y at stage = record {
            callee = o.callee;
            is_open = subst (λ (s : BusState). Has (IsOpen k n o.callee) s.calls) (sym in_.state) o.is_open;
            name = o.name;
            is_named = subst (λ (s : BusState). unique_of s.owners k ≡ Some o.name) (sym in_.state) o.is_named;
            known = subst (λ (s : BusState). is_some (unique_of s.owners o.callee) ≡ true) (sym in_.state) o.known;
            d = y;
            there = at;
            stage = stage;
          }

          stage_still : Stage (carried w) o.callee o.d n o.name to → Stage (carried v) o.callee o.d n o.name to
          stage_still (inl h) = inl h
          stage_still (inr (inl h)) = inr (inl (ap (is_due o.callee) in_.due ∙ h))
          stage_still (inr (inr h)) = inr (inr h)

          by_callee : (o.callee ≡ conn) ⊎ (o.callee ≡ conn → ⊥) → OpenAt (carried v) k n to
          by_callee (inl same) = made d (ap (end_at v.ends) same ∙ in_.now) (inl gone)
          by_callee (inr differ) = made o.d (in_.other o.callee o.d differ o.there) (stage_still o.stage)

      still : Placed (carried w) k x n to → Placed (carried v) k x n to
      still (inl h) = inl h
      still (inr (inl h)) = inr (inl h)
      still (inr (inr o)) = inr (inr (opened o))

      by : (k ≡ conn) ⊎ (k ≡ conn → ⊥) → Placed (carried v) k x n to
      by (inl at) =
          let same : x ≡ d = same_some x d (sym there ∙ ap (end_at v.ends) at ∙ in_.now) in
          absurd (false_true (sym gone ∙ ap (λ (z : End). is_here z.standing) (sym same) ∙ ap is_here on))
      by (inr differ) = still (i k n to x (in_.back k x differ there) on waits)

-- the change of one end
pub acts_in : (w v : World) (conn : ℕ) (e : End) (f : End → End) → end_at w.ends conn ≡ Some e → v.ends ≡ with_end conn f w.ends → v.bus.state ≡ w.bus.state → v.bus.waiting.due ≡ w.bus.waiting.due → ActsIn w v conn e (f e)
acts_in w v conn e f there is state due = record {
  there = there;
  now = ap (λ l. end_at l conn) is ∙ at_changed f w.ends conn e there;
  other = λ k x differ h. ap (λ l. end_at l k) is ∙ with_other f conn w.ends k x differ h;
  back = λ k x differ h. by k x differ (with_cases f w.ends conn k x (ap (λ l. end_at l k) (sym is) ∙ h));
  state = state;
  due = due;
}
  where
    by : (k : ℕ) (x : End) → (k ≡ conn → ⊥) → ((y : End) × (end_at w.ends k ≡ Some y) × (((k ≡ conn) × (x ≡ f y)) ⊎ ((k ≡ conn → ⊥) × (x ≡ y)))) → end_at w.ends k ≡ Some x
    by k x differ y = at y.2
      where
        at : (((k ≡ conn) × (x ≡ f y.0)) ⊎ ((k ≡ conn → ⊥) × (x ≡ y.0))) → end_at w.ends k ≡ Some x
        at (inl h) = absurd (differ h.0)
        at (inr h) = y.1 ∙ ap Some (sym h.1)

-- two changes of it, one behind the other
pub acts_both : (w v : World) (conn : ℕ) (e : End) (f g : End → End) → end_at w.ends conn ≡ Some e → v.ends ≡ with_end conn g (with_end conn f w.ends) → v.bus.state ≡ w.bus.state → v.bus.waiting.due ≡ w.bus.waiting.due
    → ActsIn w v conn e (g (f e))
acts_both w v conn e f g there is state due =
    let middle : World = record w { ends = with_end conn f w.ends } in
    let first : ActsIn w middle conn e (f e) = acts_in w middle conn e f there refl refl refl in
    let second : ActsIn middle v conn (f e) (g (f e)) = acts_in middle v conn (f e) g first.now is state due in
    record {
      there = there;
      now = second.now;
      other = λ k x differ h. second.other k x differ (first.other k x differ h);
      back = λ k x differ h. first.back k x differ (second.back k x differ h);
      state = state;
      due = due;
    }

-- who joins
pub joins_placed : (w v : World) (x : End) → v.ends ≡ w.ends ++ x ∷ [] → v.bus.state.calls ≡ w.bus.state.calls → v.bus.state.owners ≡ w.bus.state.owners → v.bus.waiting.due ≡ w.bus.waiting.due
    → ((n : ℕ) (to : List ℕ) → WaitsIn x.role n to → Has (IsCall n to) x.up) → AllPlaced w → AllPlaced v
joins_placed w v x is calls owners due up i k n to z there on waits = by (joined_cases w.ends x k z (ap (λ l. end_at l k) (sym is) ∙ there))
  where
    front : (xs : List End) (j : ℕ) (y : End) → end_at xs j ≡ Some y → end_at (xs ++ x ∷ []) j ≡ Some y
    front [] j y h = absurd (none j h)
      where
        none : (j : ℕ) → end_at [] j ≡ Some y → ⊥
        none zero g = no_none y g
        none (suc j) g = no_none y g
    front (e ∷ es) zero y h = h
    front (e ∷ es) (suc j) y h = front es j y h

    stage_same : (callee : ℕ) (y : End) (name : List ℕ) → Stage (carried w) callee y n name to → Stage (carried v) callee y n name to
    stage_same callee y name (inl h) = inl h
    stage_same callee y name (inr (inl h)) = inr (inl (ap (is_due callee) due ∙ h))
    stage_same callee y name (inr (inr h)) = inr (inr h)

    opened : OpenAt (carried w) k n to → OpenAt (carried v) k n to
    opened o = record {
      callee = o.callee;
      is_open = subst (Has (IsOpen k n o.callee)) (sym calls) o.is_open;
      name = o.name;
      is_named = ap (λ u. unique_of u k) owners ∙ o.is_named;
      known = ap (λ u. is_some (unique_of u o.callee)) owners ∙ o.known;
      d = o.d;
      there = ap (λ l. end_at l o.callee) is ∙ front w.ends o.callee o.d o.there;
      stage = stage_same o.callee o.d o.name o.stage;
    }

    still : Placed (carried w) k z n to → Placed (carried v) k z n to
    still (inl h) = inl h
    still (inr (inl h)) = inr (inl h)
    still (inr (inr o)) = inr (inr (opened o))

    by : (end_at w.ends k ≡ Some z) ⊎ ((k ≡ length w.ends) × (z ≡ x)) → Placed (carried v) k z n to
    by (inl h) = still (i k n to z h on waits)
    by (inr h) = subst (λ y. Placed (carried v) k y n to) (sym h.1) (inl (up n to (subst (λ (y : End). WaitsIn y.role n to) h.1 waits)))
