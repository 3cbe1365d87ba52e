-- WHAT IS NEXT of a line `bytes` at work: the bus or the end takes a message that is complete, the bus takes an end, or the line rests.
use Rattle.std.proofs.Common.{◌≡◌, ◌⊎◌, inl, inr, ℕ, zero, suc, ◌-◌, ◌<◌, ◌≤◌, Bool, true, false, List, [], ◌∷◌, Option, None, Some, refl, sym, ap, ◌∙◌, subst}
use Rattle.std.specs.Prelude.{nat_le, if◌then◌else◌}
use Rattle.std.proofs.lemmas.Bool.{leb-true, leb-false}
use Rattle.atspi_trace.specs.World.{Standing, here, stopped, away, Said, Letter, End, World}
use Rattle.atspi_trace.specs.Ends.{end_at}
use Rattle.atspi_trace.specs.Causes.{Cause, routes, unjoins, gets, missing}
use Rattle.atspi_trace.specs.Work.{Work, resting, doing, moving_up, moving_down, turning, draining, Next, cause, rests, moved_up, moved_down, next_up, next_down, of_end, next_of_turns, next_of_drain, next_of, next_turn}
use Rattle.atspi_headline.specs.Links.{size}

abbrev cause_in : Next → Cause → Cause
cause_in (cause c w left) other = c
cause_in (rests w) other = other

abbrev left_in : Next → Work → Work
left_in (cause c w left) other = left
left_in (rests w) other = other

abbrev rest_in : Next → World → World
rest_in (cause c w left) other = other
rest_in (rests w) other = w

no_rest : (c : Cause) (w v : World) (left : Work) → rests v ≡ cause c w left → ⊥
no_rest c w v left h = cc

no_cause : (c : Cause) (w v : World) (left : Work) → cause c w left ≡ rests v → ⊥
no_cause c w v left h = cc

-- the first message is complete
pub record GoesUp (w : World) (conn count : ℕ) (c : Cause) (left : Work) : Type 0 where
  pub e : End
  pub said : Said
  pub rest : List Said
  pub there : end_at w.ends conn ≡ Some e
  pub standing : e.standing ≡ here
  pub link : e.up ≡ said ∷ rest
  pub enough : size said.message - e.up_moved ≤ count
  pub cause_is : c ≡ routes conn
  pub left_is : left ≡ moving_up conn (count - (size said.message - e.up_moved))

-- an end stopped
pub record StopsUp (w : World) (conn : ℕ) (c : Cause) (left : Work) : Type 0 where
  pub e : End
  pub there : end_at w.ends conn ≡ Some e
  pub standing : e.standing ≡ stopped
  pub cause_is : c ≡ unjoins conn
  pub left_is : left ≡ resting

pub up_goes : (w : World) (conn count : ℕ) (c : Cause) (left : Work) → next_of w (moving_up conn count) ≡ cause c w left → GoesUp w conn count c left ⊎ StopsUp w conn c left
up_goes w conn count c left h = by (end_at w.ends conn) refl h
  where
    enough_by : (e : End) (said : Said) (rest : List Said) → end_at w.ends conn ≡ Some e → e.standing ≡ here → e.up ≡ said ∷ rest → (b : Bool) → nat_le (missing said.message e.up_moved) count ≡ b
        → (if b then cause (routes conn) w (moving_up conn (count - missing said.message e.up_moved)) else rests (moved_up w conn count)) ≡ cause c w left → GoesUp w conn count c left ⊎ StopsUp w conn c left
    enough_by e said rest there st link true q g =
        inl (record {
          e = e;
          said = said;
          rest = rest;
          there = there;
          standing = st;
          link = link;
          enough = leb-true (missing said.message e.up_moved) count q;
          cause_is = sym (ap (λ x. cause_in x c) g);
          left_is = sym (ap (λ x. left_in x left) g);
        })
    enough_by e said rest there st link false q g = absurd (no_rest c w (moved_up w conn count) left g)

    stopped_by : (e : End) → end_at w.ends conn ≡ Some e → e.standing ≡ stopped → (n m : ℕ) (link : List Said) → next_up w conn n stopped m link ≡ cause c w left → GoesUp w conn count c left ⊎ StopsUp w conn c left
    stopped_by e there st zero m link g = absurd (no_rest c w w left g)
    stopped_by e there st (suc n) m link g =
        inr (record { e = e; there = there; standing = st; cause_is = sym (ap (λ x. cause_in x c) g); left_is = sym (ap (λ x. left_in x left) g) })

    at : (e : End) → end_at w.ends conn ≡ Some e → (st : Standing) → e.standing ≡ st → (link : List Said) → e.up ≡ link → next_up w conn count st e.up_moved link ≡ cause c w left
        → GoesUp w conn count c left ⊎ StopsUp w conn c left
    at e there here st (said ∷ rest) link g = enough_by e said rest there st link (nat_le (missing said.message e.up_moved) count) refl g
    at e there here st [] link g = absurd (no_rest c w w left g)
    at e there stopped st l link g = stopped_by e there st count e.up_moved l g
    at e there away st l link g = absurd (no_rest c w w left g)

    by : (o : Option End) → end_at w.ends conn ≡ o → of_end w o (λ e. next_up w conn count e.standing e.up_moved e.up) ≡ cause c w left → GoesUp w conn count c left ⊎ StopsUp w conn c left
    by None there g = absurd (no_rest c w w left g)
    by (Some e) there g = at e there e.standing refl e.up refl g

-- the line rests: of an end that is here nothing waits, or too few bytes were moved
pub data UpRest (w v : World) (conn count : ℕ) : Type 0 where
  stays : v ≡ w → ((e : End) → end_at w.ends conn ≡ Some e → e.standing ≡ here → e.up ≡ []) → UpRest w v conn count
  goes_on : (e : End) (said : Said) (rest : List Said) → end_at w.ends conn ≡ Some e → e.standing ≡ here → e.up ≡ said ∷ rest → count < size said.message - e.up_moved → v ≡ moved_up w conn count
      → UpRest w v conn count

abbrev some_end : End → Option End → End
some_end x None = x
some_end x (Some e) = e

same_end : (o : Option End) (e x : End) → o ≡ Some e → o ≡ Some x → x ≡ e
same_end o e x h g = sym (ap (some_end x) g) ∙ ap (some_end x) h

not_stopped : stopped ≡ here → ⊥
not_stopped h = cc

not_away : away ≡ here → ⊥
not_away h = cc

pub up_rests : (w v : World) (conn count : ℕ) → next_of w (moving_up conn count) ≡ rests v → UpRest w v conn count
up_rests w v conn count h = by (end_at w.ends conn) refl h
  where
    is : (x : World) → rests x ≡ rests v → v ≡ x
    is x g = sym (ap (λ n. rest_in n v) g)

    enough_by : (e : End) (said : Said) (rest : List Said) → end_at w.ends conn ≡ Some e → e.standing ≡ here → e.up ≡ said ∷ rest → (b : Bool) → nat_le (missing said.message e.up_moved) count ≡ b
        → (if b then cause (routes conn) w (moving_up conn (count - missing said.message e.up_moved)) else rests (moved_up w conn count)) ≡ rests v → UpRest w v conn count
    enough_by e said rest there st link true q g = absurd (no_cause (routes conn) w v (moving_up conn (count - missing said.message e.up_moved)) g)
    enough_by e said rest there st link false q g = goes_on e said rest there st link (leb-false (missing said.message e.up_moved) count q) (is (moved_up w conn count) g)

    no_more : (e : End) → end_at w.ends conn ≡ Some e → (e.standing ≡ here → e.up ≡ []) → rests w ≡ rests v → UpRest w v conn count
    no_more e there f g =
        stays (is w g) (λ x h st.
        let same : x ≡ e = same_end (end_at w.ends conn) e x there h in
        ap (λ (y : End). y.up) same ∙ f (ap (λ (y : End). y.standing) (sym same) ∙ st))

    stopped_by : (e : End) → end_at w.ends conn ≡ Some e → e.standing ≡ stopped → (n m : ℕ) (link : List Said) → next_up w conn n stopped m link ≡ rests v → UpRest w v conn count
    stopped_by e there st zero m link g = no_more e there (λ h. absurd (not_stopped (sym st ∙ h))) g
    stopped_by e there st (suc n) m link g = absurd (no_cause (unjoins conn) w v resting g)

    at : (e : End) → end_at w.ends conn ≡ Some e → (st : Standing) → e.standing ≡ st → (link : List Said) → e.up ≡ link → next_up w conn count st e.up_moved link ≡ rests v → UpRest w v conn count
    at e there here st (said ∷ rest) link g = enough_by e said rest there st link (nat_le (missing said.message e.up_moved) count) refl g
    at e there here st [] link g = no_more e there (λ h. link) g
    at e there stopped st l link g = stopped_by e there st count e.up_moved l g
    at e there away st l link g = no_more e there (λ h. absurd (not_away (sym st ∙ h))) g

    by : (o : Option End) → end_at w.ends conn ≡ o → of_end w o (λ e. next_up w conn count e.standing e.up_moved e.up) ≡ rests v → UpRest w v conn count
    by None there g = stays (is w g) (λ x h st. absurd (no_end (sym there ∙ h)))
      where
        no_end : {x : End} → None ≡ Some x → ⊥
        no_end k = cc
    by (Some e) there g = at e there e.standing refl e.up refl g

-- THE SAME of a link from the bus
pub record GoesDown (w : World) (conn count : ℕ) (c : Cause) (left : Work) : Type 0 where
  pub e : End
  pub letter : Letter
  pub rest : List Letter
  pub there : end_at w.ends conn ≡ Some e
  pub standing : e.standing ≡ here
  pub link : e.down ≡ letter ∷ rest
  pub enough : size letter.said.message - e.down_moved ≤ count
  pub cause_is : c ≡ gets conn
  pub left_is : left ≡ moving_down conn (count - (size letter.said.message - e.down_moved))

pub down_goes : (w : World) (conn count : ℕ) (c : Cause) (left : Work) → next_of w (moving_down conn count) ≡ cause c w left → GoesDown w conn count c left
down_goes w conn count c left h = by (end_at w.ends conn) refl h
  where
    enough_by : (e : End) (letter : Letter) (rest : List Letter) → end_at w.ends conn ≡ Some e → e.standing ≡ here → e.down ≡ letter ∷ rest → (b : Bool) → nat_le (missing letter.said.message e.down_moved) count ≡ b
        → (if b then cause (gets conn) w (moving_down conn (count - missing letter.said.message e.down_moved)) else rests (moved_down w conn count)) ≡ cause c w left → GoesDown w conn count c left
    enough_by e letter rest there st link true q g = record {
      e = e;
      letter = letter;
      rest = rest;
      there = there;
      standing = st;
      link = link;
      enough = leb-true (missing letter.said.message e.down_moved) count q;
      cause_is = sym (ap (λ x. cause_in x c) g);
      left_is = sym (ap (λ x. left_in x left) g);
    }
    enough_by e letter rest there st link false q g = absurd (no_rest c w (moved_down w conn count) left g)

    at : (e : End) → end_at w.ends conn ≡ Some e → (st : Standing) → e.standing ≡ st → (link : List Letter) → e.down ≡ link → next_down w conn count st e.down_moved link ≡ cause c w left → GoesDown w conn count c left
    at e there here st (letter ∷ rest) link g = enough_by e letter rest there st link (nat_le (missing letter.said.message e.down_moved) count) refl g
    at e there here st [] link g = absurd (no_rest c w w left g)
    at e there stopped st l link g = absurd (no_rest c w w left g)
    at e there away st l link g = absurd (no_rest c w w left g)

    by : (o : Option End) → end_at w.ends conn ≡ o → of_end w o (λ e. next_down w conn count e.standing e.down_moved e.down) ≡ cause c w left → GoesDown w conn count c left
    by None there g = absurd (no_rest c w w left g)
    by (Some e) there g = at e there e.standing refl e.down refl g

pub data DownRest (w v : World) (conn count : ℕ) : Type 0 where
  stays : v ≡ w → ((e : End) → end_at w.ends conn ≡ Some e → e.standing ≡ here → e.down ≡ []) → DownRest w v conn count
  goes_on : (e : End) (letter : Letter) (rest : List Letter) → end_at w.ends conn ≡ Some e → e.standing ≡ here → e.down ≡ letter ∷ rest → count < size letter.said.message - e.down_moved → v ≡ moved_down w conn count
      → DownRest w v conn count

pub down_rests : (w v : World) (conn count : ℕ) → next_of w (moving_down conn count) ≡ rests v → DownRest w v conn count
down_rests w v conn count h = by (end_at w.ends conn) refl h
  where
    is : (x : World) → rests x ≡ rests v → v ≡ x
    is x g = sym (ap (λ n. rest_in n v) g)

    enough_by : (e : End) (letter : Letter) (rest : List Letter) → end_at w.ends conn ≡ Some e → e.standing ≡ here → e.down ≡ letter ∷ rest → (b : Bool) → nat_le (missing letter.said.message e.down_moved) count ≡ b
        → (if b then cause (gets conn) w (moving_down conn (count - missing letter.said.message e.down_moved)) else rests (moved_down w conn count)) ≡ rests v → DownRest w v conn count
    enough_by e letter rest there st link true q g = absurd (no_cause (gets conn) w v (moving_down conn (count - missing letter.said.message e.down_moved)) g)
    enough_by e letter rest there st link false q g = goes_on e letter rest there st link (leb-false (missing letter.said.message e.down_moved) count q) (is (moved_down w conn count) g)

    no_more : (e : End) → end_at w.ends conn ≡ Some e → (e.standing ≡ here → e.down ≡ []) → rests w ≡ rests v → DownRest w v conn count
    no_more e there f g =
        stays (is w g) (λ x h st.
        let same : x ≡ e = same_end (end_at w.ends conn) e x there h in
        ap (λ (y : End). y.down) same ∙ f (ap (λ (y : End). y.standing) (sym same) ∙ st))

    at : (e : End) → end_at w.ends conn ≡ Some e → (st : Standing) → e.standing ≡ st → (link : List Letter) → e.down ≡ link → next_down w conn count st e.down_moved link ≡ rests v → DownRest w v conn count
    at e there here st (letter ∷ rest) link g = enough_by e letter rest there st link (nat_le (missing letter.said.message e.down_moved) count) refl g
    at e there here st [] link g = no_more e there (λ h. link) g
    at e there stopped st l link g = no_more e there (λ h. absurd (not_stopped (sym st ∙ h))) g
    at e there away st l link g = no_more e there (λ h. absurd (not_away (sym st ∙ h))) g

    by : (o : Option End) → end_at w.ends conn ≡ o → of_end w o (λ e. next_down w conn count e.standing e.down_moved e.down) ≡ rests v → DownRest w v conn count
    by None there g = stays (is w g) (λ x h st. absurd (no_end (sym there ∙ h)))
      where
        no_end : {x : End} → None ≡ Some x → ⊥
        no_end k = cc
    by (Some e) there g = at e there e.standing refl e.down refl g

-- turns that are through change nothing
pub turns_rest : (w v : World) (count left : ℕ) → next_of w (turning count left) ≡ rests v → v ≡ w
turns_rest w v count left h = by left (next_turn w) h
  where
    by : (left : ℕ) (o : Option Cause) → next_of_turns w count left o ≡ rests v → v ≡ w
    by left None g = sym (ap (λ n. rest_in n v) g)
    by zero (Some c) g = absurd cc
    by (suc left) (Some c) g = absurd cc

pub drain_rests : (w v : World) → next_of w draining ≡ rests v → v ≡ w
drain_rests w v h = by (next_turn w) h
  where
    by : (o : Option Cause) → next_of_drain w o ≡ rests v → v ≡ w
    by None g = absurd cc
    by (Some c) g = absurd cc

pub still_rests : (w v : World) → next_of w resting ≡ rests v → v ≡ w
still_rests w v g = sym (ap (λ n. rest_in n v) g)

pub none_rests : (w v : World) (c : Cause) → next_of w (doing c) ≡ rests v → ⊥
none_rests w v c g = cc

-- behind turns are turns, or nothing is left
abbrev pub IsTurning : Work → Type 0
IsTurning (turning count left) = Unit {0}
IsTurning draining = Unit {0}
IsTurning resting = Unit {0}
IsTurning work = ⊥

pub turns_leave : (w : World) (count n : ℕ) (c : Cause) (left : Work) → next_of w (turning count n) ≡ cause c w left → IsTurning left
turns_leave w count n c left h = by n (next_turn w) h
  where
    by : (n : ℕ) (o : Option Cause) → next_of_turns w count n o ≡ cause c w left → IsTurning left
    by n None g = absurd (no_rest c w w left g)
    by zero (Some d) g = subst IsTurning (ap (λ x. left_in x left) g) tt
    by (suc n) (Some d) g = subst IsTurning (ap (λ x. left_in x left) g) tt

pub drain_leaves : (w : World) (c : Cause) (left : Work) → next_of w draining ≡ cause c w left → IsTurning left
drain_leaves w c left h = by (next_turn w) h
  where
    by : (o : Option Cause) → next_of_drain w o ≡ cause c w left → IsTurning left
    by None g = subst IsTurning (ap (λ x. left_in x left) g) tt
    by (Some d) g = subst IsTurning (ap (λ x. left_in x left) g) tt
