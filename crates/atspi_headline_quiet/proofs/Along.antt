-- ALONG A RUN the links from the bus are tied, where the bus behind the registry's start is the one with which worlds begin.
use Rattle.std.proofs.Common.{◌≡◌, ◌⊎◌, inl, inr, ℕ, zero, suc, ◌+◌, ◌-◌, ◌≤◌, Bool, true, false, List, [], ◌∷◌, min, Option, None, Some, refl, sym, ap, ◌∙◌, subst, arith}
use Rattle.std.specs.Prelude.{◌==◌, ◌&&◌, nat_le, if◌then◌else◌}
use Rattle.std.proofs.lemmas.Bool.{eq-eqb, eqb-true, leb-true}
use Rattle.atspi_script_lines.specs.declared.line.Party.{Party}
use Rattle.atspi_trace.specs.World.{Standing, here, stopped, away, Letter, End, World}
use Rattle.atspi_trace.specs.Ends.{end_at}
use Rattle.atspi_trace.specs.Causes as causes
use Rattle.atspi_trace.specs.Causes.{Cause, missing, does}
use Rattle.atspi_trace.specs.Work.{Work, resting, doing, moving_up, moving_down, turning, draining, Next, cause, rests, next_of, moved_down, next_down, of_end}
use Rattle.atspi_headline.specs.Words.{moves_bytes, is_same}
use Rattle.atspi_headline.specs.Links.{is_same_way, moved}
use Rattle.atspi_trace_laws.proofs.OfOrder.Parties.{no_none, same_some, false_true, same-party}
use Rattle.atspi_trace_laws.proofs.OfOrder.Allowed.{IsBare}
use Rattle.atspi_headline_laws.proofs.Reading.{same_who}
use Rattle.atspi_headline_laws.proofs.Ran.{said_bytes, letter_bytes, up_move, down_move, at_known, line_moves}
use Rattle.atspi_headline_quiet.proofs.Lining.{rests_no}
use Rattle.atspi_headline_quiet.proofs.Wording.{TurnsOn, turned, told, turns_on, DrainsOn, drained, ended, drains_on}
use Rattle.atspi_headline_quiet.proofs.Standing.{self_same}
use Rattle.atspi_headline_quiet.proofs.Moving.{GoesUp, StopsUp, up_next}

-- BYTES AT WORK of a link from the bus
abbrev pub ahead_down : Option Work → ℕ → End → ℕ
ahead_down (Some (moving_down conn count)) k e = if conn == k then min count (letter_bytes e.down - e.down_moved) else 0
ahead_down at k e = 0

abbrev pub NotDown : Work → Type 0
NotDown (moving_down conn count) = ⊥
NotDown work = Unit {0}

pub none_ahead : (work : Work) (k : ℕ) (e : End) → NotDown work → ahead_down (Some work) k e ≡ 0
none_ahead (moving_down conn count) k e n = absurd n
none_ahead (moving_up conn count) k e n = refl
none_ahead (turning count left) k e n = refl
none_ahead draining k e n = refl
none_ahead resting k e n = refl
none_ahead (doing c) k e n = refl

-- how far one act moves a link
pub moved_one : (other who : Party) (way : Bool) (count : ℕ) → moved (moves_bytes other way count ∷ []) who false ≡ (if is_same who other && is_same_way false way then 0 + count else 0)
moved_one other who way count = refl

pub moved_up_none : (other who : Party) (count : ℕ) → moved (moves_bytes other true count ∷ []) who false ≡ 0
moved_up_none other who count = by (is_same who other)
  where
    by : (b : Bool) → (if b && false then 0 + count else 0) ≡ 0
    by true = refl
    by false = refl

pub moved_own : (who : Party) (count : ℕ) → moved (moves_bytes who false count ∷ []) who false ≡ count
moved_own who count = ap (λ b. if b && true then 0 + count else 0) (self_same who) ∙ more count
  where
    more : (n : ℕ) → 0 + n ≡ n
    more n = omega arith

pub moved_other : (other who : Party) (count : ℕ) → (other ≡ who → ⊥) → moved (moves_bytes other false count ∷ []) who false ≡ 0
moved_other other who count differ = by (is_same who other) refl
  where
    by : (b : Bool) → is_same who other ≡ b → (if b && true then 0 + count else 0) ≡ 0
    by true h = absurd (differ (sym (same-party who other (sym (same_who who other) ∙ h))))
    by false h = refl

-- WHAT IS MOVED as a line begins
pub line_ahead : (w : World) (work : Work) (k : ℕ) (e : End) → ((j : ℕ) (x : End) → end_at w.ends j ≡ Some x → x.who ≡ e.who → j ≡ k) → end_at w.ends k ≡ Some e → e.standing ≡ here → moved (line_moves w work) e.who false ≡ ahead_down (Some work) k e
line_ahead w (moving_down conn count) k e once at on = by (end_at w.ends conn) refl (conn == k) refl
  where
    stands : (x : End) (st : Standing) → x.standing ≡ st → end_at w.ends conn ≡ Some x → (b : Bool) → (conn == k) ≡ b → moved (down_move count x st) e.who false ≡ (if b then min count (letter_bytes e.down - e.down_moved) else 0)
    stands x here s h true g =
        let one : x ≡ e = same_some x e (sym h ∙ ap (end_at w.ends) (eqb-true conn k g) ∙ at) in
        subst (λ (y : End). moved (moves_bytes y.who false (min count (letter_bytes y.down - y.down_moved)) ∷ []) e.who false ≡ min count (letter_bytes e.down - e.down_moved)) (sym one) (moved_own e.who (min count (letter_bytes e.down - e.down_moved)))
    stands x here s h false g = moved_other x.who e.who (min count (letter_bytes x.down - x.down_moved)) (λ same. false_true (sym g ∙ eq-eqb conn k (once conn x h same)))
    stands x stopped s h true g = absurd (stopped_here (sym s ∙ ap (λ (y : End). y.standing) (same_some x e (sym h ∙ ap (end_at w.ends) (eqb-true conn k g) ∙ at)) ∙ on))
      where
        stopped_here : stopped ≡ here → ⊥
        stopped_here t = cc
    stands x away s h true g = absurd (away_here (sym s ∙ ap (λ (y : End). y.standing) (same_some x e (sym h ∙ ap (end_at w.ends) (eqb-true conn k g) ∙ at)) ∙ on))
      where
        away_here : away ≡ here → ⊥
        away_here t = cc
    stands x stopped s h false g = moved_other x.who e.who 0 (λ same. false_true (sym g ∙ eq-eqb conn k (once conn x h same)))
    stands x away s h false g = moved_other x.who e.who 0 (λ same. false_true (sym g ∙ eq-eqb conn k (once conn x h same)))

    by : (o : Option End) → end_at w.ends conn ≡ o → (b : Bool) → (conn == k) ≡ b → moved (at_known o (λ x. down_move count x x.standing)) e.who false ≡ (if b then min count (letter_bytes e.down - e.down_moved) else 0)
    by (Some x) h b g = stands x x.standing refl h b g
    by None h true g = absurd (no_none e (sym h ∙ ap (end_at w.ends) (eqb-true conn k g) ∙ at))
    by None h false g = refl
line_ahead w (moving_up conn count) k e once at on = by (end_at w.ends conn)
  where
    stands : (n : ℕ) (x : End) (st : Standing) → moved (up_move n x st) e.who false ≡ 0
    stands n x here = moved_up_none x.who e.who (min n (said_left x))
      where
        said_left : End → ℕ
        said_left y = said_bytes y.up - y.up_moved
    stands zero x stopped = moved_up_none x.who e.who 0
    stands zero x away = moved_up_none x.who e.who 0
    stands (suc n) x stopped = refl
    stands (suc n) x away = moved_up_none x.who e.who 0

    by : (o : Option End) → moved (at_known o (λ x. up_move count x x.standing)) e.who false ≡ 0
    by (Some x) = stands count x x.standing
    by None = refl
line_ahead w (turning count left) k e once at on = refl
line_ahead w draining k e once at on = refl
line_ahead w resting k e once at on = refl
line_ahead w (doing c) k e once at on = refl

-- A CAUSE of bytes from the bus
pub record GoesDown (w : World) (conn n : ℕ) (c : Cause) (left : Work) : Type 0 where
  pub e : End
  pub letter : Letter
  pub rest : List Letter
  pub there : end_at w.ends conn ≡ Some e
  pub link : e.down ≡ letter ∷ rest
  pub gets_ : c ≡ causes.gets conn
  pub enough : missing letter.said.message e.down_moved ≤ n
  pub left_ : left ≡ moving_down conn (n - missing letter.said.message e.down_moved)

abbrev cause_of : Next → Cause → Cause
cause_of (cause c v left) d = c
cause_of (rests v) d = d

abbrev left_of : Next → Work → Work
left_of (cause c v left) x = left
left_of (rests v) x = x

pub down_next : (w : World) (conn n : ℕ) (c : Cause) (left : Work) → next_of w (moving_down conn n) ≡ cause c w left → GoesDown w conn n c left
down_next w conn n c left is = by (end_at w.ends conn) refl is
  where
    at : (e : End) → end_at w.ends conn ≡ Some e → (st : Standing) (l : List Letter) → e.down ≡ l → next_down w conn n st e.down_moved l ≡ cause c w left → GoesDown w conn n c left
    at e there here (letter ∷ rest) link h = choose (nat_le (missing letter.said.message e.down_moved) n) refl h
      where
        choose : (b : Bool) → nat_le (missing letter.said.message e.down_moved) n ≡ b → (if b then cause (causes.gets conn) w (moving_down conn (n - missing letter.said.message e.down_moved)) else rests (moved_down w conn n)) ≡ cause c w left
            → GoesDown w conn n c left
        choose true f g = record {
          e = e;
          letter = letter;
          rest = rest;
          there = there;
          link = link;
          gets_ = sym (ap (λ x. cause_of x c) g);
          enough = leb-true (missing letter.said.message e.down_moved) n f;
          left_ = sym (ap (λ x. left_of x left) g);
        }
        choose false f g = absurd (rests_no (moved_down w conn n) w c left g)
    at e there here [] link h = absurd (rests_no w w c left h)
    at e there stopped l link h = absurd (rests_no w w c left h)
    at e there away l link h = absurd (rests_no w w c left h)

    by : (o : Option End) → end_at w.ends conn ≡ o → of_end w o (λ e. next_down w conn n e.standing e.down_moved e.down) ≡ cause c w left → GoesDown w conn n c left
    by None there h = absurd (rests_no w w c left h)
    by (Some e) there h = at e there e.standing e.down refl h

-- what is left of a work that moves no bytes from the bus
pub not_down_left : (w : World) (work left : Work) (c : Cause) → IsBare work → NotDown work → next_of w work ≡ cause c w left → NotDown left
not_down_left w (moving_down conn n) left c b d is = absurd d
not_down_left w (moving_up conn n) left c b d is = by (up_next w conn n c left is)
  where
    by : GoesUp w conn c left ⊎ (StopsUp w conn c left × ((e : End) × (end_at w.ends conn ≡ Some e) × (e.standing ≡ stopped) × (n ≡ 0 → ⊥))) → NotDown left
    by (inl g) = subst NotDown (sym g.left_) tt
    by (inr g) = subst NotDown (sym g.0.left_) tt
not_down_left w (turning count n) left c b d is = by n c left (turns_on w count n c left is)
  where
    by : (n : ℕ) (c : Cause) (left : Work) → TurnsOn w count n c left → NotDown left
    by _ _ _ (turned c left next) = tt
    by _ _ _ (told waiting) = tt
not_down_left w draining left c b d is = by c left (drains_on w c left is)
  where
    by : (c : Cause) (left : Work) → DrainsOn w c left → NotDown left
    by _ _ (drained c next) = tt
    by _ _ (ended waiting) = tt
not_down_left w resting left c b d is = absurd (rests_no w w c left is)
not_down_left w (doing x) left c b d is = absurd b
