-- What was done of a line, one cause at a time.
use Rattle.std.proofs.Common.{◌≡◌, ◌⊎◌, inl, inr, List, [], ◌∷◌, ◌++◌, refl, sym, ap, subst, ◌∙◌}
use Rattle.atspi_match.specs.routing.Queues.{Bus}
use Rattle.atspi_trace.specs.Causes.{Cause}
use Rattle.atspi_trace.specs.Entry.{Entry}
use Rattle.atspi_trace.specs.Work.{Work, cause, doing, next_of, rests, resting}
use Rattle.atspi_trace.specs.World.{World}
use Rattle.atspi_trace.specs.play.Breaking.{IsAtWork, PlaysOn, caused, does_next, so_far}
use Rattle.atspi_trace.specs.play.Playing.{Happened, Playing}
use Rattle.atspi_trace.specs.play.Plays.{plays}
use Rattle.atspi_run_examples.specs.Small.{playing, two_ends}

-- nothing was done, or the next cause was, and then some
abbrev pub NoneDone : Playing → Work → List Entry → Playing → Work → Type 0
NoneDone p left es q last = (es ≡ []) × (q ≡ p) × (last ≡ left)

abbrev pub SomeDone : Playing → Work → Cause → List Entry → Playing → Work → Type 0
SomeDone p rest c es q last = (more : List Entry) × (es ≡ (plays p c).entries ++ more) × PlaysOn (plays p c).now rest more q last

-- where a cause is next in the same world
pub causes : (p q : Playing) (left last : Work) (es : List Entry) → PlaysOn p left es q last → (c : Cause) (rest : Work) → next_of p.world left ≡ cause c p.world rest
    → NoneDone p left es q last ⊎ SomeDone p rest c es q last
causes _ _ _ _ _ (so_far p left) c rest is = inl (refl, refl, refl)
causes _ _ _ _ _ (caused p q v left left' last d es is' on) c rest is =
    let same : cause d v left' ≡ cause c p.world rest = sym is' ∙ is in
    let one : d ≡ c = cc in
    let two : v ≡ p.world = cc in
    let three : left' ≡ rest = cc in
    let done : plays (record p { world = v }) d ≡ plays p c = ap (λ (x : Cause). plays (record p { world = v }) x) one ∙ ap (λ (w : World). plays (record p { world = w }) c) two in
    inr (
      es,
      ap (λ (h : Happened). h.entries ++ es) done,
      subst (λ (h : Happened). PlaysOn h.now rest es q last) done (subst (λ (w : Work). PlaysOn (plays (record p { world = v }) d).now w es q last) three on),
    )

-- where none is
pub none_caused : (p q : Playing) (left last : Work) (es : List Entry) → PlaysOn p left es q last → (w : World) → next_of p.world left ≡ rests w → NoneDone p left es q last
none_caused _ _ _ _ _ (so_far p left) w is = (refl, refl, refl)
none_caused _ _ _ _ _ (caused p q v left rest last c es is' on) w is = let clash : rests w ≡ cause c v rest = sym is ∙ is' in absurd cc

-- where this is next, the next cause is this
pub that_next : (p : Playing) (left : Work) (at : IsAtWork p left) (q : Playing) (last : Work) → at.now ≡ q → at.last ≡ last → (c : Cause) (rest : Work) → next_of q.world last ≡ cause c q.world rest
    → (at.moved ≡ q.world) × (does_next at ≡ plays q c)
that_next p left at q last now work c rest is =
    let same : cause at.next at.moved at.rest ≡ cause c q.world rest = sym at.is_next ∙ ap (λ (x : Playing). next_of x.world at.last) now ∙ ap (next_of q.world) work ∙ is in
    let one : at.next ≡ c = cc in
    let moved : at.moved ≡ q.world = cc in (
      moved,
      ap (λ (d : Cause). plays (record (at.now) { world = at.moved }) d) one
          ∙ ap (λ (w : World). plays (record (at.now) { world = w }) c) moved
          ∙ ap (λ (x : Playing). plays (record x { world = q.world }) c) now,
    )

-- nothing is next where a line rests
pub no_next : (p : Playing) (left : Work) (at : IsAtWork p left) (q : Playing) (last : Work) → at.now ≡ q → at.last ≡ last → (w : World) → next_of q.world last ≡ rests w → ⊥
no_next p left at q last now work w is =
    let clash : cause at.next at.moved at.rest ≡ rests w = sym at.is_next ∙ ap (λ (x : Playing). next_of x.world at.last) now ∙ ap (next_of q.world) work ∙ is in
    absurd cc

-- so of a line of one cause that is the next one
pub next_is : (c : Cause) (b : Bus) (at : IsAtWork (playing b) (doing c)) → (at.moved ≡ two_ends b) × (does_next at ≡ plays (playing b) c)
next_is c b at = by (causes (playing b) at.now (doing c) at.last at.entries at.done c resting refl)
  where
    by : NoneDone (playing b) (doing c) at.entries at.now at.last ⊎ SomeDone (playing b) resting c at.entries at.now at.last → (at.moved ≡ two_ends b) × (does_next at ≡ plays (playing b) c)
    by (inl x) = that_next (playing b) (doing c) at (playing b) (doing c) x.1 x.2 c resting refl
    by (inr x) =
        let rest = none_caused (plays (playing b) c).now at.now resting at.last x.0 x.2 (plays (playing b) c).now.world refl in
        absurd (no_next (playing b) (doing c) at (plays (playing b) c).now resting rest.1 rest.2 (plays (playing b) c).now.world refl)

-- before it nothing was done
abbrev pub first : (c : Cause) (b : Bus) → IsAtWork (playing b) (doing c)
first c b = record {
  entries = [];
  now = playing b;
  last = doing c;
  done = so_far (playing b) (doing c);
  lives = refl;
  moved = two_ends b;
  rest = resting;
  next = c;
  is_next = refl;
}

-- entries with one at their end are some
pub some : (es : List Entry) (e : Entry) → [] ≡ es ++ e ∷ [] → ⊥
some [] e h = absurd cc
some (x ∷ xs) e h = absurd cc
