-- A line at work goes on as far as it can: of the causes that write nothing, but for the first of a line, each takes an end that stopped. So what a progress is does not hang on how many causes it may make.
use Rattle.std.proofs.Common.{◌≡◌, ℕ, zero, suc, ◌<◌, ◌-◌, Bool, true, false, List, [], ◌∷◌, length, Option, None, Some, refl, sym, ap, ◌∙◌, subst, arith}
use Rattle.std.specs.Prelude.{nat_le, if◌then◌else◌}
use Rattle.atspi_tree_model.specs.Forest.{first_of}
use Rattle.atspi_script_lines.specs.declared.line.Party.{Party}
use Rattle.atspi_trace.specs.Entry.{Entry}
use Rattle.atspi_trace.specs.World.{Standing, here, stopped, away, Role, the_registry, an_application, a_reader, Said, Letter, End, World}
use Rattle.atspi_trace.specs.Ends.{end_at}
use Rattle.atspi_trace.specs.Causes.{Cause, renews, starts_app, starts_reader, edits, calls, swaps_face, exits, shows, tells_busy, tells_quiet, routes, unjoins, gets, missing, Done, took, taken, routed, on_end, does}
use Rattle.atspi_trace.specs.Work.{Work, resting, doing, moving_up, moving_down, turning, draining, up_turn, down_turn, first_up, first_down, next_turn}
use Rattle.atspi_trace.specs.Work.{Next, cause, rests, moved_up, moved_down, next_up, next_down, of_end, next_of_turns, next_of_drain, next_of}
use Rattle.atspi_trace.specs.Due.{Progress, freed, wrote, went, progress, bound}
use Rattle.atspi_trace_laws.proofs.OfOrder.Parties.{no_none, same_some}
use Rattle.atspi_trace_laws.proofs.OfOrder.Allowed.{Allowed, IsWork, bare-work, NextFine}
use Rattle.atspi_trace_laws.proofs.OfOrder.Next.{next_fine}
use Rattle.atspi_trace_laws.proofs.OfOrder.Effects.{received}
use Rattle.atspi_trace_played.proofs.BuildingFading.{IsTurn, stopped_count, count_most, count_ended}

pub not_empty : {A : Type 0} (x : A) (xs : List A) → x ∷ xs ≡ [] → ⊥
not_empty x xs h = absurd (omega (arith, ap length h))

-- TURNS THAT WRITE
took_writes : (w : World) (conn : ℕ) (letter : Letter) (who : Party) (role : Role) → (took w conn letter who role).entries ≡ [] → ⊥
took_writes w conn letter who (the_registry s) h = not_empty _ _ h
took_writes w conn letter who (an_application s) h = not_empty _ _ h
took_writes w conn letter who (a_reader h) e = not_empty _ _ e

pub gets_writes : (w : World) (conn : ℕ) (e : End) (letter : Letter) (rest : List Letter) → end_at w.ends conn ≡ Some e → e.down ≡ letter ∷ rest → (does w (gets conn)).entries ≡ [] → ⊥
gets_writes w conn e letter rest h link none =
    took_writes (received w conn e letter) conn letter e.who e.role
    (sym (ap (λ (d : Done). d.entries) (ap (λ o. on_end w o (λ e. taken w conn e e.down)) h ∙ ap (λ l. taken w conn e l) link)) ∙ none)

routes_writes : (w : World) (conn : ℕ) (e : End) (said : Said) (rest : List Said) → end_at w.ends conn ≡ Some e → e.up ≡ said ∷ rest → (does w (routes conn)).entries ≡ [] → ⊥
routes_writes w conn e said rest h link none =
    not_empty _ _ (sym (ap (λ (d : Done). d.entries) (ap (λ o. on_end w o (λ e. routed w conn e.who e.up)) h ∙ ap (λ l. routed w conn e.who l) link)) ∙ none)

-- a turn that writes nothing takes one who stopped
turn_less : (w : World) (c : Cause) → IsTurn c → Allowed w c → (does w c).entries ≡ [] → stopped_count (does w c).world.ends < stopped_count w.ends
turn_less w (routes conn) t a none = absurd (routes_writes w conn a.0 a.1 a.2 a.3.there a.4 none)
turn_less w (unjoins conn) t a none = count_ended w conn a.0 a.1 a.2
turn_less w (gets conn) t a none = absurd (gets_writes w conn a.0 a.1 a.2 a.3.there a.4 none)
turn_less w (renews quota) t a none = absurd t
turn_less w (starts_app name) t a none = absurd t
turn_less w starts_reader t a none = absurd t
turn_less w (edits conn edit) t a none = absurd t
turn_less w (calls conn name node deed) t a none = absurd t
turn_less w swaps_face t a none = absurd t
turn_less w (exits conn) t a none = absurd t
turn_less w (shows conn app) t a none = absurd t
turn_less w (tells_busy turns) t a none = absurd t
turn_less w tells_quiet t a none = absurd t

-- the next turn is one
up_is_turn : (conn : ℕ) (st : Standing) (link : List Said) (c : Cause) → up_turn conn st link ≡ Some c → IsTurn c
up_is_turn conn here (said ∷ rest) c h = subst IsTurn (same_some (routes conn) c h) tt
up_is_turn conn here [] c h = absurd (no_none c h)
up_is_turn conn stopped link c h = subst IsTurn (same_some (unjoins conn) c h) tt
up_is_turn conn away link c h = absurd (no_none c h)

down_is_turn : (conn : ℕ) (st : Standing) (link : List Letter) (c : Cause) → down_turn conn st link ≡ Some c → IsTurn c
down_is_turn conn here (letter ∷ rest) c h = subst IsTurn (same_some (gets conn) c h) tt
down_is_turn conn here [] c h = absurd (no_none c h)
down_is_turn conn stopped link c h = absurd (no_none c h)
down_is_turn conn away link c h = absurd (no_none c h)

of_both : (o p : Option Cause) (c : Cause) → first_of o p ≡ Some c → ((d : Cause) → o ≡ Some d → IsTurn d) → ((d : Cause) → p ≡ Some d → IsTurn d) → IsTurn c
of_both None p c h f g = g c h
of_both (Some x) p c h f g = f c h

first_up_turn : (conn : ℕ) (es : List End) (c : Cause) → first_up conn es ≡ Some c → IsTurn c
first_up_turn conn [] c h = absurd (no_none c h)
first_up_turn conn (e ∷ es) c h = of_both (up_turn conn e.standing e.up) (first_up (suc conn) es) c h (λ d t. up_is_turn conn e.standing e.up d t) (λ d t. first_up_turn (suc conn) es d t)

first_down_turn : (conn : ℕ) (es : List End) (c : Cause) → first_down conn es ≡ Some c → IsTurn c
first_down_turn conn [] c h = absurd (no_none c h)
first_down_turn conn (e ∷ es) c h =
    of_both (down_turn conn e.standing e.down) (first_down (suc conn) es) c h (λ d t. down_is_turn conn e.standing e.down d t) (λ d t. first_down_turn (suc conn) es d t)

pub is_turn : (w : World) (c : Cause) → next_turn w ≡ Some c → IsTurn c
is_turn w c h = of_both (first_up 0 w.ends) (first_down 0 w.ends) c h (λ d t. first_up_turn 0 w.ends d t) (λ d t. first_down_turn 0 w.ends d t)

turn_allowed : (w : World) (o : Option Cause) (c : Cause) → next_turn w ≡ o → o ≡ Some c → NextFine w (next_of_drain w o) → Allowed w c
turn_allowed w None c h g f = absurd (no_none c g)
turn_allowed w (Some d) c h g f = subst (Allowed w) (same_some d c g) f.1

-- ENOUGH CAUSES for what is left
abbrev pub Enough : ℕ → World → Work → Type 0
Enough n w resting = Unit {0}
Enough n w (turning count left) = stopped_count w.ends < n
Enough n w draining = stopped_count w.ends < n
Enough n w work = 0 < n

abbrev pub Goes_silent : ℕ → Next → Type 0
Goes_silent n (cause c v rest) = (does v c).entries ≡ [] → Enough n (does v c).world rest
Goes_silent n (rests v) = Unit {0}

pub enough : (w : World) (work : Work) → Enough (bound w) w work
enough w resting = tt
enough w (doing c) = omega arith
enough w (moving_up conn count) = omega arith
enough w (moving_down conn count) = omega arith
enough w (turning count left) = omega (arith, count_most w.ends)
enough w draining = omega (arith, count_most w.ends)

module _ (n : ℕ) (w : World) where
  silent_up : (conn count : ℕ) (e : End) (st : Standing) (m : ℕ) (link : List Said) → end_at w.ends conn ≡ Some e → e.up ≡ link → Goes_silent n (next_up w conn count st m link)
  silent_up conn count e here m (said ∷ rest) h u = by (nat_le (missing said.message m) count)
    where
      by : (b : Bool) → Goes_silent n (if b then cause (routes conn) w (moving_up conn (count - missing said.message m)) else rests (moved_up w conn count))
      by true = λ none. absurd (routes_writes w conn e said rest h u none)
      by false = tt
  silent_up conn count e here m [] h u = tt
  silent_up conn zero e stopped m link h u = tt
  silent_up conn (suc count) e stopped m link h u = λ none. tt
  silent_up conn count e away m link h u = tt

  silent_down : (conn count : ℕ) (e : End) (st : Standing) (m : ℕ) (link : List Letter) → end_at w.ends conn ≡ Some e → e.down ≡ link → Goes_silent n (next_down w conn count st m link)
  silent_down conn count e here m (letter ∷ rest) h u = by (nat_le (missing letter.said.message m) count)
    where
      by : (b : Bool) → Goes_silent n (if b then cause (gets conn) w (moving_down conn (count - missing letter.said.message m)) else rests (moved_down w conn count))
      by true = λ none. absurd (gets_writes w conn e letter rest h u none)
      by false = tt
  silent_down conn count e here m [] h u = tt
  silent_down conn count e stopped m link h u = tt
  silent_down conn count e away m link h u = tt

  silent_at_up : (conn count : ℕ) (o : Option End) → end_at w.ends conn ≡ o → Goes_silent n (of_end w o (λ e. next_up w conn count e.standing e.up_moved e.up))
  silent_at_up conn count None h = tt
  silent_at_up conn count (Some e) h = silent_up conn count e e.standing e.up_moved e.up h refl

  silent_at_down : (conn count : ℕ) (o : Option End) → end_at w.ends conn ≡ o → Goes_silent n (of_end w o (λ e. next_down w conn count e.standing e.down_moved e.down))
  silent_at_down conn count None h = tt
  silent_at_down conn count (Some e) h = silent_down conn count e e.standing e.down_moved e.down h refl

  one_less : (c : Cause) → next_turn w ≡ Some c → stopped_count w.ends < suc n → (does w c).entries ≡ [] → stopped_count (does w c).world.ends < n
  one_less c h room none =
      let less = turn_less w c (is_turn w c h) (turn_allowed w (next_turn w) c refl h (next_fine w draining tt)) none in
      omega (arith, less, room)

  silent_turns : (count left : ℕ) (o : Option Cause) → next_turn w ≡ o → stopped_count w.ends < suc n → Goes_silent n (next_of_turns w count left o)
  silent_turns count left None h room = tt
  silent_turns count zero (Some c) h room = λ none. absurd (not_empty _ _ none)
  silent_turns count (suc left) (Some c) h room = λ none. one_less c h room none

  silent_drain : (o : Option Cause) → next_turn w ≡ o → stopped_count w.ends < suc n → Goes_silent n (next_of_drain w o)
  silent_drain None h room = λ none. tt
  silent_drain (Some c) h room = λ none. one_less c h room none

pub silent_next : (n : ℕ) (w : World) (work : Work) → Enough (suc n) w work → Goes_silent n (next_of w work)
silent_next n w resting e = tt
silent_next n w (doing c) e = λ none. tt
silent_next n w (moving_up conn count) e = silent_at_up n w conn count (end_at w.ends conn) refl
silent_next n w (moving_down conn count) e = silent_at_down n w conn count (end_at w.ends conn) refl
silent_next n w (turning count left) e = silent_turns n w count left (next_turn w) refl e
silent_next n w draining e = silent_drain n w (next_turn w) refl e

-- THE SAME WITH ANY FUEL THAT IS ENOUGH
wrote_same : (go to : World → Work → Progress) (w : World) (free : Option ℕ) (work : Work) (l : List Entry) → (l ≡ [] → go w work ≡ to w work) → wrote go w free work l ≡ wrote to w free work l
wrote_same go to w free work [] f = f refl
wrote_same go to w free work (e ∷ l) f = refl

went_same : (n m : ℕ) (w : World) (x : Next) → NextFine w x → Goes_silent n x → Goes_silent m x
    → ((v : World) (work : Work) → IsWork v work → Enough n v work → Enough m v work → progress n v work ≡ progress m v work)
    → went (λ v rest. progress n v rest) x ≡ went (λ v rest. progress m v rest) x
went_same n m w (rests v) f g h ih = refl
went_same n m w (cause c v rest) f g h ih =
    wrote_same (λ u o. progress n u o) (λ u o. progress m u o) (does v c).world (freed c) rest (does v c).entries (λ none. ih (does v c).world rest (bare-work (does v c).world rest f.2) (g none) (h none))

no_room : (w : World) (work : Work) → Enough 0 w work → work ≡ resting
no_room w resting e = refl
no_room w (doing c) e = absurd (omega (arith, e))
no_room w (moving_up conn count) e = absurd (omega (arith, e))
no_room w (moving_down conn count) e = absurd (omega (arith, e))
no_room w (turning count left) e = absurd (omega (arith, e))
no_room w draining e = absurd (omega (arith, e))

pub steady : (n m : ℕ) (w : World) (work : Work) → IsWork w work → Enough n w work → Enough m w work → progress n w work ≡ progress m w work
steady zero zero w work f e d = refl
steady zero (suc m) w work f e d = subst (λ o. progress zero w o ≡ progress (suc m) w o) (sym (no_room w work e)) refl
steady (suc n) zero w work f e d = subst (λ o. progress (suc n) w o ≡ progress zero w o) (sym (no_room w work d)) refl
steady (suc n) (suc m) w work f e d = went_same n m w (next_of w work) (next_fine w work f) (silent_next n w work e) (silent_next m w work d) (λ v rest g a b. steady n m v rest g a b)
