-- The accept of a round, and the links behind it.
use Rattle.std.proofs.Common.{◌≡◌, ℕ, ◌<◌, List, [], ◌∷◌, ◌++◌, Option, None, Some, Result, Ok, Err, refl, sym, ap, subst, ◌∙◌, inr, arith}
use Rattle.std.specs.Prelude.{IfErr, MatchResult, OnOk, ⊤}
use Rattle.atspi_match.specs.routing.Queues.{joins}
use Rattle.atspi_match.specs.routing.Queues as queues
use Rattle.atspi_bus.specs.declared.bus.Bus.{Bus}
use Rattle.atspi_bus.specs.View.{given_of}
use Rattle.atspi_live_host.specs.Calls.{Adds, IsNew, IsUnused}
use Rattle.atspi_live_host.specs.declared.call.Did.{Did}
use Rattle.atspi_live_host.specs.declared.call.Did.TheVariants.{Done, NotYet, Failed}
use Rattle.atspi_live_host.specs.declared.call.Call.{Call}
use Rattle.atspi_live_host.specs.declared.call.Call.TheVariants.{Accept}
use Rattle.atspi_live_bus.specs.Asked.{Asked}
use Rattle.atspi_live_bus.specs.Course.{Accepts, Course}
use Rattle.atspi_live_bus.specs.Rounds.{Breaks}
use Rattle.atspi_live_bus.specs.inner.Rounds.{Moves}
use Rattle.atspi_live_bus.specs.inner.Seats.{AreAbove, GoesOpen, HasAccepted, Rise, Stands, numbers_of, seats}
use Rattle.atspi_live_bus.specs.inner.Serving.{numbers}
use Rattle.atspi_live_bus.specs.Stops.{IsWant}
use Rattle.atspi_live_bus.specs.Turns.{StopsAt}
use Rattle.atspi_live_bus.specs.inner.Turns.{Each, Goes, IsSeated, Seats}
use Rattle.atspi_live_bus.specs.declared.link.Link.{Link}
use Rattle.atspi_live_bus.specs.declared.stop.Stop.{Stop}
use Rattle.atspi_live_bus.specs.declared.stop.Stop.TheVariants as stops
use Rattle.atspi_live_bus.proofs.Calling.{given_still, taken_still}
use Rattle.atspi_live_bus.proofs.Going.{course_of, of_new, of_old, same_goes, seated_goes, seated_with, want_stops}
use Rattle.atspi_live_bus.proofs.Telling.{moves_one}
use Rattle.atspi_live_bus.proofs.Turning.{open_both}

-- the links with one more
seats_more : (links : List Link) (l : Link) → seats (links ++ l ∷ []) ≡ seats links ++ (l.number, l.conn) ∷ []
seats_more [] l = refl
seats_more (x ∷ xs) l = ap (λ (w : List (ℕ × ℕ)). (x.number, x.conn) ∷ w) (seats_more xs l)

numbers_more : (ss : List (ℕ × ℕ)) (s : ℕ × ℕ) → numbers_of (ss ++ s ∷ []) ≡ numbers_of ss ++ s.0 ∷ []
numbers_more [] s = refl
numbers_more (x ∷ xs) s = ap (λ (w : List ℕ). x.0 ∷ w) (numbers_more xs s)

-- each connection is below this one
abbrev AreBelow : ℕ → List (ℕ × ℕ) → Type 0
AreBelow c [] = ⊤
AreBelow c (s ∷ ss) = (s.1 < c) × AreBelow c ss

above_more : (c : ℕ) (ss : List (ℕ × ℕ)) (s : ℕ × ℕ) → AreAbove c ss → c < s.1 → AreAbove c (ss ++ s ∷ [])
above_more c [] s a h = (h, tt)
above_more c (x ∷ xs) s a h = (a.0, above_more c xs s a.1 h)

rise_more : (ss : List (ℕ × ℕ)) (s : ℕ × ℕ) → Rise ss → AreBelow s.1 ss → Rise (ss ++ s ∷ [])
rise_more [] s r b = (tt, tt)
rise_more (x ∷ xs) s r b = (above_more x.1 xs s r.0 b.0, rise_more xs s r.1 b.1)

all_below : (n : ℕ) (asked : List Asked) (conn : ℕ → Option ℕ) (cs : List Call) (links : List Link) → ((k c : ℕ) → conn k ≡ Some c → c < n) → Each (λ l. IsSeated asked conn cs l) links → AreBelow n (seats links)
all_below n asked conn cs [] f e = tt
all_below n asked conn cs (l ∷ ls) f e = (f l.number l.conn e.0.0, all_below n asked conn cs ls f e.1)

seated : (b b' : Bus) (links links' : List Link) (k : ℕ) (x : Course) (cs : List Call) → Seats k b b' links links' → Goes b links x cs → Stands links cs → Stands links' (cs ++ Accept (Done k) ∷ [])
seated b b' links links' k x cs q g s = (
  open_both [] cs (Accept (Done k) ∷ [])
      ∙ ap (λ (w : List ℕ). w ++ k ∷ []) s.0
      ∙ ap (λ (n : ℕ). numbers_of (seats links) ++ n ∷ []) (sym q.number_is)
      ∙ sym (numbers_more (seats links) (q.link.number, q.link.conn))
      ∙ ap numbers_of (sym now),
  subst Rise (sym now) (rise_more (seats links) (q.link.number, q.link.conn) s.1 (subst (λ (n : ℕ). AreBelow n (seats links)) (sym q.conn_is) (all_below (given_of b) x.asked x.conn cs links g.below g.each))),
)
  where
    now : seats links' ≡ seats links ++ (q.link.number, q.link.conn) ∷ []
    now = ap seats q.behind_others ∙ seats_more links q.link

-- a link was given, and joined
joins_as : (b b' : Bus) (links links' : List Link) (k : ℕ) (x : Course) (cs : List Call) (q : Seats k b b' links links') → Goes b links x cs → Accepts (Done k) x (seated_with x k q.link.conn b')
joins_as b b' links links' k x cs q g = (
  q.link.conn,
  λ j e. omega (arith, g.below j q.link.conn e, q.conn_is),
  refl,
  q.joined ∙ ap (λ (w : queues.Bus). joins w q.link.conn) (sym g.bus_is),
  of_new x.conn k q.link.conn k refl,
  λ j n. of_old x.conn k q.link.conn j n,
)

pub seated_moves : (b b' : Bus) (links links' : List Link) (k : ℕ) (old new : Option (List Call)) → Seats k b b' links links' → IsNew k (numbers links) → IsUnused old (Done k) → Adds old new (Accept (Done k)) → Moves old new (GoesOpen b links) HasAccepted (GoesOpen b' links')
seated_moves b b' links links' k old None q n u a = tt
seated_moves b b' links links' k None (Some ds) q n u a = absurd a
seated_moves b b' links links' k (Some cs) (Some ds) q n u a = λ x g. (
  seated_with x k q.link.conn b',
  Accept (Done k) ∷ [],
  (Done k, joins_as b b' links links' k x cs q g.0, refl),
  subst (λ (w : List Call). GoesOpen b' links' (seated_with x k q.link.conn b') w) (sym a) (seated_goes b b' links links' k x cs q n u.0 u.1 g.0, seated b b' links links' k x cs q g.0 g.1),
  a,
)

-- an accept moves nothing on any link
accept_goes : (b : Bus) (links : List Link) (did : Did) (x : Course) (cs : List Call) → Goes b links x cs → Goes b links x (cs ++ Accept did ∷ [])
accept_goes b links did x cs g = same_goes b b links x cs (cs ++ Accept did ∷ []) refl refl (λ j. (taken_still j cs (Accept did) refl, given_still j cs (Accept did) refl)) g

-- one for which memory was wanting
breaks : (b : Bus) (links : List Link) (k : ℕ) (stop : Stop) (old new : Option (List Call)) → IsWant stop → Adds old new (Accept (Done k)) → Moves old new (GoesOpen b links) (Breaks stop) (StopsAt stop)
breaks b links k stops.HostFailed old new w a = absurd w
breaks b links k stops.Spent old new w a = absurd w
breaks b links k stops.NoMemory old new w a =
    moves_one old new (Accept (Done k)) (GoesOpen b links) (StopsAt stops.NoMemory) (Breaks stops.NoMemory)
    (λ past x g. (x, inr (k, refl, refl), want_stops stops.NoMemory x (past ++ Accept (Done k) ∷ []) tt (course_of b links x (past ++ Accept (Done k) ∷ []) (accept_goes b links (Done k) x past g.0)))) a

pub admitted : {T : Type 0} (r : Result T Stop) (b b' : Bus) (links links' : List Link) (k : ℕ) (old new : Option (List Call)) → OnOk r (Seats k b b' links links') → IfErr r IsWant → IsNew k (numbers links) → IsUnused old (Done k) → Adds old new (Accept (Done k))
    → MatchResult r (λ _. Moves old new (GoesOpen b links) HasAccepted (GoesOpen b' links')) (λ stop. Moves old new (GoesOpen b links) (Breaks stop) (StopsAt stop))
admitted (Ok x) b b' links links' k old new q w n u a = seated_moves b b' links links' k old new q n u a
admitted (Err stop) b b' links links' k old new q w n u a = breaks b links k stop old new w a

-- none was
pub none_came : (b : Bus) (links : List Link) (old new : Option (List Call)) → Adds old new (Accept NotYet) → Moves old new (GoesOpen b links) HasAccepted (GoesOpen b links)
none_came b links old new a =
    moves_one old new (Accept NotYet) (GoesOpen b links) (GoesOpen b links) HasAccepted
    (λ past x g. (x, (NotYet, refl, refl), (accept_goes b links NotYet x past g.0, (open_both [] past (Accept NotYet ∷ []) ∙ g.1.0, g.1.1)))) a

-- the accept failed
no_spent : stops.HostFailed ≡ stops.Spent → ⊥
no_spent e = cc

pub not_admitted : (b : Bus) (links : List Link) (old new : Option (List Call)) → Adds old new (Accept Failed) → Moves old new (GoesOpen b links) (Breaks stops.HostFailed) (StopsAt stops.HostFailed)
not_admitted b links old new a =
    moves_one old new (Accept Failed) (GoesOpen b links) (StopsAt stops.HostFailed) (Breaks stops.HostFailed)
    (λ past x g. (x, (refl, refl), (course_of b links x (past ++ Accept Failed ∷ []) (accept_goes b links Failed x past g.0), λ e. absurd (no_spent e)))) a
