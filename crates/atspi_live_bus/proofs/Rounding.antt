-- The rounds of a run, one behind the other.
use Rattle.std.proofs.Common.{◌≡◌, ◌<◌, ℕ, suc, ◌+◌, Bool, true, false, List, [], ◌∷◌, ◌++◌, Option, None, Some, Result, Ok, Err, refl, sym, ap, subst, inl, inr, append-nil, arith}
use Rattle.std.specs.Prelude.{◌≢◌, MatchResult, IfErr}
use Rattle.atspi_bus.specs.declared.bus.Bus.{Bus}
use Rattle.atspi_bus.specs.View.{bus_of}
use Rattle.atspi_match.specs.routing.Queues as queues
use Rattle.atspi_live_host.specs.declared.call.Did.{Did}
use Rattle.atspi_live_host.specs.declared.call.Did.TheVariants.{Failed}
use Rattle.atspi_live_host.specs.declared.call.Call.{Call}
use Rattle.atspi_live_host.specs.declared.call.Call.TheVariants.{Listen}
use Rattle.atspi_live_host.specs.Calls.{Adds}
use Rattle.atspi_live_bus.specs.Course.{Course, IsCourse, start}
use Rattle.atspi_live_bus.specs.Opened.{open_behind}
use Rattle.atspi_live_bus.specs.Rounds.{AreRounds, AreTurns, Breaks, IsRound, IsRun}
use Rattle.atspi_live_bus.specs.inner.Rounds.{Moves}
use Rattle.atspi_live_bus.specs.inner.Seats.{GoesOpen, HasAccepted, Stands}
use Rattle.atspi_live_bus.specs.Service.{HasNoCall, IsService, IsStopped, OfTold}
use Rattle.atspi_live_bus.specs.Stops.{IsFree, status_of}
use Rattle.atspi_live_bus.specs.Turns.{StopsAt}
use Rattle.atspi_live_bus.specs.declared.link.Link.{Link}
use Rattle.atspi_live_bus.specs.declared.stop.Stop.{Stop}
use Rattle.atspi_live_bus.specs.declared.stop.Stop.TheVariants as stops
use Rattle.atspi_live_bus.proofs.Calling.{told_map, told_more}
use Rattle.atspi_live_bus.proofs.Going.{begins_going, course_of, service_of, stops_stopped}
use Rattle.atspi_live_bus.proofs.Passing.{TurnsOf}
use Rattle.atspi_live_bus.proofs.Telling.{moves_both, moves_if, told_then}

-- an accept, and the turns behind it
one_round : (whole : Bool) (links : List Link) (x y z : Course) (past xs ys : List Call) → Stands links (past ++ xs) → HasAccepted x past xs y → TurnsOf whole links y (past ++ xs) ys z → IsRound whole x past (xs ++ ys) z
one_round whole links x y z past xs ys s p q = (
  p.0,
  y,
  ys,
  p.1,
  subst (λ (w : List Call). AreTurns whole y (past ++ w) (open_behind (past ++ w)) ys z) p.2 (subst (λ (ks : List ℕ). AreTurns whole y (past ++ xs) ks ys z) (sym s.0) q),
  ap (λ (w : List Call). w ++ ys) p.2,
)

pub round_of : (b b' b'' : Bus) (links mid_links new_links : List Link) (old mid new : Option (List Call)) → Moves old mid (GoesOpen b links) HasAccepted (GoesOpen b' mid_links) → Moves mid new (GoesOpen b' mid_links) (TurnsOf true mid_links) (GoesOpen b'' new_links)
    → Moves old new (GoesOpen b links) (IsRound true) (GoesOpen b'' new_links)
round_of b b' b'' links mid_links new_links old mid new p q =
    moves_both old mid new (GoesOpen b links) (GoesOpen b' mid_links) (GoesOpen b'' new_links) HasAccepted (TurnsOf true mid_links) (IsRound true) (λ x y z past xs ys s u g v. one_round true mid_links x y z past xs ys g.1 u v) p q

-- a round that was not done to its end
free_breaks : (stop : Stop) (x : Course) (past calls : List Call) (y : Course) → IsFree stop → IsRound false x past calls y → StopsAt stop y (past ++ calls) → Breaks stop x past calls y
free_breaks stops.HostFailed x past calls y f r s = absurd f
free_breaks stops.Spent x past calls y f r s = (r, s.1 refl)
free_breaks stops.NoMemory x past calls y f r s = inl r

round_cut : (b b' : Bus) (links mid_links : List Link) (stop : Stop) (old mid new : Option (List Call)) → IsFree stop → Moves old mid (GoesOpen b links) HasAccepted (GoesOpen b' mid_links) → Moves mid new (GoesOpen b' mid_links) (TurnsOf false mid_links) (StopsAt stop)
    → Moves old new (GoesOpen b links) (Breaks stop) (StopsAt stop)
round_cut b b' links mid_links stop old mid new f p q =
    moves_if old new (GoesOpen b links) (StopsAt stop) (StopsAt stop) (IsRound false) (Breaks stop) (λ x y past calls s r t. (free_breaks stop x past calls y f r t, t))
    (moves_both old mid new (GoesOpen b links) (GoesOpen b' mid_links) (StopsAt stop) HasAccepted (TurnsOf false mid_links) (IsRound false) (λ x y z past xs ys s u g v. one_round false mid_links x y z past xs ys g.1 u v) p q)

pub passed : {T : Type 0} (r : Result T Stop) (b b' b'' : Bus) (links mid_links new_links : List Link) (old mid new : Option (List Call)) → IfErr r IsFree → Moves old mid (GoesOpen b links) HasAccepted (GoesOpen b' mid_links)
    → MatchResult r (λ _. Moves mid new (GoesOpen b' mid_links) (TurnsOf true mid_links) (GoesOpen b'' new_links)) (λ stop. Moves mid new (GoesOpen b' mid_links) (TurnsOf false mid_links) (StopsAt stop))
    → MatchResult r (λ _. Moves old new (GoesOpen b links) (IsRound true) (GoesOpen b'' new_links)) (λ stop. Moves old new (GoesOpen b links) (Breaks stop) (StopsAt stop))
passed (Ok x) b b' b'' links mid_links new_links old mid new f p q = round_of b b' b'' links mid_links new_links old mid new p q
passed (Err stop) b b' b'' links mid_links new_links old mid new f p q = round_cut b b' links mid_links stop old mid new f p q

-- a listen and so many rounds of one bus, and where it stands with its links
abbrev pub HasRounds : List ℕ → ℕ → Did → Bus → List Link → List Call → Type 0
HasRounds path n did b links calls = (behind : List Call) × (y : Course) × AreRounds n start (Listen path did ∷ []) behind y × GoesOpen b links y calls × (calls ≡ Listen path did ∷ behind)

first : (path : List ℕ) (did : Did) (b : Bus) (links : List Link) → bus_of b ≡ queues.empty_bus 16777216 → links ≡ [] → HasRounds path 0 did b links (Listen path did ∷ [])
first path did b links new none = ([], start, (refl, refl), (begins_going b links (Listen path did ∷ []) new none (λ k. (refl, refl)), subst (λ (w : List Link). Stands w (Listen path did ∷ [])) (sym none) (refl, tt)), refl)

pub no_rounds : (path : List ℕ) (did : Did) (b : Bus) (links : List Link) (old new : Option (List Call)) → bus_of b ≡ queues.empty_bus 16777216 → links ≡ [] → OfTold HasNoCall old → Adds old new (Listen path did) → OfTold (HasRounds path 0 did b links) new
no_rounds path did b links old new e none n a =
    told_more HasNoCall (HasRounds path 0 did b links) old new (Listen path did) a
    (λ cs w. subst (λ (v : List Call). HasRounds path 0 did b links (v ++ Listen path did ∷ [])) (sym w) (first path did b links e none)) n

more : (path : List ℕ) (n : ℕ) (did : Did) (b b' : Bus) (links links' : List Link) (past : List Call) (s : HasRounds path n did b links past) (calls : List Call) (y : Course) → IsRound true s.1 past calls y → GoesOpen b' links' y (past ++ calls)
    → HasRounds path (n + 1) did b' links' (past ++ calls)
more path n did b b' links links' past s calls y r g = (
  s.0 ++ calls,
  y,
  subst (λ (m : ℕ). AreRounds m start (Listen path did ∷ []) (s.0 ++ calls) y) one_more (s.1, s.0, calls, s.2, subst (λ (w : List Call). IsRound true s.1 w calls y) s.4 r, refl),
  g,
  ap (λ (w : List Call). w ++ calls) s.4,
)
  where
    one_more : suc n ≡ n + 1
    one_more = omega arith

pub rounds_more : (path : List ℕ) (n : ℕ) (did : Did) (b b' : Bus) (links links' : List Link) (old new : Option (List Call)) → OfTold (HasRounds path n did b links) old → Moves old new (GoesOpen b links) (IsRound true) (GoesOpen b' links') → OfTold (HasRounds path (n + 1) did b' links') new
rounds_more path n did b b' links links' old new s r =
    told_then old new (GoesOpen b links) (GoesOpen b' links') (IsRound true) (HasRounds path n did b links) (HasRounds path (n + 1) did b' links')
    (λ past u. (u.1, u.3, λ calls y v g. more path n did b b' links links' past u calls y v g)) s r

-- the run
pub not_listened : (path : List ℕ) (rounds : ℕ) (old new : Option (List Call)) → OfTold HasNoCall old → Adds old new (Listen path Failed) → OfTold (IsRun path 7 rounds) new
not_listened path rounds old new b a =
    told_more HasNoCall (IsRun path 7 rounds) old new (Listen path Failed) a (λ cs w. inl (refl, ap (λ (v : List Call). v ++ Listen path Failed ∷ []) w)) b

stopped : (path : List ℕ) (n rounds : ℕ) (stop : Stop) (did : Did) (b : Bus) (links : List Link) (past : List Call) (s : HasRounds path n did b links past) (calls : List Call) (y : Course) → did ≢ Failed → n < rounds → Breaks stop s.1 past calls y → StopsAt stop y (past ++ calls)
    → IsRun path (status_of stop) rounds (past ++ calls)
stopped path n rounds stop did b links past s calls y d few r t =
    inr (
      did,
      s.0 ++ calls,
      d,
      record {
        whole = n;
        done = s.0;
        last = calls;
        led = s.1;
        ended = y;
        are = s.2;
        ends = inr (stop, refl, few, subst (λ (w : List Call). Breaks stop s.1 w calls y) s.4 r);
        all = refl;
        fits = subst (λ (w : List Call). IsCourse y w) (ap (λ (w : List Call). w ++ calls) s.4) t.0;
      },
      ap (λ (w : List Call). w ++ calls) s.4,
    )

pub run_stopped : (path : List ℕ) (n rounds : ℕ) (stop : Stop) (did : Did) (b : Bus) (links : List Link) (old new : Option (List Call)) → did ≢ Failed → n < rounds → OfTold (HasRounds path n did b links) old → Moves old new (GoesOpen b links) (Breaks stop) (StopsAt stop)
    → OfTold (IsRun path (status_of stop) rounds) new
run_stopped path n rounds stop did b links old new d few s r =
    told_then old new (GoesOpen b links) (StopsAt stop) (Breaks stop) (HasRounds path n did b links) (IsRun path (status_of stop) rounds)
    (λ past u. (u.1, u.3, λ calls y v t. stopped path n rounds stop did b links past u calls y d few v t)) s r

done : (path : List ℕ) (n rounds : ℕ) (did : Did) (b : Bus) (links : List Link) (calls : List Call) → did ≢ Failed → n ≡ rounds → HasRounds path n did b links calls → IsRun path 8 rounds calls
done path n rounds did b links calls d e s =
    inr (
      did,
      s.0,
      d,
      record {
        whole = n;
        done = s.0;
        last = [];
        led = s.1;
        ended = s.1;
        are = s.2;
        ends = inl (refl, e, refl, refl);
        all = sym (append-nil s.0);
        fits = subst (λ (w : List Call). IsCourse s.1 w) s.4 (course_of b links s.1 calls s.3.0);
      },
      s.4,
    )

pub run_done : (path : List ℕ) (n rounds : ℕ) (did : Did) (b : Bus) (links : List Link) (calls : Option (List Call)) → did ≢ Failed → n ≡ rounds → OfTold (HasRounds path n did b links) calls → OfTold (IsRun path 8 rounds) calls
run_done path n rounds did b links None d e s = tt
run_done path n rounds did b links (Some cs) d e s = done path n rounds did b links cs d e s

-- what is said
pub rounds_service : (path : List ℕ) (n : ℕ) (did : Did) (b : Bus) (links : List Link) (calls : Option (List Call)) → OfTold (HasRounds path n did b links) calls → OfTold IsService calls
rounds_service path n did b links calls s = told_map (HasRounds path n did b links) IsService calls (λ cs w. service_of w.1 cs (course_of b links w.1 cs w.3.0)) s

pub rounds_stopped : (path : List ℕ) (n : ℕ) (stop : Stop) (did : Did) (b : Bus) (links : List Link) (old new : Option (List Call)) → OfTold (HasRounds path n did b links) old → Moves old new (GoesOpen b links) (Breaks stop) (StopsAt stop) → OfTold (IsStopped stop) new
rounds_stopped path n stop did b links old new s r =
    told_then old new (GoesOpen b links) (StopsAt stop) (Breaks stop) (HasRounds path n did b links) (IsStopped stop) (λ past u. (u.1, u.3, λ calls y v t. stops_stopped stop y (past ++ calls) t)) s r
