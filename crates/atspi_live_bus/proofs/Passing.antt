-- The turns of all links, one behind the other, in the order of their connections.
use Rattle.std.proofs.Common.{◌≡◌, ℕ, ◌<◌, ◌≤◌, ◌+◌, Bool, true, false, List, [], ◌∷◌, ◌++◌, length, suc, zero, Option, None, Some, refl, sym, ap, subst, ◌∙◌, inl, inr, append_assoc, append-nil, arith}
use Rattle.std.specs.Prelude.{◌⊎◌}
use Rattle.std.specs.List.{position}
use Rattle.std.proofs.lemmas.List.Quantifiers.{position-Some}
use Rattle.std.proofs.lemmas.Bool.Decides.{leb_tells}
use lib.Dec.{leb}
use Rattle.atspi_bus.specs.declared.bus.Bus.{Bus}
use Rattle.atspi_live_host.specs.Calls.{IsOpen}
use Rattle.atspi_live_host.specs.declared.call.Call.{Call}
use Rattle.atspi_live_bus.specs.declared.link.Link.{Link}
use Rattle.atspi_live_bus.specs.declared.stop.Stop.{Stop}
use Rattle.atspi_live_bus.specs.Course.{Course}
use Rattle.atspi_live_bus.specs.Opened.{open_behind, open_from}
use Rattle.atspi_live_bus.specs.Rounds.{AreTurns, IsCut, IsHeard, IsPart, IsTurn, MayGive}
use Rattle.atspi_live_bus.specs.inner.Rounds.{Moves}
use Rattle.atspi_live_bus.specs.inner.Seats.{AreAbove, BothDo, GoesOpen, Rise, Stands, Takes, TakesCut, conn_at, due, left, number_at, numbers_of, seats}
use Rattle.atspi_live_bus.specs.Turns.{StopsAt}
use Rattle.atspi_live_bus.specs.inner.Turns.{Goes}
use Rattle.atspi_live_bus.proofs.Placing.{first_place, none_further, position_first, some_none}
use Rattle.atspi_live_bus.proofs.Shutting.{conn_there, number_open}
use Rattle.atspi_live_bus.proofs.Telling.{moves_both, moves_if, moves_none, moves_with}
use Rattle.atspi_live_bus.proofs.Turning.{AreForLinks, due_left, for_heard, for_turn, no_more, numbers_left, open_both, rise_left, skips}

true_false : true ≡ false → ⊥
true_false e = cc

-- all that are above are due
all_due : (from c : ℕ) (ss : List (ℕ × ℕ)) → from ≤ c + 1 → AreAbove c ss → due from ss ≡ numbers_of ss
all_due from c [] h a = refl
all_due from c (s ∷ ss) h a = elim (leb_tells from s.1) [
  | inl e ↦ rw e.0 (ap (λ (w : List ℕ). s.0 ∷ w) (all_due from c ss h a.1))
  | inr e ↦ absurd (omega (arith, h, a.0, e.1))
]

pub due_zero : (ss : List (ℕ × ℕ)) → due 0 ss ≡ numbers_of ss
due_zero [] = refl
due_zero (s ∷ ss) = elim (leb_tells 0 s.1) [ inl e ↦ rw e.0 (ap (λ (w : List ℕ). s.0 ∷ w) (due_zero ss)) | inr e ↦ absurd (omega (arith, e.1)) ]

above_there : (c : ℕ) (links : List Link) (at : ℕ) → at < length links → AreAbove c (seats links) → c < conn_at links at
above_there c [] at h a = absurd (omega (arith, h))
above_there c (l ∷ ls) zero h a = a.0
above_there c (l ∷ ls) (suc at) h a = above_there c ls at (omega (arith, h)) a.1

-- the first that is due, and then those behind it
due_first : (from : ℕ) (links : List Link) (at : ℕ) → at < length links → leb from (conn_at links at) ≡ true → ((k : ℕ) → k < at → leb from (conn_at links k) ≡ false) → Rise (seats links)
    → due from (seats links) ≡ number_at links at ∷ due (conn_at links at + 1) (seats links)
due_first from [] at h t f r = absurd (omega (arith, h))
due_first from (l ∷ ls) zero h t f r = elim (leb_tells (l.conn + 1) l.conn) [
  | inl e ↦ absurd (omega (arith, e.1))
  | inr e ↦ rw t (rw e.0 (ap (λ (w : List ℕ). l.number ∷ w) (all_due from l.conn (seats ls) low r.0 ∙ sym (all_due (l.conn + 1) l.conn (seats ls) (omega arith) r.0))))
]
  where
    low : from ≤ l.conn + 1
    low = elim (leb_tells from l.conn) [ inl g ↦ omega (arith, g.1) | inr g ↦ absurd (true_false (sym t ∙ g.0)) ]
due_first from (l ∷ ls) (suc at) h t f r = elim (leb_tells (conn_at ls at + 1) l.conn) [
  | inl e ↦ absurd (omega (arith, e.1, above_there l.conn ls at (omega (arith, h)) r.0))
  | inr e ↦ rw (f 0 (omega arith)) (rw e.0 (due_first from ls at (omega (arith, h)) t (λ k q. f (suc k) (omega (arith, q))) r.1))
]

pub due_found : (from : ℕ) (links : List Link) (at : ℕ) → position (λ (l : Link). leb from l.conn) links ≡ Some at → at < length links → Rise (seats links) → due from (seats links) ≡ number_at links at ∷ due (conn_at links at + 1) (seats links)
due_found from [] at e h r = absurd (omega (arith, h))
due_found from (l ∷ ls) at e h r =
    let p = position-Some (λ (x : Link). leb from x.conn) (l ∷ ls) at l e in
    due_first from (l ∷ ls) at h (ap (λ (c : ℕ). leb from c) (sym (conn_there (l ∷ ls) at l h)) ∙ p.1)
    (λ k q. ap (λ (c : ℕ). leb from c) (sym (conn_there (l ∷ ls) k l (omega (arith, h, q)))) ∙ p.2 k q) r

-- how far a round is: what the turns that are to come make of it
pub record Passes (n from : ℕ) (start now : List Link) (x : Course) (past calls : List Call) (y : Course) : Type 0 where
  pub turns : (whole : Bool) (rest : List Call) (z : Course) → AreTurns whole y (past ++ calls) (due from (seats now)) rest z → AreTurns whole x past (numbers_of (seats start)) (calls ++ rest) z
  pub few : length (due from (seats now)) + n ≤ length start

seats_count : (links : List Link) → length (numbers_of (seats links)) ≡ length links
seats_count [] = refl
seats_count (l ∷ ls) = ap (λ (n : ℕ). suc n) (seats_count ls)

pub passes_none : (b : Bus) (links : List Link) (calls : Option (List Call)) → Moves calls calls (GoesOpen b links) (Passes 0 0 links links) (GoesOpen b links)
passes_none b links calls =
    moves_none calls (GoesOpen b links) (GoesOpen b links) (Passes 0 0 links links)
    (λ past x g. (
      x,
      record {
        turns = λ whole rest z t. subst (λ (w : List ℕ). AreTurns whole x past w rest z) (due_zero (seats links)) (subst (λ (w : List Call). AreTurns whole x w (due 0 (seats links)) rest z) (append-nil past) t);
        few = omega (arith, ap (λ (w : List ℕ). length w) (due_zero (seats links)), seats_count links);
      },
      g,
    ))

-- a turn, of links by their numbers and connections
open_read : (links : List Link) (past read : List Call) → AreForLinks read → open_behind past ≡ numbers_of (seats links) → open_behind (past ++ read) ≡ numbers_of (left (seats links) read)
open_read links past read a e = open_both [] past read ∙ ap (λ (w : List ℕ). open_from w read) e ∙ sym (numbers_left (seats links) read a)

heard_there : (whole : Bool) (k c : ℕ) (old : List Link) (x : Course) (past calls : List Call) (y : Course) → open_behind past ≡ numbers_of (seats old) → IsHeard whole x past (numbers_of (seats old)) k c calls y → IsHeard whole x past (open_behind past) k c calls y
heard_there whole k c old x past calls y e h = subst (λ (w : List ℕ). IsHeard whole x past w k c calls y) (sym e) h

given_there : (whole : Bool) (k c : ℕ) (old : List Link) (x mid : Course) (past read calls : List Call) (y : Course) → open_behind past ≡ numbers_of (seats old) → IsHeard true x past (numbers_of (seats old)) k c read mid
    → MayGive whole mid (past ++ read) (numbers_of (left (seats old) read)) k c calls y → MayGive whole mid (past ++ read) (open_behind (past ++ read)) k c calls y
given_there whole k c old x mid past read calls y e h g =
    subst (λ (w : List ℕ). MayGive whole mid (past ++ read) w k c calls y) (sym (open_read old past read (for_heard x past (numbers_of (seats old)) k c read mid h) e)) g

pub turn_of : (k : ℕ) (old new : List Link) (x : Course) (past calls : List Call) (y : Course) → open_behind past ≡ numbers_of (seats old) → Takes k old new x past calls y → IsTurn x past k calls y
turn_of k old new x past calls y e t =
    let d : BothDo true k t.1 old x past calls y = t.3 in
    (t.1, d.0, d.1, d.2, t.2, heard_there true k t.1 old x past d.1 d.0 e d.3, given_there true k t.1 old x d.0 past d.1 d.2 y e d.3 d.4, d.5)

part_of : (k c : ℕ) (old : List Link) (x : Course) (past calls : List Call) (y : Course) → open_behind past ≡ numbers_of (seats old) → IsHeard false x past (numbers_of (seats old)) k c calls y ⊎ BothDo false k c old x past calls y → IsPart x past k c calls y
part_of k c old x past calls y e (inl h) = inl (heard_there false k c old x past calls y e h)
part_of k c old x past calls y e (inr d) = inr (d.0, d.1, d.2, heard_there true k c old x past d.1 d.0 e d.3, given_there false k c old x d.0 past d.1 d.2 y e d.3 d.4, d.5)

pub cut_of : (k : ℕ) (old : List Link) (x : Course) (past calls : List Call) (y : Course) → open_behind past ≡ numbers_of (seats old) → IsOpen k (numbers_of (seats old)) → TakesCut k old x past calls y → IsCut x past k calls y
cut_of k old x past calls y e o t = inr (subst (λ (w : List ℕ). IsOpen k w) (sym e) o, t.0, t.1, part_of k t.0 old x past calls y e t.2)

-- the links behind calls for links
stands_on : (old new : List Link) (past calls : List Call) → AreForLinks calls → seats new ≡ left (seats old) calls → Stands old past → Stands new (past ++ calls)
stands_on old new past calls a e s = (
  open_read old past calls a s.0 ∙ ap numbers_of (sym e),
  subst Rise (sym e) (rise_left (seats old) calls a s.1),
)

passes_one : (n from at : ℕ) (start old new : List Link) (x y z : Course) (past xs turn : List Call) → at < length old → position (λ (l : Link). leb from l.conn) old ≡ Some at → Stands old (past ++ xs) → Passes n from start old x past xs y
    → Takes (number_at old at) old new y (past ++ xs) turn z → Passes (n + 1) (conn_at old at + 1) start new x past (xs ++ turn) z
passes_one n from at start old new x y z past xs turn h e s p t = record {
  turns = λ whole rest v r. subst (λ (w : List Call). AreTurns whole x past (numbers_of (seats start)) w v) (sym (append_assoc xs turn rest)) (p.turns whole (turn ++ rest) v (all whole rest v r));
  few = omega (arith, p.few, ap (λ (w : List ℕ). length w) first, ap (λ (w : List ℕ). length w) after, no_more (due (conn_at old at + 1) (seats old)) turn for_links);
}
  where
    is_turn : IsTurn y (past ++ xs) (number_at old at) turn z
    is_turn = turn_of (number_at old at) old new y (past ++ xs) turn z s.0 t

    for_links : AreForLinks turn
    for_links = for_turn y (past ++ xs) (number_at old at) turn z is_turn

    first : due from (seats old) ≡ number_at old at ∷ due (conn_at old at + 1) (seats old)
    first = due_found from old at e h s.1

    after : due (conn_at old at + 1) (seats new) ≡ open_from (due (conn_at old at + 1) (seats old)) turn
    after = ap (λ (w : List (ℕ × ℕ)). due (conn_at old at + 1) w) t.0 ∙ due_left (conn_at old at + 1) (seats old) turn for_links

    all : (whole : Bool) (rest : List Call) (v : Course) → AreTurns whole z (past ++ (xs ++ turn)) (due (conn_at old at + 1) (seats new)) rest v → AreTurns whole y (past ++ xs) (due from (seats old)) (turn ++ rest) v
    all whole rest v r =
        subst (λ (w : List ℕ). AreTurns whole y (past ++ xs) w (turn ++ rest) v) (sym first)
        (inr (inr (
          subst (λ (w : List ℕ). IsOpen (number_at old at) w) (sym s.0) (number_open old at h),
          (
            z,
            turn,
            rest,
            is_turn,
            skips whole (due (conn_at old at + 1) (seats old)) z (past ++ xs) turn rest v for_links
                (subst (λ (w : List ℕ). AreTurns whole z ((past ++ xs) ++ turn) w rest v) after
                (subst (λ (w : List Call). AreTurns whole z w (due (conn_at old at + 1) (seats new)) rest v) (sym (append_assoc past xs turn)) r)),
            refl,
          ),
        )))

-- the links behind a turn
stands_then : (k : ℕ) (old new : List Link) (x : Course) (past calls : List Call) (y : Course) → Stands old past → Takes k old new x past calls y → Stands new (past ++ calls)
stands_then k old new x past calls y s t = stands_on old new past calls (for_turn x past k calls y (turn_of k old new x past calls y s.0 t)) t.0 s

pub passes_on : (b0 b b' : Bus) (n from at : ℕ) (start old new : List Link) (before mid now : Option (List Call)) → at < length old → position (λ (l : Link). leb from l.conn) old ≡ Some at
    → Moves before mid (GoesOpen b0 start) (Passes n from start old) (GoesOpen b old) → Moves mid now (Goes b old) (Takes (number_at old at) old new) (Goes b' new)
    → Moves before now (GoesOpen b0 start) (Passes (n + 1) (conn_at old at + 1) start new) (GoesOpen b' new)
passes_on b0 b b' n from at start old new before mid now h e p t =
    moves_both before mid now (GoesOpen b0 start) (GoesOpen b old) (GoesOpen b' new) (Passes n from start old) (Takes (number_at old at) old new) (Passes (n + 1) (conn_at old at + 1) start new)
    (λ x y z past xs ys s u g v. passes_one n from at start old new x y z past xs ys h e g.1 u v) p
    (moves_with mid now (Goes b old) (GoesOpen b old) (Goes b' new) (GoesOpen b' new) (Takes (number_at old at) old new) (Takes (number_at old at) old new)
    (λ x past s. s.0) (λ x y past calls s u g. (u, (g, stands_then (number_at old at) old new x past calls y s.1 u))) t)

-- behind the last turn
none_due : (from : ℕ) (links : List Link) → first_place (λ (l : Link). leb from l.conn) links ≡ None → due from (seats links) ≡ []
none_due from [] e = refl
none_due from (l ∷ ls) e = elim (leb_tells from l.conn) [
  | inl f ↦ absurd (some_none 0 (rw f.0 at e))
  | inr f ↦ rw f.0 (none_due from ls (none_further (first_place (λ (x : Link). leb from x.conn) ls) (rw f.0 at e)))
]

-- all turns
abbrev pub TurnsOf : Bool → List Link → Course → List Call → List Call → Course → Type 0
TurnsOf whole start x past calls y = AreTurns whole x past (numbers_of (seats start)) calls y

all_turns : (n from : ℕ) (start now : List Link) (x y : Course) (past calls : List Call) → due from (seats now) ≡ [] → Passes n from start now x past calls y → TurnsOf true start x past calls y
all_turns n from start now x y past calls e q =
    subst (λ (w : List Call). AreTurns true x past (numbers_of (seats start)) w y) (append-nil calls)
    (q.turns true [] y (subst (λ (w : List ℕ). AreTurns true y (past ++ calls) w [] y) (sym e) (refl, refl)))

pub all_passed : (b0 b : Bus) (n from : ℕ) (start now : List Link) (before after : Option (List Call)) → n ≡ length start → Moves before after (GoesOpen b0 start) (Passes n from start now) (GoesOpen b now)
    → Moves before after (GoesOpen b0 start) (TurnsOf true start) (GoesOpen b now)
all_passed b0 b n from start now before after e p =
    moves_if before after (GoesOpen b0 start) (GoesOpen b now) (GoesOpen b now) (Passes n from start now) (TurnsOf true start)
    (λ x y past calls s q g. (all_turns n from start now x y past calls (nothing (due from (seats now)) (omega (arith, e, q.few))) q, g)) p
  where
    nothing : (ks : List ℕ) → length ks ≤ 0 → ks ≡ []
    nothing [] h = refl
    nothing (k ∷ ks) h = absurd (omega (arith, h))

pub none_left : (b0 b : Bus) (n from : ℕ) (start now : List Link) (before after : Option (List Call)) → position (λ (l : Link). leb from l.conn) now ≡ None → Moves before after (GoesOpen b0 start) (Passes n from start now) (GoesOpen b now)
    → Moves before after (GoesOpen b0 start) (TurnsOf true start) (GoesOpen b now)
none_left b0 b n from start now before after e p =
    moves_if before after (GoesOpen b0 start) (GoesOpen b now) (GoesOpen b now) (Passes n from start now) (TurnsOf true start)
    (λ x y past calls s q g. (all_turns n from start now x y past calls (none_due from now (sym (position_first (λ (l : Link). leb from l.conn) now) ∙ e)) q, g)) p

-- a turn that was broken off
pub cut_passed : (b0 b : Bus) (n from at : ℕ) (start old : List Link) (stop : Stop) (before mid now : Option (List Call)) → at < length old → position (λ (l : Link). leb from l.conn) old ≡ Some at
    → Moves before mid (GoesOpen b0 start) (Passes n from start old) (GoesOpen b old) → Moves mid now (Goes b old) (TakesCut (number_at old at) old) (StopsAt stop) → Moves before now (GoesOpen b0 start) (TurnsOf false start) (StopsAt stop)
cut_passed b0 b n from at start old stop before mid now h e p t =
    moves_both before mid now (GoesOpen b0 start) (GoesOpen b old) (StopsAt stop) (Passes n from start old) (TakesCut (number_at old at) old) (TurnsOf false start)
    (λ x y z past xs ys s u g v. u.turns false ys z (subst (λ (k : List ℕ). AreTurns false y (past ++ xs) k ys z) (sym (due_found from old at e h g.1.1)) (inl (cut_of (number_at old at) old y (past ++ xs) ys z g.1.0 (number_open old at h) v)))) p
    (moves_with mid now (Goes b old) (GoesOpen b old) (StopsAt stop) (StopsAt stop) (TakesCut (number_at old at) old) (TakesCut (number_at old at) old) (λ x past s. s.0) (λ x y past calls s u g. (u, g)) t)
