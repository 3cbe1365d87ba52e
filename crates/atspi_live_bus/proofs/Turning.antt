-- The links that calls for links leave open, and the turns of those that are still to come.
use Rattle.std.proofs.Common.{◌≡◌, ℕ, ◌≤◌, Bool, true, false, List, [], ◌∷◌, ◌++◌, length, Option, refl, sym, ap, subst, ◌∙◌, inl, inr, append_assoc, arith}
use Rattle.std.specs.Prelude.{◌⊎◌, ⊤}
use Rattle.std.proofs.lemmas.Bool.Decides.{eqb_tells, leb_tells}
use Rattle.atspi_message.specs.Envelope.{Envelope}
use Rattle.atspi_match.specs.declared.routing.closing.Closing.{Closing}
use Rattle.atspi_live_host.specs.Calls.{IsOpen, taken, without}
use Rattle.atspi_live_host.specs.declared.call.Did.{Did}
use Rattle.atspi_live_host.specs.declared.call.Did.TheVariants.{Done, NotYet, End, Failed}
use Rattle.atspi_live_host.specs.declared.call.Call.{Call}
use Rattle.atspi_live_host.specs.declared.call.Call.TheVariants.{Listen, Accept, Connect, Read, Write, Close}
use Rattle.atspi_live_bus.specs.Closes.{AreShut, AreTaken, Attends, Ceases, FollowsRead, FollowsWrite, IsShut, Parts}
use Rattle.atspi_live_bus.specs.Course.{Course}
use Rattle.atspi_live_bus.specs.Opened.{open_behind, open_from, open_then}
use Rattle.atspi_live_bus.specs.Rounds.{AreTurns, IsGift, IsHeard, MayGive, IsTurn}
use Rattle.atspi_live_bus.specs.inner.Rounds.{AreCloses, IsClose}
use Rattle.atspi_live_bus.specs.inner.Seats.{AreAbove, Rise, due, left, numbers_of, without_seat}

-- a read, a write or a close
abbrev pub IsForLink : Call → Type 0
IsForLink (Listen path did) = ⊥
IsForLink (Accept did) = ⊥
IsForLink (Connect path did) = ⊥
IsForLink (Read k bytes did) = ⊤
IsForLink (Write k bytes did) = ⊤
IsForLink (Close k) = ⊤

abbrev pub AreForLinks : List Call → Type 0
AreForLinks [] = ⊤
AreForLinks (c ∷ cs) = IsForLink c × AreForLinks cs

pub for_both : (xs ys : List Call) → AreForLinks xs → AreForLinks ys → AreForLinks (xs ++ ys)
for_both [] ys a b = b
for_both (x ∷ xs) ys a b = (a.0, for_both xs ys a.1 b)

for_close : (c : Call) → IsClose c → IsForLink c
for_close (Listen path did) h = h
for_close (Accept did) h = h
for_close (Connect path did) h = h
for_close (Read k bytes did) h = tt
for_close (Write k bytes did) h = tt
for_close (Close k) h = tt

pub closes_both : (xs ys : List Call) → AreCloses xs → AreCloses ys → AreCloses (xs ++ ys)
closes_both [] ys a b = b
closes_both (x ∷ xs) ys a b = (a.0, closes_both xs ys a.1 b)

pub for_closes : (calls : List Call) → AreCloses calls → AreForLinks calls
for_closes [] h = tt
for_closes (c ∷ cs) h = (for_close c h.0, for_closes cs h.1)

-- the closes that a call brings
shut_closes : (conn : ℕ → Option ℕ) (links : List ℕ) (c : ℕ) (calls : List Call) → IsShut conn links c calls → AreCloses calls
shut_closes conn links c calls (inl s) = rw s.1 tt
shut_closes conn links c calls (inr s) = rw s.3 (tt, tt)

pub all_shut_closes : (conn : ℕ → Option ℕ) (links : List ℕ) (cs : List Closing) (calls : List Call) → AreShut conn links cs calls → AreCloses calls
all_shut_closes conn links [] calls s = rw s tt
all_shut_closes conn links (c ∷ cs) calls s = rw s.4 (closes_both s.0 s.1 (shut_closes conn links c.conn s.0 s.2) (all_shut_closes conn (open_from links s.0) cs s.1 s.3))

pub taken_closes : (k c : ℕ) (x : Course) (links : List ℕ) (es : List Envelope) (calls : List Call) (y : Course) → AreTaken k c x links es calls y → AreCloses calls
taken_closes k c x links [] calls y t = rw t.0 tt
taken_closes k c x links (e ∷ es) calls y t = rw t.8 (closes_both t.3 t.4 (all_shut_closes x.conn links t.2 t.3 t.6) (taken_closes k c t.1 (open_from links t.3) es t.4 y t.7))

parts_closes : (whole : Bool) (k c : ℕ) (x : Course) (links : List ℕ) (calls : List Call) (y : Course) → Parts whole k c x links calls y → AreCloses calls
parts_closes true k c x links calls y p = rw p.4 (tt, all_shut_closes x.conn (without k links) p.0 p.1 p.3)
parts_closes false k c x links calls y p = rw p.0 (tt, tt)

ceases_closes : (k c : ℕ) (x : Course) (links rest : List ℕ) (calls : List Call) (y : Course) → Ceases true k c x links rest calls y → AreCloses calls
ceases_closes k c x links rest calls y (inl p) = rw p.1 tt
ceases_closes k c x links rest calls y (inr (inl p)) = rw p.2 tt
ceases_closes k c x links rest calls y (inr (inr p)) = parts_closes true k c x links calls y p.2

for_read : (k c : ℕ) (x : Course) (links : List ℕ) (did : Did) (t : List ℕ) (calls : List Call) (y : Course) → FollowsRead true k c x links did t calls y → AreForLinks calls
for_read k c x links did t calls y (inl p) = for_closes calls (parts_closes true k c x links calls y p.1)
for_read k c x links did t calls y (inr p) =
    let a : Attends true k c x links t calls y = p.1 in
    for_closes calls (rw a.6 (closes_both a.2 a.3 (taken_closes k c x links a.0 a.2 a.1 a.4) (ceases_closes k c a.1 (open_from links a.2) a.5.0 a.3 y a.5.2)))

for_write : (k c : ℕ) (x : Course) (links : List ℕ) (did : Did) (calls : List Call) (y : Course) → FollowsWrite true k c x links did calls y → AreForLinks calls
for_write k c x links (Done n) calls y f = rw f.0 tt
for_write k c x links NotYet calls y f = rw f.0 tt
for_write k c x links End calls y f = absurd f
for_write k c x links Failed calls y f = for_closes calls (parts_closes true k c x links calls y f)

pub for_heard : (x : Course) (past : List Call) (links : List ℕ) (k c : ℕ) (calls : List Call) (y : Course) → IsHeard true x past links k c calls y → AreForLinks calls
for_heard x past links k c calls y h = rw h.5 (tt, for_read k c x links h.1 (taken k (past ++ Read k h.0 h.1 ∷ [])) h.2 y h.4)

pub for_given : (x : Course) (past : List Call) (links : List ℕ) (k c : ℕ) (calls : List Call) (y : Course) → MayGive true x past links k c calls y → AreForLinks calls
for_given x past links k c calls y (inl e) = rw e.1 tt
for_given x past links k c calls y (inr (inl e)) = rw e.3 tt
for_given x past links k c calls y (inr (inr e)) =
    let g : IsGift true x past links k c calls y = e.1 in
    rw g.9 (tt, for_write k c g.0 links g.2 g.3 y g.8)

pub for_turn : (x : Course) (past : List Call) (k : ℕ) (calls : List Call) (y : Course) → IsTurn x past k calls y → AreForLinks calls
for_turn x past k calls y t = rw t.7 (for_both t.2 t.3 (for_heard x past (open_behind past) k t.0 t.2 t.1 t.5) (for_given t.1 (past ++ t.2) (open_behind (past ++ t.2)) k t.0 t.3 y t.6))

-- calls behind others
pub open_both : (links : List ℕ) (xs ys : List Call) → open_from links (xs ++ ys) ≡ open_from (open_from links xs) ys
open_both links [] ys = refl
open_both links (x ∷ xs) ys = open_both (open_then links x) xs ys

-- a link that was closed
not_without : (k : ℕ) (ks : List ℕ) → IsOpen k (without k ks) → ⊥
not_without k [] o = o
not_without k (x ∷ xs) o = elim (eqb_tells x k) [
  | inl e ↦ not_without k xs (rw e.0 at o)
  | inr e ↦ let p : (x ≡ k) ⊎ IsOpen k (without k xs) = rw e.0 at o in elim p [ inl f ↦ e.1 f | inr f ↦ not_without k xs f ]
]

open_before : (j k : ℕ) (ks : List ℕ) → IsOpen j (without k ks) → IsOpen j ks
open_before j k [] o = o
open_before j k (x ∷ xs) o = elim (eqb_tells x k) [
  | inl e ↦ inr (open_before j k xs (rw e.0 at o))
  | inr e ↦ let p : (x ≡ j) ⊎ IsOpen j (without k xs) = rw e.0 at o in elim p [ inl f ↦ inl f | inr f ↦ inr (open_before j k xs f) ]
]

pub still_shut : (j : ℕ) (ks : List ℕ) (calls : List Call) → AreForLinks calls → (IsOpen j ks → ⊥) → IsOpen j (open_from ks calls) → ⊥
still_shut j ks [] a n o = n o
still_shut j ks (Listen path did ∷ cs) a n o = absurd a.0
still_shut j ks (Accept did ∷ cs) a n o = absurd a.0
still_shut j ks (Connect path did ∷ cs) a n o = absurd a.0
still_shut j ks (Read k bytes did ∷ cs) a n o = still_shut j ks cs a.1 n o
still_shut j ks (Write k bytes did ∷ cs) a n o = still_shut j ks cs a.1 n o
still_shut j ks (Close k ∷ cs) a n o = still_shut j (without k ks) cs a.1 (λ p. n (open_before j k ks p)) o

shut_behind : (j : ℕ) (past calls : List Call) → AreForLinks calls → (IsOpen j (open_behind past) → ⊥) → IsOpen j (open_behind (past ++ calls)) → ⊥
shut_behind j past calls a n o = still_shut j (open_behind past) calls a n (subst (λ (w : List ℕ). IsOpen j w) (open_both [] past calls) o)

-- the turns of links among which one more is that has none
the_other : (whole : Bool) (j k : ℕ) (ks : List ℕ) (x : Course) (past calls : List Call) (y : Course) → (IsOpen j (open_behind past) → ⊥)
    → ((z : Course) (before behind : List Call) → (IsOpen j (open_behind before) → ⊥) → AreTurns whole z before (without j ks) behind y → AreTurns whole z before ks behind y) → AreTurns whole x past (k ∷ without j ks) calls y
    → AreTurns whole x past (k ∷ ks) calls y
the_other whole j k ks x past calls y n rest (inl c) = inl c
the_other whole j k ks x past calls y n rest (inr (inl s)) = inr (inl (s.0, rest x past calls n s.1))
the_other whole j k ks x past calls y n rest (inr (inr s)) =
    let t = s.1 in
    inr (inr (s.0, (t.0, t.1, t.2, t.3, rest t.0 (past ++ t.1) t.2 (shut_behind j past t.1 (for_turn x past k t.1 t.0 t.3) n) t.4, t.5)))

skipped : (whole : Bool) (j : ℕ) (ks : List ℕ) (x : Course) (past calls : List Call) (y : Course) → (IsOpen j (open_behind past) → ⊥) → AreTurns whole x past (without j ks) calls y → AreTurns whole x past ks calls y
skipped whole j [] x past calls y n t = t
skipped whole j (k ∷ ks) x past calls y n t = elim (eqb_tells k j) [
  | inl e ↦ inr (inl ((λ o. n (subst (λ (i : ℕ). IsOpen i (open_behind past)) e.1 o)), skipped whole j ks x past calls y n (rw e.0 at t)))
  | inr e ↦ the_other whole j k ks x past calls y n (λ z before behind m r. skipped whole j ks z before behind y m r) (rw e.0 at t)
]

-- those that a turn closes have none behind it
pub skips : (whole : Bool) (ks : List ℕ) (x : Course) (past turn calls : List Call) (y : Course) → AreForLinks turn → AreTurns whole x (past ++ turn) (open_from ks turn) calls y → AreTurns whole x (past ++ turn) ks calls y
skips whole ks x past [] calls y a t = t
skips whole ks x past (Listen path did ∷ cs) calls y a t = absurd a.0
skips whole ks x past (Accept did ∷ cs) calls y a t = absurd a.0
skips whole ks x past (Connect path did ∷ cs) calls y a t = absurd a.0
skips whole ks x past (Read k bytes did ∷ cs) calls y a t =
    subst (λ (w : List Call). AreTurns whole x w ks calls y) (append_assoc past (Read k bytes did ∷ []) cs)
    (skips whole ks x (past ++ Read k bytes did ∷ []) cs calls y a.1 (subst (λ (w : List Call). AreTurns whole x w (open_from ks cs) calls y) (sym (append_assoc past (Read k bytes did ∷ []) cs)) t))
skips whole ks x past (Write k bytes did ∷ cs) calls y a t =
    subst (λ (w : List Call). AreTurns whole x w ks calls y) (append_assoc past (Write k bytes did ∷ []) cs)
    (skips whole ks x (past ++ Write k bytes did ∷ []) cs calls y a.1 (subst (λ (w : List Call). AreTurns whole x w (open_from ks cs) calls y) (sym (append_assoc past (Write k bytes did ∷ []) cs)) t))
skips whole ks x past (Close k ∷ cs) calls y a t =
    skipped whole k ks x (past ++ Close k ∷ cs) calls y shut
    (subst (λ (w : List Call). AreTurns whole x w (without k ks) calls y) (append_assoc past (Close k ∷ []) cs)
    (skips whole (without k ks) x (past ++ Close k ∷ []) cs calls y a.1 (subst (λ (w : List Call). AreTurns whole x w (open_from (without k ks) cs) calls y) (sym (append_assoc past (Close k ∷ []) cs)) t)))
  where
    shut : IsOpen k (open_behind (past ++ Close k ∷ cs)) → ⊥
    shut o = still_shut k (without k (open_behind past)) cs a.1 (not_without k (open_behind past)) (subst (λ (w : List ℕ). IsOpen k w) (open_both [] past (Close k ∷ cs)) o)

-- what calls leave of the links, by their numbers and by their connections
pub numbers_without : (k : ℕ) (ss : List (ℕ × ℕ)) → numbers_of (without_seat k ss) ≡ without k (numbers_of ss)
numbers_without k [] = refl
numbers_without k (s ∷ ss) = elim (eqb_tells s.0 k) [ inl e ↦ rw e.0 (numbers_without k ss) | inr e ↦ rw e.0 (ap (λ (w : List ℕ). s.0 ∷ w) (numbers_without k ss)) ]

pub numbers_left : (ss : List (ℕ × ℕ)) (calls : List Call) → AreForLinks calls → numbers_of (left ss calls) ≡ open_from (numbers_of ss) calls
numbers_left ss [] a = refl
numbers_left ss (Listen path did ∷ cs) a = absurd a.0
numbers_left ss (Accept did ∷ cs) a = absurd a.0
numbers_left ss (Connect path did ∷ cs) a = absurd a.0
numbers_left ss (Read k bytes did ∷ cs) a = numbers_left ss cs a.1
numbers_left ss (Write k bytes did ∷ cs) a = numbers_left ss cs a.1
numbers_left ss (Close k ∷ cs) a = numbers_left (without_seat k ss) cs a.1 ∙ ap (λ (w : List ℕ). open_from w cs) (numbers_without k ss)

due_without : (from k : ℕ) (ss : List (ℕ × ℕ)) → due from (without_seat k ss) ≡ without k (due from ss)
due_without from k [] = refl
due_without from k (s ∷ ss) = elim (eqb_tells s.0 k) [
  | inl e ↦ elim (leb_tells from s.1) [ inl f ↦ rw e.0 (rw f.0 (rw e.0 (due_without from k ss))) | inr f ↦ rw e.0 (rw f.0 (due_without from k ss)) ]
  | inr e ↦ elim (leb_tells from s.1) [ inl f ↦ rw e.0 (rw f.0 (rw e.0 (ap (λ (w : List ℕ). s.0 ∷ w) (due_without from k ss)))) | inr f ↦ rw e.0 (rw f.0 (due_without from k ss)) ]
]

pub due_left : (from : ℕ) (ss : List (ℕ × ℕ)) (calls : List Call) → AreForLinks calls → due from (left ss calls) ≡ open_from (due from ss) calls
due_left from ss [] a = refl
due_left from ss (Listen path did ∷ cs) a = absurd a.0
due_left from ss (Accept did ∷ cs) a = absurd a.0
due_left from ss (Connect path did ∷ cs) a = absurd a.0
due_left from ss (Read k bytes did ∷ cs) a = due_left from ss cs a.1
due_left from ss (Write k bytes did ∷ cs) a = due_left from ss cs a.1
due_left from ss (Close k ∷ cs) a = due_left from (without_seat k ss) cs a.1 ∙ ap (λ (w : List ℕ). open_from w cs) (due_without from k ss)

above_without : (c k : ℕ) (ss : List (ℕ × ℕ)) → AreAbove c ss → AreAbove c (without_seat k ss)
above_without c k [] a = tt
above_without c k (s ∷ ss) a = elim (eqb_tells s.0 k) [ inl e ↦ rw e.0 (above_without c k ss a.1) | inr e ↦ rw e.0 (a.0, above_without c k ss a.1) ]

rise_without : (k : ℕ) (ss : List (ℕ × ℕ)) → Rise ss → Rise (without_seat k ss)
rise_without k [] r = tt
rise_without k (s ∷ ss) r = elim (eqb_tells s.0 k) [ inl e ↦ rw e.0 (rise_without k ss r.1) | inr e ↦ rw e.0 (above_without s.1 k ss r.0, rise_without k ss r.1) ]

pub rise_left : (ss : List (ℕ × ℕ)) (calls : List Call) → AreForLinks calls → Rise ss → Rise (left ss calls)
rise_left ss [] a r = r
rise_left ss (Listen path did ∷ cs) a r = absurd a.0
rise_left ss (Accept did ∷ cs) a r = absurd a.0
rise_left ss (Connect path did ∷ cs) a r = absurd a.0
rise_left ss (Read k bytes did ∷ cs) a r = rise_left ss cs a.1 r
rise_left ss (Write k bytes did ∷ cs) a r = rise_left ss cs a.1 r
rise_left ss (Close k ∷ cs) a r = rise_left (without_seat k ss) cs a.1 (rise_without k ss r)

fewer_without : (k : ℕ) (ks : List ℕ) → length (without k ks) ≤ length ks
fewer_without k [] = omega arith
fewer_without k (x ∷ xs) = elim (eqb_tells x k) [ inl e ↦ rw e.0 (omega (arith, fewer_without k xs)) | inr e ↦ rw e.0 (omega (arith, fewer_without k xs)) ]

pub no_more : (ks : List ℕ) (calls : List Call) → AreForLinks calls → length (open_from ks calls) ≤ length ks
no_more ks [] a = omega arith
no_more ks (Listen path did ∷ cs) a = absurd a.0
no_more ks (Accept did ∷ cs) a = absurd a.0
no_more ks (Connect path did ∷ cs) a = absurd a.0
no_more ks (Read k bytes did ∷ cs) a = no_more ks cs a.1
no_more ks (Write k bytes did ∷ cs) a = no_more ks cs a.1
no_more ks (Close k ∷ cs) a = omega (arith, no_more (without k ks) cs a.1, fewer_without k ks)
