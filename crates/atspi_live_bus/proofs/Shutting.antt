-- Closes, and the links that they leave.
use Rattle.std.proofs.Common.{◌≡◌, ℕ, ◌<◌, ◌≤◌, ◌==◌, true, false, List, [], ◌∷◌, ◌++◌, length, suc, slice_index_or, slice_set, zero, Option, None, Some, refl, sym, ap, subst, ◌∙◌, inl, inr, append_assoc, append-nil, arith, option_map}
use Rattle.std.specs.Prelude.{◌⊎◌}
use Rattle.std.proofs.lemmas.Bool.Decides.{eqb_tells}
use Rattle.std.specs.List.{position, remove}
use Rattle.std.proofs.lemmas.List.Quantifiers.{position-Some}
use lib.ListN.{get_or}
use Rattle.atspi_match.specs.declared.routing.closing.Closing.{Closing}
use Rattle.atspi_match.specs.routing.Queues.{leaves}
use Rattle.atspi_match.specs.routing.Queues as queues
use Rattle.atspi_bus.specs.declared.bus.Bus.{Bus}
use Rattle.atspi_bus.specs.View.{bus_of, given_of}
use Rattle.atspi_live_host.specs.Calls.{Adds, IsNew, IsOpen, taken, given, without}
use Rattle.atspi_live_host.specs.inner.Calls.{Differ}
use Rattle.atspi_live_host.specs.declared.call.Call.{Call}
use Rattle.atspi_live_host.specs.declared.call.Call.TheVariants.{Listen, Accept, Connect, Read, Write, Close}
use Rattle.atspi_live_bus.specs.declared.link.Link.{Link}
use Rattle.atspi_live_bus.specs.declared.stop.Stop.{Stop}
use Rattle.atspi_live_bus.specs.declared.stop.Stop.TheVariants as stops
use Rattle.atspi_live_bus.specs.Asked.{Asked, leaving, Leads, Runs, Spends}
use Rattle.atspi_live_bus.specs.Closes.{AreShut, IsShut}
use Rattle.atspi_live_bus.specs.Course.{AreTellings, Course, Steps, told_all}
use Rattle.atspi_live_bus.specs.Opened.{open_from}
use Rattle.atspi_live_bus.specs.inner.Rounds.{AreCloses, Moves}
use Rattle.atspi_live_bus.specs.inner.Serving.{Serves, numbers}
use Rattle.atspi_live_bus.specs.inner.Seats.{Dismisses, Leaves, Settles, Settling, conn_at, held, left, left_by, number_at, numbers_of, seats, without_seat}
use Rattle.atspi_live_bus.specs.Turns.{StopsAt}
use Rattle.atspi_live_bus.specs.inner.Turns.{Each, Goes, IsSeated, IsTold}
use Rattle.atspi_live_bus.proofs.Asking.{one_run, runs_both}
use Rattle.atspi_live_bus.proofs.Calling.{given_still, taken_append, taken_still}
use Rattle.atspi_live_bus.proofs.Going.{all_told, on_with, rest_goes, same_goes, same_some, still_goes, stopped_at, tells_both, tells_nobodys, tells_same, told_closings}
use Rattle.atspi_live_bus.proofs.Placing.{first_place, none_further, position_first, some_none}
use Rattle.atspi_live_bus.proofs.Telling.{moves_both, moves_if, moves_none, moves_one, moves_step}
use Rattle.atspi_live_bus.proofs.Turning.{all_shut_closes, for_closes, numbers_left, numbers_without, open_both}

pub left_both : (ss : List (ℕ × ℕ)) (xs ys : List Call) → left ss (xs ++ ys) ≡ left (left ss xs) ys
left_both ss [] ys = refl
left_both ss (x ∷ xs) ys = left_both (left_by ss x) xs ys

pub seats_set : (links : List Link) (at : ℕ) (l m : Link) → l ≡ slice_index_or links at l → m.number ≡ l.number → m.conn ≡ l.conn → at < length links → seats (slice_set links at m) ≡ seats links
seats_set [] at l m e n c h = absurd (omega (arith, h))
seats_set (x ∷ xs) zero l m e n c h = rw (n ∙ ap (λ (w : Link). w.number) e) (rw (c ∙ ap (λ (w : Link). w.conn) e) refl)
seats_set (x ∷ xs) (suc at) l m e n c h = ap (λ (w : List (ℕ × ℕ)). (x.number, x.conn) ∷ w) (seats_set xs at l m e n c (omega (arith, h)))

-- the number and the connection of a link at its place
pub number_there : (links : List Link) (at : ℕ) (l : Link) → at < length links → l ≡ slice_index_or links at l → number_at links at ≡ l.number
number_there [] at l h e = absurd (omega (arith, h))
number_there (x ∷ xs) zero l h e = sym (ap (λ (w : Link). w.number) e)
number_there (x ∷ xs) (suc at) l h e = number_there xs at l (omega (arith, h)) e

pub number_set : (links : List Link) (at : ℕ) (m : Link) → at < length links → number_at (slice_set links at m) at ≡ m.number
number_set [] at m h = absurd (omega (arith, h))
number_set (x ∷ xs) zero m h = refl
number_set (x ∷ xs) (suc at) m h = number_set xs at m (omega (arith, h))

pub numbers_are : (links : List Link) → numbers_of (seats links) ≡ numbers links
numbers_are [] = refl
numbers_are (l ∷ ls) = ap (λ (w : List ℕ). l.number ∷ w) (numbers_are ls)

-- it is open
pub number_open : (links : List Link) (at : ℕ) → at < length links → IsOpen (number_at links at) (numbers_of (seats links))
number_open [] at h = absurd (omega (arith, h))
number_open (l ∷ ls) zero h = inl refl
number_open (l ∷ ls) (suc at) h = inr (number_open ls at (omega (arith, h)))

-- a link taken out
none_out : (k : ℕ) (links : List Link) → IsNew k (numbers links) → without_seat k (seats links) ≡ seats links
none_out k [] n = refl
none_out k (l ∷ ls) n = elim (eqb_tells l.number k) [ inl e ↦ absurd (n.0 e.1) | inr e ↦ rw e.0 (ap (λ (w : List (ℕ × ℕ)). (l.number, l.conn) ∷ w) (none_out k ls n.1)) ]

other_there : (k : ℕ) (links : List Link) (at : ℕ) → at < length links → IsNew k (numbers links) → number_at links at ≡ k → ⊥
other_there k [] at h n e = omega (arith, h)
other_there k (l ∷ ls) zero h n e = n.0 e
other_there k (l ∷ ls) (suc at) h n e = other_there k ls at (omega (arith, h)) n.1 e

-- a link that stands where it is looked for first is the first with its number
near_place : (k : ℕ) (links : List Link) (at : ℕ) → at < length links → number_at links at ≡ k → Differ (numbers links) → first_place (λ (x : Link). x.number == k) links ≡ Some at
near_place k [] at h n d = absurd (omega (arith, h))
near_place k (l ∷ ls) zero h n d = elim (eqb_tells l.number k) [ inl e ↦ rw e.0 refl | inr e ↦ absurd (e.1 n) ]
near_place k (l ∷ ls) (suc at) h n d = elim (eqb_tells l.number k) [
  | inl e ↦ absurd (other_there l.number ls at (omega (arith, h)) d.0 (n ∙ sym e.1))
  | inr e ↦ rw e.0 (ap (λ (w : Option ℕ). option_map (λ n. suc n) w) (near_place k ls at (omega (arith, h)) n d.1))
]

pub near_first : (k : ℕ) (links : List Link) (at : ℕ) (l : Link) → at < length links → l ≡ slice_index_or links at l → (l.number == k) ≡ true → Differ (numbers links) → Some at ≡ position (λ (x : Link). x.number == k) links
near_first k links at l h e t d = sym (position_first (λ (x : Link). x.number == k) links ∙ near_place k links at h (number_there links at l h e ∙ same) d)
  where
    same : l.number ≡ k
    same = elim (eqb_tells l.number k) [ inl q ↦ q.1 | inr q ↦ absurd (cc (t, q.0)) ]

pub seats_out : (links : List Link) (at : ℕ) → at < length links → Differ (numbers links) → seats (remove links at) ≡ without_seat (number_at links at) (seats links)
seats_out [] at h d = absurd (omega (arith, h))
seats_out (l ∷ ls) zero h d = elim (eqb_tells l.number l.number) [ inl e ↦ rw e.0 (sym (none_out l.number ls d.0)) | inr e ↦ absurd (e.1 refl) ]
seats_out (l ∷ ls) (suc at) h d = elim (eqb_tells l.number (number_at ls at)) [
  | inl e ↦ absurd (other_there l.number ls at (omega (arith, h)) d.0 (sym e.1))
  | inr e ↦ rw e.0 (ap (λ (w : List (ℕ × ℕ)). (l.number, l.conn) ∷ w) (seats_out ls at (omega (arith, h)) d.1))
]

-- and its connection
pub conn_there : (links : List Link) (at : ℕ) (d : Link) → at < length links → (get_or links at d).conn ≡ conn_at links at
conn_there [] at d h = absurd (omega (arith, h))
conn_there (l ∷ ls) zero d h = refl
conn_there (l ∷ ls) (suc at) d h = conn_there ls at d (omega (arith, h))

pub conn_is : (links : List Link) (at : ℕ) (l : Link) → at < length links → l ≡ slice_index_or links at l → l.conn ≡ conn_at links at
conn_is [] at l h e = absurd (omega (arith, h))
conn_is (x ∷ xs) zero l h e = ap (λ (w : Link). w.conn) e
conn_is (x ∷ xs) (suc at) l h e = conn_is xs at l (omega (arith, h)) e

pub conn_set : (links : List Link) (at : ℕ) (m : Link) → at < length links → conn_at (slice_set links at m) at ≡ m.conn
conn_set [] at m h = absurd (omega (arith, h))
conn_set (x ∷ xs) zero m h = refl
conn_set (x ∷ xs) (suc at) m h = conn_set xs at m (omega (arith, h))

-- which is that of its seat
seat_each : (asked : List Asked) (conn : ℕ → Option ℕ) (cs : List Call) (links : List Link) (at : ℕ) → at < length links → Each (λ l. IsSeated asked conn cs l) links → conn (number_at links at) ≡ Some (conn_at links at)
seat_each asked conn cs [] at h e = absurd (omega (arith, h))
seat_each asked conn cs (l ∷ ls) zero h e = e.0.0
seat_each asked conn cs (l ∷ ls) (suc at) h e = seat_each asked conn cs ls at (omega (arith, h)) e.1

pub seat_at : (b : Bus) (links : List Link) (x : Course) (cs : List Call) (at : ℕ) → at < length links → Goes b links x cs → x.conn (number_at links at) ≡ Some (conn_at links at)
seat_at b links x cs at h g = seat_each x.asked x.conn cs links at h g.each

-- a link that was found by its connection
true_false : true ≡ false → ⊥
true_false e = cc

found_conn : (links : List Link) (at conn : ℕ) → at < length links → Some at ≡ position (λ (l : Link). l.conn == conn) links → conn_at links at ≡ conn
found_conn [] at conn h e = absurd (omega (arith, h))
found_conn (l ∷ ls) at conn h e =
    let p = position-Some (λ (x : Link). x.conn == conn) (l ∷ ls) at l (sym e) in
    elim (eqb_tells (conn_at (l ∷ ls) at) conn) [
      | inl f ↦ f.1
      | inr f ↦ absurd (true_false (sym (ap (λ (k : ℕ). k == conn) (sym (conn_there (l ∷ ls) at l h)) ∙ p.1) ∙ f.0))
    ]

-- a connection without a link
none_of : (asked : List Asked) (conn : ℕ → Option ℕ) (cs : List Call) (c : ℕ) (links : List Link) → first_place (λ (l : Link). l.conn == c) links ≡ None → Each (λ l. IsSeated asked conn cs l) links → (k : ℕ) → IsOpen k (numbers_of (seats links)) → conn k ≡ Some c → ⊥
none_of asked conn cs c [] e s k o f = o
none_of asked conn cs c (l ∷ ls) e s k o f = elim (eqb_tells l.conn c) [
  | inl i ↦ absurd (some_none 0 (rw i.0 at e))
  | inr i ↦
      let p : (l.number ≡ k) ⊎ IsOpen k (numbers_of (seats ls)) = o in
      elim p [
        | inl n ↦ i.1 (same_some l.conn c (sym s.0.0 ∙ ap (λ (j : ℕ). conn j) n ∙ f))
        | inr n ↦ none_of asked conn cs c ls (none_further (first_place (λ (x : Link). x.conn == c) ls) (rw i.0 at e)) s.1 k n f
      ]
]

-- closes move nothing on any link
pub closes_take : (k : ℕ) (calls : List Call) → AreCloses calls → taken k calls ≡ []
closes_take k [] a = refl
closes_take k (Listen path did ∷ cs) a = absurd a.0
closes_take k (Accept did ∷ cs) a = absurd a.0
closes_take k (Connect path did ∷ cs) a = absurd a.0
closes_take k (Read j bytes did ∷ cs) a = absurd a.0
closes_take k (Write j bytes did ∷ cs) a = absurd a.0
closes_take k (Close j ∷ cs) a = closes_take k cs a.1

pub taken_past : (k : ℕ) (past calls : List Call) → AreCloses calls → taken k (past ++ calls) ≡ taken k past
taken_past k past calls a = taken_append k past calls ∙ ap (λ (w : List ℕ). taken k past ++ w) (closes_take k calls a) ∙ append-nil (taken k past)

-- a close
close_goes : (b b' : Bus) (links links' : List Link) (at k : ℕ) (x : Course) (past : List Call) → links' ≡ remove links at → b' ≡ b → Goes b (remove links at) x past → Goes b' links' x (past ++ Close k ∷ [])
close_goes b b' links links' at k x past r e g =
    subst (λ (w : List Link). Goes b' w x (past ++ Close k ∷ [])) (sym r)
    (same_goes b b' (remove links at) x past (past ++ Close k ∷ []) (ap bus_of e) (ap given_of e) (λ j. (taken_still j past (Close k) refl, given_still j past (Close k) refl)) g)

pub seats_close : (links : List Link) (at : ℕ) (o : List ℕ) → at < length links → Serves o links → seats (remove links at) ≡ without_seat (number_at links at) (seats links)
seats_close links at o h s = seats_out links at h (subst Differ (sym s.are) s.differ)

-- the link of a connection is closed
pub dismissed : (b b' : Bus) (links links' : List Link) (at c : ℕ) (o : List ℕ) (old new : Option (List Call)) → at < length links → Some at ≡ position (λ (l : Link). l.conn == c) links → links' ≡ remove links at → b' ≡ b → Serves o links
    → Adds old new (Close (number_at links at)) → Moves old new (Goes b links) (Dismisses c links links') (Goes b' links')
dismissed b b' links links' at c o old new h e r same s a =
    moves_one old new (Close (number_at links at)) (Goes b links) (Goes b' links') (Dismisses c links links')
    (λ past x g. (
      x,
      (
        refl,
        inr (number_at links at, number_open links at h, seat_at b links x past at h g ∙ ap (λ (d : ℕ). Some d) (found_conn links at c h e), refl),
        ap seats r ∙ seats_close links at o h s,
      ),
      close_goes b b' links links' at (number_at links at) x past r same (rest_goes b links at x past g),
    )) a

-- it has none
pub not_dismissed : (b : Bus) (links : List Link) (c : ℕ) (calls : Option (List Call)) → None ≡ position (λ (l : Link). l.conn == c) links → Moves calls calls (Goes b links) (Dismisses c links links) (Goes b links)
not_dismissed b links c calls e =
    moves_none calls (Goes b links) (Goes b links) (Dismisses c links links)
    (λ past x g. (x, (refl, inl (none_of x.asked x.conn past c links (sym (position_first (λ (l : Link). l.conn == c) links) ∙ sym e) g.each, refl), refl), g))

-- closes behind others
pub shut_more : (conn : ℕ → Option ℕ) (links : List ℕ) (cs : List Closing) (c : Closing) (xs ys : List Call) → AreShut conn links cs xs → IsShut conn (open_from links xs) c.conn ys → AreShut conn links (cs ++ c ∷ []) (xs ++ ys)
shut_more conn links [] c xs ys s t =
    subst (λ (w : List Call). AreShut conn links (c ∷ []) (w ++ ys)) (sym s) (ys, [], subst (λ (w : List Call). IsShut conn (open_from links w) c.conn ys) s t, refl, sym (append-nil ys))
shut_more conn links (d ∷ cs) c xs ys s t = (
  s.0,
  s.1 ++ ys,
  s.2,
  shut_more conn (open_from links s.0) cs c s.1 ys s.3 (subst (λ (w : List ℕ). IsShut conn w c.conn ys) (ap (λ (w : List Call). open_from links w) s.4 ∙ open_both links s.0 s.1) t),
  ap (λ (w : List Call). w ++ ys) s.4 ∙ append_assoc s.0 s.1 ys,
)

-- a bus told of its own messages
pub forgotten : (b b' : Bus) (links links' : List Link) (calls : Option (List Call)) → IsTold (bus_of b) (bus_of b') → (bus_of b').closings ≡ (bus_of b).closings → given_of b' ≡ given_of b → links' ≡ links
    → Moves calls calls (Goes b links) (Settling links links') (Goes b' links')
forgotten b b' links links' calls t closings same r =
    subst (λ (w : List Link). Moves calls calls (Goes b links) (Settling links w) (Goes b' w)) (sym r)
    (moves_none calls (Goes b links) (Goes b' links) (Settling links links)
    (λ past x g. (
      on_with x t.asked b',
      (
        [],
        t.asked,
        t.are,
        subst (λ (w : queues.Bus). Runs w t.asked (bus_of b')) (sym g.bus_is) t.run,
        refl,
        refl,
        ap (λ (w : queues.Bus). w.closings) g.bus_is ∙ sym closings,
        refl,
        refl,
      ),
      still_goes b b' links x past t.asked t.run (tells_nobodys t.asked t.are) same g,
    )))

-- of one closing
abbrev ClosesOne : Closing → List Link → List Link → Course → List Call → List Call → Course → Type 0
ClosesOne c old new x past calls y =
    (tells : List Asked) × AreTellings tells × Runs x.bus tells y.bus × (y.asked ≡ x.asked ++ tells) × (y.conn ≡ x.conn) × (x.bus.closings ≡ c ∷ y.bus.closings) × IsShut x.conn (numbers_of (seats old)) c.conn calls × (seats new ≡ left (seats old) calls)

closed_one : (b b' b'' : Bus) (links links' : List Link) (c : Closing) (old new : Option (List Call)) → bus_of b ≡ record (bus_of b') { closings = c ∷ (bus_of b').closings } → given_of b' ≡ given_of b
    → Moves old new (Goes b' links) (Dismisses c.conn links links') (Goes b'' links') → Moves old new (Goes b links) (ClosesOne c links links') (Goes b'' links')
closed_one b b' b'' links links' c old new e same m =
    let t : IsTold (bus_of b) (bus_of b') = told_closings (bus_of b) (bus_of b') (c ∷ (bus_of b').closings) e in
    moves_step old new (Goes b links) (Goes b' links) (Goes b'' links') (Dismisses c.conn links links') (ClosesOne c links links')
    (λ past x g. (
      on_with x t.asked b',
      still_goes b b' links x past t.asked t.run (tells_nobodys t.asked t.are) same g,
      λ calls z d. (
        t.asked,
        t.are,
        subst (λ (w : queues.Bus). Runs w t.asked z.bus) (sym g.bus_is) (subst (λ (w : queues.Bus). Runs (bus_of b) t.asked w) (sym (ap (λ (w : Course). w.bus) d.0)) t.run),
        ap (λ (w : Course). w.asked) d.0,
        ap (λ (w : Course). w.conn) d.0,
        ap (λ (w : queues.Bus). w.closings) (g.bus_is ∙ e) ∙ ap (λ (w : Course). c ∷ w.bus.closings) (sym d.0),
        d.1,
        d.2,
      ),
    )) m

settling_both : (a b d : List Link) (c : Closing) (x y z : Course) (past xs ys : List Call) → Settling a b x past xs y → ClosesOne c b d y (past ++ xs) ys z → Settling a d x past (xs ++ ys) z
settling_both a b d c x y z past xs ys p q = (
  p.0 ++ c ∷ [],
  p.1 ++ q.0,
  tells_both p.1 q.0 p.2 q.1,
  runs_both x.bus y.bus z.bus p.1 q.0 p.3 q.2,
  q.3 ∙ ap (λ (w : List Asked). w ++ q.0) p.4 ∙ append_assoc x.asked p.1 q.0,
  q.4 ∙ p.5,
  p.6 ∙ ap (λ (w : List Closing). p.0 ++ w) q.5 ∙ sym (append_assoc p.0 (c ∷ []) z.bus.closings),
  shut_more x.conn (numbers_of (seats a)) p.0 c xs ys p.7
      (subst (λ (w : List ℕ). IsShut x.conn w c.conn ys) (ap numbers_of p.8 ∙ numbers_left (seats a) xs (for_closes xs (all_shut_closes x.conn (numbers_of (seats a)) p.0 xs p.7)))
      (subst (λ (w : ℕ → Option ℕ). IsShut w (numbers_of (seats b)) c.conn ys) p.5 q.6)),
  q.7 ∙ ap (λ (w : List (ℕ × ℕ)). left w ys) p.8 ∙ sym (left_both (seats a) xs ys),
)

pub settling_more : (b0 b b' b'' : Bus) (a links links' : List Link) (c : Closing) (old mid new : Option (List Call)) → bus_of b ≡ record (bus_of b') { closings = c ∷ (bus_of b').closings } → given_of b' ≡ given_of b
    → Moves old mid (Goes b0 a) (Settling a links) (Goes b links) → Moves mid new (Goes b' links) (Dismisses c.conn links links') (Goes b'' links') → Moves old new (Goes b0 a) (Settling a links') (Goes b'' links')
settling_more b0 b b' b'' a links links' c old mid new e same m n =
    moves_both old mid new (Goes b0 a) (Goes b links) (Goes b'' links') (Settling a links) (ClosesOne c links links') (Settling a links')
    (λ x y z past xs ys s p g q. settling_both a links links' c x y z past xs ys p q) m (closed_one b b' b'' links links' c mid new e same n)

-- and all were told
all_settled : (a b : List Link) (x y : Course) (past calls : List Call) → y.bus.own ≡ [] → y.bus.closings ≡ [] → Settling a b x past calls y → Settles a b x past calls y
all_settled a b x y past calls own none p = (
  p.1,
  p.2,
  p.4,
  all_told x.bus y.bus (tells_same p.1 x.bus y.bus p.2 p.3) own none,
  p.5,
  subst (λ (w : List Closing). AreShut x.conn (numbers_of (seats a)) w calls) (sym (p.6 ∙ ap (λ (w : List Closing). p.0 ++ w) none ∙ append-nil p.0)) p.7,
  p.8,
)

pub settled : (b0 b b' : Bus) (a links : List Link) (old new : Option (List Call)) → (bus_of b).own ≡ [] → (bus_of b).closings ≡ [] → bus_of b' ≡ bus_of b → given_of b' ≡ given_of b
    → Moves old new (Goes b0 a) (Settling a links) (Goes b links) → Moves old new (Goes b0 a) (Settles a links) (Goes b' links)
settled b0 b b' a links old new own none e same m =
    moves_if old new (Goes b0 a) (Goes b links) (Goes b' links) (Settling a links) (Settles a links)
    (λ x y past calls s p g. (
      all_settled a links x y past calls (ap (λ (w : queues.Bus). w.own) g.bus_is ∙ own) (ap (λ (w : queues.Bus). w.closings) g.bus_is ∙ none) p,
      same_goes b b' links y (past ++ calls) (past ++ calls) e same (λ j. (refl, refl)) g,
    )) m

-- a bus that has nothing more to tell
pub none_told : (old new : queues.Bus) → old ≡ record new { closings = [] ++ new.closings } → new ≡ old
none_told old new e = sym e

-- one thing was done, and then all was told
pub stepped : (a b : List Link) (bus : queues.Bus) (ask : Asked) (x y z : Course) (past calls : List Call) → Leads x.bus ask bus → y.asked ≡ x.asked ++ ask ∷ [] → y.bus ≡ bus → y.conn ≡ x.conn → (p : Settles a b y past calls z) → Steps x ask bus.closings z
stepped a b bus ask x y z past calls l asked is conn p = (
  bus,
  p.0,
  l,
  p.1,
  refl,
  p.2 ∙ ap (λ (w : List Asked). w ++ p.0) asked ∙ append_assoc x.asked (ask ∷ []) p.0,
  p.3 ∙ ap (λ (w : queues.Bus). told_all w) is,
  p.4 ∙ conn,
)

-- a link is closed and its connection leaves
abbrev LeavesNow : ℕ → List Link → List Link → Course → List Call → List Call → Course → Type 0
LeavesNow c old new x past calls y = (closings : List Closing) × Steps x (leaving c) closings y × AreShut x.conn (numbers_of (seats old)) closings calls × (seats new ≡ left (seats old) calls)

abbrev IsClosed : ℕ → Course → List Call → List Call → Course → Type 0
IsClosed k x past calls y = (y ≡ x) × (calls ≡ Close k ∷ [])

closed_first : (b b' : Bus) (links links' : List Link) (at : ℕ) (old new : Option (List Call)) → links' ≡ remove links at → b' ≡ b → Adds old new (Close (number_at links at))
    → Moves old new (Goes b (remove links at)) (IsClosed (number_at links at)) (Goes b' links')
closed_first b b' links links' at old new r same a =
    moves_one old new (Close (number_at links at)) (Goes b (remove links at)) (Goes b' links') (IsClosed (number_at links at))
    (λ past x g. (x, (refl, refl), close_goes b b' links links' at (number_at links at) x past r same g)) a

left_now : (b b' b'' : Bus) (links links' : List Link) (c : ℕ) (old new : Option (List Call)) → bus_of b' ≡ leaves (bus_of b) c → given_of b' ≡ given_of b → Moves old new (Goes b' links) (Settles links links') (Goes b'' links')
    → Moves old new (Goes b links) (LeavesNow c links links') (Goes b'' links')
left_now b b' b'' links links' c old new e same m =
    moves_step old new (Goes b links) (Goes b' links) (Goes b'' links') (Settles links links') (LeavesNow c links links')
    (λ past x g. (
      on_with x (leaving c ∷ []) b',
      still_goes b b' links x past (leaving c ∷ []) (one_run (bus_of b) (bus_of b') (leaving c) e) (λ d. (refl, refl)) same g,
      λ calls z p. (
        (bus_of b').closings,
        stepped links links' (bus_of b') (leaving c) x (on_with x (leaving c ∷ []) b') z past calls (e ∙ ap (λ (w : queues.Bus). leaves w c) (sym g.bus_is)) refl refl refl p,
        p.5,
        p.6,
      ),
    )) m

parts_both : (k c at : ℕ) (a a' b : List Link) (o : List ℕ) (x y z : Course) (past xs ys : List Call) → at < length a → k ≡ number_at a at → a' ≡ remove a at → Serves o a → IsClosed k x past xs y → LeavesNow c a' b y (past ++ xs) ys z
    → Leaves true k c a b x past (xs ++ ys) z
parts_both k c at a a' b o x y z past xs ys h n r s p q = (
  (
    q.0,
    ys,
    subst (λ (w : Course). Steps w (leaving c) q.0 z) p.0 q.1,
    subst (λ (w : Course). AreShut w.conn (without k (numbers_of (seats a))) q.0 ys) p.0 (subst (λ (w : List ℕ). AreShut y.conn w q.0 ys) (ap numbers_of gone ∙ numbers_without k (seats a)) q.2),
    ap (λ (w : List Call). w ++ ys) p.1,
  ),
  q.3 ∙ ap (λ (w : List (ℕ × ℕ)). left w ys) gone ∙ sym (ap (λ (w : List Call). left (seats a) (w ++ ys)) p.1),
)
  where
    gone : seats a' ≡ without_seat k (seats a)
    gone = ap seats r ∙ seats_close a at o h s ∙ ap (λ (j : ℕ). without_seat j (seats a)) (sym n)

pub parted : (b b1 b2 b3 : Bus) (links links1 links2 links3 : List Link) (at c : ℕ) (o : List ℕ) (old mid new : Option (List Call)) → at < length links → links1 ≡ remove links at → b1 ≡ b → Serves o links → Adds old mid (Close (number_at links at))
    → links2 ≡ links1 → bus_of b2 ≡ leaves (bus_of b1) c → given_of b2 ≡ given_of b1 → c ≡ conn_at links at → Moves mid new (Goes b2 links2) (Settles links2 links3) (Goes b3 links3)
    → Moves old new (Goes b (remove links at)) (Leaves true (number_at links at) (conn_at links at) links links3) (Goes b3 links3)
parted b b1 b2 b3 links links1 links2 links3 at c o old mid new h r same s a r2 e given there m =
    moves_both old mid new (Goes b (remove links at)) (Goes b1 links1) (Goes b3 links3) (IsClosed (number_at links at)) (LeavesNow c links1 links3) (Leaves true (number_at links at) (conn_at links at) links links3)
    (λ x y z past xs ys g p t q. subst (λ (d : ℕ). Leaves true (number_at links at) d links links3 x past (xs ++ ys) z) there (parts_both (number_at links at) c at links links1 links3 o x y z past xs ys h refl r s p q))
    (closed_first b b1 links links1 at old mid r same a)
    (left_now b1 b2 b3 links1 links3 c mid new e given (subst (λ (w : List Link). Moves mid new (Goes b2 w) (Settles w links3) (Goes b3 links3)) r2 m))

-- or the bus stops there
pub parted_cut : (b b1 : Bus) (links links1 new_links : List Link) (at : ℕ) (stop : Stop) (old new : Option (List Call)) → links1 ≡ remove links at → b1 ≡ b → (stop ≡ stops.Spent → Spends (bus_of b1)) → Adds old new (Close (number_at links at))
    → Moves old new (Goes b (remove links at)) (Leaves false (number_at links at) (conn_at links at) links new_links) (StopsAt stop)
parted_cut b b1 links links1 new_links at stop old new r same f a =
    moves_one old new (Close (number_at links at)) (Goes b (remove links at)) (StopsAt stop) (Leaves false (number_at links at) (conn_at links at) links new_links)
    (λ past x g. (x, ((refl, refl), tt), stopped_at stop b1 links1 x (past ++ Close (number_at links at) ∷ []) f (close_goes b b1 links links1 at (number_at links at) x past r same g))) a

-- what the links hold
pub held_out : (links : List Link) (at : ℕ) → held (remove links at) ≤ held links
held_out [] zero = omega arith
held_out [] (suc at) = omega arith
held_out (l ∷ ls) zero = omega arith
held_out (l ∷ ls) (suc at) = omega (arith, held_out ls at)

pub held_set : (links : List Link) (at : ℕ) (l m : Link) → at < length links → l ≡ slice_index_or links at l → length m.feeder < length l.feeder → held (slice_set links at m) < held links
held_set [] at l m h e f = absurd (omega (arith, h))
held_set (x ∷ xs) zero l m h e f = omega (arith, f, ap (λ (w : Link). length w.feeder) e)
held_set (x ∷ xs) (suc at) l m h e f = omega (arith, held_set xs at l m (omega (arith, h)) e f)
