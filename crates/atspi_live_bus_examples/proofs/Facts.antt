-- What stands of the cases.
use Rattle.std.proofs.Common.{◌≡◌, ℕ, ◌<◌, ◌≤◌, true, false, List, [], ◌∷◌, ◌++◌, length, Option, None, Some, refl, sym, ap, subst, ◌∙◌, inl, inr, arith}
use Rattle.std.specs.Prelude.{codes}
use Rattle.std.proofs.lemmas.Bool.Decides.{eqb_tells}
use Rattle.atspi_auth.specs.Lines.{lines_of}
use Rattle.atspi_auth.specs.Talk.{after, fault_in, heard, hears, hears_bytes, server_start}
use Rattle.atspi_auth.specs.declared.fault.AuthFault.TheVariants.{NoZero}
use Rattle.atspi_auth.specs.declared.stage.Stage.TheVariants.{Over}
use Rattle.atspi_message.specs.Envelope.{Envelope}
use Rattle.atspi_match.specs.declared.condition.Condition.{Condition}
use Rattle.atspi_match.specs.declared.routing.closing.Closing.{Closing}
use Rattle.atspi_match.specs.routing.Queues.{Bus, empty_bus, leaves, queue_of, takes}
use Rattle.atspi_bus_steps.specs.Spoken.{IsRuleTaken}
use Rattle.atspi_live_host.specs.Calls.{IsOpen, given, taken}
use Rattle.atspi_live_host.specs.declared.call.Did.{Did}
use Rattle.atspi_live_host.specs.declared.call.Did.TheVariants.{Done, NotYet, End, Failed}
use Rattle.atspi_live_host.specs.declared.call.Call.{Call}
use Rattle.atspi_live_host.specs.declared.call.Call.TheVariants.{Listen, Accept, Read, Write, Close}
use Rattle.atspi_live_bus.specs.Asked.{Asked, Runs, Spends, handed_to, joining, leaving, taking}
use Rattle.atspi_live_bus.specs.Cases.{one_conn, two_conns}
use Rattle.atspi_live_bus.specs.Closes.{AreShut, AreTaken, Ceases, FollowsRead, IsBad, Parts}
use Rattle.atspi_live_bus.specs.Course.{Course, Steps, start}
use Rattle.atspi_live_bus.specs.Due.{HasAllGiven}
use Rattle.atspi_live_bus.specs.Opened.{open_behind}
use Rattle.atspi_live_bus.specs.Rounds.{AreTurns, EndsBehind, IsCut, IsPart, IsRun, IsTurn, MayGive}
use Rattle.atspi_live_bus.specs.Service.{IsService, line_bytes, lines_for}
use Rattle.atspi_live_bus.proofs.Worked.{none_shut, not_none, one_front, one_rest, other_close, second_shut}

-- numbers, bytes and calls that differ
pub other_byte : (rest : List ℕ) → 8 ∷ [] ≡ 7 ∷ rest → ⊥
other_byte rest e = absurd (omega (arith, is rest e))
  where
    is : (ys : List ℕ) → 8 ∷ [] ≡ 7 ∷ ys → ◌≡◌ {A = ℕ} 8 7
    is ys f = cc

pub some_byte : (x : ℕ) (xs : List ℕ) → x ∷ xs ≡ [] → ⊥
some_byte x xs e = cc

pub none_some : (n : ℕ) → None ≡ Some n → ⊥
none_some n e = cc

pub zero_is : (n : ℕ) → Some 0 ≡ Some n → ◌≡◌ {A = ℕ} 0 n
zero_is n e = cc

pub one_conn_of : ◌≡◌ {A = ℕ} 3 5 → ⊥
one_conn_of e = omega (arith, e)

pub seven_three : ◌≡◌ {A = ℕ} 3 7 → ⊥
seven_three e = omega (arith, e)

pub two_one : ◌≡◌ {A = ℕ} 2 1 → ⊥
two_one e = omega (arith, e)

pub last_conn : (c : ℕ) → joining 0 ∷ joining 1 ∷ joining 0 ∷ [] ≡ joining 0 ∷ joining 1 ∷ joining c ∷ [] → ◌≡◌ {A = ℕ} 0 c
last_conn c e = cc

pub three_not_open : IsOpen 3 (5 ∷ []) → ⊥
three_not_open (inl e) = omega (arith, e)
three_not_open (inr o) = o

pub not_given_yet : (k : ℕ) → Accept NotYet ∷ [] ≡ Accept (Done k) ∷ [] → ⊥
not_given_yet k e = cc

pub no_more_calls : (ds : List Call) → [] ≡ Close 3 ∷ ds → ⊥
no_more_calls ds e = not_none (Close 3) ds e

-- what was asked
pub not_spent : (b : Bus) → ((c : ℕ) (e : Envelope) (rule : Option (List Condition)) → IsRuleTaken b.state c e rule → (takes b c e rule).state.next ≤ 4294967296)
    → ((c : ℕ) → (leaves b c).state.next ≤ 4294967296) → Spends b → ⊥
not_spent b ts ls (inl s) = omega (arith, ts s.0 s.1 s.2 s.3, s.4)
not_spent b ts ls (inr s) = omega (arith, ls s.0, s.1)

pub served_nothing : (cs : List Call) (s : IsService cs) → s.asked ≡ [] → s.bus ≡ start.bus
served_nothing cs s is = subst (λ (w : List Asked). Runs (empty_bus 16777216) w s.bus) is s.run

pub others : (j : ℕ) → (j ≡ 0 → ⊥) → one_conn j ≡ start.conn j
others j n = elim (eqb_tells j 0) [ inl e ↦ absurd (n e.1) | inr e ↦ rw e.0 refl ]

-- a link that is closed once
none_again : (d : Closing) → d.conn ≡ 1 → AreShut two_conns (3 ∷ []) (d ∷ []) []
none_again d is = ([], [], inl (not_it, refl), refl, refl)
  where
    not_it : (k : ℕ) → IsOpen k (3 ∷ []) → two_conns k ≡ Some d.conn → ⊥
    not_it k (inl o) f = omega (arith, zero_is d.conn (ap two_conns o ∙ f), is)
    not_it k (inr o) f = o

pub second_twice : (c d : Closing) → c.conn ≡ 1 → d.conn ≡ 1 → AreShut two_conns (3 ∷ 5 ∷ []) (c ∷ d ∷ []) (Close 5 ∷ [])
second_twice c d e f = (Close 5 ∷ [], [], inr (5, inr (inl refl), ap (λ (i : ℕ). Some i) (sym e), refl), none_again d f, refl)

pub two_messages : (x m y : Course) (e f : Envelope) (c d : Closing) → x.conn ≡ two_conns → m.conn ≡ two_conns → c.conn ≡ 1 → d.conn ≡ 1 → Steps x (taking 0 e) (c ∷ []) m → Steps m (taking 0 f) (d ∷ []) y
    → AreTaken 3 0 x (3 ∷ 5 ∷ []) (e ∷ f ∷ []) (Close 5 ∷ []) y
two_messages x m y e f c d connected again is its first second = (
  inl refl,
  m,
  c ∷ [],
  Close 5 ∷ [],
  [],
  first,
  subst (λ (w : ℕ → Option ℕ). AreShut w (3 ∷ 5 ∷ []) (c ∷ []) (Close 5 ∷ [])) (sym connected) (second_shut c is),
  (inl refl, y, d ∷ [], [], [], second, subst (λ (w : ℕ → Option ℕ). AreShut w (3 ∷ []) (d ∷ []) []) (sym again) (none_again d its), (refl, refl), refl),
  refl,
)

pub own_left : (x y : Course) (c : Closing) → x.conn ≡ two_conns → c.conn ≡ 0 → Steps x (leaving 0) (c ∷ []) y → Parts true 3 0 x (3 ∷ 5 ∷ []) (Close 3 ∷ []) y
own_left x y c connected is step = (c ∷ [], [], step, subst (λ (w : ℕ → Option ℕ). AreShut w (5 ∷ []) (c ∷ []) []) (sym connected) (none_shut c is), refl)

-- a first byte that is not zero
pub no_zero : fault_in (after server_start (97 ∷ [])).stage ≡ Some NoZero
unfolding heard hears hears_bytes lines_of
no_zero = refl

-- what ceases
pub gone_no_close : (x y : Course) (rest : List ℕ) (calls : List Call) → Ceases true 3 0 x (5 ∷ []) rest calls y → calls ≡ []
gone_no_close x y rest calls (inl n) = n.1
gone_no_close x y rest calls (inr (inl w)) = absurd (three_not_open w.0)
gone_no_close x y rest calls (inr (inr b)) = absurd (three_not_open b.0)

pub gone_same : (x y : Course) (rest : List ℕ) (calls : List Call) → Ceases true 3 0 x (5 ∷ []) rest calls y → y ≡ x
gone_same x y rest calls (inl n) = n.2
gone_same x y rest calls (inr (inl w)) = absurd (three_not_open w.0)
gone_same x y rest calls (inr (inr b)) = absurd (three_not_open b.0)

pub stopped_close : (x y : Course) (rest : List ℕ) → Ceases false 3 0 x (5 ∷ []) rest (Close 3 ∷ []) y → ⊥
stopped_close x y rest (inl n) = not_none (Close 3) [] (sym n.0)
stopped_close x y rest (inr b) = three_not_open b.0

pub stopped_good : (x y : Course) (rest : List ℕ) → (IsBad rest → ⊥) → Ceases false 3 0 x (3 ∷ 5 ∷ []) rest (Close 3 ∷ []) y → ⊥
stopped_good x y rest good (inl n) = not_none (Close 3) [] (sym n.0)
stopped_good x y rest good (inr b) = good b.1

pub stopped_all : (x y : Course) (rest : List ℕ) (calls : List Call) → Ceases false 3 0 x (3 ∷ 5 ∷ []) rest calls y → y ≡ x
stopped_all x y rest calls (inl n) = n.1
stopped_all x y rest calls (inr b) = b.2.1

pub stopped_other : (x y : Course) (t : List ℕ) → FollowsRead false 3 0 x (3 ∷ 5 ∷ []) End t (Close 5 ∷ []) y → ⊥
stopped_other x y t (inl n) = not_none (Close 5) [] (sym n.0)
stopped_other x y t (inr (inl l)) = other_close (sym l.1.0)
stopped_other x y t (inr (inr a)) = a.0 (inl refl)

pub stopped_unchanged : (x y : Course) (t : List ℕ) (calls : List Call) → FollowsRead false 3 0 x (3 ∷ 5 ∷ []) End t calls y → y ≡ x
stopped_unchanged x y t calls (inl n) = n.1
stopped_unchanged x y t calls (inr (inl l)) = l.1.1
stopped_unchanged x y t calls (inr (inr a)) = absurd (a.0 (inl refl))

pub failed_closes : (x y : Course) → FollowsRead true 3 0 x (3 ∷ 5 ∷ []) Failed [] [] y → ⊥
failed_closes x y (inl l) = not_none (Close 3) l.1.1 l.1.4
failed_closes x y (inr a) = a.0 (inr (inl refl))

-- reads and writes
pub few_read : (xs ys : List Call) (b c : List ℕ) (d f : Did) → 4096 < length b → length c ≤ 4096 → Read 3 b d ∷ xs ≡ Read 3 c f ∷ ys → ⊥
few_read xs ys b c d f many few e = omega (arith, many, few, ap (λ (w : List ℕ). length w) (same b c e))
  where
    same : (v w : List ℕ) → Read 3 v d ∷ xs ≡ Read 3 w f ∷ ys → v ≡ w
    same v w g = cc

pub its_read : (xs ys : List Call) (b c : List ℕ) (d f : Did) → Read 5 b d ∷ xs ≡ Read 3 c f ∷ ys → ⊥
its_read xs ys b c d f e = absurd (omega (arith, is b e))
  where
    is : (v : List ℕ) → Read 5 v d ∷ xs ≡ Read 3 c f ∷ ys → ◌≡◌ {A = ℕ} 5 3
    is v g = cc

pub few_given : (xs ys : List Call) (b c : List ℕ) (d f : Did) → 4096 < length b → length c ≤ 4096 → Write 3 b d ∷ xs ≡ Write 3 c f ∷ ys → ⊥
few_given xs ys b c d f many few e = omega (arith, many, few, ap (λ (w : List ℕ). length w) (same b c e))
  where
    same : (v w : List ℕ) → Write 3 v d ∷ xs ≡ Write 3 w f ∷ ys → v ≡ w
    same v w g = cc

pub some_given : (xs ys : List Call) (c : List ℕ) (d f : Did) → 0 < length c → Write 3 [] d ∷ xs ≡ Write 3 c f ∷ ys → ⊥
some_given xs ys c d f some e = omega (arith, some, ap (λ (w : List ℕ). length w) (same c e))
  where
    same : (w : List ℕ) → Write 3 [] d ∷ xs ≡ Write 3 w f ∷ ys → [] ≡ w
    same w g = cc

pub its_gift : (xs ys : List Call) (b c : List ℕ) (d f : Did) → Write 5 b d ∷ xs ≡ Write 3 c f ∷ ys → ⊥
its_gift xs ys b c d f e = absurd (omega (arith, is b e))
  where
    is : (v : List ℕ) → Write 5 v d ∷ xs ≡ Write 3 c f ∷ ys → ◌≡◌ {A = ℕ} 5 3
    is v g = cc

-- what is due
no_lines : line_bytes (lines_for []) ≡ []
unfolding heard hears hears_bytes lines_of
no_lines = refl

pub not_all : (x : Course) (past : List Call) → given 3 past ≡ 97 ∷ [] → taken 3 past ≡ [] → x.asked ≡ [] → HasAllGiven x past 3 → ⊥
not_all x past g t none h =
    some_byte 97 []
    (sym g ∙ h.all ∙ ap (λ (w : List ℕ). line_bytes (lines_for w) ++ handed_to h.conn x.asked) t ∙ ap (λ (w : List Asked). line_bytes (lines_for []) ++ handed_to h.conn w) none
    ∙ ap (λ (w : List ℕ). w ++ []) no_lines)

pub still_waits : (x : Course) (past : List Call) → x.conn 3 ≡ Some 0 → (after server_start (taken 3 past)).stage ≡ Over → queue_of x.bus.waiting.queues 0 ≡ 97 ∷ [] → HasAllGiven x past 3 → ⊥
still_waits x past seated over waiting h =
    some_byte 97 [] (sym waiting ∙ ap (λ (c : ℕ). queue_of x.bus.waiting.queues c) (zero_is h.conn (sym seated ∙ h.seated)) ∙ h.none_waits over)

pub closed_gives_same : (x y : Course) (past calls : List Call) → MayGive true x past (5 ∷ []) 3 0 calls y → y ≡ x
closed_gives_same x y past calls (inl n) = n.2
closed_gives_same x y past calls (inr (inl a)) = absurd (three_not_open a.0)
closed_gives_same x y past calls (inr (inr g)) = absurd (three_not_open g.0)

pub closed_gives_none : (x y : Course) (past calls : List Call) → MayGive true x past (5 ∷ []) 3 0 calls y → calls ≡ []
closed_gives_none x y past calls (inl n) = n.1
closed_gives_none x y past calls (inr (inl a)) = absurd (three_not_open a.0)
closed_gives_none x y past calls (inr (inr g)) = absurd (three_not_open g.0)

pub gift_is_due : (x y : Course) (past : List Call) → (HasAllGiven y past 3 → ⊥) → MayGive true x past (3 ∷ 5 ∷ []) 3 0 [] y → ⊥
gift_is_due x y past none (inl n) = n.0 (inl refl)
gift_is_due x y past none (inr (inl a)) = none a.2
gift_is_due x y past none (inr (inr g)) = not_none (Write 3 g.1.1 g.1.2) g.1.3 g.1.9

pub stopped_before : (x y : Course) (past : List Call) → MayGive false x past (3 ∷ 5 ∷ []) 3 0 [] y → y ≡ x
stopped_before x y past (inl n) = n.1
stopped_before x y past (inr g) = absurd (not_none (Write 3 g.1.1 g.1.2) g.1.3 g.1.9)

pub stopped_gives_none : (x y : Course) (past calls : List Call) (c : Call) → MayGive false x past (5 ∷ []) 3 0 (c ∷ calls) y → ⊥
stopped_gives_none x y past calls c (inl n) = not_none c calls (sym n.0)
stopped_gives_none x y past calls c (inr g) = three_not_open g.0

-- turns
pub cut_none : (x y : Course) (past : List Call) (k : ℕ) → open_behind past ≡ [] → IsCut x past k [] y → y ≡ x
cut_none x y past k none (inl n) = n.1
cut_none x y past k none (inr p) = absurd (subst (λ (ks : List ℕ). IsOpen k ks) none p.0)

pub cut_part : (x y : Course) (past calls : List Call) → open_behind past ≡ 3 ∷ [] → x.conn 3 ≡ Some 0 → IsPart x past 3 0 calls y → IsCut x past 3 calls y
cut_part x y past calls is seated part = inr (subst (λ (ks : List ℕ). IsOpen 3 ks) (sym is) (inl refl), 0, seated, part)

pub cut_closed : (x y : Course) (past calls : List Call) (c : Call) → open_behind past ≡ 5 ∷ [] → IsCut x past 3 (c ∷ calls) y → ⊥
cut_closed x y past calls c is (inl n) = not_none c calls (sym n.0)
cut_closed x y past calls c is (inr p) = three_not_open (subst (λ (ks : List ℕ). IsOpen 3 ks) is p.0)

pub one_turn : (x y : Course) (past calls : List Call) → open_behind past ≡ 3 ∷ [] → IsTurn x past 3 calls y → AreTurns true x past (3 ∷ []) (calls ++ []) y
one_turn x y past calls is turn = inr (inr (subst (λ (ks : List ℕ). IsOpen 3 ks) (sym is) (inl refl), (y, calls, [], turn, (refl, refl), refl)))

-- how rounds and runs end
pub behind_all_rounds : (x y : Course) (past calls : List Call) → EndsBehind 7 2 2 x past calls y → ⊥
behind_all_rounds x y past calls (inl e) = omega (arith, e.0)
behind_all_rounds x y past calls (inr e) = omega (arith, e.2)

pub one_did : (path : List ℕ) (d f : Did) → Listen path d ≡ Listen path f → d ≡ f
one_did path d f e = cc

pub failed_more : IsRun (codes "/p") 7 3 (Listen (codes "/p") Failed ∷ Accept NotYet ∷ []) → ⊥
failed_more (inl n) = not_none (Accept NotYet) [] (sym (one_rest (Listen (codes "/p") Failed) (Listen (codes "/p") Failed) (Accept NotYet ∷ []) [] n.1))
failed_more (inr r) = r.2 (sym (one_did (codes "/p") Failed r.0 (one_front (Listen (codes "/p") Failed) (Listen (codes "/p") r.0) (Accept NotYet ∷ []) r.1 r.4)))

pub failed_eight : IsRun (codes "/p") 8 0 (Listen (codes "/p") Failed ∷ []) → ⊥
failed_eight (inl n) = omega (arith, n.0)
failed_eight (inr r) = r.2 (sym (one_did (codes "/p") Failed r.0 (one_front (Listen (codes "/p") Failed) (Listen (codes "/p") r.0) [] r.1 r.4)))

pub path_of_run : IsRun (97 ∷ []) 8 0 (Listen (98 ∷ []) (Done 0) ∷ []) → ⊥
path_of_run (inl n) = omega (arith, n.0)
path_of_run (inr r) = absurd (omega (arith, is r.0 (one_front (Listen (98 ∷ []) (Done 0)) (Listen (97 ∷ []) r.0) [] r.1 r.4)))
  where
    is : (d : Did) → Listen (98 ∷ []) (Done 0) ≡ Listen (97 ∷ []) d → ◌≡◌ {A = ℕ} 98 97
    is d e = cc
