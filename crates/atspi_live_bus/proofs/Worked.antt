-- What stands of the worked cases of rounds.
use Rattle.std.proofs.Common.{◌≡◌, ℕ, ◌<◌, ◌==◌, true, List, [], ◌∷◌, ◌++◌, length, suc, zero, Option, None, Some, refl, sym, ap, subst, ◌∙◌, inl, inr, arith, lit≤, lit<, length-append, append-nil}
use Rattle.std.specs.Prelude.{◌≢◌, ◌⊎◌, codes, if◌then◌else◌}
use Rattle.std.proofs.lemmas.Bool.Decides.{eqb_tells}
use Rattle.atspi_auth.specs.Lines.{end_of_line, joined, lines_of}
use Rattle.atspi_auth.specs.Replies.{answer, reply_to, server_reply}
use Rattle.atspi_auth.specs.Requests.{has_word, request_of}
use Rattle.atspi_auth.specs.Talk.{after, behind, fault_in, heard, hears, hears_bytes, server_start}
use Rattle.atspi_auth.specs.declared.fault.AuthFault.{AuthFault}
use Rattle.atspi_auth.specs.declared.stage.Stage.TheVariants.{Over}
use Rattle.atspi_message.specs.Envelope.{Envelope}
use Rattle.atspi_stream.specs.Stream.{AwaitsMore, few}
use Rattle.atspi_match.specs.declared.routing.closing.Closing.{Closing}
use Rattle.atspi_match.specs.routing.Queues.{empty_bus, joins, leaves}
use Rattle.atspi_live_host.specs.Calls.{IsOpen, taken, given}
use Rattle.atspi_live_host.specs.declared.call.Did.{Did}
use Rattle.atspi_live_host.specs.declared.call.Did.TheVariants.{Done, NotYet, End, Failed}
use Rattle.atspi_live_host.specs.declared.call.Call.{Call}
use Rattle.atspi_live_host.specs.declared.call.Call.TheVariants.{Listen, Accept, Read, Write, Close}
use Rattle.atspi_live_bus.specs.Asked.{joining, leaving, taking, messages_of}
use Rattle.atspi_live_bus.specs.Cases.{one_conn, one_link, two_conns, two_links}
use Rattle.atspi_live_bus.specs.Closes.{AreShut, FollowsRead, IsLost, IsRest, IsShut}
use Rattle.atspi_live_bus.specs.Course.{Course, IsCourse, Steps, start, told_all}
use Rattle.atspi_live_bus.specs.Due.{HasAllGiven}
use Rattle.atspi_live_bus.specs.Opened.{open_behind}
use Rattle.atspi_live_bus.specs.Rounds.{AreRounds, AreTurns, IsHeard, IsRound, IsRun, IsTurn, Served, Wait}
use Rattle.atspi_live_bus.specs.Stops.{status_of}
use Rattle.atspi_live_bus.specs.declared.stop.Stop.{Stop}
use Rattle.atspi_live_bus.specs.declared.stop.Stop.TheVariants as stops
use Rattle.atspi_live_bus.specs.Service.{AreApart, IsSaid, IsSpeech, line_bytes, lines_for}

-- lists and calls that differ
pub not_none : (c : Call) (cs : List Call) → [] ≡ c ∷ cs → ⊥
not_none c cs e = cc

pub one_front : (c d : Call) (cs ds : List Call) → c ∷ cs ≡ d ∷ ds → c ≡ d
one_front c d cs ds e = cc

pub one_rest : (c d : Call) (cs ds : List Call) → c ∷ cs ≡ d ∷ ds → cs ≡ ds
one_rest c d cs ds e = cc

pub one_link_of : (j k : ℕ) (xs ys : List ℕ) (d f : Did) → Read j xs d ≡ Read k ys f → j ≡ k
one_link_of j k xs ys d f e = cc

pub one_answer : (j k : ℕ) (xs ys : List ℕ) (d f : Did) → Read j xs d ≡ Read k ys f → d ≡ f
one_answer j k xs ys d f e = cc

pub one_accept : (d f : Did) → Accept d ≡ Accept f → d ≡ f
one_accept d f e = cc

pub one_not_none : ◌≡◌ {A = ℕ} 1 0 → ⊥
one_not_none e = omega (arith, e)

pub not_failed : (n : ℕ) → Done n ≢ Failed
not_failed n e = cc

-- the connections of one link and of two
only_one : (k c : ℕ) → one_conn k ≡ Some c → k ≡ 0
only_one k c e = elim (eqb_tells k 0) [ inl s ↦ s.1 | inr s ↦ absurd (no (rw s.0 at e)) ]
  where
    no : None ≡ Some c → ⊥
    no f = cc

one_apart : AreApart one_conn
one_apart j k c e f = only_one j c e ∙ sym (only_one k c f)

which : (k c : ℕ) → two_conns k ≡ Some c → ((k ≡ 3) × (c ≡ 0)) ⊎ ((k ≡ 5) × (c ≡ 1))
which k c e = elim (eqb_tells k 3) [
  | inl s ↦ inl (s.1, first c (rw s.0 at e))
  | inr s ↦ elim (eqb_tells k 5) [ inl t ↦ inr (t.1, second c (rw t.0 at (rw s.0 at e))) | inr t ↦ absurd (no (rw t.0 at (rw s.0 at e))) ]
]
  where
    no : None ≡ Some c → ⊥
    no f = cc

    first : (d : ℕ) → Some 0 ≡ Some d → d ≡ 0
    first d f = cc

    second : (d : ℕ) → Some 1 ≡ Some d → d ≡ 1
    second d f = cc

two_apart : AreApart two_conns
two_apart j k c e f = by (which j c e) (which k c f)
  where
    by : ((j ≡ 3) × (c ≡ 0)) ⊎ ((j ≡ 5) × (c ≡ 1)) → ((k ≡ 3) × (c ≡ 0)) ⊎ ((k ≡ 5) × (c ≡ 1)) → j ≡ k
    by (inl a) (inl b) = a.0 ∙ sym b.0
    by (inl a) (inr b) = absurd (omega (arith, a.1, b.1))
    by (inr a) (inl b) = absurd (omega (arith, a.1, b.1))
    by (inr a) (inr b) = a.0 ∙ sym b.0

-- a link that has sent nothing
no_lines : line_bytes (lines_for []) ≡ []
unfolding heard hears hears_bytes lines_of
no_lines = refl

pub none_behind : behind server_start [] ≡ []
unfolding heard hears hears_bytes lines_of
none_behind = refl

not_over : (after server_start []).stage ≡ Over → ⊥
unfolding heard hears hears_bytes lines_of
not_over e = cc

no_fault : fault_in (after server_start []).stage ≡ None
unfolding heard hears hears_bytes lines_of
no_fault = refl

some_fault : (f : AuthFault) → None ≡ Some f → ⊥
some_fault f e = cc

not_ended : NotYet ≡ End → ⊥
not_ended e = cc

not_lost_yet : NotYet ≡ Failed → ⊥
not_lost_yet e = cc

pub goes_on : IsLost NotYet [] → ⊥
goes_on (inl e) = not_ended e
goes_on (inr (inl e)) = not_lost_yet e
goes_on (inr (inr e)) = some_fault e.0 (sym no_fault ∙ e.1)

no_speech : IsSpeech [] [] [] []
no_speech = record { messages = []; rest = []; parted = record { are = tt; parted = none_behind }; taken_all = refl; over = inl refl; more = []; front = sym (ap (λ (w : List ℕ). w ++ []) no_lines) }

-- what passed on the one link, and nothing on others
one_said : (t g : List ℕ) (cs : List Call) → taken 0 cs ≡ t → given 0 cs ≡ g → ((k : ℕ) → (k ≡ 0 → ⊥) → (taken k cs ≡ []) × (given k cs ≡ [])) → IsSpeech [] [] t g → (k : ℕ) → IsSaid (joining 0 ∷ []) (one_conn k) (taken k cs) (given k cs)
one_said t g cs et eg others s k = elim (eqb_tells k 0) [
  | inl e ↦
      subst (λ (j : ℕ). IsSaid (joining 0 ∷ []) (one_conn j) (taken j cs) (given j cs)) (sym e.1)
      (subst (λ (w : List ℕ). IsSpeech [] [] w (given 0 cs)) (sym et) (subst (λ (w : List ℕ). IsSpeech [] [] t w) (sym eg) s))
  | inr e ↦ rw e.0 (others k e.1)
]

not_zero : (k : ℕ) (xs : List ℕ) → (k ≡ 0 → ⊥) → (if 0 == k then xs else []) ≡ []
not_zero k xs n = elim (eqb_tells 0 k) [ inl e ↦ absurd (n (sym e.1)) | inr e ↦ rw e.0 refl ]

one_course : (t g : List ℕ) (cs : List Call) → taken 0 cs ≡ t → given 0 cs ≡ g → ((k : ℕ) → (k ≡ 0 → ⊥) → (taken k cs ≡ []) × (given k cs ≡ [])) → IsSpeech [] [] t g → IsCourse one_link cs
one_course t g cs et eg others s = record { run = (joins (empty_bus 16777216) 0, refl, refl); apart = one_apart; said = one_said t g cs et eg others s }

abbrev quiet : List Call
quiet = Accept (Done 0) ∷ Read 0 [] NotYet ∷ []

none_taken : (k : ℕ) → taken k quiet ≡ []
none_taken k = elim (eqb_tells 0 k) [ inl e ↦ rw e.0 refl | inr e ↦ rw e.0 refl ]

all_given : HasAllGiven one_link quiet 0
all_given = record {
  fits = one_course [] [] quiet refl refl (λ k n. (none_taken k, refl)) no_speech;
  conn = 0;
  seated = refl;
  all = sym (ap (λ (w : List ℕ). w ++ []) no_lines);
  none_waits = λ e. absurd (not_over e);
}

-- behind a read that brought nothing no close stands
quiet_heard : (k c : ℕ) (x : Course) (past : List Call) (links : List ℕ) → IsOpen k links → taken k (past ++ Read k [] NotYet ∷ []) ≡ [] → messages_of c x.asked ≡ [] → IsHeard true x past links k c (Read k [] NotYet ∷ []) x
quiet_heard k c x past links o t m = (
  [],
  NotYet,
  [],
  lit≤ tt,
  inr (
    (λ lost. goes_on (subst (λ (w : List ℕ). IsLost NotYet w) t lost)),
    ([], x, [], [], (refl, refl), ([], ([], record { are = tt; parted = ap (λ (w : List ℕ). behind server_start w) t ∙ none_behind }, m), inr (inl (o, few (lit< tt), refl, refl))), refl),
  ),
  refl,
)

pub quiet_turn : IsTurn one_link (Accept (Done 0) ∷ []) 0 (Read 0 [] NotYet ∷ []) one_link
quiet_turn = (
  0,
  one_link,
  Read 0 [] NotYet ∷ [],
  [],
  refl,
  quiet_heard 0 0 one_link (Accept (Done 0) ∷ []) (0 ∷ []) (inl refl) refl refl,
  inr (inl (inl refl, ([], tt, refl, refl, refl), all_given, refl)),
  refl,
)

-- no closes of links where none is open
none_open : (conn : ℕ → Option ℕ) (cs : List Closing) → AreShut conn [] cs []
none_open conn [] = refl
none_open conn (c ∷ cs) = ([], [], inl ((λ k o e. o), refl), none_open conn cs, refl)

abbrev pub gone : Course
gone = record { asked = joining 0 ∷ leaving 0 ∷ []; bus = told_all (leaves (joins (empty_bus 16777216) 0) 0); conn = one_conn }

pub ended_turn : IsTurn one_link (Accept (Done 0) ∷ []) 0 (Read 0 [] End ∷ Close 0 ∷ []) gone
ended_turn = (
  0,
  gone,
  Read 0 [] End ∷ Close 0 ∷ [],
  [],
  refl,
  (
    [],
    End,
    Close 0 ∷ [],
    lit≤ tt,
    inl (inl refl, ((leaves (joins (empty_bus 16777216) 0) 0).closings, [], (leaves (joins (empty_bus 16777216) 0) 0, [], refl, tt, refl, refl, refl, refl), none_open one_conn (leaves (joins (empty_bus 16777216) 0) 0).closings, refl)),
    refl,
  ),
  inl ((λ o. o), refl, refl),
  refl,
)

-- a turn begins with a read of its link
turn_of : (x y : Course) (past : List Call) (k : ℕ) (calls : List Call) (t : IsTurn x past k calls y) → calls ≡ Read k t.5.0 t.5.1 ∷ (t.5.2 ++ t.3)
turn_of x y past k calls t = t.7 ∙ ap (λ (w : List Call). w ++ t.3) t.5.5

pub some_turn : (x y : Course) (past : List Call) (k : ℕ) → IsTurn x past k [] y → ⊥
some_turn x y past k t = not_none (Read k t.5.0 t.5.1) (t.5.2 ++ t.3) (turn_of x y past k [] t)

pub own_turn : (x y : Course) (past : List Call) (j k : ℕ) (bytes : List ℕ) (did : Did) (calls : List Call) → IsTurn x past k (Read j bytes did ∷ calls) y → j ≡ k
own_turn x y past j k bytes did calls t =
    one_link_of j k bytes t.5.0 did t.5.1 (one_front (Read j bytes did) (Read k t.5.0 t.5.1) calls (t.5.2 ++ t.3) (turn_of x y past k (Read j bytes did ∷ calls) t))

pub closed_turn : (x y : Course) (past : List Call) (k : ℕ) (bytes : List ℕ) → IsTurn x past k (Read k bytes End ∷ []) y → ⊥
closed_turn x y past k bytes t = by t.5.4
  where
    all : Read k bytes End ∷ [] ≡ Read k t.5.0 t.5.1 ∷ (t.5.2 ++ t.3)
    all = turn_of x y past k (Read k bytes End ∷ []) t

    ended : t.5.1 ≡ End
    ended = sym (one_answer k k bytes t.5.0 End t.5.1 (one_front (Read k bytes End) (Read k t.5.0 t.5.1) [] (t.5.2 ++ t.3) all))

    by : FollowsRead true k t.0 x (open_behind past) t.5.1 (taken k (past ++ Read k t.5.0 t.5.1 ∷ [])) t.5.2 t.1 → ⊥
    by (inl f) =
        not_none (Close k) (f.1.1 ++ t.3) (one_rest (Read k bytes End) (Read k t.5.0 t.5.1) [] (t.5.2 ++ t.3) all ∙ ap (λ (w : List Call). w ++ t.3) f.1.4)
    by (inr f) = f.0 (inl ended)

-- a link that sent what is not known
abbrev asks : List ℕ
asks = 0 ∷ codes "X" ++ end_of_line

abbrev says : List ℕ
says = codes "ERROR" ++ end_of_line

answered_lines : line_bytes (lines_for asks) ≡ says
unfolding heard hears hears_bytes lines_of answer reply_to server_reply joined request_of has_word
answered_lines = refl

asks_behind : behind server_start asks ≡ []
unfolding heard hears hears_bytes lines_of answer reply_to server_reply joined request_of has_word
asks_behind = refl

asks_fault : fault_in (after server_start asks).stage ≡ None
unfolding heard hears hears_bytes lines_of answer reply_to server_reply joined request_of has_word
asks_fault = refl

done_ended : Done 4 ≡ End → ⊥
done_ended e = cc

done_failed : Done 4 ≡ Failed → ⊥
done_failed e = cc

asks_on : IsLost (Done 4) asks → ⊥
asks_on (inl e) = done_ended e
asks_on (inr (inl e)) = done_failed e
asks_on (inr (inr e)) = some_fault e.0 (sym asks_fault ∙ e.1)

asks_speech : IsSpeech [] [] asks says
asks_speech = record { messages = []; rest = []; parted = record { are = tt; parted = asks_behind }; taken_all = refl; over = inl refl; more = []; front = ap (λ (w : List ℕ). w ++ []) (sym answered_lines) }

abbrev asked_calls : List Call
asked_calls = Accept (Done 0) ∷ Read 0 asks (Done 4) ∷ Write 0 says (Done 7) ∷ []

asks_wait : Wait one_link (Accept (Done 0) ∷ Read 0 asks (Done 4) ∷ []) 0 says
asks_wait = one_course asks says asked_calls refl refl (λ k n. (ap (λ (w : List ℕ). w ++ []) (not_zero k asks n), ap (λ (w : List ℕ). w ++ []) (not_zero k says n))) asks_speech

pub answered_turn : IsTurn one_link (Accept (Done 0) ∷ []) 0 (Read 0 asks (Done 4) ∷ Write 0 says (Done 7) ∷ []) one_link
answered_turn = (
  0,
  one_link,
  Read 0 asks (Done 4) ∷ [],
  Write 0 says (Done 7) ∷ [],
  refl,
  (
    asks,
    Done 4,
    [],
    lit≤ tt,
    inr (asks_on, ([], one_link, [], [], (refl, refl), ([], ([], record { are = tt; parted = asks_behind }, refl), inr (inl (inl refl, few (lit< tt), refl, refl))), refl)),
    refl,
  ),
  inr (inr (inl refl, (one_link, says, Done 7, [], ([], tt, refl, refl, refl), lit< tt, lit≤ tt, asks_wait, (refl, refl), refl))),
  refl,
)

-- the closes of two links
pub second_shut : (c : Closing) → c.conn ≡ 1 → AreShut two_conns (3 ∷ 5 ∷ []) (c ∷ []) (Close 5 ∷ [])
second_shut c e = (Close 5 ∷ [], [], inr (5, inr (inl refl), ap (λ (d : ℕ). Some d) (sym e), refl), refl, refl)

pub both_shut : (c d : Closing) → c.conn ≡ 1 → d.conn ≡ 0 → AreShut two_conns (3 ∷ 5 ∷ []) (c ∷ d ∷ []) (Close 5 ∷ Close 3 ∷ [])
both_shut c d e f = (
  Close 5 ∷ [],
  Close 3 ∷ [],
  inr (5, inr (inl refl), ap (λ (i : ℕ). Some i) (sym e), refl),
  (Close 3 ∷ [], [], inr (3, inl refl, ap (λ (i : ℕ). Some i) (sym f), refl), refl, refl),
  refl,
)

pub none_shut : (c : Closing) → c.conn ≡ 0 → AreShut two_conns (5 ∷ []) (c ∷ []) []
none_shut c e = ([], [], inl (not_it, refl), refl, refl)
  where
    not_it : (k : ℕ) → IsOpen k (5 ∷ []) → two_conns k ≡ Some c.conn → ⊥
    not_it k (inl o) f = by (which k c.conn f)
      where
        by : ((k ≡ 3) × (c.conn ≡ 0)) ⊎ ((k ≡ 5) × (c.conn ≡ 1)) → ⊥
        by (inl a) = omega (arith, o, a.0)
        by (inr a) = omega (arith, e, a.1)
    not_it k (inr o) f = o

pub is_shut : (c : Closing) (calls : List Call) → c.conn ≡ 1 → AreShut two_conns (3 ∷ 5 ∷ []) (c ∷ []) calls → calls ≡ Close 5 ∷ []
is_shut c calls e s = by s.2
  where
    ends : calls ≡ s.0
    ends = s.4 ∙ ap (λ (w : List Call). s.0 ++ w) s.3 ∙ append-nil s.0

    its : (k : ℕ) → two_conns k ≡ Some c.conn → k ≡ 5
    its k f = it (which k c.conn f)
      where
        it : ((k ≡ 3) × (c.conn ≡ 0)) ⊎ ((k ≡ 5) × (c.conn ≡ 1)) → k ≡ 5
        it (inl a) = absurd (omega (arith, e, a.1))
        it (inr a) = a.0

    by : IsShut two_conns (3 ∷ 5 ∷ []) c.conn s.0 → calls ≡ Close 5 ∷ []
    by (inl n) = absurd (n.0 5 (inr (inl refl)) (ap (λ (d : ℕ). Some d) (sym e)))
    by (inr y) = ends ∙ y.3 ∙ ap (λ (k : ℕ). Close k ∷ []) (its y.0 y.2)

pub other_close : Close 3 ∷ [] ≡ Close 5 ∷ [] → ⊥
other_close e = absurd (omega (arith, three e))
  where
    three : Close 3 ∷ [] ≡ Close 5 ∷ [] → ◌≡◌ {A = ℕ} 3 5
    three f = cc

-- and their causes
pub by_message : (x y : Course) (e : Envelope) (c : Closing) (t rest : List ℕ) (n : ℕ) → x.conn ≡ two_conns → Steps x (taking 0 e) (c ∷ []) y → c.conn ≡ 1 → (IsLost (Done n) t → ⊥) → IsRest t (messages_of 0 y.asked) rest → AwaitsMore rest
    → FollowsRead true 3 0 x (3 ∷ 5 ∷ []) (Done n) t (Close 5 ∷ []) y
by_message x y e c t rest n conns steps is on left waits =
    inr (
      on,
      (
        e ∷ [],
        y,
        Close 5 ∷ [],
        [],
        (inl refl, y, c ∷ [], Close 5 ∷ [], [], steps, subst (λ (w : ℕ → Option ℕ). AreShut w (3 ∷ 5 ∷ []) (c ∷ []) (Close 5 ∷ [])) (sym conns) (second_shut c is), (refl, refl), refl),
        (rest, left, inr (inl (inl refl, waits, refl, refl))),
        refl,
      ),
    )

pub second_left : (y : Course) (c : Closing) (t : List ℕ) → Steps two_links (leaving 0) (c ∷ []) y → c.conn ≡ 1 → FollowsRead true 3 0 two_links (3 ∷ 5 ∷ []) End t (Close 3 ∷ Close 5 ∷ []) y
second_left y c t steps is =
    inl (inl refl, (c ∷ [], Close 5 ∷ [], steps, (Close 5 ∷ [], [], inr (5, inl refl, ap (λ (d : ℕ). Some d) (sym is), refl), refl, refl), refl))

three_first : (xs : List Call) → Close 5 ∷ [] ≡ Close 3 ∷ xs → ⊥
three_first xs e = absurd (omega (arith, five_is xs e))
  where
    five_is : (ys : List Call) → Close 5 ∷ [] ≡ Close 3 ∷ ys → ◌≡◌ {A = ℕ} 5 3
    five_is ys f = cc

pub not_first : (y : Course) (t : List ℕ) → FollowsRead true 3 0 two_links (3 ∷ 5 ∷ []) End t (Close 5 ∷ []) y → ⊥
not_first y t (inl f) = three_first f.1.1 f.1.4
not_first y t (inr f) = f.0 (inl refl)

-- rounds
pub empty_round : (x : Course) (past : List Call) → open_behind (past ++ Accept NotYet ∷ []) ≡ [] → IsRound true x past (Accept NotYet ∷ []) x
empty_round x past e = (NotYet, x, [], refl, subst (λ (ks : List ℕ). AreTurns true x (past ++ Accept NotYet ∷ []) ks [] x) (sym e) (refl, refl), refl)

none_before : (j : ℕ) → start.conn j ≡ Some 0 → ⊥
none_before j e = cc

others_before : (j : ℕ) → (j ≡ 0 → ⊥) → one_conn j ≡ start.conn j
others_before j n = elim (eqb_tells j 0) [ inl e ↦ absurd (n e.1) | inr e ↦ rw e.0 refl ]

pub quiet_round : IsRound true start [] (Accept (Done 0) ∷ Read 0 [] NotYet ∷ []) one_link
quiet_round = (
  Done 0,
  one_link,
  Read 0 [] NotYet ∷ [],
  (0, none_before, refl, refl, refl, others_before),
  inr (inr (inl refl, (one_link, Read 0 [] NotYet ∷ [], [], quiet_turn, (refl, refl), refl))),
  refl,
)

pub some_round : (x y : Course) (past : List Call) → IsRound true x past [] y → ⊥
some_round x y past r = not_none (Accept r.0) r.2 r.5

-- of two links that have sent nothing
abbrev three : List Call
three = Accept (Done 3) ∷ Accept (Done 5) ∷ Accept NotYet ∷ Read 3 [] NotYet ∷ []

abbrev five : List Call
five = Accept (Done 3) ∷ Accept (Done 5) ∷ Accept NotYet ∷ Read 3 [] NotYet ∷ Read 5 [] NotYet ∷ []

abbrev no_bytes : List ℕ
no_bytes = []

nothing : (k j : ℕ) → (if j == k then no_bytes else []) ≡ []
nothing k j = elim (eqb_tells j k) [ inl e ↦ rw e.0 refl | inr e ↦ rw e.0 refl ]

three_taken : (k : ℕ) → taken k three ≡ []
three_taken k = ap (λ (w : List ℕ). w ++ []) (nothing k 3)

five_taken : (k : ℕ) → taken k five ≡ []
five_taken k = ap (λ (w : List ℕ). w ++ taken k (Read 5 [] NotYet ∷ [])) (nothing k 3) ∙ ap (λ (w : List ℕ). w ++ []) (nothing k 5)

two_said : (cs : List Call) (k : ℕ) → taken k cs ≡ [] → given k cs ≡ [] → IsSaid (joining 0 ∷ joining 1 ∷ []) (two_conns k) (taken k cs) (given k cs)
two_said cs k t g = rw t (rw g (elim (eqb_tells k 3) [ inl e ↦ rw e.0 no_speech | inr e ↦ elim (eqb_tells k 5) [ inl f ↦ rw e.0 (rw f.0 no_speech) | inr f ↦ rw e.0 (rw f.0 (refl, refl)) ] ]))

two_course : (cs : List Call) → ((k : ℕ) → taken k cs ≡ []) → ((k : ℕ) → given k cs ≡ []) → IsCourse two_links cs
two_course cs t g = record { run = (joins (empty_bus 16777216) 0, refl, (joins (joins (empty_bus 16777216) 0) 1, refl, refl)); apart = two_apart; said = λ k. two_said cs k (t k) (g k) }

two_given : (cs : List Call) (k c : ℕ) → ((j : ℕ) → taken j cs ≡ []) → ((j : ℕ) → given j cs ≡ []) → two_conns k ≡ Some c → HasAllGiven two_links cs k
two_given cs k c t g e = record {
  fits = two_course cs t g;
  conn = c;
  seated = e;
  all = g k ∙ sym (ap (λ (w : List ℕ). w ++ []) (ap (λ (w : List ℕ). line_bytes (lines_for w)) (t k) ∙ no_lines));
  none_waits = λ o. absurd (not_over (subst (λ (w : List ℕ). (after server_start w).stage ≡ Over) (t k) o));
}

pub two_round : IsRound true two_links (Accept (Done 3) ∷ Accept (Done 5) ∷ []) (Accept NotYet ∷ Read 3 [] NotYet ∷ Read 5 [] NotYet ∷ []) two_links
two_round = (
  NotYet,
  two_links,
  Read 3 [] NotYet ∷ Read 5 [] NotYet ∷ [],
  refl,
  inr (inr (
    inl refl,
    (
      two_links,
      Read 3 [] NotYet ∷ [],
      Read 5 [] NotYet ∷ [],
      (
        0,
        two_links,
        Read 3 [] NotYet ∷ [],
        [],
        refl,
        quiet_heard 3 0 two_links (Accept (Done 3) ∷ Accept (Done 5) ∷ Accept NotYet ∷ []) (3 ∷ 5 ∷ []) (inl refl) refl refl,
        inr (inl (inl refl, ([], tt, refl, refl, refl), two_given three 3 0 three_taken (λ k. refl) refl, refl)),
        refl,
      ),
      inr (inr (
        inr (inl refl),
        (
          two_links,
          Read 5 [] NotYet ∷ [],
          [],
          (
            1,
            two_links,
            Read 5 [] NotYet ∷ [],
            [],
            refl,
            quiet_heard 5 1 two_links three (3 ∷ 5 ∷ []) (inr (inl refl)) refl refl,
            inr (inl (inr (inl refl), ([], tt, refl, refl, refl), two_given five 5 1 five_taken (λ k. refl) refl, refl)),
            refl,
          ),
          (refl, refl),
          refl,
        ),
      )),
      refl,
    ),
  )),
  refl,
)

no_turn : (x y : Course) → AreTurns true x (Accept (Done 0) ∷ []) (0 ∷ []) [] y → ⊥
no_turn x y (inl c) = c
no_turn x y (inr (inl s)) = s.0 (inl refl)
no_turn x y (inr (inr s)) = some_turn x s.1.0 (Accept (Done 0) ∷ []) 0 (subst (λ (w : List Call). IsTurn x (Accept (Done 0) ∷ []) 0 w s.1.0) (none s.1.1 s.1.2 s.1.5) s.1.3)
  where
    none : (xs ys : List Call) → [] ≡ xs ++ ys → xs ≡ []
    none [] ys e = refl
    none (x ∷ xs) ys e = absurd (not_none x (xs ++ ys) e)

pub turn_due : (y : Course) → IsRound true start [] (Accept (Done 0) ∷ []) y → ⊥
turn_due y r = no_turn r.1 y (subst (λ (d : Did). AreTurns true r.1 (Accept d ∷ []) (open_behind (Accept d ∷ [])) [] y) (sym did) (subst (λ (w : List Call). AreTurns true r.1 (Accept r.0 ∷ []) (open_behind (Accept r.0 ∷ [])) w y) (sym rest) r.4))
  where
    did : Done 0 ≡ r.0
    did = one_accept (Done 0) r.0 (one_front (Accept (Done 0)) (Accept r.0) [] r.2 r.5)

    rest : [] ≡ r.2
    rest = one_rest (Accept (Done 0)) (Accept r.0) [] r.2 r.5

-- each round has a call
pub rounds_count : (n : ℕ) (x y : Course) (past calls : List Call) → AreRounds n x past calls y → n < suc (length calls)
rounds_count zero x y past calls a = omega arith
rounds_count (suc n) x y past calls a =
    omega (arith, rounds_count n x a.0 past a.1 a.3, ap (λ (w : List Call). length w) a.5, length-append a.1 a.2, ap (λ (w : List Call). length w) a.4.5)

-- all rounds done, and no call for them
status_eight : (stop : Stop) → 8 ≡ status_of stop → ⊥
status_eight stops.HostFailed e = omega (arith, e)
status_eight stops.Spent e = omega (arith, e)
status_eight stops.NoMemory e = omega (arith, e)

none_served : (past : List Call) → Served 8 1 past [] → ⊥
none_served past s = elim s.ends [
  | inl e ↦ omega (arith, rounds_count s.whole start s.led past s.done s.are, e.1, ap (λ (w : List Call). length w) s.all, length-append s.done s.last)
  | inr e ↦ status_eight e.0 e.1
]

pub none_run : (path : List ℕ) → IsRun path 8 1 (Listen path (Done 0) ∷ []) → ⊥
none_run path (inl e) = omega (arith, e.0)
none_run path (inr r) =
    none_served (Listen path r.0 ∷ []) (subst (λ (w : List Call). Served 8 1 (Listen path r.0 ∷ []) w) (sym (one_rest (Listen path (Done 0)) (Listen path r.0) [] r.1 r.4)) r.3)

-- a course on which nothing passed
pub nothing_passed : (cs : List Call) → ((k : ℕ) → taken k cs ≡ []) → ((k : ℕ) → given k cs ≡ []) → IsCourse start cs
nothing_passed cs t g = record { run = refl; apart = λ j k c e f. absurd (no c e); said = λ k. (t k, g k) }
  where
    no : (c : ℕ) → None ≡ Some c → ⊥
    no c e = cc
