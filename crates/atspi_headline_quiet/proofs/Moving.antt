-- WHICH LINES MOVE BYTES: `bytes` makes one move, of the link that it names, and turns are made behind `turns` and `drain` alone.
use Rattle.std.proofs.Common.{◌≡◌, ◌⊎◌, inl, inr, ℕ, zero, suc, ◌≤◌, ◌-◌, Bool, true, false, List, [], ◌∷◌, ◌++◌, map, min, Option, None, Some, refl, sym, ap, ap₂, ◌∙◌, subst, arith}
use Rattle.std.specs.Prelude.{filter, nat_le, if◌then◌else◌}
use Rattle.std.proofs.lemmas.List.{append-nil}
use Rattle.atspi_script_lines.specs.declared.line.Line.{Line}
use Rattle.atspi_script_lines.specs.declared.line.Line.TheVariants.{Blank, Quota, App as App_line, Reader as Reader_line, Edit as Edit_line, Call, Swap, Exit, Leave, Bytes, Turns, Drain, Show}
use Rattle.atspi_script_lines.specs.declared.line.Party.{Party}
use Rattle.atspi_script_lines.specs.declared.line.Party.TheVariants.{Reader}
use Rattle.atspi_message.specs.Envelope.{Envelope}
use Rattle.atspi_protocol.specs.declared.following.question.Question.{Question}
use Rattle.atspi_trace.specs.Entry.{Entry, sent}
use Rattle.atspi_trace.specs.World.{Standing, here, stopped, away, Said, Letter, End, World}
use Rattle.atspi_trace.specs.Ends.{whose, party_at, conn_of, end_at, end_if}
use Rattle.atspi_trace.specs.Causes as causes
use Rattle.atspi_trace.specs.Causes.{Cause, Done, missing, does, at_end}
use Rattle.atspi_trace.specs.Due.{freed, asks_at}
use Rattle.atspi_trace.specs.Work as works
use Rattle.atspi_trace.specs.Work.{no_party, if_started, no_more, refused, Work, resting, doing, moving_up, moving_down, turning, draining, with_conn, work_of, Next, cause, rests, next_of, moved_up, moved_down, next_up, next_down, of_end}
use Rattle.atspi_headline.specs.Words.{Act, begins_line, moves_bytes, takes_end, writes, entries_in, is_move, Along}
use Rattle.atspi_trace_laws.proofs.OfOrder.Parties.{no_none, same_some}
use Rattle.atspi_trace_laws.proofs.OfOwn.Writing.{Lives}
use Rattle.atspi_trace_played.proofs.BuildingFading.{IsQuietTurn, turn_over}
use Rattle.atspi_headline_laws.proofs.Ran.{Ran, stopped_move, moves_for, up_move, down_move, at_known, line_moves}
use Rattle.atspi_headline_laws.proofs.Acting.{LineDid, renewed, app_began, reader_began, edited_app, called_app, swapped, app_stopped, reader_stopped, showed, there_at, bare_quiet, IsBareLine}
use Rattle.atspi_headline_quiet.specs.Laws.{IsOfLink, MovedAs, LineMovesTold, LinesMoveTold}
use Rattle.atspi_headline_quiet.proofs.Lining.{IsStage, BehindLine, NoLine, rests_no, lines_map, lines_along}
use Rattle.atspi_headline_quiet.proofs.Wording.{no_rest}
use Rattle.atspi_headline_quiet.proofs.Changing.{asked_over}
use Rattle.atspi_headline_quiet.proofs.Standing.{SameStanding, stands_speak}

-- A LINE that moves nothing
abbrev IsStill : Line → Type 0
IsStill (Bytes who up count) = ⊥
IsStill (Turns count) = ⊥
IsStill Drain = ⊥
IsStill line = Unit {0}

abbrev MakesTurns : Line → Type 0
MakesTurns (Turns count) = Unit {0}
MakesTurns Drain = Unit {0}
MakesTurns line = ⊥

-- what is left moves no end: an end is moved by a line `bytes` where it stopped, and some bytes are left
abbrev MovesNoEnd : World → Work → Type 0
MovesNoEnd w (moving_up conn zero) = Unit {0}
MovesNoEnd w (moving_up conn (suc count)) = (e : End) → end_at w.ends conn ≡ Some e → e.standing ≡ stopped → ⊥
MovesNoEnd w (moving_down conn count) = Unit {0}
MovesNoEnd w resting = Unit {0}
MovesNoEnd w work = ⊥

pub data Moving (G : Party → Bool → ℕ → Act → Type 0) (acts : List Act) (w : World) (free : Option ℕ) : Line → Work → Type 0 where
  turns_ : (line : Line) (work : Work) → MakesTurns line → Moving G acts w free line work
  still_ : (line : Line) → IsStill line → filter is_move acts ≡ [] → Moving G acts w free line resting
  moved_ : (who : Party) (up : Bool) (count : ℕ) (work : Work) (act : Act) → filter is_move acts ≡ act ∷ [] → G who up count act → MovesNoEnd w work → Moving G acts w free (Bytes who up count) work
  waits_ : (who : Party) (count conn left : ℕ) (e : End) → filter is_move acts ≡ [] → end_at w.ends conn ≡ Some e → e.who ≡ who → e.standing ≡ stopped → free ≡ None → G who true count (takes_end who) → Moving G acts w free (Bytes who true count) (moving_up conn (suc left))

moves_more : (xs ys : List Act) → filter is_move (xs ++ ys) ≡ filter is_move xs ++ filter is_move ys
moves_more [] ys = refl
moves_more (begins_line line ∷ xs) ys = moves_more xs ys
moves_more (moves_bytes who up count ∷ xs) ys = ap (λ l. moves_bytes who up count ∷ l) (moves_more xs ys)
moves_more (takes_end who ∷ xs) ys = ap (λ l. takes_end who ∷ l) (moves_more xs ys)
moves_more (writes entry ∷ xs) ys = moves_more xs ys

moves_written : (es : List Entry) → filter is_move (map writes es) ≡ []
moves_written [] = refl
moves_written (e ∷ es) = moves_written es

-- behind acts that move nothing more
no_more_moves : (acts more found : List Act) → filter is_move acts ≡ found → filter is_move more ≡ [] → filter is_move (acts ++ more) ≡ found
no_more_moves acts more found h none = moves_more acts more ∙ ap (λ l. filter is_move acts ++ l) none ∙ append-nil (filter is_move acts) ∙ h

did_still : (w : World) (line : Line) (d : Done) → LineDid w line d → IsStill line
did_still w _ _ (renewed quota few) = tt
did_still w _ _ (app_began name short few) = tt
did_still w _ _ (reader_began few) = tt
did_still w _ _ (edited_app app conn edit e before after h who role done_ can) = tt
did_still w _ _ (called_app reader app node conn deed e hearer h who role) = tt
did_still w _ _ (swapped app) = tt
did_still w _ _ (app_stopped app d b who) = tt
did_still w _ _ (reader_stopped reader d b who) = tt
did_still w _ _ (showed reader app conn e hearer there who role) = tt

-- A LINE `bytes` BEGINS
stopped_no : here ≡ stopped → ⊥
stopped_no h = cc

away_no : away ≡ stopped → ⊥
away_no h = cc

no_end_moved : (w : World) (conn count : ℕ) (e : End) → end_at w.ends conn ≡ Some e → (e.standing ≡ stopped → ⊥) → MovesNoEnd w (moving_up conn count)
no_end_moved w conn zero e at never = tt
no_end_moved w conn (suc count) e at never = λ x there s. never (ap (λ (y : End). y.standing) (same_some e x (sym at ∙ there)) ∙ s)

-- what is made as the line begins, or behind it
abbrev pub MadeSo : (Act → Type 0) → Party → List Act → Type 0
MadeSo P who [] = P (takes_end who)
MadeSo P who (act ∷ acts) = P act

abbrev pub IsMade : World → Party → Bool → ℕ → (Act → Type 0) → Type 0
IsMade w who true count P = (conn : ℕ) (e : End) → end_at w.ends conn ≡ Some e → e.who ≡ who → MadeSo P who (up_move count e e.standing)
IsMade w who false count P = (conn : ℕ) (e : End) → end_at w.ends conn ≡ Some e → e.who ≡ who → MadeSo P who (down_move count e e.standing)

abbrev pub LineMade : World → Line → (Party → Bool → ℕ → Act → Type 0) → Type 0
LineMade w (Bytes who up count) G = IsMade w who up count (G who up count)
LineMade w line G = Unit {0}

-- A CAUSE of what is left
abbrev cause_of : Next → Cause → Cause
cause_of (cause c v left) d = c
cause_of (rests v) d = d

abbrev left_of : Next → Work → Work
left_of (cause c v left) x = left
left_of (rests v) x = x

pub record GoesUp (w : World) (conn : ℕ) (c : Cause) (left : Work) : Type 0 where
  pub e : End
  pub there : end_at w.ends conn ≡ Some e
  pub standing : e.standing ≡ here
  pub routes_ : c ≡ causes.routes conn
  pub rest : ℕ
  pub left_ : left ≡ moving_up conn rest

pub record StopsUp (w : World) (conn : ℕ) (c : Cause) (left : Work) : Type 0 where
  pub unjoins_ : c ≡ causes.unjoins conn
  pub left_ : left ≡ resting

up_goes : (w : World) (conn n : ℕ) (c : Cause) (left : Work) (e : End) → end_at w.ends conn ≡ Some e → (st : Standing) (l : List Said) → e.standing ≡ st → next_up w conn n st e.up_moved l ≡ cause c w left
    → GoesUp w conn c left ⊎ (StopsUp w conn c left × (e.standing ≡ stopped))
up_goes w conn n c left e at here (said ∷ rest) s h = by (nat_le (missing said.message e.up_moved) n) h
  where
    by : (b : Bool) → (if b then cause (causes.routes conn) w (moving_up conn (n - missing said.message e.up_moved)) else rests (moved_up w conn n)) ≡ cause c w left → GoesUp w conn c left ⊎ (StopsUp w conn c left × (e.standing ≡ stopped))
    by true g = inl (record { e = e; there = at; standing = s; routes_ = sym (ap (λ x. cause_of x c) g); rest = n - missing said.message e.up_moved; left_ = sym (ap (λ x. left_of x left) g) })
    by false g = absurd (rests_no (moved_up w conn n) w c left g)
up_goes w conn n c left e at here [] s h = absurd (rests_no w w c left h)
up_goes w conn zero c left e at stopped l s h = absurd (rests_no w w c left h)
up_goes w conn (suc n) c left e at stopped l s h = inr (record { unjoins_ = sym (ap (λ x. cause_of x c) h); left_ = sym (ap (λ x. left_of x left) h) }, s)
up_goes w conn n c left e at away l s h = absurd (rests_no w w c left h)

pub up_next : (w : World) (conn n : ℕ) (c : Cause) (left : Work) → next_of w (moving_up conn n) ≡ cause c w left → GoesUp w conn c left ⊎ (StopsUp w conn c left × ((e : End) × (end_at w.ends conn ≡ Some e) × (e.standing ≡ stopped) × (n ≡ 0 → ⊥)))
up_next w conn n c left is = by (end_at w.ends conn) refl is
  where
    Result : Type 0
    Result = GoesUp w conn c left ⊎ (StopsUp w conn c left × ((e : End) × (end_at w.ends conn ≡ Some e) × (e.standing ≡ stopped) × (n ≡ 0 → ⊥)))

    nothing : (e : End) → e.standing ≡ stopped → next_up w conn n e.standing e.up_moved e.up ≡ cause c w left → n ≡ 0 → ⊥
    nothing e s h z = rests_no w w c left (sym (ap₂ (λ k st. next_up w conn k st e.up_moved e.up) z s) ∙ h)

    by : (o : Option End) → end_at w.ends conn ≡ o → of_end w o (λ e. next_up w conn n e.standing e.up_moved e.up) ≡ cause c w left → Result
    by None at h = absurd (rests_no w w c left h)
    by (Some e) at h = sort (up_goes w conn n c left e at e.standing e.up refl h)
      where
        sort : GoesUp w conn c left ⊎ (StopsUp w conn c left × (e.standing ≡ stopped)) → Result
        sort (inl g) = inl g
        sort (inr g) = inr (g.0, (e, at, g.1, nothing e g.1 h))

down_left : (w : World) (conn n : ℕ) (c : Cause) (left : Work) → next_of w (moving_down conn n) ≡ cause c w left → (m : ℕ) × (left ≡ moving_down conn m)
down_left w conn n c left is = by (end_at w.ends conn) is
  where
    at : (e : End) (st : Standing) (l : List Letter) → next_down w conn n st e.down_moved l ≡ cause c w left → (m : ℕ) × (left ≡ moving_down conn m)
    at e here (letter ∷ rest) h = choose (nat_le (missing letter.said.message e.down_moved) n) h
      where
        choose : (b : Bool) → (if b then cause (causes.gets conn) w (moving_down conn (n - missing letter.said.message e.down_moved)) else rests (moved_down w conn n)) ≡ cause c w left → (m : ℕ) × (left ≡ moving_down conn m)
        choose true g = (n - missing letter.said.message e.down_moved, sym (ap (λ x. left_of x left) g))
        choose false g = absurd (rests_no (moved_down w conn n) w c left g)
    at e here [] h = absurd (rests_no w w c left h)
    at e stopped l h = absurd (rests_no w w c left h)
    at e away l h = absurd (rests_no w w c left h)

    by : (o : Option End) → of_end w o (λ e. next_down w conn n e.standing e.down_moved e.down) ≡ cause c w left → (m : ℕ) × (left ≡ moving_down conn m)
    by None h = absurd (rests_no w w c left h)
    by (Some e) h = at e e.standing e.down h

-- an end that is here does not stop by a turn
still_no_end : (w : World) (c : Cause) (conn n : ℕ) → IsQuietTurn c → (e : End) → end_at w.ends conn ≡ Some e → e.standing ≡ here → MovesNoEnd (does w c).world (moving_up conn n)
still_no_end w c conn zero q e at s = tt
still_no_end w c conn (suc n) q e at s = λ d there stop.
    let x = (turn_over w c q).back conn d there in
    stopped_no (sym s ∙ ap (λ (y : End). y.standing) (same_some e x.0 (sym at ∙ x.1)) ∙ x.2.stop stop)

module _ (G : Party → Bool → ℕ → Act → Type 0) where
  up_began : (w : World) (who : Party) (conn count : ℕ) (e : End) → end_at w.ends conn ≡ Some e → e.who ≡ who → (st : Standing) → e.standing ≡ st → MadeSo (G who true count) who (up_move count e st) → Moving G (up_move count e st) w None (Bytes who true count) (moving_up conn count)
  up_began w who conn count e at is here s g = moved_ who true count (moving_up conn count) _ refl g (no_end_moved w conn count e at (λ h. stopped_no (sym s ∙ h)))
  up_began w who conn zero e at is stopped s g = moved_ who true zero (moving_up conn zero) _ refl g tt
  up_began w who conn (suc count) e at is stopped s g = waits_ who (suc count) conn count e refl at is s refl g
  up_began w who conn zero e at is away s g = moved_ who true zero (moving_up conn zero) _ refl g tt
  up_began w who conn (suc count) e at is away s g = moved_ who true (suc count) (moving_up conn (suc count)) _ refl g (no_end_moved w conn (suc count) e at (λ h. away_no (sym s ∙ h)))

  down_began : (w : World) (who : Party) (conn count : ℕ) (e : End) (st : Standing) → MadeSo (G who false count) who (down_move count e st) → Moving G (down_move count e st) w None (Bytes who false count) (moving_down conn count)
  down_began w who conn count e here g = moved_ who false count (moving_down conn count) _ refl g tt
  down_began w who conn count e stopped g = moved_ who false count (moving_down conn count) _ refl g tt
  down_began w who conn count e away g = moved_ who false count (moving_down conn count) _ refl g tt

  bytes_began : (w : World) (who : Party) (up : Bool) (count : ℕ) → refused w (Bytes who up count) ≡ None → IsMade w who up count (G who up count) → Moving G (line_moves w (work_of w (Bytes who up count))) w None (Bytes who up count) (work_of w (Bytes who up count))
  bytes_began w who up count ok g = by (conn_of w.ends who) refl
    where
      by : (o : Option ℕ) → conn_of w.ends who ≡ o → Moving G (line_moves w (with_conn (conn_of w.ends who) (works.moving up count))) w None (Bytes who up count) (with_conn (conn_of w.ends who) (works.moving up count))
      by None h = absurd (no_none no_party (sym ok ∙ ap (λ o. if_started (end_if w.ends o) no_more) h))
      by (Some conn) h = subst (λ o. Moving G (line_moves w (with_conn o (works.moving up count))) w None (Bytes who up count) (with_conn o (works.moving up count))) (sym h) (at up g)
        where
          t : (e : End) × (end_at w.ends conn ≡ Some e) × (e.who ≡ who)
          t = there_at w who conn h

          at : (way : Bool) → IsMade w who way count (G who way count) → Moving G (line_moves w (works.moving way count conn)) w None (Bytes who way count) (works.moving way count conn)
          at true f =
              subst (λ o. Moving G (at_known o (λ e. up_move count e e.standing)) w None (Bytes who true count) (moving_up conn count)) (sym t.1)
              (up_began w who conn count t.0 t.1 t.2 t.0.standing refl (f conn t.0 t.1 t.2))
          at false f =
              subst (λ o. Moving G (at_known o (λ e. down_move count e e.standing)) w None (Bytes who false count) (moving_down conn count)) (sym t.1)
              (down_began w who conn count t.0 t.0.standing (f conn t.0 t.1 t.2))

  began_moving : (w : World) (line : Line) → refused w line ≡ None → IsBareLine line → LineMade w line G → Moving G (line_moves w (work_of w line)) w None line (work_of w line)
  began_moving w Blank ok b g = still_ Blank tt refl
  began_moving w (Bytes who up count) ok b g = bytes_began w who up count ok g
  began_moving w (Turns count) ok b g = turns_ (Turns count) (turning count count) tt
  began_moving w Drain ok b g = turns_ Drain draining tt
  began_moving w line ok b g = absurd b

  moved_on : (w : World) (who : Party) (up : Bool) (count : ℕ) (acts : List Act) (work left : Work) (c : Cause) (act : Act) → filter is_move acts ≡ act ∷ [] → G who up count act → MovesNoEnd w work → next_of w work ≡ cause c w left → IsQuietTurn c
      → Moving G (acts ++ (moves_for w work c ++ map writes (does w c).entries)) (does w c).world (freed c) (Bytes who up count) left
  moved_on w who up count acts (moving_up conn n) left c act f o never is q = by (up_next w conn n c left is)
    where
      more : Cause → List Act
      more x = acts ++ (stopped_move w x ++ map writes (does w c).entries)

      by : GoesUp w conn c left ⊎ (StopsUp w conn c left × ((e : End) × (end_at w.ends conn ≡ Some e) × (e.standing ≡ stopped) × (n ≡ 0 → ⊥))) → Moving G (more c) (does w c).world (freed c) (Bytes who up count) left
      by (inl g) =
          let none : filter is_move (stopped_move w c ++ map writes (does w c).entries) ≡ [] =
          ap (λ x. filter is_move (stopped_move w x ++ map writes (does w c).entries)) g.routes_ ∙ moves_written (does w c).entries in
          subst (Moving G (more c) (does w c).world (freed c) (Bytes who up count)) (sym g.left_)
          (moved_ who up count (moving_up conn g.rest) act (no_more_moves acts (stopped_move w c ++ map writes (does w c).entries) (act ∷ []) f none) o (still_no_end w c conn g.rest q g.e g.there g.standing))
      by (inr g) = absurd (neither n never g.1)
        where
          neither : (k : ℕ) → MovesNoEnd w (moving_up conn k) → ((e : End) × (end_at w.ends conn ≡ Some e) × (e.standing ≡ stopped) × (k ≡ 0 → ⊥)) → ⊥
          neither zero m x = x.3 refl
          neither (suc k) m x = m x.0 x.1 x.2
  moved_on w who up count acts (moving_down conn n) left c act f o never is q =
      let x = down_left w conn n c left is in
      subst (Moving G (acts ++ map writes (does w c).entries) (does w c).world (freed c) (Bytes who up count)) (sym x.1)
      (moved_ who up count (moving_down conn x.0) act (no_more_moves acts (map writes (does w c).entries) (act ∷ []) f (moves_written (does w c).entries)) o tt)
  moved_on w who up count acts resting left c act f o never is q = absurd (rests_no w w c left is)
  moved_on w who up count acts (doing x) left c act f o never is q = absurd never
  moved_on w who up count acts (turning k n) left c act f o never is q = absurd never
  moved_on w who up count acts draining left c act f o never is q = absurd never

  waits_on : (w : World) (who : Party) (count conn n : ℕ) (acts : List Act) (left : Work) (c : Cause) (e : End) → filter is_move acts ≡ [] → end_at w.ends conn ≡ Some e → e.who ≡ who → e.standing ≡ stopped → G who true count (takes_end who)
      → next_of w (moving_up conn (suc n)) ≡ cause c w left → Moving G (acts ++ (stopped_move w c ++ map writes (does w c).entries)) (does w c).world (freed c) (Bytes who true count) left
  waits_on w who count conn n acts left c e f at is s good next = by (up_next w conn (suc n) c left next)
    where
      by : GoesUp w conn c left ⊎ (StopsUp w conn c left × ((x : End) × (end_at w.ends conn ≡ Some x) × (x.standing ≡ stopped) × (suc n ≡ 0 → ⊥))) → Moving G (acts ++ (stopped_move w c ++ map writes (does w c).entries)) (does w c).world (freed c) (Bytes who true count) left
      by (inl g) = absurd (stopped_no (sym g.standing ∙ ap (λ (y : End). y.standing) (same_some g.e e (sym g.there ∙ at)) ∙ s))
      by (inr g) =
          let one : filter is_move (stopped_move w c ++ map writes (does w c).entries) ≡ takes_end (party_at w.ends conn) ∷ [] =
          ap (λ x. filter is_move (stopped_move w x ++ map writes (does w c).entries)) g.0.unjoins_ ∙ ap (λ l. takes_end (party_at w.ends conn) ∷ l) (moves_written (does w c).entries) in
          subst (Moving G (acts ++ (stopped_move w c ++ map writes (does w c).entries)) (does w c).world (freed c) (Bytes who true count)) (sym g.0.left_)
          (moved_ who true count resting (takes_end (party_at w.ends conn)) (moves_more acts (stopped_move w c ++ map writes (does w c).entries) ∙ ap₂ (λ x y. x ++ y) f one) (subst (λ p. G who true count (takes_end p)) (sym (ap whose at ∙ is)) good) tt)

  caused_moving : (line : Line) (acts : List Act) (w : World) (free : Option ℕ) (work left : Work) (c : Cause) → Moving G acts w free line work → next_of w work ≡ cause c w left → IsQuietTurn c
      → Moving G (acts ++ (moves_for w work c ++ map writes (does w c).entries)) (does w c).world (freed c) line left
  caused_moving _ acts w free _ left c (turns_ line work m) is q = turns_ line left m
  caused_moving _ acts w free _ left c (still_ line s f) is q = absurd (rests_no w w c left is)
  caused_moving _ acts w free _ left c (moved_ who up count work act f o never) is q = moved_on w who up count acts work left c act f o never is q
  caused_moving _ acts w free _ left c (waits_ who count conn n e f at is s nobody good) next q = waits_on w who count conn n acts left c e f at is s good next

  asked_no_end : (w : World) (conn : ℕ) (m : Envelope) (question : Question) (work : Work) → MovesNoEnd w work → MovesNoEnd (at_end w conn (asks_at m question)) work
  asked_no_end w conn m question (moving_up k zero) never = tt
  asked_no_end w conn m question (moving_up k (suc n)) never = λ d there stop. let x = (asked_over SameStanding stands_speak w conn m question).back k d there in never x.0 x.1 (sym x.2.standing ∙ stop)
  asked_no_end w conn m question (moving_down k n) never = tt
  asked_no_end w conn m question resting never = tt
  asked_no_end w conn m question (doing c) never = never
  asked_no_end w conn m question (turning k n) never = never
  asked_no_end w conn m question draining never = never

  asked_moving : (line : Line) (acts : List Act) (w : World) (conn r : ℕ) (m : Envelope) (question : Question) (work : Work) → Moving G acts w (Some conn) line work
      → Moving G (acts ++ writes (sent (Reader r) m) ∷ []) (at_end w conn (asks_at m question)) None line work
  asked_moving _ acts w conn r m question _ (turns_ line work t) = turns_ line work t
  asked_moving _ acts w conn r m question _ (still_ line s f) = still_ line s (no_more_moves acts (writes (sent (Reader r) m) ∷ []) [] f refl)
  asked_moving _ acts w conn r m question _ (moved_ who up count work act f o never) = moved_ who up count work act (no_more_moves acts (writes (sent (Reader r) m) ∷ []) (act ∷ []) f refl) o (asked_no_end w conn m question work never)
  asked_moving _ acts w conn r m question _ (waits_ who count k n e f at is s nobody good) = absurd (no_none conn (sym nobody))

  -- WHERE THE LINE ENDS
  turns_told : (line : Line) (acts : List Act) → MakesTurns line → MovedAs G line acts
  turns_told (Turns count) acts t = tt
  turns_told Drain acts t = tt
  turns_told line acts t = absurd t

  still_told : (line : Line) (acts : List Act) → IsStill line → filter is_move acts ≡ [] → MovedAs G line acts
  still_told Blank acts s f = f
  still_told (Quota quota) acts s f = f
  still_told (App_line name) acts s f = f
  still_told Reader_line acts s f = f
  still_told (Edit_line app edit) acts s f = f
  still_told (Call reader app node deed) acts s f = f
  still_told (Swap app) acts s f = f
  still_told (Exit app) acts s f = f
  still_told (Leave reader) acts s f = f
  still_told (Bytes who up count) acts s f = absurd s
  still_told (Turns count) acts s f = absurd s
  still_told Drain acts s f = absurd s
  still_told (Show reader app) acts s f = f

  rested_moving : (line : Line) (acts : List Act) (w v : World) (free : Option ℕ) (work : Work) → Moving G acts w free line work → next_of w work ≡ rests v → MovedAs G line acts
  rested_moving _ acts w v free _ (turns_ line work t) is = turns_told line acts t
  rested_moving _ acts w v free _ (still_ line s f) is = still_told line acts s f
  rested_moving _ acts w v free _ (moved_ who up count work act f o never) is = (act, f, o)
  rested_moving _ acts w v free _ (waits_ who count conn n e f at who_ s nobody good) is =
      absurd (no_rest (causes.unjoins conn) w v resting (sym (ap (λ o. of_end w o (λ x. next_up w conn (suc n) x.standing x.up_moved x.up)) at ∙ ap (λ st. next_up w conn (suc n) st e.up_moved e.up) s) ∙ is))

-- ALONG RUNS, of moves of which this is said as they are made
module _ (Good : List Act → Party → Bool → ℕ → Act → Type 0)
    (good : (run : List Act) (w : World) (who : Party) (up : Bool) (count : ℕ) → Ran run w None None → Lives (entries_in run) → IsMade w who up count (Good (run ++ begins_line (Bytes who up count) ∷ []) who up count)) where
  abbrev Stage : List Act → Line → List Act → World → Option ℕ → Work → Type 0
  Stage before line acts w free work = Moving (Good before) acts w free line work

  abbrev pub Law : List Act → Line → List Act → Type 0
  Law before line acts = MovedAs (Good before) line acts

  made_of : (run : List Act) (w : World) (line : Line) → Ran run w None None → Lives (entries_in run) → LineMade w line (Good (run ++ begins_line line ∷ []))
  made_of run w (Bytes who up count) r live = good run w who up count r live
  made_of run w Blank r live = tt
  made_of run w (Quota quota) r live = tt
  made_of run w (App_line name) r live = tt
  made_of run w Reader_line r live = tt
  made_of run w (Edit_line app edit) r live = tt
  made_of run w (Call reader app node deed) r live = tt
  made_of run w (Swap app) r live = tt
  made_of run w (Exit app) r live = tt
  made_of run w (Leave reader) r live = tt
  made_of run w (Turns count) r live = tt
  made_of run w Drain r live = tt
  made_of run w (Show reader app) r live = tt

  moves_stage : IsStage Law Stage
  moves_stage = record {
    did_ = λ run w line c r d. still_ line (did_still w line (does w c) d) (moves_written (does w c).entries);
    began_ = λ run w line r live ok b. began_moving (Good (run ++ begins_line line ∷ [])) w line ok b (made_of run w line r live);
    caused_ = λ before line acts w free work left c s r live is bare t. caused_moving (Good before) line acts w free work left c s is (bare_quiet w work left c bare is);
    asked_ = λ before line acts w conn r m question work s. asked_moving (Good before) line acts w conn r m question work s;
    rested_ = λ before line acts w v free work s r live is well. rested_moving (Good before) line acts w v free work s is;
  }

  pub moves_along : (run : List Act) (w : World) → Ran run w None None → Lives (entries_in run) → Along (BehindLine Law) [] run
  moves_along run w r live = lines_along Law Stage moves_stage run w r live

-- THE LAW, of what a line names
at_most : (count n : ℕ) → min count n ≤ count
at_most count n = omega arith

up_named : (who : Party) (count : ℕ) (e : End) (st : Standing) → e.who ≡ who → MadeSo (IsOfLink who true count) who (up_move count e st)
up_named who count e here is = (is, refl, at_most count _)
up_named who zero e stopped is = (is, refl, omega arith)
up_named who (suc count) e stopped is = (refl, refl)
up_named who zero e away is = (is, refl, omega arith)
up_named who (suc count) e away is = (is, refl, omega arith)

down_named : (who : Party) (count : ℕ) (e : End) (st : Standing) → e.who ≡ who → MadeSo (IsOfLink who false count) who (down_move count e st)
down_named who count e here is = (is, refl, at_most count _)
down_named who count e stopped is = (is, refl, omega arith)
down_named who count e away is = (is, refl, omega arith)

named_good : (run : List Act) (w : World) (who : Party) (up : Bool) (count : ℕ) → Ran run w None None → Lives (entries_in run) → IsMade w who up count (IsOfLink who up count)
named_good run w who true count r live = λ conn e at is. up_named who count e e.standing is
named_good run w who false count r live = λ conn e at is. down_named who count e e.standing is

no_line : (before : List Act) (act : Act) (behind : List Act) → NoLine act → LineMovesTold before act behind
no_line before (begins_line line) behind n = absurd n
no_line before (moves_bytes who up count) behind n = tt
no_line before (takes_end who) behind n = tt
no_line before (writes entry) behind n = tt

pub lines_move : (run : List Act) (w : World) → Ran run w None None → Lives (entries_in run) → LinesMoveTold run
lines_move run w r live =
    lines_map (λ before line acts. MovedAs IsOfLink line acts) LineMovesTold run (λ before line behind h. h) no_line (moves_along (λ before. IsOfLink) named_good run w r live)
