-- ALONG EACH RUN the links from the bus are tied, where the bus behind the registry's start is the one with which worlds begin.
use Rattle.std.proofs.Common.{◌≡◌, ◌⊎◌, inl, inr, ℕ, zero, suc, ◌+◌, ◌-◌, ◌<◌, ◌≤◌, Bool, true, false, List, [], ◌∷◌, ◌++◌, length, map, Option, None, Some, refl, sym, ap, ap₂, ◌∙◌, subst, arith, length-append}
use Rattle.std.specs.Prelude.{filter_map, fold, nat_le, if◌then◌else◌}
use Rattle.std.specs.FinMap.{FinMap}
use Rattle.std.specs.Ordering.{nat_cmp}
use Rattle.std.specs.List.{AllByRecursion}
use Rattle.std.proofs.lemmas.Bool.{ltb-false}
use Rattle.std.proofs.lemmas.List.{append-nil}
use Rattle.std.proofs.lemmas.List.Sums.{fold-append}
use Rattle.atspi_message.specs.Envelope.{Envelope}
use Rattle.atspi_script_lines.specs.declared.limits.TheConstants.{QUOTA_MOST}
use Rattle.atspi_script_lines.specs.declared.line.Line.{Line}
use Rattle.atspi_script_lines.specs.declared.line.Line.TheVariants.{Blank, Quota as Quota_line, Bytes, Turns, Drain}
use Rattle.atspi_script_lines.specs.declared.line.Party.{Party}
use Rattle.atspi_script_lines.specs.declared.line.Party.TheVariants.{Registry, Reader}
use Rattle.atspi_protocol.specs.exporting.Exporter.{begins}
use Rattle.atspi_protocol.specs.exporting.Starting.{starts}
use Rattle.atspi_protocol.specs.declared.following.question.Question.{Question}
use Rattle.atspi_protocol.specs.declared.following.question.Question.TheVariants.{Hello}
use Rattle.atspi_protocol.specs.following.Calls.{asking}
use Rattle.atspi_match.specs.routing.Steps.{bus_joins}
use Rattle.atspi_match.specs.routing.Queues as queues
use Rattle.atspi_trace.specs.Entry.{Entry, started, sent}
use Rattle.atspi_trace.specs.World.{Standing, here, stopped, away, Said, Role, the_registry, an_application, a_reader, first_bus, first_registry, first_world, End, World}
use Rattle.atspi_trace.specs.Ends.{end_at, put_up, stops, reader_count}
use Rattle.atspi_trace.specs.Causes as causes
use Rattle.atspi_trace.specs.Causes.{Cause, Done, missing, has_done, does, at_end, app_starts, reader_starts}
use Rattle.atspi_trace.specs.Due.{freed, asks_as, asks_at}
use Rattle.atspi_trace.specs.Work.{Work, resting, doing, moving_up, moving_down, turning, draining, work_of, Next, cause, rests, next_of, moved_up, next_up, of_end}
use Rattle.atspi_headline.specs.Words.{Act, begins_line, moves_bytes, writes, entries_in, start_in, ends}
use Rattle.atspi_headline.specs.Links.{first_state, kept, moved, deliveries, letters, sizes, quota_after, quota_of}
use Rattle.atspi_trace_laws.proofs.OfOrder.Parties.{all_append}
use Rattle.atspi_trace_laws.proofs.OfOrder.Each.{all_map}
use Rattle.atspi_trace_laws.proofs.OfOrder.Allowed.{Moves, Asks}
use Rattle.atspi_trace_laws.proofs.OfOrder.Frame.{Over, over_same, over_with, joined_cases, at_below}
use Rattle.atspi_trace_laws.proofs.OfOrder.Shape.{Lasts, lasting, Shape, IsNew, not_new}
use Rattle.atspi_trace_laws.proofs.OfOrder.Gone.{at_front}
use Rattle.atspi_trace_laws.proofs.OfOrder.Shaped.{one_end, new_app, new_reader, app_joined, edits_over, calls_over, stopping_over, asked_over, up_moved_over, down_moved_over}
use Rattle.atspi_trace_laws.proofs.OfOrder.Growing.{Shaped, Nothing, And}
use Rattle.atspi_trace_laws.proofs.OfOrder.Told.{Tells}
use Rattle.atspi_trace_laws.proofs.OfDrops.Reaching.{Reach, Below, IsIn}
use Rattle.atspi_trace_laws.proofs.OfMissed.Resting.{Rests, rests_keep}
use Rattle.atspi_trace_laws.proofs.OfOwn.Writing.{Lives}
use Rattle.atspi_trace_laws.proofs.OfQuiet.Here.{Present, present_keeps}
use Rattle.atspi_headline_laws.proofs.Ran.{Ran, nothing_yet, did, began, caused, rested, asked, letter_bytes, moves_for, up_move, down_move, at_known, line_moves}
use Rattle.atspi_headline_laws.proofs.Keeping.{kept_along, shape_along}
use Rattle.atspi_headline_laws.proofs.Acting.{LineDid, line_did, renewed, app_began, reader_began, edited_app, called_app, swapped, app_stopped, reader_stopped, showed, turn_did, bare_quiet, IsBareLine, bare_line}
use Rattle.atspi_headline_laws.proofs.Sorting.{app_all, new_number}
use Rattle.atspi_headline_laws.proofs.Joining.{parties, EndsAre, ends_along}
use Rattle.atspi_headline_laws.proofs.Growing.{front_of, front_moved, lived_before}
use Rattle.atspi_headline_laws.proofs.Words.{chosen_more}
use Rattle.atspi_headline_quiet.proofs.Marking.{marks_along}
use Rattle.atspi_headline_quiet.proofs.Standing.{NoEnd}
use Rattle.atspi_headline_quiet.proofs.Wording.{rest_same, turns_rest, drain_rest}
use Rattle.atspi_headline_quiet.proofs.Waiting.{LinkIs, downs}
use Rattle.atspi_headline_quiet.proofs.Filling.{queue_put, queue_other}
use Rattle.atspi_headline_quiet.proofs.Walking.{pair, Walked, walk_one, walk_both, walk_idle, state_of, to_one, moved_more, moved_written}
use Rattle.atspi_headline_quiet.proofs.Delivering.{AllFit, all_kept}
use Rattle.atspi_headline_quiet.proofs.Downing.{DownTie, down_stays}
use Rattle.atspi_headline_quiet.proofs.Downs.{Under, BusTie, DownsTied, Still, Calm, calm_of, same_bus}
use Rattle.atspi_headline_quiet.proofs.Along.{ahead_down, NotDown, moved_up_none, moved_other, line_ahead}
use Rattle.atspi_headline_quiet.proofs.Tied.{SameDown, same_down, same_ahead, all_stay}
use Rattle.atspi_headline_quiet.proofs.Linking.{Tied, down_rests_tied, first_reach, first_downs}
use Rattle.atspi_headline_quiet.proofs.Turning.{IdleEntry, written_still, apps_idle, without_ahead, turn_tied}

nothing_more : (a : ℕ) → a ≡ 0 → 0 + a ≡ 0
nothing_more a h = omega (arith, h)

-- A LINE in which the bus does nothing
still_line : (run : List Act) (w v : World) (line : Line) (es : List Entry) → ((q : ℕ) → quota_after q (begins_line line) ≡ q) → AllByRecursion IdleEntry es → v.bus ≡ w.bus → Over SameDown w.ends v.ends → Over Lasts w.ends v.ends → Tied run w None
    → Tied (run ++ begins_line line ∷ map writes es) v (Some resting)
still_line run w v line es q idle bus o lasts t =
    let acts : List Act = begins_line line ∷ map writes es in
    let calm : Calm run acts = calm_of run acts (((λ before s. refl), q), written_still es idle) in (
      same_bus run acts w v t.0 calm (ap (λ b. b.state) bus) (ap (λ b. b.quota) bus) lasts (λ who never. moved_written es who false),
      all_stay run acts w v (λ k e. 0) (λ k e. 0) t.1 calm (ap (λ b. b.quota) bus) (ap (λ b. b.waiting.queues) bus) o (λ k e d at on same. nothing_more (moved acts e.who false) (moved_written es e.who false)),
    )

-- AN END JOINS
length_parties : (es : List End) → length (parties es) ≡ length es
length_parties [] = refl
length_parties (e ∷ es) = ap suc (length_parties es)

joined_line : (run : List Act) (w v : World) (line : Line) (n : End) (name : Option (List ℕ)) (rest : List Entry) → Shape w → EndsAre run w → ((q : ℕ) → quota_after q (begins_line line) ≡ q) → AllByRecursion IdleEntry rest → IsNew w n.who → v.bus ≡ queues.joins w.bus (length w.ends)
    → v.ends ≡ w.ends ++ n ∷ [] → n.down ≡ [] → n.down_moved ≡ 0 → Tied run w None → Tied (run ++ begins_line line ∷ map writes (started n.who name ∷ rest)) v (Some resting)
joined_line run w v line n name rest s tie q idle new bus is no_letters no_mark t = (
  record {
    state = walked.state ∙ ap₂ bus_joins (first.state ∙ t.0.state) count ∙ sym (ap (λ b. b.state) bus);
    quota = fold-append quota_after QUOTA_MOST run acts ∙ ap (λ x. fold quota_after x (map writes (started n.who name ∷ rest))) (q (quota_of run)) ∙ quota_written (quota_of run) (started n.who name ∷ rest) ∙ t.0.quota ∙ sym (ap (λ b. b.quota) bus);
    reach = subst (λ k. Reach (Under k) v.bus.state) (sym size) (subst (Reach (Under (suc (length w.ends)))) (sym (ap (λ b. b.state) bus)) reached);
    early = λ few. absurd (many (length v.ends) (length w.ends) size few (one_end w s));
    unknown = λ who never.
        let u = t.0.unknown who (λ k e h g. never k e (ap (λ l. end_at l k) is ∙ at_front w.ends n k e h) g) in
        (ap (to_one who) handed ∙ u.0, far who ∙ u.1);
  },
  λ k d at on. subst (λ x. DownTie (run ++ acts) x v.bus.waiting.queues k d 0) (sym (ap (λ b. b.quota) bus)) (by k d on (joined_cases w.ends n k d (sym (ap (λ l. end_at l k) is) ∙ at))),
)
  where
    acts : List Act
    acts = begins_line line ∷ map writes (started n.who name ∷ rest)

    base : List Act
    base = run ++ begins_line line ∷ []

    quota_written : (x : ℕ) (es : List Entry) → fold quota_after x (map writes es) ≡ x
    quota_written x [] = refl
    quota_written x (e ∷ es) = quota_written x es

    first : Walked run (begins_line line ∷ []) (state_of run) []
    first = walk_idle run (begins_line line ∷ []) ((λ before x. refl), tt)

    start : Walked base (writes (started n.who name) ∷ []) (bus_joins (state_of base) (length (ends base))) []
    start = walk_one base (writes (started n.who name))

    last : Walked (base ++ writes (started n.who name) ∷ []) (map writes rest) (bus_joins (state_of base) (length (ends base))) []
    last = subst (λ x. Walked (base ++ writes (started n.who name) ∷ []) (map writes rest) x []) start.state
        (walk_idle (base ++ writes (started n.who name) ∷ []) (map writes rest) (all_map Still _ (map writes rest) (λ act x. x.0) (written_still rest idle)))

    walked : Walked run acts (bus_joins (state_of base) (length (ends base))) []
    walked =
        walk_both run (begins_line line ∷ []) (map writes (started n.who name ∷ rest)) (state_of run) (bus_joins (state_of base) (length (ends base))) [] [] first
        (walk_both base (writes (started n.who name) ∷ []) (map writes rest) (bus_joins (state_of base) (length (ends base))) (bus_joins (state_of base) (length (ends base))) [] [] start last)

    handed : deliveries (run ++ acts) ≡ deliveries run
    handed = walked.handed ∙ append-nil (deliveries run)

    count : length (ends base) ≡ length w.ends
    count =
        ap (λ l. length (Registry ∷ l)) (chosen_more start_in run (begins_line line ∷ []) ∙ append-nil (filter_map start_in run)) ∙ ap length (sym tie) ∙ length_parties w.ends

    far : (who : Party) → moved (run ++ acts) who false ≡ moved run who false
    far who = moved_more run acts who false ∙ sum (moved run who false) (moved acts who false) (moved_written (started n.who name ∷ rest) who false)
      where
        sum : (a b : ℕ) → b ≡ 0 → a + b ≡ a
        sum a b h = omega (arith, h)

    size : length v.ends ≡ suc (length w.ends)
    size = one_more (length v.ends) (length w.ends) (ap length is ∙ length-append w.ends (n ∷ []))
      where
        one_more : (a b : ℕ) → a ≡ b + 1 → a ≡ suc b
        one_more a b h = omega (arith, h)

    many : (a b : ℕ) → a ≡ suc b → a ≤ 1 → 1 ≤ b → ⊥
    many a b h g i = omega (arith, h, g, i)

    up : (c m : ℕ) → c < m → c < suc m
    up c m h = omega (arith, h)

    least : (m : ℕ) → m < suc m
    least m = omega arith

    reached : Reach (Under (suc (length w.ends))) (bus_joins w.bus.state (length w.ends))
    reached = record {
      joined = all_append (Below (Under (suc (length w.ends)))) w.bus.state.joined (length w.ends ∷ [])
          (all_map (Below (Under (length w.ends))) (Below (Under (suc (length w.ends)))) w.bus.state.joined (λ c h. up c (length w.ends) h) t.0.reach.joined) (least (length w.ends), tt);
      lists = λ x. all_map (IsIn (Under (length w.ends))) (IsIn (Under (suc (length w.ends)))) _ (λ p h. up p.0 (length w.ends) h) (t.0.reach.lists x);
    }

    by : (k : ℕ) (d : End) → d.standing ≡ here → ((end_at w.ends k ≡ Some d) ⊎ ((k ≡ length w.ends) × (d ≡ n))) → DownTie (run ++ acts) w.bus.quota v.bus.waiting.queues k d 0
    by k d on (inl h) =
        down_stays run acts w.bus.quota w.bus.waiting.queues v.bus.waiting.queues k d d 0 0 (t.1 k d h on) handed refl refl refl
        (ap (λ b. queues.queue_of b.waiting.queues k) bus ∙ queue_other w.bus.waiting.queues (length w.ends) k [] (λ g. differ k (length w.ends) (at_below w.ends k d h) g))
        (nothing_more (moved acts d.who false) (moved_written (started n.who name ∷ rest) d.who false))
      where
        differ : (a b : ℕ) → a < b → a ≡ b → ⊥
        differ a b h g = omega (arith, h, g)
    by k d on (inr h) =
        subst (λ x. DownTie (run ++ acts) w.bus.quota v.bus.waiting.queues k x 0) (sym h.1)
        (record {
          fits = subst (AllFit w.bus.quota []) (sym (ap (to_one n.who) handed ∙ u.0)) tt;
          taken = [];
          whole = ap letters (ap (to_one n.who) handed ∙ u.0) ∙ ap (λ l. map pair l) (sym no_letters);
          count = far n.who ∙ u.1 ∙ sums n.down_moved no_mark;
          queue = ap (λ b. length (queues.queue_of b.waiting.queues k)) bus ∙ ap (λ j. length (queues.queue_of (queues.joins w.bus (length w.ends)).waiting.queues j)) h.0
              ∙ ap length (queue_put w.bus.waiting.queues (length w.ends) []) ∙ sym (ap₂ (λ l m. letter_bytes l - m) no_letters no_mark);
        })
      where
        u : (to_one n.who (deliveries run) ≡ []) × (moved run n.who false ≡ 0)
        u = t.0.unknown n.who (λ j e g same. not_new w s j e n.who g new same)

        sums : (m : ℕ) → m ≡ 0 → 0 ≡ (0 + m) + 0
        sums m g = omega (arith, g)

-- THE MOVES of a line that begins
move_still : (who : Party) (up : Bool) (count : ℕ) → Still (moves_bytes who up count)
move_still who up count = ((λ before s. refl), (λ q. refl))

up_still : (count : ℕ) (e : End) (st : Standing) → AllByRecursion Still (up_move count e st)
up_still count e here = (((λ before s. refl), (λ q. refl)), tt)
up_still zero e stopped = (move_still e.who true 0, tt)
up_still zero e away = (move_still e.who true 0, tt)
up_still (suc count) e stopped = tt
up_still (suc count) e away = (move_still e.who true 0, tt)

down_still : (count : ℕ) (e : End) (st : Standing) → AllByRecursion Still (down_move count e st)
down_still count e here = (((λ before s. refl), (λ q. refl)), tt)
down_still count e stopped = (move_still e.who false 0, tt)
down_still count e away = (move_still e.who false 0, tt)

at_still : (o : Option End) (acts : End → List Act) → ((e : End) → AllByRecursion Still (acts e)) → AllByRecursion Still (at_known o acts)
at_still None acts f = tt
at_still (Some e) acts f = f e

line_still : (w : World) (work : Work) → AllByRecursion Still (line_moves w work)
line_still w (moving_up conn count) = at_still (end_at w.ends conn) (λ e. up_move count e e.standing) (λ e. up_still count e e.standing)
line_still w (moving_down conn count) = at_still (end_at w.ends conn) (λ e. down_move count e e.standing) (λ e. down_still count e e.standing)
line_still w (turning count left) = tt
line_still w draining = tt
line_still w resting = tt
line_still w (doing c) = tt

bare_quota : (line : Line) → IsBareLine line → (q : ℕ) → quota_after q (begins_line line) ≡ q
bare_quota Blank b q = refl
bare_quota (Bytes who up count) b q = refl
bare_quota (Turns count) b q = refl
bare_quota Drain b q = refl
bare_quota line b q = absurd b

-- of one that is not there nothing is moved
none_known : (w : World) (work : Work) (who : Party) → NoEnd w who → moved (line_moves w work) who false ≡ 0
none_known w (moving_down conn count) who never = by (end_at w.ends conn) refl
  where
    stands : (x : End) (st : Standing) → end_at w.ends conn ≡ Some x → moved (down_move count x st) who false ≡ 0
    stands x here h = moved_other x.who who _ (λ g. never conn x h g)
    stands x stopped h = moved_other x.who who 0 (λ g. never conn x h g)
    stands x away h = moved_other x.who who 0 (λ g. never conn x h g)

    by : (o : Option End) → end_at w.ends conn ≡ o → moved (at_known o (λ x. down_move count x x.standing)) who false ≡ 0
    by None h = refl
    by (Some x) h = stands x x.standing h
none_known w (moving_up conn count) who never = by (end_at w.ends conn)
  where
    stands : (n : ℕ) (x : End) (st : Standing) → moved (up_move n x st) who false ≡ 0
    stands n x here = moved_up_none x.who who _
    stands zero x stopped = moved_up_none x.who who 0
    stands zero x away = moved_up_none x.who who 0
    stands (suc n) x stopped = refl
    stands (suc n) x away = moved_up_none x.who who 0

    by : (o : Option End) → moved (at_known o (λ x. up_move count x x.standing)) who false ≡ 0
    by (Some x) = stands count x x.standing
    by None = refl
none_known w (turning count left) who never = refl
none_known w draining who never = refl
none_known w resting who never = refl
none_known w (doing c) who never = refl

began_tied : (run : List Act) (w : World) (line : Line) → Shape w → IsBareLine line → Tied run w None → Tied (run ++ begins_line line ∷ line_moves w (work_of w line)) w (Some (work_of w line))
began_tied run w line s bare t =
    let acts : List Act = begins_line line ∷ line_moves w (work_of w line) in
    let calm : Calm run acts = calm_of run acts (((λ before x. refl), bare_quota line bare), line_still w (work_of w line)) in (
      same_bus run acts w w t.0 calm refl refl (over_same Lasts lasting w.ends) (λ who never. none_known w (work_of w line) who never),
      all_stay run acts w w (λ k e. 0) (ahead_down (Some (work_of w line))) t.1 calm refl refl (over_same SameDown same_down w.ends)
          (λ k e d at on same. more (moved acts e.who false) (ahead_down (Some (work_of w line)) k d) (line_ahead w (work_of w line) k e (λ j x h g. s.one j k x e h at g) at on ∙ sym (same_ahead (Some (work_of w line)) k e d same))),
    )
  where
    more : (a b : ℕ) → a ≡ b → 0 + a ≡ b
    more a b h = omega (arith, h)

-- A LINE that does its one cause
stop_down : (e : End) → SameDown e (stops e)
stop_down e = record { whose = refl; on = λ h. absurd (never h); down = refl; mark = refl }
  where
    never : stopped ≡ here → ⊥
    never h = cc

speaks_down : (saids : List Said) (role : Role) (e : End) → SameDown e (put_up saids (record e { role = role }))
speaks_down saids role e = record { whose = refl; on = λ h. h; down = refl; mark = refl }

renewed_tied : (run : List Act) (w : World) (quota : ℕ) → Shape w → length w.ends ≤ 1 → Tied run w None → Tied (run ++ begins_line (Quota_line quota) ∷ []) (first_world quota) (Some resting)
renewed_tied run w quota s few t = (
  record {
    state = walked.state ∙ t.0.state ∙ ap (λ (x : World). x.bus.state) was;
    quota = fold-append quota_after QUOTA_MOST run (begins_line (Quota_line quota) ∷ []);
    reach = first_reach quota;
    early = λ small. none;
    unknown = λ who never.
        let u = t.0.unknown who (subst (λ (x : World). NoEnd x who) (sym was) never) in
        (ap (to_one who) handed ∙ u.0, far who ∙ u.1);
  },
  first_downs (run ++ begins_line (Quota_line quota) ∷ []) quota none (far Registry ∙ registry),
)
  where
    was : w ≡ first_world w.bus.quota
    was = by s.alone
      where
        by : ((2 ≤ length w.ends) ⊎ (w ≡ first_world w.bus.quota)) → w ≡ first_world w.bus.quota
        by (inl two) = absurd (omega (arith, two, few))
        by (inr h) = h

    walked : Walked run (begins_line (Quota_line quota) ∷ []) (state_of run) []
    walked = walk_idle run (begins_line (Quota_line quota) ∷ []) ((λ before x. refl), tt)

    handed : deliveries (run ++ begins_line (Quota_line quota) ∷ []) ≡ deliveries run
    handed = walked.handed ∙ append-nil (deliveries run)

    none : deliveries (run ++ begins_line (Quota_line quota) ∷ []) ≡ []
    none = handed ∙ t.0.early few

    far : (who : Party) → moved (run ++ begins_line (Quota_line quota) ∷ []) who false ≡ moved run who false
    far who = moved_more run (begins_line (Quota_line quota) ∷ []) who false ∙ zero_more (moved run who false)
      where
        zero_more : (n : ℕ) → n + 0 ≡ n
        zero_more n = omega arith

    old : DownTie run w.bus.quota w.bus.waiting.queues 0 first_registry 0
    old = t.1 0 first_registry (ap (λ (x : World). end_at x.ends 0) was) refl

    no_taken : (l : List (Party × Envelope)) → [] ≡ l ++ [] → l ≡ []
    no_taken l h = sym (h ∙ append-nil l)

    registry : moved run Registry false ≡ 0
    registry = old.count ∙ ap (λ l. (sizes l + 0) + 0) (no_taken old.taken (sym (ap (λ l. letters (to_one Registry l)) (t.0.early few)) ∙ old.whole))

line_tied : (run : List Act) (w : World) (line : Line) (d : Done) → Shape w → EndsAre run w → LineDid w line d → Tied run w None → Tied (run ++ begins_line line ∷ map writes d.entries) d.world (Some resting)
line_tied run w line _ s tie (renewed quota few) t = renewed_tied run w quota s (ltb-false 1 (length w.ends) few) t
line_tied run w line _ s tie (app_began name short few) t =
    joined_line run w (app_starts w name).world line (new_app w name) (Some name) (map (causes.did (new_number w name)) (starts (begins name)).out) s tie (λ q. refl) (app_all IdleEntry apps_idle (new_number w name) (starts (begins name)).out) refl refl (app_joined w name) refl refl t
line_tied run w line _ s tie (reader_began few) t =
    joined_line run w (reader_starts w).world line (new_reader w) None (sent (Reader (reader_count w.ends)) (asking 1 Hello) ∷ []) s tie (λ q. refl) (((λ before x. refl), (λ q. refl)), tt) refl refl refl refl refl t
line_tied run w line d s tie (edited_app app conn edit e before after h who role done_ can) t =
    still_line run w d.world line d.entries (λ q. refl) (app_all IdleEntry apps_idle _ after.out) refl (over_with SameDown same_down (has_done before after) (λ x. speaks_down _ _ x) conn w.ends)
    (edits_over w d (record { conn = conn; app = app; e = e; before = before; after = after; edit = edit; is_here = h; whose = who; role = role; done = done_; asked = can; is = refl })) t
line_tied run w line d s tie (called_app reader app node conn deed e hearer h who role) t =
    still_line run w d.world line d.entries (λ q. refl) (((λ before x. refl), (λ q. refl)), tt) refl (over_with SameDown same_down _ (λ x. speaks_down _ _ x) conn w.ends)
    (calls_over w d (record { conn = conn; reader = reader; e = e; hearer = hearer; name = _; node = node; deed = deed; is_here = h; whose = who; role = role; is = refl })) t
line_tied run w line d s tie (swapped app) t = still_line run w d.world line [] (λ q. refl) tt refl (over_same SameDown same_down w.ends) (over_same Lasts lasting w.ends) t
line_tied run w line _ s tie (app_stopped app d b who) t =
    still_line run w d.world line d.entries (λ q. refl) (subst (λ (x : Done). AllByRecursion IdleEntry x.entries) (sym b.is) (((λ before x. refl), (λ q. refl)), tt)) (ap (λ (x : Done). x.world.bus) b.is)
    (subst (λ (x : Done). Over SameDown w.ends x.world.ends) (sym b.is) (over_with SameDown same_down stops stop_down b.conn w.ends)) (stopping_over w d b) t
line_tied run w line _ s tie (reader_stopped reader d b who) t =
    still_line run w d.world line d.entries (λ q. refl) (subst (λ (x : Done). AllByRecursion IdleEntry x.entries) (sym b.is) (((λ before x. refl), (λ q. refl)), tt)) (ap (λ (x : Done). x.world.bus) b.is)
    (subst (λ (x : Done). Over SameDown w.ends x.world.ends) (sym b.is) (over_with SameDown same_down stops stop_down b.conn w.ends)) (stopping_over w d b) t
line_tied run w line d s tie (showed reader app conn e hearer there who role) t =
    still_line run w d.world line d.entries (λ q. refl) (((λ before x. refl), (λ q. refl)), tt) refl (over_same SameDown same_down w.ends) (over_same Lasts lasting w.ends) t

-- A WORK COMES TO REST
abbrev world_in : Next → World → World
world_in (cause c v left) x = x
world_in (rests v) x = v

no_rest : (c : Cause) (w v : World) (left : Work) → cause c w left ≡ rests v → ⊥
no_rest c w v left h = cc

up_rests : (w v : World) (conn n : ℕ) → next_of w (moving_up conn n) ≡ rests v → (w ≡ v) ⊎ (moved_up w conn n ≡ v)
up_rests w v conn n is = by (end_at w.ends conn) is
  where
    at : (e : End) (st : Standing) (n : ℕ) (l : List Said) → next_up w conn n st e.up_moved l ≡ rests v → (w ≡ v) ⊎ (moved_up w conn n ≡ v)
    at e here n (said ∷ rest) h = choose (nat_le (missing said.message e.up_moved) n) h
      where
        choose : (b : Bool) → (if b then cause (causes.routes conn) w (moving_up conn (n - missing said.message e.up_moved)) else rests (moved_up w conn n)) ≡ rests v → (w ≡ v) ⊎ (moved_up w conn n ≡ v)
        choose true g = absurd (no_rest (causes.routes conn) w v (moving_up conn (n - missing said.message e.up_moved)) g)
        choose false g = inr (ap (λ x. world_in x w) g)
    at e here n [] h = inl (ap (λ x. world_in x w) h)
    at e stopped zero l h = inl (ap (λ x. world_in x w) h)
    at e stopped (suc n) l h = absurd (no_rest (causes.unjoins conn) w v resting h)
    at e away n l h = inl (ap (λ x. world_in x w) h)

    by : (o : Option End) → of_end w o (λ e. next_up w conn n e.standing e.up_moved e.up) ≡ rests v → (w ≡ v) ⊎ (moved_up w conn n ≡ v)
    by None h = inl (ap (λ x. world_in x w) h)
    by (Some e) h = at e e.standing n e.up h

rest_bus : (run : List Act) (w v : World) → Moves w v → BusTie run w → BusTie run v
rest_bus run w v (inl same) t = subst (BusTie run) (sym same) t
rest_bus run w v (inr (inl m)) t =
    subst (λ l. BusTie l v) (append-nil run)
    (same_bus run [] w v t (calm_of run [] tt) (ap (λ (x : World). x.bus.state) m.after) (ap (λ (x : World). x.bus.quota) m.after) (up_moved_over w v m) (λ who never. refl))
rest_bus run w v (inr (inr m)) t =
    subst (λ l. BusTie l v) (append-nil run)
    (same_bus run [] w v t (calm_of run [] tt) (ap (λ (x : World). x.bus.state) m.after) (ap (λ (x : World). x.bus.quota) m.after) (down_moved_over w v m) (λ who never. refl))

rest_downs : (run : List Act) (w v : World) (work : Work) → next_of w work ≡ rests v → DownsTied run w (ahead_down (Some work)) → DownsTied run v (λ k e. 0)
rest_downs run w v (moving_down conn n) is t = down_rests_tied run w v conn n is t
rest_downs run w v resting is t = subst (λ u. DownsTied run u (λ k e. 0)) (rest_same w v is) t
rest_downs run w v (turning count n) is t = subst (λ u. DownsTied run u (λ k e. 0)) (turns_rest w v count n is).0 t
rest_downs run w v draining is t = absurd (drain_rest w v is)
rest_downs run w v (doing c) is t = absurd (no_rest c w v resting is)
rest_downs run w v (moving_up conn n) is t = by (up_rests w v conn n is)
  where
    by : (w ≡ v) ⊎ (moved_up w conn n ≡ v) → DownsTied run v (λ k e. 0)
    by (inl same) = subst (λ u. DownsTied run u (λ k e. 0)) same t
    by (inr same) =
        subst (λ u. DownsTied run u (λ k e. 0)) same
        (subst (λ l. DownsTied l (moved_up w conn n) (λ k e. 0)) (append-nil run)
        (all_stay run [] w (moved_up w conn n) (λ k e. 0) (λ k e. 0) t (calm_of run [] tt) refl refl
        (over_with SameDown same_down (λ e. record e { up_moved = e.up_moved + n }) (λ e. record { whose = refl; on = λ h. h; down = refl; mark = refl }) conn w.ends) (λ k e d at on same. refl)))

-- A READER ASKS
asks_down : (m : Envelope) (question : Question) (e : End) → SameDown e (asks_at m question e)
asks_down m question e = by e.role
  where
    by : (role : Role) → SameDown e (asks_as role m question e)
    by (a_reader h) = record { whose = refl; on = λ g. g; down = refl; mark = refl }
    by (the_registry x) = same_down.same e
    by (an_application x) = same_down.same e

asked_tied : (run : List Act) (w : World) (conn r : ℕ) (m : Envelope) (question : Question) (at : Option Work) → Asks w conn r m question → Tied run w at → Tied (run ++ writes (sent (Reader r) m) ∷ []) (at_end w conn (asks_at m question)) at
asked_tied run w conn r m question at a t =
    let acts : List Act = writes (sent (Reader r) m) ∷ [] in
    let calm : Calm run acts = calm_of run acts (((λ before s. refl), (λ q. refl)), tt) in (
      same_bus run acts w (at_end w conn (asks_at m question)) t.0 calm refl refl (asked_over w conn r m question a) (λ who never. refl),
      all_stay run acts w (at_end w conn (asks_at m question)) (ahead_down at) (ahead_down at) t.1 calm refl refl (over_with SameDown same_down (asks_at m question) (asks_down m question) conn w.ends)
          (λ k e d there on same. more (ahead_down at k e) ∙ sym (same_ahead at k e d same)),
    )
  where
    more : (n : ℕ) → n + 0 ≡ n
    more n = omega arith

-- the link by the words of the run
link_of : (run : List Act) (quota : ℕ) (q : FinMap nat_cmp (List ℕ)) (k : ℕ) (e : End) → quota_of run ≡ quota → DownTie run quota q k e 0 → LinkIs run e.who false (downs e) e.down_moved
link_of run quota q k e is d = record {
  taken = d.taken;
  whole = ap (λ x. letters (kept x [] (to_one e.who (deliveries run)))) is ∙ ap letters (all_kept quota [] (to_one e.who (deliveries run)) d.fits) ∙ d.whole;
  count = d.count ∙ more (sizes d.taken + e.down_moved);
}
  where
    more : (n : ℕ) → n + 0 ≡ n
    more n = omega arith

-- ALONG A RUN
module _ (first : (quota : ℕ) → first_state ≡ (first_bus quota).state) where
  pub tied_along : (run : List Act) (w : World) (free : Option ℕ) (at : Option Work) → Ran run w free at → Lives (entries_in run) → Tied run w at
  tied_along _ _ _ _ nothing_yet live = (
    record { state = first QUOTA_MOST; quota = refl; reach = first_reach QUOTA_MOST; early = λ few. refl; unknown = λ who never. (refl, refl) },
    first_downs [] QUOTA_MOST refl refl,
  )
  tied_along _ _ _ _ (did run w line c r ok can is a) live =
      line_tied run w line (does w c) (shape_along run w None None r) (ends_along run w None None r) (line_did w line c (shape_along run w None None r) ok can a is)
      (tied_along run w None None r (lived_before run (begins_line line ∷ map writes (does w c).entries) live))
  tied_along _ _ _ _ (began run w line r ok can b) live =
      began_tied run w line (shape_along run w None None r) (bare_line w line ok b) (tied_along run w None None r (lived_before run (begins_line line ∷ line_moves w (work_of w line)) live))
  tied_along _ _ _ _ (caused run w free work left c r is b a) live =
      let before : Lives (entries_in run) = lived_before run (moves_for w work c ++ map writes (does w c).entries) live in
      let next : Ran (run ++ (moves_for w work c ++ map writes (does w c).entries)) (does w c).world (freed c) (Some left) = caused run w free work left c r is b a in
      let k = kept_along (Shaped (And (And Nothing Tells) Present)) present_keeps run w free (Some work) r in
      turn_tied run w free work left c (does w c) (turn_did w c (shape_along run w free (Some work) r) (bare_quiet w work left c b is) a)
      (record {
        front = λ moves m. front_moved run moves w free m (front_of run w free (Some work) r before);
        shape = shape_along run w free (Some work) r;
        after = shape_along (run ++ (moves_for w work c ++ map writes (does w c).entries)) (does w c).world (freed c) (Some left) next;
        told_ = k.1.0.1;
        greeted = k.1.1.0;
        due_before = (kept_along (Shaped (And Nothing Rests)) rests_keep run w free (Some work) r).1.1.due;
        due_after = (kept_along (Shaped (And Nothing Rests)) rests_keep (run ++ (moves_for w work c ++ map writes (does w c).entries)) (does w c).world (freed c) (Some left) next).1.1.due;
        tie = ends_along run w free (Some work) r;
        marks = marks_along run w free (Some work) r;
      }) b is live (tied_along run w free (Some work) r before)
  tied_along _ _ _ _ (rested run w v free work r is m well) live =
      let t : Tied run w (Some work) = tied_along run w free (Some work) r live in (rest_bus run w v m t.0, rest_downs run w v work is t.1)
  tied_along _ _ _ _ (asked run w conn q m question work r a) live = asked_tied run w conn q m question work a (tied_along run w (Some conn) work r (lived_before run (writes (sent (Reader q) m) ∷ []) live))

  -- the link of an end that is here, while no bytes of it are at work
  pub down_is : (run : List Act) (w : World) (free : Option ℕ) (work : Work) → Ran run w free (Some work) → Lives (entries_in run) → NotDown work → (k : ℕ) (e : End) → end_at w.ends k ≡ Some e → e.standing ≡ here → LinkIs run e.who false (downs e) e.down_moved
  down_is run w free work r live n k e at on =
      let t : Tied run w (Some work) = tied_along run w free (Some work) r live in
      let d : DownTie run w.bus.quota w.bus.waiting.queues k e 0 = without_ahead run w work n t.1 k e at on in
      link_of run w.bus.quota w.bus.waiting.queues k e t.0.quota d

  pub down_between : (run : List Act) (w : World) (free : Option ℕ) → Ran run w free None → Lives (entries_in run) → (k : ℕ) (e : End) → end_at w.ends k ≡ Some e → e.standing ≡ here → LinkIs run e.who false (downs e) e.down_moved
  down_between run w free r live k e at on = let t : Tied run w None = tied_along run w free None r live in link_of run w.bus.quota w.bus.waiting.queues k e t.0.quota (t.1 k e at on)
