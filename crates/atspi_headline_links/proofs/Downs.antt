-- HOW FAR A LINK FROM THE BUS WAS MOVED: of an end that is here, what was delivered to it is what it took and what lies on its link; the bytes moved
-- are those of what it took, those moved of the first message left, and, while a line moves bytes of it, those that are at work.
use Rattle.std.proofs.Common.{◌≡◌, ◌⊎◌, inl, inr, ℕ, zero, suc, ◌+◌, ◌-◌, ◌<◌, ◌≤◌, Bool, true, false, List, [], ◌∷◌, ◌++◌, length, map, drop, Option, None, Some, refl, sym, ap, ap₂, ◌∙◌, subst, arith, min, length-append}
use Rattle.std.specs.Prelude.{◌==◌, filter, filter_map, fold, if◌then◌else◌}
use Rattle.std.specs.List.{AllByRecursion}
use Rattle.std.specs.FinMap as finmap
use Rattle.std.specs.FinMap.{get-from_sorted}
use Rattle.std.specs.Ordering.{nat_cmp, eq_by_cmp}
use Rattle.std.proofs.lemmas.Bool.{ltb-false, eqb-true, eq-eqb, ne_eqb}
use Rattle.std.proofs.lemmas.List.{append-nil, append_assoc, length-drop}
use Rattle.atspi_script_lines.specs.declared.limits.TheConstants.{QUOTA_MOST}
use Rattle.atspi_script_lines.specs.declared.line.Line.{Line}
use Rattle.atspi_script_lines.specs.declared.line.Line.TheVariants.{Blank, Quota, App as App_line, Reader as Reader_line, Edit as Edit_line, Call, Swap, Exit, Leave, Bytes, Turns, Drain, Show}
use Rattle.atspi_script_lines.specs.declared.line.Party.{Party}
use Rattle.atspi_script_lines.specs.declared.line.Party.TheVariants.{Bus as The_bus, Reader}
use Rattle.atspi_message.specs.Envelope.{Envelope}
use Rattle.atspi_match.specs.declared.routing.closing.Why.{Why}
use Rattle.atspi_match.specs.routing.Queues.{Waiting, Bus, or_nothing, queue_of, is_due}
use Rattle.atspi_protocol.specs.declared.following.question.Question.{Question}
use Rattle.atspi_trace.specs.Entry.{Entry, sent, busy, quiet}
use Rattle.atspi_trace.specs.World.{Standing, here, stopped, away, Said, Letter, first_queues, first_registry, first_world, End, World}
use Rattle.atspi_trace.specs.Ends.{number_of, whose, party_at, end_at, with_end, stops}
use Rattle.atspi_trace.specs.Carrying.{Carried, one_closed, settled}
use Rattle.atspi_trace.specs.Causes.{Cause, renews, starts_app, starts_reader, edits, calls, swaps_face, exits, shows, tells_busy, tells_quiet, routes, unjoins, gets, Done, only, does, at_end, has_done, missing}
use Rattle.atspi_trace.specs.Work.{Work, resting, doing, moving_up, moving_down, turning, draining, cause, rests, moved_down, next_of, work_of}
use Rattle.atspi_trace.specs.Due.{freed, asks_at}
use Rattle.atspi_headline.specs.Words.{Act, begins_line, moves_bytes, takes_end, writes, entries_in, ends}
use Rattle.atspi_headline.specs.Links.{size, sizes, moved, link, whole_in, routed, kept, deliveries, delivered_after, delivery_in, sender_at, quota_after, quota_of, letters, is_to}
use Rattle.atspi_match.specs.routing.Steps.{BusStep}
use Rattle.atspi_trace_laws.proofs.OfOrder.Parties.{no_none, same_some, false_true}
use Rattle.atspi_trace_laws.proofs.OfOrder.Frame.{Over, IsOrder, over_same, over_with, with_cases, joined_cases, at_below}
use Rattle.atspi_trace_laws.proofs.OfOrder.Growing.{Shaped, Nothing}
use Rattle.atspi_trace_laws.proofs.OfOrder.Growing as layers
use Rattle.atspi_trace_laws.proofs.OfOrder.Shape.{Shape, IsNew, not_new}
use Rattle.atspi_trace_laws.proofs.OfOrder.Shaped.{new_app, new_reader, app_joined, bus_takes_over, bus_ends_over}
use Rattle.atspi_trace_laws.proofs.OfOrder.Allowed.{IsBare}
use Rattle.atspi_trace_laws.proofs.OfOrder.Effects.{received, BusTakes, BusEnds}
use Rattle.atspi_trace_laws.proofs.OfLinks.LawLinks.{no_bus}
use Rattle.atspi_trace_laws.proofs.OfHeard.Quiet.{heard_all}
use Rattle.atspi_protocol.specs.registering.Steps.{registry_takes}
use Rattle.atspi_protocol.specs.exporting.Taking.{app_takes}
use Rattle.atspi_trace_laws.proofs.OfMissed.Resting.{Rests, rests_keep}
use Rattle.atspi_trace_laws.proofs.OfOwn.Writing.{Lives}
use Rattle.atspi_headline_laws.proofs.Ran.{Ran, nothing_yet, did, began, caused, rested, asked, letter_bytes, next_missing, down_missing, up_move, down_move, at_known, turn_move, stopped_move, moves_for, line_moves}
use Rattle.atspi_headline_laws.proofs.Making.{AllMoves, moves_are, line_moves_are}
use Rattle.atspi_headline_laws.proofs.Keeping.{shape_along}
use Rattle.atspi_headline_laws.proofs.Joining.{parties, turn_parties, ends_along}
use Rattle.atspi_headline_laws.proofs.Acting.{LineDid, line_did, renewed, app_began, reader_began, edited_app, called_app, swapped, app_stopped, reader_stopped, showed, TurnDid, turn_did, bare_quiet, told_busy, told_quiet, bus_took, bus_ended, registry_took, app_took, reader_took, IsBareLine, bare_line}
use Rattle.atspi_headline_laws.proofs.Sorting.{LineSorts, line_all, app_all}
use Rattle.atspi_headline_laws.proofs.Growing.{Front, front_of, front_moved, lived_before}
use Rattle.atspi_headline_laws.proofs.Registering.{Stays, gathered_more, gathered_stays}
use Rattle.atspi_headline_links.proofs.Sizes.{Mail, IsBegun, begun_anew, completed_is, sizes_both}
use Rattle.atspi_headline_links.proofs.Moved.{fold_more, moved_more, moved_written, moved_of_both, moved_own, moved_other, moved_forth}
use Rattle.atspi_headline_links.proofs.Known.{IsUnknown, unknown_of, none_along}
use Rattle.atspi_headline_links.proofs.Nexts as ups_rest
use Rattle.atspi_headline_links.proofs.Nexts.{GoesUp, StopsUp, up_goes, UpRest, up_rests, GoesDown, down_goes, DownRest, stays, goes_on, down_rests, turns_rest, drain_rests, still_rests, none_rests, IsTurning, turns_leave, drain_leaves}
use Rattle.atspi_headline_links.proofs.Marks.{no_rest_cause}
use Rattle.atspi_headline_links.proofs.Gots.{downs_of, downs, DownIs, NotDown, Knows, TakesOne, takes_one, letters_are, SameDown, asks_down, no_route, no_unjoin, no_busy, no_quiet}
use Rattle.atspi_headline_links.proofs.Speaking.{BusSo, bus_along, idle_step, Idle, idle_writes, apps_idle, got_idle, all_sent_idle, line_moves_idle, moves_idle, end_move, IsUnjoin, line_idle}
use Rattle.atspi_headline_links.proofs.Routed.{AllIn, kept_all, none_delivered}
use Rattle.atspi_headline_links.proofs.Queues.{queue_here, queue_there}
use Rattle.atspi_headline_links.proofs.Handed.{DownTie}
use Rattle.atspi_headline_links.proofs.Delivering.{FullTied, same_tie}
use Rattle.atspi_headline_links.proofs.Through.{c_one, c_all, took_full, e_one, e_all, ended_full}

-- THE TIE
abbrev pub ahead_down : Option Work → ℕ → End → ℕ
ahead_down (Some (moving_down conn count)) k e = if conn == k then min count (sizes (downs e) - e.down_moved) else 0
ahead_down at k e = 0

none_ahead : (at : Option Work) (k : ℕ) (e : End) → NotDown at → ahead_down at k e ≡ 0
none_ahead None k e n = refl
none_ahead (Some (moving_up conn count)) k e n = refl
none_ahead (Some (moving_down conn count)) k e n = absurd n
none_ahead (Some (turning count left)) k e n = refl
none_ahead (Some draining) k e n = refl
none_ahead (Some resting) k e n = refl
none_ahead (Some (doing c)) k e n = refl

none_of_other : (conn count k : ℕ) (e : End) → (conn ≡ k → ⊥) → ahead_down (Some (moving_down conn count)) k e ≡ 0
none_of_other conn count k e differ = ap (λ b. if b then min count (sizes (downs e) - e.down_moved) else 0) (ne_eqb conn k differ)

ahead_here : (conn count : ℕ) (e : End) → ahead_down (Some (moving_down conn count)) conn e ≡ min count (sizes (downs e) - e.down_moved)
ahead_here conn count e = ap (λ b. if b then min count (sizes (downs e) - e.down_moved) else 0) (eq-eqb conn conn refl)

pub record DownAt (run : List Act) (w : World) (k : ℕ) (e : End) (ahead : ℕ) : Type 0 where
  pub mark : ℕ
  pub moved_is : moved run e.who false ≡ mark + ahead
  pub tie : DownTie w.bus.quota (deliveries run) mark (length (queue_of w.bus.waiting.queues k)) e

abbrev pub DownTied : List Act → World → Option Work → Type 0
DownTied run w at = (k : ℕ) (e : End) → end_at w.ends k ≡ Some e → e.standing ≡ here → DownAt run w k e (ahead_down at k e)

pub record DownSo (run : List Act) (w : World) (at : Option Work) : Type 0 where
  pub quota : quota_of run ≡ w.bus.quota
  pub none_yet : (2 ≤ length w.ends) ⊎ (deliveries run ≡ [])
  pub tied : DownTied run w at

-- ACTS by which nothing is delivered
idle_delivers : (act : Act) → Idle act → Stays delivered_after act
idle_delivers act i before ds =
    ap (λ (x : BusStep). ds ++ filter_map (delivery_in before (sender_at act)) x.moves) (i.does_nothing before _) ∙ append-nil ds

all_idle : (acts : List Act) → AllByRecursion Idle acts → AllByRecursion (Stays delivered_after) acts
all_idle [] a = tt
all_idle (act ∷ acts) a = (idle_delivers act a.0, all_idle acts a.1)

pub same_deliveries : (run acts : List Act) → AllByRecursion (Stays delivered_after) acts → deliveries (run ++ acts) ≡ deliveries run
same_deliveries run acts a = gathered_more delivered_after [] [] run acts ∙ gathered_stays delivered_after (deliveries run) run acts a

-- an end that starts is handed nothing
entry_delivers : (entry : Entry) → Idle (writes entry) → Stays delivered_after (writes entry)
entry_delivers entry i = idle_delivers (writes entry) i

-- THE QUOTA
pub quota_more : (run acts : List Act) → quota_of (run ++ acts) ≡ fold quota_after (quota_of run) acts
quota_more run acts = fold_more quota_after QUOTA_MOST run acts

quota_written : (q : ℕ) (es : List Entry) → fold quota_after q (map writes es) ≡ q
quota_written q [] = refl
quota_written q (e ∷ es) = quota_written q es

quota_moves : (q : ℕ) (acts : List Act) → AllMoves acts → fold quota_after q acts ≡ q
quota_moves q [] m = refl
quota_moves q (moves_bytes who up count ∷ acts) m = quota_moves q acts m
quota_moves q (takes_end who ∷ acts) m = quota_moves q acts m
quota_moves q (begins_line line ∷ acts) m = absurd m
quota_moves q (writes entry ∷ acts) m = absurd m

quota_both : (q : ℕ) (acts : List Act) (es : List Entry) → AllMoves acts → fold quota_after q (acts ++ map writes es) ≡ q
quota_both q acts es m = fold_more quota_after q acts (map writes es) ∙ ap (λ n. fold quota_after n (map writes es)) (quota_moves q acts m) ∙ quota_written q es

bare_quota : (q : ℕ) (line : Line) → IsBareLine line → quota_after q (begins_line line) ≡ q
bare_quota q Blank b = refl
bare_quota q (Bytes who up count) b = refl
bare_quota q (Turns count) b = refl
bare_quota q Drain b = refl
bare_quota q (Quota count) b = absurd b
bare_quota q (App_line name) b = refl
bare_quota q Reader_line b = refl
bare_quota q (Edit_line app edit) b = refl
bare_quota q (Call reader app node deed) b = refl
bare_quota q (Swap app) b = refl
bare_quota q (Exit app) b = refl
bare_quota q (Leave reader) b = refl
bare_quota q (Show reader app) b = refl

-- WHERE NOTHING IS TAKEN OF A LINK: whoever is here was here, and its link from the bus stays
pub record KeptDown (e d : End) : Type 0 where
  pub here_before : e.standing ≡ here
  pub down : d.down ≡ e.down
  pub mark : d.down_moved ≡ e.down_moved

pub record KeepsDown (e d : End) : Type 0 where
  pub whose : d.who ≡ e.who
  pub going : d.standing ≡ here → KeptDown e d

keeping_down : IsOrder KeepsDown
keeping_down = record {
  same = λ e. record { whose = refl; going = λ h. record { here_before = h; down = refl; mark = refl } };
  both = λ e d c f g. record {
    whose = g.whose ∙ f.whose;
    going = λ h.
        let y = g.going h in
        let x = f.going y.here_before in
        record { here_before = x.here_before; down = y.down ∙ x.down; mark = y.mark ∙ x.mark };
  };
}

as_before : (e d : End) → d.who ≡ e.who → d.standing ≡ e.standing → d.down ≡ e.down → d.down_moved ≡ e.down_moved → KeepsDown e d
as_before e d who st down mark = record { whose = who; going = λ h. record { here_before = sym st ∙ h; down = down; mark = mark } }

of_same : (e d : End) → SameDown e d → KeepsDown e d
of_same e d s = as_before e d s.whose s.standing s.down s.mark

not_stopped : stopped ≡ here → ⊥
not_stopped h = cc

stop_ : (e : End) → KeepsDown e (stops e)
stop_ e = record { whose = refl; going = λ h. absurd (not_stopped h) }

abbrev Balanced : List Act → World → World → Option Work → Option Work → Type 0
Balanced acts w v at now = (k : ℕ) (e d : End) → end_at w.ends k ≡ Some e → e.standing ≡ here → end_at v.ends k ≡ Some d → d.standing ≡ here → KeepsDown e d → moved acts e.who false + ahead_down at k e ≡ ahead_down now k d

keep_tied : (run acts : List Act) (w v : World) (at now : Option Work) → deliveries (run ++ acts) ≡ deliveries run → Over KeepsDown w.ends v.ends → v.bus.waiting ≡ w.bus.waiting → v.bus.quota ≡ w.bus.quota → Balanced acts w v at now → DownTied run w at
    → DownTied (run ++ acts) v now
keep_tied run acts w v at now same o waiting quota balance i k d there standing =
    let x = o.back k d there in
    let g : KeptDown x.0 d = x.2.going standing in
    let old : DownAt run w k x.0 (ahead_down at k x.0) = i k x.0 x.1 g.here_before in
    let alike : SameDown x.0 d = record { whose = x.2.whose; standing = standing ∙ sym g.here_before; down = g.down; mark = g.mark } in
    record {
      mark = old.mark;
      moved_is = ap (λ p. moved (run ++ acts) p false) x.2.whose ∙ moved_more x.0.who false run acts
          ∙ sum (moved run x.0.who false) (moved acts x.0.who false) old.mark (ahead_down at k x.0) (ahead_down now k d) old.moved_is (balance k x.0 d x.1 g.here_before there standing x.2);
      tie = subst (λ q. DownTie q (deliveries (run ++ acts)) old.mark (length (queue_of v.bus.waiting.queues k)) d) (sym quota)
          (subst (λ (y : Waiting). DownTie w.bus.quota (deliveries (run ++ acts)) old.mark (length (queue_of y.queues k)) d) (sym waiting)
          (subst (λ ds. DownTie w.bus.quota ds old.mark (length (queue_of w.bus.waiting.queues k)) d) (sym same) (same_tie w.bus.quota (deliveries run) old.mark (length (queue_of w.bus.waiting.queues k)) x.0 d alike old.tie)));
    }
  where
    sum : (a b m n z : ℕ) → a ≡ m + n → b + n ≡ z → a + b ≡ m + z
    sum a b m n z h g = omega (arith, h, g)

quiet_balance : (acts : List Act) (w v : World) (at now : Option Work) → ((p : Party) → moved acts p false ≡ 0) → NotDown at → NotDown now → Balanced acts w v at now
quiet_balance acts w v at now none na nb k e d h st g sd r = zeros (moved acts e.who false) (ahead_down at k e) (ahead_down now k d) (none e.who) (none_ahead at k e na) (none_ahead now k d nb)
  where
    zeros : (a b c : ℕ) → a ≡ 0 → b ≡ 0 → c ≡ 0 → a + b ≡ c
    zeros a b c p q r = omega (arith, p, q, r)

-- LINES
no_registry_yet : (run acts : List Act) (w : World) (quota : ℕ) → (w ≡ first_world w.bus.quota) → deliveries run ≡ [] → deliveries (run ++ acts) ≡ deliveries run → ((p : Party) → moved acts p false ≡ 0) → DownTied run w None → DownTied (run ++ acts) (first_world quota) (Some resting)
no_registry_yet run acts w quota first none same unmoved i k e there standing =
    let old : DownAt run (first_world w.bus.quota) k e 0 = (subst (λ v. DownTied run v None) first i) k e there standing in
    record {
      mark = old.mark;
      moved_is = moved_more e.who false run acts ∙ sum (moved run e.who false) (moved acts e.who false) old.mark old.moved_is (unmoved e.who);
      tie = subst (λ ds. DownTie quota ds old.mark (length (queue_of (first_world quota).bus.waiting.queues k)) e) (sym same) (record {
        took = old.tie.took;
        link = old.tie.link;
        marked = old.tie.marked;
        all_in = subst (λ ds. AllIn quota [] (filter (is_to e.who) ds)) (sym none) tt;
        begun = old.tie.begun;
        queue = old.tie.queue;
      });
    }
  where
    sum : (a b m : ℕ) → a ≡ m + 0 → b ≡ 0 → a + b ≡ m + 0
    sum a b m h g = omega (arith, h, g)

joined_tied : (run acts : List Act) (w v : World) (n : End) → deliveries (run ++ acts) ≡ deliveries run → ((p : Party) → moved acts p false ≡ 0) → v.ends ≡ w.ends ++ n ∷ [] → v.bus.waiting.queues ≡ finmap.insert w.bus.waiting.queues (length w.ends) [] → v.bus.quota ≡ w.bus.quota
    → filter (is_to n.who) (deliveries run) ≡ [] → moved run n.who false ≡ 0 → n.down ≡ [] → n.down_moved ≡ 0 → DownTied run w None → DownTied (run ++ acts) v (Some resting)
joined_tied run acts w v n same unmoved more queues_are quota none before link mark i k d there standing = by (joined_cases w.ends n k d (ap (λ es. end_at es k) (sym more) ∙ there))
  where
    sum : (a b m : ℕ) → a ≡ m + 0 → b ≡ 0 → a + b ≡ m + 0
    sum a b m h g = omega (arith, h, g)

    zero_both : (a b : ℕ) → a ≡ 0 → b ≡ 0 → a + b ≡ 0 + 0
    zero_both a b h g = omega (arith, h, g)

    with_bus : (m k : ℕ) (e : End) (waits : ℕ) → waits ≡ length (queue_of v.bus.waiting.queues k) → DownTie w.bus.quota (deliveries run) m waits e → DownTie v.bus.quota (deliveries (run ++ acts)) m (length (queue_of v.bus.waiting.queues k)) e
    with_bus m k e waits is t =
        subst (λ q. DownTie q (deliveries (run ++ acts)) m (length (queue_of v.bus.waiting.queues k)) e) (sym quota)
        (subst (λ ds. DownTie w.bus.quota ds m (length (queue_of v.bus.waiting.queues k)) e) (sym same) (subst (λ z. DownTie w.bus.quota (deliveries run) m z e) is t))

    by : ((end_at w.ends k ≡ Some d) ⊎ ((k ≡ length w.ends) × (d ≡ n))) → DownAt (run ++ acts) v k d 0
    by (inl h) =
        let old : DownAt run w k d 0 = i k d h standing in
        let below = at_below w.ends k d h in
        record {
          mark = old.mark;
          moved_is = moved_more d.who false run acts ∙ sum (moved run d.who false) (moved acts d.who false) old.mark old.moved_is (unmoved d.who);
          tie = with_bus old.mark k d (length (queue_of w.bus.waiting.queues k))
              (ap length (sym (ap (λ q. queue_of q k) queues_are ∙ queue_there w.bus.waiting.queues (length w.ends) k [] (λ at. late below at)))) old.tie;
        }
      where
        late : k < length w.ends → k ≡ length w.ends → ⊥
        late less at = omega (arith, less, at)
    by (inr h) =
        subst (λ (x : End). DownAt (run ++ acts) v k x 0) (sym h.1) (record {
          mark = 0;
          moved_is = moved_more n.who false run acts ∙ zero_both (moved run n.who false) (moved acts n.who false) before (unmoved n.who);
          tie = with_bus 0 k n 0
              (ap length (sym (ap (queue_of v.bus.waiting.queues) h.0 ∙ ap (λ q. queue_of q (length w.ends)) queues_are ∙ queue_here w.bus.waiting.queues (length w.ends) []))) (record {
                took = [];
                link = ap letters none ∙ sym (ap downs_of link);
                marked = sym (nothing mark);
                all_in = subst (AllIn w.bus.quota []) (sym none) tt;
                begun = subst (λ m. IsBegun m (downs n)) (sym mark) (begun_anew (downs n));
                queue = nothing mark ∙ sym (ap (λ l. sizes (downs_of l)) link);
              });
        })
      where
        nothing : n.down_moved ≡ 0 → 0 + n.down_moved ≡ 0
        nothing g = omega (arith, g)

nobody_new : (run : List Act) (w : World) → parties w.ends ≡ ends run → Shape w → (who : Party) → IsNew w who → IsUnknown (ends run) who
nobody_new run w known s who new = subst (λ ps. IsUnknown ps who) known (unknown_of w.ends who (λ k e h same. not_new w s k e who h new same))

-- entries of lines deliver nothing
lines_deliver : LineSorts (λ entry. Stays delivered_after (writes entry))
lines_deliver = record {
  app = record {
    steps_ = λ app step before ds. append-nil ds;
    sends_ = λ app e before ds. append-nil ds;
    hears_ = λ app listener pattern before ds. append-nil ds;
    deaf_ = λ app listener pattern before ds. append-nil ds;
  };
  starts_ = λ who name before ds. append-nil ds;
  calls_ = λ who e before ds. append-nil ds;
  exits_ = λ who before ds. append-nil ds;
  shows_ = λ reader app rows before ds. append-nil ds;
}

writes_deliver : (es : List Entry) → AllByRecursion (λ entry. Stays delivered_after (writes entry)) es → AllByRecursion (Stays delivered_after) (map writes es)
writes_deliver [] a = tt
writes_deliver (e ∷ es) a = (a.0, writes_deliver es a.1)

line_down : (run : List Act) (w : World) (line : Line) (d : Done) → Ran run w None None → parties w.ends ≡ ends run → Shape w → LineDid w line d → DownSo run w None → DownSo (run ++ begins_line line ∷ map writes d.entries) d.world (Some resting)
line_down run w line d r known s l i = by line d l (writes_deliver d.entries (line_all (λ entry. Stays delivered_after (writes entry)) lines_deliver w line d l))
  where
    same_of : (line : Line) (d : Done) → AllByRecursion (Stays delivered_after) (map writes d.entries) → deliveries (run ++ begins_line line ∷ map writes d.entries) ≡ deliveries run
    same_of line d a = same_deliveries run (begins_line line ∷ map writes d.entries) ((λ before ds. append-nil ds), a)

    quota_same : (line : Line) (d : Done) → quota_after w.bus.quota (begins_line line) ≡ w.bus.quota → d.world.bus.quota ≡ w.bus.quota → quota_of (run ++ begins_line line ∷ map writes d.entries) ≡ d.world.bus.quota
    quota_same line d q same =
        quota_more run (begins_line line ∷ map writes d.entries) ∙ ap (λ n. fold quota_after (quota_after n (begins_line line)) (map writes d.entries)) i.quota ∙ quota_written (quota_after w.bus.quota (begins_line line)) d.entries ∙ q ∙ sym same

    yet : (line : Line) (d : Done) → deliveries (run ++ begins_line line ∷ map writes d.entries) ≡ deliveries run → length w.ends ≤ length d.world.ends → (2 ≤ length d.world.ends) ⊎ (deliveries (run ++ begins_line line ∷ map writes d.entries) ≡ [])
    yet line d same more = of i.none_yet
      where
        of : ((2 ≤ length w.ends) ⊎ (deliveries run ≡ [])) → (2 ≤ length d.world.ends) ⊎ (deliveries (run ++ begins_line line ∷ map writes d.entries) ≡ [])
        of (inl two) = inl (omega (arith, two, more))
        of (inr none) = inr (same ∙ none)

    still : (line : Line) (d : Done) → Over KeepsDown w.ends d.world.ends → d.world.bus ≡ w.bus → quota_after w.bus.quota (begins_line line) ≡ w.bus.quota → AllByRecursion (Stays delivered_after) (map writes d.entries) → DownSo (run ++ begins_line line ∷ map writes d.entries) d.world (Some resting)
    still line d o bus q a =
        let same = same_of line d a in
        let size = o.size in
        record {
          quota = quota_same line d q (ap (λ (b : Bus). b.quota) bus);
          none_yet = yet line d same (omega (arith, size));
          tied = keep_tied run (begins_line line ∷ map writes d.entries) w d.world None (Some resting) same o (ap (λ (b : Bus). b.waiting) bus) (ap (λ (b : Bus). b.quota) bus)
              (quiet_balance (begins_line line ∷ map writes d.entries) w d.world None (Some resting) (λ p. moved_written p false d.entries) tt tt) i.tied;
        }

    joins : (line : Line) (d : Done) (n : End) → d.world.ends ≡ w.ends ++ n ∷ [] → d.world.bus.waiting.queues ≡ finmap.insert w.bus.waiting.queues (length w.ends) [] → d.world.bus.quota ≡ w.bus.quota → quota_after w.bus.quota (begins_line line) ≡ w.bus.quota → IsNew w n.who → n.down ≡ []
        → n.down_moved ≡ 0 → AllByRecursion (Stays delivered_after) (map writes d.entries) → DownSo (run ++ begins_line line ∷ map writes d.entries) d.world (Some resting)
    joins line d n more queues_are quota q new link mark a =
        let same = same_of line d a in
        let unknown : IsUnknown (ends run) n.who = nobody_new run w known s n.who new in
        let size = ap length more ∙ length-append w.ends (n ∷ []) in
        record {
          quota = quota_same line d q quota;
          none_yet = yet line d same (omega (arith, size));
          tied = joined_tied run (begins_line line ∷ map writes d.entries) w d.world n same (λ p. moved_written p false d.entries) more queues_are quota (none_delivered run n.who unknown) (none_along run w None None r n.who false unknown) link mark i.tied;
        }

    anew : (count : ℕ) → length w.ends ≤ 1 → ((2 ≤ length w.ends) ⊎ (w ≡ first_world w.bus.quota)) → ((2 ≤ length w.ends) ⊎ (deliveries run ≡ [])) → DownSo (run ++ begins_line (Quota count) ∷ []) (first_world count) (Some resting)
    anew count few (inl two) n = absurd (omega (arith, two, few))
    anew count few (inr first) (inl two) = absurd (omega (arith, two, few))
    anew count few (inr first) (inr none) =
        let same = same_of (Quota count) (only (first_world count) []) tt in
        record {
          quota = quota_more run (begins_line (Quota count) ∷ []);
          none_yet = inr (same ∙ none);
          tied = no_registry_yet run (begins_line (Quota count) ∷ []) w count first none same (λ p. refl) i.tied;
        }

    here_all : Over KeepsDown w.ends w.ends
    here_all = over_same KeepsDown keeping_down w.ends

    acts : (conn : ℕ) (f : End → End) → ((x : End) → KeepsDown x (f x)) → Over KeepsDown w.ends (with_end conn f w.ends)
    acts conn f keeps = over_with KeepsDown keeping_down f keeps conn w.ends

    by : (line : Line) (d : Done) → LineDid w line d → AllByRecursion (Stays delivered_after) (map writes d.entries) → DownSo (run ++ begins_line line ∷ map writes d.entries) d.world (Some resting)
    by line _ (renewed quota few) a = anew quota (ltb-false 1 (length w.ends) few) s.alone i.none_yet
    by line d (app_began name short few) a = joins line d (new_app w name) (app_joined w name) refl refl refl refl refl refl a
    by line d (reader_began few) a = joins line d (new_reader w) refl refl refl refl refl refl refl a
    by line d (edited_app app conn edit e before after h who role done_ can) a = still line d (acts conn (has_done before after) (λ x. as_before x (has_done before after x) refl refl refl refl)) refl refl a
    by line d (called_app reader app node conn deed e hearer h who role) a = still line d (acts conn _ (λ x. as_before x _ refl refl refl refl)) refl refl a
    by line d (swapped app) a = still line d here_all refl refl a
    by line _ (app_stopped app d b who) a = still line d (subst (λ (x : Done). Over KeepsDown w.ends x.world.ends) (sym b.is) (acts b.conn stops stop_)) (ap (λ (x : Done). x.world.bus) b.is) refl a
    by line _ (reader_stopped reader d b who) a = still line d (subst (λ (x : Done). Over KeepsDown w.ends x.world.ends) (sym b.is) (acts b.conn stops stop_)) (ap (λ (x : Done). x.world.bus) b.is) refl a
    by line d (showed reader app conn e hearer there who role) a = still line d here_all refl refl a

-- A LINE BEGINS
module _ (w : World) (s : Shape w) (k : ℕ) (e : End) (there : end_at w.ends k ≡ Some e) (standing : e.standing ≡ here) where
  up_line : (count : ℕ) (x : End) (st : Standing) → moved (up_move count x st) e.who false ≡ 0
  up_line count x here = moved_forth e.who x.who _
  up_line zero x stopped = moved_forth e.who x.who 0
  up_line (suc count) x stopped = refl
  up_line zero x away = moved_forth e.who x.who 0
  up_line (suc count) x away = moved_forth e.who x.who 0

  known_line : (o : Option End) (acts : End → List Act) → ((x : End) → moved (acts x) e.who false ≡ 0) → moved (at_known o acts) e.who false ≡ 0
  known_line None acts f = refl
  known_line (Some x) acts f = f x

  other_line : (conn count : ℕ) (x : End) (st : Standing) → end_at w.ends conn ≡ Some x → (conn ≡ k → ⊥) → moved (down_move count x st) e.who false ≡ 0
  other_line conn count x st h differ = by st
    where
      apart : e.who ≡ x.who → ⊥
      apart same = differ (s.one conn k x e h there (sym same))

      by : (st : Standing) → moved (down_move count x st) e.who false ≡ 0
      by here = moved_other e.who x.who false false _ apart
      by stopped = moved_other e.who x.who false false 0 apart
      by away = moved_other e.who x.who false false 0 apart

  own_line : (count : ℕ) → moved (down_move count e e.standing) e.who false ≡ min count (sizes (downs e) - e.down_moved)
  own_line count =
      ap (λ st. moved (down_move count e st) e.who false) standing ∙ moved_own e.who false (min count (letter_bytes e.down - e.down_moved)) ∙ ap (λ n. min count (n - e.down_moved)) (letters_are e.down)

  down_line : (conn count : ℕ) (o : Option End) → end_at w.ends conn ≡ o → moved (at_known o (λ x. down_move count x x.standing)) e.who false ≡ ahead_down (Some (moving_down conn count)) k e
  down_line conn count None h = sym (none_of_other conn count k e (λ same. no_none e (sym h ∙ ap (end_at w.ends) same ∙ there)))
  down_line conn count (Some x) h = by (conn == k) refl
    where
      by : (b : Bool) → (conn == k) ≡ b → moved (down_move count x x.standing) e.who false ≡ ahead_down (Some (moving_down conn count)) k e
      by true g =
          let at : conn ≡ k = eqb-true conn k g in
          let same : x ≡ e = same_some x e (sym h ∙ ap (end_at w.ends) at ∙ there) in
          ap (λ (y : End). moved (down_move count y y.standing) e.who false) same ∙ own_line count ∙ sym (ap (λ b. if b then min count (sizes (downs e) - e.down_moved) else 0) g)
      by false g =
          let differ : conn ≡ k → ⊥ = λ same. false_true (sym g ∙ eq-eqb conn k same) in
          other_line conn count x x.standing h differ ∙ sym (none_of_other conn count k e differ)

  line_balance : (work : Work) → moved (line_moves w work) e.who false ≡ ahead_down (Some work) k e
  line_balance (moving_up conn count) = known_line (end_at w.ends conn) (λ x. up_move count x x.standing) (λ x. up_line count x x.standing)
  line_balance (moving_down conn count) = down_line conn count (end_at w.ends conn) refl
  line_balance (turning count left) = refl
  line_balance draining = refl
  line_balance resting = refl
  line_balance (doing c) = refl

began_down : (run : List Act) (w : World) (line : Line) (work : Work) → IsBareLine line → Shape w → DownSo run w None → DownSo (run ++ begins_line line ∷ line_moves w work) w (Some work)
began_down run w line work b s i =
    let acts : List Act = begins_line line ∷ line_moves w work in
    let same : deliveries (run ++ acts) ≡ deliveries run = same_deliveries run acts (all_idle acts (line_idle line, line_moves_idle w work)) in
    record {
      quota = quota_more run acts ∙ ap (λ n. fold quota_after (quota_after n (begins_line line)) (line_moves w work)) i.quota ∙ quota_moves (quota_after w.bus.quota (begins_line line)) (line_moves w work) (line_moves_are w work)
          ∙ bare_quota w.bus.quota line b;
      none_yet = of same i.none_yet;
      tied = keep_tied run acts w w None (Some work) same (over_same KeepsDown keeping_down w.ends) refl refl balance i.tied;
    }
  where
    of : deliveries (run ++ begins_line line ∷ line_moves w work) ≡ deliveries run → ((2 ≤ length w.ends) ⊎ (deliveries run ≡ [])) → (2 ≤ length w.ends) ⊎ (deliveries (run ++ begins_line line ∷ line_moves w work) ≡ [])
    of same (inl two) = inl two
    of same (inr none) = inr (same ∙ none)

    plus_none : (n m : ℕ) → n ≡ m → n + 0 ≡ m
    plus_none n m h = omega (arith, h)

    balance : Balanced (begins_line line ∷ line_moves w work) w w None (Some work)
    balance k e d there standing after st keeps =
        let same : e ≡ d = same_some e d (sym there ∙ after) in
        plus_none (moved (line_moves w work) e.who false) (ahead_down (Some work) k d) (line_balance w s k e there standing work ∙ ap (ahead_down (Some work) k) same)

-- MOVES before what is done
moves_tied : (run moves : List Act) (w : World) (at now : Option Work) → AllMoves moves → AllByRecursion Idle moves → ((p : Party) → moved moves p false ≡ 0) → NotDown at → NotDown now → DownSo run w at → DownSo (run ++ moves) w now
moves_tied run moves w at now m a none na nb i =
    let same : deliveries (run ++ moves) ≡ deliveries run = same_deliveries run moves (all_idle moves a) in
    record {
      quota = quota_more run moves ∙ ap (λ n. fold quota_after n moves) i.quota ∙ quota_moves w.bus.quota moves m;
      none_yet = of same i.none_yet;
      tied = keep_tied run moves w w at now same (over_same KeepsDown keeping_down w.ends) refl refl (quiet_balance moves w w at now none na nb) i.tied;
    }
  where
    of : deliveries (run ++ moves) ≡ deliveries run → ((2 ≤ length w.ends) ⊎ (deliveries run ≡ [])) → (2 ≤ length w.ends) ⊎ (deliveries (run ++ moves) ≡ [])
    of same (inl two) = inl two
    of same (inr none) = inr (same ∙ none)

-- THE BUS: nobody is to be closed behind all that it does
settled_quota : (n : ℕ) (c : Carried) → (settled n c).bus.quota ≡ c.bus.quota
settled_quota zero c = refl
settled_quota (suc n) c = settled_quota n (one_closed c c.bus.waiting.due) ∙ one_quota c.bus.waiting.due
  where
    one_quota : (due : List (ℕ × Why)) → (one_closed c due).bus.quota ≡ c.bus.quota
    one_quota [] = refl
    one_quota (first ∷ rest) = refl

none_due : (run : List Act) (w : World) (free : Option ℕ) → Front run w free → (k : ℕ) → is_due k w.bus.waiting.due ≡ false
none_due run w free f k = ap (is_due k) (f.kept (Shaped (layers.And Nothing Rests)) rests_keep).1.1.due

full_of : (run : List Act) (w : World) (at : Option Work) → NotDown at → DownTied run w at → FullTied run (record { bus = w.bus; ends = w.ends })
full_of run w at n i k e there standing not_due =
    let old : DownAt run w k e (ahead_down at k e) = i k e there standing in
    subst (λ m. DownTie w.bus.quota (deliveries run) m (length (queue_of w.bus.waiting.queues k)) e) (same old.mark (ahead_down at k e) (moved run e.who false) (none_ahead at k e n) old.moved_is) old.tie
  where
    same : (m a x : ℕ) → a ≡ 0 → x ≡ m + a → m ≡ x
    same m a x h g = omega (arith, h, g)

tied_of : (run : List Act) (w : World) (free : Option ℕ) (now : Option Work) (c : Carried) → Front run w free → NotDown now → w.ends ≡ c.ends → w.bus.waiting ≡ c.bus.waiting → w.bus.quota ≡ c.bus.quota → FullTied run c → DownTied run w now
tied_of run w free now c f n ends_are waiting quota t k e there standing = record {
  mark = moved run e.who false;
  moved_is = plus (moved run e.who false) (ahead_down now k e) (none_ahead now k e n);
  tie = subst (λ q. DownTie q (deliveries run) (moved run e.who false) (length (queue_of w.bus.waiting.queues k)) e) (sym quota)
      (subst (λ (y : Waiting). DownTie c.bus.quota (deliveries run) (moved run e.who false) (length (queue_of y.queues k)) e) (sym waiting)
      (t k e (ap (λ l. end_at l k) (sym ends_are) ∙ there) standing (ap (λ (y : Waiting). is_due k y.due) (sym waiting) ∙ none_due run w free f k)));
}
  where
    plus : (m a : ℕ) → a ≡ 0 → m ≡ m + a
    plus m a h = omega (arith, h)

two_ends : (w : World) → Shape w → (k : ℕ) (e : End) → end_at w.ends k ≡ Some e → (((x : End) → end_at (first_world w.bus.quota).ends k ≡ Some x → x ≡ e → ⊥)) → 2 ≤ length w.ends
two_ends w s k e there differ = by s.alone
  where
    by : ((2 ≤ length w.ends) ⊎ (w ≡ first_world w.bus.quota)) → 2 ≤ length w.ends
    by (inl two) = two
    by (inr first) = absurd (differ e (ap (λ (x : World). end_at x.ends k) (sym first) ∙ there) refl)

some_up : (said : Said) (rest : List Said) → [] ≡ said ∷ rest → ⊥
some_up said rest h = cc

sends_two : (w : World) (d : Done) (s : Shape w) (b : BusTakes w d) → 2 ≤ length w.ends
sends_two w d s b = two_ends w s b.conn b.e b.is_here.there (λ x h same. no_link b.conn x h (ap (λ (y : End). y.up) same ∙ b.link))
  where
    no_link : (k : ℕ) (x : End) → end_at (first_world w.bus.quota).ends k ≡ Some x → x.up ≡ b.said ∷ b.rest → ⊥
    no_link zero x h g = some_up b.said b.rest (ap (λ (y : End). y.up) (same_some first_registry x h) ∙ g)
    no_link (suc k) x h g = no_none x h

here_stopped : here ≡ stopped → ⊥
here_stopped h = cc

stops_two : (w : World) (d : Done) (s : Shape w) (b : BusEnds w d) → 2 ≤ length w.ends
stops_two w d s b = two_ends w s b.conn b.e b.there (λ x h same. no_stop b.conn x h (ap (λ (y : End). y.standing) same ∙ b.standing))
  where
    no_stop : (k : ℕ) (x : End) → end_at (first_world w.bus.quota).ends k ≡ Some x → x.standing ≡ stopped → ⊥
    no_stop zero x h g = here_stopped (ap (λ (y : End). y.standing) (same_some first_registry x h) ∙ g)
    no_stop (suc k) x h g = no_none x h

took_down : (front : List Act) (w : World) (free next : Option ℕ) (at now : Option Work) (d : Done) → Front front w free → Front (front ++ map writes d.entries) d.world next → Shape w → parties d.world.ends ≡ parties w.ends → BusSo front w.bus.state → BusTakes w d → NotDown at → NotDown now → DownSo front w at
    → DownSo (front ++ map writes d.entries) d.world now
took_down front w free next at now d f after s same so b na nb i =
    let t = took_full front w free next d f after same so b (full_of front w at na i.tied) in
    let n : ℕ = length w.bus.state.joined in
    let quota : d.world.bus.quota ≡ w.bus.quota = ap (λ (x : Done). x.world.bus.quota) b.is ∙ settled_quota n (c_one front w free next d f after same so b) in
    record {
      quota = quota_more front (map writes d.entries) ∙ ap (λ q. fold quota_after q (map writes d.entries)) i.quota ∙ quota_written w.bus.quota d.entries ∙ sym quota;
      none_yet = inl (subst (λ m. 2 ≤ m) (sym (bus_takes_over w d b).size) (sends_two w d s b));
      tied = tied_of (front ++ map writes d.entries) d.world next now (c_all front w free next d f after same so b) after nb (ap (λ (x : Done). x.world.ends) b.is) (ap (λ (x : Done). x.world.bus.waiting) b.is) (ap (λ (x : Done). x.world.bus.quota) b.is) t;
    }

ended_down : (front : List Act) (w : World) (free next : Option ℕ) (at now : Option Work) (d : Done) → Front front w free → (b : BusEnds w d) → Front (front ++ takes_end (party_at w.ends b.conn) ∷ map writes d.entries) d.world next → Shape w → parties d.world.ends ≡ parties w.ends
    → BusSo front w.bus.state → NotDown at → NotDown now → DownSo front w at → DownSo (front ++ takes_end (party_at w.ends b.conn) ∷ map writes d.entries) d.world now
ended_down front w free next at now d f b after s same so na nb i =
    let t = ended_full front w free next d f b after same so (full_of front w at na i.tied) in
    let n : ℕ = length w.bus.state.joined in
    let quota : d.world.bus.quota ≡ w.bus.quota = ap (λ (x : Done). x.world.bus.quota) b.is ∙ settled_quota n (e_one front w free next d f b after same so) in
    record {
      quota = quota_more front (takes_end (party_at w.ends b.conn) ∷ map writes d.entries) ∙ ap (λ q. fold quota_after q (map writes d.entries)) i.quota ∙ quota_written w.bus.quota d.entries ∙ sym quota;
      none_yet = inl (subst (λ m. 2 ≤ m) (sym (bus_ends_over w d b).size) (stops_two w d s b));
      tied = tied_of (front ++ takes_end (party_at w.ends b.conn) ∷ map writes d.entries) d.world next now (e_all front w free next d f b after same so) after nb (ap (λ (x : Done). x.world.ends) b.is) (ap (λ (x : Done). x.world.bus.waiting) b.is) (ap (λ (x : Done). x.world.bus.quota) b.is) t;
    }

-- AN END TAKES the first message of its link
module _ (run acts : List Act) (w : World) (c : Cause) (d : Done) (at now : Option Work) (t : TakesOne w c d) (s : Shape w) (same : deliveries (run ++ acts) ≡ deliveries run) (bytes : ℕ) (own : moved acts t.e.who false ≡ bytes)
    (other : (p : Party) → (p ≡ t.e.who → ⊥) → moved acts p false ≡ 0) (i : DownTied run w at) where
  abbrev lacks : ℕ
  lacks = size t.letter.said.message - t.e.down_moved

  abbrev Its : Type 0
  Its = (x : End) → x.who ≡ t.e.who → x.down ≡ t.rest → x.down_moved ≡ 0 → t.e.down_moved < size t.letter.said.message → (t.e.down_moved + ahead_down at t.conn t.e) + bytes ≡ size t.letter.said.message + ahead_down now t.conn x

  abbrev Others : Type 0
  Others = (k : ℕ) (e : End) → (k ≡ t.conn → ⊥) → ahead_down at k e ≡ ahead_down now k e

  queues_are : d.world.bus.waiting.queues ≡ finmap.insert w.bus.waiting.queues t.conn (drop (missing t.letter.said.message t.e.down_moved) (queue_of w.bus.waiting.queues t.conn))
  queues_are = ap (λ (b : Bus). b.waiting.queues) t.bus_is

  quota_is : d.world.bus.quota ≡ w.bus.quota
  quota_is = ap (λ (b : Bus). b.quota) t.bus_is

  moved_to : (k : ℕ) (e : End) (m waits : ℕ) → waits ≡ length (queue_of d.world.bus.waiting.queues k) → DownTie w.bus.quota (deliveries run) m waits e → DownTie d.world.bus.quota (deliveries (run ++ acts)) m (length (queue_of d.world.bus.waiting.queues k)) e
  moved_to k e m waits is tie =
      subst (λ q. DownTie q (deliveries (run ++ acts)) m (length (queue_of d.world.bus.waiting.queues k)) e) (sym quota_is)
      (subst (λ ds. DownTie w.bus.quota ds m (length (queue_of d.world.bus.waiting.queues k)) e) (sym same) (subst (λ z. DownTie w.bus.quota (deliveries run) m z e) is tie))

  its_own : Its → DownAt (run ++ acts) d.world t.conn t.x (ahead_down now t.conn t.x)
  its_own balance =
      let old : DownAt run w t.conn t.e (ahead_down at t.conn t.e) = i t.conn t.e t.there t.standing in
      let tie = old.tie in
      let begun : t.e.down_moved < size t.letter.said.message = subst (λ l. IsBegun t.e.down_moved (downs_of l)) t.link tie.begun in
      let first : Mail = (t.letter.from, t.letter.said.message) ∷ [] in
      let all : sizes (downs t.e) ≡ size t.letter.said.message + sizes (downs_of t.rest) = ap (λ l. sizes (downs_of l)) t.link in
      let long : length (queue_of d.world.bus.waiting.queues t.conn) ≡ length (queue_of w.bus.waiting.queues t.conn) - lacks =
      ap (λ q. length (queue_of q t.conn)) queues_are ∙ ap length (queue_here w.bus.waiting.queues t.conn (drop lacks (queue_of w.bus.waiting.queues t.conn))) ∙ length-drop lacks (queue_of w.bus.waiting.queues t.conn) in
      record {
        mark = sizes (tie.took ++ first);
        moved_is = ap (λ p. moved (run ++ acts) p false) t.whose ∙ moved_more t.e.who false run acts
            ∙ sum (moved run t.e.who false) (moved acts t.e.who false) old.mark (ahead_down at t.conn t.e) (sizes tie.took) (sizes (tie.took ++ first)) (ahead_down now t.conn t.x)
            old.moved_is own tie.marked (sizes_both tie.took first) (balance t.x t.whose t.left t.mark begun);
        tie = moved_to t.conn t.x (sizes (tie.took ++ first)) (length (queue_of w.bus.waiting.queues t.conn) - lacks) (sym long) (record {
          took = tie.took ++ first;
          link = ap (λ p. letters (filter (is_to p) (deliveries run))) t.whose ∙ tie.link ∙ ap (λ l. tie.took ++ downs_of l) t.link ∙ sym (append_assoc tie.took first (downs_of t.rest))
              ∙ ap (λ l. (tie.took ++ first) ++ downs_of l) (sym t.left);
          marked = plus_none (sizes (tie.took ++ first)) t.x.down_moved t.mark;
          all_in = subst (λ p. AllIn w.bus.quota [] (filter (is_to p) (deliveries run))) (sym t.whose) tie.all_in;
          begun = subst (λ n. IsBegun n (downs t.x)) (sym t.mark) (begun_anew (downs t.x));
          queue = waits (length (queue_of w.bus.waiting.queues t.conn)) (sizes (downs t.e)) (sizes (downs_of t.rest)) t.x.down_moved tie.queue all t.mark begun ∙ ap (λ l. sizes (downs_of l)) (sym t.left);
        });
      }
    where
      plus_none : (a n : ℕ) → n ≡ 0 → a ≡ a + n
      plus_none a n h = omega (arith, h)

      sum : (a b m n k k2 z : ℕ) → a ≡ m + n → b ≡ bytes → m ≡ k + t.e.down_moved → k2 ≡ k + (size t.letter.said.message + 0) → (t.e.down_moved + n) + bytes ≡ size t.letter.said.message + z → a + b ≡ k2 + z
      sum a b m n k k2 z h1 h2 h3 h4 h5 = omega (arith, h1, h2, h3, h4, h5)

      waits : (q all r x : ℕ) → q + t.e.down_moved ≡ all → all ≡ size t.letter.said.message + r → x ≡ 0 → t.e.down_moved < size t.letter.said.message → (q - (size t.letter.said.message - t.e.down_moved)) + x ≡ r
      waits q all r x h1 h2 h3 h4 = omega (arith, h1, h2, h3, h4)

  taken_tied : Its → Others → DownTied (run ++ acts) d.world now
  taken_tied balance others k y there standing = by (k == t.conn) refl
    where
      theirs : (k ≡ t.conn → ⊥) → DownAt (run ++ acts) d.world k y (ahead_down now k y)
      theirs differ =
          let before : end_at w.ends k ≡ Some y = t.others k y differ there in
          let old : DownAt run w k y (ahead_down at k y) = i k y before standing in
          record {
            mark = old.mark;
            moved_is = moved_more y.who false run acts
                ∙ sum (moved run y.who false) (moved acts y.who false) old.mark (ahead_down at k y) (ahead_down now k y) old.moved_is (other y.who (λ is. differ (s.one k t.conn y t.e before t.there is))) (others k y differ);
            tie = moved_to k y old.mark (length (queue_of w.bus.waiting.queues k)) (ap length (sym (ap (λ q. queue_of q k) queues_are ∙ queue_there w.bus.waiting.queues t.conn k _ differ))) old.tie;
          }
        where
          sum : (a b m n z : ℕ) → a ≡ m + n → b ≡ 0 → n ≡ z → a + b ≡ m + z
          sum a b m n z h g f = omega (arith, h, g, f)

      mine : k ≡ t.conn → DownAt (run ++ acts) d.world k y (ahead_down now k y)
      mine at_ =
          let same_end : t.x ≡ y = same_some t.x y (sym t.after ∙ ap (end_at d.world.ends) (sym at_) ∙ there) in
          subst (λ j. DownAt (run ++ acts) d.world j y (ahead_down now j y)) (sym at_) (subst (λ (z : End). DownAt (run ++ acts) d.world t.conn z (ahead_down now t.conn z)) same_end (its_own balance))

      by : (b : Bool) → (k == t.conn) ≡ b → DownAt (run ++ acts) d.world k y (ahead_down now k y)
      by true h = mine (eqb-true k t.conn h)
      by false h = theirs (λ is. false_true (sym h ∙ eq-eqb k t.conn is))

-- a turn, or bytes of a line
first_down_is : (w : World) (conn : ℕ) (e : End) (letter : Letter) (rest : List Letter) → end_at w.ends conn ≡ Some e → e.down ≡ letter ∷ rest → turn_move w (gets conn) ≡ moves_bytes e.who false (size letter.said.message - e.down_moved) ∷ []
first_down_is w conn e letter rest h link =
    ap (λ o. moves_bytes (whose o) false (down_missing o) ∷ []) h ∙ ap (λ l. moves_bytes e.who false (next_missing l e.down_moved) ∷ []) link

take_deliver : (w : World) (c : Cause) (d : Done) → TurnDid w c d → Shape w → ((b : BusTakes w d) → c ≡ routes b.conn → ⊥) → ((b : BusEnds w d) → c ≡ unjoins b.conn → ⊥) → AllByRecursion Idle (map writes d.entries)
take_deliver w _ _ (told_busy turns) s a b = (record { none = refl; does_nothing = λ before t. refl }, tt)
take_deliver w _ _ (told_quiet none) s a b = (record { none = refl; does_nothing = λ before t. refl }, tt)
take_deliver w _ _ (bus_took d t) s a b = absurd (a t refl)
take_deliver w _ _ (bus_ended d t) s a b = absurd (b t refl)
take_deliver w _ _ (registry_took d t) s a b =
    let other : t.e.who ≡ The_bus → ⊥ = no_bus w t.conn t.e s t.is_here.there in
    idle_writes d.entries (subst (λ (x : Done). AllByRecursion (λ entry. Idle (writes entry)) x.entries) (sym t.is)
    (got_idle t.e.who t.letter.from t.letter.said.message.serial other, all_sent_idle t.e.who (registry_takes t.before t.letter.said.message).sent other))
take_deliver w _ _ (app_took d t) s a b =
    idle_writes d.entries (subst (λ (x : Done). AllByRecursion (λ entry. Idle (writes entry)) x.entries) (sym t.is)
    (got_idle t.e.who t.letter.from t.letter.said.message.serial (no_bus w t.conn t.e s t.is_here.there), app_all (λ entry. Idle (writes entry)) apps_idle _ (app_takes t.before t.letter.said.message).out))
take_deliver w _ _ (reader_took d t) s a b =
    idle_writes d.entries (subst (λ (x : Done). AllByRecursion (λ entry. Idle (writes entry)) x.entries) (sym t.is) (
      got_idle t.e.who t.letter.from t.letter.said.message.serial (no_bus w t.conn t.e s t.is_here.there),
      heard_all (λ entry. Idle (writes entry)) (λ r app line. record { none = refl; does_nothing = λ before x. refl }) (λ r app. record { none = refl; does_nothing = λ before x. refl }) (number_of t.e.who) t.hearer (received w t.conn t.e t.letter).ends t.letter,
    ))

all_both : (xs ys : List Act) → AllByRecursion Idle xs → AllByRecursion Idle ys → AllByRecursion Idle (xs ++ ys)
all_both [] ys a b = b
all_both (x ∷ xs) ys a b = (a.0, all_both xs ys a.1 b)

takes_so : (run moves : List Act) (w : World) (c : Cause) (d : Done) (at now : Option Work) (t : TakesOne w c d) → AllMoves moves → AllByRecursion Idle (moves ++ map writes d.entries) → length d.world.ends ≡ length w.ends
    → (deliveries (run ++ (moves ++ map writes d.entries)) ≡ deliveries run → DownTied (run ++ (moves ++ map writes d.entries)) d.world now) → DownSo run w at → DownSo (run ++ (moves ++ map writes d.entries)) d.world now
takes_so run moves w c d at now t m a as_many tied i =
    let acts : List Act = moves ++ map writes d.entries in
    let same : deliveries (run ++ acts) ≡ deliveries run = same_deliveries run acts (all_idle acts a) in
    record {
      quota = quota_more run acts ∙ ap (λ q. fold quota_after q acts) i.quota ∙ quota_both w.bus.quota moves d.entries m ∙ sym (ap (λ (b : Bus). b.quota) t.bus_is);
      none_yet = of same i.none_yet;
      tied = tied same;
    }
  where
    of : deliveries (run ++ (moves ++ map writes d.entries)) ≡ deliveries run → ((2 ≤ length w.ends) ⊎ (deliveries run ≡ [])) → (2 ≤ length d.world.ends) ⊎ (deliveries (run ++ (moves ++ map writes d.entries)) ≡ [])
    of same (inl two) = inl (subst (λ n. 2 ≤ n) (sym as_many) two)
    of same (inr none) = inr (same ∙ none)

-- by a turn
turn_takes : (run : List Act) (w : World) (c : Cause) (d : Done) (at now : Option Work) (t : TakesOne w c d) → Shape w → AllByRecursion Idle (map writes d.entries) → length d.world.ends ≡ length w.ends → NotDown at → NotDown now → AllMoves (turn_move w c) → AllByRecursion Idle (turn_move w c) → DownSo run w at
    → DownSo (run ++ (turn_move w c ++ map writes d.entries)) d.world now
turn_takes run w c d at now t s a as_many na nb m moves_a i =
    takes_so run (turn_move w c) w c d at now t m (all_both (turn_move w c) (map writes d.entries) moves_a a) as_many
    (λ same. taken_tied run acts w c d at now t s same lacks_ own other i.tied its_balance (λ k e differ. none_ahead at k e na ∙ sym (none_ahead now k e nb))) i
  where
    acts : List Act
    acts = turn_move w c ++ map writes d.entries

    lacks_ : ℕ
    lacks_ = size t.letter.said.message - t.e.down_moved

    its_move : turn_move w c ≡ moves_bytes t.e.who false lacks_ ∷ []
    its_move = ap (turn_move w) t.cause_is ∙ first_down_is w t.conn t.e t.letter t.rest t.there t.link

    own : moved acts t.e.who false ≡ lacks_
    own = moved_of_both t.e.who false (turn_move w c) d.entries ∙ ap (λ l. moved l t.e.who false) its_move ∙ moved_own t.e.who false lacks_

    other : (p : Party) → (p ≡ t.e.who → ⊥) → moved acts p false ≡ 0
    other p differ = moved_of_both p false (turn_move w c) d.entries ∙ ap (λ l. moved l p false) its_move ∙ moved_other p t.e.who false false lacks_ differ

    its_balance : (x : End) → x.who ≡ t.e.who → x.down ≡ t.rest → x.down_moved ≡ 0 → t.e.down_moved < size t.letter.said.message → (t.e.down_moved + ahead_down at t.conn t.e) + lacks_ ≡ size t.letter.said.message + ahead_down now t.conn x
    its_balance x who link mark less = sum (ahead_down at t.conn t.e) (ahead_down now t.conn x) (none_ahead at t.conn t.e na) (none_ahead now t.conn x nb) less
      where
        sum : (n m : ℕ) → n ≡ 0 → m ≡ 0 → t.e.down_moved < size t.letter.said.message → (t.e.down_moved + n) + (size t.letter.said.message - t.e.down_moved) ≡ size t.letter.said.message + m
        sum n m p q h = omega (arith, p, q, h)

-- by bytes of a line
abbrev conn_in : Cause → ℕ → ℕ
conn_in (gets conn) other = conn
conn_in c other = other

abbrev first_letter : Letter → List Letter → Letter
first_letter x [] = x
first_letter x (y ∷ rest) = y

line_takes : (run : List Act) (w : World) (c : Cause) (d : Done) (conn count : ℕ) (left : Work) (t : TakesOne w c d) → GoesDown w conn count c left → Shape w → AllByRecursion Idle (map writes d.entries) → length d.world.ends ≡ length w.ends → DownSo run w (Some (moving_down conn count))
    → DownSo (run ++ map writes d.entries) d.world (Some left)
line_takes run w c d conn count left t g s a as_many i =
    subst (λ l. DownSo (run ++ map writes d.entries) d.world (Some l)) (sym left_now)
    (takes_so run [] w c d at now t tt a as_many
    (λ same_d. taken_tied run (map writes d.entries) w c d at now t s same_d 0 (moved_written t.e.who false d.entries) (λ p differ. moved_written p false d.entries) (subst (λ k. DownTied run w (Some (moving_down k count))) (sym same) i.tied) its_balance others)
    (subst (λ k. DownSo run w (Some (moving_down k count))) (sym same) i))
  where
    same : t.conn ≡ conn
    same = ap (λ x. conn_in x conn) (sym t.cause_is ∙ g.cause_is)

    its_end : g.e ≡ t.e
    its_end = same_some g.e t.e (sym g.there ∙ ap (end_at w.ends) (sym same) ∙ t.there)

    its_first : g.letter ≡ t.letter
    its_first = ap (first_letter g.letter) (sym g.link ∙ ap (λ (y : End). y.down) its_end ∙ t.link)

    short_of : ℕ
    short_of = size t.letter.said.message - t.e.down_moved

    missing_is : size g.letter.said.message - g.e.down_moved ≡ short_of
    missing_is = ap₂ (λ (m : Letter) (y : End). size m.said.message - y.down_moved) its_first its_end

    enough : short_of ≤ count
    enough = subst (λ k. k ≤ count) missing_is g.enough

    left_now : left ≡ moving_down t.conn (count - short_of)
    left_now = g.left_is ∙ ap₂ (λ k m. moving_down k (count - m)) (sym same) missing_is

    at : Option Work
    at = Some (moving_down t.conn count)

    now : Option Work
    now = Some (moving_down t.conn (count - short_of))

    others : (k : ℕ) (e : End) → (k ≡ t.conn → ⊥) → ahead_down at k e ≡ ahead_down now k e
    others k e differ = none_of_other t.conn count k e (λ h. differ (sym h)) ∙ sym (none_of_other t.conn (count - short_of) k e (λ h. differ (sym h)))

    its_balance : (x : End) → x.who ≡ t.e.who → x.down ≡ t.rest → x.down_moved ≡ 0 → t.e.down_moved < size t.letter.said.message → (t.e.down_moved + ahead_down at t.conn t.e) + 0 ≡ size t.letter.said.message + ahead_down now t.conn x
    its_balance x who link mark less =
        sum (ahead_down at t.conn t.e) (ahead_down now t.conn x) (sizes (downs t.e)) (sizes (downs x)) x.down_moved
        (ahead_here t.conn count t.e) (ahead_here t.conn (count - short_of) x) (ap (λ l. sizes (downs_of l)) t.link ∙ ap (λ l. size t.letter.said.message + sizes (downs_of l)) (sym link)) mark less enough
      where
        sum : (n m all rest k : ℕ) → n ≡ min count (all - t.e.down_moved) → m ≡ min (count - short_of) (rest - k) → all ≡ size t.letter.said.message + rest → k ≡ 0 → t.e.down_moved < size t.letter.said.message → short_of ≤ count
            → (t.e.down_moved + n) + 0 ≡ size t.letter.said.message + m
        sum n m all rest k h1 h2 h3 h4 h5 h6 = omega (arith, h1, h2, h3, h4, h5, h6)

-- THE LINE RESTS
abbrev SameSize : End → End → Type 0
SameSize e d = Unit {0}

same_size : IsOrder SameSize
same_size = record { same = λ e. tt; both = λ e d c f g. tt }

rested_down : (run : List Act) (w v : World) (conn count : ℕ) → DownRest w v conn count → DownTied run w (Some (moving_down conn count)) → DownTied run v None
rested_down run w v conn count (stays same none) i = subst (λ u. DownTied run u None) (sym same) still
  where
    still : DownTied run w None
    still k e there standing = by (conn == k) refl (i k e there standing)
      where
        by : (b : Bool) → (conn == k) ≡ b → DownAt run w k e (ahead_down (Some (moving_down conn count)) k e) → DownAt run w k e 0
        by false g t = subst (DownAt run w k e) (ap (λ b. if b then min count (sizes (downs e) - e.down_moved) else 0) g) t
        by true g t =
            let link : e.down ≡ [] = none e (ap (end_at w.ends) (eqb-true conn k g) ∙ there) standing in
            let all : sizes (downs e) ≡ 0 = ap (λ l. sizes (downs_of l)) link in
            let capped : min count (sizes (downs e) - e.down_moved) ≡ 0 = nothing (sizes (downs e)) all in
            subst (DownAt run w k e) (ap (λ b. if b then min count (sizes (downs e) - e.down_moved) else 0) g ∙ capped) t
          where
            nothing : (n : ℕ) → n ≡ 0 → min count (n - e.down_moved) ≡ 0
            nothing n h = omega (arith, h)
rested_down run w v conn count (goes_on e letter rest there standing link less same) i = subst (λ u. DownTied run u None) (sym same) further
  where
    further : DownTied run (moved_down w conn count) None
    further k x at st = by (with_cases (λ (y : End). record y { down_moved = y.down_moved + count }) w.ends conn k x at)
      where
        of_other : (y : End) → (k ≡ conn → ⊥) → end_at w.ends k ≡ Some y → x ≡ y → DownAt run (moved_down w conn count) k x 0
        of_other y differ h is =
            let old : DownAt run w k x 0 = subst (DownAt run w k x) (none_of_other conn count k x (λ g. differ (sym g))) (i k x (h ∙ ap Some (sym is)) st) in
            record {
              mark = old.mark;
              moved_is = old.moved_is;
              tie = subst (λ l. DownTie w.bus.quota (deliveries run) old.mark (length l) x) (sym (queue_there w.bus.waiting.queues conn k (drop count (queue_of w.bus.waiting.queues conn)) differ)) old.tie;
            }

        own : k ≡ conn → (y : End) → y ≡ e → x ≡ record y { down_moved = y.down_moved + count } → DownAt run (moved_down w conn count) k x 0
        own at_ y is changed =
            let x_is : x ≡ record e { down_moved = e.down_moved + count } = changed ∙ ap (λ (z : End). record z { down_moved = z.down_moved + count }) is in
            let old : DownAt run w conn e (min count (sizes (downs e) - e.down_moved)) = subst (DownAt run w conn e) (ahead_here conn count e) (i conn e there standing) in
            let tie = old.tie in
            let all : sizes (downs e) ≡ size letter.said.message + sizes (downs_of rest) = ap (λ l. sizes (downs_of l)) link in
            let long : length (queue_of (moved_down w conn count).bus.waiting.queues conn) ≡ length (queue_of w.bus.waiting.queues conn) - count =
            ap length (queue_here w.bus.waiting.queues conn (drop count (queue_of w.bus.waiting.queues conn))) ∙ length-drop count (queue_of w.bus.waiting.queues conn) in
            subst (λ j. DownAt run (moved_down w conn count) j x 0) (sym at_)
            (subst (λ (z : End). DownAt run (moved_down w conn count) conn z 0) (sym x_is) (record {
              mark = sizes tie.took + (e.down_moved + count);
              moved_is = sum (moved run e.who false) old.mark (min count (sizes (downs e) - e.down_moved)) (sizes tie.took) (sizes (downs e)) (sizes (downs_of rest)) old.moved_is refl tie.marked all less;
              tie = subst (λ n. DownTie w.bus.quota (deliveries run) (sizes tie.took + (e.down_moved + count)) n (record e { down_moved = e.down_moved + count })) (sym long) (record {
                took = tie.took;
                link = tie.link;
                marked = refl;
                all_in = tie.all_in;
                begun = subst (IsBegun (e.down_moved + count)) (sym (ap downs_of link)) (below less);
                queue = waits (length (queue_of w.bus.waiting.queues conn)) (sizes (downs e)) (sizes (downs_of rest)) tie.queue all less;
              });
            }))
          where
            below : count < size letter.said.message - e.down_moved → e.down_moved + count < size letter.said.message
            below h = omega (arith, h)

            sum : (x m n s all r : ℕ) → x ≡ m + n → n ≡ min count (all - e.down_moved) → m ≡ s + e.down_moved → all ≡ size letter.said.message + r → count < size letter.said.message - e.down_moved → x ≡ (s + (e.down_moved + count)) + 0
            sum x m n s all r h1 h2 h3 h4 h5 = omega (arith, h1, h2, h3, h4, h5)

            waits : (q all r : ℕ) → q + e.down_moved ≡ all → all ≡ size letter.said.message + r → count < size letter.said.message - e.down_moved → (q - count) + (e.down_moved + count) ≡ all
            waits q all r h1 h2 h3 = omega (arith, h1, h2, h3)

        by : ((y : End) × (end_at w.ends k ≡ Some y) × (((k ≡ conn) × (x ≡ record y { down_moved = y.down_moved + count })) ⊎ ((k ≡ conn → ⊥) × (x ≡ y)))) → DownAt run (moved_down w conn count) k x 0
        by y = of_case y.2
          where
            of_case : (((k ≡ conn) × (x ≡ record (y.0) { down_moved = y.0.down_moved + count })) ⊎ ((k ≡ conn → ⊥) × (x ≡ y.0))) → DownAt run (moved_down w conn count) k x 0
            of_case (inl c) = own c.0 y.0 (same_some y.0 e (sym y.1 ∙ ap (end_at w.ends) c.0 ∙ there)) c.1
            of_case (inr c) = of_other y.0 c.0 y.1 c.1

up_over : (w v : World) (conn count : ℕ) → UpRest w v conn count → Over KeepsDown w.ends v.ends × (v.bus ≡ w.bus)
up_over w v conn count (ups_rest.stays same none) = (subst (λ (x : World). Over KeepsDown w.ends x.ends) (sym same) (over_same KeepsDown keeping_down w.ends), ap (λ (x : World). x.bus) same)
up_over w v conn count (ups_rest.goes_on e said rest there standing link less same) = (
  subst (λ (x : World). Over KeepsDown w.ends x.ends) (sym same)
      (over_with KeepsDown keeping_down (λ e. record e { up_moved = e.up_moved + count }) (λ x. as_before x (record x { up_moved = x.up_moved + count }) refl refl refl refl) conn w.ends),
  ap (λ (x : World). x.bus) same,
)

still_over : (w v : World) → v ≡ w → Over KeepsDown w.ends v.ends × (v.bus ≡ w.bus)
still_over w v same = (subst (λ (x : World). Over KeepsDown w.ends x.ends) (sym same) (over_same KeepsDown keeping_down w.ends), ap (λ (x : World). x.bus) same)

down_bus : (w v : World) (conn count : ℕ) → DownRest w v conn count → (v.bus.quota ≡ w.bus.quota) × (length v.ends ≡ length w.ends)
down_bus w v conn count (stays same none) = (ap (λ (x : World). x.bus.quota) same, ap (λ (x : World). length x.ends) same)
down_bus w v conn count (goes_on e letter rest there standing link less same) = (
  ap (λ (x : World). x.bus.quota) same,
  ap (λ (x : World). length x.ends) same ∙ (over_with SameSize same_size (λ e. record e { down_moved = e.down_moved + count }) (λ x. tt) conn w.ends).size,
)

over_so : (run : List Act) (w v : World) (at : Option Work) → NotDown at → Over KeepsDown w.ends v.ends × (v.bus ≡ w.bus) → DownSo run w at → DownSo run v None
over_so run w v at n o i = record {
  quota = i.quota ∙ sym (ap (λ (b : Bus). b.quota) o.1);
  none_yet = of i.none_yet;
  tied = subst (λ l. DownTied l v None) (append-nil run)
      (keep_tied run [] w v at None (ap deliveries (append-nil run)) o.0 (ap (λ (b : Bus). b.waiting) o.1) (ap (λ (b : Bus). b.quota) o.1) (quiet_balance [] w v at None (λ p. refl) n tt) i.tied);
}
  where
    of : ((2 ≤ length w.ends) ⊎ (deliveries run ≡ [])) → (2 ≤ length v.ends) ⊎ (deliveries run ≡ [])
    of (inl two) = inl (subst (λ n. 2 ≤ n) (sym o.0.size) two)
    of (inr none) = inr none

rested_so : (run : List Act) (w v : World) (work : Work) → next_of w work ≡ rests v → DownSo run w (Some work) → DownSo run v None
rested_so run w v (moving_down conn count) h i =
    let r : DownRest w v conn count = down_rests w v conn count h in
    let b = down_bus w v conn count r in
    record { quota = i.quota ∙ sym b.0; none_yet = of b.1 i.none_yet; tied = rested_down run w v conn count r i.tied }
  where
    of : length v.ends ≡ length w.ends → ((2 ≤ length w.ends) ⊎ (deliveries run ≡ [])) → (2 ≤ length v.ends) ⊎ (deliveries run ≡ [])
    of size (inl two) = inl (subst (λ n. 2 ≤ n) (sym size) two)
    of size (inr none) = inr none
rested_so run w v (moving_up conn count) h i = over_so run w v (Some (moving_up conn count)) tt (up_over w v conn count (up_rests w v conn count h)) i
rested_so run w v (turning count left) h i = over_so run w v (Some (turning count left)) tt (still_over w v (turns_rest w v count left h)) i
rested_so run w v draining h i = over_so run w v (Some draining) tt (still_over w v (drain_rests w v h)) i
rested_so run w v resting h i = over_so run w v (Some resting) tt (still_over w v (still_rests w v h)) i
rested_so run w v (doing c) h i = absurd (none_rests w v c h)

-- A READER'S OWN CALL
ahead_alike : (at : Option Work) (k : ℕ) (e d : End) → d.down ≡ e.down → d.down_moved ≡ e.down_moved → ahead_down at k e ≡ ahead_down at k d
ahead_alike None k e d h g = refl
ahead_alike (Some (moving_up conn count)) k e d h g = refl
ahead_alike (Some (moving_down conn count)) k e d h g = ap₂ (λ l n. if conn == k then min count (sizes (downs_of l) - n) else 0) (sym h) (sym g)
ahead_alike (Some (turning count left)) k e d h g = refl
ahead_alike (Some draining) k e d h g = refl
ahead_alike (Some resting) k e d h g = refl
ahead_alike (Some (doing c)) k e d h g = refl

asked_so : (run : List Act) (w : World) (conn q : ℕ) (m : Envelope) (question : Question) (at : Option Work) → DownSo run w at → DownSo (run ++ writes (sent (Reader q) m) ∷ []) (at_end w conn (asks_at m question)) at
asked_so run w conn q m question at i = record {
  quota = quota_more run acts ∙ i.quota;
  none_yet = of i.none_yet;
  tied = keep_tied run acts w (at_end w conn (asks_at m question)) at at same o refl refl balance i.tied;
}
  where
    acts : List Act
    acts = writes (sent (Reader q) m) ∷ []

    same : deliveries (run ++ acts) ≡ deliveries run
    same = same_deliveries run acts (all_idle acts (record { none = refl; does_nothing = λ before x. refl }, tt))

    o : Over KeepsDown w.ends (with_end conn (asks_at m question) w.ends)
    o = over_with KeepsDown keeping_down (asks_at m question) (λ x. of_same x (asks_at m question x) (asks_down m question x)) conn w.ends

    of : ((2 ≤ length w.ends) ⊎ (deliveries run ≡ [])) → (2 ≤ length (with_end conn (asks_at m question) w.ends)) ⊎ (deliveries (run ++ acts) ≡ [])
    of (inl two) = inl (subst (λ n. 2 ≤ n) (sym o.size) two)
    of (inr none) = inr (same ∙ none)

    none_more : (a b : ℕ) → a ≡ b → 0 + a ≡ b
    none_more a b h = omega (arith, h)

    balance : Balanced acts w (at_end w conn (asks_at m question)) at at
    balance k e d there standing after st keeps =
        let g : KeptDown e d = keeps.going st in
        none_more (ahead_down at k e) (ahead_down at k d) (ahead_alike at k e d g.down g.mark)

-- FIRST
first_so : DownSo [] (first_world QUOTA_MOST) (Some resting)
first_so = record { quota = refl; none_yet = inr refl; tied = first }
  where
    none_waits : length (queue_of (first_world QUOTA_MOST).bus.waiting.queues 0) ≡ 0
    none_waits = ap (λ o. length (or_nothing o)) (get-from_sorted nat_cmp first_queues 0 tt) ∙ by (eq_by_cmp nat_cmp 0 0)
      where
        by : (b : Bool) → length (or_nothing (if b then Some [] else None)) ≡ 0
        by true = refl
        by false = refl

    plus : (a : ℕ) → a ≡ 0 → a + 0 ≡ 0
    plus a h = omega (arith, h)

    registry : DownAt [] (first_world QUOTA_MOST) 0 first_registry 0
    registry = record {
      mark = 0;
      moved_is = refl;
      tie = record { took = []; link = refl; marked = refl; all_in = tt; begun = refl; queue = plus (length (queue_of (first_world QUOTA_MOST).bus.waiting.queues 0)) none_waits };
    }

    first : DownTied [] (first_world QUOTA_MOST) (Some resting)
    first zero e h st = subst (λ (x : End). DownAt [] (first_world QUOTA_MOST) 0 x 0) (same_some first_registry e h) registry
    first (suc k) e h st = absurd (no_none e h)

-- TURNS
abbrev IsGet : Cause → Type 0
IsGet (gets conn) = Unit {0}
IsGet c = ⊥

turn_forth : (w : World) (c : Cause) → (IsGet c → ⊥) → (p : Party) → moved (turn_move w c) p false ≡ 0
turn_forth w (routes conn) n p = moved_forth p _ _
turn_forth w (gets conn) n p = absurd (n tt)
turn_forth w (unjoins conn) n p = refl
turn_forth w (renews quota) n p = refl
turn_forth w (starts_app name) n p = refl
turn_forth w starts_reader n p = refl
turn_forth w (edits conn edit) n p = refl
turn_forth w (calls conn name node deed) n p = refl
turn_forth w swaps_face n p = refl
turn_forth w (exits conn) n p = refl
turn_forth w (shows conn app) n p = refl
turn_forth w (tells_busy turns) n p = refl
turn_forth w tells_quiet n p = refl

stopped_forth : (w : World) (c : Cause) (p : Party) → moved (stopped_move w c) p false ≡ 0
stopped_forth w (routes conn) p = refl
stopped_forth w (gets conn) p = refl
stopped_forth w (unjoins conn) p = refl
stopped_forth w (renews quota) p = refl
stopped_forth w (starts_app name) p = refl
stopped_forth w starts_reader p = refl
stopped_forth w (edits conn edit) p = refl
stopped_forth w (calls conn name node deed) p = refl
stopped_forth w swaps_face p = refl
stopped_forth w (exits conn) p = refl
stopped_forth w (shows conn app) p = refl
stopped_forth w (tells_busy turns) p = refl
stopped_forth w tells_quiet p = refl

moves_forth : (w : World) (work : Work) (c : Cause) → (IsGet c → ⊥) → (p : Party) → moved (moves_for w work c) p false ≡ 0
moves_forth w (turning count left) c n p = turn_forth w c n p
moves_forth w draining c n p = turn_forth w c n p
moves_forth w (moving_up conn count) c n p = stopped_forth w c p
moves_forth w (moving_down conn count) c n p = refl
moves_forth w resting c n p = refl
moves_forth w (doing d) c n p = refl

sizes_are : (es : List End) → length (parties es) ≡ length es
sizes_are [] = refl
sizes_are (x ∷ xs) = ap suc (sizes_are xs)

as_many_ends : (w v : World) → parties v.ends ≡ parties w.ends → length v.ends ≡ length w.ends
as_many_ends w v same = sym (sizes_are v.ends) ∙ ap length same ∙ sizes_are w.ends

entry_tied : (run : List Act) (entry : Entry) (w : World) (at now : Option Work) → Idle (writes entry) → NotDown at → NotDown now → DownSo run w at → DownSo (run ++ writes entry ∷ []) w now
entry_tied run entry w at now a na nb i =
    let same : deliveries (run ++ writes entry ∷ []) ≡ deliveries run = same_deliveries run (writes entry ∷ []) (all_idle (writes entry ∷ []) (a, tt)) in
    record {
      quota = quota_more run (writes entry ∷ []) ∙ i.quota;
      none_yet = of same i.none_yet;
      tied = keep_tied run (writes entry ∷ []) w w at now same (over_same KeepsDown keeping_down w.ends) refl refl (quiet_balance (writes entry ∷ []) w w at now (λ p. refl) na nb) i.tied;
    }
  where
    of : deliveries (run ++ writes entry ∷ []) ≡ deliveries run → ((2 ≤ length w.ends) ⊎ (deliveries run ≡ [])) → (2 ≤ length w.ends) ⊎ (deliveries (run ++ writes entry ∷ []) ≡ [])
    of same (inl two) = inl two
    of same (inr none) = inr (same ∙ none)

module _ (run : List Act) (w : World) (free next : Option ℕ) (work left : Work) (f : Front run w free) (s : Shape w) (bare : IsBare work) (na : NotDown (Some work)) (nb : NotDown (Some left)) (so : BusSo run w.bus.state) (i : DownSo run w (Some work)) where
  behind_moves : (c : Cause) (d : Done) → (IsGet c → ⊥) → (IsUnjoin c → ⊥)
      → (Front (run ++ moves_for w work c) w None → Front ((run ++ moves_for w work c) ++ map writes d.entries) d.world next → BusSo (run ++ moves_for w work c) w.bus.state → DownSo (run ++ moves_for w work c) w (Some work)
      → DownSo ((run ++ moves_for w work c) ++ map writes d.entries) d.world (Some left))
      → Front (run ++ (moves_for w work c ++ map writes d.entries)) d.world next → DownSo (run ++ (moves_for w work c ++ map writes d.entries)) d.world (Some left)
  behind_moves c d g n act after =
      let moves : List Act = moves_for w work c in
      let apart : (run ++ moves) ++ map writes d.entries ≡ run ++ (moves ++ map writes d.entries) = append_assoc run moves (map writes d.entries) in
      subst (λ l. DownSo l d.world (Some left)) apart
      (act (front_moved run moves w free (moves_are w work c) f) (subst (λ l. Front l d.world next) (sym apart) after) (idle_step run moves w.bus.state (moves_idle w work c n) so)
      (moves_tied run moves w (Some work) (Some work) (moves_are w work c) (moves_idle w work c n) (moves_forth w work c g) na na i))

  by_get : (c : Cause) (d : Done) (conn : ℕ) → c ≡ gets conn → TurnDid w c d → parties d.world.ends ≡ parties w.ends → moves_for w work c ≡ turn_move w c → DownSo (run ++ (moves_for w work c ++ map writes d.entries)) d.world (Some left)
  by_get c d conn is t same as_turn =
      subst (λ l. DownSo (run ++ (l ++ map writes d.entries)) d.world (Some left)) (sym as_turn)
      (turn_takes run w c d (Some work) (Some left)
      (takes_one w c d t (λ x h. no_route x.conn conn (sym h ∙ is)) (λ x h. no_unjoin x.conn conn (sym h ∙ is)) (λ n h. no_busy n conn (sym h ∙ is)) (λ h. no_quiet conn (sym h ∙ is)))
      s (take_deliver w c d t s (λ x h. no_route x.conn conn (sym h ∙ is)) (λ x h. no_unjoin x.conn conn (sym h ∙ is))) (as_many_ends w d.world same) na nb (moves_are w draining c)
      (moves_idle w draining c (λ x. not_end (subst IsUnjoin is x))) i)
    where
      not_end : IsUnjoin (gets conn) → ⊥
      not_end x = x

  by_turn : (c : Cause) (d : Done) → TurnDid w c d → next_of w work ≡ cause c w left → (IsGet c → moves_for w work c ≡ turn_move w c) → Front (run ++ (moves_for w work c ++ map writes d.entries)) d.world next → parties d.world.ends ≡ parties w.ends
      → DownSo (run ++ (moves_for w work c ++ map writes d.entries)) d.world (Some left)
  by_turn _ _ (bus_ended d e) is as_turn after same =
      let moves_are_so : moves_for w work (unjoins e.conn) ≡ takes_end (party_at w.ends e.conn) ∷ [] = end_move w work left e.conn bare is in
      subst (λ l. DownSo (run ++ (l ++ map writes d.entries)) d.world (Some left)) (sym moves_are_so)
      (ended_down run w free next (Some work) (Some left) d f e (subst (λ l. Front (run ++ (l ++ map writes d.entries)) d.world next) moves_are_so after) s same so na nb i)
  by_turn _ _ (told_busy turns) is as_turn after same =
      behind_moves (tells_busy turns) (only w (busy turns ∷ [])) (λ x. x) (λ x. x)
      (λ f after so i. entry_tied (run ++ moves_for w work (tells_busy turns)) (busy turns) w (Some work) (Some left) (record { none = refl; does_nothing = λ before x. refl }) na nb i) after
  by_turn _ _ (told_quiet none) is as_turn after same =
      behind_moves tells_quiet (only w (quiet ∷ [])) (λ x. x) (λ x. x) (λ f after so i. entry_tied (run ++ moves_for w work tells_quiet) quiet w (Some work) (Some left) (record { none = refl; does_nothing = λ before x. refl }) na nb i) after
  by_turn _ _ (bus_took d e) is as_turn after same =
      behind_moves (routes e.conn) d (λ x. x) (λ x. x) (λ f after so i. took_down (run ++ moves_for w work (routes e.conn)) w None next (Some work) (Some left) d f after s same so e na nb i) after
  by_turn _ _ (registry_took d e) is as_turn after same = by_get (gets e.conn) d e.conn refl (registry_took d e) same (as_turn tt)
  by_turn _ _ (app_took d e) is as_turn after same = by_get (gets e.conn) d e.conn refl (app_took d e) same (as_turn tt)
  by_turn _ _ (reader_took d e) is as_turn after same = by_get (gets e.conn) d e.conn refl (reader_took d e) same (as_turn tt)

not_down : (left : Work) → IsTurning left → NotDown (Some left)
not_down (turning count n) t = tt
not_down draining t = tt
not_down resting t = tt
not_down (moving_up conn count) t = absurd t
not_down (moving_down conn count) t = absurd t
not_down (doing c) t = absurd t

caused_down : (run : List Act) (w : World) (free next : Option ℕ) (work left : Work) (c : Cause) (d : Done) → Front run w free → Front (run ++ (moves_for w work c ++ map writes d.entries)) d.world next → Shape w → IsBare work → next_of w work ≡ cause c w left
    → TurnDid w c d → parties d.world.ends ≡ parties w.ends → BusSo run w.bus.state → DownSo run w (Some work) → DownSo (run ++ (moves_for w work c ++ map writes d.entries)) d.world (Some left)
caused_down run w free next (turning count n) left c d f after s b is t same so i = by_turn run w free next (turning count n) left f s b tt (not_down left (turns_leave w count n c left is)) so i c d t is (λ x. refl) after same
caused_down run w free next draining left c d f after s b is t same so i = by_turn run w free next draining left f s b tt (not_down left (drain_leaves w c left is)) so i c d t is (λ x. refl) after same
caused_down run w free next (moving_up conn count) left c d f after s b is t same so i = by (up_goes w conn count c left is)
  where
    by : (GoesUp w conn count c left ⊎ StopsUp w conn c left) → DownSo (run ++ (moves_for w (moving_up conn count) c ++ map writes d.entries)) d.world (Some left)
    by (inl g) = by_turn run w free next (moving_up conn count) left f s b tt (subst (λ l. NotDown (Some l)) (sym g.left_is) tt) so i c d t is (λ x. absurd (subst IsGet g.cause_is x)) after same
    by (inr g) = by_turn run w free next (moving_up conn count) left f s b tt (subst (λ l. NotDown (Some l)) (sym g.left_is) tt) so i c d t is (λ x. absurd (subst IsGet g.cause_is x)) after same
caused_down run w free next (moving_down conn count) left c d f after s b is t same so i =
    let g : GoesDown w conn count c left = down_goes w conn count c left is in
    line_takes run w c d conn count left
    (takes_one w c d t (λ x h. no_route x.conn conn (sym h ∙ g.cause_is)) (λ x h. no_unjoin x.conn conn (sym h ∙ g.cause_is)) (λ n h. no_busy n conn (sym h ∙ g.cause_is)) (λ h. no_quiet conn (sym h ∙ g.cause_is)))
    g s (take_deliver w c d t s (λ x h. no_route x.conn conn (sym h ∙ g.cause_is)) (λ x h. no_unjoin x.conn conn (sym h ∙ g.cause_is))) (as_many_ends w d.world same) i
caused_down run w free next resting left c d f after s b is t same so i = absurd (no_rest_cause w c left is)
caused_down run w free next (doing x) left c d f after s b is t same so i = absurd b

-- ALONG A RUN
pub down_along : (run : List Act) (w : World) (free : Option ℕ) (at : Option Work) → Ran run w free at → Lives (entries_in run) → DownSo run w at
down_along _ _ _ _ nothing_yet live = first_so
down_along _ _ _ _ (did run w line c r ok can is a) live =
    let before : Lives (entries_in run) = lived_before run (begins_line line ∷ map writes (does w c).entries) live in
    let s : Shape w = shape_along run w None None r in
    line_down run w line (does w c) r (ends_along run w None None r) s (line_did w line c s ok can a is) (down_along run w None None r before)
down_along _ _ _ _ (began run w line r ok can b) live =
    began_down run w line (work_of w line) (bare_line w line ok b) (shape_along run w None None r) (down_along run w None None r (lived_before run (begins_line line ∷ line_moves w (work_of w line)) live))
down_along _ _ _ _ (caused run w free work left c r is b a) live =
    let before : Lives (entries_in run) = lived_before run (moves_for w work c ++ map writes (does w c).entries) live in
    let s : Shape w = shape_along run w free (Some work) r in
    let t : TurnDid w c (does w c) = turn_did w c s (bare_quiet w work left c b is) a in
    caused_down run w free (freed c) work left c (does w c) (front_of run w free (Some work) r before)
    (front_of (run ++ (moves_for w work c ++ map writes (does w c).entries)) (does w c).world (freed c) (Some left) (caused run w free work left c r is b a) live) s b is t (turn_parties w c (does w c) t) (bus_along run w free (Some work) r before)
    (down_along run w free (Some work) r before)
down_along _ _ _ _ (rested run w v free work r is m well) live = rested_so run w v work is (down_along run w free (Some work) r live)
down_along _ _ _ _ (asked run w conn q m question work r a) live = asked_so run w conn q m question work (down_along run w (Some conn) work r (lived_before run (writes (sent (Reader q) m) ∷ []) live))

-- WHAT A MOVE COMPLETES, of an end that is here
down_is : (run : List Act) (w : World) (at : Option Work) → NotDown at → DownSo run w at → DownIs run w
down_is run w at n i k e there standing =
    let old : DownAt run w k e (ahead_down at k e) = i.tied k e there standing in
    let tie = old.tie in
    let whole : routed run e.who ≡ filter (is_to e.who) (deliveries run) = ap (λ q. kept q [] (filter (is_to e.who) (deliveries run))) i.quota ∙ kept_all w.bus.quota [] (filter (is_to e.who) (deliveries run)) tie.all_in in
    let l : link run e.who false ≡ tie.took ++ downs e = ap letters whole ∙ tie.link in (
      λ count.
          ap (λ ms. drop (length (whole_in (moved run e.who false) ms)) (whole_in (moved run e.who false + count) ms)) l
          ∙ completed_is tie.took (downs e) (moved run e.who false) e.down_moved count (less (moved run e.who false) old.mark (ahead_down at k e) (sizes tie.took) old.moved_is (none_ahead at k e n) tie.marked) tie.begun,
      tie.begun,
    )
  where
    less : (m k a s : ℕ) → m ≡ k + a → a ≡ 0 → k ≡ s + e.down_moved → m ≡ s + e.down_moved
    less m k a s h g f = omega (arith, h, g, f)

pub links_known : Knows
links_known = record {
  begun = λ run w free at r live k e h st. ((down_along run w free at r live).tied k e h st).tie.begun;
  is = λ run w free at r live n. down_is run w at n (down_along run w free at r live);
  line = λ run w line b r live. down_is (run ++ begins_line line ∷ []) w (Some resting) tt (began_down run w line resting b (shape_along run w None None r) (down_along run w None None r live));
}
