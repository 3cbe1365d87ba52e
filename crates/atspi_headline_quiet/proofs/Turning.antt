-- EACH TURN keeps the links from the bus tied.
use Rattle.std.proofs.Common.{◌≡◌, ℕ, ◌+◌, false, List, [], ◌∷◌, ◌++◌, length, map, Option, None, Some, refl, sym, ap, ◌∙◌, subst, arith}
use Rattle.std.specs.List.{AllByRecursion}
use Rattle.atspi_script_lines.specs.declared.line.Party.{Party}
use Rattle.atspi_script_lines.specs.declared.line.Party.TheVariants.{Bus as The_bus, Registry, App, Reader}
use Rattle.atspi_protocol.specs.registering.Steps.{registry_takes}
use Rattle.atspi_protocol.specs.exporting.Taking.{app_takes}
use Rattle.atspi_trace.specs.Entry.{Entry, got, busy, quiet}
use Rattle.atspi_trace.specs.World.{here, stopped, Role, the_registry, a_reader, Said, End, World}
use Rattle.atspi_trace.specs.Ends.{number_of, party_at}
use Rattle.atspi_trace.specs.Hearing.{hears_letter}
use Rattle.atspi_trace.specs.Carrying as carrying
use Rattle.atspi_trace.specs.Carrying.{Carried, bus_entries}
use Rattle.atspi_trace.specs.Causes as causes
use Rattle.atspi_trace.specs.Causes.{Cause, Done, has_done, registry_did, does}
use Rattle.atspi_trace.specs.Work.{Work, resting, doing, moving_up, moving_down, turning, draining, cause, next_of}
use Rattle.atspi_headline.specs.Words.{Act, takes_end, writes, entries_in, ends}
use Rattle.atspi_headline.specs.Links.{moved}
use Rattle.atspi_trace_laws.specs.laws.Words as told
use Rattle.atspi_trace_laws.proofs.OfOrder.Parties.{all_append}
use Rattle.atspi_trace_laws.proofs.OfOrder.Allowed.{IsBare}
use Rattle.atspi_trace_laws.proofs.OfOrder.Frame.{Over, over_same}
use Rattle.atspi_trace_laws.proofs.OfOrder.Shape.{RoleFits, Lasts, lasting, Shape}
use Rattle.atspi_trace_laws.proofs.OfOrder.Closed.{IsTold}
use Rattle.atspi_trace_laws.proofs.OfOrder.Effects.{received, BusTakes, BusEnds}
use Rattle.atspi_trace_laws.proofs.OfOrder.Shaped.{two_ends, bus_takes_over, bus_ends_over, registry_over, app_takes_over, reader_over}
use Rattle.atspi_trace_laws.proofs.OfOrder.Growing.{Shaped, And}
use Rattle.atspi_trace_laws.proofs.OfTaken.Said.{IsSaid}
use Rattle.atspi_trace_laws.proofs.OfTaken.LawTaken.{Under, Taken, taken_keeps}
use Rattle.atspi_trace_laws.proofs.OfHeard.Quiet.{heard_all}
use Rattle.atspi_trace_laws.proofs.OfOwn.Writing.{Lives}
use Rattle.atspi_trace_laws.proofs.OfQuiet.Here.{Greeted}
use Rattle.atspi_headline_laws.proofs.Ran.{moves_for}
use Rattle.atspi_headline_laws.proofs.Making.{AllMoves, entries_of_both, moves_are}
use Rattle.atspi_headline_laws.proofs.Numbering.{IsPlain}
use Rattle.atspi_headline_laws.proofs.Acting.{TurnDid, told_busy, told_quiet, bus_took, bus_ended, registry_took, app_took, reader_took}
use Rattle.atspi_headline_laws.proofs.Sorting.{AppSorts, app_all, sent_all}
use Rattle.atspi_headline_laws.proofs.Joining.{parties}
use Rattle.atspi_headline_laws.proofs.Growing.{Front}
use Rattle.atspi_headline_laws.proofs.Handing.{with_is}
use Rattle.atspi_headline_quiet.proofs.Marking.{AllMarked}
use Rattle.atspi_headline_quiet.proofs.Standing.{no_outs_routes, no_outs_gets, no_outs_busy, no_outs_quiet, greets_of, never_out, end_is_moved}
use Rattle.atspi_headline_quiet.proofs.Walking.{moved_more, moved_written}
use Rattle.atspi_headline_quiet.proofs.Downing.{DownTie}
use Rattle.atspi_headline_quiet.proofs.Downs.{BusTie, DownsTied, Still, Calm, calm_of, same_bus, still_moves, Around, took_tied, ended_tied}
use Rattle.atspi_headline_quiet.proofs.Along.{ahead_down, NotDown, none_ahead, moved_up_none, down_next, not_down_left}
use Rattle.atspi_headline_quiet.proofs.Tied.{SameDown, same_down, all_stay, got_tied}
use Rattle.atspi_headline_quiet.proofs.Linking.{Tied}

-- ENTRIES in which the bus does nothing
abbrev pub IdleEntry : Entry → Type 0
IdleEntry entry = Still (writes entry)

pub written_still : (es : List Entry) → AllByRecursion IdleEntry es → AllByRecursion Still (map writes es)
written_still [] a = tt
written_still (e ∷ es) a = (a.0, written_still es a.1)

pub apps_idle : AppSorts IdleEntry
apps_idle = record {
  steps_ = λ app step. ((λ before s. refl), (λ q. refl));
  sends_ = λ app e. ((λ before s. refl), (λ q. refl));
  hears_ = λ app listener pattern. ((λ before s. refl), (λ q. refl));
  deaf_ = λ app listener pattern. ((λ before s. refl), (λ q. refl));
}

pub without_ahead : (run : List Act) (w : World) (work : Work) → NotDown work → DownsTied run w (ahead_down (Some work)) → DownsTied run w (λ k e. 0)
without_ahead run w work n t k e at on = subst (DownTie run w.bus.quota w.bus.waiting.queues k e) (none_ahead work k e n) (t k e at on)

pub with_ahead : (run : List Act) (w : World) (work : Work) → NotDown work → DownsTied run w (λ k e. 0) → DownsTied run w (ahead_down (Some work))
with_ahead run w work n t k e at on = subst (DownTie run w.bus.quota w.bus.waiting.queues k e) (sym (none_ahead work k e n)) (t k e at on)

not_down_of : (w : World) (work left : Work) (c : Cause) → IsBare work → next_of w work ≡ cause c w left → ((conn : ℕ) → c ≡ causes.gets conn → ⊥) → NotDown work
not_down_of w (moving_down j n) left c b is f = absurd (f j (down_next w j n c left is).gets_)
not_down_of w (moving_up j n) left c b is f = tt
not_down_of w (turning count n) left c b is f = tt
not_down_of w draining left c b is f = tt
not_down_of w resting left c b is f = tt
not_down_of w (doing x) left c b is f = absurd b

moved_routes : (w : World) (work : Work) (conn : ℕ) (who : Party) → moved (moves_for w work (causes.routes conn)) who false ≡ 0
moved_routes w (turning count left) conn who = moved_up_none _ who _
moved_routes w draining conn who = moved_up_none _ who _
moved_routes w (moving_up k count) conn who = refl
moved_routes w (moving_down k count) conn who = refl
moved_routes w resting conn who = refl
moved_routes w (doing c) conn who = refl

moved_busy : (w : World) (work : Work) (turns : ℕ) (who : Party) → moved (moves_for w work (causes.tells_busy turns)) who false ≡ 0
moved_busy w (turning count left) turns who = refl
moved_busy w draining turns who = refl
moved_busy w (moving_up k count) turns who = refl
moved_busy w (moving_down k count) turns who = refl
moved_busy w resting turns who = refl
moved_busy w (doing c) turns who = refl

moved_quiet : (w : World) (work : Work) (who : Party) → moved (moves_for w work causes.tells_quiet) who false ≡ 0
moved_quiet w (turning count left) who = refl
moved_quiet w draining who = refl
moved_quiet w (moving_up k count) who = refl
moved_quiet w (moving_down k count) who = refl
moved_quiet w resting who = refl
moved_quiet w (doing c) who = refl

plain_role : (who : Party) (role : Role) → RoleFits who role → IsPlain who
plain_role The_bus role f = absurd (never role f)
  where
    never : (role : Role) → RoleFits The_bus role → ⊥
    never role g = g
plain_role Registry role f = tt
plain_role (App a) role f = tt
plain_role (Reader r) role f = tt

-- nothing is done, and this is told
told_tied : (run moves : List Act) (w : World) (entry : Entry) (work left : Work) → AllByRecursion Still moves → IdleEntry entry → ((who : Party) → moved moves who false ≡ 0) → NotDown work → NotDown left → Tied run w (Some work) → Tied (run ++ (moves ++ map writes (entry ∷ []))) w (Some left)
told_tied run moves w entry work left s idle none n m t =
    let acts : List Act = moves ++ map writes (entry ∷ []) in
    let calm : Calm run acts = calm_of run acts (all_append Still moves (map writes (entry ∷ [])) s (idle, tt)) in (
      same_bus run acts w w t.0 calm refl refl (over_same Lasts lasting w.ends) (λ who never. far who),
      with_ahead (run ++ acts) w left m
          (all_stay run acts w w (λ k e. 0) (λ k e. 0) (without_ahead run w work n t.1) calm refl refl (over_same SameDown same_down w.ends) (λ k e d at on same. zero_more (moved acts e.who false) (far e.who))),
    )
  where
    far : (who : Party) → moved (moves ++ map writes (entry ∷ [])) who false ≡ 0
    far who = moved_more moves (map writes (entry ∷ [])) who false ∙ zero_both (moved moves who false) (moved (map writes (entry ∷ [])) who false) (none who) (moved_written (entry ∷ []) who false)
      where
        zero_both : (a b : ℕ) → a ≡ 0 → b ≡ 0 → a + b ≡ 0
        zero_both a b h g = omega (arith, h, g)

    zero_more : (a : ℕ) → a ≡ 0 → 0 + a ≡ 0
    zero_more a h = omega (arith, h)

no_cons : (x : Said) (xs : List Said) → [] ≡ x ∷ xs → ⊥
no_cons x xs h = absurd (omega (arith, ap length h))

stopped_here : stopped ≡ here → ⊥
stopped_here h = cc

-- what is known of the worlds before and behind it
pub record Known (run : List Act) (w : World) (free : Option ℕ) (d : Done) : Type 1 where
  pub front : (moves : List Act) → AllMoves moves → Front (run ++ moves) w None
  pub shape : Shape w
  pub after : Shape d.world
  pub told_ : IsTold w
  pub greeted : Greeted w
  pub due_before : w.bus.waiting.due ≡ []
  pub due_after : d.world.bus.waiting.due ≡ []
  pub tie : parties w.ends ≡ ends run
  pub marks : AllMarked w

took : (run : List Act) (w : World) (free : Option ℕ) (d : Done) (work left : Work) (b : BusTakes w d) → Known run w free d → IsBare work → next_of w work ≡ cause (causes.routes b.conn) w left → Lives (entries_in (run ++ (moves_for w work (causes.routes b.conn) ++ map writes d.entries)))
    → Tied run w (Some work) → Tied (run ++ (moves_for w work (causes.routes b.conn) ++ map writes d.entries)) d.world (Some left)
took run w free d work left b k bare is live t =
    let moves : List Act = moves_for w work (causes.routes b.conn) in
    let n : NotDown work = not_down_of w work left (causes.routes b.conn) bare is (λ conn h. cc) in
    let m : NotDown left = not_down_left w work left (causes.routes b.conn) bare n is in
    let c : Carried = carrying.takes (record { bus = w.bus; ends = w.ends }) b.conn b.e.who b.said in
    let f : Front (run ++ moves) w None = k.front moves (moves_are w work (causes.routes b.conn)) in
    let said : AllByRecursion (IsSaid (entries_in (run ++ moves)) b.e.who) b.e.up = ((f.kept (Shaped (And Under Taken)) taken_keeps).1.1.1 b.conn b.e b.is_here.there).0 in
    let was : told.message (entries_in (run ++ moves)) b.e.who b.said.message.serial ≡ Some b.said.message = (subst (AllByRecursion (IsSaid (entries_in (run ++ moves)) b.e.who)) b.link said).0.was in
    let around : Around run w c (got The_bus b.e.who b.said.message.serial ∷ []) = record {
      shape = k.shape;
      after = subst (λ (x : Done). Shape x.world) b.is k.after;
      lasts = subst (λ (x : Done). Over Lasts w.ends x.world.ends) b.is (bus_takes_over w d b);
      told = k.told_;
      greeted = k.greeted;
      rested = subst (λ (x : Done). x.world.bus.waiting.due ≡ []) b.is k.due_after;
      due_none = k.due_before;
      tie = k.tie;
      registry = λ h. never_out run (moves ++ map writes d.entries) (got The_bus b.e.who b.said.message.serial ∷ bus_entries c.ends c.bus.own c.bus.closings)
          (entries_of_both moves d.entries (moves_are w work (causes.routes b.conn)) ∙ ap (λ (x : Done). x.entries) b.is) live h;
    } in
    let r = took_tied run moves w b.conn b.e b.said b.is_here.there (moves_are w work (causes.routes b.conn)) (λ who. no_outs_routes w work b.conn who) (λ who. moved_routes w work b.conn who) (greets_of w d b k.greeted)
    (with_is (run ++ moves) w None f b.e.who b.said.message.serial b.said.message (plain_role b.e.who b.e.role (k.shape.roles b.conn b.e b.is_here.there)) was) (two_ends w b.conn b.e k.shape b.is_here.there (λ g. no_cons b.said b.rest (sym (ap (λ (x : End). x.up) g) ∙ b.link))) k.marks around t.0 (without_ahead run w work n t.1) in
    let s : BusTie (run ++ (moves ++ map writes d.entries)) d.world × DownsTied (run ++ (moves ++ map writes d.entries)) d.world (λ j x. 0) =
    subst (λ (x : Done). BusTie (run ++ (moves ++ map writes x.entries)) x.world × DownsTied (run ++ (moves ++ map writes x.entries)) x.world (λ j y. 0)) (sym b.is) r in
    (s.0, with_ahead (run ++ (moves ++ map writes d.entries)) d.world left m s.1)

ended : (run : List Act) (w : World) (free : Option ℕ) (d : Done) (work left : Work) (b : BusEnds w d) → Known run w free d → IsBare work → next_of w work ≡ cause (causes.unjoins b.conn) w left → Lives (entries_in (run ++ (moves_for w work (causes.unjoins b.conn) ++ map writes d.entries)))
    → Tied run w (Some work) → Tied (run ++ (moves_for w work (causes.unjoins b.conn) ++ map writes d.entries)) d.world (Some left)
ended run w free d work left b k bare is live t =
    let moves : List Act = moves_for w work (causes.unjoins b.conn) in
    let moved_ : moves ≡ takes_end (party_at w.ends b.conn) ∷ [] = end_is_moved w work left b.conn bare is in
    let n : NotDown work = not_down_of w work left (causes.unjoins b.conn) bare is (λ conn h. cc) in
    let m : NotDown left = not_down_left w work left (causes.unjoins b.conn) bare n is in
    let c : Carried = carrying.takes_end (record { bus = w.bus; ends = w.ends }) b.conn in
    let around : Around run w c [] = record {
      shape = k.shape;
      after = subst (λ (x : Done). Shape x.world) b.is k.after;
      lasts = subst (λ (x : Done). Over Lasts w.ends x.world.ends) b.is (bus_ends_over w d b);
      told = k.told_;
      greeted = k.greeted;
      rested = subst (λ (x : Done). x.world.bus.waiting.due ≡ []) b.is k.due_after;
      due_none = k.due_before;
      tie = k.tie;
      registry = λ h. never_out run (moves ++ map writes d.entries) (bus_entries c.ends c.bus.own c.bus.closings)
          (entries_of_both moves d.entries (moves_are w work (causes.unjoins b.conn)) ∙ ap (λ (x : Done). x.entries) b.is) live h;
    } in
    let r = ended_tied run w b.conn b.e b.there (two_ends w b.conn b.e k.shape b.there (λ g. stopped_here (sym b.standing ∙ ap (λ (x : End). x.standing) g))) k.marks around t.0 (without_ahead run w work n t.1) in
    let s : BusTie (run ++ (moves ++ map writes d.entries)) d.world × DownsTied (run ++ (moves ++ map writes d.entries)) d.world (λ j x. 0) =
    subst (λ l. BusTie (run ++ (l ++ map writes d.entries)) d.world × DownsTied (run ++ (l ++ map writes d.entries)) d.world (λ j x. 0)) (sym moved_)
    (subst (λ (x : Done). BusTie (run ++ takes_end (party_at w.ends b.conn) ∷ map writes x.entries) x.world × DownsTied (run ++ takes_end (party_at w.ends b.conn) ∷ map writes x.entries) x.world (λ j y. 0)) (sym b.is) r) in
    (s.0, with_ahead (run ++ (moves ++ map writes d.entries)) d.world left m s.1)

-- an end takes a message
calm_got : (run : List Act) (w : World) (work : Work) (conn : ℕ) (es : List Entry) → AllByRecursion IdleEntry es → Calm run (moves_for w work (causes.gets conn) ++ map writes es)
calm_got run w work conn es a =
    calm_of run (moves_for w work (causes.gets conn) ++ map writes es)
    (all_append Still (moves_for w work (causes.gets conn)) (map writes es) (still_moves (moves_for w work (causes.gets conn)) (moves_are w work (causes.gets conn)) (λ who. no_outs_gets w work conn who)) (written_still es a))

plays : (role : Role) (x : End) → SameDown x (record x { role = role })
plays role x = record { whose = refl; on = λ h. h; down = refl; mark = refl }

pub turn_tied : (run : List Act) (w : World) (free : Option ℕ) (work left : Work) (c : Cause) (d : Done) → TurnDid w c d → Known run w free d → IsBare work → next_of w work ≡ cause c w left → Lives (entries_in (run ++ (moves_for w work c ++ map writes d.entries)))
    → Tied run w (Some work) → Tied (run ++ (moves_for w work c ++ map writes d.entries)) d.world (Some left)
turn_tied run w free work left _ _ (told_busy turns) k bare is live t =
    let n : NotDown work = not_down_of w work left (causes.tells_busy turns) bare is (λ conn h. cc) in
    told_tied run (moves_for w work (causes.tells_busy turns)) w (busy turns) work left (still_moves (moves_for w work (causes.tells_busy turns)) (moves_are w work (causes.tells_busy turns)) (λ who. no_outs_busy w work turns who)) ((λ before s. refl), (λ q. refl))
    (λ who. moved_busy w work turns who) n (not_down_left w work left (causes.tells_busy turns) bare n is) t
turn_tied run w free work left _ _ (told_quiet none) k bare is live t =
    let n : NotDown work = not_down_of w work left causes.tells_quiet bare is (λ conn h. cc) in
    told_tied run (moves_for w work causes.tells_quiet) w quiet work left (still_moves (moves_for w work causes.tells_quiet) (moves_are w work causes.tells_quiet) (λ who. no_outs_quiet w work who)) ((λ before s. refl), (λ q. refl))
    (λ who. moved_quiet w work who) n (not_down_left w work left causes.tells_quiet bare n is) t
turn_tied run w free work left _ _ (bus_took d b) k bare is live t = took run w free d work left b k bare is live t
turn_tied run w free work left _ _ (bus_ended d b) k bare is live t = ended run w free d work left b k bare is live t
turn_tied run w free work left _ _ (registry_took d b) k bare is live t =
    let x : Done = causes.took (received w b.conn b.e b.letter) b.conn b.letter b.e.who (the_registry b.before) in
    let idle : AllByRecursion IdleEntry x.entries = (
      subst (λ p. IdleEntry (got p b.letter.from b.letter.said.message.serial)) (sym b.whose) ((λ before s. refl), (λ q. refl)),
      sent_all IdleEntry b.e.who (λ e. ((λ before s. refl), (λ q. refl))) (registry_takes b.before b.letter.said.message).sent,
    ) in
    subst (λ (x : Done). Tied (run ++ (moves_for w work (causes.gets b.conn) ++ map writes x.entries)) x.world (Some left)) (sym b.is)
    (got_tied run w x.world work left b.conn b.e b.letter b.rest x.entries (registry_did (registry_takes b.before b.letter.said.message)) k.shape b.is_here.there b.link k.marks bare is
    (calm_got run w work b.conn x.entries idle) refl refl (λ x. record { whose = refl; on = λ h. h; down = refl; mark = refl })
    (subst (λ (x : Done). Over Lasts w.ends x.world.ends) b.is (registry_over w d b)) t.0 t.1)
turn_tied run w free work left _ _ (app_took d b) k bare is live t =
    let x : Done = causes.app_did (received w b.conn b.e b.letter) b.conn (got b.e.who b.letter.from b.letter.said.message.serial ∷ []) b.before (app_takes b.before b.letter.said.message) in
    let idle : AllByRecursion IdleEntry x.entries = (
      subst (λ p. IdleEntry (got p b.letter.from b.letter.said.message.serial)) (sym b.whose) ((λ before s. refl), (λ q. refl)),
      app_all IdleEntry apps_idle _ (app_takes b.before b.letter.said.message).out,
    ) in
    subst (λ (x : Done). Tied (run ++ (moves_for w work (causes.gets b.conn) ++ map writes x.entries)) x.world (Some left)) (sym b.is)
    (got_tied run w x.world work left b.conn b.e b.letter b.rest x.entries (has_done b.before (app_takes b.before b.letter.said.message)) k.shape b.is_here.there b.link k.marks bare is
    (calm_got run w work b.conn x.entries idle) refl refl (λ x. record { whose = refl; on = λ h. h; down = refl; mark = refl })
    (subst (λ (x : Done). Over Lasts w.ends x.world.ends) b.is (app_takes_over w d b)) t.0 t.1)
turn_tied run w free work left _ _ (reader_took d b) k bare is live t =
    let x : Done = causes.took (received w b.conn b.e b.letter) b.conn b.letter b.e.who (a_reader b.hearer) in
    let idle : AllByRecursion IdleEntry x.entries = (
      subst (λ p. IdleEntry (got p b.letter.from b.letter.said.message.serial)) (sym b.whose) ((λ before s. refl), (λ q. refl)),
      heard_all IdleEntry (λ r app line. ((λ before s. refl), (λ q. refl))) (λ r app. ((λ before s. refl), (λ q. refl))) (number_of b.e.who) b.hearer (received w b.conn b.e b.letter).ends b.letter,
    ) in
    subst (λ (x : Done). Tied (run ++ (moves_for w work (causes.gets b.conn) ++ map writes x.entries)) x.world (Some left)) (sym b.is)
    (got_tied run w x.world work left b.conn b.e b.letter b.rest x.entries (λ x. record x { role = a_reader (hears_letter b.hearer (received w b.conn b.e b.letter).ends b.letter) }) k.shape b.is_here.there b.link k.marks bare is
    (calm_got run w work b.conn x.entries idle) refl refl (λ x. record { whose = refl; on = λ h. h; down = refl; mark = refl })
    (subst (λ (x : Done). Over Lasts w.ends x.world.ends) b.is (reader_over w d b)) t.0 t.1)
