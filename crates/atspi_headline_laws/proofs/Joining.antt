-- The ends of a world are, in their order, those that the run tells.
use Rattle.std.proofs.Common.{◌≡◌, inl, inr, ℕ, zero, suc, ◌≤◌, Bool, true, false, List, [], ◌∷◌, ◌++◌, length, map, Option, None, Some, refl, sym, ap, ap₂, ◌∙◌, subst, arith, cond}
use Rattle.std.specs.Prelude.{filter, filter_map}
use Rattle.std.specs.List.{AllByRecursion, cons_option}
use Rattle.std.proofs.lemmas.Bool.{ltb-false}
use Rattle.std.proofs.lemmas.List.{append-nil}
use Rattle.atspi_script_lines.specs.declared.line.Line.{Line}
use Rattle.atspi_script_lines.specs.declared.line.Party.{Party}
use Rattle.atspi_script_lines.specs.declared.line.Party.TheVariants.{Registry, App, Reader}
use Rattle.atspi_trace.specs.Entry.{Entry, sent}
use Rattle.atspi_protocol.specs.exporting.Exporter.{begins}
use Rattle.atspi_protocol.specs.exporting.Starting.{starts}
use Rattle.atspi_trace.specs.World.{End, World}
use Rattle.atspi_trace.specs.Ends.{with_end, stops, app_count}
use Rattle.atspi_trace.specs.Due.{asks_at}
use Rattle.atspi_trace.specs.Causes.{Cause, Done, at_end, does, has_done, did as did_so, app_starts, reader_starts}
use Rattle.atspi_trace.specs.Work.{Work, work_of}
use Rattle.atspi_headline.specs.Words.{Act, begins_line, moves_bytes, takes_end, writes, start_in, ends}
use Rattle.atspi_trace_laws.proofs.OfOrder.Parties.{same_some}
use Rattle.atspi_trace_laws.proofs.OfOrder.Allowed.{Moves}
use Rattle.atspi_trace_laws.proofs.OfOrder.Frame.{Over}
use Rattle.atspi_trace_laws.proofs.OfOrder.Shape.{Lasts, Shape}
use Rattle.atspi_trace_laws.proofs.OfOrder.Shaped.{new_app, new_reader, app_joined, bus_takes_over, bus_ends_over, app_takes_over, registry_over, reader_over, up_moved_over, down_moved_over, asked_over}
use Rattle.atspi_headline_laws.proofs.Ran.{Ran, nothing_yet, did, began, caused, rested, asked, moves_for, line_moves}
use Rattle.atspi_headline_laws.proofs.Making.{AllMoves, moves_are, line_moves_are}
use Rattle.atspi_headline_laws.proofs.Keeping.{shape_along}
use Rattle.atspi_headline_laws.proofs.Acting.{LineDid, line_did, renewed, app_began, reader_began, edited_app, called_app, swapped, app_stopped, reader_stopped, showed, TurnDid, turn_did, bare_quiet, told_busy, told_quiet, bus_took, bus_ended, registry_took, app_took, reader_took}
use Rattle.atspi_headline_laws.proofs.Sorting.{AppSorts, TurnSorts, app_all, new_number, turn_all}

abbrev pub parties : List End → List Party
parties es = map (λ (e : End). e.who) es

-- whose ends there are stays
over_parties : (xs ys : List End) → Over Lasts xs ys → parties ys ≡ parties xs
over_parties [] [] o = refl
over_parties [] (y ∷ ys) o = absurd (omega (arith, o.size))
over_parties (x ∷ xs) [] o = absurd (omega (arith, o.size))
over_parties (x ∷ xs) (y ∷ ys) o =
    let first = o.back 0 y refl in
    let size : suc (length ys) ≡ suc (length xs) = o.size in
    let less : length ys ≡ length xs = omega (arith, size) in
    ap₂ (λ p l. p ∷ l) (first.2.whose ∙ ap (λ (e : End). e.who) (sym (same_some x first.0 first.1))) (over_parties xs ys (record { size = less; back = λ k d h. o.back (suc k) d h }))

pub with_parties : (f : End → End) → ((e : End) → (f e).who ≡ e.who) → (conn : ℕ) (es : List End) → parties (with_end conn f es) ≡ parties es
with_parties f same conn [] = refl
with_parties f same zero (e ∷ es) = ap (λ p. p ∷ parties es) (same e)
with_parties f same (suc conn) (e ∷ es) = ap (λ l. e.who ∷ l) (with_parties f same conn es)

parties_more : (xs : List End) (n : End) → parties (xs ++ n ∷ []) ≡ parties xs ++ n.who ∷ []
parties_more [] n = refl
parties_more (x ∷ xs) n = ap (λ l. x.who ∷ l) (parties_more xs n)

-- THE STARTS of a run
starts_more : (xs ys : List Act) → filter_map start_in (xs ++ ys) ≡ filter_map start_in xs ++ filter_map start_in ys
starts_more [] ys = refl
starts_more (x ∷ xs) ys = by (start_in x) (starts_more xs ys)
  where
    by : (o : Option Party) → filter_map start_in (xs ++ ys) ≡ filter_map start_in xs ++ filter_map start_in ys → cons_option o (filter_map start_in (xs ++ ys)) ≡ cons_option o (filter_map start_in xs) ++ filter_map start_in ys
    by None h = h
    by (Some p) h = ap (λ l. p ∷ l) h

no_starts_moves : (acts : List Act) → AllMoves acts → filter_map start_in acts ≡ []
no_starts_moves [] m = refl
no_starts_moves (moves_bytes who up count ∷ acts) m = no_starts_moves acts m
no_starts_moves (takes_end who ∷ acts) m = no_starts_moves acts m
no_starts_moves (begins_line line ∷ acts) m = absurd m
no_starts_moves (writes entry ∷ acts) m = absurd m

abbrev NoStart : Entry → Type 0
NoStart entry = start_in (writes entry) ≡ None

no_starts : (es : List Entry) → AllByRecursion NoStart es → filter_map start_in (map writes es) ≡ []
no_starts [] a = refl
no_starts (e ∷ es) a = ap (λ o. cons_option o (filter_map start_in (map writes es))) a.0 ∙ no_starts es a.1

apps_no : AppSorts NoStart
apps_no = record { steps_ = λ app step. refl; sends_ = λ app e. refl; hears_ = λ app listener pattern. refl; deaf_ = λ app listener pattern. refl }

turns_no : TurnSorts NoStart
turns_no = record {
  app = apps_no;
  bus = record { says_ = λ e. refl; drops_ = λ who queued len. refl };
  busy_ = λ turns. refl;
  quiet_ = refl;
  takes_ = λ taker sender serial. refl;
  registry_ = λ e. refl;
  speaks_ = λ reader app line. refl;
  ends_ = λ reader app. refl;
}

-- THE TIE
abbrev pub EndsAre : List Act → World → Type 0
EndsAre run w = parties w.ends ≡ ends run

same_ends : (run acts : List Act) (w v : World) → filter_map start_in acts ≡ [] → parties v.ends ≡ parties w.ends → EndsAre run w → EndsAre (run ++ acts) v
same_ends run acts w v none same i =
    same ∙ i ∙ ap (λ l. Registry ∷ l) (sym (starts_more run acts ∙ ap (λ l. filter_map start_in run ++ l) none ∙ append-nil (filter_map start_in run)))

more_ends : (run acts : List Act) (w v : World) (n : End) → filter_map start_in acts ≡ n.who ∷ [] → v.ends ≡ w.ends ++ n ∷ [] → EndsAre run w → EndsAre (run ++ acts) v
more_ends run acts w v n one more i =
    ap parties more ∙ parties_more w.ends n ∙ ap (λ l. l ++ n.who ∷ []) i
    ∙ ap (λ l. Registry ∷ l) (sym (starts_more run acts ∙ ap (λ l. filter_map start_in run ++ l) one))

-- a world begins anew where nobody joined
pub few_starts : (run : List Act) (w : World) → EndsAre run w → length w.ends ≤ 1 → filter_map start_in run ≡ []
few_starts run w i few = by (filter_map start_in run) refl
  where
    sizes : (es : List End) → length (parties es) ≡ length es
    sizes [] = refl
    sizes (e ∷ es) = ap suc (sizes es)

    by : (l : List Party) → filter_map start_in run ≡ l → l ≡ []
    by [] h = refl
    by (p ∷ ps) h =
        let all : length w.ends ≡ length (Registry ∷ (p ∷ ps)) = sym (sizes w.ends) ∙ ap length i ∙ ap (λ l. length (Registry ∷ l)) h in
        absurd (omega (arith, all, few))

line_ends : (run : List Act) (w : World) (line : Line) (d : Done) → Shape w → EndsAre run w → LineDid w line d → EndsAre (run ++ begins_line line ∷ map writes d.entries) d.world
line_ends run w line _ s i (renewed quota few) =
    let none : filter_map start_in run ≡ [] = few_starts run w i (ltb-false 1 (length w.ends) few) in
    ap (λ l. Registry ∷ l) (sym (starts_more run (begins_line line ∷ []) ∙ ap (λ l. l ++ []) none))
line_ends run w line _ s i (app_began name short few) =
    more_ends run (begins_line line ∷ map writes (app_starts w name).entries) w (app_starts w name).world (new_app w name)
    (ap (λ l. App (app_count w.ends) ∷ l) (no_starts (map (did_so (new_number w name)) (starts (begins name)).out) (app_all NoStart apps_no (new_number w name) (starts (begins name)).out))) (app_joined w name) i
line_ends run w line _ s i (reader_began few) =
    more_ends run (begins_line line ∷ map writes (reader_starts w).entries) w (reader_starts w).world (new_reader w) refl refl i
line_ends run w line d s i (edited_app app conn edit e before after h who role done_ can) =
    same_ends run (begins_line line ∷ map writes d.entries) w d.world (no_starts d.entries (app_all NoStart apps_no _ after.out)) (with_parties (has_done before after) (λ x. refl) conn w.ends) i
line_ends run w line d s i (called_app reader app node conn deed e hearer h who role) =
    same_ends run (begins_line line ∷ map writes d.entries) w d.world refl (with_parties _ (λ x. refl) conn w.ends) i
line_ends run w line d s i (swapped app) = same_ends run (begins_line line ∷ []) w d.world refl refl i
line_ends run w line _ s i (app_stopped app d b who) =
    same_ends run (begins_line line ∷ map writes d.entries) w d.world (subst (λ (x : Done). filter_map start_in (map writes x.entries) ≡ []) (sym b.is) refl)
    (subst (λ (x : Done). parties x.world.ends ≡ parties w.ends) (sym b.is) (with_parties stops (λ x. refl) b.conn w.ends)) i
line_ends run w line _ s i (reader_stopped reader d b who) =
    same_ends run (begins_line line ∷ map writes d.entries) w d.world (subst (λ (x : Done). filter_map start_in (map writes x.entries) ≡ []) (sym b.is) refl)
    (subst (λ (x : Done). parties x.world.ends ≡ parties w.ends) (sym b.is) (with_parties stops (λ x. refl) b.conn w.ends)) i
line_ends run w line d s i (showed reader app conn e hearer there who role) = same_ends run (begins_line line ∷ map writes d.entries) w d.world refl refl i

pub turn_parties : (w : World) (c : Cause) (d : Done) → TurnDid w c d → parties d.world.ends ≡ parties w.ends
turn_parties w _ _ (told_busy turns) = refl
turn_parties w _ _ (told_quiet none) = refl
turn_parties w _ _ (bus_took d b) = over_parties w.ends d.world.ends (bus_takes_over w d b)
turn_parties w _ _ (bus_ended d b) = over_parties w.ends d.world.ends (bus_ends_over w d b)
turn_parties w _ _ (registry_took d b) = over_parties w.ends d.world.ends (registry_over w d b)
turn_parties w _ _ (app_took d b) = over_parties w.ends d.world.ends (app_takes_over w d b)
turn_parties w _ _ (reader_took d b) = over_parties w.ends d.world.ends (reader_over w d b)

moved_parties : (w v : World) → Moves w v → parties v.ends ≡ parties w.ends
moved_parties w v (inl same) = ap (λ (x : World). parties x.ends) same
moved_parties w v (inr (inl m)) = over_parties w.ends v.ends (up_moved_over w v m)
moved_parties w v (inr (inr m)) = over_parties w.ends v.ends (down_moved_over w v m)

pub ends_along : (run : List Act) (w : World) (free : Option ℕ) (at : Option Work) → Ran run w free at → EndsAre run w
ends_along _ _ _ _ nothing_yet = refl
ends_along _ _ _ _ (did run w line c r ok can is a) =
    line_ends run w line (does w c) (shape_along run w None None r) (ends_along run w None None r) (line_did w line c (shape_along run w None None r) ok can a is)
ends_along _ _ _ _ (began run w line r ok can b) =
    same_ends run (begins_line line ∷ line_moves w (work_of w line)) w w (no_starts_moves (line_moves w (work_of w line)) (line_moves_are w (work_of w line))) refl (ends_along run w None None r)
ends_along _ _ _ _ (caused run w free work left c r is b a) =
    let t : TurnDid w c (does w c) = turn_did w c (shape_along run w free (Some work) r) (bare_quiet w work left c b is) a in
    same_ends run (moves_for w work c ++ map writes (does w c).entries) w (does w c).world
    (starts_more (moves_for w work c) (map writes (does w c).entries)
    ∙ ap₂ (λ x y. x ++ y) (no_starts_moves (moves_for w work c) (moves_are w work c)) (no_starts (does w c).entries (turn_all NoStart turns_no w c (does w c) t)))
    (turn_parties w c (does w c) t) (ends_along run w free (Some work) r)
ends_along _ _ _ _ (rested run w v free work r is m well) = moved_parties w v m ∙ ends_along run w free (Some work) r
ends_along _ _ _ _ (asked run w conn q m question work r a) =
    same_ends run (writes (sent (Reader q) m) ∷ []) w (at_end w conn (asks_at m question)) refl
    (over_parties w.ends (at_end w conn (asks_at m question)).ends (asked_over w conn q m question a)) (ends_along run w (Some conn) work r)

-- ends before moves
pub moved_ends : (run moves : List Act) (w : World) → AllMoves moves → EndsAre run w → EndsAre (run ++ moves) w
moved_ends run moves w m i = same_ends run moves w w (no_starts_moves moves m) refl i

-- how many of a kind
pub counted : (kind : Party → Bool) (es : List End) → length (filter (λ (e : End). kind e.who) es) ≡ length (filter kind (parties es))
counted kind [] = refl
counted kind (e ∷ es) = by (kind e.who) (counted kind es)
  where
    by : (b : Bool) → length (filter (λ (e : End). kind e.who) es) ≡ length (filter kind (parties es))
        → length (cond b (e ∷ filter (λ (e : End). kind e.who) es) (filter (λ (e : End). kind e.who) es)) ≡ length (cond b (e.who ∷ filter kind (parties es)) (filter kind (parties es)))
    by true h = ap suc h
    by false h = h
