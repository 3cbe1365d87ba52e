-- THE LAW OF EXITS, its third part: of an end that exited nothing stands behind that, and a reader takes nothing of an application whose end it told.
use Rattle.std.proofs.Common.{◌≡◌, ℕ, Bool, true, false, List, [], ◌∷◌, ◌++◌, map, Option, None, Some, refl, sym, ap, ap₂, ◌∙◌, subst}
use Rattle.std.specs.Prelude.{◌==◌, ◌&&◌, ◌||◌, not}
use Rattle.std.specs.List.{AllByRecursion, list_any}
use Rattle.std.proofs.lemmas.Bool.{eqb-true}
use Rattle.std.proofs.lemmas.List.{append-nil, append_assoc}
use Rattle.atspi_script_lines.specs.declared.line.Party.{Party}
use Rattle.atspi_script_lines.specs.declared.line.Party.TheVariants.{Bus as The_bus, Registry, App, Reader}
use Rattle.atspi_protocol.specs.registering.Steps.{registry_takes}
use Rattle.atspi_protocol.specs.exporting.Taking.{app_takes}
use Rattle.atspi_trace.specs.Entry.{Entry, started, changed, sent, got, heard, unheard, spoke, showed, exited, gone, dropped, busy, quiet}
use Rattle.atspi_trace.specs.World.{World}
use Rattle.atspi_trace.specs.Ends.{same_party, number_of}
use Rattle.atspi_trace.specs.Carrying as carrying
use Rattle.atspi_trace.specs.Causes.{Cause, Done, does}
use Rattle.atspi_trace.specs.Work.{Work, work_of}
use Rattle.atspi_headline.specs.Words.{Act, begins_line, moves_bytes, takes_end, writes, entries_in, is_same, Along}
use Rattle.atspi_headline.specs.Headline.{is_by, is_got_of, NothingOf, NothingBehind}
use Rattle.atspi_trace_laws.specs.laws.Words.{starts_it, stops_it, is_live}
use Rattle.atspi_trace_laws.specs.laws.NineLaws.{IsNotOf, IsOver, LawOfDroppedEnds}
use Rattle.atspi_trace_laws.specs.order.Laws.{IsOut}
use Rattle.atspi_trace_laws.specs.exits.Laws.{IsNotEndOf, ComesBeforeEnd}
use Rattle.atspi_trace_laws.proofs.OfOrder.Parties.{false_true, same-party, party-same, all_back}
use Rattle.atspi_trace_laws.proofs.OfOrder.Each.{Each}
use Rattle.atspi_trace_laws.proofs.OfOrder.Growing.{Shaped, Nothing, And}
use Rattle.atspi_trace_laws.proofs.OfOrder.Told.{Tells}
use Rattle.atspi_trace_laws.proofs.OfOrder.Effects.{received}
use Rattle.atspi_trace_laws.proofs.OfOrder.Exits.{Exited}
use Rattle.atspi_trace_laws.proofs.OfOrder.Lives.{Started, here_lives, starts_keep}
use Rattle.atspi_trace_laws.proofs.OfHeard.Quiet.{heard_all}
use Rattle.atspi_trace_laws.proofs.OfOwn.Writing.{Lives}
use Rattle.atspi_trace_laws.proofs.OfEnds.LawEnds.{Under_ends, Ends_told, ends_keep}
use Rattle.atspi_headline_laws.proofs.Ran.{Ran, nothing_yet, did, began, caused, rested, asked, moves_for, line_moves}
use Rattle.atspi_headline_laws.proofs.Making.{AllMoves, entries_more, moves_are, line_moves_are}
use Rattle.atspi_headline_laws.proofs.Keeping.{kept_along, shape_along}
use Rattle.atspi_headline_laws.proofs.Reading.{same_who}
use Rattle.atspi_headline_laws.proofs.Dues.{along_more, along_map, along_of}
use Rattle.atspi_headline_laws.proofs.Acting.{line_did, TurnDid, turn_did, bare_quiet, told_busy, told_quiet, bus_took, bus_ended, registry_took, app_took, reader_took}
use Rattle.atspi_headline_laws.proofs.Sorting.{AppSorts, BusSorts, LineSorts, sent_all, app_all, of_bus_all, line_all}
use Rattle.atspi_headline_laws.proofs.Growing.{Front, front_of, front_moved, lived_before}

-- THE BUS TAKES a message of one that is here
abbrev TakesLive : List Act → Act → List Act → Type 0
TakesLive before (writes (got The_bus who serial)) behind = is_live (entries_in before) who ≡ true
TakesLive before act behind = Unit {0}

abbrev NoBusGot : Act → Type 0
NoBusGot (writes (got The_bus who serial)) = ⊥
NoBusGot act = Unit {0}

live_of : (before : List Act) (act : Act) (behind : List Act) → NoBusGot act → TakesLive before act behind
live_of before (writes (got The_bus who serial)) behind n = absurd n
live_of before (writes (got Registry who serial)) behind n = tt
live_of before (writes (got (App a) who serial)) behind n = tt
live_of before (writes (got (Reader r) who serial)) behind n = tt
live_of before (writes (started who name)) behind n = tt
live_of before (writes (changed app step)) behind n = tt
live_of before (writes (sent who e)) behind n = tt
live_of before (writes (heard a listener pattern)) behind n = tt
live_of before (writes (unheard a listener pattern)) behind n = tt
live_of before (writes (spoke r a text)) behind n = tt
live_of before (writes (showed r a rows)) behind n = tt
live_of before (writes (exited who)) behind n = tt
live_of before (writes (gone r a)) behind n = tt
live_of before (writes (dropped who queued len)) behind n = tt
live_of before (writes (busy turns)) behind n = tt
live_of before (writes quiet) behind n = tt
live_of before (begins_line line) behind n = tt
live_of before (moves_bytes who up count) behind n = tt
live_of before (takes_end who) behind n = tt

live_behind : (ys before : List Act) (act : Act) (behind : List Act) → TakesLive before act behind → TakesLive before act (behind ++ ys)
live_behind ys before (writes (got The_bus who serial)) behind t = t
live_behind ys before (writes (got Registry who serial)) behind t = tt
live_behind ys before (writes (got (App a) who serial)) behind t = tt
live_behind ys before (writes (got (Reader r) who serial)) behind t = tt
live_behind ys before (writes (started who name)) behind t = tt
live_behind ys before (writes (changed app step)) behind t = tt
live_behind ys before (writes (sent who e)) behind t = tt
live_behind ys before (writes (heard a listener pattern)) behind t = tt
live_behind ys before (writes (unheard a listener pattern)) behind t = tt
live_behind ys before (writes (spoke r a text)) behind t = tt
live_behind ys before (writes (showed r a rows)) behind t = tt
live_behind ys before (writes (exited who)) behind t = tt
live_behind ys before (writes (gone r a)) behind t = tt
live_behind ys before (writes (dropped who queued len)) behind t = tt
live_behind ys before (writes (busy turns)) behind t = tt
live_behind ys before (writes quiet) behind t = tt
live_behind ys before (begins_line line) behind t = tt
live_behind ys before (moves_bytes who up count) behind t = tt
live_behind ys before (takes_end who) behind t = tt

live_more : (run acts : List Act) → Along TakesLive [] run → Along TakesLive run acts → Along TakesLive [] (run ++ acts)
live_more run acts old new = along_more TakesLive [] run acts (along_map TakesLive (λ before act behind. TakesLive before act (behind ++ acts)) [] run (live_behind acts) old) new

none_got : (before acts : List Act) → AllByRecursion NoBusGot acts → Along TakesLive before acts
none_got before acts a = along_of NoBusGot TakesLive before acts (λ early act behind n rest. live_of early act behind n) a

moves_no : (acts : List Act) → AllMoves acts → AllByRecursion NoBusGot acts
moves_no [] m = tt
moves_no (moves_bytes who up count ∷ acts) m = (tt, moves_no acts m)
moves_no (takes_end who ∷ acts) m = (tt, moves_no acts m)
moves_no (begins_line line ∷ acts) m = absurd m
moves_no (writes entry ∷ acts) m = absurd m

abbrev No : Entry → Type 0
No entry = NoBusGot (writes entry)

writes_no : (es : List Entry) → AllByRecursion No es → AllByRecursion NoBusGot (map writes es)
writes_no [] a = tt
writes_no (e ∷ es) a = (a.0, writes_no es a.1)

apps_no : AppSorts No
apps_no = record { steps_ = λ app step. tt; sends_ = λ app e. tt; hears_ = λ app listener pattern. tt; deaf_ = λ app listener pattern. tt }

bus_no : BusSorts No
bus_no = record { says_ = λ e. tt; drops_ = λ who queued len. tt }

lines_no : LineSorts No
lines_no = record { app = apps_no; starts_ = λ who name. tt; calls_ = λ who e. tt; exits_ = λ who. tt; shows_ = λ reader app rows. tt }

turn_live : (front : List Act) (w : World) (c : Cause) (d : Done) → Front front w None → TurnDid w c d → Along TakesLive front (map writes d.entries)
turn_live front w _ _ f (told_busy turns) = (tt, tt)
turn_live front w _ _ f (told_quiet none) = (tt, tt)
turn_live front w _ _ f (bus_took d b) =
    let c = carrying.takes (record { bus = w.bus; ends = w.ends }) b.conn b.e.who b.said in
    let k = f.kept (Shaped (And (And (And Nothing Tells) Exited) Started)) starts_keep in
    subst (λ (x : Done). Along TakesLive front (map writes x.entries)) (sym b.is) (
      here_lives (entries_in front) w b.e.who k.0 k.1.0.1.1 k.1.1 (record { conn = b.conn; e = b.e; there = b.is_here.there; whose = refl; standing = b.is_here.standing }),
      none_got (front ++ writes (got The_bus b.e.who b.said.message.serial) ∷ []) (map writes (carrying.bus_entries c.ends c.bus.own c.bus.closings))
          (writes_no (carrying.bus_entries c.ends c.bus.own c.bus.closings) (of_bus_all No bus_no c.ends c.bus.own c.bus.closings)),
    )
turn_live front w _ _ f (bus_ended d b) =
    let c = carrying.takes_end (record { bus = w.bus; ends = w.ends }) b.conn in
    none_got front (map writes d.entries) (writes_no d.entries (subst (λ (x : Done). AllByRecursion No x.entries) (sym b.is) (of_bus_all No bus_no c.ends c.bus.own c.bus.closings)))
turn_live front w _ _ f (registry_took d b) =
    none_got front (map writes d.entries) (writes_no d.entries (subst (λ (x : Done). AllByRecursion No x.entries) (sym b.is) (
      subst (λ p. No (got p b.letter.from b.letter.said.message.serial)) (sym b.whose) tt,
      sent_all No b.e.who (λ e. tt) (registry_takes b.before b.letter.said.message).sent,
    )))
turn_live front w _ _ f (app_took d b) =
    none_got front (map writes d.entries) (writes_no d.entries (subst (λ (x : Done). AllByRecursion No x.entries) (sym b.is) (
      subst (λ p. No (got p b.letter.from b.letter.said.message.serial)) (sym b.whose) tt,
      app_all No apps_no _ (app_takes b.before b.letter.said.message).out,
    )))
turn_live front w _ _ f (reader_took d b) =
    none_got front (map writes d.entries) (writes_no d.entries (subst (λ (x : Done). AllByRecursion No x.entries) (sym b.is) (
      subst (λ p. No (got p b.letter.from b.letter.said.message.serial)) (sym b.whose) tt,
      heard_all No (λ r app line. tt) (λ r app. tt) (number_of b.e.who) b.hearer (received w b.conn b.e b.letter).ends b.letter,
    )))

live_along : (run : List Act) (w : World) (free : Option ℕ) (at : Option Work) → Ran run w free at → Lives (entries_in run) → Along TakesLive [] run
live_along _ _ _ _ nothing_yet live = tt
live_along _ _ _ _ (did run w line c r ok can is a) live =
    live_more run (begins_line line ∷ map writes (does w c).entries) (live_along run w None None r (lived_before run (begins_line line ∷ map writes (does w c).entries) live))
    (none_got run (begins_line line ∷ map writes (does w c).entries)
    (tt, writes_no (does w c).entries (line_all No lines_no w line (does w c) (line_did w line c (shape_along run w None None r) ok can a is))))
live_along _ _ _ _ (began run w line r ok can b) live =
    live_more run (begins_line line ∷ line_moves w (work_of w line)) (live_along run w None None r (lived_before run (begins_line line ∷ line_moves w (work_of w line)) live))
    (none_got run (begins_line line ∷ line_moves w (work_of w line)) (tt, moves_no (line_moves w (work_of w line)) (line_moves_are w (work_of w line))))
live_along _ _ _ _ (caused run w free work left c r is b a) live =
    let before : Lives (entries_in run) = lived_before run (moves_for w work c ++ map writes (does w c).entries) live in
    let front : List Act = run ++ moves_for w work c in
    let f : Front front w None = front_moved run (moves_for w work c) w free (moves_are w work c) (front_of run w free (Some work) r before) in
    subst (Along TakesLive []) (append_assoc run (moves_for w work c) (map writes (does w c).entries))
    (live_more front (map writes (does w c).entries)
    (live_more run (moves_for w work c) (live_along run w free (Some work) r before) (none_got run (moves_for w work c) (moves_no (moves_for w work c) (moves_are w work c))))
    (turn_live front w c (does w c) f (turn_did w c (shape_along run w free (Some work) r) (bare_quiet w work left c b is) a)))
live_along _ _ _ _ (rested run w v free work r is m well) live = live_along run w free (Some work) r live
live_along _ _ _ _ (asked run w conn q m question work r a) live =
    live_more run (writes (sent (Reader q) m) ∷ []) (live_along run w (Some conn) work r (lived_before run (writes (sent (Reader q) m) ∷ []) live)) (tt, tt)

-- NOTHING OF ONE THAT EXITED
any_more : (p : Entry → Bool) (xs ys : List Entry) → list_any p xs ≡ true → list_any p (xs ++ ys) ≡ true
any_more p [] ys h = absurd (false_true h)
any_more p (x ∷ xs) ys h = by (p x) h (λ g. any_more p xs ys g)
  where
    by : (b : Bool) → (b || list_any p xs) ≡ true → (list_any p xs ≡ true → list_any p (xs ++ ys) ≡ true) → (b || list_any p (xs ++ ys)) ≡ true
    by true g f = refl
    by false g f = f g

any_last : (p : Entry → Bool) (xs : List Entry) (x : Entry) → p x ≡ true → list_any p (xs ++ x ∷ []) ≡ true
any_last p [] x h = ap (λ b. b || false) h
any_last p (y ∷ ys) x h = by (p y) (any_last p ys x h)
  where
    by : (b : Bool) → list_any p (ys ++ x ∷ []) ≡ true → (b || list_any p (ys ++ x ∷ [])) ≡ true
    by true g = refl
    by false g = g

dead : (es : List Entry) (who : Party) → list_any (stops_it who) es ≡ true → is_live es who ≡ true → ⊥
dead es who h live = by (same_party who Registry || list_any (starts_it who) es) (sym (ap (λ b. (same_party who Registry || list_any (starts_it who) es) && not b) h) ∙ live)
  where
    by : (b : Bool) → (b && false) ≡ true → ⊥
    by true g = false_true g
    by false g = false_true g

other_than : (es : List Entry) (p who : Party) → list_any (stops_it who) es ≡ true → is_live es p ≡ true → is_same p who ≡ false
other_than es p who h live = by (same_party p who) refl ∙ refl
  where
    by : (b : Bool) → same_party p who ≡ b → is_same p who ≡ false
    by false g = same_who p who ∙ g
    by true g = absurd (dead es who h (subst (λ q. is_live es q ≡ true) (same-party p who g) live))

not_by : (who : Party) (before : List Act) (entry : Entry) (behind : List Act) → list_any (stops_it who) (entries_in before) ≡ true → TakesLive before (writes entry) behind → IsNotOf who entry → is_by who entry ≡ false
not_by who before (got The_bus p serial) behind h live n = other_than (entries_in before) p who h live
not_by who before (got Registry p serial) behind h live n = same_who Registry who ∙ n
not_by who before (got (App a) p serial) behind h live n = same_who (App a) who ∙ n
not_by who before (got (Reader r) p serial) behind h live n = same_who (Reader r) who ∙ n
not_by who before (changed app step) behind h live n = same_who (App app) who ∙ n
not_by who before (sent p e) behind h live n = same_who p who ∙ n
not_by who before (started p name) behind h live n = refl
not_by who before (heard a listener pattern) behind h live n = refl
not_by who before (unheard a listener pattern) behind h live n = refl
not_by who before (spoke r a text) behind h live n = refl
not_by who before (showed r a rows) behind h live n = refl
not_by who before (exited p) behind h live n = refl
not_by who before (gone r a) behind h live n = refl
not_by who before (dropped p queued len) behind h live n = refl
not_by who before (busy turns) behind h live n = refl
not_by who before quiet behind h live n = refl

over_rest : (who : Party) (before acts : List Act) → list_any (stops_it who) (entries_in before) ≡ true → Along TakesLive before acts → AllByRecursion (IsNotOf who) (entries_in acts)
    → list_any (is_by who) (entries_in acts) ≡ false
over_rest who before [] h a n = refl
over_rest who before (writes entry ∷ acts) h a n =
    ap₂ (λ x y. x || y) (not_by who before entry acts h a.0 n.0)
    (over_rest who (before ++ writes entry ∷ []) acts (ap (list_any (stops_it who)) (entries_more before (writes entry ∷ [])) ∙ any_more (stops_it who) (entries_in before) (entry ∷ []) h) a.1 n.1)
over_rest who before (begins_line line ∷ acts) h a n = over_rest who (before ++ begins_line line ∷ []) acts (ap (list_any (stops_it who)) (entries_more before (begins_line line ∷ [])) ∙ any_more (stops_it who) (entries_in before) [] h) a.1 n
over_rest who before (moves_bytes p up count ∷ acts) h a n =
    over_rest who (before ++ moves_bytes p up count ∷ []) acts (ap (list_any (stops_it who)) (entries_more before (moves_bytes p up count ∷ [])) ∙ any_more (stops_it who) (entries_in before) [] h) a.1 n
over_rest who before (takes_end p ∷ acts) h a n = over_rest who (before ++ takes_end p ∷ []) acts (ap (list_any (stops_it who)) (entries_more before (takes_end p ∷ [])) ∙ any_more (stops_it who) (entries_in before) [] h) a.1 n

-- NOTHING OF AN APPLICATION whose end was told
got_of : (r a : ℕ) (early : List Entry) (entry : Entry) (behind : List Entry) → (AllByRecursion (IsNotEndOf r a) early → ⊥) → ComesBeforeEnd early entry behind → is_got_of r a entry ≡ false
got_of r a early (got (Reader q) (App b) serial) behind told c = by (q == r) refl (b == a) refl
  where
    by : (s : Bool) → (q == r) ≡ s → (t : Bool) → (b == a) ≡ t → (s && t) ≡ false
    by true g true h = absurd (told (subst (λ z. AllByRecursion (IsNotEndOf r z) early) (eqb-true b a h) (subst (λ z. AllByRecursion (IsNotEndOf z b) early) (eqb-true q r g) c)))
    by true g false h = refl
    by false g t h = refl
got_of r a early (got (Reader q) The_bus serial) behind told c = refl
got_of r a early (got (Reader q) Registry serial) behind told c = refl
got_of r a early (got (Reader q) (Reader s) serial) behind told c = refl
got_of r a early (got The_bus p serial) behind told c = refl
got_of r a early (got Registry p serial) behind told c = refl
got_of r a early (got (App b) p serial) behind told c = refl
got_of r a early (started p name) behind told c = refl
got_of r a early (changed app step) behind told c = refl
got_of r a early (sent p e) behind told c = refl
got_of r a early (heard b listener pattern) behind told c = refl
got_of r a early (unheard b listener pattern) behind told c = refl
got_of r a early (spoke q b text) behind told c = refl
got_of r a early (showed q b rows) behind told c = refl
got_of r a early (exited p) behind told c = refl
got_of r a early (gone q b) behind told c = refl
got_of r a early (dropped p queued len) behind told c = refl
got_of r a early (busy turns) behind told c = refl
got_of r a early quiet behind told c = refl

gone_rest : (r a : ℕ) (early es : List Entry) → (AllByRecursion (IsNotEndOf r a) early → ⊥) → Each ComesBeforeEnd early es → list_any (is_got_of r a) es ≡ false
gone_rest r a early [] told c = refl
gone_rest r a early (e ∷ es) told c =
    ap₂ (λ x y. x || y) (got_of r a early e es told c.0) (gone_rest r a (early ++ e ∷ []) es (λ all. told (front_all early (e ∷ []) all)) c.1)
  where
    front_all : (xs ys : List Entry) → AllByRecursion (IsNotEndOf r a) (xs ++ ys) → AllByRecursion (IsNotEndOf r a) xs
    front_all [] ys x = tt
    front_all (y ∷ xs) ys x = (x.0, front_all xs ys x.1)

-- ALL OF IT
nothing_at : (before acts : List Act) → Each IsOut (entries_in before) (entries_in acts) → Each ComesBeforeEnd (entries_in before) (entries_in acts) → Along TakesLive before acts → Along NothingOf before acts
nothing_at before [] out comes live = tt
nothing_at before (begins_line line ∷ acts) out comes live = (tt, nothing_at (before ++ begins_line line ∷ []) acts (same_each IsOut out) (same_each ComesBeforeEnd comes) live.1)
  where
    same_each : (Law : List Entry → Entry → List Entry → Type 0) → Each Law (entries_in before) (entries_in acts) → Each Law (entries_in (before ++ begins_line line ∷ [])) (entries_in acts)
    same_each Law e = subst (λ l. Each Law l (entries_in acts)) (sym (entries_more before (begins_line line ∷ []) ∙ append-nil (entries_in before))) e
nothing_at before (moves_bytes p up count ∷ acts) out comes live = (tt, nothing_at (before ++ moves_bytes p up count ∷ []) acts (same_each IsOut out) (same_each ComesBeforeEnd comes) live.1)
  where
    same_each : (Law : List Entry → Entry → List Entry → Type 0) → Each Law (entries_in before) (entries_in acts) → Each Law (entries_in (before ++ moves_bytes p up count ∷ [])) (entries_in acts)
    same_each Law e = subst (λ l. Each Law l (entries_in acts)) (sym (entries_more before (moves_bytes p up count ∷ []) ∙ append-nil (entries_in before))) e
nothing_at before (takes_end p ∷ acts) out comes live = (tt, nothing_at (before ++ takes_end p ∷ []) acts (same_each IsOut out) (same_each ComesBeforeEnd comes) live.1)
  where
    same_each : (Law : List Entry → Entry → List Entry → Type 0) → Each Law (entries_in before) (entries_in acts) → Each Law (entries_in (before ++ takes_end p ∷ [])) (entries_in acts)
    same_each Law e = subst (λ l. Each Law l (entries_in acts)) (sym (entries_more before (takes_end p ∷ []) ∙ append-nil (entries_in before))) e
nothing_at before (writes entry ∷ acts) out comes live =
    (of entry out.0 comes.1 live.1, nothing_at (before ++ writes entry ∷ []) acts (same_each IsOut out.1) (same_each ComesBeforeEnd comes.1) live.1)
  where
    same_each : (Law : List Entry → Entry → List Entry → Type 0) → Each Law (entries_in before ++ entry ∷ []) (entries_in acts) → Each Law (entries_in (before ++ writes entry ∷ [])) (entries_in acts)
    same_each Law e = subst (λ l. Each Law l (entries_in acts)) (sym (entries_more before (writes entry ∷ []))) e

    of : (x : Entry) → IsOut (entries_in before) x (entries_in acts) → Each ComesBeforeEnd (entries_in before ++ x ∷ []) (entries_in acts) → Along TakesLive (before ++ writes x ∷ []) acts → NothingOf before (writes x) acts
    of (exited who) n c l =
        over_rest who (before ++ writes (exited who) ∷ []) acts
        (ap (list_any (stops_it who)) (entries_more before (writes (exited who) ∷ [])) ∙ any_last (stops_it who) (entries_in before) (exited who) (party-same who)) l n
    of (gone r a) n c l = gone_rest r a (entries_in before ++ gone r a ∷ []) (entries_in acts) (λ all. (all_back (IsNotEndOf r a) (entries_in before) (gone r a ∷ []) all).0 refl refl) c
    of (started p name) n c l = tt
    of (changed app step) n c l = tt
    of (sent p e) n c l = tt
    of (got taker sender serial) n c l = tt
    of (heard b listener pattern) n c l = tt
    of (unheard b listener pattern) n c l = tt
    of (spoke q b text) n c l = tt
    of (showed q b rows) n c l = tt
    of (dropped p queued len) n c l = tt
    of (busy turns) n c l = tt
    of quiet n c l = tt

pub nothing_is_of : (run : List Act) (w : World) (free : Option ℕ) (at : Option Work) → Ran run w free at → Lives (entries_in run) → Along NothingOf [] run
nothing_is_of run w free at r live =
    nothing_at [] run (kept_along (Shaped (And (And (And Nothing Tells) Exited) Started)) starts_keep run w free at r).1.0.1.0
    (kept_along (Shaped (And Under_ends Ends_told)) ends_keep run w free at r).1.1.law (live_along run w free at r live)

-- NOTHING OF ONE THAT WAS DROPPED, and the registry never is where it lives behind all
no_drop : (early : List Entry) (queued len : ℕ) (later : List Entry) → Lives (early ++ dropped Registry queued len ∷ later) → ⊥
no_drop early queued len later live =
    dead (early ++ dropped Registry queued len ∷ later) Registry (any_here early) live
  where
    any_here : (xs : List Entry) → list_any (stops_it Registry) (xs ++ dropped Registry queued len ∷ later) ≡ true
    any_here [] = refl
    any_here (x ∷ xs) = by (stops_it Registry x) (any_here xs)
      where
        by : (b : Bool) → list_any (stops_it Registry) (xs ++ dropped Registry queued len ∷ later) ≡ true → (b || list_any (stops_it Registry) (xs ++ dropped Registry queued len ∷ later)) ≡ true
        by true h = refl
        by false h = h

over_drop : (before : List Act) (x : Entry) (who : Party) (acts : List Act) → stops_it who x ≡ true → AllByRecursion (IsNotOf who) (entries_in acts) → Along TakesLive (before ++ writes x ∷ []) acts
    → list_any (is_by who) (entries_in acts) ≡ false
over_drop before x who acts stops n l =
    over_rest who (before ++ writes x ∷ []) acts (ap (list_any (stops_it who)) (entries_more before (writes x ∷ [])) ∙ any_last (stops_it who) (entries_in before) x stops) l n

drop_at : (before : List Act) (x : Entry) (acts : List Act) → Lives (entries_in before ++ x ∷ entries_in acts) → IsOver (entries_in before) x (entries_in acts) → Along TakesLive (before ++ writes x ∷ []) acts
    → NothingBehind before (writes x) acts
drop_at before (dropped Registry queued len) acts live o l = absurd (no_drop (entries_in before) queued len (entries_in acts) live)
drop_at before (dropped The_bus queued len) acts live o l = over_drop before (dropped The_bus queued len) The_bus acts refl o l
drop_at before (dropped (App a) queued len) acts live o l = over_drop before (dropped (App a) queued len) (App a) acts (party-same (App a)) o l
drop_at before (dropped (Reader r) queued len) acts live o l = over_drop before (dropped (Reader r) queued len) (Reader r) acts (party-same (Reader r)) o l
drop_at before (started p name) acts live o l = tt
drop_at before (changed app step) acts live o l = tt
drop_at before (sent p e) acts live o l = tt
drop_at before (got taker sender serial) acts live o l = tt
drop_at before (heard b listener pattern) acts live o l = tt
drop_at before (unheard b listener pattern) acts live o l = tt
drop_at before (spoke q b text) acts live o l = tt
drop_at before (showed q b rows) acts live o l = tt
drop_at before (exited p) acts live o l = tt
drop_at before (gone q b) acts live o l = tt
drop_at before (busy turns) acts live o l = tt
drop_at before quiet acts live o l = tt

drops_at : (before acts : List Act) → Lives (entries_in before ++ entries_in acts) → Each IsOver (entries_in before) (entries_in acts) → Along TakesLive before acts → Along NothingBehind before acts
drops_at before [] live out l = tt
drops_at before (begins_line line ∷ acts) live out l = (tt, drops_at (before ++ begins_line line ∷ []) acts (subst (λ k. Lives (k ++ entries_in acts)) (same (begins_line line) refl) live) (subst (λ k. Each IsOver k (entries_in acts)) (same (begins_line line) refl) out) l.1)
  where
    same : (act : Act) → entries_in (act ∷ []) ≡ [] → entries_in before ≡ entries_in (before ++ act ∷ [])
    same act none = sym (entries_more before (act ∷ []) ∙ ap (λ k. entries_in before ++ k) none ∙ append-nil (entries_in before))
drops_at before (moves_bytes p up count ∷ acts) live out l =
    (tt, drops_at (before ++ moves_bytes p up count ∷ []) acts (subst (λ k. Lives (k ++ entries_in acts)) (same (moves_bytes p up count) refl) live) (subst (λ k. Each IsOver k (entries_in acts)) (same (moves_bytes p up count) refl) out) l.1)
  where
    same : (act : Act) → entries_in (act ∷ []) ≡ [] → entries_in before ≡ entries_in (before ++ act ∷ [])
    same act none = sym (entries_more before (act ∷ []) ∙ ap (λ k. entries_in before ++ k) none ∙ append-nil (entries_in before))
drops_at before (takes_end p ∷ acts) live out l = (tt, drops_at (before ++ takes_end p ∷ []) acts (subst (λ k. Lives (k ++ entries_in acts)) (same (takes_end p) refl) live) (subst (λ k. Each IsOver k (entries_in acts)) (same (takes_end p) refl) out) l.1)
  where
    same : (act : Act) → entries_in (act ∷ []) ≡ [] → entries_in before ≡ entries_in (before ++ act ∷ [])
    same act none = sym (entries_more before (act ∷ []) ∙ ap (λ k. entries_in before ++ k) none ∙ append-nil (entries_in before))
drops_at before (writes x ∷ acts) live out l = (
  drop_at before x acts live out.0 l.1,
  drops_at (before ++ writes x ∷ []) acts
      (subst (λ k. Lives (k ++ entries_in acts)) (sym (entries_more before (writes x ∷ []))) (subst Lives (sym (append_assoc (entries_in before) (x ∷ []) (entries_in acts))) live))
      (subst (λ k. Each IsOver k (entries_in acts)) (sym (entries_more before (writes x ∷ []))) out.1) l.1,
)

-- a law of all places, place by place
each_of_all : (Law : List Entry → Entry → List Entry → Type 0) (early es : List Entry) → ((before : List Entry) (entry : Entry) (behind : List Entry) → early ++ es ≡ before ++ entry ∷ behind → Law before entry behind)
    → Each Law early es
each_of_all Law early [] f = tt
each_of_all Law early (e ∷ es) f = (f early e es refl, each_of_all Law (early ++ e ∷ []) es (λ before entry behind h. f before entry behind (sym (append_assoc early (e ∷ []) es) ∙ h)))

pub nothing_behind_drops : (run : List Act) (w : World) (free : Option ℕ) (at : Option Work) → Ran run w free at → Lives (entries_in run) → LawOfDroppedEnds (entries_in run) → Along NothingBehind [] run
nothing_behind_drops run w free at r live law = drops_at [] run live (each_of_all IsOver [] (entries_in run) law) (live_along run w free at r live)
