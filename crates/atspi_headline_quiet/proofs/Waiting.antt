-- WHAT WAITS by the words of the run is what waits in the world: the next turn is the same, and so are the bytes that a line moves.
use Rattle.std.proofs.Common.{◌≡◌, ℕ, zero, suc, ◌+◌, ◌-◌, ◌<◌, Bool, true, false, List, [], ◌∷◌, ◌++◌, map, Option, None, Some, refl, sym, ap, ap₂, ◌∙◌, subst, arith, is_some}
use Rattle.std.specs.Prelude.{◌||◌, ◌&&◌, not, nat_le, if◌then◌else◌}
use Rattle.std.specs.List.{list_any}
use Rattle.std.proofs.lemmas.Bool.{le-leb, leb-true}
use Rattle.atspi_script_lines.specs.declared.line.Party.{Party}
use Rattle.atspi_message.specs.Envelope.{Envelope}
use Rattle.atspi_tree_model.specs.Forest.{first_of}
use Rattle.atspi_trace.specs.World.{Standing, here, stopped, away, Said, Letter, End, World}
use Rattle.atspi_trace.specs.Ends.{whose, party_at, end_at}
use Rattle.atspi_trace.specs.Causes as causes
use Rattle.atspi_trace.specs.Causes.{Cause, missing}
use Rattle.atspi_trace.specs.Work as works
use Rattle.atspi_trace.specs.Work.{first_up, first_down}
use Rattle.atspi_headline.specs.Words.{Act, moves_bytes, takes_end, is_same, ends, is_live, is_stopped}
use Rattle.atspi_headline.specs.Links as links
use Rattle.atspi_headline.specs.Links.{size, sizes, link, moved, whole_in, missing_in, waiting, turn_of, up_turn, down_turn, first_turn, next_turn}
use Rattle.atspi_trace_laws.proofs.OfOrder.Parties.{no_none, same_some, false_true}
use Rattle.atspi_headline_laws.proofs.Ran.{said_bytes, letter_bytes, first_missing, up_missing, next_missing, down_missing, turn_move}
use Rattle.atspi_headline_laws.proofs.Joining.{parties, EndsAre}
use Rattle.atspi_headline_quiet.proofs.Marking.{UpMark, DownMark, HasMarks, AllMarked}
use Rattle.atspi_headline_quiet.proofs.Standing.{exits_of, outs_of, standing_by, standing_in, Stands, self_same}

-- A LINK: what was taken of it, and what is on it, with the mark
abbrev pub ups : End → List (Party × Envelope)
ups e = map (λ (s : Said). (e.who, s.message)) e.up

abbrev pub downs : End → List (Party × Envelope)
downs e = map (λ (l : Letter). (l.from, l.said.message)) e.down

pub record LinkIs (run : List Act) (who : Party) (up : Bool) (left : List (Party × Envelope)) (mark : ℕ) : Type 0 where
  pub taken : List (Party × Envelope)
  pub whole : link run who up ≡ taken ++ left
  pub count : moved run who up ≡ sizes taken + mark

pub record LinksAre (run : List Act) (w : World) : Type 0 where
  pub up : (k : ℕ) (e : End) → end_at w.ends k ≡ Some e → e.standing ≡ here → LinkIs run e.who true (ups e) e.up_moved
  pub down : (k : ℕ) (e : End) → end_at w.ends k ≡ Some e → e.standing ≡ here → LinkIs run e.who false (downs e) e.down_moved

-- all that is known of an end
pub record Known (run : List Act) (e : End) : Type 0 where
  pub among : list_any (is_same e.who) (ends run) ≡ true
  pub stands : e.standing ≡ standing_in run e.who
  pub marks : HasMarks e
  pub up : e.standing ≡ here → LinkIs run e.who true (ups e) e.up_moved
  pub down : e.standing ≡ here → LinkIs run e.who false (downs e) e.down_moved

abbrev pub KnownAll : List Act → World → Type 0
KnownAll run w = (k : ℕ) (e : End) → end_at w.ends k ≡ Some e → Known run e

among_ends : (es : List End) (k : ℕ) (e : End) → end_at es k ≡ Some e → list_any (is_same e.who) (parties es) ≡ true
among_ends [] zero e h = absurd (no_none e h)
among_ends [] (suc k) e h = absurd (no_none e h)
among_ends (x ∷ xs) zero e h = ap (λ b. b || list_any (is_same e.who) (parties xs)) (ap (λ (y : End). is_same e.who y.who) (same_some x e h) ∙ self_same e.who)
among_ends (x ∷ xs) (suc k) e h = or_true (is_same e.who x.who) (list_any (is_same e.who) (parties xs)) (among_ends xs k e h)
  where
    or_true : (a b : Bool) → b ≡ true → (a || b) ≡ true
    or_true true b g = refl
    or_true false b g = g

pub known_all : (run : List Act) (w : World) → EndsAre run w → Stands run w → AllMarked w → LinksAre run w → KnownAll run w
known_all run w i s m l k e h = record {
  among = ap (list_any (is_same e.who)) (sym i) ∙ among_ends w.ends k e h;
  stands = s.known k e h;
  marks = m k e h;
  up = λ on. l.up k e h on;
  down = λ on. l.down k e h on;
}

-- STANDINGS
pub live_when : (run : List Act) (e : End) → Known run e → e.standing ≡ here → is_live run e.who ≡ true
live_when run e k on = by (outs_of run e.who) (exits_of run e.who) refl refl (sym on ∙ k.stands)
  where
    by : (o x : Bool) → outs_of run e.who ≡ o → exits_of run e.who ≡ x → here ≡ standing_by (outs_of run e.who) (exits_of run e.who) → is_live run e.who ≡ true
    by false false g h s = ap₂ (λ a b. a && not b) k.among (ap₂ (λ a b. a || b) h g)
    by true x g h s = absurd (here_away (s ∙ ap (λ o. standing_by o (exits_of run e.who)) g))
      where
        here_away : here ≡ away → ⊥
        here_away t = cc
    by false true g h s = absurd (here_stopped (s ∙ ap₂ standing_by g h))
      where
        here_stopped : here ≡ stopped → ⊥
        here_stopped t = cc

abbrev pub live_as : Standing → Bool
live_as here = true
live_as st = false

abbrev pub stopped_as : Standing → Bool
stopped_as stopped = true
stopped_as st = false

pub live_so : (run : List Act) (e : End) → Known run e → is_live run e.who ≡ live_as e.standing
live_so run e k =
    ap (λ a. a && not (exits_of run e.who || outs_of run e.who)) k.among ∙ by (outs_of run e.who) (exits_of run e.who) ∙ ap live_as (sym k.stands)
  where
    by : (o x : Bool) → not (x || o) ≡ live_as (standing_by o x)
    by true true = refl
    by true false = refl
    by false true = refl
    by false false = refl

pub stopped_so : (run : List Act) (e : End) → Known run e → is_stopped run e.who ≡ stopped_as e.standing
stopped_so run e k = by (outs_of run e.who) (exits_of run e.who) ∙ ap stopped_as (sym k.stands)
  where
    by : (o x : Bool) → (x && not o) ≡ stopped_as (standing_by o x)
    by true true = refl
    by true false = refl
    by false true = refl
    by false false = refl

-- BYTES: of a link of which so much was taken
sizes_more : (xs ys : List (Party × Envelope)) → sizes (xs ++ ys) ≡ sizes xs + sizes ys
sizes_more [] ys = omega arith
sizes_more (m ∷ xs) ys = let ih : sizes (xs ++ ys) ≡ sizes xs + sizes ys = sizes_more xs ys in omega (arith, ih)

nothing_more : (n : ℕ) → 0 + n ≡ n
nothing_more n = omega arith

missing_behind : (taken left : List (Party × Envelope)) (mark : ℕ) → missing_in (sizes taken + mark) (taken ++ left) ≡ missing_in mark left
missing_behind [] left mark = ap (λ n. missing_in n left) (nothing_more mark)
missing_behind (m ∷ taken) left mark =
    ap (λ b. if b then missing_in ((size m.1 + sizes taken + mark) - size m.1) (taken ++ left) else size m.1 - (size m.1 + sizes taken + mark)) enough
    ∙ ap (λ n. missing_in n (taken ++ left)) rest ∙ missing_behind taken left mark
  where
    enough : nat_le (size m.1) (size m.1 + sizes taken + mark) ≡ true
    enough = le-leb (size m.1) (size m.1 + sizes taken + mark) (omega arith)

    rest : (size m.1 + sizes taken + mark) - size m.1 ≡ sizes taken + mark
    rest = omega arith

missing_first : (m : Party × Envelope) (left : List (Party × Envelope)) (mark : ℕ) → mark < size m.1 → missing_in mark (m ∷ left) ≡ size m.1 - mark
missing_first m left mark h = by (nat_le (size m.1) mark) refl
  where
    by : (b : Bool) → nat_le (size m.1) mark ≡ b → (if b then missing_in (mark - size m.1) left else size m.1 - mark) ≡ size m.1 - mark
    by false g = refl
    by true g = let low = leb-true (size m.1) mark g in absurd (omega (arith, low, h))

link_missing : (run : List Act) (who : Party) (up : Bool) (left : List (Party × Envelope)) (mark : ℕ) → LinkIs run who up left mark → missing_in (moved run who up) (link run who up) ≡ missing_in mark left
link_missing run who up left mark l = ap₂ missing_in l.count l.whole ∙ missing_behind l.taken left mark

pub link_waits : (run : List Act) (who : Party) (up : Bool) (left : List (Party × Envelope)) (mark : ℕ) → LinkIs run who up left mark → sizes (link run who up) - moved run who up ≡ sizes left - mark
link_waits run who up left mark l =
    let all : sizes (link run who up) ≡ sizes l.taken + sizes left = ap sizes l.whole ∙ sizes_more l.taken left in
    let gone : moved run who up ≡ sizes l.taken + mark = l.count in
    ap₂ (λ a b. a - b) all gone ∙ less (sizes l.taken) (sizes left) mark
  where
    less : (t s k : ℕ) → (t + s) - (t + k) ≡ s - k
    less t s k = omega arith

pub ups_sized : (who : Party) (l : List Said) → sizes (map (λ (s : Said). (who, s.message)) l) ≡ said_bytes l
ups_sized who [] = refl
ups_sized who (s ∷ l) = let ih : sizes (map (λ (x : Said). (who, x.message)) l) ≡ said_bytes l = ups_sized who l in omega (arith, ih)

pub downs_sized : (l : List Letter) → sizes (map (λ (x : Letter). (x.from, x.said.message)) l) ≡ letter_bytes l
downs_sized [] = refl
downs_sized (x ∷ l) = let ih : sizes (map (λ (y : Letter). (y.from, y.said.message)) l) ≡ letter_bytes l = downs_sized l in omega (arith, ih)

-- THE NEXT TURN
abbrev pub move_of : World → Option Cause → Option Act
move_of w None = None
move_of w (Some c) = first_act (turn_move w c)
  where
    first_act : List Act → Option Act
    first_act [] = None
    first_act (act ∷ acts) = Some act

some_turn : (who : Party) (up : Bool) (n : ℕ) → 0 < n → turn_of who up n ≡ Some (moves_bytes who up n)
some_turn who up zero h = absurd (omega (arith, h))
some_turn who up (suc n) h = refl

up_turn_is : (run : List Act) (w : World) (k : ℕ) (e : End) → end_at w.ends k ≡ Some e → Known run e → up_turn run e.who ≡ move_of w (works.up_turn k e.standing e.up)
up_turn_is run w k e h i = by e.standing e.up refl refl
  where
    start : (b : Bool) → is_stopped run e.who ≡ b → up_turn run e.who ≡ (if b then Some (takes_end e.who) else turn_of e.who true (links.missing run e.who true))
    start b g = ap (λ t. if t then Some (takes_end e.who) else turn_of e.who true (links.missing run e.who true)) g

    mine : party_at w.ends k ≡ e.who
    mine = ap whose h

    dead : is_live run e.who ≡ false → turn_of e.who true (links.missing run e.who true) ≡ None
    dead g = ap (λ b. turn_of e.who true (if b then missing_in (moved run e.who true) (link run e.who true) else 0)) g

    alive : (n : ℕ) → is_live run e.who ≡ true → missing_in (moved run e.who true) (link run e.who true) ≡ n → links.missing run e.who true ≡ n
    alive n g m = ap (λ b. if b then missing_in (moved run e.who true) (link run e.who true) else 0) g ∙ m

    by : (st : Standing) (l : List Said) → e.standing ≡ st → e.up ≡ l → up_turn run e.who ≡ move_of w (works.up_turn k st l)
    by here [] s u =
        let none : missing_in (moved run e.who true) (link run e.who true) ≡ 0 = link_missing run e.who true (ups e) e.up_moved (i.up s) ∙ ap (λ l. missing_in e.up_moved (map (λ (x : Said). (e.who, x.message)) l)) u in
        start false (stopped_so run e i ∙ ap stopped_as s) ∙ ap (turn_of e.who true) (alive 0 (live_so run e i ∙ ap live_as s) none)
    by here (said ∷ rest) s u =
        let mark : e.up_moved < size said.message = subst (UpMark e.up_moved) u i.marks.up in
        let some : missing_in (moved run e.who true) (link run e.who true) ≡ size said.message - e.up_moved =
        link_missing run e.who true (ups e) e.up_moved (i.up s) ∙ ap (λ l. missing_in e.up_moved (map (λ (x : Said). (e.who, x.message)) l)) u
        ∙ missing_first (e.who, said.message) (map (λ (x : Said). (e.who, x.message)) rest) e.up_moved mark in
        let more : 0 < size said.message - e.up_moved = omega (arith, mark) in
        start false (stopped_so run e i ∙ ap stopped_as s) ∙ ap (turn_of e.who true) (alive (size said.message - e.up_moved) (live_so run e i ∙ ap live_as s) some)
        ∙ some_turn e.who true (size said.message - e.up_moved) more
        ∙ ap₂ (λ p n. Some (moves_bytes p true n)) (sym mine) (sym (ap up_missing h ∙ ap (λ l. first_missing l e.up_moved) u))
    by stopped l s u = start true (stopped_so run e i ∙ ap stopped_as s) ∙ ap (λ p. Some (takes_end p)) (sym mine)
    by away l s u = start false (stopped_so run e i ∙ ap stopped_as s) ∙ dead (live_so run e i ∙ ap live_as s)

down_turn_is : (run : List Act) (w : World) (k : ℕ) (e : End) → end_at w.ends k ≡ Some e → Known run e → down_turn run e.who ≡ move_of w (works.down_turn k e.standing e.down)
down_turn_is run w k e h i = by e.standing e.down refl refl
  where
    mine : party_at w.ends k ≡ e.who
    mine = ap whose h

    dead : is_live run e.who ≡ false → turn_of e.who false (links.missing run e.who false) ≡ None
    dead g = ap (λ b. turn_of e.who false (if b then missing_in (moved run e.who false) (link run e.who false) else 0)) g

    alive : (n : ℕ) → is_live run e.who ≡ true → missing_in (moved run e.who false) (link run e.who false) ≡ n → links.missing run e.who false ≡ n
    alive n g m = ap (λ b. if b then missing_in (moved run e.who false) (link run e.who false) else 0) g ∙ m

    by : (st : Standing) (l : List Letter) → e.standing ≡ st → e.down ≡ l → down_turn run e.who ≡ move_of w (works.down_turn k st l)
    by here [] s u =
        let none : missing_in (moved run e.who false) (link run e.who false) ≡ 0 = link_missing run e.who false (downs e) e.down_moved (i.down s) ∙ ap (λ l. missing_in e.down_moved (map (λ (x : Letter). (x.from, x.said.message)) l)) u in
        ap (turn_of e.who false) (alive 0 (live_so run e i ∙ ap live_as s) none)
    by here (letter ∷ rest) s u =
        let mark : e.down_moved < size letter.said.message = subst (DownMark e.down_moved) u i.marks.down in
        let some : missing_in (moved run e.who false) (link run e.who false) ≡ size letter.said.message - e.down_moved =
        link_missing run e.who false (downs e) e.down_moved (i.down s) ∙ ap (λ l. missing_in e.down_moved (map (λ (x : Letter). (x.from, x.said.message)) l)) u
        ∙ missing_first (letter.from, letter.said.message) (map (λ (x : Letter). (x.from, x.said.message)) rest) e.down_moved mark in
        let more : 0 < size letter.said.message - e.down_moved = omega (arith, mark) in
        ap (turn_of e.who false) (alive (size letter.said.message - e.down_moved) (live_so run e i ∙ ap live_as s) some)
        ∙ some_turn e.who false (size letter.said.message - e.down_moved) more
        ∙ ap₂ (λ p n. Some (moves_bytes p false n)) (sym mine) (sym (ap down_missing h ∙ ap (λ l. next_missing l e.down_moved) u))
    by stopped l s u = dead (live_so run e i ∙ ap live_as s)
    by away l s u = dead (live_so run e i ∙ ap live_as s)

-- each turn has a move
has_move : (w : World) (o p : Option Cause) → ((c : Cause) → o ≡ Some c → is_some (move_of w (Some c)) ≡ true) → first_of (move_of w o) (move_of w p) ≡ move_of w (first_of o p)
has_move w None p f = refl
has_move w (Some c) p f = by (move_of w (Some c)) refl (f c refl)
  where
    by : (x : Option Act) → move_of w (Some c) ≡ x → is_some (move_of w (Some c)) ≡ true → first_of (move_of w (Some c)) (move_of w p) ≡ move_of w (Some c)
    by None g h = absurd (false_true (sym (ap is_some g) ∙ h))
    by (Some act) g h = ap (λ y. first_of y (move_of w p)) g ∙ sym g

up_moves : (w : World) (k : ℕ) (st : Standing) (l : List Said) (c : Cause) → works.up_turn k st l ≡ Some c → is_some (move_of w (Some c)) ≡ true
up_moves w k here (said ∷ rest) c h = subst (λ x. is_some (move_of w (Some x)) ≡ true) (same_some (causes.routes k) c h) refl
up_moves w k here [] c h = absurd (no_none c h)
up_moves w k stopped l c h = subst (λ x. is_some (move_of w (Some x)) ≡ true) (same_some (causes.unjoins k) c h) refl
up_moves w k away l c h = absurd (no_none c h)

down_moves : (w : World) (k : ℕ) (st : Standing) (l : List Letter) (c : Cause) → works.down_turn k st l ≡ Some c → is_some (move_of w (Some c)) ≡ true
down_moves w k here (letter ∷ rest) c h = subst (λ x. is_some (move_of w (Some x)) ≡ true) (same_some (causes.gets k) c h) refl
down_moves w k here [] c h = absurd (no_none c h)
down_moves w k stopped l c h = absurd (no_none c h)
down_moves w k away l c h = absurd (no_none c h)

first_up_is : (run : List Act) (w : World) (k : ℕ) (es : List End) → ((j : ℕ) (e : End) → end_at es j ≡ Some e → (end_at w.ends (k + j) ≡ Some e) × Known run e) → first_turn (up_turn run) (parties es) ≡ move_of w (first_up k es)
first_up_is run w k [] f = refl
first_up_is run w k (e ∷ es) f =
    let x = f 0 e refl in
    let zero_more : k + 0 ≡ k = omega arith in
    ap₂ first_of (up_turn_is run w k e (ap (end_at w.ends) (sym zero_more) ∙ x.0) x.1)
    (first_up_is run w (suc k) es (λ j d h. let y = f (suc j) d h in let next : suc k + j ≡ k + suc j = omega arith in (ap (end_at w.ends) next ∙ y.0, y.1)))
    ∙ has_move w (works.up_turn k e.standing e.up) (first_up (suc k) es) (λ c h. up_moves w k e.standing e.up c h)

first_down_is : (run : List Act) (w : World) (k : ℕ) (es : List End) → ((j : ℕ) (e : End) → end_at es j ≡ Some e → (end_at w.ends (k + j) ≡ Some e) × Known run e) → first_turn (down_turn run) (parties es) ≡ move_of w (first_down k es)
first_down_is run w k [] f = refl
first_down_is run w k (e ∷ es) f =
    let x = f 0 e refl in
    let zero_more : k + 0 ≡ k = omega arith in
    ap₂ first_of (down_turn_is run w k e (ap (end_at w.ends) (sym zero_more) ∙ x.0) x.1)
    (first_down_is run w (suc k) es (λ j d h. let y = f (suc j) d h in let next : suc k + j ≡ k + suc j = omega arith in (ap (end_at w.ends) next ∙ y.0, y.1)))
    ∙ has_move w (works.down_turn k e.standing e.down) (first_down (suc k) es) (λ c h. down_moves w k e.standing e.down c h)

first_up_moves : (w : World) (k : ℕ) (es : List End) (c : Cause) → first_up k es ≡ Some c → is_some (move_of w (Some c)) ≡ true
first_up_moves w k [] c h = absurd (no_none c h)
first_up_moves w k (e ∷ es) c h = by (works.up_turn k e.standing e.up) refl (λ i. first_up_moves w (suc k) es c i) h
  where
    by : (o : Option Cause) → works.up_turn k e.standing e.up ≡ o → (first_up (suc k) es ≡ Some c → is_some (move_of w (Some c)) ≡ true) → first_of o (first_up (suc k) es) ≡ Some c → is_some (move_of w (Some c)) ≡ true
    by None g ih i = ih i
    by (Some x) g ih i = up_moves w k e.standing e.up c (g ∙ i)

pub turn_is : (run : List Act) (w : World) → EndsAre run w → KnownAll run w → next_turn run ≡ move_of w (works.next_turn w)
turn_is run w i all =
    ap (λ l. first_of (first_turn (up_turn run) l) (first_turn (down_turn run) l)) (sym i)
    ∙ ap₂ first_of (first_up_is run w 0 w.ends (λ j e h. (ap (end_at w.ends) (nothing_more j) ∙ h, all j e h))) (first_down_is run w 0 w.ends (λ j e h. (ap (end_at w.ends) (nothing_more j) ∙ h, all j e h)))
    ∙ has_move w (first_up 0 w.ends) (first_down 0 w.ends) (λ c h. first_up_moves w 0 w.ends c h)
