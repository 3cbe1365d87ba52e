-- THE MARKS: between moves, of the first message of a link fewer bytes were moved than it has.
use Rattle.std.proofs.Common.{◌≡◌, ◌⊎◌, inl, inr, ℕ, zero, suc, ◌<◌, ◌+◌, ◌-◌, Bool, true, false, List, [], ◌∷◌, ◌++◌, length, Option, None, Some, refl, sym, ap, ◌∙◌, subst, arith}
use Rattle.std.specs.Prelude.{nat_le, if◌then◌else◌}
use Rattle.std.proofs.lemmas.Bool.{leb-false}
use Rattle.atspi_message.specs.Envelope.{Envelope}
use Rattle.atspi_message.specs.Bytes.{Field, written, spelled_with, header_bytes, rising_fields}
use Rattle.atspi_trace.specs.World.{Standing, here, stopped, away, Said, Letter, End, World, first_registry}
use Rattle.atspi_trace.specs.Ends.{end_at, with_end, stops}
use Rattle.atspi_trace.specs.Causes as causes
use Rattle.atspi_trace.specs.Causes.{Cause, Done, at_end, missing, does}
use Rattle.atspi_trace.specs.Due.{asks_at}
use Rattle.atspi_trace.specs.Work.{Work, resting, doing, moving_up, moving_down, turning, draining, Next, cause, rests, moved_up, moved_down, next_up, next_down, of_end, next_of}
use Rattle.atspi_headline.specs.Words.{Act}
use Rattle.atspi_trace_laws.proofs.OfOrder.Parties.{no_none, same_some}
use Rattle.atspi_trace_laws.proofs.OfOrder.Frame.{Over, IsOrder, over_with, with_cases, joined_cases}
use Rattle.atspi_trace_laws.proofs.OfOrder.Shaped.{new_app, new_reader}
use Rattle.atspi_headline_laws.proofs.Ran.{Ran, nothing_yet, did, began, caused, rested, asked}
use Rattle.atspi_headline_laws.proofs.Keeping.{shape_along}
use Rattle.atspi_headline_laws.proofs.Acting.{line_did, turn_did, bare_quiet}
use Rattle.atspi_headline_quiet.proofs.Wording.{rest_same, turns_rest, drain_rest, no_rest}
use Rattle.atspi_headline_quiet.proofs.Changing.{Speaks, Changes, asked_over, turn_over, LineChange, lasted, stopped_, joined_, anew_, line_change}

-- each message has bytes
spelled_some : (m : Envelope) (fs : List Field) → 0 < length (spelled_with m fs)
unfolding spelled_with header_bytes
spelled_some m fs = omega arith

pub written_some : (m : Envelope) → 0 < length (written m)
written_some m = spelled_some m (rising_fields m)

abbrev pub UpMark : ℕ → List Said → Type 0
UpMark moved [] = moved ≡ 0
UpMark moved (said ∷ rest) = moved < length (written said.message)

abbrev pub DownMark : ℕ → List Letter → Type 0
DownMark moved [] = moved ≡ 0
DownMark moved (letter ∷ rest) = moved < length (written letter.said.message)

pub record HasMarks (e : End) : Type 0 where
  pub up : UpMark e.up_moved e.up
  pub down : DownMark e.down_moved e.down

up_fresh : (l : List Said) → UpMark 0 l
up_fresh [] = refl
up_fresh (said ∷ rest) = written_some said.message

down_fresh : (l : List Letter) → DownMark 0 l
down_fresh [] = refl
down_fresh (letter ∷ rest) = written_some letter.said.message

up_more : (moved : ℕ) (l more : List Said) → UpMark moved l → UpMark moved (l ++ more)
up_more moved [] more h = subst (λ k. UpMark k more) (sym h) (up_fresh more)
up_more moved (said ∷ rest) more h = h

down_more : (moved : ℕ) (l more : List Letter) → DownMark moved l → DownMark moved (l ++ more)
down_more moved [] more h = subst (λ k. DownMark k more) (sym h) (down_fresh more)
down_more moved (letter ∷ rest) more h = h

abbrev Marks : End → End → Type 0
Marks e d = HasMarks e → HasMarks d

marking : IsOrder Marks
marking = record { same = λ e m. m; both = λ e d c f g m. g (f m) }

marks_speak : Speaks Marks
marks_speak = record {
  order = marking;
  says_ = λ saids role e m. record { up = up_more e.up_moved e.up saids m.up; down = m.down };
  plays_ = λ role e m. record { up = m.up; down = m.down };
  takes_ = λ e m. record { up = m.up; down = down_fresh _ };
}

marks_change : Changes Marks
marks_change = record {
  speaks = marks_speak;
  taken_ = λ e m. record { up = up_fresh _; down = m.down };
  handed_ = λ letter e m. record { up = m.up; down = down_more e.down_moved e.down (letter ∷ []) m.down };
  named_ = λ b conn e m. record { up = m.up; down = m.down };
  left_ = λ e m. record { up = refl; down = refl };
}

abbrev pub AllMarked : World → Type 0
AllMarked w = (k : ℕ) (e : End) → end_at w.ends k ≡ Some e → HasMarks e

marked_over : (a b : List End) → Over Marks a b → ((k : ℕ) (e : End) → end_at a k ≡ Some e → HasMarks e) → (k : ℕ) (e : End) → end_at b k ≡ Some e → HasMarks e
marked_over a b o m k e h = let x = o.back k e h in x.2 (m k x.0 x.1)

first_marked : (k : ℕ) (e : End) → end_at (first_registry ∷ []) k ≡ Some e → HasMarks e
first_marked zero e h = subst HasMarks (same_some first_registry e h) (record { up = refl; down = refl })
first_marked (suc k) e h = absurd (no_none e h)

new_marked : (w : World) (n : End) → (n ≡ new_reader w) ⊎ ((name : List ℕ) × (n ≡ new_app w name)) → HasMarks n
new_marked w n (inl is) = subst HasMarks (sym is) (record { up = up_fresh ((new_reader w).up); down = refl })
new_marked w n (inr is) = subst HasMarks (sym is.1) (record { up = up_fresh ((new_app w is.0).up); down = refl })

line_marked : (w : World) (d : Done) → AllMarked w → LineChange Marks w d → AllMarked d.world
line_marked w d m (lasted o) = marked_over w.ends d.world.ends o m
line_marked w d m (stopped_ b) =
    subst (λ (x : Done). AllMarked x.world) (sym b.is)
    (marked_over w.ends (with_end b.conn stops w.ends) (over_with Marks marking stops (λ e h. record { up = refl; down = h.down }) b.conn w.ends) m)
line_marked w d m (joined_ n new is which) = λ k e h. by k e (joined_cases w.ends n k e (sym (ap (λ es. end_at es k) is) ∙ h))
  where
    by : (k : ℕ) (e : End) → ((end_at w.ends k ≡ Some e) ⊎ ((k ≡ length w.ends) × (e ≡ n))) → HasMarks e
    by k e (inl h) = m k e h
    by k e (inr h) = subst HasMarks (sym h.1) (new_marked w n which)
line_marked w d m (anew_ quota few is) = λ k e h. first_marked k e (sym (ap (λ (x : World). end_at x.ends k) is) ∙ h)

-- BYTES that complete no message
abbrev world_in : Next → World → World
world_in (cause c v left) x = x
world_in (rests v) x = v

up_rests : (w v : World) (conn count : ℕ) (e : End) (st : Standing) (l : List Said) → end_at w.ends conn ≡ Some e → e.up ≡ l → AllMarked w → next_up w conn count st e.up_moved l ≡ rests v → AllMarked v
up_rests w v conn count e here (said ∷ rest) at link m h = by (nat_le (missing said.message e.up_moved) count) refl h
  where
    lifted : (x : End) → x ≡ e → nat_le (missing said.message e.up_moved) count ≡ false → HasMarks (record x { up_moved = x.up_moved + count })
    lifted x same g =
        let less = leb-false (missing said.message e.up_moved) count g in
        let below : e.up_moved + count < length (written said.message) = omega (arith, less) in
        subst (λ (y : End). HasMarks (record y { up_moved = y.up_moved + count })) (sym same)
        (record { up = subst (UpMark (e.up_moved + count)) (sym link) below; down = (m conn e at).down })

    all : nat_le (missing said.message e.up_moved) count ≡ false → AllMarked (moved_up w conn count)
    all g k d there = by_case (with_cases (λ x. record x { up_moved = x.up_moved + count }) w.ends conn k d there)
      where
        by_case : ((x : End) × (end_at w.ends k ≡ Some x) × (((k ≡ conn) × (d ≡ record x { up_moved = x.up_moved + count })) ⊎ ((k ≡ conn → ⊥) × (d ≡ x)))) → HasMarks d
        by_case x = at_case x.2
          where
            at_case : (((k ≡ conn) × (d ≡ record x.0 { up_moved = x.0.up_moved + count })) ⊎ ((k ≡ conn → ⊥) × (d ≡ x.0))) → HasMarks d
            at_case (inl s) = subst HasMarks (sym s.1) (lifted x.0 (same_some x.0 e (sym x.1 ∙ ap (end_at w.ends) s.0 ∙ at)) g)
            at_case (inr s) = subst HasMarks (sym s.1) (m k x.0 x.1)

    by : (b : Bool) → nat_le (missing said.message e.up_moved) count ≡ b → (if b then cause (causes.routes conn) w (moving_up conn (count - missing said.message e.up_moved)) else rests (moved_up w conn count)) ≡ rests v → AllMarked v
    by true g is = absurd (no_rest _ w v _ is)
    by false g is = subst AllMarked (ap (λ n. world_in n w) is) (all g)
up_rests w v conn count e here [] at link m h = subst AllMarked (ap (λ n. world_in n w) h) m
up_rests w v conn zero e stopped l at link m h = subst AllMarked (ap (λ n. world_in n w) h) m
up_rests w v conn (suc count) e stopped l at link m h = absurd (no_rest _ w v _ h)
up_rests w v conn count e away l at link m h = subst AllMarked (ap (λ n. world_in n w) h) m

down_rests : (w v : World) (conn count : ℕ) (e : End) (st : Standing) (l : List Letter) → end_at w.ends conn ≡ Some e → e.down ≡ l → AllMarked w → next_down w conn count st e.down_moved l ≡ rests v → AllMarked v
down_rests w v conn count e here (letter ∷ rest) at link m h = by (nat_le (missing letter.said.message e.down_moved) count) refl h
  where
    lifted : (x : End) → x ≡ e → nat_le (missing letter.said.message e.down_moved) count ≡ false → HasMarks (record x { down_moved = x.down_moved + count })
    lifted x same g =
        let less = leb-false (missing letter.said.message e.down_moved) count g in
        let below : e.down_moved + count < length (written letter.said.message) = omega (arith, less) in
        subst (λ (y : End). HasMarks (record y { down_moved = y.down_moved + count })) (sym same)
        (record { up = (m conn e at).up; down = subst (DownMark (e.down_moved + count)) (sym link) below })

    all : nat_le (missing letter.said.message e.down_moved) count ≡ false → AllMarked (moved_down w conn count)
    all g k d there = by_case (with_cases (λ x. record x { down_moved = x.down_moved + count }) w.ends conn k d there)
      where
        by_case : ((x : End) × (end_at w.ends k ≡ Some x) × (((k ≡ conn) × (d ≡ record x { down_moved = x.down_moved + count })) ⊎ ((k ≡ conn → ⊥) × (d ≡ x)))) → HasMarks d
        by_case x = at_case x.2
          where
            at_case : (((k ≡ conn) × (d ≡ record x.0 { down_moved = x.0.down_moved + count })) ⊎ ((k ≡ conn → ⊥) × (d ≡ x.0))) → HasMarks d
            at_case (inl s) = subst HasMarks (sym s.1) (lifted x.0 (same_some x.0 e (sym x.1 ∙ ap (end_at w.ends) s.0 ∙ at)) g)
            at_case (inr s) = subst HasMarks (sym s.1) (m k x.0 x.1)

    by : (b : Bool) → nat_le (missing letter.said.message e.down_moved) count ≡ b → (if b then cause (causes.gets conn) w (moving_down conn (count - missing letter.said.message e.down_moved)) else rests (moved_down w conn count)) ≡ rests v → AllMarked v
    by true g is = absurd (no_rest _ w v _ is)
    by false g is = subst AllMarked (ap (λ n. world_in n w) is) (all g)
down_rests w v conn count e here [] at link m h = subst AllMarked (ap (λ n. world_in n w) h) m
down_rests w v conn count e stopped l at link m h = subst AllMarked (ap (λ n. world_in n w) h) m
down_rests w v conn count e away l at link m h = subst AllMarked (ap (λ n. world_in n w) h) m

rests_marked : (w v : World) (work : Work) → AllMarked w → next_of w work ≡ rests v → AllMarked v
rests_marked w v resting m h = subst AllMarked (rest_same w v h) m
rests_marked w v (doing c) m h = absurd (no_rest c w v resting h)
rests_marked w v (turning count n) m h = subst AllMarked (turns_rest w v count n h).0 m
rests_marked w v draining m h = absurd (drain_rest w v h)
rests_marked w v (moving_up conn count) m h = by (end_at w.ends conn) refl h
  where
    by : (o : Option End) → end_at w.ends conn ≡ o → of_end w o (λ e. next_up w conn count e.standing e.up_moved e.up) ≡ rests v → AllMarked v
    by None at is = subst AllMarked (ap (λ n. world_in n w) is) m
    by (Some e) at is = up_rests w v conn count e e.standing e.up at refl m is
rests_marked w v (moving_down conn count) m h = by (end_at w.ends conn) refl h
  where
    by : (o : Option End) → end_at w.ends conn ≡ o → of_end w o (λ e. next_down w conn count e.standing e.down_moved e.down) ≡ rests v → AllMarked v
    by None at is = subst AllMarked (ap (λ n. world_in n w) is) m
    by (Some e) at is = down_rests w v conn count e e.standing e.down at refl m is

pub marks_along : (run : List Act) (w : World) (free : Option ℕ) (at : Option Work) → Ran run w free at → AllMarked w
marks_along _ _ _ _ nothing_yet = first_marked
marks_along _ _ _ _ (did run w line c r ok can is a) =
    line_marked w (does w c) (marks_along run w None None r) (line_change Marks marks_speak w line (does w c) (line_did w line c (shape_along run w None None r) ok can a is))
marks_along _ _ _ _ (began run w line r ok can b) = marks_along run w None None r
marks_along _ _ _ _ (caused run w free work left c r is b a) =
    marked_over w.ends (does w c).world.ends (turn_over Marks marks_change w c (does w c) (turn_did w c (shape_along run w free (Some work) r) (bare_quiet w work left c b is) a)) (marks_along run w free (Some work) r)
marks_along _ _ _ _ (rested run w v free work r is m well) = rests_marked w v work (marks_along run w free (Some work) r) is
marks_along _ _ _ _ (asked run w conn q m question work r a) = marked_over w.ends (at_end w conn (asks_at m question)).ends (asked_over Marks marks_speak w conn m question) (marks_along run w (Some conn) work r)
