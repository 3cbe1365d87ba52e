-- Of a party that never joined no bytes are moved.
use Rattle.std.proofs.Common.{◌≡◌, ℕ, zero, suc, ◌+◌, Bool, true, false, List, [], ◌∷◌, ◌++◌, map, Option, None, Some, refl, sym, ap, ◌∙◌, subst, arith}
use Rattle.std.specs.Prelude.{◌||◌, filter_map}
use Rattle.std.specs.List.{list_any}
use Rattle.atspi_script_lines.specs.declared.line.Party.{Party}
use Rattle.atspi_script_lines.specs.declared.line.Party.TheVariants.{Registry, Reader}
use Rattle.atspi_trace.specs.Entry.{sent}
use Rattle.atspi_trace.specs.World.{Standing, here, stopped, away, End, World}
use Rattle.atspi_trace.specs.Ends.{whose, end_at}
use Rattle.atspi_trace.specs.Causes.{Cause, renews, starts_app, starts_reader, edits, calls, swaps_face, exits, shows, tells_busy, tells_quiet, routes, unjoins, gets, does}
use Rattle.atspi_trace.specs.Work.{Work, resting, doing, moving_up, moving_down, turning, draining, work_of}
use Rattle.atspi_headline.specs.Words.{Act, begins_line, moves_bytes, writes, is_same, start_in, ends}
use Rattle.atspi_headline.specs.Links.{moved}
use Rattle.atspi_trace_laws.proofs.OfOrder.Parties.{no_none, same_some, false_true}
use Rattle.atspi_headline_laws.proofs.Ran.{Ran, nothing_yet, did, began, caused, rested, asked, up_move, down_move, at_known, up_missing, down_missing, turn_move, stopped_move, moves_for, line_moves}
use Rattle.atspi_headline_laws.proofs.Joining.{parties, ends_along}
use Rattle.atspi_headline_links.proofs.Moved.{chosen_more, itself, another, moved_more, moved_written, moved_of_both, moved_other, moved_nothing}

pub any_both : {A : Type 0} (p : A → Bool) (xs ys : List A) → list_any p (xs ++ ys) ≡ (list_any p xs || list_any p ys)
any_both p [] ys = refl
any_both p (x ∷ xs) ys = by (p x) (any_both p xs ys)
  where
    by : (b : Bool) → list_any p (xs ++ ys) ≡ (list_any p xs || list_any p ys) → (b || list_any p (xs ++ ys)) ≡ ((b || list_any p xs) || list_any p ys)
    by true h = refl
    by false h = h

or_left : (a b : Bool) → (a || b) ≡ false → a ≡ false
or_left true b h = h
or_left false b h = refl

or_right : (a b : Bool) → (a || b) ≡ false → b ≡ false
or_right true b h = absurd (false_true (sym h))
or_right false b h = h

abbrev pub IsUnknown : List Party → Party → Type 0
IsUnknown ps p = list_any (is_same p) ps ≡ false

-- who has an end is known
pub known_at : (es : List End) (p : Party) (k : ℕ) (e : End) → IsUnknown (parties es) p → end_at es k ≡ Some e → p ≡ e.who → ⊥
known_at [] p k e u h same = no_none e h
known_at (x ∷ xs) p zero e u h same =
    let is : x ≡ e = same_some x e h in
    false_true (sym (or_left (is_same p x.who) (list_any (is_same p) (parties xs)) u) ∙ ap (λ (y : End). is_same p y.who) is ∙ ap (is_same p) (sym same) ∙ itself p)
known_at (x ∷ xs) p (suc k) e u h same = known_at xs p k e (or_right (is_same p x.who) (list_any (is_same p) (parties xs)) u) h same

pub unknown_of : (es : List End) (p : Party) → ((k : ℕ) (e : End) → end_at es k ≡ Some e → e.who ≡ p → ⊥) → IsUnknown (parties es) p
unknown_of [] p f = refl
unknown_of (x ∷ xs) p f =
    ap (λ b. b || list_any (is_same p) (parties xs)) (another p x.who (λ h. f 0 x refl (sym h))) ∙ unknown_of xs p (λ k e h. f (suc k) e h)

-- of them nothing is moved
module _ (w : World) (p : Party) (up : Bool) (u : IsUnknown (parties w.ends) p) where
  one_none : (conn : ℕ) (e : End) (way : Bool) (count : ℕ) → end_at w.ends conn ≡ Some e → moved (moves_bytes e.who way count ∷ []) p up ≡ 0
  one_none conn e way count h = moved_other p e.who up way count (known_at w.ends p conn e u h)

  up_none : (conn : ℕ) (e : End) (st : Standing) (count : ℕ) → end_at w.ends conn ≡ Some e → moved (up_move count e st) p up ≡ 0
  up_none conn e here count h = one_none conn e true _ h
  up_none conn e stopped zero h = one_none conn e true 0 h
  up_none conn e stopped (suc count) h = refl
  up_none conn e away zero h = one_none conn e true 0 h
  up_none conn e away (suc count) h = one_none conn e true 0 h

  down_none : (conn : ℕ) (e : End) (st : Standing) (count : ℕ) → end_at w.ends conn ≡ Some e → moved (down_move count e st) p up ≡ 0
  down_none conn e here count h = one_none conn e false _ h
  down_none conn e stopped count h = one_none conn e false 0 h
  down_none conn e away count h = one_none conn e false 0 h

  known_none : (conn : ℕ) (acts : End → List Act) (o : Option End) → end_at w.ends conn ≡ o → ((e : End) → end_at w.ends conn ≡ Some e → moved (acts e) p up ≡ 0) → moved (at_known o acts) p up ≡ 0
  known_none conn acts None h f = refl
  known_none conn acts (Some e) h f = f e h

  line_none : (work : Work) → moved (line_moves w work) p up ≡ 0
  line_none (moving_up conn count) = known_none conn (λ e. up_move count e e.standing) (end_at w.ends conn) refl (λ e h. up_none conn e e.standing count h)
  line_none (moving_down conn count) = known_none conn (λ e. down_move count e e.standing) (end_at w.ends conn) refl (λ e h. down_none conn e e.standing count h)
  line_none (turning count left) = refl
  line_none draining = refl
  line_none resting = refl
  line_none (doing c) = refl

  turn_none : (c : Cause) → moved (turn_move w c) p up ≡ 0
  turn_none (routes conn) = by (end_at w.ends conn) refl
    where
      by : (o : Option End) → end_at w.ends conn ≡ o → moved (moves_bytes (whose o) true (up_missing o) ∷ []) p up ≡ 0
      by None h = moved_nothing p (whose None) up true
      by (Some e) h = one_none conn e true (up_missing (Some e)) h
  turn_none (gets conn) = by (end_at w.ends conn) refl
    where
      by : (o : Option End) → end_at w.ends conn ≡ o → moved (moves_bytes (whose o) false (down_missing o) ∷ []) p up ≡ 0
      by None h = moved_nothing p (whose None) up false
      by (Some e) h = one_none conn e false (down_missing (Some e)) h
  turn_none (unjoins conn) = refl
  turn_none (renews quota) = refl
  turn_none (starts_app name) = refl
  turn_none starts_reader = refl
  turn_none (edits conn edit) = refl
  turn_none (calls conn name node deed) = refl
  turn_none swaps_face = refl
  turn_none (exits conn) = refl
  turn_none (shows conn app) = refl
  turn_none (tells_busy turns) = refl
  turn_none tells_quiet = refl

  stopped_none : (c : Cause) → moved (stopped_move w c) p up ≡ 0
  stopped_none (unjoins conn) = refl
  stopped_none (routes conn) = refl
  stopped_none (gets conn) = refl
  stopped_none (renews quota) = refl
  stopped_none (starts_app name) = refl
  stopped_none starts_reader = refl
  stopped_none (edits conn edit) = refl
  stopped_none (calls conn name node deed) = refl
  stopped_none swaps_face = refl
  stopped_none (exits conn) = refl
  stopped_none (shows conn app) = refl
  stopped_none (tells_busy turns) = refl
  stopped_none tells_quiet = refl

  for_none : (work : Work) (c : Cause) → moved (moves_for w work c) p up ≡ 0
  for_none (turning count left) c = turn_none c
  for_none draining c = turn_none c
  for_none (moving_up conn count) c = stopped_none c
  for_none (moving_down conn count) c = refl
  for_none resting c = refl
  for_none (doing d) c = refl

-- so it is along a run
pub unknown_front : (run acts : List Act) (p : Party) → IsUnknown (ends (run ++ acts)) p → IsUnknown (ends run) p
unknown_front run acts p u =
    or_left (list_any (is_same p) (ends run)) (list_any (is_same p) (filter_map start_in acts))
    (sym (any_both (is_same p) (ends run) (filter_map start_in acts)) ∙ ap (λ l. list_any (is_same p) (Registry ∷ l)) (sym (chosen_more start_in run acts)) ∙ u)

zero_both : (a b c : ℕ) → c ≡ a + b → a ≡ 0 → b ≡ 0 → c ≡ 0
zero_both a b c h p q = omega (arith, h, p, q)

pub none_along : (run : List Act) (w : World) (free : Option ℕ) (at : Option Work) → Ran run w free at → (p : Party) (up : Bool) → IsUnknown (ends run) p → moved run p up ≡ 0
none_along _ _ _ _ nothing_yet p up u = refl
none_along _ _ _ _ (did run w line c r ok can is a) p up u =
    zero_both (moved run p up) (moved (map writes (does w c).entries) p up) (moved (run ++ begins_line line ∷ map writes (does w c).entries) p up)
    (moved_more p up run (begins_line line ∷ map writes (does w c).entries))
    (none_along run w None None r p up (unknown_front run (begins_line line ∷ map writes (does w c).entries) p u)) (moved_written p up (does w c).entries)
none_along _ _ _ _ (began run w line r ok can b) p up u =
    let acts : List Act = begins_line line ∷ line_moves w (work_of w line) in
    let before : IsUnknown (ends run) p = unknown_front run acts p u in
    zero_both (moved run p up) (moved (line_moves w (work_of w line)) p up) (moved (run ++ acts) p up) (moved_more p up run acts) (none_along run w None None r p up before)
    (line_none w p up (subst (λ ps. IsUnknown ps p) (sym (ends_along run w None None r)) before) (work_of w line))
none_along _ _ _ _ (caused run w free work left c r is b a) p up u =
    let acts : List Act = moves_for w work c ++ map writes (does w c).entries in
    let before : IsUnknown (ends run) p = unknown_front run acts p u in
    zero_both (moved run p up) (moved acts p up) (moved (run ++ acts) p up) (moved_more p up run acts) (none_along run w free (Some work) r p up before)
    (moved_of_both p up (moves_for w work c) (does w c).entries ∙ for_none w p up (subst (λ ps. IsUnknown ps p) (sym (ends_along run w free (Some work) r)) before) work c)
none_along _ _ _ _ (rested run w v free work r is m well) p up u = none_along run w free (Some work) r p up u
none_along _ _ _ _ (asked run w conn q m question work r a) p up u =
    zero_both (moved run p up) 0 (moved (run ++ writes (sent (Reader q) m) ∷ []) p up) (moved_more p up run (writes (sent (Reader q) m) ∷ []))
    (none_along run w (Some conn) work r p up (unknown_front run (writes (sent (Reader q) m) ∷ []) p u)) refl
