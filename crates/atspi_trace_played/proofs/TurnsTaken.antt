-- Each turn takes a message, or the end of an end that stopped.
use Rattle.std.proofs.Common.{◌≡◌, ◌⊎◌, inl, inr, ℕ, zero, suc, ◌+◌, ◌≤◌, Bool, true, false, List, [], ◌∷◌, ◌++◌, length, Option, None, Some, refl, sym, ap, ◌∙◌, subst, arith}
use Rattle.std.specs.Prelude.{filter, slice_get, if◌then◌else◌}
use Rattle.atspi_tree_model.specs.Forest.{first_of}
use Rattle.atspi_script_lines.specs.declared.line.Line.{Line}
use Rattle.atspi_script_lines.specs.declared.line.Party.{Party}
use Rattle.atspi_message.specs.Envelope.{Envelope}
use Rattle.atspi_protocol.specs.declared.following.question.Question.{Question}
use Rattle.atspi_protocol.specs.exporting.Taking.{app_takes}
use Rattle.atspi_protocol.specs.registering.Steps.{registry_takes}
use Rattle.atspi_match.specs.routing.Queues.{Bus, without_queue}
use Rattle.atspi_match.specs.routing.Steps.{bus_leaves}
use Rattle.atspi_trace.specs.Entry.{Entry}
use Rattle.atspi_trace.specs.World.{Standing, here, stopped, away, Said, Letter, Role, the_registry, an_application, a_reader, End, World}
use Rattle.atspi_trace.specs.Ends.{end_at, with_end, taken_down, leaves, app_count, reader_count}
use Rattle.atspi_trace.specs.Carrying.{Carried, own_letter, left, takes_end}
use Rattle.atspi_trace.specs.Hearing.{hears_letter}
use Rattle.atspi_trace.specs.Causes.{Cause, routes, unjoins, gets, Done, does, on_end, routed, taken, took, missing, without_bytes, has_done, registry_did}
use Rattle.atspi_trace.specs.Work.{up_turn, down_turn, first_up, first_down, next_turn}
use Rattle.atspi_trace.specs.Due.{asks_as, asks_at, begins, Goes, after_all}
use Rattle.atspi_trace_laws.specs.order.Scripts.{CanAllStand}
use Rattle.atspi_trace_played.specs.Turns.{is_taking, count_taken, MayAsk, IsTurn, Makes}
use Rattle.atspi_trace_laws.proofs.OfOrder.Parties.{no_none, same_some, false_true}
use Rattle.atspi_trace_laws.proofs.OfOrder.Frame.{Over, IsOrder, over_both, over_with, stepped_over, settled_over, takes_over}
use Rattle.atspi_trace_laws.proofs.OfOrder.Along.{kept}
use Rattle.atspi_trace_laws.proofs.OfOrder.Growing.{Shaped, Nothing, And}
use Rattle.atspi_trace_laws.proofs.OfNames.Bounds.{Bounded, bounds_keep}

-- WHAT A TURN MOVES
pub data TurnOf (w : World) (c : Cause) : Type 0 where
  bus_takes_ : (conn : ℕ) (e : End) (said : Said) (rest : List Said) → c ≡ routes conn → end_at w.ends conn ≡ Some e → e.up ≡ said ∷ rest → TurnOf w c
  end_leaves : (conn : ℕ) (e : End) → c ≡ unjoins conn → end_at w.ends conn ≡ Some e → e.standing ≡ stopped → TurnOf w c
  end_takes : (conn : ℕ) (e : End) (letter : Letter) (rest : List Letter) → c ≡ gets conn → end_at w.ends conn ≡ Some e → e.down ≡ letter ∷ rest → TurnOf w c

either : {A : Type 0} (P : A → Type 0) (o p : Option A) (c : A) → first_of o p ≡ Some c → ((d : A) → o ≡ Some d → P d) → ((d : A) → p ≡ Some d → P d) → P c
either P None p c h f g = g c h
either P (Some x) p c h f g = f c h

up_of : (w : World) (conn : ℕ) (e : End) (st : Standing) (link : List Said) (c : Cause) → end_at w.ends conn ≡ Some e → e.standing ≡ st → e.up ≡ link → up_turn conn st link ≡ Some c → TurnOf w c
up_of w conn e here (said ∷ rest) c h s u t = bus_takes_ conn e said rest (sym (same_some (routes conn) c t)) h u
up_of w conn e here [] c h s u t = absurd (no_none c t)
up_of w conn e stopped link c h s u t = end_leaves conn e (sym (same_some (unjoins conn) c t)) h s
up_of w conn e away link c h s u t = absurd (no_none c t)

down_of : (w : World) (conn : ℕ) (e : End) (st : Standing) (link : List Letter) (c : Cause) → end_at w.ends conn ≡ Some e → e.down ≡ link → down_turn conn st link ≡ Some c → TurnOf w c
down_of w conn e here (letter ∷ rest) c h u t = end_takes conn e letter rest (sym (same_some (gets conn) c t)) h u
down_of w conn e here [] c h u t = absurd (no_none c t)
down_of w conn e stopped link c h u t = absurd (no_none c t)
down_of w conn e away link c h u t = absurd (no_none c t)

-- these are the world's ends from this number on
abbrev Sees : World → ℕ → List End → Type 0
Sees w conn es = (k : ℕ) (e : End) → slice_get es k ≡ Some e → end_at w.ends (conn + k) ≡ Some e

sees_first : (w : World) (conn : ℕ) (e : End) (es : List End) → Sees w conn (e ∷ es) → end_at w.ends conn ≡ Some e
sees_first w conn e es s = let same : conn + 0 ≡ conn = omega arith in subst (λ k. end_at w.ends k ≡ Some e) same (s 0 e refl)

sees_rest : (w : World) (conn : ℕ) (e : End) (es : List End) → Sees w conn (e ∷ es) → Sees w (suc conn) es
sees_rest w conn e es s k x h = let same : conn + suc k ≡ suc conn + k = omega arith in subst (λ j. end_at w.ends j ≡ Some x) same (s (suc k) x h)

first_up_of : (w : World) (conn : ℕ) (es : List End) → Sees w conn es → (c : Cause) → first_up conn es ≡ Some c → TurnOf w c
first_up_of w conn [] s c h = absurd (no_none c h)
first_up_of w conn (e ∷ es) s c h =
    either (TurnOf w) (up_turn conn e.standing e.up) (first_up (suc conn) es) c h
    (λ d t. up_of w conn e e.standing e.up d (sees_first w conn e es s) refl refl t)
    (λ d t. first_up_of w (suc conn) es (sees_rest w conn e es s) d t)

first_down_of : (w : World) (conn : ℕ) (es : List End) → Sees w conn es → (c : Cause) → first_down conn es ≡ Some c → TurnOf w c
first_down_of w conn [] s c h = absurd (no_none c h)
first_down_of w conn (e ∷ es) s c h =
    either (TurnOf w) (down_turn conn e.standing e.down) (first_down (suc conn) es) c h
    (λ d t. down_of w conn e e.standing e.down d (sees_first w conn e es s) refl t)
    (λ d t. first_down_of w (suc conn) es (sees_rest w conn e es s) d t)

pub turn_of : (w : World) (c : Cause) → next_turn w ≡ Some c → TurnOf w c
turn_of w c h =
    either (TurnOf w) (first_up 0 w.ends) (first_down 0 w.ends) c h
    (λ d t. first_up_of w 0 w.ends sees_all d t)
    (λ d t. first_down_of w 0 w.ends sees_all d t)
  where
    sees_all : Sees w 0 w.ends
    sees_all k e g = let same : k ≡ 0 + k = omega arith in subst (λ j. end_at w.ends j ≡ Some e) same g

-- HOW MANY ENDS STOPPED
abbrev pub is_stopped : Standing → Bool
is_stopped stopped = true
is_stopped standing = false

abbrev pub stopped_count : List End → ℕ
stopped_count ends = length (filter (λ (e : End). is_stopped e.standing) ends)

-- nobody else stops
abbrev StopsNot : End → End → Type 0
StopsNot e d = is_stopped d.standing ≡ true → is_stopped e.standing ≡ true

stopping_not : IsOrder StopsNot
stopping_not = record { same = λ e h. h; both = λ e d c f g h. f (g h) }

leave_not : (e : End) → StopsNot e (leaves e)
leave_not e h = absurd (false_true h)

abbrev counted : Bool → ℕ → ℕ
counted true n = suc n
counted false n = n

head_count : (x : End) (xs : List End) → stopped_count (x ∷ xs) ≡ counted (is_stopped x.standing) (stopped_count xs)
head_count x xs = by (is_stopped x.standing)
  where
    by : (b : Bool) → length (if b then x ∷ filter (λ (e : End). is_stopped e.standing) xs else filter (λ (e : End). is_stopped e.standing) xs) ≡ counted b (stopped_count xs)
    by true = refl
    by false = refl

pub at_most : (n : ℕ) → n ≤ n
at_most n = omega arith

counted_fewer : (b c : Bool) (n m : ℕ) → (b ≡ true → c ≡ true) → n ≤ m → counted b n ≤ counted c m
counted_fewer true true n m f h = omega (arith, h)
counted_fewer true false n m f h = absurd (false_true (f refl))
counted_fewer false true n m f h = omega (arith, h)
counted_fewer false false n m f h = h

fewer : (xs ys : List End) → length ys ≡ length xs → ((k : ℕ) (d : End) → end_at ys k ≡ Some d → (e : End) × (end_at xs k ≡ Some e) × StopsNot e d) → stopped_count ys ≤ stopped_count xs
fewer [] [] s b = omega arith
fewer [] (y ∷ ys) s b = absurd (omega (arith, s))
fewer (x ∷ xs) [] s b = absurd (omega (arith, s))
fewer (x ∷ xs) (y ∷ ys) s b =
    let first : (e : End) × (Some x ≡ Some e) × StopsNot e y = b 0 y refl in
    let not_new : StopsNot x y = subst (λ (e : End). StopsNot e y) (sym (same_some x first.0 first.1)) first.2 in
    let size : length ys ≡ length xs = omega (arith, s) in
    let rest : stopped_count ys ≤ stopped_count xs = fewer xs ys size (λ k d h. b (suc k) d h) in
    subst (λ n. n ≤ stopped_count (x ∷ xs)) (sym (head_count y ys))
    (subst (λ n. counted (is_stopped y.standing) (stopped_count ys) ≤ n) (sym (head_count x xs)) (counted_fewer (is_stopped y.standing) (is_stopped x.standing) (stopped_count ys) (stopped_count xs) not_new rest))

pub over_fewer : (a b : List End) → Over StopsNot a b → stopped_count b ≤ stopped_count a
over_fewer a b o = fewer a b o.size o.back

-- one of them leaves
one_fewer : (conn : ℕ) (ends : List End) (e : End) → end_at ends conn ≡ Some e → e.standing ≡ stopped → suc (stopped_count (with_end conn leaves ends)) ≤ stopped_count ends
one_fewer zero [] e h s = absurd (no_none e h)
one_fewer (suc conn) [] e h s = absurd (no_none e h)
one_fewer zero (x ∷ xs) e h s =
    let stands : is_stopped x.standing ≡ true = ap (λ (y : End). is_stopped y.standing) (same_some x e h) ∙ ap is_stopped s in
    subst (λ n. suc (stopped_count xs) ≤ n) (sym (head_count x xs ∙ ap (λ b. counted b (stopped_count xs)) stands)) (at_most (suc (stopped_count xs)))
one_fewer (suc conn) (x ∷ xs) e h s =
    let rest : suc (stopped_count (with_end conn leaves xs)) ≤ stopped_count xs = one_fewer conn xs e h s in
    subst (λ n. suc n ≤ stopped_count (x ∷ xs)) (sym (head_count x (with_end conn leaves xs)))
    (subst (λ n. suc (counted (is_stopped x.standing) (stopped_count (with_end conn leaves xs))) ≤ n) (sym (head_count x xs)) (by (is_stopped x.standing) rest))
  where
    by : (b : Bool) → suc (stopped_count (with_end conn leaves xs)) ≤ stopped_count xs → suc (counted b (stopped_count (with_end conn leaves xs))) ≤ counted b (stopped_count xs)
    by true r = omega (arith, r)
    by false r = r

pub all_fewer : (p : End → Bool) (xs : List End) → length (filter p xs) ≤ length xs
all_fewer p [] = omega arith
all_fewer p (x ∷ xs) = by (p x) (all_fewer p xs)
  where
    by : (b : Bool) → length (filter p xs) ≤ length xs → length (if b then x ∷ filter p xs else filter p xs) ≤ suc (length xs)
    by true h = omega (arith, h)
    by false h = omega (arith, h)

-- EACH TURN
abbrev pub Takes : World → Done → Type 0
Takes w d = (1 ≤ count_taken d.entries) × Over StopsNot w.ends d.world.ends

end_over : (w : World) (conn : ℕ) (f : End → End) → ((e : End) → StopsNot e (f e)) → Over StopsNot w.ends (with_end conn f (with_end conn taken_down w.ends))
end_over w conn f r =
    over_both StopsNot stopping_not w.ends (with_end conn taken_down w.ends) (with_end conn f (with_end conn taken_down w.ends)) (over_with StopsNot stopping_not taken_down (λ e h. h) conn w.ends)
    (over_with StopsNot stopping_not f r conn (with_end conn taken_down w.ends))

took_takes : (w : World) (bus : Bus) (conn : ℕ) (letter : Letter) (who : Party) (role : Role) → Takes w (took (record w { bus = bus; ends = with_end conn taken_down w.ends }) conn letter who role)
took_takes w bus conn letter who (the_registry s) = (omega arith, end_over w conn (registry_did (registry_takes s letter.said.message)) (λ e h. h))
took_takes w bus conn letter who (an_application s) = (omega arith, end_over w conn (has_done s (app_takes s letter.said.message)) (λ e h. h))
took_takes w bus conn letter who (a_reader r) = (omega arith, end_over w conn (λ e. record e { role = a_reader (hears_letter r (with_end conn taken_down w.ends) letter) }) (λ e h. h))

left_over_ : (c : Carried) (conn : ℕ) → Over StopsNot (with_end conn leaves c.ends) (takes_end c conn).ends
left_over_ c conn =
    over_both StopsNot stopping_not (with_end conn leaves c.ends) (left c conn).ends (takes_end c conn).ends
    (stepped_over StopsNot stopping_not own_letter (λ m e h. h) (record { bus = record c.bus { waiting = without_queue c.bus.waiting conn }; ends = with_end conn leaves c.ends }) (bus_leaves c.bus.state conn))
    (settled_over StopsNot stopping_not (λ m e h. h) leave_not (length c.bus.state.joined) (left c conn))

pub got_does : (w : World) (conn : ℕ) (e : End) (letter : Letter) (rest : List Letter) → end_at w.ends conn ≡ Some e → e.down ≡ letter ∷ rest → Takes w (does w (gets conn))
got_does w conn e letter rest there link =
    let does_ : does w (gets conn) ≡ taken w conn e (letter ∷ rest) = ap (λ o. on_end w o (λ x. taken w conn x x.down)) there ∙ ap (taken w conn e) link in
    subst (Takes w) (sym does_) (took_takes w (without_bytes conn (missing letter.said.message e.down_moved) w.bus) conn letter e.who e.role)

pub turn_does : (w : World) (c : Cause) → TurnOf w c → Takes w (does w c) ⊎ (suc (stopped_count (does w c).world.ends) ≤ stopped_count w.ends)
turn_does w c (bus_takes_ conn e said rest is there link) =
    let does_ : does w c ≡ routed w conn e.who (said ∷ rest) = ap (does w) is ∙ ap (λ o. on_end w o (λ x. routed w conn x.who x.up)) there ∙ ap (routed w conn e.who) link in
    inl (subst (Takes w) (sym does_)
    (omega arith, takes_over StopsNot stopping_not (λ m x h. h) leave_not (λ b k x h. h) (λ x h. h) (record { bus = w.bus; ends = w.ends }) conn e.who said (λ m x h. h)))
turn_does w c (end_takes conn e letter rest is there link) = inl (subst (λ x. Takes w (does w x)) (sym is) (got_does w conn e letter rest there link))
turn_does w c (end_leaves conn e is there stands) =
    let c0 : Carried = record { bus = w.bus; ends = w.ends } in
    inr (subst (λ x. suc (stopped_count (does w x).world.ends) ≤ stopped_count w.ends) (sym is)
    (up (stopped_count (takes_end c0 conn).ends) (stopped_count (with_end conn leaves w.ends)) (stopped_count w.ends)
    (over_fewer (with_end conn leaves w.ends) (takes_end c0 conn).ends (left_over_ c0 conn)) (one_fewer conn w.ends e there stands)))
  where
    up : (a b n : ℕ) → a ≤ b → suc b ≤ n → suc a ≤ n
    up a b n p q = omega (arith, p, q)

asks_not : (m : Envelope) (question : Question) (e : End) → StopsNot e (asks_at m question e)
asks_not m question e h = by e.role h
  where
    by : (role : Role) → is_stopped (asks_as role m question e).standing ≡ true → is_stopped e.standing ≡ true
    by (a_reader r) g = g
    by (the_registry x) g = g
    by (an_application x) g = g

pub asked_fewer : (w v : World) (own : List Entry) → MayAsk w v own → stopped_count v.ends ≤ stopped_count w.ends
asked_fewer w v own (inl h) = subst (λ (x : World). stopped_count x.ends ≤ stopped_count w.ends) (sym h.0) (at_most (stopped_count w.ends))
asked_fewer w v own (inr h) =
    subst (λ (x : World). stopped_count x.ends ≤ stopped_count w.ends) (sym h.4)
    (over_fewer w.ends (with_end h.0 (asks_at h.2 h.3) w.ends) (over_with StopsNot stopping_not (asks_at h.2 h.3) (asks_not h.2 h.3) h.0 w.ends))

pub count_more : (xs ys : List Entry) → count_taken (xs ++ ys) ≡ count_taken xs + count_taken ys
count_more [] ys = omega arith
count_more (x ∷ xs) ys = by (is_taking x) (count_more xs ys)
  where
    by : (b : Bool) → count_taken (xs ++ ys) ≡ count_taken xs + count_taken ys
        → length (if b then x ∷ filter is_taking (xs ++ ys) else filter is_taking (xs ++ ys)) ≡ length (if b then x ∷ filter is_taking xs else filter is_taking xs) + count_taken ys
    by true h = omega (arith, h)
    by false h = h

one_turn : (w v : World) (es : List Entry) → IsTurn w v es → suc (stopped_count v.ends) ≤ count_taken es + stopped_count w.ends
one_turn w v es t = subst (λ l. suc (stopped_count v.ends) ≤ count_taken l + stopped_count w.ends) (sym t.wrote) (by (turn_does w t.moves (turn_of w t.moves t.next)))
  where
    d : Done
    d = does w t.moves

    asked : stopped_count v.ends ≤ stopped_count d.world.ends
    asked = asked_fewer d.world v t.own t.asks

    sum : count_taken (d.entries ++ t.own) ≡ count_taken d.entries + count_taken t.own
    sum = count_more d.entries t.own

    taking : (a b c m n k : ℕ) → c ≤ b → m ≡ n + k → 1 ≤ n → b ≤ a → suc c ≤ m + a
    taking a b c m n k p q r s = omega (arith, p, q, r, s)

    leaving : (a b c m : ℕ) → c ≤ b → suc b ≤ a → suc c ≤ m + a
    leaving a b c m p q = omega (arith, p, q)

    by : Takes w d ⊎ (suc (stopped_count d.world.ends) ≤ stopped_count w.ends) → suc (stopped_count v.ends) ≤ count_taken (d.entries ++ t.own) + stopped_count w.ends
    by (inl x) =
        taking (stopped_count w.ends) (stopped_count d.world.ends) (stopped_count v.ends) (count_taken (d.entries ++ t.own)) (count_taken d.entries) (count_taken t.own) asked sum x.0 (over_fewer w.ends d.world.ends x.1)
    by (inr x) = leaving (stopped_count w.ends) (stopped_count d.world.ends) (stopped_count v.ends) (count_taken (d.entries ++ t.own)) asked x

makes_few : (n : ℕ) (w : World) (es : List Entry) → Makes n w es → n ≤ count_taken es + stopped_count w.ends
makes_few zero w es m = omega arith
makes_few (suc n) w es m =
    let v : World = m.0 in
    let front : List Entry = m.1 in
    let rest : List Entry = m.2 in
    subst (λ l. suc n ≤ count_taken l + stopped_count w.ends) (sym m.4)
    (up n (stopped_count v.ends) (stopped_count w.ends) (count_taken front) (count_taken rest) (count_taken (front ++ rest)) (count_more front rest) (one_turn w v front m.3) (makes_few n v rest m.5))
  where
    up : (k b a f r s : ℕ) → s ≡ f + r → suc b ≤ f + a → k ≤ r + b → suc k ≤ s + a
    up k b a f r s p q t = omega (arith, p, q, t)

pub turns_take : (lines : List Line) (trace : List Entry) → CanAllStand lines → Goes (begins lines) trace → (n : ℕ) (es : List Entry) → Makes n (after_all (begins lines) trace).world es → n ≤ count_taken es + 21
turns_take lines trace a g n es m =
    let w : World = (after_all (begins lines) trace).world in
    let f = (kept (Shaped (And Nothing Bounded)) bounds_keep lines trace a g).state.1.1 in
    up n (count_taken es) (stopped_count w.ends) (length w.ends) (app_count w.ends) (reader_count w.ends) (makes_few n w es m) (all_fewer (λ (e : End). is_stopped e.standing) w.ends) f.0 f.1 f.2
  where
    up : (k c s l p q : ℕ) → k ≤ c + s → s ≤ l → p ≤ 16 → q ≤ 4 → l ≤ suc (p + q) → k ≤ c + 21
    up k c s l p q h i j o t = omega (arith, h, i, j, o, t)
