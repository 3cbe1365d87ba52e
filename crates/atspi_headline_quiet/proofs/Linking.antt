-- ALONG EACH RUN the links from the bus are tied.
use Rattle.std.proofs.Common.{◌≡◌, ◌⊎◌, inl, inr, ℕ, zero, suc, ◌+◌, ◌-◌, ◌<◌, Bool, true, false, List, [], ◌∷◌, length, min, drop, Option, None, Some, refl, sym, ap, ◌∙◌, subst, arith, cond, length-drop}
use Rattle.std.specs.Prelude.{◌==◌, nat_le, unwrap_or, if◌then◌else◌}
use Rattle.std.specs.FinMap as finmap
use Rattle.std.specs.FinMap.{get-from_sorted}
use Rattle.std.specs.Ordering.{nat_cmp}
use Rattle.std.specs.Cmp.Lexicographic.{slice_cmp}
use Rattle.std.specs.List.{AllByRecursion}
use Rattle.std.proofs.lemmas.Bool.{eq-eqb, eqb-true, leb-false}
use Rattle.std.proofs.lemmas.List.{append-nil}
use Rattle.atspi_script_lines.specs.declared.line.Party.TheVariants.{Registry}
use Rattle.atspi_match.specs.routing.Queues.{or_nothing, queue_of}
use Rattle.atspi_trace.specs.World.{Standing, here, stopped, away, first_queues, first_lists, first_registry, first_bus, first_world, Letter, End, World}
use Rattle.atspi_trace.specs.Ends.{end_at}
use Rattle.atspi_trace.specs.Causes as causes
use Rattle.atspi_trace.specs.Causes.{Cause, Done, missing, has_done, does, at_end, app_starts, reader_starts}
use Rattle.atspi_trace.specs.Work.{Work, moving_down, Next, cause, rests, next_of, moved_down, next_down, of_end}
use Rattle.atspi_headline.specs.Words.{Act}
use Rattle.atspi_headline.specs.Links.{moved, deliveries, letters}
use Rattle.atspi_trace_laws.proofs.OfOrder.Parties.{no_none, same_some}
use Rattle.atspi_trace_laws.proofs.OfOrder.Frame.{with_cases}
use Rattle.atspi_trace_laws.proofs.OfDrops.Reaching.{Reach, IsIn}
use Rattle.atspi_headline_laws.proofs.Ran.{letter_bytes}
use Rattle.atspi_headline_quiet.proofs.Filling.{queue_put, queue_other}
use Rattle.atspi_headline_quiet.proofs.Walking.{to_one}
use Rattle.atspi_headline_quiet.proofs.Delivering.{AllFit}
use Rattle.atspi_headline_quiet.proofs.Downing.{DownTie, down_stays, down_moves}
use Rattle.atspi_headline_quiet.proofs.Downs.{Under, BusTie, DownsTied}
use Rattle.atspi_headline_quiet.proofs.Along.{ahead_down}

abbrev pub Tied : List Act → World → Option Work → Type 0
Tied run w at = BusTie run w × DownsTied run w (ahead_down at)

-- BYTES THAT COMPLETE NO MESSAGE
abbrev world_in : Next → World → World
world_in (cause c v left) x = x
world_in (rests v) x = v

no_rest : (c : Cause) (w v : World) (left : Work) → cause c w left ≡ rests v → ⊥
no_rest c w v left h = cc

-- where nothing of the link is at work any more
nothing_left : (run : List Act) (w : World) (conn count : ℕ) → ((e : End) → end_at w.ends conn ≡ Some e → e.standing ≡ here → letter_bytes e.down - e.down_moved ≡ 0) → DownsTied run w (ahead_down (Some (moving_down conn count))) → DownsTied run w (λ k e. 0)
nothing_left run w conn count none t k e at on = subst (DownTie run w.bus.quota w.bus.waiting.queues k e) (by (conn == k) refl) (t k e at on)
  where
    least : (n m : ℕ) → m ≡ 0 → min n m ≡ 0
    least n m h = omega (arith, h)

    by : (b : Bool) → (conn == k) ≡ b → (if conn == k then min count (letter_bytes e.down - e.down_moved) else 0) ≡ 0
    by true h = ap (λ b. if b then min count (letter_bytes e.down - e.down_moved) else 0) h ∙ least count (letter_bytes e.down - e.down_moved) (none e (ap (end_at w.ends) (eqb-true conn k h) ∙ at) on)
    by false h = ap (λ b. if b then min count (letter_bytes e.down - e.down_moved) else 0) h

-- a front of the first message is moved
part_moved : (run : List Act) (w : World) (conn count : ℕ) (e : End) (letter : Letter) (rest : List Letter) → end_at w.ends conn ≡ Some e → e.down ≡ letter ∷ rest → nat_le (missing letter.said.message e.down_moved) count ≡ false
    → DownsTied run w (ahead_down (Some (moving_down conn count))) → DownsTied run (moved_down w conn count) (λ k e. 0)
part_moved run w conn count e letter rest there link few t k d at on = by (with_cases (λ x. record x { down_moved = x.down_moved + count }) w.ends conn k d at)
  where
    low : count < missing letter.said.message e.down_moved
    low = leb-false (missing letter.said.message e.down_moved) count few

    all : min count (letter_bytes e.down - e.down_moved) ≡ count
    all = sum (letter_bytes e.down) (letter_bytes rest) (ap letter_bytes link)
      where
        sum : (a r : ℕ) → a ≡ missing letter.said.message 0 + r → min count (a - e.down_moved) ≡ count
        sum a r h = let less : count < missing letter.said.message e.down_moved = low in omega (arith, h, less)

    by : ((x : End) × (end_at w.ends k ≡ Some x) × (((k ≡ conn) × (d ≡ record x { down_moved = x.down_moved + count })) ⊎ ((k ≡ conn → ⊥) × (d ≡ x)))) → DownTie run w.bus.quota (moved_down w conn count).bus.waiting.queues k d 0
    by x = sort x.2
      where
        sort : (((k ≡ conn) × (d ≡ record x.0 { down_moved = x.0.down_moved + count })) ⊎ ((k ≡ conn → ⊥) × (d ≡ x.0))) → DownTie run w.bus.quota (moved_down w conn count).bus.waiting.queues k d 0
        sort (inl h) =
            let one : x.0 ≡ e = same_some x.0 e (sym x.1 ∙ ap (end_at w.ends) h.0 ∙ there) in
            let was : e.standing ≡ here = sym (ap (λ (z : End). z.standing) h.1 ∙ ap (λ (z : End). z.standing) one) ∙ on in
            let old : DownTie run w.bus.quota w.bus.waiting.queues conn e count =
            subst (DownTie run w.bus.quota w.bus.waiting.queues conn e) (ap (λ b. if b then min count (letter_bytes e.down - e.down_moved) else 0) (eq-eqb conn conn refl) ∙ all) (t conn e there was) in
            subst (λ j. DownTie run w.bus.quota (moved_down w conn count).bus.waiting.queues j d 0) (sym h.0)
            (down_moves run w.bus.quota w.bus.waiting.queues (moved_down w conn count).bus.waiting.queues conn count e d old (ap (λ (z : End). z.who) h.1 ∙ ap (λ (z : End). z.who) one) (ap (λ (z : End). z.down) h.1 ∙ ap (λ (z : End). z.down) one)
            (ap (λ (z : End). z.down_moved) h.1 ∙ ap (λ (z : End). z.down_moved + count) one)
            (ap length (queue_put w.bus.waiting.queues conn (drop count (queue_of w.bus.waiting.queues conn))) ∙ length-drop count (queue_of w.bus.waiting.queues conn)))
        sort (inr h) =
            let old : DownTie run w.bus.quota w.bus.waiting.queues k x.0 0 =
            subst (DownTie run w.bus.quota w.bus.waiting.queues k x.0) (other (conn == k) refl) (t k x.0 x.1 (ap (λ (z : End). z.standing) (sym h.1) ∙ on)) in
            subst (λ l. DownTie l w.bus.quota (moved_down w conn count).bus.waiting.queues k d 0) (append-nil run)
            (down_stays run [] w.bus.quota w.bus.waiting.queues (moved_down w conn count).bus.waiting.queues k x.0 d 0 0 old (ap deliveries (append-nil run)) (ap (λ (z : End). z.who) h.1) (ap (λ (z : End). z.down) h.1) (ap (λ (z : End). z.down_moved) h.1)
            (queue_other w.bus.waiting.queues conn k (drop count (queue_of w.bus.waiting.queues conn)) h.0) refl)
          where
            other : (b : Bool) → (conn == k) ≡ b → (if conn == k then min count (letter_bytes x.0.down - x.0.down_moved) else 0) ≡ 0
            other true g = absurd (h.0 (sym (eqb-true conn k g)))
            other false g = ap (λ b. if b then min count (letter_bytes x.0.down - x.0.down_moved) else 0) g

-- a line that moves bytes from the bus comes to rest
pub down_rests_tied : (run : List Act) (w v : World) (conn count : ℕ) → next_of w (moving_down conn count) ≡ rests v → DownsTied run w (ahead_down (Some (moving_down conn count))) → DownsTied run v (λ k e. 0)
down_rests_tied run w v conn count is t = by (end_at w.ends conn) refl is
  where
    stopped_here : stopped ≡ here → ⊥
    stopped_here g = cc

    away_here : away ≡ here → ⊥
    away_here g = cc

    at : (e : End) → end_at w.ends conn ≡ Some e → (st : Standing) (l : List Letter) → e.standing ≡ st → e.down ≡ l → next_down w conn count st e.down_moved l ≡ rests v → DownsTied run v (λ k x. 0)
    at e there here (letter ∷ rest) s link h = choose (nat_le (missing letter.said.message e.down_moved) count) refl h
      where
        choose : (b : Bool) → nat_le (missing letter.said.message e.down_moved) count ≡ b → (if b then cause (causes.gets conn) w (moving_down conn (count - missing letter.said.message e.down_moved)) else rests (moved_down w conn count)) ≡ rests v → DownsTied run v (λ k x. 0)
        choose true f g = absurd (no_rest (causes.gets conn) w v (moving_down conn (count - missing letter.said.message e.down_moved)) g)
        choose false f g = subst (λ u. DownsTied run u (λ k x. 0)) (ap (λ n. world_in n w) g) (part_moved run w conn count e letter rest there link f t)
    at e there here [] s link h =
        subst (λ u. DownsTied run u (λ k x. 0)) (ap (λ n. world_in n w) h)
        (nothing_left run w conn count (λ x there_ on. nil (letter_bytes x.down) x.down_moved (ap (λ (z : End). letter_bytes z.down) (same_some x e (sym there_ ∙ there)) ∙ ap letter_bytes link)) t)
      where
        nil : (a m : ℕ) → a ≡ 0 → a - m ≡ 0
        nil a m g = omega (arith, g)
    at e there stopped l s link h =
        subst (λ u. DownsTied run u (λ k x. 0)) (ap (λ n. world_in n w) h)
        (nothing_left run w conn count (λ x there_ on. absurd (stopped_here (sym s ∙ ap (λ (z : End). z.standing) (same_some e x (sym there ∙ there_)) ∙ on))) t)
    at e there away l s link h =
        subst (λ u. DownsTied run u (λ k x. 0)) (ap (λ n. world_in n w) h)
        (nothing_left run w conn count (λ x there_ on. absurd (away_here (sym s ∙ ap (λ (z : End). z.standing) (same_some e x (sym there ∙ there_)) ∙ on))) t)

    by : (o : Option End) → end_at w.ends conn ≡ o → of_end w o (λ e. next_down w conn count e.standing e.down_moved e.down) ≡ rests v → DownsTied run v (λ k x. 0)
    by None there h = subst (λ u. DownsTied run u (λ k x. 0)) (ap (λ n. world_in n w) h) (nothing_left run w conn count (λ x there_ on. absurd (no_none x (sym there ∙ there_))) t)
    by (Some e) there h = at e there e.standing e.down refl refl h

-- THE BEGINNING
pub first_reach : (quota : ℕ) → Reach (Under 1) (first_bus quota).state
first_reach quota = record { joined = (one, tt); lists = λ q. subst (AllByRecursion (IsIn (Under 1))) (sym (ap (λ o. unwrap_or o []) (get-from_sorted (slice_cmp nat_cmp) first_lists q tt))) (by _ _) }
  where
    one : 0 < 1
    one = omega arith

    by : (a b : Bool) → AllByRecursion (IsIn (Under 1)) (unwrap_or (cond a (Some ((0, 0) ∷ [])) (cond b (Some ((0, 4) ∷ [])) None)) [])
    by true b = (one, tt)
    by false true = (one, tt)
    by false false = tt

first_queue : length (queue_of (finmap.from_sorted first_queues) 0) ≡ 0
first_queue = ap (λ o. length (or_nothing o)) (get-from_sorted nat_cmp first_queues 0 tt)

-- a world in which nobody joined, where nothing was delivered and nothing moved
pub first_downs : (run : List Act) (quota : ℕ) → deliveries run ≡ [] → moved run Registry false ≡ 0 → DownsTied run (first_world quota) (λ k e. 0)
first_downs run quota none still zero e at on =
    subst (λ x. DownTie run quota (finmap.from_sorted first_queues) 0 x 0) (same_some first_registry e at)
    (record { fits = subst (λ l. AllFit quota [] (to_one Registry l)) (sym none) tt; taken = []; whole = ap (λ l. letters (to_one Registry l)) none; count = still; queue = first_queue })
first_downs run quota none still (suc k) e at on = absurd (no_none e at)
