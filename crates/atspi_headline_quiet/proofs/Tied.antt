-- THE LINKS FROM THE BUS ARE TIED along each run, where the bus behind the registry's start is the one with which worlds begin.
use Rattle.std.proofs.Common.{◌≡◌, ◌⊎◌, inl, inr, ℕ, ◌+◌, ◌-◌, ◌<◌, ◌≤◌, false, List, [], ◌∷◌, ◌++◌, length, map, min, drop, Option, None, Some, refl, sym, ap, ap₂, ◌∙◌, subst, arith, length-drop}
use Rattle.std.specs.Prelude.{◌==◌, if◌then◌else◌}
use Rattle.std.proofs.lemmas.Bool.{eq-eqb, ne_eqb}
use Rattle.atspi_script_lines.specs.declared.line.Party.{Party}
use Rattle.atspi_match.specs.routing.Queues.{queue_of}
use Rattle.atspi_trace.specs.Entry.{Entry}
use Rattle.atspi_trace.specs.World.{here, stopped, Letter, End, World}
use Rattle.atspi_trace.specs.Ends.{whose, party_at, end_at, with_end, taken_down}
use Rattle.atspi_trace.specs.Causes as causes
use Rattle.atspi_trace.specs.Causes.{Cause, without_bytes, missing}
use Rattle.atspi_trace.specs.Work.{Work, resting, doing, moving_up, moving_down, turning, draining, cause, next_of}
use Rattle.atspi_headline.specs.Words.{Act, moves_bytes, writes}
use Rattle.atspi_headline.specs.Links.{moved, size}
use Rattle.atspi_trace_laws.proofs.OfOrder.Parties.{same_some}
use Rattle.atspi_trace_laws.proofs.OfOrder.Allowed.{IsBare}
use Rattle.atspi_trace_laws.proofs.OfOrder.Frame.{Over, IsOrder, with_cases}
use Rattle.atspi_trace_laws.proofs.OfOrder.Shape.{Lasts, Shape}
use Rattle.atspi_headline_laws.proofs.Ran.{letter_bytes, down_missing, next_missing, moves_for}
use Rattle.atspi_headline_quiet.proofs.Lining.{rests_no}
use Rattle.atspi_headline_quiet.proofs.Marking.{DownMark, HasMarks}
use Rattle.atspi_headline_quiet.proofs.Moving.{GoesUp, StopsUp, up_next}
use Rattle.atspi_headline_quiet.proofs.Filling.{queue_put, queue_other}
use Rattle.atspi_headline_quiet.proofs.Walking.{moved_more, moved_written}
use Rattle.atspi_headline_quiet.proofs.Downing.{DownTie, down_stays, down_takes}
use Rattle.atspi_headline_quiet.proofs.Downs.{BusTie, DownsTied, Calm, same_bus}
use Rattle.atspi_headline_quiet.proofs.Along.{ahead_down, NotDown, none_ahead, moved_own, moved_other, GoesDown, down_next, not_down_left}

-- AN END whose link from the bus stays
pub record SameDown (e d : End) : Type 0 where
  pub whose : d.who ≡ e.who
  pub on : d.standing ≡ here → e.standing ≡ here
  pub down : d.down ≡ e.down
  pub mark : d.down_moved ≡ e.down_moved

pub same_down : IsOrder SameDown
same_down = record {
  same = λ e. record { whose = refl; on = λ h. h; down = refl; mark = refl };
  both = λ e d c f g. record { whose = g.whose ∙ f.whose; on = λ h. f.on (g.on h); down = g.down ∙ f.down; mark = g.mark ∙ f.mark };
}

pub same_ahead : (at : Option Work) (k : ℕ) (e d : End) → SameDown e d → ahead_down at k d ≡ ahead_down at k e
same_ahead (Some (moving_down conn count)) k e d s = ap₂ (λ l m. if conn == k then min count (letter_bytes l - m) else 0) s.down s.mark
same_ahead (Some (moving_up conn count)) k e d s = refl
same_ahead (Some (turning count left)) k e d s = refl
same_ahead (Some draining) k e d s = refl
same_ahead (Some resting) k e d s = refl
same_ahead (Some (doing c)) k e d s = refl
same_ahead None k e d s = refl

-- the bus does nothing, and links from it stay
pub all_stay : (run acts : List Act) (w v : World) (ahead next : ℕ → End → ℕ) → DownsTied run w ahead → Calm run acts → v.bus.quota ≡ w.bus.quota → v.bus.waiting.queues ≡ w.bus.waiting.queues → Over SameDown w.ends v.ends
    → ((k : ℕ) (e d : End) → end_at w.ends k ≡ Some e → e.standing ≡ here → SameDown e d → ahead k e + moved acts e.who false ≡ next k d) → DownsTied (run ++ acts) v next
all_stay run acts w v ahead next t c quota queues o more = λ k d there on.
    let x = o.back k d there in
    let was : x.0.standing ≡ here = x.2.on on in
    subst (λ q. DownTie (run ++ acts) q v.bus.waiting.queues k d (next k d)) (sym quota)
    (down_stays run acts w.bus.quota w.bus.waiting.queues v.bus.waiting.queues k x.0 d (ahead k x.0) (next k d) (t k x.0 x.1 was) c.handed x.2.whose x.2.down x.2.mark (ap (λ q. queue_of q k) queues) (more k x.0 d x.1 was x.2))

-- ONE TAKES THE FIRST MESSAGE of its link
record Takes (w : World) (work left : Work) (conn : ℕ) (e : End) (letter : Letter) : Type 0 where
  pub bytes : (d : End) → d.down_moved ≡ 0 → (l : List Letter) → d.down ≡ l → e.down ≡ letter ∷ l → ahead_down (Some work) conn e + moved (moves_for w work (causes.gets conn)) e.who false ≡ (size letter.said.message - e.down_moved) + ahead_down (Some left) conn d
  pub others : (k : ℕ) (x d : End) → (k ≡ conn → ⊥) → (x.who ≡ e.who → ⊥) → ahead_down (Some work) k x + moved (moves_for w work (causes.gets conn)) x.who false ≡ ahead_down (Some left) k d
  pub unknown : (who : Party) → (who ≡ e.who → ⊥) → moved (moves_for w work (causes.gets conn)) who false ≡ 0

turn_takes : (w : World) (work left : Work) (conn : ℕ) (e : End) (letter : Letter) (rest : List Letter) → end_at w.ends conn ≡ Some e → e.down ≡ letter ∷ rest → NotDown work → NotDown left
    → moves_for w work (causes.gets conn) ≡ moves_bytes (party_at w.ends conn) false (down_missing (end_at w.ends conn)) ∷ [] → Takes w work left conn e letter
turn_takes w work left conn e letter rest there link n m is = record {
  bytes = λ d zero_ l down link_.
      both (ahead_down (Some work) conn e) (moved (moves_for w work (causes.gets conn)) e.who false) (ahead_down (Some left) conn d) (size letter.said.message - e.down_moved) (none_ahead work conn e n) (none_ahead left conn d m)
      (ap (λ l. moved l e.who false) is ∙ ap₂ (λ p c. moved (moves_bytes p false c ∷ []) e.who false) mine many ∙ moved_own e.who (size letter.said.message - e.down_moved));
  others = λ k x d differ other. zeros (ahead_down (Some work) k x) (moved (moves_for w work (causes.gets conn)) x.who false) (ahead_down (Some left) k d) (none_ahead work k x n) (nothing x.who other) (none_ahead left k d m);
  unknown = nothing;
}
  where
    mine : party_at w.ends conn ≡ e.who
    mine = ap whose there

    many : down_missing (end_at w.ends conn) ≡ size letter.said.message - e.down_moved
    many = ap down_missing there ∙ ap (λ l. next_missing l e.down_moved) link

    nothing : (who : Party) → (who ≡ e.who → ⊥) → moved (moves_for w work (causes.gets conn)) who false ≡ 0
    nothing who other = ap (λ l. moved l who false) is ∙ moved_other (party_at w.ends conn) who (down_missing (end_at w.ends conn)) (λ same. other (sym same ∙ mine))

    both : (a b c s : ℕ) → a ≡ 0 → c ≡ 0 → b ≡ s → a + b ≡ s + c
    both a b c s h g i = omega (arith, h, g, i)

    zeros : (a b c : ℕ) → a ≡ 0 → b ≡ 0 → c ≡ 0 → a + b ≡ c
    zeros a b c h g i = omega (arith, h, g, i)

work_takes : (w : World) (work left : Work) (conn : ℕ) (e : End) (letter : Letter) (rest : List Letter) → end_at w.ends conn ≡ Some e → e.down ≡ letter ∷ rest → HasMarks e → IsBare work → next_of w work ≡ cause (causes.gets conn) w left → Takes w work left conn e letter
work_takes w (turning count n) left conn e letter rest there link m b is = turn_takes w (turning count n) left conn e letter rest there link tt (not_down_left w (turning count n) left (causes.gets conn) b tt is) refl
work_takes w draining left conn e letter rest there link m b is = turn_takes w draining left conn e letter rest there link tt (not_down_left w draining left (causes.gets conn) b tt is) refl
work_takes w resting left conn e letter rest there link m b is = absurd (rests_no w w (causes.gets conn) left is)
work_takes w (doing c) left conn e letter rest there link m b is = absurd b
work_takes w (moving_up j n) left conn e letter rest there link m b is = by (up_next w j n (causes.gets conn) left is)
  where
    no_routes : causes.gets conn ≡ causes.routes j → ⊥
    no_routes h = cc

    no_unjoins : causes.gets conn ≡ causes.unjoins j → ⊥
    no_unjoins h = cc

    by : GoesUp w j (causes.gets conn) left ⊎ (StopsUp w j (causes.gets conn) left × ((x : End) × (end_at w.ends j ≡ Some x) × (x.standing ≡ stopped) × (n ≡ 0 → ⊥))) → Takes w (moving_up j n) left conn e letter
    by (inl g) = absurd (no_routes g.routes_)
    by (inr g) = absurd (no_unjoins g.0.unjoins_)
work_takes w (moving_down j n) left conn e letter rest there link m b is = by (down_next w j n (causes.gets conn) left is)
  where
    conn_in : Cause → ℕ
    conn_in (causes.gets c) = c
    conn_in c = 0

    by : GoesDown w j n (causes.gets conn) left → Takes w (moving_down j n) left conn e letter
    by g = record {
      bytes = λ d zero_ l down link_.
          ap (λ t. (if t then min n (letter_bytes e.down - e.down_moved) else 0) + 0) (eq-eqb j conn (sym same))
          ∙ sum (letter_bytes e.down) (letter_bytes d.down) (size letter.said.message) e.down_moved d.down_moved (ap letter_bytes link_ ∙ ap (λ x. (size letter.said.message - 0) + letter_bytes x) (sym down)) zero_ within enough
          ∙ ap (λ x. (size letter.said.message - e.down_moved) + x)
          (sym (ap (λ x. ahead_down (Some x) conn d) g.left_ ∙ ap₂ (λ t r. if t then min (n - r) (letter_bytes d.down - d.down_moved) else 0) (eq-eqb j conn (sym same)) size_is));
      others = λ k x d differ other.
          ap (λ t. (if t then min n (letter_bytes x.down - x.down_moved) else 0) + 0) (ne_eqb j k (λ s. differ (sym s ∙ sym same)))
          ∙ sym (ap (λ y. ahead_down (Some y) k d) g.left_ ∙ ap (λ t. if t then min (n - missing g.letter.said.message g.e.down_moved) (letter_bytes d.down - d.down_moved) else 0) (ne_eqb j k (λ s. differ (sym s ∙ sym same))));
      unknown = λ who other. refl;
    }
      where
        same : conn ≡ j
        same = ap conn_in g.gets_

        one : g.e ≡ e
        one = same_some g.e e (sym g.there ∙ ap (end_at w.ends) (sym same) ∙ there)

        head_or : Letter → List Letter → Letter
        head_or z [] = z
        head_or z (x ∷ xs) = x

        first : g.letter ≡ letter
        first = ap (head_or letter) (sym g.link ∙ ap (λ (x : End). x.down) one ∙ link)

        size_is : missing g.letter.said.message g.e.down_moved ≡ size letter.said.message - e.down_moved
        size_is = ap₂ (λ (x : Letter) (y : End). missing x.said.message y.down_moved) first one

        enough : size letter.said.message - e.down_moved ≤ n
        enough = subst (λ x. x ≤ n) size_is g.enough

        within : e.down_moved < size letter.said.message
        within = subst (DownMark e.down_moved) link m.down

        sum : (a r s m z : ℕ) → a ≡ (s - 0) + r → z ≡ 0 → m < s → s - m ≤ n → min n (a - m) + 0 ≡ (s - m) + min (n - (s - m)) (r - z)
        sum a r s m z h g l f = omega (arith, h, g, l, f)

-- the link that it takes of
pub got_tied : (run : List Act) (w v : World) (work left : Work) (conn : ℕ) (e : End) (letter : Letter) (rest : List Letter) (es : List Entry) (f : End → End) → Shape w → end_at w.ends conn ≡ Some e → e.down ≡ letter ∷ rest
    → ((k : ℕ) (x : End) → end_at w.ends k ≡ Some x → HasMarks x) → IsBare work → next_of w work ≡ cause (causes.gets conn) w left → Calm run (moves_for w work (causes.gets conn) ++ map writes es)
    → v.bus ≡ without_bytes conn (missing letter.said.message e.down_moved) w.bus → v.ends ≡ with_end conn f (with_end conn taken_down w.ends) → ((x : End) → SameDown x (f x)) → Over Lasts w.ends v.ends
    → BusTie run w → DownsTied run w (ahead_down (Some work))
    → BusTie (run ++ (moves_for w work (causes.gets conn) ++ map writes es)) v × DownsTied (run ++ (moves_for w work (causes.gets conn) ++ map writes es)) v (ahead_down (Some left))
got_tied run w v work left conn e letter rest es f s there link marks bare is calm bus ends_ same o i t = (
  same_bus run acts w v i calm (ap (λ b. b.state) bus) (ap (λ b. b.quota) bus) o (λ who never. far who ∙ takes.unknown who (λ g. never conn e there (sym g))),
  λ k d at on. subst (λ q. DownTie (run ++ acts) q v.bus.waiting.queues k d (ahead_down (Some left) k d)) (sym (ap (λ b. b.quota) bus)) (by k d on (with_cases f (with_end conn taken_down w.ends) conn k d (ap (λ l. end_at l k) (sym ends_) ∙ at))),
)
  where
    acts : List Act
    acts = moves_for w work (causes.gets conn) ++ map writes es

    takes : Takes w work left conn e letter
    takes = work_takes w work left conn e letter rest there link (marks conn e there) bare is

    far : (who : Party) → moved acts who false ≡ moved (moves_for w work (causes.gets conn)) who false
    far who = moved_more (moves_for w work (causes.gets conn)) (map writes es) who false ∙ ap (λ n. moved (moves_for w work (causes.gets conn)) who false + n) (moved_written es who false) ∙ none (moved (moves_for w work (causes.gets conn)) who false)
      where
        none : (n : ℕ) → n + 0 ≡ n
        none n = omega arith

    bytes_left : length (queue_of v.bus.waiting.queues conn) ≡ length (queue_of w.bus.waiting.queues conn) - missing letter.said.message e.down_moved
    bytes_left =
        ap (λ b. length (queue_of b.waiting.queues conn)) bus ∙ ap length (queue_put w.bus.waiting.queues conn (drop (missing letter.said.message e.down_moved) (queue_of w.bus.waiting.queues conn)))
        ∙ length-drop (missing letter.said.message e.down_moved) (queue_of w.bus.waiting.queues conn)

    mine : (d y x : End) → SameDown y d → y ≡ taken_down x → end_at w.ends conn ≡ Some x → d.standing ≡ here → DownTie (run ++ acts) w.bus.quota v.bus.waiting.queues conn d (ahead_down (Some left) conn d)
    mine d y x g taken at on =
        let one : x ≡ e = same_some x e (sym at ∙ there) in
        let down : d.down ≡ rest = g.down ∙ ap (λ (z : End). z.down) taken ∙ ap (λ (z : End). (taken_down z).down) one ∙ ap rest_down link in
        let mark : d.down_moved ≡ 0 = g.mark ∙ ap (λ (z : End). z.down_moved) taken in
        let was : e.standing ≡ here = sym (ap (λ (z : End). z.standing) taken ∙ ap (λ (z : End). z.standing) one) ∙ g.on on in
        down_takes run acts w.bus.quota w.bus.waiting.queues v.bus.waiting.queues conn e d letter rest (ahead_down (Some work) conn e) (ahead_down (Some left) conn d) (t conn e there was) (marks conn e there) link calm.handed
        (g.whose ∙ ap (λ (z : End). z.who) taken ∙ ap (λ (z : End). z.who) one) down mark bytes_left (ap (λ n. ahead_down (Some work) conn e + n) (far e.who) ∙ takes.bytes d mark rest down link)
      where
        rest_down : List Letter → List Letter
        rest_down [] = []
        rest_down (z ∷ zs) = zs

    other : (k : ℕ) (d x : End) → SameDown x d → (k ≡ conn → ⊥) → end_at w.ends k ≡ Some x → d.standing ≡ here → DownTie (run ++ acts) w.bus.quota v.bus.waiting.queues k d (ahead_down (Some left) k d)
    other k d x g differ at on =
        down_stays run acts w.bus.quota w.bus.waiting.queues v.bus.waiting.queues k x d (ahead_down (Some work) k x) (ahead_down (Some left) k d) (t k x at (g.on on)) calm.handed g.whose g.down g.mark
        (ap (λ b. queue_of b.waiting.queues k) bus ∙ queue_other w.bus.waiting.queues conn k (drop (missing letter.said.message e.down_moved) (queue_of w.bus.waiting.queues conn)) differ)
        (ap (λ n. ahead_down (Some work) k x + n) (far x.who) ∙ takes.others k x d differ (λ same_. differ (s.one k conn x e at there same_)))

    base : (k : ℕ) (d y : End) → SameDown y d → d.standing ≡ here
        → ((x : End) × (end_at w.ends k ≡ Some x) × (((k ≡ conn) × (y ≡ taken_down x)) ⊎ ((k ≡ conn → ⊥) × (y ≡ x)))) → DownTie (run ++ acts) w.bus.quota v.bus.waiting.queues k d (ahead_down (Some left) k d)
    base k d y g on x = sort x.2
      where
        sort : (((k ≡ conn) × (y ≡ taken_down x.0)) ⊎ ((k ≡ conn → ⊥) × (y ≡ x.0))) → DownTie (run ++ acts) w.bus.quota v.bus.waiting.queues k d (ahead_down (Some left) k d)
        sort (inl h) =
            subst (λ j. DownTie (run ++ acts) w.bus.quota v.bus.waiting.queues j d (ahead_down (Some left) j d)) (sym h.0) (mine d y x.0 g h.1 (ap (end_at w.ends) (sym h.0) ∙ x.1) on)
        sort (inr h) = other k d x.0 (subst (λ z. SameDown z d) h.1 g) h.0 x.1 on

    by : (k : ℕ) (d : End) → d.standing ≡ here → ((y : End) × (end_at (with_end conn taken_down w.ends) k ≡ Some y) × (((k ≡ conn) × (d ≡ f y)) ⊎ ((k ≡ conn → ⊥) × (d ≡ y)))) → DownTie (run ++ acts) w.bus.quota v.bus.waiting.queues k d (ahead_down (Some left) k d)
    by k d on y = base k d y.0 (kept y.2) on (with_cases taken_down w.ends conn k y.0 y.1)
      where
        kept : (((k ≡ conn) × (d ≡ f y.0)) ⊎ ((k ≡ conn → ⊥) × (d ≡ y.0))) → SameDown y.0 d
        kept (inl h) = subst (SameDown y.0) (sym h.1) (same y.0)
        kept (inr h) = subst (SameDown y.0) (sym h.1) (same_down.same y.0)
