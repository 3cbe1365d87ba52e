-- Bytes come down to an end: what lies at it then, and the world that bus, connections and ends are.
use Rattle.std.proofs.Common.{◌≡◌, ◌≢◌, ◌⊎◌, inl, inr, ℕ, zero, suc, ◌+◌, ◌<◌, ◌≤◌, true, List, [], ◌∷◌, ◌++◌, length, map, take, drop, get_or, cond, Option, None, Some, refl, sym, ap, ◌∙◌, subst, append-nil, take-add, arith}
use Rattle.std.specs.Prelude.{◌-◌, is_some, nat_le, slice_get, slice_set, Result, Ok, Err, IfOk, OnErr}
use Rattle.std.specs.Option.{option_map}
use Rattle.std.specs.List.{AllByRecursion}
use Rattle.std.specs.FinMap as finmap
use Rattle.std.specs.FinMap.{FinMap}
use Rattle.std.specs.Ordering.{nat_cmp}
use Rattle.std.proofs.Math.Seq.{drop-append_seam, drop-nil}
use Rattle.std.proofs.lemmas.Bool.{leb-true, leb-false, le-leb}
use Rattle.std.proofs.lemmas.List.{length-append, drop-drop, length-take-le, take-append-drop}
use Rattle.std.proofs.lemmas.Option.{same_Some, slice_get_within, get_or_from_slice_get}
use Rattle.atspi_message.specs.Envelope.{Envelope}
use Rattle.atspi_message.specs.Bytes.{IsMessage, written}
use Rattle.atspi_stream.proofs.StreamLaws.{Stated, message_states}
use Rattle.atspi_match.specs.routing.Queues.{Bus, or_nothing, queue_of, popped}
use Rattle.atspi_bus_queues.specs.Change.{with_queue}
use Rattle.atspi_bus_queues.proofs.Chains.{at_other, queue_of-insert}
use Rattle.atspi_world_links.specs.declared.post.Post.{Post}
use Rattle.atspi_trace.specs.World.{Letter, End, World}
use Rattle.atspi_trace.specs.Ends.{end_at, with_end, rest_of, taken_down}
use Rattle.atspi_trace.specs.Causes.{without_bytes, missing}
use Rattle.atspi_trace.specs.Work.{moved_down}
use Rattle.atspi_bus_laws.specs.handed.Handing.{IsLetter, AreLetters}
use Rattle.atspi_bus_laws.specs.handed.Naming.{IsSigned}
use Rattle.atspi_bus_laws.proofs.OfHanded.Changing.{quiet_change}
use Rattle.atspi_world_moves.specs.Carried.{post_of, AreSendable, HasMark, IsCarried}
use Rattle.atspi_world_links.specs.Changes.{changed_at}
use Rattle.atspi_world_moves.specs.inner.Told.{emptied}
use Rattle.atspi_world_moves.specs.Downs.{bytes_down, IsBegun, IsWaiting, Wait}
use Rattle.atspi_world_moves.specs.Filled.{waits_for, gave, IsFilled, IsFilledAt, IsGiven, FillsAt, GivesAt}
use Rattle.atspi_world_moves.specs.Linked.{given_of, IsLinked, IsWhole, IsStill, CameWhole, CameInPart, BringsDown}
use Rattle.atspi_world_moves.proofs.Beginning.{gave_none}
use Rattle.atspi_world_links.proofs.Changes.{map-changed, map-changed_known, map-kept, get-map, set_same}
use Rattle.atspi_world_moves.proofs.Filling.{given_long, part_goes_on, filled_whole}
use Rattle.atspi_world_moves.proofs.Staying.{there_same}
use Rattle.atspi_world_moves.proofs.Ties.{all_at}
use Rattle.atspi_world_moves.proofs.Views.{with-changed, written_some, all_with}
use Rattle.atspi_world_moves.proofs.Downs.{begun_within, at_changed}

-- AN END TAKES THE FIRST MESSAGE OF ITS DOWN LINK: what lay at it is gone, and so is the rest of the message
abbrev pub off_link : World → ℕ → Envelope → ℕ → World
off_link w conn m begun = record w { bus = without_bytes conn (missing m begun) w.bus; ends = with_end conn taken_down w.ends }

all_rest : (P : Letter → Type 0) (letters : List Letter) → AllByRecursion P letters → AllByRecursion P (rest_of letters)
all_rest P [] a = tt
all_rest P (l ∷ ls) a = a.1

begun_none : (letters : List Letter) → IsBegun 0 letters
begun_none [] = refl
begun_none (l ∷ ls) = written_some l.said.message

drop_both : (xs ys : List ℕ) (n : ℕ) → n ≤ length xs → drop (length xs - n) (drop n (xs ++ ys)) ≡ ys
drop_both xs ys n h =
    let all : n + (length xs - n) ≡ length xs = omega (arith, h) in
    drop-drop (length xs - n) n (xs ++ ys) ∙ ap (λ k. drop k (xs ++ ys)) all ∙ drop-append_seam xs ys

taken_linked : (w : World) (conn : ℕ) (e : End) (letter : Letter) (rest : List Letter) (given : List (List ℕ)) → IsLinked w given → end_at w.ends conn ≡ Some e → e.down ≡ letter ∷ rest
    → IsLinked (off_link w conn letter.said.message e.down_moved) (changed_at conn emptied given)
taken_linked w conn e letter rest given is at link = record {
  given_are = ap (changed_at conn emptied) is.given_are ∙ sym (ap (map given_of) (with-changed taken_down w.ends conn) ∙ map-changed given_of taken_down emptied (λ x. refl) w.ends conn);
  wait = λ k x there. by k x (at_changed taken_down w.ends conn k x there);
  hands = record {
    quota = is.hands.quota;
    known = is.hands.known;
    letters = all_with AreLetters taken_down (λ x a. all_rest IsLetter x.down a) conn w.ends is.hands.letters;
  };
  named = quiet_change taken_down (λ x. (refl, refl, refl)) w.bus.state.owners w.ends conn (λ x a. all_rest (IsSigned w.ends) x.down a) is.named;
  there = there_same taken_down (λ x. refl) (λ x. refl) w.ends conn is.there;
}
  where
    rest_is : drop (missing letter.said.message e.down_moved) (queue_of w.bus.waiting.queues conn) ≡ bytes_down rest
    rest_is =
        let within : e.down_moved < length (written letter.said.message) = subst (IsBegun e.down_moved) link (is.wait conn e at).begun in
        ap (drop (missing letter.said.message e.down_moved)) ((is.wait conn e at).bytes ∙ ap (λ l. drop e.down_moved (bytes_down l)) link)
        ∙ drop_both (written letter.said.message) (bytes_down rest) e.down_moved (omega (arith, within))

    by : (k : ℕ) (x : End) → ((k ≡ conn) × ((y : End) × ((end_at w.ends k ≡ Some y) × (x ≡ taken_down y)))) ⊎ ((k ≢ conn) × (end_at w.ends k ≡ Some x))
        → IsWaiting (finmap.insert w.bus.waiting.queues conn (drop (missing letter.said.message e.down_moved) (queue_of w.bus.waiting.queues conn))) k x
    by k x (inl a) =
        let same : e ≡ a.1.0 = same_Some e a.1.0 (sym at ∙ ap (end_at w.ends) (sym a.0) ∙ a.1.1.0) in
        let down : x.down ≡ rest = ap (λ (y : End). y.down) a.1.1.1 ∙ ap (λ (y : End). rest_of y.down) (sym same) ∙ ap rest_of link in
        let mark : x.down_moved ≡ 0 = ap (λ (y : End). y.down_moved) a.1.1.1 in
        record {
          begun = subst (λ n. IsBegun n x.down) (sym mark) (begun_none x.down);
          bytes = ap (queue_of (finmap.insert w.bus.waiting.queues conn (drop (missing letter.said.message e.down_moved) (queue_of w.bus.waiting.queues conn)))) a.0
              ∙ queue_of-insert w.bus.waiting.queues conn (drop (missing letter.said.message e.down_moved) (queue_of w.bus.waiting.queues conn)) ∙ rest_is ∙ ap bytes_down (sym down) ∙ ap (λ n. drop n (bytes_down x.down)) (sym mark);
        }
    by k x (inr b) =
        let old = is.wait k x b.1 in
        record { begun = old.begun; bytes = ap or_nothing (at_other w.bus.waiting.queues conn (drop (missing letter.said.message e.down_moved) (queue_of w.bus.waiting.queues conn)) k b.0) ∙ old.bytes }

-- what lies at an end is set
set_emptied : (xs : List (List ℕ)) (i : ℕ) (y : List ℕ) → slice_set (slice_set xs i y) i [] ≡ changed_at i emptied xs
set_emptied [] zero y = refl
set_emptied [] (suc i) y = refl
set_emptied (x ∷ xs) zero y = refl
set_emptied (x ∷ xs) (suc i) y = ap (λ l. x ∷ l) (set_emptied xs i y)

get_set : (xs : List (List ℕ)) (i : ℕ) (x y : List ℕ) → slice_get xs i ≡ Some x → slice_get (slice_set xs i y) i ≡ Some y
get_set [] zero x y h = absurd cc
get_set [] (suc i) x y h = absurd cc
get_set (z ∷ zs) zero x y h = refl
get_set (z ∷ zs) (suc i) x y h = get_set zs i x y h

-- the down link of one end changes, and the queue of its connection
carried_below : (w : World) (conn : ℕ) (f : End → End) (b c : Bus) (posts : List Post) → ((e : End) → post_of (f e) ≡ post_of e) → ((e : End) → AreSendable e → AreSendable (f e)) → ((e : End) → HasMark e → HasMark (f e))
    → IsCarried w b posts → c.own ≡ [] → c.closings ≡ [] → Wait c.waiting.queues (with_end conn f w.ends) → IsCarried (record w { bus = c; ends = with_end conn f w.ends }) c posts
carried_below w conn f b c posts same sends marks is own closings waits = record {
  bus_is = refl;
  own_told = own;
  closings_told = closings;
  posts_are = is.posts_are ∙ sym (ap (map post_of) (with-changed f w.ends conn) ∙ map-kept post_of f same w.ends conn);
  few = is.few;
  sendable = all_with AreSendable f sends conn w.ends is.sendable;
  marked = all_with HasMark f marks conn w.ends is.marked;
  waits = waits;
}

-- AN END TOOK THE MESSAGE THAT WAS WHOLE AT IT
pub linked_taken : (w : World) (conn : ℕ) (e : End) (letter : Letter) (rest : List Letter) (b b' : Bus) (posts : List Post) (given given' : List (List ℕ)) → IsCarried w b posts → IsLinked w given → end_at w.ends conn ≡ Some e
    → e.down ≡ letter ∷ rest → IsWhole b b' given given' conn letter.said.message e.down_moved
    → IsCarried (off_link w conn letter.said.message e.down_moved) b' posts × IsLinked (off_link w conn letter.said.message e.down_moved) (slice_set given' conn [])
linked_taken w conn e letter rest b b' posts given given' carried is at link whole =
    let v = off_link w conn letter.said.message e.down_moved in
    let linked = taken_linked w conn e letter rest given is at link in
    let bus : b' ≡ v.bus = whole.bus ∙ ap (without_bytes conn (missing letter.said.message e.down_moved)) carried.bus_is in
    let tied : IsCarried v v.bus posts = carried_below w conn taken_down b v.bus posts (λ x. refl) (λ x a. a) (λ x a. a) carried carried.own_told carried.closings_told linked.wait in (
      subst (λ c. IsCarried v c posts) (sym bus) tied,
      subst (IsLinked v) (sym (ap (λ l. slice_set l conn []) whole.others ∙ set_emptied given conn (written letter.said.message))) linked,
    )

-- WHAT COMES DOWN, by what waits
queue_there : (queues : FinMap nat_cmp (List ℕ)) (conn : ℕ) (bytes : List ℕ) → 0 < length (queue_of queues conn) → with_queue queues conn bytes ≡ finmap.insert queues conn bytes
queue_there queues conn bytes some = by (finmap.get queues conn) refl
  where
    by : (o : Option (List ℕ)) → finmap.get queues conn ≡ o → with_queue queues conn bytes ≡ finmap.insert queues conn bytes
    by None none = absurd (let empty = ap (λ o. length (or_nothing o)) none in omega (arith, some, empty))
    by (Some was) is = ap (λ o. cond (is_some o) (finmap.insert queues conn bytes) queues) is

-- what lies at an end that is there
lies_at : (w : World) (given : List (List ℕ)) (conn : ℕ) (e : End) → IsLinked w given → end_at w.ends conn ≡ Some e → slice_get given conn ≡ Some (given_of e)
lies_at w given conn e is at = ap (λ l. slice_get l conn) is.given_are ∙ get-map given_of w.ends conn ∙ ap (option_map given_of) at

module _ (w : World) (given given' : List (List ℕ)) (b b' : Bus) (posts : List Post) (conn most count : ℕ) (e : End) (carried : IsCarried w b posts) (is : IsLinked w given) (at : end_at w.ends conn ≡ Some e)
    (fills : FillsAt b b' given given' conn most count) where
  waits_so : waits_for b conn ≡ drop e.down_moved (bytes_down e.down)
  waits_so = ap (λ (x : Bus). waits_for x conn) carried.bus_is ∙ (is.wait conn e at).bytes

  at_it : IsFilledAt b b' given given' conn most count (given_of e)
  at_it = fills (given_of e) (lies_at w given conn e is at)

  none_comes : e.down ≡ [] → IsStill b b' given given' count
  none_comes empty =
      let f = at_it in
      let nothing : waits_for b conn ≡ [] = waits_so ∙ ap (λ l. drop e.down_moved (bytes_down l)) empty ∙ drop-nil e.down_moved in
      let none : count ≡ 0 = (let few = f.filled.gives.there in let no = ap length nothing in omega (arith, few, no)) in
      let same : f.now ≡ given_of e = f.filled.gives.put ∙ ap (λ n. given_of e ++ take n (waits_for b conn)) none ∙ append-nil (given_of e) in
      record {
        none = none;
        bus = f.filled.gives.bus ∙ ap (λ n. gave b conn n) none ∙ gave_none b conn;
        lies = f.ends_are ∙ ap (slice_set given conn) same ∙ set_same given conn (given_of e) (lies_at w given conn e is at);
      }

  module _ (letter : Letter) (rest : List Letter) (link : e.down ≡ letter ∷ rest) where
    abbrev m : Envelope
    m = letter.said.message

    begun : e.down_moved < length (written m)
    begun = subst (IsBegun e.down_moved) link (is.wait conn e at).begun

    within : e.down_moved ≤ length (bytes_down e.down)
    within = begun_within e.down_moved e.down (is.wait conn e at).begun

    short : length (given_of e) ≡ e.down_moved
    short = length-take-le e.down_moved (bytes_down e.down) within

    all : given_of e ++ waits_for b conn ≡ written m ++ bytes_down rest
    all = ap (λ l. given_of e ++ l) waits_so ∙ take-append-drop e.down_moved (bytes_down e.down) ∙ ap bytes_down link

    spelled : IsMessage m (written m)
    spelled = (subst (AllByRecursion IsLetter) link (all_at AreLetters w.ends conn e is.hands.letters at)).0

    some : 0 < length (waits_for b conn)
    some = omega (arith, ap length all, length-append (given_of e) (waits_for b conn), length-append (written m) (bytes_down rest), short, begun)

    bus_so : b' ≡ popped b conn (drop count (waits_for b conn))
    bus_so = at_it.filled.gives.bus ∙ ap (λ q. record b { waiting = record b.waiting { queues = q } }) (queue_there b.waiting.queues conn (drop count (waits_for b conn)) some)

    long : length at_it.now ≡ e.down_moved + count
    long = given_long b b' conn count (given_of e) at_it.now at_it.filled.gives ∙ ap (λ n. n + count) short

    whole_comes : missing m e.down_moved ≤ most → CameWhole b b' given given' conn count m e.down_moved
    whole_comes enough =
        let f = at_it in
        let whole : f.now ≡ written m = filled_whole m b b' conn most count (given_of e) f.now (bytes_down rest) f.filled spelled all (omega (arith, short, begun)) (omega (arith, short, begun, enough)) in
        let counted : count ≡ missing m e.down_moved = omega (arith, long, ap length whole) in
        record {
          many = counted;
          whole = record {
            lies = ap (λ l. slice_get l conn) f.ends_are ∙ get_set given conn (given_of e) f.now (lies_at w given conn e is at) ∙ ap Some whole;
            others = f.ends_are ∙ ap (slice_set given conn) whole;
            bus = bus_so ∙ ap (λ n. popped b conn (drop n (waits_for b conn))) counted;
          };
        }

    part_comes : count ≤ most → most < missing m e.down_moved → CameInPart w b' posts given' conn most count
    part_comes few less = record { many = counted; tied = tied; linked = linked }
      where
        counted : count ≡ most
        counted =
            let f = at_it in
            let goes_on = part_goes_on m b b' conn most count (given_of e) f.now (bytes_down rest) f.filled spelled all (omega (arith, long, few, less)) in
            omega (arith, few, goes_on)

        v : World
        v = moved_down w conn most

        moves : End → End
        moves x = record x { down_moved = x.down_moved + most }

        bus : b' ≡ v.bus
        bus = bus_so ∙ ap (λ n. popped b conn (drop n (waits_for b conn))) counted ∙ ap (without_bytes conn most) carried.bus_is

        lies : at_it.now ≡ given_of (moves e)
        lies =
            at_it.filled.gives.put ∙ ap (λ n. given_of e ++ take n (waits_for b conn)) counted ∙ ap (λ l. given_of e ++ take most l) waits_so
            ∙ sym (take-add e.down_moved most (bytes_down e.down))

        left : queue_of v.bus.waiting.queues conn ≡ drop (e.down_moved + most) (bytes_down e.down)
        left =
            queue_of-insert w.bus.waiting.queues conn (drop most (queue_of w.bus.waiting.queues conn)) ∙ ap (drop most) (is.wait conn e at).bytes
            ∙ drop-drop most e.down_moved (bytes_down e.down)

        begun_so : IsBegun (e.down_moved + most) e.down
        begun_so = subst (IsBegun (e.down_moved + most)) (sym link) (omega (arith, begun, less))

        moved_waits : (k : ℕ) (x : End) → ((k ≡ conn) × ((y : End) × ((end_at w.ends k ≡ Some y) × (x ≡ moves y)))) ⊎ ((k ≢ conn) × (end_at w.ends k ≡ Some x)) → IsWaiting v.bus.waiting.queues k x
        moved_waits k x (inl a) =
            let same : e ≡ a.1.0 = same_Some e a.1.0 (sym at ∙ ap (end_at w.ends) (sym a.0) ∙ a.1.1.0) in
            let it : x ≡ moves e = a.1.1.1 ∙ ap moves (sym same) in
            record {
              begun = subst (λ (y : End). IsBegun y.down_moved y.down) (sym it) begun_so;
              bytes = ap (queue_of v.bus.waiting.queues) a.0 ∙ left ∙ ap (λ (y : End). drop y.down_moved (bytes_down y.down)) (sym it);
            }
        moved_waits k x (inr c) =
            let old = is.wait k x c.1 in
            record { begun = old.begun; bytes = ap or_nothing (at_other w.bus.waiting.queues conn (drop most (queue_of w.bus.waiting.queues conn)) k c.0) ∙ old.bytes }

        linked : IsLinked v given'
        linked = record {
          given_are = at_it.ends_are ∙ ap (slice_set given conn) lies ∙ ap (λ l. slice_set l conn (given_of (moves e))) is.given_are ∙ sym (map-changed_known given_of moves w.ends conn e at)
              ∙ ap (map given_of) (sym (with-changed moves w.ends conn));
          wait = λ k x there. moved_waits k x (at_changed moves w.ends conn k x there);
          hands = record { quota = is.hands.quota; known = is.hands.known; letters = all_with AreLetters moves (λ x a. a) conn w.ends is.hands.letters };
          named = quiet_change moves (λ x. (refl, refl, refl)) w.bus.state.owners w.ends conn (λ x a. a) is.named;
          there = there_same moves (λ x. refl) (λ x. refl) w.ends conn is.there;
        }

        tied : IsCarried v b' posts
        tied = subst (λ c. IsCarried v c posts) (sym bus) (carried_below w conn moves b v.bus posts (λ x. refl) (λ x a. a) (λ x a. a) carried carried.own_told carried.closings_told linked.wait)

pub brings_down : (b b' : Bus) (posts : List Post) (given given' : List (List ℕ)) (conn most count : ℕ) → count ≤ most → FillsAt b b' given given' conn most count → BringsDown b b' posts given given' conn most count
brings_down b b' posts given given' conn most count few fills = λ w e carried is at. record {
  none = λ empty. none_comes w given given' b b' posts conn most count e carried is at fills empty;
  whole = λ letter rest link enough. whole_comes w given given' b b' posts conn most count e carried is at fills letter rest link (leb-true (missing letter.said.message e.down_moved) most enough);
  part = λ letter rest link less. part_comes w given given' b b' posts conn most count e carried is at fills letter rest link few (leb-false (missing letter.said.message e.down_moved) most less);
}

-- the same by what is found at the connection: nobody, or what lies at its end
pub none_there : (b : Bus) (posts : List Post) (given : List (List ℕ)) (conn most : ℕ) → length given ≤ conn → BringsDown b b posts given given conn most 0
none_there b posts given conn most past = brings_down b b posts given given conn most 0 (omega arith) (λ g there. absurd (let within = slice_get_within given conn g there in omega (arith, within, past)))

pub one_there : {F : Type 0} (r : Result ℕ F) (b b' : Bus) (posts : List Post) (given : List (List ℕ)) (conn most : ℕ) (lay lies : List ℕ) → lay ≡ get_or given conn lay → IfOk r (λ count. count ≤ most)
    → IfOk r (λ count. IsFilled b b' lay lies conn most count) → IfOk r (λ count. BringsDown b b' posts given (slice_set given conn lies) conn most count)
one_there (Ok count) b b' posts given conn most lay lies at few filled =
    brings_down b b' posts given (slice_set given conn lies) conn most count few
    (λ g there. record { now = lies; ends_are = refl; filled = subst (λ l. IsFilled b b' l lies conn most count) (at ∙ get_or_from_slice_get given conn g lay there) filled })
one_there (Err fault) b b' posts given conn most lay lies at few filled = tt

-- no byte came down
pub none_given : (a b : Bus) (conn : ℕ) (g h : List ℕ) → b ≡ a → h ≡ g → IsGiven a b g h conn 0
none_given a b conn g h bus same = record {
  there = omega arith;
  bus = bus ∙ sym (gave_none a conn);
  put = same ∙ sym (append-nil g);
}

-- where memory was wanting some had come down, among what lies at all ends
pub some_there : {F : Type 0} (r : Result ℕ F) (b b' : Bus) (given : List (List ℕ)) (conn : ℕ) (lay lies : List ℕ) → lay ≡ get_or given conn lay → OnErr r ((count : ℕ) × IsGiven b b' lay lies conn count)
    → OnErr r (GivesAt b b' given (slice_set given conn lies) conn)
some_there (Ok count) b b' given conn lay lies at gave_so = tt
some_there (Err fault) b b' given conn lay lies at gave_so = λ g there. record {
  count = gave_so.0;
  now = lies;
  ends_are = refl;
  gives = subst (λ l. IsGiven b b' l lies conn gave_so.0) (at ∙ get_or_from_slice_get given conn g lay there) gave_so.1;
}

pub on_err_so : {T E P : Type 0} (r : Result T E) → P → OnErr r P
on_err_so (Ok x) p = tt
on_err_so (Err e) p = p

-- the first message of a down link is spelled by its bytes
pub letter_spelled : (w : World) (given : List (List ℕ)) (conn : ℕ) (e : End) (letter : Letter) (rest : List Letter) → IsLinked w given → end_at w.ends conn ≡ Some e → e.down ≡ letter ∷ rest
    → IsMessage letter.said.message (written letter.said.message)
letter_spelled w given conn e letter rest is at link = (subst (AllByRecursion IsLetter) link (all_at AreLetters w.ends conn e is.hands.letters at)).0

-- where bytes wait a letter does; where none do and none lie at the end, neither does one
pub letter_waits : (w : World) (b : Bus) (posts : List Post) (given : List (List ℕ)) (conn : ℕ) (e : End) → IsCarried w b posts → IsLinked w given → end_at w.ends conn ≡ Some e → 0 < length (waits_for b conn)
    → (letter : Letter) × ((rest : List Letter) × (e.down ≡ letter ∷ rest))
letter_waits w b posts given conn e carried is at some = by e.down refl
  where
    by : (letters : List Letter) → e.down ≡ letters → (letter : Letter) × ((rest : List Letter) × (e.down ≡ letter ∷ rest))
    by [] link =
        let nothing = ap (λ (x : Bus). waits_for x conn) carried.bus_is ∙ (is.wait conn e at).bytes ∙ ap (λ l. drop e.down_moved (bytes_down l)) link ∙ drop-nil e.down_moved in
        absurd (let none = ap length nothing in omega (arith, none, some))
    by (letter ∷ rest) link = (letter, (rest, link))

-- the largest number of bytes is enough for each message
pub always_enough : (m : Envelope) (moved : ℕ) → IsMessage m (written m) → nat_le (missing m moved) 18446744073709551615 ≡ true
always_enough m moved is =
    let s : Stated (written m) = message_states m (written m) is in
    let short = s.sound.short in
    let whole = s.whole in
    le-leb (missing m moved) 18446744073709551615 (omega (arith, short, whole))
