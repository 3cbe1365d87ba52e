-- Bytes of a queue that come down a link, piece by piece.
use Rattle.std.proofs.Common.{◌≡◌, ◌⊎◌, inl, inr, ℕ, ◌+◌, ◌-◌, ◌<◌, ◌≤◌, List, ◌++◌, length, take, drop, Option, None, Some, refl, sym, ap, ◌∙◌, subst, append_assoc, append-nil, take-add, arith}
use Rattle.std.specs.Prelude.{is_some, cond}
use Rattle.std.specs.FinMap as finmap
use Rattle.std.specs.FinMap.{FinMap}
use Rattle.std.specs.Ordering.{nat_cmp}
use Rattle.std.proofs.Math.Seq.{drop-nil}
use Rattle.std.proofs.lemmas.Bool.{cases_lt}
use Rattle.std.proofs.lemmas.List.{drop-drop, length-append, length-drop, length-take-le, take-append-le, take-append-drop, take_at}
use Rattle.atspi_message.specs.Envelope.{Envelope}
use Rattle.atspi_message.specs.Bytes.{IsMessage, written}
use Rattle.atspi_message.specs.Front.{length_in, IsSoundFront}
use Rattle.atspi_stream.specs.Stream.{stated, AwaitsMore, few, unfinished}
use Rattle.atspi_stream.proofs.StreamLaws.{Stated, message_states}
use Rattle.atspi_bus_queues.specs.Change.{with_queue}
use Rattle.atspi_bus_queues.proofs.Chains.{at_key, insert-insert}
use Rattle.atspi_match.specs.routing.Queues.{Bus, or_nothing, queue_of}
use Rattle.atspi_world_moves.specs.Filled.{waits_for, gave, IsGiven, IsFilled}
use Rattle.atspi_world_moves.specs.inner.Filled.{IsAwaited}

-- what is taken away in two pieces
pub both_gone : (queues : FinMap nat_cmp (List ℕ)) (conn m n : ℕ) (o : Option (List ℕ)) → finmap.get queues conn ≡ o → (now : FinMap nat_cmp (List ℕ))
    → now ≡ with_queue queues conn (drop m (queue_of queues conn)) → (queue_of now conn ≡ drop m (queue_of queues conn))
    × (with_queue now conn (drop n (queue_of now conn)) ≡ with_queue queues conn (drop (m + n) (queue_of queues conn)))
both_gone queues conn m n None none now is =
    let same : now ≡ queues = is ∙ ap (λ o. cond (is_some o) (finmap.insert queues conn (drop m (queue_of queues conn))) queues) none in
    let empty : queue_of queues conn ≡ or_nothing None = ap or_nothing none in (
      ap (λ q. queue_of q conn) same ∙ nothing m (queue_of queues conn) empty,
      ap (λ q. with_queue q conn (drop n (queue_of q conn))) same ∙ ap (with_queue queues conn) (sym (nothing n (queue_of queues conn) empty) ∙ nothing (m + n) (queue_of queues conn) empty),
    )
  where
    nothing : (k : ℕ) (bytes : List ℕ) → bytes ≡ or_nothing None → bytes ≡ drop k bytes
    nothing k bytes e = e ∙ sym (drop-nil k) ∙ ap (drop k) (sym e)
both_gone queues conn m n (Some bytes) some now is =
    let put : now ≡ finmap.insert queues conn (drop m (queue_of queues conn)) =
    is ∙ ap (λ o. cond (is_some o) (finmap.insert queues conn (drop m (queue_of queues conn))) queues) some in
    let there : finmap.get now conn ≡ Some (drop m (queue_of queues conn)) = ap (λ q. finmap.get q conn) put ∙ at_key queues conn (drop m (queue_of queues conn)) in
    let left : queue_of now conn ≡ drop m (queue_of queues conn) = ap or_nothing there in (
      left,
      ap (λ o. cond (is_some o) (finmap.insert now conn (drop n (queue_of now conn))) now) there
          ∙ ap (λ q. finmap.insert now conn (drop n q)) left
          ∙ ap (finmap.insert now conn) (drop-drop n m (queue_of queues conn))
          ∙ ap (λ q. finmap.insert q conn (drop (m + n) (queue_of queues conn))) put
          ∙ insert-insert queues conn (drop m (queue_of queues conn)) (drop (m + n) (queue_of queues conn))
          ∙ sym (ap (λ o. cond (is_some o) (finmap.insert queues conn (drop (m + n) (queue_of queues conn))) queues) some),
    )

-- and then more
pub given_more : (a b c : Bus) (conn m n : ℕ) (g h i : List ℕ) → IsGiven a b g h conn m → IsGiven b c h i conn n → IsGiven a c g i conn (m + n)
given_more a b c conn m n g h i first rest =
    let both = both_gone a.waiting.queues conn m n (finmap.get a.waiting.queues conn) refl b.waiting.queues (ap (λ (x : Bus). x.waiting.queues) first.bus) in
    let left : waits_for b conn ≡ drop m (waits_for a conn) = both.0 in
    let many : length (waits_for b conn) ≡ length (waits_for a conn) - m = ap length left ∙ length-drop m (waits_for a conn) in
    record {
      there = (let within = first.there in let more = rest.there in omega (arith, within, more, many));
      bus = rest.bus ∙ ap (λ (x : Bus). record x { waiting = record x.waiting { queues = with_queue b.waiting.queues conn (drop n (waits_for b conn)) } }) first.bus
          ∙ ap (λ q. record a { waiting = record a.waiting { queues = q } }) both.1;
      put = rest.put ∙ ap (λ l. h ++ take n l) left ∙ ap (λ l. l ++ take n (drop m (waits_for a conn))) first.put
          ∙ append_assoc g (take m (waits_for a conn)) (take n (drop m (waits_for a conn))) ∙ ap (λ l. g ++ l) (sym (take-add m n (waits_for a conn)));
    }

-- a piece of the front of a queue
pub given_piece : (a b : Bus) (conn count : ℕ) (front rest given given' : List ℕ) → waits_for a conn ≡ front ++ rest → count ≤ length front → given' ≡ given ++ take count front
    → b ≡ gave a conn count → count ≤ length (waits_for a conn) → IsGiven a b given given' conn count
given_piece a b conn count front rest given given' front_is less put bus within = record {
  there = within;
  bus = bus;
  put = put ∙ ap (λ l. given ++ l) (sym (take-append-le count front rest less) ∙ ap (take count) (sym front_is));
}

-- what was given and what waits stay the same bytes
pub given_whole : (a b : Bus) (conn n : ℕ) (g h : List ℕ) → IsGiven a b g h conn n → h ++ waits_for b conn ≡ g ++ waits_for a conn
given_whole a b conn n g h gives =
    let both = both_gone a.waiting.queues conn n 0 (finmap.get a.waiting.queues conn) refl b.waiting.queues (ap (λ (x : Bus). x.waiting.queues) gives.bus) in
    ap (λ l. h ++ l) both.0 ∙ ap (λ l. l ++ drop n (waits_for a conn)) gives.put ∙ append_assoc g (take n (waits_for a conn)) (drop n (waits_for a conn))
    ∙ ap (λ l. g ++ l) (take-append-drop n (waits_for a conn))

-- what waits then, and how much lies there
pub given_left : (a b : Bus) (conn n : ℕ) (g h : List ℕ) → IsGiven a b g h conn n → waits_for b conn ≡ drop n (waits_for a conn)
given_left a b conn n g h gives = (both_gone a.waiting.queues conn n 0 (finmap.get a.waiting.queues conn) refl b.waiting.queues (ap (λ (x : Bus). x.waiting.queues) gives.bus)).0

pub given_long : (a b : Bus) (conn n : ℕ) (g h : List ℕ) → IsGiven a b g h conn n → length h ≡ length g + n
given_long a b conn n g h gives = ap length gives.put ∙ length-append g (take n (waits_for a conn)) ∙ ap (λ k. length g + k) (length-take-le n (waits_for a conn) gives.there)

-- what a message awaits is not more than the message
pub awaited_within : (m : Envelope) (given waiting rest : List ℕ) (count : ℕ) → IsMessage m (written m) → given ++ waiting ≡ written m ++ rest → length given ≤ length (written m) → IsAwaited given count
    → length given + count ≤ length (written m)
awaited_within m given waiting rest count is all less awaited = by (cases_lt (length given) 16) (cases_lt 0 count)
  where
    s : Stated (written m)
    s = message_states m (written m) is

    by : (length given < 16) ⊎ (16 ≤ length given) → (0 < count) ⊎ (count ≤ 0) → length given + count ≤ length (written m)
    by (inl short) some = (let front = awaited.front short in let long = s.long in omega (arith, front, long))
    by (inr long) (inr none) = omega (arith, none, less)
    by (inr long) (inl some) =
        let front : take 16 given ≡ take 16 (written m) = sym (take-append-le 16 given waiting long) ∙ ap (take 16) all ∙ take-append-le 16 (written m) rest s.long in
        let same : stated given ≡ length (written m) = ap length_in front ∙ s.whole in
        let whole = awaited.whole long some in
        omega (arith, whole, same)

-- a part of a message awaits more
pub part_awaits : (m : Envelope) (h waiting rest : List ℕ) → IsMessage m (written m) → h ++ waiting ≡ written m ++ rest → length h < length (written m) → AwaitsMore h
part_awaits m h waiting rest is same less = by (cases_lt (length h) 16)
  where
    s : Stated (written m)
    s = message_states m (written m) is

    by : (length h < 16) ⊎ (16 ≤ length h) → AwaitsMore h
    by (inl short) = few short
    by (inr long) =
        let front : take 16 h ≡ take 16 (written m) = sym (take-append-le 16 h waiting long) ∙ ap (take 16) same ∙ take-append-le 16 (written m) rest s.long in
        unfinished long (subst IsSoundFront (sym front) s.sound) (let whole : stated h ≡ length (written m) = ap length_in front ∙ s.whole in omega (arith, whole, less))

-- and where more waits it is not the last
pub part_goes_on : (m : Envelope) (a b : Bus) (conn most count : ℕ) (g h rest : List ℕ) → IsFilled a b g h conn most count → IsMessage m (written m) → g ++ waits_for a conn ≡ written m ++ rest
    → length h < length (written m) → most ≤ count
part_goes_on m a b conn most count g h rest filled is all less = by (cases_lt count most)
  where
    same : h ++ waits_for b conn ≡ written m ++ rest
    same = given_whole a b conn count g h filled.gives ∙ all

    by : (count < most) ⊎ (most ≤ count) → most ≤ count
    by (inr done) = done
    by (inl fewer) =
        let left : 0 < length (waits_for b conn) = (let sum = ap length same in omega (arith, sum, less, length-append h (waits_for b conn), length-append (written m) rest)) in
        absurd (filled.stops fewer left (part_awaits m h (waits_for b conn) rest is same less))

-- A MESSAGE THAT WAITS COMES DOWN WHOLE where so many bytes may be moved, and no byte behind it
pub filled_whole : (m : Envelope) (a b : Bus) (conn most count : ℕ) (g h rest : List ℕ) → IsFilled a b g h conn most count → IsMessage m (written m) → g ++ waits_for a conn ≡ written m ++ rest
    → length g ≤ length (written m) → length (written m) ≤ length g + most → h ≡ written m
filled_whole m a b conn most count g h rest filled is all short enough = by (cases_lt (length h) (length (written m)))
  where
    same : h ++ waits_for b conn ≡ written m ++ rest
    same = given_whole a b conn count g h filled.gives ∙ all

    by : (length h < length (written m)) ⊎ (length (written m) ≤ length h) → h ≡ written m
    by (inl less) =
        let all_moved = part_goes_on m a b conn most count g h rest filled is all less in
        let long = given_long a b conn count g h filled.gives in
        absurd (omega (arith, all_moved, long, less, enough))
    by (inr more) =
        let within = filled.within m rest is all short in
        let long : length h ≡ length (written m) = omega (arith, within, more) in
        sym (take_at h (waits_for b conn) (length (written m)) long) ∙ ap (take (length (written m))) same ∙ take_at (written m) rest (length (written m)) refl

-- what was given with a piece stays within the message
pub piece_within : (a b : Bus) (conn n : ℕ) (g h : List ℕ) (m : Envelope) (rest : List ℕ) → IsGiven a b g h conn n → IsAwaited g n → IsMessage m (written m) → g ++ waits_for a conn ≡ written m ++ rest
    → length g ≤ length (written m) → length h ≤ length (written m)
piece_within a b conn n g h m rest gives awaited is all less =
    let within = awaited_within m g (waits_for a conn) rest n is all less awaited in
    let long = given_long a b conn n g h gives in
    omega (arith, within, long)

-- where no byte was given: none may be, none waits, or none is awaited
pub stopped : (a b : Bus) (conn n left : ℕ) (g h : List ℕ) → IsGiven a b g h conn n → n ≡ 0 → (0 < left → 0 < length (waits_for a conn) → AwaitsMore g → 0 < n)
    → 0 < left → 0 < length (waits_for b conn) → AwaitsMore h → ⊥
stopped a b conn n left g h gives none some more waits awaits =
    let many : length (waits_for b conn) ≡ length (waits_for a conn) - n = ap length (given_left a b conn n g h gives) ∙ length-drop n (waits_for a conn) in
    let same : h ≡ g = gives.put ∙ ap (λ k. g ++ take k (waits_for a conn)) none ∙ append-nil g in
    let one = some more (omega (arith, waits, many)) (subst AwaitsMore same awaits) in
    omega (arith, one, none)
