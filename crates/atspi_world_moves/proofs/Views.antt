-- The connections of a world's ends, through what the bus does: messages that are handed to ends change none, and closings make some leave.
use Rattle.std.proofs.Common.{◌≡◌, ℕ, zero, suc, ◌<◌, Bool, true, false, List, [], ◌∷◌, ◌++◌, length, map, take, refl, sym, ap, ◌∙◌, subst, append-nil, append_assoc, arith}
use Rattle.std.proofs.Math.Seq.{take-nil}
use Rattle.std.specs.Prelude.{◌-◌, if◌then◌else◌}
use Rattle.std.specs.List.{fold, AllByRecursion}
use Rattle.atspi_message.specs.Envelope.{Envelope}
use Rattle.atspi_message.specs.Bytes.{Field, header_bytes, spelled_with, rising_fields, written, IsMessage}
use Rattle.atspi_match.specs.declared.routing.closing.Why.{Why}
use Rattle.atspi_match.specs.declared.routing.closing.Closing.{Closing}
use Rattle.atspi_match.specs.routing.Steps.{Move, says, delivers, closes, BusStep, bus_leaves}
use Rattle.atspi_match.specs.routing.Queues as queues
use Rattle.atspi_match.specs.routing.Queues.{Waiting, Bus, without_queue}
use Rattle.atspi_world_links.specs.declared.post.Post.{Post}
use Rattle.atspi_trace.specs.World.{Said, Letter, End}
use Rattle.atspi_trace.specs.Ends.{with_end, put_down, rest_of, taken_up, leaves}
use Rattle.atspi_trace.specs.Carrying.{Carried, Filled, own_letter, grew, with_letter, moved, stepped, left, one_closed, settled, named}
use Rattle.atspi_world_links.specs.Changes.{changed_at}
use Rattle.atspi_world_moves.specs.inner.Told.{gone, all_gone, whose}
use Rattle.atspi_world_moves.specs.Carried.{post_of, IsSendable, AreSendable, IsWithin, HasMark}
use Rattle.atspi_world_moves.specs.Halted.{naming_of}
use Rattle.atspi_world_links.proofs.Changes.{length-changed, map-changed, map-kept}

pub with-changed : (f : End → End) (ends : List End) (conn : ℕ) → with_end conn f ends ≡ changed_at conn f ends
with-changed f [] zero = refl
with-changed f [] (suc conn) = refl
with-changed f (e ∷ es) zero = refl
with-changed f (e ∷ es) (suc conn) = ap (λ l. e ∷ l) (with-changed f es conn)

-- what is handed to ends
module _ (letter : Envelope → Letter) where
  letter_view : (b a : Waiting) (move : Move) (ends : List End) → map post_of (with_letter letter b a move ends) ≡ map post_of ends
  letter_view b a (delivers conn m) ends = by (grew conn b a)
    where
      by : (t : Bool) → map post_of (if t then with_end conn (put_down (letter m)) ends else ends) ≡ map post_of ends
      by true = ap (map post_of) (with-changed (put_down (letter m)) ends conn) ∙ map-kept post_of (put_down (letter m)) (λ e. refl) ends conn
      by false = refl
  letter_view b a (says m) ends = refl
  letter_view b a (closes conn) ends = refl

  folded_view : (quota : ℕ) (f : Filled) (moves : List Move) → map post_of (fold (moved letter quota) f moves).ends ≡ map post_of f.ends
  folded_view quota f [] = refl
  folded_view quota f (move ∷ moves) = folded_view quota (moved letter quota f move) moves ∙ letter_view f.waiting (queues.moved quota f.waiting move) move f.ends

  pub stepped_view : (c : Carried) (step : BusStep) → map post_of (stepped letter c step).ends ≡ map post_of c.ends
  stepped_view c step = folded_view c.bus.quota (record { waiting = c.bus.waiting; ends = c.ends }) step.moves

-- who leaves
abbrev pub without : Carried → ℕ → Carried
without c conn = record { bus = record c.bus { waiting = without_queue c.bus.waiting conn }; ends = with_end conn leaves c.ends }

pub left_view : (c : Carried) (conn : ℕ) → map post_of (left c conn).ends ≡ changed_at conn gone (map post_of c.ends)
left_view c conn =
    stepped_view own_letter (without c conn) (bus_leaves c.bus.state conn)
    ∙ ap (map post_of) (with-changed leaves c.ends conn)
    ∙ map-changed post_of leaves gone (λ e. refl) c.ends conn

pub gone-append : (xs ys : List Closing) (posts : List Post) → all_gone (xs ++ ys) posts ≡ all_gone ys (all_gone xs posts)
gone-append [] ys posts = refl
gone-append (x ∷ xs) ys posts = gone-append xs ys (changed_at x.conn gone posts)

-- leaving changes nobody's party
pub gone_whose : (cs : List Closing) (posts : List Post) → map whose (all_gone cs posts) ≡ map whose posts
gone_whose [] posts = refl
gone_whose (c ∷ cs) posts = gone_whose cs (changed_at c.conn gone posts) ∙ map-kept whose gone (λ p. refl) posts c.conn

-- nor a name
pub gone_names : (cs : List Closing) (posts : List Post) → map naming_of (all_gone cs posts) ≡ map naming_of posts
gone_names [] posts = refl
gone_names (c ∷ cs) posts = gone_names cs (changed_at c.conn gone posts) ∙ map-kept naming_of gone (λ p. refl) posts c.conn

pub length-gone : (cs : List Closing) (posts : List Post) → length (all_gone cs posts) ≡ length posts
length-gone [] posts = refl
length-gone (c ∷ cs) posts = length-gone cs (changed_at c.conn gone posts) ∙ length-changed gone posts c.conn

-- closings were made, and these are told
pub record Settles (before after : Carried) : Type 0 where
  pub closed : List Closing
  pub told : after.bus.closings ≡ before.bus.closings ++ closed
  pub view : map post_of after.ends ≡ all_gone closed (map post_of before.ends)

same_settles : (c : Carried) → Settles c c
same_settles c = record { closed = []; told = sym (append-nil c.bus.closings); view = refl }

both_settle : (a b c : Carried) → Settles a b → Settles b c → Settles a c
both_settle a b c f g = record {
  closed = f.closed ++ g.closed;
  told = g.told ∙ ap (λ l. l ++ g.closed) f.told ∙ append_assoc a.bus.closings f.closed g.closed;
  view = g.view ∙ ap (all_gone g.closed) f.view ∙ sym (gone-append f.closed g.closed (map post_of a.ends));
}

one_settles : (c : Carried) (due : List (ℕ × Why)) → Settles c (one_closed c due)
one_settles c [] = same_settles c
one_settles c (first ∷ rest) = record { closed = record { conn = first.0; why = first.1; after = c.bus.state.next - 1 } ∷ []; told = refl; view = left_view c first.0 }

pub settles : (n : ℕ) (c : Carried) → Settles c (settled n c)
settles zero c = same_settles c
settles (suc n) c = both_settle c (one_closed c c.bus.waiting.due) (settled n (one_closed c c.bus.waiting.due)) (one_settles c c.bus.waiting.due) (settles n (one_closed c c.bus.waiting.due))

-- A fact of each end that handing on, leaving and naming keep

module _ (P : End → Type 0) where
  pub all_with : (f : End → End) → ((e : End) → P e → P (f e)) → (conn : ℕ) (ends : List End) → AllByRecursion P ends → AllByRecursion P (with_end conn f ends)
  all_with f k zero [] a = tt
  all_with f k (suc conn) [] a = tt
  all_with f k zero (e ∷ es) a = (k e a.0, a.1)
  all_with f k (suc conn) (e ∷ es) a = (a.0, all_with f k conn es a.1)

  module _ (put : (l : Letter) (e : End) → P e → P (put_down l e)) (leaving : (e : End) → P e → P (leaves e)) where
    letter_all : (letter : Envelope → Letter) (b a : Waiting) (move : Move) (ends : List End) → AllByRecursion P ends → AllByRecursion P (with_letter letter b a move ends)
    letter_all letter b a (delivers conn m) ends h = by (grew conn b a)
      where
        by : (t : Bool) → AllByRecursion P (if t then with_end conn (put_down (letter m)) ends else ends)
        by true = all_with (put_down (letter m)) (put (letter m)) conn ends h
        by false = h
    letter_all letter b a (says m) ends h = h
    letter_all letter b a (closes conn) ends h = h

    folded_all : (letter : Envelope → Letter) (quota : ℕ) (f : Filled) (moves : List Move) → AllByRecursion P f.ends → AllByRecursion P (fold (moved letter quota) f moves).ends
    folded_all letter quota f [] h = h
    folded_all letter quota f (move ∷ moves) h =
        folded_all letter quota (moved letter quota f move) moves (letter_all letter f.waiting (queues.moved quota f.waiting move) move f.ends h)

    pub stepped_all : (letter : Envelope → Letter) (c : Carried) (step : BusStep) → AllByRecursion P c.ends → AllByRecursion P (stepped letter c step).ends
    stepped_all letter c step h = folded_all letter c.bus.quota (record { waiting = c.bus.waiting; ends = c.ends }) step.moves h

    pub left_all : (c : Carried) (conn : ℕ) → AllByRecursion P c.ends → AllByRecursion P (left c conn).ends
    left_all c conn h = stepped_all own_letter (without c conn) (bus_leaves c.bus.state conn) (all_with leaves leaving conn c.ends h)

    one_all : (c : Carried) (due : List (ℕ × Why)) → AllByRecursion P c.ends → AllByRecursion P (one_closed c due).ends
    one_all c [] h = h
    one_all c (first ∷ rest) h = left_all c first.0 h

    pub settled_all : (n : ℕ) (c : Carried) → AllByRecursion P c.ends → AllByRecursion P (settled n c).ends
    settled_all zero c h = h
    settled_all (suc n) c h = settled_all n (one_closed c c.bus.waiting.due) (one_all c c.bus.waiting.due h)

-- messages on up links stay what they are
pub put_sendable : (l : Letter) (e : End) → AreSendable e → AreSendable (put_down l e)
put_sendable l e h = h

pub left_sendable : (e : End) → AreSendable e → AreSendable (leaves e)
left_sendable e h = tt

pub named_sendable : (b : Bus) (conn : ℕ) (e : End) → AreSendable e → AreSendable (named b conn e)
named_sendable b conn e h = h

pub taken_sendable : (e : End) → AreSendable e → AreSendable (taken_up e)
taken_sendable e h = rest e.up h
  where
    rest : (saids : List Said) → AllByRecursion (λ (said : Said). IsSendable said.message) saids → AllByRecursion (λ (said : Said). IsSendable said.message) (rest_of saids)
    rest [] a = tt
    rest (s ∷ ss) a = a.1

-- each message has bytes
spelled_some : (m : Envelope) (fs : List Field) → 0 < length (spelled_with m fs)
unfolding spelled_with header_bytes
spelled_some m fs = omega arith

pub written_some : (m : Envelope) → 0 < length (written m)
written_some m = spelled_some m (rising_fields m)

pub empty_message : (m : Envelope) (n : ℕ) (bytes : List ℕ) → bytes ≡ [] → IsMessage m (take n bytes) → ⊥
empty_message m n bytes none is =
    let short : length (spelled_with m is.fields) ≡ 0 = ap length (sym is.spelled ∙ ap (take n) none ∙ take-nil n) in
    omega (arith, short, spelled_some m is.fields)

-- marks stay within first messages
pub fresh : (saids : List Said) → IsWithin 0 saids
fresh [] = refl
fresh (s ∷ ss) = written_some s.message

pub within_more : (moved : ℕ) (saids more : List Said) → IsWithin moved saids → IsWithin moved (saids ++ more)
within_more moved [] more h = subst (λ n. IsWithin n more) (sym h) (fresh more)
within_more moved (s ∷ ss) more h = h

pub put_mark : (l : Letter) (e : End) → HasMark e → HasMark (put_down l e)
put_mark l e h = h

pub left_mark : (e : End) → HasMark e → HasMark (leaves e)
left_mark e h = refl

pub named_mark : (b : Bus) (conn : ℕ) (e : End) → HasMark e → HasMark (named b conn e)
named_mark b conn e h = h

pub taken_mark : (e : End) → HasMark e → HasMark (taken_up e)
taken_mark e h = fresh (rest_of e.up)
