-- What lies at the ends is the front of their down links, whatever the bus takes.
use Rattle.std.proofs.Common.{◌≡◌, ◌⊎◌, inl, inr, ℕ, zero, suc, ◌<◌, ◌≤◌, Bool, true, false, List, [], ◌∷◌, ◌++◌, length, map, take, drop, Some, refl, sym, ap, ◌∙◌, subst, append_assoc, append-nil, arith}
use Rattle.std.specs.Prelude.{◌-◌, if◌then◌else◌}
use Rattle.std.specs.List.{fold, AllByRecursion}
use Rattle.std.specs.FinMap as finmap
use Rattle.std.proofs.lemmas.List.{map-append, take-append-le}
use Rattle.std.proofs.lemmas.Option.{same_Some}
use Rattle.atspi_message.specs.Envelope.{Envelope}
use Rattle.atspi_script_lines.specs.declared.line.Party.{Party}
use Rattle.atspi_script_lines.specs.declared.line.Party.TheVariants.{Bus as The_bus, Registry}
use Rattle.atspi_match.specs.declared.routing.closing.Why.{Why}
use Rattle.atspi_match.specs.declared.routing.closing.Closing.{Closing}
use Rattle.atspi_match.specs.routing.Steps.{Move, says, delivers, closes, BusStep, bus_takes, bus_leaves}
use Rattle.atspi_match.specs.routing.Queues as queues
use Rattle.atspi_match.specs.routing.Queues.{Waiting, Bus, or_nothing, queue_of, popped}
use Rattle.atspi_bus_queues.proofs.Chains.{at_other, queue_of-insert}
use Rattle.atspi_trace.specs.Entry.{got}
use Rattle.atspi_trace.specs.Rules.{rule_in}
use Rattle.atspi_trace.specs.World.{here, Role, Said, Letter, End, World, newcomer}
use Rattle.atspi_trace.specs.Ends.{same_party, end_at, with_end, put_down, put_up, taken_up, leaves, stops}
use Rattle.atspi_trace.specs.Carrying.{Carried, Filled, letter_of, own_letter, grew, with_letter, moved, stepped, left, one_closed, settled, named, with_name, takes, takes_end}
use Rattle.atspi_trace.specs.Causes.{joins, does, on_end, routed, routes, unjoins, exits, bus_did}
use Rattle.atspi_message.specs.Spellable.{IsSpellable}
use Rattle.atspi_bus_laws.specs.handed.Handing.{IsLetter, AreLetters}
use Rattle.atspi_bus_laws.specs.handed.Naming.{IsSigned, HasLeft, AreNamed}
use Rattle.atspi_bus_laws.proofs.OfHanded.Handing.{takes_hands, ends_hands}
use Rattle.atspi_bus_laws.proofs.OfHanded.Changing.{quiet_change, stopped_named}
use Rattle.atspi_bus_laws.proofs.OfHanded.Joining.{joined_named}
use Rattle.atspi_bus_laws.proofs.OfHanded.Naming.{takes_named, ends_named}
use Rattle.atspi_world_links.specs.Changes.{changed_at}
use Rattle.atspi_world_moves.specs.inner.Told.{emptied, all_emptied}
use Rattle.atspi_world_moves.specs.Downs.{bytes_down, IsBegun, IsWaiting}
use Rattle.atspi_world_moves.specs.Linked.{given_of, IsLinked, IsThere}
use Rattle.atspi_world_links.proofs.Changes.{map-changed}
use Rattle.atspi_world_moves.proofs.Views.{with-changed, without, all_with, stepped_all, left_all}
use Rattle.atspi_world_moves.proofs.Staying.{there_same, there_stopped, there_joined}
use Rattle.atspi_world_moves.proofs.Downs.{down-append, begun_within, begun_more, wait_same, takes_wait, ends_wait}

-- the mark of each down link stands within its first message
abbrev Begun : End → Type 0
Begun e = IsBegun e.down_moved e.down

abbrev AreBegun : List End → Type 0
AreBegun ends = AllByRecursion Begun ends

all_from_each : (P : End → Type 0) (ends : List End) → ((conn : ℕ) (e : End) → end_at ends conn ≡ Some e → P e) → AllByRecursion P ends
all_from_each P [] h = tt
all_from_each P (e ∷ es) h = (h 0 e refl, all_from_each P es (λ conn x at. h (suc conn) x at))

pub begun_of : (w : World) (given : List (List ℕ)) → IsLinked w given → AreBegun w.ends
begun_of w given is = all_from_each Begun w.ends (λ conn e at. (is.wait conn e at).begun)

put_begun : (l : Letter) (e : End) → Begun e → Begun (put_down l e)
put_begun l e h = begun_more e.down_moved e.down l h

left_begun : (e : End) → Begun e → Begun (leaves e)
left_begun e h = refl

-- a letter that is put behind leaves what was given
put_given : (l : Letter) (e : End) → Begun e → given_of (put_down l e) ≡ given_of e
put_given l e h =
    ap (take e.down_moved) (down-append e.down (l ∷ [])) ∙ take-append-le e.down_moved (bytes_down e.down) (bytes_down (l ∷ [])) (begun_within e.down_moved e.down h)

kept_given : (f : End → End) → ((e : End) → Begun e → given_of (f e) ≡ given_of e) → (conn : ℕ) (ends : List End) → AreBegun ends → map given_of (with_end conn f ends) ≡ map given_of ends
kept_given f k zero [] h = refl
kept_given f k (suc conn) [] h = refl
kept_given f k zero (e ∷ es) h = ap (λ x. x ∷ map given_of es) (k e h.0)
kept_given f k (suc conn) (e ∷ es) h = ap (λ l. given_of e ∷ l) (kept_given f k conn es h.1)

module _ (letter : Envelope → Letter) where
  letter_given : (b a : Waiting) (move : Move) (ends : List End) → AreBegun ends → map given_of (with_letter letter b a move ends) ≡ map given_of ends
  letter_given b a (delivers conn m) ends h = by (grew conn b a)
    where
      by : (t : Bool) → map given_of (if t then with_end conn (put_down (letter m)) ends else ends) ≡ map given_of ends
      by true = kept_given (put_down (letter m)) (put_given (letter m)) conn ends h
      by false = refl
  letter_given b a (says m) ends h = refl
  letter_given b a (closes conn) ends h = refl

  letter_begun : (b a : Waiting) (move : Move) (ends : List End) → AreBegun ends → AreBegun (with_letter letter b a move ends)
  letter_begun b a (delivers conn m) ends h = by (grew conn b a)
    where
      by : (t : Bool) → AreBegun (if t then with_end conn (put_down (letter m)) ends else ends)
      by true = all_with Begun (put_down (letter m)) (put_begun (letter m)) conn ends h
      by false = h
  letter_begun b a (says m) ends h = h
  letter_begun b a (closes conn) ends h = h

  folded_given : (quota : ℕ) (f : Filled) (moves : List Move) → AreBegun f.ends → map given_of (fold (moved letter quota) f moves).ends ≡ map given_of f.ends
  folded_given quota f [] h = refl
  folded_given quota f (move ∷ moves) h =
      let after = queues.moved quota f.waiting move in
      folded_given quota (moved letter quota f move) moves (letter_begun f.waiting after move f.ends h) ∙ letter_given f.waiting after move f.ends h

  stepped_given : (c : Carried) (step : BusStep) → AreBegun c.ends → map given_of (stepped letter c step).ends ≡ map given_of c.ends
  stepped_given c step h = folded_given c.bus.quota (record { waiting = c.bus.waiting; ends = c.ends }) step.moves h

-- one leaves
left_given : (c : Carried) (conn : ℕ) → AreBegun c.ends → map given_of (left c conn).ends ≡ changed_at conn emptied (map given_of c.ends)
left_given c conn h =
    stepped_given own_letter (without c conn) (bus_leaves c.bus.state conn) (all_with Begun leaves left_begun conn c.ends h)
    ∙ ap (map given_of) (with-changed leaves c.ends conn)
    ∙ map-changed given_of leaves emptied (λ e. refl) c.ends conn

emptied-append : (xs ys : List Closing) (given : List (List ℕ)) → all_emptied (xs ++ ys) given ≡ all_emptied ys (all_emptied xs given)
emptied-append [] ys given = refl
emptied-append (x ∷ xs) ys given = emptied-append xs ys (changed_at x.conn emptied given)

-- closings were made, and these are told
record Settles (before after : Carried) : Type 0 where
  closed : List Closing
  told : after.bus.closings ≡ before.bus.closings ++ closed
  view : map given_of after.ends ≡ all_emptied closed (map given_of before.ends)
  begun : AreBegun after.ends

same_settles : (c : Carried) → AreBegun c.ends → Settles c c
same_settles c h = record { closed = []; told = sym (append-nil c.bus.closings); view = refl; begun = h }

both_settle : (a b c : Carried) → Settles a b → Settles b c → Settles a c
both_settle a b c f g = record {
  closed = f.closed ++ g.closed;
  told = g.told ∙ ap (λ l. l ++ g.closed) f.told ∙ append_assoc a.bus.closings f.closed g.closed;
  view = g.view ∙ ap (all_emptied g.closed) f.view ∙ sym (emptied-append f.closed g.closed (map given_of a.ends));
  begun = g.begun;
}

one_settles : (c : Carried) (due : List (ℕ × Why)) → AreBegun c.ends → Settles c (one_closed c due)
one_settles c [] h = same_settles c h
one_settles c (first ∷ rest) h = record {
  closed = record { conn = first.0; why = first.1; after = c.bus.state.next - 1 } ∷ [];
  told = refl;
  view = left_given c first.0 h;
  begun = left_all Begun put_begun left_begun c first.0 h;
}

settles : (n : ℕ) (c : Carried) → AreBegun c.ends → Settles c (settled n c)
settles zero c h = same_settles c h
settles (suc n) c h =
    let one = one_settles c c.bus.waiting.due h in
    both_settle c (one_closed c c.bus.waiting.due) (settled n (one_closed c c.bus.waiting.due)) one (settles n (one_closed c c.bus.waiting.due) one.begun)

closed_given : (n : ℕ) (c : Carried) → AreBegun c.ends → c.bus.closings ≡ [] → map given_of (settled n c).ends ≡ all_emptied (settled n c).bus.closings (map given_of c.ends)
closed_given n c h none =
    let s = settles n c h in
    s.view ∙ ap (λ l. all_emptied l (map given_of c.ends)) (sym (s.told ∙ ap (λ l. l ++ s.closed) none))

-- THE BUS TAKES A MESSAGE, OR AN END
takes_given : (c : Carried) (conn : ℕ) (who : Party) (said : Said) → AreBegun c.ends → c.bus.closings ≡ [] → map given_of (takes c conn who said).ends ≡ all_emptied (takes c conn who said).bus.closings (map given_of c.ends)
takes_given c conn who said h none =
    let off : Carried = record c { ends = with_end conn taken_up c.ends } in
    let step = bus_takes c.bus.state conn said.message (rule_in said.message) in
    let handed : Carried = stepped (letter_of who said) off step in
    let rounds = length c.bus.state.joined in
    let off_begun = all_with Begun taken_up (λ e x. x) conn c.ends h in
    let handed_begun = stepped_all Begun put_begun left_begun (letter_of who said) off step off_begun in
    let named_begun = all_with Begun (named handed.bus conn) (λ e x. x) conn handed.ends handed_begun in
    let same : map given_of (with_name conn handed).ends ≡ map given_of c.ends =
    kept_given (named handed.bus conn) (λ e x. refl) conn handed.ends handed_begun ∙ stepped_given (letter_of who said) off step off_begun ∙ kept_given taken_up (λ e x. refl) conn c.ends h in
    closed_given rounds (with_name conn handed) named_begun none ∙ ap (all_emptied (takes c conn who said).bus.closings) same

ends_given : (c : Carried) (conn : ℕ) → AreBegun c.ends → c.bus.closings ≡ [] → map given_of (takes_end c conn).ends ≡ all_emptied (takes_end c conn).bus.closings (changed_at conn emptied (map given_of c.ends))
ends_given c conn h none =
    closed_given (length c.bus.state.joined) (left c conn) (left_all Begun put_begun left_begun c conn h) none ∙ ap (all_emptied (takes_end c conn).bus.closings) (left_given c conn h)

-- the world behind it, where what lies at the ends that left is gone
pub routed_linked : (w : World) (conn : ℕ) (e : End) (said : Said) (rest : List Said) (given given' : List (List ℕ)) (b : Bus) → IsLinked w given → IsSpellable said.message → w.bus.closings ≡ [] → end_at w.ends conn ≡ Some e
    → e.standing ≡ here → e.up ≡ said ∷ rest → b ≡ (takes (record { bus = w.bus; ends = w.ends }) conn e.who said).bus → b.state.next ≤ 4294967296 → given' ≡ all_emptied b.closings given
    → IsThere (does w (routes conn)).world.ends → IsLinked (does w (routes conn)).world given'
routed_linked w conn e said rest given given' b is spellable none at stands up same last gone there =
    let c : Carried = record { bus = w.bus; ends = w.ends } in
    let d : Carried = takes c conn e.who said in
    let it : does w (routes conn) ≡ bus_did w (got The_bus e.who said.message.serial ∷ []) d = ap (λ o. on_end w o (λ (x : End). routed w conn x.who x.up)) at ∙ ap (routed w conn e.who) up in
    let low = subst (λ (x : Bus). x.state.next ≤ 4294967296) same last in
    let hands = takes_hands c conn e.who said is.hands spellable low in
    subst (λ x. IsLinked x.world given') (sym it)
    (record {
      given_are = gone ∙ ap (λ (x : Bus). all_emptied x.closings given) same ∙ ap (all_emptied d.bus.closings) is.given_are ∙ sym (takes_given c conn e.who said (begun_of w given is) none);
      wait = takes_wait c conn e.who said is.wait;
      hands = record { quota = hands.quota; known = hands.known; letters = hands.letters };
      named = takes_named c conn e said is.hands is.named at (λ left. subst HasLeft stands left) spellable low;
      there = subst (λ x. IsThere x.world.ends) it there;
    })

pub parted_linked : (w : World) (conn : ℕ) (given given' : List (List ℕ)) (b : Bus) → IsLinked w given → w.bus.closings ≡ [] → b ≡ (takes_end (record { bus = w.bus; ends = w.ends }) conn).bus → b.state.next ≤ 4294967296
    → given' ≡ all_emptied b.closings (changed_at conn emptied given) → IsThere (does w (unjoins conn)).world.ends → IsLinked (does w (unjoins conn)).world given'
parted_linked w conn given given' b is none same last gone there =
    let c : Carried = record { bus = w.bus; ends = w.ends } in
    let d : Carried = takes_end c conn in
    let low = subst (λ (x : Bus). x.state.next ≤ 4294967296) same last in
    let hands = ends_hands c conn is.hands low in
    record {
      given_are = gone ∙ ap (λ (x : Bus). all_emptied x.closings (changed_at conn emptied given)) same ∙ ap (λ l. all_emptied d.bus.closings (changed_at conn emptied l)) is.given_are ∙ sym (ends_given c conn (begun_of w given is) none);
      wait = ends_wait c conn is.wait;
      hands = record { quota = hands.quota; known = hands.known; letters = hands.letters };
      named = ends_named c conn is.hands is.named low;
      there = there;
    }

-- an end that changes, and not its down link
changed_linked : (f : End → End) → ((e : End) → (f e).down ≡ e.down) → ((e : End) → (f e).down_moved ≡ e.down_moved) → (w : World) (conn : ℕ) (given : List (List ℕ)) → IsLinked w given
    → AreNamed w.bus.state.owners (with_end conn f w.ends) → IsThere (with_end conn f w.ends) → IsLinked (record w { ends = with_end conn f w.ends }) given
changed_linked f link mark w conn given is named there = record {
  given_are = is.given_are ∙ sym (kept_given f (λ e h. ap (λ n. take n (bytes_down (f e).down)) (mark e) ∙ ap (λ l. take e.down_moved (bytes_down l)) (link e)) conn w.ends (begun_of w given is));
  wait = wait_same f link mark w.bus.waiting.queues w.ends conn is.wait;
  hands = record {
    quota = is.hands.quota;
    known = is.hands.known;
    letters = all_with AreLetters f (λ e a. subst (AllByRecursion IsLetter) (sym (link e)) a) conn w.ends is.hands.letters;
  };
  named = named;
  there = there;
}

-- a change that leaves who an end is, its name, how it stands, and its down link
abbrev pub LeavesDown : (End → End) → Type 0
LeavesDown f = (e : End) → ((f e).who ≡ e.who) × ((f e).unique ≡ e.unique) × ((f e).standing ≡ e.standing) × ((f e).down ≡ e.down) × ((f e).down_moved ≡ e.down_moved)

pub linked_same : (w : World) (conn : ℕ) (f : End → End) (given : List (List ℕ)) → LeavesDown f → IsLinked w given → IsLinked (record w { ends = with_end conn f w.ends }) given
linked_same w conn f given same is =
    changed_linked f (λ e. (same e).3) (λ e. (same e).4) w conn given is
    (quiet_change f (λ e. ((same e).0, (same e).1, (same e).2)) w.bus.state.owners w.ends conn (λ e a. subst (AllByRecursion (IsSigned w.ends)) (sym (same e).3) a) is.named)
    (there_same f (λ e. (same e).0) (λ e. (same e).2) w.ends conn is.there)

-- an end that is there stops, and it is not the registry
pub exited_linked : (w : World) (conn : ℕ) (e : End) (given : List (List ℕ)) → IsLinked w given → end_at w.ends conn ≡ Some e → e.standing ≡ here → same_party e.who Registry ≡ false
    → IsLinked (does w (exits conn)).world given
exited_linked w conn e given is at stands other =
    changed_linked stops (λ x. refl) (λ x. refl) w conn given is (stopped_named w.bus.state.owners w.ends conn e at (λ left. subst HasLeft stands left) is.named)
    (there_stopped w.ends conn e at other is.there)

-- an end joins
at_joined : (ends : List End) (n : End) (conn : ℕ) (e : End) → end_at (ends ++ n ∷ []) conn ≡ Some e → ((end_at ends conn ≡ Some e) × (conn < length ends)) ⊎ ((conn ≡ length ends) × (n ≡ e))
at_joined [] n zero e h = inr (refl, same_Some n e h)
at_joined [] n (suc conn) e h = absurd cc
at_joined (x ∷ xs) n zero e h = inl (h, omega arith)
at_joined (x ∷ xs) n (suc conn) e h = by (at_joined xs n conn e h)
  where
    by : ((end_at xs conn ≡ Some e) × (conn < length xs)) ⊎ ((conn ≡ length xs) × (n ≡ e)) → ((end_at xs conn ≡ Some e) × (suc conn < suc (length xs))) ⊎ ((suc conn ≡ suc (length xs)) × (n ≡ e))
    by (inl a) = inl (a.0, omega (arith, a.1))
    by (inr b) = inr (ap suc b.0, b.1)

more_letters : (ends : List End) (n : End) → AllByRecursion AreLetters ends → AreLetters n → AllByRecursion AreLetters (ends ++ n ∷ [])
more_letters [] n a h = (h, tt)
more_letters (x ∷ xs) n a h = (a.0, more_letters xs n a.1 h)

pub joined_linked : (w : World) (who : Party) (role : Role) (given given' : List (List ℕ)) (none : List ℕ) → IsLinked w given → given' ≡ given ++ none ∷ [] → none ≡ [] → (w.ends ≡ [] → who ≡ Registry)
    → IsLinked (joins w who role []) given'
joined_linked w who role given given' none is more empty first =
    let n : End = put_up [] (newcomer who role) in
    record {
      given_are = more ∙ ap (λ x. given ++ x ∷ []) empty ∙ ap (λ l. l ++ [] ∷ []) is.given_are ∙ sym (map-append given_of w.ends (n ∷ []));
      wait = λ conn e at. by conn e (at_joined w.ends n conn e at);
      hands = record { quota = is.hands.quota; known = is.hands.known; letters = more_letters w.ends n is.hands.letters tt };
      named = joined_named w.bus.state.owners w.ends who role [] is.named;
      there = there_joined w.ends n refl first is.there;
    }
  where
    by : (conn : ℕ) (e : End) → ((end_at w.ends conn ≡ Some e) × (conn < length w.ends)) ⊎ ((conn ≡ length w.ends) × (put_up [] (newcomer who role) ≡ e)) → IsWaiting (finmap.insert w.bus.waiting.queues (length w.ends) []) conn e
    by conn e (inl a) =
        let was = is.wait conn e a.0 in
        record { begun = was.begun; bytes = ap or_nothing (at_other w.bus.waiting.queues (length w.ends) [] conn (λ q. omega (arith, q, a.1))) ∙ was.bytes }
    by conn e (inr b) = record {
      begun = subst (λ (y : End). IsBegun y.down_moved y.down) b.1 refl;
      bytes = ap (queue_of (finmap.insert w.bus.waiting.queues (length w.ends) [])) b.0 ∙ queue_of-insert w.bus.waiting.queues (length w.ends) [] ∙ ap (λ (y : End). drop y.down_moved (bytes_down y.down)) b.1;
    }
