-- Each letter that waits on a down link is what its bytes spell, whatever the bus takes.
use Rattle.std.proofs.Common.{◌≡◌, ℕ, zero, suc, ◌+◌, ◌≤◌, Bool, true, false, List, [], ◌∷◌, ◌++◌, length, Option, Some, refl, sym, ap, ◌∙◌, subst, arith}
use Rattle.std.specs.Prelude.{nat_lt, if◌then◌else◌}
use Rattle.std.specs.List.{AllByRecursion, fold}
use Rattle.std.specs.FinMap as finmap
use Rattle.std.proofs.lemmas.Bool.{ltb-true, ltb-false}
use Rattle.atspi_script_lines.specs.declared.line.Party.{Party}
use Rattle.atspi_message.specs.Envelope.{Envelope}
use Rattle.atspi_message.specs.Bytes.{IsMessage, written}
use Rattle.atspi_names.specs.Owners.{own_name, after_gone}
use Rattle.atspi_match.specs.declared.routing.closing.Why.{Why}
use Rattle.atspi_match.specs.declared.routing.closing.Why.TheVariants.{Quota}
use Rattle.atspi_match.specs.routing.BusState.{BusState, unique_of}
use Rattle.atspi_match.specs.routing.Members.{is_text}
use Rattle.atspi_match.specs.routing.Steps.{Move, says, delivers, closes, BusStep, farewell, bus_takes, bus_leaves}
use Rattle.atspi_match.specs.routing.Queues.{Waiting, queue_of, is_due, doomed, without_queue, told_length}
use Rattle.atspi_trace.specs.Rules.{rule_in}
use Rattle.atspi_trace.specs.World.{Said, Letter, End}
use Rattle.atspi_trace.specs.Ends.{with_end, put_down, taken_up, leaves}
use Rattle.atspi_trace.specs.Carrying.{Carried, Filled, letter_of, own_letter, grew, moved, stepped, left, one_closed, settled, named, with_name, takes, takes_end}
use Rattle.atspi_message.specs.Spellable.{IsSpellable}
use Rattle.atspi_bus_laws.specs.handed.Handing.{IsLetter, AreLetters, HandsLetters}
use Rattle.atspi_bus_laws.proofs.OfHanded.Lists.{all_append}
use Rattle.atspi_message.proofs.Short.{short_spelled}
use Rattle.atspi_bus_laws.proofs.OfHanded.Steps.{HandsOn, signer, takes_done, leaves_done}

abbrev Letters : List End → Type 0
Letters ends = AllByRecursion AreLetters ends

with_letters : (f : End → End) → ((e : End) → AreLetters e → AreLetters (f e)) → (conn : ℕ) (ends : List End) → Letters ends → Letters (with_end conn f ends)
with_letters f k zero [] a = tt
with_letters f k (suc conn) [] a = tt
with_letters f k zero (e ∷ es) a = (k e a.0, a.1)
with_letters f k (suc conn) (e ∷ es) a = (a.0, with_letters f k conn es a.1)

not_grown : (n : ℕ) → nat_lt n n ≡ false
not_grown n = by (nat_lt n n) refl
  where
    by : (b : Bool) → nat_lt n n ≡ b → b ≡ false
    by true e = absurd (omega (arith, ltb-true n n e))
    by false e = refl

doomed_queues : (w : Waiting) (k : ℕ) (why : Why) → (doomed w k why).queues ≡ w.queues
doomed_queues w k why = by (is_due k w.due)
  where
    by : (b : Bool) → (if b then w else record w { due = w.due ++ (k, why) ∷ [] }).queues ≡ w.queues
    by true = refl
    by false = refl

-- the queues after a delivery, by whether its connection is to be closed, and whether its queue is full
abbrev after_delivery : Waiting → ℕ → Envelope → Bool → Bool → Waiting
after_delivery w k m due full =
    if due then w
    else if full then doomed w k (Quota (length (queue_of w.queues k)) (told_length (written m)))
    else record w { queues = finmap.insert w.queues k (queue_of w.queues k ++ written m) }

module _ (letter : Envelope → Letter) (is_it : (m : Envelope) → (letter m).said.message ≡ m) where
  put_letter : (m : Envelope) → IsMessage m (written m) → (e : End) → AreLetters e → AreLetters (put_down (letter m) e)
  put_letter m h e a = all_append IsLetter e.down (letter m ∷ []) a (subst (λ x. IsMessage x (written x)) (sym (is_it m)) h, tt)

  -- no more bytes, no letter
  kept : (k : ℕ) (m : Envelope) (before after : Waiting) (ends : List End) → after.queues ≡ before.queues → Letters ends → Letters (if grew k before after then with_end k (put_down (letter m)) ends else ends)
  kept k m before after ends same a =
      subst (λ b. Letters (if b then with_end k (put_down (letter m)) ends else ends))
      (sym (ap (λ q. nat_lt (length (queue_of before.queues k)) (length (queue_of q k))) same ∙ not_grown (length (queue_of before.queues k)))) a

  put : (k : ℕ) (m : Envelope) (b : Bool) (ends : List End) → IsMessage m (written m) → Letters ends → Letters (if b then with_end k (put_down (letter m)) ends else ends)
  put k m true ends h a = with_letters (put_down (letter m)) (put_letter m h) k ends a
  put k m false ends h a = a

  delivered : (quota : ℕ) (f : Filled) (k : ℕ) (m : Envelope) → quota ≤ 67108864 → IsSpellable m → Letters f.ends → Letters (moved letter quota f (delivers k m)).ends
  delivered quota f k m few h a = by (is_due k f.waiting.due) (nat_lt quota (length (queue_of f.waiting.queues k) + length (written m))) refl
    where
      by : (due full : Bool) → nat_lt quota (length (queue_of f.waiting.queues k) + length (written m)) ≡ full
          → Letters (if grew k f.waiting (after_delivery f.waiting k m due full) then with_end k (put_down (letter m)) f.ends else f.ends)
      by true full e = kept k m f.waiting f.waiting f.ends refl a
      by false true e =
          let why = Quota (length (queue_of f.waiting.queues k)) (told_length (written m)) in
          kept k m f.waiting (doomed f.waiting k why) f.ends (doomed_queues f.waiting k why) a
      by false false e =
          let room = ltb-false quota (length (queue_of f.waiting.queues k) + length (written m)) e in
          put k m (grew k f.waiting (after_delivery f.waiting k m false false)) f.ends (short_spelled m h (omega (arith, few, room))) a

  moves_letters : (sender : Option (List ℕ)) (quota : ℕ) (f : Filled) (move : Move) → quota ≤ 67108864 → HandsOn sender move → Letters f.ends → Letters (moved letter quota f move).ends
  moves_letters sender quota f (delivers k m) few h a = delivered quota f k m few h.0 a
  moves_letters sender quota f (says m) few h a = a
  moves_letters sender quota f (closes k) few h a = a

  all_letters : (sender : Option (List ℕ)) (quota : ℕ) (f : Filled) (moves : List Move) → quota ≤ 67108864 → AllByRecursion (HandsOn sender) moves → Letters f.ends → Letters (fold (moved letter quota) f moves).ends
  all_letters sender quota f [] few h a = a
  all_letters sender quota f (move ∷ moves) few h a = all_letters sender quota (moved letter quota f move) moves few h.1 (moves_letters sender quota f move few h.0 a)

  stepped_letters : (sender : Option (List ℕ)) (c : Carried) (step : BusStep) → c.bus.quota ≤ 67108864 → AllByRecursion (HandsOn sender) step.moves → Letters c.ends → Letters (stepped letter c step).ends
  stepped_letters sender c step few h a = all_letters sender c.bus.quota (record { waiting = c.bus.waiting; ends = c.ends }) step.moves few h a

-- one leaves
pub left_hands : (c : Carried) (conn : ℕ) → HandsLetters c → (left c conn).bus.state.next ≤ 4294967296 → HandsLetters (left c conn)
left_hands c conn h top =
    let done = leaves_done c.bus.state conn h.known top in
    let without = record c.bus { waiting = without_queue c.bus.waiting conn } in
    record {
      quota = h.quota;
      known = done.known;
      letters = stepped_letters own_letter (λ m. refl) (Some own_name) (record { bus = without; ends = with_end conn leaves c.ends }) (bus_leaves c.bus.state conn) h.quota done.moves
          (with_letters leaves (λ e a. tt) conn c.ends h.letters);
    }

pub one_hands : (c : Carried) (due : List (ℕ × Why)) → HandsLetters c → (one_closed c due).bus.state.next ≤ 4294967296 → HandsLetters (one_closed c due)
one_hands c [] h top = h
one_hands c (first ∷ rest) h top = let l = left_hands c first.0 h top in record { quota = l.quota; known = l.known; letters = l.letters }

-- serials only rise
leaves_more : (s : BusState) (conn : ℕ) → s.next ≤ (bus_leaves s conn).state.next
leaves_more s conn = more s.next (length (farewell s (after_gone s.owners conn) conn (unique_of s.owners conn)))
  where
    more : (n k : ℕ) → n ≤ n + k
    more n k = omega arith

pub one_more : (c : Carried) (due : List (ℕ × Why)) → c.bus.state.next ≤ (one_closed c due).bus.state.next
one_more c [] = omega arith
one_more c (first ∷ rest) = leaves_more c.bus.state first.0

pub settled_more : (rounds : ℕ) (c : Carried) → c.bus.state.next ≤ (settled rounds c).bus.state.next
settled_more zero c = omega arith
settled_more (suc rounds) c =
    both c.bus.state.next (one_closed c c.bus.waiting.due).bus.state.next (settled rounds (one_closed c c.bus.waiting.due)).bus.state.next (one_more c c.bus.waiting.due) (settled_more rounds (one_closed c c.bus.waiting.due))
  where
    both : (a b c : ℕ) → a ≤ b → b ≤ c → a ≤ c
    both a b c p q = omega (arith, p, q)

pub within : (a b c : ℕ) → a ≤ b → b ≤ c → a ≤ c
within a b c p q = omega (arith, p, q)

settled_hands : (rounds : ℕ) (c : Carried) → HandsLetters c → (settled rounds c).bus.state.next ≤ 4294967296 → HandsLetters (settled rounds c)
settled_hands zero c h top = h
settled_hands (suc rounds) c h top =
    let d : Carried = one_closed c c.bus.waiting.due in
    settled_hands rounds d (one_hands c c.bus.waiting.due h (within d.bus.state.next (settled rounds d).bus.state.next 4294967296 (settled_more rounds d) top)) top

letter_message : (who : Party) (said : Said) (m : Envelope) → (letter_of who said m).said.message ≡ m
letter_message who said m = by (is_text m.sender own_name)
  where
    by : (b : Bool) → (if b then own_letter m else record { from = who; said = record said { message = m } }).said.message ≡ m
    by true = refl
    by false = refl

-- a message is taken, before any is closed
pub front_hands : (c : Carried) (conn : ℕ) (who : Party) (said : Said) → HandsLetters c → IsSpellable said.message → (bus_takes c.bus.state conn said.message (rule_in said.message)).state.next ≤ 4294967296
    → HandsLetters (with_name conn (stepped (letter_of who said) (record c { ends = with_end conn taken_up c.ends }) (bus_takes c.bus.state conn said.message (rule_in said.message))))
front_hands c conn who said h spellable top =
    let off : Carried = record c { ends = with_end conn taken_up c.ends } in
    let step = bus_takes c.bus.state conn said.message (rule_in said.message) in
    let handed : Carried = stepped (letter_of who said) off step in
    let done = takes_done c.bus.state conn said.message (rule_in said.message) h.known spellable top in
    record {
      quota = h.quota;
      known = done.known;
      letters = with_letters (named handed.bus conn) (λ e a. a) conn handed.ends
          (stepped_letters (letter_of who said) (letter_message who said) (signer (unique_of c.bus.state.owners conn)) off step h.quota done.moves (with_letters taken_up (λ e a. a) conn c.ends h.letters));
    }

-- THE BUS TAKES A MESSAGE
pub takes_hands : (c : Carried) (conn : ℕ) (who : Party) (said : Said) → HandsLetters c → IsSpellable said.message → (takes c conn who said).bus.state.next ≤ 4294967296 → HandsLetters (takes c conn who said)
takes_hands c conn who said h spellable top =
    let step = bus_takes c.bus.state conn said.message (rule_in said.message) in
    let front : Carried = with_name conn (stepped (letter_of who said) (record c { ends = with_end conn taken_up c.ends }) step) in
    let rounds = length c.bus.state.joined in
    settled_hands rounds front (front_hands c conn who said h spellable (within step.state.next (settled rounds front).bus.state.next 4294967296 (settled_more rounds front) top)) top

-- THE BUS TAKES AN END
pub ends_hands : (c : Carried) (conn : ℕ) → HandsLetters c → (takes_end c conn).bus.state.next ≤ 4294967296 → HandsLetters (takes_end c conn)
ends_hands c conn h top =
    let rounds = length c.bus.state.joined in
    settled_hands rounds (left c conn) (left_hands c conn h (within (left c conn).bus.state.next (settled rounds (left c conn)).bus.state.next 4294967296 (settled_more rounds (left c conn)) top)) top
