-- The unique names of ends differ, and letters bear them, whatever the bus takes.
use Rattle.std.proofs.Common.{◌≡◌, inl, inr, ℕ, zero, suc, ◌≤◌, Bool, true, false, List, [], ◌∷◌, length, Option, None, Some, refl, sym, ap, ◌∙◌, subst}
use Rattle.std.specs.Prelude.{if◌then◌else◌}
use Rattle.std.specs.List.{AllByRecursion, fold}
use Rattle.atspi_script_lines.specs.declared.line.Party.{Party}
use Rattle.atspi_message.specs.Envelope.{Envelope}
use Rattle.atspi_names.specs.Owners.{Owners, own_name, unique_name, after_gone}
use Rattle.atspi_match.specs.declared.routing.closing.Why.{Why}
use Rattle.atspi_match.specs.routing.BusState.{unique_of}
use Rattle.atspi_match.specs.routing.Members.{is_text}
use Rattle.atspi_match.specs.routing.Steps.{Move, says, delivers, closes, BusStep, bus_takes, bus_leaves}
use Rattle.atspi_match.specs.routing.Queues as queues
use Rattle.atspi_match.specs.routing.Queues.{Waiting, without_queue}
use Rattle.atspi_trace.specs.Rules.{rule_in}
use Rattle.atspi_trace.specs.World.{Said, Letter, End}
use Rattle.atspi_trace.specs.Ends.{end_at, with_end, put_down, taken_up, leaves}
use Rattle.atspi_trace.specs.Carrying.{Carried, Filled, letter_of, own_letter, grew, with_letter, moved, stepped, left, one_closed, settled, named, with_name, takes, takes_end}
use Rattle.atspi_message.specs.Spellable.{IsSpellable}
use Rattle.atspi_bus_laws.specs.handed.Handing.{HandsLetters}
use Rattle.atspi_bus_laws.specs.handed.Naming.{IsSigned, HasLeft, AreNamed}
use Rattle.atspi_bus_laws.proofs.OfHanded.Steps.{Bears, HandsOn, signer, takes_done, leaves_done}
use Rattle.atspi_bus_laws.proofs.OfHanded.Handing.{left_hands, one_hands, settled_more, front_hands, within}
use Rattle.atspi_bus_laws.proofs.OfHanded.Uniques.{takes_goes}
use Rattle.atspi_bus_laws.proofs.OfHanded.Changing.{Stays, stays_at, quiet_stays, quiet_change, put_quiet, up_quiet, put_signed}
use Rattle.atspi_bus_laws.proofs.OfHanded.Renaming.{left_change, name_change, quiet_at}

-- LETTERS THAT A STEP PUTS ON LINKS
module _ (letter : Envelope → Letter) (sender : Option (List ℕ)) (S : List End → Type 0) (keep : (l : Letter) (k : ℕ) (ends : List End) → S ends → S (with_end k (put_down l) ends))
    (sign : (ends : List End) (m : Envelope) → S ends → Bears sender m → IsSigned ends (letter m)) (owners : Owners) where
  moved_named : (quota : ℕ) (f : Filled) (move : Move) → HandsOn sender move → S f.ends → AreNamed owners f.ends → S (moved letter quota f move).ends × AreNamed owners (moved letter quota f move).ends
  moved_named quota f (delivers k m) h s a = by (grew k f.waiting (queues.moved quota f.waiting (delivers k m)))
    where
      by : (b : Bool) → S (if b then with_end k (put_down (letter m)) f.ends else f.ends) × AreNamed owners (if b then with_end k (put_down (letter m)) f.ends else f.ends)
      by true = (keep (letter m) k f.ends s, quiet_change (put_down (letter m)) (put_quiet (letter m)) owners f.ends k (put_signed f.ends (letter m) (sign f.ends m s h.1)) a)
      by false = (s, a)
  moved_named quota f (says m) h s a = (s, a)
  moved_named quota f (closes k) h s a = (s, a)

  folded_named : (quota : ℕ) (f : Filled) (moves : List Move) → AllByRecursion (HandsOn sender) moves → S f.ends → AreNamed owners f.ends → AreNamed owners (fold (moved letter quota) f moves).ends
  folded_named quota f [] h s a = a
  folded_named quota f (move ∷ moves) h s a = let one = moved_named quota f move h.0 s a in folded_named quota (moved letter quota f move) moves h.1 one.0 one.1

  stepped_named : (c : Carried) (step : BusStep) → AllByRecursion (HandsOn sender) step.moves → S c.ends → AreNamed owners c.ends → AreNamed owners (stepped letter c step).ends
  stepped_named c step h s a = folded_named c.bus.quota (record { waiting = c.bus.waiting; ends = c.ends }) step.moves h s a

own_sign : (ends : List End) (m : Envelope) → Unit {0} → Bears (Some own_name) m → IsSigned ends (own_letter m)
own_sign ends m s (inl h) = inl (refl, h)
own_sign ends m s (inr h) = inl (refl, h)

-- ONE LEAVES
left_named : (c : Carried) (conn : ℕ) → HandsLetters c → AreNamed c.bus.state.owners c.ends → (left c conn).bus.state.next ≤ 4294967296 → AreNamed (left c conn).bus.state.owners (left c conn).ends
left_named c conn h a top =
    let done = leaves_done c.bus.state conn h.known top in
    let without = record c.bus { waiting = without_queue c.bus.waiting conn } in
    stepped_named own_letter (Some own_name) (λ ends. Unit {0}) (λ l k ends s. s) own_sign (after_gone c.bus.state.owners conn) (record { bus = without; ends = with_end conn leaves c.ends }) (bus_leaves c.bus.state conn)
    done.moves tt (left_change c.bus.state.owners c.ends conn a)

one_named : (c : Carried) (due : List (ℕ × Why)) → HandsLetters c → AreNamed c.bus.state.owners c.ends → (one_closed c due).bus.state.next ≤ 4294967296 → AreNamed (one_closed c due).bus.state.owners (one_closed c due).ends
one_named c [] h a top = a
one_named c (first ∷ rest) h a top = left_named c first.0 h a top

settled_named : (rounds : ℕ) (c : Carried) → HandsLetters c → AreNamed c.bus.state.owners c.ends → (settled rounds c).bus.state.next ≤ 4294967296 → AreNamed (settled rounds c).bus.state.owners (settled rounds c).ends
settled_named zero c h a top = a
settled_named (suc rounds) c h a top =
    let d : Carried = one_closed c c.bus.waiting.due in
    let low = within d.bus.state.next (settled rounds d).bus.state.next 4294967296 (settled_more rounds d) top in
    settled_named rounds d (one_hands c c.bus.waiting.due h low) (one_named c c.bus.waiting.due h a low) top

-- A MESSAGE IS TAKEN: who sends it
abbrev Sends : ℕ → Party → Option (List ℕ) → List End → Type 0
Sends conn who None ends = Unit {0}
Sends conn who (Some name) ends = (y : End) × ((end_at ends conn ≡ Some y) × ((y.who ≡ who) × (y.unique ≡ Some name)))

sends_keep : (conn : ℕ) (who : Party) (u : Option (List ℕ)) (f : End → End) → ((x : End) → Stays x (f x)) → (k : ℕ) (ends : List End) → Sends conn who u ends → Sends conn who u (with_end k f ends)
sends_keep conn who None f g k ends s = tt
sends_keep conn who (Some name) f g k ends s = let t = stays_at f g ends k conn s.0 s.1.0 in (t.0, (t.1.0, (t.1.1.0 ∙ s.1.1.0, t.1.1.1 name s.1.1.1)))

own_signed : (who : Party) (said : Said) (ends : List End) (m : Envelope) → m.sender ≡ Some own_name → IsSigned ends (letter_of who said m)
own_signed who said ends m h =
    let is : is_text m.sender own_name ≡ true = ap (λ o. is_text o own_name) h in
    subst (λ b. IsSigned ends (if b then own_letter m else record { from = who; said = record said { message = m } })) (sym is) (inl (refl, h))

end_signed : (conn : ℕ) (who : Party) (said : Said) (name : List ℕ) (ends : List End) (m : Envelope) → is_text (Some name) own_name ≡ false → Sends conn who (Some name) ends → m.sender ≡ Some name → IsSigned ends (letter_of who said m)
end_signed conn who said name ends m other s h =
    let is : is_text m.sender own_name ≡ false = ap (λ o. is_text o own_name) h ∙ other in
    subst (λ b. IsSigned ends (if b then own_letter m else record { from = who; said = record said { message = m } })) (sym is)
    (inr (record { conn = conn; sender = s.0; there = s.1.0; from = sym s.1.1.0; name = name; unique = s.1.1.1; bears = h }))

letter_sign : (conn : ℕ) (who : Party) (said : Said) (u : Option (List ℕ)) → ((name : List ℕ) → u ≡ Some name → is_text (Some name) own_name ≡ false) → (ends : List End) (m : Envelope) → Sends conn who u ends → Bears (signer u) m
    → IsSigned ends (letter_of who said m)
letter_sign conn who said None other ends m s (inl h) = own_signed who said ends m h
letter_sign conn who said None other ends m s (inr h) = own_signed who said ends m h
letter_sign conn who said (Some name) other ends m s (inl h) = own_signed who said ends m h
letter_sign conn who said (Some name) other ends m s (inr h) = end_signed conn who said name ends m (other name refl) s h

not_bus : (n : ℕ) → is_text (Some (unique_name n)) own_name ≡ false
not_bus n = refl

abbrev StaysAt : ℕ → List End → Type 0
StaysAt conn ends = (y : End) × ((end_at ends conn ≡ Some y) × (HasLeft y.standing → ⊥))

stays_step : (letter : Envelope → Letter) (conn : ℕ) (quota : ℕ) (f : Filled) (moves : List Move) → StaysAt conn f.ends → StaysAt conn (fold (moved letter quota) f moves).ends
stays_step letter conn quota f [] s = s
stays_step letter conn quota f (move ∷ moves) s = stays_step letter conn quota (moved letter quota f move) moves (one move)
  where
    put : (k : ℕ) (m : Envelope) (b : Bool) → StaysAt conn (if b then with_end k (put_down (letter m)) f.ends else f.ends)
    put k m true = quiet_at (put_down (letter m)) (λ x. refl) f.ends k conn s.0 s.1.0 s.1.1
    put k m false = s

    one : (move : Move) → StaysAt conn (with_letter letter f.waiting (queues.moved quota f.waiting move) move f.ends)
    one (delivers k m) = put k m (grew k f.waiting (queues.moved quota f.waiting (delivers k m)))
    one (says m) = s
    one (closes k) = s

pub takes_named : (c : Carried) (conn : ℕ) (e : End) (said : Said) → HandsLetters c → AreNamed c.bus.state.owners c.ends → end_at c.ends conn ≡ Some e → (HasLeft e.standing → ⊥) → IsSpellable said.message
    → (takes c conn e.who said).bus.state.next ≤ 4294967296 → AreNamed (takes c conn e.who said).bus.state.owners (takes c conn e.who said).ends
takes_named c conn e said h a at stays spellable top =
    let owners = c.bus.state.owners in
    let u = unique_of owners conn in
    let off : Carried = record c { ends = with_end conn taken_up c.ends } in
    let step = bus_takes c.bus.state conn said.message (rule_in said.message) in
    let handed : Carried = stepped (letter_of e.who said) off step in
    let front : Carried = with_name conn handed in
    let rounds = length c.bus.state.joined in
    let low = within step.state.next (settled rounds front).bus.state.next 4294967296 (settled_more rounds front) top in
    let done = takes_done c.bus.state conn said.message (rule_in said.message) h.known spellable low in
    let mine = a.each conn e at in
    let off_named = quiet_change taken_up up_quiet owners c.ends conn (λ x l. l) a in
    let handed_named = stepped_named (letter_of e.who said) (signer u) (Sends conn e.who u) (λ l k ends s. sends_keep conn e.who u (put_down l) (quiet_stays (put_down l) (put_quiet l)) k ends s)
    (letter_sign conn e.who said u (λ name is. let was = mine.given name (mine.known stays ∙ is) in subst (λ n. is_text (Some n) own_name ≡ false) (sym was.2) (not_bus was.0))) owners off step done.moves
    (sends_keep conn e.who u taken_up (quiet_stays taken_up up_quiet) conn c.ends (who_sends u (mine.known stays))) off_named in
    let there = stays_step (letter_of e.who said) conn c.bus.quota (record { waiting = c.bus.waiting; ends = off.ends }) step.moves (quiet_at taken_up (λ x. refl) c.ends conn conn e at stays) in
    settled_named rounds front (front_hands c conn e.who said h spellable low)
    (name_change owners step.state.owners conn there.0 (named handed.bus conn) (λ y. (refl, refl, refl, refl)) handed.ends (takes_goes c.bus.state conn said.message (rule_in said.message)) h.known.orderly.few there.1.0 there.1.1 handed_named)
    top
  where
    who_sends : (u : Option (List ℕ)) → e.unique ≡ u → Sends conn e.who u c.ends
    who_sends None is = tt
    who_sends (Some name) is = (e, (at, (refl, is)))

pub ends_named : (c : Carried) (conn : ℕ) → HandsLetters c → AreNamed c.bus.state.owners c.ends → (takes_end c conn).bus.state.next ≤ 4294967296 → AreNamed (takes_end c conn).bus.state.owners (takes_end c conn).ends
ends_named c conn h a top =
    let rounds = length c.bus.state.joined in
    let low = within (left c conn).bus.state.next (settled rounds (left c conn)).bus.state.next 4294967296 (settled_more rounds (left c conn)) top in
    settled_named rounds (left c conn) (left_hands c conn h low) (left_named c conn h a low) top
