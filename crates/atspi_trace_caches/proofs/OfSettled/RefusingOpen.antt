-- The open calls of the bus: each was sent by its caller to another than the bus, and one that went to the registry's name is the registry's to answer.
use Rattle.std.proofs.Common.{◌≡◌, ◌⊎◌, inl, inr, ℕ, ◌<◌, ◌^◌, Bool, true, false, List, [], ◌∷◌, ◌++◌, length, Option, None, Some, refl, sym, ap, ◌∙◌, subst, arith, length-append}
use Rattle.std.specs.Prelude.{◌==◌, ◌&&◌, if◌then◌else◌, Result, Ok, Err}
use Rattle.std.specs.List.{AllByRecursion}
use Rattle.atspi_message.specs.Envelope.{Envelope}
use Rattle.atspi_match.specs.declared.condition.Condition.{Condition}
use Rattle.atspi_protocol.specs.ends.Places.{registry}
use Rattle.atspi_match.specs.declared.routing.member.BusMember.{BusMember}
use Rattle.atspi_match.specs.routing.BusState.{OpenCall, BusState, unique_of}
use Rattle.atspi_match.specs.routing.Members.{member_of}
use Rattle.atspi_match.specs.routing.Routing.{receivers, owners_of, is_for_bus, is_reply, expects_reply, with_call, without_answered, calls_after}
use Rattle.atspi_match.specs.routing.Steps.{closes, BusStep, handed, speaks, called, undeliverable, is_unowned, calls_after_all, is_hello, greets, bus_takes}
use Rattle.atspi_trace.specs.Entry.{Entry}
use Rattle.atspi_trace.specs.Rules.{rule_in}
use Rattle.atspi_trace.specs.World.{End, World, first_world}
use Rattle.atspi_trace.specs.Ends.{end_at, with_end, taken_up}
use Rattle.atspi_trace.specs.Carrying as carrying
use Rattle.atspi_trace.specs.Carrying.{Carried, letter_of, stepped, with_name, left}
use Rattle.atspi_trace.specs.Causes.{Done}
use Rattle.atspi_trace_laws.specs.laws.Words.{message}
use Rattle.atspi_trace_laws.proofs.OfOrder.Parties.{same_some}
use Rattle.atspi_trace_laws.proofs.OfOrder.Each.{all_map}
use Rattle.atspi_trace_laws.proofs.OfOrder.Frame.{Over, at_below, joined_cases}
use Rattle.atspi_trace_laws.proofs.OfOrder.Shape.{Lasts}
use Rattle.atspi_trace_laws.proofs.OfOrder.Shaped.{bus_takes_over, bus_ends_over}
use Rattle.atspi_trace_laws.proofs.OfOrder.Effects.{BusTakes, BusEnds}
use Rattle.atspi_trace_laws.proofs.OfTaken.Found.{found_more}
use Rattle.atspi_trace_laws.proofs.OfSigned.Unique.{IsIn}
use Rattle.atspi_trace_caches.proofs.OfServed.Owning.{KeepsName, goes_first}
use Rattle.atspi_trace_caches.proofs.OfSettled.ReplyingOwners.{Owned, takes_owned}
use Rattle.atspi_trace_caches.proofs.OfSettled.RefusingLeft.{Inner, inner_left, settled_inner}
use Rattle.atspi_trace_caches.proofs.OfSettled.Idling.{Idle, Joining, Form, idles, joins, takes_, ends_, begins_}

-- AN OPEN CALL
pub record IsOpen (es : List Entry) (ends : List End) (call : OpenCall) : Type 0 where
  pub below : call.caller < length ends
  pub first : Envelope
  pub was : (e : End) → end_at ends call.caller ≡ Some e → message es e.who call.serial ≡ Some first
  pub other : is_for_bus first ≡ false
  pub goes : first.destination ≡ Some registry → call.callee ≡ 0

pub record Opened (es : List Entry) (w : World) : Type 0 where
  pub calls : AllByRecursion (IsOpen es w.ends) w.bus.state.calls
  pub owned : Owned w.bus.state.owners

abbrev Back : List End → List End → Type 0
Back a b = (k : ℕ) (d : End) → end_at b k ≡ Some d → (e : End) × (end_at a k ≡ Some e) × (d.who ≡ e.who)

open_more : (es ys : List Entry) (a b : List End) (call : OpenCall) → length b ≡ length a → Back a b → IsOpen es a call → IsOpen (es ++ ys) b call
open_more es ys a b call size back i = record {
  below = subst (λ n. call.caller < n) (sym size) i.below;
  first = i.first;
  was = λ d h.
      let x = back call.caller d h in
      found_more es ys d.who call.serial i.first (ap (λ p. message es p call.serial) x.2 ∙ i.was x.0 x.1);
  other = i.other;
  goes = i.goes;
}

open_joined : (es ys : List Entry) (a b : List End) (n : End) (call : OpenCall) → b ≡ a ++ n ∷ [] → IsOpen es a call → IsOpen (es ++ ys) b call
open_joined es ys a b n call is i = record {
  below = let low : call.caller < length a = i.below in let size : length b ≡ length (a ++ n ∷ []) = ap length is in let sum = length-append a (n ∷ []) in omega (arith, low, size, sum);
  first = i.first;
  was = λ d h. found_more es ys d.who call.serial i.first (by d (joined_cases a n call.caller d (ap (λ l. end_at l call.caller) (sym is) ∙ h)));
  other = i.other;
  goes = i.goes;
}
  where
    by : (d : End) → (end_at a call.caller ≡ Some d) ⊎ ((call.caller ≡ length a) × (d ≡ n)) → message es d.who call.serial ≡ Some i.first
    by d (inl h) = i.was d h
    by d (inr h) = let low : call.caller < length a = i.below in let at : call.caller ≡ length a = h.0 in absurd (omega (arith, low, at))

-- THE BUS TAKES A MESSAGE
module _ (P : OpenCall → Type 0) where
  answered_all : (calls : List OpenCall) (caller serial callee : ℕ) → AllByRecursion P calls → AllByRecursion P (without_answered calls caller serial callee)
  answered_all [] caller serial callee a = tt
  answered_all (c ∷ calls) caller serial callee a = by (c.caller == caller && (c.serial == serial && c.callee == callee)) (answered_all calls caller serial callee a.1)
    where
      by : (b : Bool) → AllByRecursion P (without_answered calls caller serial callee) → AllByRecursion P (if b then calls else c ∷ without_answered calls caller serial callee)
      by true r = a.1
      by false r = (a.0, r)

  last_all : (calls : List OpenCall) (c : OpenCall) → AllByRecursion P calls → P c → AllByRecursion P (calls ++ c ∷ [])
  last_all [] c a p = (p, tt)
  last_all (x ∷ xs) c a p = (a.0, last_all xs c a.1 p)

  after_all : (calls : List OpenCall) (conn : ℕ) (e : Envelope) (receiver : ℕ) → P (record { caller = conn; serial = e.serial; callee = receiver }) → AllByRecursion P calls → AllByRecursion P (calls_after calls conn e receiver)
  after_all calls conn e receiver p a = by (expects_reply e) (is_reply e) e.reply
    where
      answers : (o : Option ℕ) → List OpenCall
      answers None = calls
      answers (Some serial) = without_answered calls receiver serial conn

      answers_all : (o : Option ℕ) → AllByRecursion P (answers o)
      answers_all None = a
      answers_all (Some serial) = answered_all calls receiver serial conn a

      by : (b c : Bool) (o : Option ℕ) → AllByRecursion P (if b then with_call calls conn e.serial receiver else if c then answers o else calls)
      by true c o = last_all calls (record { caller = conn; serial = e.serial; callee = receiver }) a p
      by false true o = answers_all o
      by false false o = a

  handed_all : (calls : List OpenCall) (conn : ℕ) (e : Envelope) (cs : List ℕ) → ((c : ℕ) → IsIn c cs → P (record { caller = conn; serial = e.serial; callee = c })) → AllByRecursion P calls → AllByRecursion P (calls_after_all calls conn e cs)
  handed_all calls conn e [] f a = a
  handed_all calls conn e (c ∷ cs) f a = handed_all (calls_after calls conn e c) conn e cs (λ k i. f k (inr i)) (after_all calls conn e c (f c (inl refl)) a)

  called_all : (s : BusState) (conn : ℕ) (e : Envelope) (rule : Option (List Condition)) → AllByRecursion P s.calls → AllByRecursion P (called s conn e rule).state.calls
  called_all s conn e rule a = by (member_of e) refl
    where
      by : (r : Result BusMember (List ℕ)) → member_of e ≡ r → AllByRecursion P (called s conn e rule).state.calls
      by (Ok member) h = rw h a
      by (Err name) h = rw h a

  named_all : (a b c : Bool) (s : BusState) (conn : ℕ) (e : Envelope) (rule : Option (List Condition)) → is_for_bus e ≡ a → (is_for_bus e ≡ false → (k : ℕ) → IsIn k (receivers s e) → P (record { caller = conn; serial = e.serial; callee = k })) → AllByRecursion P s.calls
      → AllByRecursion P (if a then (if b then called s conn e rule else speaks s []) else (if c then undeliverable s conn e else record { state = record s { calls = calls_after_all s.calls conn e (receivers s e) }; moves = handed s e })).state.calls
  named_all true true c s conn e rule for f h = called_all s conn e rule h
  named_all true false c s conn e rule for f h = h
  named_all false b true s conn e rule for f h = h
  named_all false b false s conn e rule for f h = handed_all s.calls conn e (receivers s e) (f for) h

  pub takes_all : (s : BusState) (conn : ℕ) (e : Envelope) (rule : Option (List Condition))
      → ((own : List ℕ) → unique_of s.owners conn ≡ Some own → let m : Envelope = record e { sender = Some own } in is_for_bus m ≡ false → (k : ℕ) → IsIn k (receivers s m) → P (record { caller = conn; serial = e.serial; callee = k }))
      → AllByRecursion P s.calls → AllByRecursion P (bus_takes s conn e rule).state.calls
  takes_all s conn e rule f h = by (unique_of s.owners conn) refl
    where
      hello_by : (b : Bool) → AllByRecursion P (if b then greets s conn e else record { state = s; moves = closes conn ∷ [] }).state.calls
      hello_by true = h
      hello_by false = h

      by : (u : Option (List ℕ)) → unique_of s.owners conn ≡ u → AllByRecursion P (bus_takes s conn e rule).state.calls
      by (Some own) g =
          let m : Envelope = record e { sender = Some own } in
          rw g (named_all (is_for_bus m) (e.kind == 1) (is_unowned e.destination (receivers s m)) s conn m rule refl (f own g) h)
      by None g = rw g (hello_by (is_hello e))

goes_to : (s : BusState) (m : Envelope) (to : List ℕ) (c : ℕ) → m.destination ≡ Some to → IsIn c (receivers s m) → IsIn c (owners_of s to)
goes_to s m to c h = by m.destination h
  where
    by : (o : Option (List ℕ)) → o ≡ Some to → IsIn c (receivers s (record m { destination = o })) → IsIn c (owners_of s to)
    by o g = subst (λ z. IsIn c (receivers s (record m { destination = z })) → IsIn c (owners_of s to)) (sym g) (λ x. x)

pub same_for : (e : Envelope) (own : List ℕ) → is_for_bus (record e { sender = Some own }) ≡ is_for_bus e
same_for e own = by e.destination
  where
    by : (d : Option (List ℕ)) → is_for_bus (record e { sender = Some own; destination = d }) ≡ is_for_bus (record e { destination = d })
    by None = refl
    by (Some name) = refl

module _ (es : List Entry) (w : World) (d : Done) (b : BusTakes w d) (found : message es b.e.who b.said.message.serial ≡ Some b.said.message) (keeps : KeepsName w.bus.state.owners) (small : w.bus.state.owners.given < 2 ^ 32) (i : Opened es w) where
  abbrev later : List Entry
  later = es ++ d.entries

  abbrev e0 : Envelope
  e0 = b.said.message

  abbrev step : BusStep
  step = bus_takes w.bus.state b.conn e0 (rule_in e0)

  abbrev done_ : Carried
  done_ = with_name b.conn (stepped (letter_of b.e.who b.said) (record { bus = w.bus; ends = with_end b.conn taken_up w.ends }) step)

  over : Over Lasts w.ends d.world.ends
  over = bus_takes_over w d b

  back : Back w.ends d.world.ends
  back k z h = let x = over.back k z h in (x.0, x.1, x.2.whose)

  abbrev pub Now : OpenCall → Type 0
  Now = IsOpen later d.world.ends

  opens : (own : List ℕ) → unique_of w.bus.state.owners b.conn ≡ Some own → let m : Envelope = record e0 { sender = Some own } in is_for_bus m ≡ false → (k : ℕ) → IsIn k (receivers w.bus.state m) → Now (record { caller = b.conn; serial = e0.serial; callee = k })
  opens own named_ other k at = record {
    below = subst (λ n. b.conn < n) (sym over.size) (at_below w.ends b.conn b.e b.is_here.there);
    first = e0;
    was = λ z h.
        let x = over.back b.conn z h in
        let who : z.who ≡ b.e.who = x.2.whose ∙ ap (λ (e : End). e.who) (same_some x.0 b.e (sym x.1 ∙ b.is_here.there)) in
        found_more es d.entries z.who e0.serial e0 (ap (λ p. message es p e0.serial) who ∙ found);
    other = sym (same_for e0 own) ∙ other;
    goes = λ h. goes_first w.bus.state k keeps (goes_to w.bus.state (record e0 { sender = Some own }) registry k h at);
  }

  -- behind the step, before the closings
  pub inner_step : Inner Now done_.bus.state
  inner_step = record {
    calls = takes_all Now w.bus.state b.conn e0 (rule_in e0) opens (all_map (IsOpen es w.ends) Now w.bus.state.calls (λ c o. open_more es d.entries w.ends d.world.ends c over.size back o) i.calls);
    owned = takes_owned w.bus.state b.conn e0 (rule_in e0) small i.owned;
  }

  pub took_opened : Opened later d.world
  took_opened =
      let x : Inner Now (carrying.settled (length w.bus.state.joined) done_).bus.state = settled_inner Now (length w.bus.state.joined) done_ inner_step in
      record { calls = subst (λ y. AllByRecursion Now y.world.bus.state.calls) (sym b.is) x.calls; owned = subst (λ y. Owned y.world.bus.state.owners) (sym b.is) x.owned }

module _ (es : List Entry) (w : World) (d : Done) (b : BusEnds w d) (i : Opened es w) where
  abbrev then_ : List Entry
  then_ = es ++ d.entries

  ends_over : Over Lasts w.ends d.world.ends
  ends_over = bus_ends_over w d b

  pub inner_ended : Inner (IsOpen then_ d.world.ends) w.bus.state
  inner_ended = record {
    calls = all_map (IsOpen es w.ends) (IsOpen then_ d.world.ends) w.bus.state.calls (λ c o. open_more es d.entries w.ends d.world.ends c ends_over.size (λ k z h. let x = ends_over.back k z h in (x.0, x.1, x.2.whose)) o) i.calls;
    owned = i.owned;
  }

  pub ended_opened : Opened then_ d.world
  ended_opened =
      let c : Carried = record { bus = w.bus; ends = w.ends } in
      let x = inner_left (IsOpen then_ d.world.ends) w.bus.state b.conn inner_ended in
      let y : Inner (IsOpen then_ d.world.ends) (carrying.settled (length w.bus.state.joined) (left c b.conn)).bus.state =
      settled_inner (IsOpen then_ d.world.ends) (length w.bus.state.joined) (left c b.conn) (record { calls = x.calls; owned = x.owned }) in
      record { calls = subst (λ z. AllByRecursion (IsOpen then_ d.world.ends) z.world.bus.state.calls) (sym b.is) y.calls; owned = subst (λ z. Owned z.world.bus.state.owners) (sym b.is) y.owned }

pub idle_opened : (es ys : List Entry) (w v : World) → Idle w v → Opened es w → Opened (es ++ ys) v
idle_opened es ys w v o i = record {
  calls = subst (AllByRecursion (IsOpen (es ++ ys) v.ends)) (sym o.calls)
      (all_map (IsOpen es w.ends) (IsOpen (es ++ ys) v.ends) w.bus.state.calls (λ c x. open_more es ys w.ends v.ends c o.ends.size (λ k z h. let y = o.ends.back k z h in (y.0, y.1, y.2.whose)) x) i.calls);
  owned = subst Owned (sym o.owners) i.owned;
}

joined_opened : (es ys : List Entry) (w v : World) → Joining w v → Opened es w → Opened (es ++ ys) v
joined_opened es ys w v o i = record {
  calls = subst (AllByRecursion (IsOpen (es ++ ys) v.ends)) (sym o.calls) (all_map (IsOpen es w.ends) (IsOpen (es ++ ys) v.ends) w.bus.state.calls (λ c x. open_joined es ys w.ends v.ends o.nu c o.ends x) i.calls);
  owned = subst Owned (sym o.owners) i.owned;
}

-- EACH FORM, over the owners at the beginning
pub opened_kept : (first : (quota : ℕ) → Owned (first_world quota).bus.state.owners) (es : List Entry) (w : World) (d : Done) → ((b : BusTakes w d) → message es b.e.who b.said.message.serial ≡ Some b.said.message) → KeepsName w.bus.state.owners → w.bus.state.owners.given < 2 ^ 32
    → Form w d → Opened es w → Opened (es ++ d.entries) d.world
opened_kept first es w d f keeps small (idles o) i = idle_opened es d.entries w d.world o i
opened_kept first es w d f keeps small (joins o) i = joined_opened es d.entries w d.world o i
opened_kept first es w d f keeps small (takes_ b) i = took_opened es w d b (f b) keeps small i
opened_kept first es w d f keeps small (ends_ b) i = ended_opened es w d b i
opened_kept first es w d f keeps small (begins_ quota is) i = subst (λ x. Opened (es ++ x.entries) x.world) (sym is) (record { calls = tt; owned = first quota })
