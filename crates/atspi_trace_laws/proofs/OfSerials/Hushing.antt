-- Causes in which no end speaks, and those by which one joins.
use Rattle.std.proofs.Common.{◌≡◌, ◌⊎◌, inl, inr, ℕ, suc, ◌+◌, ◌<◌, ◌≤◌, List, [], ◌∷◌, ◌++◌, length, Some, refl, sym, ap, ◌∙◌, subst, arith}
use Rattle.std.specs.List.{AllByRecursion}
use Rattle.atspi_script_lines.specs.declared.line.Party.{Party}
use Rattle.atspi_script_lines.specs.declared.line.Party.TheVariants.{Bus as The_bus, Registry, App, Reader}
use Rattle.atspi_message.specs.Envelope.{Envelope}
use Rattle.atspi_match.specs.routing.Queues.{Bus}
use Rattle.atspi_match.specs.declared.routing.closing.Closing.{Closing}
use Rattle.atspi_protocol.specs.exporting.Exporter.{begins as begins_app}
use Rattle.atspi_protocol.specs.declared.following.question.Question.{Question}
use Rattle.atspi_trace.specs.Entry.{Entry, sent, dropped}
use Rattle.atspi_trace.specs.World.{an_application, a_reader, Letter, Hearer, End, World, newcomer}
use Rattle.atspi_trace.specs.Ends.{number_of, whose, party_at, is_app, is_reader, end_at, app_count, reader_count, put_up, put_down, taken_up, taken_down, stops, leaves}
use Rattle.atspi_trace.specs.Hearing.{hears_letter, heard_entries}
use Rattle.atspi_trace.specs.Carrying as carrying
use Rattle.atspi_trace.specs.Carrying.{own_letter, letter_of, named, bus_entries}
use Rattle.atspi_trace.specs.Causes.{Done, at_end, app_starts, reader_starts}
use Rattle.atspi_trace.specs.Due.{asks_as, asks_at}
use Rattle.atspi_trace_laws.proofs.OfOrder.BusWords.{all_any, bus_all}
use Rattle.atspi_trace_laws.proofs.OfOrder.Allowed.{MovedUp, MovedDown, Asks}
use Rattle.atspi_trace_laws.proofs.OfOrder.Frame.{Over, over_same, over_both, over_with, over_at, joined_cases, takes_over, ends_over}
use Rattle.atspi_trace_laws.proofs.OfOrder.Shape.{Lasts, lasting, Shape, more, new}
use Rattle.atspi_trace_laws.proofs.OfOrder.Effects.{received, Stopping, BusTakes, BusEnds, ReaderTakes}
use Rattle.atspi_trace_laws.proofs.OfOrder.Shaped.{received_at, new_app, new_reader, app_joined, bus_takes_over, bus_ends_over, stopping_over, reader_over, up_moved_over, down_moved_over, asked_over}
use Rattle.atspi_trace_laws.proofs.OfOrder.Each.{all_map}
use Rattle.atspi_trace_laws.proofs.OfOrder.Acts.{Act, heard_act, last_at}
use Rattle.atspi_trace_laws.proofs.OfSerials.Serial.{Rises, sent_count}
use Rattle.atspi_trace_laws.proofs.OfSerials.Speaking.{next_of, SameNext, same_next, changed_next}
use Rattle.atspi_trace_laws.proofs.OfSerials.Numbers.{IsFresh, BusOnly, fresh_over, Speaks, Hushed}
use Rattle.atspi_trace_laws.proofs.OfSerials.Causing.{received_next, known_speaks}

put_next : (letter : Letter) (e : End) → SameNext e (put_down letter e)
put_next letter e = record { whose = refl; next = refl }

leave_next : (e : End) → SameNext e (leaves e)
leave_next e = record { whose = refl; next = refl }

name_next : (b : Bus) (conn : ℕ) (e : End) → SameNext e (named b conn e)
name_next b conn e = record { whose = refl; next = refl }

up_next : (e : End) → SameNext e (taken_up e)
up_next e = record { whose = refl; next = refl }

stop_next : (e : End) → SameNext e (stops e)
stop_next e = record { whose = refl; next = refl }

-- what the bus writes
bus_words : (ends : List End) (own : List Envelope) (closings : List Closing) → AllByRecursion BusOnly (bus_entries ends own closings)
bus_words ends own closings =
    bus_all BusOnly (λ e. refl) ends own closings (all_any (λ (x : Closing). (queued len : ℕ) → BusOnly (dropped (party_at ends x.conn) queued len)) (λ x queued len. tt) closings)

hushed_of : (w : World) (d x : Done) → d ≡ x → Over Lasts w.ends d.world.ends → Over SameNext w.ends x.world.ends → AllByRecursion BusOnly x.entries → Hushed w d.world d.entries
hushed_of w d x is o n a =
    record {
      only = subst (λ y. AllByRecursion BusOnly y.entries) (sym is) a;
      ends = subst (λ y. Over SameNext w.ends y.world.ends) (sym is) n;
      grown = fresh_over w d.world o;
    }

pub same_hushed : (w : World) (d x : Done) → d ≡ x → x.world.ends ≡ w.ends → AllByRecursion BusOnly x.entries → Hushed w d.world d.entries
same_hushed w d x is h a =
    hushed_of w d x is (subst (Over Lasts w.ends) (sym (ap (λ y. y.world.ends) is ∙ h)) (over_same Lasts lasting w.ends)) (subst (Over SameNext w.ends) (sym h) (over_same SameNext same_next w.ends)) a

pub bus_took_hushed : (w : World) (d : Done) (b : BusTakes w d) → Hushed w d.world d.entries
bus_took_hushed w d b =
    let c = carrying.takes (record { bus = w.bus; ends = w.ends }) b.conn b.e.who b.said in
    hushed_of w d _ b.is (bus_takes_over w d b)
    (takes_over SameNext same_next (λ m e. put_next (own_letter m) e) leave_next name_next up_next (record { bus = w.bus; ends = w.ends }) b.conn b.e.who b.said (λ m e. put_next (letter_of b.e.who b.said m) e))
    (tt, bus_words c.ends c.bus.own c.bus.closings)

pub bus_ended_hushed : (w : World) (d : Done) (b : BusEnds w d) → Hushed w d.world d.entries
bus_ended_hushed w d b =
    let c = carrying.takes_end (record { bus = w.bus; ends = w.ends }) b.conn in
    hushed_of w d _ b.is (bus_ends_over w d b) (ends_over SameNext same_next (λ m e. put_next (own_letter m) e) leave_next (record { bus = w.bus; ends = w.ends }) b.conn)
    (bus_words c.ends c.bus.own c.bus.closings)

pub stopping_hushed : (w : World) (d : Done) (b : Stopping w d) → Hushed w d.world d.entries
stopping_hushed w d b = hushed_of w d _ b.is (stopping_over w d b) (over_with SameNext same_next stops stop_next b.conn w.ends) (tt, tt)

quiet_word : (entry : Entry) → Act (λ p. ⊥) entry → BusOnly entry
quiet_word (sent who e) a = absurd a
quiet_word entry a = tt

pub reader_hushed : (w : World) (d : Done) (b : ReaderTakes w d) → Hushed w d.world d.entries
reader_hushed w d b =
    let v : World = received w b.conn b.e b.letter in
    let h : Hearer = hears_letter b.hearer v.ends b.letter in
    hushed_of w d _ b.is (reader_over w d b)
    (over_both SameNext same_next w.ends v.ends _ (received_next w b.conn b.e b.letter)
    (over_at SameNext same_next (λ x. record x { role = a_reader h }) b.conn v.ends (taken_down b.e) (received_at w b.conn b.e b.letter b.is_here.there)
    (record { whose = refl; next = ap next_of (sym b.role) })))
    (tt, all_map (Act (λ p. ⊥)) BusOnly (heard_entries (number_of b.e.who) b.hearer v.ends b.letter) quiet_word (heard_act (λ p. ⊥) (number_of b.e.who) b.hearer v.ends b.letter b.letter.from refl))

-- one joins, and speaks from 1 on
module _ (w v : World) (ys : List Entry) (s : Shape w) (n : End) (rises : Rises n.who 1 ys) (next : next_of n.role ≡ 1 + sent_count ys) (joined : v.ends ≡ w.ends ++ n ∷ []) (fresh : IsFresh w n.who) (old : IsFresh v n.who → ⊥)
    (others : (k : ℕ) (e : End) → end_at w.ends k ≡ Some e → e.who ≡ n.who → ⊥) where
  larger : (p : Party) → IsFresh v p → IsFresh w p
  larger (App a) f =
      let grown : app_count w.ends ≤ app_count (w.ends ++ n ∷ []) = more (λ (e : End). is_app e.who) w.ends n in
      let same : app_count v.ends ≡ app_count (w.ends ++ n ∷ []) = ap app_count joined in
      omega (arith, grown, same, f)
  larger (Reader r) f =
      let grown : reader_count w.ends ≤ reader_count (w.ends ++ n ∷ []) = more (λ (e : End). is_reader e.who) w.ends n in
      let same : reader_count v.ends ≡ reader_count (w.ends ++ n ∷ []) = ap reader_count joined in
      omega (arith, grown, same, f)
  larger Registry f = f
  larger The_bus f = f

  pub new_speaks : Speaks w v ys n.who 1
  new_speaks = record {
    rises = rises;
    ends = λ k x h. by k x (joined_cases w.ends n k x (sym (ap (λ es. end_at es k) joined) ∙ h));
    not_fresh = old;
    grown = larger;
  }
    where
      by : (k : ℕ) (x : End) → (end_at w.ends k ≡ Some x) ⊎ ((k ≡ length w.ends) × (x ≡ n))
          → ((x.who ≡ n.who) × (next_of x.role ≡ 1 + sent_count ys)) ⊎ ((x.who ≡ n.who → ⊥) × (y : End) × (end_at w.ends k ≡ Some y) × SameNext y x)
      by k x (inl g) = inr ((λ at. others k x g at), x, g, same_next.same x)
      by k x (inr g) = inl (ap (λ (z : End). z.who) g.1, ap (λ (z : End). next_of z.role) g.1 ∙ next)

least : (n : ℕ) → n ≤ n
least n = omega arith

pub app_speaks : (w : World) (d : Done) (s : Shape w) (name : List ℕ) → d ≡ app_starts w name → Speaks w d.world d.entries (App (app_count w.ends)) 1
app_speaks w d s name is =
    let n0 : End = put_up [] (newcomer (App (app_count w.ends)) (an_application (begins_app name))) in
    let number : number_of (party_at (w.ends ++ n0 ∷ []) (length w.ends)) ≡ app_count w.ends = ap (λ o. number_of (whose o)) (last_at w.ends n0) in
    let v : World = (app_starts w name).world in
    let grown : app_count w.ends < app_count (w.ends ++ new_app w name ∷ []) = new (λ (e : End). is_app e.who) w.ends (new_app w name) refl in
    let same : app_count v.ends ≡ app_count (w.ends ++ new_app w name ∷ []) = ap app_count (app_joined w name) in
    subst (λ x. Speaks w x.world x.entries (App (app_count w.ends)) 1) (sym is)
    (new_speaks w v (app_starts w name).entries s (new_app w name) (ap App number, refl, tt) refl (app_joined w name) (least (app_count w.ends))
    (λ f. let g : app_count v.ends ≤ app_count w.ends = f in omega (arith, g, same, grown))
    (λ k e h at. let below : app_count w.ends < app_count w.ends = s.apps k (app_count w.ends) e h at in omega (arith, below)))

pub reader_speaks : (w : World) (d : Done) (s : Shape w) → d ≡ reader_starts w → Speaks w d.world d.entries (Reader (reader_count w.ends)) 1
reader_speaks w d s is =
    let v : World = (reader_starts w).world in
    let grown : reader_count w.ends < reader_count (w.ends ++ new_reader w ∷ []) = new (λ (e : End). is_reader e.who) w.ends (new_reader w) refl in
    subst (λ x. Speaks w x.world x.entries (Reader (reader_count w.ends)) 1) (sym is)
    (new_speaks w v (reader_starts w).entries s (new_reader w) (refl, refl, tt) refl refl (least (reader_count w.ends))
    (λ f. let g : reader_count (w.ends ++ new_reader w ∷ []) ≤ reader_count w.ends = f in omega (arith, g, grown))
    (λ k e h at. let below : reader_count w.ends < reader_count w.ends = s.readers k (reader_count w.ends) e h at in omega (arith, below)))

-- a reader's own call
pub own_speaks : (w : World) (conn r : ℕ) (m : Envelope) (question : Question) (s : Shape w) (a : Asks w conn r m question) → Speaks w (at_end w conn (asks_at m question)) (sent (Reader r) m ∷ []) (Reader r) a.hearer.next
own_speaks w conn r m question s a =
    let v : World = at_end w conn (asks_at m question) in
    let f : End = asks_at m question a.asker in
    let whose_ : f.who ≡ a.asker.who = subst (λ x. (asks_as x m question a.asker).who ≡ a.asker.who) (sym a.reader) refl in
    let one : suc a.hearer.next ≡ a.hearer.next + 1 = omega arith in
    let next : next_of f.role ≡ a.hearer.next + 1 = subst (λ x. next_of (asks_as x m question a.asker).role ≡ a.hearer.next + 1) (sym a.reader) one in
    known_speaks w v (sent (Reader r) m ∷ []) s conn a.hearer.next a.asker f (Reader r) a.is_here.there a.whose (asked_over w conn r m question a) (refl, ap (λ (e : Envelope). e.serial) a.spelled, tt) whose_ next
    (changed_next (asks_at m question) conn a.asker w.ends w.ends (over_same SameNext same_next w.ends) a.is_here.there)

-- bytes that complete no message
pub moved_hushed : (w v : World) → (MovedUp w v ⊎ MovedDown w v) → Hushed w v []
moved_hushed w v (inl m) =
    record {
      only = tt;
      ends = subst (λ (x : World). Over SameNext w.ends x.ends) (sym m.after) (over_with SameNext same_next (λ e. record e { up_moved = e.up_moved + m.count }) (λ e. record { whose = refl; next = refl }) m.conn w.ends);
      grown = fresh_over w v (up_moved_over w v m);
    }
moved_hushed w v (inr m) =
    record {
      only = tt;
      ends = subst (λ (x : World). Over SameNext w.ends x.ends) (sym m.after) (over_with SameNext same_next (λ e. record e { down_moved = e.down_moved + m.count }) (λ e. record { whose = refl; next = refl }) m.conn w.ends);
      grown = fresh_over w v (down_moved_over w v m);
    }
