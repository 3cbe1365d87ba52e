-- What each cause puts on up links.
use Rattle.std.proofs.Common.{◌≡◌, ◌⊎◌, inl, inr, ℕ, suc, ◌+◌, List, [], ◌∷◌, ◌++◌, length, map, None, refl, sym, ap, ◌∙◌, subst, arith}
use Rattle.atspi_script_lines.specs.declared.line.Party.{Party}
use Rattle.atspi_message.specs.Envelope.{Envelope}
use Rattle.atspi_protocol.specs.ends.Messages.{numbered}
use Rattle.atspi_protocol.specs.registering.Steps.{registry_takes}
use Rattle.atspi_match.specs.routing.Queues.{Bus}
use Rattle.atspi_match.specs.routing.Steps.{bus_takes}
use Rattle.atspi_protocol.specs.exporting.Exporter.{Exporter}
use Rattle.atspi_protocol.specs.exporting.Taking.{app_takes}
use Rattle.atspi_protocol.specs.exporting.Laws.{Counts}
use Rattle.atspi_protocol.proofs.OfExporting.Rising.{numbers_rise}
use Rattle.atspi_protocol.specs.following.Calls.{user_call}
use Rattle.atspi_protocol.specs.declared.following.question.Question.{Question}
use Rattle.atspi_trace.specs.Rules.{rule_in}
use Rattle.atspi_trace.specs.World.{an_application, a_reader, Letter, Said, Hearer, End, World}
use Rattle.atspi_trace.specs.Ends.{is_here, with_end, plain, put_down, taken_up, taken_down, stops, leaves}
use Rattle.atspi_trace.specs.Hearing.{hears_letter}
use Rattle.atspi_trace.specs.Carrying.{Carried, own_letter, letter_of, stepped, named, with_name, takes}
use Rattle.atspi_trace.specs.Causes.{Done, at_end, has_done, reader_sends, registry_did, saids, asks}
use Rattle.atspi_trace.specs.Due.{asks_as, asks_at}
use Rattle.atspi_trace_laws.proofs.OfOrder.Parties.{false_true}
use Rattle.atspi_trace_laws.proofs.OfOrder.Allowed.{MovedUp, MovedDown, Asks}
use Rattle.atspi_trace_laws.proofs.OfOrder.Frame.{Over, over_both, over_with, over_at, stepped_over, settled_over, ends_over}
use Rattle.atspi_trace_laws.proofs.OfOrder.Effects.{received, AppEdits, AppTakes, ReaderCalls, Stopping, BusEnds, RegistryTakes, ReaderTakes}
use Rattle.atspi_trace_laws.proofs.OfOrder.Shaped.{received_at}
use Rattle.atspi_trace_laws.proofs.OfSerials.Speaking.{next_of, IsNumbered, registry_numbered}
use Rattle.atspi_trace_laws.proofs.OfSerials.Causing.{numbers_of, counted}
use Rattle.atspi_trace_laws.proofs.OfLinks.Ups.{Ups, saids_rise, plains_rise, UpMore, up_more, up_alike}

put_alike : (letter : Letter) (e : End) → UpMore e (put_down letter e)
put_alike letter e = up_alike e (put_down letter e) refl (λ h. h) refl refl

leave_alike : (e : End) → UpMore e (leaves e)
leave_alike e = record { whose = refl; going = λ h. absurd (false_true h) }

name_alike : (b : Bus) (conn : ℕ) (e : End) → UpMore e (named b conn e)
name_alike b conn e = up_alike e (named b conn e) refl (λ h. h) refl refl

stop_alike : (e : End) → UpMore e (stops e)
stop_alike e = record { whose = refl; going = λ h. absurd (false_true h) }

down_alike : (e : End) → UpMore e (taken_down e)
down_alike e = up_alike e (taken_down e) refl (λ h. h) refl refl

received_alike : (w : World) (conn : ℕ) (e : End) (letter : Letter) → Over UpMore w.ends (received w conn e letter).ends
received_alike w conn e letter = over_with UpMore up_more taken_down down_alike conn w.ends

-- more is put on it
puts_more : (e d : End) (saids : List Said) → d.who ≡ e.who → d.standing ≡ e.standing → d.up ≡ e.up ++ saids → Ups (next_of e.role) saids → next_of d.role ≡ next_of e.role + length saids → UpMore e d
puts_more e d saids w h u r n = record {
  whose = w;
  going = λ g. record { here_before = ap is_here (sym h) ∙ g; more = saids; up = u; rises = r; next = n };
}

app_puts : (s t : Exporter) (e : End) (c : Counts s t) → s.out ≡ [] → e.role ≡ an_application s → UpMore e (has_done s t e)
app_puts s t e c empty role =
    let r = saids_rise s s.tree None c.count s.next t.out (numbers_of s t c empty) in
    puts_more e (has_done s t e) (saids s s.tree None t.out) refl refl refl (subst (λ x. Ups (next_of x) (saids s s.tree None t.out)) (sym role) r.0)
    (c.next ∙ ap (λ n. s.next + n) (sym r.1) ∙ ap (λ x. next_of x + length (saids s s.tree None t.out)) (sym role))

pub edit_lifts : (w : World) (d : Done) (b : AppEdits w d) → b.before.out ≡ [] → Over UpMore w.ends d.world.ends
edit_lifts w d b empty =
    subst (λ x. Over UpMore w.ends x.world.ends) (sym b.is)
    (over_at UpMore up_more (has_done b.before b.after) b.conn w.ends b.e b.is_here.there (app_puts b.before b.after b.e (counted b.before b.after b.edit b.done) empty b.role))

pub take_lifts : (w : World) (d : Done) (b : AppTakes w d) → b.before.out ≡ [] → Over UpMore w.ends d.world.ends
take_lifts w d b empty =
    let t : Exporter = app_takes b.before b.letter.said.message in
    let v : World = received w b.conn b.e b.letter in
    subst (λ x. Over UpMore w.ends x.world.ends) (sym b.is)
    (over_both UpMore up_more w.ends v.ends (with_end b.conn (has_done b.before t) v.ends) (received_alike w b.conn b.e b.letter)
    (over_at UpMore up_more (has_done b.before t) b.conn v.ends (taken_down b.e) (received_at w b.conn b.e b.letter b.is_here.there)
    (app_puts b.before t (taken_down b.e) (numbers_rise.taken b.before b.letter.said.message) empty b.role)))

pub registry_lifts : (w : World) (d : Done) (b : RegistryTakes w d) → Over UpMore w.ends d.world.ends
registry_lifts w d b =
    let step = registry_takes b.before b.letter.said.message in
    let c : IsNumbered b.before step = registry_numbered b.before b.letter.said.message in
    let v : World = received w b.conn b.e b.letter in
    let r = plains_rise b.before.next c.said in
    let same : map plain step.sent ≡ map plain (numbered b.before.next c.said) = ap (map plain) c.sent in
    let size : length (map plain step.sent) ≡ length c.said = ap length same ∙ r.1 in
    subst (λ x. Over UpMore w.ends x.world.ends) (sym b.is)
    (over_both UpMore up_more w.ends v.ends (with_end b.conn (registry_did step) v.ends) (received_alike w b.conn b.e b.letter)
    (over_at UpMore up_more (registry_did step) b.conn v.ends (taken_down b.e) (received_at w b.conn b.e b.letter b.is_here.there)
    (puts_more (taken_down b.e) (registry_did step (taken_down b.e)) (map plain step.sent) refl refl refl
    (subst (λ x. Ups (next_of x) (map plain step.sent)) (sym b.role) (subst (Ups b.before.next) (sym same) r.0))
    (c.next ∙ ap (λ n. b.before.next + n) (sym size) ∙ ap (λ x. next_of x + length (map plain step.sent)) (sym b.role)))))

reader_puts : (h g : Hearer) (m : Envelope) (e : End) → e.role ≡ a_reader h → g.next ≡ suc h.next → m.serial ≡ h.next → UpMore e (reader_sends g m e)
reader_puts h g m e role next serial =
    let one : g.next ≡ h.next + 1 = omega (arith, next) in
    puts_more e (reader_sends g m e) (plain m ∷ []) refl refl refl (serial ∙ ap next_of (sym role), tt) (one ∙ ap (λ x. next_of x + 1) (sym role))

pub call_lifts : (w : World) (d : Done) (b : ReaderCalls w d) → Over UpMore w.ends d.world.ends
call_lifts w d b =
    let m : Envelope = user_call b.hearer.next b.name b.node b.deed in
    let g : Hearer = record b.hearer { next = suc b.hearer.next } in
    subst (λ x. Over UpMore w.ends x.world.ends) (sym b.is) (over_at UpMore up_more (reader_sends g m) b.conn w.ends b.e b.is_here.there (reader_puts b.hearer g m b.e b.role refl refl))

pub reader_lifts : (w : World) (d : Done) (b : ReaderTakes w d) → Over UpMore w.ends d.world.ends
reader_lifts w d b =
    let v : World = received w b.conn b.e b.letter in
    let h : Hearer = hears_letter b.hearer v.ends b.letter in
    let f : End → End = λ x. record x { role = a_reader h } in
    subst (λ x. Over UpMore w.ends x.world.ends) (sym b.is)
    (over_both UpMore up_more w.ends v.ends (with_end b.conn f v.ends) (received_alike w b.conn b.e b.letter)
    (over_at UpMore up_more f b.conn v.ends (taken_down b.e) (received_at w b.conn b.e b.letter b.is_here.there) (up_alike (taken_down b.e) (f (taken_down b.e)) refl (λ g. g) refl (ap next_of (sym b.role)))))

pub stopping_lifts : (w : World) (d : Done) (b : Stopping w d) → Over UpMore w.ends d.world.ends
stopping_lifts w d b = subst (λ x. Over UpMore w.ends x.world.ends) (sym b.is) (over_with UpMore up_more stops stop_alike b.conn w.ends)

pub ended_lifts : (w : World) (d : Done) (b : BusEnds w d) → Over UpMore w.ends d.world.ends
ended_lifts w d b =
    subst (λ x. Over UpMore w.ends x.world.ends) (sym b.is) (ends_over UpMore up_more (λ m e. put_alike (own_letter m) e) leave_alike (record { bus = w.bus; ends = w.ends }) b.conn)

-- behind the message that the bus takes off an up link
pub takes_lifts : (c : Carried) (conn : ℕ) (who : Party) (said : Said) → Over UpMore (with_end conn taken_up c.ends) (takes c conn who said).ends
takes_lifts c conn who said =
    let a : Carried = record c { ends = with_end conn taken_up c.ends } in
    let b : Carried = stepped (letter_of who said) a (bus_takes c.bus.state conn said.message (rule_in said.message)) in
    over_both UpMore up_more a.ends b.ends (takes c conn who said).ends
    (stepped_over UpMore up_more (letter_of who said) (λ m e. put_alike (letter_of who said m) e) a (bus_takes c.bus.state conn said.message (rule_in said.message)))
    (over_both UpMore up_more b.ends (with_name conn b).ends (takes c conn who said).ends (over_with UpMore up_more (named b.bus conn) (name_alike b.bus conn) conn b.ends)
    (settled_over UpMore up_more (λ m e. put_alike (own_letter m) e) leave_alike (length c.bus.state.joined) (with_name conn b)))

pub asked_lifts : (w : World) (conn r : ℕ) (m : Envelope) (question : Question) (a : Asks w conn r m question) → Over UpMore w.ends (at_end w conn (asks_at m question)).ends
asked_lifts w conn r m question a =
    over_at UpMore up_more (asks_at m question) conn w.ends a.asker a.is_here.there
    (subst (λ x. UpMore a.asker (asks_as x m question a.asker)) (sym a.reader) (reader_puts a.hearer (asks question a.hearer) m a.asker a.reader refl (ap (λ (e : Envelope). e.serial) a.spelled)))

pub moved_lifts : (w v : World) → (MovedUp w v ⊎ MovedDown w v) → Over UpMore w.ends v.ends
moved_lifts w v (inl m) =
    subst (λ (x : World). Over UpMore w.ends x.ends) (sym m.after)
    (over_with UpMore up_more (λ e. record e { up_moved = e.up_moved + m.count }) (λ e. up_alike e (record e { up_moved = e.up_moved + m.count }) refl (λ h. h) refl refl) m.conn w.ends)
moved_lifts w v (inr m) =
    subst (λ (x : World). Over UpMore w.ends x.ends) (sym m.after)
    (over_with UpMore up_more (λ e. record e { down_moved = e.down_moved + m.count }) (λ e. up_alike e (record e { down_moved = e.down_moved + m.count }) refl (λ h. h) refl refl) m.conn w.ends)
