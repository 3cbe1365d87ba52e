-- WHAT A CAUSE LEAVES OF AN UP LINK: whoever is here behind it was here, more stands on its link, and no byte of it was moved; but the bus takes the
-- first message of one.
use Rattle.std.proofs.Common.{◌≡◌, ℕ, List, [], ◌∷◌, ◌++◌, length, map, None, refl, sym, ap, ◌∙◌, subst}
use Rattle.std.proofs.lemmas.List.{append-nil, append_assoc}
use Rattle.atspi_message.specs.Envelope.{Envelope}
use Rattle.atspi_script_lines.specs.declared.line.Party.{Party}
use Rattle.atspi_protocol.specs.registering.Steps.{registry_takes}
use Rattle.atspi_protocol.specs.exporting.Exporter.{Exporter}
use Rattle.atspi_protocol.specs.exporting.Taking.{app_takes}
use Rattle.atspi_protocol.specs.declared.following.question.Question.{Question}
use Rattle.atspi_match.specs.routing.Queues.{Bus}
use Rattle.atspi_match.specs.routing.Steps.{bus_takes}
use Rattle.atspi_trace.specs.Rules.{rule_in}
use Rattle.atspi_trace.specs.World.{here, stopped, away, Said, Letter, Role, the_registry, an_application, a_reader, Hearer, End, World}
use Rattle.atspi_trace.specs.Ends.{with_end, plain, put_down, taken_up, taken_down, stops, leaves}
use Rattle.atspi_trace.specs.Hearing.{hears_letter}
use Rattle.atspi_trace.specs.Carrying.{Carried, own_letter, letter_of, stepped, named, with_name, takes}
use Rattle.atspi_trace.specs.Causes.{Done, at_end, saids, has_done, reader_sends, registry_did}
use Rattle.atspi_trace.specs.Due.{asks_as, asks_at}
use Rattle.atspi_trace_laws.proofs.OfOrder.Frame.{Over, IsOrder, over_both, over_with, stepped_over, settled_over, ends_over}
use Rattle.atspi_trace_laws.proofs.OfOrder.Effects.{received, BusTakes, BusEnds, Stopping, RegistryTakes, AppTakes, ReaderTakes}

pub not_away : away ≡ here → ⊥
not_away h = cc

pub not_stopped : stopped ≡ here → ⊥
not_stopped h = cc

-- more on it
pub record GrewUp (e d : End) : Type 0 where
  pub here_before : e.standing ≡ here
  pub more : List Said
  pub up : d.up ≡ e.up ++ more
  pub mark : d.up_moved ≡ e.up_moved

pub record KeepsUp (e d : End) : Type 0 where
  pub whose : d.who ≡ e.who
  pub going : d.standing ≡ here → GrewUp e d

pub keeping_up : IsOrder KeepsUp
keeping_up = record {
  same = λ e. record { whose = refl; going = λ h. record { here_before = h; more = []; up = sym (append-nil e.up); mark = refl } };
  both = λ e d c f g. record {
    whose = g.whose ∙ f.whose;
    going = λ h.
        let y = g.going h in
        let x = f.going y.here_before in
        record { here_before = x.here_before; more = x.more ++ y.more; up = y.up ∙ ap (λ l. l ++ y.more) x.up ∙ append_assoc e.up x.more y.more; mark = y.mark ∙ x.mark };
  };
}

-- nothing else on it
pub record SameLinkUp (e d : End) : Type 0 where
  pub here_before : e.standing ≡ here
  pub up : d.up ≡ e.up
  pub mark : d.up_moved ≡ e.up_moved

pub record SameUp (e d : End) : Type 0 where
  pub whose : d.who ≡ e.who
  pub going : d.standing ≡ here → SameLinkUp e d

pub same_up : IsOrder SameUp
same_up = record {
  same = λ e. record { whose = refl; going = λ h. record { here_before = h; up = refl; mark = refl } };
  both = λ e d c f g. record {
    whose = g.whose ∙ f.whose;
    going = λ h.
        let y = g.going h in
        let x = f.going y.here_before in
        record { here_before = x.here_before; up = y.up ∙ x.up; mark = y.mark ∙ x.mark };
  };
}

pub same_keeps : (e d : End) → SameUp e d → KeepsUp e d
same_keeps e d s = record {
  whose = s.whose;
  going = λ h. let x = s.going h in record { here_before = x.here_before; more = []; up = x.up ∙ sym (append-nil e.up); mark = x.mark };
}

pub over_map : (R S : End → End → Type 0) (a b : List End) → ((e d : End) → R e d → S e d) → Over R a b → Over S a b
over_map R S a b f o = record { size = o.size; back = λ k d h. let x = o.back k d h in (x.0, x.1, f x.0 d x.2) }

-- THE BUS: others than the sender keep their links
put_ : (letter : Letter) (e : End) → SameUp e (put_down letter e)
put_ letter e = record { whose = refl; going = λ h. record { here_before = h; up = refl; mark = refl } }

leave_ : (e : End) → SameUp e (leaves e)
leave_ e = record { whose = refl; going = λ h. absurd (not_away h) }

name_ : (b : Bus) (conn : ℕ) (e : End) → SameUp e (named b conn e)
name_ b conn e = record { whose = refl; going = λ h. record { here_before = h; up = refl; mark = refl } }

takes_same : (c : Carried) (conn : ℕ) (who : Party) (said : Said) → Over SameUp (with_end conn taken_up c.ends) (takes c conn who said).ends
takes_same c conn who said =
    let a : Carried = record c { ends = with_end conn taken_up c.ends } in
    let b : Carried = stepped (letter_of who said) a (bus_takes c.bus.state conn said.message (rule_in said.message)) in
    over_both SameUp same_up a.ends b.ends (takes c conn who said).ends
    (stepped_over SameUp same_up (letter_of who said) (λ m e. put_ (letter_of who said m) e) a (bus_takes c.bus.state conn said.message (rule_in said.message)))
    (over_both SameUp same_up b.ends (with_name conn b).ends (takes c conn who said).ends (over_with SameUp same_up (named b.bus conn) (name_ b.bus conn) conn b.ends)
    (settled_over SameUp same_up (λ m e. put_ (own_letter m) e) leave_ (length c.bus.state.joined) (with_name conn b)))

pub bus_took_same : (w : World) (d : Done) (b : BusTakes w d) → Over SameUp (with_end b.conn taken_up w.ends) d.world.ends
bus_took_same w d b = subst (λ (x : Done). Over SameUp (with_end b.conn taken_up w.ends) x.world.ends) (sym b.is) (takes_same (record { bus = w.bus; ends = w.ends }) b.conn b.e.who b.said)

pub bus_ended_same : (w : World) (d : Done) (b : BusEnds w d) → Over SameUp w.ends d.world.ends
bus_ended_same w d b =
    subst (λ (x : Done). Over SameUp w.ends x.world.ends) (sym b.is) (ends_over SameUp same_up (λ m e. put_ (own_letter m) e) leave_ (record { bus = w.bus; ends = w.ends }) b.conn)

-- OTHERS
puts_ : (e d : End) (more : List Said) → d.who ≡ e.who → d.standing ≡ e.standing → d.up ≡ e.up ++ more → d.up_moved ≡ e.up_moved → KeepsUp e d
puts_ e d more who st up mark = record { whose = who; going = λ h. record { here_before = sym st ∙ h; more = more; up = up; mark = mark } }

pub as_before : (e d : End) → d.who ≡ e.who → d.standing ≡ e.standing → d.up ≡ e.up → d.up_moved ≡ e.up_moved → KeepsUp e d
as_before e d who st up mark = puts_ e d [] who st (up ∙ sym (append-nil e.up)) mark

pub stop_ : (e : End) → KeepsUp e (stops e)
stop_ e = record { whose = refl; going = λ h. absurd (not_stopped h) }

pub acts_over : (w : World) (conn : ℕ) (f : End → End) → ((x : End) → KeepsUp x (f x)) → Over KeepsUp w.ends (with_end conn f w.ends)
acts_over w conn f keeps = over_with KeepsUp keeping_up f keeps conn w.ends

pub taker_over : (w : World) (conn : ℕ) (f : End → End) → ((x : End) → KeepsUp x (f x)) → Over KeepsUp w.ends (with_end conn f (with_end conn taken_down w.ends))
taker_over w conn f keeps =
    over_both KeepsUp keeping_up w.ends (with_end conn taken_down w.ends) (with_end conn f (with_end conn taken_down w.ends))
    (over_with KeepsUp keeping_up taken_down (λ x. as_before x (taken_down x) refl refl refl refl) conn w.ends)
    (over_with KeepsUp keeping_up f keeps conn (with_end conn taken_down w.ends))

pub stopping_keeps : (w : World) (d : Done) (b : Stopping w d) → Over KeepsUp w.ends d.world.ends
stopping_keeps w d b = subst (λ (x : Done). Over KeepsUp w.ends x.world.ends) (sym b.is) (acts_over w b.conn stops stop_)

pub registry_keeps : (w : World) (d : Done) (b : RegistryTakes w d) → Over KeepsUp w.ends d.world.ends
registry_keeps w d b =
    let step = registry_takes b.before b.letter.said.message in
    subst (λ (x : Done). Over KeepsUp w.ends x.world.ends) (sym b.is)
    (taker_over w b.conn (registry_did step) (λ x. puts_ x (registry_did step x) (map plain step.sent) refl refl refl refl))

pub app_keeps : (w : World) (d : Done) (b : AppTakes w d) → Over KeepsUp w.ends d.world.ends
app_keeps w d b =
    let t = app_takes b.before b.letter.said.message in
    subst (λ (x : Done). Over KeepsUp w.ends x.world.ends) (sym b.is)
    (taker_over w b.conn (has_done b.before t) (λ x. puts_ x (has_done b.before t x) (saids b.before b.before.tree None t.out) refl refl refl refl))

pub reader_keeps : (w : World) (d : Done) (b : ReaderTakes w d) → Over KeepsUp w.ends d.world.ends
reader_keeps w d b =
    let h = hears_letter b.hearer (received w b.conn b.e b.letter).ends b.letter in
    subst (λ (x : Done). Over KeepsUp w.ends x.world.ends) (sym b.is)
    (taker_over w b.conn (λ e. record e { role = a_reader h }) (λ x. as_before x (record x { role = a_reader h }) refl refl refl refl))

pub asked_keeps : (w : World) (conn : ℕ) (m : Envelope) (question : Question) → Over KeepsUp w.ends (at_end w conn (asks_at m question)).ends
asked_keeps w conn m question = acts_over w conn (asks_at m question) asks_
  where
    asks_ : (e : End) → KeepsUp e (asks_at m question e)
    asks_ e = by e.role
      where
        by : (role : Role) → KeepsUp e (asks_as role m question e)
        by (a_reader h) = puts_ e (asks_as (a_reader h) m question e) (plain m ∷ []) refl refl refl refl
        by (the_registry s) = as_before e e refl refl refl refl
        by (an_application s) = as_before e e refl refl refl refl

pub edits_keeps : (w : World) (conn : ℕ) (before after : Exporter) → Over KeepsUp w.ends (with_end conn (has_done before after) w.ends)
edits_keeps w conn before after = acts_over w conn (has_done before after) (λ x. puts_ x (has_done before after x) (saids before before.tree None after.out) refl refl refl refl)

pub calls_keeps : (w : World) (conn : ℕ) (h : Hearer) (m : Envelope) → Over KeepsUp w.ends (with_end conn (reader_sends h m) w.ends)
calls_keeps w conn h m = acts_over w conn (reader_sends h m) (λ x. puts_ x (reader_sends h m x) (plain m ∷ []) refl refl refl refl)
