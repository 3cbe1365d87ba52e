-- What is told of a bus, one message and one closing after the other.
use Rattle.std.proofs.Common.{◌≡◌, ℕ, ◌<◌, ◌≤◌, true, false, List, [], ◌∷◌, ◌++◌, map, Option, None, Some, refl, sym, ap, ◌∙◌, append_assoc, append-nil}
use Rattle.std.specs.Prelude.{option_to_list, if◌then◌else◌}
use Rattle.std.proofs.lemmas.Bool.{le-leb, lt-leb}
use Rattle.std.proofs.lemmas.List.{map-append}
use Rattle.atspi_message.specs.Envelope.{Envelope, envelope_of}
use Rattle.atspi_message.specs.declared.message.Message.{Message}
use Rattle.atspi_script_lines.specs.declared.line.Party.{Party}
use Rattle.atspi_script_lines.specs.declared.line.Party.TheVariants.{Bus as The_bus, Registry}
use Rattle.atspi_match.specs.declared.routing.closing.Closing.{Closing}
use Rattle.atspi_match.specs.routing.Queues.{Bus}
use Rattle.atspi_trace_events.specs.declared.event.Event.{Event}
use Rattle.atspi_trace_events.specs.declared.event.Event.TheVariants.{Sent}
use Rattle.atspi_trace.specs.Entry.{Entry, entry_of, entries_of, sent}
use Rattle.atspi_trace.specs.Ends.{same_party}
use Rattle.atspi_trace.specs.Carrying.{is_upto, sent_by_bus, dropped_if}
use Rattle.atspi_world_moves.specs.inner.Told.{party_in, ahead, front_upto, behind_upto, bus_told}

-- a message that was told
note_more : (m : Message) (t t' : List Event) (es whole : List Entry) → t' ≡ t ++ Sent The_bus m ∷ [] → entries_of t ++ (sent The_bus (envelope_of m) ∷ es) ≡ whole → entries_of t' ++ es ≡ whole
note_more m t t' es whole is h =
    ap (λ l. entries_of l ++ es) is ∙ ap (λ l. l ++ es) (map-append entry_of t (Sent The_bus m ∷ [])) ∙ append_assoc (entries_of t) (sent The_bus (envelope_of m) ∷ []) es ∙ h

module _ (m : Message) (own own' : Option Message) (b b' : Bus) (is : own ≡ Some m) where
  -- all that was ahead: this message, and what is ahead now
  ahead_more : b ≡ record b' { own = ahead own' b' } → ahead own b ≡ envelope_of m ∷ ahead own' b'
  ahead_more next = ap (λ o. map envelope_of (option_to_list o) ++ b.own) is ∙ ap (λ (x : Bus). envelope_of m ∷ x.own) next

  ahead_is : ahead own b ≡ envelope_of m ∷ b.own
  ahead_is = ap (λ o. map envelope_of (option_to_list o) ++ b.own) is

  module _ (last : ℕ) where
    pub own_more : (t t' : List Event) (whole : List Entry) → m.serial ≤ last → t' ≡ t ++ Sent The_bus m ∷ [] → b ≡ record b' { own = ahead own' b' }
        → entries_of t ++ sent_by_bus (front_upto last (ahead own b)) ≡ whole → entries_of t' ++ sent_by_bus (front_upto last (ahead own' b')) ≡ whole
    own_more t t' whole low told next h =
        let upto : is_upto last (envelope_of m) ≡ true = le-leb m.serial last low in
        note_more m t t' (sent_by_bus (front_upto last (ahead own' b'))) whole told
        (ap (λ l. entries_of t ++ sent_by_bus l)
        (sym (ap (front_upto last) (ahead_more next) ∙ ap (λ x. if x then envelope_of m ∷ front_upto last (ahead own' b') else []) upto)) ∙ h)

    pub behind_more : (whole : List Envelope) → m.serial ≤ last → b ≡ record b' { own = ahead own' b' } → behind_upto last (ahead own b) ≡ whole → behind_upto last (ahead own' b') ≡ whole
    behind_more whole low next h =
        let upto : is_upto last (envelope_of m) ≡ true = le-leb m.serial last low in
        sym (ap (behind_upto last) (ahead_more next) ∙ ap (λ x. if x then behind_upto last (ahead own' b') else envelope_of m ∷ ahead own' b') upto) ∙ h

    pub own_stop : (t : List Event) (whole : List Entry) → last < m.serial → entries_of t ++ sent_by_bus (front_upto last (ahead own b)) ≡ whole → entries_of t ≡ whole
    own_stop t whole high h =
        let past : is_upto last (envelope_of m) ≡ false = lt-leb m.serial last high in
        sym (append-nil (entries_of t)) ∙ ap (λ l. entries_of t ++ sent_by_bus l) (sym (ap (front_upto last) ahead_is ∙ ap (λ x. if x then envelope_of m ∷ front_upto last b.own else []) past)) ∙ h

    pub behind_stop : (whole : List Envelope) → last < m.serial → behind_upto last (ahead own b) ≡ whole → ahead (Some m) b ≡ whole
    behind_stop whole high h =
        let past : is_upto last (envelope_of m) ≡ false = lt-leb m.serial last high in
        sym (ap (behind_upto last) ahead_is ∙ ap (λ x. if x then behind_upto last b.own else envelope_of m ∷ b.own) past) ∙ h

  pub rest_more : (t t' : List Event) (whole : List Entry) → t' ≡ t ++ Sent The_bus m ∷ [] → b ≡ record b' { own = ahead own' b' }
      → entries_of t ++ sent_by_bus (ahead own b) ≡ whole → entries_of t' ++ sent_by_bus (ahead own' b') ≡ whole
  rest_more t t' whole told next h = note_more m t t' (sent_by_bus (ahead own' b')) whole told (ap (λ l. entries_of t ++ sent_by_bus l) (sym (ahead_more next)) ∙ h)

-- nothing is ahead any more
module _ (own : Option Message) (b : Bus) (is : own ≡ None) (none : b.own ≡ []) where
  nothing : ahead own b ≡ []
  nothing = ap (λ o. map envelope_of (option_to_list o) ++ b.own) is ∙ none

  pub own_end : (last : ℕ) (t : List Event) (whole : List Entry) → entries_of t ++ sent_by_bus (front_upto last (ahead own b)) ≡ whole → entries_of t ≡ whole
  own_end last t whole h = sym (append-nil (entries_of t)) ∙ ap (λ l. entries_of t ++ sent_by_bus (front_upto last l)) (sym nothing) ∙ h

  pub behind_end : (last : ℕ) (whole : List Envelope) → behind_upto last (ahead own b) ≡ whole → ahead None b ≡ whole
  behind_end last whole h = none ∙ ap (behind_upto last) (sym nothing) ∙ h

  pub rest_end : (t : List Event) (whole : List Entry) → entries_of t ++ sent_by_bus (ahead own b) ≡ whole → entries_of t ≡ whole
  rest_end t whole h = sym (append-nil (entries_of t)) ∙ ap (λ l. entries_of t ++ sent_by_bus l) (sym nothing) ∙ h

-- a closing is told
module _ (parties among : List Party) (c : Closing) (cs cs' : List Closing) (a a1 a2 : List Envelope) (t t1 t2 : List Event) (same : among ≡ parties) (first : cs ≡ c ∷ cs') (one : a1 ≡ a)
    (own : entries_of t1 ≡ entries_of t ++ sent_by_bus (front_upto c.after a1)) (dropped : entries_of t2 ≡ entries_of t1 ++ dropped_if (party_in among c.conn) c.why) where
  abbrev who : Party
  who = party_in among c.conn

  so_far : entries_of t2 ≡ entries_of t ++ (sent_by_bus (front_upto c.after a) ++ dropped_if who c.why)
  so_far = dropped ∙ ap (λ l. l ++ dropped_if who c.why) (own ∙ ap (λ l. entries_of t ++ sent_by_bus (front_upto c.after l)) one)
      ∙ append_assoc (entries_of t) (sent_by_bus (front_upto c.after a)) (dropped_if who c.why)

  all_is : bus_told parties a cs ≡ sent_by_bus (front_upto c.after a) ++ (dropped_if who c.why ++ (if same_party who Registry then [] else bus_told parties (behind_upto c.after a) cs'))
  all_is = ap (bus_told parties a) first
      ∙ ap (λ l. sent_by_bus (front_upto c.after a) ++ (dropped_if (party_in l c.conn) c.why ++ (if same_party (party_in l c.conn) Registry then [] else bus_told parties (behind_upto c.after a) cs'))) (sym same)

  pub closing_more : a2 ≡ behind_upto c.after a1 → same_party who Registry ≡ false → entries_of t2 ++ bus_told parties a2 cs' ≡ entries_of t ++ bus_told parties a cs
  closing_more next other =
      ap (λ l. l ++ bus_told parties a2 cs') so_far
      ∙ append_assoc (entries_of t) (sent_by_bus (front_upto c.after a) ++ dropped_if who c.why) (bus_told parties a2 cs')
      ∙ ap (λ l. entries_of t ++ l)
      (append_assoc (sent_by_bus (front_upto c.after a)) (dropped_if who c.why) (bus_told parties a2 cs')
      ∙ ap (λ l. sent_by_bus (front_upto c.after a) ++ (dropped_if who c.why ++ l))
      (ap (λ l. bus_told parties l cs') (next ∙ ap (behind_upto c.after) one) ∙ sym (ap (λ x. if x then [] else bus_told parties (behind_upto c.after a) cs') other))
      ∙ sym all_is)

  pub closing_last : same_party who Registry ≡ true → entries_of t2 ≡ entries_of t ++ bus_told parties a cs
  closing_last registry =
      so_far ∙ ap (λ l. entries_of t ++ (sent_by_bus (front_upto c.after a) ++ l)) (sym (append-nil (dropped_if who c.why)))
      ∙ ap (λ l. entries_of t ++ (sent_by_bus (front_upto c.after a) ++ (dropped_if who c.why ++ l))) (sym (ap (λ x. if x then [] else bus_told parties (behind_upto c.after a) cs') registry))
      ∙ ap (λ l. entries_of t ++ l) (sym all_is)

pub closing_none : (parties : List Party) (cs : List Closing) (a : List Envelope) (t t' : List Event) → cs ≡ [] → entries_of t' ≡ entries_of t ++ sent_by_bus a → entries_of t' ≡ entries_of t ++ bus_told parties a cs
closing_none parties cs a t t' none is = is ∙ ap (λ l. entries_of t ++ bus_told parties a l) (sym none)

-- but for its own messages and closings the bus is as it was
abbrev bus_of : Bus → List Envelope → List Closing → Bus
bus_of b own closings = record b { own = own; closings = closings }

pub bus_more : (start x0 x1 x2 x3 : Bus) (c : Closing) → x0 ≡ record start { own = x0.own; closings = x0.closings } → x0 ≡ record x1 { closings = c ∷ x1.closings } → x2 ≡ record x1 { own = x2.own } → x3 ≡ x2
    → x3 ≡ record start { own = x3.own; closings = x3.closings }
bus_more start x0 x1 x2 x3 c was popped told same =
    let one : bus_of x1 x3.own x3.closings ≡ bus_of start x3.own x3.closings = ap (λ (x : Bus). bus_of x x3.own x3.closings) (sym popped ∙ was) in
    let all : x3 ≡ bus_of x3 x3.own x3.closings = refl in
    all ∙ ap (λ (x : Bus). bus_of x x3.own x3.closings) (same ∙ told) ∙ one
