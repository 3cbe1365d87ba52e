-- What readers hold, show and speak, along a lawful trace.
use Rattle.std.proofs.Common.{◌≡◌, ◌⊎◌, inl, inr, ℕ, zero, suc, ◌+◌, ◌≤◌, Bool, true, false, List, [], ◌∷◌, ◌++◌, length, map, Option, None, Some, refl, sym, ap, ap₂, ◌∙◌, subst, arith}
use Rattle.std.specs.Prelude.{◌==◌, nat_lt, if◌then◌else◌}
use Rattle.std.specs.List.{AllByRecursion}
use Rattle.std.proofs.lemmas.Bool.{ltb-false, eq-eqb, eqb-true, ne_eqb}
use Rattle.std.proofs.lemmas.List.{append-nil, append_assoc}
use Rattle.atspi_tree_model.specs.Forest.{first_of}
use Rattle.atspi_tree_model.specs.View.{view}
use Rattle.atspi_script_lines.specs.declared.limits.TheConstants.{QUOTA_MOST}
use Rattle.atspi_script_lines.specs.declared.line.Line.{Line}
use Rattle.atspi_script_lines.specs.declared.line.Party.{Party}
use Rattle.atspi_script_lines.specs.declared.line.Party.TheVariants.{Bus as The_bus, Registry, App, Reader}
use Rattle.atspi_message.specs.Envelope.{Envelope}
use Rattle.atspi_protocol.specs.registering.Steps.{RegistryStep, registry_takes}
use Rattle.atspi_protocol.specs.exporting.Exporter.{Happening, steps, sends, hears, deaf, Exporter}
use Rattle.atspi_protocol.specs.exporting.Taking.{app_takes}
use Rattle.atspi_match.specs.declared.routing.closing.Closing.{Closing}
use Rattle.atspi_match.specs.routing.Queues.{Bus}
use Rattle.atspi_protocol.specs.following.Calls.{asking, user_call}
use Rattle.atspi_protocol.specs.declared.following.question.Question.{Question}
use Rattle.atspi_protocol.specs.declared.following.question.Question.TheVariants.{Hello}
use Rattle.atspi_trace.specs.Entry.{Entry, started, sent, got, spoke, showed, gone, dropped}
use Rattle.atspi_trace.specs.World.{Role, the_registry, an_application, a_reader, waits, Asked, Holding, Hearer, Letter, Said, first_registry, first_world, End, World}
use Rattle.atspi_trace.specs.Ends.{same_party, is_reader, number_of, whose, party_at, end_at, with_end, put_down, taken_up, taken_down, stops, leaves, reader_count}
use Rattle.atspi_trace.specs.Carrying as carrying
use Rattle.atspi_trace.specs.Carrying.{own_letter, letter_of, named, bus_entries}
use Rattle.atspi_trace.specs.Hearing.{question_in, holding_of, app_ended, hears_letter, lines_if_held, last_lines, ended_entries, heard_entries}
use Rattle.atspi_trace.specs.Causes.{Done, only, at_end, did, has_done, asks, reader_sends, first_hearer, registry_did, told_in, shown_rows, rows_held, app_starts, reader_starts}
use Rattle.atspi_trace.specs.Due.{asks_as, asks_at, begins, after_all, Goes}
use Rattle.atspi_trace_laws.specs.laws.Words.{message, with_serial, as_of, own_call, question_if, Kept, held}
use Rattle.atspi_trace_laws.specs.laws.NineLaws.{Everywhere, rows_due, ShowsTree, LawOfShownRows, IsSpoken, LawOfSpokenLines, Follow}
use Rattle.atspi_trace_laws.specs.order.Scripts.{CanAllStand}
use Rattle.atspi_trace_laws.proofs.OfOrder.Parties.{no_none, same_some, false_true, party-same}
use Rattle.atspi_trace_laws.proofs.OfOrder.BusWords.{all_any, bus_all}
use Rattle.atspi_trace_laws.proofs.OfOrder.Plain.{user_plain}
use Rattle.atspi_trace_laws.proofs.OfOrder.Allowed.{MovedUp, MovedDown, Asks}
use Rattle.atspi_trace_laws.proofs.OfOrder.Frame.{Over, IsOrder, over_same, over_both, over_with, takes_over, ends_over, joined_cases, with_cases}
use Rattle.atspi_trace_laws.proofs.OfOrder.Shape.{Lasts, lasting, Shape}
use Rattle.atspi_trace_laws.proofs.OfOrder.Effects.{received, ReaderCalls, Showing, ReaderTakes, Effect, resets, app_joins, reader_joins, app_edited, app_took, reader_called, swapped, exited_, showed_, told_busy, told_quiet, bus_took, bus_ended, registry_took, reader_took}
use Rattle.atspi_trace_laws.proofs.OfOrder.Shaped.{received_at, new_app, new_reader, app_joined, bus_takes_over, bus_ends_over, edits_over, app_takes_over, calls_over, stopping_over, registry_over, reader_over, up_moved_over, down_moved_over, asked_over}
use Rattle.atspi_trace_laws.proofs.OfOrder.Along.{Keeps, kept}
use Rattle.atspi_trace_laws.proofs.OfOrder.Growing.{Grows, Shaped, And, grown}
use Rattle.atspi_trace_laws.proofs.OfOrder.Each.{Each, everywhere, each_more, each_of, all_map}
use Rattle.atspi_trace_laws.proofs.OfSerials.Speaking.{next_of}
use Rattle.atspi_trace_laws.proofs.OfSerials.Numbers.{IsFresh, Numbered, known_not_fresh, fresh_over}
use Rattle.atspi_trace_laws.proofs.OfSerials.Hushing.{app_speaks, reader_speaks}
use Rattle.atspi_trace_laws.proofs.OfTaken.Found.{NotSent, none_more, found_more, look_is, looked}
use Rattle.atspi_trace_laws.proofs.OfTaken.Said.{IsLetter, Comes}
use Rattle.atspi_trace_laws.proofs.OfTaken.LawTaken.{Under, Taken, Known, not_sent_at, taken_keeps}
use Rattle.atspi_trace_laws.proofs.OfHeld.Holdings.{call_at, call_last, or_none}
use Rattle.atspi_trace_laws.proofs.OfHeld.Keeping.{held_more, NotOfReader, others_kept, SameKept, same_more, ReaderIs, others_act}
use Rattle.atspi_trace_laws.specs.held.Laws.{IsDueWord}
use Rattle.atspi_trace_laws.proofs.OfHeld.Reading.{app_heard, app_spoken, other_heard}
use Rattle.atspi_trace_laws.proofs.OfHeld.Speaking.{Reads, words_by}

follow_more : (entries behind ys : List Entry) → Follow entries behind → Follow entries (behind ++ ys)
follow_more entries behind ys f = (f.0 ++ ys, ap (λ l. l ++ ys) f.1 ∙ append_assoc entries f.0 ys)

shown_more : (ys before : List Entry) (entry : Entry) (behind : List Entry) → ShowsTree before entry behind → ShowsTree before entry (behind ++ ys)
shown_more ys before (showed reader app rows) behind h = h
shown_more ys before entry behind h = tt

spoken_more : (ys before : List Entry) (entry : Entry) (behind : List Entry) → IsSpoken before entry behind → IsSpoken before entry (behind ++ ys)
spoken_more ys before (got (Reader r) (App app) serial) behind h = λ some step a. follow_more _ behind ys (h some step a)
spoken_more ys before (got (Reader r) The_bus serial) behind h = tt
spoken_more ys before (got (Reader r) Registry serial) behind h = tt
spoken_more ys before (got (Reader r) (Reader q) serial) behind h = tt
spoken_more ys before (got The_bus from serial) behind h = tt
spoken_more ys before (got Registry from serial) behind h = tt
spoken_more ys before (got (App a) from serial) behind h = tt
spoken_more ys before entry behind h = tt

word_more : (ys before : List Entry) (entry : Entry) (behind : List Entry) → IsDueWord before entry behind → IsDueWord before entry (behind ++ ys)
word_more ys before (spoke reader app text) behind h = h
word_more ys before (gone reader app) behind h = h
word_more ys before entry behind h = tt

all_more : (ys early xs : List Entry) → Each Reads early xs → Each (λ before entry behind. Reads before entry (behind ++ ys)) early xs
all_more ys early [] e = tt
all_more ys early (x ∷ xs) e = ((shown_more ys early x xs e.0.0, spoken_more ys early x xs e.0.1, word_more ys early x xs e.0.2), all_more ys (early ++ x ∷ []) xs e.1)

law_more : (es ys : List Entry) → Each Reads [] es → Each Reads es ys → Each Reads [] (es ++ ys)
law_more es ys a b = each_more Reads [] es ys (all_more ys [] es a) b

-- THE STATE
abbrev pub Readers : List Entry → World → Type 0
Readers es w = (k r : ℕ) (e : End) (h : Hearer) → end_at w.ends k ≡ Some e → e.who ≡ Reader r → e.role ≡ a_reader h → ReaderIs es r h

abbrev pub NoneHeld : List Entry → World → Type 0
NoneHeld es w = (r : ℕ) → IsFresh w (Reader r) → (app : ℕ) → held es r app ≡ None

abbrev pub Holds : List Entry → World → Type 0
Holds es w = Each Reads [] es × Readers es w × NoneHeld es w

-- an end is of the same party, and where it is a reader now it was the same before
pub record SameReader (e d : End) : Type 0 where
  pub whose : d.who ≡ e.who
  pub role : (h : Hearer) → d.role ≡ a_reader h → e.role ≡ a_reader h

pub same_reader : IsOrder SameReader
same_reader = record {
  same = λ e. record { whose = refl; role = λ s h. h };
  both = λ e d c f g. record { whose = g.whose ∙ f.whose; role = λ s h. f.role s (g.role s h) };
}

alike : (e d : End) → d.who ≡ e.who → d.role ≡ e.role → SameReader e d
alike e d who role = record { whose = who; role = λ h g. sym role ∙ g }

abbrev is_reader_role : Role → Bool
is_reader_role (a_reader h) = true
is_reader_role role = false

no_reader : (role : Role) (h : Hearer) → is_reader_role role ≡ false → role ≡ a_reader h → ⊥
no_reader role h none is = false_true (sym none ∙ ap is_reader_role is)

abbrev hearer_in : Role → Hearer → Hearer
hearer_in (a_reader h) g = h
hearer_in role g = g

same_hearer : (h g : Hearer) → a_reader h ≡ a_reader g → h ≡ g
same_hearer h g e = ap (λ r. hearer_in r h) e

-- entries of no reader
abbrev NoReader : Entry → Type 0
NoReader (got (Reader q) from serial) = ⊥
NoReader (gone q app) = ⊥
NoReader (spoke q app text) = ⊥
NoReader (sent (Reader q) e) = ⊥
NoReader (showed q app rows) = ⊥
NoReader entry = Unit {0}

none_of : (r : ℕ) (entry : Entry) → NoReader entry → NotOfReader r entry
none_of r (got (Reader q) from serial) h = absurd h
none_of r (gone q app) h = absurd h
none_of r (spoke q app text) h = absurd h
none_of r (sent (Reader q) e) h = absurd h
none_of r (got The_bus from serial) h = tt
none_of r (got Registry from serial) h = tt
none_of r (got (App a) from serial) h = tt
none_of r (sent The_bus e) h = tt
none_of r (sent Registry e) h = tt
none_of r (sent (App a) e) h = tt
none_of r entry h = tt

none_reads : (before : List Entry) (entry : Entry) (behind : List Entry) → NoReader entry → Reads before entry behind
none_reads before (showed reader app rows) behind h = absurd h
none_reads before (got (Reader r) from serial) behind h = absurd h
none_reads before (gone r app) behind h = absurd h
none_reads before (spoke r app text) behind h = absurd h
none_reads before (got The_bus from serial) behind h = (tt, tt, tt)
none_reads before (got Registry from serial) behind h = (tt, tt, tt)
none_reads before (got (App a) from serial) behind h = (tt, tt, tt)
none_reads before entry behind h = (tt, tt, tt)

-- no reader acts
pub no_reader_acts : (es ys : List Entry) (w v : World) → Holds es w → Over SameReader w.ends v.ends → ((p : Party) → IsFresh v p → IsFresh w p) → AllByRecursion NoReader ys → Holds (es ++ ys) v
no_reader_acts es ys w v i o fewer n = (
  law_more es ys i.0 (each_of NoReader Reads es ys none_reads n),
  λ k r e h there who role. let x = o.back k e there in others_act es ys r h (of r) (i.1 k r x.0 h x.1 (sym x.2.whose ∙ who) (x.2.role h role)),
  λ r f app. held_more es ys r app ∙ others_kept es r app (held es r app) ys (of r) ∙ i.2 r (fewer (Reader r) f) app,
)
  where
    of : (r : ℕ) → AllByRecursion (NotOfReader r) ys
    of r = all_map NoReader (NotOfReader r) ys (none_of r) n

-- ONE READER ACTS
module _ (es ys : List Entry) (w v : World) (conn r : ℕ) (e : End) (g : Hearer) (base : List End) (f : End → End) (sh : Shape w) (i : Holds es w) (o : Over SameReader w.ends base) (there : end_at base conn ≡ Some e)
    (is : e.who ≡ Reader r) (ends : v.ends ≡ with_end conn f base) (whose_ : (f e).who ≡ e.who) (role_ : (f e).role ≡ a_reader g) (fewer : (p : Party) → IsFresh v p → IsFresh w p)
    (law : Each Reads es ys) (now : ReaderIs (es ++ ys) r g) (others : (q : ℕ) → (r ≡ q → ⊥) → AllByRecursion (NotOfReader q) ys) where
  z : (x : End) × (end_at w.ends conn ≡ Some x) × SameReader x e
  z = o.back conn e there

  readers : Readers (es ++ ys) v
  readers k q x h at who role = by (with_cases f base conn k x (ap (λ l. end_at l k) (sym ends) ∙ at))
    where
      by : ((y : End) × (end_at base k ≡ Some y) × (((k ≡ conn) × (x ≡ f y)) ⊎ ((k ≡ conn → ⊥) × (x ≡ y)))) → ReaderIs (es ++ ys) q h
      by y = one y.2
        where
          one : (((k ≡ conn) × (x ≡ f y.0)) ⊎ ((k ≡ conn → ⊥) × (x ≡ y.0))) → ReaderIs (es ++ ys) q h
          one (inl c) =
              let same : y.0 ≡ e = same_some y.0 e (sym y.1 ∙ ap (end_at base) c.0 ∙ there) in
              let is_f : x ≡ f e = c.1 ∙ ap f same in
              let number : r ≡ q = ap number_of (sym is ∙ sym whose_ ∙ ap (λ (t : End). t.who) (sym is_f) ∙ who) in
              let state : g ≡ h = same_hearer g h (sym role_ ∙ ap (λ (t : End). t.role) (sym is_f) ∙ role) in
              subst (λ n. ReaderIs (es ++ ys) n h) number (subst (ReaderIs (es ++ ys) r) state now)
          one (inr c) =
              let u = o.back k y.0 y.1 in
              let who_u : u.0.who ≡ Reader q = sym u.2.whose ∙ ap (λ (t : End). t.who) (sym c.1) ∙ who in
              others_act es ys q h
              (others q (λ same. c.0 (sh.one k conn u.0 z.0 u.1 z.1 (who_u ∙ ap Reader (sym same) ∙ sym is ∙ z.2.whose))))
              (i.1 k q u.0 h u.1 who_u (u.2.role h (ap (λ (t : End). t.role) (sym c.1) ∙ role)))

  pub reader_acts : Holds (es ++ ys) v
  reader_acts = (
    law_more es ys i.0 law,
    readers,
    λ q h app.
        held_more es ys q app
        ∙ others_kept es q app (held es q app) ys (others q (λ same. known_not_fresh w conn z.0 (Reader q) sh z.1 (sym z.2.whose ∙ is ∙ ap Reader same) (fewer (Reader q) h)))
        ∙ i.2 q (fewer (Reader q) h) app,
  )

-- EACH CAUSE THAT IS NO READER'S
put_ : (letter : Letter) (e : End) → SameReader e (put_down letter e)
put_ letter e = alike e (put_down letter e) refl refl

leave_ : (e : End) → SameReader e (leaves e)
leave_ e = alike e (leaves e) refl refl

name_ : (b : Bus) (conn : ℕ) (e : End) → SameReader e (named b conn e)
name_ b conn e = alike e (named b conn e) refl refl

received_same : (w : World) (conn : ℕ) (e : End) (letter : Letter) → Over SameReader w.ends (received w conn e letter).ends
received_same w conn e letter = over_with SameReader same_reader taken_down (λ x. alike x (taken_down x) refl refl) conn w.ends

no_read_bus : (ends : List End) (own : List Envelope) (closings : List Closing) → AllByRecursion NoReader (bus_entries ends own closings)
no_read_bus ends own closings =
    bus_all NoReader (λ e. tt) ends own closings (all_any (λ (x : Closing). (queued len : ℕ) → NoReader (dropped (party_at ends x.conn) queued len)) (λ x queued len. tt) closings)

did_no_reader : (app : ℕ) (hs : List Happening) → AllByRecursion NoReader (map (did app) hs)
did_no_reader app [] = tt
did_no_reader app (steps step ∷ hs) = (tt, did_no_reader app hs)
did_no_reader app (sends e ∷ hs) = (tt, did_no_reader app hs)
did_no_reader app (hears listener pattern ∷ hs) = (tt, did_no_reader app hs)
did_no_reader app (deaf listener pattern ∷ hs) = (tt, did_no_reader app hs)

registry_no_reader : (es : List Envelope) → AllByRecursion NoReader (map (sent Registry) es)
registry_no_reader [] = tt
registry_no_reader (e ∷ es) = (tt, registry_no_reader es)

sent_no_reader : (who : Party) (es : List Envelope) → who ≡ Registry → AllByRecursion NoReader (map (sent who) es)
sent_no_reader who es h = subst (λ p. AllByRecursion NoReader (map (sent p) es)) (sym h) (registry_no_reader es)

got_no_reader : (who from : Party) (serial : ℕ) → is_reader who ≡ false → NoReader (got who from serial)
got_no_reader The_bus from serial h = tt
got_no_reader Registry from serial h = tt
got_no_reader (App a) from serial h = tt
got_no_reader (Reader r) from serial h = absurd (false_true (sym h))

none_in : (d x : Done) → d ≡ x → AllByRecursion NoReader x.entries → AllByRecursion NoReader d.entries
none_in d x is a = subst (λ y. AllByRecursion NoReader y.entries) (sym is) a

same_ends : (w : World) (d : Done) → d.world.ends ≡ w.ends → Over SameReader w.ends d.world.ends
same_ends w d h = subst (Over SameReader w.ends) (sym h) (over_same SameReader same_reader w.ends)

same_fresh : (w v : World) → v.ends ≡ w.ends → (p : Party) → IsFresh v p → IsFresh w p
same_fresh w v h p f = fresh_over w v (subst (Over Lasts w.ends) (sym h) (over_same Lasts lasting w.ends)) p f

-- an application acts
app_acts : (es : List Entry) (w v : World) (ys : List Entry) (conn : ℕ) (base : List End) (f : End → End) → Holds es w → Over SameReader w.ends base → ((x : End) → SameReader x (f x)) → v.ends ≡ with_end conn f base
    → ((p : Party) → IsFresh v p → IsFresh w p) → AllByRecursion NoReader ys → Holds (es ++ ys) v
app_acts es w v ys conn base f i o same is fewer n =
    no_reader_acts es ys w v i (subst (Over SameReader w.ends) (sym is) (over_both SameReader same_reader w.ends base (with_end conn f base) o (over_with SameReader same_reader f same conn base))) fewer n

app_same : (s t : Exporter) (x : End) → SameReader x (has_done s t x)
app_same s t x = record { whose = refl; role = λ h g. absurd (no_reader (an_application (record t { out = [] })) h refl g) }

registry_same : (step : RegistryStep) (x : End) → SameReader x (registry_did step x)
registry_same step x = record { whose = refl; role = λ h g. absurd (no_reader (the_registry step.state) h refl g) }

-- A READER'S CALL
looked_none : (b : Bool) (m : Envelope) → question_in m ≡ None → question_if (looked true b m None) ≡ None
looked_none true m h = h
looked_none false m h = refl

-- a user's call is no own call
user_calls : (es : List Entry) (r : ℕ) (m : Envelope) → question_in m ≡ None → (s : ℕ) → own_call (es ++ sent (Reader r) m ∷ []) r s ≡ own_call es r s
user_calls es r m none s = by (message es (Reader r) s) refl
  where
    by : (o : Option Envelope) → message es (Reader r) s ≡ o → own_call (es ++ sent (Reader r) m ∷ []) r s ≡ own_call es r s
    by (Some x) g = ap question_if (found_more es (sent (Reader r) m ∷ []) (Reader r) s x g ∙ sym g)
    by None g =
        ap question_if (none_more es (sent (Reader r) m ∷ []) (Reader r) s g ∙ look_is (Reader r) (Reader r) m [] s ∙ ap (λ a. looked a (m.serial == s) m None) (party-same (Reader r)))
        ∙ looked_none (m.serial == s) m none ∙ sym (ap question_if g)

-- an own call is one more
own_calls : (es : List Entry) (r : ℕ) (m : Envelope) (question : Question) (x : Asked) (asked : List Asked) → question_in m ≡ Some question → x.question ≡ question → x.serial ≡ m.serial → NotSent es (Reader r) m.serial
    → ((s : ℕ) → own_call es r s ≡ call_at s asked) → (s : ℕ) → own_call (es ++ sent (Reader r) m ∷ []) r s ≡ call_at s (asked ++ x ∷ [])
own_calls es r m question x asked is_call asks_ serial none i s = by (message es (Reader r) s) refl
  where
    last : call_at s (asked ++ x ∷ []) ≡ first_of (call_at s asked) (if s == m.serial then Some question else None)
    last = call_last s asked x ∙ ap₂ (λ n q. first_of (call_at s asked) (if s == n then Some q else None)) serial asks_

    looked_one : (b c : Bool) → b ≡ c → question_if (looked true b m None) ≡ (if c then Some question else None)
    looked_one true true h = is_call
    looked_one false false h = refl
    looked_one true false h = absurd (false_true (sym h))
    looked_one false true h = absurd (false_true h)

    turned : (m.serial == s) ≡ (s == m.serial)
    turned = at (m.serial == s) refl
      where
        at : (b : Bool) → (m.serial == s) ≡ b → b ≡ (s == m.serial)
        at true g = sym (eq-eqb s m.serial (sym (eqb-true m.serial s g)))
        at false g = sym (ne_eqb s m.serial (λ h. false_true (sym g ∙ eq-eqb m.serial s (sym h))))

    by : (o : Option Envelope) → message es (Reader r) s ≡ o → own_call (es ++ sent (Reader r) m ∷ []) r s ≡ call_at s (asked ++ x ∷ [])
    by (Some y) g =
        let differ : (s ≡ m.serial) → ⊥ = λ h. no_none y (sym (none s (least m.serial s h)) ∙ g) in
        ap question_if (found_more es (sent (Reader r) m ∷ []) (Reader r) s y g ∙ sym g) ∙ i s
        ∙ sym (last ∙ ap (λ b. first_of (call_at s asked) (if b then Some question else None)) (ne_eqb s m.serial differ) ∙ or_none (call_at s asked))
      where
        least : (a b : ℕ) → b ≡ a → a ≤ b
        least a b h = omega (arith, h)
    by None g =
        let nothing : call_at s asked ≡ None = sym (i s) ∙ ap question_if g in
        ap question_if (none_more es (sent (Reader r) m ∷ []) (Reader r) s g ∙ look_is (Reader r) (Reader r) m [] s ∙ ap (λ a. looked a (m.serial == s) m None) (party-same (Reader r)))
        ∙ looked_one (m.serial == s) (s == m.serial) turned
        ∙ sym (last ∙ ap (λ o. first_of o (if s == m.serial then Some question else None)) nothing)

-- what it holds stays
sent_holds : (es : List Entry) (r : ℕ) (m : Envelope) (h g : Hearer) → g.holds ≡ h.holds → ((s : ℕ) → own_call (es ++ sent (Reader r) m ∷ []) r s ≡ call_at s g.asked) → ReaderIs es r h → ReaderIs (es ++ sent (Reader r) m ∷ []) r g
sent_holds es r m h g same calls i = record {
  calls = calls;
  holds = λ app.
      subst (λ ks. SameKept (es ++ sent (Reader r) m ∷ []) app (held (es ++ sent (Reader r) m ∷ []) r app) (holding_of app ks)) (sym same)
      (subst (λ k. SameKept (es ++ sent (Reader r) m ∷ []) app k (holding_of app h.holds)) (sym (held_more es (sent (Reader r) m ∷ []) r app))
      (same_more es (sent (Reader r) m ∷ []) app (held es r app) (holding_of app h.holds) (i.holds app)));
}

others_sent : (r q : ℕ) (m : Envelope) → (r ≡ q → ⊥) → AllByRecursion (NotOfReader q) (sent (Reader r) m ∷ [])
others_sent r q m differ = (ne_eqb r q differ, tt)

calls_hold : (es : List Entry) (w : World) (d : Done) → Shape w → Holds es w → ReaderCalls w d → Holds (es ++ d.entries) d.world
calls_hold es w d s i b =
    let m : Envelope = user_call b.hearer.next b.name b.node b.deed in
    let g : Hearer = record b.hearer { next = suc b.hearer.next } in
    let wrote : d.entries ≡ sent (Reader b.reader) m ∷ [] = ap (λ x. x.entries) b.is ∙ ap (λ o. sent (whose o) m ∷ []) b.is_here.there ∙ ap (λ p. sent p m ∷ []) b.whose in
    let old : ReaderIs es b.reader b.hearer = i.1 b.conn b.reader b.e b.hearer b.is_here.there b.whose b.role in
    subst (λ l. Holds (es ++ l) d.world) (sym wrote)
    (reader_acts es (sent (Reader b.reader) m ∷ []) w d.world b.conn b.reader b.e g w.ends (reader_sends g m) s i (over_same SameReader same_reader w.ends) b.is_here.there b.whose
    (ap (λ x. x.world.ends) b.is) refl refl (fresh_over w d.world (calls_over w d b)) ((tt, tt, tt), tt)
    (sent_holds es b.reader m b.hearer g refl (λ t. user_calls es b.reader m (user_plain b.hearer.next b.name b.node b.deed) t ∙ old.calls t) old)
    (λ q differ. others_sent b.reader q m differ))

asked_holds : (es : List Entry) (w : World) (conn r : ℕ) (m : Envelope) (question : Question) → Shape w → Numbered es w → Holds es w → Asks w conn r m question
    → Holds (es ++ sent (Reader r) m ∷ []) (at_end w conn (asks_at m question))
asked_holds es w conn r m question s n i a =
    let v : World = at_end w conn (asks_at m question) in
    let g : Hearer = asks question a.hearer in
    let f : End = asks_at m question a.asker in
    let is_f : f ≡ reader_sends g m a.asker = ap (λ x. asks_as x m question a.asker) a.reader in
    let old : ReaderIs es r a.hearer = i.1 conn r a.asker a.hearer a.is_here.there a.whose a.reader in
    let serial : m.serial ≡ a.hearer.next = ap (λ (e : Envelope). e.serial) a.spelled in
    let none : NotSent es (Reader r) a.hearer.next = not_sent_at es w conn a.asker (Reader r) a.hearer.next s n a.is_here.there a.whose (ap next_of a.reader) in
    reader_acts es (sent (Reader r) m ∷ []) w v conn r a.asker g w.ends (asks_at m question) s i (over_same SameReader same_reader w.ends) a.is_here.there a.whose refl
    (ap (λ (x : End). x.who) is_f) (ap (λ (x : End). x.role) is_f) (fresh_over w v (asked_over w conn r m question a)) ((tt, tt, tt), tt)
    (sent_holds es r m a.hearer g refl
    (own_calls es r m question (record { serial = a.hearer.next; question = question; fate = waits }) a.hearer.asked a.read refl (sym serial) (subst (NotSent es (Reader r)) (sym serial) none) old.calls) old)
    (λ q differ. others_sent r q m differ)

-- A READER TAKES A MESSAGE
heard_others : (r q : ℕ) (from : Party) (serial : ℕ) (h : Hearer) (ends : List End) (letter : Letter) → (r ≡ q → ⊥) → AllByRecursion (NotOfReader q) (got (Reader r) from serial ∷ heard_entries r h ends letter)
heard_others r q from serial h ends letter differ = (ne_eqb r q differ, of_reader r q h ends letter (ne_eqb r q differ))
  where
    spoken_of : (r q app : ℕ) (lines : List (List ℕ)) → AllByRecursion (NotOfReader q) (map (spoke r app) lines)
    spoken_of r q app [] = tt
    spoken_of r q app (line ∷ lines) = (tt, spoken_of r q app lines)

    ended_of : (r q : ℕ) (h : Hearer) (o : Option ℕ) → (r == q) ≡ false → AllByRecursion (NotOfReader q) (ended_entries r h o)
    ended_of r q h None t = tt
    ended_of r q h (Some app) t = (t, spoken_of r q app (last_lines (holding_of app h.holds)))

    from_of : (r q : ℕ) (h : Hearer) (ends : List End) (l : Letter) (p : Party) → (r == q) ≡ false → AllByRecursion (NotOfReader q) (heard_entries r h ends (record l { from = p }))
    from_of r q h ends l (App app) t = spoken_of r q app (lines_if_held (holding_of app h.holds) l.said)
    from_of r q h ends l The_bus t = ended_of r q h (app_ended ends (record l { from = The_bus })) t
    from_of r q h ends l Registry t = ended_of r q h (app_ended ends (record l { from = Registry })) t
    from_of r q h ends l (Reader p) t = ended_of r q h (app_ended ends (record l { from = Reader p })) t

    of_reader : (r q : ℕ) (h : Hearer) (ends : List End) (l : Letter) → (r == q) ≡ false → AllByRecursion (NotOfReader q) (heard_entries r h ends l)
    of_reader r q h ends l t = from_of r q h ends l l.from t

-- by who sent it
takes_by : (es : List Entry) (r : ℕ) (h : Hearer) (ends : List End) (said : Said) (from : Party) → ReaderIs es r h → Comes es (record { from = from; said = said })
    → ReaderIs (es ++ got (Reader r) from said.message.serial ∷ heard_entries r h ends (record { from = from; said = said })) r (hears_letter h ends (record { from = from; said = said }))
takes_by es r h ends said (App app) i (inr is) = app_heard es r app h ends said i is
takes_by es r h ends said (App app) i (inl bus) = absurd (false_true (ap (λ p. same_party p The_bus) bus))
takes_by es r h ends said The_bus i c = other_heard es r h said.message.serial said.message The_bus (app_ended ends (record { from = The_bus; said = said })) i (λ early b k. refl)
takes_by es r h ends said Registry i c = other_heard es r h said.message.serial said.message Registry (app_ended ends (record { from = Registry; said = said })) i (λ early b k. refl)
takes_by es r h ends said (Reader q) i c = other_heard es r h said.message.serial said.message (Reader q) (app_ended ends (record { from = Reader q; said = said })) i (λ early b k. refl)

-- the message itself
letter_by : (es : List Entry) (said : Said) (from : Party) → Comes es (record { from = from; said = said }) → (app : ℕ) → from ≡ App app → IsLetter es (record { from = App app; said = said })
letter_by es said from (inr is) app h = subst (λ p. IsLetter es (record { from = p; said = said })) h is
letter_by es said from (inl bus) app h = absurd (false_true (ap (λ p. same_party p The_bus) (sym h ∙ bus)))

spoken_by : (es : List Entry) (r : ℕ) (h : Hearer) (ends : List End) (said : Said) (from : Party) → ReaderIs es r h → Comes es (record { from = from; said = said })
    → IsSpoken es (got (Reader r) from said.message.serial) (heard_entries r h ends (record { from = from; said = said }))
spoken_by es r h ends said (App app) i (inr is) =
    subst (IsSpoken es (got (Reader r) (App app) said.message.serial)) (append-nil (heard_entries r h ends (record { from = App app; said = said }))) (app_spoken es r app h ends said i is [])
spoken_by es r h ends said (App app) i (inl bus) = absurd (false_true (ap (λ p. same_party p The_bus) bus))
spoken_by es r h ends said The_bus i c = tt
spoken_by es r h ends said Registry i c = tt
spoken_by es r h ends said (Reader q) i c = tt

takes_hold : (es : List Entry) (w : World) (d : Done) → Shape w → Known es w → Holds es w → ReaderTakes w d → Holds (es ++ d.entries) d.world
takes_hold es w d s kn i b =
    let v : World = received w b.conn b.e b.letter in
    let g : Hearer = hears_letter b.hearer v.ends b.letter in
    let f : End → End = λ x. record x { role = a_reader g } in
    let number : number_of b.e.who ≡ b.reader = ap number_of b.whose in
    let ys : List Entry = got (Reader b.reader) b.letter.from b.letter.said.message.serial ∷ heard_entries b.reader b.hearer v.ends b.letter in
    let wrote : d.entries ≡ ys =
    ap (λ x. x.entries) b.is
    ∙ ap₂ (λ p n. got p b.letter.from b.letter.said.message.serial ∷ heard_entries n b.hearer v.ends b.letter) b.whose number in
    let comes : Comes es b.letter = (subst (AllByRecursion (Comes es)) b.link (kn b.conn b.e b.is_here.there).1).0 in
    let old : ReaderIs es b.reader b.hearer = i.1 b.conn b.reader b.e b.hearer b.is_here.there b.whose b.role in
    subst (λ l. Holds (es ++ l) d.world) (sym wrote)
    (reader_acts es ys w d.world b.conn b.reader (taken_down b.e) g v.ends f s i (received_same w b.conn b.e b.letter) (received_at w b.conn b.e b.letter b.is_here.there) b.whose
    (ap (λ x. x.world.ends) b.is) refl refl (fresh_over w d.world (reader_over w d b)) (
      (tt, spoken_by es b.reader b.hearer v.ends b.letter.said b.letter.from old comes, tt),
      words_by es b.reader b.hearer v.ends b.letter.said b.letter.from old (letter_by es b.letter.said b.letter.from comes),
    )
    (takes_by es b.reader b.hearer v.ends b.letter.said b.letter.from old comes)
    (λ q differ. heard_others b.reader q b.letter.from b.letter.said.message.serial b.hearer v.ends b.letter differ))

-- A READER SHOWS WHAT IT HOLDS
rows_same : (es : List Entry) (app : ℕ) (k : Option Kept) (h : Option Holding) → SameKept es app k h → rows_held h ≡ rows_due es app k
rows_same es app None None s = refl
rows_same es app (Some k) (Some h) s =
    ap₂ (λ t f. Some (shown_rows (view (told_in t) f))) (sym s.told) (sym (ap (as_of es app) s.last ∙ s.tree))
rows_same es app None (Some h) s = absurd s
rows_same es app (Some k) None s = absurd s

shows_hold : (es : List Entry) (w : World) (d : Done) → Holds es w → Showing w d → Holds (es ++ d.entries) d.world
shows_hold es w d i b =
    let number : number_of (party_at w.ends b.conn) ≡ b.reader = ap (λ o. number_of (whose o)) b.there ∙ ap number_of b.whose in
    let wrote : d.entries ≡ showed b.reader b.app (rows_held (holding_of b.app b.hearer.holds)) ∷ [] =
    ap (λ x. x.entries) b.is ∙ ap (λ n. showed n b.app (rows_held (holding_of b.app b.hearer.holds)) ∷ []) number in
    let old : ReaderIs es b.reader b.hearer = i.1 b.conn b.reader b.e b.hearer b.there b.whose b.role in
    let same : d.world.ends ≡ w.ends = ap (λ x. x.world.ends) b.is in
    subst (λ l. Holds (es ++ l) d.world) (sym wrote) (
      law_more es (showed b.reader b.app (rows_held (holding_of b.app b.hearer.holds)) ∷ []) i.0
          ((rows_same es b.app (held es b.reader b.app) (holding_of b.app b.hearer.holds) (old.holds b.app), tt, tt), tt),
      λ k r e h there who role.
          others_act es (showed b.reader b.app (rows_held (holding_of b.app b.hearer.holds)) ∷ []) r h (tt, tt) (i.1 k r e h (sym (ap (λ l. end_at l k) same) ∙ there) who role),
      λ r f app. held_more es (showed b.reader b.app (rows_held (holding_of b.app b.hearer.holds)) ∷ []) r app ∙ i.2 r (same_fresh w d.world same (Reader r) f) app,
    )

-- AN END JOINS
joins_hold : (es : List Entry) (w : World) (d : Done) (name : List ℕ) → Shape w → Holds es w → d ≡ app_starts w name → Holds (es ++ d.entries) d.world
joins_hold es w d name sh i is =
    subst (λ x. Holds (es ++ x.entries) x.world) (sym is) (
      law_more es ys i.0 (each_of NoReader Reads es ys none_reads n),
      λ k r e h there who role. by k r e h who role (joined_cases w.ends (new_app w name) k e (ap (λ l. end_at l k) (sym (app_joined w name)) ∙ there)),
      λ r f app. held_more es ys r app ∙ others_kept es r app (held es r app) ys (of r) ∙ i.2 r ((app_speaks w (app_starts w name) sh name refl).grown (Reader r) f) app,
    )
  where
    ys : List Entry
    ys = (app_starts w name).entries

    n : AllByRecursion NoReader ys
    n = (tt, (tt, tt))

    of : (r : ℕ) → AllByRecursion (NotOfReader r) ys
    of r = all_map NoReader (NotOfReader r) ys (none_of r) n

    by : (k r : ℕ) (e : End) (h : Hearer) → e.who ≡ Reader r → e.role ≡ a_reader h → ((end_at w.ends k ≡ Some e) ⊎ ((k ≡ length w.ends) × (e ≡ new_app w name))) → ReaderIs (es ++ ys) r h
    by k r e h who role (inl g) = others_act es ys r h (of r) (i.1 k r e h g who role)
    by k r e h who role (inr g) = absurd (no_reader (new_app w name).role h refl (ap (λ (x : End). x.role) (sym g.1) ∙ role))

hello_asked : question_in (asking 1 Hello) ≡ Some Hello
hello_asked = refl

reader_joins_hold : (es : List Entry) (w : World) (d : Done) → Shape w → Numbered es w → Holds es w → d ≡ reader_starts w → Holds (es ++ d.entries) d.world
reader_joins_hold es w d sh m i is =
    subst (λ x. Holds (es ++ x.entries) x.world) (sym is) (
      law_more es ys i.0 ((tt, tt, tt), ((tt, tt, tt), tt)),
      λ k r e h there who role. by k r e h who role (joined_cases w.ends (new_reader w) k e there),
      λ r f app.
          others r (λ same. (reader_speaks w (reader_starts w) sh refl).not_fresh (subst (λ c. IsFresh (reader_starts w).world (Reader c)) (sym same) f)) app
          ∙ i.2 r ((reader_speaks w (reader_starts w) sh refl).grown (Reader r) f) app,
    )
  where
    n : ℕ
    n = reader_count w.ends

    first : Entry
    first = started (Reader n) None

    ys : List Entry
    ys = (reader_starts w).entries

    others : (r : ℕ) → (n ≡ r → ⊥) → (app : ℕ) → held (es ++ ys) r app ≡ held es r app
    others r differ app = held_more es ys r app ∙ others_kept es r app (held es r app) ys (tt, (ne_eqb n r differ, tt))

    fresh : IsFresh w (Reader n)
    fresh = least n
      where
        least : (k : ℕ) → k ≤ k
        least k = omega arith

    none : NotSent (es ++ first ∷ []) (Reader n) 1
    none s h = none_more es (first ∷ []) (Reader n) s (ap (with_serial s) (m.2 (Reader n) fresh))

    early_calls : (s : ℕ) → own_call (es ++ first ∷ []) n s ≡ call_at s []
    early_calls s = ap question_if (none_more es (first ∷ []) (Reader n) s (ap (with_serial s) (m.2 (Reader n) fresh)))

    mine : ReaderIs (es ++ ys) n (asks Hello first_hearer)
    mine = record {
      calls = λ s.
          ap (λ l. own_call l n s) (sym (append_assoc es (first ∷ []) (sent (Reader n) (asking 1 Hello) ∷ [])))
          ∙ own_calls (es ++ first ∷ []) n (asking 1 Hello) Hello (record { serial = 1; question = Hello; fate = waits }) [] hello_asked refl refl none early_calls s;
      holds = λ app. subst (λ k. SameKept (es ++ ys) app k None) (sym (held_more es ys n app ∙ i.2 n fresh app)) tt;
    }

    by : (k r : ℕ) (e : End) (h : Hearer) → e.who ≡ Reader r → e.role ≡ a_reader h → ((end_at w.ends k ≡ Some e) ⊎ ((k ≡ length w.ends) × (e ≡ new_reader w))) → ReaderIs (es ++ ys) r h
    by k r e h who role (inl g) =
        others_act es ys r h (tt, (ne_eqb n r (λ same. known_not_fresh w k e (Reader n) sh g (who ∙ ap Reader (sym same)) fresh), tt)) (i.1 k r e h g who role)
    by k r e h who role (inr g) =
        let number : n ≡ r = ap number_of (ap (λ (x : End). x.who) (sym g.1) ∙ who) in
        let state : asks Hello first_hearer ≡ h = same_hearer (asks Hello first_hearer) h (ap (λ (x : End). x.role) (sym g.1) ∙ role) in
        subst (λ c. ReaderIs (es ++ ys) c h) number (subst (ReaderIs (es ++ ys) n) state mine)

-- only the registry is there, as at the beginning
no_reader_first : (quota k r : ℕ) (x : End) → end_at (first_world quota).ends k ≡ Some x → x.who ≡ Reader r → ⊥
no_reader_first quota zero r x h who = false_true (ap is_reader (ap (λ (y : End). y.who) (same_some first_registry x h) ∙ who))
no_reader_first quota (suc k) r x h who = no_none x h

anew : (es : List Entry) (w : World) (d : Done) (quota : ℕ) → Shape w → Holds es w → nat_lt 1 (length w.ends) ≡ false → d ≡ only (first_world quota) [] → Holds (es ++ d.entries) d.world
anew es w d quota s i few is =
    subst (λ x. Holds (es ++ x.entries) x.world) (sym is) (subst (λ l. Holds l (first_world quota)) (sym (append-nil es)) (by s.alone))
  where
    by : ((2 ≤ length w.ends) ⊎ (w ≡ first_world w.bus.quota)) → Holds es (first_world quota)
    by (inl two) = let less : length w.ends ≤ 1 = ltb-false 1 (length w.ends) few in absurd (omega (arith, two, less))
    by (inr h) = let j : Holds es (first_world w.bus.quota) = subst (Holds es) h i in (j.0, (λ k r e x at who role. absurd (no_reader_first quota k r e at who)), j.2)

caused_holds : (es : List Entry) (w : World) (d : Done) → Shape w → Numbered es w → Known es w → Holds es w → Effect w d → Holds (es ++ d.entries) d.world
caused_holds es w d s m kn i (resets quota few is) = anew es w d quota s i few is
caused_holds es w d s m kn i (app_joins name short is) = joins_hold es w d name s i is
caused_holds es w d s m kn i (reader_joins few is) = reader_joins_hold es w d s m i is
caused_holds es w d s m kn i (app_edited b) =
    app_acts es w d.world d.entries b.conn w.ends (has_done b.before b.after) i (over_same SameReader same_reader w.ends) (app_same b.before b.after) (ap (λ x. x.world.ends) b.is)
    (fresh_over w d.world (edits_over w d b)) (none_in d _ b.is (did_no_reader _ b.after.out))
caused_holds es w d s m kn i (app_took b) =
    app_acts es w d.world d.entries b.conn (received w b.conn b.e b.letter).ends (has_done b.before (app_takes b.before b.letter.said.message)) i (received_same w b.conn b.e b.letter)
    (app_same b.before (app_takes b.before b.letter.said.message)) (ap (λ x. x.world.ends) b.is) (fresh_over w d.world (app_takes_over w d b))
    (none_in d _ b.is (got_no_reader b.e.who b.letter.from b.letter.said.message.serial (ap is_reader b.whose), did_no_reader _ (app_takes b.before b.letter.said.message).out))
caused_holds es w d s m kn i (reader_called b) = calls_hold es w d s i b
caused_holds es w d s m kn i (swapped b) = no_reader_acts es d.entries w d.world i (same_ends w d (ap (λ x. x.world.ends) b.is)) (same_fresh w d.world (ap (λ x. x.world.ends) b.is)) (none_in d _ b.is tt)
caused_holds es w d s m kn i (exited_ b) =
    no_reader_acts es d.entries w d.world i
    (subst (λ x. Over SameReader w.ends x.world.ends) (sym b.is) (over_with SameReader same_reader stops (λ x. alike x (stops x) refl refl) b.conn w.ends)) (fresh_over w d.world (stopping_over w d b))
    (none_in d _ b.is (tt, tt))
caused_holds es w d s m kn i (showed_ b) = shows_hold es w d i b
caused_holds es w d s m kn i (told_busy turns is) = no_reader_acts es d.entries w d.world i (same_ends w d (ap (λ x. x.world.ends) is)) (same_fresh w d.world (ap (λ x. x.world.ends) is)) (none_in d _ is (tt, tt))
caused_holds es w d s m kn i (told_quiet none is) = no_reader_acts es d.entries w d.world i (same_ends w d (ap (λ x. x.world.ends) is)) (same_fresh w d.world (ap (λ x. x.world.ends) is)) (none_in d _ is (tt, tt))
caused_holds es w d s m kn i (bus_took b) =
    let c = carrying.takes (record { bus = w.bus; ends = w.ends }) b.conn b.e.who b.said in
    no_reader_acts es d.entries w d.world i
    (subst (λ x. Over SameReader w.ends x.world.ends) (sym b.is)
    (takes_over SameReader same_reader (λ m e. put_ (own_letter m) e) leave_ name_ (λ e. alike e (taken_up e) refl refl) (record { bus = w.bus; ends = w.ends }) b.conn b.e.who b.said
    (λ m e. put_ (letter_of b.e.who b.said m) e)))
    (fresh_over w d.world (bus_takes_over w d b)) (none_in d _ b.is (tt, no_read_bus c.ends c.bus.own c.bus.closings))
caused_holds es w d s m kn i (bus_ended b) =
    let c = carrying.takes_end (record { bus = w.bus; ends = w.ends }) b.conn in
    no_reader_acts es d.entries w d.world i
    (subst (λ x. Over SameReader w.ends x.world.ends) (sym b.is) (ends_over SameReader same_reader (λ m e. put_ (own_letter m) e) leave_ (record { bus = w.bus; ends = w.ends }) b.conn))
    (fresh_over w d.world (bus_ends_over w d b)) (none_in d _ b.is (no_read_bus c.ends c.bus.own c.bus.closings))
caused_holds es w d s m kn i (registry_took b) =
    app_acts es w d.world d.entries b.conn (received w b.conn b.e b.letter).ends (registry_did (registry_takes b.before b.letter.said.message)) i (received_same w b.conn b.e b.letter)
    (registry_same (registry_takes b.before b.letter.said.message)) (ap (λ x. x.world.ends) b.is) (fresh_over w d.world (registry_over w d b))
    (none_in d _ b.is (got_no_reader b.e.who b.letter.from b.letter.said.message.serial (ap is_reader b.whose), sent_no_reader b.e.who (registry_takes b.before b.letter.said.message).sent b.whose))
caused_holds es w d s m kn i (reader_took b) = takes_hold es w d s kn i b

abbrev pub Below_held : List Entry → World → Type 0
Below_held es w = And Under Taken es w

holds_grow : Grows Below_held Holds
holds_grow = record {
  begins = (tt, (λ k r e h at who role. absurd (no_reader_first QUOTA_MOST k r e at who)), λ r f app. refl);
  caused = λ es w d s a i e after b. caused_holds es w d s a.0.0.0.1 a.1.1 i e;
  moved = λ es w v s a i m. by es w v i m;
  asked = λ es w conn r m question s a i asks. asked_holds es w conn r m question s a.0.0.0.1 i asks;
}
  where
    by : (es : List Entry) (w v : World) → Holds es w → (MovedUp w v ⊎ MovedDown w v) → Holds es v
    by es w v i (inl m) =
        subst (λ l. Holds l v) (append-nil es) (no_reader_acts es [] w v i
        (subst (λ (x : World). Over SameReader w.ends x.ends) (sym m.after) (over_with SameReader same_reader (λ e. record e { up_moved = e.up_moved + m.count }) (λ e. alike e (record e { up_moved = e.up_moved + m.count }) refl refl) m.conn w.ends))
        (fresh_over w v (up_moved_over w v m)) tt)
    by es w v i (inr m) =
        subst (λ l. Holds l v) (append-nil es) (no_reader_acts es [] w v i
        (subst (λ (x : World). Over SameReader w.ends x.ends) (sym m.after) (over_with SameReader same_reader (λ e. record e { down_moved = e.down_moved + m.count }) (λ e. alike e (record e { down_moved = e.down_moved + m.count }) refl refl) m.conn w.ends))
        (fresh_over w v (down_moved_over w v m)) tt)

pub holds_keep : Keeps (Shaped (And Below_held Holds))
holds_keep = grown Below_held Holds taken_keeps holds_grow

-- THE LAWS
shown_front : (xs ys : List Entry) (early : List Entry) → Each Reads early (xs ++ ys) → Each ShowsTree early xs
shown_front [] ys early e = tt
shown_front (x ∷ xs) ys early e = (fewer x e.0.0, shown_front xs ys (early ++ x ∷ []) e.1)
  where
    fewer : (entry : Entry) → ShowsTree early entry (xs ++ ys) → ShowsTree early entry xs
    fewer (showed reader app rows) law = law
    fewer entry law = tt

pub shows_are_due : (lines : List Line) (trace : List Entry) → CanAllStand lines → Goes (begins lines) trace → LawOfShownRows trace
shows_are_due lines trace a g =
    let k = kept (Shaped (And Below_held Holds)) holds_keep lines trace a g in
    everywhere ShowsTree trace (shown_front trace _ [] k.state.1.1.0)

all_spoken : (early xs : List Entry) → Each Reads early xs → Each IsSpoken early xs
all_spoken early [] e = tt
all_spoken early (x ∷ xs) e = (e.0.1, all_spoken (early ++ x ∷ []) xs e.1)

pub lines_are_spoken : (lines : List Line) (trace : List Entry) → CanAllStand lines → Goes (begins lines) trace → (after_all (begins lines) trace).owing ≡ [] → LawOfSpokenLines trace
lines_are_spoken lines trace a g none =
    let k = kept (Shaped (And Below_held Holds)) holds_keep lines trace a g in
    let whole : Each Reads [] trace = subst (Each Reads []) (ap (λ l. trace ++ l) none ∙ append-nil trace) k.state.1.1.0 in
    everywhere IsSpoken trace (all_spoken [] trace whole)

word_front : (xs ys : List Entry) (early : List Entry) → Each Reads early (xs ++ ys) → Each IsDueWord early xs
word_front [] ys early e = tt
word_front (x ∷ xs) ys early e = (fewer x e.0.2, word_front xs ys (early ++ x ∷ []) e.1)
  where
    fewer : (entry : Entry) → IsDueWord early entry (xs ++ ys) → IsDueWord early entry xs
    fewer (spoke reader app text) law = law
    fewer (gone reader app) law = law
    fewer entry law = tt

pub no_other_words : (lines : List Line) (trace : List Entry) → CanAllStand lines → Goes (begins lines) trace → Everywhere IsDueWord trace
no_other_words lines trace a g =
    let k = kept (Shaped (And Below_held Holds)) holds_keep lines trace a g in
    everywhere IsDueWord trace (word_front trace _ [] k.state.1.1.0)
