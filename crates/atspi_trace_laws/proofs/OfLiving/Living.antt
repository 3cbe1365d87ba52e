-- Who acts is live, along a lawful trace.
use Rattle.std.proofs.Common.{◌≡◌, ◌⊎◌, inl, inr, ℕ, Bool, true, false, List, [], ◌∷◌, ◌++◌, length, map, None, Some, refl, sym, ap, ◌∙◌, subst}
use Rattle.std.specs.Prelude.{Option, ◌||◌, ◌&&◌, not}
use Rattle.std.specs.List.{AllByRecursion, list_any}
use Rattle.atspi_script_lines.specs.declared.line.Line.{Line}
use Rattle.atspi_script_lines.specs.declared.line.Party.{Party}
use Rattle.atspi_script_lines.specs.declared.line.Party.TheVariants.{Bus as The_bus, Registry, App, Reader}
use Rattle.atspi_message.specs.Envelope.{Envelope}
use Rattle.atspi_protocol.specs.registering.Steps.{registry_takes}
use Rattle.atspi_protocol.specs.exporting.Exporter.{begins as begins_app}
use Rattle.atspi_protocol.specs.exporting.Taking.{app_takes}
use Rattle.atspi_match.specs.declared.routing.closing.Closing.{Closing}
use Rattle.atspi_protocol.specs.following.Calls.{user_call}
use Rattle.atspi_trace.specs.Entry.{Entry, started, sent, got, exited, dropped}
use Rattle.atspi_trace.specs.World.{an_application, End, World, newcomer}
use Rattle.atspi_trace.specs.Ends.{same_party, number_of, whose, party_at, app_count, reader_count, put_up, taken_down}
use Rattle.atspi_trace.specs.Carrying as carrying
use Rattle.atspi_trace.specs.Carrying.{bus_entries}
use Rattle.atspi_trace.specs.Hearing.{heard_entries}
use Rattle.atspi_trace.specs.Causes.{Done, did}
use Rattle.atspi_trace.specs.Due.{begins, Goes}
use Rattle.atspi_trace_laws.specs.laws.Words.{starts_it, stops_it, is_live}
use Rattle.atspi_trace_laws.specs.laws.NineLaws.{Everywhere}
use Rattle.atspi_trace_laws.specs.order.Scripts.{CanAllStand}
use Rattle.atspi_trace_laws.proofs.OfOrder.Parties.{same-party, party-same, false_true}
use Rattle.atspi_trace_laws.proofs.OfOrder.BusWords.{all_any, bus_all}
use Rattle.atspi_trace_laws.proofs.OfOrder.Allowed.{IsHere}
use Rattle.atspi_trace_laws.proofs.OfOrder.Shape.{Shape, IsNew, not_new}
use Rattle.atspi_trace_laws.proofs.OfOrder.Effects.{received, Effect, resets, app_joins, reader_joins, app_edited, app_took, reader_called, swapped, exited_, showed_, told_busy, told_quiet, bus_took, bus_ended, registry_took, reader_took}
use Rattle.atspi_trace_laws.proofs.OfOrder.Shaped.{received_at}
use Rattle.atspi_trace_laws.proofs.OfOrder.Along.{Keeps, kept}
use Rattle.atspi_trace_laws.proofs.OfOrder.Growing.{Grows, Shaped, Nothing, And, grown}
use Rattle.atspi_trace_laws.proofs.OfOrder.Each.{Each, everywhere, each_more, each_of}
use Rattle.atspi_trace_laws.proofs.OfOrder.Gone.{IsGone}
use Rattle.atspi_trace_laws.proofs.OfOrder.Closed.{IsDropped}
use Rattle.atspi_trace_laws.proofs.OfOrder.Told.{Tells}
use Rattle.atspi_trace_laws.proofs.OfOrder.Acts.{Act, IsActive, did_act, sent_act, heard_act, last_at, number_at}
use Rattle.atspi_trace_laws.proofs.OfOrder.Exits.{Out, Exited}
use Rattle.atspi_trace_laws.proofs.OfOrder.Lives.{any_here, HasStarted, Started, starts_keep, here_lives}
use Rattle.atspi_trace_laws.proofs.OfSteps.Trees.{live_more}
use Rattle.atspi_trace_laws.specs.living.Laws.{ActsAlive}

-- the bus, or an end that is here
abbrev pub Alive : World → Party → Type 0
Alive w who = (who ≡ The_bus) ⊎ IsActive w who

-- such an entry stops nobody
no_stop : (P : Party → Type 0) (who : Party) (entry : Entry) → Act P entry → stops_it who entry ≡ false
no_stop P who (exited other) a = absurd a
no_stop P who (dropped other queued len) a = absurd a
no_stop P who entry a = refl

-- who is live stays so behind it
live_behind : (P : Party → Type 0) (early : List Entry) (entry : Entry) (who : Party) → Act P entry → is_live early who ≡ true → is_live (early ++ entry ∷ []) who ≡ true
live_behind P early entry who a h = live_more early (entry ∷ []) who h (ap (λ b. b || false) (no_stop P who entry a))

-- an entry of somebody who is live
acts_alive : (P : Party → Type 0) (early : List Entry) (entry : Entry) (behind : List Entry) → Act P entry → ((p : Party) → P p → (p ≡ The_bus) ⊎ (is_live early p ≡ true)) → ActsAlive early entry behind
acts_alive P early (sent The_bus e) behind a f = tt
acts_alive P early (sent Registry e) behind a f = by (f Registry a)
  where
    by : ((Registry ≡ The_bus) ⊎ (is_live early Registry ≡ true)) → is_live early Registry ≡ true
    by (inl h) = absurd (false_true (ap (λ p. same_party p The_bus) h))
    by (inr h) = h
acts_alive P early (sent (App b) e) behind a f = by (f (App b) a)
  where
    by : ((App b ≡ The_bus) ⊎ (is_live early (App b) ≡ true)) → is_live early (App b) ≡ true
    by (inl h) = absurd (false_true (ap (λ p. same_party p The_bus) h))
    by (inr h) = h
acts_alive P early (sent (Reader b) e) behind a f = by (f (Reader b) a)
  where
    by : ((Reader b ≡ The_bus) ⊎ (is_live early (Reader b) ≡ true)) → is_live early (Reader b) ≡ true
    by (inl h) = absurd (false_true (ap (λ p. same_party p The_bus) h))
    by (inr h) = h
acts_alive P early (got The_bus from serial) behind a f = tt
acts_alive P early (got Registry from serial) behind a f = by (f Registry a)
  where
    by : ((Registry ≡ The_bus) ⊎ (is_live early Registry ≡ true)) → is_live early Registry ≡ true
    by (inl h) = absurd (false_true (ap (λ p. same_party p The_bus) h))
    by (inr h) = h
acts_alive P early (got (App b) from serial) behind a f = by (f (App b) a)
  where
    by : ((App b ≡ The_bus) ⊎ (is_live early (App b) ≡ true)) → is_live early (App b) ≡ true
    by (inl h) = absurd (false_true (ap (λ p. same_party p The_bus) h))
    by (inr h) = h
acts_alive P early (got (Reader b) from serial) behind a f = by (f (Reader b) a)
  where
    by : ((Reader b ≡ The_bus) ⊎ (is_live early (Reader b) ≡ true)) → is_live early (Reader b) ≡ true
    by (inl h) = absurd (false_true (ap (λ p. same_party p The_bus) h))
    by (inr h) = h
acts_alive P early entry behind a f = tt

-- a list of them
all_alive : (P : Party → Type 0) (early ys : List Entry) → AllByRecursion (Act P) ys → ((p : Party) → P p → (p ≡ The_bus) ⊎ (is_live early p ≡ true)) → Each ActsAlive early ys
all_alive P early [] a f = tt
all_alive P early (y ∷ ys) a f = (acts_alive P early y ys a.0 f, all_alive P (early ++ y ∷ []) ys a.1 (λ p h. by p (f p h)))
  where
    by : (p : Party) → (p ≡ The_bus) ⊎ (is_live early p ≡ true) → (p ≡ The_bus) ⊎ (is_live (early ++ y ∷ []) p ≡ true)
    by p (inl h) = inl h
    by p (inr h) = inr (live_behind P early y p a.0 h)

-- what the bus writes owes nothing
abbrev BusWord : Entry → Type 0
BusWord (sent who e) = who ≡ The_bus
BusWord (dropped who queued len) = Unit {0}
BusWord entry = ⊥

word_alive : (before : List Entry) (entry : Entry) (behind : List Entry) → BusWord entry → ActsAlive before entry behind
word_alive before (sent The_bus e) behind h = tt
word_alive before (sent Registry e) behind h = absurd (false_true (ap (λ p. same_party p The_bus) h))
word_alive before (sent (App a) e) behind h = absurd (false_true (ap (λ p. same_party p The_bus) h))
word_alive before (sent (Reader r) e) behind h = absurd (false_true (ap (λ p. same_party p The_bus) h))
word_alive before (dropped who queued len) behind h = tt
word_alive before entry behind h = absurd h

bus_words : (ends : List End) (own : List Envelope) (closings : List Closing) → AllByRecursion BusWord (bus_entries ends own closings)
bus_words ends own closings =
    bus_all BusWord (λ e. refl) ends own closings (all_any (λ (x : Closing). (queued len : ℕ) → BusWord (dropped (party_at ends x.conn) queued len)) (λ x queued len. tt) closings)

-- who joins was never stopped
no_or : (a b : Bool) → a ≡ false → b ≡ false → (a || b) ≡ false
no_or true b h g = h
no_or false b h g = g

not_party : (a b : Party) → (a ≡ b → ⊥) → same_party a b ≡ false
not_party a b differ = by (same_party a b) refl
  where
    by : (t : Bool) → same_party a b ≡ t → t ≡ false
    by true h = absurd (differ (same-party a b h))
    by false h = refl

never_stopped : (w : World) (p : Party) → Shape w → IsNew w p → (p ≡ The_bus → ⊥) → (es : List Entry) → AllByRecursion (Out w) es → list_any (stops_it p) es ≡ false
never_stopped w p s new differ [] o = refl
never_stopped w p s new differ (x ∷ es) o = no_or (stops_it p x) (list_any (stops_it p) es) (by x o.0) (never_stopped w p s new differ es o.1)
  where
    gone : (other : Party) → IsGone w other → other ≡ p → ⊥
    gone other g h = not_new w s g.conn g.e p g.there new (g.whose ∙ h)

    dropped_ : (other : Party) → IsDropped w other → other ≡ p → ⊥
    dropped_ other (inl bus) h = differ (sym h ∙ bus)
    dropped_ other (inr g) h = gone other g h

    by : (entry : Entry) → Out w entry → stops_it p entry ≡ false
    by (exited other) g = not_party other p (gone other g)
    by (dropped other queued len) g = not_party other p (dropped_ other g)
    by entry g = refl

or_true : (a b : Bool) → b ≡ true → (a || b) ≡ true
or_true true b h = refl
or_true false b h = h

any_last : (p : Entry → Bool) (xs : List Entry) (y : Entry) → list_any p xs ≡ false → p y ≡ false → list_any p (xs ++ y ∷ []) ≡ false
any_last p [] y h g = no_or (p y) false g refl
any_last p (x ∷ xs) y h g = by (p x) (λ k. any_last p xs y k g) h
  where
    by : (b : Bool) → (list_any p xs ≡ false → list_any p (xs ++ y ∷ []) ≡ false) → (b || list_any p xs) ≡ false → (b || list_any p (xs ++ y ∷ [])) ≡ false
    by true f k = k
    by false f k = f k

new_alive : (es : List Entry) (w : World) (p : Party) (name : Option (List ℕ)) → Shape w → IsNew w p → (p ≡ The_bus → ⊥) → AllByRecursion (Out w) es → is_live (es ++ started p name ∷ []) p ≡ true
new_alive es w p name s new differ o =
    let begun : HasStarted (es ++ started p name ∷ []) p =
    or_true (same_party p Registry) (list_any (starts_it p) (es ++ started p name ∷ [])) (any_here (starts_it p) es (started p name) [] (party-same p)) in
    let stops : list_any (stops_it p) (es ++ started p name ∷ []) ≡ false = any_last (stops_it p) es (started p name) (never_stopped w p s new differ es o) refl in
    ap (λ b. b && not (list_any (stops_it p) (es ++ started p name ∷ []))) begun ∙ ap not stops

abbrev pub Below : List Entry → World → Type 0
Below es w = And (And (And Nothing Tells) Exited) Started es w

abbrev pub Living : List Entry → World → Type 0
Living es w = Each ActsAlive [] es

weaker : (ys before : List Entry) (entry : Entry) (behind : List Entry) → ActsAlive before entry behind → ActsAlive before entry (behind ++ ys)
weaker ys before (sent The_bus e) behind h = tt
weaker ys before (sent Registry e) behind h = h
weaker ys before (sent (App a) e) behind h = h
weaker ys before (sent (Reader r) e) behind h = h
weaker ys before (got The_bus from serial) behind h = tt
weaker ys before (got Registry from serial) behind h = h
weaker ys before (got (App a) from serial) behind h = h
weaker ys before (got (Reader r) from serial) behind h = h
weaker ys before entry behind h = tt

all_weaker : (ys early xs : List Entry) → Each ActsAlive early xs → Each (λ before entry behind. ActsAlive before entry (behind ++ ys)) early xs
all_weaker ys early [] e = tt
all_weaker ys early (x ∷ xs) e = (weaker ys early x xs e.0, all_weaker ys (early ++ x ∷ []) xs e.1)

law_more : (es ys : List Entry) → Each ActsAlive [] es → Each ActsAlive es ys → Each ActsAlive [] (es ++ ys)
law_more es ys a b = each_more ActsAlive [] es ys (all_weaker ys [] es a) b

alive_now : (es : List Entry) (w : World) → Shape w → Below es w → (p : Party) → Alive w p → (p ≡ The_bus) ⊎ (is_live es p ≡ true)
alive_now es w s a p (inl h) = inl h
alive_now es w s a p (inr h) = inr (here_lives es w p s a.0.1.1 a.1 h)

active : (w : World) (conn : ℕ) (e : End) (who : Party) → IsHere w.ends conn e → e.who ≡ who → Alive w who
active w conn e who h is = inr (record { conn = conn; e = e; there = h.there; whose = is; standing = h.standing })

-- what each cause writes
wrote_alive : (es : List Entry) (w : World) (d : Done) → Shape w → Below es w → Effect w d → Each ActsAlive es d.entries
wrote_alive es w d s a (resets quota few is) = subst (λ x. Each ActsAlive es x.entries) (sym is) tt
wrote_alive es w d s a (app_joins name short is) =
    let n0 : End = put_up [] (newcomer (App (app_count w.ends)) (an_application (begins_app name))) in
    let number : number_of (party_at (w.ends ++ n0 ∷ []) (length w.ends)) ≡ app_count w.ends = ap (λ o. number_of (whose o)) (last_at w.ends n0) in
    let p : Party = App (app_count w.ends) in
    let live : is_live (es ++ started p (Some name) ∷ []) p ≡ true = new_alive es w p (Some name) s refl (λ h. false_true (ap (λ q. same_party q The_bus) h)) a.0.1.1 in
    subst (λ x. Each ActsAlive es x.entries) (sym is) (tt, (subst (λ n. is_live (es ++ started p (Some name) ∷ []) (App n) ≡ true) (sym number) live, tt))
wrote_alive es w d s a (reader_joins few is) =
    let p : Party = Reader (reader_count w.ends) in
    subst (λ x. Each ActsAlive es x.entries) (sym is) (tt, (new_alive es w p None s refl (λ h. false_true (ap (λ q. same_party q The_bus) h)) a.0.1.1, tt))
wrote_alive es w d s a (app_edited b) =
    subst (λ x. Each ActsAlive es x.entries) (sym b.is)
    (subst (λ n. Each ActsAlive es (map (did n) b.after.out)) (sym (number_at w.ends b.conn b.app b.e b.is_here.there b.whose))
    (all_alive (Alive w) es (map (did b.app) b.after.out) (did_act (Alive w) b.app b.after.out (active w b.conn b.e (App b.app) b.is_here b.whose)) (alive_now es w s a)))
wrote_alive es w d s a (app_took b) =
    let first : Entry = got b.e.who b.letter.from b.letter.said.message.serial in
    let out = (app_takes b.before b.letter.said.message).out in
    subst (λ x. Each ActsAlive es x.entries) (sym b.is)
    (subst (λ n. Each ActsAlive es (first ∷ map (did n) out)) (sym (number_at (received w b.conn b.e b.letter).ends b.conn b.app (taken_down b.e) (received_at w b.conn b.e b.letter b.is_here.there) b.whose))
    (all_alive (Alive w) es (first ∷ map (did b.app) out) (active w b.conn b.e b.e.who b.is_here refl, did_act (Alive w) b.app out (active w b.conn b.e (App b.app) b.is_here b.whose)) (alive_now es w s a)))
wrote_alive es w d s a (reader_called b) =
    subst (λ x. Each ActsAlive es x.entries) (sym b.is)
    (all_alive (Alive w) es (sent (party_at w.ends b.conn) (user_call b.hearer.next b.name b.node b.deed) ∷ []) (active w b.conn b.e (party_at w.ends b.conn) b.is_here (sym (ap whose b.is_here.there)), tt) (alive_now es w s a))
wrote_alive es w d s a (swapped b) = subst (λ x. Each ActsAlive es x.entries) (sym b.is) tt
wrote_alive es w d s a (exited_ b) = subst (λ x. Each ActsAlive es x.entries) (sym b.is) (tt, tt)
wrote_alive es w d s a (showed_ b) = subst (λ x. Each ActsAlive es x.entries) (sym b.is) (tt, tt)
wrote_alive es w d s a (told_busy turns is) = subst (λ x. Each ActsAlive es x.entries) (sym is) (tt, tt)
wrote_alive es w d s a (told_quiet none is) = subst (λ x. Each ActsAlive es x.entries) (sym is) (tt, tt)
wrote_alive es w d s a (bus_took b) =
    let c = carrying.takes (record { bus = w.bus; ends = w.ends }) b.conn b.e.who b.said in
    let first : Entry = got The_bus b.e.who b.said.message.serial in
    subst (λ x. Each ActsAlive es x.entries) (sym b.is)
    (tt, each_of BusWord ActsAlive (es ++ first ∷ []) (bus_entries c.ends c.bus.own c.bus.closings) word_alive (bus_words c.ends c.bus.own c.bus.closings))
wrote_alive es w d s a (bus_ended b) =
    let c = carrying.takes_end (record { bus = w.bus; ends = w.ends }) b.conn in
    subst (λ x. Each ActsAlive es x.entries) (sym b.is) (each_of BusWord ActsAlive es (bus_entries c.ends c.bus.own c.bus.closings) word_alive (bus_words c.ends c.bus.own c.bus.closings))
wrote_alive es w d s a (registry_took b) =
    let first : Entry = got b.e.who b.letter.from b.letter.said.message.serial in
    let out = (registry_takes b.before b.letter.said.message).sent in
    let p : Alive w b.e.who = active w b.conn b.e b.e.who b.is_here refl in
    subst (λ x. Each ActsAlive es x.entries) (sym b.is) (all_alive (Alive w) es (first ∷ map (sent b.e.who) out) (p, sent_act (Alive w) b.e.who out p) (alive_now es w s a))
wrote_alive es w d s a (reader_took b) =
    let first : Entry = got b.e.who b.letter.from b.letter.said.message.serial in
    let v : World = received w b.conn b.e b.letter in
    subst (λ x. Each ActsAlive es x.entries) (sym b.is)
    (all_alive (Alive w) es (first ∷ heard_entries (number_of b.e.who) b.hearer v.ends b.letter)
    (active w b.conn b.e b.e.who b.is_here refl, heard_act (Alive w) (number_of b.e.who) b.hearer v.ends b.letter b.letter.from refl) (alive_now es w s a))

living_grows : Grows Below Living
living_grows = record {
  begins = tt;
  caused = λ es w d s a i e after b. law_more es d.entries i (wrote_alive es w d s a e);
  moved = λ es w v s a i m. i;
  asked = λ es w conn r m question s a i asks.
      law_more es (sent (Reader r) m ∷ []) i
      (all_alive (Alive w) es (sent (Reader r) m ∷ []) (active w conn asks.asker (Reader r) asks.is_here asks.whose, tt) (alive_now es w s a));
}

living_keep : Keeps (Shaped (And Below Living))
living_keep = grown Below Living starts_keep living_grows

each_front : (xs ys : List Entry) (early : List Entry) → Each ActsAlive early (xs ++ ys) → Each ActsAlive early xs
each_front [] ys early e = tt
each_front (x ∷ xs) ys early e = (fewer x e.0, each_front xs ys (early ++ x ∷ []) e.1)
  where
    fewer : (entry : Entry) → ActsAlive early entry (xs ++ ys) → ActsAlive early entry xs
    fewer (sent The_bus m) law = tt
    fewer (sent Registry m) law = law
    fewer (sent (App a) m) law = law
    fewer (sent (Reader r) m) law = law
    fewer (got The_bus from serial) law = tt
    fewer (got Registry from serial) law = law
    fewer (got (App a) from serial) law = law
    fewer (got (Reader r) from serial) law = law
    fewer entry law = tt

pub who_acts_is_live : (lines : List Line) (trace : List Entry) → CanAllStand lines → Goes (begins lines) trace → Everywhere ActsAlive trace
who_acts_is_live lines trace a g =
    let k = kept (Shaped (And Below Living)) living_keep lines trace a g in
    everywhere ActsAlive trace (each_front trace _ [] k.state.1.1)
