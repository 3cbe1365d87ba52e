-- A CALL IS REPLIED TO ONCE: each call of a reader's has one reply at most, along a lawful trace. So where a reader takes a reply to a call of its own, that waits.
use Rattle.std.proofs.Common.{◌≡◌, ◌⊎◌, inl, inr, ℕ, zero, suc, ◌+◌, ◌<◌, ◌≤◌, Bool, true, false, List, [], ◌∷◌, ◌++◌, length, None, Some, refl, sym, ap, ap₂, ◌∙◌, subst, arith}
use Rattle.std.specs.Prelude.{◌==◌, ◌&&◌, nat_lt}
use Rattle.std.specs.List.{AllByRecursion}
use Rattle.std.proofs.lemmas.Bool.{eqb-true, eq-eqb}
use Rattle.atspi_script_lines.specs.declared.limits.TheConstants.{QUOTA_MOST}
use Rattle.atspi_script_lines.specs.declared.line.Line.{Line}
use Rattle.atspi_script_lines.specs.declared.line.Party.TheVariants.{App}
use Rattle.atspi_match.specs.routing.BusState.{OpenCall}
use Rattle.atspi_match.specs.routing.Routing.{is_reply, expects_reply}
use Rattle.atspi_protocol.specs.declared.following.question.Question.TheVariants.{Hello}
use Rattle.atspi_protocol.specs.following.Calls.{asking}
use Rattle.atspi_protocol.specs.following.Replied.{is_reply_to}
use Rattle.atspi_protocol.specs.exporting.Exporter.{Exporter, begins}
use Rattle.atspi_protocol.specs.exporting.Starting.{starts}
use Rattle.atspi_trace.specs.Entry.{Entry}
use Rattle.atspi_trace.specs.World.{waits, Fate, returned, failed, Asked, an_application, Hearer, Letter, End, World, first_registry, first_world}
use Rattle.atspi_trace.specs.Ends.{end_at}
use Rattle.atspi_trace.specs.Hearing.{is_answered}
use Rattle.atspi_trace.specs.Causes.{Done, asks, first_hearer, app_starts, reader_starts}
use Rattle.atspi_trace_laws.proofs.OfOrder.Parties.{no_none, same_some, false_true}
use Rattle.atspi_trace_laws.proofs.OfOrder.Allowed.{MovedUp, MovedDown}
use Rattle.atspi_trace_laws.proofs.OfOrder.Shape.{Shape}
use Rattle.atspi_trace_laws.proofs.OfOrder.Shaped.{new_app, new_reader, app_joined}
use Rattle.atspi_trace_laws.proofs.OfOrder.Effects.{Effect, resets, app_joins, reader_joins, app_edited, app_took, reader_called, swapped, exited_, showed_, told_busy, told_quiet, bus_took, bus_ended, registry_took, reader_took}
use Rattle.atspi_trace_laws.proofs.OfOrder.Along.{Keeps}
use Rattle.atspi_trace_laws.proofs.OfOrder.Growing.{Grows, Shaped, And, grown}
use Rattle.atspi_trace_laws.proofs.OfOrder.Each.{all_map}
use Rattle.atspi_trace_caches.proofs.OfSettled.RefusingOpen as opening
use Rattle.atspi_trace_caches.proofs.OfSettled.Settling_counted.{AllCounted, counted_keep}
use Rattle.atspi_trace_caches.proofs.OfSettled.Settling_serials.{same_hearer}
use Rattle.atspi_trace_caches.proofs.OfSettled.Settling_ground as under
use Rattle.atspi_trace_caches.proofs.OfSettled.Settling_ground.{Grounds, grounds}
use Rattle.atspi_trace_played.proofs.Facts.{Ground}
use Rattle.atspi_trace_played.proofs.ReplyingStep.{Gets}
use Rattle.atspi_trace_played.proofs.ReplyingWords.{serials_differ}
use Rattle.atspi_trace_played.proofs.ReplyingTally.{one_if, tally, replies_to, calls_as, calls_from, replies_for, one_most, opens, answered, in_letter, in_said}
use Rattle.atspi_trace_played.proofs.ReplyingActing.{limit, Once, one_acts, acts_once, joins_once}
use Rattle.atspi_trace_played.proofs.ReplyingSpeech.{none_said}
use Rattle.atspi_trace_played.proofs.ReplyingHolds.{Holds}
use Rattle.atspi_trace_played.proofs.ReplyingBusActs.{took_once, ended_once}
use Rattle.atspi_trace_played.proofs.ReplyingEach.{next_one, no_reply_for, is_reader_role, no_reader, calls_once, asked_once, edits_once, app_once, registry_once, stops_once, reader_once}

-- AMONG THEM
abbrev In : Asked → List Asked → Type 0
In a [] = ⊥
In a (x ∷ xs) = (x ≡ a) ⊎ In a xs

-- WHO JOINS
app_joins_once : (w : World) (d : Done) (name : List ℕ) → d ≡ app_starts w name → Once w → Once d.world
app_joins_once w d name is i =
    joins_once w d.world (new_app w name) (ap (λ x. x.world.ends) is ∙ app_joined w name) (ap (λ x. x.world.bus.state.calls) is) refl
    (λ u n. none_said u n (begins name) (begins name).tree None (starts (begins name)).out (refl, tt)) (λ r h who role. absurd (no_reader (new_app w name).role h refl role)) i

none_open : (k n : ℕ) (calls : List OpenCall) → AllByRecursion (λ (c : OpenCall). c.caller < k) calls → tally (opens k n) calls ≡ 0
none_open k n [] a = refl
none_open k n (c ∷ cs) a = plus (one_if (opens k n c)) (tally (opens k n) cs) (ap (λ b. one_if (b && (c.serial == n))) (by (c.caller == k) refl)) (none_open k n cs a.1)
  where
    plus : (a b : ℕ) → a ≡ 0 → b ≡ 0 → a + b ≡ 0
    plus a b h g = omega (arith, h, g)

    by : (b : Bool) → (c.caller == k) ≡ b → (c.caller == k) ≡ false
    by true h = let same : c.caller ≡ k = eqb-true c.caller k h in let less : c.caller < k = a.0 in absurd (omega (arith, same, less))
    by false h = h

reader_joins_once : (es : List Entry) (w : World) (d : Done) → Grounds es w → d ≡ reader_starts w → Once w → Once d.world
reader_joins_once es w d g is i =
    joins_once w d.world (new_reader w) (ap (λ x. x.world.ends) is) (ap (λ x. x.world.bus.state.calls) is) refl
    (λ u n. ap (λ z. z + 0) (ap one_if (no_reply_for u n (asking 1 Hello) refl)))
    (λ r h who role n. (
      refl,
      subst (λ (y : Hearer). 0 + (tally (opens (length w.ends) n) d.world.bus.state.calls + ((one_if (calls_as n (asking 1 Hello)) + 0) + tally (answered n) y.asked)) ≤ limit n y) (same_hearer (asks Hello first_hearer) h role)
          (subst (λ c. 0 + (tally (opens (length w.ends) n) c + ((one_if (calls_as n (asking 1 Hello)) + 0) + tally (answered n) (asks Hello first_hearer).asked)) ≤ limit n (asks Hello first_hearer))
          (sym (ap (λ x. x.world.bus.state.calls) is))
          (sums (tally (opens (length w.ends) n) w.bus.state.calls) (one_if (calls_as n (asking 1 Hello))) (one_if ((1 == n) && false)) (one_if (nat_lt n 1)) (one_if (nat_lt n 2)) (none_open (length w.ends) n w.bus.state.calls below)
          (none (1 == n)) (next_one n 1 1 (expects_reply (asking 1 Hello)) refl))),
    )) i
  where
    below : AllByRecursion (λ (c : OpenCall). c.caller < length w.ends) w.bus.state.calls
    below = all_map (opening.IsOpen es w.ends) (λ (c : OpenCall). c.caller < length w.ends) w.bus.state.calls (λ c o. o.below) g.refusing.opened.calls

    none : (b : Bool) → one_if (b && false) ≡ 0
    none true = refl
    none false = refl

    sums : (a o t l l2 : ℕ) → a ≡ 0 → t ≡ 0 → o + l ≤ l2 → 0 + (a + ((o + 0) + (t + 0))) ≤ l2
    sums a o t l l2 h1 h2 h3 = omega (arith, h1, h2, h3)

-- AT THE BEGINNING nobody reads
first_once : (quota : ℕ) → Once (first_world quota)
first_once quota k r e h there who role on n = absurd (by k there)
  where
    by : (k : ℕ) → end_at (first_registry ∷ []) k ≡ Some e → ⊥
    by zero at = false_true (ap is_reader_role (ap (λ (x : End). x.role) (same_some first_registry e at) ∙ role))
    by (suc k) at = no_none e at

same_once : (w v : World) → v.ends ≡ w.ends → v.bus.state.calls ≡ w.bus.state.calls → Once w → Once v
same_once w v ends calls i k r e h there who role on n =
    subst (λ l. Holds l v.bus.state.calls k n e.unique (tally (answered n) h.asked) (limit n h) e) (sym ends)
    (subst (λ c. Holds w.ends c k n e.unique (tally (answered n) h.asked) (limit n h) e) (sym calls) (i k r e h (ap (λ l. end_at l k) (sym ends) ∙ there) who role on n))

moved_once : (w v : World) → (MovedUp w v ⊎ MovedDown w v) → Once w → Once v
moved_once w v (inl m) i =
    let f : End → End = λ e. record e { up_moved = e.up_moved + m.count } in
    acts_once w v m.conn m.e (f m.e) (one_acts w v m.conn m.e f m.is_here.there (ap (λ (x : World). x.ends) m.after) (ap (λ (x : World). x.bus.state.calls) m.after))
    (record {
      on = λ q. q;
      unique = refl;
      less = λ u n. least (tally (in_letter (calls_from u n)) m.e.down + tally (in_said (replies_for u n)) m.e.up);
      reader =
          λ r h who is on. (
            h,
            who,
            is,
            λ n old. subst (λ c. tally (in_letter (replies_to n)) m.e.down + (tally (opens m.conn n) c + (tally (in_said (calls_as n)) m.e.up + tally (answered n) h.asked)) ≤ limit n h)
                (sym (ap (λ (x : World). x.bus.state.calls) m.after)) old,
          );
    }) i
  where
    least : (a : ℕ) → a ≤ a
    least a = omega arith
moved_once w v (inr m) i =
    let f : End → End = λ e. record e { down_moved = e.down_moved + m.count } in
    acts_once w v m.conn m.e (f m.e) (one_acts w v m.conn m.e f m.is_here.there (ap (λ (x : World). x.ends) m.after) (ap (λ (x : World). x.bus.state.calls) m.after))
    (record {
      on = λ q. q;
      unique = refl;
      less = λ u n. least (tally (in_letter (calls_from u n)) m.e.down + tally (in_said (replies_for u n)) m.e.up);
      reader =
          λ r h who is on. (
            h,
            who,
            is,
            λ n old. subst (λ c. tally (in_letter (replies_to n)) m.e.down + (tally (opens m.conn n) c + (tally (in_said (calls_as n)) m.e.up + tally (answered n) h.asked)) ≤ limit n h)
                (sym (ap (λ (x : World). x.bus.state.calls) m.after)) old,
          );
    }) i
  where
    least : (a : ℕ) → a ≤ a
    least a = omega arith

-- EACH CAUSE
caused : (es : List Entry) (w : World) (d : Done) → Shape w → Grounds es w → AllCounted es w → Grounds (es ++ d.entries) d.world → Once w → Effect w d → Once d.world
caused es w d s g c g2 i e = by e
  where
    empty : (k a : ℕ) (e : End) (s : Exporter) → end_at w.ends k ≡ Some e → e.who ≡ App a → e.role ≡ an_application s → s.out ≡ []
    empty k a e s there who role = (g.trees k a e s there who role).empty

    by : Effect w d → Once d.world
    by (resets quota few is) = subst (λ x. Once x.world) (sym is) (first_once quota)
    by (app_joins name short is) = app_joins_once w d name is i
    by (reader_joins few is) = reader_joins_once es w d g is i
    by (app_edited b) = edits_once w d empty i b
    by (app_took b) = app_once w d empty i b
    by (reader_called b) = calls_once w d i b
    by (swapped b) = same_once w d.world (ap (λ x. x.world.ends) b.is) (ap (λ x. x.world.bus.state.calls) b.is) i
    by (exited_ b) = stops_once w d empty i b
    by (showed_ b) = same_once w d.world (ap (λ x. x.world.ends) b.is) (ap (λ x. x.world.bus.state.calls) b.is) i
    by (told_busy turns is) = same_once w d.world (ap (λ x. x.world.ends) is) (ap (λ x. x.world.bus.state.calls) is) i
    by (told_quiet none is) = same_once w d.world (ap (λ x. x.world.ends) is) (ap (λ x. x.world.bus.state.calls) is) i
    by (bus_took b) = took_once es w d s g g2 i b
    by (bus_ended b) = ended_once es w d s g g2 i b
    by (registry_took b) = registry_once w d empty i b
    by (reader_took b) = reader_once w d empty i b (serials_differ 0 b.hearer.asked (c b.conn b.reader b.e b.hearer b.is_here.there b.whose b.role).rises)

abbrev Under : List Entry → World → Type 0
Under es w = And under.Ground AllCounted es w

abbrev AllOnce : List Entry → World → Type 0
AllOnce es w = Once w

once_grows : Grows Under AllOnce
once_grows = record {
  begins = first_once QUOTA_MOST;
  caused = λ es w d s a i e after b. caused es w d s (grounds es w a.0) a.1 (grounds (es ++ d.entries) d.world b.0) i e;
  moved = λ es w v s a i m. moved_once w v m i;
  asked = λ es w conn r m question s a i asks. asked_once w conn r m question asks i;
}

pub once_keeps : Keeps (Shaped (And Under AllOnce))
once_keeps = grown Under AllOnce counted_keep once_grows

-- SO A CALL THAT IS REPLIED TO WAITS
pub waits_still : (script : List Line) (es : List Entry) (w : World) → Ground script es w None → (conn r : ℕ) (e : End) (h : Hearer) (letter : Letter) (rest : List Letter) → Gets w conn r e h letter rest
    → is_reply letter.said.message ≡ true → AllByRecursion (λ (a : Asked). is_reply_to a.serial letter.said.message.reply ≡ true → a.fate ≡ waits) h.asked
waits_still script es w g conn r e h letter rest x replies = all h.asked (λ a. all_of a)
  where
    once : Once w
    once = (g.kept (Shaped (And Under AllOnce)) once_keeps).1.1

    waits_or : (f : Fate) → (f ≡ waits) ⊎ ((a : Asked) → a.fate ≡ f → is_answered a ≡ true)
    waits_or waits = inl refl
    waits_or returned = inr (λ a is. ap (λ z. is_answered (record a { fate = z })) is)
    waits_or failed = inr (λ a is. ap (λ z. is_answered (record a { fate = z })) is)

    -- one among them that was answered
    among : (a : Asked) (xs : List Asked) → In a xs → is_answered a ≡ true → 1 ≤ tally (answered a.serial) xs
    among a [] at is = absurd at
    among a (y ∷ ys) (inl same) is = one (one_if (answered a.serial y)) (tally (answered a.serial) ys) (ap one_if (ap (λ z. answered a.serial z) same ∙ ap₂ (λ b c. b && c) (eq-eqb a.serial a.serial refl) is))
      where
        one : (p q : ℕ) → p ≡ 1 → 1 ≤ p + q
        one p q h = omega (arith, h)
    among a (y ∷ ys) (inr at) is = more (one_if (answered a.serial y)) (tally (answered a.serial) ys) (among a ys at is)
      where
        more : (p q : ℕ) → 1 ≤ q → 1 ≤ p + q
        more p q h = omega (arith, h)

    all_of : (a : Asked) → In a h.asked → is_reply_to a.serial letter.said.message.reply ≡ true → a.fate ≡ waits
    all_of a at to = by (waits_or a.fate)
      where
        by : (a.fate ≡ waits) ⊎ ((y : Asked) → y.fate ≡ a.fate → is_answered y ≡ true) → a.fate ≡ waits
        by (inl is) = is
        by (inr f) =
            let held = (once conn r e h x.there x.whose x.role x.standing a.serial).mine in
            let taken : 1 ≤ tally (answered a.serial) h.asked = among a h.asked at (f a refl) in
            absurd (sums (tally (in_letter (replies_to a.serial)) e.down) (one_if (replies_to a.serial letter.said.message)) (tally (in_letter (replies_to a.serial)) rest) (tally (opens conn a.serial) w.bus.state.calls)
            (tally (in_said (calls_as a.serial)) e.up) (tally (answered a.serial) h.asked) (limit a.serial h)
            (ap (tally (in_letter (replies_to a.serial))) x.link) (ap₂ (λ b c. one_if (b && c)) replies to) taken held (one_most (nat_lt a.serial h.next)))
          where
            sums : (d o q c u t l : ℕ) → d ≡ o + q → o ≡ 1 → 1 ≤ t → d + (c + (u + t)) ≤ l → l ≤ 1 → ⊥
            sums d o q c u t l h1 h2 h3 h4 h5 = absurd (omega (arith, h1, h2, h3, h4, h5))

    all : (xs : List Asked) → ((a : Asked) → In a xs → is_reply_to a.serial letter.said.message.reply ≡ true → a.fate ≡ waits) → AllByRecursion (λ (a : Asked). is_reply_to a.serial letter.said.message.reply ≡ true → a.fate ≡ waits) xs
    all [] f = tt
    all (y ∷ ys) f = (f y (inl refl), all ys (λ a at. f a (inr at)))
