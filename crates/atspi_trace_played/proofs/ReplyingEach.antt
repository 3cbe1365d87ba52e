-- Each call of a reader's has one reply at most where an end acts.
use Rattle.std.proofs.Common.{◌≡◌, ℕ, suc, ◌+◌, ◌<◌, ◌≤◌, Bool, true, false, List, [], ◌∷◌, ◌++◌, map, Option, None, Some, refl, sym, ap, ◌∙◌, subst, arith}
use Rattle.std.specs.Prelude.{◌==◌, ◌&&◌, ◌||◌, nat_lt}
use Rattle.std.proofs.lemmas.Bool.{eqb-true, ltb-true, ltb-false}
use Rattle.atspi_script_lines.specs.declared.deed.Deed.{Deed}
use Rattle.atspi_script_lines.specs.declared.deed.Deed.TheVariants.{SetCaret, InsertText, DeleteText, SetText, SelectChild, DeselectChild, SelectAll, ClearSelection, DoAction}
use Rattle.atspi_script_lines.specs.declared.line.Party.TheVariants.{App, Reader}
use Rattle.atspi_message.specs.Envelope.{Envelope}
use Rattle.atspi_match.specs.routing.Routing.{is_reply, expects_reply}
use Rattle.atspi_protocol.specs.declared.following.question.Question.{Question}
use Rattle.atspi_protocol.specs.following.Calls.{asking, user_call}
use Rattle.atspi_protocol.specs.following.Replied.{is_reply_to}
use Rattle.atspi_protocol.specs.exporting.Exporter.{Exporter}
use Rattle.atspi_protocol.specs.exporting.Taking.{app_takes}
use Rattle.atspi_protocol.specs.registering.Steps.{registry_takes}
use Rattle.atspi_trace.specs.World.{waits, Role, the_registry, an_application, a_reader, Hearer, Said, Letter, End, World}
use Rattle.atspi_trace.specs.Ends.{is_here, number_of, end_at, plain, rest_of, taken_down, stops}
use Rattle.atspi_trace.specs.Hearing.{hears_letter}
use Rattle.atspi_trace.specs.Causes.{Done, at_end, saids, has_done, asks, reader_sends, registry_did}
use Rattle.atspi_trace.specs.Due.{asks_as, asks_at}
use Rattle.atspi_trace_laws.proofs.OfOrder.Parties.{false_true}
use Rattle.atspi_trace_laws.proofs.OfOrder.Allowed.{Asks}
use Rattle.atspi_trace_laws.proofs.OfOrder.Effects.{received, AppEdits, AppTakes, ReaderCalls, Stopping, RegistryTakes, ReaderTakes}
use Rattle.atspi_trace_laws.proofs.OfSigned.Speech.{edit_no_reply}
use Rattle.atspi_trace_caches.proofs.OfSettled.ReplyingEnds.{own_spelled}
use Rattle.atspi_trace_caches.proofs.OfSettled.Settling_serials.{same_hearer}
use Rattle.atspi_trace_played.proofs.Facts.{SerialsDiffer}
use Rattle.atspi_trace_played.proofs.ReplyingTally.{one_if, tally, tally_append, replies_to, calls_as, calls_from, replies_for, is_name, opens, answered, in_letter, in_said}
use Rattle.atspi_trace_played.proofs.ReplyingPassed.{expects_kind}
use Rattle.atspi_trace_played.proofs.ReplyingActing.{limit, Once, Acted, ActsWell, one_acts, both_act, acts_once}
use Rattle.atspi_trace_played.proofs.ReplyingSpeech.{none_said, app_said, registry_said, answered_more}

-- NUMBERS of calls
pub next_one : (n s next : ℕ) (b : Bool) → s ≡ next → one_if (b && (s == n)) + one_if (nat_lt n next) ≤ one_if (nat_lt n (suc next))
next_one n s next b is = by b (s == n) refl (nat_lt n next) refl (nat_lt n (suc next)) refl
  where
    no_more : (d : Bool) → 0 + 0 ≤ one_if d
    no_more true = omega arith
    no_more false = omega arith

    one_only : (a : Bool) → nat_lt n (suc next) ≡ a → n ≤ next → 1 ≤ one_if a
    one_only true h le = omega arith
    one_only false h le = let high : suc next ≤ n = ltb-false n (suc next) h in absurd (omega (arith, high, le))

    by : (b a : Bool) → (s == n) ≡ a → (c : Bool) → nat_lt n next ≡ c → (d : Bool) → nat_lt n (suc next) ≡ d → one_if (b && a) + one_if c ≤ one_if d
    by true true f true g d h = let same : s ≡ n = eqb-true s n f in let less : n < next = ltb-true n next g in absurd (omega (arith, same, less, is))
    by true true f false g d h = let same : s ≡ n = eqb-true s n f in let le : n ≤ next = omega (arith, same, is) in let one = one_only d h le in omega (arith, one)
    by true false f true g d h = let less : n < next = ltb-true n next g in let le : n ≤ next = omega (arith, less) in let one = one_only d h le in omega (arith, one)
    by true false f false g d h = no_more d
    by false a f true g d h = let less : n < next = ltb-true n next g in let le : n ≤ next = omega (arith, less) in let one = one_only d h le in omega (arith, one)
    by false a f false g d h = no_more d

-- WHAT IS NO REPLY
kind_one : (m : Envelope) → m.kind ≡ 1 → is_reply m ≡ false
kind_one m h = ap (λ k. k == 2 || k == 3) h

user_kind : (serial : ℕ) (name : List ℕ) (node : ℕ) (deed : Deed) → (user_call serial name node deed).kind ≡ 1
user_kind serial name node (SetCaret at) = refl
user_kind serial name node (InsertText at text) = refl
user_kind serial name node (DeleteText from to) = refl
user_kind serial name node (SetText text) = refl
user_kind serial name node (SelectChild index) = refl
user_kind serial name node (DeselectChild index) = refl
user_kind serial name node SelectAll = refl
user_kind serial name node ClearSelection = refl
user_kind serial name node (DoAction index) = refl

pub no_reply_for : (u : Option (List ℕ)) (n : ℕ) (m : Envelope) → is_reply m ≡ false → replies_for u n m ≡ false
no_reply_for u n m h = ap (λ b. (b && is_reply_to n m.reply) && is_name m.destination u) h

abbrev pub is_reader_role : Role → Bool
is_reader_role (a_reader h) = true
is_reader_role role = false

pub no_reader : (role : Role) (h : Hearer) → is_reader_role role ≡ false → role ≡ a_reader h → ⊥
no_reader role h none is = false_true (sym none ∙ ap is_reader_role is)

-- one more on the up link, that is no reply
one_more : (p : Said → Bool) (xs : List Said) (x : Said) → tally p (xs ++ x ∷ []) ≡ tally p xs + (one_if (p x) + 0)
one_more p xs x = tally_append p xs (x ∷ [])

-- A READER SENDS A CALL
module _ (w v : World) (conn : ℕ) (e : End) (g h : Hearer) (m : Envelope) (calls : v.bus.state.calls ≡ w.bus.state.calls) (no_reply : is_reply m ≡ false) (serial : m.serial ≡ g.next) (next : h.next ≡ suc g.next) (r : ℕ)
    (whose : e.who ≡ Reader r) (role : e.role ≡ a_reader g)
    (taken : (n : ℕ) → tally (answered n) h.asked ≡ tally (answered n) g.asked) where
  abbrev d : End
  d = reader_sends h m e

  sends_well : ActsWell w v conn e d
  sends_well = record {
    on = λ q. q;
    unique = refl;
    less = λ u n. less (tally (in_letter (calls_from u n)) e.down) (tally (in_said (replies_for u n)) e.up) (tally (in_said (replies_for u n)) (e.up ++ plain m ∷ [])) (one_if (replies_for u n m))
        (one_more (in_said (replies_for u n)) e.up (plain m)) (ap one_if (no_reply_for u n m no_reply));
    reader = λ q x who is on. (
      g,
      whose ∙ ap Reader (ap number_of (sym whose ∙ who)),
      role,
      λ n old.
          let same : h ≡ x = same_hearer h x is in
          subst (λ (y : Hearer). tally (in_letter (replies_to n)) e.down + (tally (opens conn n) v.bus.state.calls + (tally (in_said (calls_as n)) (e.up ++ plain m ∷ []) + tally (answered n) y.asked)) ≤ limit n y) same
          (subst (λ c. tally (in_letter (replies_to n)) e.down + (tally (opens conn n) c + (tally (in_said (calls_as n)) (e.up ++ plain m ∷ []) + tally (answered n) h.asked)) ≤ limit n h) (sym calls)
          (sums (tally (in_letter (replies_to n)) e.down) (tally (opens conn n) w.bus.state.calls) (tally (in_said (calls_as n)) e.up) (tally (in_said (calls_as n)) (e.up ++ plain m ∷ [])) (one_if (calls_as n m))
          (tally (answered n) g.asked) (tally (answered n) h.asked) (limit n g) (limit n h) old
          (one_more (in_said (calls_as n)) e.up (plain m)) (taken n) (subst (λ y. one_if (calls_as n m) + one_if (nat_lt n g.next) ≤ one_if (nat_lt n y)) (sym next) (next_one n m.serial g.next (expects_reply m) serial)))),
    );
  }
    where
      less : (a b c o : ℕ) → c ≡ b + (o + 0) → o ≡ 0 → a + c ≤ a + b
      less a b c o h1 h2 = omega (arith, h1, h2)

      sums : (a b c c2 o t t2 l l2 : ℕ) → a + (b + (c + t)) ≤ l → c2 ≡ c + (o + 0) → t2 ≡ t → o + l ≤ l2 → a + (b + (c2 + t2)) ≤ l2
      sums a b c c2 o t t2 l l2 h1 h2 h3 h4 = omega (arith, h1, h2, h3, h4)

pub calls_once : (w : World) (d : Done) → Once w → ReaderCalls w d → Once d.world
calls_once w d i b =
    let m : Envelope = user_call b.hearer.next b.name b.node b.deed in
    let h : Hearer = record b.hearer { next = suc b.hearer.next } in
    acts_once w d.world b.conn b.e (reader_sends h m b.e) (one_acts w d.world b.conn b.e (reader_sends h m) b.is_here.there (ap (λ x. x.world.ends) b.is) (ap (λ x. x.world.bus.state.calls) b.is))
    (sends_well w d.world b.conn b.e b.hearer h m (ap (λ x. x.world.bus.state.calls) b.is) (kind_one m (user_kind b.hearer.next b.name b.node b.deed)) refl refl b.reader b.whose b.role (λ n. refl)) i

pub asked_once : (w : World) (conn r : ℕ) (m : Envelope) (question : Question) → Asks w conn r m question → Once w → Once (at_end w conn (asks_at m question))
asked_once w conn r m question a i =
    acts_once w (at_end w conn (asks_at m question)) conn a.asker (reader_sends (asks question a.hearer) m a.asker)
    (subst (Acted w (at_end w conn (asks_at m question)) conn a.asker) is (one_acts w (at_end w conn (asks_at m question)) conn a.asker (asks_at m question) a.is_here.there refl refl))
    (sends_well w (at_end w conn (asks_at m question)) conn a.asker a.hearer (asks question a.hearer) m refl (ap is_reply a.spelled ∙ expects_kind (asking a.hearer.next question) (own_spelled question a.hearer.next).0)
    (ap (λ (x : Envelope). x.serial) a.spelled) refl r a.whose a.reader taken) i
  where
    is : asks_at m question a.asker ≡ reader_sends (asks question a.hearer) m a.asker
    is = ap (λ role. asks_as role m question a.asker) a.reader

    plus : (x y z : ℕ) → x ≡ y + (z + 0) → z ≡ 0 → x ≡ y
    plus x y z h g = omega (arith, h, g)

    none : (b : Bool) → one_if (b && false) ≡ 0
    none true = refl
    none false = refl

    taken : (n : ℕ) → tally (answered n) (asks question a.hearer).asked ≡ tally (answered n) a.hearer.asked
    taken n =
        plus (tally (answered n) (asks question a.hearer).asked) (tally (answered n) a.hearer.asked) (one_if ((a.hearer.next == n) && false))
        (tally_append (answered n) a.hearer.asked (record { serial = a.hearer.next; question = question; fate = waits } ∷ []))
        (none (a.hearer.next == n))

-- ENDS THAT ARE NO READERS
module _ (w : World) (d : Done) (empty : (k a : ℕ) (e : End) (s : Exporter) → end_at w.ends k ≡ Some e → e.who ≡ App a → e.role ≡ an_application s → s.out ≡ []) (i : Once w) where
  first_of_link : (p : Letter → Bool) (e : End) (l : Letter) (rest : List Letter) → e.down ≡ l ∷ rest → tally p e.down ≡ one_if (p l) + tally p (rest_of e.down)
  first_of_link p e l rest link = ap (tally p) link ∙ ap (λ x. one_if (p l) + tally p (rest_of x)) (sym link)

  pub edits_once : AppEdits w d → Once d.world
  edits_once b =
      acts_once w d.world b.conn b.e (has_done b.before b.after b.e) (one_acts w d.world b.conn b.e (has_done b.before b.after) b.is_here.there (ap (λ x. x.world.ends) b.is) (ap (λ x. x.world.bus.state.calls) b.is))
      (record {
        on = λ q. q;
        unique = refl;
        less = λ u n. less (tally (in_letter (calls_from u n)) b.e.down) (tally (in_said (replies_for u n)) b.e.up) (tally (in_said (replies_for u n)) (b.e.up ++ saids b.before b.before.tree None b.after.out))
            (tally (in_said (replies_for u n)) (saids b.before b.before.tree None b.after.out))
            (tally_append (in_said (replies_for u n)) b.e.up (saids b.before b.before.tree None b.after.out))
            (none_said u n b.before b.before.tree None b.after.out (edit_no_reply b.before b.after b.edit b.done (empty b.conn b.app b.e b.before b.is_here.there b.whose b.role)));
        reader = λ r h who is on. absurd (no_reader (an_application (record b.after { out = [] })) h refl is);
      }) i
    where
      less : (a b c o : ℕ) → c ≡ b + o → o ≡ 0 → a + c ≤ a + b
      less a b c o h1 h2 = omega (arith, h1, h2)

  less_took : (a a2 o b c s : ℕ) → a ≡ o + a2 → c ≡ b + s → s ≤ o → a2 + c ≤ a + b
  less_took a a2 o b c s h1 h2 h3 = omega (arith, h1, h2, h3)

  pub app_once : AppTakes w d → Once d.world
  app_once b =
      let after : Exporter = app_takes b.before b.letter.said.message in
      acts_once w d.world b.conn b.e (has_done b.before (app_takes b.before b.letter.said.message) (taken_down b.e))
      (both_act w d.world b.conn b.e taken_down (has_done b.before (app_takes b.before b.letter.said.message)) b.is_here.there (ap (λ x. x.world.ends) b.is) (ap (λ x. x.world.bus.state.calls) b.is))
      (record {
        on = λ q. q;
        unique = refl;
        less = λ u n.
            less_took (tally (in_letter (calls_from u n)) b.e.down) (tally (in_letter (calls_from u n)) (rest_of b.e.down)) (one_if (calls_from u n b.letter.said.message)) (tally (in_said (replies_for u n)) b.e.up)
            (tally (in_said (replies_for u n)) (b.e.up ++ saids b.before b.before.tree None after.out))
            (tally (in_said (replies_for u n)) (saids b.before b.before.tree None after.out)) (first_of_link (in_letter (calls_from u n)) b.e b.letter b.rest b.link)
            (tally_append (in_said (replies_for u n)) b.e.up (saids b.before b.before.tree None after.out))
            (app_said u n b.before b.letter.said.message (empty b.conn b.app b.e b.before b.is_here.there b.whose b.role));
        reader = λ r h who is on. absurd (no_reader (an_application (record after { out = [] })) h refl is);
      }) i

  pub registry_once : RegistryTakes w d → Once d.world
  registry_once b =
      let step = registry_takes b.before b.letter.said.message in
      acts_once w d.world b.conn b.e (registry_did (registry_takes b.before b.letter.said.message) (taken_down b.e))
      (both_act w d.world b.conn b.e taken_down (registry_did (registry_takes b.before b.letter.said.message)) b.is_here.there (ap (λ x. x.world.ends) b.is) (ap (λ x. x.world.bus.state.calls) b.is))
      (record {
        on = λ q. q;
        unique = refl;
        less = λ u n.
            less_took (tally (in_letter (calls_from u n)) b.e.down) (tally (in_letter (calls_from u n)) (rest_of b.e.down)) (one_if (calls_from u n b.letter.said.message)) (tally (in_said (replies_for u n)) b.e.up)
            (tally (in_said (replies_for u n)) (b.e.up ++ map plain step.sent))
            (tally (in_said (replies_for u n)) (map plain step.sent)) (first_of_link (in_letter (calls_from u n)) b.e b.letter b.rest b.link) (tally_append (in_said (replies_for u n)) b.e.up (map plain step.sent))
            (registry_said u n b.before b.letter.said.message);
        reader = λ r h who is on. absurd (no_reader (the_registry step.state) h refl is);
      }) i

  pub stops_once : Stopping w d → Once d.world
  stops_once b =
      acts_once w d.world b.conn b.e (stops b.e) (one_acts w d.world b.conn b.e stops b.is_here.there (ap (λ x. x.world.ends) b.is) (ap (λ x. x.world.bus.state.calls) b.is))
      (record {
        on = λ q. absurd (false_true (ap is_here q));
        unique = refl;
        less = λ u n. less (tally (in_letter (calls_from u n)) b.e.down) (tally (in_said (replies_for u n)) b.e.up);
        reader = λ r h who is on. absurd (false_true (ap is_here on));
      }) i
    where
      less : (a b : ℕ) → a + 0 ≤ a + b
      less a b = omega arith

  -- A READER TAKES A MESSAGE
  pub reader_once : (b : ReaderTakes w d) → SerialsDiffer b.hearer.asked → Once d.world
  reader_once b differ =
      acts_once w d.world b.conn b.e (f (taken_down b.e)) (both_act w d.world b.conn b.e taken_down f b.is_here.there (ap (λ x. x.world.ends) b.is) (ap (λ x. x.world.bus.state.calls) b.is))
      (record {
        on = λ q. q;
        unique = refl;
        less = λ u n. less (tally (in_letter (calls_from u n)) b.e.down) (tally (in_letter (calls_from u n)) (rest_of b.e.down)) (one_if (calls_from u n b.letter.said.message)) (tally (in_said (replies_for u n)) b.e.up)
            (first_of_link (in_letter (calls_from u n)) b.e b.letter b.rest b.link);
        reader = λ q x who is on. (
          b.hearer,
          b.whose ∙ ap Reader (ap number_of (sym b.whose ∙ who)),
          b.role,
          λ n old.
              subst (λ (y : Hearer). tally (in_letter (replies_to n)) (rest_of b.e.down) + (tally (opens b.conn n) d.world.bus.state.calls + (tally (in_said (calls_as n)) b.e.up + tally (answered n) y.asked)) ≤ limit n y)
              (same_hearer h x is)
              (subst (λ c. tally (in_letter (replies_to n)) (rest_of b.e.down) + (tally (opens b.conn n) c + (tally (in_said (calls_as n)) b.e.up + tally (answered n) h.asked)) ≤ limit n h) (sym (ap (λ x. x.world.bus.state.calls) b.is))
              (sums (tally (in_letter (replies_to n)) b.e.down) (tally (in_letter (replies_to n)) (rest_of b.e.down)) (one_if (replies_to n b.letter.said.message)) (tally (opens b.conn n) w.bus.state.calls)
              (tally (in_said (calls_as n)) b.e.up) (tally (answered n) b.hearer.asked) (tally (answered n) h.asked)
              (limit n b.hearer) (first_of_link (in_letter (replies_to n)) b.e b.letter b.rest b.link) (answered_more n b.letter.said.message b.hearer.asked differ) old)),
        );
      }) i
    where
      h : Hearer
      h = hears_letter b.hearer (received w b.conn b.e b.letter).ends b.letter

      f : End → End
      f x = record x { role = a_reader (hears_letter b.hearer (received w b.conn b.e b.letter).ends b.letter) }

      less : (a a2 o b : ℕ) → a ≡ o + a2 → a2 + b ≤ a + b
      less a a2 o b h1 = omega (arith, h1)

      sums : (a a2 o b c t t2 l : ℕ) → a ≡ o + a2 → t2 ≤ t + o → a + (b + (c + t)) ≤ l → a2 + (b + (c + t2)) ≤ l
      sums a a2 o b c t t2 l h1 h2 h3 = omega (arith, h1, h2, h3)
