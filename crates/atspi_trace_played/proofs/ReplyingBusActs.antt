-- EACH CALL OF A READER'S HAS ONE REPLY AT MOST: so it is behind what the bus does, whatever unique name the reader has then.
use Rattle.std.proofs.Common.{◌≡◌, ◌⊎◌, inl, inr, ℕ, ◌+◌, ◌≤◌, Bool, true, false, List, [], ◌∷◌, ◌++◌, length, Option, None, Some, refl, sym, ap, ◌∙◌, subst, arith}
use Rattle.std.specs.Prelude.{◌&&◌, bytes_eq, codes}
use Rattle.std.specs.List.{AllByRecursion}
use Rattle.std.proofs.lemmas.Slice.Eq.{bytes_eq-Decides}
use Rattle.atspi_script_lines.specs.declared.line.Party.{Party}
use Rattle.atspi_script_lines.specs.declared.line.Party.TheVariants.{Registry, Reader}
use Rattle.atspi_base.specs.valid_names.Names.{is_unique_name}
use Rattle.atspi_protocol.specs.following.Replied.{is_reply_to}
use Rattle.atspi_names.specs.Owners.{own_name, list_of}
use Rattle.atspi_names.specs.Queue.{owner_in}
use Rattle.atspi_match.specs.routing.BusState.{unique_of}
use Rattle.atspi_match.specs.routing.Members.{is_text}
use Rattle.atspi_match.specs.routing.Routing.{is_reply, is_for_bus, owners_of, one_or_none}
use Rattle.atspi_trace.specs.Entry.{Entry}
use Rattle.atspi_trace.specs.World.{here, a_reader, Hearer, Said, Letter, End, World}
use Rattle.atspi_trace.specs.Ends.{same_party, end_at}
use Rattle.atspi_trace.specs.Carrying as carrying
use Rattle.atspi_trace.specs.Carrying.{Carried}
use Rattle.atspi_trace.specs.Causes.{Done}
use Rattle.atspi_trace_laws.proofs.OfOrder.Parties.{no_none, same_some, same-party, party-same, false_true}
use Rattle.atspi_trace_laws.proofs.OfOrder.Shape.{Shape}
use Rattle.atspi_trace_laws.proofs.OfOrder.Effects.{BusTakes, BusEnds}
use Rattle.atspi_trace_laws.proofs.OfNames.Places.{greeted, name_told}
use Rattle.atspi_trace_laws.proofs.OfSigned.Mail.{NameIs, told_more, name_more, IsCallOf, IsMail, IsSpeech, IsAnswer}
use Rattle.atspi_trace_laws.proofs.OfSigned.Self.{unique_told, one_named, for_bus_true}
use Rattle.atspi_trace_laws.proofs.OfSigned.LawMail.{name_of_end}
use Rattle.atspi_trace_laws.proofs.OfSigned.Unique.{IsIn, owner_has}
use Rattle.atspi_trace_laws.proofs.OfMissed.Arriving.{Goes_on, took_goes, ended_goes}
use Rattle.atspi_trace_caches.proofs.OfSettled.ReplyingOwns.{small_given}
use Rattle.atspi_trace_caches.proofs.OfSettled.Settling_ground.{Grounds}
use Rattle.atspi_trace_played.proofs.ReplyingTally.{one_if, tally, and_false, replies_to, calls_as, calls_from, replies_for, is_name, opens_at, answered, in_letter, in_said}
use Rattle.atspi_trace_played.proofs.ReplyingSteps.{Knows}
use Rattle.atspi_trace_played.proofs.ReplyingHolds.{Holds, AllHold, took_holds, ended_holds}
use Rattle.atspi_trace_played.proofs.ReplyingActing.{limit, Once}

-- A NAME that nobody has yet: nothing is from it, and nothing goes to it
module _ (es ys : List Entry) (w : World) (g : Grounds es w) (few : length (greeted (es ++ ys)) ≤ 1000) (r n : ℕ) (name : List ℕ) (later : name_told (es ++ ys) (Reader r) ≡ Some name) (none : name_told es (Reader r) ≡ None) where
  nobodys : (p : Party) → NameIs es p name → ⊥
  nobodys p h =
      let who : p ≡ Reader r = one_named (es ++ ys) p (Reader r) name few (name_more es ys p name h) (inr later) in
      by (subst (λ q. NameIs es q name) who h)
    where
      by : NameIs es (Reader r) name → ⊥
      by (inl q) = false_true (ap (λ p. same_party p (Reader r)) (sym q.0) ∙ party-same (Reader r))
      by (inr q) = no_none name (sym none ∙ q)

  not_own : bytes_eq own_name name ≡ false
  not_own = by (bytes_eq own_name name) refl
    where
      by : (b : Bool) → bytes_eq own_name name ≡ b → bytes_eq own_name name ≡ false
      by true h =
          let same : own_name ≡ name = (bytes_eq-Decides own_name name).0 h in
          absurd (false_true (sym (name_of_end (es ++ ys) (Reader r) name (inr later)) ∙ ap (λ z. is_text (Some z) own_name) (sym same) ∙ (bytes_eq-Decides own_name own_name).1 refl))
      by false h = h

  other : (p : Party) (caller : List ℕ) → NameIs es p caller → bytes_eq caller name ≡ false
  other p caller h = by (bytes_eq caller name) refl
    where
      by : (b : Bool) → bytes_eq caller name ≡ b → bytes_eq caller name ≡ false
      by true k = absurd (nobodys p (subst (NameIs es p) ((bytes_eq-Decides caller name).0 k) h))
      by false k = k

  plus : (a b : ℕ) → a ≡ 0 → b ≡ 0 → a + b ≡ 0
  plus a b h k = omega (arith, h, k)

  of_text : (o : Option (List ℕ)) → is_text o own_name ≡ true → is_name o (Some name) ≡ false
  of_text None h = absurd (false_true h)
  of_text (Some field) h = ap (λ z. bytes_eq z name) ((bytes_eq-Decides field own_name).0 h) ∙ not_own

  letters : (who : Party) (ls : List Letter) → AllByRecursion (IsMail es who) ls → tally (in_letter (calls_from (Some name) n)) ls ≡ 0
  letters who [] a = refl
  letters who (l ∷ ls) a = plus (one_if (calls_from (Some name) n l.said.message)) (tally (in_letter (calls_from (Some name) n)) ls) (ap one_if (and_false (calls_as n l.said.message) (is_name l.said.message.sender (Some name)) (by a.0)))
      (letters who ls a.1)
    where
      by : IsMail es who l → is_name l.said.message.sender (Some name) ≡ false
      by (inl b) = of_text l.said.message.sender b.own
      by (inr p) = ap (λ o. is_name o (Some name)) p.sender ∙ other l.from p.caller p.name

  said : (who : Party) (ss : List Said) → AllByRecursion (IsSpeech es who) ss → tally (in_said (replies_for (Some name) n)) ss ≡ 0
  said who [] a = refl
  said who (s ∷ ss) a = plus (one_if (replies_for (Some name) n s.message)) (tally (in_said (replies_for (Some name) n)) ss) (ap one_if (by (is_reply s.message) refl)) (said who ss a.1)
    where
      by : (b : Bool) → is_reply s.message ≡ b → replies_for (Some name) n s.message ≡ false
      by false h = ap (λ b. (b && is_reply_to n s.message.reply) && is_name s.message.destination (Some name)) h
      by true h = and_false (replies_to n s.message) (is_name s.message.destination (Some name)) (at (a.0.answers h))
        where
          at : IsAnswer es who s → is_name s.message.destination (Some name) ≡ false
          at x = ap (λ o. is_name o (Some name)) x.to ∙ of x.called.known
            where
              of : (x.called.caller ≡ own_name) ⊎ IsCallOf es x.called.from x.called.caller x.call → bytes_eq x.called.caller name ≡ false
              of (inl own) = ap (λ z. bytes_eq z name) own ∙ not_own
              of (inr c) = other x.called.from x.called.caller c.name

-- BEFORE what the bus does, with the name that the reader has behind it
module _ (es ys : List Entry) (w v : World) (sh : Shape w) (g : Grounds es w) (g2 : Grounds (es ++ ys) v) (i : Once w) (k r : ℕ) (z : End) (h : Hearer) (there : end_at v.ends k ≡ Some z) (who : z.who ≡ Reader r) (n : ℕ) (e : End)
    (was : end_at w.ends k ≡ Some e) (e_who : e.who ≡ Reader r) (e_role : e.role ≡ a_reader h)
    (e_on : e.standing ≡ here) where
  no_registry : (d : End) → d.who ≡ Reader r → d.who ≡ Registry → ⊥
  no_registry d is it = false_true (ap (λ p. same_party p (Reader r)) (sym it ∙ is) ∙ party-same (Reader r))

  name_before : e.unique ≡ name_told es (Reader r)
  name_before = (g.names.ends k e was).known (no_registry e e_who) ∙ ap (name_told es) e_who

  name_behind : z.unique ≡ name_told (es ++ ys) (Reader r)
  name_behind = (g2.names.ends k z there).known (no_registry z who) ∙ ap (name_told (es ++ ys)) who

  kept_name : (name : List ℕ) → e.unique ≡ Some name → z.unique ≡ Some name
  kept_name name is = name_behind ∙ told_more es ys (Reader r) name (sym name_before ∙ is)

  old : Holds w.ends w.bus.state.calls k n e.unique (tally (answered n) h.asked) (limit n h) e
  old = i k r e h was e_who e_role e_on n

  theirs : (x : ℕ) (d : End) → end_at w.ends x ≡ Some d → d.standing ≡ here → tally (in_letter (calls_from z.unique n)) d.down + tally (in_said (replies_for z.unique n)) d.up ≤ tally (opens_at k n x) w.bus.state.calls
  theirs x d at stands = by e.unique refl z.unique refl
    where
      low : (a b y : ℕ) → a ≡ 0 → b ≡ 0 → a + b ≤ y
      low a b y h f = omega (arith, h, f)

      no_name : (o : Option (List ℕ)) → is_name o None ≡ false
      no_name None = refl
      no_name (Some a) = refl

      plus_ : (a b : ℕ) → a ≡ 0 → b ≡ 0 → a + b ≡ 0
      plus_ a b h f = omega (arith, h, f)

      no_letters : (ls : List Letter) → tally (in_letter (calls_from None n)) ls ≡ 0
      no_letters [] = refl
      no_letters (l ∷ ls) = plus_ (one_if (calls_from None n l.said.message)) (tally (in_letter (calls_from None n)) ls)
          (ap one_if (and_false (calls_as n l.said.message) (is_name l.said.message.sender None) (no_name l.said.message.sender))) (no_letters ls)

      no_said : (ss : List Said) → tally (in_said (replies_for None n)) ss ≡ 0
      no_said [] = refl
      no_said (s ∷ ss) = plus_ (one_if (replies_for None n s.message)) (tally (in_said (replies_for None n)) ss) (ap one_if (and_false (replies_to n s.message) (is_name s.message.destination None) (no_name s.message.destination)))
          (no_said ss)

      by : (o : Option (List ℕ)) → e.unique ≡ o → (u : Option (List ℕ)) → z.unique ≡ u → tally (in_letter (calls_from z.unique n)) d.down + tally (in_said (replies_for z.unique n)) d.up ≤ tally (opens_at k n x) w.bus.state.calls
      by (Some name) f u q =
          subst (λ y. tally (in_letter (calls_from y n)) d.down + tally (in_said (replies_for y n)) d.up ≤ tally (opens_at k n x) w.bus.state.calls) (f ∙ sym (kept_name name f)) (old.theirs x d at stands)
      by None f None q =
          subst (λ y. tally (in_letter (calls_from y n)) d.down + tally (in_said (replies_for y n)) d.up ≤ tally (opens_at k n x) w.bus.state.calls) (sym q)
          (low (tally (in_letter (calls_from None n)) d.down) (tally (in_said (replies_for None n)) d.up) (tally (opens_at k n x) w.bus.state.calls) (no_letters d.down) (no_said d.up))
      by None f (Some name) q =
          subst (λ y. tally (in_letter (calls_from y n)) d.down + tally (in_said (replies_for y n)) d.up ≤ tally (opens_at k n x) w.bus.state.calls) (sym q)
          (low (tally (in_letter (calls_from (Some name) n)) d.down) (tally (in_said (replies_for (Some name) n)) d.up) (tally (opens_at k n x) w.bus.state.calls)
          (letters es ys w g g2.few r n name (sym name_behind ∙ q) (sym name_before ∙ f) d.who d.down (g.mail.downs x d at stands)) (said es ys w g g2.few r n name (sym name_behind ∙ q) (sym name_before ∙ f) d.who d.up (g.mail.ups x d at)))

  pub before : AllHold w.ends w.bus.state.calls k n z.unique (tally (answered n) h.asked) (limit n h)
  before x at stands =
      let same : e ≡ x = same_some e x (sym was ∙ at) in
      subst (λ y. Holds w.ends w.bus.state.calls k n z.unique (tally (answered n) h.asked) (limit n h) y) same (record { mine = old.mine; theirs = theirs })

  -- what is known of the message that the bus takes
  pub knows : (j : ℕ) (ej : End) (m : Said) (rest : List Said) → end_at w.ends j ≡ Some ej → ej.standing ≡ here → ej.up ≡ m ∷ rest → Knows w.bus.state j k n z.unique m.message
  knows j ej m rest at stands link = record {
    owned = g.refusing.opened.owned;
    its = λ name f. kept_name name (sym ((g.names.ends k e was).owner e_on) ∙ f);
    one = one;
    to = goes;
    is_open = λ f. more (theirs j ej at stands) f;
  }
    where
      named_at : (name : List ℕ) → ej.unique ≡ Some name → NameIs es ej.who name
      named_at name f = by (same_party ej.who Registry) refl
        where
          registry_name : ej.who ≡ Registry → NameIs es ej.who name
          registry_name is = inl (is, same_some name (codes ":1.0") (sym f ∙ g.mail.registry j ej at is))

          by : (b : Bool) → same_party ej.who Registry ≡ b → NameIs es ej.who name
          by true q = registry_name (same-party ej.who Registry q)
          by false q = inr (sym ((g.names.ends j ej at).known (λ is. false_true (sym q ∙ ap (λ p. same_party p Registry) is))) ∙ f)

      one : (name : List ℕ) → z.unique ≡ Some name → unique_of w.bus.state.owners j ≡ Some name → j ≡ k
      one name f q =
          let mine : NameIs es ej.who name = named_at name (sym ((g.names.ends j ej at).owner stands) ∙ q) in
          let same : ej.who ≡ Reader r = one_named (es ++ ys) ej.who (Reader r) name g2.few (name_more es ys ej.who name mine) (inr (sym name_behind ∙ f)) in
          sh.one j k ej e at was (same ∙ sym e_who)

      speech : IsSpeech es ej.who m
      speech = (subst (AllByRecursion (IsSpeech es ej.who)) link (g.mail.ups j ej at)).0

      goes : is_reply m.message ≡ true → (name : List ℕ) → m.message.destination ≡ Some name → is_for_bus m.message ≡ false
          → (owners_of w.bus.state name ≡ []) ⊎ ((c : ℕ) × (owners_of w.bus.state name ≡ c ∷ []) × (unique_of w.bus.state.owners c ≡ Some name))
      goes replies name to not_bus = by (owner_in (list_of w.bus.state.owners.lists name)) refl
        where
          unique : is_unique_name name ≡ true
          unique = let x = speech.answers replies in of x (same_some x.called.caller name (sym x.to ∙ to)) x.called.known
            where
              of : (x : IsAnswer es ej.who m) → x.called.caller ≡ name → (x.called.caller ≡ own_name) ⊎ IsCallOf es x.called.from x.called.caller x.call → is_unique_name name ≡ true
              of x same (inl own) = absurd (false_true (sym not_bus ∙ for_bus_true m.message (to ∙ ap Some (sym same ∙ own))))
              of x same (inr c) = ap is_unique_name (sym same) ∙ unique_told es x.called.from x.called.caller c.name

          by : (o : Option ℕ) → owner_in (list_of w.bus.state.owners.lists name) ≡ o → (owners_of w.bus.state name ≡ []) ⊎ ((c : ℕ) × (owners_of w.bus.state name ≡ c ∷ []) × (unique_of w.bus.state.owners c ≡ Some name))
          by None q = inl (ap one_or_none q)
          by (Some c) q =
              let are : owners_of w.bus.state name ≡ c ∷ [] = ap one_or_none q in
              inr (c, are, owner_has w.bus.state name c g.mail.lists unique (subst (IsIn c) (sym are) (inl refl)))

      more : tally (in_letter (calls_from z.unique n)) ej.down + tally (in_said (replies_for z.unique n)) ej.up ≤ tally (opens_at k n j) w.bus.state.calls → replies_for z.unique n m.message ≡ true
          → 1 ≤ tally (opens_at k n j) w.bus.state.calls
      more le f =
          sums (tally (in_letter (calls_from z.unique n)) ej.down) (tally (in_said (replies_for z.unique n)) ej.up) (one_if (replies_for z.unique n m.message)) (tally (in_said (replies_for z.unique n)) rest)
          (tally (opens_at k n j) w.bus.state.calls) le
          (ap (tally (in_said (replies_for z.unique n))) link) (ap one_if f)
        where
          sums : (a b o q c : ℕ) → a + b ≤ c → b ≡ o + q → o ≡ 1 → 1 ≤ c
          sums a b o q c h1 h2 h3 = omega (arith, h1, h2, h3)

-- THE BUS TAKES A MESSAGE, or an end
pub took_once : (es : List Entry) (w : World) (d : Done) → Shape w → Grounds es w → Grounds (es ++ d.entries) d.world → Once w → BusTakes w d → Once d.world
took_once es w d sh g g2 i b k r z h there who role on n =
    subst (λ x. Holds x.world.ends x.world.bus.state.calls k n z.unique (tally (answered n) h.asked) (limit n h) z) (sym b.is)
    (took_holds c b.conn b.e.who b.said b.rest b.e b.is_here.there b.link k n z.unique (tally (answered n) h.asked) (limit n h) (small_given es w g.names g.few)
    (knows es d.entries w d.world sh g g2 i k r z h there who n x.0 x.1 (sym x.2.whose ∙ who) (sym x.2.role ∙ role) (x.2.on on) b.conn b.e b.said b.rest b.is_here.there b.is_here.standing b.link)
    (before es d.entries w d.world sh g g2 i k r z h there who n x.0 x.1 (sym x.2.whose ∙ who) (sym x.2.role ∙ role) (x.2.on on)) z (ap (λ l. end_at l k) (sym ends) ∙ there) on)
  where
    c : Carried
    c = record { bus = w.bus; ends = w.ends }

    ends : d.world.ends ≡ (carrying.takes (record { bus = w.bus; ends = w.ends }) b.conn b.e.who b.said).ends
    ends = ap (λ x. x.world.ends) b.is

    x : (e : End) × (end_at w.ends k ≡ Some e) × Goes_on e z
    x = (took_goes (record { bus = w.bus; ends = w.ends }) b.conn b.e.who b.said).back k z (ap (λ l. end_at l k) (sym ends) ∙ there)

pub ended_once : (es : List Entry) (w : World) (d : Done) → Shape w → Grounds es w → Grounds (es ++ d.entries) d.world → Once w → BusEnds w d → Once d.world
ended_once es w d sh g g2 i b k r z h there who role on n =
    subst (λ x. Holds x.world.ends x.world.bus.state.calls k n z.unique (tally (answered n) h.asked) (limit n h) z) (sym b.is)
    (ended_holds c b.conn k n z.unique (tally (answered n) h.asked) (limit n h) g.refusing.opened.owned
    (before es d.entries w d.world sh g g2 i k r z h there who n x.0 x.1 (sym x.2.whose ∙ who) (sym x.2.role ∙ role) (x.2.on on)) z (ap (λ l. end_at l k) (sym ends) ∙ there) on)
  where
    c : Carried
    c = record { bus = w.bus; ends = w.ends }

    ends : d.world.ends ≡ (carrying.takes_end (record { bus = w.bus; ends = w.ends }) b.conn).ends
    ends = ap (λ x. x.world.ends) b.is

    x : (e : End) × (end_at w.ends k ≡ Some e) × Goes_on e z
    x = (ended_goes (record { bus = w.bus; ends = w.ends }) b.conn).back k z (ap (λ l. end_at l k) (sym ends) ∙ there)
