-- What readers heard of the registry's children is kept along a lawful trace, where the calls of their start are returned.
use Rattle.std.proofs.Common.{◌≡◌, ◌⊎◌, inl, inr, ℕ, zero, suc, ◌+◌, ◌≤◌, Bool, true, false, List, [], ◌∷◌, ◌++◌, length, Some, refl, sym, ap, ap₂, ◌∙◌, subst, arith}
use Rattle.std.specs.Prelude.{◌==◌, ◌||◌}
use Rattle.std.specs.List.{AllByRecursion}
use Rattle.std.proofs.lemmas.List.{append-nil}
use Rattle.atspi_script_lines.specs.declared.limits.TheConstants.{QUOTA_MOST}
use Rattle.atspi_script_lines.specs.declared.line.Party.TheVariants.{Registry, Reader}
use Rattle.atspi_message.specs.Envelope.{Envelope}
use Rattle.atspi_protocol.specs.following.ReaderState.{start_calls}
use Rattle.atspi_protocol.specs.declared.following.question.Question.{Question}
use Rattle.atspi_trace.specs.Entry.{Entry, sent}
use Rattle.atspi_trace.specs.Rules.{cache_rule, event_rule}
use Rattle.atspi_trace.specs.World.{here, waits, Fate, returned, Asked, Hearer, Role, a_reader, Said, Letter, End, World, first_registry, first_world}
use Rattle.atspi_trace.specs.Ends.{end_at, same_party, number_of, rest_of, taken_down}
use Rattle.atspi_trace.specs.Hearing.{hears_letter, heard_entries}
use Rattle.atspi_trace.specs.Carrying as carrying
use Rattle.atspi_trace.specs.Carrying.{Carried}
use Rattle.atspi_trace.specs.Causes.{Done, at_end, asks, reader_sends}
use Rattle.atspi_trace.specs.Due.{asks_at}
use Rattle.atspi_trace_laws.specs.laws.NineLaws.{count_got_by_bus}
use Rattle.atspi_trace_laws.proofs.OfOrder.Parties.{no_none, same_some, false_true}
use Rattle.atspi_trace_laws.proofs.OfOrder.Along.{Keeps}
use Rattle.atspi_trace_laws.proofs.OfOrder.Allowed.{Asks}
use Rattle.atspi_trace_laws.proofs.OfOrder.Each.{all_map}
use Rattle.atspi_trace_laws.proofs.OfOrder.Acts.{Act, heard_act}
use Rattle.atspi_trace_laws.proofs.OfOrder.Frame.{Over, joined_cases}
use Rattle.atspi_trace_laws.proofs.OfOrder.Shape.{Shape}
use Rattle.atspi_trace_laws.proofs.OfOrder.Growing.{Grows, Shaped, Nothing, And, grown}
use Rattle.atspi_trace_laws.proofs.OfOrder.Effects.{received, BusTakes, BusEnds, ReaderTakes}
use Rattle.atspi_trace_laws.proofs.OfLinks.LawLinks.{NotTaken, none_taken, bus_free, got_free, word_free, no_bus, first_unread}
use Rattle.atspi_trace_laws.proofs.OfOwn.Writing.{Lives, lived}
use Rattle.atspi_trace_laws.proofs.OfReaders.Fates.{Fated, both_keep}
use Rattle.atspi_trace_laws.proofs.OfSerials.Speaking.{next_of}
use Rattle.atspi_trace_laws.proofs.OfTaken.Said as told
use Rattle.atspi_trace_laws.proofs.OfTurns.Turning.{count_more, Turns}
use Rattle.atspi_trace_laws.proofs.OfTurns.LawTurns.{Turned}
use Rattle.atspi_trace_laws.specs.laws.Words.{message}
use Rattle.atspi_match.specs.routing.Routing.{is_reply}
use Rattle.atspi_names.specs.Owners.{own_name}
use Rattle.atspi_trace_laws.proofs.OfNames.Places.{greeted}
use Rattle.atspi_trace_laws.proofs.OfSerials.Numbers.{Numbered}
use Rattle.atspi_trace_laws.proofs.OfTaken.LawTaken.{not_sent_at}
use Rattle.atspi_trace_laws.proofs.OfMissed.Delivering.{all_on, Delivers}
use Rattle.atspi_trace_laws.proofs.OfSigned.Self.{unique_told, one_named, for_bus_true}
use Rattle.atspi_trace_laws.proofs.OfSigned.Mail.{IsCallOf, IsAnswer, IsMail}
use Rattle.atspi_trace_laws.proofs.OfMissed.Arriving.{On}
use Rattle.atspi_trace_laws.proofs.OfMissed.Resting.{Rested}
use Rattle.atspi_trace_laws.proofs.OfMissed.Ruled.{Ruled}
use Rattle.atspi_trace_laws.proofs.OfMissed.Ruling.{Has}
use Rattle.atspi_trace_laws.proofs.OfMissed.LawMissed.{Under_delivered, delivers_keep}
use Rattle.atspi_trace_caches.proofs.OfServed.HearingTuned.{ChangedAt, changed_both}
use Rattle.atspi_trace_caches.proofs.OfServed.ListingAll.{returns_children}
use Rattle.atspi_trace_caches.proofs.OfServed.Spelling.{Spelled, spelled_keep}
use Rattle.atspi_trace_caches.proofs.OfSettled.Facts.{AreReturned, StartsReturn}
use Rattle.atspi_trace_caches.proofs.OfSettled.Refusing.{Refusing, Under_refusing, refusing_keeps, Below, below}
use Rattle.atspi_trace_caches.proofs.OfSettled.TellingAsked.{IsWell, well_last, AllOrdered, ordered_keep, asked_cases}
use Rattle.atspi_trace_caches.proofs.OfSettled.Telling_of.{begins_well, rule_back, cache_back}
use Rattle.atspi_trace_caches.proofs.OfSettled.TellingHeard.{IsReply, Attends, attends_same, attends_more}
use Rattle.atspi_trace_caches.proofs.OfSettled.TellingTakes.{attends_taken}
use Rattle.atspi_trace_caches.proofs.OfSettled.TellingRests.{SameReader, Resting, calms, joins, takes_, ends_, reads_, begins_, resting, moved_same, same_hearer}
use Rattle.atspi_trace_caches.proofs.OfSettled.TellingBus.{both_there, before, took_attends, wrote, before_end, ended_attends}

-- WHAT IS KEPT
abbrev pub Attending : List Entry → World → Type 0
Attending es w =
    Lives es → (k r : ℕ) (e : End) (h : Hearer) → end_at w.ends k ≡ Some e → e.who ≡ Reader r → e.role ≡ a_reader h → e.standing ≡ here → (n : ℕ) (x : IsWell h.asked n) → Attends es r h e.down n x

same_unread : (es ys : List Entry) → AllByRecursion NotTaken ys → first_unread (es ++ ys) Registry ≡ first_unread es Registry
same_unread es ys free =
    let sum : count_got_by_bus (es ++ ys) Registry ≡ count_got_by_bus es Registry + count_got_by_bus ys Registry = count_more es ys Registry in
    let none : count_got_by_bus ys Registry ≡ 0 = none_taken Registry ys free in
    omega (arith, sum, none)

calm_attending : (es ys : List Entry) (w v : World) → Over SameReader w.ends v.ends → first_unread (es ++ ys) Registry ≡ first_unread es Registry → Attending es w → Attending (es ++ ys) v
calm_attending es ys w v o same i live k r e h there who role on n x =
    let y = o.back k e there in
    let g = y.2.same h role in
    attends_same es ys r g.0 h y.0.down e.down n same g.2 g.3 g.4 g.5 (i (lived es ys live) k r y.0 g.0 y.1 (sym y.2.whose ∙ who) g.1 (y.2.on on) n) x

joined_attending : (es ys : List Entry) (w v : World) (nu : End) → v.ends ≡ w.ends ++ nu ∷ [] → ((h : Hearer) → nu.role ≡ a_reader h → (n : ℕ) → IsWell h.asked n → ⊥) → first_unread (es ++ ys) Registry ≡ first_unread es Registry → Attending es w → Attending (es ++ ys) v
joined_attending es ys w v nu is none same i live k r e h there who role on n x = by (joined_cases w.ends nu k e (ap (λ l. end_at l k) (sym is) ∙ there))
  where
    by : (end_at w.ends k ≡ Some e) ⊎ ((k ≡ length w.ends) × (e ≡ nu)) → Attends (es ++ ys) r h e.down n x
    by (inl g) = attends_same es ys r h h e.down e.down n same refl refl refl refl (i (lived es ys live) k r e h g who role on n) x
    by (inr g) = absurd (none h (ap (λ (z : End). z.role) (sym g.1) ∙ role) n x)

abbrev is_back : Fate → Bool
is_back returned = true
is_back f = false

abbrev is_reader_role : Role → Bool
is_reader_role (a_reader h) = true
is_reader_role role = false

no_reader_first : (quota k : ℕ) (e : End) (h : Hearer) → end_at (first_world quota).ends k ≡ Some e → e.role ≡ a_reader h → ⊥
no_reader_first quota zero e h there role = false_true (ap is_reader_role (ap (λ (x : End). x.role) (same_some first_registry e there) ∙ role))
no_reader_first quota (suc k) e h there role = no_none e there

first_attending : (es : List Entry) (quota : ℕ) → Attending es (first_world quota)
first_attending es quota live k r e h there who role on n x = absurd (no_reader_first quota k e h there role)

-- a reply goes to a call that was sent
reply_sent : (es : List Entry) (r n : ℕ) (l : Letter) → length (greeted es) ≤ 1000 → IsMail es (Reader r) l → IsReply l n → (first : Envelope) × (message es (Reader r) n ≡ Some first)
reply_sent es r n l few (inl b) reply = absurd (false_true (ap (λ p. same_party p Registry) (sym b.from ∙ reply.0)))
reply_sent es r n l few (inr p) reply = by answer.called.known
  where
    is_it : l.said.message ≡ record p.first.message { sender = Some p.caller }
    is_it = ap (λ (z : Said). z.message) p.alike

    answer : IsAnswer es l.from p.first
    answer = p.speech.answers (ap is_reply (sym is_it) ∙ ap (λ k. k == 2 || k == 3) reply.1)

    goes : l.said.message.destination ≡ Some answer.called.caller
    goes = ap (λ (m : Envelope). m.destination) is_it ∙ answer.to

    serial : answer.call.serial ≡ n
    serial = same_some answer.call.serial n (sym answer.with_ ∙ ap (λ (m : Envelope). m.reply) (sym is_it) ∙ reply.2)

    by : (answer.called.caller ≡ own_name) ⊎ IsCallOf es answer.called.from answer.called.caller answer.call → (first : Envelope) × (message es (Reader r) n ≡ Some first)
    by (inl own) = absurd (false_true (sym p.not_bus ∙ for_bus_true l.said.message (goes ∙ ap Some own)))
    by (inr c) =
        let mine = p.routed answer.called.caller goes (unique_told es answer.called.from answer.called.caller c.name) in
        let who : answer.called.from ≡ Reader r = one_named es answer.called.from (Reader r) answer.called.caller few c.name mine in
        (c.first, ap₂ (message es) (sym who) (sym serial) ∙ c.was)

-- OVER WHAT IS KEPT of a reader's start
module _ (F : List Entry → World → Type 0) (starts : (es : List Entry) (w : World) → F es w → StartsReturn es w) (f_keep : Keeps (Shaped F)) where
  abbrev pub Under_attending : List Entry → World → Type 0
  Under_attending es w = And F (And (And Under_delivered Delivers) (And (And Under_refusing Refusing) (And (And Nothing AllOrdered) (And Nothing Spelled)))) es w

  pub under_attending_keep : Keeps (Shaped Under_attending)
  under_attending_keep =
      both_keep F (And (And Under_delivered Delivers) (And (And Under_refusing Refusing) (And (And Nothing AllOrdered) (And Nothing Spelled)))) f_keep
      (both_keep (And Under_delivered Delivers) (And (And Under_refusing Refusing) (And (And Nothing AllOrdered) (And Nothing Spelled))) delivers_keep
      (both_keep (And Under_refusing Refusing) (And (And Nothing AllOrdered) (And Nothing Spelled)) refusing_keeps (both_keep (And Nothing AllOrdered) (And Nothing Spelled) ordered_keep spelled_keep)))

  ruled_of : (es : List Entry) (w : World) → Under_attending es w → Ruled es w
  ruled_of es w u = u.1.0.0.1

  fated_of : (es : List Entry) (w : World) → Under_attending es w → Fated es w
  fated_of es w u = u.1.0.0.0.0.1

  rested_of : (es : List Entry) (w : World) → Under_attending es w → Rested w
  rested_of es w u = u.1.0.0.0.1.1.0.1

  turned_of : (es : List Entry) (w : World) → Under_attending es w → Turned es w
  turned_of es w u = u.1.0.0.0.1.1.1.1

  numbers_of : (es : List Entry) (w : World) → Under_attending es w → Numbered es w
  numbers_of es w u = u.1.1.0.0.0.0.1.0.0.0.0.1

  module _ (es : List Entry) (w : World) (d : Done) (s : Shape w) (u : Under_attending es w) (i : Attending es w) where
    abbrev v : Below es w
    v = below es w u.1.1.0.0

    -- one that asked so has its rules
    rules_there : Lives es → (k r : ℕ) (e : End) (h : Hearer) → end_at w.ends k ≡ Some e → e.who ≡ Reader r → e.role ≡ a_reader h → e.standing ≡ here → (n : ℕ) → IsWell h.asked n → Has k cache_rule w.bus.state.rules × Has k event_rule w.bus.state.rules
    rules_there live k r e h there who role on n x =
        let a : AreReturned start_calls h.asked = starts es w u.0 live k r e h there who role on (begins_well h.asked n x) in
        let o = u.1.1.1.0.1 k e h there role in
        both_there k w.bus.state.rules h.asked (ruled_of es w u live k r e h there who role on).kept (cache_back h.asked n x o a) (rule_back h.asked n x o a)

    took_attending : BusTakes w d → Attending (es ++ d.entries) d.world
    took_attending b live k r e h there who role on n x =
        let y = before es w d s v (rested_of es w u) b k e there in
        let live_ : Lives es = lived es d.entries live in
        let was_who : y.0.who ≡ Reader r = sym y.2.whose ∙ who in
        let was_role : y.0.role ≡ a_reader h = sym y.2.role ∙ role in
        subst (λ zs. Attends (es ++ zs) r h e.down n x) (sym (wrote es w d s v (rested_of es w u) b))
        (took_attends es w d s v (rested_of es w u) b k r n e h there on x (rules_there live_ k r y.0 h y.1 was_who was_role (y.2.on on) n x) (i live_ k r y.0 h y.1 was_who was_role (y.2.on on) n x))

    ended_attending : BusEnds w d → Attending (es ++ d.entries) d.world
    ended_attending b live k r e h there who role on n x =
        let c = carrying.takes_end (record { bus = w.bus; ends = w.ends }) b.conn in
        let y = before_end es w d b k e there in
        ended_attends es w d b (same_unread es d.entries (subst (λ z. AllByRecursion NotTaken z.entries) (sym b.is) (bus_free c.ends c.bus.own c.bus.closings))) k r n e h there on x
        (i (lived es d.entries live) k r y.0 h y.1 (sym y.2.whose ∙ who) (sym y.2.role ∙ role) (y.2.on on) n x)

    read_attending : ReaderTakes w d → Attending (es ++ d.entries) d.world
    read_attending b live k r e h there who role on n x = by (changed k e there)
      where
        vv : World
        vv = received w b.conn b.e b.letter

        live_ : Lives es
        live_ = lived es d.entries live

        f : End → End
        f = λ y. record y { role = a_reader (hears_letter b.hearer vv.ends b.letter) }

        changed : ChangedAt w d.world b.conn (f (taken_down b.e))
        changed = changed_both w d.world b.conn b.e f b.is_here.there (ap (λ y. y.world.ends) b.is)

        unread : first_unread (es ++ d.entries) Registry ≡ first_unread es Registry
        unread =
            same_unread es d.entries
            (subst (λ y. AllByRecursion NotTaken y.entries) (sym b.is)
            (got_free b.e.who b.letter.from b.letter.said.message.serial (no_bus w b.conn b.e s b.is_here.there), all_map (Act (λ p. ⊥)) NotTaken (heard_entries (number_of b.e.who) b.hearer vv.ends b.letter) word_free (heard_act (λ p. ⊥) (number_of b.e.who) b.hearer vv.ends b.letter b.letter.from refl)))

        by : ((k ≡ b.conn) × (e ≡ f (taken_down b.e))) ⊎ ((k ≡ b.conn → ⊥) × (end_at w.ends k ≡ Some e)) → Attends (es ++ d.entries) r h e.down n x
        by (inr y) = attends_same es d.entries r h h e.down e.down n unread refl refl refl refl (i live_ k r e h y.1 who role on n) x
        by (inl y) = subst (λ (z : Hearer). (q : IsWell z.asked n) → Attends (es ++ d.entries) r z e.down n q) is (λ q. subst (λ ls. Attends (es ++ d.entries) r g ls n q) (sym link) (now q)) x
          where
            g : Hearer
            g = hears_letter b.hearer vv.ends b.letter

            is : g ≡ h
            is = same_hearer g h (ap (λ (z : End). z.role) (sym y.1) ∙ role)

            link : e.down ≡ b.rest
            link = ap (λ (z : End). z.down) y.1 ∙ ap rest_of b.link

            its_who : b.e.who ≡ Reader r
            its_who = ap (λ (z : End). z.who) (sym y.1) ∙ who

            its_turns : Turns es (Reader r) (b.letter ∷ b.rest)
            its_turns = subst (λ p. Turns es p (b.letter ∷ b.rest)) its_who (subst (Turns es b.e.who) b.link ((turned_of es w u).2 b.conn b.e b.is_here.there))

            old : (q : IsWell b.hearer.asked n) → Attends es r b.hearer (b.letter ∷ b.rest) n q
            old q = subst (λ ls. Attends es r b.hearer ls n q) b.link (i live_ b.conn r b.e b.hearer b.is_here.there its_who b.role b.is_here.standing n q)

            now : (q : IsWell g.asked n) → Attends (es ++ d.entries) r g b.rest n q
            now q =
                attends_taken es d.entries r b.hearer vv.ends b.letter b.rest n v.linked.0 (subst (λ p. IsMail es p b.letter) its_who (subst (AllByRecursion (IsMail es b.e.who)) b.link (v.mail.downs b.conn b.e b.is_here.there b.is_here.standing)).0)
                (comes_of (v.known b.conn b.e b.is_here.there).1) its_turns
                (fated_of es w u live_ b.conn r b.e b.hearer b.is_here.there its_who b.role) unread old
                (λ z. returns_children es w d v.few v.mail (fated_of es w u) (ruled_of es w u) v.rightly u.1.1.1.1.1 live_ b z) q
              where
                comes_of : AllByRecursion (told.Comes es) b.e.down → told.Comes es b.letter
                comes_of a = (subst (AllByRecursion (told.Comes es)) b.link a).0

  attending_kept : (es : List Entry) (w : World) (d : Done) → Shape w → Under_attending es w → Attending es w → Resting w d → Attending (es ++ d.entries) d.world
  attending_kept es w d s u i (calms c) = calm_attending es d.entries w d.world c.ends (same_unread es d.entries c.free) i
  attending_kept es w d s u i (joins nu is new free) = joined_attending es d.entries w d.world nu is new (same_unread es d.entries free) i
  attending_kept es w d s u i (takes_ b) = took_attending es w d s u i b
  attending_kept es w d s u i (ends_ b) = ended_attending es w d s u i b
  attending_kept es w d s u i (reads_ b) = read_attending es w d s u i b
  attending_kept es w d s u i (begins_ quota is) = subst (λ x. Attending (es ++ x.entries) x.world) (sym is) (first_attending (es ++ []) quota)

  asked_attending : (es : List Entry) (w : World) (conn r : ℕ) (m : Envelope) (question : Question) → Shape w → Under_attending es w → Attending es w → Asks w conn r m question → Attending (es ++ sent (Reader r) m ∷ []) (at_end w conn (asks_at m question))
  asked_attending es w conn r m question s u i a live k q e h there who role on n x = by (asked_cases w conn r m question a k e there)
    where
      ys : List Entry
      ys = sent (Reader r) m ∷ []

      live_ : Lives es
      live_ = lived es ys live

      unread : first_unread (es ++ ys) Registry ≡ first_unread es Registry
      unread = same_unread es ys (tt, tt)

      v : Below es w
      v = below es w u.1.1.0.0

      by : (end_at w.ends k ≡ Some e) ⊎ (e ≡ reader_sends (asks question a.hearer) m a.asker) → Attends (es ++ ys) q h e.down n x
      by (inl g) = attends_same es ys q h h e.down e.down n unread refl refl refl refl (i live_ k q e h g who role on n) x
      by (inr same) =
          subst (λ ls. Attends (es ++ ys) q h ls n x) (sym (ap (λ (z : End). z.down) same))
          (subst (λ (z : Hearer). (y : IsWell z.asked n) → Attends (es ++ ys) q z a.asker.down n y) is (λ y. pick y (well_last a.hearer.asked new n y)) x)
        where
          new : Asked
          new = record { serial = a.hearer.next; question = question; fate = waits }

          is : asks question a.hearer ≡ h
          is = same_hearer (asks question a.hearer) h (ap (λ (z : End). z.role) (sym same) ∙ role)

          its_who : a.asker.who ≡ Reader q
          its_who = ap (λ (z : End). z.who) (sym same) ∙ who

          at_most : (x y : ℕ) → x ≡ y → x ≤ y
          at_most x y z = omega (arith, z)

          no_reply : (l : Letter) → On l a.asker.down → a.hearer.next ≡ n → IsReply l n → ⊥
          no_reply l at next reply =
              let mail : IsMail es (Reader q) l = subst (λ p. IsMail es p l) its_who (all_on (IsMail es a.asker.who) a.asker.down (v.mail.downs conn a.asker a.is_here.there a.is_here.standing) l at) in
              let y = reply_sent es q n l v.few mail reply in
              no_none y.0 (sym (not_sent_at es w conn a.asker (Reader q) a.hearer.next s (numbers_of es w u) a.is_here.there its_who (ap next_of a.reader) n (at_most a.hearer.next n next)) ∙ y.1)

          waits_not : (one : Asked) → new ≡ one → one.fate ≡ returned → ⊥
          waits_not one it back = false_true (ap is_back (ap (λ (z : Asked). z.fate) it ∙ back))

          pick : (y : IsWell (a.hearer.asked ++ new ∷ []) n) → ((z : IsWell a.hearer.asked n) × (z.one ≡ y.one)) ⊎ (new ≡ y.one) → Attends (es ++ ys) q (asks question a.hearer) a.asker.down n y
          pick y (inl z) = attends_more es ys q a.hearer (asks question a.hearer) a.asker.down n unread refl refl y z.0 z.1 (i live_ conn q a.asker a.hearer a.is_here.there its_who a.reader a.is_here.standing n z.0)
          pick y (inr it) = record {
            heard = λ back. absurd (waits_not y.one it back);
            comes = λ l at reply. absurd (no_reply l at (ap (λ (z : Asked). z.serial) it ∙ y.serial) reply);
          }

  attending_grow : Grows Under_attending Attending
  attending_grow = record {
    begins = first_attending [] QUOTA_MOST;
    caused = λ es w d s u i e after b. attending_kept es w d s u i (resting w d s e);
    moved = λ es w v s u i m. subst (λ l. Attending l v) (append-nil es) (calm_attending es [] w v (moved_same w v m) (same_unread es [] tt) i);
    asked = λ es w conn r m question s u i a. asked_attending es w conn r m question s u i a;
  }

  pub attending_keep : Keeps (Shaped (And Under_attending Attending))
  attending_keep = grown Under_attending Attending under_attending_keep attending_grow
