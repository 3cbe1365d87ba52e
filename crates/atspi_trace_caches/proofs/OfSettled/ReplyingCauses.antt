-- A call that waits is in one of its places behind each cause.
use Rattle.std.proofs.Common.{◌≡◌, ◌⊎◌, inl, inr, ℕ, zero, suc, ◌+◌, ◌<◌, ◌^◌, true, List, [], ◌∷◌, ◌++◌, map, None, Some, refl, sym, ap, ◌∙◌, subst, is_some}
use Rattle.std.proofs.lemmas.List.{append-nil}
use Rattle.atspi_script_lines.specs.declared.line.Party.TheVariants.{App}
use Rattle.atspi_message.specs.Envelope.{Envelope}
use Rattle.atspi_match.specs.routing.BusState.{BusState, unique_of}
use Rattle.atspi_match.specs.routing.Queues.{Waiting, is_due}
use Rattle.atspi_match.specs.routing.Routing.{expects_reply, is_reply}
use Rattle.atspi_match.specs.routing.Steps.{is_hello}
use Rattle.atspi_protocol.specs.declared.following.question.Question.{Question}
use Rattle.atspi_protocol.specs.declared.following.question.Question.TheVariants.{Hello}
use Rattle.atspi_protocol.specs.following.Calls.{user_call}
use Rattle.atspi_protocol.specs.registering.Steps.{registry_takes}
use Rattle.atspi_protocol.specs.exporting.Exporter.{Exporter, begins}
use Rattle.atspi_protocol.specs.exporting.Exporter as exporting
use Rattle.atspi_protocol.specs.exporting.Starting.{starts}
use Rattle.atspi_protocol.specs.exporting.Taking.{app_takes}
use Rattle.atspi_trace.specs.Entry.{Entry}
use Rattle.atspi_trace.specs.World.{here, waits, Asked, Role, the_registry, an_application, a_reader, Hearer, Said, Letter, first_registry, first_world, End, World}
use Rattle.atspi_trace.specs.Ends.{is_reader, end_at, plain, rest_of, taken_down, stops}
use Rattle.atspi_trace.specs.Hearing.{hears_letter}
use Rattle.atspi_trace.specs.Carrying.{Carried, takes, takes_end}
use Rattle.atspi_trace.specs.Causes.{Done, at_end, saids, has_done, asks, reader_sends, registry_did}
use Rattle.atspi_trace.specs.Due.{asks_as, asks_at}
use Rattle.atspi_trace_laws.proofs.OfOrder.Parties.{no_none, same_some, false_true}
use Rattle.atspi_trace_laws.proofs.OfOrder.Allowed.{MovedUp, MovedDown, Asks}
use Rattle.atspi_trace_laws.proofs.OfOrder.Effects.{received, AppEdits, AppTakes, ReaderCalls, ReaderTakes, RegistryTakes, Stopping, BusTakes, BusEnds, Effect, resets, app_joins, reader_joins, app_edited, app_took, reader_called, swapped, exited_, showed_, told_busy, told_quiet, bus_took, bus_ended, registry_took, reader_took}
use Rattle.atspi_trace_laws.proofs.OfOrder.Shaped.{new_app, new_reader, app_joined}
use Rattle.atspi_trace_laws.proofs.OfQuiet.Here.{Greeted, SaysHello}
use Rattle.atspi_trace_laws.proofs.OfOrder.Frame.{Over, over_same}
use Rattle.atspi_trace_laws.proofs.OfMissed.Arriving.{Goes_on, took_goes, ended_goes}
use Rattle.atspi_trace_laws.proofs.OfMissed.Resting.{Rested, due_joined}
use Rattle.atspi_trace_laws.proofs.OfMissed.Settling.{takes_settle, ends_settle}
use Rattle.atspi_trace_caches.proofs.OfSettled.Replying.{Has, has_back, has_map, WaitsIn, PhaseWaits, IsAsked, IsCall, IsCalled, IsReplying, IsAnswer, IsReplied, IsOpen, Placed, carried, AllPlaced, Keeps_links, keeping, Still, open_still}
use Rattle.atspi_trace_caches.proofs.OfSettled.ReplyingBus.{AllIn}
use Rattle.atspi_trace_caches.proofs.OfSettled.ReplyingCarried.{CalleesAre, took_placed, ended_placed}
use Rattle.atspi_trace_caches.proofs.OfSettled.ReplyingNamed.{Owns}
use Rattle.atspi_trace_caches.proofs.OfSettled.ReplyingActs.{Act, ActsIn, acts_placed, stops_placed, acts_in, acts_both, joins_placed}
use Rattle.atspi_trace_caches.proofs.OfSettled.ReplyingEnds.{SendsOne, one_said, app_answers, registry_answers, plain_has, IsAnswerTo, IsCalling, asks_waits, takes_waits, edit_phase, hears_waits, own_spelled}

-- WHO TAKES A CALL KNOWS ITS NAME
abbrev pub KnowsName : Role → Type 0
KnowsName (an_application s) = is_some s.name ≡ true
KnowsName (the_registry s) = is_some s.own ≡ true
KnowsName (a_reader h) = Unit {0}

abbrev pub Ready : World → Type 0
Ready w = (k : ℕ) (e : End) (letter : Letter) (rest : List Letter) → end_at w.ends k ≡ Some e → e.standing ≡ here → e.down ≡ letter ∷ rest → expects_reply letter.said.message ≡ true → KnowsName e.role

-- who it is that acts
said_call : (n : ℕ) (to : List ℕ) (xs : List Said) → Has (λ (said : Said). IsCalling n to said.message) xs → Has (IsCall n to) xs
said_call n to xs h = has_map (λ (said : Said). IsCalling n to said.message) (IsCall n to) xs (λ said c. record { serial = c.serial; expects = c.expects; goes = c.goes }) h

said_answer : (name : List ℕ) (n : ℕ) (xs : List Said) → Has (λ (said : Said). (is_reply said.message ≡ true) × IsAnswerTo name n said.message) xs → Has (IsAnswer n name) xs
said_answer name n xs h =
    has_map (λ (said : Said). (is_reply said.message ≡ true) × IsAnswerTo name n said.message) (IsAnswer n name) xs (λ said p. record { replies = record { reply = p.0; with_ = p.1.1 }; goes = p.1.0 }) h

-- a letter is the first of a link
taken_is : (e : End) (letter : Letter) (rest : List Letter) → e.down ≡ letter ∷ rest → e.down ≡ (letter ∷ []) ++ rest_of e.down
taken_is e letter rest link = link ∙ ap (λ l. letter ∷ l) (sym (ap rest_of link))

one_of : {X : Type 0} (P : X → Type 0) (x : X) → Has P (x ∷ []) → P x
one_of P x (inl p) = p
one_of P x (inr h) = absurd h

module _ (w : World) (d : Done) (empty : (k a : ℕ) (e : End) (s : Exporter) → end_at w.ends k ≡ Some e → e.who ≡ App a → e.role ≡ an_application s → s.out ≡ []) (ready : Ready w) (i : AllPlaced w) where
  edits_placed : AppEdits w d → AllPlaced d.world
  edits_placed b =
      acts_placed w d.world b.conn b.e (has_done b.before b.after b.e)
      (acts_in w d.world b.conn b.e (has_done b.before b.after) b.is_here.there (ap (λ x. x.world.ends) b.is) (ap (λ x. x.world.bus.state) b.is) (ap (λ x. x.world.bus.waiting.due) b.is))
      (record {
        whose = refl;
        standing = refl;
        unique = λ name h. h;
        up = (saids b.before b.before.tree None b.after.out, refl);
        took = [];
        down = refl;
        answers = λ n name able h. absurd h;
        waits = λ n to h. inl (subst (λ r. WaitsIn r n to) (sym b.role) (subst (λ p. PhaseWaits p n to) (edit_phase b.before b.after b.edit b.done) h), λ g. g);
      }) i

  takes_placed : AppTakes w d → AllPlaced d.world
  takes_placed b =
      acts_placed w d.world b.conn b.e z
      (acts_both w d.world b.conn b.e taken_down (has_done b.before after) b.is_here.there (ap (λ x. x.world.ends) b.is) (ap (λ x. x.world.bus.state) b.is) (ap (λ x. x.world.bus.waiting.due) b.is))
      (record {
        whose = refl;
        standing = refl;
        unique = λ name h. h;
        up = (said, refl);
        took = b.letter ∷ [];
        down = taken_is b.e b.letter b.rest b.link;
        answers = λ n name able h. answers n name (one_of (IsCalled n name) b.letter h);
        waits = λ n to h. waiting n to (takes_waits b.before m n to h);
      }) i
    where
      m : Envelope
      m = b.letter.said.message

      after : Exporter
      after = app_takes b.before b.letter.said.message

      said : List Said
      said = saids b.before b.before.tree None (app_takes b.before b.letter.said.message).out

      z : End
      z = has_done b.before (app_takes b.before b.letter.said.message) (taken_down b.e)

      none : b.before.out ≡ []
      none = empty b.conn b.app b.e b.before b.is_here.there b.whose b.role

      answers : (n : ℕ) (name : List ℕ) → IsCalled n name b.letter → Has (IsAnswer n name) (b.e.up ++ saids b.before b.before.tree None (app_takes b.before b.letter.said.message).out)
      answers n name c =
          has_back (IsAnswer n name) b.e.up (saids b.before b.before.tree None (app_takes b.before b.letter.said.message).out)
          (said_answer name n (saids b.before b.before.tree None (app_takes b.before b.letter.said.message).out)
          (one_said (λ x. (is_reply x ≡ true) × IsAnswerTo name n x) b.before b.before.tree None (app_takes b.before b.letter.said.message).out
          (subst (λ j. SendsOne (λ x. (is_reply x ≡ true) × IsAnswerTo name j x) (app_takes b.before b.letter.said.message).out) c.serial
          (app_answers b.before b.letter.said.message name none (subst KnowsName b.role (ready b.conn b.e b.letter b.rest b.is_here.there b.is_here.standing b.link c.expects)) c.expects c.sender))))

      waiting : (n : ℕ) (to : List ℕ) → (PhaseWaits b.before.phase n to × (IsReplying n b.letter.said.message → ⊥)) ⊎ SendsOne (IsCalling n to) (app_takes b.before b.letter.said.message).out
          → (WaitsIn b.e.role n to × (Has (IsReplied n) (b.letter ∷ []) → ⊥)) ⊎ Has (IsCall n to) (b.e.up ++ saids b.before b.before.tree None (app_takes b.before b.letter.said.message).out)
      waiting n to (inl h) = inl (subst (λ r. WaitsIn r n to) (sym b.role) h.0, λ g. h.1 (one_of (IsReplied n) b.letter g))
      waiting n to (inr h) =
          inr (has_back (IsCall n to) b.e.up (saids b.before b.before.tree None (app_takes b.before b.letter.said.message).out)
          (said_call n to (saids b.before b.before.tree None (app_takes b.before b.letter.said.message).out) (one_said (IsCalling n to) b.before b.before.tree None (app_takes b.before b.letter.said.message).out h)))

  calls_placed : ReaderCalls w d → AllPlaced d.world
  calls_placed b =
      let m : Envelope = user_call b.hearer.next b.name b.node b.deed in
      let g : Hearer = record b.hearer { next = suc b.hearer.next } in
      acts_placed w d.world b.conn b.e (reader_sends g m b.e)
      (acts_in w d.world b.conn b.e (reader_sends g m) b.is_here.there (ap (λ x. x.world.ends) b.is) (ap (λ x. x.world.bus.state) b.is) (ap (λ x. x.world.bus.waiting.due) b.is))
      (record {
        whose = refl;
        standing = refl;
        unique = λ name h. h;
        up = (plain m ∷ [], refl);
        took = [];
        down = refl;
        answers = λ n name able h. absurd h;
        waits = λ n to h. inl (subst (λ r. WaitsIn r n to) (sym b.role) h, λ q. q);
      }) i

  registry_placed : RegistryTakes w d → AllPlaced d.world
  registry_placed b =
      acts_placed w d.world b.conn b.e (registry_did (registry_takes b.before b.letter.said.message) (taken_down b.e))
      (acts_both w d.world b.conn b.e taken_down (registry_did (registry_takes b.before b.letter.said.message)) b.is_here.there (ap (λ x. x.world.ends) b.is) (ap (λ x. x.world.bus.state) b.is) (ap (λ x. x.world.bus.waiting.due) b.is))
      (record {
        whose = refl;
        standing = refl;
        unique = λ name h. h;
        up = (map plain (registry_takes b.before b.letter.said.message).sent, refl);
        took = b.letter ∷ [];
        down = taken_is b.e b.letter b.rest b.link;
        answers = λ n name able h. answers n name (one_of (IsCalled n name) b.letter h);
        waits = λ n to h. absurd h;
      }) i
    where
      answers : (n : ℕ) (name : List ℕ) → IsCalled n name b.letter → Has (IsAnswer n name) (b.e.up ++ map plain (registry_takes b.before b.letter.said.message).sent)
      answers n name c =
          has_back (IsAnswer n name) b.e.up (map plain (registry_takes b.before b.letter.said.message).sent)
          (said_answer name n (map plain (registry_takes b.before b.letter.said.message).sent)
          (plain_has (λ x. (is_reply x ≡ true) × IsAnswerTo name n x) (registry_takes b.before b.letter.said.message).sent
          (subst (λ j. Has (λ x. (is_reply x ≡ true) × IsAnswerTo name j x) (registry_takes b.before b.letter.said.message).sent) c.serial
          (registry_answers b.before b.letter.said.message name (subst KnowsName b.role (ready b.conn b.e b.letter b.rest b.is_here.there b.is_here.standing b.link c.expects)) c.expects c.sender))))

  reader_placed : ReaderTakes w d → AllPlaced d.world
  reader_placed b =
      let v : World = received w b.conn b.e b.letter in
      let f : End → End = λ x. record x { role = a_reader (hears_letter b.hearer v.ends b.letter) } in
      acts_placed w d.world b.conn b.e (f (taken_down b.e))
      (acts_both w d.world b.conn b.e taken_down f b.is_here.there (ap (λ x. x.world.ends) b.is) (ap (λ x. x.world.bus.state) b.is) (ap (λ x. x.world.bus.waiting.due) b.is))
      (record {
        whose = refl;
        standing = refl;
        unique = λ name h. h;
        up = ([], sym (append-nil b.e.up));
        took = b.letter ∷ [];
        down = taken_is b.e b.letter b.rest b.link;
        answers = λ n name able h. absurd (false_true (sym able ∙ ap is_reader b.whose));
        waits = λ n to h. let x = hears_waits n to b.letter.said.message b.hearer.asked h in inl (subst (λ r. WaitsIn r n to) (sym b.role) x.0, λ g. x.1 (one_of (IsReplied n) b.letter g));
      }) i

  stopping_placed : Stopping w d → AllPlaced d.world
  stopping_placed b =
      stops_placed w d.world b.conn b.e (stops b.e)
      (acts_in w d.world b.conn b.e stops b.is_here.there (ap (λ x. x.world.ends) b.is) (ap (λ x. x.world.bus.state) b.is) (ap (λ x. x.world.bus.waiting.due) b.is)) refl i

-- who joins says Hello
app_joined_placed : (w : World) (d : Done) (name : List ℕ) → d.world.ends ≡ w.ends ++ new_app w name ∷ [] → d.world.bus.state.calls ≡ w.bus.state.calls → d.world.bus.state.owners ≡ w.bus.state.owners → d.world.bus.waiting.due ≡ w.bus.waiting.due
    → AllPlaced w → AllPlaced d.world
app_joined_placed w d name is calls owners due i =
    joins_placed w d.world (new_app w name) is calls owners due
    (λ n to h. said_call n to (new_app w name).up (one_said (IsCalling n to) (begins name) (begins name).tree None (starts (begins name)).out (asks_waits (begins name) exporting.hello n to h))) i

reader_joined_placed : (w : World) (d : Done) → d.world.ends ≡ w.ends ++ new_reader w ∷ [] → d.world.bus.state.calls ≡ w.bus.state.calls → d.world.bus.state.owners ≡ w.bus.state.owners → d.world.bus.waiting.due ≡ w.bus.waiting.due
    → AllPlaced w → AllPlaced d.world
reader_joined_placed w d is calls owners due i = joins_placed w d.world (new_reader w) is calls owners due up i
  where
    up : (n : ℕ) (to : List ℕ) → WaitsIn (new_reader w).role n to → Has (IsCall n to) (new_reader w).up
    up n to (inl h) = inl (record { serial = h.1; expects = (own_spelled Hello 1).0; goes = (own_spelled Hello 1).1 ∙ ap Some h.2 })
    up n to (inr h) = absurd h

-- nothing is in the world but bytes that moved, or what it does not tell
same_placed : (w v : World) → v.ends ≡ w.ends → v.bus ≡ w.bus → AllPlaced w → AllPlaced v
same_placed w v ends bus i k n to x there on waiting = subst (λ (c : Carried). Placed c k x n to) (sym both) (i k n to x (ap (λ l. end_at l k) (sym ends) ∙ there) on waiting)
  where
    both : carried v ≡ carried w
    both = λ j. record { bus = bus j; ends = ends j }

-- an own call
asked_has : (n : ℕ) (to : List ℕ) (xs : List Asked) (a : Asked) → Has (IsAsked n to) (xs ++ a ∷ []) → Has (IsAsked n to) xs ⊎ IsAsked n to a
asked_has n to [] a (inl h) = inr h
asked_has n to [] a (inr h) = absurd h
asked_has n to (x ∷ xs) a (inl h) = inl (inl h)
asked_has n to (x ∷ xs) a (inr h) = by (asked_has n to xs a h)
  where
    by : Has (IsAsked n to) xs ⊎ IsAsked n to a → (IsAsked n to x ⊎ Has (IsAsked n to) xs) ⊎ IsAsked n to a
    by (inl g) = inl (inr g)
    by (inr g) = inr g

pub asked_placed : (w : World) (conn r : ℕ) (m : Envelope) (question : Question) → Asks w conn r m question → AllPlaced w → AllPlaced (at_end w conn (asks_at m question))
asked_placed w conn r m question a i =
    acts_placed w (at_end w conn (asks_at m question)) conn a.asker z
    (subst (ActsIn w (at_end w conn (asks_at m question)) conn a.asker) is (acts_in w (at_end w conn (asks_at m question)) conn a.asker (asks_at m question) a.is_here.there refl refl refl))
    (record {
      whose = refl;
      standing = refl;
      unique = λ name h. h;
      up = (plain m ∷ [], refl);
      took = [];
      down = refl;
      answers = λ n name able h. absurd h;
      waits = λ n to h. waiting n to (asked_has n to a.hearer.asked (record { serial = a.hearer.next; question = question; fate = waits }) h);
    }) i
  where
    z : End
    z = reader_sends (asks question a.hearer) m a.asker

    is : asks_at m question a.asker ≡ reader_sends (asks question a.hearer) m a.asker
    is = ap (λ role. asks_as role m question a.asker) a.reader

    waiting : (n : ℕ) (to : List ℕ) → Has (IsAsked n to) a.hearer.asked ⊎ IsAsked n to (record { serial = a.hearer.next; question = question; fate = waits })
        → (WaitsIn a.asker.role n to × (Has (IsReplied n) [] → ⊥)) ⊎ Has (IsCall n to) (a.asker.up ++ plain m ∷ [])
    waiting n to (inl h) = inl (subst (λ role. WaitsIn role n to) (sym a.reader) h, λ q. q)
    waiting n to (inr h) =
        inr (has_back (IsCall n to) a.asker.up (plain m ∷ [])
        (inl (subst (λ e. IsCall n to (plain e)) (sym a.spelled)
        (record { serial = h.1; expects = (own_spelled question a.hearer.next).0; goes = (own_spelled question a.hearer.next).1 ∙ ap Some h.2 }))))

-- THE BUS TAKES A MESSAGE, or an end: what an end waits for is as before
told_placed : (c : Carried) (v : World) (k n : ℕ) (to : List ℕ) (x : End) → v.ends ≡ c.ends → v.bus.state ≡ c.bus.state → v.bus.waiting ≡ c.bus.waiting → Placed c k x n to → Placed (carried v) k x n to
told_placed c v k n to x ends state waiting p = by p
  where
    still : Still c (carried v) k n
    still = record {
      ends = subst (Over Keeps_links c.ends) (sym ends) (over_same Keeps_links keeping c.ends);
      calls = λ callee h. subst (λ (s : BusState). Has (IsOpen k n callee) s.calls) (sym state) h;
      names = λ y name h. ap (λ (s : BusState). unique_of s.owners y) state ∙ h;
      due = λ y h. ap (λ (q : Waiting). is_due y q.due) waiting ∙ h;
    }

    by : Placed c k x n to → Placed (carried v) k x n to
    by (inl h) = inl h
    by (inr (inl h)) = inr (inl h)
    by (inr (inr o)) = inr (inr (open_still c (carried v) k n to still o))

pub first_said : (said : Said) (rest : List Said) (xs : List Said) → xs ≡ said ∷ rest → (other : Said) (more : List Said) → xs ≡ other ∷ more → other ≡ said
first_said said rest xs h other more g = ap (front said) (sym g ∙ h)
  where
    front : Said → List Said → Said
    front z [] = z
    front z (x ∷ xs) = x

pub took_caused : (es : List Entry) (w : World) (d : Done) → Greeted w → Rested w → Owns (carried w) → CalleesAre (carried w) → w.bus.state.owners.given < 2 ^ 32 → BusTakes w d → AllPlaced w → AllPlaced d.world
took_caused es w d greeted rests owns callees small b i k n to x there on waiting =
    told_placed (takes (carried w) b.conn b.e.who b.said) d.world k n to x (ap (λ y. y.world.ends) b.is) (ap (λ y. y.world.bus.state) b.is) (ap (λ y. y.world.bus.waiting) b.is)
    (took_placed (carried w) b.conn b.e.who b.said b.rest b.e b.is_here.there b.link owns.owned small greeting callees k n to
    (takes_settle (carried w) b.conn b.e.who b.said (rests.joined b.conn b.e b.is_here.there b.is_here.standing) (due_joined w rests)).1 before x now on)
  where
    now : end_at (takes (carried w) b.conn b.e.who b.said).ends k ≡ Some x
    now = ap (λ y. end_at y.world.ends k) (sym b.is) ∙ there

    was : (e : End) × (end_at w.ends k ≡ Some e) × Goes_on e x
    was = (took_goes (carried w) b.conn b.e.who b.said).back k x now

    before : AllIn (carried w) k n to
    before e at here_ = i k n to e at here_ (subst (λ r. WaitsIn r n to) (was.2.role ∙ ap (λ (y : End). y.role) (same_some was.0 e (sym was.1 ∙ at))) waiting)

    greeting : unique_of w.bus.state.owners b.conn ≡ None → is_hello b.said.message ≡ true
    greeting none =
        let h : SaysHello b.e = greeted.hello b.conn b.e b.is_here.there b.is_here.standing none in
        ap (λ (s : Said). is_hello s.message) (sym (first_said b.said b.rest b.e.up b.link h.0 h.1 h.2)) ∙ h.3

pub ended_caused : (w : World) (d : Done) → Rested w → Owns (carried w) → BusEnds w d → AllPlaced w → AllPlaced d.world
ended_caused w d rests owns b i k n to x there on waiting =
    told_placed (takes_end (carried w) b.conn) d.world k n to x (ap (λ y. y.world.ends) b.is) (ap (λ y. y.world.bus.state) b.is) (ap (λ y. y.world.bus.waiting) b.is)
    (ended_placed (carried w) b.conn k n to owns.owned (ends_settle (carried w) b.conn (due_joined w rests)).1 before x now on)
  where
    now : end_at (takes_end (carried w) b.conn).ends k ≡ Some x
    now = ap (λ y. end_at y.world.ends k) (sym b.is) ∙ there

    was : (e : End) × (end_at w.ends k ≡ Some e) × Goes_on e x
    was = (ended_goes (carried w) b.conn).back k x now

    before : AllIn (carried w) k n to
    before e at here_ = i k n to e at here_ (subst (λ r. WaitsIn r n to) (was.2.role ∙ ap (λ (y : End). y.role) (same_some was.0 e (sym was.1 ∙ at))) waiting)

-- AT THE BEGINNING nobody waits
pub first_placed : (quota : ℕ) → AllPlaced (first_world quota)
first_placed quota zero n to e there on waiting = absurd (subst (λ (x : End). WaitsIn x.role n to) (sym (same_some first_registry e there)) waiting)
first_placed quota (suc k) n to e there on waiting = absurd (no_none e there)

-- WHAT IS KNOWN of a world where a cause is done
pub record Allows (w : World) : Type 0 where
  pub empty : (k a : ℕ) (e : End) (s : Exporter) → end_at w.ends k ≡ Some e → e.who ≡ App a → e.role ≡ an_application s → s.out ≡ []
  pub ready : Ready w
  pub greeted : Greeted w
  pub rests : Rested w
  pub owns : Owns (carried w)
  pub callees : CalleesAre (carried w)
  pub small : w.bus.state.owners.given < 2 ^ 32

pub caused_placed : (es : List Entry) (w : World) (d : Done) → Allows w → AllPlaced w → Effect w d → AllPlaced d.world
caused_placed es w d a i (resets quota old is) = subst (λ x. AllPlaced x.world) (sym is) (first_placed quota)
caused_placed es w d a i (app_joins name short is) =
    app_joined_placed w d name (ap (λ x. x.world.ends) is ∙ app_joined w name) (ap (λ x. x.world.bus.state.calls) is) (ap (λ x. x.world.bus.state.owners) is) (ap (λ x. x.world.bus.waiting.due) is) i
caused_placed es w d a i (reader_joins old is) =
    reader_joined_placed w d (ap (λ x. x.world.ends) is) (ap (λ x. x.world.bus.state.calls) is) (ap (λ x. x.world.bus.state.owners) is) (ap (λ x. x.world.bus.waiting.due) is) i
caused_placed es w d a i (app_edited b) = edits_placed w d a.empty a.ready i b
caused_placed es w d a i (app_took b) = takes_placed w d a.empty a.ready i b
caused_placed es w d a i (reader_called b) = calls_placed w d a.empty a.ready i b
caused_placed es w d a i (swapped b) = same_placed w d.world (ap (λ x. x.world.ends) b.is) (ap (λ x. x.world.bus) b.is) i
caused_placed es w d a i (exited_ b) = stopping_placed w d a.empty a.ready i b
caused_placed es w d a i (showed_ b) = same_placed w d.world (ap (λ x. x.world.ends) b.is) (ap (λ x. x.world.bus) b.is) i
caused_placed es w d a i (told_busy turns is) = same_placed w d.world (ap (λ x. x.world.ends) is) (ap (λ x. x.world.bus) is) i
caused_placed es w d a i (told_quiet none is) = same_placed w d.world (ap (λ x. x.world.ends) is) (ap (λ x. x.world.bus) is) i
caused_placed es w d a i (bus_took b) = took_caused es w d a.greeted a.rests a.owns a.callees a.small b i
caused_placed es w d a i (bus_ended b) = ended_caused w d a.rests a.owns b i
caused_placed es w d a i (registry_took b) = registry_placed w d a.empty a.ready i b
caused_placed es w d a i (reader_took b) = reader_placed w d a.empty a.ready i b

-- bytes that complete no message
moved_act : (e d : End) → d.who ≡ e.who → d.standing ≡ e.standing → d.unique ≡ e.unique → d.role ≡ e.role → d.up ≡ e.up → d.down ≡ e.down → Act e d
moved_act e d who standing unique role up down = record {
  whose = who;
  standing = standing;
  unique = λ name h. unique ∙ h;
  up = ([], up ∙ sym (append-nil e.up));
  took = [];
  down = sym down;
  answers = λ n name able h. absurd h;
  waits = λ n to h. inl (subst (λ r. WaitsIn r n to) role h, λ q. q);
}

pub moved_placed : (w v : World) → AllPlaced w → (MovedUp w v ⊎ MovedDown w v) → AllPlaced v
moved_placed w v i (inl m) =
    let f : End → End = λ e. record e { up_moved = e.up_moved + m.count } in
    acts_placed w v m.conn m.e (f m.e) (acts_in w v m.conn m.e f m.is_here.there (ap (λ (x : World). x.ends) m.after) (ap (λ (x : World). x.bus.state) m.after) (ap (λ (x : World). x.bus.waiting.due) m.after))
    (moved_act m.e (f m.e) refl refl refl refl refl refl) i
moved_placed w v i (inr m) =
    let f : End → End = λ e. record e { down_moved = e.down_moved + m.count } in
    acts_placed w v m.conn m.e (f m.e) (acts_in w v m.conn m.e f m.is_here.there (ap (λ (x : World). x.ends) m.after) (ap (λ (x : World). x.bus.state) m.after) (ap (λ (x : World). x.bus.waiting.due) m.after))
    (moved_act m.e (f m.e) refl refl refl refl refl refl) i
