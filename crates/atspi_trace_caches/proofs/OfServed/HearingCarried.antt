-- How applications listen to the registry, where the bus takes a message, or an end.
use Rattle.std.proofs.Common.{◌≡◌, ◌⊎◌, inl, inr, ℕ, zero, suc, ◌+◌, ◌<◌, ◌≤◌, Bool, true, false, List, [], ◌∷◌, ◌++◌, length, Option, None, Some, refl, sym, ap, ◌∙◌, subst, arith}
use Rattle.std.specs.Prelude.{◌==◌, is_some, codes, if◌then◌else◌}
use Rattle.std.specs.List.{AllByRecursion}
use Rattle.std.proofs.lemmas.Bool.{eqb-true}
use Rattle.atspi_script_lines.specs.declared.line.Party.{Party}
use Rattle.atspi_script_lines.specs.declared.line.Party.TheVariants.{Bus as The_bus, Registry, App, Reader}
use Rattle.atspi_message.specs.Envelope.{Envelope}
use Rattle.atspi_names.specs.Owners.{own_name}
use Rattle.atspi_match.specs.declared.condition.Condition.{Condition}
use Rattle.atspi_match.specs.declared.routing.closing.Closing.{Closing}
use Rattle.atspi_match.specs.routing.BusState.{unique_of}
use Rattle.atspi_match.specs.routing.Members.{is_text as is_word}
use Rattle.atspi_match.specs.routing.Steps.{Move, says, delivers, closes, BusStep, is_hello, greets, bus_takes}
use Rattle.atspi_protocol.specs.members.Asked.{is_text}
use Rattle.atspi_protocol.specs.exporting.Exporter.{StartCall, hello, add_match, get_registered_events, embed, Phase, awaits, Exporter}
use Rattle.atspi_protocol.specs.exporting.Hearing.{is_heard}
use Rattle.atspi_protocol.specs.exporting.Starting.{start_call, registry_signals}
use Rattle.atspi_protocol.specs.declared.following.question.Question.TheVariants.{AddMatch as AsksMatch}
use Rattle.atspi_protocol.specs.following.Calls.{asking}
use Rattle.atspi_trace.specs.Entry.{Entry, got, dropped}
use Rattle.atspi_trace.specs.Rules.{registry_rule, rule_in}
use Rattle.atspi_trace.specs.World.{here, an_application, Letter, End, World}
use Rattle.atspi_trace.specs.Ends.{is_here, is_app, same_party, party_at, end_at, with_end, taken_up}
use Rattle.atspi_trace.specs.Carrying as carrying
use Rattle.atspi_trace.specs.Carrying.{Carried, own_letter, letter_of, stepped, named, with_name, takes, takes_end, bus_entries}
use Rattle.atspi_trace.specs.Causes.{Done}
use Rattle.atspi_trace_laws.specs.laws.Words.{message}
use Rattle.atspi_trace_laws.specs.laws.NineLaws.{sent_before, count_got_by_bus}
use Rattle.atspi_trace_laws.specs.serials.Laws.{HasNextNumber}
use Rattle.atspi_trace_laws.specs.missed.Laws.{IsPastList}
use Rattle.atspi_trace_laws.proofs.OfOrder.Parties.{no_none, same_some, same-party, false_true}
use Rattle.atspi_trace_laws.proofs.OfOrder.BusWords.{bus_all}
use Rattle.atspi_trace_laws.proofs.OfOrder.Frame.{Over}
use Rattle.atspi_trace_laws.proofs.OfOrder.Shape.{Shape}
use Rattle.atspi_trace_laws.proofs.OfOrder.Effects.{BusTakes, BusEnds}
use Rattle.atspi_trace_laws.proofs.OfOrder.Each.{Each, all_map}
use Rattle.atspi_trace_laws.proofs.OfSerials.Speaking.{next_of}
use Rattle.atspi_trace_laws.proofs.OfLinks.LawLinks.{none_taken, bus_free, no_bus, first_unread, Linked}
use Rattle.atspi_trace_laws.proofs.OfLinks.Ups.{Ups}
use Rattle.atspi_trace_laws.proofs.OfOwn.Writing.{Lives}
use Rattle.atspi_trace_laws.proofs.OfTaken.Found.{found_more}
use Rattle.atspi_trace_laws.proofs.OfTaken.Handing.{HandsOn, takes_on}
use Rattle.atspi_trace_laws.proofs.OfTaken.Said.{IsSaid}
use Rattle.atspi_trace_laws.proofs.OfTaken.LawTaken.{Known}
use Rattle.atspi_trace_laws.proofs.OfTurns.Turning.{count_more, unread_more}
use Rattle.atspi_trace_laws.proofs.OfNames.LawNames.{NamedAt, Named}
use Rattle.atspi_trace_laws.proofs.OfNames.Places.{greeted}
use Rattle.atspi_trace_laws.proofs.OfSigned.Mail.{NameIs, IsOwn}
use Rattle.atspi_trace_laws.proofs.OfSigned.Self.{unique_told, one_named}
use Rattle.atspi_trace_laws.proofs.OfSigned.LawMail.{Mail, named_is}
use Rattle.atspi_trace_laws.proofs.OfSigned.Unique.{IsIn}
use Rattle.atspi_trace_laws.proofs.OfSigned.Handing.{Fine, Gives, Downs, downs_with, PutsAt, stepped_downs, left_downs, settled_downs}
use Rattle.atspi_trace_laws.proofs.OfMissed.Arriving.{On, Goes_on, took_goes, ended_goes, passed_on}
use Rattle.atspi_trace_laws.proofs.OfMissed.Resting.{Rested, due_joined}
use Rattle.atspi_trace_laws.proofs.OfMissed.Ruling.{Has, Removes, takes_has, took_rule, ended_rule, NoReturn, match_taken}
use Rattle.atspi_trace_laws.proofs.OfMissed.Returning.{ReturnsTo, OwnOrOther, takes_to, greets_to, not_the_bus}
use Rattle.atspi_trace_laws.proofs.OfMissed.Delivering.{all_on}
use Rattle.atspi_trace_caches.proofs.OfServed.Facts.{IsNews, OnLink}
use Rattle.atspi_trace_caches.proofs.OfServed.HearingWords.{SaysWell, said_well}
use Rattle.atspi_trace_caches.proofs.OfServed.HearingFold.{told_more}
use Rattle.atspi_trace_caches.proofs.OfServed.HearingNews.{registry_spelled, IsOwner, news_received, news_handed, other_rules, start_removes}
use Rattle.atspi_trace_caches.proofs.OfServed.HearingTuned.{is_hello_call, IsAsked, FromBus, NewsAt, AllNews, IsList, Early, Hears, Late, Tuned, AllTuned, NotSaid, none_embed, asked_more, bus_more, no_embeds, tuned_more}

all_any : {X : Type 0} (P : X → Type 0) → ((x : X) → P x) → (xs : List X) → AllByRecursion P xs
all_any P f [] = tt
all_any P f (x ∷ xs) = (f x, all_any P f xs)

on_all : (P : Letter → Type 0) (ls : List Letter) → ((l : Letter) → On l ls → P l) → AllByRecursion P ls
on_all P [] f = tt
on_all P (x ∷ xs) f = (f x (inl refl), on_all P xs (λ l o. f l (inr o)))

-- MOVES
gives_any : (H : ℕ → Envelope → Type 0) → ((c : ℕ) (m : Envelope) → H c m) → (moves : List Move) → AllByRecursion (Gives H) moves
gives_any H f [] = tt
gives_any H f (delivers c m ∷ moves) = (f c m, gives_any H f moves)
gives_any H f (says m ∷ moves) = (tt, gives_any H f moves)
gives_any H f (closes c ∷ moves) = (tt, gives_any H f moves)

gives_both : (H K J : ℕ → Envelope → Type 0) → ((c : ℕ) (m : Envelope) → H c m → K c m → J c m) → (moves : List Move) → AllByRecursion (Gives H) moves → AllByRecursion (Gives K) moves → AllByRecursion (Gives J) moves
gives_both H K J f [] a b = tt
gives_both H K J f (delivers c m ∷ moves) a b = (f c m a.0 b.0, gives_both H K J f moves a.1 b.1)
gives_both H K J f (says m ∷ moves) a b = (tt, gives_both H K J f moves a.1 b.1)
gives_both H K J f (closes c ∷ moves) a b = (tt, gives_both H K J f moves a.1 b.1)

gives_none : (H : ℕ → Envelope → Type 0) → ((c : ℕ) (m : Envelope) → NoReturn m → H c m) → (moves : List Move) → AllByRecursion (HandsOn NoReturn) moves → AllByRecursion (Gives H) moves
gives_none H f [] a = tt
gives_none H f (delivers c m ∷ moves) a = (f c m a.0, gives_none H f moves a.1)
gives_none H f (says m ∷ moves) a = (tt, gives_none H f moves a.1)
gives_none H f (closes c ∷ moves) a = (tt, gives_none H f moves a.1)

-- WHO LISTENS has the rule, and what it waits for was asked
abbrev IsCall : StartCall → Envelope → Type 0
IsCall call m = (name : List ℕ) × (n : ℕ) × (m ≡ record (start_call name call) { serial = n })

early_of : (es : List Entry) (rules : List (ℕ × List Condition)) (k a n : ℕ) (s : Exporter) (ls : List Letter) → s.phase ≡ awaits get_registered_events n → Early es rules k a s ls ⊎ Late es rules k s ls → Early es rules k a s ls
early_of es rules k a n s ls at (inl x) = x
early_of es rules k a n s ls at (inr x) = absurd (subst IsPastList at x.past)

high : (es : List Entry) (a next n : ℕ) (p : Phase) (call : StartCall) → is_hello_call call ≡ false → p ≡ awaits call n → IsAsked es a next p → 2 ≤ n
high es a next n p call other at i = (subst (IsAsked es a next) at i).3 other

first_there : (ends : List End) (k : ℕ) (e : End) → end_at ends k ≡ Some e → (x : End) × (end_at ends 0 ≡ Some x)
first_there [] k e h = absurd (no_none e h)
first_there (x ∷ xs) k e h = (x, refl)

module _ (es : List Entry) (w : World) (d : Done) (s : Shape w) (l : Linked es w) (n : Named es w) (few : length (greeted es) ≤ 1000) (known : Known es w) (mail : Mail es w) (well : AllByRecursion SaysWell es) (rests : Rested w)
    (owner : unique_of w.bus.state.owners 0 ≡ Some (codes ":1.0") → IsOwner w.bus.state.owners) (law : Each HasNextNumber [] (es ++ d.entries)) (i : AllTuned es w) (b : BusTakes w d) (live : Lives es) where
  abbrev c0 : Carried
  c0 = record { bus = w.bus; ends = w.ends }

  abbrev e0 : Envelope
  e0 = b.said.message

  abbrev step : BusStep
  step = bus_takes w.bus.state b.conn e0 (rule_in e0)

  abbrev base : Carried
  base = record c0 { ends = with_end b.conn taken_up w.ends }

  abbrev done_ : Carried
  done_ = with_name b.conn (stepped (letter_of b.e.who b.said) base step)

  abbrev words : List Entry
  words = bus_entries (takes c0 b.conn b.e.who b.said).ends (takes c0 b.conn b.e.who b.said).bus.own (takes c0 b.conn b.e.who b.said).bus.closings

  abbrev ys : List Entry
  ys = got The_bus b.e.who e0.serial ∷ words

  abbrev later : List Entry
  later = es ++ ys

  wrote : d.entries ≡ ys
  wrote = ap (λ x. x.entries) b.is

  abbrev old_rules : List (ℕ × List Condition)
  old_rules = w.bus.state.rules

  abbrev rules : List (ℕ × List Condition)
  rules = d.world.bus.state.rules

  before : (j : ℕ) (z : End) → end_at d.world.ends j ≡ Some z → (x : End) × (end_at w.ends j ≡ Some x) × Goes_on x z
  before j z there = (subst (λ x. Over Goes_on w.ends x.world.ends) (sym b.is) (took_goes c0 b.conn b.e.who b.said)).back j z there

  there_now : (j : ℕ) (z : End) → end_at d.world.ends j ≡ Some z → end_at (takes c0 b.conn b.e.who b.said).ends j ≡ Some z
  there_now j z there = sym (ap (λ x. end_at x.world.ends j) b.is) ∙ there

  old : (j a : ℕ) (z : End) (t : Exporter) → (there : end_at d.world.ends j ≡ Some z) → z.who ≡ App a → z.role ≡ an_application t → z.standing ≡ here → Tuned es old_rules j a t (before j z there).0.down
  old j a z t there who role on = let x = before j z there in i live j a x.0 t x.1 (sym x.2.whose ∙ who) (sym x.2.role ∙ role) (x.2.on on)

  -- its serial is the next
  serial_is : e0.serial ≡ first_unread es b.e.who
  serial_is = (subst (Ups (first_unread es b.e.who)) b.link (l.1 b.conn b.e b.is_here.there (ap is_here b.is_here.standing)).ups).0

  total_is : next_of b.e.role ≡ first_unread es b.e.who + length b.e.up
  total_is = (l.1 b.conn b.e b.is_here.there (ap is_here b.is_here.standing)).total

  said_ : IsSaid es b.e.who b.said
  said_ = (subst (AllByRecursion (IsSaid es b.e.who)) b.link (known b.conn b.e b.is_here.there).0).0

  said_as : (who : Party) → b.e.who ≡ who → message es who e0.serial ≡ Some e0
  said_as who is = subst (λ p. message es p e0.serial ≡ Some e0) is said_.was

  -- what the bus took of the registry now, or had taken
  was_taken : (k : ℕ) → k < first_unread later Registry → (k < first_unread es Registry) ⊎ ((b.e.who ≡ Registry) × (k ≡ e0.serial))
  was_taken k less = by (same_party b.e.who Registry) refl
    where
      count : Bool → ℕ → ℕ
      count true x = suc x
      count false x = x

      sum : count_got_by_bus later Registry ≡ count_got_by_bus es Registry + count_got_by_bus ys Registry
      sum = count_more es ys Registry

      none : count_got_by_bus words Registry ≡ 0
      none = none_taken Registry words (bus_free (takes c0 b.conn b.e.who b.said).ends (takes c0 b.conn b.e.who b.said).bus.own (takes c0 b.conn b.e.who b.said).bus.closings)

      below_or : (x y : ℕ) → x < suc y → (x < y) ⊎ (x ≡ y)
      below_or x zero h = inr (omega (arith, h))
      below_or zero (suc y) h = inl (omega arith)
      below_or (suc x) (suc y) h = up (below_or x y (omega (arith, h)))
        where
          up : (x < y) ⊎ (x ≡ y) → (suc x < suc y) ⊎ (suc x ≡ suc y)
          up (inl h) = inl (omega (arith, h))
          up (inr h) = inr (ap suc h)

      by : (t : Bool) → same_party b.e.who Registry ≡ t → (k < first_unread es Registry) ⊎ ((b.e.who ≡ Registry) × (k ≡ e0.serial))
      by true h =
          let mine : b.e.who ≡ Registry = same-party b.e.who Registry h in
          let one : count_got_by_bus ys Registry ≡ suc (count_got_by_bus words Registry) = ap (λ t. count t (count_got_by_bus words Registry)) h in
          let total : first_unread later Registry ≡ suc (first_unread es Registry) = omega (arith, sum, one, none) in
          let next : e0.serial ≡ first_unread es Registry = serial_is ∙ ap (first_unread es) mine in
          pick mine next (below_or k (first_unread es Registry) (subst (λ z. k < z) total less))
        where
          pick : b.e.who ≡ Registry → e0.serial ≡ first_unread es Registry → (k < first_unread es Registry) ⊎ (k ≡ first_unread es Registry) → (k < first_unread es Registry) ⊎ ((b.e.who ≡ Registry) × (k ≡ e0.serial))
          pick mine next (inl x) = inl x
          pick mine next (inr x) = inr (mine, x ∙ sym next)
      by false h =
          let nothing : count_got_by_bus ys Registry ≡ count_got_by_bus words Registry = ap (λ t. count t (count_got_by_bus words Registry)) h in
          let total : first_unread later Registry ≡ first_unread es Registry = omega (arith, sum, nothing, none) in
          inl (subst (λ z. k < z) total less)

  -- RULES
  step_rules : (j : ℕ) (z : End) → end_at d.world.ends j ≡ Some z → z.standing ≡ here → Has j registry_rule step.state.rules → Has j registry_rule rules
  step_rules j z there on g = subst (λ x. Has j registry_rule x.world.bus.state.rules) (sym b.is) (took_rule j registry_rule c0 b.conn b.e.who b.said (λ e at stands. g) z (there_now j z there) on)

  same_end : (j : ℕ) (z : End) (there : end_at d.world.ends j ≡ Some z) → j ≡ b.conn → (before j z there).0 ≡ b.e
  same_end j z there at = let x = before j z there in same_some x.0 b.e (sym x.1 ∙ ap (end_at w.ends) at ∙ b.is_here.there)

  now_rules : (j a : ℕ) (z : End) → end_at d.world.ends j ≡ Some z → z.who ≡ App a → z.standing ≡ here → Has j registry_rule old_rules → Has j registry_rule rules
  now_rules j a z there who on g = step_rules j z there on (by (e0.kind == 1) refl)
    where
      by : (t : Bool) → (e0.kind == 1) ≡ t → Has j registry_rule step.state.rules
      by false h = subst (Has j registry_rule) (sym (other_rules w.bus.state b.conn e0 (rule_in e0) h)) g
      by true h = takes_has j registry_rule w.bus.state b.conn e0 (rule_in e0) (λ removes same. not_removed removes same) g
        where
          not_removed : Removes e0 → j ≡ b.conn → ⊥
          not_removed removes same =
              let x = before j z there in
              let whose : b.e.who ≡ App a = ap (λ (y : End). y.who) (sym (same_end j z there same)) ∙ sym x.2.whose ∙ who in
              start_removes e0 (said_well es (App a) e0.serial e0 well (said_as (App a) whose) (eqb-true e0.kind 1 h)) removes

  -- NEWS ARRIVE
  arrives : b.e.who ≡ Registry → IsNews e0 → (j : ℕ) (z : End) → end_at d.world.ends j ≡ Some z → z.standing ≡ here → Has j registry_rule old_rules → OnLink e0.serial z.down
  arrives who news j z there on has =
      (record { from = b.e.who; said = record b.said { message = signed } }, subst (λ x. On x z.down) letter_is on_it, who, refl)
    where
      one : List ℕ
      one = codes ":1.0"

      for_all : (e0.kind ≡ 4) × (e0.destination ≡ None)
      for_all = said_well es Registry e0.serial e0 well (said_as Registry who) news

      at : NamedAt es w.bus.state.owners b.conn b.e
      at = n.ends b.conn b.e b.is_here.there

      named_ : unique_of w.bus.state.owners b.conn ≡ Some one
      named_ = at.owner b.is_here.standing ∙ mail.registry b.conn b.e b.is_here.there who

      first : (x : End) × (end_at w.ends 0 ≡ Some x)
      first = first_there w.ends b.conn b.e b.is_here.there

      is_first : b.conn ≡ 0
      is_first = s.one b.conn 0 b.e first.0 b.is_here.there first.1 (who ∙ sym (s.registry first.0 first.1))

      owns : IsOwner w.bus.state.owners
      owns = owner (ap (unique_of w.bus.state.owners) (sym is_first) ∙ named_)

      signed : Envelope
      signed = record e0 { sender = Some one }

      letter_is : letter_of b.e.who b.said signed ≡ record { from = b.e.who; said = record b.said { message = signed } }
      letter_is = ap (λ t. if t then own_letter signed else record { from = b.e.who; said = record b.said { message = signed } }) (not_the_bus one refl)

      joined_j : IsIn j w.bus.state.joined
      joined_j = let x = before j z there in rests.joined j x.0 x.1 (x.2.on on)

      on_it : On (letter_of b.e.who b.said signed) z.down
      on_it =
          passed_on c0 b.conn b.e.who b.said signed j (news_handed w.bus.state b.conn e0 (rule_in e0) one for_all.0 for_all.1 named_) (news_received w.bus.state j signed for_all.0 for_all.1 news refl owns has joined_j)
          (rests.joined b.conn b.e b.is_here.there b.is_here.standing) (due_joined w rests) z (there_now j z there) on

  -- so what stands behind stands there still
  behind_now : (j : ℕ) (z : End) (there : end_at d.world.ends j ≡ Some z) → z.standing ≡ here → Has j registry_rule old_rules → (k : ℕ) → AllNews es k (before j z there).0.down → AllNews later k z.down
  behind_now j z there on has k old_ at more less = by (was_taken at less)
    where
      x : (e : End) × (end_at w.ends j ≡ Some e) × Goes_on e z
      x = before j z there

      by : (at < first_unread es Registry) ⊎ ((b.e.who ≡ Registry) × (at ≡ e0.serial)) → NewsAt later z.down at
      by (inl low) =
          let y = old_ at more low in
          (y.0, found_more es ys Registry at y.0 y.1, λ news. let q = y.2 news in (q.0, x.2.down on q.0 q.1, q.2, q.3))
      by (inr new) = subst (NewsAt later z.down) (sym new.1) (e0, found_more es ys Registry e0.serial e0 (said_as Registry new.0), λ news. arrives new.0 news j z there on has)

  -- LETTERS
  abbrev At : ℕ → Letter → Type 0
  At j letter =
      (z : End) (there : end_at d.world.ends j ≡ Some z) → z.standing ≡ here → (a : ℕ) (t : Exporter) → z.who ≡ App a → z.role ≡ an_application t
      → (letter.from ≡ The_bus → FromBus j rules t letter.said.message)
      × ((q : ℕ) → IsList letter q → t.phase ≡ awaits get_registered_events q → AllNews later letter.said.message.serial z.down)
      × (letter.from ≡ Registry → (late : Late es old_rules j t (before j z there).0.down) → late.hears.base < letter.said.message.serial)

  bus_apart : The_bus ≡ Registry → ⊥
  bus_apart h = false_true (ap (λ p. same_party p Registry) h)

  by_bus : (j : ℕ) (m : Envelope) → ((z : End) (there : end_at d.world.ends j ≡ Some z) → z.standing ≡ here → (a : ℕ) (t : Exporter) → z.who ≡ App a → z.role ≡ an_application t → FromBus j rules t m) → At j (own_letter m)
  by_bus j m f z there on a t who role = ((λ from. f z there on a t who role), (λ q is at. absurd (bus_apart is.0)), (λ from late. absurd (bus_apart from)))

  own_at : (c : ℕ) (m : Envelope) → Fine 0 m → At c (own_letter m)
  own_at c m f =
      by_bus c m
      (λ z there on a t who role.
      let o = old c a z t there who role on in
      record {
        other = f.2;
        reply = λ two q reply.
            let zero_ : 0 ≡ q = same_some 0 q (sym (f.1 two) ∙ reply) in
            (first zero_ o.next, λ at. absurd (never zero_ (high es a t.next q t.phase add_match refl at o.asked)));
      })
    where
      first : {q x : ℕ} → 0 ≡ q → 2 ≤ x → q < x
      first zero_ more = omega (arith, zero_, more)

      never : {q : ℕ} → 0 ≡ q → 2 ≤ q → ⊥
      never zero_ more = absurd (omega (arith, zero_, more))

  -- a Hello is no AddMatch
  greeted_at : e0.serial ≡ 1 → (c : ℕ) (m : Envelope) → Fine e0.serial m → At c (own_letter m)
  greeted_at one c m f =
      by_bus c m
      (λ z there on a t who role.
      let o = old c a z t there who role on in
      record {
        other = f.2;
        reply = λ two q reply.
            let is_one : 1 ≡ q = sym one ∙ same_some e0.serial q (sym (f.1 two) ∙ reply) in
            (first is_one o.next, λ at. absurd (never is_one (high es a t.next q t.phase add_match refl at o.asked)));
      })
    where
      first : {q x : ℕ} → 1 ≡ q → 2 ≤ x → q < x
      first is more = omega (arith, is, more)

      never : {q : ℕ} → 1 ≡ q → 2 ≤ q → ⊥
      never is more = absurd (omega (arith, is, more))

  -- an AddMatch puts its rule there where it is returned
  abbrev Settles : ℕ → Envelope → Type 0
  Settles c m = (a : ℕ) → b.e.who ≡ App a → m.kind ≡ 2 → IsCall add_match e0 → Has b.conn registry_rule step.state.rules

  settles : AllByRecursion (Gives Settles) step.moves
  settles = by_party b.e.who refl
    where
      no_call : (e0.kind ≡ 1 → ⊥) → AllByRecursion (Gives Settles) step.moves
      no_call none = gives_any Settles (λ c m a who two x. absurd (none (ap (λ (z : Envelope). z.kind) x.2))) step.moves

      member_of : (call : StartCall) (name : List ℕ) → is_text (start_call [] call).member (codes "AddMatch") ≡ false → is_text (start_call name call).member (codes "AddMatch") ≡ false
      member_of hello name h = h
      member_of add_match name h = h
      member_of get_registered_events name h = h
      member_of embed name h = h

      other_call : (call : StartCall) → is_text (start_call [] call).member (codes "AddMatch") ≡ false → IsCall call e0 → AllByRecursion (Gives Settles) step.moves
      other_call call differ y =
          gives_any Settles (λ c m a who two x. absurd (false_true (sym (member_of call y.0 differ) ∙ ap (λ (z : Envelope). is_text z.member (codes "AddMatch")) (sym y.2 ∙ x.2)))) step.moves

      match_call : IsCall add_match e0 → AllByRecursion (Gives Settles) step.moves
      match_call y = at (match_taken w.bus.state b.conn y.1 registry_signals registry_rule)
        where
          asked : Envelope
          asked = asking y.1 (AsksMatch registry_signals)

          step_is : step ≡ bus_takes w.bus.state b.conn asked (Some registry_rule)
          step_is = ap (λ m. bus_takes w.bus.state b.conn m (rule_in m)) y.2 ∙ ap (bus_takes w.bus.state b.conn asked) registry_spelled

          at : Has b.conn registry_rule (bus_takes w.bus.state b.conn asked (Some registry_rule)).state.rules ⊎ AllByRecursion (HandsOn NoReturn) (bus_takes w.bus.state b.conn asked (Some registry_rule)).moves
              → AllByRecursion (Gives Settles) step.moves
          at (inl has) = gives_any Settles (λ c m a who two x. subst (λ (z : BusStep). Has b.conn registry_rule z.state.rules) (sym step_is) has) step.moves
          at (inr nothing) = gives_none Settles (λ c m never a who two x. absurd (never two)) step.moves (subst (λ (z : BusStep). AllByRecursion (HandsOn NoReturn) z.moves) (sym step_is) nothing)

      by_call : (name : List ℕ) (call : StartCall) → e0 ≡ record (start_call name call) { serial = e0.serial } → AllByRecursion (Gives Settles) step.moves
      by_call name add_match is = match_call (name, e0.serial, is)
      by_call name hello is = other_call hello refl (name, e0.serial, is)
      by_call name get_registered_events is = other_call get_registered_events refl (name, e0.serial, is)
      by_call name embed is = other_call embed refl (name, e0.serial, is)

      by_kind : (a : ℕ) → b.e.who ≡ App a → (t : Bool) → (e0.kind == 1) ≡ t → AllByRecursion (Gives Settles) step.moves
      by_kind a who true h = let x = said_well es (App a) e0.serial e0 well (said_as (App a) who) (eqb-true e0.kind 1 h) in by_call x.0 x.1 x.2
      by_kind a who false h = no_call (λ one. false_true (sym h ∙ ap (λ k. k == 1) one))

      no_app_ : (p : Party) → is_app p ≡ false → b.e.who ≡ p → AllByRecursion (Gives Settles) step.moves
      no_app_ p other is = gives_any Settles (λ c m a who two x. absurd (false_true (sym other ∙ ap is_app (sym is ∙ who)))) step.moves

      by_party : (p : Party) → b.e.who ≡ p → AllByRecursion (Gives Settles) step.moves
      by_party (App a) is = by_kind a is (e0.kind == 1) refl
      by_party The_bus is = no_app_ The_bus refl is
      by_party Registry is = no_app_ Registry refl is
      by_party (Reader r) is = no_app_ (Reader r) refl is

  -- its return goes to the end that it came from
  returned_at : (own : List ℕ) → unique_of w.bus.state.owners b.conn ≡ Some own → (c : ℕ) (m : Envelope) → ReturnsTo w.bus.state.owners own e0.serial c m → Settles c m → At c (own_letter m)
  returned_at own named_ c m f st = by_bus c m (λ z there on a t who role. record { other = f.2; reply = λ two q reply. its z there on a t who role two q reply })
    where
      its : (z : End) (there : end_at d.world.ends c ≡ Some z) → z.standing ≡ here → (a : ℕ) (t : Exporter) → z.who ≡ App a → z.role ≡ an_application t → m.kind ≡ 2 → (q : ℕ) → m.reply ≡ Some q
          → (q < t.next) × (t.phase ≡ awaits add_match q → Has c registry_rule rules)
      its z there on a t who role two q reply = (below, λ waiting. step_rules c z there on (subst (λ j. Has j registry_rule step.state.rules) (sym at) (st a is_a two (is_match waiting))))
        where
          x : (y : End) × (end_at w.ends c ≡ Some y) × Goes_on y z
          x = before c z there

          is_q : e0.serial ≡ q
          is_q = same_some e0.serial q (sym (f.1 two).0 ∙ reply)

          has_c : NameIs es x.0.who own
          has_c = named_is es w n mail.registry c x.0 x.1 (x.2.on on) own (f.1 two).1

          has_b : NameIs es b.e.who own
          has_b = named_is es w n mail.registry b.conn b.e b.is_here.there b.is_here.standing own named_

          party : x.0.who ≡ b.e.who
          party = one_named es x.0.who b.e.who own few has_c has_b

          at : c ≡ b.conn
          at = s.one c b.conn x.0 b.e x.1 b.is_here.there party

          it : x.0 ≡ b.e
          it = same_end c z there at

          is_a : b.e.who ≡ App a
          is_a = sym party ∙ sym x.2.whose ∙ who

          below : q < t.next
          below = less is_q serial_is (sym (ap (λ (y : End). next_of y.role) it) ∙ ap next_of (sym x.2.role ∙ role)) total_is (ap length b.link)
            where
              less : e0.serial ≡ q → e0.serial ≡ first_unread es b.e.who → next_of b.e.role ≡ t.next → next_of b.e.role ≡ first_unread es b.e.who + length b.e.up → length b.e.up ≡ suc (length b.rest) → q < t.next
              less o p u r k = omega (arith, o, p, u, r, k)

          is_match : t.phase ≡ awaits add_match q → IsCall add_match e0
          is_match waiting =
              let y = subst (IsAsked es a t.next) waiting (old c a z t there who role on).asked in
              (y.0, q, same_some e0 (record (start_call y.0 add_match) { serial = q }) (sym (said_as (App a) is_a) ∙ ap (message es (App a)) is_q ∙ y.1))

  -- the message itself: nothing of the registry was taken behind it
  its_at : (name : List ℕ) (c : ℕ) → At c (record { from = b.e.who; said = record b.said { message = record e0 { sender = Some name } } })
  its_at name c z there on a t who role =
      ((λ from. absurd (no_bus w b.conn b.e s b.is_here.there from)), (λ q is at k more less. absurd (never k is.0 more (was_taken k less))), (λ from late. below from late.hears.taken))
    where
      next : b.e.who ≡ Registry → e0.serial ≡ first_unread es Registry
      next from = serial_is ∙ ap (first_unread es) from

      never : (k : ℕ) → b.e.who ≡ Registry → e0.serial < k → (k < first_unread es Registry) ⊎ ((b.e.who ≡ Registry) × (k ≡ e0.serial)) → ⊥
      never k from more (inl low) = let is : e0.serial ≡ first_unread es Registry = next from in absurd (omega (arith, is, more, low))
      never k from more (inr same) = let is : k ≡ e0.serial = same.1 in absurd (omega (arith, more, is))

      below : {k : ℕ} → b.e.who ≡ Registry → k < first_unread es Registry → k < e0.serial
      below {k} from low = subst (λ x. k < x) (sym (next from)) low

  before_at : Downs At base.ends
  before_at = downs_with At taken_up b.conn w.ends (λ e a. a) (λ j e there. on_all (At j) e.down (λ letter o z at on a t who role. by j e there letter o z at on a t who role))
    where
      by : (j : ℕ) (e : End) → end_at w.ends j ≡ Some e → (letter : Letter) → On letter e.down → (z : End) (there : end_at d.world.ends j ≡ Some z) → z.standing ≡ here → (a : ℕ) (t : Exporter) → z.who ≡ App a → z.role ≡ an_application t
          → (letter.from ≡ The_bus → FromBus j rules t letter.said.message)
          × ((q : ℕ) → IsList letter q → t.phase ≡ awaits get_registered_events q → AllNews later letter.said.message.serial z.down)
          × (letter.from ≡ Registry → (late : Late es old_rules j t (before j z there).0.down) → late.hears.base < letter.said.message.serial)
      by j e at_e letter o z there on a t who role = (
        (λ from. bus_more j old_rules rules t letter.said.message (now_rules j a z there who on) (i_.bus letter was from)),
        (λ q is at.
            let early : Early es old_rules j a t x.0.down = early_of es old_rules j a q t x.0.down at i_.stage in
            behind_now j z there on (early.has q at) letter.said.message.serial (early.list letter was q is at)),
        (λ from late. late.hears.before letter was from),
      )
        where
          x : (y : End) × (end_at w.ends j ≡ Some y) × Goes_on y z
          x = before j z there

          was : On letter x.0.down
          was = subst (λ (y : End). On letter y.down) (same_some e x.0 (sym at_e ∙ x.1)) o

          i_ : Tuned es old_rules j a t x.0.down
          i_ = old j a z t there who role on

  as_own : (c : ℕ) (m : Envelope) → IsOwn m → At c (own_letter m) → At c (letter_of b.e.who b.said m)
  as_own c m own a = subst (At c) (sym (ap (λ t. if t then own_letter m else record { from = b.e.who; said = record b.said { message = m } }) own)) a

  as_other : (name : List ℕ) (c : ℕ) → is_word (Some name) own_name ≡ false → At c (letter_of b.e.who b.said (record e0 { sender = Some name }))
  as_other name c h =
      subst (At c) (sym (ap (λ t. if t then own_letter (record e0 { sender = Some name }) else record { from = b.e.who; said = record b.said { message = record e0 { sender = Some name } } }) h)) (its_at name c)

  -- what is handed on is the bus's own, or that message
  abbrev Handed : ℕ → Envelope → Type 0
  Handed c m = IsOwn m ⊎ ((name : List ℕ) × (m ≡ record e0 { sender = Some name }))

  handed : AllByRecursion (Gives Handed) step.moves
  handed = all_map (HandsOn (λ m. (c : ℕ) → Handed c m)) (Gives Handed) step.moves one (takes_on (λ m. (c : ℕ) → Handed c m) w.bus.state b.conn e0 (rule_in e0) (λ m own c. inl own) (λ name c. inr (name, refl)))
    where
      one : (move : Move) → HandsOn (λ m. (c : ℕ) → Handed c m) move → Gives Handed move
      one (delivers c m) h = h c
      one (says m) h = tt
      one (closes c) h = tt

  abbrev Puts : ℕ → Envelope → Type 0
  Puts c m = PutsAt At (letter_of b.e.who b.said) c m

  gives : AllByRecursion (Gives Puts) step.moves
  gives = by (unique_of w.bus.state.owners b.conn) refl
    where
      at : NamedAt es w.bus.state.owners b.conn b.e
      at = n.ends b.conn b.e b.is_here.there

      first_said : unique_of w.bus.state.owners b.conn ≡ None → e0.serial ≡ 1
      first_said none = party b.e.who refl (at.unsaid nobody) serial_is
        where
          nobody : b.e.unique ≡ None
          nobody = sym (at.owner b.is_here.standing) ∙ none

          party : (p : Party) → b.e.who ≡ p → count_got_by_bus es b.e.who ≡ 0 → e0.serial ≡ first_unread es b.e.who → e0.serial ≡ 1
          party The_bus is zero_ next = absurd (no_bus w b.conn b.e s b.is_here.there is)
          party Registry is zero_ next = absurd (false_true (ap is_some (sym nobody) ∙ at.registry is))
          party (App a) is zero_ next = let before_ : sent_before b.e.who ≡ 0 = ap sent_before is in omega (arith, zero_, next, before_)
          party (Reader a) is zero_ next = let before_ : sent_before b.e.who ≡ 0 = ap sent_before is in omega (arith, zero_, next, before_)

      hello_by : (t : Bool) → e0.serial ≡ 1 → AllByRecursion (Gives Puts) (if t then greets w.bus.state b.conn e0 else record { state = w.bus.state; moves = closes b.conn ∷ [] }).moves
      hello_by true one = all_map (Gives (λ c m. Fine e0.serial m)) (Gives Puts) (greets w.bus.state b.conn e0).moves each (greets_to w.bus.state b.conn e0)
        where
          each : (move : Move) → Gives (λ c m. Fine e0.serial m) move → Gives Puts move
          each (delivers c m) f = as_own c m f.0 (greeted_at one c m f)
          each (says m) f = tt
          each (closes c) f = tt
      hello_by false one = (tt, tt)

      by : (o : Option (List ℕ)) → unique_of w.bus.state.owners b.conn ≡ o → AllByRecursion (Gives Puts) step.moves
      by None none = rw none (hello_by (is_hello e0) (first_said none))
      by (Some own) named_ =
          gives_both (OwnOrOther w.bus.state.owners own e0.serial) (λ c m. Settles c m × Handed c m) Puts one step.moves
          (takes_to w.bus.state b.conn e0 (rule_in e0) own named_ (unique_told es b.e.who own (named_is es w n mail.registry b.conn b.e b.is_here.there b.is_here.standing own named_)) mail.lists)
          (gives_both Settles Handed (λ c m. Settles c m × Handed c m) (λ c m x y. (x, y)) step.moves settles handed)
        where
          by_handed : (c : ℕ) (m : Envelope) → is_word m.sender own_name ≡ false → Handed c m → Puts c m
          by_handed c m other (inl is_own) = absurd (false_true (sym other ∙ is_own))
          by_handed c m other (inr x) = subst (Puts c) (sym x.1) (as_other x.0 c (ap (λ (z : Envelope). is_word z.sender own_name) (sym x.1) ∙ other))

          one : (c : ℕ) (m : Envelope) → OwnOrOther w.bus.state.owners own e0.serial c m → Settles c m × Handed c m → Puts c m
          one c m (inl f) x = as_own c m f.0 (returned_at own named_ c m f x.0)
          one c m (inr other) x = by_handed c m other x.1

  whole : Downs At (takes c0 b.conn b.e.who b.said).ends
  whole =
      settled_downs At own_at (length w.bus.state.joined) done_
      (downs_with At (named (stepped (letter_of b.e.who b.said) base step).bus b.conn) b.conn (stepped (letter_of b.e.who b.said) base step).ends (λ e a. a) (stepped_downs At (letter_of b.e.who b.said) base step gives before_at))

  pub took_tuned : (k a : ℕ) (z : End) (t : Exporter) → end_at d.world.ends k ≡ Some z → z.who ≡ App a → z.role ≡ an_application t → z.standing ≡ here → Tuned (es ++ d.entries) rules k a t z.down
  took_tuned k a z t there who role on = subst (λ zs. Tuned (es ++ zs) rules k a t z.down) (sym wrote) (record {
    next = o.next;
    asked = asked_more es ys a t.next t.next t.phase (least t.next) o.asked;
    bus = λ j at from. (letters j at).0 from;
    stage = by o.stage;
  })
    where
      o : Tuned es old_rules k a t (before k z there).0.down
      o = old k a z t there who role on

      least : (x : ℕ) → x ≤ x
      least x = omega arith

      letters : (j : Letter) → On j z.down
          → (j.from ≡ The_bus → FromBus k rules t j.said.message)
          × ((q : ℕ) → IsList j q → t.phase ≡ awaits get_registered_events q → AllNews later j.said.message.serial z.down)
          × (j.from ≡ Registry → (late : Late es old_rules k t (before k z there).0.down) → late.hears.base < j.said.message.serial)
      letters j at = all_on (At k) z.down (whole k z (there_now k z there)) j at z there on a t who role

      quiet : AllByRecursion (NotSaid (App a)) ys
      quiet =
          let c = takes c0 b.conn b.e.who b.said in
          (tt, bus_all (NotSaid (App a)) (λ e. refl) c.ends c.bus.own c.bus.closings (all_any (λ (x : Closing). (queued len : ℕ) → NotSaid (App a) (dropped (party_at c.ends x.conn) queued len)) (λ x queued len. tt) c.bus.closings))

      more_taken : {x : ℕ} → x < first_unread es Registry → x < first_unread later Registry
      more_taken {x} low = let more = unread_more es ys Registry in omega (arith, more, low)

      by : Early es old_rules k a t (before k z there).0.down ⊎ Late es old_rules k t (before k z there).0.down → Early later rules k a t z.down ⊎ Late later rules k t z.down
      by (inl x) =
          inl (record {
            no_embed = no_embeds es ys a (none_embed a ys quiet) x.no_embed;
            phase = x.phase;
            has = λ q at. now_rules k a z there who on (x.has q at);
            list = λ j at q is waiting. (letters j at).1 q is waiting;
          })
      by (inr x) =
          let h : Hears es t (before k z there).0.down = x.hears in
          inr (record {
            past = x.past;
            name = x.name;
            named = x.named;
            has = now_rules k a z there who on x.has;
            hears = record {
              base = h.base;
              last = h.last;
              was = found_more es ys Registry h.base h.last h.was;
              heard = λ pair. h.heard pair ∙ ap (λ pairs. is_heard pairs pair) (sym (told_more es ys h.base h.last (subst (λ zs. Each HasNextNumber [] (es ++ zs)) wrote law) h.was));
              taken = more_taken h.taken;
              behind = behind_now k z there on x.has h.base h.behind;
              before = λ j at from. (letters j at).2 from x;
            };
          })

-- THE BUS TAKES AN END
module _ (es : List Entry) (w : World) (d : Done) (law : Each HasNextNumber [] (es ++ d.entries)) (i : AllTuned es w) (b : BusEnds w d) (live : Lives es) where
  abbrev c1 : Carried
  c1 = record { bus = w.bus; ends = w.ends }

  abbrev end_rules : List (ℕ × List Condition)
  end_rules = d.world.bus.state.rules

  before_end : (j : ℕ) (z : End) → end_at d.world.ends j ≡ Some z → (x : End) × (end_at w.ends j ≡ Some x) × Goes_on x z
  before_end j z there = (subst (λ x. Over Goes_on w.ends x.world.ends) (sym b.is) (ended_goes c1 b.conn)).back j z there

  there_end : (j : ℕ) (z : End) → end_at d.world.ends j ≡ Some z → end_at (takes_end c1 b.conn).ends j ≡ Some z
  there_end j z there = sym (ap (λ x. end_at x.world.ends j) b.is) ∙ there

  old_end : (j a : ℕ) (z : End) (t : Exporter) → (there : end_at d.world.ends j ≡ Some z) → z.who ≡ App a → z.role ≡ an_application t → z.standing ≡ here → Tuned es w.bus.state.rules j a t (before_end j z there).0.down
  old_end j a z t there who role on = let x = before_end j z there in i live j a x.0 t x.1 (sym x.2.whose ∙ who) (sym x.2.role ∙ role) (x.2.on on)

  kept_rule : (j : ℕ) (z : End) → end_at d.world.ends j ≡ Some z → z.standing ≡ here → Has j registry_rule w.bus.state.rules → Has j registry_rule end_rules
  kept_rule j z there on g = subst (λ x. Has j registry_rule x.world.bus.state.rules) (sym b.is) (ended_rule j registry_rule c1 b.conn (λ e at stands. g) z (there_end j z there) on)

  -- what stands on a link stood there, or is the bus's own
  abbrev Stood : ℕ → Letter → Type 0
  Stood j letter =
      (z : End) (there : end_at d.world.ends j ≡ Some z) → z.standing ≡ here → (a : ℕ) (t : Exporter) → z.who ≡ App a → z.role ≡ an_application t
      → (letter.from ≡ The_bus → FromBus j end_rules t letter.said.message) × (letter.from ≡ Registry → On letter (before_end j z there).0.down)

  first_end : Downs Stood w.ends
  first_end j e at_e =
      on_all (Stood j) e.down
      (λ letter o z there on a t who role.
      let x = before_end j z there in
      let was : On letter x.0.down = subst (λ (y : End). On letter y.down) (same_some e x.0 (sym at_e ∙ x.1)) o in
      ((λ from. bus_more j w.bus.state.rules end_rules t letter.said.message (kept_rule j z there on) ((old_end j a z t there who role on).bus letter was from)), (λ from. was)))

  own_end : (c : ℕ) (m : Envelope) → Fine 0 m → Stood c (own_letter m)
  own_end c m f z there on a t who role = (
    (λ from.
        let o = old_end c a z t there who role on in
        record {
          other = f.2;
          reply = λ two q reply.
              let zero_ : 0 ≡ q = same_some 0 q (sym (f.1 two) ∙ reply) in
              (first zero_ o.next, λ at. absurd (never zero_ (high es a t.next q t.phase add_match refl at o.asked)));
        }),
    (λ from. absurd (false_true (ap (λ p. same_party p Registry) from))),
  )
    where
      first : {q x : ℕ} → 0 ≡ q → 2 ≤ x → q < x
      first zero_ more = omega (arith, zero_, more)

      never : {q : ℕ} → 0 ≡ q → 2 ≤ q → ⊥
      never zero_ more = absurd (omega (arith, zero_, more))

  whole_end : Downs Stood (takes_end c1 b.conn).ends
  whole_end = settled_downs Stood own_end (length w.bus.state.joined) (carrying.left c1 b.conn) (left_downs Stood own_end c1 b.conn first_end)

  pub ended_tuned : first_unread (es ++ d.entries) Registry ≡ first_unread es Registry → ((a : ℕ) → AllByRecursion (NotSaid (App a)) d.entries)
      → (k a : ℕ) (z : End) (t : Exporter) → end_at d.world.ends k ≡ Some z → z.who ≡ App a → z.role ≡ an_application t → z.standing ≡ here → Tuned (es ++ d.entries) end_rules k a t z.down
  ended_tuned same quiet k a z t there who role on = tuned_more es d.entries end_rules end_rules k a t z.down (λ h. h) law (none_embed a d.entries (quiet a)) same (record {
    next = o.next;
    asked = o.asked;
    bus = λ j at from. (letters j at).0 from;
    stage = by o.stage;
  })
    where
      x : (e : End) × (end_at w.ends k ≡ Some e) × Goes_on e z
      x = before_end k z there

      o : Tuned es w.bus.state.rules k a t x.0.down
      o = old_end k a z t there who role on

      letters : (j : Letter) → On j z.down → (j.from ≡ The_bus → FromBus k end_rules t j.said.message) × (j.from ≡ Registry → On j x.0.down)
      letters j at = all_on (Stood k) z.down (whole_end k z (there_end k z there)) j at z there on a t who role

      grown : (low : ℕ) → AllNews es low x.0.down → AllNews es low z.down
      grown low b n more less = let y = b n more less in (y.0, y.1, λ news. let q = y.2 news in (q.0, x.2.down on q.0 q.1, q.2, q.3))

      by : Early es w.bus.state.rules k a t x.0.down ⊎ Late es w.bus.state.rules k t x.0.down → Early es end_rules k a t z.down ⊎ Late es end_rules k t z.down
      by (inl y) =
          inl (record {
            no_embed = y.no_embed;
            phase = y.phase;
            has = λ q at. kept_rule k z there on (y.has q at);
            list = λ j at q is waiting. grown j.said.message.serial (y.list j ((letters j at).1 is.0) q is waiting);
          })
      by (inr y) =
          let h : Hears es t x.0.down = y.hears in
          inr (record {
            past = y.past;
            name = y.name;
            named = y.named;
            has = kept_rule k z there on y.has;
            hears = record { base = h.base; last = h.last; was = h.was; heard = h.heard; taken = h.taken; behind = grown h.base h.behind; before = λ j at from. h.before j ((letters j at).1 from) from };
          })
