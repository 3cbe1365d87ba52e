-- What a reader heard of the registry's children, where the bus takes a message, or the end of an end: news of one that it takes of the registry stand on the reader's down link.
use Rattle.std.proofs.Common.{◌≡◌, ◌⊎◌, inl, inr, ℕ, zero, suc, ◌+◌, ◌<◌, Bool, true, false, List, [], ◌∷◌, ◌++◌, length, None, Some, refl, sym, ap, ◌∙◌, subst, arith}
use Rattle.std.specs.Prelude.{codes, encode_utf8_all, if◌then◌else◌}
use Rattle.std.specs.List.{AllByRecursion}
use lib.Utf8.{encode}
use Rattle.atspi_script_lines.specs.declared.line.Party.{Party}
use Rattle.atspi_script_lines.specs.declared.line.Party.TheVariants.{Bus as The_bus, Registry, Reader}
use Rattle.atspi_message.specs.Envelope.{Envelope}
use Rattle.atspi_match.specs.declared.condition.Condition.{Condition}
use Rattle.atspi_names.specs.Owners.{own_name}
use Rattle.atspi_protocol.specs.declared.following.question.Question.TheVariants.{AddMatch}
use Rattle.atspi_match.specs.routing.BusState.{unique_of}
use Rattle.atspi_match.specs.routing.Members.{is_text}
use Rattle.atspi_match.specs.routing.Steps.{Move, says, delivers, closes, BusStep, bus_takes}
use Rattle.atspi_trace.specs.Entry.{Entry, got}
use Rattle.atspi_trace.specs.Rules.{rule_in, rule_written, rules_asked, cache_rule, event_rule}
use Rattle.atspi_trace.specs.World.{here, returned, Asked, Hearer, Letter, End, World}
use Rattle.atspi_trace.specs.Ends.{is_here, end_at, with_end, same_party, taken_up}
use Rattle.atspi_trace.specs.Carrying as carrying
use Rattle.atspi_trace.specs.Carrying.{Carried, own_letter, letter_of, stepped, named, with_name, settled, takes, bus_entries}
use Rattle.atspi_trace.specs.Causes.{Done}
use Rattle.atspi_trace_laws.specs.laws.Words.{message}
use Rattle.atspi_trace_laws.specs.laws.NineLaws.{count_got_by_bus}
use Rattle.atspi_trace_laws.proofs.OfOrder.Parties.{no_none, same_some, same-party, false_true}
use Rattle.atspi_trace_laws.proofs.OfOrder.Each.{all_map}
use Rattle.atspi_trace_laws.proofs.OfOrder.Frame.{Over}
use Rattle.atspi_trace_laws.proofs.OfOrder.Shape.{Shape}
use Rattle.atspi_trace_laws.proofs.OfOrder.Effects.{BusTakes, BusEnds}
use Rattle.atspi_trace_laws.proofs.OfLinks.LawLinks.{none_taken, bus_free, first_unread}
use Rattle.atspi_trace_laws.proofs.OfLinks.Ups.{Ups}
use Rattle.atspi_trace_laws.proofs.OfTurns.Turning.{count_more}
use Rattle.atspi_trace_laws.proofs.OfTaken.Found.{found_more}
use Rattle.atspi_trace_laws.proofs.OfTaken.Said.{IsSaid}
use Rattle.atspi_trace_laws.proofs.OfTaken.Handing.{HandsOn, takes_on}
use Rattle.atspi_trace_laws.proofs.OfNames.LawNames.{NamedAt}
use Rattle.atspi_trace_laws.proofs.OfSigned.Mail.{IsOwn, name_more}
use Rattle.atspi_trace_laws.proofs.OfSigned.Handing.{Fine, Gives, Downs, downs_with, PutsAt, stepped_downs, left_downs, settled_downs}
use Rattle.atspi_trace_laws.proofs.OfMissed.Arriving.{On, Goes_on, took_goes, ended_goes, passed_on}
use Rattle.atspi_trace_laws.proofs.OfMissed.Delivering.{all_on}
use Rattle.atspi_trace_laws.proofs.OfMissed.Resting.{Rested, due_joined}
use Rattle.atspi_trace_laws.proofs.OfMissed.Returning.{not_the_bus}
use Rattle.atspi_trace_laws.proofs.OfMissed.Ruled.{Spells, HasAsked}
use Rattle.atspi_trace_laws.proofs.OfMissed.Ruling.{Has}
use Rattle.atspi_trace_laws.proofs.OfMissed.Signals.{ForReaders, received}
use Rattle.atspi_trace_caches.proofs.OfServed.Facts.{OnLink}
use Rattle.atspi_trace_caches.proofs.OfServed.HearingNews.{news_handed}
use Rattle.atspi_trace_caches.proofs.OfSettled.Facts.{IsIn}
use Rattle.atspi_trace_caches.proofs.OfSettled.Refusing.{Below}
use Rattle.atspi_trace_caches.proofs.OfSettled.TellingWords.{HasOne, IsAdd}
use Rattle.atspi_trace_caches.proofs.OfSettled.TellingAsked.{IsWell}
use Rattle.atspi_trace_caches.proofs.OfSettled.Telling_of.{IsBack}
use Rattle.atspi_trace_caches.proofs.OfSettled.TellingHeard.{NewsAt, AllNewsOf, Heard, IsReply, Attends}

-- THE RULES of one whose calls for them were returned
event_spelled : rule_written (encode_utf8_all (codes "type='signal',interface='org.a11y.atspi.Event.Object'")) rules_asked ≡ Some event_rule
unfolding encode
event_spelled = refl

cache_spelled : rule_written (encode_utf8_all (codes "type='signal',interface='org.a11y.atspi.Cache'")) rules_asked ≡ Some cache_rule
unfolding encode
cache_spelled = refl

rule_there : (k : ℕ) (rules : List (ℕ × List Condition)) (text : List ℕ) (rule : List Condition) (asked_ : List Asked) → rule_written (encode_utf8_all text) rules_asked ≡ Some rule → AllByRecursion (λ (a : Asked). a.fate ≡ returned → HasAsked k rules a) asked_ → HasOne (IsBack (AddMatch text)) asked_ → Has k rule rules
rule_there k rules text rule [] spelled a h = absurd h
rule_there k rules text rule (x ∷ xs) spelled a (inl h) = a.0 h.1 rule (spells_it h.0)
  where
    spells_it : x.question ≡ AddMatch text → Spells x.question rule
    spells_it q = subst (λ z. Spells z rule) (sym q) spelled
rule_there k rules text rule (x ∷ xs) spelled a (inr h) = rule_there k rules text rule xs spelled a.1 h

pub both_there : (k : ℕ) (rules : List (ℕ × List Condition)) (asked_ : List Asked) → AllByRecursion (λ (a : Asked). a.fate ≡ returned → HasAsked k rules a) asked_ → HasOne (IsBack (AddMatch (codes "type='signal',interface='org.a11y.atspi.Cache'"))) asked_
    → HasOne (IsBack (AddMatch (codes "type='signal',interface='org.a11y.atspi.Event.Object'"))) asked_ → Has k cache_rule rules × Has k event_rule rules
both_there k rules asked_ a c e =
    (rule_there k rules (codes "type='signal',interface='org.a11y.atspi.Cache'") cache_rule asked_ cache_spelled a c, rule_there k rules (codes "type='signal',interface='org.a11y.atspi.Event.Object'") event_rule asked_ event_spelled a e)

on_all : (P : Letter → Type 0) (ls : List Letter) → ((l : Letter) → On l ls → P l) → AllByRecursion P ls
on_all P [] f = tt
on_all P (x ∷ xs) f = (f x (inl refl), on_all P xs (λ l o. f l (inr o)))

first_there : (ends : List End) (k : ℕ) (e : End) → end_at ends k ≡ Some e → (x : End) × (end_at ends 0 ≡ Some x)
first_there [] k e h = absurd (no_none e h)
first_there (x ∷ xs) k e h = (x, refl)

bus_apart : The_bus ≡ Registry → ⊥
bus_apart h = false_true (ap (λ p. same_party p Registry) h)

-- what stands on more of a link
grown_news : (es : List Entry) (old down : List Letter) (named_ : List (List ℕ)) (n : ℕ) → ((l : Letter) → On l old → On l down) → NewsAt es old named_ n → NewsAt es down named_ n
grown_news es old down named_ n f x = (x.0, x.1, λ u add. by u (x.2 u add))
  where
    by : (u : List ℕ) → OnLink n old ⊎ IsIn u named_ → OnLink n down ⊎ IsIn u named_
    by u (inl q) = inl (q.0, f q.0 q.1, q.2, q.3)
    by u (inr q) = inr q

module _ (es : List Entry) (w : World) (d : Done) (s : Shape w) (v : Below es w) (rests : Rested w) (b : BusTakes w d) where
  abbrev c0 : Carried
  c0 = record { bus = w.bus; ends = w.ends }

  abbrev e0 : Envelope
  e0 = b.said.message

  abbrev step : BusStep
  step = bus_takes w.bus.state b.conn e0 (rule_in e0)

  abbrev base : Carried
  base = record c0 { ends = with_end b.conn taken_up w.ends }

  abbrev done_ : Carried
  done_ = with_name b.conn (stepped (letter_of b.e.who b.said) base step)

  abbrev words : List Entry
  words = bus_entries (takes c0 b.conn b.e.who b.said).ends (takes c0 b.conn b.e.who b.said).bus.own (takes c0 b.conn b.e.who b.said).bus.closings

  abbrev ys : List Entry
  ys = got The_bus b.e.who e0.serial ∷ words

  abbrev later : List Entry
  later = es ++ ys

  pub wrote : d.entries ≡ ys
  wrote = ap (λ x. x.entries) b.is

  pub before : (j : ℕ) (z : End) → end_at d.world.ends j ≡ Some z → (x : End) × (end_at w.ends j ≡ Some x) × Goes_on x z
  before j z there = (subst (λ x. Over Goes_on w.ends x.world.ends) (sym b.is) (took_goes c0 b.conn b.e.who b.said)).back j z there

  there_now : (j : ℕ) (z : End) → end_at d.world.ends j ≡ Some z → end_at (takes c0 b.conn b.e.who b.said).ends j ≡ Some z
  there_now j z there = sym (ap (λ x. end_at x.world.ends j) b.is) ∙ there

  serial_is : e0.serial ≡ first_unread es b.e.who
  serial_is = (subst (Ups (first_unread es b.e.who)) b.link (v.linked.1 b.conn b.e b.is_here.there (ap is_here b.is_here.standing)).ups).0

  said_as : (who : Party) → b.e.who ≡ who → message es who e0.serial ≡ Some e0
  said_as who is = subst (λ p. message es p e0.serial ≡ Some e0) is (subst (AllByRecursion (IsSaid es b.e.who)) b.link (v.known b.conn b.e b.is_here.there).0).0.was

  -- what the bus took of the registry now, or had taken
  was_taken : (k : ℕ) → k < first_unread later Registry → (k < first_unread es Registry) ⊎ ((b.e.who ≡ Registry) × (k ≡ e0.serial))
  was_taken k less = by (same_party b.e.who Registry) refl
    where
      count : Bool → ℕ → ℕ
      count true x = suc x
      count false x = x

      sum : count_got_by_bus later Registry ≡ count_got_by_bus es Registry + count_got_by_bus ys Registry
      sum = count_more es ys Registry

      none : count_got_by_bus words Registry ≡ 0
      none = none_taken Registry words (bus_free (takes c0 b.conn b.e.who b.said).ends (takes c0 b.conn b.e.who b.said).bus.own (takes c0 b.conn b.e.who b.said).bus.closings)

      below_or : (x y : ℕ) → x < suc y → (x < y) ⊎ (x ≡ y)
      below_or x zero h = inr (omega (arith, h))
      below_or zero (suc y) h = inl (omega arith)
      below_or (suc x) (suc y) h = up (below_or x y (omega (arith, h)))
        where
          up : (x < y) ⊎ (x ≡ y) → (suc x < suc y) ⊎ (suc x ≡ suc y)
          up (inl h) = inl (omega (arith, h))
          up (inr h) = inr (ap suc h)

      by : (t : Bool) → same_party b.e.who Registry ≡ t → (k < first_unread es Registry) ⊎ ((b.e.who ≡ Registry) × (k ≡ e0.serial))
      by true h =
          let mine : b.e.who ≡ Registry = same-party b.e.who Registry h in
          let one : count_got_by_bus ys Registry ≡ suc (count_got_by_bus words Registry) = ap (λ t. count t (count_got_by_bus words Registry)) h in
          let total : first_unread later Registry ≡ suc (first_unread es Registry) = omega (arith, sum, one, none) in
          let next : e0.serial ≡ first_unread es Registry = serial_is ∙ ap (first_unread es) mine in
          pick mine next (below_or k (first_unread es Registry) (subst (λ z. k < z) total less))
        where
          pick : b.e.who ≡ Registry → e0.serial ≡ first_unread es Registry → (k < first_unread es Registry) ⊎ (k ≡ first_unread es Registry) → (k < first_unread es Registry) ⊎ ((b.e.who ≡ Registry) × (k ≡ e0.serial))
          pick mine next (inl x) = inl x
          pick mine next (inr x) = inr (mine, x ∙ sym next)
      by false h =
          let nothing : count_got_by_bus ys Registry ≡ count_got_by_bus words Registry = ap (λ t. count t (count_got_by_bus words Registry)) h in
          let total : first_unread later Registry ≡ first_unread es Registry = omega (arith, sum, nothing, none) in
          inl (subst (λ z. k < z) total less)

  -- NEWS ARRIVE
  arrives : b.e.who ≡ Registry → (u : List ℕ) → IsAdd u e0 → (j : ℕ) (z : End) → end_at d.world.ends j ≡ Some z → z.standing ≡ here → Has j cache_rule w.bus.state.rules × Has j event_rule w.bus.state.rules → OnLink e0.serial z.down
  arrives who u add j z there on has = (record { from = b.e.who; said = record b.said { message = signed } }, subst (λ x. On x z.down) letter_is on_it, who, refl)
    where
      one : List ℕ
      one = codes ":1.0"

      four : e0.kind ≡ 4
      four = ap (λ (x : Envelope). x.kind) add.2

      to_all : e0.destination ≡ None
      to_all = ap (λ (x : Envelope). x.destination) add.2

      at : NamedAt es w.bus.state.owners b.conn b.e
      at = v.named.ends b.conn b.e b.is_here.there

      named_ : unique_of w.bus.state.owners b.conn ≡ Some one
      named_ = at.owner b.is_here.standing ∙ v.mail.registry b.conn b.e b.is_here.there who

      signed : Envelope
      signed = record e0 { sender = Some one }

      for_readers : ForReaders signed
      for_readers = record { kind = four; to_all = to_all; interface = inr (ap (λ (x : Envelope). x.interface) add.2) }

      letter_is : letter_of b.e.who b.said signed ≡ record { from = b.e.who; said = record b.said { message = signed } }
      letter_is = ap (λ t. if t then own_letter signed else record { from = b.e.who; said = record b.said { message = signed } }) (not_the_bus one refl)

      on_it : On (letter_of b.e.who b.said signed) z.down
      on_it =
          passed_on c0 b.conn b.e.who b.said signed j (news_handed w.bus.state b.conn e0 (rule_in e0) one four to_all named_)
          (received w.bus.state j signed for_readers has.0 has.1 (let x = before j z there in rests.joined j x.0 x.1 (x.2.on on))) (rests.joined b.conn b.e b.is_here.there b.is_here.standing) (due_joined w rests) z (there_now j z there) on

  news_now : (j : ℕ) (z : End) (there : end_at d.world.ends j ≡ Some z) → z.standing ≡ here → Has j cache_rule w.bus.state.rules × Has j event_rule w.bus.state.rules → (from : ℕ) (named_ : List (List ℕ)) → AllNewsOf es from (before j z there).0.down named_ → AllNewsOf later from z.down named_
  news_now j z there on has from named_ old n more less = by (was_taken n less)
    where
      x : (e : End) × (end_at w.ends j ≡ Some e) × Goes_on e z
      x = before j z there

      by : (n < first_unread es Registry) ⊎ ((b.e.who ≡ Registry) × (n ≡ e0.serial)) → NewsAt later z.down named_ n
      by (inl low) = let y = grown_news es x.0.down z.down named_ n (x.2.down on) (old n more low) in (y.0, found_more es ys Registry n y.0 y.1, y.2)
      by (inr new) = subst (NewsAt later z.down named_) (sym new.1) (e0, found_more es ys Registry e0.serial e0 (said_as Registry new.0), λ u add. inl (arrives new.0 u add j z there on has))

  -- LETTERS of the registry stood there, or are this one
  abbrev At : ℕ → Letter → Type 0
  At j letter = (z : End) (there : end_at d.world.ends j ≡ Some z) → letter.from ≡ Registry → On letter (before j z there).0.down ⊎ ((b.e.who ≡ Registry) × (letter.said.message.serial ≡ e0.serial))

  own_at : (c : ℕ) (m : Envelope) → Fine 0 m → At c (own_letter m)
  own_at c m f z there from = absurd (bus_apart from)

  before_at : Downs At base.ends
  before_at = downs_with At taken_up b.conn w.ends (λ e a. a) (λ j e at_e. on_all (At j) e.down (λ letter o z there from. inl (let x = before j z there in subst (λ (y : End). On letter y.down) (same_some e x.0 (sym at_e ∙ x.1)) o)))

  put_at : (c : ℕ) (m : Envelope) → IsOwn m ⊎ ((name : List ℕ) × (m ≡ record e0 { sender = Some name })) → At c (letter_of b.e.who b.said m)
  put_at c m its = cases (is_text m.sender own_name) refl
    where
      number : IsOwn m ⊎ ((name : List ℕ) × (m ≡ record e0 { sender = Some name })) → is_text m.sender own_name ≡ false → m.serial ≡ e0.serial
      number (inl own) other = absurd (false_true (sym other ∙ own))
      number (inr x) other = ap (λ (y : Envelope). y.serial) x.1

      cases : (t : Bool) → is_text m.sender own_name ≡ t → At c (letter_of b.e.who b.said m)
      cases true h = subst (At c) (sym (ap (λ t. if t then own_letter m else record { from = b.e.who; said = record b.said { message = m } }) h)) (λ z there from. absurd (bus_apart from))
      cases false h =
          subst (At c) (sym (ap (λ t. if t then own_letter m else record { from = b.e.who; said = record b.said { message = m } }) h)) (λ z there from. inr (from, number its h))

  gives : AllByRecursion (Gives (PutsAt At (letter_of b.e.who b.said))) step.moves
  gives = all_map (HandsOn (λ m. (c : ℕ) → At c (letter_of b.e.who b.said m))) (Gives (PutsAt At (letter_of b.e.who b.said))) step.moves one
      (takes_on (λ m. (c : ℕ) → At c (letter_of b.e.who b.said m)) w.bus.state b.conn e0 (rule_in e0) (λ m own c. put_at c m (inl own)) (λ name c. put_at c (record e0 { sender = Some name }) (inr (name, refl))))
    where
      one : (move : Move) → HandsOn (λ m. (c : ℕ) → At c (letter_of b.e.who b.said m)) move → Gives (PutsAt At (letter_of b.e.who b.said)) move
      one (delivers c m) h = h c
      one (says m) h = tt
      one (closes c) h = tt

  whole : Downs At (takes c0 b.conn b.e.who b.said).ends
  whole =
      settled_downs At own_at (length w.bus.state.joined) done_
      (downs_with At (named (stepped (letter_of b.e.who b.said) base step).bus b.conn) b.conn (stepped (letter_of b.e.who b.said) base step).ends (λ e a. a) (stepped_downs At (letter_of b.e.who b.said) base step gives before_at))

  -- what a reader heard
  pub took_attends : (k r n : ℕ) (z : End) (h : Hearer) (there : end_at d.world.ends k ≡ Some z) → z.standing ≡ here → (x : IsWell h.asked n) → Has k cache_rule w.bus.state.rules × Has k event_rule w.bus.state.rules → Attends es r h (before k z there).0.down n x → Attends later r h z.down n x
  took_attends k r n z h there on x has i = record {
    heard = λ back.
        let y : Heard es r h (before k z there).0.down n = i.heard back in
        record {
          base = y.base;
          last = y.last;
          was = found_more es ys Registry y.base y.last y.was;
          kind = y.kind;
          caller = y.caller;
          to = y.to;
          name = name_more es ys (Reader r) y.caller y.name;
          reply = y.reply;
          names = y.names;
          behind = news_now k z there on has y.base h.named y.behind;
          registry = y.registry;
        };
    comes = λ l at reply. by l reply (all_on (At k) z.down (whole k z (there_now k z there)) l at z there reply.0);
  }
    where
      never : {l_ n_ : ℕ} → l_ ≡ e0.serial → l_ < n_ → (n_ < first_unread es Registry) ⊎ (n_ ≡ e0.serial) → e0.serial ≡ first_unread es Registry → ⊥
      never at more (inl low) next = absurd (omega (arith, at, more, low, next))
      never at more (inr same) next = absurd (omega (arith, at, more, same))

      by : (l : Letter) → IsReply l n → On l (before k z there).0.down ⊎ ((b.e.who ≡ Registry) × (l.said.message.serial ≡ e0.serial)) → AllNewsOf later l.said.message.serial z.down []
      by l reply (inl at) = news_now k z there on has l.said.message.serial [] (i.comes l at reply)
      by l reply (inr new) = λ n_ more less. absurd (never new.1 more (taken n_ (was_taken n_ less)) (serial_is ∙ ap (first_unread es) new.0))
        where
          taken : (n_ : ℕ) → (n_ < first_unread es Registry) ⊎ ((b.e.who ≡ Registry) × (n_ ≡ e0.serial)) → (n_ < first_unread es Registry) ⊎ (n_ ≡ e0.serial)
          taken n_ (inl q) = inl q
          taken n_ (inr q) = inr q.1

module _ (es : List Entry) (w : World) (d : Done) (b : BusEnds w d) where
  abbrev c1 : Carried
  c1 = record { bus = w.bus; ends = w.ends }

  pub before_end : (j : ℕ) (z : End) → end_at d.world.ends j ≡ Some z → (x : End) × (end_at w.ends j ≡ Some x) × Goes_on x z
  before_end j z there = (subst (λ x. Over Goes_on w.ends x.world.ends) (sym b.is) (ended_goes c1 b.conn)).back j z there

  abbrev Stood : ℕ → Letter → Type 0
  Stood j letter = (z : End) (there : end_at d.world.ends j ≡ Some z) → letter.from ≡ Registry → On letter (before_end j z there).0.down

  own_end : (c : ℕ) (m : Envelope) → Fine 0 m → Stood c (own_letter m)
  own_end c m f z there from = absurd (bus_apart from)

  first_end : Downs Stood w.ends
  first_end j e at_e = on_all (Stood j) e.down (λ letter o z there from. let x = before_end j z there in subst (λ (y : End). On letter y.down) (same_some e x.0 (sym at_e ∙ x.1)) o)

  whole_end : Downs Stood (carrying.takes_end c1 b.conn).ends
  whole_end = settled_downs Stood own_end (length w.bus.state.joined) (carrying.left c1 b.conn) (left_downs Stood own_end c1 b.conn first_end)

  pub ended_attends : first_unread (es ++ d.entries) Registry ≡ first_unread es Registry → (k r n : ℕ) (z : End) (h : Hearer) (there : end_at d.world.ends k ≡ Some z) → z.standing ≡ here → (x : IsWell h.asked n) → Attends es r h (before_end k z there).0.down n x
      → Attends (es ++ d.entries) r h z.down n x
  ended_attends same k r n z h there on x i = record {
    heard = λ back.
        let y : Heard es r h (before_end k z there).0.down n = i.heard back in
        record {
          base = y.base;
          last = y.last;
          was = found_more es d.entries Registry y.base y.last y.was;
          kind = y.kind;
          caller = y.caller;
          to = y.to;
          name = name_more es d.entries (Reader r) y.caller y.name;
          reply = y.reply;
          names = y.names;
          behind = news_end y.base h.named y.behind;
          registry = y.registry;
        };
    comes = λ l at reply. news_end l.said.message.serial [] (i.comes l (all_on (Stood k) z.down (whole_end k z (sym (ap (λ q. end_at q.world.ends k) b.is) ∙ there)) l at z there reply.0) reply);
  }
    where
      news_end : (from : ℕ) (named_ : List (List ℕ)) → AllNewsOf es from (before_end k z there).0.down named_ → AllNewsOf (es ++ d.entries) from z.down named_
      news_end from named_ old n_ more less =
          let q = before_end k z there in
          let y = grown_news es q.0.down z.down named_ n_ (q.2.down on) (old n_ more (subst (λ j. n_ < j) same less)) in
          (y.0, found_more es d.entries Registry n_ y.0 y.1, y.2)
