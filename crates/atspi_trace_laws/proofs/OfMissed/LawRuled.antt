-- The match rules of readers, cause by cause: where a reader takes a message, and where the bus takes one, or an end.
use Rattle.std.proofs.Common.{◌≡◌, ◌⊎◌, inl, inr, ℕ, zero, suc, ◌+◌, ◌<◌, ◌≤◌, Bool, true, false, List, [], ◌∷◌, ◌++◌, length, map, Option, None, Some, refl, sym, ap, ap₂, ◌∙◌, subst, arith}
use Rattle.std.specs.Prelude.{◌==◌, ◌&&◌, ◌||◌, is_some, encode_utf8_all, if◌then◌else◌}
use Rattle.std.specs.List.{AllByRecursion}
use Rattle.std.proofs.lemmas.Bool.{eqb-true}
use Rattle.std.proofs.lemmas.List.{append-nil}
use Rattle.atspi_script_lines.specs.declared.line.Party.{Party}
use Rattle.atspi_script_lines.specs.declared.line.Party.TheVariants.{Bus as The_bus, Registry, App, Reader}
use Rattle.atspi_message.specs.Envelope.{Envelope}
use Rattle.atspi_names.specs.Owners.{own_name}
use Rattle.atspi_match.specs.declared.condition.Condition.{Condition}
use Rattle.atspi_match.specs.routing.BusState.{unique_of}
use Rattle.atspi_match.specs.routing.Members.{is_text}
use Rattle.atspi_match.specs.routing.Routing.{is_reply}
use Rattle.atspi_match.specs.routing.Steps.{Move, says, delivers, closes, BusStep, is_hello, greets, bus_takes}
use Rattle.atspi_protocol.specs.registering.Steps.{RegistryStep, registry_takes}
use Rattle.atspi_protocol.specs.exporting.Exporter.{Exporter}
use Rattle.atspi_protocol.specs.exporting.Taking.{app_takes}
use Rattle.atspi_protocol.specs.declared.following.question.Question.{Question}
use Rattle.atspi_protocol.specs.declared.following.question.Question.TheVariants.{Hello, AddMatch, RegisterEvent, GetChildren, GetItems, GetPart}
use Rattle.atspi_protocol.specs.following.Calls.{asking}
use Rattle.atspi_protocol.specs.following.Replied.{is_reply_to}
use Rattle.atspi_trace.specs.Entry.{Entry}
use Rattle.atspi_trace.specs.Rules.{rules_asked, rule_written, rule_in}
use Rattle.atspi_trace.specs.World.{Fate, returned, failed, Asked, here, a_reader, Hearer, Said, Letter, first_registry, first_world, End, World}
use Rattle.atspi_trace.specs.Ends.{is_here, is_reader, end_at, with_end, rest_of, taken_up, taken_down, stops}
use Rattle.atspi_trace.specs.Carrying as carrying
use Rattle.atspi_trace.specs.Carrying.{Carried, own_letter, letter_of, stepped, settled, named, with_name, takes, takes_end}
use Rattle.atspi_trace.specs.Hearing.{fate_of, answered_by, question_in, hears_letter}
use Rattle.atspi_trace.specs.Causes.{Done, has_done, registry_did}
use Rattle.atspi_trace_laws.specs.laws.Words.{message}
use Rattle.atspi_trace_laws.specs.laws.NineLaws.{sent_before, count_got_by_bus}
use Rattle.atspi_trace_laws.proofs.OfOrder.Parties.{no_none, same_some, false_true}
use Rattle.atspi_trace_laws.proofs.OfOrder.Allowed.{MovedUp, MovedDown}
use Rattle.atspi_trace_laws.proofs.OfOrder.Frame.{Over, IsOrder, over_same, over_both, over_with, over_at, takes_over, ends_over, joined_cases}
use Rattle.atspi_trace_laws.proofs.OfOrder.Shape.{Shape}
use Rattle.atspi_trace_laws.proofs.OfOrder.Effects.{received, ReaderTakes, BusTakes, BusEnds, Effect, resets, app_joins, reader_joins, app_edited, app_took, reader_called, swapped, exited_, showed_, told_busy, told_quiet, bus_took, bus_ended, registry_took, reader_took}
use Rattle.atspi_trace_laws.proofs.OfOrder.Shaped.{new_app, app_joined}
use Rattle.atspi_trace_laws.proofs.OfOrder.Each.{all_map}
use Rattle.atspi_trace_laws.proofs.OfSerials.Numbers.{Numbered}
use Rattle.atspi_trace_laws.proofs.OfSerials.Speaking.{next_of}
use Rattle.atspi_trace_laws.proofs.OfLinks.LawLinks.{no_bus, first_unread, Linked}
use Rattle.atspi_trace_laws.proofs.OfLinks.Ups.{Ups}
use Rattle.atspi_trace_laws.proofs.OfOwn.Writing.{Lives, lived}
use Rattle.atspi_trace_laws.proofs.OfTaken.Found.{found_more}
use Rattle.atspi_trace_laws.proofs.OfTaken.Handing.{HandsOn}
use Rattle.atspi_trace_laws.proofs.OfTaken.Said.{IsSaid}
use Rattle.atspi_trace_laws.proofs.OfTaken.LawTaken.{Known}
use Rattle.atspi_trace_laws.proofs.OfReaders.Fates.{FateIs, Fated, hello_read}
use Rattle.atspi_trace_laws.proofs.OfNames.LawNames.{NamedAt, Named}
use Rattle.atspi_trace_laws.proofs.OfNames.Places.{greeted}
use Rattle.atspi_trace_laws.proofs.OfSigned.Mail.{NameIs, IsCallOf, IsAnswer, IsPost, IsMail, IsSpeech, IsOwn}
use Rattle.atspi_trace_laws.proofs.OfSigned.Self.{unique_told, one_named, for_bus_true}
use Rattle.atspi_trace_laws.proofs.OfSigned.LawMail.{Mail, named_is}
use Rattle.atspi_trace_laws.proofs.OfSigned.Handing.{Fine, Gives, Downs, downs_with, PutsAt, stepped_downs, left_downs, settled_downs}
use Rattle.atspi_trace_laws.proofs.OfMissed.Arriving.{Goes_on, took_goes, ended_goes}
use Rattle.atspi_trace_laws.proofs.OfMissed.Ruling.{Has, Removes, takes_has, took_rule, ended_rule, NoReturn, match_taken}
use Rattle.atspi_trace_laws.proofs.OfMissed.Returning.{ReturnsTo, OwnOrOther, takes_to, greets_to}
use Rattle.atspi_trace_laws.proofs.OfMissed.Ruled.{is_reader_role, Spells, HasAsked, Both, ReturnsRule, RulesOf, Ruled, SameIn, same_in, not_reader, gone_in, alike, returns_more, rules_more, quiet_ruled, changed_twice, one_ruled, calls_ruled, joins_ruled}

-- A READER TAKES A MESSAGE: what comes of an end answers no AddMatch
goes_bus : (q : Question) (rule : List Condition) (serial : ℕ) → Spells q rule → (asking serial q).destination ≡ Some own_name
goes_bus (AddMatch text) rule serial h = refl
goes_bus Hello rule serial h = absurd h
goes_bus (RegisterEvent pattern) rule serial h = absurd h
goes_bus GetChildren rule serial h = absurd h
goes_bus (GetItems name) rule serial h = absurd h
goes_bus (GetPart name path part) rule serial h = absurd h

-- who made the call that a reply of an end answers: this reader, and not to the bus
pub record HisCall (es : List Entry) (r n : ℕ) : Type 0 where
  pub first : Envelope
  pub was : message es (Reader r) n ≡ Some first
  pub asks : (question : Question) → question_in first ≡ Some question → first ≡ asking first.serial question
  pub not_bus : first.destination ≡ Some own_name → ⊥

pub his_call : (es : List Entry) (r n : ℕ) (letter : Letter) → length (greeted es) ≤ 1000 → IsPost es (Reader r) letter → letter.said.message.kind ≡ 2 → letter.said.message.reply ≡ Some n → HisCall es r n
his_call es r n letter few p two reply = by answer.called.known
  where
    is_it : letter.said.message ≡ record p.first.message { sender = Some p.caller }
    is_it = ap (λ (z : Said). z.message) p.alike

    two_ : p.first.message.kind ≡ 2
    two_ = ap (λ (m : Envelope). m.kind) (sym is_it) ∙ two

    answer : IsAnswer es letter.from p.first
    answer = p.speech.answers (ap (λ n. n == 2 || n == 3) two_)

    goes : letter.said.message.destination ≡ Some answer.called.caller
    goes = ap (λ (m : Envelope). m.destination) is_it ∙ answer.to

    serial : answer.call.serial ≡ n
    serial = same_some answer.call.serial n (sym answer.with_ ∙ ap (λ (m : Envelope). m.reply) (sym is_it) ∙ reply)

    by : (answer.called.caller ≡ own_name) ⊎ IsCallOf es answer.called.from answer.called.caller answer.call → HisCall es r n
    by (inl own) = absurd (false_true (sym p.not_bus ∙ for_bus_true letter.said.message (goes ∙ ap Some own)))
    by (inr c) =
        let mine : NameIs es (Reader r) answer.called.caller = p.routed answer.called.caller goes (unique_told es answer.called.from answer.called.caller c.name) in
        let who : answer.called.from ≡ Reader r = one_named es answer.called.from (Reader r) answer.called.caller few c.name mine in
        record {
          first = c.first;
          was = ap₂ (message es) (sym who) (sym serial) ∙ c.was;
          asks = c.asks r who;
          not_bus = λ h. false_true (sym c.not_bus ∙ for_bus_true answer.call (ap (λ (m : Envelope). m.destination) c.alike ∙ h));
        }

no_match : (es : List Entry) (r : ℕ) (a : Asked) (rule : List Condition) → HisCall es r a.serial → FateIs es r a → Spells a.question rule → ⊥
no_match es r a rule his fate spells =
    let same : his.first ≡ fate.first = same_some his.first fate.first (sym his.was ∙ fate.was) in
    let spelled : his.first ≡ asking his.first.serial a.question = his.asks a.question (ap question_in same ∙ fate.read) in
    his.not_bus (ap (λ (m : Envelope). m.destination) spelled ∙ goes_bus a.question rule his.first.serial spells)

-- calls that are answered
serial_kept : (m : Envelope) (a : Asked) → (answered_by m a).serial ≡ a.serial
serial_kept m a = by (is_reply m && is_reply_to a.serial m.reply)
  where
    by : (b : Bool) → (if b then record a { fate = fate_of m } else a).serial ≡ a.serial
    by true = refl
    by false = refl

question_kept : (m : Envelope) (a : Asked) → (answered_by m a).question ≡ a.question
question_kept m a = by (is_reply m && is_reply_to a.serial m.reply)
  where
    by : (b : Bool) → (if b then record a { fate = fate_of m } else a).question ≡ a.question
    by true = refl
    by false = refl

all_mapped : (P Q : Asked → Type 0) (m : Envelope) (xs : List Asked) → ((a : Asked) → P a → Q (answered_by m a)) → AllByRecursion P xs → AllByRecursion Q (map (answered_by m) xs)
all_mapped P Q m [] f a = tt
all_mapped P Q m (x ∷ xs) f a = (f x a.0, all_mapped P Q m xs f a.1)

both_all : {X : Type 0} (P Q : X → Type 0) (xs : List X) → AllByRecursion P xs → AllByRecursion Q xs → AllByRecursion (λ x. P x × Q x) xs
both_all P Q [] a b = tt
both_all P Q (x ∷ xs) a b = ((a.0, b.0), both_all P Q xs a.1 b.1)

-- a fact of each number, said of each call of its own
all_under : {X : Type 0} (A : Type 0) (P : X → Type 0) (xs : List X) → (A → AllByRecursion P xs) → AllByRecursion (λ x. A → P x) xs
all_under A P [] f = tt
all_under A P (x ∷ xs) f = ((λ a. (f a).0), all_under A P xs (λ a. (f a).1))

all_self : (Q : ℕ → Asked → Type 0) (xs : List Asked) → ((n : ℕ) → AllByRecursion (λ (a : Asked). a.serial ≡ n → Q n a) xs) → AllByRecursion (λ (a : Asked). Q a.serial a) xs
all_self Q [] f = tt
all_self Q (x ∷ xs) f = ((f x.serial).0 refl, all_self Q xs (λ n. (f n).1))

and_left : (a b : Bool) → (a && b) ≡ true → a ≡ true
and_left true b h = refl
and_left false b h = absurd (false_true h)

and_right : (a b : Bool) → (a && b) ≡ true → b ≡ true
and_right true b h = h
and_right false b h = absurd (false_true h)

reply_is : (serial : ℕ) (o : Option ℕ) → is_reply_to serial o ≡ true → o ≡ Some serial
reply_is serial None h = absurd (false_true h)
reply_is serial (Some n) h = ap Some (eqb-true n serial h)

returned_two : (b : Bool) → (if b then returned else failed) ≡ returned → b ≡ true
returned_two true h = refl
returned_two false h = absurd (false_true (ap is_returned_fate h))
  where
    is_returned_fate : Fate → Bool
    is_returned_fate returned = true
    is_returned_fate fate = false

module _ (es : List Entry) (rules : List (ℕ × List Condition)) (k r : ℕ) (h : Hearer) (letter : Letter) (few : length (greeted es) ≤ 1000) (mail : IsMail es (Reader r) letter) (fates : AllByRecursion (FateIs es r) h.asked)
    (its : ReturnsRule k rules h letter) (old : AllByRecursion (λ (a : Asked). a.fate ≡ returned → HasAsked k rules a) h.asked) where
  abbrev m : Envelope
  m = letter.said.message

  -- where it is returned now
  abbrev Now : ℕ → Asked → Type 0
  Now n a = (m.kind ≡ 2) × (m.reply ≡ Some n) → HasAsked k rules a

  returned_now : AllByRecursion (λ (a : Asked). Now a.serial a) h.asked
  returned_now = by mail
    where
      by : IsMail es (Reader r) letter → AllByRecursion (λ (a : Asked). Now a.serial a) h.asked
      by (inl b) =
          all_self Now h.asked
          (λ n. all_map (λ (a : Asked). (m.kind ≡ 2) × (m.reply ≡ Some n) → a.serial ≡ n → HasAsked k rules a) (λ (a : Asked). a.serial ≡ n → Now n a) h.asked (λ a g same both. g both same)
          (all_under ((m.kind ≡ 2) × (m.reply ≡ Some n)) (λ (a : Asked). a.serial ≡ n → HasAsked k rules a) h.asked (λ both. (its b.from both.0 n both.1).1)))
      by (inr p) = all_map (FateIs es r) (λ (a : Asked). Now a.serial a) h.asked (λ a fate both rule spells. absurd (no_match es r a rule (his_call es r a.serial letter few p both.0 both.1) fate spells)) fates

  one_kept : (a : Asked) → (a.fate ≡ returned → HasAsked k rules a) × Now a.serial a → (answered_by m a).fate ≡ returned → HasAsked k rules (answered_by m a)
  one_kept a f = by (is_reply m && is_reply_to a.serial m.reply) refl
    where
      by : (b : Bool) → (is_reply m && is_reply_to a.serial m.reply) ≡ b → (if b then record a { fate = fate_of m } else a).fate ≡ returned → HasAsked k rules (if b then record a { fate = fate_of m } else a)
      by false g fate = f.0 fate
      by true g fate = f.1 (eqb-true m.kind 2 (returned_two (m.kind == 2) fate), reply_is a.serial m.reply (and_right (is_reply m) (is_reply_to a.serial m.reply) g))

  pub kept_now : AllByRecursion (λ (a : Asked). a.fate ≡ returned → HasAsked k rules a) (map (answered_by m) h.asked)
  kept_now = all_mapped (λ (a : Asked). (a.fate ≡ returned → HasAsked k rules a) × Now a.serial a) (λ (a : Asked). a.fate ≡ returned → HasAsked k rules a) m h.asked one_kept
      (both_all (λ (a : Asked). a.fate ≡ returned → HasAsked k rules a) (λ (a : Asked). Now a.serial a) h.asked old returned_now)

answered_has : (k : ℕ) (rules : List (ℕ × List Condition)) (m : Envelope) (a : Asked) → HasAsked k rules a → HasAsked k rules (answered_by m a)
answered_has k rules m a h rule spells = h rule (subst (λ q. Spells q rule) (question_kept m a) spells)

answered_letter : (k : ℕ) (rules : List (ℕ × List Condition)) (h g : Hearer) (m : Envelope) → g.next ≡ h.next → g.asked ≡ map (answered_by m) h.asked → (letter : Letter) → ReturnsRule k rules h letter → ReturnsRule k rules g letter
answered_letter k rules h g m next asked letter x bus two n reply =
    let y = x bus two n reply in (
      subst (λ z. n < z) (sym next) y.0,
      subst (AllByRecursion (λ (a : Asked). a.serial ≡ n → HasAsked k rules a)) (sym asked)
          (all_mapped (λ (a : Asked). a.serial ≡ n → HasAsked k rules a) (λ (a : Asked). a.serial ≡ n → HasAsked k rules a) m h.asked (λ a f same. answered_has k rules m a (f (sym (serial_kept m a) ∙ same))) y.1),
    )

takes_ruled : (es : List Entry) (w : World) (d : Done) → length (greeted es) ≤ 1000 → Mail es w → Fated es w → Ruled es w → ReaderTakes w d → Ruled (es ++ d.entries) d.world
takes_ruled es w d few mail fated i b =
    one_ruled es d.entries w d.world b.conn b.reader (f (taken_down b.e)) g i (changed_twice w d.world b.conn b.e f b.is_here.there (ap (λ x. x.world.ends) b.is)) (ap (λ x. x.world.bus.state.rules) b.is) b.whose refl
    (λ live on. now live (i live b.conn b.reader b.e b.hearer b.is_here.there b.whose b.role b.is_here.standing))
  where
    v : World
    v = received w b.conn b.e b.letter

    g : Hearer
    g = hears_letter b.hearer v.ends b.letter

    f : End → End
    f x = record x { role = a_reader g }

    m : Envelope
    m = b.letter.said.message

    rules : List (ℕ × List Condition)
    rules = w.bus.state.rules

    now : Lives es → RulesOf es rules b.conn b.reader b.e b.hearer → RulesOf (es ++ d.entries) rules b.conn b.reader (f (taken_down b.e)) g
    now live old = record {
      hello = found_more es d.entries (Reader b.reader) 1 (asking 1 Hello) old.hello;
      next = old.next;
      serials = all_mapped (λ (a : Asked). 1 ≤ a.serial) (λ (a : Asked). 1 ≤ a.serial) m b.hearer.asked (λ a h. subst (λ n. 1 ≤ n) (sym (serial_kept m a)) h) old.serials;
      plain = old.plain;
      kept = kept_now es rules b.conn b.reader b.hearer b.letter few its_mail (fated live b.conn b.reader b.e b.hearer b.is_here.there b.whose b.role) letters.0 old.kept;
      letters = subst (AllByRecursion (ReturnsRule b.conn rules g)) (sym (ap rest_of b.link)) (all_map (ReturnsRule b.conn rules b.hearer) (ReturnsRule b.conn rules g) b.rest (answered_letter b.conn rules b.hearer g m refl refl) letters.1);
      items = all_mapped (λ (a : Asked). (name : List ℕ) → a.question ≡ GetItems name → Both b.conn rules) (λ (a : Asked). (name : List ℕ) → a.question ≡ GetItems name → Both b.conn rules) m b.hearer.asked
          (λ a h name q. h name (sym (question_kept m a) ∙ q)) old.items;
    }
      where
        letters : ReturnsRule b.conn rules b.hearer b.letter × AllByRecursion (ReturnsRule b.conn rules b.hearer) b.rest
        letters = subst (AllByRecursion (ReturnsRule b.conn rules b.hearer)) b.link old.letters

        its_mail : IsMail es (Reader b.reader) b.letter
        its_mail = subst (λ p. IsMail es p b.letter) b.whose (subst (AllByRecursion (IsMail es b.e.who)) b.link (mail.downs b.conn b.e b.is_here.there b.is_here.standing)).0

-- THE BUS TAKES A MESSAGE
gives_any : (H : ℕ → Envelope → Type 0) → ((c : ℕ) (m : Envelope) → H c m) → (moves : List Move) → AllByRecursion (Gives H) moves
gives_any H f [] = tt
gives_any H f (delivers c m ∷ moves) = (f c m, gives_any H f moves)
gives_any H f (says m ∷ moves) = (tt, gives_any H f moves)
gives_any H f (closes c ∷ moves) = (tt, gives_any H f moves)

gives_both : (H K J : ℕ → Envelope → Type 0) → ((c : ℕ) (m : Envelope) → H c m → K c m → J c m) → (moves : List Move) → AllByRecursion (Gives H) moves → AllByRecursion (Gives K) moves → AllByRecursion (Gives J) moves
gives_both H K J f [] a b = tt
gives_both H K J f (delivers c m ∷ moves) a b = (f c m a.0 b.0, gives_both H K J f moves a.1 b.1)
gives_both H K J f (says m ∷ moves) a b = (tt, gives_both H K J f moves a.1 b.1)
gives_both H K J f (closes c ∷ moves) a b = (tt, gives_both H K J f moves a.1 b.1)

gives_none : (H : ℕ → Envelope → Type 0) → ((c : ℕ) (m : Envelope) → NoReturn m → H c m) → (moves : List Move) → AllByRecursion (HandsOn NoReturn) moves → AllByRecursion (Gives H) moves
gives_none H f [] a = tt
gives_none H f (delivers c m ∷ moves) a = (f c m a.0, gives_none H f moves a.1)
gives_none H f (says m ∷ moves) a = (tt, gives_none H f moves a.1)
gives_none H f (closes c ∷ moves) a = (tt, gives_none H f moves a.1)

-- what an up link keeps
abbrev Plain : End → Type 0
Plain e = AllByRecursion (λ (said : Said). Removes said.message → ⊥) e.up

abbrev Keeps_plain : End → End → Type 0
Keeps_plain e d = Plain e → Plain d

keeping_plain : IsOrder Keeps_plain
keeping_plain = record { same = λ e p. p; both = λ e d c f g p. g (f p) }

rest_plain : (e : End) → Keeps_plain e (taken_up e)
rest_plain e p = by e.up p
  where
    by : (xs : List Said) → AllByRecursion (λ (said : Said). Removes said.message → ⊥) xs → AllByRecursion (λ (said : Said). Removes said.message → ⊥) (rest_of xs)
    by [] a = tt
    by (x ∷ xs) a = a.1

took_plain : (c : Carried) (conn : ℕ) (who : Party) (said : Said) → Over Keeps_plain c.ends (takes c conn who said).ends
took_plain c conn who said = takes_over Keeps_plain keeping_plain (λ m e p. p) (λ e p. tt) (λ b k e p. p) rest_plain c conn who said (λ m e p. p)

ended_plain : (c : Carried) (conn : ℕ) → Over Keeps_plain c.ends (takes_end c conn).ends
ended_plain c conn = ends_over Keeps_plain keeping_plain (λ m e p. p) (λ e p. tt) c conn

abbrev match_text : Question → List ℕ
match_text (AddMatch text) = text
match_text q = []

abbrev match_or : List ℕ → Option Question → List ℕ
match_or d None = d
match_or d (Some q) = match_text q

abbrev is_match : Option Question → Bool
is_match (Some (AddMatch text)) = true
is_match o = false

no_rule : (o : Option (List Condition)) (rule : List Condition) → o ≡ None → o ≡ Some rule → ⊥
no_rule o rule h g = no_none rule (sym h ∙ g)

module _ (es : List Entry) (w : World) (d : Done) (s : Shape w) (l : Linked es w) (n : Named es w) (few : length (greeted es) ≤ 1000) (known : Known es w) (mail : Mail es w) (fated : Fated es w) (i : Ruled es w) (b : BusTakes w d) (live : Lives es) where
  abbrev c0 : Carried
  c0 = record { bus = w.bus; ends = w.ends }

  abbrev e0 : Envelope
  e0 = b.said.message

  abbrev step : BusStep
  step = bus_takes w.bus.state b.conn e0 (rule_in e0)

  abbrev base : Carried
  base = record c0 { ends = with_end b.conn taken_up w.ends }

  abbrev done_ : Carried
  done_ = with_name b.conn (stepped (letter_of b.e.who b.said) base step)

  before : (j : ℕ) (z : End) → end_at d.world.ends j ≡ Some z → (x : End) × (end_at w.ends j ≡ Some x) × Goes_on x z
  before j z there = (subst (λ x. Over Goes_on w.ends x.world.ends) (sym b.is) (took_goes c0 b.conn b.e.who b.said)).back j z there

  there_now : (j : ℕ) (z : End) → end_at d.world.ends j ≡ Some z → end_at (takes c0 b.conn b.e.who b.said).ends j ≡ Some z
  there_now j z there = sym (ap (λ x. end_at x.world.ends j) b.is) ∙ there

  old : (j r : ℕ) (z : End) (h : Hearer) → (there : end_at d.world.ends j ≡ Some z) → z.who ≡ Reader r → z.role ≡ a_reader h → z.standing ≡ here → RulesOf es w.bus.state.rules j r (before j z there).0 h
  old j r z h there who role on = let x = before j z there in i live j r x.0 h x.1 (sym x.2.whose ∙ who) (sym x.2.role ∙ role) (x.2.on on)

  step_rules : (j : ℕ) (z : End) (rule : List Condition) → end_at d.world.ends j ≡ Some z → z.standing ≡ here → Has j rule step.state.rules → Has j rule d.world.bus.state.rules
  step_rules j z rule there on g = subst (λ x. Has j rule x.world.bus.state.rules) (sym b.is) (took_rule j rule c0 b.conn b.e.who b.said (λ e at stands. g) z (there_now j z there) on)

  now_rules : (j r : ℕ) (z : End) (h : Hearer) → end_at d.world.ends j ≡ Some z → z.who ≡ Reader r → z.role ≡ a_reader h → z.standing ≡ here → (rule : List Condition) → Has j rule w.bus.state.rules → Has j rule d.world.bus.state.rules
  now_rules j r z h there who role on rule g = step_rules j z rule there on (takes_has j rule w.bus.state b.conn e0 (rule_in e0) (λ removes same. not_removed removes same) g)
    where
      not_removed : Removes e0 → j ≡ b.conn → ⊥
      not_removed removes same =
          let x = before j z there in
          let it : x.0 ≡ b.e = same_some x.0 b.e (sym x.1 ∙ ap (end_at w.ends) same ∙ b.is_here.there) in
          (subst (AllByRecursion (λ (said : Said). Removes said.message → ⊥)) (ap (λ (y : End). y.up) it ∙ b.link) (old j r z h there who role on).plain).0 removes

  -- LINKS
  abbrev At : ℕ → Letter → Type 0
  At j letter = (z : End) → end_at d.world.ends j ≡ Some z → z.standing ≡ here → (r : ℕ) (h : Hearer) → z.who ≡ Reader r → z.role ≡ a_reader h → ReturnsRule j d.world.bus.state.rules h letter

  own_at : (c : ℕ) (m : Envelope) → Fine 0 m → At c (own_letter m)
  own_at c m f z there on r h who role bus two q reply =
      let o = old c r z h there who role on in
      let zero_ : 0 ≡ q = same_some 0 q (sym (f.1 two) ∙ reply) in
      (first zero_ o.next, all_map (λ (a : Asked). 1 ≤ a.serial) (λ (a : Asked). a.serial ≡ q → HasAsked c d.world.bus.state.rules a) h.asked (λ a one same. absurd (never a.serial zero_ one same)) o.serials)
    where
      first : 0 ≡ q → 2 ≤ h.next → q < h.next
      first zero_ more = omega (arith, zero_, more)

      never : (k : ℕ) → 0 ≡ q → 1 ≤ k → k ≡ q → ⊥
      never k zero_ one same = absurd (omega (arith, zero_, one, same))

  before_at : Downs At base.ends
  before_at = downs_with At taken_up b.conn w.ends (λ e a. a) (λ j e there. each j e.down (λ z at on r h who role. by j e there z at on r h who role))
    where
      by : (j : ℕ) (e : End) → end_at w.ends j ≡ Some e → (z : End) → end_at d.world.ends j ≡ Some z → z.standing ≡ here → (r : ℕ) (h : Hearer) → z.who ≡ Reader r → z.role ≡ a_reader h → AllByRecursion (ReturnsRule j d.world.bus.state.rules h) e.down
      by j e there z at on r h who role =
          let x = before j z at in
          let same : x.0 ≡ e = same_some x.0 e (sym x.1 ∙ there) in
          all_map (ReturnsRule j w.bus.state.rules h) (ReturnsRule j d.world.bus.state.rules h) e.down (returns_more j w.bus.state.rules d.world.bus.state.rules h (now_rules j r z h at who role on))
          (subst (λ (y : End). AllByRecursion (ReturnsRule j w.bus.state.rules h) y.down) same (old j r z h at who role on).letters)

      each : (j : ℕ) (xs : List Letter) → ((z : End) → end_at d.world.ends j ≡ Some z → z.standing ≡ here → (r : ℕ) (h : Hearer) → z.who ≡ Reader r → z.role ≡ a_reader h → AllByRecursion (ReturnsRule j d.world.bus.state.rules h) xs) → AllByRecursion (At j) xs
      each j [] f = tt
      each j (x ∷ xs) f = ((λ z at on r h who role. (f z at on r h who role).0), each j xs (λ z at on r h who role. (f z at on r h who role).1))

  -- a letter of the bus's own, and one of the end
  as_own : (c : ℕ) (m : Envelope) → IsOwn m → At c (own_letter m) → At c (letter_of b.e.who b.said m)
  as_own c m own a = subst (At c) (sym (ap (λ t. if t then own_letter m else record { from = b.e.who; said = record b.said { message = m } }) own)) a

  as_other : (c : ℕ) (m : Envelope) → is_text m.sender own_name ≡ false → At c (letter_of b.e.who b.said m)
  as_other c m other =
      subst (At c) (sym (ap (λ t. if t then own_letter m else record { from = b.e.who; said = record b.said { message = m } }) other))
      (λ z there on r h who role bus. absurd (no_bus w b.conn b.e s b.is_here.there bus))

  -- an AddMatch puts its rule there where it is returned
  abbrev Settles : ℕ → Envelope → Type 0
  Settles c m =
      (r : ℕ) → b.e.who ≡ Reader r → m.kind ≡ 2 → (text : List ℕ) (rule : List Condition) → question_in e0 ≡ Some (AddMatch text) → rule_written (encode_utf8_all text) rules_asked ≡ Some rule → Has b.conn rule step.state.rules

  settles : AllByRecursion (Gives Settles) step.moves
  settles = by_party b.e.who refl
    where
      speech : IsSpeech es b.e.who b.said
      speech = (subst (AllByRecursion (IsSpeech es b.e.who)) b.link (mail.ups b.conn b.e b.is_here.there)).0

      none : is_match (question_in e0) ≡ false → AllByRecursion (Gives Settles) step.moves
      none other = gives_any Settles (λ c m r is two text rule q spelled. absurd (false_true (sym other ∙ ap is_match q))) step.moves

      by_rule : (text : List ℕ) → question_in e0 ≡ Some (AddMatch text) → e0 ≡ asking e0.serial (AddMatch text) → (u : Option (List Condition)) → rule_written (encode_utf8_all text) rules_asked ≡ u → AllByRecursion (Gives Settles) step.moves
      by_rule text q is None none_ = gives_any Settles (λ c m r who two other rule p spelled. absurd (no_none rule (sym none_ ∙ ap (λ t. rule_written (encode_utf8_all t) rules_asked) (ap (match_or []) (sym q ∙ p)) ∙ spelled))) step.moves
      by_rule text q is (Some rule) some = at (match_taken w.bus.state b.conn e0.serial text rule)
        where
          step_is : step ≡ bus_takes w.bus.state b.conn (asking e0.serial (AddMatch text)) (Some rule)
          step_is = ap (λ m. bus_takes w.bus.state b.conn m (rule_in m)) is ∙ ap (bus_takes w.bus.state b.conn (asking e0.serial (AddMatch text))) some

          same_rule : (other : List ℕ) (new : List Condition) → question_in e0 ≡ Some (AddMatch other) → rule_written (encode_utf8_all other) rules_asked ≡ Some new → rule ≡ new
          same_rule other new p spelled = same_some rule new (sym some ∙ ap (λ t. rule_written (encode_utf8_all t) rules_asked) (ap (match_or []) (sym q ∙ p)) ∙ spelled)

          at : Has b.conn rule (bus_takes w.bus.state b.conn (asking e0.serial (AddMatch text)) (Some rule)).state.rules
              ⊎ AllByRecursion (HandsOn NoReturn) (bus_takes w.bus.state b.conn (asking e0.serial (AddMatch text)) (Some rule)).moves
              → AllByRecursion (Gives Settles) step.moves
          at (inl has) =
              gives_any Settles (λ c m r who two other new p spelled. subst (λ x. Has b.conn x step.state.rules) (same_rule other new p spelled) (subst (λ (x : BusStep). Has b.conn rule x.state.rules) (sym step_is) has)) step.moves
          at (inr nothing) = gives_none Settles (λ c m never r who two other new p spelled. absurd (never two)) step.moves (subst (λ (x : BusStep). AllByRecursion (HandsOn NoReturn) x.moves) (sym step_is) nothing)

      by_question : (r : ℕ) → b.e.who ≡ Reader r → (o : Option Question) → question_in e0 ≡ o → AllByRecursion (Gives Settles) step.moves
      by_question r who (Some (AddMatch text)) q = by_rule text q (speech.asks r who (AddMatch text) q) (rule_written (encode_utf8_all text) rules_asked) refl
      by_question r who None q = none (ap is_match q)
      by_question r who (Some Hello) q = none (ap is_match q)
      by_question r who (Some (RegisterEvent pattern)) q = none (ap is_match q)
      by_question r who (Some GetChildren) q = none (ap is_match q)
      by_question r who (Some (GetItems name)) q = none (ap is_match q)
      by_question r who (Some (GetPart name path part)) q = none (ap is_match q)

      no_reader_ : (p : Party) → is_reader p ≡ false → b.e.who ≡ p → AllByRecursion (Gives Settles) step.moves
      no_reader_ p other is = gives_any Settles (λ c m r who two text rule q spelled. absurd (false_true (sym other ∙ ap is_reader (sym is ∙ who)))) step.moves

      by_party : (p : Party) → b.e.who ≡ p → AllByRecursion (Gives Settles) step.moves
      by_party (Reader r) is = by_question r is (question_in e0) refl
      by_party The_bus is = no_reader_ The_bus refl is
      by_party Registry is = no_reader_ Registry refl is
      by_party (App a) is = no_reader_ (App a) refl is

  -- its return goes to the end that it came from
  returned_at : (own : List ℕ) → unique_of w.bus.state.owners b.conn ≡ Some own → (c : ℕ) (m : Envelope) → ReturnsTo w.bus.state.owners own e0.serial c m → Settles c m → At c (own_letter m)
  returned_at own named_ c m f st z there on r h who role bus two q reply = (below, all_map (FateIs es r) (λ (a : Asked). a.serial ≡ q → HasAsked c d.world.bus.state.rules a) h.asked asked_ (fated live c r x.0 h x.1 who_x role_x))
    where
      x : (y : End) × (end_at w.ends c ≡ Some y) × Goes_on y z
      x = before c z there

      who_x : x.0.who ≡ Reader r
      who_x = sym x.2.whose ∙ who

      role_x : x.0.role ≡ a_reader h
      role_x = sym x.2.role ∙ role

      is_q : e0.serial ≡ q
      is_q = same_some e0.serial q (sym (f.1 two).0 ∙ reply)

      has_c : NameIs es x.0.who own
      has_c = named_is es w n mail.registry c x.0 x.1 (x.2.on on) own (f.1 two).1

      has_b : NameIs es b.e.who own
      has_b = named_is es w n mail.registry b.conn b.e b.is_here.there b.is_here.standing own named_

      party : x.0.who ≡ b.e.who
      party = one_named es x.0.who b.e.who own few has_c has_b

      at : c ≡ b.conn
      at = s.one c b.conn x.0 b.e x.1 b.is_here.there party

      it : x.0 ≡ b.e
      it = same_some x.0 b.e (sym x.1 ∙ ap (end_at w.ends) at ∙ b.is_here.there)

      is_r : b.e.who ≡ Reader r
      is_r = sym party ∙ who_x

      linked : (e0.serial ≡ first_unread es b.e.who) × (next_of b.e.role ≡ first_unread es b.e.who + length b.e.up)
      linked = let y = l.1 b.conn b.e b.is_here.there (ap is_here b.is_here.standing) in ((subst (Ups (first_unread es b.e.who)) b.link y.ups).0, y.total)

      below : q < h.next
      below = less is_q linked.0 (sym (ap (λ (y : End). next_of y.role) it) ∙ ap next_of role_x) linked.1 (ap length b.link)
        where
          less : e0.serial ≡ q → e0.serial ≡ first_unread es b.e.who → next_of b.e.role ≡ h.next → next_of b.e.role ≡ first_unread es b.e.who + length b.e.up → length b.e.up ≡ suc (length b.rest) → q < h.next
          less o p u t k = omega (arith, o, p, u, t, k)

      said_ : message es (Reader r) e0.serial ≡ Some e0
      said_ = subst (λ p. message es p e0.serial ≡ Some e0) is_r (subst (AllByRecursion (IsSaid es b.e.who)) b.link (known b.conn b.e b.is_here.there).0).0.was

      asked_ : (a : Asked) → FateIs es r a → a.serial ≡ q → HasAsked c d.world.bus.state.rules a
      asked_ a fate same rule spells = by a.question (ap question_in is_first ∙ fate.read) spells
        where
          is_first : e0 ≡ fate.first
          is_first = same_some e0 fate.first (sym said_ ∙ ap (message es (Reader r)) (is_q ∙ sym same) ∙ fate.was)

          by : (question : Question) → question_in e0 ≡ Some question → Spells question rule → Has c rule d.world.bus.state.rules
          by (AddMatch text) asks_ spelled = step_rules c z rule there on (subst (λ j. Has j rule step.state.rules) (sym at) (st r is_r two text rule asks_ spelled))
          by Hello asks_ spelled = absurd spelled
          by (RegisterEvent pattern) asks_ spelled = absurd spelled
          by GetChildren asks_ spelled = absurd spelled
          by (GetItems name) asks_ spelled = absurd spelled
          by (GetPart name path part) asks_ spelled = absurd spelled

  -- a Hello is no AddMatch
  greeted_at : e0.serial ≡ 1 → (c : ℕ) (m : Envelope) → Fine e0.serial m → At c (own_letter m)
  greeted_at one c m f z there on r h who role bus two q reply =
      let x = before c z there in
      let o = old c r z h there who role on in
      let is_one : 1 ≡ q = sym one ∙ same_some e0.serial q (sym (f.1 two) ∙ reply) in
      (first is_one o.next, all_map (FateIs es r) (λ (a : Asked). a.serial ≡ q → HasAsked c d.world.bus.state.rules a) h.asked (λ a fate same. no_rule_of a fate (same ∙ sym is_one) o.hello) (fated live c r x.0 h x.1 (sym x.2.whose ∙ who) (sym x.2.role ∙ role)))
    where
      first : 1 ≡ q → 2 ≤ h.next → q < h.next
      first is more = omega (arith, is, more)

      none : (question : Question) (rule : List Condition) → question ≡ Hello → Spells question rule → ⊥
      none question rule is spells = subst (λ p. Spells p rule) is spells

      no_rule_of : (a : Asked) → FateIs es r a → a.serial ≡ 1 → message es (Reader r) 1 ≡ Some (asking 1 Hello) → HasAsked c d.world.bus.state.rules a
      no_rule_of a fate same hello rule spells =
          let is_hello_ : fate.first ≡ asking 1 Hello = same_some fate.first (asking 1 Hello) (sym fate.was ∙ ap (message es (Reader r)) same ∙ hello) in
          absurd (none a.question rule (same_some a.question Hello (sym fate.read ∙ ap question_in is_hello_ ∙ hello_read)) spells)

  gives : AllByRecursion (Gives (PutsAt At (letter_of b.e.who b.said))) step.moves
  gives = by (unique_of w.bus.state.owners b.conn) refl
    where
      at : NamedAt es w.bus.state.owners b.conn b.e
      at = n.ends b.conn b.e b.is_here.there

      first_said : unique_of w.bus.state.owners b.conn ≡ None → e0.serial ≡ 1
      first_said none = party b.e.who refl (at.unsaid nobody) ((subst (Ups (first_unread es b.e.who)) b.link (l.1 b.conn b.e b.is_here.there (ap is_here b.is_here.standing)).ups).0)
        where
          nobody : b.e.unique ≡ None
          nobody = sym (at.owner b.is_here.standing) ∙ none

          party : (p : Party) → b.e.who ≡ p → count_got_by_bus es b.e.who ≡ 0 → e0.serial ≡ first_unread es b.e.who → e0.serial ≡ 1
          party The_bus is zero_ next = absurd (no_bus w b.conn b.e s b.is_here.there is)
          party Registry is zero_ next = absurd (false_true (ap is_some (sym nobody) ∙ at.registry is))
          party (App a) is zero_ next = let before_ : sent_before b.e.who ≡ 0 = ap sent_before is in omega (arith, zero_, next, before_)
          party (Reader a) is zero_ next = let before_ : sent_before b.e.who ≡ 0 = ap sent_before is in omega (arith, zero_, next, before_)

      hello_by : (t : Bool) → e0.serial ≡ 1 → AllByRecursion (Gives (PutsAt At (letter_of b.e.who b.said))) (if t then greets w.bus.state b.conn e0 else record { state = w.bus.state; moves = closes b.conn ∷ [] }).moves
      hello_by true one =
          gives_both (λ c m. Fine e0.serial m) (λ c m. Unit {0}) (PutsAt At (letter_of b.e.who b.said)) (λ c m f u. as_own c m f.0 (greeted_at one c m f)) (greets w.bus.state b.conn e0).moves (greets_to w.bus.state b.conn e0)
          (gives_any (λ c m. Unit {0}) (λ c m. tt) (greets w.bus.state b.conn e0).moves)
      hello_by false one = (tt, tt)

      by : (o : Option (List ℕ)) → unique_of w.bus.state.owners b.conn ≡ o → AllByRecursion (Gives (PutsAt At (letter_of b.e.who b.said))) step.moves
      by None none = rw none (hello_by (is_hello e0) (first_said none))
      by (Some own) named_ =
          gives_both (OwnOrOther w.bus.state.owners own e0.serial) Settles (PutsAt At (letter_of b.e.who b.said)) (λ c m f st. one c m f st) step.moves
          (takes_to w.bus.state b.conn e0 (rule_in e0) own named_ (unique_told es b.e.who own (named_is es w n mail.registry b.conn b.e b.is_here.there b.is_here.standing own named_)) mail.lists) settles
        where
          one : (c : ℕ) (m : Envelope) → OwnOrOther w.bus.state.owners own e0.serial c m → Settles c m → At c (letter_of b.e.who b.said m)
          one c m (inl f) st = as_own c m f.0 (returned_at own named_ c m f st)
          one c m (inr other) st = as_other c m other

  whole : Downs At (takes c0 b.conn b.e.who b.said).ends
  whole =
      settled_downs At own_at (length w.bus.state.joined) done_
      (downs_with At (named (stepped (letter_of b.e.who b.said) base step).bus b.conn) b.conn (stepped (letter_of b.e.who b.said) base step).ends (λ e a. a) (stepped_downs At (letter_of b.e.who b.said) base step gives before_at))

  pub took_rules : (k r : ℕ) (z : End) (h : Hearer) → end_at d.world.ends k ≡ Some z → z.who ≡ Reader r → z.role ≡ a_reader h → z.standing ≡ here → RulesOf (es ++ d.entries) d.world.bus.state.rules k r z h
  took_rules k r z h there who role on = record {
    hello = x.hello;
    next = x.next;
    serials = x.serials;
    plain = o.2 (subst (λ y. Plain y) same o_is.plain);
    kept = x.kept;
    letters = all_of z.down (whole k z (there_now k z there));
    items = x.items;
  }
    where
      y : (e : End) × (end_at w.ends k ≡ Some e) × Goes_on e z
      y = before k z there

      o : (e : End) × (end_at w.ends k ≡ Some e) × Keeps_plain e z
      o = (took_plain c0 b.conn b.e.who b.said).back k z (there_now k z there)

      same : y.0 ≡ o.0
      same = same_some y.0 o.0 (sym y.1 ∙ o.1)

      o_is : RulesOf es w.bus.state.rules k r y.0 h
      o_is = old k r z h there who role on

      x : RulesOf (es ++ d.entries) d.world.bus.state.rules k r y.0 h
      x = rules_more es d.entries w.bus.state.rules d.world.bus.state.rules k r y.0 y.0 h refl refl (now_rules k r z h there who role on) o_is

      all_of : (xs : List Letter) → AllByRecursion (At k) xs → AllByRecursion (ReturnsRule k d.world.bus.state.rules h) xs
      all_of [] a = tt
      all_of (l ∷ ls) a = (a.0 z there on r h who role, all_of ls a.1)

-- THE BUS TAKES AN END
module _ (es : List Entry) (w : World) (d : Done) (i : Ruled es w) (b : BusEnds w d) (live : Lives es) where
  abbrev c1 : Carried
  c1 = record { bus = w.bus; ends = w.ends }

  before_end : (j : ℕ) (z : End) → end_at d.world.ends j ≡ Some z → (x : End) × (end_at w.ends j ≡ Some x) × Goes_on x z
  before_end j z there = (subst (λ x. Over Goes_on w.ends x.world.ends) (sym b.is) (ended_goes c1 b.conn)).back j z there

  there_end : (j : ℕ) (z : End) → end_at d.world.ends j ≡ Some z → end_at (takes_end c1 b.conn).ends j ≡ Some z
  there_end j z there = sym (ap (λ x. end_at x.world.ends j) b.is) ∙ there

  old_end : (j r : ℕ) (z : End) (h : Hearer) → (there : end_at d.world.ends j ≡ Some z) → z.who ≡ Reader r → z.role ≡ a_reader h → z.standing ≡ here → RulesOf es w.bus.state.rules j r (before_end j z there).0 h
  old_end j r z h there who role on = let x = before_end j z there in i live j r x.0 h x.1 (sym x.2.whose ∙ who) (sym x.2.role ∙ role) (x.2.on on)

  end_rules : (j : ℕ) (z : End) → end_at d.world.ends j ≡ Some z → z.standing ≡ here → (rule : List Condition) → Has j rule w.bus.state.rules → Has j rule d.world.bus.state.rules
  end_rules j z there on rule g = subst (λ x. Has j rule x.world.bus.state.rules) (sym b.is) (ended_rule j rule c1 b.conn (λ e at stands. g) z (there_end j z there) on)

  abbrev At_end : ℕ → Letter → Type 0
  At_end j letter = (z : End) → end_at d.world.ends j ≡ Some z → z.standing ≡ here → (r : ℕ) (h : Hearer) → z.who ≡ Reader r → z.role ≡ a_reader h → ReturnsRule j d.world.bus.state.rules h letter

  own_end : (c : ℕ) (m : Envelope) → Fine 0 m → At_end c (own_letter m)
  own_end c m f z there on r h who role bus two q reply =
      let o = old_end c r z h there who role on in
      let zero_ : 0 ≡ q = same_some 0 q (sym (f.1 two) ∙ reply) in
      (first zero_ o.next, all_map (λ (a : Asked). 1 ≤ a.serial) (λ (a : Asked). a.serial ≡ q → HasAsked c d.world.bus.state.rules a) h.asked (λ a one same. absurd (never a.serial zero_ one same)) o.serials)
    where
      first : 0 ≡ q → 2 ≤ h.next → q < h.next
      first zero_ more = omega (arith, zero_, more)

      never : (k : ℕ) → 0 ≡ q → 1 ≤ k → k ≡ q → ⊥
      never k zero_ one same = absurd (omega (arith, zero_, one, same))

  first_end : Downs At_end w.ends
  first_end j e there = each e.down (λ z at on r h who role. by z at on r h who role)
    where
      by : (z : End) → end_at d.world.ends j ≡ Some z → z.standing ≡ here → (r : ℕ) (h : Hearer) → z.who ≡ Reader r → z.role ≡ a_reader h → AllByRecursion (ReturnsRule j d.world.bus.state.rules h) e.down
      by z at on r h who role =
          let x = before_end j z at in
          let same : x.0 ≡ e = same_some x.0 e (sym x.1 ∙ there) in
          all_map (ReturnsRule j w.bus.state.rules h) (ReturnsRule j d.world.bus.state.rules h) e.down (returns_more j w.bus.state.rules d.world.bus.state.rules h (end_rules j z at on))
          (subst (λ (y : End). AllByRecursion (ReturnsRule j w.bus.state.rules h) y.down) same (old_end j r z h at who role on).letters)

      each : (xs : List Letter) → ((z : End) → end_at d.world.ends j ≡ Some z → z.standing ≡ here → (r : ℕ) (h : Hearer) → z.who ≡ Reader r → z.role ≡ a_reader h → AllByRecursion (ReturnsRule j d.world.bus.state.rules h) xs) → AllByRecursion (At_end j) xs
      each [] f = tt
      each (x ∷ xs) f = ((λ z at on r h who role. (f z at on r h who role).0), each xs (λ z at on r h who role. (f z at on r h who role).1))

  whole_end : Downs At_end (takes_end c1 b.conn).ends
  whole_end = settled_downs At_end own_end (length w.bus.state.joined) (carrying.left c1 b.conn) (left_downs At_end own_end c1 b.conn first_end)

  pub ended_rules : (k r : ℕ) (z : End) (h : Hearer) → end_at d.world.ends k ≡ Some z → z.who ≡ Reader r → z.role ≡ a_reader h → z.standing ≡ here → RulesOf (es ++ d.entries) d.world.bus.state.rules k r z h
  ended_rules k r z h there who role on = record {
    hello = x.hello;
    next = x.next;
    serials = x.serials;
    plain = o.2 (subst (λ y. Plain y) same o_is.plain);
    kept = x.kept;
    letters = all_of z.down (whole_end k z (there_end k z there));
    items = x.items;
  }
    where
      y : (e : End) × (end_at w.ends k ≡ Some e) × Goes_on e z
      y = before_end k z there

      o : (e : End) × (end_at w.ends k ≡ Some e) × Keeps_plain e z
      o = (ended_plain c1 b.conn).back k z (there_end k z there)

      same : y.0 ≡ o.0
      same = same_some y.0 o.0 (sym y.1 ∙ o.1)

      o_is : RulesOf es w.bus.state.rules k r y.0 h
      o_is = old_end k r z h there who role on

      x : RulesOf (es ++ d.entries) d.world.bus.state.rules k r y.0 h
      x = rules_more es d.entries w.bus.state.rules d.world.bus.state.rules k r y.0 y.0 h refl refl (end_rules k z there on) o_is

      all_of : (xs : List Letter) → AllByRecursion (At_end k) xs → AllByRecursion (ReturnsRule k d.world.bus.state.rules h) xs
      all_of [] a = tt
      all_of (l ∷ ls) a = (a.0 z there on r h who role, all_of ls a.1)

-- AT THE BEGINNING
no_reader_first : (quota k r : ℕ) (x : End) → end_at (first_world quota).ends k ≡ Some x → x.who ≡ Reader r → ⊥
no_reader_first quota zero r x h who = false_true (ap is_reader (ap (λ (y : End). y.who) (same_some first_registry x h) ∙ who))
no_reader_first quota (suc k) r x h who = no_none x h

-- EACH CAUSE
app_same : (s t : Exporter) (x : End) → SameIn x (has_done s t x)
app_same s t x = not_reader x (has_done s t x) refl refl

registry_same : (step : RegistryStep) (x : End) → SameIn x (registry_did step x)
registry_same step x = not_reader x (registry_did step x) refl refl

module _ (es : List Entry) (w : World) (d : Done) (i : Ruled es w) (rules : d.world.bus.state.rules ≡ w.bus.state.rules) where
  by_over : Over SameIn w.ends d.world.ends → Ruled (es ++ d.entries) d.world
  by_over o = quiet_ruled es d.entries w d.world i o rules

  by_end : (f : End → End) (conn : ℕ) → ((e : End) → SameIn e (f e)) → d.world.ends ≡ with_end conn f w.ends → Ruled (es ++ d.entries) d.world
  by_end f conn same is = by_over (subst (Over SameIn w.ends) (sym is) (over_with SameIn same_in f same conn w.ends))

  -- an end that is no reader takes a message
  by_both : (f : End → End) (conn : ℕ) (e : End) → end_at w.ends conn ≡ Some e → SameIn e (taken_down e) → ((x : End) → SameIn x (f x)) → d.world.ends ≡ with_end conn f (with_end conn taken_down w.ends) → Ruled (es ++ d.entries) d.world
  by_both f conn e there down same is =
      by_over
      (subst (Over SameIn w.ends) (sym is)
      (over_both SameIn same_in w.ends (with_end conn taken_down w.ends) (with_end conn f (with_end conn taken_down w.ends)) (over_at SameIn same_in taken_down conn w.ends e there down) (over_with SameIn same_in f same conn (with_end conn taken_down w.ends))))

  by_same : d.world.ends ≡ w.ends → Ruled (es ++ d.entries) d.world
  by_same is = by_over (subst (Over SameIn w.ends) (sym is) (over_same SameIn same_in w.ends))

app_joins_ruled : (es : List Entry) (w : World) (d : Done) (nu : End) → Ruled es w → d.world.ends ≡ w.ends ++ nu ∷ [] → is_reader nu.who ≡ false → d.world.bus.state.rules ≡ w.bus.state.rules → Ruled (es ++ d.entries) d.world
app_joins_ruled es w d nu i is other rules live k r e h there who role on = by (joined_cases w.ends nu k e (ap (λ l. end_at l k) (sym is) ∙ there))
  where
    by : (end_at w.ends k ≡ Some e) ⊎ ((k ≡ length w.ends) × (e ≡ nu)) → RulesOf (es ++ d.entries) d.world.bus.state.rules k r e h
    by (inl g) =
        rules_more es d.entries w.bus.state.rules d.world.bus.state.rules k r e e h refl refl (λ rule has. subst (Has k rule) (sym rules) has) (i (lived es d.entries live) k r e h g who role on)
    by (inr g) = absurd (false_true (sym other ∙ ap is_reader (ap (λ (x : End). x.who) (sym g.1) ∙ who)))

pub caused_ruled : (es : List Entry) (w : World) (d : Done) → Shape w → Numbered es w → Linked es w → Named es w → length (greeted es) ≤ 1000 → Known es w → Mail es w → Fated es w → Ruled es w → Effect w d → Ruled (es ++ d.entries) d.world
caused_ruled es w d s m l n few known mail fated i (resets quota old is) =
    subst (λ x. Ruled (es ++ x.entries) x.world) (sym is) (λ live k r e h there who role on. absurd (no_reader_first quota k r e there who))
caused_ruled es w d s m l n few known mail fated i (app_joins name short is) =
    app_joins_ruled es w d (new_app w name) i (ap (λ x. x.world.ends) is ∙ app_joined w name) refl (ap (λ x. x.world.bus.state.rules) is)
caused_ruled es w d s m l n few known mail fated i (reader_joins old is) = joins_ruled es w d m i is
caused_ruled es w d s m l n few known mail fated i (app_edited b) = by_end es w d i (ap (λ x. x.world.bus.state.rules) b.is) (has_done b.before b.after) b.conn (app_same b.before b.after) (ap (λ x. x.world.ends) b.is)
caused_ruled es w d s m l n few known mail fated i (app_took b) =
    by_both es w d i (ap (λ x. x.world.bus.state.rules) b.is) (has_done b.before (app_takes b.before b.letter.said.message)) b.conn b.e b.is_here.there (not_reader b.e (taken_down b.e) refl (ap is_reader_role b.role))
    (app_same b.before (app_takes b.before b.letter.said.message)) (ap (λ x. x.world.ends) b.is)
caused_ruled es w d s m l n few known mail fated i (reader_called b) = calls_ruled es w d i b
caused_ruled es w d s m l n few known mail fated i (swapped b) = by_same es w d i (ap (λ x. x.world.bus.state.rules) b.is) (ap (λ x. x.world.ends) b.is)
caused_ruled es w d s m l n few known mail fated i (exited_ b) = by_end es w d i (ap (λ x. x.world.bus.state.rules) b.is) stops b.conn (λ x. gone_in x (stops x) refl refl) (ap (λ x. x.world.ends) b.is)
caused_ruled es w d s m l n few known mail fated i (showed_ b) = by_same es w d i (ap (λ x. x.world.bus.state.rules) b.is) (ap (λ x. x.world.ends) b.is)
caused_ruled es w d s m l n few known mail fated i (told_busy turns is) = by_same es w d i (ap (λ x. x.world.bus.state.rules) is) (ap (λ x. x.world.ends) is)
caused_ruled es w d s m l n few known mail fated i (told_quiet none is) = by_same es w d i (ap (λ x. x.world.bus.state.rules) is) (ap (λ x. x.world.ends) is)
caused_ruled es w d s m l n few known mail fated i (bus_took b) = λ live k r z h there who role on. took_rules es w d s l n few known mail fated i b (lived es d.entries live) k r z h there who role on
caused_ruled es w d s m l n few known mail fated i (bus_ended b) = λ live k r z h there who role on. ended_rules es w d i b (lived es d.entries live) k r z h there who role on
caused_ruled es w d s m l n few known mail fated i (registry_took b) =
    by_both es w d i (ap (λ x. x.world.bus.state.rules) b.is) (registry_did (registry_takes b.before b.letter.said.message)) b.conn b.e b.is_here.there (not_reader b.e (taken_down b.e) refl (ap is_reader_role b.role))
    (registry_same (registry_takes b.before b.letter.said.message)) (ap (λ x. x.world.ends) b.is)
caused_ruled es w d s m l n few known mail fated i (reader_took b) = takes_ruled es w d few mail fated i b

pub first_ruled : (quota : ℕ) → Ruled [] (first_world quota)
first_ruled quota live k r e h there who role on = absurd (no_reader_first quota k r e there who)

pub moved_ruled : (es : List Entry) (w v : World) → Ruled es w → (MovedUp w v ⊎ MovedDown w v) → Ruled es v
moved_ruled es w v i (inl m) =
    subst (λ l. Ruled l v) (append-nil es) (quiet_ruled es [] w v i
    (subst (λ (x : World). Over SameIn w.ends x.ends) (sym m.after) (over_with SameIn same_in (λ e. record e { up_moved = e.up_moved + m.count }) (λ e. alike e (record e { up_moved = e.up_moved + m.count }) refl refl refl refl refl) m.conn w.ends))
    (ap (λ (x : World). x.bus.state.rules) m.after))
moved_ruled es w v i (inr m) =
    subst (λ l. Ruled l v) (append-nil es) (quiet_ruled es [] w v i
    (subst (λ (x : World). Over SameIn w.ends x.ends) (sym m.after) (over_with SameIn same_in (λ e. record e { down_moved = e.down_moved + m.count }) (λ e. alike e (record e { down_moved = e.down_moved + m.count }) refl refl refl refl refl) m.conn w.ends))
    (ap (λ (x : World). x.bus.state.rules) m.after))
