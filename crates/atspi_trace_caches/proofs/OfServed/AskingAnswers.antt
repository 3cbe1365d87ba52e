-- What applications answer, along a lawful trace: each reply answers a call that the application took, and goes to whom that came from. So a return that a reader takes as one to its
-- call for all items stands behind where the application took that call.
use Rattle.std.proofs.Common.{◌≡◌, ◌⊎◌, inl, inr, ℕ, ◌≤◌, Bool, true, false, List, [], ◌∷◌, ◌++◌, length, map, Option, None, Some, refl, sym, ap, ◌∙◌, subst, is_some}
use Rattle.std.specs.Prelude.{◌==◌, ◌||◌}
use Rattle.std.specs.List.{AllByRecursion}
use Rattle.std.proofs.lemmas.Bool.{eqb-true}
use Rattle.std.proofs.lemmas.List.{append_assoc}
use Rattle.std.proofs.lemmas.Slice.Eq.{bytes_eq-Decides}
use Rattle.atspi_tree_model.specs.Forest.{Forest}
use Rattle.atspi_tree_model.specs.Row.{TreeRow}
use Rattle.atspi_tree_model.specs.RowRules.{rows}
use Rattle.atspi_tree_model.specs.Tree.{after}
use Rattle.atspi_tree_model.specs.declared.step.Step.{Step}
use Rattle.atspi_script_lines.specs.declared.line.Party.{Party}
use Rattle.atspi_script_lines.specs.declared.line.Party.TheVariants.{Bus as The_bus, Registry, App, Reader}
use Rattle.atspi_message.specs.Envelope.{Envelope}
use Rattle.atspi_names.specs.Owners.{own_name}
use Rattle.atspi_match.specs.declared.routing.closing.Closing.{Closing}
use Rattle.atspi_match.specs.routing.Members.{is_text}
use Rattle.atspi_match.specs.routing.Routing.{is_reply}
use Rattle.atspi_protocol.specs.ends.Messages.{Reply, returns, fails, reply_to}
use Rattle.atspi_protocol.specs.announcing.Announced.{announced}
use Rattle.atspi_protocol.specs.registering.Steps.{registry_takes}
use Rattle.atspi_protocol.specs.exporting.Exporter.{Happening, steps, sends, hears, deaf, Exporter}
use Rattle.atspi_protocol.specs.exporting.Starting.{name_or_empty}
use Rattle.atspi_protocol.specs.exporting.Taking.{app_takes, answer_to}
use Rattle.atspi_protocol.specs.declared.following.question.Question.{Question}
use Rattle.atspi_protocol.specs.declared.following.question.Question.TheVariants.{Hello, AddMatch, RegisterEvent, GetChildren, GetItems, GetPart}
use Rattle.atspi_trace.specs.Entry.{Entry, changed, sent, got, heard, unheard, dropped}
use Rattle.atspi_trace.specs.World.{Said, Letter, World}
use Rattle.atspi_trace.specs.Ends.{same_party, number_of, whose, party_at, taken_down}
use Rattle.atspi_trace.specs.Carrying as carrying
use Rattle.atspi_trace.specs.Carrying.{bus_entries}
use Rattle.atspi_trace.specs.Hearing.{heard_entries}
use Rattle.atspi_trace.specs.Causes.{Done, did, saids, announced_if, app_starts, reader_starts}
use Rattle.atspi_trace_laws.specs.laws.Words.{message, before_sent, own_call, question_if, answers_question}
use Rattle.atspi_trace_laws.specs.missed.Laws.{IsLoad}
use Rattle.atspi_trace_laws.specs.taken.Laws.{IsTakenAsSent}
use Rattle.atspi_trace_laws.proofs.OfOrder.Parties.{same_some, party-same, false_true}
use Rattle.atspi_trace_laws.proofs.OfOrder.Effects.{received, AppTakes, AppEdits, ReaderTakes, Effect, resets, app_joins, reader_joins, app_edited, app_took, reader_called, swapped, exited_, showed_, told_busy, told_quiet, bus_took, bus_ended, registry_took, reader_took}
use Rattle.atspi_trace_laws.proofs.OfOrder.Shaped.{received_at}
use Rattle.atspi_trace_laws.proofs.OfOrder.BusWords.{all_any, bus_all}
use Rattle.atspi_trace_laws.proofs.OfOrder.Acts.{number_at}
use Rattle.atspi_trace_laws.proofs.OfOrder.Along.{Keeps}
use Rattle.atspi_trace_laws.proofs.OfOrder.Growing.{Grows, Shaped, And, grown}
use Rattle.atspi_trace_laws.proofs.OfOrder.Each.{Each, each_more, each_of, each_split}
use Rattle.atspi_trace_laws.proofs.OfSteps.Steps.{Trees}
use Rattle.atspi_trace_laws.proofs.OfTaken.Found.{found_more, sent_split}
use Rattle.atspi_trace_laws.proofs.OfHeard.Quiet.{heard_all}
use Rattle.atspi_trace_laws.proofs.OfNames.LawEnds.{few_greeted}
use Rattle.atspi_trace_laws.proofs.OfNames.Places.{greeted}
use Rattle.atspi_trace_laws.proofs.OfSigned.Mail.{NameIs, name_more, IsMail, IsPost}
use Rattle.atspi_trace_laws.proofs.OfSigned.Self.{unique_told, one_named, for_bus_true}
use Rattle.atspi_trace_laws.proofs.OfSigned.LawMail.{Mail}
use Rattle.atspi_trace_laws.proofs.OfSigned.Speech.{IsReplyTo, RepliesOnly, NoReply, takes_replies, edit_no_reply}
use Rattle.atspi_trace_laws.proofs.OfMissed.LawMissed.{Under_delivered, delivers_keep}
use Rattle.atspi_trace_laws.proofs.OfMissed.Delivering.{Delivers}
use Rattle.atspi_trace_caches.proofs.OfServed.Asking.{Served, served_behind, LoadIsServed, Among, among_front, among_here}

-- A REPLY of an application answers a call that it took, and goes to whom that came from
pub record IsAnswered (before : List Entry) (a : ℕ) (m : Envelope) : Type 0 where
  pub from : Party
  pub serial : ℕ
  pub caller : List ℕ
  pub taken : Among (got (App a) from serial) before
  pub to : m.destination ≡ Some caller
  pub with_ : m.reply ≡ Some serial
  pub whose : (caller ≡ own_name) ⊎ NameIs before from caller

abbrev pub AnswersOne : List Entry → Entry → List Entry → Type 0
AnswersOne before (sent (App a) m) behind = is_reply m ≡ true → IsAnswered before a m
AnswersOne before entry behind = Unit {0}

-- both laws
abbrev pub Answers : List Entry → Entry → List Entry → Type 0
Answers before entry behind = AnswersOne before entry behind × LoadIsServed before entry behind

abbrev pub Answered : List Entry → World → Type 0
Answered es w = Each Answers [] es

-- ENTRIES of others
abbrev NoAnswer : Entry → Type 0
NoAnswer (sent (App a) m) = is_reply m ≡ false
NoAnswer (got (Reader r) from serial) = ⊥
NoAnswer entry = Unit {0}

no_answer : (before : List Entry) (entry : Entry) (behind : List Entry) → NoAnswer entry → Answers before entry behind
no_answer before (sent (App a) m) behind n = ((λ h. absurd (false_true (sym n ∙ h))), tt)
no_answer before (sent The_bus m) behind n = (tt, tt)
no_answer before (sent Registry m) behind n = (tt, tt)
no_answer before (sent (Reader r) m) behind n = (tt, tt)
no_answer before (got (Reader r) from serial) behind n = absurd n
no_answer before (got The_bus from serial) behind n = (tt, tt)
no_answer before (got Registry from serial) behind n = (tt, tt)
no_answer before (got (App a) from serial) behind n = (tt, tt)
no_answer before entry behind n = (tt, tt)

weaker : (ys before : List Entry) (entry : Entry) (behind : List Entry) → Answers before entry behind → Answers before entry (behind ++ ys)
weaker ys before (sent (App a) m) behind h = h
weaker ys before (sent The_bus m) behind h = (tt, tt)
weaker ys before (sent Registry m) behind h = (tt, tt)
weaker ys before (sent (Reader r) m) behind h = (tt, tt)
weaker ys before (got (Reader r) (App a) serial) behind h = h
weaker ys before (got (Reader r) The_bus serial) behind h = (tt, tt)
weaker ys before (got (Reader r) Registry serial) behind h = (tt, tt)
weaker ys before (got (Reader r) (Reader q) serial) behind h = (tt, tt)
weaker ys before (got The_bus from serial) behind h = (tt, tt)
weaker ys before (got Registry from serial) behind h = (tt, tt)
weaker ys before (got (App a) from serial) behind h = (tt, tt)
weaker ys before entry behind h = (tt, tt)

all_weaker : (ys early xs : List Entry) → Each Answers early xs → Each (λ before entry behind. Answers before entry (behind ++ ys)) early xs
all_weaker ys early [] e = tt
all_weaker ys early (x ∷ xs) e = (weaker ys early x xs e.0, all_weaker ys (early ++ x ∷ []) xs e.1)

law_more : (es ys : List Entry) → Each Answers [] es → Each Answers es ys → Each Answers [] (es ++ ys)
law_more es ys a b = each_more Answers [] es ys (all_weaker ys [] es a) b

quietly : (es ys : List Entry) → Each Answers [] es → AllByRecursion NoAnswer ys → Each Answers [] (es ++ ys)
quietly es ys law n = law_more es ys law (each_of NoAnswer Answers es ys no_answer n)

quiet_of : (es : List Entry) (d x : Done) → d ≡ x → Each Answers [] es → AllByRecursion NoAnswer x.entries → Each Answers [] (es ++ d.entries)
quiet_of es d x is law n = subst (λ y. Each Answers [] (es ++ y.entries)) (sym is) (quietly es x.entries law n)

none_sent : (who : Party) (es : List Envelope) → who ≡ Registry → AllByRecursion NoAnswer (map (sent who) es)
none_sent who es is = subst (λ p. AllByRecursion NoAnswer (map (sent p) es)) (sym is) (go es)
  where
    go : (xs : List Envelope) → AllByRecursion NoAnswer (map (sent Registry) xs)
    go [] = tt
    go (x ∷ xs) = (tt, go xs)

-- a word of the bus's
bus_none : (c : carrying.Carried) → AllByRecursion NoAnswer (bus_entries c.ends c.bus.own c.bus.closings)
bus_none c = bus_all NoAnswer (λ e. tt) c.ends c.bus.own c.bus.closings (all_any (λ (x : Closing). (queued len : ℕ) → NoAnswer (dropped (party_at c.ends x.conn) queued len)) (λ x queued len. tt) c.bus.closings)

did_none : (a : ℕ) (hs : List Happening) → NoReply hs → AllByRecursion NoAnswer (map (did a) hs)
did_none a [] n = tt
did_none a (steps step ∷ hs) n = (tt, did_none a hs n)
did_none a (sends e ∷ hs) n = (n.0, did_none a hs n.1)
did_none a (hears listener pattern ∷ hs) n = (tt, did_none a hs n)
did_none a (deaf listener pattern ∷ hs) n = (tt, did_none a hs n)

-- AN APPLICATION TAKES A MESSAGE
reply_for : (caller : List ℕ) (serial : ℕ) (r : Reply) → ((reply_to caller serial r).destination ≡ Some caller) × ((reply_to caller serial r).reply ≡ Some serial)
reply_for caller serial (returns values) = (refl, refl)
reply_for caller serial (fails word) = (refl, refl)

-- whoever sent it
abbrev Sender : List Entry → Party → Envelope → Type 0
Sender early from e = (caller : List ℕ) → e.sender ≡ Some caller → (caller ≡ own_name) ⊎ NameIs early from caller

sender_more : (early ys : List Entry) (from : Party) (e : Envelope) → Sender early from e → Sender (early ++ ys) from e
sender_more early ys from e s caller is = by (s caller is)
  where
    by : (caller ≡ own_name) ⊎ NameIs early from caller → (caller ≡ own_name) ⊎ NameIs (early ++ ys) from caller
    by (inl h) = inl h
    by (inr n) = inr (name_more early ys from caller n)

module _ (a : ℕ) (s : Exporter) (e : Envelope) (from : Party) where
  all_answer : (hs : List Happening) (f : Forest TreeRow) (announces : Option Step) (early : List Entry) → Among (got (App a) from e.serial) early → Sender early from e → AllByRecursion (RepliesOnly (IsReplyTo s e)) (saids s f announces hs)
      → Each Answers early (map (did a) hs)
  all_answer [] f announces early among from_ r = tt
  all_answer (steps step ∷ hs) f announces early among from_ r = (
    (tt, tt),
    all_answer hs (after rows f step) (announced_if s.heard step (announced (name_or_empty s.name) f step)) (early ++ changed a step ∷ []) (among_front (got (App a) from e.serial) early (changed a step ∷ []) among)
        (sender_more early (changed a step ∷ []) from e from_) r,
  )
  all_answer (hears listener pattern ∷ hs) f announces early among from_ r = (
    (tt, tt),
    all_answer hs f announces (early ++ heard a listener pattern ∷ []) (among_front (got (App a) from e.serial) early (heard a listener pattern ∷ []) among) (sender_more early (heard a listener pattern ∷ []) from e from_) r,
  )
  all_answer (deaf listener pattern ∷ hs) f announces early among from_ r = (
    (tt, tt),
    all_answer hs f announces (early ++ unheard a listener pattern ∷ []) (among_front (got (App a) from e.serial) early (unheard a listener pattern ∷ []) among) (sender_more early (unheard a listener pattern ∷ []) from e from_) r,
  )
  all_answer (sends m ∷ hs) f announces early among from_ r = (
    (
      λ h.
          let x : IsReplyTo s e (record { message = m; tree = f; announces = announces }) = r.0 h in
          let for = reply_for x.caller e.serial (answer_to s x.name e).reply in
          record {
            from = from;
            serial = e.serial;
            caller = x.caller;
            taken = among;
            to = ap (λ (z : Envelope). z.destination) x.message ∙ for.0;
            with_ = ap (λ (z : Envelope). z.reply) x.message ∙ for.1;
            whose = from_ x.caller x.sender;
          },
      tt,
    ),
    all_answer hs f None (early ++ sent (App a) m ∷ []) (among_front (got (App a) from e.serial) early (sent (App a) m ∷ []) among) (sender_more early (sent (App a) m ∷ []) from e from_) r.1,
  )

mail_sender : (es : List Entry) (who : Party) (letter : Letter) → IsMail es who letter → Sender es letter.from letter.said.message
mail_sender es who letter (inl b) caller is = inl ((bytes_eq-Decides caller own_name).0 (ap (λ z. is_text z own_name) (sym is) ∙ b.own))
mail_sender es who letter (inr p) caller is = inr (subst (NameIs es letter.from) (same_some p.caller caller (sym p.sender ∙ is)) p.name)

takes_answer : (es : List Entry) (w : World) (d : Done) → Trees es w → Mail es w → Each Answers [] es → AppTakes w d → Each Answers [] (es ++ d.entries)
takes_answer es w d t mail law b =
    subst (λ l. Each Answers [] (es ++ l)) (sym wrote)
    (law_more es (first ∷ map (did b.app) after.out) law (
      (tt, tt),
      all_answer b.app b.before b.letter.said.message b.letter.from after.out b.before.tree None (es ++ first ∷ []) (among_here first es [])
          (sender_more es (first ∷ []) b.letter.from b.letter.said.message (mail_sender es b.e.who b.letter (subst (AllByRecursion (IsMail es b.e.who)) b.link (mail.downs b.conn b.e b.is_here.there b.is_here.standing)).0))
          (takes_replies b.before b.letter.said.message (t b.conn b.app b.e b.before b.is_here.there b.whose b.role).empty),
    ))
  where
    after : Exporter
    after = app_takes b.before b.letter.said.message

    first : Entry
    first = got (App b.app) b.letter.from b.letter.said.message.serial

    wrote : d.entries ≡ first ∷ map (did b.app) after.out
    wrote =
        ap (λ x. x.entries) b.is ∙ ap (λ n. got b.e.who b.letter.from b.letter.said.message.serial ∷ map (did n) after.out)
        (number_at (received w b.conn b.e b.letter).ends b.conn b.app (taken_down b.e) (received_at w b.conn b.e b.letter b.is_here.there) b.whose)
        ∙ ap (λ p. got p b.letter.from b.letter.said.message.serial ∷ map (did b.app) after.out) b.whose

edits_answer : (es : List Entry) (w : World) (d : Done) → Trees es w → Each Answers [] es → AppEdits w d → Each Answers [] (es ++ d.entries)
edits_answer es w d t law b = quiet_of es d _ b.is law (did_none _ b.after.out (edit_no_reply b.before b.after b.edit b.done (t b.conn b.app b.e b.before b.is_here.there b.whose b.role).empty))

-- A READER TAKES A MESSAGE
among_split : (e : Entry) (xs : List Entry) → Among e xs → (early : List Entry) × (rest : List Entry) × (xs ≡ early ++ e ∷ rest)
among_split e [] h = absurd h
among_split e (x ∷ xs) (inl same) = ([], xs, ap (λ y. y ∷ xs) same)
among_split e (x ∷ xs) (inr h) = let r = among_split e xs h in (x ∷ r.0, r.1, ap (λ l. x ∷ l) r.2)

-- what a load answers
pub record IsLoadOf (es : List Entry) (r : ℕ) (m : Envelope) : Type 0 where
  pub serial : ℕ
  pub name : List ℕ
  pub kind : m.kind ≡ 2
  pub reply : m.reply ≡ Some serial
  pub call : own_call es r serial ≡ Some (GetItems name)

load_of : (es : List Entry) (r : ℕ) (m : Envelope) → IsLoad (answers_question es r (Some m)) → IsLoadOf es r m
load_of es r m load = by m.reply refl (m.kind == 2) refl load
  where
    items : (o : Option Question) → IsLoad o → (name : List ℕ) × (o ≡ Some (GetItems name))
    items (Some (GetItems name)) l = (name, refl)
    items None l = absurd l
    items (Some Hello) l = absurd l
    items (Some (AddMatch rule)) l = absurd l
    items (Some (RegisterEvent pattern)) l = absurd l
    items (Some GetChildren) l = absurd l
    items (Some (GetPart name path part)) l = absurd l

    by : (o : Option ℕ) → m.reply ≡ o → (b : Bool) → (m.kind == 2) ≡ b → IsLoad (answers_question es r (Some m)) → IsLoadOf es r m
    by None g b k l = absurd (none l)
      where
        none : IsLoad (answers_question es r (Some m)) → ⊥
        none = rw g (λ l. l)
    by (Some n) g true k l = let x = items (own_call es r n) (some l) in record { serial = n; name = x.0; kind = eqb-true m.kind 2 k; reply = g; call = x.1 }
      where
        some : IsLoad (answers_question es r (Some m)) → IsLoad (own_call es r n)
        some = rw (g, k) (λ l. l)
    by (Some n) g false k l = absurd (none l)
      where
        none : IsLoad (answers_question es r (Some m)) → ⊥
        none = rw (g, k) (λ l. l)

-- a call that was taken was sent before
sent_before_taken : (es : List Entry) (r a n : ℕ) (name : List ℕ) (early rest : List Entry) → Each IsTakenAsSent [] es → es ≡ early ++ got (App a) (Reader r) n ∷ rest → own_call es r n ≡ Some (GetItems name) → own_call early r n ≡ Some (GetItems name)
sent_before_taken es r a n name early rest law is call = by (message early (Reader r) n) refl (each_split IsTakenAsSent [] es law early (got (App a) (Reader r) n) rest is)
  where
    by : (o : Option Envelope) → message early (Reader r) n ≡ o → is_some (message early (Reader r) n) ≡ true → own_call early r n ≡ Some (GetItems name)
    by None h s = absurd (false_true (sym (ap is_some h) ∙ s))
    by (Some m) h s =
        ap question_if (h ∙ sym (found_more early (got (App a) (Reader r) n ∷ rest) (Reader r) n m h)) ∙ ap (λ l. own_call l r n) (sym is) ∙ call

module _ (es : List Entry) (r a : ℕ) (letter : Letter) (few : length (greeted es) ≤ 1000) (taken : Each IsTakenAsSent [] es) (law : Each Answers [] es) (from : letter.from ≡ App a) (p : IsPost es (Reader r) letter) where
  abbrev s0 : ℕ
  s0 = letter.said.message.serial

  abbrev m : Envelope
  m = p.first.message

  is_it : letter.said.message ≡ record m { sender = Some p.caller }
  is_it = ap (λ (z : Said). z.message) p.alike

  was : message es (App a) s0 ≡ Some m
  was = ap (message es (App a)) (ap (λ (z : Envelope). z.serial) is_it) ∙ subst (λ q. message es q m.serial ≡ Some m) from p.sent_.was

  abbrev front : List Entry
  front = before_sent (App a) s0 es

  abbrev rest : List Entry
  rest = (sent_split es (App a) s0 m was).0

  place : es ≡ front ++ sent (App a) m ∷ rest
  place = (sent_split es (App a) s0 m was).1

  load_served : IsLoad (answers_question es r (message es (App a) s0)) → Served front r a
  load_served load = by x.whose
    where
      y : IsLoadOf es r m
      y = load_of es r m (subst (λ o. IsLoad (answers_question es r o)) was load)

      x : IsAnswered front a m
      x = (each_split Answers [] es law front (sent (App a) m) rest place).0 (ap (λ n. n == 2 || n == 3) y.kind)

      goes : letter.said.message.destination ≡ Some x.caller
      goes = ap (λ (z : Envelope). z.destination) is_it ∙ x.to

      number : x.serial ≡ y.serial
      number = same_some x.serial y.serial (sym x.with_ ∙ y.reply)

      by : (x.caller ≡ own_name) ⊎ NameIs front x.from x.caller → Served front r a
      by (inl own) = absurd (false_true (sym p.not_bus ∙ for_bus_true letter.said.message (goes ∙ ap Some own)))
      by (inr n) =
          let named : NameIs es x.from x.caller = subst (λ l. NameIs l x.from x.caller) (sym place) (name_more front (sent (App a) m ∷ rest) x.from x.caller n) in
          let mine : NameIs es (Reader r) x.caller = p.routed x.caller goes (unique_told es x.from x.caller named) in
          let who : x.from ≡ Reader r = one_named es x.from (Reader r) x.caller few named mine in
          at (subst (λ k. Among (got (App a) (Reader r) k) front) number (subst (λ q. Among (got (App a) q x.serial) front) who x.taken))
        where
          at : Among (got (App a) (Reader r) y.serial) front → Served front r a
          at among =
              let z = among_split (got (App a) (Reader r) y.serial) front among in
              subst (λ l. Served l r a) (sym z.2)
              (served_behind [] z.0 (got (App a) (Reader r) y.serial ∷ z.1) r a
              (inl (
                refl,
                refl,
                y.name,
                sent_before_taken es r a y.serial y.name z.0 (z.1 ++ sent (App a) m ∷ rest) taken
                    (place ∙ ap (λ l. l ++ sent (App a) m ∷ rest) z.2 ∙ append_assoc z.0 (got (App a) (Reader r) y.serial ∷ z.1) (sent (App a) m ∷ rest)) y.call,
              )))

from_apart : (a : ℕ) (l : Letter) → l.from ≡ App a → l.from ≡ The_bus → ⊥
from_apart a l h g = false_true (ap (λ p. same_party p (App a)) (sym g ∙ h) ∙ party-same (App a))

reader_answers : (es : List Entry) (w : World) (d : Done) → length (greeted es) ≤ 1000 → Each IsTakenAsSent [] es → Mail es w → Each Answers [] es → ReaderTakes w d → Each Answers [] (es ++ d.entries)
reader_answers es w d few taken mail law b =
    subst (λ l. Each Answers [] (es ++ l)) (sym wrote)
    (law_more es (got (Reader b.reader) b.letter.from b.letter.said.message.serial ∷ rest) law (
      first b.letter.from refl,
      each_of NoAnswer Answers (es ++ got (Reader b.reader) b.letter.from b.letter.said.message.serial ∷ []) rest no_answer (heard_all NoAnswer (λ r app line. tt) (λ r app. tt) (number_of b.e.who) b.hearer (received w b.conn b.e b.letter).ends b.letter),
    ))
  where
    rest : List Entry
    rest = heard_entries (number_of b.e.who) b.hearer (received w b.conn b.e b.letter).ends b.letter

    wrote : d.entries ≡ got (Reader b.reader) b.letter.from b.letter.said.message.serial ∷ rest
    wrote = ap (λ x. x.entries) b.is ∙ ap (λ p. got p b.letter.from b.letter.said.message.serial ∷ rest) b.whose

    its : IsMail es (Reader b.reader) b.letter
    its = subst (λ p. IsMail es p b.letter) b.whose (subst (AllByRecursion (IsMail es b.e.who)) b.link (mail.downs b.conn b.e b.is_here.there b.is_here.standing)).0

    served : (a : ℕ) → b.letter.from ≡ App a → IsMail es (Reader b.reader) b.letter → IsLoad (answers_question es b.reader (message es (App a) b.letter.said.message.serial)) → Served (before_sent (App a) b.letter.said.message.serial es) b.reader a
    served a h (inl x) load = absurd (from_apart a b.letter h x.from)
    served a h (inr p) load = load_served es b.reader a b.letter few taken law h p load

    first : (from : Party) → b.letter.from ≡ from → Answers es (got (Reader b.reader) from b.letter.said.message.serial) rest
    first The_bus h = (tt, tt)
    first Registry h = (tt, tt)
    first (Reader q) h = (tt, tt)
    first (App a) h = (tt, served a h its)

-- EACH CAUSE
got_no_answer : (who from : Party) (serial : ℕ) → who ≡ Registry → NoAnswer (got who from serial)
got_no_answer who from serial is = subst (λ p. NoAnswer (got p from serial)) (sym is) tt

call_no_answer : (who : Party) (r : ℕ) (m : Envelope) → who ≡ Reader r → NoAnswer (sent who m)
call_no_answer who r m is = subst (λ p. NoAnswer (sent p m)) (sym is) tt

caused : (es : List Entry) (w : World) (d : Done) → length (greeted es) ≤ 1000 → Trees es w → Each IsTakenAsSent [] es → Mail es w → Answered es w → Effect w d → Answered (es ++ d.entries) d.world
caused es w d few t taken mail law (resets quota alone is) = quiet_of es d _ is law tt
caused es w d few t taken mail law (app_joins name short is) = quiet_of es d (app_starts w name) is law (tt, (refl, tt))
caused es w d few t taken mail law (reader_joins fewer is) = quiet_of es d (reader_starts w) is law (tt, (tt, tt))
caused es w d few t taken mail law (app_edited b) = edits_answer es w d t law b
caused es w d few t taken mail law (app_took b) = takes_answer es w d t mail law b
caused es w d few t taken mail law (reader_called b) = quiet_of es d _ b.is law (call_no_answer _ b.reader _ (ap whose b.is_here.there ∙ b.whose), tt)
caused es w d few t taken mail law (swapped b) = quiet_of es d _ b.is law tt
caused es w d few t taken mail law (exited_ b) = quiet_of es d _ b.is law (tt, tt)
caused es w d few t taken mail law (showed_ b) = quiet_of es d _ b.is law (tt, tt)
caused es w d few t taken mail law (told_busy turns is) = quiet_of es d _ is law (tt, tt)
caused es w d few t taken mail law (told_quiet none is) = quiet_of es d _ is law (tt, tt)
caused es w d few t taken mail law (bus_took b) = quiet_of es d _ b.is law (tt, bus_none (carrying.takes (record { bus = w.bus; ends = w.ends }) b.conn b.e.who b.said))
caused es w d few t taken mail law (bus_ended b) = quiet_of es d _ b.is law (bus_none (carrying.takes_end (record { bus = w.bus; ends = w.ends }) b.conn))
caused es w d few t taken mail law (registry_took b) =
    quiet_of es d _ b.is law (got_no_answer b.e.who b.letter.from b.letter.said.message.serial b.whose, none_sent b.e.who (registry_takes b.before b.letter.said.message).sent b.whose)
caused es w d few t taken mail law (reader_took b) = reader_answers es w d few taken mail law b

abbrev pub Under_answers : List Entry → World → Type 0
Under_answers es w = And Under_delivered Delivers es w

answers_grow : Grows Under_answers Answered
answers_grow = record {
  begins = tt;
  caused = λ es w d s u i e after b.
      let m = u.0.0.1.0 in
      let q = m.0.1.0 in
      caused es w d (few_greeted es w m.0.1.1.1 m.0.0.1) q.0.0.0.0.1.1 q.1.0 m.1.0 i e;
  moved = λ es w v s u i m. i;
  asked = λ es w conn r m question s u i a. quietly es (sent (Reader r) m ∷ []) i (tt, tt);
}

pub answers_keep : Keeps (Shaped (And Under_answers Answered))
answers_keep = grown Under_answers Answered delivers_keep answers_grow
