-- What a reader takes as the return to its own call is the application's answer to it, along a lawful trace.
use Rattle.std.proofs.Common.{◌≡◌, ◌⊎◌, inl, inr, ℕ, ◌≤◌, Bool, true, false, List, [], ◌∷◌, ◌++◌, length, Option, None, Some, refl, sym, ap, ap₂, ◌∙◌, subst}
use Rattle.std.specs.Prelude.{◌==◌, ◌||◌, if◌then◌else◌}
use Rattle.std.specs.List.{AllByRecursion}
use Rattle.std.proofs.lemmas.Bool.{eqb-true}
use Rattle.atspi_tree_model.specs.Path.{path_of}
use Rattle.atspi_tree_model.specs.Announce.{items}
use Rattle.atspi_tree_model.specs.Forest.{count}
use Rattle.atspi_tree_model.proofs.Load.{load_items}
use Rattle.atspi_tree_model.specs.View.{nothing_told, view}
use Rattle.atspi_tree_model.specs.News.{load}
use Rattle.atspi_tree_model.specs.RowRules.{rows}
use Rattle.atspi_tree_model.specs.Tree.{is_node, after_all}
use Rattle.atspi_script_lines.specs.declared.line.Line.{Line}
use Rattle.atspi_script_lines.specs.declared.line.Party.{Party}
use Rattle.atspi_script_lines.specs.declared.line.Party.TheVariants.{Bus as The_bus, Registry, App, Reader}
use Rattle.atspi_message.specs.Envelope.{Envelope}
use Rattle.atspi_names.specs.Owners.{own_name}
use Rattle.atspi_protocol.specs.exporting.Exporter.{Exporter, named}
use Rattle.atspi_protocol.specs.exporting.Taking.{app_takes, answer_to}
use Rattle.atspi_protocol.specs.ends.Messages.{reply_to}
use Rattle.atspi_protocol.specs.following.Calls.{asking}
use Rattle.atspi_protocol.specs.declared.following.question.Question.{Question}
use Rattle.atspi_protocol.specs.declared.following.question.Question.TheVariants.{GetItems, GetPart}
use Rattle.atspi_protocol.specs.declared.news.part.PartName.{PartName}
use Rattle.atspi_protocol.specs.declared.news.part.PartName.TheVariants.{Text, Caret, Columns}
use Rattle.atspi_protocol.specs.news.Replies.{items_told}
use Rattle.atspi_protocol.specs.objects.Application.{Application}
use Rattle.atspi_protocol.specs.objects.Answers.{Answer, tells, items_data}
use Rattle.atspi_protocol.specs.registering.Steps.{registry_takes}
use Rattle.atspi_trace.specs.Entry.{Entry, sent, got}
use Rattle.atspi_trace.specs.World.{Said, Letter, World}
use Rattle.atspi_trace.specs.Ends.{same_party, number_of}
use Rattle.atspi_trace.specs.Carrying as carrying
use Rattle.atspi_trace.specs.Hearing.{question_in, heard_entries}
use Rattle.atspi_trace.specs.Causes.{Done, app_starts, reader_starts}
use Rattle.atspi_trace.specs.Due.{begins, Goes}
use Rattle.atspi_trace_laws.specs.laws.Words.{message, added, before_sent, as_of, question_if, own_call, answer_to as answer_of, answers_question}
use Rattle.atspi_trace_laws.specs.laws.NineLaws.{Everywhere, LawOfSteps}
use Rattle.atspi_trace_laws.specs.order.Scripts.{CanAllStand}
use Rattle.atspi_trace_laws.specs.signed.Laws.{IsItsName}
use Rattle.atspi_trace_laws.specs.views.Laws.{StepsOnTree}
use Rattle.atspi_trace_laws.specs.answered.Laws.{TellsItems, TellsPart, IsItemsTold, IsPartTold}
use Rattle.atspi_trace_laws.proofs.OfOrder.Parties.{no_none, same_some, party-same, false_true}
use Rattle.atspi_trace_laws.proofs.OfOrder.Effects.{received, ReaderTakes, Effect, resets, app_joins, reader_joins, app_edited, app_took, reader_called, swapped, exited_, showed_, told_busy, told_quiet, bus_took, bus_ended, registry_took, reader_took}
use Rattle.atspi_trace_laws.proofs.OfOrder.Along.{Keeps, kept}
use Rattle.atspi_trace_laws.proofs.OfOrder.Growing.{Grows, Shaped, And, grown}
use Rattle.atspi_trace_laws.proofs.OfOrder.Each.{Each, everywhere, each_more, each_of}
use Rattle.atspi_trace_laws.proofs.OfHeard.Quiet.{heard_all}
use Rattle.atspi_trace_laws.proofs.OfTaken.Said.{TellsOf}
use Rattle.atspi_trace_laws.proofs.OfTaken.LawTaken.{NotGot, did_not_got, sent_not_got, bus_not_got}
use Rattle.atspi_trace_laws.proofs.OfNames.LawEnds.{few_greeted}
use Rattle.atspi_trace_laws.proofs.OfNames.Places.{greeted, told_is}
use Rattle.atspi_trace_laws.proofs.OfSigned.Mail.{NameIs, Content, IsAnswerOf, IsCallOf, IsAnswer, IsPost, IsMail}
use Rattle.atspi_trace_laws.proofs.OfSigned.Self.{unique_told, one_named, for_bus_true}
use Rattle.atspi_trace_laws.proofs.OfSigned.LawMail.{Under_mail, Known_mail, mail_keeps}
use Rattle.atspi_trace_laws.proofs.OfSteps.LawSteps.{steps_apply}
use Rattle.atspi_trace_laws.proofs.OfViews.LawViews.{trees_stand}
use Rattle.atspi_trace_laws.proofs.OfAnswered.Items.{its_registry, answers_items, told_items}
use Rattle.atspi_trace_laws.proofs.OfAnswered.Parts.{part_answer, part_return, part_steps}
use Rattle.atspi_trace_laws.proofs.OfAnswered.Counted.{sent_counted}

-- A RETURN, AS A READER READS IT
no_app_bus : (a : ℕ) → App a ≡ The_bus → ⊥
no_app_bus a h = false_true (ap (λ p. same_party p The_bus) h)

-- the question that it answers
pub record IsReturn (es : List Entry) (r : ℕ) (e : Envelope) (question : Question) : Type 0 where
  pub two : e.kind ≡ 2
  pub serial : ℕ
  pub reply : e.reply ≡ Some serial
  pub asked : question_if (message es (Reader r) serial) ≡ Some question

return_of : (es : List Entry) (r : ℕ) (e : Envelope) (question : Question) → answers_question es r (Some e) ≡ Some question → IsReturn es r e question
return_of es r e question h = by e.reply refl (e.kind == 2) refl h
  where
    by : (o : Option ℕ) → e.reply ≡ o → (b : Bool) → (e.kind == 2) ≡ b → answer_of es r e o ≡ Some question → IsReturn es r e question
    by None g b k q = absurd (no_none question q)
    by (Some s) g true k q = record { two = eqb-true e.kind 2 k; serial = s; reply = g; asked = sym (ap (λ b. if b then own_call es r s else None) k) ∙ q }
    by (Some s) g false k q = absurd (no_none question (sym (ap (λ b. if b then own_call es r s else None) k) ∙ q))

-- THE ANSWER TO IT: what an application took was the reader's call
pub record IsHisAnswer (es : List Entry) (r a : ℕ) (first : Said) (question : Question) : Type 0 where
  pub caller : List ℕ
  pub serial : ℕ
  pub call : Envelope
  pub spelled : call ≡ record (asking serial question) { sender = Some caller }
  pub answer : IsAnswerOf es a first call caller

his_answer : (es : List Entry) (r a : ℕ) (letter : Letter) (question : Question) → length (greeted es) ≤ 1000 → letter.from ≡ App a → (p : IsPost es (Reader r) letter) → IsReturn es r p.first.message question → IsHisAnswer es r a p.first question
his_answer es r a letter question few from p ret = by answer.called.known
  where
    is_it : letter.said.message ≡ record p.first.message { sender = Some p.caller }
    is_it = ap (λ (z : Said). z.message) p.alike

    answer : IsAnswer es letter.from p.first
    answer = p.speech.answers (ap (λ n. n == 2 || n == 3) ret.two)

    goes : letter.said.message.destination ≡ Some answer.called.caller
    goes = ap (λ (m : Envelope). m.destination) is_it ∙ answer.to

    serial : answer.call.serial ≡ ret.serial
    serial = same_some answer.call.serial ret.serial (sym answer.with_ ∙ ret.reply)

    content : IsAnswerOf es a p.first answer.call answer.called.caller
    content = subst (λ w. Content es w p.first answer.call answer.called.caller) from answer.content

    by : (answer.called.caller ≡ own_name) ⊎ IsCallOf es answer.called.from answer.called.caller answer.call → IsHisAnswer es r a p.first question
    by (inl own) = absurd (false_true (sym p.not_bus ∙ for_bus_true letter.said.message (goes ∙ ap Some own)))
    by (inr c) =
        let mine : NameIs es (Reader r) answer.called.caller = p.routed answer.called.caller goes (unique_told es answer.called.from answer.called.caller c.name) in
        let who : answer.called.from ≡ Reader r = one_named es answer.called.from (Reader r) answer.called.caller few c.name mine in
        let asked : question_in c.first ≡ Some question = ap question_if (sym c.was ∙ ap₂ (message es) who serial) ∙ ret.asked in
        record {
          caller = answer.called.caller;
          serial = c.first.serial;
          call = answer.call;
          spelled = c.alike ∙ ap (λ (m : Envelope). record m { sender = Some answer.called.caller }) (c.asks r who question asked);
          answer = content;
        }

-- WHAT THE ANSWER TO A CALL FOR ALL ITEMS TELLS
items_of_answer : (es : List Entry) (r a : ℕ) (first : Said) (asked : List ℕ) → (h : IsHisAnswer es r a first (GetItems asked)) → (name : List ℕ) → IsItsName es a name → as_of es a first.message.serial ≡ first.tree → TellsItems name (as_of es a first.message.serial) first.message
items_of_answer es r a first asked h name its tree = record {
  items = items x.name its_registry x.app.tree;
  told = ap items_told message_is ∙ told_items app x.app.added h.caller h.call.serial first.message.serial x.has;
  loads = ap (λ n. load (path_of 0) n (items x.name its_registry x.app.tree)) (sym same) ∙ load_items x.name its_registry x.app.tree x.app.added x.has ∙ ap (view nothing_told) (sym tree_is);
}
  where
    x : IsAnswerOf es a first h.call h.caller
    x = h.answer

    app : Application
    app = named x.app x.name

    same : x.name ≡ name
    same = its x.name (told_is es (App a) ∙ x.told)

    answered : answer_to x.app x.name h.call ≡ tells app (items_data app)
    answered = ap (answer_to x.app x.name) h.spelled ∙ answers_items app

    tree_is : as_of es a first.message.serial ≡ x.app.tree
    tree_is = tree ∙ x.tree ∙ ap (λ (y : Answer). after_all rows x.app.tree y.steps) answered

    message_is : first.message ≡ record (reply_to h.caller h.call.serial (tells app (items_data app)).reply) { serial = first.message.serial }
    message_is = x.message ∙ ap (λ (y : Answer). record (reply_to h.caller h.call.serial y.reply) { serial = first.message.serial }) answered

-- as the reader takes it
pub record IsReplied (es : List Entry) (r a serial : ℕ) (question : Question) (e : Envelope) : Type 0 where
  pub first : Said
  pub his : IsHisAnswer es r a first question
  pub same : first.message ≡ e
  pub with_ : serial ≡ first.message.serial
  pub tree : as_of es a first.message.serial ≡ first.tree

app_replies : (es : List Entry) (r a : ℕ) (letter : Letter) → length (greeted es) ≤ 1000 → letter.from ≡ App a → IsPost es (Reader r) letter → (question : Question) (e : Envelope)
    → message es (App a) letter.said.message.serial ≡ Some e → answers_question es r (Some e) ≡ Some question → IsReplied es r a letter.said.message.serial question e
app_replies es r a letter few from p question e found answers = record { first = p.first; his = his_answer es r a letter question few from p ret; same = same; with_ = serial; tree = tells.tree }
  where
    serial : letter.said.message.serial ≡ p.first.message.serial
    serial = ap (λ (z : Said). z.message.serial) p.alike

    was : message es (App a) p.first.message.serial ≡ Some p.first.message
    was = ap (λ w. message es w p.first.message.serial) (sym from) ∙ p.sent_.was

    same : p.first.message ≡ e
    same = same_some p.first.message e (sym was ∙ ap (message es (App a)) (sym serial) ∙ found)

    ret : IsReturn es r p.first.message question
    ret = return_of es r p.first.message question (ap (λ m. answers_question es r (Some m)) same ∙ answers)

    tells : TellsOf es (App a) p.first
    tells = subst (λ w. TellsOf es w p.first) from p.sent_.tells

-- WHAT THE ANSWER TO A CALL FOR A PART TELLS
pub part_call_answered : (app : Exporter) (name : List ℕ) (caller : List ℕ) (serial : ℕ) (asked path : List ℕ) (part : PartName)
    → answer_to app name (record (asking serial (GetPart asked path part)) { sender = Some caller }) ≡ part_answer (named app name) path part
part_call_answered app name caller serial asked path Text = refl
part_call_answered app name caller serial asked path Caret = refl
part_call_answered app name caller serial asked path Columns = refl

part_of_answer : (es : List Entry) (r a : ℕ) (first : Said) (asked path : List ℕ) (part : PartName) → (h : IsHisAnswer es r a first (GetPart asked path part)) → (name : List ℕ) (most : ℕ) → first.message.kind ≡ 2
    → as_of es a first.message.serial ≡ first.tree → ((m : ℕ) → 1 ≤ count (is_node m) (as_of es a first.message.serial) → m ≤ most) → TellsPart name (as_of es a first.message.serial) most path part first.message
part_of_answer es r a first asked path part h name most two tree low =
    subst (λ f. TellsPart name f most path part first.message) (sym tree_is)
    (part_return name h.caller h.call.serial first.message.serial app x.app.added most path part first.message x.has (λ m there. low m (subst (λ f. 1 ≤ count (is_node m) f) (sym tree_is) there)) message_is two)
  where
    x : IsAnswerOf es a first h.call h.caller
    x = h.answer

    app : Application
    app = named x.app x.name

    answered : answer_to x.app x.name h.call ≡ part_answer app path part
    answered = ap (answer_to x.app x.name) h.spelled ∙ part_call_answered x.app x.name h.caller h.serial asked path part

    message_is : first.message ≡ record (reply_to h.caller h.call.serial (part_answer app path part).reply) { serial = first.message.serial }
    message_is = x.message ∙ ap (λ (y : Answer). record (reply_to h.caller h.call.serial y.reply) { serial = first.message.serial }) answered

    tree_is : as_of es a first.message.serial ≡ x.app.tree
    tree_is =
        tree ∙ x.tree ∙ ap (λ (y : Answer). after_all rows x.app.tree y.steps) answered
        ∙ ap (after_all rows x.app.tree) (part_steps h.call.serial first.message.serial h.caller app x.app.added path part first.message x.has message_is two)

-- whatever a reader takes of an application as a reply to its own call is so known
abbrev pub IsKnown : List Entry → Entry → List Entry → Type 0
IsKnown before (got (Reader r) (App a) serial) behind = (question : Question) (e : Envelope) → message before (App a) serial ≡ Some e → answers_question before r (Some e) ≡ Some question → IsReplied before r a serial question e
IsKnown before entry behind = Unit {0}

-- THE LAW OF LISTS
weaker : (ys before : List Entry) (entry : Entry) (behind : List Entry) → IsKnown before entry behind → IsKnown before entry (behind ++ ys)
weaker ys before (got (Reader r) (App a) serial) behind h = h
weaker ys before (got (Reader r) The_bus serial) behind h = tt
weaker ys before (got (Reader r) Registry serial) behind h = tt
weaker ys before (got (Reader r) (Reader q) serial) behind h = tt
weaker ys before (got The_bus from serial) behind h = tt
weaker ys before (got Registry from serial) behind h = tt
weaker ys before (got (App a) from serial) behind h = tt
weaker ys before entry behind h = tt

all_weaker : (ys early xs : List Entry) → Each IsKnown early xs → Each (λ before entry behind. IsKnown before entry (behind ++ ys)) early xs
all_weaker ys early [] e = tt
all_weaker ys early (x ∷ xs) e = (weaker ys early x xs e.0, all_weaker ys (early ++ x ∷ []) xs e.1)

law_more : (es ys : List Entry) → Each IsKnown [] es → Each IsKnown es ys → Each IsKnown [] (es ++ ys)
law_more es ys a b = each_more IsKnown [] es ys (all_weaker ys [] es a) b

quiet_law : (before : List Entry) (entry : Entry) (behind : List Entry) → NotGot entry → IsKnown before entry behind
quiet_law before (got taker sender serial) behind h = absurd h
quiet_law before entry behind h = tt

quietly : (es ys : List Entry) → Each IsKnown [] es → AllByRecursion NotGot ys → Each IsKnown [] (es ++ ys)
quietly es ys law q = law_more es ys law (each_of NotGot IsKnown es ys quiet_law q)

not_got_of : (d x : Done) → d ≡ x → AllByRecursion NotGot x.entries → AllByRecursion NotGot d.entries
not_got_of d x is a = subst (λ y. AllByRecursion NotGot y.entries) (sym is) a

-- an end that is no reader takes a message
other_got : (who from : Party) (serial : ℕ) (es ys : List Entry) → ((r : ℕ) → who ≡ Reader r → ⊥) → Each IsKnown [] es → AllByRecursion NotGot ys → Each IsKnown [] (es ++ got who from serial ∷ ys)
other_got who from serial es ys never law q = law_more es (got who from serial ∷ ys) law (first who never, each_of NotGot IsKnown (es ++ got who from serial ∷ []) ys quiet_law q)
  where
    first : (p : Party) → ((r : ℕ) → p ≡ Reader r → ⊥) → IsKnown es (got p from serial) ys
    first The_bus f = tt
    first Registry f = tt
    first (App a) f = tt
    first (Reader r) f = absurd (f r refl)

-- a reader
reader_got : (es : List Entry) (w : World) (d : Done) → length (greeted es) ≤ 1000 → Known_mail es w → Each IsKnown [] es → ReaderTakes w d → Each IsKnown [] (es ++ d.entries)
reader_got es w d few i law b =
    subst (λ l. Each IsKnown [] (es ++ l)) (sym wrote)
    (law_more es (got (Reader b.reader) b.letter.from b.letter.said.message.serial ∷ rest) law (
      first b.letter.from refl,
      each_of NotGot IsKnown (es ++ got (Reader b.reader) b.letter.from b.letter.said.message.serial ∷ []) rest quiet_law (heard_all NotGot (λ r app line. tt) (λ r app. tt) (number_of b.e.who) b.hearer (received w b.conn b.e b.letter).ends b.letter),
    ))
  where
    rest : List Entry
    rest = heard_entries (number_of b.e.who) b.hearer (received w b.conn b.e b.letter).ends b.letter

    wrote : d.entries ≡ got (Reader b.reader) b.letter.from b.letter.said.message.serial ∷ rest
    wrote = ap (λ x. x.entries) b.is ∙ ap (λ p. got p b.letter.from b.letter.said.message.serial ∷ rest) b.whose

    mail : IsMail es (Reader b.reader) b.letter
    mail = subst (λ p. IsMail es p b.letter) b.whose (subst (AllByRecursion (IsMail es b.e.who)) b.link (i.0.downs b.conn b.e b.is_here.there b.is_here.standing)).0

    of_app : (a : ℕ) → b.letter.from ≡ App a → IsMail es (Reader b.reader) b.letter → IsKnown es (got (Reader b.reader) (App a) b.letter.said.message.serial) rest
    of_app a from (inl m) = absurd (no_app_bus a (sym from ∙ m.from))
    of_app a from (inr p) = λ question e found answers. app_replies es b.reader a b.letter few from p question e found answers

    first : (from : Party) → b.letter.from ≡ from → IsKnown es (got (Reader b.reader) from b.letter.said.message.serial) rest
    first The_bus h = tt
    first Registry h = tt
    first (Reader q) h = tt
    first (App a) h = of_app a h mail

no_reader_registry : (r : ℕ) → Registry ≡ Reader r → ⊥
no_reader_registry r h = false_true (ap (λ p. same_party p (Reader r)) h ∙ party-same (Reader r))

no_reader_app : (a r : ℕ) → App a ≡ Reader r → ⊥
no_reader_app a r h = false_true (ap (λ p. same_party p (Reader r)) h ∙ party-same (Reader r))

no_reader_bus : (r : ℕ) → The_bus ≡ Reader r → ⊥
no_reader_bus r h = false_true (ap (λ p. same_party p (Reader r)) h ∙ party-same (Reader r))

-- EACH CAUSE
abbrev pub Answered : List Entry → World → Type 0
Answered es w = Each IsKnown [] es

caused : (es : List Entry) (w : World) (d : Done) → length (greeted es) ≤ 1000 → Known_mail es w → Answered es w → Effect w d → Answered (es ++ d.entries) d.world
caused es w d few k i (resets quota old is) = quietly es d.entries i (not_got_of d _ is tt)
caused es w d few k i (app_joins name short is) = quietly es d.entries i (not_got_of d (app_starts w name) is (tt, (tt, tt)))
caused es w d few k i (reader_joins old is) = quietly es d.entries i (not_got_of d (reader_starts w) is (tt, (tt, tt)))
caused es w d few k i (app_edited b) = quietly es d.entries i (not_got_of d _ b.is (did_not_got _ b.after.out))
caused es w d few k i (app_took b) =
    subst (λ x. Answered (es ++ x.entries) w) (sym b.is)
    (other_got b.e.who b.letter.from b.letter.said.message.serial es _ (λ r h. no_reader_app b.app r (sym b.whose ∙ h)) i (did_not_got _ (app_takes b.before b.letter.said.message).out))
caused es w d few k i (reader_called b) = quietly es d.entries i (not_got_of d _ b.is (tt, tt))
caused es w d few k i (swapped b) = quietly es d.entries i (not_got_of d _ b.is tt)
caused es w d few k i (exited_ b) = quietly es d.entries i (not_got_of d _ b.is (tt, tt))
caused es w d few k i (showed_ b) = quietly es d.entries i (not_got_of d _ b.is (tt, tt))
caused es w d few k i (told_busy turns is) = quietly es d.entries i (not_got_of d _ is (tt, tt))
caused es w d few k i (told_quiet none is) = quietly es d.entries i (not_got_of d _ is (tt, tt))
caused es w d few k i (bus_took b) =
    let c = carrying.takes (record { bus = w.bus; ends = w.ends }) b.conn b.e.who b.said in
    subst (λ x. Answered (es ++ x.entries) w) (sym b.is) (other_got The_bus b.e.who b.said.message.serial es _ no_reader_bus i (bus_not_got c.ends c.bus.own c.bus.closings))
caused es w d few k i (bus_ended b) =
    let c = carrying.takes_end (record { bus = w.bus; ends = w.ends }) b.conn in quietly es d.entries i (not_got_of d _ b.is (bus_not_got c.ends c.bus.own c.bus.closings))
caused es w d few k i (registry_took b) =
    subst (λ x. Answered (es ++ x.entries) w) (sym b.is)
    (other_got b.e.who b.letter.from b.letter.said.message.serial es _ (λ r h. no_reader_registry r (sym b.whose ∙ h)) i (sent_not_got b.e.who (registry_takes b.before b.letter.said.message).sent))
caused es w d few k i (reader_took b) = reader_got es w d few k i b

abbrev Under_answered : List Entry → World → Type 0
Under_answered es w = And Under_mail Known_mail es w

answered_grows : Grows Under_answered Answered
answered_grows = record {
  begins = tt;
  caused = λ es w d s a i e after b. caused es w d (few_greeted es w a.0.1.1.1 a.0.0.1) a.1 i e;
  moved = λ es w v s a i m. i;
  asked = λ es w conn r m question s a i asks. quietly es (sent (Reader r) m ∷ []) i (tt, tt);
}

answered_keeps : Keeps (Shaped (And Under_answered Answered))
answered_keeps = grown Under_answered Answered mail_keeps answered_grows

each_front : (xs ys : List Entry) (early : List Entry) → Each IsKnown early (xs ++ ys) → Each IsKnown early xs
each_front [] ys early e = tt
each_front (x ∷ xs) ys early e = (fewer x e.0, each_front xs ys (early ++ x ∷ []) e.1)
  where
    fewer : (entry : Entry) → IsKnown early entry (xs ++ ys) → IsKnown early entry xs
    fewer (got (Reader r) (App a) serial) law = law
    fewer (got (Reader r) The_bus serial) law = tt
    fewer (got (Reader r) Registry serial) law = tt
    fewer (got (Reader r) (Reader q) serial) law = tt
    fewer (got The_bus from serial) law = tt
    fewer (got Registry from serial) law = tt
    fewer (got (App a) from serial) law = tt
    fewer entry law = tt

pub replies_known : (lines : List Line) (trace : List Entry) → CanAllStand lines → Goes (begins lines) trace → Everywhere IsKnown trace
replies_known lines trace a g =
    let k = kept (Shaped (And Under_answered Answered)) answered_keeps lines trace a g in
    everywhere IsKnown trace (each_front trace _ [] k.state.1.1)

-- so items are told
items_of_known : (before : List Entry) (entry : Entry) (behind : List Entry) → IsKnown before entry behind → IsItemsTold before entry behind
items_of_known before (got (Reader r) (App a) serial) behind h = λ name asked e its found answers.
    let x = h (GetItems asked) e found answers in
    subst (λ n. TellsItems name (as_of before a n) e) (sym x.with_) (subst (TellsItems name (as_of before a x.first.message.serial)) x.same (items_of_answer before r a x.first asked x.his name its x.tree))
items_of_known before (got (Reader r) The_bus serial) behind h = tt
items_of_known before (got (Reader r) Registry serial) behind h = tt
items_of_known before (got (Reader r) (Reader q) serial) behind h = tt
items_of_known before (got The_bus from serial) behind h = tt
items_of_known before (got Registry from serial) behind h = tt
items_of_known before (got (App a) from serial) behind h = tt
items_of_known before entry behind h = tt

pub items_law : (lines : List Line) (trace : List Entry) → CanAllStand lines → Goes (begins lines) trace → Everywhere IsItemsTold trace
items_law lines trace a g = λ before entry behind is. items_of_known before entry behind (replies_known lines trace a g before entry behind is)

-- and parts
module _ (T : List Entry) (trees : Everywhere StepsOnTree T) (steps : LawOfSteps T) where
  parts_of_known : (before : List Entry) (entry : Entry) (behind : List Entry) → T ≡ before ++ entry ∷ behind → IsKnown before entry behind → IsPartTold before entry behind
  parts_of_known before (got (Reader r) (App a) serial) behind at h = λ name asked path part e found answers.
      let x = h (GetPart asked path part) e found answers in
      let ret = return_of before r e (GetPart asked path part) answers in
      let low = sent_counted T a trees steps before (got (Reader r) (App a) serial ∷ behind) at x.first.message.serial in
      subst (λ n. TellsPart name (as_of before a n) (added (before_sent (App a) n before) a) path part e) (sym x.with_)
      (subst (TellsPart name (as_of before a x.first.message.serial) (added (before_sent (App a) x.first.message.serial before) a) path part) x.same
      (part_of_answer before r a x.first asked path part x.his name (added (before_sent (App a) x.first.message.serial before) a) (ap (λ (m : Envelope). m.kind) x.same ∙ ret.two) x.tree low))
  parts_of_known before (got (Reader r) The_bus serial) behind at h = tt
  parts_of_known before (got (Reader r) Registry serial) behind at h = tt
  parts_of_known before (got (Reader r) (Reader q) serial) behind at h = tt
  parts_of_known before (got The_bus from serial) behind at h = tt
  parts_of_known before (got Registry from serial) behind at h = tt
  parts_of_known before (got (App a) from serial) behind at h = tt
  parts_of_known before entry behind at h = tt

pub parts_law : (lines : List Line) (trace : List Entry) → CanAllStand lines → Goes (begins lines) trace → Everywhere IsPartTold trace
parts_law lines trace a g = λ before entry behind is.
    parts_of_known trace (trees_stand lines trace a g) (steps_apply lines trace a g) before entry behind is (replies_known lines trace a g before entry behind is)
