-- Whose the replies are that a reader takes, along a lawful trace: each of an end answers a call that the reader sent before, and one whose call went to a unique name comes from who has it; the bus
-- returns only calls to itself.
use Rattle.std.proofs.Common.{◌≡◌, ◌⊎◌, inl, inr, ℕ, ◌≤◌, Bool, true, false, List, [], ◌∷◌, ◌++◌, length, Option, Some, refl, sym, ap, ap₂, ◌∙◌, subst}
use Rattle.std.specs.Prelude.{◌&&◌, not, Ok}
use Rattle.std.specs.List.{AllByRecursion, list_any}
use Rattle.atspi_base.specs.valid_names.Names.{is_unique_name}
use Rattle.atspi_script_lines.specs.declared.line.Party.{Party}
use Rattle.atspi_script_lines.specs.declared.line.Party.TheVariants.{Bus as The_bus, Registry, App, Reader}
use Rattle.atspi_message.specs.Envelope.{Envelope}
use Rattle.atspi_names.specs.Owners.{own_name}
use Rattle.atspi_match.specs.declared.condition.Condition.{Condition}
use Rattle.atspi_match.specs.declared.routing.member.BusMember.TheVariants.{AddMatch}
use Rattle.atspi_match.specs.routing.Members.{is_text, member_of}
use Rattle.atspi_match.specs.routing.Routing.{is_reply, is_for_bus}
use Rattle.atspi_protocol.specs.exporting.Taking.{app_takes}
use Rattle.atspi_protocol.specs.ends.Messages.{reply_to}
use Rattle.atspi_protocol.specs.ends.Places.{registry}
use Rattle.atspi_protocol.specs.members.Asked.{asked}
use Rattle.atspi_protocol.specs.registering.Answers.{object_at}
use Rattle.atspi_protocol.specs.registering.RegistryState.{RegistryState}
use Rattle.atspi_protocol.specs.registering.Steps.{registry_takes, answer_to}
use Rattle.atspi_trace.specs.Rules.{rule_in}
use Rattle.atspi_trace.specs.Entry.{Entry, sent, got}
use Rattle.atspi_trace.specs.World.{here, Said, Letter, End, World}
use Rattle.atspi_trace.specs.Ends.{is_here, same_party, number_of, end_at}
use Rattle.atspi_trace.specs.Carrying as carrying
use Rattle.atspi_trace.specs.Hearing.{heard_entries}
use Rattle.atspi_trace.specs.Causes.{Done, app_starts, reader_starts}
use Rattle.atspi_trace_laws.specs.laws.Words.{messages, message, before_sent, as_of, stops_it, is_live}
use Rattle.atspi_trace_laws.proofs.OfOrder.Parties.{same_some, party-same, false_true}
use Rattle.atspi_trace_laws.proofs.OfOrder.Shape.{Shape}
use Rattle.atspi_trace_laws.proofs.OfOrder.Effects.{received, ReaderTakes, Effect, resets, app_joins, reader_joins, app_edited, app_took, reader_called, swapped, exited_, showed_, told_busy, told_quiet, bus_took, bus_ended, registry_took, reader_took}
use Rattle.atspi_trace_laws.proofs.OfOrder.Along.{Keeps}
use Rattle.atspi_trace_laws.proofs.OfOrder.Growing.{Grows, Shaped, And, grown}
use Rattle.atspi_trace_laws.proofs.OfOrder.Each.{Each, each_more, each_of}
use Rattle.atspi_trace_laws.proofs.OfHeard.Quiet.{heard_all}
use Rattle.atspi_trace_laws.proofs.OfOwn.Writing.{Lives}
use Rattle.atspi_trace_laws.proofs.OfTaken.Said.{TellsOf}
use Rattle.atspi_trace_laws.proofs.OfTaken.LawTaken.{NotGot, did_not_got, sent_not_got, bus_not_got}
use Rattle.atspi_trace_laws.proofs.OfReaders.BusSaid.{OwnIs}
use Rattle.atspi_trace_laws.proofs.OfNames.Places.{greeted, name_told}
use Rattle.atspi_trace_laws.proofs.OfNames.LawNames.{IsAt}
use Rattle.atspi_trace_laws.proofs.OfOrder.Lives.{HasStarted}
use Rattle.atspi_trace_laws.proofs.OfMissed.Arriving.{On}
use Rattle.atspi_trace_laws.proofs.OfSigned.Mail.{NameIs, Content, IsAnswerOf, IsCallOf, IsAnswer, IsMail}
use Rattle.atspi_trace_laws.proofs.OfSigned.Self.{unique_told, one_named, for_bus_true}
use Rattle.atspi_trace_laws.proofs.OfSigned.LawMail.{name_of_end}
use Rattle.atspi_trace_caches.proofs.OfServed.Returned.{CallOf, RepliesTo, Fits}
use Rattle.atspi_trace_caches.proofs.OfSettled.Answering.{Answers}
use Rattle.atspi_trace_caches.proofs.OfSettled.Embedding.{registry_reply}
use Rattle.atspi_trace_caches.proofs.OfSettled.EmbeddingAll.{registry_stays}
use Rattle.atspi_trace_caches.proofs.OfSettled.RefusingRules.{adds_below}
use Rattle.atspi_trace_caches.proofs.OfSettled.RefusingOpen.{same_for}
use Rattle.atspi_trace_caches.proofs.OfSettled.Refusing as refusing
use Rattle.atspi_trace_caches.proofs.OfSettled.Barring as barring
use Rattle.atspi_trace_caches.proofs.OfSettled.Barring.{given_still}
use Rattle.atspi_trace_caches.proofs.OfSettled.Settling_ground.{Ground, ground_keep, Grounds, grounds, is_at, no_bus}

-- WHAT A REPLY OF AN END ANSWERS: a call of the reader's; and of an application it is its answer to that call, from the tree as of the reply
pub record AppAnswers (before : List Entry) (r a : ℕ) (m first : Envelope) : Type 0 where
  pub said : Said
  pub is : said.message ≡ m
  pub caller : List ℕ
  pub to : m.destination ≡ Some caller
  pub mine : NameIs before (Reader r) caller
  pub call : Envelope
  pub alike : call ≡ record first { sender = Some caller }
  pub answer : IsAnswerOf before a said call caller
  pub tree : as_of before a m.serial ≡ said.tree

pub record AnswersIt (before : List Entry) (r : ℕ) (who : Party) (m : Envelope) (n : ℕ) : Type 0 where
  pub first : Envelope
  pub was : message before (Reader r) n ≡ Some first
  pub not_bus : is_for_bus first ≡ false
  pub its : first.destination ≡ Some registry → who ≡ Registry
  pub named : (to : List ℕ) → first.destination ≡ Some to → is_unique_name to ≡ true → NameIs before who to
  pub answers : (a : ℕ) → who ≡ App a → AppAnswers before r a m first

-- of the registry it is its answer to that call, in some state
pub record RegistryAnswers (m first : Envelope) : Type 0 where
  pub caller : List ℕ
  pub state : RegistryState
  pub own : List ℕ
  pub kind : m.kind ≡ (reply_to caller first.serial (answer_to state own caller (asked (object_at first.path) first.interface first.member first.body)).reply).kind

-- AN ERROR OF THE BUS'S answers a call of the reader's: one that went to a unique name given before only where that application has stopped, none that went to the registry's name, and one of its own
-- member AddMatch, of a rule of the table, only where the reader had sent so many
pub record BusFails (before : List Entry) (r n : ℕ) : Type 0 where
  pub first : Envelope
  pub was : message before (Reader r) n ≡ Some first
  pub gone : (name : List ℕ) (a : ℕ) → first.destination ≡ Some name → is_unique_name name ≡ true → name_told (before_sent (Reader r) n before) (App a) ≡ Some name → list_any (stops_it (App a)) before ≡ true
  pub no_registry : first.destination ≡ Some registry → ⊥
  pub later : is_for_bus first ≡ true → 2 ≤ n
  pub full : is_for_bus first ≡ true → (rule : List Condition) → member_of first ≡ Ok AddMatch → rule_in first ≡ Some rule → 512 ≤ adds_below before (Reader r) n

-- what a reader takes
pub record IsTaken (before : List Entry) (r : ℕ) (who : Party) (serial : ℕ) : Type 0 where
  pub m : Envelope
  pub was : message before who serial ≡ Some m
  pub own : who ≡ The_bus → m.kind ≡ 2 → (n : ℕ) → m.reply ≡ Some n → 2 ≤ n → (first : Envelope) × (message before (Reader r) n ≡ Some first) × (is_for_bus first ≡ true)
  pub fails : who ≡ The_bus → m.kind ≡ 3 → (n : ℕ) → m.reply ≡ Some n → BusFails before r n
  pub by_registry : who ≡ Registry → is_reply m ≡ true → (n : ℕ) → m.reply ≡ Some n → (first : Envelope) → message before (Reader r) n ≡ Some first → RegistryAnswers m first
  pub others : (who ≡ The_bus → ⊥) → is_reply m ≡ true → (n : ℕ) → m.reply ≡ Some n → AnswersIt before r who m n

no_bus_registry : The_bus ≡ Registry → ⊥
no_bus_registry h = false_true (ap (λ p. same_party p Registry) h)

taken_as_is : (es : List Entry) (r : ℕ) (letter : Letter) → ((name : List ℕ) → NameIs es The_bus name → ⊥) → length (greeted es) ≤ 1000 → IsMail es (Reader r) letter → Fits es (Reader r) letter → OwnIs (messages es The_bus) letter
    → (letter.from ≡ The_bus → letter.said.message.kind ≡ 3 → (n : ℕ) → letter.said.message.reply ≡ Some n → BusFails es r n) → AllByRecursion (Answers es) (messages es Registry) → IsTaken es r letter.from letter.said.message.serial
taken_as_is es r letter nobody few (inl b) (inl own) is errs answers = record {
  m = letter.said.message;
  was = ap (λ p. message es p letter.said.message.serial) b.from ∙ is b.from;
  own = λ bus two n reply more. own.1 two n reply more;
  fails = errs;
  by_registry = λ its. absurd (no_bus_registry (sym b.from ∙ its));
  others = λ other. absurd (other b.from);
}
taken_as_is es r letter nobody few (inl b) (inr o) is errs answers = absurd (false_true (sym o.other ∙ b.own))
taken_as_is es r letter nobody few (inr p) (inl own) is errs answers = absurd (false_true (sym (name_of_end es letter.from p.caller p.name) ∙ ap (λ o. is_text o own_name) (sym p.sender) ∙ own.0))
taken_as_is es r letter nobody few (inr p) (inr o) is errs answers = record {
  m = p.first.message;
  was = ap (message es letter.from) serial ∙ p.sent_.was;
  own = λ bus. absurd (from_bus bus);
  fails = λ bus. absurd (from_bus bus);
  by_registry = λ its replies n reply first found. of_registry its replies n reply first found;
  others = λ other replies n reply. answers_it replies n reply;
}
  where
    is_it : letter.said.message ≡ record p.first.message { sender = Some p.caller }
    is_it = ap (λ (z : Said). z.message) p.alike

    serial : letter.said.message.serial ≡ p.first.message.serial
    serial = ap (λ (m : Envelope). m.serial) is_it

    from_bus : letter.from ≡ The_bus → ⊥
    from_bus bus = nobody p.caller (subst (λ q. NameIs es q p.caller) bus p.name)

    of_registry : letter.from ≡ Registry → is_reply p.first.message ≡ true → (n : ℕ) → p.first.message.reply ≡ Some n → (first : Envelope) → message es (Reader r) n ≡ Some first → RegistryAnswers p.first.message first
    of_registry its replies n reply first found =
        let x = registry_reply es (Reader r) letter few answers p its (ap (λ (m : Envelope). is_reply m) is_it ∙ replies) n (ap (λ (m : Envelope). m.reply) is_it ∙ reply) first found in
        record { caller = x.caller; state = x.state; own = x.own; kind = ap (λ (m : Envelope). m.kind) (sym is_it) ∙ x.kind }

    answers_it : is_reply p.first.message ≡ true → (n : ℕ) → p.first.message.reply ≡ Some n → AnswersIt es r letter.from p.first.message n
    answers_it replies n reply = by x.known
      where
        x : RepliesTo es letter.from letter.said.message
        x = o.answers (ap (λ (m : Envelope). is_reply m) is_it ∙ replies)

        is_n : x.serial ≡ n
        is_n = same_some x.serial n (sym x.with_ ∙ ap (λ (m : Envelope). m.reply) is_it ∙ reply)

        by : (x.caller ≡ own_name) ⊎ CallOf es letter.from x.caller x.serial → AnswersIt es r letter.from p.first.message n
        by (inl own) = absurd (false_true (sym p.not_bus ∙ for_bus_true letter.said.message (x.to ∙ ap Some own)))
        by (inr c) = record { first = c.first; was = ap₂ (message es) (sym same) (sym is_n) ∙ c.was; not_bus = not_bus; its = c.its; named = c.named; answers = of_app }
          where
            same : c.from ≡ Reader r
            same = one_named es c.from (Reader r) x.caller few c.name (p.routed x.caller x.to (unique_told es c.from x.caller c.name))

            not_bus : is_for_bus c.first ≡ false
            not_bus = at answer.called.known
              where
                answer : IsAnswer es letter.from p.first
                answer = p.speech.answers replies

                goes : letter.said.message.destination ≡ Some answer.called.caller
                goes = ap (λ (m : Envelope). m.destination) is_it ∙ answer.to

                call_serial : answer.call.serial ≡ n
                call_serial = same_some answer.call.serial n (sym answer.with_ ∙ reply)

                at : (answer.called.caller ≡ own_name) ⊎ IsCallOf es answer.called.from answer.called.caller answer.call → is_for_bus c.first ≡ false
                at (inl own) = absurd (false_true (sym p.not_bus ∙ for_bus_true letter.said.message (goes ∙ ap Some own)))
                at (inr d) =
                    let mine : NameIs es (Reader r) answer.called.caller = p.routed answer.called.caller goes (unique_told es answer.called.from answer.called.caller d.name) in
                    let who : answer.called.from ≡ Reader r = one_named es answer.called.from (Reader r) answer.called.caller few d.name mine in
                    let firsts : d.first ≡ c.first = same_some d.first c.first (sym d.was ∙ ap₂ (message es) (who ∙ sym same) (call_serial ∙ sym is_n) ∙ c.was) in
                    ap is_for_bus (sym firsts) ∙ sym (same_for d.first answer.called.caller) ∙ ap is_for_bus (sym d.alike) ∙ d.not_bus

            of_app : (a : ℕ) → letter.from ≡ App a → AppAnswers es r a p.first.message c.first
            of_app a from = at answer.called.known
              where
                answer : IsAnswer es letter.from p.first
                answer = p.speech.answers replies

                goes : letter.said.message.destination ≡ Some answer.called.caller
                goes = ap (λ (m : Envelope). m.destination) is_it ∙ answer.to

                call_serial : answer.call.serial ≡ n
                call_serial = same_some answer.call.serial n (sym answer.with_ ∙ reply)

                at : (answer.called.caller ≡ own_name) ⊎ IsCallOf es answer.called.from answer.called.caller answer.call → AppAnswers es r a p.first.message c.first
                at (inl own) = absurd (false_true (sym p.not_bus ∙ for_bus_true letter.said.message (goes ∙ ap Some own)))
                at (inr d) =
                    let mine : NameIs es (Reader r) answer.called.caller = p.routed answer.called.caller goes (unique_told es answer.called.from answer.called.caller d.name) in
                    let who : answer.called.from ≡ Reader r = one_named es answer.called.from (Reader r) answer.called.caller few d.name mine in
                    let firsts : d.first ≡ c.first = same_some d.first c.first (sym d.was ∙ ap₂ (message es) (who ∙ sym same) (call_serial ∙ sym is_n) ∙ c.was) in
                    record {
                      said = p.first;
                      is = refl;
                      caller = answer.called.caller;
                      to = answer.to;
                      mine = mine;
                      call = answer.call;
                      alike = d.alike ∙ ap (λ (m : Envelope). record m { sender = Some answer.called.caller }) firsts;
                      answer = subst (λ w. Content es w p.first answer.call answer.called.caller) from answer.content;
                      tree = (subst (λ w. TellsOf es w p.first) from p.sent_.tells).tree;
                    }

-- THE LAW
abbrev pub TakesReplies : List Entry → Entry → List Entry → Type 0
TakesReplies before (got (Reader r) who serial) behind = Lives before → IsTaken before r who serial
TakesReplies before entry behind = Unit {0}

weaker : (ys before : List Entry) (entry : Entry) (behind : List Entry) → TakesReplies before entry behind → TakesReplies before entry (behind ++ ys)
weaker ys before (got (Reader r) who serial) behind h = h
weaker ys before (got The_bus from serial) behind h = tt
weaker ys before (got Registry from serial) behind h = tt
weaker ys before (got (App a) from serial) behind h = tt
weaker ys before entry behind h = tt

all_weaker : (ys early xs : List Entry) → Each TakesReplies early xs → Each (λ before entry behind. TakesReplies before entry (behind ++ ys)) early xs
all_weaker ys early [] e = tt
all_weaker ys early (x ∷ xs) e = (weaker ys early x xs e.0, all_weaker ys (early ++ x ∷ []) xs e.1)

law_more : (es ys : List Entry) → Each TakesReplies [] es → Each TakesReplies es ys → Each TakesReplies [] (es ++ ys)
law_more es ys a b = each_more TakesReplies [] es ys (all_weaker ys [] es a) b

quiet_law : (before : List Entry) (entry : Entry) (behind : List Entry) → NotGot entry → TakesReplies before entry behind
quiet_law before (got taker sender serial) behind h = absurd h
quiet_law before entry behind h = tt

quietly : (es ys : List Entry) → Each TakesReplies [] es → AllByRecursion NotGot ys → Each TakesReplies [] (es ++ ys)
quietly es ys law q = law_more es ys law (each_of NotGot TakesReplies es ys quiet_law q)

not_got_of : (d x : Done) → d ≡ x → AllByRecursion NotGot x.entries → AllByRecursion NotGot d.entries
not_got_of d x is a = subst (λ y. AllByRecursion NotGot y.entries) (sym is) a

other_got : (who from : Party) (serial : ℕ) (es ys : List Entry) → ((r : ℕ) → who ≡ Reader r → ⊥) → Each TakesReplies [] es → AllByRecursion NotGot ys → Each TakesReplies [] (es ++ got who from serial ∷ ys)
other_got who from serial es ys never law q = law_more es (got who from serial ∷ ys) law (first who never, each_of NotGot TakesReplies (es ++ got who from serial ∷ []) ys quiet_law q)
  where
    first : (p : Party) → ((r : ℕ) → p ≡ Reader r → ⊥) → TakesReplies es (got p from serial) ys
    first The_bus f = tt
    first Registry f = tt
    first (App a) f = tt
    first (Reader r) f = absurd (f r refl)

-- which errors of the bus's it takes
reader_fails : (es : List Entry) (w : World) → Shape w → Grounds es w → Lives es → (k r : ℕ) (e : End) (letter : Letter) → end_at w.ends k ≡ Some e → e.who ≡ Reader r → e.standing ≡ here → On letter e.down
    → letter.from ≡ The_bus → letter.said.message.kind ≡ 3 → (n : ℕ) → letter.said.message.reply ≡ Some n → BusFails es r n
reader_fails es w s g live k r e letter there whose on at bus three n reply = record { first = x.first; was = was; gone = gone; no_registry = no_registry; later = later; full = full }
  where
    x : barring.ErrorTo es w.ends e.who n
    x = g.barring.errors k e there on letter at bus three n reply

    y : refusing.ErrorTo es w.ends e.who n
    y = g.refusing.errors k e there on letter at (λ is. no_reader_is r (sym whose ∙ is)) bus three n reply
      where
        no_reader_is : (r : ℕ) → Reader r ≡ Registry → ⊥
        no_reader_is r h = false_true (ap (λ p. same_party p Registry) h)

    was : message es (Reader r) n ≡ Some x.first
    was = subst (λ p. message es p n ≡ Some x.first) whose x.was

    same : y.first ≡ x.first
    same = same_some y.first x.first (sym y.was ∙ x.was)

    gone : (name : List ℕ) (a : ℕ) → x.first.destination ≡ Some name → is_unique_name name ≡ true → name_told (before_sent (Reader r) n es) (App a) ≡ Some name → list_any (stops_it (App a)) es ≡ true
    gone name a to unique given = by (list_any (stops_it (App a)) es) refl
      where
        barred : (j : ℕ) (d : End) → end_at w.ends j ≡ Some d → d.who ≡ App a → is_here d.standing ≡ false
        barred = x.barred name a to unique (subst (λ p. name_told (before_sent p n es) (App a) ≡ Some name) (sym whose) given)

        begun : IsAt w (App a)
        begun = is_at es w s g (App a) name (given_still es (Reader r) (App a) n x.first name was given)

        starts : HasStarted es (App a)
        starts = subst (HasStarted es) begun.3 (g.started begun.0 begun.1 begun.2)

        by : (b : Bool) → list_any (stops_it (App a)) es ≡ b → list_any (stops_it (App a)) es ≡ true
        by true is = is
        by false is =
            let lives : is_live es (App a) ≡ true = ap₂ (λ b c. b && not c) starts is in
            let there_it = g.present (App a) (λ h. false_true (ap (λ p. same_party p The_bus) h)) live lives in
            absurd (false_true (sym (barred there_it.conn there_it.e there_it.there there_it.whose) ∙ ap is_here there_it.standing))

    no_registry : x.first.destination ≡ Some registry → ⊥
    no_registry to = by y.why
      where
        for_bus : (m : Envelope) → m.destination ≡ Some registry → is_for_bus m ≡ true → ⊥
        for_bus m h f = false_true (go m.destination h f)
          where
            go : (o : Option (List ℕ)) → o ≡ Some registry → is_for_bus (record m { destination = o }) ≡ true → false ≡ true
            go o h = subst (λ z. is_for_bus (record m { destination = z }) ≡ true → false ≡ true) (sym h) (λ f. f)

        by : refusing.Reason es w.ends e.who n y.first → ⊥
        by (inl z) = for_bus y.first (ap (λ (m : Envelope). m.destination) same ∙ to) z.0
        by (inr z) = registry_stays es w s g.present live (z.1 (ap (λ (m : Envelope). m.destination) same ∙ to))

    later : is_for_bus x.first ≡ true → 2 ≤ n
    later for = by y.why
      where
        by : refusing.Reason es w.ends e.who n y.first → 2 ≤ n
        by (inl z) = z.1
        by (inr z) = absurd (false_true (sym z.0 ∙ ap is_for_bus same ∙ for))

    full : is_for_bus x.first ≡ true → (rule : List Condition) → member_of x.first ≡ Ok AddMatch → rule_in x.first ≡ Some rule → 512 ≤ adds_below es (Reader r) n
    full for rule adds is = by y.why
      where
        by : refusing.Reason es w.ends e.who n y.first → 512 ≤ adds_below es (Reader r) n
        by (inl z) = subst (λ p. 512 ≤ adds_below es p n) whose (z.2 rule (ap member_of same ∙ adds) (ap rule_in same ∙ is))
        by (inr z) = absurd (false_true (sym z.0 ∙ ap is_for_bus same ∙ for))

reader_got : (es : List Entry) (w : World) (d : Done) → Shape w → Grounds es w → Each TakesReplies [] es → ReaderTakes w d → Each TakesReplies [] (es ++ d.entries)
reader_got es w d s g law b =
    subst (λ l. Each TakesReplies [] (es ++ l)) (sym wrote)
    (law_more es (got (Reader b.reader) b.letter.from b.letter.said.message.serial ∷ rest) law (
      λ live. taken_as_is es b.reader b.letter (no_bus es w s g) g.few mail fits (own live) (errs live) g.answering,
      each_of NotGot TakesReplies (es ++ got (Reader b.reader) b.letter.from b.letter.said.message.serial ∷ []) rest quiet_law (heard_all NotGot (λ r app line. tt) (λ r app. tt) (number_of b.e.who) b.hearer (received w b.conn b.e b.letter).ends b.letter),
    ))
  where
    rest : List Entry
    rest = heard_entries (number_of b.e.who) b.hearer (received w b.conn b.e b.letter).ends b.letter

    wrote : d.entries ≡ got (Reader b.reader) b.letter.from b.letter.said.message.serial ∷ rest
    wrote = ap (λ x. x.entries) b.is ∙ ap (λ p. got p b.letter.from b.letter.said.message.serial ∷ rest) b.whose

    mail : IsMail es (Reader b.reader) b.letter
    mail = subst (λ p. IsMail es p b.letter) b.whose (subst (AllByRecursion (IsMail es b.e.who)) b.link (g.mail.downs b.conn b.e b.is_here.there b.is_here.standing)).0

    fits : Fits es (Reader b.reader) b.letter
    fits = subst (λ p. Fits es p b.letter) b.whose (subst (AllByRecursion (Fits es b.e.who)) b.link (g.rightly.downs b.conn b.e b.is_here.there b.is_here.standing)).0

    errs : Lives es → b.letter.from ≡ The_bus → b.letter.said.message.kind ≡ 3 → (n : ℕ) → b.letter.said.message.reply ≡ Some n → BusFails es b.reader n
    errs live = reader_fails es w s g live b.conn b.reader b.e b.letter b.is_here.there b.whose b.is_here.standing (subst (On b.letter) (sym b.link) (inl refl))

    own : Lives es → OwnIs (messages es The_bus) b.letter
    own live = (subst (AllByRecursion (OwnIs (messages es The_bus))) b.link ((g.spoken live).links b.conn b.e b.is_here.there)).0

no_reader_registry : (r : ℕ) → Registry ≡ Reader r → ⊥
no_reader_registry r h = false_true (ap (λ p. same_party p (Reader r)) h ∙ party-same (Reader r))

no_reader_app : (a r : ℕ) → App a ≡ Reader r → ⊥
no_reader_app a r h = false_true (ap (λ p. same_party p (Reader r)) h ∙ party-same (Reader r))

no_reader_bus : (r : ℕ) → The_bus ≡ Reader r → ⊥
no_reader_bus r h = false_true (ap (λ p. same_party p (Reader r)) h ∙ party-same (Reader r))

-- EACH CAUSE
abbrev pub Replied : List Entry → World → Type 0
Replied es w = Each TakesReplies [] es

caused : (es : List Entry) (w : World) (d : Done) → Shape w → Grounds es w → Replied es w → Effect w d → Replied (es ++ d.entries) d.world
caused es w d s g i (resets quota old is) = quietly es d.entries i (not_got_of d _ is tt)
caused es w d s g i (app_joins name short is) = quietly es d.entries i (not_got_of d (app_starts w name) is (tt, (tt, tt)))
caused es w d s g i (reader_joins old is) = quietly es d.entries i (not_got_of d (reader_starts w) is (tt, (tt, tt)))
caused es w d s g i (app_edited b) = quietly es d.entries i (not_got_of d _ b.is (did_not_got _ b.after.out))
caused es w d s g i (app_took b) =
    subst (λ x. Replied (es ++ x.entries) w) (sym b.is)
    (other_got b.e.who b.letter.from b.letter.said.message.serial es _ (λ r h. no_reader_app b.app r (sym b.whose ∙ h)) i (did_not_got _ (app_takes b.before b.letter.said.message).out))
caused es w d s g i (reader_called b) = quietly es d.entries i (not_got_of d _ b.is (tt, tt))
caused es w d s g i (swapped b) = quietly es d.entries i (not_got_of d _ b.is tt)
caused es w d s g i (exited_ b) = quietly es d.entries i (not_got_of d _ b.is (tt, tt))
caused es w d s g i (showed_ b) = quietly es d.entries i (not_got_of d _ b.is (tt, tt))
caused es w d s g i (told_busy turns is) = quietly es d.entries i (not_got_of d _ is (tt, tt))
caused es w d s g i (told_quiet none is) = quietly es d.entries i (not_got_of d _ is (tt, tt))
caused es w d s g i (bus_took b) =
    let c = carrying.takes (record { bus = w.bus; ends = w.ends }) b.conn b.e.who b.said in
    subst (λ x. Replied (es ++ x.entries) w) (sym b.is) (other_got The_bus b.e.who b.said.message.serial es _ no_reader_bus i (bus_not_got c.ends c.bus.own c.bus.closings))
caused es w d s g i (bus_ended b) =
    let c = carrying.takes_end (record { bus = w.bus; ends = w.ends }) b.conn in quietly es d.entries i (not_got_of d _ b.is (bus_not_got c.ends c.bus.own c.bus.closings))
caused es w d s g i (registry_took b) =
    subst (λ x. Replied (es ++ x.entries) w) (sym b.is)
    (other_got b.e.who b.letter.from b.letter.said.message.serial es _ (λ r h. no_reader_registry r (sym b.whose ∙ h)) i (sent_not_got b.e.who (registry_takes b.before b.letter.said.message).sent))
caused es w d s g i (reader_took b) = reader_got es w d s g i b

replied_grows : Grows Ground Replied
replied_grows = record {
  begins = tt;
  caused = λ es w d s a i e after b. caused es w d s (grounds es w a) i e;
  moved = λ es w v s a i m. i;
  asked = λ es w conn r m question s a i asks. quietly es (sent (Reader r) m ∷ []) i (tt, tt);
}

pub replied_keeps : Keeps (Shaped (And Ground Replied))
replied_keeps = grown Ground Replied ground_keep replied_grows
