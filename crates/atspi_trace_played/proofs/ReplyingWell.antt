-- WHAT A REPLY TO AN OWN CALL IS: the call waits for it; it comes from who was called, or from the bus; none of the start fails, and what is returned is what was asked for.
use Rattle.std.proofs.Common.{◌≡◌, ◌⊎◌, inl, inr, ℕ, ◌≤◌, Bool, true, false, List, [], ◌∷◌, ◌++◌, map, Option, None, Some, refl, sym, ap, ap₂, ◌∙◌, subst}
use Rattle.std.specs.Prelude.{◌||◌, ◌&&◌, bytes_eq, if◌then◌else◌}
use Rattle.std.specs.List.{AllByRecursion}
use Rattle.std.proofs.lemmas.Slice.Eq.{bytes_eq-Decides}
use Rattle.atspi_script_lines.specs.declared.line.Line.{Line}
use Rattle.atspi_script_lines.specs.declared.line.Party.TheVariants.{Bus as The_bus, Registry, App, Reader}
use Rattle.atspi_message.specs.Envelope.{Envelope}
use Rattle.atspi_names.specs.Owners.{own_name}
use Rattle.atspi_match.specs.routing.Members.{is_text}
use Rattle.atspi_match.specs.routing.Routing.{is_reply, is_for_bus}
use Rattle.atspi_protocol.specs.ends.Messages.{reply_to}
use Rattle.atspi_protocol.specs.ends.Places.{bus}
use Rattle.atspi_protocol.specs.news.Arguments.{signature_of}
use Rattle.atspi_protocol.specs.news.NewsOf.{or_empty}
use Rattle.atspi_protocol.specs.news.Replies.{items_told}
use Rattle.atspi_protocol.specs.exporting.Taking.{answer_to}
use Rattle.atspi_protocol.specs.declared.news.part.PartName.{PartName}
use Rattle.atspi_protocol.specs.declared.following.question.Question.{Question}
use Rattle.atspi_protocol.specs.declared.following.question.Question.TheVariants.{Hello, AddMatch, RegisterEvent, GetChildren, GetItems, GetPart}
use Rattle.atspi_protocol.specs.following.Calls.{asking}
use Rattle.atspi_protocol.specs.following.Replied.{is_reply_to, may_answer, is_unique_name_alone, children_signature}
use Rattle.atspi_trace.specs.Entry.{Entry, sent, got}
use Rattle.atspi_trace.specs.World.{waits, Asked, Hearer, Letter, End, World}
use Rattle.atspi_trace.specs.Ends.{same_party}
use Rattle.atspi_trace.specs.Hearing.{answered_by, fate_of, heard_entries}
use Rattle.atspi_trace_laws.specs.laws.Words.{messages, message, before_sent}
use Rattle.atspi_trace_laws.specs.laws.NineLaws.{Everywhere}
use Rattle.atspi_trace_caches.specs.settled.Laws.{question_of, AsksOfNode, IsOfNode}
use Rattle.atspi_trace_laws.proofs.OfOrder.Parties.{same_some, party-same, false_true}
use Rattle.atspi_trace_laws.proofs.OfOrder.Shape.{Shape}
use Rattle.atspi_trace_laws.proofs.OfOrder.Growing.{Shaped, And}
use Rattle.atspi_trace_laws.proofs.OfOrder.Each.{Each, each_split}
use Rattle.atspi_trace_laws.proofs.OfOwn.Writing.{Lives}
use Rattle.atspi_trace_laws.proofs.OfTaken.Found.{sent_split}
use Rattle.atspi_trace_laws.proofs.OfReaders.BusSaid.{OwnIs}
use Rattle.atspi_trace_laws.proofs.OfNames.Places.{name_told, told_is}
use Rattle.atspi_trace_laws.proofs.OfSigned.Mail.{NameIs, told_more, IsOfBus, IsPost, IsMail, IsAnswerOf}
use Rattle.atspi_trace_laws.proofs.OfSigned.Self.{unique_told, one_named, app_name}
use Rattle.atspi_trace_laws.proofs.OfSigned.LawMail.{name_of_end}
use Rattle.atspi_trace_laws.proofs.OfMissed.Registering.{name_is_bus_name}
use Rattle.atspi_trace_caches.proofs.OfServed.Spelling.{call_of}
use Rattle.atspi_trace_caches.proofs.OfSettled.Embedding.{registry_reply}
use Rattle.atspi_trace_caches.proofs.OfSettled.Settling_ground as under
use Rattle.atspi_trace_caches.proofs.OfSettled.Settling_ground.{Grounds, no_bus, AsksAnApp, asks_apps}
use Rattle.atspi_trace_caches.proofs.OfSettled.Settling_replies.{AppAnswers, AnswersIt, IsTaken, TakesReplies, Replied, replied_keeps}
use Rattle.atspi_trace_caches.proofs.OfSettled.Settling_held.{reply_is, Sure, all_sure, above_one}
use Rattle.atspi_trace_caches.proofs.OfSettled.Settling_asked.{AllAskApps, ask_keep}
use Rattle.atspi_trace_caches.proofs.OfSettled.Settling_counted.{Counts, AllCounted, counted_keep}
use Rattle.atspi_trace_played.proofs.Facts.{Ground, IsGone, IsReturnedWell, IsReplyWell, RepliesWell, SerialsDiffer, InOrder}
use Rattle.atspi_trace_played.proofs.ReplyingStep.{Gets, shape, its, live, hearer, ys, after, kept_after, wrote, its_end, end_after, other_after, shape_after, its_after, live_after, v}
use Rattle.atspi_trace_played.proofs.ReplyingFails.{CanFail, FailsWell, calls_fail_well}
use Rattle.atspi_trace_played.proofs.ReplyingRead.{registry_answer, children_answer, children_signed, items_answer}
use Rattle.atspi_trace_played.proofs.ReplyingOnce.{waits_still}
use Rattle.atspi_trace_played.proofs.ReplyingWords.{serials_differ, HelloIsOne, hello_one, is_first, kinds, fails_now, of_map, alone_is, hello_for_bus, part_goes, of_bus, or_true}

-- A REPLY
module _ (script : List Line) (es : List Entry) (w : World) (ground : Ground script es w None) (nodes : Everywhere AsksOfNode es) (conn r : ℕ) (e : End) (h : Hearer) (letter : Letter) (rest : List Letter) (x : Gets w conn r e h letter rest)
    (to_come : List Question) (order : InOrder h.asked to_come) where
  m : Envelope
  m = letter.said.message

  g : Grounds es w
  g = its script es w None ground

  sh : Shape w
  sh = shape script es w None ground

  lives : Lives es
  lives = live script es w None ground

  law : Each TakesReplies [] es
  law = (ground.kept (Shaped (And under.Ground Replied)) replied_keeps).1.1

  abbrev es_after : List Entry
  es_after = es ++ ys script es w ground conn r e h letter rest x

  abbrev w_after : World
  w_after = after script es w ground conn r e h letter rest x

  law_after : Each TakesReplies [] es_after
  law_after = (kept_after script es w ground conn r e h letter rest x (Shaped (And under.Ground Replied)) replied_keeps).1.1

  counts : Counts es r h
  counts = (ground.kept (Shaped (And under.Ground AllCounted)) counted_keep).1.1 conn r e h x.there x.whose x.role

  -- what it is in the trace
  t : IsTaken es r letter.from letter.said.message.serial
  t =
      each_split TakesReplies [] es_after law_after es (got (Reader r) letter.from letter.said.message.serial) (heard_entries r h (v script es w ground conn r e h letter rest x).ends letter)
      (ap (λ l. es ++ l) (wrote script es w ground conn r e h letter rest x)) lives

  mail : IsMail es (Reader r) letter
  mail = subst (λ p. IsMail es p letter) x.whose (subst (AllByRecursion (IsMail es e.who)) x.link (g.mail.downs conn e x.there x.standing)).0

  bus_is : IsOfBus es (Reader r) letter → t.m ≡ letter.said.message
  bus_is b =
      let own : OwnIs (messages es The_bus) letter = (subst (AllByRecursion (OwnIs (messages es The_bus))) x.link ((g.spoken lives).links conn e x.there)).0 in
      same_some t.m letter.said.message (sym t.was ∙ ap (λ p. message es p letter.said.message.serial) b.from ∙ own b.from)

  post_is : (p : IsPost es (Reader r) letter) → p.first.message ≡ t.m
  post_is p = same_some p.first.message t.m (sym p.sent_.was ∙ ap (λ z. message es letter.from z.message.serial) (sym p.alike) ∙ t.was)

  from_end : IsPost es (Reader r) letter → letter.from ≡ The_bus → ⊥
  from_end p is = no_bus es w sh g p.caller (subst (λ q. NameIs es q p.caller) is p.name)

  -- none fails that may not
  fail_well : AllByRecursion (λ a. FailsWell w_after (answered_by letter.said.message a)) h.asked
  fail_well =
      of_map (FailsWell w_after) (answered_by letter.said.message) h.asked
      (calls_fail_well es_after w_after (shape_after script es w ground conn r e h letter rest x) (its_after script es w ground conn r e h letter rest x) law_after
      (kept_after script es w ground conn r e h letter rest x (Shaped (And under.Ground AllAskApps)) ask_keep).1.1 (live_after script es w ground conn r e h letter rest x) conn r (its_end script es w ground conn r e h letter rest x)
      (hearer script es w ground conn r e h letter rest x) (end_after script es w ground conn r e h letter rest x) x.whose refl x.standing
      ((kept_after script es w ground conn r e h letter rest x (Shaped (And under.Ground AllCounted)) counted_keep).1.1 conn r (its_end script es w ground conn r e h letter rest x) (hearer script es w ground conn r e h letter rest x)
      (end_after script es w ground conn r e h letter rest x) x.whose refl)
      to_come (order.0, ap (λ l. l ++ to_come) (questions h.asked) ∙ order.1, order.2))
    where
      questions : (xs : List Asked) → map question_of (map (answered_by letter.said.message) xs) ≡ map question_of xs
      questions [] = refl
      questions (a ∷ xs) = ap₂ (λ q l. q ∷ l) (by (is_reply letter.said.message && is_reply_to a.serial letter.said.message.reply)) (questions xs)
        where
          by : (b : Bool) → (if b then record a { fate = fate_of letter.said.message } else a).question ≡ a.question
          by true = refl
          by false = refl

  gone_before : (name : List ℕ) → IsGone w_after name → IsGone w name
  gone_before name i = record {
    nobody = λ k a d there whose on unique. i.nobody k a d (other_after script es w ground conn r e h letter rest x k d (λ is. no_app_reader a (sym whose ∙ is)) there) whose on unique;
  }
    where
      no_app_reader : (a : ℕ) → App a ≡ Reader r → ⊥
      no_app_reader a is = false_true (ap (λ p. same_party p (App a)) (sym is) ∙ party-same (App a))

  -- ONE OF ITS CALLS
  module _ (replies : is_reply letter.said.message ≡ true) (a : Asked) (s : Sure es w sh g law lives conn r e h x.there x.whose x.role x.standing a) (to : is_reply_to a.serial letter.said.message.reply ≡ true) where
    abbrev first : Envelope
    first = s.0.first

    reply : letter.said.message.reply ≡ Some a.serial
    reply = reply_is a.serial letter.said.message.reply to

    spelled : (q : Question) → a.question ≡ q → first ≡ asking first.serial q
    spelled q is = (call_of es w r a.serial first g.spelled s.0.was).spelled q (s.0.read ∙ ap Some is)

    -- of an end it is the answer
    answers_it : (p : IsPost es (Reader r) letter) → (y : AnswersIt es r letter.from t.m a.serial) × (y.first ≡ first)
    answers_it p =
        let is_it : letter.said.message ≡ record p.first.message { sender = Some p.caller } = ap (λ z. z.message) p.alike in
        let y = t.others (from_end p) (ap is_reply (sym (post_is p)) ∙ ap is_reply (sym is_it) ∙ replies) a.serial (ap (λ (z : Envelope). z.reply) (sym (post_is p)) ∙ ap (λ (z : Envelope). z.reply) (sym is_it) ∙ reply) in
        (y, same_some y.first first (sym y.was ∙ s.0.was))

    -- of the bus, where it returns, a call to the bus
    bus_for : IsOfBus es (Reader r) letter → letter.said.message.kind ≡ 2 → 2 ≤ a.serial → is_for_bus first ≡ true
    bus_for b two more =
        let y = t.own b.from (ap (λ (z : Envelope). z.kind) (bus_is b) ∙ two) a.serial (ap (λ (z : Envelope). z.reply) (bus_is b) ∙ reply) more in
        ap is_for_bus (same_some first y.0 (sym s.0.was ∙ y.1)) ∙ y.2

    later : (q : Question) → a.question ≡ q → is_first q ≡ false → 2 ≤ a.serial
    later Hello is other = absurd (false_true (sym other))
    later (AddMatch rule) is other = above_one es w sh g law lives conn r e h x.there x.whose x.role x.standing a.serial first (AddMatch rule) s.1 s.0.was (s.0.read ∙ ap Some is) refl
    later (RegisterEvent pattern) is other = above_one es w sh g law lives conn r e h x.there x.whose x.role x.standing a.serial first (RegisterEvent pattern) s.1 s.0.was (s.0.read ∙ ap Some is) refl
    later GetChildren is other = above_one es w sh g law lives conn r e h x.there x.whose x.role x.standing a.serial first GetChildren s.1 s.0.was (s.0.read ∙ ap Some is) refl
    later (GetItems name) is other = above_one es w sh g law lives conn r e h x.there x.whose x.role x.standing a.serial first (GetItems name) s.1 s.0.was (s.0.read ∙ ap Some is) refl
    later (GetPart name path part) is other = above_one es w sh g law lives conn r e h x.there x.whose x.role x.standing a.serial first (GetPart name path part) s.1 s.0.was (s.0.read ∙ ap Some is) refl

    -- HELLO returns a unique name
    hello_well : a.question ≡ Hello → a.serial ≡ 1 → letter.said.message.kind ≡ 2 → is_unique_name_alone letter.said.message.body ≡ true
    hello_well is one two = by mail
      where
        by : IsMail es (Reader r) letter → is_unique_name_alone letter.said.message.body ≡ true
        by (inl b) = let n = b.greets two (reply ∙ ap Some one) in alone_is letter.said.message.body n.0 n.1 (name_is_bus_name es (Reader r) n.0 g.few n.2) (unique_told es (Reader r) n.0 n.2)
        by (inr p) = let y = answers_it p in absurd (false_true (sym y.0.not_bus ∙ ap is_for_bus (y.1 ∙ spelled Hello is) ∙ hello_for_bus first.serial))

    -- GetChildren a list of references
    children_well : a.question ≡ GetChildren → letter.said.message.kind ≡ 2 → bytes_eq (signature_of letter.said.message.body) children_signature ≡ true
    children_well is two = by mail
      where
        by : IsMail es (Reader r) letter → bytes_eq (signature_of letter.said.message.body) children_signature ≡ true
        by (inl b) = absurd (false_true (sym (ap is_for_bus (spelled GetChildren is)) ∙ bus_for b two (later GetChildren is refl)))
        by (inr p) =
            let y = answers_it p in
            let from : letter.from ≡ Registry = y.0.its (ap (λ (z : Envelope). z.destination) (y.1 ∙ spelled GetChildren is)) in
            let i = registry_reply es (Reader r) letter g.few g.answering p from replies a.serial reply first s.0.was in
            ap (λ b. bytes_eq (signature_of b) children_signature)
            (i.body ∙ ap (λ (z : Envelope). (reply_to i.caller z.serial (registry_answer i.state i.own i.caller z)).body) (spelled GetChildren is)
            ∙ ap (λ z. (reply_to i.caller first.serial z).body) (children_answer i.caller i.own i.state first.serial))
            ∙ children_signed i.state.children

    -- A CALL OF AN APPLICATION'S, by its unique name
    module _ (name : List ℕ) (b : ℕ) (told : name_told es (App b) ≡ Some name) (goes : first.destination ≡ Some name) where
      by_app : (p : IsPost es (Reader r) letter) → letter.from ≡ App b
      by_app p =
          let y = answers_it p in
          one_named es letter.from (App b) name g.few (y.0.named name (ap (λ (z : Envelope). z.destination) y.1 ∙ goes) (unique_told es (App b) name (inr told))) (inr told)

      signed : IsPost es (Reader r) letter → bytes_eq (or_empty letter.said.message.sender) name ≡ true
      signed p =
          let its_name : name_told es (App b) ≡ Some p.caller = app_name es b p.caller (subst (λ q. NameIs es q p.caller) (by_app p) p.name) in
          ap (λ o. bytes_eq (or_empty o) name) p.sender ∙ (bytes_eq-Decides p.caller name).1 (same_some p.caller name (sym its_name ∙ told))

      it_may : (bytes_eq (or_empty letter.said.message.sender) name || bytes_eq (or_empty letter.said.message.sender) bus) ≡ true
      it_may = by mail
        where
          by : IsMail es (Reader r) letter → (bytes_eq (or_empty letter.said.message.sender) name || bytes_eq (or_empty letter.said.message.sender) bus) ≡ true
          by (inl b) = or_true (bytes_eq (or_empty letter.said.message.sender) name) (bytes_eq (or_empty letter.said.message.sender) bus) (of_bus letter.said.message b.own)
          by (inr p) = ap (λ c. c || bytes_eq (or_empty letter.said.message.sender) bus) (signed p)

      not_bus : 2 ≤ a.serial → letter.said.message.kind ≡ 2 → bytes_eq (or_empty letter.said.message.sender) bus ≡ false
      not_bus more two = by mail
        where
          by : IsMail es (Reader r) letter → bytes_eq (or_empty letter.said.message.sender) bus ≡ false
          by (inl of_it) = absurd (for_no_bus (bus_for of_it two more))
            where
              for_no_bus : is_for_bus first ≡ true → ⊥
              for_no_bus for = false_true (sym (name_of_end es (App b) name (inr told)) ∙ at first.destination goes for)
                where
                  at : (o : Option (List ℕ)) → o ≡ Some name → is_for_bus (record first { destination = o }) ≡ true → is_text (Some name) own_name ≡ true
                  at o h = subst (λ z. is_for_bus (record first { destination = z }) ≡ true → is_text (Some name) own_name ≡ true) (sym h) (λ f. f)
          by (inr p) = ap (λ o. bytes_eq (or_empty o) bus) p.sender ∙ name_of_end es letter.from p.caller p.name

    -- items
    items_well : (name : List ℕ) → a.question ≡ GetItems name → letter.said.message.kind ≡ 2 → (b : ℕ) → name_told es (App b) ≡ Some name → items_told letter.said.message ≡ None → ⊥
    items_well name is two b told none = by mail
      where
        goes : first.destination ≡ Some name
        goes = ap (λ (z : Envelope). z.destination) (spelled (GetItems name) is)

        by : IsMail es (Reader r) letter → ⊥
        by (inl of_bus_) = false_true (sym (not_bus name b told goes (later (GetItems name) is refl) two) ∙ of_bus letter.said.message of_bus_.own)
        by (inr p) =
            let y = answers_it p in
            let ans : AppAnswers es r b t.m y.0.first = y.0.answers b (by_app name b told goes p) in
            let i : IsAnswerOf es b ans.said ans.call ans.caller = ans.answer in
            let call : ans.call ≡ record (asking first.serial (GetItems name)) { sender = Some ans.caller } = ans.alike ∙ ap (λ (z : Envelope). record z { sender = Some ans.caller }) (y.1 ∙ spelled (GetItems name) is) in
            let message_is : ans.said.message ≡ record (reply_to ans.caller ans.call.serial (answer_to i.app i.name (record (asking first.serial (GetItems name)) { sender = Some ans.caller })).reply) { serial = ans.said.message.serial } =
            i.message ∙ ap (λ c. record (reply_to ans.caller ans.call.serial (answer_to i.app i.name c).reply) { serial = ans.said.message.serial }) call in
            items_answer i.app i.name ans.caller name ans.call.serial ans.said.message.serial first.serial i.has
            (ap items_told (sym message_is) ∙ ap items_told (ans.is ∙ sym (post_is p)) ∙ ap (λ z. items_told z.message) (sym p.alike) ∙ none)

    -- THE CALL
    asks_part : (name path : List ℕ) (part : PartName) → a.question ≡ GetPart name path part → (b : ℕ) × (name_told es (App b) ≡ Some name)
    asks_part name path part is =
        let z = sent_split es (Reader r) a.serial first s.0.was in
        let n : IsOfNode (before_sent (Reader r) a.serial es) name path = nodes (before_sent (Reader r) a.serial es) (sent (Reader r) first) z.0 z.1 name path part (s.0.read ∙ ap Some is) in
        let early : name_told (before_sent (Reader r) a.serial es) (App n.app) ≡ Some name = sym (told_is (before_sent (Reader r) a.serial es) (App n.app)) ∙ n.its_name in
        (n.app, subst (λ l. name_told l (App n.app) ≡ Some name) (sym z.1) (told_more (before_sent (Reader r) a.serial es) (sent (Reader r) first ∷ z.0) (App n.app) name early))

    reply_well : HelloIsOne a → AsksAnApp es w sh g a → FailsWell w_after (answered_by letter.said.message a) → a.fate ≡ waits → IsReplyWell w letter.said.message a
    reply_well one apps fails waiting = by a.question refl (kinds letter.said.message replies)
      where
        can_fail : letter.said.message.kind ≡ 3 → CanFail w_after a.question
        can_fail three = subst (FailsWell w_after) (fails_now letter.said.message a replies to three) fails refl

        made : (q : Question) → a.question ≡ q → may_answer q letter.said.message ≡ true → IsReturnedWell w letter.said.message q → IsReplyWell w letter.said.message a
        made q is from well = record { waited = waiting; from = ap (λ z. may_answer z letter.said.message) is ∙ from; well = subst (IsReturnedWell w letter.said.message) (sym is) well }

        by : (q : Question) → a.question ≡ q → (letter.said.message.kind ≡ 2) ⊎ (letter.said.message.kind ≡ 3) → IsReplyWell w letter.said.message a
        by Hello is (inl two) = made Hello is refl (two, hello_well is (one is) two)
        by Hello is (inr three) = absurd (subst (CanFail w_after) is (can_fail three))
        by (AddMatch rule) is (inl two) = made (AddMatch rule) is refl two
        by (AddMatch rule) is (inr three) = absurd (subst (CanFail w_after) is (can_fail three))
        by (RegisterEvent pattern) is (inl two) = made (RegisterEvent pattern) is refl two
        by (RegisterEvent pattern) is (inr three) = absurd (subst (CanFail w_after) is (can_fail three))
        by GetChildren is (inl two) = made GetChildren is refl (two, children_well is two)
        by GetChildren is (inr three) = absurd (subst (CanFail w_after) is (can_fail three))
        by (GetItems name) is kind =
            let b = apps name is in
            let goes : first.destination ≡ Some name = ap (λ (z : Envelope). z.destination) (spelled (GetItems name) is) in
            made (GetItems name) is (it_may name b.0 b.1 goes) (at kind b goes)
          where
            at : (letter.said.message.kind ≡ 2) ⊎ (letter.said.message.kind ≡ 3) → (b : (b : ℕ) × (name_told es (App b) ≡ Some name)) → first.destination ≡ Some name → IsReturnedWell w letter.said.message (GetItems name)
            at (inl two) b goes = inl (two, not_bus name b.0 b.1 goes (later (GetItems name) is refl) two, items_well name is two b.0 b.1)
            at (inr three) b goes = inr (three, gone_before name (subst (CanFail w_after) is (can_fail three)))
        by (GetPart name path part) is kind =
            let b = asks_part name path part is in
            let goes : first.destination ≡ Some name = ap (λ (z : Envelope). z.destination) (spelled (GetPart name path part) is) ∙ part_goes first.serial name path part in
            made (GetPart name path part) is (it_may name b.0 b.1 goes) (λ two. not_bus name b.0 b.1 goes (later (GetPart name path part) is refl) two)

  -- ALL
  all_well : (replies : is_reply letter.said.message ≡ true) (xs : List Asked) → AllByRecursion (Sure es w sh g law lives conn r e h x.there x.whose x.role x.standing) xs → AllByRecursion HelloIsOne xs
      → AllByRecursion (AsksAnApp es w sh g) xs
      → AllByRecursion (λ a. FailsWell w_after (answered_by letter.said.message a)) xs → AllByRecursion (λ (a : Asked). is_reply_to a.serial letter.said.message.reply ≡ true → a.fate ≡ waits) xs
      → AllByRecursion (λ (a : Asked). is_reply_to a.serial letter.said.message.reply ≡ true → IsReplyWell w letter.said.message a) xs
  all_well replies [] sure one apps fails waiting = tt
  all_well replies (a ∷ xs) sure one apps fails waiting =
      ((λ to. reply_well replies a sure.0 to one.0 apps.0 fails.0 (waiting.0 to)), all_well replies xs sure.1 one.1 apps.1 fails.1 waiting.1)

  pub replies_well : RepliesWell w letter.said.message h.asked × SerialsDiffer h.asked
  replies_well = (
    (λ replies.
        all_well replies h.asked (all_sure es w sh g law lives conn r e h x.there x.whose x.role x.standing) (hello_one h.asked to_come order counts.head) (asks_apps es w sh g lives conn r e h x.there x.whose x.role x.standing) fail_well
        (waits_still script es w ground conn r e h letter rest x replies)),
    serials_differ 0 h.asked counts.rises,
  )
