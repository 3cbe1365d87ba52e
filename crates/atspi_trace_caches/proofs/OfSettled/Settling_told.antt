-- What became of a part that a reader asked for since it loaded an application that is here.
use Rattle.std.proofs.Common.{◌≡◌, ◌⊎◌, inl, inr, ℕ, suc, ◌+◌, ◌≤◌, Bool, true, false, List, [], ◌∷◌, ◌++◌, length, Option, None, Some, refl, sym, ap, ap₂, ◌∙◌, subst, arith, is_some}
use Rattle.std.specs.Prelude.{◌==◌, ◌||◌, ◌&&◌, not, if◌then◌else◌}
use Rattle.std.proofs.lemmas.Bool.{eqb-true, eq-eqb}
use Rattle.std.proofs.lemmas.List.{append_assoc}
use Rattle.atspi_tree_model.specs.Forest.{EachLabel}
use Rattle.atspi_tree_model.specs.RowRules.{rows}
use Rattle.atspi_tree_model.specs.Tree.{after_all}
use Rattle.atspi_script_lines.specs.declared.line.Party.TheVariants.{Bus as The_bus, App, Reader}
use Rattle.atspi_message.specs.Envelope.{Envelope}
use Rattle.atspi_names.specs.Owners.{own_name}
use Rattle.atspi_match.specs.routing.Members.{is_text}
use Rattle.atspi_match.specs.routing.Routing.{is_reply}
use Rattle.atspi_protocol.specs.ends.Messages.{Reply, returns, fails, reply_to}
use Rattle.atspi_protocol.specs.declared.news.part.PartName.{PartName}
use Rattle.atspi_protocol.specs.declared.following.question.Question.{Question}
use Rattle.atspi_protocol.specs.declared.following.question.Question.TheVariants.{GetPart}
use Rattle.atspi_protocol.specs.exporting.Exporter.{Exporter, named}
use Rattle.atspi_protocol.specs.exporting.Taking.{answer_to}
use Rattle.atspi_protocol.specs.following.Calls.{asking}
use Rattle.atspi_protocol.specs.following.Replied.{is_reply_to}
use Rattle.atspi_protocol.specs.following.Wishes.{is_refused}
use Rattle.atspi_protocol.specs.objects.Answers.{Answer}
use Rattle.atspi_protocol.specs.objects.Application.{Application}
use Rattle.atspi_trace.specs.Entry.{Entry, sent, got}
use Rattle.atspi_trace.specs.World.{here, Fate, returned, failed, waits, an_application, a_reader, Holding, Hearer, End, World}
use Rattle.atspi_trace.specs.Ends.{same_party, number_of, end_at}
use Rattle.atspi_trace.specs.Hearing.{question_in, holding_of}
use Rattle.atspi_trace_laws.specs.laws.Words.{live_tree, added, messages, message, before_sent, as_of, question_if, answers_question, Kept, kept_with, kept_after, held_on, held}
use Rattle.atspi_trace_laws.specs.laws.NineLaws.{Everywhere, StepIsOne, sent_before}
use Rattle.atspi_trace_laws.specs.serials.Laws.{HasNextNumber}
use Rattle.atspi_trace_laws.specs.taken.Laws.{IsTakenAsSent}
use Rattle.atspi_trace_caches.specs.settled.Laws.{IsOfNode, AsksOfNode, NoLoad, IsPartAsked}
use Rattle.atspi_trace_laws.proofs.OfOrder.Parties.{no_none, same_some, false_true}
use Rattle.atspi_trace_laws.proofs.OfOrder.Shape.{Shape}
use Rattle.atspi_trace_laws.proofs.OfOrder.Each.{Each, each_split, no_entries}
use Rattle.atspi_trace_laws.proofs.OfOwn.Writing.{Lives}
use Rattle.atspi_trace_laws.proofs.OfTaken.Found.{found_more, unsent, found_here, front_here, sent_split}
use Rattle.atspi_trace_laws.proofs.OfHeld.Keeping.{held_append, SameKept}
use Rattle.atspi_trace_laws.proofs.OfReaders.Fates.{fails_to, FateOf}
use Rattle.atspi_trace_laws.proofs.OfNames.Places.{name_told, told_is}
use Rattle.atspi_trace_laws.proofs.OfSigned.Mail.{NameIs, name_more, told_more, IsAnswerOf}
use Rattle.atspi_trace_laws.proofs.OfSigned.Self.{one_named}
use Rattle.atspi_trace_laws.proofs.OfSigned.LawMail.{name_of_end}
use Rattle.atspi_trace_laws.proofs.OfAnswered.Parts.{part_answer, IsValue}
use Rattle.atspi_trace_laws.proofs.OfAnswered.LawAnswered.{part_call_answered}
use Rattle.atspi_trace_caches.proofs.OfServed.Spelling.{has_serial}
use Rattle.atspi_trace_caches.proofs.OfServed.Asking.{Among}
use Rattle.atspi_trace_caches.proofs.OfServed.AskingAnswers.{IsAnswered, Answers}
use Rattle.atspi_trace_caches.proofs.OfSettled.Facts.{Lacks, WaitsFor, AllPartsTold}
use Rattle.atspi_trace_caches.proofs.OfSettled.Settling_ground.{Grounds, unique_is}
use Rattle.atspi_trace_caches.proofs.OfSettled.Settling_replies.{AppAnswers, AnswersIt, TakesReplies}
use Rattle.atspi_trace_caches.proofs.OfSettled.Settling_held.{returns_to, Took, took, and_left, and_right, reply_is, who_replied, of_app, was_before, reads_as, Sure, all_sure, above_one}
use Rattle.atspi_trace_caches.proofs.OfSettled.Settling_lacks.{LacksAt, each_labels, stays_lacking, refused_steps, refused_lacks}
use Rattle.atspi_trace_caches.proofs.OfSettled.Settling_parts.{BusKnows, splits, each_behind, numbers_front, among_split, added_more, part_read, part_to, Found, found_call, HasIt, told_now, along_it, load_behind}

value_kind : (caller : List ℕ) (n : ℕ) (reply : Reply) → IsValue reply → (reply_to caller n reply).kind ≡ 2
value_kind caller n (returns values) h = refl
value_kind caller n (fails word) h = absurd h

module _ (es : List Entry) (w : World) (sh : Shape w) (g : Grounds es w) (law : Each TakesReplies [] es) (live : Lives es) (nodes : Everywhere AsksOfNode es) (bus_knows : BusKnows es w) (k r : ℕ) (e : End) (h : Hearer) (there : end_at w.ends k ≡ Some e)
    (whose : e.who ≡ Reader r) (role : e.role ≡ a_reader h) (on : e.standing ≡ here) (j a : ℕ) (d : End) (s : Exporter) (name : List ℕ) (its_there : end_at w.ends j ≡ Some d) (its_whose : d.who ≡ App a) (its_role : d.role ≡ an_application s)
    (its_on : d.standing ≡ here) (its_unique : d.unique ≡ Some name) (hold : Holding) (has : holding_of a h.holds ≡ Some hold) (path : List ℕ) (part : PartName) (ask : IsPartAsked es r a name path part) where
  abbrev q : Question
  q = GetPart name path part

  abbrev n : ℕ
  n = ask.serial

  abbrev call : Entry
  call = sent (Reader r) (asking n q)

  abbrev front : List Entry
  front = ask.early ++ call ∷ []

  split : es ≡ ask.early ++ call ∷ ask.late
  split = ask.is ∙ append_assoc ask.early (call ∷ []) ask.late

  no_bus : Reader r ≡ The_bus → ⊥
  no_bus is = false_true (ap (λ p. same_party p The_bus) is)

  -- the call, as it was sent
  number : n ≡ suc (sent_before (Reader r) + length (messages ask.early (Reader r)))
  number = each_split HasNextNumber [] es g.serials ask.early call ask.late split

  not_yet : message ask.early (Reader r) n ≡ None
  not_yet = unsent ask.early (Reader r) no_bus (numbers_front [] ask.early (call ∷ ask.late) (subst (Each HasNextNumber []) split g.serials)) n number n (least n)
    where
      least : (m : ℕ) → m ≤ m
      least m = omega arith

  was : message es (Reader r) n ≡ Some (asking n q)
  was = ap (λ l. message l (Reader r) n) split ∙ found_here ask.early ask.late (Reader r) (asking n q) not_yet

  read : question_in (asking n q) ≡ Some q
  read = part_read n name path part

  to : (asking n q).destination ≡ Some name
  to = part_to n name path part

  told : name_told es (App a) ≡ Some name
  told = unique_is es w sh g j a d name its_there its_whose its_unique

  its_node : IsOfNode ask.early name path
  its_node = nodes ask.early call ask.late split name path part read

  early_told : name_told ask.early (App its_node.app) ≡ Some name
  early_told = sym (told_is ask.early (App its_node.app)) ∙ its_node.its_name

  is_app : its_node.app ≡ a
  is_app = number_of_app (one_named es (App its_node.app) (App a) name g.few (inr (subst (λ l. name_told l (App its_node.app) ≡ Some name) (sym split) (told_more ask.early (call ∷ ask.late) (App its_node.app) name early_told))) (inr told))
    where
      number_of_app : App its_node.app ≡ App a → its_node.app ≡ a
      number_of_app is = ap number_of is

  -- as the reader has it
  found : Found (Sure es w sh g law live k r e h there whose role on) n q h.asked
  found =
      found_call (Sure es w sh g law live k r e h there whose role on) n h.asked q (all_sure es w sh g law live k r e h there whose role on)
      (sym ((g.readers k r e h there whose role).calls n) ∙ ap question_if was ∙ read)

  more : 2 ≤ n
  more = above_one es w sh g law live k r e h there whose role on n (asking n q) q (subst (λ m. 1 ≤ m) found.serial found.has.1) was read refl

  -- WHAT COMES BEHIND THE CALL
  behind_call : (B D : List Entry) (x : Entry) (m : Envelope) → es ≡ B ++ x ∷ D → message B (Reader r) n ≡ Some m → (call ≡ x → ⊥) → (Z : List Entry) × (B ≡ front ++ Z) × (ask.late ≡ Z ++ x ∷ D)
  behind_call B D x m is has_it other = by (splits front ask.late B D x (sym ask.is ∙ is))
    where
      in_front : (Z : List Entry) → front ≡ B ++ x ∷ Z → ⊥
      in_front Z at = at_end (splits ask.early (call ∷ []) B Z x at)
        where
          at_end : ((Y : List Entry) × (ask.early ≡ B ++ x ∷ Y)) ⊎ ((Y : List Entry) × (B ≡ ask.early ++ Y) × (call ∷ [] ≡ Y ++ x ∷ Z)) → ⊥
          at_end (inl y) = no_none m (sym not_yet ∙ ap (λ l. message l (Reader r) n) y.1 ∙ found_more B (x ∷ y.0) (Reader r) n m has_it)
          at_end (inr y) = last y.0 y.2
            where
              first_or : Entry → List Entry → Entry
              first_or z [] = z
              first_or z (v ∷ vs) = v

              rest_of : List Entry → List Entry
              rest_of [] = []
              rest_of (v ∷ vs) = vs

              last : (Y : List Entry) → call ∷ [] ≡ Y ++ x ∷ Z → ⊥
              last [] is = other (ap (first_or call) is)
              last (z ∷ zs) is = no_entries zs x Z (ap rest_of is)

      by : ((Z : List Entry) × (front ≡ B ++ x ∷ Z)) ⊎ ((Z : List Entry) × (B ≡ front ++ Z) × (ask.late ≡ Z ++ x ∷ D)) → (Z : List Entry) × (B ≡ front ++ Z) × (ask.late ≡ Z ++ x ∷ D)
      by (inl z) = absurd (in_front z.0 z.1)
      by (inr z) = z

  abbrev Goal : Type 0
  Goal = (is_refused hold.told path part ≡ true) ⊎ Lacks s.tree path part

  -- WHERE THE APPLICATION REPLIED
  module _ (p : Envelope → Bool) (t : Took es r p) (replies : is_reply t.m ≡ true) (reply : t.m.reply ≡ Some n) (from : t.who ≡ App a) where
    x : (x : AnswersIt t.before r (App a) t.m n) × (x.first ≡ asking n q)
    x = of_app es w sh g law live r n (asking n q) was more name to a told p t replies reply from

    m_was : message t.before (App a) t.serial ≡ Some t.m
    m_was = was_before es w sh g law live r n (asking n q) was more name to a told p t replies reply from

    is : es ≡ t.before ++ got (Reader r) (App a) t.serial ∷ t.behind
    is = subst (λ y. es ≡ t.before ++ got (Reader r) y t.serial ∷ t.behind) from t.is

    at : (Z : List Entry) × (t.before ≡ front ++ Z) × (ask.late ≡ Z ++ got (Reader r) (App a) t.serial ∷ t.behind)
    at = behind_call t.before t.behind (got (Reader r) (App a) t.serial) x.0.first is x.0.was no_got
      where
        is_sent : Entry → Bool
        is_sent (sent who m) = true
        is_sent y = false

        no_got : call ≡ got (Reader r) (App a) t.serial → ⊥
        no_got is = false_true (sym (ap is_sent is))

    -- with a return it was told
    was_told : t.m.kind ≡ 2 → is_refused hold.told path part ≡ true
    was_told two = by (held es r a) has_it (subst (SameKept es a (held es r a)) has ((g.readers k r e h there whose role).holds a))
      where
        reads : answers_question t.before r (message t.before (App a) t.serial) ≡ Some q
        reads = reads_as es w sh g law live r n (asking n q) was more name to a told p t replies reply from two q read

        now : kept_after t.before r a (held t.before r a) (got (Reader r) (App a) t.serial) ≡ kept_with t.serial (Some q) (held t.before r a)
        now =
            ap₂ (λ b c. if b && c then kept_with t.serial (answers_question t.before r (message t.before (App a) t.serial)) (held t.before r a) else held t.before r a) (eq-eqb r r refl) (eq-eqb a a refl)
            ∙ ap (λ o. kept_with t.serial o (held t.before r a)) reads

        abbrev_next : List Entry
        abbrev_next = t.before ++ got (Reader r) (App a) t.serial ∷ []

        no_load : NoLoad abbrev_next r a t.behind
        no_load =
            subst (λ l. NoLoad l r a t.behind) (sym (append_assoc front at.0 (got (Reader r) (App a) t.serial ∷ [])) ∙ ap (λ l. l ++ got (Reader r) (App a) t.serial ∷ []) (sym at.1))
            (load_behind path part front (at.0 ++ got (Reader r) (App a) t.serial ∷ []) t.behind ask.late r a (at.2 ∙ sym (append_assoc at.0 (got (Reader r) (App a) t.serial ∷ []) t.behind)) ask.no_load)

        has_it : HasIt path part (held es r a)
        has_it =
            subst (HasIt path part)
            (sym (ap (λ l. held l r a) is ∙ held_append [] t.before (got (Reader r) (App a) t.serial ∷ t.behind) r a None ∙ ap (λ o. held_on abbrev_next r a o t.behind) now))
            (along_it path part abbrev_next t.behind r a (kept_with t.serial (Some q) (held t.before r a)) no_load (told_now path part t.serial name (held t.before r a)))

        by : (o : Option Kept) → HasIt path part o → SameKept es a o (Some hold) → is_refused hold.told path part ≡ true
        by None it same = absurd same
        by (Some kept) it same = subst (λ parts. is_refused parts path part ≡ true) same.told it

    -- with an error there is none
    was_refused : (t.m.kind ≡ 2 → ⊥) → Lacks s.tree path part
    was_refused other = subst (λ f. Lacks f path part) (sym (g.trees j a d s its_there its_whose its_role).tree) (each_labels (LacksAt path part) (live_tree es a) now)
      where
        ans : AppAnswers t.before r a t.m x.0.first
        ans = x.0.answers a refl

        i : IsAnswerOf t.before a ans.said ans.call ans.caller
        i = ans.answer

        app : Application
        app = named i.app i.name

        spelled : ans.call ≡ record (asking n q) { sender = Some ans.caller }
        spelled = ans.alike ∙ ap (λ (m : Envelope). record m { sender = Some ans.caller }) x.1

        answered : answer_to i.app i.name ans.call ≡ part_answer app path part
        answered = ap (answer_to i.app i.name) spelled ∙ part_call_answered i.app i.name ans.caller n name path part

        kind_is : t.m.kind ≡ (reply_to ans.caller ans.call.serial (part_answer app path part).reply).kind
        kind_is = ap (λ (m : Envelope). m.kind) (sym ans.is ∙ i.message) ∙ ap (λ (y : Answer). (reply_to ans.caller ans.call.serial y.reply).kind) answered

        never : IsValue (part_answer app path part).reply → ⊥
        never v = other (kind_is ∙ value_kind ans.caller ans.call.serial (part_answer app path part).reply v)

        serial_is : t.m.serial ≡ t.serial
        serial_is = has_serial t.serial (messages t.before (App a)) t.m m_was

        -- the entries before the reply
        S : List Entry
        S = before_sent (App a) t.serial t.before

        tree_then : live_tree S a ≡ i.app.tree
        tree_then =
            ap (as_of t.before a) (sym serial_is) ∙ ans.tree ∙ i.tree
            ∙ ap (after_all rows i.app.tree) (ap (λ (y : Answer). y.steps) answered ∙ refused_steps path part its_node.node its_node.is_of app i.app.added i.has never)

        lacks : EachLabel (LacksAt path part) (live_tree S a)
        lacks = subst (EachLabel (LacksAt path part)) (sym tree_then) (refused_lacks path part its_node.node its_node.is_of app i.app.added i.has never)

        back : (rest : List Entry) × (t.before ≡ S ++ sent (App a) t.m ∷ rest)
        back = sent_split t.before (App a) t.serial t.m m_was

        rest : List Entry
        rest = sent (App a) t.m ∷ (back.0 ++ got (Reader r) (App a) t.serial ∷ t.behind)

        as_sent : es ≡ S ++ rest
        as_sent = is ∙ ap (λ l. l ++ got (Reader r) (App a) t.serial ∷ t.behind) back.1 ∙ append_assoc S (sent (App a) t.m ∷ back.0) (got (Reader r) (App a) t.serial ∷ t.behind)

        -- it answers a call that it took, which is this
        one : IsAnswered S a t.m
        one = (each_split Answers [] es g.answered S (sent (App a) t.m) (back.0 ++ got (Reader r) (App a) t.serial ∷ t.behind) as_sent).0 replies

        caller_is : one.caller ≡ ans.caller
        caller_is = same_some one.caller ans.caller (sym one.to ∙ ans.to)

        mine : NameIs es (Reader r) ans.caller
        mine = subst (λ l. NameIs l (Reader r) ans.caller) (sym is) (name_more t.before (got (Reader r) (App a) t.serial ∷ t.behind) (Reader r) ans.caller ans.mine)

        from_me : one.from ≡ Reader r
        from_me = by one.whose
          where
            by : (one.caller ≡ own_name) ⊎ NameIs S one.from one.caller → one.from ≡ Reader r
            by (inl own) = absurd (false_true (sym (name_of_end es (Reader r) ans.caller mine) ∙ ap (λ c. is_text (Some c) own_name) (sym caller_is ∙ own)))
            by (inr it) = one_named es one.from (Reader r) ans.caller g.few (subst (λ l. NameIs l one.from ans.caller) (sym as_sent) (name_more S rest one.from ans.caller (subst (NameIs S one.from) caller_is it))) mine

        serial_one : one.serial ≡ n
        serial_one = same_some one.serial n (sym one.with_ ∙ reply)

        got_it : (ys zs : List Entry) × (S ≡ ys ++ got (App a) (Reader r) n ∷ zs)
        got_it = among_split (got (App a) (Reader r) n) S (subst (λ m. Among (got (App a) (Reader r) m) S) serial_one (subst (λ y. Among (got (App a) y one.serial) S) from_me one.taken))

        at_taking : es ≡ got_it.0 ++ got (App a) (Reader r) n ∷ (got_it.1 ++ rest)
        at_taking = as_sent ∙ ap (λ l. l ++ rest) got_it.2 ∙ append_assoc got_it.0 (got (App a) (Reader r) n ∷ got_it.1) rest

        sent_then : is_some (message got_it.0 (Reader r) n) ≡ true
        sent_then = each_split IsTakenAsSent [] es g.taken got_it.0 (got (App a) (Reader r) n) (got_it.1 ++ rest) at_taking

        behind : (Z : List Entry) × (got_it.0 ≡ front ++ Z) × (ask.late ≡ Z ++ got (App a) (Reader r) n ∷ (got_it.1 ++ rest))
        behind = by (message got_it.0 (Reader r) n) refl sent_then
          where
            is_sent : Entry → Bool
            is_sent (sent who m) = true
            is_sent y = false

            by : (o : Option Envelope) → message got_it.0 (Reader r) n ≡ o → is_some o ≡ true → (Z : List Entry) × (got_it.0 ≡ front ++ Z) × (ask.late ≡ Z ++ got (App a) (Reader r) n ∷ (got_it.1 ++ rest))
            by None is some = absurd (false_true some)
            by (Some m) is some = behind_call got_it.0 (got_it.1 ++ rest) (got (App a) (Reader r) n) m at_taking is (λ same. false_true (sym (ap is_sent same)))

        -- so the node was added by then
        S_is : S ≡ ask.early ++ (call ∷ (behind.0 ++ got (App a) (Reader r) n ∷ got_it.1))
        S_is =
            got_it.2 ∙ ap (λ l. l ++ got (App a) (Reader r) n ∷ got_it.1) behind.1 ∙ append_assoc front behind.0 (got (App a) (Reader r) n ∷ got_it.1)
            ∙ append_assoc ask.early (call ∷ []) (behind.0 ++ got (App a) (Reader r) n ∷ got_it.1)

        low : its_node.node ≤ added S a
        low =
            let early : its_node.node ≤ added ask.early a = subst (λ b. its_node.node ≤ added ask.early b) is_app its_node.was_added in
            let grown : added ask.early a ≤ added S a = subst (λ l. added ask.early a ≤ added l a) (sym S_is) (added_more ask.early (call ∷ (behind.0 ++ got (App a) (Reader r) n ∷ got_it.1)) a) in
            omega (arith, early, grown)

        now : EachLabel (LacksAt path part) (live_tree es a)
        now =
            subst (λ l. EachLabel (LacksAt path part) (live_tree l a)) (sym as_sent)
            (stays_lacking path part its_node.node its_node.is_of a S rest (each_behind StepIsOne [] S rest (subst (Each StepIsOne []) as_sent g.steps)) (lacks, low)).0

    of_its : Goal
    of_its = by (t.m.kind == 2) refl
      where
        by : (b : Bool) → (t.m.kind == 2) ≡ b → Goal
        by true h = inl (was_told (eqb-true t.m.kind 2 h))
        by false h = inr (was_refused (λ two. false_true (sym h ∙ eq-eqb t.m.kind 2 two)))

  -- WHOEVER REPLIED
  replied : (p : Envelope → Bool) (t : Took es r p) → is_reply t.m ≡ true → t.m.reply ≡ Some n → Goal
  replied p t replies reply = by (who_replied es w sh g law live r n (asking n q) was more name to a told p t replies reply)
    where
      by : (t.who ≡ App a) ⊎ ((t.who ≡ The_bus) × (t.m.kind ≡ 2 → ⊥)) → Goal
      by (inl from) = of_its p t replies reply from
      by (inr bus) =
          absurd (bus_knows live t.before t.behind r n t.serial t.m (asking n q) name a (subst (λ y. es ≡ t.before ++ got (Reader r) y t.serial ∷ t.behind) bus.0 t.is) (subst (λ y. message es y t.serial ≡ Some t.m) bus.0 t.was) replies bus.1 reply was to given
          j d its_there its_whose its_on)
        where
          given : name_told (before_sent (Reader r) n es) (App a) ≡ Some name
          given =
              subst (λ l. name_told l (App a) ≡ Some name) (sym (ap (before_sent (Reader r) n) split ∙ front_here ask.early ask.late (Reader r) (asking n q) not_yet))
              (subst (λ b. name_told ask.early (App b) ≡ Some name) is_app early_told)

  pub part_settled : WaitsFor q h.asked ⊎ ((is_refused hold.told path part ≡ true) ⊎ Lacks s.tree path part)
  part_settled = by found.x.fate refl
    where
      by : (f : Fate) → found.x.fate ≡ f → WaitsFor q h.asked ⊎ ((is_refused hold.told path part ≡ true) ⊎ Lacks s.tree path part)
      by waits is = inl (found.waiting is)
      by returned is =
          let t = took es r (returns_to found.x.serial) (subst (FateOf es r found.x.serial) is found.has.0.fate) in
          let two = eqb-true t.m.kind 2 (and_left (t.m.kind == 2) (is_reply_to found.x.serial t.m.reply) t.passes) in
          inr (replied (returns_to found.x.serial) t (ap (λ k. k == 2 || k == 3) two) (reply_is found.x.serial t.m.reply (and_right (t.m.kind == 2) (is_reply_to found.x.serial t.m.reply) t.passes) ∙ ap Some found.serial))
      by failed is =
          let t = took es r (fails_to found.x.serial) (subst (FateOf es r found.x.serial) is found.has.0.fate) in
          let replies = and_left (is_reply t.m && is_reply_to found.x.serial t.m.reply) (not (t.m.kind == 2)) t.passes in
          inr (replied (fails_to found.x.serial) t (and_left (is_reply t.m) (is_reply_to found.x.serial t.m.reply) replies) (reply_is found.x.serial t.m.reply (and_right (is_reply t.m) (is_reply_to found.x.serial t.m.reply) replies) ∙ ap Some found.serial))

pub all_parts : (es : List Entry) (w : World) → Shape w → Grounds es w → Each TakesReplies [] es → BusKnows es w → AllPartsTold es w
all_parts es w sh g law bus_knows live nodes k r e h there whose role on j a d s name its_there its_whose its_role its_on its_unique hold has path part ask =
    part_settled es w sh g law live nodes bus_knows k r e h there whose role on j a d s name its_there its_whose its_role its_on its_unique hold has path part ask
