-- What a reader heard of the registry's children, where it takes a message.
use Rattle.std.proofs.Common.{◌≡◌, ◌⊎◌, inl, inr, ℕ, suc, ◌+◌, ◌<◌, Bool, true, false, List, [], ◌∷◌, ◌++◌, map, Option, None, Some, refl, sym, ap, ◌∙◌, subst, arith}
use Rattle.std.specs.Prelude.{◌==◌, ◌&&◌, ◌||◌, option_map, if◌then◌else◌}
use Rattle.std.specs.List.{AllByRecursion, cons_option}
use Rattle.std.proofs.lemmas.Bool.{eqb-true}
use Rattle.atspi_script_lines.specs.declared.line.Party.{Party}
use Rattle.atspi_script_lines.specs.declared.line.Party.TheVariants.{Bus as The_bus, Registry, App, Reader}
use Rattle.atspi_message.specs.Envelope.{Envelope}
use Rattle.atspi_names.specs.Owners.{own_name, unique_name}
use Rattle.atspi_tree_model.specs.declared.news.Reference.{Reference}
use Rattle.atspi_match.specs.routing.Routing.{is_reply}
use Rattle.atspi_protocol.specs.news.Replies.{elements_of}
use Rattle.atspi_protocol.specs.declared.following.question.Question.{Question}
use Rattle.atspi_protocol.specs.declared.following.question.Question.TheVariants.{Hello, AddMatch, RegisterEvent, GetChildren, GetItems, GetPart}
use Rattle.atspi_protocol.specs.following.ReaderState.{begins as begins_reader}
use Rattle.atspi_protocol.specs.following.Known.{references_among, new_child}
use Rattle.atspi_protocol.specs.following.Replied.{is_reply_to}
use Rattle.atspi_trace.specs.Entry.{Entry, got}
use Rattle.atspi_trace.specs.World.{Fate, returned, failed, Asked, Hearer, Said, Letter, End}
use Rattle.atspi_trace.specs.Ends.{same_party}
use Rattle.atspi_trace.specs.Hearing.{fate_of, question_in, question_returned, child_name, names_told, registry_after, hears_letter}
use Rattle.atspi_trace_laws.specs.laws.Words.{message, hello_of}
use Rattle.atspi_trace_laws.specs.laws.NineLaws.{sent_before, count_got_by_bus}
use Rattle.atspi_trace_laws.specs.links.Laws.{IsTakenInOrder}
use Rattle.atspi_trace_laws.proofs.OfOrder.Parties.{no_none, same_some, false_true}
use Rattle.atspi_trace_laws.proofs.OfOrder.Each.{Each}
use Rattle.atspi_trace_laws.proofs.OfLinks.LawLinks.{first_unread}
use Rattle.atspi_trace_laws.proofs.OfTaken.Found.{found_more}
use Rattle.atspi_trace_laws.proofs.OfTaken.Said as told
use Rattle.atspi_trace_laws.proofs.OfTurns.Turning.{IsBehind, Turns}
use Rattle.atspi_trace_laws.proofs.OfReaders.Fates.{FateIs}
use Rattle.atspi_trace_laws.proofs.OfNames.Places.{first_at, greeted}
use Rattle.atspi_trace_laws.proofs.OfSigned.Mail.{NameIs, name_more, IsCallOf, IsAnswer, IsMail}
use Rattle.atspi_trace_laws.proofs.OfSigned.Self.{unique_told, for_bus_true}
use Rattle.atspi_trace_laws.proofs.OfMissed.Arriving.{On}
use Rattle.atspi_trace_laws.proofs.OfMissed.Delivering.{all_on}
use Rattle.atspi_trace_caches.proofs.OfServed.Facts.{OnLink}
use Rattle.atspi_trace_caches.proofs.OfServed.ListingTold.{question_of_call}
use Rattle.atspi_trace_caches.proofs.OfSettled.Facts.{IsIn}
use Rattle.atspi_trace_caches.proofs.OfSettled.TellingWords.{IsAdd}
use Rattle.atspi_trace_caches.proofs.OfSettled.TellingAsked.{IsWell, well_back, well_one}
use Rattle.atspi_trace_caches.proofs.OfSettled.TellingHeard.{NewsAt, AllNewsOf, Heard, IsReply, Attends, in_front, in_back, in_map, one_name, add_taken, four_none, answers_some}

-- THE REGISTRY says no Hello: its name is the first
not_one : (n k : ℕ) → n ≡ suc (3 + k) → (n == 1) ≡ true → ⊥
not_one n k h g = let one : n ≡ 1 = eqb-true n 1 g in absurd (omega (arith, h, one))

none_greeted : (early es : List Entry) → Each IsTakenInOrder early es → first_at (same_party Registry) (greeted es) ≡ None
none_greeted early [] e = refl
none_greeted early (x ∷ xs) e = by x e.0 (none_greeted (early ++ x ∷ []) xs e.1)
  where
    cons : (o : Option Party) → ((who : Party) → o ≡ Some who → same_party Registry who ≡ false) → first_at (same_party Registry) (greeted xs) ≡ None → first_at (same_party Registry) (cons_option o (greeted xs)) ≡ None
    cons None f h = h
    cons (Some who) f h = ap (λ b. if b then Some 0 else option_map suc (first_at (same_party Registry) (greeted xs))) (f who refl) ∙ ap (option_map suc) h

    greets : (who : Party) (n : ℕ) → n ≡ suc (sent_before who + count_got_by_bus early who) → (b : Bool) → (n == 1) ≡ b → (p : Party) → (if b then Some who else None) ≡ Some p → same_party Registry p ≡ false
    greets who n h false g p q = absurd (no_none p q)
    greets who n h true g p q = party who p (same_some who p q) h
      where
        party : (who p : Party) → who ≡ p → n ≡ suc (sent_before who + count_got_by_bus early who) → same_party Registry p ≡ false
        party Registry p same k = absurd (not_one n (count_got_by_bus early Registry) k g)
        party The_bus p same k = ap (same_party Registry) (sym same)
        party (App a) p same k = ap (same_party Registry) (sym same)
        party (Reader a) p same k = ap (same_party Registry) (sym same)

    by : (x : Entry) → IsTakenInOrder early x xs → first_at (same_party Registry) (greeted xs) ≡ None → first_at (same_party Registry) (cons_option (hello_of x) (greeted xs)) ≡ None
    by (got The_bus who n) law h = cons (hello_of (got The_bus who n)) (λ p q. greets who n law.1 (n == 1) refl p q) h
    by entry law h = h

pub registry_name : (es : List Entry) (name : List ℕ) → Each IsTakenInOrder [] es → NameIs es Registry name → name ≡ one_name
registry_name es name law (inl h) = h.1
registry_name es name law (inr h) = absurd (no_none name (sym (ap (option_map (λ n. unique_name (suc n))) (none_greeted [] es law)) ∙ h))

-- A READER TAKES A LETTER
module _ (es ys : List Entry) (r : ℕ) (h : Hearer) (ends : List End) (l : Letter) (rest : List Letter) (n : ℕ) (law : Each IsTakenInOrder [] es) (mail : IsMail es (Reader r) l) (comes : told.Comes es l) (turns : Turns es (Reader r) (l ∷ rest)) (fates : AllByRecursion (FateIs es r) h.asked)
    (unread : first_unread (es ++ ys) Registry ≡ first_unread es Registry) (old : (x : IsWell h.asked n) → Attends es r h (l ∷ rest) n x) where
  abbrev m : Envelope
  m = l.said.message

  abbrev g : Hearer
  g = hears_letter h ends l

  abbrev o : Option Question
  o = question_returned m h.asked

  in_order : (j : Letter) → On j rest → l.from ≡ Registry → j.from ≡ Registry → m.serial < j.said.message.serial
  in_order j on from other = all_on (IsBehind l) rest turns.1 j on (λ bus. false_true (ap (λ p. same_party p Registry) (sym bus ∙ other))) (from ∙ sym other)

  -- as the registry sent it
  as_sent : l.from ≡ Registry → (first : Envelope) × (message es Registry m.serial ≡ Some first) × (m ≡ record first { sender = Some one_name })
  as_sent from = by mail
    where
      by : IsMail es (Reader r) l → (first : Envelope) × (message es Registry m.serial ≡ Some first) × (m ≡ record first { sender = Some one_name })
      by (inl b) = absurd (false_true (ap (λ p. same_party p Registry) (sym b.from ∙ from)))
      by (inr p) =
          let is_it : m ≡ record p.first.message { sender = Some p.caller } = ap (λ (z : Said). z.message) p.alike in
          let name : p.caller ≡ one_name = registry_name es p.caller law (subst (λ q. NameIs es q p.caller) from p.name) in
          let number : p.first.message.serial ≡ m.serial = ap (λ (z : Envelope). z.serial) (sym is_it) in
          (p.first.message, ap (λ q. message es q m.serial) (sym from) ∙ ap (message es l.from) (sym number) ∙ p.sent_.was, is_it ∙ ap (λ c. record p.first.message { sender = Some c }) name)

  -- what it answers is the call for the children
  asked_is : (x : IsWell h.asked n) → m.kind ≡ 2 → m.reply ≡ Some n → o ≡ Some GetChildren
  asked_is x two reply = by o refl
    where
      fate : FateIs es r x.one
      fate = middle x.early (subst (AllByRecursion (FateIs es r)) x.are fates)
        where
          middle : (xs : List Asked) → AllByRecursion (FateIs es r) (xs ++ x.one ∷ x.late) → FateIs es r x.one
          middle [] a = a.0
          middle (z ∷ zs) a = middle zs a.1

      by : (q : Option Question) → o ≡ q → o ≡ Some GetChildren
      by None is =
          absurd (answers_some m x.early x.late x.one two (reply ∙ ap Some (sym x.serial)) (ap (question_returned m) (sym x.are) ∙ is))
      by (Some question) is =
          let y = question_of_call (FateIs es r) m h.asked question fates is in
          let number : y.0.serial ≡ x.one.serial = same_some y.0.serial x.one.serial (sym y.4 ∙ reply ∙ ap Some (sym x.serial)) in
          let same : y.1.first ≡ fate.first = same_some y.1.first fate.first (sym y.1.was ∙ ap (message es (Reader r)) number ∙ fate.was) in
          is ∙ sym (sym (fate.read ∙ ap Some x.question) ∙ ap question_in (sym same) ∙ y.1.read ∙ ap Some y.2)

  -- the first is gone: news of one stand behind it, or it is they, and the name is known
  without : (base : ℕ) (named : List (List ℕ)) → h.registry ≡ Some one_name → AllNewsOf es base (l ∷ rest) named → ((u : List ℕ) → IsIn u named → IsIn u h.named) → AllNewsOf (es ++ ys) base rest g.named
  without base named registry a more n_ above below = (y.0, found_more es ys Registry n_ y.0 y.1, λ u add. by u add (y.2 u add))
    where
      y : NewsAt es (l ∷ rest) named n_
      y = a n_ above (subst (λ k. n_ < k) unread below)

      by : (u : List ℕ) → IsAdd u y.0 → OnLink n_ (l ∷ rest) ⊎ IsIn u named → OnLink n_ rest ⊎ IsIn u g.named
      by u add (inr i) = inr (in_front u h.named (names_told h m o) (more u i))
      by u add (inl (j, inr on, from, number)) = inl (j, on, from, number)
      by u add (inl (j, inl same, from, number)) =
          let l_from : l.from ≡ Registry = ap (λ (z : Letter). z.from) same ∙ from in
          let f = as_sent l_from in
          let is : f.0 ≡ y.0 = same_some f.0 y.0 (sym f.1 ∙ ap (message es Registry) (ap (λ (z : Letter). z.said.message.serial) same ∙ number) ∙ y.1) in
          let four : m.kind ≡ 4 = ap (λ (z : Envelope). z.kind) f.2 ∙ ap (λ (z : Envelope). z.kind) (is ∙ add.2) in
          let told_ : names_told h m o ≡ u ∷ [] =
          ap (names_told h m) (four_none m h.asked four) ∙ ap (λ z. child_name (new_child (record begins_reader { registry = z }) m)) registry ∙ add_taken u m y.0 add (f.2 ∙ ap (λ (z : Envelope). record z { sender = Some one_name }) is) in
          inr (in_back u h.named (names_told h m o) (subst (IsIn u) (sym told_) (inl refl)))

  -- who sent the return stays known
  still_registry : h.registry ≡ Some one_name → (q : Option Question) → o ≡ q → ((x : IsWell h.asked n) → q ≡ Some GetChildren → l.from ≡ Registry) → IsWell h.asked n → registry_after h m q ≡ Some one_name
  still_registry known None is f x = known
  still_registry known (Some GetChildren) is f x = ap (λ (z : Envelope). z.sender) (as_sent (f x refl)).2
  still_registry known (Some Hello) is f x = known
  still_registry known (Some (AddMatch rule)) is f x = known
  still_registry known (Some (RegisterEvent pattern)) is f x = known
  still_registry known (Some (GetItems name)) is f x = known
  still_registry known (Some (GetPart name path part)) is f x = known

  module _ (returns_children : o ≡ Some GetChildren → l.from ≡ Registry) where
    heard_still : (x : IsWell h.asked n) → Heard es r h (l ∷ rest) n → Heard (es ++ ys) r g rest n
    heard_still x i = record {
      base = i.base;
      last = i.last;
      was = found_more es ys Registry i.base i.last i.was;
      kind = i.kind;
      caller = i.caller;
      to = i.to;
      name = name_more es ys (Reader r) i.caller i.name;
      reply = i.reply;
      names = λ u q. in_front u h.named (names_told h m o) (i.names u q);
      behind = without i.base h.named i.registry i.behind (λ u q. q);
      registry = still_registry i.registry o refl (λ z is. returns_children is) x;
    }

    heard_now : (x : IsWell h.asked n) → m.kind ≡ 2 → m.reply ≡ Some n → Heard (es ++ ys) r g rest n
    heard_now x two reply = record {
      base = m.serial;
      last = f.0;
      was = found_more es ys Registry m.serial f.0 f.1;
      kind = ap (λ (z : Envelope). z.kind) (sym f.2) ∙ two;
      caller = for_it.0;
      to = ap (λ (z : Envelope). z.destination) (sym f.2) ∙ for_it.1;
      name = name_more es ys (Reader r) for_it.0 for_it.2;
      reply = ap (λ (z : Envelope). z.reply) (sym f.2) ∙ reply;
      names = λ u q.
          in_back u h.named (names_told h m o)
          (subst (IsIn u) (sym (ap (names_told h m) is ∙ ap (λ (z : Envelope). map (λ (root : Reference). root.bus) (references_among (elements_of z.body))) f.2)) (in_map u (references_among (elements_of f.0.body)) q));
      behind = λ n_ above below.
          let y = ((old x).comes l (inl refl) (from, two, reply)) n_ above (subst (λ k. n_ < k) unread below) in
          (y.0, found_more es ys Registry n_ y.0 y.1, λ u add. gone n_ above u (y.2 u add));
      registry = ap (registry_after h m) is ∙ ap (λ (z : Envelope). z.sender) f.2;
    }
      where
        from : l.from ≡ Registry
        from = returns_children (asked_is x two reply)

        is : o ≡ Some GetChildren
        is = asked_is x two reply

        f : (first : Envelope) × (message es Registry m.serial ≡ Some first) × (m ≡ record first { sender = Some one_name })
        f = as_sent from

        gone : (n_ : ℕ) → m.serial < n_ → (u : List ℕ) → OnLink n_ (l ∷ rest) ⊎ IsIn u [] → OnLink n_ rest ⊎ IsIn u g.named
        gone n_ above u (inr none) = absurd none
        gone n_ above u (inl (j, inr on, its, number)) = inl (j, on, its, number)
        gone n_ above u (inl (j, inl same, its, number)) = let at : m.serial ≡ n_ = ap (λ (z : Letter). z.said.message.serial) same ∙ number in absurd (omega (arith, above, at))

        for_it : (caller : List ℕ) × (m.destination ≡ Some caller) × NameIs es (Reader r) caller
        for_it = by mail
          where
            by : IsMail es (Reader r) l → (caller : List ℕ) × (m.destination ≡ Some caller) × NameIs es (Reader r) caller
            by (inl b) = absurd (false_true (ap (λ p. same_party p Registry) (sym b.from ∙ from)))
            by (inr p) = known answer.called.known
              where
                is_it : m ≡ record p.first.message { sender = Some p.caller }
                is_it = ap (λ (z : Said). z.message) p.alike

                answer : IsAnswer es l.from p.first
                answer = p.speech.answers (ap is_reply (sym is_it) ∙ ap (λ k. k == 2 || k == 3) two)

                goes : m.destination ≡ Some answer.called.caller
                goes = ap (λ (z : Envelope). z.destination) is_it ∙ answer.to

                known : (answer.called.caller ≡ own_name) ⊎ IsCallOf es answer.called.from answer.called.caller answer.call → (caller : List ℕ) × (m.destination ≡ Some caller) × NameIs es (Reader r) caller
                known (inl own) = absurd (false_true (sym p.not_bus ∙ for_bus_true m (goes ∙ ap Some own)))
                known (inr c) = (answer.called.caller, goes, p.routed answer.called.caller goes (unique_told es answer.called.from answer.called.caller c.name))

    pub attends_taken : (x : IsWell g.asked n) → Attends (es ++ ys) r g rest n x
    attends_taken x = record {
      heard = λ back. by (is_reply m && is_reply_to was.one.serial m.reply) refl (ap (λ (a : Asked). a.fate) (sym (well_one m h.asked n x)) ∙ back);
      comes = λ j on reply n_ above below.
          let y = ((old was).comes j (inr on) reply) n_ above (subst (λ k. n_ < k) unread below) in
          (y.0, found_more es ys Registry n_ y.0 y.1, λ u add. later j on reply n_ above u (y.2 u add));
    }
      where
        was : IsWell h.asked n
        was = well_back m h.asked n x

        later : (j : Letter) → On j rest → IsReply j n → (n_ : ℕ) → j.said.message.serial < n_ → (u : List ℕ) → OnLink n_ (l ∷ rest) ⊎ IsIn u [] → OnLink n_ rest ⊎ IsIn u []
        later j on reply n_ above u (inr none) = absurd none
        later j on reply n_ above u (inl (k, inr there, its, number)) = inl (k, there, its, number)
        later j on reply n_ above u (inl (k, inl same, its, number)) =
            let at : m.serial ≡ n_ = ap (λ (z : Letter). z.said.message.serial) same ∙ number in
            let order : m.serial < j.said.message.serial = in_order j on (ap (λ (z : Letter). z.from) same ∙ its) reply.0 in
            absurd (omega (arith, at, order, above))

        fated : (b : Bool) → (if b then returned else failed) ≡ returned → b ≡ true
        fated true q = refl
        fated false q = absurd (false_true (ap is_back q))
          where
            is_back : Fate → Bool
            is_back returned = true
            is_back f = false

        reply_of : (z : Option ℕ) → is_reply_to was.one.serial z ≡ true → z ≡ Some was.one.serial
        reply_of None q = absurd (false_true q)
        reply_of (Some k) q = ap Some (eqb-true k was.one.serial q)

        right : (a b : Bool) → (a && b) ≡ true → b ≡ true
        right true b q = q
        right false b q = absurd (false_true q)

        by : (b : Bool) → (is_reply m && is_reply_to was.one.serial m.reply) ≡ b → (if b then record was.one { fate = fate_of m } else was.one).fate ≡ returned → Heard (es ++ ys) r g rest n
        by true q fate =
            heard_now was (eqb-true m.kind 2 (fated (m.kind == 2) fate)) (reply_of m.reply (right (is_reply m) (is_reply_to was.one.serial m.reply) q) ∙ ap Some was.serial)
        by false q fate = heard_still was ((old was).heard fate)
