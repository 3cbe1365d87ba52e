-- What is not refused: a reader's calls of the registry, as long as that is here, and its calls for the items of an application that is here.
use Rattle.std.proofs.Common.{◌≡◌, ◌⊎◌, inl, inr, ℕ, ◌≤◌, Bool, true, false, List, [], ◌∷◌, ◌++◌, Some, refl, sym, ap, ◌∙◌, subst, arith}
use Rattle.std.specs.Prelude.{◌==◌, ◌||◌, ◌&&◌, not, encode_utf8_all, if◌then◌else◌, Ok}
use Rattle.std.specs.List.{list_any}
use Rattle.std.proofs.lemmas.Bool.{eqb-true, eq-eqb}
use lib.Utf8.{encode}
use Rattle.atspi_script_lines.specs.declared.line.Party.{Party}
use Rattle.atspi_script_lines.specs.declared.line.Party.TheVariants.{Bus as The_bus, Registry, App, Reader}
use Rattle.atspi_message.specs.Envelope.{Envelope}
use Rattle.atspi_match.specs.declared.condition.Condition.{Condition}
use Rattle.atspi_match.specs.declared.routing.member.BusMember.TheVariants.{AddMatch as AddMatch_member}
use Rattle.atspi_match.specs.routing.Members.{member_of}
use Rattle.atspi_match.specs.routing.Routing.{is_reply, is_for_bus}
use Rattle.atspi_trace.specs.Rules.{rules_asked, rule_written, rule_in}
use Rattle.atspi_trace_caches.proofs.OfSettled.RefusingRules.{adds_below, adds_grow}
use Rattle.atspi_protocol.specs.ends.Messages.{Reply, returns, reply_to}
use Rattle.atspi_protocol.specs.ends.Places.{registry}
use Rattle.atspi_protocol.specs.members.Asked.{asked}
use Rattle.atspi_protocol.specs.registering.RegistryState.{RegistryState, has_pair}
use Rattle.atspi_protocol.specs.registering.Answers.{only, registers, object_at}
use Rattle.atspi_protocol.specs.registering.Told.{registered}
use Rattle.atspi_protocol.specs.registering.Steps as registering
use Rattle.atspi_protocol.specs.declared.following.question.Question.{Question}
use Rattle.atspi_protocol.specs.declared.following.question.Question.TheVariants.{Hello, AddMatch, RegisterEvent, GetChildren, GetItems, GetPart}
use Rattle.atspi_protocol.specs.exporting.Exporter.{Exporter, named}
use Rattle.atspi_protocol.specs.exporting.Taking.{answer_to}
use Rattle.atspi_protocol.specs.following.Calls.{asking}
use Rattle.atspi_protocol.specs.following.Replied.{is_reply_to}
use Rattle.atspi_protocol.specs.objects.Answers.{Answer}
use Rattle.atspi_trace.specs.Entry.{Entry, sent, got}
use Rattle.atspi_trace.specs.World.{here, failed, Asked, a_reader, Hearer, End, World}
use Rattle.atspi_trace.specs.Ends.{same_party, number_of, end_at}
use Rattle.atspi_trace_laws.specs.laws.Words.{message, before_sent, starts_it, stops_it}
use Rattle.atspi_trace_laws.proofs.OfOrder.Parties.{same_some, same-party, false_true}
use Rattle.atspi_trace_laws.proofs.OfOrder.Shape.{Shape}
use Rattle.atspi_trace_laws.proofs.OfOrder.Each.{Each, each_split, all_map}
use Rattle.atspi_trace_laws.proofs.OfOrder.Lives.{any_more, here_lives}
use Rattle.atspi_trace_laws.proofs.OfOwn.Writing.{Lives, lived}
use Rattle.atspi_trace_laws.proofs.OfTaken.Found.{found_more, front_more, sent_split}
use Rattle.atspi_trace_laws.proofs.OfReaders.Fates.{fails_to, FateOf}
use Rattle.atspi_trace_laws.proofs.OfNames.Places.{name_told}
use Rattle.atspi_trace_laws.proofs.OfSigned.Mail.{IsAnswerOf}
use Rattle.atspi_trace_laws.proofs.OfSigned.Self.{unique_told, one_named}
use Rattle.atspi_trace_laws.proofs.OfAnswered.Items.{answers_items}
use Rattle.atspi_trace_caches.proofs.OfServed.Spelling.{call_of}
use Rattle.atspi_trace_caches.proofs.OfSettled.Facts.{IsAppName, NeverFails, IsNotRefused, NoneRefused}
use Rattle.atspi_trace_caches.proofs.OfSettled.Barring.{given_still}
use Rattle.atspi_trace_caches.proofs.OfSettled.Settling_ground.{Grounds, unique_is}
use Rattle.atspi_trace_caches.proofs.OfSettled.Settling_replies.{AppAnswers, BusFails, AnswersIt, IsTaken, TakesReplies}
use Rattle.atspi_trace_caches.proofs.OfSettled.Settling_held.{Took, took, and_left, and_right, reply_is, who_replied, of_app, Sure, all_sure, above_one}
use Rattle.atspi_trace_caches.proofs.OfSettled.Settling_parts.{BusKnows}
use Rattle.atspi_trace_caches.proofs.OfSettled.Settling_asked.{AsksApps}

-- THE BUS'S ERRORS are for who is gone
kind_three : (k : ℕ) → (k == 2 || k == 3) ≡ true → (k ≡ 2 → ⊥) → k ≡ 3
kind_three k is other = by (k == 2) refl (k == 3) refl is
  where
    by : (a : Bool) → (k == 2) ≡ a → (b : Bool) → (k == 3) ≡ b → (a || b) ≡ true → k ≡ 3
    by true h b g f = absurd (other (eqb-true k 2 h))
    by false h true g f = eqb-true k 3 g
    by false h false g f = absurd (false_true f)

module _ (es : List Entry) (w : World) (sh : Shape w) (g : Grounds es w) (law : Each TakesReplies [] es) (live : Lives es) where
  -- an error of the bus's that a reader took
  module _ (before behind : List Entry) (r n serial : ℕ) (m : Envelope) (is : es ≡ before ++ got (Reader r) The_bus serial ∷ behind) (was : message es The_bus serial ≡ Some m) (replies : is_reply m ≡ true) (other : m.kind ≡ 2 → ⊥)
      (reply : m.reply ≡ Some n) where
    its : IsTaken before r The_bus serial
    its = each_split TakesReplies [] es law before (got (Reader r) The_bus serial) behind is (lived before (got (Reader r) The_bus serial ∷ behind) (subst Lives is live))

    pub in_front : (who : Party) (s : ℕ) (x : Envelope) → message before who s ≡ Some x → message es who s ≡ Some x
    in_front who s x h = ap (λ l. message l who s) is ∙ found_more before (got (Reader r) The_bus serial ∷ behind) who s x h

    same_m : its.m ≡ m
    same_m = same_some its.m m (sym (in_front The_bus serial its.m its.was) ∙ was)

    pub fails_it : BusFails before r n
    fails_it = its.fails refl (ap (λ (x : Envelope). x.kind) same_m ∙ kind_three m.kind replies other) n (ap (λ (x : Envelope). x.reply) same_m ∙ reply)

pub bus_knows : (es : List Entry) (w : World) → Shape w → Grounds es w → Each TakesReplies [] es → BusKnows es w
bus_knows es w sh g law live before behind r n serial m first name a is was replies other reply first_was to given j d there whose on = absurd (false_true (sym (ap not stops) ∙ going))
  where
    f : BusFails before r n
    f = fails_it es w sh g law live before behind r n serial m is was replies other reply

    same : f.first ≡ first
    same = same_some f.first first (sym (in_front es w sh g law live before behind r n serial m is was replies other reply (Reader r) n f.first f.was) ∙ first_was)

    given_before : name_told (before_sent (Reader r) n before) (App a) ≡ Some name
    given_before = subst (λ l. name_told l (App a) ≡ Some name) (ap (before_sent (Reader r) n) is ∙ front_more before (got (Reader r) The_bus serial ∷ behind) (Reader r) n f.first f.was) given

    told : name_told es (App a) ≡ Some name
    told = given_still es (Reader r) (App a) n first name first_was given

    stops : list_any (stops_it (App a)) es ≡ true
    stops =
        ap (list_any (stops_it (App a))) is
        ∙ any_more (stops_it (App a)) before (got (Reader r) The_bus serial ∷ behind) (f.gone name a (ap (λ (x : Envelope). x.destination) same ∙ to) (unique_told es (App a) name (inr told)) given_before)

    going : not (list_any (stops_it (App a)) es) ≡ true
    going = and_right (same_party (App a) Registry || list_any (starts_it (App a)) es) (not (list_any (stops_it (App a)) es)) (here_lives es w (App a) sh g.out g.started (record { conn = j; e = d; there = there; whose = whose; standing = on }))

-- WHAT THE REGISTRY RETURNS
abbrev registry_answer : RegistryState → List ℕ → List ℕ → Envelope → Reply
registry_answer state own caller m = (registering.answer_to state own caller (asked (object_at m.path) m.interface m.member m.body)).reply

registers_reply : (s : RegistryState) (caller pattern : List ℕ) → (registers s caller pattern).reply ≡ returns []
registers_reply s caller pattern = by (has_pair s.pairs caller pattern)
  where
    by : (b : Bool) → (if b then only s (returns []) else record (only s (returns [])) { pairs = s.pairs ++ (caller, pattern) ∷ []; before = registered (caller, pattern) ∷ [] }).reply ≡ returns []
    by true = refl
    by false = refl

register_answer : (caller own : List ℕ) (state : RegistryState) (n : ℕ) (pattern : List ℕ) → registry_answer state own caller (asking n (RegisterEvent pattern)) ≡ (registers state caller pattern).reply
unfolding encode
register_answer caller own state n pattern = refl

register_kind : (caller own : List ℕ) (state : RegistryState) (n : ℕ) (pattern : List ℕ) → (reply_to caller n (registry_answer state own caller (asking n (RegisterEvent pattern)))).kind ≡ 2
register_kind caller own state n pattern = ap (λ y. (reply_to caller n y).kind) (register_answer caller own state n pattern ∙ registers_reply state caller pattern)

children_kind : (caller own : List ℕ) (state : RegistryState) (n : ℕ) → (reply_to caller n (registry_answer state own caller (asking n GetChildren))).kind ≡ 2
unfolding encode
children_kind caller own state n = refl

match_member : (n : ℕ) (text : List ℕ) → member_of (asking n (AddMatch text)) ≡ Ok AddMatch_member
unfolding encode
match_member n text = refl

items_kind : (app : Exporter) (name caller : List ℕ) (serial : ℕ) (asked_ : List ℕ) → (reply_to caller serial (answer_to app name (record (asking serial (GetItems asked_)) { sender = Some caller })).reply).kind ≡ 2
items_kind app name caller serial asked_ = ap (λ (y : Answer). (reply_to caller serial y.reply).kind) (answers_items (named app name))

module _ (es : List Entry) (w : World) (sh : Shape w) (g : Grounds es w) (law : Each TakesReplies [] es) (apps : Each AsksApps [] es) (live : Lives es) (k r : ℕ) (e : End) (h : Hearer) (there : end_at w.ends k ≡ Some e) (whose : e.who ≡ Reader r)
    (role : e.role ≡ a_reader h) (on : e.standing ≡ here) (x : Asked) (s : Sure es w sh g law live k r e h there whose role on x) (fate : x.fate ≡ failed) where
  t : Took es r (fails_to x.serial)
  t = took es r (fails_to x.serial) (subst (FateOf es r x.serial) fate s.0.fate)

  both : (is_reply t.m && is_reply_to x.serial t.m.reply) ≡ true
  both = and_left (is_reply t.m && is_reply_to x.serial t.m.reply) (not (t.m.kind == 2)) t.passes

  replies : is_reply t.m ≡ true
  replies = and_left (is_reply t.m) (is_reply_to x.serial t.m.reply) both

  reply : t.m.reply ≡ Some x.serial
  reply = reply_is x.serial t.m.reply (and_right (is_reply t.m) (is_reply_to x.serial t.m.reply) both)

  other : t.m.kind ≡ 2 → ⊥
  other two = false_true (sym (ap not (eq-eqb t.m.kind 2 two)) ∙ and_right (is_reply t.m && is_reply_to x.serial t.m.reply) (not (t.m.kind == 2)) t.passes)

  took_it : IsTaken t.before r t.who t.serial
  took_it = each_split TakesReplies [] es law t.before (got (Reader r) t.who t.serial) t.behind t.is (lived t.before (got (Reader r) t.who t.serial ∷ t.behind) (subst Lives t.is live))

  later : (who : Party) (n : ℕ) (m : Envelope) → message t.before who n ≡ Some m → message es who n ≡ Some m
  later who n m was = ap (λ l. message l who n) t.is ∙ found_more t.before (got (Reader r) t.who t.serial ∷ t.behind) who n m was

  same_message : took_it.m ≡ t.m
  same_message = same_some took_it.m t.m (sym (later t.who t.serial took_it.m took_it.was) ∙ t.was)

  first_is : (f : Envelope) → message t.before (Reader r) x.serial ≡ Some f → f ≡ s.0.first
  first_is f was = same_some f s.0.first (sym (later (Reader r) x.serial f was) ∙ s.0.was)

  -- a call of the registry's
  of_registry : s.0.first.destination ≡ Some registry → ((caller own : List ℕ) (state : RegistryState) → (reply_to caller s.0.first.serial (registry_answer state own caller s.0.first)).kind ≡ 2) → ⊥
  of_registry to kind = by (same_party t.who The_bus) refl
    where
      by : (b : Bool) → same_party t.who The_bus ≡ b → ⊥
      by true is =
          let bus : t.who ≡ The_bus = same-party t.who The_bus is in
          let f = took_it.fails bus (ap (λ (m : Envelope). m.kind) same_message ∙ kind_three t.m.kind replies other) x.serial (ap (λ (m : Envelope). m.reply) same_message ∙ reply) in
          f.no_registry (ap (λ (m : Envelope). m.destination) (first_is f.first f.was) ∙ to)
      by false is =
          let a = took_it.others (λ bus. false_true (sym is ∙ ap (λ p. same_party p The_bus) bus)) (ap is_reply same_message ∙ replies) x.serial (ap (λ (m : Envelope). m.reply) same_message ∙ reply) in
          let who : t.who ≡ Registry = a.its (ap (λ (m : Envelope). m.destination) (first_is a.first a.was) ∙ to) in
          let y = took_it.by_registry who (ap is_reply same_message ∙ replies) x.serial (ap (λ (m : Envelope). m.reply) same_message ∙ reply) a.first a.was in
          other (ap (λ (m : Envelope). m.kind) (sym same_message) ∙ y.kind ∙ ap (λ (m : Envelope). (reply_to y.caller m.serial (registry_answer y.state y.own y.caller m)).kind) (first_is a.first a.was) ∙ kind y.caller y.own y.state)

  spelled : (q : Question) → x.question ≡ q → s.0.first ≡ asking s.0.first.serial q
  spelled q is = (call_of es w r x.serial s.0.first g.spelled s.0.was).spelled q (s.0.read ∙ ap Some is)

  pub no_registering : (pattern : List ℕ) → x.question ≡ RegisterEvent pattern → ⊥
  no_registering pattern is =
      of_registry (ap (λ (m : Envelope). m.destination) (spelled (RegisterEvent pattern) is))
      (λ caller own state. ap (λ (m : Envelope). (reply_to caller m.serial (registry_answer state own caller m)).kind) (spelled (RegisterEvent pattern) is) ∙ register_kind caller own state s.0.first.serial pattern)

  pub no_children : x.question ≡ GetChildren → ⊥
  no_children is =
      of_registry (ap (λ (m : Envelope). m.destination) (spelled GetChildren is))
      (λ caller own state. ap (λ (m : Envelope). (reply_to caller m.serial (registry_answer state own caller m)).kind) (spelled GetChildren is) ∙ children_kind caller own state s.0.first.serial)

  -- a call of the bus's
  to_bus : is_for_bus s.0.first ≡ true → (f : BusFails t.before r x.serial) × (f.first ≡ s.0.first)
  to_bus for = by (same_party t.who The_bus) refl
    where
      by : (b : Bool) → same_party t.who The_bus ≡ b → (f : BusFails t.before r x.serial) × (f.first ≡ s.0.first)
      by true is =
          let bus : t.who ≡ The_bus = same-party t.who The_bus is in
          let f = took_it.fails bus (ap (λ (m : Envelope). m.kind) same_message ∙ kind_three t.m.kind replies other) x.serial (ap (λ (m : Envelope). m.reply) same_message ∙ reply) in
          (f, first_is f.first f.was)
      by false is =
          let a = took_it.others (λ bus. false_true (sym is ∙ ap (λ p. same_party p The_bus) bus)) (ap is_reply same_message ∙ replies) x.serial (ap (λ (m : Envelope). m.reply) same_message ∙ reply) in
          absurd (false_true (sym a.not_bus ∙ ap is_for_bus (first_is a.first a.was) ∙ for))

  in_all : adds_below t.before (Reader r) x.serial ≤ adds_below es (Reader r) x.serial
  in_all = subst (λ l. adds_below t.before (Reader r) x.serial ≤ adds_below l (Reader r) x.serial) (sym t.is) (adds_grow t.before (got (Reader r) t.who t.serial ∷ t.behind) (Reader r) x.serial x.serial (same_le x.serial))
    where
      same_le : (n : ℕ) → n ≤ n
      same_le n = omega arith

  pub hello_late : x.question ≡ Hello → 2 ≤ x.serial
  hello_late is =
      let for : is_for_bus s.0.first ≡ true = ap is_for_bus (spelled Hello is) in
      let f = to_bus for in
      f.0.later (ap is_for_bus f.1 ∙ for)

  pub match_full : (text : List ℕ) (rule : List Condition) → x.question ≡ AddMatch text → rule_written (encode_utf8_all text) rules_asked ≡ Some rule → 512 ≤ adds_below es (Reader r) x.serial
  match_full text rule is written =
      let for : is_for_bus s.0.first ≡ true = ap is_for_bus (spelled (AddMatch text) is) in
      let f = to_bus for in
      let full = f.0.full (ap is_for_bus f.1 ∙ for) rule (ap member_of (f.1 ∙ spelled (AddMatch text) is) ∙ match_member s.0.first.serial text) (ap rule_in (f.1 ∙ spelled (AddMatch text) is) ∙ written) in
      let more = in_all in
      omega (arith, full, more)

  -- a call for items
  pub no_items : (name : List ℕ) → x.question ≡ GetItems name → IsAppName w.ends name → ⊥
  no_items name is (j, a, d, its_there, its_whose, its_on, its_unique) = by (who_replied es w sh g law live r x.serial s.0.first s.0.was more name to a told (fails_to x.serial) t replies reply)
    where
      told : name_told es (App a) ≡ Some name
      told = unique_is es w sh g j a d name its_there its_whose its_unique

      to : s.0.first.destination ≡ Some name
      to = ap (λ (m : Envelope). m.destination) (spelled (GetItems name) is)

      more : 2 ≤ x.serial
      more = above_one es w sh g law live k r e h there whose role on x.serial s.0.first (GetItems name) s.1 s.0.was (s.0.read ∙ ap Some is) refl

      by : (t.who ≡ App a) ⊎ ((t.who ≡ The_bus) × (t.m.kind ≡ 2 → ⊥)) → ⊥
      by (inl from) = other kind
        where
          y : (y : AnswersIt t.before r (App a) t.m x.serial) × (y.first ≡ s.0.first)
          y = of_app es w sh g law live r x.serial s.0.first s.0.was more name to a told (fails_to x.serial) t replies reply from

          ans : AppAnswers t.before r a t.m y.0.first
          ans = y.0.answers a refl

          i : IsAnswerOf t.before a ans.said ans.call ans.caller
          i = ans.answer

          call : ans.call ≡ record (asking s.0.first.serial (GetItems name)) { sender = Some ans.caller }
          call = ans.alike ∙ ap (λ (m : Envelope). record m { sender = Some ans.caller }) (y.1 ∙ spelled (GetItems name) is)

          kind : t.m.kind ≡ 2
          kind =
              ap (λ (m : Envelope). m.kind) (sym ans.is ∙ i.message) ∙ ap (λ (m : Envelope). (reply_to ans.caller m.serial (answer_to i.app i.name m).reply).kind) call
              ∙ items_kind i.app i.name ans.caller s.0.first.serial name
      by (inr bus) =
          bus_knows es w sh g law live t.before t.behind r x.serial t.serial t.m s.0.first name a (subst (λ p. es ≡ t.before ++ got (Reader r) p t.serial ∷ t.behind) bus.0 t.is) (subst (λ p. message es p t.serial ≡ Some t.m) bus.0 t.was) replies other reply
          s.0.was to given j d its_there its_whose its_on
        where
          split : (rest : List Entry) × (es ≡ before_sent (Reader r) x.serial es ++ sent (Reader r) s.0.first ∷ rest)
          split = sent_split es (Reader r) x.serial s.0.first s.0.was

          asks : (b : ℕ) × (name_told (before_sent (Reader r) x.serial es) (App b) ≡ Some name)
          asks =
              each_split AsksApps [] es apps (before_sent (Reader r) x.serial es) (sent (Reader r) s.0.first) split.0 split.1 (lived (before_sent (Reader r) x.serial es) (sent (Reader r) s.0.first ∷ split.0) (subst Lives split.1 live)) name
              (s.0.read ∙ ap Some is)

          same : asks.0 ≡ a
          same = ap number_of (one_named es (App asks.0) (App a) name g.few (inr (given_still es (Reader r) (App asks.0) x.serial s.0.first name s.0.was asks.1)) (inr told))

          given : name_told (before_sent (Reader r) x.serial es) (App a) ≡ Some name
          given = subst (λ b. name_told (before_sent (Reader r) x.serial es) (App b) ≡ Some name) same asks.1

pub none_refused : (es : List Entry) (w : World) → Shape w → Grounds es w → Each TakesReplies [] es → Each AsksApps [] es → NoneRefused es w
none_refused es w sh g law apps live k r e h there whose role on = all_map (Sure es w sh g law live k r e h there whose role on) (IsNotRefused w.ends) h.asked one (all_sure es w sh g law live k r e h there whose role on)
  where
    one : (x : Asked) → Sure es w sh g law live k r e h there whose role on x → IsNotRefused w.ends x
    one x s = by x.question refl
      where
        by : (q : Question) → x.question ≡ q → NeverFails w.ends x.fate q
        by (RegisterEvent pattern) is = λ fate. no_registering es w sh g law apps live k r e h there whose role on x s fate pattern is
        by GetChildren is = λ fate. no_children es w sh g law apps live k r e h there whose role on x s fate is
        by (GetItems name) is = λ its fate. no_items es w sh g law apps live k r e h there whose role on x s fate name is its
        by Hello is = tt
        by (AddMatch rule) is = tt
        by (GetPart name path part) is = tt
