-- What a reader took as the reply to its own call, and that it holds the application whose items were returned to it.
use Rattle.std.proofs.Common.{◌≡◌, ◌⊎◌, inl, inr, ℕ, zero, suc, ◌≤◌, Bool, true, false, List, [], ◌∷◌, ◌++◌, Option, None, Some, refl, sym, ap, ap₂, ◌∙◌, subst, arith}
use Rattle.std.specs.Prelude.{◌==◌, ◌||◌, ◌&&◌, filter_map, if◌then◌else◌}
use Rattle.std.specs.List.{AllByRecursion, list_any, cons_option}
use Rattle.std.proofs.lemmas.Bool.{eqb-true, eq-eqb}
use Rattle.atspi_script_lines.specs.declared.line.Party.{Party}
use Rattle.atspi_script_lines.specs.declared.line.Party.TheVariants.{Bus as The_bus, App, Reader}
use Rattle.atspi_message.specs.Envelope.{Envelope}
use Rattle.atspi_names.specs.Owners.{own_name}
use Rattle.atspi_match.specs.routing.Members.{is_text}
use Rattle.atspi_match.specs.routing.Routing.{is_reply, is_for_bus}
use Rattle.atspi_protocol.specs.declared.following.question.Question.{Question}
use Rattle.atspi_protocol.specs.declared.following.question.Question.TheVariants.{Hello, AddMatch, RegisterEvent, GetChildren, GetItems, GetPart}
use Rattle.atspi_protocol.specs.following.Calls.{asking}
use Rattle.atspi_protocol.specs.following.Replied.{is_reply_to}
use Rattle.atspi_trace.specs.Entry.{Entry, got, gone}
use Rattle.atspi_trace.specs.World.{here, away, Standing, Asked, a_reader, Holding, Hearer, End, World}
use Rattle.atspi_trace.specs.Ends.{is_here, same_party, end_at}
use Rattle.atspi_trace.specs.Hearing.{question_in, holding_of}
use Rattle.atspi_trace_laws.specs.laws.Words.{message, taken_as, taken, question_if, own_call, answer_to as answer_of, answers_question, Kept, kept_with, kept_after, held_on, held}
use Rattle.atspi_trace_laws.proofs.OfOrder.Parties.{no_none, same_some, same-party, party-same, false_true, all_back}
use Rattle.atspi_trace_laws.proofs.OfOrder.Shape.{Shape}
use Rattle.atspi_trace_laws.proofs.OfOrder.Each.{Each, each_split, all_map}
use Rattle.atspi_trace_laws.proofs.OfOwn.Writing.{Lives, lived}
use Rattle.atspi_trace_laws.proofs.OfTaken.Found.{found_more}
use Rattle.atspi_trace_laws.proofs.OfHeld.Keeping.{held_append, SameKept}
use Rattle.atspi_trace_laws.proofs.OfReaders.Fates.{FateOf, FateIs, hello_read}
use Rattle.atspi_trace_laws.proofs.OfNames.Places.{name_told}
use Rattle.atspi_trace_laws.proofs.OfSigned.Mail.{NameIs, name_more}
use Rattle.atspi_trace_laws.proofs.OfSigned.Self.{unique_told, one_named}
use Rattle.atspi_trace_laws.proofs.OfSigned.LawMail.{name_of_end}
use Rattle.atspi_trace_laws.proofs.OfEnds.Ordered.{AwayAs, Silent}
use Rattle.atspi_trace_laws.proofs.OfMissed.Ruled.{RulesOf}
use Rattle.atspi_trace_caches.proofs.OfServed.Spelling.{call_of}
use Rattle.atspi_trace_caches.proofs.OfSettled.Facts.{IsHeld, AllHeld}
use Rattle.atspi_trace_caches.proofs.OfSettled.Settling_ground.{Grounds, unique_is}
use Rattle.atspi_trace_caches.proofs.OfSettled.Settling_replies.{AnswersIt, IsTaken, TakesReplies}

-- AMONG WHAT IS TAKEN
pub record Split {X Y : Type 0} (f : X → Option Y) (p : Y → Bool) (xs : List X) : Type 0 where
  pub front : List X
  pub x : X
  pub back : List X
  pub y : Y
  pub is : xs ≡ front ++ x ∷ back
  pub gives : f x ≡ Some y
  pub passes : p y ≡ true

any_split : {X Y : Type 0} (f : X → Option Y) (p : Y → Bool) (xs : List X) → list_any p (filter_map f xs) ≡ true → Split f p xs
any_split f p [] h = absurd (false_true h)
any_split f p (x ∷ xs) h = by (f x) refl h (λ g. any_split f p xs g)
  where
    later : Split f p xs → Split f p (x ∷ xs)
    later s = record { front = x ∷ s.front; x = s.x; back = s.back; y = s.y; is = ap (λ l. x ∷ l) s.is; gives = s.gives; passes = s.passes }

    by : (o : Option _) → f x ≡ o → list_any p (cons_option o (filter_map f xs)) ≡ true → (list_any p (filter_map f xs) ≡ true → Split f p xs) → Split f p (x ∷ xs)
    by None is g ih = later (ih g)
    by (Some y) is g ih = at (p y) refl g
      where
        at : (b : Bool) → p y ≡ b → (b || list_any p (filter_map f xs)) ≡ true → Split f p (x ∷ xs)
        at true passes g = record { front = []; x = x; back = xs; y = y; is = refl; gives = is; passes = passes }
        at false passes g = later (ih g)

-- a return to the call with this serial
abbrev pub returns_to : ℕ → Envelope → Bool
returns_to n m = m.kind == 2 && is_reply_to n m.reply

-- a reader took a message
pub record Took (es : List Entry) (r : ℕ) (p : Envelope → Bool) : Type 0 where
  pub before : List Entry
  pub who : Party
  pub serial : ℕ
  pub behind : List Entry
  pub m : Envelope
  pub is : es ≡ before ++ got (Reader r) who serial ∷ behind
  pub was : message es who serial ≡ Some m
  pub passes : p m ≡ true

pub took : (es : List Entry) (r : ℕ) (p : Envelope → Bool) → list_any p (taken es (Reader r)) ≡ true → Took es r p
took es r p h = let s = any_split (taken_as es (Reader r)) p es h in by s.front s.back s.y s.x s.is s.gives s.passes
  where
    by : (front back : List Entry) (m : Envelope) (x : Entry) → es ≡ front ++ x ∷ back → taken_as es (Reader r) x ≡ Some m → p m ≡ true → Took es r p
    by front back m (got taker from serial) is gives passes = at (same_party taker (Reader r)) refl gives
      where
        at : (b : Bool) → same_party taker (Reader r) ≡ b → (if b then message es from serial else None) ≡ Some m → Took es r p
        at true same g = record {
          before = front;
          who = from;
          serial = serial;
          behind = back;
          m = m;
          is = subst (λ q. es ≡ front ++ got q from serial ∷ back) (same-party taker (Reader r) same) is;
          was = g;
          passes = passes;
        }
        at false same g = absurd (no_none m g)
    by front back m x is gives passes = absurd (no_none m gives)

pub and_left : (a b : Bool) → (a && b) ≡ true → a ≡ true
and_left true b h = refl
and_left false b h = h

pub and_right : (a b : Bool) → (a && b) ≡ true → b ≡ true
and_right true b h = h
and_right false b h = absurd (false_true h)

pub reply_is : (n : ℕ) (o : Option ℕ) → is_reply_to n o ≡ true → o ≡ Some n
reply_is n None h = absurd (false_true h)
reply_is n (Some k) h = ap Some (eqb-true k n h)

-- WHO REPLIED to a call that went to an application's unique name: the application, or the bus with an error
module _ (es : List Entry) (w : World) (sh : Shape w) (g : Grounds es w) (law : Each TakesReplies [] es) (live : Lives es) (r : ℕ) (n : ℕ) (first : Envelope) (was : message es (Reader r) n ≡ Some first) (more : 2 ≤ n) (name : List ℕ)
    (to : first.destination ≡ Some name) (a : ℕ) (told : name_told es (App a) ≡ Some name) where
  not_for_bus : is_for_bus first ≡ true → ⊥
  not_for_bus for = false_true (sym (name_of_end es (App a) name (inr told)) ∙ by first.destination to for)
    where
      by : (o : Option (List ℕ)) → o ≡ Some name → is_for_bus (record first { destination = o }) ≡ true → is_text (Some name) own_name ≡ true
      by o h = subst (λ z. is_for_bus (record first { destination = z }) ≡ true → is_text (Some name) own_name ≡ true) (sym h) (λ g. g)

  module _ (p : Envelope → Bool) (t : Took es r p) (replies : is_reply t.m ≡ true) (reply : t.m.reply ≡ Some n) where
    its : IsTaken t.before r t.who t.serial
    its = each_split TakesReplies [] es law t.before (got (Reader r) t.who t.serial) t.behind t.is (lived t.before (got (Reader r) t.who t.serial ∷ t.behind) (subst Lives t.is live))

    later : (who : Party) (s : ℕ) (m : Envelope) → message t.before who s ≡ Some m → message es who s ≡ Some m
    later who s m h = ap (λ l. message l who s) t.is ∙ found_more t.before (got (Reader r) t.who t.serial ∷ t.behind) who s m h

    same_m : its.m ≡ t.m
    same_m = same_some its.m t.m (sym (later t.who t.serial its.m its.was) ∙ t.was)

    -- of an end
    of_end : (t.who ≡ The_bus → ⊥) → AnswersIt t.before r t.who t.m n
    of_end other = subst (λ m. AnswersIt t.before r t.who m n) same_m (its.others other (ap is_reply same_m ∙ replies) n (ap (λ (m : Envelope). m.reply) same_m ∙ reply))

    pub by_app : (t.who ≡ The_bus → ⊥) → t.who ≡ App a
    by_app other =
        let x = of_end other in
        let firsts : x.first ≡ first = same_some x.first first (sym (later (Reader r) n x.first x.was) ∙ was) in
        let has : NameIs t.before t.who name = x.named name (ap (λ (m : Envelope). m.destination) firsts ∙ to) (unique_told es (App a) name (inr told)) in
        one_named es t.who (App a) name g.few (subst (λ l. NameIs l t.who name) (sym t.is) (name_more t.before (got (Reader r) t.who t.serial ∷ t.behind) t.who name has)) (inr told)

    pub by_bus : t.who ≡ The_bus → t.m.kind ≡ 2 → ⊥
    by_bus bus two =
        let x = its.own bus (ap (λ (m : Envelope). m.kind) same_m ∙ two) n (ap (λ (m : Envelope). m.reply) same_m ∙ reply) more in
        not_for_bus (ap is_for_bus (sym (same_some x.0 first (sym (later (Reader r) n x.0 x.1) ∙ was))) ∙ x.2)

    pub who_replied : (t.who ≡ App a) ⊎ ((t.who ≡ The_bus) × (t.m.kind ≡ 2 → ⊥))
    who_replied = by (same_party t.who The_bus) refl
      where
        by : (b : Bool) → same_party t.who The_bus ≡ b → (t.who ≡ App a) ⊎ ((t.who ≡ The_bus) × (t.m.kind ≡ 2 → ⊥))
        by true h = let bus : t.who ≡ The_bus = same-party t.who The_bus h in inr (bus, by_bus bus)
        by false h = inl (by_app (λ bus. false_true (sym h ∙ ap (λ q. same_party q The_bus) bus)))

    -- of the application: the call was sent before, and what it is read as
    pub of_app : t.who ≡ App a → (x : AnswersIt t.before r (App a) t.m n) × (x.first ≡ first)
    of_app is =
        let x = subst (λ q. AnswersIt t.before r q t.m n) is (of_end (λ bus. false_true (ap (λ q. same_party q (App a)) (sym bus ∙ is) ∙ party-same (App a)))) in
        (x, same_some x.first first (sym (later (Reader r) n x.first x.was) ∙ was))

    pub was_before : t.who ≡ App a → message t.before (App a) t.serial ≡ Some t.m
    was_before is = subst (λ q. message t.before q t.serial ≡ Some t.m) is (its.was ∙ ap Some same_m)

    pub reads_as : t.who ≡ App a → t.m.kind ≡ 2 → (q : Question) → question_in first ≡ Some q → answers_question t.before r (message t.before (App a) t.serial) ≡ Some q
    reads_as is two q read =
        let x = of_app is in
        ap (answers_question t.before r) (was_before is) ∙ ap (answer_of t.before r t.m) reply ∙ ap (λ b. if b then own_call t.before r n else None) (eq-eqb t.m.kind 2 two) ∙ ap question_if x.0.was ∙ ap question_in x.1 ∙ read

-- WHAT IS HELD stays so
abbrev pub NotGone : ℕ → ℕ → Entry → Type 0
NotGone r a (gone q b) = q ≡ r → b ≡ a → ⊥
NotGone r a entry = Unit {0}

with_some : (serial : ℕ) (q : Option Question) (k : Kept) → (j : Kept) × (kept_with serial q (Some k) ≡ Some j)
with_some serial (Some (GetItems name)) k = (record { last = serial; told = [] }, refl)
with_some serial (Some (GetPart name path part)) k = (record { last = serial; told = k.told ++ (path, part) ∷ [] }, refl)
with_some serial (Some Hello) k = (record k { last = serial }, refl)
with_some serial (Some (AddMatch rule)) k = (record k { last = serial }, refl)
with_some serial (Some (RegisterEvent pattern)) k = (record k { last = serial }, refl)
with_some serial (Some GetChildren) k = (record k { last = serial }, refl)
with_some serial None k = (record k { last = serial }, refl)

after_some : (early : List Entry) (r a : ℕ) (k : Kept) (entry : Entry) → NotGone r a entry → (j : Kept) × (kept_after early r a (Some k) entry ≡ Some j)
after_some early r a k (got (Reader q) (App b) serial) n = by (q == r && b == a)
  where
    by : (c : Bool) → (j : Kept) × ((if c then kept_with serial (answers_question early r (message early (App a) serial)) (Some k) else Some k) ≡ Some j)
    by true = with_some serial (answers_question early r (message early (App a) serial)) k
    by false = (k, refl)
after_some early r a k (gone q b) n = by (q == r) refl (b == a) refl
  where
    by : (c : Bool) → (q == r) ≡ c → (d : Bool) → (b == a) ≡ d → (j : Kept) × ((if c && d then None else Some k) ≡ Some j)
    by true h true i = absurd (n (eqb-true q r h) (eqb-true b a i))
    by true h false i = (k, refl)
    by false h d i = (k, refl)
after_some early r a k entry n = (k, refl)

pub stays_held : (early xs : List Entry) (r a : ℕ) (k : Kept) → AllByRecursion (NotGone r a) xs → (j : Kept) × (held_on early r a (Some k) xs ≡ Some j)
stays_held early [] r a k n = (k, refl)
stays_held early (x ∷ xs) r a k n =
    let y = after_some early r a k x n.0 in
    let z = stays_held (early ++ x ∷ []) xs r a y.0 n.1 in
    (z.0, ap (λ o. held_on (early ++ x ∷ []) r a o xs) y.1 ∙ z.1)

-- the reader's serials, but for Hello's, are no 1
abbrev is_hello : Option Question → Bool
is_hello (Some Hello) = true
is_hello o = false

module _ (es : List Entry) (w : World) (sh : Shape w) (g : Grounds es w) (law : Each TakesReplies [] es) (live : Lives es) (k r : ℕ) (e : End) (h : Hearer) (there : end_at w.ends k ≡ Some e) (whose : e.who ≡ Reader r) (role : e.role ≡ a_reader h)
    (on : e.standing ≡ here) where
  abbrev pub Sure : Asked → Type 0
  Sure x = FateIs es r x × (1 ≤ x.serial)

  pub all_sure : AllByRecursion Sure h.asked
  all_sure = both h.asked (g.fated live k r e h there whose role) rules.serials
    where
      rules : RulesOf es w.bus.state.rules k r e h
      rules = g.ruled live k r e h there whose role on

      both : (xs : List Asked) → AllByRecursion (FateIs es r) xs → AllByRecursion (λ (x : Asked). 1 ≤ x.serial) xs → AllByRecursion Sure xs
      both [] a b = tt
      both (x ∷ xs) a b = ((a.0, b.0), both xs a.1 b.1)

  pub above_one : (n : ℕ) (first : Envelope) (q : Question) → 1 ≤ n → message es (Reader r) n ≡ Some first → question_in first ≡ Some q → is_hello (Some q) ≡ false → 2 ≤ n
  above_one n first q one was read other = above n one no_one
    where
      no_one : n ≡ 1 → ⊥
      no_one is =
          let same : first ≡ asking 1 Hello = same_some first (asking 1 Hello) (sym was ∙ ap (message es (Reader r)) is ∙ (g.ruled live k r e h there whose role on).hello) in
          false_true (sym other ∙ ap is_hello (sym read ∙ ap question_in same ∙ hello_read))

      above : (n : ℕ) → 1 ≤ n → (n ≡ 1 → ⊥) → 2 ≤ n
      above zero h f = absurd (omega (arith, h))
      above (suc zero) h f = absurd (f refl)
      above (suc (suc n)) h f = omega arith

  -- an application that is here was not told to have ended
  pub not_gone : (j a : ℕ) (d : End) → end_at w.ends j ≡ Some d → d.who ≡ App a → d.standing ≡ here → AllByRecursion (NotGone r a) es
  not_gone j a d its_there its_whose its_on = all_map (Silent w.ends) (NotGone r a) es one g.ends.told.ended
    where
      no_away : (st : Standing) → st ≡ away → st ≡ here → ⊥
      no_away st out on = false_true (ap is_here (sym out ∙ on))

      one : (entry : Entry) → Silent w.ends entry → NotGone r a entry
      one (gone q b) s = λ reader app.
          let x : AwayAs w.ends (App b) s.0.0 = s.0.1 in
          let at : x.conn ≡ j = sh.one x.conn j x.e d x.there its_there (x.whose ∙ ap App app ∙ sym its_whose) in
          let same : x.e ≡ d = same_some x.e d (sym x.there ∙ ap (end_at w.ends) at ∙ its_there) in
          no_away d.standing (ap (λ (y : End). y.standing) (sym same) ∙ x.out) its_on
      one entry s = tt

  -- WHERE ITEMS WERE RETURNED THE APPLICATION IS HELD
  is_held : (x : Asked) → Sure x → IsHeld w.ends h x
  is_held x s name question fate j a d its_there its_whose its_on its_unique = by (held es r a) holds.1 ((g.readers k r e h there whose role).holds a)
    where
      told : name_told es (App a) ≡ Some name
      told = unique_is es w sh g j a d name its_there its_whose its_unique

      read : question_in s.0.first ≡ Some (GetItems name)
      read = s.0.read ∙ ap Some question

      to : s.0.first.destination ≡ Some name
      to = ap (λ (m : Envelope). m.destination) ((call_of es w r x.serial s.0.first g.spelled s.0.was).spelled (GetItems name) read)

      more : 2 ≤ x.serial
      more = above_one x.serial s.0.first (GetItems name) s.1 s.0.was read refl

      t : Took es r (returns_to x.serial)
      t = took es r (returns_to x.serial) (subst (FateOf es r x.serial) fate s.0.fate)

      two : t.m.kind ≡ 2
      two = eqb-true t.m.kind 2 (and_left (t.m.kind == 2) (is_reply_to x.serial t.m.reply) t.passes)

      reply : t.m.reply ≡ Some x.serial
      reply = reply_is x.serial t.m.reply (and_right (t.m.kind == 2) (is_reply_to x.serial t.m.reply) t.passes)

      replies : is_reply t.m ≡ true
      replies = ap (λ n. n == 2 || n == 3) two

      from : t.who ≡ App a
      from = at (who_replied es w sh g law live r x.serial s.0.first s.0.was more name to a told (returns_to x.serial) t replies reply)
        where
          at : (t.who ≡ App a) ⊎ ((t.who ≡ The_bus) × (t.m.kind ≡ 2 → ⊥)) → t.who ≡ App a
          at (inl is) = is
          at (inr bus) = absurd (bus.1 two)

      loads : answers_question t.before r (message t.before (App a) t.serial) ≡ Some (GetItems name)
      loads = reads_as es w sh g law live r x.serial s.0.first s.0.was more name to a told (returns_to x.serial) t replies reply from two (GetItems name) read

      is : es ≡ t.before ++ got (Reader r) (App a) t.serial ∷ t.behind
      is = subst (λ q. es ≡ t.before ++ got (Reader r) q t.serial ∷ t.behind) from t.is

      now : kept_after t.before r a (held t.before r a) (got (Reader r) (App a) t.serial) ≡ Some (record { last = t.serial; told = [] })
      now =
          ap₂ (λ b c. if b && c then kept_with t.serial (answers_question t.before r (message t.before (App a) t.serial)) (held t.before r a) else held t.before r a) (eq-eqb r r refl) (eq-eqb a a refl)
          ∙ ap (λ o. kept_with t.serial o (held t.before r a)) loads

      holds : (kept : Kept) × (held es r a ≡ Some kept)
      holds =
          let left : AllByRecursion (NotGone r a) t.behind = (all_back (NotGone r a) t.before (got (Reader r) (App a) t.serial ∷ t.behind) (subst (AllByRecursion (NotGone r a)) is (not_gone j a d its_there its_whose its_on))).1 in
          let y = stays_held (t.before ++ got (Reader r) (App a) t.serial ∷ []) t.behind r a (record { last = t.serial; told = [] }) left in (
            y.0,
            ap (λ l. held l r a) is ∙ held_append [] t.before (got (Reader r) (App a) t.serial ∷ t.behind) r a None
                ∙ ap (λ o. held_on (t.before ++ got (Reader r) (App a) t.serial ∷ []) r a o t.behind) now ∙ y.1,
          )

      by : (o : Option Kept) → o ≡ Some holds.0 → SameKept es a o (holding_of a h.holds) → (hold : Holding) × (holding_of a h.holds ≡ Some hold)
      by None is same = absurd (no_none holds.0 is)
      by (Some kept) is same = at (holding_of a h.holds) same
        where
          at : (o : Option Holding) → SameKept es a (Some kept) o → (hold : Holding) × (o ≡ Some hold)
          at None same = absurd same
          at (Some hold) same = (hold, refl)

  pub are_held : AllByRecursion (IsHeld w.ends h) h.asked
  are_held = all_map Sure (IsHeld w.ends h) h.asked is_held all_sure

pub all_held : (es : List Entry) (w : World) → Shape w → Grounds es w → Each TakesReplies [] es → AllHeld es w
all_held es w sh g law live k r e h there whose role on = are_held es w sh g law live k r e h there whose role on
