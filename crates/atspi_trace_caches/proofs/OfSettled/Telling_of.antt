-- OF EACH CHILD OF THE REGISTRY a reader is told that called for its children, behind the rest of its start: the return names it, or news of it were sent behind the return.
use Rattle.std.proofs.Common.{◌≡◌, ◌⊎◌, inl, inr, ℕ, ◌+◌, ◌≤◌, Bool, true, false, List, [], ◌∷◌, ◌++◌, length, map, Some, refl, sym, ap, ◌∙◌, subst, arith}
use Rattle.std.specs.Prelude.{nat_le, codes, if◌then◌else◌}
use Rattle.std.specs.List.{AllByRecursion}
use Rattle.std.proofs.lemmas.Bool.{le-leb}
use Rattle.std.proofs.lemmas.Slice.Eq.{bytes_eq-Decides}
use Rattle.std.proofs.lemmas.List.{append_assoc}
use Rattle.atspi_script_lines.specs.declared.line.Party.{Party}
use Rattle.atspi_script_lines.specs.declared.line.Party.TheVariants.{Registry, Reader}
use Rattle.atspi_message.specs.Envelope.{Envelope}
use Rattle.atspi_names.specs.Owners.{own_name}
use Rattle.atspi_match.specs.routing.Members.{is_text}
use Rattle.atspi_protocol.specs.ends.Messages.{Reply, returns, fails, reply_to}
use Rattle.atspi_protocol.specs.members.Asked.{asked}
use Rattle.atspi_protocol.specs.registering.RegistryState.{RegistryState}
use Rattle.atspi_protocol.specs.registering.Told.{is_asked_for}
use Rattle.atspi_protocol.specs.registering.Answers.{object_at}
use Rattle.atspi_protocol.specs.registering.Steps.{answer_to}
use Rattle.atspi_protocol.specs.exporting.Hearing.{is_heard}
use Rattle.atspi_protocol.specs.declared.following.question.Question.{Question}
use Rattle.atspi_protocol.specs.declared.following.question.Question.TheVariants.{Hello, AddMatch, RegisterEvent, GetChildren}
use Rattle.atspi_protocol.specs.following.ReaderState.{start_calls}
use Rattle.atspi_trace.specs.Entry.{Entry}
use Rattle.atspi_trace.specs.World.{Fate, waits, returned, failed, Asked}
use Rattle.atspi_trace.specs.Hearing.{is_answered}
use Rattle.atspi_trace_laws.specs.laws.Words.{messages, message}
use Rattle.atspi_trace_laws.specs.missed.Laws.{hearing}
use Rattle.atspi_trace_caches.specs.settled.Laws.{question_of, BeginsWell}
use Rattle.atspi_trace_laws.proofs.OfOrder.Parties.{same_some, false_true}
use Rattle.atspi_trace_laws.proofs.OfOrder.Each.{all_map}
use Rattle.atspi_trace_laws.proofs.OfNames.Places.{greeted}
use Rattle.atspi_trace_laws.proofs.OfSigned.Mail.{NameIs, name_more, IsCallOf}
use Rattle.atspi_trace_laws.proofs.OfSigned.Self.{unique_told, one_named}
use Rattle.atspi_trace_laws.proofs.OfMissed.Returning.{not_the_bus}
use Rattle.atspi_trace_caches.proofs.OfServed.Facts.{up_to, Entered, IsEntered}
use Rattle.atspi_trace_caches.proofs.OfSettled.Facts.{AreReturned}
use Rattle.atspi_trace_caches.proofs.OfSettled.Answering.{IsAnswered}
use Rattle.atspi_trace_caches.proofs.OfSettled.TellingWords.{HasOne, one_front, one_back, IsAdd, Names, children_pattern, listener_asks}
use Rattle.atspi_trace_caches.proofs.OfSettled.TellingAsked.{Ordered, ordered_split, IsWell, questions_append}

-- TOLD SINCE: behind each such message that does not name it stand news of it
abbrev pub ToldSince : List ℕ → (Envelope → Type 0) → List Envelope → Type 0
ToldSince u R [] = Unit {0}
ToldSince u R (m ∷ ms) = (R m → Names u m ⊎ HasOne (IsAdd u) ms) × ToldSince u R ms

pub told_append : (u : List ℕ) (R : Envelope → Type 0) (xs ys : List Envelope) → ToldSince u R xs → ToldSince u R ys → ToldSince u R (xs ++ ys)
told_append u R [] ys a b = b
told_append u R (x ∷ xs) ys a b = ((λ r. by (a.0 r)), told_append u R xs ys a.1 b)
  where
    by : Names u x ⊎ HasOne (IsAdd u) xs → Names u x ⊎ HasOne (IsAdd u) (xs ++ ys)
    by (inl h) = inl h
    by (inr h) = inr (one_front (IsAdd u) xs ys h)

pub told_new : (u : List ℕ) (R : Envelope → Type 0) (xs ys : List Envelope) → AllByRecursion (λ m. R m → HasOne (IsAdd u) ys) xs → ToldSince u R ys → ToldSince u R (xs ++ ys)
told_new u R [] ys f b = b
told_new u R (x ∷ xs) ys f b = ((λ r. inr (one_back (IsAdd u) xs ys (f.0 r))), told_new u R xs ys f.1 b)

pub told_named : (u : List ℕ) (R : Envelope → Type 0) (ys : List Envelope) → AllByRecursion (λ m. R m → Names u m) ys → ToldSince u R ys
told_named u R [] a = tt
told_named u R (y ∷ ys) a = ((λ r. inl (a.0 r)), told_named u R ys a.1)

pub told_map : (u : List ℕ) (R T : Envelope → Type 0) (ms : List Envelope) → AllByRecursion (λ m. T m → R m) ms → ToldSince u R ms → ToldSince u T ms
told_map u R T [] f a = tt
told_map u R T (m ∷ ms) f a = ((λ t. a.0 (f.0 t)), told_map u R T ms f.1 a.1)

-- A RETURN to such a call of a reader
pub record IsReturn (es : List Entry) (r : ℕ) (asked_ : List Asked) (m : Envelope) : Type 0 where
  pub kind : m.kind ≡ 2
  pub caller : List ℕ
  pub to : m.destination ≡ Some caller
  pub name : NameIs es (Reader r) caller
  pub serial : ℕ
  pub reply : m.reply ≡ Some serial
  pub well : IsWell asked_ serial

-- THE START OF ONE THAT ASKED SO was returned
abbrev is_children : Question → Bool
is_children GetChildren = true
is_children q = false

abbrev nine : List Question
nine =
    Hello
    ∷ (AddMatch (codes "type='signal',interface='org.freedesktop.DBus',member='NameOwnerChanged'")
    ∷ (AddMatch (codes "type='signal',interface='org.a11y.atspi.Cache'")
    ∷ (AddMatch (codes "type='signal',interface='org.a11y.atspi.Event.Object'")
    ∷ (RegisterEvent (codes "object:children-changed")
    ∷ (RegisterEvent (codes "object:property-change")
    ∷ (RegisterEvent (codes "object:state-changed")
    ∷ (RegisterEvent (codes "object:text-changed")
    ∷ (RegisterEvent (codes "object:text-caret-moved")
    ∷ []))))))))

abbrev pub IsBack : Question → Asked → Type 0
IsBack q a = (a.question ≡ q) × (a.fate ≡ returned)

not_failed : (a : Asked) → is_answered a ≡ true → (a.fate ≡ failed → ⊥) → a.fate ≡ returned
not_failed a h f = by a.fate refl h
  where
    by : (x : Fate) → a.fate ≡ x → is_answered (record a { fate = x }) ≡ true → a.fate ≡ returned
    by waits g k = absurd (false_true k)
    by returned g k = g
    by failed g k = absurd (f g)

abbrev tail_questions : List Question → List Question
tail_questions [] = []
tail_questions (x ∷ xs) = xs

abbrev first_question : Question → List Question → Question
first_question q [] = q
first_question q (x ∷ xs) = x

back_of_start : (qs : List Question) (early late : List Asked) (x : Asked) (mid : List Question) → map question_of (early ++ x ∷ []) ≡ (qs ++ GetChildren ∷ []) ++ mid → x.question ≡ GetChildren → AllByRecursion (λ q. is_children q ≡ false) qs
    → AreReturned (qs ++ GetChildren ∷ []) (early ++ x ∷ late) → AllByRecursion (λ (a : Asked). is_answered a ≡ true) early → AllByRecursion (λ q. HasOne (IsBack q) (early ++ x ∷ late)) qs
back_of_start [] early late x mid h it n a o = tt
back_of_start (q ∷ qs) [] late x mid h it n a o = absurd (false_true (sym n.0 ∙ ap is_children (sym (ap (first_question q) h) ∙ it)))
back_of_start (q ∷ qs) (y ∷ ys) late x mid h it n a o =
    (inl (a.0, not_failed y o.0 a.1.0), all_map (λ z. HasOne (IsBack z) (ys ++ x ∷ late)) (λ z. HasOne (IsBack z) (y ∷ (ys ++ x ∷ late))) qs (λ z k. inr k) (back_of_start qs ys late x mid (ap tail_questions h) it n.1 a.1.1 o.1))

pub begins_well : (asked_ : List Asked) (n : ℕ) → IsWell asked_ n → BeginsWell asked_
begins_well asked_ n w = (
  w.well.0 ++ map question_of w.late,
  ap (map question_of) (w.are ∙ sym (append_assoc w.early (w.one ∷ []) w.late)) ∙ questions_append (w.early ++ w.one ∷ []) w.late ∙ ap (λ l. l ++ map question_of w.late) w.well.1 ∙ append_assoc start_calls w.well.0 (map question_of w.late),
)

pub start_back : (asked_ : List Asked) (n : ℕ) → IsWell asked_ n → Ordered asked_ → AreReturned start_calls asked_ → AllByRecursion (λ q. HasOne (IsBack q) asked_) nine
start_back asked_ n w o a =
    subst (λ l. AllByRecursion (λ q. HasOne (IsBack q) l) nine) (sym w.are)
    (back_of_start nine w.early w.late w.one w.well.0 w.well.1 w.question (refl, (refl, (refl, (refl, (refl, (refl, (refl, (refl, (refl, tt))))))))) (subst (AreReturned start_calls) w.are a) (ordered_split w.early w.late w.one (subst Ordered w.are o)))

pub pattern_back : (asked_ : List Asked) (n : ℕ) → IsWell asked_ n → Ordered asked_ → AreReturned start_calls asked_ → HasOne (IsBack (RegisterEvent children_pattern)) asked_
pattern_back asked_ n w o a = (start_back asked_ n w o a).1.1.1.1.0

pub rule_back : (asked_ : List Asked) (n : ℕ) → IsWell asked_ n → Ordered asked_ → AreReturned start_calls asked_ → HasOne (IsBack (AddMatch (codes "type='signal',interface='org.a11y.atspi.Event.Object'"))) asked_
rule_back asked_ n w o a = (start_back asked_ n w o a).1.1.1.0

pub cache_back : (asked_ : List Asked) (n : ℕ) → IsWell asked_ n → Ordered asked_ → AreReturned start_calls asked_ → HasOne (IsBack (AddMatch (codes "type='signal',interface='org.a11y.atspi.Cache'"))) asked_
cache_back asked_ n w o a = (start_back asked_ n w o a).1.1.0

-- WHAT WAS ENTERED is among the registry's pairs
abbrev total : List Envelope → ℕ
total [] = 0
total (m ∷ ms) = m.serial + total ms

up_all : (n : ℕ) (ms : List Envelope) → total ms ≤ n → up_to n ms ≡ ms
up_all n [] le = refl
up_all n (m ∷ ms) le = by (nat_le m.serial n) (le-leb m.serial n (omega (arith, le))) (up_all n ms (omega (arith, le)))
  where
    by : (b : Bool) → b ≡ true → up_to n ms ≡ ms → (if b then m ∷ up_to n ms else up_to n ms) ≡ m ∷ ms
    by true h r = ap (λ l. m ∷ l) r
    by false h r = absurd (false_true h)

pub entered_now : (es : List Entry) (pair : List ℕ × List ℕ) → Entered es pair → is_heard (hearing (messages es Registry) []) pair ≡ true
entered_now es pair i =
    subst (λ l. is_heard (hearing l []) pair ≡ true) (up_all (i.at + total (messages es Registry)) (messages es Registry) (omega arith)) (i.stays (i.at + total (messages es Registry)) (omega arith))

entered_of : (es : List Entry) (name : List ℕ) (asked_ : List Asked) → AllByRecursion (IsEntered es name) asked_ → HasOne (IsBack (RegisterEvent children_pattern)) asked_ → Entered es (name, children_pattern)
entered_of es name [] a h = absurd h
entered_of es name (x ∷ xs) a (inl h) = a.0 children_pattern h.0 h.1
entered_of es name (x ∷ xs) a (inr h) = entered_of es name xs a.1 h

pub asks_for_news : (es : List Entry) (s : RegistryState) (name : List ℕ) (asked_ : List Asked) (n : ℕ) → hearing (messages es Registry) [] ≡ s.pairs → AllByRecursion (IsEntered es name) asked_ → IsWell asked_ n → Ordered asked_ → AreReturned start_calls asked_
    → is_asked_for s.pairs (codes "add") ≡ true
asks_for_news es s name asked_ n pairs entered w o a =
    listener_asks name s.pairs (subst (λ l. is_heard l (name, children_pattern) ≡ true) pairs (entered_now es (name, children_pattern) (entered_of es name asked_ entered (pattern_back asked_ n w o a))))

own_itself : is_text (Some own_name) own_name ≡ true
own_itself = (bytes_eq-Decides own_name own_name).1 refl

-- OLD RETURNS: one that is such a return with more entries and calls was one before
pub named_then : (es ys : List Entry) (who : Party) (m : Envelope) (caller : List ℕ) → length (greeted (es ++ ys)) ≤ 1000 → IsAnswered es m → m.destination ≡ Some caller → NameIs (es ++ ys) who caller → (first : Envelope) × (n : ℕ) × (NameIs es who caller) × (m.reply ≡ Some n) × (message es who n ≡ Some first)
named_then es ys who m caller few i to name = by i.called.known
  where
    for : (c : List ℕ) (serial : ℕ) (x : Reply) → ((reply_to c serial x).destination ≡ Some c) × ((reply_to c serial x).reply ≡ Some serial)
    for c serial (returns values) = (refl, refl)
    for c serial (fails word) = (refl, refl)

    its : ((reply_to i.called.caller i.call.serial (answer_to i.state i.own i.called.caller (asked (object_at i.call.path) i.call.interface i.call.member i.call.body)).reply).destination ≡ Some i.called.caller)
        × ((reply_to i.called.caller i.call.serial (answer_to i.state i.own i.called.caller (asked (object_at i.call.path) i.call.interface i.call.member i.call.body)).reply).reply ≡ Some i.call.serial)
    its = for i.called.caller i.call.serial (answer_to i.state i.own i.called.caller (asked (object_at i.call.path) i.call.interface i.call.member i.call.body)).reply

    same : i.called.caller ≡ caller
    same = same_some i.called.caller caller (sym its.0 ∙ sym (ap (λ (x : Envelope). x.destination) i.message) ∙ to)

    replies : m.reply ≡ Some i.call.serial
    replies = ap (λ (x : Envelope). x.reply) i.message ∙ its.1

    by : (i.called.caller ≡ own_name) ⊎ IsCallOf es i.called.from i.called.caller i.call → (first : Envelope) × (n : ℕ) × (NameIs es who caller) × (m.reply ≡ Some n) × (message es who n ≡ Some first)
    by (inl own) = absurd (false_true (sym (not_the_bus caller (unique_told (es ++ ys) who caller name)) ∙ own_is (sym same ∙ own)))
      where
        own_is : caller ≡ own_name → is_text (Some caller) own_name ≡ true
        own_is h = ap (λ c. is_text (Some c) own_name) h ∙ own_itself
    by (inr c) =
        let has : NameIs es i.called.from caller = subst (NameIs es i.called.from) same c.name in
        let from : i.called.from ≡ who = one_named (es ++ ys) i.called.from who caller few (name_more es ys i.called.from caller has) name in
        (c.first, i.call.serial, subst (λ p. NameIs es p caller) from has, replies, ap (λ p. message es p i.call.serial) (sym from) ∙ c.was)
