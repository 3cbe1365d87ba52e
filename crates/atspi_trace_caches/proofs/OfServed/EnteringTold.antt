-- What the registry returned, along a lawful trace: each return answers a call, and where that is a reader's call for a pattern, and the reader is here, whoever heard the registry up to the return, or further, has the reader's pair.
use Rattle.std.proofs.Common.{◌≡◌, ◌⊎◌, inl, inr, ℕ, zero, suc, ◌+◌, ◌≤◌, Bool, true, false, List, [], ◌∷◌, ◌++◌, length, map, Option, Some, refl, sym, ap, ap₂, ◌∙◌, subst, arith}
use Rattle.std.specs.Prelude.{◌==◌, ◌||◌, codes, if◌then◌else◌}
use Rattle.std.specs.List.{AllByRecursion}
use Rattle.std.proofs.lemmas.Bool.{le-leb}
use Rattle.std.proofs.lemmas.List.{append-nil}
use Rattle.std.proofs.lemmas.Slice.Eq.{bytes_eq-Decides}
use Rattle.atspi_script_lines.specs.declared.line.Party.{Party}
use Rattle.atspi_script_lines.specs.declared.line.Party.TheVariants.{Bus as The_bus, Registry, Reader}
use Rattle.atspi_message.specs.Envelope.{Envelope}
use Rattle.atspi_names.specs.Owners.{own_name}
use Rattle.atspi_match.specs.routing.Members.{is_text}
use Rattle.atspi_match.specs.routing.Routing.{is_reply}
use Rattle.atspi_protocol.specs.ends.Messages.{numbered}
use Rattle.atspi_protocol.specs.registering.Steps.{RegistryStep, registry_takes}
use Rattle.atspi_protocol.specs.exporting.Hearing.{is_heard}
use Rattle.atspi_protocol.specs.exporting.Taking.{app_takes}
use Rattle.atspi_protocol.specs.declared.following.question.Question.TheVariants.{RegisterEvent}
use Rattle.atspi_protocol.specs.following.Calls.{asking}
use Rattle.atspi_trace.specs.Entry.{Entry, sent, got}
use Rattle.atspi_trace.specs.World.{Standing, here, stopped, away, End, World, first_registry, first_world}
use Rattle.atspi_trace.specs.Ends.{is_here, is_reader, same_party, whose, number_of, end_at, reader_count}
use Rattle.atspi_trace.specs.Carrying as carrying
use Rattle.atspi_trace.specs.Carrying.{Carried}
use Rattle.atspi_trace.specs.Causes.{Done, at_end, app_starts, reader_starts}
use Rattle.atspi_trace.specs.Due.{asks_at}
use Rattle.atspi_trace_laws.specs.laws.Words.{messages, message, with_serial}
use Rattle.atspi_trace_laws.specs.laws.NineLaws.{sent_before}
use Rattle.atspi_trace_laws.specs.missed.Laws.{hearing}
use Rattle.atspi_trace_laws.proofs.OfOrder.Parties.{no_none, same_some, false_true, all_append}
use Rattle.atspi_trace_laws.proofs.OfOrder.Allowed.{MovedUp, MovedDown}
use Rattle.atspi_trace_laws.proofs.OfOrder.Frame.{Over, joined_cases}
use Rattle.atspi_trace_laws.proofs.OfOrder.Shape.{Lasts, Shape}
use Rattle.atspi_trace_laws.proofs.OfOrder.Effects.{received, RegistryTakes, Effect, resets, app_joins, reader_joins, app_edited, app_took, reader_called, swapped, exited_, showed_, told_busy, told_quiet, bus_took, bus_ended, registry_took, reader_took}
use Rattle.atspi_trace_laws.proofs.OfOrder.Shaped.{new_app, new_reader, app_joined, bus_takes_over, bus_ends_over, edits_over, app_takes_over, calls_over, stopping_over, registry_over, reader_over, up_moved_over, down_moved_over, asked_over}
use Rattle.atspi_trace_laws.proofs.OfOrder.Along.{Keeps}
use Rattle.atspi_trace_laws.proofs.OfOrder.Growing.{Grows, Shaped, Nothing, And, grown}
use Rattle.atspi_trace_laws.proofs.OfOrder.Each.{all_map}
use Rattle.atspi_trace_laws.proofs.OfSerials.Serial.{messages_more}
use Rattle.atspi_trace_laws.proofs.OfSerials.Numbers.{Numbered}
use Rattle.atspi_trace_laws.proofs.OfSerials.Speaking.{next_of, IsNumbered, registry_numbered}
use Rattle.atspi_trace_laws.proofs.OfHeard.Quiet.{heard_all}
use Rattle.atspi_trace_laws.proofs.OfTaken.Found.{found_more}
use Rattle.atspi_trace_laws.proofs.OfLinks.Ups.{From, serials_from}
use Rattle.atspi_trace_laws.proofs.OfReaders.Fates.{both_keep}
use Rattle.atspi_trace_laws.proofs.OfNames.Places.{greeted}
use Rattle.atspi_trace_laws.proofs.OfNames.LawNames.{Named}
use Rattle.atspi_trace_laws.proofs.OfNames.LawEnds.{few_greeted}
use Rattle.atspi_trace_laws.proofs.OfSigned.Mail.{NameIs, name_more, IsMail}
use Rattle.atspi_trace_laws.proofs.OfSigned.Speech.{IsItsReply, registry_replies}
use Rattle.atspi_trace_laws.proofs.OfSigned.LawMail.{Mail}
use Rattle.atspi_trace_laws.proofs.OfEnds.LawEnds.{Ends_told, Under_ends, ends_keep}
use Rattle.atspi_trace_laws.proofs.OfMissed.Telling.{Pair, pairs_told, hearing_append}
use Rattle.atspi_trace_laws.proofs.OfMissed.Coming.{come_and_go}
use Rattle.atspi_trace_laws.proofs.OfMissed.Registering.{HasTold, AsTold, letter_named, NotRegistry, none_sent, did_quiet, bus_quiet, all_sent, Under_told, told_keeps}
use Rattle.atspi_trace_caches.proofs.OfServed.Facts.{up_to, told_by}
use Rattle.atspi_trace_caches.proofs.OfServed.Spelling.{Spelled, spelled_keep}
use Rattle.atspi_trace_caches.proofs.OfServed.Staying.{KeepsPair, all_keep, upto_keep, upto_append, registry_keeps, WholeAt, registering_whole}
use Rattle.atspi_trace_caches.proofs.OfServed.Leaving.{IsPresent, none_away}

-- A PAIR STAYS with whoever heard the registry up to a serial, or further
abbrev pub Stays : List Entry → Pair → ℕ → Type 0
Stays es pair at = (n : ℕ) → at ≤ n → is_heard (told_by es n) pair ≡ true

told_more : (es ys : List Entry) (n : ℕ) → told_by (es ++ ys) n ≡ hearing (up_to n (messages ys Registry)) (told_by es n)
told_more es ys n =
    ap (λ l. hearing (up_to n l) []) (messages_more es ys Registry) ∙ ap (λ l. hearing l []) (upto_append n (messages es Registry) (messages ys Registry))
    ∙ hearing_append (up_to n (messages es Registry)) (up_to n (messages ys Registry)) []

pub stays_more : (es ys : List Entry) (pair : Pair) (at : ℕ) → AllByRecursion (KeepsPair pair) (messages ys Registry) → Stays es pair at → Stays (es ++ ys) pair at
stays_more es ys pair at a s n h =
    ap (λ l. is_heard l pair) (told_more es ys n) ∙ all_keep pair (up_to n (messages ys Registry)) (told_by es n) (upto_keep pair n (messages ys Registry) a) (s n h)

-- WHAT A RETURN ANSWERS
pub record OfCall (es : List Entry) (w : World) (m : Envelope) (caller : List ℕ) (serial : ℕ) : Type 0 where
  pub from : Party
  pub name : NameIs es from caller
  pub first : Envelope
  pub was : message es from serial ≡ Some first
  pub stays : (r : ℕ) → from ≡ Reader r → (pattern : List ℕ) → first ≡ asking serial (RegisterEvent pattern) → IsPresent w r → Stays es (caller, pattern) m.serial

pub record Answered (es : List Entry) (w : World) (m : Envelope) : Type 0 where
  pub caller : List ℕ
  pub serial : ℕ
  pub to : m.destination ≡ Some caller
  pub with_ : m.reply ≡ Some serial
  pub known : (caller ≡ own_name) ⊎ OfCall es w m caller serial

abbrev pub Tells : List Entry → World → Envelope → Type 0
Tells es w m = m.kind ≡ 2 → Answered es w m

abbrev pub ReturnsTold : List Entry → World → Type 0
ReturnsTold es w = AllByRecursion (Tells es w) (messages es Registry)

-- MORE ENTRIES: a reader that is here was here, and what the registry sends leaves its pairs
abbrev PresentBack : List Entry → World → World → Type 0
PresentBack es w v = (r s : ℕ) (first : Envelope) → message es (Reader r) s ≡ Some first → IsPresent v r → IsPresent w r

abbrev KeepsAll : List Entry → World → List Entry → Type 0
KeepsAll es w ys = (r : ℕ) (u pattern : List ℕ) → NameIs es (Reader r) u → IsPresent w r → AllByRecursion (KeepsPair (u, pattern)) (messages ys Registry)

tells_on : (es ys : List Entry) (w v : World) → PresentBack es w v → KeepsAll es w ys → (m : Envelope) → Tells es w m → Tells (es ++ ys) v m
tells_on es ys w v back keep m f two = record { caller = a.caller; serial = a.serial; to = a.to; with_ = a.with_; known = by a.known }
  where
    a : Answered es w m
    a = f two

    by : (a.caller ≡ own_name) ⊎ OfCall es w m a.caller a.serial → (a.caller ≡ own_name) ⊎ OfCall (es ++ ys) v m a.caller a.serial
    by (inl own) = inl own
    by (inr c) =
        inr (record {
          from = c.from;
          name = name_more es ys c.from a.caller c.name;
          first = c.first;
          was = found_more es ys c.from a.serial c.first c.was;
          stays = λ r is pattern asks p.
              let q : IsPresent w r = back r a.serial c.first (subst (λ x. message es x a.serial ≡ Some c.first) is c.was) p in
              stays_more es ys (a.caller, pattern) m.serial (keep r a.caller pattern (subst (λ x. NameIs es x a.caller) is c.name) q) (c.stays r is pattern asks q);
        })

told_on : (es ys : List Entry) (w v : World) → ReturnsTold es w → PresentBack es w v → KeepsAll es w ys → AllByRecursion (Tells (es ++ ys) v) (messages ys Registry) → ReturnsTold (es ++ ys) v
told_on es ys w v i back keep new =
    subst (AllByRecursion (Tells (es ++ ys) v)) (sym (messages_more es ys Registry))
    (all_append (Tells (es ++ ys) v) (messages es Registry) (messages ys Registry) (all_map (Tells es w) (Tells (es ++ ys) v) (messages es Registry) (tells_on es ys w v back keep) i) new)

-- where the registry sends nothing
quiet_on : (es ys : List Entry) (w v : World) → ReturnsTold es w → PresentBack es w v → AllByRecursion NotRegistry ys → ReturnsTold (es ++ ys) v
quiet_on es ys w v i back none =
    told_on es ys w v i back (λ r u pattern has p. subst (AllByRecursion (KeepsPair (u, pattern))) (sym (none_sent ys none)) tt) (subst (AllByRecursion (Tells (es ++ ys) v)) (sym (none_sent ys none)) tt)

-- WHO IS HERE WAS HERE
here_is : (s : Standing) → is_here s ≡ true → s ≡ here
here_is here h = refl
here_is stopped h = absurd (false_true h)
here_is away h = absurd (false_true h)

lasts_back : (es : List Entry) (w v : World) → Over Lasts w.ends v.ends → PresentBack es w v
lasts_back es w v o r s first found p =
    let x = o.back p.conn p.e p.there in
    record { conn = p.conn; e = x.0; there = x.1; whose = sym x.2.whose ∙ p.whose; standing = here_is x.0.standing (by x.0 x.2 (is_here x.0.standing) refl) }
  where
    by : (e : End) → Lasts e p.e → (b : Bool) → is_here e.standing ≡ b → is_here e.standing ≡ true
    by e l true h = h
    by e l false h = absurd (false_true (sym (l.gone h) ∙ ap is_here p.standing))

ends_back : (es : List Entry) (w v : World) → v.ends ≡ w.ends → PresentBack es w v
ends_back es w v is r s first found p = record { conn = p.conn; e = p.e; there = ap (λ l. end_at l p.conn) (sym is) ∙ p.there; whose = p.whose; standing = p.standing }

none_back : (es : List Entry) (w : World) (quota : ℕ) → PresentBack es w (first_world quota)
none_back es w quota r s first found p = absurd (by p.conn p.e p.there p.whose)
  where
    by : (k : ℕ) (e : End) → end_at (first_registry ∷ []) k ≡ Some e → e.who ≡ Reader r → ⊥
    by zero e h who = false_true (ap is_reader (ap (λ (y : End). y.who) (same_some first_registry e h) ∙ who))
    by (suc k) e h who = no_none e h

join_back : (es : List Entry) (w v : World) (nu : End) → v.ends ≡ w.ends ++ nu ∷ [] → ((r s : ℕ) (first : Envelope) → nu.who ≡ Reader r → message es (Reader r) s ≡ Some first → ⊥) → PresentBack es w v
join_back es w v nu is new r s first found p = by (joined_cases w.ends nu p.conn p.e (ap (λ l. end_at l p.conn) (sym is) ∙ p.there))
  where
    by : (end_at w.ends p.conn ≡ Some p.e) ⊎ ((p.conn ≡ length w.ends) × (p.e ≡ nu)) → IsPresent w r
    by (inl g) = record { conn = p.conn; e = p.e; there = g; whose = p.whose; standing = p.standing }
    by (inr g) = absurd (new r s first (ap (λ (x : End). x.who) (sym g.1) ∙ p.whose) found)

-- THE REGISTRY TAKES A MESSAGE
upto_all : (n k : ℕ) (xs : List Envelope) → From n xs → n + length xs ≤ suc k → up_to k xs ≡ xs
upto_all n k [] f h = refl
upto_all n k (x ∷ xs) f h =
    let first : x.serial ≡ n = f.0 in
    ap (λ b. if b then x ∷ up_to k xs else up_to k xs) (le-leb x.serial k (omega (arith, first, h))) ∙ ap (λ l. x ∷ l) (upto_all (n + 1) k xs f.1 (omega (arith, h)))

least_numbers : (n : ℕ) (xs : List Envelope) → AllByRecursion (λ (m : Envelope). n ≤ m.serial) (numbered n xs)
least_numbers n [] = tt
least_numbers n (x ∷ xs) = (omega arith, all_map (λ (m : Envelope). n + 1 ≤ m.serial) (λ (m : Envelope). n ≤ m.serial) (numbered (n + 1) xs) (λ m h. omega (arith, h)) (least_numbers (n + 1) xs))

-- a fact of each pattern and caller, said of each message
all_pull : {X A : Type 0} (P : A → X → Type 0) (xs : List X) → ((a : A) → AllByRecursion (P a) xs) → AllByRecursion (λ x. (a : A) → P a x) xs
all_pull P [] f = tt
all_pull P (x ∷ xs) f = ((λ a. (f a).0), all_pull P xs (λ a. (f a).1))

no_bus_registry : Registry ≡ The_bus → ⊥
no_bus_registry h = false_true (ap (λ p. same_party p The_bus) h)

module _ (es : List Entry) (w : World) (d : Done) (s : Shape w) (numbers : Numbered es w) (n : Named es w) (few : length (greeted es) ≤ 1000) (mail : Mail es w) (ends : Ends_told es w) (spelled : Spelled es w) (told : AsTold es w) (i : ReturnsTold es w)
    (b : RegistryTakes w d) where
  abbrev m0 : Envelope
  m0 = b.letter.said.message

  abbrev step : RegistryStep
  step = registry_takes b.before m0

  abbrev words : List Entry
  words = got b.e.who b.letter.from m0.serial ∷ map (sent Registry) step.sent

  wrote : d.entries ≡ words
  wrote = ap (λ x. x.entries) b.is ∙ ap (λ p. got b.e.who b.letter.from m0.serial ∷ map (sent p) step.sent) b.whose

  had : HasTold es b.before
  had = told.registry b.conn b.e b.before b.is_here.there b.role

  its_mail : IsMail es b.e.who b.letter
  its_mail = (subst (AllByRecursion (IsMail es b.e.who)) b.link (mail.downs b.conn b.e b.is_here.there b.is_here.standing)).0

  back : PresentBack es w d.world
  back = lasts_back es w d.world (registry_over w d b)

  keeps : KeepsAll es w words
  keeps r u pattern has p = subst (AllByRecursion (KeepsPair (u, pattern))) (sym (all_sent step.sent)) (registry_keeps (u, pattern) b.before m0 (none_away es w d s n few mail ends spelled b r u pattern has p))

  -- all that was sent before has lower serials
  before_all : (k : ℕ) → b.before.next ≤ k → told_by es k ≡ b.before.pairs
  before_all k h =
      let from : From 4 (messages es Registry) = serials_from Registry no_bus_registry [] es numbers.0 in
      let next : b.before.next ≡ suc (3 + length (messages es Registry)) = ap next_of (sym b.role) ∙ numbers.1 b.conn b.e b.is_here.there ∙ ap (λ p. suc (sent_before p + length (messages es p))) b.whose in
      ap (λ l. hearing l []) (upto_all 4 k (messages es Registry) from (omega (arith, h, next))) ∙ had.pairs

  least : AllByRecursion (λ (m : Envelope). b.before.next ≤ m.serial) step.sent
  least = let x : IsNumbered b.before step = registry_numbered b.before m0 in subst (AllByRecursion (λ (m : Envelope). b.before.next ≤ m.serial)) (sym x.sent) (least_numbers b.before.next x.said)

  -- a reader's call for a pattern
  abbrev Asked_by : (List ℕ × List ℕ) → Type 0
  Asked_by c = m0 ≡ record (asking m0.serial (RegisterEvent c.1)) { sender = Some c.0 }

  whole : AllByRecursion (λ m. (c : List ℕ × List ℕ) → Asked_by c → WholeAt step.sent m) step.sent
  whole =
      all_pull (λ (c : List ℕ × List ℕ) m. Asked_by c → WholeAt step.sent m) step.sent
      (λ c. all_pull (λ (is : Asked_by c) m. WholeAt step.sent m) step.sent
      (λ is. subst (λ e. AllByRecursion (WholeAt (registry_takes b.before e).sent) (registry_takes b.before e).sent) (sym is) (registering_whole b.before (codes ":1.0") c.0 c.1 m0.serial had.own)))

  entered : (c : List ℕ × List ℕ) → Asked_by c → (m : Envelope) → b.before.next ≤ m.serial → WholeAt step.sent m → m.kind ≡ 2 → Stays (es ++ words) c m.serial
  entered c is m low at two k h =
      let all : up_to k step.sent ≡ step.sent = at two k h in
      ap (λ l. is_heard l c) (told_more es words k)
      ∙ ap (λ l. is_heard (hearing (up_to k l) (told_by es k)) c) (all_sent step.sent)
      ∙ ap₂ (λ (l : List Envelope) (p : List Pair). is_heard (hearing l p) c) all (before_all k (omega (arith, low, h)))
      ∙ ap (λ l. is_heard l c) (pairs_told.news b.before m0 had.names (letter_named es b.e.who b.letter few its_mail))
      ∙ ap (λ e. is_heard (registry_takes b.before e).state.pairs c) is
      ∙ come_and_go.comes b.before (codes ":1.0") c.0 c.1 m0.serial had.own

  text_is : (o : Option (List ℕ)) (u : List ℕ) → o ≡ Some u → is_text o own_name ≡ true → u ≡ own_name
  text_is o u h t = (bytes_eq-Decides u own_name).0 (ap (λ z. is_text z own_name) (sym h) ∙ t)

  call_of_it : (caller : List ℕ) → m0.sender ≡ Some caller → (m : Envelope) → b.before.next ≤ m.serial → ((c : List ℕ × List ℕ) → Asked_by c → WholeAt step.sent m) → m.kind ≡ 2
      → (caller ≡ own_name) ⊎ OfCall (es ++ words) d.world m caller m0.serial
  call_of_it caller sender m low at two = by its_mail
    where
      by : IsMail es b.e.who b.letter → (caller ≡ own_name) ⊎ OfCall (es ++ words) d.world m caller m0.serial
      by (inl p) = inl (text_is m0.sender caller sender p.own)
      by (inr p) =
          let same : p.caller ≡ caller = same_some p.caller caller (sym p.sender ∙ sender) in
          inr (record {
            from = b.letter.from;
            name = name_more es words b.letter.from caller (subst (NameIs es b.letter.from) same p.name);
            first = p.first.message;
            was = found_more es words b.letter.from m0.serial p.first.message (ap (λ z. message es b.letter.from z.message.serial) p.alike ∙ p.sent_.was);
            stays = λ r is pattern asks present.
                let call : Asked_by (caller, pattern) = ap (λ z. z.message) p.alike ∙ ap₂ (λ (e : Envelope) (u : List ℕ). record e { sender = Some u }) asks same in
                entered (caller, pattern) call m low (at (caller, pattern) call) two;
          })

  new_tell : (xs : List Envelope) → AllByRecursion (λ m. is_reply m ≡ true → IsItsReply m0 m) xs → AllByRecursion (λ (m : Envelope). b.before.next ≤ m.serial) xs → AllByRecursion (λ m. (c : List ℕ × List ℕ) → Asked_by c → WholeAt step.sent m) xs
      → AllByRecursion (Tells (es ++ words) d.world) xs
  new_tell [] r l t = tt
  new_tell (x ∷ xs) r l t = (
    λ two.
        let y = r.0 (ap (λ k. k == 2 || k == 3) two) in
        record { caller = y.0; serial = m0.serial; to = y.2; with_ = y.3; known = call_of_it y.0 y.1 x l.0 t.0 two },
    new_tell xs r.1 l.1 t.1,
  )

  registry_returns : ReturnsTold (es ++ d.entries) d.world
  registry_returns =
      subst (λ ys. ReturnsTold (es ++ ys) d.world) (sym wrote)
      (told_on es words w d.world i back keeps (subst (AllByRecursion (Tells (es ++ words) d.world)) (sym (all_sent step.sent)) (new_tell step.sent (registry_replies b.before m0) least whole)))

-- EACH CAUSE
module _ (es : List Entry) (w : World) (d : Done) (i : ReturnsTold es w) where
  by_quiet : (x : Done) → d ≡ x → PresentBack es w d.world → AllByRecursion NotRegistry x.entries → ReturnsTold (es ++ d.entries) d.world
  by_quiet x is back none = quiet_on es d.entries w d.world i back (subst (λ y. AllByRecursion NotRegistry y.entries) (sym is) none)

  by_same : (x : Done) → d ≡ x → x.world.ends ≡ w.ends → AllByRecursion NotRegistry x.entries → ReturnsTold (es ++ d.entries) d.world
  by_same x is ends none = by_quiet x is (ends_back es w d.world (ap (λ y. y.world.ends) is ∙ ends)) none

none_new : (es : List Entry) (w : World) → Numbered es w → (r s : ℕ) (first : Envelope) → Reader (reader_count w.ends) ≡ Reader r → message es (Reader r) s ≡ Some first → ⊥
none_new es w numbers r s first is found =
    no_none first (ap (with_serial s) (sym (numbers.2 (Reader (reader_count w.ends)) (at_least (reader_count w.ends)))) ∙ ap (λ p. message es p s) is ∙ found)
  where
    at_least : (k : ℕ) → k ≤ k
    at_least k = omega arith

caused : (es : List Entry) (w : World) (d : Done) → Shape w → Numbered es w → Named es w → length (greeted es) ≤ 1000 → Mail es w → Ends_told es w → Spelled es w → AsTold es w → ReturnsTold es w → Effect w d → ReturnsTold (es ++ d.entries) d.world
caused es w d s numbers n few mail ends spelled told i (resets quota old is) = by_quiet es w d i _ is (subst (λ (x : Done). PresentBack es w x.world) (sym is) (none_back es w quota)) tt
caused es w d s numbers n few mail ends spelled told i (app_joins name short is) =
    by_quiet es w d i (app_starts w name) is
    (join_back es w d.world (new_app w name) (ap (λ x. x.world.ends) is ∙ app_joined w name) (λ r t first who found. false_true (ap is_reader who))) (tt, (refl, tt))
caused es w d s numbers n few mail ends spelled told i (reader_joins fewer is) =
    by_quiet es w d i (reader_starts w) is (join_back es w d.world (new_reader w) (ap (λ x. x.world.ends) is) (none_new es w numbers)) (tt, (refl, tt))
caused es w d s numbers n few mail ends spelled told i (app_edited b) = by_quiet es w d i _ b.is (lasts_back es w d.world (edits_over w d b)) (did_quiet _ b.after.out)
caused es w d s numbers n few mail ends spelled told i (app_took b) = by_quiet es w d i _ b.is (lasts_back es w d.world (app_takes_over w d b)) (tt, did_quiet _ (app_takes b.before b.letter.said.message).out)
caused es w d s numbers n few mail ends spelled told i (reader_called b) = by_quiet es w d i _ b.is (lasts_back es w d.world (calls_over w d b)) (ap (λ p. same_party p Registry) (ap whose b.is_here.there ∙ b.whose), tt)
caused es w d s numbers n few mail ends spelled told i (swapped b) = by_same es w d i _ b.is refl tt
caused es w d s numbers n few mail ends spelled told i (exited_ b) = by_quiet es w d i _ b.is (lasts_back es w d.world (stopping_over w d b)) (tt, tt)
caused es w d s numbers n few mail ends spelled told i (showed_ b) = by_same es w d i _ b.is refl (tt, tt)
caused es w d s numbers n few mail ends spelled told i (told_busy turns is) = by_same es w d i _ is refl (tt, tt)
caused es w d s numbers n few mail ends spelled told i (told_quiet none is) = by_same es w d i _ is refl (tt, tt)
caused es w d s numbers n few mail ends spelled told i (bus_took b) =
    by_quiet es w d i _ b.is (lasts_back es w d.world (bus_takes_over w d b)) (tt, bus_quiet (carrying.takes (record { bus = w.bus; ends = w.ends }) b.conn b.e.who b.said))
caused es w d s numbers n few mail ends spelled told i (bus_ended b) =
    by_quiet es w d i _ b.is (lasts_back es w d.world (bus_ends_over w d b)) (bus_quiet (carrying.takes_end (record { bus = w.bus; ends = w.ends }) b.conn))
caused es w d s numbers n few mail ends spelled told i (registry_took b) = registry_returns es w d s numbers n few mail ends spelled told i b
caused es w d s numbers n few mail ends spelled told i (reader_took b) =
    by_quiet es w d i _ b.is (lasts_back es w d.world (reader_over w d b))
    (tt, heard_all NotRegistry (λ r app line. tt) (λ r app. tt) (number_of b.e.who) b.hearer (received w b.conn b.e b.letter).ends b.letter)

-- THE LAYERS
abbrev pub Under_returned : List Entry → World → Type 0
Under_returned es w = And (And Under_ends Ends_told) (And (And Under_told AsTold) (And Nothing Spelled)) es w

under_keep : Keeps (Shaped Under_returned)
under_keep = both_keep (And Under_ends Ends_told) (And (And Under_told AsTold) (And Nothing Spelled)) ends_keep (both_keep (And Under_told AsTold) (And Nothing Spelled) told_keeps spelled_keep)

returned_grow : Grows Under_returned ReturnsTold
returned_grow = record {
  begins = tt;
  caused = λ es w d s a i e after b.
      let u = a.0.0.0 in
      let n = u.0.1.1 in
      caused es w d s n.0.1.0.1 n.1 (few_greeted es w n.1 u.0.0.1) u.1.0 a.0.1 a.1.1.1 a.1.0.1 i e;
  moved = λ es w v s a i m. subst (λ l. ReturnsTold l v) (append-nil es) (by es w v i m);
  asked = λ es w conn r m question s a i asks.
      quiet_on es (sent (Reader r) m ∷ []) w (at_end w conn (asks_at m question)) i (lasts_back es w (at_end w conn (asks_at m question)) (asked_over w conn r m question asks)) (refl, tt);
}
  where
    by : (es : List Entry) (w v : World) → ReturnsTold es w → (MovedUp w v ⊎ MovedDown w v) → ReturnsTold (es ++ []) v
    by es w v i (inl m) = quiet_on es [] w v i (lasts_back es w v (up_moved_over w v m)) tt
    by es w v i (inr m) = quiet_on es [] w v i (lasts_back es w v (down_moved_over w v m)) tt

pub returned_keep : Keeps (Shaped (And Under_returned ReturnsTold))
returned_keep = grown Under_returned ReturnsTold under_keep returned_grow
