-- That readers are told of each child of the registry, along a lawful trace.
use Rattle.std.proofs.Common.{◌≡◌, inl, inr, ℕ, ◌≤◌, Bool, true, false, List, [], ◌∷◌, ◌++◌, length, Some, refl, sym, ap, ap₂, ◌∙◌, subst}
use Rattle.std.specs.Prelude.{◌==◌, ◌||◌, codes, if◌then◌else◌}
use Rattle.std.specs.List.{AllByRecursion}
use Rattle.std.proofs.lemmas.Bool.{eqb-true}
use Rattle.atspi_script_lines.specs.declared.line.Party.{Party}
use Rattle.atspi_script_lines.specs.declared.line.Party.TheVariants.{Reader}
use Rattle.atspi_message.specs.Envelope.{Envelope}
use Rattle.atspi_names.specs.Owners.{own_name}
use Rattle.atspi_match.specs.routing.Routing.{is_reply}
use Rattle.atspi_match.specs.routing.Members.{is_text}
use Rattle.atspi_protocol.specs.ends.Messages.{Reply, returns, fails, reply_to}
use Rattle.atspi_protocol.specs.ends.Places.{references}
use Rattle.atspi_protocol.specs.members.Asked.{asked}
use Rattle.atspi_protocol.specs.registering.RegistryState.{RegistryState}
use Rattle.atspi_protocol.specs.registering.Told.{is_asked_for}
use Rattle.atspi_protocol.specs.registering.Answers.{Answer, object_at}
use Rattle.atspi_protocol.specs.registering.Steps.{answer_to, registry_takes}
use Rattle.atspi_protocol.specs.declared.following.question.Question.TheVariants.{GetChildren}
use Rattle.atspi_protocol.specs.following.Calls.{asking}
use Rattle.atspi_trace.specs.Entry.{Entry}
use Rattle.atspi_trace.specs.World.{Hearer, Said, Letter, World}
use Rattle.atspi_trace.specs.Hearing.{question_in}
use Rattle.atspi_trace_laws.specs.laws.Words.{message, with_serial}
use Rattle.atspi_trace_laws.proofs.OfOrder.Parties.{no_none, same_some, false_true}
use Rattle.atspi_trace_laws.proofs.OfOrder.Each.{all_map}
use Rattle.atspi_trace_laws.proofs.OfReaders.Fates.{FateIs}
use Rattle.atspi_trace_laws.proofs.OfNames.Places.{greeted}
use Rattle.atspi_trace_laws.proofs.OfSigned.Mail.{NameIs, IsMail}
use Rattle.atspi_trace_laws.proofs.OfSigned.Self.{unique_told, one_named}
use Rattle.atspi_trace_laws.proofs.OfMissed.Returning.{not_the_bus}
use Rattle.atspi_trace_caches.proofs.OfServed.Spelling.{Spelled, call_of}
use Rattle.atspi_trace_caches.proofs.OfSettled.Answering.{IsReplyOf, registry_answers}
use Rattle.atspi_trace_caches.proofs.OfSettled.TellingWords.{HasOne, IsAdd, Names, IsChild, Comes, all_those, lists_child, children_answer, children_stay, children_come}
use Rattle.atspi_trace_caches.proofs.OfSettled.TellingAsked.{IsWell}
use Rattle.atspi_trace_caches.proofs.OfSettled.Telling_of.{ToldSince, told_append, told_new, told_named, told_map, IsReturn}

-- an element of a list
all_child : (P : List ℕ × List ℕ → Type 0) (xs : List (List ℕ × List ℕ)) (c : List ℕ × List ℕ) → AllByRecursion P xs → IsChild c xs → P c
all_child P [] c a h = absurd h
all_child P (x ∷ xs) c a (inl same) = subst P same a.0
all_child P (x ∷ xs) c a (inr h) = all_child P xs c a.1 h

all_middle : {X : Type 0} (P : X → Type 0) (xs ys : List X) (x : X) → AllByRecursion P (xs ++ x ∷ ys) → P x
all_middle P [] ys x a = a.0
all_middle P (z ∷ zs) ys x a = all_middle P zs ys x a.1

serial_found : (n : ℕ) (ms : List Envelope) (m : Envelope) → with_serial n ms ≡ Some m → m.serial ≡ n
serial_found n [] m h = absurd (no_none m h)
serial_found n (x ∷ xs) m h = by (x.serial == n) refl h (λ g. serial_found n xs m g)
  where
    by : (b : Bool) → (x.serial == n) ≡ b → (if b then Some x else with_serial n xs) ≡ Some m → (with_serial n xs ≡ Some m → m.serial ≡ n) → m.serial ≡ n
    by true g k f = ap (λ (z : Envelope). z.serial) (sym (same_some x m k)) ∙ eqb-true x.serial n g
    by false g k f = f k

-- WHAT THE REGISTRY SENDS where it takes a call: a return to a reader's call for its children names each
module _ (es : List Entry) (w : World) (r : ℕ) (g h : Hearer) (before : RegistryState) (own_is : before.own ≡ Some (codes ":1.0")) (who : Party) (letter : Letter) (mail : IsMail es who letter) (few : length (greeted es) ≤ 1000)
    (fates : AllByRecursion (FateIs es r) g.asked) (spelled : Spelled es w) (later : List Entry) (few_later : length (greeted later) ≤ 1000) (grown : (p : Party) (name : List ℕ) → NameIs es p name → NameIs later p name)
    (back : (n : ℕ) → IsWell h.asked n → IsWell g.asked n) where
  abbrev e0 : Envelope
  e0 = letter.said.message

  -- the call was the reader's
  its_call : (caller : List ℕ) → e0.sender ≡ Some caller → NameIs later (Reader r) caller → IsWell g.asked e0.serial → e0 ≡ record (asking e0.serial GetChildren) { sender = Some caller }
  its_call caller sender name well = by mail
    where
      by : IsMail es who letter → e0 ≡ record (asking e0.serial GetChildren) { sender = Some caller }
      by (inl b) = absurd (false_true (sym (not_the_bus caller (unique_told later (Reader r) caller name)) ∙ ap (λ o. is_text o own_name) (sym sender) ∙ b.own))
      by (inr p) =
          let same : p.caller ≡ caller = same_some p.caller caller (sym p.sender ∙ sender) in
          let is_it : e0 ≡ record p.first.message { sender = Some p.caller } = ap (λ (z : Said). z.message) p.alike in
          let from : letter.from ≡ Reader r = one_named later letter.from (Reader r) caller few_later (subst (NameIs later letter.from) same (grown letter.from p.caller p.name)) name in
          let fate : FateIs es r well.one = all_middle (FateIs es r) well.early well.late well.one (subst (AllByRecursion (FateIs es r)) well.are fates) in
          let number : p.first.message.serial ≡ e0.serial = ap (λ (z : Envelope). z.serial) (sym is_it) in
          let was : message es (Reader r) e0.serial ≡ Some p.first.message = ap (λ q. message es q e0.serial) (sym from) ∙ ap (message es letter.from) (sym number) ∙ p.sent_.was in
          let first : fate.first ≡ p.first.message = same_some fate.first p.first.message (sym fate.was ∙ ap (message es (Reader r)) well.serial ∙ was) in
          let spelled_ : p.first.message ≡ asking p.first.message.serial GetChildren = (call_of es w r e0.serial p.first.message spelled was).spelled GetChildren (ap question_in (sym first) ∙ fate.read ∙ ap Some well.question) in
          is_it ∙ ap₂ (λ (m : Envelope) c. record m { sender = Some c }) (spelled_ ∙ ap (λ n. asking n GetChildren) number) same

  abbrev answer_in : RegistryState → List ℕ → List ℕ → Envelope → Reply
  answer_in s own caller m = (answer_to s own caller (asked (object_at m.path) m.interface m.member m.body)).reply

  return_names : (m : Envelope) → IsReplyOf before e0 m → IsReturn later r h.asked m → (m.body ≡ references before.children ∷ []) × ((registry_takes before e0).state.children ≡ before.children)
  return_names m r_ ret = (
    ap (λ (x : Envelope). x.body) r_.3 ∙ ap (λ (x : Envelope). (reply_to r_.1 e0.serial (answer_in before r_.0 r_.1 x)).body) call ∙ ap (λ (a : Answer). (reply_to r_.1 e0.serial a.reply).body) (children_answer e0.serial r_.1 r_.0 before),
    ap (λ (x : Envelope). (registry_takes before x).state.children) call ∙ children_stay before e0.serial (codes ":1.0") r_.1 own_is,
  )
    where
      for : (c : List ℕ) (serial : ℕ) (x : Reply) → ((reply_to c serial x).destination ≡ Some c) × ((reply_to c serial x).reply ≡ Some serial)
      for c serial (returns values) = (refl, refl)
      for c serial (fails word) = (refl, refl)

      its : ((reply_to r_.1 e0.serial (answer_in before r_.0 r_.1 e0)).destination ≡ Some r_.1) × ((reply_to r_.1 e0.serial (answer_in before r_.0 r_.1 e0)).reply ≡ Some e0.serial)
      its = for r_.1 e0.serial (answer_in before r_.0 r_.1 e0)

      same : r_.1 ≡ ret.caller
      same = same_some r_.1 ret.caller (sym its.0 ∙ sym (ap (λ (x : Envelope). x.destination) r_.3) ∙ ret.to)

      number : ret.serial ≡ e0.serial
      number = same_some ret.serial e0.serial (sym ret.reply ∙ ap (λ (x : Envelope). x.reply) r_.3 ∙ its.1)

      call : e0 ≡ record (asking e0.serial GetChildren) { sender = Some r_.1 }
      call = its_call r_.1 r_.2 (subst (NameIs later (Reader r)) (sym same) ret.name) (subst (IsWell g.asked) number (back ret.serial ret.well))

  -- of each child afterwards
  sent_named : (c : List ℕ × List ℕ) → IsChild c (registry_takes before e0).state.children → AllByRecursion (λ m. IsReturn later r h.asked m → Names c.0 m) (registry_takes before e0).sent
  sent_named c at = all_map (λ m. is_reply m ≡ true → IsReplyOf before e0 m) (λ m. IsReturn later r h.asked m → Names c.0 m) (registry_takes before e0).sent one (registry_answers before e0)
    where
      one : (m : Envelope) → (is_reply m ≡ true → IsReplyOf before e0 m) → IsReturn later r h.asked m → Names c.0 m
      one m f ret =
          let x = return_names m (f (ap (λ k. k == 2 || k == 3) ret.kind)) ret in
          lists_child c before.children m x.0 (subst (IsChild c) x.1 at)

  -- old returns were such before; and where one was, news of children are asked for
  pub step_told : (old : List Envelope) → AllByRecursion (λ m. IsReturn later r h.asked m → IsReturn es r g.asked m) old → AllByRecursion (λ m. IsReturn later r h.asked m → is_asked_for before.pairs (codes "add") ≡ true) old
      → AllByRecursion (λ (c : List ℕ × List ℕ). ToldSince c.0 (IsReturn es r g.asked) old) before.children
      → AllByRecursion (λ (c : List ℕ × List ℕ). ToldSince c.0 (IsReturn later r h.asked) (old ++ (registry_takes before e0).sent)) (registry_takes before e0).state.children
  step_told old was news i =
      all_those (λ (c : List ℕ × List ℕ). ToldSince c.0 (IsReturn later r h.asked) (old ++ (registry_takes before e0).sent)) (registry_takes before e0).state.children
      (λ c at. by c at (all_child (Comes before (registry_takes before e0)) (registry_takes before e0).state.children c (children_come before e0) at))
    where
      by : (c : List ℕ × List ℕ) → IsChild c (registry_takes before e0).state.children → Comes before (registry_takes before e0) c → ToldSince c.0 (IsReturn later r h.asked) (old ++ (registry_takes before e0).sent)
      by c at (inl h_) =
          told_append c.0 (IsReturn later r h.asked) old (registry_takes before e0).sent
          (told_map c.0 (IsReturn es r g.asked) (IsReturn later r h.asked) old was (all_child (λ (x : List ℕ × List ℕ). ToldSince x.0 (IsReturn es r g.asked) old) before.children c i h_))
          (told_named c.0 (IsReturn later r h.asked) (registry_takes before e0).sent (sent_named c at))
      by c at (inr f) =
          told_new c.0 (IsReturn later r h.asked) old (registry_takes before e0).sent
          (all_map (λ m. IsReturn later r h.asked m → is_asked_for before.pairs (codes "add") ≡ true) (λ m. IsReturn later r h.asked m → HasOne (IsAdd c.0) (registry_takes before e0).sent) old (λ m q ret. f (q ret)) news)
          (told_named c.0 (IsReturn later r h.asked) (registry_takes before e0).sent (sent_named c at))
