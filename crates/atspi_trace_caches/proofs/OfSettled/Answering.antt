-- WHAT THE REGISTRY ANSWERS: each reply that it sent is its answer to a call that somebody made, in a state in which all its pairs have bus names.
use Rattle.std.proofs.Common.{◌≡◌, ◌⊎◌, inl, inr, ℕ, ◌+◌, Bool, true, false, List, [], ◌∷◌, ◌++◌, map, Option, None, Some, refl, sym, ap, ◌∙◌, subst}
use Rattle.std.specs.Prelude.{◌==◌, ◌&&◌, bit_and, filter, if◌then◌else◌}
use Rattle.std.specs.List.{AllByRecursion}
use Rattle.std.proofs.lemmas.List.{append-nil}
use Rattle.atspi_script_lines.specs.declared.line.Party.TheVariants.{Registry, Reader}
use Rattle.atspi_message.specs.Envelope.{Envelope}
use Rattle.atspi_match.specs.routing.Routing.{is_reply}
use Rattle.atspi_protocol.specs.ends.Messages.{Reply, returns, fails, reply_to, expects_reply, numbered}
use Rattle.atspi_protocol.specs.members.Asked.{asked}
use Rattle.atspi_protocol.specs.registering.RegistryState.{RegistryState}
use Rattle.atspi_protocol.specs.registering.Answers.{Answer, object_at}
use Rattle.atspi_protocol.specs.registering.Steps.{RegistryStep, answer_to, named, called_by, hears, name_told, name_gone, registry_takes}
use Rattle.atspi_protocol.specs.registering.Laws.{replies_in, AreOneReply}
use Rattle.atspi_protocol.proofs.OfRegistering.Replies.{once}
use Rattle.atspi_protocol.specs.exporting.Taking.{app_takes}
use Rattle.atspi_trace.specs.Entry.{Entry, sent, got}
use Rattle.atspi_trace.specs.World.{World}
use Rattle.atspi_trace.specs.Ends.{same_party, number_of, whose}
use Rattle.atspi_trace.specs.Carrying as carrying
use Rattle.atspi_trace.specs.Carrying.{Carried}
use Rattle.atspi_trace.specs.Causes.{Done}
use Rattle.atspi_trace_laws.specs.laws.Words.{messages}
use Rattle.atspi_trace_laws.specs.missed.Laws.{AreNamed}
use Rattle.atspi_trace_laws.proofs.OfOrder.Parties.{false_true, all_append}
use Rattle.atspi_trace_laws.proofs.OfOrder.Along.{Keeps}
use Rattle.atspi_trace_laws.proofs.OfOrder.Each.{all_map}
use Rattle.atspi_trace_laws.proofs.OfOrder.Growing.{Grows, Shaped, And, grown}
use Rattle.atspi_trace_laws.proofs.OfOrder.Effects.{received, RegistryTakes, Effect, resets, app_joins, reader_joins, app_edited, app_took, reader_called, swapped, exited_, showed_, told_busy, told_quiet, bus_took, bus_ended, registry_took, reader_took}
use Rattle.atspi_trace_laws.proofs.OfSerials.Serial.{messages_more}
use Rattle.atspi_trace_laws.proofs.OfHeard.Quiet.{heard_all}
use Rattle.atspi_trace_laws.proofs.OfSigned.Mail.{Called, called_more, IsMail}
use Rattle.atspi_trace_laws.proofs.OfSigned.LawMail.{Mail, taken_call}
use Rattle.atspi_trace_laws.proofs.OfMissed.Registering.{HasTold, AsTold, Under_told, told_keeps, NotRegistry, none_sent, all_sent, did_quiet, bus_quiet}

-- A REPLY, as it was sent
pub record IsAnswered (es : List Entry) (m : Envelope) : Type 0 where
  pub call : Envelope
  pub called : Called es call
  pub state : RegistryState
  pub names : AreNamed state.pairs
  pub own : List ℕ
  pub message : m ≡ record (reply_to called.caller call.serial (answer_to state own called.caller (asked (object_at call.path) call.interface call.member call.body)).reply) { serial = m.serial }

abbrev pub Answers : List Entry → Envelope → Type 0
Answers es m = is_reply m ≡ true → IsAnswered es m

abbrev pub Answering : List Entry → World → Type 0
Answering es w = AllByRecursion (Answers es) (messages es Registry)

unfoldable answered_more : (es ys : List Entry) (m : Envelope) → IsAnswered es m → IsAnswered (es ++ ys) m
unfolding called_more
answered_more es ys m i = record { call = i.call; called = called_more es ys i.call i.called; state = i.state; names = i.names; own = i.own; message = i.message }

-- ONE REPLY to a call
abbrev pub IsReplyOf : RegistryState → Envelope → Envelope → Type 0
IsReplyOf s e m = (own caller : List ℕ) × (e.sender ≡ Some caller) × (m ≡ record (reply_to caller e.serial (answer_to s own caller (asked (object_at e.path) e.interface e.member e.body)).reply) { serial = m.serial })

abbrev Among : Envelope → List Envelope → Type 0
Among m [] = ⊥
Among m (x ∷ xs) = (x ≡ m) ⊎ Among m xs

among_numbered : (n : ℕ) (before behind : List Envelope) (r : Envelope) → (k : ℕ) × Among (record r { serial = k }) (numbered n (before ++ (r ∷ behind)))
among_numbered n [] behind r = (n, inl refl)
among_numbered n (x ∷ xs) behind r = let y = among_numbered (n + 1) xs behind r in (y.0, inr y.1)

among_replies : (m : Envelope) (xs : List Envelope) → is_reply m ≡ true → Among m xs → Among m (filter is_reply xs)
among_replies m [] r a = a
among_replies m (x ∷ xs) r a = by (is_reply x) refl a (λ b. among_replies m xs r b)
  where
    by : (b : Bool) → is_reply x ≡ b → (x ≡ m) ⊎ Among m xs → (Among m xs → Among m (filter is_reply xs)) → Among m (if b then x ∷ filter is_reply xs else filter is_reply xs)
    by true g (inl same) f = inl same
    by true g (inr b) f = inr (f b)
    by false g (inl same) f = absurd (false_true (sym g ∙ ap is_reply same ∙ r))
    by false g (inr b) f = f b

reply_is : (caller : List ℕ) (serial : ℕ) (r : Reply) → is_reply (reply_to caller serial r) ≡ true
reply_is caller serial (returns values) = refl
reply_is caller serial (fails word) = refl

from_filter : (P : Envelope → Type 0) (xs : List Envelope) → AllByRecursion P (filter is_reply xs) → AllByRecursion (λ m. is_reply m ≡ true → P m) xs
from_filter P [] a = tt
from_filter P (x ∷ xs) a = by (is_reply x) refl a (λ q. from_filter P xs q)
  where
    by : (b : Bool) → is_reply x ≡ b → AllByRecursion P (if b then x ∷ filter is_reply xs else filter is_reply xs) → (AllByRecursion P (filter is_reply xs) → AllByRecursion (λ m. is_reply m ≡ true → P m) xs)
        → AllByRecursion (λ m. is_reply m ≡ true → P m) (x ∷ xs)
    by true h q ih = ((λ r. q.0), ih q.1)
    by false h q ih = ((λ r. absurd (false_true (sym h ∙ r))), ih q)

owned_is : (s : RegistryState) (e : Envelope) (own : List ℕ) → s.own ≡ Some own → registry_takes s e ≡ (if e.kind == 1 then called_by s own e e.sender else hears s (name_gone e))
owned_is s e own k = rw k refl

and_left : (a b : Bool) → (a && b) ≡ true → a ≡ true
and_left true b h = refl
and_left false b h = absurd (false_true h)

module _ (s : RegistryState) (e : Envelope) (own caller : List ℕ) (k : s.own ≡ Some own) (g : e.sender ≡ Some caller) (h : expects_reply e ≡ true) where
  abbrev a : Answer
  a = answer_to s own caller (asked (object_at e.path) e.interface e.member e.body)

  abbrev reply : Envelope
  reply = reply_to caller e.serial a.reply

  taken_is : (registry_takes s e).sent ≡ numbered s.next (a.before ++ (reply ∷ a.behind))
  taken_is =
      ap (λ (x : RegistryStep). x.sent) (owned_is s e own k ∙ ap (λ o. if e.kind == 1 then called_by s own e o else hears s (name_gone e)) g ∙ by (e.kind == 1) (and_left (e.kind == 1) (bit_and e.flags 1 == 0) h))
      ∙ ap (λ b. numbered s.next (a.before ++ ((if b then reply ∷ [] else []) ++ a.behind))) h
    where
      by : (b : Bool) → b ≡ true → (if b then called_by s own e (Some caller) else hears s (name_gone e)) ≡ called_by s own e (Some caller)
      by true t = refl
      by false t = absurd (false_true t)

  only_reply : AllByRecursion (IsReplyOf s e) (filter is_reply (registry_takes s e).sent)
  only_reply = subst (AllByRecursion (IsReplyOf s e)) (sym one.alone) ((own, caller, g, its), tt)
    where
      one : AreOneReply (replies_in (registry_takes s e).sent) caller e.serial
      one = once.expected s e own caller k g h

      at : (n : ℕ) × Among (record reply { serial = n }) (numbered s.next (a.before ++ (reply ∷ a.behind)))
      at = among_numbered s.next a.before a.behind reply

      alone : (x y : Envelope) → Among x (y ∷ []) → y ≡ x
      alone x y (inl same) = same
      alone x y (inr none) = absurd none

      same : one.reply ≡ record reply { serial = at.0 }
      same =
          alone (record reply { serial = at.0 }) one.reply
          (subst (Among (record reply { serial = at.0 })) one.alone
          (among_replies (record reply { serial = at.0 }) (registry_takes s e).sent (reply_is caller e.serial a.reply) (subst (Among (record reply { serial = at.0 })) (sym taken_is) at.1)))

      its : one.reply ≡ record reply { serial = one.reply.serial }
      its = same ∙ ap (λ n. record reply { serial = n }) (ap (λ (m : Envelope). m.serial) (sym same))

unnamed_is : (s : RegistryState) (e : Envelope) → s.own ≡ None → registry_takes s e ≡ named s (name_told s.hello e)
unnamed_is s e k = rw k refl

abbrev Only : RegistryState → Envelope → RegistryStep → Type 0
Only s e step = AllByRecursion (IsReplyOf s e) (filter is_reply step.sent)

pub registry_answers : (s : RegistryState) (e : Envelope) → AllByRecursion (λ m. is_reply m ≡ true → IsReplyOf s e m) (registry_takes s e).sent
registry_answers s e = from_filter (IsReplyOf s e) (registry_takes s e).sent (by (expects_reply e) refl s.own refl e.sender refl)
  where
    unnamed : (o : Option (List ℕ)) → Only s e (named s o)
    unnamed None = tt
    unnamed (Some name) = tt

    no_caller : (own : List ℕ) (b : Bool) → b ≡ true → Only s e (if b then called_by s own e None else hears s (name_gone e))
    no_caller own true h = tt
    no_caller own false h = absurd (false_true h)

    by : (b : Bool) → expects_reply e ≡ b → (own : Option (List ℕ)) → s.own ≡ own → (caller : Option (List ℕ)) → e.sender ≡ caller → Only s e (registry_takes s e)
    by false h own k caller g = subst (AllByRecursion (IsReplyOf s e)) (sym (once.unexpected s e h)) tt
    by true h None k caller g = subst (Only s e) (sym (unnamed_is s e k)) (unnamed (name_told s.hello e))
    by true h (Some own) k None g =
        subst (Only s e) (sym (owned_is s e own k ∙ ap (λ o. if e.kind == 1 then called_by s own e o else hears s (name_gone e)) g)) (no_caller own (e.kind == 1) (and_left (e.kind == 1) (bit_and e.flags 1 == 0) h))
    by true h (Some own) k (Some caller) g = only_reply s e own caller k g h

-- EACH CAUSE
unfoldable answers_more : (es ys : List Entry) (ms : List Envelope) → AllByRecursion (Answers es) ms → AllByRecursion (Answers (es ++ ys)) ms
answers_more es ys ms a = all_map (Answers es) (Answers (es ++ ys)) ms (λ m f r. answered_more es ys m (f r)) a

quietly : (es ys : List Entry) (w v : World) → AllByRecursion NotRegistry ys → Answering es w → Answering (es ++ ys) v
quietly es ys w v n i =
    subst (AllByRecursion (Answers (es ++ ys))) (sym (messages_more es ys Registry ∙ ap (λ l. messages es Registry ++ l) (none_sent ys n) ∙ append-nil (messages es Registry))) (answers_more es ys (messages es Registry) i)

-- entries of which none is the registry's, or the registry takes a message
pub registry_or : (w : World) (d : Done) → Effect w d → AllByRecursion NotRegistry d.entries ⊎ RegistryTakes w d
registry_or w d (resets quota old is) = inl (subst (λ x. AllByRecursion NotRegistry x.entries) (sym is) tt)
registry_or w d (app_joins name short is) = inl (subst (λ x. AllByRecursion NotRegistry x.entries) (sym is) (tt, (refl, tt)))
registry_or w d (reader_joins old is) = inl (subst (λ x. AllByRecursion NotRegistry x.entries) (sym is) (tt, (refl, tt)))
registry_or w d (app_edited b) = inl (subst (λ x. AllByRecursion NotRegistry x.entries) (sym b.is) (did_quiet _ b.after.out))
registry_or w d (app_took b) = inl (subst (λ x. AllByRecursion NotRegistry x.entries) (sym b.is) (tt, did_quiet _ (app_takes b.before b.letter.said.message).out))
registry_or w d (reader_called b) = inl (subst (λ x. AllByRecursion NotRegistry x.entries) (sym b.is) (ap (λ p. same_party p Registry) (ap whose b.is_here.there ∙ b.whose), tt))
registry_or w d (swapped b) = inl (subst (λ x. AllByRecursion NotRegistry x.entries) (sym b.is) tt)
registry_or w d (exited_ b) = inl (subst (λ x. AllByRecursion NotRegistry x.entries) (sym b.is) (tt, tt))
registry_or w d (showed_ b) = inl (subst (λ x. AllByRecursion NotRegistry x.entries) (sym b.is) (tt, tt))
registry_or w d (told_busy turns is) = inl (subst (λ x. AllByRecursion NotRegistry x.entries) (sym is) (tt, tt))
registry_or w d (told_quiet none is) = inl (subst (λ x. AllByRecursion NotRegistry x.entries) (sym is) (tt, tt))
registry_or w d (bus_took b) = inl (subst (λ x. AllByRecursion NotRegistry x.entries) (sym b.is) (tt, bus_quiet (carrying.takes (record { bus = w.bus; ends = w.ends }) b.conn b.e.who b.said)))
registry_or w d (bus_ended b) = inl (subst (λ x. AllByRecursion NotRegistry x.entries) (sym b.is) (bus_quiet (carrying.takes_end (record { bus = w.bus; ends = w.ends }) b.conn)))
registry_or w d (registry_took b) = inr b
registry_or w d (reader_took b) =
    inl (subst (λ x. AllByRecursion NotRegistry x.entries) (sym b.is)
    (tt, heard_all NotRegistry (λ r app line. tt) (λ r app. tt) (number_of b.e.who) b.hearer (received w b.conn b.e b.letter).ends b.letter))

pub registry_wrote : (w : World) (d : Done) (b : RegistryTakes w d) → messages d.entries Registry ≡ (registry_takes b.before b.letter.said.message).sent
registry_wrote w d b =
    ap (λ x. messages x.entries Registry) b.is
    ∙ ap (λ p. messages (got b.e.who b.letter.from b.letter.said.message.serial ∷ map (sent p) (registry_takes b.before b.letter.said.message).sent) Registry) b.whose ∙ all_sent (registry_takes b.before b.letter.said.message).sent

module _ (es : List Entry) (w : World) (d : Done) (mail : Mail es w) (told : AsTold es w) (b : RegistryTakes w d) where
  abbrev e0 : Envelope
  e0 = b.letter.said.message

  its_mail : IsMail es b.e.who b.letter
  its_mail = (subst (AllByRecursion (IsMail es b.e.who)) b.link (mail.downs b.conn b.e b.is_here.there b.is_here.standing)).0

  has : HasTold es b.before
  has = told.registry b.conn b.e b.before b.is_here.there b.role

  one_answer : (m : Envelope) → IsReplyOf b.before e0 m → IsAnswered es m
  one_answer m r =
      let c = taken_call es b.e.who b.letter r.1 its_mail r.2 in
      record {
        call = e0;
        called = c.0;
        state = b.before;
        names = has.names;
        own = r.0;
        message = subst (λ x. m ≡ record (reply_to x e0.serial (answer_to b.before r.0 x (asked (object_at e0.path) e0.interface e0.member e0.body)).reply) { serial = m.serial }) (sym c.1) r.3;
      }

  registry_kept : Answering es w → Answering (es ++ d.entries) d.world
  registry_kept i =
      subst (AllByRecursion (Answers (es ++ d.entries))) (sym (messages_more es d.entries Registry))
      (all_append (Answers (es ++ d.entries)) (messages es Registry) (messages d.entries Registry) (answers_more es d.entries (messages es Registry) i)
      (subst (AllByRecursion (Answers (es ++ d.entries))) (sym (registry_wrote w d b))
      (all_map (λ m. is_reply m ≡ true → IsReplyOf b.before e0 m) (Answers (es ++ d.entries)) (registry_takes b.before e0).sent (λ m f r. answered_more es d.entries m (one_answer m (f r))) (registry_answers b.before e0))))

caused : (es : List Entry) (w : World) (d : Done) → Mail es w → AsTold es w → Answering es w → AllByRecursion NotRegistry d.entries ⊎ RegistryTakes w d → Answering (es ++ d.entries) d.world
caused es w d mail told i (inl n) = quietly es d.entries w d.world n i
caused es w d mail told i (inr b) = registry_kept es w d mail told b i

abbrev pub Under_answering : List Entry → World → Type 0
Under_answering es w = And Under_told AsTold es w

answering_grows : Grows Under_answering Answering
answering_grows = record {
  begins = tt;
  caused = λ es w d s a i e after b. caused es w d a.0.1.0 a.1 i (registry_or w d e);
  moved = λ es w v s a i m. i;
  asked = λ es w conn r m question s a i asks. quietly es (sent (Reader r) m ∷ []) w w (refl, tt) i;
}

pub answering_keeps : Keeps (Shaped (And Under_answering Answering))
answering_keeps = grown Under_answering Answering told_keeps answering_grows
