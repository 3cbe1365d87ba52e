-- What ends hand out and take, step behind step.
use Rattle.std.proofs.Common.{◌≡◌, ℕ, ◌<◌, Option, List, [], ◌∷◌, ◌++◌, length, refl, sym, ap, subst, ◌∙◌, inl, inr, append_assoc, append-nil, arith}
use Rattle.std.proofs.lemmas.List.{length-append}
use Rattle.atspi_message.specs.Envelope.{Envelope}
use Rattle.atspi_message.specs.Rules.{MeetsRules}
use Rattle.atspi_message.specs.Bytes.{IsMessage, written}
use Rattle.atspi_stream.specs.Stream.{IsParted, AreMessages}
use Rattle.atspi_stream.specs.Stream as stream
use Rattle.atspi_stream.proofs.NextLaws.{history_more}
use Rattle.atspi_stream.proofs.StreamLaws.{message_states}
use Rattle.atspi_live_conversation.specs.Sent.{IsSent, AreSent, AllMeet}
use Rattle.atspi_live_conversation.specs.Speech.{envelopes}
use Rattle.atspi_types.specs.declared.fault.Fault.{Fault}
use Rattle.atspi_live_conversation.specs.Talking.{Takes, HandsOut, Rests, MaySpeak, Says, Attends, AttendsAll, AttendsToSpent, EndsIn}

-- the bytes of messages behind those of others
pub sent_more : (es fs : List Envelope) (bs cs : List ℕ) → AreSent es bs → AreSent fs cs → AreSent (es ++ fs) (bs ++ cs)
sent_more [] fs bs cs p q = subst (λ (w : List ℕ). AreSent fs w) (ap (λ (w : List ℕ). w ++ cs) (sym p)) q
sent_more (e ∷ es) fs bs cs p q = (
  p.0,
  p.1 ++ cs,
  p.2,
  sent_more es fs p.1 cs p.3 q,
  ap (λ (w : List ℕ). w ++ cs) p.4 ∙ append_assoc p.0 p.1 cs,
)

-- one message put behind some bytes
pub one_sent : (e : Envelope) (old new : List ℕ) → IsSent e old new → (front : List ℕ) × AreSent (e ∷ []) front × (new ≡ old ++ front)
one_sent e old new s = elim s [
  | inl p ↦ (written e, (written e, [], inl (p.0, refl), refl, sym (append-nil (written e))), p.1)
  | inr p ↦ ([], ([], [], inr (p.0, refl), refl, refl), p.1 ∙ sym (append-nil old))
]

pub says_none : {E : Type 0} (Stands : E → List Envelope → List Envelope → Type 0) (end : E) (unsent : List ℕ) → Says Stands end end unsent unsent
says_none Stands end unsent = record {
  messages = [];
  sent = [];
  spelled = refl;
  behind = sym (append-nil unsent);
  handed = λ took said s. subst (λ (w : List Envelope). Stands end took w) (sym (append-nil said)) s;
}

pub says_more : {E : Type 0} (Stands : E → List Envelope → List Envelope → Type 0) (old mid new : E) (u v w : List ℕ) (e : Envelope) → Says Stands old mid u v → HandsOut Stands mid new e → IsSent e v w → Says Stands old new u w
says_more Stands old mid new u v w e s h p =
    let one = one_sent e v w p in
    record {
      messages = s.messages ++ e ∷ [];
      sent = s.sent ++ one.0;
      spelled = sent_more s.messages (e ∷ []) s.sent one.0 s.spelled one.1;
      behind = one.2 ∙ ap (λ (x : List ℕ). x ++ one.0) s.behind ∙ append_assoc u s.sent one.0;
      handed = λ took said q. subst (λ (x : List Envelope). Stands new took x) (append_assoc said s.messages (e ∷ [])) (h took (said ++ s.messages) (s.handed took said q));
    }

pub says_rests : {E : Type 0} (Stands : E → List Envelope → List Envelope → Type 0) (old mid new : E) (u v w : List ℕ) → Says Stands old mid u v → Rests Stands mid new → w ≡ v → Says Stands old new u w
says_rests Stands old mid new u v w s r e = record {
  messages = s.messages;
  sent = s.sent;
  spelled = s.spelled;
  behind = e ∙ s.behind;
  handed = λ took said q. r took (said ++ s.messages) (s.handed took said q);
}

pub may_hand_out : {E : Type 0} (Stands : List ℕ → E → List Envelope → List Envelope → Type 0) (old new : E) (e : List ℕ → Envelope) → MaySpeak Stands old
    → ((aside : List ℕ) → HandsOut (Stands aside) old new (e aside)) → MaySpeak Stands new
may_hand_out Stands old new e m h = record { aside = m.aside; took = m.took; said = m.said ++ e m.aside ∷ []; stands = h m.aside m.took m.said m.stands; meet = m.meet }

pub may_rest : {E : Type 0} (Stands : List ℕ → E → List Envelope → List Envelope → Type 0) (old new : E) → MaySpeak Stands old → ((aside : List ℕ) → Rests (Stands aside) old new) → MaySpeak Stands new
may_rest Stands old new m r = record { aside = m.aside; took = m.took; said = m.said; stands = r m.aside m.took m.said m.stands; meet = m.meet }

pub may_say : {E : Type 0} (Stands : List ℕ → E → List Envelope → List Envelope → Type 0) (old new : E) (u v : List ℕ) → MaySpeak Stands old → ((aside : List ℕ) → Says (Stands aside) old new u v) → MaySpeak Stands new
may_say Stands old new u v m h =
    let s = h m.aside in
    record { aside = m.aside; took = m.took; said = m.said ++ s.messages; stands = s.handed m.took m.said m.stands; meet = m.meet }

-- messages of a stream meet the rules
pub all_meet : (ms : List (Envelope × List ℕ)) → AreMessages ms → AllMeet (envelopes ms)
all_meet [] a = tt
all_meet (m ∷ ms) a = (a.0.meets, all_meet ms a.1)

pub meet_both : (es fs : List Envelope) → AllMeet es → AllMeet fs → AllMeet (es ++ fs)
meet_both [] fs a b = b
meet_both (e ∷ es) fs a b = (a.0, meet_both es fs a.1 b)

pub may_take : {E : Type 0} (Stands : List ℕ → E → List Envelope → List Envelope → Type 0) (old new : E) (e : Envelope) → MaySpeak Stands old → ((aside : List ℕ) → Takes (Stands aside) old new e) → MeetsRules e → MaySpeak Stands new
may_take Stands old new e m t meets = record {
  aside = m.aside;
  took = m.took ++ e ∷ [];
  said = m.said;
  stands = t m.aside m.took m.said m.stands;
  meet = meet_both m.took (e ∷ []) m.meet (meets, tt);
}

pub may_attend : {E : Type 0} (Stands : List ℕ → E → List Envelope → List Envelope → Type 0) (held held' : List ℕ) (old new : E) → MaySpeak Stands old → ((aside : List ℕ) → Attends (Stands aside) held held' old new) → MaySpeak Stands new
may_attend Stands held held' old new m h =
    let a = h m.aside in
    record {
      aside = m.aside;
      took = m.took ++ envelopes a.messages;
      said = m.said;
      stands = a.took m.took m.said m.stands;
      meet = meet_both m.took (envelopes a.messages) m.meet (all_meet a.messages a.parted.are);
    }

pub envelopes_both : (ms ns : List (Envelope × List ℕ)) → envelopes (ms ++ ns) ≡ envelopes ms ++ envelopes ns
envelopes_both [] ns = refl
envelopes_both (m ∷ ms) ns = ap (λ (w : List Envelope). m.0 ∷ w) (envelopes_both ms ns)

pub attends_none : {E : Type 0} (Stands : E → List Envelope → List Envelope → Type 0) (held : List ℕ) (end : E) → Attends Stands held held end end
attends_none Stands held end = record {
  messages = [];
  parted = record { are = tt; parted = refl };
  took = λ took said s. subst (λ (w : List Envelope). Stands end w said) (sym (append-nil took)) s;
}

-- one message more
pub attends_more : {E : Type 0} (Stands : E → List Envelope → List Envelope → Type 0) (held mid new : List ℕ) (old end end' : E) (e : Envelope) (bytes : List ℕ) → Attends Stands held mid old end → IsMessage e bytes → mid ≡ bytes ++ new → Takes Stands end end' e → Attends Stands held new old end'
attends_more Stands held mid new old end end' e bytes a is split t = record {
  messages = a.messages ++ (e, bytes) ∷ [];
  parted = history_more held a.messages e bytes mid new a.parted is split;
  took = λ took said s. subst (λ (w : List Envelope). Stands end' w said)
      (append_assoc took (envelopes a.messages) (e ∷ []) ∙ ap (λ (w : List Envelope). took ++ w) (sym (envelopes_both a.messages ((e, bytes) ∷ []))))
      (t (took ++ envelopes a.messages) said (a.took took said s));
}

-- what is held was messages, and what came behind it
are_both : (ms ns : List (Envelope × List ℕ)) → AreMessages ms → AreMessages ns → AreMessages (ms ++ ns)
are_both [] ns a b = b
are_both (m ∷ ms) ns a b = (a.0, are_both ms ns a.1 b)

bytes_both : (ms ns : List (Envelope × List ℕ)) → stream.bytes_of (ms ++ ns) ≡ stream.bytes_of ms ++ stream.bytes_of ns
bytes_both [] ns = refl
bytes_both (m ∷ ms) ns = ap (λ (bs : List ℕ). m.1 ++ bs) (bytes_both ms ns) ∙ sym (append_assoc m.1 (stream.bytes_of ms) (stream.bytes_of ns))

pub parted_both : (read held new : List ℕ) (ms ns : List (Envelope × List ℕ)) → IsParted read ms held → IsParted held ns new → IsParted read (ms ++ ns) new
parted_both read held new ms ns a b = record {
  are = are_both ms ns a.are b.are;
  parted = a.parted ∙ ap (λ (bs : List ℕ). stream.bytes_of ms ++ bs) b.parted ∙ sym (append_assoc (stream.bytes_of ms) (stream.bytes_of ns) new) ∙ ap (λ (bs : List ℕ). bs ++ new) (sym (bytes_both ms ns));
}

-- all that were whole, where nothing else was given
pub attends_all : {E : Type 0} (Stands : E → List Envelope → List Envelope → Type 0) (fault : Option Fault) (held mid new : List ℕ) (old end : E) → Attends Stands held mid old end → new ≡ mid → EndsIn fault mid → AttendsAll Stands fault held new old end
attends_all Stands fault held mid new old end a same e = record {
  attends = subst (λ (w : List ℕ). Attends Stands held w old end) (sym same) a;
  ends = subst (λ (w : List ℕ). EndsIn fault w) (sym same) e;
}

pub attends_to_spent : {E : Type 0} (Stands : E → List Envelope → List Envelope → Type 0) (IsSpent : E → Envelope → Type 0) (held mid new : List ℕ) (old end end' : E) (e : Envelope) (bytes : List ℕ)
    → Attends Stands held mid old end → IsMessage e bytes → mid ≡ bytes ++ new → IsSpent end e → Rests Stands end end' → AttendsToSpent Stands IsSpent held old end'
attends_to_spent Stands IsSpent held mid new old end end' e bytes a is split s r = record {
  message = e;
  bytes = bytes;
  rest = new;
  is = is;
  end = end;
  attends = subst (λ (w : List ℕ). Attends Stands held w old end) split a;
  spent = s;
  rests = r;
}

-- a message takes bytes
pub shorter : (e : Envelope) (bytes old new : List ℕ) → IsMessage e bytes → old ≡ bytes ++ new → length new < length old
shorter e bytes old new is split =
    let states = message_states e bytes is in
    omega (arith, states.long, ap (λ (w : List ℕ). length w) split, length-append bytes new)

-- no message stands in no bytes
pub none_parted : (bytes rest : List ℕ) (messages : List (Envelope × List ℕ)) → bytes ≡ [] → IsParted bytes messages rest → messages ≡ []
none_parted bytes rest [] none p = refl
none_parted bytes rest (m ∷ messages) none p =
    absurd (too_long (shorter m.0 m.1 [] (stream.bytes_of messages ++ rest) p.are.0 (sym none ∙ p.parted ∙ append_assoc m.1 (stream.bytes_of messages) rest)))
  where
    too_long : length (stream.bytes_of messages ++ rest) < 0 → ⊥
    too_long h = omega (arith, h)
