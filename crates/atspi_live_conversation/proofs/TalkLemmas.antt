-- A conversation that goes on keeps what is known of it, and what was given in it is a front of what is said for what was taken.
use Rattle.std.proofs.Common.{◌≡◌, ℕ, ◌+◌, ◌-◌, List, [], ◌∷◌, ◌++◌, length, None, Some, refl, sym, ap, subst, ◌∙◌, inl, inr, append_assoc, append-nil, arith, lit<}
use Rattle.std.proofs.lemmas.List.{length-append}
use Rattle.atspi_auth.specs.Talk.{Heard, Standing, Stands, after, behind, client_start, fault_in, told}
use Rattle.atspi_auth.specs.declared.said.AuthLine.{AuthLine}
use Rattle.atspi_auth.specs.declared.stage.Stage.{Stage}
use Rattle.atspi_auth.specs.declared.stage.Stage.TheVariants.{Over}
use Rattle.atspi_auth.proofs.LawLemmas.{behind_fault, client_stands}
use Rattle.atspi_auth.proofs.WholeLemmas.{after-append, behind-append, continues}
use Rattle.atspi_types.specs.declared.fault.Fault.{Fault}
use Rattle.atspi_message.specs.Envelope.{Envelope}
use Rattle.atspi_stream.specs.Stream.{AwaitsMore, few, HasFault, IsParted}
use Rattle.atspi_stream.specs.Stream as stream
use Rattle.atspi_stream.proofs.NextLaws.{takes_piece}
use Rattle.atspi_live_conversation.specs.Sent.{AreSent}
use Rattle.atspi_live_conversation.specs.Speech.{IsSpeech, IsInOrder, IsMalformed, IsRefused, IsSpentBy, envelopes, line_bytes, lines_for}
use Rattle.atspi_live_conversation.specs.Talking.{Converses, IsAtEase, Attends, AttendsAll, AttendsToSpent, Says}
use Rattle.atspi_live_conversation.specs.declared.conversation.Conversation.{Conversation}
use Rattle.atspi_live_conversation.proofs.SentLemmas.{sent_more, envelopes_both, none_parted, parted_both}
use Rattle.atspi_live_conversation.proofs.LineLemmas.{line_bytes_both, none_behind, over_goes_on}

-- a client that heard these bytes: its stage, and the lines that it said and has to say
pub stage_after : (t : List ℕ) (lines : List AuthLine) (now : Standing) → Stands client_start t lines now → now.stage ≡ (after client_start t).stage
stage_after t lines now s = ap (λ (n : Standing). n.stage) s

pub lines_after : (t : List ℕ) (lines : List AuthLine) (now : Standing) → Stands client_start t lines now → lines ++ now.unsent ≡ lines_for t
lines_after t lines now s = ap (λ (n : Standing). n.unsent) s

-- a client by its parts
abbrev standing : Stage → List ℕ → List AuthLine → Standing
standing s l u = record { stage = s; line = l; unsent = u }

none_sent : (said : List Envelope) (sent : List ℕ) → said ≡ [] → AreSent said sent → sent ≡ []
none_sent said sent e a = subst (λ (w : List Envelope). AreSent w sent) e a

-- text of a list behind which nothing stands
behind_none : (xs ys zs : List ℕ) → ys ≡ [] → (xs ++ ys) ++ zs ≡ (xs ++ zs) ++ ys
behind_none xs ys zs e =
    ap (λ (w : List ℕ). (xs ++ w) ++ zs) e ∙ ap (λ (w : List ℕ). w ++ zs) (append-nil xs) ∙ sym (append-nil (xs ++ zs)) ∙ ap (λ (w : List ℕ). (xs ++ zs) ++ w) (sym e)

-- what was given and what waits is what was said, and behind it more lines may come
with_lines : (g unsent sent : List ℕ) (ls ms all : List AuthLine) → g ++ unsent ≡ line_bytes ls ++ sent → ls ++ ms ≡ all → sent ≡ [] → g ++ (unsent ++ line_bytes ms) ≡ line_bytes all ++ sent
with_lines g unsent sent ls ms all e l n =
    sym (append_assoc g unsent (line_bytes ms))
    ∙ ap (λ (w : List ℕ). w ++ line_bytes ms) e
    ∙ behind_none (line_bytes ls) sent (line_bytes ms) n
    ∙ ap (λ (w : List ℕ). w ++ sent) (sym (line_bytes_both ls ms) ∙ ap (λ (w : List AuthLine). line_bytes w) l)

pub speech_of : {E : Type 0} (Stands' : E → List Envelope → List Envelope → Type 0) (t g : List ℕ) (c : Conversation) (end : E) → Converses Stands' t g c end → IsSpeech Stands' t g
speech_of Stands' t g c end v = elim v.order [
  | inl e ↦
      record {
        messages = v.messages;
        rest = c.feeder;
        parted = v.parted;
        end = end;
        said = v.said;
        stands = v.end_stands;
        sent = v.sent;
        spelled = v.spelled;
        over = inl e;
        more = c.unsent ++ line_bytes c.client.unsent;
        front = with_lines g c.unsent v.sent v.lines c.client.unsent (lines_for t) v.all (lines_after t v.lines c.client v.client_stands) (none_sent v.said v.sent e v.spelled);
      }
  | inr e ↦
      record {
        messages = v.messages;
        rest = c.feeder;
        parted = v.parted;
        end = end;
        said = v.said;
        stands = v.end_stands;
        sent = v.sent;
        spelled = v.spelled;
        over = inr (sym (stage_after t v.lines c.client v.client_stands) ∙ e.0);
        more = c.unsent;
        front = v.all ∙ ap (λ (w : List AuthLine). line_bytes w ++ v.sent) (sym (append-nil v.lines) ∙ ap (λ (w : List AuthLine). v.lines ++ w) (sym e.1) ∙ lines_after t v.lines c.client v.client_stands);
      }
]

-- the lines for more bytes
lines_more : (t piece : List ℕ) → lines_for t ++ (told (after client_start t) piece).said ≡ lines_for (t ++ piece)
lines_more t piece = ap (λ (n : Standing). n.unsent) (after-append client_start t piece)

stage_more : (t piece : List ℕ) → (after (after client_start t) piece).stage ≡ (after client_start (t ++ piece)).stage
stage_more t piece = ap (λ (n : Standing). n.stage) (after-append client_start t piece)

parted_more : (t piece p held held' : List ℕ) (ms : List (Envelope × List ℕ)) → p ≡ behind (after client_start t) piece → held' ≡ held ++ p → IsParted (behind client_start t) ms held → IsParted (behind client_start (t ++ piece)) ms held'
parted_more t piece p held held' ms e h q =
    subst (λ (w : List ℕ). IsParted w ms held') (ap (λ (w : List ℕ). behind client_start t ++ w) e ∙ sym (behind-append client_start t piece))
    (takes_piece held p held' h (behind client_start t) ms q)

-- messages at the front stay there where more bytes come
pub parted_later : (t piece held : List ℕ) (ms : List (Envelope × List ℕ)) → IsParted (behind client_start t) ms held → (held' : List ℕ) × IsParted (behind client_start (t ++ piece)) ms held'
parted_later t piece held ms q =
    let p : List ℕ = behind (after client_start t) piece in
    (held ++ p, parted_more t piece p held (held ++ p) ms refl refl q)

-- what was given is a front of what is said for more bytes, too
pub speech_more : {E : Type 0} (Stands' : E → List Envelope → List Envelope → Type 0) (t piece g : List ℕ) → IsSpeech Stands' t g → IsSpeech Stands' (t ++ piece) g
speech_more Stands' t piece g s =
    let now : Standing = after client_start t in
    let rest : List ℕ = s.rest ++ behind now piece in
    let parted : IsParted (behind client_start (t ++ piece)) s.messages rest = parted_more t piece (behind now piece) s.rest rest s.messages refl refl s.parted in
    elim s.over [
      | inl e ↦
          record {
            messages = s.messages;
            rest = rest;
            parted = parted;
            end = s.end;
            said = s.said;
            stands = s.stands;
            sent = s.sent;
            spelled = s.spelled;
            over = inl e;
            more = s.more ++ line_bytes (told now piece).said;
            front = with_lines g s.more s.sent (lines_for t) (told now piece).said (lines_for (t ++ piece)) s.front (lines_more t piece) (none_sent s.said s.sent e s.spelled);
          }
      | inr e ↦
          let stays = over_goes_on now piece e in
          record {
            messages = s.messages;
            rest = rest;
            parted = parted;
            end = s.end;
            said = s.said;
            stands = s.stands;
            sent = s.sent;
            spelled = s.spelled;
            over = inr (sym (stage_more t piece) ∙ stays.0);
            more = s.more;
            front = s.front ∙ ap (λ (w : List AuthLine). line_bytes w ++ s.sent) (sym (append-nil (lines_for t)) ∙ ap (λ (w : List AuthLine). lines_for t ++ w) (sym stays.1) ∙ lines_more t piece);
          }
    ]

-- what a client that stands for these bytes hears in a piece
told_same : (t piece : List ℕ) (lines : List AuthLine) (now : Standing) → Stands client_start t lines now → told now piece ≡ told (after client_start t) piece
told_same t piece lines now s = ap (λ (n : Standing). told n piece) s

-- a piece was heard
pub heard_on : {E : Type 0} (Stands' : E → List Envelope → List Envelope → Type 0) (t g piece : List ℕ) (c c' : Conversation) (end : E) → Converses Stands' t g c end
    → c'.client ≡ after c.client piece → c'.feeder ≡ c.feeder ++ behind c.client piece → c'.heard ≡ c.heard + length (behind c.client piece) → c'.unsent ≡ c.unsent
    → Converses Stands' (t ++ piece) g c' end
heard_on Stands' t g piece c c' end v client feeder heard unsent =
    let p : List ℕ = behind c.client piece in
    let same : p ≡ behind (after client_start t) piece = ap (λ (h : Heard). h.behind) (told_same t piece v.lines c.client v.client_stands) in
    record {
      lines = v.lines;
      messages = v.messages;
      said = v.said;
      sent = v.sent;
      client_stands = continues client_start c.client c'.client piece client t v.lines v.client_stands;
      parted = parted_more t piece p c.feeder c'.feeder v.messages same feeder v.parted;
      heard = heard ∙ ap (λ (n : ℕ). n + length p) v.heard ∙ sym (length-append (behind client_start t) p)
          ∙ ap (λ (w : List ℕ). length (behind client_start t ++ w)) same ∙ ap (λ (w : List ℕ). length w) (sym (behind-append client_start t piece));
      end_stands = v.end_stands;
      spelled = v.spelled;
      all = ap (λ (w : List ℕ). g ++ w) unsent ∙ v.all;
      order = elim v.order [
        | inl e ↦ inl e
        | inr e ↦
            let stays = over_goes_on c.client piece e.0 in
            inr (
              ap (λ (n : Standing). n.stage) client ∙ stays.0,
              ap (λ (n : Standing). n.unsent) client ∙ ap (λ (w : List AuthLine). c.client.unsent ++ w) stays.1 ∙ append-nil c.client.unsent ∙ e.1,
            )
      ];
    }

-- the end took messages that were held
pub attended : {E : Type 0} (Stands' : E → List Envelope → List Envelope → Type 0) (t g : List ℕ) (c c' : Conversation) (end end' : E) → Converses Stands' t g c end
    → Attends Stands' c.feeder c'.feeder end end' → c'.client ≡ c.client → c'.unsent ≡ c.unsent → c'.heard ≡ c.heard
    → Converses Stands' t g c' end'
attended Stands' t g c c' end end' v a client unsent heard = record {
  lines = v.lines;
  messages = v.messages ++ a.messages;
  said = v.said;
  sent = v.sent;
  client_stands = subst (λ (n : Standing). Stands client_start t v.lines n) (sym client) v.client_stands;
  parted = parted_both (behind client_start t) c.feeder c'.feeder v.messages a.messages v.parted a.parted;
  heard = heard ∙ v.heard;
  end_stands = subst (λ (w : List Envelope). Stands' end' w v.said) (sym (envelopes_both v.messages a.messages)) (a.took (envelopes v.messages) v.said v.end_stands);
  spelled = v.spelled;
  all = ap (λ (w : List ℕ). g ++ w) unsent ∙ v.all;
  order = elim v.order [
    | inl e ↦ inl e
    | inr e ↦ inr (ap (λ (n : Standing). n.stage) client ∙ e.0, ap (λ (n : Standing). n.unsent) client ∙ e.1)
  ];
}

-- the lines that were to be said wait to be given
pub lines_said : {E : Type 0} (Stands' : E → List Envelope → List Envelope → Type 0) (t g : List ℕ) (c c' : Conversation) (end : E) → Converses Stands' t g c end
    → c'.unsent ≡ c.unsent ++ line_bytes c.client.unsent → c'.client.unsent ≡ [] → c'.client.stage ≡ c.client.stage → c'.client.line ≡ c.client.line → c'.feeder ≡ c.feeder → c'.heard ≡ c.heard
    → Converses Stands' t g c' end
lines_said Stands' t g c c' end v unsent none stage line feeder heard =
    let lines : List AuthLine = v.lines ++ c.client.unsent in
    let all : lines ++ c'.client.unsent ≡ lines = ap (λ (w : List AuthLine). lines ++ w) none ∙ append-nil lines in
    record {
      lines = lines;
      messages = v.messages;
      said = v.said;
      sent = v.sent;
      client_stands = same_standing c'.client.stage c.client.stage c'.client.line c.client.line (lines ++ c'.client.unsent) lines stage line all ∙ v.client_stands;
      parted = subst (λ (w : List ℕ). IsParted (behind client_start t) v.messages w) (sym feeder) v.parted;
      heard = heard ∙ v.heard;
      end_stands = v.end_stands;
      spelled = v.spelled;
      all = ap (λ (w : List ℕ). g ++ w) unsent ∙ elim v.order [
        | inl e ↦ with_lines g c.unsent v.sent v.lines c.client.unsent lines v.all refl (none_sent v.said v.sent e v.spelled)
        | inr e ↦
            ap (λ (w : List AuthLine). g ++ (c.unsent ++ line_bytes w)) e.1 ∙ ap (λ (w : List ℕ). g ++ w) (append-nil c.unsent) ∙ v.all
            ∙ ap (λ (w : List AuthLine). line_bytes w ++ v.sent) (sym (append-nil v.lines) ∙ ap (λ (w : List AuthLine). v.lines ++ w) (sym e.1))
      ];
      order = elim v.order [
        | inl e ↦ inl e
        | inr e ↦ inr (stage ∙ e.0, none)
      ];
    }
  where
    same_standing : (s r : Stage) (l k : List ℕ) (u w : List AuthLine) → s ≡ r → l ≡ k → u ≡ w → standing s l u ≡ standing r k w
    same_standing s r l k u w a b d = ap (λ (x : Stage). standing x l u) a ∙ ap (λ (x : List ℕ). standing r x u) b ∙ ap (λ (x : List AuthLine). standing r k x) d

-- more messages of the end wait to be given
pub said_more : {E : Type 0} (Stands' : E → List Envelope → List Envelope → Type 0) (t g : List ℕ) (c c' : Conversation) (end end' : E) → Converses Stands' t g c end
    → c.client.stage ≡ Over → c.client.unsent ≡ [] → Says Stands' end end' c.unsent c'.unsent → c'.client ≡ c.client → c'.feeder ≡ c.feeder → c'.heard ≡ c.heard
    → Converses Stands' t g c' end'
said_more Stands' t g c c' end end' v over none s client feeder heard = record {
  lines = v.lines;
  messages = v.messages;
  said = v.said ++ s.messages;
  sent = v.sent ++ s.sent;
  client_stands = subst (λ (n : Standing). Stands client_start t v.lines n) (sym client) v.client_stands;
  parted = subst (λ (w : List ℕ). IsParted (behind client_start t) v.messages w) (sym feeder) v.parted;
  heard = heard ∙ v.heard;
  end_stands = s.handed (envelopes v.messages) v.said v.end_stands;
  spelled = sent_more v.said s.messages v.sent s.sent v.spelled s.spelled;
  all = ap (λ (w : List ℕ). g ++ w) s.behind ∙ sym (append_assoc g c.unsent s.sent) ∙ ap (λ (w : List ℕ). w ++ s.sent) v.all ∙ append_assoc (line_bytes v.lines) v.sent s.sent;
  order = inr (ap (λ (n : Standing). n.stage) client ∙ over, ap (λ (n : Standing). n.unsent) client ∙ none);
}

-- some of the bytes that waited were given
pub given_on : {E : Type 0} (Stands' : E → List Envelope → List Envelope → Type 0) (t g part : List ℕ) (c c' : Conversation) (end : E) → Converses Stands' t g c end
    → part ++ c'.unsent ≡ c.unsent → c'.client ≡ c.client → c'.feeder ≡ c.feeder → c'.heard ≡ c.heard
    → Converses Stands' t (g ++ part) c' end
given_on Stands' t g part c c' end v rest client feeder heard = record {
  lines = v.lines;
  messages = v.messages;
  said = v.said;
  sent = v.sent;
  client_stands = subst (λ (n : Standing). Stands client_start t v.lines n) (sym client) v.client_stands;
  parted = subst (λ (w : List ℕ). IsParted (behind client_start t) v.messages w) (sym feeder) v.parted;
  heard = heard ∙ v.heard;
  end_stands = v.end_stands;
  spelled = v.spelled;
  all = append_assoc g part c'.unsent ∙ ap (λ (w : List ℕ). g ++ w) rest ∙ v.all;
  order = elim v.order [
    | inl e ↦ inl e
    | inr e ↦ inr (ap (λ (n : Standing). n.stage) client ∙ e.0, ap (λ (n : Standing). n.unsent) client ∙ e.1)
  ];
}

-- nothing of what was taken is at fault
pub in_order : {E : Type 0} (Stands' : E → List Envelope → List Envelope → Type 0) (t g : List ℕ) (c : Conversation) (end : E) → IsAtEase Stands' t g c end → IsInOrder Stands' t
in_order Stands' t g c end a = record {
  authenticated = ap (λ (s : Stage). fault_in s) (sym (stage_after t a.converses.lines c.client a.converses.client_stands)) ∙ a.authenticated;
  messages = a.converses.messages;
  rest = c.feeder;
  parted = a.converses.parted;
  awaits = a.awaits;
  end = end;
  said = a.converses.said;
  stands = a.converses.end_stands;
}

-- a message is at fault
pub malformed : {E : Type 0} (Stands' : E → List Envelope → List Envelope → Type 0) (t g held : List ℕ) (start : ℕ) (f : Fault) (c : Conversation) (end end' : E) → Converses Stands' t g c end
    → AttendsAll Stands' (Some f) c.feeder held end end' → start ≡ c.heard - length held → IsMalformed Stands' t start f.place f.reason
malformed Stands' t g held start f c end end' v a s =
    let ms : List (Envelope × List ℕ) = v.messages ++ a.attends.messages in
    let p : IsParted (behind client_start t) ms held = parted_both (behind client_start t) c.feeder held v.messages a.attends.messages v.parted a.attends.parted in
    record {
      messages = ms;
      rest = held;
      parted = p;
      fault = a.ends;
      before = omega (arith, s, v.heard, ap (λ (w : List ℕ). length w) p.parted, length-append (stream.bytes_of ms) held);
      end = end';
      said = v.said;
      stands = subst (λ (w : List Envelope). Stands' end' w v.said) (sym (envelopes_both v.messages a.attends.messages)) (a.attends.took (envelopes v.messages) v.said v.end_stands);
    }

-- the end's messages are spent
pub spent : {E : Type 0} (Stands' : E → List Envelope → List Envelope → Type 0) (IsSpent : E → Envelope → Type 0) (t g : List ℕ) (c : Conversation) (end end' : E) → Converses Stands' t g c end
    → AttendsToSpent Stands' IsSpent c.feeder end end' → IsSpentBy Stands' IsSpent t
spent Stands' IsSpent t g c end end' v a = record {
  messages = v.messages ++ a.attends.messages;
  message = a.message;
  bytes = a.bytes;
  rest = a.rest;
  parted = parted_both (behind client_start t) c.feeder (a.bytes ++ a.rest) v.messages a.attends.messages v.parted a.attends.parted;
  is = a.is;
  end = a.end;
  said = v.said;
  stands = subst (λ (w : List Envelope). Stands' a.end w v.said) (sym (envelopes_both v.messages a.attends.messages)) (a.attends.took (envelopes v.messages) v.said v.end_stands);
  spent = a.spent;
}

-- the lines of authentication are at fault
pub at_fault : (t piece : List ℕ) (lines : List AuthLine) (now : Standing) → Stands client_start t lines now → (fault_in (told now piece).stage ≡ None → ⊥) → fault_in (after client_start (t ++ piece)).stage ≡ None → ⊥
at_fault t piece lines now s faulty e =
    faulty (ap (λ (h : Heard). fault_in h.stage) (told_same t piece lines now s) ∙ ap (λ (s : Stage). fault_in s) (stage_more t piece) ∙ e)

front_none : (xs ys : List ℕ) → xs ++ ys ≡ [] → xs ≡ []
front_none [] ys e = refl
front_none (x ∷ xs) ys e = absurd cc

-- no byte stood behind them, and so the end took no message
pub took_none : {E : Type 0} (Stands' : E → List Envelope → List Envelope → Type 0) (t g piece : List ℕ) (c : Conversation) (end : E) (v : Converses Stands' t g c end)
    → (fault_in (told c.client piece).stage ≡ None → ⊥) → Stands' end [] v.said
took_none Stands' t g piece c end v faulty =
    let bare : behind client_start t ++ behind (after client_start t) piece ≡ [] =
    sym (behind-append client_start t piece) ∙ behind_fault client_start (t ++ piece) (at_fault t piece v.lines c.client v.client_stands faulty) in
    let none : v.messages ≡ [] = none_parted (behind client_start t) c.feeder v.messages (front_none (behind client_start t) (behind (after client_start t) piece) bare) v.parted in
    subst (λ (ms : List (Envelope × List ℕ)). Stands' end (envelopes ms) v.said) none v.end_stands

pub refused : {E : Type 0} (Stands' : E → List Envelope → List Envelope → Type 0) (t g piece : List ℕ) (c : Conversation) (end : E) → Converses Stands' t g c end
    → (fault_in (told c.client piece).stage ≡ None → ⊥) → IsRefused Stands' (t ++ piece)
refused Stands' t g piece c end v faulty = record {
  at_fault = at_fault t piece v.lines c.client v.client_stands faulty;
  end = end;
  said = v.said;
  stands = took_none Stands' t g piece c end v faulty;
}

-- at the beginning
pub begins : {E : Type 0} (Stands' : E → List Envelope → List Envelope → Type 0) (c : Conversation) (end : E) → c.client ≡ client_start → c.feeder ≡ [] → c.unsent ≡ [] → c.heard ≡ 0 → Stands' end [] []
    → IsAtEase Stands' [] [] c end
begins Stands' c end client feeder unsent heard stands = record {
  converses = record {
    lines = [];
    messages = [];
    said = [];
    sent = [];
    client_stands = subst (λ (n : Standing). Stands client_start [] [] n) (sym client) client_stands;
    parted = record { are = tt; parted = none_behind ∙ sym feeder };
    heard = heard ∙ ap (λ (w : List ℕ). length w) (sym none_behind);
    end_stands = stands;
    spelled = refl;
    all = unsent;
    order = inl refl;
  };
  authenticated = ap (λ (n : Standing). fault_in n.stage) client;
  awaits = subst (λ (w : List ℕ). AwaitsMore w) (sym feeder) (few (lit< tt));
}
