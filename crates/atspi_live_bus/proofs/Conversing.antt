-- What was heard and said on a link, step behind step.
use Rattle.std.proofs.Common.{◌≡◌, ◌<◌, ℕ, List, [], ◌∷◌, ◌++◌, length, None, Some, refl, sym, ap, subst, ◌∙◌, inl, inr, append_assoc, append-nil, length-append, arith}
use Rattle.atspi_auth.specs.Lines.{lines_of}
use Rattle.atspi_auth.specs.Said.{bytes_of}
use Rattle.atspi_auth.specs.Talk.{HandsOut, Heard, Refuses, Standing, Stands, after, behind, ends, fault_in, heard, hears, hears_bytes, server_start, told}
use Rattle.atspi_auth.specs.declared.fault.AuthFault.{AuthFault}
use Rattle.atspi_auth.specs.declared.fault.AuthFault.TheVariants as faults
use Rattle.atspi_auth.specs.declared.said.AuthLine.{AuthLine}
use Rattle.atspi_auth.specs.declared.stage.Stage.TheVariants.{Over}
use Rattle.atspi_auth.proofs.WholeLemmas.{after-append, behind-append, continues}
use Rattle.atspi_message.specs.Envelope.{Envelope}
use Rattle.atspi_message.specs.Bytes.{IsMessage}
use Rattle.atspi_stream.specs.Stream.{IsParted}
use Rattle.atspi_stream.proofs.NextLaws.{history_more, takes_piece}
use Rattle.atspi_stream.proofs.StreamLaws.{message_states}
use Rattle.atspi_live_host.specs.declared.call.Did.{Did}
use Rattle.atspi_live_bus.specs.Closes.{IsLost}
use Rattle.atspi_live_bus.specs.inner.Rounds.{GoesOn}
use Rattle.atspi_live_bus.specs.Service.{IsSpeech, envelopes, line_bytes, lines_for}
use Rattle.atspi_live_bus.specs.Turns.{Converses}
use Rattle.atspi_live_bus.specs.declared.link.Link.{Link}

line_bytes_both : (ls ms : List AuthLine) → line_bytes (ls ++ ms) ≡ line_bytes ls ++ line_bytes ms
line_bytes_both [] ms = refl
line_bytes_both (l ∷ ls) ms = ap (λ (w : List ℕ). bytes_of l ++ w) (line_bytes_both ls ms) ∙ sym (append_assoc (bytes_of l) (line_bytes ls) (line_bytes ms))

envelopes_both : (ms ns : List (Envelope × List ℕ)) → envelopes (ms ++ ns) ≡ envelopes ms ++ envelopes ns
envelopes_both [] ns = refl
envelopes_both (m ∷ ms) ns = ap (λ (w : List Envelope). m.0 ∷ w) (envelopes_both ms ns)

-- where the lines are over, they stay over, and no more are said
over_goes_on : (now : Standing) (bytes : List ℕ) → now.stage ≡ Over → ((after now bytes).stage ≡ Over) × ((told now bytes).said ≡ [])
unfolding heard
over_goes_on now bytes e =
    let h : told now bytes ≡ ends [] (now.line ++ bytes) = ap (λ t. heard t now.line bytes) e in
    (ap (λ (h : Heard). h.stage) h, ap (λ (h : Heard). h.said) h)

-- the same of equal lists
pub speech_same : (m m' : List Envelope) (h h' t t' g g' : List ℕ) → m' ≡ m → h' ≡ h → t' ≡ t → g' ≡ g → IsSpeech m h t g → IsSpeech m' h' t' g'
speech_same m m' h h' t t' g g' a b c d s =
    subst (λ (w : List Envelope). IsSpeech w h' t' g') (sym a)
    (subst (λ (w : List ℕ). IsSpeech m w t' g') (sym b) (subst (λ (w : List ℕ). IsSpeech m h w g') (sym c) (subst (λ (w : List ℕ). IsSpeech m h t w) (sym d) s)))

pub converses_same : (m m' : List Envelope) (h h' : List ℕ) (l : Link) (t t' g g' : List ℕ) → m' ≡ m → h' ≡ h → t' ≡ t → g' ≡ g → Converses m h l t g → Converses m' h' l t' g'
converses_same m m' h h' l t t' g g' a b c d s =
    subst (λ (w : List Envelope). Converses w h' l t' g') (sym a)
    (subst (λ (w : List ℕ). Converses m w l t' g') (sym b) (subst (λ (w : List ℕ). Converses m h l w g') (sym c) (subst (λ (w : List ℕ). Converses m h l t w) (sym d) s)))

-- text of a list behind which nothing stands
behind_none : (xs ys zs : List ℕ) → ys ≡ [] → (xs ++ ys) ++ zs ≡ (xs ++ zs) ++ ys
behind_none xs ys zs e =
    ap (λ (w : List ℕ). (xs ++ w) ++ zs) e ∙ ap (λ (w : List ℕ). w ++ zs) (append-nil xs) ∙ sym (append-nil (xs ++ zs)) ∙ ap (λ (w : List ℕ). (xs ++ zs) ++ w) (sym e)

-- what was given and what waits is what was said, and behind it more lines may come
with_lines : (g out handed : List ℕ) (ls ms all : List AuthLine) → g ++ out ≡ line_bytes ls ++ handed → ls ++ ms ≡ all → handed ≡ [] → g ++ (out ++ line_bytes ms) ≡ line_bytes all ++ handed
with_lines g out handed ls ms all e l n =
    sym (append_assoc g out (line_bytes ms))
    ∙ ap (λ (w : List ℕ). w ++ line_bytes ms) e
    ∙ behind_none (line_bytes ls) handed (line_bytes ms) n
    ∙ ap (λ (w : List ℕ). w ++ handed) (sym (line_bytes_both ls ms) ∙ ap (λ (w : List AuthLine). line_bytes w) l)

-- where no line is left those that were said are all
no_lines : (ls ms all : List AuthLine) → ms ≡ [] → ls ++ ms ≡ all → ls ≡ all
no_lines ls ms all n e = sym (append-nil ls) ∙ ap (λ (w : List AuthLine). ls ++ w) (sym n) ∙ e

stage_after : (t : List ℕ) (lines : List AuthLine) (now : Standing) → Stands server_start t lines now → now.stage ≡ (after server_start t).stage
stage_after t lines now s = ap (λ (n : Standing). n.stage) s

lines_after : (t : List ℕ) (lines : List AuthLine) (now : Standing) → Stands server_start t lines now → lines ++ now.unsent ≡ lines_for t
lines_after t lines now s = ap (λ (n : Standing). n.unsent) s

pub speech_of : (m : List Envelope) (h : List ℕ) (l : Link) (t g : List ℕ) → Converses m h l t g → IsSpeech m h t g
speech_of m h l t g v = elim v.order [
  | inl e ↦
      record {
        messages = v.messages;
        rest = l.feeder;
        parted = v.parted;
        taken_all = v.taken_all;
        over = inl e;
        more = l.out.items ++ line_bytes l.server.unsent;
        front = with_lines g l.out.items h v.lines l.server.unsent (lines_for t) v.all (lines_after t v.lines l.server v.server_stands) e;
      }
  | inr e ↦
      record {
        messages = v.messages;
        rest = l.feeder;
        parted = v.parted;
        taken_all = v.taken_all;
        over = inr (sym (stage_after t v.lines l.server v.server_stands) ∙ e.0);
        more = l.out.items;
        front = v.all ∙ ap (λ (w : List AuthLine). line_bytes w ++ h) (no_lines v.lines l.server.unsent (lines_for t) e.1 (lines_after t v.lines l.server v.server_stands));
      }
]

-- where no byte and no line waits, all was given
pub all_said : (m : List Envelope) (h : List ℕ) (l : Link) (t g : List ℕ) → l.out.items ≡ [] → l.server.unsent ≡ [] → Converses m h l t g → g ≡ line_bytes (lines_for t) ++ h
all_said m h l t g out none v =
    sym (append-nil g)
    ∙ ap (λ (w : List ℕ). g ++ w) (sym out)
    ∙ v.all
    ∙ ap (λ (w : List AuthLine). line_bytes w ++ h) (no_lines v.lines l.server.unsent (lines_for t) none (lines_after t v.lines l.server v.server_stands))

pub over_there : (m : List Envelope) (h : List ℕ) (l : Link) (t g : List ℕ) → Converses m h l t g → (after server_start t).stage ≡ Over → l.server.stage ≡ Over
over_there m h l t g v over = stage_after t v.lines l.server v.server_stands ∙ over

-- what was given with all bytes that wait first, where some of them were given and the others wait
pub offered : (m : List Envelope) (h : List ℕ) (l : Link) (t g part bytes rest : List ℕ) → part ++ l.out.items ≡ bytes ++ rest → Converses m h l t (g ++ part) → IsSpeech m h t (g ++ bytes)
offered m h l t g part bytes rest e v = elim v.order [
  | inl o ↦
      record {
        messages = v.messages;
        rest = l.feeder;
        parted = v.parted;
        taken_all = v.taken_all;
        over = inl o;
        more = rest ++ line_bytes l.server.unsent;
        front = with_lines (g ++ bytes) rest h v.lines l.server.unsent (lines_for t) all (lines_after t v.lines l.server v.server_stands) o;
      }
  | inr o ↦
      record {
        messages = v.messages;
        rest = l.feeder;
        parted = v.parted;
        taken_all = v.taken_all;
        over = inr (sym (stage_after t v.lines l.server v.server_stands) ∙ o.0);
        more = rest;
        front = all ∙ ap (λ (w : List AuthLine). line_bytes w ++ h) (no_lines v.lines l.server.unsent (lines_for t) o.1 (lines_after t v.lines l.server v.server_stands));
      }
]
  where
    all : (g ++ bytes) ++ rest ≡ line_bytes v.lines ++ h
    all = append_assoc g bytes rest ∙ ap (λ (w : List ℕ). g ++ w) (sym e) ∙ sym (append_assoc g part l.out.items) ∙ v.all

lines_more : (t piece : List ℕ) → lines_for t ++ (told (after server_start t) piece).said ≡ lines_for (t ++ piece)
lines_more t piece = ap (λ (n : Standing). n.unsent) (after-append server_start t piece)

stage_more : (t piece : List ℕ) → (after (after server_start t) piece).stage ≡ (after server_start (t ++ piece)).stage
stage_more t piece = ap (λ (n : Standing). n.stage) (after-append server_start t piece)

parted_more : (t piece p held held' : List ℕ) (ms : List (Envelope × List ℕ)) → p ≡ behind (after server_start t) piece → held' ≡ held ++ p → IsParted (behind server_start t) ms held → IsParted (behind server_start (t ++ piece)) ms held'
parted_more t piece p held held' ms e h q =
    subst (λ (w : List ℕ). IsParted w ms held') (ap (λ (w : List ℕ). behind server_start t ++ w) e ∙ sym (behind-append server_start t piece))
    (takes_piece held p held' h (behind server_start t) ms q)

-- what was given is a front of what is said for more bytes, too
pub speech_more : (m : List Envelope) (h t piece g : List ℕ) → IsSpeech m h t g → IsSpeech m h (t ++ piece) g
speech_more m h t piece g s =
    let now : Standing = after server_start t in
    let rest : List ℕ = s.rest ++ behind now piece in
    let parted : IsParted (behind server_start (t ++ piece)) s.messages rest = parted_more t piece (behind now piece) s.rest rest s.messages refl refl s.parted in
    elim s.over [
      | inl e ↦
          record {
            messages = s.messages;
            rest = rest;
            parted = parted;
            taken_all = s.taken_all;
            over = inl e;
            more = s.more ++ line_bytes (told now piece).said;
            front = with_lines g s.more h (lines_for t) (told now piece).said (lines_for (t ++ piece)) s.front (lines_more t piece) e;
          }
      | inr e ↦
          let stays = over_goes_on now piece e in
          record {
            messages = s.messages;
            rest = rest;
            parted = parted;
            taken_all = s.taken_all;
            over = inr (sym (stage_more t piece) ∙ stays.0);
            more = s.more;
            front = s.front ∙ ap (λ (w : List AuthLine). line_bytes w ++ h) (no_lines (lines_for t) (told now piece).said (lines_for (t ++ piece)) stays.1 (lines_more t piece));
          }
    ]

-- what a server that stands for these bytes hears in a piece
told_same : (t piece : List ℕ) (lines : List AuthLine) (now : Standing) → Stands server_start t lines now → told now piece ≡ told (after server_start t) piece
told_same t piece lines now s = ap (λ (n : Standing). told n piece) s

-- a piece was heard
pub heard_on : (m : List Envelope) (h : List ℕ) (l l' : Link) (t g piece : List ℕ) → l'.server ≡ after l.server piece → l'.feeder ≡ l.feeder ++ behind l.server piece → l'.out.items ≡ l.out.items
    → fault_in (told l.server piece).stage ≡ None → Converses m h l t g → Converses m h l' (t ++ piece) g
heard_on m h l l' t g piece server feeder out none v =
    let p : List ℕ = behind l.server piece in
    let same : p ≡ behind (after server_start t) piece = ap (λ (w : Heard). w.behind) (told_same t piece v.lines l.server v.server_stands) in
    record {
      lines = v.lines;
      messages = v.messages;
      server_stands = continues server_start l.server l'.server piece server t v.lines v.server_stands;
      parted = parted_more t piece p l.feeder l'.feeder v.messages same feeder v.parted;
      taken_all = v.taken_all;
      all = ap (λ (w : List ℕ). g ++ w) out ∙ v.all;
      order = elim v.order [
        | inl e ↦ inl e
        | inr e ↦
            let stays = over_goes_on l.server piece e.0 in
            inr (
              ap (λ (n : Standing). n.stage) server ∙ stays.0,
              ap (λ (n : Standing). n.unsent) server ∙ ap (λ (w : List AuthLine). l.server.unsent ++ w) stays.1 ∙ append-nil l.server.unsent ∙ e.1,
            )
      ];
      no_fault = ap (λ (n : Standing). fault_in n.stage) server ∙ none;
    }

-- the bus was told a message that was held
pub told_one : (m : List Envelope) (h : List ℕ) (l l' : Link) (t g : List ℕ) (e : Envelope) (bytes : List ℕ) → IsMessage e bytes → l.feeder ≡ bytes ++ l'.feeder → l'.server ≡ l.server → l'.out.items ≡ l.out.items
    → Converses m h l t g → Converses (m ++ e ∷ []) h l' t g
told_one m h l l' t g e bytes spelled split server out v = record {
  lines = v.lines;
  messages = v.messages ++ (e, bytes) ∷ [];
  server_stands = subst (λ (n : Standing). Stands server_start t v.lines n) (sym server) v.server_stands;
  parted = history_more (behind server_start t) v.messages e bytes l.feeder l'.feeder v.parted spelled split;
  taken_all = ap (λ (w : List Envelope). w ++ e ∷ []) v.taken_all ∙ sym (envelopes_both v.messages ((e, bytes) ∷ []));
  all = ap (λ (w : List ℕ). g ++ w) out ∙ v.all;
  order = elim v.order [
    | inl o ↦ inl o
    | inr o ↦ inr (ap (λ (n : Standing). n.stage) server ∙ o.0, ap (λ (n : Standing). n.unsent) server ∙ o.1)
  ];
  no_fault = ap (λ (n : Standing). fault_in n.stage) server ∙ v.no_fault;
}

-- nothing of it changed
pub idle_on : (m : List Envelope) (h : List ℕ) (l l' : Link) (t g : List ℕ) → l'.server ≡ l.server → l'.feeder ≡ l.feeder → l'.out.items ≡ l.out.items → Converses m h l t g → Converses m h l' t g
idle_on m h l l' t g server feeder out v = record {
  lines = v.lines;
  messages = v.messages;
  server_stands = subst (λ (n : Standing). Stands server_start t v.lines n) (sym server) v.server_stands;
  parted = subst (λ (w : List ℕ). IsParted (behind server_start t) v.messages w) (sym feeder) v.parted;
  taken_all = v.taken_all;
  all = ap (λ (w : List ℕ). g ++ w) out ∙ v.all;
  order = elim v.order [
    | inl o ↦ inl o
    | inr o ↦ inr (ap (λ (n : Standing). n.stage) server ∙ o.0, ap (λ (n : Standing). n.unsent) server ∙ o.1)
  ];
  no_fault = ap (λ (n : Standing). fault_in n.stage) server ∙ v.no_fault;
}

one_line : (x : AuthLine) → line_bytes (x ∷ []) ≡ bytes_of x
one_line x = append-nil (bytes_of x)

some_line : (x : AuthLine) (us : List AuthLine) → x ∷ us ≡ [] → ⊥
some_line x us e = cc

-- a line waits to be given
pub line_said : (m : List Envelope) (h : List ℕ) (l l' : Link) (t g : List ℕ) (x : AuthLine) → HandsOut server_start l.server l'.server (x ∷ []) → l.server.unsent ≡ x ∷ l'.server.unsent → l'.server.stage ≡ l.server.stage → l'.feeder ≡ l.feeder → l'.out.items ≡ l.out.items ++ bytes_of x
    → Converses m h l t g → Converses m h l' t g
line_said m h l l' t g x whole line stage feeder out v = record {
  lines = v.lines ++ x ∷ [];
  messages = v.messages;
  server_stands = whole t v.lines v.server_stands;
  parted = subst (λ (w : List ℕ). IsParted (behind server_start t) v.messages w) (sym feeder) v.parted;
  taken_all = v.taken_all;
  all = ap (λ (w : List ℕ). g ++ w) (out ∙ ap (λ (w : List ℕ). l.out.items ++ w) (sym (one_line x))) ∙ with_lines g l.out.items h v.lines (x ∷ []) (v.lines ++ x ∷ []) v.all refl nothing;
  order = inl nothing;
  no_fault = ap fault_in stage ∙ v.no_fault;
}
  where
    nothing : h ≡ []
    nothing = elim v.order [ inl e ↦ e | inr e ↦ absurd (some_line x l'.server.unsent (sym line ∙ e.1)) ]

-- bytes that the bus handed out wait to be given
pub handed_more : (m : List Envelope) (h part : List ℕ) (l l' : Link) (t g : List ℕ) → l.server.stage ≡ Over → l.server.unsent ≡ [] → l'.server ≡ l.server → l'.feeder ≡ l.feeder → l'.out.items ≡ l.out.items ++ part
    → Converses m h l t g → Converses m (h ++ part) l' t g
handed_more m h part l l' t g over none server feeder out v = record {
  lines = v.lines;
  messages = v.messages;
  server_stands = subst (λ (n : Standing). Stands server_start t v.lines n) (sym server) v.server_stands;
  parted = subst (λ (w : List ℕ). IsParted (behind server_start t) v.messages w) (sym feeder) v.parted;
  taken_all = v.taken_all;
  all = ap (λ (w : List ℕ). g ++ w) out ∙ sym (append_assoc g l.out.items part) ∙ ap (λ (w : List ℕ). w ++ part) v.all ∙ append_assoc (line_bytes v.lines) h part;
  order = inr (ap (λ (n : Standing). n.stage) server ∙ over, ap (λ (n : Standing). n.unsent) server ∙ none);
  no_fault = ap (λ (n : Standing). fault_in n.stage) server ∙ v.no_fault;
}

-- some of the bytes that waited were given
pub given_on : (m : List Envelope) (h part : List ℕ) (l l' : Link) (t g : List ℕ) → part ++ l'.out.items ≡ l.out.items → l'.server ≡ l.server → l'.feeder ≡ l.feeder → Converses m h l t g → Converses m h l' t (g ++ part)
given_on m h part l l' t g rest server feeder v = record {
  lines = v.lines;
  messages = v.messages;
  server_stands = subst (λ (n : Standing). Stands server_start t v.lines n) (sym server) v.server_stands;
  parted = subst (λ (w : List ℕ). IsParted (behind server_start t) v.messages w) (sym feeder) v.parted;
  taken_all = v.taken_all;
  all = append_assoc g part l'.out.items ∙ ap (λ (w : List ℕ). g ++ w) rest ∙ v.all;
  order = elim v.order [
    | inl e ↦ inl e
    | inr e ↦ inr (ap (λ (n : Standing). n.stage) server ∙ e.0, ap (λ (n : Standing). n.unsent) server ∙ e.1)
  ];
  no_fault = ap (λ (n : Standing). fault_in n.stage) server ∙ v.no_fault;
}

-- before the first byte nothing stands behind the lines
none_behind : behind server_start [] ≡ []
unfolding heard hears hears_bytes lines_of
none_behind = refl

none_failed : fault_in (after server_start []).stage ≡ None
unfolding heard hears hears_bytes lines_of
none_failed = refl

-- a new link
pub begins : (l : Link) → Stands server_start [] [] l.server → l.feeder ≡ [] → l.out.items ≡ [] → Converses [] [] l [] []
begins l server feeder out = record {
  lines = [];
  messages = [];
  server_stands = server;
  parted = record { are = tt; parted = none_behind ∙ sym feeder };
  taken_all = refl;
  all = out;
  order = inl refl;
  no_fault = ap (λ (n : Standing). fault_in n.stage) server ∙ none_failed;
}

-- a link that goes on is not lost
none_some : (fault : AuthFault) → None ≡ Some fault → ⊥
none_some fault e = cc

pub not_lost : (m : List Envelope) (h : List ℕ) (l : Link) (t g : List ℕ) (did : Did) → Converses m h l t g → GoesOn did → IsLost did t → ⊥
not_lost m h l t g did v on (inl e) = subst GoesOn e on
not_lost m h l t g did v on (inr (inl e)) = subst GoesOn e on
not_lost m h l t g did v on (inr (inr f)) = none_some f.0 (sym v.no_fault ∙ ap (λ (n : Standing). fault_in n.stage) v.server_stands ∙ f.1)

-- one whose lines are at fault is
pub lost_lines : (m : List Envelope) (h : List ℕ) (l : Link) (t g piece : List ℕ) (did : Did) (fault : AuthFault) → fault_in (told l.server piece).stage ≡ Some fault → Converses m h l t g → IsLost did (t ++ piece)
lost_lines m h l t g piece did fault f v =
    inr (inr (fault, ap fault_in (sym (ap (λ (w : Heard). w.stage) (told_same t piece v.lines l.server v.server_stands) ∙ stage_more t piece)) ∙ f))

pub refused : (fault : AuthFault) (old new : Standing) (heard : Heard) → (fault ≡ faults.NoMemory → ⊥) → Refuses fault old new heard → fault_in heard.stage ≡ Some fault
refused faults.NoMemory old new heard n r = absurd (n refl)
refused faults.NoZero old new heard n r = r.1
refused faults.TooLong old new heard n r = r.1
refused faults.Early old new heard n r = r.1
refused faults.Rejected old new heard n r = r.1

-- a message takes some of the bytes that are held
pub shorter : (e : Envelope) (bytes old new : List ℕ) → IsMessage e bytes → old ≡ bytes ++ new → length new < length old
shorter e bytes old new m is = omega (arith, (message_states e bytes m).long, ap (λ (w : List ℕ). length w) is, length-append bytes new)
