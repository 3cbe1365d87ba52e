-- What a reader hands over, thing behind thing, and what it did from its start on.
use Rattle.std.proofs.Common.{◌≡◌, ℕ, ◌<◌, Bool, true, false, List, [], ◌∷◌, ◌++◌, length, fold, Option, None, Some, refl, sym, ap, subst, ◌∙◌, inl, inr, append_assoc, append-nil, arith}
use Rattle.std.specs.Prelude.{◌⊎◌, is_some, IfSome, IfNone, Result, Ok, Err, OnErr}
use Rattle.std.proofs.lemmas.List.{length-append}
use Rattle.atspi_message.specs.Envelope.{Envelope}
use Rattle.atspi_message.specs.Rules.{MeetsRules}
use Rattle.atspi_protocol.specs.following.ReaderState.{Done, sends, speaks, tells_end, ReaderState, begins}
use Rattle.atspi_protocol.specs.following.Takes.{reader_takes, starts}
use Rattle.atspi_live_conversation.specs.Sent.{AllMeet}
use Rattle.atspi_reader.specs.Steps.{IsState}
use Rattle.atspi_live_reader.specs.Spoken.{following, say_line, sent_in, spoken_in}
use Rattle.atspi_live_reader.specs.Handed.{Follows, Gives, GivesSo, IsFrontOf, KeepsLine}
use Rattle.atspi_live_reader.specs.inner.Handed.{GivesRest, HandsAll}
use Rattle.atspi_live_reader.proofs.Framing.{put, takes_put}
use Rattle.atspi_live_reader.proofs.Sending.{AllSent, all_meet, back_sent, front_sent, meets_in}

pub sent_both : (xs ys : List Done) → sent_in (xs ++ ys) ≡ sent_in xs ++ sent_in ys
sent_both [] ys = refl
sent_both (sends e ∷ xs) ys = ap (λ (w : List Envelope). e ∷ w) (sent_both xs ys)
sent_both (speaks name text ∷ xs) ys = sent_both xs ys
sent_both (tells_end name ∷ xs) ys = sent_both xs ys

pub spoken_both : (xs ys : List Done) → spoken_in (xs ++ ys) ≡ spoken_in xs ++ spoken_in ys
spoken_both [] ys = refl
spoken_both (sends e ∷ xs) ys = spoken_both xs ys
spoken_both (speaks name text ∷ xs) ys = ap (λ (w : List ℕ). say_line name text ++ w) (spoken_both xs ys) ∙ sym (append_assoc (say_line name text) (spoken_in xs) (spoken_in ys))
spoken_both (tells_end name ∷ xs) ys = spoken_both xs ys

put_both : (xs ys : List Done) (s : ReaderState) → put xs (put ys s) ≡ put (xs ++ ys) s
put_both xs ys s = ap (λ (w : List Done). record s { out = w }) (sym (append_assoc xs ys s.out))

-- lines kept behind others
pub keeps_both : (a b c : Bool) (u v w x y : List ℕ) → KeepsLine a b u v x → KeepsLine b c v w y → KeepsLine a c u w (x ++ y)
keeps_both a b c u v w x y p (inl q) = inl q
keeps_both a b c u v w x y (inl p) (inr q) = inl (q.0 ∙ p)
keeps_both a b c u v w x y (inr p) (inr q) = inr (q.0 ∙ p.0, q.1 ∙ ap (λ (z : List ℕ). z ++ y) p.1 ∙ append_assoc u x y)

pub keeps_none : (a : Bool) (u : List ℕ) → KeepsLine a a u u []
keeps_none a u = inr (refl, sym (append-nil u))

-- things handed over behind others
pub gives_both : (ms ns : List Envelope) (r s t : ReaderState) (a b c : Bool) (u v w : List ℕ) → GivesSo ms r s a b u v → GivesSo ns s t b c v w → GivesSo (ms ++ ns) r t a c u w
gives_both ms ns r s t a b c u v w p q = record {
  done = p.done ++ q.done;
  sent = sent_both p.done q.done ∙ ap (λ (z : List Envelope). z ++ sent_in q.done) p.sent ∙ ap (λ (z : List Envelope). ms ++ z) q.sent;
  gives = record {
    whole = p.gives.whole ∙ ap (put p.done) q.gives.whole ∙ put_both p.done q.done t;
    kept = subst (λ (z : List ℕ). KeepsLine a c u w z) (sym (spoken_both p.done q.done)) (keeps_both a b c u v w (spoken_in p.done) (spoken_in q.done) p.gives.kept q.gives.kept);
  };
}

pub gives_none : (r : ReaderState) (a : Bool) (u : List ℕ) → GivesSo [] r r a a u u
gives_none r a u = record { done = []; sent = refl; gives = record { whole = refl; kept = keeps_none a u } }

-- one thing, where it is a message or none
pub gives_one : (ms : List Envelope) (ds : List Done) (r s : ReaderState) (a b : Bool) (u v : List ℕ) → sent_in ds ≡ ms → Gives r s ds a b u v → GivesSo ms r s a b u v
gives_one ms ds r s a b u v e g = record { done = ds; sent = e; gives = g }

out_of : (r s : ReaderState) (ds : List Done) → r ≡ put ds s → r.out ≡ ds ++ s.out
out_of r s ds e = ap (λ (t : ReaderState). t.out) e

pub gone_less : (r s : ReaderState) (d : Done) (ds : List Done) → r ≡ put (d ∷ ds) s → length s.out < length r.out
gone_less r s d ds e = omega (arith, ap (λ (w : List Done). length w) (out_of r s (d ∷ ds) e), length-append ds s.out)

pub gone_some : (e : Envelope) (r s : ReaderState) (a b : Bool) (u v : List ℕ) → GivesSo (e ∷ []) r s a b u v → length s.out < length r.out
gone_some e r s a b u v g = by g.done g.sent g.gives.whole
  where
    by : (ds : List Done) → sent_in ds ≡ e ∷ [] → r ≡ put ds s → length s.out < length r.out
    by [] h w = absurd cc
    by (d ∷ ds) h w = gone_less r s d ds w

fold-one : (s : ReaderState) (es : List Envelope) (e : Envelope) → fold reader_takes s (es ++ e ∷ []) ≡ reader_takes (fold reader_takes s es) e
fold-one s [] e = refl
fold-one s (x ∷ xs) e = fold-one (reader_takes s x) xs e

-- a message more was taken
pub took_one : (written : List ℕ) (r s : ReaderState) (a : Bool) (u : List ℕ) (e : Envelope) (took said : List Envelope) → IsState s → s ≡ reader_takes r e → Follows written r a u took said → Follows written s a u (took ++ e ∷ []) said
took_one written r s a u e took said state is f = record {
  is = state;
  done = f.done;
  whole = ap (put f.done) is ∙ sym (takes_put f.done r e) ∙ ap (λ (t : ReaderState). reader_takes t e) f.whole ∙ sym (fold-one (starts begins) took e);
  sent = f.sent;
  told = f.told;
}

-- messages were handed out, and lines kept
pub handed : (written : List ℕ) (ms : List Envelope) (r s : ReaderState) (a b : Bool) (u v : List ℕ) (took said : List Envelope) → IsState s → GivesSo ms r s a b u v → Follows written r a u took said → Follows written s b v took (said ++ ms)
handed written ms r s a b u v took said state g f = record {
  is = state;
  done = f.done ++ g.done;
  whole = sym (put_both f.done g.done s) ∙ ap (put f.done) (sym g.gives.whole) ∙ f.whole;
  sent = sent_both f.done g.done ∙ ap (λ (w : List Envelope). w ++ sent_in g.done) f.sent ∙ ap (λ (w : List Envelope). said ++ w) g.sent;
  told = by f.told g.gives.kept;
}
  where
    front : (left : List ℕ) → written ++ left ≡ spoken_in f.done → IsFrontOf written (spoken_in (f.done ++ g.done))
    front left e = (left ++ spoken_in g.done, sym (append_assoc written left (spoken_in g.done)) ∙ ap (λ (w : List ℕ). w ++ spoken_in g.done) e ∙ sym (spoken_both f.done g.done))

    by : ((a ≡ true) × IsFrontOf written (spoken_in f.done)) ⊎ (written ++ u ≡ spoken_in f.done) → KeepsLine a b u v (spoken_in g.done)
        → ((b ≡ true) × IsFrontOf written (spoken_in (f.done ++ g.done))) ⊎ (written ++ v ≡ spoken_in (f.done ++ g.done))
    by (inl p) (inl q) = inl (q, front p.1.0 p.1.1)
    by (inr p) (inl q) = inl (q, front u p)
    by (inl p) (inr q) = inl (q.0 ∙ p.0, front p.1.0 p.1.1)
    by (inr p) (inr q) = inr (
        ap (λ (w : List ℕ). written ++ w) q.1 ∙ sym (append_assoc written u (spoken_in g.done)) ∙ ap (λ (w : List ℕ). w ++ spoken_in g.done) p ∙ sym (spoken_both f.done g.done)
        )

-- a message that is handed out meets the rules
pub may_send : (written : List ℕ) (e : Envelope) (r s : ReaderState) (a b : Bool) (u v : List ℕ) (took said : List Envelope) → GivesSo (e ∷ []) r s a b u v → Follows written r a u took said → MeetsRules e
may_send written e r s a b u v took said g f =
    let all : AllSent (f.done ++ r.out) = subst (λ (w : List Done). AllSent w) (sym (ap (λ (t : ReaderState). t.out) f.whole)) (all_meet took) in
    let out : AllSent (g.done ++ s.out) = subst (λ (w : List Done). AllSent w) (out_of r s g.done g.gives.whole) (back_sent f.done r.out all) in
    meets_in g.done e g.sent (front_sent g.done s.out out)

-- the same of what handing out the oldest message answers
pub next_hands_out : {M : Type 0} (seen : M → Envelope) (o : Option M) (r s : ReaderState) (a b : Bool) (u v : List ℕ) → IsState s → HandsAll seen o r s a b u v
    → IfSome o (λ m. (written : List ℕ) (took said : List Envelope) → Follows written r a u took said → Follows written s b v took (said ++ seen m ∷ []))
next_hands_out seen None r s a b u v state g = tt
next_hands_out seen (Some m) r s a b u v state g = λ written took said f. handed written (seen m ∷ []) r s a b u v took said state g f

pub next_may_send : {M : Type 0} (seen : M → Envelope) (o : Option M) (r s : ReaderState) (a b : Bool) (u v : List ℕ) → HandsAll seen o r s a b u v
    → IfSome o (λ m. (written : List ℕ) (took said : List Envelope) → Follows written r a u took said → AllMeet took → MeetsRules (seen m))
next_may_send seen None r s a b u v g = tt
next_may_send seen (Some m) r s a b u v g = λ written took said f meet. may_send written (seen m) r s a b u v took said g f

pub next_rests : {M : Type 0} (seen : M → Envelope) (o : Option M) (r s : ReaderState) (a b : Bool) (u v : List ℕ) → IsState s → HandsAll seen o r s a b u v
    → IfNone o ((written : List ℕ) (took said : List Envelope) → Follows written r a u took said → Follows written s b v took said)
next_rests seen None r s a b u v state g = λ written took said f. subst (λ (w : List Envelope). Follows written s b v took w) (append-nil said) (handed written [] r s a b u v took said state g f)
next_rests seen (Some m) r s a b u v state g = tt

pub next_empty : {M : Type 0} (o : Option M) (out : List Done) → IfNone o (out ≡ []) → IfNone o (length out ≡ 0)
next_empty None out e = ap (λ (w : List Done). length w) e
next_empty (Some m) out e = tt

-- a message that was refused
pub take_rests : {T X : Type 0} (o : Result T X) (r s : ReaderState) (a : Bool) (u : List ℕ) → OnErr o (s ≡ r) → OnErr o ((written : List ℕ) (took said : List Envelope) → Follows written r a u took said → Follows written s a u took said)
take_rests (Ok x) r s a u e = tt
take_rests (Err x) r s a u e = λ written took said f. subst (λ (t : ReaderState). Follows written t a u took said) (sym e) f

-- a message, or none, and what was handed over before it
pub some_handed : {M : Type 0} (seen : M → Envelope) (o : Option M) (r s : ReaderState) (a b : Bool) (u v : List ℕ) → HandsAll seen o r s a b u v → (messages : List Envelope) × GivesSo messages r s a b u v
some_handed seen None r s a b u v g = ([], g)
some_handed seen (Some m) r s a b u v g = (seen m ∷ [], g)

pub none_left : {M : Type 0} (o : Option M) (some : Bool) (P : Type 0) → some ≡ is_some o → some ≡ false → IfNone o P → P
none_left None some P s e p = p
none_left (Some m) some P s e p = absurd (true_not (sym s ∙ e))
  where
    true_not : true ≡ false → ⊥
    true_not h = cc

pub all_handed : {M : Type 0} (o : Option M) (some : Bool) (P : Type 0) → some ≡ is_some o → some ≡ true → IfSome o (λ m. P) → P
all_handed None some P s e p = absurd (false_not (sym s ∙ e))
  where
    false_not : false ≡ true → ⊥
    false_not h = cc
all_handed (Some m) some P s e p = p

-- all that was left was handed over
pub gives_rest : (ms : List Envelope) (r s : ReaderState) (a b : Bool) (u v : List ℕ) → GivesSo ms r s a b u v → s.out ≡ [] → GivesRest r s a b u v
gives_rest ms r s a b u v g none =
    let all : r.out ≡ g.done ++ s.out = out_of r s g.done g.gives.whole in
    record {
      whole = g.gives.whole ∙ ap (λ (w : List Done). record s { out = w }) (sym all);
      kept = subst (λ (w : List Done). KeepsLine a b u v (spoken_in w)) (sym (all ∙ ap (λ (w : List Done). g.done ++ w) none ∙ append-nil g.done)) g.gives.kept;
    }
