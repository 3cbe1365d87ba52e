-- What stands of the worked cases of next messages, and of links that are closed for none.
use Rattle.std.proofs.Common.{◌≡◌, ℕ, true, List, [], ◌∷◌, ◌++◌, length, refl, sym, ap, subst, ◌∙◌, inl, inr, append_assoc, append-nil, length-append, arith}
use Rattle.atspi_message.specs.Bytes.{IsMessage}
use Rattle.atspi_message.specs.Envelope.{Envelope}
use Rattle.atspi_stream.specs.Laws.{HasOneAnswer}
use Rattle.atspi_stream.specs.Stream.{AwaitsMore, BeginsWithMessage, HasFault, IsParted, in_front, bytes_of}
use Rattle.atspi_stream.specs.Stream as stream
use Rattle.atspi_stream.proofs.StreamLaws.{message_states}
use Rattle.atspi_live_host.specs.declared.call.Did.TheVariants.{NotYet}
use Rattle.atspi_live_host.specs.declared.call.Call.{Call}
use Rattle.atspi_live_bus.specs.Asked.{taking, messages_of}
use Rattle.atspi_live_bus.specs.Cases.{two_links}
use Rattle.atspi_live_bus.specs.Closes.{AreTaken, Attends, Ceases, FollowsRead, IsBad}
use Rattle.atspi_live_bus.specs.Course.{Course}
use Rattle.atspi_live_bus.specs.Opened.{open_from}
use Rattle.atspi_live_bus.specs.Service.{envelopes}
use Rattle.atspi_live_bus.proofs.Asking.{messages_both, taken_one}
use Rattle.atspi_live_bus.proofs.Going.{tells_nobodys}
use Rattle.atspi_live_bus.proofs.Worked.{goes_on, none_behind}

-- a link whose next message is whole
pub has_to_be_taken : (x y : Course) (rest : List ℕ) (next : BeginsWithMessage rest) (calls : List Call) → HasOneAnswer rest → Ceases true 3 0 x (3 ∷ 5 ∷ []) rest calls y → ⊥
has_to_be_taken x y rest next calls one (inl n) = n.0 (inl refl)
has_to_be_taken x y rest next calls one (inr (inl w)) = one.waits_without_message w.1 next
has_to_be_taken x y rest next calls one (inr (inr b)) = one.message_without_fault next (record { place = b.1.0; reason = b.1.1; is = b.1.2 })

some_bytes : (e : Envelope) (bytes more : List ℕ) → IsMessage e bytes → [] ≡ bytes ++ more → ⊥
some_bytes e bytes more m is = omega (arith, (message_states e bytes m).long, ap (λ (w : List ℕ). length w) is, length-append bytes more)

none_parted : (messages : List (Envelope × List ℕ)) (rest : List ℕ) → IsParted [] messages rest → (rest ≡ []) × (envelopes messages ≡ [])
none_parted [] rest p = (sym p.parted, refl)
none_parted (m ∷ ms) rest p = absurd (some_bytes m.0 m.1 (bytes_of ms ++ rest) p.are.0 (p.parted ∙ append_assoc m.1 (bytes_of ms) rest))

none_bad : IsBad [] → ⊥
none_bad f = no_fault f.0 f.1 f.2
  where
    no_fault : (place reason : ℕ) → HasFault [] place reason → ⊥
    no_fault place reason (in_front h w) = omega (arith, h)
    no_fault place reason (stream.behind h s l w) = omega (arith, h)

all_taken : (c k : ℕ) (x : Course) (links : List ℕ) (es : List Envelope) (calls : List Call) (y : Course) → AreTaken k c x links es calls y → messages_of c y.asked ≡ messages_of c x.asked ++ es
all_taken c k x links [] calls y t = ap (λ (w : Course). messages_of c w.asked) t.1 ∙ sym (append-nil (messages_of c x.asked))
all_taken c k x links (e ∷ es) calls y t =
    let tells = t.5.1 in
    let one : messages_of c (taking c e ∷ tells) ≡ e ∷ [] =
    messages_both c (taking c e ∷ []) tells ∙ ap (λ (w : List Envelope). messages_of c (taking c e ∷ []) ++ w) (tells_nobodys tells t.5.3 c).0
    ∙ append-nil (messages_of c (taking c e ∷ [])) ∙ taken_one c e in
    let first : messages_of c t.1.asked ≡ messages_of c x.asked ++ e ∷ [] =
    ap (messages_of c) t.5.5 ∙ messages_both c x.asked (taking c e ∷ tells) ∙ ap (λ (w : List Envelope). messages_of c x.asked ++ w) one in
    all_taken c k t.1 (open_from links t.3) es t.4 y t.7 ∙ ap (λ (w : List Envelope). w ++ es) first ∙ append_assoc (messages_of c x.asked) (e ∷ []) es

none_taken : (x y : Course) (links : List ℕ) (es : List Envelope) (calls : List Call) → es ≡ [] → AreTaken 3 0 x links es calls y → calls ≡ []
none_taken x y links es calls none t = (empty (subst (λ (w : List Envelope). AreTaken 3 0 x links w calls y) none t)).0
  where
    empty : AreTaken 3 0 x links [] calls y → (calls ≡ []) × (y ≡ x)
    empty u = u

pub quiet : (y : Course) (calls : List Call) → FollowsRead true 3 0 two_links (3 ∷ 5 ∷ []) NotYet [] calls y → calls ≡ []
quiet y calls f = by f
  where
    last_none : (mid : Course) (links rest : List ℕ) (last : List Call) → rest ≡ [] → Ceases true 3 0 mid links rest last y → last ≡ []
    last_none mid links rest last none (inl n) = n.1
    last_none mid links rest last none (inr (inl w)) = w.2
    last_none mid links rest last none (inr (inr b)) = absurd (none_bad (subst (λ (w : List ℕ). IsBad w) none b.1))

    attended : Attends true 3 0 two_links (3 ∷ 5 ∷ []) [] calls y → calls ≡ []
    attended a =
        let follows = a.5 in
        let parted = none_parted follows.1.0 follows.0 (subst (λ (w : List ℕ). IsParted w follows.1.0 follows.0) none_behind follows.1.1) in
        let es : a.0 ≡ [] = sym (all_taken 0 3 two_links (3 ∷ 5 ∷ []) a.0 a.2 a.1 a.4) ∙ follows.1.2 ∙ parted.1 in
        a.6 ∙ ap (λ (w : List Call). w ++ a.3) (none_taken two_links a.1 (3 ∷ 5 ∷ []) a.0 a.2 es a.4)
        ∙ last_none a.1 (open_from (3 ∷ 5 ∷ []) a.2) follows.0 a.3 parted.0 follows.2

    by : FollowsRead true 3 0 two_links (3 ∷ 5 ∷ []) NotYet [] calls y → calls ≡ []
    by (inl l) = absurd (goes_on l.0)
    by (inr a) = attended a.1
