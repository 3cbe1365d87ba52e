use Rattle.std.proofs.Common.{◌≡◌, ℕ, List, [], ◌∷◌, ◌++◌, length, refl, sym, ap, subst, ◌∙◌, append-nil, arith, lit<}
use Rattle.atspi_auth.specs.Talk.{behind, client_start}
use Rattle.atspi_stream.specs.Stream.{AwaitsMore, HasFault, IsParted, few, in_front}
use Rattle.atspi_stream.specs.Stream as stream
use Rattle.atspi_live_examples.specs.conversation.Silent.{granted}
use Rattle.atspi_live_examples.proofs.OfConversation.Ended as ended
use Rattle.atspi_live_examples.proofs.OfConversation.Given as given
use Rattle.atspi_live_examples.proofs.conversation.going.left.Goals as goal

no_fault : (place reason : ℕ) → HasFault [] place reason → ⊥
no_fault place reason (in_front long is) = omega (arith, long)
no_fault place reason (stream.behind long sound enough is) = omega (arith, long)

pub returns-clause-taken : goal.returns-clause-taken
returns-clause-taken c e m is = (
  granted ++ m,
  append-nil (granted ++ m),
  record {
    messages = (e, m) ∷ [];
    rest = [];
    parted = record { are = (is, tt); parted = ended.behind_granted m ∙ sym (append-nil m) ∙ sym (append-nil (m ++ [])) };
    said = [];
    stands = (refl, refl);
    stops = few (lit< tt);
  },
)

pub returns-clause-not_taken : goal.returns-clause-not_taken
returns-clause-not_taken c e m is s =
    let n = ended.none_taken s.2.messages (behind client_start s.0) s.2.rest s.2.stands.0 s.2.parted in
    let same : s.2.rest ≡ m = n.0 ∙ ap (λ (t : List ℕ). behind client_start t) (sym s.1 ∙ append-nil (granted ++ m)) ∙ ended.behind_granted m in
    ended.not_awaited e m is (subst (λ (held : List ℕ). AwaitsMore held) same s.2.stops)

pub returns-clause-no_memory : goal.returns-clause-no_memory
returns-clause-no_memory c e m is = (granted ++ m, append-nil (granted ++ m), tt)

pub returns-clause-untold : goal.returns-clause-untold
returns-clause-untold c = ([], tt, record { messages = []; rest = []; parted = record { are = tt; parted = given.none_first }; said = []; stands = (refl, refl); stops = few (lit< tt) })

pub returns-clause-stands_nowhere : goal.returns-clause-stands_nowhere
returns-clause-stands_nowhere c s = s.2.stands

pub returns-clause-fault : goal.returns-clause-fault
returns-clause-fault c e m bytes place reason f = (f, ap (λ (xs : List ℕ). length xs) (sym (append-nil m)))

pub returns-clause-fault_elsewhere : goal.returns-clause-fault_elsewhere
returns-clause-fault_elsewhere c bytes place reason s = by s.1
  where
    by : ◌≡◌ {A = ℕ} 1 0 → ⊥
    by h = omega (arith, h)

pub returns-clause-no_fault : goal.returns-clause-no_fault
returns-clause-no_fault c place reason s = no_fault place reason s.0

pub returns-clause-whole_left : goal.returns-clause-whole_left
returns-clause-whole_left c e m is s = ended.not_awaited e m is s
