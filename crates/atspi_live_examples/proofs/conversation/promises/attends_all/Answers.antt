use Rattle.std.proofs.Common.{◌≡◌, ℕ, List, [], ◌∷◌, ◌++◌, sym, ap, ◌∙◌, append-nil, lit<}
use Rattle.std.specs.Prelude.{codes}
use Rattle.atspi_stream.specs.Stream.{few}
use Rattle.atspi_live_examples.proofs.OfConversation.Ended.{not_awaited}
use Rattle.atspi_live_examples.proofs.OfConversation.Logged.{held_still, takes_one}
use Rattle.atspi_live_examples.proofs.conversation.promises.attends_all.Goals as goal

pub returns-clause-one : goal.returns-clause-one
returns-clause-one c e m is = record { attends = record { messages = (e, m) ∷ []; parted = record { are = (is, tt); parted = sym (append-nil m) ∙ sym (append-nil (m ++ [])) }; took = takes_one [] [] e }; ends = few (lit< tt) }

pub returns-clause-to_a_fault : goal.returns-clause-to_a_fault
returns-clause-to_a_fault c e m bytes place reason is f = record { attends = record { messages = (e, m) ∷ []; parted = record { are = (is, tt); parted = ap (λ (xs : List ℕ). xs ++ bytes) (sym (append-nil m)) }; took = takes_one [] [] e }; ends = f }

pub returns-clause-one_left : goal.returns-clause-one_left
returns-clause-one_left c e m is a = not_awaited e m is a.ends

pub returns-clause-bytes_lost : goal.returns-clause-bytes_lost
returns-clause-bytes_lost c a = by (held_still (codes "ab") (codes "b") a.attends)
  where
    by : codes "ab" ≡ codes "b" → ⊥
    by h = cc
