-- HOW MANY REPLIES A STEP OF THE BUS HANDS OUT to a reader: one for a call of its, or for one of its open calls, which is open no longer; and each call of its that is handed to another is open there.
use Rattle.std.proofs.Common.{◌≡◌, ◌⊎◌, ℕ, ◌+◌, ◌<◌, ◌≤◌, ◌^◌, Bool, true, false, List, [], ◌∷◌, ◌++◌, Option, None, Some, refl, ap, ◌∙◌, subst, arith}
use Rattle.std.specs.Prelude.{◌==◌, ◌&&◌, codes, Result, Ok, Err}
use Rattle.std.specs.List.{AllByRecursion}
use Rattle.std.specs.FinMap as finmap
use Rattle.std.proofs.lemmas.List.{append-nil}
use Rattle.atspi_types.specs.Data.{text_data}
use Rattle.atspi_message.specs.Envelope.{Envelope}
use Rattle.atspi_match.specs.declared.condition.Condition.{Condition}
use Rattle.atspi_names.specs.Owners.{unique_name, after_hello}
use Rattle.atspi_match.specs.declared.routing.member.BusMember.{BusMember}
use Rattle.atspi_match.specs.routing.BusState.{BusState, unique_of, text_or_empty}
use Rattle.atspi_match.specs.routing.Answers.{returns, fails, Answer, only, answers}
use Rattle.atspi_match.specs.routing.Members.{member_of}
use Rattle.atspi_match.specs.routing.OwnMessages.{name_acquired, owner_changed}
use Rattle.atspi_match.specs.routing.Routing.{owners_of, is_for_bus, is_reply}
use Rattle.atspi_match.specs.routing.Steps.{BusStep, speaks, replies, answered, called, undeliverable, greets}
use Rattle.atspi_trace_laws.proofs.OfOrder.Parties.{all_append}
use Rattle.atspi_trace_laws.proofs.OfNames.Naming.{called_same, hello_here}
use Rattle.atspi_trace_caches.proofs.OfSettled.ReplyingOwners.{Owned, called_owned, greets_owned}
use Rattle.atspi_trace_played.proofs.ReplyingTally.{one_if, tally, replies_to, calls_as, calls_from, replies_for, opens, opens_at, given}
use Rattle.atspi_trace_played.proofs.ReplyingSays.{IsNews, told_news, acquired_news, spoken_given, spoken_called}

-- WHAT IS KNOWN of who has the name u, or will: nobody else has; what replies to it goes there; and a reply to one of its calls answers an open call
pub record Knows (s : BusState) (j k n : ℕ) (u : Option (List ℕ)) (m : Envelope) : Type 0 where
  pub owned : Owned s.owners
  pub its : (name : List ℕ) → unique_of s.owners k ≡ Some name → u ≡ Some name
  pub one : (name : List ℕ) → u ≡ Some name → unique_of s.owners j ≡ Some name → j ≡ k
  pub to : is_reply m ≡ true → (name : List ℕ) → m.destination ≡ Some name → is_for_bus m ≡ false → owners_of s name ≡ [] ⊎ ((c : ℕ) × (owners_of s name ≡ c ∷ []) × (unique_of s.owners c ≡ Some name))
  pub is_open : replies_for u n m ≡ true → 1 ≤ tally (opens_at k n j) s.calls

pub record StepFine (s : BusState) (j k n : ℕ) (u : Option (List ℕ)) (m : Envelope) (step : BusStep) : Type 0 where
  pub mine : given (replies_to n) k step.moves + tally (opens k n) step.state.calls ≤ tally (opens k n) s.calls + one_if ((j == k) && calls_as n m)
  pub theirs : (x : ℕ) → given (calls_from u n) x step.moves + tally (opens_at k n x) s.calls ≤ tally (opens_at k n x) step.state.calls + one_if ((j == x) && replies_for u n m)

module _ (s : BusState) (j k n : ℕ) (u : Option (List ℕ)) (m : Envelope) where
  -- a step that leaves the open calls
  pub leaves_open : (step : BusStep) → step.state.calls ≡ s.calls → given (replies_to n) k step.moves ≤ one_if ((j == k) && calls_as n m) → ((x : ℕ) → given (calls_from u n) x step.moves ≡ 0) → StepFine s j k n u m step
  leaves_open step same few none = record {
    mine = first (given (replies_to n) k step.moves) (tally (opens k n) step.state.calls) (tally (opens k n) s.calls) (one_if ((j == k) && calls_as n m)) (ap (tally (opens k n)) same) few;
    theirs = λ x. second (given (calls_from u n) x step.moves) (tally (opens_at k n x) s.calls) (tally (opens_at k n x) step.state.calls) (one_if ((j == x) && replies_for u n m)) (none x) (ap (tally (opens_at k n x)) same);
  }
    where
      first : (a b c d : ℕ) → b ≡ c → a ≤ d → a + b ≤ c + d
      first a b c d h g = omega (arith, h, g)

      second : (a b c d : ℕ) → a ≡ 0 → c ≡ b → a + b ≤ c + d
      second a b c d h g = omega (arith, h, g)

  pub silent : (step : BusStep) → step.state.calls ≡ s.calls → ((p : Envelope → Bool) (x : ℕ) → given p x step.moves ≡ 0) → StepFine s j k n u m step
  silent step same none = leaves_open step same (low (given (replies_to n) k step.moves) (one_if ((j == k) && calls_as n m)) (none (replies_to n) k)) (none (calls_from u n))
    where
      low : (a b : ℕ) → a ≡ 0 → a ≤ b
      low a b h = omega (arith, h)

-- its sender's name does not matter there
calls_same : (n : ℕ) (m : Envelope) (own : List ℕ) → calls_as n (record m { sender = Some own }) ≡ calls_as n m
calls_same n m own = refl

-- HELLO
pub greets_fine : (s : BusState) (j k n : ℕ) (u : Option (List ℕ)) (m : Envelope) → s.owners.given < 2 ^ 32 → unique_of s.owners j ≡ None → Owned s.owners → StepFine s j k n u m (greets s j m)
greets_fine s j k n u m small none owned =
    leaves_open s j k n u m (greets s j m) refl (spoken_given n k j after m (unique_name s.owners.given) (returns (text_data name ∷ [])) [] news (greets_owned s j m small none owned) (hello_here s j m) tt all)
    (λ x. spoken_called u n x j after m (returns (text_data name ∷ [])) [] news tt all)
  where
    after : BusState
    after = record s { owners = after_hello s.owners j }

    name : List ℕ
    name = text_or_empty (unique_of after.owners j)

    news : List Envelope
    news = name_acquired after.owners name (Some j) ++ owner_changed name [] name ∷ []

    all : AllByRecursion IsNews news
    all = all_append IsNews (name_acquired after.owners name (Some j)) (owner_changed name [] name ∷ []) (acquired_news after.owners name (Some j)) (refl, tt)

-- A CALL TO THE BUS
pub called_fine : (s : BusState) (j k n : ℕ) (u : Option (List ℕ)) (m : Envelope) (own : List ℕ) (rule : Option (List Condition)) → unique_of s.owners j ≡ Some own → Owned s.owners → StepFine s j k n u m (called s j m rule)
called_fine s j k n u m own rule named owned = by (member_of m) refl (called_owned s j m rule owned) (ap (λ x. finmap.get x j) (called_same s j m rule).0 ∙ named)
  where
    answer_fine : (a : Answer) → AllByRecursion IsNews a.told → Owned a.owners → unique_of a.owners j ≡ Some own → StepFine s j k n u m (answered s j m a)
    answer_fine a news o h =
        let after : BusState = record s { owners = a.owners; rules = a.rules } in
        leaves_open s j k n u m (answered s j m a) refl
        (subst (λ l. given (replies_to n) k (speaks after (a.told ++ l)).moves ≤ one_if ((j == k) && calls_as n m)) (append-nil (replies after j m a.reply)) (spoken_given n k j after m own a.reply a.told [] o h news tt))
        (λ x. subst (λ l. given (calls_from u n) x (speaks after (a.told ++ l)).moves ≡ 0) (append-nil (replies after j m a.reply)) (spoken_called u n x j after m a.reply a.told [] news tt))

    by : (r : Result BusMember (List ℕ)) → member_of m ≡ r → Owned (called s j m rule).state.owners → unique_of (called s j m rule).state.owners j ≡ Some own → StepFine s j k n u m (called s j m rule)
    by (Ok member) g = rw g (λ o h. answer_fine (answers member s j m.body rule) (told_news member s j m.body rule) o h)
    by (Err word) g = rw g (λ o h. answer_fine (only s (fails word)) tt o h)

-- A CALL TO A NAME that nobody has
pub undelivered_fine : (s : BusState) (j k n : ℕ) (u : Option (List ℕ)) (m : Envelope) (own : List ℕ) → unique_of s.owners j ≡ Some own → Owned s.owners → StepFine s j k n u m (undeliverable s j m)
undelivered_fine s j k n u m own named owned =
    leaves_open s j k n u m (undeliverable s j m) refl
    (subst (λ l. given (replies_to n) k (speaks s l).moves ≤ one_if ((j == k) && calls_as n m)) (append-nil (replies s j m (fails (codes "ServiceUnknown"))))
    (spoken_given n k j s m own (fails (codes "ServiceUnknown")) [] [] owned named tt tt))
    (λ x. subst (λ l. given (calls_from u n) x (speaks s l).moves ≡ 0) (append-nil (replies s j m (fails (codes "ServiceUnknown")))) (spoken_called u n x j s m (fails (codes "ServiceUnknown")) [] [] tt tt))
