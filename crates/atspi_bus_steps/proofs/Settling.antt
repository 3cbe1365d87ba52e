-- Closings, one after the other.
use Rattle.std.proofs.Common.{◌≡◌, ℕ, zero, suc, ◌+◌, ◌<◌, ◌≤◌, List, [], ◌∷◌, refl, sym, ap, ◌∙◌, arith}
use Rattle.atspi_match.specs.declared.routing.closing.Why.{Why}
use Rattle.atspi_match.specs.routing.Queues.{Bus, settled, one_closed, closed}

pub settled_none : (k : ℕ) (b : Bus) → b.waiting.due ≡ [] → settled k b ≡ b
settled_none zero b none = refl
settled_none (suc k) b none = ap (λ d. settled k (one_closed b d)) none ∙ settled_none k b none

pub settled_first : (k : ℕ) (b : Bus) (first : ℕ × Why) (rest : List (ℕ × Why)) → b.waiting.due ≡ first ∷ rest → settled (suc k) b ≡ settled k (closed b first.0 first.1)
settled_first k b first rest is = ap (λ d. settled k (one_closed b d)) is

more : (n k : ℕ) → n ≤ n + k
more n k = omega arith

closed_rises : (b : Bus) (due : List (ℕ × Why)) → b.state.next ≤ (one_closed b due).state.next
closed_rises b [] = omega arith
closed_rises b (first ∷ rest) = more b.state.next _

along : (a b c : ℕ) → a ≤ b → b ≤ c → a ≤ c
along a b c p q = omega arith

-- the next number never falls
pub settled_rises : (k : ℕ) (b : Bus) → b.state.next ≤ (settled k b).state.next
settled_rises zero b = omega arith
settled_rises (suc k) b = along _ _ _ (closed_rises b b.waiting.due) (settled_rises k (one_closed b b.waiting.due))

-- so many rounds are left, and what they come to
pub record IsSettling (rounds done : ℕ) (first b : Bus) : Type 0 where
  pub left_ : ℕ
  pub count : left_ + done ≡ rounds
  pub same : settled left_ b ≡ settled rounds first

pub settling-start : (rounds : ℕ) (b : Bus) → IsSettling rounds 0 b b
settling-start rounds b = record { left_ = rounds; count = omega arith; same = refl }

pub settling-next : (rounds done : ℕ) (first b next : Bus) (due : ℕ × Why) (rest : List (ℕ × Why)) → done < rounds → IsSettling rounds done first b
    → b.waiting.due ≡ due ∷ rest → next ≡ closed b due.0 due.1 → IsSettling rounds (done + 1) first next
settling-next rounds done first b next due rest lt was is new = by was.left_ was.count was.same
  where
    by : (k : ℕ) → k + done ≡ rounds → settled k b ≡ settled rounds first → IsSettling rounds (done + 1) first next
    by zero count same = absurd (omega arith)
    by (suc k) count same = record { left_ = k; count = omega arith; same = ap (settled k) new ∙ sym (settled_first k b due rest is) ∙ same }

pub settling-spent : (rounds done : ℕ) (first b : Bus) (due : ℕ × Why) (rest : List (ℕ × Why)) → done < rounds → IsSettling rounds done first b
    → b.waiting.due ≡ due ∷ rest → 4294967296 < (closed b due.0 due.1).state.next → 4294967296 < (settled rounds first).state.next
settling-spent rounds done first b due rest lt was is over = by was.left_ was.count was.same
  where
    by : (k : ℕ) → k + done ≡ rounds → settled k b ≡ settled rounds first → 4294967296 < (settled rounds first).state.next
    by zero count same = absurd (omega arith)
    by (suc k) count same =
        let e = ap (λ (x : Bus). x.state.next) (sym (settled_first k b due rest is) ∙ same) in
        let le = settled_rises k (closed b due.0 due.1) in
        omega arith

pub settling-none : (rounds done : ℕ) (first b : Bus) → IsSettling rounds done first b → b.waiting.due ≡ [] → b ≡ settled rounds first
settling-none rounds done first b was none = sym (settled_none was.left_ b none) ∙ was.same

pub settling-end : (rounds done : ℕ) (first b : Bus) → IsSettling rounds done first b → rounds ≤ done → b ≡ settled rounds first
settling-end rounds done first b was le = by was.left_ was.count was.same
  where
    by : (k : ℕ) → k + done ≡ rounds → settled k b ≡ settled rounds first → b ≡ settled rounds first
    by zero count same = same
    by (suc k) count same = absurd (omega arith)
