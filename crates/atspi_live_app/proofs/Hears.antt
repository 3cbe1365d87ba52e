-- Behind how many messages each line was done, by what the reads before it took.
use Rattle.std.proofs.Common.{◌≡◌, ◌<◌, ℕ, ◌+◌, List, [], ◌∷◌, ◌++◌, length, take, Option, None, Some, refl, sym, ap, subst, ◌∙◌, append-nil, length-append, take_at, arith}
use Rattle.std.specs.Prelude.{⊤}
use Rattle.std.specs.List.{concat}
use Rattle.std.proofs.lemmas.List.{take-append-le}
use Rattle.atspi_live_host.specs.declared.call.Call.{Call}
use Rattle.atspi_live_host.specs.Calls.{taken}
use Rattle.atspi_live_conversation.specs.Moved.{Tells}
use Rattle.atspi_live_conversation.specs.Rounds.{Makes}
use Rattle.atspi_live_app.specs.Pace.{HasWhole, Heard, total}
use Rattle.atspi_live_app.specs.Turns.{pieces}
use Rattle.atspi_live_app.proofs.Pieces.{HasRead, all_taken, count_pieces, pieces_both}

-- behind so many reads the first of these lines was done, and before each one so many messages were whole
abbrev pub AllHeard : List (List ℕ) → ℕ → List (List ℕ × ℕ) → List ℕ → Type 0
AllHeard reads n [] [] = ⊤
AllHeard reads n [] (m ∷ ms) = ⊥
AllHeard reads n (t ∷ ts) [] = ⊥
AllHeard reads n (t ∷ ts) (m ∷ ms) = (n < length reads) × HasWhole (concat (take n reads)) m × AllHeard reads (n + t.1) ts ms

-- the same of so many reads, where a host tells its calls
abbrev pub AllHeardBy : ℕ → Option (List Call) → ℕ → List (List ℕ × ℕ) → List ℕ → Type 0
AllHeardBy k None n ts ms = ⊤
AllHeardBy k (Some cs) n ts ms = (length (pieces k cs) ≡ n) × AllHeard (pieces k cs) 0 ts ms

pub same_count : (reads : List (List ℕ)) (n : ℕ) (ts : List (List ℕ × ℕ)) (ms : List ℕ) → AllHeard reads n ts ms → length ts ≡ length ms
same_count reads n [] [] h = refl
same_count reads n [] (m ∷ ms) h = absurd h
same_count reads n (t ∷ ts) [] h = absurd h
same_count reads n (t ∷ ts) (m ∷ ms) h = omega (arith, same_count reads (n + t.1) ts ms h.2)

-- more reads
later : (reads more : List (List ℕ)) (n : ℕ) (ts : List (List ℕ × ℕ)) (ms : List ℕ) → AllHeard reads n ts ms → AllHeard (reads ++ more) n ts ms
later reads more n [] [] h = tt
later reads more n [] (m ∷ ms) h = absurd h
later reads more n (t ∷ ts) [] h = absurd h
later reads more n (t ∷ ts) (m ∷ ms) h = (
  omega (arith, h.0, length-append reads more),
  subst (λ (w : List (List ℕ)). HasWhole (concat w) m) (sym (take-append-le n reads more (omega (arith, h.0)))) h.1,
  later reads more (n + t.1) ts ms h.2,
)

-- one more line
one_more : (reads : List (List ℕ)) (n : ℕ) (ts : List (List ℕ × ℕ)) (ms : List ℕ) (t : List ℕ × ℕ) (m at : ℕ) → AllHeard reads n ts ms → at ≡ n + total ts → at < length reads → HasWhole (concat (take at reads)) m
    → AllHeard reads n (ts ++ t ∷ []) (ms ++ m ∷ [])
one_more reads n [] [] t m at h e few w =
    let same : at ≡ n = omega (arith, e) in
    (omega (arith, same, few), subst (λ (x : ℕ). HasWhole (concat (take x reads)) m) same w, tt)
one_more reads n [] (x ∷ xs) t m at h e few w = absurd h
one_more reads n (y ∷ ys) [] t m at h e few w = absurd h
one_more reads n (y ∷ ys) (x ∷ xs) t m at h e few w = (h.0, h.1, one_more reads (n + y.1) ys xs t m at h.2 (omega (arith, e)) few w)

-- before the first round
pub heard_first : (k : ℕ) (calls : Option (List Call)) → Tells k calls [] [] [] → AllHeardBy k calls 0 [] []
heard_first k None fresh = tt
heard_first k (Some cs) fresh = (omega (arith, count_pieces k cs, ap (λ (x : List _). length x) fresh.2), tt)

-- a round more
pub heard_on : (k n : ℕ) (old new : Option (List Call)) (ts : List (List ℕ × ℕ)) (ms : List ℕ) → AllHeardBy k old n ts ms → HasRead k old new → AllHeardBy k new (n + 1) ts ms
heard_on k n old None ts ms h one = tt
heard_on k n None (Some ds) ts ms h one = absurd one
heard_on k n (Some cs) (Some ds) ts ms h one =
    let now : pieces k ds ≡ pieces k cs ++ one.1.0 ∷ [] = ap (pieces k) one.2 ∙ pieces_both k cs one.0 ∙ ap (λ (w : List (List ℕ)). pieces k cs ++ w) one.1.1 in (
      omega (arith, ap (λ (w : List (List ℕ)). length w) now, length-append (pieces k cs) (one.1.0 ∷ []), h.0),
      subst (λ (w : List (List ℕ)). AllHeard w 0 ts ms) (sym now) (later (pieces k cs) (one.1.0 ∷ []) 0 ts ms h.1),
    )

-- and a line before it
pub heard_next : (k n count : ℕ) (old new : Option (List Call)) (ts : List (List ℕ × ℕ)) (t : List ℕ × ℕ) (ms : List ℕ) → AllHeardBy k old n ts ms → Heard k old count → total ts ≡ n → HasRead k old new
    → AllHeardBy k new (n + 1) (ts ++ t ∷ []) (ms ++ count ∷ [])
heard_next k n count old None ts t ms h behind e one = tt
heard_next k n count None (Some ds) ts t ms h behind e one = absurd one
heard_next k n count (Some cs) (Some ds) ts t ms h behind e one =
    let now : pieces k ds ≡ pieces k cs ++ one.1.0 ∷ [] = ap (pieces k) one.2 ∙ pieces_both k cs one.0 ∙ ap (λ (w : List (List ℕ)). pieces k cs ++ w) one.1.1 in
    let more : length (pieces k cs ++ one.1.0 ∷ []) ≡ n + 1 = omega (arith, length-append (pieces k cs) (one.1.0 ∷ []), h.0) in
    let front : concat (take n (pieces k cs ++ one.1.0 ∷ [])) ≡ taken k cs = ap concat (take_at (pieces k cs) (one.1.0 ∷ []) n h.0) ∙ all_taken k cs in (
      ap (λ (w : List (List ℕ)). length w) now ∙ more,
      subst (λ (w : List (List ℕ)). AllHeard w 0 (ts ++ t ∷ []) (ms ++ count ∷ [])) (sym now)
          (one_more (pieces k cs ++ one.1.0 ∷ []) 0 ts ms t count n (later (pieces k cs) (one.1.0 ∷ []) 0 ts ms h.1) (omega (arith, e)) (omega (arith, more)) (subst (λ (w : List ℕ). HasWhole w count) (sym front) behind)),
    )

-- no call more
pub heard_same : (k n : ℕ) (old new : Option (List Call)) (ts : List (List ℕ × ℕ)) (ms : List ℕ) → AllHeardBy k old n ts ms → Makes old new (λ (calls : List Call). calls ≡ []) → AllHeardBy k new n ts ms
heard_same k n old None ts ms h none = tt
heard_same k n None (Some ds) ts ms h none = absurd none
heard_same k n (Some cs) (Some ds) ts ms h none =
    let same : ds ≡ cs = none.2 ∙ ap (λ (w : List Call). cs ++ w) none.1 ∙ append-nil cs in subst (λ (w : List Call). AllHeardBy k (Some w) n ts ms) (sym same) h
