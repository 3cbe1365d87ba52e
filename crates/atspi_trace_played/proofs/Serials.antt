-- The serials that one party took of another, in the order of taking.
use Rattle.std.proofs.Common.{◌≡◌, ℕ, suc, ◌+◌, ◌<◌, ◌≤◌, Bool, true, false, List, [], ◌∷◌, ◌++◌, length, refl, sym, ap, ◌∙◌, arith}
use Rattle.std.specs.Prelude.{◌&&◌, if◌then◌else◌}
use Rattle.std.specs.List.{AllByRecursion}
use Rattle.std.proofs.lemmas.List.{append-nil, append_assoc}
use Rattle.atspi_script_lines.specs.declared.line.Party.{Party}
use Rattle.atspi_trace.specs.Entry.{Entry, got}
use Rattle.atspi_trace.specs.World.{Letter}
use Rattle.atspi_trace.specs.Ends.{same_party}
use Rattle.atspi_trace_laws.proofs.OfOrder.Parties.{same-party, party-same}
use Rattle.atspi_trace_laws.proofs.OfTaken.LawTaken.{NotGot}
use Rattle.atspi_trace_laws.proofs.OfTurns.Rising.{Rises}

abbrev pub serial_if : Party → Party → Entry → List ℕ
serial_if who from (got taker sender s) = if same_party taker who && same_party sender from then s ∷ [] else []
serial_if who from entry = []

abbrev pub serials : Party → Party → List Entry → List ℕ
serials who from [] = []
serials who from (x ∷ xs) = serial_if who from x ++ serials who from xs

-- what stands on a down link as it would be taken
abbrev pub coming : Party → List Letter → List Entry
coming who [] = []
coming who (l ∷ ls) = got who l.from l.said.message.serial ∷ coming who ls

pub coming_more : (who : Party) (ls ks : List Letter) → coming who (ls ++ ks) ≡ coming who ls ++ coming who ks
coming_more who [] ks = refl
coming_more who (l ∷ ls) ks = ap (λ xs. got who l.from l.said.message.serial ∷ xs) (coming_more who ls ks)

pub serials_more : (who from : Party) (xs ys : List Entry) → serials who from (xs ++ ys) ≡ serials who from xs ++ serials who from ys
serials_more who from [] ys = refl
serials_more who from (x ∷ xs) ys = ap (λ l. serial_if who from x ++ l) (serials_more who from xs ys) ∙ sym (append_assoc (serial_if who from x) (serials who from xs) (serials who from ys))

none_if : (who from : Party) (x : Entry) → NotGot x → serial_if who from x ≡ []
none_if who from (got taker sender s) n = absurd n
none_if who from entry n = refl

pub no_serials : (who from : Party) (ys : List Entry) → AllByRecursion NotGot ys → serials who from ys ≡ []
no_serials who from [] n = refl
no_serials who from (y ∷ ys) n = ap (λ l. l ++ serials who from ys) (none_if who from y n.0) ∙ no_serials who from ys n.1

-- entries of which none is counted
pub same_serials : (who from : Party) (es ys : List Entry) → serials who from ys ≡ [] → serials who from (es ++ ys) ≡ serials who from es
same_serials who from es ys n = serials_more who from es ys ∙ ap (λ l. serials who from es ++ l) n ∙ append-nil (serials who from es)

pub one_serial : (who from : Party) (s : ℕ) → serial_if who from (got who from s) ≡ s ∷ []
one_serial who from s = ap (λ b. if b then s ∷ [] else []) (ap (λ b. b && same_party from from) (party-same who) ∙ party-same from)

pub other_taker : (who from taker sender : Party) (s : ℕ) → (taker ≡ who → ⊥) → serial_if who from (got taker sender s) ≡ []
other_taker who from taker sender s differ = by (same_party taker who) refl
  where
    by : (b : Bool) → same_party taker who ≡ b → (if b && same_party sender from then s ∷ [] else []) ≡ []
    by true h = absurd (differ (same-party taker who h))
    by false h = refl

pub other_sender : (who from taker sender : Party) (s : ℕ) → (sender ≡ from → ⊥) → serial_if who from (got taker sender s) ≡ []
other_sender who from taker sender s differ = by (same_party taker who) (same_party sender from) refl
  where
    by : (a b : Bool) → same_party sender from ≡ b → (if a && b then s ∷ [] else []) ≡ []
    by a true h = absurd (differ (same-party sender from h))
    by true false h = refl
    by false false h = refl

-- NUMBERS THAT RISE
pub rises_front : (low high : ℕ) (xs ys : List ℕ) → Rises low high (xs ++ ys) → Rises low high xs
rises_front low high [] ys r = tt
rises_front low high (x ∷ xs) ys r = (r.0, r.1, rises_front (suc x) high xs ys r.2)

pub rises_below : (low high n : ℕ) (xs : List ℕ) → AllByRecursion (λ x. x < n) xs → Rises low high xs → Rises low n xs
rises_below low high n [] a r = tt
rises_below low high n (x ∷ xs) a r = (r.0, a.0, rises_below (suc x) high n xs a.1 r.2)

pub rises_length : (low high : ℕ) (xs : List ℕ) → low ≤ high → Rises low high xs → low + length xs ≤ high
rises_length low high [] h r = omega (arith, h)
rises_length low high (x ∷ xs) h r =
    let first : low ≤ x = r.0 in
    let less : x < high = r.1 in
    let rest : suc x + length xs ≤ high = rises_length (suc x) high xs (omega (arith, less)) r.2 in
    omega (arith, first, rest)
