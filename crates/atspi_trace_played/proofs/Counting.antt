-- What each of the parties takes of each of them, in all.
use Rattle.std.proofs.Common.{◌≡◌, ◌⊎◌, inl, inr, ℕ, zero, suc, ◌+◌, ◌<◌, ◌≤◌, List, [], ◌∷◌, ◌++◌, length, refl, sym, ap, subst, arith, length-append}
use Rattle.std.specs.List.{AllByRecursion}
use Rattle.atspi_script_lines.specs.declared.limits.TheConstants.{APP_COUNT, READER_COUNT}
use Rattle.atspi_script_lines.specs.declared.line.Party.{Party}
use Rattle.atspi_script_lines.specs.declared.line.Party.TheVariants.{Bus as The_bus, Registry, App, Reader}
use Rattle.atspi_trace.specs.Entry.{Entry, got}
use Rattle.atspi_trace_played.specs.Turns.{count_taken}
use Rattle.atspi_trace_played.proofs.Serials.{serial_if, serials, one_serial}

-- THE PARTIES OF A SCRIPT
abbrev pub IsParty : Party → Type 0
IsParty (App a) = a < APP_COUNT
IsParty (Reader r) = r < READER_COUNT
IsParty who = Unit {0}

abbrev numbered_by : (ℕ → Party) → ℕ → List Party
numbered_by party zero = []
numbered_by party (suc n) = party n ∷ numbered_by party n

abbrev pub parties : List Party
parties = The_bus ∷ Registry ∷ (numbered_by App APP_COUNT ++ numbered_by Reader READER_COUNT)

abbrev pub IsIn : Party → List Party → Type 0
IsIn who [] = ⊥
IsIn who (p ∷ ps) = (p ≡ who) ⊎ IsIn who ps

in_front : (who : Party) (ps qs : List Party) → IsIn who ps → IsIn who (ps ++ qs)
in_front who [] qs h = absurd h
in_front who (p ∷ ps) qs (inl h) = inl h
in_front who (p ∷ ps) qs (inr h) = inr (in_front who ps qs h)

in_back : (who : Party) (ps qs : List Party) → IsIn who qs → IsIn who (ps ++ qs)
in_back who [] qs h = h
in_back who (p ∷ ps) qs h = inr (in_back who ps qs h)

in_numbered : (party : ℕ → Party) (k n : ℕ) → k < n → IsIn (party k) (numbered_by party n)
in_numbered party k zero h = absurd (omega (arith, h))
in_numbered party k (suc n) h = by (last_or k n h) (in_numbered party k n)
  where
    last_or : (j m : ℕ) → j < suc m → (m ≡ j) ⊎ (j < m)
    last_or j m g = grind (arith, g)

    by : (n ≡ k) ⊎ (k < n) → (k < n → IsIn (party k) (numbered_by party n)) → IsIn (party k) (party n ∷ numbered_by party n)
    by (inl same) f = inl (ap party same)
    by (inr less) f = inr (f less)

pub each_is_in : (who : Party) → IsParty who → IsIn who parties
each_is_in The_bus h = inl refl
each_is_in Registry h = inr (inl refl)
each_is_in (App a) h = inr (inr (in_front (App a) (numbered_by App APP_COUNT) (numbered_by Reader READER_COUNT) (in_numbered App a APP_COUNT h)))
each_is_in (Reader r) h = inr (inr (in_back (Reader r) (numbered_by App APP_COUNT) (numbered_by Reader READER_COUNT) (in_numbered Reader r READER_COUNT h)))

-- SUMS
abbrev pub sum_over : (Party → ℕ) → List Party → ℕ
sum_over f [] = 0
sum_over f (p ∷ ps) = f p + sum_over f ps

pub sum_most : (f g : Party → ℕ) (ps : List Party) → ((p : Party) → f p ≤ g p) → sum_over f ps ≤ sum_over g ps
sum_most f g [] h = omega arith
sum_most f g (p ∷ ps) h =
    let first : f p ≤ g p = h p in
    let rest : sum_over f ps ≤ sum_over g ps = sum_most f g ps h in
    omega (arith, first, rest)

-- where one of them is greater
sum_more : (f g : Party → ℕ) (who : Party) (ps : List Party) → ((p : Party) → f p ≤ g p) → suc (f who) ≤ g who → IsIn who ps → suc (sum_over f ps) ≤ sum_over g ps
sum_more f g who [] h more i = absurd i
sum_more f g who (p ∷ ps) h more (inl same) =
    let first : suc (f p) ≤ g p = subst (λ q. suc (f q) ≤ g q) (sym same) more in
    let rest : sum_over f ps ≤ sum_over g ps = sum_most f g ps h in
    omega (arith, first, rest)
sum_more f g who (p ∷ ps) h more (inr i) =
    let first : f p ≤ g p = h p in
    let rest : suc (sum_over f ps) ≤ sum_over g ps = sum_more f g who ps h more i in
    omega (arith, first, rest)

-- ALL THAT IS TAKEN
abbrev pub count_between : List Entry → Party → Party → ℕ
count_between es who from = length (serials who from es)

abbrev pub count_by : List Entry → Party → ℕ
count_by es who = sum_over (count_between es who) parties

abbrev pub count_all : List Entry → ℕ
count_all es = sum_over (count_by es) parties

-- what is taken by one of the parties of one of them, with a serial of 32 bits
abbrev pub GotFits : Entry → Type 0
GotFits (got taker sender s) = IsParty taker × IsParty sender × (s < 4294967296)
GotFits entry = Unit {0}

longer : (who from : Party) (x : Entry) (xs : List Entry) → count_between xs who from ≤ count_between (x ∷ xs) who from
longer who from x xs = let sum = length-append (serial_if who from x) (serials who from xs) in omega (arith, sum)

longer_by : (who : Party) (x : Entry) (xs : List Entry) → count_by xs who ≤ count_by (x ∷ xs) who
longer_by who x xs = sum_most (count_between xs who) (count_between (x ∷ xs) who) parties (λ from. longer who from x xs)

longer_all : (x : Entry) (xs : List Entry) → count_all xs ≤ count_all (x ∷ xs)
longer_all x xs = sum_most (count_by xs) (count_by (x ∷ xs)) parties (λ who. longer_by who x xs)

one_longer : (taker sender : Party) (s : ℕ) (xs : List Entry) → suc (count_between xs taker sender) ≤ count_between (got taker sender s ∷ xs) taker sender
one_longer taker sender s xs = subst (λ l. suc (length (serials taker sender xs)) ≤ length (l ++ serials taker sender xs)) (sym (one_serial taker sender s)) (at_most (suc (length (serials taker sender xs))))
  where
    at_most : (n : ℕ) → n ≤ n
    at_most n = omega arith

one_more : (taker sender : Party) (s : ℕ) (xs : List Entry) → IsParty taker → IsParty sender → suc (count_all xs) ≤ count_all (got taker sender s ∷ xs)
one_more taker sender s xs t f =
    let x : Entry = got taker sender s in
    sum_more (count_by xs) (count_by (x ∷ xs)) taker parties (λ who. longer_by who x xs)
    (sum_more (count_between xs taker) (count_between (x ∷ xs) taker) sender parties (λ from. longer taker from x xs) (one_longer taker sender s xs) (each_is_in sender f)) (each_is_in taker t)

pub all_counted : (es : List Entry) → AllByRecursion GotFits es → count_taken es ≤ count_all es
all_counted [] a = omega arith
all_counted (got taker sender s ∷ es) a =
    let rest : count_taken es ≤ count_all es = all_counted es a.1 in
    let more : suc (count_all es) ≤ count_all (got taker sender s ∷ es) = one_more taker sender s es a.0.0 a.0.1 in
    up (count_taken es) (count_all es) (count_all (got taker sender s ∷ es)) rest more
  where
    up : (a b c : ℕ) → a ≤ b → suc b ≤ c → suc a ≤ c
    up a b c p q = omega (arith, p, q)
all_counted (x ∷ es) a = up (count_taken es) (count_all es) (count_all (x ∷ es)) (all_counted es a.1) (longer_all x es)
  where
    up : (a b c : ℕ) → a ≤ b → b ≤ c → a ≤ c
    up a b c p q = omega (arith, p, q)

-- no pair more than so many
pub all_most : (es : List Entry) → ((who from : Party) → count_between es who from ≤ 4294967296) → count_all es ≤ 2078764171264
all_most es h = sum_most (count_by es) (λ who. sum_over (λ from. 4294967296) parties) parties (λ who. sum_most (count_between es who) (λ from. 4294967296) parties (h who))
