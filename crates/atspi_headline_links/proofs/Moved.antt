-- How many bytes of a link acts move.
use Rattle.std.proofs.Common.{◌≡◌, ℕ, ◌+◌, Bool, true, false, List, [], ◌∷◌, ◌++◌, map, refl, sym, ap, ◌∙◌, arith}
use Rattle.std.specs.Prelude.{◌&&◌, fold, Option, None, Some, filter_map, if◌then◌else◌}
use Rattle.std.specs.List.{cons_option}
use Rattle.atspi_script_lines.specs.declared.line.Party.{Party}
use Rattle.atspi_trace.specs.Entry.{Entry}
use Rattle.atspi_trace.specs.Ends.{same_party}
use Rattle.atspi_headline.specs.Words.{Act, begins_line, moves_bytes, takes_end, writes, is_same}
use Rattle.atspi_headline.specs.Links.{is_same_way, moved_after, moved}
use Rattle.atspi_trace_laws.proofs.OfOrder.Parties.{same-party, party-same}
use Rattle.atspi_headline_laws.proofs.Reading.{same_who}

-- LISTS of acts, one behind the other
pub fold_more : {A : Type 0} (f : A → Act → A) (x : A) (xs ys : List Act) → fold f x (xs ++ ys) ≡ fold f (fold f x xs) ys
fold_more f x [] ys = refl
fold_more f x (act ∷ xs) ys = fold_more f (f x act) xs ys

pub chosen_more : {A : Type 0} (f : Act → Option A) (xs ys : List Act) → filter_map f (xs ++ ys) ≡ filter_map f xs ++ filter_map f ys
chosen_more {A = A} f [] ys = refl
chosen_more {A = A} f (x ∷ xs) ys = by (f x) (chosen_more f xs ys)
  where
    by : (o : Option A) → filter_map f (xs ++ ys) ≡ filter_map f xs ++ filter_map f ys → cons_option o (filter_map f (xs ++ ys)) ≡ cons_option o (filter_map f xs) ++ filter_map f ys
    by None h = h
    by (Some y) h = ap (λ l. y ∷ l) h

-- PARTIES
pub itself : (p : Party) → is_same p p ≡ true
itself p = same_who p p ∙ party-same p

pub another : (p q : Party) → (p ≡ q → ⊥) → is_same p q ≡ false
another p q differ = same_who p q ∙ by (same_party p q) refl
  where
    by : (b : Bool) → same_party p q ≡ b → b ≡ false
    by true h = absurd (differ (same-party p q h))
    by false h = refl

pub the_same : (p q : Party) → is_same p q ≡ true → p ≡ q
the_same p q h = same-party p q (sym (same_who p q) ∙ h)

-- BYTES
module _ (who : Party) (up : Bool) where
  added : (b : Bool) (n count : ℕ) → (if b then n + count else n) ≡ n + (if b then 0 + count else 0)
  added true n count = omega arith
  added false n count = omega arith

  after_is : (n : ℕ) (act : Act) → moved_after who up n act ≡ n + moved_after who up 0 act
  after_is n (moves_bytes other way count) = added (is_same who other && is_same_way up way) n count
  after_is n (begins_line line) = omega arith
  after_is n (takes_end other) = omega arith
  after_is n (writes entry) = omega arith

  moved_from : (n : ℕ) (acts : List Act) → fold (moved_after who up) n acts ≡ n + moved acts who up
  moved_from n [] = omega arith
  moved_from n (act ∷ acts) =
      let a : fold (moved_after who up) (moved_after who up n act) acts ≡ moved_after who up n act + moved acts who up = moved_from (moved_after who up n act) acts in
      let b : fold (moved_after who up) (moved_after who up 0 act) acts ≡ moved_after who up 0 act + moved acts who up = moved_from (moved_after who up 0 act) acts in
      let c : moved_after who up n act ≡ n + moved_after who up 0 act = after_is n act in
      a ∙ sum n (moved_after who up n act) (moved_after who up 0 act) (moved acts who up) c ∙ ap (λ k. n + k) (sym b)
    where
      sum : (n x y z : ℕ) → x ≡ n + y → x + z ≡ n + (y + z)
      sum n x y z h = omega (arith, h)

  pub moved_more : (xs ys : List Act) → moved (xs ++ ys) who up ≡ moved xs who up + moved ys who up
  moved_more xs ys = fold_more (moved_after who up) 0 xs ys ∙ moved_from (moved xs who up) ys

  pub moved_written : (es : List Entry) → moved (map writes es) who up ≡ 0
  moved_written [] = refl
  moved_written (e ∷ es) = moved_written es

  pub moved_one : (other : Party) (way : Bool) (count : ℕ) → moved (moves_bytes other way count ∷ []) who up ≡ (if is_same who other && is_same_way up way then count else 0)
  moved_one other way count = by (is_same who other && is_same_way up way)
    where
      by : (b : Bool) → (if b then 0 + count else 0) ≡ (if b then count else 0)
      by true = omega arith
      by false = refl

  pub moved_of_both : (acts : List Act) (es : List Entry) → moved (acts ++ map writes es) who up ≡ moved acts who up
  moved_of_both acts es =
      let none : moved (map writes es) who up ≡ 0 = moved_written es in
      moved_more acts (map writes es) ∙ ap (λ k. moved acts who up + k) none ∙ plus_none (moved acts who up)
    where
      plus_none : (n : ℕ) → n + 0 ≡ n
      plus_none n = omega arith

-- so many of this link, none of another
pub moved_own : (who : Party) (up : Bool) (count : ℕ) → moved (moves_bytes who up count ∷ []) who up ≡ count
moved_own who up count = moved_one who up who up count ∙ ap (λ b. if b && is_same_way up up then count else 0) (itself who) ∙ by up
  where
    by : (up : Bool) → (if is_same_way up up then count else 0) ≡ count
    by true = refl
    by false = refl

pub moved_other : (who other : Party) (up way : Bool) (count : ℕ) → (who ≡ other → ⊥) → moved (moves_bytes other way count ∷ []) who up ≡ 0
moved_other who other up way count differ = moved_one who up other way count ∙ ap (λ b. if b && is_same_way up way then count else 0) (another who other differ)

pub moved_back : (who other : Party) (count : ℕ) → moved (moves_bytes other false count ∷ []) who true ≡ 0
moved_back who other count = moved_one who true other false count ∙ by (is_same who other)
  where
    by : (b : Bool) → (if b && false then count else 0) ≡ 0
    by true = refl
    by false = refl

pub moved_forth : (who other : Party) (count : ℕ) → moved (moves_bytes other true count ∷ []) who false ≡ 0
moved_forth who other count = moved_one who false other true count ∙ by (is_same who other)
  where
    by : (b : Bool) → (if b && is_same_way false true then count else 0) ≡ 0
    by true = refl
    by false = refl

pub moved_nothing : (who other : Party) (up way : Bool) → moved (moves_bytes other way 0 ∷ []) who up ≡ 0
moved_nothing who other up way = moved_one who up other way 0 ∙ by (is_same who other && is_same_way up way)
  where
    by : (b : Bool) → ◌≡◌ {A = ℕ} (if b then 0 else 0) 0
    by true = refl
    by false = refl
