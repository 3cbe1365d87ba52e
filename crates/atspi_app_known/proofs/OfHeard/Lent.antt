-- Pairs that are lent are the same where their names' bytes and their patterns' characters are.
use Rattle.std.proofs.Common.{◌≡◌, ℕ, zero, suc, ◌+◌, ◌<◌, length, take, get_or, arith, Bool, true, false, cond, List, [], ◌∷◌, ◌++◌, map, refl, sym, ap, ◌∙◌, chars}
use Rattle.std.specs.Prelude.{bytes_eq, ◌&&◌, ◌||◌, encode_utf8_all, if◌then◌else◌}
use Rattle.std.specs.List.{list_any}
use Rattle.std.proofs.lemmas.List.{map-append}
use Rattle.std.proofs.lemmas.Slice.Eq.{bytes_eq-Decides}
use Rattle.indexmap.specs.IndexSet.{insert_key}
use Rattle.atspi_protocol.specs.exporting.Hearing.{is_pair, is_heard}
use Rattle.atspi_app_known.specs.declared.hearing.pair_ref.PairRef.{PairRef}
use Rattle.atspi_app_known.specs.hearing.Lent.{lent_pair, lent_pairs}

spelled : (y : PairRef) → encode_utf8_all (chars y.pattern.now) ≡ y.pattern.now
spelled y = (bytes_eq-Decides (encode_utf8_all (chars y.pattern.now)) y.pattern.now).0 y.spelled

same_pattern : (y z : PairRef) → bytes_eq y.pattern.now z.pattern.now ≡ bytes_eq (chars y.pattern.now) (chars z.pattern.now)
same_pattern y z = by (bytes_eq y.pattern.now z.pattern.now) refl (bytes_eq (chars y.pattern.now) (chars z.pattern.now)) refl
  where
    by : (s : Bool) → bytes_eq y.pattern.now z.pattern.now ≡ s → (t : Bool) → bytes_eq (chars y.pattern.now) (chars z.pattern.now) ≡ t → s ≡ t
    by true p true q = refl
    by false p false q = refl
    by true p false q = let h = (bytes_eq-Decides (chars y.pattern.now) (chars z.pattern.now)).1 (ap chars ((bytes_eq-Decides y.pattern.now z.pattern.now).0 p)) in absurd cc
    by false p true q =
        let h = (bytes_eq-Decides y.pattern.now z.pattern.now).1 (sym (spelled y) ∙ ap encode_utf8_all ((bytes_eq-Decides (chars y.pattern.now) (chars z.pattern.now)).0 q) ∙ spelled z) in absurd cc

pub lent_eq : (y z : PairRef) → (bytes_eq y.name.now z.name.now && bytes_eq y.pattern.now z.pattern.now) ≡ is_pair (lent_pair y) (lent_pair z)
lent_eq y z = ap (λ b. bytes_eq y.name.now z.name.now && b) (same_pattern y z)

module _ (eq : PairRef → PairRef → Bool) (same : (y z : PairRef) → eq y z ≡ is_pair (lent_pair y) (lent_pair z)) where
  pub any_lent : (ks : List PairRef) (k : PairRef) → list_any (eq k) ks ≡ is_heard (lent_pairs ks) (lent_pair k)
  any_lent [] k = refl
  any_lent (y ∷ ks) k = ap (λ b. b || list_any (eq k) ks) (same k y) ∙ ap (λ b. is_pair (lent_pair k) (lent_pair y) || b) (any_lent ks k)

  pub put_lent : (ks : List PairRef) (k : PairRef)
      → lent_pairs (insert_key eq ks k) ≡ (if is_heard (lent_pairs ks) (lent_pair k) then lent_pairs ks else lent_pairs ks ++ lent_pair k ∷ [])
  put_lent ks k = by (list_any (eq k) ks) ∙ ap (λ b. cond b (lent_pairs ks) (lent_pairs ks ++ lent_pair k ∷ [])) (any_lent ks k)
    where
      by : (b : Bool) → lent_pairs (cond b ks (ks ++ k ∷ [])) ≡ cond b (lent_pairs ks) (lent_pairs ks ++ lent_pair k ∷ [])
      by true = refl
      by false = map-append lent_pair ks (k ∷ [])

take_suc : (xs : List PairRef) (i : ℕ) (x : PairRef) → i < length xs → x ≡ get_or xs i x → lent_pairs (take (suc i) xs) ≡ lent_pairs (take i xs) ++ lent_pair x ∷ []
take_suc [] i x l e = absurd (omega arith)
take_suc (y ∷ ys) zero x l e = ap (λ (z : PairRef). lent_pair z ∷ []) (sym e)
take_suc (y ∷ ys) (suc i) x l e = ap (λ (ps : List (List ℕ × List ℕ)). lent_pair y ∷ ps) (take_suc ys i x (omega arith) e)

-- so many pairs and the next
pub lent_take : (xs : List PairRef) (i : ℕ) (x : PairRef) → i < length xs → x ≡ get_or xs i x → lent_pairs (take (i + 1) xs) ≡ lent_pairs (take i xs) ++ lent_pair x ∷ []
lent_take xs i x l e = let one : i + 1 ≡ suc i = omega arith in ap (λ n. lent_pairs (take n xs)) one ∙ take_suc xs i x l e
