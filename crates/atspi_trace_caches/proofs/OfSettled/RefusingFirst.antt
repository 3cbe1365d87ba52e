-- At the beginning the registry alone has names, its own.
use Rattle.std.proofs.Common.{◌≡◌, ℕ, ◌≤◌, ◌<◌, ◌^◌, Bool, true, false, List, [], ◌∷◌, None, Some, refl, sym, ap, ◌∙◌, arith, cond}
use Rattle.std.specs.Prelude.{codes, unwrap_or}
use Rattle.std.specs.Ordering.{nat_cmp, eq_by_cmp}
use Rattle.std.specs.Cmp.Lexicographic.{slice_cmp}
use Rattle.std.specs.FinMap.{get-from_sorted, nat_cmp-IsAntisymmetric}
use Rattle.atspi_base.specs.valid_names.Names.{is_unique_name}
use Rattle.std.specs.Str.Parse.{digits_value}
use Rattle.std.specs.Fmt.{decimal}
use Rattle.std.proofs.lemmas.Fmt.{decimal_is_IsNumeral}
use Rattle.atspi_names.specs.Owners.{list_of, unique_name}
use Rattle.atspi_names.proofs.ListsLemmas.{names_apart}
use Rattle.atspi_protocol.specs.ends.Places.{registry}
use Rattle.atspi_match.specs.routing.BusState.{unique_of}
use Rattle.atspi_trace.specs.World.{first_unique, first_lists, first_owners, first_world}
use Rattle.atspi_trace_laws.proofs.OfOrder.Parties.{no_none, same_some, false_true}
use Rattle.atspi_trace_laws.proofs.OfQuiet.Hello.{equal_of_tie}
use Rattle.atspi_trace_caches.proofs.OfSettled.ReplyingOwners.{IsOwner, Owned}

abbrev digits_behind : List ℕ → List ℕ
digits_behind (a ∷ (b ∷ (c ∷ ds))) = ds
digits_behind ds = ds

other_name : (n : ℕ) → 1 ≤ n → n < 2 ^ 32 → unique_name n ≡ codes ":1.0" → ⊥
other_name n more less same =
    let wide : n < 2 ^ 64 = omega (arith, less) in
    let digits : decimal n ≡ 48 ∷ [] = ap digits_behind same in
    let value : digits_value 10 (decimal n) ≡ n = (decimal_is_IsNumeral n wide).1 in
    let zero_ : 0 ≡ n = ap (digits_value 10) (sym digits) ∙ value in
    absurd (omega (arith, zero_, more))

pub owned_first : (quota : ℕ) → Owned (first_world quota).bus.state.owners
owned_first quota = record { lists = λ k name h. lists k name h; early = λ n more less. nobody n more less }
  where
    nobody : (n : ℕ) → 1 ≤ n → n < 2 ^ 32 → list_of first_owners.lists (unique_name n) ≡ []
    nobody n more less = ap (λ o. unwrap_or o []) (get-from_sorted (slice_cmp nat_cmp) first_lists (unique_name n) tt) ∙ by (eq_by_cmp (slice_cmp nat_cmp) (unique_name n) (codes ":1.0")) refl (eq_by_cmp (slice_cmp nat_cmp) (unique_name n) registry) refl
      where
        by : (b : Bool) → eq_by_cmp (slice_cmp nat_cmp) (unique_name n) (codes ":1.0") ≡ b → (c : Bool) → eq_by_cmp (slice_cmp nat_cmp) (unique_name n) registry ≡ c
            → unwrap_or {T = List (ℕ × ℕ)} (cond b (Some ((0, 0) ∷ [])) (cond c (Some ((0, 4) ∷ [])) None)) [] ≡ []
        by true g c h = absurd (other_name n more less (names_apart (unique_name n) (codes ":1.0") (equal_of_tie _ g)))
        by false g true h = absurd (false_true (ap is_unique_name (sym (names_apart (unique_name n) registry (equal_of_tie _ h)))))
        by false g false h = refl

    first_list : list_of first_owners.lists (codes ":1.0") ≡ (0, 0) ∷ []
    first_list = ap (λ o. unwrap_or o []) (get-from_sorted (slice_cmp nat_cmp) first_lists (codes ":1.0") tt)

    lists : (k : ℕ) (name : List ℕ) → unique_of first_owners k ≡ Some name → IsOwner first_owners k name
    lists k name h = by (eq_by_cmp nat_cmp k 0) refl (sym (get-from_sorted nat_cmp first_unique k tt) ∙ h)
      where
        by : (b : Bool) → eq_by_cmp nat_cmp k 0 ≡ b → cond b (Some (codes ":1.0")) None ≡ Some name → IsOwner first_owners k name
        by true g q =
            let at : k ≡ 0 = nat_cmp-IsAntisymmetric k 0 (equal_of_tie _ g) in
            let same : codes ":1.0" ≡ name = same_some (codes ":1.0") name q in
            record { flags = 0; alone = ap (list_of first_owners.lists) (sym same) ∙ first_list ∙ ap (λ c. (c, 0) ∷ []) (sym at); unique = ap is_unique_name (sym same) }
        by false g q = absurd (no_none name q)
