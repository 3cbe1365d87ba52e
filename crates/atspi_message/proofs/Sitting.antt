-- Values that have a spelling at a place have one at any place where they are short.
use Rattle.std.proofs.Common.{ℕ, zero, suc, ◌+◌, ◌<◌, ◌≤◌, ◌^◌, List, [], ◌∷◌, ◌++◌, length, refl, sym, subst, encode_utf8_all, length-append, arith}
use Rattle.std.specs.Int.{w32}
use Rattle.atspi_types.specs.Kinds.{Kind, alignment}
use Rattle.atspi_types.specs.Signatures.{signature_bytes}
use Rattle.atspi_types.specs.Data.{Data, Items, Entries, number_data, boolean_data, text_data, path_data, signature_data, array_data, structure_data, dictionary_data, variant_data, item, no_items, entry, no_entries, type_of, types_of, IsWellTyped, AreWellTyped, AllHaveType, AllHaveTypes}
use Rattle.atspi_types.specs.declared.fault.Order.{Order}
use Rattle.atspi_marshal.specs.Input.{number_bytes, aligned}
use Rattle.atspi_marshal.specs.Spelling.{padding, counted, counted_short, start_of, array_spelling, single, spelling, spellings, entry_spellings, Fits, AllFit, FieldsFit, EntriesFit}
use Rattle.atspi_message.specs.Sits.{Sits, AllSit, EntriesSit}

-- what has a spelling sits

mutual
  pub sits : (d : Data) (o : Order) (levels at : ℕ) → IsWellTyped d → Fits o levels at d (type_of d) → Sits d levels
  sits (number_data n x) o zero at typed h = h.1
  sits (number_data n x) o (suc levels) at typed h = h.1
  sits (boolean_data b) o zero at typed h = tt
  sits (boolean_data b) o (suc levels) at typed h = tt
  sits (text_data cs) o zero at typed h = (h.0, h.1)
  sits (text_data cs) o (suc levels) at typed h = (h.0, h.1)
  sits (path_data bytes) o zero at typed h = h.0
  sits (path_data bytes) o (suc levels) at typed h = h.0
  sits (signature_data ks) o zero at typed h = h
  sits (signature_data ks) o (suc levels) at typed h = h
  sits (array_data k ds) o zero at typed h = absurd h
  sits (array_data k ds) o (suc levels) at typed h = all_sit ds o levels (start_of (alignment k) at) k typed.1 h.2
  sits (structure_data ds) o zero at typed h = absurd h
  sits (structure_data no_items) o (suc levels) at typed h = absurd typed
  sits (structure_data (item d ds)) o (suc levels) at typed h =
      (sits d o levels (aligned 8 at) typed.0 h.0, fields_sit ds o levels (aligned 8 at + length (spelling o (aligned 8 at) d)) typed.1 h.1)
  sits (dictionary_data k v es) o zero at typed h = absurd h
  sits (dictionary_data k v es) o (suc levels) at typed h = entries_sit es o levels (start_of 8 at) k v typed.2 h.3
  sits (variant_data k d) o zero at typed h = absurd h
  sits (variant_data k d) o (suc levels) at typed h = (
    h.0,
    sits d o levels (at + 2 + length (signature_bytes (single k))) typed.2
        (subst (λ (t : Kind). Fits o levels (at + 2 + length (signature_bytes (single k))) d t) (sym typed.1) h.1),
  )

  pub fields_sit : (ds : Items) (o : Order) (levels at : ℕ) → AreWellTyped ds → FieldsFit o levels at ds (types_of ds) → AllSit ds levels
  fields_sit no_items o levels at typed h = tt
  fields_sit (item d ds) o levels at typed h = (sits d o levels at typed.0 h.0, fields_sit ds o levels (at + length (spelling o at d)) typed.1 h.1)

  pub all_sit : (ds : Items) (o : Order) (levels at : ℕ) (k : Kind) → AllHaveType k ds → AllFit o levels at ds k → AllSit ds levels
  all_sit no_items o levels at k typed h = tt
  all_sit (item d ds) o levels at k typed h =
      (sits d o levels at typed.1 (subst (λ (t : Kind). Fits o levels at d t) (sym typed.0) h.0), all_sit ds o levels (at + length (spelling o at d)) k typed.2 h.1)

  entries_sit : (es : Entries) (o : Order) (levels at : ℕ) (k v : Kind) → AllHaveTypes k v es → EntriesFit o levels at es k v → EntriesSit es levels
  entries_sit no_entries o levels at k v typed h = tt
  entries_sit (entry c d es) o zero at k v typed h = absurd h
  entries_sit (entry c d es) o (suc levels) at k v typed h =
      let key = aligned 8 at in
      let value = key + length (spelling o key c) in (
        sits c o levels key typed.2 (subst (λ (t : Kind). Fits o levels key c t) (sym typed.0) h.0),
        sits d o levels value typed.3 (subst (λ (t : Kind). Fits o levels value d t) (sym typed.1) h.1),
        entries_sit es o (suc levels) (value + length (spelling o value d)) k v typed.4 h.2,
      )

-- parts of what is short are short

behind : (xs ys : List ℕ) → length (xs ++ ys) ≤ 67108864 → length ys ≤ 67108864
behind xs ys h = omega (arith, h, length-append xs ys)

before : (xs ys : List ℕ) → length (xs ++ ys) ≤ 67108864 → length xs ≤ 67108864
before xs ys h = omega (arith, h, length-append xs ys)

few : (o : Order) (at : ℕ) (bytes : List ℕ) → length (counted o at bytes) ≤ 67108864 → length bytes < 2 ^ 32
few o at bytes h =
    let number = number_bytes o w32 (length bytes) in
    omega (arith, h, length-append (padding 4 at) (number ++ (bytes ++ 0 ∷ [])), length-append number (bytes ++ 0 ∷ []), length-append bytes (0 ∷ []))

elements : (o : Order) (at n : ℕ) (bytes : List ℕ) → length (array_spelling o at n bytes) ≤ 67108864 → length bytes ≤ 67108864
elements o at n bytes h =
    behind (padding n (aligned 4 at + 4)) bytes
    (behind (number_bytes o w32 (length bytes)) (padding n (aligned 4 at + 4) ++ bytes) (behind (padding 4 at) (number_bytes o w32 (length bytes) ++ (padding n (aligned 4 at + 4) ++ bytes)) h))

-- what sits has a spelling wherever that is short

mutual
  pub fits : (d : Data) (o : Order) (levels at : ℕ) → IsWellTyped d → Sits d levels → length (spelling o at d) ≤ 67108864 → Fits o levels at d (type_of d)
  fits (number_data n x) o zero at typed s short = (refl, s)
  fits (number_data n x) o (suc levels) at typed s short = (refl, s)
  fits (boolean_data b) o zero at typed s short = tt
  fits (boolean_data b) o (suc levels) at typed s short = tt
  fits (text_data cs) o zero at typed s short = (s.0, s.1, few o at (encode_utf8_all cs) short)
  fits (text_data cs) o (suc levels) at typed s short = (s.0, s.1, few o at (encode_utf8_all cs) short)
  fits (path_data bytes) o zero at typed s short = (s, few o at bytes short)
  fits (path_data bytes) o (suc levels) at typed s short = (s, few o at bytes short)
  fits (signature_data ks) o zero at typed s short = s
  fits (signature_data ks) o (suc levels) at typed s short = s
  fits (array_data k ds) o zero at typed s short = absurd s
  fits (array_data k ds) o (suc levels) at typed s short =
      let inner = elements o at (alignment k) (spellings o (start_of (alignment k) at) ds) short in
      (refl, inner, all_fit ds o levels (start_of (alignment k) at) k typed.1 s inner)
  fits (structure_data ds) o zero at typed s short = absurd s
  fits (structure_data no_items) o (suc levels) at typed s short = absurd typed
  fits (structure_data (item d ds)) o (suc levels) at typed s short =
      let p = aligned 8 at in
      let front = spelling o p d in
      let rest = spellings o (p + length front) ds in
      let inner = behind (padding 8 at) (front ++ rest) short in
      (fits d o levels p typed.0 s.0 (before front rest inner), fields_fit ds o levels (p + length front) typed.1 s.1 (behind front rest inner))
  fits (dictionary_data k v es) o zero at typed s short = absurd s
  fits (dictionary_data k v es) o (suc levels) at typed s short =
      let inner = elements o at 8 (entry_spellings o (start_of 8 at) es) short in
      (refl, refl, inner, entries_fit es o levels (start_of 8 at) k v typed.2 s inner)
  fits (variant_data k d) o zero at typed s short = absurd s
  fits (variant_data k d) o (suc levels) at typed s short =
      let p = at + 2 + length (signature_bytes (single k)) in
      (s.0, subst (λ (t : Kind). Fits o levels p d t) typed.1 (fits d o levels p typed.2 s.1 (behind (counted_short (signature_bytes (single k))) (spelling o p d) short)))

  pub fields_fit : (ds : Items) (o : Order) (levels at : ℕ) → AreWellTyped ds → AllSit ds levels → length (spellings o at ds) ≤ 67108864 → FieldsFit o levels at ds (types_of ds)
  fields_fit no_items o levels at typed s short = tt
  fields_fit (item d ds) o levels at typed s short =
      let front = spelling o at d in
      let rest = spellings o (at + length front) ds in
      (fits d o levels at typed.0 s.0 (before front rest short), fields_fit ds o levels (at + length front) typed.1 s.1 (behind front rest short))

  all_fit : (ds : Items) (o : Order) (levels at : ℕ) (k : Kind) → AllHaveType k ds → AllSit ds levels → length (spellings o at ds) ≤ 67108864 → AllFit o levels at ds k
  all_fit no_items o levels at k typed s short = tt
  all_fit (item d ds) o levels at k typed s short =
      let front = spelling o at d in
      let rest = spellings o (at + length front) ds in (
        subst (λ (t : Kind). Fits o levels at d t) typed.0 (fits d o levels at typed.1 s.0 (before front rest short)),
        all_fit ds o levels (at + length front) k typed.2 s.1 (behind front rest short),
      )

  entries_fit : (es : Entries) (o : Order) (levels at : ℕ) (k v : Kind) → AllHaveTypes k v es → EntriesSit es levels → length (entry_spellings o at es) ≤ 67108864 → EntriesFit o levels at es k v
  entries_fit no_entries o zero at k v typed s short = tt
  entries_fit no_entries o (suc levels) at k v typed s short = tt
  entries_fit (entry c d es) o zero at k v typed s short = absurd s
  entries_fit (entry c d es) o (suc levels) at k v typed s short =
      let p = aligned 8 at in
      let key = spelling o p c in
      let q = p + length key in
      let value = spelling o q d in
      let rest = entry_spellings o (q + length value) es in
      let all = behind (padding 8 at) (key ++ (value ++ rest)) short in
      let more = behind key (value ++ rest) all in (
        subst (λ (t : Kind). Fits o levels p c t) typed.0 (fits c o levels p typed.2 s.0 (before key (value ++ rest) all)),
        subst (λ (t : Kind). Fits o levels q d t) typed.1 (fits d o levels q typed.3 s.1 (before value rest more)),
        entries_fit es o (suc levels) (q + length value) k v typed.4 s.2 (behind value rest more),
      )
