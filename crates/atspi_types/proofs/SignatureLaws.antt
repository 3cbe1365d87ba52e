-- The laws of reading a signature: what is read is spelled so, what is spelled so is read, and of what is wrong the least is told.
use Rattle.std.proofs.Common.{◌≡◌, ℕ, zero, suc, ◌+◌, ◌<◌, ◌≤◌, ◌⊎◌, inl, inr, List, [], ◌∷◌, ◌++◌, length, take, get_or, Bool, true, false, refl, sym, ap, subst, ◌∙◌, arith, if◌then◌else◌, Some, None, Option, append_assoc, append-nil, Result, Ok, Err}
use Rattle.std.specs.Prelude.{◌&&◌, nat_le, nat_lt}
use Rattle.std.specs.List.{slice_get}
use Rattle.std.proofs.lemmas.Bool.{cases_lt, ltb-true, ltb-false, le-ltb, le-leb, leb-true, and_parts, and_from, cases_order}
use Rattle.std.proofs.lemmas.List.{length-take, length-take-le, take-take, get_or-take, take_all}
use Rattle.std.proofs.lemmas.Option.{slice_get-get_or, slice_get_past}
use Rattle.atspi_types.specs.Kinds.{Kind, Kinds, no_kinds, kind, number, boolean, text, path, signature, array, structure, variant, dictionary, kinds_of, types_in, is_basic, IsLawful, AreLawful, is_lawful, are_lawful}
use Rattle.atspi_types.specs.Signatures.{type_bytes, signature_bytes, array_depths, struct_depths, FitsSignature, IsSignature, fits_signature, is_signature}
use Rattle.atspi_types.specs.SignatureFaults.{Token, end, token_of, next_token, Context, at_top, in_array, in_struct, in_entry, front, BeginsSignature, Refused, not_a_code, is_descriptor, no_element, no_field, no_struct, no_entry, not_closed, no_array, key_not_basic, too_few, too_many, too_many_arrays, too_many_structs, JudgedIn, WrongSignature, too_long, refused, Before, IsFirstSignatureFault}
use Rattle.atspi_types.specs.SignatureReading.{refusal, with_token, walk, step_at, after_refusal, types_at_end, end_at, signature_in, ◌>>=◌}
use Rattle.atspi_types.specs.declared.fault.Fault.{Fault}
use Rattle.atspi_types.proofs.SignatureSteps.{basic_from, basic_to, refused_by, refusal_holds}
use Rattle.atspi_types.proofs.SignatureWalks.{Walks, walks_same, walked, with_types-in_struct, with_types-at_top, open_array, open_struct, open_entry, walks_type, walks_types}
use Rattle.atspi_types.proofs.DataLemmas.{types_in-kinds_of}

nothing_begins : BeginsSignature (at_top [])
nothing_begins = record { lawful = tt; arrays = omega arith; structs = omega arith }

-- the types of an entry
entry_walks : (c : Context) (ks : List Kind) (rest : List ℕ) (to : Context) → BeginsSignature (in_entry c ks) → Walks (in_entry c ks) rest to → Walks (in_entry c []) (signature_bytes (kinds_of ks) ++ rest) to
entry_walks c [] rest to h w = w
entry_walks c (key ∷ []) rest to h w =
    let empty : BeginsSignature (in_entry c []) = (h.0, h.1, record { lawful = tt; arrays = omega (arith, h.2.arrays); structs = omega (arith, h.2.structs) }, tt) in
    rw append-nil (walks_type key (in_entry c []) rest to empty h.3 (record { lawful = h.2.lawful.0; arrays = omega (arith, h.2.arrays); structs = omega (arith, h.2.structs) }) w)
entry_walks c (key ∷ value ∷ []) rest to h w =
    let empty : BeginsSignature (in_entry c []) = (h.0, h.1, record { lawful = tt; arrays = omega (arith, h.2.arrays); structs = omega (arith, h.2.structs) }, tt) in
    let keyed : BeginsSignature (in_entry c (key ∷ [])) = (h.0, h.1, record { lawful = (h.2.lawful.0, tt); arrays = omega (arith, h.2.arrays); structs = omega (arith, h.2.structs) }, h.3) in
    let behind_key = walks_type value (in_entry c (key ∷ [])) rest to keyed tt (record { lawful = h.2.lawful.1.0; arrays = omega (arith, h.2.arrays); structs = omega (arith, h.2.structs) }) w in
    rw (append-nil (type_bytes value), append_assoc (type_bytes key) (type_bytes value) rest)
    (walks_type key (in_entry c []) (type_bytes value ++ rest) to empty h.3 (record { lawful = h.2.lawful.0; arrays = omega (arith, h.2.arrays); structs = omega (arith, h.2.structs) }) behind_key)
entry_walks c (key ∷ value ∷ k ∷ ks) rest to h w = absurd h.3

-- the bytes of a context that begins a signature lead to it
pub front_walks : (c : Context) (rest : List ℕ) (to : Context) → BeginsSignature c → Walks c rest to → Walks (at_top []) (front c ++ rest) to
front_walks (at_top ks) rest to h w = walks_types (kinds_of ks) (at_top []) rest to tt nothing_begins h.lawful h.arrays h.structs (rw (with_types-at_top [] (kinds_of ks), types_in-kinds_of ks) w)
front_walks (in_array c) rest to h w =
    rw (append_assoc (front c) (97 ∷ []) rest) (front_walks c (97 ∷ rest) to h.0 (open_array c rest to h.1 (omega (arith, h.2.arrays)) w))
front_walks (in_struct c ks) rest to h w =
    let empty : BeginsSignature (in_struct c []) = (h.0, h.1, record { lawful = tt; arrays = omega (arith, h.2.arrays); structs = omega (arith, h.2.structs) }) in
    let fields = walks_types (kinds_of ks) (in_struct c []) rest to tt empty h.2.lawful h.2.arrays h.2.structs (rw (with_types-in_struct c [] (kinds_of ks), types_in-kinds_of ks) w) in
    rw (append_assoc (front c) (40 ∷ signature_bytes (kinds_of ks)) rest) (front_walks c (40 ∷ (signature_bytes (kinds_of ks) ++ rest)) to h.0 (open_struct c (signature_bytes (kinds_of ks) ++ rest) to h.1 (omega (arith, h.2.structs)) fields))
front_walks (in_entry c ks) rest to h w =
    rw (append_assoc (front c) (97 ∷ 123 ∷ signature_bytes (kinds_of ks)) rest)
    (front_walks c (97 ∷ 123 ∷ (signature_bytes (kinds_of ks) ++ rest)) to h.0
    (open_array c (123 ∷ (signature_bytes (kinds_of ks) ++ rest)) to h.1 (omega (arith, h.2.arrays))
    (open_entry c (signature_bytes (kinds_of ks) ++ rest) to (entry_walks c ks rest to h w))))

-- a context is known by its bytes
pub judged_walks : (bytes : List ℕ) (place : ℕ) (c : Context) → JudgedIn bytes place c → Walks (at_top []) (take place bytes) c
judged_walks bytes place c judged = rw (judged.before, ← append-nil (front c)) (front_walks c [] c judged.begins refl)

-- between a walk and what reading gives
pub walk_goes : (c : Context) (place : ℕ) (bytes : List ℕ) (to : Context) → Walks c bytes to → walk c place bytes ≡ Ok to
unfolding walk step_at
walk_goes c place [] to w = ap Ok w
walk_goes c place (b ∷ bytes) to w = rw w.0 (walk_goes (with_token c (token_of b)) (place + 1) bytes to w.1)

pub walk_went : (c : Context) (place : ℕ) (bytes : List ℕ) (to : Context) → walk c place bytes ≡ Ok to → Walks c bytes to
unfolding walk step_at
walk_went c place [] to e = cc
walk_went c place (b ∷ bytes) to e = by (refusal c (token_of b)) refl e (walk_went (with_token c (token_of b)) (place + 1) bytes to)
  where
    by : (o : Option ℕ) → refusal c (token_of b) ≡ o → (after_refusal o place (with_token c (token_of b)) >>= λ after. walk after (place + 1) bytes) ≡ Ok to
        → (walk (with_token c (token_of b)) (place + 1) bytes ≡ Ok to → Walks (with_token c (token_of b)) bytes to) → Walks c (b ∷ bytes) to
    by (Some r) o e later = absurd cc
    by None o e later = (o, later e)

-- where a walk is refused
pub record RefusedIn (c : Context) (place : ℕ) (bytes : List ℕ) (f : Fault) : Type 0 where
  pub index : ℕ
  pub context : Context
  pub within : index < length bytes
  pub place_is : f.place ≡ place + index
  pub before : Walks c (take index bytes) context
  pub reason_is : refusal context (token_of (get_or bytes index 0)) ≡ Some f.reason

pub walk_refused : (c : Context) (place : ℕ) (bytes : List ℕ) (f : Fault) → walk c place bytes ≡ Err f → RefusedIn c place bytes f
unfolding walk step_at
walk_refused c place [] f e = absurd cc
walk_refused c place (b ∷ bytes) f e = by (refusal c (token_of b)) refl e (walk_refused (with_token c (token_of b)) (place + 1) bytes f)
  where
    by : (o : Option ℕ) → refusal c (token_of b) ≡ o → (after_refusal o place (with_token c (token_of b)) >>= λ after. walk after (place + 1) bytes) ≡ Err f
        → (walk (with_token c (token_of b)) (place + 1) bytes ≡ Err f → RefusedIn (with_token c (token_of b)) (place + 1) bytes f) → RefusedIn c place (b ∷ bytes) f
    by (Some r) o e later =
        let is : record { place = place; reason = r } ≡ f = cc in
        record { index = 0; context = c; within = omega arith; place_is = sym (ap (λ (g : Fault). g.place) is) ∙ omega arith; before = refl; reason_is = o ∙ ap (λ (g : Fault). Some g.reason) is }
    by None o e later =
        let h = later e in
        record { index = suc h.index; context = h.context; within = omega (arith, h.within); place_is = omega (arith, h.place_is); before = (o, h.before); reason_is = h.reason_is }

-- what was walked over was not refused
pub record NotRefusedAt (c : Context) (bytes : List ℕ) (index : ℕ) : Type 0 where
  pub context : Context
  pub before : Walks c (take index bytes) context
  pub not_refused : refusal context (token_of (get_or bytes index 0)) ≡ None

pub walks_at : (index : ℕ) (c : Context) (bytes : List ℕ) (to : Context) → index < length bytes → Walks c bytes to → NotRefusedAt c bytes index
walks_at index c [] to lt w = absurd (omega arith)
walks_at zero c (b ∷ bytes) to lt w = record { context = c; before = refl; not_refused = w.0 }
walks_at (suc index) c (b ∷ bytes) to lt w =
    let h = walks_at index (with_token c (token_of b)) bytes to (omega (arith, lt)) w.1 in
    record { context = h.context; before = (w.0, h.before); not_refused = h.not_refused }

-- the token at a place
token_at : (bytes : List ℕ) (place : ℕ) → place < length bytes → next_token (slice_get bytes place) ≡ token_of (get_or bytes place 0)
token_at bytes place lt = ap next_token (slice_get-get_or bytes place 0 lt)

token_at_end : (bytes : List ℕ) → next_token (slice_get bytes (length bytes)) ≡ end
token_at_end bytes = ap next_token (slice_get_past bytes (length bytes) (omega arith))

none_is_not_some : {r : ℕ} → None ≡ Some r → ⊥
none_is_not_some e = cc

-- a byte that was walked over is refused by no rule
pub passed : (bytes : List ℕ) (n : ℕ) (to : Context) → n ≤ length bytes → Walks (at_top []) (take n bytes) to → (place reason : ℕ) (c : Context) → place < n → JudgedIn bytes place c → Refused c (next_token (slice_get bytes place)) reason → ⊥
passed bytes n to le w place reason c lt judged r =
    let not = walks_at place (at_top []) (take n bytes) to (omega (arith, length-take-le n bytes le)) w in
    let here : Walks (at_top []) (take place bytes) not.context = rw (take-take place n bytes (omega (arith, lt))) at not.before in
    let same : not.context ≡ c = walks_same (at_top []) (take place bytes) not.context c here (judged_walks bytes place c judged) in
    let by_rule = refused_by c (token_of (get_or bytes place 0)) reason (subst (λ t. Refused c t reason) (token_at bytes place (omega (arith, lt, le))) r) in
    let none : refusal c (token_of (get_or bytes place 0)) ≡ None = ap (λ d. refusal d (token_of (get_or bytes place 0))) (sym same) ∙ ap (refusal not.context) (ap token_of (sym (get_or-take n bytes place 0 lt))) ∙ not.not_refused in
    none_is_not_some (sym none ∙ by_rule.1)

-- every reason of a rule is 2 or more
rule_number : (c : Context) (t : Token) (s : ℕ) → Refused c t s → 2 ≤ s
rule_number c t s (not_a_code c') = omega arith
rule_number c t s (is_descriptor c') = omega arith
rule_number c t s (no_element c' t' h) = omega arith
rule_number c t s (no_field c') = omega arith
rule_number c t s (no_struct c' h) = omega arith
rule_number c t s (no_entry c' h) = omega arith
rule_number c t s (not_closed c' h) = omega arith
rule_number c t s (no_array c' h) = omega arith
rule_number c t s (key_not_basic c' t' h) = omega arith
rule_number c t s (too_few c' ks h) = omega arith
rule_number c t s (too_many c' key value t' h) = omega arith
rule_number c t s (too_many_arrays c' h) = omega arith
rule_number c t s (too_many_structs c' h) = omega arith

-- the first fault, where the bytes before the place were walked over
pub record StopsAt (bytes : List ℕ) (place reason : ℕ) : Type 0 where
  pub context : Context
  pub within : place ≤ length bytes
  pub before : Walks (at_top []) (take place bytes) context
  pub refused_for : refusal context (next_token (slice_get bytes place)) ≡ Some reason

stops_first : (bytes : List ℕ) (place reason : ℕ) → StopsAt bytes place reason → (255 < length bytes → place < 255) → IsFirstSignatureFault bytes place reason
stops_first bytes place reason h small = record { there = refused place reason h.context judged (refusal_holds h.context (next_token (slice_get bytes place)) reason begun.0 h.refused_for); first = first }
  where
    begun : BeginsSignature h.context × (front h.context ≡ take place bytes)
    begun = walked (at_top []) (take place bytes) h.context nothing_begins h.before

    judged : JudgedIn bytes place h.context
    judged = record { within = h.within; before = sym begun.1; begins = begun.0 }

    at_place : (s : ℕ) (c : Context) → JudgedIn bytes place c → Refused c (next_token (slice_get bytes place)) s → reason ≤ s
    at_place s c other r =
        let same : h.context ≡ c = walks_same (at_top []) (take place bytes) h.context c h.before (judged_walks bytes place c other) in
        let by_rule = refused_by c (next_token (slice_get bytes place)) s r in
        let least : Some reason ≡ Some by_rule.0 = sym h.refused_for ∙ ap (λ d. refusal d (next_token (slice_get bytes place))) same ∙ by_rule.1 in
        let is : reason ≡ by_rule.0 = cc in
        omega (arith, is, by_rule.2)

    by_order : (q s : ℕ) (c : Context) → JudgedIn bytes q c → Refused c (next_token (slice_get bytes q)) s → (place ≡ q) ⊎ ((place < q) ⊎ (q < place)) → Before place reason q s
    by_order q s c other r (inl same) = inr (same, at_place s c (subst (λ p. JudgedIn bytes p c) (sym same) other) (subst (λ p. Refused c (next_token (slice_get bytes p)) s) (sym same) r))
    by_order q s c other r (inr (inl before)) = inl before
    by_order q s c other r (inr (inr behind)) = absurd (passed bytes place h.context h.within h.before q s c behind other r)

    first : (q s : ℕ) → WrongSignature bytes q s → Before place reason q s
    first q s (too_long long) = inl (small long)
    first q s (refused q' s' c other r) = by_order q s c other r (cases_order place q)

-- the first fault of bytes that are too many, where the first 255 were walked over
too_long_first : (bytes : List ℕ) (c : Context) → 255 < length bytes → Walks (at_top []) (take 255 bytes) c → IsFirstSignatureFault bytes 255 1
too_long_first bytes c long w = record { there = too_long long; first = first }
  where
    by_order : (q s : ℕ) (d : Context) → JudgedIn bytes q d → Refused d (next_token (slice_get bytes q)) s → (255 ≡ q) ⊎ ((255 < q) ⊎ (q < 255)) → Before 255 1 q s
    by_order q s d judged r (inl same) = inr (same, omega (arith, rule_number d (next_token (slice_get bytes q)) s r))
    by_order q s d judged r (inr (inl before)) = inl before
    by_order q s d judged r (inr (inr behind)) = absurd (passed bytes 255 c (omega (arith, long)) w q s d behind judged r)

    first : (q s : ℕ) → WrongSignature bytes q s → Before 255 1 q s
    first q s (too_long more) = inr (refl, omega arith)
    first q s (refused q' s' d judged r) = by_order q s d judged r (cases_order 255 q)

-- what the walk of the front tells
abbrev failed : {A : Type 0} → Fault → Result A Fault
failed f = Err f

err_is : {A : Type 0} (f g : Fault) → failed {A = A} f ≡ failed g → f ≡ g
err_is f g e = cc

front_told : (bytes : List ℕ) (f : Fault) → walk (at_top []) 0 (take 255 bytes) ≡ Err f → IsFirstSignatureFault bytes f.place f.reason
front_told bytes f e =
    let h = walk_refused (at_top []) 0 (take 255 bytes) f e in
    let short : length (take 255 bytes) ≤ 255 = omega (arith, length-take 255 bytes) in
    let fewer : length (take 255 bytes) ≤ length bytes = omega (arith, length-take 255 bytes) in
    let small : f.place < 255 = omega (arith, h.place_is, h.within, short) in
    let within : f.place < length bytes = omega (arith, h.place_is, h.within, fewer) in
    let is : h.index ≡ f.place = omega (arith, h.place_is) in
    let before : Walks (at_top []) (take f.place bytes) h.context = rw (take-take f.place 255 bytes (omega (arith, small))) at (subst (λ i. Walks (at_top []) (take i (take 255 bytes)) h.context) is h.before) in
    let reason : refusal h.context (token_of (get_or bytes f.place 0)) ≡ Some f.reason = ap (λ b. refusal h.context (token_of b)) (sym (get_or-take 255 bytes f.place 0 small)) ∙ ap (λ i. refusal h.context (token_of (get_or (take 255 bytes) i 0))) (sym is) ∙ h.reason_is in
    stops_first bytes f.place f.reason (record { context = h.context; within = omega (arith, within); before = before; refused_for = ap (refusal h.context) (token_at bytes f.place within) ∙ reason }) (λ long. small)

end_told : (bytes : List ℕ) (c : Context) (f : Fault) → length bytes ≤ 255 → Walks (at_top []) (take 255 bytes) c → end_at c (length bytes) ≡ Err f → IsFirstSignatureFault bytes f.place f.reason
unfolding end_at
end_told bytes c f short w e = by (refusal c end) refl e
  where
    by : (o : Option ℕ) → refusal c end ≡ o → (after_refusal o (length bytes) c >>= λ d. Ok (types_at_end d)) ≡ Err f → IsFirstSignatureFault bytes f.place f.reason
    by None o e = absurd cc
    by (Some r) o e =
        let is : record { place = length bytes; reason = r } ≡ f = err_is _ _ e in
        let whole : Walks (at_top []) (take (length bytes) bytes) c = rw (take_all (length bytes) bytes (omega arith)) (rw (take_all 255 bytes short) at w) in
        subst (λ (g : Fault). IsFirstSignatureFault bytes g.place g.reason) is
        (stops_first bytes (length bytes) r (record { context = c; within = omega arith; before = whole; refused_for = ap (refusal c) (token_at_end bytes) ∙ o }) (λ long. absurd (omega (arith, long, short))))

-- of what is wrong the least is told
pub signature_in-told : (bytes : List ℕ) (f : Fault) → signature_in bytes ≡ Err f → IsFirstSignatureFault bytes f.place f.reason
unfolding signature_in
signature_in-told bytes f e = by (walk (at_top []) 0 (take 255 bytes)) refl e
  where
    behind : (c : Context) → walk (at_top []) 0 (take 255 bytes) ≡ Ok c → (t : Bool) → nat_lt 255 (length bytes) ≡ t → (if t then Err (record { place = 255; reason = 1 }) else end_at c (length bytes)) ≡ Err f → IsFirstSignatureFault bytes f.place f.reason
    behind c w true t e = subst (λ (g : Fault). IsFirstSignatureFault bytes g.place g.reason) (err_is _ _ e) (too_long_first bytes c (ltb-true 255 (length bytes) t) (walk_went (at_top []) 0 (take 255 bytes) c w))
    behind c w false t e = end_told bytes c f (ltb-false 255 (length bytes) t) (walk_went (at_top []) 0 (take 255 bytes) c w) e

    by : (r : Result Context Fault) → walk (at_top []) 0 (take 255 bytes) ≡ r → (r >>= λ c. if nat_lt 255 (length bytes) then Err (record { place = 255; reason = 1 }) else end_at c (length bytes)) ≡ Err f → IsFirstSignatureFault bytes f.place f.reason
    by (Err g) r e = subst (λ (h : Fault). IsFirstSignatureFault bytes h.place h.reason) (err_is g f e) (front_told bytes g r)
    by (Ok c) r e = behind c r (nat_lt 255 (length bytes)) refl e

-- what is read is spelled so, and is a signature
pub record Reads (bytes : List ℕ) (ks : List Kind) : Type 0 where
  pub spelled : bytes ≡ signature_bytes (kinds_of ks)
  pub is : IsSignature (kinds_of ks)

end_read : (bytes : List ℕ) (c : Context) (ks : List Kind) → length bytes ≤ 255 → Walks (at_top []) bytes c → end_at c (length bytes) ≡ Ok ks → Reads bytes ks
unfolding end_at refusal
end_read bytes (at_top ks') ks short w e =
    let is : ks' ≡ ks = cc in
    let begun = walked (at_top []) bytes (at_top ks') nothing_begins w in
    subst (Reads bytes) is (record { spelled = sym begun.1; is = record { lawful = begun.0.lawful; fits = record { short = rw begun.1 short; arrays = omega (arith, begun.0.arrays); structs = omega (arith, begun.0.structs) } } })
end_read bytes (in_array c) ks short w e = absurd cc
end_read bytes (in_struct c fields) ks short w e = absurd cc
end_read bytes (in_entry c types) ks short w e = absurd cc

pub signature_in-read : (bytes : List ℕ) (ks : List Kind) → signature_in bytes ≡ Ok ks → Reads bytes ks
unfolding signature_in
signature_in-read bytes ks e = by (walk (at_top []) 0 (take 255 bytes)) refl e
  where
    behind : (c : Context) → walk (at_top []) 0 (take 255 bytes) ≡ Ok c → (t : Bool) → nat_lt 255 (length bytes) ≡ t → (if t then Err (record { place = 255; reason = 1 }) else end_at c (length bytes)) ≡ Ok ks → Reads bytes ks
    behind c w true t e = absurd cc
    behind c w false t e =
        let short = ltb-false 255 (length bytes) t in
        end_read bytes c ks short (rw (take_all 255 bytes short) at (walk_went (at_top []) 0 (take 255 bytes) c w)) e

    by : (r : Result Context Fault) → walk (at_top []) 0 (take 255 bytes) ≡ r → (r >>= λ c. if nat_lt 255 (length bytes) then Err (record { place = 255; reason = 1 }) else end_at c (length bytes)) ≡ Ok ks → Reads bytes ks
    by (Err g) r e = absurd cc
    by (Ok c) r e = behind c r (nat_lt 255 (length bytes)) refl e

-- the bytes of a signature lead to its types
signature_walks : (ks : Kinds) → IsSignature ks → Walks (at_top []) (signature_bytes ks) (at_top (types_in ks))
signature_walks ks h = rw (← append-nil (signature_bytes ks)) (walks_types ks (at_top []) [] (at_top (types_in ks)) tt nothing_begins h.lawful (omega (arith, h.fits.arrays)) (omega (arith, h.fits.structs)) (with_types-at_top [] ks))

-- what is spelled so is read
pub signature_in-again : (ks : Kinds) → IsSignature ks → signature_in (signature_bytes ks) ≡ Ok (types_in ks)
unfolding signature_in end_at refusal
signature_in-again ks h =
    rw (take_all 255 (signature_bytes ks) h.fits.short, walk_goes (at_top []) 0 (signature_bytes ks) (at_top (types_in ks)) (signature_walks ks h), le-ltb 255 (length (signature_bytes ks)) h.fits.short) refl

end_refused : (ks : List Kind) (reason : ℕ) → Refused (at_top ks) end reason → ⊥
unfolding refusal
end_refused ks reason r = none_is_not_some (refused_by (at_top ks) end reason r).1

-- nothing is wrong with the bytes of a signature
pub no_fault_of_signature : (ks : Kinds) (place reason : ℕ) → IsSignature ks → WrongSignature (signature_bytes ks) place reason → ⊥
no_fault_of_signature ks place reason h (too_long long) = omega (arith, long, h.fits.short)
no_fault_of_signature ks place reason h (refused q s c judged r) = by (cases_lt place (length (signature_bytes ks)))
  where
    whole : Walks (at_top []) (take (length (signature_bytes ks)) (signature_bytes ks)) (at_top (types_in ks))
    whole = rw (take_all (length (signature_bytes ks)) (signature_bytes ks) (omega arith)) (signature_walks ks h)

    at_end : length (signature_bytes ks) ≡ place → ⊥
    at_end same =
        let judged' : JudgedIn (signature_bytes ks) (length (signature_bytes ks)) c = subst (λ p. JudgedIn (signature_bytes ks) p c) (sym same) judged in
        let is : at_top (types_in ks) ≡ c = walks_same (at_top []) (take (length (signature_bytes ks)) (signature_bytes ks)) (at_top (types_in ks)) c whole (judged_walks (signature_bytes ks) (length (signature_bytes ks)) c judged') in
        end_refused (types_in ks) reason (subst (λ d. Refused d end reason) (sym is) (subst (λ t. Refused c t reason) (ap (λ p. next_token (slice_get (signature_bytes ks) p)) (sym same) ∙ token_at_end (signature_bytes ks)) r))

    by : (place < length (signature_bytes ks)) ⊎ (length (signature_bytes ks) ≤ place) → ⊥
    by (inl lt) = passed (signature_bytes ks) (length (signature_bytes ks)) (at_top (types_in ks)) (omega arith) whole place reason c lt judged r
    by (inr le) = at_end (omega (arith, le, judged.within))

-- bytes are a signature or have a first fault, as reading them tells
pub signature_or_first_fault : (bytes : List ℕ) → ((ks : Kinds) × IsSignature ks × (bytes ≡ signature_bytes ks)) ⊎ ((place : ℕ) × (reason : ℕ) × IsFirstSignatureFault bytes place reason)
signature_or_first_fault bytes = by (signature_in bytes) refl
  where
    by : (r : Result (List Kind) Fault) → signature_in bytes ≡ r → ((ks : Kinds) × IsSignature ks × (bytes ≡ signature_bytes ks)) ⊎ ((place : ℕ) × (reason : ℕ) × IsFirstSignatureFault bytes place reason)
    by (Ok ks) e = let t = signature_in-read bytes ks e in inl (kinds_of ks, t.is, t.spelled)
    by (Err f) e = inr (f.place, f.reason, signature_in-told bytes f e)

-- the tests of what a signature is say the same
mutual
  pub lawful_from : (k : Kind) → is_lawful k ≡ true → IsLawful k
  lawful_from (number n) e = tt
  lawful_from boolean e = tt
  lawful_from text e = tt
  lawful_from path e = tt
  lawful_from signature e = tt
  lawful_from (array k) e = lawful_from k e
  lawful_from (structure no_kinds) e = absurd cc
  lawful_from (structure (kind k ks)) e = let both = and_parts (is_lawful k) (are_lawful ks) e in (lawful_from k both.0, all_lawful_from ks both.1)
  lawful_from variant e = tt
  lawful_from (dictionary k v) e = let both = and_parts (is_basic k) (is_lawful v) e in (basic_from k both.0, lawful_from v both.1)

  pub all_lawful_from : (ks : Kinds) → are_lawful ks ≡ true → AreLawful ks
  all_lawful_from no_kinds e = tt
  all_lawful_from (kind k ks) e = let both = and_parts (is_lawful k) (are_lawful ks) e in (lawful_from k both.0, all_lawful_from ks both.1)

mutual
  pub lawful_to : (k : Kind) → IsLawful k → is_lawful k ≡ true
  lawful_to (number n) h = refl
  lawful_to boolean h = refl
  lawful_to text h = refl
  lawful_to path h = refl
  lawful_to signature h = refl
  lawful_to (array k) h = lawful_to k h
  lawful_to (structure no_kinds) h = absurd h
  lawful_to (structure (kind k ks)) h = and_from (is_lawful k) (are_lawful ks) (lawful_to k h.0) (all_lawful_to ks h.1)
  lawful_to variant h = refl
  lawful_to (dictionary k v) h = and_from (is_basic k) (is_lawful v) (basic_to k h.0) (lawful_to v h.1)

  pub all_lawful_to : (ks : Kinds) → AreLawful ks → are_lawful ks ≡ true
  all_lawful_to no_kinds h = refl
  all_lawful_to (kind k ks) h = and_from (is_lawful k) (are_lawful ks) (lawful_to k h.0) (all_lawful_to ks h.1)

pub fits_from : (ks : Kinds) → fits_signature ks ≡ true → FitsSignature ks
unfolding fits_signature
fits_from ks e =
    let both = and_parts (nat_le (length (signature_bytes ks)) 255) (nat_le (array_depths ks) 32 && nat_le (struct_depths ks) 32) e in
    let deep = and_parts (nat_le (array_depths ks) 32) (nat_le (struct_depths ks) 32) both.1 in
    record { short = leb-true (length (signature_bytes ks)) 255 both.0; arrays = leb-true (array_depths ks) 32 deep.0; structs = leb-true (struct_depths ks) 32 deep.1 }

pub fits_to : (ks : Kinds) → FitsSignature ks → fits_signature ks ≡ true
unfolding fits_signature
fits_to ks h =
    and_from (nat_le (length (signature_bytes ks)) 255) (nat_le (array_depths ks) 32 && nat_le (struct_depths ks) 32) (le-leb (length (signature_bytes ks)) 255 h.short)
    (and_from (nat_le (array_depths ks) 32) (nat_le (struct_depths ks) 32) (le-leb (array_depths ks) 32 h.arrays) (le-leb (struct_depths ks) 32 h.structs))

pub IsSignature-from_test : (ks : Kinds) → is_signature ks ≡ true → IsSignature ks
unfolding is_signature
IsSignature-from_test ks e = let both = and_parts (are_lawful ks) (fits_signature ks) e in record { lawful = all_lawful_from ks both.0; fits = fits_from ks both.1 }

pub is_signature-from_IsSignature : (ks : Kinds) → IsSignature ks → is_signature ks ≡ true
unfolding is_signature
is_signature-from_IsSignature ks h = and_from (are_lawful ks) (fits_signature ks) (all_lawful_to ks h.lawful) (fits_to ks h.fits)
