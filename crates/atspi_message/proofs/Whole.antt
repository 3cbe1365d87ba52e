-- The whole message: what is wrong is told, the least first.
use Rattle.std.proofs.Common.{◌≡◌, ℕ, zero, suc, ◌+◌, ◌-◌, ◌<◌, ◌≤◌, Bool, true, false, cond, ltb, List, [], ◌∷◌, ◌++◌, length, Option, Some, None, Result, Ok, Err, refl, sym, ap, subst, ◌∙◌, arith, inl, inr, ◌⊎◌}
use Rattle.std.specs.Prelude.{◌≢◌, ◌==◌, ◌&&◌}
use Rattle.std.proofs.lemmas.Bool.{eqb-true, eqb-false, eq-eqb, ltb-true, ltb-false, lt-ltb, le-ltb, cases_lt}
use Rattle.atspi_types.specs.Data.{Data}
use Rattle.atspi_types.specs.declared.fault.Fault.{Fault}
use Rattle.atspi_marshal.specs.Input.{to_end, aligned}
use Rattle.atspi_marshal.specs.Faults.{AreItems}
use Rattle.atspi_types.specs.SignatureFaults.{Before}
use Rattle.atspi_marshal.specs.Reading.{◌>>=◌, bad}
use Rattle.atspi_marshal.proofs.Places.{bind_ok, ok_is, done}
use Rattle.atspi_message.specs.declared.code.Code.{Code}
use Rattle.atspi_message.specs.declared.code.Code.TheVariants.{Path, Interface, Member, Error, Reply, Destination, Sender, Signature, Descriptors}
use Rattle.atspi_message.specs.Codes.{number_of}
use Rattle.atspi_message.specs.Bytes.{Field, field_kind, with_code}
use Rattle.atspi_message.specs.Front.{input_in, type_in, fields_end_in, body_place_in, length_in}
use Rattle.atspi_message.specs.Faults.{fields_bound, FieldsStand, Lacks, LacksRequired, call, return_, error, signal, WrongMessage, in_field, of_field, no_required, padding_not_zero, no_types, in_body, left_over}
use Rattle.atspi_message.specs.inner.Reading.{Found, none_found, slot, is_there, all_fields_at, rest_at, has_required, missing_at, with_found, ended_at, message_at}
use Rattle.atspi_message.proofs.Told.{ReadLaws, failed, err_is}
use Rattle.atspi_message.proofs.Found.{Tracks, tracks_none, there_not, lacks_there}
use Rattle.atspi_message.proofs.FieldFaults.{TellsBy}
use Rattle.atspi_message.proofs.Walk.{WrongField_, WalkRead, walk_read, WalkTold, walk_told, walk_least, Walk, walk_of, walked, stopped_at, GoodFound}
use Rattle.atspi_message.proofs.Rest.{IsWhole, fields_valid, rest_told, rest_least, rest_place, WrongRest, of_padding, of_types, of_body, of_end, rest_behind}

-- the required fields

pub none_good : GoodFound none_found
none_good Path d e = absurd cc
none_good Interface d e = absurd cc
none_good Member d e = absurd cc
none_good Error d e = absurd cc
none_good Reply d e = absurd cc
none_good Destination d e = absurd cc
none_good Sender d e = absurd cc
none_good Signature d e = absurd cc
none_good Descriptors d e = absurd cc

and_false : (a b : Bool) → (a && b) ≡ false → (a ≡ false) ⊎ (b ≡ false)
and_false true b e = inr e
and_false false b e = inl refl

missing_is : (type : ℕ) (found : Found) (fs : List Field) → Tracks found fs → has_required type found ≡ false → LacksRequired type fs
missing_is type found fs tracks e = by (type == 1) (type == 2) (type == 3) (type == 4) refl refl refl refl e
  where
    lack : (c : Code) → is_there (slot c found) ≡ false → Lacks (number_of c) fs
    lack c is = lacks_there found fs c tracks is

    two : (a b : Code) → (is_there (slot a found) ≡ false) ⊎ (is_there (slot b found) ≡ false) → Lacks (number_of a) fs ⊎ Lacks (number_of b) fs
    two a b (inl is) = inl (lacks_there found fs a tracks is)
    two a b (inr is) = inr (lacks_there found fs b tracks is)

    three : (is_there found.path ≡ false) ⊎ ((is_there found.interface && is_there found.member) ≡ false) → Lacks 1 fs ⊎ (Lacks 2 fs ⊎ Lacks 3 fs)
    three (inl is) = inl (lacks_there found fs Path tracks is)
    three (inr is) = inr (two Interface Member (and_false (is_there found.interface) (is_there found.member) is))

    by : (a b c d : Bool) → (type == 1) ≡ a → (type == 2) ≡ b → (type == 3) ≡ c → (type == 4) ≡ d
        → cond a (is_there found.path && is_there found.member) (cond b (is_there found.reply) (cond c (is_there found.error && is_there found.reply) (cond d (is_there found.path && (is_there found.interface && is_there found.member)) true))) ≡ false → LacksRequired type fs
    by true b c d p q r s e = call (eqb-true _ 1 p) (two Path Member (and_false (is_there found.path) (is_there found.member) e))
    by false true c d p q r s e = return_ (eqb-true _ 2 q) (lack Reply e)
    by false false true d p q r s e = error (eqb-true _ 3 r) (two Error Reply (and_false (is_there found.error) (is_there found.reply) e))
    by false false false true p q r s e = signal (eqb-true _ 4 s) (three (and_false (is_there found.path) (is_there found.interface && is_there found.member) e))
    by false false false false p q r s e = absurd cc

gone : (found : Found) (fs : List Field) (c : Code) → Tracks found fs → Lacks (number_of c) fs → is_there (slot c found) ≡ false
gone found fs c tracks lacks = by (is_there (slot c found)) refl
  where
    by : (t : Bool) → is_there (slot c found) ≡ t → t ≡ false
    by true is = absurd (there_not found fs c tracks is lacks)
    by false is = refl

and_left : (a b : Bool) → a ≡ false → (a && b) ≡ false
and_left true b e = absurd cc
and_left false b e = refl

and_right : (a b : Bool) → b ≡ false → (a && b) ≡ false
and_right true b e = e
and_right false b e = refl

pub is_missing : (type : ℕ) (found : Found) (fs : List Field) → Tracks found fs → LacksRequired type fs → has_required type found ≡ false
is_missing type found fs tracks (call is (inl lacks)) = rw (is, gone found fs Path tracks lacks) refl
is_missing type found fs tracks (call is (inr lacks)) = rw is (and_right (is_there found.path) (is_there found.member) (gone found fs Member tracks lacks))
is_missing type found fs tracks (return_ is lacks) = rw is (gone found fs Reply tracks lacks)
is_missing type found fs tracks (error is (inl lacks)) = rw (is, gone found fs Error tracks lacks) refl
is_missing type found fs tracks (error is (inr lacks)) = rw is (and_right (is_there found.error) (is_there found.reply) (gone found fs Reply tracks lacks))
is_missing type found fs tracks (signal is (inl lacks)) = rw (is, gone found fs Path tracks lacks) refl
is_missing type found fs tracks (signal is (inr (inl lacks))) = rw is (and_right (is_there found.path) (is_there found.interface && is_there found.member) (and_left (is_there found.interface) (is_there found.member) (gone found fs Interface tracks lacks)))
is_missing type found fs tracks (signal is (inr (inr lacks))) = rw is (and_right (is_there found.path) (is_there found.interface && is_there found.member) (and_right (is_there found.interface) (is_there found.member) (gone found fs Member tracks lacks)))

-- what is told behind the fields

ended_told : (bytes : List ℕ) (fs : List Field) (found : Found) (f : Fault) → ReadLaws (input_in bytes) → IsWhole bytes → FieldsStand bytes fs (fields_end_in bytes) → Tracks found fs → ended_at bytes found ≡ Err f → WrongMessage bytes f.place f.reason
unfolding ended_at
ended_told bytes fs found f laws w stand tracks e = by (has_required (type_in bytes) found) refl e
  where
    plain : (r : Result (List Data) Fault) → rest_at bytes found ≡ r → (r >>= with_found found) ≡ Err f → WrongMessage bytes f.place f.reason
    plain (Ok ds) is e = absurd cc
    plain (Err g) is e = rest_told bytes fs found f laws w stand tracks (is ∙ ap failed (err_is g f e))

    lack : has_required (type_in bytes) found ≡ false → (g : Fault) → bad {A = List Data} (fields_end_in bytes) 34 ≡ Err g → g ≡ f → WrongMessage bytes f.place f.reason
    lack none g e same =
        let whose : record { place = fields_end_in bytes; reason = 34 } ≡ f = err_is _ g e ∙ same in
        subst (λ (h : Fault). WrongMessage bytes h.place h.reason) whose (no_required fs stand (missing_is (type_in bytes) found fs tracks none))

    which : (g : Fault) (t : Bool) → has_required (type_in bytes) found ≡ false → rest_at bytes found ≡ Err g → (cond t (failed g) (bad {A = List Data} (fields_end_in bytes) 34) >>= with_found found) ≡ Err f → WrongMessage bytes f.place f.reason
    which g true none is e = rest_told bytes fs found f laws w stand tracks (is ∙ ap failed (err_is g f e))
    which g false none is e = lack none (record { place = fields_end_in bytes; reason = 34 }) refl (err_is _ f e)

    missing : (r : Result (List Data) Fault) → has_required (type_in bytes) found ≡ false → rest_at bytes found ≡ r → (missing_at (fields_end_in bytes) r >>= with_found found) ≡ Err f → WrongMessage bytes f.place f.reason
    missing (Ok ds) none is e = lack none (record { place = fields_end_in bytes; reason = 34 }) refl (err_is _ f e)
    missing (Err g) none is e = which g (g.place == fields_end_in bytes && ltb g.reason 34) none is e

    by : (t : Bool) → has_required (type_in bytes) found ≡ t → (cond t (rest_at bytes found) (missing_at (fields_end_in bytes) (rest_at bytes found)) >>= with_found found) ≡ Err f → WrongMessage bytes f.place f.reason
    by true all e = plain (rest_at bytes found) refl e
    by false none e = missing (rest_at bytes found) none refl e

-- what is wrong behind the fields
pub data WrongEnd (bytes : List ℕ) (fs : List Field) : ℕ → ℕ → Type 0 where
  lacking : LacksRequired (type_in bytes) fs → WrongEnd bytes fs (fields_end_in bytes) 34
  resting : (q s : ℕ) → WrongRest bytes fs q s → WrongEnd bytes fs q s

bound_err : (r : Result (List Data) Fault) (found : Found) (q s : ℕ) → TellsBy r q s → TellsBy (r >>= with_found found) q s
bound_err r found q s t = (t.0, ap (λ (z : Result (List Data) Fault). z >>= with_found found) t.1, t.2)

both_true : (a b : Bool) → (a && b) ≡ true → (a ≡ true) × (b ≡ true)
both_true true b e = (refl, e)
both_true false b e = absurd cc

missing_tells : (p : ℕ) (r : Result (List Data) Fault) → TellsBy (missing_at p r) p 34
missing_tells p (Ok ds) = (record { place = p; reason = 34 }, refl, inr (refl, omega arith))
missing_tells p (Err g) = by (g.place == p && ltb g.reason 34) refl
  where
    by : (t : Bool) → (g.place == p && ltb g.reason 34) ≡ t → TellsBy (cond t (failed g) (bad {A = List Data} p 34)) p 34
    by true is = let b = both_true (g.place == p) (ltb g.reason 34) is in (g, refl, inr (eqb-true _ p b.0, omega (arith, ltb-true g.reason 34 b.1)))
    by false is = (record { place = p; reason = 34 }, refl, inr (refl, omega arith))

missing_keeps : (p q s : ℕ) (g : Fault) → p ≤ g.place → Before g.place g.reason q s → TellsBy (missing_at p (Err g)) q s
missing_keeps p q s g le before = by (g.place == p) (ltb g.reason 34) refl refl
  where
    later : (g.place ≡ p → 34 ≤ g.reason) → Before g.place g.reason q s → (g.place < p) ⊎ (p ≤ g.place) → Before p 34 q s
    later high (inl lt) (inl under) = absurd (omega (arith, le, under))
    later high (inl lt) (inr over) = inl (omega (arith, lt, over))
    later high (inr same) (inl under) = absurd (omega (arith, le, under))
    later high (inr same) (inr over) = elim (cases_lt p g.place) [
      | inl lt ↦ inl (omega (arith, lt, same.0))
      | inr ge ↦ (let here : g.place ≡ p = omega (arith, ge, over) in inr (sym here ∙ same.0, omega (arith, high here, same.1)))
    ]

    by : (a b : Bool) → (g.place == p) ≡ a → ltb g.reason 34 ≡ b → TellsBy (cond (a && b) (failed g) (bad {A = List Data} p 34)) q s
    by true true a_is b_is = (g, refl, before)
    by true false a_is b_is = (record { place = p; reason = 34 }, refl, later (λ same. ltb-false g.reason 34 b_is) before (inr le))
    by false b a_is b_is = (record { place = p; reason = 34 }, refl, later (λ same. absurd (eqb-false _ p a_is same)) before (inr le))

ended_least : (bytes : List ℕ) (fs : List Field) (found : Found) (q s : ℕ) → ReadLaws (input_in bytes) → IsWhole bytes → FieldsStand bytes fs (fields_end_in bytes) → Tracks found fs → WrongEnd bytes fs q s → TellsBy (ended_at bytes found) q s
unfolding ended_at
ended_least bytes fs found q s laws w stand tracks (lacking lacks) = rw (is_missing (type_in bytes) found fs tracks lacks) (bound_err _ found (fields_end_in bytes) 34 (missing_tells (fields_end_in bytes) (rest_at bytes found)))
ended_least bytes fs found q s laws w stand tracks (resting q' s' wrong) = by (has_required (type_in bytes) found) (rest_least bytes fs found q s laws w stand tracks wrong)
  where
    by : (t : Bool) → TellsBy (rest_at bytes found) q s → TellsBy (cond t (rest_at bytes found) (missing_at (fields_end_in bytes) (rest_at bytes found)) >>= with_found found) q s
    by true told = bound_err (rest_at bytes found) found q s told
    by false told =
        let le = rest_place bytes fs found told.0 laws w stand tracks told.1 in
        let k = missing_keeps (fields_end_in bytes) q s told.0 le told.2 in
        bound_err (missing_at (fields_end_in bytes) (rest_at bytes found)) found q s (k.0, ap (λ (r : Result (List Data) Fault). missing_at (fields_end_in bytes) r) told.1 ∙ k.1, k.2)

-- the whole

pub message_told : (bytes : List ℕ) (f : Fault) → ReadLaws (input_in bytes) → IsWhole bytes → message_at bytes ≡ Err f → WrongMessage bytes f.place f.reason
unfolding message_at
message_told bytes f laws w e = by (all_fields_at (input_in bytes) (fields_bound bytes) (fields_end_in bytes) none_found 16) refl e
  where
    by : (r : Result Found Fault) → all_fields_at (input_in bytes) (fields_bound bytes) (fields_end_in bytes) none_found 16 ≡ r → (r >>= ended_at bytes) ≡ Err f → WrongMessage bytes f.place f.reason
    by (Ok found) is e =
        let t = walk_read (input_in bytes) (fields_bound bytes) laws (fields_valid bytes w) (fields_end_in bytes) none_found [] 16 found tracks_none none_good refl (omega arith) (omega arith) is in
        ended_told bytes t.more found f laws w t.stand t.tracks e
    by (Err g) is e =
        let t = walk_told (input_in bytes) (fields_bound bytes) laws (fields_valid bytes w) (fields_end_in bytes) none_found [] 16 f tracks_none (omega arith) (is ∙ ap failed (err_is g f e)) in
        which t.more t.next t.stand t.before t.wrong
      where
        which : (fs : List Field) (next : ℕ) → FieldsStand bytes fs next → next < fields_end_in bytes → WrongField_ (input_in bytes) (fields_bound bytes) fs next f.place f.reason → WrongMessage bytes f.place f.reason
        which fs next stand lt (inl wrong) = in_field fs next f.place f.reason stand lt wrong
        which fs next stand lt (inr wrong) = of_field fs next f.place f.reason stand lt wrong

end_least : (bytes : List ℕ) (fs : List Field) (q s : ℕ) → ReadLaws (input_in bytes) → IsWhole bytes → FieldsStand bytes fs (fields_end_in bytes) → fields_end_in bytes ≤ q → WrongEnd bytes fs q s → TellsBy (message_at bytes) q s
unfolding message_at
end_least bytes fs q s laws w stand le wrong = by (walk_of (input_in bytes) (fields_bound bytes) laws (fields_valid bytes w) fs (fields_end_in bytes) none_found [] 16 tracks_none stand (omega arith))
  where
    by : Walk (input_in bytes) (fields_bound bytes) (fields_end_in bytes) none_found [] fs 16 → TellsBy (all_fields_at (input_in bytes) (fields_bound bytes) (fields_end_in bytes) none_found 16 >>= ended_at bytes) q s
    by (walked found is tracks) =
        let t = ended_least bytes fs found q s laws w stand tracks wrong in
        (t.0, ap (λ (r : Result Found Fault). r >>= ended_at bytes) is ∙ t.1, t.2)
    by (stopped_at g is lt) = (g, ap (λ (r : Result Found Fault). r >>= ended_at bytes) is, inl (omega (arith, lt, le)))

walk_tells : (bytes : List ℕ) (fs : List Field) (next q s : ℕ) → ReadLaws (input_in bytes) → IsWhole bytes → FieldsStand bytes fs next → next < fields_end_in bytes → WrongField_ (input_in bytes) (fields_bound bytes) fs next q s → TellsBy (message_at bytes) q s
unfolding message_at
walk_tells bytes fs next q s laws w stand lt wrong =
    let t = walk_least (input_in bytes) (fields_bound bytes) laws (fields_valid bytes w) fs (fields_end_in bytes) none_found [] 16 next q s tracks_none stand lt (omega arith) wrong in
    (t.0, ap (λ (r : Result Found Fault). r >>= ended_at bytes) t.1, t.2)

pub message_least : (bytes : List ℕ) (q s : ℕ) → ReadLaws (input_in bytes) → IsWhole bytes → WrongMessage bytes q s → TellsBy (message_at bytes) q s
message_least bytes q s laws w (in_field fs next place reason stand lt wrong) = walk_tells bytes fs next place reason laws w stand lt (inl wrong)
message_least bytes q s laws w (of_field fs next place reason stand lt wrong) = walk_tells bytes fs next place reason laws w stand lt (inr wrong)
message_least bytes q s laws w (no_required fs stand lacks) = end_least bytes fs _ _ laws w stand (omega arith) (lacking lacks)
message_least bytes q s laws w (padding_not_zero fs q' stand from lt some) = end_least bytes fs _ _ laws w stand from (resting _ _ (of_padding q' from lt some))
message_least bytes q s laws w (no_types fs stand none lt) = end_least bytes fs _ _ laws w stand (omega arith) (resting _ _ (of_types none lt))
message_least bytes q s laws w (in_body fs place reason stand wrong) =
    let r = of_body place reason wrong in end_least bytes fs place reason laws w stand (rest_behind bytes fs place reason laws stand r) (resting place reason r)
message_least bytes q s laws w (left_over fs ds next stand some body lt) =
    let r = of_end ds next some body lt in end_least bytes fs next 21 laws w stand (rest_behind bytes fs next 21 laws stand r) (resting next 21 r)
