-- The first 16 bytes: their length, or their first fault.
use Rattle.std.proofs.Common.{◌≡◌, ℕ, zero, suc, ◌+◌, ◌-◌, ◌<◌, ◌≤◌, Bool, true, false, cond, ltb, List, length, get_or, take, drop, Result, Ok, Err, refl, sym, ap, subst, ◌∙◌, arith, inl, inr, ◌⊎◌}
use Rattle.std.specs.Prelude.{◌≢◌, ◌==◌, ◌&&◌, not, IfOk, IfErr, if◌then◌else◌}
use Rattle.std.specs.Int.{w32, byte_len}
use Rattle.std.proofs.lemmas.Bool.{eqb-true, eqb-false, ltb-true, ltb-false}
use Rattle.std.proofs.lemmas.List.{get_or-take, drop-take, take-take}
use Rattle.atspi_types.specs.SignatureFaults.{Before}
use Rattle.atspi_types.specs.declared.fault.Fault.{Fault}
use Rattle.atspi_types.specs.declared.fault.Order.{Order}
use Rattle.atspi_types.specs.declared.fault.Order.TheVariants.{Little, Big}
use Rattle.atspi_marshal.specs.Input.{Input, whole, from_bytes, number_in, byte_in}
use Rattle.atspi_message.specs.Front.{order_by, order_in, input_in, type_in, version_in, serial_in, body_length_in, fields_length_in, length_in, front_in, WrongFront, no_order, no_type, no_version, too_long, no_serial, fields_too_long, IsFirst, IsSoundFront}

-- what is wrong with the order, and what with the rest
order_wrong : (b : ℕ) → (not (b == 108) && not (b == 66)) ≡ true → (b ≢ 108) × (b ≢ 66)
order_wrong b e = by (b == 108) (b == 66) refl refl e
  where
    by : (t u : Bool) → (b == 108) ≡ t → (b == 66) ≡ u → (not t && not u) ≡ true → (b ≢ 108) × (b ≢ 66)
    by true u p q e = absurd cc
    by false true p q e = absurd cc
    by false false p q e = (λ z. eqb-false _ 108 p z, λ z. eqb-false _ 66 q z)

order_right : (b : ℕ) → (not (b == 108) && not (b == 66)) ≡ false → (b ≢ 108) → b ≡ 66
order_right b e other = by (b == 108) (b == 66) refl refl e
  where
    by : (t u : Bool) → (b == 108) ≡ t → (b == 66) ≡ u → (not t && not u) ≡ false → b ≡ 66
    by true u p q e = absurd (other (eqb-true _ 108 p))
    by false true p q e = eqb-true _ 66 q
    by false false p q e = absurd cc

is_not : (a b : ℕ) → not (a == b) ≡ false → a ≡ b
is_not a b e = by (a == b) refl e
  where
    by : (t : Bool) → (a == b) ≡ t → not t ≡ false → a ≡ b
    by true p e = eqb-true _ b p
    by false p e = absurd cc

differs : (a b : ℕ) → not (a == b) ≡ true → a ≢ b
differs a b e = by (a == b) refl e
  where
    by : (t : Bool) → (a == b) ≡ t → not t ≡ true → a ≢ b
    by true p e = absurd cc
    by false p e = λ z. eqb-false _ b p z

-- the six tests
pub record Passed (bytes : List ℕ) (a b c d e f : Bool) : Type 0 where
  pub order : (not (byte_in (input_in bytes) 0 == 108) && not (byte_in (input_in bytes) 0 == 66)) ≡ a
  pub type : (type_in bytes == 0) ≡ b
  pub version : not (version_in bytes == 1) ≡ c
  pub length : ltb 134217728 (length_in bytes) ≡ d
  pub serial : (serial_in bytes == 0) ≡ e
  pub fields : ltb 67108864 (fields_length_in bytes) ≡ f

-- a test that fails tells a place, and each fault before it was tested
first_of : (bytes : List ℕ) (a b c d e f : Bool) (q s : ℕ) → Passed bytes a b c d e f → WrongFront bytes q s
    → ((q ≡ 0) × (s ≡ 22) × (a ≡ true)) ⊎ (((q ≡ 1) × (s ≡ 23) × (b ≡ true)) ⊎ (((q ≡ 3) × (s ≡ 24) × (c ≡ true)) ⊎ (((q ≡ 4) × (s ≡ 25) × (d ≡ true)) ⊎ (((q ≡ 8) × (s ≡ 26) × (e ≡ true)) ⊎ ((q ≡ 12) × (s ≡ 27) × (f ≡ true))))))
first_of bytes true b c d e f q s p (no_order h g) = inl (refl, refl, refl)
first_of bytes false b c d e f q s p (no_order h g) = absurd (g (order_right (byte_in (input_in bytes) 0) p.order h))
first_of bytes a true c d e f q s p (no_type h) = inr (inl (refl, refl, refl))
first_of bytes a false c d e f q s p (no_type h) = absurd (eqb-false _ 0 p.type h)
first_of bytes a b true d e f q s p (no_version h) = inr (inr (inl (refl, refl, refl)))
first_of bytes a b false d e f q s p (no_version h) = absurd (h (is_not (version_in bytes) 1 p.version))
first_of bytes a b c true e f q s p (too_long h) = inr (inr (inr (inl (refl, refl, refl))))
first_of bytes a b c false e f q s p (too_long h) = absurd (omega (arith, h, ltb-false _ _ p.length))
first_of bytes a b c d true f q s p (no_serial h) = inr (inr (inr (inr (inl (refl, refl, refl)))))
first_of bytes a b c d false f q s p (no_serial h) = absurd (eqb-false _ 0 p.serial h)
first_of bytes a b c d e true q s p (fields_too_long h) = inr (inr (inr (inr (inr (refl, refl, refl)))))
first_of bytes a b c d e false q s p (fields_too_long h) = absurd (omega (arith, h, ltb-false _ _ p.fields))

-- one that comes before each test that may fail comes first
before_all : (bytes : List ℕ) (a b c d e f : Bool) (n r q s : ℕ) → Passed bytes a b c d e f → (a ≡ true → Before n r 0 22) → (b ≡ true → Before n r 1 23) → (c ≡ true → Before n r 3 24) → (d ≡ true → Before n r 4 25) → (e ≡ true → Before n r 8 26) → (f ≡ true → Before n r 12 27)
    → WrongFront bytes q s → Before n r q s
before_all bytes a b c d e f n r q s p ha hb hc hd he hf w = by (first_of bytes a b c d e f q s p w)
  where
    at : (m t : ℕ) → Before n r m t → q ≡ m → s ≡ t → Before n r q s
    at m t h x y = rw (x, y) h

    by : ((q ≡ 0) × (s ≡ 22) × (a ≡ true)) ⊎ (((q ≡ 1) × (s ≡ 23) × (b ≡ true)) ⊎ (((q ≡ 3) × (s ≡ 24) × (c ≡ true)) ⊎ (((q ≡ 4) × (s ≡ 25) × (d ≡ true)) ⊎ (((q ≡ 8) × (s ≡ 26) × (e ≡ true)) ⊎ ((q ≡ 12) × (s ≡ 27) × (f ≡ true)))))) → Before n r q s
    by (inl h) = at 0 22 (ha h.2) h.0 h.1
    by (inr (inl h)) = at 1 23 (hb h.2) h.0 h.1
    by (inr (inr (inl h))) = at 3 24 (hc h.2) h.0 h.1
    by (inr (inr (inr (inl h)))) = at 4 25 (hd h.2) h.0 h.1
    by (inr (inr (inr (inr (inl h))))) = at 8 26 (he h.2) h.0 h.1
    by (inr (inr (inr (inr (inr h))))) = at 12 27 (hf h.2) h.0 h.1

never : {A : Type 0} → false ≡ true → A
never e = absurd cc

self : (n r : ℕ) → Before n r n r
self n r = inr (refl, omega arith)

abbrev at_place : ℕ → ℕ → Fault
at_place n r = record { place = n; reason = r }

abbrev answer : List ℕ → Bool → Bool → Bool → Bool → Bool → Bool → Result ℕ Fault
answer bytes a b c d e f = cond a (Err (at_place 0 22)) (cond b (Err (at_place 1 23)) (cond c (Err (at_place 3 24)) (cond d (Err (at_place 4 25)) (cond e (Err (at_place 8 26)) (cond f (Err (at_place 12 27)) (Ok (length_in bytes)))))))

abbrev failed : Fault → Result ℕ Fault
failed g = Err g

same_fault : (g h : Fault) → failed g ≡ failed h → g ≡ h
same_fault g h e = cc

first_is : (bytes : List ℕ) (a b c d e f : Bool) (g : Fault) → Passed bytes a b c d e f → answer bytes a b c d e f ≡ Err g → IsFirst (WrongFront bytes) g.place g.reason
first_is bytes true b c d e f g p is = subst (λ (h : Fault). IsFirst (WrongFront bytes) h.place h.reason) (same_fault _ g is) (record {
  there = (let w = order_wrong (byte_in (input_in bytes) 0) p.order in no_order w.0 w.1);
  first = λ q s w. before_all bytes true b c d e f 0 22 q s p (λ t. self 0 22) (λ t. inl (omega arith)) (λ t. inl (omega arith)) (λ t. inl (omega arith)) (λ t. inl (omega arith)) (λ t. inl (omega arith)) w;
})
first_is bytes false true c d e f g p is = subst (λ (h : Fault). IsFirst (WrongFront bytes) h.place h.reason) (same_fault _ g is) (record {
  there = no_type (eqb-true _ 0 p.type);
  first = λ q s w. before_all bytes false true c d e f 1 23 q s p (λ t. never t) (λ t. self 1 23) (λ t. inl (omega arith)) (λ t. inl (omega arith)) (λ t. inl (omega arith)) (λ t. inl (omega arith)) w;
})
first_is bytes false false true d e f g p is = subst (λ (h : Fault). IsFirst (WrongFront bytes) h.place h.reason) (same_fault _ g is) (record {
  there = no_version (differs (version_in bytes) 1 p.version);
  first = λ q s w. before_all bytes false false true d e f 3 24 q s p (λ t. never t) (λ t. never t) (λ t. self 3 24) (λ t. inl (omega arith)) (λ t. inl (omega arith)) (λ t. inl (omega arith)) w;
})
first_is bytes false false false true e f g p is = subst (λ (h : Fault). IsFirst (WrongFront bytes) h.place h.reason) (same_fault _ g is) (record {
  there = too_long (ltb-true _ _ p.length);
  first = λ q s w. before_all bytes false false false true e f 4 25 q s p (λ t. never t) (λ t. never t) (λ t. never t) (λ t. self 4 25) (λ t. inl (omega arith)) (λ t. inl (omega arith)) w;
})
first_is bytes false false false false true f g p is = subst (λ (h : Fault). IsFirst (WrongFront bytes) h.place h.reason) (same_fault _ g is) (record {
  there = no_serial (eqb-true _ 0 p.serial);
  first = λ q s w. before_all bytes false false false false true f 8 26 q s p (λ t. never t) (λ t. never t) (λ t. never t) (λ t. never t) (λ t. self 8 26) (λ t. inl (omega arith)) w;
})
first_is bytes false false false false false true g p is = subst (λ (h : Fault). IsFirst (WrongFront bytes) h.place h.reason) (same_fault _ g is) (record {
  there = fields_too_long (ltb-true _ _ p.fields);
  first = λ q s w. before_all bytes false false false false false true 12 27 q s p (λ t. never t) (λ t. never t) (λ t. never t) (λ t. never t) (λ t. never t) (λ t. self 12 27) w;
})
first_is bytes false false false false false false g p is = absurd cc

pub front_first : (bytes : List ℕ) (r : Result ℕ Fault) → r ≡ front_in bytes → IfErr r (λ fault. IsFirst (WrongFront bytes) fault.place fault.reason)
unfolding front_in
front_first bytes (Ok n) e = tt
front_first bytes (Err g) e = first_is bytes _ _ _ _ _ _ g (record { order = refl; type = refl; version = refl; length = refl; serial = refl; fields = refl }) (sym e)

sound_is : (bytes : List ℕ) (a b c d e f : Bool) (n : ℕ) → Passed bytes a b c d e f → Ok n ≡ answer bytes a b c d e f → IsSoundFront bytes
sound_is bytes true b c d e f n p is = absurd cc
sound_is bytes false true c d e f n p is = absurd cc
sound_is bytes false false true d e f n p is = absurd cc
sound_is bytes false false false true e f n p is = absurd cc
sound_is bytes false false false false true f n p is = absurd cc
sound_is bytes false false false false false true n p is = absurd cc
sound_is bytes false false false false false false n p is = record {
  ordered = λ other. order_right (byte_in (input_in bytes) 0) p.order other;
  typed = λ z. eqb-false _ 0 p.type z;
  version = is_not (version_in bytes) 1 p.version;
  short = ltb-false _ _ p.length;
  numbered = λ z. eqb-false _ 0 p.serial z;
  fields = ltb-false _ _ p.fields;
}

pub front_sound : (bytes : List ℕ) (n : ℕ) → Ok n ≡ front_in bytes → IsSoundFront bytes
unfolding front_in
front_sound bytes n e = sound_is bytes _ _ _ _ _ _ n (record { order = refl; type = refl; version = refl; length = refl; serial = refl; fields = refl }) e

-- the first 16 bytes of more
bytes_again : (o : Order) (bytes : List ℕ) (k : ℕ) → k < 16 → byte_in (whole o (take 16 bytes)) k ≡ byte_in (whole o bytes) k
bytes_again o bytes k lt = get_or-take 16 bytes k 0 lt

numbers_again : (o : Order) (bytes : List ℕ) (p r : ℕ) → p + (4 + r) ≡ 16 → number_in (whole o (take 16 bytes)) w32 p ≡ number_in (whole o bytes) w32 p
numbers_again o bytes p r is =
    let cut : drop p (take 16 bytes) ≡ take (4 + r) (drop p bytes) = ap (λ (n : ℕ). drop p (take n bytes)) (sym is) ∙ drop-take p (4 + r) bytes in
    ap (from_bytes o w32) (ap (λ (bs : List ℕ). take 4 bs) cut ∙ take-take 4 (4 + r) (drop p bytes) (omega arith))

pub record SameFront (bytes : List ℕ) : Type 0 where
  pub zeroth : byte_in (input_in (take 16 bytes)) 0 ≡ byte_in (input_in bytes) 0
  pub type : type_in (take 16 bytes) ≡ type_in bytes
  pub version : version_in (take 16 bytes) ≡ version_in bytes
  pub body : body_length_in (take 16 bytes) ≡ body_length_in bytes
  pub serial : serial_in (take 16 bytes) ≡ serial_in bytes
  pub fields : fields_length_in (take 16 bytes) ≡ fields_length_in bytes

pub same_front : (bytes : List ℕ) → SameFront bytes
same_front bytes =
    let order : order_in (take 16 bytes) ≡ order_in bytes = ap order_by (bytes_again Little bytes 0 (omega arith)) in
    record {
      zeroth = bytes_again Little bytes 0 (omega arith);
      type = bytes_again Little bytes 1 (omega arith);
      version = bytes_again Little bytes 3 (omega arith);
      body = ap (λ (o : Order). number_in (whole o (take 16 bytes)) w32 4) order ∙ numbers_again (order_in bytes) bytes 4 8 refl;
      serial = ap (λ (o : Order). number_in (whole o (take 16 bytes)) w32 8) order ∙ numbers_again (order_in bytes) bytes 8 4 refl;
      fields = ap (λ (o : Order). number_in (whole o (take 16 bytes)) w32 12) order ∙ numbers_again (order_in bytes) bytes 12 0 refl;
    }

pub same_length : (bytes : List ℕ) → length_in (take 16 bytes) ≡ length_in bytes
same_length bytes = let s = same_front bytes in rw (s.body, s.fields) refl

pub sound_from : (bytes : List ℕ) → IsSoundFront (take 16 bytes) → IsSoundFront bytes
sound_from bytes f =
    let s = same_front bytes in
    record {
      ordered = λ other. sym s.zeroth ∙ f.ordered (λ is. other (sym s.zeroth ∙ is));
      typed = λ z. f.typed (s.type ∙ z);
      version = sym s.version ∙ f.version;
      short = omega (arith, f.short, same_length bytes);
      numbered = λ z. f.numbered (s.serial ∙ z);
      fields = omega (arith, f.fields, s.fields);
    }

pub sound_to : (bytes : List ℕ) → IsSoundFront bytes → IsSoundFront (take 16 bytes)
sound_to bytes f =
    let s = same_front bytes in
    record {
      ordered = λ other. s.zeroth ∙ f.ordered (λ is. other (s.zeroth ∙ is));
      typed = λ z. f.typed (sym s.type ∙ z);
      version = s.version ∙ f.version;
      short = omega (arith, f.short, same_length bytes);
      numbered = λ z. f.numbered (sym s.serial ∙ z);
      fields = omega (arith, f.fields, s.fields);
    }
