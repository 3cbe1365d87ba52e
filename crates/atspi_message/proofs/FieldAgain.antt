-- A good field that is spelled is read.
use Rattle.std.proofs.Common.{◌≡◌, ℕ, zero, suc, ◌+◌, ◌-◌, ◌<◌, ◌≤◌, Bool, true, false, cond, eqb, ltb, List, [], ◌∷◌, ◌++◌, length, encode_utf8_all, Option, Some, None, Result, Ok, Err, refl, sym, ap, subst, ◌∙◌, arith, inl, inr, ◌⊎◌}
use Rattle.std.specs.Prelude.{◌==◌, ◌≢◌}
use Rattle.std.specs.Int.{w32}
use Rattle.std.proofs.lemmas.Bool.{eqb-true, eqb-false, eq-eqb, ltb-false, le-ltb}
use Rattle.atspi_base.specs.ReadsText.{text_in}
use Rattle.atspi_base.specs.declared.text.TextFault.{TextFault}
use Rattle.atspi_base.specs.declared.text.TextFault.TheVariants.{Zero, Utf8}
use Rattle.atspi_base.specs.declared.text.TextFault.TheVariants.{NoMemory as TextNoMemory}
use Rattle.atspi_base.proofs.TextLemmas.{text_is}
use Rattle.atspi_types.specs.Kinds.{Num, Kind, Kinds, number, boolean, text, path, signature, array, structure, dictionary, byte, variant, u32, no_kinds, kind, IsLawful}
use Rattle.atspi_types.specs.Data.{Data, number_data, text_data, path_data, signature_data, structure_data, variant_data, item, no_items}
use Rattle.atspi_types.specs.declared.fault.Order.{Order}
use Rattle.atspi_types.specs.declared.fault.Fault.{Fault}
use Rattle.atspi_marshal.specs.declared.input.Bound.{Bound}
use Rattle.atspi_marshal.specs.Input.{Input, number_in, byte_in, aligned}
use Rattle.atspi_types.specs.SignatureReading.{signature_in}
use Rattle.atspi_marshal.specs.Spelling.{Fits, single}
use Rattle.atspi_marshal.specs.Faults.{IsItem, IsInside, HasFront, long_in, short_in}
use Rattle.atspi_marshal.specs.Reading.{◌>>=◌, bad, read, inner_at, as_variant, variant_with, text_with, ended}
use Rattle.atspi_marshal.proofs.Places.{IsValid, bind_ok, ok_is, done, passed_not}
use Rattle.atspi_message.specs.declared.code.Code.{Code}
use Rattle.atspi_message.specs.declared.code.Code.TheVariants.{Path, Interface, Member, Error, Reply, Destination, Sender, Signature, Descriptors}
use Rattle.atspi_message.specs.Codes.{number_of, code_of, kind_for, letter_of, IsText, IsNameFor}
use Rattle.atspi_message.specs.Bytes.{Field, field_kind, field_data}
use Rattle.atspi_message.specs.Faults.{Lacks, IsTyped, WrongAlone, no_code, other_type, second, no_name, no_serial, descriptors}
use Rattle.atspi_message.specs.inner.Reading.{Found, slot, is_there, field_at}
use Rattle.atspi_message.proofs.Room.{LongFits, ShortFits}
use Rattle.atspi_message.proofs.Told.{ReadLaws, Alone, Told, failed}
use Rattle.atspi_message.proofs.Typed.{typed_value, inside_to, variant_here, IsTyped-types}
use Rattle.atspi_message.proofs.Values.{IsGoodValue, text_here, number_here, inside_long, front_to}
use Rattle.atspi_message.proofs.Names.{name_spells}
use Rattle.atspi_message.proofs.Found.{number-code_of, found_with, Tracks, lacks_there}
use Rattle.atspi_message.proofs.OneField.{packed, Parts, field_parts, eights, FieldRead, field_read}
use Rattle.atspi_message.proofs.FieldFaults.{field_told}

variant_same : (j k : Kind) (v w : Data) → variant_data j v ≡ variant_data k w → (j ≡ k) × (v ≡ w)
variant_same j k v w e = ((cc), (cc))

pub first_same : (x y : Data × ℕ) → x ≡ y → x.0 ≡ y.0
first_same x y e = ap (λ (z : Data × ℕ). z.0) e

pub second_same : (x y : Data × ℕ) → x ≡ y → x.1 ≡ y.1
second_same x y e = ap (λ (z : Data × ℕ). z.1) e

ok_pair : (a c : Data) (m n : ℕ) → a ≡ c → m ≡ n → done {A = Data × ℕ} (a, m) ≡ done (c, n)
ok_pair a c m n p q = rw (p, q) refl

-- the variant of a field of a type is its value
typed_gives : (i : Input) (b : Bound) (c : Code) (at next : ℕ) (k : Kind) (v : Data) → ReadLaws i → IsValid i b → IsTyped i b c at → read i 62 variant b at ≡ Ok (variant_data k v, next) → read i 61 (kind_for c) b (at + 3) ≡ Ok (v, next)
unfolding inner_at
typed_gives i b c at next k v laws valid typed e =
    let types = IsTyped-types i b at c laws valid typed in
    let whole = sym (variant_here i 61 b at (inside_to i b at typed.0)) ∙ e in
    let opened : variant_with false (read i 61) i b at (Ok (kind_for c ∷ [])) ≡ Ok (variant_data k v, next) = subst (λ (r : Result (List Kind) Fault). variant_with false (read i 61) i b at r ≡ Ok (variant_data k v, next)) types whole in
    let g = passed_not (byte_in i (at + 1 + byte_in i at) == 0) (record { place = at + 1 + byte_in i at; reason = 12 }) (read i 61 (kind_for c) b (at + 2 + byte_in i at) >>= as_variant (kind_for c)) (variant_data k v, next) opened in
    let third : at + 2 + byte_in i at ≡ at + 3 = omega (arith, typed.1) in
    let a = bind_ok (read i 61 (kind_for c) b (at + 2 + byte_in i at)) (as_variant (kind_for c)) (variant_data k v, next) g.1 in
    let made = ok_is (variant_data (kind_for c) a.0.0, a.0.1) (variant_data k v, next) a.2 in
    let value : a.0.0 ≡ v = (variant_same (kind_for c) k a.0.0 v (first_same _ _ made)).1 in
    let end : a.0.1 ≡ next = second_same _ _ made in
    subst (λ (n : ℕ). read i 61 (kind_for c) b n ≡ Ok (v, next)) third (a.1 ∙ ok_pair a.0.0 v a.0.1 next value end)

-- a variant of one type has that type
single_gives : (i : Input) (b : Bound) (at next : ℕ) (j k : Kind) (v : Data) → ShortFits i b at → signature_in (short_in i at) ≡ Ok (j ∷ []) → read i 62 variant b at ≡ Ok (variant_data k v, next) → j ≡ k
unfolding inner_at
single_gives i b at next j k v fits types e =
    let whole = sym (variant_here i 61 b at fits) ∙ e in
    let opened : variant_with false (read i 61) i b at (Ok (j ∷ [])) ≡ Ok (variant_data k v, next) = subst (λ (r : Result (List Kind) Fault). variant_with false (read i 61) i b at r ≡ Ok (variant_data k v, next)) types whole in
    let g = passed_not (byte_in i (at + 1 + byte_in i at) == 0) (record { place = at + 1 + byte_in i at; reason = 12 }) (read i 61 j b (at + 2 + byte_in i at) >>= as_variant j) (variant_data k v, next) opened in
    let a = bind_ok (read i 61 j b (at + 2 + byte_in i at)) (as_variant j) (variant_data k v, next) g.1 in
    let made = ok_is (variant_data j a.0.0, a.0.1) (variant_data k v, next) a.2 in
    (variant_same j k a.0.0 v (first_same _ _ made)).0

-- the kind of a value
path_kind : (o : Order) (levels at : ℕ) (bs : List ℕ) (k : Kind) → Fits o (suc levels) at (path_data bs) k → k ≡ path
path_kind o levels at bs (number m) h = absurd h
path_kind o levels at bs boolean h = absurd h
path_kind o levels at bs text h = absurd h
path_kind o levels at bs path h = refl
path_kind o levels at bs signature h = absurd h
path_kind o levels at bs (array j) h = absurd h
path_kind o levels at bs (structure js) h = absurd h
path_kind o levels at bs variant h = absurd h
path_kind o levels at bs (dictionary j w) h = absurd h

text_kind : (o : Order) (levels at : ℕ) (cs : List ℕ) (k : Kind) → Fits o (suc levels) at (text_data cs) k → k ≡ text
text_kind o levels at cs (number m) h = absurd h
text_kind o levels at cs boolean h = absurd h
text_kind o levels at cs text h = refl
text_kind o levels at cs path h = absurd h
text_kind o levels at cs signature h = absurd h
text_kind o levels at cs (array j) h = absurd h
text_kind o levels at cs (structure js) h = absurd h
text_kind o levels at cs variant h = absurd h
text_kind o levels at cs (dictionary j w) h = absurd h

signature_kind : (o : Order) (levels at : ℕ) (ks : Kinds) (k : Kind) → Fits o (suc levels) at (signature_data ks) k → k ≡ signature
signature_kind o levels at ks (number m) h = absurd h
signature_kind o levels at ks boolean h = absurd h
signature_kind o levels at ks text h = absurd h
signature_kind o levels at ks path h = absurd h
signature_kind o levels at ks signature h = refl
signature_kind o levels at ks (array j) h = absurd h
signature_kind o levels at ks (structure js) h = absurd h
signature_kind o levels at ks variant h = absurd h
signature_kind o levels at ks (dictionary j w) h = absurd h

number_kind : (o : Order) (levels at : ℕ) (n : Num) (x : ℕ) (k : Kind) → Fits o (suc levels) at (number_data n x) k → k ≡ number n
number_kind o levels at n x (number m) h = ap number (sym h.0)
number_kind o levels at n x boolean h = absurd h
number_kind o levels at n x text h = absurd h
number_kind o levels at n x path h = absurd h
number_kind o levels at n x signature h = absurd h
number_kind o levels at n x (array j) h = absurd h
number_kind o levels at n x (structure js) h = absurd h
number_kind o levels at n x variant h = absurd h
number_kind o levels at n x (dictionary j w) h = absurd h

moved : (o : Order) (levels at : ℕ) (d e : Data) (k : Kind) → d ≡ e → Fits o (suc levels) at d k → Fits o (suc levels) at e k
moved o levels at d e k same h = subst (λ (x : Data). Fits o (suc levels) at x k) same h

good_kind : (o : Order) (levels at : ℕ) (c : Code) (d : Data) (k : Kind) → IsGoodValue c d → Fits o (suc levels) at d k → k ≡ kind_for c
good_kind o levels at Path d k g h = path_kind o levels at g.0 k (moved o levels at d (path_data g.0) k g.1 h)
good_kind o levels at Interface d k g h = text_kind o levels at g.0 k (moved o levels at d (text_data g.0) k g.1 h)
good_kind o levels at Member d k g h = text_kind o levels at g.0 k (moved o levels at d (text_data g.0) k g.1 h)
good_kind o levels at Error d k g h = text_kind o levels at g.0 k (moved o levels at d (text_data g.0) k g.1 h)
good_kind o levels at Destination d k g h = text_kind o levels at g.0 k (moved o levels at d (text_data g.0) k g.1 h)
good_kind o levels at Sender d k g h = text_kind o levels at g.0 k (moved o levels at d (text_data g.0) k g.1 h)
good_kind o levels at Reply d k g h = number_kind o levels at u32 g.0 k (moved o levels at d (number_data u32 g.0) k g.1 h)
good_kind o levels at Signature d k g h = signature_kind o levels at g.0 k (moved o levels at d (signature_data g.0) k g.1 h)
good_kind o levels at Descriptors d k g h = number_kind o levels at u32 0 k (moved o levels at d (number_data u32 0) k g h)

-- a good name that is read as a text stands there
good_text : (c : Code) (v : Data) → IsText c → IsGoodValue c v → (bytes : List ℕ) × (v ≡ text_data bytes) × IsNameFor c bytes
good_text Path v is_text g = absurd is_text
good_text Interface v is_text g = g
good_text Member v is_text g = g
good_text Error v is_text g = g
good_text Reply v is_text g = absurd is_text
good_text Destination v is_text g = g
good_text Sender v is_text g = g
good_text Signature v is_text g = absurd is_text
good_text Descriptors v is_text g = absurd is_text

text_kind_for : (c : Code) → IsText c → kind_for c ≡ text
text_kind_for Path t = absurd t
text_kind_for Interface t = refl
text_kind_for Member t = refl
text_kind_for Error t = refl
text_kind_for Reply t = absurd t
text_kind_for Destination t = refl
text_kind_for Sender t = refl
text_kind_for Signature t = absurd t
text_kind_for Descriptors t = absurd t

text_gives : (i : Input) (p n : ℕ) (r : Result (List ℕ) TextFault) (x : Data × ℕ) → text_with i p n r ≡ Ok x → (cs : List ℕ) × (r ≡ Ok cs) × (x.0 ≡ text_data cs)
text_gives i p n (Ok cs) x e =
    let g = passed_not (byte_in i (p + 4 + n) == 0) (record { place = p + 4 + n; reason = 12 }) (Ok (text_data cs, p + 4 + n + 1)) x e in
    (cs, refl, sym (ap (λ (y : Data × ℕ). y.0) (ok_is (text_data cs, p + 4 + n + 1) x g.1)))
text_gives i p n (Err (Zero z)) x e = absurd cc
text_gives i p n (Err (Utf8 z)) x e = absurd cc
text_gives i p n (Err TextNoMemory) x e = absurd cc

name_stands : (i : Input) (b : Bound) (c : Code) (at next : ℕ) (v : Data) → IsText c → IsGoodValue c v → aligned 4 at ≡ at → LongFits i b at → read i 61 (kind_for c) b at ≡ Ok (v, next) → IsNameFor c (long_in i at)
name_stands i b c at next v is_text good same fits e =
    let read_text : read i 61 text b at ≡ Ok (v, next) = subst (λ (k : Kind). read i 61 k b at ≡ Ok (v, next)) (text_kind_for c is_text) e in
    let t = text_gives i at (number_in i w32 at) (text_in (long_in i at)) (v, next) (sym (text_here i 60 b at same fits) ∙ read_text) in
    let g = good_text c v is_text good in
    let who : t.0 ≡ g.0 = (let both = sym t.2 ∙ g.1 in cc) in
    let spelled : g.0 ≡ long_in i at = sym (name_spells c g.0 g.2) ∙ ap encode_utf8_all (sym who) ∙ (text_is (long_in i at) t.0 t.1).0 in
    subst (λ (bytes : List ℕ). IsNameFor c bytes) spelled g.2

number_stands : (i : Input) (b : Bound) (at next : ℕ) (v : Data) → aligned 4 at ≡ at → at + 4 ≤ b.end → read i 61 (number u32) b at ≡ Ok (v, next) → v ≡ number_data u32 (number_in i w32 at)
number_stands i b at next v same le e =
    let there = sym (number_here i 60 b at same (omega (arith, le))) ∙ e in
    let opened = subst (λ (t : Bool). cond {A = Result (Data × ℕ) Fault} t (bad at b.reason) (Ok (number_data u32 (number_in i w32 at), at + 4)) ≡ Ok (v, next)) (le-ltb b.end (at + 4) le) there in
    sym (first_same _ _ (ok_is (number_data u32 (number_in i w32 at), at + 4) (v, next) opened))

-- a field that may stand behind those that were found
pub record IsGood (found : Found) (f : Field) : Type 0 where
  pub not_zero : f.code ≢ 0
  pub good : (c : Code) → f.code ≡ number_of c → IsGoodValue c f.value × (is_there (slot c found) ≡ false)

-- nothing is wrong with it
none_alone : (i : Input) (b : Bound) (found : Found) (fs : List Field) (at next q s : ℕ) (f : Field) → ReadLaws i → IsValid i b → Tracks found fs → IsGood found f
    → byte_in i (aligned 8 at) ≡ f.code → read i 62 variant b (aligned 8 at + 1) ≡ Ok (variant_data f.kind f.value, next) → aligned 8 at + 1 ≤ b.end → WrongAlone i b fs (aligned 8 at) q s → ⊥
none_alone i b found fs at next q s f laws valid tracks good coded e within (no_code w zero_is) = good.not_zero (sym coded ∙ zero_is)
none_alone i b found fs at next q s f laws valid tracks good coded e within (other_type c k is inside spelled lawful differs) =
    let types = ap signature_in spelled ∙ laws.signature_again (k ∷ []) lawful in
    let fits = (laws.sound 62 variant b (aligned 8 at + 1) (variant_data f.kind f.value, next) tt valid e).0.fits in
    let kind_is = good_kind i.order 60 _ c f.value f.kind (good.good c (sym coded ∙ is)).0 fits.1 in
    let same = single_gives i b (aligned 8 at + 1) next k f.kind f.value (inside_to i b (aligned 8 at + 1) inside) types e in
    differs (same ∙ kind_is)
none_alone i b found fs at next q s f laws valid tracks good coded e within (second c w is again) = again (lacks_there found fs c tracks (good.good c (sym coded ∙ is)).1)
none_alone i b found fs at next q s f laws valid tracks good coded e within (no_name c is typed is_text inside outside) =
    let third : aligned 8 at + 1 + 3 ≡ aligned 8 at + 4 = omega arith in
    let value = subst (λ (n : ℕ). read i 61 (kind_for c) b n ≡ Ok (f.value, next)) third (typed_gives i b c (aligned 8 at + 1) next f.kind f.value laws valid typed e) in
    outside (name_stands i b c (aligned 8 at + 4) next f.value is_text (good.good c (sym coded ∙ is)).0 (eights at) (inside_long i b (aligned 8 at + 4) (eights at) inside) value)
none_alone i b found fs at next q s f laws valid tracks good coded e within (no_serial is typed front zero_is) =
    let third : aligned 8 at + 1 + 3 ≡ aligned 8 at + 4 = omega arith in
    let value = subst (λ (n : ℕ). read i 61 (number u32) b n ≡ Ok (f.value, next)) third (typed_gives i b Reply (aligned 8 at + 1) next f.kind f.value laws valid typed e) in
    let stands = number_stands i b (aligned 8 at + 4) next f.value (eights at) (front_to i b (aligned 8 at + 4) (eights at) front) value in
    let g = (good.good Reply (sym coded ∙ is)).0 in
    let who : number_in i w32 (aligned 8 at + 4) ≡ g.0 = (let both = sym stands ∙ g.1 in cc) in
    g.2 (sym who ∙ zero_is)
none_alone i b found fs at next q s f laws valid tracks good coded e within (descriptors is typed front some) =
    let third : aligned 8 at + 1 + 3 ≡ aligned 8 at + 4 = omega arith in
    let value = subst (λ (n : ℕ). read i 61 (number u32) b n ≡ Ok (f.value, next)) third (typed_gives i b Descriptors (aligned 8 at + 1) next f.kind f.value laws valid typed e) in
    let stands = number_stands i b (aligned 8 at + 4) next f.value (eights at) (front_to i b (aligned 8 at + 4) (eights at) front) value in
    let g = (good.good Descriptors (sym coded ∙ is)).0 in
    let who : number_in i w32 (aligned 8 at + 4) ≡ 0 = (let both = sym stands ∙ g in cc) in
    some who

pub same_field : (f g : Field) → field_data f ≡ field_data g → f ≡ g
same_field f g e = by f.code g.code f.kind g.kind f.value g.value (let c : f.code ≡ g.code = cc in c) (let k : f.kind ≡ g.kind = cc in k) (let v : f.value ≡ g.value = cc in v)
  where
    made : ℕ → Kind → Data → Field
    made c k v = record { code = c; kind = k; value = v }

    by : (c d : ℕ) (k j : Kind) (v w : Data) → c ≡ d → k ≡ j → v ≡ w → made c k v ≡ made d j w
    by c d k j v w p q r = rw (p, q, r) refl

-- it is read
pub field_again : (i : Input) (b : Bound) (found : Found) (fs : List Field) (at next : ℕ) (f : Field) → ReadLaws i → IsValid i b → Tracks found fs → IsGood found f → read i 63 field_kind b at ≡ Ok (field_data f, next)
    → field_at i b found at ≡ Ok (found_with f found, next)
field_again i b found fs at next f laws valid tracks good e = by (field_at i b found at) refl
  where
    parts : Parts i b at (field_data f, next)
    parts = field_parts i b at (field_data f, next) valid e

    by : (r : Result (Found × ℕ) Fault) → field_at i b found at ≡ r → r ≡ Ok (found_with f found, next)
    by (Ok y) is =
        let t = field_read i b found at y laws valid is in
        let both = ok_is (field_data t.field, y.1) (field_data f, next) (sym t.read_ ∙ e) in
        let who : t.field ≡ f = same_field t.field f (first_same _ _ both) in
        pair y.0 (found_with f found) y.1 next (t.found_is ∙ ap (λ (g : Field). found_with g found) who) (second_same _ _ both)
      where
        pair : (a c : Found) (m n : ℕ) → a ≡ c → m ≡ n → done {A = Found × ℕ} (a, m) ≡ done (c, n)
        pair a c m n p q = rw (p, q) refl
    by (Err g) is = absurd (wrong (field_told i b found fs at g laws valid tracks is))
      where
        wrong : Told (WrongAlone i b fs (aligned 8 at)) (read i 63 field_kind b at) g → ⊥
        wrong (inl same) = (let clash = sym same ∙ e in cc)
        wrong (inr alone) =
            let p = field_parts i b at (field_data f, next) valid e in
            let coded : f.code ≡ byte_in i (aligned 8 at) = (let is = p.is in cc) in
            let inner : p.inner ≡ variant_data f.kind f.value = (let is = p.is in let v : variant_data f.kind f.value ≡ p.inner = cc in sym v) in
            none_alone i b found fs at next g.place g.reason f laws valid tracks good (sym coded) (p.variant_is ∙ ap (λ (d : Data). done (d, next)) inner) p.roomy alone.there
