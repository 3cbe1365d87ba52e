-- The values of a body: what is read is spelled so, what is wrong is told, the least first.
use Rattle.std.proofs.Common.{◌≡◌, ℕ, zero, suc, ◌+◌, ◌-◌, ◌<◌, ◌≤◌, Bool, true, false, cond, ltb, List, [], ◌∷◌, ◌++◌, length, Result, Ok, Err, refl, sym, ap, subst, ◌∙◌, arith, inl, inr, ◌⊎◌}
use Rattle.std.proofs.lemmas.Bool.{ltb-true, ltb-false, lt-ltb, le-ltb}
use Rattle.atspi_types.specs.Kinds.{Kind, Kinds, no_kinds, kind, types_in, IsLawful, AreLawful}
use Rattle.atspi_types.specs.Data.{Data, Items, item, no_items, items_of, values_in}
use Rattle.atspi_types.specs.declared.fault.Fault.{Fault}
use Rattle.atspi_marshal.specs.declared.input.Bound.{Bound}
use Rattle.atspi_marshal.specs.Input.{Input, Stands}
use Rattle.atspi_marshal.specs.Spelling.{spelling, spellings, FieldsFit}
use Rattle.atspi_marshal.specs.Faults.{IsItem, Wrong, WrongField, this_field, later_field}
use Rattle.atspi_types.specs.SignatureFaults.{Before}
use Rattle.atspi_marshal.specs.Reading.{◌>>=◌, read, fields_at, fields_first}
use Rattle.atspi_marshal.proofs.Places.{IsValid, bind_ok, ok_is, done, Stands-nil, Stands-append, Stands-front, Stands-back}
use Rattle.atspi_message.proofs.Told.{ReadLaws, failed, err_is}
use Rattle.atspi_message.proofs.FieldFaults.{TellsBy}

-- values of these kinds are spelled one behind the other
pub record Stand (i : Input) (levels : ℕ) (ks : Kinds) (b : Bound) (at next : ℕ) (ds : Items) : Type 0 where
  pub fit : FieldsFit i.order levels at ds ks
  pub stand : Stands i at (spellings i.order at ds) next
  pub within : next ≤ b.end

abbrev pub one_at : Input → ℕ → Bound → Kind → ℕ → Result (Data × ℕ) Fault
one_at i levels b k at = read i levels k b at

stand_more : (i : Input) (levels : ℕ) (k : Kind) (ks : Kinds) (b : Bound) (at mid next : ℕ) (d : Data) (ds : Items) → IsItem i levels k b at mid d → Stand i levels ks b mid next ds → Stand i levels (kind k ks) b at next (item d ds)
stand_more i levels k ks b at mid next d ds is are =
    let A : ℕ → Type 0 = λ m. FieldsFit i.order levels m ds ks × Stands i m (spellings i.order m ds) next in
    let rest = subst A is.stands.0 (are.fit, are.stand) in
    let front : Stands i at (spelling i.order at d) (at + length (spelling i.order at d)) = (refl, is.stands.1) in
    record {
      fit = (is.fits, rest.0);
      stand = Stands-append i at (at + length (spelling i.order at d)) next _ _ front rest.1;
      within = are.within;
    }

pub body_read : (i : Input) (levels : ℕ) (b : Bound) → ReadLaws i → IsValid i b → (ks : Kinds) (at : ℕ) (x : List Data × ℕ) → AreLawful ks → at ≤ b.end → fields_at (one_at i levels b) (types_in ks) at ≡ Ok x → Stand i levels ks b at x.1 (items_of x.0)
body_read i levels b laws valid no_kinds at x lawful le e =
    let same = ok_is ([], at) x e in
    let S : List Data × ℕ → Type 0 = λ y. Stand i levels no_kinds b at y.1 (items_of y.0) in
    subst S same (record { fit = tt; stand = Stands-nil i at; within = le })
body_read i levels b laws valid (kind k ks) at x lawful le e =
    let a = bind_ok (read i levels k b at) (λ y. fields_at (one_at i levels b) (types_in ks) y.1 >>= fields_first y.0) x e in
    let is = laws.sound levels k b at a.0 lawful.0 valid a.1 in
    let c = bind_ok (fields_at (one_at i levels b) (types_in ks) a.0.1) (fields_first a.0.0) x a.2 in
    let rest = body_read i levels b laws valid ks a.0.1 c.0 lawful.1 is.0.within c.1 in
    let same = ok_is (a.0.0 ∷ c.0.0, c.0.1) x c.2 in
    let S : List Data × ℕ → Type 0 = λ y. Stand i levels (kind k ks) b at y.1 (items_of y.0) in
    subst S same (stand_more i levels k ks b at a.0.1 c.0.1 a.0.0 (items_of c.0.0) is.0 rest)

pub body_told : (i : Input) (levels : ℕ) (b : Bound) → ReadLaws i → IsValid i b → (ks : Kinds) (at : ℕ) (f : Fault) → AreLawful ks → at ≤ b.end → fields_at (one_at i levels b) (types_in ks) at ≡ Err f → WrongField i levels ks b at f.place f.reason
body_told i levels b laws valid no_kinds at f lawful le e = absurd cc
body_told i levels b laws valid (kind k ks) at f lawful le e = by (read i levels k b at) refl e (λ y is. body_told i levels b laws valid ks y.1 f lawful.1 is)
  where
    behind : (y : Data × ℕ) (r : Result (List Data × ℕ) Fault) → read i levels k b at ≡ Ok y → fields_at (one_at i levels b) (types_in ks) y.1 ≡ r → (r >>= fields_first y.0) ≡ Err f
        → (y.1 ≤ b.end → fields_at (one_at i levels b) (types_in ks) y.1 ≡ Err f → WrongField i levels ks b y.1 f.place f.reason) → WrongField i levels (kind k ks) b at f.place f.reason
    behind y (Ok z) is rest e further = absurd cc
    behind y (Err g) is rest e further =
        let item_is = (laws.sound levels k b at y lawful.0 valid is).0 in
        later_field levels k ks b at y.1 f.place f.reason y.0 item_is (further item_is.within (rest ∙ ap failed (err_is g f e)))

    by : (r : Result (Data × ℕ) Fault) → read i levels k b at ≡ r → (r >>= λ y. fields_at (one_at i levels b) (types_in ks) y.1 >>= fields_first y.0) ≡ Err f
        → ((y : Data × ℕ) → y.1 ≤ b.end → fields_at (one_at i levels b) (types_in ks) y.1 ≡ Err f → WrongField i levels ks b y.1 f.place f.reason) → WrongField i levels (kind k ks) b at f.place f.reason
    by (Ok y) is e further = behind y (fields_at (one_at i levels b) (types_in ks) y.1) is refl e (further y)
    by (Err g) is e further = this_field levels k ks b at f.place f.reason (laws.there levels k b at f lawful.0 valid le (is ∙ ap failed (err_is g f e)))

pub body_least : (i : Input) (levels : ℕ) (b : Bound) → ReadLaws i → IsValid i b → (ks : Kinds) (at q s : ℕ) → AreLawful ks → at ≤ b.end → WrongField i levels ks b at q s → TellsBy (fields_at (one_at i levels b) (types_in ks) at) q s
body_least i levels b laws valid no_kinds at q s lawful le wrong = elim wrong [ ]
body_least i levels b laws valid (kind k ks) at q s lawful le (this_field levels' k' ks' b' at' q' s' wrong) =
    let l = laws.least levels k b at q s lawful.0 valid le wrong in
    (l.0, ap (λ (r : Result (Data × ℕ) Fault). r >>= λ y. fields_at (one_at i levels b) (types_in ks) y.1 >>= fields_first y.0) l.1, l.2)
body_least i levels b laws valid (kind k ks) at q s lawful le (later_field levels' k' ks' b' at' next q' s' d is wrong) =
    let l = body_least i levels b laws valid ks next q s lawful.1 is.within wrong in
    let e = laws.complete levels k b at next d lawful.0 valid is in
    (l.0, ap (λ (r : Result (Data × ℕ) Fault). r >>= λ y. fields_at (one_at i levels b) (types_in ks) y.1 >>= fields_first y.0) e ∙ ap (λ (r : Result (List Data × ℕ) Fault). r >>= fields_first d) l.1, l.2)

abbrev both : List Data → ℕ → Result (List Data × ℕ) Fault
both ds n = Ok (ds, n)

pub body_again : (i : Input) (levels : ℕ) (b : Bound) → ReadLaws i → IsValid i b → (ks : Kinds) (ds : Items) (at next : ℕ) → AreLawful ks → Stand i levels ks b at next ds → fields_at (one_at i levels b) (types_in ks) at ≡ Ok (values_in ds, next)
body_again i levels b laws valid no_kinds no_items at next lawful s = let same : at ≡ next = omega (arith, s.stand.0) in ap (both []) same
body_again i levels b laws valid no_kinds (item d ds) at next lawful s = absurd s.fit
body_again i levels b laws valid (kind k ks) no_items at next lawful s = absurd s.fit
body_again i levels b laws valid (kind k ks) (item d ds) at next lawful s =
    let mid = at + length (spelling i.order at d) in
    let inside : next ≤ length i.bytes = omega (arith, s.within, valid.long) in
    let front = Stands-front i at next (spelling i.order at d) (spellings i.order mid ds) inside s.stand in
    let back = Stands-back i at next (spelling i.order at d) (spellings i.order mid ds) inside s.stand in
    let e = laws.complete levels k b at mid d lawful.0 valid (record { fits = s.fit.0; stands = front; within = omega (arith, back.0, s.within) }) in
    let rest = body_again i levels b laws valid ks ds mid next lawful.1 (record { fit = s.fit.1; stand = back; within = s.within }) in
    ap (λ (r : Result (Data × ℕ) Fault). r >>= λ y. fields_at (one_at i levels b) (types_in ks) y.1 >>= fields_first y.0) e ∙ ap (λ (r : Result (List Data × ℕ) Fault). r >>= fields_first d) rest

-- a body takes a byte at least, and its faults stand in it
pub body_grows : (i : Input) (levels : ℕ) (b : Bound) → ReadLaws i → IsValid i b → (ks : Kinds) (at q s : ℕ) → AreLawful ks → WrongField i levels ks b at q s → at ≤ q
body_grows i levels b laws valid no_kinds at q s lawful wrong = elim wrong [ ]
body_grows i levels b laws valid (kind k ks) at q s lawful (this_field levels' k' ks' b' at' q' s' wrong) = laws.behind levels k b at q s wrong
body_grows i levels b laws valid (kind k ks) at q s lawful (later_field levels' k' ks' b' at' next q' s' d is wrong) = omega (arith, is.stands.0, body_grows i levels b laws valid ks next q s lawful.1 wrong)
