-- All fields of a header: what is read is spelled so, what is wrong is told, the least first.
use Rattle.std.proofs.Common.{◌≡◌, ℕ, zero, suc, ◌+◌, ◌-◌, ◌<◌, ◌≤◌, Bool, true, false, cond, ltb, List, [], ◌∷◌, ◌++◌, length, append_assoc, Option, Some, None, Result, Ok, Err, refl, sym, ap, subst, ◌∙◌, arith, inl, inr, ◌⊎◌}
use Rattle.std.specs.Prelude.{◌==◌, ◌≢◌}
use Rattle.std.proofs.lemmas.Bool.{eqb-true, eq-eqb, ltb-true, ltb-false, lt-ltb, le-ltb}
use Rattle.atspi_types.specs.Kinds.{Kind, IsLawful}
use Rattle.atspi_types.specs.Data.{Data, Items, item, no_items}
use Rattle.atspi_types.specs.declared.fault.Fault.{Fault}
use Rattle.atspi_marshal.specs.declared.input.Bound.{Bound}
use Rattle.atspi_marshal.specs.Input.{Input, Stands, byte_in, aligned}
use Rattle.atspi_marshal.specs.Spelling.{spelling, spellings, AllFit}
use Rattle.atspi_marshal.specs.Faults.{IsItem, AreItems, Wrong}
use Rattle.atspi_types.specs.SignatureFaults.{Before}
use Rattle.atspi_marshal.specs.Reading.{◌>>=◌, bad, read}
use Rattle.atspi_marshal.proofs.Places.{IsValid, bind_ok, ok_is, done, Stands-nil, Stands-append, Stands-front, Stands-back}
use Rattle.atspi_message.specs.declared.code.Code.{Code}
use Rattle.atspi_message.specs.Codes.{number_of, code_of}
use Rattle.atspi_message.specs.Bytes.{Field, field_kind, field_data, field_items, with_code}
use Rattle.atspi_message.specs.Faults.{Lacks, WrongAlone, no_code, other_type, second, no_name, no_serial, descriptors}
use Rattle.atspi_message.specs.inner.Reading.{Found, slot, put, is_there, field_at, all_fields_at}
use Rattle.atspi_message.proofs.Told.{ReadLaws, Alone, Told, failed, err_is}
use Rattle.atspi_message.proofs.Values.{IsGoodValue}
use Rattle.atspi_message.proofs.Found.{number-code_of, code_of-number, put_some, found_with, slot_put, Tracks, tracks_more, not_there, slot_list, with_code-append}
use Rattle.atspi_message.proofs.OneField.{FieldRead, field_read}
use Rattle.atspi_message.proofs.FieldFaults.{field_told, field_least, TellsBy}
use Rattle.atspi_message.proofs.FieldAgain.{IsGood, field_again, same_field, first_same, second_same}

pub items_none : (i : Input) (levels : ℕ) (k : Kind) (b : Bound) (at : ℕ) → at ≤ b.end → AreItems i levels k b at at no_items
items_none i levels k b at le = record { fit = tt; stand = Stands-nil i at; within = le }

pub items_more : (i : Input) (levels : ℕ) (k : Kind) (b : Bound) (at mid next : ℕ) (d : Data) (ds : Items) → IsItem i levels k b at mid d → AreItems i levels k b mid next ds → AreItems i levels k b at next (item d ds)
items_more i levels k b at mid next d ds is are =
    let A : ℕ → Type 0 = λ m. AllFit i.order levels m ds k × Stands i m (spellings i.order m ds) next in
    let rest = subst A is.stands.0 (are.fit, are.stand) in
    let front : Stands i at (spelling i.order at d) (at + length (spelling i.order at d)) = (refl, is.stands.1) in
    record {
      fit = (is.fits, rest.0);
      stand = Stands-append i at (at + length (spelling i.order at d)) next _ _ front rest.1;
      within = are.within;
    }

pub record Split (i : Input) (levels : ℕ) (k : Kind) (b : Bound) (at next : ℕ) (d : Data) (ds : Items) : Type 0 where
  pub mid : ℕ
  pub first : IsItem i levels k b at mid d
  pub rest : AreItems i levels k b mid next ds

pub items_split : (i : Input) (levels : ℕ) (k : Kind) (b : Bound) (at next : ℕ) (d : Data) (ds : Items) → IsValid i b → AreItems i levels k b at next (item d ds) → Split i levels k b at next d ds
items_split i levels k b at next d ds valid are =
    let mid = at + length (spelling i.order at d) in
    let inside : next ≤ length i.bytes = omega (arith, are.within, valid.long) in
    let front = Stands-front i at next (spelling i.order at d) (spellings i.order mid ds) inside are.stand in
    let back = Stands-back i at next (spelling i.order at d) (spellings i.order mid ds) inside are.stand in
    record {
      mid = mid;
      first = record { fits = are.fit.0; stands = front; within = omega (arith, back.0, are.within) };
      rest = record { fit = are.fit.1; stand = back; within = are.within };
    }

field_lawful : IsLawful field_kind
field_lawful = (tt, (tt, tt))

-- each value that was found is good
abbrev pub GoodFound : Found → Type 0
GoodFound found = (c : Code) (d : Data) → slot c found ≡ Some d → IsGoodValue c d

good_more : (found : Found) (f : Field) → GoodFound found → ((c : Code) → f.code ≡ number_of c → IsGoodValue c f.value) → GoodFound (found_with f found)
good_more found f good more k d e = by (code_of f.code) refl e
  where
    which : (c : Code) (t : Bool) → f.code ≡ number_of c → (number_of c == number_of k) ≡ t → cond t (Some f.value) (slot k found) ≡ Some d → IsGoodValue k d
    which c true is same e = let who : f.value ≡ d = cc in subst (λ (v : Data). IsGoodValue k v) who (more k (is ∙ eqb-true _ _ same))
    which c false is same e = good k d e

    by : (o : Option Code) → code_of f.code ≡ o → slot k (put_some o f.value found) ≡ Some d → IsGoodValue k d
    by (Some c) is e = which c (number_of c == number_of k) (number-code_of f.code c is) refl (sym (slot_put c k f.value found) ∙ e)
    by None is e = good k d e

lacks_more : (fs : List Field) (f : Field) → Lacks 0 fs → f.code ≢ 0 → Lacks 0 (fs ++ f ∷ [])
lacks_more fs f lacks some = with_code-append 0 fs (f ∷ []) ∙ rw lacks (by (f.code == 0) refl)
  where
    by : (t : Bool) → (f.code == 0) ≡ t → [] ++ cond t (f.value ∷ []) [] ≡ []
    by true is = absurd (some (eqb-true _ 0 is))
    by false is = refl

-- fields behind fs that were read, and what was then found
pub record WalkRead (i : Input) (b : Bound) (fs : List Field) (at : ℕ) (found : Found) : Type 0 where
  pub more : List Field
  pub stand : AreItems i 63 field_kind b at b.end (field_items more)
  pub tracks : Tracks found (fs ++ more)
  pub good : GoodFound found
  pub lacks : Lacks 0 (fs ++ more)

none_behind : (fs : List Field) → fs ++ [] ≡ fs
none_behind [] = refl
none_behind (f ∷ fs) = ap (λ (gs : List Field). f ∷ gs) (none_behind fs)

stopped : (i : Input) (b : Bound) (found : Found) (fs : List Field) (at : ℕ) (after : Found) → Tracks found fs → GoodFound found → Lacks 0 fs → at ≡ b.end → done found ≡ Ok after → WalkRead i b fs at after
stopped i b found fs at after tracks good lacks end e =
    let same : found ≡ after = ok_is found after e in
    let W : Found → Type 0 = λ f. WalkRead i b fs at f in
    subst W same (record {
      more = [];
      stand = subst (λ (n : ℕ). AreItems i 63 field_kind b at n no_items) end (items_none i 63 field_kind b at (omega (arith, end)));
      tracks = subst (λ (gs : List Field). Tracks found gs) (sym (none_behind fs)) tracks;
      good = good;
      lacks = subst (λ (gs : List Field). Lacks 0 gs) (sym (none_behind fs)) lacks;
    })

abbrev ReadFrom : Input → Bound → ℕ → Type 0
ReadFrom i b fuel = (found : Found) (fs : List Field) (at : ℕ) (after : Found) → Tracks found fs → GoodFound found → Lacks 0 fs → at ≤ b.end → b.end ≤ at + fuel → all_fields_at i b fuel found at ≡ Ok after → WalkRead i b fs at after

read_more : (i : Input) (b : Bound) (fuel : ℕ) → ReadLaws i → IsValid i b → ReadFrom i b fuel → ReadFrom i b (suc fuel)
read_more i b fuel laws valid further found fs at after tracks good lacks le enough e = by (ltb at b.end) refl e
  where
    by : (t : Bool) → ltb at b.end ≡ t → cond t (field_at i b found at >>= λ x. all_fields_at i b fuel x.0 x.1) (Ok found) ≡ Ok after → WalkRead i b fs at after
    by false is e = stopped i b found fs at after tracks good lacks (omega (arith, ltb-false at b.end is, le)) e
    by true is e =
        let a = bind_ok (field_at i b found at) (λ x. all_fields_at i b fuel x.0 x.1) after e in
        let t = field_read i b found at a.0 laws valid a.1 in
        let is = laws.sound 63 field_kind b at (field_data t.field, a.0.1) field_lawful valid t.read_ in
        let E : Found → Type 0 = λ y. all_fields_at i b fuel y a.0.1 ≡ Ok after in
        let rest = further (found_with t.field found) (fs ++ t.field ∷ []) a.0.1 after
        (tracks_more found fs t.field tracks (λ c is. (t.good c is).1)) (good_more found t.field good (λ c is. (t.good c is).0)) (lacks_more fs t.field lacks t.not_zero)
        is.0.within (omega (arith, is.1, enough)) (subst E t.found_is a.2) in
        record {
          more = t.field ∷ rest.more;
          stand = items_more i 63 field_kind b at a.0.1 b.end (field_data t.field) (field_items rest.more) is.0 rest.stand;
          tracks = subst (λ (gs : List Field). Tracks after gs) (append_assoc fs (t.field ∷ []) rest.more) rest.tracks;
          good = rest.good;
          lacks = subst (λ (gs : List Field). Lacks 0 gs) (append_assoc fs (t.field ∷ []) rest.more) rest.lacks;
        }

pub walk_read : (i : Input) (b : Bound) → ReadLaws i → IsValid i b → (fuel : ℕ) → ReadFrom i b fuel
walk_read i b laws valid zero found fs at after tracks good lacks le enough e = stopped i b found fs at after tracks good lacks (omega (arith, le, enough)) e
walk_read i b laws valid (suc fuel) found fs at after tracks good lacks le enough e = read_more i b fuel laws valid (walk_read i b laws valid fuel) found fs at after tracks good lacks le enough e

-- what is wrong with the field behind some, the least of it or not
abbrev pub WrongField_ : Input → Bound → List Field → ℕ → ℕ → ℕ → Type 0
WrongField_ i b fs next q s = Wrong i 63 field_kind b next q s ⊎ WrongAlone i b fs (aligned 8 next) q s

pub record WalkTold (i : Input) (b : Bound) (fs : List Field) (at : ℕ) (f : Fault) : Type 0 where
  pub more : List Field
  pub next : ℕ
  pub stand : AreItems i 63 field_kind b at next (field_items more)
  pub before : next < b.end
  pub wrong : WrongField_ i b (fs ++ more) next f.place f.reason

abbrev ToldFrom : Input → Bound → ℕ → Type 0
ToldFrom i b fuel = (found : Found) (fs : List Field) (at : ℕ) (f : Fault) → Tracks found fs → at ≤ b.end → all_fields_at i b fuel found at ≡ Err f → WalkTold i b fs at f

told_more : (i : Input) (b : Bound) (fuel : ℕ) → ReadLaws i → IsValid i b → ToldFrom i b fuel → ToldFrom i b (suc fuel)
told_more i b fuel laws valid further found fs at f tracks le e = by (ltb at b.end) refl e
  where
    here : at < b.end → field_at i b found at ≡ Err f → WalkTold i b fs at f
    here lt e = record {
      more = [];
      next = at;
      stand = items_none i 63 field_kind b at le;
      before = lt;
      wrong = subst (λ (gs : List Field). WrongField_ i b gs at f.place f.reason) (sym (none_behind fs)) (which (field_told i b found fs at f laws valid tracks e));
    }
      where
        which : Told (WrongAlone i b fs (aligned 8 at)) (read i 63 field_kind b at) f → WrongField_ i b fs at f.place f.reason
        which (inl same) = inl (laws.there 63 field_kind b at f field_lawful valid le same)
        which (inr alone) = inr alone.there

    later : (y : Found × ℕ) → field_at i b found at ≡ Ok y → all_fields_at i b fuel y.0 y.1 ≡ Err f → WalkTold i b fs at f
    later y is e =
        let t = field_read i b found at y laws valid is in
        let item_is = laws.sound 63 field_kind b at (field_data t.field, y.1) field_lawful valid t.read_ in
        let E : Found → Type 0 = λ z. all_fields_at i b fuel z y.1 ≡ Err f in
        let rest = further (found_with t.field found) (fs ++ t.field ∷ []) y.1 f (tracks_more found fs t.field tracks (λ c is. (t.good c is).1)) item_is.0.within (subst E t.found_is e) in
        record {
          more = t.field ∷ rest.more;
          next = rest.next;
          stand = items_more i 63 field_kind b at y.1 rest.next (field_data t.field) (field_items rest.more) item_is.0 rest.stand;
          before = rest.before;
          wrong = subst (λ (gs : List Field). WrongField_ i b gs rest.next f.place f.reason) (append_assoc fs (t.field ∷ []) rest.more) rest.wrong;
        }

    which : (r : Result (Found × ℕ) Fault) → at < b.end → field_at i b found at ≡ r → (r >>= λ x. all_fields_at i b fuel x.0 x.1) ≡ Err f → WalkTold i b fs at f
    which (Ok y) lt is e = later y is e
    which (Err g) lt is e = here lt (is ∙ ap failed (err_is g f e))

    by : (t : Bool) → ltb at b.end ≡ t → cond t (field_at i b found at >>= λ x. all_fields_at i b fuel x.0 x.1) (Ok found) ≡ Err f → WalkTold i b fs at f
    by false is e = absurd cc
    by true is e = which (field_at i b found at) (ltb-true at b.end is) refl e

pub walk_told : (i : Input) (b : Bound) → ReadLaws i → IsValid i b → (fuel : ℕ) → ToldFrom i b fuel
walk_told i b laws valid zero found fs at f tracks le e = absurd cc
walk_told i b laws valid (suc fuel) found fs at f tracks le e = told_more i b fuel laws valid (walk_told i b laws valid fuel) found fs at f tracks le e

-- one step of fields that are spelled: it is read, or a fault of its own is told that stands inside
pub data Step (i : Input) (b : Bound) (found : Found) (fs : List Field) (at mid : ℕ) (f : Field) : Type 0 where
  stepped : field_at i b found at ≡ Ok (found_with f found, mid) → Tracks (found_with f found) (fs ++ f ∷ []) → Step i b found fs at mid f
  refused : (g : Fault) → field_at i b found at ≡ Err g → g.place < mid → Step i b found fs at mid f

ok_pair : (a c : Found) (m n : ℕ) → a ≡ c → m ≡ n → done {A = Found × ℕ} (a, m) ≡ done (c, n)
ok_pair a c m n p q = rw (p, q) refl

pub step_of : (i : Input) (b : Bound) (found : Found) (fs : List Field) (at mid : ℕ) (f : Field) → ReadLaws i → IsValid i b → Tracks found fs → read i 63 field_kind b at ≡ Ok (field_data f, mid) → Step i b found fs at mid f
step_of i b found fs at mid f laws valid tracks e = by (field_at i b found at) refl
  where
    told : (g : Fault) → field_at i b found at ≡ Err g → Told (WrongAlone i b fs (aligned 8 at)) (read i 63 field_kind b at) g → Step i b found fs at mid f
    told g is (inl same) = absurd (let clash = sym same ∙ e in cc)
    told g is (inr alone) = refused g is (alone.inside (field_data f, mid) e)

    by : (r : Result (Found × ℕ) Fault) → field_at i b found at ≡ r → Step i b found fs at mid f
    by (Err g) is = told g is (field_told i b found fs at g laws valid tracks is)
    by (Ok y) is =
        let t = field_read i b found at y laws valid is in
        let both = ok_is (field_data t.field, y.1) (field_data f, mid) (sym t.read_ ∙ e) in
        let who : t.field ≡ f = same_field t.field f (first_same _ _ both) in
        let pair = ok_pair y.0 (found_with f found) y.1 mid (t.found_is ∙ ap (λ (g : Field). found_with g found) who) (second_same _ _ both) in
        let T : Field → Type 0 = λ g. Tracks (found_with g found) (fs ++ g ∷ []) in
        stepped (is ∙ pair) (subst T who (tracks_more found fs t.field tracks (λ c is. (t.good c is).1)))

-- what is wrong with the field behind some is told, or something before it
before_from : (f g : Fault) (q s : ℕ) → Before f.place f.reason g.place g.reason → Before g.place g.reason q s → Before f.place f.reason q s
before_from f g q s (inl lt) (inl more) = inl (omega (arith, lt, more))
before_from f g q s (inl lt) (inr more) = inl (omega (arith, lt, more.0))
before_from f g q s (inr same) (inl more) = inl (omega (arith, same.0, more))
before_from f g q s (inr same) (inr more) = inr (same.0 ∙ more.0, omega (arith, same.1, more.1))

least_here : (i : Input) (b : Bound) (found : Found) (fs : List Field) (at q s : ℕ) → ReadLaws i → IsValid i b → Tracks found fs → at ≤ b.end → WrongField_ i b fs at q s → TellsBy (field_at i b found at) q s
least_here i b found fs at q s laws valid tracks le (inr wrong) = field_least i b found fs at q s laws valid tracks wrong
least_here i b found fs at q s laws valid tracks le (inl wrong) = by (field_at i b found at) refl
  where
    least : (f : Fault) × (read i 63 field_kind b at ≡ Err f) × Before f.place f.reason q s
    least = laws.least 63 field_kind b at q s field_lawful valid le wrong

    told : (g : Fault) → field_at i b found at ≡ Err g → Told (WrongAlone i b fs (aligned 8 at)) (read i 63 field_kind b at) g → TellsBy (failed {A = Found × ℕ} g) q s
    told g is (inl same) =
        let l = laws.least 63 field_kind b at q s field_lawful valid le wrong in
        let who : l.0 ≡ g = err_is l.0 g (sym l.1 ∙ same) in
        (g, refl, subst (λ (h : Fault). Before h.place h.reason q s) who l.2)
    told g is (inr alone) =
        let l = laws.least 63 field_kind b at q s field_lawful valid le wrong in
        (g, refl, before_from g l.0 q s (alone.before l.0 l.1) l.2)

    by : (r : Result (Found × ℕ) Fault) → field_at i b found at ≡ r → TellsBy r q s
    by (Ok y) is = absurd (let l = laws.least 63 field_kind b at q s field_lawful valid le wrong in let t = field_read i b found at y laws valid is in let clash = sym t.read_ ∙ l.1 in cc)
    by (Err g) is = told g is (field_told i b found fs at g laws valid tracks is)

alone_behind : (i : Input) (b : Bound) (fs : List Field) (p q s : ℕ) → WrongAlone i b fs p q s → p ≤ q
alone_behind i b fs p q s (no_code w z) = omega arith
alone_behind i b fs p q s (other_type c k is inside spelled lawful differs) = omega arith
alone_behind i b fs p q s (second c w is again) = omega arith
alone_behind i b fs p q s (no_name c is typed is_text inside outside) = omega arith
alone_behind i b fs p q s (no_serial is typed front z) = omega arith
alone_behind i b fs p q s (descriptors is typed front z) = omega arith

pub wrong_behind : (i : Input) (b : Bound) (fs : List Field) (next q s : ℕ) → ReadLaws i → WrongField_ i b fs next q s → next ≤ q
wrong_behind i b fs next q s laws (inl wrong) = laws.behind 63 field_kind b next q s wrong
wrong_behind i b fs next q s laws (inr wrong) = omega (arith, alone_behind i b fs (aligned 8 next) q s wrong)

items_go : (i : Input) (levels : ℕ) (k : Kind) (b : Bound) (at next : ℕ) (ds : Items) → AreItems i levels k b at next ds → at ≤ next
items_go i levels k b at next ds are = omega (arith, are.stand.0)

open_step : (i : Input) (b : Bound) (fuel : ℕ) (found : Found) (at : ℕ) → at < b.end → all_fields_at i b (suc fuel) found at ≡ (field_at i b found at >>= λ x. all_fields_at i b fuel x.0 x.1)
open_step i b fuel found at lt = rw (lt-ltb at b.end lt) refl

pub walk_least : (i : Input) (b : Bound) → ReadLaws i → IsValid i b → (more : List Field) (fuel : ℕ) (found : Found) (fs : List Field) (at next q s : ℕ) → Tracks found fs → AreItems i 63 field_kind b at next (field_items more) → next < b.end
    → b.end ≤ at + fuel → WrongField_ i b (fs ++ more) next q s → TellsBy (all_fields_at i b fuel found at) q s
walk_least i b laws valid more zero found fs at next q s tracks are lt enough wrong = absurd (omega (arith, items_go i 63 field_kind b at next (field_items more) are, lt, enough))
walk_least i b laws valid [] (suc fuel) found fs at next q s tracks are lt enough wrong =
    let same : next ≡ at = omega (arith, are.stand.0) in
    let here = subst (λ (n : ℕ). WrongField_ i b fs n q s) same (subst (λ (gs : List Field). WrongField_ i b gs next q s) (none_behind fs) wrong) in
    let t = least_here i b found fs at q s laws valid tracks (omega (arith, same, lt)) here in
    (t.0, open_step i b fuel found at (omega (arith, same, lt)) ∙ ap (λ (r : Result (Found × ℕ) Fault). r >>= λ x. all_fields_at i b fuel x.0 x.1) t.1, t.2)
walk_least i b laws valid (f ∷ more) (suc fuel) found fs at next q s tracks are lt enough wrong =
    let two = items_split i 63 field_kind b at next (field_data f) (field_items more) valid are in
    let e = laws.complete 63 field_kind b at two.mid (field_data f) field_lawful valid two.first in
    let grows = (laws.sound 63 field_kind b at (field_data f, two.mid) field_lawful valid e).1 in
    let moved = subst (λ (gs : List Field). WrongField_ i b gs next q s) (sym (append_assoc fs (f ∷ []) more)) wrong in
    let starts : at < b.end = omega (arith, grows, two.first.within) in
    let told = by (step_of i b found fs at two.mid f laws valid tracks e)
    (λ t. walk_least i b laws valid more fuel (found_with f found) (fs ++ f ∷ []) two.mid next q s t two.rest lt (omega (arith, grows, enough)) moved)
    (omega (arith, items_go i 63 field_kind b two.mid next (field_items more) two.rest, wrong_behind i b (fs ++ f ∷ more) next q s laws wrong)) in
    (told.0, open_step i b fuel found at starts ∙ told.1, told.2)
  where
    by : {mid : ℕ} → Step i b found fs at mid f → (Tracks (found_with f found) (fs ++ f ∷ []) → TellsBy (all_fields_at i b fuel (found_with f found) mid) q s) → mid ≤ q → TellsBy (field_at i b found at >>= λ x. all_fields_at i b fuel x.0 x.1) q s
    by (stepped is t) further le = let told = further t in (told.0, ap (λ (r : Result (Found × ℕ) Fault). r >>= λ x. all_fields_at i b fuel x.0 x.1) is ∙ told.1, told.2)
    by (refused g is lt) further le = (g, ap (λ (r : Result (Found × ℕ) Fault). r >>= λ x. all_fields_at i b fuel x.0 x.1) is, inl (omega (arith, lt, le)))

-- fields that are spelled up to the end are read, or a fault before the end is told
pub data Walk (i : Input) (b : Bound) (fuel : ℕ) (found : Found) (fs more : List Field) (at : ℕ) : Type 0 where
  walked : (after : Found) → all_fields_at i b fuel found at ≡ Ok after → Tracks after (fs ++ more) → Walk i b fuel found fs more at
  stopped_at : (g : Fault) → all_fields_at i b fuel found at ≡ Err g → g.place < b.end → Walk i b fuel found fs more at

at_end : (i : Input) (b : Bound) (fuel : ℕ) (found : Found) (at : ℕ) → at ≡ b.end → all_fields_at i b fuel found at ≡ Ok found
at_end i b zero found at same = refl
at_end i b (suc fuel) found at same = rw (le-ltb at b.end (omega (arith, same))) refl

pub walk_of : (i : Input) (b : Bound) → ReadLaws i → IsValid i b → (more : List Field) (fuel : ℕ) (found : Found) (fs : List Field) (at : ℕ) → Tracks found fs → AreItems i 63 field_kind b at b.end (field_items more) → b.end ≤ at + fuel → Walk i b fuel found fs more at
walk_of i b laws valid [] fuel found fs at tracks are enough =
    walked found (at_end i b fuel found at (omega (arith, are.stand.0))) (subst (λ (gs : List Field). Tracks found gs) (sym (none_behind fs)) tracks)
walk_of i b laws valid (f ∷ more) zero found fs at tracks are enough =
    let two = items_split i 63 field_kind b at b.end (field_data f) (field_items more) valid are in
    let e = laws.complete 63 field_kind b at two.mid (field_data f) field_lawful valid two.first in
    absurd (omega (arith, (laws.sound 63 field_kind b at (field_data f, two.mid) field_lawful valid e).1, two.first.within, enough))
walk_of i b laws valid (f ∷ more) (suc fuel) found fs at tracks are enough =
    let two = items_split i 63 field_kind b at b.end (field_data f) (field_items more) valid are in
    let e = laws.complete 63 field_kind b at two.mid (field_data f) field_lawful valid two.first in
    let grows = (laws.sound 63 field_kind b at (field_data f, two.mid) field_lawful valid e).1 in
    let starts : at < b.end = omega (arith, grows, two.first.within) in
    by (open_step i b fuel found at starts) two.first.within (step_of i b found fs at two.mid f laws valid tracks e)
    (λ t. walk_of i b laws valid more fuel (found_with f found) (fs ++ f ∷ []) two.mid t two.rest (omega (arith, grows, enough)))
  where
    again : {mid : ℕ} → all_fields_at i b (suc fuel) found at ≡ all_fields_at i b fuel (found_with f found) mid → Walk i b fuel (found_with f found) (fs ++ f ∷ []) more mid → Walk i b (suc fuel) found fs (f ∷ more) at
    again is (walked after e t) = walked after (is ∙ e) (subst (λ (gs : List Field). Tracks after gs) (append_assoc fs (f ∷ []) more) t)
    again is (stopped_at g e lt) = stopped_at g (is ∙ e) lt

    by : {mid : ℕ} → all_fields_at i b (suc fuel) found at ≡ (field_at i b found at >>= λ x. all_fields_at i b fuel x.0 x.1) → mid ≤ b.end → Step i b found fs at mid f
        → (Tracks (found_with f found) (fs ++ f ∷ []) → Walk i b fuel (found_with f found) (fs ++ f ∷ []) more mid) → Walk i b (suc fuel) found fs (f ∷ more) at
    by opened within (stepped is t) further = again (opened ∙ ap (λ (r : Result (Found × ℕ) Fault). r >>= λ x. all_fields_at i b fuel x.0 x.1) is) (further t)
    by opened within (refused g is lt) further = stopped_at g (opened ∙ ap (λ (r : Result (Found × ℕ) Fault). r >>= λ x. all_fields_at i b fuel x.0 x.1) is) (omega (arith, lt, within))

-- fields that are good together: none has code 0, and of each known code there is at most one, with a good value
abbrev pub AtMostOne : Code → List Data → Type 0
AtMostOne c ds = (ds ≡ []) ⊎ ((d : Data) × (ds ≡ d ∷ []) × IsGoodValue c d)

pub record AllGood (all : List Field) : Type 0 where
  pub no_zero : Lacks 0 all
  pub once : (c : Code) → AtMostOne c (with_code (number_of c) all)

alone_in : (c : Code) (before : List Data) (v : Data) (after : List Data) → AtMostOne c (before ++ v ∷ after) → (before ≡ []) × IsGoodValue c v
alone_in c [] v after (inl e) = absurd cc
alone_in c [] v after (inr g) = let who : g.0 ≡ v = cc in (refl, subst (λ (d : Data). IsGoodValue c d) who g.2)
alone_in c (d ∷ before) v after (inl e) = absurd cc
alone_in c (d ∷ []) v after (inr g) = absurd cc
alone_in c (d ∷ e ∷ before) v after (inr g) = absurd cc

with_code_is : (n : ℕ) (f : Field) (fs : List Field) → f.code ≡ n → with_code n (f ∷ fs) ≡ f.value ∷ with_code n fs
with_code_is n f fs e = rw (eq-eqb f.code n e) refl

nothing : (o : Option Data) → slot_list o ≡ [] → is_there o ≡ false
nothing (Some d) e = absurd cc
nothing None e = refl

good_one : (found : Found) (fs more : List Field) (f : Field) → Tracks found fs → AllGood (fs ++ f ∷ more) → IsGood found f
good_one found fs more f tracks all = record { not_zero = some; good = known }
  where
    some : f.code ≢ 0
    some zero_is = absurd (let split = sym (with_code-append 0 fs (f ∷ more)) ∙ all.no_zero in let there = with_code_is 0 f more zero_is in never (with_code 0 fs) f.value (with_code 0 more) (sym (ap (λ (ds : List Data). with_code 0 fs ++ ds) there) ∙ split))
      where
        never : (before : List Data) (v : Data) (after : List Data) → before ++ v ∷ after ≡ [] → ⊥
        never [] v after e = cc
        never (d ∷ before) v after e = cc

    known : (c : Code) → f.code ≡ number_of c → IsGoodValue c f.value × (is_there (slot c found) ≡ false)
    known c is =
        let split = with_code-append (number_of c) fs (f ∷ more) ∙ ap (λ (ds : List Data). with_code (number_of c) fs ++ ds) (with_code_is (number_of c) f more is) in
        let one = subst (λ (ds : List Data). AtMostOne c ds) split (all.once c) in
        let alone = alone_in c (with_code (number_of c) fs) f.value (with_code (number_of c) more) one in
        (alone.1, nothing (slot c found) (tracks c ∙ alone.0))

-- good fields that are spelled up to the end are read
pub walk_again : (i : Input) (b : Bound) → ReadLaws i → IsValid i b → (more : List Field) (fuel : ℕ) (found : Found) (fs : List Field) (at : ℕ) → Tracks found fs → AllGood (fs ++ more) → AreItems i 63 field_kind b at b.end (field_items more) → b.end ≤ at + fuel
    → (after : Found) × (all_fields_at i b fuel found at ≡ Ok after) × Tracks after (fs ++ more)
walk_again i b laws valid [] fuel found fs at tracks good are enough =
    (found, at_end i b fuel found at (omega (arith, are.stand.0)), subst (λ (gs : List Field). Tracks found gs) (sym (none_behind fs)) tracks)
walk_again i b laws valid (f ∷ more) zero found fs at tracks good are enough =
    let two = items_split i 63 field_kind b at b.end (field_data f) (field_items more) valid are in
    let e = laws.complete 63 field_kind b at two.mid (field_data f) field_lawful valid two.first in
    absurd (omega (arith, (laws.sound 63 field_kind b at (field_data f, two.mid) field_lawful valid e).1, two.first.within, enough))
walk_again i b laws valid (f ∷ more) (suc fuel) found fs at tracks good are enough =
    let two = items_split i 63 field_kind b at b.end (field_data f) (field_items more) valid are in
    let e = laws.complete 63 field_kind b at two.mid (field_data f) field_lawful valid two.first in
    let grows = (laws.sound 63 field_kind b at (field_data f, two.mid) field_lawful valid e).1 in
    let starts : at < b.end = omega (arith, grows, two.first.within) in
    let one = good_one found fs more f tracks good in
    let step = field_again i b found fs at two.mid f laws valid tracks one e in
    let together = sym (append_assoc fs (f ∷ []) more) in
    let rest = walk_again i b laws valid more fuel (found_with f found) (fs ++ f ∷ []) two.mid (tracks_more found fs f tracks (λ c is. (one.good c is).1)) (subst (λ (gs : List Field). AllGood gs) together good) two.rest (omega (arith, grows, enough)) in
    (rest.0, open_step i b fuel found at starts ∙ ap (λ (r : Result (Found × ℕ) Fault). r >>= λ x. all_fields_at i b fuel x.0 x.1) step ∙ rest.1, subst (λ (gs : List Field). Tracks rest.0 gs) (append_assoc fs (f ∷ []) more) rest.2)
