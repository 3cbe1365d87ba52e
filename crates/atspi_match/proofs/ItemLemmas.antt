-- What reading an item gives, from what stands there.
use Rattle.std.proofs.Common.{◌≡◌, ◌≢◌, ℕ, zero, suc, ◌+◌, ◌<◌, ◌≤◌, List, [], ◌∷◌, ◌++◌, length, map, take, drop, get_or, Bool, true, false, refl, sym, ap, subst, ◌∙◌, arith, append_assoc, length-append, ◌⊎◌, inl, inr, ◌==◌, not, Option, Some, None}
use Rattle.std.specs.Prelude.{codes, ◌&&◌, Contains, Result, Ok, Err, IfOk, IfErr}
use Rattle.std.specs.List.{prefix_len, AllByRecursion}
use Rattle.std.proofs.lemmas.Bool.{eqb-true, eqb-false, ne_eqb, not-false, and_cases, eq-eqb, both_ways}
use Rattle.std.proofs.lemmas.List.{length-take-le, length-drop, drop_all, drop_at, drop_more, take-append-drop}
use Rattle.std.proofs.lemmas.List.Sums.{prefix_len-le-length, prefix_len_stops}
use Rattle.atspi_match.specs.Conditions.{IsCondition, IsRule, key_text, value_text}
use Rattle.atspi_match.specs.Grammar.{is_blank, is_word_byte, EndsItem, Item, item_text, item_value, IsItem, Part, spelling}
use Rattle.atspi_match.specs.inner.Keys.{key_of, key_in, IsKey, key_refusal, NoCondition}
use Rattle.atspi_match.specs.RuleFaults.{KeyAt, ItemAt, IsUnknown, IsNoValue, IsRival}
use Rattle.atspi_match.specs.inner.Values.{IsSpelled, IsOpen}
use Rattle.atspi_match.specs.inner.Items.{ReadsValue, ReadsItem, RefusesValueFor, still_open, no_value, HasNoValue, FirstItemFault, value_reason, RefusesValue, RefusesItem}
use Rattle.atspi_match.specs.declared.condition.Condition.{Condition}
use Rattle.atspi_match.specs.declared.item.ItemRead.{ItemRead}
use Rattle.atspi_match.specs.declared.item.ItemFault.{ItemFault}
use Rattle.atspi_match.specs.declared.item.ItemFault.TheVariants.{Bad, NoMemory}
use Rattle.atspi_match.specs.declared.key.Key.{Key}
use Rattle.atspi_match.specs.declared.key.Key.TheVariants as keys
use Rattle.atspi_match.proofs.RunLemmas.{front_back, passes}
use Rattle.atspi_match.proofs.WordLemmas.{key_here, word_here, item_text-append}
use Rattle.atspi_match.proofs.FaultLemmas.{MayStand, bare_first, unknown_first, twice_first, rival_first, open_first, value_first}
use Rattle.atspi_match.proofs.KeyLemmas.{key_bytes, key_text-of, is_key-of, key_complete, key_sound, Spell}
use Rattle.atspi_match.proofs.RankLemmas.{may_stand, is_rival, has_rank_contains, contains_has_rank, known_key, refusal_is, Refusal, again, rival}

-- without `=`
not_equals : (b : ℕ) → is_word_byte b ≡ false → (b ≡ 61 → ⊥) → b ≡ 44
not_equals b e n = by (and_cases (not (b == 61)) (not (b == 44)) e)
  where
    by : (not (b == 61) ≡ false) ⊎ (not (b == 44) ≡ false) → b ≡ 44
    by (inl is) = absurd (n (eqb-true b 61 (not-false (b == 61) is)))
    by (inr is) = eqb-true b 44 (not-false (b == 44) is)

pub ends_all : (xs : List ℕ) (w : ℕ) → w ≡ length xs → EndsItem (drop w xs)
ends_all xs w e = subst (λ l. EndsItem l) (sym (drop_all w xs (omega (arith, e)))) tt

pub ends_comma : (xs : List ℕ) (w : ℕ) → w ≡ prefix_len is_word_byte xs → w < length xs → (get_or xs w 0 ≡ 61 → ⊥) → EndsItem (drop w xs)
ends_comma xs w e lt n =
    let stop : is_word_byte (get_or xs w 0) ≡ false = subst (λ m. is_word_byte (get_or xs m 0) ≡ false) (sym e) (prefix_len_stops is_word_byte xs 0 (omega (arith, e, lt))) in
    subst (λ l. EndsItem l) (sym (drop_more xs w 0 lt)) (not_equals (get_or xs w 0) stop n)

pub bare_here : (ks : List (List ℕ)) (bytes : List ℕ) (p w : ℕ) → 0 < length bytes → p ≡ prefix_len is_blank bytes → w ≡ prefix_len is_word_byte (drop p bytes) → EndsItem (drop w (drop p bytes)) → FirstItemFault ks bytes p 1
bare_here ks bytes p w some e f ends =
    let len : length (take p bytes) ≡ p = length-take-le p bytes (omega (arith, e, prefix_len-le-length is_blank bytes)) in
    subst (λ m. FirstItemFault ks bytes m 1) len
    (bare_first ks bytes (take p bytes) (take w (drop p bytes)) (drop w (drop p bytes)) (λ is. omega (arith, ap length is, some)) (subst (λ m. AllByRecursion (λ b. is_blank b ≡ true) (take m bytes)) (sym e) (passes is_blank bytes))
    (word_here bytes p w e f) ends (front_back p bytes ∙ ap (λ l. take p bytes ++ l) (front_back w (drop p bytes))))

-- what is known where `=` stands behind the key
pub record Here (bytes : List ℕ) (p w : ℕ) : Type 0 where
  pub key : KeyAt bytes (take p bytes) (take w (drop p bytes)) (drop (w + 1) (drop p bytes))
  pub place : length (take p bytes) ≡ p
  pub len : length (take w (drop p bytes)) ≡ w

pub here : (bytes : List ℕ) (p w : ℕ) → p ≡ prefix_len is_blank bytes → w ≡ prefix_len is_word_byte (drop p bytes) → w < length (drop p bytes) → get_or (drop p bytes) w 0 ≡ 61 → Here bytes p w
here bytes p w e f lt is =
    record {
      key = key_here bytes p w e f lt is;
      place = length-take-le p bytes (omega (arith, e, prefix_len-le-length is_blank bytes));
      len = length-take-le w (drop p bytes) (omega (arith, lt));
    }

pub unknown_here : (ks : List (List ℕ)) (bytes : List ℕ) (p w : ℕ) → Here bytes p w → key_in (take w (drop p bytes)) ≡ None → FirstItemFault ks bytes p 2
unknown_here ks bytes p w h none =
    subst (λ m. FirstItemFault ks bytes m 2) h.place (unknown_first ks bytes (take p bytes) (take w (drop p bytes)) (drop (w + 1) (drop p bytes)) h.key unknown)
  where
    unknown : IsUnknown (take w (drop p bytes))
    unknown c is_condition e =
        let one : key_in (key_text c) ≡ Some (key_of c) = ap key_in (key_text-of c) ∙ key_complete (key_of c) (is_key-of c is_condition) in
        let two : key_in (key_text c) ≡ None = ap key_in e ∙ none in
        cc

pub refused_here : (cs : List Condition) (bytes : List ℕ) (p w : ℕ) (k : Key) (reason : ℕ) → IsRule cs → Here bytes p w → key_in (take w (drop p bytes)) ≡ Some k → key_refusal k cs ≡ Some reason
    → FirstItemFault (map key_text cs) bytes p reason
refused_here cs bytes p w k reason rule h e r = subst (λ m. FirstItemFault (map key_text cs) bytes m reason) h.place (by (refusal_is k cs reason r))
  where
    word : List ℕ
    word = take w (drop p bytes)

    spelled : Spell word k
    spelled = key_sound word k e

    known : IsUnknown word → ⊥
    known u = known_key k spelled.is_key (subst (λ l. IsUnknown l) spelled.is u)

    by : Refusal k cs reason → FirstItemFault (map key_text cs) bytes (length (take p bytes)) reason
    by (again is stands) =
        subst (λ s. FirstItemFault (map key_text cs) bytes (length (take p bytes)) s) (sym is)
        (twice_first (map key_text cs) bytes (take p bytes) word (drop (w + 1) (drop p bytes)) h.key known (subst (λ l. Contains (map key_text cs) l) (sym spelled.is) (has_rank_contains cs k rule.each spelled.is_key stands)))
    by (rival is once other) =
        subst (λ s. FirstItemFault (map key_text cs) bytes (length (take p bytes)) s) (sym is)
        (rival_first (map key_text cs) bytes (take p bytes) word (drop (w + 1) (drop p bytes)) h.key known
        (λ c. both_ways _ once (contains_has_rank cs k rule.each spelled.is_key (subst (λ l. Contains (map key_text cs) l) spelled.is c)))
        (subst (λ l. IsRival (map key_text cs) l) (sym spelled.is) (is_rival cs k rule.each other)))

may_here : (cs : List Condition) (word : List ℕ) (k : Key) → IsRule cs → key_in word ≡ Some k → key_refusal k cs ≡ None → MayStand (map key_text cs) word
may_here cs word k rule e none =
    let spelled = key_sound word k e in
    subst (λ l. MayStand (map key_text cs) l) (sym spelled.is) (may_stand cs k rule.each spelled.is_key none)

no_type : (k : Key) (word : List ℕ) → key_in word ≡ Some k → (k ≡ keys.Kind → ⊥) → word ≢ codes "type"
no_type k word e other is =
    let one : key_in (codes "type") ≡ Some keys.Kind = key_complete keys.Kind tt in
    let two : key_in (codes "type") ≡ Some k = ap key_in (sym is) ∙ e in
    other (cc)

type_reason : (k : Key) (word : List ℕ) → key_in word ≡ Some k → ((value_reason k ≡ 5) × (word ≡ codes "type")) ⊎ ((value_reason k ≡ 6) × (word ≢ codes "type"))
type_reason keys.Kind word e = inl (refl, (key_sound word keys.Kind e).is)
type_reason keys.Sender word e = inr (refl, no_type keys.Sender word e (λ is. cc))
type_reason keys.Interface word e = inr (refl, no_type keys.Interface word e (λ is. cc))
type_reason keys.Member word e = inr (refl, no_type keys.Member word e (λ is. cc))
type_reason keys.Path word e = inr (refl, no_type keys.Path word e (λ is. cc))
type_reason keys.PathNamespace word e = inr (refl, no_type keys.PathNamespace word e (λ is. cc))
type_reason keys.Destination word e = inr (refl, no_type keys.Destination word e (λ is. cc))
type_reason (keys.Arg n) word e = inr (refl, no_type (keys.Arg n) word e (λ is. cc))
type_reason (keys.ArgPath n) word e = inr (refl, no_type (keys.ArgPath n) word e (λ is. cc))
type_reason keys.Arg0Namespace word e = inr (refl, no_type keys.Arg0Namespace word e (λ is. cc))
type_reason keys.Eavesdrop word e = inr (refl, no_type keys.Eavesdrop word e (λ is. cc))

-- the item whose value begins behind the key
pub item_here : (bytes : List ℕ) (p w : ℕ) (value : List ℕ) (len : ℕ) → Here bytes p w → (s : IsSpelled (drop (w + 1) (drop p bytes)) value len)
    → ItemAt bytes (record { blanks = take p bytes; key = take w (drop p bytes); parts = s.parts }) (drop len (drop (w + 1) (drop p bytes)))
item_here bytes p w value len h s =
    record {
      item_is = record { blanks = h.key.blank; key = h.key.word; parts = s.lawful };
      ends = s.ends;
      is = h.key.is ∙ ap (λ l. take p bytes ++ (take w (drop p bytes) ++ 61 ∷ l)) s.text ∙ sym (item_text-append (record { blanks = take p bytes; key = take w (drop p bytes); parts = s.parts }) (drop len (drop (w + 1) (drop p bytes))));
    }

pub refuses_here : (cs : List Condition) (bytes : List ℕ) (p w : ℕ) (k : Key) (place reason : ℕ) → IsRule cs → Here bytes p w → key_in (take w (drop p bytes)) ≡ Some k → key_refusal k cs ≡ None
    → RefusesValueFor k (drop (w + 1) (drop p bytes)) (p + w + 1) place reason → FirstItemFault (map key_text cs) bytes place reason
refuses_here cs bytes p w k place reason rule h e none (still_open at o) =
    let may = may_here cs (take w (drop p bytes)) k rule e none in
    let key = subst (λ l. KeyAt bytes (take p bytes) (take w (drop p bytes)) l) o.text h.key in
    subst (λ m. FirstItemFault (map key_text cs) bytes m 4) (omega (arith, h.place, h.len, o.at_is))
    (open_first (map key_text cs) bytes (take p bytes) (take w (drop p bytes)) o.parts o.behind key may o.lawful o.no_other)
refuses_here cs bytes p w k place reason rule h e none (no_value v) =
    let may = may_here cs (take w (drop p bytes)) k rule e none in
    let item : Item = record { blanks = take p bytes; key = take w (drop p bytes); parts = v.spelled.parts } in
    let none_has : IsNoValue (take w (drop p bytes)) (item_value item) = λ c is_condition same value. v.none c is_condition (key_same c is_condition same) (value ∙ sym v.spelled.value_is) in
    subst (λ m. FirstItemFault (map key_text cs) bytes m (value_reason k)) (omega (arith, h.place, h.len))
    (value_first (map key_text cs) bytes item (drop v.len (drop (w + 1) (drop p bytes))) (value_reason k) (item_here bytes p w v.value v.len h v.spelled) may (type_reason k (take w (drop p bytes)) e) none_has)
  where
    key_same : (c : Condition) → IsCondition c → key_text c ≡ take w (drop p bytes) → key_of c ≡ k
    key_same c is_condition same =
        let one : key_in (key_text c) ≡ Some (key_of c) = ap key_in (key_text-of c) ∙ key_complete (key_of c) (is_key-of c is_condition) in
        let two : key_in (key_text c) ≡ Some k = ap key_in same ∙ e in
        cc

pub refuses_value : (cs : List Condition) (bytes : List ℕ) (p w : ℕ) (k : Key) (e : ItemFault) → IsRule cs → Here bytes p w → key_in (take w (drop p bytes)) ≡ Some k → key_refusal k cs ≡ None
    → RefusesValue e k (drop (w + 1) (drop p bytes)) (p + w + 1) → RefusesItem e bytes cs
refuses_value cs bytes p w k (Bad place reason) rule h e none r = refuses_here cs bytes p w k place reason rule h e none r
refuses_value cs bytes p w k NoMemory rule h e none r = tt

pub reads_here : (cs : List Condition) (bytes : List ℕ) (p w : ℕ) (k : Key) (read : ItemRead) → Here bytes p w → key_in (take w (drop p bytes)) ≡ Some k → key_refusal k cs ≡ None
    → ReadsValue k (drop (w + 1) (drop p bytes)) (p + w + 1) read → ReadsItem bytes cs read
reads_here cs bytes p w k read h e none v =
    let item : Item = record { blanks = take p bytes; key = take w (drop p bytes); parts = v.spelled.parts } in
    let at = item_here bytes p w (value_text read.condition) v.len h v.spelled in
    let len : read.len ≡ length (item_text item) = omega (arith, v.len_is, v.spelled.len_is, h.place, h.len, length-append (take p bytes) (take w (drop p bytes) ++ 61 ∷ spelling v.spelled.parts), length-append (take w (drop p bytes)) (61 ∷ spelling v.spelled.parts)) in
    let rest : drop read.len bytes ≡ drop v.len (drop (w + 1) (drop p bytes)) = ap (λ l. drop read.len l) at.is ∙ drop_at (item_text item) (drop v.len (drop (w + 1) (drop p bytes))) read.len (sym len) in
    record {
      item = item;
      here = subst (λ l. ItemAt bytes item l) (sym rest) at;
      len_is = len;
      key = (key_sound (take w (drop p bytes)) k e).is ∙ sym (key_text-of read.condition ∙ ap key_bytes v.on_key);
      value = sym v.spelled.value_is;
      is_condition = v.is_condition;
      may_come = ap (λ l. key_refusal l cs) v.on_key ∙ none;
    }

pub ok_then : {T E : Type 0} (r : Result T E) (P Q : T → Type 0) → ((x : T) → P x → Q x) → IfOk r P → IfOk r Q
ok_then (Ok x) P Q f h = f x h
ok_then (Err e) P Q f h = tt

pub err_then : {T E : Type 0} (r : Result T E) (P Q : E → Type 0) → ((e : E) → P e → Q e) → IfErr r P → IfErr r Q
err_then (Ok x) P Q f h = tt
err_then (Err e) P Q f h = f e h
