-- The key of an item and the item itself are known by the bytes.
use Rattle.std.proofs.Common.{◌≡◌, ◌≢◌, ℕ, zero, suc, ◌+◌, ◌<◌, ◌≤◌, List, [], ◌∷◌, ◌++◌, length, take, drop, get_or, Bool, true, false, refl, sym, ap, subst, ◌∙◌, arith, append_assoc, length-append, ◌⊎◌, inl, inr, ◌==◌, not}
use Rattle.std.specs.Prelude.{◌&&◌, ◌||◌}
use Rattle.std.specs.List.{prefix_len}
use Rattle.std.proofs.lemmas.Bool.{eqb-true, eqb-false, not-false, not-true, and_cases}
use Rattle.std.proofs.lemmas.List.{take-append-drop, length-take-le, length-drop, drop-drop, drop_more}
use Rattle.std.proofs.lemmas.List.Sums.{prefix_len-le-length}
use Rattle.atspi_match.specs.Grammar.{is_blank, is_word_byte, is_quotable, Are, Begins, EndsItem, IsWord, Part, spelling, value_of, AreParts, Item, item_text, item_value, IsItem}
use Rattle.atspi_match.specs.RuleFaults.{KeyAt, ItemAt}
use Rattle.atspi_match.proofs.RunLemmas.{run_unique, not_begins-append, passes, stops}
use Rattle.atspi_match.proofs.PartLemmas.{StopsSpelling, parts_unique, parts-behind}

-- where a word stops: no byte of a word and no blank comes next
pub record StopsWord (t : List ℕ) : Type 0 where
  pub word : Begins is_word_byte t → ⊥
  pub blank : Begins is_blank t → ⊥

pub stops_equals : (t : List ℕ) → StopsWord (61 ∷ t)
stops_equals t = record { word = λ (h : false ≡ true). cc; blank = λ (h : false ≡ true). cc }

pub stops_end : (t : List ℕ) → EndsItem t → StopsWord t
stops_end [] h = record { word = λ b. b; blank = λ b. b }
stops_end (b ∷ t) h =
    record {
      word = λ (k : is_word_byte b ≡ true). let c : false ≡ true = ap is_word_byte (sym h) ∙ k in cc;
      blank = λ (k : is_blank b ≡ true). let c : false ≡ true = ap is_blank (sym h) ∙ k in cc;
    }

pub record SameWord (bl cl w v t u : List ℕ) : Type 0 where
  pub blanks : bl ≡ cl
  pub word : w ≡ v
  pub behind : t ≡ u

pub word_unique : (bl cl w v t u : List ℕ) → Are is_blank bl → Are is_blank cl → IsWord w → IsWord v → StopsWord t → StopsWord u → bl ++ (w ++ t) ≡ cl ++ (v ++ u) → SameWord bl cl w v t u
word_unique bl cl w v t u b c iw iv st su e =
    let first = run_unique is_blank bl cl (w ++ t) (v ++ u) b c (not_begins-append is_blank w t iw.start st.blank) (not_begins-append is_blank v u iv.start su.blank) e in
    let second = run_unique is_word_byte w v t u iw.each iv.each st.word su.word first.1 in
    record { blanks = first.0; word = second.0; behind = second.1 }

pub same_key_at : (bytes bl key b cl key2 b2 : List ℕ) → KeyAt bytes bl key b → KeyAt bytes cl key2 b2 → SameWord bl cl key key2 (61 ∷ b) (61 ∷ b2)
same_key_at bytes bl key b cl key2 b2 h k = word_unique bl cl key key2 (61 ∷ b) (61 ∷ b2) h.blank k.blank h.word k.word (stops_equals b) (stops_equals b2) (sym h.is ∙ k.is)

pub same_behind : (a b : ℕ) (t u : List ℕ) → a ∷ t ≡ b ∷ u → t ≡ u
same_behind a b t u e = cc

pub item_text-append : (item : Item) (t : List ℕ) → item_text item ++ t ≡ item.blanks ++ (item.key ++ 61 ∷ (spelling item.parts ++ t))
item_text-append item t = append_assoc item.blanks (item.key ++ 61 ∷ spelling item.parts) t ∙ ap (λ l. item.blanks ++ l) (append_assoc item.key (61 ∷ spelling item.parts) t)

pub item_key : (bytes : List ℕ) (item : Item) (t : List ℕ) → ItemAt bytes item t → KeyAt bytes item.blanks item.key (spelling item.parts ++ t)
item_key bytes item t h = record { blank = h.item_is.blanks; word = h.item_is.key; is = h.is ∙ item_text-append item t }

pub record SameItem (i j : Item) (t u : List ℕ) : Type 0 where
  pub item : i ≡ j
  pub behind : t ≡ u

same_fields : (i j : Item) → i.blanks ≡ j.blanks → i.key ≡ j.key → i.parts ≡ j.parts → i ≡ j
same_fields i j b k p =
    let make : List ℕ → List ℕ → List Part → Item = λ bl key parts. record { blanks = bl; key = key; parts = parts } in
    ap (λ x. make x i.key i.parts) b ∙ ap (λ x. make j.blanks x i.parts) k ∙ ap (λ x. make j.blanks j.key x) p

-- where an item ends no apostrophe comes
no_apostrophe : (t : List ℕ) → EndsItem t → Begins (λ c. c == 39) t → ⊥
no_apostrophe [] e h = h
no_apostrophe (b ∷ t) e h = eqb-false 44 39 refl (sym e ∙ eqb-true b 39 h)

pub at_end : (ps : List Part) (t : List ℕ) → EndsItem t → AreParts ps [] → AreParts ps t
at_end ps t e h = parts-behind ps [] t (λ k. no_apostrophe t e k) h

pub at_quote : (ps : List Part) (t : List ℕ) → AreParts ps (39 ∷ []) → AreParts ps (39 ∷ t)
at_quote ps t h = parts-behind ps (39 ∷ []) (39 ∷ t) (λ _. refl) h

pub item_unique : (bytes : List ℕ) (i j : Item) (t u : List ℕ) → ItemAt bytes i t → ItemAt bytes j u → SameItem i j t u
item_unique bytes i j t u h k =
    let w = same_key_at bytes i.blanks i.key (spelling i.parts ++ t) j.blanks j.key (spelling j.parts ++ u) (item_key bytes i t h) (item_key bytes j u k) in
    let p = parts_unique i.parts j.parts t u (inl h.ends) (inl k.ends) (at_end i.parts t h.ends h.item_is.parts) (at_end j.parts u k.ends k.item_is.parts) (same_behind 61 61 (spelling i.parts ++ t) (spelling j.parts ++ u) w.behind) in
    let b : i.blanks ≡ j.blanks = w.blanks in
    let n : i.key ≡ j.key = w.word in
    let q : i.parts ≡ j.parts = p.0 in
    record { item = same_fields i j b n q; behind = p.1 }

-- a key by how many bytes of each sort stand in front
begins_take : (p : ℕ → Bool) (n : ℕ) (xs : List ℕ) → Begins p (take n xs) → Begins p xs
begins_take p zero xs h = absurd h
begins_take p (suc n) [] h = h
begins_take p (suc n) (x ∷ xs) h = h

pub word_here : (bytes : List ℕ) (p w : ℕ) → p ≡ prefix_len is_blank bytes → w ≡ prefix_len is_word_byte (drop p bytes) → IsWord (take w (drop p bytes))
word_here bytes p w e f =
    record {
      each = subst (λ m. Are is_word_byte (take m (drop p bytes))) (sym f) (passes is_word_byte (drop p bytes));
      start = λ h. stops is_blank bytes (subst (λ m. Begins is_blank (drop m bytes)) e (begins_take is_blank w (drop p bytes) h));
    }

pub key_here : (bytes : List ℕ) (p w : ℕ) → p ≡ prefix_len is_blank bytes → w ≡ prefix_len is_word_byte (drop p bytes) → w < length (drop p bytes) → get_or (drop p bytes) w 0 ≡ 61
    → KeyAt bytes (take p bytes) (take w (drop p bytes)) (drop (w + 1) (drop p bytes))
key_here bytes p w e f lt is =
    record {
      blank = subst (λ m. Are is_blank (take m bytes)) (sym e) (passes is_blank bytes);
      word = word_here bytes p w e f;
      is = sym (take-append-drop p bytes) ∙ ap (λ l. take p bytes ++ l) (sym (take-append-drop w (drop p bytes)) ∙ ap (λ l. take w (drop p bytes) ++ l) (drop_more (drop p bytes) w 0 lt ∙ ap (λ b. b ∷ drop (w + 1) (drop p bytes)) is));
    }
