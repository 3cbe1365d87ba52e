-- Words with a space between any two, written one behind the other.
use Rattle.std.proofs.Common.{◌≡◌, ℕ, ◌+◌, ◌<◌, ◌≤◌, List, [], ◌∷◌, ◌++◌, length, map, get_or, take, Some, refl, sym, ap, ◌∙◌, append_assoc, arith, subst, Option}
use Rattle.std.proofs.lemmas.List.{append-nil, length-append, length-map, length-take-le, take-take, take_more, take_all}
use Rattle.std.proofs.Math.Seq.{take-append_seam}
use Rattle.std.proofs.lemmas.Grind.{flat_map-append}
use Rattle.std.proofs.lemmas.Option.{slice_get_within, get_or_from_slice_get, slice_get-get_or, slice_get-map}
use Rattle.std.specs.List.{flat_map, slice_get}
use Rattle.atspi_types.specs.Data.{Data, items_of, entries_of}
use Rattle.atspi_types.specs.DataView.{pair_of}
use Rattle.atspi_types.specs.declared.value.Value.{Value}
use Rattle.atspi_script.specs.Spaced.{behind_space, gap, spaced}
use Rattle.atspi_script.specs.ValueText.{in_braces, value_text, value_texts, entry_texts}

pub one_more : {X : Type 0} (xs : List X) (i : ℕ) (x : X) → slice_get xs i ≡ Some x → take (i + 1) xs ≡ take i xs ++ x ∷ []
one_more xs i x e =
    take_more xs i x (slice_get_within xs i x e) ∙ ap (λ y. take i xs ++ y ∷ []) (get_or_from_slice_get xs i x x e)

-- a word more
spaced_more : (words : List (List ℕ)) (word : List ℕ) → spaced (words ++ word ∷ []) ≡ spaced words ++ (gap (length words) ++ word)
spaced_more [] word = append-nil word
spaced_more (first ∷ words) word =
    ap (λ w. first ++ w) (flat_map-append behind_space words (word ∷ []))
    ∙ ap (λ w. first ++ (flat_map behind_space words ++ w)) (append-nil (32 ∷ word))
    ∙ sym (append_assoc first (flat_map behind_space words) (32 ∷ word))

-- the next word is written behind those before it
pub word_written : (words : List (List ℕ)) (i : ℕ) (word old now middle new : List ℕ) → slice_get words i ≡ Some word → now ≡ old ++ spaced (take i words) → middle ≡ now ++ gap i → new ≡ middle ++ word
    → new ≡ old ++ spaced (take (i + 1) words)
word_written words i word old now middle new e before spaced_off appended =
    let within : i < length words = slice_get_within words i word e in
    let count : length (take i words) ≡ i = length-take-le i words (omega arith) in
    let more : spaced (take (i + 1) words) ≡ spaced (take i words) ++ (gap i ++ word) =
    ap spaced (one_more words i word e) ∙ spaced_more (take i words) word ∙ ap (λ n. spaced (take i words) ++ (gap n ++ word)) count
    in
    appended
    ∙ ap (λ w. w ++ word) (spaced_off ∙ ap (λ w. w ++ gap i) before)
    ∙ append_assoc (old ++ spaced (take i words)) (gap i) word
    ∙ append_assoc old (spaced (take i words)) (gap i ++ word)
    ∙ sym (ap (λ w. old ++ w) more)

-- the texts of values and of entries, as lists
pub value_texts_map : (ds : List Data) → value_texts (items_of ds) ≡ map value_text ds
value_texts_map [] = refl
value_texts_map (d ∷ ds) = ap (λ ws. value_text d ∷ ws) (value_texts_map ds)

abbrev pub pair_text : (Data × Data) → List ℕ
pair_text p = in_braces (value_text p.0) (value_text p.1)

pub entry_texts_map : (es : List (Data × Data)) → entry_texts (entries_of es) ≡ map pair_text es
entry_texts_map [] = refl
entry_texts_map (e ∷ es) = ap (λ ws. pair_text e ∷ ws) (entry_texts_map es)

pub value_written : (ds : List Data) (i : ℕ) (d : Data) (old now middle new : List ℕ) → slice_get ds i ≡ Some d → now ≡ old ++ spaced (take i (map value_text ds)) → middle ≡ now ++ gap i → new ≡ middle ++ value_text d
    → new ≡ old ++ spaced (take (i + 1) (map value_text ds))
value_written ds i d old now middle new e before spaced_off appended =
    let there : slice_get (map value_text ds) i ≡ Some (value_text d) = rw (slice_get-map value_text ds i, e) refl in
    word_written (map value_text ds) i (value_text d) old now middle new there before spaced_off appended

pub entry_written : (es : List (Data × Data)) (i : ℕ) (e : Data × Data) (old now middle new : List ℕ) → slice_get es i ≡ Some e → now ≡ old ++ spaced (take i (map pair_text es)) → middle ≡ now ++ gap i → new ≡ middle ++ pair_text e
    → new ≡ old ++ spaced (take (i + 1) (map pair_text es))
entry_written es i e old now middle new h before spaced_off appended =
    let there : slice_get (map pair_text es) i ≡ Some (pair_text e) = rw (slice_get-map pair_text es i, h) refl in
    word_written (map pair_text es) i (pair_text e) old now middle new there before spaced_off appended

-- the pair at an index
pub pair_at : (items : List (Value × Value)) (es : List (Data × Data)) (i : ℕ) (p : Value × Value) → map pair_of items ≡ es → i < length items → p ≡ get_or items i p → slice_get es i ≡ Some (pair_of p)
pair_at items es i p e lt is =
    subst (λ (qs : List (Data × Data)). slice_get qs i ≡ Some (pair_of p)) e (mapped (slice_get-get_or items i p lt ∙ ap some (sym is)))
  where
    some : Value × Value → Option (Value × Value)
    some x = Some x

    mapped : slice_get items i ≡ Some p → slice_get (map pair_of items) i ≡ Some (pair_of p)
    mapped h = rw (slice_get-map pair_of items i, h) refl

pub length_pairs : (items : List (Value × Value)) (es : List (Data × Data)) → map pair_of items ≡ es → length es ≡ length items
length_pairs items es e = sym (ap (λ (qs : List (Data × Data)). length qs) e) ∙ length-map items pair_of

-- all of them are written
pub values_written : (ds : List Data) (i : ℕ) (old now : List ℕ) → length ds ≤ i → now ≡ old ++ spaced (take i (map value_text ds)) → now ≡ old ++ spaced (value_texts (items_of ds))
values_written ds i old now le e = e ∙ ap (λ ws. old ++ spaced ws) (take_all i (map value_text ds) (omega (arith, length-map ds value_text)) ∙ sym (value_texts_map ds))

pub entries_written : (es : List (Data × Data)) (i : ℕ) (old now : List ℕ) → length es ≤ i → now ≡ old ++ spaced (take i (map pair_text es)) → now ≡ old ++ spaced (entry_texts (entries_of es))
entries_written es i old now le e = e ∙ ap (λ ws. old ++ spaced ws) (take_all i (map pair_text es) (omega (arith, length-map es pair_text)) ∙ sym (entry_texts_map es))

-- what stood before stands there still, where a front of what was to come was appended
pub front_kept : (old tail now new : List ℕ) → now ≡ old ++ tail → take (length now) new ≡ now → take (length old) new ≡ old
front_kept old tail now new e front =
    let le : length old ≤ length now = omega (arith, ap length e, length-append old tail) in
    sym (take-take (length old) (length now) new le) ∙ ap (λ (bs : List ℕ). take (length old) bs) (front ∙ e) ∙ take-append_seam old tail

pub front_behind_gap : (old tail now gap_bytes middle new : List ℕ) → now ≡ old ++ tail → middle ≡ now ++ gap_bytes → take (length middle) new ≡ middle → take (length old) new ≡ old
front_behind_gap old tail now gap_bytes middle new e f front =
    front_kept old (tail ++ gap_bytes) middle new (f ∙ ap (λ (bs : List ℕ). bs ++ gap_bytes) e ∙ append_assoc old tail gap_bytes) front
