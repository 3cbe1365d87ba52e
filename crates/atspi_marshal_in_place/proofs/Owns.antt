-- What owned values are made of.
use Rattle.std.proofs.Common.{◌≡◌, ℕ, List, [], ◌∷◌, ◌++◌, Result, Ok, Err, append_assoc, append-nil, refl, sym, ap, ◌∙◌}
use Rattle.atspi_types.specs.Kinds.{Kind, Kinds, no_kinds, kind, kinds_of, types_in}
use Rattle.atspi_types.specs.KindView.{kind_of}
use Rattle.atspi_types.specs.Signatures.{type_bytes, signature_bytes}
use Rattle.atspi_types.specs.Data.{Data, Entries, entry, dictionary_data, items_of, entries_of}
use Rattle.atspi_types.specs.DataView.{data_of, all_pairs}
use Rattle.atspi_types.specs.declared.fault.Fault.{Fault}
use Rattle.atspi_types.specs.declared.ty.Ty.{Ty}
use Rattle.atspi_types.specs.declared.value.Pairs.{Pairs}
use Rattle.atspi_types.specs.declared.value.Value.TheVariants.{Dict}
use Rattle.atspi_types.proofs.DataLemmas.{types_in-kinds_of, data_of-Dict}
use Rattle.atspi_marshal.specs.Reading.{struct_of, structs_in, entries_in}
use Rattle.atspi_marshal.proofs.Loops.{structs_in-append}

-- one type alone, as a list of one
pub spelled_alone : (k : Kind) (bytes : List ℕ) → bytes ≡ type_bytes k → bytes ≡ signature_bytes (kind k no_kinds)
spelled_alone k bytes e = e ∙ sym (append-nil (type_bytes k))

abbrev some_kinds : Kinds → Result Kinds Fault
some_kinds ks = Ok ks

pub one_kind : (ks : List Kind) (k : Kind) → some_kinds (kind k no_kinds) ≡ some_kinds (kinds_of ks) → ks ≡ k ∷ []
one_kind ks k e =
    let same : kinds_of ks ≡ kind k no_kinds = cc in
    sym (types_in-kinds_of ks) ∙ ap types_in same

pub first_kind : (j k : Kind) → j ∷ [] ≡ k ∷ [] → j ≡ k
first_kind j k e = cc

pub never_refused : (ks : Kinds) (f : Fault) → some_kinds ks ≡ Err f → ⊥
never_refused ks f e = absurd cc

-- entries, as structs of two
entries_of_structs : (ps : List (Data × Data)) → entries_in (items_of (structs_in ps)) ≡ entries_of ps
entries_of_structs [] = refl
entries_of_structs (p ∷ ps) = ap (λ (es : Entries). entry p.0 p.1 es) (entries_of_structs ps)

pub pairs_come : (ps qs : List (Data × Data)) (c d x y : Data) (old new total : List Data) → qs ≡ ps ++ (c, d) ∷ [] → c ≡ x → d ≡ y → old ≡ struct_of x y ∷ new → structs_in ps ++ old ≡ total → structs_in qs ++ new ≡ total
pairs_come ps qs c d x y old new total pushed key value comes so_far =
    let here : struct_of c d ∷ new ≡ old = ap (λ (e : Data). struct_of e d ∷ new) key ∙ ap (λ (e : Data). struct_of x e ∷ new) value ∙ sym comes in
    ap (λ (rs : List (Data × Data)). structs_in rs ++ new) pushed ∙ ap (λ (ds : List Data). ds ++ new) (structs_in-append ps c d)
    ∙ append_assoc (structs_in ps) (struct_of c d ∷ []) new ∙ ap (λ (ds : List Data). structs_in ps ++ ds) here ∙ so_far

pub dictionary_owned : (k v : Ty) (ps : Pairs) (j w : Kind) (ds : List Data) (d : Data) → kind_of k ≡ j → kind_of v ≡ w → structs_in (all_pairs ps) ≡ ds → d ≡ dictionary_data j w (entries_in (items_of ds)) → data_of (Dict k v ps) ≡ d
dictionary_owned k v ps j w ds d key value pairs is =
    data_of-Dict k v ps ∙ ap (λ (x : Kind). dictionary_data x (kind_of v) (entries_of (all_pairs ps))) key ∙ ap (λ (x : Kind). dictionary_data j x (entries_of (all_pairs ps))) value
    ∙ ap (λ (es : Entries). dictionary_data j w es) (sym (entries_of_structs (all_pairs ps)) ∙ ap (λ (ls : List Data). entries_in (items_of ls)) pairs) ∙ sym is
