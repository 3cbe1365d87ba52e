-- What a return tells of a part.
use Rattle.std.proofs.Common.{◌≡◌, ℕ, List, [], ◌∷◌, Some}
use Rattle.std.specs.Prelude.{ℤ, pos, negsuc}
use Rattle.atspi_types.specs.Kinds.{byte, i16, u16, i32, u32, i64, u64, double}
use Rattle.atspi_types.specs.Data.{Data, number_data, boolean_data, text_data, path_data, signature_data, array_data, structure_data, dictionary_data, variant_data}
use Rattle.atspi_tree_model.specs.declared.news.News.{News}
use Rattle.atspi_tree_model.specs.declared.news.News.TheVariants.{TextIs, CaretIs, ColumnsIs}
use Rattle.atspi_protocol.specs.declared.news.part.PartName.{PartName}
use Rattle.atspi_protocol.specs.declared.news.part.PartName.TheVariants.{Text, Caret, Columns}
use Rattle.atspi_protocol.specs.news.Arguments.{signed}
use Rattle.atspi_protocol.specs.news.Replies.{if_not_negative, part_in}

abbrev pub IsPart : PartName → List ℕ → News → Type 0
IsPart Text path news = (x : List ℕ) × (news ≡ TextIs path x)
IsPart Caret path news = (n : ℕ) × (news ≡ CaretIs path (pos n))
IsPart Columns path news = (n : ℕ) × (news ≡ ColumnsIs path (pos n))

some_same : {A : Type 0} {x y : A} → Some x ≡ Some y → y ≡ x
some_same e = cc

text_tells : (path : List ℕ) (body : List Data) (news : News) → part_in Text path body ≡ Some news → IsPart Text path news
text_tells path [] news e = absurd cc
text_tells path (text_data cs ∷ []) news e = (cs, some_same e)
text_tells path (text_data cs ∷ (d ∷ ds)) news e = absurd cc
text_tells path (number_data n x ∷ ds) news e = absurd cc
text_tells path (boolean_data b ∷ ds) news e = absurd cc
text_tells path (path_data bs ∷ ds) news e = absurd cc
text_tells path (signature_data ks ∷ ds) news e = absurd cc
text_tells path (array_data k es ∷ ds) news e = absurd cc
text_tells path (structure_data es ∷ ds) news e = absurd cc
text_tells path (dictionary_data k v es ∷ ds) news e = absurd cc
text_tells path (variant_data k d ∷ ds) news e = absurd cc

not_negative : (z : ℤ) (told : ℤ → News) (news : News) → if_not_negative z (told z) ≡ Some news → (n : ℕ) × (news ≡ told (pos n))
not_negative (pos n) told news e = (n, some_same e)
not_negative (negsuc n) told news e = absurd cc

caret_tells : (path : List ℕ) (body : List Data) (news : News) → part_in Caret path body ≡ Some news → IsPart Caret path news
caret_tells path [] news e = absurd cc
caret_tells path (number_data byte x ∷ ds) news e = absurd cc
caret_tells path (number_data i16 x ∷ ds) news e = absurd cc
caret_tells path (number_data u16 x ∷ ds) news e = absurd cc
caret_tells path (number_data i32 x ∷ ds) news e = absurd cc
caret_tells path (number_data u32 x ∷ ds) news e = absurd cc
caret_tells path (number_data i64 x ∷ ds) news e = absurd cc
caret_tells path (number_data u64 x ∷ ds) news e = absurd cc
caret_tells path (number_data double x ∷ ds) news e = absurd cc
caret_tells path (boolean_data b ∷ ds) news e = absurd cc
caret_tells path (text_data cs ∷ ds) news e = absurd cc
caret_tells path (path_data bs ∷ ds) news e = absurd cc
caret_tells path (signature_data ks ∷ ds) news e = absurd cc
caret_tells path (array_data k es ∷ ds) news e = absurd cc
caret_tells path (structure_data es ∷ ds) news e = absurd cc
caret_tells path (dictionary_data k v es ∷ ds) news e = absurd cc
caret_tells path (variant_data k (number_data byte x) ∷ ds) news e = absurd cc
caret_tells path (variant_data k (number_data i16 x) ∷ ds) news e = absurd cc
caret_tells path (variant_data k (number_data u16 x) ∷ ds) news e = absurd cc
caret_tells path (variant_data k (number_data i32 x) ∷ []) news e = not_negative (signed x) (CaretIs path) news e
caret_tells path (variant_data k (number_data i32 x) ∷ (more ∷ ds)) news e = absurd cc
caret_tells path (variant_data k (number_data u32 x) ∷ ds) news e = absurd cc
caret_tells path (variant_data k (number_data i64 x) ∷ ds) news e = absurd cc
caret_tells path (variant_data k (number_data u64 x) ∷ ds) news e = absurd cc
caret_tells path (variant_data k (number_data double x) ∷ ds) news e = absurd cc
caret_tells path (variant_data k (boolean_data b) ∷ ds) news e = absurd cc
caret_tells path (variant_data k (text_data cs) ∷ ds) news e = absurd cc
caret_tells path (variant_data k (path_data bs) ∷ ds) news e = absurd cc
caret_tells path (variant_data k (signature_data js) ∷ ds) news e = absurd cc
caret_tells path (variant_data k (array_data j es) ∷ ds) news e = absurd cc
caret_tells path (variant_data k (structure_data es) ∷ ds) news e = absurd cc
caret_tells path (variant_data k (dictionary_data j w es) ∷ ds) news e = absurd cc
caret_tells path (variant_data k (variant_data j f) ∷ ds) news e = absurd cc

columns_tells : (path : List ℕ) (body : List Data) (news : News) → part_in Columns path body ≡ Some news → IsPart Columns path news
columns_tells path [] news e = absurd cc
columns_tells path (number_data byte x ∷ ds) news e = absurd cc
columns_tells path (number_data i16 x ∷ ds) news e = absurd cc
columns_tells path (number_data u16 x ∷ ds) news e = absurd cc
columns_tells path (number_data i32 x ∷ ds) news e = absurd cc
columns_tells path (number_data u32 x ∷ ds) news e = absurd cc
columns_tells path (number_data i64 x ∷ ds) news e = absurd cc
columns_tells path (number_data u64 x ∷ ds) news e = absurd cc
columns_tells path (number_data double x ∷ ds) news e = absurd cc
columns_tells path (boolean_data b ∷ ds) news e = absurd cc
columns_tells path (text_data cs ∷ ds) news e = absurd cc
columns_tells path (path_data bs ∷ ds) news e = absurd cc
columns_tells path (signature_data ks ∷ ds) news e = absurd cc
columns_tells path (array_data k es ∷ ds) news e = absurd cc
columns_tells path (structure_data es ∷ ds) news e = absurd cc
columns_tells path (dictionary_data k v es ∷ ds) news e = absurd cc
columns_tells path (variant_data k (number_data byte x) ∷ ds) news e = absurd cc
columns_tells path (variant_data k (number_data i16 x) ∷ ds) news e = absurd cc
columns_tells path (variant_data k (number_data u16 x) ∷ ds) news e = absurd cc
columns_tells path (variant_data k (number_data i32 x) ∷ []) news e = not_negative (signed x) (ColumnsIs path) news e
columns_tells path (variant_data k (number_data i32 x) ∷ (more ∷ ds)) news e = absurd cc
columns_tells path (variant_data k (number_data u32 x) ∷ ds) news e = absurd cc
columns_tells path (variant_data k (number_data i64 x) ∷ ds) news e = absurd cc
columns_tells path (variant_data k (number_data u64 x) ∷ ds) news e = absurd cc
columns_tells path (variant_data k (number_data double x) ∷ ds) news e = absurd cc
columns_tells path (variant_data k (boolean_data b) ∷ ds) news e = absurd cc
columns_tells path (variant_data k (text_data cs) ∷ ds) news e = absurd cc
columns_tells path (variant_data k (path_data bs) ∷ ds) news e = absurd cc
columns_tells path (variant_data k (signature_data js) ∷ ds) news e = absurd cc
columns_tells path (variant_data k (array_data j es) ∷ ds) news e = absurd cc
columns_tells path (variant_data k (structure_data es) ∷ ds) news e = absurd cc
columns_tells path (variant_data k (dictionary_data j w es) ∷ ds) news e = absurd cc
columns_tells path (variant_data k (variant_data j f) ∷ ds) news e = absurd cc

pub part_tells : (part : PartName) (path : List ℕ) (body : List Data) (news : News) → part_in part path body ≡ Some news → IsPart part path news
part_tells Text path body news e = text_tells path body news e
part_tells Caret path body news e = caret_tells path body news e
part_tells Columns path body news e = columns_tells path body news e
