-- The counts that faces tell of a node are all that a call needs.
use Rattle.std.proofs.Common.{true≢false, ◌≡◌, ℕ, List, [], ◌∷◌, Option, Some, None, refl, sym, ap, ◌∙◌, subst}
use Rattle.std.specs.Prelude.{MatchOption, IsSome, IfSome}
use Rattle.std.specs.List.{AllByRecursion}
use Rattle.std.specs.Option.{option_map_or}
use Rattle.std.specs.FinMap.{get}
use Rattle.atspi_tree_model.specs.declared.contents.FaceData.{FaceData}
use Rattle.atspi_tree_model.specs.declared.contents.FaceKind.{FaceKind}
use Rattle.atspi_tree_model.specs.declared.contents.FaceKind.TheVariants.{Chars, Grid, Deeds}
use Rattle.atspi_tree_model.specs.Row.{ShapeRow, TreeRow}
use Rattle.atspi_faces.specs.face.Contents.{kind_of, caret_of}
use Rattle.atspi_faces.specs.face.Nodes.{Nodes, AreContents, HasText, caret_at}
use Rattle.atspi_tree.specs.TreeShape.{TreeShape, row_of}
use Rattle.atspi_protocol.specs.whole.Whole.{Faces, filled}
use Rattle.atspi_protocol.specs.declared.members.property.ObjectProperty.{ObjectProperty}
use Rattle.atspi_protocol.specs.declared.members.property.ObjectProperty.TheVariants as properties
use Rattle.atspi_protocol.specs.members.Table.{PropertyLine}
use Rattle.atspi_app_calls.specs.declared.ask.Ask.{Ask}
use Rattle.atspi_app_calls.specs.declared.ask.Ask.TheVariants as asks
use Rattle.atspi_app_calls.specs.Interface.{properties_in}
use Rattle.atspi_app_answers.specs.declared.counts.Counts.{Counts}
use Rattle.atspi_app_answers.specs.declared.place.AppPlace.TheVariants as places
use Rattle.atspi_app_answers.specs.Counted.{AreCounts, HasCountFor, HasCountsFor, HasCountsAsked, HasCountsAt, counts_at}
use Rattle.atspi_app_answers.specs.Laws.{AreFaces}
use Rattle.atspi_app_answers.proofs.CountLemmas.{faces_tell_counts}
use Rattle.atspi_app_contents.proofs.OfValues.Seen.{found_number}
use Rattle.atspi_app_exported.specs.Parts.{AreKinds, kinds_of}

-- a node that is here has a text
text_by : (nodes : Nodes) (n : ℕ) (o : Option FaceData) → get nodes n ≡ o → AreContents Chars nodes → IsSome o → MatchOption o ⊥ (λ what. kind_of what ≡ Chars)
text_by nodes n None e are h = absurd (true≢false (sym h))
text_by nodes n (Some what) e are h = (are n what e).of_kind

pub has_text : (kind : FaceKind) (nodes : Nodes) (n : ℕ) → kind ≡ Chars → AreContents kind nodes → IsSome (get nodes n) → HasText nodes n
has_text kind nodes n k are h = text_by nodes n (get nodes n) refl (subst (λ (x : FaceKind). AreContents x nodes) k are) h

pub no_caret : (nodes : Nodes) (n : ℕ) → get nodes n ≡ None → 0 ≡ caret_at nodes n
no_caret nodes n e = sym (ap (λ (o : Option FaceData). option_map_or caret_of o 0) e)

-- each face is of its kind
pub are_faces : (texts columns actions : FaceKind) (faces : Faces) → AreKinds (kinds_of texts columns actions) → AreContents texts faces.chars → AreContents columns faces.grid
    → AreContents actions faces.deeds → AreFaces faces
are_faces texts columns actions faces k t c a = record {
  chars = subst (λ (x : FaceKind). AreContents x faces.chars) k.texts t;
  grid = subst (λ (x : FaceKind). AreContents x faces.grid) k.columns c;
  deeds = subst (λ (x : FaceKind). AreContents x faces.deeds) k.actions a;
}

-- the count that a property tells
count_for : (counts : Counts) (row : TreeRow) → AreCounts counts row → (property : ObjectProperty) → HasCountFor counts row property
count_for counts row k properties.Name = tt
count_for counts row k properties.Description = tt
count_for counts row k properties.Parent = tt
count_for counts row k properties.ChildCount = tt
count_for counts row k properties.Locale = tt
count_for counts row k properties.AccessibleId = tt
count_for counts row k properties.ToolkitName = tt
count_for counts row k properties.Version = tt
count_for counts row k properties.AtspiVersion = tt
count_for counts row k properties.Id = tt
count_for counts row k properties.CharacterCount = k.characters
count_for counts row k properties.CaretOffset = k.caret
count_for counts row k properties.NSelectedChildren = tt
count_for counts row k properties.NRows = k.columns
count_for counts row k properties.NColumns = k.columns
count_for counts row k properties.NActions = k.actions

counts_for : (counts : Counts) (row : TreeRow) → AreCounts counts row → (lines : List PropertyLine) → HasCountsFor counts row lines
counts_for counts row k [] = tt
counts_for counts row k (l ∷ ls) = (count_for counts row k l.property, counts_for counts row k ls)

counts_asked : (counts : Counts) (row : TreeRow) → AreCounts counts row → (ask : Ask) → HasCountsAsked counts row ask
counts_asked counts row k (asks.Get property) = count_for counts row k property
counts_asked counts row k (asks.GetAll interface) = counts_for counts row k (properties_in interface)
counts_asked counts row k (asks.Call _) = tt
counts_asked counts row k (asks.SetId n) = tt

row_by : (t : TreeShape) (faces : Faces) (n : ℕ) (ask : Ask) (o : Option ShapeRow) → row_of n t ≡ o → AreFaces faces
    → IfSome o (λ (s : ShapeRow). HasCountsAsked (counts_at faces n) (filled faces s) ask)
row_by t faces n ask None e are = tt
row_by t faces n ask (Some s) e are =
    counts_asked (counts_at faces n) (filled faces s)
    (subst (λ (m : ℕ). AreCounts (counts_at faces m) (filled faces s)) (found_number t n s e) (faces_tell_counts faces s are)) ask

pub has_counts : (t : TreeShape) (faces : Faces) (n : ℕ) (ask : Ask) (counts : Counts) → AreFaces faces → counts ≡ counts_at faces n
    → HasCountsAt counts t faces (places.Node n) ask
has_counts t faces n ask counts are e =
    subst (λ (k : Counts). HasCountsAt k t faces (places.Node n) ask) (sym e) (row_by t faces n ask (row_of n t) refl are)
