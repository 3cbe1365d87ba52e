-- The facts of the world under "at quiet": where nothing waits no call is without its reply, each application that is here embedded and is the registry's child, readers were told of each child,
-- and what a reader asked an application that is here was returned.
use Rattle.std.proofs.Common.{◌≡◌, ◌⊎◌, ℕ, true, List, [], ◌∷◌, None, Some}
use Rattle.std.specs.List.{AllByRecursion}
use Rattle.atspi_tree_model.specs.Forest.{Forest, labels}
use Rattle.atspi_tree_model.specs.Path.{path_of}
use Rattle.atspi_tree_model.specs.Row.{TreeRow}
use Rattle.atspi_script_lines.specs.declared.line.Party.TheVariants.{App, Reader}
use Rattle.atspi_protocol.specs.declared.following.question.Question.{Question}
use Rattle.atspi_protocol.specs.declared.following.question.Question.TheVariants.{RegisterEvent, GetChildren, GetItems, GetPart}
use Rattle.atspi_protocol.specs.declared.news.part.PartName.{PartName}
use Rattle.atspi_protocol.specs.declared.news.part.PartName.TheVariants.{Text, Caret, Columns}
use Rattle.atspi_protocol.specs.following.Wishes.{is_refused}
use Rattle.atspi_protocol.specs.following.ReaderState.{start_calls}
use Rattle.atspi_protocol.specs.exporting.Exporter.{StartCall, awaits, over, Exporter}
use Rattle.atspi_trace.specs.Entry.{Entry}
use Rattle.atspi_trace.specs.World.{here, Asked, Fate, waits, returned, failed, an_application, a_reader, Holding, Hearer, End, World}
use Rattle.atspi_trace.specs.Ends.{end_at}
use Rattle.atspi_trace.specs.Hearing.{holding_of}
use Rattle.atspi_trace_laws.specs.laws.NineLaws.{Everywhere}
use Rattle.atspi_trace_caches.specs.settled.Laws.{AsksOfNode, BeginsWell, IsPartAsked}
use Rattle.atspi_trace_laws.proofs.OfOwn.Writing.{Lives}
use Rattle.atspi_trace_caches.proofs.OfServed.Facts.{Embeds}

-- WHOM A QUESTION IS FOR: the bus, the registry, or who has or had the unique name of an application; and one that is here
abbrev pub IsOfApp : List End → List ℕ → Type 0
IsOfApp ends name = (k a : ℕ) × (e : End) × (end_at ends k ≡ Some e) × (e.who ≡ App a) × (e.unique ≡ Some name)

abbrev pub IsForOne : List End → Question → Type 0
IsForOne ends (GetItems name) = IsOfApp ends name
IsForOne ends (GetPart name path part) = IsOfApp ends name
IsForOne ends question = Unit {0}

abbrev pub IsAppName : List End → List ℕ → Type 0
IsAppName ends name = (k a : ℕ) × (e : End) × (end_at ends k ≡ Some e) × (e.who ≡ App a) × (e.standing ≡ here) × (e.unique ≡ Some name)

-- REPLIED, where nothing waits: no own call of a reader to one of these waits, and no application waits for a return of its start
abbrev pub IsReplied : List End → Asked → Type 0
IsReplied ends a = IsForOne ends a.question → a.fate ≡ waits → ⊥

pub record AllReplied (w : World) : Type 0 where
  pub readers : (k r : ℕ) (e : End) (h : Hearer) → end_at w.ends k ≡ Some e → e.who ≡ Reader r → e.role ≡ a_reader h → e.standing ≡ here → AllByRecursion (IsReplied w.ends) h.asked
  pub apps : (k a : ℕ) (e : End) (s : Exporter) → end_at w.ends k ≡ Some e → e.who ≡ App a → e.role ≡ an_application s → e.standing ≡ here
      → (call : StartCall) (serial : ℕ) → s.phase ≡ awaits call serial → ⊥

-- EMBEDDED: an application whose start is over sent Embed, as long as the registry is here
abbrev pub AllEmbed : List Entry → World → Type 0
AllEmbed es w = Lives es → (k a : ℕ) (e : End) (s : Exporter) → end_at w.ends k ≡ Some e → e.who ≡ App a → e.role ≡ an_application s → e.standing ≡ here → (s.phase ≡ over) → Embeds es a

-- THE START OF A READER IS RETURNED: of one whose own calls begin with its start, in order, none of the first ten is refused, as long as the registry is here
abbrev pub AreReturned : List Question → List Asked → Type 0
AreReturned [] asked = Unit {0}
AreReturned (question ∷ questions) [] = ⊥
AreReturned (question ∷ questions) (a ∷ asked) = (a.question ≡ question) × ((a.fate ≡ failed → ⊥) × AreReturned questions asked)

abbrev pub StartsReturn : List Entry → World → Type 0
StartsReturn es w = Lives es → (k r : ℕ) (e : End) (h : Hearer) → end_at w.ends k ≡ Some e → e.who ≡ Reader r → e.role ≡ a_reader h → e.standing ≡ here → BeginsWell h.asked → AreReturned start_calls h.asked

-- TOLD OF, where nothing waits: a reader that began well, and whose call for the registry's children was returned, was told of each application that is here and embedded
abbrev pub IsIn : List ℕ → List (List ℕ) → Type 0
IsIn name [] = ⊥
IsIn name (n ∷ ns) = (n ≡ name) ⊎ IsIn name ns

abbrev pub AllTold : List Entry → World → Type 0
AllTold es w =
    Lives es → (k r : ℕ) (e : End) (h : Hearer) → end_at w.ends k ≡ Some e → e.who ≡ Reader r → e.role ≡ a_reader h → e.standing ≡ here → BeginsWell h.asked
    → AllByRecursion (λ (x : Asked). x.question ≡ GetChildren → x.fate ≡ returned → (j a : ℕ) (d : End) (name : List ℕ) → end_at w.ends j ≡ Some d → d.who ≡ App a → d.standing ≡ here → d.unique ≡ Some name → Embeds es a → IsIn name h.named) h.asked

-- NOT REFUSED: the registry returns a reader's calls as long as it is here, and an application that is here the calls for its items
abbrev pub NeverFails : List End → Fate → Question → Type 0
NeverFails ends fate (RegisterEvent pattern) = fate ≡ failed → ⊥
NeverFails ends fate GetChildren = fate ≡ failed → ⊥
NeverFails ends fate (GetItems name) = IsAppName ends name → fate ≡ failed → ⊥
NeverFails ends fate question = Unit {0}

abbrev pub IsNotRefused : List End → Asked → Type 0
IsNotRefused ends x = NeverFails ends x.fate x.question

abbrev pub NoneRefused : List Entry → World → Type 0
NoneRefused es w = Lives es → (k r : ℕ) (e : End) (h : Hearer) → end_at w.ends k ≡ Some e → e.who ≡ Reader r → e.role ≡ a_reader h → e.standing ≡ here → AllByRecursion (IsNotRefused w.ends) h.asked

-- HELD: where a call for the items of an application that is here was returned, the reader holds it
abbrev pub IsHeld : List End → Hearer → Asked → Type 0
IsHeld ends h x =
    (name : List ℕ) → x.question ≡ GetItems name → x.fate ≡ returned → (j a : ℕ) (d : End) → end_at ends j ≡ Some d → d.who ≡ App a → d.standing ≡ here → d.unique ≡ Some name
    → (k : Holding) × (holding_of a h.holds ≡ Some k)

abbrev pub AllHeld : List Entry → World → Type 0
AllHeld es w = Lives es → (k r : ℕ) (e : End) (h : Hearer) → end_at w.ends k ≡ Some e → e.who ≡ Reader r → e.role ≡ a_reader h → e.standing ≡ here → AllByRecursion (IsHeld w.ends h) h.asked

-- PARTS: where one was asked for since the application was loaded, of a node that was added, the call waits, or the part was told, or the tree has no node there that has it
abbrev pub HasNone : PartName → TreeRow → Type 0
HasNone Text row = row.contents.text ≡ None
HasNone Caret row = row.contents.text ≡ None
HasNone Columns row = row.contents.columns ≡ None

abbrev pub Lacks : Forest TreeRow → List ℕ → PartName → Type 0
Lacks f path part = AllByRecursion (λ (row : TreeRow). path_of row.shape.node ≡ path → HasNone part row) (labels f)

abbrev pub WaitsFor : Question → List Asked → Type 0
WaitsFor question [] = ⊥
WaitsFor question (x ∷ asked) = ((x.question ≡ question) × (x.fate ≡ waits)) ⊎ WaitsFor question asked

abbrev pub AllPartsTold : List Entry → World → Type 0
AllPartsTold es w =
    Lives es → Everywhere AsksOfNode es → (k r : ℕ) (e : End) (h : Hearer) → end_at w.ends k ≡ Some e → e.who ≡ Reader r → e.role ≡ a_reader h → e.standing ≡ here
    → (j a : ℕ) (d : End) (s : Exporter) (name : List ℕ) → end_at w.ends j ≡ Some d → d.who ≡ App a → d.role ≡ an_application s → d.standing ≡ here → d.unique ≡ Some name
    → (held : Holding) → holding_of a h.holds ≡ Some held → (path : List ℕ) (part : PartName) → IsPartAsked es r a name path part
    → WaitsFor (GetPart name path part) h.asked ⊎ ((is_refused held.told path part ≡ true) ⊎ Lacks s.tree path part)
