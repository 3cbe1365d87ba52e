-- THE FACTS BETWEEN THE PIECES of the proof that what is played is lawful. Each piece proves its own and uses those of the others as stated here.
use Rattle.std.proofs.Common.{◌≡◌, ◌⊎◌, ℕ, true, false, List, [], ◌∷◌, ◌++◌, length, map, Option, None, Some}
use Rattle.std.specs.Prelude.{bytes_eq, slice_get}
use Rattle.std.specs.List.{AllByRecursion, list_all, list_any}
use Rattle.atspi_base.specs.valid_names.Names.{is_bus_name}
use Rattle.atspi_tree_model.specs.declared.view.Row.{Row}
use Rattle.atspi_tree_model.specs.Forest.{Forest}
use Rattle.atspi_tree_model.specs.Path.{path_of}
use Rattle.atspi_script_lines.specs.declared.line.Line.{Line}
use Rattle.atspi_script_lines.specs.declared.line.Party.TheVariants.{App, Reader}
use Rattle.atspi_message.specs.Envelope.{Envelope}
use Rattle.atspi_match.specs.routing.Routing.{is_reply}
use Rattle.atspi_protocol.specs.declared.news.part.PartName.{PartName}
use Rattle.atspi_protocol.specs.declared.following.question.Question.{Question}
use Rattle.atspi_protocol.specs.declared.following.question.Question.TheVariants.{Hello, GetChildren, GetItems, GetPart}
use Rattle.atspi_protocol.specs.ends.Places.{bus}
use Rattle.atspi_protocol.specs.news.Arguments.{signature_of}
use Rattle.atspi_protocol.specs.news.NewsOf.{or_empty}
use Rattle.atspi_protocol.specs.news.Replies.{items_told}
use Rattle.atspi_protocol.specs.following.Known.{is_connection}
use Rattle.atspi_protocol.specs.following.ReaderState.{Followed, Pending, ReaderState, start_calls}
use Rattle.atspi_protocol.specs.following.Replied.{is_reply_to, may_answer, is_unique_name_alone, children_signature}
use Rattle.atspi_protocol.specs.following.Takes.{found_in}
use Rattle.atspi_protocol.specs.following.Wishes.{wishes}
use Rattle.atspi_trace.specs.Entry.{Entry, gone}
use Rattle.atspi_trace.specs.World.{here, Fate, waits, failed, Asked, Hearer, a_reader, End, World}
use Rattle.atspi_trace.specs.Ends.{end_at, reader_count}
use Rattle.atspi_trace.specs.Hearing.{is_answered, is_listening, is_registered}
use Rattle.atspi_trace.specs.Due.{begins, after_all, is_lost, Goes}
use Rattle.atspi_trace_laws.specs.laws.Words.{name_in}
use Rattle.atspi_trace_laws.specs.laws.NineLaws.{Everywhere}
use Rattle.atspi_trace_laws.specs.order.Scripts.{CanAllStand}
use Rattle.atspi_trace_caches.specs.caches.Caches.{followed}
use Rattle.atspi_trace_caches.specs.settled.Laws.{question_of, IsAsked, IsPartAsked, AsksOfNode}
use Rattle.atspi_trace_laws.proofs.OfOrder.Along.{Keeps}
use Rattle.atspi_trace.specs.play.Playing.{Playing}

-- THE GROUND (piece D gives it at each step): the trace so far is one of a script, all that was owed is written, what is kept along lawful traces holds of it and of the world
-- now, which may be further than the scene's by bytes that complete no message, and the registry is here
pub record Ground (script : List Line) (es : List Entry) (w : World) (free : Option ℕ) : Type 1 where
  pub can : CanAllStand script
  pub goes : Goes (begins script) es
  pub nothing_owed : (after_all (begins script) es).owing ≡ []
  pub kept : (Inv : List Entry → World → Option ℕ → Type 0) → Keeps Inv → Inv es w free
  pub here : is_lost w ≡ false

-- WHAT A REPLY TO AN OWN CALL IS (piece R). The letter is at the front of the reader's down link. Of each own call that it replies to: the call waits for it; it comes from who was called,
-- or from the bus; a call of the start is returned, Hello with a unique name and GetChildren with a list of references from who has a name; a return to a call for items tells items; and an
-- error to a call for items comes only where no application that is here has that name
pub record IsGone (w : World) (name : List ℕ) : Type 0 where
  pub nobody : (conn a : ℕ) (e : End) → end_at w.ends conn ≡ Some e → e.who ≡ App a → e.standing ≡ here → e.unique ≡ Some name → ⊥

abbrev pub IsReturnedWell : World → Envelope → Question → Type 0
IsReturnedWell w m Hello = (m.kind ≡ 2) × (is_unique_name_alone m.body ≡ true)
IsReturnedWell w m GetChildren = (m.kind ≡ 2) × (bytes_eq (signature_of m.body) children_signature ≡ true)
IsReturnedWell w m (GetItems name) = ((m.kind ≡ 2) × (bytes_eq (or_empty m.sender) bus ≡ false) × ((items_told m ≡ None) → ⊥)) ⊎ ((m.kind ≡ 3) × IsGone w name)
IsReturnedWell w m (GetPart name path part) = m.kind ≡ 2 → bytes_eq (or_empty m.sender) bus ≡ false
IsReturnedWell w m question = m.kind ≡ 2

pub record IsReplyWell (w : World) (m : Envelope) (a : Asked) : Type 0 where
  pub waited : a.fate ≡ waits
  pub from : may_answer a.question m ≡ true
  pub well : IsReturnedWell w m a.question

abbrev pub RepliesWell : World → Envelope → List Asked → Type 0
RepliesWell w m asked = is_reply m ≡ true → AllByRecursion (λ (a : Asked). is_reply_to a.serial m.reply ≡ true → IsReplyWell w m a) asked

-- and the serials of its own calls differ: of two of them, the later has the greater
abbrev pub AllBelow : ℕ → List Asked → Type 0
AllBelow n [] = Unit {0}
AllBelow n (a ∷ asked) = (bytes_eq (n ∷ []) (a.serial ∷ []) ≡ false) × AllBelow n asked

abbrev pub SerialsDiffer : List Asked → Type 0
SerialsDiffer [] = Unit {0}
SerialsDiffer (a ∷ asked) = AllBelow a.serial asked × SerialsDiffer asked

-- THE TIE OF A READER'S OWN STATE s TO WHAT THE LAWS OF TRACES SAY OF IT, h
-- 1. what it asked (piece E)
abbrev pub Waits : Option Pending → List Asked → Type 0
Waits None asked = list_all is_answered asked ≡ true
Waits (Some p) asked = (early : List Asked) × (asked ≡ early ++ record { serial = p.serial; question = p.question; fate = waits } ∷ []) × (list_all is_answered early ≡ true)

-- behind the start it asks of applications alone
abbrev pub IsLate : Question → Type 0
IsLate (GetItems name) = Unit {0}
IsLate (GetPart name path part) = Unit {0}
IsLate question = ⊥

abbrev pub InOrder : List Asked → List Question → Type 0
InOrder asked to_come = (late : List Question) × (map question_of asked ++ to_come ≡ start_calls ++ late) × AllByRecursion IsLate late

-- nothing is known of applications before the start is over but for GetChildren's return, and from there on all of the start were returned
pub record KnowsNothing (s : ReaderState) : Type 0 where
  pub registry : s.registry ≡ None
  pub apps : s.apps ≡ []

pub record IsStarted (s : ReaderState) (h : Hearer) : Type 0 where
  pub come : s.to_come ≡ []
  pub listening : is_listening h.asked ≡ true
  pub registered : is_registered h.asked ≡ true

pub record IsNamed (h : Hearer) (f : Followed) : Type 0 where
  pub bus_name : is_bus_name f.name ≡ true
  pub told : list_any (bytes_eq f.name) h.named ≡ true

abbrev pub AreDistinct : List Followed → Type 0
AreDistinct [] = Unit {0}
AreDistinct (f ∷ fs) = AllByRecursion (λ (g : Followed). bytes_eq g.name f.name ≡ false) fs × AreDistinct fs

-- while calls of the start are to come no other was asked, and none of the start that was answered was refused
abbrev pub IsStarting : List Asked → List Question → Type 0
IsStarting asked to_come = (to_come ≡ []) ⊎ (map question_of asked ++ to_come ≡ start_calls)

abbrev pub NeverFailed : Question → Fate → Type 0
NeverFailed (GetItems name) fate = Unit {0}
NeverFailed (GetPart name path part) fate = Unit {0}
NeverFailed question fate = fate ≡ failed → ⊥

pub record AsksWell (h : Hearer) (s : ReaderState) : Type 0 where
  pub next : s.next ≡ h.next
  pub silent : s.out ≡ []
  pub waiting : Waits s.pending h.asked
  pub order : InOrder h.asked s.to_come
  pub starting : IsStarting h.asked s.to_come
  pub returned : AllByRecursion (λ (a : Asked). NeverFailed a.question a.fate) h.asked
  pub started : KnowsNothing s ⊎ IsStarted s h
  pub registry : s.registry ≡ h.registry
  pub names : AllByRecursion (IsNamed h) s.apps
  pub distinct : AreDistinct s.apps

-- 2. what it sees (piece F): of each application, by its unique name, what it has is what the law about caches says; none is to be loaded anew; each that it knows is one, by the root's path
abbrev pub IsSeen : Option Followed → Followed → Type 0
IsSeen None f = f.view ≡ None
IsSeen (Some g) f = (g.view ≡ f.view) × (g.reload ≡ false)

pub record IsOfApp (es : List Entry) (g : Followed) : Type 0 where
  pub app : ℕ
  pub its_name : name_in es (App app) ≡ Some g.name
  pub root : g.root ≡ path_of 0

-- who was asked for items is known and not held, or its end was told since
abbrev pub IsGoneFor : List Entry → ℕ → ℕ → Type 0
IsGoneFor es r a = (xs ys : List Entry) × (es ≡ xs ++ gone r a ∷ ys)

abbrev pub IsAwaited : List Entry → ℕ → List ℕ → List Followed → Type 0
IsAwaited es r name apps =
    ((g : Followed) × (found_in name apps ≡ Some g) × (g.view ≡ None)) ⊎ ((found_in name apps ≡ None) × ((a : ℕ) × (name_in es (App a) ≡ Some name) × IsGoneFor es r a))

abbrev pub Awaits : List Entry → ℕ → Option Pending → List Followed → Type 0
Awaits es r pending apps = (p : Pending) → pending ≡ Some p → (name : List ℕ) → p.question ≡ GetItems name → IsAwaited es r name apps

-- no call of the start asks for items
abbrev pub NoItems : Question → Type 0
NoItems (GetItems name) = ⊥
NoItems question = Unit {0}

pub record SeesWell (es : List Entry) (r : ℕ) (s : ReaderState) : Type 0 where
  pub seen : (name : List ℕ) (a : ℕ) → name_in es (App a) ≡ Some name → IsSeen (found_in name s.apps) (followed name es r a)
  pub apps : AllByRecursion (IsOfApp es) s.apps
  pub asking : Awaits es r s.pending s.apps
  pub to_come : AllByRecursion NoItems s.to_come
  -- of one that has no name yet it has nothing
  pub unnamed : (a : ℕ) → name_in es (App a) ≡ None → (name : List ℕ) → (followed name es r a).view ≡ None

-- 3. what it wants (piece Q): each part that it gave up was asked for since the load; what it holds was asked for; and each name that it was told of is known, or was asked for, or is gone
pub record WantsOf (es : List Entry) (r : ℕ) (h : Hearer) (g : Followed) : Type 0 where
  pub parts : (a : ℕ) → name_in es (App a) ≡ Some g.name → AllByRecursion (λ (x : List ℕ × PartName). IsPartAsked es r a g.name x.0 x.1) g.refused
  pub held : (v : Forest Row) → g.view ≡ Some v → IsAsked (GetItems g.name) h.asked

abbrev pub IsKnownOrGone : World → ReaderState → Hearer → List ℕ → Type 0
IsKnownOrGone w s h name = ((g : Followed) × (found_in name s.apps ≡ Some g)) ⊎ (IsAsked (GetItems name) h.asked ⊎ IsGone w name)

-- a part that it waits for was asked for since the load
abbrev pub PartWaits : List Entry → ℕ → Option Pending → Type 0
PartWaits es r pending =
    (p : Pending) → pending ≡ Some p → (name path : List ℕ) (part : PartName) → p.question ≡ GetPart name path part → (a : ℕ) × (name_in es (App a) ≡ Some name) × IsPartAsked es r a name path part

pub record WantsWell (es : List Entry) (w : World) (r : ℕ) (h : Hearer) (s : ReaderState) : Type 0 where
  pub each : AllByRecursion (WantsOf es r h) s.apps
  pub named : AllByRecursion (λ name. is_connection name ≡ true → IsKnownOrGone w s h name) h.named
  pub asking : PartWaits es r s.pending
  -- where no call is in flight, nothing is left to be asked
  pub idle : s.pending ≡ None → (s.to_come ≡ []) × (wishes s.apps ≡ [])

pub record Tied (es : List Entry) (w : World) (r : ℕ) (h : Hearer) (s : ReaderState) : Type 0 where
  pub asks : AsksWell h s
  pub sees : SeesWell es r s
  pub wants : WantsWell es w r h s

-- ALL ARE TIED, each reader of the world to the state with its number, and there are no others; and what parts were asked for is of nodes
pub record AllTied (es : List Entry) (p : Playing) : Type 0 where
  pub tied : (conn r : ℕ) (e : End) → end_at p.world.ends conn ≡ Some e → e.who ≡ Reader r → (h : Hearer) × (e.role ≡ a_reader h) × ((s : ReaderState) × (slice_get p.readers r ≡ Some s) × Tied es p.world r h s)
  pub count : reader_count p.world.ends ≡ length p.readers
  pub of_nodes : Everywhere AsksOfNode es
