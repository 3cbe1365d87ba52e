-- A reader takes a letter: what is known of it, and that each child which it tells of is the root of an application.
use Rattle.std.proofs.Common.{◌≡◌, ℕ, Bool, true, false, List, [], ◌∷◌, ◌++◌, map, Option, None, Some, refl, sym, ap, ◌∙◌, subst}
use Rattle.std.specs.Prelude.{◌==◌, ◌&&◌, bytes_eq, codes, if◌then◌else◌}
use Rattle.std.specs.List.{AllByRecursion}
use Rattle.std.proofs.lemmas.Bool.{eqb-true}
use Rattle.std.proofs.lemmas.Slice.Eq.{bytes_eq-Decides}
use Rattle.atspi_types.specs.Data.{Data}
use Rattle.atspi_tree_model.specs.declared.news.Reference.{Reference}
use Rattle.atspi_tree_model.specs.Path.{path_of}
use Rattle.atspi_script_lines.specs.declared.line.Line.{Line}
use Rattle.atspi_script_lines.specs.declared.line.Party.{Party}
use Rattle.atspi_script_lines.specs.declared.line.Party.TheVariants.{Bus as The_bus, Registry, App, Reader}
use Rattle.atspi_message.specs.Envelope.{Envelope}
use Rattle.atspi_protocol.specs.ends.Places.{bus}
use Rattle.atspi_protocol.specs.declared.following.question.Question.{Question}
use Rattle.atspi_protocol.specs.declared.following.question.Question.TheVariants.{Hello, AddMatch, RegisterEvent, GetChildren, GetItems, GetPart}
use Rattle.atspi_protocol.specs.news.Arguments.{event_in}
use Rattle.atspi_protocol.specs.news.NewsOf.{event_interface, or_empty}
use Rattle.atspi_protocol.specs.news.Replies.{elements_of}
use Rattle.atspi_protocol.specs.following.ReaderState.{ReaderState, begins}
use Rattle.atspi_protocol.specs.following.Known.{unasked, references_among, child_added, is_from, new_child}
use Rattle.atspi_trace.specs.Entry.{Entry, got}
use Rattle.atspi_trace.specs.World.{here, a_reader, Hearer, Letter, End, World}
use Rattle.atspi_trace.specs.Ends.{end_at}
use Rattle.atspi_trace.specs.Hearing.{question_returned, child_name, names_told, registry_after, hears_letter, heard_entries}
use Rattle.atspi_trace_laws.specs.laws.Words.{messages, message}
use Rattle.atspi_trace_laws.proofs.OfOrder.Parties.{no_none, same_some, false_true, all_back}
use Rattle.atspi_trace_laws.proofs.OfNames.Places.{told_is}
use Rattle.atspi_trace_laws.proofs.OfSigned.Mail.{NameIs, name_more}
use Rattle.atspi_trace_caches.proofs.OfServed.ListingTold.{Embedded, HasHeard}
use Rattle.atspi_trace_caches.proofs.OfServed.Spelling.{all_found}
use Rattle.atspi_trace_caches.proofs.OfSettled.Settling_ground as under
use Rattle.atspi_trace_played.proofs.Facts.{Ground, RepliesWell, AsksWell, SeesWell, IsOfApp}
use Rattle.atspi_trace_played.proofs.SeeingGround.{shape, its, live, no_bus_name, one_party, Sender, of_bus, of_end, sender}

-- CHILDREN by the paths of their roots, as the registry tells of them
abbrev pub RootsOnly : List Data → Type 0
RootsOnly body =
    AllByRecursion (λ (root : Reference). root.path ≡ path_of 0) (references_among (elements_of body)) × ((root : Reference) → child_added (event_in body) ≡ Some root → root.path ≡ path_of 0)

abbrev pub RootsAreTold : List Entry → Type 0
RootsAreTold es = AllByRecursion (λ (m : Envelope). RootsOnly m.body) (messages es Registry)

-- A READER TAKES A LETTER, in a world that stands before and behind it
abbrev pub took : ℕ → Hearer → List End → Letter → List Entry
took r h ends letter = got (Reader r) letter.from letter.said.message.serial ∷ heard_entries r h ends letter

pub record Taking (script : List Line) (es : List Entry) (w : World) (r : ℕ) (h : Hearer) (letter : Letter) (s : ReaderState) : Type 1 where
  pub ground : Ground script es w None
  pub conn : ℕ
  pub e : End
  pub rest : List Letter
  pub there : end_at w.ends conn ≡ Some e
  pub whose : e.who ≡ Reader r
  pub standing : e.standing ≡ here
  pub role : e.role ≡ a_reader h
  pub link : e.down ≡ letter ∷ rest
  pub after : World
  pub free : Option ℕ
  pub behind : Ground script (es ++ took r h w.ends letter) after free
  pub place : ℕ
  pub end : End
  pub stands : end_at after.ends place ≡ Some end
  pub hears : end.role ≡ a_reader (hears_letter h w.ends letter)
  pub asks : AsksWell h s
  pub sees : SeesWell es r s
  pub replies : RepliesWell w letter.said.message h.asked
  pub roots : RootsAreTold es

module _ (script : List Line) (es : List Entry) (w : World) (r : ℕ) (h : Hearer) (letter : Letter) (s : ReaderState) (t : Taking script es w r h letter s) where
  abbrev pub m : Envelope
  m = letter.said.message

  abbrev pub later : List Entry
  later = es ++ took r h w.ends letter

  abbrev pub q : Option Question
  q = question_returned m h.asked

  pub from : Sender es letter
  from = sender script es w None t.ground t.conn t.e letter t.rest t.there t.standing t.link

  heard : HasHeard es h
  heard = ((its script es w None t.ground).listed (live script es w None t.ground)).readers t.conn t.e h t.there t.role

  heard_now : HasHeard later (hears_letter h w.ends letter)
  heard_now = ((its script later t.after t.free t.behind).listed (live script later t.after t.free t.behind)).readers t.place t.end (hears_letter h w.ends letter) t.stands t.hears

  -- who is the registry by name is it
  by_registry : (caller : List ℕ) → m.sender ≡ Some caller → NameIs later Registry caller → letter.from ≡ Registry
  by_registry caller is n = by from
    where
      by : Sender es letter → letter.from ≡ Registry
      by (of_bus f empty some) = absurd (no_bus_name script later t.after t.free t.behind Registry caller n (same_some bus caller (sym some ∙ is)))
      by (of_end name some named apart c) =
          one_party script later t.after t.free t.behind letter.from Registry caller (name_more es (took r h w.ends letter) letter.from caller (subst (NameIs es letter.from) (same_some name caller (sym some ∙ is)) named)) n

  -- so its body is one of the registry's
  its_body : letter.from ≡ Registry → RootsOnly m.body
  its_body is = by from
    where
      by : Sender es letter → RootsOnly m.body
      by (of_bus f empty some) = other The_bus (sym f ∙ is)
        where
          other : (p : Party) → The_bus ≡ Registry → RootsOnly m.body
          other p same = absurd (false_true (ap (λ z. Rattle.atspi_trace.specs.Ends.same_party z Registry) same))
      by (of_end name some named apart c) =
          let found : message es Registry m.serial ≡ Some c.first = ap (λ p. message es p m.serial) (sym is) ∙ c.was in
          subst (λ (z : Envelope). RootsOnly z.body) (sym c.alike) (all_found (λ (z : Envelope). RootsOnly z.body) m.serial (messages es Registry) c.first t.roots found)

  -- and whom it names is an application
  an_app : (root : Reference) → Embedded later root.bus → root.path ≡ path_of 0 → IsOfApp later (unasked root)
  an_app root i path =
      let x = under.embedded_app later t.after (shape script later t.after t.free t.behind) (its script later t.after t.free t.behind) root.bus i in
      record { app = x.0; its_name = told_is later (App x.0) ∙ x.1; root = path }

  all_apps : (roots : List Reference) → AllByRecursion (Embedded later) (map (λ (root : Reference). root.bus) roots) → AllByRecursion (λ (root : Reference). root.path ≡ path_of 0) roots
      → AllByRecursion (λ root. IsOfApp later (unasked root)) roots
  all_apps [] a b = tt
  all_apps (root ∷ roots) a b = (an_app root a.0 b.0, all_apps roots a.1 b.1)

  told_now : AllByRecursion (Embedded later) (names_told h m q)
  told_now = all_back (Embedded later) h.named (names_told h m q) heard_now.named

  -- THE REGISTRY'S CHILDREN, returned
  pub children_from : (caller : List ℕ) → q ≡ Some GetChildren → m.sender ≡ Some caller → letter.from ≡ Registry
  children_from caller asks is = by_registry caller is (heard_now.registry caller (ap (registry_after h m) asks ∙ is))

  pub children_from_registry : q ≡ Some GetChildren → letter.from ≡ Registry
  children_from_registry asks = by from
    where
      by : Sender es letter → letter.from ≡ Registry
      by (of_bus f empty some) = children_from bus asks some
      by (of_end name some named apart c) = children_from name asks some

  pub children_fit : q ≡ Some GetChildren → AllByRecursion (λ root. IsOfApp later (unasked root)) (references_among (elements_of m.body))
  children_fit asks =
      all_apps (references_among (elements_of m.body)) (subst (AllByRecursion (Embedded later)) (ap (names_told h m) asks) told_now) (its_body (children_from_registry asks)).0

  -- A CHILD THAT WAS ADDED
  is_child : (registry : Option (List ℕ)) → Option Reference
  is_child registry = new_child (record begins { registry = registry }) m

  abbrev Added : Option (List ℕ) → Reference → Type 0
  Added registry root = (m.kind ≡ 4) × ((n : List ℕ) × (registry ≡ Some n) × (or_empty m.sender ≡ n)) × (child_added (event_in m.body) ≡ Some root)

  added : (registry : Option (List ℕ)) (root : Reference) → new_child (record begins { registry = registry }) m ≡ Some root → Added registry root
  added registry root k = by (m.kind == 4) refl (is_from registry m) refl (bytes_eq (or_empty m.interface) event_interface && bytes_eq (or_empty m.member) (codes "ChildrenChanged")) k
    where
      sent_by : (o : Option (List ℕ)) → is_from o m ≡ true → (n : List ℕ) × (o ≡ Some n) × (or_empty m.sender ≡ n)
      sent_by None x = absurd (false_true x)
      sent_by (Some n) x = (n, refl, (bytes_eq-Decides (or_empty m.sender) n).0 x)

      by : (a : Bool) → (m.kind == 4) ≡ a → (b : Bool) → is_from registry m ≡ b → (c : Bool) → (if a && (b && c) then child_added (event_in m.body) else None) ≡ Some root → Added registry root
      by true x true y true z = (eqb-true m.kind 4 x, sent_by registry y, z)
      by true x true y false z = absurd (no_none root z)
      by true x false y c z = absurd (no_none root z)
      by false x b y c z = absurd (no_none root z)

  names_plain : (p : Option Question) → (p ≡ Some GetChildren → ⊥) → names_told h m p ≡ child_name (new_child (record begins { registry = h.registry }) m)
  names_plain (Some GetChildren) ne = absurd (ne refl)
  names_plain (Some Hello) ne = refl
  names_plain (Some (AddMatch rule)) ne = refl
  names_plain (Some (RegisterEvent pattern)) ne = refl
  names_plain (Some (GetItems name)) ne = refl
  names_plain (Some (GetPart name path part)) ne = refl
  names_plain None ne = refl

  sender_is : (n : List ℕ) → or_empty m.sender ≡ n → m.sender ≡ Some n
  sender_is n h = by from
    where
      by : Sender es letter → m.sender ≡ Some n
      by (of_bus f empty some) = some ∙ ap Some (sym (ap or_empty some) ∙ h)
      by (of_end name some named apart c) = some ∙ ap Some (sym (ap or_empty some) ∙ h)

  pub child_from : (root : Reference) → new_child (record begins { registry = h.registry }) m ≡ Some root → letter.from ≡ Registry
  child_from root k =
      let a = added h.registry root k in
      by_registry a.1.0 (sender_is a.1.0 a.1.2) (name_more es (took r h w.ends letter) Registry a.1.0 (heard.registry a.1.0 a.1.1))

  pub child_fits : (root : Reference) → (q ≡ Some GetChildren → ⊥) → new_child (record begins { registry = h.registry }) m ≡ Some root → IsOfApp later (unasked root)
  child_fits root ne k =
      an_app root (subst (AllByRecursion (Embedded later)) (names_plain q ne ∙ ap child_name k) told_now).0 ((its_body (child_from root k)).1 root (added h.registry root k).2)

  pub child_is_signal : (registry : Option (List ℕ)) (root : Reference) → new_child (record begins { registry = registry }) m ≡ Some root → m.kind ≡ 4
  child_is_signal registry root k = (added registry root k).0
