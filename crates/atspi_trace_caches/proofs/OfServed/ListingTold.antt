-- The names that a reader was told as those of applications, along a lawful trace: each is the name of one that asked to be embedded, and the reader takes only the registry for the registry.
use Rattle.std.proofs.Common.{◌≡◌, ◌⊎◌, inl, inr, ℕ, zero, suc, ◌≤◌, Bool, true, false, List, [], ◌∷◌, ◌++◌, length, map, Option, None, Some, refl, sym, ap, ◌∙◌, subst}
use Rattle.std.specs.Prelude.{◌==◌, ◌&&◌, bytes_eq, codes, if◌then◌else◌}
use Rattle.std.specs.List.{AllByRecursion}
use Rattle.std.proofs.lemmas.Bool.{eqb-true}
use Rattle.std.proofs.lemmas.Slice.Eq.{bytes_eq-Decides}
use Rattle.atspi_types.specs.Data.{Data}
use Rattle.atspi_base.specs.valid_names.Names.{is_unique_name}
use Rattle.atspi_tree_model.specs.declared.news.Reference.{Reference}
use Rattle.atspi_script_lines.specs.declared.line.Party.{Party}
use Rattle.atspi_script_lines.specs.declared.line.Party.TheVariants.{Bus as The_bus, Registry}
use Rattle.atspi_message.specs.Envelope.{Envelope}
use Rattle.atspi_names.specs.Owners.{own_name}
use Rattle.atspi_match.specs.routing.Members.{is_text}
use Rattle.atspi_protocol.specs.registering.RegistryState.{RegistryState}
use Rattle.atspi_protocol.specs.news.Arguments.{event_in}
use Rattle.atspi_protocol.specs.news.NewsOf.{event_interface, or_empty}
use Rattle.atspi_protocol.specs.news.Replies.{elements_of}
use Rattle.atspi_protocol.specs.following.Known.{references_among, child_added, is_from, new_child}
use Rattle.atspi_protocol.specs.following.ReaderState.{begins as begins_reader}
use Rattle.atspi_protocol.specs.following.Replied.{is_reply_to}
use Rattle.atspi_protocol.specs.declared.following.question.Question.{Question}
use Rattle.atspi_protocol.specs.declared.following.question.Question.TheVariants.{Hello, AddMatch, RegisterEvent, GetChildren, GetItems, GetPart}
use Rattle.atspi_trace.specs.Entry.{Entry}
use Rattle.atspi_trace.specs.World.{Asked, Role, the_registry, a_reader, Hearer, Said, Letter, first_registry, first_world, End, World}
use Rattle.atspi_trace.specs.Ends.{same_party, end_at}
use Rattle.atspi_trace.specs.Hearing.{question_returned, child_name, names_told, registry_after, hears_letter}
use Rattle.atspi_trace_laws.specs.laws.Words.{messages, message, with_serial}
use Rattle.atspi_trace_laws.proofs.OfOrder.Parties.{no_none, same_some, false_true, all_append}
use Rattle.atspi_trace_laws.proofs.OfOrder.Frame.{Over, IsOrder, joined_cases}
use Rattle.atspi_trace_laws.proofs.OfOrder.Each.{all_map}
use Rattle.atspi_trace_laws.proofs.OfSerials.Serial.{messages_more}
use Rattle.atspi_trace_laws.proofs.OfTaken.Found.{found_more}
use Rattle.atspi_trace_laws.proofs.OfNames.Places.{greeted}
use Rattle.atspi_trace_laws.proofs.OfSigned.Mail.{NameIs, name_more, IsMail}
use Rattle.atspi_trace_laws.proofs.OfSigned.Self.{unique_told, one_named}
use Rattle.atspi_trace_laws.proofs.OfMissed.Registering.{NotRegistry, none_sent}
use Rattle.atspi_trace_laws.proofs.OfMissed.Telling.{and_left, and_right}
use Rattle.atspi_trace_caches.proofs.OfServed.Listing.{NamesOnly, NamesIn, AreKnown}

-- WHOEVER HAS A NAME asked to be embedded
pub record Embedded (es : List Entry) (name : List ℕ) : Type 0 where
  pub who : Party
  pub has : NameIs es who name
  pub call : Envelope
  pub serial : ℕ
  pub was : message es who serial ≡ Some call
  pub is_call : call.kind ≡ 1
  pub member : call.member ≡ Some (codes "Embed")

pub embedded_more : (es ys : List Entry) (name : List ℕ) → Embedded es name → Embedded (es ++ ys) name
embedded_more es ys name i = record {
  who = i.who;
  has = name_more es ys i.who name i.has;
  call = i.call;
  serial = i.serial;
  was = found_more es ys i.who i.serial i.call i.was;
  is_call = i.is_call;
  member = i.member;
}

-- WHAT IS KEPT: the registry's messages name only such, so do its children; and what a reader was told
pub record HasHeard (es : List Entry) (h : Hearer) : Type 0 where
  pub registry : (name : List ℕ) → h.registry ≡ Some name → NameIs es Registry name
  pub named : AllByRecursion (Embedded es) h.named

pub record Listed (es : List Entry) (w : World) : Type 0 where
  pub told : NamesIn (Embedded es) (messages es Registry)
  pub children : (k : ℕ) (e : End) (s : RegistryState) → end_at w.ends k ≡ Some e → e.role ≡ the_registry s → AreKnown (Embedded es) s.children
  pub readers : (k : ℕ) (e : End) (h : Hearer) → end_at w.ends k ≡ Some e → e.role ≡ a_reader h → HasHeard es h

-- more entries
names_more : (es ys : List Entry) (body : List Data) → NamesOnly (Embedded es) body → NamesOnly (Embedded (es ++ ys)) body
names_more es ys body n = (
  all_map (λ (root : Reference). Embedded es root.bus) (λ (root : Reference). Embedded (es ++ ys) root.bus) (references_among (elements_of body)) (λ root i. embedded_more es ys root.bus i) n.0,
  λ root h. embedded_more es ys root.bus (n.1 root h),
)

all_names_more : (es ys : List Entry) (ms : List Envelope) → NamesIn (Embedded es) ms → NamesIn (Embedded (es ++ ys)) ms
all_names_more es ys ms a = all_map (λ (m : Envelope). NamesOnly (Embedded es) m.body) (λ (m : Envelope). NamesOnly (Embedded (es ++ ys)) m.body) ms (λ m n. names_more es ys m.body n) a

pub known_more : (es ys : List Entry) (children : List (List ℕ × List ℕ)) → AreKnown (Embedded es) children → AreKnown (Embedded (es ++ ys)) children
known_more es ys children a =
    all_map (λ (child : List ℕ × List ℕ). Embedded es child.0) (λ (child : List ℕ × List ℕ). Embedded (es ++ ys) child.0) children (λ child i. embedded_more es ys child.0 i) a

pub heard_more : (es ys : List Entry) (h g : Hearer) → h.registry ≡ g.registry → h.named ≡ g.named → HasHeard es g → HasHeard (es ++ ys) h
heard_more es ys h g registry named i = record {
  registry = λ name is. name_more es ys Registry name (i.registry name (sym registry ∙ is));
  named = subst (AllByRecursion (Embedded (es ++ ys))) (sym named) (all_map (Embedded es) (Embedded (es ++ ys)) g.named (embedded_more es ys) i.named);
}

-- what the registry told, where it sends more
pub told_more : (es ys : List Entry) → NamesIn (Embedded es) (messages es Registry) → NamesIn (Embedded (es ++ ys)) (messages ys Registry) → NamesIn (Embedded (es ++ ys)) (messages (es ++ ys) Registry)
told_more es ys a b =
    subst (NamesIn (Embedded (es ++ ys))) (sym (messages_more es ys Registry))
    (all_append (λ (m : Envelope). NamesOnly (Embedded (es ++ ys)) m.body) (messages es Registry) (messages ys Registry) (all_names_more es ys (messages es Registry) a) b)

pub told_as_before : (es ys : List Entry) → NamesIn (Embedded es) (messages es Registry) → AllByRecursion NotRegistry ys → NamesIn (Embedded (es ++ ys)) (messages (es ++ ys) Registry)
told_as_before es ys a quiet = told_more es ys a (subst (NamesIn (Embedded (es ++ ys))) (sym (none_sent ys quiet)) tt)

-- ENDS THAT KNOW THE SAME
abbrev pub SameChildren : End → End → Type 0
SameChildren e d = (s : RegistryState) → d.role ≡ the_registry s → e.role ≡ the_registry s

abbrev pub SameHeard : End → End → Type 0
SameHeard e d = (h : Hearer) → d.role ≡ a_reader h → (g : Hearer) × (e.role ≡ a_reader g) × (h.registry ≡ g.registry) × (h.named ≡ g.named)

abbrev pub SameBoth : End → End → Type 0
SameBoth e d = SameChildren e d × SameHeard e d

pub same_children : IsOrder SameChildren
same_children = record { same = λ e s role. role; both = λ e d c f g s role. f s (g s role) }

pub same_heard : IsOrder SameHeard
same_heard = record {
  same = λ e h role. (h, role, refl, refl);
  both = λ e d c f g h role. let x = g h role in let y = f x.0 x.1 in (y.0, y.1, x.2 ∙ y.2, x.3 ∙ y.3);
}

pub same_both : IsOrder SameBoth
same_both = record {
  same = λ e. (same_children.same e, same_heard.same e);
  both = λ e d c f g. (same_children.both e d c f.0 g.0, same_heard.both e d c f.1 g.1);
}

-- an end with the same role knows the same
pub alike : (e d : End) → d.role ≡ e.role → SameBoth e d
alike e d same = (λ s role. sym same ∙ role, λ h role. (h, sym same ∙ role, refl, refl))

abbrev is_registry_role : Role → Bool
is_registry_role (the_registry s) = true
is_registry_role role = false

abbrev pub is_reader_role : Role → Bool
is_reader_role (a_reader h) = true
is_reader_role role = false

pub no_registry : (e d : End) → is_registry_role d.role ≡ false → SameChildren e d
no_registry e d none s role = absurd (false_true (sym none ∙ ap is_registry_role role))

pub no_reader : (e d : End) → is_reader_role d.role ≡ false → SameHeard e d
no_reader e d none h role = absurd (false_true (sym none ∙ ap is_reader_role role))

pub children_over : (es ys : List Entry) (w v : World) → Listed es w → Over SameChildren w.ends v.ends → (k : ℕ) (e : End) (s : RegistryState) → end_at v.ends k ≡ Some e → e.role ≡ the_registry s → AreKnown (Embedded (es ++ ys)) s.children
children_over es ys w v i o k e s there role = let x = o.back k e there in known_more es ys s.children (i.children k x.0 s x.1 (x.2 s role))

pub readers_over : (es ys : List Entry) (w v : World) → Listed es w → Over SameHeard w.ends v.ends → (k : ℕ) (e : End) (h : Hearer) → end_at v.ends k ≡ Some e → e.role ≡ a_reader h → HasHeard (es ++ ys) h
readers_over es ys w v i o k e h there role =
    let x = o.back k e there in
    let g = x.2 h role in
    heard_more es ys h g.0 g.2 g.3 (i.readers k x.0 g.0 x.1 g.1)

first_over : (a b : List End) → Over SameBoth a b → Over SameChildren a b
first_over a b o = record { size = o.size; back = λ k d there. let x = o.back k d there in (x.0, x.1, x.2.0) }

second_over : (a b : List End) → Over SameBoth a b → Over SameHeard a b
second_over a b o = record { size = o.size; back = λ k d there. let x = o.back k d there in (x.0, x.1, x.2.1) }

pub quiet_listed : (es ys : List Entry) (w v : World) → Listed es w → Over SameBoth w.ends v.ends → AllByRecursion NotRegistry ys → Listed (es ++ ys) v
quiet_listed es ys w v i o quiet = record {
  told = told_as_before es ys i.told quiet;
  children = children_over es ys w v i (first_over w.ends v.ends o);
  readers = readers_over es ys w v i (second_over w.ends v.ends o);
}

-- an end joins that knows nobody
pub joined_listed : (es ys : List Entry) (w v : World) (nu : End) → Listed es w → v.ends ≡ w.ends ++ nu ∷ [] → is_registry_role nu.role ≡ false → ((h : Hearer) → nu.role ≡ a_reader h → HasHeard (es ++ ys) h)
    → AllByRecursion NotRegistry ys → Listed (es ++ ys) v
joined_listed es ys w v nu i is none new quiet = record {
  told = told_as_before es ys i.told quiet;
  children = λ k e s there role. child k e s role (joined_cases w.ends nu k e (ap (λ l. end_at l k) (sym is) ∙ there));
  readers = λ k e h there role. reader k e h role (joined_cases w.ends nu k e (ap (λ l. end_at l k) (sym is) ∙ there));
}
  where
    child : (k : ℕ) (e : End) (s : RegistryState) → e.role ≡ the_registry s → (end_at w.ends k ≡ Some e) ⊎ ((k ≡ length w.ends) × (e ≡ nu)) → AreKnown (Embedded (es ++ ys)) s.children
    child k e s role (inl there) = known_more es ys s.children (i.children k e s there role)
    child k e s role (inr h) = absurd (false_true (sym none ∙ ap is_registry_role (ap (λ (x : End). x.role) (sym h.1) ∙ role)))

    reader : (k : ℕ) (e : End) (h : Hearer) → e.role ≡ a_reader h → (end_at w.ends k ≡ Some e) ⊎ ((k ≡ length w.ends) × (e ≡ nu)) → HasHeard (es ++ ys) h
    reader k e h role (inl there) = heard_more es ys h h refl refl (i.readers k e h there role)
    reader k e h role (inr same) = new h (ap (λ (x : End). x.role) (sym same.1) ∙ role)

-- at the beginning, and where the quota is another, only the registry is there, which knows nobody
first_only : (k : ℕ) (e : End) → end_at (first_registry ∷ []) k ≡ Some e → e ≡ first_registry
first_only zero e h = sym (same_some first_registry e h)
first_only (suc k) e h = absurd (no_none e h)

abbrev children_in : Role → List (List ℕ × List ℕ)
children_in (the_registry s) = s.children
children_in role = []

pub first_listed : (es : List Entry) (quota : ℕ) → NamesIn (Embedded es) (messages es Registry) → Listed es (first_world quota)
first_listed es quota told = record {
  told = told;
  children = λ k e s there role. subst (AreKnown (Embedded es)) (ap children_in (ap (λ (x : End). x.role) (sym (first_only k e there)) ∙ role)) tt;
  readers = λ k e h there role. absurd (false_true (ap is_reader_role (ap (λ (x : End). x.role) (sym (first_only k e there)) ∙ role)));
}

-- A READER TAKES A MESSAGE
-- what is said of the call that a return answers
pub question_of_call : (P : Asked → Type 0) (m : Envelope) (asked : List Asked) (question : Question) → AllByRecursion P asked → question_returned m asked ≡ Some question
    → (a : Asked) × P a × (a.question ≡ question) × (m.kind ≡ 2) × (m.reply ≡ Some a.serial)
question_of_call P m [] question all h = absurd (no_none question h)
question_of_call P m (a ∷ asked) question all h = by (m.kind == 2 && is_reply_to a.serial m.reply) refl h (λ g. question_of_call P m asked question all.1 g)
  where
    reply_is : (o : Option ℕ) → is_reply_to a.serial o ≡ true → o ≡ Some a.serial
    reply_is None g = absurd (false_true g)
    reply_is (Some n) g = ap Some (eqb-true n a.serial g)

    by : (b : Bool) → (m.kind == 2 && is_reply_to a.serial m.reply) ≡ b → (if b then Some a.question else question_returned m asked) ≡ Some question
        → (question_returned m asked ≡ Some question → (x : Asked) × P x × (x.question ≡ question) × (m.kind ≡ 2) × (m.reply ≡ Some x.serial)) → (x : Asked) × P x × (x.question ≡ question) × (m.kind ≡ 2) × (m.reply ≡ Some x.serial)
    by true g k f =
        (a, all.0, same_some a.question question k, eqb-true m.kind 2 (and_left (m.kind == 2) (is_reply_to a.serial m.reply) g), reply_is m.reply (and_right (m.kind == 2) (is_reply_to a.serial m.reply) g))
    by false g k f = f k

-- a message that was sent
with_found : (P : Envelope → Type 0) (serial : ℕ) (ms : List Envelope) (m : Envelope) → AllByRecursion P ms → with_serial serial ms ≡ Some m → P m
with_found P serial [] m a h = absurd (no_none m h)
with_found P serial (x ∷ xs) m a h = by (x.serial == serial) h (λ g. with_found P serial xs m a.1 g)
  where
    by : (b : Bool) → (if b then Some x else with_serial serial xs) ≡ Some m → (with_serial serial xs ≡ Some m → P m) → P m
    by true k f = subst P (same_some x m k) a.0
    by false k f = f k

own_is_plain : is_unique_name own_name ≡ false
own_is_plain = refl

module _ (es : List Entry) (who : Party) (h : Hearer) (ends : List End) (letter : Letter) (few : length (greeted es) ≤ 1000) (mail : IsMail es who letter) (told : NamesIn (Embedded es) (messages es Registry)) (old : HasHeard es h)
    (returned_by : question_returned letter.said.message h.asked ≡ Some GetChildren → letter.from ≡ Registry) where
  abbrev m : Envelope
  m = letter.said.message

  bus_apart : letter.from ≡ The_bus → letter.from ≡ Registry → ⊥
  bus_apart bus it = false_true (ap (λ p. same_party p Registry) (sym bus ∙ it))

  -- what comes of the registry bears its name, and names only such
  of_registry : letter.from ≡ Registry → (name : List ℕ) × (m.sender ≡ Some name) × NameIs es Registry name × NamesOnly (Embedded es) m.body
  of_registry it = by mail
    where
      by : IsMail es who letter → (name : List ℕ) × (m.sender ≡ Some name) × NameIs es Registry name × NamesOnly (Embedded es) m.body
      by (inl b) = absurd (bus_apart b.from it)
      by (inr p) = (
        p.caller,
        p.sender,
        subst (λ q. NameIs es q p.caller) it p.name,
        subst (NamesOnly (Embedded es)) (sym (ap (λ (z : Said). z.message.body) p.alike))
            (with_found (λ (x : Envelope). NamesOnly (Embedded es) x.body) p.first.message.serial (messages es Registry) p.first.message told (subst (λ q. message es q p.first.message.serial ≡ Some p.first.message) it p.sent_.was)),
      )

  -- who bears the name that the reader takes for the registry's is the registry
  bears : (name : List ℕ) → NameIs es Registry name → bytes_eq (or_empty m.sender) name ≡ true → letter.from ≡ Registry
  bears name has is = by mail
    where
      same : or_empty m.sender ≡ name
      same = (bytes_eq-Decides (or_empty m.sender) name).0 is

      of_bus : (o : Option (List ℕ)) → is_text o own_name ≡ true → or_empty o ≡ name → ⊥
      of_bus None own at = false_true own
      of_bus (Some text) own at = false_true (sym own_is_plain ∙ ap is_unique_name (sym ((bytes_eq-Decides text own_name).0 own) ∙ at) ∙ unique_told es Registry name has)

      by : IsMail es who letter → letter.from ≡ Registry
      by (inl b) = absurd (of_bus m.sender b.own same)
      by (inr p) = one_named es letter.from Registry name few (subst (NameIs es letter.from) (ap or_empty (sym p.sender) ∙ same) p.name) has

  -- the child of which it tells
  abbrev answers_new : Bool
  answers_new = m.kind == 4 && (is_from h.registry m && (bytes_eq (or_empty m.interface) event_interface && bytes_eq (or_empty m.member) (codes "ChildrenChanged")))

  child_named : AllByRecursion (Embedded es) (child_name (new_child (record begins_reader { registry = h.registry }) m))
  child_named = by answers_new refl
    where
      one : (o : Option Reference) → ((root : Reference) → o ≡ Some root → Embedded es root.bus) → AllByRecursion (Embedded es) (child_name o)
      one None f = tt
      one (Some root) f = (f root refl, tt)

      from : (o : Option (List ℕ)) → h.registry ≡ o → is_from o m ≡ true → letter.from ≡ Registry
      from None is g = absurd (false_true g)
      from (Some name) is g = bears name (old.registry name is) g

      by : (b : Bool) → answers_new ≡ b → AllByRecursion (Embedded es) (child_name (if b then child_added (event_in m.body) else None))
      by true g =
          let its = and_left (is_from h.registry m) (bytes_eq (or_empty m.interface) event_interface && bytes_eq (or_empty m.member) (codes "ChildrenChanged")) (and_right (m.kind == 4) _ g) in
          one (child_added (event_in m.body)) (of_registry (from h.registry refl its)).3.1
      by false g = tt

  listed_named : letter.from ≡ Registry → AllByRecursion (Embedded es) (map (λ (root : Reference). root.bus) (references_among (elements_of m.body)))
  listed_named it = each (references_among (elements_of m.body)) (of_registry it).3.0
    where
      each : (roots : List Reference) → AllByRecursion (λ (root : Reference). Embedded es root.bus) roots → AllByRecursion (Embedded es) (map (λ (root : Reference). root.bus) roots)
      each [] a = tt
      each (root ∷ roots) a = (a.0, each roots a.1)

  told_now : (o : Option Question) → question_returned m h.asked ≡ o → AllByRecursion (Embedded es) (names_told h m o)
  told_now (Some GetChildren) is = listed_named (returned_by is)
  told_now None is = child_named
  told_now (Some Hello) is = child_named
  told_now (Some (AddMatch rule)) is = child_named
  told_now (Some (RegisterEvent pattern)) is = child_named
  told_now (Some (GetItems name)) is = child_named
  told_now (Some (GetPart name path part)) is = child_named

  registry_now : (o : Option Question) → question_returned m h.asked ≡ o → (name : List ℕ) → registry_after h m o ≡ Some name → NameIs es Registry name
  registry_now (Some GetChildren) is name after = let x = of_registry (returned_by is) in subst (NameIs es Registry) (same_some x.0 name (sym x.1 ∙ after)) x.2
  registry_now None is name after = old.registry name after
  registry_now (Some Hello) is name after = old.registry name after
  registry_now (Some (AddMatch rule)) is name after = old.registry name after
  registry_now (Some (RegisterEvent pattern)) is name after = old.registry name after
  registry_now (Some (GetItems called)) is name after = old.registry name after
  registry_now (Some (GetPart called path part)) is name after = old.registry name after

  pub hears_now : HasHeard es (hears_letter h ends letter)
  hears_now = record {
    registry = registry_now (question_returned m h.asked) refl;
    named = all_append (Embedded es) h.named (names_told h m (question_returned m h.asked)) old.named (told_now (question_returned m h.asked) refl);
  }
