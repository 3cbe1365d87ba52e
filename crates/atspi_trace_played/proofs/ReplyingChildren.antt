-- WHAT A READER IS TOLD OF CHILDREN: each reference in the return to its call for them, and each child of which the registry tells that it was added, has a root's path and the name of an application.
use Rattle.std.proofs.Common.{◌≡◌, inl, inr, ℕ, Bool, true, false, List, [], ◌∷◌, Option, None, Some, refl, sym, ap, ◌∙◌, subst}
use Rattle.std.specs.Prelude.{◌==◌, ◌&&◌, bytes_eq, codes, if◌then◌else◌}
use Rattle.std.specs.List.{AllByRecursion}
use Rattle.std.proofs.lemmas.Slice.Eq.{bytes_eq-Decides}
use Rattle.atspi_tree_model.specs.Path.{path_of}
use Rattle.atspi_tree_model.specs.declared.news.Reference.{Reference}
use Rattle.atspi_script_lines.specs.declared.line.Line.{Line}
use Rattle.atspi_script_lines.specs.declared.line.Party.TheVariants.{Bus as The_bus, Registry, App, Reader}
use Rattle.atspi_message.specs.Envelope.{Envelope}
use Rattle.atspi_names.specs.Owners.{own_name}
use Rattle.atspi_match.specs.routing.Members.{is_text}
use Rattle.atspi_protocol.specs.declared.following.question.Question.TheVariants.{GetChildren}
use Rattle.atspi_protocol.specs.news.Arguments.{event_in}
use Rattle.atspi_protocol.specs.news.NewsOf.{event_interface, or_empty}
use Rattle.atspi_protocol.specs.news.Replies.{elements_of}
use Rattle.atspi_protocol.specs.following.ReaderState.{ReaderState}
use Rattle.atspi_protocol.specs.following.Known.{references_among, child_added, is_from, new_child}
use Rattle.atspi_trace.specs.Entry.{Entry}
use Rattle.atspi_trace.specs.World.{Hearer, Letter, End, World}
use Rattle.atspi_trace.specs.Ends.{same_party}
use Rattle.atspi_trace.specs.Causes.{gets, does}
use Rattle.atspi_trace.specs.Hearing.{question_returned}
use Rattle.atspi_trace_laws.specs.laws.Words.{messages, message, name_in}
use Rattle.atspi_trace_laws.proofs.OfOrder.Parties.{no_none, false_true}
use Rattle.atspi_trace_laws.proofs.OfOrder.Effects.{ReaderTakes}
use Rattle.atspi_trace_laws.proofs.OfNames.Places.{told_is}
use Rattle.atspi_trace_laws.proofs.OfSigned.Mail.{NameIs, IsMail}
use Rattle.atspi_trace_laws.proofs.OfSigned.Self.{one_named}
use Rattle.atspi_trace_laws.proofs.OfSigned.LawMail.{name_of_end}
use Rattle.atspi_trace_caches.proofs.OfServed.Listing.{NamesOnly}
use Rattle.atspi_trace_caches.proofs.OfServed.ListingTold.{Embedded}
use Rattle.atspi_trace_caches.proofs.OfServed.Spelling.{all_found}
use Rattle.atspi_trace_caches.proofs.OfServed.ListingAll.{returns_children}
use Rattle.atspi_trace_caches.proofs.OfSettled.Settling_ground.{Grounds, embedded_app}
use Rattle.atspi_trace_played.proofs.Facts.{Ground}
use Rattle.atspi_trace_played.proofs.ReplyingPaths.{PathsOnly}
use Rattle.atspi_trace_played.proofs.ReplyingRoots.{IsRoot, roots_are_told}
use Rattle.atspi_trace_played.proofs.ReplyingStep.{Gets, shape, its, live, done_is}

pub record IsAppRoot (es : List Entry) (root : Reference) : Type 0 where
  pub path : root.path ≡ path_of 0
  pub app : ℕ
  pub its_name : name_in es (App app) ≡ Some root.bus

module _ (script : List Line) (es : List Entry) (w : World) (ground : Ground script es w None) (conn r : ℕ) (e : End) (h : Hearer) (letter : Letter) (rest : List Letter) (x : Gets w conn r e h letter rest) where
  g : Grounds es w
  g = its script es w None ground

  mail : IsMail es (Reader r) letter
  mail = subst (λ p. IsMail es p letter) x.whose (subst (AllByRecursion (IsMail es e.who)) x.link (g.mail.downs conn e x.there x.standing)).0

  its_app : (name : List ℕ) → Embedded es name → (a : ℕ) × (name_in es (App a) ≡ Some name)
  its_app name i = let a = embedded_app es w (shape script es w None ground) g name i in (a.0, told_is es (App a.0) ∙ a.1)

  -- what the registry tells
  of_registry : letter.from ≡ Registry → PathsOnly IsRoot letter.said.message.body × NamesOnly (Embedded es) letter.said.message.body
  of_registry from = by mail
    where
      by : IsMail es (Reader r) letter → PathsOnly IsRoot letter.said.message.body × NamesOnly (Embedded es) letter.said.message.body
      by (inl b) = absurd (apart (sym b.from ∙ from))
        where
          apart : The_bus ≡ Registry → ⊥
          apart is = false_true (ap (λ p. same_party p Registry) is)
      by (inr p) =
          let was = subst (λ q. message es q p.first.message.serial ≡ Some p.first.message) from p.sent_.was in
          let body : letter.said.message.body ≡ p.first.message.body = ap (λ z. z.message.body) p.alike in (
            subst (PathsOnly IsRoot) (sym body) (all_found (λ (m : Envelope). PathsOnly IsRoot m.body) p.first.message.serial (messages es Registry) p.first.message (roots_are_told script es w None ground) was),
            subst (NamesOnly (Embedded es)) (sym body) (all_found (λ (m : Envelope). NamesOnly (Embedded es) m.body) p.first.message.serial (messages es Registry) p.first.message (g.listed (live script es w None ground)).told was),
          )

  both : (roots : List Reference) → AllByRecursion (λ (root : Reference). IsRoot root.path) roots → AllByRecursion (λ (root : Reference). Embedded es root.bus) roots → AllByRecursion (IsAppRoot es) roots
  both [] a b = tt
  both (root ∷ roots) a b = let app = its_app root.bus b.0 in (record { path = a.0; app = app.0; its_name = app.1 }, both roots a.1 b.1)

  -- its call for the children is returned by the registry
  abbrev takes : ReaderTakes w (does w (gets conn))
  takes = record {
    conn = conn;
    reader = r;
    e = e;
    hearer = h;
    letter = letter;
    rest = rest;
    is_here = record { there = x.there; standing = x.standing };
    whose = x.whose;
    role = x.role;
    link = x.link;
    is = done_is script es w ground conn r e h letter rest x;
  }

  pub from_registry : question_returned letter.said.message h.asked ≡ Some GetChildren → letter.from ≡ Registry
  from_registry is = returns_children es w (does w (gets conn)) g.few g.mail g.fated g.ruled g.rightly g.spelled (live script es w None ground) takes is

  pub listed_roots : question_returned letter.said.message h.asked ≡ Some GetChildren → AllByRecursion (IsAppRoot es) (references_among (elements_of letter.said.message.body))
  listed_roots is = let t = of_registry (from_registry is) in both (references_among (elements_of letter.said.message.body)) t.0.0 t.1.0

  -- and whoever it takes for the registry is the registry
  signs : is_from h.registry letter.said.message ≡ true → letter.from ≡ Registry
  signs from = by h.registry refl from
    where
      by : (o : Option (List ℕ)) → h.registry ≡ o → is_from o letter.said.message ≡ true → letter.from ≡ Registry
      by None has f = absurd (false_true f)
      by (Some name) has f = at mail
        where
          its_name : NameIs es Registry name
          its_name = ((g.listed (live script es w None ground)).readers conn e h x.there x.role).registry name has

          same : or_empty letter.said.message.sender ≡ name
          same = (bytes_eq-Decides (or_empty letter.said.message.sender) name).0 f

          of_text : (o : Option (List ℕ)) → is_text o own_name ≡ true → is_text (Some (or_empty o)) own_name ≡ true
          of_text None t = absurd (false_true t)
          of_text (Some field) t = t

          at : IsMail es (Reader r) letter → letter.from ≡ Registry
          at (inl b) = absurd (false_true (sym (name_of_end es Registry name its_name) ∙ ap (λ n. is_text (Some n) own_name) (sym same) ∙ of_text letter.said.message.sender b.own))
          at (inr p) = one_named es letter.from Registry name g.few (subst (NameIs es letter.from) (ap or_empty (sym p.sender) ∙ same) p.name) its_name

  pub added_root : (s : ReaderState) → s.registry ≡ h.registry → (root : Reference) → new_child s letter.said.message ≡ Some root → IsAppRoot es root
  added_root s same root is = by (letter.said.message.kind == 4) (is_from s.registry letter.said.message) refl is
    where
      found : is_from s.registry letter.said.message ≡ true → child_added (event_in letter.said.message.body) ≡ Some root → IsAppRoot es root
      found from child =
          let t = of_registry (signs (ap (λ o. is_from o letter.said.message) (sym same) ∙ from)) in
          let app = its_app root.bus (t.1.1 root child) in
          record { path = t.0.1 root child; app = app.0; its_name = app.1 }

      at : (c : Bool) → is_from s.registry letter.said.message ≡ true → (if c then child_added (event_in letter.said.message.body) else None) ≡ Some root → IsAppRoot es root
      at true from child = found from child
      at false from child = absurd (no_none root child)

      by : (a b : Bool) → is_from s.registry letter.said.message ≡ b
          → (if a && (b && (bytes_eq (or_empty letter.said.message.interface) event_interface && bytes_eq (or_empty letter.said.message.member) (codes "ChildrenChanged"))) then child_added (event_in letter.said.message.body) else None) ≡
          Some root
          → IsAppRoot es root
      by true true from child = at (bytes_eq (or_empty letter.said.message.interface) event_interface && bytes_eq (or_empty letter.said.message.member) (codes "ChildrenChanged")) from child
      by true false from child = absurd (no_none root child)
      by false b from child = absurd (no_none root child)
