-- What stands of a trace and a world: who is here, whose a letter is, and which names are apart.
use Rattle.std.proofs.Common.{◌≡◌, ◌⊎◌, inl, inr, ℕ, zero, suc, ◌≤◌, Bool, true, false, List, [], ◌∷◌, length, Option, None, Some, refl, sym, ap, ◌∙◌, subst, arith}
use Rattle.std.specs.Prelude.{◌==◌, ◌&&◌, bytes_eq, codes, if◌then◌else◌}
use Rattle.std.specs.List.{AllByRecursion}
use Rattle.std.proofs.lemmas.Bool.{eqb-true}
use Rattle.std.proofs.lemmas.Slice.Eq.{bytes_eq-Decides}
use Rattle.atspi_script_lines.specs.declared.line.Line.{Line}
use Rattle.atspi_script_lines.specs.declared.line.Party.{Party}
use Rattle.atspi_script_lines.specs.declared.line.Party.TheVariants.{Bus as The_bus, Registry, App}
use Rattle.atspi_message.specs.Envelope.{Envelope}
use Rattle.atspi_names.specs.Owners.{own_name}
use Rattle.atspi_match.specs.routing.Members.{is_text}
use Rattle.atspi_protocol.specs.ends.Places.{bus}
use Rattle.atspi_protocol.specs.news.NewsOf.{or_empty}
use Rattle.atspi_protocol.specs.following.Known.{ended_name, told_end}
use Rattle.atspi_trace.specs.Entry.{Entry}
use Rattle.atspi_trace.specs.World.{Standing, here, stopped, away, Letter, End, World, first_registry, first_world}
use Rattle.atspi_trace.specs.Ends.{is_here, number_of, end_at, number_if, app_named}
use Rattle.atspi_tree_model.specs.Forest.{first_of}
use Rattle.atspi_trace.specs.Due.{is_lost}
use Rattle.atspi_trace_laws.specs.laws.Words.{name_in}
use Rattle.atspi_trace_laws.proofs.OfOrder.Parties.{no_none, same_some, false_true}
use Rattle.atspi_trace_laws.proofs.OfOrder.Shape.{Shape}
use Rattle.atspi_trace_laws.proofs.OfOrder.Growing.{Shaped}
use Rattle.atspi_trace_laws.proofs.OfOrder.Lives.{here_lives}
use Rattle.atspi_trace_laws.proofs.OfOwn.Writing.{Lives}
use Rattle.atspi_trace_laws.proofs.OfTaken.Said.{IsLetter, Comes}
use Rattle.atspi_trace_laws.proofs.OfNames.LawEnds.{number_is}
use Rattle.atspi_trace_laws.proofs.OfNames.Places.{told_is}
use Rattle.atspi_trace_laws.proofs.OfSigned.Mail.{NameIs, IsMail}
use Rattle.atspi_trace_laws.proofs.OfSigned.Self.{one_named}
use Rattle.atspi_trace_laws.proofs.OfSigned.LawMail.{name_of_end}
use Rattle.atspi_trace_caches.proofs.OfSettled.Settling_ground as under
use Rattle.atspi_trace_caches.proofs.OfSettled.Settling_ground.{ground_keep, Grounds, grounds}
use Rattle.atspi_trace_played.proofs.Facts.{Ground}

-- THE GROUND, open
module _ (script : List Line) (es : List Entry) (w : World) (free : Option ℕ) (g : Ground script es w free) where
  facts : Shaped under.Ground es w free
  facts = g.kept (Shaped under.Ground) ground_keep

  pub shape : Shape w
  shape = facts.0

  pub its : Grounds es w
  its = grounds es w facts.1

  registry_here : (e : End) × (end_at w.ends 0 ≡ Some e) × (e.standing ≡ here)
  registry_here = by w.ends shape.alone g.here refl
    where
      stands : (st : Standing) → (if is_here st then false else true) ≡ false → st ≡ here
      stands here f = refl
      stands stopped f = absurd (false_true (sym f))
      stands away f = absurd (false_true (sym f))

      empty : (2 ≤ length w.ends) ⊎ (w ≡ first_world w.bus.quota) → w.ends ≡ [] → ⊥
      empty (inl two) is = let none : length w.ends ≡ 0 = ap length is in absurd (omega (arith, two, none))
      empty (inr first) is = no_none first_registry (ap (λ l. end_at l 0) (sym is) ∙ ap (λ (v : World). end_at v.ends 0) first)

      by : (ends : List End) → (2 ≤ length w.ends) ⊎ (w ≡ first_world w.bus.quota) → is_lost (record w { ends = ends }) ≡ false → w.ends ≡ ends → (e : End) × (end_at ends 0 ≡ Some e) × (e.standing ≡ here)
      by [] alone found is = absurd (empty alone is)
      by (x ∷ xs) alone found is = (x, refl, stands x.standing found)

  pub live : Lives es
  live =
      let x = registry_here in
      here_lives es w Registry shape its.out its.started (record { conn = 0; e = x.0; there = x.1; whose = shape.registry x.0 x.1; standing = x.2 })

  -- names
  pub is_name : (p : Party) (x : List ℕ) → name_in es p ≡ Some x → NameIs es p x
  is_name p x h = inr (sym (told_is es p) ∙ h)

  -- no name of an end is the bus's
  pub no_bus_name : (p : Party) (x : List ℕ) → NameIs es p x → bus ≡ x → ⊥
  no_bus_name p x n same = false_true (sym (subst (λ z. is_text (Some z) own_name ≡ false) (sym same) (name_of_end es p x n)) ∙ refl)

  pub one_party : (p q : Party) (x : List ℕ) → NameIs es p x → NameIs es q x → p ≡ q
  one_party p q x a b = one_named es p q x its.few a b

-- WHOSE A LETTER IS: the bus's, or an end's with its name, as it was sent
pub data Sender (es : List Entry) (letter : Letter) : Type 0 where
  of_bus : letter.from ≡ The_bus → or_empty letter.said.message.sender ≡ bus → letter.said.message.sender ≡ Some bus → Sender es letter
  of_end : (caller : List ℕ) → letter.said.message.sender ≡ Some caller → NameIs es letter.from caller → (letter.from ≡ The_bus → ⊥) → IsLetter es letter → Sender es letter

text_is : (o : Option (List ℕ)) (x : List ℕ) → is_text o x ≡ true → o ≡ Some x
text_is None x h = absurd (false_true h)
text_is (Some y) x h = ap Some ((bytes_eq-Decides y x).0 h)

module _ (script : List Line) (es : List Entry) (w : World) (free : Option ℕ) (g : Ground script es w free) where
  pub sender : (conn : ℕ) (e : End) (letter : Letter) (rest : List Letter) → end_at w.ends conn ≡ Some e → e.standing ≡ here → e.down ≡ letter ∷ rest → Sender es letter
  sender conn e letter rest there on link = by mail comes
    where
      facts : Grounds es w
      facts = its script es w free g

      mail : IsMail es e.who letter
      mail = (subst (AllByRecursion (IsMail es e.who)) link (facts.mail.downs conn e there on)).0

      comes : Comes es letter
      comes = (subst (AllByRecursion (Comes es)) link (facts.known conn e there).1).0

      by : IsMail es e.who letter → Comes es letter → Sender es letter
      by (inl b) c = let is = text_is letter.said.message.sender own_name b.own in of_bus b.from (ap or_empty is) is
      by (inr p) (inr c) = of_end p.caller p.sender p.name (λ is. under.no_bus es w (shape script es w free g) facts p.caller (subst (λ q. NameIs es q p.caller) is p.name)) c
      by (inr p) (inl c) = absurd (under.no_bus es w (shape script es w free g) facts p.caller (subst (λ q. NameIs es q p.caller) c p.name))

-- WHO TELLS OF AN END: the bus alone
pub end_from_bus : (m : Envelope) (n : List ℕ) → told_end m ≡ Some n → or_empty m.sender ≡ bus
end_from_bus m n h = by (m.kind == 4) (bytes_eq (or_empty m.sender) bus) refl h
  where
    by : (b c : Bool) → bytes_eq (or_empty m.sender) bus ≡ c → (if b && (c && (bytes_eq (or_empty m.interface) bus && bytes_eq (or_empty m.member) (codes "NameOwnerChanged"))) then ended_name m.body else None) ≡ Some n
        → or_empty m.sender ≡ bus
    by true true e k = (bytes_eq-Decides (or_empty m.sender) bus).0 e
    by true false e k = absurd (no_none n k)
    by false c e k = absurd (no_none n k)

-- and an end is none of a reply
pub end_is_signal : (m : Envelope) (n : List ℕ) → told_end m ≡ Some n → m.kind ≡ 4
end_is_signal m n h = by (m.kind == 4) refl h
  where
    by : (b : Bool) → (m.kind == 4) ≡ b → (if b && (bytes_eq (or_empty m.sender) bus && (bytes_eq (or_empty m.interface) bus && bytes_eq (or_empty m.member) (codes "NameOwnerChanged"))) then ended_name m.body else None) ≡ Some n
        → m.kind ≡ 4
    by true e k = eqb-true m.kind 4 e
    by false e k = absurd (no_none n k)

-- WHOM A NAME TELLS OF
abbrev Found : List ℕ → ℕ → List End → Type 0
Found name app ends = (k : ℕ) × (e : End) × (end_at ends k ≡ Some e) × (e.who ≡ App app) × (e.unique ≡ Some name)

found_named : (name : List ℕ) (app : ℕ) (ends : List End) → app_named name ends ≡ Some app → Found name app ends
found_named name app [] h = absurd (no_none app h)
found_named name app (x ∷ xs) h = by (number_if name x.who x.unique) refl h (λ k. found_named name app xs k)
  where
    later : Found name app xs → Found name app (x ∷ xs)
    later f = (suc f.0, f.1, f.2, f.3, f.4)

    by : (o : Option ℕ) → number_if name x.who x.unique ≡ o → first_of o (app_named name xs) ≡ Some app → (app_named name xs ≡ Some app → Found name app xs) → Found name app (x ∷ xs)
    by None is k ih = later (ih k)
    by (Some a) is k ih =
        let y = number_is name x.who x.unique a is in
        (0, x, refl, y.0 ∙ ap App (same_some a app k), y.1)

module _ (script : List Line) (es : List Entry) (w : World) (free : Option ℕ) (g : Ground script es w free) where
  pub named_is : (name : List ℕ) (app : ℕ) → app_named name w.ends ≡ Some app → name_in es (App app) ≡ Some name
  named_is name app h =
      let f = found_named name app w.ends h in
      told_is es (App app) ∙ under.unique_is es w (shape script es w free g) (its script es w free g) f.0 app f.1 name f.2 f.3 f.4

-- an application with a name is found by it
some_named : (name : List ℕ) (a k : ℕ) (e : End) (ends : List End) → end_at ends k ≡ Some e → e.who ≡ App a → e.unique ≡ Some name → (c : ℕ) × (app_named name ends ≡ Some c)
some_named name a k e [] h who u = absurd (no_none e h)
some_named name a k e (x ∷ xs) h who u = by (number_if name x.who x.unique) refl k h (λ j there. some_named name a j e xs there who u)
  where
    has_it : (p : Party) (v : Option (List ℕ)) → p ≡ App a → v ≡ Some name → number_if name p v ≡ Some a
    has_it p v is q = ap (λ o. number_if name p o) q ∙ ap (λ o. number_if name o (Some name)) is ∙ ap (λ t. if t then Some a else None) ((bytes_eq-Decides name name).1 refl)

    by : (o : Option ℕ) → number_if name x.who x.unique ≡ o → (k : ℕ) → end_at (x ∷ xs) k ≡ Some e → ((j : ℕ) → end_at xs j ≡ Some e → (c : ℕ) × (app_named name xs ≡ Some c))
        → (c : ℕ) × (first_of (number_if name x.who x.unique) (app_named name xs) ≡ Some c)
    by (Some c) is k there rest = (c, ap (λ o. first_of o (app_named name xs)) is)
    by None is zero there rest =
        let same : x ≡ e = same_some x e there in
        absurd (no_none a (sym is ∙ has_it x.who x.unique (ap (λ (z : End). z.who) same ∙ who) (ap (λ (z : End). z.unique) same ∙ u)))
    by None is (suc j) there rest = let r = rest j there in (r.0, ap (λ o. first_of o (app_named name xs)) is ∙ r.1)

pub same_number : (a b : ℕ) → App a ≡ App b → a ≡ b
same_number a b h = ap number_of h

module _ (script : List Line) (es : List Entry) (w : World) (free : Option ℕ) (g : Ground script es w free) where
  pub app_is : (name : List ℕ) (app : ℕ) → name_in es (App app) ≡ Some name → app_named name w.ends ≡ Some app
  app_is name app h =
      let x = under.app_with_name es w (shape script es w free g) (its script es w free g) app name (sym (told_is es (App app)) ∙ h) in
      let y = some_named name x.1 x.0 x.2 w.ends x.3 x.4 x.5 in
      let n : name_in es (App y.0) ≡ Some name = named_is script es w free g name y.0 y.1 in
      y.1 ∙ ap Some (same_number y.0 app (one_party script es w free g (App y.0) (App app) name (is_name script es w free g (App y.0) name n) (is_name script es w free g (App app) name h)))
