-- Whose a letter is, as the unique names of the connections say.
use Rattle.std.proofs.Common.{◌≡◌, inl, inr, ℕ, zero, suc, Bool, true, false, List, [], ◌∷◌, map, Option, None, Some, refl, sym, ap, ◌∙◌, subst, arith}
use Rattle.std.specs.Prelude.{bytes_eq, if◌then◌else◌}
use Rattle.std.specs.List.{AllByRecursion}
use Rattle.std.proofs.lemmas.Option.{same_Some}
use Rattle.std.proofs.lemmas.Slice.Eq.{bytes_eq-Decides}
use Rattle.atspi_tree_model.specs.Forest.{first_of}
use Rattle.atspi_script_lines.specs.declared.line.Party.{Party}
use Rattle.atspi_script_lines.specs.declared.line.Party.TheVariants.{Bus as The_bus, Registry, App, Reader}
use Rattle.atspi_names.specs.Owners.{Owners, own_name, unique_name}
use Rattle.atspi_match.specs.routing.Queues.{Bus}
use Rattle.atspi_world_links.specs.declared.post.Post.{Post}
use Rattle.atspi_world_links.specs.Posts.{is_own}
use Rattle.atspi_trace.specs.World.{Letter, End, World}
use Rattle.atspi_trace.specs.Ends as trace_ends
use Rattle.atspi_trace.specs.Ends.{end_at, number_if}
use Rattle.atspi_bus_laws.specs.handed.Naming.{IsSigned, AreNamed}
use Rattle.atspi_world_moves.specs.Carried.{post_of, IsCarried}
use Rattle.atspi_world_moves.specs.Linked.{IsLinked}
use Rattle.atspi_world_links.specs.Named.{first_named, party_named, app_by, app_of, app_named}

-- a name is an end's own
own_is : (name : List ℕ) (u : Option (List ℕ)) → is_own name u ≡ true → u ≡ Some name
own_is name None h = absurd cc
own_is name (Some own) h = ap Some ((bytes_eq-Decides own name).0 h)

is_its_own : (name : List ℕ) (u : Option (List ℕ)) → u ≡ Some name → is_own name u ≡ true
is_its_own name u h = ap (is_own name) h ∙ (bytes_eq-Decides name name).1 refl

-- the end that alone has a name
named_at : (ends : List End) (name : List ℕ) (k : ℕ) (e : End) → end_at ends k ≡ Some e → e.unique ≡ Some name → ((j : ℕ) (d : End) → end_at ends j ≡ Some d → d.unique ≡ Some name → j ≡ k) → first_named name (map post_of ends) ≡ e.who
named_at [] name zero e at u only = absurd cc
named_at [] name (suc k) e at u only = absurd cc
named_at (x ∷ xs) name zero e at u only =
    let same : x ≡ e = same_Some x e at in
    ap (λ b. if b then x.who else first_named name (map post_of xs)) (is_its_own name x.unique (ap (λ (z : End). z.unique) same ∙ u)) ∙ ap (λ (z : End). z.who) same
named_at (x ∷ xs) name (suc k) e at u only = by (is_own name x.unique) refl (named_at xs name k e at u (λ j d there v. one j k (only (suc j) d there v)))
  where
    one : (j k : ℕ) → suc j ≡ suc k → j ≡ k
    one j k h = omega (arith, h)

    by : (b : Bool) → is_own name x.unique ≡ b → first_named name (map post_of xs) ≡ e.who → (if b then x.who else first_named name (map post_of xs)) ≡ e.who
    by true h rest = absurd (let zero_ = only 0 x refl (own_is name x.unique h) in omega (arith, zero_))
    by false h rest = rest

-- nobody has it
none_named : (ends : List End) (name : List ℕ) → ((j : ℕ) (d : End) → end_at ends j ≡ Some d → d.unique ≡ Some name → ⊥) → first_named name (map post_of ends) ≡ The_bus
none_named [] name none = refl
none_named (x ∷ xs) name none = by (is_own name x.unique) refl (none_named xs name (λ j d there v. none (suc j) d there v))
  where
    by : (b : Bool) → is_own name x.unique ≡ b → first_named name (map post_of xs) ≡ The_bus → (if b then x.who else first_named name (map post_of xs)) ≡ The_bus
    by true h rest = absurd (none 0 x refl (own_is name x.unique h))
    by false h rest = rest

-- no end has the bus's name
not_own : (n : ℕ) → unique_name n ≡ own_name → ⊥
not_own n h = let no : bytes_eq (unique_name n) own_name ≡ true = (bytes_eq-Decides (unique_name n) own_name).1 h in cc

-- WHO SENT A LETTER, by the name that it bears
pub sender_is : (owners : Owners) (ends : List End) (l : Letter) → AreNamed owners ends → IsSigned ends l → party_named l.said.message.sender (map post_of ends) ≡ l.from
sender_is owners ends l named (inl own) =
    ap (λ o. party_named o (map post_of ends)) own.1
    ∙ none_named ends own_name (λ j d at u. let was = (named.each j d at).given own_name u in not_own was.0 (sym was.2))
    ∙ sym own.0
sender_is owners ends l named (inr i) =
    ap (λ o. party_named o (map post_of ends)) i.bears
    ∙ named_at ends i.name i.conn i.sender i.there i.unique (λ j d at u. named.differ j i.conn d i.sender i.name at i.there u i.unique)
    ∙ sym i.from

-- the letter at the front of a down link
pub sender_named : (w : World) (b : Bus) (posts : List Post) (given : List (List ℕ)) (conn : ℕ) (e : End) (letter : Letter) (rest : List Letter) → IsCarried w b posts → IsLinked w given → end_at w.ends conn ≡ Some e
    → e.down ≡ letter ∷ rest → party_named letter.said.message.sender posts ≡ letter.from
sender_named w b posts given conn e letter rest is linked at link =
    ap (party_named letter.said.message.sender) is.posts_are
    ∙ sender_is w.bus.state.owners w.ends letter linked.named (subst (AllByRecursion (IsSigned w.ends)) link (linked.named.signed conn e at)).0

-- WHICH APPLICATION HAS A NAME
app_one : (name : List ℕ) (e : End) → app_of name (post_of e) ≡ number_if name e.who e.unique
app_one name e = by e.who e.unique
  where
    by : (who : Party) (unique : Option (List ℕ)) → app_by name who (record (post_of e) { name = unique }) ≡ number_if name who unique
    by (App app) (Some own) = refl
    by (App app) None = refl
    by The_bus unique = refl
    by Registry unique = refl
    by (Reader reader) unique = refl

app_ends : (name : List ℕ) (ends : List End) → app_named name (map post_of ends) ≡ trace_ends.app_named name ends
app_ends name [] = refl
app_ends name (e ∷ es) = ap (λ o. first_of o (app_named name (map post_of es))) (app_one name e) ∙ ap (first_of (number_if name e.who e.unique)) (app_ends name es)

pub app_names : (w : World) (b : Bus) (posts : List Post) (name : List ℕ) → IsCarried w b posts → app_named name posts ≡ trace_ends.app_named name w.ends
app_names w b posts name is = ap (app_named name) is.posts_are ∙ app_ends name w.ends
