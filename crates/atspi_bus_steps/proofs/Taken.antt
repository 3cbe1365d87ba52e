-- Hello, as the definition has it.
use Rattle.std.proofs.Common.{◌≡◌, ℕ, Bool, true, false, List, [], ◌∷◌, Option, None, Some, refl, sym, ap, ◌∙◌}
use Rattle.std.specs.Prelude.{◌==◌, ◌&&◌, codes}
use Rattle.std.proofs.lemmas.Bool.Decides.{Decides-eqb}
use Rattle.atspi_types.specs.Kinds.{Kind, kinds_of, no_kinds}
use Rattle.atspi_types.specs.Data.{Data, types_of, items_of}
use Rattle.atspi_message_in_place.proofs.ReadTypes.{no_types}
use Rattle.atspi_message.specs.Envelope.{Envelope}
use Rattle.atspi_names.specs.Owners.{own_name}
use Rattle.atspi_match.specs.routing.Members.{is_text}
use Rattle.atspi_match.specs.routing.Steps.{is_hello}
use Rattle.atspi_bus_steps.specs.Greeting.{is_bus_or_none}

-- Hello, by its tests
abbrev pub is_nil : List Data → Bool
is_nil [] = true
is_nil (d ∷ ds) = false

pub hello-is : (e : Envelope) → is_hello e ≡ (e.kind == 1 && (is_text e.destination own_name && (is_text e.member (codes "Hello") && (is_bus_or_none e.interface && is_nil e.body))))
hello-is e = by e.interface e.body
  where
    by : (o : Option (List ℕ)) (body : List Data)
        → is_hello (record e { interface = o; body = body }) ≡ (e.kind == 1 && (is_text e.destination own_name && (is_text e.member (codes "Hello") && (is_bus_or_none o && is_nil body))))
    by None [] = refl
    by None (d ∷ ds) = refl
    by (Some i) [] = refl
    by (Some i) (d ∷ ds) = refl

pub nil-is : (ds : List Data) (b : Bool) → (b ≡ true → ds ≡ []) → (ds ≡ [] → b ≡ true) → b ≡ is_nil ds
nil-is [] b to from = from refl
nil-is (d ∷ ds) true to from = absurd (let e = to refl in cc)
nil-is (d ∷ ds) false to from = refl

chain : (a b c d n : Bool) → a ≡ true → b ≡ true → c ≡ true → d ≡ true → (a && (b && (c && (d && n)))) ≡ n
chain a b c d n p q r s = rw (p, q, r, s) refl

pub hello-yes : (e : Envelope) (b : Bool) → e.kind ≡ 1 → is_text e.destination own_name ≡ true → is_text e.member (codes "Hello") ≡ true → is_bus_or_none e.interface ≡ true
    → b ≡ is_nil e.body → b ≡ is_hello e
hello-yes e b kind destination member interface body =
    body ∙ sym (hello-is e ∙ chain (e.kind == 1) (is_text e.destination own_name) (is_text e.member (codes "Hello")) (is_bus_or_none e.interface) (is_nil e.body)
    ((Decides-eqb e.kind 1).1 kind) destination member interface)

-- no values where there are no types
pub nil-kinds : (ds : List Data) (ks : List Kind) (b : Bool) → types_of (items_of ds) ≡ kinds_of ks → (b ≡ true → ks ≡ []) → (ks ≡ [] → b ≡ true) → b ≡ is_nil ds
nil-kinds ds ks b typed to from = nil-is ds b (λ t. no_types ds ks typed (to t)) (λ n. from (none ks (sym typed ∙ ap (λ l. types_of (items_of l)) n)))
  where
    none : (ks : List Kind) → kinds_of ks ≡ no_kinds → ks ≡ []
    none [] e = refl
    none (k ∷ ks) e = absurd cc
