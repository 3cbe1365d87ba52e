-- Who receives what is said where a connection leaves: the same whether its names, rules and calls go before that or after it.
use Rattle.std.proofs.Common.{◌≡◌, ◌≢◌, ℕ, Bool, true, false, cond, not, ◌&&◌, ◌||◌, List, [], ◌∷◌, Option, None, Some, refl, sym, ap, ◌∙◌}
use Rattle.std.proofs.lemmas.Bool.Decides.{Decides-eqb}
use Rattle.std.specs.Prelude.{◌==◌, bytes_eq}
use Rattle.std.specs.List.{list_any, filter}
use Rattle.atspi_message.specs.Envelope.{Envelope}
use Rattle.atspi_base.specs.valid_names.Names.{is_unique_name}
use Rattle.atspi_names.specs.Queue.{owner_in, without}
use Rattle.atspi_names.specs.Owners.{Owners, list_of, lists_without, own_name, after_gone}
use Rattle.atspi_names.proofs.BookLemmas.{list_of-lists_without}
use Rattle.atspi_match.specs.declared.condition.Condition.{Condition}
use Rattle.atspi_match.specs.declared.condition.Condition.TheVariants.{Kind, Sender, Interface, Member, Path, PathNamespace, Destination, Arg, ArgPath, Arg0Namespace, Eavesdrop}
use Rattle.atspi_match.specs.RuleIndex.{without_rules}
use Rattle.atspi_match.specs.routing.BusState.{BusState, OpenCall, unique_of}
use Rattle.atspi_match.specs.routing.Routing.{is_same, passes, is_owned_by, goes_by, holds, matches, asks_for, one_or_none, receivers}
use Rattle.atspi_bus.specs.Exclusive.{IsExclusive}
use Rattle.atspi_bus_steps.proofs.Asking.{receivers-to, receivers-all, receivers-none}

-- a number is another than those it differs from
apart : (a b : ℕ) → a ≢ b → (a == b) ≡ false
apart a b other = by (a == b) refl
  where
    by : (t : Bool) → (a == b) ≡ t → t ≡ false
    by true is = absurd (other ((Decides-eqb a b).0 is))
    by false is = refl

-- no unique name is the bus's own
no_own : (name : List ℕ) → is_unique_name name ≡ true → bytes_eq name own_name ≡ false
no_own [] is = absurd cc
no_own (b ∷ name) is = let same : b ≡ 58 = (Decides-eqb b 58).0 is in ap (λ x. bytes_eq (x ∷ name) own_name) same

-- so no connection is the bus
not_owned : (owners : Owners) (o : Option ℕ) → IsExclusive owners → is_owned_by owners own_name o ≡ false
not_owned owners None h = refl
not_owned owners (Some c) h = by (unique_of owners c) refl
  where
    by : (u : Option (List ℕ)) → unique_of owners c ≡ u → is_same u own_name ≡ false
    by None is = refl
    by (Some u) is = no_own u (h.named c u is)

drops : (a b : Bool) → (a || (b && false)) ≡ a
drops true b = refl
drops false true = refl
drops false false = refl

-- so the bus goes by no other name
goes_own : (owners : Owners) (name : List ℕ) → IsExclusive owners → goes_by owners name own_name ≡ bytes_eq own_name name
goes_own owners name h =
    ap (λ b. bytes_eq own_name name || (not (is_unique_name name) && b)) (not_owned owners (owner_in (list_of owners.lists name)) h)
    ∙ drops (bytes_eq own_name name) (not (is_unique_name name))

-- whether a rule of the connection matches
abbrev asks : Envelope → Owners → ℕ → List (ℕ × List Condition) → Bool
asks e owners c rules = list_any (λ (r : ℕ × List Condition). r.0 == c && matches e owners r.1) rules

-- a rule matches a message of the bus's own that goes to all whoever owns names
module _ (e : Envelope) (o p : Owners) (h : IsExclusive o) (k : IsExclusive p) (from : e.sender ≡ Some own_name) (to : e.destination ≡ None) where
  holds_own : (c : Condition) → holds e o c ≡ holds e p c
  holds_own (Kind t) = refl
  holds_own (Sender name) =
      ap (passes (goes_by o name)) from ∙ goes_own o name h ∙ sym (goes_own p name k) ∙ sym (ap (passes (goes_by p name)) from)
  holds_own (Interface name) = refl
  holds_own (Member name) = refl
  holds_own (Path path) = refl
  holds_own (PathNamespace path) = refl
  holds_own (Destination name) = ap (passes (goes_by o name)) to ∙ sym (ap (passes (goes_by p name)) to)
  holds_own (Arg n text) = refl
  holds_own (ArgPath n text) = refl
  holds_own (Arg0Namespace text) = refl
  holds_own (Eavesdrop b) = refl

  matches_own : (rule : List Condition) → matches e o rule ≡ matches e p rule
  matches_own [] = refl
  matches_own (c ∷ rule) = ap (λ b. b && matches e o rule) (holds_own c) ∙ ap (λ b. holds e p c && b) (matches_own rule)

  -- nor does it matter whether rules of another connection are there
  asks_without : (conn c : ℕ) (rules : List (ℕ × List Condition)) → c ≢ conn
      → asks e o c rules ≡ asks e p c (without_rules conn rules)
  asks_without conn c [] other = refl
  asks_without conn c (r ∷ rules) other = by (r.0 == conn) refl (asks_without conn c rules other)
    where
      by : (b : Bool) → (r.0 == conn) ≡ b → asks e o c rules ≡ asks e p c (without_rules conn rules) → asks e o c (r ∷ rules) ≡ asks e p c (without_rules conn (r ∷ rules))
      by true is rest =
          let same : r.0 ≡ conn = (Decides-eqb r.0 conn).0 is in
          let off : (r.0 == c) ≡ false = apart r.0 c (λ t. other (sym t ∙ same)) in
          rw (is, off) rest
      by false is rest = rw is (ap (λ b. (r.0 == c && b) || asks e o c rules) (matches_own r.1) ∙ ap (λ b. (r.0 == c && matches e p r.1) || b) rest)

-- those that are not the connection
abbrev pub others : ℕ → List ℕ → List ℕ
others conn joined = filter (λ c. not (c == conn)) joined

filtered_same : (f g : ℕ → Bool) (conn : ℕ) (xs : List ℕ) → ((x : ℕ) → x ≢ conn → f x ≡ g x) → filter f (others conn xs) ≡ filter g (others conn xs)
filtered_same f g conn [] h = refl
filtered_same f g conn (x ∷ xs) h = by (x == conn) refl (filtered_same f g conn xs h)
  where
    by : (b : Bool) → (x == conn) ≡ b → filter f (others conn xs) ≡ filter g (others conn xs) → filter f (others conn (x ∷ xs)) ≡ filter g (others conn (x ∷ xs))
    by true is rest = rw is rest
    by false is rest =
        let other : x ≢ conn = λ same. let t = sym is ∙ (Decides-eqb x conn).1 same in cc in
        rw is (ap (λ b. cond b (x ∷ filter f (others conn xs)) (filter f (others conn xs))) (h x other) ∙ ap (λ l. cond (g x) (x ∷ l) l) rest)

-- a message of the bus's own, to all or to another connection
pub record IsToOthers (owners : Owners) (conn : ℕ) (e : Envelope) : Type 0 where
  pub from : e.sender ≡ Some own_name
  pub to : (name : List ℕ) → e.destination ≡ Some name → (c : ℕ) × (c ≢ conn) × (unique_of owners c ≡ Some name)

kept-alone : (conn c flags : ℕ) → c ≢ conn → without conn ((c, flags) ∷ []) ≡ (c, flags) ∷ []
kept-alone conn c flags other = ap (λ b. cond (not b) ((c, flags) ∷ []) []) (apart c conn other)

-- the state where the connection has left, and where it is only out of those who have joined
abbrev pub gone_from : BusState → ℕ → List OpenCall → BusState
gone_from s conn calls = record s { joined = others conn s.joined; owners = after_gone s.owners conn; rules = without_rules conn s.rules; calls = calls }

abbrev pub out_of : BusState → ℕ → BusState
out_of s conn = record s { joined = others conn s.joined }

pub heard : (s : BusState) (conn : ℕ) (calls : List OpenCall) (e : Envelope) → IsExclusive s.owners → IsExclusive (after_gone s.owners conn) → IsToOthers s.owners conn e
    → receivers (out_of s conn) e ≡ receivers (gone_from s conn calls) e
heard s conn calls e h k own = by e.destination refl
  where
    by : (o : Option (List ℕ)) → e.destination ≡ o → receivers (out_of s conn) e ≡ receivers (gone_from s conn calls) e
    by (Some name) is =
        let to = own.to name is in
        let alone = h.alone to.0 name to.2 in
        let same : list_of s.owners.lists name ≡ list_of (lists_without conn s.owners.lists) name =
        alone ∙ sym (kept-alone conn to.0 0 to.1) ∙ ap (without conn) (sym alone) ∙ sym (list_of-lists_without conn s.owners.lists name) in
        receivers-to (out_of s conn) e name is ∙ ap (λ l. one_or_none (owner_in l)) same ∙ sym (receivers-to (gone_from s conn calls) e name is)
    by None is = signal (e.kind == 4) refl
      where
        signal : (b : Bool) → (e.kind == 4) ≡ b → receivers (out_of s conn) e ≡ receivers (gone_from s conn calls) e
        signal true kind =
            receivers-all (out_of s conn) e is kind
            ∙ filtered_same (asks_for (out_of s conn) e) (asks_for (gone_from s conn calls) e) conn s.joined
            (λ c other. asks_without e s.owners (after_gone s.owners conn) h k own.from is conn c s.rules other)
            ∙ sym (receivers-all (gone_from s conn calls) e is kind)
        signal false kind = receivers-none (out_of s conn) e is kind ∙ sym (receivers-none (gone_from s conn calls) e is kind)
