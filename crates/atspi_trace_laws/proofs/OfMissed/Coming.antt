-- How the registry's pairs come and go.
use Rattle.std.proofs.Common.{◌≡◌, inl, inr, ℕ, Bool, true, false, List, [], ◌∷◌, ◌++◌, Option, None, Some, refl, sym, ap, ◌∙◌, subst}
use Rattle.std.specs.Prelude.{◌==◌, ◌&&◌, ◌||◌, not, filter, bytes_eq, codes, encode_utf8_all, if◌then◌else◌, Result, Ok, Err}
use Rattle.std.specs.List.{list_any}
use Rattle.std.proofs.lemmas.Bool.{eqb-true}
use Rattle.std.proofs.lemmas.Slice.Eq.{bytes_eq-Decides}
use Rattle.atspi_types.specs.Data.{Data}
use Rattle.atspi_message.specs.Envelope.{Envelope}
use Rattle.atspi_protocol.specs.ends.Messages.{returns, fails}
use Rattle.atspi_protocol.specs.declared.members.member.ObjectMember.{ObjectMember}
use Rattle.atspi_protocol.specs.declared.members.member.ObjectMember.TheVariants as members
use Rattle.atspi_protocol.specs.declared.following.question.Question.TheVariants.{RegisterEvent}
use Rattle.atspi_protocol.specs.following.Calls.{asking}
use Rattle.atspi_protocol.specs.members.Asked.{Asked, calls, gets, gets_all, sets, asked}
use Rattle.atspi_protocol.specs.members.Arguments.{text_at}
use Rattle.atspi_protocol.specs.registering.RegistryState.{RegistryState, is_of, is_pair as is_the_pair, has_pair, without_pair}
use Rattle.atspi_protocol.specs.registering.Told.{registered, deregistered}
use Rattle.atspi_protocol.specs.registering.Answers.{Answer, only, registers, reference_in, adopts, new_child, releases, answers_member, object_at}
use Rattle.atspi_protocol.specs.ends.Places.{registry_root}
use Rattle.atspi_protocol.specs.registering.Steps.{answer_to, called_by, named, hears, name_told, name_gone, takes_as, registry_takes}
use Rattle.atspi_protocol.specs.exporting.Hearing.{is_pair, is_heard}
use Rattle.atspi_trace_laws.specs.missed.Laws.{TakesAway, PairsComeAndGo}
use Rattle.atspi_trace_laws.proofs.OfOrder.Parties.{false_true}
use Rattle.atspi_trace_laws.proofs.OfMissed.Deregistering.{MemberSays, SaysSo, registry_says}
use Rattle.atspi_trace_laws.proofs.OfMissed.Telling.{Pair, and_left, or_true, pair_same, pair_turned, any_alike, heard_filter, heard_append}

-- A PAIR COMES
abbrev registers_if : RegistryState → List ℕ → List ℕ → Bool → Answer
registers_if s caller pattern b =
    if b then only s (returns []) else record (only s (returns [])) { pairs = s.pairs ++ (caller, pattern) ∷ []; before = registered (caller, pattern) ∷ [] }

registers_it : (s : RegistryState) (caller pattern : List ℕ) → is_heard (registers s caller pattern).pairs (caller, pattern) ≡ true
registers_it s caller pattern = by (has_pair s.pairs caller pattern) refl
  where
    by : (b : Bool) → has_pair s.pairs caller pattern ≡ b → is_heard (registers s caller pattern).pairs (caller, pattern) ≡ true
    by true k =
        ap (λ b. is_heard (registers_if s caller pattern b).pairs (caller, pattern)) k
        ∙ any_alike (is_pair (caller, pattern)) (is_the_pair caller pattern) s.pairs (λ q. pair_turned (caller, pattern) q) ∙ k
    by false k =
        ap (λ b. is_heard (registers_if s caller pattern b).pairs (caller, pattern)) k ∙ heard_append (caller, pattern) s.pairs ((caller, pattern) ∷ [])
        ∙ or_true (is_heard s.pairs (caller, pattern)) (is_pair (caller, pattern) (caller, pattern) || false) (ap (λ b. b || false) (pair_same (caller, pattern)))

comes_in : (s : RegistryState) (own listener pattern : List ℕ) (serial : ℕ) → s.own ≡ Some own
    → is_heard (registry_takes s (record (asking serial (RegisterEvent pattern)) { sender = Some listener })).state.pairs (listener, pattern) ≡ true
comes_in s own listener pattern serial is =
    let e = record (asking serial (RegisterEvent pattern)) { sender = Some listener } in
    ap (λ o. is_heard (takes_as s e o).state.pairs (listener, pattern)) is ∙ registers_it s listener pattern

-- A PAIR GOES
-- of a list without some: one that it has no longer is one of those
left_out : (pair : Pair) (f : Pair → Bool) (pairs : List Pair) → is_heard pairs pair ≡ true → is_heard (filter (λ q. not (f q)) pairs) pair ≡ false → f pair ≡ true
left_out pair f pairs h g = by (f pair) refl
  where
    by : (b : Bool) → f pair ≡ b → f pair ≡ true
    by true k = k
    by false k = absurd (false_true (sym g ∙ heard_filter pair (λ q. not (f q)) pairs ∙ ap (λ b. not b && is_heard pairs pair) k ∙ h))

-- what the answer to a call leaves out is the caller's
abbrev Leaves : Option (List ℕ) → List Pair → List ℕ → List Pair → Type 0
Leaves text pairs caller after = (pair : Pair) → is_heard pairs pair ≡ true → is_heard after pair ≡ false → (text ≡ Some (codes "DeregisterEvent")) × (pair.0 ≡ caller)

none_left : (text : Option (List ℕ)) (pairs : List Pair) (caller : List ℕ) → Leaves text pairs caller pairs
none_left text pairs caller pair h g = absurd (false_true (sym g ∙ h))

registers_leaves : (text : Option (List ℕ)) (s : RegistryState) (caller pattern : List ℕ) (b : Bool) → Leaves text s.pairs caller (registers_if s caller pattern b).pairs
registers_leaves text s caller pattern true = none_left text s.pairs caller
registers_leaves text s caller pattern false = λ pair h g.
    absurd (false_true (sym g ∙ heard_append pair s.pairs ((caller, pattern) ∷ []) ∙ ap (λ b. b || is_heard ((caller, pattern) ∷ []) pair) h))

deregisters_leaves : (text : Option (List ℕ)) (s : RegistryState) (caller pattern : List ℕ) (b : Bool) → text ≡ Some (codes "DeregisterEvent")
    → Leaves text s.pairs caller
    (if b then record (only s (returns [])) { pairs = without_pair s.pairs caller pattern; before = deregistered (caller, pattern) ∷ [] } else only s (returns [])).pairs
deregisters_leaves text s caller pattern false says = none_left text s.pairs caller
deregisters_leaves text s caller pattern true says = λ pair h g.
    (says, (bytes_eq-Decides pair.0 caller).0 (and_left (bytes_eq pair.0 caller) (bytes_eq pair.1 pattern) (left_out pair (is_the_pair caller pattern) s.pairs h g)))

own_leaves : (text : Option (List ℕ)) (s : RegistryState) (caller : List ℕ) (b : Bool) (a : Answer) → a.pairs ≡ s.pairs → Leaves text s.pairs caller (if b then a else only s (fails (codes "InvalidArgs"))).pairs
own_leaves text s caller true a h = subst (Leaves text s.pairs caller) (sym h) (none_left text s.pairs caller)
own_leaves text s caller false a h = none_left text s.pairs caller

adopts_same : (s : RegistryState) (child : Pair) (b : Bool) → (if b then only s (returns (registry_root ∷ [])) else new_child s child).pairs ≡ s.pairs
adopts_same s child true = refl
adopts_same s child false = refl

member_leaves : (text : Option (List ℕ)) (member : ObjectMember) (s : RegistryState) (own caller : List ℕ) (args : List Data) → MemberSays text member → Leaves text s.pairs caller (answers_member member s own caller args).pairs
member_leaves text members.RegisterEvent s own caller args says = registers_leaves text s caller (text_at 0 args) (has_pair s.pairs caller (text_at 0 args))
member_leaves text members.DeregisterEvent s own caller args says = deregisters_leaves text s caller (text_at 0 args) (has_pair s.pairs caller (text_at 0 args)) says
member_leaves text members.Embed s own caller args says =
    let child : Pair = (caller, (reference_in args).1) in
    own_leaves text s caller (bytes_eq (encode_utf8_all (reference_in args).0) caller) (adopts s child) (adopts_same s child (list_any (is_of caller) s.children))
member_leaves text members.Unembed s own caller args says = own_leaves text s caller (bytes_eq (encode_utf8_all (reference_in args).0) caller) (releases s caller) refl
member_leaves text _ s own caller args says = none_left text s.pairs caller

answer_leaves : (text : Option (List ℕ)) (r : Result Asked (List ℕ)) (s : RegistryState) (own caller : List ℕ) → SaysSo text r → Leaves text s.pairs caller (answer_to s own caller r).pairs
answer_leaves text (Ok (calls member args)) s own caller says = member_leaves text member s own caller args says
answer_leaves text (Ok (gets property)) s own caller says = none_left text s.pairs caller
answer_leaves text (Ok (gets_all ls)) s own caller says = none_left text s.pairs caller
answer_leaves text (Ok (sets property d)) s own caller says = none_left text s.pairs caller
answer_leaves text (Err word) s own caller says = none_left text s.pairs caller

abbrev Goes_by : RegistryState → Envelope → List Pair → Type 0
Goes_by s e after = (pair : Pair) → is_heard s.pairs pair ≡ true → is_heard after pair ≡ false → TakesAway e pair

none_goes : (s : RegistryState) (e : Envelope) → Goes_by s e s.pairs
none_goes s e pair h g = absurd (false_true (sym g ∙ h))

called_goes : (s : RegistryState) (own : List ℕ) (e : Envelope) (caller : Option (List ℕ)) → e.kind ≡ 1 → e.sender ≡ caller → Goes_by s e (called_by s own e caller).state.pairs
called_goes s own e None one is = none_goes s e
called_goes s own e (Some caller) one is = λ pair h g.
    let left = answer_leaves e.member (asked (object_at e.path) e.interface e.member e.body) s own caller (registry_says e.path e.interface e.member e.body) pair h g in
    inl (one, left.0, is ∙ ap Some (sym left.1))

left_goes : (s : RegistryState) (e : Envelope) (o : Option (List ℕ)) → name_gone e ≡ o → Goes_by s e (hears s o).state.pairs
left_goes s e None is = none_goes s e
left_goes s e (Some name) is = λ pair h g.
    inr (name, is, (bytes_eq-Decides pair.0 (encode_utf8_all name)).0 (left_out pair (is_of (encode_utf8_all name)) s.pairs h g))

named_goes : (s : RegistryState) (e : Envelope) (o : Option (List ℕ)) → Goes_by s e (named s o).state.pairs
named_goes s e None = none_goes s e
named_goes s e (Some name) = none_goes s e

as_goes : (s : RegistryState) (e : Envelope) (own : Option (List ℕ)) → Goes_by s e (takes_as s e own).state.pairs
as_goes s e None = named_goes s e (name_told s.hello e)
as_goes s e (Some own) = by (e.kind == 1) refl
  where
    by : (b : Bool) → (e.kind == 1) ≡ b → Goes_by s e (if b then called_by s own e e.sender else hears s (name_gone e)).state.pairs
    by true k = called_goes s own e e.sender (eqb-true e.kind 1 k) refl
    by false k = left_goes s e (name_gone e) refl

pub come_and_go : PairsComeAndGo
come_and_go = record {
  comes = comes_in;
  goes = λ s e. as_goes s e s.own;
}
