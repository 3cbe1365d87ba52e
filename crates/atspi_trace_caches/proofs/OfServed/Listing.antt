-- What the registry's messages name as applications: its children alone, and a child has the name of one that asked to be embedded.
use Rattle.std.proofs.Common.{◌≡◌, ℕ, zero, suc, ◌+◌, Bool, true, false, List, [], ◌∷◌, ◌++◌, length, map, take, drop, Option, None, Some, refl, sym, ◌∙◌, subst}
use Rattle.std.specs.Prelude.{◌==◌, ℤ, pos, negsuc, slice_get, bytes_eq, codes, encode_utf8_all, if◌then◌else◌, Result, Ok, Err}
use Rattle.std.specs.List.{AllByRecursion, list_any}
use Rattle.std.proofs.lemmas.Bool.{eqb-true}
use Rattle.atspi_types.specs.Data.{Data, text_data, structure_data, items_of, values_in}
use Rattle.atspi_message.specs.Envelope.{Envelope}
use Rattle.atspi_tree_model.specs.declared.news.Reference.{Reference}
use Rattle.atspi_protocol.specs.ends.Places.{reference, registry_root}
use Rattle.atspi_protocol.specs.ends.Messages.{Reply, returns, fails, reply_to, replies, expects_reply, numbered}
use Rattle.atspi_protocol.specs.declared.members.member.ObjectMember.{ObjectMember}
use Rattle.atspi_protocol.specs.declared.members.member.ObjectMember.TheVariants as members
use Rattle.atspi_protocol.specs.members.Asked.{Asked, calls, gets, gets_all, sets, asked}
use Rattle.atspi_protocol.specs.members.Arguments.{text_at, signed_at}
use Rattle.atspi_protocol.specs.news.Arguments.{event_in, reference_in as reference_told}
use Rattle.atspi_protocol.specs.news.Replies.{elements_of}
use Rattle.atspi_protocol.specs.following.Known.{references_among, child_added}
use Rattle.atspi_protocol.specs.registering.RegistryState.{RegistryState, is_of, has_pair, without_pair, pairs_of, pairs_without, child_place}
use Rattle.atspi_protocol.specs.registering.Told.{registered, deregistered, id_call, children_changed, is_asked_for}
use Rattle.atspi_protocol.specs.registering.Answers.{Answer, only, registers, deregisters, reference_in, new_child, adopts, children_without, news_of_removal_at, news_of_removal, releases, child_or_nobody, child_at, answers_member, object_at}
use Rattle.atspi_protocol.specs.registering.Steps.{RegistryStep, answered, answer_to, called_by, named, hears, name_told, name_gone, takes_as, registry_takes}
use Rattle.atspi_trace_laws.proofs.OfOrder.Parties.{no_none, same_some, all_append}
use Rattle.atspi_trace_laws.proofs.OfMissed.Deregistering.{MemberSays, SaysSo, registry_says}
use Rattle.atspi_trace_laws.proofs.OfMissed.Telling.{Pair}

-- NAMES IN A BODY: those of the references that it lists, and that of the child of which it tells that it was added
abbrev pub NamesOnly : (List ℕ → Type 0) → List Data → Type 0
NamesOnly P body =
    AllByRecursion (λ (root : Reference). P root.bus) (references_among (elements_of body)) × ((root : Reference) → child_added (event_in body) ≡ Some root → P root.bus)

abbrev pub NamesIn : (List ℕ → Type 0) → List Envelope → Type 0
NamesIn P ms = AllByRecursion (λ (m : Envelope). NamesOnly P m.body) ms

abbrev pub AreKnown : (List ℕ → Type 0) → List Pair → Type 0
AreKnown P children = AllByRecursion (λ (child : Pair). P child.0) children

-- an answer that names only such, and keeps only such children
abbrev values_of : Reply → List Data
values_of (returns values) = values
values_of (fails word) = []

record AnswersOnly (P : List ℕ → Type 0) (a : Answer) : Type 0 where
  before : NamesIn P a.before
  reply : NamesOnly P (values_of a.reply)
  behind : NamesIn P a.behind
  children : AreKnown P a.children

-- LISTS of pairs
all_take : (P : Pair → Type 0) (i : ℕ) (xs : List Pair) → AllByRecursion P xs → AllByRecursion P (take i xs)
all_take P zero xs a = tt
all_take P (suc i) [] a = tt
all_take P (suc i) (x ∷ xs) a = (a.0, all_take P i xs a.1)

all_drop : (P : Pair → Type 0) (i : ℕ) (xs : List Pair) → AllByRecursion P xs → AllByRecursion P (drop i xs)
all_drop P zero xs a = a
all_drop P (suc i) [] a = tt
all_drop P (suc i) (x ∷ xs) a = all_drop P i xs a.1

all_at : (P : Pair → Type 0) (xs : List Pair) (i : ℕ) (x : Pair) → AllByRecursion P xs → slice_get xs i ≡ Some x → P x
all_at P [] i x a h = absurd (no_none x h)
all_at P (y ∷ ys) zero x a h = subst P (same_some y x h) a.0
all_at P (y ∷ ys) (suc i) x a h = all_at P ys i x a.1 h

module _ (P : List ℕ → Type 0) where
  known_without : (children : List Pair) (place : Option ℕ) → AreKnown P children → AreKnown P (children_without children place)
  known_without children None a = a
  known_without children (Some i) a =
      all_append (λ (child : Pair). P child.0) (take i children) (drop (suc i) children) (all_take (λ (child : Pair). P child.0) i children a) (all_drop (λ (child : Pair). P child.0) (suc i) children a)

  -- BODIES
  silent : (body : List Data) → references_among (elements_of body) ≡ [] → child_added (event_in body) ≡ None → NamesOnly P body
  silent body none never = (subst (AllByRecursion (λ (root : Reference). P root.bus)) (sym none) tt, λ root h. absurd (no_none root (sym never ∙ h)))

  changed_names : (minor : List ℕ) (index : ℕ) (child : Pair) → P child.0 → NamesOnly P (children_changed minor index child).body
  changed_names minor index child p = (tt, λ root h. by (bytes_eq minor (codes "add")) root h)
    where
      by : (b : Bool) (root : Reference) → (if b then reference_told (reference child.0 child.1) else None) ≡ Some root → P root.bus
      by true root h = subst (λ (r : Reference). P r.bus) (same_some (record { bus = child.0; path = child.1 }) root h) p
      by false root h = absurd (no_none root h)

  listed_names : (children : List Pair) → AreKnown P children → AllByRecursion (λ (root : Reference). P root.bus) (references_among (values_in (items_of (map (λ (r : Pair). reference r.0 r.1) children))))
  listed_names [] a = tt
  listed_names (child ∷ children) a = (a.0, listed_names children a.1)

  pairs_silent : (pairs : List Pair) → references_among (values_in (items_of (map (λ (p : Pair). structure_data (items_of (text_data p.0 ∷ text_data p.1 ∷ []))) pairs))) ≡ []
  pairs_silent [] = refl
  pairs_silent (p ∷ ps) = pairs_silent ps

  -- MESSAGES
  news_names : (b : Bool) (minor : List ℕ) (index : ℕ) (child : Pair) → P child.0 → NamesIn P (if b then children_changed minor index child ∷ [] else [])
  news_names true minor index child p = (changed_names minor index child p, tt)
  news_names false minor index child p = tt

  removal_at : (pairs : List Pair) (i : ℕ) (o : Option Pair) → ((child : Pair) → o ≡ Some child → P child.0) → NamesIn P (news_of_removal_at pairs i o)
  removal_at pairs i None f = tt
  removal_at pairs i (Some child) f = news_names (is_asked_for pairs (codes "remove")) (codes "remove") i child (f child refl)

  removal_names : (pairs children : List Pair) (place : Option ℕ) → AreKnown P children → NamesIn P (news_of_removal pairs children place)
  removal_names pairs children None a = tt
  removal_names pairs children (Some i) a = removal_at pairs i (slice_get children i) (λ child h. all_at (λ (c : Pair). P c.0) children i child a h)

  fallen_names : (pairs : List Pair) → NamesIn P (map deregistered pairs)
  fallen_names [] = tt
  fallen_names (p ∷ ps) = (silent (deregistered p).body refl refl, fallen_names ps)

  names_numbered : (n : ℕ) (ms : List Envelope) → NamesIn P ms → NamesIn P (numbered n ms)
  names_numbered n [] a = tt
  names_numbered n (m ∷ ms) a = (a.0, names_numbered (n + 1) ms a.1)

  -- ANSWERS
  only_names : (s : RegistryState) (reply : Reply) → AreKnown P s.children → NamesOnly P (values_of reply) → AnswersOnly P (only s reply)
  only_names s reply known names = record { before = tt; reply = names; behind = tt; children = known }

  plainly : (s : RegistryState) (reply : Reply) → AreKnown P s.children → references_among (elements_of (values_of reply)) ≡ [] → child_added (event_in (values_of reply)) ≡ None → AnswersOnly P (only s reply)
  plainly s reply known none never = only_names s reply known (silent (values_of reply) none never)

  registers_names : (s : RegistryState) (caller pattern : List ℕ) → AreKnown P s.children → AnswersOnly P (registers s caller pattern)
  registers_names s caller pattern known = by (has_pair s.pairs caller pattern)
    where
      by : (b : Bool) → AnswersOnly P (if b then only s (returns []) else record (only s (returns [])) { pairs = s.pairs ++ (caller, pattern) ∷ []; before = registered (caller, pattern) ∷ [] })
      by true = plainly s (returns []) known refl refl
      by false = record { before = (silent (registered (caller, pattern)).body refl refl, tt); reply = silent [] refl refl; behind = tt; children = known }

  deregisters_names : (s : RegistryState) (caller pattern : List ℕ) → AreKnown P s.children → AnswersOnly P (deregisters s caller pattern)
  deregisters_names s caller pattern known = by (has_pair s.pairs caller pattern)
    where
      by : (b : Bool) → AnswersOnly P (if b then record (only s (returns [])) { pairs = without_pair s.pairs caller pattern; before = deregistered (caller, pattern) ∷ [] } else only s (returns []))
      by true = record { before = (silent (deregistered (caller, pattern)).body refl refl, tt); reply = silent [] refl refl; behind = tt; children = known }
      by false = plainly s (returns []) known refl refl

  own_names : (s : RegistryState) (b : Bool) (a : Answer) → AreKnown P s.children → AnswersOnly P a → AnswersOnly P (if b then a else only s (fails (codes "InvalidArgs")))
  own_names s true a known t = t
  own_names s false a known t = plainly s (fails (codes "InvalidArgs")) known refl refl

  adopts_names : (s : RegistryState) (child : Pair) (b : Bool) → AreKnown P s.children → P child.0 → AnswersOnly P (if b then only s (returns (registry_root ∷ [])) else new_child s child)
  adopts_names s child true known p = plainly s (returns (registry_root ∷ [])) known refl refl
  adopts_names s child false known p = record {
    before = tt;
    reply = silent (registry_root ∷ []) refl refl;
    behind = (silent (id_call child s.embeds).body refl refl, news_names (is_asked_for s.pairs (codes "add")) (codes "add") (length s.children) child p);
    children = all_append (λ (c : Pair). P c.0) s.children (child ∷ []) known (p, tt);
  }

  releases_names : (s : RegistryState) (caller : List ℕ) → AreKnown P s.children → AnswersOnly P (releases s caller)
  releases_names s caller known = record {
    before = removal_names s.pairs s.children (child_place s.children caller) known;
    reply = silent [] refl refl;
    behind = tt;
    children = known_without s.children (child_place s.children caller) known;
  }

  child_silent : (children : List Pair) (own : List ℕ) (i : ℤ) → (references_among (elements_of (child_at children own i ∷ [])) ≡ []) × (child_added (event_in (child_at children own i ∷ [])) ≡ None)
  child_silent children own (negsuc n) = (refl, refl)
  child_silent children own (pos n) = by (slice_get children n)
    where
      by : (o : Option Pair) → (references_among (elements_of (child_or_nobody own o ∷ [])) ≡ []) × (child_added (event_in (child_or_nobody own o ∷ [])) ≡ None)
      by None = (refl, refl)
      by (Some child) = (refl, refl)

  -- a caller becomes a child with a call that says so
  member_names : (text : Option (List ℕ)) (member : ObjectMember) (s : RegistryState) (own caller : List ℕ) (args : List Data) → AreKnown P s.children → (text ≡ Some (codes "Embed") → P caller) → MemberSays text member
      → AnswersOnly P (answers_member member s own caller args)
  member_names text members.RegisterEvent s own caller args known p says = registers_names s caller (text_at 0 args) known
  member_names text members.DeregisterEvent s own caller args known p says = deregisters_names s caller (text_at 0 args) known
  member_names text members.GetRegisteredEvents s own caller args known p says = plainly s (answers_member members.GetRegisteredEvents s own caller args).reply known (pairs_silent s.pairs) refl
  member_names text members.Embed s own caller args known p says =
      let child : Pair = (caller, (reference_in args).1) in
      own_names s (bytes_eq (encode_utf8_all (reference_in args).0) caller) (adopts s child) known (adopts_names s child (list_any (is_of caller) s.children) known (p says))
  member_names text members.Unembed s own caller args known p says = own_names s (bytes_eq (encode_utf8_all (reference_in args).0) caller) (releases s caller) known (releases_names s caller known)
  member_names text members.GetChildren s own caller args known p says =
      only_names s (answers_member members.GetChildren s own caller args).reply known (listed_names s.children known, λ root h. absurd (no_none root h))
  member_names text members.GetChildAtIndex s own caller args known p says =
      let none = child_silent s.children own (signed_at 0 args) in
      plainly s (returns (child_at s.children own (signed_at 0 args) ∷ [])) known none.0 none.1
  member_names text member s own caller args known p says = plainly s (answers_member member s own caller args).reply known refl refl

  answer_names : (text : Option (List ℕ)) (r : Result Asked (List ℕ)) (s : RegistryState) (own caller : List ℕ) → AreKnown P s.children → (text ≡ Some (codes "Embed") → P caller) → SaysSo text r
      → AnswersOnly P (answer_to s own caller r)
  answer_names text (Ok (calls member args)) s own caller known p says = member_names text member s own caller args known p says
  answer_names text (Ok (gets property)) s own caller known p says = plainly s (answer_to s own caller (Ok (gets property))).reply known refl refl
  answer_names text (Ok (gets_all ls)) s own caller known p says = plainly s (answer_to s own caller (Ok (gets_all ls))).reply known refl refl
  answer_names text (Ok (sets property d)) s own caller known p says = plainly s (fails (codes "PropertyReadOnly")) known refl refl
  answer_names text (Err word) s own caller known p says = plainly s (fails word) known refl refl

  -- THE STEP
  abbrev Names : RegistryStep → Type 0
  Names step = NamesIn P step.sent × AreKnown P step.state.children

  reply_names : (b : Bool) (caller : List ℕ) (serial : ℕ) (reply : Reply) → NamesOnly P (values_of reply) → NamesIn P (if b then reply_to caller serial reply ∷ [] else [])
  reply_names true caller serial (returns values) names = (names, tt)
  reply_names true caller serial (fails word) names = (silent (text_data word ∷ []) refl refl, tt)
  reply_names false caller serial reply names = tt

  answered_names : (s : RegistryState) (caller : List ℕ) (e : Envelope) (a : Answer) → AnswersOnly P a → Names (answered s caller e a)
  answered_names s caller e a t =
      let reply = replies caller e a.reply in (
        names_numbered s.next (a.before ++ (reply ++ a.behind))
            (all_append (λ (m : Envelope). NamesOnly P m.body) a.before (reply ++ a.behind) t.before
            (all_append (λ (m : Envelope). NamesOnly P m.body) reply a.behind (reply_names (expects_reply e) caller e.serial a.reply t.reply) t.behind)),
        t.children,
      )

  abbrev Embeds_as : Envelope → Type 0
  Embeds_as e = (caller : List ℕ) → e.sender ≡ Some caller → e.kind ≡ 1 → e.member ≡ Some (codes "Embed") → P caller

  called_names : (s : RegistryState) (own : List ℕ) (e : Envelope) (o : Option (List ℕ)) → e.kind ≡ 1 → e.sender ≡ o → AreKnown P s.children → Embeds_as e → Names (called_by s own e o)
  called_names s own e None one is known p = (tt, known)
  called_names s own e (Some caller) one is known p =
      let question = asked (object_at e.path) e.interface e.member e.body in
      answered_names s caller e (answer_to s own caller question) (answer_names e.member question s own caller known (p caller is one) (registry_says e.path e.interface e.member e.body))

  left_names : (s : RegistryState) (o : Option (List ℕ)) → AreKnown P s.children → Names (hears s o)
  left_names s None known = (tt, known)
  left_names s (Some word) known =
      let name = encode_utf8_all word in
      let place = child_place s.children name in
      let fallen = map deregistered (pairs_of s.pairs name) in
      let news = news_of_removal (pairs_without s.pairs name) s.children place in (
        names_numbered s.next (fallen ++ news) (all_append (λ (m : Envelope). NamesOnly P m.body) fallen news (fallen_names (pairs_of s.pairs name)) (removal_names (pairs_without s.pairs name) s.children place known)),
        known_without s.children place known,
      )

  named_names : (s : RegistryState) (o : Option (List ℕ)) → AreKnown P s.children → Names (named s o)
  named_names s None known = (tt, known)
  named_names s (Some name) known = (tt, known)

  as_names : (s : RegistryState) (e : Envelope) (o : Option (List ℕ)) → AreKnown P s.children → Embeds_as e → Names (takes_as s e o)
  as_names s e None known p = named_names s (name_told s.hello e) known
  as_names s e (Some own) known p = by (e.kind == 1) refl
    where
      by : (b : Bool) → (e.kind == 1) ≡ b → Names (if b then called_by s own e e.sender else hears s (name_gone e))
      by true h = called_names s own e e.sender (eqb-true e.kind 1 h) refl known p
      by false h = left_names s (name_gone e) known

  pub registry_names : (s : RegistryState) (e : Envelope) → AreKnown P s.children → ((caller : List ℕ) → e.sender ≡ Some caller → e.kind ≡ 1 → e.member ≡ Some (codes "Embed") → P caller)
      → NamesIn P (registry_takes s e).sent × AreKnown P (registry_takes s e).state.children
  registry_names s e known p = as_names s e s.own known p
