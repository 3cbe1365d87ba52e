-- The paths of the children that the registry's messages tell of: those of its children alone, and a child has the path that its call to be embedded tells.
use Rattle.std.proofs.Common.{◌≡◌, ℕ, zero, suc, ◌+◌, Bool, true, false, List, [], ◌∷◌, ◌++◌, length, map, take, drop, Option, None, Some, refl, sym, ◌∙◌, subst}
use Rattle.std.specs.Prelude.{◌==◌, ℤ, pos, negsuc, slice_get, bytes_eq, codes, encode_utf8_all, if◌then◌else◌, Result, Ok, Err}
use Rattle.std.specs.List.{AllByRecursion, list_any}
use Rattle.std.proofs.lemmas.Bool.{eqb-true}
use Rattle.atspi_types.specs.Data.{Data, type_of, text_data, structure_data, items_of, values_in}
use Rattle.atspi_types.specs.Signatures.{type_bytes}
use Rattle.atspi_message.specs.Envelope.{Envelope}
use Rattle.atspi_tree_model.specs.declared.news.Reference.{Reference}
use Rattle.atspi_protocol.specs.ends.Places.{reference, registry_root}
use Rattle.atspi_protocol.specs.ends.Messages.{Reply, returns, fails, reply_to, replies, expects_reply, numbered}
use Rattle.atspi_protocol.specs.declared.members.member.ObjectMember.{ObjectMember}
use Rattle.atspi_protocol.specs.declared.members.member.ObjectMember.TheVariants as members
use Rattle.atspi_protocol.specs.members.Asked.{Asked, calls, gets, gets_all, sets, and_then, member_of, pieces_asked, properties_of, property_of, set_to, asked_by, asked}
use Rattle.atspi_protocol.specs.members.Granularity.{grain_of}
use Rattle.atspi_units.specs.declared.grain.Grain.{Grain}
use Rattle.atspi_protocol.specs.members.Arguments.{text_at, unsigned_at, value_at, signed_at}
use Rattle.atspi_protocol.specs.members.Table.{PropertyLine}
use Rattle.atspi_protocol.specs.members.Objects.{Object}
use Rattle.atspi_protocol.specs.news.Arguments.{event_in, reference_in as reference_told}
use Rattle.atspi_protocol.specs.news.Replies.{elements_of}
use Rattle.atspi_protocol.specs.following.Known.{references_among, child_added}
use Rattle.atspi_protocol.specs.registering.RegistryState.{RegistryState, is_of, has_pair, without_pair, pairs_of, pairs_without, child_place}
use Rattle.atspi_protocol.specs.registering.Told.{registered, deregistered, id_call, children_changed, is_asked_for}
use Rattle.atspi_protocol.specs.registering.Answers.{Answer, only, registers, deregisters, reference_in, new_child, adopts, children_without, news_of_removal_at, news_of_removal, releases, child_or_nobody, child_at, answers_member, object_at}
use Rattle.atspi_protocol.specs.registering.Steps.{RegistryStep, answered, answer_to, called_by, named, hears, name_told, name_gone, takes_as, registry_takes}
use Rattle.atspi_trace_laws.proofs.OfOrder.Parties.{no_none, same_some, all_append}
use Rattle.atspi_trace_laws.proofs.OfMissed.Deregistering.{MemberSays, SaysSo, registry_says}
use Rattle.atspi_trace_laws.proofs.OfMissed.Telling.{Pair}

-- PATHS IN A BODY: those of the references that it lists, and that of the child of which it tells that it was added
abbrev pub PathsOnly : (List ℕ → Type 0) → List Data → Type 0
PathsOnly P body =
    AllByRecursion (λ (root : Reference). P root.path) (references_among (elements_of body)) × ((root : Reference) → child_added (event_in body) ≡ Some root → P root.path)

abbrev pub PathsIn : (List ℕ → Type 0) → List Envelope → Type 0
PathsIn P ms = AllByRecursion (λ (m : Envelope). PathsOnly P m.body) ms

abbrev pub AreSo : (List ℕ → Type 0) → List Pair → Type 0
AreSo P children = AllByRecursion (λ (child : Pair). P child.1) children

-- an answer that tells only such, and keeps only such children
abbrev values_of : Reply → List Data
values_of (returns values) = values
values_of (fails word) = []

record AnswersOnly (P : List ℕ → Type 0) (a : Answer) : Type 0 where
  before : PathsIn P a.before
  reply : PathsOnly P (values_of a.reply)
  behind : PathsIn P a.behind
  children : AreSo P a.children

-- THE ARGUMENTS of a call are its body
abbrev ArgsAre : List Data → Result Asked (List ℕ) → Type 0
ArgsAre body (Ok (calls asked_ args)) = args ≡ body
ArgsAre body r = Unit {0}

gets_args : (body : List Data) (r : Result PropertyLine (List ℕ)) → ArgsAre body (and_then (λ (l : PropertyLine). Ok (gets l.property)) r)
gets_args body (Ok l) = tt
gets_args body (Err word) = tt

all_args : (body : List Data) (r : Result (List PropertyLine) (List ℕ)) → ArgsAre body (and_then (λ ls. Ok (gets_all ls)) r)
all_args body (Ok l) = tt
all_args body (Err word) = tt

set_args : (body : List Data) (value : Option Data) (l : PropertyLine) → ArgsAre body (set_to value l)
set_args body None l = by l.is_settable
  where
    by : (b : Bool) → ArgsAre body (if b then Err (codes "InvalidArgs") else Err (codes "PropertyReadOnly"))
    by true = tt
    by false = tt
set_args body (Some d) l = by l.is_settable (bytes_eq (type_bytes (type_of d)) l.type)
  where
    by : (b c : Bool) → ArgsAre body (if b then (if c then Ok (sets l.property d) else Err (codes "InvalidArgs")) else Err (codes "PropertyReadOnly"))
    by true true = tt
    by true false = tt
    by false c = tt

sets_args : (body : List Data) (value : Option Data) (r : Result PropertyLine (List ℕ)) → ArgsAre body (and_then (set_to value) r)
sets_args body value (Ok l) = set_args body value l
sets_args body value (Err word) = tt

pieces_args : (body : List Data) (grain : Option Grain) → ArgsAre body (pieces_asked body grain)
pieces_args body None = tt
pieces_args body (Some grain) = refl

by_args : (o : Object) (body : List Data) (member : ObjectMember) → ArgsAre body (asked_by o body member)
by_args o body members.Get = gets_args body (property_of o (text_at 0 body) (text_at 1 body))
by_args o body members.GetAll = all_args body (properties_of o (text_at 0 body))
by_args o body members.Set = sets_args body (value_at 2 body) (property_of o (text_at 0 body) (text_at 1 body))
by_args o body members.GetStringAtOffset = pieces_args body (grain_of (unsigned_at 1 body))
by_args o body other = refl

args_are : (o : Option Object) (interface text : Option (List ℕ)) (body : List Data) → ArgsAre body (asked o interface text body)
args_are None interface text body = tt
args_are (Some o) interface text body = by (member_of o interface text body)
  where
    by : (r : Result ObjectMember (List ℕ)) → ArgsAre body (and_then (asked_by o body) r)
    by (Ok member) = by_args o body member
    by (Err word) = tt

-- LISTS of pairs
all_take : (P : Pair → Type 0) (i : ℕ) (xs : List Pair) → AllByRecursion P xs → AllByRecursion P (take i xs)
all_take P zero xs a = tt
all_take P (suc i) [] a = tt
all_take P (suc i) (x ∷ xs) a = (a.0, all_take P i xs a.1)

all_drop : (P : Pair → Type 0) (i : ℕ) (xs : List Pair) → AllByRecursion P xs → AllByRecursion P (drop i xs)
all_drop P zero xs a = a
all_drop P (suc i) [] a = tt
all_drop P (suc i) (x ∷ xs) a = all_drop P i xs a.1

all_at : (P : Pair → Type 0) (xs : List Pair) (i : ℕ) (x : Pair) → AllByRecursion P xs → slice_get xs i ≡ Some x → P x
all_at P [] i x a h = absurd (no_none x h)
all_at P (y ∷ ys) zero x a h = subst P (same_some y x h) a.0
all_at P (y ∷ ys) (suc i) x a h = all_at P ys i x a.1 h

module _ (P : List ℕ → Type 0) where
  known_without : (children : List Pair) (place : Option ℕ) → AreSo P children → AreSo P (children_without children place)
  known_without children None a = a
  known_without children (Some i) a =
      all_append (λ (child : Pair). P child.1) (take i children) (drop (suc i) children) (all_take (λ (child : Pair). P child.1) i children a) (all_drop (λ (child : Pair). P child.1) (suc i) children a)

  -- BODIES
  silent : (body : List Data) → references_among (elements_of body) ≡ [] → child_added (event_in body) ≡ None → PathsOnly P body
  silent body none never = (subst (AllByRecursion (λ (root : Reference). P root.path)) (sym none) tt, λ root h. absurd (no_none root (sym never ∙ h)))

  changed_paths : (minor : List ℕ) (index : ℕ) (child : Pair) → P child.1 → PathsOnly P (children_changed minor index child).body
  changed_paths minor index child p = (tt, λ root h. by (bytes_eq minor (codes "add")) root h)
    where
      by : (b : Bool) (root : Reference) → (if b then reference_told (reference child.0 child.1) else None) ≡ Some root → P root.path
      by true root h = subst (λ (r : Reference). P r.path) (same_some (record { bus = child.0; path = child.1 }) root h) p
      by false root h = absurd (no_none root h)

  listed_paths : (children : List Pair) → AreSo P children → AllByRecursion (λ (root : Reference). P root.path) (references_among (values_in (items_of (map (λ (r : Pair). reference r.0 r.1) children))))
  listed_paths [] a = tt
  listed_paths (child ∷ children) a = (a.0, listed_paths children a.1)

  pairs_silent : (pairs : List Pair) → references_among (values_in (items_of (map (λ (p : Pair). structure_data (items_of (text_data p.0 ∷ text_data p.1 ∷ []))) pairs))) ≡ []
  pairs_silent [] = refl
  pairs_silent (p ∷ ps) = pairs_silent ps

  -- MESSAGES
  news_paths : (b : Bool) (minor : List ℕ) (index : ℕ) (child : Pair) → P child.1 → PathsIn P (if b then children_changed minor index child ∷ [] else [])
  news_paths true minor index child p = (changed_paths minor index child p, tt)
  news_paths false minor index child p = tt

  removal_at : (pairs : List Pair) (i : ℕ) (o : Option Pair) → ((child : Pair) → o ≡ Some child → P child.1) → PathsIn P (news_of_removal_at pairs i o)
  removal_at pairs i None f = tt
  removal_at pairs i (Some child) f = news_paths (is_asked_for pairs (codes "remove")) (codes "remove") i child (f child refl)

  removal_paths : (pairs children : List Pair) (place : Option ℕ) → AreSo P children → PathsIn P (news_of_removal pairs children place)
  removal_paths pairs children None a = tt
  removal_paths pairs children (Some i) a = removal_at pairs i (slice_get children i) (λ child h. all_at (λ (c : Pair). P c.1) children i child a h)

  fallen_paths : (pairs : List Pair) → PathsIn P (map deregistered pairs)
  fallen_paths [] = tt
  fallen_paths (p ∷ ps) = (silent (deregistered p).body refl refl, fallen_paths ps)

  paths_numbered : (n : ℕ) (ms : List Envelope) → PathsIn P ms → PathsIn P (numbered n ms)
  paths_numbered n [] a = tt
  paths_numbered n (m ∷ ms) a = (a.0, paths_numbered (n + 1) ms a.1)

  -- ANSWERS
  only_paths : (s : RegistryState) (reply : Reply) → AreSo P s.children → PathsOnly P (values_of reply) → AnswersOnly P (only s reply)
  only_paths s reply known names = record { before = tt; reply = names; behind = tt; children = known }

  plainly : (s : RegistryState) (reply : Reply) → AreSo P s.children → references_among (elements_of (values_of reply)) ≡ [] → child_added (event_in (values_of reply)) ≡ None → AnswersOnly P (only s reply)
  plainly s reply known none never = only_paths s reply known (silent (values_of reply) none never)

  registers_paths : (s : RegistryState) (caller pattern : List ℕ) → AreSo P s.children → AnswersOnly P (registers s caller pattern)
  registers_paths s caller pattern known = by (has_pair s.pairs caller pattern)
    where
      by : (b : Bool) → AnswersOnly P (if b then only s (returns []) else record (only s (returns [])) { pairs = s.pairs ++ (caller, pattern) ∷ []; before = registered (caller, pattern) ∷ [] })
      by true = plainly s (returns []) known refl refl
      by false = record { before = (silent (registered (caller, pattern)).body refl refl, tt); reply = silent [] refl refl; behind = tt; children = known }

  deregisters_paths : (s : RegistryState) (caller pattern : List ℕ) → AreSo P s.children → AnswersOnly P (deregisters s caller pattern)
  deregisters_paths s caller pattern known = by (has_pair s.pairs caller pattern)
    where
      by : (b : Bool) → AnswersOnly P (if b then record (only s (returns [])) { pairs = without_pair s.pairs caller pattern; before = deregistered (caller, pattern) ∷ [] } else only s (returns []))
      by true = record { before = (silent (deregistered (caller, pattern)).body refl refl, tt); reply = silent [] refl refl; behind = tt; children = known }
      by false = plainly s (returns []) known refl refl

  own_paths : (s : RegistryState) (b : Bool) (a : Answer) → AreSo P s.children → AnswersOnly P a → AnswersOnly P (if b then a else only s (fails (codes "InvalidArgs")))
  own_paths s true a known t = t
  own_paths s false a known t = plainly s (fails (codes "InvalidArgs")) known refl refl

  adopts_paths : (s : RegistryState) (child : Pair) (b : Bool) → AreSo P s.children → P child.1 → AnswersOnly P (if b then only s (returns (registry_root ∷ [])) else new_child s child)
  adopts_paths s child true known p = plainly s (returns (registry_root ∷ [])) known refl refl
  adopts_paths s child false known p = record {
    before = tt;
    reply = silent (registry_root ∷ []) refl refl;
    behind = (silent (id_call child s.embeds).body refl refl, news_paths (is_asked_for s.pairs (codes "add")) (codes "add") (length s.children) child p);
    children = all_append (λ (c : Pair). P c.1) s.children (child ∷ []) known (p, tt);
  }

  releases_paths : (s : RegistryState) (caller : List ℕ) → AreSo P s.children → AnswersOnly P (releases s caller)
  releases_paths s caller known = record {
    before = removal_paths s.pairs s.children (child_place s.children caller) known;
    reply = silent [] refl refl;
    behind = tt;
    children = known_without s.children (child_place s.children caller) known;
  }

  child_silent : (children : List Pair) (own : List ℕ) (i : ℤ) → (references_among (elements_of (child_at children own i ∷ [])) ≡ []) × (child_added (event_in (child_at children own i ∷ [])) ≡ None)
  child_silent children own (negsuc n) = (refl, refl)
  child_silent children own (pos n) = by (slice_get children n)
    where
      by : (o : Option Pair) → (references_among (elements_of (child_or_nobody own o ∷ [])) ≡ []) × (child_added (event_in (child_or_nobody own o ∷ [])) ≡ None)
      by None = (refl, refl)
      by (Some child) = (refl, refl)

  -- a caller becomes a child with a call that says so
  member_paths : (text : Option (List ℕ)) (member : ObjectMember) (s : RegistryState) (own caller : List ℕ) (args : List Data) → AreSo P s.children → (text ≡ Some (codes "Embed") → P (reference_in args).1) → MemberSays text member
      → AnswersOnly P (answers_member member s own caller args)
  member_paths text members.RegisterEvent s own caller args known p says = registers_paths s caller (text_at 0 args) known
  member_paths text members.DeregisterEvent s own caller args known p says = deregisters_paths s caller (text_at 0 args) known
  member_paths text members.GetRegisteredEvents s own caller args known p says = plainly s (answers_member members.GetRegisteredEvents s own caller args).reply known (pairs_silent s.pairs) refl
  member_paths text members.Embed s own caller args known p says =
      let child : Pair = (caller, (reference_in args).1) in
      own_paths s (bytes_eq (encode_utf8_all (reference_in args).0) caller) (adopts s child) known (adopts_paths s child (list_any (is_of caller) s.children) known (p says))
  member_paths text members.Unembed s own caller args known p says = own_paths s (bytes_eq (encode_utf8_all (reference_in args).0) caller) (releases s caller) known (releases_paths s caller known)
  member_paths text members.GetChildren s own caller args known p says =
      only_paths s (answers_member members.GetChildren s own caller args).reply known (listed_paths s.children known, λ root h. absurd (no_none root h))
  member_paths text members.GetChildAtIndex s own caller args known p says =
      let none = child_silent s.children own (signed_at 0 args) in
      plainly s (returns (child_at s.children own (signed_at 0 args) ∷ [])) known none.0 none.1
  member_paths text member s own caller args known p says = plainly s (answers_member member s own caller args).reply known refl refl

  answer_paths : (text : Option (List ℕ)) (body : List Data) (r : Result Asked (List ℕ)) (s : RegistryState) (own caller : List ℕ) → AreSo P s.children → (text ≡ Some (codes "Embed") → P (reference_in body).1) → ArgsAre body r
      → SaysSo text r
      → AnswersOnly P (answer_to s own caller r)
  answer_paths text body (Ok (calls member args)) s own caller known p same says = member_paths text member s own caller args known (λ h. subst (λ b. P (reference_in b).1) (sym same) (p h)) says
  answer_paths text body (Ok (gets property)) s own caller known p same says = plainly s (answer_to s own caller (Ok (gets property))).reply known refl refl
  answer_paths text body (Ok (gets_all ls)) s own caller known p same says = plainly s (answer_to s own caller (Ok (gets_all ls))).reply known refl refl
  answer_paths text body (Ok (sets property d)) s own caller known p same says = plainly s (fails (codes "PropertyReadOnly")) known refl refl
  answer_paths text body (Err word) s own caller known p same says = plainly s (fails word) known refl refl

  -- THE STEP
  abbrev Paths : RegistryStep → Type 0
  Paths step = PathsIn P step.sent × AreSo P step.state.children

  reply_paths : (b : Bool) (caller : List ℕ) (serial : ℕ) (reply : Reply) → PathsOnly P (values_of reply) → PathsIn P (if b then reply_to caller serial reply ∷ [] else [])
  reply_paths true caller serial (returns values) names = (names, tt)
  reply_paths true caller serial (fails word) names = (silent (text_data word ∷ []) refl refl, tt)
  reply_paths false caller serial reply names = tt

  answered_paths : (s : RegistryState) (caller : List ℕ) (e : Envelope) (a : Answer) → AnswersOnly P a → Paths (answered s caller e a)
  answered_paths s caller e a t =
      let reply = replies caller e a.reply in (
        paths_numbered s.next (a.before ++ (reply ++ a.behind))
            (all_append (λ (m : Envelope). PathsOnly P m.body) a.before (reply ++ a.behind) t.before
            (all_append (λ (m : Envelope). PathsOnly P m.body) reply a.behind (reply_paths (expects_reply e) caller e.serial a.reply t.reply) t.behind)),
        t.children,
      )

  abbrev Embeds_as : Envelope → Type 0
  Embeds_as e = e.kind ≡ 1 → e.member ≡ Some (codes "Embed") → P (reference_in e.body).1

  called_paths : (s : RegistryState) (own : List ℕ) (e : Envelope) (o : Option (List ℕ)) → e.kind ≡ 1 → e.sender ≡ o → AreSo P s.children → Embeds_as e → Paths (called_by s own e o)
  called_paths s own e None one is known p = (tt, known)
  called_paths s own e (Some caller) one is known p =
      let question = asked (object_at e.path) e.interface e.member e.body in
      answered_paths s caller e (answer_to s own caller question)
      (answer_paths e.member e.body question s own caller known (p one) (args_are (object_at e.path) e.interface e.member e.body) (registry_says e.path e.interface e.member e.body))

  left_paths : (s : RegistryState) (o : Option (List ℕ)) → AreSo P s.children → Paths (hears s o)
  left_paths s None known = (tt, known)
  left_paths s (Some word) known =
      let name = encode_utf8_all word in
      let place = child_place s.children name in
      let fallen = map deregistered (pairs_of s.pairs name) in
      let news = news_of_removal (pairs_without s.pairs name) s.children place in (
        paths_numbered s.next (fallen ++ news) (all_append (λ (m : Envelope). PathsOnly P m.body) fallen news (fallen_paths (pairs_of s.pairs name)) (removal_paths (pairs_without s.pairs name) s.children place known)),
        known_without s.children place known,
      )

  named_paths : (s : RegistryState) (o : Option (List ℕ)) → AreSo P s.children → Paths (named s o)
  named_paths s None known = (tt, known)
  named_paths s (Some name) known = (tt, known)

  as_paths : (s : RegistryState) (e : Envelope) (o : Option (List ℕ)) → AreSo P s.children → Embeds_as e → Paths (takes_as s e o)
  as_paths s e None known p = named_paths s (name_told s.hello e) known
  as_paths s e (Some own) known p = by (e.kind == 1) refl
    where
      by : (b : Bool) → (e.kind == 1) ≡ b → Paths (if b then called_by s own e e.sender else hears s (name_gone e))
      by true h = called_paths s own e e.sender (eqb-true e.kind 1 h) refl known p
      by false h = left_paths s (name_gone e) known

  pub registry_paths : (s : RegistryState) (e : Envelope) → AreSo P s.children → (e.kind ≡ 1 → e.member ≡ Some (codes "Embed") → P (reference_in e.body).1)
      → PathsIn P (registry_takes s e).sent × AreSo P (registry_takes s e).state.children
  registry_paths s e known p = as_paths s e s.own known p
