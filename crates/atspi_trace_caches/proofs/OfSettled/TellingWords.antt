-- WHAT THE REGISTRY TELLS OF ITS CHILDREN: its list names each; one that comes is told of, where some listener asks for such news; and what an answer to a call for the children is.
use Rattle.std.proofs.Common.{◌≡◌, ◌⊎◌, inl, inr, ℕ, zero, suc, ◌+◌, Bool, true, false, List, [], ◌∷◌, ◌++◌, length, map, Option, None, Some, refl, sym, ap, ◌∙◌, subst}
use Rattle.std.specs.Prelude.{◌==◌, ◌&&◌, ◌||◌, take, drop, bytes_eq, codes, encode_utf8_all, if◌then◌else◌, Result, Ok, Err}
use Rattle.std.specs.List.{AllByRecursion, list_any}
use Rattle.std.proofs.lemmas.Slice.Eq.{bytes_eq-Decides}
use lib.Utf8.{encode}
use Rattle.atspi_types.specs.Data.{Data, items_of, values_in}
use Rattle.atspi_message.specs.Envelope.{Envelope}
use Rattle.atspi_tree_model.specs.declared.news.Reference.{Reference}
use Rattle.atspi_protocol.specs.ends.Covering.{covers}
use Rattle.atspi_protocol.specs.ends.Places.{reference, references, registry_root}
use Rattle.atspi_protocol.specs.ends.Messages.{returns, fails, replies, numbered}
use Rattle.atspi_protocol.specs.declared.members.member.ObjectMember.{ObjectMember}
use Rattle.atspi_protocol.specs.declared.members.member.ObjectMember.TheVariants as members
use Rattle.atspi_protocol.specs.members.Asked.{Asked, calls, gets, gets_all, sets, asked}
use Rattle.atspi_protocol.specs.members.Arguments.{text_at}
use Rattle.atspi_protocol.specs.registering.RegistryState.{RegistryState, is_of, has_pair, without_pair, child_place}
use Rattle.atspi_protocol.specs.registering.Told.{registered, deregistered, children_changed, is_asked_for}
use Rattle.atspi_protocol.specs.registering.Answers.{Answer, only, reference_in, new_child, adopts, children_without, releases, answers_member, object_at}
use Rattle.atspi_protocol.specs.registering.Steps.{RegistryStep, answer_to, called_by, named, hears, name_told, name_gone, takes_as, registry_takes}
use Rattle.atspi_protocol.specs.exporting.Hearing.{is_pair, is_heard}
use Rattle.atspi_protocol.specs.following.Calls.{asking}
use Rattle.atspi_protocol.specs.following.Known.{references_among}
use Rattle.atspi_protocol.specs.declared.following.question.Question.TheVariants.{GetChildren}
use Rattle.atspi_protocol.specs.news.Replies.{elements_of}
use Rattle.atspi_trace_laws.proofs.OfOrder.Parties.{false_true, all_append}

abbrev Pair : Type 0
Pair = List ℕ × List ℕ

-- SOME ONE of a list
abbrev pub HasOne : {X : Type 0} → (X → Type 0) → List X → Type 0
HasOne P [] = ⊥
HasOne P (x ∷ xs) = P x ⊎ HasOne P xs

pub one_front : {X : Type 0} (P : X → Type 0) (xs ys : List X) → HasOne P xs → HasOne P (xs ++ ys)
one_front P [] ys h = absurd h
one_front P (x ∷ xs) ys (inl h) = inl h
one_front P (x ∷ xs) ys (inr h) = inr (one_front P xs ys h)

pub one_back : {X : Type 0} (P : X → Type 0) (xs ys : List X) → HasOne P ys → HasOne P (xs ++ ys)
one_back P [] ys h = h
one_back P (x ∷ xs) ys h = inr (one_back P xs ys h)

pub one_map : {X : Type 0} (P Q : X → Type 0) (xs : List X) → ((x : X) → P x → Q x) → HasOne P xs → HasOne Q xs
one_map P Q [] f h = absurd h
one_map P Q (x ∷ xs) f (inl h) = inl (f x h)
one_map P Q (x ∷ xs) f (inr h) = inr (one_map P Q xs f h)

-- THE NEWS of one, and a list that names it
abbrev pub IsAdd : List ℕ → Envelope → Type 0
IsAdd u m = (index : ℕ) × (path : List ℕ) × (m ≡ record (children_changed (codes "add") index (u, path)) { serial = m.serial })

abbrev pub Names : List ℕ → Envelope → Type 0
Names u m = HasOne (λ (root : Reference). root.bus ≡ u) (references_among (elements_of m.body))

abbrev pub IsChild : Pair → List Pair → Type 0
IsChild c children = HasOne (λ (x : Pair). x ≡ c) children

among_references : (c : Pair) (children : List Pair) → IsChild c children → HasOne (λ (root : Reference). root.bus ≡ c.0) (references_among (values_in (items_of (map (λ (r : Pair). reference r.0 r.1) children))))
among_references c [] h = absurd h
among_references c (x ∷ xs) (inl same) = inl (ap (λ (p : Pair). p.0) same)
among_references c (x ∷ xs) (inr h) = inr (among_references c xs h)

pub lists_child : (c : Pair) (children : List Pair) (m : Envelope) → m.body ≡ references children ∷ [] → IsChild c children → Names c.0 m
lists_child c children m body h = subst (λ b. HasOne (λ (root : Reference). root.bus ≡ c.0) (references_among (elements_of b))) (sym body) (among_references c children h)

-- A STEP: each child afterwards was one before, or is told of
abbrev pub Comes : RegistryState → RegistryStep → Pair → Type 0
Comes s step c = IsChild c s.children ⊎ (is_asked_for s.pairs (codes "add") ≡ true → HasOne (IsAdd c.0) step.sent)

pub all_those : (P : Pair → Type 0) (xs : List Pair) → ((x : Pair) → IsChild x xs → P x) → AllByRecursion P xs
all_those P [] f = tt
all_those P (x ∷ xs) f = (f x (inl refl), all_those P xs (λ y h. f y (inr h)))

all_take : (P : Pair → Type 0) (i : ℕ) (xs : List Pair) → AllByRecursion P xs → AllByRecursion P (take i xs)
all_take P zero xs a = tt
all_take P (suc i) [] a = tt
all_take P (suc i) (x ∷ xs) a = (a.0, all_take P i xs a.1)

all_drop : (P : Pair → Type 0) (i : ℕ) (xs : List Pair) → AllByRecursion P xs → AllByRecursion P (drop i xs)
all_drop P zero xs a = a
all_drop P (suc i) [] a = tt
all_drop P (suc i) (x ∷ xs) a = all_drop P i xs a.1

all_without : (P : Pair → Type 0) (children : List Pair) (place : Option ℕ) → AllByRecursion P children → AllByRecursion P (children_without children place)
all_without P children None a = a
all_without P children (Some i) a = all_append P (take i children) (drop (suc i) children) (all_take P i children a) (all_drop P (suc i) children a)

module _ (s : RegistryState) where
  abbrev Old : Pair → Type 0
  Old c = IsChild c s.children

  old : AllByRecursion Old s.children
  old = all_those Old s.children (λ x h. h)

  -- an answer: each child was one, or is told of behind
  abbrev Kept : Answer → Type 0
  Kept a = AllByRecursion (λ (c : Pair). Old c ⊎ (is_asked_for s.pairs (codes "add") ≡ true → HasOne (IsAdd c.0) a.behind)) a.children

  same_old : (behind : List Envelope) (children : List Pair) → AllByRecursion Old children → AllByRecursion (λ (c : Pair). Old c ⊎ (is_asked_for s.pairs (codes "add") ≡ true → HasOne (IsAdd c.0) behind)) children
  same_old behind [] a = tt
  same_old behind (x ∷ xs) a = (inl a.0, same_old behind xs a.1)

  if_kept : (b : Bool) (x y : Answer) → Kept x → Kept y → Kept (if b then x else y)
  if_kept true x y a c = a
  if_kept false x y a c = c

  told_if : (b : Bool) (index : ℕ) (child : Pair) → b ≡ true → HasOne (IsAdd child.0) (if b then children_changed (codes "add") index child ∷ [] else [])
  told_if true index child h = inl (index, child.1, refl)
  told_if false index child h = absurd (false_true h)

  adopts_kept : (child : Pair) → Kept (adopts s child)
  adopts_kept child =
      if_kept (list_any (is_of child.0) s.children) (only s (returns (registry_root ∷ []))) (new_child s child) (same_old [] s.children old)
      (all_append (λ (c : Pair). Old c ⊎ (is_asked_for s.pairs (codes "add") ≡ true → HasOne (IsAdd c.0) (new_child s child).behind)) s.children (child ∷ []) (same_old (new_child s child).behind s.children old)
      (inr (λ h. inr (told_if (is_asked_for s.pairs (codes "add")) (length s.children) child h)), tt))

  member_kept : (member : ObjectMember) (own caller : List ℕ) (args : List Data) → Kept (answers_member member s own caller args)
  member_kept members.RegisterEvent own caller args =
      if_kept (has_pair s.pairs caller (text_at 0 args)) (only s (returns [])) (record (only s (returns [])) { pairs = s.pairs ++ (caller, text_at 0 args) ∷ []; before = registered (caller, text_at 0 args) ∷ [] }) (same_old [] s.children old) (same_old [] s.children old)
  member_kept members.DeregisterEvent own caller args =
      if_kept (has_pair s.pairs caller (text_at 0 args)) (record (only s (returns [])) { pairs = without_pair s.pairs caller (text_at 0 args); before = deregistered (caller, text_at 0 args) ∷ [] }) (only s (returns [])) (same_old [] s.children old) (same_old [] s.children old)
  member_kept members.Embed own caller args =
      if_kept (bytes_eq (encode_utf8_all (reference_in args).0) caller) (adopts s (caller, (reference_in args).1)) (only s (fails (codes "InvalidArgs"))) (adopts_kept (caller, (reference_in args).1)) (same_old [] s.children old)
  member_kept members.Unembed own caller args =
      if_kept (bytes_eq (encode_utf8_all (reference_in args).0) caller) (releases s caller) (only s (fails (codes "InvalidArgs")))
      (same_old [] (children_without s.children (child_place s.children caller)) (all_without Old s.children (child_place s.children caller) old)) (same_old [] s.children old)
  member_kept _ own caller args = same_old [] s.children old

  answer_kept : (r : Result Asked (List ℕ)) (own caller : List ℕ) → Kept (answer_to s own caller r)
  answer_kept (Ok (calls member args)) own caller = member_kept member own caller args
  answer_kept (Ok (gets property)) own caller = same_old [] s.children old
  answer_kept (Ok (gets_all ls)) own caller = same_old [] s.children old
  answer_kept (Ok (sets property d)) own caller = same_old [] s.children old
  answer_kept (Err word) own caller = same_old [] s.children old

  abbrev AllCome : RegistryStep → Type 0
  AllCome step = AllByRecursion (Comes s step) step.state.children

  add_numbered : (u : List ℕ) (n : ℕ) (ms : List Envelope) → HasOne (IsAdd u) ms → HasOne (IsAdd u) (numbered n ms)
  add_numbered u n [] h = absurd h
  add_numbered u n (m ∷ ms) (inl x) = inl (x.0, x.1, ap (λ (y : Envelope). record y { serial = n }) x.2)
  add_numbered u n (m ∷ ms) (inr h) = inr (add_numbered u (n + 1) ms h)

  called_come : (own : List ℕ) (e : Envelope) (o : Option (List ℕ)) → AllCome (called_by s own e o)
  called_come own e None = stay s.children old
    where
      stay : (xs : List Pair) → AllByRecursion Old xs → AllByRecursion (λ (c : Pair). Old c ⊎ (is_asked_for s.pairs (codes "add") ≡ true → ⊥)) xs
      stay [] a = tt
      stay (x ∷ xs) a = (inl a.0, stay xs a.1)
  called_come own e (Some caller) = each a.children (answer_kept (asked (object_at e.path) e.interface e.member e.body) own caller)
    where
      a : Answer
      a = answer_to s own caller (asked (object_at e.path) e.interface e.member e.body)

      sent : List Envelope
      sent = numbered s.next (a.before ++ (replies caller e a.reply ++ a.behind))

      each : (xs : List Pair) → AllByRecursion (λ (c : Pair). Old c ⊎ (is_asked_for s.pairs (codes "add") ≡ true → HasOne (IsAdd c.0) a.behind)) xs
          → AllByRecursion (λ (c : Pair). Old c ⊎ (is_asked_for s.pairs (codes "add") ≡ true → HasOne (IsAdd c.0) sent)) xs
      each [] k = tt
      each (x ∷ xs) k = (one x k.0, each xs k.1)
        where
          one : (c : Pair) → Old c ⊎ (is_asked_for s.pairs (codes "add") ≡ true → HasOne (IsAdd c.0) a.behind) → Old c ⊎ (is_asked_for s.pairs (codes "add") ≡ true → HasOne (IsAdd c.0) sent)
          one c (inl h) = inl h
          one c (inr f) =
              inr (λ h. add_numbered c.0 s.next (a.before ++ (replies caller e a.reply ++ a.behind)) (one_back (IsAdd c.0) a.before (replies caller e a.reply ++ a.behind) (one_back (IsAdd c.0) (replies caller e a.reply) a.behind (f h))))

  left_come : (o : Option (List ℕ)) → AllCome (hears s o)
  left_come None = all_come_old (hears s None) s.children old
    where
      all_come_old : (step : RegistryStep) (xs : List Pair) → AllByRecursion Old xs → AllByRecursion (Comes s step) xs
      all_come_old step [] a = tt
      all_come_old step (x ∷ xs) a = (inl a.0, all_come_old step xs a.1)
  left_come (Some word) = all_come_old (hears s (Some word)) (children_without s.children (child_place s.children (encode_utf8_all word))) (all_without Old s.children (child_place s.children (encode_utf8_all word)) old)
    where
      all_come_old : (step : RegistryStep) (xs : List Pair) → AllByRecursion Old xs → AllByRecursion (Comes s step) xs
      all_come_old step [] a = tt
      all_come_old step (x ∷ xs) a = (inl a.0, all_come_old step xs a.1)

  named_come : (o : Option (List ℕ)) → AllCome (named s o)
  named_come None = all_come_old (named s None) s.children old
    where
      all_come_old : (step : RegistryStep) (xs : List Pair) → AllByRecursion Old xs → AllByRecursion (Comes s step) xs
      all_come_old step [] a = tt
      all_come_old step (x ∷ xs) a = (inl a.0, all_come_old step xs a.1)
  named_come (Some name) = all_come_old (named s (Some name)) s.children old
    where
      all_come_old : (step : RegistryStep) (xs : List Pair) → AllByRecursion Old xs → AllByRecursion (Comes s step) xs
      all_come_old step [] a = tt
      all_come_old step (x ∷ xs) a = (inl a.0, all_come_old step xs a.1)

  pub children_come : (e : Envelope) → AllCome (registry_takes s e)
  children_come e = by_name s.own
    where
      by : (own : List ℕ) (b : Bool) → AllCome (if b then called_by s own e e.sender else hears s (name_gone e))
      by own true = called_come own e e.sender
      by own false = left_come (name_gone e)

      by_name : (o : Option (List ℕ)) → AllCome (takes_as s e o)
      by_name None = named_come (name_told s.hello e)
      by_name (Some own) = by own (e.kind == 1)

-- THE CALL FOR THE CHILDREN is returned with all of them, and changes nothing
pub children_answer : (n : ℕ) (caller own : List ℕ) (state : RegistryState)
    → let m : Envelope = asking n GetChildren in answer_to state own caller (asked (object_at m.path) m.interface m.member m.body) ≡ only state (returns (references state.children ∷ []))
unfolding encode
children_answer n caller own state = refl

pub children_stay : (s : RegistryState) (n : ℕ) (own caller : List ℕ) → s.own ≡ Some own → (registry_takes s (record (asking n GetChildren) { sender = Some caller })).state.children ≡ s.children
children_stay s n own caller k = ap (λ (step : RegistryStep). step.state.children) (owned_is k) ∙ ap (λ (a : Answer). a.children) (children_answer n caller own s)
  where
    e : Envelope
    e = record (asking n GetChildren) { sender = Some caller }

    owned_is : s.own ≡ Some own → registry_takes s (record (asking n GetChildren) { sender = Some caller }) ≡ called_by s own (record (asking n GetChildren) { sender = Some caller }) (Some caller)
    owned_is h = rw h refl

-- WHO LISTENS to news of children asks for that of one that comes
abbrev pub children_pattern : List ℕ
children_pattern = codes "object:children-changed"

pattern_covers : covers (encode_utf8_all children_pattern) (codes "children-changed") (codes "add") ≡ true
unfolding encode
pattern_covers = refl

and_right : (a b : Bool) → (a && b) ≡ true → b ≡ true
and_right true b h = h
and_right false b h = absurd (false_true h)

or_left : (a b : Bool) → a ≡ true → (a || b) ≡ true
or_left true b h = refl
or_left false b h = absurd (false_true h)

or_right : (a b : Bool) → b ≡ true → (a || b) ≡ true
or_right true b h = refl
or_right false b h = h

pub listener_asks : (u : List ℕ) (pairs : List Pair) → is_heard pairs (u, children_pattern) ≡ true → is_asked_for pairs (codes "add") ≡ true
listener_asks u [] h = absurd (false_true h)
listener_asks u (p ∷ ps) h = by (is_pair (u, children_pattern) p) refl h (λ g. listener_asks u ps g)
  where
    by : (b : Bool) → is_pair (u, children_pattern) p ≡ b → (b || is_heard ps (u, children_pattern)) ≡ true → (is_heard ps (u, children_pattern) ≡ true → is_asked_for ps (codes "add") ≡ true) → is_asked_for (p ∷ ps) (codes "add") ≡ true
    by true g k f =
        let same : children_pattern ≡ p.1 = (bytes_eq-Decides children_pattern p.1).0 (and_right (bytes_eq u p.0) (bytes_eq children_pattern p.1) g) in
        or_left (covers (encode_utf8_all p.1) (codes "children-changed") (codes "add")) (is_asked_for ps (codes "add")) (ap (λ q. covers (encode_utf8_all q) (codes "children-changed") (codes "add")) (sym same) ∙ pattern_covers)
    by false g k f = or_right (covers (encode_utf8_all p.1) (codes "children-changed") (codes "add")) (is_asked_for ps (codes "add")) (f k)
