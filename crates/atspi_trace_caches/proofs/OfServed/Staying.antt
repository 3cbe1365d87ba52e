-- What the registry sends with a message, one by one, leaves a pair with whoever hears it, unless the message takes the pair away; and a reader's call for a pattern enters it before it is returned.
use Rattle.std.proofs.Common.{◌≡◌, inl, inr, ℕ, ◌+◌, ◌≤◌, Bool, true, false, List, [], ◌∷◌, ◌++◌, length, map, Option, None, Some, refl, sym, ap, ◌∙◌, subst, arith}
use Rattle.std.specs.Prelude.{◌==◌, ◌&&◌, ◌||◌, not, nat_le, slice_get, bytes_eq, codes, encode_utf8_all, if◌then◌else◌, Result, Ok, Err}
use Rattle.std.specs.List.{AllByRecursion, list_any}
use Rattle.std.proofs.lemmas.Bool.{eqb-true, le-leb}
use Rattle.std.proofs.lemmas.Slice.Eq.{bytes_eq-Decides}
use Rattle.atspi_types.specs.Data.{Data}
use Rattle.atspi_base.specs.valid_names.Names.{is_bus_name}
use Rattle.atspi_message.specs.Envelope.{Envelope}
use Rattle.atspi_protocol.specs.ends.Places.{registry, registry_root}
use Rattle.atspi_protocol.specs.ends.Messages.{Reply, returns, fails, reply_to, replies, expects_reply, numbered}
use Rattle.atspi_protocol.specs.declared.members.member.ObjectMember.{ObjectMember}
use Rattle.atspi_protocol.specs.declared.members.member.ObjectMember.TheVariants as members
use Rattle.atspi_protocol.specs.members.Asked.{Asked, calls, gets, gets_all, sets, asked, is_text}
use Rattle.atspi_protocol.specs.members.Arguments.{text_at}
use Rattle.atspi_protocol.specs.registering.RegistryState.{RegistryState, is_of, has_pair, without_pair, pairs_of, pairs_without, child_place}
use Rattle.atspi_protocol.specs.registering.Told.{registered, deregistered, id_call, children_changed, is_asked_for}
use Rattle.atspi_protocol.specs.registering.Answers.{Answer, only, registers, deregisters, reference_in, new_child, adopts, news_of_removal_at, news_of_removal, releases, answers_member, object_at}
use Rattle.atspi_protocol.specs.registering.Steps.{RegistryStep, answer_to, called_by, named, hears, name_told, name_gone, takes_as, registry_takes}
use Rattle.atspi_protocol.specs.exporting.Hearing.{is_pair, is_heard, one_more, one_less, with_pair, heard_after}
use Rattle.atspi_protocol.specs.declared.following.question.Question.TheVariants.{RegisterEvent}
use Rattle.atspi_protocol.specs.following.Calls.{asking}
use Rattle.atspi_trace_laws.specs.missed.Laws.{hearing, TakesAway}
use Rattle.atspi_trace_laws.proofs.OfOrder.Parties.{all_append}
use Rattle.atspi_trace_laws.proofs.OfMissed.Deregistering.{MemberSays, SaysSo, registry_says}
use Rattle.atspi_trace_laws.proofs.OfMissed.Telling.{Pair, pair_is, pair_turned, heard_filter, heard_append}
use Rattle.atspi_trace_caches.proofs.OfServed.Facts.{up_to}

-- WHOEVER HAS THE PAIR has it behind such a message
abbrev pub KeepsPair : Pair → Envelope → Type 0
KeepsPair pair e = (had : List Pair) → is_heard had pair ≡ true → is_heard (heard_after had e).heard pair ≡ true

pub all_keep : (pair : Pair) (es : List Envelope) (had : List Pair) → AllByRecursion (KeepsPair pair) es → is_heard had pair ≡ true → is_heard (hearing es had) pair ≡ true
all_keep pair [] had a h = h
all_keep pair (e ∷ es) had a h = all_keep pair es (heard_after had e).heard a.1 (a.0 had h)

pub upto_keep : (pair : Pair) (n : ℕ) (es : List Envelope) → AllByRecursion (KeepsPair pair) es → AllByRecursion (KeepsPair pair) (up_to n es)
upto_keep pair n [] a = tt
upto_keep pair n (e ∷ es) a = by (nat_le e.serial n) (upto_keep pair n es a.1)
  where
    by : (b : Bool) → AllByRecursion (KeepsPair pair) (up_to n es) → AllByRecursion (KeepsPair pair) (if b then e ∷ up_to n es else up_to n es)
    by true rest = (a.0, rest)
    by false rest = rest

pub upto_append : (n : ℕ) (xs ys : List Envelope) → up_to n (xs ++ ys) ≡ up_to n xs ++ up_to n ys
upto_append n [] ys = refl
upto_append n (x ∷ xs) ys = by (nat_le x.serial n) (upto_append n xs ys)
  where
    by : (b : Bool) → up_to n (xs ++ ys) ≡ up_to n xs ++ up_to n ys → (if b then x ∷ up_to n (xs ++ ys) else up_to n (xs ++ ys)) ≡ (if b then x ∷ up_to n xs else up_to n xs) ++ up_to n ys
    by true h = ap (λ l. x ∷ l) h
    by false h = h

module _ (pair : Pair) where
  abbrev Keeps_it : Envelope → Type 0
  Keeps_it e = KeepsPair pair e

  other_keeps : (e : Envelope) → is_text e.interface registry ≡ false → Keeps_it e
  other_keeps e none had h = subst (λ l. is_heard l pair ≡ true) (sym same) h
    where
      same : (heard_after had e).heard ≡ had
      same = rw none refl

  more_keeps : (q : Pair) (had : List Pair) → is_heard had pair ≡ true → is_heard (one_more had q).heard pair ≡ true
  more_keeps q had h = by (is_heard had q) refl
    where
      by : (b : Bool) → is_heard had q ≡ b → is_heard (one_more had q).heard pair ≡ true
      by true g = rw g h
      by false g = rw g (heard_append pair had (q ∷ []) ∙ ap (λ b. b || is_heard (q ∷ []) pair) h)

  less_keeps : (q : Pair) (had : List Pair) → is_pair pair q ≡ false → is_heard had pair ≡ true → is_heard (one_less had q).heard pair ≡ true
  less_keeps q had other h = by (is_heard had q) refl
    where
      by : (b : Bool) → is_heard had q ≡ b → is_heard (one_less had q).heard pair ≡ true
      by true g = rw g (heard_filter pair (λ x. not (is_pair q x)) had ∙ ap (λ b. not b && is_heard had pair) (pair_turned q pair ∙ other) ∙ h)
      by false g = rw g h

  registered_keeps : (q : Pair) → Keeps_it (registered q)
  registered_keeps q had h = by (is_bus_name q.0)
    where
      by : (b : Bool) → is_heard (with_pair one_more had (if b then Some (q.0, q.1) else None)).heard pair ≡ true
      by true = more_keeps q had h
      by false = h

  deregistered_keeps : (q : Pair) → is_pair pair q ≡ false → Keeps_it (deregistered q)
  deregistered_keeps q other had h = by (is_bus_name q.0)
    where
      by : (b : Bool) → is_heard (with_pair one_less had (if b then Some (q.0, q.1) else None)).heard pair ≡ true
      by true = less_keeps q had other h
      by false = h

  numbers_keep : (n : ℕ) (es : List Envelope) → AllByRecursion Keeps_it es → AllByRecursion Keeps_it (numbered n es)
  numbers_keep n [] a = tt
  numbers_keep n (e ∷ es) a = (a.0, numbers_keep (n + 1) es a.1)

  replies_keep : (b : Bool) (caller : List ℕ) (serial : ℕ) (reply : Reply) → AllByRecursion Keeps_it (if b then reply_to caller serial reply ∷ [] else [])
  replies_keep true caller serial (returns values) = (other_keeps (reply_to caller serial (returns values)) refl, tt)
  replies_keep true caller serial (fails word) = (other_keeps (reply_to caller serial (fails word)) refl, tt)
  replies_keep false caller serial reply = tt

  news_keep : (b : Bool) (minor : List ℕ) (index : ℕ) (child : Pair) → AllByRecursion Keeps_it (if b then children_changed minor index child ∷ [] else [])
  news_keep true minor index child = (other_keeps (children_changed minor index child) refl, tt)
  news_keep false minor index child = tt

  removal_at : (pairs : List Pair) (i : ℕ) (o : Option Pair) → AllByRecursion Keeps_it (news_of_removal_at pairs i o)
  removal_at pairs i None = tt
  removal_at pairs i (Some child) = news_keep (is_asked_for pairs (codes "remove")) (codes "remove") i child

  removal_keeps : (pairs children : List Pair) (place : Option ℕ) → AllByRecursion Keeps_it (news_of_removal pairs children place)
  removal_keeps pairs children None = tt
  removal_keeps pairs children (Some i) = removal_at pairs i (slice_get children i)

  -- another's pair
  differs : (q : Pair) → (pair.0 ≡ q.0 → ⊥) → is_pair pair q ≡ false
  differs q other = by (is_pair pair q) refl
    where
      by : (b : Bool) → is_pair pair q ≡ b → is_pair pair q ≡ false
      by false h = h
      by true h = absurd (other (ap (λ (p : Pair). p.0) (pair_is pair q h)))

  -- WHAT CALLS DO
  abbrev Tells : Answer → Type 0
  Tells a = AllByRecursion Keeps_it a.before × AllByRecursion Keeps_it a.behind

  registers_keep : (s : RegistryState) (caller pattern : List ℕ) → Tells (registers s caller pattern)
  registers_keep s caller pattern = by (has_pair s.pairs caller pattern)
    where
      by : (b : Bool) → Tells (if b then only s (returns []) else record (only s (returns [])) { pairs = s.pairs ++ (caller, pattern) ∷ []; before = registered (caller, pattern) ∷ [] })
      by true = (tt, tt)
      by false = ((registered_keeps (caller, pattern), tt), tt)

  deregisters_keep : (s : RegistryState) (caller pattern : List ℕ) → (pair.0 ≡ caller → ⊥) → Tells (deregisters s caller pattern)
  deregisters_keep s caller pattern other = by (has_pair s.pairs caller pattern)
    where
      by : (b : Bool) → Tells (if b then record (only s (returns [])) { pairs = without_pair s.pairs caller pattern; before = deregistered (caller, pattern) ∷ [] } else only s (returns []))
      by true = ((deregistered_keeps (caller, pattern) (differs (caller, pattern) other), tt), tt)
      by false = (tt, tt)

  own_keeps : (s : RegistryState) (b : Bool) (a : Answer) → Tells a → Tells (if b then a else only s (fails (codes "InvalidArgs")))
  own_keeps s true a t = t
  own_keeps s false a t = (tt, tt)

  adopts_keep : (s : RegistryState) (child : Pair) (b : Bool) → Tells (if b then only s (returns (registry_root ∷ [])) else new_child s child)
  adopts_keep s child true = (tt, tt)
  adopts_keep s child false = (tt, (other_keeps (id_call child s.embeds) refl, news_keep (is_asked_for s.pairs (codes "add")) (codes "add") (length s.children) child))

  member_keeps : (text : Option (List ℕ)) (member : ObjectMember) (s : RegistryState) (own caller : List ℕ) (args : List Data) → MemberSays text member → (text ≡ Some (codes "DeregisterEvent") → pair.0 ≡ caller → ⊥)
      → Tells (answers_member member s own caller args)
  member_keeps text members.RegisterEvent s own caller args says other = registers_keep s caller (text_at 0 args)
  member_keeps text members.DeregisterEvent s own caller args says other = deregisters_keep s caller (text_at 0 args) (other says)
  member_keeps text members.Embed s own caller args says other =
      let child : Pair = (caller, (reference_in args).1) in
      own_keeps s (bytes_eq (encode_utf8_all (reference_in args).0) caller) (adopts s child) (adopts_keep s child (list_any (is_of caller) s.children))
  member_keeps text members.Unembed s own caller args says other =
      own_keeps s (bytes_eq (encode_utf8_all (reference_in args).0) caller) (releases s caller) (removal_keeps s.pairs s.children (child_place s.children caller), tt)
  member_keeps text _ s own caller args says other = (tt, tt)

  answer_keeps : (text : Option (List ℕ)) (r : Result Asked (List ℕ)) (s : RegistryState) (own caller : List ℕ) → SaysSo text r → (text ≡ Some (codes "DeregisterEvent") → pair.0 ≡ caller → ⊥) → Tells (answer_to s own caller r)
  answer_keeps text (Ok (calls member args)) s own caller says other = member_keeps text member s own caller args says other
  answer_keeps text (Ok (gets property)) s own caller says other = (tt, tt)
  answer_keeps text (Ok (gets_all ls)) s own caller says other = (tt, tt)
  answer_keeps text (Ok (sets property d)) s own caller says other = (tt, tt)
  answer_keeps text (Err word) s own caller says other = (tt, tt)

  -- THE STEP
  abbrev Kept : RegistryStep → Type 0
  Kept step = AllByRecursion Keeps_it step.sent

  called_keeps : (s : RegistryState) (own : List ℕ) (e : Envelope) (o : Option (List ℕ)) → e.kind ≡ 1 → e.sender ≡ o → (TakesAway e pair → ⊥) → Kept (called_by s own e o)
  called_keeps s own e None one is stays = tt
  called_keeps s own e (Some caller) one is stays =
      let question = asked (object_at e.path) e.interface e.member e.body in
      let a : Answer = answer_to s own caller question in
      let t : Tells a = answer_keeps e.member question s own caller (registry_says e.path e.interface e.member e.body) (λ says same. stays (inl (one, says, is ∙ ap Some (sym same)))) in
      numbers_keep s.next (a.before ++ (replies caller e a.reply ++ a.behind))
      (all_append Keeps_it a.before (replies caller e a.reply ++ a.behind) t.0 (all_append Keeps_it (replies caller e a.reply) a.behind (replies_keep (expects_reply e) caller e.serial a.reply) t.1))

  fallen_keep : (name : List ℕ) (pairs : List Pair) → (pair.0 ≡ name → ⊥) → AllByRecursion Keeps_it (map deregistered (pairs_of pairs name))
  fallen_keep name [] other = tt
  fallen_keep name (p ∷ ps) other = by (is_of name p) refl (fallen_keep name ps other)
    where
      by : (b : Bool) → is_of name p ≡ b → AllByRecursion Keeps_it (map deregistered (pairs_of ps name)) → AllByRecursion Keeps_it (map deregistered (if b then p ∷ pairs_of ps name else pairs_of ps name))
      by true h rest = (deregistered_keeps p (differs p (λ same. other (same ∙ (bytes_eq-Decides p.0 name).0 h))), rest)
      by false h rest = rest

  left_keeps : (s : RegistryState) (e : Envelope) (o : Option (List ℕ)) → name_gone e ≡ o → (TakesAway e pair → ⊥) → Kept (hears s o)
  left_keeps s e None is stays = tt
  left_keeps s e (Some word) is stays =
      let name = encode_utf8_all word in
      let fallen = map deregistered (pairs_of s.pairs name) in
      let news = news_of_removal (pairs_without s.pairs name) s.children (child_place s.children name) in
      numbers_keep s.next (fallen ++ news)
      (all_append Keeps_it fallen news (fallen_keep name s.pairs (λ same. stays (inr (word, is, same)))) (removal_keeps (pairs_without s.pairs name) s.children (child_place s.children name)))

  named_keeps : (s : RegistryState) (o : Option (List ℕ)) → Kept (named s o)
  named_keeps s None = tt
  named_keeps s (Some name) = tt

  as_keeps : (s : RegistryState) (e : Envelope) (o : Option (List ℕ)) → (TakesAway e pair → ⊥) → Kept (takes_as s e o)
  as_keeps s e None stays = named_keeps s (name_told s.hello e)
  as_keeps s e (Some own) stays = by (e.kind == 1) refl
    where
      by : (b : Bool) → (e.kind == 1) ≡ b → Kept (if b then called_by s own e e.sender else hears s (name_gone e))
      by true k = called_keeps s own e e.sender (eqb-true e.kind 1 k) refl stays
      by false k = left_keeps s e (name_gone e) refl stays

  pub registry_keeps : (s : RegistryState) (e : Envelope) → (TakesAway e pair → ⊥) → AllByRecursion (KeepsPair pair) (registry_takes s e).sent
  registry_keeps s e stays = as_keeps s e s.own stays

-- A CALL FOR A PATTERN: where its return is sent, all is sent of its step
abbrev pub WholeAt : List Envelope → Envelope → Type 0
WholeAt all m = m.kind ≡ 2 → (n : ℕ) → m.serial ≤ n → up_to n all ≡ all

four_two : ◌≡◌ {A = ℕ} 4 2 → ⊥
four_two h = omega (arith, h)

one_upto : (n : ℕ) (m : Envelope) → m.serial ≤ n → up_to n (m ∷ []) ≡ m ∷ []
one_upto n m h = ap (λ b. if b then m ∷ [] else []) (le-leb m.serial n h)

two_upto : (n : ℕ) (l m : Envelope) → l.serial ≤ n → m.serial ≤ n → up_to n (l ∷ m ∷ []) ≡ l ∷ m ∷ []
two_upto n l m g h = ap (λ b. if b then l ∷ up_to n (m ∷ []) else up_to n (m ∷ [])) (le-leb l.serial n g) ∙ ap (λ x. l ∷ x) (one_upto n m h)

abbrev registers_if : RegistryState → List ℕ → List ℕ → Bool → Answer
registers_if s caller pattern b =
    if b then only s (returns []) else record (only s (returns [])) { pairs = s.pairs ++ (caller, pattern) ∷ []; before = registered (caller, pattern) ∷ [] }

abbrev sent_if : RegistryState → List ℕ → List ℕ → ℕ → Bool → List Envelope
sent_if s caller pattern serial b =
    let a = registers_if s caller pattern b in numbered s.next (a.before ++ (reply_to caller serial a.reply ∷ a.behind))

before_it : (n k : ℕ) → n + 1 ≤ k → n ≤ k
before_it n k h = omega (arith, h)

whole_if : (s : RegistryState) (caller pattern : List ℕ) (serial : ℕ) (b : Bool) → AllByRecursion (WholeAt (sent_if s caller pattern serial b)) (sent_if s caller pattern serial b)
whole_if s caller pattern serial true = ((λ two n h. one_upto n (record (reply_to caller serial (returns [])) { serial = s.next }) h), tt)
whole_if s caller pattern serial false = (
  (λ two n h. absurd (four_two two)),
  ((λ two n h. two_upto n (record (registered (caller, pattern)) { serial = s.next }) (record (reply_to caller serial (returns [])) { serial = s.next + 1 }) (before_it s.next n h) h), tt),
)

pub registering_whole : (s : RegistryState) (own listener pattern : List ℕ) (serial : ℕ) → s.own ≡ Some own
    → AllByRecursion (WholeAt (registry_takes s (record (asking serial (RegisterEvent pattern)) { sender = Some listener })).sent) (registry_takes s (record (asking serial (RegisterEvent pattern)) { sender = Some listener })).sent
registering_whole s own listener pattern serial is =
    let e = record (asking serial (RegisterEvent pattern)) { sender = Some listener } in
    subst (λ (l : List Envelope). AllByRecursion (WholeAt l) l) (sym (ap (λ o. (takes_as s e o).sent) is)) (whole_if s listener pattern serial (has_pair s.pairs listener pattern))
