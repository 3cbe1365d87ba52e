-- Each call that expects a reply gets one: what is told before and behind it are signals and calls.
use Rattle.std.proofs.Common.{◌≡◌, ℕ, ◌+◌, Bool, true, false, ◌==◌, not, List, [], ◌∷◌, ◌++◌, map, length, Option, Some, None, refl, ap}
use Rattle.std.specs.Prelude.{codes, bytes_eq, encode_utf8_all, if◌then◌else◌, slice_get, Result, Ok, Err}
use Rattle.std.specs.List.{list_all, list_any}
use Rattle.std.proofs.lemmas.Bool.{and_parts}
use Rattle.atspi_types.specs.Data.{Data}
use Rattle.atspi_message.specs.Envelope.{Envelope}
use Rattle.atspi_protocol.specs.ends.Places.{registry_root}
use Rattle.atspi_protocol.specs.ends.Messages.{Reply, returns, fails, reply_to, expects_reply, numbered}
use Rattle.atspi_protocol.specs.declared.members.member.ObjectMember.{ObjectMember}
use Rattle.atspi_protocol.specs.declared.members.member.ObjectMember.TheVariants as members
use Rattle.atspi_protocol.specs.members.Arguments.{text_at}
use Rattle.atspi_protocol.specs.members.Asked.{Asked, asked, calls, gets, gets_all, sets}
use Rattle.atspi_protocol.specs.registering.RegistryState.{RegistryState, is_of, has_pair, pairs_of, pairs_without, child_place}
use Rattle.atspi_protocol.specs.registering.Told.{deregistered, children_changed, child_added, child_removed, is_asked_for}
use Rattle.atspi_protocol.specs.registering.Answers.{Answer, only, reference_in, registers, deregisters, new_child, adopts, releases, if_own, news_of_removal_at, news_of_removal, answers_member, object_at}
use Rattle.atspi_protocol.specs.registering.Steps.{named, called_by, hears, answer_to, answered, name_told, name_gone, takes_as}
use Rattle.atspi_protocol.specs.registering.Laws.{is_reply, replies_in, AreOneReply, RepliesOnce}

-- no message of a list is a reply
abbrev are_quiet : List Envelope → Bool
are_quiet es = list_all (λ e. not (is_reply e)) es

quiet_front : (e : Envelope) (es : List Envelope) → are_quiet (e ∷ es) ≡ true → (is_reply e ≡ false) × (are_quiet es ≡ true)
quiet_front e es h = by (is_reply e) refl (and_parts (not (is_reply e)) (are_quiet es) h)
  where
    by : (b : Bool) → is_reply e ≡ b → (not (is_reply e) ≡ true) × (are_quiet es ≡ true) → (is_reply e ≡ false) × (are_quiet es ≡ true)
    by true e p = absurd cc
    by false e p = (e, p.1)

quiet_append : (xs ys : List Envelope) → are_quiet xs ≡ true → are_quiet ys ≡ true → are_quiet (xs ++ ys) ≡ true
quiet_append [] ys p q = q
quiet_append (x ∷ xs) ys p q = let front = quiet_front x xs p in rw (front.0, quiet_append xs ys front.1 q) refl

numbered_quiet : (n : ℕ) (es : List Envelope) → are_quiet es ≡ true → replies_in (numbered n es) ≡ []
numbered_quiet n [] h = refl
numbered_quiet n (e ∷ es) h = let front = quiet_front e es h in rw (front.0) (numbered_quiet (n + 1) es front.1)

-- what is told around a reply
record IsQuiet (a : Answer) : Type 0 where
  before : are_quiet a.before ≡ true
  behind : are_quiet a.behind ≡ true

either : (b : Bool) (x y : Answer) → IsQuiet x → IsQuiet y → IsQuiet (if b then x else y)
either true x y p q = p
either false x y p q = q

quiet_if : (b : Bool) (xs : List Envelope) → are_quiet xs ≡ true → are_quiet (if b then xs else []) ≡ true
quiet_if true xs h = h
quiet_if false xs h = refl

quiet_added : (pairs : List (List ℕ × List ℕ)) (i : ℕ) (child : List ℕ × List ℕ) → are_quiet (child_added pairs i child) ≡ true
quiet_added pairs i child = quiet_if (is_asked_for pairs (codes "add")) (children_changed (codes "add") i child ∷ []) refl

quiet_removed : (pairs : List (List ℕ × List ℕ)) (i : ℕ) (child : List ℕ × List ℕ) → are_quiet (child_removed pairs i child) ≡ true
quiet_removed pairs i child = quiet_if (is_asked_for pairs (codes "remove")) (children_changed (codes "remove") i child ∷ []) refl

quiet_removal_at : (pairs : List (List ℕ × List ℕ)) (i : ℕ) (child : Option (List ℕ × List ℕ)) → are_quiet (news_of_removal_at pairs i child) ≡ true
quiet_removal_at pairs i None = refl
quiet_removal_at pairs i (Some child) = quiet_removed pairs i child

quiet_removal : (pairs children : List (List ℕ × List ℕ)) (place : Option ℕ) → are_quiet (news_of_removal pairs children place) ≡ true
quiet_removal pairs children None = refl
quiet_removal pairs children (Some i) = quiet_removal_at pairs i (slice_get children i)

quiet_deregistered : (pairs : List (List ℕ × List ℕ)) → are_quiet (map deregistered pairs) ≡ true
quiet_deregistered [] = refl
quiet_deregistered (p ∷ pairs) = quiet_deregistered pairs

quiet_only : (s : RegistryState) (r : Reply) → IsQuiet (only s r)
quiet_only s r = record { before = refl; behind = refl }

quiet_registers : (s : RegistryState) (caller pattern : List ℕ) → IsQuiet (registers s caller pattern)
quiet_registers s caller pattern = either (has_pair s.pairs caller pattern) _ _ (quiet_only s (returns [])) (record { before = refl; behind = refl })

quiet_deregisters : (s : RegistryState) (caller pattern : List ℕ) → IsQuiet (deregisters s caller pattern)
quiet_deregisters s caller pattern = either (has_pair s.pairs caller pattern) _ _ (record { before = refl; behind = refl }) (quiet_only s (returns []))

quiet_new_child : (s : RegistryState) (child : List ℕ × List ℕ) → IsQuiet (new_child s child)
quiet_new_child s child = record { before = refl; behind = quiet_added s.pairs (length s.children) child }

quiet_adopts : (s : RegistryState) (child : List ℕ × List ℕ) → IsQuiet (adopts s child)
quiet_adopts s child = either (list_any (is_of child.0) s.children) (only s (returns (registry_root ∷ []))) (new_child s child) (quiet_only s (returns (registry_root ∷ []))) (quiet_new_child s child)

quiet_releases : (s : RegistryState) (caller : List ℕ) → IsQuiet (releases s caller)
quiet_releases s caller = record { before = quiet_removal s.pairs s.children (child_place s.children caller); behind = refl }

quiet_if_own : (s : RegistryState) (caller : List ℕ) (r : List ℕ × List ℕ) (a : Answer) → IsQuiet a → IsQuiet (if_own s caller r a)
quiet_if_own s caller r a q = either (bytes_eq (encode_utf8_all r.0) caller) a (only s (fails (codes "InvalidArgs"))) q (quiet_only s (fails (codes "InvalidArgs")))

quiet_member : (m : ObjectMember) (s : RegistryState) (own caller : List ℕ) (args : List Data) → IsQuiet (answers_member m s own caller args)
quiet_member members.RegisterEvent s own caller args = quiet_registers s caller (text_at 0 args)
quiet_member members.DeregisterEvent s own caller args = quiet_deregisters s caller (text_at 0 args)
quiet_member members.Embed s own caller args = quiet_if_own s caller (reference_in args) (adopts s (caller, (reference_in args).1)) (quiet_adopts s (caller, (reference_in args).1))
quiet_member members.Unembed s own caller args = quiet_if_own s caller (reference_in args) (releases s caller) (quiet_releases s caller)
quiet_member _ s own caller args = record { before = refl; behind = refl }

quiet_answer : (r : Result Asked (List ℕ)) (s : RegistryState) (own caller : List ℕ) → IsQuiet (answer_to s own caller r)
quiet_answer (Ok (calls m args)) s own caller = quiet_member m s own caller args
quiet_answer (Ok (gets p)) s own caller = record { before = refl; behind = refl }
quiet_answer (Ok (gets_all ls)) s own caller = record { before = refl; behind = refl }
quiet_answer (Ok (sets p d)) s own caller = record { before = refl; behind = refl }
quiet_answer (Err word) s own caller = record { before = refl; behind = refl }

-- around quiet messages stands the one reply
one_between : (n : ℕ) (before behind : List Envelope) (reply : Envelope) → is_reply reply ≡ true → are_quiet before ≡ true → are_quiet behind ≡ true
    → (k : ℕ) × (replies_in (numbered n (before ++ (reply ∷ behind))) ≡ record reply { serial = k } ∷ [])
one_between n [] behind reply r p q = (n, rw r (ap (λ es. record reply { serial = n } ∷ es) (numbered_quiet (n + 1) behind q)))
one_between n (x ∷ before) behind reply r p q =
    let front = quiet_front x before p in
    let rest = one_between (n + 1) before behind reply r front.1 q in
    (rest.0, rw (front.0) rest.1)

is_reply-reply_to : (caller : List ℕ) (serial : ℕ) (r : Reply) → is_reply (reply_to caller serial r) ≡ true
is_reply-reply_to caller serial (returns values) = refl
is_reply-reply_to caller serial (fails word) = refl

to_caller : (caller : List ℕ) (serial : ℕ) (r : Reply) → ((reply_to caller serial r).destination ≡ Some caller) × ((reply_to caller serial r).reply ≡ Some serial)
to_caller caller serial (returns values) = (refl, refl)
to_caller caller serial (fails word) = (refl, refl)

one_reply : (s : RegistryState) (caller : List ℕ) (e : Envelope) (a : Answer) → IsQuiet a → expects_reply e ≡ true
    → AreOneReply (replies_in (answered s caller e a).sent) caller e.serial
one_reply s caller e a q h =
    let found = one_between s.next a.before a.behind (reply_to caller e.serial a.reply) (is_reply-reply_to caller e.serial a.reply) q.before q.behind in
    rw h (record {
      reply = record (reply_to caller e.serial a.reply) { serial = found.0 };
      alone = found.1;
      to = (to_caller caller e.serial a.reply).0;
      with_ = (to_caller caller e.serial a.reply).1;
    })

no_reply : (s : RegistryState) (caller : List ℕ) (e : Envelope) (a : Answer) → IsQuiet a → expects_reply e ≡ false
    → replies_in (answered s caller e a).sent ≡ []
no_reply s caller e a q h = rw h (numbered_quiet s.next (a.before ++ a.behind) (quiet_append a.before a.behind q.before q.behind))

expected_as : (s : RegistryState) (e : Envelope) (own caller : List ℕ) (sender : Option (List ℕ)) → sender ≡ Some caller → expects_reply e ≡ true
    → AreOneReply (replies_in (if e.kind == 1 then called_by s own e sender else hears s (name_gone e)).sent) caller e.serial
expected_as s e own caller sender q h =
    rw ((and_parts (e.kind == 1) _ h).0, q) (one_reply s caller e _ (quiet_answer (asked (object_at e.path) e.interface e.member e.body) s own caller) h)

expected_of : (s : RegistryState) (e : Envelope) (own caller : List ℕ) (o : Option (List ℕ)) → o ≡ Some own → e.sender ≡ Some caller → expects_reply e ≡ true
    → AreOneReply (replies_in (takes_as s e o).sent) caller e.serial
expected_of s e own caller o p q h = rw p (expected_as s e own caller e.sender q h)

-- what is no call that expects a reply
silent_heard : (s : RegistryState) (gone : Option (List ℕ)) → replies_in (hears s gone).sent ≡ []
silent_heard s None = refl
silent_heard s (Some name) =
    let gone = encode_utf8_all name in
    let before = map deregistered (pairs_of s.pairs gone) in
    let news = news_of_removal (pairs_without s.pairs gone) s.children (child_place s.children gone) in
    numbered_quiet s.next (before ++ news) (quiet_append before news (quiet_deregistered (pairs_of s.pairs gone)) (quiet_removal (pairs_without s.pairs gone) s.children (child_place s.children gone)))

silent_called : (s : RegistryState) (e : Envelope) (own : List ℕ) (sender : Option (List ℕ)) → expects_reply e ≡ false → replies_in (called_by s own e sender).sent ≡ []
silent_called s e own None h = refl
silent_called s e own (Some caller) h = no_reply s caller e _ (quiet_answer (asked (object_at e.path) e.interface e.member e.body) s own caller) h

silent_named : (s : RegistryState) (name : Option (List ℕ)) → replies_in (named s name).sent ≡ []
silent_named s None = refl
silent_named s (Some name) = refl

silent_as : (s : RegistryState) (e : Envelope) (o : Option (List ℕ)) → expects_reply e ≡ false → replies_in (takes_as s e o).sent ≡ []
silent_as s e None h = silent_named s (name_told s.hello e)
silent_as s e (Some own) h = by (e.kind == 1)
  where
    by : (b : Bool) → replies_in (if b then called_by s own e e.sender else hears s (name_gone e)).sent ≡ []
    by true = silent_called s e own e.sender h
    by false = silent_heard s (name_gone e)

pub once : RepliesOnce
once = record {
  expected = λ s e own caller p q h. expected_of s e own caller s.own p q h;
  unexpected = λ s e h. silent_as s e s.own h;
}
