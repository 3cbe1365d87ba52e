-- The tests of routing decide what match rules say.
use Rattle.std.proofs.Common.{◌≡◌, ℕ, zero, suc, Bool, true, false, ◌&&◌, ◌||◌, ◌==◌, not, List, [], ◌∷◌, ◌++◌, length, take, drop, Option, Some, None, refl, sym, ap, ◌∙◌, arith, ◌⊎◌, inl, inr}
use Rattle.std.specs.Prelude.{IsSomeAnd, bytes_eq, encode_utf8_all}
use Rattle.std.specs.Bool.{Decides}
use Rattle.std.specs.Cmp.{unsigned_Decides}
use Rattle.std.specs.List.{list_all}
use Rattle.std.specs.FinMap as finmap
use Rattle.std.proofs.Math.Seq.{take-append_seam}
use Rattle.std.proofs.lemmas.List.{take-append-drop}
use Rattle.std.proofs.lemmas.Slice.Eq.{bytes_eq-Decides}
use Rattle.atspi_base.specs.valid_names.Names.{is_unique_name}
use Rattle.atspi_message.specs.Envelope.{Envelope}
use Rattle.atspi_names.specs.Queue.{owner_in}
use Rattle.atspi_names.specs.Owners.{Owners, list_of}
use Rattle.atspi_match.specs.declared.condition.Condition.{Condition}
use Rattle.atspi_match.specs.declared.condition.Condition.TheVariants.{Kind, Sender, Interface, Member, Path, PathNamespace, Destination, Arg, ArgPath, Arg0Namespace, Eavesdrop}
use Rattle.atspi_match.specs.Matching.{type_number, Owns, GoesBy, BeginsWith, EndsInSlash, IsWithin, IsPathWithin, IsSameBranch, text_argument, text_or_path_argument, Holds, Matches}
use Rattle.atspi_match.specs.routing.BusState.{unique_of}
use Rattle.atspi_match.specs.routing.Routing.{is_same, passes, begins_with, is_owned_by, goes_by, is_within, is_path_within, ends_in_slash, is_same_branch, holds, matches}
use Rattle.atspi_match.specs.routing.Laws.{TestsDecide}

-- both, either, not

both : {P Q : Type 0} (a b : Bool) → Decides a P → Decides b Q → Decides (a && b) (P × Q)
both true b p q = (λ h. (p.0 refl, q.0 h), λ h. q.1 h.1)
both false b p q = (λ h. absurd cc, λ h. absurd (clash (p.1 h.0)))
  where
    clash : false ≡ true → ⊥
    clash e = cc

either : {P Q : Type 0} (a b : Bool) → Decides a P → Decides b Q → Decides (a || b) (P ⊎ Q)
either true b p q = (λ h. inl (p.0 refl), λ h. refl)
either {P = P} {Q = Q} false b p q = (λ h. inr (q.0 h), by)
  where
    clash : false ≡ true → ⊥
    clash e = cc

    by : P ⊎ Q → b ≡ true
    by (inl x) = absurd (clash (p.1 x))
    by (inr y) = q.1 y

is_not : (a : Bool) → Decides (not a) (a ≡ false)
is_not true = (λ h. absurd (clash h), λ h. absurd (other h))
  where
    clash : false ≡ true → ⊥
    clash e = cc

    other : true ≡ false → ⊥
    other e = cc
is_not false = (λ h. refl, λ h. refl)

-- another statement that holds exactly where this one does
instead : {P Q : Type 0} (a : Bool) → (P → Q) → (Q → P) → Decides a P → Decides a Q
instead a to from d = (λ h. to (d.0 h), λ q. d.1 (from q))

-- fields

abbrev there : List ℕ → Option (List ℕ)
there text = Some text

same_text : (a b : List ℕ) → there a ≡ there b → a ≡ b
same_text a b e = cc

not_there : (text : List ℕ) → None ≡ there text → ⊥
not_there text e = cc

same : (field : Option (List ℕ)) (text : List ℕ) → Decides (is_same field text) (field ≡ Some text)
same None text = (λ h. absurd (clash h), λ h. absurd (not_there text h))
  where
    clash : false ≡ true → ⊥
    clash e = cc
same (Some field) text = instead (bytes_eq field text) (ap there) (same_text field text) (bytes_eq-Decides field text)

passing : {P : List ℕ → Type 0} (test : List ℕ → Bool) (field : Option (List ℕ)) → ((text : List ℕ) → Decides (test text) (P text)) → Decides (passes test field) (IsSomeAnd field P)
passing test None d = (λ h. absurd (clash h), λ h. absurd h)
  where
    clash : false ≡ true → ⊥
    clash e = cc
passing test (Some field) d = d field

-- texts

beginning : (text front : List ℕ) → Decides (begins_with text front) (BeginsWith text front)
beginning text front = instead (begins_with text front) to from (bytes_eq-Decides (take (length front) text) front)
  where
    to : take (length front) text ≡ front → BeginsWith text front
    to e = (drop (length front) text, sym (take-append-drop (length front) text) ∙ ap (λ (t : List ℕ). t ++ drop (length front) text) e)

    from : BeginsWith text front → take (length front) text ≡ front
    from b = ap (take (length front)) b.1 ∙ take-append_seam front b.0

within : (separator : ℕ) (namespace text : List ℕ) → Decides (is_within separator namespace text) (IsWithin separator namespace text)
within separator namespace text =
    either (bytes_eq text namespace) (begins_with text (namespace ++ separator ∷ [])) (bytes_eq-Decides text namespace) (beginning text (namespace ++ separator ∷ []))

path_within : (namespace path : List ℕ) → Decides (is_path_within namespace path) (IsPathWithin namespace path)
path_within namespace path = either (bytes_eq namespace (47 ∷ [])) (is_within 47 namespace path) (bytes_eq-Decides namespace (47 ∷ [])) (within 47 namespace path)

-- a text that ends in a slash, byte by byte
none_ends : EndsInSlash [] → ⊥
none_ends ([], e) = absurd cc
none_ends (b ∷ front, e) = absurd cc

one_ends : (b : ℕ) → EndsInSlash (b ∷ []) → b ≡ 47
one_ends b ([], e) = cc
one_ends b (c ∷ [], e) = absurd cc
one_ends b (c ∷ (d ∷ front), e) = absurd cc

more_ends : (b c : ℕ) (bs : List ℕ) → EndsInSlash (b ∷ (c ∷ bs)) → EndsInSlash (c ∷ bs)
more_ends b c bs ([], e) = absurd cc
more_ends b c bs (d ∷ front, e) = (front, cc)

slash : (text : List ℕ) → Decides (ends_in_slash text) (EndsInSlash text)
slash [] = (λ h. absurd (clash h), λ h. absurd (none_ends h))
  where
    clash : false ≡ true → ⊥
    clash e = cc
slash (b ∷ []) = instead (b == 47) (λ e. ([], ap (λ (n : ℕ). n ∷ []) e)) (one_ends b) (unsigned_Decides b 47)
slash (b ∷ (c ∷ bs)) = instead (ends_in_slash (c ∷ bs)) (λ h. (b ∷ h.0, ap (λ (t : List ℕ). b ∷ t) h.1)) (more_ends b c bs) (slash (c ∷ bs))

branch : (a b : List ℕ) → Decides (is_same_branch a b) (IsSameBranch a b)
branch a b =
    either (bytes_eq a b) ((ends_in_slash a && begins_with b a) || (ends_in_slash b && begins_with a b)) (bytes_eq-Decides a b)
    (either (ends_in_slash a && begins_with b a) (ends_in_slash b && begins_with a b) (both (ends_in_slash a) (begins_with b a) (slash a) (beginning b a)) (both (ends_in_slash b) (begins_with a b) (slash b) (beginning a b)))

-- names

abbrev one_of : ℕ → Option ℕ
one_of conn = Some conn

same_conn : (c d : ℕ) → one_of c ≡ one_of d → c ≡ d
same_conn c d e = cc

nobody : (c : ℕ) → None ≡ one_of c → ⊥
nobody c e = cc

owned : (owners : Owners) (name unique : List ℕ) → Decides (is_owned_by owners unique (owner_in (list_of owners.lists name))) (Owns owners name unique)
owned owners name unique = by (owner_in (list_of owners.lists name))
  where
    by : (o : Option ℕ) → Decides (is_owned_by owners unique o) ((conn : ℕ) × (o ≡ Some conn) × (finmap.get owners.unique conn ≡ Some unique))
    by None = (λ h. absurd (clash h), λ h. absurd (nobody h.0 h.1))
      where
        clash : false ≡ true → ⊥
        clash e = cc
    by (Some c) = instead (is_same (unique_of owners c) unique) (λ e. (c, refl, e)) (λ h. rw (same_conn c h.0 h.1) h.2) (same (unique_of owners c) unique)

going : (owners : Owners) (name field : List ℕ) → Decides (goes_by owners name field) (GoesBy owners name field)
going owners name field =
    let own = is_owned_by owners field (owner_in (list_of owners.lists name)) in
    either (bytes_eq field name) (not (is_unique_name name) && own) (bytes_eq-Decides field name) (both (not (is_unique_name name)) own (is_not (is_unique_name name)) (owned owners name field))

holding : (e : Envelope) (owners : Owners) (c : Condition) → Decides (holds e owners c) (Holds e owners c)
holding e owners (Kind t) = unsigned_Decides e.kind (type_number t)
holding e owners (Sender name) = passing (goes_by owners name) e.sender (going owners name)
holding e owners (Interface name) = same e.interface name
holding e owners (Member name) = same e.member name
holding e owners (Path path) = same e.path path
holding e owners (PathNamespace path) = passing (is_path_within path) e.path (path_within path)
holding e owners (Destination name) = passing (goes_by owners name) e.destination (going owners name)
holding e owners (Arg n text) = same (text_argument e n) (encode_utf8_all text)
holding e owners (ArgPath n text) = passing (is_same_branch (encode_utf8_all text)) (text_or_path_argument e n) (branch (encode_utf8_all text))
holding e owners (Arg0Namespace text) = passing (is_within 46 (encode_utf8_all text)) (text_argument e 0) (within 46 (encode_utf8_all text))
holding e owners (Eavesdrop b) = (λ h. tt, λ h. refl)

-- all of a list, from the first on
first_of : (e : Envelope) (owners : Owners) (c : Condition) (rule : List Condition) → Matches (c ∷ rule) e owners → Holds e owners c × Matches rule e owners
first_of e owners c rule h = (h 0 c (omega arith), λ k d lt. h (suc k) d (omega (arith, lt)))

all_of : (e : Envelope) (owners : Owners) (c : Condition) (rule : List Condition) → Holds e owners c × Matches rule e owners → Matches (c ∷ rule) e owners
all_of e owners c rule h zero d lt = h.0
all_of e owners c rule h (suc k) d lt = h.1 k d (omega (arith, lt))

pub matching : TestsDecide
matching e owners [] = (λ h k d lt. absurd (omega (arith, lt)), λ h. refl)
matching e owners (c ∷ rule) =
    instead (matches e owners (c ∷ rule)) (all_of e owners c rule) (first_of e owners c rule)
    (both (holds e owners c) (list_all (holds e owners) rule) (holding e owners c) (matching e owners rule))
