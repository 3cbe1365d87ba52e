-- A connection that leaves in place, as the definition has it.
use Rattle.std.proofs.Common.{◌≡◌, ◌≢◌, ℕ, ◌+◌, ◌≤◌, Bool, true, false, cond, not, ◌&&◌, List, [], ◌∷◌, ◌++◌, map, length, Option, None, Some, refl, sym, ap, ◌∙◌, subst}
use Rattle.std.proofs.lemmas.Bool.Decides.{Decides-eqb}
use Rattle.std.proofs.lemmas.Bool.{and_parts}
use Rattle.std.specs.Prelude.{◌==◌, codes}
use Rattle.std.specs.List.{fold, flat_map, filter, All}
use Rattle.std.specs.List.Sorted.{IsStrictlyIncreasing}
use Rattle.std.proofs.lemmas.List.Elements.{All-nil, All-cons, All-head, All-tail, All-append, All-filter}
use Rattle.std.proofs.lemmas.List.Kept.{IsStrictlyIncreasing-filter}
use Rattle.std.specs.Ordering.{nat_cmp, eq_by_cmp}
use Rattle.std.specs.Cmp.{nat_cmp_total, eq_by_cmp_equiv}
use Rattle.std.specs.FinMap as finmap
use Rattle.std.specs.FinMap.{get-remove}
use Rattle.atspi_message.specs.Envelope.{Envelope}
use Rattle.atspi_names.specs.Queue.{owner_in}
use Rattle.atspi_names.specs.Owners.{Owners, list_of, own_name, after_gone, owned_by}
use Rattle.atspi_match.specs.RuleIndex.{without_rules}
use Rattle.atspi_match.specs.declared.routing.closing.Why.{Why}
use Rattle.atspi_match.specs.routing.BusState.{BusState, OpenCall, unique_of, text_or_empty, name_or_empty, calls_without}
use Rattle.atspi_match.specs.routing.OwnMessages.{error_to, name_acquired, owner_changed, numbered}
use Rattle.atspi_match.specs.routing.Routing.{asks_for, one_or_none, receivers}
use Rattle.atspi_match.specs.routing.Steps.{Move, says, delivers, handed, said, speaks, farewell}
use Rattle.atspi_match.specs.routing.Queues.{Bus, Waiting, moved, own_of, stepped, without_queue, left}
use Rattle.atspi_bus_steps.specs.Farewell.{no_replies, name_passes_on, names_pass_on, forgotten}
use Rattle.atspi_bus_steps.specs.Sayable.{MaySay}
use Rattle.atspi_bus_steps.specs.Sound.{IsReady, IsSound}
use Rattle.atspi_bus_steps.proofs.Asking.{receivers-to, receivers-all, receivers-none}
use Rattle.atspi_bus_steps.proofs.Partings.{parting, say-parting, sound-forgotten, sound-next, le_more}
use Rattle.atspi_bus.specs.Exclusive.{IsExclusive}
use Rattle.atspi_bus.proofs.Exclusives.{exclusive-gone}
use Rattle.atspi_bus.proofs.Heard.{others, IsToOthers, out_of, gone_from, heard}
use Rattle.atspi_bus.proofs.Unqueued.{GivesOthers, all_moved_else}

-- ---- what is told goes to others

to_all : (owners : Owners) (conn : ℕ) (e : Envelope) → e.sender ≡ Some own_name → e.destination ≡ None → IsToOthers owners conn e
to_all owners conn e from none = record { from = from; to = λ name is. let h = sym none ∙ is in cc }

no_replies-others : (owners : Owners) (conn : ℕ) (calls : List OpenCall) → All (IsToOthers owners conn) (no_replies owners calls conn)
no_replies-others owners conn [] = All-nil (IsToOthers owners conn)
no_replies-others owners conn (c ∷ calls) = by (c.callee == conn && not (c.caller == conn)) refl (no_replies-others owners conn calls)
  where
    by : (b : Bool) → (c.callee == conn && not (c.caller == conn)) ≡ b → All (IsToOthers owners conn) (no_replies owners calls conn)
        → All (IsToOthers owners conn) (no_replies owners (c ∷ calls) conn)
    by true is rest =
        let away = (and_parts (c.callee == conn) (not (c.caller == conn)) is).1 in
        rw is (All-cons (IsToOthers owners conn) (error_to (unique_of owners c.caller) c.serial (codes "NoReply")) (no_replies owners calls conn)
        (record { from = refl; to = λ name named. (c.caller, (λ same. let t = (Decides-eqb c.caller conn).1 same in cc), named) }) rest)
    by false is rest = rw is rest

still_named : (owners : Owners) (conn c : ℕ) (name : List ℕ) → unique_of (after_gone owners conn) c ≡ Some name → (c ≢ conn) × (unique_of owners c ≡ Some name)
still_named owners conn c name is = by (eq_by_cmp nat_cmp c conn) refl
  where
    by : (b : Bool) → eq_by_cmp nat_cmp c conn ≡ b → (c ≢ conn) × (unique_of owners c ≡ Some name)
    by true tied = let h = sym (get-remove nat_cmp_total owners.unique conn c ∙ ap (λ b. cond b None (finmap.get owners.unique c)) tied) ∙ is in cc
    by false tied = (
      (λ same. let t = sym (ap (λ x. eq_by_cmp nat_cmp x conn) same ∙ (eq_by_cmp_equiv nat_cmp_total).refl conn) ∙ tied in cc),
      sym (get-remove nat_cmp_total owners.unique conn c ∙ ap (λ b. cond b None (finmap.get owners.unique c)) tied) ∙ is,
    )

acquired-others : (owners : Owners) (conn : ℕ) (name : List ℕ) (o : Option ℕ) → All (IsToOthers owners conn) (name_acquired (after_gone owners conn) name o)
acquired-others owners conn name None = All-nil (IsToOthers owners conn)
acquired-others owners conn name (Some c) =
    All-cons (IsToOthers owners conn) _ [] (record { from = refl; to = λ to is. let kept = still_named owners conn c to is in (c, kept.0, kept.1) }) (All-nil (IsToOthers owners conn))

changed-others : (owners : Owners) (conn : ℕ) (name before after : List ℕ) → All (IsToOthers owners conn) (owner_changed name before after ∷ [])
changed-others owners conn name before after =
    All-cons (IsToOthers owners conn) (owner_changed name before after) [] (to_all owners conn (owner_changed name before after) refl refl) (All-nil (IsToOthers owners conn))

pass_on-others : (owners : Owners) (conn : ℕ) (unique : List ℕ) (names : List (List ℕ)) → All (IsToOthers owners conn) (names_pass_on (after_gone owners conn) unique names)
pass_on-others owners conn unique [] = All-nil (IsToOthers owners conn)
pass_on-others owners conn unique (name ∷ names) =
    let after = after_gone owners conn in
    let next = owner_in (list_of after.lists name) in
    All-append (IsToOthers owners conn) (name_passes_on after unique name) (names_pass_on after unique names)
    (All-append (IsToOthers owners conn) (name_acquired after name next) (owner_changed name unique (name_or_empty after next) ∷ [])
    (acquired-others owners conn name next) (changed-others owners conn name unique (name_or_empty after next)))
    (pass_on-others owners conn unique names)

pub parting-others : (b : Bus) (conn : ℕ) (unique : List ℕ) → All (IsToOthers b.state.owners conn) (parting b conn unique)
parting-others b conn unique =
    let owners = b.state.owners in
    let P = IsToOthers owners conn in
    let told = names_pass_on (after_gone owners conn) unique (owned_by owners.lists conn) in
    All-append P (no_replies owners b.state.calls conn) (told ++ owner_changed unique unique [] ∷ []) (no_replies-others owners conn b.state.calls)
    (All-append P told (owner_changed unique unique [] ∷ []) (pass_on-others owners conn unique (owned_by owners.lists conn)) (changed-others owners conn unique unique []))

-- ---- and is heard by others alone

others-away : (conn : ℕ) (xs : List ℕ) → All (λ c. c ≢ conn) (others conn xs)
others-away conn [] = All-nil (λ c. c ≢ conn)
others-away conn (x ∷ xs) = by (x == conn) refl (others-away conn xs)
  where
    by : (b : Bool) → (x == conn) ≡ b → All (λ c. c ≢ conn) (others conn xs) → All (λ c. c ≢ conn) (others conn (x ∷ xs))
    by true is rest = rw is rest
    by false is rest = rw is (All-cons (λ c. c ≢ conn) x (others conn xs) (λ same. let t = sym is ∙ (Decides-eqb x conn).1 same in cc) rest)

heard-away : (s : BusState) (conn : ℕ) (e : Envelope) → IsExclusive s.owners → IsToOthers s.owners conn e → All (λ c. c ≢ conn) (receivers (out_of s conn) e)
heard-away s conn e h own = by e.destination refl
  where
    by : (o : Option (List ℕ)) → e.destination ≡ o → All (λ c. c ≢ conn) (receivers (out_of s conn) e)
    by (Some name) is =
        let to = own.to name is in
        subst (All (λ c. c ≢ conn)) (sym (receivers-to (out_of s conn) e name is ∙ ap (λ l. one_or_none (owner_in l)) (h.alone to.0 name to.2)))
        (All-cons (λ c. c ≢ conn) to.0 [] to.1 (All-nil (λ c. c ≢ conn)))
    by None is = signal (e.kind == 4) refl
      where
        signal : (b : Bool) → (e.kind == 4) ≡ b → All (λ c. c ≢ conn) (receivers (out_of s conn) e)
        signal true kind =
            subst (All (λ c. c ≢ conn)) (sym (receivers-all (out_of s conn) e is kind))
            (All-filter (asks_for (out_of s conn) e) (λ c. c ≢ conn) (others conn s.joined) (others-away conn s.joined))
        signal false kind = subst (All (λ c. c ≢ conn)) (sym (receivers-none (out_of s conn) e is kind)) (All-nil (λ c. c ≢ conn))

delivered-away : (conn : ℕ) (e : Envelope) (cs : List ℕ) → All (λ c. c ≢ conn) cs → All (GivesOthers conn) (map (λ c. delivers c e) cs)
delivered-away conn e [] h = All-nil (GivesOthers conn)
delivered-away conn e (c ∷ cs) h =
    All-cons (GivesOthers conn) (delivers c e) (map (λ c. delivers c e) cs) (All-head (λ c. c ≢ conn) c cs h) (delivered-away conn e cs (All-tail (λ c. c ≢ conn) c cs h))

numbered-others : (owners : Owners) (conn n : ℕ) (e : Envelope) → IsToOthers owners conn e → IsToOthers owners conn (record e { serial = n })
numbered-others owners conn n e h = record { from = h.from; to = h.to }

module _ (s : BusState) (conn : ℕ) (h : IsExclusive s.owners) where
  said-away : (n : ℕ) (told : List Envelope) → All (IsToOthers s.owners conn) told → All (GivesOthers conn) (flat_map (λ e. says e ∷ handed (out_of s conn) e) (numbered n told))
  said-away n [] own = All-nil (GivesOthers conn)
  said-away n (e ∷ told) own =
      let d = record e { serial = n } in
      let first = numbered-others s.owners conn n e (All-head (IsToOthers s.owners conn) e told own) in
      All-append (GivesOthers conn) (says d ∷ handed (out_of s conn) d) (flat_map (λ e. says e ∷ handed (out_of s conn) e) (numbered (n + 1) told))
      (All-cons (GivesOthers conn) (says d) (handed (out_of s conn) d) tt (delivered-away conn d (receivers (out_of s conn) d) (heard-away s conn d h first)))
      (said-away (n + 1) told (All-tail (IsToOthers s.owners conn) e told own))

  said-alike : (k : IsExclusive (after_gone s.owners conn)) (calls : List OpenCall) (n : ℕ) (told : List Envelope) → All (IsToOthers s.owners conn) told
      → flat_map (λ e. says e ∷ handed (out_of s conn) e) (numbered n told) ≡ flat_map (λ e. says e ∷ handed (gone_from s conn calls) e) (numbered n told)
  said-alike k calls n [] own = refl
  said-alike k calls n (e ∷ told) own =
      let d = record e { serial = n } in
      let first = numbered-others s.owners conn n e (All-head (IsToOthers s.owners conn) e told own) in
      ap (λ (cs : List ℕ). (says d ∷ map (λ c. delivers c d) cs) ++ flat_map (λ e. says e ∷ handed (out_of s conn) e) (numbered (n + 1) told)) (heard s conn calls d h k first)
      ∙ ap (λ (l : List Move). (says d ∷ handed (gone_from s conn calls) d) ++ l) (said-alike k calls (n + 1) told (All-tail (IsToOthers s.owners conn) e told own))

-- ---- so it may go behind what is told

others-twice : (conn : ℕ) (xs : List ℕ) → others conn (others conn xs) ≡ others conn xs
others-twice conn [] = refl
others-twice conn (x ∷ xs) = by (x == conn) refl (others-twice conn xs)
  where
    by : (b : Bool) → (x == conn) ≡ b → others conn (others conn xs) ≡ others conn xs → others conn (others conn (x ∷ xs)) ≡ others conn (x ∷ xs)
    by true is rest = rw is rest
    by false is rest = rw is (rw is (ap (λ (l : List ℕ). x ∷ l) rest))

-- a bus of which the connection is out
abbrev pub bus_out : Bus → ℕ → Bus
bus_out b conn = record b { state = out_of b.state conn }

pub gone-behind : (b : Bus) (conn : ℕ) (told : List Envelope) → IsExclusive b.state.owners → IsExclusive (after_gone b.state.owners conn) → All (IsToOthers b.state.owners conn) told
    → forgotten (stepped (bus_out b conn) (speaks (out_of b.state conn) told)) conn ≡ stepped (forgotten b conn) (speaks (forgotten b conn).state told)
gone-behind b conn told h k own =
    let s = b.state in
    let before : List Move = said (out_of s conn) told in
    let after : List Move = said (forgotten b conn).state told in
    let ended : List ℕ → Waiting → List Envelope → Bus = λ joined waiting own. record b {
      state = record s {
        joined = joined;
        owners = after_gone s.owners conn;
        rules = without_rules conn s.rules;
        calls = calls_without conn s.calls;
        next = s.next + length told;
      };
      waiting = waiting;
      own = own;
    } in
    ap (λ (j : List ℕ). ended j (without_queue (fold (moved b.quota) b.waiting before) conn) (b.own ++ own_of before)) (others-twice conn s.joined)
    ∙ ap (λ (w : Waiting). ended (others conn s.joined) w (b.own ++ own_of before)) (sym (all_moved_else b.quota conn b.waiting before (said-away s conn h s.next told own)))
    ∙ ap (λ (ms : List Move). ended (others conn s.joined) (fold (moved b.quota) (without_queue b.waiting conn) ms) (b.own ++ own_of ms))
    (said-alike s conn h k (calls_without conn s.calls) s.next told own)

-- ---- what is told, by the definition's word

farewell-is : (b : Bus) (conn : ℕ) (unique : List ℕ) → unique_of b.state.owners conn ≡ Some unique
    → parting b conn unique ≡ farewell b.state (after_gone b.state.owners conn) conn (unique_of b.state.owners conn)
farewell-is b conn unique is =
    let after = after_gone b.state.owners conn in
    ap (λ u. no_replies b.state.owners b.state.calls conn ++ (names_pass_on after (text_or_empty u) (owned_by b.state.owners.lists conn) ++ owner_changed unique unique [] ∷ [])) (sym is)
    ∙ ap (λ u. farewell b.state after conn u) (sym is)

by_name : (b : Bus) (conn : ℕ) (P : List Envelope → Type 0) → P [] → ((unique : List ℕ) → P (parting b conn unique))
    → P (farewell b.state (after_gone b.state.owners conn) conn (unique_of b.state.owners conn))
by_name b conn P none some = by (unique_of b.state.owners conn) refl
  where
    by : (o : Option (List ℕ)) → unique_of b.state.owners conn ≡ o → P (farewell b.state (after_gone b.state.owners conn) conn (unique_of b.state.owners conn))
    by None is = subst (λ o. P (farewell b.state (after_gone b.state.owners conn) conn o)) (sym is) none
    by (Some unique) is = subst P (farewell-is b conn unique is) (some unique)

pub say-farewell : (b : Bus) (conn : ℕ) → IsSound b.state → All MaySay (farewell b.state (after_gone b.state.owners conn) conn (unique_of b.state.owners conn))
say-farewell b conn sound = by_name b conn (All MaySay) (All-nil MaySay) (λ unique. say-parting b conn unique sound)

pub told-farewell : (b : Bus) (conn : ℕ) (unique : List ℕ) (told : List Envelope) → unique_of b.state.owners conn ≡ Some unique → told ≡ parting b conn unique
    → told ≡ farewell b.state (after_gone b.state.owners conn) conn (unique_of b.state.owners conn)
told-farewell b conn unique told named is = is ∙ farewell-is b conn unique named

pub left-in_place : (b next : Bus) (conn : ℕ) (told : List Envelope) → IsExclusive b.state.owners → told ≡ farewell b.state (after_gone b.state.owners conn) conn (unique_of b.state.owners conn)
    → next ≡ stepped (bus_out b conn) (speaks (out_of b.state conn) told) → forgotten next conn ≡ left b conn
left-in_place b next conn told h is said =
    ap (λ (x : Bus). forgotten x conn) said
    ∙ gone-behind b conn told h (exclusive-gone b.state.owners conn h)
    (subst (All (IsToOthers b.state.owners conn)) (sym is)
    (by_name b conn (All (IsToOthers b.state.owners conn)) (All-nil (IsToOthers b.state.owners conn)) (parting-others b conn)))
    ∙ ap (λ (t : List Envelope). stepped (forgotten b conn) (speaks (forgotten b conn).state t)) is

pub ready-out : (s : BusState) (joined : List ℕ) (conn : ℕ) → joined ≡ others conn s.joined → IsReady s → IsReady (record s { joined = joined })
ready-out s joined conn is was = record {
  rising = subst IsStrictlyIncreasing (sym is) (IsStrictlyIncreasing-filter (λ c. not (c == conn)) s.joined was.rising);
  first = was.first;
  last = was.last;
}

-- those who had joined before put back
pub joined-back : (b next : Bus) (joined before : List ℕ) → next ≡ record b { state = record b.state { joined = joined } } → before ≡ b.state.joined
    → record next { state = record next.state { joined = before } } ≡ b
joined-back b next joined before is same =
    ap (λ (x : Bus). record x { state = record x.state { joined = before } }) is ∙ ap (λ (j : List ℕ). record b { state = record b.state { joined = j } }) same

-- nobody is to be closed
pub nobody-left : (next : Bus) (conn : ℕ) → next.waiting.due ≡ [] → (forgotten next conn).waiting.due ≡ []
nobody-left next conn none = ap (filter (λ (d : ℕ × Why). not (d.0 == conn))) none

-- the bus that the connection left is sound
pub sound-left : (b next : Bus) (conn : ℕ) → IsSound b.state → next ≡ left b conn → next.state.next ≤ 4294967296 → IsSound next.state
sound-left b next conn was is last =
    let told = farewell b.state (after_gone b.state.owners conn) conn (unique_of b.state.owners conn) in
    subst (λ (x : Bus). IsSound x.state) (sym is)
    (sound-next (forgotten b conn).state (b.state.next + length told) (sound-forgotten b conn was) (le_more b.state.next (length told)) (subst (λ (x : Bus). x.state.next ≤ 4294967296) is last))
