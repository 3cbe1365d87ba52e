-- Queues as chains of one pool: what the queues are after one chain changed, and that each connection has one still.
use Rattle.std.proofs.Common.{◌≡◌, ◌≢◌, ℕ, ◌+◌, ◌-◌, ◌%◌, ◌⊎◌, ◌<◌, ◌≤◌, ◌^◌, Bool, true, false, cond, eqb, List, [], ◌∷◌, ◌++◌, length, map, take, drop, set, Option, None, Some, is_some, refl, sym, ap, ◌∙◌, subst, inl, inr, arith}
use Rattle.std.specs.Prelude.{IsSome}
use Rattle.std.specs.Option.{option_map}
use Rattle.std.specs.Ordering.{nat_cmp}
use Rattle.std.specs.Cmp.{nat_cmp_total}
use Rattle.std.specs.Map.{keys_of, lookup}
use Rattle.std.specs.List.Sorted.{IsStrictlySortedBy}
use Rattle.std.specs.BTreeMap.{is_at}
use Rattle.std.specs.FinMap as finmap
use Rattle.std.specs.FinMap.{FinMap, find, get-from_entries, get-insert, get-remove, same_map, nat_cmp-IsAntisymmetric}
use Rattle.std.proofs.lemmas.Bool.{cases_eq}
use Rattle.std.proofs.lemmas.Bool.Decides.{nat_tests}
use Rattle.std.proofs.lemmas.List.{take-append-drop, get_or-set_same, get_or-set_other, get_or_past}
use Rattle.std.proofs.lemmas.List.Sums.{sum_by-set}
use Rattle.std.proofs.lemmas.Bool.{cases_lt}
use Rattle.std.proofs.lemmas.Map.Made.{lookup-map_values}
use Rattle.atspi_pool.specs.Chains.{Chain, empty_chain, front_of, popped_by, cut_by}
use Rattle.atspi_pool.specs.Store.{Store, chain_at, held}
use Rattle.atspi_pool.specs.Pool.{in_use, SetsChain}
use Rattle.atspi_match.specs.routing.Queues.{or_nothing, queue_of}
use Rattle.atspi_bus_queues.specs.Change.{with_queue}
use Rattle.atspi_bus_queues.specs.QueueMap.{chain_of, bytes_in, queues_of, HasChains}
use Rattle.atspi_bus_queues.proofs.Keys.{ties, ties_not, fewer, length-keys}

some_is : {X : Type 0} {o : Option X} {x : X} → o ≡ Some x → IsSome o
some_is e = ap is_some e

find_lookup : {X : Type 0} (es : List (ℕ × X)) (q : ℕ) → find nat_cmp q es ≡ lookup (is_at (nat_cmp q)) es
find_lookup [] q = refl
find_lookup (e ∷ es) q = ap (cond (is_at (nat_cmp q) e.0) (Some e.1)) (find_lookup es q)

-- the queue of a connection is the bytes of its chain
pub get-queues : (pool : Store) (chains : List (ℕ × ℕ)) (q : ℕ) → finmap.get (queues_of pool chains) q ≡ option_map (bytes_in pool) (chain_of chains q)
get-queues pool chains q =
    get-from_entries nat_cmp_total (map (λ (e : ℕ × ℕ). (e.0, bytes_in pool e.1)) chains) q
    ∙ find_lookup (map (λ (e : ℕ × ℕ). (e.0, bytes_in pool e.1)) chains) q
    ∙ lookup-map_values (bytes_in pool) (is_at (nat_cmp q)) chains

pub get-at : (pool : Store) (chains : List (ℕ × ℕ)) (queues : FinMap nat_cmp (List ℕ)) (conn chain : ℕ) → queues_of pool chains ≡ queues → chain_of chains conn ≡ Some chain → finmap.get queues conn ≡ Some (bytes_in pool chain)
get-at pool chains queues conn chain is at =
    ap (λ m. finmap.get m conn) (sym is) ∙ get-queues pool chains conn ∙ ap (option_map (bytes_in pool)) at

pub get_none : (pool : Store) (chains : List (ℕ × ℕ)) (queues : FinMap nat_cmp (List ℕ)) (conn : ℕ) → queues_of pool chains ≡ queues → chain_of chains conn ≡ None → finmap.get queues conn ≡ None
get_none pool chains queues conn is at =
    ap (λ m. finmap.get m conn) (sym is) ∙ get-queues pool chains conn ∙ ap (option_map (bytes_in pool)) at

-- and a connection with no queue has no chain
pub no_chain : (pool : Store) (chains : List (ℕ × ℕ)) (conn : ℕ) → finmap.get (queues_of pool chains) conn ≡ None → chain_of chains conn ≡ None
no_chain pool chains conn none = by (chain_of chains conn) (sym (get-queues pool chains conn) ∙ none)
  where
    by : (o : Option ℕ) → option_map (bytes_in pool) o ≡ None → o ≡ None
    by None e = refl
    by (Some chain) e = absurd cc

-- what one write to a map leaves at each key
pub at_key : {X : Type 0} (queues : FinMap nat_cmp X) (conn : ℕ) (x : X) → finmap.get (finmap.insert queues conn x) conn ≡ Some x
at_key queues conn x = get-insert nat_cmp_total queues conn x conn ∙ ap (λ b. cond b (Some x) (finmap.get queues conn)) (ties conn)

pub at_other : {X : Type 0} (queues : FinMap nat_cmp X) (conn : ℕ) (x : X) (q : ℕ) → q ≢ conn → finmap.get (finmap.insert queues conn x) q ≡ finmap.get queues q
at_other queues conn x q ne = get-insert nat_cmp_total queues conn x q ∙ ap (λ b. cond b (Some x) (finmap.get queues q)) (ties_not q conn ne)

pub gone_key : {X : Type 0} (queues : FinMap nat_cmp X) (conn : ℕ) → finmap.get (finmap.remove queues conn) conn ≡ None
gone_key queues conn = get-remove nat_cmp_total queues conn conn ∙ ap (λ b. cond b None (finmap.get queues conn)) (ties conn)

gone_other : {X : Type 0} (queues : FinMap nat_cmp X) (conn q : ℕ) → q ≢ conn → finmap.get (finmap.remove queues conn) q ≡ finmap.get queues q
gone_other queues conn q ne = get-remove nat_cmp_total queues conn q ∙ ap (λ b. cond b None (finmap.get queues q)) (ties_not q conn ne)

same_queues : (m n : FinMap nat_cmp (List ℕ)) → ((q : ℕ) → finmap.get m q ≡ finmap.get n q) → m ≡ n
same_queues m n h = same_map nat_cmp_total nat_cmp-IsAntisymmetric m n h

-- two maps that agree at a key and at all others
pub by_keys : (m n : FinMap nat_cmp (List ℕ)) (conn : ℕ) → finmap.get m conn ≡ finmap.get n conn → ((q : ℕ) → q ≢ conn → finmap.get m q ≡ finmap.get n q) → m ≡ n
by_keys m n conn here others = same_queues m n (λ q. elim (cases_eq q conn) [
  | inl is ↦ subst (λ (k : ℕ). finmap.get m k ≡ finmap.get n k) (sym is) here
  | inr ne ↦ others q ne
])

-- what is added and taken out again was never there
pub remove-insert : (queues : FinMap nat_cmp (List ℕ)) (conn : ℕ) (bytes : List ℕ) → finmap.get queues conn ≡ None → finmap.remove (finmap.insert queues conn bytes) conn ≡ queues
remove-insert queues conn bytes none =
    by_keys _ _ conn (gone_key _ conn ∙ sym none) (λ q ne. gone_other _ conn q ne ∙ at_other queues conn bytes q ne)

pub insert-insert : (queues : FinMap nat_cmp (List ℕ)) (conn : ℕ) (old bytes : List ℕ) → finmap.insert (finmap.insert queues conn old) conn bytes ≡ finmap.insert queues conn bytes
insert-insert queues conn old bytes =
    by_keys _ _ conn (at_key _ conn bytes ∙ sym (at_key queues conn bytes)) (λ q ne. at_other _ conn bytes q ne ∙ at_other queues conn old q ne ∙ sym (at_other queues conn bytes q ne))

pub remove-none : (queues : FinMap nat_cmp (List ℕ)) (conn : ℕ) → finmap.get queues conn ≡ None → queues ≡ finmap.remove queues conn
remove-none queues conn none = by_keys _ _ conn (none ∙ sym (gone_key queues conn)) (λ q ne. sym (gone_other queues conn q ne))

pub queue_of-insert : (queues : FinMap nat_cmp (List ℕ)) (conn : ℕ) (bytes : List ℕ) → queue_of (finmap.insert queues conn bytes) conn ≡ bytes
queue_of-insert queues conn bytes = ap or_nothing (at_key queues conn bytes)

pub get-insert_same : (queues : FinMap nat_cmp (List ℕ)) (conn : ℕ) (bytes : List ℕ) → IsSome (finmap.get (finmap.insert queues conn bytes) conn)
get-insert_same queues conn bytes = some_is (at_key queues conn bytes)

-- a chain in use has a number below the table's length
used_within : (s : Store) (c : ℕ) → IsSome (chain_at s c) → c < length s.chains
used_within s c used =
    elim (cases_lt c (length s.chains)) [
      | inl lt ↦ lt
      | inr ge ↦ absurd (not_some (chain_at s c) (get_or_past s.chains c None ge) used)
    ]
  where
    not_some : (o : Option Chain) → o ≡ None → IsSome o → ⊥
    not_some None e h = cc
    not_some (Some chain) e h = cc

-- one chain is this now, and the others are as they were, also in number
pub record Changes (old new : Store) (chain : ℕ) (c : Chain) : Type 0 where
  pub named : chain_at new chain ≡ Some c
  pub others : (q : ℕ) → q ≢ chain → chain_at new q ≡ chain_at old q
  pub counted : in_use new.chains ≡ in_use old.chains

abbrev slice : List (Option Chain) → ℕ → Option Chain
slice l q = chain_at (record { made = 0; chains = l }) q

abbrev there_is : ℕ → Option ℕ
there_is k = Some k

pub changes : (old new : Store) (chain : ℕ) (c : Chain) → IsSome (chain_at old chain) → new.chains ≡ set old.chains chain (Some c) → Changes old new chain c
changes old new chain c used is =
    let within : chain < length old.chains = used_within old chain used in
    record {
      named = ap (λ l. slice l chain) is ∙ get_or-set_same old.chains chain (Some c) None within;
      others = λ q ne. ap (λ l. slice l q) is ∙ get_or-set_other old.chains chain q (Some c) None ne;
      counted = omega (
        arith,
        ap in_use is,
        sum_by-set (λ (o : Option Chain). cond (is_some o) 1 0) old.chains chain (Some c) None within,
        ap (λ b. cond {A = ℕ} b 1 0) used,
      );
    }

module _ (pool : Store) (chains : List (ℕ × ℕ)) (h : HasChains pool chains) where
  -- where one chain of those in use changes
  module _ (new : Store) (conn chain : ℕ) (c : Chain) (at : chain_of chains conn ≡ Some chain) (it : Changes pool new chain c) where
    elsewhere : (q : ℕ) → q ≢ conn → (o : Option ℕ) → chain_of chains q ≡ o → option_map (bytes_in new) o ≡ option_map (bytes_in pool) o
    elsewhere q ne None e = refl
    elsewhere q ne (Some k) e = ap (λ (o : Option Chain). Some (held o).bytes) (it.others k (λ is. ne (h.apart q conn chain (e ∙ ap there_is is) at)))

    pub one_changed : queues_of new chains ≡ finmap.insert (queues_of pool chains) conn c.bytes
    one_changed =
        by_keys _ _ conn
        (get-queues new chains conn ∙ ap (option_map (bytes_in new)) at ∙ ap (λ (o : Option Chain). Some (held o).bytes) it.named ∙ sym (at_key _ conn c.bytes))
        (λ q ne. get-queues new chains q ∙ elsewhere q ne (chain_of chains q) refl ∙ sym (get-queues pool chains q) ∙ sym (at_other _ conn c.bytes q ne))

    pub one_kept : HasChains new chains
    one_kept = record {
      used = λ d k e. elim (cases_eq k chain) [
        | inl is ↦ subst (λ (i : ℕ). IsSome (chain_at new i)) (sym is) (some_is it.named)
        | inr ne ↦ subst IsSome (sym (it.others k ne)) (h.used d k e)
      ];
      apart = h.apart;
      counted = it.counted ∙ h.counted;
      ordered = h.ordered;
      small = h.small;
    }

  -- where no chain changes
  module _ (new : Store) (after : List (ℕ × ℕ)) (same : (q : ℕ) → chain_at new q ≡ chain_at pool q) (is : after ≡ chains) where
    pub none_changed : queues_of new after ≡ queues_of pool chains
    none_changed = same_queues _ _ (λ q. get-queues new after q ∙ ap (λ l. option_map (bytes_in new) (chain_of l q)) is ∙ by (chain_of chains q) ∙ sym (get-queues pool chains q))
      where
        by : (o : Option ℕ) → option_map (bytes_in new) o ≡ option_map (bytes_in pool) o
        by None = refl
        by (Some k) = ap (λ (o : Option Chain). Some (held o).bytes) (same k)

    pub none_kept : in_use new.chains ≡ in_use pool.chains → HasChains new after
    none_kept counted =
        subst (HasChains new) (sym is) (record {
          used = λ d k e. subst IsSome (sym (same k)) (h.used d k e);
          apart = h.apart;
          counted = counted ∙ h.counted;
          ordered = h.ordered;
          small = h.small;
        })

  -- there are fewer chains than numbers of connections, where one has none
  pub has_room : (conn : ℕ) → conn < 2 ^ 32 → chain_of chains conn ≡ None → in_use pool.chains < 2 ^ 32
  has_room conn lt none =
      let le : length (conn ∷ keys_of chains) ≤ 2 ^ 32 = fewer (2 ^ 32) conn chains h.ordered (λ q some. by q (chain_of chains q) refl some) lt none in
      omega (arith, h.counted, length-keys chains)
    where
      by : (q : ℕ) (o : Option ℕ) → chain_of chains q ≡ o → IsSome o → q < 2 ^ 32
      by q None e some = absurd cc
      by q (Some k) e some = h.small q k e

  -- where a connection gets a chain
  module _ (new : Store) (after : List (ℕ × ℕ)) (conn chain : ℕ) (none : chain_of chains conn ≡ None) (fresh : chain_at pool chain ≡ None)
      (it : SetsChain pool new chain (Some empty_chain))
      (updates : (q : ℕ) → chain_of after q ≡ cond (is_at (nat_cmp conn) q) (Some chain) (chain_of chains q)) where
    here : chain_of after conn ≡ Some chain
    here = updates conn ∙ ap (λ b. cond b (Some chain) (chain_of chains conn)) (ties conn)

    there : (q : ℕ) → q ≢ conn → chain_of after q ≡ chain_of chains q
    there q ne = updates q ∙ ap (λ b. cond b (Some chain) (chain_of chains q)) (ties_not conn q (λ e. ne (sym e)))

    not_fresh : (q k : ℕ) → chain_of chains q ≡ Some k → k ≢ chain
    not_fresh q k e is = by (chain_at pool k) (h.used q k e) (ap (chain_at pool) is ∙ fresh)
      where
        by : (o : Option Chain) → IsSome o → o ≡ None → ⊥
        by None some e = cc
        by (Some c) some e = cc

    other_bytes : (q : ℕ) (o : Option ℕ) → chain_of chains q ≡ o → option_map (bytes_in new) o ≡ option_map (bytes_in pool) o
    other_bytes q None e = refl
    other_bytes q (Some k) e = ap (λ (o : Option Chain). Some (held o).bytes) (it.others k (not_fresh q k e))

    pub one_added : queues_of new after ≡ finmap.insert (queues_of pool chains) conn []
    one_added =
        by_keys _ _ conn
        (get-queues new after conn ∙ ap (option_map (bytes_in new)) here ∙ ap (λ (o : Option Chain). Some (held o).bytes) it.named ∙ sym (at_key _ conn []))
        (λ q ne. get-queues new after q ∙ ap (option_map (bytes_in new)) (there q ne) ∙ other_bytes q (chain_of chains q) refl ∙ sym (get-queues pool chains q) ∙ sym (at_other _ conn [] q ne))

    -- the chain of a connection is its own, or the new one
    its : (q k : ℕ) → chain_of after q ≡ Some k → ((q ≡ conn) × (k ≡ chain)) ⊎ ((q ≢ conn) × (chain_of chains q ≡ Some k))
    its q k e = elim (cases_eq q conn) [
      | inl is ↦ inl (is, one (sym e ∙ ap (chain_of after) is ∙ here))
      | inr ne ↦ inr (ne, sym (there q ne) ∙ e)
    ]
      where
        one : {a b : ℕ} → Some a ≡ Some b → a ≡ b
        one e = cc

    pub added_kept : in_use new.chains ≡ in_use pool.chains + 1 → length after ≡ length chains + 1 → IsStrictlySortedBy nat_cmp (keys_of after) → conn < 2 ^ 32 → HasChains new after
    added_kept more longer ordered lt = record {
      used = λ q k e. elim (its q k e) [
        | inl p ↦ subst (λ (i : ℕ). IsSome (chain_at new i)) (sym p.1) (some_is it.named)
        | inr p ↦ subst IsSome (sym (it.others k (not_fresh q k p.1))) (h.used q k p.1)
      ];
      apart = λ c d k e f. elim (its c k e) [
        | inl p ↦ elim (its d k f) [ inl r ↦ p.0 ∙ sym r.0 | inr r ↦ absurd (not_fresh d k r.1 p.1) ]
        | inr p ↦ elim (its d k f) [ inl r ↦ absurd (not_fresh c k p.1 r.1) | inr r ↦ h.apart c d k p.1 r.1 ]
      ];
      counted = omega (arith, more, longer, h.counted);
      ordered = ordered;
      small = λ q k e. elim (its q k e) [ inl p ↦ subst (λ (i : ℕ). i < 2 ^ 32) (sym p.0) lt | inr p ↦ h.small q k p.1 ];
    }

  -- where a connection loses its chain
  module _ (new : Store) (after : List (ℕ × ℕ)) (conn chain : ℕ) (at : chain_of chains conn ≡ Some chain)
      (it : SetsChain pool new chain None)
      (updates : (q : ℕ) → chain_of after q ≡ cond (is_at (nat_cmp conn) q) None (chain_of chains q)) where
    lost : chain_of after conn ≡ None
    lost = updates conn ∙ ap (λ b. cond b None (chain_of chains conn)) (ties conn)

    stays : (q : ℕ) → q ≢ conn → chain_of after q ≡ chain_of chains q
    stays q ne = updates q ∙ ap (λ b. cond b None (chain_of chains q)) (ties_not conn q (λ e. ne (sym e)))

    not_its : (q k : ℕ) → q ≢ conn → chain_of chains q ≡ Some k → k ≢ chain
    not_its q k ne e is = ne (h.apart q conn chain (e ∙ ap there_is is) at)

    kept_bytes : (q : ℕ) → q ≢ conn → (o : Option ℕ) → chain_of chains q ≡ o → option_map (bytes_in new) o ≡ option_map (bytes_in pool) o
    kept_bytes q ne None e = refl
    kept_bytes q ne (Some k) e = ap (λ (o : Option Chain). Some (held o).bytes) (it.others k (not_its q k ne e))

    pub one_lost : queues_of new after ≡ finmap.remove (queues_of pool chains) conn
    one_lost =
        by_keys _ _ conn (get-queues new after conn ∙ ap (option_map (bytes_in new)) lost ∙ sym (gone_key _ conn))
        (λ q ne. get-queues new after q ∙ ap (option_map (bytes_in new)) (stays q ne) ∙ kept_bytes q ne (chain_of chains q) refl ∙ sym (get-queues pool chains q) ∙ sym (gone_other _ conn q ne))

    left : (q k : ℕ) → chain_of after q ≡ Some k → (q ≢ conn) × (chain_of chains q ≡ Some k)
    left q k e = elim (cases_eq q conn) [
      | inl is ↦ absurd (none (sym lost ∙ ap (chain_of after) (sym is) ∙ e))
      | inr ne ↦ (ne, sym (stays q ne) ∙ e)
    ]
      where
        none : None ≡ Some k → ⊥
        none e = cc

    pub lost_kept : in_use new.chains + 1 ≡ in_use pool.chains → length after + 1 ≡ length chains → IsStrictlySortedBy nat_cmp (keys_of after) → HasChains new after
    lost_kept fewer_chains shorter ordered = record {
      used = λ q k e. let p : (q ≢ conn) × (chain_of chains q ≡ Some k) = left q k e in subst IsSome (sym (it.others k (not_its q k p.0 p.1))) (h.used q k p.1);
      apart = λ c d k e f. h.apart c d k (left c k e).1 (left d k f).1;
      counted = omega (arith, fewer_chains, shorter, h.counted);
      ordered = ordered;
      small = λ q k e. h.small q k (left q k e).1;
    }

-- the bytes of chains that lose some
pub popped-bytes : (c : Chain) (n : ℕ) → n ≤ length c.bytes → (popped_by c n).bytes ≡ drop n c.bytes
popped-bytes c n le = by (eqb (length c.bytes) n) refl
  where
    all : {A : Type 0} (xs : List A) → drop (length xs) xs ≡ []
    all [] = refl
    all (x ∷ xs) = all xs

    by : (b : Bool) → eqb (length c.bytes) n ≡ b → (cond b empty_chain (record { popped = (c.popped + n) % 256; bytes = drop n c.bytes })).bytes ≡ drop n c.bytes
    by true e = let is : length c.bytes ≡ n = grind (arith, nat_tests) in sym (ap (λ i. drop i c.bytes) (sym is) ∙ all c.bytes)
    by false e = refl

pub cut-bytes : (c : Chain) (n : ℕ) → n ≤ length c.bytes → (cut_by c n).bytes ≡ take (length c.bytes - n) c.bytes
cut-bytes c n le = by (eqb (length c.bytes) n) refl
  where
    by : (b : Bool) → eqb (length c.bytes) n ≡ b → (cond b empty_chain (record { popped = c.popped; bytes = take (length c.bytes - n) c.bytes })).bytes ≡ take (length c.bytes - n) c.bytes
    by true e = let none : length c.bytes - n ≡ 0 = (let is : length c.bytes ≡ n = grind (arith, nat_tests) in omega arith) in sym (ap (λ i. take i c.bytes) none)
    by false e = refl

-- the front of a chain
pub front-begins : (c : Chain) (bytes front : List ℕ) → bytes ≡ c.bytes → front ≡ front_of c → (rest : List ℕ) × (bytes ≡ front ++ rest)
front-begins c bytes front is it =
    (drop (256 - c.popped) c.bytes, is ∙ sym (take-append-drop (256 - c.popped) c.bytes) ∙ ap (λ (l : List ℕ). l ++ drop (256 - c.popped) c.bytes) (sym it))

-- queues that change only where there is one
pub with_queue-some : (queues : FinMap nat_cmp (List ℕ)) (conn : ℕ) (old bytes : List ℕ) → finmap.get queues conn ≡ Some old → finmap.insert queues conn bytes ≡ with_queue queues conn bytes
with_queue-some queues conn old bytes at = sym (ap (λ o. cond (is_some o) (finmap.insert queues conn bytes) queues) at)

pub with_queue-none : (queues : FinMap nat_cmp (List ℕ)) (conn : ℕ) (bytes : List ℕ) → finmap.get queues conn ≡ None → queues ≡ with_queue queues conn bytes
with_queue-none queues conn bytes at = sym (ap (λ o. cond (is_some o) (finmap.insert queues conn bytes) queues) at)

-- whether a connection has a queue
pub has_queue : (pool : Store) (chains : List (ℕ × ℕ)) (queues : FinMap nat_cmp (List ℕ)) (conn : ℕ) → queues_of pool chains ≡ queues → is_some (finmap.get queues conn) ≡ is_some (chain_of chains conn)
has_queue pool chains queues conn is =
    ap (λ m. is_some (finmap.get m conn)) (sym is) ∙ ap is_some (get-queues pool chains conn) ∙ by (chain_of chains conn)
  where
    by : (o : Option ℕ) → is_some (option_map (bytes_in pool) o) ≡ is_some o
    by None = refl
    by (Some k) = refl

pub none_of : {X : Type 0} (o : Option X) → is_some o ≡ false → o ≡ None
none_of None e = refl
none_of (Some x) e = absurd cc

pub not_both : {X : Type 0} (o : Option X) → IsSome o → o ≡ None → ⊥
not_both None some e = cc
not_both (Some x) some e = cc

pub all_popped : (c : Chain) (n : ℕ) → n ≡ length c.bytes → (popped_by c n).bytes ≡ []
all_popped c n is = popped-bytes c n (omega arith) ∙ ap (λ i. drop i c.bytes) is ∙ none c.bytes
  where
    none : (xs : List ℕ) → drop (length xs) xs ≡ []
    none [] = refl
    none (x ∷ xs) = none xs
