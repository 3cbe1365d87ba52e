-- The down links of a world that begins: of a bus to which nobody has joined, of the registry with its calls, and of the first world.
use Rattle.std.proofs.Common.{◌≡◌, ℕ, ◌<◌, ◌≤◌, List, [], ◌∷◌, length, map, drop, Some, refl, sym, ap, ◌∙◌, subst, arith}
use Rattle.std.proofs.lemmas.List.{length-map, length-append, length-drop}
use Rattle.atspi_script_lines.specs.declared.line.Party.TheVariants.{Registry}
use Rattle.atspi_message.specs.Bytes.{written}
use Rattle.atspi_match.specs.routing.Queues.{Bus, or_nothing, empty_bus}
use Rattle.atspi_world_links.specs.declared.post.Post.{Post}
use Rattle.atspi_trace.specs.World.{Role, Letter, End, World, first_registry, first_world}
use Rattle.atspi_trace.specs.Ends.{end_at, plain, put_up}
use Rattle.atspi_trace.specs.Causes.{joins}
use Rattle.atspi_trace.proofs.Maps.{numbers_get}
use Rattle.atspi_bus_laws.proofs.OfHanded.First.{first_hands, first_named}
use Rattle.atspi_bus_laws.proofs.OfHanded.Joining.{empty_hands, empty_named}
use Rattle.atspi_world_moves.specs.Carried.{post_of, IsCarried}
use Rattle.atspi_world_moves.specs.Downs.{bytes_down, IsBegun}
use Rattle.atspi_world_moves.specs.Filled.{waits_for}
use Rattle.atspi_world_moves.specs.Linked.{given_of, IsLinked}
use Rattle.atspi_world_moves.proofs.Beginning.{one_waits, nobody_waits, calls, called_world}
use Rattle.atspi_world_moves.proofs.Downs.{begun_within}
use Rattle.atspi_world_moves.proofs.Linked.{linked_same}

-- nobody has joined
pub empty_linked : (quota swaps : ℕ) → quota ≤ 67108864 → IsLinked (record { bus = empty_bus quota; ends = []; swaps = swaps }) []
empty_linked quota swaps few = record {
  given_are = refl;
  wait = nobody_waits (empty_bus quota).waiting.queues;
  hands = empty_hands quota few;
  named = empty_named;
  there = tt;
}

-- the registry joined, and its calls are on its up link
pub called_linked : (quota : ℕ) (role : Role) (given : List (List ℕ)) → IsLinked (joins (record { bus = empty_bus quota; ends = []; swaps = 0 }) Registry role []) given → IsLinked (called_world quota role) given
called_linked quota role given is =
    linked_same (joins (record { bus = empty_bus quota; ends = []; swaps = 0 }) Registry role []) 0 (put_up (map plain calls)) given (λ e. (refl, refl, refl, refl, refl)) is

-- THE FIRST WORLD
pub first_linked : (quota : ℕ) → quota ≤ 67108864 → IsLinked (first_world quota) ([] ∷ [])
first_linked quota few = record {
  given_are = refl;
  wait = one_waits (first_world quota).bus.waiting.queues first_registry refl refl (ap or_nothing (numbers_get ((0, []) ∷ []) 0 refl));
  hands = first_hands quota few;
  named = first_named;
  there = (refl, refl);
}

-- where nothing waits for an end, nothing lies at it
no_letter : (n : ℕ) (letters : List Letter) → IsBegun n letters → length (drop n (bytes_down letters)) ≡ 0 → letters ≡ []
no_letter n [] begun none = refl
no_letter n (l ∷ ls) begun none = absurd (nothing_left n (l ∷ ls) l ls refl begun none)
  where
    nothing_left : (n : ℕ) (letters : List Letter) (l : Letter) (ls : List Letter) → letters ≡ l ∷ ls → n < length (written l.said.message) → length (drop n (bytes_down letters)) ≡ 0 → ⊥
    nothing_left n letters l ls is begun none =
        let many = length-drop n (bytes_down letters) in
        let all = ap (λ x. length (bytes_down x)) is in
        let whole = begun_within n (l ∷ ls) begun in
        omega (arith, many, all, none, begun, whole, length-append (written l.said.message) (bytes_down ls))

pub none_below : (w : World) (b : Bus) (posts : List Post) (given : List (List ℕ)) (conn : ℕ) (e : End) → IsCarried w b posts → IsLinked w given → end_at w.ends conn ≡ Some e → waits_for b conn ≡ [] → e.down ≡ []
none_below w b posts given conn e carried is at none =
    let waiting = is.wait conn e at in
    no_letter e.down_moved e.down waiting.begun (ap length (sym waiting.bytes ∙ ap (λ (x : Bus). waits_for x conn) (sym carried.bus_is) ∙ none))

pub nothing_lies : (w : World) (b : Bus) (posts : List Post) (given : List (List ℕ)) (conn : ℕ) (e : End) → IsCarried w b posts → IsLinked w given → end_at w.ends conn ≡ Some e → waits_for b conn ≡ [] → given_of e ≡ []
nothing_lies w b posts given conn e carried is at none =
    let unmoved : e.down_moved ≡ 0 = subst (IsBegun e.down_moved) (none_below w b posts given conn e carried is at none) (is.wait conn e at).begun in
    ap (λ (n : ℕ). given_of (record e { down_moved = n })) unmoved

-- the registry took all that waited for it
pub heard_linked : (quota : ℕ) (w : World) (b : Bus) (posts : List Post) (given : List (List ℕ)) → quota ≤ 67108864 → IsCarried w b posts → IsLinked w given → length posts ≡ 1 → waits_for b 0 ≡ [] → IsLinked (first_world quota) given
heard_linked quota w b posts given few carried is alone none =
    subst (IsLinked (first_world quota)) (sym (is.given_are ∙ by w.ends (sym (ap length carried.posts_are ∙ length-map w.ends post_of) ∙ alone) (λ e at. nothing_lies w b posts given 0 e carried is at none))) (first_linked quota few)
  where
    by : (ends : List End) → length ends ≡ 1 → ((e : End) → end_at ends 0 ≡ Some e → given_of e ≡ []) → map given_of ends ≡ [] ∷ []
    by [] one lies = absurd cc
    by (e ∷ []) one lies = ap (λ l. l ∷ []) (lies e refl)
    by (e ∷ (x ∷ xs)) one lies = absurd (omega (arith, one))
