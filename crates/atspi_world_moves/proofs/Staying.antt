-- The registry stays, the first of the ends: whom the bus closes is another, and who stops or leaves is.
use Rattle.std.proofs.Common.{◌≡◌, ℕ, zero, suc, true, false, List, [], ◌∷◌, ◌++◌, map, set, get_or, Some, refl, sym, ap, ◌∙◌, subst}
use Rattle.std.specs.Prelude.{if◌then◌else◌}
use Rattle.std.proofs.lemmas.Option.{same_Some}
use Rattle.atspi_script_lines.specs.declared.line.Party.{Party}
use Rattle.atspi_script_lines.specs.declared.line.Party.TheVariants.{Registry}
use Rattle.atspi_match.specs.declared.routing.closing.Closing.{Closing}
use Rattle.atspi_world_links.specs.declared.post.Post.{Post}
use Rattle.atspi_world_links.specs.declared.post.Standing.TheVariants.{Here, Away}
use Rattle.atspi_trace.specs.World.{Standing, here, stopped, away, End, World}
use Rattle.atspi_trace.specs.Ends.{is_here, same_party, end_at, with_end, stops}
use Rattle.atspi_trace.specs.Due.{is_lost}
use Rattle.atspi_world_moves.specs.Carried.{standing_at, post_of}
use Rattle.atspi_world_links.specs.Changes.{changed_at}
use Rattle.atspi_world_moves.specs.inner.Told.{gone, all_gone, party_in, whose, AreOthers}
use Rattle.atspi_world_moves.specs.Linked.{IsLinked, IsThere}
use Rattle.atspi_world_links.proofs.Changes.{map-kept}

-- the same by the connections: the first is the registry's, and stands
abbrev pub Stands : List Post → Type 0
Stands [] = Unit {0}
Stands (p ∷ ps) = (p.who ≡ Registry) × (p.standing ≡ Here)

pub here_is : (s : Standing) → standing_at s ≡ Here → s ≡ here
here_is here h = refl
here_is stopped h = absurd cc
here_is away h = absurd cc

pub away_is : (s : Standing) → standing_at s ≡ Away → s ≡ away
away_is here h = absurd cc
away_is stopped h = absurd cc
away_is away h = refl

pub stands_of : (ends : List End) (posts : List Post) → posts ≡ map post_of ends → IsThere ends → Stands posts
stands_of [] [] is h = tt
stands_of [] (p ∷ ps) is h = absurd cc
stands_of (e ∷ es) [] is h = absurd cc
stands_of (e ∷ es) (p ∷ ps) is h =
    let first : p ≡ post_of e = cc in
    (ap whose first ∙ h.0, ap (λ (q : Post). q.standing) first ∙ ap standing_at h.1)

pub there_of : (ends : List End) (posts : List Post) → posts ≡ map post_of ends → Stands posts → IsThere ends
there_of [] posts is h = tt
there_of (e ∷ es) [] is h = absurd cc
there_of (e ∷ es) (p ∷ ps) is h =
    let first : p ≡ post_of e = cc in
    (sym (ap whose first) ∙ h.0, here_is e.standing (sym (ap (λ (q : Post). q.standing) first) ∙ h.1))

-- a connection that stays whose it is, and stands as it does
pub stands_set : (posts : List Post) (conn : ℕ) (p q : Post) → p ≡ get_or posts conn p → q.who ≡ p.who → q.standing ≡ p.standing → Stands posts → Stands (set posts conn q)
stands_set [] zero p q at who standing h = tt
stands_set [] (suc conn) p q at who standing h = tt
stands_set (x ∷ xs) zero p q at who standing h = (who ∙ ap whose at ∙ h.0, standing ∙ ap (λ (y : Post). y.standing) at ∙ h.1)
stands_set (x ∷ xs) (suc conn) p q at who standing h = h

-- another leaves
pub stands_gone : (posts : List Post) (conn : ℕ) → same_party (party_in (map whose posts) conn) Registry ≡ false → Stands posts → Stands (changed_at conn gone posts)
stands_gone [] conn other h = tt
stands_gone (p ∷ ps) zero other h = let clash : true ≡ false = sym (ap (λ who. same_party who Registry) h.0) ∙ other in absurd cc
stands_gone (p ∷ ps) (suc conn) other h = h

-- THOSE THAT ARE CLOSED ARE OTHERS
pub stands_closed : (parties : List Party) (closings : List Closing) (posts : List Post) → map whose posts ≡ parties → AreOthers parties closings → Stands posts → Stands (all_gone closings posts)
stands_closed parties [] posts are others h = h
stands_closed parties (c ∷ cs) posts are others h =
    stands_closed parties cs (changed_at c.conn gone posts) (map-kept whose gone (λ p. refl) posts c.conn ∙ are) others.1
    (stands_gone posts c.conn (ap (λ l. same_party (party_in l c.conn) Registry) are ∙ others.0) h)

-- an end changes, and neither who it is nor how it stands
pub there_same : (f : End → End) → ((e : End) → (f e).who ≡ e.who) → ((e : End) → (f e).standing ≡ e.standing) → (ends : List End) (conn : ℕ) → IsThere ends → IsThere (with_end conn f ends)
there_same f who standing [] zero h = tt
there_same f who standing [] (suc conn) h = tt
there_same f who standing (e ∷ es) zero h = (who e ∙ h.0, standing e ∙ h.1)
there_same f who standing (e ∷ es) (suc conn) h = h

-- another stops
pub there_stopped : (ends : List End) (conn : ℕ) (e : End) → end_at ends conn ≡ Some e → same_party e.who Registry ≡ false → IsThere ends → IsThere (with_end conn stops ends)
there_stopped [] zero e at other h = tt
there_stopped [] (suc conn) e at other h = tt
there_stopped (x ∷ xs) zero e at other h =
    let clash : true ≡ false = sym (ap (λ who. same_party who Registry) h.0) ∙ ap (λ (y : End). same_party y.who Registry) (same_Some x e at) ∙ other in
    absurd cc
there_stopped (x ∷ xs) (suc conn) e at other h = h

-- an end that stopped is another, and its connection leaves
pub stopped_gone : (ends : List End) (posts : List Post) (conn : ℕ) (e : End) → posts ≡ map post_of ends → end_at ends conn ≡ Some e → e.standing ≡ stopped → IsThere ends → Stands (changed_at conn gone posts)
stopped_gone ends posts conn e is at stands h = by ends posts conn is at (stands_of ends posts is h) h
  where
    by : (es : List End) (ps : List Post) (k : ℕ) → ps ≡ map post_of es → end_at es k ≡ Some e → Stands ps → IsThere es → Stands (changed_at k gone ps)
    by es [] k is at s h = tt
    by es (p ∷ ps) (suc k) is at s h = s
    by [] (p ∷ ps) zero is at s h = absurd cc
    by (x ∷ xs) (p ∷ ps) zero is at s h =
        let clash : here ≡ stopped = sym h.1 ∙ ap (λ (y : End). y.standing) (same_Some x e at) ∙ stands in
        absurd cc

-- who joins where nobody has is the registry
pub there_joined : (ends : List End) (n : End) → n.standing ≡ here → (ends ≡ [] → n.who ≡ Registry) → IsThere ends → IsThere (ends ++ n ∷ [])
there_joined [] n stands first h = (first refl, stands)
there_joined (e ∷ es) n stands first h = h

-- THE REGISTRY IS NOT LOST
pub lives_so : (w : World) (given : List (List ℕ)) → IsLinked w given → is_lost w ≡ false
lives_so w given is = by w.ends refl is.there
  where
    by : (ends : List End) → w.ends ≡ ends → IsThere ends → is_lost w ≡ false
    by [] is h = ap (λ (es : List End). is_lost (record w { ends = es })) is
    by (e ∷ es) is h = ap (λ (xs : List End). is_lost (record w { ends = xs })) is ∙ ap (λ s. if is_here s then false else true) h.1

-- and it is the first
pub first_is : (w : World) (given : List (List ℕ)) (e : End) → IsLinked w given → end_at w.ends 0 ≡ Some e → (e.who ≡ Registry) × (e.standing ≡ here)
first_is w given e is at = by w.ends at is.there
  where
    by : (ends : List End) → end_at ends 0 ≡ Some e → IsThere ends → (e.who ≡ Registry) × (e.standing ≡ here)
    by [] at h = absurd cc
    by (x ∷ xs) at h = subst (λ (y : End). (y.who ≡ Registry) × (y.standing ≡ here)) (same_Some x e at) h
