-- The registry is the first of the parties: where it is among those that the bus closes, it is lost.
use Rattle.std.proofs.Common.{◌≡◌, ℕ, zero, suc, Bool, true, false, List, [], ◌∷◌, map, set, Some, refl, sym, ap, ◌∙◌, subst}
use Rattle.std.specs.Prelude.{slice_get, if◌then◌else◌}
use Rattle.std.specs.List.{AllByRecursion}
use Rattle.std.proofs.lemmas.Option.{same_Some}
use Rattle.atspi_script_lines.specs.declared.line.Party.{Party}
use Rattle.atspi_script_lines.specs.declared.line.Party.TheVariants.{Registry}
use Rattle.atspi_match.specs.declared.routing.closing.Closing.{Closing}
use Rattle.atspi_world_links.specs.declared.post.Post.{Post}
use Rattle.atspi_world_links.specs.declared.post.Standing.TheVariants.{Away}
use Rattle.atspi_trace.specs.World.{End, World}
use Rattle.atspi_trace.specs.Ends.{is_here, same_party}
use Rattle.atspi_trace.specs.Due.{is_lost}
use Rattle.atspi_world_moves.specs.Carried.{post_of}
use Rattle.atspi_world_links.specs.Changes.{changed_at}
use Rattle.atspi_world_moves.specs.inner.Told.{gone, all_gone, party_in, whose, AreOthers}
use Rattle.atspi_world_moves.specs.Halted.{IsAnother, HasRegistryFirst}
use Rattle.atspi_world_links.proofs.Changes.{map-kept}
use Rattle.atspi_world_moves.proofs.OwnTold.{who_of}
use Rattle.atspi_world_moves.proofs.Staying.{away_is}

-- the same by the parties alone
abbrev pub IsOtherParty : Party → Type 0
IsOtherParty who = same_party who Registry ≡ false

abbrev pub FirstOfParties : List Party → Type 0
FirstOfParties [] = ⊥
FirstOfParties (who ∷ others) = (who ≡ Registry) × AllByRecursion IsOtherParty others

pub first_party : (ends : List End) → HasRegistryFirst ends → FirstOfParties (map who_of ends)
first_party [] h = h
first_party (e ∷ es) h = (h.0, others es h.1)
  where
    others : (xs : List End) → AllByRecursion IsAnother xs → AllByRecursion IsOtherParty (map who_of xs)
    others [] a = tt
    others (x ∷ xs) a = (a.0, others xs a.1)

first_end : (ends : List End) → FirstOfParties (map who_of ends) → HasRegistryFirst ends
first_end [] h = h
first_end (e ∷ es) h = (h.0, others es h.1)
  where
    others : (xs : List End) → AllByRecursion IsOtherParty (map who_of xs) → AllByRecursion IsAnother xs
    others [] a = tt
    others (x ∷ xs) a = (a.0, others xs a.1)

-- so it stays where the ends stay whose they are
pub first_stays : (ends ends' : List End) → map who_of ends' ≡ map who_of ends → HasRegistryFirst ends → HasRegistryFirst ends'
first_stays ends ends' same h = first_end ends' (subst FirstOfParties (sym same) (first_party ends h))

-- a connection that is set stays whose it is
pub whose_set : (posts : List Post) (conn : ℕ) (p q : Post) → slice_get posts conn ≡ Some p → q.who ≡ p.who → map whose (set posts conn q) ≡ map whose posts
whose_set [] zero p q at who = refl
whose_set [] (suc conn) p q at who = refl
whose_set (x ∷ xs) zero p q at who = ap (λ y. y ∷ map whose xs) (who ∙ ap whose (sym (same_Some x p at)))
whose_set (x ∷ xs) (suc conn) p q at who = ap (λ l. x.who ∷ l) (whose_set xs conn p q at who)

-- the connection of the registry is the first
none_other : (parties : List Party) (conn : ℕ) → AllByRecursion IsOtherParty parties → same_party (party_in parties conn) Registry ≡ true → ⊥
none_other [] zero a h = absurd cc
none_other [] (suc conn) a h = absurd cc
none_other (who ∷ parties) zero a h = let clash : true ≡ false = sym h ∙ a.0 in absurd cc
none_other (who ∷ parties) (suc conn) a h = none_other parties conn a.1 h

first_conn : (parties : List Party) (conn : ℕ) → FirstOfParties parties → same_party (party_in parties conn) Registry ≡ true → conn ≡ 0
first_conn [] conn first h = absurd first
first_conn (who ∷ parties) zero first h = refl
first_conn (who ∷ parties) (suc conn) first h = absurd (none_other parties conn first.1 h)

-- where the first connection left, it has left behind all closings
abbrev pub HasLeftFirst : List Post → Type 0
HasLeftFirst [] = ⊥
HasLeftFirst (p ∷ ps) = p.standing ≡ Away

first_leaves : (posts : List Post) → FirstOfParties (map whose posts) → HasLeftFirst (changed_at 0 gone posts)
first_leaves [] h = h
first_leaves (p ∷ ps) h = refl

left_changed : (conn : ℕ) (posts : List Post) → HasLeftFirst posts → HasLeftFirst (changed_at conn gone posts)
left_changed zero [] h = h
left_changed (suc conn) [] h = h
left_changed zero (p ∷ ps) h = refl
left_changed (suc conn) (p ∷ ps) h = h

left_stays : (closings : List Closing) (posts : List Post) → HasLeftFirst posts → HasLeftFirst (all_gone closings posts)
left_stays [] posts h = h
left_stays (c ∷ cs) posts h = left_stays cs (changed_at c.conn gone posts) (left_changed c.conn posts h)

-- NOT ALL THAT ARE CLOSED ARE OTHERS: so the registry leaves
pub registry_leaves : (parties : List Party) (closings : List Closing) (posts : List Post) → map whose posts ≡ parties → FirstOfParties parties → (AreOthers parties closings → ⊥) → HasLeftFirst (all_gone closings posts)
registry_leaves parties [] posts are first some = absurd (some tt)
registry_leaves parties (c ∷ cs) posts are first some =
    by (same_party (party_in parties c.conn) Registry) refl
    (λ other. registry_leaves parties cs (changed_at c.conn gone posts) (map-kept whose gone (λ p. refl) posts c.conn ∙ are) first (λ others. some (other, others)))
  where
    by : (t : Bool) → same_party (party_in parties c.conn) Registry ≡ t
        → (same_party (party_in parties c.conn) Registry ≡ false → HasLeftFirst (all_gone cs (changed_at c.conn gone posts))) → HasLeftFirst (all_gone cs (changed_at c.conn gone posts))
    by true h later =
        left_stays cs (changed_at c.conn gone posts)
        (subst (λ i. HasLeftFirst (changed_at i gone posts)) (sym (first_conn parties c.conn first h)) (first_leaves posts (subst FirstOfParties (sym are) first)))
    by false h later = later h

-- and is lost
pub lost_so : (w : World) (posts : List Post) → posts ≡ map post_of w.ends → HasLeftFirst posts → is_lost w ≡ true
lost_so w posts is h = by w.ends refl (subst HasLeftFirst is h)
  where
    by : (ends : List End) → w.ends ≡ ends → HasLeftFirst (map post_of ends) → is_lost w ≡ true
    by [] ends_are none = absurd none
    by (e ∷ es) ends_are left =
        ap (λ (xs : List End). is_lost (record w { ends = xs })) ends_are ∙ ap (λ s. if is_here s then false else true) (away_is e.standing left)
