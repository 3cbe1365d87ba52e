-- A connection that leaves, and what its end was given.
use Rattle.std.proofs.Common.{◌≡◌, ℕ, zero, suc, ◌<◌, ◌≤◌, List, [], ◌∷◌, length, map, set, get_or, refl, sym, ap, ◌∙◌, arith}
use Rattle.atspi_script_lines.specs.declared.line.Party.TheVariants.{Bus as The_bus}
use Rattle.atspi_world_links.specs.declared.post.Post.{Post}
use Rattle.atspi_world_links.specs.Changes.{changed_at}
use Rattle.atspi_world_moves.specs.inner.Told.{gone, emptied, whose, party_in}
use Rattle.atspi_world_links.proofs.Changes.{changed_past, changed_set}

pub emptied_set : (xs : List (List ℕ)) (i : ℕ) → i < length xs → set xs i [] ≡ changed_at i emptied xs
emptied_set xs i h = changed_set emptied xs i [] h

pub emptied_past : (xs : List (List ℕ)) (i : ℕ) → length xs ≤ i → xs ≡ changed_at i emptied xs
emptied_past xs i h = sym (changed_past emptied xs i h)

pub gone_set : (posts : List Post) (i : ℕ) (p q : Post) → i < length posts → p ≡ get_or posts i p → q ≡ gone p → set posts i q ≡ changed_at i gone posts
gone_set posts i p q h e g = ap (set posts i) (g ∙ ap gone e) ∙ changed_set gone posts i p h

pub gone_past : (posts : List Post) (i : ℕ) → length posts ≤ i → posts ≡ changed_at i gone posts
gone_past posts i h = sym (changed_past gone posts i h)

pub who_is : (posts : List Post) (i : ℕ) (p : Post) → i < length posts → p ≡ get_or posts i p → p.who ≡ party_in (map whose posts) i
who_is posts i p h e = ap whose e ∙ at posts i h
  where
    at : (xs : List Post) (k : ℕ) → k < length xs → whose (get_or xs k p) ≡ party_in (map whose xs) k
    at [] k l = absurd (omega (arith, l))
    at (x ∷ xs) zero l = refl
    at (x ∷ xs) (suc k) l = at xs k (omega (arith, l))

pub who_past : (posts : List Post) (i : ℕ) → length posts ≤ i → The_bus ≡ party_in (map whose posts) i
who_past [] zero h = refl
who_past [] (suc i) h = refl
who_past (x ∷ xs) zero h = absurd (omega (arith, h))
who_past (x ∷ xs) (suc i) h = who_past xs i (omega (arith, h))
