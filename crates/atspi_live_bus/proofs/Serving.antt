-- The links of the bus and those that the host has open, link by link.
use Rattle.std.proofs.Common.{◌≡◌, ℕ, ◌<◌, List, [], ◌∷◌, ◌++◌, take, drop, length, suc, slice_index_or, slice_set, zero, refl, sym, ap, subst, ◌∙◌, inl, inr}
use Rattle.std.proofs.lemmas.Bool.Decides.{eqb_tells}
use Rattle.std.proofs.lemmas.List.{map-append, map-set, set_split, length-map}
use Rattle.std.proofs.Math.Seq.{split_at}
use Rattle.std.proofs.Math.ListN.{get_or-map}
use Rattle.std.specs.List.{remove, drop-map}
use Rattle.atspi_live_host.specs.declared.call.Did.TheVariants.{Done}
use Rattle.atspi_live_host.specs.Calls.{IsNew, Opens, IsOpen, without}
use Rattle.atspi_live_host.specs.inner.Calls.{Differ}
use Rattle.atspi_live_bus.specs.declared.link.Link.{Link}
use Rattle.atspi_live_bus.specs.inner.Serving.{Serves, numbers}

new_front : (k : ℕ) (xs ys : List ℕ) → IsNew k (xs ++ ys) → IsNew k xs
new_front k [] ys p = tt
new_front k (x ∷ xs) ys p = (p.0, new_front k xs ys p.1)

new_back : (k : ℕ) (xs ys : List ℕ) → IsNew k (xs ++ ys) → IsNew k ys
new_back k [] ys p = p
new_back k (x ∷ xs) ys p = new_back k xs ys p.1

new_both : (k : ℕ) (xs ys : List ℕ) → IsNew k xs → IsNew k ys → IsNew k (xs ++ ys)
new_both k [] ys p q = q
new_both k (x ∷ xs) ys p q = (p.0, new_both k xs ys p.1 q)

differ_mid : (xs : List ℕ) (k : ℕ) (ys : List ℕ) → Differ (xs ++ k ∷ ys) → IsNew k xs × (IsNew k ys × Differ (xs ++ ys))
differ_mid [] k ys p = (tt, p)
differ_mid (x ∷ xs) k ys p =
    let q = differ_mid xs k ys p.1 in
    let m = new_back x xs (k ∷ ys) p.0 in
    (((λ e. m.0 (sym e)), q.0), (q.1.0, (new_both x xs ys (new_front x xs (k ∷ ys) p.0) m.1, q.1.1)))

differ_more : (xs : List ℕ) (k : ℕ) → Differ xs → IsNew k xs → Differ (xs ++ k ∷ [])
differ_more [] k p n = (tt, tt)
differ_more (x ∷ xs) k p n = (new_both x xs (k ∷ []) p.0 ((λ e. n.0 (sym e)), tt), differ_more xs k p.1 n.1)

without_new : (k : ℕ) (xs : List ℕ) → IsNew k xs → without k xs ≡ xs
without_new k [] n = refl
without_new k (x ∷ xs) n = elim (eqb_tells x k) [ inl e ↦ absurd (n.0 e.1) | inr e ↦ rw e.0 (ap (λ w. x ∷ w) (without_new k xs n.1)) ]

without_mid : (xs : List ℕ) (k : ℕ) (ys : List ℕ) → IsNew k xs → IsNew k ys → without k (xs ++ k ∷ ys) ≡ xs ++ ys
without_mid [] k ys n m = elim (eqb_tells k k) [ inl e ↦ rw e.0 (without_new k ys m) | inr e ↦ absurd (e.1 refl) ]
without_mid (x ∷ xs) k ys n m = elim (eqb_tells x k) [ inl e ↦ absurd (n.0 e.1) | inr e ↦ rw e.0 (ap (λ w. x ∷ w) (without_mid xs k ys n.1 m)) ]

open_mid : (xs : List ℕ) (k : ℕ) (ys : List ℕ) → IsOpen k (xs ++ k ∷ ys)
open_mid [] k ys = inl refl
open_mid (x ∷ xs) k ys = inr (open_mid xs k ys)

split : (links : List Link) (at : ℕ) (l : Link) → at < length links → l ≡ slice_index_or links at l → numbers links ≡ take at (numbers links) ++ l.number ∷ drop (suc at) (numbers links)
split links at l h e =
    let f = λ (x : Link). x.number in
    split_at (numbers links) at l.number (rw (length-map links f) h)
    ∙ ap (λ w. take at (numbers links) ++ w ∷ drop (suc at) (numbers links)) (get_or-map f links at l ∙ ap f (sym e))

pub link_open : (links : List Link) (at : ℕ) (l : Link) (o : List ℕ) → at < length links → l ≡ slice_index_or links at l → Serves o links → IsOpen l.number o
link_open links at l o h e s =
    subst (λ w. IsOpen l.number w) (sym (split links at l h e) ∙ s.are) (open_mid (take at (numbers links)) l.number (drop (suc at) (numbers links)))

-- a link that came
pub opened : (links links' : List Link) (k : ℕ) (o p : List ℕ) → numbers links' ≡ numbers links ++ k ∷ [] → Opens o p (Done k) → Serves o links → Serves p links'
opened links links' k o p e n s = record {
  are = e ∙ ap (λ w. w ++ k ∷ []) s.are ∙ sym n.0;
  differ = subst Differ (sym n.0) (differ_more o k s.differ n.1);
}

pub pushed : (links : List Link) (l : Link) → numbers (links ++ l ∷ []) ≡ numbers links ++ l.number ∷ []
pushed links l = map-append (λ (x : Link). x.number) links (l ∷ [])

-- nothing opened or closed
pub idle : (links : List Link) (o p : List ℕ) → p ≡ o → Serves o links → Serves p links
idle links o p e s = subst (λ w. Serves w links) (sym e) s

-- a link that heard or gave something
pub turned : (links : List Link) (at : ℕ) (l m : Link) (o p : List ℕ) → at < length links → l ≡ slice_index_or links at l → m.number ≡ l.number → p ≡ o → Serves o links → Serves p (slice_set links at m)
turned links at l m o p h e n q s =
    let f = λ (x : Link). x.number in
    let ks = numbers links in
    idle (slice_set links at m) o p q (record {
      are = map-set f links at m ∙ set_split ks at m.number (rw (length-map links f) h) ∙ ap (λ w. take at ks ++ w ∷ drop (suc at) ks) n ∙ sym (split links at l h e) ∙ s.are;
      differ = s.differ;
    })

map_take : (links : List Link) (at : ℕ) → numbers (take at links) ≡ take at (numbers links)
map_take links zero = refl
map_take [] (suc at) = refl
map_take (l ∷ links) (suc at) = ap (λ w. l.number ∷ w) (map_take links at)

numbers_rest : (links : List Link) (at : ℕ) → numbers (remove links at) ≡ take at (numbers links) ++ drop (suc at) (numbers links)
numbers_rest links at =
    let f = λ (x : Link). x.number in
    map-append f (take at links) (drop (suc at) links) ∙ ap (λ w. w ++ numbers (drop (suc at) links)) (map_take links at) ∙ ap (λ w. take at (numbers links) ++ w) (sym (drop-map f (suc at) links))

-- the other links have other numbers
pub rest_new : (links : List Link) (at : ℕ) (l : Link) (o : List ℕ) → at < length links → l ≡ slice_index_or links at l → Serves o links → IsNew l.number (numbers (remove links at))
rest_new links at l o h e s =
    let xs = take at (numbers links) in
    let ys = drop (suc at) (numbers links) in
    let n = differ_mid xs l.number ys (subst Differ (sym s.are ∙ split links at l h e) s.differ) in
    subst (λ w. IsNew l.number w) (sym (numbers_rest links at)) (new_both l.number xs ys n.0 n.1.0)

-- a link that is closed
pub removed : (links : List Link) (at : ℕ) (l : Link) (o p : List ℕ) → at < length links → l ≡ slice_index_or links at l → p ≡ without l.number o → Serves o links → Serves p (remove links at)
removed links at l o p h e q s =
    let xs = take at (numbers links) in
    let ys = drop (suc at) (numbers links) in
    let n = differ_mid xs l.number ys (subst Differ (sym s.are ∙ split links at l h e) s.differ) in
    let left : p ≡ xs ++ ys = q ∙ ap (λ w. without l.number w) (sym s.are ∙ split links at l h e) ∙ without_mid xs l.number ys n.0 n.1.0 in
    record {
      are = numbers_rest links at ∙ sym left;
      differ = subst Differ (sym left) n.1.1;
    }
