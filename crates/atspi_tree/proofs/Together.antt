-- Relations of one kind stand together, whatever is done to them; and what is read of them.
use Rattle.std.proofs.Common.{◌≡◌, ◌≤◌, ◌==◌, ◌+◌, ◌-◌, ℕ, suc, Bool, true, false, cond, not, List, [], ◌∷◌, ◌++◌, take, drop, map, filter, length, refl, sym, ap, ◌∙◌, subst, arith, append_assoc}
use Rattle.std.specs.List.{position_or_len}
use Rattle.std.proofs.Math.Seq.{drop-append_seam, take-append_seam}
use Rattle.std.proofs.lemmas.Bool.{eqb-true, eq-eqb}
use Rattle.std.proofs.lemmas.List.{append-nil, length-map, map-append}
use Rattle.std.proofs.lemmas.List.Elements.{filter-append}
use Rattle.atspi_tree_model.specs.Row.{targets_of, with_targets, without_targets}
use Rattle.atspi_tree.specs.Relations.{AreKept, StandsTogether}

abbrev of_kind : ℕ → ℕ × ℕ → Bool
of_kind k r = r.0 == k

abbrev pairs_of : ℕ → List ℕ → List (ℕ × ℕ)
pairs_of k ts = map (λ t. (k, t)) ts

-- where none passes, none does of those that pass another test
none_more : {A : Type 0} (p q : A → Bool) (xs : List A) → filter p xs ≡ [] → filter p (filter q xs) ≡ []
none_more p q [] e = refl
none_more {A} p q (x ∷ xs) e = at (p x) refl (q x) e (none_more p q xs)
  where
    at : (b : Bool) → p x ≡ b → (d : Bool) → cond b (x ∷ filter p xs) (filter p xs) ≡ [] → (filter p xs ≡ [] → filter p (filter q xs) ≡ []) → filter p (cond d (x ∷ filter q xs) (filter q xs)) ≡ []
    at true y d z w = absurd cc
    at false y true z w = rw y (w z)
    at false y false z w = w z

-- of one kind all pass a test, or none does
all_pass : (p : ℕ × ℕ → Bool) (k : ℕ) (ts : List ℕ) → ((t : ℕ) → p (k, t) ≡ true) → filter p (pairs_of k ts) ≡ pairs_of k ts
all_pass p k [] h = refl
all_pass p k (t ∷ ts) h = rw (h t) (ap (λ l. (k, t) ∷ l) (all_pass p k ts h))

none_pass : (p : ℕ × ℕ → Bool) (k : ℕ) (ts : List ℕ) → ((t : ℕ) → p (k, t) ≡ false) → filter p (pairs_of k ts) ≡ []
none_pass p k [] h = refl
none_pass p k (t ∷ ts) h = rw (h t) (none_pass p k ts h)

-- targets that are gone
pairs_left : (gone : ℕ → Bool) (k : ℕ) (ts : List ℕ) → filter (λ r. not (gone r.1)) (pairs_of k ts) ≡ pairs_of k (filter (λ t. not (gone t)) ts)
pairs_left gone k [] = refl
pairs_left gone k (t ∷ ts) = at (not (gone t)) (pairs_left gone k ts)
  where
    at : (b : Bool) → filter (λ r. not (gone r.1)) (pairs_of k ts) ≡ pairs_of k (filter (λ t. not (gone t)) ts)
        → cond b ((k, t) ∷ filter (λ r. not (gone r.1)) (pairs_of k ts)) (filter (λ r. not (gone r.1)) (pairs_of k ts)) ≡ pairs_of k (cond b (t ∷ filter (λ t. not (gone t)) ts) (filter (λ t. not (gone t)) ts))
    at true e = ap (λ l. (k, t) ∷ l) e
    at false e = e

targets_back : (k : ℕ) (ts : List ℕ) → map (λ (r : ℕ × ℕ). r.1) (pairs_of k ts) ≡ ts
targets_back k [] = refl
targets_back k (t ∷ ts) = ap (λ l. t ∷ l) (targets_back k ts)

same_kind : (k : ℕ) → (k == k) ≡ true
same_kind k = eq-eqb k k refl

-- the relations of a kind among parts
kind_parts : (k : ℕ) (before behind : List (ℕ × ℕ)) (ts : List ℕ) → filter (of_kind k) before ≡ [] → filter (of_kind k) behind ≡ [] → filter (of_kind k) (before ++ (pairs_of k ts ++ behind)) ≡ pairs_of k ts
kind_parts k before behind ts e f =
    filter-append (of_kind k) before (pairs_of k ts ++ behind)
    ∙ ap (λ l. l ++ filter (of_kind k) (pairs_of k ts ++ behind)) e
    ∙ filter-append (of_kind k) (pairs_of k ts) behind
    ∙ ap (λ l. filter (of_kind k) (pairs_of k ts) ++ l) f
    ∙ append-nil (filter (of_kind k) (pairs_of k ts))
    ∙ all_pass (of_kind k) k ts (λ t. same_kind k)

-- the targets of a kind are those that stand together
kind_targets : (k : ℕ) (rs : List (ℕ × ℕ)) → (s : StandsTogether k rs) → targets_of k rs ≡ s.targets
kind_targets k rs s =
    ap (λ l. targets_of k l) s.parts
    ∙ ap (map (λ (r : ℕ × ℕ). r.1)) (kind_parts k s.before s.behind s.targets s.none_before s.none_behind)
    ∙ targets_back k s.targets

-- the first of a kind stands behind those before them
first_behind : (k t : ℕ) (ts : List ℕ) (behind before : List (ℕ × ℕ)) → filter (of_kind k) before ≡ [] → position_or_len (of_kind k) (before ++ (pairs_of k (t ∷ ts) ++ behind)) ≡ length before
first_behind k t ts behind [] e = rw (same_kind k) refl
first_behind k t ts behind (r ∷ rs) e = at (r.0 == k) e (first_behind k t ts behind rs)
  where
    at : (b : Bool) → cond b (r ∷ filter (of_kind k) rs) (filter (of_kind k) rs) ≡ []
        → (filter (of_kind k) rs ≡ [] → position_or_len (of_kind k) (rs ++ (pairs_of k (t ∷ ts) ++ behind)) ≡ length rs)
        → cond (not b) (1 + position_or_len (of_kind k) (rs ++ (pairs_of k (t ∷ ts) ++ behind))) 0 ≡ suc (length rs)
    at true z w = absurd cc
    at false z w = let y = w z in omega arith

-- so many targets from the first of a kind on are the targets of that kind
slice_of_kind : (k : ℕ) (rs : List (ℕ × ℕ)) (targets : List ℕ) → AreKept rs targets → take (length (filter (of_kind k) rs)) (drop (position_or_len (of_kind k) rs) targets) ≡ targets_of k rs
slice_of_kind k rs targets h =
    let s = h.together k in
    let e = kind_targets k rs s in
    ap (λ n. take n (drop (position_or_len (of_kind k) rs) targets)) (sym (length-map (filter (of_kind k) rs) (λ (r : ℕ × ℕ). r.1)))
    ∙ ap (λ l. take (length l) (drop (position_or_len (of_kind k) rs) targets)) e
    ∙ ap (λ l. take (length s.targets) (drop (position_or_len (of_kind k) rs) l)) (h.listed ∙ ap (map (λ (r : ℕ × ℕ). r.1)) s.parts)
    ∙ ap (λ l. take (length s.targets) (drop (position_or_len (of_kind k) l) (map (λ (r : ℕ × ℕ). r.1) (s.before ++ (pairs_of k s.targets ++ s.behind))))) s.parts
    ∙ at s.targets s.none_before
    ∙ sym e
  where
    at : (ts : List ℕ) → filter (of_kind k) (h.together k).before ≡ []
        → take (length ts) (drop (position_or_len (of_kind k) ((h.together k).before ++ (pairs_of k ts ++ (h.together k).behind))) (map (λ (r : ℕ × ℕ). r.1) ((h.together k).before ++ (pairs_of k ts ++ (h.together k).behind)))) ≡ ts
    at [] none = refl
    at (t ∷ ts) none =
        let before = (h.together k).before in
        let behind = (h.together k).behind in
        let second : List (ℕ × ℕ) → List ℕ = map (λ (r : ℕ × ℕ). r.1) in
        ap (λ n. take (length (t ∷ ts)) (drop n (map (λ (r : ℕ × ℕ). r.1) (before ++ (pairs_of k (t ∷ ts) ++ behind))))) (first_behind k t ts behind before none ∙ sym (length-map before (λ (r : ℕ × ℕ). r.1)))
        ∙ ap (λ l. take (length (t ∷ ts)) (drop (length (map (λ (r : ℕ × ℕ). r.1) before)) l)) (map-append (λ (r : ℕ × ℕ). r.1) before (pairs_of k (t ∷ ts) ++ behind))
        ∙ ap (take (length (t ∷ ts))) (drop-append_seam (map (λ (r : ℕ × ℕ). r.1) before) (map (λ (r : ℕ × ℕ). r.1) (pairs_of k (t ∷ ts) ++ behind)))
        ∙ ap (take (length (t ∷ ts))) (map-append (λ (r : ℕ × ℕ). r.1) (pairs_of k (t ∷ ts)) behind ∙ ap (λ l. l ++ map (λ (r : ℕ × ℕ). r.1) behind) (targets_back k (t ∷ ts)))
        ∙ take-append_seam (t ∷ ts) (map (λ (r : ℕ × ℕ). r.1) behind)

-- so many from the first of a kind on are there
few_of_kind : (k : ℕ) (rs : List (ℕ × ℕ)) (targets : List ℕ) → AreKept rs targets → position_or_len (of_kind k) rs + length (filter (of_kind k) rs) ≤ length targets
few_of_kind k rs targets h = let l = few rs in let e = ap length h.listed in let m = length-map rs (λ (r : ℕ × ℕ). r.1) in omega arith
  where
    short : (rs : List (ℕ × ℕ)) → length (filter (of_kind k) rs) ≤ length rs
    short [] = omega arith
    short (r ∷ rs) = at (r.0 == k) (short rs)
      where
        at : (b : Bool) → length (filter (of_kind k) rs) ≤ length rs → length (cond b (r ∷ filter (of_kind k) rs) (filter (of_kind k) rs)) ≤ suc (length rs)
        at true l = omega arith
        at false l = omega arith

    few : (rs : List (ℕ × ℕ)) → position_or_len (of_kind k) rs + length (filter (of_kind k) rs) ≤ length rs
    few [] = omega arith
    few (r ∷ rs) = at (r.0 == k) (few rs) (short rs)
      where
        at : (b : Bool) → position_or_len (of_kind k) rs + length (filter (of_kind k) rs) ≤ length rs → length (filter (of_kind k) rs) ≤ length rs
            → cond (not b) (1 + position_or_len (of_kind k) rs) 0 + length (cond b (r ∷ filter (of_kind k) rs) (filter (of_kind k) rs)) ≤ suc (length rs)
        at true l m = omega arith
        at false l m = omega arith

-- the same of what is read: the first of a kind and how many there are
pub part_fits : (k : ℕ) (rs xs ys : List (ℕ × ℕ)) (targets : List ℕ) (first count : ℕ) → AreKept rs targets → xs ≡ rs → ys ≡ rs → first ≡ position_or_len (of_kind k) xs → count ≡ length (filter (of_kind k) ys)
    → first + count ≤ length targets
part_fits k rs xs ys targets first count h ex ey ef ec =
    let l = few_of_kind k rs targets h in
    let a : first ≡ position_or_len (of_kind k) rs = ef ∙ ap (position_or_len (of_kind k)) ex in
    let b : count ≡ length (filter (of_kind k) rs) = ec ∙ ap (λ zs. length (filter (of_kind k) zs)) ey in
    omega arith

pub part_is : (k : ℕ) (rs xs ys : List (ℕ × ℕ)) (targets zs : List ℕ) (first count : ℕ) → AreKept rs targets → xs ≡ rs → ys ≡ rs → zs ≡ targets → first ≡ position_or_len (of_kind k) xs → count ≡ length (filter (of_kind k) ys)
    → take (first + count - first) (drop first zs) ≡ targets_of k rs
part_is k rs xs ys targets zs first count h ex ey ez ef ec =
    let a : first ≡ position_or_len (of_kind k) rs = ef ∙ ap (position_or_len (of_kind k)) ex in
    let b : first + count - first ≡ length (filter (of_kind k) rs) = (let d : count ≡ length (filter (of_kind k) rs) = ec ∙ ap (λ zs. length (filter (of_kind k) zs)) ey in omega arith) in
    ap (λ n. take n (drop first zs)) b
    ∙ ap (λ n. take (length (filter (of_kind k) rs)) (drop n zs)) a
    ∙ ap (λ l. take (length (filter (of_kind k) rs)) (drop (position_or_len (of_kind k) rs) l)) ez
    ∙ slice_of_kind k rs targets h

-- no relations
pub none_kept : AreKept [] []
none_kept = record { together = λ k. record { before = []; targets = []; behind = []; parts = refl; none_before = refl; none_behind = refl }; listed = refl }

-- these targets in place of those of a kind
pub together_with : (rs : List (ℕ × ℕ)) → ((k : ℕ) → StandsTogether k rs) → (kind : ℕ) (targets : List ℕ) (k : ℕ) → StandsTogether k (with_targets kind targets rs)
together_with rs h kind targets k = at (kind == k) refl
  where
    other : ℕ × ℕ → Bool
    other r = not (r.0 == kind)

    at : (b : Bool) → (kind == k) ≡ b → StandsTogether k (with_targets kind targets rs)
    at true e =
        let same = eqb-true kind k e in
        record {
          before = filter (λ r. not (r.0 == kind)) rs;
          targets = targets;
          behind = [];
          parts = ap (λ m. filter (λ r. not (r.0 == kind)) rs ++ pairs_of m targets) same ∙ ap (λ l. filter (λ r. not (r.0 == kind)) rs ++ l) (sym (append-nil (pairs_of k targets)));
          none_before = subst (λ m. filter (of_kind m) (filter (λ r. not (r.0 == kind)) rs) ≡ []) same (opposite rs);
          none_behind = refl;
        }
      where
        opposite : (rs : List (ℕ × ℕ)) → filter (of_kind kind) (filter (λ r. not (r.0 == kind)) rs) ≡ []
        opposite [] = refl
        opposite (r ∷ rs) = in_at (r.0 == kind) refl (opposite rs)
          where
            in_at : (b : Bool) → (r.0 == kind) ≡ b → filter (of_kind kind) (filter (λ r. not (r.0 == kind)) rs) ≡ []
                → filter (of_kind kind) (cond (not b) (r ∷ filter (λ r. not (r.0 == kind)) rs) (filter (λ r. not (r.0 == kind)) rs)) ≡ []
            in_at true y w = w
            in_at false y w = rw y w
    at false e =
        let s = h k in
        record {
          before = filter (λ r. not (r.0 == kind)) s.before;
          targets = s.targets;
          behind = filter (λ r. not (r.0 == kind)) s.behind ++ pairs_of kind targets;
          parts = cut s.before s.targets s.behind (ap (filter (λ r. not (r.0 == kind))) s.parts);
          none_before = none_more (of_kind k) (λ r. not (r.0 == kind)) s.before s.none_before;
          none_behind =
              filter-append (of_kind k) (filter (λ r. not (r.0 == kind)) s.behind) (pairs_of kind targets)
              ∙ ap (λ l. l ++ filter (of_kind k) (pairs_of kind targets)) (none_more (of_kind k) (λ r. not (r.0 == kind)) s.behind s.none_behind)
              ∙ none_pass (of_kind k) kind targets (λ t. e);
        }
      where
        unlike : (k == kind) ≡ false
        unlike = turned (k == kind) refl
          where
            turned : (b : Bool) → (k == kind) ≡ b → (k == kind) ≡ false
            turned true y = let z = eq-eqb kind k (sym (eqb-true k kind y)) in absurd cc
            turned false y = y

        cut : (before : List (ℕ × ℕ)) (ts : List ℕ) (behind : List (ℕ × ℕ)) → filter (λ r. not (r.0 == kind)) rs ≡ filter (λ r. not (r.0 == kind)) (before ++ (pairs_of k ts ++ behind))
            → filter (λ r. not (r.0 == kind)) rs ++ pairs_of kind targets
            ≡ filter (λ r. not (r.0 == kind)) before ++ (pairs_of k ts ++ (filter (λ r. not (r.0 == kind)) behind ++ pairs_of kind targets))
        cut before ts behind y =
            let p : ℕ × ℕ → Bool = λ r. not (r.0 == kind) in
            ap (λ l. l ++ pairs_of kind targets) (y ∙ filter-append (λ r. not (r.0 == kind)) before (pairs_of k ts ++ behind)
            ∙ ap (λ l. filter (λ r. not (r.0 == kind)) before ++ l) (filter-append (λ r. not (r.0 == kind)) (pairs_of k ts) behind
            ∙ ap (λ l. l ++ filter (λ r. not (r.0 == kind)) behind) (all_pass (λ r. not (r.0 == kind)) k ts (λ t. ap not unlike))))
            ∙ append_assoc (filter (λ r. not (r.0 == kind)) before) (pairs_of k ts ++ filter (λ r. not (r.0 == kind)) behind) (pairs_of kind targets)
            ∙ ap (λ l. filter (λ r. not (r.0 == kind)) before ++ l) (append_assoc (pairs_of k ts) (filter (λ r. not (r.0 == kind)) behind) (pairs_of kind targets))

pub kept_with : (rs : List (ℕ × ℕ)) (ts : List ℕ) → AreKept rs ts → (kind : ℕ) (targets : List ℕ) (new : List (ℕ × ℕ)) (listed : List ℕ) → new ≡ with_targets kind targets rs → listed ≡ map (λ r. r.1) new → AreKept new listed
kept_with rs ts h kind targets new listed e f =
    record { together = subst (λ l. (k : ℕ) → StandsTogether k l) (sym e) (together_with rs h.together kind targets); listed = f }

-- without some targets
together_without : (rs : List (ℕ × ℕ)) (gone : ℕ → Bool) (k : ℕ) → StandsTogether k rs → StandsTogether k (without_targets gone rs)
together_without rs gone k s = record {
  before = without_targets gone s.before;
  targets = filter (λ t. not (gone t)) s.targets;
  behind = without_targets gone s.behind;
  parts =
      ap (without_targets gone) s.parts
      ∙ filter-append (λ r. not (gone r.1)) s.before (pairs_of k s.targets ++ s.behind)
      ∙ ap (λ l. without_targets gone s.before ++ l) (filter-append (λ r. not (gone r.1)) (pairs_of k s.targets) s.behind ∙ ap (λ l. l ++ without_targets gone s.behind) (pairs_left gone k s.targets));
  none_before = none_more (of_kind k) (λ r. not (gone r.1)) s.before s.none_before;
  none_behind = none_more (of_kind k) (λ r. not (gone r.1)) s.behind s.none_behind;
}

pub targets_left : (gone : ℕ → Bool) (rs : List (ℕ × ℕ)) → filter (λ t. not (gone t)) (map (λ r. r.1) rs) ≡ map (λ r. r.1) (without_targets gone rs)
targets_left gone [] = refl
targets_left gone (r ∷ rs) = at (not (gone r.1)) (targets_left gone rs)
  where
    at : (b : Bool) → filter (λ t. not (gone t)) (map (λ (r : ℕ × ℕ). r.1) rs) ≡ map (λ (r : ℕ × ℕ). r.1) (without_targets gone rs)
        → cond b (r.1 ∷ filter (λ t. not (gone t)) (map (λ (r : ℕ × ℕ). r.1) rs)) (filter (λ t. not (gone t)) (map (λ (r : ℕ × ℕ). r.1) rs)) ≡ map (λ (r : ℕ × ℕ). r.1) (cond b (r ∷ without_targets gone rs) (without_targets gone rs))
    at true e = ap (λ l. r.1 ∷ l) e
    at false e = e

pub kept_without : (rs : List (ℕ × ℕ)) (ts : List ℕ) → AreKept rs ts → (target : ℕ) (new : List (ℕ × ℕ)) (listed : List ℕ) → new ≡ without_targets (λ t. t == target) rs → listed ≡ filter (λ t. not (t == target)) ts → AreKept new listed
kept_without rs ts h target new listed e f = record {
  together = λ k. subst (StandsTogether k) (sym e) (together_without rs (λ t. t == target) k (h.together k));
  listed = f ∙ ap (filter (λ t. not (t == target))) h.listed ∙ targets_left (λ t. t == target) rs ∙ ap (map (λ (r : ℕ × ℕ). r.1)) (sym e);
}
