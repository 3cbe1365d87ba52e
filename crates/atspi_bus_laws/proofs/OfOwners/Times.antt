-- How often a connection stands in a list after a request, a release or a leaving.
use Rattle.std.proofs.Common.{◌≡◌, ℕ, ◌+◌, ◌≤◌, ◌==◌, Bool, true, false, cond, List, [], ◌∷◌, ◌++◌, refl, sym, ap, subst, ◌∙◌, arith}
use Rattle.std.proofs.lemmas.Bool.{eqb-true}
use Rattle.std.specs.Prelude.{◌&&◌}
use Rattle.atspi_names.specs.Queue.{allows_replacement, replaces_existing, forbids_queueing, stands, without, with_flags, taken_over, requested, released}
use Rattle.atspi_names.proofs.BookLemmas.{by_test, released-list}
use Rattle.atspi_bus_laws.specs.owners.Orderly.{times}

pub times-without : (conn c : ℕ) (list : List (ℕ × ℕ)) → times c (without conn list) ≤ times c list
times-without conn c [] = omega arith
times-without conn c (e ∷ es) =
    by_test (e.0 == conn) _ (λ here. rw here (omega (arith, times-without conn c es))) (λ there. rw there (omega (arith, times-without conn c es)))

pub times-without-self : (conn : ℕ) (list : List (ℕ × ℕ)) → times conn (without conn list) ≡ 0
times-without-self conn [] = refl
times-without-self conn (e ∷ es) =
    by_test (e.0 == conn) _ (λ here. rw here (times-without-self conn es)) (λ there. rw (there, there) (omega (arith, times-without-self conn es)))

pub times-with_flags : (conn flags c : ℕ) (list : List (ℕ × ℕ)) → times c (with_flags conn flags list) ≡ times c list
times-with_flags conn flags c [] = refl
times-with_flags conn flags c (e ∷ es) =
    let rest : times c (with_flags conn flags es) ≡ times c es = times-with_flags conn flags c es in
    by_test (e.0 == conn) _
    (λ here. rw here (ap (λ n. cond (n == c) 1 0 + times c (with_flags conn flags es)) (sym (eqb-true e.0 conn here)) ∙ ap (λ n. cond (e.0 == c) 1 0 + n) rest))
    (λ there. rw there (ap (λ n. cond (e.0 == c) 1 0 + n) rest))

pub times-absent : (c : ℕ) (list : List (ℕ × ℕ)) → stands c list ≡ false → times c list ≡ 0
times-absent c [] none = refl
times-absent c (e ∷ es) none =
    by_test (e.0 == c) _ (λ here. let some : true ≡ false = rw here at none in absurd cc) (λ there. let rest : stands c es ≡ false = rw there at none in rw there (omega (arith, times-absent c es rest)))

pub times-append : (c : ℕ) (front back : List (ℕ × ℕ)) → times c (front ++ back) ≡ times c front + times c back
times-append c [] back = omega arith
times-append c (e ∷ es) back = omega (arith, times-append c es back)

-- behind a new owner no entry is its own
tail_none : (b : Bool) (conn : ℕ) (first : ℕ × ℕ) (rest : List (ℕ × ℕ)) → (first.0 == conn) ≡ false
    → times conn (cond b (without conn rest) (first ∷ without conn rest)) ≡ 0
tail_none true conn first rest other = times-without-self conn rest
tail_none false conn first rest other = rw other (omega (arith, times-without-self conn rest))

tail_less : (b : Bool) (conn c : ℕ) (first : ℕ × ℕ) (rest : List (ℕ × ℕ))
    → times c (cond b (without conn rest) (first ∷ without conn rest)) ≤ times c (first ∷ rest)
tail_less true conn c first rest = omega (arith, times-without conn c rest)
tail_less false conn c first rest = omega (arith, times-without conn c rest)

taken : (conn flags c : ℕ) (first : ℕ × ℕ) (rest : List (ℕ × ℕ)) → (first.0 == conn) ≡ false → times c (first ∷ rest) ≤ 1
    → times c (taken_over conn flags (first ∷ rest)) ≤ 1
taken conn flags c first rest other once =
    let tail : List (ℕ × ℕ) = cond (forbids_queueing first.1) (without conn rest) (first ∷ without conn rest) in
    by_test (conn == c) _
    (λ here. let none : times c tail ≡ 0 = subst (λ n. times n tail ≡ 0) (eqb-true conn c here) (tail_none (forbids_queueing first.1) conn first rest other) in rw here (omega (arith, none)))
    (λ there. rw there (omega (arith, tail_less (forbids_queueing first.1) conn c first rest, once)))

appended : (conn flags c : ℕ) (first : ℕ × ℕ) (rest : List (ℕ × ℕ)) → (first.0 == conn) ≡ false → stands conn rest ≡ false → times c (first ∷ rest) ≤ 1
    → times c ((first ∷ rest) ++ (conn, flags) ∷ []) ≤ 1
appended conn flags c first rest other none once =
    by_test (conn == c) _
    (λ here.
    let absent : times c (first ∷ rest) ≡ 0 = subst (λ n. times n (first ∷ rest) ≡ 0) (eqb-true conn c here) (rw other (omega (arith, times-absent conn rest none))) in
    let last : times c ((conn, flags) ∷ []) ≡ 1 = rw here refl in
    rw (times-append c (first ∷ rest) ((conn, flags) ∷ [])) (omega (arith, absent, last)))
    (λ there.
    let last : times c ((conn, flags) ∷ []) ≡ 0 = rw there refl in
    rw (times-append c (first ∷ rest) ((conn, flags) ∷ [])) (omega (arith, once, last)))

pub times-requested : (list : List (ℕ × ℕ)) (conn flags c : ℕ) → times c list ≤ 1 → times c (requested list conn flags).0 ≤ 1
times-requested [] conn flags c once = by_test (conn == c) _ (λ here. rw here (omega arith)) (λ there. rw there (omega arith))
times-requested (first ∷ rest) conn flags c once =
    by_test (first.0 == conn) _
    (λ here. rw here (subst (λ n. cond (n == c) 1 0 + times c rest ≤ 1) (eqb-true first.0 conn here) once))
    (λ other. rw other (by_test (allows_replacement first.1 && replaces_existing flags) _
    (λ takes. rw takes (taken conn flags c first rest other once))
    (λ leaves. rw leaves (by_test (forbids_queueing flags) _
    (λ goes. rw goes (omega (arith, times-without conn c rest, once)))
    (λ waits. rw waits (by_test (stands conn rest) _
    (λ there. rw there (omega (arith, times-with_flags conn flags c rest, once)))
    (λ new. rw new (appended conn flags c first rest other new once))))))))

pub times-released : (list : List (ℕ × ℕ)) (conn c : ℕ) → times c list ≤ 1 → times c (released list conn).0 ≤ 1
times-released list conn c once = rw (released-list list conn) (omega (arith, times-without conn c list, once))
