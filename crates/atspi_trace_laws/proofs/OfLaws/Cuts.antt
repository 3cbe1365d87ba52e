-- Links do not see cuts.
use Rattle.std.proofs.Common.{◌≡◌, ℕ, zero, suc, ◌+◌, ◌-◌, ◌<◌, Bool, true, false, T, not, is_some, List, [], ◌∷◌, length, None, Some, refl, sym, ap, ap₂, ◌∙◌, subst, arith}
use Rattle.std.specs.Prelude.{unwrap_or, nat_le, if◌then◌else◌}
use Rattle.std.proofs.lemmas.Bool.{leb-true, leb-false}
use Rattle.atspi_script_lines.specs.declared.line.Party.TheVariants.{Bus as The_bus}
use Rattle.atspi_message.specs.Bytes.{written}
use Rattle.atspi_match.specs.routing.Steps.{bus_takes}
use Rattle.atspi_trace.specs.Rules.{rule_in}
use Rattle.atspi_trace.specs.Entry.{got}
use Rattle.atspi_trace.specs.World.{here, Said, End, World}
use Rattle.atspi_trace.specs.Ends.{end_at, with_end, taken_up}
use Rattle.atspi_trace.specs.Carrying.{letter_of, stepped, with_name, settled}
use Rattle.atspi_trace.specs.Causes.{routes, Done, does, on_end, routed, bus_did}
use Rattle.atspi_trace.specs.Work.{moving_up, Next, cause, rests, moved_up, next_up, of_end, next_of}
use Rattle.atspi_trace_laws.specs.laws.Laws.{SameNext, UpLinksSeeNoCuts}

no_none : {A : Type 0} (x : A) → None ≡ Some x → ⊥
no_none x e = subst (λ o. T (not (is_some o))) e tt

-- so many more bytes were moved
abbrev more : ℕ → End → End
more n e = record e { up_moved = e.up_moved + n }

-- an end that changed is there, changed
at_changed : (f : End → End) (ends : List End) (conn : ℕ) (e : End) → end_at ends conn ≡ Some e → end_at (with_end conn f ends) conn ≡ Some (f e)
at_changed f [] zero e h = absurd (no_none e h)
at_changed f [] (suc conn) e h = absurd (no_none e h)
at_changed f (x ∷ xs) zero e h = ap (λ o. Some (f (unwrap_or o x))) h
at_changed f (x ∷ xs) (suc conn) e h = at_changed f xs conn e h

-- marks add up, and are gone with the message
more_twice : (n k : ℕ) (ends : List End) (conn : ℕ) → with_end conn (more k) (with_end conn (more n) ends) ≡ with_end conn (more (n + k)) ends
more_twice n k [] zero = refl
more_twice n k [] (suc conn) = refl
more_twice n k (x ∷ xs) zero =
    let sum : (x.up_moved + n) + k ≡ x.up_moved + (n + k) = omega arith in
    ap (λ j. record x { up_moved = j } ∷ xs) sum
more_twice n k (x ∷ xs) (suc conn) = ap (λ l. x ∷ l) (more_twice n k xs conn)

taken_after : (n : ℕ) (ends : List End) (conn : ℕ) → with_end conn taken_up (with_end conn (more n) ends) ≡ with_end conn taken_up ends
taken_after n [] zero = refl
taken_after n [] (suc conn) = refl
taken_after n (x ∷ xs) zero = refl
taken_after n (x ∷ xs) (suc conn) = ap (λ l. x ∷ l) (taken_after n xs conn)

-- the bus takes the same message, whatever was moved of it before
abbrev takes_from : World → ℕ → End → Said → List End → Done
takes_from w conn e said ends =
    bus_did w (got The_bus e.who said.message.serial ∷ [])
    (settled (length w.bus.state.joined)
    (with_name conn (stepped (letter_of e.who said) (record { bus = w.bus; ends = ends }) (bus_takes w.bus.state conn said.message (rule_in said.message)))))

routes_one : (w : World) (conn : ℕ) (e : End) (said : Said) (rest : List Said) → end_at w.ends conn ≡ Some e → e.up ≡ said ∷ rest
    → does w (routes conn) ≡ takes_from w conn e said (with_end conn taken_up w.ends)
routes_one w conn e said rest h up =
    ap (λ o. on_end w o (λ x. routed w conn x.who x.up)) h ∙ ap (λ u. routed w conn e.who u) up

routes_same : (w : World) (conn n : ℕ) (e : End) (said : Said) (rest : List Said) → end_at w.ends conn ≡ Some e → e.up ≡ said ∷ rest
    → does (moved_up w conn n) (routes conn) ≡ does w (routes conn)
routes_same w conn n e said rest h up =
    routes_one (moved_up w conn n) conn (more n e) said rest (at_changed (more n) w.ends conn e h) up
    ∙ ap (takes_from w conn e said) (taken_after n w.ends conn) ∙ sym (routes_one w conn e said rest h up)

-- what is next of an up link
next_one : (w : World) (conn k : ℕ) (e : End) (said : Said) (rest : List Said) → end_at w.ends conn ≡ Some e → e.standing ≡ here → e.up ≡ said ∷ rest
    → next_of w (moving_up conn k) ≡ next_up w conn k here e.up_moved (said ∷ rest)
next_one w conn k e said rest h standing up =
    ap (λ o. of_end w o (λ x. next_up w conn k x.standing x.up_moved x.up)) h ∙ ap₂ (λ st u. next_up w conn k st e.up_moved u) standing up

abbrev completes : World → ℕ → ℕ → ℕ → Bool → Next
completes w conn count left t = if t then cause (routes conn) w (moving_up conn (count - left)) else rests (moved_up w conn count)

same : (w : World) (conn n k m len : ℕ) → does (moved_up w conn n) (routes conn) ≡ does w (routes conn) → n < len - m
    → (s t : Bool) → nat_le (len - (m + n)) k ≡ s → nat_le (len - m) (n + k) ≡ t
    → SameNext (completes (moved_up w conn n) conn k (len - (m + n)) s) (completes w conn (n + k) (len - m) t)
same w conn n k m len routes_ less true true p q =
    let left : k - (len - (m + n)) ≡ (n + k) - (len - m) = omega (arith, leb-true (len - (m + n)) k p) in
    (routes_, ap (moving_up conn) left)
same w conn n k m len routes_ less false false p q = ap (λ es. record w { ends = es }) (more_twice n k w.ends conn)
same w conn n k m len routes_ less true false p q = absurd (omega (arith, leb-true (len - (m + n)) k p, leb-false (len - m) (n + k) q))
same w conn n k m len routes_ less false true p q = absurd (omega (arith, leb-false (len - (m + n)) k p, leb-true (len - m) (n + k) q))

pub no_cuts : UpLinksSeeNoCuts
no_cuts w conn n k e said rest h standing up less =
    subst (λ x. SameNext x (next_of w (moving_up conn (n + k))))
    (sym (next_one (moved_up w conn n) conn k (more n e) said rest (at_changed (more n) w.ends conn e h) standing up))
    (subst (SameNext (next_up (moved_up w conn n) conn k here (e.up_moved + n) (said ∷ rest)))
    (sym (next_one w conn (n + k) e said rest h standing up))
    (same w conn n k e.up_moved (length (written said.message)) (routes_same w conn n e said rest h up) less _ _ refl refl))
