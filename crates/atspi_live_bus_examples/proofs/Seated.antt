-- What stands of the cases of links that have a turn.
use Rattle.std.proofs.Common.{◌≡◌, ℕ, ◌<◌, ◌≤◌, true, false, List, [], ◌∷◌, ◌++◌, length, Option, Some, refl, sym, ap, subst, ◌∙◌, inl, inr, arith, append-nil}
use Rattle.std.specs.Prelude.{if◌then◌else◌, ◌==◌}
use Rattle.std.proofs.lemmas.Bool.Decides.{eqb_tells}
use Rattle.atspi_message.specs.Envelope.{Envelope}
use Rattle.atspi_match.specs.routing.Queues.{Bus}
use Rattle.atspi_match.specs.declared.routing.closing.Closing.{Closing}
use Rattle.atspi_live_host.specs.declared.call.Did.{Did}
use Rattle.atspi_live_host.specs.declared.call.Did.TheVariants.{Done, NotYet, Failed}
use Rattle.atspi_live_host.specs.declared.call.Call.{Call}
use Rattle.atspi_live_host.specs.declared.call.Call.TheVariants.{Close, Write}
use Rattle.atspi_live_bus.specs.Asked.{Asked, joining, messages_of, taking}
use Rattle.atspi_live_bus.specs.Cases.{two_conns}
use Rattle.atspi_live_bus.specs.Closes.{AreShut, FollowsRead, IsLost, IsRest}
use Rattle.atspi_live_bus.specs.Course.{AreTellings, Course, HandsOut, Steps}
use Rattle.atspi_live_bus.specs.inner.Rounds.{GoesOn}
use Rattle.atspi_live_bus.specs.inner.Seats.{HasSent, Waited, left, numbers_of, seats}
use Rattle.atspi_live_bus.proofs.Worked.{is_shut, not_none, second_shut}
use Rattle.atspi_live_bus_examples.proofs.Facts.{few_given, its_gift, some_given, zero_is}

-- the first of seats, and those behind it
abbrev first_of : List (ℕ × ℕ) → List (ℕ × ℕ)
first_of [] = []
first_of (s ∷ ss) = s ∷ []

abbrev behind_first : List (ℕ × ℕ) → List (ℕ × ℕ)
behind_first [] = []
behind_first (s ∷ ss) = ss

abbrev Both : List (ℕ × ℕ) → Type 0
Both ss = ss ≡ (3, 0) ∷ (5, 1) ∷ []

pub numbers_both : (l m : _) → Both (seats (l ∷ m ∷ [])) → 3 ∷ 5 ∷ [] ≡ numbers_of (seats (l ∷ m ∷ []))
numbers_both l m s = sym (ap (λ (ss : List (ℕ × ℕ)). numbers_of ss) s)

pub without_second : (l m : _) (before : List Call) → Both (seats (l ∷ m ∷ [])) → left ((3, 0) ∷ (5, 1) ∷ []) before ≡ (3, 0) ∷ [] → seats (l ∷ []) ≡ left (seats (l ∷ m ∷ [])) before
without_second l m calls s is = ap (λ (ss : List (ℕ × ℕ)). first_of ss) s ∙ sym is ∙ sym (ap (λ (ss : List (ℕ × ℕ)). left ss calls) s)

pub without_first : (l m : _) (before : List Call) → Both (seats (l ∷ m ∷ [])) → left ((3, 0) ∷ (5, 1) ∷ []) before ≡ (5, 1) ∷ [] → seats (m ∷ []) ≡ left (seats (l ∷ m ∷ [])) before
without_first l m calls s is = ap (λ (ss : List (ℕ × ℕ)). behind_first ss) s ∙ sym is ∙ sym (ap (λ (ss : List (ℕ × ℕ)). left ss calls) s)

pub on_both : (P : List ℕ → Type 0) (l m : _) → Both (seats (l ∷ m ∷ [])) → P (3 ∷ 5 ∷ []) → P (numbers_of (seats (l ∷ m ∷ [])))
on_both P l m s p = subst P (numbers_both l m s) p

pub of_both : (P : List ℕ → Type 0) (l m : _) → Both (seats (l ∷ m ∷ [])) → P (numbers_of (seats (l ∷ m ∷ []))) → P (3 ∷ 5 ∷ [])
of_both P l m s p = subst P (sym (numbers_both l m s)) p

pub on_second : (P : List ℕ → Type 0) (m : _) → seats (m ∷ []) ≡ (5, 1) ∷ [] → P (numbers_of (seats (m ∷ []))) → P (5 ∷ [])
on_second P m s p = subst P (ap (λ (ss : List (ℕ × ℕ)). numbers_of ss) s) p

pub to_second : (P : List ℕ → Type 0) (m : _) → seats (m ∷ []) ≡ (5, 1) ∷ [] → P (5 ∷ []) → P (numbers_of (seats (m ∷ [])))
to_second P m s p = subst P (sym (ap (λ (ss : List (ℕ × ℕ)). numbers_of ss) s)) p

-- writes
pub full : (bytes : List ℕ) → length bytes ≡ 4096 → ◌<◌ 0 (length bytes)
full bytes e = omega (arith, e)

pub fits_in : (bytes : List ℕ) → length bytes ≡ 4096 → ◌≤◌ (length bytes) 4096
fits_in bytes e = omega (arith, e)

pub too_many : (bytes : List ℕ) → length bytes ≡ 4097 → ◌<◌ 4096 (length bytes)
too_many bytes e = omega (arith, e)

pub all_waits : (bytes out : List ℕ) → out ≡ bytes → out ≡ bytes ++ []
all_waits bytes out e = e ∙ sym (append-nil bytes)

bytes_are : (b c : List ℕ) (d f : Did) → Write 3 b d ∷ [] ≡ Write 3 c f ∷ [] → b ≡ c
bytes_are b c d f e = cc

did_is : (b c : List ℕ) (d f : Did) → Write 3 b d ∷ [] ≡ Write 3 c f ∷ [] → d ≡ f
did_is b c d f e = cc

not_yet_failed : NotYet ≡ Failed → ⊥
not_yet_failed e = cc

pub goes_on_more : (b : Bus) (l : _) (past : List Call) (bytes : List ℕ) → length bytes ≡ 4097 → HasSent 3 true b l past (Write 3 bytes NotYet ∷ []) → ⊥
goes_on_more b l past bytes e (inl n) = not_none (Write 3 bytes NotYet) [] (sym n.0)
goes_on_more b l past bytes e (inr w) = few_given [] [] bytes w.0 NotYet w.1 (too_many bytes e) w.3 w.6

pub goes_on_empty : (b : Bus) (l : _) (past : List Call) → HasSent 3 true b l past (Write 3 [] NotYet ∷ []) → ⊥
goes_on_empty b l past (inl n) = not_none (Write 3 [] NotYet) [] (sym n.0)
goes_on_empty b l past (inr w) = some_given [] [] w.0 NotYet w.1 w.2 w.6

pub goes_on_other : (b : Bus) (l : _) (past : List Call) → HasSent 3 true b l past (Write 5 (7 ∷ []) NotYet ∷ []) → ⊥
goes_on_other b l past (inl n) = not_none (Write 5 (7 ∷ []) NotYet) [] (sym n.0)
goes_on_other b l past (inr w) = its_gift [] [] (7 ∷ []) w.0 NotYet w.1 w.6

pub goes_on_failed : (b : Bus) (l : _) (past : List Call) → HasSent 3 true b l past (Write 3 (7 ∷ []) Failed ∷ []) → ⊥
goes_on_failed b l past (inl n) = not_none (Write 3 (7 ∷ []) Failed) [] (sym n.0)
goes_on_failed b l past (inr w) = subst (λ (d : Did). GoesOn d) (sym (did_is (7 ∷ []) w.0 Failed w.1 w.6)) w.5

nine_not : (rest : List ℕ) → 7 ∷ 9 ∷ [] ≡ 7 ∷ 8 ∷ rest → ⊥
nine_not rest e = absurd (omega (arith, is rest e))
  where
    is : (ys : List ℕ) → 7 ∷ 9 ∷ [] ≡ 7 ∷ 8 ∷ ys → ◌≡◌ {A = ℕ} 9 8
    is ys f = cc

nine_first : (rest : List ℕ) → 9 ∷ [] ≡ 7 ∷ rest → ⊥
nine_first rest e = absurd (omega (arith, is rest e))
  where
    is : (ys : List ℕ) → 9 ∷ [] ≡ 7 ∷ ys → ◌≡◌ {A = ℕ} 9 7
    is ys f = cc

pub goes_on_others : (b : Bus) (l : _) (past : List Call) → HasSent 3 true b l past (Write 3 (7 ∷ 8 ∷ []) (Done 1) ∷ []) → l.out.items ≡ 9 ∷ [] → ⊥
goes_on_others b l past (inl n) is = not_none (Write 3 (7 ∷ 8 ∷ []) (Done 1)) [] (sym n.0)
goes_on_others b l past (inr w) is = by waited
  where
    waited : Waited (7 ∷ 8 ∷ []) (Done 1) l
    waited =
        subst (λ (v : List ℕ). Waited v (Done 1) l) (sym (bytes_are (7 ∷ 8 ∷ []) w.0 (Done 1) w.1 w.6))
        (subst (λ (d : Did). Waited w.0 d l) (sym (did_is (7 ∷ 8 ∷ []) w.0 (Done 1) w.1 w.6)) w.4)

    by : Waited (7 ∷ 8 ∷ []) (Done 1) l → ⊥
    by v = nine_not v.0 (sym (ap (λ (u : List ℕ). 7 ∷ u) is) ∙ v.1)

pub failed_too_many : (b : Bus) (l : _) (past : List Call) (bytes : List ℕ) → length bytes ≡ 4097 → HasSent 3 false b l past (Write 3 bytes Failed ∷ []) → ⊥
failed_too_many b l past bytes e w = few_given [] [] bytes w.0 Failed Failed (too_many bytes e) w.2 w.4

pub failed_empty : (b : Bus) (l : _) (past : List Call) → HasSent 3 false b l past (Write 3 [] Failed ∷ []) → ⊥
failed_empty b l past w = some_given [] [] w.0 Failed Failed w.1 w.4

pub failed_other : (b : Bus) (l : _) (past : List Call) → HasSent 3 false b l past (Write 5 (7 ∷ []) Failed ∷ []) → ⊥
failed_other b l past w = its_gift [] [] (7 ∷ []) w.0 Failed Failed w.4

pub waits_not_failed : (b : Bus) (l : _) (past : List Call) → HasSent 3 false b l past (Write 3 (7 ∷ []) NotYet ∷ []) → ⊥
waits_not_failed b l past w = not_yet_failed (did_is (7 ∷ []) w.0 NotYet Failed w.4)

pub failed_none : (b : Bus) (l : _) (past : List Call) → HasSent 3 false b l past [] → ⊥
failed_none b l past w = not_none (Write 3 w.0 Failed) [] w.4

pub failed_others : (b : Bus) (l : _) (past : List Call) → HasSent 3 false b l past (Write 3 (7 ∷ []) Failed ∷ []) → l.out.items ≡ 9 ∷ [] → ⊥
failed_others b l past w is = by (subst (λ (v : List ℕ). Waited v Failed l) (sym (bytes_are (7 ∷ []) w.0 Failed Failed w.4)) w.3)
  where
    by : Waited (7 ∷ []) Failed l → ⊥
    by v = nine_first v.0 (sym is ∙ v.1)

-- closes of both links
pub shut_second : (l m : _) (conn : ℕ → Option ℕ) (cs : List Closing) (c : Closing) → Both (seats (l ∷ m ∷ [])) → conn ≡ two_conns → cs ≡ c ∷ [] → c.conn ≡ 1 → AreShut conn (numbers_of (seats (l ∷ m ∷ []))) cs (Close 5 ∷ [])
shut_second l m conn cs c s connected are is =
    on_both (λ (ks : List ℕ). AreShut conn ks cs (Close 5 ∷ [])) l m s
    (subst (λ (w : ℕ → Option ℕ). AreShut w (3 ∷ 5 ∷ []) cs (Close 5 ∷ [])) (sym connected) (subst (λ (w : List Closing). AreShut two_conns (3 ∷ 5 ∷ []) w (Close 5 ∷ [])) (sym are) (second_shut c is)))

pub shut_none : (l m : _) (conn : ℕ → Option ℕ) (cs : List Closing) (c : Closing) → Both (seats (l ∷ m ∷ [])) → conn ≡ two_conns → cs ≡ c ∷ [] → c.conn ≡ 1 → AreShut conn (numbers_of (seats (l ∷ m ∷ []))) cs [] → ⊥
shut_none l m conn cs c s connected are is shut =
    not_none (Close 5) []
    (is_shut c [] is
    (subst (λ (w : List Closing). AreShut two_conns (3 ∷ 5 ∷ []) w []) are
    (subst (λ (w : ℕ → Option ℕ). AreShut w (3 ∷ 5 ∷ []) cs []) connected (of_both (λ (ks : List ℕ). AreShut conn ks cs []) l m s shut))))

pub shut_first : (l m : _) (conn : ℕ → Option ℕ) (c : Closing) → Both (seats (l ∷ m ∷ [])) → conn ≡ two_conns → c.conn ≡ 0 → AreShut conn (numbers_of (seats (l ∷ m ∷ []))) (c ∷ []) (Close 3 ∷ [])
shut_first l m conn c s connected is =
    on_both (λ (ks : List ℕ). AreShut conn ks (c ∷ []) (Close 3 ∷ [])) l m s (subst (λ (w : ℕ → Option ℕ). AreShut w (3 ∷ 5 ∷ []) (c ∷ []) (Close 3 ∷ [])) (sym connected) shut)
  where
    shut : AreShut two_conns (3 ∷ 5 ∷ []) (c ∷ []) (Close 3 ∷ [])
    shut = (Close 3 ∷ [], [], inr (3, inl refl, ap (λ (i : ℕ). Some i) (sym is), refl), refl, refl)

pub seated_first : (conn : ℕ → Option ℕ) → conn ≡ two_conns → conn 3 ≡ Some 0
seated_first conn e = ap (λ (w : ℕ → Option ℕ). w 3) e

pub is_first : (conn : ℕ → Option ℕ) (d : ℕ) → conn ≡ two_conns → conn 3 ≡ Some d → ◌≡◌ {A = ℕ} 0 d
is_first conn d e f = zero_is d (sym (seated_first conn e) ∙ f)

-- what is told
pub told_joining : (tells : List Asked) → joining 0 ∷ [] ≡ tells → AreTellings tells → ⊥
told_joining tells e are = by (subst (λ (w : List Asked). AreTellings w) (sym e) are)
  where
    by : AreTellings (joining 0 ∷ []) → ⊥
    by t = t.0

pub four_five : (n : ℕ) → n ≡ 4 → n ≡ 5 → ⊥
four_five n e f = omega (arith, e, f)

pub some_closing : (c : Closing) → [] ≡ c ∷ [] → ⊥
some_closing c e = cc

pub close_three : (xs : List Call) → Close 5 ∷ [] ≡ Close 3 ∷ xs → ⊥
close_three xs e = absurd (omega (arith, is xs e))
  where
    is : (ys : List Call) → Close 5 ∷ [] ≡ Close 3 ∷ ys → ◌≡◌ {A = ℕ} 5 3
    is ys f = cc

-- reads of turns
pub hands_nothing : (x : Course) → HandsOut 0 x x
hands_nothing x = ([], tt, refl, sym (append-nil x.asked), refl)

pub stopped_there : (x y : Course) (e : Envelope) (c : Closing) (t rest : List ℕ) → x.conn ≡ two_conns → Steps x (taking 0 e) (c ∷ []) y → c.conn ≡ 1 → (IsLost (Done 7) t → ⊥) → IsRest t (messages_of 0 y.asked) rest
    → FollowsRead false 3 0 x (3 ∷ 5 ∷ []) (Done 7) t (Close 5 ∷ []) y
stopped_there x y e c t rest conns steps is on its =
    inr (inr (
      on,
      (
        e ∷ [],
        y,
        Close 5 ∷ [],
        [],
        (inl refl, y, c ∷ [], Close 5 ∷ [], [], steps, subst (λ (w : ℕ → Option ℕ). AreShut w (3 ∷ 5 ∷ []) (c ∷ []) (Close 5 ∷ [])) (sym conns) (second_shut c is), (refl, refl), refl),
        (rest, its, inl (refl, refl)),
        refl,
      ),
    ))

-- what passes on one link passes on no other
pub only_three : (j : ℕ) (xs : List ℕ) → (j ≡ 3 → ⊥) → (if 3 == j then xs else []) ++ [] ≡ []
only_three j xs n = elim (eqb_tells 3 j) [ inl e ↦ absurd (n (sym e.1)) | inr e ↦ rw e.0 refl ]
