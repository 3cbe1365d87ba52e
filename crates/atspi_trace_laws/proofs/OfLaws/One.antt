-- For the same own calls one trace.
use Rattle.std.proofs.Common.{◌≡◌, inl, inr, Bool, true, false, not, cond, T, List, [], ◌∷◌, None, Some, refl, sym, ap, ◌∙◌, subst}
use Rattle.std.specs.Prelude.{unwrap_or, is_some, if◌then◌else◌}
use Rattle.atspi_script_lines.specs.declared.line.Party.TheVariants.{Reader}
use Rattle.atspi_trace.specs.Entry.{Entry, sent, quiet}
use Rattle.atspi_trace.specs.Hearing.{question_in}
use Rattle.atspi_trace.specs.Due.{Scene, progress, bound, from_lines, line_worked, is_lost, at_work_owing, first_entry, due, happens, after_all, at_work, IsSettled, Stands, IsOwn, Goes}
use Rattle.atspi_trace_laws.specs.laws.Laws.{call_in, choice_at, choices, TracesAreOne, FrontsGo, QuietIsSettled, LostIsOver}

same_some : {A : Type 0} (x y : A) → Some x ≡ Some y → x ≡ y
same_some x y e = ap (λ o. unwrap_or o x) e

no_none : {A : Type 0} (x : A) → None ≡ Some x → ⊥
no_none x e = subst (λ o. T (not (is_some o))) e tt

-- what was chosen is the entry itself
if_call : (b : Bool) (f e : Entry) → cond b (Some f) None ≡ Some e → f ≡ e
if_call true f e h = same_some f e h
if_call false f e h = absurd (no_none e h)

call_is : (f e : Entry) → call_in f ≡ Some e → f ≡ e
call_is (sent (Reader r) m) e h = if_call (is_some (question_in m)) (sent (Reader r) m) e h
call_is f e h = absurd (no_none e h)

choice_is : (owing : List Entry) (f e : Entry) → choice_at owing f ≡ Some e → f ≡ e
choice_is [] f e h = call_is f e h
choice_is (d ∷ ds) f e h = absurd (no_none e h)

-- an own call is chosen
own_is : (s : Scene) (e : Entry) → IsOwn s e → choice_at s.owing e ≡ Some e
own_is s (sent (Reader r) m) own =
    ap (λ o. choice_at o (sent (Reader r) m)) own.nothing_owed
    ∙ ap (λ q. cond (is_some q) (Some (sent (Reader r) m)) None) own.read
own_is s e own = absurd own

same_entry : (s : Scene) (e f : Entry) → Stands s e → Stands s f → choice_at s.owing e ≡ choice_at s.owing f → e ≡ f
same_entry s e f (inl d) (inl c) h = same_some e f (sym d.next ∙ c.next)
same_entry s e f (inr own) c h = sym (choice_is s.owing f e (sym h ∙ own_is s e own))
same_entry s e f (inl d) (inr own) h = choice_is s.owing e f (h ∙ own_is s f own)

abbrev head_or : {A : Type 0} → A → List A → A
head_or x [] = x
head_or x (y ∷ ys) = y

abbrev tail_of : {A : Type 0} → List A → List A
tail_of [] = []
tail_of (y ∷ ys) = ys

abbrev is_empty : {A : Type 0} → List A → Bool
is_empty [] = true
is_empty (x ∷ xs) = false

-- equal entries, and equal ones behind them
joined : (s : Scene) (e f : Entry) (es fs : List Entry) → e ≡ f → Goes (happens s f) fs → choices (happens s e) es ≡ choices (happens s f) fs
    → (Goes (happens s e) fs → choices (happens s e) es ≡ choices (happens s e) fs → es ≡ fs) → e ∷ es ≡ f ∷ fs
joined s e f es fs p g t same =
    subst (λ x. Goes (happens s x) fs → choices (happens s e) es ≡ choices (happens s x) fs → e ∷ es ≡ x ∷ fs) p
    (λ h u. ap (λ l. e ∷ l) (same h u)) g t

pub one : TracesAreOne
one s [] [] ge gf h = refl
one s [] (f ∷ fs) ge gf h = absurd (subst (λ l. T (is_empty l)) h tt)
one s (e ∷ es) [] ge gf h = absurd (subst (λ l. T (not (is_empty l))) h tt)
one s (e ∷ es) (f ∷ fs) ge gf h =
    joined s e f es fs (same_entry s e f ge.0 gf.0 (ap (head_or None) h)) gf.1 (ap tail_of h) (λ g t. one (happens s e) es fs ge.1 g t)

-- a front and the rest
pub fronts : FrontsGo
fronts s [] rest = ((λ g. (tt, g)), (λ g. g.1))
fronts s (e ∷ front) rest = (
  (λ g. let h = (fronts (happens s e) front rest).0 g.1 in ((g.0, h.0), h.1)),
  (λ g. (g.0.0, (fronts (happens s e) front rest).1 (g.0.1, g.1))),
)

-- at a quiet entry
is_settled : (s : Scene) (rest : List Entry) → Goes s (quiet ∷ rest) → IsSettled (at_work s).world
is_settled s rest g = by g.0
  where
    by : Stands s quiet → IsSettled (at_work s).world
    by (inl d) = d.truly
    by (inr own) = absurd own

pub quiet_settled : QuietIsSettled
quiet_settled s front rest g = is_settled (after_all s front) rest ((fronts s front (quiet ∷ rest)).0 g).1

-- behind the end of the registry
no_due : (s : Scene) → is_lost s.world ≡ true → s.owing ≡ [] → due s ≡ None
no_due s lost owing =
    ap (λ o. first_entry (at_work_owing s o).owing) owing
    ∙ ap (λ b. first_entry (if b then s else line_worked (λ v ws. from_lines s.left v ws) s.passed s.left (progress (bound s.world) s.world s.work)).owing) lost
    ∙ ap first_entry owing

no_own : (s : Scene) → s.free ≡ None → (entry : Entry) → IsOwn s entry → ⊥
no_own s free (sent (Reader r) m) own = no_none own.conn (sym free ∙ own.free)
no_own s free entry own = own

pub lost_over : LostIsOver
lost_over s lost owing free entry (inl d) = no_none entry (sym (no_due s lost owing) ∙ d.next)
lost_over s lost owing free entry (inr own) = no_own s free entry own
