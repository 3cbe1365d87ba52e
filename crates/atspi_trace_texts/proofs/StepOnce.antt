-- The words of a step are one step's.
use Rattle.std.proofs.Common.{◌≡◌, ℕ, ◌+◌, ◌*◌, List, [], ◌∷◌, map, refl, sym, ap, subst, ◌∙◌, arith}
use Rattle.std.specs.Prelude.{codes}
use Rattle.std.specs.List.{flat_map}
use Rattle.atspi_tree_model.specs.declared.step.Step.{Step}
use Rattle.atspi_tree_model.specs.declared.step.Step.TheVariants.{Add, Remove, Move, SetName, SetDescription, SetRole, SetState, Insert, Delete, Caret, TextSelect, Relate}
use Rattle.atspi_script_lines.specs.Words.{literal, number, quote, role_name, state_name, SpellsWords}
use Rattle.atspi_script_lines.specs.Forms.{clauses, switch_word}
use Rattle.atspi_script_lines.specs.inner.Reading.{first_word, other_words}
use Rattle.atspi_script_lines.proofs.SpaceLemmas.{tested_no_space}
use Rattle.atspi_script_lines.proofs.FormLemmas.{HasFirst}
use Rattle.atspi_script_lines.proofs.LeadLemmas.{lead_once, not_both, words_once}
use Rattle.atspi_script_lines.proofs.ClauseLemmas.{clause_known}
use Rattle.atspi_script_lines.proofs.OnceLemmas.{same_first, same_switch, switch_free}
use Rattle.atspi_trace_texts.specs.EventForms.{mark_pair, mark_words, step_form, target_words}
use Rattle.atspi_trace_texts.specs.InTrace.{IsStep}
use Rattle.atspi_trace_texts.proofs.Led.{heads_once}

abbrev code_of : List ℕ → ℕ
code_of [] = 0
code_of (b ∷ bytes) = b + 2 * code_of bytes

pub step_first : (s : Step) → HasFirst (step_form s)
step_first (Add n p i seed) = record { splits = refl; free = tested_no_space (codes "add") refl }
step_first (Remove n) = record { splits = refl; free = tested_no_space (codes "remove") refl }
step_first (Move n p i) = record { splits = refl; free = tested_no_space (codes "move") refl }
step_first (SetName n x) = record { splits = refl; free = tested_no_space (codes "name") refl }
step_first (SetDescription n x) = record { splits = refl; free = tested_no_space (codes "description") refl }
step_first (SetRole n r) = record { splits = refl; free = tested_no_space (codes "role") refl }
step_first (SetState n t on) = record { splits = refl; free = tested_no_space (codes "state") refl }
step_first (Insert n at x) = record { splits = refl; free = tested_no_space (codes "insert") refl }
step_first (Delete n at x) = record { splits = refl; free = tested_no_space (codes "delete") refl }
step_first (Caret n at) = record { splits = refl; free = tested_no_space (codes "caret") refl }
step_first (TextSelect n marks) = record { splits = refl; free = tested_no_space (codes "marks") refl }
step_first (Relate n kind targets) = record { splits = refl; free = tested_no_space (codes "relate") refl }

-- numbers to the end
numbers_once : (xs ys bytes : List ℕ) → SpellsWords (map number xs) bytes → SpellsWords (map number ys) bytes → xs ≡ ys
numbers_once [] [] bytes s t = refl
numbers_once [] (y ∷ ys) bytes s t = absurd (not_both (number y) t.0 bytes s t.1)
numbers_once (x ∷ xs) [] bytes s t = absurd (not_both (number x) s.0 bytes t s.1)
numbers_once (x ∷ xs) (y ∷ ys) bytes s t =
    let one = lead_once (number x) (number y) s.0 t.0 bytes tt s.1 t.1 in
    let h : number x ≡ number y = one.0 in
    let e : x ≡ y = cc in
    let more = numbers_once xs ys s.0 s.2 (subst (SpellsWords (map number ys)) (sym one.1) t.2) in
    ap (λ z. z ∷ xs) e ∙ ap (λ l. y ∷ l) more

same_pair : (x y : ℕ × ℕ) → x.0 ≡ y.0 → x.1 ≡ y.1 → x ≡ y
same_pair x y a b = ap (λ n. (n, x.1)) a ∙ ap (λ n. (y.0, n)) b

-- pairs of numbers to the end
pairs_once : (xs ys : List (ℕ × ℕ)) (bytes : List ℕ) → SpellsWords (flat_map mark_pair xs) bytes → SpellsWords (flat_map mark_pair ys) bytes → xs ≡ ys
pairs_once [] [] bytes s t = refl
pairs_once [] (y ∷ ys) bytes s t = absurd (not_both (number y.0) t.0 bytes s t.1)
pairs_once (x ∷ xs) [] bytes s t = absurd (not_both (number x.0) s.0 bytes t s.1)
pairs_once (x ∷ xs) (y ∷ ys) bytes s t =
    let two = heads_once (mark_pair x) (mark_pair y) (flat_map mark_pair xs) (flat_map mark_pair ys) bytes (tt, (tt, tt)) s t in
    let h : (number x.0 ∷ number x.1 ∷ []) ≡ (number y.0 ∷ number y.1 ∷ []) = two.same in
    let a : x.0 ≡ y.0 = cc in
    let b : x.1 ≡ y.1 = cc in
    let more = pairs_once xs ys two.rest two.left two.right in
    let e : x ≡ y = same_pair x y a b in
    ap (λ z. z ∷ xs) e ∙ ap (λ l. y ∷ l) more

step_once : (a b : Step) (bytes : List ℕ) → IsStep a → IsStep b → first_word (step_form a) ≡ first_word (step_form b) → SpellsWords (other_words (step_form a)) bytes → SpellsWords (other_words (step_form b)) bytes → a ≡ b
step_once (Add n p i seed) (Add m q j other) bytes k l e s t =
    let h = heads_once (number n ∷ number p ∷ number i ∷ role_name seed.role ∷ quote seed.name ∷ []) (number m ∷ number q ∷ number j ∷ role_name other.role ∷ quote other.name ∷ [])
    (clauses seed) (clauses other) bytes (tt, (tt, (tt, (tt, (tt, tt))))) s t in
    let all : (number n ∷ number p ∷ number i ∷ role_name seed.role ∷ quote seed.name ∷ []) ≡ (number m ∷ number q ∷ number j ∷ role_name other.role ∷ quote other.name ∷ []) = h.same in
    let r : seed.role ≡ other.role = cc in
    let x : seed.name ≡ other.name = cc in
    let same : seed ≡ other = clause_known seed other h.rest k l r x h.left h.right in
    let e0 : n ≡ m = cc in
    let e1 : p ≡ q = cc in
    let e2 : i ≡ j = cc in
    cc
step_once (Remove n) (Remove n') bytes k l e s t =
    let h : (number n ∷ []) ≡ (number n' ∷ []) = words_once (number n ∷ []) (number n' ∷ []) bytes (tt, tt) s t in
    let e0 : n ≡ n' = cc in
    cc
step_once (Move n p i) (Move n' p' i') bytes k l e s t =
    let h : (number n ∷ number p ∷ number i ∷ []) ≡ (number n' ∷ number p' ∷ number i' ∷ []) = words_once (number n ∷ number p ∷ number i ∷ []) (number n' ∷ number p' ∷ number i' ∷ []) bytes (tt, (tt, (tt, tt))) s t in
    let e0 : n ≡ n' = cc in
    let e1 : p ≡ p' = cc in
    let e2 : i ≡ i' = cc in
    cc
step_once (SetName n x) (SetName n' x') bytes k l e s t =
    let h : (number n ∷ quote x ∷ []) ≡ (number n' ∷ quote x' ∷ []) = words_once (number n ∷ quote x ∷ []) (number n' ∷ quote x' ∷ []) bytes (tt, (tt, tt)) s t in
    let e0 : n ≡ n' = cc in
    let e1 : x ≡ x' = cc in
    cc
step_once (SetDescription n x) (SetDescription n' x') bytes k l e s t =
    let h : (number n ∷ quote x ∷ []) ≡ (number n' ∷ quote x' ∷ []) = words_once (number n ∷ quote x ∷ []) (number n' ∷ quote x' ∷ []) bytes (tt, (tt, tt)) s t in
    let e0 : n ≡ n' = cc in
    let e1 : x ≡ x' = cc in
    cc
step_once (SetRole n r) (SetRole n' r') bytes k l e s t =
    let h : (number n ∷ role_name r ∷ []) ≡ (number n' ∷ role_name r' ∷ []) = words_once (number n ∷ role_name r ∷ []) (number n' ∷ role_name r' ∷ []) bytes (tt, (tt, tt)) s t in
    let e0 : n ≡ n' = cc in
    let e1 : r ≡ r' = cc in
    cc
step_once (SetState n v on) (SetState n' v' on') bytes k l e s t =
    let h : (number n ∷ state_name v ∷ literal (switch_word on) ∷ []) ≡ (number n' ∷ state_name v' ∷ literal (switch_word on') ∷ []) =
    words_once (number n ∷ state_name v ∷ literal (switch_word on) ∷ []) (number n' ∷ state_name v' ∷ literal (switch_word on') ∷ []) bytes (tt, (tt, ((switch_free on, switch_free on'), tt))) s t in
    let a : n ≡ n' = cc in
    let b : v ≡ v' = cc in
    let c : switch_word on ≡ switch_word on' = cc in
    let d : on ≡ on' = same_switch on on' c in
    cc
step_once (Insert n at x) (Insert n' at' x') bytes k l e s t =
    let h : (number n ∷ number at ∷ quote x ∷ []) ≡ (number n' ∷ number at' ∷ quote x' ∷ []) = words_once (number n ∷ number at ∷ quote x ∷ []) (number n' ∷ number at' ∷ quote x' ∷ []) bytes (tt, (tt, (tt, tt))) s t in
    let e0 : n ≡ n' = cc in
    let e1 : at ≡ at' = cc in
    let e2 : x ≡ x' = cc in
    cc
step_once (Delete n at x) (Delete n' at' x') bytes k l e s t =
    let h : (number n ∷ number at ∷ quote x ∷ []) ≡ (number n' ∷ number at' ∷ quote x' ∷ []) = words_once (number n ∷ number at ∷ quote x ∷ []) (number n' ∷ number at' ∷ quote x' ∷ []) bytes (tt, (tt, (tt, tt))) s t in
    let e0 : n ≡ n' = cc in
    let e1 : at ≡ at' = cc in
    let e2 : x ≡ x' = cc in
    cc
step_once (Caret n at) (Caret n' at') bytes k l e s t =
    let h : (number n ∷ number at ∷ []) ≡ (number n' ∷ number at' ∷ []) = words_once (number n ∷ number at ∷ []) (number n' ∷ number at' ∷ []) bytes (tt, (tt, tt)) s t in
    let e0 : n ≡ n' = cc in
    let e1 : at ≡ at' = cc in
    cc
step_once (TextSelect n marks) (TextSelect n' marks') bytes k l e s t =
    let h = heads_once (number n ∷ []) (number n' ∷ []) (mark_words marks) (mark_words marks') bytes (tt, tt) s t in
    let all : (number n ∷ []) ≡ (number n' ∷ []) = h.same in
    let e0 : n ≡ n' = cc in
    let e1 : marks ≡ marks' = pairs_once marks marks' h.rest h.left h.right in
    cc
step_once (Relate n kind targets) (Relate n' kind' targets') bytes k l e s t =
    let h = heads_once (number n ∷ number kind ∷ []) (number n' ∷ number kind' ∷ []) (target_words targets) (target_words targets') bytes (tt, (tt, tt)) s t in
    let all : (number n ∷ number kind ∷ []) ≡ (number n' ∷ number kind' ∷ []) = h.same in
    let e0 : n ≡ n' = cc in
    let e1 : kind ≡ kind' = cc in
    let e2 : targets ≡ targets' = numbers_once targets targets' h.rest h.left h.right in
    cc
step_once a b bytes k l e s t = absurd (omega (arith, ap code_of e))

pub whole_step_once : (a b : Step) (bytes : List ℕ) → IsStep a → IsStep b → SpellsWords (step_form a) bytes → SpellsWords (step_form b) bytes → a ≡ b
whole_step_once a b bytes k l s t =
    let f = same_first (step_form a) (step_form b) bytes (step_first a) (step_first b) s t in
    step_once a b f.rest k l f.first f.left f.right
