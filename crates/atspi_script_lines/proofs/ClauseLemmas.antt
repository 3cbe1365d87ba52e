-- The clauses of an insertion, one after another.
use Rattle.std.proofs.Common.{◌≡◌, ℕ, ◌+◌, ◌*◌, ◌<◌, ◌≤◌, Bool, true, false, List, [], ◌∷◌, ◌++◌, length, Option, None, Some, refl, sym, ap, subst, ◌∙◌, arith, length-append}
use Rattle.std.specs.Prelude.{codes, is_some}
use Rattle.std.proofs.lemmas.Bool.{false≢true}
use Rattle.atspi_base.specs.declared.text.Text.{Text}
use Rattle.atspi_tree_model.specs.declared.step.Seed.{Seed}
use Rattle.atspi_tree_model.specs.declared.limits.TheConstants.{ACTION_LIMIT}
use Rattle.atspi_script_lines.specs.declared.inserts.Contents.{Contents}
use Rattle.atspi_script_lines.specs.Words.{Word, literal, number, role_name, quote, Leads, SpellsWords}
use Rattle.atspi_script_lines.specs.Forms.{action_clauses, clauses, columns_clause, select_clause, text_clause}
use Rattle.atspi_script_lines.specs.inner.Reading.{HasNoSpace, IsClause, IsContents, IsSeedOf, IsSeedWith, LeadAll, column_clauses, select_clauses, text_clause_of, text_said}
use Rattle.atspi_script_lines.proofs.SpaceLemmas.{tested_no_space}
use Rattle.atspi_script_lines.proofs.LeadLemmas.{lead_once, not_both, rest_of}

abbrev code_of : List ℕ → ℕ
code_of [] = 0
code_of (b ∷ bytes) = b + 2 * code_of bytes

-- two literal words in front are the same
pub same_literal : (w v r s bytes : List ℕ) → HasNoSpace w → HasNoSpace v → Leads (literal w) r bytes → Leads (literal v) s bytes → w ≡ v
same_literal w v r s bytes f g p q = let e : literal w ≡ literal v = (lead_once (literal w) (literal v) r s bytes (f, g) p q).0 in cc

pub free_action : HasNoSpace (codes "action")
free_action = tested_no_space (codes "action") refl

free_select : HasNoSpace (codes "select")
free_select = tested_no_space (codes "select") refl

free_columns : HasNoSpace (codes "columns")
free_columns = tested_no_space (codes "columns") refl

free_text : HasNoSpace (codes "text")
free_text = tested_no_space (codes "text") refl

free_static : HasNoSpace (codes "static")
free_static = tested_no_space (codes "static") refl

-- the first words of what may follow, as numbers
no_action : (w r bytes : List ℕ) (names : List (List ℕ)) → HasNoSpace w → (w ≡ codes "action" → ⊥) → Leads (literal w) r bytes → SpellsWords (action_clauses names) bytes → ⊥
no_action w r bytes [] f other p s = not_both (literal w) r bytes s p
no_action w r bytes (name ∷ names) f other p s = other (same_literal w (codes "action") r s.0 bytes f free_action p s.1)

no_selection : (w r bytes : List ℕ) (said : Bool × List (List ℕ)) → HasNoSpace w → (w ≡ codes "select" → ⊥) → (w ≡ codes "action" → ⊥) → Leads (literal w) r bytes → SpellsWords (select_clauses said) bytes → ⊥
no_selection w r bytes (true, names) f other action p s = other (same_literal w (codes "select") r s.0 bytes f free_select p s.1)
no_selection w r bytes (false, names) f other action p s = no_action w r bytes names f action p s

no_columns : (w r bytes : List ℕ) (said : Option ℕ × Bool × List (List ℕ)) → HasNoSpace w → (w ≡ codes "columns" → ⊥) → (w ≡ codes "select" → ⊥) → (w ≡ codes "action" → ⊥)
    → Leads (literal w) r bytes → SpellsWords (column_clauses said) bytes → ⊥
no_columns w r bytes (Some k, select, names) f columns other action p s = columns (same_literal w (codes "columns") r s.0 bytes f free_columns p s.1)
no_columns w r bytes (None, select, names) f columns other action p s = no_selection w r bytes (select, names) f other action p s

-- `select` stands in front
pub select_in : (rest bytes : List ℕ) → Leads (literal (codes "select")) rest bytes → IsClause select_clause action_clauses true rest bytes
select_in rest bytes p = record { sound = λ words s. (rest, p, s); complete = complete }
  where
    complete : (other : Bool) (names : List (List ℕ)) → SpellsWords (select_clause other ++ action_clauses names) bytes → (other ≡ true) × SpellsWords (action_clauses names) rest
    complete true names s = (refl, rest_of (literal (codes "select")) (literal (codes "select")) rest bytes (action_clauses names) (free_select, free_select) p s)
    complete false names s = absurd (no_action (codes "select") rest bytes names free_select (λ e. omega (arith, ap code_of e)) p s)

-- it does not
pub select_out : (bytes : List ℕ) → ((rest : List ℕ) → Leads (literal (codes "select")) rest bytes → ⊥) → IsClause select_clause action_clauses false bytes bytes
select_out bytes none = record { sound = λ words s. s; complete = complete }
  where
    complete : (other : Bool) (names : List (List ℕ)) → SpellsWords (select_clause other ++ action_clauses names) bytes → (other ≡ false) × SpellsWords (action_clauses names) bytes
    complete true names s = absurd (none s.0 s.1)
    complete false names s = (refl, s)

-- `columns K` stands in front
pub columns_in : (k : ℕ) (behind rest bytes : List ℕ) → Leads (literal (codes "columns")) behind bytes → Leads (number k) rest behind → IsClause columns_clause select_clauses (Some k) rest bytes
columns_in k behind rest bytes p q = record { sound = λ words s. (behind, p, (rest, q, s)); complete = complete }
  where
    counted : (n : ℕ) (words : List Word) → SpellsWords (number n ∷ words) behind → (Some n ≡ Some k) × SpellsWords words rest
    counted n words s =
        let c = lead_once (number k) (number n) rest s.0 behind tt q s.1 in
        let e : Some n ≡ Some k = let m : number k ≡ number n = c.0 in cc in
        (e, rest_of (number k) (number n) rest behind words tt q s)

    complete : (other : Option ℕ) (said : Bool × List (List ℕ)) → SpellsWords (columns_clause other ++ select_clauses said) bytes → (other ≡ Some k) × SpellsWords (select_clauses said) rest
    complete None said s = absurd (no_selection (codes "columns") behind bytes said free_columns (λ e. omega (arith, ap code_of e)) (λ e. omega (arith, ap code_of e)) p s)
    complete (Some n) said s =
        counted n (select_clauses said) (rest_of (literal (codes "columns")) (literal (codes "columns")) behind bytes (number n ∷ select_clauses said) (free_columns, free_columns) p s)

-- it does not
pub columns_out : (bytes : List ℕ) → ((rest : List ℕ) → Leads (literal (codes "columns")) rest bytes → ⊥) → IsClause columns_clause select_clauses None bytes bytes
columns_out bytes none = record { sound = λ words s. s; complete = complete }
  where
    complete : (other : Option ℕ) (said : Bool × List (List ℕ)) → SpellsWords (columns_clause other ++ select_clauses said) bytes → (other ≡ None) × SpellsWords (select_clauses said) bytes
    complete (Some n) said s = absurd (none s.0 s.1)
    complete None said s = (refl, s)

-- `columns` without a number
pub columns_bad : (behind bytes : List ℕ) → Leads (literal (codes "columns")) behind bytes → ((k : ℕ) (rest : List ℕ) → Leads (number k) rest behind → ⊥)
    → (said : Option ℕ) (after : Bool × List (List ℕ)) → SpellsWords (columns_clause said ++ select_clauses after) bytes → ⊥
columns_bad behind bytes p none None after s = no_selection (codes "columns") behind bytes after free_columns (λ e. omega (arith, ap code_of e)) (λ e. omega (arith, ap code_of e)) p s
columns_bad behind bytes p none (Some k) after s =
    let t = rest_of (literal (codes "columns")) (literal (codes "columns")) behind bytes (number k ∷ select_clauses after) (free_columns, free_columns) p s in
    none k t.0 t.1

-- the word of a text's clause
abbrev pub text_word : Bool → List ℕ
text_word true = codes "text"
text_word false = codes "static"

free_text_word : (editable : Bool) → HasNoSpace (text_word editable)
free_text_word true = free_text
free_text_word false = free_static

text_words_differ : (a b : Bool) → text_word a ≡ text_word b → a ≡ b
text_words_differ true true e = refl
text_words_differ false false e = refl
text_words_differ true false e = absurd (omega (arith, ap code_of e))
text_words_differ false true e = absurd (omega (arith, ap code_of e))

not_columns : (editable : Bool) → text_word editable ≡ codes "columns" → ⊥
not_columns true e = omega (arith, ap code_of e)
not_columns false e = omega (arith, ap code_of e)

not_select : (editable : Bool) → text_word editable ≡ codes "select" → ⊥
not_select true e = omega (arith, ap code_of e)
not_select false e = omega (arith, ap code_of e)

not_action : (editable : Bool) → text_word editable ≡ codes "action" → ⊥
not_action true e = omega (arith, ap code_of e)
not_action false e = omega (arith, ap code_of e)

clause_is : (said : Text × Bool) → text_clause_of (Some said) ≡ literal (text_word said.1) ∷ quote said.0 ∷ []
clause_is (text, true) = refl
clause_is (text, false) = refl

-- a clause with a text, cut behind its first word
text_rest : (editable : Bool) (behind bytes : List ℕ) (said : Text × Bool) (words : List Word) → Leads (literal (text_word editable)) behind bytes
    → SpellsWords (text_clause_of (Some said) ++ words) bytes → (said.1 ≡ editable) × SpellsWords (quote said.0 ∷ words) behind
text_rest editable behind bytes said words p s =
    let t : SpellsWords (literal (text_word said.1) ∷ quote said.0 ∷ words) bytes = subst (λ c. SpellsWords (c ++ words) bytes) (clause_is said) s in
    let e = same_literal (text_word editable) (text_word said.1) behind t.0 bytes (free_text_word editable) (free_text_word said.1) p t.1 in (
      sym (text_words_differ editable said.1 e),
      rest_of (literal (text_word editable)) (literal (text_word said.1)) behind bytes (quote said.0 ∷ words) (free_text_word editable, free_text_word said.1) p t,
    )

-- a text's clause stands in front
pub text_in : (editable : Bool) (text behind rest bytes : List ℕ) → Leads (literal (text_word editable)) behind bytes → Leads (quote text) rest behind
    → IsClause text_clause_of column_clauses (Some (text, editable)) rest bytes
text_in editable text behind rest bytes p q = record { sound = sound editable p; complete = complete }
  where
    sound : (b : Bool) → Leads (literal (text_word b)) behind bytes → (words : List Word) → SpellsWords words rest → SpellsWords (text_clause_of (Some (text, b)) ++ words) bytes
    sound true h words s = (behind, h, (rest, q, s))
    sound false h words s = (behind, h, (rest, q, s))

    told : (said : Text × Bool) (words : List Word) → said.1 ≡ editable → SpellsWords (quote said.0 ∷ words) behind → (Some said ≡ Some (text, editable)) × SpellsWords words rest
    told (x, b) words e s =
        let c : quote text ≡ quote x = (lead_once (quote text) (quote x) rest s.0 behind tt q s.1).0 in
        let f : x ≡ text = cc in
        let same : Some (x, b) ≡ Some (text, editable) = ap (λ t. Some (t, b)) f ∙ ap (λ t. Some (text, t)) e in
        (same, rest_of (quote text) (quote x) rest behind words tt q s)

    complete : (other : Option (Text × Bool)) (said : Option ℕ × Bool × List (List ℕ)) → SpellsWords (text_clause_of other ++ column_clauses said) bytes
        → (other ≡ Some (text, editable)) × SpellsWords (column_clauses said) rest
    complete None said s =
        absurd (no_columns (text_word editable) behind bytes said (free_text_word editable) (not_columns editable) (not_select editable) (not_action editable) p s)
    complete (Some other) said s =
        let t = text_rest editable behind bytes other (column_clauses said) p s in
        told other (column_clauses said) t.0 t.1

-- a text's clause without a text
pub text_bad : (editable : Bool) (behind bytes : List ℕ) → Leads (literal (text_word editable)) behind bytes → ((text rest : List ℕ) → Leads (quote text) rest behind → ⊥)
    → (said : Option (Text × Bool)) (after : Option ℕ × Bool × List (List ℕ)) → SpellsWords (text_clause_of said ++ column_clauses after) bytes → ⊥
text_bad editable behind bytes p none None after s =
    no_columns (text_word editable) behind bytes after (free_text_word editable) (not_columns editable) (not_select editable) (not_action editable) p s
text_bad editable behind bytes p none (Some said) after s =
    let t = text_rest editable behind bytes said (column_clauses after) p s in
    none said.0 t.1.0 t.1.1

-- no such clause stands in front
pub text_out : (bytes : List ℕ) → ((rest : List ℕ) → Leads (literal (codes "text")) rest bytes → ⊥) → ((rest : List ℕ) → Leads (literal (codes "static")) rest bytes → ⊥)
    → IsClause text_clause_of column_clauses None bytes bytes
text_out bytes text static = record { sound = λ words s. s; complete = complete }
  where
    complete : (other : Option (Text × Bool)) (said : Option ℕ × Bool × List (List ℕ)) → SpellsWords (text_clause_of other ++ column_clauses said) bytes → (other ≡ None) × SpellsWords (column_clauses said) bytes
    complete None said s = (refl, s)
    complete (Some (x, true)) said s = absurd (text s.0 s.1)
    complete (Some (x, false)) said s = absurd (static s.0 s.1)

-- the clauses of contents and those of a seed
pub contents_of : Seed → Contents
contents_of seed = record { text = text_said seed.text seed.editable; columns = seed.columns; select = seed.select; actions = seed.actions }

pub said_clause : (text : Option (List ℕ)) (editable : Bool) → text_clause_of (text_said text editable) ≡ text_clause text editable
said_clause None editable = refl
said_clause (Some x) editable = refl

-- a seed's clauses are those of its contents
pub seed_contents : (few : ℕ) (bytes : List ℕ) (seed : Seed) → length seed.actions ≤ ACTION_LIMIT → SpellsWords (clauses seed) bytes → IsContents bytes (contents_of seed)
unfolding contents_of
seed_contents few bytes seed f s = record {
  few = f;
  spelled = subst (λ c. SpellsWords (c ++ column_clauses (seed.columns, seed.select, seed.actions)) bytes) (sym (said_clause seed.text seed.editable)) s;
}

-- and the other way round
pub contents_seed : (role : ℕ) (name : List ℕ) (contents : Contents) (seed : Seed) (mid rest bytes : List ℕ)
    → Leads (role_name role) mid bytes → Leads (quote name) rest mid → IsContents rest contents → IsSeedWith role name contents seed → IsSeedOf bytes seed
contents_seed role name contents seed mid rest bytes p q c w =
    let few : length seed.actions ≤ ACTION_LIMIT = omega (arith, ap length w.has_actions, c.few) in
    let a : SpellsWords (text_clause_of contents.text ++ (columns_clause seed.columns ++ (select_clause seed.select ++ action_clauses seed.actions))) rest =
    rw (w.has_columns, w.has_select, w.has_actions) c.spelled in
    let b : SpellsWords (clauses seed) rest =
    subst (λ x. SpellsWords (x ++ (columns_clause seed.columns ++ (select_clause seed.select ++ action_clauses seed.actions))) rest)
    (ap text_clause_of (sym w.has_text) ∙ said_clause seed.text seed.editable) a in
    let r : Leads (role_name seed.role) mid bytes = subst (λ n. Leads (role_name n) mid bytes) (sym w.has_role) p in
    let n : Leads (quote seed.name) rest mid = subst (λ x. Leads (quote x) rest mid) (sym w.has_name) q in
    record { few = few; with_text = w.with_text; spelled = (mid, r, (rest, n, b)) }

-- one more action
pub more_actions : (names : List (List ℕ)) (name mid rest bytes : List ℕ) → LeadAll (action_clauses names) mid bytes → LeadAll (literal (codes "action") ∷ quote name ∷ []) rest mid
    → LeadAll (action_clauses (names ++ name ∷ [])) rest bytes
more_actions [] name mid rest bytes h k = subst (λ b. LeadAll (literal (codes "action") ∷ quote name ∷ []) rest b) (sym h) k
more_actions (n ∷ names) name mid rest bytes h k = (h.0, h.1, (h.2.0, h.2.1, more_actions names name mid rest h.2.0 h.2.2 k))

-- the actions that were read are all there are, or more follow
pub actions_left : (done all : List (List ℕ)) (rest bytes : List ℕ) → LeadAll (action_clauses done) rest bytes → SpellsWords (action_clauses all) bytes
    → (tail : List (List ℕ)) × (all ≡ done ++ tail) × SpellsWords (action_clauses tail) rest
actions_left [] all rest bytes h s = (all, refl, subst (SpellsWords (action_clauses all)) h s)
actions_left (d ∷ done) [] rest bytes h s = absurd (not_both (literal (codes "action")) h.0 bytes s h.1)
actions_left (d ∷ done) (a ∷ all) rest bytes h s =
    let t = rest_of (literal (codes "action")) (literal (codes "action")) h.0 bytes (quote a ∷ action_clauses all) (free_action, free_action) h.1 s in
    let c : quote d ≡ quote a = (lead_once (quote d) (quote a) h.2.0 t.0 h.0 tt h.2.1 t.1).0 in
    let u = rest_of (quote d) (quote a) h.2.0 h.0 (action_clauses all) tt h.2.1 t in
    let more = actions_left done all rest h.2.0 h.2.2 u in
    let e : a ≡ d = cc in
    (more.0, ap (λ x. x ∷ all) e ∙ ap (λ l. d ∷ l) more.1, more.2)

-- no action follows, but something does
pub no_more_actions : (done : List (List ℕ)) (rest bytes : List ℕ) → LeadAll (action_clauses done) rest bytes → 0 < length rest
    → ((name more : List ℕ) → LeadAll (literal (codes "action") ∷ quote name ∷ []) more rest → ⊥) → (all : List (List ℕ)) → SpellsWords (action_clauses all) bytes → ⊥
no_more_actions done rest bytes h some none all s =
    let left = actions_left done all rest bytes h s in
    ends left.0 left.2
  where
    ends : (tail : List (List ℕ)) → SpellsWords (action_clauses tail) rest → ⊥
    ends [] s = let e : length rest ≡ 0 = ap length s in omega (arith, e)
    ends (a ∷ tail) s = none a s.2.0 (s.0, s.1, (s.2.0, s.2.1, refl))

-- as many actions as a node has, and more follow
pub too_many_actions : (done : List (List ℕ)) (rest bytes : List ℕ) → LeadAll (action_clauses done) rest bytes → 0 < length rest → length done ≡ ACTION_LIMIT
    → (all : List (List ℕ)) → length all ≤ ACTION_LIMIT → SpellsWords (action_clauses all) bytes → ⊥
too_many_actions done rest bytes h some full all few s =
    let left = actions_left done all rest bytes h s in
    ends left.0 left.1 left.2
  where
    ends : (tail : List (List ℕ)) → all ≡ done ++ tail → SpellsWords (action_clauses tail) rest → ⊥
    ends [] e s = let e : length rest ≡ 0 = ap length s in omega (arith, e)
    ends (a ∷ tail) e s = omega (arith, ap length e ∙ length-append done (a ∷ tail), few, full)

-- the actions that were read are all there are
pub all_actions : (names : List (List ℕ)) (rest bytes : List ℕ) → LeadAll (action_clauses names) rest bytes → length rest ≡ 0 → SpellsWords (action_clauses names) bytes
all_actions [] rest bytes h e = h ∙ nothing rest e
  where
    nothing : (l : List ℕ) → length l ≡ 0 → l ≡ []
    nothing [] e = refl
    nothing (x ∷ l) e = absurd (omega (arith, e))
all_actions (n ∷ names) rest bytes h e = (h.0, h.1, (h.2.0, h.2.1, all_actions names rest h.2.0 h.2.2 e))

-- clauses spelled by the same bytes say the same
actions_once : (xs ys : List (List ℕ)) (bytes : List ℕ) → SpellsWords (action_clauses xs) bytes → SpellsWords (action_clauses ys) bytes → xs ≡ ys
actions_once [] [] bytes s t = refl
actions_once [] (y ∷ ys) bytes s t = absurd (not_both (literal (codes "action")) t.0 bytes s t.1)
actions_once (x ∷ xs) [] bytes s t = absurd (not_both (literal (codes "action")) s.0 bytes t s.1)
actions_once (x ∷ xs) (y ∷ ys) bytes s t =
    let u = rest_of (literal (codes "action")) (literal (codes "action")) s.0 bytes (quote y ∷ action_clauses ys) (free_action, free_action) s.1 t in
    let r = s.2 in
    let c : quote x ≡ quote y = (lead_once (quote x) (quote y) r.0 u.0 s.0 tt r.1 u.1).0 in
    let others = actions_once xs ys r.0 r.2 (rest_of (quote x) (quote y) r.0 s.0 (action_clauses ys) tt r.1 u) in
    let e : x ≡ y = cc in
    ap (λ z. z ∷ xs) e ∙ ap (λ l. y ∷ l) others

select_once : (a b : Bool) (xs ys : List (List ℕ)) (bytes : List ℕ) → SpellsWords (select_clause a ++ action_clauses xs) bytes → SpellsWords (select_clause b ++ action_clauses ys) bytes
    → (a ≡ b) × (xs ≡ ys)
select_once true b xs ys bytes s t =
    let c = (select_in s.0 bytes s.1).complete b ys t in
    (sym c.0, actions_once xs ys s.0 s.2 c.1)
select_once false true xs ys bytes s t = let c = (select_in t.0 bytes t.1).complete false xs s in absurd (false≢true c.0)
select_once false false xs ys bytes s t = (refl, actions_once xs ys bytes s t)

columns_once : (a b : Option ℕ) (c d : Bool) (xs ys : List (List ℕ)) (bytes : List ℕ)
    → SpellsWords (columns_clause a ++ (select_clause c ++ action_clauses xs)) bytes → SpellsWords (columns_clause b ++ (select_clause d ++ action_clauses ys)) bytes
    → (a ≡ b) × (c ≡ d) × (xs ≡ ys)
columns_once (Some k) b c d xs ys bytes s t =
    let r = s.2 in
    let known = (columns_in k s.0 r.0 bytes s.1 r.1).complete b (d, ys) t in
    let others = select_once c d xs ys r.0 r.2 known.1 in
    (sym known.0, others.0, others.1)
columns_once None (Some k) c d xs ys bytes s t =
    let r = t.2 in
    let known : None ≡ Some k = ((columns_in k t.0 r.0 bytes t.1 r.1).complete None (c, xs) s).0 in
    cc
columns_once None None c d xs ys bytes s t = let others = select_once c d xs ys bytes s t in (refl, others.0, others.1)

-- the parts of clauses that are the same
pub record SameClauses (x y : Option (Text × Bool)) (a b : Option ℕ) (c d : Bool) (xs ys : List (List ℕ)) : Type 0 where
  pub texts : x ≡ y
  pub columns : a ≡ b
  pub selects : c ≡ d
  pub actions : xs ≡ ys

behind_text : (editable : Bool) (text behind rest bytes : List ℕ) (y : Option (Text × Bool)) (a b : Option ℕ) (c d : Bool) (xs ys : List (List ℕ))
    → Leads (literal (text_word editable)) behind bytes → Leads (quote text) rest behind → SpellsWords (column_clauses (a, c, xs)) rest
    → SpellsWords (text_clause_of y ++ column_clauses (b, d, ys)) bytes → SameClauses (Some (text, editable)) y a b c d xs ys
behind_text editable text behind rest bytes y a b c d xs ys p q s t =
    let known = (text_in editable text behind rest bytes p q).complete y (b, d, ys) t in
    let others = columns_once a b c d xs ys rest s known.1 in
    record { texts = sym known.0; columns = others.0; selects = others.1; actions = others.2 }

swapped : (x y : Option (Text × Bool)) (a b : Option ℕ) (c d : Bool) (xs ys : List (List ℕ)) → SameClauses x y a b c d xs ys → SameClauses y x b a d c ys xs
swapped x y a b c d xs ys s = record { texts = sym s.texts; columns = sym s.columns; selects = sym s.selects; actions = sym s.actions }

clauses_once : (x y : Option (Text × Bool)) (a b : Option ℕ) (c d : Bool) (xs ys : List (List ℕ)) (bytes : List ℕ)
    → SpellsWords (text_clause_of x ++ column_clauses (a, c, xs)) bytes → SpellsWords (text_clause_of y ++ column_clauses (b, d, ys)) bytes
    → SameClauses x y a b c d xs ys
clauses_once (Some (text, true)) y a b c d xs ys bytes s t =
    let r = s.2 in behind_text true text s.0 r.0 bytes y a b c d xs ys s.1 r.1 r.2 t
clauses_once (Some (text, false)) y a b c d xs ys bytes s t =
    let r = s.2 in behind_text false text s.0 r.0 bytes y a b c d xs ys s.1 r.1 r.2 t
clauses_once None (Some (text, true)) a b c d xs ys bytes s t =
    let r = t.2 in swapped (Some (text, true)) None b a d c ys xs (behind_text true text t.0 r.0 bytes None b a d c ys xs t.1 r.1 r.2 s)
clauses_once None (Some (text, false)) a b c d xs ys bytes s t =
    let r = t.2 in swapped (Some (text, false)) None b a d c ys xs (behind_text false text t.0 r.0 bytes None b a d c ys xs t.1 r.1 r.2 s)
clauses_once None None a b c d xs ys bytes s t =
    let others = columns_once a b c d xs ys bytes s t in
    record { texts = refl; columns = others.0; selects = others.1; actions = others.2 }

never_edited : (e : Bool) → (e ≡ true → false ≡ true) → e ≡ false
never_edited true p = absurd (false≢true (p refl))
never_edited false p = refl

text_known : (x y : Option (List ℕ)) (e f : Bool) → (e ≡ true → is_some x ≡ true) → (f ≡ true → is_some y ≡ true) → text_said x e ≡ text_said y f → (x ≡ y) × (e ≡ f)
text_known None None e f p q h = (refl, never_edited e p ∙ sym (never_edited f q))
text_known None (Some y) e f p q h = absurd cc
text_known (Some x) None e f p q h = absurd cc
text_known (Some x) (Some y) e f p q h =
    let s : (x, e) ≡ (y, f) = cc in
    (ap (λ (z : List ℕ × Bool). Some z.0) s, ap (λ (z : List ℕ × Bool). z.1) s)

-- seeds of one role and name with clauses spelled by the same bytes
pub clause_known : (a b : Seed) (bytes : List ℕ) → (a.editable ≡ true → is_some a.text ≡ true) → (b.editable ≡ true → is_some b.text ≡ true)
    → a.role ≡ b.role → a.name ≡ b.name → SpellsWords (clauses a) bytes → SpellsWords (clauses b) bytes → a ≡ b
clause_known a b bytes p q r n s t =
    let u : SpellsWords (text_clause_of (text_said a.text a.editable) ++ column_clauses (a.columns, a.select, a.actions)) bytes =
    subst (λ c. SpellsWords (c ++ column_clauses (a.columns, a.select, a.actions)) bytes) (sym (said_clause a.text a.editable)) s in
    let v : SpellsWords (text_clause_of (text_said b.text b.editable) ++ column_clauses (b.columns, b.select, b.actions)) bytes =
    subst (λ c. SpellsWords (c ++ column_clauses (b.columns, b.select, b.actions)) bytes) (sym (said_clause b.text b.editable)) t in
    let same = clauses_once (text_said a.text a.editable) (text_said b.text b.editable) a.columns b.columns a.select b.select a.actions b.actions bytes u v in
    let texts = text_known a.text b.text a.editable b.editable p q same.texts in
    ap (λ x. record a { role = x }) r
    ∙ ap (λ x. record a { role = b.role; name = x }) n
    ∙ ap (λ x. record a { role = b.role; name = b.name; text = x }) texts.0
    ∙ ap (λ x. record a { role = b.role; name = b.name; text = b.text; editable = x }) texts.1
    ∙ ap (λ x. record a { role = b.role; name = b.name; text = b.text; editable = b.editable; columns = x }) same.columns
    ∙ ap (λ x. record a { role = b.role; name = b.name; text = b.text; editable = b.editable; columns = b.columns; select = x }) same.selects
    ∙ ap (λ x. record a { role = b.role; name = b.name; text = b.text; editable = b.editable; columns = b.columns; select = b.select; actions = x }) same.actions
