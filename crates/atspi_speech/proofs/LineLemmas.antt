-- What is appended to a line, and what comes of it.
use Rattle.std.proofs.Common.{◌≡◌, ℕ, zero, suc, ◌==◌, Bool, true, false, cond, not, List, [], ◌∷◌, ◌++◌, length, Result, OnOk, IfOk, chars, IsUtf8, refl, sym, ap, subst, ◌∙◌, arith}
use Rattle.std.specs.Prelude.{codes}
use Rattle.std.specs.Fmt.{decimal}
use Rattle.std.proofs.lemmas.Str.{chars-append}
use Rattle.std.proofs.lemmas.List.{append_assoc}
use Rattle.std.proofs.lemmas.Bool.{eqb-true}
use Rattle.std.proofs.lemmas.Result.{on_ok_weaker, IfOk-weaker}
use Rattle.atspi_base.specs.Text.{HasNoZero}
use Rattle.atspi_speech.specs.Words.{line_if, is_empty, spoken_role, state_pieces, behind_commas, joined}
use Rattle.atspi_speech.specs.Speech.{focus_line, told_of_text}

-- no zero byte, in parts and in a whole
pub no_zero-append : (xs ys : List ℕ) → HasNoZero xs → HasNoZero ys → HasNoZero (xs ++ ys)
no_zero-append [] ys p q = q
no_zero-append (zero ∷ xs) ys p q = absurd (omega (arith, p))
no_zero-append (suc x ∷ xs) ys p q = ap suc (no_zero-append xs ys (omega (arith, p)) q)

-- the characters of what was there and of what came
pub appended : (old text new value told : List ℕ) → IsUtf8 old → new ≡ old ++ text → chars old ≡ value
    → chars text ≡ told → chars new ≡ value ++ told
appended old text new value told u e v t = ap chars e ∙ chars-append old text u ∙ (rw (v, t) refl)

-- how long a secret is
pub told_secret : {E : Type 0} (r : Result (Unit {0}) E) (role n : ℕ) (old bytes mid new text : List ℕ) → role ≡ 40
    → bytes ≡ decimal n → n ≡ length text → mid ≡ old ++ bytes → OnOk r (new ≡ mid ++ codes " characters")
    → OnOk r (new ≡ old ++ told_of_text role text)
told_secret r role n old bytes mid new text is spelled counted e h =
    let P : ℕ → Type 0 = λ role. OnOk r (new ≡ old ++ told_of_text role text) in
    let b : bytes ≡ decimal (length text) = spelled ∙ ap decimal counted in
    let m : mid ≡ old ++ decimal (length text) = e ∙ ap (λ b. old ++ b) b in
    subst P (sym is)
    (on_ok_weaker r
    (λ k. k ∙ ap (λ m. m ++ codes " characters") m ∙ append_assoc old (decimal (length text)) (codes " characters"))
    h)

-- a text that is no secret
pub told_plain : {E : Type 0} (r : Result (Unit {0}) E) (role : ℕ) (old new text : List ℕ) → (role ≡ 40 → ⊥)
    → OnOk r (new ≡ old ++ text) → OnOk r (new ≡ old ++ told_of_text role text)
told_plain r role old new text other h = at (role == 40) refl
  where
    at : (b : Bool) → (role == 40) ≡ b → OnOk r (new ≡ old ++ cond b (decimal (length text) ++ codes " characters") text)
    at true e = absurd (other (eqb-true role 40 e))
    at false e = h

-- what stands before the role: the name and a comma, where there is a name
abbrev pub front_of : List ℕ → List ℕ
front_of name = cond (is_empty name) [] (name ++ codes ", ")

pub front_named : (name line : List ℕ) (n : ℕ) → n ≡ length name → (n ≡ 0 → ⊥) → line ≡ name ++ codes ", "
    → line ≡ front_of name
front_named [] line n e named is = absurd (named e)
front_named (c ∷ cs) line n e named is = is

pub front_unnamed : (name line : List ℕ) (n : ℕ) → n ≡ length name → n ≡ 0 → line ≡ [] → line ≡ front_of name
front_unnamed [] line n e z is = is
front_unnamed (c ∷ cs) line n e z is = absurd (omega arith)

joined_front : (name role : List ℕ) (pieces : List (List ℕ))
    → (front_of name ++ role) ++ behind_commas pieces ≡ joined (line_if (not (is_empty name)) name ++ (role ∷ pieces))
joined_front [] role pieces = refl
joined_front (c ∷ cs) role pieces =
    append_assoc ((c ∷ cs) ++ codes ", ") role (behind_commas pieces)
    ∙ append_assoc (c ∷ cs) (codes ", ") (role ++ behind_commas pieces)

-- the parts of a focus line
pub focus_told : {E : Type 0} (r : Result (List ℕ) E) (name front mid all : List ℕ) (role states : ℕ)
    → front ≡ front_of name → mid ≡ front ++ spoken_role role → all ≡ mid ++ behind_commas (state_pieces states)
    → IfOk r (λ line. line ≡ all)
    → IfOk r (λ line. line ≡ focus_line (record { name = name; role = role; states = states }))
focus_told r name front mid all role states f m a h =
    let whole : all ≡ focus_line (record { name = name; role = role; states = states }) =
    a ∙ ap (λ x. x ++ behind_commas (state_pieces states)) (m ∙ ap (λ x. x ++ spoken_role role) f)
    ∙ joined_front name (spoken_role role) (state_pieces states) in
    IfOk-weaker r (λ line. line ≡ all) (λ line. line ≡ focus_line (record { name = name; role = role; states = states }))
    (λ line e. e ∙ whole) h

-- pieces one after another
pub behind-append : (xs ys : List (List ℕ)) → behind_commas (xs ++ ys) ≡ behind_commas xs ++ behind_commas ys
behind-append [] ys = refl
behind-append (x ∷ xs) ys =
    ap (λ z. codes ", " ++ z)
    (ap (λ z. x ++ z) (behind-append xs ys) ∙ sym (append_assoc x (behind_commas xs) (behind_commas ys)))

pub four_parts : {E : Type 0} (r : Result (Unit {0}) E) (l0 l1 l2 l3 l4 : List ℕ) (a b c d : List (List ℕ))
    → l1 ≡ l0 ++ behind_commas a → l2 ≡ l1 ++ behind_commas b → l3 ≡ l2 ++ behind_commas c
    → OnOk r (l4 ≡ l3 ++ behind_commas d) → OnOk r (l4 ≡ l0 ++ behind_commas (a ++ b ++ c ++ d))
four_parts r l0 l1 l2 l3 l4 a b c d e1 e2 e3 h =
    on_ok_weaker r
    (λ e4. e4 ∙ ap (λ l. l ++ behind_commas d) (e3 ∙ ap (λ l. l ++ behind_commas c) (e2 ∙ ap (λ l. l ++ behind_commas b) e1))
    ∙ all)
    h
  where
    all : (((l0 ++ behind_commas a) ++ behind_commas b) ++ behind_commas c) ++ behind_commas d
        ≡ l0 ++ behind_commas (a ++ b ++ c ++ d)
    all = simp (behind-append, append_assoc)
