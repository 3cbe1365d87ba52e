-- The news that tables of names tell, by what was read.
use Rattle.std.proofs.Common.{◌≡◌, ℕ, suc, ◌+◌, Bool, true, false, not, cond, List, [], ◌∷◌, Option, Some, None, Result, length, refl, sym, ap, ◌∙◌, subst, arith}
use Rattle.std.specs.Prelude.{bytes_eq, nat_lt, codes, position, IfOk, IsTrue}
use Rattle.std.specs.List.{position_or_len}
use Rattle.std.proofs.lemmas.Bool.Decides.{nat_tests}
use Rattle.atspi_types.specs.Kinds.{Kind, number, text, i32, u32}
use Rattle.atspi_types.specs.Data.{Data, number_data, text_data, type_of}
use Rattle.atspi_tables.specs.States.{state_names}
use Rattle.atspi_tree_model.specs.declared.news.News.{News}
use Rattle.atspi_tree_model.specs.declared.news.News.TheVariants.{State, Nothing}
use Rattle.atspi_protocol.specs.news.Events.{named_in, state_lines}
use Rattle.atspi_reader_news.specs.Seen.{text_seen, role_seen, state_number}

-- what was told is what is to be told
pub same_value : {X E : Type 0} (r : Result X E) (x y : X) → x ≡ y → IfOk r (λ n. n ≡ x) → IfOk r (λ n. n ≡ y)
same_value {X} r x y e h = subst (λ (z : X). IfOk r (λ n. n ≡ z)) e h

-- a value of this type is of no other
pub differs : (d : Data) (k other : Kind) → type_of d ≡ k → (k ≡ other → ⊥) → type_of d ≡ other → ⊥
differs d k other typed unlike t = unlike (sym typed ∙ t)

pub differs_by : (test : Kind → Bool) (d : Data) (k : Kind) → type_of d ≡ k → (IsTrue (test k) → ⊥) → IsTrue (test (type_of d)) → ⊥
differs_by test d k typed unlike t = unlike (sym (ap test typed) ∙ t)

-- values that are no text, or no role
pub no_text_seen : (d : Data) → (type_of d ≡ text → ⊥) → None ≡ text_seen d
no_text_seen (text_data cs) other = absurd (other refl)
no_text_seen _ other = refl

pub no_role_seen : (d : Data) → (type_of d ≡ number u32 → ⊥) → (type_of d ≡ number i32 → ⊥) → None ≡ role_seen d
no_role_seen (number_data u32 role) one two = absurd (one refl)
no_role_seen (number_data i32 role) one two = absurd (two refl)
no_role_seen _ one two = refl

-- the states from a bit on, by the place of the name
abbrev state_from : ℕ → Option ℕ → List ℕ → Bool → News
state_from bit None path on = Nothing
state_from bit (Some k) path on = State path (bit + k) on

next_less : (k len : ℕ) → nat_lt (1 + k) (suc len) ≡ nat_lt k len
next_less k len = grind (arith, nat_tests)

module _ (path : List ℕ) (on : Bool) where
  shift : (bit k len : ℕ) → state_from (1 + bit) (cond (nat_lt k len) (Some k) None) path on ≡ state_from bit (cond (nat_lt (1 + k) (suc len)) (Some (1 + k)) None) path on
  shift bit k len = by (nat_lt k len) ∙ sym (ap (λ (b : Bool). state_from bit (cond b (Some (1 + k)) None) path on) (next_less k len))
    where
      by : (b : Bool) → state_from (1 + bit) (cond b (Some k) None) path on ≡ state_from bit (cond b (Some (1 + k)) None) path on
      by true = let e : (1 + bit) + k ≡ bit + (1 + k) = omega arith in ap (λ (n : ℕ). State path n on) e
      by false = refl

  abbrev is_it : List ℕ → List ℕ → Bool
  is_it name word = bytes_eq word name

  lines_tell : (bit : ℕ) (words : List (List ℕ)) (name : List ℕ) → named_in (state_lines bit words path on) name ≡ state_from bit (position (is_it name) words) path on
  lines_tell bit [] name = refl
  lines_tell bit (word ∷ words) name = by (bytes_eq word name) (lines_tell (1 + bit) words name)
    where
      by : (b : Bool) → named_in (state_lines (1 + bit) words path on) name ≡ state_from (1 + bit) (position (is_it name) words) path on
          → cond b (State path bit on) (named_in (state_lines (1 + bit) words path on) name)
          ≡ state_from bit (cond (nat_lt (cond (not b) (1 + position_or_len (is_it name) words) 0) (suc (length words))) (Some (cond (not b) (1 + position_or_len (is_it name) words) 0)) None) path on
      by true rest = let first : nat_lt 0 (suc (length words)) ≡ true = grind (arith, nat_tests) in let e : bit ≡ bit + 0 = omega arith in
          ap (λ (n : ℕ). State path n on) e ∙ sym (ap (λ (c : Bool). state_from bit (cond c (Some 0) None) path on) first)
      by false rest = rest ∙ shift bit (position_or_len (is_it name) words) (length words)

  states_tell : (name : List ℕ) → named_in ((codes "default", State path 39 on) ∷ state_lines 0 state_names path on) name ≡ state_from 0 (state_number name) path on
  states_tell name = by (bytes_eq (codes "default") name)
    where
      by : (b : Bool) → cond b (State path 39 on) (named_in (state_lines 0 state_names path on) name) ≡ state_from 0 (cond b (Some 39) (position (is_it name) state_names)) path on
      by true = refl
      by false = lines_tell 0 state_names name

  pub no_state : (name : List ℕ) → None ≡ state_number name → Nothing ≡ named_in ((codes "default", State path 39 on) ∷ state_lines 0 state_names path on) name
  no_state name e = sym (states_tell name ∙ sym (ap (λ (o : Option ℕ). state_from 0 o path on) e))

  pub state_told : (name : List ℕ) (k : ℕ) → Some k ≡ state_number name → State path k on ≡ named_in ((codes "default", State path 39 on) ∷ state_lines 0 state_names path on) name
  state_told name k e = (let z : k ≡ 0 + k = omega arith in ap (λ (n : ℕ). State path n on) z) ∙ sym (states_tell name ∙ sym (ap (λ (o : Option ℕ). state_from 0 o path on) e))

-- the line of a table with the name, or those behind it
pub picked : (b : Bool) (x y : News) → b ≡ true → x ≡ cond b x y
picked b x y e = sym (ap (λ (c : Bool). cond c x y) e)

pub passed : (b : Bool) (x y z : News) → b ≡ false → z ≡ y → z ≡ cond b x y
passed b x y z e h = h ∙ sym (ap (λ (c : Bool). cond c x y) e)
