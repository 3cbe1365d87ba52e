-- The first fault of some bytes, from what stands at its place.
use Rattle.std.proofs.Common.{append-nil, ◌≡◌, ℕ, ◌+◌, ◌≤◌, Bool, true, false, List, [], ◌∷◌, ◌++◌, length, map, drop, get_or, refl, sym, subst, ◌∙◌, arith, inl, inr, ◌<◌, encode_utf8_all}
use Rattle.std.specs.Prelude.{codes, nat_lt, ◌&&◌}
use Rattle.std.specs.List.{prefix_len}
use Rattle.std.proofs.lemmas.Bool.{ltb-true, and_parts}
use Rattle.std.proofs.lemmas.List.Sorted.{IsPermutation-refl}
use Rattle.std.proofs.lemmas.Str.{encodes-IsAscii, chars-encodes}
use Rattle.std.specs.Str.{all_scalars}
use Rattle.std.proofs.lemmas.Str.Ascii.{IsAscii-cons, IsAscii-nil}
use Rattle.atspi_base.specs.Text.{HasNoZero, IsTextBytes}
use Rattle.atspi_types.specs.SignatureFaults.{Before}
use Rattle.atspi_match.specs.Conditions.{IsRule, IsText, key_text, value_text}
use Rattle.atspi_match.specs.Grammar.{is_blank, is_word_byte, is_plain, Are, IsWord, plain, value_of, AreParts, Item, item_text}
use Rattle.atspi_match.specs.Grammar.{with_commas}
use Rattle.atspi_match.specs.RuleFaults.{IsUnknown, IsRival, ItemAt, FirstRuleFault}
use Rattle.atspi_match.specs.inner.Items.{FirstItemFault, FirstFaultOfItems, ReadSoFar}
use Rattle.atspi_match.specs.declared.condition.Condition.{Condition}
use Rattle.atspi_match.specs.declared.condition.Condition.TheVariants.{Kind}
use Rattle.atspi_match.specs.declared.condition.MessageType.TheVariants.{Signal}
use Rattle.atspi_match.proofs.PartLemmas.{are-plain}
use Rattle.atspi_match.proofs.FaultLemmas.{MayStand}
use Rattle.atspi_match.proofs.ItemLemmas.{Here, here}
use Rattle.atspi_match.proofs.ReadingLemmas.{fault_behind, nothing_read, told_first}

-- a fault of the first item
pub at_first : (bytes : List ℕ) (place reason : ℕ) → place ≤ 1024 → FirstItemFault [] bytes place reason
    → FirstRuleFault bytes place reason
at_first bytes place reason low fault =
    let items : FirstFaultOfItems bytes place reason =
    subst (λ n. FirstFaultOfItems bytes n reason) (omega arith) (fault_behind bytes 0 [] place reason (nothing_read bytes) (omega arith) fault) in
    told_first bytes place reason items (λ long. low)

-- a fault of the item behind those that say a rule
pub behind : (bytes : List ℕ) (at : ℕ) (rule : List Condition) (place reason : ℕ) → ReadSoFar bytes at rule
    → at ≤ length bytes → at + place ≤ 1024 → FirstItemFault (map key_text rule) (drop at bytes) place reason
    → FirstRuleFault bytes (at + place) reason
behind bytes at rule place reason read within low fault =
    told_first bytes (at + place) reason (fault_behind bytes at rule place reason read within fault) (λ long. low)

-- no other fault is the first
pub only : (bytes : List ℕ) (p r q s : ℕ) → FirstRuleFault bytes p r → FirstRuleFault bytes q s → (p ≡ q) × (r ≡ s)
only bytes p r q s one two = by (one.first q s two.there) (two.first p r one.there)
  where
    by : Before p r q s → Before q s p r → (p ≡ q) × (r ≡ s)
    by (inl below) (inl above) = absurd (omega (arith, below, above))
    by (inl below) (inr same) = absurd (omega (arith, below, same.0))
    by (inr same) (inl above) = absurd (omega (arith, above, same.0))
    by (inr same) (inr again) = (same.0, omega (arith, same.1, again.1))

-- no condition at all
pub no_conditions : IsRule []
no_conditions = record { rising = tt; each = tt; one_path = refl }

-- each byte passes a test
abbrev all_pass : (ℕ → Bool) → List ℕ → Bool
all_pass test [] = true
all_pass test (b ∷ bytes) = test b && all_pass test bytes

pub are : (test : ℕ → Bool) (bytes : List ℕ) → all_pass test bytes ≡ true → Are test bytes
are test [] e = tt
are test (b ∷ bytes) e =
    let both = and_parts (test b) (all_pass test bytes) e in
    (both.0, are test bytes both.1)

-- a key: no `=`, no comma, and no blank first
pub word : (key : List ℕ) → all_pass is_word_byte key ≡ true → is_blank (get_or key 0 0) ≡ false → IsWord key
word [] each first = record { each = tt; start = λ x. x }
word (b ∷ key) each first = record {
  each = are is_word_byte (b ∷ key) each;
  start = λ x. let no : true ≡ false = sym x ∙ first in absurd cc;
}

-- the item whose value is written without apostrophes
abbrev pub plain_item : List ℕ → List ℕ → Item
plain_item key value = record { blanks = []; key = key; parts = map plain value }

pub are_plain : (value behind : List ℕ) → all_pass is_plain value ≡ true → AreParts (map plain value) behind
are_plain value behind e = are-plain value behind (are is_plain value e)

-- behind one item and its comma
pub after_one : (key value : List ℕ) (c : Condition) (bytes : List ℕ) (at : ℕ) → IsWord key → all_pass is_plain value ≡ true
    → key ≡ key_text c → value_of (map plain value) ≡ value_text c → IsRule (c ∷ [])
    → bytes ≡ with_commas (plain_item key value ∷ []) ++ drop at bytes
    → at ≡ length (with_commas (plain_item key value ∷ [])) → ReadSoFar bytes at (c ∷ [])
after_one key value c bytes at word plains key_is value_is is_rule text at_is = record {
  items = plain_item key value ∷ [];
  say_rule = record {
    conditions = c ∷ [];
    each = (record { blanks = tt; key = word; parts = are_plain value [] plains }, tt);
    say = ((key_is, value_is), tt);
    order = IsPermutation-refl (c ∷ []);
    is_rule = is_rule;
  };
  text = text;
  at_is = at_is;
}

-- the rule of type=signal, and what is behind it and a comma
abbrev pub signal_rule : List Condition
signal_rule = Kind Signal ∷ []

pub is_signal_rule : IsRule signal_rule
is_signal_rule = record { rising = (tt, tt); each = (tt, tt); one_path = refl }

pub after_signal : (rest : List ℕ) → ReadSoFar (codes "type=signal," ++ rest) 12 signal_rule
after_signal rest =
    after_one (codes "type") (codes "signal") (Kind Signal) (codes "type=signal," ++ rest) 12
    (word (codes "type") refl refl) refl refl refl is_signal_rule refl refl

-- the key behind blanks
pub key_at : (bytes : List ℕ) (p w : ℕ) → p ≡ prefix_len is_blank bytes → w ≡ prefix_len is_word_byte (drop p bytes)
    → nat_lt w (length (drop p bytes)) ≡ true → get_or (drop p bytes) w 0 ≡ 61 → Here bytes p w
key_at bytes p w blanks word within equals = here bytes p w blanks word (ltb-true w (length (drop p bytes)) within) equals

-- a key that is one, behind no items
pub may_stand : (key : List ℕ) → (IsUnknown key → ⊥) → MayStand [] key
may_stand key known = record { known = known; once = λ x. omega (arith, x.1); no_rival = no_rival }
  where
    no_rival : IsRival [] key → ⊥
    no_rival (inl x) = omega (arith, x.1.1)
    no_rival (inr x) = omega (arith, x.1.1)

-- an item that is all there is
pub item_at : (key value : List ℕ) → IsWord key → all_pass is_plain value ≡ true
    → ItemAt (item_text (plain_item key value)) (plain_item key value) []
item_at key value word plains = record {
  item_is = record { blanks = tt; key = word; parts = are_plain value [] plains };
  ends = tt;
  is = sym (append-nil (item_text (plain_item key value)));
}

-- a character of ASCII that is not 0 is a text, and the bytes of that are itself
pub one_ascii : (b : ℕ) → b < 128 → HasNoZero (b ∷ []) → all_scalars (b ∷ []) ≡ true
    → IsText (b ∷ []) × (encode_utf8_all (b ∷ []) ≡ b ∷ [])
one_ascii b small none scalar =
    let same : encode_utf8_all (b ∷ []) ≡ b ∷ [] = encodes-IsAscii (b ∷ []) (IsAscii-cons b [] small IsAscii-nil) in (
      record {
        scalars = scalar;
        bytes = subst (λ (bs : List ℕ). IsTextBytes bs) (sym same) (record { no_zero = none; counted = omega arith });
        spelled = chars-encodes (b ∷ []) scalar;
      },
      same,
    )
