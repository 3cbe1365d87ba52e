-- The grammar of match rules (D-Bus Specification, "Match Rules"): which bytes are the text of a rule.
use Rattle.std.specs.Prelude.{◌≡◌, ◌≢◌, ◌≤◌, ◌==◌, ◌||◌, ◌&&◌, ◌⊎◌, ℕ, Bool, not, List, [], ◌∷◌, ◌++◌, length, flat_map}
use Rattle.std.specs.Prelude.{IsTrue}
use Rattle.std.specs.List.{AllByRecursion}
use Rattle.std.specs.List.Sorted.{IsPermutation}
use Rattle.atspi_match.specs.declared.condition.Condition.{Condition}
use Rattle.atspi_match.specs.Conditions.{IsRule, key_text, value_text}

-- a space or a tab
abbrev pub is_blank : ℕ → Bool
is_blank b = b == 32 || b == 9

-- no `=` and no `,`
abbrev pub is_word_byte : ℕ → Bool
is_word_byte b = not (b == 61) && not (b == 44)

-- no apostrophe
abbrev pub is_quotable : ℕ → Bool
is_quotable b = not (b == 39)

-- a byte that stands for itself outside quoted parts, whatever follows
abbrev pub is_plain : ℕ → Bool
is_plain b = not (b == 39) && (not (b == 44) && not (b == 92))

-- each byte passes the test
abbrev pub Are : (ℕ → Bool) → List ℕ → Type 0
Are test bytes = AllByRecursion (λ b. IsTrue (test b)) bytes

-- there is a first byte, and it passes the test
abbrev pub Begins : (ℕ → Bool) → List ℕ → Type 0
Begins test [] = ⊥
Begins test (b ∷ bytes) = IsTrue (test b)

-- where an item ends: at a comma, or where nothing is left
abbrev pub EndsItem : List ℕ → Type 0
EndsItem [] = Unit {0}
EndsItem (b ∷ bytes) = b ≡ 44

-- what stands before the `=` of an item: neither `=` nor `,` is in it, and no blank comes first
pub record IsWord (bytes : List ℕ) : Type 0 where
  pub each : Are is_word_byte bytes
  pub start : Begins is_blank bytes → ⊥

-- a part of a value's spelling: bytes in apostrophes, `\'`, or a byte that stands for itself
pub data Part : Type 0 where
  quoted : List ℕ → Part
  escaped : Part
  plain : ℕ → Part

-- how a part is written
abbrev pub part_text : Part → List ℕ
part_text (quoted bytes) = 39 ∷ (bytes ++ 39 ∷ [])
part_text escaped = 92 ∷ 39 ∷ []
part_text (plain b) = b ∷ []

-- what a part stands for
abbrev pub part_value : Part → List ℕ
part_value (quoted bytes) = bytes
part_value escaped = 39 ∷ []
part_value (plain b) = b ∷ []

abbrev pub spelling : List Part → List ℕ
spelling parts = flat_map part_text parts

abbrev pub value_of : List Part → List ℕ
value_of parts = flat_map part_value parts

-- a part that stands before these bytes: no apostrophe inside a quoted part; outside neither an apostrophe nor a comma
-- stands for itself, nor a backslash before an apostrophe
abbrev pub IsPart : Part → List ℕ → Type 0
IsPart (quoted bytes) behind = Are is_quotable bytes
IsPart escaped behind = Unit {0}
IsPart (plain b) behind = (b ≢ 39) × (b ≢ 44) × (b ≡ 92 → Begins (λ c. c == 39) behind → ⊥)

-- the parts of a spelling that stands before these bytes
abbrev pub AreParts : List Part → List ℕ → Type 0
AreParts [] behind = Unit {0}
AreParts (part ∷ parts) behind = IsPart part (spelling parts ++ behind) × AreParts parts behind

-- an item as it is written: blanks, a key, `=`, the spelling of a value
pub record Item : Type 0 where
  pub blanks : List ℕ
  pub key : List ℕ
  pub parts : List Part

abbrev pub item_text : Item → List ℕ
item_text item = item.blanks ++ (item.key ++ 61 ∷ spelling item.parts)

abbrev pub item_value : Item → List ℕ
item_value item = value_of item.parts

pub record IsItem (item : Item) : Type 0 where
  pub blanks : Are is_blank item.blanks
  pub key : IsWord item.key
  pub parts : AreParts item.parts []

-- items, with a comma behind each
abbrev pub with_commas : List Item → List ℕ
with_commas items = flat_map (λ item. item_text item ++ 44 ∷ []) items

-- the items joined by commas, with one more behind the last or without it
abbrev pub AreJoined : List Item → List ℕ → Type 0
AreJoined items bytes = (with_commas items ≡ bytes) ⊎ (with_commas items ≡ bytes ++ 44 ∷ [])

-- each item has the key and the value of the condition in its place
abbrev pub Say : List Item → List Condition → Type 0
Say [] [] = Unit {0}
Say (item ∷ items) (c ∷ conditions) = ((item.key ≡ key_text c) × (item_value item ≡ value_text c))
    × Say items conditions
Say [] (c ∷ conditions) = ⊥
Say (item ∷ items) [] = ⊥

-- the items say the conditions of the rule, in any order
pub record SayRule (items : List Item) (rule : List Condition) : Type 0 where
  pub conditions : List Condition
  pub each : AllByRecursion IsItem items
  pub say : Say items conditions
  pub order : IsPermutation conditions rule
  pub is_rule : IsRule rule

-- the bytes are the items of a rule, of any length
pub record Spells (bytes : List ℕ) (rule : List Condition) : Type 0 where
  pub items : List Item
  pub joined : AreJoined items bytes
  pub say_rule : SayRule items rule

-- a text of the rule: 1,024 bytes at most
pub record IsRuleText (bytes : List ℕ) (rule : List Condition) : Type 0 where
  pub spells : Spells bytes rule
  pub short : length bytes ≤ 1024
