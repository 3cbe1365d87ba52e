-- What is wrong with bytes that are no text of a match rule, and where (this profile; the grammar is that of the D-Bus
-- Specification, "Match Rules"). An item is judged behind items that are well formed; of all that is wrong the least is
-- told, by place and then by number.
use Rattle.std.specs.Prelude.{◌≡◌, ◌≢◌, ◌<◌, ◌+◌, ◌⊎◌, ◌==◌, ℕ, List, [], ◌∷◌, ◌++◌, length, map, codes, Contains}
use Rattle.std.specs.List.{AllByRecursion}
use Rattle.atspi_types.specs.SignatureFaults.{Before}
use Rattle.atspi_match.specs.declared.condition.Condition.{Condition}
use Rattle.atspi_match.specs.Conditions.{IsCondition, key_text, value_text}
use Rattle.atspi_match.specs.Grammar.{is_blank, is_quotable, Are, EndsItem, IsWord, Part, spelling, AreParts, Item}
use Rattle.atspi_match.specs.Grammar.{item_text, item_value, IsItem, with_commas}

-- the bytes begin with blanks, a key and `=`
pub record KeyAt (bytes blanks key behind : List ℕ) : Type 0 where
  pub blank : Are is_blank blanks
  pub word : IsWord key
  pub is : bytes ≡ blanks ++ (key ++ 61 ∷ behind)

-- the bytes begin with an item
pub record ItemAt (bytes : List ℕ) (item : Item) (behind : List ℕ) : Type 0 where
  pub item_is : IsItem item
  pub ends : EndsItem behind
  pub is : bytes ≡ item_text item ++ behind

-- the place of an item's value is behind its `=`
abbrev pub value_place : Item → ℕ
value_place item = length item.blanks + length item.key + 1

-- no condition has this key; none has this key and this value
abbrev pub IsUnknown : List ℕ → Type 0
IsUnknown key = (c : Condition) → IsCondition c → key_text c ≢ key

abbrev pub IsNoValue : List ℕ → List ℕ → Type 0
IsNoValue key value = (c : Condition) → IsCondition c → key_text c ≡ key → value_text c ≢ value

-- the key is one of path and path_namespace, and the other stands among the keys
abbrev pub IsRival : List (List ℕ) → List ℕ → Type 0
IsRival keys key = ((key ≡ codes "path") × Contains keys (codes "path_namespace"))
    ⊎ ((key ≡ codes "path_namespace") × Contains keys (codes "path"))

-- what is wrong where an item should begin, behind items with these keys: a place and a reason
pub data WrongItem (keys : List (List ℕ)) (bytes : List ℕ) : ℕ → ℕ → Type 0 where
  -- 1: no `=` before the comma or the end
  no_equals : (blanks word behind : List ℕ) → bytes ≢ [] → Are is_blank blanks → IsWord word → EndsItem behind
      → bytes ≡ blanks ++ (word ++ behind)
      → WrongItem keys bytes (length blanks) 1
  -- 2: the key is none of a match rule
  unknown_key : (blanks key behind : List ℕ) → KeyAt bytes blanks key behind → IsUnknown key
      → WrongItem keys bytes (length blanks) 2
  -- 3: the key stands before
  twice : (blanks key behind : List ℕ) → KeyAt bytes blanks key behind → Contains keys key
      → WrongItem keys bytes (length blanks) 3
  -- 4: an apostrophe opens a quoted part that is not closed
  not_closed : (blanks key behind : List ℕ) (parts : List Part) → KeyAt bytes blanks key (spelling parts ++ 39 ∷ behind)
      → AreParts parts (39 ∷ []) → Are is_quotable behind
      → WrongItem keys bytes (length blanks + length key + 1 + length (spelling parts)) 4
  -- 5: the value of `type` is none; 6: the value of another key is none
  bad_type : (item : Item) (behind : List ℕ) → ItemAt bytes item behind → item.key ≡ codes "type"
      → IsNoValue item.key (item_value item)
      → WrongItem keys bytes (value_place item) 5
  bad_value : (item : Item) (behind : List ℕ) → ItemAt bytes item behind → item.key ≢ codes "type"
      → IsNoValue item.key (item_value item)
      → WrongItem keys bytes (value_place item) 6
  -- 7: both path and path_namespace
  both_paths : (blanks key behind : List ℕ) → KeyAt bytes blanks key behind → IsRival keys key
      → WrongItem keys bytes (length blanks) 7

-- what is wrong with the bytes; 8 is that there are more than 1,024
pub data WrongRule (bytes : List ℕ) : ℕ → ℕ → Type 0 where
  in_item : (items : List Item) (rest : List ℕ) (place reason : ℕ) → AllByRecursion IsItem items
      → bytes ≡ with_commas items ++ rest
      → WrongItem (map (λ item. item.key) items) rest place reason
      → WrongRule bytes (length (with_commas items) + place) reason
  too_long : 1024 < length bytes → WrongRule bytes 1024 8

-- the least of what is wrong
pub record FirstRuleFault (bytes : List ℕ) (place reason : ℕ) : Type 0 where
  pub there : WrongRule bytes place reason
  pub first : (q s : ℕ) → WrongRule bytes q s → Before place reason q s
