-- Names of the bus as texts, and that those that a bus knows keep their rules.
use Rattle.std.proofs.Common.{◌≡◌, ℕ, Bool, true, false, ◌≤◌, List, [], ◌++◌, length, Option, None, Some, refl, sym, ap, subst, ◌∙◌, encode_utf8_all, arith}
use Rattle.std.specs.Prelude.{IfSome, not, codes}
use Rattle.std.specs.List.{AllByRecursion}
use Rattle.std.specs.Str.{all_scalars}
use Rattle.std.specs.Cmp.{nat_cmp_total}
use Rattle.std.specs.Cmp.Lexicographic.{nat_list_cmp_total}
use Rattle.std.specs.FinMap as finmap
use Rattle.atspi_base.specs.Text.{HasNoZero}
use Rattle.atspi_base.specs.valid_names.Elements.{parts_of, are_elements, are_two_or_more}
use Rattle.atspi_base.specs.valid_names.Names.{IsPath, IsInterface, IsMember, IsBusName, is_path, is_interface, is_member, is_bus_name, is_unique_name}
use Rattle.atspi_base.proofs.OfValidNames.NameLemmas.{IsPath-from_test, IsInterface-from_test, IsMember-from_test, IsBusName-from_test}
use Rattle.atspi_message.specs.declared.code.Code.TheVariants as code
use Rattle.atspi_names.specs.Owners.{Owners, Lists, own_name, list_of, unique_name, owned_by, well_known, listed, HasNoEmptyList}
use Rattle.atspi_names.specs.Queue.{owns}
use Rattle.atspi_names.proofs.BookLemmas.{kept, get-kept}
use Rattle.atspi_names.proofs.UniqueLemmas.{is_bus_name-unique_name, is_bus_name-own_name}
use Rattle.atspi_bus_laws.specs.owners.Orderly.{IsOrderly}
use Rattle.atspi_match.specs.routing.BusState.{unique_of, text_or_empty, name_or_empty}
use Rattle.atspi_match.specs.routing.OwnMessages.{own_path, error_prefix}
use Rattle.atspi_bus_laws.proofs.OfHanded.Lists.{all_append, all_filter, all_map, all_weaker, all_entries}
use Rattle.atspi_message.proofs.Names.{name_spells}
use Rattle.atspi_message.proofs.Short.{name_sits}

-- a text that can be written, and is short
abbrev pub IsPlain : List ℕ → Type 0
IsPlain cs = ((all_scalars cs ≡ true) × HasNoZero (encode_utf8_all cs)) × (length (encode_utf8_all cs) ≤ 255)

pub plain_none : IsPlain []
plain_none = ((refl, refl), omega arith)

pub plain_name : (name : List ℕ) → IsBusName name → IsPlain name
plain_name name h = (name_sits code.Sender name h, omega (arith, ap length (name_spells code.Sender name h), h.short))

-- the bus's own words
path_test : is_path own_path ≡ true
unfolding is_path are_elements parts_of
path_test = refl

pub path_is : IsPath own_path
path_is = IsPath-from_test own_path path_test

interface_test : is_interface own_name ≡ true
unfolding is_interface are_two_or_more are_elements parts_of
interface_test = refl

pub interface_is : IsInterface own_name
interface_is = IsInterface-from_test own_name interface_test

pub bus_is : IsBusName own_name
bus_is = IsBusName-from_test own_name is_bus_name-own_name

lost_test : is_member (codes "NameLost") ≡ true
unfolding is_member
lost_test = refl

pub lost_is : IsMember (codes "NameLost")
lost_is = IsMember-from_test (codes "NameLost") lost_test

acquired_test : is_member (codes "NameAcquired") ≡ true
unfolding is_member
acquired_test = refl

pub acquired_is : IsMember (codes "NameAcquired")
acquired_is = IsMember-from_test (codes "NameAcquired") acquired_test

changed_test : is_member (codes "NameOwnerChanged") ≡ true
unfolding is_member
changed_test = refl

pub changed_is : IsMember (codes "NameOwnerChanged")
changed_is = IsMember-from_test (codes "NameOwnerChanged") changed_test

-- the names of errors
pub record IsError (name : List ℕ) : Type 0 where
  pub interface : is_interface (error_prefix ++ name) ≡ true
  pub plain : IsPlain name

pub error_named : (name : List ℕ) → IsError name → IsInterface (error_prefix ++ name)
error_named name h = IsInterface-from_test (error_prefix ++ name) h.interface

pub failed_is : IsError (codes "Failed")
unfolding is_interface are_two_or_more are_elements parts_of lib.Utf8.encode
failed_is = record { interface = refl; plain = ((refl, refl), omega arith) }

pub args_is : IsError (codes "InvalidArgs")
unfolding is_interface are_two_or_more are_elements parts_of lib.Utf8.encode
args_is = record { interface = refl; plain = ((refl, refl), omega arith) }

pub limits_is : IsError (codes "LimitsExceeded")
unfolding is_interface are_two_or_more are_elements parts_of lib.Utf8.encode
limits_is = record { interface = refl; plain = ((refl, refl), omega arith) }

pub rule_is : IsError (codes "MatchRuleInvalid")
unfolding is_interface are_two_or_more are_elements parts_of lib.Utf8.encode
rule_is = record { interface = refl; plain = ((refl, refl), omega arith) }

pub rule_lost_is : IsError (codes "MatchRuleNotFound")
unfolding is_interface are_two_or_more are_elements parts_of lib.Utf8.encode
rule_lost_is = record { interface = refl; plain = ((refl, refl), omega arith) }

pub owner_lost_is : IsError (codes "NameHasNoOwner")
unfolding is_interface are_two_or_more are_elements parts_of lib.Utf8.encode
owner_lost_is = record { interface = refl; plain = ((refl, refl), omega arith) }

pub no_reply_is : IsError (codes "NoReply")
unfolding is_interface are_two_or_more are_elements parts_of lib.Utf8.encode
no_reply_is = record { interface = refl; plain = ((refl, refl), omega arith) }

pub service_is : IsError (codes "ServiceUnknown")
unfolding is_interface are_two_or_more are_elements parts_of lib.Utf8.encode
service_is = record { interface = refl; plain = ((refl, refl), omega arith) }

pub unknown_interface_is : IsError (codes "UnknownInterface")
unfolding is_interface are_two_or_more are_elements parts_of lib.Utf8.encode
unknown_interface_is = record { interface = refl; plain = ((refl, refl), omega arith) }

pub unknown_method_is : IsError (codes "UnknownMethod")
unfolding is_interface are_two_or_more are_elements parts_of lib.Utf8.encode
unknown_method_is = record { interface = refl; plain = ((refl, refl), omega arith) }

-- unique names
given_name : (o : Owners) → IsOrderly o → (conn : ℕ) (name : List ℕ) → unique_of o conn ≡ Some name → IsBusName name
given_name o orderly conn name h =
    let was = orderly.given_before conn name h in
    subst IsBusName (sym was.2) (IsBusName-from_test (unique_name was.0) (is_bus_name-unique_name was.0 (omega (arith, was.1, orderly.few))))

pub unique_is : (o : Owners) → IsOrderly o → (conn : ℕ) → IfSome (unique_of o conn) IsBusName
unique_is o orderly conn = by (unique_of o conn) refl
  where
    by : (u : Option (List ℕ)) → unique_of o conn ≡ u → IfSome u IsBusName
    by None h = tt
    by (Some name) h = given_name o orderly conn name h

plain_or_empty : (u : Option (List ℕ)) → IfSome u IsBusName → IsPlain (text_or_empty u)
plain_or_empty None h = plain_none
plain_or_empty (Some name) h = plain_name name h

pub plain_unique : (o : Owners) → IsOrderly o → (conn : ℕ) → IsPlain (text_or_empty (unique_of o conn))
plain_unique o orderly conn = plain_or_empty (unique_of o conn) (unique_is o orderly conn)

pub plain_owner : (o : Owners) → IsOrderly o → (c : Option ℕ) → IsPlain (name_or_empty o c)
plain_owner o orderly None = plain_none
plain_owner o orderly (Some conn) = plain_unique o orderly conn

-- names that have owners
abbrev pub OnlyNames : Lists → Type 0
OnlyNames lists = (name : List ℕ) → is_bus_name name ≡ false → list_of lists name ≡ []

none_some : {A : Type 0} (x : A) → None ≡ Some x → ⊥
none_some x h = cc

pub key_is : (lists : Lists) → OnlyNames lists → HasNoEmptyList lists → (name : List ℕ) (list : List (ℕ × ℕ)) → finmap.get lists name ≡ Some list → IsBusName name
key_is lists named full name list h = by (is_bus_name name) refl
  where
    by : (b : Bool) → is_bus_name name ≡ b → IsBusName name
    by true e = IsBusName-from_test name e
    by false e = absurd (none_some list (sym (get-kept lists full name ∙ ap kept (named name e)) ∙ h))

keys_are : (lists : Lists) → OnlyNames lists → HasNoEmptyList lists → AllByRecursion IsBusName (well_known lists)
keys_are lists named full =
    all_filter IsBusName (λ name. not (is_unique_name name)) (finmap.keys lists)
    (all_map (λ (e : List ℕ × List (ℕ × ℕ)). finmap.get lists e.0 ≡ Some e.1) IsBusName (λ (e : List ℕ × List (ℕ × ℕ)). e.0) (λ e h. key_is lists named full e.0 e.1 h) (finmap.entries lists) (all_entries nat_list_cmp_total lists))

pub owned_are : (lists : Lists) → OnlyNames lists → HasNoEmptyList lists → (conn : ℕ) → AllByRecursion IsBusName (owned_by lists conn)
owned_are lists named full conn = all_filter IsBusName (λ name. owns conn (list_of lists name)) (well_known lists) (keys_are lists named full)

pub listed_are : (o : Owners) → IsOrderly o → OnlyNames o.lists → HasNoEmptyList o.lists → AllByRecursion IsPlain (listed o)
listed_are o orderly named full = (
  plain_name own_name bus_is,
  all_append IsPlain (finmap.values o.unique) (well_known o.lists)
      (all_map (λ (e : ℕ × List ℕ). finmap.get o.unique e.0 ≡ Some e.1) IsPlain (λ (e : ℕ × List ℕ). e.1) (λ e h. plain_name e.1 (given_name o orderly e.0 e.1 h)) (finmap.entries o.unique) (all_entries nat_cmp_total o.unique))
      (all_weaker IsBusName IsPlain plain_name (well_known o.lists) (keys_are o.lists named full)),
)
