-- The names that are written in the code, and the texts of errors.
use Rattle.std.proofs.Common.{◌≡◌, ℕ, zero, suc, ◌<◌, ◌^◌, true, List, [], ◌∷◌, ◌++◌, length, refl, arith, chars}
use Rattle.std.specs.Prelude.{codes, nat_lt, encode_utf8_all}
use Rattle.std.specs.List.{list_all}
use Rattle.std.specs.Str.{IsAscii}
use Rattle.std.proofs.lemmas.Bool.{and_parts}
use Rattle.std.proofs.lemmas.Str.{chars-IsAscii, encodes-IsAscii}
use borrow.Author.Tests.{ltb-true}
use Rattle.atspi_match.specs.routing.Answers.{bus_id}
use Rattle.atspi_base.specs.Text.{HasNoZero}
use Rattle.atspi_base.specs.valid_names.Elements.{parts_of, are_elements, are_two_or_more}
use Rattle.atspi_base.specs.valid_names.Names.{is_path, is_interface, is_member, is_bus_name}
use Rattle.atspi_names.specs.Owners.{own_name}
use Rattle.atspi_match.specs.routing.OwnMessages.{own_path, error_prefix}
use Rattle.atspi_bus_answers.specs.declared.error.BusError.{BusError}
use Rattle.atspi_bus_answers.specs.declared.error.BusError.TheVariants.{Failed, InvalidArgs, LimitsExceeded, MatchRuleInvalid, MatchRuleNotFound, NameHasNoOwner, NoReply, ServiceUnknown, UnknownInterface, UnknownMethod}
use Rattle.atspi_bus_answers.specs.Errors.{error_text}

pub own_path_is : is_path own_path ≡ true
unfolding is_path are_elements parts_of
own_path_is = refl

pub own_interface_is : is_interface own_name ≡ true
unfolding is_interface are_two_or_more are_elements parts_of
own_interface_is = refl

pub own_name_is : is_bus_name own_name ≡ true
unfolding is_bus_name are_two_or_more are_elements parts_of
own_name_is = refl

pub lost_is : is_member (codes "NameLost") ≡ true
unfolding is_member
lost_is = refl

pub acquired_is : is_member (codes "NameAcquired") ≡ true
unfolding is_member
acquired_is = refl

pub changed_is : is_member (codes "NameOwnerChanged") ≡ true
unfolding is_member
changed_is = refl

pub error_is : (e : BusError) → is_interface (error_prefix ++ error_text e) ≡ true
unfolding is_interface are_two_or_more are_elements parts_of
error_is Failed = refl
error_is InvalidArgs = refl
error_is LimitsExceeded = refl
error_is MatchRuleInvalid = refl
error_is MatchRuleNotFound = refl
error_is NameHasNoOwner = refl
error_is NoReply = refl
error_is ServiceUnknown = refl
error_is UnknownInterface = refl
error_is UnknownMethod = refl

pub error-no_zero : (e : BusError) → HasNoZero (error_text e)
error-no_zero Failed = refl
error-no_zero InvalidArgs = refl
error-no_zero LimitsExceeded = refl
error-no_zero MatchRuleInvalid = refl
error-no_zero MatchRuleNotFound = refl
error-no_zero NameHasNoOwner = refl
error-no_zero NoReply = refl
error-no_zero ServiceUnknown = refl
error-no_zero UnknownInterface = refl
error-no_zero UnknownMethod = refl

pub error-counted : (e : BusError) → length (error_text e) < 2 ^ 32
error-counted Failed = omega arith
error-counted InvalidArgs = omega arith
error-counted LimitsExceeded = omega arith
error-counted MatchRuleInvalid = omega arith
error-counted MatchRuleNotFound = omega arith
error-counted NameHasNoOwner = omega arith
error-counted NoReply = omega arith
error-counted ServiceUnknown = omega arith
error-counted UnknownInterface = omega arith
error-counted UnknownMethod = omega arith

-- texts of small bytes are their own characters
all_ascii : (bs : List ℕ) → list_all (λ b. nat_lt b 128) bs ≡ true → IsAscii bs
all_ascii [] h i = omega arith
all_ascii (b ∷ bs) h zero = ltb-true b 128 (and_parts (nat_lt b 128) (list_all (λ b. nat_lt b 128) bs) h).0
all_ascii (b ∷ bs) h (suc i) = all_ascii bs (and_parts (nat_lt b 128) (list_all (λ b. nat_lt b 128) bs) h).1 i

pub small-chars : (bs : List ℕ) → list_all (λ b. nat_lt b 128) bs ≡ true → chars bs ≡ bs
small-chars bs h = chars-IsAscii bs (all_ascii bs h)

pub nil-chars : chars [] ≡ []
nil-chars = small-chars [] refl

pub id-chars : chars bus_id ≡ bus_id
id-chars = small-chars bus_id refl

pub own-encodes : encode_utf8_all own_name ≡ own_name
own-encodes = encodes-IsAscii own_name (all_ascii own_name refl)

pub own-chars : chars own_name ≡ own_name
own-chars = small-chars own_name refl

pub error-chars : (e : BusError) → chars (error_text e) ≡ error_text e
error-chars Failed = small-chars (error_text Failed) refl
error-chars InvalidArgs = small-chars (error_text InvalidArgs) refl
error-chars LimitsExceeded = small-chars (error_text LimitsExceeded) refl
error-chars MatchRuleInvalid = small-chars (error_text MatchRuleInvalid) refl
error-chars MatchRuleNotFound = small-chars (error_text MatchRuleNotFound) refl
error-chars NameHasNoOwner = small-chars (error_text NameHasNoOwner) refl
error-chars NoReply = small-chars (error_text NoReply) refl
error-chars ServiceUnknown = small-chars (error_text ServiceUnknown) refl
error-chars UnknownInterface = small-chars (error_text UnknownInterface) refl
error-chars UnknownMethod = small-chars (error_text UnknownMethod) refl
