-- The names of errors are of the rule, and their last words are their own characters.
use Rattle.std.proofs.Common.{◌≡◌, ℕ, List, ◌++◌, true, refl}
use Rattle.std.specs.Prelude.{codes}
use Rattle.std.specs.Str.{chars}
use Rattle.atspi_base.specs.valid_names.Names.{is_interface}
use Rattle.atspi_base.specs.valid_names.Elements.{are_two_or_more, are_elements, parts_of}
use Rattle.atspi_protocol.specs.declared.ends.error.CallError.{CallError}
use Rattle.atspi_protocol.specs.declared.ends.error.CallError.TheVariants.{UnknownObject, UnknownInterface, UnknownMethod, InvalidArgs, UnknownProperty, PropertyReadOnly}
use Rattle.atspi_protocol.specs.ends.Messages.{error_word}

pub is_name : (e : CallError) → is_interface (codes "org.freedesktop.DBus.Error." ++ error_word e) ≡ true
unfolding is_interface are_two_or_more are_elements parts_of
is_name UnknownObject = refl
is_name UnknownInterface = refl
is_name UnknownMethod = refl
is_name InvalidArgs = refl
is_name UnknownProperty = refl
is_name PropertyReadOnly = refl

pub chars_word : (e : CallError) → chars (error_word e) ≡ error_word e
unfolding chars
chars_word UnknownObject = refl
chars_word UnknownInterface = refl
chars_word UnknownMethod = refl
chars_word InvalidArgs = refl
chars_word UnknownProperty = refl
chars_word PropertyReadOnly = refl
