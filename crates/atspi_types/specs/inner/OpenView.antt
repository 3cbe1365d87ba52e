-- How contracts see a token and a parser's state.
use Rattle.std.specs.Prelude.{[], ◌∷◌}
use Rattle.atspi_types.specs.KindView.{kind_of, kinds_in}
use Rattle.atspi_types.specs.SignatureFaults as faults
use Rattle.atspi_types.specs.declared.token.Token.{Token}
use Rattle.atspi_types.specs.declared.token.Token.TheVariants as tokens
use Rattle.atspi_types.specs.declared.parser.Open.{Open, fold-Open}
use Rattle.atspi_types.specs.declared.parser.Open.TheOpen.{Open-F}

abbrev pub token_view : Token → faults.Token
token_view (tokens.Code ty) = faults.code (kind_of ty)
token_view tokens.Array = faults.array_code
token_view tokens.StructOpen = faults.struct_open
token_view tokens.StructClose = faults.struct_close
token_view tokens.EntryOpen = faults.entry_open
token_view tokens.EntryClose = faults.entry_close
token_view tokens.Descriptor = faults.descriptor
token_view tokens.NoCode = faults.no_code

-- one level of what stands open
abbrev pub open_step : Open-F faults.Context → faults.Context
open_step (Open-F.Top types) = faults.at_top (kinds_in types)
open_step (Open-F.Array outer) = faults.in_array outer.value
open_step (Open-F.Struct outer fields) = faults.in_struct outer.value (kinds_in fields)
open_step (Open-F.Entry outer) = faults.in_entry outer.value []
open_step (Open-F.Key outer key) = faults.in_entry outer.value (kind_of key ∷ [])
open_step (Open-F.Both outer key value) = faults.in_entry outer.value (kind_of key ∷ kind_of value ∷ [])

abbrev pub context_of : Open → faults.Context
context_of = fold-Open faults.Context open_step
