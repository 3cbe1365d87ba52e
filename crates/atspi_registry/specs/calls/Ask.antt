-- What is asked of the registry, as parts of the message's bytes, and what it does then.
use Rattle.std.specs.Prelude.{◌<◌, ◌^◌, length, ℕ, List, ◌∷◌, chars, codes, Result, Ok, Err, []}
use Rattle.atspi_base.specs.Text.{HasNoZero}
use Rattle.atspi_base.specs.valid_names.Names.{IsPath}
use Rattle.atspi_types.specs.Kinds.{u32, text, variant}
use Rattle.atspi_types.specs.Data.{number_data, text_data, dictionary_data, no_entries}
use Rattle.atspi_protocol.specs.ends.Places.{references}
use Rattle.atspi_protocol.specs.ends.Messages.{returns, fails, error_word}
use Rattle.atspi_protocol.specs.declared.ends.error.CallError.{CallError}
use Rattle.atspi_protocol.specs.declared.members.property.ObjectProperty.TheVariants as properties
use Rattle.atspi_protocol.specs.registering.RegistryState.{RegistryState}
use Rattle.atspi_protocol.specs.registering.Answers.{Answer, only, registers, deregisters, pairs_data, if_own, adopts}
use Rattle.atspi_protocol.specs.registering.Answers.{releases, child_at, property_data, as_variant, all_properties}
use Rattle.atspi_registry.specs.declared.calls.ask.Ask.{Ask}
use Rattle.atspi_registry.specs.declared.calls.ask.Ask.TheVariants.{Register, Deregister, Registered, Embed, Unembed}
use Rattle.atspi_registry.specs.declared.calls.ask.Ask.TheVariants.{Children, ChildAt, Role, RoleName, Name, ChildCount}
use Rattle.atspi_registry.specs.declared.calls.ask.Ask.TheVariants.{AllProperties, NoProperties, Ping}
use Rattle.atspi_protocol.specs.members.Objects.{registry_root}

-- what the registry does then
abbrev pub answers_ask : Ask → RegistryState → List ℕ → List ℕ → Answer
answers_ask (Register pattern) s own caller = registers s caller (chars pattern.now)
answers_ask (Deregister pattern) s own caller = deregisters s caller (chars pattern.now)
answers_ask Registered s own caller = only s (returns (pairs_data s.pairs ∷ []))
answers_ask (Embed name path) s own caller = if_own s caller (chars name.now, path.now) (adopts s (caller, path.now))
answers_ask (Unembed name path) s own caller = if_own s caller (chars name.now, path.now) (releases s caller)
answers_ask Children s own caller = only s (returns (references s.children ∷ []))
answers_ask (ChildAt index) s own caller = only s (returns (child_at s.children own index ∷ []))
answers_ask Role s own caller = only s (returns (number_data u32 14 ∷ []))
answers_ask RoleName s own caller = only s (returns (text_data (codes "desktop frame") ∷ []))
answers_ask Name s own caller = only s (returns (as_variant (property_data s properties.Name) ∷ []))
answers_ask ChildCount s own caller = only s (returns (as_variant (property_data s properties.ChildCount) ∷ []))
answers_ask AllProperties s own caller = only s (returns (all_properties s registry_root.properties ∷ []))
answers_ask NoProperties s own caller = only s (returns (dictionary_data text variant no_entries ∷ []))
answers_ask Ping s own caller = only s (returns [])

-- or the error that the caller gets
abbrev pub ask_answer : Result Ask CallError → RegistryState → List ℕ → List ℕ → Answer
ask_answer (Ok ask) s own caller = answers_ask ask s own caller
ask_answer (Err error) s own caller = only s (fails (error_word error))

-- what is lent from the message's bytes: a text of the wire, a path
abbrev pub IsLent : Ask → Type 0
IsLent (Register pattern) = HasNoZero pattern.now × (length pattern.now < 2 ^ 32)
IsLent (Deregister pattern) = HasNoZero pattern.now × (length pattern.now < 2 ^ 32)
IsLent (Embed name path) = IsPath path.now
IsLent _ = Unit {0}
