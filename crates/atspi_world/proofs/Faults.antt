-- Which fault of a part a fault of the whole was.
use Rattle.std.proofs.Common.{◌≡◌, refl}
use Rattle.atspi_world_moves.specs.declared.fault.CarryFault.{CarryFault}
use Rattle.atspi_world_moves.specs.declared.fault.CarryFault.TheVariants as carry
use Rattle.atspi_world_moves.specs.Faults.{of_end, of_send}
use Rattle.atspi_world_links.specs.declared.fault.SendFault.{SendFault}
use Rattle.atspi_world_links.specs.declared.fault.SendFault.TheVariants as send
use Rattle.atspi_protocol.specs.declared.ends.fault.EndFault.{EndFault}
use Rattle.atspi_protocol.specs.declared.ends.fault.EndFault.TheVariants as ends
use Rattle.atspi_app_known.specs.declared.application.fault.AppFault.{AppFault}
use Rattle.atspi_app_known.specs.declared.application.fault.AppFault.TheVariants as app
use Rattle.atspi_reader_calls.specs.declared.fault.CallFault.{CallFault}
use Rattle.atspi_reader_calls.specs.declared.fault.CallFault.TheVariants as call
use Rattle.atspi_world.specs.declared.fault.ActFault.TheVariants.{Spent, RegistryLost}
use Rattle.atspi_world.specs.Faults.{of_carry, of_sent, of_app, of_call}

pub end_was_spent : (f : EndFault) → of_end f ≡ carry.Spent → f ≡ ends.Spent
end_was_spent ends.Spent h = refl
end_was_spent f h = absurd cc

pub end_is_calm : (f : EndFault) → of_end f ≡ carry.RegistryLost → ⊥
end_is_calm ends.Spent h = cc
end_is_calm ends.NoMemory h = cc

pub send_is_calm : (f : SendFault) → (of_send f ≡ carry.Spent → ⊥) × (of_send f ≡ carry.RegistryLost → ⊥)
send_is_calm send.Unsendable = (λ h. cc, λ h. cc)
send_is_calm send.NoMemory = (λ h. cc, λ h. cc)

pub sent_is_calm : (f : SendFault) → (of_sent f ≡ Spent → ⊥) × (of_sent f ≡ RegistryLost → ⊥)
sent_is_calm send.Unsendable = (λ h. cc, λ h. cc)
sent_is_calm send.NoMemory = (λ h. cc, λ h. cc)

pub was_lost : (f : CarryFault) → of_carry f ≡ RegistryLost → f ≡ carry.RegistryLost
was_lost carry.RegistryLost h = refl
was_lost f h = absurd cc

pub was_spent : (f : CarryFault) → of_carry f ≡ Spent → f ≡ carry.Spent
was_spent carry.Spent h = refl
was_spent f h = absurd cc

pub edit_was_spent : (f : AppFault) → of_app f ≡ Spent → f ≡ app.Spent
edit_was_spent app.Spent h = refl
edit_was_spent f h = absurd cc

pub edit_is_calm : (f : AppFault) → of_app f ≡ RegistryLost → ⊥
edit_is_calm (app.Refused why) h = cc
edit_is_calm app.Spent h = cc
edit_is_calm app.NoMemory h = cc

pub call_was_spent : (f : CallFault) → of_call f ≡ Spent → f ≡ call.Spent
call_was_spent call.Spent h = refl
call_was_spent f h = absurd cc

pub call_is_calm : (f : CallFault) → of_call f ≡ RegistryLost → ⊥
call_is_calm call.NotHeld h = cc
call_is_calm call.Spent h = cc
call_is_calm call.NoMemory h = cc
