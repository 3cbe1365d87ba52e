use Rattle.std.proofs.Common.{◌≡◌, ◌++◌, ℕ, List, Err, ap, ◌∙◌}
use Rattle.std.specs.Prelude.{IsErrOf}
use Rattle.atspi_marshal.specs.declared.writing.fault.WriteFault.{WriteFault}
use Rattle.atspi_marshal.specs.declared.writing.fault.WriteFault.TheVariants as faults
use Rattle.atspi_message_in_place.specs.View.{envelope_at}
use Rattle.atspi_message.specs.Bytes.{written}
use Rattle.atspi_message_forwarding.proofs.Passing.{is_message, is_short, unfit_is_long}
use Rattle.atspi_message_forwarding.proofs.writing.write_from.Goals as goal

pub returns-in-Ok-clause-message : goal.returns-in-Ok-clause-message
returns-in-Ok-clause-message c =
    let e = envelope_at c.args.m.now in
    let is : c.put_message.new.out ≡ written e = c.in-Ok.ensures.ok ∙ ap (λ (bs : List ℕ). bs ++ written e) c.in_ok-out.ensures in
    is_message c.args.m.now c.put_message.new.out c.requires c.in-Ok.ensures.fits is

pub returns-in-Ok-clause-short : goal.returns-in-Ok-clause-short
returns-in-Ok-clause-short c =
    let e = envelope_at c.args.m.now in
    let is : c.put_message.new.out ≡ written e = c.in-Ok.ensures.ok ∙ ap (λ (bs : List ℕ). bs ++ written e) c.in_ok-out.ensures in
    is_short e c.put_message.new.out c.in-Ok.ensures.fits is

-- the same fault, of a result of another type
by : {T U : Type 0} (f : WriteFault) → IsErrOf {T = T} (Err f) faults.Big → IsErrOf {T = U} (Err f) faults.Big
by f is = let same : f ≡ faults.Big = cc in cc

pub returns-in-Err-clause-long : goal.returns-in-Err-clause-long
returns-in-Err-clause-long c = λ is. unfit_is_long c.args.m.now c.requires c.in-Err.ensures.widths c.replies_to_serial.ensures (c.in-Err.ensures.big (by c.in-Err.fault is))
