use Rattle.std.proofs.Common.{◌≡◌, Err, sym, ap}
use Rattle.atspi_match.specs.inner.Items.{still_open, no_value}
use Rattle.atspi_match.proofs.item.read_value_of.Goals as goal

pub returns-in-Err-NotClosed-clause-bad : goal.returns-in-Err-NotClosed-clause-bad
returns-in-Err-NotClosed-clause-bad c =
    rw c.in-Err-NotClosed.place-is (still_open c.in-Err-NotClosed.place (rw c.in-Err-NotClosed.field-0-is at c.in-Err-NotClosed.ensures.open))

pub returns-in-Err-Form-clause-bad : goal.returns-in-Err-Form-clause-bad
returns-in-Err-Form-clause-bad c =
    rw c.value_reason.ensures (no_value (record {
      value = c.deref.result.now;
      len = c.in-Ok.spelled.len;
      spelled = rw c.deref.ensures.value c.in-Ok.ensures.ok;
      none = c.in-Err-Form.ensures.form (ap Err c.in-Err-Form.field-0-is);
    }))
