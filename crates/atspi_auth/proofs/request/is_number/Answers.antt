use Rattle.std.proofs.Common.{◌∙◌, ap, is_ok}
use Rattle.atspi_auth.specs.Requests.{is_number}
use Rattle.atspi_auth.proofs.GrantLemmas.{thirty_two_digits}
use Rattle.atspi_auth.proofs.request.is_number.Goals as goal

pub returns : goal.returns
unfolding is_number
returns c = c.is_ok.ensures.value ∙ ap is_ok c.from_hex.ensures ∙ thirty_two_digits c.args.text.now
