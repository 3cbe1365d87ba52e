use Rattle.std.proofs.Common.{sym, ap, ◌∙◌, chars}
use Rattle.std.specs.Prelude.{encode_utf8_all}
use Rattle.std.proofs.lemmas.Slice.Eq.{bytes_eq-Decides}
use Rattle.std.proofs.lemmas.Str.{encodes-chars}
use Rattle.atspi_base.specs.valid_names.Names.{is_bus_name}
use Rattle.atspi_base.proofs.OfValidNames.NameLemmas.{is_bus_name-from_IsBusName}
use Rattle.atspi_app_known.proofs.heard.exchange.lent.Goals as goal

pub invariant_of-result : goal.invariant_of-result
invariant_of-result c =
    let s = c.as_str-2.result.now in
    record {
      rule = ap is_bus_name c.as_str.ensures.bytes ∙ is_bus_name-from_IsBusName c.args.pair.now.0 c.as_str.ensures.rule;
      no_zero = c.as_str-2.ensures.no_zero;
      counted = c.as_str-2.ensures.counted;
      spelled = (bytes_eq-Decides (encode_utf8_all (chars s)) s).1 (encodes-chars s c.as_str-2.utf8);
    }
