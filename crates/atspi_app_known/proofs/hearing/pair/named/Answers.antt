use Rattle.std.proofs.Common.{◌≡◌, true, false, sym, ap, ◌∙◌, chars}
use Rattle.std.specs.Prelude.{encode_utf8_all}
use Rattle.std.proofs.lemmas.Slice.Eq.{bytes_eq-Decides}
use Rattle.std.proofs.lemmas.Str.{encodes-chars}
use Rattle.atspi_base.specs.valid_names.Names.{is_bus_name}
use Rattle.atspi_app_known.proofs.OfHearing.Names.{pair_named, pair_unnamed}
use Rattle.atspi_app_known.proofs.hearing.pair.named.Goals as goal

pub invariant_of-result : goal.invariant_of-result
invariant_of-result c =
    let p = c.args.pattern.now in
    record {
      rule = ap is_bus_name (sym c.as_bytes.ensures.value) ∙ sym c.is_bus_name.ensures.tested ∙ c.if-is_bus_name.true;
      no_zero = c.requires.no_zero;
      counted = c.requires.counted;
      spelled = (bytes_eq-Decides (encode_utf8_all (chars p)) p).1 (encodes-chars p c.utf8.pattern);
    }

pub returns-then-is_bus_name : goal.returns-then-is_bus_name
returns-then-is_bus_name c =
    let rule : is_bus_name c.args.name.now ≡ true = ap is_bus_name (sym c.as_bytes.ensures.value) ∙ sym c.is_bus_name.ensures.tested ∙ c.if-is_bus_name.true in
    pair_named c.args.name.now (chars c.args.pattern.now) c.utf8.name rule

pub returns : goal.returns
returns c =
    let rule : is_bus_name c.args.name.now ≡ false = ap is_bus_name (sym c.as_bytes.ensures.value) ∙ sym c.is_bus_name.ensures.tested ∙ c.if-is_bus_name.false in
    pair_unnamed c.args.name.now (chars c.args.pattern.now) c.utf8.name rule
