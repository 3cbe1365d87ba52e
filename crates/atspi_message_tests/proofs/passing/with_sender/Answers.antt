use Rattle.std.proofs.Common.{refl, sym, subst}
use Rattle.atspi_base.specs.valid_names.Names.{IsBusName}
use Rattle.atspi_base.proofs.OfValidNames.NameLemmas.{is_bus_name-from_IsBusName}
use Rattle.atspi_message_in_place.proofs.Names.{each_named}
use Rattle.atspi_message_tests.proofs.passing.with_sender.Goals as goal

pub invariant_of-result : goal.invariant_of-result
invariant_of-result c =
    let m = c.args.m.now in
    let n = each_named m.path m.interface m.member m.error m.destination m.sender m.named in
    let name = is_bus_name-from_IsBusName c.as_str.result.now (subst IsBusName (sym c.as_str.ensures.bytes) c.as_str.ensures.rule) in
    record { named = rw (n.path, n.interface, n.member, n.error, n.destination, name) refl; lies = m.lies }

pub returns : goal.returns
returns c =
    let h = c.requires in
    record {
      typed = h.typed;
      required = record { call = h.required.call; return_ = h.required.return_; error = h.required.error; signal = h.required.signal };
      numbered = h.numbered;
      replies = h.replies;
      body = h.body;
    }
