use Rattle.std.proofs.Common.{sym, ap, ◌∙◌}
use Rattle.std.specs.Option.{option_map}
use Rattle.std.proofs.lemmas.Result.{IfOk-weaker}
use Rattle.atspi_message_in_place.specs.View.{envelope_at}
use Rattle.atspi_reader_news.specs.Seen.{reference_seen}
use Rattle.atspi_protocol.specs.following.Known.{made_known}
use Rattle.atspi_reader.specs.ReaderOf.{reader_of}
use Rattle.atspi_reader.proofs.Rest.{child_some, child_none}
use Rattle.atspi_reader.proofs.state.Reader.child.Goals as goal

pub returns-in_ok-owned-in-Some-clause-made : goal.returns-in_ok-owned-in-Some-clause-made
returns-in_ok-owned-in-Some-clause-made c =
    let s = reader_of c.args.self.now in
    let told = c.new_child.ensures s (sym c.registry_name.ensures) in
    IfOk-weaker c.new_app.result _ _
    (λ app made. made ∙ ap (made_known s.apps) c.in_ok-owned-in-Some.ensures ∙ child_some s (envelope_at c.args.m.now) (reference_seen c.in-Some.child) (sym (ap (option_map reference_seen) c.in-Some.is) ∙ told))
    c.new_app.ensures.made

pub returns-in-None-clause-made : goal.returns-in-None-clause-made
returns-in-None-clause-made c =
    let s = reader_of c.args.self.now in
    child_none s (envelope_at c.args.m.now) (sym (ap (option_map reference_seen) c.in-None.is) ∙ c.new_child.ensures s (sym c.registry_name.ensures))
