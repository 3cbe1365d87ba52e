use Rattle.std.proofs.Common.{rules, ℕ, not, ◌||◌, map, ap, ◌∙◌}
use Rattle.std.specs.Prelude.{◌==◌}
use Rattle.std.proofs.lemmas.Fn.{filter_same}
use Rattle.atspi_bus_steps.specs.InnerBus.{inner_of, call_of}
use Rattle.atspi_bus_steps.specs.declared.open_call.OpenCall.{OpenCall}
use Rattle.atspi_bus_steps.proofs.Calls.{calls_stay}
use Rattle.atspi_bus_steps.proofs.Partings.{forgotten-is}
use Rattle.atspi_bus_steps.proofs.inner.Inner.forget.Goals as goal

pub returns : goal.returns
returns c =
    let conn = c.args.conn in
    forgotten-is (inner_of c.args.self.now) conn c.retain-2.new.self.items c.gone.new.self c.drop_conn.new.self (map call_of c.retain.new.self.items) c.close.new.self
    (filter_same _ (λ (x : ℕ). not (x == conn)) _ (λ x b f' r. search rules) _ _ c.retain-2.ensures.filtered)
    c.gone.ensures c.drop_conn.ensures
    (ap (map call_of) (filter_same _ (λ (x : OpenCall). not (x.caller == conn || x.callee == conn)) _ (λ x b f' r. search rules) _ _ c.retain.ensures.filtered)
    ∙ calls_stay conn c.args.self.now.calls.items)
    c.close.ensures
