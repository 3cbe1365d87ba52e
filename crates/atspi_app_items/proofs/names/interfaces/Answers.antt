use Rattle.atspi_app_items.proofs.Named.{all_put}
use Rattle.atspi_app_items.proofs.names.interfaces.Goals as goal

pub returns : goal.returns
returns c =
    all_put c.args.is_root c.args.kinds c.in_ok-names.names c.put.new.names c.put-2.new.names c.put-3.new.names c.put-4.new.names
    c.in_ok-names.ensures c.in_ok-put.ensures c.in_ok-put-2.ensures c.in_ok-put-3.ensures c.in_ok-put-4.ensures
