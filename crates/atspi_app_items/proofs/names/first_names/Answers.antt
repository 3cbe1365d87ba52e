use Rattle.atspi_app_items.proofs.Named.{first_put}
use Rattle.atspi_app_items.proofs.names.first_names.Goals as goal

pub returns : goal.returns
returns c =
    first_put c.args.is_root c.args.kinds c.new-names.result c.put.new.names c.put-2.new.names c.put-3.new.names
    c.new-names.ensures c.in_ok-put.ensures c.in_ok-put-2.ensures c.in_ok-put-3.ensures
