use Rattle.std.proofs.Common.{rules, ◌==◌, ap, ◌∙◌, w32, SFits}
use Rattle.std.proofs.lemmas.Int.{to_z-of_z}
use Rattle.std.specs.Prelude.{pos}
use Rattle.std.proofs.lemmas.Str.{chars-nil}
use Rattle.atspi_tree_model.specs.Announce.{interfaces_of}
use Rattle.atspi_app_items.proofs.nodes.new_item.Goals as goal

pub returns : goal.returns
returns c = let fits : SFits w32 c.signed-place.result = search rules in λ i. record {
  object = c.in_ok-object.ensures i;
  application = c.in_ok-application.ensures i;
  parent = c.in_ok-above.ensures i;
  index = (to_z-of_z w32 c.signed-place.result fits ∙ c.signed-place.ensures) i;
  children = pos 0;
  interfaces = (c.in_ok-names.ensures ∙ ap (interfaces_of (c.args.node == 0)) c.first_kinds.ensures) i;
  name = c.in_ok-title.ensures i;
  role = c.args.seed.now.role;
  description = (c.in_ok-description.ensures ∙ chars-nil) i;
  states = 1124073728;
}
