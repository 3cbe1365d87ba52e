use Rattle.std.proofs.Common.{rules, ◌≡◌, ◌==◌, Some, sym, ap, ◌∙◌, w32, SFits}
use Rattle.std.proofs.lemmas.Int.{to_z-of_z}
use Rattle.std.specs.Option.{option_map}
use Rattle.std.proofs.lemmas.Bool.{eqb-true}
use Rattle.atspi_tree_model.specs.Announce.{own, interfaces_of}
use Rattle.atspi_tree_model.specs.Row.{ShapeRow}
use Rattle.atspi_tree_model.specs.Tree.{is_shape}
use Rattle.atspi_tree_model.proofs.Found.{count-has, find-has, find-passes}
use Rattle.atspi_app_items.proofs.nodes.node_item.Goals as goal

pub returns : goal.returns
returns c =
    let t = c.args.tree.now in
    let n = c.args.node in
    let o = find-has (is_shape n) t.rows (count-has (is_shape n) t.rows c.requires.there) in
    let row = o.0 in
    let e = o.1 in
    let same : row.node ≡ n = eqb-true row.node n (find-passes (is_shape n) t.rows row e).0 in
    let kinds : row.kinds ≡ c.kinds-kinds.result = (let h = sym (ap (option_map (λ (r : ShapeRow). r.kinds)) e) ∙ c.kinds-kinds.ensures in cc) in
    let name : row.name ≡ c.name.result.now = (let h = sym (ap (option_map (λ (r : ShapeRow). r.name)) e) ∙ c.name.ensures in cc) in
    let description : row.description ≡ c.description.result.now = (let h = sym (ap (option_map (λ (r : ShapeRow). r.description)) e) ∙ c.description.ensures in cc) in
    let role : row.role ≡ c.role-role.result = (let h = sym (ap (option_map (λ (r : ShapeRow). r.role)) e) ∙ c.role-role.ensures in cc) in
    let states : row.states ≡ c.states-states.result = (let h = sym (ap (option_map (λ (r : ShapeRow). r.states)) e) ∙ c.states-states.ensures in cc) in
    let fits : SFits w32 c.args.index = search rules in
    let counted : SFits w32 c.count-children.result = search rules in
    rw e (λ i. record {
      object = (c.in_ok-object.ensures ∙ ap (own c.args.bus.now) (sym same)) i;
      application = c.in_ok-application.ensures i;
      parent = c.in_ok-parent.ensures i;
      index = to_z-of_z w32 c.args.index fits i;
      children = (to_z-of_z w32 c.count-children.result counted ∙ c.count-children.ensures) i;
      interfaces = (c.in_ok-names.ensures ∙ ap (λ m. interfaces_of (m == 0) c.kinds-kinds.result) (sym same) ∙ ap (interfaces_of (row.node == 0)) (sym kinds)) i;
      name = (c.in_ok-title.ensures ∙ sym name) i;
      role = sym role i;
      description = (c.in_ok-description.ensures ∙ sym description) i;
      states = sym states i;
    })
