use Rattle.std.proofs.Common.{◌≡◌, arith, rules, sym, ◌∙◌, w32, SFits, to_z, of_z}
use Rattle.std.proofs.lemmas.Int.{to_z-of_z}
use Rattle.atspi_types.specs.DataView.{all_data}
use Rattle.atspi_hit_answers.specs.Component.{point}
use Rattle.atspi_hit_answers.proofs.Taken.{point_is}
use Rattle.atspi_hit_answers.proofs.arguments.point_of.Goals as goal

pub returns : goal.returns
returns c =
    let fact : all_data c.args.body.now ≡ point c.in-Some.x c.in-Some-signed.y =
    point_is (all_data c.args.body.now) c.in-Some.x c.in-Some-signed.y c.at.result c.at-2.result c.at-3.result (omega arith) c.at.ensures
    c.at-2.ensures c.at-3.ensures (sym c.signed.ensures ∙ c.in-Some.is) (sym c.signed-2.ensures ∙ c.in-Some-signed.is)
    (sym c.is_of_screen.ensures ∙ c.if-not-is_of_screen.false) in
    let fx : SFits w32 c.in-Some.x = search rules in
    let fy : SFits w32 c.in-Some-signed.y = search rules in
    let ex : to_z w32 (of_z w32 c.in-Some.x) ≡ c.in-Some.x = to_z-of_z w32 c.in-Some.x fx in
    let ey : to_z w32 (of_z w32 c.in-Some-signed.y) ≡ c.in-Some-signed.y = to_z-of_z w32 c.in-Some-signed.y fy in
    cc
